-- Each declaration of a file whose places are those of its tokens is near.
use Rattle.std.proofs.Common.{◌≡◌, ℕ, List, [], ◌∷◌, length, map, Option, Some, None, Err, arith}
use Rattle.std.specs.Prelude.{◌≤◌, ◌<◌, ◌==◌}
use Rattle.std.specs.List.{AllByRecursion}
use Rattle.dsde_syntax.specs.declared.decl.Body.{Body}
use Rattle.dsde_syntax.specs.declared.decl.Decl.{Decl}
use Rattle.dsde_syntax.specs.declared.decl.Decl.TheVariants as decl
use Rattle.dsde_syntax.specs.declared.decl.Phase.{Phase}
use Rattle.dsde_syntax.specs.declared.decl.PortDecl.{PortDecl}
use Rattle.dsde_syntax.specs.declared.decl.StateDecl.{StateDecl}
use Rattle.dsde_syntax.specs.declared.decl.Typed.{Typed}
use Rattle.dsde_syntax.specs.declared.expr.Expr.{Expr}
use Rattle.dsde_syntax.specs.declared.id.Id.{Id}
use Rattle.dsde_syntax.specs.declared.item.Item.{Item}
use Rattle.dsde_syntax.specs.declared.stmt.Stmt.{Stmt}
use Rattle.dsde_syntax.specs.Places.{id_span, typed_span, port_span, state_span, phase_span, body_span, exec_span, decl_span, expr_span, all_spans}
use Rattle.dsde_values.specs.declared.types.Field.{Field}
use Rattle.dsde_values.specs.declared.value.Value.{Value}
use Rattle.dsde_language.specs.declared.known.Known.{Known}
use Rattle.dsde_language.specs.DeclaredStructures.{Place, place_of_items}
use Rattle.dsde_executive_plans.specs.Layout.{lay}
use Rattle.dsde_language.specs.Flow.{lifted}
use Rattle.dsde_language.specs.Functions.{bound_params, body_of, run_func, with_function, functions_from}
use Rattle.dsde_language.specs.Meaning.{Function, Vars, block, mean, scene}
use Rattle.dsde_language.specs.Outcome.{Halt, Stuck}
use Rattle.dsde_cli_spots.specs.Placed.{Ends}
use Rattle.dsde_cli_spots.proofs.Ending.{IsBelow, ends-then, ends-if}
use Rattle.dsde_cli_spots.proofs.Means.{NearMean, NearFunction}
use Rattle.dsde_cli_spots.proofs.Exprs.{expr-near, type-rises}
use Rattle.dsde_cli_spots.proofs.Blocks.{NearWalk, lifted-near, block-near}
use Rattle.dsde_cli_spots.proofs.Items.{NearLay, each-behind, items-grant}
use Rattle.dsde_cli_spots.proofs.Spans.{Grants, none, skip, some, more, both, at, before, within, each, each-apart, for-each, between}

module _ (n : ℕ) where
  abbrev B : Halt → Type 0
  B = IsBelow n

  -- parts that have no faults
  id-rises : (id : Id) → Grants n (id_span id) (Unit {0})
  id-rises id = more n (at n id.at) (λ less. tt)

  typed-rises : (typed : Typed) → Grants n (typed_span typed) (Unit {0})
  typed-rises typed = more n (both n (both n (at n typed.name.at) (skip n)) (type-rises n typed.ty)) (λ own. tt)

  port-rises : (port : PortDecl) → Grants n (port_span port) (Unit {0})
  port-rises port = more n (both n (both n (both n (both n (skip n) (at n port.name.at)) (skip n)) (type-rises n port.ty)) (skip n)) (λ own. tt)

  -- there is a token
  some-by : (place : ℕ) → place < n → 0 < n
  some-by place less = omega arith

  module _ (known : Known) (functions : List Function) where
    abbrev pub NearPhase : Option Phase → Type 0
    NearPhase None = Unit {0}
    NearPhase (Some phase) = (phase.at < n) × ((outs : List Field) → NearWalk n (block known functions outs phase.stmts))

    pub record NearBody (body : Body) : Type 0 where
      pub states : AllByRecursion (λ (state : StateDecl). NearMean n (mean known functions state.value)) body.states
      pub advance_at : body.advance_at < n
      pub advance : NearMean n (mean known functions body.advance)
      pub output : NearPhase body.output
      pub internal : NearPhase body.internal
      pub external : NearPhase body.external
      pub confluent : NearPhase body.confluent

    abbrev pub NearItems : List Item → Type 0
    NearItems items = (place : Place) → AllByRecursion (NearLay n) (map (lay place functions) items)

    abbrev pub NearParts : Decl → Type 0
    NearParts (decl.Enum name variants) = Unit {0}
    NearParts (decl.Rec name fields) = Unit {0}
    NearParts (decl.Func name params ty stmts value) = NearWalk n (block known functions [] stmts) × NearMean n (mean known functions value)
    NearParts (decl.Atomic place name params body) = (place < n) × NearBody body
    NearParts (decl.Network place name params ports exec_at body items) = (place < n) × ((exec_at < n) × (NearBody body × NearItems items))
    NearParts (decl.Top place name args) = AllByRecursion (λ (arg : Expr). NearMean n (mean known functions arg)) args

    pub record NearDecl (own : Decl) : Type 0 where
      pub some : 0 < n
      pub parts : NearParts own

    module _ (callable : AllByRecursion (NearFunction n) functions) where
      state-grants : (state : StateDecl) → Grants n (state_span state) (NearMean n (mean known functions state.value))
      state-grants state =
          more n (both n (both n (both n (both n (both n (both n (skip n) (at n state.name.at)) (skip n)) (type-rises n state.ty)) (skip n)) (expr-near n known functions callable state.value)) (skip n)) (λ own. own.0.1)

      phase-grants : (phase : Option Phase) → Grants n (phase_span phase) (NearPhase phase)
      phase-grants None = none n
      phase-grants (Some phase) =
          both n (at n phase.at) (within n (for-each n (λ (outs : List Field). NearWalk n (block known functions outs phase.stmts)) [] (λ outs. block-near n known functions callable outs phase.stmts)))

      body-grants : (body : Body) → Grants n (body_span body) (NearBody body)
      body-grants body =
          more n (both n (both n (both n (both n (both n
          (each n port_span (λ port. Unit {0}) port-rises body.ports)
          (each n state_span (λ (state : StateDecl). NearMean n (mean known functions state.value)) state-grants body.states))
          (at n body.advance_at))
          (expr-near n known functions callable body.advance))
          (skip n))
          (both n (both n (both n (phase-grants body.output) (phase-grants body.internal)) (phase-grants body.external)) (phase-grants body.confluent)))
          (λ own. record {
            states = own.0.0.0.0.1;
            advance_at = own.0.0.0.1;
            advance = own.0.0.1;
            output = own.1.0.0.0;
            internal = own.1.0.0.1;
            external = own.1.0.1;
            confluent = own.1.1;
          })

      exec-grants : (place : ℕ) (ports : List PortDecl) (body : Body) (items : List Item) → Grants n (exec_span place body items) ((place < n) × (NearBody body × NearItems items))
      exec-grants place ports body items =
          more n (both n (at n place) (within n (both n (both n (body-grants body) (skip n))
          (within n (for-each n (λ (place : Place). AllByRecursion (NearLay n) (map (lay place functions) items)) (place_of_items known ports body items) (λ place. items-grant n place functions callable items))))))
          (λ own. (own.0, (own.1.0.0, own.1.1)))

      pub decl-grants : (own : Decl) → Grants n (decl_span own) (NearDecl own)
      decl-grants (decl.Enum name variants) =
          more n (both n (both n (some n) (at n name.at)) (within n (each-apart n id_span (λ id. Unit {0}) id-rises variants))) (λ own. record { some = own.0.0; parts = tt })
      decl-grants (decl.Rec name fields) =
          more n (both n (both n (some n) (at n name.at)) (within n (each-apart n typed_span (λ typed. Unit {0}) typed-rises fields))) (λ own. record { some = own.0.0; parts = tt })
      decl-grants (decl.Func name params ty stmts value) =
          more n (both n (both n (both n (both n (both n (some n) (at n name.at)) (within n (each-apart n typed_span (λ typed. Unit {0}) typed-rises params))) (skip n)) (type-rises n ty))
          (within n (both n (both n (both n (block-near n known functions callable [] stmts) (skip n)) (expr-near n known functions callable value)) (skip n))))
          (λ own. record { some = own.0.0.0.0.0; parts = (own.1.0.0.0, own.1.0.1) })
      decl-grants (decl.Atomic place name params body) =
          more n (both n (both n (both n (at n place) (at n name.at)) (within n (each-apart n typed_span (λ typed. Unit {0}) typed-rises params))) (within n (body-grants body)))
          (λ own. record { some = some-by place own.0.0.0; parts = (own.0.0.0, own.1) })
      decl-grants (decl.Network place name params ports exec_at body items) =
          more n (both n (both n (both n (at n place) (at n name.at)) (within n (each-apart n typed_span (λ typed. Unit {0}) typed-rises params)))
          (within n (both n (each n port_span (λ port. Unit {0}) port-rises ports) (exec-grants exec_at ports body items))))
          (λ own. record { some = some-by place own.0.0.0; parts = (own.0.0.0, own.1.1) })
      decl-grants (decl.Top place name args) =
          more n (both n (both n (both n (at n place) (at n name.at)) (within n (each-apart n expr_span (λ (arg : Expr). NearMean n (mean known functions arg)) (expr-near n known functions callable) args))) (skip n))
          (λ own. record { some = some-by place own.0.0.0; parts = own.0.1 })

  -- ---- functions

  module _ (known : Known) where
    func-near : (before : List Function) (params : List Typed) (stmts : List Stmt) (value : Expr)
        → NearWalk n (block known before [] stmts) → NearMean n (mean known before value) → (values : List Value) → Ends B (run_func known before params stmts value values)
    func-near before params stmts value body own values =
        let vars : Vars = bound_params params values in
        ends-if B (length values == length params) (body_of known before stmts value vars) (Err Stuck)
        (ends-then B (lifted (block known before [] stmts (scene vars []))) (λ after. mean known before value after.vars) (lifted-near n (block known before [] stmts (scene vars [])) (body.near (scene vars []))) (λ after. own.near after.vars)) tt

    with-near : (before : List Function) → AllByRecursion (NearFunction n) before → (own : Decl) → NearDecl known before own → AllByRecursion (NearFunction n) (with_function known before own)
    with-near before all (decl.Enum name variants) near = all
    with-near before all (decl.Rec name fields) near = all
    with-near before all (decl.Func name params ty stmts value) near =
        each-behind (NearFunction n) before (record { name = name.name; run = run_func known before params stmts value }) all
        (record { near = func-near before params stmts value near.parts.0 near.parts.1 })
    with-near before all (decl.Atomic place name params body) near = all
    with-near before all (decl.Network place name params ports exec_at body items) near = all
    with-near before all (decl.Top place name args) near = all

    decls-rise : (decls : List Decl) → Grants n (all_spans (map decl_span decls)) (AllByRecursion (λ (own : Decl). Unit {0}) decls)
    decls-rise decls = each n decl_span (λ (own : Decl). Unit {0}) (λ own. more n (decl-grants known [] tt own) (λ near. tt)) decls

    pub functions-near : (before : List Function) → AllByRecursion (NearFunction n) before → (decls : List Decl) (i j : ℕ) → all_spans (map decl_span decls) i ≡ Some j → j ≤ n
        → AllByRecursion (NearFunction n) (functions_from known before decls)
    functions-near before all [] i j is less = all
    functions-near before all (own ∷ decls) i j is less =
        let way = between (decl_span own i) (all_spans (map decl_span decls)) j is in
        let back = (decls-rise decls).rises way.middle j way.right in
        let fits : way.middle ≤ n = omega arith in
        let near = (decl-grants known before all own).grants i way.middle way.left fits in
        functions-near (with_function known before own) (with-near before all own near) decls way.middle j way.right less
