-- What a program means is near.
use Rattle.std.proofs.Common.{◌≡◌, ℕ, List, [], ◌∷◌, ◌++◌, length, Option, Some, None, Ok, Err, refl, ap, subst, arith}
use Rattle.std.specs.Prelude.{◌<◌, ◌+◌, ◌^◌, nat_lt, ℤ, pos, negsuc, slice_get, unwrap_or}
use Rattle.std.specs.List.{AllByRecursion}
use Rattle.dsde_syntax.specs.declared.decl.Decl.{Decl}
use Rattle.dsde_syntax.specs.declared.decl.Decl.TheVariants as decl
use Rattle.dsde_syntax.specs.declared.decl.Model.{Model}
use Rattle.dsde_syntax.specs.declared.decl.Phase.{Phase}
use Rattle.dsde_syntax.specs.declared.decl.StateDecl.{StateDecl}
use Rattle.dsde_syntax.specs.declared.expr.Expr.{Expr}
use Rattle.dsde_syntax.specs.declared.item.Item.{Item}
use Rattle.dsde_syntax.specs.Grammar.{tokens_of}
use Rattle.dsde_syntax.specs.Places.{decl_span}
use Rattle.dsde_syntax.specs.Shape.{IsShaped}
use Rattle.dsde_values.specs.declared.value.Value.{Value}
use Rattle.dsde_values.specs.declared.when.When.TheVariants.{At}
use Rattle.dsde_faults.specs.declared.end.LeafEnd.{LeafEnd}
use Rattle.dsde_faults.specs.declared.kind.FaultKind.TheVariants.{TimeTooFar, RangeTooLong}
use Rattle.dsde_faults.specs.declared.kind.Site.{Site}
use Rattle.dsde_faults.specs.declared.kind.Site.TheVariants as site
use Rattle.dsde_language.specs.DeclaredModels.{whole_of, Own, owns_of, TopOf, top_in, top_number, body_outs, param_slots}
use Rattle.dsde_language.specs.DeclaredStructures.{place_of_items, structures_of, first_via}
use Rattle.dsde_language.specs.Flow.{lifted}
use Rattle.dsde_language.specs.Functions.{functions_of, mean_of, block_of}
use Rattle.dsde_language.specs.Meaning.{Vars, scene, with_var}
use Rattle.dsde_language.specs.Outcome.{Halt, Fault, Stuck, Outcome, ◌>>=◌, present, int_of, option_of}
use Rattle.dsde_formalism.specs.Leaf as leaf
use Rattle.dsde_formalism.specs.System.{State, Ports, Chosen}
use Rattle.dsde_system.specs.Body.{at_site, vars_of, body_vars, inits_from, after, due_after, due, sends, state_in, moved_by, internal, input_vars, is_flooded, seeing, external}
use Rattle.dsde_system.specs.Program.{component, component_at, plan_at, network_at, args_from, top_of, system}
use Rattle.dsde_cli_spots.specs.Placed.{Ends, IsLeafBelow, IsComponentBelow, IsNetworkBelow, IsSystemBelow}
use Rattle.dsde_cli_spots.proofs.Ending.{IsBelow, ends-then, ends-on, ends-if, leaf-then, each-at}
use Rattle.dsde_cli_spots.proofs.Operators.{present-near, int-near, option-near}
use Rattle.dsde_cli_spots.proofs.Means.{NearMean, NearFunction}
use Rattle.dsde_cli_spots.proofs.Blocks.{lifted-near}
use Rattle.dsde_cli_spots.proofs.Items.{structure-near}
use Rattle.dsde_cli_spots.proofs.Decls.{NearPhase, NearBody, NearItems, NearDecl, decl-grants, functions-near}
use Rattle.dsde_cli_spots.proofs.Spans.{each}

the-top : (own other : TopOf) → (let found : Option TopOf = Some own in found ≡ Some other) → own ≡ other
the-top own other is = cc

there : {A : Type 0} (found : Option A) (own : A) → present found ≡ Ok own → found ≡ Some own
there None own is = cc
there (Some other) own is = cc

module _ (n : ℕ) where
  abbrev B : Halt → Type 0
  B = IsBelow n

  abbrev C : LeafEnd → Type 0
  C = IsLeafBelow n

  site-near : {A : Type 0} (own : Site) (outcome : Outcome A) → Ends B outcome → Ends C (at_site own outcome)
  site-near own (Ok value) near = tt
  site-near own (Err (Fault kind at)) near = near
  site-near own (Err Stuck) near = tt

  after-near : (at : ℕ) → at < n → (time : ℕ) (advance : ℤ) → Ends B (after at time advance)
  after-near at less time (pos number) = ends-if B (nat_lt (time + number) (2 ^ 63)) (Ok (At (time + number))) (Err (Fault TimeTooFar at)) tt less
  after-near at less time (negsuc number) = less

  due-near : (at : ℕ) → at < n → (time : ℕ) (held : Option Value) → Ends B (due_after at time held)
  due-near at less time None = tt
  due-near at less time (Some own) = ends-then B (int_of own) (λ number. after at time number) (int-near n own) (λ number. after-near at less time number)

  module _ (model : Model) where
    abbrev pub Body : Own → Type 0
    Body own = NearBody n (whole_of model) (functions_of model) own.body

    abbrev P : Option Phase → Type 0
    P = NearPhase n (whole_of model) (functions_of model)

    inits-near : (states : List StateDecl) → AllByRecursion (λ (state : StateDecl). NearMean n (mean_of model state.value)) states → (done : State) (vars : Vars) → Ends B (inits_from model done states vars)
    inits-near [] all done vars = tt
    inits-near (state ∷ states) all done vars =
        ends-then B (mean_of model state.value vars) (λ first. inits_from model (done ++ first ∷ []) states (with_var state.name.name first vars)) (all.0.near vars)
        (λ first. inits-near states all.1 (done ++ first ∷ []) (with_var state.name.name first vars))

    module _ (own : Own) (body : Body own) (args : List Value) where
      advance-near : (state : State) (time : ℕ) → Ends B (due model own args state time)
      advance-near state time =
          ends-then B (mean_of model own.body.advance (body_vars model own args state)) (λ advance. option_of advance >>= (λ held. due_after own.body.advance_at time held)) (body.advance.near (body_vars model own args state)) (λ advance.
          ends-then B (option_of advance) (λ held. due_after own.body.advance_at time held) (option-near n advance) (λ held. due-near own.body.advance_at body.advance_at time held))

      sends-by : (phase : Option Phase) → P phase → (state : State) → Ends B (elim phase [
        | None ↦ Ok []
        | Some phase ↦ lifted (block_of model (body_outs model own) phase.stmts (scene (body_vars model own args state) [])) >>= (λ end. Ok end.sends)
      ])
      sends-by None near state = tt
      sends-by (Some phase) near state =
          let ran = block_of model (body_outs model own) phase.stmts (scene (body_vars model own args state) []) in
          ends-then B (lifted ran) (λ end. Ok end.sends) (lifted-near n ran ((near.1 (body_outs model own)).near (scene (body_vars model own args state) []))) (λ end. tt)

      moved-near : (phase : Phase) → P (Some phase) → (vars : Vars) → Ends B (moved_by model own phase vars)
      moved-near phase near vars =
          let ran = block_of model [] phase.stmts (scene vars []) in
          ends-then B (lifted ran) (λ end. Ok (state_in model own end)) (lifted-near n ran ((near.1 []).near (scene vars []))) (λ end. tt)

      internal-by : (phase : Option Phase) → P phase → (state : State) → Ends B (elim phase [
        | None ↦ Ok state
        | Some phase ↦ moved_by model own phase (body_vars model own args state)
      ])
      internal-by None near state = tt
      internal-by (Some phase) near state = moved-near phase near (body_vars model own args state)

      seeing-near : (phase : Phase) → P (Some phase) → (state : State) (elapsed : ℕ) (got : Ports) → Ends B (seeing model own phase args state elapsed got)
      seeing-near phase near state elapsed got =
          ends-if B (is_flooded got) (Err (Fault RangeTooLong phase.at)) (moved_by model own phase (body_vars model own args state ++ input_vars model own elapsed got)) near.0
          (moved-near phase near (body_vars model own args state ++ input_vars model own elapsed got))

      external-by : (phase : Option Phase) → P phase → (state : State) (elapsed : ℕ) (got : Ports) → Ends B (elim phase [
        | None ↦ Ok state
        | Some phase ↦ seeing model own phase args state elapsed got
      ])
      external-by None near state elapsed got = tt
      external-by (Some phase) near state elapsed got = seeing-near phase near state elapsed got

      internal-near : (state : State) → Ends C (at_site site.Internal (internal model own args state))
      internal-near state = site-near site.Internal (internal model own args state) (internal-by own.body.internal body.internal state)

      external-near : (state : State) (elapsed : ℕ) (got : Ports) → Ends C (at_site site.External (external model own args state elapsed got))
      external-near state elapsed got = site-near site.External (external model own args state elapsed got) (external-by own.body.external body.external state elapsed got)

      confluent-by : (phase : Option Phase) → P phase → (state : State) (elapsed : ℕ) (got : Ports) → Ends C (elim phase [
        | Some phase ↦ at_site site.Confluent (seeing model own phase args state elapsed got)
        | None ↦ leaf.◌>>=◌ (at_site site.Internal (internal model own args state)) (λ moved. at_site site.External (external model own args moved 0 got))
      ])
      confluent-by None near state elapsed got =
          leaf-then C (at_site site.Internal (internal model own args state)) (λ moved. at_site site.External (external model own args moved 0 got)) (internal-near state) (λ moved. external-near moved 0 got)
      confluent-by (Some phase) near state elapsed got = site-near site.Confluent (seeing model own phase args state elapsed got) (seeing-near phase near state elapsed got)

      component-near : own.start_at < n → IsComponentBelow n (component model own args)
      component-near less = record {
        place = less;
        init = site-near site.Init _ (inits-near own.body.states body.states [] (vars_of (param_slots model own) args));
        advance = λ state time. site-near site.Advance (due model own args state time) (advance-near state time);
        output = λ state. site-near site.Output (sends model own args state) (sends-by own.body.output body.output state);
        internal = internal-near;
        external = external-near;
        confluent = confluent-by own.body.confluent body.confluent;
      }

    -- ---- the models of a file

    pub record NearOwn (own : Own) : Type 0 where
      pub place : own.at < n
      pub start : own.start_at < n
      pub body : Body own

    abbrev D : Decl → Type 0
    D = NearDecl n (whole_of model) (functions_of model)

    abbrev I : List Item → Type 0
    I = NearItems n (whole_of model) (functions_of model)

    owns-near : (decls : List Decl) → AllByRecursion D decls → AllByRecursion NearOwn (owns_of decls)
    owns-near [] all = tt
    owns-near (decl.Enum name variants ∷ decls) all = owns-near decls all.1
    owns-near (decl.Rec name fields ∷ decls) all = owns-near decls all.1
    owns-near (decl.Func name params ty stmts value ∷ decls) all = owns-near decls all.1
    owns-near (decl.Atomic place name params body ∷ decls) all = (record { place = all.0.parts.0; start = all.0.parts.0; body = all.0.parts.1 }, owns-near decls all.1)
    owns-near (decl.Network place name params ports exec_at body items ∷ decls) all =
        (record { place = all.0.parts.0; start = all.0.parts.1.0; body = all.0.parts.1.1.0 }, owns-near decls all.1)
    owns-near (decl.Top place name args ∷ decls) all = owns-near decls all.1

    top-near : (decls : List Decl) → AllByRecursion D decls → (top : TopOf) → top_in decls ≡ Some top → AllByRecursion (λ (arg : Expr). NearMean n (mean_of model arg)) top.args
    top-near [] all top is = cc
    top-near (decl.Enum name variants ∷ decls) all top is = top-near decls all.1 top is
    top-near (decl.Rec name fields ∷ decls) all top is = top-near decls all.1 top is
    top-near (decl.Func name params ty stmts value ∷ decls) all top is = top-near decls all.1 top is
    top-near (decl.Atomic place name params body ∷ decls) all top is = top-near decls all.1 top is
    top-near (decl.Network place name params ports exec_at body items ∷ decls) all top is = top-near decls all.1 top is
    top-near (decl.Top place name args ∷ decls) all top is =
        subst (λ (own : TopOf). AllByRecursion (λ (arg : Expr). NearMean n (mean_of model arg)) own.args) (the-top (record { name = name.name; args = args }) top is) all.0.parts

    args-near : (args : List Expr) → AllByRecursion (λ (arg : Expr). NearMean n (mean_of model arg)) args → (done : List Value) → Ends B (args_from model done args)
    args-near [] all done = tt
    args-near (arg ∷ args) all done =
        ends-then B (mean_of model arg []) (λ own. args_from model (done ++ own ∷ []) args) (all.0.near []) (λ own. args-near args all.1 (done ++ own ∷ []))

    chosen-near : AllByRecursion D model.decls → Ends B (top_of model)
    chosen-near all =
        ends-on B (present (top_in model.decls)) (λ top. args_from model [] top.args >>= (λ args. Ok (record { model = top_number model; args = args }))) (present-near n (top_in model.decls)) (λ top is.
        ends-then B (args_from model [] top.args) (λ args. Ok (record { model = top_number model; args = args })) (args-near top.args (top-near model.decls all top (there (top_in model.decls) top is)) []) (λ args. tt))

    structures-near : (decls : List Decl) → AllByRecursion D decls → AllByRecursion I (structures_of decls)
    structures-near [] all = tt
    structures-near (decl.Enum name variants ∷ decls) all = structures-near decls all.1
    structures-near (decl.Rec name fields ∷ decls) all = structures-near decls all.1
    structures-near (decl.Func name params ty stmts value ∷ decls) all = structures-near decls all.1
    structures-near (decl.Atomic place name params body ∷ decls) all = ((λ place. tt), structures-near decls all.1)
    structures-near (decl.Network place name params ports exec_at body items ∷ decls) all = (all.0.parts.1.1.1, structures-near decls all.1)
    structures-near (decl.Top place name args ∷ decls) all = structures-near decls all.1

    found-items : (found : Option (List Item)) → ((items : List Item) → found ≡ Some items → I items) → I (unwrap_or found [])
    found-items None own = λ place. tt
    found-items (Some items) own = own items refl

    module _ (callable : AllByRecursion (NearFunction n) (functions_of model)) (all : AllByRecursion D model.decls) (some : 0 < n) where
      component-at : (found : Option Own) → ((own : Own) → found ≡ Some own → NearOwn own) → (args : List Value) → IsComponentBelow n (component_at model found args)
      component-at None near args = record {
        place = some;
        init = tt;
        advance = λ state time. tt;
        output = λ state. tt;
        internal = λ state. tt;
        external = λ state elapsed got. tt;
        confluent = λ state elapsed got. tt;
      }
      component-at (Some own) near args = component-near own (near own refl).body args (near own refl).start

      network-at : (found : Option Own) → ((own : Own) → found ≡ Some own → NearOwn own) → (number : ℕ) (args : List Value) → IsNetworkBelow n (network_at model found number args)
      network-at None near number args = record { place = some; structure = λ state. tt }
      network-at (Some own) near number args =
          let items = unwrap_or (slice_get (structures_of model.decls) number) [] in
          let place = place_of_items (whole_of model) own.ports own.body items in
          let laid = found-items (slice_get (structures_of model.decls) number) (λ items is. each-at I (structures_of model.decls) (structures-near model.decls all) number items is) in
          record {
            place = (near own refl).place;
            structure = λ state.
                site-near site.Structure (plan_at model own number items args state)
                (structure-near n place (functions_of model) callable items (laid place) (first_via model number) (body_vars model own args state));
          }

      system-by : IsSystemBelow n (system model)
      unfolding system
      system-by = record {
        component = λ number args. component-at (slice_get (owns_of model.decls) number.0) (λ own is. each-at NearOwn (owns_of model.decls) (owns-near model.decls all) number.0 own is) args;
        network = λ number args. network-at (slice_get (owns_of model.decls) number.0) (λ own is. each-at NearOwn (owns_of model.decls) (owns-near model.decls all) number.0 own is) number.0 args;
      }

    top-below : AllByRecursion D model.decls → Ends C (system model).top
    unfolding system
    top-below all = site-near site.Top (top_of model) (chosen-near all)

functions-are : (model : Model) → IsShaped model → AllByRecursion (NearFunction (length (tokens_of model))) (functions_of model)
functions-are model shaped = functions-near (length (tokens_of model)) (whole_of model) [] tt model.decls 0 (length (tokens_of model)) shaped.places (omega arith)

decls-are : (model : Model) → IsShaped model → AllByRecursion (NearDecl (length (tokens_of model)) (whole_of model) (functions_of model)) model.decls
decls-are model shaped =
    (each (length (tokens_of model)) decl_span (NearDecl (length (tokens_of model)) (whole_of model) (functions_of model))
    (decl-grants (length (tokens_of model)) (whole_of model) (functions_of model) (functions-are model shaped)) model.decls).grants 0 (length (tokens_of model)) shaped.places (omega arith)

pub tops-below : (model : Model) → IsShaped model → Ends (IsLeafBelow (length (tokens_of model))) (system model).top
tops-below model shaped = top-below (length (tokens_of model)) model (decls-are model shaped)

-- what runs is there only where a text has tokens
some-by : (n : ℕ) (model : Model) (decls : List Decl) → AllByRecursion (NearDecl n (whole_of model) (functions_of model)) decls → model.decls ≡ decls → (chosen : Chosen) → (system model).top ≡ Ok chosen → 0 < n
unfolding system
some-by n model [] all is chosen top = absurd (none (top_in model.decls) (ap top_in is) top)
  where
    none : (found : Option TopOf) → found ≡ None → at_site site.Top (present found >>= (λ top. args_from model [] top.args >>= (λ args. Ok (record { model = top_number model; args = args })))) ≡ Ok chosen → ⊥
    none None is top = cc
    none (Some own) is top = cc
some-by n model (own ∷ decls) all is chosen top = all.0.some

pub systems-below : (model : Model) (chosen : Chosen) → IsShaped model → (system model).top ≡ Ok chosen → IsSystemBelow (length (tokens_of model)) (system model)
systems-below model chosen shaped top =
    system-by (length (tokens_of model)) model (functions-are model shaped) (decls-are model shaped) (some-by (length (tokens_of model)) model model.decls (decls-are model shaped) refl chosen top)
