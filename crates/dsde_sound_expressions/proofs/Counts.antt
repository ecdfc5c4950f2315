-- How many translations a piece of text has: expressions, blocks and bodies have none.
use Rattle.std.proofs.Common.{◌≡◌, ℕ, ◌+◌, true, false, List, [], ◌∷◌, map, length, Option, Some, None, refl, sym, ap, subst, ◌∙◌, arith}
use Rattle.std.proofs.lemmas.List.{length-append}
use Rattle.dsde_language.specs.given.syntax.expr_Expr.{Expr}
use Rattle.dsde_language.specs.given.syntax.stmt_Stmt.{Stmt}
use Rattle.dsde_language.specs.given.syntax.stmt_StmtArm.{StmtArm}
use Rattle.dsde_language.specs.given.syntax.stmt_Stmt_TheOpen.{Stmt-F, StmtArm-F}
use Rattle.dsde_language.specs.given.syntax.stmt_Stmt_TheViews.{roll-Stmt, roll-StmtArm}
use Rattle.dsde_language.specs.given.syntax.stmt_Stmt_TheFolds.{fold-StmtArm, map-Stmt, map-StmtArm, fold-roll-Stmt, fold-roll-StmtArm, ind-Stmt}
use Rattle.dsde_language.specs.given.syntax.decl_Body.{Body}
use Rattle.dsde_language.specs.given.syntax.decl_Phase.{Phase}
use Rattle.dsde_language.specs.given.syntax.decl_StateDecl.{StateDecl}
use Rattle.dsde_language.specs.given.syntax.decl_Typed.{Typed}
use Rattle.dsde_language.specs.given.values.types_Field.{Field}
use Rattle.dsde_language.specs.given.values.types_Ty.{Ty}
use Rattle.dsde_language.specs.declared.known.Known.{Known}
use Rattle.dsde_language.specs.RuleTables.{by_text}
use Rattle.dsde_language.specs.declared.act.Act.{Act}
use Rattle.dsde_language.specs.declared.act.Act.TheVariants as act
use Rattle.dsde_language.specs.declared.act.ActArm.{ActArm}
use Rattle.dsde_language.specs.declared.code.Code.{Code}
use Rattle.dsde_language.specs.declared.node_ids.BlockId.{BlockId}
use Rattle.dsde_language.specs.declared.node_ids.ExprId.{ExprId}
use Rattle.dsde_language.specs.Names.{Scope, with_slots, slot_of}
use Rattle.dsde_language.specs.Typing.{item_in}
use Rattle.dsde_language.specs.Expressions.{Resolved, resolve, expr_id}
use Rattle.dsde_language.specs.Items.{resolve_all}
use Rattle.dsde_language.specs.Pieces.{Block, Next, Step, ◌>>=◌, behind, give, all, maybe, expr, bound, binding, seeing, inside, over, braced}
use Rattle.dsde_language.specs.DeclaredModels.{typed_fields, port_fields}
use Rattle.dsde_language.specs.Statements.{Blocks, FuncParts, func_parts, resolve_func, input_fields, phase_at, resolve_states, resolve_phase, resolve_blocks, resolve_body, body_scope, resolve_stmt, resolve_stmts, stmt_step, arm_step}

-- a piece of text with this number of translations
pub record Counts {A : Type 0} (step : Step A) (count : ℕ) : Type 0 where
  pub has : (scope : Scope) (next : Next) → length (step scope next).vias ≡ count

pub counts-as : {A : Type 0} (step : Step A) (one other : ℕ) → Counts step one → one ≡ other → Counts step other
counts-as step one other own same = subst (λ (count : ℕ). Counts step count) same own

pub counts-give : {A : Type 0} (own : A) → Counts (give own) 0
counts-give own = record { has = λ scope next. refl }

pub counts-then : {A B : Type 0} (first : Step A) (more : A → Step B) (one other : ℕ) → Counts first one → ((own : A) → Counts (more own) other) → Counts (first >>= more) (one + other)
counts-then first more one other own each = record {
  has = λ scope next.
      let here = first scope next in
      let last = more here.own here.scope (behind next here) in
      length-append here.vias last.vias
      ∙ ap (λ (count : ℕ). count + length last.vias) (own.has scope next)
      ∙ ap (λ (count : ℕ). one + count) ((each here.own).has here.scope (behind next here));
}

pub counts-expr : {A : Type 0} (resolved : Resolved) (more : ExprId → Ty → Step A) (count : ℕ) → ((own : ExprId) (ty : Ty) → Counts (more own ty) count) → Counts (expr resolved more) count
counts-expr resolved more count each = record {
  has = λ scope next. (each (expr_id next.node) (resolved.ty scope)).has scope (record next { node = next.node + length (resolved.nodes scope next.node) });
}

pub counts-bound : {A : Type 0} (name : List ℕ) (ty : Ty) (own : A) → Counts (bound name ty own) 0
counts-bound name ty own = record { has = λ scope next. refl }

pub counts-binding : {A : Type 0} (name : List ℕ) (ty : Ty) (step : Step A) (count : ℕ) → Counts step count → Counts (binding name ty step) count
counts-binding name ty step count own = record { has = λ scope next. own.has _ next }

pub counts-inside : {A : Type 0} (step : Step A) (count : ℕ) → Counts step count → Counts (inside step) count
counts-inside step count own = record { has = λ scope next. own.has scope next }

pub counts-over : {A : Type 0} (slots : Scope) (step : Step A) (count : ℕ) → Counts step count → Counts (over slots step) count
counts-over slots step count own = record { has = λ scope next. own.has slots next }

counts-braced : (body : Step Block) → Counts body 0 → Counts (braced body) 0
counts-braced body own = record { has = λ scope next. own.has scope (record next { block = next.block + 1 }) }

pub counts-maybe : {A : Type 0} (part : Step A) (count : ℕ) → Counts part count → Counts (maybe (Some part)) count
counts-maybe part count own =
    counts-as (maybe (Some part)) (count + 0) count (counts-then part (λ own. give (Some own)) count 0 own (λ made. counts-give (Some made))) (omega arith)

pub counts-none : {A : Type 0} → Counts (maybe {A = A} None) 0
counts-none = record { has = λ scope next. refl }

pub counts-first : {A : Type 0} (first : Step A) (rest : List (Step A)) (one other : ℕ) → Counts first one → Counts (all rest) other → Counts (all (first ∷ rest)) (one + other)
counts-first first rest one other own others =
    counts-as (all (first ∷ rest)) (one + (other + 0)) (one + other)
    (counts-then first (λ made. all rest >>= (λ more. give (made ∷ more))) one (other + 0) own
    (λ made. counts-then (all rest) (λ more. give (made ∷ more)) other 0 others (λ more. counts-give (made ∷ more))))
    (omega arith)

module _ (known : Known) where
  pub args-count : (args : List Expr) → Counts (resolve_all known args) 0
  args-count [] = counts-give []
  args-count (own ∷ args) =
      counts-first (expr (resolve known own) (λ value ty. give value)) (map (λ own. expr (resolve known own) (λ value ty. give value)) args) 0 0
      (counts-expr (resolve known own) (λ value ty. give value) 0 (λ value ty. counts-give value)) (args-count args)

  module _ (outs : List Field) where
    abbrev R : Stmt → Step Act
    R = resolve_stmt known outs

    abbrev RA : StmtArm → Step ActArm
    RA = fold-StmtArm (Step Act) (Step ActArm) (stmt_step known outs) (arm_step known)

    -- a statement beside its claim
    abbrev S : Type 0
    S = (stmt : Stmt) × Counts (R stmt) 0

    abbrev A : Type 0
    A = (arm : StmtArm) × Counts (RA arm) 0

    body-count : (body : List S) → Counts (all (map R (map (λ (own : S). own.0) body))) 0
    body-count [] = counts-give []
    body-count (own ∷ body) = counts-first (R own.0) (map R (map (λ (own : S). own.0) body)) 0 0 own.1 (body-count body)

    arms-count : (arms : List A) → Counts (all (map RA (map (λ (own : A). own.0) arms))) 0
    arms-count [] = counts-give []
    arms-count (own ∷ arms) = counts-first (RA own.0) (map RA (map (λ (own : A). own.0) arms)) 0 0 own.1 (arms-count arms)

    stmt-roll : (x : Stmt-F Stmt StmtArm) → Counts (stmt_step known outs (map-Stmt Stmt StmtArm (Step Act) (Step ActArm) R RA x)) 0 → Counts (R (roll-Stmt x)) 0
    stmt-roll x own = subst (λ (step : Step Act). Counts step 0) (sym (fold-roll-Stmt (Step Act) (Step ActArm) (stmt_step known outs) (arm_step known) x)) own

    arm-roll : (x : StmtArm-F Stmt StmtArm) → Counts (arm_step known (map-StmtArm Stmt StmtArm (Step Act) (Step ActArm) R RA x)) 0 → Counts (RA (roll-StmtArm x)) 0
    arm-roll x own = subst (λ (step : Step ActArm). Counts step 0) (sym (fold-roll-StmtArm (Step Act) (Step ActArm) (stmt_step known outs) (arm_step known) x)) own

    last-count : (made : List ActArm) (last : Option (Step BlockId)) → Counts (maybe last) 0 → Counts (maybe last >>= (λ own. give (act.If made own))) 0
    last-count made last own = counts-then (maybe last) (λ own. give (act.If made own)) 0 0 own (λ other. counts-give (act.If made other))

    stmt-case : (y : Stmt-F S A) → Counts (R (roll-Stmt (map-Stmt S A Stmt StmtArm (λ own. own.0) (λ own. own.0) y))) 0
    stmt-case (Stmt-F.Let mutable name value) = stmt-roll (Stmt-F.Let mutable name value)
        (counts-expr (resolve known value) (λ own ty. bound name.name ty (act.Let own)) 0 (λ own ty. counts-bound name.name ty (act.Let own)))
    stmt-case (Stmt-F.Set name value) = stmt-roll (Stmt-F.Set name value)
        (counts-expr (resolve known value) (λ own ty. seeing (λ scope. give (act.Set (slot_of scope name.name) own))) 0 (λ own ty. record { has = λ scope next. refl }))
    stmt-case (Stmt-F.Send port value) = stmt-roll (Stmt-F.Send port value)
        (counts-expr (resolve known value) (λ own ty. give (act.Send (slot_of outs port.name) own)) 0 (λ own ty. counts-give (act.Send (slot_of outs port.name) own)))
    stmt-case (Stmt-F.If arms None) = stmt-roll (Stmt-F.If (map (λ (own : A). own.0) arms) None)
        (counts-then (all (map RA (map (λ (own : A). own.0) arms))) (λ own. maybe None >>= (λ last. give (act.If own last))) 0 0 (arms-count arms)
        (λ made. last-count made None counts-none))
    stmt-case (Stmt-F.If arms (Some body)) = stmt-roll (Stmt-F.If (map (λ (own : A). own.0) arms) (Some (map (λ (own : S). own.0) body)))
        (let last : Step BlockId = braced (all (map R (map (λ (own : S). own.0) body))) in
        counts-then (all (map RA (map (λ (own : A). own.0) arms))) (λ own. maybe (Some last) >>= (λ last. give (act.If own last))) 0 0 (arms-count arms)
        (λ made. last-count made (Some last) (counts-maybe last 0 (counts-braced (all (map R (map (λ (own : S). own.0) body))) (body-count body)))))
    stmt-case (Stmt-F.For name list body) = stmt-roll (Stmt-F.For name list (map (λ (own : S). own.0) body))
        (counts-expr (resolve known list) (λ own ty. braced (binding name.name (item_in ty) (all (map R (map (λ (own : S). own.0) body)))) >>= (λ block. give (act.For own block))) 0
        (λ own ty.
        let inner : Step Block = binding name.name (item_in ty) (all (map R (map (λ (own : S). own.0) body))) in
        counts-then (braced inner) (λ block. give (act.For own block)) 0 0
        (counts-braced inner (counts-binding name.name (item_in ty) (all (map R (map (λ (own : S). own.0) body))) 0 (body-count body)))
        (λ block. counts-give (act.For own block))))

    arm-case : (y : StmtArm-F S A) → Counts (RA (roll-StmtArm (map-StmtArm S A Stmt StmtArm (λ own. own.0) (λ own. own.0) y))) 0
    arm-case y = arm-roll (record { cond = y.cond; body = map (λ (own : S). own.0) y.body })
        (counts-expr (resolve known y.cond) (λ cond ty. braced (all (map R (map (λ (own : S). own.0) y.body))) >>= (λ block. give (record { cond = cond; then = block }))) 0
        (λ cond ty.
        counts-then (braced (all (map R (map (λ (own : S). own.0) y.body)))) (λ block. give (let made : ActArm = record { cond = cond; then = block } in made)) 0 0
        (counts-braced (all (map R (map (λ (own : S). own.0) y.body))) (body-count y.body))
        (λ block. counts-give (let made : ActArm = record { cond = cond; then = block } in made))))

    stmt-count : (stmt : Stmt) → Counts (R stmt) 0
    stmt-count = ind-Stmt (λ (stmt : Stmt). Counts (R stmt) 0) (λ (arm : StmtArm). Counts (RA arm) 0)
        (λ x y is. subst (λ (z : Stmt-F Stmt StmtArm). Counts (R (roll-Stmt z)) 0) is (stmt-case y))
        (λ x y is. subst (λ (z : StmtArm-F Stmt StmtArm). Counts (RA (roll-StmtArm z)) 0) is (arm-case y))

    stmts-count : (stmts : List Stmt) → Counts (resolve_stmts known outs stmts) 0
    stmts-count [] = counts-give []
    stmts-count (stmt ∷ stmts) = counts-first (R stmt) (map R stmts) 0 0 (stmt-count stmt) (stmts-count stmts)

  pub func-count : (params : List Typed) (stmts : List Stmt) (value : Expr) → Counts (resolve_func known params stmts value) 0
  func-count params stmts value =
      let more : Block → Step FuncParts = λ acts. expr (resolve known value) (λ own ty. give (record { acts = acts; value = own })) in
      let inner : Counts (func_parts known stmts value) 0 =
      counts-then (resolve_stmts known [] stmts) more 0 0 (stmts-count [] stmts)
      (λ acts. counts-expr (resolve known value) (λ own ty. give (record { acts = acts; value = own })) 0 (λ own ty. counts-give (record { acts = acts; value = own }))) in
      record { has = λ scope next. inner.has (with_slots [] (typed_fields known params)) (record next { block = next.block + 1 }) }

  states-count : (states : List StateDecl) → Counts (resolve_states known states) 0
  states-count [] = counts-give []
  states-count (state ∷ states) =
      let ty : Ty = by_text known.words state.ty in
      counts-expr (resolve known state.value) (λ own _. binding state.name.name ty (resolve_states known states) >>= (λ others. give (own ∷ others))) 0
      (λ own _.
      counts-then (binding state.name.name ty (resolve_states known states)) (λ others. give (own ∷ others)) 0 0
      (counts-binding state.name.name ty (resolve_states known states) 0 (states-count states))
      (λ others. counts-give (own ∷ others)))

  phase-count : (outs : List Field) (scope : Scope) (phase : Option Phase) → Counts (resolve_phase known outs scope phase) 0
  phase-count outs scope None = counts-none
  phase-count outs scope (Some own) =
      let block : Step BlockId = braced (resolve_stmts known outs own.stmts) in
      counts-maybe (over scope block) 0 (counts-over scope block 0 (counts-braced (resolve_stmts known outs own.stmts) (stmts-count outs own.stmts)))

  blocks-count : (scope : Scope) (body : Body) → Counts (resolve_blocks known scope body) 0
  blocks-count scope body =
      let moved : Scope = with_slots scope (input_fields (port_fields known false body.ports)) in
      let outs : Scope = with_slots [] (port_fields known true body.ports) in
      let made : Option BlockId → Option BlockId → Option BlockId → Option BlockId → Step Blocks =
      λ output internal external confluent. give (record { output = output; internal = internal; external = external; confluent = confluent }) in
      let three : Option BlockId → Option BlockId → Option BlockId → Step Blocks =
      λ output internal external. resolve_phase known [] moved body.confluent >>= made output internal external in
      let two : Option BlockId → Option BlockId → Step Blocks = λ output internal. resolve_phase known [] moved body.external >>= three output internal in
      let one : Option BlockId → Step Blocks = λ output. resolve_phase known [] scope body.internal >>= two output in
      counts-then (resolve_phase known outs scope body.output) one 0 0 (phase-count outs scope body.output)
      (λ output. counts-then (resolve_phase known [] scope body.internal) (two output) 0 0 (phase-count [] scope body.internal)
      (λ internal. counts-then (resolve_phase known [] moved body.external) (three output internal) 0 0 (phase-count [] moved body.external)
      (λ external. counts-then (resolve_phase known [] moved body.confluent) (made output internal external) 0 0 (phase-count [] moved body.confluent)
      (λ confluent. record { has = λ scope next. refl }))))

  module _ (params : List Typed) (at : ℕ) (body : Body) where
    abbrev slots : Scope
    slots = body_scope known params body

    abbrev states_step : Step (List ExprId)
    states_step = over (with_slots [] (typed_fields known params)) (resolve_states known body.states)

    abbrev advance_step : Step ExprId
    advance_step = over slots (expr (resolve known body.advance) (λ own ty. give own))

    abbrev code_of : List ExprId → ExprId → Blocks → Step Code
    code_of inits advance blocks = give (record {
      start_at = at;
      advance_at = body.advance_at;
      external_at = phase_at body.external;
      confluent_at = phase_at body.confluent;
      inits = inits;
      advance = advance;
      output = blocks.output;
      internal = blocks.internal;
      external = blocks.external;
      confluent = blocks.confluent;
    })

    abbrev behind_advance : List ExprId → ExprId → Step Code
    behind_advance inits advance = resolve_blocks known slots body >>= code_of inits advance

    abbrev behind_states : List ExprId → Step Code
    behind_states inits = advance_step >>= behind_advance inits

    pub body-counts : Counts (resolve_body known params at body) 0
    body-counts =
        counts-then states_step behind_states 0 0 (counts-over (with_slots [] (typed_fields known params)) (resolve_states known body.states) 0 (states-count body.states))
        (λ inits. counts-then advance_step (behind_advance inits) 0 0
        (counts-over slots (expr (resolve known body.advance) (λ own ty. give own)) 0 (counts-expr (resolve known body.advance) (λ own ty. give own) 0 (λ own ty. counts-give own)))
        (λ advance. counts-then (resolve_blocks known slots body) (code_of inits advance) 0 0 (blocks-count slots body) (λ blocks. record { has = λ scope next. refl })))
