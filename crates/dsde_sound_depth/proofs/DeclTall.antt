-- In no declaration of a model in which nothing is wrong more than 512 conditions nest.
use Rattle.std.proofs.Common.{◌≡◌, ℕ, ◌≤◌, Bool, true, false, List, [], ◌∷◌, ◌++◌, map, Option, Some, None, Result, Ok, Err, subst, arith}
use Rattle.std.specs.Prelude.{max, nat_lt, All, slice_get, if◌then◌else◌}
use Rattle.std.proofs.lemmas.Bool.Decides.{nat_tests}
use Rattle.std.proofs.lemmas.List.Elements.{All-push}
use Rattle.std.proofs.lemmas.Option.{slice_get_within, get_or_from_slice_get}
use Rattle.dsde_syntax.specs.declared.id.Id.{Id}
use Rattle.dsde_syntax.specs.declared.type_name.TypeName.{TypeName}
use Rattle.dsde_syntax.specs.declared.expr.Expr.{Expr}
use Rattle.dsde_syntax.specs.declared.stmt.Stmt.{Stmt}
use Rattle.dsde_syntax.specs.declared.item.Item.{Item}
use Rattle.dsde_syntax.specs.declared.decl.Body.{Body}
use Rattle.dsde_syntax.specs.declared.decl.Decl.{Decl}
use Rattle.dsde_syntax.specs.declared.decl.Decl.TheVariants as decl
use Rattle.dsde_syntax.specs.declared.decl.Model.{Model}
use Rattle.dsde_syntax.specs.declared.decl.Phase.{Phase}
use Rattle.dsde_syntax.specs.declared.decl.PortDecl.{PortDecl}
use Rattle.dsde_syntax.specs.declared.decl.StateDecl.{StateDecl}
use Rattle.dsde_syntax.specs.declared.decl.Typed.{Typed}
use Rattle.dsde_values.specs.declared.types.Ty.{Ty}
use Rattle.dsde_values.specs.declared.types.Ty.TheVariants as ty
use Rattle.dsde_names.specs.Table.{place_of, is_among}
use Rattle.dsde_language.specs.declared.known.Around.{Around}
use Rattle.dsde_language.specs.declared.known.Known.{Known}
use Rattle.dsde_language.specs.declared.known.Site.{Site}
use Rattle.dsde_language.specs.declared.signatures.Func.{Func}
use Rattle.dsde_language.specs.declared.signatures.Port.{Port}
use Rattle.dsde_language.specs.declared.wrong.Wrong.{Wrong}
use Rattle.dsde_language.specs.declared.wrong.WrongKind.TheVariants.{Limit}
use Rattle.dsde_language.specs.Steps.{within, above}
use Rattle.dsde_language.specs.Types.{wanted}
use Rattle.dsde_language.specs.RuleTables.{added, func_name, known_of}
use Rattle.dsde_language.specs.Judge.{Scope, judge, type_of}
use Rattle.dsde_language.specs.Blocks.{walk, params_all, ports_all, around_func, return_of, func_height, func_of, new_state, state_of, inputs_seen, phase_of, moving, advance_of, move_of, inputs_of, phases_of, external_of, body_of, body_names}
use Rattle.dsde_language.specs.RuleStructures.{enter_all, enter, item_walk, structure_of}
use Rattle.dsde_language.specs.Rules.{apart_all, distinct, record_rule, around_with, atomic_rule, inside_rule, network_rule, top_rule, decl_rule, decls_rule, top_rules, rules, first_wrong}
use Rattle.dsde_sound_depth.proofs.Nests.{most, nest, stmt_nest, item_nest, state_nest, phase_nest, body_nest, decl_nest}
use Rattle.dsde_sound_depth.proofs.Sure.{Sure, follow, pass, done, failed, weaker, tested, Under, under-zero, under-both, under-left, under-right, under-above}
use Rattle.dsde_sound_depth.proofs.FormsTall.{HasHeights}
use Rattle.dsde_sound_depth.proofs.ExprHeights.{expr-tall}
use Rattle.dsde_sound_depth.proofs.StmtTall.{WalkTall, AllWalksTall, walk_all-tall, inner-tall, stmt-tall}
use Rattle.dsde_sound_depth.proofs.ItemTall.{args-tall, item-tall}

-- each of some functions has a height
abbrev pub AllHigh : List Func → Type 0
AllHigh = All (λ (func : Func). 1 ≤ func.height)

-- so one that is found has one
found-high : (funcs : List Func) → AllHigh funcs → (found : Option ℕ) (func : Func) → elim found [ None ↦ None | Some place ↦ slice_get funcs place ] ≡ Some func → 1 ≤ func.height
found-high funcs all None func is = cc
found-high funcs all (Some place) func is =
    subst (λ (own : Func). 1 ≤ own.height) (get_or_from_slice_get funcs place func func is) (all place func (slice_get_within funcs place func is))

pub known-high : (known : Known) → AllHigh known.funcs → HasHeights known
known-high known all name func is = found-high known.funcs all (place_of func_name known.funcs name) func is

-- one function more
added-high : (funcs : List Func) → AllHigh funcs → (func : Func) → 1 ≤ func.height → AllHigh (added func_name funcs func)
added-high funcs all func high = either (is_among func_name funcs func.name)
  where
    either : (there : Bool) → AllHigh (if there then funcs else funcs ++ func ∷ [])
    either true = all
    either false = All-push (λ (own : Func). 1 ≤ own.height) funcs func all high

-- statements
stmts-tall : (around : Around) (ports : List Port) → HasHeights around.known → (stmts : List Stmt) → AllWalksTall (map stmt_nest stmts) (map (walk around ports) stmts)
stmts-tall around ports heights [] = tt
stmts-tall around ports heights (own ∷ stmts) = (stmt-tall around ports heights own, stmts-tall around ports heights stmts)

items-tall : (site : Site) → HasHeights site.around.known → (items : List Item) → AllWalksTall (map item_nest items) (map (item_walk site) items)
items-tall site heights [] = tt
items-tall site heights (own ∷ items) = (item-tall site heights own, items-tall site heights items)

-- what is no higher than the limit
limited : (place height : ℕ) → Sure (within place height) (λ _. height ≤ 512)
limited place height = weaker (tested (nat_lt 512 height) Limit place) (λ _ low. few height low)
  where
    few : (n : ℕ) → nat_lt 512 n ≡ false → n ≤ 512
    few n low = grind (arith, nat_tests)

-- a function
func_height-tall : (around : Around) → HasHeights around.known → (stmts : List Stmt) (value : Expr) (result : Ty) (scope : Scope) → Sure (func_height around stmts value result scope) (λ height. Under (max (most (map stmt_nest stmts)) (nest value)) height)
func_height-tall around heights stmts value result scope =
    follow (walk_all-tall _ _ (stmts-tall around [] heights stmts) 0 scope) (λ passed few.
    follow (returned passed.scope) (λ height more.
    done (under-both (under-left passed.height height few.1) (under-right passed.height height more))))
  where
    returned : (own : Scope) → Sure (return_of (judge around value) result own) (λ height. Under (nest value) height)
    returned own =
        follow ((expr-tall around heights value).tall own) (λ seen few.
        pass (wanted result seen) (λ _. done (under-above seen.height few)))

func-tall : (known : Known) → AllHigh known.funcs → (name : Id) (params : List Typed) (result : TypeName) (stmts : List Stmt) (value : Expr)
    → Sure (func_of known name params result stmts value) (λ func. (1 ≤ func.height) × (max (most (map stmt_nest stmts)) (nest value) ≤ 512))
func-tall known all name params result stmts value =
    pass (params_all known [] params) (λ scope.
    pass (type_of known result) (λ own.
    follow (func_height-tall (around_func known) (known-high known all) stmts value own.ty scope) (λ height few.
    follow (limited name.at height) (λ _ low.
    done (high height, all_low height few low)))))
  where
    high : (n : ℕ) → 1 ≤ above n
    high n = omega arith

    all_low : (n : ℕ) → Under (max (most (map stmt_nest stmts)) (nest value)) n → n ≤ 512 → max (most (map stmt_nest stmts)) (nest value) ≤ 512
    all_low n few low = omega (arith, few low, low)

-- a body
states-tall : (around : Around) (ports : List Port) → HasHeights around.known → (states : List StateDecl) → AllWalksTall (map state_nest states) (map (state_of around ports) states)
states-tall around ports heights [] = tt
states-tall around ports heights (state ∷ states) = (
  record {
    tall = λ scope.
        pass (new_state ports scope state.name) (λ _.
        pass (type_of around.known state.ty) (λ own.
        follow ((expr-tall around heights state.value).tall scope) (λ seen few.
        pass (wanted own.ty seen) (λ _. done few))));
  },
  states-tall around ports heights states,
)

phase-tall : (around : Around) (ports : List Port) → HasHeights around.known → (phase : Option Phase) (scope : Scope) → Sure (phase_of around ports phase scope) (λ height. Under (phase_nest phase) height)
phase-tall around ports heights None scope = done under-zero
phase-tall around ports heights (Some phase) scope = weaker (inner-tall _ _ (stmts-tall around ports heights phase.stmts) 0 scope) (λ height few. few.1)

move-tall : (around : Around) → HasHeights around.known → (has_elapsed : Bool) (phase : Option Phase) (scope : Scope) → Sure (move_of around has_elapsed phase scope) (λ height. Under (phase_nest phase) height)
move-tall around heights has_elapsed phase scope = phase-tall (moving around has_elapsed) [] heights phase scope

inputs-tall : (around : Around) → HasHeights around.known → (body : Body) (scope : Scope) → Sure (inputs_of around body scope) (λ height. Under (max (phase_nest body.external) (phase_nest body.confluent)) height)
inputs-tall around heights body scope =
    follow (move-tall around heights true body.external scope) (λ external few.
    follow (move-tall around heights true body.confluent scope) (λ confluent more.
    done (under-both (under-left external confluent few) (under-right external confluent more))))

phases-tall : (around : Around) (ports : List Port) → HasHeights around.known → (body : Body) (scope : Scope)
    → Sure (phases_of around ports body scope) (λ height. Under (max (phase_nest body.output) (max (phase_nest body.internal) (max (phase_nest body.external) (phase_nest body.confluent)))) height)
phases-tall around ports heights body scope =
    follow (phase-tall around ports heights body.output scope) (λ output first.
    follow (move-tall around heights false body.internal scope) (λ internal second.
    follow (inputs-tall around heights body (inputs_seen scope ports)) (λ inputs last.
    done (under-both
    (under-left (max output internal) inputs (under-left output internal first))
    (under-both (under-left (max output internal) inputs (under-right output internal second)) (under-right (max output internal) inputs last))))))

body-tall : (around : Around) → HasHeights around.known → (place : ℕ) (ports : List Port) (body : Body) → WalkTall (body_nest body) (body_of around place ports body)
body-tall around heights place ports body = record {
  tall = λ scope.
      follow (walk_all-tall _ _ (states-tall around ports heights body.states) 0 scope) (λ states first.
      follow (advanced states.scope) (λ advance second.
      follow (phases-tall around ports heights body states.scope) (λ phases last.
      pass (external_of place body) (λ _.
      done (under-both
      (under-left states.height (max advance phases) first.1)
      (under-right states.height (max advance phases) (under-both (under-left advance phases second) (under-right advance phases last))))))));
}
  where
    advanced : (scope : Scope) → Sure (advance_of around body.advance scope) (λ height. Under (nest body.advance) height)
    advanced scope =
        follow ((expr-tall around heights body.advance).tall scope) (λ seen few.
        pass (wanted (ty.Opt ty.Int) seen) (λ _. done few))

structure-tall : (around : Around) → HasHeights around.known → (ports execs : List Port) (items : List Item) (scope : Scope) → Sure (structure_of around ports execs items scope) (λ height. Under (most (map item_nest items)) height)
structure-tall around heights ports execs items scope =
    pass (enter_all (map (enter around.known) items) []) (λ families.
    weaker (inner-tall _ _ (items-tall (record { around = around; ports = ports; execs = execs; families = families }) heights items) 0 scope) (λ height few. few.1))

-- parts that are no lower than their conditions nest, and no higher than the limit
low : (n height : ℕ) → Under n height → height ≤ 512 → n ≤ 512
low n height few less = omega (arith, few less, less)

atomic-tall : (around : Around) → HasHeights around.known → (place : ℕ) (name : Id) (params : List Typed) (body : Body) → Sure (atomic_rule around place name params body) (λ _. body_nest body ≤ 512)
atomic-tall around heights place name params body =
    pass (params_all around.known [] params) (λ scope.
    pass (ports_all around.known scope [] body.ports) (λ ports.
    follow ((body-tall around heights place ports body).tall scope) (λ passed few.
    weaker (limited name.at passed.height) (λ _ less. low (body_nest body) passed.height few less))))

inside-tall : (around : Around) → HasHeights around.known → (name : Id) (ports : List Port) (place : ℕ) (body : Body) (items : List Item) (scope : Scope)
    → Sure (inside_rule around name ports place body items scope) (λ _. max (body_nest body) (most (map item_nest items)) ≤ 512)
inside-tall around heights name ports place body items scope =
    pass (ports_all around.known scope [] body.ports) (λ execs.
    follow ((body-tall around heights place execs body).tall scope) (λ passed few.
    follow (structure-tall around heights ports execs items passed.scope) (λ height more.
    weaker (limited name.at (max passed.height height)) (λ _ less.
    low (max (body_nest body) (most (map item_nest items))) (max passed.height height) (under-both (under-left passed.height height few) (under-right passed.height height more)) less))))

network-tall : (around : Around) → HasHeights around.known → (name : Id) (params : List Typed) (ports : List PortDecl) (place : ℕ) (body : Body) (items : List Item)
    → Sure (network_rule around name params ports place body items) (λ _. max (body_nest body) (most (map item_nest items)) ≤ 512)
network-tall around heights name params ports place body items =
    pass (params_all around.known [] params) (λ scope.
    pass (ports_all around.known scope [] ports) (λ own.
    inside-tall around heights name own place body items scope))

top-tall : (around : Around) → HasHeights around.known → (place : ℕ) (name : Id) (args : List Expr) → Sure (top_rule around place name args) (λ _. most (map nest args) ≤ 512)
top-tall around heights place name args =
    follow (args-tall around heights name args []) (λ height few.
    weaker (limited place height) (λ _ less. low (most (map nest args)) height few less))

-- a declaration, and the functions that are known behind it
decl-tall : (known : Known) → AllHigh known.funcs → (own : Decl) → Sure (decl_rule known own) (λ after. AllHigh after.funcs × (decl_nest own ≤ 512))
decl-tall known all (decl.Enum name variants) = pass (distinct [] variants) (λ _. done (all, omega arith))
decl-tall known all (decl.Rec name fields) = pass (record_rule known name fields) (λ _. done (all, omega arith))
decl-tall known all (decl.Func name params result stmts value) =
    follow (func-tall known all name params result stmts value) (λ func own. done (added-high known.funcs all func own.0, own.1))
decl-tall known all (decl.Atomic place name params body) =
    follow (atomic-tall (around_with known (body_names params body)) (known-high known all) place name params body) (λ _ less. done (all, less))
decl-tall known all (decl.Network place name params ports exec_at body items) =
    follow (network-tall (around_with known (body_names params body)) (known-high known all) name params ports exec_at body items) (λ _ less. done (all, less))
decl-tall known all (decl.Top place name args) =
    follow (top-tall (around_with known []) (known-high known all) place name args) (λ _ less. done (all, less))

decls-tall : (known : Known) → AllHigh known.funcs → (decls : List Decl) → Sure (decls_rule known decls) (λ _. most (map decl_nest decls) ≤ 512)
decls-tall known all [] = done (omega arith)
decls-tall known all (own ∷ decls) =
    follow (decl-tall known all own) (λ after first.
    weaker (decls-tall after first.0 decls) (λ _ rest. both-low (decl_nest own) (most (map decl_nest decls)) first.1 rest))
  where
    both-low : (a b : ℕ) → a ≤ 512 → b ≤ 512 → max a b ≤ 512
    both-low a b left right = omega (arith, left, right)

rules-tall : (model : Model) → Sure (rules model) (λ _. most (map decl_nest model.decls) ≤ 512)
rules-tall model =
    pass (apart_all [] model.decls) (λ _.
    follow (decls-tall (known_of model.decls) (λ place func inside. absurd (omega (arith, inside))) model.decls) (λ _ less.
    weaker (anything (top_rules model)) (λ _ _. less)))
  where
    anything : {A : Type 0} (r : Result A Wrong) → Sure r (λ _. Unit {0})
    anything (Ok a) = done tt
    anything (Err failure) = failed

-- what a result leaves wrong
abbrev first_of : Result (Unit {0}) Wrong → Option Wrong
first_of (Ok a) = None
first_of (Err first) = Some first

-- a model in which nothing is wrong
pub model-low : (model : Model) → first_wrong model ≡ None → most (map decl_nest model.decls) ≤ 512
model-low model right = of (rules model) right (rules-tall model)
  where
    of : (r : Result (Unit {0}) Wrong) → first_of r ≡ None → Sure r (λ _. most (map decl_nest model.decls) ≤ 512) → most (map decl_nest model.decls) ≤ 512
    of (Ok a) right own = own.sure
    of (Err failure) right own = cc
