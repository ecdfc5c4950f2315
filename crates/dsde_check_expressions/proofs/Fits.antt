-- What a list of parts gives, by its first part and those behind it.
use Rattle.std.proofs.Common.{◌≡◌, ℕ, ◌+◌, ◌<◌, max, List, ◌∷◌, length, get_or, drop, map, Result, Ok, Err, refl, sym, subst, ap, ◌∙◌, rules}
use Rattle.dsde_syntax.specs.declared.expr.Expr.{Expr}
use Rattle.dsde_syntax.specs.declared.expr.FieldSet.{FieldSet}
use Rattle.dsde_syntax.specs.declared.expr.Expr.TheFolds.{the_lemmas}
use Rattle.dsde_values.specs.declared.types.Field.{Field}
use Rattle.dsde_values.specs.declared.types.Ty.{Ty}
use Rattle.dsde_language.specs.declared.builtin.Part.{Part}
use Rattle.dsde_language.specs.declared.known.Around.{Around}
use Rattle.dsde_language.specs.declared.seen.Fitted.{Fitted}
use Rattle.dsde_language.specs.declared.seen.Seen.{Seen}
use Rattle.dsde_language.specs.declared.wrong.Wrong.{Wrong}
use Rattle.dsde_language.specs.Steps.{◌>>=◌, Test}
use Rattle.dsde_language.specs.Types.{wanted}
use Rattle.dsde_language.specs.Judge.{Scope, Judge, Guarded, judge, fit, all_of, fill, part_type, fit_parts, arms_of}
use Rattle.dsde_language.specs.lemmas.Lists.{one_of}
use Rattle.dsde_check_scope.specs.declared.error.CheckError.{CheckError}
use Rattle.dsde_check_scope.specs.Says.{Says}
use Rattle.dsde_check_expressions.specs.Parts.{judge_set, fit_one, fit_arm, part_fitted, fit_part}
use Rattle.dsde_check_expressions.proofs.Chains.{failed}

-- a first part that went well
pub went : {A B : Type 0} (meant : Result B Wrong) (found : Result A Wrong) (next : A → Result B Wrong) (value : A) → meant ≡ (found >>= next) → found ≡ Ok value → meant ≡ next value
went meant found next value is was = is ∙ ap (λ own. own >>= next) was

-- a first part in which something is wrong
pub went_wrong : {A B : Type 0} (meant : Result B Wrong) (found : Result A Wrong) (next : A → Result B Wrong) (end : CheckError) → meant ≡ (found >>= next) → Says found (Err end) → Says meant (Err end)
went_wrong meant found next end is said = subst (λ own. Says own (Err end)) (sym is) (failed found next end said)

-- what follows a test
behind_test : {A B : Type 0} (test : Test) (value : A) (next : A → Result B Wrong) → (test >>= (λ _. next value)) ≡ ((test >>= (λ _. Ok value)) >>= next)
behind_test (Ok _) value next = refl
behind_test (Err end) value next = refl

-- what follows something of a wanted type
behind_wanted : {B : Type 0} (found : Result Seen Wrong) (own : Ty) (height : Seen → ℕ) (next : ℕ → Result B Wrong) → (found >>= (λ seen. wanted own seen >>= (λ _. next (height seen)))) ≡ ((found >>= (λ seen. wanted own seen >>= (λ _. Ok (height seen)))) >>= next)
behind_wanted (Ok seen) own height next = behind_test (wanted own seen) (height seen) next
behind_wanted (Err end) own height next = refl

abbrev fitted : ℕ → Ty → Fitted
fitted height ty = record { ty = ty; height = height }

-- what follows the type of a part
behind_type : {B : Type 0} (found : Result Ty Wrong) (height : ℕ) (next : Fitted → Result B Wrong) → (found >>= (λ ty. next (fitted height ty))) ≡ ((found >>= (λ ty. Ok (fitted height ty))) >>= next)
behind_type (Ok ty) height next = refl
behind_type (Err end) height next = refl

-- what follows an argument of a builtin
behind_part : {B : Type 0} (found : Result Seen Wrong) (own : Part) (before : Fitted) (next : Fitted → Result B Wrong) → (found >>= (λ seen. part_type own before.ty seen >>= (λ ty. next (fitted (max before.height seen.height) ty)))) ≡ ((found >>= (λ seen. part_fitted own before seen)) >>= next)
behind_part (Ok seen) own before next = behind_type (part_type own before.ty seen) (max before.height seen.height) next
behind_part (Err end) own before next = refl

-- the first argument of a call
pub fit_next : (around : Around) (items : List Expr) (tys : List Ty) (index : ℕ) (own : Expr) (ty : Ty) (height : ℕ) (scope : Scope) → index < length items → index < length tys → own ≡ get_or items index own → ty ≡ get_or tys index ty → fit (map (judge around) (drop index items)) (drop index tys) height scope ≡ (fit_one (judge around own) ty height scope >>= (λ next. fit (map (judge around) (drop (index + 1) items)) (drop (index + 1) tys) next scope))
fit_next around items tys index own ty height scope within typed is ty_is =
    ap (λ rest. fit (map (judge around) rest) (drop index tys) height scope) (one_of items index own within is)
    ∙ ap (λ rest. fit (judge around own ∷ map (judge around) (drop (index + 1) items)) rest height scope) (one_of tys index ty typed ty_is)
    ∙ behind_wanted (judge around own scope) ty (λ seen. max height seen.height) (λ next. fit (map (judge around) (drop (index + 1) items)) (drop (index + 1) tys) next scope)

-- the first of further items of a list
pub item_next : (around : Around) (items : List Expr) (index : ℕ) (own : Expr) (ty : Ty) (height : ℕ) (scope : Scope) → index < length items → own ≡ get_or items index own → all_of ty (map (judge around) (drop index items)) height scope ≡ (fit_one (judge around own) ty height scope >>= (λ next. all_of ty (map (judge around) (drop (index + 1) items)) next scope))
item_next around items index own ty height scope within is =
    ap (λ rest. all_of ty (map (judge around) rest) height scope) (one_of items index own within is)
    ∙ behind_wanted (judge around own scope) ty (λ seen. max height seen.height) (λ next. all_of ty (map (judge around) (drop (index + 1) items)) next scope)

-- a value of a new record
set_value : (around : Around) (set : FieldSet) → (judge_set around set).value ≡ judge around set.value
set_value around set = search (rules, the_lemmas)

-- the first value of a new record
pub fill_next : (around : Around) (sets : List FieldSet) (fields : List Field) (index : ℕ) (own : FieldSet) (field : Field) (height : ℕ) (scope : Scope) → index < length sets → index < length fields → own ≡ get_or sets index own → field ≡ get_or fields index field → fill (map (judge_set around) (drop index sets)) (drop index fields) height scope ≡ (fit_one (judge around own.value) field.ty height scope >>= (λ next. fill (map (judge_set around) (drop (index + 1) sets)) (drop (index + 1) fields) next scope))
fill_next around sets fields index own field height scope within named is field_is =
    ap (λ rest. fill (map (judge_set around) rest) (drop index fields) height scope) (one_of sets index own within is)
    ∙ ap (λ rest. fill (judge_set around own ∷ map (judge_set around) (drop (index + 1) sets)) rest height scope) (one_of fields index field named field_is)
    ∙ ap (λ (value : Judge). value scope >>= (λ seen. wanted field.ty seen >>= (λ _. fill (map (judge_set around) (drop (index + 1) sets)) (drop (index + 1) fields) (max height seen.height) scope))) (set_value around own)
    ∙ behind_wanted (judge around own.value scope) field.ty (λ seen. max height seen.height) (λ next. fill (map (judge_set around) (drop (index + 1) sets)) (drop (index + 1) fields) next scope)

-- the first argument of a builtin
pub part_next : (around : Around) (items : List Expr) (parts : List Part) (index : ℕ) (own : Expr) (part : Part) (before : Fitted) (scope : Scope) → index < length items → index < length parts → own ≡ get_or items index own → part ≡ get_or parts index part → fit_parts (map (judge around) (drop index items)) (drop index parts) before.ty before.height scope ≡ (fit_part (judge around own) part before scope >>= (λ next. fit_parts (map (judge around) (drop (index + 1) items)) (drop (index + 1) parts) next.ty next.height scope))
part_next around items parts index own part before scope within typed is part_is =
    ap (λ rest. fit_parts (map (judge around) rest) (drop index parts) before.ty before.height scope) (one_of items index own within is)
    ∙ ap (λ rest. fit_parts (judge around own ∷ map (judge around) (drop (index + 1) items)) rest before.ty before.height scope) (one_of parts index part typed part_is)
    ∙ behind_part (judge around own scope) part before (λ next. fit_parts (map (judge around) (drop (index + 1) items)) (drop (index + 1) parts) next.ty next.height scope)

-- the first of further arms of an `if`
pub arm_next : {X : Type 0} (judged : X → Guarded) (arms : List X) (index : ℕ) (own : X) (ty : Ty) (height : ℕ) (scope : Scope) → index < length arms → own ≡ get_or arms index own → arms_of ty (map judged (drop index arms)) height scope ≡ (fit_arm (judged own) ty height scope >>= (λ next. arms_of ty (map judged (drop (index + 1) arms)) next scope))
arm_next judged arms index own ty height scope within is =
    ap (λ rest. arms_of ty (map judged rest) height scope) (one_of arms index own within is)
    ∙ behind_wanted (judged own height scope) ty (λ seen. seen.height) (λ next. arms_of ty (map judged (drop (index + 1) arms)) next scope)
