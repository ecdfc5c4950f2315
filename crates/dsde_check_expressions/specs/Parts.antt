-- What is seen of the parts of an expression that are no expressions themselves, and of some that have none.
use Rattle.std.specs.Prelude.{ℕ, ◌+◌, min, max, true, not, List, Result, Ok}
use Rattle.dsde_syntax.specs.declared.token.Sign.{Sign}
use Rattle.dsde_syntax.specs.declared.id.Id.{Id}
use Rattle.dsde_syntax.specs.declared.type_name.TypeName.{TypeName}
use Rattle.dsde_syntax.specs.declared.expr.ExprArm.{ExprArm}
use Rattle.dsde_syntax.specs.declared.expr.FieldSet.{FieldSet}
use Rattle.dsde_syntax.specs.declared.expr.SignTail.{SignTail}
use Rattle.dsde_syntax.specs.declared.expr.Suffix.{Suffix}
use Rattle.dsde_syntax.specs.declared.expr.Tail.{Tail}
use Rattle.dsde_syntax.specs.declared.expr.Expr.TheFolds.{fold-Suffix, fold-ExprArm, fold-FieldSet, fold-SignTail, fold-Tail}
use Rattle.dsde_language.specs.declared.known.Around.{Around}
use Rattle.dsde_language.specs.declared.seen.Seen.{Seen}
use Rattle.dsde_language.specs.declared.wrong.Wrong.{Wrong}
use Rattle.dsde_language.specs.declared.wrong.WrongKind.TheVariants.{Unknown, WrongType}
use Rattle.dsde_language.specs.Steps.{◌>>=◌, Test, unless}
use Rattle.dsde_language.specs.Types.{wanted, held_type}
use Rattle.dsde_language.specs.declared.builtin.Part.{Part}
use Rattle.dsde_language.specs.declared.builtin.Row.{Row}
use Rattle.dsde_language.specs.declared.seen.Fitted.{Fitted}
use Rattle.dsde_language.specs.declared.signatures.Func.{Func}
use Rattle.dsde_values.specs.declared.types.Field.{Field}
use Rattle.dsde_values.specs.declared.types.Ty.{Ty}
use Rattle.dsde_values.specs.declared.types.Ty.TheVariants as ty
use Rattle.dsde_language.specs.Judge.{made, total, field_of, seen_as, type_of, sign_may_fault, compared, all_fields, in_order, given_type, part_type, Judge, Scope, Link, Guarded, SetJudge, judge_step, suffix_step, arm_step, set_step, sign_tail_step, tail_step}

-- `or value` and `and value`, behind what stands before it
abbrev pub judge_tail : Around → Tail → Link
judge_tail around = fold-Tail Judge Link Guarded SetJudge Link Link (judge_step around) (suffix_step around) arm_step set_step (sign_tail_step around) tail_step

-- a sign and its value, behind what stands before it
abbrev pub judge_sign_tail : Around → SignTail → Link
judge_sign_tail around = fold-SignTail Judge Link Guarded SetJudge Link Link (judge_step around) (suffix_step around) arm_step set_step (sign_tail_step around) tail_step

-- `.name`, `[value]` and `!`, behind what stands before it
abbrev pub judge_suffix : Around → Suffix → Link
judge_suffix around = fold-Suffix Judge Link Guarded SetJudge Link Link (judge_step around) (suffix_step around) arm_step set_step (sign_tail_step around) tail_step

-- an arm of an `if`
abbrev pub judge_arm : Around → ExprArm → Guarded
judge_arm around = fold-ExprArm Judge Link Guarded SetJudge Link Link (judge_step around) (suffix_step around) arm_step set_step (sign_tail_step around) tail_step

-- a field of a new record
abbrev pub judge_set : Around → FieldSet → SetJudge
judge_set around = fold-FieldSet Judge Link Guarded SetJudge Link Link (judge_step around) (suffix_step around) arm_step set_step (sign_tail_step around) tail_step

-- none<T>
abbrev pub none_of : Around → ℕ → TypeName → Result Seen Wrong
none_of around at own = type_of around.known own >>= (λ seen. made around (ty.Opt seen.ty) 0 at)

-- empty<T>
abbrev pub empty_of : Around → ℕ → TypeName → Result Seen Wrong
empty_of around at own = type_of around.known own >>= (λ seen. made around (ty.List seen.ty) 0 at)

-- elapsed
abbrev pub elapsed : Around → ℕ → Result Seen Wrong
elapsed around at = unless (not around.has_elapsed) Unknown at >>= (λ _. seen_as ty.Int 0 at)

-- e o f, behind e and f: f of the type that the sign takes
abbrev pub sign_seen : Around → Sign → Ty → ℕ → Seen → ℕ → Result Seen Wrong
sign_seen around sign own height right at =
    wanted own right >>= (λ _. total around (sign_may_fault sign) at >>= (λ _. seen_as own (max height right.height) at))

-- e[i], behind e and i: i a whole number
abbrev pub item_seen : Around → Ty → ℕ → Seen → ℕ → Result Seen Wrong
item_seen around item height index at =
    wanted ty.Int index >>= (λ _. total around true at >>= (λ _. seen_as item (max height index.height) at))

-- f(..), behind its arguments
abbrev pub call_seen : Around → Func → ℕ → ℕ → Result Seen Wrong
call_seen around func height at =
    total around true at >>= (λ _. seen_as func.result (min height 512 + min func.height 512) at)

-- new R{f: ..}: all fields in their order
abbrev pub whole_record : Id → List Field → List SetJudge → Test
whole_record owner fields sets =
    all_fields fields sets >>= (λ _. unless (not (in_order fields sets)) WrongType owner.at)

-- a builtin, behind its arguments
abbrev pub builtin_seen : Around → Row → ℕ → Fitted → Result Seen Wrong
builtin_seen around row at fitted =
    total around row.may_fault at >>= (λ _. made around (given_type row.gives fitted.ty) fitted.height at)

-- [e, ..], behind its items
abbrev pub list_seen : Around → Ty → ℕ → ℕ → Result Seen Wrong
list_seen around item height at = total around true at >>= (λ _. made around (ty.List item) height at)

-- -e, behind e: a whole number
abbrev pub negative : Around → ℕ → Seen → Result Seen Wrong
negative around at seen =
    wanted ty.Int seen >>= (λ _. total around true at >>= (λ _. seen_as ty.Int seen.height at))

-- a comparison, or `or` and `and`, behind both sides
abbrev pub compared_seen : Ty → ℕ → Seen → ℕ → Result Seen Wrong
compared_seen own height right at = wanted own right >>= (λ _. seen_as ty.Bool (max height right.height) at)

-- a value of this type, or another in its place
abbrev pub other_seen : Ty → ℕ → Seen → ℕ → Result Seen Wrong
other_seen own height other at = wanted own other >>= (λ _. seen_as own (max height other.height) at)

-- not e, behind e: bool
abbrev pub negated : Seen → ℕ → Result Seen Wrong
negated seen at = wanted ty.Bool seen >>= (λ _. seen_as ty.Bool seen.height at)

-- e.f, behind e
abbrev pub field_seen : Around → Id → Seen → ℕ → Result Seen Wrong
field_seen around name first at = field_of around.known first name >>= (λ ty. made around ty first.height at)

-- e!, behind e: an option
abbrev pub unwrapped : Around → Seen → ℕ → Result Seen Wrong
unwrapped around first at =
    held_type first >>= (λ inner. total around true at >>= (λ _. seen_as inner first.height at))

-- a ?? b, by what is seen of a and of b
abbrev pub or_else_of : ℕ → Judge → Judge → Judge
or_else_of at left right scope =
    left scope >>= (λ option.
    held_type option >>= (λ inner.
    right scope >>= (λ other.
    other_seen inner option.height other at)))

-- a comparison, by what is seen of both sides
abbrev pub compare_of : Sign → ℕ → Judge → Judge → Judge
compare_of which at left right scope =
    left scope >>= (λ one.
    compared which one >>= (λ own.
    right scope >>= (λ other.
    compared_seen own one.height other at)))

-- not a, by what is seen of a
abbrev pub not_of : ℕ → Judge → Judge
not_of at own scope = own scope >>= (λ seen. negated seen at)

-- -a, by what is seen of a
abbrev pub neg_of : Around → ℕ → Judge → Judge
neg_of around at own scope = own scope >>= (λ seen. negative around at seen)

-- a part of this type: the greater of its height and of what came before it
abbrev pub fit_one : Judge → Ty → ℕ → Scope → Result ℕ Wrong
fit_one part own height scope =
    part scope >>= (λ seen.
    wanted own seen >>= (λ _.
    Ok (max height seen.height)))

-- an arm of an `if`, of this type: its height
abbrev pub fit_arm : Guarded → Ty → ℕ → Scope → Result ℕ Wrong
fit_arm arm own height scope =
    arm height scope >>= (λ seen.
    wanted own seen >>= (λ _.
    Ok seen.height))

-- an argument of a builtin, behind it: T, and the greatest height
abbrev pub part_fitted : Part → Fitted → Seen → Result Fitted Wrong
part_fitted own before seen =
    part_type own before.ty seen >>= (λ ty. Ok (record { ty = ty; height = max before.height seen.height }))

-- an argument of a builtin: T, and the greatest height
abbrev pub fit_part : Judge → Part → Fitted → Scope → Result Fitted Wrong
fit_part arg own before scope = arg scope >>= (λ seen. part_fitted own before seen)
