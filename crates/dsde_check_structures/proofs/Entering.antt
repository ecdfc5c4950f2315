-- Items that are gone through one by one, each of which brings its models.
use Rattle.std.proofs.Common.{◌≡◌, ℕ, ◌+◌, ◌<◌, List, length, get_or, drop, map, Result, Ok, Err, sym, subst, ap, ◌∙◌}
use Rattle.std.specs.Result.{IsErr, IsErrAnd}
use Rattle.dsde_language.specs.declared.wrong.Wrong.{Wrong}
use Rattle.dsde_language.specs.Steps.{◌>>=◌}
use Rattle.dsde_language.specs.declared.signatures.Family.{Family}
use Rattle.dsde_language.specs.RuleStructures.{Enter, enter_all}
use Rattle.dsde_language.specs.lemmas.Lists.{one_of}
use Rattle.dsde_check_expressions.specs.given.check_scope.error_CheckError.{CheckError}
use Rattle.dsde_check_expressions.specs.given.check_scope.error_CheckError_TheVariants as end_of
use Rattle.dsde_check_expressions.specs.given.check_scope.Says.{Leaves}

-- an item that brings its models, and then those that are left
pub enter_went : {X : Type 0} (by : X → Enter) (items : List X) (index : ℕ) (own : X) (families after : List Family) (whole : Result (List Family) Wrong) → index < length items → own ≡ get_or items index own → by own families ≡ Ok after → enter_all (map by (drop index items)) families ≡ whole → enter_all (map by (drop (index + 1) items)) after ≡ whole
enter_went by items index own families after whole within is went before =
    sym (ap (λ rest. enter_all (map by rest) families) (one_of items index own within is)
    ∙ ap (λ found. found >>= (λ more. enter_all (map by (drop (index + 1) items)) more)) went)
    ∙ before

leaves_on : (found : Result (List Family) Wrong) (next : List Family → Result (List Family) Wrong) (left after : List Family) (end : CheckError) → Leaves found (Err end) left → Leaves (found >>= next) (Err end) after
leaves_on found next left after (end_of.Wrong kind at) said = ap (λ own. own >>= next) said
leaves_on found next left after end_of.Memory said = tt

leaves_as : (meant whole : Result (List Family) Wrong) (after : List Family) (end : CheckError) (answer : Result (Unit {0}) CheckError) → meant ≡ whole → Leaves meant (Err end) after → IsErr answer → IsErrAnd answer (λ own. own ≡ end) → Leaves whole answer after
leaves_as meant whole after end (Err own) same said _ passed = subst (λ other. Leaves whole (Err other) after) (sym passed) (subst (λ other. Leaves other (Err end) after) same said)
leaves_as meant whole after end (Ok _) same said none passed = absurd (cc none)

-- an item with something wrong in it, which is passed on as it is
pub enter_failed : {X : Type 0} (by : X → Enter) (items : List X) (index : ℕ) (own : X) (families left after : List Family) (whole : Result (List Family) Wrong) (end : CheckError) (answer : Result (Unit {0}) CheckError) → index < length items → own ≡ get_or items index own → Leaves (by own families) (Err end) left → enter_all (map by (drop index items)) families ≡ whole → IsErr answer → IsErrAnd answer (λ own. own ≡ end) → Leaves whole answer after
enter_failed by items index own families left after whole end answer within is said before =
    leaves_as (by own families >>= (λ more. enter_all (map by (drop (index + 1) items)) more)) whole after end answer
    (sym (ap (λ rest. enter_all (map by rest) families) (one_of items index own within is)) ∙ before)
    (leaves_on (by own families) (λ more. enter_all (map by (drop (index + 1) items)) more) left after end said)
