-- Parts that are walked one by one, each in the scope that the one before left.
use Rattle.std.proofs.Common.{◌≡◌, ℕ, ◌+◌, ◌<◌, ◌≤◌, max, List, ◌∷◌, ◌++◌, length, get_or, take, drop, map, Result, Ok, Err, sym, subst, ap, ◌∙◌, arith}
use Rattle.std.specs.Result.{IsErr, IsErrAnd}
use Rattle.std.proofs.lemmas.List.{length-take, take-append-drop, take-append-le}
use Rattle.dsde_language.specs.declared.wrong.Wrong.{Wrong}
use Rattle.dsde_language.specs.Steps.{◌>>=◌}
use Rattle.dsde_language.specs.Judge.{Scope}
use Rattle.dsde_language.specs.Blocks.{Passed, Walk, ArmWalk, walk_all, arms_walk}
use Rattle.dsde_language.specs.lemmas.Lists.{one_of}
use Rattle.dsde_check_expressions.specs.given.check_scope.error_CheckError.{CheckError}
use Rattle.dsde_check_expressions.specs.given.check_scope.error_CheckError_TheVariants as end_of
use Rattle.dsde_check_expressions.specs.given.check_scope.Says.{Says, Walks}

-- a part of which nothing is wrong: those that are left give the same behind it
pub walk_went : {X : Type 0} (by : X → Walk) (items : List X) (index : ℕ) (own : X) (height more : ℕ) (scope after : Scope) (whole : Result Passed Wrong) → index < length items → own ≡ get_or items index own → by own scope ≡ Ok (record { scope = after; height = more }) → walk_all (map by (drop index items)) height scope ≡ whole → walk_all (map by (drop (index + 1) items)) (max height more) after ≡ whole
walk_went by items index own height more scope after whole within is went before =
    sym (ap (λ rest. walk_all (map by rest) height scope) (one_of items index own within is)
    ∙ ap (λ found. found >>= (λ passed. walk_all (map by (drop (index + 1) items)) (max height passed.height) passed.scope)) went)
    ∙ before

-- what is wrong is wrong whatever comes next, and whatever is left behind it
walks_on : (found : Result Passed Wrong) (next : Passed → Result Passed Wrong) (left after : Scope) (end : CheckError) → Walks found (Err end) left → Walks (found >>= next) (Err end) after
walks_on found next left after (end_of.Wrong kind at) said = ap (λ own. own >>= next) said
walks_on found next left after end_of.Memory said = tt

says_on : (found : Result ℕ Wrong) (next : ℕ → Result ℕ Wrong) (end : CheckError) → Says found (Err end) → Says (found >>= next) (Err end)
says_on found next (end_of.Wrong kind at) said = ap (λ own. own >>= next) said
says_on found next end_of.Memory said = tt

walks_as : (meant whole : Result Passed Wrong) (after : Scope) (end : CheckError) (answer : Result ℕ CheckError) → meant ≡ whole → Walks meant (Err end) after → IsErr answer → IsErrAnd answer (λ own. own ≡ end) → Walks whole answer after
walks_as meant whole after end (Err own) same said _ passed = subst (λ other. Walks whole (Err other) after) (sym passed) (subst (λ other. Walks other (Err end) after) same said)
walks_as meant whole after end (Ok _) same said none passed = absurd (cc none)

says_as : (meant whole : Result ℕ Wrong) (end : CheckError) (answer : Result ℕ CheckError) → meant ≡ whole → Says meant (Err end) → IsErr answer → IsErrAnd answer (λ own. own ≡ end) → Says whole answer
says_as meant whole end (Err own) same said _ passed = subst (λ other. Says whole (Err other)) (sym passed) (subst (λ other. Says other (Err end)) same said)
says_as meant whole end (Ok _) same said none passed = absurd (cc none)

-- a part in which something is wrong, which is passed on as it is
pub walk_failed : {X : Type 0} (by : X → Walk) (items : List X) (index : ℕ) (own : X) (height : ℕ) (scope left after : Scope) (whole : Result Passed Wrong) (end : CheckError) (answer : Result ℕ CheckError) → index < length items → own ≡ get_or items index own → Walks (by own scope) (Err end) left → walk_all (map by (drop index items)) height scope ≡ whole → IsErr answer → IsErrAnd answer (λ own. own ≡ end) → Walks whole answer after
walk_failed by items index own height scope left after whole end answer within is said before =
    walks_as (by own scope >>= (λ passed. walk_all (map by (drop (index + 1) items)) (max height passed.height) passed.scope)) whole after end answer
    (sym (ap (λ rest. walk_all (map by rest) height scope) (one_of items index own within is)) ∙ before)
    (walks_on (by own scope) (λ passed. walk_all (map by (drop (index + 1) items)) (max height passed.height) passed.scope) left after end said)

-- an arm in which nothing is wrong
pub arm_went : {X : Type 0} (by : X → ArmWalk) (arms : List X) (index : ℕ) (own : X) (height more : ℕ) (scope after : Scope) (whole : Result ℕ Wrong) → index < length arms → own ≡ get_or arms index own → by own height scope ≡ Ok more → after ≡ scope → arms_walk (map by (drop index arms)) height scope ≡ whole → arms_walk (map by (drop (index + 1) arms)) more after ≡ whole
arm_went by arms index own height more scope after whole within is went keeps before =
    ap (arms_walk (map by (drop (index + 1) arms)) more) keeps
    ∙ sym (ap (λ rest. arms_walk (map by rest) height scope) (one_of arms index own within is)
    ∙ ap (λ found. found >>= (λ more. arms_walk (map by (drop (index + 1) arms)) more scope)) went)
    ∙ before

-- an arm in which something is wrong, which is passed on as it is
pub arm_failed : {X : Type 0} (by : X → ArmWalk) (arms : List X) (index : ℕ) (own : X) (height : ℕ) (scope : Scope) (whole : Result ℕ Wrong) (end : CheckError) (answer : Result ℕ CheckError) → index < length arms → own ≡ get_or arms index own → Says (by own height scope) (Err end) → arms_walk (map by (drop index arms)) height scope ≡ whole → IsErr answer → IsErrAnd answer (λ own. own ≡ end) → Says whole answer
arm_failed by arms index own height scope whole end answer within is said before =
    says_as (by own height scope >>= (λ more. arms_walk (map by (drop (index + 1) arms)) more scope)) whole end answer
    (sym (ap (λ rest. arms_walk (map by rest) height scope) (one_of arms index own within is)) ∙ before)
    (says_on (by own height scope) (λ more. arms_walk (map by (drop (index + 1) arms)) more scope) end said)

-- what a longer scope begins with, a longer one still begins with too
pub grown : (first scope after : Scope) → take (length first) scope ≡ first → take (length scope) after ≡ scope → take (length first) after ≡ first
grown first scope after one two =
    let short : length first ≤ length scope = omega (arith, length-take (length first) scope, ap (λ (own : Scope). length own) one) in
    ap (take (length first)) (sym (take-append-drop (length scope) after) ∙ ap (λ own. own ++ drop (length scope) after) two)
    ∙ take-append-le (length first) scope (drop (length scope) after) short
    ∙ one
