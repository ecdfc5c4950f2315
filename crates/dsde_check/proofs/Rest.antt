-- Declarations and names that are gone through one by one.
use Rattle.std.proofs.Common.{◌≡◌, ℕ, ◌+◌, ◌<◌, List, ◌∷◌, length, get_or, drop, Result, Ok, Err, sym, subst, ap, ◌∙◌}
use Rattle.std.specs.Result.{IsErr, IsErrAnd}
use Rattle.dsde_language.specs.declared.wrong.Wrong.{Wrong}
use Rattle.dsde_language.specs.Steps.{◌>>=◌, Test}
use Rattle.dsde_language.specs.lemmas.Lists.{one_of}
use Rattle.dsde_check_bodies.specs.given.check_scope.error_CheckError.{CheckError}
use Rattle.dsde_check_bodies.specs.given.check_scope.error_CheckError_TheVariants as end_of
use Rattle.dsde_check_bodies.specs.given.check_scope.Says.{Says, Leaves}

-- what is wrong is passed on as it is
says_as : (meant whole : Test) (end : CheckError) (answer : Result (Unit {0}) CheckError) → meant ≡ whole → Says meant (Err end) → IsErr answer → IsErrAnd answer (λ own. own ≡ end) → Says whole answer
says_as meant whole end (Err own) same said _ passed = subst (λ other. Says whole (Err other)) (sym passed) (subst (λ other. Says other (Err end)) same said)
says_as meant whole end (Ok _) same said none passed = absurd (cc none)

-- a walk over items, each of which makes what those behind it stand on
pub record Walk (X A : Type 0) : Type 0 where
  pub walk : A → List X → Test
  pub step : A → X → Result A Wrong
  pub opens : (state : A) (own : X) (rest : List X) → walk state (own ∷ rest) ≡ (step state own >>= (λ more. walk more rest))

-- an item in which nothing is wrong: what is left gives the same behind it
pub step_went : {X A : Type 0} (by : Walk X A) (items : List X) (index : ℕ) (own : X) (state after : A) (whole : Test) → index < length items → own ≡ get_or items index own → by.step state own ≡ Ok after → by.walk state (drop index items) ≡ whole → by.walk after (drop (index + 1) items) ≡ whole
step_went by items index own state after whole within is went before =
    sym (ap (by.walk state) (one_of items index own within is)
    ∙ by.opens state own (drop (index + 1) items)
    ∙ ap (λ found. found >>= (λ more. by.walk more (drop (index + 1) items))) went)
    ∙ before

step_on : {A : Type 0} (found : Result A Wrong) (next : A → Test) (left : A) (end : CheckError) → Leaves found (Err end) left → Says (found >>= next) (Err end)
step_on found next left (end_of.Wrong kind at) said = ap (λ own. own >>= next) said
step_on found next left end_of.Memory said = tt

-- an item in which something is wrong
pub step_failed : {X A : Type 0} (by : Walk X A) (items : List X) (index : ℕ) (own : X) (state left : A) (whole : Test) (end : CheckError) (answer : Result (Unit {0}) CheckError) → index < length items → own ≡ get_or items index own → Leaves (by.step state own) (Err end) left → by.walk state (drop index items) ≡ whole → IsErr answer → IsErrAnd answer (λ own. own ≡ end) → Says whole answer
step_failed by items index own state left whole end answer within is said before =
    says_as (by.step state own >>= (λ more. by.walk more (drop (index + 1) items))) whole end answer
    (sym (ap (by.walk state) (one_of items index own within is) ∙ by.opens state own (drop (index + 1) items)) ∙ before)
    (step_on (by.step state own) (λ more. by.walk more (drop (index + 1) items)) left end said)

-- a walk over items, each of which is tested and adds something
pub record Tests (X A : Type 0) : Type 0 where
  pub walk : A → List X → Test
  pub test : A → X → Test
  pub add : A → X → A
  pub opens : (state : A) (own : X) (rest : List X) → walk state (own ∷ rest) ≡ (test state own >>= (λ _. walk (add state own) rest))

pub test_went : {X A : Type 0} (by : Tests X A) (items : List X) (index : ℕ) (own : X) (state after : A) (went : Unit {0}) (whole : Test) → index < length items → own ≡ get_or items index own → by.test state own ≡ Ok went → after ≡ by.add state own → by.walk state (drop index items) ≡ whole → by.walk after (drop (index + 1) items) ≡ whole
test_went by items index own state after went whole within is tested adds before =
    ap (λ state. by.walk state (drop (index + 1) items)) adds
    ∙ sym (ap (by.walk state) (one_of items index own within is)
    ∙ by.opens state own (drop (index + 1) items)
    ∙ ap (λ found. found >>= (λ _. by.walk (by.add state own) (drop (index + 1) items))) tested)
    ∙ before

test_on : (found next : Test) (end : CheckError) → Says found (Err end) → Says (found >>= (λ _. next)) (Err end)
test_on found next (end_of.Wrong kind at) said = ap (λ own. own >>= (λ _. next)) said
test_on found next end_of.Memory said = tt

pub test_failed : {X A : Type 0} (by : Tests X A) (items : List X) (index : ℕ) (own : X) (state : A) (whole : Test) (end : CheckError) (answer : Result (Unit {0}) CheckError) → index < length items → own ≡ get_or items index own → Says (by.test state own) (Err end) → by.walk state (drop index items) ≡ whole → IsErr answer → IsErrAnd answer (λ own. own ≡ end) → Says whole answer
test_failed by items index own state whole end answer within is said before =
    says_as (by.test state own >>= (λ _. by.walk (by.add state own) (drop (index + 1) items))) whole end answer
    (sym (ap (by.walk state) (one_of items index own within is) ∙ by.opens state own (drop (index + 1) items)) ∙ before)
    (test_on (by.test state own) (by.walk (by.add state own) (drop (index + 1) items)) end said)
