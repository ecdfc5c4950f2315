-- Items gone through one by one: a test of each, what is found in it, and what the two add to what is behind.
use Rattle.std.proofs.Common.{◌≡◌, ℕ, ◌+◌, ◌<◌, List, ◌∷◌, length, get_or, drop, Result, Ok, Err, sym, subst, ap, ◌∙◌}
use Rattle.std.specs.Result.{IsErr, IsErrAnd}
use Rattle.dsde_language.specs.declared.wrong.Wrong.{Wrong}
use Rattle.dsde_language.specs.Steps.{◌>>=◌, Test}
use Rattle.dsde_language.specs.lemmas.Lists.{one_of}
use Rattle.dsde_check_scope.specs.declared.error.CheckError.{CheckError}
use Rattle.dsde_check_scope.specs.declared.error.CheckError.TheVariants as end_of
use Rattle.dsde_check_scope.specs.Says.{Says, Leaves}

-- a walk over items
pub record Walk (X A S : Type 0) : Type 0 where
  pub walk : A → List X → Result A Wrong
  pub test : A → X → Test
  pub found : X → Result S Wrong
  pub add : A → X → S → A
  pub opens : (state : A) (own : X) (rest : List X) → walk state (own ∷ rest) ≡ (test state own >>= (λ _. found own >>= (λ seen. walk (add state own seen) rest)))

opened : {X A S : Type 0} (by : Walk X A S) (items : List X) (index : ℕ) (own : X) (state : A) → index < length items → own ≡ get_or items index own → by.walk state (drop index items) ≡ (by.test state own >>= (λ _. by.found own >>= (λ seen. by.walk (by.add state own seen) (drop (index + 1) items))))
opened by items index own state within is = ap (by.walk state) (one_of items index own within is) ∙ by.opens state own (drop (index + 1) items)

tested : {X A S : Type 0} (by : Walk X A S) (items : List X) (index : ℕ) (own : X) (state : A) (went : Unit {0}) → index < length items → own ≡ get_or items index own → by.test state own ≡ Ok went → by.walk state (drop index items) ≡ (by.found own >>= (λ seen. by.walk (by.add state own seen) (drop (index + 1) items)))
tested by items index own state went within is test =
    opened by items index own state within is ∙ ap (λ test. test >>= (λ _. by.found own >>= (λ seen. by.walk (by.add state own seen) (drop (index + 1) items)))) test

-- an item in which nothing is wrong: what is left gives the same behind it
pub item_went : {X A S : Type 0} (by : Walk X A S) (items : List X) (index : ℕ) (own : X) (state after : A) (seen : S) (went : Unit {0}) (whole : Result A Wrong) → index < length items → own ≡ get_or items index own → by.test state own ≡ Ok went → by.found own ≡ Ok seen → after ≡ by.add state own seen → by.walk state (drop index items) ≡ whole → by.walk after (drop (index + 1) items) ≡ whole
item_went by items index own state after seen went whole within is test found adds before =
    ap (λ state. by.walk state (drop (index + 1) items)) adds
    ∙ sym (tested by items index own state went within is test ∙ ap (λ found. found >>= (λ seen. by.walk (by.add state own seen) (drop (index + 1) items))) found)
    ∙ before

-- what is wrong is wrong whatever comes next
failed : {A B : Type 0} (found : Result A Wrong) (next : A → Result B Wrong) (after : B) (end : CheckError) → Says found (Err end) → Leaves (found >>= next) (Err end) after
failed found next after (end_of.Wrong kind at) said = ap (λ own. own >>= next) said
failed found next after end_of.Memory said = tt

passed_on : {B : Type 0} (meant whole : Result B Wrong) (after : B) (end : CheckError) (answer : Result (Unit {0}) CheckError) → meant ≡ whole → Leaves meant (Err end) after → IsErr answer → IsErrAnd answer (λ own. own ≡ end) → Leaves whole answer after
passed_on meant whole after end (Err own) same left _ passed = subst (λ other. Leaves whole (Err other) after) (sym passed) (subst (λ other. Leaves other (Err end) after) same left)
passed_on meant whole after end (Ok _) same left none passed = absurd (cc none)

-- an item whose test fails
pub test_failed : {X A S : Type 0} (by : Walk X A S) (items : List X) (index : ℕ) (own : X) (state after : A) (whole : Result A Wrong) (end : CheckError) (answer : Result (Unit {0}) CheckError) → index < length items → own ≡ get_or items index own → Says (by.test state own) (Err end) → by.walk state (drop index items) ≡ whole → IsErr answer → IsErrAnd answer (λ own. own ≡ end) → Leaves whole answer after
test_failed by items index own state after whole end answer within is said before =
    passed_on (by.test state own >>= (λ _. by.found own >>= (λ seen. by.walk (by.add state own seen) (drop (index + 1) items)))) whole after end answer (sym (opened by items index own state within is) ∙ before)
    (failed (by.test state own) (λ _. by.found own >>= (λ seen. by.walk (by.add state own seen) (drop (index + 1) items))) after end said)

-- an item in which something is wrong behind its test
pub item_failed : {X A S : Type 0} (by : Walk X A S) (items : List X) (index : ℕ) (own : X) (state after : A) (went : Unit {0}) (whole : Result A Wrong) (end : CheckError) (answer : Result (Unit {0}) CheckError) → index < length items → own ≡ get_or items index own → by.test state own ≡ Ok went → Says (by.found own) (Err end) → by.walk state (drop index items) ≡ whole → IsErr answer → IsErrAnd answer (λ own. own ≡ end) → Leaves whole answer after
item_failed by items index own state after went whole end answer within is test said before =
    passed_on (by.found own >>= (λ seen. by.walk (by.add state own seen) (drop (index + 1) items))) whole after end answer (sym (tested by items index own state went within is test) ∙ before)
    (failed (by.found own) (λ seen. by.walk (by.add state own seen) (drop (index + 1) items)) after end said)
