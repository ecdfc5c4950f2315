-- A component that is put where it belongs among others in the order of their names.
use Rattle.std.proofs.Common.{◌≡◌, ℕ, zero, suc, ◌+◌, ◌-◌, ◌<◌, ◌≤◌, Bool, true, false, ◌||◌, length, get_or, take, drop, arith, List, [], ◌∷◌, ◌++◌, append_assoc, Less, Greater, refl, sym, ap, ◌∙◌, subst, if◌then◌else◌}
use Rattle.std.proofs.lemmas.List.{drop_more}
use Rattle.std.specs.Cmp.{IsTotalOrder}
use Rattle.std.specs.List.{AllByRecursion, insert}
use Rattle.std.specs.List.Sorted.{IsStrictlySortedBy}
use Rattle.std.specs.Ordering.{is_eq, is_lt, ordering_reverse}
use Rattle.dsde_values.specs.declared.name.Name.{Name}
use Rattle.dsde_values.specs.Path.{name_cmp}
use Rattle.dsde_executive_plans.specs.given.structure.plan_Entry.{Entry}
use Rattle.dsde_executive_plans.specs.given.structure.Survival.{IsInOrder, names}
use Rattle.dsde_executive_plans.specs.Layout.{inserted, is_there}
use Rattle.dsde_executive_planner.specs.Few.{IsFree}

module _ (total : IsTotalOrder name_cmp) where
  before-at : (first name : Name) (entries : List Entry) (index : ℕ) (d : Entry) → AllByRecursion (λ own. name_cmp first own ≡ Less) (names entries) → index < length entries
      → name_cmp (get_or entries index d).name name ≡ Less → name_cmp first name ≡ Less
  before-at first name [] index d all within less = absurd (omega arith)
  before-at first name (entry ∷ entries) zero d all within less = total.trans first entry.name name all.0 less
  before-at first name (entry ∷ entries) (suc index) d all within less = before-at first name entries index d all.1 (omega arith) less

  -- all up to the last of these, which comes before the name, come before it
  all-before : (entries : List Entry) (index : ℕ) (name : Name) (d : Entry) → IsInOrder entries → index < length entries → name_cmp (get_or entries index d).name name ≡ Less
      → AllByRecursion (λ own. name_cmp own.name name ≡ Less) (take (suc index) entries)
  unfolding IsStrictlySortedBy
  all-before [] index name d order within less = absurd (omega arith)
  all-before (entry ∷ entries) zero name d order within less = (less, tt)
  all-before (entry ∷ entries) (suc index) name d order within less =
      let lower : index < length entries = omega arith in
      (before-at entry.name name entries index d order.0 lower less, all-before entries index name d order.1 lower less)

  -- it belongs before this index
  pub free-behind : (entries : List Entry) (index : ℕ) (name : Name) (own : Entry) → IsInOrder entries → 0 < index → index ≤ length entries → name_cmp (get_or entries (index - 1) own).name name ≡ Less
      → AllByRecursion (λ own. name_cmp own.name name ≡ Greater) (drop index entries) → IsFree name entries index
  free-behind entries index name own order some within less behind =
      let low : index - 1 < length entries = omega arith in
      let one : suc (index - 1) ≡ index = omega arith in
      (within, subst (λ n. AllByRecursion (λ own. name_cmp own.name name ≡ Less) (take n entries)) one (all-before entries (index - 1) name own order low less), behind)

  behind-first : (entry first : Entry) → name_cmp first.name entry.name ≡ Less → is_lt (name_cmp entry.name first.name) ≡ false
  behind-first entry first less = ap is_lt (total.antisymm entry.name first.name ∙ ap ordering_reverse less)

  before-first : (entry first : Entry) → name_cmp first.name entry.name ≡ Greater → is_lt (name_cmp entry.name first.name) ≡ true
  before-first entry first greater = ap is_lt (total.antisymm entry.name first.name ∙ ap ordering_reverse greater)

  -- what is put where it belongs is where it is to be
  pub placed : (entry : Entry) (entries : List Entry) (index : ℕ) → IsFree entry.name entries index → insert entries index entry ≡ inserted entry entries
  placed entry [] zero free = refl
  placed entry [] (suc index) free = refl
  placed entry (first ∷ later) zero free =
      sym (ap (λ (goes : Bool). if goes then entry ∷ first ∷ later else first ∷ inserted entry later) (before-first entry first free.2.0))
  placed entry (first ∷ later) (suc index) free =
      ap (λ (entries : List Entry). first ∷ entries) (placed entry later index (omega (arith, free.0), free.1.1, free.2))
      ∙ sym (ap (λ (goes : Bool). if goes then entry ∷ first ∷ later else first ∷ inserted entry later) (behind-first entry first free.1.0))

  -- one that comes behind all others is put at their end
  pub appended : (entry : Entry) (done : List Entry) → AllByRecursion (λ own. name_cmp own.name entry.name ≡ Less) done → inserted entry done ≡ done ++ entry ∷ []
  appended entry [] all = refl
  appended entry (first ∷ later) all =
      ap (λ (goes : Bool). if goes then entry ∷ first ∷ later else first ∷ inserted entry later) (behind-first entry first all.0)
      ∙ ap (λ (entries : List Entry). first ∷ entries) (appended entry later all.1)

  -- a list in order, put in one by one, is that list
  pub grown : (done : List Entry) (entry : Entry) (rest whole : List Entry) → AllByRecursion (λ own. name_cmp own.name entry.name ≡ Less) done → done ++ entry ∷ rest ≡ whole → inserted entry done ++ rest ≡ whole
  grown done entry rest whole all is = ap (λ (entries : List Entry). entries ++ rest) (appended entry done all) ∙ append_assoc done (entry ∷ []) rest ∙ is

-- one component more behind
pub one-less : (entries : List Entry) (index : ℕ) (name : Name) (own : Entry) → 0 < index → index ≤ length entries → name_cmp (get_or entries (index - 1) own).name name ≡ Greater
    → AllByRecursion (λ own. name_cmp own.name name ≡ Greater) (drop index entries)
    → (index - 1 ≤ length entries) × AllByRecursion (λ own. name_cmp own.name name ≡ Greater) (drop (index - 1) entries)
one-less entries index name own some within greater behind =
    let low : index - 1 < length entries = omega arith in
    let one : index ≡ index - 1 + 1 = omega arith in
    let P : Entry → Type 0 = λ own. name_cmp own.name name ≡ Greater in
    (omega arith, subst (AllByRecursion P) (sym (drop_more entries (index - 1) own low)) (greater, subst (λ n. AllByRecursion P (drop n entries)) one behind))

or-false : (one other : Bool) → one ≡ false → other ≡ false → (one || other) ≡ false
or-false true other is rest = absurd (cc is)
or-false false other is rest = rest

-- a name that is free is that of none
pub absent : (name : Name) (entries : List Entry) (index : ℕ) → IsFree name entries index → is_there name entries ≡ false
absent name [] index free = refl
absent name (first ∷ later) zero free =
    or-false (is_eq (name_cmp first.name name)) (is_there name later) (ap is_eq free.2.0) (absent name later zero (omega arith, tt, free.2.1))
absent name (first ∷ later) (suc index) free =
    or-false (is_eq (name_cmp first.name name)) (is_there name later) (ap is_eq free.1.0) (absent name later index (omega (arith, free.0), free.1.1, free.2))

less-than : (first : Name) (later : List Entry) (entry : Entry) (rest : List Entry) → AllByRecursion (λ own. name_cmp first own ≡ Less) (names (later ++ entry ∷ rest)) → name_cmp first entry.name ≡ Less
less-than first [] entry rest all = all.0
less-than first (own ∷ later) entry rest all = less-than first later entry rest all.1

-- those before one of a list in order come before it
pub before-it : (done : List Entry) (entry : Entry) (rest : List Entry) → IsInOrder (done ++ entry ∷ rest) → AllByRecursion (λ own. name_cmp own.name entry.name ≡ Less) done
unfolding IsStrictlySortedBy
before-it [] entry rest order = tt
before-it (first ∷ later) entry rest order = (less-than first.name later entry rest order.0, before-it later entry rest order.1)

pub none-before : (name : Name) (done : List Entry) → AllByRecursion (λ own. name_cmp own.name name ≡ Less) done → is_there name done ≡ false
none-before name [] all = refl
none-before name (first ∷ later) all = or-false (is_eq (name_cmp first.name name)) (is_there name later) (ap is_eq all.0) (none-before name later all.1)
