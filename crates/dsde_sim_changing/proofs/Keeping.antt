-- What survives a change keeps what all components had.
use Rattle.std.proofs.Common.{◌≡◌, Bool, true, false, cond, List, [], ◌∷◌, map, refl, subst}
use Rattle.std.specs.List.{filter, AllByRecursion}
use Rattle.std.specs.List.Sorted.{IsStrictlySortedBy}
use Rattle.std.proofs.lemmas.Map.Keys.{sorted_head, sorted_tail}
use Rattle.std.proofs.lemmas.Simd.{map-map}
use Rattle.dsde_values.specs.declared.name.Name.{Name}
use Rattle.dsde_values.specs.Path.{name_cmp}
use Rattle.dsde_sim_tree.specs.given.structure.plan_Entry.{Entry}
use Rattle.dsde_sim_tree.specs.given.structure.Survival.{AreInOrder, IsInOrder}
use Rattle.dsde_sim_tree.specs.declared.sim.Kid.{Kid}
use Rattle.dsde_sim_tree.specs.Tree.{entry_of, name_of}
use Rattle.dsde_sim_changing.proofs.Orders.{IsBefore}

each-cond : {A : Type 0} (P : A → Type 0) (b : Bool) (x : A) (xs : List A) → P x → AllByRecursion P xs → AllByRecursion P (cond b (x ∷ xs) xs)
each-cond P true x xs here each = (here, each)
each-cond P false x xs here each = each

pub each-filter : {A : Type 0} (P : A → Type 0) (test : A → Bool) (xs : List A) → AllByRecursion P xs → AllByRecursion P (filter test xs)
each-filter P test [] each = tt
each-filter P test (x ∷ xs) each = each-cond P (test x) x (filter test xs) each.0 (each-filter P test xs each.1)

passes-cond : {A : Type 0} (test : A → Bool) (b : Bool) (x : A) (xs : List A) → test x ≡ b → AllByRecursion (λ y. test y ≡ true) xs → AllByRecursion (λ y. test y ≡ true) (cond b (x ∷ xs) xs)
passes-cond test true x xs is each = (is, each)
passes-cond test false x xs is each = each

pub filter-passes : {A : Type 0} (test : A → Bool) (xs : List A) → AllByRecursion (λ x. test x ≡ true) (filter test xs)
filter-passes test [] = tt
filter-passes test (x ∷ xs) = passes-cond test (test x) x (filter test xs) refl (filter-passes test xs)

before-cond : (name : Name) (b : Bool) (kid : Kid) (kids : List Kid) → IsBefore name (map name_of (kid ∷ kids)) → IsBefore name (map name_of (cond b (kid ∷ kids) kids))
before-cond name true kid kids before = before
before-cond name false kid kids before = before.1

before-filter : (name : Name) (test : Kid → Bool) (kids : List Kid) → IsBefore name (map name_of kids) → IsBefore name (map name_of (filter test kids))
before-filter name test [] before = tt
before-filter name test (kid ∷ kids) before = before-cond name (test kid) kid (filter test kids) (before.0, before-filter name test kids before.1)

order-cond : (b : Bool) (kid : Kid) (kids : List Kid) → IsBefore (name_of kid) (map name_of kids) → AreInOrder (map name_of kids) → AreInOrder (map name_of (cond b (kid ∷ kids) kids))
unfolding IsStrictlySortedBy
order-cond true kid kids before sorted = (before, sorted)
order-cond false kid kids before sorted = sorted

pub order-filter : (test : Kid → Bool) (kids : List Kid) → AreInOrder (map name_of kids) → AreInOrder (map name_of (filter test kids))
order-filter test [] sorted = sorted
order-filter test (kid ∷ kids) sorted =
    order-cond (test kid) kid (filter test kids)
    (before-filter (name_of kid) test kids (sorted_head name_cmp (name_of kid) (map name_of kids) sorted))
    (order-filter test kids (sorted_tail name_cmp (name_of kid) (map name_of kids) sorted))

-- components stand in the order of their entries
pub kids-in-order : (kids : List Kid) → IsInOrder (map entry_of kids) → AreInOrder (map name_of kids)
kids-in-order kids order = subst AreInOrder (map-map (λ (entry : Entry). entry.name) entry_of kids) order
