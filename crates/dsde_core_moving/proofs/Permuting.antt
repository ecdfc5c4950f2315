-- A network stands whatever the order of its components.
use Rattle.std.proofs.Common.{◌≡◌, ◌⊎◌, inl, inr, ℕ, List, [], ◌∷◌, ◌++◌, map, refl, sym, subst}
use Rattle.std.specs.Prelude.{IsPermutation}
use Rattle.std.specs.List.{AllByRecursion, IsDistinct}
use Rattle.std.proofs.lemmas.Cmp.{eq_by_cmp_equiv}
use Rattle.std.proofs.lemmas.List.{map-append}
use Rattle.std.proofs.lemmas.List.Sorted.{Contains-permutation, IsPermutation-map, IsPermutation-sym}
use Rattle.std.proofs.lemmas.Map.Keys.{IsDistinct-from_sorted, IsDistinct-IsPermutation}
use Rattle.dsde_bank.specs.declared.handle.Handle.{Handle}
use Rattle.dsde_values.specs.declared.name.Name.{Name}
use Rattle.dsde_values.specs.declared.path.Path.{Path}
use Rattle.dsde_values.specs.Path.{name_cmp}
use Rattle.dsde_structure.specs.declared.plan.Entry.{Entry}
use Rattle.dsde_structure.specs.Gather.{is_same_name}
use Rattle.dsde_structure.specs.Survival.{names, AreInOrder}
use Rattle.dsde_sim_movers.specs.lemmas.Events.{among-from, contains-from, each-flat, flat-each, Among}
use Rattle.dsde_grove.specs.Grove.{Grove, value_of}
use Rattle.dsde_sim_tree.specs.declared.sim.Kid.{Kid}
use Rattle.dsde_sim_tree.specs.Tree.{name_of as kid_name}
use Rattle.dsde_routes_wiring.specs.declared.wiring.WiredKid.{WiredKid}
use Rattle.dsde_repair.proofs.Ordered.{each-ordered}
use Rattle.dsde_repair_walks.specs.Found.{name_of}
use Rattle.dsde_core_moves.specs.given.core_flat.spot_Spot.{Spot}
use Rattle.dsde_core_moves.specs.given.core_flat.Handles.{kid_called, IsItself}
use Rattle.dsde_core_moves.specs.given.core_flat.Places.{kid_places, places_of, Place}
use Rattle.dsde_core_moves.specs.given.core_flat.Shown.{kid_under}
use Rattle.dsde_core_moves.specs.given.core_flat.Stands.{HasBirth, NetStands, StandsAt}
use Rattle.dsde_core_moves.specs.given.core_flat.lemmas_Apart.{name-shown}
use Rattle.dsde_core_moves.specs.given.core_flat.lemmas_Grafting.{birth-left, birth-right}
use Rattle.dsde_core_moves.specs.given.core_flat.lemmas_Names.{names-total}
use Rattle.dsde_core_moves.specs.Chosen.{shown}

births-split : (birth : ℕ) (xs ys : List Place) → HasBirth birth (xs ++ ys) → HasBirth birth xs ⊎ HasBirth birth ys
births-split birth [] ys has = inr has
births-split birth (x ∷ xs) ys (inl here) = inl (inl here)
births-split birth (x ∷ xs) ys (inr later) = elim (births-split birth xs ys later) [ inl one ↦ inl (inr one) | inr other ↦ inr other ]

-- a birth among the places of components is one of a component's
birth-of : (birth : ℕ) (path : Path) (kids : List WiredKid) → HasBirth birth (places_of path kids) → (kid : WiredKid) × Among kid kids × HasBirth birth (kid_places kid path)
birth-of birth path [] has = absurd has
birth-of birth path (kid ∷ kids) has = elim (births-split birth (kid_places kid path) (places_of path kids) has) [
  | inl here ↦ (kid, inl refl, here)
  | inr there ↦ let found = birth-of birth path kids there in (found.0, inr found.1, found.2)
]

birth-there : (birth : ℕ) (path : Path) (kids : List WiredKid) (kid : WiredKid) → Among kid kids → HasBirth birth (kid_places kid path) → HasBirth birth (places_of path kids)
birth-there birth path [] kid among has = absurd among
birth-there birth path (one ∷ kids) kid (inl same) has = birth-left birth (kid_places one path) (places_of path kids) (subst (λ (k : WiredKid). HasBirth birth (kid_places k path)) same has)
birth-there birth path (one ∷ kids) kid (inr later) has = birth-right birth (kid_places one path) (places_of path kids) (birth-there birth path kids kid later has)

pub net-permuted : (own : Grove Spot) (handle last : Handle) (path : Path) (xs ys : List WiredKid) → IsPermutation xs ys → NetStands own handle last path xs → NetStands own handle last path ys
net-permuted own handle last path xs ys same stands = record {
  itself = stands.itself;
  executive = stands.executive;
  components = flat-each (StandsAt own) (λ kid. kid_places kid path) ys (each-ordered (λ kid. AllByRecursion (StandsAt own) (kid_places kid path)) xs ys same (each-flat (StandsAt own) (λ kid. kid_places kid path) xs stands.components));
  themselves = flat-each IsItself kid_called ys (each-ordered (λ kid. AllByRecursion IsItself (kid_called kid)) xs ys same (each-flat IsItself kid_called xs stands.themselves));
  only = λ birth part is leads. elim (stands.only birth part is leads) [
    | inl here ↦ inl here
    | inr other ↦ elim other [
      | inl executive ↦ inr (inl executive)
      | inr there ↦
          let found = birth-of birth path xs there in
          inr (inr (birth-there birth path ys found.0 (among-from ys found.0 (Contains-permutation xs ys found.0 same (contains-from xs found.0 found.1))) found.2))
    ]
  ];
}

-- names of components are those of what they show
pub names-shown : (own : Grove Spot) (kids : List WiredKid) → map kid_name (shown own kids) ≡ map name_of kids
names-shown own [] = refl
names-shown own (kid ∷ kids) = λ i. name-shown (value_of own) kid i ∷ names-shown own kids i

flips : (one other : Name) → is_same_name one other ≡ is_same_name other one
flips one other = (eq_by_cmp_equiv names-total).symm one other

-- components that show others than those of entries in order, in another order, have names that differ
pub names-differ : (own : Grove Spot) (kids : List WiredKid) (all : List Kid) (entries : List Entry) → AreInOrder (names entries) → map kid_name all ≡ names entries → IsPermutation (shown own kids) all → IsDistinct is_same_name (map name_of kids)
names-differ own kids all entries order are same =
    let sorted : IsDistinct is_same_name (map kid_name all) = subst (IsDistinct is_same_name) (sym are) (IsDistinct-from_sorted name_cmp (names entries) order) in
    subst (IsDistinct is_same_name) (names-shown own kids)
    (IsDistinct-IsPermutation is_same_name flips (map kid_name all) (map kid_name (shown own kids)) (IsPermutation-sym (map kid_name (shown own kids)) (map kid_name all) (IsPermutation-map kid_name (shown own kids) all same)) sorted)

pub shown-join : (own : Grove Spot) (xs ys : List WiredKid) → shown own (xs ++ ys) ≡ shown own xs ++ shown own ys
shown-join own xs ys = map-append (kid_under (value_of own)) xs ys
