-- Who is due, by handles.
use Rattle.std.proofs.Common.{◌≡◌, ℕ, true, false, List, [], ◌∷◌, map, Option, Some, None, refl, ap, inl, inr}
use Rattle.dsde_bank.specs.declared.handle.Handle.{Handle}
use Rattle.dsde_sim_tree.specs.given.formalism.leaf_Leaf.{Leaf}
use Rattle.dsde_sim_tree.specs.given.formalism.Leaf.{is_due}
use Rattle.dsde_core_moves.specs.given.grove.Grove.{Grove, value_of}
use Rattle.dsde_routes_pushing.specs.lemmas.Lists.{Among}
use Rattle.dsde_core_moves.specs.given.core_flat.spot_Spot.{Spot}
use Rattle.dsde_core_moves.specs.given.core_flat.spot_Spot_TheVariants as variant
use Rattle.dsde_core_moves.specs.given.core_flat.Scheduled.{held_leaf, is_next}
use Rattle.dsde_core_moves.specs.given.core_flat.due_Due.{Due}
use Rattle.dsde_core_moves.specs.given.core_flat.Due.{handle_of}

pub among-map : {X Y : Type 0} (f : X → Y) (x : X) (xs : List X) → Among x xs → Among (f x) (map f xs)
among-map f x [] there = absurd there
among-map f x (y ∷ xs) (inl same) = inl (ap f same)
among-map f x (y ∷ xs) (inr there) = inr (among-map f x xs there)

pub map-among : {X Y : Type 0} (f : X → Y) (y : Y) (xs : List X) → Among y (map f xs) → (x : X) × Among x xs × (y ≡ f x)
map-among f y [] there = absurd there
map-among f y (x ∷ xs) (inl same) = (x, inl refl, same)
map-among f y (x ∷ xs) (inr there) = let found = map-among f y xs there in (found.0, inr found.1, found.2)

pub find-due : (handle : Handle) (own : List Due) → Among handle (map handle_of own) → (one : Due) × Among one own × (handle ≡ one.handle)
find-due handle own there = map-among handle_of handle own there

-- the leaf that is held
pub held-is : (held : Option Spot) (own : Leaf) → (let found : Option Leaf = Some own in found) ≡ held_leaf held → held ≡ Some (variant.Leaf own)
held-is None own is = absurd (let wrong : (let found : Option Leaf = Some own in found) ≡ None = is in cc)
held-is (Some (variant.Net model args)) own is = absurd (let wrong : (let found : Option Leaf = Some own in found) ≡ None = is in cc)
held-is (Some (variant.Leaf other)) own is = ap (λ (one : Leaf). Some (variant.Leaf one)) (one-leaf other own is)
  where
    one-leaf : (other own : Leaf) → (let found : Option Leaf = Some own in found) ≡ Some other → other ≡ own
    one-leaf other own is = cc

-- who is due lives
pub due-held : (own : Grove Spot) (time : ℕ) (handle : Handle) → is_next (value_of own handle) time ≡ true → (leaf : Leaf) × (value_of own handle ≡ Some (variant.Leaf leaf)) × (is_due leaf time ≡ true)
due-held own time handle next = by (value_of own handle) refl next
  where
    by : (held : Option Spot) → value_of own handle ≡ held → is_next held time ≡ true → (leaf : Leaf) × (value_of own handle ≡ Some (variant.Leaf leaf)) × (is_due leaf time ≡ true)
    by None is next = absurd (let wrong : false ≡ true = next in cc)
    by (Some (variant.Leaf leaf)) is next = (leaf, is, next)
    by (Some (variant.Net model args)) is next = absurd (let wrong : false ≡ true = next in cc)
