-- Components found by name.
use Rattle.std.specs.Prelude.{◌≡◌, ℕ, ⊤, ◌++◌, Bool, true, false, List, ◌∷◌, length, map, slice_get, Some, is_some}
use Rattle.std.specs.List.{AllByRecursion}
use Rattle.dsde_values.specs.declared.name.Name.{Name}
use Rattle.dsde_routes_wiring.specs.given.structure.Gather.{is_same_name}
use Rattle.dsde_routes_wiring.specs.given.structure.Survival.{AreInOrder}
use Rattle.dsde_routes_wiring.specs.declared.wiring.WiredKid.{WiredKid}
use Rattle.dsde_routes_wiring.specs.declared.wiring.Wiring.{Wiring}
use Rattle.dsde_routes_wiring.specs.declared.wiring.WiredKid.TheViews.{out-Wiring, out-WiredKid}
use Rattle.dsde_routes_wiring.specs.given.structure.plan_Part.{Part}
use Rattle.dsde_routes_wiring.specs.given.structure.plan_Part_TheVariants as part

abbrev pub name_of : WiredKid → Name
name_of kid = (out-WiredKid kid).name

abbrev pub is_named : Name → WiredKid → Bool
is_named name kid = is_same_name (name_of kid) name

-- components in the order of their names, each name once
abbrev pub InOrder : List WiredKid → Type 0
InOrder kids = AreInOrder (map name_of kids)

-- the component of a name stands at an index, and no other has it
pub record IsAt (name : Name) (kids : List WiredKid) (index : ℕ) : Type 0 where
  pub before : List WiredKid
  pub kid : WiredKid
  pub after : List WiredKid
  pub is : kids ≡ before ++ kid ∷ after
  pub place : length before ≡ index
  pub named : is_named name kid ≡ true
  pub none_before : AllByRecursion (λ other. is_named name other ≡ false) before
  pub none_after : AllByRecursion (λ other. is_named name other ≡ false) after

-- this component is the one of its name
abbrev pub IsOne : Name → List WiredKid → WiredKid → Type 0
IsOne name kids kid = (index : ℕ) × IsAt name kids index × (slice_get kids index ≡ Some kid)

abbrev pub is_net : WiredKid → Bool
is_net kid = is_some (out-WiredKid kid).below

-- The part is neither an executive nor an atomic component: what components have its name are networks.
abbrev pub IsNoLeaf : Wiring → Part → Type 0
IsNoLeaf net part.Net = ⊤
IsNoLeaf net part.Boss = ⊥
IsNoLeaf net (part.Kid name) = AllByRecursion (λ kid. is_named name kid ≡ true → is_net kid ≡ true) (out-Wiring net).kids
