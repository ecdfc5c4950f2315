-- Whoever an executive is not above is where it was.
use Rattle.std.proofs.Common.{◌≡◌, ◌∙◌, ◌&&◌, true, false, List, [], ◌∷◌, ◌++◌, length, drop, Result, Ok, Err, OnOk, refl, sym, ap, append_assoc}
use Rattle.std.specs.Option.{option_map}
use Rattle.std.specs.List.{AllByRecursion}
use Rattle.dsde_values.specs.declared.name.Name.{Name}
use Rattle.dsde_values.specs.declared.path.Path.{Path}
use Rattle.dsde_values.specs.Path.{root}
use Rattle.dsde_syntax.specs.declared.decl.Model.{Model}
use Rattle.dsde_sim_tree.specs.declared.fault.TurnEnd.{TurnEnd}
use Rattle.dsde_grove.specs.Grove as grove
use Rattle.dsde_grove.specs.Grove.{spot, value_of, Grove}
use Rattle.dsde_sim_movers.specs.Places.{begin_with}
use Rattle.dsde_sim_movers.specs.Movers.{seat_behind, seat_of, Seat}
use Rattle.dsde_sim_movers.specs.lemmas.Seats.{drop-front, seat-within}
use Rattle.dsde_sim_movers.specs.Orders.{is_above}
use Rattle.dsde_core_moves.specs.given.core_flat.spot_Spot.{Spot}
use Rattle.dsde_core_moves.specs.given.core_flat.Stands.{ChangesBeneath, Leads}
use Rattle.dsde_core_moves.specs.given.core_flat.lemmas_Beneath.{IsNoBoss}
use Rattle.dsde_core_moves.specs.given.core_flat.lemmas_Groves.{changes-twice}
use Rattle.dsde_core_moves.specs.given.core_flat.lemmas_Keeping.{spot-got, spot-same}
use Rattle.dsde_core_moves.specs.given.core_flat.lemmas_Names.{same-itself}
use Rattle.dsde_core_moves.specs.declared.flat.Flat.{Flat}
use Rattle.dsde_core_moves.specs.declared.flat.Mover.{Mover}
use Rattle.dsde_core_moves.specs.Flat.{delivery_of, IsThere, Stands}
use Rattle.dsde_core_moving.specs.Executive.{IsExecutive}
use Rattle.dsde_core_moving.proofs.Owning.{none, path, place, seat-is}

never : true ≡ false → ⊥
never wrong = cc

-- a seat behind a place begins with it
begins : (place more : List Name) → AllByRecursion IsNoBoss place → begin_with place (seat_of (place ++ more)).names ≡ true
begins [] more none = refl
begins (name ∷ place) more none =
    ap (λ (seat : Seat). begin_with (name ∷ place) seat.names) (seat-within name (place ++ more) none.0)
    ∙ (λ i. same-itself name i && begins place more none.1 i)

module _ (model : Model) (flat : Flat) (mover : Mover) (stands : Stands model flat) (there : IsThere flat mover) (at : IsExecutive flat mover) where
  abbrev its_place : List Name
  its_place = place model flat mover stands there at

  abbrev its_path : Path
  its_path = path model flat mover stands there at

  -- who it is not above does not lie beneath its network
  apart-there : (other : Mover) (its : IsThere flat other) → is_above root (delivery_of mover) (delivery_of other) ≡ false → ¬ Leads its_path.names its.part.path
  apart-there other its spared leads =
      let over : begin_with its_place (seat_behind root other.path).names ≡ false =
      ap (λ (seat : Seat). seat.is_boss && begin_with seat.names (seat_behind root other.path).names) (sym (seat-is model flat mover stands there at)) ∙ spared in
      let names : other.path.names ≡ root.names ++ (its_place ++ leads.rest) = sym its.path ∙ leads.is ∙ append_assoc root.names its_place leads.rest in
      let seat : seat_behind root other.path ≡ seat_of (its_place ++ leads.rest) =
      ap (λ (own : List Name). seat_of (drop (length root.names) own)) names ∙ ap seat_of (drop-front root.names (its_place ++ leads.rest)) in
      never (sym (begins its_place leads.rest (none model flat mover stands there at)) ∙ ap (λ (own : Seat). begin_with its_place own.names) (sym seat) ∙ over)

  module _ (new : Grove Spot) (changes : ChangesBeneath its_path.names flat.grove new) (other : Mover) (spared : is_above root (delivery_of mover) (delivery_of other) ≡ false) (its : IsThere flat other) where
    spot-there : spot new other.handle ≡ spot flat.grove other.handle
    spot-there =
        spot-same flat.grove new other.handle its.part its.live
        (changes.kept other.handle.birth its.part (spot-got flat.grove other.handle its.part its.live) (apart-there other its spared))

    pub still-there : (next : Flat) → next.grove ≡ new → IsThere next other
    still-there next is = record {
      part = its.part;
      live = ap (λ (g : Grove Spot). spot g other.handle) is ∙ spot-there ∙ its.live;
      path = its.path;
      kind = its.kind;
    }

    pub still-held : value_of new other.handle ≡ value_of flat.grove other.handle
    still-held = ap (option_map (λ (part : grove.Spot Spot). part.value)) spot-there

  -- beneath its network alone there were changes, and then more
  pub others-by : {T : Type 0} (mid : Grove Spot) (next : Flat) (result : Result T TurnEnd) → ChangesBeneath its_path.names flat.grove mid → OnOk result (ChangesBeneath its_path.names mid next.grove) →
      OnOk result ((other : Mover) → is_above root (delivery_of mover) (delivery_of other) ≡ false → IsThere flat other → IsThere next other)
  others-by mid next (Ok done) first more = λ other spared its. still-there next.grove (changes-twice its_path.names flat.grove mid next.grove first more) other spared its next refl
  others-by mid next (Err end) first more = tt

  pub kept-by : {T : Type 0} (mid : Grove Spot) (new : Grove Spot) (result : Result T TurnEnd) → ChangesBeneath its_path.names flat.grove mid → OnOk result (ChangesBeneath its_path.names mid new) →
      OnOk result ((other : Mover) → is_above root (delivery_of mover) (delivery_of other) ≡ false → IsThere flat other → value_of new other.handle ≡ value_of flat.grove other.handle)
  kept-by mid new (Ok done) first more = λ other spared its. still-held new (changes-twice its_path.names flat.grove mid new first more) other spared its
  kept-by mid new (Err end) first more = tt
