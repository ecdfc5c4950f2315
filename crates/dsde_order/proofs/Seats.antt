-- The seat of names by their last.
use Rattle.std.proofs.Common.{◌≡◌, ◌&&◌, Bool, true, false, List, [], ◌∷◌, ◌++◌, refl, sym, ◌∙◌, ap, subst}
use Rattle.std.specs.Cmp.{IsTotalOrder}
use Rattle.std.specs.Prelude.{if◌then◌else◌}
use Rattle.std.specs.List.{starts_with}
use Rattle.dsde_values.specs.declared.name.Name.{Name}
use Rattle.dsde_values.specs.Path.{EXEC, is_executive, name_cmp}
use Rattle.dsde_structure.specs.Gather.{is_same_name}
use Rattle.dsde_sim_movers.specs.Places.{begin_with}
use Rattle.dsde_sim_movers.specs.Movers.{Seat, seat_of, seat_within}
use Rattle.dsde_sim_movers.specs.lemmas.Named.{not-executive}

pub exec-same : IsTotalOrder name_cmp → ((name other : Name) → is_same_name name other ≡ true → name ≡ other) → (name : Name) → is_same_name EXEC name ≡ is_executive name
exec-same total exact name = by_case (is_same_name EXEC name) refl
  where
    by_case : (here : Bool) → is_same_name EXEC name ≡ here → is_same_name EXEC name ≡ is_executive name
    by_case true is = is ∙ sym (subst (λ (own : Name). is_executive own ≡ true) (exact EXEC name is) refl)
    by_case false is = is ∙ sym (not-executive total name is)

seat-more : (name : Name) (front : List Name) (last : Name) → seat_of (name ∷ front ++ last ∷ []) ≡ seat_within name (seat_of (front ++ last ∷ []))
seat-more name [] last = refl
seat-more name (first ∷ front) last = refl

pub seat-boss : (front : List Name) (last : Name) → is_same_name EXEC last ≡ true → seat_of (front ++ last ∷ []) ≡ record { names = front; is_boss = true }
seat-boss [] last is = ap (λ (here : Bool). let seat : Seat = if here then record { names = []; is_boss = true } else record { names = last ∷ []; is_boss = false } in seat) is
seat-boss (name ∷ front) last is = seat-more name front last ∙ ap (seat_within name) (seat-boss front last is)

pub seat-plain : (front : List Name) (last : Name) → is_same_name EXEC last ≡ false → seat_of (front ++ last ∷ []) ≡ record { names = front ++ last ∷ []; is_boss = false }
seat-plain [] last is = ap (λ (here : Bool). let seat : Seat = if here then record { names = []; is_boss = true } else record { names = last ∷ []; is_boss = false } in seat) is
seat-plain (name ∷ front) last is = seat-more name front last ∙ ap (seat_within name) (seat-plain front last is)

pub begins : (front names : List Name) → starts_with is_same_name names front ≡ begin_with front names
begins [] names = refl
begins (name ∷ front) [] = refl
begins (name ∷ front) (other ∷ names) = ap (λ (rest : Bool). is_same_name name other && rest) (begins front names)

module _ (total : IsTotalOrder name_cmp) (exact : (name other : Name) → is_same_name name other ≡ true → name ≡ other) where
  pub by-boss : (names front : List Name) (last : Name) (here : Bool) → names ≡ front ++ last ∷ [] → here ≡ is_executive last → here ≡ true → seat_of names ≡ record { names = front; is_boss = true }
  by-boss names front last here is said true_is = ap seat_of is ∙ seat-boss front last (exec-same total exact last ∙ sym said ∙ true_is)

  pub by-plain : (names front : List Name) (last : Name) (here : Bool) → names ≡ front ++ last ∷ [] → here ≡ is_executive last → here ≡ false → seat_of names ≡ record { names = names; is_boss = false }
  by-plain names front last here is said false_is =
      ap seat_of is ∙ seat-plain front last (exec-same total exact last ∙ sym said ∙ false_is) ∙ ap (λ (own : List Name). let seat : Seat = record { names = own; is_boss = false } in seat) (sym is)
