-- What lies under other handles than one that gets another part.
use Rattle.std.proofs.Common.{◌≡◌, ◌≢◌, ◌==◌, ◌∙◌, inl, inr, ℕ, Bool, true, false, cond, Option, Some, None, option_and_then, refl, sym, ap, eqb-true}
use Rattle.std.specs.Option.{option_map}
use Rattle.std.specs.FinMap as map
use Rattle.dsde_bank.specs.declared.handle.Handle.{Handle}
use Rattle.dsde_core_flat.specs.given.grove.Grove as grove
use Rattle.dsde_core_flat.specs.given.grove.Grove.{Grove, in_slot, spot, value_of, with_value}
use Rattle.dsde_core_flat.specs.declared.spot.Spot.{Spot}
use Rattle.dsde_core_flat.specs.lemmas.Groves.{same-or-not, spot-slot, valued-other, valued-there}
use Rattle.dsde_core_flat.specs.lemmas.Keeping.{spot-got}

-- a part is not found in a slot that is not its own
slot-none : (slot : ℕ) (part : grove.Spot Spot) (b : Bool) → (part.slot == slot) ≡ b → part.slot ≢ slot → (let found : Option (grove.Spot Spot) = cond b (Some part) None in found) ≡ None
slot-none slot part true is apart = absurd (apart (eqb-true part.slot slot is))
slot-none slot part false is apart = refl

none-there : (slot : ℕ) (part : grove.Spot Spot) → part.slot ≢ slot → in_slot slot part ≡ None
none-there slot part apart = slot-none slot part (part.slot == slot) refl apart

module _ (own : Grove Spot) (handle : Handle) (value : Spot) (part : grove.Spot Spot) (live : spot own handle ≡ Some part) where
  abbrev its : grove.Spot Spot
  its = record part { value = value }

  spot-other : (other : Handle) → other ≢ handle → spot (with_value own handle value) other ≡ spot own other
  spot-other other apart = elim (same-or-not other.birth handle.birth) [
    | inl same ↦
        let differ : part.slot ≢ other.slot = λ slots. apart (let is : other.slot ≡ handle.slot = sym slots ∙ spot-slot own handle part live in λ i. record { birth = same i; slot = is i }) in
        let new : map.get (with_value own handle value).parts other.birth ≡ Some its = ap (map.get (with_value own handle value).parts) same ∙ valued-there own handle value part live in
        let old : map.get own.parts other.birth ≡ Some part = ap (map.get own.parts) same ∙ spot-got own handle part live in
        ap (option_and_then (in_slot other.slot)) new ∙ none-there other.slot its differ
        ∙ sym (ap (option_and_then (in_slot other.slot)) old ∙ none-there other.slot part differ)
    | inr births ↦ ap (option_and_then (in_slot other.slot)) (valued-other own handle value part live other.birth births)
  ]

  -- under another handle lies what lay there
  pub value-other : (other : Handle) → other ≢ handle → value_of (with_value own handle value) other ≡ value_of own other
  value-other other apart = ap (option_map (λ (p : grove.Spot Spot). p.value)) (spot-other other apart)
