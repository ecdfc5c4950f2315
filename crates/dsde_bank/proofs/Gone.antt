-- A handle that finds nothing, and whose birth was given before, finds nothing in any later bank.
use Rattle.std.proofs.Common.{◌≡◌, ◌≢◌, ℕ, ◌+◌, ◌<◌, option_and_then, ap, ◌∙◌, inl, inr, arith}
use Rattle.std.proofs.lemmas.Bool.{cases_eq}
use Rattle.std.specs.FinMap as fin
use Rattle.dsde_bank.specs.declared.handle.Handle.{Handle}
use Rattle.dsde_bank.specs.Bank.{Bank, in_slot, IsGone}
use Rattle.dsde_bank.proofs.Births.{get-insert_other, get-remove_same, get-remove_other}

module _ {T : Type 0} (old new : Bank T) (handle : Handle) (gone : IsGone old handle) where
  pub IsGone-same_birth : fin.get new.held handle.birth ≡ fin.get old.held handle.birth → old.next_birth < new.next_birth + 1 → IsGone new handle
  IsGone-same_birth same later = record {
    absent = ap (option_and_then (in_slot handle.slot)) same ∙ gone.absent;
    given = omega (arith, gone.given, later);
  }

  pub IsGone-insert : (placed : ℕ × T) → new.held ≡ fin.insert old.held old.next_birth placed → new.next_birth ≡ old.next_birth + 1 → IsGone new handle
  IsGone-insert placed held next =
      let other : handle.birth ≢ old.next_birth = omega (arith, gone.given) in
      IsGone-same_birth (ap (λ m. fin.get m handle.birth) held ∙ get-insert_other old.held old.next_birth placed handle.birth other) (omega (arith, next))

  pub IsGone-remove : (birth : ℕ) → new.held ≡ fin.remove old.held birth → new.next_birth ≡ old.next_birth → IsGone new handle
  IsGone-remove birth held next =
      elim (cases_eq handle.birth birth) [
        | inl same ↦
            record {
              absent = ap (option_and_then (in_slot handle.slot)) (ap (fin.get new.held) same ∙ ap (λ m. fin.get m birth) held ∙ get-remove_same old.held birth);
              given = omega (arith, gone.given, next);
            }
        | inr other ↦ IsGone-same_birth (ap (λ m. fin.get m handle.birth) held ∙ get-remove_other old.held birth handle.birth other) (omega (arith, next))
      ]
