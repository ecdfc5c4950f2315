use Rattle.std.proofs.Common.{◌∙◌, ap, refl}
use Rattle.dsde_bank.specs.Slots.{bank_of}
use Rattle.dsde_bank.proofs.Gone.{IsGone-insert}
use Rattle.std.specs.FinMap as map
use Rattle.dsde_bank.proofs.SlotLemmas.{sound-insert, held-insert}
use Rattle.dsde_bank.proofs.bank.Bank.insert_reserved.Goals as goal

pub invariant_of-self : goal.invariant_of-self
invariant_of-self g c =
    let put = c.insert_reserved-slot.ensures in
    sound-insert c.self.inside.slots _ c.self.inside.born _ c.args.value c.self.invariant put.was_vacant put.updates put.len

pub returns-clause-held : goal.returns-clause-held
returns-clause-held g c =
    let put = c.insert_reserved-slot.ensures in
    held-insert c.self.inside.slots _ c.self.inside.born _ c.args.value c.self.invariant put.was_vacant put.updates put.len
    ∙ ap (λ b. map.insert b.held c.self.inside.born (c.insert_reserved-slot.result, c.args.value)) c.self.view_is

pub returns-clause-gone : goal.returns-clause-gone
returns-clause-gone g c handle gone =
    let put = c.insert_reserved-slot.ensures in
    let held = held-insert c.self.inside.slots _ c.self.inside.born _ c.args.value c.self.invariant put.was_vacant put.updates put.len in
    IsGone-insert (bank_of c.self.inside.slots c.self.inside.born) _ handle (rw c.self.view_is gone) _ held refl
