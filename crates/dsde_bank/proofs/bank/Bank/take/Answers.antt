use Rattle.std.proofs.Common.{is_some, ap, sym, ◌∙◌, refl}
use Rattle.dsde_bank.specs.Slots.{bank_of}
use Rattle.dsde_bank.proofs.Gone.{IsGone-remove}
use Rattle.dsde_bank.specs.Bank.{found, without}
use Rattle.dsde_bank.proofs.SlotLemmas.{entry_of, birth_of, sound-take, bank-take, gone-take, found-hit}
use Rattle.dsde_bank.proofs.bank.Bank.take.Goals as goal

pub remove-entry-requires : goal.remove-entry-requires
remove-entry-requires g c =
    let some = ap (λ b. is_some (found b c.args.handle)) c.self.view_is ∙ sym c.if-not-holds.ensures in
    ap is_some (entry_of c.self.inside.slots c.self.inside.born c.args.handle some).1

pub invariant_of-self : goal.invariant_of-self
invariant_of-self g c =
    let s = c.self.inside.slots in
    let born = c.self.inside.born in
    let some = ap (λ b. is_some (found b c.args.handle)) c.self.view_is ∙ sym c.if-not-holds.ensures in
    let out = c.remove-entry.ensures in
    sound-take s _ born c.args.handle _ c.self.invariant out.value (birth_of s born c.args.handle _ some out.value) out.updates out.len

pub returns-clause-value : goal.returns-clause-value
returns-clause-value g c =
    let s = c.self.inside.slots in
    let born = c.self.inside.born in
    let some = ap (λ b. is_some (found b c.args.handle)) c.self.view_is ∙ sym c.if-not-holds.ensures in
    let out = c.remove-entry.ensures in
    sym (found-hit s born c.args.handle _ c.self.invariant.apart out.value (birth_of s born c.args.handle _ some out.value))
    ∙ ap (λ b. found b c.args.handle) c.self.view_is

pub returns-clause-left : goal.returns-clause-left
returns-clause-left g c =
    let s = c.self.inside.slots in
    let born = c.self.inside.born in
    let some = ap (λ b. is_some (found b c.args.handle)) c.self.view_is ∙ sym c.if-not-holds.ensures in
    let out = c.remove-entry.ensures in
    bank-take s _ born c.args.handle _ c.self.invariant out.value (birth_of s born c.args.handle _ some out.value) out.updates out.len out.room out.capacity
    ∙ ap (λ b. without b c.args.handle) c.self.view_is

pub returns-clause-gone : goal.returns-clause-gone
returns-clause-gone g c =
    let s = c.self.inside.slots in
    let born = c.self.inside.born in
    let some = ap (λ b. is_some (found b c.args.handle)) c.self.view_is ∙ sym c.if-not-holds.ensures in
    let out = c.remove-entry.ensures in
    gone-take s _ born c.args.handle _ c.self.invariant out.value (birth_of s born c.args.handle _ some out.value) out.updates out.len

pub returns-clause-stay_gone : goal.returns-clause-stay_gone
returns-clause-stay_gone g c other gone =
    let s = c.self.inside.slots in
    let born = c.self.inside.born in
    let some = ap (λ b. is_some (found b c.args.handle)) c.self.view_is ∙ sym c.if-not-holds.ensures in
    let out = c.remove-entry.ensures in
    let left = bank-take s _ born c.args.handle _ c.self.invariant out.value (birth_of s born c.args.handle _ some out.value) out.updates out.len out.room out.capacity in
    IsGone-remove (bank_of s born) _ other (rw c.self.view_is gone) c.args.handle.birth (ap (λ b. b.held) left) refl
