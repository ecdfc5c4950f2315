use Rattle.std.proofs.Common.{Some, is_some, ap, sym, ◌∙◌, refl}
use Rattle.dsde_bank.specs.Bank.{found, with_value}
use Rattle.dsde_bank.proofs.SlotLemmas.{entry_of, birth_of, sound-write, bank-write, found-hit}
use Rattle.dsde_bank.proofs.bank.Bank.value_mut.Goals as goal

pub index_mut-entry-requires : goal.index_mut-entry-requires
index_mut-entry-requires g c =
    ap is_some (entry_of c.self.inside.slots c.self.inside.born c.args.handle (ap (λ b. is_some (found b c.args.handle)) c.self.view_is ∙ c.requires)).1

pub invariant_of-self-lent : goal.invariant_of-self-lent
invariant_of-self-lent g c w =
    let s = c.self.inside.slots in
    let born = c.self.inside.born in
    let some = ap (λ b. is_some (found b c.args.handle)) c.self.view_is ∙ c.requires in
    let lies = c.index_mut-entry.ensures.value in
    sound-write s born c.args.handle _ w c.self.invariant lies (birth_of s born c.args.handle _ some lies)

pub returns : goal.returns
returns g c =
    let s = c.self.inside.slots in
    let born = c.self.inside.born in
    let some = ap (λ b. is_some (found b c.args.handle)) c.self.view_is ∙ c.requires in
    let lies = c.index_mut-entry.ensures.value in
    let births = birth_of s born c.args.handle _ some lies in (
      (refl, λ w. bank-write s born c.args.handle _ w c.self.invariant lies births ∙ ap (λ b. with_value b c.args.handle w) c.self.view_is),
      record {
        writes_back = tt;
        value = ap (λ b. found b c.args.handle) (sym c.self.view_is) ∙ found-hit s born c.args.handle _ c.self.invariant.apart lies births ∙ ap Some (sym c.value_mut.ensures.value);
      },
    )
