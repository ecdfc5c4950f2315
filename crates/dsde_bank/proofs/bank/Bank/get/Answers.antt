use Rattle.std.proofs.Common.{sym, ap, ◌∙◌}
use Rattle.dsde_bank.specs.Bank.{found}
use Rattle.dsde_bank.proofs.SlotLemmas.{found-entry, found-vacant}
use Rattle.dsde_bank.proofs.bank.Bank.get.Goals as goal

pub returns-in-Some-clause-value : goal.returns-in-Some-clause-value
returns-in-Some-clause-value g c =
    c.value_if_born.ensures
    ∙ found-entry c.self.inside.slots c.self.inside.born c.args.handle _ c.self.invariant.apart (sym c.in-Some.ensures)
    ∙ ap (λ b. found b c.args.handle) c.self.view_is

pub returns-in-None-clause-value : goal.returns-in-None-clause-value
returns-in-None-clause-value g c =
    sym (found-vacant c.self.inside.slots c.self.inside.born c.args.handle (sym c.in-None.ensures))
    ∙ ap (λ b. found b c.args.handle) c.self.view_is
