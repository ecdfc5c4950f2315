use Rattle.std.proofs.Common.{is_some, sym, ap, ◌∙◌}
use Rattle.dsde_bank.specs.Bank.{found}
use Rattle.dsde_bank.proofs.SlotLemmas.{is_some-found, found-vacant}
use Rattle.dsde_bank.proofs.bank.Bank.holds.Goals as goal

pub returns-in-Some : goal.returns-in-Some
returns-in-Some g c =
    is_some-found c.self.inside.slots c.self.inside.born c.args.handle _ c.self.invariant.apart (sym c.in-Some.ensures)
    ∙ ap (λ b. is_some (found b c.args.handle)) c.self.view_is

pub returns-in-None : goal.returns-in-None
returns-in-None g c =
    sym (ap is_some (found-vacant c.self.inside.slots c.self.inside.born c.args.handle (sym c.in-None.ensures)))
    ∙ ap (λ b. is_some (found b c.args.handle)) c.self.view_is
