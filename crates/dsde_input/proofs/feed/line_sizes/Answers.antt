use Rattle.std.proofs.Common.{sym, refl}
use Rattle.dsde_input.proofs.Feeds.{opens_fed, opens_whole}
use Rattle.dsde_input.proofs.feed.line_sizes.Goals as goal

pub returns-in-Some-clause-opens : goal.returns-in-Some-clause-opens
returns-in-Some-clause-opens c = opens_fed c.args.bytes.now c.in-Some.at (sym c.in-Some.ensures)

pub returns-in-None-clause-opens : goal.returns-in-None-clause-opens
returns-in-None-clause-opens c = opens_whole c.args.bytes.now _ _ c.requires.some (sym c.in-None.ensures) refl refl
