use Rattle.dsde_core_flat.proofs.Stale.{compact-schedules, compact-few}
use Rattle.dsde_core_flat.proofs.compacting.compact_schedule.Goals as goal

pub returns-clause-scheduled : goal.returns-clause-scheduled
returns-clause-scheduled c = compact-schedules c.args.grove.now c.args.queue.now.pairs c.compact.new.queue.pairs c.compact.ensures.kept c.requires

pub returns-clause-few : goal.returns-clause-few
returns-clause-few c = compact-few c.args.grove.now c.args.queue.now.pairs c.compact.new.queue.pairs c.compact.ensures.kept c.compact.ensures.once
