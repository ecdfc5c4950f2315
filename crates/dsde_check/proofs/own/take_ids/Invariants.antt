use Rattle.std.proofs.Common.{◌≡◌, drop}
use Rattle.dsde_language.specs.Rules.{distinct}
use Rattle.dsde_check.proofs.own.take_ids.Given as goal

abbrev pub invariant-loop-id : goal.invariant-loop-id
invariant-loop-id l = distinct l.names (drop l.id-index l.ids) ≡ distinct l.fn.names l.ids
