use Rattle.std.proofs.Common.{◌≡◌, ◌++◌, drop}
use Rattle.dsde_program_infos.proofs.types.fields.Given as goal

abbrev pub invariant-loop-member : goal.invariant-loop-member
invariant-loop-member l = l.fields ++ drop l.member-index l.members ≡ l.members
