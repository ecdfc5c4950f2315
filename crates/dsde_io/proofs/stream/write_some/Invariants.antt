use Rattle.dsde_io.specs.Bytes.{Keeps}
use Rattle.dsde_io.proofs.stream.write_some.Given as goal

abbrev pub invariant-loop-attempt : goal.invariant-loop-attempt
invariant-loop-attempt g l = Keeps (g.W.Write.contents l.initial.writer) (g.W.Write.contents l.writer)
