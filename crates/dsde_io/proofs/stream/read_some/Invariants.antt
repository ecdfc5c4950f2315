use Rattle.dsde_io.specs.Bytes.{Keeps}
use Rattle.dsde_io.proofs.stream.read_some.Given as goal

abbrev pub invariant-loop-attempt : goal.invariant-loop-attempt
invariant-loop-attempt g l = Keeps (g.R.Read.remaining l.initial.reader) (g.R.Read.remaining l.reader)
