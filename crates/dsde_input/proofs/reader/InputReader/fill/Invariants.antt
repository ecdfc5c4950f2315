use Rattle.std.proofs.Common.{◌≡◌, ◌≤◌, true}
use Rattle.std.specs.Prelude.{IfSome, IsSomeAnd}
use Rattle.dsde_input.specs.Reader.{Moves, TakesOfLine, has_line, reads_left}
use Rattle.dsde_input.proofs.reader.InputReader.fill.Given as goal

abbrev pub invariant-loop-self : goal.invariant-loop-self
invariant-loop-self g l = record {
  moves : Moves l.initial.self l.self (g.R.Source.left l.initial.source) (g.R.Source.left l.source);
  of_line : IfSome (g.R.Source.left l.initial.source) (λ before. IsSomeAnd (g.R.Source.left l.source) (λ after. TakesOfLine l.initial.self before after));
  counted : g.R.Source.faults l.initial.source ≤ g.R.Source.faults l.source;
  idle : has_line l.initial.self ≡ true → (l.self ≡ l.initial.self) × (l.source ≡ l.initial.source);
}

abbrev pub decreases-loop-self : goal.decreases-loop-self
decreases-loop-self g l = reads_left l.self
