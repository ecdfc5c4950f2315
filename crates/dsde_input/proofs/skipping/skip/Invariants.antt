use Rattle.std.proofs.Common.{◌≡◌, ◌≤◌, None}
use Rattle.std.specs.Prelude.{IfSome, IsSomeAnd}
use Rattle.dsde_input.proofs.Standing.{Stands}
use Rattle.dsde_input.proofs.skipping.skip.Given as goal

abbrev pub invariant-loop-done : goal.invariant-loop-done
invariant-loop-done g l =
    let left = g.R.Source.left in
    record {
      told : IfSome (left l.initial.source) (λ before. IsSomeAnd (left l.source) (λ now. Stands l.ports l.types l.count l.floor l._done l.reader before now));
      low : l.reader.floor ≡ 0;
      lawful : l.reader.offence ≡ None;
      idle : l.count ≡ 0 → l.source ≡ l.initial.source;
      counted : g.R.Source.faults l.initial.source ≤ g.R.Source.faults l.source;
    }
