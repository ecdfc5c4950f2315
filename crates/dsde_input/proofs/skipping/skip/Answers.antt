use Rattle.std.proofs.Common.{refl, ap, arith}
use Rattle.dsde_input.specs.Reader.{Reader}
use Rattle.dsde_input.specs.Skipped.{floored_in}
use Rattle.dsde_input.specs.Skipping.{TakesSkipped}
use Rattle.dsde_input.proofs.Standing.{Stands, behind-all, stands-first, stands-found, stopped-found, stopped-refused, takes-more, takes-none, takes-one, told-same, told-then, told-weaker}
use Rattle.dsde_input.proofs.skipping.skip.Goals as goal

pub returns-in-Err-clause-taken : goal.returns-in-Err-clause-taken
returns-in-Err-clause-taken g c =
    told-same (g.R.Source.left c.args.source.now) (λ before after. TakesSkipped c.args.count (floored_in c.args.ports.now c.args.types.now c.args.count c.args.floor before) before after)
    (λ bytes. takes-none c.args.count (floored_in c.args.ports.now c.args.types.now c.args.count c.args.floor bytes) bytes)

pub loop-done-init : goal.loop-done-init
loop-done-init g c = record {
  told = told-same (g.R.Source.left c.args.source.now) (Stands c.args.ports.now c.args.types.now c.args.count c.args.floor 0 c.in-Ok.reader)
      (λ bytes. stands-first c.args.ports.now c.args.types.now c.args.count c.args.floor c.in-Ok.reader bytes c.in-Ok.ensures);
  low = ap (λ (r : Reader). r.floor) c.in-Ok.ensures;
  lawful = ap (λ (r : Reader). r.offence) c.in-Ok.ensures;
  idle = λ none. refl;
  counted = omega arith;
}

pub returns-in-Ok-false-clause-stopped : goal.returns-in-Ok-false-clause-stopped
returns-in-Ok-false-clause-stopped g c =
    told-then (g.R.Source.left c.args.source.now) (g.R.Source.left c.loop-done.source) (g.R.Source.left c.pass.new.source) c.loop-done.invariant.told c.in-Ok-false.ensures.one
    (λ before mid after stands passes.
    stopped-found c.args.ports.now c.args.types.now c.args.count c.args.floor c.loop-done._done c.loop-done.reader c.pass.new.reader _ before mid after c.in-Ok-false.field-0-test c.loop-done-test.true stands passes)

pub returns-in-Ok-false-clause-taken : goal.returns-in-Ok-false-clause-taken
returns-in-Ok-false-clause-taken g c =
    told-then (g.R.Source.left c.args.source.now) (g.R.Source.left c.loop-done.source) (g.R.Source.left c.pass.new.source) c.loop-done.invariant.told c.in-Ok-false.ensures.one
    (λ before mid after stands passes.
    takes-one c.args.ports.now c.args.types.now c.args.count c.args.floor c.loop-done._done c.loop-done.reader c.pass.new.reader _ before mid after c.loop-done-test.true stands passes)

pub returns-in-Err-pass-clause-stopped : goal.returns-in-Err-pass-clause-stopped
returns-in-Err-pass-clause-stopped g c =
    told-then (g.R.Source.left c.args.source.now) (g.R.Source.left c.loop-done.source) (g.R.Source.left c.pass.new.source) c.loop-done.invariant.told c.in-Err-pass.ensures.refused
    (λ before mid after stands refused.
    stopped-refused c.args.ports.now c.args.types.now c.args.count c.args.floor c.loop-done._done c.loop-done.reader before mid c.loop-done-test.true stands c.in-Err-pass.why after refused)

pub returns-in-Err-pass-clause-taken : goal.returns-in-Err-pass-clause-taken
returns-in-Err-pass-clause-taken g c =
    told-then (g.R.Source.left c.args.source.now) (g.R.Source.left c.loop-done.source) (g.R.Source.left c.pass.new.source) c.loop-done.invariant.told c.in-Err-pass.ensures.refused
    (λ before mid after stands refused.
    takes-more c.args.ports.now c.args.types.now c.args.count c.args.floor c.loop-done._done c.loop-done.reader before mid c.loop-done-test.true stands after refused.takes)

pub loop-done-preserved : goal.loop-done-preserved
loop-done-preserved g c = record {
  told =
      told-then (g.R.Source.left c.args.source.now) (g.R.Source.left c.loop-done.source) (g.R.Source.left c.pass.new.source) c.loop-done.invariant.told c.in-Ok-true.ensures.one
      (λ before mid after stands passes.
      stands-found c.args.ports.now c.args.types.now c.args.count c.args.floor c.loop-done._done c.loop-done.reader c.pass.new.reader _ before mid after c.in-Ok-true.field-0-test c.loop-done-test.true stands passes);
  low = c.in-Ok-true.ensures.floor;
  lawful = c.in-Ok-true.ensures.lawful;
  idle = λ none. absurd (omega (arith, c.loop-done-test.true, none));
  counted = omega (arith, c.loop-done.invariant.counted, c.in-Ok-true.ensures.counted);
}

pub returns-clause-behind : goal.returns-clause-behind
returns-clause-behind g c =
    told-weaker (g.R.Source.left c.args.source.now) (g.R.Source.left c.loop-done.source) c.loop-done.invariant.told
    (λ before after stands.
    behind-all c.args.ports.now c.args.types.now c.args.count c.args.floor c.loop-done._done c.loop-done.reader c.raise_floor.new.self before after (omega (arith, c.loop-done-test.false, c.loop-done.auto._done-end))
    c.loop-done.invariant.low c.loop-done.invariant.lawful c.raise_floor.ensures stands)
