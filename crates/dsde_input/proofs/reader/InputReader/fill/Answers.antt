use Rattle.std.proofs.Common.{◌≡◌, ◌≤◌, ◌+◌, false, length, refl, sym, ap, subst, ◌∙◌, arith}
use Rattle.dsde_input.specs.Reader.{Reader, Moves, has_line}
use Rattle.dsde_input.proofs.Moving.{Moves-none, Moves-then, TakesOfLine-none, TakesOfLine-piece}
use Rattle.dsde_input.proofs.reader.InputReader.fill.Goals as goal

pub loop-self-init : goal.loop-self-init
loop-self-init g c = record {
  moves = Moves-none c.args.self.now (g.R.Source.left c.args.source.now);
  of_line = TakesOfLine-none c.args.self.now (g.R.Source.left c.args.source.now);
  counted = omega arith;
  idle = λ has. (refl, refl);
}

pub loop-self-preserved : goal.loop-self-preserved
loop-self-preserved g c =
    let old = c.args.self.now in
    let mid = c.loop-self.self in
    let new = c.read_piece.new.self in
    let none : has_line c.loop-self.self ≡ false = sym c.look.ensures.answer ∙ c.loop-self-test.true in
    let moves : Moves c.loop-self.self c.read_piece.new.self (g.R.Source.left c.loop-self.source) (g.R.Source.left c.read_piece.new.source) =
    subst (λ mid. Moves mid c.read_piece.new.self (g.R.Source.left c.loop-self.source) (g.R.Source.left c.read_piece.new.source)) c.look.ensures.same c.in_ok-read_piece.ensures.moves in
    let size : length c.read_piece.new.self.held ≤ length c.loop-self.self.held + 4096 = omega (arith, ap (λ (r : Reader). length r.held) c.look.ensures.same, c.in_ok-read_piece.ensures.piece) in
    record {
      moves = Moves-then old mid new (g.R.Source.left c.args.source.now) (g.R.Source.left c.loop-self.source) (g.R.Source.left c.read_piece.new.source) c.loop-self.invariant.moves moves;
      of_line = TakesOfLine-piece old mid new (g.R.Source.left c.args.source.now) (g.R.Source.left c.loop-self.source) (g.R.Source.left c.read_piece.new.source)
          c.loop-self.invariant.moves moves none size;
      counted = omega (arith, c.loop-self.invariant.counted, c.in_ok-read_piece.ensures.counted);
      idle = λ has. absurd (let same = (c.loop-self.invariant.idle has).0 in let there = ap has_line same ∙ has in cc (none, there));
    }
