use Rattle.std.proofs.Common.{◌≡◌, ◌∙◌, sym, arith, true, false}
use Rattle.dsde_trace_words.specs.Words.{Spells}
use Rattle.dsde_trace_words.specs.lemmas.Searching.{least-is, none-least, not-yet}
use Rattle.dsde_trace_reading.specs.Parts.{IsNet, net_text}
use Rattle.dsde_trace_reading.proofs.searches.net_of.Goals as goal

pub returns-then-is_net : goal.returns-then-is_net
returns-then-is_net c =
    least-is (Spells (IsNet c.args.program.now) (net_text c.args.program.now) c.args.name.now) c.loop-number.number c.loop-number.invariant (c.is_net.ensures.0 c.if-is_net.true)

pub loop-number-preserved : goal.loop-number-preserved
loop-number-preserved c =
    not-yet (Spells (IsNet c.args.program.now) (net_text c.args.program.now) c.args.name.now) c.loop-number.number c.loop-number.invariant (λ is. let two : false ≡ true = sym c.if-is_net.false ∙ c.is_net.ensures.1 is in cc two)

pub returns : goal.returns
returns c =
    none-least (Spells (IsNet c.args.program.now) (net_text c.args.program.now) c.args.name.now) c.loop-number.number c.loop-number.invariant (λ one is. omega (arith, c.count_of-number-end.ensures.all one true is.0))
