use Rattle.std.proofs.Common.{sym, ◌∙◌}
use Rattle.std.proofs.lemmas.Bool.{false≢true}
use Rattle.dsde_parser.proofs.DepthLemmas.{so-far-none, so-far-more, so-far-deep}
use Rattle.dsde_parser.proofs.depth.first_too_deep.Goals as goal

pub loop-index-init : goal.loop-index-init
loop-index-init c = so-far-none c.args.tokens.now c.nothing-open.result c.nothing-open.ensures

pub returns-then-not-is_within : goal.returns-then-not-is_within
returns-then-not-is_within c =
    so-far-deep c.args.tokens.now c.loop-index.index c.loop-index.open _ c.index-tokens-index.result c.loop-index-test.true c.index-tokens-index.is c.loop-index.invariant c.in_ok-pass.ensures (λ few. false≢true (sym c.if-not-is_within.true ∙ c.is_within.ensures.1 few))

pub loop-index-preserved : goal.loop-index-preserved
loop-index-preserved c =
    so-far-more c.args.tokens.now c.loop-index.index c.loop-index.open _ c.index-tokens-index.result c.loop-index-test.true c.index-tokens-index.is c.loop-index.invariant c.in_ok-pass.ensures (c.is_within.ensures.0 c.if-not-is_within.false)
