use Rattle.dsde_lexer.proofs.Sizes.{tokens-size}
use Rattle.dsde_lexer.proofs.GoodLemmas.{tokens-good}
use Rattle.dsde_lexer.proofs.OrderLemmas.{tokens-in_order}
use Rattle.dsde_lexer.proofs.TokensLemmas.{HasCut-gap, HasCut-token, Piece-of, tokens-all, tokens-bad_byte, tokens-bad_number}
use Rattle.dsde_lexer.proofs.lexer.lex.Goals as goal
use Rattle.dsde_lexer.proofs.lexer.lex.Goals.{in-Gap, in-Token+in_ok-push-in-Token}

pub loop-at-preserved : goal.loop-at-preserved
loop-at-preserved c =
    let piece = Piece-of c.args.bytes.now c.loop-at.at c.in_ok-front.size c.in_ok-front.front c.loop-at-test.true c.in_ok-front.ensures.piece c.in_ok-front.ensures.some c.in_ok-front.ensures.within in
    elim c.match-front.branch [
      | in-Gap w ↦ rw w.tokens-is (HasCut-gap c.loop-at.invariant (rw w.in-Gap.is at piece))
      | in-Token+in_ok-push-in-Token w ↦ rw (w.tokens-is, w.in_ok-push-in-Token.ensures.ok) (HasCut-token c.loop-at.invariant (rw w.in-Token.is at piece))
    ]

pub returns-in-BadByte-clause-refused : goal.returns-in-BadByte-clause-refused
returns-in-BadByte-clause-refused c =
    let piece = Piece-of c.args.bytes.now c.loop-at.at c.in_ok-front.size c.in_ok-front.front c.loop-at-test.true c.in_ok-front.ensures.piece c.in_ok-front.ensures.some c.in_ok-front.ensures.within in
    λ _. tokens-bad_byte c.loop-at.invariant (rw c.in-BadByte.is at piece)

pub returns-in-BadNumber-clause-refused : goal.returns-in-BadNumber-clause-refused
returns-in-BadNumber-clause-refused c =
    let piece = Piece-of c.args.bytes.now c.loop-at.at c.in_ok-front.size c.in_ok-front.front c.loop-at-test.true c.in_ok-front.ensures.piece c.in_ok-front.ensures.some c.in_ok-front.ensures.within in
    λ _. tokens-bad_number c.loop-at.invariant (rw c.in-BadNumber.is at piece)

pub returns-clause-ok : goal.returns-clause-ok
returns-clause-ok c = tokens-all c.loop-at.invariant c.loop-at-test.false

pub returns-clause-well_formed : goal.returns-clause-well_formed
returns-clause-well_formed c = tokens-good _ _ (tokens-all c.loop-at.invariant c.loop-at-test.false)

pub returns-clause-in_order : goal.returns-clause-in_order
returns-clause-in_order c = tokens-in_order _ _ (tokens-all c.loop-at.invariant c.loop-at-test.false)

pub returns-clause-few : goal.returns-clause-few
returns-clause-few c = tokens-size _ _ (tokens-all c.loop-at.invariant c.loop-at-test.false)
