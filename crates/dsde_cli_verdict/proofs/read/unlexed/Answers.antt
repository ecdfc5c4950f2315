use Rattle.dsde_cli_verdict.proofs.VerdictLemmas.{told_long}
use Rattle.dsde_cli_verdict.proofs.read.unlexed.Goals as goal

pub returns-in-TooLong : goal.returns-in-TooLong
returns-in-TooLong c = λ _. told_long c.texts_are_cut.ensures.too_long c.args.bytes.now c.args.error c.in-TooLong.is c.requires
