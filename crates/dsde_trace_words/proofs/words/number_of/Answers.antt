use Rattle.std.proofs.Common.{arith}
use Rattle.dsde_trace_words.proofs.Cutting.{number-is}
use Rattle.dsde_trace_words.proofs.words.number_of.Goals as goal

pub returns-in-Some : goal.returns-in-Some
returns-in-Some c = number-is c.args.text.now c.in-Some.number c.in-Some.ensures.some (omega arith)
