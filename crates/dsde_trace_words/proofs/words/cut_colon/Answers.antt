use Rattle.std.proofs.Common.{sym}
use Rattle.dsde_input_parser.specs.lemmas.Cuts.{lacks_from_position}
use Rattle.dsde_trace_words.proofs.Cutting.{cut_at}
use Rattle.dsde_trace_words.proofs.words.cut_colon.Goals as goal

pub returns-in-Some : goal.returns-in-Some
returns-in-Some c = cut_at 58 c.args.text.now c.in-Some.place (sym c.in-Some.ensures)

pub returns-in-None : goal.returns-in-None
returns-in-None c = lacks_from_position 58 c.args.text.now (sym c.in-None.ensures)
