use Rattle.dsde_trace_words.specs.Words.{Spells}
use Rattle.dsde_trace_words.specs.lemmas.Searching.{NoLess}
use Rattle.dsde_trace_reading.specs.Parts.{IsNet, net_text}
use Rattle.dsde_trace_reading.proofs.searches.net_of.Given as goal

abbrev pub invariant-loop-number : goal.invariant-loop-number
invariant-loop-number l = NoLess (Spells (IsNet l.program) (net_text l.program) l.name) l.number
