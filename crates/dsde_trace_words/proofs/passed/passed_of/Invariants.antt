use Rattle.dsde_trace_words.specs.Words.{IsPassed, NoneBefore, Spells, passed_text}
use Rattle.dsde_trace_words.specs.lemmas.Searching.{NoneBelow}
use Rattle.dsde_trace_words.proofs.passed.passed_of.Given as goal

abbrev pub invariant-loop-index : goal.invariant-loop-index
invariant-loop-index l = NoneBelow NoneBefore (Spells (IsPassed l.ports l.types) (passed_text l.ports l.types) l.text) l.index
