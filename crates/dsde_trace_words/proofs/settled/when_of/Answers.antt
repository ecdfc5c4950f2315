use Rattle.std.proofs.Common.{sym, ◌∙◌, ap, codes}
use Rattle.std.specs.Str.{bytes_eq}
use Rattle.std.proofs.lemmas.Slice.Eq.{bytes_eq-Decides}
use Rattle.dsde_trace_words.proofs.Settling.{when-never}
use Rattle.dsde_trace_words.proofs.settled.when_of.Goals as goal

pub returns-then-eq : goal.returns-then-eq
returns-then-eq c = when-never c.args.text.now ((bytes_eq-Decides c.args.text.now (codes "never")).0 (ap (bytes_eq c.args.text.now) (sym c.as_slice.ensures) ∙ sym c.if-eq.ensures))
