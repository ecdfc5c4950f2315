-- Why the reading of tokens stops: a device for the reader alone.
use Rattle.std.specs.Prelude.{⊤}
use Rattle.dsde_syntax.specs.Grammar.{Tokens}
use Rattle.dsde_cli_verdict.specs.declared.read.Stop.{Stop}
use Rattle.dsde_cli_verdict.specs.declared.read.Stop.TheVariants as stop
use Rattle.dsde_cli_verdict.specs.Verdict.{Offends}

-- The reading stops for this offence, or memory ran out.
abbrev pub StopsFor : Tokens → Stop → Type 0
StopsFor toks (stop.At kind at) = Offends kind toks at
StopsFor toks stop.Memory = ⊤
