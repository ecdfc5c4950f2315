-- A run whose turns move in orders that the words of a generator draw (this project's profile; that an executive moves
-- after all beneath its network is that of F. J. Barros, "Abstract Simulators for the DSDE Formalism", WSC 1998).
use Rattle.std.specs.Prelude.{ℕ}
use Rattle.dsde_input_records.specs.Records.{Records}
use Rattle.dsde_order.specs.Free as drawing
use Rattle.dsde_run_free.specs.Drawn.{engine_of}
use Rattle.dsde_run.specs.given.run_meaning.Run.{Run}
use Rattle.dsde_run.specs.Run.{Running, run_by}
use Rattle.dsde_run.specs.given.system.Program.{system}

-- A run of a model with the drawn turn in place of the turn: the generator of a seed gives one word for each that moves.
abbrev pub free_run : Running → ℕ → Records → ℕ → Run
free_run own seed = run_by engine_of (drawing.advance (system own.model)) (drawing.start (system own.model) seed) own
