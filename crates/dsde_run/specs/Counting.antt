-- A run whose events are counted, and none is kept.
use Rattle.std.specs.Prelude.{ℕ, ◌≡◌, ◌≤◌, ◌+◌, ◌-◌, ◌^◌, ⊤, Bool, true, List, [], ◌∷◌, ◌++◌, length, Option, Some, None, is_some, Ok, codes, decimal, slice_get}
use Rattle.std.specs.Option.{option_map_or}
use Rattle.dsde_core.specs.Standing.{Standing}
use Rattle.dsde_sim_tree.specs.declared.event.Event.{Event}
use Rattle.dsde_sim_tree.specs.declared.event.Event.TheVariants as event
use Rattle.dsde_sim_tree.specs.declared.event.Finish.{Finish}
use Rattle.dsde_sim_tree.specs.declared.event.Finish.TheVariants.{Input}
use Rattle.dsde_sim_tree.specs.declared.step.Step.TheVariants.{Turned}
use Rattle.dsde_sim_tree.specs.Engine.{Engine}
use Rattle.dsde_trace.specs.declared.count.Summary.{Summary}
use Rattle.dsde_trace.specs.Count.{counts_from, none_counted}
use Rattle.dsde_run_meaning.specs.Run.{Run}
use Rattle.dsde_run.specs.Run.{Running, advance, event_text, turn_on}
use Rattle.dsde_run.specs.declared.count.Counted.{Counted}
use Rattle.dsde_run.specs.declared.count.Ending.{Ending}

-- how many events were counted in all
abbrev pub total : Summary → ℕ
total summary = summary.turns + summary.adds + summary.drops + summary.gets + summary.moves + summary.outs

-- one line of a summary: a word, and a number
abbrev pub count_line : List ℕ → ℕ → List ℕ
count_line word count = word ++ decimal count ++ codes "\n"

-- how many lines of each kind a trace has, a line each
abbrev pub counts_text : Summary → List ℕ
counts_text summary =
    count_line (codes "turns ") summary.turns ++ count_line (codes "adds ") summary.adds ++ count_line (codes "drops ") summary.drops
    ++ count_line (codes "gets ") summary.gets ++ count_line (codes "moves ") summary.moves ++ count_line (codes "outs ") summary.outs

-- the last line of a trace
abbrev pub last_line : Running → List Event → List ℕ
last_line own events = option_map_or (event_text own) (slice_get events (length events - 1)) []

-- the summary of a run: the counts of its events, and the last line of its trace
abbrev pub summary_text : Running → Run → List ℕ
summary_text own run = counts_text (counts_from none_counted run.events) ++ last_line own run.events

-- An end that no line of an input makes.
abbrev pub IsOwnEnd : Finish → Type 0
IsOwnEnd (Input kind line) = ⊥
IsOwnEnd how = ⊤

-- The events of a run were counted, and the last of them says how it ended.
pub record Counts (run : Run) (counted : Counted) : Type 0 where
  pub summary : counted.summary ≡ counts_from none_counted run.events
  pub end : run.end ≡ Some counted.how
  pub told : List Event
  pub last : run.events ≡ told ++ event.Finish counted.how counted.turns counted.time ∷ []

-- The same, behind events that were counted before.
pub record EndsCounted (before : Summary) (run : Run) (after : Summary) (ending : Ending) : Type 0 where
  pub counted : after ≡ counts_from before run.events
  pub end : run.end ≡ Some ending.how
  pub told : List Event
  pub last : run.events ≡ told ++ event.Finish ending.how ending.turns ending.time ∷ []

-- A turn without a head was taken, and its events were counted.
pub record TurnsCounted (own : Running) (before after : Engine) (old new : Summary) : Type 0 where
  pub took : Bool
  pub counted : new ≡ counts_from old (advance own before None).events
  pub comes : (advance own before None).end ≡ Ok (Turned took, after)

-- One turn is done, or the run ended with it, whatever comes later.
abbrev pub CountsTurn : Running → Engine → Engine → Summary → Summary → Option Ending → Type 0
CountsTurn own before after old new None = TurnsCounted own before after old new
CountsTurn own before after old new (Some ending) = (later : Bool → Engine → Run) → EndsCounted old (turn_on own before None later) new ending

-- The engine is ready for the turn behind that of this engine.
pub record IsNextTurn (before after : Standing) : Type 0 where
  pub fresh : is_some after.engine.tree ≡ true
  pub counted : after.engine.turn ≡ before.engine.turn + 1
  pub same : after.program ≡ before.program
  pub births : after.born ≤ before.born + 2 ^ 33
