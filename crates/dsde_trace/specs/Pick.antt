-- Which lines of a trace a selection keeps.
use Rattle.std.specs.Prelude.{ℕ, Bool, true, false, if◌then◌else◌, List, [], flat_map}
use Rattle.dsde_syntax.specs.declared.decl.Model.{Model}
use Rattle.dsde_sim_tree.specs.declared.event.Event.{Event}
use Rattle.dsde_sim_tree.specs.declared.event.Event.TheVariants.{AddNet, AddLeaf, Turn, Out, Drop, Finish}
use Rattle.dsde_trace.specs.declared.pick.Pick.{Pick}
use Rattle.dsde_trace.specs.declared.pick.Pick.TheVariants.{All, Outputs, Structure}
use Rattle.dsde_trace.specs.Text.{event_text}

-- whether a selection keeps the line of an event
abbrev pub picked : Event → Pick → Bool
picked (Turn number time) pick = true
picked (Finish how turns time) pick = true
picked event All = true
picked (Out port value) Outputs = true
picked event Outputs = false
picked (AddNet path model) Structure = true
picked (AddLeaf path model state next) Structure = true
picked (Drop path count) Structure = true
picked event Structure = false

-- the line of an event, where it is kept
abbrev pub kept_line : Model → Pick → Event → List ℕ
kept_line model pick event = if picked event pick then event_text model event else []

-- the lines of a trace that are kept
abbrev pub kept_text : Model → Pick → List Event → List ℕ
kept_text model pick events = flat_map (kept_line model pick) events
