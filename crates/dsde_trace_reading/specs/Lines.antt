-- Lines of a trace, and the events whose lines they are. A definition of this project's profile.
use Rattle.std.specs.Prelude.{ℕ, ◌≡◌, ◌<◌, ◌⊎◌, Bool, true, false, List, ◌++◌, Option, Some, codes}
use Rattle.std.specs.Option.{option_map}
use Rattle.dsde_syntax.specs.declared.decl.Model.{Model}
use Rattle.dsde_values.specs.Path.{IsPath}
use Rattle.dsde_values.specs.declared.path.Path.{Path}
use Rattle.dsde_language.specs.declared.ids.ModelId.{ModelId}
use Rattle.dsde_language.specs.DeclaredModels.{Own, own_at, top_outs, types_of}
use Rattle.dsde_sim_tree.specs.declared.event.Event.{Event}
use Rattle.dsde_sim_tree.specs.declared.event.Event.TheVariants.{AddNet, AddLeaf, Turn, Out, Get, Move, Drop, Finish}
use Rattle.dsde_sim_tree.specs.declared.event.Finish as finish
use Rattle.dsde_sim_tree.specs.declared.event.Finish.TheVariants as how
use Rattle.dsde_trace.specs.Text.{event_text, ins_at, states_at}
use Rattle.dsde_trace_words.specs.Words.{IsCount, IsPassed, IsPlace, IsSettled, is_executive}

-- whether the model with this number is a network, where there is one
abbrev pub network_at : Model → ModelId → Option Bool
network_at model number = option_map (λ (own : Own). own.network) (own_at model number)

-- The model with this number is that of an atomic component, or of an executive: then it is a network.
abbrev pub IsLeaf : Model → Path → ModelId → Type 0
IsLeaf model path number = IsPath path × (network_at model number ≡ Some (is_executive path))

-- Numbers of an end have their ranges, and a fault's path is one.
abbrev pub IsLawfulEnd : finish.Finish → Type 0
IsLawfulEnd how.Bound = Unit {0}
IsLawfulEnd how.Quiet = Unit {0}
IsLawfulEnd (how.Input kind line) = IsCount line
IsLawfulEnd (how.Fault fault) = IsPath fault.path × IsPlace (fault.line, fault.column)

-- An event that a run of the model may tell: its paths are paths, its numbers have their ranges, its models are
-- those of the file, and its ports and values are those of its models.
abbrev pub IsLawfulEvent : Model → Event → Type 0
IsLawfulEvent model (AddNet path number) = IsPath path × (is_executive path ≡ false) × (network_at model number ≡ Some true)
IsLawfulEvent model (AddLeaf path number state next) = IsLeaf model path number × IsSettled (states_at model number) (types_of model) (state, next)
IsLawfulEvent model (Turn number time) = IsCount number × IsCount time
IsLawfulEvent model (Out port value) = IsPassed (top_outs model) (types_of model) (port, value)
IsLawfulEvent model (Get path number port value) = IsLeaf model path number × IsPassed (ins_at model number) (types_of model) (port, value)
IsLawfulEvent model (Move path number kind state next) = IsLeaf model path number × IsSettled (states_at model number) (types_of model) (state, next)
IsLawfulEvent model (Drop path count) = IsPath path × IsCount count
IsLawfulEvent model (Finish end turns time) = IsLawfulEnd end × IsCount turns × IsCount time

-- The bytes are the line of a lawful event, without its line feed.
pub record IsLine (model : Model) (line : List ℕ) (event : Event) : Type 0 where
  pub lawful : IsLawfulEvent model event
  pub spelled : event_text model event ≡ line ++ codes "\n"

-- Of two events of one kind the first has the lesser model; or the same, and the lesser port.
abbrev pub ComesBefore : Event → Event → Type 0
ComesBefore (AddNet _ number) (AddNet _ other) = number.0 < other.0
ComesBefore (AddLeaf _ number _ _) (AddLeaf _ other _ _) = number.0 < other.0
ComesBefore (Out port _) (Out other _) = port < other
ComesBefore (Get _ number port _) (Get _ other later _) = (number.0 < other.0) ⊎ ((number.0 ≡ other.0) × (port < later))
ComesBefore (Move _ number _ _ _) (Move _ other _ _ _) = number.0 < other.0
ComesBefore _ _ = ⊥

-- No event with that line comes before this one: each of them is it, or comes behind it.
abbrev pub IsFirst : Model → List ℕ → Event → Type 0
IsFirst model line event = (other : Event) → IsLine model line other → (event ≡ other) ⊎ ComesBefore event other
