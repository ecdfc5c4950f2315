-- The text of a trace: a line for each event of a run of a model.
use Rattle.std.specs.Prelude.{ℕ, List, [], ◌++◌, map, codes, decimal, slice_get, flat_map}
use Rattle.std.specs.Option.{option_map_or}
use Rattle.dsde_syntax.specs.declared.decl.Model.{Model}
use Rattle.dsde_values.specs.declared.types.Field.{Field}
use Rattle.dsde_values.specs.declared.types.Types.{Types}
use Rattle.dsde_values.specs.declared.value.Value.{Value}
use Rattle.dsde_values.specs.declared.when.When.{When}
use Rattle.dsde_values.specs.declared.when.When.TheVariants.{At, Never}
use Rattle.dsde_values.specs.Path.{path_text}
use Rattle.dsde_values.specs.Value.{spelling, joined, field_texts}
use Rattle.dsde_faults.specs.declared.kind.FaultKind.{FaultKind}
use Rattle.dsde_faults.specs.declared.kind.FaultKind.TheVariants as kind
use Rattle.dsde_faults.specs.declared.kind.Site.{Site}
use Rattle.dsde_faults.specs.declared.kind.Site.TheVariants as site
use Rattle.dsde_sim_tree.specs.given.formalism.leaf_MoveKind.{MoveKind}
use Rattle.dsde_sim_tree.specs.given.formalism.leaf_MoveKind_TheVariants as move
use Rattle.dsde_language.specs.declared.ids.ModelId.{ModelId}
use Rattle.dsde_language.specs.DeclaredModels.{Own, body_ins, own_at, state_slots, top_outs, types_of}
use Rattle.dsde_sim_tree.specs.declared.event.Event.{Event}
use Rattle.dsde_sim_tree.specs.declared.event.Event.TheVariants.{AddNet, AddLeaf, Turn, Out, Get, Move, Drop, Finish}
use Rattle.dsde_sim_tree.specs.declared.event.Finish as finish
use Rattle.dsde_sim_tree.specs.declared.event.Finish.TheVariants as how
use Rattle.dsde_sim_tree.specs.declared.event.InputKind.{InputKind}
use Rattle.dsde_sim_tree.specs.declared.event.InputKind.TheVariants.{BadLine, Backwards, LineTooLong}
use Rattle.dsde_sim_tree.specs.declared.fault.Fault.{Fault}

-- the name of the model with this number, where there is one
abbrev pub model_text : Model → ModelId → List ℕ
model_text model number = option_map_or (λ (own : Own). own.name.name) (own_at model number) []

-- its state variables, of a network those of its executive
abbrev pub states_at : Model → ModelId → List Field
states_at model number = option_map_or (state_slots model) (own_at model number) []

-- its in ports, of a network those of its executive
abbrev pub ins_at : Model → ModelId → List Field
ins_at model number = option_map_or (body_ins model) (own_at model number) []

abbrev pub when_text : When → List ℕ
when_text (At time) = decimal time
when_text Never = codes "never"

-- the values of state variables, each behind its name
abbrev pub state_text : List Field → Types → List Value → List ℕ
state_text states types state = codes "{" ++ joined (field_texts states (map (spelling types) state)) ++ codes "}"

-- the end of a line: a state, and when it is left
unfoldable pub settled_text : List Field → Types → List Value → When → List ℕ
settled_text states types state next = codes " " ++ state_text states types state ++ codes " next " ++ when_text next ++ codes "\n"

-- the name of the port with a number
abbrev pub port_text : List Field → ℕ → List ℕ
port_text ports port = option_map_or (λ (field : Field). field.name) (slice_get ports port) []

-- the end of a line: a port and a value at it
unfoldable pub passed_text : List Field → Types → ℕ → Value → List ℕ
passed_text ports types port value = port_text ports port ++ codes " " ++ spelling types value ++ codes "\n"

abbrev pub move_text : MoveKind → List ℕ
move_text move.Internal = codes "internal"
move_text move.External = codes "external"
move_text move.Confluent = codes "confluent"

abbrev pub input_text : InputKind → List ℕ
input_text BadLine = codes "BadLine"
input_text Backwards = codes "Backwards"
input_text LineTooLong = codes "LineTooLong"

abbrev pub site_text : Site → List ℕ
site_text site.Top = codes "top"
site_text site.Start = codes "start"
site_text site.Init = codes "init"
site_text site.Advance = codes "advance"
site_text site.Output = codes "output"
site_text site.Internal = codes "internal"
site_text site.External = codes "external"
site_text site.Confluent = codes "confluent"
site_text site.Structure = codes "structure"

abbrev pub kind_text : FaultKind → List ℕ
kind_text kind.Overflow = codes "Overflow"
kind_text kind.DivideByZero = codes "DivideByZero"
kind_text kind.IndexOutOfRange = codes "IndexOutOfRange"
kind_text kind.EmptyOption = codes "EmptyOption"
kind_text kind.RangeTooLong = codes "RangeTooLong"
kind_text kind.NegativeAdvance = codes "NegativeAdvance"
kind_text kind.TimeTooFar = codes "TimeTooFar"
kind_text kind.DuplicateComponent = codes "DuplicateComponent"
kind_text kind.BadIndex = codes "BadIndex"
kind_text kind.DanglingLink = codes "DanglingLink"
kind_text kind.TooManyLinks = codes "TooManyLinks"
kind_text kind.TooDeep = codes "TooDeep"
kind_text kind.Crowded = codes "Crowded"

-- a fault: its path, site, kind and place
abbrev pub fault_text : Fault → List ℕ
fault_text fault =
    path_text fault.path ++ codes " " ++ site_text fault.site ++ codes " " ++ kind_text fault.kind
    ++ codes " " ++ decimal fault.line ++ codes ":" ++ decimal fault.column

abbrev pub finish_text : finish.Finish → List ℕ
finish_text how.Bound = codes "bound"
finish_text how.Quiet = codes "quiet"
finish_text (how.Input kind line) = codes "input " ++ input_text kind ++ codes " " ++ decimal line
finish_text (how.Fault fault) = codes "fault " ++ fault_text fault

-- the last line of a trace
abbrev pub end_text : finish.Finish → ℕ → ℕ → List ℕ
end_text end turns time =
    codes "end " ++ finish_text end ++ codes " turns " ++ decimal turns ++ codes " at " ++ decimal time ++ codes "\n"

-- the line of an event; a model that there is not has no name, no ports and no state variables
abbrev pub event_text : Model → Event → List ℕ
event_text model (AddNet path number) = codes "add " ++ path_text path ++ codes " " ++ model_text model number ++ codes "\n"
event_text model (AddLeaf path number state next) =
    codes "add " ++ path_text path ++ codes " " ++ model_text model number ++ settled_text (states_at model number) (types_of model) state next
event_text model (Turn number time) = codes "turn " ++ decimal number ++ codes " at " ++ decimal time ++ codes "\n"
event_text model (Out port value) = codes "out root " ++ passed_text (top_outs model) (types_of model) port value
event_text model (Get path number port value) = codes "get " ++ path_text path ++ codes " " ++ passed_text (ins_at model number) (types_of model) port value
event_text model (Move path number kind state next) =
    codes "move " ++ path_text path ++ codes " " ++ move_text kind ++ settled_text (states_at model number) (types_of model) state next
event_text model (Drop path count) = codes "drop " ++ path_text path ++ codes " " ++ decimal count ++ codes "\n"
event_text model (Finish end turns time) = end_text end turns time

-- the text of a trace
abbrev pub trace_text : Model → List Event → List ℕ
trace_text model events = flat_map (event_text model) events
