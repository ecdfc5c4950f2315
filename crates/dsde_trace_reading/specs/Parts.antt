-- The parts of a line, from its first word on.
use Rattle.std.specs.Prelude.{ℕ, ◌≡◌, Bool, true, List, ◌∷◌, ◌++◌, Option, Some, codes, decimal}
use Rattle.dsde_syntax.specs.declared.decl.Model.{Model}
use Rattle.dsde_values.specs.Path.{path_text}
use Rattle.dsde_values.specs.declared.value.Value.{Value}
use Rattle.dsde_values.specs.declared.when.When.{When}
use Rattle.dsde_faults.specs.declared.kind.FaultKind.{FaultKind}
use Rattle.dsde_faults.specs.declared.kind.Site.{Site}
use Rattle.dsde_formalism.specs.declared.leaf.MoveKind.{MoveKind}
use Rattle.dsde_language.specs.declared.ids.ModelId.{ModelId}
use Rattle.dsde_language.specs.DeclaredModels.{top_outs, types_of}
use Rattle.dsde_program_layout.specs.Declared.{leaf_ins}
use Rattle.dsde_language.specs.declared.info.Info.{Info}
use Rattle.dsde_sim_tree.specs.declared.event.Event.{Event}
use Rattle.dsde_sim_tree.specs.declared.event.Event.TheVariants.{AddNet, AddLeaf, Turn, Out, Get, Move, Drop, Finish}
use Rattle.dsde_sim_tree.specs.declared.event.Finish as finish
use Rattle.dsde_sim_tree.specs.declared.event.Finish.TheVariants as how
use Rattle.dsde_sim_tree.specs.declared.event.InputKind.{InputKind}
use Rattle.dsde_trace.specs.Text.{ins_at, input_text, kind_text, model_text, move_text, site_text, states_at}
use Rattle.dsde_trace_words.specs.Names.{ending_text, line_word_text}
use Rattle.dsde_trace_words.specs.Words.{Finds, IsAny, IsCount, IsPassed, IsPlace, IsSettled, Spells, passed_text, place_text, settled_text}
use Rattle.dsde_trace_words.specs.declared.names.Ending.{Ending}
use Rattle.dsde_trace_words.specs.declared.names.Ending.TheVariants as ending
use Rattle.dsde_trace_words.specs.declared.names.LineWord.{LineWord}
use Rattle.dsde_trace_words.specs.declared.names.LineWord.TheVariants as word
use Rattle.dsde_trace_reading.specs.Lines.{ComesBefore, IsLawfulEnd, IsLawfulEvent, network_at}

-- the model with a number
abbrev pub model_at : ℕ → ModelId
model_at number = record { 0 = number }

-- What is told of a model is what the file says of it.
pub record IsTold (model : Model) (number : ModelId) (info : Info) : Type 0 where
  pub name : info.name ≡ model_text model number
  pub network : network_at model number ≡ Some info.network
  pub states : info.states ≡ states_at model number
  pub ins : leaf_ins info ≡ ins_at model number

-- `at T`, and `K at T`
abbrev pub at_text : ℕ → List ℕ
at_text time = codes "at " ++ decimal time

abbrev pub IsTimes : ℕ × ℕ → Type 0
IsTimes times = IsCount times.0 × IsCount times.1

abbrev pub times_text : ℕ × ℕ → List ℕ
times_text times = decimal times.0 ++ 32 ∷ at_text times.1

-- the end of a last line: `turns K at T`
abbrev pub closing_text : ℕ × ℕ → List ℕ
closing_text times = codes "turns " ++ times_text times

-- a line of the input, and the end of the line
abbrev pub IsLined : ℕ × (ℕ × ℕ) → Type 0
IsLined lined = IsCount lined.0 × IsTimes lined.1

abbrev pub lined_text : ℕ × (ℕ × ℕ) → List ℕ
lined_text lined = decimal lined.0 ++ 32 ∷ closing_text lined.1

-- what is wrong with it before it
abbrev pub IsWrong : InputKind × (ℕ × (ℕ × ℕ)) → Type 0
IsWrong wrong = IsAny wrong.0 × IsLined wrong.1

abbrev pub wrong_text : InputKind × (ℕ × (ℕ × ℕ)) → List ℕ
wrong_text wrong = input_text wrong.0 ++ 32 ∷ lined_text wrong.1

-- a place of the model's text, and the end of the line
abbrev pub IsPlaced : (ℕ × ℕ) × (ℕ × ℕ) → Type 0
IsPlaced placed = IsPlace placed.0 × IsTimes placed.1

abbrev pub placed_text : (ℕ × ℕ) × (ℕ × ℕ) → List ℕ
placed_text placed = place_text placed.0 ++ 32 ∷ closing_text placed.1

-- the kind of a fault before it
abbrev pub IsKinded : FaultKind × ((ℕ × ℕ) × (ℕ × ℕ)) → Type 0
IsKinded kinded = IsAny kinded.0 × IsPlaced kinded.1

abbrev pub kinded_text : FaultKind × ((ℕ × ℕ) × (ℕ × ℕ)) → List ℕ
kinded_text kinded = kind_text kinded.0 ++ 32 ∷ placed_text kinded.1

-- its site before it
abbrev pub IsSited : Site × (FaultKind × ((ℕ × ℕ) × (ℕ × ℕ))) → Type 0
IsSited sited = IsAny sited.0 × IsKinded sited.1

abbrev pub sited_text : Site × (FaultKind × ((ℕ × ℕ) × (ℕ × ℕ))) → List ℕ
sited_text sited = site_text sited.0 ++ 32 ∷ kinded_text sited.1

-- how a run ended, after how many turns and when
abbrev pub ending_of : finish.Finish → Ending
ending_of how.Bound = ending.Bound
ending_of how.Quiet = ending.Quiet
ending_of (how.Input kind line) = ending.Input
ending_of (how.Fault fault) = ending.Fault

pub record IsEnded (own : Ending) (ended : finish.Finish × (ℕ × ℕ)) : Type 0 where
  pub ending : ending_of ended.0 ≡ own
  pub lawful : IsLawfulEnd ended.0
  pub times : IsTimes ended.1

-- what stands behind the first word
abbrev pub behind_ending : finish.Finish → ℕ × ℕ → List ℕ
behind_ending how.Bound times = closing_text times
behind_ending how.Quiet times = closing_text times
behind_ending (how.Input kind line) times = wrong_text (kind, (line, times))
behind_ending (how.Fault fault) times = path_text fault.path ++ 32 ∷ sited_text (fault.site, (fault.kind, ((fault.line, fault.column), times)))

abbrev pub ended_text : finish.Finish × (ℕ × ℕ) → List ℕ
ended_text ended = behind_ending ended.0 ended.1

abbrev pub end_text : finish.Finish × (ℕ × ℕ) → List ℕ
end_text ended = ending_text (ending_of ended.0) ++ 32 ∷ ended_text ended

-- a network, by its name
abbrev pub IsNet : Model → ℕ → Type 0
IsNet model number = network_at model (model_at number) ≡ Some true

abbrev pub net_text : Model → ℕ → List ℕ
net_text model number = model_text model (model_at number)

-- a model, atomic or a network, and values of its state variables
abbrev pub IsStateOf : Model → Bool → ℕ × (List Value × When) → Type 0
IsStateOf model executive one = (network_at model (model_at one.0) ≡ Some executive) × IsSettled (states_at model (model_at one.0)) (types_of model) one.1

abbrev pub state_text : Model → ℕ × (List Value × When) → List ℕ
state_text model one = settled_text (states_at model (model_at one.0)) (types_of model) one.1

-- with its name
abbrev pub IsStarted : Model → Bool → List ℕ → ℕ × (List Value × When) → Type 0
IsStarted model executive name one = IsStateOf model executive one × (name ≡ model_text model (model_at one.0))

-- a kind of move before it
abbrev pub IsMoved : Model → Bool → MoveKind × (ℕ × (List Value × When)) → Type 0
IsMoved model executive moved = IsAny moved.0 × IsStateOf model executive moved.1

abbrev pub moved_text : Model → MoveKind × (ℕ × (List Value × When)) → List ℕ
moved_text model moved = move_text moved.0 ++ 32 ∷ state_text model moved.1

-- a model, atomic or a network, and a value at one of its in ports
abbrev pub IsGot : Model → Bool → ℕ × (ℕ × Value) → Type 0
IsGot model executive one = (network_at model (model_at one.0) ≡ Some executive) × IsPassed (ins_at model (model_at one.0)) (types_of model) one.1

abbrev pub got_text : Model → ℕ × (ℕ × Value) → List ℕ
got_text model one = passed_text (ins_at model (model_at one.0)) (types_of model) one.1

-- the word with which the line of an event begins, and what stands behind it
abbrev pub word_of : Event → LineWord
word_of (AddNet path number) = word.Add
word_of (AddLeaf path number state next) = word.Add
word_of (Turn number time) = word.Turn
word_of (Out port value) = word.Out
word_of (Get path number port value) = word.Get
word_of (Move path number kind state next) = word.Move
word_of (Drop path count) = word.Drop
word_of (Finish end turns time) = word.End

abbrev pub behind_word : Model → Event → List ℕ
behind_word model (AddNet path number) = path_text path ++ 32 ∷ model_text model number
behind_word model (AddLeaf path number state next) = path_text path ++ 32 ∷ (model_text model number ++ 32 ∷ settled_text (states_at model number) (types_of model) (state, next))
behind_word model (Turn number time) = times_text (number, time)
behind_word model (Out port value) = codes "root " ++ passed_text (top_outs model) (types_of model) (port, value)
behind_word model (Get path number port value) = path_text path ++ 32 ∷ passed_text (ins_at model number) (types_of model) (port, value)
behind_word model (Move path number kind state next) = path_text path ++ 32 ∷ (move_text kind ++ 32 ∷ settled_text (states_at model number) (types_of model) (state, next))
behind_word model (Drop path count) = path_text path ++ 32 ∷ decimal count
behind_word model (Finish end turns time) = end_text (end, (turns, time))

-- the line of an event, without its line feed
abbrev pub line_text : Model → Event → List ℕ
line_text model event = line_word_text (word_of event) ++ 32 ∷ behind_word model event

-- a lawful event whose line begins with this word
abbrev pub IsOf : Model → LineWord → Event → Type 0
IsOf model own event = (word_of event ≡ own) × IsLawfulEvent model event

-- what was read of the text behind it: the first of the events
abbrev pub Reads : Model → LineWord → List ℕ → Option Event → Type 0
Reads model own text found = Finds ComesBefore (Spells (IsOf model own) (behind_word model) text) found
