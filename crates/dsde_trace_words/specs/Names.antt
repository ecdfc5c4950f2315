-- The words with which lines and their ends begin, and those for moves, for bad lines, and for sites and
-- kinds of faults, as tables.
use Rattle.std.specs.Prelude.{ℕ, List, [], ◌∷◌, Option, Some, None, if◌then◌else◌, codes}
use Rattle.std.specs.Str.{bytes_eq}
use Rattle.dsde_faults.specs.declared.kind.FaultKind.{FaultKind}
use Rattle.dsde_faults.specs.declared.kind.FaultKind.TheVariants as kind
use Rattle.dsde_faults.specs.declared.kind.Site.{Site}
use Rattle.dsde_faults.specs.declared.kind.Site.TheVariants as site
use Rattle.dsde_formalism.specs.declared.leaf.MoveKind.{MoveKind}
use Rattle.dsde_formalism.specs.declared.leaf.MoveKind.TheVariants as move
use Rattle.dsde_sim_tree.specs.declared.event.InputKind.{InputKind}
use Rattle.dsde_sim_tree.specs.declared.event.InputKind.TheVariants as input
use Rattle.dsde_trace_words.specs.declared.names.Ending.{Ending}
use Rattle.dsde_trace_words.specs.declared.names.Ending.TheVariants as ending
use Rattle.dsde_trace_words.specs.declared.names.LineWord.{LineWord}
use Rattle.dsde_trace_words.specs.declared.names.LineWord.TheVariants as line

-- the first thing of a table with this word
abbrev pub found_in : {A : Type 0} → List (List ℕ × A) → List ℕ → Option A
found_in [] text = None
found_in (entry ∷ entries) text = if bytes_eq text entry.0 then Some entry.1 else found_in entries text

abbrev pub line_words : List (List ℕ × LineWord)
line_words =
    (codes "add", line.Add) ∷ (codes "turn", line.Turn) ∷ (codes "out", line.Out) ∷ (codes "get", line.Get)
    ∷ (codes "move", line.Move) ∷ (codes "drop", line.Drop) ∷ (codes "end", line.End) ∷ []

abbrev pub line_word_text : LineWord → List ℕ
line_word_text line.Add = codes "add"
line_word_text line.Turn = codes "turn"
line_word_text line.Out = codes "out"
line_word_text line.Get = codes "get"
line_word_text line.Move = codes "move"
line_word_text line.Drop = codes "drop"
line_word_text line.End = codes "end"

abbrev pub endings : List (List ℕ × Ending)
endings = (codes "bound", ending.Bound) ∷ (codes "quiet", ending.Quiet) ∷ (codes "input", ending.Input) ∷ (codes "fault", ending.Fault) ∷ []

abbrev pub ending_text : Ending → List ℕ
ending_text ending.Bound = codes "bound"
ending_text ending.Quiet = codes "quiet"
ending_text ending.Input = codes "input"
ending_text ending.Fault = codes "fault"

abbrev pub move_kinds : List (List ℕ × MoveKind)
move_kinds = (codes "internal", move.Internal) ∷ (codes "external", move.External) ∷ (codes "confluent", move.Confluent) ∷ []

abbrev pub input_kinds : List (List ℕ × InputKind)
input_kinds = (codes "BadLine", input.BadLine) ∷ (codes "Backwards", input.Backwards) ∷ (codes "LineTooLong", input.LineTooLong) ∷ []

abbrev pub sites : List (List ℕ × Site)
sites =
    (codes "top", site.Top) ∷ (codes "start", site.Start) ∷ (codes "init", site.Init) ∷ (codes "advance", site.Advance) ∷ (codes "output", site.Output)
    ∷ (codes "internal", site.Internal) ∷ (codes "external", site.External) ∷ (codes "confluent", site.Confluent) ∷ (codes "structure", site.Structure) ∷ []

abbrev pub fault_kinds : List (List ℕ × FaultKind)
fault_kinds =
    (codes "Overflow", kind.Overflow) ∷ (codes "DivideByZero", kind.DivideByZero) ∷ (codes "IndexOutOfRange", kind.IndexOutOfRange)
    ∷ (codes "EmptyOption", kind.EmptyOption) ∷ (codes "RangeTooLong", kind.RangeTooLong) ∷ (codes "NegativeAdvance", kind.NegativeAdvance)
    ∷ (codes "TimeTooFar", kind.TimeTooFar) ∷ (codes "DuplicateComponent", kind.DuplicateComponent) ∷ (codes "BadIndex", kind.BadIndex)
    ∷ (codes "DanglingLink", kind.DanglingLink) ∷ (codes "TooManyLinks", kind.TooManyLinks) ∷ (codes "TooDeep", kind.TooDeep) ∷ (codes "Crowded", kind.Crowded) ∷ []
