-- What the program tells of how it ended: its exit status, and one line on standard error.
use Rattle.std.specs.Prelude.{◌≡◌, ℕ, ◌⊎◌, List, [], ◌++◌, take, Option, Some, codes, decimal}
use Rattle.dsde_io.specs.Bytes.{Gains, GainsFront}
use Rattle.dsde_language.specs.declared.wrong.WrongKind.{WrongKind}
use Rattle.dsde_language.specs.declared.wrong.WrongKind.TheVariants as wrong
use Rattle.dsde_trace.specs.Text.{input_text, fault_text}
use Rattle.dsde_values.specs.Path.{path_text}
use Rattle.dsde_cli_verdict.specs.declared.refusal.Refusal.{Refusal}
use Rattle.dsde_cli_verdict.specs.declared.refusal.Refusal.TheVariants as refusal
use Rattle.dsde_cli_status.specs.declared.status.SaveFault.{SaveFault}
use Rattle.dsde_cli_status.specs.declared.status.SaveFault.TheVariants as save
use Rattle.dsde_cli_status.specs.declared.status.Status.{Status}
use Rattle.dsde_cli_status.specs.declared.status.Status.TheVariants.{Done, Refused, Usage, BadInput, ModelFault, Unread, Unwritten, Memory, BadSave}
use Rattle.dsde_cli_status.specs.declared.status.What.{What}
use Rattle.dsde_cli_status.specs.declared.status.What.TheVariants as what
use Rattle.dsde_cli_status.specs.declared.status.Why.{Why}
use Rattle.dsde_cli_status.specs.declared.status.Why.TheVariants as why

-- the exit status of the program
abbrev pub number_of : Status → ℕ
number_of Done = 0
number_of (Refused kind line column) = 1
number_of Usage = 2
number_of (BadInput kind line) = 3
number_of (ModelFault fault) = 4
number_of (Unread reading because) = 5
number_of (Unwritten writing) = 6
number_of Memory = 7
number_of (BadSave fault) = 8

-- the line that tells the words of the program's commands
abbrev pub usage_text : List ℕ
usage_text = codes "usage: dsde check MODEL [--print] | run MODEL --turns N [--only outputs|structure] [--save FILE] | resume MODEL FILE --turns N [--only outputs|structure] [--save FILE] | big SEED --turns N | free MODEL --turns N --order SEED"

-- what a check of a model finds wrong
abbrev pub wrong_text : WrongKind → List ℕ
wrong_text wrong.Duplicate = codes "Duplicate"
wrong_text wrong.Unknown = codes "Unknown"
wrong_text wrong.WrongType = codes "WrongType"
wrong_text wrong.NotTotal = codes "NotTotal"
wrong_text wrong.BadLink = codes "BadLink"
wrong_text wrong.NoExternal = codes "NoExternal"
wrong_text wrong.MixedFamily = codes "MixedFamily"
wrong_text wrong.NoTop = codes "NoTop"
wrong_text wrong.Limit = codes "Limit"

-- why a model is refused
abbrev pub refusal_text : Refusal → List ℕ
refusal_text refusal.BadByte = codes "BadByte"
refusal_text refusal.BadNumber = codes "BadNumber"
refusal_text refusal.Syntax = codes "Syntax"
refusal_text refusal.Nested = codes "Nested"
refusal_text (refusal.Check kind) = wrong_text kind

-- what is read or written
abbrev pub what_text : What → List ℕ
what_text what.Model = codes "model"
what_text what.Save = codes "save"
what_text what.Input = codes "input"
what_text what.Output = codes "output"

-- why it was not read
abbrev pub why_text : Why → List ℕ
why_text why.Absent = codes "absent"
why_text why.TooLong = codes "long"
why_text why.Failed = codes "failed"

-- what is wrong with a saved run
abbrev pub save_text : SaveFault → List ℕ
save_text save.NotJson = codes "NotJson"
save_text save.WrongForm = codes "WrongForm"
save_text (save.DoesNotFit path) = codes "DoesNotFit " ++ path_text path
save_text save.FewRecords = codes "FewRecords"

-- what a status puts on standard error: nothing where all went well, and else one line
abbrev pub note_of : Status → List ℕ
note_of Done = []
note_of (Refused kind line column) = codes "refused " ++ refusal_text kind ++ codes " " ++ decimal line ++ codes ":" ++ decimal column ++ codes "\n"
note_of Usage = usage_text ++ codes "\n"
note_of (BadInput kind line) = codes "input " ++ input_text kind ++ codes " " ++ decimal line ++ codes "\n"
note_of (ModelFault fault) = codes "fault " ++ fault_text fault ++ codes "\n"
note_of (Unread reading because) = codes "unread " ++ what_text reading ++ codes " " ++ why_text because ++ codes "\n"
note_of (Unwritten writing) = codes "unwritten " ++ what_text writing ++ codes "\n"
note_of Memory = codes "memory\n"
note_of (BadSave fault) = codes "save " ++ save_text fault ++ codes "\n"

-- The note of a status is written, or, where the write failed, some of it from the front.
abbrev pub Noted : (SinkFails : Type 0) → Option (List ℕ) → Option (List ℕ) → Status → Type 0
Noted SinkFails before after status = Gains before after (note_of status) ⊎ (SinkFails × GainsFront before after (note_of status))

-- Some of a note is written, from its front, and nothing else.
pub record WritesNoteFront (written : List ℕ) (notes : Option (List ℕ)) : Type 0 where
  pub told : Status
  pub count : ℕ
  pub is : notes ≡ Some (written ++ take count (note_of told))
