-- What a check of an accepted model writes, and how it ends.
use Rattle.std.specs.Prelude.{ℕ, ◌≡◌, Bool, List, ◌++◌, take, Option, Some, codes, if◌then◌else◌}
use Rattle.dsde_syntax.specs.declared.decl.Model.{Model}
use Rattle.dsde_syntax.specs.Print.{text_of}
use Rattle.dsde_io.specs.Held.{Bytes}
use Rattle.dsde_cli_command.specs.Commands.{AsksCheck}
use Rattle.dsde_cli_status.specs.declared.status.Status.{Status}
use Rattle.dsde_cli_status.specs.declared.status.Status.TheVariants.{Done, Unread, Unwritten, Memory}
use Rattle.dsde_cli_status.specs.declared.status.What.TheVariants as what
use Rattle.dsde_cli_status.specs.declared.status.Why.TheVariants as why
use Rattle.dsde_cli.specs.Causes.{HoldsModel}

-- The words ask for a check, and the shelf tells that bytes are under its model's name which are
-- accepted with this model.
pub record Checked (words : List (List ℕ)) (held : Option Bytes) : Type 0 where
  pub asked : AsksCheck words
  pub model : Model
  pub holds : HoldsModel asked.check.model held model

-- What is answered of an accepted model: its text where that is to be printed, and else one word.
abbrev pub answer_of : Bool → Model → List ℕ
answer_of print model = if print then text_of model else codes "accepted\n"

-- The sink gained a part of the answer, from its front.
pub record AnswersFront (answer written : List ℕ) (out : Option (List ℕ)) : Type 0 where
  pub count : ℕ
  pub is : out ≡ Some (written ++ take count answer)

-- A model that is accepted was checked: the sink had `written`, and has `out`. Done, the whole
-- answer was written. Only a failed load, a failed write and want of memory cut it short.
abbrev pub Answers : List ℕ → List ℕ → Option (List ℕ) → Status → Type 0
Answers answer written out Done = out ≡ Some (written ++ answer)
Answers answer written out (Unread what.Model why.Failed) = out ≡ Some written
Answers answer written out (Unwritten what.Output) = AnswersFront answer written out
Answers answer written out Memory = AnswersFront answer written out
Answers answer written out other = ⊥
