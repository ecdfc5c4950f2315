-- At which token of its text a run tells a fault.
use Rattle.std.specs.Prelude.{◌≡◌, ◌<◌, ℕ, length, Some}
use Rattle.dsde_syntax.specs.declared.decl.Model.{Model}
use Rattle.dsde_syntax.specs.Grammar.{tokens_of}
use Rattle.dsde_syntax.specs.Shape.{IsShaped}
use Rattle.dsde_input_records.specs.Records.{Records}
use Rattle.dsde_sim_tree.specs.declared.event.Finish.TheVariants as how
use Rattle.dsde_sim_tree.specs.declared.fault.Fault.{Fault}
use Rattle.dsde_system.specs.Program.{system}
use Rattle.dsde_run_meaning.specs.Run.{Spots, spot_at, run}

-- The fault is told at the line and the column of one of so many tokens.
pub record IsAtToken (n : ℕ) (spots : Spots) (fault : Fault) : Type 0 where
  pub at : ℕ
  pub token : at < n
  pub place : spot_at spots at ≡ (fault.line, fault.column)

-- A fault in which a run of a model ends that a text can spell is told at one of the model's tokens.
abbrev pub FaultsAreAtTokens : Type 0
FaultsAreAtTokens =
    (model : Model) (spots : Spots) (records : Records) (turns : ℕ) (fault : Fault) → IsShaped model
    → (run (system model) spots records turns).end ≡ Some (how.Fault fault) → IsAtToken (length (tokens_of model)) spots fault
