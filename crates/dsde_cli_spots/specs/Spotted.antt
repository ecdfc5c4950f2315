-- The lines and columns that notes tell.
use Rattle.std.specs.Prelude.{◌≡◌, ◌<◌, ◌+◌, ℕ, List, length, map, Some, Ok}
use Rattle.std.specs.List.{range_with_len}
use Rattle.dsde_syntax.specs.declared.decl.Model.{Model}
use Rattle.dsde_syntax.specs.declared.token.Token.{Token}
use Rattle.dsde_lexer.specs.Lines.{place_of}
use Rattle.dsde_lexer.specs.Tokens.{tokens}
use Rattle.dsde_input_records.specs.Records.{Records}
use Rattle.dsde_sim_tree.specs.declared.event.Finish.TheVariants as how
use Rattle.dsde_sim_tree.specs.declared.fault.Fault.{Fault}
use Rattle.dsde_system.specs.Program.{system}
use Rattle.dsde_run_meaning.specs.Run.{Spots, run}
use Rattle.dsde_cli_verdict.specs.declared.refusal.Refusal.{Refusal}
use Rattle.dsde_cli_verdict.specs.Verdict.{Accepts, Refuses}

-- A line and a column, both counted from 1.
pub record IsLine (line column : ℕ) : Type 0 where
  pub line_from : 0 < line
  pub column_from : 0 < column

-- They are those of the first byte of a token of the text.
pub record IsAtToken (bytes : List ℕ) (line column : ℕ) : Type 0 where
  pub cut : List Token
  pub lexed : tokens bytes ≡ Ok cut
  pub at : ℕ
  pub token : at < length cut
  pub place : place_of bytes cut at ≡ (line, column)

-- the line and the column of each token of a text that is cut so, and of its end
abbrev pub spots_of : List ℕ → List Token → Spots
spots_of bytes cut = map (place_of bytes cut) (range_with_len 0 (length cut + 1))

-- A fault in which a run of an accepted text ends is told at a token of the text.
abbrev pub FaultsAreAtTokens : Type 0
FaultsAreAtTokens =
    (bytes : List ℕ) (model : Model) (accepts : Accepts bytes model) (records : Records) (turns : ℕ) (fault : Fault)
    → (run (system model) (spots_of bytes accepts.cut) records turns).end ≡ Some (how.Fault fault)
    → IsAtToken bytes fault.line fault.column × IsLine fault.line fault.column

-- What a text is refused for is told at a line and a column.
abbrev pub RefusalsHaveLines : Type 0
RefusalsHaveLines = (bytes : List ℕ) (kind : Refusal) (line column : ℕ) → Refuses bytes kind line column → IsLine line column
