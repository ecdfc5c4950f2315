-- How a piece of text is laid behind the tables of a model: what the code does, step by step.
use Rattle.std.specs.Prelude.{ℕ, List, [], ◌∷◌, ◌++◌, length, Option, Some, None, slice_set}
use Rattle.dsde_language.specs.given.values.types_Ty.{Ty}
use Rattle.dsde_language.specs.declared.node_ids.BlockId.{BlockId}
use Rattle.dsde_language.specs.declared.node_ids.ExprId.{ExprId}
use Rattle.dsde_language.specs.declared.tables.Tables.{Tables}
use Rattle.dsde_language.specs.Names.{Scope, with_slot}
use Rattle.dsde_language.specs.Expressions.{expr_id}
use Rattle.dsde_language.specs.Pieces.{Block}
use Rattle.dsde_program_layout.specs.Lay.{Lay}

-- what stands for a piece of text, the tables behind it, and the names that are seen there
pub record LaidPiece (A : Type 0) : Type 0 where
  pub own : A
  pub tables : Tables
  pub scope : Scope

-- a piece of text, over the names that are seen, behind tables
abbrev pub Step : Type 0 → Type 0
Step A = Scope → Tables → LaidPiece A

abbrev pub give : {A : Type 0} → A → Step A
give own scope tables = record { own = own; tables = tables; scope = scope }

infixl 10 ◌>>=◌
abbrev pub ◌>>=◌ : {A B : Type 0} → Step A → (A → Step B) → Step B
(first >>= then) scope tables =
    let one = first scope tables in
    then one.own one.scope one.tables

abbrev pub all : {A : Type 0} → List (Step A) → Step (List A)
all [] = give []
all (first ∷ rest) = first >>= (λ own. all rest >>= (λ others. give (own ∷ others)))

abbrev pub maybe : {A : Type 0} → Option (Step A) → Step (Option A)
maybe None = give None
maybe (Some part) = part >>= (λ own. give (Some own))

-- an expression, and what stands behind it, over its number and its type
abbrev pub expr : {A : Type 0} → Lay → (ExprId → Ty → Step A) → Step A
expr laid then scope tables =
    let one = laid scope tables.nodes in
    then (expr_id (length tables.nodes)) one.ty scope (record tables { nodes = one.table })

abbrev pub bound : {A : Type 0} → List ℕ → Ty → A → Step A
bound name ty own scope tables = record { own = own; tables = tables; scope = with_slot scope name ty }

abbrev pub binding : {A : Type 0} → List ℕ → Ty → Step A → Step A
binding name ty step scope tables = step (with_slot scope name ty) tables

abbrev pub seeing : {A : Type 0} → (Scope → Step A) → Step A
seeing step scope tables = step scope scope tables

abbrev pub inside : {A : Type 0} → Step A → Step A
inside step scope tables = record (step scope tables) { scope = scope }

abbrev pub over : {A : Type 0} → Scope → Step A → Step A
over own step scope tables = record (step own tables) { scope = scope }

-- tables with room for one more block
abbrev pub roomy : Tables → Tables
roomy tables = record tables { blocks = tables.blocks ++ [] ∷ [] }

-- tables with a block in room that was kept for it
abbrev pub put : Tables → ℕ → Block → Tables
put tables number own = record tables { blocks = slice_set tables.blocks number own }

-- a block, counted by its opening brace
abbrev pub braced : Step Block → Step BlockId
braced body scope tables =
    let within = body scope (roomy tables) in
    record {
      own = record { 0 = length tables.blocks };
      tables = put within.tables (length tables.blocks) within.own;
      scope = scope;
    }
