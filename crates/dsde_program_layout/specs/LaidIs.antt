-- What is laid is the resolution: of an expression, and of a whole model.
use Rattle.std.specs.Prelude.{◌≡◌, ◌++◌, length}
use Rattle.dsde_language.specs.given.syntax.expr_Expr.{Expr}
use Rattle.dsde_language.specs.declared.known.Known.{Known}
use Rattle.dsde_language.specs.given.syntax.decl_Model.{Model}
use Rattle.dsde_language.specs.NodeModels.{resolved}
use Rattle.dsde_language.specs.Pieces.{Next, Piece}
use Rattle.dsde_language.specs.Names.{Scope}
use Rattle.dsde_language.specs.Expressions.{Resolved, resolve}
use Rattle.dsde_program_layout.specs.Lay.{Table, Laid, lay}
use Rattle.dsde_program_layout.specs.LayModels.{lay_model, no_tables}
use Rattle.dsde_language.specs.declared.tables.Tables.{Tables}
use Rattle.dsde_program_layout.specs.LayPieces.{LaidPiece}

-- the resolution behind a table
abbrev pub laid_as : Resolved → Scope → Table → Laid
laid_as resolved scope table = record { ty = resolved.ty scope; table = table ++ resolved.nodes scope (length table) }

abbrev pub LaidIs : Type 0
LaidIs = (known : Known) (e : Expr) (scope : Scope) (table : Table) → lay known e scope table ≡ laid_as (resolve known e) scope table

-- the numbers that come next behind tables
abbrev pub next_of : Tables → Next
next_of tables = record { node = length tables.nodes; block = length tables.blocks; via = length tables.vias }

-- a piece behind tables
abbrev pub placed : {A : Type 0} → Piece A → Tables → LaidPiece A
placed piece tables = record {
  own = piece.own;
  tables = record {
    nodes = tables.nodes ++ piece.nodes;
    blocks = tables.blocks ++ piece.blocks;
    vias = tables.vias ++ piece.vias;
  };
  scope = piece.scope;
}

abbrev pub ModelLaid : Type 0
ModelLaid = (model : Model) → lay_model model ≡ placed (resolved model) no_tables
