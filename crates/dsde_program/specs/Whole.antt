-- What is read of a whole model.
use Rattle.std.specs.Prelude.{◌≡◌, List, [], length}
use Rattle.dsde_syntax.specs.declared.decl.Decl.{Decl}
use Rattle.dsde_language.specs.declared.known.Known.{Known}
use Rattle.dsde_language.specs.DeclaredModels.{defs_from}
use Rattle.dsde_language.specs.NodeModels.{infos_from}
use Rattle.dsde_program_bodies.specs.given.program_layout.LayModels.{lay_decls, no_tables}
use Rattle.dsde_program.specs.declared.whole.Whole.{Whole}

-- what declarations declare, and what is laid of them; each atomic model and each network has one
-- body and one list of items
pub record IsWhole (own : Whole) (known : Known) (decls : List Decl) : Type 0 where
  pub types : own.declared.types ≡ record { defs = defs_from known.words known.types }
  pub infos : own.declared.infos ≡ infos_from known [] decls
  pub models : own.declared.models ≡ length (infos_from known [] decls)
  pub tables : own.laid.tables ≡ (lay_decls known decls [] no_tables).tables
  pub functions : own.laid.functions ≡ (lay_decls known decls [] no_tables).own.functions
  pub codes : own.laid.codes ≡ (lay_decls known decls [] no_tables).own.codes
  pub makes : own.laid.makes ≡ (lay_decls known decls [] no_tables).own.makes
  pub top_model : own.laid.top_model ≡ (lay_decls known decls [] no_tables).own.top_model
  pub top_args : own.laid.top_args ≡ (lay_decls known decls [] no_tables).own.top_args
  pub many_codes : length own.laid.codes ≡ length (infos_from known [] decls)
  pub many_makes : length own.laid.makes ≡ length (infos_from known [] decls)
