-- What a whole model lays is its resolution.
use Rattle.std.proofs.Common.{◌≡◌, List, [], ◌∷◌}
use Rattle.dsde_language.specs.given.syntax.decl_Decl.{Decl}
use Rattle.dsde_language.specs.given.syntax.decl_Decl_TheVariants as decl
use Rattle.dsde_language.specs.given.syntax.decl_Model.{Model}
use Rattle.dsde_language.specs.declared.known.Known.{Known}
use Rattle.dsde_language.specs.Pieces as piece
use Rattle.dsde_language.specs.NodeModels as said
use Rattle.dsde_language.specs.DeclaredStructures.{place_of_items}
use Rattle.dsde_language.specs.DeclaredModels.{whole_of, model_id}
use Rattle.dsde_language.specs.NodeModels.{Parts, no_parts, resolved}
use Rattle.dsde_language.specs.Statements.{body_scope}
use Rattle.dsde_program_layout.specs.LayPieces as step
use Rattle.dsde_program_layout.specs.LayModels as laid
use Rattle.dsde_program_layout.specs.LayModels.{lay_model, no_tables}
use Rattle.dsde_program_layout.specs.LaidIs.{placed}
use Rattle.dsde_program_layout.proofs.PieceLays.{Lays, give-lays, over-lays, then-lays}
use Rattle.dsde_program_layout.proofs.StatementLays.{func-lays, body-is}
use Rattle.dsde_program_layout.proofs.ItemLays.{exprs-lay, items-lay}

module _ (known : Known) where
  decl-lays : (own : Decl) (l : step.Step Parts) (s : piece.Step Parts) → Lays l s → Lays (laid.lay_decl known own l) (said.resolve_decl known own s)
  decl-lays (decl.Enum name variants) l s rest = rest
  decl-lays (decl.Rec name fields) l s rest = rest
  decl-lays (decl.Func name params result stmts value) l s rest =
      then-lays _ _ _ _ (func-lays known params stmts value)
      (λ own. then-lays l s _ _ rest (λ parts. give-lays (let more : Parts = record parts { functions = own ∷ parts.functions } in more)))
  decl-lays (decl.Atomic at name params body) l s rest =
      then-lays _ _ _ _ (body-is known params at body)
      (λ own. then-lays l s _ _ rest (λ parts. give-lays (let more : Parts = record parts { codes = own ∷ parts.codes; makes = [] ∷ parts.makes } in more)))
  decl-lays (decl.Network at name params ports exec_at body items) l s rest =
      then-lays _ _ _ _ (body-is known params exec_at body)
      (λ own. then-lays _ _ _ _ (over-lays (body_scope known params body) _ _ (items-lay (place_of_items known ports body items) items))
      (λ makes. then-lays l s _ _ rest (λ parts. give-lays (let more : Parts = record parts { codes = own ∷ parts.codes; makes = makes ∷ parts.makes } in more))))
  decl-lays (decl.Top at name args) l s rest =
      then-lays _ _ _ _ (exprs-lay known args)
      (λ values. then-lays l s _ _ rest (λ parts. give-lays (let more : Parts = record parts { top_model = model_id known name.name; top_args = values } in more)))

  decls-lay : (decls : List Decl) → Lays (laid.lay_decls known decls) (said.resolve_decls known decls)
  decls-lay [] = give-lays no_parts
  decls-lay (own ∷ decls) = decl-lays own (laid.lay_decls known decls) (said.resolve_decls known decls) (decls-lay decls)

-- what is laid for a whole model
pub model-is : (model : Model) → lay_model model ≡ placed (resolved model) no_tables
model-is model = (decls-lay (whole_of model) model.decls).lays [] no_tables
