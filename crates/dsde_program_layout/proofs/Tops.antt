-- The model that runs, by its name.
use Rattle.std.proofs.Common.{◌≡◌, List, [], ◌∷◌, refl}
use Rattle.std.specs.Option.{option_map_or}
use Rattle.dsde_language.specs.given.syntax.decl_Decl.{Decl}
use Rattle.dsde_language.specs.given.syntax.decl_Decl_TheVariants as decl
use Rattle.dsde_language.specs.declared.known.Known.{Known}
use Rattle.dsde_language.specs.declared.ids.ModelId.{ModelId}
use Rattle.dsde_language.specs.Names.{Scope}
use Rattle.dsde_language.specs.DeclaredModels.{TopOf, model_id, top_in, whole_of}
use Rattle.dsde_language.specs.NodeModels.{Parts, resolve_decl, resolve_decls}
use Rattle.dsde_language.specs.Pieces.{Next, Step}
use Rattle.dsde_program_layout.specs.Declared.{TopIsNamed}

module _ (known : Known) where
  -- the number of the first `top` among declarations
  abbrev number_in : List Decl → ModelId
  number_in decls = option_map_or (λ (top : TopOf). model_id known top.name) (top_in decls) (record { 0 = 0 })

  abbrev Has : Step Parts → ModelId → Type 0
  Has step number = (scope : Scope) (next : Next) → (step scope next).own.top_model ≡ number

  -- a declaration before those behind it
  behind : (own : Decl) (decls : List Decl) (rest : Step Parts) → Has rest (number_in decls) → Has (resolve_decl known own rest) (number_in (own ∷ decls))
  behind (decl.Enum name variants) decls rest has scope next = has _ _
  behind (decl.Rec name fields) decls rest has scope next = has _ _
  behind (decl.Func name params result stmts value) decls rest has scope next = has _ _
  behind (decl.Atomic at name params body) decls rest has scope next = has _ _
  behind (decl.Network at name params ports exec_at body items) decls rest has scope next = has _ _
  behind (decl.Top at name args) decls rest has scope next = refl

  number-is : (decls : List Decl) → Has (resolve_decls known decls) (number_in decls)
  number-is [] scope next = refl
  number-is (own ∷ decls) scope next = behind own decls (resolve_decls known decls) (number-is decls) scope next

pub top-is-named : TopIsNamed
top-is-named model = number-is (whole_of model) model.decls [] (record { node = 0; block = 0; via = 0 })
