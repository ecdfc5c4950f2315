-- The model that runs is one of those that the file declares.
use Rattle.std.proofs.Common.{◌≡◌, ℕ, ◌+◌, ◌<◌, List, [], ◌∷◌, length, Some, slice_get, arith, length-append}
use Rattle.std.specs.Prelude.{zero, suc}
use Rattle.dsde_sim_tree.specs.given.syntax.decl_Decl.{Decl}
use Rattle.dsde_sim_tree.specs.given.syntax.decl_Decl_TheVariants as decl
use Rattle.dsde_sim_tree.specs.given.syntax.decl_Body.{Body}
use Rattle.dsde_sim_tree.specs.given.syntax.decl_PortDecl.{PortDecl}
use Rattle.dsde_sim_tree.specs.given.syntax.decl_Typed.{Typed}
use Rattle.dsde_sim_tree.specs.given.syntax.id_Id.{Id}
use Rattle.dsde_sim_tree.specs.given.syntax.item_Item.{Item}
use Rattle.dsde_sim_tree.specs.given.language.known_Known.{Known}
use Rattle.dsde_sim_tree.specs.given.language.info_Info.{Info}
use Rattle.dsde_sim_tree.specs.given.language.DeclaredModels.{top_number, whole_of, Own, owns_of}
use Rattle.dsde_sim_tree.specs.given.language.NodeModels.{infos_from, with_info}
use Rattle.dsde_sound_names.specs.given.sound_expressions.Laws.{TopsStand}
use Rattle.dsde_sound_structures.specs.Lawful.{TopIsDeclared}

-- a model declares one more
one-atomic : (known : Known) (infos : List Info) (at : ℕ) (name : Id) (params : List Typed) (body : Body) →
    length (with_info known infos (decl.Atomic at name params body)) ≡ length infos + 1
one-atomic known infos at name params body = length-append infos _

one-network : (known : Known) (infos : List Info) (at : ℕ) (name : Id) (params : List Typed) (ports : List PortDecl) (exec_at : ℕ) (body : Body) (items : List Item) →
    length (with_info known infos (decl.Network at name params ports exec_at body items)) ≡ length infos + 1
one-network known infos at name params ports exec_at body items = length-append infos _

-- one is declared for each
as-many : (known : Known) (infos : List Info) (decls : List Decl) → length (infos_from known infos decls) ≡ length infos + length (owns_of decls)
as-many known infos [] = omega arith
as-many known infos (decl.Enum name variants ∷ decls) = as-many known infos decls
as-many known infos (decl.Rec name fields ∷ decls) = as-many known infos decls
as-many known infos (decl.Func name params result stmts value ∷ decls) = as-many known infos decls
as-many known infos (decl.Top at name args ∷ decls) = as-many known infos decls
as-many known infos (decl.Atomic at name params body ∷ decls) =
    omega (arith, as-many known (with_info known infos (decl.Atomic at name params body)) decls, one-atomic known infos at name params body)
as-many known infos (decl.Network at name params ports exec_at body items ∷ decls) =
    omega (
      arith,
      as-many known (with_info known infos (decl.Network at name params ports exec_at body items)) decls,
      one-network known infos at name params ports exec_at body items,
    )

-- what is found is within
within : (owns : List Own) (number : ℕ) (own : Own) → slice_get owns number ≡ Some own → number < length owns
within [] number own found = absurd (cc found)
within (first ∷ owns) zero own found = omega arith
within (first ∷ owns) (suc number) own found = let rest = within owns number own found in omega (arith, rest)

pub top-is-declared : TopsStand → TopIsDeclared
top-is-declared tops model right =
    let top = tops model right in
    let below = within (owns_of model.decls) (top_number model).0 top.own top.at in
    omega (arith, below, as-many (whole_of model) [] model.decls)
