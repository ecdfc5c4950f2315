-- The structure of each network stands at its number.
use Rattle.std.proofs.Common.{◌≡◌, ℕ, zero, suc, ◌+◌, true, false, List, [], ◌∷◌, length, take, Some, Ok, slice_get, refl, sym, subst, arith, true≢false}
use Rattle.std.proofs.lemmas.Bool.{and_parts}
use Rattle.std.proofs.lemmas.List.{length-append}
use Rattle.std.specs.List.{flat_map, list_all}
use Rattle.dsde_language.specs.given.syntax.item_Item.{Item}
use Rattle.dsde_language.specs.given.syntax.decl_Decl.{Decl}
use Rattle.dsde_language.specs.given.syntax.decl_Decl_TheVariants as decl
use Rattle.dsde_language.specs.given.syntax.decl_Model.{Model}
use Rattle.dsde_language.specs.declared.known.Known.{Known}
use Rattle.dsde_language.specs.RuleTables.{known_of}
use Rattle.dsde_language.specs.Blocks.{body_names}
use Rattle.dsde_language.specs.Rules.{around_with, network_rule, decl_rule, decls_rule}
use Rattle.dsde_language.specs.declared.code.Code.{Code}
use Rattle.dsde_language.specs.declared.code.ViaCode.{ViaCode}
use Rattle.dsde_language.specs.declared.make.Make.{Make}
use Rattle.dsde_language.specs.declared.node.Node.{Node}
use Rattle.dsde_language.specs.Items.{resolve_items}
use Rattle.dsde_language.specs.DeclaredStructures.{place_of_items, structures_of, vias_in, vias_of_structures, vias_of}
use Rattle.dsde_language.specs.DeclaredModels.{whole_of, Own, owns_of}
use Rattle.dsde_language.specs.NodeModels.{Parts, resolve_decls, resolved}
use Rattle.dsde_language.specs.Pieces.{Block, Next}
use Rattle.dsde_language.specs.Statements.{body_scope, resolve_body}
use Rattle.dsde_language.specs.Names as nodes
use Rattle.dsde_language.specs.Right.{IsRight}
use Rattle.dsde_language.specs.Proper.{is_proper_decl, are_plain, is_proper_body}
use Rattle.dsde_language.specs.Scopes.{Stands}
use Rattle.dsde_sound_expressions.specs.Items.{has_proper_items}
use Rattle.dsde_sound_expressions.specs.Structures.{IsStructure, HasStructure}
use Rattle.dsde_sound_expressions.specs.lemmas.Steps.{went}
use Rattle.dsde_sound_expressions.proofs.Within.{ruled}
use Rattle.dsde_sound_expressions.specs.lemmas.Standing.{stands-left, stands-right, stands-whole}
use Rattle.dsde_sound_expressions.proofs.BodyPieces.{body-put}
use Rattle.dsde_sound_expressions.proofs.OneBody.{StructureJudged}
use Rattle.dsde_sound_expressions.proofs.Owns.{Place, known-at, next-place, structure-judged}
use Rattle.dsde_sound_expressions.proofs.Bodies.{first-put, first-place}
use Rattle.dsde_sound_expressions.proofs.StructurePieces.{Laid, RestLaid, func-laid, atomic-laid, network-laid, top-laid}
use Rattle.dsde_sound_expressions.proofs.OneStructure.{structure-stands}

-- structures, each as it is resolved, whose translations begin at this number
abbrev From : Model → ℕ → List Own → List (List Item) → List (List Make) → Type 0
From model via [] [] [] = Unit {0}
From model via (own ∷ owns) (items ∷ structures) (makes ∷ others) =
    (own.network ≡ true → IsStructure model own items via makes) × From model (via + length (flat_map vias_in items)) owns structures others
From model via _ _ _ = ⊥

-- the structure with a number among these
record Found (model : Model) (own : Own) (structures : List (List Item)) (others : List (List Make)) (via number : ℕ) : Type 0 where
  items : List Item
  found : slice_get structures number ≡ Some items
  makes : List Make
  coded : slice_get others number ≡ Some makes
  is : IsStructure model own items (via + length (vias_of_structures (take number structures))) makes

find : (model : Model) (own : Own) (owns : List Own) (structures : List (List Item)) (others : List (List Make)) (via number : ℕ) → From model via owns structures others
    → slice_get owns number ≡ Some own → own.network ≡ true → Found model own structures others via number
find model own [] structures others via number stand here network = absurd (cc)
find model own (first ∷ owns) [] others via number stand here network = absurd stand
find model own (first ∷ owns) (items ∷ structures) [] via number stand here network = absurd stand
find model own (first ∷ owns) (items ∷ structures) (makes ∷ others) via zero stand here network =
    let same : first ≡ own = cc in
    let is : IsStructure model own items via makes = subst (λ (o : Own). o.network ≡ true → IsStructure model o items via makes) same stand.0 network in
    record { items = items; found = refl; makes = makes; coded = refl; is = subst (λ (n : ℕ). IsStructure model own items n makes) (omega arith) is }
find model own (first ∷ owns) (items ∷ structures) (makes ∷ others) via (suc number) stand here network =
    let rest = find model own owns structures others (via + length (flat_map vias_in items)) number stand.1 here network in
    let long = length-append (flat_map vias_in items) (vias_of_structures (take number structures)) in
    record {
      items = rest.items;
      found = rest.found;
      makes = rest.makes;
      coded = rest.coded;
      is = subst (λ (n : ℕ). IsStructure model own rest.items n rest.makes) (omega (arith, long)) rest.is;
    }

module _ (model : Model) (right : IsRight model) where
  abbrev whole : Known
  whole = whole_of model

  abbrev node_table : List Node
  node_table = (resolved model).nodes

  abbrev block_table : List Block
  block_table = (resolved model).blocks

  abbrev via_table : List ViaCode
  via_table = (resolved model).vias

  -- the declarations of a file stand in the tables and in its text, from these numbers on
  abbrev Stand : List Decl → Type 0
  Stand rest = (known : Known) → Place model right known rest → decls_rule known rest ≡ Ok tt → list_all is_proper_decl rest ≡ true → list_all has_proper_items rest ≡ true
      → (scope : nodes.Scope) (next : Next) → Laid node_table block_table via_table next (resolve_decls whole rest scope next)
      → Stands (vias_of model) next.via (vias_of_structures (structures_of rest))
      → From model next.via (owns_of rest) (structures_of rest) (resolve_decls whole rest scope next).own.makes

  -- the declarations behind one
  behind-one : (own : Decl) (rest : List Decl) → Stand rest → (known : Known) → Place model right known (own ∷ rest) → decls_rule known (own ∷ rest) ≡ Ok tt
      → list_all is_proper_decl (own ∷ rest) ≡ true → list_all has_proper_items (own ∷ rest) ≡ true
      → (via : ℕ) (front : List (List Make)) (parts : Parts) (here : RestLaid node_table block_table via_table whole (resolve_decls whole rest) via front parts)
      → Stands (vias_of model) via (vias_of_structures (structures_of rest))
      → From model via (owns_of rest) (structures_of rest) (resolve_decls whole rest here.names here.next).own.makes
  behind-one own rest stand known place is proper plain via front parts here texts =
      let one = went (decl_rule known own) (λ more. decls_rule more rest) tt is in
      let proper_rest = (and_parts (is_proper_decl own) (list_all is_proper_decl rest) proper).1 in
      let plain_rest = (and_parts (has_proper_items own) (list_all has_proper_items rest) plain).1 in
      let texts_here = subst (λ (n : ℕ). Stands (vias_of model) n (vias_of_structures (structures_of rest))) (sym here.from) texts in
      subst (λ (n : ℕ). From model n (owns_of rest) (structures_of rest) (resolve_decls whole rest here.names here.next).own.makes) here.from
      (stand one.value (next-place model right known one.value own rest place one.first) one.next proper_rest plain_rest here.names here.next here.laid texts_here)

  stand-all : (rest : List Decl) → Stand rest
  stand-all [] known place is proper plain scope next laid texts = tt
  stand-all (decl.Enum name variants ∷ rest) known place is proper plain scope next laid texts =
      let own : Decl = decl.Enum name variants in
      behind-one own rest (stand-all rest) known place is proper plain next.via [] (resolve_decls whole rest scope next).own
      (record { names = scope; next = next; laid = laid; from = refl; makes = refl }) texts
  stand-all (decl.Rec name fields ∷ rest) known place is proper plain scope next laid texts =
      let own : Decl = decl.Rec name fields in
      behind-one own rest (stand-all rest) known place is proper plain next.via [] (resolve_decls whole rest scope next).own
      (record { names = scope; next = next; laid = laid; from = refl; makes = refl }) texts
  stand-all (decl.Func name params result stmts value ∷ rest) known place is proper plain scope next laid texts =
      let own : Decl = decl.Func name params result stmts value in
      let here = func-laid node_table block_table via_table whole (resolve_decls whole rest) name params result stmts value scope next laid in
      subst (λ (l : List (List Make)). From model next.via (owns_of rest) (structures_of rest) l) (sym here.makes)
      (behind-one own rest (stand-all rest) known place is proper plain next.via [] (resolve_decls whole (own ∷ rest) scope next).own here texts)
  stand-all (decl.Atomic at name params body ∷ rest) known place is proper plain scope next laid texts =
      let own : Decl = decl.Atomic at name params body in
      let text : Own = record { name = name; at = at; network = false; params = params; ports = body.ports; start_at = at; body = body } in
      let here = atomic-laid node_table block_table via_table whole (resolve_decls whole rest) at name params body scope next laid in
      subst (λ (l : List (List Make)). From model next.via (text ∷ owns_of rest) ([] ∷ structures_of rest) l) (sym here.makes) (
        (λ network. absurd (true≢false (sym network))),
        subst (λ (n : ℕ). From model n (owns_of rest) (structures_of rest) (resolve_decls whole rest here.names here.next).own.makes) (omega arith)
            (behind-one own rest (stand-all rest) known place is proper plain next.via ([] ∷ []) (resolve_decls whole (own ∷ rest) scope next).own here texts),
      )
  stand-all (decl.Network at name params ports exec_at body items ∷ rest) known place is proper plain scope next laid texts =
      let own : Decl = decl.Network at name params ports exec_at body items in
      let text : Own = record { name = name; at = at; network = true; params = params; ports = ports; start_at = exec_at; body = body } in
      let here = network-laid node_table block_table via_table whole (resolve_decls whole rest) at name params ports exec_at body items scope next laid in
      let both = and_parts (is_proper_decl own) (list_all is_proper_decl rest) proper in
      let parts = and_parts (are_plain params) (is_proper_body body) both.0 in
      let one = went (decl_rule known own) (λ more. decls_rule more rest) tt is in
      let test = went (network_rule (around_with known (body_names params body)) name params ports exec_at body items) (λ _. Ok known) one.value one.first in
      let judged : StructureJudged model known text items = structure-judged model right known (known-at model right known (own ∷ rest) place) name params body at ports exec_at items test.value test.first parts.0 parts.1 in
      let code : Code = (resolve_body whole params exec_at body scope next).own in
      let put = body-put node_table block_table whole params exec_at body scope next here.own in
      let first = stands-left (vias_of model) next.via (flat_map vias_in items) (vias_of_structures (structures_of rest)) texts in
      let last = stands-right (vias_of model) next.via (flat_map vias_in items) (vias_of_structures (structures_of rest)) texts in
      let made : List Make = (resolve_items (place_of_items whole ports body items) items (body_scope whole params body) here.items_next).own in
      subst (λ (l : List (List Make)). From model next.via (text ∷ owns_of rest) (items ∷ structures_of rest) l) (sym here.rest_laid.makes) (
        (λ network.
            subst (λ (n : ℕ). IsStructure model text items n made) here.from
            (structure-stands model known text items judged code next here.items_next put here.laid
            (subst (λ (n : ℕ). Stands (vias_of model) n (flat_map vias_in items)) (sym here.from) first)
            (and_parts (has_proper_items own) (list_all has_proper_items rest) plain).0)),
        behind-one own rest (stand-all rest) known place is proper plain (next.via + length (flat_map vias_in items)) (made ∷ []) (resolve_decls whole (own ∷ rest) scope next).own here.rest_laid last,
      )
  stand-all (decl.Top at name args ∷ rest) known place is proper plain scope next laid texts =
      let own : Decl = decl.Top at name args in
      let here = top-laid node_table block_table via_table whole (resolve_decls whole rest) at name args scope next laid in
      subst (λ (l : List (List Make)). From model next.via (owns_of rest) (structures_of rest) l) (sym here.makes)
      (behind-one own rest (stand-all rest) known place is proper plain next.via [] (resolve_decls whole (own ∷ rest) scope next).own here texts)

  abbrev first_next : Next
  first_next = record { node = 0; block = 0; via = 0 }

  first-laid : Laid node_table block_table via_table first_next (resolved model)
  first-laid = record { put = first-put model right; vias_at = stands-whole via_table }

  pub structures-stand : list_all is_proper_decl model.decls ≡ true → list_all has_proper_items model.decls ≡ true
      → (number : ℕ) (own : Own) → slice_get (owns_of model.decls) number ≡ Some own → own.network ≡ true → HasStructure model number own
  structures-stand proper plain number own here network =
      let stand : From model 0 (owns_of model.decls) (structures_of model.decls) (resolved model).own.makes =
      stand-all model.decls (known_of model.decls) (first-place model right) (ruled model right).file.judged proper plain [] first_next first-laid (stands-whole (vias_of model)) in
      let found : Found model own (structures_of model.decls) (resolved model).own.makes 0 number =
      find model own (owns_of model.decls) (structures_of model.decls) (resolved model).own.makes 0 number stand here network in
      record {
        items = found.items;
        found = found.found;
        makes = found.makes;
        coded = found.coded;
        is = subst (λ (n : ℕ). IsStructure model own found.items n found.makes) (omega arith) found.is;
      }
