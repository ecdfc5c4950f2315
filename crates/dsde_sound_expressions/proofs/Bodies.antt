-- Each atomic model and each network stands at its number.
use Rattle.std.proofs.Common.{◌≡◌, ℕ, zero, suc, ◌<◌, true, false, List, [], ◌∷◌, ◌++◌, length, Some, Ok, slice_get, refl, sym, ap, subst, ◌∙◌, arith, append_assoc, append-nil}
use Rattle.std.proofs.lemmas.Bool.{and_parts}
use Rattle.std.specs.List.{list_all}
use Rattle.dsde_language.specs.given.syntax.decl_Decl.{Decl}
use Rattle.dsde_language.specs.given.syntax.decl_Decl_TheVariants as decl
use Rattle.dsde_language.specs.given.syntax.decl_Model.{Model}
use Rattle.dsde_language.specs.declared.known.Known.{Known}
use Rattle.dsde_language.specs.RuleTables.{known_of}
use Rattle.dsde_language.specs.Blocks.{body_names}
use Rattle.dsde_language.specs.Rules.{around_with, atomic_rule, network_rule, decl_rule, decls_rule}
use Rattle.dsde_language.specs.declared.code.Code.{Code}
use Rattle.dsde_language.specs.declared.info.Info.{Info}
use Rattle.dsde_language.specs.declared.node.Node.{Node}
use Rattle.dsde_language.specs.DeclaredModels.{whole_of, typed_fields, state_fields, port_fields, Own, owns_of}
use Rattle.dsde_language.specs.NodeModels.{Parts, infos_of, infos_from, resolve_decls, resolved}
use Rattle.dsde_language.specs.Pieces.{Block, Next}
use Rattle.dsde_language.specs.Statements.{resolve_body}
use Rattle.dsde_language.specs.Names as nodes
use Rattle.dsde_language.specs.Right.{IsRight}
use Rattle.dsde_language.specs.Proper.{is_proper_decl, are_plain, is_proper_body}
use Rattle.dsde_sound_expressions.specs.Bodies.{BodyStands, InfoIs}
use Rattle.dsde_sound_expressions.specs.Laws.{HasOwn}
use Rattle.dsde_sound_expressions.specs.lemmas.Steps.{went}
use Rattle.dsde_sound_expressions.proofs.Within.{ruled}
use Rattle.dsde_sound_expressions.specs.lemmas.Standing.{stands-whole}
use Rattle.dsde_sound_expressions.proofs.Pieces.{Put}
use Rattle.dsde_sound_expressions.proofs.BodyPieces.{body-put}
use Rattle.dsde_sound_expressions.proofs.DeclPieces.{BodyDecl, func-put, atomic-put, network-put, top-put}
use Rattle.dsde_sound_expressions.proofs.OneBody.{OwnJudged, body-stands}
use Rattle.dsde_sound_expressions.proofs.Owns.{Place, known-at, next-place, atomic-judged, network-judged}

-- bodies, each as it is resolved
abbrev CodesStand : Model → List Own → List Code → Type 0
CodesStand model [] [] = Unit {0}
CodesStand model (own ∷ owns) (code ∷ codes) = BodyStands model own code × CodesStand model owns codes
CodesStand model _ _ = ⊥

-- models, each as it is declared
abbrev pub InfosAre : Model → List Own → List Info → Type 0
InfosAre model [] [] = Unit {0}
InfosAre model (own ∷ owns) (info ∷ infos) = InfoIs model own info × InfosAre model owns infos
InfosAre model _ _ = ⊥

module _ (model : Model) where
  pub infos-are : (decls : List Decl) (infos : List Info) → (more : List Info) × (infos_from (whole_of model) infos decls ≡ infos ++ more) × InfosAre model (owns_of decls) more
  infos-are [] infos = ([], sym (append-nil infos), tt)
  infos-are (decl.Enum name variants ∷ decls) infos = infos-are decls infos
  infos-are (decl.Rec name fields ∷ decls) infos = infos-are decls infos
  infos-are (decl.Func name params result stmts value ∷ decls) infos = infos-are decls infos
  infos-are (decl.Atomic at name params body ∷ decls) infos =
      let info : Info = record {
        name = name.name;
        at = at;
        network = false;
        params = typed_fields (whole_of model) params;
        ins = port_fields (whole_of model) false body.ports;
        outs = port_fields (whole_of model) true body.ports;
        boss_ins = [];
        boss_outs = [];
        states = state_fields (whole_of model) body.states;
      } in
      let rest = infos-are decls (infos ++ info ∷ []) in
      (info ∷ rest.0, rest.1 ∙ append_assoc infos (info ∷ []) rest.0, (record { name = refl; network = refl; params = refl; ins = refl; outs = refl; states = refl }, rest.2))
  infos-are (decl.Network at name params ports exec_at body items ∷ decls) infos =
      let info : Info = record {
        name = name.name;
        at = at;
        network = true;
        params = typed_fields (whole_of model) params;
        ins = port_fields (whole_of model) false ports;
        outs = port_fields (whole_of model) true ports;
        boss_ins = port_fields (whole_of model) false body.ports;
        boss_outs = port_fields (whole_of model) true body.ports;
        states = state_fields (whole_of model) body.states;
      } in
      let rest = infos-are decls (infos ++ info ∷ []) in
      (info ∷ rest.0, rest.1 ∙ append_assoc infos (info ∷ []) rest.0, (record { name = refl; network = refl; params = refl; ins = refl; outs = refl; states = refl }, rest.2))
  infos-are (decl.Top at name args ∷ decls) infos = infos-are decls infos

  -- a model with a number, by its text, its body and what it declares
  record Found (owns : List Own) (codes : List Code) (infos : List Info) (number : ℕ) : Type 0 where
    own : Own
    found : slice_get owns number ≡ Some own
    code : Code
    coded : slice_get codes number ≡ Some code
    body : BodyStands model own code
    info : Info
    told : slice_get infos number ≡ Some info
    is : InfoIs model own info

  find : (owns : List Own) (codes : List Code) (infos : List Info) (number : ℕ) → CodesStand model owns codes → InfosAre model owns infos → number < length infos → Found owns codes infos number
  find [] [] [] number stand are low = absurd (omega (arith, low))
  find [] [] (info ∷ infos) number stand are low = absurd are
  find [] (code ∷ codes) infos number stand are low = absurd stand
  find (own ∷ owns) [] infos number stand are low = absurd stand
  find (own ∷ owns) (code ∷ codes) [] number stand are low = absurd are
  find (own ∷ owns) (code ∷ codes) (info ∷ infos) zero stand are low = record { own = own; found = refl; code = code; coded = refl; body = stand.0; info = info; told = refl; is = are.0 }
  find (own ∷ owns) (code ∷ codes) (info ∷ infos) (suc number) stand are low =
      let rest = find owns codes infos number stand.1 are.1 (omega (arith, low)) in
      record { own = rest.own; found = rest.found; code = rest.code; coded = rest.coded; body = rest.body; info = rest.info; told = rest.told; is = rest.is }

module _ (model : Model) (right : IsRight model) where
  abbrev whole : Known
  whole = whole_of model

  abbrev node_table : List Node
  node_table = (resolved model).nodes

  abbrev block_table : List Block
  block_table = (resolved model).blocks

  abbrev Stand : List Decl → Type 0
  Stand rest = (known : Known) → Place model right known rest → decls_rule known rest ≡ Ok tt → list_all is_proper_decl rest ≡ true
      → (scope : nodes.Scope) (next : Next) → Put node_table block_table next (resolve_decls whole rest scope next) → CodesStand model (owns_of rest) (resolve_decls whole rest scope next).own.codes

  -- the declarations behind one
  behind-one : (own : Decl) (rest : List Decl) → Stand rest → (known : Known) → Place model right known (own ∷ rest) → decls_rule known (own ∷ rest) ≡ Ok tt → list_all is_proper_decl rest ≡ true
      → (scope : nodes.Scope) (next : Next) → Put node_table block_table next (resolve_decls whole rest scope next) → CodesStand model (owns_of rest) (resolve_decls whole rest scope next).own.codes
  behind-one own rest stand known place is proper scope next put =
      let one = went (decl_rule known own) (λ more. decls_rule more rest) tt is in
      stand one.value (next-place model right known one.value own rest place one.first) one.next proper scope next put

  one-body : (own : Own) (rest : List Decl) (known : Known) (scope : nodes.Scope) (next : Next) (parts : Parts) → OwnJudged model known own
      → (here : BodyDecl node_table block_table whole (resolve_decls whole rest) scope next (resolve_body whole own.params own.start_at own.body) parts)
      → CodesStand model (owns_of rest) (resolve_decls whole rest here.other.own.names here.other.own.next).own.codes → CodesStand model (own ∷ owns_of rest) parts.codes
  one-body own rest known scope next parts judged here behind =
      let code : Code = (resolve_body whole own.params own.start_at own.body scope next).own in
      subst (λ (l : List Code). CodesStand model (own ∷ owns_of rest) l) (sym here.other.own.codes)
      (body-stands model known own judged code next (body-put node_table block_table whole own.params own.start_at own.body scope next here.own), behind)

  codes-stand : (rest : List Decl) → Stand rest
  codes-stand [] known place is proper scope next put = tt
  codes-stand (decl.Enum name variants ∷ rest) known place is proper scope next put =
      behind-one (decl.Enum name variants) rest (codes-stand rest) known place is (and_parts (is_proper_decl (decl.Enum name variants)) (list_all is_proper_decl rest) proper).1 scope next put
  codes-stand (decl.Rec name fields ∷ rest) known place is proper scope next put =
      behind-one (decl.Rec name fields) rest (codes-stand rest) known place is (and_parts (is_proper_decl (decl.Rec name fields)) (list_all is_proper_decl rest) proper).1 scope next put
  codes-stand (decl.Func name params result stmts value ∷ rest) known place is proper scope next put =
      let own : Decl = decl.Func name params result stmts value in
      let here = func-put node_table block_table whole (resolve_decls whole rest) name params result stmts value scope next put in
      subst (λ (l : List Code). CodesStand model (owns_of rest) l) (sym here.own.codes)
      (behind-one own rest (codes-stand rest) known place is (and_parts (is_proper_decl own) (list_all is_proper_decl rest) proper).1 here.own.names here.own.next here.own.put)
  codes-stand (decl.Atomic at name params body ∷ rest) known place is proper scope next put =
      let own : Decl = decl.Atomic at name params body in
      let text : Own = record { name = name; at = at; network = false; params = params; ports = body.ports; start_at = at; body = body } in
      let here = atomic-put node_table block_table whole (resolve_decls whole rest) at name params body scope next put in
      let both = and_parts (is_proper_decl own) (list_all is_proper_decl rest) proper in
      let parts = and_parts (are_plain params) (is_proper_body body) both.0 in
      let one = went (decl_rule known own) (λ more. decls_rule more rest) tt is in
      let test = went (atomic_rule (around_with known (body_names params body)) at name params body) (λ _. Ok known) one.value one.first in
      let judged : OwnJudged model known text = atomic-judged model right known (known-at model right known (own ∷ rest) place) name params body at test.value test.first parts.0 parts.1 in
      one-body text rest known scope next (resolve_decls whole (own ∷ rest) scope next).own judged here
      (behind-one own rest (codes-stand rest) known place is both.1 here.other.own.names here.other.own.next here.other.own.put)
  codes-stand (decl.Network at name params ports exec_at body items ∷ rest) known place is proper scope next put =
      let own : Decl = decl.Network at name params ports exec_at body items in
      let text : Own = record { name = name; at = at; network = true; params = params; ports = ports; start_at = exec_at; body = body } in
      let here = network-put node_table block_table whole (resolve_decls whole rest) at name params ports exec_at body items scope next put in
      let both = and_parts (is_proper_decl own) (list_all is_proper_decl rest) proper in
      let parts = and_parts (are_plain params) (is_proper_body body) both.0 in
      let one = went (decl_rule known own) (λ more. decls_rule more rest) tt is in
      let test = went (network_rule (around_with known (body_names params body)) name params ports exec_at body items) (λ _. Ok known) one.value one.first in
      let judged : OwnJudged model known text = network-judged model right known (known-at model right known (own ∷ rest) place) name params body at ports exec_at items test.value test.first parts.0 parts.1 in
      one-body text rest known scope next (resolve_decls whole (own ∷ rest) scope next).own judged here
      (behind-one own rest (codes-stand rest) known place is both.1 here.other.own.names here.other.own.next here.other.own.put)
  codes-stand (decl.Top at name args ∷ rest) known place is proper scope next put =
      let own : Decl = decl.Top at name args in
      let here = top-put node_table block_table whole (resolve_decls whole rest) at name args scope next put in
      subst (λ (l : List Code). CodesStand model (owns_of rest) l) (sym here.other.codes)
      (behind-one own rest (codes-stand rest) known place is (and_parts (is_proper_decl own) (list_all is_proper_decl rest) proper).1 here.other.names here.other.next here.other.put)

  pub first-put : Put node_table block_table (let first : Next = record { node = 0; block = 0; via = 0 } in first) (resolved model)
  first-put = record { nodes_at = stands-whole node_table; blocks_at = stands-whole block_table }

  pub first-place : Place model right (known_of model.decls) model.decls
  first-place = record { done = []; split = refl; is = refl }

  pub bodies-stand : list_all is_proper_decl model.decls ≡ true → (number : ℕ) → number < length (infos_of model) → HasOwn model number
  bodies-stand proper number low =
      let stand : CodesStand model (owns_of model.decls) (resolved model).own.codes =
      codes-stand model.decls (known_of model.decls) first-place (ruled model right).file.judged proper [] (record { node = 0; block = 0; via = 0 }) first-put in
      let infos = infos-are model model.decls [] in
      let all : infos_of model ≡ infos.0 = infos.1 in
      let here : Found model (owns_of model.decls) (resolved model).own.codes infos.0 number =
      find model (owns_of model.decls) (resolved model).own.codes infos.0 number stand infos.2 (subst (λ (l : List Info). number < length l) all low) in
      record {
        own = here.own;
        is = record {
          found = here.found;
          code = here.code;
          coded = here.coded;
          body = here.body;
          info = here.info;
          told = ap (λ (l : List Info). slice_get l number) all ∙ here.told;
          is = here.is;
        };
      }
