-- The bodies of all models of a file stand at their numbers.
use Rattle.std.proofs.Common.{◌≡◌, ℕ, ◌≤◌, max, true, false, List, [], ◌∷◌, ◌++◌, Result, Ok, sym, ap, ◌∙◌, arith, append_assoc, ltb-false}
use Rattle.dsde_language.specs.given.syntax.decl_Body.{Body}
use Rattle.dsde_language.specs.given.syntax.decl_Decl.{Decl}
use Rattle.dsde_language.specs.given.syntax.decl_Model.{Model}
use Rattle.dsde_language.specs.given.syntax.decl_PortDecl.{PortDecl}
use Rattle.dsde_language.specs.given.syntax.decl_Typed.{Typed}
use Rattle.dsde_language.specs.given.syntax.id_Id.{Id}
use Rattle.dsde_language.specs.given.syntax.item_Item.{Item}
use Rattle.dsde_language.specs.given.syntax.type_name_TypeName.{TypeName}
use Rattle.dsde_language.specs.declared.known.Around.{Around}
use Rattle.dsde_language.specs.declared.known.Known.{Known}
use Rattle.dsde_language.specs.declared.seen.TypeSeen.{TypeSeen}
use Rattle.dsde_language.specs.declared.signatures.Port.{Port}
use Rattle.dsde_language.specs.declared.wrong.Wrong.{Wrong}
use Rattle.dsde_language.specs.Steps.{◌>>=◌, Test, within}
use Rattle.dsde_language.specs.RuleTables.{by_text, known_of}
use Rattle.dsde_language.specs.Judge.{Scope, type_of}
use Rattle.dsde_language.specs.Blocks.{Passed, body_names, params_all, ports_all, body_of}
use Rattle.dsde_language.specs.RuleStructures.{structure_of}
use Rattle.dsde_language.specs.Rules.{around_with, atomic_rule, network_rule, inside_rule, decl_rule}
use Rattle.dsde_language.specs.declared.node.Node.{Node}
use Rattle.dsde_language.specs.DeclaredModels.{whole_of, Own}
use Rattle.dsde_language.specs.NodeModels.{resolved}
use Rattle.dsde_language.specs.Pieces.{Block}
use Rattle.dsde_language.specs.Right.{IsRight}
use Rattle.dsde_language.specs.Proper.{are_plain, is_proper_body}
use Rattle.dsde_sound_expressions.specs.Places.{KnownAt, known_behind}
use Rattle.dsde_sound_expressions.specs.lemmas.Steps.{ok-is, unless-is, Went, went}
use Rattle.dsde_sound_expressions.specs.lemmas.Written.{written}
use Rattle.dsde_sound_expressions.proofs.Within.{known-is-within}
use Rattle.dsde_sound_expressions.proofs.OneBody.{OwnJudged, StructureJudged}

-- what is known behind more declarations
pub known-more : (done rest : List Decl) (base known : Known) → known_behind base done ≡ Ok known → known_behind base (done ++ rest) ≡ known_behind known rest
known-more [] rest base known is = ap (λ (k : Known). known_behind k rest) (ok-is base known is)
known-more (own ∷ done) rest base known is =
    let one = went (decl_rule base own) (λ more. known_behind more done) known is in
    ap (λ (r : Result Known Wrong). r >>= (λ more. known_behind more (done ++ rest))) one.first ∙ known-more done rest one.value known one.next

pub within-low : (at height : ℕ) (done : Unit {0}) → within at height ≡ Ok done → height ≤ 512
within-low at height done is = ltb-false 512 height (unless-is _ _ _ done is)

module _ (model : Model) (right : IsRight model) where
  abbrev whole : Known
  whole = whole_of model

  abbrev nodes_of : List Node
  nodes_of = (resolved model).nodes

  abbrev blocks_of : List Block
  blocks_of = (resolved model).blocks

  -- a place of the file, with what is known there
  pub record Place (known : Known) (rest : List Decl) : Type 0 where
    pub done : List Decl
    pub split : model.decls ≡ done ++ rest
    pub is : known_behind (known_of model.decls) done ≡ Ok known

  pub known-at : (known : Known) (rest : List Decl) → Place known rest → KnownAt model known
  known-at known rest place = record { before = place.done; rest = rest; split = place.split; is = place.is }

  pub next-place : (known more : Known) (own : Decl) (rest : List Decl) → Place known (own ∷ rest) → decl_rule known own ≡ Ok more → Place more rest
  next-place known more own rest place is = record {
    done = place.done ++ own ∷ [];
    split = place.split ∙ sym (append_assoc place.done (own ∷ []) rest);
    is =
        known-more place.done (own ∷ []) (known_of model.decls) known place.is
        ∙ ap (λ (r : Result Known Wrong). r >>= (λ more. known_behind more [])) is;
  }

  pub typed-at : (known : Known) → KnownAt model known → (own : TypeName) (seen : TypeSeen) → type_of known own ≡ Ok seen → by_text whole.words own ≡ seen.ty
  typed-at known at = written known whole (known-is-within model known right at).words

  module _ (known : Known) (at_place : KnownAt model known) (name : Id) (params : List Typed) (body : Body) where
    abbrev around : Around
    around = around_with known (body_names params body)

    abbrev with_passed : Passed → Test
    with_passed passed = within name.at passed.height

    abbrev with_ports : ℕ → Scope → List Port → Test
    with_ports at scope ports = body_of around at ports body scope >>= with_passed

    abbrev with_params : ℕ → Scope → Test
    with_params at scope = ports_all known scope [] body.ports >>= with_ports at scope

    pub atomic-judged : (at : ℕ) (done : Unit {0}) → atomic_rule around at name params body ≡ Ok done → are_plain params ≡ true → is_proper_body body ≡ true
        → OwnJudged model known (record { name = name; at = at; network = false; params = params; ports = body.ports; start_at = at; body = body })
    atomic-judged at done is plain proper =
        let one : Went (params_all known [] params) (with_params at) done = went (params_all known [] params) (with_params at) done is in
        let two : Went (ports_all known one.value [] body.ports) (with_ports at one.value) done = went (ports_all known one.value [] body.ports) (with_ports at one.value) done one.next in
        let three : Went (body_of around at two.value body one.value) with_passed done = went (body_of around at two.value body one.value) with_passed done two.next in
        record {
          at = at_place;
          typed = typed-at known at_place;
          reserved = body_names params body;
          params = one.value;
          params_is = one.first;
          ports = two.value;
          ports_is = two.first;
          passed = three.value;
          place = at;
          body_is = three.first;
          low = within-low name.at three.value.height done three.next;
          plain = plain;
          proper = proper;
        }

    module _ (at : ℕ) (ports : List PortDecl) (exec_at : ℕ) (items : List Item) where
      abbrev with_structure : Passed → ℕ → Test
      with_structure passed height = within name.at (max passed.height height)

      abbrev with_exec : List Port → List Port → Passed → Test
      with_exec own execs passed = structure_of around own execs items passed.scope >>= with_structure passed

      abbrev with_execs : List Port → Scope → List Port → Test
      with_execs own scope execs = body_of around exec_at execs body scope >>= with_exec own execs

      abbrev with_own : Scope → List Port → Test
      with_own scope own = inside_rule around name own exec_at body items scope

      abbrev with_scope : Scope → Test
      with_scope scope = ports_all known scope [] ports >>= with_own scope

      abbrev own : Own
      own = record { name = name; at = at; network = true; params = params; ports = ports; start_at = exec_at; body = body }

      pub structure-judged : (done : Unit {0}) → network_rule around name params ports exec_at body items ≡ Ok done → are_plain params ≡ true → is_proper_body body ≡ true
          → StructureJudged model known own items
      structure-judged done is plain proper =
          let one : Went (params_all known [] params) with_scope done = went (params_all known [] params) with_scope done is in
          let two : Went (ports_all known one.value [] ports) (with_own one.value) done = went (ports_all known one.value [] ports) (with_own one.value) done one.next in
          let three : Went (ports_all known one.value [] body.ports) (with_execs two.value one.value) done = went (ports_all known one.value [] body.ports) (with_execs two.value one.value) done two.next in
          let four : Went (body_of around exec_at three.value body one.value) (with_exec two.value three.value) done = went (body_of around exec_at three.value body one.value) (with_exec two.value three.value) done three.next in
          let five : Went (structure_of around two.value three.value items four.value.scope) (with_structure four.value) done = went (structure_of around two.value three.value items four.value.scope) (with_structure four.value) done four.next in
          let low = within-low name.at (max four.value.height five.value) done five.next in
          let judged : OwnJudged model known own = record {
            at = at_place;
            typed = typed-at known at_place;
            reserved = body_names params body;
            params = one.value;
            params_is = one.first;
            ports = three.value;
            ports_is = three.first;
            passed = four.value;
            place = exec_at;
            body_is = four.first;
            low = omega (arith, low);
            plain = plain;
            proper = proper;
          } in
          record {
            body = judged;
            ports = two.value;
            ports_is = two.first;
            height = five.value;
            structure_is = five.first;
            height_low = omega (arith, low);
          }

      pub network-judged : (done : Unit {0}) → network_rule around name params ports exec_at body items ≡ Ok done → are_plain params ≡ true → is_proper_body body ≡ true
          → OwnJudged model known own
      network-judged done is plain proper = (structure-judged done is plain proper).body
