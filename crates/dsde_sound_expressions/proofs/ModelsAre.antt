-- The models of a file are known everywhere, and are what their declarations say.
use Rattle.std.proofs.Common.{◌≡◌, ℕ, zero, suc, ◌<◌, Bool, true, false, List, [], ◌∷◌, ◌++◌, map, length, Some, Ok, option_map, slice_get, refl, sym, ap, subst, ◌∙◌, append_assoc, append-nil}
use Rattle.std.proofs.lemmas.Bool.{and_parts}
use Rattle.std.proofs.lemmas.Option.{slice_get-map, slice_get_within}
use Rattle.std.specs.List.{list_all}
use Rattle.dsde_language.specs.given.syntax.decl_Decl.{Decl}
use Rattle.dsde_language.specs.given.syntax.decl_Decl_TheVariants as decl
use Rattle.dsde_language.specs.given.syntax.decl_Model.{Model}
use Rattle.dsde_language.specs.given.syntax.decl_PortDecl.{PortDecl}
use Rattle.dsde_language.specs.given.syntax.decl_Typed.{Typed}
use Rattle.dsde_language.specs.given.values.types_Field.{Field}
use Rattle.dsde_language.specs.given.values.types_Ty.{Ty}
use Rattle.dsde_language.specs.declared.known.Known.{Known}
use Rattle.dsde_language.specs.declared.signatures.ModelSig.{ModelSig}
use Rattle.dsde_language.specs.declared.signatures.Port.{Port}
use Rattle.dsde_language.specs.declared.signatures.TypeWord.{TypeWord}
use Rattle.dsde_language.specs.RuleTables.{by_text, known_of, model_name, port_name, text_params, text_ports, type_words}
use Rattle.dsde_language.specs.Judge.{Scope}
use Rattle.dsde_language.specs.Blocks.{body_names}
use Rattle.dsde_language.specs.Rules.{around_with, atomic_rule, network_rule, decl_rule, decls_rule}
use Rattle.dsde_language.specs.declared.info.Info.{Info}
use Rattle.dsde_language.specs.DeclaredStructures.{directed}
use Rattle.dsde_language.specs.DeclaredModels.{whole_of, typed_fields, port_fields, Own, owns_of}
use Rattle.dsde_language.specs.NodeModels.{infos_of}
use Rattle.dsde_language.specs.Names.{with_slots}
use Rattle.dsde_language.specs.Right.{IsRight}
use Rattle.dsde_language.specs.Proper.{is_proper_decl, are_plain, is_proper_body}
use Rattle.dsde_sound_expressions.specs.Structures.{ModelIs, PortsApart, ModelsAre}
use Rattle.dsde_sound_expressions.specs.lemmas.Places.{added-new}
use Rattle.dsde_sound_expressions.specs.lemmas.Steps.{went}
use Rattle.dsde_sound_expressions.proofs.Steps.{among-none}
use Rattle.dsde_sound_expressions.proofs.Funcs.{words-stay, models-stay}
use Rattle.dsde_sound_expressions.proofs.Within.{known-models, ruled}
use Rattle.dsde_sound_expressions.proofs.Slots.{NewFields, slots-are}
use Rattle.dsde_sound_expressions.proofs.PlaceParams.{NewPorts, ports_in, ports-are, directed-is, directed-new, covered-none}
use Rattle.dsde_sound_expressions.proofs.OneBody.{OwnJudged, StructureJudged}
use Rattle.dsde_sound_expressions.proofs.Owns.{Place, known-at, next-place, atomic-judged, structure-judged}
use Rattle.dsde_sound_expressions.proofs.Bodies.{InfosAre, infos-are, first-place}
use Rattle.dsde_sound_expressions.proofs.Models.{model_sig, models-are}
use Rattle.dsde_sound_expressions.proofs.Tops.{TextOf, text-of}

-- ports whose names differ, by their text
text-ports-are : (words : List TypeWord) (ports : List PortDecl) (scope : Scope) (found : List Port) → NewPorts scope found (ports_in words ports) → text_ports words found ports ≡ found ++ ports_in words ports
text-ports-are words [] scope found new = sym (append-nil found)
text-ports-are words (own ∷ ports) scope found new =
    let port : Port = record { out = own.out; name = own.name.name; ty = by_text words own.ty } in
    ap (λ (l : List Port). text_ports words l ports) (added-new port_name found port new.1)
    ∙ text-ports-are words ports scope (found ++ port ∷ []) new.2
    ∙ append_assoc found (port ∷ []) (ports_in words ports)

-- the types of parameters, by their slots
types-of-params : (known : Known) (params : List Typed) → text_params known.words params ≡ map (λ (field : Field). field.ty) (typed_fields known params)
types-of-params known [] = refl
types-of-params known (own ∷ params) = ap (λ (l : List Ty). by_text known.words own.ty ∷ l) (types-of-params known params)

-- as many models as there are declarations of such
infos-long : (model : Model) (owns : List Own) (infos : List Info) → InfosAre model owns infos → length owns ≡ length infos
infos-long model [] [] are = refl
infos-long model [] (info ∷ infos) are = absurd are
infos-long model (own ∷ owns) [] are = absurd are
infos-long model (own ∷ owns) (info ∷ infos) are = ap suc (infos-long model owns infos are.1)

module _ (model : Model) (right : IsRight model) where
  abbrev whole : Known
  whole = whole_of model

  -- The ports of a model have distinct names, and so have those of its body.
  record OwnPorts (own : Own) : Type 0 where
    scope : Scope
    ports : NewPorts scope [] (ports_in whole.words own.ports)
    body : NewPorts scope [] (ports_in whole.words own.body.ports)

  abbrev AllPorts : List Own → Type 0
  AllPorts [] = Unit {0}
  AllPorts (own ∷ owns) = OwnPorts own × AllPorts owns

  -- those of the model with a number
  own-ports : (owns : List Own) (number : ℕ) (own : Own) → AllPorts owns → slice_get owns number ≡ Some own → OwnPorts own
  own-ports [] number own all found = cc
  own-ports (first ∷ owns) zero own all found = let same : first ≡ own = cc in subst OwnPorts same all.0
  own-ports (first ∷ owns) (suc number) own all found = own-ports owns number own all.1 found

  abbrev Judged : List Decl → Type 0
  Judged rest = (known : Known) → Place model right known rest → decls_rule known rest ≡ Ok tt → list_all is_proper_decl rest ≡ true → AllPorts (owns_of rest)

  -- the declarations behind one
  behind : (own : Decl) (rest : List Decl) → Judged rest → (known : Known) → Place model right known (own ∷ rest) → decls_rule known (own ∷ rest) ≡ Ok tt → list_all is_proper_decl (own ∷ rest) ≡ true → AllPorts (owns_of rest)
  behind own rest all known place is proper =
      let one = went (decl_rule known own) (λ more. decls_rule more rest) tt is in
      all one.value (next-place model right known one.value own rest place one.first) one.next (and_parts (is_proper_decl own) (list_all is_proper_decl rest) proper).1

  all-ports : (rest : List Decl) → Judged rest
  all-ports [] known place is proper = tt
  all-ports (decl.Enum name variants ∷ rest) known place is proper = behind (decl.Enum name variants) rest (all-ports rest) known place is proper
  all-ports (decl.Rec name fields ∷ rest) known place is proper = behind (decl.Rec name fields) rest (all-ports rest) known place is proper
  all-ports (decl.Func name params result stmts value ∷ rest) known place is proper = behind (decl.Func name params result stmts value) rest (all-ports rest) known place is proper
  all-ports (decl.Atomic at name params body ∷ rest) known place is proper =
      let own : Decl = decl.Atomic at name params body in
      let text : Own = record { name = name; at = at; network = false; params = params; ports = body.ports; start_at = at; body = body } in
      let both = and_parts (is_proper_decl own) (list_all is_proper_decl rest) proper in
      let parts = and_parts (are_plain params) (is_proper_body body) both.0 in
      let one = went (decl_rule known own) (λ more. decls_rule more rest) tt is in
      let test = went (atomic_rule (around_with known (body_names params body)) at name params body) (λ _. Ok known) one.value one.first in
      let judged : OwnJudged model known text = atomic-judged model right known (known-at model right known (own ∷ rest) place) name params body at test.value test.first parts.0 parts.1 in
      let new = (ports-are known whole judged.typed body.ports judged.params [] judged.ports judged.ports_is).new in
      (record { scope = judged.params; ports = new; body = new }, behind own rest (all-ports rest) known place is proper)
  all-ports (decl.Network at name params ports exec_at body items ∷ rest) known place is proper =
      let own : Decl = decl.Network at name params ports exec_at body items in
      let text : Own = record { name = name; at = at; network = true; params = params; ports = ports; start_at = exec_at; body = body } in
      let both = and_parts (is_proper_decl own) (list_all is_proper_decl rest) proper in
      let parts = and_parts (are_plain params) (is_proper_body body) both.0 in
      let one = went (decl_rule known own) (λ more. decls_rule more rest) tt is in
      let test = went (network_rule (around_with known (body_names params body)) name params ports exec_at body items) (λ _. Ok known) one.value one.first in
      let judged : StructureJudged model known text items = structure-judged model right known (known-at model right known (own ∷ rest) place) name params body at ports exec_at items test.value test.first parts.0 parts.1 in (
        record {
          scope = judged.body.params;
          ports = (ports-are known whole judged.body.typed ports judged.body.params [] judged.ports judged.ports_is).new;
          body = (ports-are known whole judged.body.typed body.ports judged.body.params [] judged.body.ports judged.body.ports_is).new;
        },
        behind own rest (all-ports rest) known place is proper,
      )
  all-ports (decl.Top at name args ∷ rest) known place is proper = behind (decl.Top at name args) rest (all-ports rest) known place is proper

  -- fields of one direction, whose names differ
  fields-apart : (ports : List PortDecl) (scope : Scope) → NewPorts scope [] (ports_in whole.words ports) → (out : Bool) → with_slots [] (port_fields whole out ports) ≡ port_fields whole out ports
  fields-apart ports scope new out =
      slots-are (port_fields whole out ports) []
      (subst (λ (l : List Field). NewFields [] l) (directed-is whole out ports) (directed-new out (ports_in whole.words ports) [] scope [] (covered-none scope) new))

  ports-apart : (own : Own) → OwnPorts own → PortsApart model own
  ports-apart own new = record { ports = fields-apart own.ports new.scope new.ports; body = fields-apart own.body.ports new.scope new.body }

  -- what is known of the whole file, by its text
  words-are : whole.words ≡ type_words model.decls
  words-are = words-stay (known_of model.decls) model.decls

  texts-are : whole.models ≡ map (model_sig (type_words model.decls)) (owns_of model.decls)
  texts-are = models-stay (known_of model.decls) model.decls ∙ models-are (type_words model.decls) model.decls [] [] (among-none model_name []) (ruled model right).file.apart

  -- each has what it declares at its number
  low : (number : ℕ) (own : Own) → slice_get (owns_of model.decls) number ≡ Some own → number < length (infos_of model)
  low number own found =
      let infos = infos-are model model.decls [] in
      let all : infos_of model ≡ infos.0 = infos.1 in
      subst (λ (n : ℕ). number < n) (infos-long model (owns_of model.decls) infos.0 infos.2 ∙ ap length (sym all)) (slice_get_within (owns_of model.decls) number own found)

  model-is : AllPorts (owns_of model.decls) → (number : ℕ) (sig : ModelSig) → slice_get whole.models number ≡ Some sig → ModelIs model number sig
  model-is all number sig found =
      let words : List TypeWord = type_words model.decls in
      let told : option_map (model_sig words) (slice_get (owns_of model.decls) number) ≡ Some sig =
      sym (slice_get-map (model_sig words) (owns_of model.decls) number) ∙ ap (λ (l : List ModelSig). slice_get l number) (sym texts-are) ∙ found in
      let text : TextOf model right (owns_of model.decls) number sig = text-of model right (owns_of model.decls) number sig (slice_get (owns_of model.decls) number) refl told in
      let own : Own = text.own in
      let new : OwnPorts own = own-ports (owns_of model.decls) number own all text.at in
      let ports : sig.ports ≡ ports_in whole.words own.ports =
      ap (λ (s : ModelSig). s.ports) (sym text.is) ∙ ap (λ (l : List TypeWord). text_ports l [] own.ports) (sym words-are) ∙ text-ports-are whole.words own.ports new.scope [] new.ports in
      record {
        below = low number own text.at;
        own = own;
        found = text.at;
        params = ap (λ (s : ModelSig). s.params) (sym text.is) ∙ ap (λ (l : List TypeWord). text_params l own.params) (sym words-are) ∙ types-of-params whole own.params;
        ports = λ out.
            ap (λ (l : List Port). with_slots [] (directed out l)) ports
            ∙ ap (with_slots []) (directed-is whole out own.ports)
            ∙ fields-apart own.ports new.scope new.ports out;
      }

  pub models-are-known : list_all is_proper_decl model.decls ≡ true → ModelsAre model
  models-are-known proper =
      let all : AllPorts (owns_of model.decls) = all-ports model.decls (known_of model.decls) (first-place model right) (ruled model right).file.judged proper in
      record {
        known = λ known at. known-models model known right at ∙ sym (models-stay (known_of model.decls) model.decls);
        models = model-is all;
        apart = λ number own found. ports-apart own (own-ports (owns_of model.decls) number own all found);
      }
