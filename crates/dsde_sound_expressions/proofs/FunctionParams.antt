-- Parameters: their slots, and values that are bound to them.
use Rattle.std.proofs.Common.{◌≡◌, ℕ, suc, false, List, [], ◌∷◌, ◌++◌, map, length, Ok, refl, sym, ◌∙◌, ap, append_assoc, append-nil}
use Rattle.std.proofs.lemmas.List.{map-append}
use Rattle.dsde_language.specs.given.names.Table.{is_among}
use Rattle.dsde_language.specs.given.syntax.decl_Typed as syntax
use Rattle.dsde_language.specs.given.values.types_Field.{Field}
use Rattle.dsde_language.specs.given.values.types_Ty.{Ty}
use Rattle.dsde_language.specs.given.values.types_Types.{Types}
use Rattle.dsde_language.specs.given.values.value_Value.{Value}
use Rattle.dsde_language.specs.declared.known.Known.{Known}
use Rattle.dsde_language.specs.declared.seen.Binding.{Binding}
use Rattle.dsde_language.specs.declared.wrong.WrongKind.TheVariants.{Duplicate}
use Rattle.dsde_language.specs.RuleTables.{binding_name, field_name, by_text}
use Rattle.dsde_language.specs.Judge.{fixed, unbound, type_of}
use Rattle.dsde_language.specs.Judge as rules
use Rattle.dsde_language.specs.Blocks.{params_all}
use Rattle.dsde_language.specs.Names.{with_slots}
use Rattle.dsde_language.specs.DeclaredModels.{typed_fields}
use Rattle.dsde_language.specs.Functions.{bound_params}
use Rattle.dsde_language.specs.Scopes.{Within}
use Rattle.dsde_language.specs.Typed.{AllTyped, Fits, values_in}
use Rattle.dsde_sound_expressions.specs.lemmas.Fitting.{field_of}
use Rattle.dsde_sound_expressions.specs.lemmas.Seeing.{own_slot, slots_of, among-slots, slot-behind}
use Rattle.dsde_sound_expressions.specs.lemmas.Steps.{went, ok-is, unless-is}
use Rattle.dsde_sound_expressions.specs.lemmas.Written.{written}

abbrev pub ty_of : Binding → Ty
ty_of bound = bound.ty

abbrev pub param_name : syntax.Typed → List ℕ
param_name param = param.name.name

module _ (types : Types) (known whole : Known) (within : Within types known whole) where
  -- Parameters get slots as they are bound.
  pub params-slots : (params : List syntax.Typed) (before scope : rules.Scope) → params_all known before params ≡ Ok scope → with_slots (slots_of before) (typed_fields whole params) ≡ slots_of scope
  params-slots [] before scope h = ap slots_of (ok-is before scope h)
  params-slots (param ∷ params) before scope h =
      let w1 = went (unbound before param.name) _ scope h in
      let w2 = went (type_of known param.ty) _ scope w1.next in
      let new : is_among field_name (slots_of before) param.name.name ≡ false =
      among-slots before param.name.name ∙ unless-is (is_among binding_name before param.name.name) Duplicate param.name.at w1.value w1.first in
      let own : Binding = fixed param.name w2.value.ty in
      let rest : List Field = typed_fields whole params in
      ap (λ (slots : List Field). with_slots slots rest) (slot-behind (slots_of before) param.name.name (by_text whole.words param.ty) new)
      ∙ ap (λ (t : Ty). with_slots (slots_of before ++ field_of param.name.name t ∷ []) rest) (written known whole within.words param.ty w2.value w2.first)
      ∙ ap (λ (slots : List Field). with_slots slots rest) (sym (map-append own_slot before (own ∷ [])))
      ∙ params-slots params (before ++ own ∷ []) scope w2.next

params-names : (known : Known) (params : List syntax.Typed) (before scope : rules.Scope) → params_all known before params ≡ Ok scope → map binding_name before ++ map param_name params ≡ map binding_name scope
params-names known [] before scope h = append-nil (map binding_name before) ∙ ap (map binding_name) (ok-is before scope h)
params-names known (param ∷ params) before scope h =
    let w1 = went (unbound before param.name) _ scope h in
    let w2 = went (type_of known param.ty) _ scope w1.next in
    let own : Binding = fixed param.name w2.value.ty in
    sym (append_assoc (map binding_name before) (param_name param ∷ []) (map param_name params))
    ∙ ap (λ (names : List (List ℕ)). names ++ map param_name params) (sym (map-append binding_name before (own ∷ [])))
    ∙ params-names known params (before ++ own ∷ []) scope w2.next

-- Values that are bound to parameters: they fit, and are as many.
pub record Given (types : Types) (params : List syntax.Typed) (slots : List Field) (values : List Value) : Type 0 where
  pub fits : Fits types (bound_params params values) slots
  pub long : length values ≡ length params
  pub own : values_in (bound_params params values) ≡ values

given-of : (types : Types) (params : List syntax.Typed) (scope : rules.Scope) (values : List Value) → map param_name params ≡ map binding_name scope → AllTyped types (map ty_of scope) values
    → Given types params (slots_of scope) values
given-of types [] [] [] names all = record { fits = tt; long = refl; own = refl }
given-of types [] [] (value ∷ values) names all = absurd all
given-of types [] (bound ∷ scope) values names all = cc
given-of types (param ∷ params) [] values names all = cc
given-of types (param ∷ params) (bound ∷ scope) [] names all = absurd all
given-of types (param ∷ params) (bound ∷ scope) (value ∷ values) names all =
    let first : param_name param ≡ binding_name bound = cc names in
    let rest : map param_name params ≡ map binding_name scope = cc names in
    let more = given-of types params scope values rest all.1 in
    record {
      fits = (first, all.0, more.fits);
      long = ap suc more.long;
      own = ap (λ (l : List Value). value ∷ l) more.own;
    }

-- values of the types of parameters
pub params-given : (types : Types) (known : Known) (params : List syntax.Typed) (scope : rules.Scope) (values : List Value) → params_all known [] params ≡ Ok scope → AllTyped types (map ty_of scope) values
    → Given types params (slots_of scope) values
params-given types known params scope values h all = given-of types params scope values (params-names known params [] scope h) all
