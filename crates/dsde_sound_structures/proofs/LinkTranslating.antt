-- What a translation makes of a value.
use Rattle.std.proofs.Common.{◌≡◌, Bool, true, List, ◌∷◌, Option, Some, None, Ok, Err, refl, sym, ◌∙◌, ap, subst}
use Rattle.dsde_sim_tree.specs.given.syntax.decl_Model.{Model}
use Rattle.dsde_sim_tree.specs.given.syntax.item_ViaKey.{ViaKey}
use Rattle.dsde_sim_tree.specs.given.syntax.item_ViaPart.{ViaPart}
use Rattle.dsde_values.specs.declared.types.Field.{Field}
use Rattle.dsde_values.specs.declared.types.Ty.{Ty}
use Rattle.dsde_values.specs.declared.types.Ty.TheOpen as open_ty
use Rattle.dsde_values.specs.declared.types.Ty.TheVariants as ty
use Rattle.dsde_values.specs.declared.types.Ty.TheViews.{outs-Opt as ty_Opt}
use Rattle.dsde_values.specs.declared.types.Types.{Types}
use Rattle.dsde_values.specs.declared.value.Value.{Value, Value-F, out-Value, map-Value}
use Rattle.dsde_values.specs.declared.value.Value.TheOpen as layer
use Rattle.dsde_values.specs.declared.value.Value.TheViews.{outs-Nothing, outs-Some}
use Rattle.dsde_values.specs.Value.{type_step, has_type}
use Rattle.dsde_sim_tree.specs.given.language.Judge.{judge}
use Rattle.dsde_sim_tree.specs.given.language.Expressions.{resolve}
use Rattle.dsde_sim_tree.specs.given.language.DeclaredModels.{whole_of, types_of}
use Rattle.dsde_sim_tree.specs.given.structure.plan_Via.{Via}
use Rattle.dsde_sim_tree.specs.given.language.Right.{IsRight}
use Rattle.dsde_sim_tree.specs.given.language.Outcome.{Outcome, Stuck}
use Rattle.dsde_sim_tree.specs.given.language.Meaning.{Vars}
use Rattle.dsde_sim_tree.specs.given.language.Functions.{functions_of, mean_of}
use Rattle.dsde_sim_tree.specs.given.language.Typed.{Typed, Sound, Fits, values_in}
use Rattle.dsde_sim_tree.specs.given.language.Agreement.{Agrees, ExpressionsAgree}
use Rattle.dsde_sound_names.specs.given.sound_expressions.Places.{IsExpr}
use Rattle.dsde_sound_names.specs.given.sound_expressions.Laws.{KnownIsWithin}
use Rattle.dsde_sound_names.specs.given.sound_expressions.Coded.{coded_of, FuncsAgree, FunctionsAgree}
use Rattle.dsde_sound_names.specs.given.sound_expressions.Conditions.{CanTranslate, Translated, via_values, option_value}
use Rattle.dsde_sound_names.specs.given.sound_expressions.lemmas_Values.{by_layer}
use Rattle.dsde_system.specs.Plans.{IsKey, Takes, via_slots}
use Rattle.dsde_system.specs.Program.{system, translated, held_in, key_vars, via_vars}

fits-key : (types : Types) (text : ViaPart) (from key_ty : Ty) (own : Value) (text_key : Option ViaKey) (key : Option Value) → IsKey types text_key key key_ty → Typed types from own
    → Fits types (record { name = text.value.name; value = own } ∷ key_vars text_key key) (via_slots text from text_key key_ty)
fits-key types text from key_ty own None None is typed = (refl, typed, tt)
fits-key types text from key_ty own (Some key) (Some value) is typed = (refl, typed, (refl, is, tt))
fits-key types text from key_ty own None (Some value) is typed = absurd is
fits-key types text from key_ty own (Some key) None is typed = absurd is

are-key : (types : Types) (text : ViaPart) (key_ty : Ty) (own : Value) (text_key : Option ViaKey) (key : Option Value) → IsKey types text_key key key_ty
    → (let vars : Vars = record { name = text.value.name; value = own } ∷ key_vars text_key key in values_in vars ≡ via_values key own)
are-key types text key_ty own None None is = refl
are-key types text key_ty own (Some key) (Some value) is = refl
are-key types text key_ty own None (Some value) is = absurd is
are-key types text key_ty own (Some key) None is = absurd is

module _ (types : Types) where
  -- what an option holds has the option's inner type
  held-layer : (t : Ty) (w : Value-F Value) (inner : Value) → type_step types (map-Value Value (Ty → Bool) (has_type types) w) (open_ty.Opt t) ≡ true
      → (let seen : Outcome (Option Value) = elim w [ layer.Nothing ↦ Ok None | layer.Some inner ↦ Ok (Some inner) | _ ↦ Err Stuck ] in
      let held : Option Value = elim seen [ Ok held ↦ held | Err _ ↦ None ] in held) ≡ Some inner
      → has_type types inner t ≡ true
  held-layer t (layer.Int number) inner has is = absurd (let e : (let r : Option Value = None in r) ≡ Some inner = is in cc)
  held-layer t (layer.Bool truth) inner has is = absurd (let e : (let r : Option Value = None in r) ≡ Some inner = is in cc)
  held-layer t (layer.Enum number variant) inner has is = absurd (let e : (let r : Option Value = None in r) ≡ Some inner = is in cc)
  held-layer t (layer.Rec number parts) inner has is = absurd (let e : (let r : Option Value = None in r) ≡ Some inner = is in cc)
  held-layer t (layer.List items) inner has is = absurd (let e : (let r : Option Value = None in r) ≡ Some inner = is in cc)
  held-layer t layer.Nothing inner has is = absurd (let e : (let r : Option Value = None in r) ≡ Some inner = is in cc)
  held-layer t (layer.Some part) inner has is =
      let same : part ≡ inner = (let e : (let r : Option Value = Some part in r) ≡ Some inner = is in cc) in
      subst (λ (v : Value). has_type types v t ≡ true) same has

  held-typed : (t : Ty) (x : Outcome Value) (inner : Value) → Sound true (Typed types (ty.Opt t)) x → held_in x ≡ Some inner → Typed types t inner
  held-typed t (Ok w) inner sound is = record { has = held-layer t (out-Value w) inner (sym (by_layer types w (ty.Opt t) (out-Value w) (open_ty.Opt t) refl (ty_Opt t)) ∙ sound.has) is }
  held-typed t (Err halt) inner sound is = absurd (let e : (let r : Option Value = None in r) ≡ Some inner = is in cc)

abbrev opened : Value-F Value → Option Value
opened w =
    let seen : Outcome (Option Value) = elim w [ layer.Nothing ↦ Ok None | layer.Some inner ↦ Ok (Some inner) | _ ↦ Err Stuck ] in
    elim seen [ Ok held ↦ held | Err _ ↦ None ]

-- an option is held as it is
held-is : (held : Option Value) → held_in (let r : Outcome Value = Ok (option_value held) in r) ≡ held
held-is None = ap opened outs-Nothing
held-is (Some inner) = ap opened (outs-Some inner)

module _ (model : Model) (via : Via) (from to : Ty) (own : Value) (takes : Takes model via from to) (typed : Typed (types_of model) from own) where
  abbrev vars : Vars
  vars = via_vars takes.text via.key own

  abbrev slots : List Field
  slots = via_slots takes.text from takes.text.key takes.key_ty

  fits : Fits (types_of model) vars slots
  fits = fits-key (types_of model) takes.text from takes.key_ty own takes.text.key via.key takes.key typed

  are : values_in vars ≡ via_values via.key own
  are = are-key (types_of model) takes.text takes.key_ty own takes.text.key via.key takes.key

  pub may-translate : CanTranslate model via.id.0 via.key own
  may-translate = record {
    slots = slots;
    body = takes.text.body;
    ty = to;
    vars = vars;
    is = takes.is;
    fits = fits;
    are = are;
  }

  -- what the definition makes of it
  reads : translated model via own ≡ held_in (mean_of model takes.text.body vars)
  reads = ap (λ (found : Option ViaPart). (let held : Option Value = elim found [ None ↦ None | Some part ↦ held_in (mean_of model part.body (via_vars part via.key own)) ] in held)) takes.found

  pub translates : (held : Option Value) → Translated model via.id.0 via.key own held → (system model).translate via own ≡ held
  unfolding system
  translates held came =
      reads
      ∙ ap (λ (x : Outcome Value). held_in x) (came slots takes.text.body to vars takes.is fits are)
      ∙ held-is held

  module _ (right : IsRight model) (agree : ExpressionsAgree) (within : KnownIsWithin) (functions : FunctionsAgree) where
    body : IsExpr model true slots takes.is.code.body.0 takes.text.body (ty.Opt to)
    body = takes.is.is

    agrees : Agrees (types_of model) (coded_of model) body.around.has_elapsed body.around.is_total (judge body.around takes.text.body) (resolve (whole_of model) takes.text.body) (mean_of model takes.text.body)
    agrees =
        let known : FuncsAgree model body.around.known = functions model body.around.known right body.known in
        agree (types_of model) (coded_of model) (whole_of model) (functions_of model) body.around takes.text.body
        (within model body.around.known right body.known) known.serve known.calls body.proper

    sound : Sound true (Typed (types_of model) (ty.Opt to)) (mean_of model takes.text.body vars)
    sound =
        subst (λ (b : Bool). Sound b (Typed (types_of model) (ty.Opt to)) (mean_of model takes.text.body vars)) body.is_total
        (subst (λ (u : Ty). Sound body.around.is_total (Typed (types_of model) u) (mean_of model takes.text.body vars)) body.of
        (agrees.sound body.scope slots body.found vars body.judged body.sees fits))

    -- what is made has the type of the target
    pub made-typed : (inner : Value) → translated model via own ≡ Some inner → Typed (types_of model) to inner
    made-typed inner is = held-typed (types_of model) to (mean_of model takes.text.body vars) inner sound (sym reads ∙ is)
