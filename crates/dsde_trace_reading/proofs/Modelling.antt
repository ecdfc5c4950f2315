-- What is told of models, and which of them a line fits.
use Rattle.std.proofs.Common.{◌≡◌, ◌≢◌, ℕ, zero, suc, ◌<◌, Bool, true, false, List, [], ◌∷◌, ◌++◌, length, refl, sym, subst, ◌∙◌, ap}
use Rattle.std.specs.Prelude.{Option, Some, None, slice_get, ◌↔◌}
use Rattle.std.specs.Str.{bytes_eq}
use Rattle.std.proofs.lemmas.Slice.Eq.{bytes_eq-Decides}
use Rattle.std.specs.List.{list_all}
use Rattle.std.specs.Option.{option_map, option_map_or}
use Rattle.std.proofs.lemmas.Option.{slice_get_within}
use Rattle.dsde_syntax.specs.declared.decl.Model.{Model}
use Rattle.dsde_values.proofs.Names.{both_true}
use Rattle.dsde_values.specs.declared.types.Field.{Field}
use Rattle.dsde_values.specs.declared.value.Value.{Value}
use Rattle.dsde_values.specs.declared.when.When.{When}
use Rattle.dsde_input_records.specs.Lines.{Lacks}
use Rattle.dsde_input_parser.specs.lemmas.Cuts.{same_cut}
use Rattle.dsde_language.specs.Right.{IsRight}
use Rattle.dsde_language.specs.declared.ids.ModelId.{ModelId}
use Rattle.dsde_language.specs.DeclaredModels.{Own, body_ins, own_at, own_outs, owns_of, state_slots, top_number, top_outs, types_of}
use Rattle.dsde_program_layout.specs.Declared.{Declares, InfosAreDeclared, leaf_ins}
use Rattle.dsde_language.specs.NodeModels.{infos_of}
use Rattle.dsde_language.specs.declared.info.Info.{Info}
use Rattle.dsde_sound_structures.specs.Lawful.{ModelsAreNamed, is_named_own}
use Rattle.dsde_trace.specs.Text.{ins_at, model_text, states_at}
use Rattle.dsde_trace_words.specs.Words.{Finds, IsPassed, IsSettled, NoneBefore, Precedes, Spells, passed_text, settled_text}
use Rattle.dsde_trace_words.specs.lemmas.Behind.{finds-as}
use Rattle.dsde_trace_words.specs.lemmas.Lacking.{Lacks-name_word}
use Rattle.dsde_trace_reading.specs.Lines.{network_at}
use Rattle.dsde_trace_reading.specs.Parts.{IsGot, IsNet, IsStarted, IsStateOf, IsTold, got_text, model_at, net_text, state_text}

-- what is told, by what is declared
told_by : (model : Model) (own : Option Own) (info : Info) → Declares model own (Some info) →
    (info.name ≡ option_map_or (λ (own : Own). own.name.name) own []) × (option_map (λ (own : Own). own.network) own ≡ Some info.network)
    × (info.states ≡ option_map_or (state_slots model) own []) × (leaf_ins info ≡ option_map_or (body_ins model) own [])
told_by model None info declares = absurd declares
told_by model (Some own) info declares = (declares.name, ap Some (sym declares.network), declares.states, declares.body_ins)

module _ (laws : InfosAreDeclared) (model : Model) where
  declared : (number : ℕ) (info : Info) → Some info ≡ slice_get (infos_of model) number → Declares model (own_at model (model_at number)) (Some info)
  declared number info found = subst (Declares model (own_at model (model_at number))) (sym found) (laws model number)

  pub told : (number : ℕ) (info : Info) → Some info ≡ slice_get (infos_of model) number → IsTold model (model_at number) info
  told number info found =
      let by = told_by model (own_at model (model_at number)) info (declared number info found) in
      record { name = by.0; network = by.1; states = by.2; ins = by.3 }

  outs_by : (own : Option Own) (info : Info) → Declares model own (Some info) → info.outs ≡ option_map_or (own_outs model) own []
  outs_by None info declares = absurd declares
  outs_by (Some own) info declares = declares.outs

  pub outs-told : (info : Info) → Some info ≡ slice_get (infos_of model) (top_number model).0 → info.outs ≡ top_outs model
  outs-told info found = outs_by (own_at model (top_number model)) info (declared (top_number model).0 info found)

  -- a model has a number below how many there are
  within_by : (number : ℕ) (own : Option Own) (info : Option Info) (network : Bool) → slice_get (infos_of model) number ≡ info → Declares model own info →
      option_map (λ (own : Own). own.network) own ≡ Some network → number < length (infos_of model)
  within_by number None info network found declares none = absurd (cc none)
  within_by number (Some own) None network found declares some = absurd declares
  within_by number (Some own) (Some info) network found declares some = slice_get_within (infos_of model) number info found

  pub within : (number : ℕ) (network : Bool) → network_at model (model_at number) ≡ Some network → number < length (infos_of model)
  within number network is = within_by number (own_at model (model_at number)) (slice_get (infos_of model) number) network refl (laws model number) is

-- The name of a model has no space.
name_by : (owns : List Own) (number : ℕ) → list_all is_named_own owns ≡ true → Lacks 32 (option_map_or (λ (own : Own). own.name.name) (slice_get owns number) [])
name_by [] number all = tt
name_by (own ∷ owns) zero all = Lacks-name_word own.name.name (both_true (is_named_own own) (list_all is_named_own owns) all).0
name_by (own ∷ owns) (suc number) all = name_by owns number (both_true (is_named_own own) (list_all is_named_own owns) all).1

pub named : ModelsAreNamed → (model : Model) → IsRight model → (number : ModelId) → Lacks 32 (model_text model number)
named law model right number = name_by (owns_of model.decls) number.0 (law model right)

module _ (model : Model) (number : ℕ) (info : Info) (is : IsTold model (model_at number) info) (text : List ℕ) (executive : Bool) where
  -- another kind of model
  other_kind : info.network ≢ executive → network_at model (model_at number) ≡ Some executive → ⊥
  other_kind apart network = let same : Some info.network ≡ Some executive = sym is.network ∙ network in apart cc

  pub got-other : info.network ≢ executive → Finds (Precedes NoneBefore) (λ (passed : ℕ × Value). Spells (IsGot model executive) (got_text model) text (number, passed)) None
  got-other apart = record { is = tt; only = λ one spells. other_kind apart spells.0.0 }

  pub state-other : info.network ≢ executive → Finds NoneBefore (λ (settled : List Value × When). Spells (IsStateOf model executive) (state_text model) text (number, settled)) None
  state-other apart = record { is = tt; only = λ one spells. other_kind apart spells.0.0 }

  module _ (same : info.network ≡ executive) where
    network : network_at model (model_at number) ≡ Some executive
    network = is.network ∙ ap Some same

    pub got-here : (ports : List Field) → ports ≡ leaf_ins info → (found : Option (ℕ × Value)) →
        Finds (Precedes NoneBefore) (Spells (IsPassed ports (types_of model)) (passed_text ports (types_of model)) text) found →
        Finds (Precedes NoneBefore) (λ (passed : ℕ × Value). Spells (IsGot model executive) (got_text model) text (number, passed)) found
    got-here ports are found finds =
        finds-as (Precedes NoneBefore) (Spells (IsPassed (ins_at model (model_at number)) (types_of model)) (passed_text (ins_at model (model_at number)) (types_of model)) text)
        (λ (passed : ℕ × Value). Spells (IsGot model executive) (got_text model) text (number, passed))
        (λ one spells. ((network, spells.0), spells.1)) (λ one spells. (spells.0.1, spells.1)) found
        (subst (λ ports. Finds (Precedes NoneBefore) (Spells (IsPassed ports (types_of model)) (passed_text ports (types_of model)) text) found) (are ∙ is.ins) finds)

    pub state-here : (states : List Field) → states ≡ info.states → (found : Option (List Value × When)) →
        Finds NoneBefore (Spells (IsSettled states (types_of model)) (settled_text states (types_of model)) text) found →
        Finds NoneBefore (λ (settled : List Value × When). Spells (IsStateOf model executive) (state_text model) text (number, settled)) found
    state-here states are found finds =
        finds-as NoneBefore (Spells (IsSettled (states_at model (model_at number)) (types_of model)) (settled_text (states_at model (model_at number)) (types_of model)) text)
        (λ (settled : List Value × When). Spells (IsStateOf model executive) (state_text model) text (number, settled))
        (λ one spells. ((network, spells.0), spells.1)) (λ one spells. (spells.0.1, spells.1)) found
        (subst (λ states. Finds NoneBefore (Spells (IsSettled states (types_of model)) (settled_text states (types_of model)) text) found) (are ∙ is.states) finds)

-- a state behind a name
module _ (model : Model) (number : ℕ) (name text : List ℕ) (executive : Bool) where
  abbrev Starts : List Value × When → Type 0
  Starts settled = Spells (IsStarted model executive name) (state_text model) text (number, settled)

  pub started-other : name ≢ model_text model (model_at number) → Finds NoneBefore Starts None
  started-other apart = record { is = tt; only = λ one spells. apart spells.0.1 }

  pub started-here : name ≡ model_text model (model_at number) → (found : Option (List Value × When)) →
      Finds NoneBefore (λ (settled : List Value × When). Spells (IsStateOf model executive) (state_text model) text (number, settled)) found → Finds NoneBefore Starts found
  started-here same found finds =
      finds-as NoneBefore (λ (settled : List Value × When). Spells (IsStateOf model executive) (state_text model) text (number, settled)) Starts
      (λ one spells. ((spells.0, same), spells.1)) (λ one spells. (spells.0.0, spells.1)) found finds

-- what stands behind a path: the name of a model and a state of it
pub started-behind : (model : Model) (executive : Bool) (rest name state : List ℕ) → ((number : ModelId) → Lacks 32 (model_text model number)) → rest ≡ name ++ 32 ∷ state → Lacks 32 name →
    (found : Option (ℕ × (List Value × When))) → Finds (Precedes NoneBefore) (Spells (IsStarted model executive name) (state_text model) state) found →
    Finds (Precedes NoneBefore) (Spells (IsStateOf model executive) (λ (one : ℕ × (List Value × When)). net_text model one.0 ++ 32 ∷ state_text model one) rest) found
started-behind model executive rest name state named cut lacks found finds =
    finds-as (Precedes NoneBefore) (Spells (IsStarted model executive name) (state_text model) state)
    (Spells (IsStateOf model executive) (λ (one : ℕ × (List Value × When)). net_text model one.0 ++ 32 ∷ state_text model one) rest)
    (λ one spells. (spells.0.0, cut ∙ ap (λ name. name ++ 32 ∷ state) spells.0.1 ∙ ap (λ state. net_text model one.0 ++ 32 ∷ state) spells.1))
    (λ one spells.
    let parts = same_cut 32 name state (net_text model one.0) (state_text model one) (sym cut ∙ spells.1) lacks (named (model_at one.0)) in
    ((spells.0, parts.0), parts.1))
    found finds

-- a network with a name
module _ (model : Model) (number : ℕ) (info : Info) (is : IsTold model (model_at number) info) (name : List ℕ) where
  pub net-named : (same : Bool) → same ≡ bytes_eq name info.name → info.network ≡ true → (same ≡ true) ↔ Spells (IsNet model) (net_text model) name number
  net-named same tests network = (
    λ true_. (is.network ∙ ap Some network, (bytes_eq-Decides name info.name).0 (sym tests ∙ true_) ∙ is.name),
    λ spells. tests ∙ (bytes_eq-Decides name info.name).1 (spells.1 ∙ sym is.name),
  )

  pub net-other : info.network ≡ false → (false ≡ true) ↔ Spells (IsNet model) (net_text model) name number
  net-other network = (
    (λ never. absurd (cc never)),
    λ spells. let same : Some info.network ≡ Some true = sym is.network ∙ spells.0 in let two : false ≡ true = sym network ∙ cc same in two,
  )

  -- whether the name is this one
  pub name-is : (same : Bool) → same ≡ bytes_eq name info.name → same ≡ true → name ≡ model_text model (model_at number)
  name-is same tests holds = (bytes_eq-Decides name info.name).0 (sym tests ∙ holds) ∙ is.name

  pub name-other : (same : Bool) → same ≡ bytes_eq name info.name → same ≡ false → name ≢ model_text model (model_at number)
  name-other same tests fails spelled =
      let holds : bytes_eq name info.name ≡ true = (bytes_eq-Decides name info.name).1 (spelled ∙ sym is.name) in
      let two : false ≡ true = sym fails ∙ tests ∙ holds in cc two
