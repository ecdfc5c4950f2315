-- What a type says of a value: values that have it, and what they hold.
use Rattle.std.proofs.Common.{◌≡◌, ℕ, ◌≤◌, ◌==◌, ℤ, Bool, true, false, ◌&&◌, List, [], ◌∷◌, ◌++◌, length, map, Option, Some, None, Ok, Err, refl, sym, ◌∙◌, ap, subst, arith, nat_le}
use Rattle.std.specs.List.{list_all}
use Rattle.std.specs.Option.{option_map_or}
use Rattle.std.proofs.lemmas.List.{length-map}
use Rattle.std.proofs.lemmas.List.Folds.{list_all-map, list_all-append}
use Rattle.std.proofs.lemmas.Bool.{and_from, leb-true, le-leb}
use Rattle.dsde_language.specs.given.values.types_Field.{Field}
use Rattle.dsde_language.specs.given.values.types_Ty.{Ty, Ty-F, out-Ty}
use Rattle.dsde_language.specs.given.values.types_Ty_TheOpen as open_ty
use Rattle.dsde_language.specs.given.values.types_Ty_TheVariants as ty
use Rattle.dsde_language.specs.given.values.types_Ty_TheViews.{outs-Int as ty_Int, outs-Bool as ty_Bool, outs-Enum as ty_Enum, outs-Rec as ty_Rec, outs-List as ty_List, outs-Opt as ty_Opt}
use Rattle.dsde_language.specs.given.values.types_Types.{Types}
use Rattle.dsde_language.specs.given.values.value_Value.{Value, Value-F, out-Value, fold_out-Value, map-Value}
use Rattle.dsde_language.specs.given.values.value_Value_TheOpen as layer
use Rattle.dsde_language.specs.given.values.value_Value_TheVariants as value
use Rattle.dsde_language.specs.given.values.value_Value_TheViews.{outs-Int, outs-Bool, outs-Enum, outs-Rec, outs-List, outs-Nothing, outs-Some}
use Rattle.dsde_language.specs.given.values.Value.{fields_at, fits_int, is_variant, fill, type_step, has_type}
use Rattle.dsde_language.specs.Outcome.{Stuck, int_of, truth_of, items_of, option_of}
use Rattle.dsde_language.specs.Typed.{Typed, Sound}
use Rattle.dsde_sound_expressions.specs.lemmas.Truths.{and-left, and-right}
use Rattle.dsde_sound_expressions.specs.lemmas.Outcomes.{Any}

module _ (types : Types) where
  abbrev step : Value-F (Ty → Bool) → Ty → Bool
  step parts own = type_step types parts (out-Ty own)

  -- the type of a value, by its layer
  pub by_layer : (v : Value) (t : Ty) (w : Value-F Value) (u : Ty-F Ty) → out-Value v ≡ w → out-Ty t ≡ u → has_type types v t ≡ type_step types (map-Value Value (Ty → Bool) (has_type types) w) u
  unfolding has_type
  by_layer v t w u made seen =
      ap (λ (g : Ty → Bool). g t) (fold_out-Value (Ty → Bool) step v)
      ∙ ap (λ (x : Value-F Value). type_step types (map-Value Value (Ty → Bool) (has_type types) x) (out-Ty t)) made
      ∙ ap (λ (x : Ty-F Ty). type_step types (map-Value Value (Ty → Bool) (has_type types) w) x) seen

  pub typed-int : (number : ℤ) → fits_int number ≡ true → Typed types ty.Int (value.Int number)
  typed-int number fits = record { has = by_layer (value.Int number) ty.Int (layer.Int number) open_ty.Int (outs-Int number) ty_Int ∙ fits }

  pub typed-bool : (truth : Bool) → Typed types ty.Bool (value.Bool truth)
  typed-bool truth = record { has = by_layer (value.Bool truth) ty.Bool (layer.Bool truth) open_ty.Bool (outs-Bool truth) ty_Bool }

  same-self : (n : ℕ) → (n == n) ≡ true
  same-self n = grind arith

  pub typed-enum : (number variant : ℕ) → is_variant types number variant ≡ true → Typed types (ty.Enum number) (value.Enum number variant)
  typed-enum number variant is = record {
    has = by_layer (value.Enum number variant) (ty.Enum number) (layer.Enum number variant) (open_ty.Enum number) (outs-Enum number variant) (ty_Enum number)
        ∙ and_from (number == number) (is_variant types number variant) (same-self number) is;
  }

  pub typed-rec : (number : ℕ) (parts : List Value) (fields : List Field) → fields_at types number ≡ Some fields → fill (map (has_type types) parts) fields ≡ true → Typed types (ty.Rec number) (value.Rec number parts)
  typed-rec number parts fields at all = record {
    has = by_layer (value.Rec number parts) (ty.Rec number) (layer.Rec number parts) (open_ty.Rec number) (outs-Rec number parts) (ty_Rec number)
        ∙ and_from (number == number) (option_map_or (fill (map (has_type types) parts)) (fields_at types number) false) (same-self number)
        (ap (λ (o : Option (List Field)). option_map_or (fill (map (has_type types) parts)) o false) at ∙ all);
  }

  -- all values have a type
  abbrev pub AllHave : Ty → List Value → Type 0
  AllHave t values = list_all (λ v. has_type types v t) values ≡ true

  -- the items of a list of a type
  pub record IsList (t : Ty) (items : List Value) : Type 0 where
    pub have : AllHave t items
    pub short : length items ≤ 65536

  pub all-cons : (t : Ty) (v : Value) (vs : List Value) → AllHave t (v ∷ vs) → Typed types t v × AllHave t vs
  all-cons t v vs h = (record { has = and-left (has_type types v t) (list_all (λ v. has_type types v t) vs) h }, and-right (has_type types v t) (list_all (λ v. has_type types v t) vs) h)

  pub cons-all : (t : Ty) (v : Value) (vs : List Value) → Typed types t v → AllHave t vs → AllHave t (v ∷ vs)
  cons-all t v vs h k = and_from (has_type types v t) (list_all (λ v. has_type types v t) vs) h.has k

  pub all-append : (t : Ty) (vs ws : List Value) → AllHave t vs → AllHave t ws → AllHave t (vs ++ ws)
  all-append t vs ws h k =
      list_all-append (λ v. has_type types v t) vs ws
      ∙ and_from (list_all (λ v. has_type types v t) vs) (list_all (λ v. has_type types v t) ws) h k

  pub all-snoc : (t : Ty) (done : List Value) (v : Value) → AllHave t done → Typed types t v → AllHave t (done ++ v ∷ [])
  all-snoc t done v all own = all-append t done (v ∷ []) all (cons-all t v [] own refl)

  list-is : (items : List Value) (inner : Ty) → has_type types (value.List items) (ty.List inner) ≡ nat_le (length items) 65536 && list_all (λ v. has_type types v inner) items
  list-is items inner =
      by_layer (value.List items) (ty.List inner) (layer.List items) (open_ty.List inner) (outs-List items) (ty_List inner)
      ∙ rw (length-map, list_all-map) refl

  pub typed-list : (t : Ty) (items : List Value) → IsList t items → Typed types (ty.List t) (value.List items)
  typed-list t items is = record {
    has = list-is items t ∙ and_from (nat_le (length items) 65536) (list_all (λ v. has_type types v t) items) (le-leb (length items) 65536 is.short) is.have;
  }

  pub typed-nothing : (t : Ty) → Typed types (ty.Opt t) value.Nothing
  typed-nothing t = record { has = by_layer value.Nothing (ty.Opt t) layer.Nothing (open_ty.Opt t) outs-Nothing (ty_Opt t) }

  pub typed-some : (t : Ty) (part : Value) → Typed types t part → Typed types (ty.Opt t) (value.Some part)
  typed-some t part h = record { has = by_layer (value.Some part) (ty.Opt t) (layer.Some part) (open_ty.Opt t) (outs-Some part) (ty_Opt t) ∙ h.has }

  module _ (total : Bool) where
    int-layer : (w : Value-F Value) → type_step types (map-Value Value (Ty → Bool) (has_type types) w) open_ty.Int ≡ true → Sound total (λ (n : ℤ). fits_int n ≡ true) (elim w [ layer.Int number ↦ Ok number | _ ↦ Err Stuck ])
    int-layer (layer.Int number) h = h
    int-layer (layer.Bool truth) h = cc
    int-layer (layer.Enum number variant) h = cc
    int-layer (layer.Rec number parts) h = cc
    int-layer (layer.List items) h = cc
    int-layer layer.Nothing h = cc
    int-layer (layer.Some inner) h = cc

    pub int-sound : (v : Value) → Typed types ty.Int v → Sound total (λ (n : ℤ). fits_int n ≡ true) (int_of v)
    int-sound v h = int-layer (out-Value v) (sym (by_layer v ty.Int (out-Value v) open_ty.Int refl ty_Int) ∙ h.has)

    truth-layer : (w : Value-F Value) → type_step types (map-Value Value (Ty → Bool) (has_type types) w) open_ty.Bool ≡ true → Sound total (λ (b : Bool). Unit {0}) (elim w [ layer.Bool truth ↦ Ok truth | _ ↦ Err Stuck ])
    truth-layer (layer.Int number) h = cc
    truth-layer (layer.Bool truth) h = tt
    truth-layer (layer.Enum number variant) h = cc
    truth-layer (layer.Rec number parts) h = cc
    truth-layer (layer.List items) h = cc
    truth-layer layer.Nothing h = cc
    truth-layer (layer.Some inner) h = cc

    pub truth-sound : (v : Value) → Typed types ty.Bool v → Sound {A = Bool} total Any (truth_of v)
    truth-sound v h = truth-layer (out-Value v) (sym (by_layer v ty.Bool (out-Value v) open_ty.Bool refl ty_Bool) ∙ h.has)

    list-parts : (t : Ty) (items : List Value) → nat_le (length (map (has_type types) items)) 65536 && list_all (λ (part : Ty → Bool). part t) (map (has_type types) items) ≡ true → IsList t items
    list-parts t items h = record {
      have = sym (list_all-map (λ (part : Ty → Bool). part t) (has_type types) items) ∙ and-right (nat_le (length (map (has_type types) items)) 65536) (list_all (λ (part : Ty → Bool). part t) (map (has_type types) items)) h;
      short = subst (λ (n : ℕ). n ≤ 65536) (length-map items (has_type types)) (leb-true (length (map (has_type types) items)) 65536 (and-left (nat_le (length (map (has_type types) items)) 65536) (list_all (λ (part : Ty → Bool). part t) (map (has_type types) items)) h));
    }

    items-layer : (t : Ty) (w : Value-F Value) → type_step types (map-Value Value (Ty → Bool) (has_type types) w) (open_ty.List t) ≡ true → Sound total (λ (items : List Value). IsList t items) (elim w [ layer.List items ↦ Ok items | _ ↦ Err Stuck ])
    items-layer t (layer.Int number) h = cc
    items-layer t (layer.Bool truth) h = cc
    items-layer t (layer.Enum number variant) h = cc
    items-layer t (layer.Rec number parts) h = cc
    items-layer t (layer.List items) h = list-parts t items h
    items-layer t layer.Nothing h = cc
    items-layer t (layer.Some inner) h = cc

    pub items-sound : (v : Value) (t : Ty) → Typed types (ty.List t) v → Sound total (IsList t) (items_of v)
    items-sound v t h = items-layer t (out-Value v) (sym (by_layer v (ty.List t) (out-Value v) (open_ty.List t) refl (ty_List t)) ∙ h.has)

    -- what an option of a type holds
    abbrev pub Held : Ty → Option Value → Type 0
    Held t None = Unit {0}
    Held t (Some v) = Typed types t v

    option-layer : (t : Ty) (w : Value-F Value) → type_step types (map-Value Value (Ty → Bool) (has_type types) w) (open_ty.Opt t) ≡ true → Sound total (λ (held : Option Value). Held t held) (elim w [ layer.Nothing ↦ Ok None | layer.Some inner ↦ Ok (Some inner) | _ ↦ Err Stuck ])
    option-layer t (layer.Int number) h = cc
    option-layer t (layer.Bool truth) h = cc
    option-layer t (layer.Enum number variant) h = cc
    option-layer t (layer.Rec number parts) h = cc
    option-layer t (layer.List items) h = cc
    option-layer t layer.Nothing h = tt
    option-layer t (layer.Some inner) h = record { has = h }

    pub option-sound : (v : Value) (t : Ty) → Typed types (ty.Opt t) v → Sound total (Held t) (option_of v)
    option-sound v t h = option-layer t (out-Value v) (sym (by_layer v (ty.Opt t) (out-Value v) (open_ty.Opt t) refl (ty_Opt t)) ∙ h.has)
