-- A value at a port.
use Rattle.std.proofs.Common.{◌≡◌, ℕ, inl, ◌<◌, ◌≤◌, ◌^◌, ◌+◌, false, true, Bool, ◌&&◌, List, [], ◌∷◌, ◌++◌, length, get_or, refl, sym, ◌∙◌, ap, subst, arith, codes, length-append}
use Rattle.std.specs.Prelude.{Option, Some, None, slice_get}
use Rattle.std.specs.Option.{option_map_or}
use Rattle.std.proofs.lemmas.List.{append-nil}
use Rattle.std.proofs.lemmas.Option.{slice_get_within, slice_get-get_or}
use Rattle.dsde_values.specs.Value.{HasType, spelling}
use Rattle.dsde_values.specs.Word.{Begins, ends_word, goes_on}
use Rattle.dsde_values.specs.declared.types.Field.{Field}
use Rattle.dsde_values.specs.declared.types.Ty.{Ty}
use Rattle.dsde_values.specs.declared.types.Types.{Types}
use Rattle.dsde_values.specs.declared.value.Value.{Value}
use Rattle.dsde_trace_words.specs.Words.{Finds, Inverts, IsPassed, NoneBefore, Precedes, Spells, passed_text}
use Rattle.dsde_trace_words.specs.lemmas.Searching.{NoneBelow, found-first, none-found, none-here}

-- No word goes on at the end.
ends-here : (text : List ℕ) → goes_on text [] ≡ false
ends-here text = by (ends_word text)
  where
    by : (ends : Bool) → (ends && false) ≡ false
    by true = refl
    by false = refl

-- a whole text begins itself
whole-begins : (text bytes : List ℕ) → bytes ≡ text → Begins text bytes
whole-begins text bytes same = record { rest = []; front = same ∙ sym (append-nil text); ends = ends-here text }

empty : (bytes : List ℕ) → length bytes ≡ 0 → bytes ≡ []
empty [] none = refl
empty (byte ∷ bytes) none = absurd (omega (arith, none))

module _ (types : Types) (ty : Ty) (text : List ℕ) where
  abbrev Typed : Value → Type 0
  Typed value = HasType types value ty

  pub value-none : ((value : Value) → HasType types value ty → ¬ (Begins (spelling types value) text)) → Inverts Typed (spelling types) text None
  value-none none = record { is = tt; only = λ one is spelled. absurd (none one is (whole-begins (spelling types one) text spelled)) }

  module _ (value : Value) (size : ℕ) (is_size : size ≡ length (spelling types value)) (only : (other : Value) → HasType types other ty → Begins (spelling types other) text → other ≡ value) where
    pub value-whole : HasType types value ty → Begins (spelling types value) text → length text ≤ size → Inverts Typed (spelling types) text (Some value)
    value-whole typed begins all =
        let none : begins.rest ≡ [] = empty begins.rest (omega (arith, is_size, all, ap length begins.front, length-append (spelling types value) begins.rest)) in
        record {
          is = (typed, begins.front ∙ ap (λ rest. spelling types value ++ rest) none ∙ append-nil (spelling types value));
          only = λ one is spelled. ap Some (sym (only one is (whole-begins (spelling types one) text spelled)));
        }

    pub value-part : size < length text → Inverts Typed (spelling types) text None
    value-part part = record {
      is = tt;
      only = λ one is spelled.
          let same : one ≡ value = only one is (whole-begins (spelling types one) text spelled) in
          absurd (omega (arith, part, is_size, ap length (spelled ∙ ap (spelling types) same)));
    }

module _ (ports : List Field) (types : Types) (text : List ℕ) where
  abbrev pub IsHere : ℕ × Value → Type 0
  IsHere = Spells (IsPassed ports types) (passed_text ports types) text

  -- what a text is at one port
  pub at-port : (number : ℕ) (port : Field) (found : Option Value) → number < 2 ^ 32 → slice_get ports number ≡ Some port →
      Inverts (λ value. HasType types value port.ty) (λ value. port.name ++ (codes " " ++ spelling types value)) text found → Finds NoneBefore (λ value. IsHere (number, value)) found
  at-port number port None small at inverts = record {
    is = tt;
    only = λ one is.
        let same : Some port ≡ Some is.0.port = sym at ∙ is.0.at in
        let here : is.0.port ≡ port = cc same in
        let none : None ≡ Some one =
        inverts.only one (subst (λ (port : Field). HasType types one port.ty) here is.0.typed)
        (is.1 ∙ ap (λ (found : Option Field). option_map_or (λ (field : Field). field.name) found [] ++ (codes " " ++ spelling types one)) at) in
        absurd (cc none);
  }
  at-port number port (Some value) small at inverts = record {
    is = (
      record { small = small; port = port; at = at; typed = inverts.is.0 },
      inverts.is.1 ∙ ap (λ (found : Option Field). option_map_or (λ (field : Field). field.name) found [] ++ (codes " " ++ spelling types value)) (sym at),
    );
    only = λ one is.
        let same : Some port ≡ Some is.0.port = sym at ∙ is.0.at in
        let here : is.0.port ≡ port = cc same in
        let found : Some value ≡ Some one =
        inverts.only one (subst (λ (port : Field). HasType types one port.ty) here is.0.typed)
        (is.1 ∙ ap (λ (found : Option Field). option_map_or (λ (field : Field). field.name) found [] ++ (codes " " ++ spelling types one)) at) in
        let equal : value ≡ one = cc found in inl equal;
  }

  -- a port has a number below how many there are, and one of 32 bits
  pub port-within : (one : ℕ × Value) → IsHere one → one.0 < length ports
  port-within one is = slice_get_within ports one.0 is.0.port is.0.at

  pub port-small : (number : ℕ) → 2 ^ 32 ≤ number → (one : ℕ × Value) → IsHere one → one.0 < number
  port-small number many one is = omega (arith, many, is.0.small)

  abbrev pub AtPort : Field → Option Value → Type 0
  AtPort port found = Inverts (λ value. HasType types value port.ty) (λ value. port.name ++ (codes " " ++ spelling types value)) text found

  module _ (number index : ℕ) (port : Field) (same : number ≡ index) (small : number < 2 ^ 32) (is : port ≡ get_or ports index port) (within : index < length ports) (below : NoneBelow NoneBefore IsHere index) where
    here : slice_get ports index ≡ Some port
    here = slice_get-get_or ports index port within ∙ ap Some (sym is)

    -- the first port
    pub port-first : (value : Value) → AtPort port (Some value) → Finds (Precedes NoneBefore) IsHere (Some (number, value))
    port-first value at =
        found-first NoneBefore IsHere number value (subst (NoneBelow NoneBefore IsHere) (sym same) below)
        (at-port number port (Some value) small (ap (slice_get ports) same ∙ here) at)

    -- none up to this one
    pub ports-more : AtPort port None → NoneBelow NoneBefore IsHere (index + 1)
    ports-more at = none-here NoneBefore IsHere index below (at-port index port None (omega (arith, same, small)) here at)

  -- none at all
  pub ports-none : (index : ℕ) → length ports ≤ index → NoneBelow NoneBefore IsHere index → Finds (Precedes NoneBefore) IsHere None
  ports-none index all below = none-found NoneBefore IsHere index below (λ one is. omega (arith, all, port-within one is))
