-- Values of the type of an advance.
use Rattle.std.proofs.Common.{◌≡◌, ◌≢◌, ℕ, ◌+◌, ◌^◌, ℤ, pos, negsuc, Bool, true, false, if◌then◌else◌, Option, Some, None, Ok, Err, nat_lt, refl, ◌∙◌, ap}
use Rattle.dsde_values.specs.declared.types.Ty.TheVariants as ty
use Rattle.dsde_values.specs.declared.types.Types.{Types}
use Rattle.dsde_values.specs.declared.value.Value.{Value, Value-F}
use Rattle.dsde_values.specs.declared.value.Value.TheOpen as layer
use Rattle.dsde_values.specs.declared.value.Value.TheVariants as value
use Rattle.dsde_values.specs.declared.value.Value.TheViews.{outs-Int, outs-Some}
use Rattle.dsde_values.specs.declared.when.When.{When}
use Rattle.dsde_values.specs.Value.{fits_int}
use Rattle.dsde_values.specs.declared.when.When.TheVariants.{At}
use Rattle.dsde_faults.specs.declared.kind.FaultKind.TheVariants.{TimeTooFar}
use Rattle.dsde_language.specs.Outcome.{Fault, Stuck, Outcome, ◌>>=◌, int_of, option_of}
use Rattle.dsde_language.specs.Typed.{Typed, Sound}
use Rattle.dsde_system.specs.Body.{after, due_after}
use Rattle.dsde_system.specs.given.sound_expressions.lemmas_Outcomes.{sound-stuck}
use Rattle.dsde_system.specs.given.sound_expressions.lemmas_Values.{Held, int-sound, option-sound}
use Rattle.dsde_atomic.specs.Steps.{due_by}

module _ (types : Types) where
  module _ (at time : ℕ) where
    test-stuck : (b : Bool) (when : When) → (let r : Outcome When = if b then Ok when else Err (Fault TimeTooFar at) in r) ≢ Err Stuck
    test-stuck true when = λ e. cc
    test-stuck false when = λ e. cc

    int-stuck : (o : Outcome ℤ) → o ≢ Err Stuck → (o >>= (λ number. after at time number)) ≢ Err Stuck
    int-stuck (Ok (pos number)) h = test-stuck (nat_lt (time + number) (2 ^ 63)) (At (time + number))
    int-stuck (Ok (negsuc number)) h = λ e. cc
    int-stuck (Err (Fault kind place)) h = λ e. cc
    int-stuck (Err Stuck) h = λ e. h refl

    held-stuck : (o : Outcome (Option Value)) → Sound true (Held types true ty.Int) o → (o >>= (λ held. due_after at time held)) ≢ Err Stuck
    held-stuck (Ok None) h = λ e. cc
    held-stuck (Ok (Some inner)) h = int-stuck (int_of inner) (sound-stuck true (λ (n : ℤ). fits_int n ≡ true) (int_of inner) (int-sound types true inner h))
    held-stuck (Err (Fault kind place)) h = λ e. cc
    held-stuck (Err Stuck) h = absurd h

    -- A value of the type of an advance is one.
    pub is-advance : (v : Value) → Typed types (ty.Opt ty.Int) v → due_by at time v ≢ Err Stuck
    is-advance v h = held-stuck (option_of v) (option-sound types true v ty.Int h)

-- An option that holds a number is due behind that number.
abbrev held_in : Value-F Value → Outcome (Option Value)
held_in own = elim own [ layer.Nothing ↦ Ok None | layer.Some inner ↦ Ok (Some inner) | _ ↦ Err Stuck ]

abbrev int_in : Value-F Value → Outcome ℤ
int_in own = elim own [ layer.Int number ↦ Ok number | _ ↦ Err Stuck ]

pub number-due : (at time : ℕ) (number : ℤ) → due_by at time (value.Some (value.Int number)) ≡ after at time number
number-due at time number =
    ap (λ (own : Value-F Value). held_in own >>= (λ held. due_after at time held)) (outs-Some (value.Int number))
    ∙ ap (λ (own : Value-F Value). int_in own >>= (λ n. after at time n)) (outs-Int number)
