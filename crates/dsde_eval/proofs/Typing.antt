-- Outcomes of what is total, and values that are options.
use Rattle.std.proofs.Common.{◌≡◌, ◌≢◌, ℕ, true, false, Ok, Err}
use Rattle.dsde_values.specs.declared.types.Ty.{Ty}
use Rattle.dsde_values.specs.declared.types.Ty.TheVariants as ty
use Rattle.dsde_values.specs.declared.types.Types.{Types}
use Rattle.dsde_values.specs.declared.value.Value.{Value}
use Rattle.dsde_faults.specs.declared.kind.FaultKind.{FaultKind}
use Rattle.dsde_language.specs.Outcome.{Fault, Stuck, Outcome, option_of}
use Rattle.dsde_language.specs.Typed.{Typed, Sound}
use Rattle.dsde_sound_expressions.specs.lemmas.Outcomes.{sound-stuck}
use Rattle.dsde_sound_expressions.specs.lemmas.Values.{Held, option-sound}

-- What is total has no fault.
pub total-ok : {A : Type 0} (P : A → Type 0) (x : Outcome A) (kind : FaultKind) (at : ℕ) → Sound true P x → x ≡ Err (Fault kind at) → ⊥
total-ok P (Ok a) kind at h e = cc
total-ok P (Err (Fault own place)) kind at h e = cc
total-ok P (Err Stuck) kind at h e = absurd h

-- A value of an option's type is an option.
pub is-option : (types : Types) (t : Ty) (v : Value) → Typed types (ty.Opt t) v → option_of v ≢ Err Stuck
is-option types t v h = sound-stuck false (Held types false t) (option_of v) (option-sound types false v t h)
