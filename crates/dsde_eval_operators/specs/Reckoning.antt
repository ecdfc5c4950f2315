-- Whole numbers that are made of whole numbers.
use Rattle.std.specs.Prelude.{◌≡◌, ℤ, Bool, true, false, Result, Ok, Err}
use Rattle.dsde_values.specs.declared.value.Value.{Value}
use Rattle.dsde_values.specs.declared.value.Value.TheVariants as value
use Rattle.dsde_language.specs.declared.operator.Binary.{Binary}
use Rattle.dsde_language.specs.declared.operator.Binary.TheVariants as binary
use Rattle.dsde_faults.specs.declared.end.EvalEnd.{EvalEnd}
use Rattle.dsde_faults.specs.declared.end.EvalEnd.TheVariants as end_of
use Rattle.dsde_language.specs.Outcome.{Outcome, Fault}

-- whether an operator makes a whole number of two whole numbers
abbrev pub reckons : Binary → Bool
reckons binary.Add = true
reckons binary.Sub = true
reckons binary.Mul = true
reckons binary.Div = true
reckons binary.Rem = true
reckons binary.CapAdd = true
reckons binary.CapSub = true
reckons binary.CapMul = true
reckons _ = false

-- The answer is the whole number that is meant, or it is the fault that is meant: memory never runs out.
abbrev pub Reckons : Outcome Value → Result ℤ EvalEnd → Type 0
Reckons meant (Ok number) = meant ≡ Ok (value.Int number)
Reckons meant (Err (end_of.Fault kind at)) = meant ≡ Err (Fault kind at)
Reckons meant (Err end_of.Memory) = ⊥
