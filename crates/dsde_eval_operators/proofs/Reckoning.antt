-- What is made of two numbers, as values.
use Rattle.std.proofs.Common.{◌≡◌, ℤ, Result, Ok, Err, sym, ◌∙◌, ap, subst}
use Rattle.dsde_values.specs.declared.value.Value.{Value, Value-F}
use Rattle.dsde_values.specs.declared.value.Value.TheOpen as layer
use Rattle.dsde_values.specs.declared.value.Value.TheVariants as value
use Rattle.dsde_values.specs.declared.value.Value.TheViews.{outs-Int}
use Rattle.dsde_faults.specs.declared.end.EvalEnd.{EvalEnd}
use Rattle.dsde_language.specs.Outcome.{Outcome, Stuck, ◌>>=◌, int_of}
use Rattle.dsde_language.specs.MeaningOperators.{of_ints}
use Rattle.dsde_eval_operators.specs.Reckoning.{Reckons}

-- the number of a layer
abbrev int_in : Value-F Value → Outcome ℤ
int_in own = elim own [ layer.Int number ↦ Ok number | _ ↦ Err Stuck ]

int-is : (number : ℤ) → int_of (value.Int number) ≡ Ok number
int-is number = ap int_in (outs-Int number)

pub ints-are : (left right : ℤ) (next : ℤ → ℤ → Outcome Value) → of_ints (value.Int left) (value.Int right) next ≡ next left right
ints-are left right next =
    ap (λ (own : Outcome ℤ). own >>= (λ number. int_of (value.Int right) >>= (λ other. next number other))) (int-is left)
    ∙ ap (λ (own : Outcome ℤ). own >>= (λ other. next left other)) (int-is right)

pub of-numbers : (left right : ℤ) (next : ℤ → ℤ → Outcome Value) (result : Result ℤ EvalEnd) → Reckons (next left right) result → Reckons (of_ints (value.Int left) (value.Int right) next) result
of-numbers left right next result own = subst (λ (meant : Outcome Value). Reckons meant result) (sym (ints-are left right next)) own
