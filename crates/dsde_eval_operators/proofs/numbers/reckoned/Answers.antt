use Rattle.std.proofs.Common.{◌+ℤ◌, ◌-ℤ◌, ◌*ℤ◌, Ok, ◌∙◌, rules}
use Rattle.std.proofs.Math.Facts.{to_z-of_z}
use Rattle.dsde_values.specs.declared.value.Value.TheVariants as value
use Rattle.dsde_language.specs.MeaningOperators.{whole, divided, remaining, nearest}
use Rattle.dsde_eval_operators.proofs.Reckoning.{ints-are, of-numbers}
use Rattle.dsde_eval_operators.proofs.numbers.reckoned.Goals as goal

pub returns-in-Add : goal.returns-in-Add
returns-in-Add c =
    rw c.in-Add.is
    (of-numbers c.args.left c.args.right (λ number other. whole c.args.at (number +ℤ other)) c.sum.result (rw (to_z-of_z c.ranges.left, to_z-of_z c.ranges.right) at c.sum.ensures))

pub returns-in-Sub : goal.returns-in-Sub
returns-in-Sub c =
    rw c.in-Sub.is
    (of-numbers c.args.left c.args.right (λ number other. whole c.args.at (number -ℤ other)) c.difference.result (rw (to_z-of_z c.ranges.left, to_z-of_z c.ranges.right) at c.difference.ensures))

pub returns-in-Mul : goal.returns-in-Mul
returns-in-Mul c =
    rw c.in-Mul.is
    (of-numbers c.args.left c.args.right (λ number other. whole c.args.at (number *ℤ other)) c.product.result (rw (to_z-of_z c.ranges.left, to_z-of_z c.ranges.right) at c.product.ensures))

pub returns-in-Div : goal.returns-in-Div
returns-in-Div c =
    rw c.in-Div.is
    (of-numbers c.args.left c.args.right (divided c.args.at) c.quotient.result (rw (to_z-of_z c.ranges.left, to_z-of_z c.ranges.right) at c.quotient.ensures))

pub returns-in-Rem : goal.returns-in-Rem
returns-in-Rem c =
    rw c.in-Rem.is
    (of-numbers c.args.left c.args.right (remaining c.args.at) c.remainder.result (rw (to_z-of_z c.ranges.left, to_z-of_z c.ranges.right) at c.remainder.ensures))

pub returns-in-CapAdd : goal.returns-in-CapAdd
returns-in-CapAdd c = rw c.in-CapAdd.is (ints-are c.args.left c.args.right (λ number other. Ok (value.Int (nearest (number +ℤ other)))) ∙ (search rules))

pub returns-in-CapSub : goal.returns-in-CapSub
returns-in-CapSub c = rw c.in-CapSub.is (ints-are c.args.left c.args.right (λ number other. Ok (value.Int (nearest (number -ℤ other)))) ∙ (search rules))

pub returns-in-CapMul : goal.returns-in-CapMul
returns-in-CapMul c = rw c.in-CapMul.is (ints-are c.args.left c.args.right (λ number other. Ok (value.Int (nearest (number *ℤ other)))) ∙ (search rules))
