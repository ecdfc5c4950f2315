use Rattle.std.proofs.Common.{◌≡◌, ◌-◌, FitsSigned, List, ℕ, length, take, drop, rules, arith, length-drop}
use Rattle.std.specs.Int.{w64}
use Rattle.std.proofs.lemmas.Int.{to_z-of_z}
use Rattle.std.proofs.lemmas.List.{take_all}
use Rattle.dsde_values.proofs.Fronts.{number_taken}
use Rattle.dsde_values.proofs.reading.Reader.number.Goals as goal

pub returns : goal.returns
returns c =
    let fits : FitsSigned w64 c.in-Some.number = search rules in
    let bytes : List ℕ = c.self.inside.left.now in
    let rest : take (length bytes - c.in-Some.size) (drop c.in-Some.size bytes) ≡ drop c.in-Some.size bytes =
    take_all (length bytes - c.in-Some.size) (drop c.in-Some.size bytes) (omega (arith, length-drop c.in-Some.size bytes)) in
    rw (to_z-of_z w64 c.in-Some.number fits, ← c.self.view_is)
    (number_taken bytes _ c.in-Some.number c.in-Some.size fits c.in-Some.ensures.begins c.in-Some.ensures.size rest c.in-Some.ensures.only)
