use Rattle.std.proofs.Common.{◌≡◌, ◌≢◌, zero, suc, true, [], ◌∷◌, refl, arith}
use Rattle.std.specs.List.{All, AllPairs}
use Rattle.std.proofs.lemmas.List.Elements.{All-nil, All-cons}
use Rattle.dsde_values.specs.declared.types.Field.{Field}
use Rattle.dsde_values.specs.declared.types.Ty.TheVariants as ty
use Rattle.dsde_words.specs.Words.{is_word}
use Rattle.dsde_test_calls.proofs.inputs.two_ports.Goals as goal

abbrev x : Field
x = record { name = 120 ∷ []; ty = ty.Int }

abbrev y_2 : Field
y_2 = record { name = 121 ∷ 95 ∷ 50 ∷ []; ty = ty.Int }

apart : AllPairs (λ (port later : Field). port.name ≢ later.name) (x ∷ y_2 ∷ [])
apart zero zero d before within = absurd (omega arith)
apart zero (suc zero) d before within = λ same. cc
apart zero (suc (suc j)) d before within = absurd (omega arith)
apart (suc i) j d before within = absurd (omega arith)

both_named : All (λ (port : Field). is_word port.name ≡ true) (x ∷ y_2 ∷ [])
both_named = All-cons (λ (port : Field). is_word port.name ≡ true) x (y_2 ∷ []) refl (All-cons (λ (port : Field). is_word port.name ≡ true) y_2 [] refl (All-nil _))

pub returns : goal.returns
returns c = rw (c.in_ok-push-2.ensures.ok, c.in_ok-push.ensures.ok, c.new-ports.ensures, c.in_ok-port.ensures, c.in_ok-port-2.ensures)
    (record { few = omega arith; named = both_named; distinct = apart })
