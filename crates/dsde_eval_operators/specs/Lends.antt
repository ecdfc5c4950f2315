-- A value that is lent, and the place of an item, where they are meant.
use Rattle.std.specs.Prelude.{◌≡◌, ℕ, List, Result, Ok, Err, slice_get}
use Rattle.std.specs.Borrow.{Bor}
use Rattle.dsde_values.specs.declared.value.Value.{Value}
use Rattle.dsde_faults.specs.declared.end.EvalEnd.{EvalEnd}
use Rattle.dsde_language.specs.Outcome.{Outcome, ◌>>=◌, present, items_of, Gives}

-- The answer lends what is meant, or it is the fault that is meant, or memory ran out.
abbrev pub Lends : {A : Type 0} → Outcome A → Result (Bor A) EvalEnd → Type 0
Lends meant (Ok found) = meant ≡ Ok found.now
Lends meant (Err end) = Gives meant (Err end)

-- The answer is the place at which what is meant stands among items, or it is the fault that is meant,
-- or memory ran out.
abbrev pub Stands : {A : Type 0} → List A → Outcome A → Result ℕ EvalEnd → Type 0
Stands items meant (Ok place) = meant ≡ present (slice_get items place)
Stands items meant (Err end) = Gives meant (Err end)

-- That, of the items of a list.
abbrev pub StandsIn : Value → Outcome Value → Result ℕ EvalEnd → Type 0
StandsIn list meant (Ok place) = meant ≡ items_of list >>= (λ items. present (slice_get items place))
StandsIn list meant (Err end) = Gives meant (Err end)
