-- What a check answers.
use Rattle.std.specs.Prelude.{◌≡◌, ℕ, Option, None, Some, Result, Ok, Err}
use Rattle.dsde_language.specs.declared.wrong.Wrong.{Wrong}
use Rattle.dsde_language.specs.Judge.{Scope}
use Rattle.dsde_language.specs.Blocks.{Passed}
use Rattle.dsde_check_scope.specs.declared.error.CheckError.{CheckError}
use Rattle.dsde_check_scope.specs.declared.error.CheckError.TheVariants as end_of

-- The answer is what the rules say, or memory ran out.
abbrev pub Says : {A : Type 0} → Result A Wrong → Result A CheckError → Type 0
Says meant (Ok found) = meant ≡ Ok found
Says meant (Err (end_of.Wrong kind at)) = meant ≡ Err (record { kind = kind; at = at })
Says meant (Err end_of.Memory) = Unit {0}

-- The same of what leaves a scope behind it.
abbrev pub Walks : Result Passed Wrong → Result ℕ CheckError → Scope → Type 0
Walks meant (Ok height) after = meant ≡ Ok (record { scope = after; height = height })
Walks meant (Err (end_of.Wrong kind at)) after = meant ≡ Err (record { kind = kind; at = at })
Walks meant (Err end_of.Memory) after = Unit {0}

-- The same of what leaves this behind it, and answers nothing more.
abbrev pub Leaves : {A : Type 0} → Result A Wrong → Result (Unit {0}) CheckError → A → Type 0
Leaves meant (Ok _) after = meant ≡ Ok after
Leaves meant (Err (end_of.Wrong kind at)) after = meant ≡ Err (record { kind = kind; at = at })
Leaves meant (Err end_of.Memory) after = Unit {0}

-- The same of the first wrong thing, which there is none of where the answer is Ok.
abbrev pub Tells : {A : Type 0} → Option Wrong → Result A CheckError → Type 0
Tells first (Ok _) = first ≡ None
Tells first (Err (end_of.Wrong kind at)) = first ≡ Some (record { kind = kind; at = at })
Tells first (Err end_of.Memory) = Unit {0}
