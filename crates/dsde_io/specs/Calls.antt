-- The calls of an object in memory, some of which fail by their numbers.
use Rattle.std.specs.Prelude.{ℕ, ◌+◌, List, Contains}
use Rattle.dsde_io.specs.Fault.{one_more}
use Rattle.dsde_io.specs.declared.calls.Calls.{Calls}

-- no calls yet
abbrev pub no_calls : List ℕ → Calls
no_calls failing = record { failing = failing; made = 0; faults = 0 }

-- The next call is one that fails.
abbrev pub NextFails : Calls → Type 0
NextFails calls = Contains calls.failing (calls.made + 1)

-- A call was made that did not fail.
abbrev pub after_call : Calls → Calls
after_call calls = record calls { made = one_more calls.made }

-- A call was made that failed.
abbrev pub after_fault : Calls → Calls
after_fault calls = record calls { made = one_more calls.made; faults = one_more calls.faults }
