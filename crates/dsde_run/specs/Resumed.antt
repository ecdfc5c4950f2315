-- A run that is taken up again: an engine goes on with an input, of which it took some records before. This
-- project's profile.
use Rattle.std.specs.Prelude.{ℕ, ◌≡◌, List, [], Ok, Err}
use Rattle.dsde_language.specs.DeclaredModels.{top_ins, types_of}
use Rattle.dsde_input_records.specs.Records.{Records}
use Rattle.dsde_input.specs.Skipped.{Unskipped, few, offence, floored_in, skipped}
use Rattle.dsde_sim_tree.specs.Engine.{Engine}
use Rattle.dsde_run_meaning.specs.Run.{Run, cut, offended}
use Rattle.dsde_run.specs.Run.{Running, go}

-- the records of an input to an engine that took some of them at a time: none of the others may be before its time
abbrev pub records_for : Running → Engine → List ℕ → Records
records_for own engine bytes = floored_in (top_ins own.model) (types_of own.model) engine.taken engine.time bytes

-- A run that does not go on, since the records that its engine took cannot be skipped: it tells nothing, and ends
-- with the first bad line among them; where they are too few it has no end.
abbrev pub unskipped : Unskipped → Engine → Run
unskipped few engine = cut engine
unskipped (offence why) engine = record (offended why engine) { events = [] }

-- what an engine tells that goes on for at most so many turns with these records, of which it skips those that it took
abbrev pub resumed_on : Running → ℕ → Engine → Records → Run
resumed_on own turns engine records = elim (skipped engine.taken records) [
  | Ok rest ↦ go own turns rest engine
  | Err why ↦ unskipped why engine
]

-- what an engine tells that goes on with an input
abbrev pub resumed : Running → List ℕ → ℕ → Engine → Run
resumed own bytes turns engine = resumed_on own turns engine (records_for own engine bytes)

-- An input ends before the records that the engine took.
abbrev pub HasFew : Running → Engine → List ℕ → Type 0
HasFew own engine bytes = skipped engine.taken (records_for own engine bytes) ≡ Err few
