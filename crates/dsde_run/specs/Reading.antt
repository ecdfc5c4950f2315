-- What a run takes of its input and hands on of its trace, and how it is cut short.
use Rattle.std.specs.Prelude.{ℕ, zero, suc, ◌+◌, ◌==◌, ◌≡◌, ◌≢◌, ◌≤◌, if◌then◌else◌, List, [], ◌∷◌, ◌++◌, length, take, Option, Some, None, IfSome, IsSomeAnd, Result, Ok, Err}
use Rattle.dsde_io.specs.Bytes.{Gains}
use Rattle.dsde_input_records.specs.declared.end.InputEnd.TheVariants.{ReadFault}
use Rattle.dsde_input_records.specs.Records.{Records, end, bad, one}
use Rattle.dsde_sim_tree.specs.declared.event.Finish.{Finish}
use Rattle.dsde_sim_tree.specs.declared.event.Finish.TheVariants as how
use Rattle.dsde_sim_tree.specs.Engine.{Engine}
use Rattle.dsde_trace.specs.declared.pick.Pick.{Pick}
use Rattle.dsde_run.specs.declared.run.Cut.{Cut}
use Rattle.dsde_run.specs.declared.run.Cut.TheVariants as cut
use Rattle.dsde_sim_tree.specs.declared.event.Event.TheVariants as event
use Rattle.dsde_sim_tree.specs.declared.fault.TurnEnd.{TurnEnd}
use Rattle.dsde_run.specs.Run.{Running, event_text, kept_text, faulted}
use Rattle.dsde_run_meaning.specs.Run.{Run, ended, unstarted}

-- This holds of what a source had left before and has left after, where it tells both.
abbrev pub Told : Option (List ℕ) → Option (List ℕ) → (List ℕ → List ℕ → Type 0) → Type 0
Told before after Holds = IfSome before (λ all. IsSomeAnd after (λ rest. Holds all rest))

-- how many line feeds there are
abbrev pub feeds : List ℕ → ℕ
feeds [] = 0
feeds (byte ∷ bytes) = (if byte == 10 then 1 else 0) + feeds bytes

-- the first records, as many as this, and behind them a read that failed
abbrev pub cut_after : ℕ → Records → Records
cut_after zero records = bad ReadFault
cut_after (suc count) end = end
cut_after (suc count) (bad offence) = bad offence
cut_after (suc count) (one first later) = one first (cut_after count later)

-- The bytes taken are those that were needed, and at most 4,096 more: over the lines that were held, and
-- those of the bytes needed, the run wants one that is not whole there.
pub record TakesWanted (tells : Records → Run) (records : Records) (held before after : List ℕ) : Type 0 where
  pub needed : List ℕ
  pub past : List ℕ
  pub split : before ≡ (needed ++ past) ++ after
  pub size : length past ≤ 4096
  pub wanted : needed ++ past ≢ [] → (tells (cut_after (feeds (held ++ needed)) records)).end ≡ None

-- The trace ends otherwise than by a fault.
abbrev pub IsWhole : Finish → Type 0
IsWhole how.Bound = Unit {0}
IsWhole how.Quiet = Unit {0}
IsWhole (how.Input kind line) = Unit {0}
IsWhole (how.Fault fault) = ⊥

-- The sink gained the run's trace, and the answer is how the run ended; the engine stands where it did.
pub record Tells (own : Running) (pick : Pick) (run : Run) (engine : Engine) (old new : Option (List ℕ)) (how : Finish) : Type 0 where
  pub text : Gains old new (kept_text own pick run.events)
  pub end : run.end ≡ Some how
  pub stands : IsWhole how → engine ≡ run.state

-- The sink gained the front of a text.
pub record IsFront (old new : Option (List ℕ)) (text : List ℕ) : Type 0 where
  pub count : ℕ
  pub is : Gains old new (take count text)

-- The sink gained the lines before the first turn whose head is not whole, with its line feed, in the bytes
-- held and taken, which are the front of its trace, and the engine stands there.
pub record IsCutShort (own : Running) (pick : Pick) (tells : Records → Run) (records : Records) (engine : Engine) (old new : Option (List ℕ)) (held before after : List ℕ) : Type 0 where
  pub taken : List ℕ
  pub split : before ≡ taken ++ after
  pub text : Gains old new (kept_text own pick (tells (cut_after (feeds (held ++ taken)) records)).events)
  pub cut : (tells (cut_after (feeds (held ++ taken)) records)).end ≡ None
  pub front : IsFront old new (kept_text own pick (tells records).events)
  pub stands : engine ≡ (tells (cut_after (feeds (held ++ taken)) records)).state

-- What a run comes to: it ended, and its whole trace was written; or it was cut short by a failed
-- read, a failed write, or want of memory.
abbrev pub Comes : Running → Pick → (Records → Run) → Records → Engine → Option (List ℕ) → Option (List ℕ) → Result Finish Cut → List ℕ → List ℕ → List ℕ → Type 0
Comes own pick tells records engine old new (Ok how) held before after = Tells own pick (tells records) engine old new how
Comes own pick tells records engine old new (Err cut.ReadFault) held before after = IsCutShort own pick tells records engine old new held before after
Comes own pick tells records engine old new (Err cut.Unwritten) held before after = IsFront old new (kept_text own pick (tells records).events)
Comes own pick tells records engine old new (Err cut.Memory) held before after = IsFront old new (kept_text own pick (tells records).events)

-- What a run from its start comes to, whose engine stands somewhere.
abbrev pub ComesWhole : Running → Pick → (Records → Run) → Records → Option (List ℕ) → Option (List ℕ) → Result Finish Cut → List ℕ → List ℕ → Type 0
ComesWhole own pick tells records old new result before after = (engine : Engine) × Comes own pick tells records engine old new result [] before after

-- What a run comes to that did not start: the sink gained what was kept, and the last line.
abbrev pub StartsFaulted : Running → Pick → TurnEnd → List ℕ → Option (List ℕ) → Option (List ℕ) → Result Finish Cut → Type 0
StartsFaulted own pick why text old new (Ok how) =
    (faulted own why 0 0 unstarted ≡ ended how 0 0 unstarted) × Gains old new (text ++ event_text own (event.Finish how 0 0)) × (IsWhole how → ⊥)
StartsFaulted own pick why text old new (Err cut.ReadFault) = ⊥
StartsFaulted own pick why text old new (Err short) = IsFront old new (text ++ kept_text own pick (faulted own why 0 0 unstarted).events)
