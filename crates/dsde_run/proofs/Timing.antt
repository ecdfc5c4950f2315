-- The head behind a turn, and the next record, are not before its time.
use Rattle.std.proofs.Common.{◌≡◌, ◌≢◌, ℕ, ◌≤◌, Bool, true, false, refl, arith}
use Rattle.std.specs.Prelude.{Some, IfSome}
use Rattle.dsde_input.specs.Reader.{Reader, least_time}
use Rattle.dsde_sim_tree.specs.Engine.{Engine}
use Rattle.dsde_run.specs.declared.run.Head.{Head}
use Rattle.dsde_run.specs.declared.run.Head.TheVariants.{Wanted, Over, Is}
use Rattle.dsde_run.specs.Run.{Running}
use Rattle.dsde_run.specs.Steps.{ComesBy, Waits, record_of, passed}
use Rattle.dsde_run.specs.Advancing.{IsTimely}

-- the head comes by the in ports of the model
pub waits-comes : (own : Running) (time : ℕ) (reader : Reader) (head : Head) → Waits own time reader head → IfSome (record_of head) (ComesBy own)
waits-comes own time reader Wanted waits = tt
waits-comes own time reader Over waits = tt
waits-comes own time reader (Is arrival) waits = waits.0

-- and not before the time
pub waits-late : (own : Running) (time : ℕ) (reader : Reader) (head : Head) → Waits own time reader head → IfSome (record_of head) (λ arrival. time ≤ arrival.time)
waits-late own time reader Wanted waits = tt
waits-late own time reader Over waits = tt
waits-late own time reader (Is arrival) waits = waits.1

last_within : (reader : Reader) (time last : ℕ) → reader.last ≡ Some last → time ≡ last → time ≤ least_time reader
last_within reader time last is same = rw is (omega (arith, same))

-- Behind a turn the head that is left, or the next record, is not before its time.
pub waits-passed : (own : Running) (time : ℕ) (after : Engine) (reader : Reader) (head : Head) (took_input : Bool) → Waits own time reader head → head ≢ Wanted →
    IsTimely (record_of head) after took_input → Waits own after.time reader (passed head took_input)
waits-passed own time after reader Wanted took_input waits known went = absurd (known refl)
waits-passed own time after reader Over took_input waits known went = tt
waits-passed own time after reader (Is arrival) true waits known went = last_within reader after.time arrival.time waits.2 (went.1 refl)
waits-passed own time after reader (Is arrival) false waits known went = (waits.0, went.0, waits.2)
