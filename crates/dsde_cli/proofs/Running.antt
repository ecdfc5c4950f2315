-- The engine with which a run ends stands.
use Rattle.std.proofs.Common.{◌≡◌, ℕ, zero, suc, ◌+◌, ◌≤◌, min, Bool, true, false, List, Option, Some, None, refl, sym, ap, subst, ◌∙◌, inl, inr, arith}
use Rattle.std.specs.Prelude.{IfSome, if◌then◌else◌, Result, Ok, Err, unwrap_or}
use Rattle.std.proofs.lemmas.Bool.{eqb-true}
use Rattle.dsde_syntax.specs.declared.decl.Model.{Model}
use Rattle.dsde_language.specs.Right.{IsRight}
use Rattle.dsde_language.specs.declared.ids.ModelId.{ModelId}
use Rattle.dsde_values.specs.declared.arrival.Arrival.{Arrival}
use Rattle.dsde_values.specs.declared.arrival.Item.{Item}
use Rattle.dsde_values.specs.declared.path.Path.{Path}
use Rattle.dsde_values.specs.declared.value.Value.{Value}
use Rattle.dsde_values.specs.declared.when.When.{When}
use Rattle.dsde_values.specs.declared.when.When.TheVariants.{At, Never}
use Rattle.dsde_input_records.specs.declared.end.InputEnd.{InputEnd}
use Rattle.dsde_input_records.specs.declared.end.InputEnd.TheVariants as input_end
use Rattle.dsde_input_records.specs.Records.{ComeFrom, Records, end, bad, one}
use Rattle.dsde_formalism.specs.System.{System}
use Rattle.dsde_sound_runs.specs.given.system.Program.{system}
use Rattle.dsde_sim_tree.specs.declared.event.Event.{Event}
use Rattle.dsde_sim_tree.specs.declared.event.Finish.TheVariants as how
use Rattle.dsde_sim_tree.specs.declared.fault.TurnEnd.{TurnEnd}
use Rattle.dsde_sim_tree.specs.declared.fault.TurnEnd.TheVariants as turn_end
use Rattle.dsde_sim_tree.specs.declared.sim.Sim.{Sim}
use Rattle.dsde_sim_tree.specs.declared.sim.TheConstants.{DEEPEST}
use Rattle.dsde_sim_tree.specs.Start as tree
use Rattle.dsde_sim_tree.specs.Tree.{parts}
use Rattle.dsde_values.specs.Path.{root}
use Rattle.dsde_values.specs.When.{IsMoment}
use Rattle.dsde_sound_runs.specs.given.sim_starting.Fitting.{FitsTree}
use Rattle.dsde_sim_movers.specs.Deliveries.{Delivery}
use Rattle.dsde_sim_movers.specs.Names.{IsNamed, NamesParts}
use Rattle.dsde_sim_movers.specs.Turns.{free_turn, turn_movers}
use Rattle.dsde_sim_movers.specs.Stands.{AdvanceStands, IsForward, IsNotBefore, StandsEngine, StandsTree, StartStands}
use Rattle.dsde_cli.specs.InTime.{TurnsAreInTime}
use Rattle.dsde_sim_tree.specs.declared.step.Step.{Step}
use Rattle.dsde_sim_tree.specs.declared.step.Step.TheVariants.{Turned, Quiet}
use Rattle.dsde_sim_tree.specs.declared.step.TheConstants.{MOST_PARTS}
use Rattle.dsde_sim_tree.specs.Engine.{Engine, next_of}
use Rattle.dsde_sim_tree.specs.Turn.{advance, start, turn, turn_time}
use Rattle.dsde_sim_tree.specs.Told.{Told}
use Rattle.dsde_sound_runs.specs.Ends.{AdvanceFits, AllArrive, Arrives, FitsEngine, StartFits}
use Rattle.dsde_sound_runs.specs.given.run_meaning.Run.{Run, Spots, ended, faulted, go, offended, preceded, run, unstarted}
use Rattle.dsde_cli.specs.LawCut.{CanGoOn}
use Rattle.dsde_cli.specs.CutTurns.{Turns, TurnsAreTaken}
use Rattle.dsde_cli.specs.Standing.{HasBegun, HasStanding}
use Rattle.dsde_cli.proofs.StandingKeeping.{advance-keeps, begins}

-- What the laws give, that are called.
pub record Laws (model : Model) : Type 0 where
  pub right : IsRight model
  pub forward : IsForward (system model)
  pub names : NamesParts (system model)
  pub start_fits : StartFits
  pub advance_fits : AdvanceFits
  pub start_stands : StartStands
  pub advance_stands : AdvanceStands
  pub taken : TurnsAreTaken
  pub in_time : TurnsAreInTime
  pub start_named : (own : System) (left : ℕ) (model : ModelId) (args : List Value) (path : Path) (time room rest : ℕ) (sim : Sim) → NamesParts own → (tree.start own left model args path time room).end ≡ Ok (sim, rest) → IsNamed sim
  pub turn_named : (own : System) (sim after : Sim) (number time : ℕ) (items : List Item) (order : List Delivery) → NamesParts own → IsNamed sim → (free_turn own sim number time items order).end ≡ Ok after → IsNamed after
  pub movers : (own : System) (sim : Sim) (number time : ℕ) (items : List Item) → IsNamed sim → turn own sim number time items ≡ free_turn own sim number time items (turn_movers own sim time items)
  pub turn_room : (own : System) (sim after : Sim) (number time : ℕ) (items : List Item) (order : List Delivery) → parts sim ≤ MOST_PARTS → (free_turn own sim number time items order).end ≡ Ok after → parts after ≤ MOST_PARTS
  pub start_room : (own : System) (left : ℕ) (model : ModelId) (args : List Value) (path : Path) (time room rest : ℕ) (sim : Sim) → (tree.start own left model args path time room).end ≡ Ok (sim, rest) → parts sim + rest ≤ room

-- The components of a tree are named, and no more parts are alive than may be.
pub record Holds (sim : Sim) : Type 0 where
  pub named : IsNamed sim
  pub within : parts sim ≤ MOST_PARTS

fault-stops : (spots : Spots) (why : TurnEnd) (turns time more : ℕ) (engine : Engine) → CanGoOn (faulted spots why turns time engine) more → ⊥
fault-stops spots (turn_end.Fault path site kind at) turns time more engine (inl is) = absurd (cc is)
fault-stops spots (turn_end.Fault path site kind at) turns time more engine (inr is) = absurd (cc is.0)
fault-stops spots turn_end.Memory turns time more engine (inl is) = absurd (cc is)
fault-stops spots turn_end.Memory turns time more engine (inr is) = absurd (cc is.0)

fault-state : (spots : Spots) (why : TurnEnd) (turns time : ℕ) (engine : Engine) → (faulted spots why turns time engine).state ≡ engine
fault-state spots (turn_end.Fault path site kind at) turns time engine = refl
fault-state spots turn_end.Memory turns time engine = refl

offence-state : (why : InputEnd) (engine : Engine) → (offended why engine).state ≡ engine
offence-state (input_end.BadLine line) engine = refl
offence-state (input_end.Backwards line) engine = refl
offence-state (input_end.LineTooLong line) engine = refl
offence-state input_end.ReadFault engine = refl
offence-state input_end.Memory engine = refl

turn-late : (next : When) (head : Arrival) (time : ℕ) → turn_time next (Some head) ≡ Some time → time ≤ head.time
turn-late (At at) head time is = let same : min at head.time ≡ time = some-is is in omega (arith, same)
  where
    some-is : {x y : ℕ} → (let own : Option ℕ = Some x in own ≡ Some y) → x ≡ y
    some-is is = cc
turn-late Never head time is = let same : head.time ≡ time = some-is is in omega (arith, same)
  where
    some-is : {x y : ℕ} → (let own : Option ℕ = Some x in own ≡ Some y) → x ≡ y
    some-is is = cc

module _ (model : Model) (laws : Laws model) where
  abbrev meaning : System
  meaning = system model

  started : (number : ModelId) (args : List Value) (rest : ℕ) (sim : Sim) → (tree.start meaning DEEPEST number args root 0 MOST_PARTS).end ≡ Ok (sim, rest) → Holds sim
  started number args rest sim is = record {
    named = laws.start_named meaning DEEPEST number args root 0 MOST_PARTS rest sim laws.names is;
    within = let room = laws.start_room meaning DEEPEST number args root 0 MOST_PARTS rest sim is in omega (arith, room);
  }

  turned : (sim after : Sim) (number time : ℕ) (items : List Item) → Holds sim → (turn meaning sim number time items).end ≡ Ok after → Holds after
  turned sim after number time items holds is =
      let free : (free_turn meaning sim number time items (turn_movers meaning sim time items)).end ≡ Ok after = ap (λ (step : Told Sim). step.end) (sym (laws.movers meaning sim number time items holds.named)) ∙ is in
      record {
        named = laws.turn_named meaning sim after number time items (turn_movers meaning sim time items) laws.names holds.named free;
        within = laws.turn_room meaning sim after number time items (turn_movers meaning sim time items) holds.within free;
      }

  -- An engine between two turns, of which so many at most are done.
  pub record Keeps (most : ℕ) (engine : Engine) : Type 0 where
    pub fits : FitsEngine model engine
    pub stands : StandsEngine meaning engine
    pub holds : IfSome engine.tree Holds
    pub moment : IsMoment engine.time
    pub taken : engine.taken ≤ engine.turn
    pub bounded : engine.turn ≤ most

  begin-keeps : (engine : Engine) → (start meaning).end ≡ Ok engine → Keeps 0 engine
  begin-keeps engine is =
      let begin = begins meaning Holds started turned engine is in
      record {
        fits = laws.start_fits model engine laws.right is;
        stands = laws.start_stands meaning laws.forward engine is;
        holds = subst (λ (e : Engine). IfSome e.tree Holds) begin.is begin.holds;
        moment = subst (λ (e : Engine). IsMoment e.time) begin.is (omega arith);
        taken = subst (λ (e : Engine). e.taken ≤ e.turn) begin.is (omega arith);
        bounded = subst (λ (e : Engine). e.turn ≤ 0) begin.is (omega arith);
      }

  -- its tree, and the head of the input
  fits-if : {engine : Engine} → FitsEngine model engine → IfSome engine.tree (FitsTree model)
  fits-if fits = subst (λ (found : Option Sim). IfSome found (FitsTree model)) (sym fits.is) fits.fits

  early : (head : Option Arrival) → IfSome head (Arrives model) → IfSome head (λ (own : Arrival). IsMoment own.time)
  early None arrives = tt
  early (Some head) arrives = arrives.early

  step-keeps : (most : ℕ) (engine : Engine) (head : Option Arrival) (took : Bool) (after : Engine) → Keeps most engine → IfSome head (Arrives model) → IsNotBefore engine.time head →
      (advance meaning engine head).end ≡ Ok (Turned took, after) → Keeps (suc most) after
  step-keeps most engine head took after keeps arrives late is =
      let turns = laws.taken meaning engine head took after is in
      record {
        fits = laws.advance_fits model engine head (Turned took, after) laws.right keeps.fits arrives is;
        stands = laws.advance_stands meaning laws.forward engine head (Turned took, after) keeps.stands late is;
        holds = advance-keeps meaning Holds started turned engine head (Turned took) after keeps.holds is;
        moment = subst IsMoment (sym turns.at) (laws.in_time model engine head turns.time (fits-if keeps.fits) (early head arrives) turns.next);
        taken = by-took took (omega (arith, turns.counted)) turns.taken;
        bounded = omega (arith, turns.counted, keeps.bounded);
      }
    where
      by-took : (took : Bool) → after.turn ≡ suc engine.turn → after.taken ≡ engine.taken + (if took then 1 else 0) → after.taken ≤ after.turn
      by-took true counted taken = omega (arith, counted, taken, keeps.taken)
      by-took false counted taken = omega (arith, counted, taken, keeps.taken)

  -- the records behind a turn
  behind-one : (engine : Engine) (head : Arrival) (later : Records) (took : Bool) (after : Engine) → ComeFrom engine.time (one head later) → Turns engine (Some head) took after →
      ComeFrom after.time (if took then later else one head later)
  behind-one engine head later true after come turns =
      let same : head.time ≡ turns.time = eqb-true head.time turns.time (sym turns.takes) in
      subst (λ (time : ℕ). ComeFrom time later) (same ∙ sym turns.at) come.1
  behind-one engine head later false after come turns = (omega (arith, turn-late (next_of engine) head turns.time turns.next, turns.at), come.1)

  arrive-if : (took : Bool) (head : Arrival) (later : Records) → Arrives model head → AllArrive model later → AllArrive model (if took then later else one head later)
  arrive-if true head later arrives all = all
  arrive-if false head later arrives all = (arrives, all)

  more-keeps : (most : ℕ) (more : ℕ) (engine : Engine) → Keeps most engine → most ≤ more → Keeps more engine
  more-keeps most more engine keeps within = record {
    fits = keeps.fits;
    stands = keeps.stands;
    holds = keeps.holds;
    moment = keeps.moment;
    taken = keeps.taken;
    bounded = omega (arith, keeps.bounded, within);
  }

  module _ (spots : Spots) where
    by-end : (most : ℕ) (answer : Result (Step × Engine) TurnEnd) (events : List Event) (later : Bool → Engine → Run) (engine : Engine) (number moment : ℕ) → Keeps most engine →
        ((took : Bool) (after : Engine) → (let own : Result (Step × Engine) TurnEnd = Ok (Turned took, after) in answer ≡ own) → Keeps most (later took after).state) →
        (let run : Run = preceded events (elim answer [
          | Ok own ↦ elim own.0 [ Turned took_input ↦ later took_input own.1 | Quiet ↦ ended how.Quiet engine.turn engine.time engine ]
          | Err why ↦ faulted spots why number moment engine
        ]) in Keeps most run.state)
    by-end most (Ok (Turned took, after)) events later engine number moment keeps goes = goes took after refl
    by-end most (Ok (Quiet, after)) events later engine number moment keeps goes = keeps
    by-end most (Err why) events later engine number moment keeps goes = subst (Keeps most) (sym (fault-state spots why number moment engine)) keeps

    pub go-keeps : (turns most : ℕ) (records : Records) (engine : Engine) → Keeps most engine → AllArrive model records → ComeFrom engine.time records →
        Keeps (most + turns) (go meaning spots turns records engine).state
    go-keeps zero most records engine keeps arrive come = more-keeps most (most + zero) engine keeps (omega arith)
    go-keeps (suc turns) most (bad why) engine keeps arrive come = subst (Keeps (most + suc turns)) (sym (offence-state why engine)) (more-keeps most (most + suc turns) engine keeps (omega arith))
    go-keeps (suc turns) most end engine keeps arrive come =
        by-end (most + suc turns) (advance meaning engine None).end (advance meaning engine None).events (λ took after. go meaning spots turns end after) engine (engine.turn + 1) (unwrap_or (turn_time (next_of engine) None) engine.time)
        (more-keeps most (most + suc turns) engine keeps (omega arith))
        (λ took after is.
        let same : suc most + turns ≡ most + suc turns = omega arith in
        subst (λ (n : ℕ). Keeps n (go meaning spots turns end after).state) same
        (go-keeps turns (suc most) end after (step-keeps most engine None took after keeps tt tt is) tt tt))
    go-keeps (suc turns) most (one head later) engine keeps arrive come =
        by-end (most + suc turns) (advance meaning engine (Some head)).end (advance meaning engine (Some head)).events (λ took after. go meaning spots turns (if took then later else one head later) after) engine (engine.turn + 1)
        (unwrap_or (turn_time (next_of engine) (Some head)) engine.time)
        (more-keeps most (most + suc turns) engine keeps (omega arith))
        (λ took after is.
        let same : suc most + turns ≡ most + suc turns = omega arith in
        subst (λ (n : ℕ). Keeps n (go meaning spots turns (if took then later else one head later) after).state) same
        (go-keeps turns (suc most) (if took then later else one head later) after (step-keeps most engine (Some head) took after keeps arrive.0 come.0 is)
        (arrive-if took head later arrive.0 arrive.1) (behind-one engine head later took after come (laws.taken meaning engine (Some head) took after is))))

    standing-of : (turns : ℕ) (engine : Engine) → Keeps turns engine → HasStanding model turns engine
    standing-of turns engine keeps =
        let tree = keeps.fits.tree in
        let holds : Holds tree = subst (λ (found : Option Sim). IfSome found Holds) keeps.fits.is keeps.holds in
        record {
          tree = tree;
          is = keeps.fits.is;
          fits = record { fits = keeps.fits.fits; within = holds.within };
          stands = subst (λ (found : Option Sim). IfSome found (StandsTree meaning engine.time)) keeps.fits.is keeps.stands;
          moment = keeps.moment;
          taken = keeps.taken;
          bounded = keeps.bounded;
        }

    by-start : (answer : Result Engine TurnEnd) (events : List Event) (turns more : ℕ) (records : Records) → AllArrive model records → ComeFrom 0 records →
        ((engine : Engine) → (let own : Result Engine TurnEnd = Ok engine in answer ≡ own) → Keeps 0 engine × (engine.time ≡ 0)) →
        (let run : Run = preceded events (elim answer [ Ok engine ↦ go meaning spots turns records engine | Err why ↦ faulted spots why 0 0 unstarted ]) in CanGoOn run more → HasStanding model turns run.state)
    by-start (Ok engine) events turns more records arrive come begin can =
        let keeps = begin engine refl in
        let same : 0 + turns ≡ turns = omega arith in
        standing-of turns (go meaning spots turns records engine).state
        (subst (λ (n : ℕ). Keeps n (go meaning spots turns records engine).state) same (go-keeps turns 0 records engine keeps.0 arrive (subst (λ (time : ℕ). ComeFrom time records) (sym keeps.1) come)))
    by-start (Err why) events turns more records arrive come begin can = absurd (fault-stops spots why 0 0 more unstarted can)

    pub run-stands : (records : Records) (turns more : ℕ) → AllArrive model records → ComeFrom 0 records → CanGoOn (run meaning spots records turns) more → HasStanding model turns (run meaning spots records turns).state
    run-stands records turns more arrive come can =
        by-start (start meaning).end (start meaning).events turns more records arrive come
        (λ engine is. (begin-keeps engine is, (let begin = begins meaning Holds started turned engine is in ap (λ (e : Engine). e.time) (sym begin.is)))) can

-- An engine that starts has done nothing.
pub run-begins : (system : System) (engine : Engine) → (start system).end ≡ Ok engine → HasBegun engine
run-begins system engine is =
    let begin = begins system (λ sim. Unit {0}) (λ model args rest own is. tt) (λ own after number time items here is. tt) engine is in
    record { turn = ap (λ (e : Engine). e.turn) (sym begin.is); time = ap (λ (e : Engine). e.time) (sym begin.is); taken = ap (λ (e : Engine). e.taken) (sym begin.is) }
