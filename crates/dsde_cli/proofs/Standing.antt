-- The records that a run has not taken are those behind what its engine has taken.
use Rattle.std.proofs.Common.{◌≡◌, ℕ, zero, suc, ◌+◌, ◌≤◌, max, min, Bool, true, false, List, [], ◌∷◌, Option, Some, None, refl, sym, ap, ◌∙◌, arith}
use Rattle.std.specs.Prelude.{if◌then◌else◌, Ok, Err, unwrap_or}
use Rattle.std.proofs.lemmas.Bool.{eqb-true}
use Rattle.dsde_values.specs.declared.arrival.Arrival.{Arrival}
use Rattle.dsde_values.specs.declared.types.Field.{Field}
use Rattle.dsde_values.specs.declared.types.Types.{Types}
use Rattle.dsde_values.specs.declared.when.When.{When}
use Rattle.dsde_values.specs.declared.when.When.TheVariants.{At, Never}
use Rattle.dsde_input_records.specs.Lines.{lines}
use Rattle.dsde_input_records.specs.Records.{Records, end, bad, one, next_number, records_of}
use Rattle.dsde_formalism.specs.System.{System}
use Rattle.dsde_sim_tree.specs.declared.step.Step.TheVariants.{Turned, Quiet}
use Rattle.dsde_sim_tree.specs.Engine.{Engine, next_of}
use Rattle.dsde_sim_tree.specs.Turn.{advance, turn_time}
use Rattle.dsde_sound_runs.specs.given.run_meaning.Run.{records_in}
use Rattle.dsde_cli.specs.LawCut.{Standing, standing, reached, records_behind}
use Rattle.dsde_cli.specs.CutTurns.{Turns}
use Rattle.dsde_cli.proofs.CutTurning.{Answer, took_turn, turn-is}
use Rattle.dsde_input.specs.lemmas.Flooring.{no-end, passed, opened, floored, unfloored, passed-skipped, passed-more}

module _ (system : System) (ports : List Field) (types : Types) (bytes : List ℕ) where
  -- These records are what is left behind those that the engine has taken, also with the floor at its time.
  record Stands (engine : Engine) (rest : Records) : Type 0 where
    all : List (List ℕ)
    number : ℕ
    last : Option ℕ
    at : passed ports types engine.taken (lines bytes) 0 None ≡ Some (all, number, last)
    plain : rest ≡ records_of ports types 0 all number last
    floor : rest ≡ records_of ports types engine.time all number last

  turn-late : (next : When) (head : Arrival) (time : ℕ) → turn_time next (Some head) ≡ Some time → time ≤ head.time
  turn-late (At at) head time is = let same : min at head.time ≡ time = some-is is in omega (arith, same)
    where
      some-is : {x y : ℕ} → (let own : Option ℕ = Some x in own ≡ Some y) → x ≡ y
      some-is is = cc
  turn-late Never head time is = let same : head.time ≡ time = some-is is in omega (arith, same)
    where
      some-is : {x y : ℕ} → (let own : Option ℕ = Some x in own ≡ Some y) → x ≡ y
      some-is is = cc

  -- a turn with the end of the records as head
  stands-end : (engine after : Engine) (took : Bool) → Stands engine end → Turns engine None took after → Stands after end
  stands-end engine after took stands turns =
      let untaken : after.taken ≡ engine.taken = turns.taken ∙ ap (λ (b : Bool). engine.taken + (if b then 1 else 0)) turns.takes ∙ plus-none engine.taken in
      by-lines stands.all (ap (λ (count : ℕ). passed ports types count (lines bytes) 0 None) untaken ∙ stands.at) stands.plain
    where
      plus-none : (n : ℕ) → n + 0 ≡ n
      plus-none n = omega arith

      by-lines : (all : List (List ℕ)) → passed ports types after.taken (lines bytes) 0 None ≡ Some (all, stands.number, stands.last) → end ≡ records_of ports types 0 all stands.number stands.last → Stands after end
      by-lines [] at plain = record { all = []; number = stands.number; last = stands.last; at = at; plain = plain; floor = refl }
      by-lines (line ∷ all) at plain = absurd (no-end ports types _ _ plain)

  stands-one : (engine after : Engine) (took : Bool) (head : Arrival) (later : Records) → Stands engine (one head later) → Turns engine (Some head) took after → Stands after (if took then later else one head later)
  stands-one engine after true head later stands turns =
      let own = opened ports types stands.all stands.number stands.last head later (sym stands.plain) in
      let same : head.time ≡ turns.time = eqb-true head.time turns.time (sym turns.takes) in
      let taken : after.taken ≡ suc engine.taken = omega (arith, turns.taken) in
      record {
        all = own.rest;
        number = next_number stands.number;
        last = Some head.time;
        at = ap (λ (count : ℕ). passed ports types count (lines bytes) 0 None) taken
            ∙ passed-more ports types engine.taken (lines bytes) 0 None stands.all own.rest own.line stands.number stands.last head stands.at own.is (own.reads (max (unwrap_or stands.last 0) 0) (omega (arith, own.late)));
        plain = own.behind;
        floor = own.behind ∙ sym (unfloored ports types own.rest (next_number stands.number) after.time head.time (omega (arith, same, turns.at)));
      }
  stands-one engine after false head later stands turns =
      let taken : after.taken ≡ engine.taken = omega (arith, turns.taken) in
      record {
        all = stands.all;
        number = stands.number;
        last = stands.last;
        at = ap (λ (count : ℕ). passed ports types count (lines bytes) 0 None) taken ∙ stands.at;
        plain = stands.plain;
        floor = sym (floored ports types stands.all stands.number stands.last head later after.time (omega (arith, turn-late (next_of engine) head turns.time turns.next, turns.at)) (sym stands.plain));
      }

  -- one turn, by what it comes to
  one-turn : (answer : Answer) (engine : Engine) (rest : Records) (later : Bool → Engine → Standing) → Stands engine rest →
      ((took : Bool) (after : Engine) → answer ≡ took_turn took after → Stands (later took after).engine (later took after).rest) →
      (let place : Standing = elim answer [ Ok own ↦ elim own.0 [ Turned took_input ↦ later took_input own.1 | Quiet ↦ standing engine rest ] | Err why ↦ standing engine rest ] in Stands place.engine place.rest)
  one-turn (Ok (Turned took, after)) engine rest later here goes = goes took after refl
  one-turn (Ok (Quiet, after)) engine rest later here goes = here
  one-turn (Err why) engine rest later here goes = here

  stands : (turns : ℕ) (records : Records) (engine : Engine) → Stands engine records → Stands (reached system turns records engine).engine (reached system turns records engine).rest
  stands zero records engine here = here
  stands (suc turns) (bad why) engine here = here
  stands (suc turns) end engine here =
      one-turn (advance system engine None).end engine end (λ took after. reached system turns end after) here
      (λ took after is. stands turns end after (stands-end engine after took here (turn-is system engine None took after is)))
  stands (suc turns) (one head later) engine here =
      one-turn (advance system engine (Some head)).end engine (one head later) (λ took after. reached system turns (if took then later else one head later) after) here
      (λ took after is. stands turns (if took then later else one head later) after (stands-one engine after took head later here (turn-is system engine (Some head) took after is)))

  pub rest-is : (turns : ℕ) (engine : Engine) → engine.taken ≡ 0 → engine.time ≡ 0 →
      records_behind ports types bytes (reached system turns (records_in ports types bytes) engine).engine ≡ Ok (reached system turns (records_in ports types bytes) engine).rest
  rest-is turns engine none early =
      let place = reached system turns (records_in ports types bytes) engine in
      let own = stands turns (records_in ports types bytes) engine (record {
        all = lines bytes;
        number = 0;
        last = None;
        at = ap (λ (count : ℕ). passed ports types count (lines bytes) 0 None) none;
        plain = refl;
        floor = ap (λ (time : ℕ). records_of ports types time (lines bytes) 0 None) (sym early);
      }) in
      passed-skipped ports types place.engine.taken (lines bytes) 0 None (own.all, own.number, own.last) place.engine.time own.at
      ∙ ap Ok (sym own.floor)
