-- A body in which nothing is wrong, part by part.
use Rattle.std.proofs.Common.{◌≡◌, ℕ, ◌≤◌, max, true, false, List, [], ◌∷◌, map, Result, Ok, sym, ap, arith}
use Rattle.dsde_language.specs.given.syntax.decl_Body.{Body}
use Rattle.dsde_language.specs.given.values.types_Ty_TheVariants as ty
use Rattle.dsde_language.specs.declared.known.Around.{Around}
use Rattle.dsde_language.specs.declared.seen.Seen.{Seen}
use Rattle.dsde_language.specs.declared.signatures.Port.{Port}
use Rattle.dsde_language.specs.declared.wrong.Wrong.{Wrong}
use Rattle.dsde_language.specs.Steps.{◌>>=◌}
use Rattle.dsde_language.specs.Types.{wanted}
use Rattle.dsde_language.specs.Judge.{Scope, judge}
use Rattle.dsde_language.specs.Blocks.{Passed, Walk, walk_all, state_of, inputs_seen, phase_of, moving, advance_of, move_of, inputs_of, phases_of, external_of, body_of}
use Rattle.dsde_sound_expressions.specs.lemmas.Steps.{ok-is, Went, went}
use Rattle.dsde_sound_expressions.specs.lemmas.Types.{wanted-is}

-- Statements are no lower than what came before them.
pub walk-high : (walks : List Walk) (height : ℕ) (scope : Scope) (passed : Passed) → walk_all walks height scope ≡ Ok passed → height ≤ passed.height
walk-high [] height scope passed is =
    let own : Passed = record { scope = scope; height = height } in
    let same : height ≡ passed.height = ap (λ (p : Passed). p.height) (ok-is own passed is) in
    omega (arith, same)
walk-high (walk ∷ walks) height scope passed is =
    let one = went (walk scope) (λ own. walk_all walks (max height own.height) own.scope) passed is in
    let rest = walk-high walks (max height one.value.height) one.value.scope passed one.next in
    omega (arith, rest)

module _ (around : Around) (at : ℕ) (ports : List Port) (body : Body) where
  -- the parts of a body, over these names
  pub record BodyJudged (scope : Scope) (passed : Passed) : Type 0 where
    pub states : Passed
    pub states_are : walk_all (map (state_of around ports) body.states) 0 scope ≡ Ok states
    pub states_low : states.height ≤ passed.height
    pub last : states.scope ≡ passed.scope
    pub advance : Seen
    pub advance_is : judge around body.advance states.scope ≡ Ok advance
    pub advance_of : advance.ty ≡ ty.Opt ty.Int
    pub advance_low : advance.height ≤ passed.height
    pub output : ℕ
    pub output_is : phase_of around ports body.output states.scope ≡ Ok output
    pub output_low : output ≤ passed.height
    pub internal : ℕ
    pub internal_is : phase_of (moving around false) [] body.internal states.scope ≡ Ok internal
    pub internal_low : internal ≤ passed.height
    pub external : ℕ
    pub external_is : phase_of (moving around true) [] body.external (inputs_seen states.scope ports) ≡ Ok external
    pub external_low : external ≤ passed.height
    pub confluent : ℕ
    pub confluent_is : phase_of (moving around true) [] body.confluent (inputs_seen states.scope ports) ≡ Ok confluent
    pub confluent_low : confluent ≤ passed.height

  abbrev whole_body : Scope → ℕ → Passed
  whole_body scope height = record { scope = scope; height = height }

  abbrev with_phases : Passed → ℕ → ℕ → Result Passed Wrong
  with_phases states advance phases = external_of at body >>= (λ _. Ok (whole_body states.scope (max states.height (max advance phases))))

  abbrev with_advance : Passed → ℕ → Result Passed Wrong
  with_advance states advance = phases_of around ports body states.scope >>= with_phases states advance

  abbrev with_states : Passed → Result Passed Wrong
  with_states states = advance_of around body.advance states.scope >>= with_advance states

  abbrev with_external : Scope → ℕ → Result ℕ Wrong
  with_external scope external = move_of around true body.confluent scope >>= (λ confluent. Ok (max external confluent))

  abbrev with_internal : Scope → ℕ → ℕ → Result ℕ Wrong
  with_internal scope output internal = inputs_of around body (inputs_seen scope ports) >>= (λ inputs. Ok (max (max output internal) inputs))

  abbrev with_output : Scope → ℕ → Result ℕ Wrong
  with_output scope output = move_of around false body.internal scope >>= with_internal scope output

  pub body-judged : (scope : Scope) (passed : Passed) → body_of around at ports body scope ≡ Ok passed → BodyJudged scope passed
  body-judged scope passed is =
      let one : Went (walk_all (map (state_of around ports) body.states) 0 scope) with_states passed = went (walk_all (map (state_of around ports) body.states) 0 scope) with_states passed is in
      let states : Passed = one.value in
      let two : Went (advance_of around body.advance states.scope) (with_advance states) passed = went (advance_of around body.advance states.scope) (with_advance states) passed one.next in
      let three : Went (phases_of around ports body states.scope) (with_phases states two.value) passed = went (phases_of around ports body states.scope) (with_phases states two.value) passed two.next in
      let four = went (external_of at body) (λ _. Ok (whole_body states.scope (max states.height (max two.value three.value)))) passed three.next in
      let same : whole_body states.scope (max states.height (max two.value three.value)) ≡ passed = ok-is (whole_body states.scope (max states.height (max two.value three.value))) passed four.next in
      let height : max states.height (max two.value three.value) ≡ passed.height = ap (λ (p : Passed). p.height) same in
      let seen = went (judge around body.advance states.scope) (λ seen. wanted (ty.Opt ty.Int) seen >>= (λ _. Ok seen.height)) two.value two.first in
      let test = went (wanted (ty.Opt ty.Int) seen.value) (λ _. Ok seen.value.height) two.value seen.next in
      let advance : seen.value.height ≡ two.value = ok-is seen.value.height two.value test.next in
      let output : Went (phase_of around ports body.output states.scope) (with_output states.scope) three.value = went (phase_of around ports body.output states.scope) (with_output states.scope) three.value three.first in
      let internal : Went (move_of around false body.internal states.scope) (with_internal states.scope output.value) three.value = went (move_of around false body.internal states.scope) (with_internal states.scope output.value) three.value output.next in
      let inputs = went (inputs_of around body (inputs_seen states.scope ports)) (λ inputs. Ok (max (max output.value internal.value) inputs)) three.value internal.next in
      let phases : max (max output.value internal.value) inputs.value ≡ three.value = ok-is (max (max output.value internal.value) inputs.value) three.value inputs.next in
      let external : Went (move_of around true body.external (inputs_seen states.scope ports)) (with_external (inputs_seen states.scope ports)) inputs.value = went (move_of around true body.external (inputs_seen states.scope ports)) (with_external (inputs_seen states.scope ports)) inputs.value inputs.first in
      let confluent = went (move_of around true body.confluent (inputs_seen states.scope ports)) (λ confluent. Ok (max external.value confluent)) inputs.value external.next in
      let both : max external.value confluent.value ≡ inputs.value = ok-is (max external.value confluent.value) inputs.value confluent.next in
      record {
        states = states;
        states_are = one.first;
        states_low = omega (arith, height);
        last = ap (λ (p : Passed). p.scope) same;
        advance = seen.value;
        advance_is = seen.first;
        advance_of = sym (wanted-is (ty.Opt ty.Int) seen.value test.value test.first);
        advance_low = omega (arith, height, advance);
        output = output.value;
        output_is = output.first;
        output_low = omega (arith, height, phases);
        internal = internal.value;
        internal_is = internal.first;
        internal_low = omega (arith, height, phases);
        external = external.value;
        external_is = external.first;
        external_low = omega (arith, height, phases, both);
        confluent = confluent.value;
        confluent_is = confluent.first;
        confluent_low = omega (arith, height, phases, both);
      }
