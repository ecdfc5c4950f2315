-- The components of a network move with what its links carry.
use Rattle.std.proofs.Common.{◌≡◌, ℕ, List, [], ◌∷◌, ◌++◌, map, refl, ap, ◌∙◌, Result, Ok, Err}
use Rattle.dsde_sim_changing.specs.given.sim_gathering.Boxes.{box_of}
use Rattle.dsde_values.specs.declared.path.Path.{Path}
use Rattle.dsde_sim_tree.specs.given.formalism.System.{System}
use Rattle.dsde_sim_tree.specs.given.structure.plan_Link.{Link}
use Rattle.dsde_sim_tree.specs.given.structure.sources_Sources.{Sources}
use Rattle.dsde_sim_tree.specs.declared.event.Event.{Event}
use Rattle.dsde_sim_tree.specs.declared.fault.TurnEnd.{TurnEnd}
use Rattle.dsde_sim_tree.specs.Told.{Told, telling, ◌then◌}
use Rattle.dsde_sim_tree.specs.declared.sim.Kid.{Kid}
use Rattle.dsde_sim_tree.specs.Opened.{kid_move-opens}
use Rattle.dsde_sim_tree.specs.Move.{kid_move, moved}
use Rattle.dsde_sim_moving.specs.Moving.{kid_with, kids_with}

-- a step, and what follows in another spelling
then-same : {A B : Type 0} (events : List Event) (end : Result A TurnEnd) (next other : A → Told B) → ((value : A) → next value ≡ other value) →
    (let step : Told A = record { events = events; end = end } in (step then next) ≡ (step then other))
then-same events (Ok value) next other same = ap (telling events) (same value)
then-same events (Err end) next other same = refl

module _ (system : System) where
  -- components move with what their links carry
  pub kids-moved : (kids : List Kid) (path : Path) (time : ℕ) (links : List Link) (sources : Sources) (room : ℕ) (done : List Kid) →
      moved (map (kid_move system) kids) path time links sources room done
      ≡ kids_with system kids (map (box_of system links sources) kids) path time room done
  kids-moved [] path time links sources room done = refl
  kids-moved (kid ∷ kids) path time links sources room done =
      let step = kid_with system kid path time (box_of system links sources kid) room in
      ap (λ (own : Told (Kid × ℕ)). own then (λ (one : Kid × ℕ). moved (map (kid_move system) kids) path time links sources one.1 (done ++ one.0 ∷ []))) (kid_move-opens system kid path time links sources room)
      ∙ then-same step.events step.end
      (λ (one : Kid × ℕ). moved (map (kid_move system) kids) path time links sources one.1 (done ++ one.0 ∷ []))
      (λ (one : Kid × ℕ). kids_with system kids (map (box_of system links sources) kids) path time one.1 (done ++ one.0 ∷ []))
      (λ one. kids-moved kids path time links sources one.1 (done ++ one.0 ∷ []))
