-- An engine has a tree of its program.
use Rattle.std.proofs.Common.{◌≡◌, Option, Ok, subst}
use Rattle.std.specs.Prelude.{IfSome}
use Rattle.dsde_syntax.specs.declared.decl.Model.{Model}
use Rattle.dsde_values.specs.declared.arrival.Arrival.{Arrival}
use Rattle.dsde_sim_starting.specs.given.system.Program.{system}
use Rattle.dsde_sim_tree.specs.declared.step.Step.{Step}
use Rattle.dsde_sim_tree.specs.Engine.{Engine}
use Rattle.dsde_sim_tree.specs.Turn.{advance, start}
use Rattle.dsde_sound_runs.specs.Ends.{Arrives, FitsEngine}
use Rattle.dsde_sound_runs.proofs.Relied.{Laws}
use Rattle.dsde_sound_runs.proofs.Safe.{Safe}
use Rattle.dsde_sound_runs.proofs.Turning.{Behind, Stands, engine-advances, engine-starts}

fits-engine : (model : Model) (engine : Engine) → Stands model engine → FitsEngine model engine
fits-engine model engine stands = record { tree = stands.tree; is = stands.is; fits = stands.fits; root = stands.root }

pub start-fits : (model : Model) → Laws model → (engine : Engine) → (start (system model)).end ≡ Ok engine → FitsEngine model engine
start-fits model laws engine is = fits-engine model engine (subst (Safe (Stands model)) is (engine-starts model laws))

pub advance-fits : (model : Model) → Laws model → (engine : Engine) (head : Option Arrival) (answer : Step × Engine) → FitsEngine model engine → IfSome head (Arrives model) →
    (advance (system model) engine head).end ≡ Ok answer → FitsEngine model answer.1
advance-fits model laws engine head answer fits arrives is =
    fits-engine model answer.1
    (subst (Safe (Behind model)) is (engine-advances model laws engine (record { tree = fits.tree; is = fits.is; fits = fits.fits; root = fits.root }) head arrives))
