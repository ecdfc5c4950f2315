-- The engine with which a run ended: its image is restored to it, and it tells the rest of the whole run.
use Rattle.std.proofs.Common.{◌≡◌, ℕ, ◌+◌, List, Option, Some, refl, sym, ap, subst, ◌∙◌}
use Rattle.dsde_syntax.specs.declared.decl.Model.{Model}
use Rattle.dsde_language.specs.Right.{IsRight}
use Rattle.dsde_language.specs.DeclaredModels.{top_ins, types_of}
use Rattle.dsde_sound_runs.specs.given.system.Program.{system}
use Rattle.dsde_sim_tree.specs.declared.sim.Sim.{Sim}
use Rattle.dsde_sim_tree.specs.Engine.{Engine}
use Rattle.dsde_sim_movers.specs.Stands.{Stands}
use Rattle.dsde_sound_runs.specs.given.sim_starting.Fitting.{FitsTree}
use Rattle.dsde_run_free.specs.given.sim_working.Working.{working}
use Rattle.dsde_image.specs.declared.image.Version.{Version}
use Rattle.dsde_run_free.specs.given.image_rows.Plain.{ImagesAreRestored}
use Rattle.dsde_run_free.specs.given.run.Saved.{IsOf, image_of}
use Rattle.dsde_cli_status.specs.given.trace.pick_Pick.{Pick}
use Rattle.dsde_sound_runs.specs.given.run_meaning.Run.{Run}
use Rattle.dsde_cli.specs.LawCut.{CanGoOn, RunsCanBeCut}
use Rattle.dsde_cli.specs.Standing.{HasStanding, RunsBegin, RunsStand, run_of}
use Rattle.dsde_run_free.specs.given.run.Run.{Running, records_in, run}
use Rattle.dsde_cli.specs.Joined.{IsTakenUp}
use Rattle.dsde_cli.proofs.Cutting.{run-cut}
use Rattle.dsde_cli.proofs.Joining.{cut-joined}

-- an engine by the tree that it has
engine-is : (program : Model) (engine : Engine) (found : Option Sim) → engine.tree ≡ found → working program engine ≡ (let at : Engine = record { tree = found; turn = engine.turn; time = engine.time; taken = engine.taken } in working program at)
engine-is program engine found is = ap (λ (own : Option Sim). let at : Engine = record { tree = own; turn = engine.turn; time = engine.time; taken = engine.taken } in working program at) is

-- The image of an engine that stands is restored to it.
engine-restored : ImagesAreRestored → (program : Model) → IsRight program → (version : Version) (engine : Engine) (tree : Sim) → engine.tree ≡ Some tree → FitsTree program tree → Stands (system program) engine.time tree →
    IsOf program (image_of program version engine tree) (working program engine)
engine-restored restored program right version engine tree is fits stands = record {
  tree = tree;
  fits = restored program right version engine.time tree fits stands;
  is = engine-is program engine (Some tree) is;
}

pub run-is : (own : Running) (bytes : List ℕ) (turns : ℕ) → run own (records_in own bytes) turns ≡ run_of own.model own.spots bytes turns
run-is own bytes turns = refl

pub standing-of : RunsStand → (own : Running) (bytes : List ℕ) (turns more : ℕ) (first : Run) → first ≡ run_of own.model own.spots bytes turns → IsRight own.model → CanGoOn first more → HasStanding own.model turns first.state
standing-of stand own bytes turns more first is right can =
    subst (λ (one : Run). HasStanding own.model turns one.state) (sym is) (stand own.model own.spots bytes turns more right (subst (λ (one : Run). CanGoOn one more) is can))

pub by-standing : ImagesAreRestored → (own : Running) (turns : ℕ) (engine : Engine) → IsRight own.model → (standing : HasStanding own.model turns engine) (version : Version) →
    IsOf own.model (image_of own.model version engine standing.tree) (working own.model engine)
by-standing restored own turns engine right standing version =
    engine-restored restored own.model right version engine standing.tree standing.is standing.fits.fits (record { tree = standing.stands; parts = standing.fits.within })

pub taken-up : RunsBegin → RunsCanBeCut → RunsStand → ImagesAreRestored → (own : Running) (pick : Pick) (bytes : List ℕ) (turns more : ℕ) (first whole : Run) →
    first ≡ run own (records_in own bytes) turns → whole ≡ run own (records_in own bytes) (turns + more) → IsRight own.model → CanGoOn first more → IsTakenUp own pick bytes more first whole
taken-up begin cuts stand restored own pick bytes turns more first whole is whole_is right can =
    let standing = standing-of stand own bytes turns more first (is ∙ run-is own bytes turns) right can in
    let cut = run-cut (system own.model) own.spots (top_ins own.model) (types_of own.model) bytes more cuts turns begin first whole (is ∙ run-is own bytes turns) (whole_is ∙ run-is own bytes (turns + more)) can in
    record {
      tree = standing.tree;
      is = standing.is;
      restored = by-standing restored own turns first.state right standing;
      joined = cut-joined own pick bytes more first whole cut;
    }
