-- The image of an engine at work gives this engine.
use Rattle.std.proofs.Common.{◌≡◌, ℕ, List, Option, Some, sym, ap, subst, ◌∙◌}
use Rattle.std.specs.Prelude.{Result, Ok, Err, IfSome}
use Rattle.dsde_syntax.specs.declared.decl.Model.{Model}
use Rattle.dsde_language.specs.Right.{IsRight}
use Rattle.dsde_image_rows.specs.given.system.Program.{system}
use Rattle.dsde_sim_tree.specs.declared.sim.Sim.{Sim}
use Rattle.dsde_sim_tree.specs.Engine.{Engine}
use Rattle.dsde_image_rows.specs.given.sim_movers.Stands.{StandsTree}
use Rattle.dsde_core.specs.given.sim_working.Working.{StandsIf, working}
use Rattle.dsde_core.specs.Standing.{Standing}
use Rattle.dsde_image.specs.declared.image.Image.{Image}
use Rattle.dsde_image.specs.declared.image.Version.{Version}
use Rattle.dsde_image_rows.specs.Walk.{Walked}
use Rattle.dsde_image_rows.specs.Plain.{ImagesAreRestored}
use Rattle.dsde_run.specs.Saved.{Answers, GivesAgain, IsAgain, Says, engine_of, fitting, image_of}
use Rattle.dsde_run.specs.declared.restoring.RestoreError.{RestoreError}
use Rattle.dsde_run.specs.declared.restoring.RestoreError.TheVariants as restore_error

ok-is : {A : Type 0} {x y : A} → (let own : Walked A = Ok x in own ≡ Ok y) → x ≡ y
ok-is is = cc

not-both : {A B : Type 0} {x : A} (why : List ℕ) (found : Walked A) → found ≡ Ok x → found ≡ Err why → B
not-both why found good bad = absurd (cc (good, bad))

engine-is : (program : Model) (version : Version) (engine : Engine) (tree own : Sim) → engine.tree ≡ Some tree → own ≡ tree → working program (engine_of (image_of program version engine tree) own) ≡ working program engine
engine-is program version engine tree own is same =
    ap (λ (found : Option Sim). let at : Engine = record { tree = found; turn = engine.turn; time = engine.time; taken = engine.taken } in working program at)
    (ap (λ (t : Sim). let one : Option Sim = Some t in one) same ∙ sym is)

by-result : (program : Model) (version : Version) (engine : Engine) (tree : Sim) (result : Result Standing RestoreError) → engine.tree ≡ Some tree
    → fitting program (image_of program version engine tree) ≡ Ok tree → Answers program (image_of program version engine tree) result → IsAgain (working program engine) result
by-result program version engine tree (Ok own) is fits answer = answer.is ∙ engine-is program version engine tree answer.tree is (ok-is (sym answer.fits ∙ fits))
by-result program version engine tree (Err restore_error.NotJson) is fits answer = answer
by-result program version engine tree (Err restore_error.WrongForm) is fits answer = answer
by-result program version engine tree (Err (restore_error.DoesNotFit path)) is fits answer = not-both _ (fitting program (image_of program version engine tree)) fits answer
by-result program version engine tree (Err restore_error.Memory) is fits answer = tt

pub gives-again : ImagesAreRestored → (program : Model) → IsRight program → (bytes : List ℕ) (result : Result Standing RestoreError)
    → ((image : Image) → Says bytes image → Answers program image result) → GivesAgain program bytes result
gives-again restored program right bytes result exact version engine tree is fits stands says =
    let own = subst (StandsIf program) is fits in
    let now = subst (λ (found : Option Sim). IfSome found (StandsTree (system program) engine.time)) is stands.stands in
    by-result program version engine tree result is (restored program right version engine.time tree own.fits (record { tree = now; parts = own.within })) (exact (image_of program version engine tree) says)
