use Rattle.std.proofs.Common.{◌≡◌, Some, refl, inl, subst}
use Rattle.std.specs.Prelude.{IfSome}
use Rattle.dsde_run_free.specs.given.run.SavedRuns.{image_at}
use Rattle.dsde_cli.proofs.CliStoring.{text-saved, text-stored}
use Rattle.dsde_cli.proofs.save.store_image.Goals as goal

pub returns-in-Ok-clause-stored : goal.returns-in-Ok-clause-stored
returns-in-Ok-clause-stored g c = λ well.
    text-stored c.args.name.now c.in-Ok.text (image_at c.args.core.now.program c.args.core.now.engine) (g.F.Shelf.held c.store_text.new.shelf)
    (text-saved c.args.core.now.program c.args.core.now.engine c.in-Ok.text c.requires c.in-Ok.ensures.text c.in-Ok.ensures.read c.in-Ok.ensures.says)
    (subst (λ text. IfSome (g.F.Shelf.held c.store_text.new.shelf) (λ map. map c.args.name.now ≡ Some text)) c.as_slice.ensures (c.store_text.ensures.stored well))

pub returns-in-Err-clause-kept : goal.returns-in-Err-clause-kept
returns-in-Err-clause-kept g c = inl refl
