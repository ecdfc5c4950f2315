use Rattle.std.proofs.Common.{◌∙◌, ap, sym}
use Rattle.std.specs.Prelude.{bytes_eq}
use Rattle.dsde_io.proofs.UnderNames.{none_more}
use Rattle.dsde_io.proofs.entries.place_of.Goals as goal

pub loop-place-preserved : goal.loop-place-preserved
loop-place-preserved c =
    none_more _ _ c.index-contents-place.result _ c.loop-place-test.true c.index-contents-place.is (ap (λ name. bytes_eq name c.args.name.now) (sym c.as_slice.ensures) ∙ sym c.if-eq.ensures) c.loop-place.invariant
