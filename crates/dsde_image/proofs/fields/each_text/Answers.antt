use Rattle.std.proofs.Common.{ℕ, List, Option, Result, Err, sym, subst, ◌∙◌}
use Rattle.std.proofs.lemmas.Result.{err_from_is_err_and}
use Rattle.serde_json.specs.Find.{as_str}
use Rattle.dsde_image.specs.Form.{GivesIt}
use Rattle.dsde_image.specs.declared.reading.ReadImage.{ReadImage}
use Rattle.dsde_image.proofs.Each.{goes-on, fails, is-done}
use Rattle.dsde_image.proofs.fields.each_text.Goals as goal

pub returns-in_err-text_of : goal.returns-in_err-text_of
returns-in_err-text_of c =
    let p = err_from_is_err_and c.from_residual.result c.from_residual.ensures.1 in
    let read = subst (λ (own : Option (List ℕ)). let it : Result (List ℕ) ReadImage = Err c.in_err-text_of.field-0.0 in GivesIt it own) c.as_str.ensures c.in_err-text_of.ensures in
    rw (p.1, p.2) (fails as_str c.loop-item.texts c.args.items.now c.loop-item.item-index c.item-item.result _ c.in_err-text_of.field-0.0 c.loop-item-test.true c.item-item.is read c.loop-item.invariant)

pub returns : goal.returns
returns c = is-done as_str c.loop-item.texts c.args.items.now c.loop-item.item-index _ c.loop-item-test.false c.loop-item.invariant

pub loop-item-preserved : goal.loop-item-preserved
loop-item-preserved c =
    rw c.in_ok-push.ensures.ok
    (goes-on as_str c.loop-item.texts c.args.items.now c.loop-item.item-index c.item-item.result c.in_ok-text_of.field-0 _ c.loop-item-test.true c.item-item.is (sym c.as_str.ensures ∙ c.in_ok-text_of.ensures) c.loop-item.invariant)
