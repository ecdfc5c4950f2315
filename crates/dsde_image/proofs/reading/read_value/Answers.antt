use Rattle.std.proofs.lemmas.Result.{err_from_is_err_and}
use Rattle.dsde_image.proofs.Values.{ok-image, ok-is, ok-only, value-other, not-read, is-json}
use Rattle.dsde_image.proofs.reading.read_value.Goals as goal

pub returns-in_err-image-clause-not_json : goal.returns-in_err-image-clause-not_json
returns-in_err-image-clause-not_json c =
    let p = err_from_is_err_and c.from_residual.result c.from_residual.ensures.1 in
    rw (p.1, p.2) (is-json _ c.in_err-image.field-0.0 c.in_err-image.ensures)

pub returns-in_err-image-clause-wrong_form : goal.returns-in_err-image-clause-wrong_form
returns-in_err-image-clause-wrong_form c =
    let p = err_from_is_err_and c.from_residual.result c.from_residual.ensures.1 in
    rw (p.1, p.2) (not-read _ c.in_err-image.field-0.0 c.in_err-image.ensures)

pub returns-clause-image : goal.returns-clause-image
returns-clause-image c = ok-image _ c.in_ok-image.image c.in_ok-image.ensures c.with_names.result c.with_names.ensures.same c.with_names.ensures.names

pub returns-clause-is : goal.returns-clause-is
returns-clause-is c = ok-is _ c.in_ok-image.image c.in_ok-image.ensures c.with_names.result c.with_names.ensures.same

pub returns-clause-only : goal.returns-clause-only
returns-clause-only c = ok-only _ c.in_ok-image.image c.in_ok-image.ensures c.with_names.result c.with_names.ensures.same

pub returns-clause-wrong_form : goal.returns-clause-wrong_form
returns-clause-wrong_form c = λ wrong. value-other _ c.in_ok-image.image c.in_ok-image.ensures (c.with_names.ensures.none wrong)
