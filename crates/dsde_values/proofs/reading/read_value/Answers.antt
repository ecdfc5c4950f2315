use Rattle.std.proofs.Common.{sym, ◌∙◌}
use Rattle.std.proofs.lemmas.Result.{err_from_is_err_and}
use Rattle.dsde_values.proofs.ReadParts.{no_value}
use Rattle.dsde_values.proofs.Typed.{HasType-is}
use Rattle.dsde_values.proofs.reading.read_value.Goals as goal

pub returns-in_err-value-clause-none : goal.returns-in_err-value-clause-none
returns-in_err-value-clause-none c = λ error.
    let p = err_from_is_err_and c.from_residual.result c.from_residual.ensures.1 in
    no_value c.args.types.now c.args.ty.now c.args.bytes.now c.value.new.self _ c.in_err-value.ensures (let e = sym p.1 ∙ error in cc)

pub returns-clause-typed : goal.returns-clause-typed
returns-clause-typed c = (HasType-is c.args.types.now c.in_ok-value.value c.args.ty.now).1 c.in_ok-value.ensures.is

pub returns-clause-only : goal.returns-clause-only
returns-clause-only c = λ value typed begins.
    c.in_ok-value.ensures.only value begins.rest ((HasType-is c.args.types.now value c.args.ty.now).0 typed) begins.ends begins.front
