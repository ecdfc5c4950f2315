use Rattle.std.proofs.Common.{◌++◌, codes, ap, ◌∙◌}
use Rattle.std.proofs.lemmas.Result.{IfOk-weaker}
use Rattle.dsde_values.specs.Value.{HasType, spelling}
use Rattle.dsde_values.specs.declared.value.Value.{Value}
use Rattle.dsde_trace_words.specs.lemmas.Behind.{behind-inverts, not-behind}
use Rattle.dsde_trace_words.proofs.passed.value_at.Goals as goal
use Rattle.std.specs.Prelude.{None}

pub returns-in_default-behind : goal.returns-in_default-behind
returns-in_default-behind c =
    behind-inverts (λ value. HasType c.args.types.now value c.args.port.now.ty) (λ (value : Value). codes " " ++ spelling c.args.types.now value) c.args.text.now c.args.port.now.name c.in-Some.rest.now None
    (c.in-Some.ensures.some ∙ ap (λ name. name ++ c.in-Some.rest.now) c.as_slice.ensures)
    (not-behind (λ value. HasType c.args.types.now value c.args.port.now.ty) (spelling c.args.types.now) c.in-Some.rest.now (codes " ") c.in_default-behind.ensures.none)

pub returns : goal.returns
returns c =
    IfOk-weaker c.value_of.result _ _
    (λ found inverts.
    behind-inverts (λ value. HasType c.args.types.now value c.args.port.now.ty) (λ (value : Value). codes " " ++ spelling c.args.types.now value) c.args.text.now c.args.port.now.name c.in-Some.rest.now found
    (c.in-Some.ensures.some ∙ ap (λ name. name ++ c.in-Some.rest.now) c.as_slice.ensures)
    (behind-inverts (λ value. HasType c.args.types.now value c.args.port.now.ty) (spelling c.args.types.now) c.in-Some.rest.now (codes " ") c.in-Some-behind.rest.now found c.in-Some-behind.ensures.some inverts))
    c.value_of.ensures
