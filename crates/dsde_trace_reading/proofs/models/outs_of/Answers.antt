use Rattle.std.proofs.Common.{◌≡◌, ◌∙◌, subst}
use Rattle.std.specs.Prelude.{Some, slice_get}
use Rattle.dsde_language.specs.declared.ids.ModelId.{ModelId}
use Rattle.dsde_language.specs.NodeModels.{infos_of}
use Rattle.dsde_trace_reading.proofs.Modelling.{outs-told}
use Rattle.dsde_trace_reading.proofs.models.outs_of.Goals as goal

pub returns : goal.returns
returns c =
    c.as_slice.ensures ∙ outs-told c.infos_are_declared.ensures c.args.program.now c.info.result.now (subst (λ (number : ModelId). Some c.info.result.now ≡ slice_get (infos_of c.args.program.now) number.0) c.top_model.ensures c.info.ensures)
