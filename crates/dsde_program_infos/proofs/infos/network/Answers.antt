use Rattle.std.proofs.Common.{◌∙◌, true, false, ap}
use Rattle.dsde_language.specs.DeclaredModels.{state_fields, port_fields}
use Rattle.dsde_program_infos.proofs.Parts.{same_info}
use Rattle.dsde_program_infos.proofs.infos.network.Goals as goal

pub returns : goal.returns
returns c =
    same_info c.args.at true (c.in_ok-name.ensures ∙ c.as_slice.ensures) c.in_ok-params.ensures
    c.in_ok-own.ensures.ins c.in_ok-own.ensures.outs
    (c.in_ok-boss.ensures.ins ∙ ap (port_fields c.args.known.now false) c.as_slice-3.ensures)
    (c.in_ok-boss.ensures.outs ∙ ap (port_fields c.args.known.now true) c.as_slice-3.ensures)
    (c.in_ok-states.ensures ∙ ap (state_fields c.args.known.now) c.as_slice-2.ensures)
