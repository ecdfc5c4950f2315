use Rattle.std.proofs.Common.{◌∙◌, true, false, ap}
use Rattle.dsde_language.specs.DeclaredModels.{state_fields, port_fields}
use Rattle.dsde_program_infos.proofs.Parts.{same_info}
use Rattle.dsde_program_infos.proofs.infos.atomic.Goals as goal

pub returns : goal.returns
returns c =
    same_info c.args.at false (c.in_ok-name.ensures ∙ c.as_slice.ensures) c.in_ok-params.ensures
    (c.in_ok-own.ensures.ins ∙ ap (port_fields c.args.known.now false) c.as_slice-3.ensures)
    (c.in_ok-own.ensures.outs ∙ ap (port_fields c.args.known.now true) c.as_slice-3.ensures)
    (ap (λ boss. boss.ins) c.no_ports-boss.ensures) (ap (λ boss. boss.outs) c.no_ports-boss.ensures)
    (c.in_ok-states.ensures ∙ ap (state_fields c.args.known.now) c.as_slice-2.ensures)
