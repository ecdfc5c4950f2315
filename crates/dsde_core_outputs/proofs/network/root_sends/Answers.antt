use Rattle.std.proofs.Common.{◌≡◌, ◌<◌, true, length, sym, subst, ◌∙◌}
use Rattle.dsde_language.specs.declared.ids.ModelId.{ModelId}
use Rattle.dsde_language.specs.NodeModels.{infos_of}
use Rattle.dsde_sim_working.specs.given.system.Program.{system}
use Rattle.dsde_grove.specs.Grove.{value_of}
use Rattle.dsde_core_parcels.specs.given.core_flat.Shown.{args_in, model_in}
use Rattle.dsde_core_parcels.specs.Inboxes.{spread}
use Rattle.dsde_core_outputs.proofs.Ports.{outs-are}
use Rattle.dsde_core_outputs.proofs.network.root_sends.Goals as goal

pub network_out-requires-clause-below : goal.network_out-requires-clause-below
network_out-requires-clause-below c =
    subst (λ (number : ModelId). number.0 < length (infos_of c.args.program.now)) (sym c.requires.model)
    (c.roots_are_networks.ensures.below c.args.program.now c.args.flat.now c.requires.stands c.requires.network)

pub network_out-requires-clause-network : goal.network_out-requires-clause-network
network_out-requires-clause-network c =
    subst (λ (number : ModelId). (system c.args.program.now).is_network number ≡ true) (sym c.requires.model)
    (c.roots_are_networks.ensures.network c.args.program.now c.args.flat.now c.requires.stands c.requires.network)

pub returns-clause-sent : goal.returns-clause-sent
returns-clause-sent c =
    let m = c.args.program.now in
    let f = c.args.flat.now in
    let held = value_of f.grove f.root in
    let outs = outs-are (system m) (model_in held) c.args.model (args_in held) c.requires.model c.network_out.result c.in_ok-ports.ports c.in_ok-ports.ensures (c.network_out.ensures (args_in held)) in
    c.in_ok-sent.ensures.value ∙ (λ i. spread (sym outs i) (c.take_gets-gets.ensures.gets i))
