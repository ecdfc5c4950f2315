use Rattle.std.proofs.Common.{◌<◌, true, ◌≡◌, length, sym, ap, subst, ◌∙◌, ℕ}
use Rattle.dsde_language.specs.declared.ids.ModelId.{ModelId}
use Rattle.dsde_language.specs.NodeModels.{infos_of}
use Rattle.dsde_sim_working.specs.given.system.Program.{system}
use Rattle.dsde_grove.specs.Grove.{value_of}
use Rattle.dsde_sim_tree.specs.Output.{by_port}
use Rattle.dsde_sim_working.specs.lemmas.Receiving.{got-fits}
use Rattle.dsde_core_parcels.specs.given.core_flat.Shown.{args_in, model_in}
use Rattle.dsde_core_parcels.specs.given.core_moves.Flat.{tree_of}
use Rattle.dsde_core_outputs.proofs.Ports.{ins-are}
use Rattle.dsde_core_outputs.proofs.network.came.Goals as goal

pub network_in-requires-clause-below : goal.network_in-requires-clause-below
network_in-requires-clause-below c =
    subst (λ (number : ModelId). number.0 < length (infos_of c.args.program.now)) (sym c.requires.model)
    (c.roots_are_networks.ensures.below c.args.program.now c.args.flat.now c.requires.stands c.requires.network)

pub network_in-requires-clause-network : goal.network_in-requires-clause-network
network_in-requires-clause-network c =
    subst (λ (number : ModelId). (system c.args.program.now).is_network number ≡ true) (sym c.requires.model)
    (c.roots_are_networks.ensures.network c.args.program.now c.args.flat.now c.requires.stands c.requires.network)

pub returns-clause-got : goal.returns-clause-got
returns-clause-got c =
    let m = c.args.program.now in
    let f = c.args.flat.now in
    let held = value_of f.grove f.root in
    let ins =
    c.roots_are_networks.ensures.ins m f c.requires.stands c.requires.network
    ∙ ins-are (system m) (model_in held) c.args.model (args_in held) c.requires.model c.network_in.result c.in_ok-ports.ports c.in_ok-ports.ensures (c.network_in.ensures (args_in held)) in
    c.in_ok-got.ensures.value ∙ ap (λ (ports : ℕ). by_port ports c.args.items.now) (sym ins)

pub returns-clause-fits : goal.returns-clause-fits
returns-clause-fits c =
    let m = c.args.program.now in
    let f = c.args.flat.now in
    let held = value_of f.grove f.root in
    let ins =
    c.roots_are_networks.ensures.ins m f c.requires.stands c.requires.network
    ∙ ins-are (system m) (model_in held) c.args.model (args_in held) c.requires.model c.network_in.result c.in_ok-ports.ports c.in_ok-ports.ensures (c.network_in.ensures (args_in held)) in
    got-fits m (tree_of f) c.requires.stands.fits c.sent_fits.ensures c.args.items.now c.requires.items c.in_ok-ports.ports c.in_ok-got.got ins c.in_ok-got.ensures.value c.in_ok-got.ensures.few
