use Rattle.std.proofs.Common.{◌∙◌, ℕ, ◌≤◌, List, length, Result, Ok, Err, sym, ap, subst}
use Rattle.std.proofs.lemmas.Result.{err_from_is_err_and}
use Rattle.dsde_values.specs.declared.arrival.Item.{Item}
use Rattle.dsde_values.specs.declared.path.Path.{Path}
use Rattle.dsde_values.specs.Path.{root}
use Rattle.dsde_sim_tree.specs.given.formalism.Leaf.{component_of, sent_at}
use Rattle.dsde_sim_tree.specs.given.formalism.System.{Ports}
use Rattle.dsde_sim_working.specs.given.system.Program.{system}
use Rattle.dsde_sim_tree.specs.declared.fault.TurnEnd.{TurnEnd}
use Rattle.dsde_sim_tree.specs.Told.{at, Comes}
use Rattle.dsde_sim_tree.specs.Output.{by_port, output}
use Rattle.dsde_core_parcels.specs.given.core_moves.Flat.{tree_of}
use Rattle.dsde_core_parcels.specs.given.core_moves.flat_Mover.{Mover}
use Rattle.dsde_core_parcels.specs.given.core_moves.phase_Phase.{Phase}
use Rattle.dsde_core_parcels.specs.given.core_moves.Movers.{sent_of, AreMovers, Wait}
use Rattle.dsde_core_outputs.specs.Alone.{one_called, IsAlone}
use Rattle.dsde_core_outputs.proofs.AloneSending.{items-end, items-sent}
use Rattle.dsde_core_outputs.proofs.single.root_movers.Goals as goal

pub root_leaf-leaf-requires : goal.root_leaf-leaf-requires
root_leaf-leaf-requires g c = c.lone_components_move.ensures.lives c.args.program.now c.args.flat.now c.requires.stands c.requires.component

pub sends-requires : goal.sends-requires
sends-requires g c =
    let alone : IsAlone c.args.flat.now c.root_leaf-leaf.result.now = record { none = c.requires.component; held = c.root_leaf-leaf.ensures.held } in
    c.lone_components_move.ensures.fits c.args.program.now c.args.flat.now c.root_leaf-leaf.result.now c.requires.stands alone

pub ports_out-requires : goal.ports_out-requires
ports_out-requires g c =
    let alone : IsAlone c.args.flat.now c.root_leaf-leaf.result.now = record { none = c.requires.component; held = c.root_leaf-leaf.ensures.held } in
    (c.lone_components_move.ensures.fits c.args.program.now c.args.flat.now c.root_leaf-leaf.result.now c.requires.stands alone).below

pub ports_in-requires : goal.ports_in-requires
ports_in-requires g c =
    let alone : IsAlone c.args.flat.now c.root_leaf-leaf.result.now = record { none = c.requires.component; held = c.root_leaf-leaf.ensures.held } in
    (c.lone_components_move.ensures.fits c.args.program.now c.args.flat.now c.root_leaf-leaf.result.now c.requires.stands alone).below

pub returns-clause-comes : goal.returns-clause-comes
returns-clause-comes g c =
    let a = c.args in
    let leaf = c.root_leaf-leaf.result.now in
    let S = system a.program.now in
    let alone : IsAlone a.flat.now leaf = record { none = c.requires.component; held = c.root_leaf-leaf.ensures.held } in
    c.lone_components_move.ensures.sends S a.flat.now leaf a.time alone
    ∙ items-sent root (component_of S leaf).outs c.in_ok-outs.outs (sent_at S leaf a.time) c.in_ok-sent.sent c.in_ok-sent.ensures.sent (c.ports_out.ensures leaf.args ∙ sym c.in_ok-outs.ensures)
    ∙ ap (λ (sent : Ports). let all : Result Ports TurnEnd = Ok sent in all) (sym c.phase_of.ensures.sent)

pub returns-clause-movers : goal.returns-clause-movers
returns-clause-movers g c =
    let a = c.args in
    let leaf = c.root_leaf-leaf.result.now in
    let alone : IsAlone a.flat.now leaf = record { none = c.requires.component; held = c.root_leaf-leaf.ensures.held } in
    let ins = sym (c.ports_in.ensures leaf.args ∙ sym c.in_ok-ins.ensures) in
    let got = c.in_ok-got.ensures.value ∙ ap (λ (ports : ℕ). by_port ports a.items.now) ins in
    subst (AreMovers a.program.now a.flat.now a.time a.items.now) (sym (c.phase_of.ensures.movers ∙ c.called-first.ensures ∙ ap (λ (path : Path). one_called leaf a.flat.now.root path a.time c.in_ok-got.got) c.in_ok-path.ensures))
    (c.lone_components_move.ensures.moves a.program.now a.flat.now leaf a.time a.items.now c.in_ok-got.got c.requires.stands alone c.requires.items got c.in_ok-got.ensures.few)

pub returns-clause-wait : goal.returns-clause-wait
returns-clause-wait g c dues are =
    let a = c.args in
    let leaf = c.root_leaf-leaf.result.now in
    let alone : IsAlone a.flat.now leaf = record { none = c.requires.component; held = c.root_leaf-leaf.ensures.held } in
    subst (Wait dues) (sym (c.phase_of.ensures.movers ∙ c.called-first.ensures ∙ ap (λ (path : Path). one_called leaf a.flat.now.root path a.time c.in_ok-got.got) c.in_ok-path.ensures))
    (c.lone_components_move.ensures.waits a.program.now a.flat.now leaf a.time c.in_ok-got.got dues c.requires.stands alone are)

pub returns-in_err-sent-clause-comes : goal.returns-in_err-sent-clause-comes
returns-in_err-sent-clause-comes g c =
    let a = c.args in
    let leaf = c.root_leaf-leaf.result.now in
    let S = system a.program.now in
    let alone : IsAlone a.flat.now leaf = record { none = c.requires.component; held = c.root_leaf-leaf.ensures.held } in
    let e = err_from_is_err_and c.from_residual-in_err-sent.result c.from_residual-in_err-sent.ensures.1 in
    subst (λ (r : Result Phase TurnEnd). Comes (output S (tree_of a.flat.now) root a.time) (sent_of r)) (sym (e.1 ∙ ap Err e.2))
    (subst (λ (own : Result Ports TurnEnd). Comes own (let r : Result Ports TurnEnd = Err c.in_err-sent.field-0.0 in r)) (sym (c.lone_components_move.ensures.sends S a.flat.now leaf a.time alone))
    (items-end root (component_of S leaf).outs (sent_at S leaf a.time) c.in_err-sent.field-0.0
    (subst (λ (path : Path). Comes (at path (sent_at S leaf a.time)) (let r : Result (List Item) TurnEnd = Err c.in_err-sent.field-0.0 in r)) c.in_ok-path.ensures c.in_err-sent.ensures.comes)))

pub returns-clause-many : goal.returns-clause-many
returns-clause-many g c dues are =
    let a = c.args in
    let leaf = c.root_leaf-leaf.result.now in
    let alone : IsAlone a.flat.now leaf = record { none = c.requires.component; held = c.root_leaf-leaf.ensures.held } in
    subst (λ (movers : List Mover). length dues ≤ length movers) (sym (c.phase_of.ensures.movers ∙ c.called-first.ensures ∙ ap (λ (path : Path). one_called leaf a.flat.now.root path a.time c.in_ok-got.got) c.in_ok-path.ensures))
    (c.lone_components_move.ensures.many a.program.now a.flat.now leaf a.time c.in_ok-got.got dues c.requires.stands alone are)

pub returns-clause-rows : goal.returns-clause-rows
returns-clause-rows g c dues are =
    let a = c.args in
    let leaf = c.root_leaf-leaf.result.now in
    let alone : IsAlone a.flat.now leaf = record { none = c.requires.component; held = c.root_leaf-leaf.ensures.held } in
    c.lone_components_move.ensures.rows a.program.now a.flat.now leaf a.time a.items.now dues c.requires.stands alone are
