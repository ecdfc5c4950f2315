use Rattle.std.proofs.Common.{◌≡◌, ◌∙◌, ◌+◌, ◌<◌, ◌^◌, ap, sym, subst, rules, List, [], ◌∷◌, Err, Ok}
use Rattle.std.proofs.lemmas.Result.{err_from_is_err_and}
use Rattle.dsde_sim_tree.specs.Told.{Tells}
use Rattle.dsde_sim_moving.specs.given.sim_telling.lemmas_GoingOn.{goes-end}
use Rattle.dsde_sim_tree.specs.declared.sim.Sim.{Sim}
use Rattle.dsde_sim_tree.specs.declared.sim.Sim.TheVariants as sim
use Rattle.dsde_sim_tree.specs.declared.sim.Net.{Net}
use Rattle.dsde_sim_tree.specs.declared.sim.Sim.TheViews.{out-Net}
use Rattle.dsde_sim_tree.specs.Tree.{args_of, model_of, parts}
use Rattle.dsde_sim_moving.specs.given.system.Program.{system}
use Rattle.dsde_sim_moving.specs.Fitting.{FitsTree}
use Rattle.dsde_sim_movers.specs.Movers.{moves, step_at}
use Rattle.dsde_sim_movers.specs.lemmas.Named.{same_name}
use Rattle.dsde_sim_movers.specs.lemmas.Seats.{NoneNamed}
use Rattle.dsde_order.specs.Seating.{FitsSeat}
use Rattle.dsde_order.proofs.ByParts.{goes-as}
use Rattle.dsde_order.proofs.Components.{at-below, below-with, own-at, twice-at}
use Rattle.dsde_order.proofs.Within.{having-fits, made-having, net-stays, own-few, own-fits, seat-fits, tells-err, tells-memory, tells-ok}
use Rattle.dsde_order.proofs.stepping.+stepping.Goals as goal

pub step_at-step-requires : goal.step_at-step-requires
step_at-step-requires t c =
    let same = same_name c.orders_are_total.ensures.names in
    let name = c.args.name.now in
    let at = c.requires.at in
    let own : at.own ≡ c.exchange-sim.result = sym (own-at name (out-Net c.args.net).kids c.args.index at c.exchange-sim.result c.exchange-sim.ensures.taken) in (
      search rules,
      (
        c.requires.moment,
        (
          subst (λ (part : Sim). parts part + c.args.room < 2 ^ 64) own (own-few same c.args.net name c.args.index at c.args.room c.requires.few),
          (
            subst (FitsTree c.args.program.now) own (own-fits same c.args.net name c.args.index at c.args.program.now c.requires.fits),
            (
              subst (FitsSeat c.args.program.now c.args.rest.now c.args.is_boss c.args.got) own (seat-fits same c.args.net name c.args.index at c.args.program.now c.args.rest.now c.args.is_boss c.args.got c.requires.got),
              c.requires.ports,
            ),
          ),
        ),
      ),
    )

pub step_at-exchange-requires : goal.step_at-exchange-requires
step_at-exchange-requires t c =
    below-with c.args.index _ (out-Net c.args.net).kids c.exchange-sim.new.kids c.exchange-sim.ensures.kids (at-below c.args.name.now (out-Net c.args.net).kids c.args.index c.requires.at)

pub step_at-returns-in_err-sim-clause-told : goal.step_at-returns-in_err-sim-clause-told
step_at-returns-in_err-sim-clause-told t c =
    let e = err_from_is_err_and c.from_residual.result c.from_residual.ensures.1 in
    let own : c.exchange-sim.result ≡ c.requires.at.own = own-at c.args.name.now (out-Net c.args.net).kids c.args.index c.requires.at c.exchange-sim.result c.exchange-sim.ensures.taken in
    let step = moves (system c.args.program.now) c.args.is_boss c.args.path.now c.args.time c.args.got in
    subst (λ result. Tells (step_at (c.args.name.now ∷ c.args.rest.now) step (sim.Net c.args.net) c.args.room) c.args.events.now c.step.new.events result) (sym (e.1 ∙ ap Err e.2))
    (tells-err (same_name c.orders_are_total.ensures.names) c.args.net c.args.name.now c.args.index c.requires.at c.args.rest.now step c.args.room c.args.events.now c.step.new.events c.in_err-sim.field-0.0
    (subst (λ (part : Sim). Tells (step_at c.args.rest.now step part c.args.room) c.args.events.now c.step.new.events (Err c.in_err-sim.field-0.0)) own c.in_err-sim.ensures.told))

pub step_at-returns-in_err-new-clause-told : goal.step_at-returns-in_err-new-clause-told
step_at-returns-in_err-new-clause-told t c =
    let e = err_from_is_err_and c.from_residual-in_err-new.result c.from_residual-in_err-new.ensures.1 in
    let own : c.exchange-sim.result ≡ c.requires.at.own = own-at c.args.name.now (out-Net c.args.net).kids c.args.index c.requires.at c.exchange-sim.result c.exchange-sim.ensures.taken in
    let step = moves (system c.args.program.now) c.args.is_boss c.args.path.now c.args.time c.args.got in
    subst (λ result. Tells (step_at (c.args.name.now ∷ c.args.rest.now) step (sim.Net c.args.net) c.args.room) c.args.events.now c.step.new.events result) (sym (e.1 ∙ ap Err e.2))
    (tells-memory (same_name c.orders_are_total.ensures.names) c.args.net c.args.name.now c.args.index c.requires.at c.args.rest.now step c.args.room c.args.events.now c.step.new.events (c.in_ok-sim.sim, c.in_ok-sim.room)
    (subst (λ (part : Sim). Tells (step_at c.args.rest.now step part c.args.room) c.args.events.now c.step.new.events (Ok (c.in_ok-sim.sim, c.in_ok-sim.room))) own c.in_ok-sim.ensures.told))

pub step_at-returns-clause-told : goal.step_at-returns-clause-told
step_at-returns-clause-told t c =
    let name = c.args.name.now in
    let kids = (out-Net c.args.net).kids in
    let at = c.requires.at in
    let same = same_name c.orders_are_total.ensures.names in
    let own : c.exchange-sim.result ≡ at.own = own-at name kids c.args.index at c.exchange-sim.result c.exchange-sim.ensures.taken in
    let step = moves (system c.args.program.now) c.args.is_boss c.args.path.now c.args.time c.args.got in
    let made = made-having same c.args.net name c.args.index at c.in_ok-sim.sim c.exchange.new.kids (twice-at name kids c.args.index at _ c.in_ok-sim.sim c.exchange-sim.new.kids c.exchange.new.kids c.exchange-sim.ensures.kids c.exchange.ensures.kids) in
    tells-ok same c.args.net name c.args.index at c.args.rest.now step c.args.room c.args.events.now c.step.new.events c.in_ok-sim.sim c.in_ok-sim.room (sim.Net c.in_ok-new.field-0)
    (ap (λ (net : Net). sim.Net net) c.in_ok-new.ensures ∙ made)
    (subst (λ (part : Sim). Tells (step_at c.args.rest.now step part c.args.room) c.args.events.now c.step.new.events (Ok (c.in_ok-sim.sim, c.in_ok-sim.room))) own c.in_ok-sim.ensures.told)

pub step_at-returns-clause-fits : goal.step_at-returns-clause-fits
step_at-returns-clause-fits t c =
    let name = c.args.name.now in
    let kids = (out-Net c.args.net).kids in
    let at = c.requires.at in
    let same = same_name c.orders_are_total.ensures.names in
    let own : c.exchange-sim.result ≡ at.own = own-at name kids c.args.index at c.exchange-sim.result c.exchange-sim.ensures.taken in
    let made = made-having same c.args.net name c.args.index at c.in_ok-sim.sim c.exchange.new.kids (twice-at name kids c.args.index at _ c.in_ok-sim.sim c.exchange-sim.new.kids c.exchange.new.kids c.exchange-sim.ensures.kids c.exchange.ensures.kids) in
    subst (FitsTree c.args.program.now) (sym (ap (λ (net : Net). sim.Net net) c.in_ok-new.ensures ∙ made))
    (having-fits same c.args.net name c.args.index at c.args.program.now c.in_ok-sim.sim c.requires.fits c.in_ok-sim.ensures.fits (c.in_ok-sim.ensures.model ∙ ap model_of own) (c.in_ok-sim.ensures.args ∙ ap args_of own))

pub step_in-returns-in_ok-new-in-None-clause-told : goal.step_in-returns-in_ok-new-in-None-clause-told
step_in-returns-in_ok-new-in-None-clause-told t c =
    let step = moves (system c.args.program.now) c.args.is_boss c.args.path.now c.args.time c.args.got in
    let whole = step_at (c.args.name.now ∷ c.args.rest.now) step (sim.Net c.args.net) c.args.room in
    let none = subst (NoneNamed c.args.name.now) c.as_slice.ensures c.in-None.ensures in
    subst (λ (net : Net). Tells whole c.args.events.now c.args.events.now (Ok (sim.Net net, c.args.room))) (sym c.in_ok-new-in-None.ensures)
    (goes-end whole (sim.Net c.args.net, c.args.room) c.args.events.now c.args.events.now
    (goes-as whole _ c.args.events.now (net-stays c.args.net c.args.name.now c.args.rest.now step c.args.room none)))
