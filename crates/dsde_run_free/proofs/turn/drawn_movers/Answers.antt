use Rattle.std.proofs.Common.{◌≡◌, sym, subst}
use Rattle.std.specs.List.{AllByRecursion}
use Rattle.dsde_values.specs.declared.path.Path.{Path}
use Rattle.dsde_run.specs.given.system.Program.{system}
use Rattle.dsde_sim_movers.specs.Turns.{turn_movers}
use Rattle.dsde_order.specs.Walking.{Answers, FitsDelivery}
use Rattle.dsde_run_free.proofs.Turning.{drawn-here, order-drawn, order-fits, orderly, walked-all, words-drawn}
use Rattle.dsde_run_free.proofs.turn.drawn_movers.Goals as goal

pub movers_in-requires-clause-named : goal.movers_in-requires-clause-named
movers_in-requires-clause-named c = c.fitting_trees_are_named.ensures c.args.program.now c.args.tree.now c.requires.tree

pub movers_in-requires-clause-before : goal.movers_in-requires-clause-before
movers_in-requires-clause-before c = subst (AllByRecursion (FitsDelivery c.args.program.now)) (sym c.new-movers.ensures) tt

pub movers_in-requires-clause-answers : goal.movers_in-requires-clause-answers
movers_in-requires-clause-answers c = subst (λ (path : Path). Answers (system c.args.program.now) c.args.tree.now path c.args.time) (sym c.in_ok-root.ensures) c.requires.answers

pub draw-requires : goal.draw-requires
draw-requires c =
    let s = system c.args.program.now in
    let is : c.into_vec.result.items ≡ turn_movers s c.args.tree.now c.args.time c.args.items.now =
    walked-all s c.args.tree.now c.args.time c.args.items.now c.in_ok-root.root c.in_ok-got.got c.new-movers.result c.movers_in.new.found c.into_vec.result.items c.in_ok-movers_in.ensures.movers c.new-movers.ensures c.in_ok-root.ensures c.in_ok-got.ensures.value c.into_vec.ensures in
    orderly s c.args.tree.now c.args.time c.args.items.now c.args.words.now c.into_vec.result.items is
    (c.movers_are_orderly.ensures s c.args.tree.now c.args.time c.args.items.now (c.fitting_trees_are_named.ensures c.args.program.now c.args.tree.now c.requires.tree))

pub returns-clause-order : goal.returns-clause-order
returns-clause-order c =
    let s = system c.args.program.now in
    let is : c.into_vec.result.items ≡ turn_movers s c.args.tree.now c.args.time c.args.items.now =
    walked-all s c.args.tree.now c.args.time c.args.items.now c.in_ok-root.root c.in_ok-got.got c.new-movers.result c.movers_in.new.found c.into_vec.result.items c.in_ok-movers_in.ensures.movers c.new-movers.ensures c.in_ok-root.ensures c.in_ok-got.ensures.value c.into_vec.ensures in
    order-drawn s c.args.tree.now c.args.time c.args.items.now c.args.words.now c.into_vec.result.items is c.draw.result c.draw.ensures.order

pub returns-clause-words : goal.returns-clause-words
returns-clause-words c =
    let s = system c.args.program.now in
    let is : c.into_vec.result.items ≡ turn_movers s c.args.tree.now c.args.time c.args.items.now =
    walked-all s c.args.tree.now c.args.time c.args.items.now c.in_ok-root.root c.in_ok-got.got c.new-movers.result c.movers_in.new.found c.into_vec.result.items c.in_ok-movers_in.ensures.movers c.new-movers.ensures c.in_ok-root.ensures c.in_ok-got.ensures.value c.into_vec.ensures in
    words-drawn s c.args.tree.now c.args.time c.args.items.now c.args.words.now c.into_vec.result.items is c.draw.result c.draw.new.words c.draw.ensures.words

pub returns-clause-fit : goal.returns-clause-fit
returns-clause-fit c =
    let s = system c.args.program.now in
    let is : c.into_vec.result.items ≡ turn_movers s c.args.tree.now c.args.time c.args.items.now =
    walked-all s c.args.tree.now c.args.time c.args.items.now c.in_ok-root.root c.in_ok-got.got c.new-movers.result c.movers_in.new.found c.into_vec.result.items c.in_ok-movers_in.ensures.movers c.new-movers.ensures c.in_ok-root.ensures c.in_ok-got.ensures.value c.into_vec.ensures in
    let named = c.fitting_trees_are_named.ensures c.args.program.now c.args.tree.now c.requires.tree in
    order-fits s c.args.tree.now c.args.time c.args.items.now c.args.words.now c.into_vec.result.items is (FitsDelivery c.args.program.now)
    (subst (AllByRecursion (FitsDelivery c.args.program.now)) (sym c.into_vec.ensures) c.in_ok-movers_in.ensures.fit)
    (drawn-here c.drawn_orders_are_lawful.ensures s c.args.tree.now c.args.time c.args.items.now c.args.words.now named) c.draw.result (returns-clause-order c)
