use Rattle.std.proofs.Common.{◌≡◌, ◌∙◌, ◌++◌, ap, sym, subst, arith, rules, List}
use Rattle.std.specs.List.{AllByRecursion}
use Rattle.dsde_values.specs.declared.path.Path.{Path}
use Rattle.dsde_language.specs.declared.ids.ModelId.{ModelId}
use Rattle.dsde_sim_moving.specs.given.system.Program.{system}
use Rattle.dsde_sim_moving.specs.given.system.Fitting.{FitsInputs}
use Rattle.dsde_sim_tree.specs.declared.sim.Kid.{Kid}
use Rattle.dsde_sim_tree.specs.declared.sim.Sim.{Sim}
use Rattle.dsde_sim_tree.specs.declared.sim.Sim.TheVariants as sim
use Rattle.dsde_sim_tree.specs.declared.sim.Sim.TheViews.{out-Kid, out-Net}
use Rattle.dsde_sim_tree.specs.Tree.{model_of, parts_of_kids}
use Rattle.dsde_sim_moving.specs.Fits.{leaf-tree, net-tree}
use Rattle.dsde_sim_moving.specs.Fitting.{FitsGot, FitsTree}
use Rattle.dsde_sim_moving.specs.Moving.{FitsInside}
use Rattle.dsde_sim_moving.specs.Stood.{inputs-of, model-leaf, model-net}
use Rattle.dsde_sim_movers.specs.Deliveries.{Delivery}
use Rattle.dsde_sim_movers.specs.Movers.{movers}
use Rattle.dsde_sim_movers.specs.Names.{IsNamed}
use Rattle.dsde_sim_movers.specs.lemmas.Named.{net-names}
use Rattle.dsde_sim_movers.specs.Walk.{called_one}
use Rattle.dsde_order.specs.Walking.{Answers, AreNamed, KidsAnswer, movers_with}
use Rattle.dsde_order.proofs.Walked.{each-here, fewer-here, fewer-kids, fewer-later, got-here, kids-answer, net-walked, none-left, ok-map, one-fits, walked-all, walked-here}
use Rattle.dsde_order.proofs.walk.+walking.Goals as goal

pub movers_in-returns-in-Leaf-clause-movers : goal.movers_in-returns-in-Leaf-clause-movers
movers_in-returns-in-Leaf-clause-movers t c =
    let s = system c.args.program.now in
    let walked = c.movers_are_walked.ensures.leaf s c.in-Leaf.leaf c.args.path c.args.time c.args.got in
    ok-map c.add_called.result _ _
    (λ is. is ∙ ap (λ (list : List Delivery). c.args.found.now ++ list) (sym walked ∙ ap (λ (tree : Sim). movers s tree c.args.path c.args.time c.args.got) (sym c.in-Leaf.is)))
    c.add_called.ensures

pub movers_in-returns-in-Leaf-clause-fit : goal.movers_in-returns-in-Leaf-clause-fit
movers_in-returns-in-Leaf-clause-fit t c =
    let own = leaf-tree c.args.program.now c.in-Leaf.leaf (subst (FitsTree c.args.program.now) c.in-Leaf.is c.requires.fits) in
    let got = subst (λ (number : ModelId). FitsGot c.args.program.now number.0 c.args.got) (ap model_of c.in-Leaf.is ∙ model-leaf c.in-Leaf.leaf) c.requires.got in
    ok-map c.add_called.result _ _
    (λ is. one-fits c.args.program.now c.in-Leaf.leaf c.args.path c.args.time c.args.got c.args.found.now c.add_called.new.movers is (inputs-of c.args.program.now c.in-Leaf.leaf c.args.got own got) got.few c.requires.before)
    c.add_called.ensures

pub net_movers_in-sources_again-requires-clause-fits : goal.net_movers_in-sources_again-requires-clause-fits
net_movers_in-sources_again-requires-clause-fits t c = net-tree c.args.program.now c.args.net.now c.requires.fits

pub net_movers_in-sources_again-requires-clause-got : goal.net_movers_in-sources_again-requires-clause-got
net_movers_in-sources_again-requires-clause-got t c = subst (λ (number : ModelId). FitsGot c.args.program.now number.0 c.args.got) (model-net c.args.net.now) c.requires.got

pub net_movers_in-kids_movers_in-requires : goal.net_movers_in-kids_movers_in-requires
net_movers_in-kids_movers_in-requires t c =
    let s = system c.args.program.now in
    let net = c.args.net.now in
    let same = sym c.as_slice.ensures in
    let fewer = fewer-kids net c.as_slice.result.now c.as_slice.ensures in (
      omega (arith, fewer, c.decreases),
      (
        subst AreNamed same (net-names net c.requires.named).2,
        (
          subst (AllByRecursion (FitsInside c.args.program.now)) same c.in_ok-sources.ensures.asked.kids,
          (
            search rules,
            (
              subst (λ (kids : List Kid). KidsAnswer s kids c.args.path.now c.args.time) same (kids-answer s net c.args.path.now c.args.time c.requires.answers),
              c.requires.before,
            ),
          ),
        ),
      ),
    )

pub net_movers_in-returns-clause-movers : goal.net_movers_in-returns-clause-movers
net_movers_in-returns-clause-movers t c =
    let s = system c.args.program.now in
    let net = c.args.net.now in
    let path = c.args.path.now in
    let time = c.args.time in
    let got = c.in_ok-got.got in
    let old = c.args.found.now in
    let mid = c.kids_movers_in.new.found in
    let kids : mid ≡ old ++ movers_with s (out-Net net).kids got.kids path time =
    c.in_ok-kids_movers_in.ensures.movers ∙ ap (λ (list : List Kid). old ++ movers_with s list got.kids path time) c.as_slice.ensures in
    ok-map c.add_called.result _ _
    (λ is. net-walked s net path time c.in_ok-sources.sources (movers s (sim.Net net) path time c.args.got)
    (c.movers_are_walked.ensures.net s net path time c.args.got c.in_ok-sources.sources c.requires.named c.in_ok-sources.ensures.is)
    got.kids c.in_ok-got.ensures.kids got.boss c.in_ok-got.ensures.boss old mid c.add_called.new.movers kids
    (is ∙ ap (λ (own : Path). mid ++ called_one (out-Net net).boss own time got.boss) c.in_ok-boss_path.ensures))
    c.add_called.ensures

pub net_movers_in-returns-clause-fit : goal.net_movers_in-returns-clause-fit
net_movers_in-returns-clause-fit t c =
    let boss = (out-Net c.args.net.now).boss in
    let got = c.in_ok-got.got.boss in
    let fits = subst (λ (number : ModelId). FitsInputs c.args.program.now number.0 got) (sym c.in_ok-sources.ensures.asked.shape.boss_is.model) c.in_ok-got.ensures.boss_fits in
    ok-map c.add_called.result _ _
    (λ is. one-fits c.args.program.now boss c.in_ok-boss_path.boss_path c.args.time got c.kids_movers_in.new.found c.add_called.new.movers is fits c.in_ok-got.ensures.boss_few c.in_ok-kids_movers_in.ensures.fit)
    c.add_called.ensures

pub kids_movers_in-movers_in-requires : goal.kids_movers_in-movers_in-requires
kids_movers_in-movers_in-requires t c =
    let s = system c.args.program.now in
    let kid = c.in-Some.kid.now in
    let items = c.loop-kid.kid-iterator.a.rest.now in
    let later = c.next.new.self.a.rest.now in
    let is = c.in-Some.ensures.steps.0 in
    let here = c.loop-kid.invariant in
    let fewer = fewer-here items kid later is (parts_of_kids c.args.kids.now) here.6 in (
      omega (arith, fewer, c.decreases),
      (
        (each-here items kid later is (λ own. IsNamed (out-Kid own).sim) here.2).0,
        (
          (each-here items kid later is (FitsInside c.args.program.now) here.3).0,
          (
            (got-here items kid later is c.loop-kid.kid-iterator.b.rest.items c.in-Some.got c.next.new.self.b.rest.items c.in-Some.ensures.steps.1.0 c.args.program.now here.4).0,
            (
              subst (λ (path : Path). Answers s (out-Kid kid).sim path c.args.time) (sym c.in_ok-kid_path.ensures) (each-here items kid later is _ here.5).0,
              here.1,
            ),
          ),
        ),
      ),
    )

pub kids_movers_in-loop-kid-preserved : goal.kids_movers_in-loop-kid-preserved
kids_movers_in-loop-kid-preserved t c =
    let s = system c.args.program.now in
    let kid = c.in-Some.kid.now in
    let items = c.loop-kid.kid-iterator.a.rest.now in
    let later = c.next.new.self.a.rest.now in
    let boxes = c.loop-kid.kid-iterator.b.rest.items in
    let more = c.next.new.self.b.rest.items in
    let is = c.in-Some.ensures.steps.0 in
    let are = c.in-Some.ensures.steps.1.0 in
    let here = c.loop-kid.invariant in (
      walked-here items kid later is boxes c.in-Some.got more are s c.args.path.now c.args.time c.loop-kid.found _ c.movers_in.new.found c.in_ok-kid_path.kid_path c.in_ok-kid_path.ensures here.0 c.in_ok-movers_in.ensures.movers,
      c.in_ok-movers_in.ensures.fit,
      (each-here items kid later is (λ own. IsNamed (out-Kid own).sim) here.2).1,
      (each-here items kid later is (FitsInside c.args.program.now) here.3).1,
      (got-here items kid later is boxes c.in-Some.got more are c.args.program.now here.4).1,
      (each-here items kid later is _ here.5).1,
      fewer-later items kid later is (parts_of_kids c.args.kids.now) here.6,
      search rules,
      search rules,
    )

pub kids_movers_in-returns-clause-movers : goal.kids_movers_in-returns-clause-movers
kids_movers_in-returns-clause-movers t c =
    let items = c.loop-kid.kid-iterator.a.rest.now in
    let boxes = c.loop-kid.kid-iterator.b.rest.items in
    walked-all (system c.args.program.now) c.args.path.now c.args.time items boxes c.loop-kid.found _
    (none-left c.args.program.now items boxes c.loop-kid.invariant.4 c.loop-kid.kid-iterator.b.rest.len c.loop-kid.kid-iterator.b.rest.ok.0 c.in-None.ensures.steps)
    c.loop-kid.invariant.0
