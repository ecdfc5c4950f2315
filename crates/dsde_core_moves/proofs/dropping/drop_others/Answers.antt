use Rattle.std.proofs.Common.{◌≡◌, ℕ, true, false, List, ◌∷◌, length, map, Result, OnErr, sym, ap, subst, ◌∙◌, arith}
use Rattle.std.proofs.lemmas.Result.{err_from_is_err_and}
use Rattle.dsde_lists.specs.declared.memory.Memory.{Memory}
use Rattle.dsde_sim_tree.specs.Told.{IsCut}
use Rattle.dsde_sim_tree.specs.Move.{drop_of}
use Rattle.dsde_routes_wiring.specs.declared.wiring.WiredKid.{WiredKid}
use Rattle.dsde_routes_wiring.specs.declared.wiring.WiredKid.TheViews.{out-Wiring}
use Rattle.dsde_core_moves.proofs.Leaving.{Drops, drops-begin, drops-keep, drops-live, drops-room, drops-on, drops-at, drops-cut, counted, some-of-kid, same-length}
use Rattle.dsde_core_flat.specs.given.grove.Grove.{value_of}
use Rattle.dsde_core_flat.specs.Shown.{kid_under}
use Rattle.dsde_core_moves.specs.Chosen.{lost, shown}
use Rattle.dsde_core_moves.proofs.dropping.drop_others.Goals as goal

pub loop-kid-init : goal.loop-kid-init
loop-kid-init g c =
    let w = out-Wiring c.args.wiring.now in (
      subst (λ (ks : List WiredKid). Drops c.args.grove.now w.me w.boss c.args.path.now w.kids c.args.keeps.now c.args.room c.args.events.now c.args.grove.now ks c.args.keeps.now c.args.room c.args.events.now) (sym c.as_slice-kids.ensures)
          (drops-begin c.args.grove.now w.me w.boss c.args.path.now w.kids c.args.keeps.now c.args.room c.args.events.now c.requires.stands c.requires.named c.requires.inside),
      c.requires.tests ∙ ap length (sym c.as_slice-kids.ensures),
      omega arith,
      c.requires.tree,
    )

pub drop_kid-requires : goal.drop_kid-requires
drop_kid-requires g c =
    let w = out-Wiring c.args.wiring.now in
    let o = c.args.grove.now in
    let kids : c.loop-kid.kids.now ≡ c.in-Some-Some.kid.now ∷ c.in-Some-Some.later.now = c.in-Some-Some.ensures.cases.0 in
    let tests : c.loop-kid.tests.now ≡ c.in-Some-Some.stays.now ∷ c.in-Some-Some.others.now = c.in-Some-Some.ensures'.cases.0 in
    let stays : c.in-Some-Some.stays.now ≡ false = c.if-not-stays.true in
    let goes = drops-at o w.me w.boss c.args.path.now w.kids c.args.keeps.now c.args.room c.args.events.now c.loop-kid.grove c.loop-kid.kids.now c.loop-kid.tests.now c.loop-kid.left c.loop-kid.events c.in-Some-Some.kid.now c.in-Some-Some.later.now c.in-Some-Some.stays.now c.in-Some-Some.others.now false
    kids tests stays c.loop-kid.invariant.0 in
    drops-live o w.me w.boss c.args.path.now w.kids c.args.keeps.now c.args.room c.args.events.now c.loop-kid.grove c.in-Some-Some.kid.now c.in-Some-Some.later.now c.in-Some-Some.others.now c.loop-kid.left c.loop-kid.events goes

pub overflow_add-left : goal.overflow_add-left
overflow_add-left g c =
    let w = out-Wiring c.args.wiring.now in
    let o = c.args.grove.now in
    let kids : c.loop-kid.kids.now ≡ c.in-Some-Some.kid.now ∷ c.in-Some-Some.later.now = c.in-Some-Some.ensures.cases.0 in
    let tests : c.loop-kid.tests.now ≡ c.in-Some-Some.stays.now ∷ c.in-Some-Some.others.now = c.in-Some-Some.ensures'.cases.0 in
    let stays : c.in-Some-Some.stays.now ≡ false = c.if-not-stays.true in
    let goes = drops-at o w.me w.boss c.args.path.now w.kids c.args.keeps.now c.args.room c.args.events.now c.loop-kid.grove c.loop-kid.kids.now c.loop-kid.tests.now c.loop-kid.left c.loop-kid.events c.in-Some-Some.kid.now c.in-Some-Some.later.now c.in-Some-Some.stays.now c.in-Some-Some.others.now false
    kids tests stays c.loop-kid.invariant.0 in
    let count = counted o w.me w.boss c.args.path.now w.kids c.args.keeps.now c.args.room c.args.events.now c.loop-kid.grove c.in-Some-Some.kid.now c.in-Some-Some.later.now c.in-Some-Some.others.now c.loop-kid.left c.loop-kid.events goes c.drop_kid.new.grove c.in_ok-left.ensures.dropped c.in_ok-left.field-0 c.in_ok-left.ensures.count in
    let few = drops-room o w.me w.boss c.args.path.now w.kids c.args.keeps.now c.args.room c.args.events.now c.loop-kid.grove c.in-Some-Some.kid.now c.in-Some-Some.later.now c.in-Some-Some.others.now c.loop-kid.left c.loop-kid.events goes c.requires.few in
    omega (arith, count, few)

pub loop-kid-preserved-in_ok-left : goal.loop-kid-preserved-in_ok-left
loop-kid-preserved-in_ok-left g c =
    let w = out-Wiring c.args.wiring.now in
    let o = c.args.grove.now in
    let kids : c.loop-kid.kids.now ≡ c.in-Some-Some.kid.now ∷ c.in-Some-Some.later.now = c.in-Some-Some.ensures.cases.0 in
    let tests : c.loop-kid.tests.now ≡ c.in-Some-Some.stays.now ∷ c.in-Some-Some.others.now = c.in-Some-Some.ensures'.cases.0 in
    let stays : c.in-Some-Some.stays.now ≡ false = c.if-not-stays.true in
    let goes = drops-at o w.me w.boss c.args.path.now w.kids c.args.keeps.now c.args.room c.args.events.now c.loop-kid.grove c.loop-kid.kids.now c.loop-kid.tests.now c.loop-kid.left c.loop-kid.events c.in-Some-Some.kid.now c.in-Some-Some.later.now c.in-Some-Some.stays.now c.in-Some-Some.others.now false
    kids tests stays c.loop-kid.invariant.0 in
    let count = counted o w.me w.boss c.args.path.now w.kids c.args.keeps.now c.args.room c.args.events.now c.loop-kid.grove c.in-Some-Some.kid.now c.in-Some-Some.later.now c.in-Some-Some.others.now c.loop-kid.left c.loop-kid.events goes c.drop_kid.new.grove c.in_ok-left.ensures.dropped c.in_ok-left.field-0 c.in_ok-left.ensures.count in (
      drops-on o w.me w.boss c.args.path.now w.kids c.args.keeps.now c.args.room c.args.events.now c.loop-kid.grove c.in-Some-Some.kid.now c.in-Some-Some.later.now c.in-Some-Some.others.now c.loop-kid.left c.loop-kid.events goes c.drop_kid.new.grove c.in_ok-left.ensures.dropped c.in_ok-left.field-0 c.in_ok-left.ensures.count c.drop_kid.new.events c.in_ok-left.ensures.told,
      same-length c.loop-kid.kids.now c.loop-kid.tests.now c.in-Some-Some.kid.now c.in-Some-Some.stays.now c.in-Some-Some.later.now c.in-Some-Some.others.now kids tests c.loop-kid.invariant.1,
      omega (arith, c.loop-kid.invariant.2, c.in_ok-left.ensures.ticks, count, some-of-kid (kid_under (value_of o) c.in-Some-Some.kid.now)),
      c.in_ok-left.ensures.tree,
    )

pub loop-kid-preserved : goal.loop-kid-preserved
loop-kid-preserved g c =
    let w = out-Wiring c.args.wiring.now in
    let o = c.args.grove.now in
    let kids : c.loop-kid.kids.now ≡ c.in-Some-Some.kid.now ∷ c.in-Some-Some.later.now = c.in-Some-Some.ensures.cases.0 in
    let tests : c.loop-kid.tests.now ≡ c.in-Some-Some.stays.now ∷ c.in-Some-Some.others.now = c.in-Some-Some.ensures'.cases.0 in
    let stays : c.in-Some-Some.stays.now ≡ true = c.if-not-stays.false in
    let goes = drops-at o w.me w.boss c.args.path.now w.kids c.args.keeps.now c.args.room c.args.events.now c.loop-kid.grove c.loop-kid.kids.now c.loop-kid.tests.now c.loop-kid.left c.loop-kid.events c.in-Some-Some.kid.now c.in-Some-Some.later.now c.in-Some-Some.stays.now c.in-Some-Some.others.now true
    kids tests stays c.loop-kid.invariant.0 in (
      drops-keep o w.me w.boss c.args.path.now w.kids c.args.keeps.now c.args.room c.args.events.now c.loop-kid.grove c.in-Some-Some.kid.now c.in-Some-Some.later.now c.in-Some-Some.others.now c.loop-kid.left c.loop-kid.events goes,
      same-length c.loop-kid.kids.now c.loop-kid.tests.now c.in-Some-Some.kid.now c.in-Some-Some.stays.now c.in-Some-Some.later.now c.in-Some-Some.others.now kids tests c.loop-kid.invariant.1,
      c.loop-kid.invariant.2,
      c.loop-kid.invariant.3,
    )

pub returns-in_err-left-clause-cut : goal.returns-in_err-left-clause-cut
returns-in_err-left-clause-cut g c =
    let w = out-Wiring c.args.wiring.now in
    let o = c.args.grove.now in
    let e = err_from_is_err_and c.from_residual.result c.from_residual.ensures.1 in
    let cut = drops-cut o w.me w.boss c.args.path.now w.kids c.args.keeps.now c.args.room c.args.events.now c.loop-kid.grove c.loop-kid.kids.now c.loop-kid.tests.now c.loop-kid.left c.loop-kid.events c.drop_kid.new.events c.loop-kid.invariant.0 c.in_err-left.ensures.quiet in
    subst (λ (r : Result ℕ Memory). OnErr r (IsCut c.args.events.now (map (drop_of c.args.path.now) (shown o (lost c.args.keeps.now w.kids))) c.drop_kid.new.events)) (sym e.1) cut
