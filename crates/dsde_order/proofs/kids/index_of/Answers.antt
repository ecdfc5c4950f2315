use Rattle.std.proofs.Common.{◌≡◌, arith, sym, ◌∙◌, false, add-one}
use Rattle.dsde_structure.specs.Gather.{is_same_name}
use Rattle.dsde_sim_tree.specs.Tree.{name_of}
use Rattle.dsde_sim_movers.specs.lemmas.Named.{exact-by}
use Rattle.dsde_order.proofs.Components.{all-taken, found-there, take-more}
use Rattle.dsde_order.proofs.kids.index_of.Goals as goal

pub loop-index-preserved : goal.loop-index-preserved
loop-index-preserved c =
    let kid = c.index-kids-index.result in
    rw add-one (take-more (λ own. is_same_name (name_of own) c.args.name.now ≡ false) c.args.kids.now c.loop-index.index kid c.loop-index-test.true c.index-kids-index.is c.loop-index.invariant (sym c.if-eq.ensures))

pub returns-then-eq : goal.returns-then-eq
returns-then-eq c =
    let kid = c.index-kids-index.result in
    found-there c.args.name.now c.args.kids.now c.loop-index.index kid c.loop-index-test.true c.index-kids-index.is (exact-by c.one_name.ensures (name_of kid) c.args.name.now (sym c.if-eq.ensures)) c.loop-index.invariant

pub returns : goal.returns
returns c = all-taken (λ own. is_same_name (name_of own) c.args.name.now ≡ false) c.args.kids.now c.loop-index.index (let test = c.loop-index-test.false in omega (arith, test)) c.loop-index.invariant
