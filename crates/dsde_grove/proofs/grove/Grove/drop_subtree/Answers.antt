use Rattle.std.proofs.Common.{is_some, sym, ap, subst, ◌∙◌, refl, arith}
use Rattle.std.specs.FinMap as map
use Rattle.dsde_grove.specs.Grove.{spot, IsTree, DropsSubtree}
use Rattle.std.specs.Option.{option_map}
use Rattle.dsde_grove.specs.Inside.{grove_of, spot_in}
use Rattle.dsde_grove.proofs.Parts.{get-found, spot-found, live-found, none_of, len-parts_of}
use Rattle.dsde_grove.proofs.Pruned.{Unlinks, pruned-any, len-unlinked, next-unlinked, parent_stays, tree-pruned, drops-pruned}
use Rattle.dsde_grove.proofs.ShownTrees.{tree-shown}
use Rattle.dsde_grove.proofs.Shown.{emptied, gone_under, gone_before}
use Rattle.dsde_grove.proofs.grove.Grove.drop_subtree.Goals as goal

pub returns-in-None-clause-none : goal.returns-in-None-clause-none
returns-in-None-clause-none g c = (
  λ _. none_of (spot c.args.self.now c.args.handle)
      (ap (λ v. is_some (spot v c.args.handle)) (sym c.self.view_is) ∙ live-found c.self.inside.bank c.args.handle ∙ ap is_some (sym c.in-None.ensures.value)),
  λ _. refl,
)

pub unlink-requires : goal.unlink-requires
unlink-requires g c =
    let bank = c.self.inside.bank in
    let live = get-found bank c.args.handle c.in-Some.part.now (sym c.in-Some.ensures.value) in
    parent_stays bank c.take_all-name.new.bank bank.next_birth c.self.invariant.tree c.args.handle c.in-Some.part.now live c.take_all-name.ensures.taken

pub invariant_of-self : goal.invariant_of-self
invariant_of-self g c =
    let bank = c.self.inside.bank in
    let part = c.in-Some.part.now in
    let named = c.take_all-name.ensures.name part (sym c.in-Some.ensures.value) in
    let unlinks = subst (λ n. Unlinks c.take_all-name.new.bank c.unlink.new.bank n part.parent) named c.unlink.ensures.unlinked in
    let live = get-found bank c.args.handle part (sym c.in-Some.ensures.value) in
    let pruned = pruned-any bank c.take_all-name.new.bank c.unlink.new.bank bank.next_birth c.self.invariant.tree c.args.handle part live c.take_all-name.ensures.taken unlinks in
    let next = next-unlinked c.take_all-name.new.bank c.unlink.new.bank c.take_all-name.result part.parent c.unlink.ensures.unlinked ∙ c.take_all-name.ensures.taken.next in
    let idle = c.take_all-name.ensures.idle in
    record {
      tree = rw next (tree-pruned bank.held c.unlink.new.bank.held bank.next_birth c.args.handle.birth c.self.invariant.tree pruned);
      idle = ap (λ w. w.items) idle ∙ c.self.invariant.idle;
      room = omega (arith, ap (λ w. w.spare) idle, len-unlinked c.take_all-name.new.bank c.unlink.new.bank c.take_all-name.result part.parent c.unlink.ensures.unlinked, c.take_all-name.ensures.taken.len, c.self.invariant.room);
    }

pub returns-clause-none : goal.returns-clause-none
returns-clause-none g c =
    let live = ap (λ v. is_some (spot v c.args.handle)) (sym c.self.view_is) ∙ live-found c.self.inside.bank c.args.handle ∙ ap is_some (sym c.in-Some.ensures.value) in
    (λ wrong. absurd (cc), λ none. sym live ∙ ap is_some none)

pub returns-clause-dropped : goal.returns-clause-dropped
returns-clause-dropped g c =
    let bank = c.self.inside.bank in
    let part = c.in-Some.part.now in
    let named = c.take_all-name.ensures.name part (sym c.in-Some.ensures.value) in
    let unlinks = subst (λ n. Unlinks c.take_all-name.new.bank c.unlink.new.bank n part.parent) named c.unlink.ensures.unlinked in
    let live = get-found bank c.args.handle part (sym c.in-Some.ensures.value) in
    let pruned = pruned-any bank c.take_all-name.new.bank c.unlink.new.bank bank.next_birth c.self.invariant.tree c.args.handle part live c.take_all-name.ensures.taken unlinks in
    let next = next-unlinked c.take_all-name.new.bank c.unlink.new.bank c.take_all-name.result part.parent c.unlink.ensures.unlinked ∙ c.take_all-name.ensures.taken.next in
    subst (λ v. DropsSubtree v (grove_of c.unlink.new.bank) c.args.handle) c.self.view_is (drops-pruned bank c.unlink.new.bank bank.next_birth c.args.handle (spot_in bank.held c.args.handle.birth (c.args.handle.slot, part)) c.self.invariant.tree (tree-shown bank c.self.invariant.tree)
    (spot-found bank c.args.handle ∙ ap (option_map (λ p. spot_in bank.held c.args.handle.birth (c.args.handle.slot, p))) (sym c.in-Some.ensures.value)) pruned next)

pub returns-clause-count : goal.returns-clause-count
returns-clause-count g c =
    let bank = c.self.inside.bank in
    let shorter = len-unlinked c.take_all-name.new.bank c.unlink.new.bank c.take_all-name.result c.in-Some.part.now.parent c.unlink.ensures.unlinked in
    omega (arith, shorter, c.take_all-name.ensures.taken.len, len-parts_of c.unlink.new.bank.held, len-parts_of bank.held, ap (λ v. map.len v.parts) c.self.view_is, c.len.ensures, c.len-before.ensures)

pub returns-in-None-clause-tree : goal.returns-in-None-clause-tree
returns-in-None-clause-tree g c = subst IsTree c.self.view_is (tree-shown c.self.inside.bank c.self.invariant.tree)

pub returns-clause-tree : goal.returns-clause-tree
returns-clause-tree g c =
    let bank = c.self.inside.bank in
    let part = c.in-Some.part.now in
    let named = c.take_all-name.ensures.name part (sym c.in-Some.ensures.value) in
    let unlinks = subst (λ n. Unlinks c.take_all-name.new.bank c.unlink.new.bank n part.parent) named c.unlink.ensures.unlinked in
    let live = get-found bank c.args.handle part (sym c.in-Some.ensures.value) in
    let pruned = pruned-any bank c.take_all-name.new.bank c.unlink.new.bank bank.next_birth c.self.invariant.tree c.args.handle part live c.take_all-name.ensures.taken unlinks in
    let next = next-unlinked c.take_all-name.new.bank c.unlink.new.bank c.take_all-name.result part.parent c.unlink.ensures.unlinked ∙ c.take_all-name.ensures.taken.next in
    tree-shown c.unlink.new.bank (rw next (tree-pruned bank.held c.unlink.new.bank.held bank.next_birth c.args.handle.birth c.self.invariant.tree pruned))

pub returns-clause-gone : goal.returns-clause-gone
returns-clause-gone g c other above =
    let tree = subst IsTree c.self.view_is (tree-shown c.self.inside.bank c.self.invariant.tree) in
    let drops = returns-clause-dropped g c in
    gone_under c.args.self.now tree _ c.args.handle drops.part drops.live drops.gone drops.kept drops.next other above

pub returns-clause-stay_gone : goal.returns-clause-stay_gone
returns-clause-stay_gone g c other was =
    let tree = subst IsTree c.self.view_is (tree-shown c.self.inside.bank c.self.invariant.tree) in
    let drops = returns-clause-dropped g c in
    gone_before c.args.self.now tree _ c.args.handle drops.part drops.live drops.gone drops.kept drops.next other was

pub returns-clause-emptied : goal.returns-clause-emptied
returns-clause-emptied g c root =
    let tree = subst IsTree c.self.view_is (tree-shown c.self.inside.bank c.self.invariant.tree) in
    let drops = returns-clause-dropped g c in
    emptied c.args.self.now tree (grove_of c.unlink.new.bank) c.args.handle drops.part drops.live drops.gone drops.kept root
