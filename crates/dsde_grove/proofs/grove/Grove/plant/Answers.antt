use Rattle.std.proofs.Common.{◌∙◌, ap, refl, None, arith}
use Rattle.dsde_grove.proofs.Grown.{tree-planted, len-planted, parts-planted}
use Rattle.dsde_grove.proofs.ShownTrees.{tree-shown}
use Rattle.dsde_grove.proofs.grove.Grove.plant.Goals as goal

pub invariant_of-result : goal.invariant_of-result
invariant_of-result g c =
    let put = c.insert_reserved-handle.ensures in
    let bare = ap (λ b. b.held) c.reserve.ensures.kept ∙ c.new-bank.ensures.empty in
    let first = ap (λ b. b.next_birth) c.reserve.ensures.kept ∙ c.new-bank.ensures.first in
    record {
      tree = tree-planted c.reserve.new.self c.insert_reserved-handle.new.self c.insert_reserved-handle.result _ put.held put.birth put.next bare first refl (λ i. record { stem = c.in_ok-from_slice.ensures i; index = None }) c.new.ensures;
      idle = c.reserve-2.ensures.kept ∙ c.new-work.ensures;
      room = omega (arith, len-planted c.reserve.new.self c.insert_reserved-handle.new.self c.insert_reserved-handle.result _ put.held put.birth put.next bare first refl (λ i. record { stem = c.in_ok-from_slice.ensures i; index = None }) c.new.ensures, c.in_ok-reserve-2.ensures.room);
    }

pub returns-clause-parts : goal.returns-clause-parts
returns-clause-parts g c =
    let put = c.insert_reserved-handle.ensures in
    let bare = ap (λ b. b.held) c.reserve.ensures.kept ∙ c.new-bank.ensures.empty in
    let first = ap (λ b. b.next_birth) c.reserve.ensures.kept ∙ c.new-bank.ensures.first in
    parts-planted c.reserve.new.self c.insert_reserved-handle.new.self c.insert_reserved-handle.result _ put.held put.birth put.next bare first refl (λ i. record { stem = c.in_ok-from_slice.ensures i; index = None }) c.new.ensures

pub returns-clause-tree : goal.returns-clause-tree
returns-clause-tree g c =
    let put = c.insert_reserved-handle.ensures in
    let bare = ap (λ b. b.held) c.reserve.ensures.kept ∙ c.new-bank.ensures.empty in
    let first = ap (λ b. b.next_birth) c.reserve.ensures.kept ∙ c.new-bank.ensures.first in
    tree-shown c.insert_reserved-handle.new.self
    (tree-planted c.reserve.new.self c.insert_reserved-handle.new.self c.insert_reserved-handle.result _ put.held put.birth put.next bare first refl (λ i. record { stem = c.in_ok-from_slice.ensures i; index = None }) c.new.ensures)
