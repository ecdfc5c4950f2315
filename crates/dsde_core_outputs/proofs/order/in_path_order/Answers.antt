use Rattle.std.proofs.Common.{IsSorted, rules, is_lt, subst, sym}
use Rattle.std.proofs.lemmas.Fn.{always_returns_same}
use Rattle.dsde_core_parcels.specs.Calling.{mover_cmp}
use Rattle.dsde_core_parcels.specs.lemmas.Pathwise.{mover_cmp-ranks}
use Rattle.dsde_core_outputs.proofs.order.in_path_order.Goals as goal

pub returns-clause-order : goal.returns-clause-order
returns-clause-order c =
    subst (IsSorted mover_cmp) (sym c.from_vec.ensures)
    (c.in_ok-sort_by.ensures.sorted (λ one other. is_lt (mover_cmp one other)) mover_cmp-ranks (always_returns_same _ _ _ (λ a r f k. search rules)))
