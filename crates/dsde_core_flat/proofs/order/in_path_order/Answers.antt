use Rattle.std.proofs.Common.{rules, is_lt}
use Rattle.std.proofs.lemmas.List.Sorted.{ranks_by}
use Rattle.std.proofs.lemmas.Fn.{always_returns_same}
use Rattle.dsde_core_flat.specs.Due.{due_cmp}
use Rattle.dsde_core_flat.proofs.DueOnes.{due-total}
use Rattle.dsde_core_flat.proofs.order.in_path_order.Goals as goal

pub returns-clause-order : goal.returns-clause-order
returns-clause-order c = c.in_ok-sort_by.ensures.sorted (λ due other. is_lt (due_cmp due other)) (ranks_by due-total (λ a. a)) (always_returns_same _ _ _ (λ a r f k. search rules))
