-- The order of movers.
use Rattle.std.proofs.Common.{is_lt}
use Rattle.std.specs.Cmp.{IsTotalOrder, IsStrictWeakOrder}
use Rattle.std.proofs.lemmas.Cmp.{on_total}
use Rattle.std.proofs.lemmas.List.Sorted.{ranks_by}
use Rattle.dsde_core_moves.specs.given.core_flat.lemmas_Names.{paths-total}
use Rattle.dsde_core_moves.specs.declared.flat.Mover.{Mover}
use Rattle.dsde_core_parcels.specs.Calling.{mover_cmp}

pub mover_cmp-total : IsTotalOrder mover_cmp
mover_cmp-total = on_total (λ (mover : Mover). mover.path) paths-total

pub mover_cmp-ranks : IsStrictWeakOrder (λ (one other : Mover). is_lt (mover_cmp one other))
mover_cmp-ranks = ranks_by mover_cmp-total (λ (mover : Mover). mover)
