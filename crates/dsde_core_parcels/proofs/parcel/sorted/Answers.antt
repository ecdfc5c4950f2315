use Rattle.std.proofs.Common.{rules, is_lt, subst, sym}
use Rattle.std.proofs.lemmas.Fn.{always_returns_same}
use Rattle.dsde_core_parcels.specs.Parcels.{AreOrdered, parcel_cmp}
use Rattle.dsde_core_parcels.specs.lemmas.Ordered.{parcel_cmp-ranks}
use Rattle.dsde_core_parcels.proofs.parcel.sorted.Goals as goal

pub returns-clause-order : goal.returns-clause-order
returns-clause-order c =
    subst AreOrdered (sym c.from_vec.ensures)
    (c.in_ok-sort_by.ensures.sorted (λ one other. is_lt (parcel_cmp one other)) parcel_cmp-ranks (always_returns_same _ _ _ (λ a r f k. search rules)))
