-- The order of parcels.
use Rattle.std.proofs.Common.{rules, is_lt}
use Rattle.std.specs.Cmp.{IsTotalOrder, IsStrictWeakOrder}
use Rattle.std.specs.Cmp.Rules.{comparing}
use Rattle.std.proofs.lemmas.List.Sorted.{ranks_by}
use Rattle.dsde_core_parcels.specs.Parcels.{parcel_cmp}
use Rattle.dsde_core_parcels.specs.declared.parcel.Parcel.{Parcel}

pub parcel_cmp-total : IsTotalOrder parcel_cmp
parcel_cmp-total = search (comparing, rules)

pub parcel_cmp-ranks : IsStrictWeakOrder (λ (one other : Parcel). is_lt (parcel_cmp one other))
parcel_cmp-ranks = ranks_by parcel_cmp-total (λ (parcel : Parcel). parcel)
