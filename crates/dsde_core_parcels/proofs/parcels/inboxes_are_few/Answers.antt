use Rattle.std.proofs.Common.{[], map, arith}
use Rattle.std.proofs.lemmas.List.{length-map}
use Rattle.std.proofs.lemmas.List.Sorted.{length_permutation}
use Rattle.dsde_core_parcels.specs.Inboxes.{lot_of}
use Rattle.dsde_core_parcels.proofs.Counting.{lots-few, pushed-few}
use Rattle.dsde_core_parcels.proofs.parcels.inboxes_are_few.Goals as goal

pub returns : goal.returns
returns c table gives outlets pushed parcels are same =
    let counted = pushed-few table gives outlets pushed are in
    let boxes = lots-few [] (map lot_of parcels) in
    let lots = length-map parcels lot_of in
    let many = length_permutation pushed parcels same in
    (counted.0, counted.1, (let less = counted.2 in omega (arith, boxes, lots, many, less)))
