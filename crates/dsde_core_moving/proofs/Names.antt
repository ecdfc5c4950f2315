-- The names of components that start.
use Rattle.std.proofs.Common.{◌≡◌, false, List, [], ◌∷◌, map, sym, ap, subst, ◌∙◌}
use Rattle.std.specs.List.{AllByRecursion}
use Rattle.std.proofs.lemmas.Simd.{map-map}
use Rattle.dsde_values.specs.declared.name.Name.{Name}
use Rattle.dsde_values.specs.declared.path.Path.{Path}
use Rattle.dsde_values.specs.Path.{EXEC}
use Rattle.dsde_structure.specs.declared.plan.Entry.{Entry}
use Rattle.dsde_structure.specs.Gather.{is_same_name}
use Rattle.dsde_structure.specs.Survival.{names, AreInOrder, IsInOrder}
use Rattle.dsde_sim_tree.specs.Told.{below}
use Rattle.dsde_grove.specs.Grove.{Grove}
use Rattle.dsde_sim_tree.specs.declared.sim.Kid.{Kid}
use Rattle.dsde_sim_tree.specs.declared.sim.Sim.TheViews.{out-Kid}
use Rattle.dsde_sim_tree.specs.Tree.{entry_of, started_as}
use Rattle.dsde_core_moves.specs.given.core_flat.spot_Spot.{Spot}
use Rattle.dsde_core_moves.specs.given.core_flat.Grafts.{IsFree, IsRoomFor}
use Rattle.dsde_core_moves.specs.given.core_flat.Named.{AreToldApart}
use Rattle.dsde_core_moves.specs.given.core_flat.lemmas_Meeting.{told-apart}
use Rattle.dsde_core_moving.specs.Changed.{IsRoomAs}

each-name : (entries : List Entry) → AllByRecursion (λ (entry : Entry). is_same_name EXEC entry.name ≡ false) entries → AllByRecursion (λ (name : Name). is_same_name EXEC name ≡ false) (names entries)
each-name [] all = tt
each-name (entry ∷ entries) all = (all.0, each-name entries all.1)

started-names : (entries : List Entry) → names (map started_as entries) ≡ names entries
started-names entries = map-map (λ (entry : Entry). entry.name) started_as entries

-- components that have started for entries in order are told by their names
pub started-apart : (entries : List Entry) (kids : List Kid) → IsInOrder entries → AllByRecursion (λ (entry : Entry). is_same_name EXEC entry.name ≡ false) entries → map entry_of kids ≡ map started_as entries → AreToldApart (map entry_of kids)
started-apart entries kids order ordinary are =
    let same : names (map entry_of kids) ≡ names entries = ap names are ∙ started-names entries in
    told-apart (map entry_of kids) (subst AreInOrder (sym same) order) (subst (AllByRecursion (λ (name : Name). is_same_name EXEC name ≡ false)) (sym same) (each-name entries ordinary))

heads-as : (kid : Kid) (kids : List Kid) (entry : Entry) (entries : List Entry) → map entry_of (kid ∷ kids) ≡ map started_as (entry ∷ entries) → ((out-Kid kid).name ≡ entry.name) × (map entry_of kids ≡ map started_as entries)
heads-as kid kids entry entries are =
    let head : entry_of kid ≡ started_as entry = cc in
    let tail : map entry_of kids ≡ map started_as entries = cc in
    (ap (λ (own : Entry). own.name) head, tail)

-- where there is room for entries, there is room for the components that have started for them
pub room-for : (own : Grove Spot) (path : Path) (entries : List Entry) (kids : List Kid) → map entry_of kids ≡ map started_as entries → AllByRecursion (IsRoomAs own path) entries → AllByRecursion (IsRoomFor own path) kids
room-for own path entries [] are free = tt
room-for own path [] (kid ∷ kids) are free = absurd (let wrong : entry_of kid ∷ map entry_of kids ≡ [] = are in cc)
room-for own path (entry ∷ entries) (kid ∷ kids) are free =
    let heads = heads-as kid kids entry entries are in
    (subst (λ (name : Name). IsFree own (below path name).names) (sym heads.0) free.0, room-for own path entries kids heads.1 free.1)
