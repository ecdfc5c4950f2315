-- What the names of a tree's components grant.
use Rattle.std.proofs.Common.{◌≡◌, ℕ, ◌&&◌, ◌↔◌, Bool, true, false, Option, Some, None, List, [], ◌∷◌, map, Ordering, Less, Equal, Greater, is_eq, refl, sym, ap, ◌∙◌, subst, inl, inr}
use Rattle.std.proofs.lemmas.Cmp.{tied_itself}
use Rattle.std.proofs.lemmas.Map.Keys.{IsDistinct-from_sorted, IsDistinct-cons}
use Rattle.std.proofs.lemmas.Simd.{map-map}
use Rattle.std.proofs.lemmas.Slice.Eq.{bytes_eq-Decides}
use Rattle.std.specs.Cmp.{IsTotalOrder}
use Rattle.std.specs.Prelude.{is_none}
use Rattle.std.specs.Str.{bytes_eq}
use Rattle.std.specs.List.{AllByRecursion, IsDistinct, flat_map}
use Rattle.dsde_values.specs.declared.name.Name.{Name}
use Rattle.dsde_values.specs.Path.{EXEC, name_cmp, is_executive}
use Rattle.dsde_sim_tree.specs.given.structure.plan_Entry.{Entry}
use Rattle.dsde_sim_tree.specs.given.structure.Gather.{is_same_name}
use Rattle.dsde_sim_tree.specs.given.structure.Survival as entry
use Rattle.dsde_sim_tree.specs.given.structure.Survival.{AreInOrder, IsInOrder}
use Rattle.dsde_sim_tree.specs.declared.sim.Kid.{Kid}
use Rattle.dsde_sim_tree.specs.declared.sim.Net.{Net}
use Rattle.dsde_sim_tree.specs.declared.sim.Sim.{Sim}
use Rattle.dsde_sim_tree.specs.declared.sim.Sim.TheVariants as sim
use Rattle.dsde_sim_tree.specs.declared.sim.Sim.TheViews.{out-Kid, out-Net}
use Rattle.dsde_sim_tree.specs.Opened.{shape_in, spots-Net, spots-kid, spots-net}
use Rattle.dsde_sim_tree.specs.Spots.{Spot, spots, spots_of_kid}
use Rattle.dsde_sim_tree.specs.Tree.{entry_of, name_of}
use Rattle.dsde_sim_movers.specs.lemmas.Events.{each-weaker, each-flat}
use Rattle.dsde_sim_movers.specs.Names.{AreNames, HasNames, IsNamed}

-- The names of a network's components are distinct, and none is an executive's.
abbrev pub HasPlaces : Spot → Type 0
HasPlaces (inl leaf) = Unit {0}
HasPlaces (inr shape) = IsDistinct is_same_name (EXEC ∷ entry.names shape.entries)

abbrev pub IsPlaced : Sim → Type 0
IsPlaced tree = AllByRecursion HasPlaces (spots tree)

has-places : (spot : Spot) → HasNames spot → HasPlaces spot
has-places (inl leaf) is = tt
has-places (inr shape) is =
    IsDistinct-cons is_same_name EXEC (entry.names shape.entries) is.ordinary (IsDistinct-from_sorted name_cmp (entry.names shape.entries) is.order)

pub placed-from : (tree : Sim) → IsNamed tree → IsPlaced tree
placed-from tree is = each-weaker HasNames HasPlaces has-places (spots tree) is

pub names-of : (P : Name → Type 0) (kids : List Kid) → AllByRecursion P (map name_of kids) → AllByRecursion (λ kid. P (name_of kid)) kids
names-of P [] all = tt
names-of P (kid ∷ kids) all = (all.0, names-of P kids all.1)

-- a fact of a network's shape, and the same of all beneath it, from that of a tree
module _ (P : Spot → Type 0) where
  pub net-spots : (net : Net) → AllByRecursion P (spots (sim.Net net)) → P (inr (shape_in net)) × AllByRecursion (λ kid. AllByRecursion P (spots (out-Kid kid).sim)) (out-Net net).kids
  net-spots net all =
      let kids = (out-Net net).kids in
      let each : AllByRecursion P (inr (shape_in net) ∷ flat_map spots_of_kid kids) = subst (AllByRecursion P) (spots-Net net ∙ spots-net net) all in (
        each.0,
        each-weaker (λ kid. AllByRecursion P (spots_of_kid kid)) (λ kid. AllByRecursion P (spots (out-Kid kid).sim)) (λ kid. subst (AllByRecursion P) (spots-kid kid)) kids
            (each-flat P spots_of_kid kids each.1),
      )

pub net-places : (net : Net) → IsPlaced (sim.Net net) → IsDistinct is_same_name (EXEC ∷ map name_of (out-Net net).kids) × AllByRecursion (λ kid. IsPlaced (out-Kid kid).sim) (out-Net net).kids
net-places net placed =
    let both = net-spots HasPlaces net placed in
    (subst (λ (names : List Name). IsDistinct is_same_name (EXEC ∷ names)) (map-map (λ entry. entry.name) entry_of (out-Net net).kids) both.0, both.1)

pub net-names : (net : Net) → IsNamed (sim.Net net) →
    AreInOrder (map name_of (out-Net net).kids) × AllByRecursion (λ kid. is_same_name EXEC (name_of kid) ≡ false) (out-Net net).kids × AllByRecursion (λ kid. IsNamed (out-Kid kid).sim) (out-Net net).kids
net-names net named =
    let both = net-spots HasNames net named in
    let kids = (out-Net net).kids in
    let same = map-map (λ entry. entry.name) entry_of kids in (
      subst AreInOrder same both.0.order,
      names-of (λ name. is_same_name EXEC name ≡ false) kids (subst (AllByRecursion (λ name. is_same_name EXEC name ≡ false)) same both.0.ordinary),
      both.1,
    )

pub same_name : IsTotalOrder name_cmp → (name : Name) → is_same_name name name ≡ true
same_name total name = ap is_eq (tied_itself total name)

is-equal : (order : Ordering) → is_eq order ≡ true → order ≡ Equal
is-equal Less is = absurd (let e : false ≡ true = is in cc)
is-equal Equal is = refl
is-equal Greater is = absurd (let e : false ≡ true = is in cc)

-- the test of names is exact
pub exact-by : ((name other : Name) → (name_cmp name other ≡ Equal) ↔ (name ≡ other)) → (name other : Name) → is_same_name name other ≡ true → name ≡ other
exact-by one name other is = (one name other).0 (is-equal (name_cmp name other) is)

-- Who is not called as an executive is none.
pub not-executive : IsTotalOrder name_cmp → (name : Name) → is_same_name EXEC name ≡ false → is_executive name ≡ false
not-executive total name other = by (is_executive name) refl
  where
    index-none : (index : Option ℕ) → is_none index ≡ true → index ≡ None
    index-none None is = refl
    index-none (Some index) is = absurd (let e : false ≡ true = is in cc)

    both : (one later : Bool) → (one && later) ≡ true → (one ≡ true) × (later ≡ true)
    both true true is = (refl, refl)
    both true false is = absurd (let e : false ≡ true = is in cc)
    both false later is = absurd (let e : false ≡ true = is in cc)

    by : (here : Bool) → is_executive name ≡ here → is_executive name ≡ false
    by false is = is
    by true is =
        let parts = both (bytes_eq name.stem EXEC.stem) (is_none name.index) is in
        let stem : name.stem ≡ EXEC.stem = (bytes_eq-Decides name.stem EXEC.stem).0 parts.0 in
        let index = index-none name.index parts.1 in
        let e : true ≡ false = sym (same_name total EXEC) ∙ (λ i. is_same_name EXEC (record { stem = sym stem i; index = sym index i })) ∙ other in cc

-- the names of entries in their order, none of them an executive's
pub entries-named : (entries : List Entry) → IsInOrder entries → AllByRecursion (λ own. is_same_name EXEC own.name ≡ false) entries → AreNames (entry.names entries)
entries-named entries order ordinary = record { order = order; ordinary = each-name entries ordinary }
  where
    each-name : (list : List Entry) → AllByRecursion (λ own. is_same_name EXEC own.name ≡ false) list → AllByRecursion (λ name. is_same_name EXEC name ≡ false) (entry.names list)
    each-name [] all = tt
    each-name (own ∷ list) all = (all.0, each-name list all.1)
