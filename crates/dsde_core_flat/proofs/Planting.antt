-- A tree in a grove of its own.
use Rattle.std.proofs.Common.{◌≡◌, ◌≢◌, inl, inr, ℕ, true, false, List, [], ◌∷◌, ◌++◌, map, Option, Some, None, IsSome, option_and_then, refl, sym, ap, subst, ◌∙◌, arith}
use Rattle.std.specs.Option.{option_map, option_map_or}
use Rattle.std.specs.Ordering.{nat_cmp}
use Rattle.std.specs.List.{flat_map, AllByRecursion}
use Rattle.std.specs.FinMap as map
use Rattle.std.specs.FinMap.{get-empty}
use Rattle.std.proofs.lemmas.List.{append-nil}
use Rattle.dsde_bank.specs.declared.handle.Handle.{Handle}
use Rattle.dsde_values.specs.declared.name.Name.{Name}
use Rattle.dsde_values.specs.declared.path.Path.{Path}
use Rattle.dsde_values.specs.Path.{root}
use Rattle.dsde_sim_tree.specs.given.formalism.leaf_Leaf.{Leaf}
use Rattle.dsde_values.specs.Path.{EXEC}
use Rattle.dsde_sim_tree.specs.Told.{below, to_boss}
use Rattle.dsde_grove.specs.Grove as grove
use Rattle.dsde_grove.specs.Grove.{Grove, IsTree, Grows, root_spot, spot, value_of, in_slot}
use Rattle.dsde_sim_tree.specs.declared.sim.Kid.{Kid}
use Rattle.dsde_sim_tree.specs.declared.sim.Net.{Net}
use Rattle.dsde_sim_tree.specs.declared.sim.Sim.TheVariants as sim
use Rattle.dsde_sim_tree.specs.declared.sim.Sim.TheViews.{out-Net, roll-out-Net}
use Rattle.dsde_sim_tree.specs.Start.{net_of}
use Rattle.dsde_sim_tree.specs.Tree.{parts_of_net, entry_of}
use Rattle.dsde_core_flat.specs.declared.spot.Spot.{Spot}
use Rattle.dsde_core_flat.specs.declared.spot.Spot.TheVariants as variant
use Rattle.dsde_routes_wiring.specs.declared.wiring.Wiring.{Wiring}
use Rattle.dsde_routes_wiring.specs.declared.wiring.WiredKid.{WiredKid}
use Rattle.dsde_routes_wiring.specs.declared.wiring.WiredKid.TheOpen.{Wiring-F}
use Rattle.dsde_routes_wiring.specs.declared.wiring.WiredKid.TheViews.{roll-Wiring, out-roll-Wiring}
use Rattle.dsde_core_flat.specs.Shown.{leaf_in, model_in, args_in, kid_under}
use Rattle.dsde_core_flat.specs.Places.{Place, place, kid_places, part_places}
use Rattle.dsde_core_flat.specs.lemmas.Opened.{net-shows, net-stands}
use Rattle.dsde_core_flat.specs.lemmas.Frame.{all-join}
use Rattle.dsde_core_flat.specs.Change.{wiring_of}
use Rattle.dsde_core_flat.specs.Stands.{is_net, StandsAt, HasBirth, StandsFor}
use Rattle.dsde_core_flat.specs.lemmas.Keeping.{spot-got}
use Rattle.dsde_core_flat.specs.lemmas.Groves.{spot-slot, get-there, get-other, same-or-not}
use Rattle.dsde_values.specs.declared.value.Value.{Value}
use Rattle.dsde_language.specs.declared.ids.ModelId.{ModelId}
use Rattle.std.specs.List.{Contains}
use Rattle.dsde_sim_movers.specs.lemmas.Events.{contains-from}
use Rattle.dsde_core_flat.specs.Scheduled.{IsScheduled, IsScheduledBut, scheduled}
use Rattle.dsde_core_flat.specs.lemmas.Called.{made-is}
use Rattle.dsde_core_flat.specs.lemmas.Waiting.{some-live, scheduled-here}
use Rattle.dsde_core_flat.specs.lemmas.Moves.{in-its-slot}
use Rattle.dsde_core_flat.specs.Grafts.{path_at, IsFree, AreGrafted}
use Rattle.dsde_core_flat.specs.lemmas.Grafting.{Keeps, kept-spot, stand-kept, grown-keeps, grown-only, grown-spot, grown-value, grown-stands, birth-left, birth-right}
use Rattle.dsde_core_flat.specs.Named.{AreToldApart, HasOwnNames}
use Rattle.dsde_core_flat.specs.Grafts.{IsRoomFor}
use Rattle.dsde_core_flat.specs.lemmas.Growing.{net-named, heads-alike, longer}
use Rattle.dsde_core_flat.proofs.Walking.{net-parts}

-- a grove of one part
module _ (own : Grove Spot) (handle : Handle) (value : Spot) (birth : handle.birth ≡ 0) (are : own.parts ≡ map.insert map.empty 0 (root_spot handle value)) where
  held : map.get own.parts handle.birth ≡ Some (root_spot handle value)
  held = ap (map.get own.parts) birth ∙ ap (λ (m : map.FinMap nat_cmp (grove.Spot Spot)). map.get m 0) are ∙ get-there map.empty 0 (root_spot handle value)

  pub root-spot-is : spot own handle ≡ Some (root_spot handle value)
  root-spot-is = ap (option_and_then (in_slot handle.slot)) held ∙ in-its-slot handle.slot (root_spot handle value) refl

  pub root-value : value_of own handle ≡ Some value
  root-value = ap (option_map (λ (p : grove.Spot Spot). p.value)) root-spot-is

  pub root-stands : StandsAt own (place handle root (is_net value))
  root-stands = record { part = root_spot handle value; live = root-spot-is; path = refl; kind = refl }

  pub root-only : (other : ℕ) (part : grove.Spot Spot) → map.get own.parts other ≡ Some part → handle.birth ≡ other
  root-only other part is = elim (same-or-not other 0) [
    | inl same ↦ birth ∙ sym same
    | inr apart ↦
        let gone : map.get own.parts other ≡ None = ap (λ (m : map.FinMap nat_cmp (grove.Spot Spot)). map.get m other) are ∙ get-other map.empty 0 other (root_spot handle value) apart ∙ get-empty nat_cmp other in
        absurd (let wrong : None ≡ Some part = sym gone ∙ is in cc)
  ]

  pub root-path : path_at own handle ≡ root
  root-path = ap (λ (o : Option (grove.Spot Spot)). let p : Path = record { names = option_map_or (λ (s : grove.Spot Spot). s.path) o [] } in p) root-spot-is

  -- nothing is beneath the root
  pub root-free : (name : Name) → IsFree own (below (path_at own handle) name).names
  root-free name other part live leads =
      let here = root-only other part live in
      let its : map.get own.parts other ≡ Some (root_spot handle value) = ap (map.get own.parts) (sym here) ∙ held in
      let same : part ≡ root_spot handle value = cc in
      longer root.names name leads.rest
      (ap (λ (p : grove.Spot Spot). p.path) (sym same) ∙ leads.is ∙ ap (λ (p : Path). (p.names ++ name ∷ []) ++ leads.rest) root-path)

  pub root-live : IsSome (spot own handle)
  root-live = subst (λ (o : Option (grove.Spot Spot)). IsSome o) (sym root-spot-is) refl

-- who is live is the root
module _ (own : Grove Spot) (handle : Handle) (value : Spot) (birth : handle.birth ≡ 0) (are : own.parts ≡ map.insert map.empty 0 (root_spot handle value)) where
  root-held : (other : Handle) (part : grove.Spot Spot) → spot own other ≡ Some part → (other ≡ handle) × (part ≡ root_spot handle value)
  root-held other part live =
      let got = spot-got own other part live in
      let here = root-only own handle value birth are other.birth part got in
      let its : map.get own.parts other.birth ≡ Some (root_spot handle value) = ap (map.get own.parts) (sym here) ∙ held own handle value birth are in
      let same : part ≡ root_spot handle value = cc in
      let slots : other.slot ≡ handle.slot = sym (spot-slot own other part live) ∙ ap (λ (p : grove.Spot Spot). p.slot) same in
      ((λ i. record { birth = sym here i; slot = slots i }), same)

-- a component that is the root, and its next event
pub planted-due : (own : Grove Spot) (handle : Handle) (leaf : Leaf) → handle.birth ≡ 0 → own.parts ≡ map.insert map.empty 0 (root_spot handle (variant.Leaf leaf)) →
    IsScheduled own (scheduled handle leaf.next [])
planted-due own handle leaf birth are = record {
  due = λ other its next at when.
      let found = some-live own other (variant.Leaf its) (spot own other) refl at in
      let root = root-held own handle (variant.Leaf leaf) birth are other found.0 found.1 in
      let value : variant.Leaf leaf ≡ variant.Leaf its = ap (λ (p : grove.Spot Spot). p.value) (sym root.1) ∙ found.2 in
      let leaves : leaf ≡ its = cc in
      subst (λ (h : Handle). Contains (scheduled handle leaf.next []) (next, h)) (sym root.0)
      (contains-from (scheduled handle leaf.next []) (next, handle) (scheduled-here handle leaf.next [] next (ap (λ (l : Leaf). l.next) leaves ∙ when)));
}

-- a network that is the root has no next event
pub planted-quiet : (own : Grove Spot) (handle : Handle) (model : ModelId) (args : List Value) → handle.birth ≡ 0 → own.parts ≡ map.insert map.empty 0 (root_spot handle (variant.Net model args)) →
    IsScheduledBut own [] []
planted-quiet own handle model args birth are = record {
  due = λ other its next at when.
      let found = some-live own other (variant.Leaf its) (spot own other) refl at in
      let root = root-held own handle (variant.Net model args) birth are other found.0 found.1 in
      let value : variant.Net model args ≡ variant.Leaf its = ap (λ (p : grove.Spot Spot). p.value) (sym root.1) ∙ found.2 in
      absurd (let wrong : true ≡ false = ap is_net value in cc);
}

-- one leaf
pub planted-leaf : (own : Grove Spot) (handle : Handle) (leaf : Leaf) → handle.birth ≡ 0 → own.parts ≡ map.insert map.empty 0 (root_spot handle (variant.Leaf leaf)) → StandsFor own handle None (sim.Leaf leaf)
planted-leaf own handle leaf birth are = record {
  shows = ap (λ (o : Option Spot). sim.Leaf (leaf_in o)) (root-value own handle (variant.Leaf leaf) birth are);
  itself = tt;
  live = (root-stands own handle (variant.Leaf leaf) birth are, tt);
  only = λ other part is. inl (root-only own handle (variant.Leaf leaf) birth are other part is);
}

-- a network
module _ (one two all : Grove Spot) (handle boss : Handle) (exec : Name) (net : Net) (wired : List WiredKid) (birth : handle.birth ≡ 0)
    (are : one.parts ≡ map.insert map.empty 0 (root_spot handle (variant.Net (out-Net net).model (out-Net net).args)))
    (second : Grows one two handle exec (variant.Leaf (out-Net net).boss) boss) (fresh : map.get one.parts boss.birth ≡ None) (is : exec ≡ EXEC) where
  abbrev value : Spot
  value = variant.Net (out-Net net).model (out-Net net).args

  abbrev last : Spot
  last = variant.Leaf (out-Net net).boss

  named-boss : Grows one two handle EXEC last boss
  named-boss = subst (λ (n : Name). Grows one two handle n last boss) is second

  at : named-boss.above.path ≡ root.names
  at = let same : named-boss.above ≡ root_spot handle value = let live : spot one handle ≡ Some named-boss.above = named-boss.live in let its : spot one handle ≡ Some (root_spot handle value) = root-spot-is one handle value birth are in cc in
      ap (λ (p : grove.Spot Spot). p.path) same

  keep : Keeps one two
  keep = grown-keeps one two handle EXEC last boss root named-boss fresh at

  root-kept : spot two handle ≡ spot one handle
  root-kept = kept-spot one two keep handle (root_spot handle value) (root-spot-is one handle value birth are)

  pub net-root-live : IsSome (spot two handle)
  net-root-live = subst (λ (o : Option (grove.Spot Spot)). IsSome o) (sym (root-kept ∙ root-spot-is one handle value birth are)) refl

  pub net-root-path : path_at two handle ≡ root
  net-root-path = ap (λ (o : Option (grove.Spot Spot)). let p : Path = record { names = option_map_or (λ (s : grove.Spot Spot). s.path) o [] } in p) (root-kept ∙ root-spot-is one handle value birth are)

  room-at : (name : Name) → EXEC ≢ name → IsFree two (below root name).names
  room-at name apart other part live leads = elim (grown-only one two handle EXEC last boss root named-boss fresh at other part live) [
    | inl before ↦
        let here = root-only one handle value birth are other part before in
        let its : map.get one.parts other ≡ Some (root_spot handle value) = ap (map.get one.parts) (sym here) ∙ held one handle value birth are in
        let same : part ≡ root_spot handle value = cc in
        longer root.names name leads.rest (ap (λ (p : grove.Spot Spot). p.path) (sym same) ∙ leads.is)
    | inr here ↦
        let boss_spot = grown-spot one two handle EXEC last boss root named-boss fresh at in
        let its : map.get two.parts other ≡ Some (record { slot = boss.slot; parent = Some handle; name = EXEC; path = named-boss.above.path ++ EXEC ∷ []; value = last }) = ap (map.get two.parts) (sym here) ∙ spot-got two boss _ boss_spot in
        let same : part ≡ record { slot = boss.slot; parent = Some handle; name = EXEC; path = named-boss.above.path ++ EXEC ∷ []; value = last } = cc in
        apart (heads-alike root.names EXEC name [] leads.rest part.path (ap (λ (p : grove.Spot Spot). p.path) same ∙ ap (λ (n : List Name). n ++ EXEC ∷ []) at ∙ sym (append-nil (root.names ++ EXEC ∷ []))) leads.is)
  ]

  rooms : (kids : List Kid) → AreToldApart (map entry_of kids) → AllByRecursion (IsRoomFor two root) kids
  rooms [] named = tt
  rooms (kid ∷ kids) named = (room-at _ named.0, rooms kids named.2)

  pub net-root-room : HasOwnNames (sim.Net net) → AllByRecursion (IsRoomFor two (path_at two handle)) (out-Net net).kids
  net-root-room names = subst (λ (p : Path). AllByRecursion (IsRoomFor two p) (out-Net net).kids) (sym net-root-path) (rooms (out-Net net).kids (net-named net names).0)

  abbrev made : Wiring-F WiredKid Wiring
  made = record { me = handle; boss = boss; links = (out-Net net).links; kids = wired }

  abbrev shown_as : Option Spot → Option Spot → List Kid → Net
  shown_as own its kids = net_of (model_in own) (args_in own) (leaf_in its) kids (out-Net net).links

  places-are : part_places handle root (Some (wiring_of handle boss (out-Net net).links wired)) ≡ place handle root true ∷ (flat_map (λ (k : WiredKid). kid_places k root) wired ++ place boss (to_boss root) false ∷ [])
  places-are = ap (λ (ats : List Place). place handle root true ∷ ats)
      (net-stands (roll-Wiring made) root ∙ ap (λ (w : Wiring-F WiredKid Wiring). flat_map (λ (k : WiredKid). kid_places k root) w.kids ++ place w.boss (to_boss root) false ∷ []) (out-roll-Wiring made))

  pub planted-net : AreGrafted two all (path_at two handle) (out-Net net).kids wired → StandsFor all handle (Some (wiring_of handle boss (out-Net net).links wired)) (sim.Net net)
  planted-net grafted_at =
      let grafted = subst (λ (p : Path). AreGrafted two all p (out-Net net).kids wired) net-root-path grafted_at in
      let boss_spot = grown-spot one two handle EXEC last boss root named-boss fresh at in
      let boss_value : value_of all boss ≡ Some last = ap (option_map (λ (p : grove.Spot Spot). p.value)) (kept-spot two all grafted.kept boss _ boss_spot) ∙ grown-value one two handle EXEC last boss root named-boss fresh at in
      let value_is : value_of all handle ≡ Some value =
      ap (option_map (λ (p : grove.Spot Spot). p.value)) (kept-spot two all grafted.kept handle (root_spot handle value) (root-kept ∙ root-spot-is one handle value birth are) ∙ root-kept) ∙ root-value one handle value birth are in
      let kids_at = flat_map (λ (k : WiredKid). kid_places k root) wired in
      let boss_at = place boss (to_boss root) false ∷ [] in
      record {
        shows = ap sim.Net
            (net-shows (value_of all) (roll-Wiring made) handle
            ∙ ap (λ (w : Wiring-F WiredKid Wiring). net_of (model_in (value_of all handle)) (args_in (value_of all handle)) (leaf_in (value_of all w.boss)) (map (kid_under (value_of all)) w.kids) w.links) (out-roll-Wiring made)
            ∙ ap (λ (o : Option Spot). shown_as o (value_of all boss) (map (kid_under (value_of all)) wired)) value_is
            ∙ ap (λ (o : Option Spot). shown_as (Some value) o (map (kid_under (value_of all)) wired)) boss_value
            ∙ ap (λ (ks : List Kid). shown_as (Some value) (Some last) ks) grafted.shows
            ∙ roll-out-Net net);
        itself = made-is made handle refl grafted.themselves;
        live = subst (AllByRecursion (StandsAt all)) (sym places-are) (
          stand-kept two all grafted.kept (place handle root true) (stand-kept one two keep (place handle root true) (root-stands one handle value birth are)),
          all-join (StandsAt all) kids_at boss_at grafted.live (stand-kept two all grafted.kept (place boss (to_boss root) false) (grown-stands one two handle EXEC last boss root named-boss fresh at), tt),
        );
        only = λ other part live. subst (HasBirth other) (sym places-are) (elim (grafted.only other part live) [
          | inl before ↦ elim (grown-only one two handle EXEC last boss root named-boss fresh at other part before) [
            | inl first ↦ inl (root-only one handle value birth are other part first)
            | inr here ↦ inr (birth-right other kids_at boss_at (inl here))
          ]
          | inr there ↦ inr (birth-left other kids_at boss_at there)
        ]);
      }

  pub planted-next : one.next_birth ≡ 1 → AreGrafted two all (path_at two handle) (out-Net net).kids wired → all.next_birth ≡ parts_of_net net
  planted-next first grafted = omega (arith, first, second.next, grafted.next, net-parts net)
