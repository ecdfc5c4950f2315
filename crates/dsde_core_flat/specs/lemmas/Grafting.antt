-- What is put into a grove shows what it was.
use Rattle.std.proofs.Common.{◌≡◌, ◌≢◌, ◌⊎◌, inl, inr, ℕ, ◌+◌, true, false, List, [], ◌∷◌, ◌++◌, map, Option, Some, None, option_and_then, refl, sym, ap, subst, ◌∙◌, append_assoc, arith}
use Rattle.std.specs.Option.{option_map}
use Rattle.std.specs.Ordering.{nat_cmp}
use Rattle.std.specs.List.{flat_map, AllByRecursion}
use Rattle.std.specs.FinMap as map
use Rattle.std.proofs.lemmas.List.{append-nil}
use Rattle.std.proofs.lemmas.List.Sums.{sum_by-cons}
use Rattle.dsde_bank.specs.declared.handle.Handle.{Handle}
use Rattle.dsde_values.specs.declared.name.Name.{Name}
use Rattle.dsde_values.specs.declared.path.Path.{Path}
use Rattle.dsde_values.specs.declared.value.Value.{Value}
use Rattle.dsde_language.specs.declared.ids.ModelId.{ModelId}
use Rattle.dsde_sim_tree.specs.given.formalism.leaf_Leaf.{Leaf}
use Rattle.dsde_routes_wiring.specs.given.structure.plan_Link.{Link}
use Rattle.dsde_values.specs.Path.{EXEC}
use Rattle.dsde_sim_tree.specs.Told.{below, to_boss}
use Rattle.dsde_grove.specs.Grove as grove
use Rattle.dsde_grove.specs.Grove.{Grove, IsTree, Grows, IsKid, spot, value_of, in_slot}
use Rattle.dsde_sim_tree.specs.declared.sim.Kid.{Kid}
use Rattle.dsde_sim_tree.specs.declared.sim.Net.{Net}
use Rattle.dsde_sim_tree.specs.declared.sim.Sim.TheVariants as sim
use Rattle.dsde_sim_tree.specs.declared.sim.Sim.TheOpen as layer
use Rattle.dsde_sim_tree.specs.declared.sim.Sim.TheFolds.{fold-roll-Sim, fold-roll-Kid, fold-roll-Net}
use Rattle.dsde_sim_tree.specs.declared.sim.Sim.TheViews.{rolls-Leaf, rolls-Net}
use Rattle.dsde_sim_tree.specs.Start.{kid_of, net_of}
use Rattle.dsde_sim_tree.specs.Tree.{parts, parts_of_kid, parts_of_kids, parts_step, kid_parts, net_parts}
use Rattle.dsde_core_flat.specs.declared.spot.Spot.{Spot}
use Rattle.dsde_core_flat.specs.declared.spot.Spot.TheVariants as variant
use Rattle.dsde_routes_wiring.specs.declared.wiring.Wiring.{Wiring}
use Rattle.dsde_routes_wiring.specs.declared.wiring.WiredKid.{WiredKid}
use Rattle.dsde_routes_wiring.specs.declared.wiring.WiredKid.TheOpen.{Wiring-F, WiredKid-F}
use Rattle.dsde_routes_wiring.specs.declared.wiring.WiredKid.TheViews.{roll-Wiring, roll-WiredKid, out-roll-Wiring, out-roll-WiredKid}
use Rattle.dsde_core_flat.specs.Shown.{leaf_in, model_in, args_in, kid_under, part_under}
use Rattle.dsde_core_flat.specs.Places.{Place, place, kid_places, part_places}
use Rattle.dsde_core_flat.specs.lemmas.Opened.{kid-shows, net-shows, kid-stands, net-stands}
use Rattle.dsde_core_flat.specs.lemmas.Frame.{all-left, all-right, all-join, Agrees, kid-keeps}
use Rattle.dsde_core_flat.specs.Change.{wired_kid, wiring_of}
use Rattle.dsde_core_flat.specs.Stands.{is_net, StandsAt, HasBirth}
use Rattle.dsde_core_flat.specs.lemmas.Keeping.{spot-got, spot-same}
use Rattle.dsde_core_flat.specs.lemmas.Groves.{get-there, get-other, same-or-not}
use Rattle.dsde_core_flat.specs.lemmas.Moves.{in-its-slot}
use Rattle.dsde_core_flat.specs.Handles.{IsItself, kid_called}
use Rattle.dsde_core_flat.specs.lemmas.Called.{kid-is, made-is, both-themselves}
use Rattle.dsde_core_flat.specs.Grafts.{AreGrafted}

-- what was live is as it was
abbrev pub Keeps : Grove Spot → Grove Spot → Type 0
Keeps old new = (birth : ℕ) (part : grove.Spot Spot) → map.get old.parts birth ≡ Some part → map.get new.parts birth ≡ Some part

module _ (old new : Grove Spot) (keeps : Keeps old new) where
  pub kept-spot : (at : Handle) (part : grove.Spot Spot) → spot old at ≡ Some part → spot new at ≡ spot old at
  kept-spot at part live = spot-same old new at part live (keeps at.birth part (spot-got old at part live))

  pub stand-kept : (at : Place) → StandsAt old at → StandsAt new at
  stand-kept at stands = record { part = stands.part; live = kept-spot at.handle stands.part stands.live ∙ stands.live; path = stands.path; kind = stands.kind }

  pub all-kept : (ats : List Place) → AllByRecursion (StandsAt old) ats → AllByRecursion (StandsAt new) ats
  all-kept [] stands = tt
  all-kept (at ∷ ats) stands = (stand-kept at stands.0, all-kept ats stands.1)

  agree-kept : (ats : List Place) → AllByRecursion (StandsAt old) ats → AllByRecursion (Agrees (value_of old) (value_of new)) ats
  agree-kept [] stands = tt
  agree-kept (at ∷ ats) stands = (ap (option_map (λ (p : grove.Spot Spot). p.value)) (kept-spot at.handle stands.0.part stands.0.live), agree-kept ats stands.1)

  pub kids-kept : (path : Path) (kids : List WiredKid) → AllByRecursion (StandsAt old) (flat_map (λ (kid : WiredKid). kid_places kid path) kids) →
      map (kid_under (value_of new)) kids ≡ map (kid_under (value_of old)) kids
  kids-kept path [] stands = refl
  kids-kept path (kid ∷ kids) stands =
      let one = kid-keeps (value_of old) (value_of new) kid path (agree-kept (kid_places kid path) (all-left (StandsAt old) (kid_places kid path) (flat_map (λ (k : WiredKid). kid_places k path) kids) stands)) in
      let others = kids-kept path kids (all-right (StandsAt old) (kid_places kid path) (flat_map (λ (k : WiredKid). kid_places k path) kids) stands) in
      ap (λ (k : Kid). k ∷ map (kid_under (value_of new)) kids) one ∙ ap (λ (ks : List Kid). kid_under (value_of old) kid ∷ ks) others

map-join : {A B : Type 0} (f : A → B) (xs ys : List A) → map f (xs ++ ys) ≡ map f xs ++ map f ys
map-join f [] ys = refl
map-join f (x ∷ xs) ys = ap (λ (zs : List _). f x ∷ zs) (map-join f xs ys)

pub flat-join : {A B : Type 0} (f : A → List B) (xs ys : List A) → flat_map f (xs ++ ys) ≡ flat_map f xs ++ flat_map f ys
flat-join f [] ys = refl
flat-join f (x ∷ xs) ys = ap (λ (zs : List _). f x ++ zs) (flat-join f xs ys) ∙ sym (append_assoc (f x) (flat_map f xs) (flat_map f ys))

pub parts-cons : (x : Kid) (xs : List Kid) → parts_of_kids (x ∷ xs) ≡ parts_of_kid x + parts_of_kids xs
parts-cons x xs = sum_by-cons (λ n. n) (parts_of_kid x) (map parts_of_kid xs)

pub parts-join : (xs ys : List Kid) → parts_of_kids (xs ++ ys) ≡ parts_of_kids xs + parts_of_kids ys
parts-join [] ys = omega arith
parts-join (x ∷ xs) ys = omega (arith, parts-join xs ys, parts-cons x xs, parts-cons x (xs ++ ys))

pub birth-left : (birth : ℕ) (xs ys : List Place) → HasBirth birth xs → HasBirth birth (xs ++ ys)
birth-left birth [] ys has = absurd has
birth-left birth (x ∷ xs) ys (inl is) = inl is
birth-left birth (x ∷ xs) ys (inr later) = inr (birth-left birth xs ys later)

pub birth-right : (birth : ℕ) (xs ys : List Place) → HasBirth birth ys → HasBirth birth (xs ++ ys)
birth-right birth [] ys has = has
birth-right birth (x ∷ xs) ys has = inr (birth-right birth xs ys has)

births-split : (birth : ℕ) (xs ys : List Place) → HasBirth birth (xs ++ ys) → HasBirth birth xs ⊎ HasBirth birth ys
births-split birth [] ys has = inr has
births-split birth (x ∷ xs) ys (inl here) = inl (inl here)
births-split birth (x ∷ xs) ys (inr later) = elim (births-split birth xs ys later) [ inl one ↦ inl (inr one) | inr other ↦ inr other ]

-- nothing was put in yet
pub graft-none : (own : Grove Spot) (path : Path) → AreGrafted own own path [] []
graft-none own path = record { shows = refl; themselves = tt; live = tt; kept = λ birth part is. is; only = λ birth part is. inl is; next = omega arith; young = λ birth has. absurd has }

-- some components, and then others
pub graft-join : (old mid new : Grove Spot) (path : Path) (own more : List Kid) (kids others : List WiredKid) →
    AreGrafted old mid path own kids → AreGrafted mid new path more others → AreGrafted old new path (own ++ more) (kids ++ others)
graft-join old mid new path own more kids others one other =
    let at = λ (kid : WiredKid). kid_places kid path in
    record {
      shows =
          map-join (kid_under (value_of new)) kids others
          ∙ ap (λ (ks : List Kid). ks ++ map (kid_under (value_of new)) others) (kids-kept mid new other.kept path kids one.live ∙ one.shows)
          ∙ ap (λ (ks : List Kid). own ++ ks) other.shows;
      themselves = both-themselves kids others one.themselves other.themselves;
      live = subst (AllByRecursion (StandsAt new)) (sym (flat-join at kids others)) (all-join (StandsAt new) (flat_map at kids) (flat_map at others) (all-kept mid new other.kept (flat_map at kids) one.live) other.live);
      kept = λ birth part is. other.kept birth part (one.kept birth part is);
      only = λ birth part is. elim (other.only birth part is) [
        | inl before ↦ elim (one.only birth part before) [
          | inl old_one ↦ inl old_one
          | inr its ↦ inr (subst (HasBirth birth) (sym (flat-join at kids others)) (birth-left birth (flat_map at kids) (flat_map at others) its))
        ]
        | inr its ↦ inr (subst (HasBirth birth) (sym (flat-join at kids others)) (birth-right birth (flat_map at kids) (flat_map at others) its))
      ];
      next = omega (arith, one.next, other.next, parts-join own more);
      young = λ birth has. elim (births-split birth (flat_map at kids) (flat_map at others) (subst (HasBirth birth) (flat-join at kids others) has)) [
        | inl here ↦ one.young birth here
        | inr there ↦ let late = other.young birth there in omega (arith, late, one.next)
      ];
    }

-- one part grows
module _ (old new : Grove Spot) (parent : Handle) (name : Name) (value : Spot) (kid : Handle) (path : Path) (grows : Grows old new parent name value kid) (fresh : map.get old.parts kid.birth ≡ None) (at : grows.above.path ≡ path.names) where
  abbrev the_spot : grove.Spot Spot
  the_spot = record { slot = kid.slot; parent = Some parent; name = name; path = grows.above.path ++ name ∷ []; value = value }

  grown-there : map.get new.parts kid.birth ≡ Some the_spot
  grown-there = ap (λ (m : map.FinMap nat_cmp (grove.Spot Spot)). map.get m kid.birth) grows.parts ∙ get-there old.parts kid.birth the_spot

  grown-other : (birth : ℕ) → birth ≢ kid.birth → map.get new.parts birth ≡ map.get old.parts birth
  grown-other birth apart = ap (λ (m : map.FinMap nat_cmp (grove.Spot Spot)). map.get m birth) grows.parts ∙ get-other old.parts kid.birth birth the_spot apart

  pub grown-keeps : Keeps old new
  grown-keeps birth part is = grown-other birth (λ same. let e : map.get old.parts kid.birth ≡ Some part = ap (map.get old.parts) (sym same) ∙ is in cc) ∙ is

  pub grown-only : (birth : ℕ) (part : grove.Spot Spot) → map.get new.parts birth ≡ Some part → (map.get old.parts birth ≡ Some part) ⊎ (kid.birth ≡ birth)
  grown-only birth part is = elim (same-or-not birth kid.birth) [ inl same ↦ inr (sym same) | inr apart ↦ inl (sym (grown-other birth apart) ∙ is) ]

  pub grown-spot : spot new kid ≡ Some the_spot
  grown-spot = ap (option_and_then (in_slot kid.slot)) grown-there ∙ in-its-slot kid.slot the_spot refl

  pub grown-value : value_of new kid ≡ Some value
  grown-value = ap (option_map (λ (p : grove.Spot Spot). p.value)) grown-spot

  pub grown-stands : StandsAt new (place kid (below path name) (is_net value))
  grown-stands = record { part = the_spot; live = grown-spot; path = ap (λ (names : List Name). names ++ name ∷ []) at; kind = refl }

parts-leaf : (leaf : Leaf) (name : Name) → parts_of_kid (kid_of name (sim.Leaf leaf)) ≡ 1
parts-leaf leaf name =
    fold-roll-Kid ℕ ℕ ℕ parts_step kid_parts net_parts (record { name = name; sim = sim.Leaf leaf })
    ∙ ap parts (sym (rolls-Leaf leaf)) ∙ fold-roll-Sim ℕ ℕ ℕ parts_step kid_parts net_parts (layer.Leaf leaf)

pub parts-network : (model : ModelId) (args : List Value) (boss : Leaf) (kids : List Kid) (links : List Link) (name : Name) →
    parts_of_kid (kid_of name (sim.Net (net_of model args boss kids links))) ≡ 2 + parts_of_kids kids
parts-network model args boss kids links name =
    fold-roll-Kid ℕ ℕ ℕ parts_step kid_parts net_parts (record { name = name; sim = sim.Net (net_of model args boss kids links) })
    ∙ ap parts (sym (rolls-Net (net_of model args boss kids links)))
    ∙ fold-roll-Sim ℕ ℕ ℕ parts_step kid_parts net_parts (layer.Net (net_of model args boss kids links))
    ∙ fold-roll-Net ℕ ℕ ℕ parts_step kid_parts net_parts (record { model = model; args = args; boss = boss; kids = kids; links = links })

wired-stands : (name : Name) (handle : Handle) (own : Option Wiring) (path : Path) → kid_places (wired_kid name handle own) path ≡ part_places handle (below path name) own
wired-stands name handle own path =
    let made : WiredKid-F WiredKid Wiring = record { name = name; handle = handle; below = own } in
    kid-stands (roll-WiredKid made) path ∙ ap (λ (k : WiredKid-F WiredKid Wiring). part_places k.handle (below path k.name) k.below) (out-roll-WiredKid made)

wired-shows : (own : Grove Spot) (name : Name) (handle : Handle) (below : Option Wiring) → kid_under (value_of own) (wired_kid name handle below) ≡ kid_of name (part_under (value_of own) handle below)
wired-shows own name handle below =
    let made : WiredKid-F WiredKid Wiring = record { name = name; handle = handle; below = below } in
    kid-shows (value_of own) (roll-WiredKid made) ∙ ap (λ (k : WiredKid-F WiredKid Wiring). kid_of k.name (part_under (value_of own) k.handle k.below)) (out-roll-WiredKid made)

-- a component
pub graft-leaf : (old new : Grove Spot) (parent : Handle) (name : Name) (leaf : Leaf) (kid : Handle) (path : Path) → (grows : Grows old new parent name (variant.Leaf leaf) kid) →
    map.get old.parts kid.birth ≡ None → grows.above.path ≡ path.names → AreGrafted old new path (kid_of name (sim.Leaf leaf) ∷ []) (wired_kid name kid None ∷ [])
graft-leaf old new parent name leaf kid path grows fresh at =
    let its = wired-stands name kid None path in
    let places : flat_map (λ (k : WiredKid). kid_places k path) (wired_kid name kid None ∷ []) ≡ place kid (below path name) false ∷ [] = append-nil (kid_places (wired_kid name kid None) path) ∙ its in
    record {
      shows = ap (λ (k : Kid). k ∷ []) (wired-shows new name kid None ∙ ap (λ (held : Option Spot). kid_of name (sim.Leaf (leaf_in held))) (grown-value old new parent name (variant.Leaf leaf) kid path grows fresh at));
      themselves = all-join IsItself (kid_called (wired_kid name kid None)) [] (kid-is name kid None tt) tt;
      live = subst (AllByRecursion (StandsAt new)) (sym places) (grown-stands old new parent name (variant.Leaf leaf) kid path grows fresh at, tt);
      kept = grown-keeps old new parent name (variant.Leaf leaf) kid path grows fresh at;
      only = λ birth part is. elim (grown-only old new parent name (variant.Leaf leaf) kid path grows fresh at birth part is) [
        | inl before ↦ inl before
        | inr here ↦ inr (subst (HasBirth birth) (sym places) (inl here))
      ];
      next = omega (arith, grows.next, parts-leaf leaf name);
      young = λ birth has. elim (subst (HasBirth birth) places has) [ inl here ↦ omega (arith, grows.birth, here) | inr none ↦ absurd none ];
    }

-- a network, behind its own part, its executive and its components
module _ (one two three all : Grove Spot) (parent handle boss : Handle) (name : Name) (model : ModelId) (args : List Value) (leaf : Leaf) (links : List Link) (own : List Kid) (kids : List WiredKid) (path : Path) where
  abbrev inner : Wiring-F WiredKid Wiring
  inner = record { me = handle; boss = boss; links = links; kids = kids }

  abbrev net_places_are : List Place
  net_places_are = place handle (below path name) true ∷ (flat_map (λ (k : WiredKid). kid_places k (below path name)) kids ++ place boss (to_boss (below path name)) false ∷ [])

  inner-stands : flat_map (λ (k : WiredKid). kid_places k path) (wired_kid name handle (Some (wiring_of handle boss links kids)) ∷ []) ≡ net_places_are
  inner-stands =
      append-nil (kid_places (wired_kid name handle (Some (wiring_of handle boss links kids))) path)
      ∙ wired-stands name handle (Some (wiring_of handle boss links kids)) path
      ∙ ap (λ (ats : List Place). place handle (below path name) true ∷ ats) (net-stands (roll-Wiring inner) (below path name))
      ∙ ap (λ (w : Wiring-F WiredKid Wiring). place handle (below path name) true ∷ (flat_map (λ (k : WiredKid). kid_places k (below path name)) w.kids ++ place w.boss (to_boss (below path name)) false ∷ [])) (out-roll-Wiring inner)

  abbrev shown_as : Option Spot → Option Spot → List Kid → Net
  shown_as held last sims = net_of (model_in held) (args_in held) (leaf_in last) sims links

  inner-shows : (look : Grove Spot) → value_of look handle ≡ Some (variant.Net model args) → value_of look boss ≡ Some (variant.Leaf leaf) → map (kid_under (value_of look)) kids ≡ own →
      kid_under (value_of look) (wired_kid name handle (Some (wiring_of handle boss links kids))) ≡ kid_of name (sim.Net (net_of model args leaf own links))
  inner-shows look held last sims =
      wired-shows look name handle (Some (wiring_of handle boss links kids))
      ∙ ap (λ (n : Net). kid_of name (sim.Net n))
      (net-shows (value_of look) (roll-Wiring inner) handle
      ∙ ap (λ (w : Wiring-F WiredKid Wiring). net_of (model_in (value_of look handle)) (args_in (value_of look handle)) (leaf_in (value_of look w.boss)) (map (kid_under (value_of look)) w.kids) w.links) (out-roll-Wiring inner)
      ∙ ap (λ (h : Option Spot). shown_as h (value_of look boss) (map (kid_under (value_of look)) kids)) held
      ∙ ap (λ (h : Option Spot). shown_as (Some (variant.Net model args)) h (map (kid_under (value_of look)) kids)) last
      ∙ ap (λ (ks : List Kid). shown_as (Some (variant.Net model args)) (Some (variant.Leaf leaf)) ks) sims)

  pub graft-net : (first : Grows one two parent name (variant.Net model args) handle) → map.get one.parts handle.birth ≡ None → first.above.path ≡ path.names →
      (second : Grows two three handle EXEC (variant.Leaf leaf) boss) → map.get two.parts boss.birth ≡ None →
      AreGrafted three all (below path name) own kids →
      AreGrafted one all path (kid_of name (sim.Net (net_of model args leaf own links)) ∷ []) (wired_kid name handle (Some (wiring_of handle boss links kids)) ∷ [])
  graft-net first fresh at second fresh_two grafted =
      let value : Spot = variant.Net model args in
      let last : Spot = variant.Leaf leaf in
      let its = grown-spot one two parent name value handle path first fresh at in
      let same_spot : second.above ≡ record { slot = handle.slot; parent = Some parent; name = name; path = first.above.path ++ name ∷ []; value = value } = let live : spot two handle ≡ Some second.above = second.live in cc in
      let at_two : second.above.path ≡ (below path name).names = ap (λ (p : grove.Spot Spot). p.path) same_spot ∙ ap (λ (names : List Name). names ++ name ∷ []) at in
      let keep_one = grown-keeps one two parent name value handle path first fresh at in
      let keep_two = grown-keeps two three handle EXEC last boss (below path name) second fresh_two at_two in
      let later : Keeps two all = λ birth part is. grafted.kept birth part (keep_two birth part is) in
      let held = kept-spot two all later handle second.above second.live in
      let boss_spot = grown-spot two three handle EXEC last boss (below path name) second fresh_two at_two in
      let boss_held = kept-spot three all grafted.kept boss (record { slot = boss.slot; parent = Some handle; name = EXEC; path = second.above.path ++ EXEC ∷ []; value = last }) boss_spot in
      let stands = grown-stands one two parent name value handle path first fresh at in
      let boss_stands = grown-stands two three handle EXEC last boss (below path name) second fresh_two at_two in
      let kids_at = flat_map (λ (k : WiredKid). kid_places k (below path name)) kids in
      let boss_at = place boss (to_boss (below path name)) false ∷ [] in
      record {
        shows = ap (λ (k : Kid). k ∷ []) (inner-shows all
            (ap (option_map (λ (p : grove.Spot Spot). p.value)) held ∙ grown-value one two parent name value handle path first fresh at)
            (ap (option_map (λ (p : grove.Spot Spot). p.value)) boss_held ∙ grown-value two three handle EXEC last boss (below path name) second fresh_two at_two)
            grafted.shows);
        themselves = all-join IsItself (kid_called (wired_kid name handle (Some (wiring_of handle boss links kids)))) []
            (kid-is name handle (Some (wiring_of handle boss links kids)) (made-is inner handle refl grafted.themselves)) tt;
        live = subst (AllByRecursion (StandsAt all)) (sym inner-stands) (
          stand-kept two all later (place handle (below path name) true) stands,
          all-join (StandsAt all) kids_at boss_at grafted.live (stand-kept three all grafted.kept (place boss (to_boss (below path name)) false) boss_stands, tt),
        );
        kept = λ birth part is. later birth part (keep_one birth part is);
        only = λ birth part is. elim (grafted.only birth part is) [
          | inl before ↦ elim (grown-only two three handle EXEC last boss (below path name) second fresh_two at_two birth part before) [
            | inl earlier ↦ elim (grown-only one two parent name value handle path first fresh at birth part earlier) [
              | inl first_of ↦ inl first_of
              | inr here ↦ inr (subst (HasBirth birth) (sym inner-stands) (inl here))
            ]
            | inr here ↦ inr (subst (HasBirth birth) (sym inner-stands) (inr (birth-right birth kids_at boss_at (inl here))))
          ]
          | inr there ↦ inr (subst (HasBirth birth) (sym inner-stands) (inr (birth-left birth kids_at boss_at there)))
        ];
        next = omega (arith, first.next, second.next, grafted.next, parts-network model args leaf own links name);
        young = λ birth has. elim (subst (HasBirth birth) inner-stands has) [
          | inl here ↦ omega (arith, first.birth, here)
          | inr others ↦ elim (births-split birth kids_at boss_at others) [
            | inl there ↦ let late = grafted.young birth there in omega (arith, late, first.next, second.next)
            | inr here ↦ elim here [ inl is ↦ omega (arith, second.birth, is, first.next) | inr none ↦ absurd none ]
          ]
        ];
      }
