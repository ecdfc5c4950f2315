-- Components leave a network one after another.
use Rattle.std.proofs.Common.{◌≡◌, ◌≢◌, ◌⊎◌, inl, inr, ℕ, ◌+◌, ◌^◌, ◌<◌, ◌≤◌, Bool, true, false, not, cond, List, [], ◌∷◌, ◌++◌, length, take, map, Option, Some, None, IsSome, refl, sym, ap, subst, ◌∙◌, append_assoc, arith}
use Rattle.std.specs.Option.{option_map}
use Rattle.std.specs.List.{AllByRecursion}
use Rattle.std.specs.FinMap as map
use Rattle.std.proofs.lemmas.List.{append-nil}
use Rattle.std.proofs.Math.Seq.{take-append_seam}
use Rattle.dsde_bank.specs.declared.handle.Handle.{Handle}
use Rattle.dsde_values.specs.declared.name.Name.{Name}
use Rattle.dsde_values.specs.declared.path.Path.{Path}
use Rattle.dsde_routes_wiring.specs.given.structure.plan_Entry.{Entry}
use Rattle.dsde_routes_wiring.specs.given.structure.Gather.{is_same_name}
use Rattle.dsde_sim_tree.specs.declared.event.Event.{Event}
use Rattle.dsde_sim_tree.specs.declared.event.Event.TheVariants.{Drop}
use Rattle.dsde_values.specs.Path.{EXEC}
use Rattle.dsde_sim_tree.specs.Told.{IsCut, below, to_boss}
use Rattle.dsde_core_flat.specs.given.grove.Grove as grove
use Rattle.dsde_core_flat.specs.given.grove.Grove.{Grove, DropsSubtree, spot, value_of}
use Rattle.dsde_sim_tree.specs.declared.sim.Kid.{Kid}
use Rattle.dsde_sim_tree.specs.declared.sim.Sim.TheViews.{out-Kid}
use Rattle.dsde_sim_tree.specs.declared.sim.Sim.{Sim}
use Rattle.dsde_sim_tree.specs.lemmas.Trees.{each_tree}
use Rattle.dsde_core_flat.specs.given.sim_movers.lemmas_Opened.{parts-Leaf, parts-Net, parts-kid}
use Rattle.dsde_sim_tree.specs.Tree.{parts, parts_of_kid, parts_of_kids, entry_of}
use Rattle.dsde_sim_tree.specs.Move.{drop_of}
use Rattle.dsde_core_flat.specs.declared.spot.Spot.{Spot}
use Rattle.dsde_routes_wiring.specs.declared.wiring.Wiring.{Wiring}
use Rattle.dsde_routes_wiring.specs.declared.wiring.WiredKid.{WiredKid}
use Rattle.dsde_routes_wiring.specs.declared.wiring.WiredKid.TheViews.{out-WiredKid}
use Rattle.dsde_core_flat.specs.Shown.{kid_under}
use Rattle.dsde_core_flat.specs.Places.{Place, place, kid_places, part_places}
use Rattle.dsde_core_flat.specs.lemmas.Opened.{kid-stands}
use Rattle.dsde_core_flat.specs.lemmas.Frame.{all-left, all-right}
use Rattle.dsde_core_flat.specs.lemmas.Names.{name-exact, same-itself}
use Rattle.dsde_core_flat.specs.Stands.{StandsAt, HasBirth, Leads, ChangesBeneath}
use Rattle.dsde_core_flat.specs.lemmas.Keeping.{spot-got, spot-kept}
use Rattle.dsde_core_flat.specs.lemmas.Groves.{changes-none, changes-twice, changes-above}
use Rattle.dsde_core_flat.specs.lemmas.Grafting.{parts-cons, parts-join}
use Rattle.dsde_core_flat.specs.Named.{AreToldApart, KidHasOwnNames}
use Rattle.dsde_core_flat.specs.lemmas.Growing.{among, heads-alike, longer}
use Rattle.dsde_core_flat.specs.Places.{places_of}
use Rattle.dsde_core_flat.specs.Stands.{NetStands}
use Rattle.dsde_core_flat.specs.lemmas.Inside.{unnamed, drop-there, drop-stands, drop-shows, longer-here, beneath-there}
use Rattle.dsde_core_flat.specs.Scheduled.{IsScheduledBut}
use Rattle.dsde_core_flat.specs.lemmas.Waiting.{subtree-left}
use Rattle.dsde_core_moves.specs.Chosen.{chosen, lost, shown}
use Rattle.dsde_core_flat.specs.lemmas.Apart.{name-shown, drop-count}

map-join : {A B : Type 0} (f : A → B) (xs ys : List A) → map f (xs ++ ys) ≡ map f xs ++ map f ys
map-join f [] ys = refl
map-join f (x ∷ xs) ys = ap (λ (zs : List _). f x ∷ zs) (map-join f xs ys)

-- without the one in the middle
all-without : {A : Type 0} (P : A → Type 0) (xs : List A) (x : A) (ys : List A) → AllByRecursion P (xs ++ x ∷ ys) → AllByRecursion P (xs ++ ys)
all-without P [] x ys all = all.1
all-without P (y ∷ xs) x ys all = (all.0, all-without P xs x ys all.1)

all-at : {A : Type 0} (P : A → Type 0) (xs : List A) (x : A) (ys : List A) → AllByRecursion P (xs ++ x ∷ ys) → P x
all-at P [] x ys all = all.0
all-at P (y ∷ xs) x ys all = all-at P xs x ys all.1

module _ (own : Grove Spot) where
  abbrev entries : List WiredKid → List Entry
  entries kids = map entry_of (shown own kids)

  -- the names of other components
  abbrev IsOther : Name → WiredKid → Type 0
  IsOther name kid = (out-WiredKid kid).name ≢ name

  others-later : (name : Name) (kids : List WiredKid) → AllByRecursion (λ (other : Entry). name ≢ other.name) (entries kids) → AllByRecursion (IsOther name) kids
  others-later name [] all = tt
  others-later name (kid ∷ kids) all = ((λ same. all.0 (sym same ∙ sym (name-shown (value_of own) kid))), others-later name kids all.1)

  name-at : (name : Name) (front : List WiredKid) (kid : WiredKid) (later : List WiredKid) → AllByRecursion (λ (other : Entry). name ≢ other.name) (entries (front ++ kid ∷ later)) → name ≢ (out-WiredKid kid).name
  name-at name [] kid later all = λ same. all.0 (same ∙ sym (name-shown (value_of own) kid))
  name-at name (one ∷ front) kid later all = name-at name front kid later all.1

  pub others : (front : List WiredKid) (kid : WiredKid) (later : List WiredKid) → AreToldApart (entries (front ++ kid ∷ later)) → AllByRecursion (IsOther (out-WiredKid kid).name) (front ++ later)
  others [] kid later named = others-later (out-WiredKid kid).name later (subst (λ (n : Name). AllByRecursion (λ (other : Entry). n ≢ other.name) (entries later)) (name-shown (value_of own) kid) named.1)
  others (one ∷ front) kid later named =
      ((λ same. name-at (out-Kid (kid_under (value_of own) one)).name front kid later named.1 (name-shown (value_of own) one ∙ same)), others front kid later named.2)

  no-exec : (front : List WiredKid) (kid : WiredKid) (later : List WiredKid) → AreToldApart (entries (front ++ kid ∷ later)) → EXEC ≢ (out-WiredKid kid).name
  no-exec [] kid later named = λ same. named.0 (same ∙ sym (name-shown (value_of own) kid))
  no-exec (one ∷ front) kid later named = no-exec front kid later named.2

  names-without : (name : Name) (front : List WiredKid) (kid : WiredKid) (later : List WiredKid) → AllByRecursion (λ (other : Entry). name ≢ other.name) (entries (front ++ kid ∷ later)) →
      AllByRecursion (λ (other : Entry). name ≢ other.name) (entries (front ++ later))
  names-without name [] kid later all = all.1
  names-without name (one ∷ front) kid later all = (all.0, names-without name front kid later all.1)

  pub named-without : (front : List WiredKid) (kid : WiredKid) (later : List WiredKid) → AreToldApart (entries (front ++ kid ∷ later)) → AreToldApart (entries (front ++ later))
  named-without [] kid later named = named.2
  named-without (one ∷ front) kid later named = (named.0, names-without (out-Kid (kid_under (value_of own) one)).name front kid later named.1, named-without front kid later named.2)

  pub inside-without : (P : Kid → Type 0) (front : List WiredKid) (kid : WiredKid) (later : List WiredKid) → AllByRecursion P (shown own (front ++ kid ∷ later)) → AllByRecursion P (shown own (front ++ later))
  inside-without P [] kid later all = all.1
  inside-without P (one ∷ front) kid later all = (all.0, inside-without P front kid later all.1)

  pub inside-at : (P : Kid → Type 0) (front : List WiredKid) (kid : WiredKid) (later : List WiredKid) → AllByRecursion P (shown own (front ++ kid ∷ later)) → P (kid_under (value_of own) kid)
  inside-at P [] kid later all = all.0
  inside-at P (one ∷ front) kid later all = inside-at P front kid later all.1

-- all others stay where one leaves
unnamed-one : (name : Name) (kid : WiredKid) (kids : List WiredKid) (b : Bool) → is_same_name (out-WiredKid kid).name name ≡ b → (out-WiredKid kid).name ≢ name → cond (not b) (kid ∷ kids) kids ≡ kid ∷ kids
unnamed-one name kid kids true is apart = absurd (apart (name-exact (out-WiredKid kid).name name is))
unnamed-one name kid kids false is apart = refl

unnamed-others : (name : Name) (kids : List WiredKid) → AllByRecursion (λ (kid : WiredKid). (out-WiredKid kid).name ≢ name) kids → unnamed name kids ≡ kids
unnamed-others name [] apart = refl
unnamed-others name (kid ∷ kids) apart =
    unnamed-one name kid (unnamed name kids) (is_same_name (out-WiredKid kid).name name) refl apart.0 ∙ ap (λ (ks : List WiredKid). kid ∷ ks) (unnamed-others name kids apart.1)

unnamed-itself : (kid : WiredKid) (kids : List WiredKid) → unnamed (out-WiredKid kid).name (kid ∷ kids) ≡ unnamed (out-WiredKid kid).name kids
unnamed-itself kid kids = ap (λ (b : Bool). cond (not b) (kid ∷ unnamed (out-WiredKid kid).name kids) (unnamed (out-WiredKid kid).name kids)) (same-itself (out-WiredKid kid).name)

pub unnamed-middle : (front : List WiredKid) (kid : WiredKid) (later : List WiredKid) → AllByRecursion (λ (one : WiredKid). (out-WiredKid one).name ≢ (out-WiredKid kid).name) (front ++ later) →
    unnamed (out-WiredKid kid).name (front ++ kid ∷ later) ≡ front ++ later
unnamed-middle [] kid later apart = unnamed-itself kid later ∙ unnamed-others (out-WiredKid kid).name later apart
unnamed-middle (one ∷ front) kid later apart =
    unnamed-one (out-WiredKid kid).name one (unnamed (out-WiredKid kid).name (front ++ kid ∷ later)) (is_same_name (out-WiredKid one).name (out-WiredKid kid).name) refl apart.0
    ∙ ap (λ (ks : List WiredKid). one ∷ ks) (unnamed-middle front kid later apart.1)

-- what lives beneath a component stands at its places
module _ (own : Grove Spot) (path : Path) (birth : ℕ) (part : grove.Spot Spot) (is : map.get own.parts birth ≡ Some part) where
  split : (xs ys : List Place) → HasBirth birth (xs ++ ys) → HasBirth birth xs ⊎ HasBirth birth ys
  split [] ys has = inr has
  split (x ∷ xs) ys (inl here) = inl (inl here)
  split (x ∷ xs) ys (inr later) = elim (split xs ys later) [ inl one ↦ inl (inr one) | inr other ↦ inr other ]

  not-there : (one kid : WiredKid) → AllByRecursion (StandsAt own) (kid_places one path) → (out-WiredKid one).name ≢ (out-WiredKid kid).name → Leads (path.names ++ (out-WiredKid kid).name ∷ []) part.path → ¬ HasBirth birth (kid_places one path)
  not-there one kid stands apart leads has =
      let here = among own (path.names ++ (out-WiredKid one).name ∷ []) birth part is (kid_places one path) stands (beneath-there path one) has in
      apart (heads-alike path.names (out-WiredKid one).name (out-WiredKid kid).name here.rest leads.rest part.path here.is leads.is)

  none-of : (kids : List WiredKid) (kid : WiredKid) → AllByRecursion (StandsAt own) (places_of path kids) →
      AllByRecursion (λ (one : WiredKid). (out-WiredKid one).name ≢ (out-WiredKid kid).name) kids → Leads (path.names ++ (out-WiredKid kid).name ∷ []) part.path → ¬ HasBirth birth (places_of path kids)
  none-of [] kid stands apart leads has = has
  none-of (one ∷ kids) kid stands apart leads has = elim (split (kid_places one path) (places_of path kids) has) [
    | inl here ↦ not-there one kid (all-left (StandsAt own) (kid_places one path) (places_of path kids) stands) apart.0 leads here
    | inr later ↦ none-of kids kid (all-right (StandsAt own) (kid_places one path) (places_of path kids) stands) apart.1 leads later
  ]

  pub its-own : (front : List WiredKid) (kid : WiredKid) (later : List WiredKid) → AllByRecursion (StandsAt own) (places_of path (front ++ kid ∷ later)) →
      AllByRecursion (λ (one : WiredKid). (out-WiredKid one).name ≢ (out-WiredKid kid).name) (front ++ later) → Leads (path.names ++ (out-WiredKid kid).name ∷ []) part.path →
      HasBirth birth (places_of path (front ++ kid ∷ later)) → HasBirth birth (kid_places kid path)
  its-own [] kid later stands apart leads has = elim (split (kid_places kid path) (places_of path later) has) [
    | inl here ↦ here
    | inr other ↦ absurd (none-of later kid (all-right (StandsAt own) (kid_places kid path) (places_of path later) stands) apart leads other)
  ]
  its-own (one ∷ front) kid later stands apart leads has = elim (split (kid_places one path) (places_of path (front ++ kid ∷ later)) has) [
    | inl here ↦ absurd (not-there one kid (all-left (StandsAt own) (kid_places one path) (places_of path (front ++ kid ∷ later)) stands) apart.0 leads here)
    | inr other ↦ its-own front kid later (all-right (StandsAt own) (kid_places one path) (places_of path (front ++ kid ∷ later)) stands) apart.1 leads other
  ]

-- the places of a component in the middle
kid-live : (own : Grove Spot) (path : Path) (front : List WiredKid) (kid : WiredKid) (later : List WiredKid) → AllByRecursion (StandsAt own) (places_of path (front ++ kid ∷ later)) → AllByRecursion (StandsAt own) (kid_places kid path)
kid-live own path [] kid later stands = all-left (StandsAt own) (kid_places kid path) (places_of path later) stands
kid-live own path (one ∷ front) kid later stands = kid-live own path front kid later (all-right (StandsAt own) (kid_places one path) (places_of path (front ++ kid ∷ later)) stands)

-- the component's own place
own-place : (own : Grove Spot) (path : Path) (kid : WiredKid) → AllByRecursion (StandsAt own) (kid_places kid path) → (b : Bool) × StandsAt own (place (out-WiredKid kid).handle (below path (out-WiredKid kid).name) b)
own-place own path kid stands = head (out-WiredKid kid).below (subst (AllByRecursion (StandsAt own)) (kid-stands kid path) stands)
  where
    head : (wired : Option Wiring) → AllByRecursion (StandsAt own) (part_places (out-WiredKid kid).handle (below path (out-WiredKid kid).name) wired) → (b : Bool) × StandsAt own (place (out-WiredKid kid).handle (below path (out-WiredKid kid).name) b)
    head None all = (false, all.0)
    head (Some net) all = (true, all.0)

-- One component of a network leaves it.
module _ (own new : Grove Spot) (net boss : Handle) (path : Path) (front : List WiredKid) (kid : WiredKid) (later : List WiredKid)
    (stands : NetStands own net boss path (front ++ kid ∷ later)) (named : AreToldApart (map entry_of (shown own (front ++ kid ∷ later)))) (inside : AllByRecursion KidHasOwnNames (shown own (front ++ kid ∷ later)))
    (drops : DropsSubtree own new (out-WiredKid kid).handle) where
  its : AllByRecursion (StandsAt own) (kid_places kid path)
  its = kid-live own path front kid later stands.components

  pub kid-is-live : IsSome (spot own (out-WiredKid kid).handle)
  kid-is-live = let head = (own-place own path kid its).1 in subst (λ (o : Option (grove.Spot Spot)). IsSome o) (sym head.live) refl

  at : drops.part.path ≡ path.names ++ (out-WiredKid kid).name ∷ []
  at =
      let head = (own-place own path kid its).1 in
      let same : drops.part ≡ head.part = let one : spot own (out-WiredKid kid).handle ≡ Some drops.part = drops.live in let two : spot own (out-WiredKid kid).handle ≡ Some head.part = head.live in cc in
      ap (λ (p : grove.Spot Spot). p.path) same ∙ head.path

  apart : AllByRecursion (λ (one : WiredKid). (out-WiredKid one).name ≢ (out-WiredKid kid).name) (front ++ later)
  apart = others own front kid later named

  exec : EXEC ≢ (out-WiredKid kid).name
  exec = no-exec own front kid later named

  left : unnamed (out-WiredKid kid).name (front ++ kid ∷ later) ≡ front ++ later
  left = unnamed-middle front kid later apart

  pub left-stands : NetStands new net boss path (front ++ later)
  left-stands = subst (NetStands new net boss path) left (drop-stands own new (out-WiredKid kid).handle net boss path (out-WiredKid kid).name (front ++ kid ∷ later) stands exec drops at)

  pub left-shows : shown new (front ++ later) ≡ shown own (front ++ later)
  left-shows = subst (λ (ks : List WiredKid). shown new ks ≡ shown own ks) left (drop-shows own new (out-WiredKid kid).handle net boss path (out-WiredKid kid).name (front ++ kid ∷ later) stands exec drops at)

  there : ChangesBeneath (path.names ++ (out-WiredKid kid).name ∷ []) own new
  there = drop-there own new (out-WiredKid kid).handle net boss path (out-WiredKid kid).name (front ++ kid ∷ later) stands exec drops at

  pub left-changes : ChangesBeneath path.names own new
  left-changes = changes-above path.names ((out-WiredKid kid).name ∷ []) own new there

  pub left-net : value_of new net ≡ value_of own net
  left-net = ap (option_map (λ (p : grove.Spot Spot). p.value)) (spot-kept own new (path.names ++ (out-WiredKid kid).name ∷ []) there (place net path true) stands.itself (longer-here path (out-WiredKid kid).name net true))

  pub left-boss : value_of new boss ≡ value_of own boss
  left-boss = ap (option_map (λ (p : grove.Spot Spot). p.value)) (spot-kept own new (path.names ++ (out-WiredKid kid).name ∷ []) there (place boss (to_boss path) false) stands.executive
      (λ over. exec (heads-alike path.names EXEC (out-WiredKid kid).name [] over.rest (path.names ++ EXEC ∷ []) (sym (append-nil (path.names ++ EXEC ∷ []))) over.is)))

  -- what lives beneath the component is its own
  only-its : (birth : ℕ) (part : grove.Spot Spot) → map.get own.parts birth ≡ Some part → Leads (path.names ++ (out-WiredKid kid).name ∷ []) part.path → HasBirth birth (kid_places kid path)
  only-its birth part is leads = elim (stands.only birth part is (record { rest = (out-WiredKid kid).name ∷ leads.rest; is = leads.is ∙ append_assoc path.names ((out-WiredKid kid).name ∷ []) leads.rest })) [
    | inl here ↦
        let live : map.get own.parts birth ≡ Some stands.itself.part = ap (map.get own.parts) (sym here) ∙ spot-got own net stands.itself.part stands.itself.live in
        let same : part ≡ stands.itself.part = cc in
        absurd (longer path.names (out-WiredKid kid).name leads.rest (sym stands.itself.path ∙ ap (λ (p : grove.Spot Spot). p.path) (sym same) ∙ leads.is))
    | inr other ↦ elim other [
      | inl last ↦
          let live : map.get own.parts birth ≡ Some stands.executive.part = ap (map.get own.parts) (sym last) ∙ spot-got own boss stands.executive.part stands.executive.live in
          let same : part ≡ stands.executive.part = cc in
          absurd (exec (heads-alike path.names EXEC (out-WiredKid kid).name [] leads.rest part.path (ap (λ (p : grove.Spot Spot). p.path) same ∙ stands.executive.path ∙ sym (append-nil (path.names ++ EXEC ∷ []))) leads.is))
      | inr kids ↦ its-own own path birth part is front kid later stands.components apart leads kids
    ]
  ]

  -- the parts that leave are those of the component
  pub left-count : (count : ℕ) → map.len new.parts + count ≡ map.len own.parts → count ≡ parts_of_kid (kid_under (value_of own) kid)
  left-count count is =
      let its_count = drop-count own new (out-WiredKid kid).handle path kid drops at its (inside-at own KidHasOwnNames front kid later inside) only-its in
      omega (arith, is, its_count)

-- a component has a part at least
some-parts : (tree : Sim) → 1 ≤ parts tree
some-parts = each_tree (λ tree. 1 ≤ parts tree) (λ leaf. omega (arith, parts-Leaf leaf)) (λ net known. omega (arith, parts-Net net))

pub some-of-kid : (kid : Kid) → 1 ≤ parts_of_kid kid
some-of-kid kid = omega (arith, some-parts (out-Kid kid).sim, parts-kid kid)

-- The components of a network so far: some stay in front, some are out, and these are still to be tried.
module _ (old : Grove Spot) (net boss : Handle) (path : Path) (all : List WiredKid) (tests : List Bool) (room : ℕ) (told : List Event) where
  pub record Drops (own : Grove Spot) (kids : List WiredKid) (keeps : List Bool) (now : ℕ) (events : List Event) : Type 0 where
    pub front : List WiredKid
    pub out : List Kid
    pub kept : front ++ chosen keeps kids ≡ chosen tests all
    pub gone : out ++ shown old (lost keeps kids) ≡ shown old (lost tests all)
    pub stands : NetStands own net boss path (front ++ kids)
    pub shows : shown own (front ++ kids) ≡ shown old (front ++ kids)
    pub named : AreToldApart (map entry_of (shown old (front ++ kids)))
    pub inside : AllByRecursion KidHasOwnNames (shown old (front ++ kids))
    pub changes : ChangesBeneath path.names old own
    pub waits : (waiting : List Handle) (pairs : List (ℕ × Handle)) → IsScheduledBut old waiting pairs → IsScheduledBut own waiting pairs
    pub itself : value_of own net ≡ value_of old net
    pub executive : value_of own boss ≡ value_of old boss
    pub born : own.next_birth ≡ old.next_birth
    pub rooms : now ≡ room + parts_of_kids out
    pub tells : events ≡ told ++ map (drop_of path) out

  pub drops-begin : NetStands old net boss path all → AreToldApart (map entry_of (shown old all)) → AllByRecursion KidHasOwnNames (shown old all) → Drops old all tests room told
  drops-begin stands named inside = record {
    front = [];
    out = [];
    kept = refl;
    gone = refl;
    stands = stands;
    shows = refl;
    named = named;
    inside = inside;
    changes = changes-none path.names old;
    waits = λ waiting pairs but. but;
    itself = refl;
    executive = refl;
    born = refl;
    rooms = omega arith;
    tells = sym (append-nil told);
  }

  -- one stays
  pub drops-keep : (own : Grove Spot) (kid : WiredKid) (later : List WiredKid) (keeps : List Bool) (now : ℕ) (events : List Event) → Drops own (kid ∷ later) (true ∷ keeps) now events → Drops own later keeps now events
  drops-keep own kid later keeps now events goes =
      let is : goes.front ++ kid ∷ later ≡ (goes.front ++ kid ∷ []) ++ later = sym (append_assoc goes.front (kid ∷ []) later) in
      record {
        front = goes.front ++ kid ∷ [];
        out = goes.out;
        kept = append_assoc goes.front (kid ∷ []) (chosen keeps later) ∙ goes.kept;
        gone = goes.gone;
        stands = subst (NetStands own net boss path) is goes.stands;
        shows = subst (λ (ks : List WiredKid). shown own ks ≡ shown old ks) is goes.shows;
        named = subst (λ (ks : List WiredKid). AreToldApart (map entry_of (shown old ks))) is goes.named;
        inside = subst (λ (ks : List WiredKid). AllByRecursion KidHasOwnNames (shown old ks)) is goes.inside;
        changes = goes.changes;
        waits = goes.waits;
        itself = goes.itself;
        executive = goes.executive;
        born = goes.born;
        rooms = goes.rooms;
        tells = goes.tells;
      }

  module _ (own : Grove Spot) (kid : WiredKid) (later : List WiredKid) (keeps : List Bool) (now : ℕ) (events : List Event) (goes : Drops own (kid ∷ later) (false ∷ keeps) now events) where
    names-now : AreToldApart (map entry_of (shown own (goes.front ++ kid ∷ later)))
    names-now = subst (λ (ks : List Kid). AreToldApart (map entry_of ks)) (sym goes.shows) goes.named

    inside-now : AllByRecursion KidHasOwnNames (shown own (goes.front ++ kid ∷ later))
    inside-now = subst (AllByRecursion KidHasOwnNames) (sym goes.shows) goes.inside

    middle : (front : List WiredKid) → shown own (front ++ kid ∷ later) ≡ shown old (front ++ kid ∷ later) → shown own (front ++ later) ≡ shown old (front ++ later)
    middle [] is = let e : kid_under (value_of own) kid ∷ shown own later ≡ kid_under (value_of old) kid ∷ shown old later = is in cc
    middle (one ∷ front) is =
        let e : kid_under (value_of own) one ∷ shown own (front ++ kid ∷ later) ≡ kid_under (value_of old) one ∷ shown old (front ++ kid ∷ later) = is in
        let rest : shown own (front ++ kid ∷ later) ≡ shown old (front ++ kid ∷ later) = cc in
        let head : kid_under (value_of own) one ≡ kid_under (value_of old) one = cc in
        let more = middle front rest in
        ap (λ (k : Kid). k ∷ shown own (front ++ later)) head ∙ ap (λ (ks : List Kid). kid_under (value_of old) one ∷ ks) more

    here-same : (front : List WiredKid) → shown own (front ++ kid ∷ later) ≡ shown old (front ++ kid ∷ later) → kid_under (value_of own) kid ≡ kid_under (value_of old) kid
    here-same [] is = let e : kid_under (value_of own) kid ∷ shown own later ≡ kid_under (value_of old) kid ∷ shown old later = is in cc
    here-same (one ∷ front) is =
        let e : kid_under (value_of own) one ∷ shown own (front ++ kid ∷ later) ≡ kid_under (value_of old) one ∷ shown old (front ++ kid ∷ later) = is in
        here-same front (let rest : shown own (front ++ kid ∷ later) ≡ shown old (front ++ kid ∷ later) = cc in rest)

    pub drops-live : IsSome (spot own (out-WiredKid kid).handle)
    drops-live = let head = (own-place own path kid (kid-live own path goes.front kid later goes.stands.components)).1 in subst (λ (o : Option (grove.Spot Spot)). IsSome o) (sym head.live) refl

    pub drops-room : (few : room + parts_of_kids (shown old (lost tests all)) < 2 ^ 64) → now + parts_of_kid (kid_under (value_of old) kid) < 2 ^ 64
    drops-room few =
        omega (arith, few, goes.rooms, ap parts_of_kids goes.gone, parts-join goes.out (shown old (kid ∷ lost keeps later)), parts-cons (kid_under (value_of old) kid) (shown old (lost keeps later)))

    -- one leaves
    module _ (new : Grove Spot) (drops : DropsSubtree own new (out-WiredKid kid).handle) (count : ℕ) (is_count : map.len new.parts + count ≡ map.len own.parts) where
      pub counted : count ≡ parts_of_kid (kid_under (value_of old) kid)
      counted = left-count own new net boss path goes.front kid later goes.stands names-now inside-now drops count is_count ∙ ap parts_of_kid (here-same goes.front goes.shows)

      name-same : (out-Kid (kid_under (value_of old) kid)).name ≡ (out-WiredKid kid).name
      name-same = name-shown (value_of old) kid

      pub drops-on : (after : List Event) → after ≡ events ++ Drop (below path (out-WiredKid kid).name) count ∷ [] → Drops new later keeps (now + count) after
      drops-on after is =
          let one = kid_under (value_of old) kid in
          record {
            front = goes.front;
            out = goes.out ++ one ∷ [];
            kept = goes.kept;
            gone = append_assoc goes.out (one ∷ []) (shown old (lost keeps later)) ∙ goes.gone;
            stands = left-stands own new net boss path goes.front kid later goes.stands names-now inside-now drops;
            shows = left-shows own new net boss path goes.front kid later goes.stands names-now inside-now drops ∙ middle goes.front goes.shows;
            named = named-without old goes.front kid later goes.named;
            inside = inside-without old KidHasOwnNames goes.front kid later goes.inside;
            changes = changes-twice path.names old own new goes.changes (left-changes own new net boss path goes.front kid later goes.stands names-now inside-now drops);
            waits = λ waiting pairs but. subtree-left own new (out-WiredKid kid).handle waiting pairs drops (goes.waits waiting pairs but);
            itself = left-net own new net boss path goes.front kid later goes.stands names-now inside-now drops ∙ goes.itself;
            executive = left-boss own new net boss path goes.front kid later goes.stands names-now inside-now drops ∙ goes.executive;
            born = drops.next ∙ goes.born;
            rooms = omega (arith, goes.rooms, counted, parts-join goes.out (one ∷ []), parts-cons one []);
            tells =
                is ∙ ap (λ (es : List Event). es ++ Drop (below path (out-WiredKid kid).name) count ∷ []) goes.tells
                ∙ append_assoc told (map (drop_of path) goes.out) (Drop (below path (out-WiredKid kid).name) count ∷ [])
                ∙ ap (λ (e : Event). told ++ (map (drop_of path) goes.out ++ e ∷ []))
                (ap (λ (n : ℕ). Drop (below path (out-WiredKid kid).name) n) counted ∙ ap (λ (n : Name). Drop (below path n) (parts_of_kid one)) (sym name-same))
                ∙ ap (λ (es : List Event). told ++ es) (sym (map-join (drop_of path) goes.out (one ∷ [])));
          }

  -- what was told so far is the front of what is told
  pub drops-cut : (own : Grove Spot) (kids : List WiredKid) (keeps : List Bool) (now : ℕ) (events new : List Event) → Drops own kids keeps now events → new ≡ events → IsCut told (map (drop_of path) (shown old (lost tests all))) new
  drops-cut own kids keeps now events new goes is =
      let so_far = map (drop_of path) goes.out in
      let rest = map (drop_of path) (shown old (lost keeps kids)) in
      let whole : map (drop_of path) (shown old (lost tests all)) ≡ so_far ++ rest = ap (map (drop_of path)) (sym goes.gone) ∙ map-join (drop_of path) goes.out (shown old (lost keeps kids)) in
      let here : new ≡ told ++ so_far = is ∙ goes.tells in
      subst (λ (es : List Event). IsCut told es new) (sym whole)
      (subst (λ (es : List Event). IsCut told (so_far ++ rest) es) (sym here)
      (record { kept = take-append_seam told so_far; front = ap (take (length (told ++ so_far))) (sym (append_assoc told so_far rest)) ∙ take-append_seam (told ++ so_far) rest }))

  -- the state seen at the first of those that are left
  pub drops-at : (own : Grove Spot) (kids : List WiredKid) (keeps : List Bool) (now : ℕ) (events : List Event) (kid : WiredKid) (later : List WiredKid) (stays : Bool) (rest : List Bool) (b : Bool) →
      kids ≡ kid ∷ later → keeps ≡ stays ∷ rest → stays ≡ b → Drops own kids keeps now events → Drops own (kid ∷ later) (b ∷ rest) now events
  drops-at own kids keeps now events kid later stays rest b kids_are tests_are is goes =
      subst (λ (t : Bool). Drops own (kid ∷ later) (t ∷ rest) now events) is
      (subst (λ (ts : List Bool). Drops own (kid ∷ later) ts now events) tests_are (subst (λ (ks : List WiredKid). Drops own ks keeps now events) kids_are goes))

pub same-length : {A B : Type 0} (xs : List A) (ys : List B) (x : A) (y : B) (later : List A) (rest : List B) → xs ≡ x ∷ later → ys ≡ y ∷ rest → length ys ≡ length xs → length rest ≡ length later
same-length xs ys x y later rest one other is = let e : length (y ∷ rest) ≡ length (x ∷ later) = ap length (sym other) ∙ is ∙ ap length one in omega (arith, e)
