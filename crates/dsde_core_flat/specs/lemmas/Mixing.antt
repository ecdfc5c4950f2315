-- The places of a tree are those outside of where names lead, and those beneath.
use Rattle.std.proofs.Common.{◌≡◌, ◌⊎◌, inl, inr, ℕ, Bool, true, false, cond, List, [], ◌∷◌, ◌++◌, map, Option, Some, None, refl, sym, ap, subst, ◌∙◌, append_assoc}
use Rattle.std.specs.List.{flat_map, AllByRecursion}
use Rattle.std.proofs.lemmas.List.{append-nil}
use Rattle.dsde_bank.specs.declared.handle.Handle.{Handle}
use Rattle.dsde_values.specs.declared.name.Name.{Name}
use Rattle.dsde_values.specs.declared.path.Path.{Path}
use Rattle.dsde_sim_tree.specs.Told.{below, to_boss}
use Rattle.dsde_routes_wiring.specs.given.structure.Gather.{is_same_name}
use Rattle.dsde_routes_wiring.specs.declared.wiring.Wiring.{Wiring}
use Rattle.dsde_routes_wiring.specs.declared.wiring.WiredKid.{WiredKid}
use Rattle.dsde_routes_wiring.specs.declared.wiring.WiredKid.TheOpen.{Wiring-F, WiredKid-F}
use Rattle.dsde_routes_wiring.specs.declared.wiring.WiredKid.TheViews.{out-Wiring, out-WiredKid, roll-Wiring, roll-WiredKid, out-roll-Wiring, out-roll-WiredKid}
use Rattle.dsde_core_flat.specs.Places.{Place, place, net_places, kid_places, part_places}
use Rattle.dsde_core_flat.specs.lemmas.Opened.{kid-stands, net-stands}
use Rattle.dsde_core_flat.specs.Change.{wired_kid, wired_kid_with, wired_with, Standing, found_kid, found, kid_outside, outside}
use Rattle.dsde_core_flat.specs.Stands.{HasBirth}

-- the third list has the items of the first two, each in its order
pub data Mixes {A : Type 0} : List A → List A → List A → Type 0 where
  none : Mixes [] [] []
  left : {x : A} {xs ys zs : List A} → Mixes xs ys zs → Mixes (x ∷ xs) ys (x ∷ zs)
  right : {y : A} {xs ys zs : List A} → Mixes xs ys zs → Mixes xs (y ∷ ys) (y ∷ zs)

module _ {A : Type 0} where
  pub lefts : (xs : List A) → Mixes xs [] xs
  lefts [] = none
  lefts (x ∷ xs) = left (lefts xs)

  pub rights : (ys : List A) → Mixes [] ys ys
  rights [] = none
  rights (y ∷ ys) = right (rights ys)

  pub behind : {xs ys zs us vs ws : List A} → Mixes xs ys zs → Mixes us vs ws → Mixes (xs ++ us) (ys ++ vs) (zs ++ ws)
  behind none later = later
  behind (left mix) later = left (behind mix later)
  behind (right mix) later = right (behind mix later)

  pub all-mixed : (P : A → Type 0) {xs ys zs : List A} → Mixes xs ys zs → AllByRecursion P xs → AllByRecursion P ys → AllByRecursion P zs
  all-mixed P none one other = tt
  all-mixed P (left mix) one other = (one.0, all-mixed P mix one.1 other)
  all-mixed P (right mix) one other = (other.0, all-mixed P mix one other.1)

  pub all-one : (P : A → Type 0) {xs ys zs : List A} → Mixes xs ys zs → AllByRecursion P zs → AllByRecursion P xs
  all-one P none all = tt
  all-one P (left mix) all = (all.0, all-one P mix all.1)
  all-one P (right mix) all = all-one P mix all.1

  pub all-other : (P : A → Type 0) {xs ys zs : List A} → Mixes xs ys zs → AllByRecursion P zs → AllByRecursion P ys
  all-other P none all = tt
  all-other P (left mix) all = all-other P mix all.1
  all-other P (right mix) all = (all.0, all-other P mix all.1)

pub births-apart : (birth : ℕ) {xs ys zs : List Place} → Mixes xs ys zs → HasBirth birth zs → HasBirth birth xs ⊎ HasBirth birth ys
births-apart birth none has = absurd has
births-apart birth (left mix) (inl is) = inl (inl is)
births-apart birth (left mix) (inr later) = elim (births-apart birth mix later) [ inl one ↦ inl (inr one) | inr other ↦ inr other ]
births-apart birth (right mix) (inl is) = inr (inl is)
births-apart birth (right mix) (inr later) = elim (births-apart birth mix later) [ inl one ↦ inl one | inr other ↦ inr (inr other) ]

pub births-one : (birth : ℕ) {xs ys zs : List Place} → Mixes xs ys zs → HasBirth birth xs → HasBirth birth zs
births-one birth none has = has
births-one birth (left mix) (inl is) = inl is
births-one birth (left mix) (inr later) = inr (births-one birth mix later)
births-one birth (right mix) has = inr (births-one birth mix has)

pub births-other : (birth : ℕ) {xs ys zs : List Place} → Mixes xs ys zs → HasBirth birth ys → HasBirth birth zs
births-other birth none has = has
births-other birth (left mix) has = inr (births-other birth mix has)
births-other birth (right mix) (inl is) = inl is
births-other birth (right mix) (inr later) = inr (births-other birth mix later)

-- the places of a part that is found, with this wiring beneath it
abbrev pub places_with : (Option Wiring → Option Wiring) → Standing → List Place
places_with wired at = part_places at.handle at.path (wired at.own)

module _ (wired : Option Wiring → Option Wiring) where
  abbrev IsMixed : List Name → Type 0
  IsMixed names =
      (handle : Handle) (path : Path) (own : Option Wiring) →
      Mixes (outside names handle path own) (flat_map (places_with wired) (found names handle path own)) (part_places handle path (wired_with names wired own))

  one-mixed : (name : Name) (names : List Name) → IsMixed names → (kid : WiredKid) (path : Path) (b : Bool) →
      Mixes
      (cond b (outside names (out-WiredKid kid).handle (below path (out-WiredKid kid).name) (out-WiredKid kid).below) (kid_places kid path))
      (flat_map (places_with wired) (cond b (found names (out-WiredKid kid).handle (below path (out-WiredKid kid).name) (out-WiredKid kid).below) []))
      (kid_places (cond b (wired_kid (out-WiredKid kid).name (out-WiredKid kid).handle (wired_with names wired (out-WiredKid kid).below)) kid) path)
  one-mixed name names known kid path true =
      let own : WiredKid-F WiredKid Wiring = record { name = (out-WiredKid kid).name; handle = (out-WiredKid kid).handle; below = wired_with names wired (out-WiredKid kid).below } in
      let stands : kid_places (roll-WiredKid own) path ≡ part_places own.handle (below path own.name) own.below =
      kid-stands (roll-WiredKid own) path ∙ ap (λ (k : WiredKid-F WiredKid Wiring). part_places k.handle (below path k.name) k.below) (out-roll-WiredKid own) in
      subst (λ (zs : List Place). Mixes (outside names own.handle (below path own.name) (out-WiredKid kid).below) (flat_map (places_with wired) (found names own.handle (below path own.name) (out-WiredKid kid).below)) zs)
      (sym stands) (known own.handle (below path own.name) (out-WiredKid kid).below)
  one-mixed name names known kid path false = lefts (kid_places kid path)

  flat-append : (xs ys : List Standing) → flat_map (places_with wired) (xs ++ ys) ≡ flat_map (places_with wired) xs ++ flat_map (places_with wired) ys
  flat-append [] ys = refl
  flat-append (x ∷ xs) ys =
      ap (λ (zs : List Place). places_with wired x ++ zs) (flat-append xs ys)
      ∙ sym (append_assoc (places_with wired x) (flat_map (places_with wired) xs) (flat_map (places_with wired) ys))

  kids-mixed : (name : Name) (names : List Name) → IsMixed names → (kids : List WiredKid) (path : Path) →
      Mixes
      (flat_map (kid_outside name (outside names) path) kids)
      (flat_map (places_with wired) (flat_map (found_kid name (found names) path) kids))
      (flat_map (λ (kid : WiredKid). kid_places kid path) (map (wired_kid_with name (wired_with names wired)) kids))
  kids-mixed name names known [] path = none
  kids-mixed name names known (kid ∷ kids) path =
      subst (λ (ys : List Place). Mixes (kid_outside name (outside names) path kid ++ flat_map (kid_outside name (outside names) path) kids) ys
      (kid_places (wired_kid_with name (wired_with names wired) kid) path ++ flat_map (λ (k : WiredKid). kid_places k path) (map (wired_kid_with name (wired_with names wired)) kids)))
      (sym (flat-append (found_kid name (found names) path kid) (flat_map (found_kid name (found names) path) kids)))
      (behind (one-mixed name names known kid path (is_same_name (out-WiredKid kid).name name)) (kids-mixed name names known kids path))

  -- the boss stands last, and is named first outside
  moved : (xs ys zs : List Place) (last : Place) → Mixes xs ys zs → Mixes (xs ++ last ∷ []) ys (zs ++ last ∷ [])
  moved xs ys zs last mix = subst (λ (own : List Place). Mixes (xs ++ last ∷ []) own (zs ++ last ∷ [])) (append-nil ys) (behind mix (lefts (last ∷ [])))

  pub places-mixed : (names : List Name) → IsMixed names
  places-mixed [] handle path own = subst (λ (ys : List Place). Mixes [] ys (part_places handle path (wired own))) (sym (append-nil (part_places handle path (wired own)))) (rights (part_places handle path (wired own)))
  places-mixed (name ∷ names) handle path None = lefts (place handle path false ∷ [])
  places-mixed (name ∷ names) handle path (Some net) =
      let made : Wiring-F WiredKid Wiring = record (out-Wiring net) { kids = map (wired_kid_with name (wired_with names wired)) (out-Wiring net).kids } in
      let stands : net_places (roll-Wiring made) path ≡ flat_map (λ (kid : WiredKid). kid_places kid path) made.kids ++ place made.boss (to_boss path) false ∷ [] =
      net-stands (roll-Wiring made) path ∙ ap (λ (w : Wiring-F WiredKid Wiring). flat_map (λ (kid : WiredKid). kid_places kid path) w.kids ++ place w.boss (to_boss path) false ∷ []) (out-roll-Wiring made) in
      left (subst (λ (zs : List Place). Mixes (flat_map (kid_outside name (outside names) path) (out-Wiring net).kids ++ place (out-Wiring net).boss (to_boss path) false ∷ []) (flat_map (places_with wired) (found (name ∷ names) handle path (Some net))) zs) (sym stands)
      (moved (flat_map (kid_outside name (outside names) path) (out-Wiring net).kids) (flat_map (places_with wired) (found (name ∷ names) handle path (Some net))) (flat_map (λ (kid : WiredKid). kid_places kid path) made.kids)
      (place (out-Wiring net).boss (to_boss path) false) (kids-mixed name names (places-mixed names) (out-Wiring net).kids path)))
