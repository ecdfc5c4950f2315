-- The handles of a wiring are those of its places, and births tell them.
use Rattle.std.proofs.Common.{◌≡◌, ◌≢◌, ℕ, ◌==◌, ◌&&◌, false, List, [], ◌∷◌, ◌++◌, map, Option, Some, None, refl, sym, ap, subst, ◌∙◌, inl, inr, arith}
use Rattle.std.proofs.lemmas.List.{map-append}
use Rattle.std.proofs.lemmas.Bool.Decides.{nat_tests}
use Rattle.std.proofs.lemmas.Map.Keys.{IsDistinct-cons}
use Rattle.std.specs.Option.{option_map}
use Rattle.std.specs.List.{AllByRecursion, IsDistinct, flat_map}
use Rattle.dsde_bank.specs.declared.handle.Handle.{Handle}
use Rattle.dsde_values.specs.declared.path.Path.{Path}
use Rattle.dsde_sim_tree.specs.Told.{below, to_boss}
use Rattle.dsde_routes_wiring.specs.declared.wiring.Wiring.{Wiring}
use Rattle.dsde_routes_wiring.specs.declared.wiring.WiredKid.{WiredKid}
use Rattle.dsde_routes_wiring.specs.declared.wiring.WiredKid.TheFolds.{fold-roll-Wiring, fold-roll-WiredKid}
use Rattle.dsde_routes_wiring.specs.declared.wiring.WiredKid.TheViews.{out-Wiring, out-WiredKid, roll-out-Wiring, roll-out-WiredKid}
use Rattle.dsde_routes_wiring.specs.Opened.{Beneath, below_of, each_wiring, kids_of, map-kid}
use Rattle.dsde_routes_wiring.specs.Wired.{HasOwnHandles, beneath, beneath_kid, handles, is_same_handle, kid_handles, net_handles}
use Rattle.dsde_routes_pushing.specs.lemmas.Lists.{Among, among-append, distinct-append, distinct-nil, each-among}
use Rattle.dsde_core_moves.specs.given.core_flat.Places.{Place, place, kid_places, net_places, part_places}
use Rattle.dsde_core_moves.specs.given.core_flat.lemmas_Counting.{NoTwice, births}
use Rattle.dsde_core_moves.specs.given.core_flat.lemmas_Opened.{OfKid, kid-stands, net-stands}

abbrev pub handles_of : List Place → List Handle
handles_of ats = map (λ (at : Place). at.handle) ats

beneath-opens : (net : Wiring) → beneath net ≡ flat_map (λ (own : List Handle). own) (map beneath_kid (kids_of net)) ++ (out-Wiring net).boss ∷ []
beneath-opens net = ap beneath (sym (roll-out-Wiring net)) ∙ fold-roll-Wiring (List Handle) (List Handle) kid_handles net_handles (out-Wiring net)

beneath_kid-opens : (kid : WiredKid) → beneath_kid kid ≡ kid_handles (record { name = (out-WiredKid kid).name; handle = (out-WiredKid kid).handle; below = option_map beneath (below_of kid) })
beneath_kid-opens kid =
    ap beneath_kid (sym (roll-out-WiredKid kid))
    ∙ fold-roll-WiredKid (List Handle) (List Handle) kid_handles net_handles (out-WiredKid kid)
    ∙ ap kid_handles (map-kid beneath_kid beneath (out-WiredKid kid))

abbrev Claim : Wiring → Type 0
Claim net = (path : Path) → beneath net ≡ handles_of (net_places net path)

part-handles : (kid : WiredKid) (handle : Handle) (path : Path) (own : Option Wiring) → Beneath Claim own → kid_handles (record { name = (out-WiredKid kid).name; handle = handle; below = option_map beneath own }) ≡ handles_of (part_places handle path own)
part-handles kid handle path None claim = refl
part-handles kid handle path (Some net) claim = ap (λ (own : List Handle). handle ∷ own) (claim path)

kid-handles : (kid : WiredKid) (path : Path) → OfKid Claim kid → beneath_kid kid ≡ handles_of (kid_places kid path)
kid-handles kid path claim =
    beneath_kid-opens kid
    ∙ part-handles kid (out-WiredKid kid).handle (below path (out-WiredKid kid).name) (out-WiredKid kid).below claim
    ∙ sym (ap handles_of (kid-stands kid path))

kids-handles : (kids : List WiredKid) (path : Path) → AllByRecursion (OfKid Claim) kids → flat_map (λ (own : List Handle). own) (map beneath_kid kids) ≡ handles_of (flat_map (λ (kid : WiredKid). kid_places kid path) kids)
kids-handles [] path claims = refl
kids-handles (kid ∷ kids) path claims =
    (λ i. kid-handles kid path claims.0 i ++ kids-handles kids path claims.1 i)
    ∙ sym (map-append (λ (at : Place). at.handle) (kid_places kid path) (flat_map (λ (kid : WiredKid). kid_places kid path) kids))

net-handles : (net : Wiring) → AllByRecursion (OfKid Claim) (out-Wiring net).kids → Claim net
net-handles net claims path =
    let last = place (out-Wiring net).boss (to_boss path) false in
    beneath-opens net
    ∙ ap (λ (own : List Handle). own ++ (out-Wiring net).boss ∷ []) (kids-handles (out-Wiring net).kids path claims)
    ∙ sym (map-append (λ (at : Place). at.handle) (flat_map (λ (kid : WiredKid). kid_places kid path) (out-Wiring net).kids) (last ∷ []))
    ∙ sym (ap handles_of (net-stands net path))

-- the handles beneath a network are those of its places
beneath-is : (net : Wiring) → Claim net
beneath-is = each_wiring Claim net-handles

pub handles-are : (net : Wiring) (path : Path) → handles net ≡ handles_of (net_places net path) ++ (out-Wiring net).me ∷ []
handles-are net path = ap (λ (own : List Handle). own ++ (out-Wiring net).me ∷ []) (beneath-is net path)

other-born : (one other : Handle) → one.birth ≢ other.birth → is_same_handle one other ≡ false
other-born one other apart = ap (λ b. b && one.slot == other.slot) (not-equal one.birth other.birth apart)
  where
    not-equal : (n m : ℕ) → (n ≡ m → ⊥) → (n == m) ≡ false
    not-equal n m apart = grind (arith, nat_tests, apart)

others-born : (handle : Handle) (ats : List Place) → AllByRecursion (λ (other : ℕ). handle.birth ≢ other) (births ats) → AllByRecursion (λ other. is_same_handle handle other ≡ false) (handles_of ats)
others-born handle [] apart = tt
others-born handle (at ∷ ats) apart = (other-born handle at.handle apart.0, others-born handle ats apart.1)

-- no two of these places have one handle
apart-handles : (ats : List Place) → NoTwice (births ats) → IsDistinct is_same_handle (handles_of ats)
apart-handles [] apart = distinct-nil is_same_handle
apart-handles (at ∷ ats) apart = IsDistinct-cons is_same_handle at.handle (handles_of ats) (others-born at.handle ats apart.0) (apart-handles ats apart.1)

-- no two parts of a network that stands under a handle have one
pub own-handles : (net : Wiring) (handle : Handle) (path : Path) → handle ≡ (out-Wiring net).me → NoTwice (births (part_places handle path (Some net))) → HasOwnHandles net
own-handles net handle path is apart =
    let me = (out-Wiring net).me in
    let inner = handles_of (net_places net path) in
    let first : AllByRecursion (λ (other : ℕ). me.birth ≢ other) (births (net_places net path)) = subst (λ (own : Handle). AllByRecursion (λ (other : ℕ). own.birth ≢ other) (births (net_places net path))) is apart.0 in
    subst (IsDistinct is_same_handle) (sym (handles-are net path))
    (distinct-append is_same_handle inner (me ∷ []) (apart-handles (net_places net path) apart.1) (IsDistinct-cons is_same_handle me [] tt (distinct-nil is_same_handle))
    (λ x y here there. last-apart me (net_places net path) first x y here there))
  where
    behind : (me : Handle) (ats : List Place) → AllByRecursion (λ (other : ℕ). me.birth ≢ other) (births ats) → AllByRecursion (λ other. is_same_handle other me ≡ false) (handles_of ats)
    behind me [] apart = tt
    behind me (at ∷ ats) apart = (other-born at.handle me (λ same. apart.0 (sym same)), behind me ats apart.1)

    last-apart : (me : Handle) (ats : List Place) → AllByRecursion (λ (other : ℕ). me.birth ≢ other) (births ats) → (x y : Handle) → Among x (handles_of ats) → Among y (me ∷ []) → is_same_handle x y ≡ false
    last-apart me ats apart x y here (inl same) = subst (λ (own : Handle). is_same_handle x own ≡ false) (sym same) (each-among (λ other. is_same_handle other me ≡ false) (handles_of ats) x (behind me ats apart) here)
    last-apart me ats apart x y here (inr none) = absurd none

not-born : (handle other : Handle) (ats : List Place) → AllByRecursion (λ (birth : ℕ). handle.birth ≢ birth) (births ats) → Among other (handles_of ats) → handle.birth ≡ other.birth → ⊥
not-born handle other [] apart among same = among
not-born handle other (at ∷ ats) apart (inl is) same = apart.0 (same ∙ ap (λ (own : Handle). own.birth) is)
not-born handle other (at ∷ ats) apart (inr among) same = not-born handle other ats apart.1 among same

-- births tell the handles of places
births-tell : (ats : List Place) → NoTwice (births ats) → (one other : Handle) → Among one (handles_of ats) → Among other (handles_of ats) → one.birth ≡ other.birth → one ≡ other
births-tell [] apart one other here there same = absurd here
births-tell (at ∷ ats) apart one other (inl is) (inl its) same = is ∙ sym its
births-tell (at ∷ ats) apart one other (inl is) (inr there) same = absurd (not-born at.handle other ats apart.0 there (ap (λ (own : Handle). own.birth) (sym is) ∙ same))
births-tell (at ∷ ats) apart one other (inr here) (inl its) same = absurd (not-born at.handle one ats apart.0 here (ap (λ (own : Handle). own.birth) (sym its) ∙ sym same))
births-tell (at ∷ ats) apart one other (inr here) (inr there) same = births-tell ats apart.1 one other here there same

among-places : (net : Wiring) (handle : Handle) (path : Path) → handle ≡ (out-Wiring net).me → (one : Handle) → Among one (handles net) → Among one (handles_of (part_places handle path (Some net)))
among-places net handle path is one among =
    elim (among-append one (handles_of (net_places net path)) ((out-Wiring net).me ∷ []) (subst (Among one) (handles-are net path) among)) [
      | inl here ↦ inr here
      | inr last ↦ last-one last
    ]
  where
    last-one : Among one ((out-Wiring net).me ∷ []) → Among one (handles_of (part_places handle path (Some net)))
    last-one (inl same) = inl (same ∙ sym is)
    last-one (inr none) = absurd none

-- births tell the parts of a network
pub tell-parts : (net : Wiring) (handle : Handle) (path : Path) → handle ≡ (out-Wiring net).me → NoTwice (births (part_places handle path (Some net))) → (one other : Handle) → Among one (handles net) → Among other (handles net) → one.birth ≡ other.birth → one ≡ other
tell-parts net handle path is apart one other here there =
    births-tell (part_places handle path (Some net)) apart one other (among-places net handle path is one here) (among-places net handle path is other there)
