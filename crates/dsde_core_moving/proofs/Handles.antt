-- The handles of a wiring and of components that have come since differ.
use Rattle.std.proofs.Common.{◌≡◌, ◌≢◌, inl, inr, ℕ, ◌<◌, ◌≤◌, ◌==◌, ◌&&◌, Bool, true, false, List, [], ◌∷◌, ◌++◌, map, Option, Some, None, refl, sym, ap, subst, ◌∙◌, arith}
use Rattle.std.specs.Prelude.{IsPermutation}
use Rattle.std.specs.List.{flat_map, AllByRecursion, IsDistinct}
use Rattle.std.proofs.lemmas.List.{map-append}
use Rattle.std.proofs.lemmas.List.Sorted.{IsPermutation-append, IsPermutation-cons, IsPermutation-refl, IsPermutation-to_front, IsPermutation-trans}
use Rattle.std.proofs.lemmas.Map.Keys.{IsDistinct-cons, IsDistinct-head, IsDistinct-tail, IsDistinct-IsPermutation}
use borrow.Author.Tests.{eqb-true, eq-eqb}
use Rattle.dsde_bank.specs.declared.handle.Handle.{Handle}
use Rattle.dsde_values.specs.declared.path.Path.{Path}
use Rattle.dsde_values.specs.Path.{root}
use Rattle.dsde_sim_tree.specs.Told.{below, to_boss}
use Rattle.dsde_grove.specs.Grove.{Grove, IsTree, value_of}
use Rattle.dsde_sim_tree.specs.declared.sim.Sim.{Sim}
use Rattle.dsde_sim_tree.specs.Tree.{entry_of}
use Rattle.dsde_routes_wiring.specs.declared.wiring.Wiring.{Wiring}
use Rattle.dsde_routes_wiring.specs.declared.wiring.WiredKid.{WiredKid}
use Rattle.dsde_routes_wiring.specs.declared.wiring.WiredKid.TheViews.{out-Wiring, out-WiredKid}
use Rattle.dsde_routes_wiring.specs.Opened.{each_wiring, Beneath}
use Rattle.dsde_routes_wiring.specs.Touched.{handles_of, handles_of_kid}
use Rattle.dsde_routes_wiring.specs.Wired.{is_same_handle}
use Rattle.dsde_repair_walks.proofs.Handles.{below_known, handles-is, kid-handles}
use Rattle.dsde_core_moves.specs.given.core_flat.spot_Spot.{Spot}
use Rattle.dsde_core_moves.specs.given.core_flat.Handles.{AreThemselves, KidsAreThemselves}
use Rattle.dsde_core_moves.specs.given.core_flat.Named.{AreToldApart, HasOwnNames, KidHasOwnNames}
use Rattle.dsde_core_moves.specs.given.core_flat.Places.{kid_places, net_places, part_places, place, places_of, Place}
use Rattle.dsde_core_moves.specs.given.core_flat.Stands.{HasBirth, StandsAt, StandsFor}
use Rattle.dsde_core_moves.specs.given.core_flat.lemmas_Apart.{kids-paths-apart, no-birth-twice, paths-apart}
use Rattle.dsde_core_moves.specs.given.core_flat.lemmas_Called.{first-itself, later-itself, net-itself}
use Rattle.dsde_core_moves.specs.given.core_flat.lemmas_Counting.{births, NoTwice}
use Rattle.dsde_core_moves.specs.given.core_flat.lemmas_Keeping.{spot-got}
use Rattle.dsde_core_moves.specs.given.core_flat.lemmas_Opened.{kid-stands, net-stands, OfKid}
use Rattle.dsde_core_moves.specs.Chosen.{shown}

abbrev handle_at : Place → Handle
handle_at at = at.handle

-- the handles of a wiring are those of its places
abbrev IsListed : Wiring → Type 0
IsListed net = (handle : Handle) (path : Path) → AreThemselves handle (Some net) → IsPermutation (map handle_at (part_places handle path (Some net))) (handles_of net)

part-listed : (handle : Handle) (path : Path) (own : Option Wiring) → Beneath IsListed own → AreThemselves handle own → IsPermutation (map handle_at (part_places handle path own)) (below_known handle own)
part-listed handle path None known itself = IsPermutation-refl (handle ∷ [])
part-listed handle path (Some net) known itself = known handle path itself

kids-listed : (path : Path) (kids : List WiredKid) → AllByRecursion (OfKid IsListed) kids → KidsAreThemselves kids → IsPermutation (map handle_at (places_of path kids)) (flat_map handles_of_kid kids)
kids-listed path [] known itself = IsPermutation-refl []
kids-listed path (kid ∷ kids) known itself =
    let one = part-listed (out-WiredKid kid).handle (below path (out-WiredKid kid).name) (out-WiredKid kid).below known.0 (first-itself kid kids itself) in
    let here : IsPermutation (map handle_at (kid_places kid path)) (handles_of_kid kid) =
    subst (λ (ats : List Place). IsPermutation (map handle_at ats) (handles_of_kid kid)) (sym (kid-stands kid path))
    (subst (λ (hs : List Handle). IsPermutation (map handle_at (part_places (out-WiredKid kid).handle (below path (out-WiredKid kid).name) (out-WiredKid kid).below)) hs) (sym (kid-handles kid)) one) in
    subst (λ (hs : List Handle). IsPermutation hs (handles_of_kid kid ++ flat_map handles_of_kid kids)) (sym (map-append handle_at (kid_places kid path) (places_of path kids)))
    (IsPermutation-append (map handle_at (kid_places kid path)) (handles_of_kid kid) (map handle_at (places_of path kids)) (flat_map handles_of_kid kids) here (kids-listed path kids known.1 (later-itself kid kids itself)))

net-listed : (net : Wiring) → IsListed net
net-listed = each_wiring IsListed (λ net known handle path itself.
    let own = net-itself net handle itself in
    let kids = (out-Wiring net).kids in
    let boss = (out-Wiring net).boss in
    let inner = map handle_at (places_of path kids) in
    let outer = flat_map handles_of_kid kids in
    let are : map handle_at (net_places net path) ≡ inner ++ boss ∷ [] =
    ap (map handle_at) (net-stands net path) ∙ map-append handle_at (places_of path kids) (place boss (to_boss path) false ∷ []) in
    let listed : IsPermutation (inner ++ boss ∷ []) (boss ∷ outer) =
    IsPermutation-trans (inner ++ boss ∷ []) (boss ∷ inner) (boss ∷ outer) (IsPermutation-to_front inner boss) (IsPermutation-cons boss inner outer (kids-listed path kids known own.1)) in
    subst (λ (hs : List Handle). IsPermutation (handle ∷ map handle_at (net_places net path)) hs) (sym (handles-is net))
    (subst (λ (h : Handle). IsPermutation (handle ∷ map handle_at (net_places net path)) (h ∷ boss ∷ outer)) own.0
    (subst (λ (hs : List Handle). IsPermutation (handle ∷ hs) (handle ∷ boss ∷ outer)) (sym are) (IsPermutation-cons handle (inner ++ boss ∷ []) (boss ∷ outer) listed))))

every : (own : Option Wiring) → Beneath IsListed own
every None = tt
every (Some net) = net-listed net

all-every : (kids : List WiredKid) → AllByRecursion (OfKid IsListed) kids
all-every [] = tt
all-every (kid ∷ kids) = (every (out-WiredKid kid).below, all-every kids)

fails : (b : Bool) → (b ≡ true → ⊥) → b ≡ false
fails true never = absurd (never refl)
fails false never = refl

and-first : (x y : Bool) → (x && y) ≡ true → x ≡ true
and-first true y h = refl
and-first false y h = h

and-both : (x y : Bool) → (x && y) ≡ true → (x ≡ true) × (y ≡ true)
and-both true true h = (refl, refl)
and-both true false h = absurd (let wrong : false ≡ true = h in cc)
and-both false y h = absurd (let wrong : false ≡ true = h in cc)

-- handles of other births differ
other-birth : (one other : Handle) → one.birth ≢ other.birth → is_same_handle one other ≡ false
other-birth one other apart = fails (is_same_handle one other) (λ is. apart (eqb-true one.birth other.birth (and-first (one.birth == other.birth) (one.slot == other.slot) is)))

same-back : (one other : Handle) → is_same_handle one other ≡ true → is_same_handle other one ≡ true
same-back one other is =
    let both = and-both (one.birth == other.birth) (one.slot == other.slot) is in
    let birth = eq-eqb other.birth one.birth (sym (eqb-true one.birth other.birth both.0)) in
    let slot = eq-eqb other.slot one.slot (sym (eqb-true one.slot other.slot both.1)) in
    λ i. birth i && slot i

both-ways : (a b : Bool) → (a ≡ true → b ≡ true) → (b ≡ true → a ≡ true) → a ≡ b
both-ways true true one other = refl
both-ways true false one other = absurd (let wrong : false ≡ true = one refl in cc)
both-ways false true one other = absurd (let wrong : false ≡ true = other refl in cc)
both-ways false false one other = refl

flips : (one other : Handle) → is_same_handle one other ≡ is_same_handle other one
flips one other = both-ways (is_same_handle one other) (is_same_handle other one) (same-back one other) (same-back other one)

each-apart : (at : Place) (others : List Place) → AllByRecursion (λ (birth : ℕ). at.handle.birth ≢ birth) (births others) → AllByRecursion (λ (other : Handle). is_same_handle at.handle other ≡ false) (map handle_at others)
each-apart at [] apart = tt
each-apart at (other ∷ others) apart = (other-birth at.handle other.handle apart.0, each-apart at others apart.1)

abbrev AreApart : List Handle → Type 0
AreApart handles = IsDistinct is_same_handle handles

none-apart : AreApart []
unfolding IsDistinct
none-apart = tt

places-distinct : (ats : List Place) → NoTwice (births ats) → AreApart (map handle_at ats)
places-distinct [] apart = none-apart
places-distinct (at ∷ ats) apart = IsDistinct-cons is_same_handle at.handle (map handle_at ats) (each-apart at ats apart.0) (places-distinct ats apart.1)

all-join : {A : Type 0} (P : A → Type 0) (xs ys : List A) → AllByRecursion P xs → AllByRecursion P ys → AllByRecursion P (xs ++ ys)
all-join P [] ys one other = other
all-join P (x ∷ xs) ys one other = (one.0, all-join P xs ys one.1 other)

-- older handles, and younger ones
younger-apart : (handle : Handle) (next : ℕ) (others : List Handle) → handle.birth < next → AllByRecursion (λ (other : Handle). next ≤ other.birth) others → AllByRecursion (λ (other : Handle). is_same_handle handle other ≡ false) others
younger-apart handle next [] old young = tt
younger-apart handle next (other ∷ others) old young =
    (other-birth handle other (λ same. let late : next ≤ other.birth = young.0 in omega (arith, old, late, same)), younger-apart handle next others old young.1)

join-distinct : (next : ℕ) (olds news : List Handle) → AreApart olds → AreApart news → AllByRecursion (λ (handle : Handle). handle.birth < next) olds → AllByRecursion (λ (other : Handle). next ≤ other.birth) news → AreApart (olds ++ news)
join-distinct next [] news one other old young = other
join-distinct next (handle ∷ olds) news one other old young =
    IsDistinct-cons is_same_handle handle (olds ++ news)
    (all-join (λ (own : Handle). is_same_handle handle own ≡ false) olds news (IsDistinct-head is_same_handle handle olds one) (younger-apart handle next news old.0 young))
    (join-distinct next olds news (IsDistinct-tail is_same_handle handle olds one) other old.1 young)

olds-born : (own : Grove Spot) → IsTree own → (ats : List Place) → AllByRecursion (StandsAt own) ats → AllByRecursion (λ (handle : Handle). handle.birth < own.next_birth) (map handle_at ats)
olds-born own is_tree [] stands = tt
olds-born own is_tree (at ∷ ats) stands = (is_tree.given at.handle.birth stands.0.part (spot-got own at.handle stands.0.part stands.0.live), olds-born own is_tree ats stands.1)

news-born : (next : ℕ) (ats : List Place) → ((birth : ℕ) → HasBirth birth ats → next ≤ birth) → AllByRecursion (λ (handle : Handle). next ≤ handle.birth) (map handle_at ats)
news-born next [] young = tt
news-born next (at ∷ ats) young = (young at.handle.birth (inl refl), news-born next ats (λ birth has. young birth (inr has)))

pub handles-apart : (old new : Grove Spot) (top : Handle) (wiring : Wiring) (tree : Sim) (path : Path) (fresh : List WiredKid) → StandsFor old top (Some wiring) tree → HasOwnNames tree → IsTree old →
    AllByRecursion (StandsAt new) (places_of path fresh) → KidsAreThemselves fresh → AreToldApart (map entry_of (shown new fresh)) → AllByRecursion KidHasOwnNames (shown new fresh) →
    ((birth : ℕ) → HasBirth birth (places_of path fresh) → old.next_birth ≤ birth) → AreApart (handles_of wiring ++ flat_map handles_of_kid fresh)
handles-apart old new top wiring tree path fresh stands named is_tree live themselves told_apart own_names young =
    let olds = part_places top root (Some wiring) in
    let news = places_of path fresh in
    let first = places-distinct olds (no-birth-twice old olds stands.live (paths-apart (value_of old) top root (Some wiring) (subst HasOwnNames (sym stands.shows) named))) in
    let second = places-distinct news (no-birth-twice new news live (kids-paths-apart (value_of new) path fresh told_apart own_names)) in
    let all = join-distinct old.next_birth (map handle_at olds) (map handle_at news) first second (olds-born old is_tree olds stands.live) (news-born old.next_birth news young) in
    IsDistinct-IsPermutation is_same_handle flips (map handle_at olds ++ map handle_at news) (handles_of wiring ++ flat_map handles_of_kid fresh)
    (IsPermutation-append (map handle_at olds) (handles_of wiring) (map handle_at news) (flat_map handles_of_kid fresh) (net-listed wiring top root stands.itself) (kids-listed path fresh (all-every fresh) themselves)) all
