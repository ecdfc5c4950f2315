-- What follows where a component stands at an index.
use Rattle.std.proofs.Common.{◌≡◌, ℕ, ◌<◌, Bool, true, false, if◌then◌else◌, List, [], ◌∷◌, ◌++◌, map, length, get_or, slice_get, slice_set, refl, append-nil, ap₂, sym, ap, ◌∙◌, subst, arith, Option, Some, None, Result, Ok, Err, OnOk, MatchOption}
use Rattle.std.specs.List.{flat_map, AllByRecursion}
use Rattle.std.specs.declared.cmp.Ordering.TheVariants.{Equal}
use Rattle.dsde_values.specs.Path.{name_cmp}
use Rattle.dsde_values.specs.declared.name.Name.{Name}
use Rattle.dsde_routes_wiring.specs.declared.wiring.WiredKid.{WiredKid}
use Rattle.dsde_routes_wiring.specs.declared.wiring.Wiring.{Wiring}
use Rattle.dsde_routes_wiring.specs.given.structure.plan_Link.{Link}
use Rattle.dsde_routes_wiring.specs.declared.wiring.WiredKid.TheOpen.{Wiring-F}
use Rattle.dsde_routes_wiring.specs.declared.wiring.WiredKid.TheViews.{out-Wiring, out-WiredKid, roll-Wiring, roll-out-Wiring, out-roll-Wiring}
use Rattle.dsde_routes_wiring.specs.Places.{changed, renewed, kid_changed, kid_at, kids_at}
use Rattle.dsde_routes_wiring.specs.Wired.{Wired, IsWired, AreWired}
use Rattle.dsde_routes_wiring.specs.Opened.{Beneath}
use Rattle.dsde_repair_walks.proofs.Shapes.{wired_of, net-here, net-below}
use Rattle.dsde_routes_wiring.specs.given.structure.Survival.{AreInOrder}
use Rattle.dsde_repair_walks.specs.Found.{name_of, is_named, is_net, InOrder, IsAt, IsOne}
use Rattle.dsde_repair_walks.proofs.Searching.{Found, one-found, one-order, or-same}
use Rattle.dsde_repair_walks.specs.Places.{BelowWired, IsBelowWired, kid_with, kids_below}

abbrev Other : Name → WiredKid → Type 0
Other name kid = is_named name kid ≡ false

pub at-found : (name : Name) (kids : List WiredKid) (index : ℕ) → Found name_of name kids index → IsAt name kids index
at-found name kids index found = record {
  before = found.before;
  kid = found.item;
  after = found.after;
  is = found.is;
  place = found.place;
  named = found.named;
  none_before = found.none_before;
  none_after = found.none_after;
}

pub changed-other : (name : Name) (f : Wiring → Wiring) (kid : WiredKid) → Other name kid → kid_changed name f kid ≡ kid
changed-other name f kid other = ap (λ (b : Bool). if b then kid_with f kid else kid) other

pub changed-named : (name : Name) (f : Wiring → Wiring) (kid : WiredKid) → is_named name kid ≡ true → kid_changed name f kid ≡ kid_with f kid
changed-named name f kid named = ap (λ (b : Bool). if b then kid_with f kid else kid) named

pub none-changed : (name : Name) (f : Wiring → Wiring) (kids : List WiredKid) → AllByRecursion (Other name) kids → map (kid_changed name f) kids ≡ kids
none-changed name f [] none = refl
none-changed name f (kid ∷ kids) none = ap (λ own. own ∷ map (kid_changed name f) kids) (changed-other name f kid none.0) ∙ ap (λ others. kid ∷ others) (none-changed name f kids none.1)

get-middle : (before : List WiredKid) (kid : WiredKid) (after : List WiredKid) → slice_get (before ++ kid ∷ after) (length before) ≡ Some kid
get-middle [] kid after = refl
get-middle (own ∷ before) kid after = get-middle before kid after

set-middle : (before : List WiredKid) (kid other : WiredKid) (after : List WiredKid) → slice_set (before ++ kid ∷ after) (length before) other ≡ before ++ other ∷ after
set-middle [] kid other after = refl
set-middle (own ∷ before) kid other after = ap (λ others. own ∷ others) (set-middle before kid other after)

map-middle : (name : Name) (f : Wiring → Wiring) (before : List WiredKid) (kid : WiredKid) (after : List WiredKid) → AllByRecursion (Other name) before → is_named name kid ≡ true → AllByRecursion (Other name) after →
    map (kid_changed name f) (before ++ kid ∷ after) ≡ before ++ kid_with f kid ∷ after
map-middle name f [] kid after none named later = ap (λ own. own ∷ map (kid_changed name f) after) (changed-named name f kid named) ∙ ap (λ others. kid_with f kid ∷ others) (none-changed name f after later)
map-middle name f (own ∷ before) kid after none named later =
    ap (λ one. one ∷ map (kid_changed name f) (before ++ kid ∷ after)) (changed-other name f own none.0) ∙ ap (λ others. own ∷ others) (map-middle name f before kid after none.1 named later)

pub some-one : {X : Type 0} (x y : X) → Some x ≡ Some y → x ≡ y
some-one x y is = cc

pub kid-at : (name : Name) (kids : List WiredKid) (index : ℕ) (at : IsAt name kids index) → slice_get kids index ≡ Some at.kid
kid-at name kids index at = ap (λ own. slice_get own index) at.is ∙ ap (slice_get (at.before ++ at.kid ∷ at.after)) (sym at.place) ∙ get-middle at.before at.kid at.after

-- a change of the component that was found is a change of all of its name
pub set-found : (name : Name) (kids : List WiredKid) (index : ℕ) → IsAt name kids index → (f : Wiring → Wiring) (kid : WiredKid) → slice_get kids index ≡ Some kid → slice_set kids index (kid_with f kid) ≡ map (kid_changed name f) kids
set-found name kids index at f kid got =
    let same : at.kid ≡ kid = some-one at.kid kid (sym (kid-at name kids index at) ∙ got) in
    ap (λ own. slice_set kids index (kid_with f own)) (sym same)
    ∙ ap (λ own. slice_set own index (kid_with f at.kid)) at.is ∙ ap (λ i. slice_set (at.before ++ at.kid ∷ at.after) i (kid_with f at.kid)) (sym at.place)
    ∙ set-middle at.before at.kid (kid_with f at.kid) at.after
    ∙ sym (map-middle name f at.before at.kid at.after at.none_before at.named at.none_after) ∙ ap (map (kid_changed name f)) (sym at.is)

pub ok-map : {X E : Type 0} (result : Result X E) (P Q : Type 0) → (P → Q) → OnOk result P → OnOk result Q
ok-map (Ok value) P Q gives holds = gives holds
ok-map (Err end) P Q gives holds = tt

pub no-items : {X : Type 0} (xs : List X) → length xs ≡ 0 → xs ≡ []
no-items [] is = refl
no-items (x ∷ xs) is = absurd (omega arith)

each-later : {X : Type 0} (P : X → Type 0) (before : List X) (x : X) (after : List X) → AllByRecursion P (before ++ x ∷ after) → P x
each-later P [] x after each = each.0
each-later P (own ∷ before) x after each = each-later P before x after each.1

below-wired : (below : Option Wiring) → Beneath AreWired below → BelowWired below
below-wired None wired = tt
below-wired (Some wiring) wired = wired

-- a component that was found in a named network
pub found-wired : (wiring : Wiring) → AreWired wiring → (name : Name) (index : ℕ) → IsAt name (out-Wiring wiring).kids index → (kid : WiredKid) → slice_get (out-Wiring wiring).kids index ≡ Some kid → IsBelowWired kid
found-wired wiring named name index at kid got =
    let P : WiredKid → Type 0 = λ own. Beneath AreWired (out-WiredKid own).below in
    let same : at.kid ≡ kid = some-one at.kid kid (sym (kid-at name (out-Wiring wiring).kids index at) ∙ got) in
    let here : P at.kid = each-later P at.before at.kid at.after (subst (AllByRecursion P) at.is (net-below IsWired wiring named)) in
    below-wired (out-WiredKid kid).below (subst P same here)

pub names-of : (kids : List WiredKid) → map (λ (kid : Wired). kid.name) (map wired_of kids) ≡ map name_of kids
names-of [] = refl
names-of (kid ∷ kids) = ap (λ names. name_of kid ∷ names) (names-of kids)

pub kids-in-order : (wiring : Wiring) → AreWired wiring → InOrder (out-Wiring wiring).kids
kids-in-order wiring wired = subst AreInOrder (names-of (out-Wiring wiring).kids) (net-here IsWired wiring wired).0

or-middle : (before : List WiredKid) (kid : WiredKid) (after : List WiredKid) (d : WiredKid) → get_or (before ++ kid ∷ after) (length before) d ≡ kid
or-middle [] kid after d = refl
or-middle (own ∷ before) kid after d = or-middle before kid after d

pub found-one : (name : Name) (kids : List WiredKid) (index : ℕ) → IsAt name kids index → (kid : WiredKid) → kid ≡ get_or kids index kid → IsOne name kids kid
found-one name kids index at kid is =
    let same : get_or kids index kid ≡ at.kid = ap (λ own. get_or own index kid) at.is ∙ ap (λ i. get_or (at.before ++ at.kid ∷ at.after) i kid) (sym at.place) ∙ or-middle at.before at.kid at.after kid in
    (index, at, kid-at name kids index at ∙ ap Some (sym same ∙ sym is))

-- a component of the name at an index is the one of its name
pub same-at : ((name other : Name) → name_cmp name other ≡ Equal → name ≡ other) → (name : Name) (kids : List WiredKid) → InOrder kids → (index : ℕ) → index < length kids → (kid : WiredKid) → kid ≡ get_or kids index kid → name_of kid ≡ name → IsAt name kids index
same-at one name kids sorted index below kid is named =
    at-found name kids index (one-found name_of one name kids sorted index below
    (λ d. one-order (name_of (get_or kids index d)) name (ap name_of (or-same kids index d kid below ∙ sym is) ∙ named)))

-- components of which those of a name are networks
abbrev Net : Name → WiredKid → Type 0
Net name kid = is_named name kid ≡ true → is_net kid ≡ true

other-net : (name : Name) (kid : WiredKid) → Other name kid → Net name kid
other-net name kid other named = absurd (let e : true ≡ false = sym named ∙ other in cc)

pub none-leaf : (name : Name) (kids : List WiredKid) → AllByRecursion (Other name) kids → AllByRecursion (Net name) kids
none-leaf name [] none = tt
none-leaf name (kid ∷ kids) none = (other-net name kid none.0, none-leaf name kids none.1)

middle-net : (name : Name) (before : List WiredKid) (kid : WiredKid) (after : List WiredKid) → AllByRecursion (Other name) before → is_net kid ≡ true → AllByRecursion (Other name) after → AllByRecursion (Net name) (before ++ kid ∷ after)
middle-net name [] kid after none net later = (λ named. net, none-leaf name after later)
middle-net name (own ∷ before) kid after none net later = (other-net name own none.0, middle-net name before kid after none.1 net later)

pub one-net : (name : Name) (kids : List WiredKid) (kid : WiredKid) → IsOne name kids kid → is_net kid ≡ true → AllByRecursion (Net name) kids
one-net name kids kid one net =
    let at = one.1 in
    let same : at.kid ≡ kid = some-one at.kid kid (sym (kid-at name kids one.0 at) ∙ one.2) in
    subst (AllByRecursion (Net name)) (sym at.is) (middle-net name at.before at.kid at.after at.none_before (ap is_net same ∙ net) at.none_after)

pub option-then : {X : Type 0} (own : Option X) (P Q : Type 0) (R S : X → Type 0) → (P → Q) → ((x : X) → R x → S x) → MatchOption own P R → MatchOption own Q S
option-then None P Q R S none some is = none is
option-then (Some x) P Q R S none some is = some x is

-- a network with its fields written one after the other
pub written : (wiring : Wiring) (links : List Link) (kids : List WiredKid) (place : List Name) → length place ≡ 0 →
    (let opened : Wiring-F WiredKid Wiring = record (out-Wiring wiring) { links = links } in
    roll-Wiring (record (out-Wiring (roll-Wiring opened)) { kids = kids }) ≡ changed place (renewed links kids) wiring)
written wiring links kids place none =
    ap (λ (z : Wiring-F WiredKid Wiring). roll-Wiring (record z { kids = kids })) (out-roll-Wiring (record (out-Wiring wiring) { links = links }))
    ∙ ap (λ own. changed own (renewed links kids) wiring) (sym (no-items place none))

-- other links leave the components as they are
pub same-kids : (wiring : Wiring) (links : List Link) → (out-Wiring (roll-Wiring (record (out-Wiring wiring) { links = links }))).kids ≡ (out-Wiring wiring).kids
same-kids wiring links = ap (λ (z : Wiring-F WiredKid Wiring). z.kids) (out-roll-Wiring (record (out-Wiring wiring) { links = links }))

-- a network with a component that changed
pub set-there : (f : Wiring → Wiring) (place rest : List Name) (name : Name) → place ≡ name ∷ rest → (wiring : Wiring) (index : ℕ) → IsAt name (out-Wiring wiring).kids index → (kid after : WiredKid) → slice_get (out-Wiring wiring).kids index ≡ Some kid →
    after ≡ kid_with (changed rest f) kid → roll-Wiring (record (out-Wiring wiring) { kids = slice_set (out-Wiring wiring).kids index after }) ≡ changed place f wiring
set-there f place rest name is wiring index at kid after got done =
    ap (λ own. roll-Wiring (record (out-Wiring wiring) { kids = slice_set (out-Wiring wiring).kids index own })) done
    ∙ ap (λ kids. roll-Wiring (record (out-Wiring wiring) { kids = kids })) (set-found name (out-Wiring wiring).kids index at (changed rest f) kid got)
    ∙ ap (λ own. changed own f wiring) (sym is)

-- where no component has the name nothing changes
pub none-there : (f : Wiring → Wiring) (place rest : List Name) (name : Name) → place ≡ name ∷ rest → (wiring : Wiring) → AllByRecursion (λ kid. is_named name kid ≡ false) (out-Wiring wiring).kids → wiring ≡ changed place f wiring
none-there f place rest name is wiring none =
    sym (roll-out-Wiring wiring) ∙ ap (λ kids. roll-Wiring (record (out-Wiring wiring) { kids = kids })) (sym (none-changed name (changed rest f) (out-Wiring wiring).kids none))
    ∙ ap (λ own. changed own f wiring) (sym is)

-- what is at a place, by the component that leads there
kids-other : (name : Name) (place : List Name) (kid : WiredKid) → Other name kid → kid_at name (kids_at place) kid ≡ []
kids-other name place kid other = ap (λ (b : Bool). if b then kids_below place kid else []) other

kids-named : (name : Name) (place : List Name) (kid : WiredKid) → is_named name kid ≡ true → kid_at name (kids_at place) kid ≡ kids_below place kid
kids-named name place kid named = ap (λ (b : Bool). if b then kids_below place kid else []) named

kids-none : (name : Name) (place : List Name) (kids : List WiredKid) → AllByRecursion (Other name) kids → flat_map (kid_at name (kids_at place)) kids ≡ []
kids-none name place [] none = refl
kids-none name place (kid ∷ kids) none = ap₂ (λ (xs ys : List WiredKid). xs ++ ys) (kids-other name place kid none.0) (kids-none name place kids none.1)

kids-middle : (name : Name) (place : List Name) (before : List WiredKid) (kid : WiredKid) (after : List WiredKid) → AllByRecursion (Other name) before → is_named name kid ≡ true → AllByRecursion (Other name) after →
    flat_map (kid_at name (kids_at place)) (before ++ kid ∷ after) ≡ kids_below place kid
kids-middle name place [] kid after none named later = ap₂ (λ (xs ys : List WiredKid). xs ++ ys) (kids-named name place kid named) (kids-none name place after later) ∙ append-nil (kids_below place kid)
kids-middle name place (own ∷ before) kid after none named later = ap₂ (λ (xs ys : List WiredKid). xs ++ ys) (kids-other name place own none.0) (kids-middle name place before kid after none.1 named later)

pub kids-found : (place rest : List Name) (name : Name) → place ≡ name ∷ rest → (wiring : Wiring) (index : ℕ) → IsAt name (out-Wiring wiring).kids index → (kid : WiredKid) → slice_get (out-Wiring wiring).kids index ≡ Some kid → kids_at place wiring ≡ kids_below rest kid
kids-found place rest name is wiring index at kid got =
    let same : at.kid ≡ kid = some-one at.kid kid (sym (kid-at name (out-Wiring wiring).kids index at) ∙ got) in
    ap (λ own. kids_at own wiring) is ∙ ap (flat_map (kid_at name (kids_at rest))) at.is ∙ kids-middle name rest at.before at.kid at.after at.none_before at.named at.none_after ∙ ap (kids_below rest) same

pub kids-missing : (place rest : List Name) (name : Name) → place ≡ name ∷ rest → (wiring : Wiring) → AllByRecursion (λ kid. is_named name kid ≡ false) (out-Wiring wiring).kids → kids_at place wiring ≡ []
kids-missing place rest name is wiring none = ap (λ own. kids_at own wiring) is ∙ kids-none name rest (out-Wiring wiring).kids none
