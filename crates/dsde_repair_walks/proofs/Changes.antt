-- A wiring that is changed at a place, and changed again there.
use Rattle.std.proofs.Common.{◌≡◌, Bool, true, false, if◌then◌else◌, List, [], ◌∷◌, ◌++◌, map, refl, sym, ap, ◌∙◌, append_assoc, append-nil, subst, Option, Some, None}
use Rattle.std.specs.List.{flat_map}
use Rattle.dsde_values.specs.declared.name.Name.{Name}
use Rattle.dsde_routes_wiring.specs.given.structure.plan_Link.{Link}
use Rattle.dsde_routes_wiring.specs.given.structure.Gather.{is_same_name}
use Rattle.dsde_routes_wiring.specs.declared.wiring.WiredKid.{WiredKid}
use Rattle.dsde_routes_wiring.specs.declared.wiring.Wiring.{Wiring}
use Rattle.dsde_routes_wiring.specs.declared.wiring.WiredKid.TheOpen.{Wiring-F, WiredKid-F}
use Rattle.dsde_routes_wiring.specs.declared.wiring.WiredKid.TheViews.{out-Wiring, out-WiredKid, roll-Wiring, roll-WiredKid, out-roll-Wiring, out-roll-WiredKid}
use Rattle.dsde_routes_wiring.specs.Places.{changed, kid_changed, below_changed, bared, renewed, at_place, kid_at, below_at, nets_at}

changed-yes : (name : Name) (f : Wiring → Wiring) (kid : WiredKid) (y : WiredKid-F WiredKid Wiring) → out-WiredKid kid ≡ y → is_same_name y.name name ≡ true →
    kid_changed name f kid ≡ roll-WiredKid (record y { below = below_changed f y.below })
changed-yes name f kid y is =
    let P : WiredKid-F WiredKid Wiring → Type 0 = λ z. is_same_name z.name name ≡ true → kid_changed name f kid ≡ roll-WiredKid (record z { below = below_changed f z.below }) in
    subst P is (λ same. ap (λ (test : Bool). if test then roll-WiredKid (record (out-WiredKid kid) { below = below_changed f (out-WiredKid kid).below }) else kid) same)

changed-no : (name : Name) (f : Wiring → Wiring) (kid : WiredKid) → is_same_name (out-WiredKid kid).name name ≡ false → kid_changed name f kid ≡ kid
changed-no name f kid other = ap (λ (test : Bool). if test then roll-WiredKid (record (out-WiredKid kid) { below = below_changed f (out-WiredKid kid).below }) else kid) other

-- two changes of a kid are one
kid-chain : (name : Name) (f g h : Wiring → Wiring) → ((x : Wiring) → f (g x) ≡ h x) → (kid : WiredKid) → kid_changed name f (kid_changed name g kid) ≡ kid_changed name h kid
kid-chain name f g h one kid = by (is_same_name (out-WiredKid kid).name name) refl where
  y : WiredKid-F WiredKid Wiring
  y = out-WiredKid kid

  belows : (below : Option Wiring) → below_changed f (below_changed g below) ≡ below_changed h below
  belows None = refl
  belows (Some wiring) = ap Some (one wiring)

  by : (same : Bool) → is_same_name y.name name ≡ same →
      kid_changed name f (if same then roll-WiredKid (record y { below = below_changed g y.below }) else kid) ≡ (if same then roll-WiredKid (record y { below = below_changed h y.below }) else kid)
  by true is =
      let z : WiredKid-F WiredKid Wiring = record y { below = below_changed g y.below } in
      changed-yes name f (roll-WiredKid z) z (out-roll-WiredKid z) is ∙ ap (λ below. roll-WiredKid (record y { below = below })) (belows y.below)
  by false is = changed-no name f kid is

kids-chain : (name : Name) (f g h : Wiring → Wiring) → ((x : Wiring) → f (g x) ≡ h x) → (kids : List WiredKid) → map (kid_changed name f) (map (kid_changed name g) kids) ≡ map (kid_changed name h) kids
kids-chain name f g h one [] = refl
kids-chain name f g h one (kid ∷ kids) =
    ap (λ own. own ∷ map (kid_changed name f) (map (kid_changed name g) kids)) (kid-chain name f g h one kid) ∙ ap (λ others. kid_changed name h kid ∷ others) (kids-chain name f g h one kids)

-- two changes at a place are one
pub changed-chain : (f g h : Wiring → Wiring) → ((x : Wiring) → f (g x) ≡ h x) → (place : List Name) (wiring : Wiring) → changed place f (changed place g wiring) ≡ changed place h wiring
changed-chain f g h one [] wiring = one wiring
changed-chain f g h one (name ∷ place) wiring =
    let y : Wiring-F WiredKid Wiring = out-Wiring wiring in
    ap (λ (z : Wiring-F WiredKid Wiring). roll-Wiring (record z { kids = map (kid_changed name (changed place f)) z.kids })) (out-roll-Wiring (record y { kids = map (kid_changed name (changed place g)) y.kids }))
    ∙ ap (λ kids. roll-Wiring (record y { kids = kids })) (kids-chain name (changed place f) (changed place g) (changed place h) (changed-chain f g h one place) y.kids)

pub bared-renewed : (links : List Link) (kids : List WiredKid) (wiring : Wiring) → bared (renewed links kids wiring) ≡ bared wiring
bared-renewed links kids wiring =
    ap (λ (z : Wiring-F WiredKid Wiring). roll-Wiring (record z { links = []; kids = [] })) (out-roll-Wiring (record (out-Wiring wiring) { links = links; kids = kids }))

-- what a place has after a change there
module _ {X : Type 0} (own before : Wiring → List X) (g : Wiring → Wiring) (one : (x : Wiring) → own (g x) ≡ before x) where
  kid-after : (name : Name) (own before : Wiring → List X) (g : Wiring → Wiring) → ((x : Wiring) → own (g x) ≡ before x) → (kid : WiredKid) → kid_at name own (kid_changed name g kid) ≡ kid_at name before kid
  kid-after name own before g one kid = by (is_same_name (out-WiredKid kid).name name) refl where
    y : WiredKid-F WiredKid Wiring
    y = out-WiredKid kid

    belows : (below : Option Wiring) → below_at own (below_changed g below) ≡ below_at before below
    belows None = refl
    belows (Some wiring) = one wiring

    by : (same : Bool) → is_same_name y.name name ≡ same →
        kid_at name own (if same then roll-WiredKid (record y { below = below_changed g y.below }) else kid) ≡ (if same then below_at before y.below else [])
    by true is =
        let z : WiredKid-F WiredKid Wiring = record y { below = below_changed g y.below } in
        ap (λ (z : WiredKid-F WiredKid Wiring). if is_same_name z.name name then below_at own z.below else []) (out-roll-WiredKid z)
        ∙ ap (λ (test : Bool). if test then below_at own z.below else []) is ∙ belows y.below
    by false is = ap (λ (test : Bool). if test then below_at own y.below else []) is

  kids-after : (name : Name) (own before : Wiring → List X) (g : Wiring → Wiring) → ((x : Wiring) → own (g x) ≡ before x) → (kids : List WiredKid) → flat_map (kid_at name own) (map (kid_changed name g) kids) ≡ flat_map (kid_at name before) kids
  kids-after name own before g one [] = refl
  kids-after name own before g one (kid ∷ kids) =
      ap (λ items. items ++ flat_map (kid_at name own) (map (kid_changed name g) kids)) (kid-after name own before g one kid) ∙ ap (λ items. kid_at name before kid ++ items) (kids-after name own before g one kids)

  pub place-after : (place : List Name) (wiring : Wiring) → at_place own place (changed place g wiring) ≡ at_place before place wiring
  place-after [] wiring = one wiring
  place-after (name ∷ place) wiring =
      let y : Wiring-F WiredKid Wiring = out-Wiring wiring in
      ap (λ (z : Wiring-F WiredKid Wiring). flat_map (kid_at name (at_place own place)) z.kids) (out-roll-Wiring (record y { kids = map (kid_changed name (changed place g)) y.kids }))
      ∙ kids-after name (at_place own place) (at_place before place) (changed place g) (place-after place) y.kids

flat-append : {X Y : Type 0} (f : X → List Y) (xs ys : List X) → flat_map f (xs ++ ys) ≡ flat_map f xs ++ flat_map f ys
flat-append f [] ys = refl
flat-append f (x ∷ xs) ys = ap (λ items. f x ++ items) (flat-append f xs ys) ∙ sym (append_assoc (f x) (flat_map f xs) (flat_map f ys))

-- what a place has is what the networks there have
module _ {X : Type 0} (own : Wiring → List X) where
  one-net : (wiring : Wiring) → flat_map own (wiring ∷ []) ≡ own wiring
  one-net wiring = append-nil (own wiring)

  kid-nets : (name : Name) (place : List Name) → ((wiring : Wiring) → at_place own place wiring ≡ flat_map own (nets_at place wiring)) → (kid : WiredKid) → kid_at name (at_place own place) kid ≡ flat_map own (kid_at name (nets_at place) kid)
  kid-nets name place at kid = by (is_same_name (out-WiredKid kid).name name) (out-WiredKid kid).below where
    by : (same : Bool) (below : Option Wiring) → (if same then below_at (at_place own place) below else []) ≡ flat_map own (if same then below_at (nets_at place) below else [])
    by true None = refl
    by true (Some wiring) = at wiring
    by false below = refl

  kids-nets : (name : Name) (place : List Name) → ((wiring : Wiring) → at_place own place wiring ≡ flat_map own (nets_at place wiring)) → (kids : List WiredKid) → flat_map (kid_at name (at_place own place)) kids ≡ flat_map own (flat_map (kid_at name (nets_at place)) kids)
  kids-nets name place at [] = refl
  kids-nets name place at (kid ∷ kids) =
      ap (λ items. items ++ flat_map (kid_at name (at_place own place)) kids) (kid-nets name place at kid)
      ∙ ap (λ items. flat_map own (kid_at name (nets_at place) kid) ++ items) (kids-nets name place at kids)
      ∙ sym (flat-append own (kid_at name (nets_at place) kid) (flat_map (kid_at name (nets_at place)) kids))

  pub place-nets : (place : List Name) (wiring : Wiring) → at_place own place wiring ≡ flat_map own (nets_at place wiring)
  place-nets [] wiring = sym (one-net wiring)
  place-nets (name ∷ place) wiring = kids-nets name place (place-nets place) (out-Wiring wiring).kids

-- where a place leads to one network, its components are those of that network
pub kids-there : (place : List Name) (wiring net : Wiring) → nets_at place wiring ≡ net ∷ [] → at_place (λ (own : Wiring). (out-Wiring own).kids) place wiring ≡ (out-Wiring net).kids
kids-there place wiring net is =
    let kids : Wiring → List WiredKid = λ own. (out-Wiring own).kids in
    place-nets kids place wiring ∙ ap (flat_map kids) is ∙ append-nil (kids net)

-- and after a change those that were given
pub kids-given : (links : List Link) (kids : List WiredKid) (place : List Name) (wiring net : Wiring) → nets_at place wiring ≡ net ∷ [] →
    at_place (λ (own : Wiring). (out-Wiring own).kids) place (changed place (renewed links kids) wiring) ≡ kids
kids-given links kids place wiring net is =
    place-after (λ (own : Wiring). (out-Wiring own).kids) (λ _. kids) (renewed links kids)
    (λ x. ap (λ (z : Wiring-F WiredKid Wiring). z.kids) (out-roll-Wiring (record (out-Wiring x) { links = links; kids = kids }))) place wiring
    ∙ place-nets (λ (_ : Wiring). kids) place wiring ∙ ap (flat_map (λ (_ : Wiring). kids)) is ∙ append-nil kids

-- and the networks there are those that it makes of the ones before
pub nets-given : (f : Wiring → Wiring) (place : List Name) (wiring net : Wiring) → nets_at place wiring ≡ net ∷ [] → nets_at place (changed place f wiring) ≡ f net ∷ []
nets-given f place wiring net is =
    place-after (λ own. own ∷ []) (λ own. f own ∷ []) f (λ own. refl) place wiring
    ∙ place-nets (λ own. f own ∷ []) place wiring ∙ ap (flat_map (λ own. f own ∷ [])) is

-- a change keeps the handle of the whole
pub me-changed : (f : Wiring → Wiring) → ((own : Wiring) → (out-Wiring (f own)).me ≡ (out-Wiring own).me) → (place : List Name) (wiring : Wiring) → (out-Wiring (changed place f wiring)).me ≡ (out-Wiring wiring).me
me-changed f keeps [] wiring = keeps wiring
me-changed f keeps (name ∷ place) wiring = ap (λ (z : Wiring-F WiredKid Wiring). z.me) (out-roll-Wiring (record (out-Wiring wiring) { kids = map (kid_changed name (changed place f)) (out-Wiring wiring).kids }))

pub me-renewed : (links : List Link) (kids : List WiredKid) (wiring : Wiring) → (out-Wiring (renewed links kids wiring)).me ≡ (out-Wiring wiring).me
me-renewed links kids wiring = ap (λ (z : Wiring-F WiredKid Wiring). z.me) (out-roll-Wiring (record (out-Wiring wiring) { links = links; kids = kids }))

pub me-bared : (wiring : Wiring) → (out-Wiring (bared wiring)).me ≡ (out-Wiring wiring).me
me-bared wiring = ap (λ (z : Wiring-F WiredKid Wiring). z.me) (out-roll-Wiring (record (out-Wiring wiring) { links = []; kids = [] }))

pub me-after : (place : List Name) (links : List Link) (kids : List WiredKid) (wiring : Wiring) → (out-Wiring (changed place (renewed links kids) wiring)).me ≡ (out-Wiring wiring).me
me-after place links kids wiring = me-changed (renewed links kids) (me-renewed links kids) place wiring
