-- What each network of a wiring keeps, by the networks beneath it, and where one of them is changed.
use Rattle.std.proofs.Common.{◌≡◌, Bool, true, false, if◌then◌else◌, List, [], ◌∷◌, map, refl, sym, ap, ap₂, ◌∙◌, subst, Option, Some, None}
use Rattle.std.specs.Option.{option_map}
use Rattle.std.specs.List.{flat_map, AllByRecursion}
use Rattle.dsde_values.specs.declared.name.Name.{Name}
use Rattle.dsde_routes_wiring.specs.given.structure.Gather.{is_same_name}
use Rattle.dsde_routes_wiring.specs.declared.wiring.WiredKid.{WiredKid}
use Rattle.dsde_routes_wiring.specs.declared.wiring.Wiring.{Wiring}
use Rattle.dsde_routes_wiring.specs.declared.wiring.WiredKid.TheOpen.{Wiring-F, WiredKid-F}
use Rattle.dsde_routes_wiring.specs.declared.wiring.WiredKid.TheViews.{out-Wiring, out-WiredKid, roll-Wiring, roll-WiredKid, out-roll-Wiring, out-roll-WiredKid}
use Rattle.dsde_routes_wiring.specs.Opened.{Beneath, shapes-opens, shapes_kid-opens}
use Rattle.dsde_routes_wiring.specs.Places.{changed, kid_changed, below_changed, nets_at, kid_at, below_at}
use Rattle.dsde_routes_wiring.specs.Wired.{Shape, KidShapes, Wired, shapes, shapes_of_kid}
use Rattle.dsde_repair_walks.proofs.Each.{each-append, each-front, each-back}

abbrev pub wired_of : WiredKid → Wired
wired_of kid = record { name = (out-WiredKid kid).name; handle = (out-WiredKid kid).handle }

abbrev pub shape_of : Wiring-F WiredKid Wiring → Shape
shape_of y = record { me = y.me; boss = y.boss; links = y.links; kids = map wired_of y.kids }

kid-shapes : (kid : WiredKid) → shapes_of_kid kid ≡ record { wired = wired_of kid; below = elim (option_map shapes (out-WiredKid kid).below) [ None ↦ [] | Some own ↦ own ] }
kid-shapes kid = shapes_kid-opens kid

wired-is : (kids : List WiredKid) → map (λ (kid : KidShapes). kid.wired) (map shapes_of_kid kids) ≡ map wired_of kids
wired-is [] = refl
wired-is (kid ∷ kids) = ap₂ (λ (own : KidShapes) (others : List Wired). own.wired ∷ others) (kid-shapes kid) (wired-is kids)

pub shapes-is : (wiring : Wiring) → shapes wiring ≡ shape_of (out-Wiring wiring) ∷ flat_map (λ (kid : KidShapes). kid.below) (map shapes_of_kid (out-Wiring wiring).kids)
shapes-is wiring =
    let y : Wiring-F WiredKid Wiring = out-Wiring wiring in
    shapes-opens wiring
    ∙ ap (λ (kids : List Wired). record { me = y.me; boss = y.boss; links = y.links; kids = kids } ∷ flat_map (λ (kid : KidShapes). kid.below) (map shapes_of_kid y.kids)) (wired-is y.kids)

module _ (P : Shape → Type 0) where
  abbrev pub Each : Wiring → Type 0
  Each wiring = AllByRecursion P (shapes wiring)

  abbrev pub KidEach : WiredKid → Type 0
  KidEach kid = Beneath Each (out-WiredKid kid).below

  kid-each : (kid : WiredKid) → AllByRecursion P (shapes_of_kid kid).below → KidEach kid
  kid-each kid each = by (out-WiredKid kid).below (subst (λ (own : KidShapes). AllByRecursion P own.below) (kid-shapes kid) each) where
    by : (below : Option Wiring) → AllByRecursion P (elim (option_map shapes below) [ None ↦ [] | Some own ↦ own ]) → Beneath Each below
    by None own = tt
    by (Some wiring) own = own

  each-kid : (kid : WiredKid) → KidEach kid → AllByRecursion P (shapes_of_kid kid).below
  each-kid kid each = subst (λ (own : KidShapes). AllByRecursion P own.below) (sym (kid-shapes kid)) (by (out-WiredKid kid).below each) where
    by : (below : Option Wiring) → Beneath Each below → AllByRecursion P (elim (option_map shapes below) [ None ↦ [] | Some own ↦ own ])
    by None own = tt
    by (Some wiring) own = own

  kids-each : (kids : List WiredKid) → AllByRecursion P (flat_map (λ (kid : KidShapes). kid.below) (map shapes_of_kid kids)) → AllByRecursion KidEach kids
  kids-each [] each = tt
  kids-each (kid ∷ kids) each =
      let others : List Shape = flat_map (λ (own : KidShapes). own.below) (map shapes_of_kid kids) in
      (kid-each kid (each-front P (shapes_of_kid kid).below others each), kids-each kids (each-back P (shapes_of_kid kid).below others each))

  each-kids : (kids : List WiredKid) → AllByRecursion KidEach kids → AllByRecursion P (flat_map (λ (kid : KidShapes). kid.below) (map shapes_of_kid kids))
  each-kids [] each = tt
  each-kids (kid ∷ kids) each = each-append P (shapes_of_kid kid).below (flat_map (λ (own : KidShapes). own.below) (map shapes_of_kid kids)) (each-kid kid each.0) (each-kids kids each.1)

  -- of a network itself, and beneath its components
  pub net-here : (wiring : Wiring) → Each wiring → P (shape_of (out-Wiring wiring))
  net-here wiring each = (subst (λ (own : List Shape). AllByRecursion P own) (shapes-is wiring) each).0

  pub net-below : (wiring : Wiring) → Each wiring → AllByRecursion KidEach (out-Wiring wiring).kids
  net-below wiring each = kids-each (out-Wiring wiring).kids (subst (λ (own : List Shape). AllByRecursion P own) (shapes-is wiring) each).1

  pub net-of : (y : Wiring-F WiredKid Wiring) → P (shape_of y) → AllByRecursion KidEach y.kids → Each (roll-Wiring y)
  net-of y here below =
      subst (λ (own : List Shape). AllByRecursion P own) (sym (shapes-is (roll-Wiring y))) (
        subst (λ (own : Wiring-F WiredKid Wiring). P (shape_of own)) (sym (out-roll-Wiring y)) here,
        subst (λ (own : Wiring-F WiredKid Wiring). AllByRecursion P (flat_map (λ (kid : KidShapes). kid.below) (map shapes_of_kid own.kids))) (sym (out-roll-Wiring y)) (each-kids y.kids below),
      )

-- a component that is changed keeps its name and its handle
pub same-wired : (name : Name) (f : Wiring → Wiring) (kid : WiredKid) → wired_of (kid_changed name f kid) ≡ wired_of kid
same-wired name f kid = by (is_same_name (out-WiredKid kid).name name) where
  by : (same : Bool) → wired_of (if same then roll-WiredKid (record (out-WiredKid kid) { below = below_changed f (out-WiredKid kid).below }) else kid) ≡ wired_of kid
  by true = ap (λ (z : WiredKid-F WiredKid Wiring). record { name = z.name; handle = z.handle }) (out-roll-WiredKid (record (out-WiredKid kid) { below = below_changed f (out-WiredKid kid).below }))
  by false = refl

pub same-name : (name : Name) (f : Wiring → Wiring) (kid : WiredKid) → (out-WiredKid (kid_changed name f kid)).name ≡ (out-WiredKid kid).name
same-name name f kid = ap (λ (own : Wired). own.name) (same-wired name f kid)

all-wired : (name : Name) (f : Wiring → Wiring) (kids : List WiredKid) → map wired_of (map (kid_changed name f) kids) ≡ map wired_of kids
all-wired name f [] = refl
all-wired name f (kid ∷ kids) = ap₂ (λ (own : Wired) (others : List Wired). own ∷ others) (same-wired name f kid) (all-wired name f kids)

module _ (P : Shape → Type 0) where
  changed-kid : (name : Name) (f : Wiring → Wiring) → ((x : Wiring) → Each P x → Each P (f x)) → (kid : WiredKid) → KidEach P kid → KidEach P (kid_changed name f kid)
  changed-kid name f keeps kid each = by (is_same_name (out-WiredKid kid).name name) where
    belows : (below : Option Wiring) → Beneath (Each P) below → Beneath (Each P) (below_changed f below)
    belows None own = tt
    belows (Some wiring) own = keeps wiring own

    by : (same : Bool) → KidEach P (if same then roll-WiredKid (record (out-WiredKid kid) { below = below_changed f (out-WiredKid kid).below }) else kid)
    by true = subst (λ (z : WiredKid-F WiredKid Wiring). Beneath (Each P) z.below) (sym (out-roll-WiredKid (record (out-WiredKid kid) { below = below_changed f (out-WiredKid kid).below }))) (belows (out-WiredKid kid).below each)
    by false = each

  changed-kids : (name : Name) (f : Wiring → Wiring) → ((x : Wiring) → Each P x → Each P (f x)) → (kids : List WiredKid) → AllByRecursion (KidEach P) kids → AllByRecursion (KidEach P) (map (kid_changed name f) kids)
  changed-kids name f keeps [] each = tt
  changed-kids name f keeps (kid ∷ kids) each = (changed-kid name f keeps kid each.0, changed-kids name f keeps kids each.1)

  -- a change that keeps it where it is made keeps it in the whole
  pub changed-each : (f : Wiring → Wiring) → ((x : Wiring) → Each P x → Each P (f x)) → (place : List Name) (wiring : Wiring) → Each P wiring → Each P (changed place f wiring)
  changed-each f keeps [] wiring each = keeps wiring each
  changed-each f keeps (name ∷ place) wiring each =
      let y : Wiring-F WiredKid Wiring = out-Wiring wiring in
      net-of P (record y { kids = map (kid_changed name (changed place f)) y.kids })
      (subst (λ (kids : List Wired). P (record { me = y.me; boss = y.boss; links = y.links; kids = kids })) (sym (all-wired name (changed place f) y.kids)) (net-here P wiring each))
      (changed-kids name (changed place f) (changed-each f keeps place) y.kids (net-below P wiring each))

  -- the networks at a place have it
  kid-at : (name : Name) (place : List Name) → ((x : Wiring) → Each P x → AllByRecursion (Each P) (nets_at place x)) → (kid : WiredKid) → KidEach P kid → AllByRecursion (Each P) (kid_at name (nets_at place) kid)
  kid-at name place at kid = by (is_same_name (out-WiredKid kid).name name) (out-WiredKid kid).below where
    by : (same : Bool) (below : Option Wiring) → Beneath (Each P) below → AllByRecursion (Each P) (if same then below_at (nets_at place) below else [])
    by false below each = tt
    by true None each = tt
    by true (Some wiring) each = at wiring each

  kids-at : (name : Name) (place : List Name) → ((x : Wiring) → Each P x → AllByRecursion (Each P) (nets_at place x)) → (kids : List WiredKid) → AllByRecursion (KidEach P) kids → AllByRecursion (Each P) (flat_map (kid_at name (nets_at place)) kids)
  kids-at name place at [] each = tt
  kids-at name place at (kid ∷ kids) each =
      each-append (Each P) (kid_at name (nets_at place) kid) (flat_map (kid_at name (nets_at place)) kids) (kid-at name place at kid each.0) (kids-at name place at kids each.1)

  pub nets-each : (place : List Name) (wiring : Wiring) → Each P wiring → AllByRecursion (Each P) (nets_at place wiring)
  nets-each [] wiring each = (each, tt)
  nets-each (name ∷ place) wiring each = kids-at name place (nets-each place) (out-Wiring wiring).kids (net-below P wiring each)
