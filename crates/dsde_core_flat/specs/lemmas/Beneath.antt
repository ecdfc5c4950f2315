-- Where the parts beneath a path stand, and that all others stand elsewhere.
use Rattle.std.proofs.Common.{◌≡◌, Bool, true, false, cond, List, [], ◌∷◌, ◌++◌, length, Option, Some, None, refl, sym, ap, subst, ◌∙◌, append_assoc, length-append, arith}
use Rattle.std.specs.List.{flat_map, AllByRecursion}
use Rattle.std.proofs.lemmas.List.{append_cancel_left, append-nil}
use Rattle.dsde_bank.specs.declared.handle.Handle.{Handle}
use Rattle.dsde_values.specs.declared.name.Name.{Name}
use Rattle.dsde_values.specs.declared.path.Path.{Path}
use Rattle.dsde_values.specs.Path.{EXEC}
use Rattle.dsde_sim_tree.specs.Told.{below, to_boss}
use Rattle.dsde_routes_wiring.specs.given.structure.Gather.{is_same_name}
use Rattle.dsde_routes_wiring.specs.declared.wiring.Wiring.{Wiring}
use Rattle.dsde_routes_wiring.specs.declared.wiring.WiredKid.{WiredKid}
use Rattle.dsde_routes_wiring.specs.declared.wiring.WiredKid.TheViews.{out-Wiring, out-WiredKid}
use Rattle.dsde_core_flat.specs.Places.{Place, place, net_places, kid_places, part_places}
use Rattle.dsde_core_flat.specs.lemmas.Opened.{kid-stands, net-stands, OfKid}
use Rattle.dsde_routes_wiring.specs.Opened.{each_wiring, Beneath}
use Rattle.dsde_core_flat.specs.lemmas.Frame.{all-join}
use Rattle.dsde_core_flat.specs.Change.{kid_outside, outside}
use Rattle.dsde_core_flat.specs.lemmas.Names.{name-exact, name-apart}

pub all-map : {A : Type 0} (P Q : A → Type 0) → ((x : A) → P x → Q x) → (xs : List A) → AllByRecursion P xs → AllByRecursion Q xs
all-map P Q step [] all = tt
all-map P Q step (x ∷ xs) all = (step x all.0, all-map P Q step xs all.1)

-- these names lead to a part above a place, or to it
pub record IsBeneath (names : List Name) (at : Place) : Type 0 where
  pub rest : List Name
  pub is : at.path.names ≡ names ++ rest

-- what stands below a component stands below its network
lift : (names : List Name) (name : Name) (at : Place) → IsBeneath (names ++ name ∷ []) at → IsBeneath names at
lift names name at under = record { rest = name ∷ under.rest; is = under.is ∙ append_assoc names (name ∷ []) under.rest }

abbrev AreBeneath : Wiring → Type 0
AreBeneath net = (path : Path) → AllByRecursion (IsBeneath path.names) (net_places net path)

part-beneath : (handle : Handle) (path : Path) (own : Option Wiring) → Beneath AreBeneath own → AllByRecursion (IsBeneath path.names) (part_places handle path own)
part-beneath handle path None known = (record { rest = []; is = sym (append-nil path.names) }, tt)
part-beneath handle path (Some net) known = (record { rest = []; is = sym (append-nil path.names) }, known path)

kids-beneath : (kids : List WiredKid) (path : Path) → AllByRecursion (OfKid AreBeneath) kids →
    AllByRecursion (IsBeneath path.names) (flat_map (λ (kid : WiredKid). kid_places kid path) kids)
kids-beneath [] path known = tt
kids-beneath (kid ∷ kids) path known =
    let one = part-beneath (out-WiredKid kid).handle (below path (out-WiredKid kid).name) (out-WiredKid kid).below known.0 in
    all-join (IsBeneath path.names) (kid_places kid path) (flat_map (λ (k : WiredKid). kid_places k path) kids)
    (subst (AllByRecursion (IsBeneath path.names)) (sym (kid-stands kid path))
    (all-map (IsBeneath (path.names ++ (out-WiredKid kid).name ∷ [])) (IsBeneath path.names) (lift path.names (out-WiredKid kid).name)
    (part_places (out-WiredKid kid).handle (below path (out-WiredKid kid).name) (out-WiredKid kid).below) one))
    (kids-beneath kids path known.1)

net-beneath : (net : Wiring) → AreBeneath net
net-beneath = each_wiring AreBeneath (λ net known path.
    subst (AllByRecursion (IsBeneath path.names)) (sym (net-stands net path))
    (all-join (IsBeneath path.names) (flat_map (λ (kid : WiredKid). kid_places kid path) (out-Wiring net).kids) (place (out-Wiring net).boss (to_boss path) false ∷ [])
    (kids-beneath (out-Wiring net).kids path known)
    (record { rest = EXEC ∷ []; is = refl }, tt)))

each-beneath : (own : Option Wiring) → Beneath AreBeneath own
each-beneath None = tt
each-beneath (Some net) = net-beneath net

-- all places of a part at a path have the path in front
pub places-beneath : (handle : Handle) (path : Path) (own : Option Wiring) → AllByRecursion (IsBeneath path.names) (part_places handle path own)
places-beneath handle path own = part-beneath handle path own (each-beneath own)

-- no executive's name leads on
abbrev pub IsNoBoss : Name → Type 0
IsNoBoss name = is_same_name EXEC name ≡ false

-- a place is not beneath the part where names lead from a path
abbrev pub IsApart : List Name → Place → Type 0
IsApart names at = ¬ IsBeneath names at

longer : (names more : List Name) (name : Name) (rest : List Name) → names ≡ (names ++ name ∷ more) ++ rest → ⊥
longer names more name rest is = omega (arith, ap length is, length-append (names ++ name ∷ more) rest, length-append names (name ∷ more))

-- what stands where another name leads stands elsewhere
other-name : (names more : List Name) (one name : Name) (rest over : List Name) → is_same_name one name ≡ false → (names ++ one ∷ []) ++ rest ≡ (names ++ name ∷ more) ++ over → ⊥
other-name names more one name rest over apart is =
    let tails : one ∷ rest ≡ name ∷ (more ++ over) =
    append_cancel_left names (one ∷ rest) (name ∷ (more ++ over)) (sym (append_assoc names (one ∷ []) rest) ∙ is ∙ append_assoc names (name ∷ more) over) in
    name-apart one name apart (let same : one ≡ name = cc in same)

module _ (path : Path) (name : Name) (names : List Name) where
  abbrev Elsewhere : Place → Type 0
  Elsewhere = IsApart (path.names ++ name ∷ names)

  abbrev Later : Type 0
  Later = (handle : Handle) (its : Path) (own : Option Wiring) → AllByRecursion (IsApart (its.names ++ names)) (outside names handle its own)

  one-apart : Later → (kid : WiredKid) (b : Bool) → is_same_name (out-WiredKid kid).name name ≡ b →
      AllByRecursion Elsewhere (cond b (outside names (out-WiredKid kid).handle (below path (out-WiredKid kid).name) (out-WiredKid kid).below) (kid_places kid path))
  one-apart known kid true is =
      subst (λ (all : List Name). AllByRecursion (IsApart all) (outside names (out-WiredKid kid).handle (below path (out-WiredKid kid).name) (out-WiredKid kid).below))
      (append_assoc path.names ((out-WiredKid kid).name ∷ []) names ∙ ap (λ (n : Name). path.names ++ n ∷ names) (name-exact (out-WiredKid kid).name name is))
      (known (out-WiredKid kid).handle (below path (out-WiredKid kid).name) (out-WiredKid kid).below)
  one-apart known kid false is =
      subst (AllByRecursion Elsewhere) (sym (kid-stands kid path))
      (all-map (IsBeneath (path.names ++ (out-WiredKid kid).name ∷ [])) Elsewhere
      (λ at under over. other-name path.names names (out-WiredKid kid).name name under.rest over.rest is (sym under.is ∙ over.is))
      (part_places (out-WiredKid kid).handle (below path (out-WiredKid kid).name) (out-WiredKid kid).below)
      (places-beneath (out-WiredKid kid).handle (below path (out-WiredKid kid).name) (out-WiredKid kid).below))

  kids-apart : Later → (kids : List WiredKid) → AllByRecursion Elsewhere (flat_map (kid_outside name (outside names) path) kids)
  kids-apart known [] = tt
  kids-apart known (kid ∷ kids) =
      all-join Elsewhere (kid_outside name (outside names) path kid) (flat_map (kid_outside name (outside names) path) kids)
      (one-apart known kid (is_same_name (out-WiredKid kid).name name) refl)
      (kids-apart known kids)

-- The places outside are not beneath the part where the names lead.
pub outside-apart : (names : List Name) → AllByRecursion IsNoBoss names → (handle : Handle) (path : Path) (own : Option Wiring) →
    AllByRecursion (IsApart (path.names ++ names)) (outside names handle path own)
outside-apart [] none handle path own = tt
outside-apart (name ∷ names) none handle path None = (λ over. longer path.names names name over.rest over.is, tt)
outside-apart (name ∷ names) none handle path (Some net) = (
  λ over. longer path.names names name over.rest over.is,
  all-join (IsApart (path.names ++ name ∷ names)) (flat_map (kid_outside name (outside names) path) (out-Wiring net).kids) (place (out-Wiring net).boss (to_boss path) false ∷ [])
      (kids-apart path name names (outside-apart names none.1) (out-Wiring net).kids)
      (λ over. other-name path.names names EXEC name [] over.rest none.0 (append-nil (path.names ++ EXEC ∷ []) ∙ over.is), tt),
)
