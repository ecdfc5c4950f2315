-- Where a network has room for a component.
use Rattle.std.proofs.Common.{◌≡◌, ◌≢◌, ◌⊎◌, inl, inr, ℕ, Bool, true, false, not, ◌||◌, List, [], ◌∷◌, ◌++◌, Option, Some, None, IsSome, refl, sym, ap, subst, ◌∙◌, append_assoc}
use Rattle.std.specs.Prelude.{is_some}
use Rattle.std.specs.Option.{option_map, option_map_or}
use Rattle.std.specs.List.{AllByRecursion}
use Rattle.std.specs.FinMap as map
use Rattle.std.proofs.lemmas.List.{append-nil}
use Rattle.dsde_bank.specs.declared.handle.Handle.{Handle}
use Rattle.dsde_values.specs.declared.name.Name.{Name}
use Rattle.dsde_values.specs.declared.path.Path.{Path}
use Rattle.dsde_values.specs.Path.{EXEC}
use Rattle.dsde_structure.specs.declared.plan.Entry.{Entry}
use Rattle.dsde_structure.specs.Gather.{is_same_name}
use Rattle.dsde_sim_tree.specs.Told.{below}
use Rattle.dsde_grove.specs.Grove as grove
use Rattle.dsde_grove.specs.Grove.{Grove, spot, value_of}
use Rattle.dsde_sim_tree.specs.declared.sim.Kid.{Kid}
use Rattle.dsde_sim_tree.specs.Tree.{name_of}
use Rattle.dsde_routes_wiring.specs.declared.wiring.Wiring.{Wiring}
use Rattle.dsde_routes_wiring.specs.declared.wiring.WiredKid.{WiredKid}
use Rattle.dsde_routes_wiring.specs.declared.wiring.WiredKid.TheViews.{out-WiredKid}
use Rattle.dsde_core_moves.specs.given.core_flat.spot_Spot.{Spot}
use Rattle.dsde_core_moves.specs.given.core_flat.Grafts.{path_at, AreGrafted, IsFree}
use Rattle.dsde_core_moves.specs.given.core_flat.Places.{Place, kid_places, part_places, places_of}
use Rattle.dsde_core_moves.specs.given.core_flat.Shown.{kid_under}
use Rattle.dsde_core_moves.specs.given.core_flat.Stands.{is_net, ChangesBeneath, HasBirth, Leads, NetStands, StandsAt}
use Rattle.dsde_core_moves.specs.given.core_flat.lemmas_Apart.{name-shown}
use Rattle.dsde_core_moves.specs.given.core_flat.lemmas_Beneath.{all-map, IsBeneath}
use Rattle.dsde_core_moves.specs.given.core_flat.lemmas_Frame.{all-left, all-right, all-join}
use Rattle.dsde_core_moves.specs.given.core_flat.lemmas_Grafting.{kept-spot}
use Rattle.dsde_core_moves.specs.given.core_flat.lemmas_Growing.{among, heads-alike, longer}
use Rattle.dsde_core_moves.specs.given.core_flat.lemmas_Inside.{beneath-there}
use Rattle.dsde_core_moves.specs.given.core_flat.lemmas_Keeping.{spot-got}
use Rattle.dsde_core_moves.specs.given.core_flat.lemmas_Names.{name-apart, same-itself}
use Rattle.dsde_core_moves.specs.given.core_flat.lemmas_Opened.{kid-stands}
use Rattle.dsde_core_moves.specs.Compared.{IsHeld}
use Rattle.dsde_core_moves.specs.Chosen.{shown}
use Rattle.dsde_core_moving.proofs.Needed.{is_without}
use Rattle.dsde_core_moving.proofs.Taking.{has_named}
use Rattle.dsde_core_moving.specs.Changed.{IsRoomAs}

-- what lies under the handles of components of a network that stands in a grove
held-by : (own : Grove Spot) (path : Path) (kid : WiredKid) (below : Option Wiring) → AllByRecursion (StandsAt own) (part_places (out-WiredKid kid).handle path below) →
    (value : Spot) × (value_of own (out-WiredKid kid).handle ≡ Some value) × (is_net value ≡ is_some below)
held-by own path kid None stands = (stands.0.part.value, ap (option_map (λ (part : grove.Spot Spot). part.value)) stands.0.live, stands.0.kind)
held-by own path kid (Some wiring) stands = (stands.0.part.value, ap (option_map (λ (part : grove.Spot Spot). part.value)) stands.0.live, stands.0.kind)

pub all-held : (own : Grove Spot) (path : Path) (kids : List WiredKid) → AllByRecursion (StandsAt own) (places_of path kids) → AllByRecursion (IsHeld own) kids
all-held own path [] stands = tt
all-held own path (kid ∷ kids) stands =
    let here = subst (AllByRecursion (StandsAt own)) (kid-stands kid path) (all-left (StandsAt own) (kid_places kid path) (places_of path kids) stands) in
    let held = held-by own (below path (out-WiredKid kid).name) kid (out-WiredKid kid).below here in
    (record { value = held.0; held = held.1; kind = held.2 }, all-held own path kids (all-right (StandsAt own) (kid_places kid path) (places_of path kids) stands))

split : (birth : ℕ) (xs ys : List Place) → HasBirth birth (xs ++ ys) → HasBirth birth xs ⊎ HasBirth birth ys
split birth [] ys has = inr has
split birth (x ∷ xs) ys (inl here) = inl (inl here)
split birth (x ∷ xs) ys (inr later) = elim (split birth xs ys later) [ inl one ↦ inl (inr one) | inr other ↦ inr other ]

abbrev IsCalledElse : Name → WiredKid → Type 0
IsCalledElse name kid = (out-WiredKid kid).name ≢ name

module _ (own : Grove Spot) (path : Path) (name : Name) (birth : ℕ) (part : grove.Spot Spot) (is : map.get own.parts birth ≡ Some part) (leads : Leads (path.names ++ name ∷ []) part.path) where
  none-there : (kids : List WiredKid) → AllByRecursion (StandsAt own) (places_of path kids) → AllByRecursion (IsCalledElse name) kids → ¬ HasBirth birth (places_of path kids)
  none-there [] stands apart has = has
  none-there (kid ∷ kids) stands apart has = elim (split birth (kid_places kid path) (places_of path kids) has) [
    | inl here ↦
        let under = among own (path.names ++ (out-WiredKid kid).name ∷ []) birth part is (kid_places kid path) (all-left (StandsAt own) (kid_places kid path) (places_of path kids) stands) (beneath-there path kid) here in
        apart.0 (heads-alike path.names (out-WiredKid kid).name name under.rest leads.rest part.path under.is leads.is)
    | inr later ↦ none-there kids (all-right (StandsAt own) (kid_places kid path) (places_of path kids) stands) apart.1 later
  ]

-- where no component has a name, nothing lives beneath it
pub free-there : (own : Grove Spot) (handle last : Handle) (path : Path) (kids : List WiredKid) (name : Name) → NetStands own handle last path kids → EXEC ≢ name → AllByRecursion (IsCalledElse name) kids → IsFree own (below path name).names
free-there own handle last path kids name stands exec apart birth part is leads =
    elim (stands.only birth part is (record { rest = name ∷ leads.rest; is = leads.is ∙ append_assoc path.names (name ∷ []) leads.rest })) [
      | inl here ↦
          let live : map.get own.parts birth ≡ Some stands.itself.part = ap (map.get own.parts) (sym here) ∙ spot-got own handle stands.itself.part stands.itself.live in
          let same : part ≡ stands.itself.part = cc in
          longer path.names name leads.rest (sym stands.itself.path ∙ ap (λ (p : grove.Spot Spot). p.path) (sym same) ∙ leads.is)
      | inr other ↦ elim other [
        | inl boss ↦
            let live : map.get own.parts birth ≡ Some stands.executive.part = ap (map.get own.parts) (sym boss) ∙ spot-got own last stands.executive.part stands.executive.live in
            let same : part ≡ stands.executive.part = cc in
            exec (heads-alike path.names EXEC name [] leads.rest part.path (ap (λ (p : grove.Spot Spot). p.path) same ∙ stands.executive.path ∙ sym (append-nil (path.names ++ EXEC ∷ []))) leads.is)
        | inr there ↦ none-there own path name birth part is leads kids stands.components apart there
      ]
    ]

-- a name that no component has is none's
not-same : (name other : Name) → is_same_name name other ≡ false → name ≢ other
not-same name other unlike same = let wrong : true ≡ false = sym (same-itself name) ∙ ap (is_same_name name) same ∙ unlike in cc

or-left : (a b : Bool) → not (a || b) ≡ true → (a ≡ false) × (not b ≡ true)
or-left true b h = absurd (let wrong : false ≡ true = h in cc)
or-left false b h = (refl, h)

called-else : (own : Grove Spot) (kids : List WiredKid) (name : Name) → not (has_named name (shown own kids)) ≡ true → AllByRecursion (IsCalledElse name) kids
called-else own [] name without = tt
called-else own (kid ∷ kids) name without =
    let shows = name-shown (value_of own) kid in
    let both = or-left (is_same_name (name_of (kid_under (value_of own) kid)) name) (has_named name (shown own kids)) without in
    ((λ same. not-same (name_of (kid_under (value_of own) kid)) name both.0 (shows ∙ same)), called-else own kids name both.1)

-- where no component has the name of an entry, there is room for one of it
pub room-there : (own : Grove Spot) (handle last : Handle) (path : Path) (kids : List WiredKid) → NetStands own handle last path kids → (entries : List Entry) → AllByRecursion (λ (entry : Entry). is_same_name EXEC entry.name ≡ false) entries →
    AllByRecursion (λ (entry : Entry). is_without (shown own kids) entry ≡ true) entries → AllByRecursion (IsRoomAs own path) entries
room-there own handle last path kids stands [] ordinary without = tt
room-there own handle last path kids stands (entry ∷ entries) ordinary without = (
  free-there own handle last path kids entry.name stands (name-apart EXEC entry.name ordinary.0) (called-else own kids entry.name without.0),
  room-there own handle last path kids stands entries ordinary.1 without.1,
)

-- a network that stands in a grove is live, with its path
pub net-live : (own : Grove Spot) (handle last : Handle) (path : Path) (kids : List WiredKid) → NetStands own handle last path kids → IsSome (spot own handle)
net-live own handle last path kids stands = subst (λ (held : Option (grove.Spot Spot)). IsSome held) (sym stands.itself.live) refl

pub net-path : (own : Grove Spot) (handle last : Handle) (path : Path) (kids : List WiredKid) → NetStands own handle last path kids → path_at own handle ≡ path
net-path own handle last path kids stands =
    ap (λ (held : Option (grove.Spot Spot)). let p : Path = record { names = option_map_or (λ (part : grove.Spot Spot). part.path) held [] } in p) stands.itself.live
    ∙ ap (λ (names : List Name). let p : Path = record { names = names } in p) stands.itself.path

all-beneath : (path : Path) (kids : List WiredKid) → AllByRecursion (IsBeneath path.names) (places_of path kids)
all-beneath path [] = tt
all-beneath path (kid ∷ kids) =
    all-join (IsBeneath path.names) (kid_places kid path) (places_of path kids)
    (all-map (IsBeneath (path.names ++ (out-WiredKid kid).name ∷ [])) (IsBeneath path.names) (λ at under. record { rest = (out-WiredKid kid).name ∷ under.rest; is = under.is ∙ append_assoc path.names ((out-WiredKid kid).name ∷ []) under.rest }) (kid_places kid path) (beneath-there path kid))
    (all-beneath path kids)

-- what is put in below a part lies beneath it
pub graft-changes : (old new : Grove Spot) (path : Path) (sims : List Kid) (kids : List WiredKid) → AreGrafted old new path sims kids → ChangesBeneath path.names old new
graft-changes old new path sims kids grafted = record {
  kept = λ birth part is out. grafted.kept birth part is;
  only = λ birth part is out. elim (grafted.only birth part is) [
    | inl before ↦ before
    | inr there ↦ absurd (out (among new path.names birth part is (places_of path kids) grafted.live (all-beneath path kids) there))
  ];
}

-- what was live holds what it did
pub value-kept : (old new : Grove Spot) (path : Path) (sims : List Kid) (kids : List WiredKid) (handle : Handle) (part : grove.Spot Spot) → AreGrafted old new path sims kids → spot old handle ≡ Some part → value_of new handle ≡ value_of old handle
value-kept old new path sims kids handle part grafted live = ap (option_map (λ (p : grove.Spot Spot). p.value)) (kept-spot old new grafted.kept handle part live)
