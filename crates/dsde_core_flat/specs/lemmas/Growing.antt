-- Where a part may grow, in a tree whose components are told apart by their names.
use Rattle.std.proofs.Common.{◌≡◌, ◌≢◌, inl, inr, ℕ, List, [], ◌∷◌, ◌++◌, map, Option, Some, None, sym, ap, subst, ◌∙◌, length, append_assoc, length-append, arith}
use Rattle.std.specs.Option.{option_map_or}
use Rattle.std.specs.List.{flat_map, AllByRecursion}
use Rattle.std.specs.FinMap as map
use Rattle.std.proofs.lemmas.List.{append_cancel_left, append-nil}
use Rattle.dsde_bank.specs.declared.handle.Handle.{Handle}
use Rattle.dsde_values.specs.declared.name.Name.{Name}
use Rattle.dsde_values.specs.declared.path.Path.{Path}
use Rattle.dsde_values.specs.Path.{EXEC}
use Rattle.dsde_sim_tree.specs.Told.{below}
use Rattle.dsde_routes_wiring.specs.given.structure.plan_Entry.{Entry}
use Rattle.dsde_grove.specs.Grove as grove
use Rattle.dsde_grove.specs.Grove.{Grove, IsTree, IsKid, Grows, spot}
use Rattle.dsde_sim_tree.specs.declared.sim.Kid.{Kid}
use Rattle.dsde_sim_tree.specs.declared.sim.Net.{Net}
use Rattle.dsde_sim_tree.specs.declared.sim.Sim.TheVariants as sim
use Rattle.dsde_sim_tree.specs.declared.sim.Sim.TheViews.{out-Kid, out-Net}
use Rattle.dsde_sim_tree.specs.Tree.{entry_of}
use Rattle.dsde_sim_tree.specs.Spots.{spots_of_kid}
use Rattle.dsde_sim_tree.specs.Opened.{spots-Net, spots-net, spots-kid}
use Rattle.dsde_core_flat.specs.declared.spot.Spot.{Spot}
use Rattle.dsde_routes_wiring.specs.declared.wiring.WiredKid.{WiredKid}
use Rattle.dsde_routes_wiring.specs.declared.wiring.WiredKid.TheViews.{out-WiredKid}
use Rattle.dsde_core_flat.specs.Places.{Place, kid_places}
use Rattle.dsde_core_flat.specs.lemmas.Opened.{kid-stands}
use Rattle.dsde_core_flat.specs.lemmas.Frame.{all-left, all-right}
use Rattle.dsde_core_flat.specs.lemmas.Beneath.{IsBeneath, places-beneath}
use Rattle.dsde_core_flat.specs.Stands.{StandsAt, HasBirth, Leads}
use Rattle.dsde_core_flat.specs.lemmas.Keeping.{spot-got}
use Rattle.dsde_core_flat.specs.lemmas.Grafting.{grown-spot, grown-only}
use Rattle.dsde_core_flat.specs.Grafts.{path_at, IsFree, IsRoomFor, AreGrafted}
use Rattle.dsde_core_flat.specs.Named.{AreToldApart, TellsParts, HasOwnNames, KidHasOwnNames}

kids-named : (kids : List Kid) → AllByRecursion TellsParts (flat_map spots_of_kid kids) → AllByRecursion KidHasOwnNames kids
kids-named [] all = tt
kids-named (kid ∷ kids) all = (
  record { all = subst (AllByRecursion TellsParts) (spots-kid kid) (all-left TellsParts (spots_of_kid kid) (flat_map spots_of_kid kids) all) },
  kids-named kids (all-right TellsParts (spots_of_kid kid) (flat_map spots_of_kid kids) all),
)

pub net-named : (net : Net) → HasOwnNames (sim.Net net) → AreToldApart (map entry_of (out-Net net).kids) × AllByRecursion KidHasOwnNames (out-Net net).kids
net-named net has =
    let all = subst (AllByRecursion TellsParts) (spots-Net net ∙ spots-net net) has.all in
    (all.0, kids-named (out-Net net).kids all.1)

-- where nothing is beneath a name, no component has it
pub no-kid : (own : Grove Spot) (parent : Handle) (name : Name) → IsTree own → IsFree own (below (path_at own parent) name).names → (kid : Handle) → ¬ IsKid own parent name kid
no-kid own parent name is_tree free kid is =
    let got = spot-got own kid is.part is.live in
    let up = is_tree.up kid.birth is.part parent got is.below in
    let here : path_at own parent ≡ record { names = up.above.path } = ap (λ (o : Option (grove.Spot Spot)). let p : Path = record { names = option_map_or (λ (part : grove.Spot Spot). part.path) o [] } in p) up.live in
    free kid.birth is.part got (record {
      rest = [];
      is = up.path ∙ ap (λ (n : Name). up.above.path ++ n ∷ []) is.named ∙ ap (λ (p : Path). p.names ++ name ∷ []) (sym here) ∙ sym (append-nil ((path_at own parent).names ++ name ∷ []));
    })

-- the births of a part that is put in stand beneath it
pub among : (new : Grove Spot) (names : List Name) (birth : ℕ) (part : grove.Spot Spot) → map.get new.parts birth ≡ Some part → (ats : List Place) → AllByRecursion (StandsAt new) ats →
    AllByRecursion (IsBeneath names) ats → HasBirth birth ats → Leads names part.path
among new names birth part is [] stands beneath has = absurd has
among new names birth part is (at ∷ ats) stands beneath (inl here) =
    let live : map.get new.parts birth ≡ Some stands.0.part = ap (map.get new.parts) (sym here) ∙ spot-got new at.handle stands.0.part stands.0.live in
    let one : part ≡ stands.0.part = cc in
    record { rest = beneath.0.rest; is = ap (λ (p : grove.Spot Spot). p.path) one ∙ stands.0.path ∙ beneath.0.is }
among new names birth part is (at ∷ ats) stands beneath (inr later) = among new names birth part is ats stands.1 beneath.1 later

pub longer : (names : List Name) (name : Name) (rest : List Name) → names ≡ (names ++ name ∷ []) ++ rest → ⊥
longer names name rest is = omega (arith, ap length is, length-append (names ++ name ∷ []) rest, length-append names (name ∷ []))

pub heads-alike : (names : List Name) (a b : Name) (rest over path : List Name) → path ≡ (names ++ a ∷ []) ++ rest → path ≡ (names ++ b ∷ []) ++ over → a ≡ b
heads-alike names a b rest over path is its =
    let tails : a ∷ rest ≡ b ∷ over = append_cancel_left names (a ∷ rest) (b ∷ over) (sym (append_assoc names (a ∷ []) rest) ∙ sym is ∙ its ∙ append_assoc names (b ∷ []) over) in
    cc

-- where no component has a name, none has it behind a component of another name
pub free-after : (own new : Grove Spot) (path : Path) (name other : Name) (sims : List Kid) (kid : WiredKid) → AreGrafted own new path sims (kid ∷ []) → (out-WiredKid kid).name ≡ name →
    name ≢ other → IsFree own (below path other).names → IsFree new (below path other).names
free-after own new path name other sims kid grafted named apart free birth part is leads = elim (grafted.only birth part is) [
  | inl before ↦ free birth part before leads
  | inr has ↦
      let its : HasBirth birth (kid_places kid path) = subst (HasBirth birth) (append-nil (kid_places kid path)) has in
      let stands : AllByRecursion (StandsAt new) (kid_places kid path) = subst (AllByRecursion (StandsAt new)) (append-nil (kid_places kid path)) grafted.live in
      let beneath : AllByRecursion (IsBeneath (path.names ++ (out-WiredKid kid).name ∷ [])) (kid_places kid path) =
      subst (AllByRecursion (IsBeneath (path.names ++ (out-WiredKid kid).name ∷ []))) (sym (kid-stands kid path)) (places-beneath (out-WiredKid kid).handle (below path (out-WiredKid kid).name) (out-WiredKid kid).below) in
      let here = among new (path.names ++ (out-WiredKid kid).name ∷ []) birth part is (kid_places kid path) stands beneath its in
      apart (sym named ∙ heads-alike path.names (out-WiredKid kid).name other here.rest leads.rest part.path here.is leads.is)
]

pub room-after : (own new : Grove Spot) (path : Path) (name : Name) (sims : List Kid) (kid : WiredKid) → AreGrafted own new path sims (kid ∷ []) → (out-WiredKid kid).name ≡ name →
    (kids : List Kid) → AllByRecursion (λ (other : Entry). name ≢ other.name) (map entry_of kids) → AllByRecursion (IsRoomFor own path) kids → AllByRecursion (IsRoomFor new path) kids
room-after own new path name sims kid grafted named [] apart free = tt
room-after own new path name sims kid grafted named (one ∷ kids) apart free =
    (free-after own new path name (out-Kid one).name sims kid grafted named apart.0 free.0, room-after own new path name sims kid grafted named kids apart.1 free.1)

-- a part that has grown has room below it, but for its executive's name once that has grown
module _ (one two three : Grove Spot) (parent handle boss : Handle) (name : Name) (value last : Spot) (path : Path)
    (first : Grows one two parent name value handle) (fresh : map.get one.parts handle.birth ≡ None) (at : first.above.path ≡ path.names)
    (second : Grows two three handle EXEC last boss) (fresh_two : map.get two.parts boss.birth ≡ None) (at_two : second.above.path ≡ (below path name).names) where
  pub free-below : (other : Name) → IsFree one (below path name).names → EXEC ≢ other → IsFree three (below (below path name) other).names
  free-below other free apart birth part is leads = elim (grown-only two three handle EXEC last boss (below path name) second fresh_two at_two birth part is) [
    | inl before ↦ elim (grown-only one two parent name value handle path first fresh at birth part before) [
      | inl earlier ↦ free birth part earlier (record { rest = other ∷ leads.rest; is = leads.is ∙ append_assoc (below path name).names (other ∷ []) leads.rest })
      | inr here ↦
          let its : map.get two.parts birth ≡ Some (record { slot = handle.slot; parent = Some parent; name = name; path = first.above.path ++ name ∷ []; value = value }) =
          ap (map.get two.parts) (sym here) ∙ spot-got two handle _ (grown-spot one two parent name value handle path first fresh at) in
          let same : part ≡ record { slot = handle.slot; parent = Some parent; name = name; path = first.above.path ++ name ∷ []; value = value } = cc in
          longer (below path name).names other leads.rest (ap (λ (names : List Name). names ++ name ∷ []) (sym at) ∙ sym (ap (λ (p : grove.Spot Spot). p.path) same) ∙ leads.is)
    ]
    | inr here ↦
        let its : map.get three.parts birth ≡ Some (record { slot = boss.slot; parent = Some handle; name = EXEC; path = second.above.path ++ EXEC ∷ []; value = last }) =
        ap (map.get three.parts) (sym here) ∙ spot-got three boss _ (grown-spot two three handle EXEC last boss (below path name) second fresh_two at_two) in
        let same : part ≡ record { slot = boss.slot; parent = Some handle; name = EXEC; path = second.above.path ++ EXEC ∷ []; value = last } = cc in
        apart (heads-alike (below path name).names EXEC other [] leads.rest part.path
        (ap (λ (p : grove.Spot Spot). p.path) same ∙ ap (λ (names : List Name). names ++ EXEC ∷ []) at_two ∙ sym (append-nil ((below path name).names ++ EXEC ∷ []))) leads.is)
  ]

  pub room-below : (kids : List Kid) → AreToldApart (map entry_of kids) → IsFree one (below path name).names → AllByRecursion (IsRoomFor three (below path name)) kids
  room-below [] named free = tt
  room-below (kid ∷ kids) named free = (free-below (out-Kid kid).name free named.0, room-below kids named.2 free)

-- a part that has just grown has room below it
pub free-first : (one two : Grove Spot) (parent handle : Handle) (name other : Name) (value : Spot) (path : Path) (first : Grows one two parent name value handle) → map.get one.parts handle.birth ≡ None →
    first.above.path ≡ path.names → IsFree one (below path name).names → IsFree two (below (below path name) other).names
free-first one two parent handle name other value path first fresh at free birth part is leads = elim (grown-only one two parent name value handle path first fresh at birth part is) [
  | inl earlier ↦ free birth part earlier (record { rest = other ∷ leads.rest; is = leads.is ∙ append_assoc (below path name).names (other ∷ []) leads.rest })
  | inr here ↦
      let its : map.get two.parts birth ≡ Some (record { slot = handle.slot; parent = Some parent; name = name; path = first.above.path ++ name ∷ []; value = value }) =
      ap (map.get two.parts) (sym here) ∙ spot-got two handle _ (grown-spot one two parent name value handle path first fresh at) in
      let same : part ≡ record { slot = handle.slot; parent = Some parent; name = name; path = first.above.path ++ name ∷ []; value = value } = cc in
      longer (below path name).names other leads.rest (ap (λ (names : List Name). names ++ name ∷ []) (sym at) ∙ sym (ap (λ (p : grove.Spot Spot). p.path) same) ∙ leads.is)
]
