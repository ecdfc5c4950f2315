-- Ways that pass a place, link by link.
use Rattle.std.proofs.Common.{◌≡◌, ℕ, Bool, true, false, if◌then◌else◌, List, [], ◌∷◌, ◌++◌, map, slice_get, Option, Some, None, append-nil, refl, sym, ap, ap₂, ◌∙◌, subst}
use Rattle.std.specs.List.{flat_map, enumerate_from, AllByRecursion}
use Rattle.dsde_bank.specs.declared.handle.Handle.{Handle}
use Rattle.dsde_values.specs.declared.name.Name.{Name}
use Rattle.dsde_routes_wiring.specs.given.structure.plan_End.{End}
use Rattle.dsde_routes_wiring.specs.given.structure.plan_Link.{Link}
use Rattle.dsde_routes_wiring.specs.given.structure.plan_Part.{Part}
use Rattle.dsde_routes_wiring.specs.given.structure.plan_Part_TheVariants as part
use Rattle.dsde_routes_wiring.specs.given.structure.Gather.{is_same_name}
use Rattle.dsde_routes_wiring.specs.declared.side.Side.{Side}
use Rattle.dsde_routes_wiring.specs.declared.wiring.WiredKid.{WiredKid}
use Rattle.dsde_routes_wiring.specs.declared.wiring.Wiring.{Wiring}
use Rattle.dsde_routes_wiring.specs.declared.wiring.WiredKid.TheViews.{out-Wiring, out-WiredKid}
use Rattle.dsde_routes_wiring.specs.Routes as route
use Rattle.dsde_routes_wiring.specs.Numbers.{numbers_at}
use Rattle.dsde_routes_wiring.specs.Side.{near, far}
use Rattle.dsde_routes_wiring.specs.Routes.{Ways, Around, Inner, below_step, is_border, extended, ways_by, net_ways, at_part, at_end, of_kid, links_of, step_from, within, no_ways, inner_of, inner_of_kid}
use Rattle.dsde_routes_wiring.specs.Places.{changed, bared, below_changed, kid_changed, nothing, only, passing, passing_below, passing_kid}
use Rattle.dsde_routes_wiring.specs.Wired.{AreWired}
use Rattle.dsde_repair_walks.proofs.Opens.{below_inner, inner-roll, kid-is, kid-roll}
use Rattle.dsde_repair_walks.proofs.Shapes.{same-name}
use Rattle.dsde_repair_walks.specs.declared.way.Way.{Way}
use Rattle.dsde_repair_walks.specs.Found.{is_named, IsAt}
use Rattle.dsde_repair_walks.specs.Places.{IsBelowWired}
use Rattle.dsde_repair_walks.specs.Walks.{kid_ways, link_at, own_way, ranked, extended_way}
use Rattle.dsde_repair_walks.proofs.Finding.{changed-named, changed-other, kid-at, some-one, found-wired}
use Rattle.dsde_repair_walks.proofs.Serving.{few-serve}
use Rattle.dsde_repair_walks.proofs.Walking.{map-flat, flat-of-map, ranked-all, no-border}
use Rattle.dsde_repair_walks.specs.Found.{IsOne}
use Rattle.dsde_repair.specs.Walks.{over_link, at_ways, passing_kids, passing_kid_ways, past_kid, past_around, past_kid_ways, parted_around, parted_kid_ways, parted_ways}

-- over one link
pub link-border : (side : Side) (around : Around) (me : Handle) (port number : ℕ) (link : Link) (more : List Way) → is_border port (near side link) ≡ true → more ≡ at_ways side around (far side link) →
    map (extended_way side number link) more ≡ over_link side around me port (number, link)
link-border side around me port number link more is got =
    ap (map (extended_way side number link)) got
    ∙ sym (ap (λ (b : Bool). map ranked (if b then map (extended side (step_from me (number, link))) (at_end side around (far side link)) else [])) is
    ∙ ranked-all side (step_from me (number, link)) (at_end side around (far side link)))

pub over-nothing : (side : Side) (around : Around) (me : Handle) (port number : ℕ) (link : Link) → is_border port (near side link) ≡ false → over_link side around me port (number, link) ≡ []
over-nothing side around me port number link is =
    ap (λ (b : Bool). map ranked (if b then map (extended side (step_from me (number, link))) (at_end side around (far side link)) else [])) is

pub all-over : (side : Side) (around : Around) (net : Wiring) (port : ℕ) → flat_map (over_link side around (out-Wiring net).me port) (enumerate_from 0 (out-Wiring net).links) ≡ map ranked (net_ways around (links_of net) side port)
all-over side around net port =
    sym (flat-of-map (λ link. map ranked (ways_by side around port link)) (step_from (out-Wiring net).me) (enumerate_from 0 (out-Wiring net).links))
    ∙ sym (map-flat ranked (ways_by side around port) (links_of net))

-- the links with an end at the network itself serve for all
pub few-over : (side : Side) (around : Around) (net : Wiring) (port : ℕ) →
    flat_map (link_at (over_link side around (out-Wiring net).me port) (out-Wiring net).links) (numbers_at side part.Net (out-Wiring net).links) ≡ map ranked (net_ways around (links_of net) side port)
few-over side around net port =
    sym (few-serve side part.Net (over_link side around (out-Wiring net).me port) (λ number link is. over-nothing side around (out-Wiring net).me port number link (no-border port (near side link) is)) (out-Wiring net).links)
    ∙ all-over side around net port

-- what stands at an end that names a component, where each component is seen by F
module _ (F : WiredKid → Name × Inner) (names : (kid : WiredKid) → (F kid).0 ≡ (out-WiredKid kid).name) (side : Side) (wanted : Name) (port : ℕ) where
  seen : (kid : WiredKid) (same : Bool) → is_named wanted kid ≡ same → of_kid side wanted port (F kid) ≡ (if same then (F kid).1.ways side port else [])
  seen kid same is = ap (λ (own : Name). if is_same_name own wanted then (F kid).1.ways side port else []) (names kid) ∙ ap (λ (b : Bool). if b then (F kid).1.ways side port else []) is

  pub none-seen : (kids : List WiredKid) → AllByRecursion (λ kid. is_named wanted kid ≡ false) kids → flat_map (of_kid side wanted port) (map F kids) ≡ []
  none-seen [] none = refl
  none-seen (kid ∷ kids) none = ap₂ (λ (xs ys : List route.Way). xs ++ ys) (seen kid false none.0) (none-seen kids none.1)

  middle-seen : (before : List WiredKid) (kid : WiredKid) (after : List WiredKid) → AllByRecursion (λ other. is_named wanted other ≡ false) before → is_named wanted kid ≡ true → AllByRecursion (λ other. is_named wanted other ≡ false) after →
      flat_map (of_kid side wanted port) (map F (before ++ kid ∷ after)) ≡ (F kid).1.ways side port
  middle-seen [] kid after none named later = ap₂ (λ (xs ys : List route.Way). xs ++ ys) (seen kid true named) (none-seen after later) ∙ append-nil ((F kid).1.ways side port)
  middle-seen (own ∷ before) kid after none named later = ap₂ (λ (xs ys : List route.Way). xs ++ ys) (seen own false none.0) (middle-seen before kid after none.1 named later)

  pub one-seen : (kids : List WiredKid) (kid : WiredKid) → IsOne wanted kids kid → flat_map (of_kid side wanted port) (map F kids) ≡ (F kid).1.ways side port
  one-seen kids kid one =
      let at : IsAt wanted kids one.0 = one.1 in
      let same : at.kid ≡ kid = some-one at.kid kid (sym (kid-at wanted kids one.0 at) ∙ one.2) in
      ap (λ own. flat_map (of_kid side wanted port) (map F own)) at.is ∙ middle-seen at.before at.kid at.after at.none_before at.named at.none_after ∙ ap (λ own. (F own).1.ways side port) same

-- at the ends of links, by what passes
pub passing-none : (side : Side) (name : Name) (rest : List Name) (kids : List WiredKid) (end : End) (wanted : Name) → end.part ≡ part.Kid wanted → AllByRecursion (λ kid. is_named wanted kid ≡ false) kids → at_ways side (only (passing_kids name rest kids)) end ≡ []
passing-none side name rest kids end wanted is none =
    ap (λ (own_part : Part). map ranked (at_part side (only (passing_kids name rest kids)) own_part end.port)) is
    ∙ ap (map ranked) (none-seen (passing_kid name (passing rest)) (λ kid. refl) side wanted end.port kids none)

pub passing-one : (side : Side) (name : Name) (rest : List Name) (kids : List WiredKid) (end : End) (wanted : Name) → end.part ≡ part.Kid wanted → (kid : WiredKid) → IsOne wanted kids kid → at_ways side (only (passing_kids name rest kids)) end ≡ passing_kid_ways side name rest kid end.port
passing-one side name rest kids end wanted is kid one =
    ap (λ (own_part : Part). map ranked (at_part side (only (passing_kids name rest kids)) own_part end.port)) is
    ∙ ap (map ranked) (one-seen (passing_kid name (passing rest)) (λ own. refl) side wanted end.port kids kid one)

pub one-wired : (net : Wiring) → AreWired net → (wanted : Name) (kids : List WiredKid) → kids ≡ (out-Wiring net).kids → (kid : WiredKid) → IsOne wanted kids kid → IsBelowWired kid
one-wired net named wanted kids is kid one =
    found-wired net named wanted one.0 (subst (λ own. IsAt wanted own one.0) is one.1) kid (sym (ap (λ own. slice_get own one.0) is) ∙ one.2)

-- at the ends of links, by what is left where the place is bare
past-name : (name : Name) (rest : List Name) (kid : WiredKid) → (past_kid name rest kid).0 ≡ (out-WiredKid kid).name
past-name name rest kid = ap (λ (own : Name × Inner). own.0) (kid-is (kid_changed name (changed rest bared) kid)) ∙ same-name name (changed rest bared) kid

pub past-none : (beyond_net : Ways) (side : Side) (name : Name) (rest : List Name) (net : Wiring) (end : End) (wanted : Name) → end.part ≡ part.Kid wanted → AllByRecursion (λ kid. is_named wanted kid ≡ false) (out-Wiring net).kids → at_ways side (past_around beyond_net name rest net) end ≡ []
past-none beyond_net side name rest net end wanted is none =
    ap (λ (own_part : Part). map ranked (at_part side (past_around beyond_net name rest net) own_part end.port)) is
    ∙ ap (map ranked) (none-seen (past_kid name rest) (past-name name rest) side wanted end.port (out-Wiring net).kids none)

pub past-one : (beyond_net : Ways) (side : Side) (name : Name) (rest : List Name) (net : Wiring) (end : End) (wanted : Name) → end.part ≡ part.Kid wanted → (kid : WiredKid) → IsOne wanted (out-Wiring net).kids kid → at_ways side (past_around beyond_net name rest net) end ≡ past_kid_ways side name rest kid end.port
past-one beyond_net side name rest net end wanted is kid one =
    ap (λ (own_part : Part). map ranked (at_part side (past_around beyond_net name rest net) own_part end.port)) is
    ∙ ap (map ranked) (one-seen (past_kid name rest) (past-name name rest) side wanted end.port (out-Wiring net).kids kid one)

pub map-of-map : (f : WiredKid → WiredKid) (kids : List WiredKid) → map inner_of_kid (map f kids) ≡ map (λ kid. inner_of_kid (f kid)) kids
map-of-map f [] = refl
map-of-map f (kid ∷ kids) = ap (λ others. inner_of_kid (f kid) ∷ others) (map-of-map f kids)

pub past-above : (side : Side) (net : Wiring) (place rest : List Name) (name : Name) (port : ℕ) → place ≡ name ∷ rest → map ranked ((inner_of (changed place bared net)).ways side port) ≡ map ranked (net_ways (past_around no_ways name rest net) (links_of net) side port)
past-above side net place rest name port is =
    ap (λ own. map ranked ((inner_of (changed own bared net)).ways side port)) is
    ∙ ap (λ (inner : Inner). map ranked (inner.ways side port)) (inner-roll (record (out-Wiring net) { kids = map (kid_changed name (changed rest bared)) (out-Wiring net).kids }))
    ∙ ap (λ kids. map ranked (net_ways (within no_ways (out-Wiring net).boss kids) (links_of net) side port)) (map-of-map (kid_changed name (changed rest bared)) (out-Wiring net).kids)

-- by what passes, or by what does not
pub parted-none : (passes : Bool) (side : Side) (name : Name) (rest : List Name) (net : Wiring) (end : End) (wanted : Name) → end.part ≡ part.Kid wanted → AllByRecursion (λ kid. is_named wanted kid ≡ false) (out-Wiring net).kids →
    at_ways side (parted_around passes name rest net) end ≡ []
parted-none true side name rest net end wanted is none = passing-none side name rest (out-Wiring net).kids end wanted is none
parted-none false side name rest net end wanted is none = past-none no_ways side name rest net end wanted is none

pub parted-one : (passes : Bool) (side : Side) (name : Name) (rest : List Name) (net : Wiring) (end : End) (wanted : Name) → end.part ≡ part.Kid wanted → (kid : WiredKid) → IsOne wanted (out-Wiring net).kids kid →
    at_ways side (parted_around passes name rest net) end ≡ parted_kid_ways passes side name rest kid end.port
parted-one true side name rest net end wanted is kid one = passing-one side name rest (out-Wiring net).kids end wanted is kid one
parted-one false side name rest net end wanted is kid one = past-one no_ways side name rest net end wanted is kid one

pub parted-net : (passes : Bool) (side : Side) (name : Name) (rest : List Name) (net : Wiring) (end : End) → end.part ≡ part.Net → at_ways side (parted_around passes name rest net) end ≡ []
parted-net true side name rest net end is = ap (λ (own_part : Part). map ranked (at_part side (only (passing_kids name rest (out-Wiring net).kids)) own_part end.port)) is
parted-net false side name rest net end is = ap (λ (own_part : Part). map ranked (at_part side (past_around no_ways name rest net) own_part end.port)) is

pub parted-boss : (passes : Bool) (side : Side) (name : Name) (rest : List Name) (net : Wiring) (end : End) → end.part ≡ part.Boss → at_ways side (parted_around passes name rest net) end ≡ (if passes then [] else own_way (out-Wiring net).boss end.port ∷ [])
parted-boss true side name rest net end is = ap (λ (own_part : Part). map ranked (at_part side (only (passing_kids name rest (out-Wiring net).kids)) own_part end.port)) is
parted-boss false side name rest net end is = ap (λ (own_part : Part). map ranked (at_part side (past_around no_ways name rest net) own_part end.port)) is

pub parted-above : (passes : Bool) (side : Side) (net : Wiring) (place rest : List Name) (name : Name) (port : ℕ) → place ≡ name ∷ rest →
    parted_ways passes side place net port ≡ map ranked (net_ways (parted_around passes name rest net) (links_of net) side port)
parted-above true side net place rest name port is = ap (λ own. map ranked ((passing own net).ways side port)) is
parted-above false side net place rest name port is = past-above side net place rest name port is

pub parted-other : (passes : Bool) (side : Side) (name : Name) (rest : List Name) (kid : WiredKid) (port : ℕ) → is_named name kid ≡ false →
    parted_kid_ways passes side name rest kid port ≡ (if passes then [] else kid_ways side kid port)
parted-other true side name rest kid port other = ap (λ (b : Bool). map ranked ((if b then passing_below (passing rest) (out-WiredKid kid).below else nothing).ways side port)) other
parted-other false side name rest kid port other = ap (λ own. kid_ways side own port) (changed-other name (changed rest bared) kid other)

parted-named : (passes : Bool) (side : Side) (name : Name) (rest : List Name) (kid : WiredKid) (port : ℕ) → is_named name kid ≡ true →
    parted_kid_ways passes side name rest kid port
    ≡ map ranked ((if passes then passing_below (passing rest) (out-WiredKid kid).below else below_step (out-WiredKid kid).handle (below_inner (below_changed (changed rest bared) (out-WiredKid kid).below))).ways side port)
parted-named true side name rest kid port named = ap (λ (b : Bool). map ranked ((if b then passing_below (passing rest) (out-WiredKid kid).below else nothing).ways side port)) named
parted-named false side name rest kid port named =
    ap (λ own. kid_ways side own port) (changed-named name (changed rest bared) kid named)
    ∙ ap (λ (own : Name × Inner). map ranked (own.1.ways side port)) (kid-roll (record (out-WiredKid kid) { below = below_changed (changed rest bared) (out-WiredKid kid).below }))

pub parted-leaf : (passes : Bool) (side : Side) (name : Name) (rest : List Name) (kid : WiredKid) (port : ℕ) → is_named name kid ≡ true → (out-WiredKid kid).below ≡ None →
    parted_kid_ways passes side name rest kid port ≡ (if passes then [] else own_way (out-WiredKid kid).handle port ∷ [])
parted-leaf passes side name rest kid port named is =
    parted-named passes side name rest kid port named
    ∙ ap (λ (below : Option Wiring). map ranked ((if passes then passing_below (passing rest) below else below_step (out-WiredKid kid).handle (below_inner (below_changed (changed rest bared) below))).ways side port)) is
    ∙ by passes where
      by : (own : Bool) → map ranked ((if own then nothing else below_step (out-WiredKid kid).handle None).ways side port) ≡ (if own then [] else own_way (out-WiredKid kid).handle port ∷ [])
      by true = refl
      by false = refl

pub parted-below : (passes : Bool) (side : Side) (name : Name) (rest : List Name) (kid : WiredKid) (port : ℕ) → is_named name kid ≡ true → (net : Wiring) → (out-WiredKid kid).below ≡ Some net →
    parted_kid_ways passes side name rest kid port ≡ parted_ways passes side rest net port
parted-below passes side name rest kid port named net is =
    parted-named passes side name rest kid port named
    ∙ ap (λ (below : Option Wiring). map ranked ((if passes then passing_below (passing rest) below else below_step (out-WiredKid kid).handle (below_inner (below_changed (changed rest bared) below))).ways side port)) is
    ∙ by passes where
      by : (own : Bool) → map ranked ((if own then passing rest net else below_step (out-WiredKid kid).handle (Some (inner_of (changed rest bared net)))).ways side port) ≡ parted_ways own side rest net port
      by true = refl
      by false = refl
