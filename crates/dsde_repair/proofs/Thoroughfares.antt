-- Rows of routes that pass a place, link by link.
use Rattle.std.proofs.Common.{◌≡◌, ℕ, Bool, true, false, if◌then◌else◌, List, [], ◌∷◌, ◌++◌, map, append_assoc, append-nil, refl, sym, ap, ap₂, ◌∙◌}
use Rattle.std.proofs.lemmas.List.{map-append}
use Rattle.std.specs.List.{flat_map, enumerate_from, AllByRecursion}
use Rattle.dsde_bank.specs.declared.handle.Handle.{Handle}
use Rattle.dsde_values.specs.declared.name.Name.{Name}
use Rattle.std.proofs.lemmas.Cmp.{eq_by_cmp_equiv}
use Rattle.dsde_routes_wiring.specs.given.structure.plan_Link.{Link}
use Rattle.dsde_routes_wiring.specs.given.structure.plan_Part.{Part}
use Rattle.dsde_routes_wiring.specs.given.structure.plan_Part_TheVariants as part
use Rattle.dsde_routes_wiring.specs.given.structure.Gather.{is_part, is_same_name}
use Rattle.dsde_routes_wiring.specs.Numbers.{numbers_at}
use Rattle.dsde_routes_wiring.specs.Routes as route
use Rattle.dsde_routes_wiring.specs.declared.side.Side.{Side}
use Rattle.dsde_routes_wiring.specs.declared.row.Row.{Row}
use Rattle.dsde_routes_wiring.specs.declared.side.Side.TheVariants.{Out, Into}
use Rattle.dsde_routes_wiring.specs.declared.wiring.WiredKid.{WiredKid}
use Rattle.dsde_routes_wiring.specs.declared.wiring.Wiring.{Wiring}
use Rattle.dsde_routes_wiring.specs.declared.wiring.WiredKid.TheOpen.{Wiring-F}
use Rattle.dsde_routes_wiring.specs.declared.wiring.WiredKid.TheViews.{out-Wiring, out-WiredKid, out-roll-Wiring}
use Rattle.dsde_routes_wiring.specs.Routes.{Ways, Route, Around, Inner, row_of, no_ways, within, around_of, links_of, step_from, of_kid, at_part, at_end, inner_of_kid}
use Rattle.dsde_routes_wiring.specs.Places.{changed, bared, kid_changed, only, passing, passing_kid, passing_below, nothing, crossed_between, routes_passing, through}
use Rattle.dsde_repair_walks.specs.declared.way.Way.{Way}
use Rattle.dsde_repair_walks.specs.Found.{is_named, IsAt}
use Rattle.dsde_repair_walks.specs.Walks.{link_at, ranked, crossed_rows, beyond}
use Rattle.dsde_repair_walks.proofs.Searching.{total}
use Rattle.dsde_repair_walks.proofs.Serving.{few-serve}
use Rattle.dsde_repair_walks.proofs.Finding.{kid-at, some-one}
use Rattle.dsde_repair_walks.proofs.Walking.{map-flat, flat-of-map}
use Rattle.dsde_repair_walks.specs.Found.{IsOne}
use Rattle.dsde_repair.specs.Walks.{between_link, at_ways, passing_kids, past_around, open_around, kid_routes}
use Rattle.dsde_repair.proofs.Crossings.{rows-crossed}
use Rattle.dsde_repair.proofs.Passages.{map-of-map}

-- over one link
pub link-between : (befores_around afters_around : Around) (me : Handle) (number : ℕ) (link : Link) (befores afters : List Way) → befores ≡ at_ways Out befores_around link.from → afters ≡ at_ways Into afters_around link.to →
    crossed_rows number link befores afters ≡ between_link befores_around afters_around me (number, link)
link-between befores_around afters_around me number link befores afters p q =
    ap₂ (crossed_rows number link) p q ∙ sym (rows-crossed (step_from me (number, link)) (at_end Out befores_around link.from) (at_end Into afters_around link.to))

pub none-before : (befores_around afters_around : Around) (me : Handle) (number : ℕ) (link : Link) (befores : List Way) → befores ≡ at_ways Out befores_around link.from → befores ≡ [] → between_link befores_around afters_around me (number, link) ≡ []
none-before befores_around afters_around me number link befores p none =
    sym (link-between befores_around afters_around me number link befores (at_ways Into afters_around link.to) p refl) ∙ ap (λ own. crossed_rows number link own (at_ways Into afters_around link.to)) none

no-rows : (number : ℕ) (link : Link) (befores : List Way) → crossed_rows number link befores [] ≡ []
no-rows number link [] = refl
no-rows number link (before ∷ befores) = no-rows number link befores

pub none-after : (befores_around afters_around : Around) (me : Handle) (number : ℕ) (link : Link) (afters : List Way) → afters ≡ at_ways Into afters_around link.to → afters ≡ [] → between_link befores_around afters_around me (number, link) ≡ []
none-after befores_around afters_around me number link afters q none =
    sym (link-between befores_around afters_around me number link (at_ways Out befores_around link.from) afters refl q) ∙ ap (crossed_rows number link (at_ways Out befores_around link.from)) none ∙ no-rows number link (at_ways Out befores_around link.from)

all-between : (befores afters : Around) (net : Wiring) → flat_map (between_link befores afters (out-Wiring net).me) (enumerate_from 0 (out-Wiring net).links) ≡ map row_of (flat_map (crossed_between befores afters) (links_of net))
all-between befores afters net =
    sym (flat-of-map (λ link. map row_of (crossed_between befores afters link)) (step_from (out-Wiring net).me) (enumerate_from 0 (out-Wiring net).links))
    ∙ sym (map-flat row_of (crossed_between befores afters) (links_of net))

-- nothing passes in other components
other-kid : (side : Side) (name wanted : Name) (rest : List Name) (port : ℕ) → is_same_name wanted name ≡ false → (kid : WiredKid) → of_kid side wanted port (passing_kid name (passing rest) kid) ≡ []
other-kid side name wanted rest port apart kid = by (is_same_name (out-WiredKid kid).name wanted) (is_same_name (out-WiredKid kid).name name) refl refl where
  by : (a b : Bool) → is_same_name (out-WiredKid kid).name wanted ≡ a → is_same_name (out-WiredKid kid).name name ≡ b →
      (if a then (if b then passing_below (passing rest) (out-WiredKid kid).below else nothing).ways side port else []) ≡ []
  by false b p q = refl
  by true false p q = refl
  by true true p q = absurd (let wrong : true ≡ false = sym q ∙ (eq_by_cmp_equiv total).congr (out-WiredKid kid).name wanted name p ∙ apart in cc)

other-kids : (side : Side) (name wanted : Name) (rest : List Name) (port : ℕ) → is_same_name wanted name ≡ false → (kids : List WiredKid) → flat_map (of_kid side wanted port) (passing_kids name rest kids) ≡ []
other-kids side name wanted rest port apart [] = refl
other-kids side name wanted rest port apart (kid ∷ kids) = ap₂ (λ (xs ys : List route.Way). xs ++ ys) (other-kid side name wanted rest port apart kid) (other-kids side name wanted rest port apart kids)

elsewhere : (side : Side) (name : Name) (rest : List Name) (kids : List WiredKid) (own_part : Part) (port : ℕ) → is_part own_part (part.Kid name) ≡ false → at_part side (only (passing_kids name rest kids)) own_part port ≡ []
elsewhere side name rest kids part.Net port is = refl
elsewhere side name rest kids part.Boss port is = refl
elsewhere side name rest kids (part.Kid wanted) port is = other-kids side name wanted rest port is kids

pub few-out : (name : Name) (rest : List Name) (all : Around) (net : Wiring) →
    flat_map (link_at (between_link (only (passing_kids name rest (out-Wiring net).kids)) all (out-Wiring net).me) (out-Wiring net).links) (numbers_at Into (part.Kid name) (out-Wiring net).links)
    ≡ map row_of (flat_map (crossed_between (only (passing_kids name rest (out-Wiring net).kids)) all) (links_of net))
few-out name rest all net =
    let pass : Around = only (passing_kids name rest (out-Wiring net).kids) in
    sym (few-serve Into (part.Kid name) (between_link pass all (out-Wiring net).me)
    (λ number link is. none-before pass all (out-Wiring net).me number link (at_ways Out pass link.from) refl (ap (map ranked) (elsewhere Out name rest (out-Wiring net).kids link.from.part link.from.port is))) (out-Wiring net).links)
    ∙ all-between pass all net

pub few-into : (name : Name) (rest : List Name) (past : Around) (net : Wiring) →
    flat_map (link_at (between_link past (only (passing_kids name rest (out-Wiring net).kids)) (out-Wiring net).me) (out-Wiring net).links) (numbers_at Out (part.Kid name) (out-Wiring net).links)
    ≡ map row_of (flat_map (crossed_between past (only (passing_kids name rest (out-Wiring net).kids))) (links_of net))
few-into name rest past net =
    let pass : Around = only (passing_kids name rest (out-Wiring net).kids) in
    sym (few-serve Out (part.Kid name) (between_link past pass (out-Wiring net).me)
    (λ number link is. none-after past pass (out-Wiring net).me number link (at_ways Into pass link.to) refl (ap (map ranked) (elsewhere Into name rest (out-Wiring net).kids link.to.part link.to.port is))) (out-Wiring net).links)
    ∙ all-between past pass net

pub added-thrice : (rows first second last : List Row) (a b d : List Row) → first ≡ rows ++ a → second ≡ first ++ b → last ≡ second ++ d → last ≡ rows ++ (a ++ (b ++ d))
added-thrice rows first second last a b d p q r =
    r ∙ ap (λ own. own ++ d) (q ∙ ap (λ own. own ++ b) p) ∙ append_assoc (rows ++ a) b d ∙ append_assoc rows a (b ++ d)

-- inside the component that leads there
routes-other : (name : Name) (rest : List Name) (kid : WiredKid) → is_named name kid ≡ false → (passing_kid name (passing rest) kid).1.routes ≡ []
routes-other name rest kid is = ap (λ (b : Bool). (if b then passing_below (passing rest) (out-WiredKid kid).below else nothing).routes) is

routes-named : (name : Name) (rest : List Name) (kid : WiredKid) → is_named name kid ≡ true → (passing_kid name (passing rest) kid).1.routes ≡ (passing_below (passing rest) (out-WiredKid kid).below).routes
routes-named name rest kid is = ap (λ (b : Bool). (if b then passing_below (passing rest) (out-WiredKid kid).below else nothing).routes) is

pub routes-none : (name : Name) (rest : List Name) (kids : List WiredKid) → AllByRecursion (λ kid. is_named name kid ≡ false) kids → kid_routes (passing_kids name rest kids) ≡ []
routes-none name rest [] none = refl
routes-none name rest (kid ∷ kids) none = ap₂ (λ (xs ys : List Route). xs ++ ys) (routes-other name rest kid none.0) (routes-none name rest kids none.1)

routes-middle : (name : Name) (rest : List Name) (before : List WiredKid) (kid : WiredKid) (after : List WiredKid) → AllByRecursion (λ other. is_named name other ≡ false) before → is_named name kid ≡ true → AllByRecursion (λ other. is_named name other ≡ false) after →
    kid_routes (passing_kids name rest (before ++ kid ∷ after)) ≡ (passing_below (passing rest) (out-WiredKid kid).below).routes
routes-middle name rest [] kid after none named later = ap₂ (λ (xs ys : List Route). xs ++ ys) (routes-named name rest kid named) (routes-none name rest after later) ∙ append-nil _
routes-middle name rest (own ∷ before) kid after none named later = ap₂ (λ (xs ys : List Route). xs ++ ys) (routes-other name rest own none.0) (routes-middle name rest before kid after none.1 named later)

pub routes-one : (name : Name) (rest : List Name) (kids : List WiredKid) (kid : WiredKid) → IsOne name kids kid → kid_routes (passing_kids name rest kids) ≡ (passing_below (passing rest) (out-WiredKid kid).below).routes
routes-one name rest kids kid one =
    let at : IsAt name kids one.0 = one.1 in
    let same : at.kid ≡ kid = some-one at.kid kid (sym (kid-at name kids one.0 at) ∙ one.2) in
    ap (λ own. kid_routes (passing_kids name rest own)) at.is ∙ routes-middle name rest at.before at.kid at.after at.none_before at.named at.none_after ∙ ap (λ (own : WiredKid). (passing_below (passing rest) (out-WiredKid own).below).routes) same

pub passing-routes : (rest : List Name) (net : Wiring) → (passing rest net).routes ≡ through no_ways rest net
passing-routes [] net = refl
passing-routes (name ∷ rest) net = refl

-- nothing is added
pub none-added : (rows : List Row) (own_routes : List Route) → own_routes ≡ [] → rows ≡ rows ++ map row_of own_routes
none-added rows own_routes is = sym (append-nil rows) ∙ ap (λ own. rows ++ map row_of own) (sym is)

-- all that passes a place beneath a component
pub through-above : (whole : Bool) (net : Wiring) (place rest : List Name) (name : Name) (rows : List Row) → place ≡ name ∷ rest →
    rows ++ (map row_of (flat_map (crossed_between (only (passing_kids name rest (out-Wiring net).kids)) (open_around whole net)) (links_of net))
    ++ (map row_of (flat_map (crossed_between (past_around (beyond whole (out-Wiring net).me) name rest net) (only (passing_kids name rest (out-Wiring net).kids))) (links_of net))
    ++ map row_of (kid_routes (passing_kids name rest (out-Wiring net).kids))))
    ≡ rows ++ map row_of (through (beyond whole (out-Wiring net).me) place net)
through-above whole net place rest name rows is =
    let N : Ways = beyond whole (out-Wiring net).me in
    let kids : List (Name × Inner) = passing_kids name rest (out-Wiring net).kids in
    let past : around_of N (changed (name ∷ rest) bared net) ≡ past_around N name rest net =
    ap (λ (z : Wiring-F WiredKid Wiring). within N z.boss (map inner_of_kid z.kids)) (out-roll-Wiring (record (out-Wiring net) { kids = map (kid_changed name (changed rest bared)) (out-Wiring net).kids }))
    ∙ ap (within N (out-Wiring net).boss) (map-of-map (kid_changed name (changed rest bared)) (out-Wiring net).kids) in
    let outs : List Route = flat_map (crossed_between (only kids) (open_around whole net)) (links_of net) in
    let ins : List Route = flat_map (crossed_between (past_around N name rest net) (only kids)) (links_of net) in
    ap (λ own. rows ++ own)
    (ap (λ later. map row_of outs ++ later) (sym (map-append row_of ins (kid_routes kids))) ∙ sym (map-append row_of outs (ins ++ kid_routes kids))
    ∙ ap (λ (own : Around). map row_of (routes_passing kids (open_around whole net) own (links_of net))) (sym past)
    ∙ ap (λ own. map row_of (through N own net)) (sym is))
