-- What a walk over links gives, link by link.
use Rattle.std.proofs.Common.{◌≡◌, ℕ, ◌<◌, ◌≤◌, length-append, ◌==◌, ◌&&◌, Bool, true, false, if◌then◌else◌, List, [], ◌∷◌, ◌++◌, map, length, slice_get, append-nil, refl, sym, ap, ap₂, ◌∙◌, subst, arith, Some, Result, Ok, Err, IfOk}
use Rattle.std.proofs.lemmas.List.{map-append}
use Rattle.std.specs.List.{flat_map, enumerate_from, AllByRecursion}
use Rattle.std.specs.Option.{option_to_list}
use Rattle.dsde_bank.specs.declared.handle.Handle.{Handle}
use Rattle.dsde_values.specs.declared.name.Name.{Name}
use Rattle.dsde_routes_wiring.specs.given.structure.plan_End.{End}
use Rattle.dsde_routes_wiring.specs.given.structure.plan_Link.{Link}
use Rattle.dsde_routes_wiring.specs.given.structure.plan_Part_TheVariants as part
use Rattle.dsde_routes_wiring.specs.given.structure.Gather.{is_part, is_same_name}
use Rattle.dsde_routes_wiring.specs.declared.side.Side.{Side}
use Rattle.dsde_routes_wiring.specs.declared.side.Side.TheVariants.{Out, Into}
use Rattle.dsde_routes_wiring.specs.declared.wiring.WiredKid.{WiredKid}
use Rattle.dsde_routes_wiring.specs.declared.wiring.Wiring.{Wiring}
use Rattle.dsde_routes_wiring.specs.declared.wiring.WiredKid.TheOpen.{Wiring-F}
use Rattle.dsde_routes_wiring.specs.declared.wiring.WiredKid.TheViews.{out-Wiring, out-WiredKid}
use Rattle.dsde_routes_wiring.specs.Routes as route
use Rattle.dsde_routes_wiring.specs.Side.{near, far}
use Rattle.dsde_routes_wiring.specs.Numbers.{numbers_at}
use Rattle.dsde_routes_wiring.specs.Routes.{Step, Inner, Numbered, is_border, extended, ways_by, at_part, at_end, of_kid, no_ways, around_of, links_of, step_from, inner_of, inner_of_kid}
use Rattle.dsde_routes_wiring.specs.given.structure.plan_Part.{Part}
use Rattle.dsde_routes_wiring.specs.Touched.{handles_of, handles_of_kid}
use Rattle.dsde_repair_walks.proofs.Opens.{inner-is, kid-is}
use Rattle.dsde_repair_walks.proofs.Handles.{handles-is, kid-handles, below_known}
use Rattle.dsde_repair_walks.specs.declared.way.Way.{Way}
use Rattle.dsde_repair_walks.specs.Found.{is_named, IsAt}
use Rattle.dsde_repair_walks.specs.Walks.{link_at, ranked, extended_way, ways_over, ways_at, kid_ways}
use Rattle.dsde_repair_walks.proofs.Serving.{few-serve}
use Rattle.dsde_repair_walks.proofs.Finding.{kid-at, some-one}

pub map-flat : {X Y Z : Type 0} (f : Y → Z) (g : X → List Y) (xs : List X) → map f (flat_map g xs) ≡ flat_map (λ x. map f (g x)) xs
map-flat f g [] = refl
map-flat f g (x ∷ xs) = map-append f (g x) (flat_map g xs) ∙ ap (λ later. map f (g x) ++ later) (map-flat f g xs)

pub flat-of-map : {X Y Z : Type 0} (g : Y → List Z) (f : X → Y) (xs : List X) → flat_map g (map f xs) ≡ flat_map (λ x. g (f x)) xs
flat-of-map g f [] = refl
flat-of-map g f (x ∷ xs) = ap (λ later. g (f x) ++ later) (flat-of-map g f xs)

-- a way without its networks goes on as the way does
pub ranked-extended : (side : Side) (link : Numbered) (way : route.Way) → ranked (extended side link way) ≡ extended_way side link.0.number link.1 (ranked way)
ranked-extended Out link way = refl
ranked-extended Into link way =
    let built : List ℕ → Way = λ rank. record { handle = way.handle; port = way.port; rank = rank; chain = option_to_list link.1.via ++ way.chain } in
    ap built (map-append (λ (step : Step). step.number) way.steps (link.0 ∷ []))

pub ranked-all : (side : Side) (link : Numbered) (ways : List route.Way) → map ranked (map (extended side link) ways) ≡ map (extended_way side link.0.number link.1) (map ranked ways)
ranked-all side link [] = refl
ranked-all side link (way ∷ ways) = ap₂ (λ (own : Way) (others : List Way). own ∷ others) (ranked-extended side link way) (ranked-all side link ways)

pub over-border : (side : Side) (net : Wiring) (port number : ℕ) (link : Link) → is_border port (near side link) ≡ true → ways_over side net port (number, link) ≡ map (extended_way side number link) (ways_at side net (far side link))
over-border side net port number link is =
    ap (λ (b : Bool). map ranked (if b then map (extended side (step_from (out-Wiring net).me (number, link))) (at_end side (around_of no_ways net) (far side link)) else [])) is
    ∙ ranked-all side (step_from (out-Wiring net).me (number, link)) (at_end side (around_of no_ways net) (far side link))

pub over-none : (side : Side) (net : Wiring) (port number : ℕ) (link : Link) → is_border port (near side link) ≡ false → ways_over side net port (number, link) ≡ []
over-none side net port number link is =
    ap (λ (b : Bool). map ranked (if b then map (extended side (step_from (out-Wiring net).me (number, link))) (at_end side (around_of no_ways net) (far side link)) else [])) is

pub no-border : (port : ℕ) (end : End) → is_part end.part part.Net ≡ false → is_border port end ≡ false
no-border port end is = ap (λ (b : Bool). b && end.port == port) is

-- the links with an end at the network itself serve for all
pub ways-whole : (side : Side) (net : Wiring) (port : ℕ) → flat_map (link_at (ways_over side net port) (out-Wiring net).links) (numbers_at side part.Net (out-Wiring net).links) ≡ map ranked ((inner_of net).ways side port)
ways-whole side net port =
    let y : Wiring-F WiredKid Wiring = out-Wiring net in
    sym (few-serve side part.Net (ways_over side net port) (λ number link is. over-none side net port number link (no-border port (near side link) is)) y.links)
    ∙ sym (flat-of-map (λ link. map ranked (ways_by side (around_of no_ways net) port link)) (step_from y.me) (enumerate_from 0 y.links))
    ∙ sym (map-flat ranked (ways_by side (around_of no_ways net) port) (links_of net))
    ∙ ap (λ (inner : Inner). map ranked (inner.ways side port)) (sym (inner-is net))

-- what stands at an end that names a component
named-ways : (side : Side) (name : Name) (port : ℕ) (kid : WiredKid) (same : Bool) → is_named name kid ≡ same → of_kid side name port (inner_of_kid kid) ≡ (if same then (inner_of_kid kid).1.ways side port else [])
named-ways side name port kid same is =
    ap (λ (own : Name). if is_same_name own name then (inner_of_kid kid).1.ways side port else []) (ap (λ (own : Name × Inner). own.0) (kid-is kid))
    ∙ ap (λ (b : Bool). if b then (inner_of_kid kid).1.ways side port else []) is

pub none-ways : (side : Side) (name : Name) (port : ℕ) (kids : List WiredKid) → AllByRecursion (λ kid. is_named name kid ≡ false) kids → flat_map (of_kid side name port) (map inner_of_kid kids) ≡ []
none-ways side name port [] none = refl
none-ways side name port (kid ∷ kids) none = ap₂ (λ (xs ys : List route.Way). xs ++ ys) (named-ways side name port kid false none.0) (none-ways side name port kids none.1)

middle-ways : (side : Side) (name : Name) (port : ℕ) (before : List WiredKid) (kid : WiredKid) (after : List WiredKid) → AllByRecursion (λ other. is_named name other ≡ false) before → is_named name kid ≡ true → AllByRecursion (λ other. is_named name other ≡ false) after →
    flat_map (of_kid side name port) (map inner_of_kid (before ++ kid ∷ after)) ≡ (inner_of_kid kid).1.ways side port
middle-ways side name port [] kid after none named later =
    ap₂ (λ (xs ys : List route.Way). xs ++ ys) (named-ways side name port kid true named) (none-ways side name port after later) ∙ append-nil ((inner_of_kid kid).1.ways side port)
middle-ways side name port (own ∷ before) kid after none named later =
    ap₂ (λ (xs ys : List route.Way). xs ++ ys) (named-ways side name port own false none.0) (middle-ways side name port before kid after none.1 named later)

pub found-ways : (side : Side) (name : Name) (port : ℕ) (kids : List WiredKid) (index : ℕ) → IsAt name kids index → (kid : WiredKid) → slice_get kids index ≡ Some kid →
    map ranked (flat_map (of_kid side name port) (map inner_of_kid kids)) ≡ kid_ways side kid port
found-ways side name port kids index at kid got =
    let same : at.kid ≡ kid = some-one at.kid kid (sym (kid-at name kids index at) ∙ got) in
    ap (λ own. map ranked (flat_map (of_kid side name port) (map inner_of_kid own))) at.is
    ∙ ap (map ranked) (middle-ways side name port at.before at.kid at.after at.none_before at.named at.none_after)
    ∙ ap (λ own. kid_ways side own port) same

-- a component has fewer handles than its network
middle-handles : (before : List WiredKid) (kid : WiredKid) (after : List WiredKid) → length (handles_of_kid kid) ≤ length (flat_map handles_of_kid (before ++ kid ∷ after))
middle-handles [] kid after = let sum = length-append (handles_of_kid kid) (flat_map handles_of_kid after) in omega arith
middle-handles (own ∷ before) kid after =
    let others = middle-handles before kid after in
    let sum = length-append (handles_of_kid own) (flat_map handles_of_kid (before ++ kid ∷ after)) in omega arith

pub fewer-handles : (net : Wiring) (name : Name) (index : ℕ) → IsAt name (out-Wiring net).kids index → (kid : WiredKid) → slice_get (out-Wiring net).kids index ≡ Some kid → length (handles_of_kid kid) < length (handles_of net)
fewer-handles net name index at kid got =
    let same : at.kid ≡ kid = some-one at.kid kid (sym (kid-at name (out-Wiring net).kids index at) ∙ got) in
    let one : length (handles_of_kid kid) ≤ length (flat_map handles_of_kid (out-Wiring net).kids) =
    subst (λ own. length (handles_of_kid own) ≤ length (flat_map handles_of_kid (out-Wiring net).kids)) same
    (subst (λ kids. length (handles_of_kid at.kid) ≤ length (flat_map handles_of_kid kids)) (sym at.is) (middle-handles at.before at.kid at.after)) in
    let all : length (handles_of net) ≡ length ((out-Wiring net).me ∷ (out-Wiring net).boss ∷ flat_map handles_of_kid (out-Wiring net).kids) = ap (λ (handles : List Handle). length handles) (handles-is net) in
    omega arith

pub below-handles : (kid : WiredKid) (net : Wiring) → (out-WiredKid kid).below ≡ Some net → length (handles_of_kid kid) ≡ length (handles_of net)
below-handles kid net is = ap (λ (handles : List Handle). length handles) (kid-handles kid ∙ ap (below_known (out-WiredKid kid).handle) is)

pub ok-if : {X E : Type 0} (result : Result X E) (P Q : X → Type 0) → ((x : X) → P x → Q x) → IfOk result P → IfOk result Q
ok-if (Ok value) P Q gives holds = gives value holds
ok-if (Err end) P Q gives holds = tt

-- what stands at an end
pub at-kid : (side : Side) (net : Wiring) (end : End) (name : Name) → end.part ≡ part.Kid name → ways_at side net end ≡ map ranked (flat_map (of_kid side name end.port) (map inner_of_kid (out-Wiring net).kids))
at-kid side net end name is = ap (λ (own_part : Part). map ranked (at_part side (around_of no_ways net) own_part end.port)) is
