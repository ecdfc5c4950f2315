-- What stands around the links of a network, taken apart.
use Rattle.std.proofs.Common.{◌≡◌, ℕ, ◌+◌, Bool, true, false, if◌then◌else◌, List, [], ◌++◌, map, refl, sym, ap, ◌∙◌, arith}
use Rattle.std.specs.List.{flat_map}
use Rattle.dsde_routes_wiring.specs.given.structure.plan_End.{End}
use Rattle.dsde_routes_wiring.specs.declared.side.Side.{Side}
use Rattle.dsde_routes_wiring.specs.declared.side.Side.TheVariants.{Out, Into}
use Rattle.dsde_routes_wiring.specs.Side.{near, far}
use Rattle.dsde_routes_wiring.specs.Routes.{Way, Route, Ways, Around, Numbered, at_end, is_border, extended, met, ways_by, net_ways, crossed, crossed_by, crossing}
use Rattle.dsde_routes_wiring.specs.Places.{crossed_between}
use Rattle.dsde_repair_walks.specs.Weights.{weight, weight-append, weight-flat, weight-map, weight-same, weight-adds}

-- the ways at one place are those at two others together
abbrev pub Adds : Ways → Ways → Ways → Type 0
Adds whole first second = (g : Way → ℕ) (side : Side) (port : ℕ) → weight g (whole side port) ≡ weight g (first side port) + weight g (second side port)

abbrev pub AddsAround : Around → Around → Around → Type 0
AddsAround whole first second = (g : Way → ℕ) (side : Side) (end : End) → weight g (at_end side whole end) ≡ weight g (at_end side first end) + weight g (at_end side second end)

maps-add : (g : Way → ℕ) (f : Way → Way) (xs ys zs : List Way) → weight (λ way. g (f way)) xs ≡ weight (λ way. g (f way)) ys + weight (λ way. g (f way)) zs → weight g (map f xs) ≡ weight g (map f ys) + weight g (map f zs)
maps-add g f xs ys zs adds = weight-map g f xs ∙ adds ∙ ap (λ n. n + weight (λ way. g (f way)) zs) (sym (weight-map g f ys)) ∙ ap (λ n. weight g (map f ys) + n) (sym (weight-map g f zs))

-- under a test
pub tested-add : (g : Way → ℕ) (test : Bool) (xs ys zs : List Way) → weight g xs ≡ weight g ys + weight g zs →
    weight g (if test then xs else []) ≡ weight g (if test then ys else []) + weight g (if test then zs else [])
tested-add g true xs ys zs adds = adds
tested-add g false xs ys zs adds = refl

flats-add : {X Y : Type 0} (g : Y → ℕ) (whole first second : X → List Y) → ((x : X) → weight g (whole x) ≡ weight g (first x) + weight g (second x)) → (xs : List X) →
    weight g (flat_map whole xs) ≡ weight g (flat_map first xs) + weight g (flat_map second xs)
flats-add g whole first second adds xs =
    weight-flat g whole xs ∙ weight-adds (λ x. weight g (whole x)) (λ x. weight g (first x)) (λ x. weight g (second x)) adds xs
    ∙ ap (λ n. n + weight (λ x. weight g (second x)) xs) (sym (weight-flat g first xs)) ∙ ap (λ n. weight g (flat_map first xs) + n) (sym (weight-flat g second xs))

pub ways-add : (whole first second : Around) → AddsAround whole first second → (links : List Numbered) → Adds (net_ways whole links) (net_ways first links) (net_ways second links)
ways-add whole first second adds links g side port =
    flats-add g (ways_by side whole port) (ways_by side first port) (ways_by side second port)
    (λ link. tested-add g (is_border port (near side link.1)) _ _ _
    (maps-add g (extended side link) (at_end side whole (far side link.1)) (at_end side first (far side link.1)) (at_end side second (far side link.1)) (adds (λ way. g (extended side link way)) side (far side link.1))))
    links

-- the weight of what crosses, by the ways before and by those after
pub crossed-weight : (g : Route → ℕ) (link : Numbered) (befores afters : List Way) → weight g (crossed link befores afters) ≡ weight (λ before. weight (λ after. g (met (extended Out link before) after)) afters) befores
crossed-weight g link befores afters =
    weight-flat g (λ before. map (λ after. met (extended Out link before) after) afters) befores
    ∙ weight-same (λ before. weight g (map (λ after. met (extended Out link before) after) afters)) (λ before. weight (λ after. g (met (extended Out link before) after)) afters)
    (λ before. weight-map g (λ after. met (extended Out link before) after) afters) befores

before-adds : (g : Route → ℕ) (link : Numbered) (xs ys zs afters : List Way) → ((h : Way → ℕ) → weight h xs ≡ weight h ys + weight h zs) →
    weight g (crossed link xs afters) ≡ weight g (crossed link ys afters) + weight g (crossed link zs afters)
before-adds g link xs ys zs afters adds =
    let h : Way → ℕ = λ before. weight (λ after. g (met (extended Out link before) after)) afters in
    let by : weight h xs ≡ weight h ys + weight h zs = adds h in
    let x : weight g (crossed link xs afters) ≡ weight h xs = crossed-weight g link xs afters in
    let y : weight g (crossed link ys afters) ≡ weight h ys = crossed-weight g link ys afters in
    let z : weight g (crossed link zs afters) ≡ weight h zs = crossed-weight g link zs afters in
    omega arith

after-adds : (g : Route → ℕ) (link : Numbered) (befores xs ys zs : List Way) → ((h : Way → ℕ) → weight h xs ≡ weight h ys + weight h zs) →
    weight g (crossed link befores xs) ≡ weight g (crossed link befores ys) + weight g (crossed link befores zs)
after-adds g link befores xs ys zs adds =
    let over : List Way → Way → ℕ = λ afters before. weight (λ after. g (met (extended Out link before) after)) afters in
    let by : weight (over xs) befores ≡ weight (over ys) befores + weight (over zs) befores =
    weight-adds (over xs) (over ys) (over zs) (λ before. adds (λ after. g (met (extended Out link before) after))) befores in
    let x : weight g (crossed link befores xs) ≡ weight (over xs) befores = crossed-weight g link befores xs in
    let y : weight g (crossed link befores ys) ≡ weight (over ys) befores = crossed-weight g link befores ys in
    let z : weight g (crossed link befores zs) ≡ weight (over zs) befores = crossed-weight g link befores zs in
    omega arith

sums : (a b c d e : ℕ) → a ≡ b + c → c ≡ d + e → a ≡ (b + d) + e
sums a b c d e p q = omega arith

-- the way before a link passes, or else the way after it
abbrev pub crossed_passing : Around → Around → Around → Numbered → List Route
crossed_passing passing all past link = crossed_between passing all link ++ crossed_between past passing link

three : (a b c n m : ℕ) → n ≡ a + m → m ≡ b + c → n ≡ (a + b) + c
three a b c n m p q = omega arith

pub passing-splits : (g : Route → ℕ) (pass all past : Around) (links : List Numbered) (rest : List Route) →
    weight g (flat_map (crossed_between pass all) links ++ (flat_map (crossed_between past pass) links ++ rest)) ≡ weight g (flat_map (crossed_passing pass all past) links) + weight g rest
passing-splits g pass all past links rest =
    three _ _ _ _ _ (weight-append g (flat_map (crossed_between pass all) links) (flat_map (crossed_between past pass) links ++ rest)) (weight-append g (flat_map (crossed_between past pass) links) rest)
    ∙ ap (λ n. n + weight g rest) (sym (flats-add g (crossed_passing pass all past) (crossed_between pass all) (crossed_between past pass) (λ link. weight-append g (crossed_between pass all link) (crossed_between past pass link)) links))

pub rows-add : (whole first second : Around) → AddsAround whole first second → (g : Route → ℕ) (links : List Numbered) →
    weight g (crossing whole links) ≡ weight g (flat_map (crossed_passing first whole second) links) + weight g (crossing second links)
rows-add whole first second adds g links =
    flats-add g (crossed_by whole) (crossed_passing first whole second) (crossed_by second)
    (λ link.
    let from : End = link.1.from in
    let to : End = link.1.to in
    sums _ _ _ _ _
    (before-adds g link (at_end Out whole from) (at_end Out first from) (at_end Out second from) (at_end Into whole to) (λ h. adds h Out from))
    (after-adds g link (at_end Out second from) (at_end Into whole to) (at_end Into first to) (at_end Into second to) (λ h. adds h Into to))
    ∙ ap (λ n. n + weight g (crossed_by second link)) (sym (weight-append g (crossed link (at_end Out first from) (at_end Into whole to)) (crossed link (at_end Out second from) (at_end Into first to)))))
    links
