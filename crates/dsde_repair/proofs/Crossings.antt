-- What walks over the links of a network add, link by link.
use Rattle.std.proofs.Common.{◌≡◌, ℕ, zero, suc, ◌<◌, ◌≤◌, Bool, List, [], ◌∷◌, ◌++◌, map, length, get_or, drop, drop-cons, append_assoc, append-nil, length-append, refl, sym, ap, ap₂, ◌∙◌, subst, arith, Option, Some, None}
use Rattle.std.proofs.lemmas.List.{map-append}
use Rattle.std.specs.List.{flat_map, enumerate_from, AllByRecursion}
use Rattle.dsde_bank.specs.declared.handle.Handle.{Handle}
use Rattle.dsde_values.specs.declared.name.Name.{Name}
use Rattle.dsde_routes_wiring.specs.given.structure.plan_Link.{Link}
use Rattle.dsde_routes_wiring.specs.declared.row.Row.{Row}
use Rattle.dsde_routes_wiring.specs.declared.side.Side.TheVariants.{Out, Into}
use Rattle.dsde_routes_wiring.specs.declared.wiring.WiredKid.{WiredKid}
use Rattle.dsde_routes_wiring.specs.declared.wiring.Wiring.{Wiring}
use Rattle.dsde_routes_wiring.specs.declared.wiring.WiredKid.TheViews.{out-Wiring, out-WiredKid}
use Rattle.dsde_routes_wiring.specs.Routes as route
use Rattle.dsde_routes_wiring.specs.Routes.{Step, Around, Inner, Numbered, row_of, extended, met, crossed, crossed_by, crossing, at_end, links_of, step_from, routes_in, inner_of_kid}
use Rattle.dsde_routes_wiring.specs.Places.{inside}
use Rattle.dsde_routes_wiring.specs.Touched.{handles_of, handles_of_kid}
use Rattle.dsde_routes_wiring.specs.Wired.{IsWired, AreWired}
use Rattle.dsde_repair_walks.proofs.Handles.{handles-is}
use Rattle.dsde_routes_wiring.specs.Opened.{Beneath}
use Rattle.dsde_repair_walks.proofs.Shapes.{KidEach, net-below}
use Rattle.dsde_repair_walks.specs.declared.way.Way.{Way}
use Rattle.dsde_repair_walks.specs.Places.{BelowWired, IsBelowWired}
use Rattle.dsde_repair_walks.specs.Walks.{ranked, met_row, met_rows, crossed_rows, beyond}
use Rattle.dsde_repair_walks.proofs.Walking.{map-flat, flat-of-map}
use Rattle.dsde_repair.specs.Walks.{from_number, open_around, crossed_link, at_ways}

-- rows of routes that meet
row-met : (before after : route.Way) → row_of (met before after) ≡ met_row (ranked before) (ranked after)
row-met before after =
    let built : List ℕ → Row = λ rank. record { source = before.handle; source_port = before.port; target = after.handle; target_port = after.port; rank = rank; chain = before.chain ++ after.chain } in
    ap built (map-append (λ (step : Step). step.number) after.steps before.steps)

rows-met : (before : route.Way) (afters : List route.Way) → map row_of (map (λ after. met before after) afters) ≡ met_rows (ranked before) (map ranked afters)
rows-met before [] = refl
rows-met before (after ∷ afters) = ap₂ (λ (own : Row) (others : List Row). own ∷ others) (row-met before after) (rows-met before afters)

pub rows-crossed : (link : Numbered) (befores afters : List route.Way) → map row_of (crossed link befores afters) ≡ crossed_rows link.0.number link.1 (map ranked befores) (map ranked afters)
rows-crossed link [] afters = refl
rows-crossed link (before ∷ befores) afters =
    map-append row_of (map (λ after. met (extended Out link before) after) afters) (crossed link befores afters)
    ∙ ap₂ (λ (xs ys : List Row). xs ++ ys) (rows-met (extended Out link before) afters) (rows-crossed link befores afters)

pub link-crossed : (around : Around) (me : Handle) (number : ℕ) (link : Link) (befores afters : List Way) → befores ≡ at_ways Out around link.from → afters ≡ at_ways Into around link.to →
    crossed_rows number link befores afters ≡ crossed_link around me (number, link)
link-crossed around me number link befores afters p q =
    ap (λ own. crossed_rows number link own afters) p ∙ ap (crossed_rows number link (at_ways Out around link.from)) q
    ∙ sym (rows-crossed (step_from me (number, link)) (at_end Out around link.from) (at_end Into around link.to))

-- a walk over links, at its end
drop-all : {X : Type 0} (xs : List X) (n : ℕ) → length xs ≤ n → drop n xs ≡ []
drop-all [] zero le = refl
drop-all [] (suc n) le = refl
drop-all (x ∷ xs) zero le = absurd (omega arith)
drop-all (x ∷ xs) (suc n) le = drop-all xs n (omega arith)

pub number-end : {X : Type 0} (each : ℕ × Link → List X) (links : List Link) (number : ℕ) → length links ≡ number → from_number each links number ≡ []
number-end each links number is = ap (λ later. flat_map each (enumerate_from number later)) (drop-all links number (omega arith))

-- what a walk added, when it is done
pub walk-done : {X : Type 0} (each : ℕ × Link → List X) (links : List Link) (number : ℕ) (items first : List X) → length links ≡ number → items ++ from_number each links number ≡ first ++ from_number each links 0 → items ≡ first ++ flat_map each (enumerate_from 0 links)
walk-done each links number items first is kept = sym (append-nil items) ∙ ap (λ later. items ++ later) (sym (number-end each links number is)) ∙ kept

pub all-crossed : (around : Around) (net : Wiring) → flat_map (crossed_link around (out-Wiring net).me) (enumerate_from 0 (out-Wiring net).links) ≡ map row_of (crossing around (links_of net))
all-crossed around net =
    sym (flat-of-map (λ link. map row_of (crossed_by around link)) (step_from (out-Wiring net).me) (enumerate_from 0 (out-Wiring net).links))
    ∙ sym (map-flat row_of (crossed_by around) (links_of net))

-- components of a network that is wired
each-below : (kids : List WiredKid) → AllByRecursion (KidEach IsWired) kids → AllByRecursion IsBelowWired kids
each-below [] wired = tt
each-below (kid ∷ kids) wired = (by (out-WiredKid kid).below wired.0, each-below kids wired.1) where
  by : (below : Option Wiring) → Beneath AreWired below → BelowWired below
  by None own = tt
  by (Some wiring) own = own

pub kids-below-wired : (net : Wiring) → AreWired net → AllByRecursion IsBelowWired (out-Wiring net).kids
kids-below-wired net wired = each-below (out-Wiring net).kids (net-below IsWired net wired)

-- all rows of a network
pub net-whole : (whole : Bool) (net : Wiring) (first : List Row) → (first ++ map row_of (crossing (open_around whole net) (links_of net))) ++ map row_of (inside (out-Wiring net).kids) ≡ first ++ map row_of (routes_in (beyond whole (out-Wiring net).me) net)
net-whole whole net first =
    let kids : List WiredKid = (out-Wiring net).kids in
    append_assoc first (map row_of (crossing (open_around whole net) (links_of net))) (map row_of (inside kids))
    ∙ ap (λ later. first ++ later) (ap (λ own. map row_of (crossing (open_around whole net) (links_of net)) ++ map row_of own) (sym (flat-of-map (λ (kid : Name × Inner). kid.1.routes) inner_of_kid kids))
    ∙ sym (map-append row_of (crossing (open_around whole net) (links_of net)) (flat_map (λ (kid : Name × Inner). kid.1.routes) (map inner_of_kid kids))))

-- an item of a list, and what each item of the rest has
pub each-at : {X : Type 0} (P : X → Type 0) (xs : List X) (i : ℕ) (x : X) → AllByRecursion P (drop i xs) → i < length xs → x ≡ get_or xs i x → P x
each-at P xs i x each lt is = (subst (AllByRecursion P) (drop-cons xs i x lt ∙ ap (λ own. own ∷ drop (suc i) xs) (sym is)) each).0

item-among : (kids : List WiredKid) (i : ℕ) (kid : WiredKid) → i < length kids → length (handles_of_kid (get_or kids i kid)) ≤ length (flat_map handles_of_kid kids)
item-among [] i kid lt = absurd (omega arith)
item-among (own ∷ kids) zero kid lt = let sum = length-append (handles_of_kid own) (flat_map handles_of_kid kids) in omega arith
item-among (own ∷ kids) (suc i) kid lt = let sum = length-append (handles_of_kid own) (flat_map handles_of_kid kids) in let later = item-among kids i kid (omega arith) in omega arith

pub item-handles : (kids : List WiredKid) (i : ℕ) (kid : WiredKid) → i < length kids → kid ≡ get_or kids i kid → length (handles_of_kid kid) ≤ length (flat_map handles_of_kid kids)
item-handles kids i kid lt is = subst (λ own. length (handles_of_kid own) ≤ length (flat_map handles_of_kid kids)) (sym is) (item-among kids i kid lt)

pub kids-handles : (net : Wiring) (kids : List WiredKid) → kids ≡ (out-Wiring net).kids → length (flat_map handles_of_kid kids) < length (handles_of net)
kids-handles net kids is =
    let all : length (handles_of net) ≡ length ((out-Wiring net).me ∷ (out-Wiring net).boss ∷ flat_map handles_of_kid (out-Wiring net).kids) = ap (λ (handles : List Handle). length handles) (handles-is net) in
    let same : length (flat_map handles_of_kid kids) ≡ length (flat_map handles_of_kid (out-Wiring net).kids) = ap (λ own. length (flat_map handles_of_kid own)) is in
    omega arith
