-- The definition of rows in the words of the code.
use Rattle.std.proofs.Common.{◌≡◌, ℕ, ◌+◌, Bool, true, false, not, ◌||◌, cond, length, get_or, ◌<◌, ◌≤◌, List, [], ◌∷◌, ◌++◌, map, drop, refl, sym, ap, ◌∙◌, subst, Option, Some, None, arith}
use Rattle.std.proofs.lemmas.List.{map-append, append-nil, drop_more, drop_all, append_assoc}
use Rattle.std.proofs.lemmas.List.Elements.{filter-append}
use Rattle.std.proofs.lemmas.Simd.{map-map}
use Rattle.std.specs.Prelude.{◌==◌, ◌&&◌, filter, if◌then◌else◌}
use Rattle.std.specs.Option.{option_map}
use Rattle.dsde_bank.specs.declared.handle.Handle.{Handle}
use Rattle.dsde_values.specs.declared.name.Name.{Name}
use Rattle.dsde_routes_wiring.specs.given.structure.plan_Link.{Link}
use Rattle.dsde_routes_wiring.specs.given.structure.plan_Part.{Part}
use Rattle.dsde_routes_wiring.specs.given.structure.plan_Part_TheVariants as part
use Rattle.dsde_routes_wiring.specs.given.structure.Gather.{is_part, is_same_name}
use Rattle.dsde_routes_wiring.specs.declared.row.Way.{Way}
use Rattle.dsde_routes_wiring.specs.declared.row.Passing.{Passing}
use Rattle.dsde_routes_wiring.specs.declared.row.Row.{Row}
use Rattle.dsde_routes_wiring.specs.declared.wiring.Wiring.{Wiring}
use Rattle.dsde_routes_wiring.specs.declared.wiring.WiredKid.{WiredKid}
use Rattle.dsde_routes_wiring.specs.declared.wiring.WiredKid.TheViews.{out-Wiring, out-WiredKid}
use Rattle.dsde_routes_wiring.specs.Ways.{Ways, Sources, onward, begin, over, coming, from_part, nowhere}
use Rattle.dsde_routes_wiring.specs.Flatten.{KidFlow, NetFlow, flow, flow_of_kid, kid_step, sources_of, ways_at, rows_into, rows_at, rows, flatten, row_of}
use Rattle.dsde_routes_wiring.specs.Opened.{kids_of, below_of, flow-opens, flow_kid-opens}
use Rattle.dsde_routes.specs.declared.sent.Sent.{Sent}
use Rattle.dsde_routes.specs.Passing.{ways_in, at_port, carry, passing, ways_of, ways_out, found, from_parts, rows_by}
use Rattle.dsde_routes.specs.Sents.{added}
use Rattle.dsde_routes.specs.declared.comes.Comes.{Comes}
use Rattle.dsde_routes.specs.Putting.{comes_to, put_all, rows_beneath, rows_to_kid, rows_to_kids, out_passing, ways_to}
use Rattle.dsde_routes_wiring.specs.Sets.{Rows, row_cmp, row_cmp-total, row_cmp-same}
use Rattle.std.specs.FinSet as set
use Rattle.std.specs.List.{flat_map, list_any}
use Rattle.std.specs.Ordering.{eq_by_cmp}
use Rattle.std.proofs.lemmas.Grind.{flat_map-append}
use Rattle.dsde_routes.specs.Sending.{sent_of, Sends, or_else, SendsSoFar}

ways-append : (xs ys : List Passing) (port : ℕ) → ways_in (xs ++ ys) port ≡ ways_in xs port ++ ways_in ys port
ways-append xs ys port = ap (map (λ (p : Passing). p.way)) (filter-append (λ (p : Passing). p.port == port) xs ys) ∙ map-append (λ (p : Passing). p.way) (filter (λ (p : Passing). p.port == port) xs) (filter (λ (p : Passing). p.port == port) ys)

at-ways : (own port : ℕ) (list : List Way) (b : Bool) → (own == port) ≡ b → ways_in (map (at_port own) list) port ≡ cond b list []
at-ways own port [] true is = refl
at-ways own port [] false is = refl
at-ways own port (way ∷ list) true is = ap (λ b. map (λ (p : Passing). p.way) (cond b (at_port own way ∷ filter (λ (p : Passing). p.port == port) (map (at_port own) list)) (filter (λ (p : Passing). p.port == port) (map (at_port own) list)))) is ∙ ap (λ rest. way ∷ rest) (at-ways own port list true is)
at-ways own port (way ∷ list) false is = ap (λ b. map (λ (p : Passing). p.way) (cond b (at_port own way ∷ filter (λ (p : Passing). p.port == port) (map (at_port own) list)) (filter (λ (p : Passing). p.port == port) (map (at_port own) list)))) is ∙ at-ways own port list false is

link-ways : (leads : Bool) (own port : ℕ) (list : List Way) → cond (leads && (own == port)) list [] ≡ ways_in (cond leads (map (at_port own) list) []) port
link-ways true own port list = sym (at-ways own port list (own == port) refl)
link-ways false own port list = refl

-- the ways to an end are those to its part that end at its port
pub coming-ways : (sources : Sources) (number : ℕ) (links : List Link) (part : Part) (port : ℕ) → coming sources number links (record { part = part; port = port }) ≡ ways_in (passing (from_part sources) number links part) port
coming-ways sources number [] part port = refl
coming-ways sources number (link ∷ links) part port =
    (λ i. (link-ways (is_part link.to.part part) link.to.port port (over sources number link)
    ∙ ap (λ (list : List Passing). ways_in (cond (is_part link.to.part part) list []) port) (map-map (at_port link.to.port) (onward number link) (from_part sources link.from.part link.from.port))) i
    ++ coming-ways sources (number + 1) links part port i)
    ∙ sym (ways-append (cond (is_part link.to.part part) (carry (from_part sources) number link) []) (passing (from_part sources) (number + 1) links part) port)

rows-link : (target : Handle) (own : ℕ) (list : List Way) (leads : Bool) → cond leads (map (row_of target own) list) [] ≡ rows_by target (cond leads (map (at_port own) list) [])
rows-link target own [] true = refl
rows-link target own (way ∷ list) true = ap (λ rest. row_of target own way ∷ rest) (rows-link target own list true)
rows-link target own list false = refl

-- the rows to a part are the ways to it
pub rows-passing : (target : Handle) (part : Part) (sources : Sources) (number : ℕ) (links : List Link) → rows_into target part sources number links ≡ rows_by target (passing (from_part sources) number links part)
rows-passing target part sources number [] = refl
rows-passing target part sources number (link ∷ links) =
    (λ i. (rows-link target link.to.port (over sources number link) (is_part link.to.part part)
    ∙ ap (λ (list : List Passing). rows_by target (cond (is_part link.to.part part) list [])) (map-map (at_port link.to.port) (onward number link) (from_part sources link.from.part link.from.port))) i
    ++ rows-passing target part sources (number + 1) links i)
    ∙ sym (map-append (λ (p : Passing). row_of target p.port p.way) (cond (is_part link.to.part part) (carry (from_part sources) number link) []) (passing (from_part sources) (number + 1) links part))

-- where links lead from, by what is found
pub same-from : (come : Ways) (boss : Handle) (sents : List (Name × Sent)) (kids : List KidFlow) → Sends sents kids → (part : Part) → from_part (sources_of boss kids come) part ≡ from_parts come boss sents part
same-from come boss sents kids sends part.Net = refl
same-from come boss sents kids sends part.Boss = refl
same-from come boss sents kids sends (part.Kid name) = λ i port. sym (sends name port) i

-- one component more
pub one-more : (name : Name) (sent : Sent) (sents after : List (Name × Sent)) (all rest : List KidFlow) (kid : KidFlow) → kid.sent.name ≡ name → ((port : ℕ) → ways_of sent port ≡ kid.sent.ways port) →
    ((other : Name) → found after other ≡ added name sent sents other) → SendsSoFar sents all (kid ∷ rest) → SendsSoFar after all rest
one-more name sent sents after all rest kid named ways adds so_far other port =
    ap (λ (o : Option Sent). or_else o (sent_of rest other) port) (adds other)
    ∙ by (found sents other) refl (is_same_name name other) refl
    ∙ so_far other port
  where
    by : (o : Option Sent) → found sents other ≡ o → (b : Bool) → is_same_name name other ≡ b →
        or_else (elim o [ Some own ↦ Some own | None ↦ cond b (Some sent) None ]) (sent_of rest other) port ≡ or_else o (cond (is_same_name kid.sent.name other) kid.sent.ways (sent_of rest other)) port
    by (Some own) is b same = refl
    by None is true same = ways port ∙ sym (ap (λ b. let both : Ways = cond b kid.sent.ways (sent_of rest other) in both port) (ap (λ (own : Name). is_same_name own other) named ∙ same))
    by None is false same = sym (ap (λ b. let both : Ways = cond b kid.sent.ways (sent_of rest other) in both port) (ap (λ (own : Name). is_same_name own other) named ∙ same))

pub so-far-all : (sents : List (Name × Sent)) (all : List KidFlow) → SendsSoFar sents all [] → Sends sents all
so-far-all sents all so_far name port = by (found sents name) (so_far name port)
  where
    by : (o : Option Sent) → or_else o (sent_of [] name) port ≡ sent_of all name port → ways_out o port ≡ sent_of all name port
    by None is = is
    by (Some sent) is = is

-- what a network sends
pub outs-are : (net : Wiring) (sents : List (Name × Sent)) (list : List Passing) → Sends sents (map flow_of_kid (kids_of net)) → list ≡ passing (from_parts nowhere (out-Wiring net).boss sents) 0 (out-Wiring net).links part.Net →
    (port : ℕ) → ways_in list port ≡ ways_at (flow net).out port
outs-are net sents list sends is port =
    ap (λ (own : List Passing). ways_in own port) (is ∙ ap (λ (from : Part → Ways). passing from 0 (out-Wiring net).links part.Net) (λ i part. sym (same-from nowhere (out-Wiring net).boss sents (map flow_of_kid (kids_of net)) sends part) i))
    ∙ sym (coming-ways (sources_of (out-Wiring net).boss (map flow_of_kid (kids_of net)) nowhere) 0 (out-Wiring net).links part.Net port)
    ∙ ap (λ (own : NetFlow). ways_at own.out port) (sym (flow-opens net))

-- one link more
pub passing-more : (from : Part → Ways) (links : List Link) (index : ℕ) (link : Link) (part : Part) → index < length links → link ≡ get_or links index link →
    passing from index (drop index links) part ≡ (if is_part link.to.part part then carry from index link else []) ++ passing from (index + 1) (drop (index + 1) links) part
passing-more from links index link part within is =
    ap (λ (rest : List Link). passing from index rest part) (drop_more links index link within)
    ∙ ap (λ (own : Link). (if is_part own.to.part part then carry from index own else []) ++ passing from (index + 1) (drop (index + 1) links) part) (sym is)

pub joined : (ways new front rest whole all : List Passing) → ways ++ rest ≡ whole → rest ≡ front ++ all → new ≡ ways ++ front → new ++ all ≡ whole
joined ways new front rest whole all is more new_is = ap (λ (list : List Passing). list ++ all) new_is ∙ append_assoc ways front all ∙ ap (λ (list : List Passing). ways ++ list) (sym more) ∙ is

-- a component sends under its name
pub kid-name : (kid : WiredKid) → (flow_of_kid kid).sent.name ≡ (out-WiredKid kid).name
kid-name kid = ap (λ (own : KidFlow). own.sent.name) (flow_kid-opens kid) ∙ by (below_of kid)
  where
    by : (below : Option Wiring) → (kid_step (record { name = (out-WiredKid kid).name; handle = (out-WiredKid kid).handle; below = option_map flow below })).sent.name ≡ (out-WiredKid kid).name
    by None = refl
    by (Some own) = refl

-- the components that are left are one more and the others
pub kid-more : (sents : List (Name × Sent)) (all : List KidFlow) (kids : List WiredKid) (index : ℕ) (kid : WiredKid) → index < length kids → kid ≡ get_or kids index kid →
    SendsSoFar sents all (map flow_of_kid (drop index kids)) → SendsSoFar sents all (flow_of_kid kid ∷ map flow_of_kid (drop (index + 1) kids))
kid-more sents all kids index kid within is so_far =
    subst (λ (rest : List WiredKid). SendsSoFar sents all (map flow_of_kid rest)) (drop_more kids index kid within ∙ ap (λ (own : WiredKid). own ∷ drop (index + 1) kids) (sym is)) so_far

pub kid-none : (sents : List (Name × Sent)) (all : List KidFlow) (kids : List WiredKid) (index : ℕ) → length kids ≤ index → SendsSoFar sents all (map flow_of_kid (drop index kids)) → Sends sents all
kid-none sents all kids index past so_far =
    so-far-all sents all (subst (λ (rest : List WiredKid). SendsSoFar sents all (map flow_of_kid rest)) (drop_all index kids past) so_far)

-- the same as one list
pub outs-list : (net : Wiring) (sents : List (Name × Sent)) (list : List Passing) → Sends sents (map flow_of_kid (kids_of net)) → list ≡ passing (from_parts nowhere (out-Wiring net).boss sents) 0 (out-Wiring net).links part.Net → list ≡ out_passing net
outs-list net sents list sends is =
    is
    ∙ ap (λ (from : Part → Ways). passing from 0 (out-Wiring net).links part.Net) (λ i part. sym (same-from nowhere (out-Wiring net).boss sents (map flow_of_kid (kids_of net)) sends part) i)
    ∙ ap (λ (own : NetFlow). passing (from_part own.out.sources) 0 own.out.links part.Net) (sym (flow-opens net))

-- the rows of a component
kid_step-rows : (name : Name) (handle : Handle) (links : List Link) (sources : Sources) (below : Option Wiring) →
    flat_map rows_at ((kid_step (record { name = name; handle = handle; below = option_map flow below })).sites links sources)
    ≡ (let list : List Row = elim below [ None ↦ rows_by handle (passing (from_part sources) 0 links (part.Kid name)) | Some own ↦ rows_beneath (flow own) (ways_in (passing (from_part sources) 0 links (part.Kid name))) ] in list)
kid_step-rows name handle links sources None = append-nil (rows_into handle (part.Kid name) sources 0 links) ∙ rows-passing handle (part.Kid name) sources 0 links
kid_step-rows name handle links sources (Some own) = λ i. rows_beneath (flow own) (λ port. coming-ways sources 0 links (part.Kid name) port i)

kid-rows : (links : List Link) (sources : Sources) (kid : WiredKid) → flat_map rows_at ((flow_of_kid kid).sites links sources) ≡ rows_to_kid kid (passing (from_part sources) 0 links (part.Kid (out-WiredKid kid).name))
kid-rows links sources kid =
    ap (λ (own : KidFlow). flat_map rows_at (own.sites links sources)) (flow_kid-opens kid)
    ∙ kid_step-rows (out-WiredKid kid).name (out-WiredKid kid).handle links sources (below_of kid)

kids-rows : (links : List Link) (sources : Sources) (comes : Comes) → ((name : Name) → comes_to comes name ≡ passing (from_part sources) 0 links (part.Kid name)) → (kids : List WiredKid) →
    flat_map rows_at (flat_map (λ (kid : KidFlow). kid.sites links sources) (map flow_of_kid kids)) ≡ rows_to_kids comes kids
kids-rows links sources comes come [] = refl
kids-rows links sources comes come (kid ∷ kids) =
    flat_map-append rows_at ((flow_of_kid kid).sites links sources) (flat_map (λ (kid : KidFlow). kid.sites links sources) (map flow_of_kid kids))
    ∙ (λ i. (kid-rows links sources kid ∙ ap (rows_to_kid kid) (sym (come (out-WiredKid kid).name))) i ++ kids-rows links sources comes come kids i)

-- the ways to a part, by what is found
pub ways-found : (net : Wiring) (got : Ways) (sents : List (Name × Sent)) → Sends sents (map flow_of_kid (kids_of net)) → (part : Part) → passing (from_parts got (out-Wiring net).boss sents) 0 (out-Wiring net).links part ≡ ways_to net got part
ways-found net got sents sends part = ap (λ (from : Part → Ways). passing from 0 (out-Wiring net).links part) (λ i own. sym (same-from got (out-Wiring net).boss sents (map flow_of_kid (kids_of net)) sends own) i)

-- the rows beneath a network
pub net-rows : (net : Wiring) (got : Ways) (comes : Comes) → comes.boss ≡ ways_to net got part.Boss → ((name : Name) → comes_to comes name ≡ ways_to net got (part.Kid name)) →
    rows_to_kids comes (kids_of net) ++ rows_by (out-Wiring net).boss comes.boss ≡ rows_beneath (flow net) got
net-rows net got comes is come =
    let boss = (out-Wiring net).boss in
    let links = (out-Wiring net).links in
    let kids = map flow_of_kid (kids_of net) in
    let sources : Sources = sources_of boss kids got in
    (λ i. sym (kids-rows links sources comes come (kids_of net)) i
    ++ (ap (rows_by boss) is ∙ sym (rows-passing boss part.Boss sources 0 links) ∙ sym (append-nil (rows_into boss part.Boss sources 0 links))) i)
    ∙ sym (flat_map-append rows_at (flat_map (λ (kid : KidFlow). kid.sites links sources) kids) (record { part = boss; end = part.Boss; links = links; sources = sources } ∷ []))
    ∙ ap (λ (own : NetFlow). rows_beneath own got) (sym (flow-opens net))

-- rows put one after another
pub put-append : (table : Rows) (xs ys : List Row) → put_all table (xs ++ ys) ≡ put_all (put_all table xs) ys
put-append table [] ys = refl
put-append table (x ∷ xs) ys = put-append (set.insert table x) xs ys

or-swap : (a b c : Bool) → (a || (b || c)) ≡ (b || (a || c))
or-swap true true c = refl
or-swap true false c = refl
or-swap false b c = refl

put-contains : (table : Rows) (list : List Row) (row : Row) → set.contains (put_all table list) row ≡ (list_any (eq_by_cmp row_cmp row) list || set.contains table row)
put-contains table [] row = refl
put-contains table (x ∷ list) row =
    put-contains (set.insert table x) list row
    ∙ ap (λ b. list_any (eq_by_cmp row_cmp row) list || b) (set.contains-insert row_cmp-total table x row)
    ∙ or-swap (list_any (eq_by_cmp row_cmp row) list) (eq_by_cmp row_cmp row x) (set.contains table row)
    ∙ or_assoc (eq_by_cmp row_cmp row x) (list_any (eq_by_cmp row_cmp row) list) (set.contains table row)
  where
    or_assoc : (a b c : Bool) → (a || (b || c)) ≡ ((a || b) || c)
    or_assoc true b c = refl
    or_assoc false b c = refl

pub put-empty : (list : List Row) → put_all set.empty list ≡ set.from_list list
put-empty list =
    set.same_set row_cmp-total row_cmp-same (put_all set.empty list) (set.from_list list) (λ row.
    put-contains set.empty list row
    ∙ ap (λ b. list_any (eq_by_cmp row_cmp row) list || b) (set.contains-empty row_cmp row)
    ∙ or-false (list_any (eq_by_cmp row_cmp row) list)
    ∙ sym (set.contains-from_list row_cmp-total list row))
  where
    or-false : (a : Bool) → (a || false) ≡ a
    or-false true = refl
    or-false false = refl

-- the whole
pub whole : (net : Wiring) → put_all (put_all set.empty (rows_beneath (flow net) (begin (out-Wiring net).me))) (rows_by (out-Wiring net).me (out_passing net)) ≡ flatten net
whole net =
    let me : (out-Wiring net).me ≡ (flow net).out.part = ap (λ (own : NetFlow). own.out.part) (sym (flow-opens net)) in
    let end : (flow net).out.end ≡ part.Net = ap (λ (own : NetFlow). own.out.end) (flow-opens net) in
    (λ i. put_all (put_all set.empty (rows_beneath (flow net) (begin (me i)))) (rows_by (me i) (out_passing net)))
    ∙ sym (put-append set.empty (rows_beneath (flow net) (begin (flow net).out.part)) (rows_by (flow net).out.part (out_passing net)))
    ∙ ap (put_all set.empty) (
    ap (λ (own : List Row). rows_beneath (flow net) (begin (flow net).out.part) ++ own)
    (sym (rows-passing (flow net).out.part part.Net (flow net).out.sources 0 (flow net).out.links)
    ∙ ap (λ (p : Part). rows_into (flow net).out.part p (flow net).out.sources 0 (flow net).out.links) (sym end)
    ∙ sym (append-nil (rows_at (flow net).out)))
    ∙ sym (flat_map-append rows_at ((flow net).sites (begin (flow net).out.part)) ((flow net).out ∷ [])))
    ∙ put-empty (rows net)

-- one row more
pub rows-more : (target : Handle) (table : Rows) (list : List Passing) (index : ℕ) (own : Passing) → index < length list → own ≡ get_or list index own →
    put_all table (rows_by target (drop index list)) ≡ put_all (set.insert table (row_of target own.port own.way)) (rows_by target (drop (index + 1) list))
rows-more target table list index own within is =
    ap (λ (rest : List Passing). put_all table (rows_by target rest)) (drop_more list index own within ∙ ap (λ (p : Passing). p ∷ drop (index + 1) list) (sym is))

pub kids-more : (comes : Comes) (table : Rows) (kids : List WiredKid) (index : ℕ) (kid : WiredKid) → index < length kids → kid ≡ get_or kids index kid →
    put_all table (rows_to_kids comes (drop index kids)) ≡ put_all (put_all table (rows_to_kid kid (comes_to comes (out-WiredKid kid).name))) (rows_to_kids comes (drop (index + 1) kids))
kids-more comes table kids index kid within is =
    ap (λ (rest : List WiredKid). put_all table (rows_to_kids comes rest)) (drop_more kids index kid within ∙ ap (λ (own : WiredKid). own ∷ drop (index + 1) kids) (sym is))
    ∙ put-append table (rows_to_kid kid (comes_to comes (out-WiredKid kid).name)) (rows_to_kids comes (drop (index + 1) kids))

-- no link more
pub passing-none : (ways : List Passing) (from : Part → Ways) (links : List Link) (index : ℕ) (part : Part) (all : List Passing) → length links ≤ index → ways ++ passing from index (drop index links) part ≡ all → ways ≡ all
passing-none ways from links index part all past is =
    sym (append-nil ways) ∙ ap (λ (rest : List Link). ways ++ passing from index rest part) (sym (drop_all index links past)) ∙ is

-- a change is counted where the set grew
pub ticked : (table : Rows) (row : Row) (new : Rows) (is_new : Bool) (before after first len : ℕ) → new ≡ set.insert table row → is_new ≡ not (set.contains table row) → after ≡ (if is_new then before + 1 else before) →
    before + len ≡ first + set.len table → after + len ≡ first + set.len new
ticked table row new is_new before after first len is fresh ticks known =
    by (set.contains table row) refl
  where
    by : (b : Bool) → set.contains table row ≡ b → after + len ≡ first + set.len new
    by true there =
        let same : set.len new ≡ set.len table = ap set.len is ∙ set.len-insert row_cmp-total table row ∙ ap (λ b. cond b (set.len table) (set.len table + 1)) there in
        let kept : after ≡ before = ticks ∙ ap (λ b. cond b (before + 1) before) (fresh ∙ ap not there) in
        omega arith
    by false there =
        let more : set.len new ≡ set.len table + 1 = ap set.len is ∙ set.len-insert row_cmp-total table row ∙ ap (λ b. cond b (set.len table) (set.len table + 1)) there in
        let up : after ≡ before + 1 = ticks ∙ ap (λ b. cond b (before + 1) before) (fresh ∙ ap not there) in
        omega arith

pub rows-none : (target : Handle) (table whole : Rows) (list : List Passing) (index : ℕ) → length list ≤ index → put_all table (rows_by target (drop index list)) ≡ whole → table ≡ whole
rows-none target table whole list index past is = ap (λ (rest : List Passing). put_all table (rows_by target rest)) (sym (drop_all index list past)) ∙ is

pub kids-done : (comes : Comes) (table whole : Rows) (kids : List WiredKid) (index : ℕ) → length kids ≤ index → put_all table (rows_to_kids comes (drop index kids)) ≡ whole → table ≡ whole
kids-done comes table whole kids index past is = ap (λ (rest : List WiredKid). put_all table (rows_to_kids comes rest)) (sym (drop_all index kids past)) ∙ is
