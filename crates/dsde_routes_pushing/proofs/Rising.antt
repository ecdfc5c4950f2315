-- The ways that end at a port rise by their rank, link by link.
use Rattle.std.proofs.Common.{Less, Equal, Ordering, ◌≡◌, ℕ, ◌+◌, ◌<◌, ◌≤◌, Bool, true, false, cond, List, [], ◌∷◌, ◌++◌, map, sym, ap, ◌∙◌, subst, Option, Some, None, arith}
use Rattle.std.specs.Option.{option_map}
use Rattle.std.specs.List.{flat_map, AllByRecursion}
use Rattle.std.specs.Ordering.{nat_cmp, ordering_then}
use Rattle.std.specs.Cmp.Lexicographic.{slice_cmp}
use Rattle.std.specs.Cmp.{nat_cmp_total, tied_itself}
use Rattle.dsde_bank.specs.declared.handle.Handle.{Handle}
use Rattle.dsde_values.specs.declared.name.Name.{Name}
use Rattle.dsde_routes_wiring.specs.given.structure.plan_End.{End}
use Rattle.dsde_routes_wiring.specs.given.structure.plan_Link.{Link}
use Rattle.dsde_routes_wiring.specs.given.structure.plan_Part.{Part}
use Rattle.dsde_routes_wiring.specs.given.structure.plan_Part_TheVariants as part
use Rattle.dsde_routes_wiring.specs.given.structure.Gather.{is_end, is_same_name}
use Rattle.dsde_routes_wiring.specs.declared.wiring.Wiring.{Wiring}
use Rattle.dsde_routes_wiring.specs.declared.wiring.WiredKid.{WiredKid}
use Rattle.dsde_routes_wiring.specs.declared.wiring.WiredKid.TheViews.{out-Wiring, out-WiredKid}
use Rattle.dsde_routes_wiring.specs.declared.row.Way.{Way}
use Rattle.dsde_routes_wiring.specs.Ways.{Ways, Sources, onward, begin, over, coming, nowhere, from_part, sent_by}
use Rattle.dsde_routes_wiring.specs.Flatten.{Site, KidFlow, NetFlow, flow, flow_of_kid, ways_at, sites, kid_step, sources_of}
use Rattle.dsde_routes_wiring.specs.Opened.{kids_of, below_of, Beneath, each_wiring, flow-opens, flow_kid-opens}

abbrev pub rank_cmp : List ℕ → List ℕ → Ordering
rank_cmp = slice_cmp nat_cmp

abbrev pub IsBelow : Way → Way → Type 0
IsBelow way other = rank_cmp way.rank other.rank ≡ Less

-- each way stands before those of a higher rank, and each rank once
abbrev pub Rise : List Way → Type 0
Rise [] = Unit {0}
Rise (way ∷ list) = AllByRecursion (IsBelow way) list × Rise list

all-append : {X : Type 0} (P : X → Type 0) (xs ys : List X) → AllByRecursion P xs → AllByRecursion P ys → AllByRecursion P (xs ++ ys)
all-append P [] ys first later = later
all-append P (x ∷ xs) ys first later = (first.0, all-append P xs ys first.1 later)

all-weaker : {X : Type 0} (P Q : X → Type 0) → ((x : X) → P x → Q x) → (xs : List X) → AllByRecursion P xs → AllByRecursion Q xs
all-weaker P Q weaker [] all = tt
all-weaker P Q weaker (x ∷ xs) all = (weaker x all.0, all-weaker P Q weaker xs all.1)

rise-append : (xs ys : List Way) → Rise xs → Rise ys → AllByRecursion (λ x. AllByRecursion (IsBelow x) ys) xs → Rise (xs ++ ys)
rise-append [] ys first later across = later
rise-append (x ∷ xs) ys first later across = (all-append (IsBelow x) xs ys first.0 across.0, rise-append xs ys first.1 later across.1)

-- a rank whose first number is at least this
abbrev LeadsFrom : ℕ → List ℕ → Type 0
LeadsFrom number [] = ⊥
LeadsFrom number (first ∷ rest) = number ≤ first

same_number : (number : ℕ) → nat_cmp number number ≡ Equal
same_number number = tied_itself nat_cmp_total number

less_number : (number other : ℕ) → number < other → nat_cmp number other ≡ Less
less_number number other low = grind arith

onward-below : (number : ℕ) (link : Link) (way : Way) (list : List Way) → AllByRecursion (IsBelow way) list → AllByRecursion (IsBelow (onward number link way)) (map (onward number link) list)
onward-below number link way [] all = tt
onward-below number link way (other ∷ list) all =
    (ap (λ o. ordering_then o (rank_cmp way.rank other.rank)) (same_number number) ∙ all.0, onward-below number link way list all.1)

onward-rise : (number : ℕ) (link : Link) (list : List Way) → Rise list → Rise (map (onward number link) list)
onward-rise number link [] rise = tt
onward-rise number link (way ∷ list) rise = (onward-below number link way list rise.0, onward-rise number link list rise.1)

onward-leads : (number : ℕ) (link : Link) (list : List Way) → AllByRecursion (λ way. LeadsFrom number way.rank) (map (onward number link) list)
onward-leads number link [] = tt
onward-leads number link (way ∷ list) = (omega arith, onward-leads number link list)

either-all : (P : Way → Type 0) (b : Bool) (list : List Way) → AllByRecursion P list → AllByRecursion P (cond b list [])
either-all P true list all = all
either-all P false list all = tt

either-rise : (b : Bool) (list : List Way) → Rise list → Rise (cond b list [])
either-rise true list rise = rise
either-rise false list rise = tt

leads-more : (number : ℕ) (rank : List ℕ) → LeadsFrom (number + 1) rank → LeadsFrom number rank
leads-more number [] leads = leads
leads-more number (first ∷ rest) leads = omega arith

coming-leads : (sources : Sources) (number : ℕ) (links : List Link) (end : End) → AllByRecursion (λ way. LeadsFrom number way.rank) (coming sources number links end)
coming-leads sources number [] end = tt
coming-leads sources number (link ∷ links) end =
    all-append (λ way. LeadsFrom number way.rank) (cond (is_end link.to end) (over sources number link) []) (coming sources (number + 1) links end)
    (either-all (λ way. LeadsFrom number way.rank) (is_end link.to end) (over sources number link) (onward-leads number link (from_part sources link.from.part link.from.port)))
    (all-weaker (λ way. LeadsFrom (number + 1) way.rank) (λ way. LeadsFrom number way.rank) (λ way. leads-more number way.rank) (coming sources (number + 1) links end) (coming-leads sources (number + 1) links end))

below-later : (number : ℕ) (link : Link) (way other : Way) → LeadsFrom (number + 1) other.rank → IsBelow (onward number link way) other
below-later number link way other leads = by other.rank leads
  where
    by : (rank : List ℕ) → LeadsFrom (number + 1) rank → rank_cmp (number ∷ way.rank) rank ≡ Less
    by [] leads = absurd leads
    by (first ∷ rest) leads = ap (λ o. ordering_then o (rank_cmp way.rank rest)) (less_number number first (omega arith))

onward-below-later : (number : ℕ) (link : Link) (list later : List Way) → AllByRecursion (λ way. LeadsFrom (number + 1) way.rank) later →
    AllByRecursion (λ way. AllByRecursion (IsBelow way) later) (map (onward number link) list)
onward-below-later number link [] later leads = tt
onward-below-later number link (way ∷ list) later leads =
    (all-weaker (λ other. LeadsFrom (number + 1) other.rank) (IsBelow (onward number link way)) (below-later number link way) later leads, onward-below-later number link list later leads)

-- at each port the ways rise
abbrev pub RiseAt : Ways → Type 0
RiseAt come = (port : ℕ) → Rise (come port)

abbrev RiseFrom : Sources → Type 0
RiseFrom sources = (part : Part) → RiseAt (from_part sources part)

coming-rise : (sources : Sources) → RiseFrom sources → (number : ℕ) (links : List Link) (end : End) → Rise (coming sources number links end)
coming-rise sources from number [] end = tt
coming-rise sources from number (link ∷ links) end =
    let own = from_part sources link.from.part link.from.port in
    let later = coming sources (number + 1) links end in
    rise-append (cond (is_end link.to end) (over sources number link) []) later
    (either-rise (is_end link.to end) (over sources number link) (onward-rise number link own (from link.from.part link.from.port)))
    (coming-rise sources from (number + 1) links end)
    (either-all (λ way. AllByRecursion (IsBelow way) later) (is_end link.to end) (over sources number link) (onward-below-later number link own later (coming-leads sources (number + 1) links end)))

abbrev pub SiteRises : Site → Type 0
SiteRises site = RiseAt (ways_at site)

record KidRises (links : List Link) (kid : KidFlow) : Type 0 where
  sent : RiseAt kid.sent.ways
  within : (sources : Sources) → RiseFrom sources → AllByRecursion SiteRises (kid.sites links sources)

abbrev NetRises : NetFlow → Type 0
NetRises net = SiteRises net.out × ((come : Ways) → RiseAt come → AllByRecursion SiteRises (net.sites come))

abbrev Claim : Wiring → Type 0
Claim net = NetRises (flow net)

kid_step_rises : (links : List Link) (name : Name) (handle : Handle) (below : Option Wiring) → Beneath Claim below → KidRises links (kid_step (record { name = name; handle = handle; below = option_map flow below }))
kid_step_rises links name handle None claim = record {
  sent = λ port. (tt, tt);
  within = λ sources from. (λ port. coming-rise sources from 0 links (record { part = part.Kid name; port = port }), tt);
}
kid_step_rises links name handle (Some net) claim = record {
  sent = claim.0;
  within = λ sources from. claim.1 _ (λ port. coming-rise sources from 0 links (record { part = part.Kid name; port = port }));
}

kids_rise : (links : List Link) (kids : List WiredKid) → AllByRecursion (λ kid. Beneath Claim (below_of kid)) kids → AllByRecursion (KidRises links) (map flow_of_kid kids)
kids_rise links [] claims = tt
kids_rise links (kid ∷ kids) claims =
    (subst (KidRises links) (sym (flow_kid-opens kid)) (kid_step_rises links (out-WiredKid kid).name (out-WiredKid kid).handle (below_of kid) claims.0), kids_rise links kids claims.1)

either-at : (b : Bool) (own others : Ways) → RiseAt own → RiseAt others → RiseAt (cond b own others)
either-at true own others first later = first
either-at false own others first later = later

sent-rise : (links : List Link) (kids : List KidFlow) → AllByRecursion (KidRises links) kids → (name : Name) → RiseAt (sent_by (map (λ (kid : KidFlow). kid.sent) kids) name)
sent-rise links [] all name = λ port. tt
sent-rise links (kid ∷ kids) all name =
    either-at (is_same_name kid.sent.name name) kid.sent.ways (sent_by (map (λ (kid : KidFlow). kid.sent) kids) name) all.0.sent (sent-rise links kids all.1 name)

within-rise : (links : List Link) (kids : List KidFlow) → AllByRecursion (KidRises links) kids → (sources : Sources) → RiseFrom sources → AllByRecursion SiteRises (flat_map (λ (kid : KidFlow). kid.sites links sources) kids)
within-rise links [] all sources from = tt
within-rise links (kid ∷ kids) all sources from =
    all-append SiteRises (kid.sites links sources) (flat_map (λ (kid : KidFlow). kid.sites links sources) kids) (all.0.within sources from) (within-rise links kids all.1 sources from)

rise-from : (boss : Handle) (links : List Link) (kids : List KidFlow) → AllByRecursion (KidRises links) kids → (come : Ways) → RiseAt come → RiseFrom (sources_of boss kids come)
rise-from boss links kids all come rise part.Net = rise
rise-from boss links kids all come rise part.Boss = λ port. (tt, tt)
rise-from boss links kids all come rise (part.Kid name) = sent-rise links kids all name

net_rises : (net : Wiring) → AllByRecursion (λ kid. Beneath Claim (below_of kid)) (kids_of net) → Claim net
net_rises net claims =
    let boss = (out-Wiring net).boss in
    let links = (out-Wiring net).links in
    let kids = map flow_of_kid (kids_of net) in
    let all = kids_rise links (kids_of net) claims in
    subst NetRises (sym (flow-opens net)) (
      (λ port. coming-rise (sources_of boss kids nowhere) (rise-from boss links kids all nowhere (λ port. tt)) 0 links (record { part = part.Net; port = port })),
      λ come rise.
          let from = rise-from boss links kids all come rise in
          all-append SiteRises (flat_map (λ (kid : KidFlow). kid.sites links (sources_of boss kids come)) kids) _ (within-rise links kids all (sources_of boss kids come) from)
          (λ port. coming-rise (sources_of boss kids come) from 0 links (record { part = part.Boss; port = port }), tt),
    )

pub all_rise : (net : Wiring) → AllByRecursion SiteRises (sites net)
all_rise net =
    let rises = each_wiring Claim net_rises net in
    all-append SiteRises ((flow net).sites (begin (flow net).out.part)) _ (rises.1 (begin (flow net).out.part) (λ port. (tt, tt))) (rises.0, tt)
