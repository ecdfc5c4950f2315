-- What links carry to each part of a wiring is what the ways that end there carry.
use Rattle.std.proofs.Common.{◌≡◌, Bool, true, false, cond, List, [], ◌∷◌, ◌++◌, get_or, map, refl, sym, ap, ◌∙◌, subst, Option, Some, None}
use Rattle.std.proofs.lemmas.List.{append-nil}
use Rattle.std.specs.Option.{option_map}
use Rattle.std.specs.List.{flat_map, filter_map, AllByRecursion}
use Rattle.dsde_bank.specs.declared.handle.Handle.{Handle}
use Rattle.dsde_values.specs.declared.name.Name.{Name}
use Rattle.dsde_values.specs.declared.value.Value.{Value}
use Rattle.dsde_routes_wiring.specs.given.structure.plan_Link.{Link}
use Rattle.dsde_routes_wiring.specs.given.structure.plan_Part_TheVariants as part
use Rattle.dsde_routes_wiring.specs.given.structure.sources_Given.{Given}
use Rattle.dsde_routes_wiring.specs.given.structure.sources_Sources.{Sources}
use Rattle.dsde_routes_wiring.specs.given.structure.Gather as gather
use Rattle.dsde_routes_wiring.specs.given.structure.Gather.{Ports, gathered, is_same_name}
use Rattle.dsde_routes_wiring.specs.declared.wiring.Wiring.{Wiring}
use Rattle.dsde_routes_wiring.specs.declared.wiring.WiredKid.{WiredKid}
use Rattle.dsde_routes_wiring.specs.declared.wiring.WiredKid.TheViews.{out-Wiring, out-WiredKid}
use Rattle.dsde_routes_wiring.specs.Ways as ways
use Rattle.dsde_routes_wiring.specs.Ways.{Ways, Sent, begin, coming, nowhere}
use Rattle.dsde_routes_wiring.specs.Flatten as flow
use Rattle.dsde_routes_wiring.specs.Flatten.{Site, KidFlow, NetFlow, flow, flow_of_kid, ways_at, sites}
use Rattle.dsde_routes_pushing.specs.Carried as load
use Rattle.dsde_routes_pushing.specs.Carried.{Traffic, Delivery, KidLoad, NetLoad, load, load_of_kid, deliveries, along}
use Rattle.dsde_routes_wiring.specs.Wired.{Shape, KidShapes, shapes, shapes_of_kid}
use Rattle.dsde_routes_pushing.specs.Fitting.{LeadWithin, HasPorts, HavePorts}
use Rattle.dsde_routes_wiring.specs.Opened.{me_of, kids_of, below_of, Beneath, each_wiring, flow_opened, flow-opens, flow_kid-opens, shapes-opens, shapes_kid-opens}
use Rattle.dsde_routes_pushing.specs.lemmas.Opens.{load_opened, load_kid_opened, load-opens, load_kid-opens}
use Rattle.dsde_routes_pushing.proofs.Along.{Carry, CarryFrom, gathered_coming}

pub all_left : {X : Type 0} (P : X → Type 0) (xs ys : List X) → AllByRecursion P (xs ++ ys) → AllByRecursion P xs
all_left P [] ys all = tt
all_left P (x ∷ xs) ys all = (all.0, all_left P xs ys all.1)

pub all_right : {X : Type 0} (P : X → Type 0) (xs ys : List X) → AllByRecursion P (xs ++ ys) → AllByRecursion P ys
all_right P [] ys all = all
all_right P (x ∷ xs) ys all = all_right P xs ys all.1

each_some : (values : List Value) → filter_map (λ (v : Value). let known : Option Value = Some v in known) values ≡ values
each_some [] = refl
each_some (value ∷ values) = ap (λ rest. value ∷ rest) (each_some values)

module _ (traffic : Traffic) where
  -- a delivery has at each port what the ways carry that end there
  abbrev pub AreCarried : List Delivery → List Site → Type 0
  AreCarried [] [] = Unit {0}
  AreCarried (delivery ∷ list) (site ∷ others) = ((delivery.part ≡ site.part) × Carry traffic delivery.ports (ways_at site)) × AreCarried list others
  AreCarried _ _ = ⊥

  pub carried-append : (one : List Delivery) (other : List Site) (later : List Delivery) (behind : List Site) → AreCarried one other → AreCarried later behind → AreCarried (one ++ later) (other ++ behind)
  carried-append [] [] later behind first rest = rest
  carried-append (delivery ∷ one) (site ∷ other) later behind first rest = (first.0, carried-append one other later behind first.1 rest)
  carried-append [] (site ∷ other) later behind first rest = absurd first
  carried-append (delivery ∷ one) [] later behind first rest = absurd first

  begins : (source : Handle) → Carry traffic (traffic.sent source) (begin source)
  begins source port = sym (append-nil (filter_map (λ (v : Value). let known : Option Value = Some v in known) (get_or (traffic.sent source) port [])) ∙ each_some (get_or (traffic.sent source) port []))

  record KidCarries (links : List Link) (one : KidLoad) (other : KidFlow) : Type 0 where
    name : one.given.name ≡ other.sent.name
    sent : Carry traffic one.given.ports other.sent.ways
    within : (given : Sources) (sources : ways.Sources) → CarryFrom traffic given sources → AreCarried (one.deliveries links given) (other.sites links sources)

  abbrev NetCarries : NetLoad → NetFlow → Type 0
  NetCarries one other =
      (one.me ≡ other.out.part)
      × Carry traffic one.sends (ways_at other.out)
      × ((got : Ports) (come : Ways) → Carry traffic got come → AreCarried (one.deliveries got) (other.sites come))

  abbrev Claim : Wiring → Type 0
  Claim net = HavePorts traffic net → NetCarries (load traffic net) (flow net)

  abbrev shapes_in : Option (List Shape) → List Shape
  shapes_in below = elim below [ None ↦ [] | Some own ↦ own ]

  kid_step_carries : (links : List Link) (name : Name) (handle : Handle) (below : Option Wiring) → Beneath Claim below →
      LeadWithin (traffic.ins handle) (part.Kid name) links → AllByRecursion (HasPorts traffic) (shapes_in (option_map shapes below)) →
      KidCarries links (load.kid_step traffic (record { name = name; handle = handle; below = option_map (load traffic) below }))
      (flow.kid_step (record { name = name; handle = handle; below = option_map flow below }))
  kid_step_carries links name handle None claim within ports = record {
    name = refl;
    sent = begins handle;
    within = λ given sources same. ((refl, gathered_coming traffic given sources same links (part.Kid name) (traffic.ins handle) within), tt);
  }
  kid_step_carries links name handle (Some net) claim within ports =
      let own = claim ports in
      record {
        name = refl;
        sent = own.1;
        within = λ given sources same. own.2 (load.to_kid traffic handle name links given) _ (gathered_coming traffic given sources same links (part.Kid name) (traffic.ins handle) within);
      }

  kid_carries : (links : List Link) (kid : WiredKid) → Beneath Claim (below_of kid) →
      LeadWithin (traffic.ins (shapes_of_kid kid).wired.handle) (part.Kid (shapes_of_kid kid).wired.name) links → AllByRecursion (HasPorts traffic) (shapes_of_kid kid).below →
      KidCarries links (load_of_kid traffic kid) (flow_of_kid kid)
  kid_carries links kid claim within ports =
      subst (λ (one : KidLoad). KidCarries links one (flow_of_kid kid)) (sym (load_kid-opens traffic kid)) (
      subst (λ (other : KidFlow). KidCarries links (load.kid_step traffic (load_kid_opened traffic kid)) other) (sym (flow_kid-opens kid)) (
      kid_step_carries links (out-WiredKid kid).name (out-WiredKid kid).handle (below_of kid) claim
      (subst (λ (shape : KidShapes). LeadWithin (traffic.ins shape.wired.handle) (part.Kid shape.wired.name) links) (shapes_kid-opens kid) within)
      (subst (λ (shape : KidShapes). AllByRecursion (HasPorts traffic) shape.below) (shapes_kid-opens kid) ports)))

  kids_carry : (links : List Link) (kids : List WiredKid) → AllByRecursion (λ kid. Beneath Claim (below_of kid)) kids →
      AllByRecursion (λ kid. LeadWithin (traffic.ins kid.handle) (part.Kid kid.name) links) (map (λ (kid : KidShapes). kid.wired) (map shapes_of_kid kids)) →
      AllByRecursion (HasPorts traffic) (flat_map (λ (kid : KidShapes). kid.below) (map shapes_of_kid kids)) →
      AllByRecursion (λ kid. KidCarries links (load_of_kid traffic kid) (flow_of_kid kid)) kids
  kids_carry links [] claims within ports = tt
  kids_carry links (kid ∷ kids) claims within ports =
      let below = (shapes_of_kid kid).below in
      let others = flat_map (λ (kid : KidShapes). kid.below) (map shapes_of_kid kids) in (
        kid_carries links kid claims.0 within.0 (all_left (HasPorts traffic) below others ports),
        kids_carry links kids claims.1 within.1 (all_right (HasPorts traffic) below others ports),
      )

  abbrev given_of : List WiredKid → List Given
  given_of kids = map (λ (kid : KidLoad). kid.given) (map (load_of_kid traffic) kids)

  abbrev sent_of : List WiredKid → List Sent
  sent_of kids = map (λ (kid : KidFlow). kid.sent) (map flow_of_kid kids)

  either : (b : Bool) (one : Ports) (own : Ways) (rest : Ports) (others : Ways) → Carry traffic one own → Carry traffic rest others → Carry traffic (cond b one rest) (cond b own others)
  either true one own rest others first later = first
  either false one own rest others first later = later

  kids_sent : (links : List Link) (kids : List WiredKid) → AllByRecursion (λ kid. KidCarries links (load_of_kid traffic kid) (flow_of_kid kid)) kids →
      (name : Name) → Carry traffic (gather.sent_by (given_of kids) name) (ways.sent_by (sent_of kids) name)
  kids_sent links [] carries name = λ port. refl
  kids_sent links (kid ∷ kids) carries name =
      subst (λ (own : Name). Carry traffic (gather.sent_by (given_of (kid ∷ kids)) name) (cond (is_same_name own name) (flow_of_kid kid).sent.ways (ways.sent_by (sent_of kids) name))) carries.0.name
      (either (is_same_name (load_of_kid traffic kid).given.name name) (load_of_kid traffic kid).given.ports (flow_of_kid kid).sent.ways (gather.sent_by (given_of kids) name) (ways.sent_by (sent_of kids) name) carries.0.sent (kids_sent links kids carries.1 name))

  kids_within : (links : List Link) (kids : List WiredKid) → AllByRecursion (λ kid. KidCarries links (load_of_kid traffic kid) (flow_of_kid kid)) kids →
      (given : Sources) (sources : ways.Sources) → CarryFrom traffic given sources →
      AreCarried (flat_map (λ (kid : KidLoad). kid.deliveries links given) (map (load_of_kid traffic) kids)) (flat_map (λ (kid : KidFlow). kid.sites links sources) (map flow_of_kid kids))
  kids_within links [] carries given sources same = tt
  kids_within links (kid ∷ kids) carries given sources same =
      carried-append ((load_of_kid traffic kid).deliveries links given) ((flow_of_kid kid).sites links sources) _ _ (carries.0.within given sources same) (kids_within links kids carries.1 given sources same)

  abbrev boss_of : Wiring → Handle
  boss_of net = (out-Wiring net).boss

  abbrev links_of : Wiring → List Link
  links_of net = (out-Wiring net).links

  carry_from : (net : Wiring) → AllByRecursion (λ kid. KidCarries (links_of net) (load_of_kid traffic kid) (flow_of_kid kid)) (kids_of net) → (got : Ports) (come : Ways) → Carry traffic got come →
      CarryFrom traffic (load.sources_of traffic (boss_of net) (map (load_of_kid traffic) (kids_of net)) got) (flow.sources_of (boss_of net) (map flow_of_kid (kids_of net)) come)
  carry_from net carries got come same part.Net = same
  carry_from net carries got come same part.Boss = begins (boss_of net)
  carry_from net carries got come same (part.Kid name) = kids_sent (links_of net) (kids_of net) carries name

  nothing : Carry traffic [] nowhere
  nothing port = refl

  net_step_carries : (net : Wiring) → AllByRecursion (λ kid. Beneath Claim (below_of kid)) (kids_of net) → HavePorts traffic net →
      NetCarries (load.net_step traffic (load_opened traffic net)) (flow.net_step (flow_opened net))
  net_step_carries net claims have =
      let ports = subst (λ (list : List Shape). AllByRecursion (HasPorts traffic) list) (shapes-opens net) have in
      let carries = kids_carry (links_of net) (kids_of net) claims ports.0.2 ports.1 in (
        refl,
        gathered_coming traffic (load.sources_of traffic (boss_of net) (map (load_of_kid traffic) (kids_of net)) []) (flow.sources_of (boss_of net) (map flow_of_kid (kids_of net)) nowhere) (carry_from net carries [] nowhere nothing) (links_of net) part.Net (traffic.outs (me_of net)) ports.0.0,
        λ got come same.
            let from = carry_from net carries got come same in
            carried-append _ _ _ _ (kids_within (links_of net) (kids_of net) carries _ _ from)
            ((refl, gathered_coming traffic (load.sources_of traffic (boss_of net) (map (load_of_kid traffic) (kids_of net)) got) (flow.sources_of (boss_of net) (map flow_of_kid (kids_of net)) come) from (links_of net) part.Boss (traffic.ins (boss_of net)) ports.0.1), tt),
      )

  net_carries : (net : Wiring) → AllByRecursion (λ kid. Beneath Claim (below_of kid)) (kids_of net) → Claim net
  net_carries net claims have =
      subst (λ (one : NetLoad). NetCarries one (flow net)) (sym (load-opens traffic net)) (
      subst (λ (other : NetFlow). NetCarries (load.net_step traffic (load_opened traffic net)) other) (sym (flow-opens net)) (
      net_step_carries net claims have))

  -- each delivery is carried by the ways to its site
  pub all_carried : (net : Wiring) → HavePorts traffic net → AreCarried (deliveries traffic net) (sites net)
  all_carried net have =
      let carries = each_wiring Claim net_carries net have in
      carried-append _ _ _ _
      (carries.2 (traffic.sent (load traffic net).me) (begin (flow net).out.part) (subst (λ (me : Handle). Carry traffic (traffic.sent (load traffic net).me) (begin me)) carries.0 (begins (load traffic net).me)))
      ((carries.0, carries.1), tt)
