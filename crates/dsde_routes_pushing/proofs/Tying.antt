-- What the links of a tree carry is what those of its wiring carry.
use Rattle.std.proofs.Common.{◌≡◌, ℕ, List, [], ◌∷◌, ◌++◌, map, inl, inr, refl, sym, ap, ◌∙◌, subst, Option, Result, Ok, Err}
use Rattle.std.proofs.lemmas.List.{map-append, append_assoc, append-nil}
use Rattle.std.specs.Option.{option_map}
use Rattle.std.specs.List.{AllByRecursion, flat_map}
use Rattle.dsde_bank.specs.declared.handle.Handle.{Handle}
use Rattle.dsde_values.specs.declared.name.Name.{Name}
use Rattle.dsde_values.specs.declared.path.Path.{Path}
use Rattle.dsde_sim_movers.specs.given.formalism.leaf_Leaf.{Leaf}
use Rattle.dsde_sim_movers.specs.given.formalism.System.{System, Ports}
use Rattle.dsde_sim_movers.specs.given.formalism.Leaf.{component_of}
use Rattle.dsde_faults.specs.declared.end.LeafEnd.{LeafEnd}
use Rattle.dsde_routes_pushing.specs.given.structure.plan_Link.{Link}
use Rattle.dsde_routes_pushing.specs.given.structure.plan_Part_TheVariants as part
use Rattle.dsde_routes_pushing.specs.given.structure.sources_Given.{Given}
use Rattle.dsde_routes_pushing.specs.given.structure.sources_Sources.{Sources}
use Rattle.dsde_routes_pushing.specs.given.structure.Gather.{gathered}
use Rattle.dsde_sim_movers.specs.given.sim_tree.fault_TurnEnd.{TurnEnd}
use Rattle.dsde_sim_movers.specs.given.sim_tree.Told.{below, at, to_boss}
use Rattle.dsde_sim_movers.specs.given.sim_tree.sim_Kid.{Kid}
use Rattle.dsde_sim_movers.specs.given.sim_tree.sim_Net.{Net}
use Rattle.dsde_sim_movers.specs.given.sim_tree.sim_Sim.{Sim}
use Rattle.dsde_sim_movers.specs.given.sim_tree.sim_Sim_TheFolds.{fold-roll-Sim, fold-roll-Kid, fold-roll-Net}
use Rattle.dsde_sim_movers.specs.given.sim_tree.sim_Sim_TheOpen.{Sim-F}
use Rattle.dsde_sim_movers.specs.given.sim_tree.sim_Sim_TheOpen as layer
use Rattle.dsde_sim_movers.specs.given.sim_tree.sim_Sim_TheVariants as sim
use Rattle.dsde_sim_movers.specs.given.sim_tree.sim_Sim_TheViews.{out-Kid, out-Net, roll-out-Kid, roll-out-Net, out-roll-Sim, rolls-Leaf, rolls-Net}
use Rattle.dsde_sim_movers.specs.given.sim_tree.Move.{ins_of}
use Rattle.dsde_sim_movers.specs.given.sim_tree.Output.{◌>>=◌, sent, Answer, KidAnswer, asked, sources_of, output_step, output_kid, output_net, output, kid_output, output_of_net}
use Rattle.dsde_sim_movers.specs.given.sim_tree.lemmas_Trees.{each_tree}
use Rattle.dsde_sim_movers.specs.Deliveries as tree
use Rattle.dsde_sim_movers.specs.Deliveries.{KidReceives, shared, deliveries, deliveries_of_kid}
use Rattle.dsde_sim_movers.specs.lemmas.Opens.{deliveries-Leaf, deliveries-Net, deliveries-kid}
use Rattle.dsde_routes_wiring.specs.declared.wiring.Wiring.{Wiring}
use Rattle.dsde_routes_wiring.specs.declared.wiring.WiredKid.{WiredKid}
use Rattle.dsde_routes_wiring.specs.declared.wiring.WiredKid.TheOpen.{Wiring-F, WiredKid-F}
use Rattle.dsde_routes_pushing.specs.Carried as load
use Rattle.dsde_routes_pushing.specs.Carried.{Traffic, Delivery, KidLoad, NetLoad, load, load_of_kid}
use Rattle.dsde_routes_pushing.specs.lemmas.Opens.{load-opens, load_kid-opens}
use Rattle.dsde_routes_pushing.specs.Wire.{WiredAt, wired, wired_kid, wired_net, handed, Place, Places, places, places_of_kid, IsOf}
use Rattle.dsde_routes_pushing.specs.lemmas.Wires.{places-kid, places-Leaf, places-Net, wired-Leaf, wired-Net, wired_kid-opens, wired_net-opens}

-- how many in ports a part of this layer has
abbrev ins_in : System → Sim-F Sim Kid Net → ℕ
ins_in system own = elim own [
  | layer.Leaf leaf ↦ (component_of system leaf).ins
  | layer.Net net ↦ (system.network (out-Net net).model (out-Net net).args).ins
]

ins-leaf : (system : System) (leaf : Leaf) → ins_of system (sim.Leaf leaf) ≡ (component_of system leaf).ins
ins-leaf system leaf = ap (ins_of system) (sym (rolls-Leaf leaf)) ∙ ap (ins_in system) (out-roll-Sim (layer.Leaf leaf))

ins-net : (system : System) (net : Net) → ins_of system (sim.Net net) ≡ (system.network (out-Net net).model (out-Net net).args).ins
ins-net system net = ap (ins_of system) (sym (rolls-Net net)) ∙ ap (ins_in system) (out-roll-Sim (layer.Net net))

output-Leaf : (system : System) (leaf : Leaf) (path : Path) (time : ℕ) → output system (sim.Leaf leaf) path time ≡ at path (sent system leaf time)
output-Leaf system leaf path time =
    ap (λ (s : Sim). output system s path time) (sym (rolls-Leaf leaf))
    ∙ ap (λ (answer : Answer). answer path time) (fold-roll-Sim Answer KidAnswer Answer (output_step system) output_kid (output_net system) (layer.Leaf leaf))

output-Net : (system : System) (net : Net) (path : Path) (time : ℕ) →
    output system (sim.Net net) path time
    ≡ (sources_of system (map (kid_output system) (out-Net net).kids) (out-Net net).boss path time [] >>= (λ sources. Ok (gathered system.translate (out-Net net).links sources part.Net (system.network (out-Net net).model (out-Net net).args).outs)))
output-Net system net path time =
    ap (λ (s : Sim). output system s path time) (sym (rolls-Net net))
    ∙ ap (λ (answer : Answer). answer path time) (fold-roll-Sim Answer KidAnswer Answer (output_step system) output_kid (output_net system) (layer.Net net))
    ∙ ap (λ (n : Net). output_of_net system n path time) (sym (roll-out-Net net))
    ∙ ap (λ (answer : Answer). answer path time) (fold-roll-Net Answer KidAnswer Answer (output_step system) output_kid (output_net system) (out-Net net))

output-kid : (system : System) (kid : Kid) (path : Path) (time : ℕ) →
    kid_output system kid path time ≡ (output system (out-Kid kid).sim (below path (out-Kid kid).name) time >>= (λ ports. Ok (record { name = (out-Kid kid).name; ports = ports })))
output-kid system kid path time =
    ap (λ (k : Kid). kid_output system k path time) (sym (roll-out-Kid kid))
    ∙ ap (λ (answer : KidAnswer). answer path time) (fold-roll-Kid Answer KidAnswer Answer (output_step system) output_kid (output_net system) (out-Kid kid))

all-front : {X : Type 0} (P : X → Type 0) (xs ys : List X) → AllByRecursion P (xs ++ ys) → AllByRecursion P xs
all-front P [] ys all = tt
all-front P (x ∷ xs) ys all = (all.0, all-front P xs ys all.1)

all-back : {X : Type 0} (P : X → Type 0) (xs ys : List X) → AllByRecursion P (xs ++ ys) → AllByRecursion P ys
all-back P [] ys all = all
all-back P (x ∷ xs) ys all = all-back P xs ys all.1

module _ (system : System) (handle : Path → Handle) (time : ℕ) (traffic : Traffic) (same : traffic.translate ≡ system.translate) where
  -- what a component of this name carries, by what is wired beneath it
  abbrev step : Name → Path → Option Wiring → KidLoad
  step name path own = load.kid_step traffic (record { name = name; handle = handle path; below = option_map (load traffic) own })

  abbrev kid_load : Path → Kid → KidLoad
  kid_load path kid = load_of_kid traffic (wired_kid handle kid path)

  kid_load-opens : (path : Path) (kid : Kid) → kid_load path kid ≡ step (out-Kid kid).name (below path (out-Kid kid).name) (wired handle (out-Kid kid).sim (below path (out-Kid kid).name))
  kid_load-opens path kid =
      load_kid-opens traffic (wired_kid handle kid path)
      ∙ ap (λ (own : WiredKid-F WiredKid Wiring). load.kid_step traffic (record { name = own.name; handle = own.handle; below = option_map (load traffic) own.below })) (wired_kid-opens handle kid path)

  abbrev received : Sim → Name → Path → List Link → Sources → List Delivery
  received own name path links sources = map (handed handle) (deliveries system own path time (gathered system.translate links sources (part.Kid name) (ins_of system own)))

  record IsCarried (own : Sim) (name : Name) (path : Path) (one : KidLoad) : Type 0 where
    given : output system own path time ≡ Ok one.given.ports
    named : one.given.name ≡ name
    brought : (links : List Link) (sources : Sources) → received own name path links sources ≡ one.deliveries links sources

  abbrev Claim : Sim → Type 0
  Claim own = (name : Name) (path : Path) → AllByRecursion (IsOf system handle time traffic) (places own path) → IsCarried own name path (step name path (wired handle own path))

  -- no fault comes where a component has sent
  at-ok : (path : Path) (result : Result Ports LeafEnd) (ports : Ports) → result ≡ Ok ports → at path result ≡ Ok ports
  at-ok path result ports is = ap (at path) is

  leaf_carried : (leaf : Leaf) → Claim (sim.Leaf leaf)
  leaf_carried leaf name path each =
      let fact = (subst (λ (list : List Place). AllByRecursion (IsOf system handle time traffic) list) (places-Leaf leaf path) each).0 in
      subst (λ (own : Option Wiring). IsCarried (sim.Leaf leaf) name path (step name path own)) (sym (wired-Leaf handle leaf path)) (record {
        given = output-Leaf system leaf path time ∙ at-ok path (sent system leaf time) (traffic.sent (handle path)) fact.0;
        named = refl;
        brought = λ links sources.
            ap (map (handed handle)) (deliveries-Leaf system leaf path time (gathered system.translate links sources (part.Kid name) (ins_of system (sim.Leaf leaf))))
            ∙ (λ i. record { part = handle path; ports = gathered (sym same i) links sources (part.Kid name) ((ins-leaf system leaf ∙ sym fact.1) i) } ∷ []);
      })

  abbrev KidCarried : Path → Kid → Type 0
  KidCarried path kid = IsCarried (out-Kid kid).sim (out-Kid kid).name (below path (out-Kid kid).name) (kid_load path kid)

  kids_carried : (path : Path) (kids : List Kid) → AllByRecursion (λ kid. Claim (out-Kid kid).sim) kids → AllByRecursion (IsOf system handle time traffic) (flat_map (λ (own : Places). own path) (map places_of_kid kids)) → AllByRecursion (KidCarried path) kids
  kids_carried path [] claims each = tt
  kids_carried path (kid ∷ kids) claims each =
      let others = flat_map (λ (own : Places). own path) (map places_of_kid kids) in
      let here = subst (λ (list : List Place). AllByRecursion (IsOf system handle time traffic) list) (places-kid kid path) (all-front (IsOf system handle time traffic) (places_of_kid kid path) others each) in (
        subst (IsCarried (out-Kid kid).sim (out-Kid kid).name (below path (out-Kid kid).name)) (sym (kid_load-opens path kid)) (claims.0 (out-Kid kid).name (below path (out-Kid kid).name) here),
        kids_carried path kids claims.1 (all-back (IsOf system handle time traffic) (places_of_kid kid path) others each),
      )

  abbrev given_of : Path → List Kid → List Given
  given_of path kids = map (λ (one : KidLoad). one.given) (map (kid_load path) kids)

  asks : (path : Path) (kid : Kid) → KidCarried path kid → kid_output system kid path time ≡ Ok (kid_load path kid).given
  asks path kid carried =
      output-kid system kid path time
      ∙ ap (λ (r : Result Ports TurnEnd). r >>= (λ ports. let known : Result Given TurnEnd = Ok (record { name = (out-Kid kid).name; ports = ports }) in known)) carried.given
      ∙ (λ i. Ok (record { name = sym carried.named i; ports = (kid_load path kid).given.ports }))

  asked-given : (path : Path) (kids : List Kid) → AllByRecursion (KidCarried path) kids → (done : List Given) → asked (map (kid_output system) kids) path time done ≡ Ok (done ++ given_of path kids)
  asked-given path [] carried done = ap (λ (list : List Given). let known : Result (List Given) TurnEnd = Ok list in known) (sym (append-nil done))
  asked-given path (kid ∷ kids) carried done =
      ap (λ (r : Result Given TurnEnd). r >>= (λ given. asked (map (kid_output system) kids) path time (done ++ given ∷ []))) (asks path kid carried.0)
      ∙ asked-given path kids carried.1 (done ++ (kid_load path kid).given ∷ [])
      ∙ ap (λ (list : List Given). let known : Result (List Given) TurnEnd = Ok list in known) (append_assoc done ((kid_load path kid).given ∷ []) (given_of path kids))

  abbrev sources_in : Path → List Kid → Ports → Sources
  sources_in path kids got = record { net = got; boss = traffic.sent (handle (to_boss path)); kids = given_of path kids }

  sources-ok : (boss : Leaf) (path : Path) (kids : List Kid) → AllByRecursion (KidCarried path) kids → sent system boss time ≡ Ok (traffic.sent (handle (to_boss path))) → (got : Ports) →
      sources_of system (map (kid_output system) kids) boss path time got ≡ Ok (sources_in path kids got)
  sources-ok boss path kids carried is got =
      ap (λ (r : Result (List Given) TurnEnd). r >>= (λ given. at (to_boss path) (sent system boss time) >>= (λ own. let known : Result Sources TurnEnd = Ok (record { net = got; boss = own; kids = given }) in known))) (asked-given path kids carried [])
      ∙ ap (λ (r : Result Ports TurnEnd). r >>= (λ own. let known : Result Sources TurnEnd = Ok (record { net = got; boss = own; kids = given_of path kids }) in known)) (at-ok (to_boss path) (sent system boss time) (traffic.sent (handle (to_boss path))) is)

  -- what a network carries
  abbrev net_one : Net → Path → NetLoad
  net_one net path = load.net_step traffic (record { me = handle path; boss = handle (to_boss path); links = (out-Net net).links; kids = map (kid_load path) (out-Net net).kids })

  kids-loads : (path : Path) (kids : List Kid) → map (load_of_kid traffic) (map (λ (kid : WiredAt). kid path) (map (wired_kid handle) kids)) ≡ map (kid_load path) kids
  kids-loads path [] = refl
  kids-loads path (kid ∷ kids) = ap (λ rest. kid_load path kid ∷ rest) (kids-loads path kids)

  net_load-opens : (net : Net) (path : Path) → load traffic (wired_net handle net path) ≡ net_one net path
  net_load-opens net path =
      load-opens traffic (wired_net handle net path)
      ∙ ap (λ (own : Wiring-F WiredKid Wiring). load.net_step traffic (record { me = own.me; boss = own.boss; links = own.links; kids = map (load_of_kid traffic) own.kids })) (wired_net-opens handle net path)
      ∙ ap (λ (kids : List KidLoad). load.net_step traffic (record { me = handle path; boss = handle (to_boss path); links = (out-Net net).links; kids = kids })) (kids-loads path (out-Net net).kids)

  kids_brought : (path : Path) (kids : List Kid) → AllByRecursion (KidCarried path) kids → (links : List Link) (sources : Sources) →
      map (handed handle) (flat_map (λ (kid : KidReceives). kid path time links sources) (map (deliveries_of_kid system) kids)) ≡ flat_map (λ (one : KidLoad). one.deliveries links sources) (map (kid_load path) kids)
  kids_brought path [] carried links sources = refl
  kids_brought path (kid ∷ kids) carried links sources =
      map-append (handed handle) (deliveries_of_kid system kid path time links sources) (flat_map (λ (kid : KidReceives). kid path time links sources) (map (deliveries_of_kid system) kids))
      ∙ (λ i. (ap (map (handed handle)) (deliveries-kid system kid path time links sources) ∙ carried.0.brought links sources) i ++ kids_brought path kids carried.1 links sources i)

  abbrev NetTied : Net → Path → NetLoad → Type 0
  NetTied net path one = (output system (sim.Net net) path time ≡ Ok one.sends) × ((got : Ports) → map (handed handle) (deliveries system (sim.Net net) path time got) ≡ one.deliveries got)

  net_one-tied : (net : Net) (path : Path) → AllByRecursion (KidCarried path) (out-Net net).kids →
      IsOf system handle time traffic (record { path = path; what = inr ((out-Net net).model, (out-Net net).args) }) → IsOf system handle time traffic (record { path = to_boss path; what = inl (out-Net net).boss }) →
      NetTied net path (net_one net path)
  net_one-tied net path carried own boss =
      let links = (out-Net net).links in
      let kids = (out-Net net).kids in
      let outs = (system.network (out-Net net).model (out-Net net).args).outs in (
        output-Net system net path time
            ∙ ap (λ (r : Result Sources TurnEnd). r >>= (λ sources. let known : Result Ports TurnEnd = Ok (gathered system.translate links sources part.Net outs) in known)) (sources-ok (out-Net net).boss path kids carried boss.0 [])
            ∙ (λ i. Ok (gathered (sym same i) links (sources_in path kids []) part.Net (sym own.1 i))),
        λ got.
            let sources = sources_in path kids got in
            ap (map (handed handle)) (
            deliveries-Net system net path time got
            ∙ ap (λ (r : Result Sources TurnEnd). let list : List tree.Delivery = elim r [ Ok sources ↦ shared system (out-Net net).boss (map (deliveries_of_kid system) kids) links path time sources | Err end ↦ [] ] in list) (sources-ok (out-Net net).boss path kids carried boss.0 got))
            ∙ map-append (handed handle) (flat_map (λ (kid : KidReceives). kid path time links sources) (map (deliveries_of_kid system) kids)) _
            ∙ (λ i. kids_brought path kids carried links sources i ++ record { part = handle (to_boss path); ports = gathered (sym same i) links sources part.Boss (sym boss.1 i) } ∷ []),
      )

  net_tied : (net : Net) → AllByRecursion (λ kid. Claim (out-Kid kid).sim) (out-Net net).kids → (path : Path) → AllByRecursion (IsOf system handle time traffic) (places (sim.Net net) path) → NetTied net path (load traffic (wired_net handle net path))
  net_tied net claims path each =
      let all = subst (λ (list : List Place). AllByRecursion (IsOf system handle time traffic) list) (places-Net net path) each in
      let front = flat_map (λ (own : Places). own path) (map places_of_kid (out-Net net).kids) in
      subst (NetTied net path) (sym (net_load-opens net path))
      (net_one-tied net path (kids_carried path (out-Net net).kids claims (all-front (IsOf system handle time traffic) front _ all.1)) all.0 (all-back (IsOf system handle time traffic) front _ all.1).0)

  net_ins : (net : Net) (path : Path) → AllByRecursion (IsOf system handle time traffic) (places (sim.Net net) path) → ins_of system (sim.Net net) ≡ traffic.ins (handle path)
  net_ins net path each =
      let all = subst (λ (list : List Place). AllByRecursion (IsOf system handle time traffic) list) (places-Net net path) each in
      ins-net system net ∙ sym all.0.0

  net_carried : (net : Net) → AllByRecursion (λ kid. Claim (out-Kid kid).sim) (out-Net net).kids → Claim (sim.Net net)
  net_carried net claims name path each =
      let tied = net_tied net claims path each in
      subst (λ (own : Option Wiring). IsCarried (sim.Net net) name path (step name path own)) (sym (wired-Net handle net path)) (record {
        given = tied.0;
        named = refl;
        brought = λ links sources.
            ap (λ (ports : Ports). map (handed handle) (deliveries system (sim.Net net) path time ports)) (λ i. gathered (sym same i) links sources (part.Kid name) (net_ins net path each i))
            ∙ tied.1 (load.to_kid traffic (handle path) name links sources);
      })

  all_carried : (own : Sim) → Claim own
  all_carried = each_tree Claim leaf_carried net_carried

  each_kid : (kids : List Kid) → AllByRecursion (λ kid. Claim (out-Kid kid).sim) kids
  each_kid [] = tt
  each_kid (kid ∷ kids) = (all_carried (out-Kid kid).sim, each_kid kids)

  pub each-tied : (net : Net) (path : Path) → AllByRecursion (IsOf system handle time traffic) (places (sim.Net net) path) → NetTied net path (load traffic (wired_net handle net path))
  each-tied net = net_tied net (each_kid (out-Net net).kids)

  -- the root's handle is that of its path
  pub root-handle : (net : Net) (path : Path) → (load traffic (wired_net handle net path)).me ≡ handle path
  root-handle net path = ap (λ (own : NetLoad). own.me) (net_load-opens net path)

  unhand : (P : Delivery → Type 0) (list : List tree.Delivery) → AllByRecursion P (map (handed handle) list) → AllByRecursion (λ delivery. P (handed handle delivery)) list
  unhand P [] all = tt
  unhand P (delivery ∷ list) all = (all.0, unhand P list all.1)

  pub each-handed : (P : Delivery → Type 0) (net : Net) (path : Path) → AllByRecursion P (load.deliveries traffic (wired_net handle net path)) →
      map (handed handle) (deliveries system (sim.Net net) path time (traffic.sent (handle path))) ≡ (load traffic (wired_net handle net path)).deliveries (traffic.sent (handle path)) →
      AllByRecursion (λ delivery. P (handed handle delivery)) (deliveries system (sim.Net net) path time (traffic.sent (handle path)))
  each-handed P net path all is =
      let wiring = wired_net handle net path in
      unhand P (deliveries system (sim.Net net) path time (traffic.sent (handle path)))
      (subst (AllByRecursion P) (ap (λ (me : Handle). (load traffic wiring).deliveries (traffic.sent me)) (root-handle net path) ∙ sym is)
      (all-front P ((load traffic wiring).deliveries (traffic.sent (load traffic wiring).me)) _ all))
