-- What the sources of a flat state's wiring give goes along its rows.
use Rattle.std.proofs.Common.{◌≡◌, ℕ, Bool, true, false, cond, List, [], ◌∷◌, map, Option, Some, None, slice_get, refl, sym, ap, subst, ◌∙◌, zero, suc, inl, inr}
use Rattle.std.specs.List.{AllByRecursion, flat_map}
use Rattle.std.specs.Option.{option_map, option_map_or}
use Rattle.dsde_bank.specs.declared.handle.Handle.{Handle}
use Rattle.dsde_syntax.specs.declared.decl.Decl.{Decl}
use Rattle.dsde_syntax.specs.declared.decl.Decl.TheVariants as decl
use Rattle.dsde_syntax.specs.declared.decl.Model.{Model}
use Rattle.dsde_syntax.specs.declared.decl.PortDecl.{PortDecl}
use Rattle.dsde_values.specs.declared.name.Name.{Name}
use Rattle.dsde_values.specs.declared.path.Path.{Path}
use Rattle.dsde_values.specs.declared.types.Field.{Field}
use Rattle.dsde_values.specs.declared.types.Ty.{Ty}
use Rattle.dsde_values.specs.declared.value.Value.{Value}
use Rattle.dsde_language.specs.declared.ids.ModelId.{ModelId}
use Rattle.dsde_language.specs.DeclaredModels.{whole_of, types_of, port_fields, Own, owns_of}
use Rattle.dsde_routes_wiring.specs.given.structure.plan_Entry.{Entry}
use Rattle.dsde_routes_wiring.specs.given.structure.plan_Link.{Link}
use Rattle.dsde_routes_wiring.specs.given.structure.plan_Part.{Part}
use Rattle.dsde_routes_wiring.specs.given.structure.plan_Part_TheVariants as part
use Rattle.dsde_routes_wiring.specs.given.structure.Gather.{Ports, is_same_name}
use Rattle.dsde_routes_wiring.specs.given.structure.Survival.{IsInOrder}
use Rattle.dsde_sim_tree.specs.given.formalism.leaf_Leaf.{Leaf}
use Rattle.dsde_core_moves.specs.given.system.Program.{system}
use Rattle.dsde_core_moves.specs.given.system.Plans.{ArePortsOf, Cover, FitsLink, HasKid, HasPort, ways, body_ways}
use Rattle.dsde_sim_tree.specs.Told.{below, to_boss}
use Rattle.dsde_core_moves.specs.given.grove.Grove.{Grove, value_of}
use Rattle.dsde_sim_tree.specs.declared.sim.Kid.{Kid}
use Rattle.dsde_sim_tree.specs.declared.sim.Net.{Net}
use Rattle.dsde_sim_tree.specs.declared.sim.Sim.{Sim}
use Rattle.dsde_sim_tree.specs.declared.sim.Sim.TheVariants as sim
use Rattle.dsde_sim_tree.specs.declared.sim.Sim.TheOpen.{Net-F}
use Rattle.dsde_sim_tree.specs.declared.sim.Sim.TheViews.{out-Kid, out-Net, out-roll-Net}
use Rattle.dsde_sim_tree.specs.Spots.{shape_of}
use Rattle.dsde_sim_tree.specs.Tree.{entry_of, model_of}
use Rattle.dsde_core_moves.specs.given.sim_starting.Fitting.{FitsAtomic, FitsBodySent, FitsKid, FitsNet, FitsShape, FitsTree}
use Rattle.dsde_core_moves.specs.given.sim_starting.lemmas_Fits.{kid-tree, leaf-tree, net-kids, net-shape, net-tree}
use Rattle.dsde_core_moves.specs.given.sim_starting.lemmas_Stood.{model-leaf, model-net, plain-ins, same-own, stood}
use Rattle.dsde_routes_wiring.specs.declared.row.Row.{Row}
use Rattle.dsde_routes_wiring.specs.declared.wiring.Wiring.{Wiring}
use Rattle.dsde_routes_wiring.specs.declared.wiring.WiredKid.{WiredKid}
use Rattle.dsde_routes_wiring.specs.declared.wiring.WiredKid.TheViews.{out-Wiring, out-WiredKid}
use Rattle.dsde_routes_wiring.specs.Flatten.{KidFlow, NetFlow, Site, flow, flow_of_kid, kid_step, net_step, rows_at, sources_of, ways_at}
use Rattle.dsde_routes_wiring.specs.Opened.{Beneath, each_wiring, flow_kid-opens, flow-opens, flow_opened}
use Rattle.dsde_routes_wiring.specs.Ways.{Sent, Sources, Ways, coming, from_part, nowhere, sent_by}
use Rattle.dsde_routes_pushing.specs.lemmas.Lists.{Among, all-from, contains-from}
use Rattle.dsde_core_moves.specs.given.core_flat.spot_Spot.{Spot}
use Rattle.dsde_core_moves.specs.given.core_flat.spot_Spot_TheVariants as variant
use Rattle.dsde_core_moves.specs.given.core_flat.Places.{place, kid_places, net_places, part_places}
use Rattle.dsde_core_moves.specs.given.core_flat.Shown.{args_in, kid_under, leaf_in, model_in, net_under, part_under}
use Rattle.dsde_core_moves.specs.given.core_flat.Stands.{StandsAt}
use Rattle.dsde_core_moves.specs.given.core_flat.lemmas_Apart.{name-shown, sim-shown}
use Rattle.dsde_core_moves.specs.given.core_flat.lemmas_Frame.{all-join, all-left, all-right}
use Rattle.dsde_core_moves.specs.given.core_flat.lemmas_Names.{name-exact}
use Rattle.dsde_core_moves.specs.given.core_flat.lemmas_Opened.{OfKid, kid-stands, net-shows, net-stands}
use Rattle.dsde_core_parcels.specs.Traffic.{GoesToPort}
use Rattle.dsde_core_parcels.specs.lemmas.TrafficHeld.{leaf-held}
use Rattle.dsde_core_parcels.proofs.Going.{AllArrive, Arrive, begins, coming-arrive, kid-ports, rows-fit}

-- an atomic model's ports are those of its body
abbrev IsPlain : Own → Type 0
IsPlain own = own.network ≡ false → own.ports ≡ own.body.ports

all-plain : (decls : List Decl) → AllByRecursion IsPlain (owns_of decls)
all-plain [] = tt
all-plain (decl.Enum name variants ∷ decls) = all-plain decls
all-plain (decl.Rec name fields ∷ decls) = all-plain decls
all-plain (decl.Func name params result stmts value ∷ decls) = all-plain decls
all-plain (decl.Top at name args ∷ decls) = all-plain decls
all-plain (decl.Atomic at name params body ∷ decls) = (λ is. refl, all-plain decls)
all-plain (decl.Network at name params ports exec_at body items ∷ decls) = (λ is. absurd (cc is), all-plain decls)

all-at : {T : Type 0} (P : T → Type 0) (xs : List T) (index : ℕ) (x : T) → AllByRecursion P xs → slice_get xs index ≡ Some x → P x
all-at P [] index x all at = absurd (cc at)
all-at P (y ∷ xs) zero x all at = subst P (some-own y x at) all.0
  where
    some-own : {T : Type 0} (y x : T) → (let first : Option T = Some y in first ≡ Some x) → y ≡ x
    some-own y x is = cc
all-at P (y ∷ xs) (suc index) x all at = all-at P xs index x all.1 at

network-is : (model : Model) (number : ModelId) (own : Own) → slice_get (owns_of model.decls) number.0 ≡ Some own → (system model).is_network number ≡ own.network
unfolding system
network-is model number own found = ap (λ (one : Option Own). option_map_or (λ (own : Own). own.network) one false) found

plain : (model : Model) (number : ModelId) (own : Own) → slice_get (owns_of model.decls) number.0 ≡ Some own → (system model).is_network number ≡ false → own.ports ≡ own.body.ports
plain model number own found atomic = all-at IsPlain (owns_of model.decls) number.0 own (all-plain model.decls) found (sym (network-is model number own found) ∙ atomic)

one-leaf : (held : Option Spot) (one other : Leaf) → held ≡ Some (variant.Leaf one) → held ≡ Some (variant.Leaf other) → one ≡ other
one-leaf held one other is its = by one other (sym is ∙ its)
  where
    by : (one other : Leaf) → (let found : Option Spot = Some (variant.Leaf one) in found) ≡ Some (variant.Leaf other) → one ≡ other
    by one other is = cc

pub all-flat : {X Y : Type 0} (P : Y → Type 0) (f : X → List Y) (xs : List X) → AllByRecursion (λ x. AllByRecursion P (f x)) xs → AllByRecursion P (flat_map f xs)
all-flat P f [] all = tt
all-flat P f (x ∷ xs) all = all-join P (f x) (flat_map f xs) all.0 (all-flat P f xs all.1)

-- what a component is called is among what all are
pub among-shown : (own : Grove Spot) (kid : WiredKid) (kids : List WiredKid) → Among kid kids → Among (entry_of (kid_under (value_of own) kid)) (map entry_of (map (kid_under (value_of own)) kids))
among-shown own kid [] among = absurd among
among-shown own kid (other ∷ kids) (inl is) = inl (ap (λ (one : WiredKid). entry_of (kid_under (value_of own) one)) is)
among-shown own kid (other ∷ kids) (inr among) = inr (among-shown own kid kids among)

module _ (model : Model) (own : Grove Spot) (given : Handle → Ports)
    (sends : (handle : Handle) (leaf : Leaf) → value_of own handle ≡ Some (variant.Leaf leaf) → FitsBodySent model leaf.model.0 (given handle)) where
  abbrev Goes : Row → Type 0
  Goes = GoesToPort model own given

  abbrev pub SiteGoes : Site → Type 0
  SiteGoes site = AllByRecursion Goes (rows_at site)

  abbrev found_own : ℕ → Option Own
  found_own number = slice_get (owns_of model.decls) number

  -- a component of this name, by its part: the ways out of it, and the rows to it or beneath it
  record PartGoes (shown : Sim) (name : Name) (kid : KidFlow) : Type 0 where
    named : kid.sent.name ≡ name
    arrive : (stands : Own) → found_own (model_of shown).0 ≡ Some stands → Arrive model given (ways model stands true) kid.sent.ways
    sites : (whole : Own) (entries : List Entry) (order : IsInOrder entries) (links : List Link) → AllByRecursion (FitsLink model whole entries) links → (sources : Sources) → AllArrive model given whole entries order sources →
        ((is_source : Bool) (stands : Own) → found_own (model_of shown).0 ≡ Some stands → HasKid model entries name is_source (ways model stands is_source)) → AllByRecursion SiteGoes (kid.sites links sources)

  -- a network: the ways out of it, the rows beneath it, and those out of it where it is the root
  pub record NetGoes (shown : Net) (net : NetFlow) : Type 0 where
    pub arrive : (stands : Own) → found_own (out-Net shown).model.0 ≡ Some stands → Arrive model given (ways model stands true) (ways_at net.out)
    pub sites : (stands : Own) → found_own (out-Net shown).model.0 ≡ Some stands → (come : Ways) → Arrive model given (ways model stands false) come → AllByRecursion SiteGoes (net.sites come)
    pub out : ((leaf : Leaf) → value_of own net.out.part ≡ Some (variant.Leaf leaf) → ⊥) → SiteGoes net.out

  -- what an atomic component gives has the types of its out ports
  leaf-cover : (handle : Handle) (leaf : Leaf) → value_of own handle ≡ Some (variant.Leaf leaf) → FitsAtomic model leaf → (stands : Own) → found_own leaf.model.0 ≡ Some stands → Cover (types_of model) (ways model stands true) (given handle)
  leaf-cover handle leaf held atomic stands found =
      let body = sends handle leaf held in
      let same : body.own ≡ stands = same-own (found_own leaf.model.0) body.own stands body.found found in
      subst (λ (own : Own). Cover (types_of model) (ways model own true) (given handle)) same
      (subst (λ (ports : List PortDecl). Cover (types_of model) (port_fields (whole_of model) true ports) (given handle)) (sym (plain model leaf.model body.own body.found atomic.atomic)) body.cover)

  leaf-number : (leaf : Leaf) (stands : Own) → found_own leaf.model.0 ≡ Some stands → found_own (model_of (sim.Leaf leaf)).0 ≡ Some stands
  leaf-number leaf stands found = ap (λ (number : ModelId). found_own number.0) (model-leaf leaf) ∙ found

  number-leaf : (leaf : Leaf) (stands : Own) → found_own (model_of (sim.Leaf leaf)).0 ≡ Some stands → found_own leaf.model.0 ≡ Some stands
  number-leaf leaf stands found = ap (λ (number : ModelId). found_own number.0) (sym (model-leaf leaf)) ∙ found

  leaf-goes : (name : Name) (handle : Handle) (leaf : Leaf) → value_of own handle ≡ Some (variant.Leaf leaf) → FitsAtomic model leaf → PartGoes (sim.Leaf leaf) name (kid_step (record { name = name; handle = handle; below = None }))
  leaf-goes name handle leaf held atomic = record {
    named = refl;
    arrive = λ stands found. begins model given handle (ways model stands true) (leaf-cover handle leaf held atomic stands (number-leaf leaf stands found));
    sites = λ whole entries order links fits sources arrive is_kid. (
      rows-fit model given whole entries order sources arrive (part.Kid name) (ways model atomic.fits.own false) (is_kid false atomic.fits.own (leaf-number leaf atomic.fits.own atomic.fits.found)) handle Goes
          (λ port ty way has arrives. record {
            from = arrives.from;
            to = ty;
            takes = arrives.takes;
            typed = arrives.typed;
            target = λ other here stands found. to-body port ty other (one-leaf (value_of own handle) leaf other held here) stands found has;
          })
          0 links fits,
      tt,
    );
  }
    where
      to-body : (port : ℕ) (ty : Ty) (other : Leaf) → leaf ≡ other → (stands : Own) → found_own other.model.0 ≡ Some stands → HasPort (ways model atomic.fits.own false) port ty → HasPort (body_ways model stands false) port ty
      to-body port ty other same stands found has =
          let one : atomic.fits.own ≡ stands = same-own (found_own other.model.0) atomic.fits.own stands (ap (λ (own : Leaf). found_own own.model.0) (sym same) ∙ atomic.fits.found) found in
          subst (λ (own : Own). HasPort (body_ways model own false) port ty) one
          (subst (λ (fields : List Field). HasPort fields port ty) (plain-ins model leaf.model atomic.fits.own atomic.fits.found atomic.atomic) has)

  abbrev Claim : Wiring → Type 0
  Claim net = (handle : Handle) (path : Path) → AllByRecursion (StandsAt own) (net_places net path) → FitsNet model (net_under (value_of own) net handle) → NetGoes (net_under (value_of own) net handle) (flow net)

  part-goes : (name : Name) (handle : Handle) (path : Path) (inner : Option Wiring) → Beneath Claim inner → AllByRecursion (StandsAt own) (part_places handle path inner) → FitsTree model (part_under (value_of own) handle inner) →
      PartGoes (part_under (value_of own) handle inner) name (kid_step (record { name = name; handle = handle; below = option_map flow inner }))
  part-goes name handle path None claim stands fits =
      let held = leaf-held own (place handle path false) stands.0 refl in
      let shown : part_under (value_of own) handle None ≡ sim.Leaf held.0 = ap (λ (spot : Option Spot). sim.Leaf (leaf_in spot)) held.1 in
      subst (λ (sim : Sim). PartGoes sim name (kid_step (record { name = name; handle = handle; below = None }))) (sym shown)
      (leaf-goes name handle held.0 held.1 (leaf-tree model held.0 (subst (FitsTree model) shown fits)))
  part-goes name handle path (Some net) claim stands fits =
      let shown = net_under (value_of own) net handle in
      let inside = net-tree model shown fits in
      let links_fit = (net-shape model shown inside).links in
      let goes = claim handle path stands.1 inside in
      record {
        named = refl;
        arrive = λ its found. goes.arrive its (ap (λ (number : ModelId). found_own number.0) (sym (model-net shown)) ∙ found);
        sites = λ whole entries order links joined sources arrive is_kid.
            goes.sites links_fit.own links_fit.found (λ port. coming sources 0 links (record { part = part.Kid name; port = port }))
            (λ port ty has. coming-arrive model given whole entries order sources arrive (part.Kid name) (ways model links_fit.own false)
            (is_kid false links_fit.own (ap (λ (number : ModelId). found_own number.0) (model-net shown) ∙ links_fit.found)) port ty has 0 links joined);
      }

  abbrev KidGoes : WiredKid → Type 0
  KidGoes kid = PartGoes (out-Kid (kid_under (value_of own) kid)).sim (out-Kid (kid_under (value_of own) kid)).name (flow_of_kid kid)

  kid-goes : (kid : WiredKid) (path : Path) → OfKid Claim kid → AllByRecursion (StandsAt own) (kid_places kid path) → FitsKid model (kid_under (value_of own) kid) → KidGoes kid
  kid-goes kid path claim stands fits =
      let look = value_of own in
      let opened = out-WiredKid kid in
      let goes = part-goes opened.name opened.handle (below path opened.name) opened.below claim
      (subst (AllByRecursion (StandsAt own)) (kid-stands kid path) stands)
      (subst (FitsTree model) (sim-shown look kid) (kid-tree model (kid_under look kid) fits)) in
      subst (λ (sim : Sim). PartGoes sim (out-Kid (kid_under look kid)).name (flow_of_kid kid)) (sym (sim-shown look kid))
      (subst (λ (name : Name). PartGoes (part_under look opened.handle opened.below) name (flow_of_kid kid)) (sym (name-shown look kid))
      (subst (λ (own : KidFlow). PartGoes (part_under look opened.handle opened.below) opened.name own) (sym (flow_kid-opens kid)) goes))

  abbrev shown_kids : List WiredKid → List Kid
  shown_kids kids = map (kid_under (value_of own)) kids

  kids-go : (path : Path) (kids : List WiredKid) → AllByRecursion (OfKid Claim) kids → AllByRecursion (StandsAt own) (flat_map (λ (kid : WiredKid). kid_places kid path) kids) → AllByRecursion (FitsKid model) (shown_kids kids) → AllByRecursion KidGoes kids
  kids-go path [] claims stands fits = tt
  kids-go path (kid ∷ kids) claims stands fits =
      let others = flat_map (λ (kid : WiredKid). kid_places kid path) kids in (
        kid-goes kid path claims.0 (all-left (StandsAt own) (kid_places kid path) others stands) fits.0,
        kids-go path kids claims.1 (all-right (StandsAt own) (kid_places kid path) others stands) fits.1,
      )

  module _ (whole : Own) (entries : List Entry) (order : IsInOrder entries) where
    -- a component is one of these entries
    is-kid : (kid : Kid) → Among (entry_of kid) entries → (is_source : Bool) (stands : Own) → found_own (model_of (out-Kid kid).sim).0 ≡ Some stands → HasKid model entries (out-Kid kid).name is_source (ways model stands is_source)
    is-kid kid among is_source stands found = record { entry = entry_of kid; among = contains-from entries (entry_of kid) among; named = refl; own = stands; found = found; are = refl }

    abbrev sents : List WiredKid → List Sent
    sents kids = map (λ (kid : KidFlow). kid.sent) (map flow_of_kid kids)

    abbrev AreAmong : List WiredKid → Type 0
    AreAmong kids = AllByRecursion (λ kid. Among (entry_of (kid_under (value_of own) kid)) entries) kids

    -- the ways out of the component of a name
    sent-arrive : (kids : List WiredKid) → AllByRecursion KidGoes kids → AllByRecursion (FitsKid model) (shown_kids kids) → AreAmong kids → (name : Name) (ports : List Field) → HasKid model entries name true ports → Arrive model given ports (sent_by (sents kids) name)
    sent-arrive [] goes fits among name ports kid = λ port ty has. tt
    sent-arrive (kid ∷ kids) goes fits among name ports its = by (is_same_name (flow_of_kid kid).sent.name name) refl (sent-arrive kids goes.1 fits.1 among.1 name ports its)
      where
        by : (b : Bool) → is_same_name (flow_of_kid kid).sent.name name ≡ b → Arrive model given ports (sent_by (sents kids) name) → Arrive model given ports (cond b (flow_of_kid kid).sent.ways (sent_by (sents kids) name))
        by false is rest = rest
        by true is rest =
            let shown = kid_under (value_of own) kid in
            let its_own = stood model (out-Kid shown).sim (kid-tree model shown fits.0) in
            let same : (out-Kid shown).name ≡ name = sym goes.0.named ∙ name-exact (flow_of_kid kid).sent.name name is in
            subst (λ (fields : List Field). Arrive model given fields (flow_of_kid kid).sent.ways)
            (kid-ports model entries order (out-Kid shown).name name true (ways model its_own.stands true) ports same (is-kid shown among.0 true its_own.stands its_own.found) its)
            (goes.0.arrive its_own.stands its_own.found)

    module _ (links : List Link) (fits : AllByRecursion (FitsLink model whole entries) links) (sources : Sources) (arrive : AllArrive model given whole entries order sources) where
      kids-sites : (kids : List WiredKid) → AllByRecursion KidGoes kids → AreAmong kids → AllByRecursion SiteGoes (flat_map (λ (kid : KidFlow). kid.sites links sources) (map flow_of_kid kids))
      kids-sites [] goes among = tt
      kids-sites (kid ∷ kids) goes among =
          all-join SiteGoes ((flow_of_kid kid).sites links sources) (flat_map (λ (kid : KidFlow). kid.sites links sources) (map flow_of_kid kids))
          (goes.0.sites whole entries order links fits sources arrive (is-kid (kid_under (value_of own) kid) among.0)) (kids-sites kids goes.1 among.1)

    -- the ways that the links of a network lead on from
    all-arrive : (boss : Handle) (kids : List WiredKid) (come : Ways) → Arrive model given (ways model whole false) come → Cover (types_of model) (body_ways model whole true) (given boss) →
        AllByRecursion KidGoes kids → AllByRecursion (FitsKid model) (shown_kids kids) → AreAmong kids →
        (from : Part) (ports : List Field) → ArePortsOf model whole entries true from ports → Arrive model given ports (from_part (sources_of boss (map flow_of_kid kids) come) from)
    all-arrive boss kids come comes cover goes fits among part.Net ports are = subst (λ (fields : List Field). Arrive model given fields come) are comes
    all-arrive boss kids come comes cover goes fits among part.Boss ports are = begins model given boss ports (subst (λ (fields : List Field). Cover (types_of model) fields (given boss)) are cover)
    all-arrive boss kids come comes cover goes fits among (part.Kid name) ports are = sent-arrive kids goes fits among name ports are

  -- a network, by its executive, its components and its links
  module _ (net : Wiring) (path : Path) (number : ModelId) (args : List Value)
      (shape : FitsShape model (shape_of number args (leaf_in (value_of own (out-Wiring net).boss)) (shown_kids (out-Wiring net).kids) (out-Wiring net).links))
      (goes : AllByRecursion KidGoes (out-Wiring net).kids) (fits : AllByRecursion (FitsKid model) (shown_kids (out-Wiring net).kids))
      (stands : StandsAt own (place (out-Wiring net).boss (to_boss path) false)) where
    abbrev whole : Own
    whole = shape.links.own

    abbrev entries : List Entry
    entries = map entry_of (shown_kids (out-Wiring net).kids)

    among : AreAmong whole entries shape.links.order (out-Wiring net).kids
    among = all-from (λ (kid : WiredKid). Among (entry_of (kid_under (value_of own) kid)) entries) (out-Wiring net).kids (λ kid there. among-shown own kid (out-Wiring net).kids there)

    -- the executive is of the network's model
    boss-number : (leaf : Leaf) → value_of own (out-Wiring net).boss ≡ Some (variant.Leaf leaf) → found_own leaf.model.0 ≡ Some whole
    boss-number leaf held =
        ap (λ (number : ModelId). found_own number.0) (sym (ap (λ (spot : Option Spot). (leaf_in spot).model) held) ∙ shape.boss_is.model) ∙ shape.links.found

    boss-cover : Cover (types_of model) (body_ways model whole true) (given (out-Wiring net).boss)
    boss-cover =
        let held = leaf-held own (place (out-Wiring net).boss (to_boss path) false) stands refl in
        let body = sends (out-Wiring net).boss held.0 held.1 in
        subst (λ (one : Own). Cover (types_of model) (body_ways model one true) (given (out-Wiring net).boss))
        (same-own (found_own held.0.model.0) body.own whole body.found (boss-number held.0 held.1)) body.cover

    abbrev sources : Ways → Sources
    sources come = sources_of (out-Wiring net).boss (map flow_of_kid (out-Wiring net).kids) come

    arrive : (come : Ways) → Arrive model given (ways model whole false) come → AllArrive model given whole entries shape.links.order (sources come)
    arrive come comes = all-arrive whole entries shape.links.order (out-Wiring net).boss (out-Wiring net).kids come comes boss-cover goes fits among

    boss-goes : (come : Ways) → Arrive model given (ways model whole false) come → SiteGoes (record { part = (out-Wiring net).boss; end = part.Boss; links = (out-Wiring net).links; sources = sources come })
    boss-goes come comes =
        rows-fit model given whole entries shape.links.order (sources come) (arrive come comes) part.Boss (body_ways model whole false) refl (out-Wiring net).boss Goes
        (λ port ty way has arrives. record {
          from = arrives.from;
          to = ty;
          takes = arrives.takes;
          typed = arrives.typed;
          target = λ leaf held stands found.
              subst (λ (one : Own). HasPort (body_ways model one false) port ty) (same-own (found_own leaf.model.0) whole stands (boss-number leaf held) found) has;
        })
        0 (out-Wiring net).links shape.links.each

    nothing-comes : (ports : List Field) → Arrive model given ports nowhere
    nothing-comes ports = λ port ty has. tt

    out-goes : (handle : Handle) → ((leaf : Leaf) → value_of own handle ≡ Some (variant.Leaf leaf) → ⊥) → SiteGoes (record { part = handle; end = part.Net; links = (out-Wiring net).links; sources = sources nowhere })
    out-goes handle none =
        rows-fit model given whole entries shape.links.order (sources nowhere) (arrive nowhere (nothing-comes (ways model whole false))) part.Net (ways model whole true) refl handle Goes
        (λ port ty way has arrives. record {
          from = arrives.from;
          to = ty;
          takes = arrives.takes;
          typed = arrives.typed;
          target = λ leaf held stands found. absurd (none leaf held);
        })
        0 (out-Wiring net).links shape.links.each

    net-step-goes : (shown : Net) → (out-Net shown).model ≡ number → NetGoes shown (net_step (flow_opened net))
    net-step-goes shown is =
        let same : (its : Own) → found_own (out-Net shown).model.0 ≡ Some its → whole ≡ its = λ its found. same-own (found_own number.0) whole its shape.links.found (ap (λ (number : ModelId). found_own number.0) (sym is) ∙ found) in
        record {
          arrive = λ its found port ty has.
              coming-arrive model given whole entries shape.links.order (sources nowhere) (arrive nowhere (nothing-comes (ways model whole false))) part.Net (ways model its true)
              (ap (λ (one : Own). ways model one true) (same its found)) port ty has 0 (out-Wiring net).links shape.links.each;
          sites = λ its found come comes.
              let here = subst (λ (one : Own). Arrive model given (ways model one false) come) (sym (same its found)) comes in
              all-join SiteGoes (flat_map (λ (kid : KidFlow). kid.sites (out-Wiring net).links (sources come)) (map flow_of_kid (out-Wiring net).kids)) _
              (kids-sites whole entries shape.links.order (out-Wiring net).links shape.links.each (sources come) (arrive come here) (out-Wiring net).kids goes among)
              (boss-goes come here, tt);
          out = λ none. out-goes (out-Wiring net).me none;
        }

  net-goes : (net : Wiring) → AllByRecursion (OfKid Claim) (out-Wiring net).kids → Claim net
  net-goes net claims handle path stands fits =
      let look = value_of own in
      let shown = net_under look net handle in
      let kids = (out-Wiring net).kids in
      let last = place (out-Wiring net).boss (to_boss path) false in
      let made : Net-F Sim Kid Net = record { model = model_in (look handle); args = args_in (look handle); boss = leaf_in (look (out-Wiring net).boss); kids = shown_kids kids; links = (out-Wiring net).links } in
      let opens : out-Net shown ≡ made = ap out-Net (net-shows look net handle) ∙ out-roll-Net made in
      let shape = subst (λ (own : Net-F Sim Kid Net). FitsShape model (shape_of own.model own.args own.boss own.kids own.links)) opens (net-shape model shown fits) in
      let all = subst (λ (own : Net-F Sim Kid Net). AllByRecursion (FitsKid model) own.kids) opens (net-kids model shown fits) in
      let places = flat_map (λ (kid : WiredKid). kid_places kid path) kids in
      let stand = subst (AllByRecursion (StandsAt own)) (net-stands net path) stands in
      let goes = kids-go path kids claims (all-left (StandsAt own) places (last ∷ []) stand) all in
      subst (λ (own : NetFlow). NetGoes shown own) (sym (flow-opens net))
      (net-step-goes net path (model_in (look handle)) (args_in (look handle)) shape goes all (all-right (StandsAt own) places (last ∷ []) stand).0 shown (ap (λ (own : Net-F Sim Kid Net). own.model) opens))

  pub each-goes : (net : Wiring) → Claim net
  each-goes = each_wiring Claim net-goes
