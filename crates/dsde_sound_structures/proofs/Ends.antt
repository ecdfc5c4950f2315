-- An end of a link is in tables at the port that it is at over names.
use Rattle.std.proofs.Common.{◌≡◌, ℕ, ◌≤◌, Bool, true, false, not, List, [], ◌++◌, Option, Some, None, Result, Ok, refl, sym, ◌∙◌, ap, subst, slice_get}
use Rattle.std.specs.Option.{option_map_or}
use Rattle.dsde_sim_tree.specs.given.names.Table.{named}
use Rattle.dsde_sim_tree.specs.given.syntax.decl_Model.{Model}
use Rattle.dsde_sim_tree.specs.given.syntax.id_Id.{Id}
use Rattle.dsde_sim_tree.specs.given.syntax.item_Bracket.{Bracket}
use Rattle.dsde_sim_tree.specs.given.syntax.item_End as written
use Rattle.dsde_sim_tree.specs.given.syntax.item_EndPart.{EndPart}
use Rattle.dsde_sim_tree.specs.given.syntax.item_EndPart_TheVariants as end_part
use Rattle.dsde_values.specs.declared.types.Field.{Field}
use Rattle.dsde_values.specs.declared.types.Ty.{Ty}
use Rattle.dsde_sim_tree.specs.given.language.known_Known.{Known}
use Rattle.dsde_sim_tree.specs.given.language.known_Site.{Site}
use Rattle.dsde_sim_tree.specs.given.language.seen_EndSeen.{EndSeen}
use Rattle.dsde_sim_tree.specs.given.language.signatures_Family.{Family}
use Rattle.dsde_sim_tree.specs.given.language.signatures_ModelSig.{ModelSig}
use Rattle.dsde_sim_tree.specs.given.language.signatures_Port.{Port}
use Rattle.dsde_sim_tree.specs.given.language.wrong_Wrong.{Wrong}
use Rattle.dsde_sim_tree.specs.given.language.wrong_WrongKind_TheVariants.{Unknown}
use Rattle.dsde_sim_tree.specs.given.language.Steps.{wrong}
use Rattle.dsde_sim_tree.specs.given.language.RuleTables.{field_name, family_name, port_name}
use Rattle.dsde_sim_tree.specs.given.language.Judge as rules
use Rattle.dsde_sim_tree.specs.given.language.RuleStructures as rule_structures
use Rattle.dsde_sim_tree.specs.given.language.RuleStructures.{family_named, kid_end, ports_at}
use Rattle.dsde_sim_tree.specs.given.language.DeclaredStructures.{Place, directed, end_ports, model_ports}
use Rattle.dsde_sim_tree.specs.given.language.Items.{resolve_index, resolve_part, resolve_end}
use Rattle.dsde_sim_tree.specs.given.language.DeclaredModels.{whole_of, Own}
use Rattle.dsde_sim_tree.specs.given.language.Pieces.{Next}
use Rattle.dsde_sim_tree.specs.given.language.Names.{slot_of}
use Rattle.dsde_sim_tree.specs.given.language.Typing.{slot_type}
use Rattle.dsde_sim_tree.specs.given.structure.plan_End.{End}
use Rattle.dsde_sim_tree.specs.given.structure.plan_Part.{Part}
use Rattle.dsde_sim_tree.specs.given.structure.plan_Part_TheVariants as part
use Rattle.dsde_sim_tree.specs.given.language.Meaning.{Vars}
use Rattle.dsde_sim_tree.specs.given.language.Typed.{Fits, values_in}
use Rattle.dsde_sim_tree.specs.given.language.Scopes.{Stands, Sees}
use Rattle.dsde_sound_names.specs.given.sound_expressions.Items.{is_proper_end}
use Rattle.dsde_sound_names.specs.given.sound_expressions.Structures.{ArePorts}
use Rattle.dsde_sound_names.specs.given.executive_plans.Layout.{index_of, part_of, end_of}
use Rattle.dsde_sound_names.specs.given.executive_plans.Drafts.{index_at, part_at, end_at}
use Rattle.dsde_system.specs.Plans.{ways, body_ways, HasPort}
use Rattle.dsde_sound_names.specs.given.sound_expressions.lemmas_Steps.{went}
use Rattle.dsde_sound_names.specs.given.sound_expressions.lemmas_Standing.{stands-left}
use Rattle.dsde_sound_names.specs.given.sound_expressions.lemmas_Fitting.{field_of}
use Rattle.dsde_sound_structures.proofs.Gets.{Gets, gets-ok, gets-then}
use Rattle.dsde_sound_structures.proofs.StructurePorts.{PortSeen, port-seen, directed-named, model-named, typed-slot}
use Rattle.dsde_sound_structures.proofs.ByFamily.{NetIs, PortsBy, EndBy, port-has}
use Rattle.dsde_sound_structures.proofs.StructureGround.{Ground, part_in}
use Rattle.dsde_sound_structures.proofs.Values.{index-gets, index-scope, index-vias}

-- what an end leaves: the scope, and no translation
pub part-scope : (known : Known) (own : EndPart) (slots : List Field) (next : Next) → (resolve_part known own slots next).scope ≡ slots
part-scope known end_part.Net slots next = refl
part-scope known end_part.Exec slots next = refl
part-scope known (end_part.Kid name index) slots next = index-scope known index slots next

pub part-vias : (known : Known) (own : EndPart) (slots : List Field) (next : Next) → (resolve_part known own slots next).vias ≡ []
part-vias known end_part.Net slots next = refl
part-vias known end_part.Exec slots next = refl
part-vias known (end_part.Kid name index) slots next = ap (λ (l : List _). l ++ []) (index-vias known index slots next)

-- How the ports of a place are those of its network, and its components those that were entered.
pub record PlaceIs (model : Model) (own : Own) (site : Site) (place : Place) : Type 0 where
  pub known : place.known ≡ whole_of model
  pub models : site.around.known.models ≡ place.known.models
  pub families : place.families ≡ site.families
  pub ins : place.ins ≡ ways model own false
  pub outs : place.outs ≡ ways model own true
  pub boss_ins : place.boss_ins ≡ body_ways model own false
  pub boss_outs : place.boss_outs ≡ body_ways model own true
  pub ports : ArePorts site.ports (ways model own false) (ways model own true)
  pub execs : ArePorts site.execs (body_ways model own false) (body_ways model own true)

module _ (m : Model) (own : Own) (g : Ground) (is : PlaceIs m own g.site g.place) where
  abbrev whole : Known
  whole = g.place.known

  -- an end of a link by what is seen of it
  pub record EndIs (is_source : Bool) (found : EndSeen) (end : End) : Type 0 where
    pub by : EndBy m own g.site.families is_source end found.ty
    pub net : NetIs found.is_net end.part

  -- a port of a name among those of an end
  pub record AtPort (is_source : Bool) (of : EndPart) (name : List ℕ) (ty : Ty) : Type 0 where
    pub has : HasPort (end_ports g.place is_source of) (slot_of (end_ports g.place is_source of) name) ty
    pub typed : slot_type (end_ports g.place is_source of) name ≡ ty

  at-port : (is_source : Bool) (of : EndPart) (name : List ℕ) (field : Field) → named field_name (end_ports g.place is_source of) name ≡ Some field → AtPort is_source of name field.ty
  at-port is_source of name field h = record {
    has = port-has (end_ports g.place is_source of) name field h;
    typed = typed-slot (end_ports g.place is_source of) name field h;
  }

  -- the ports of the network, and of its executive, that an end may be at
  net-ports : (is_source : Bool) → end_ports g.place is_source end_part.Net ≡ ways m own (not is_source)
  net-ports true = is.ins
  net-ports false = is.outs

  boss-ports : (is_source : Bool) → end_ports g.place is_source end_part.Exec ≡ body_ways m own is_source
  boss-ports true = is.boss_outs
  boss-ports false = is.boss_ins

  net-directed : (out : Bool) → directed out g.site.ports ≡ ways m own out
  net-directed false = is.ports.ins
  net-directed true = is.ports.outs

  boss-directed : (out : Bool) → directed out g.site.execs ≡ body_ways m own out
  boss-directed false = is.execs.ins
  boss-directed true = is.execs.outs

  net-named : (is_source : Bool) (name : List ℕ) (field : Field) → named field_name (directed (not is_source) g.site.ports) name ≡ Some field → named field_name (end_ports g.place is_source end_part.Net) name ≡ Some field
  net-named is_source name field h = ap (λ (l : List Field). named field_name l name) (net-ports is_source ∙ sym (net-directed (not is_source))) ∙ h

  boss-named : (is_source : Bool) (name : List ℕ) (field : Field) → named field_name (directed is_source g.site.execs) name ≡ Some field → named field_name (end_ports g.place is_source end_part.Exec) name ≡ Some field
  boss-named is_source name field h = ap (λ (l : List Field). named field_name l name) (boss-ports is_source ∙ sym (boss-directed is_source)) ∙ h

  -- the ports of a component by its family
  kid-ports : (is_source : Bool) (name : Id) (index : Option Bracket) (family : Family) → family_named g.site.families name.name ≡ Some family
      → end_ports g.place is_source (end_part.Kid name index) ≡ model_ports whole is_source family.model
  kid-ports is_source name index family h =
      ap (λ (o : Option Family). option_map_or (λ (own : Family). model_ports whole is_source own.model) o [])
      (ap (λ (l : List Family). named family_name l name.name) is.families ∙ h)

  ports-same : (model : ℕ) → ports_at g.site.around.known model ≡ ports_at whole model
  ports-same model = ap (λ (l : List ModelSig). option_map_or (λ (sig : ModelSig). sig.ports) (slice_get l model) []) is.models

  kid-named : (is_source : Bool) (name : Id) (index : Option Bracket) (family : Family) → family_named g.site.families name.name ≡ Some family
      → (port : Id) (height : ℕ) (is_net : Bool) (found : EndSeen) (seen : PortSeen (ports_at g.site.around.known family.model) port.name is_source height is_net found)
      → named field_name (end_ports g.place is_source (end_part.Kid name index)) port.name ≡ Some (field_of seen.port.name seen.port.ty)
  kid-named is_source name index family h port height is_net found seen =
      ap (λ (l : List Field). named field_name l port.name) (kid-ports is_source name index family h)
      ∙ model-named whole is_source family.model port.name seen.port (ap (λ (l : List Port). named port_name l port.name) (sym (ports-same family.model)) ∙ seen.is) seen.way

  abbrev kid_by : Bool → Id → Option Bracket → Id → rules.Scope → Option Family → Result EndSeen Wrong
  kid_by is_source name index port scope found = elim found [
    | None ↦ wrong Unknown name.at
    | Some family ↦ kid_end g.site is_source index family.model port scope
  ]

  -- a component whose family is known
  record KidSeen (is_source : Bool) (name : Id) (index : Option Bracket) (port : Id) (scope : rules.Scope) (found : EndSeen) : Type 0 where
    family : Family
    has : family_named g.site.families name.name ≡ Some family
    indexed : rule_structures.index_of g.site.around index scope ≡ Ok found.height
    at : AtPort is_source (end_part.Kid name index) port.name found.ty
    net : found.is_net ≡ false

  kid-seen-by : (is_source : Bool) (name : Id) (index : Option Bracket) (port : Id) (scope : rules.Scope) (found : EndSeen) (family : Option Family) → family_named g.site.families name.name ≡ family
      → kid_by is_source name index port scope family ≡ Ok found → KidSeen is_source name index port scope found
  kid-seen-by is_source name index port scope found None has h = absurd (cc h)
  kid-seen-by is_source name index port scope found (Some family) has h =
      let w1 = went (rule_structures.index_of g.site.around index scope) _ found h in
      let seen = port-seen (ports_at g.site.around.known family.model) port is_source w1.value false found w1.next in
      record {
        family = family;
        has = has;
        indexed = w1.first ∙ ap (λ (own : EndSeen). let height : Result ℕ Wrong = Ok own.height in height) seen.seen;
        at = subst (λ (own : EndSeen). AtPort is_source (end_part.Kid name index) port.name own.ty) seen.seen
            (at-port is_source (end_part.Kid name index) port.name (field_of seen.port.name seen.port.ty) (kid-named is_source name index family has port w1.value false found seen));
        net = ap (λ (own : EndSeen). own.is_net) (sym seen.seen);
      }

  kid-seen : (is_source : Bool) (name : Id) (index : Option Bracket) (port : Id) (scope : rules.Scope) (found : EndSeen)
      → rule_structures.end_of g.site is_source (end_part.Kid name index) port scope ≡ Ok found → KidSeen is_source name index port scope found
  kid-seen is_source name index port scope found h = kid-seen-by is_source name index port scope found (family_named g.site.families name.name) refl h

  pub end-at : (is_source : Bool) (of : EndPart) (port : Id) (scope : rules.Scope) (found : EndSeen) → rule_structures.end_of g.site is_source of port scope ≡ Ok found → AtPort is_source of port.name found.ty
  end-at is_source end_part.Net port scope found h =
      let seen = port-seen g.site.ports port (not is_source) 0 true found h in
      subst (λ (own : EndSeen). AtPort is_source end_part.Net port.name own.ty) seen.seen
      (at-port is_source end_part.Net port.name (field_of seen.port.name seen.port.ty) (net-named is_source port.name (field_of seen.port.name seen.port.ty) (directed-named (not is_source) g.site.ports port.name seen.port seen.is seen.way)))
  end-at is_source end_part.Exec port scope found h =
      let seen = port-seen g.site.execs port is_source 0 false found h in
      subst (λ (own : EndSeen). AtPort is_source end_part.Exec port.name own.ty) seen.seen
      (at-port is_source end_part.Exec port.name (field_of seen.port.name seen.port.ty) (boss-named is_source port.name (field_of seen.port.name seen.port.ty) (directed-named is_source g.site.execs port.name seen.port seen.is seen.way)))
  end-at is_source (end_part.Kid name index) port scope found h = (kid-seen is_source name index port scope found h).at

  module _ (scope : rules.Scope) (slots : List Field) (sees : Sees g.site.around.has_elapsed scope slots) (vars : Vars) (fits : Fits g.types vars slots) where
    -- whose port an end is
    abbrev OfPart : Bool → EndPart → EndSeen → Part → Type 0
    OfPart is_source of found own_part = PortsBy m own g.site.families is_source own_part (end_ports g.place is_source of) × NetIs found.is_net own_part

    part-gets : (is_source : Bool) (of : EndPart) (port : Id) → is_proper_end (record { part = of; port = port }) ≡ true → (found : EndSeen) (next : Next)
        → rule_structures.end_of g.site is_source of port scope ≡ Ok found
        → Stands g.coded.nodes next.node (resolve_part whole of slots next).nodes → found.height ≤ 512
        → Gets (OfPart is_source of found) (part_of whole g.functions of vars) (part_at (part_in g) (resolve_part whole of slots next).own (values_in vars))
    part-gets is_source end_part.Net port proper found next h stands low =
        let seen = port-seen g.site.ports port (not is_source) 0 true found h in
        gets-ok (OfPart is_source end_part.Net found) part.Net (sym (net-ports is_source), subst (λ (own : EndSeen). NetIs own.is_net part.Net) seen.seen tt)
    part-gets is_source end_part.Exec port proper found next h stands low =
        let seen = port-seen g.site.execs port is_source 0 false found h in
        gets-ok (OfPart is_source end_part.Exec found) part.Boss (sym (boss-ports is_source), subst (λ (own : EndSeen). NetIs own.is_net part.Boss) seen.seen tt)
    part-gets is_source (end_part.Kid name index) port proper found next h stands low =
        let seen = kid-seen is_source name index port scope found h in
        gets-then (λ (own : Option ℕ). Unit {0}) (OfPart is_source (end_part.Kid name index) found) (index_of whole g.functions index vars) (index_at (part_in g) (resolve_index whole index slots next).own (values_in vars)) _ _
        (index-gets g scope slots sees vars fits index proper found.height next seen.indexed (stands-left g.coded.nodes next.node (resolve_index whole index slots next).nodes [] stands) low)
        (λ number _.
        gets-ok (OfPart is_source (end_part.Kid name index) found) (part.Kid (record { stem = name.name; index = number })) (
          record {
            family = seen.family;
            found = seen.has;
            are = ap (λ (known : Known). model_ports known is_source seen.family.model) (sym is.known) ∙ sym (kid-ports is_source name index seen.family seen.has);
          },
          subst (λ (b : Bool). NetIs b (part.Kid (record { stem = name.name; index = number }))) (sym seen.net) tt,
        ))

    pub end-gets : (is_source : Bool) (end : written.End) → is_proper_end end ≡ true → (found : EndSeen) (next : Next)
        → rule_structures.end_of g.site is_source end.part end.port scope ≡ Ok found
        → Stands g.coded.nodes next.node (resolve_end g.place is_source end slots next).nodes → found.height ≤ 512
        → Gets (EndIs is_source found) (end_of g.place g.functions is_source end vars) (end_at (part_in g) (resolve_end g.place is_source end slots next).own (values_in vars))
    end-gets is_source end proper found next h stands low =
        let at = end-at is_source end.part end.port scope found h in
        gets-then (OfPart is_source end.part found) (EndIs is_source found) (part_of whole g.functions end.part vars) (part_at (part_in g) (resolve_part whole end.part slots next).own (values_in vars)) _ _
        (part-gets is_source end.part end.port proper found next h (stands-left g.coded.nodes next.node (resolve_part whole end.part slots next).nodes [] stands) low)
        (λ whose of.
        gets-ok (EndIs is_source found) (record { part = whose; port = slot_of (end_ports g.place is_source end.part) end.port.name })
        (record { by = record { ports = end_ports g.place is_source end.part; are = of.0; has = at.has }; net = of.1 }))
