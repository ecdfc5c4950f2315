-- Ports of one direction, by their names.
use Rattle.std.proofs.Common.{◌≡◌, ℕ, Bool, true, false, not, if◌then◌else◌, List, [], ◌∷◌, ◌++◌, Option, Some, None, is_some, Result, Ok, refl, sym, ◌∙◌, ap, slice_get}
use Rattle.std.specs.Option.{option_map_or}
use Rattle.std.specs.Str.{bytes_eq}
use Rattle.dsde_sim_tree.specs.given.names.Table.{named, is_among}
use Rattle.dsde_sim_tree.specs.given.syntax.id_Id.{Id}
use Rattle.dsde_values.specs.declared.types.Field.{Field}
use Rattle.dsde_values.specs.declared.types.Ty.TheVariants as ty
use Rattle.dsde_sim_tree.specs.given.language.known_Known.{Known}
use Rattle.dsde_sim_tree.specs.given.language.seen_EndSeen.{EndSeen}
use Rattle.dsde_sim_tree.specs.given.language.signatures_ModelSig.{ModelSig}
use Rattle.dsde_sim_tree.specs.given.language.signatures_Port.{Port}
use Rattle.dsde_sim_tree.specs.given.language.wrong_Wrong.{Wrong}
use Rattle.dsde_sim_tree.specs.given.language.wrong_WrongKind_TheVariants.{Unknown, BadLink}
use Rattle.dsde_sim_tree.specs.given.language.Steps.{wrong, unless}
use Rattle.dsde_sim_tree.specs.given.language.RuleTables.{field_name, port_name}
use Rattle.dsde_sim_tree.specs.given.language.RuleStructures.{port_at, end_at, ports_at}
use Rattle.dsde_sim_tree.specs.given.language.Names.{with_slot, with_slots}
use Rattle.dsde_sim_tree.specs.given.language.Typing.{slot_type}
use Rattle.dsde_sim_tree.specs.given.language.DeclaredStructures.{directed, model_ports}
use Rattle.dsde_sound_names.specs.given.sound_expressions.lemmas_Steps.{went, ok-is, unless-is}
use Rattle.dsde_sound_names.specs.given.sound_expressions.lemmas_Places.{same-name, pick, or_last, named-cons, named-snoc}
use Rattle.dsde_sound_names.specs.given.sound_expressions.lemmas_Fitting.{field_of}
use Rattle.dsde_sound_structures.proofs.Families.{among-found}

-- whether a port is of a direction
abbrev pub is_way : Bool → Port → Bool
is_way out port = if out then port.out else not port.out

directed-step : (out : Bool) (own : Port) (ports : List Port) (name : List ℕ) (port : Port) (b way : Bool) → bytes_eq own.name name ≡ b → is_way out own ≡ way
    → pick b own (named port_name ports name) ≡ Some port → is_way out port ≡ true
    → (named port_name ports name ≡ Some port → named field_name (directed out ports) name ≡ Some (field_of port.name port.ty))
    → named field_name (if way then field_of own.name own.ty ∷ directed out ports else directed out ports) name ≡ Some (field_of port.name port.ty)
directed-step out own ports name port true true is here h w next =
    let same : own ≡ port = cc h in
    named-cons field_name (field_of own.name own.ty) (directed out ports) name
    ∙ ap (λ (b : Bool). pick b (field_of own.name own.ty) (named field_name (directed out ports) name)) is
    ∙ ap (λ (p : Port). Some (field_of p.name p.ty)) same
directed-step out own ports name port true false is here h w next =
    let same : own ≡ port = cc h in
    let both : false ≡ true = sym here ∙ ap (λ (p : Port). is_way out p) same ∙ w in
    absurd (cc both)
directed-step out own ports name port false true is here h w next =
    named-cons field_name (field_of own.name own.ty) (directed out ports) name
    ∙ ap (λ (b : Bool). pick b (field_of own.name own.ty) (named field_name (directed out ports) name)) is
    ∙ next h
directed-step out own ports name port false false is here h w next = next h

-- A port that is found by its name is found by it among those of its direction.
pub directed-named : (out : Bool) (ports : List Port) (name : List ℕ) (port : Port) → named port_name ports name ≡ Some port → is_way out port ≡ true
    → named field_name (directed out ports) name ≡ Some (field_of port.name port.ty)
directed-named out [] name port h w = absurd (cc h)
directed-named out (own ∷ ports) name port h w =
    directed-step out own ports name port (bytes_eq own.name name) (is_way out own) refl refl (sym (named-cons port_name own ports name) ∙ h) w
    (λ found. directed-named out ports name port found w)

or-none : (o : Option Field) → or_last o None ≡ o
or-none None = refl
or-none (Some own) = refl

or-more : (o : Option Field) (b : Bool) (own : Field) (last : Option Field) → or_last (or_last o (pick b own None)) last ≡ or_last o (pick b own last)
or-more (Some first) b own last = refl
or-more None true own last = refl
or-more None false own last = refl

or-there : (o : Option Field) (b : Bool) (own : Field) → (b ≡ true → is_some o ≡ true) → or_last o (pick b own None) ≡ o
or-there (Some first) b own h = refl
or-there None true own h = let never : false ≡ true = h refl in absurd (cc never)
or-there None false own h = refl

-- what is found with one slot more
added-step : (slots : List Field) (own : Field) (name : List ℕ) (there : Bool) → is_among field_name slots own.name ≡ there
    → named field_name (if there then slots else (slots ++ own ∷ [])) name ≡ or_last (named field_name slots name) (pick (bytes_eq own.name name) own None)
added-step slots own name false is = named-snoc field_name slots own name
added-step slots own name true is =
    sym (or-there (named field_name slots name) (bytes_eq own.name name) own
    (λ same.
    sym (among-found field_name slots name)
    ∙ ap (λ (n : List ℕ). is_among field_name slots n) (sym (same-name own.name name same)) ∙ is))

-- what is found with more slots: the first of each name counts
pub slots-named : (slots : List Field) (fields : List Field) (name : List ℕ) → named field_name (with_slots slots fields) name ≡ or_last (named field_name slots name) (named field_name fields name)
slots-named slots [] name = sym (or-none (named field_name slots name))
slots-named slots (own ∷ fields) name =
    slots-named (with_slot slots own.name own.ty) fields name
    ∙ ap (λ (o : Option Field). or_last o (named field_name fields name)) (added-step slots own name (is_among field_name slots own.name) refl)
    ∙ or-more (named field_name slots name) (bytes_eq own.name name) own (named field_name fields name)
    ∙ ap (λ (o : Option Field). or_last (named field_name slots name) o) (sym (named-cons field_name own fields name))

-- A port that an end was found at: it has the direction that is wanted.
pub record PortSeen (ports : List Port) (name : List ℕ) (out : Bool) (height : ℕ) (is_net : Bool) (found : EndSeen) : Type 0 where
  pub port : Port
  pub is : named port_name ports name ≡ Some port
  pub way : is_way out port ≡ true
  pub seen : (let own : EndSeen = record { ty = port.ty; height = height; is_net = is_net } in own) ≡ found

way-is : (out other : Bool) → (if out then not other else other) ≡ false → (if out then other else not other) ≡ true
way-is true true h = refl
way-is true false h = absurd (cc h)
way-is false true h = absurd (cc h)
way-is false false h = refl

abbrev seen_by : Option Port → Id → Bool → ℕ → Bool → Result EndSeen Wrong
seen_by found name out height is_net = elim found [ None ↦ wrong Unknown name.at | Some port ↦ port_at name out port height is_net ]

port-seen-by : (ports : List Port) (name : Id) (out : Bool) (height : ℕ) (is_net : Bool) (found : EndSeen) (own : Option Port) → named port_name ports name.name ≡ own
    → seen_by own name out height is_net ≡ Ok found → PortSeen ports name.name out height is_net found
port-seen-by ports name out height is_net found None is h = absurd (cc h)
port-seen-by ports name out height is_net found (Some port) is h =
    let w1 = went (unless (if out then not port.out else port.out) BadLink name.at) _ found h in
    record {
      port = port;
      is = is;
      way = way-is out port.out (unless-is (if out then not port.out else port.out) BadLink name.at w1.value w1.first);
      seen = ok-is (let own : EndSeen = record { ty = port.ty; height = height; is_net = is_net } in own) found w1.next;
    }

pub port-seen : (ports : List Port) (name : Id) (out : Bool) (height : ℕ) (is_net : Bool) (found : EndSeen) → end_at ports name out height is_net ≡ Ok found → PortSeen ports name.name out height is_net found
port-seen ports name out height is_net found h = port-seen-by ports name out height is_net found (named port_name ports name.name) refl h

-- the ports of a model in a direction, by what is known of it
directed-sig : (out : Bool) (found : Option ModelSig) → option_map_or (λ (own : ModelSig). directed out own.ports) found [] ≡ directed out (option_map_or (λ (own : ModelSig). own.ports) found [])
directed-sig out None = refl
directed-sig out (Some own) = refl

pub model-named : (known : Known) (out : Bool) (model : ℕ) (name : List ℕ) (port : Port) → named port_name (ports_at known model) name ≡ Some port → is_way out port ≡ true
    → named field_name (model_ports known out model) name ≡ Some (field_of port.name port.ty)
model-named known out model name port h w =
    slots-named [] (option_map_or (λ (own : ModelSig). directed out own.ports) (slice_get known.models model) []) name
    ∙ ap (λ (l : List Field). named field_name l name) (directed-sig out (slice_get known.models model))
    ∙ directed-named out (ports_at known model) name port h w

-- the type of a name that has a slot
pub typed-slot : (slots : List Field) (name : List ℕ) (field : Field) → named field_name slots name ≡ Some field → slot_type slots name ≡ field.ty
typed-slot slots name field is = ap (λ (o : Option Field). option_map_or (λ (own : Field). own.ty) o ty.Int) is
