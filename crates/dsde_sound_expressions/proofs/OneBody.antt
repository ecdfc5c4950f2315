-- The body of a model in which nothing is wrong stands at its numbers.
use Rattle.std.proofs.Common.{◌≡◌, ℕ, ◌≤◌, Bool, true, false, ◌||◌, ◌&&◌, List, [], ◌∷◌, ◌++◌, map, Option, Ok, bytes_eq, Decides, not, refl, sym, ap, subst, ◌∙◌, arith, append_assoc, append-nil}
use Rattle.std.proofs.lemmas.Bool.{and_parts, and_from}
use Rattle.std.proofs.lemmas.Slice.Eq.{bytes_eq-Decides}
use Rattle.dsde_language.specs.given.words.Words.{is_reserved}
use Rattle.std.specs.List.{list_all}
use Rattle.std.proofs.lemmas.List.Folds.{list_any-append}
use Rattle.dsde_language.specs.given.syntax.decl_Body.{Body}
use Rattle.dsde_language.specs.given.syntax.decl_Model.{Model}
use Rattle.dsde_language.specs.given.syntax.decl_PortDecl.{PortDecl}
use Rattle.dsde_language.specs.given.syntax.decl_StateDecl.{StateDecl}
use Rattle.dsde_language.specs.given.syntax.decl_Typed.{Typed}
use Rattle.dsde_language.specs.given.syntax.item_Item.{Item}
use Rattle.dsde_language.specs.given.syntax.type_name_TypeName.{TypeName}
use Rattle.dsde_language.specs.given.names.Table.{is_among}
use Rattle.dsde_language.specs.given.values.types_Field.{Field}
use Rattle.dsde_language.specs.given.values.types_Ty_TheVariants as ty
use Rattle.dsde_language.specs.declared.known.Around.{Around}
use Rattle.dsde_language.specs.declared.known.Known.{Known}
use Rattle.dsde_language.specs.declared.seen.TypeSeen.{TypeSeen}
use Rattle.dsde_language.specs.declared.signatures.Port.{Port}
use Rattle.dsde_language.specs.RuleTables.{by_text, binding_name, field_name, port_name}
use Rattle.dsde_language.specs.Judge.{Scope, type_of}
use Rattle.dsde_language.specs.Blocks.{Passed, moving, inputs_seen, params_all, ports_all, body_of}
use Rattle.dsde_language.specs.RuleStructures.{structure_of}
use Rattle.dsde_language.specs.Rules.{around_with}
use Rattle.dsde_language.specs.declared.code.Code.{Code}
use Rattle.dsde_language.specs.declared.node_ids.BlockId.{BlockId}
use Rattle.dsde_language.specs.declared.node_ids.ExprId.{ExprId}
use Rattle.dsde_language.specs.declared.node.Node.{Node}
use Rattle.dsde_language.specs.DeclaredStructures.{directed}
use Rattle.dsde_language.specs.DeclaredModels.{whole_of, typed_fields, state_fields, port_fields, Own, param_slots, body_ins, body_outs}
use Rattle.dsde_language.specs.NodeModels.{resolved}
use Rattle.dsde_language.specs.Pieces.{Block, Next}
use Rattle.dsde_language.specs.Statements.{list_fields, input_fields, body_scope, resolve_states}
use Rattle.dsde_language.specs.Names.{with_slots, elapsed_name}
use Rattle.dsde_language.specs.Proper.{is_plain, are_plain, is_proper, is_proper_body, is_proper_phase}
use Rattle.dsde_language.specs.Scopes.{Sees, AreOuts}
use Rattle.dsde_sound_expressions.specs.Places.{KnownAt, IsExpr}
use Rattle.dsde_sound_expressions.specs.Bodies.{BodyStands, PhaseStands, InitsStand, body_slots, moved_slots}
use Rattle.dsde_sound_expressions.specs.lemmas.Places.{any-map}
use Rattle.dsde_sound_expressions.specs.lemmas.Seeing.{own_slot, among-slots}
use Rattle.dsde_sound_expressions.proofs.Slots.{NewFields, slots-are, none-passes, elapsed_field, sees-slots, sees-moved}
use Rattle.dsde_sound_expressions.proofs.PlaceParams.{NewPorts, ports_in, ParamsAre, params-are, PortsAre, ports-are, directed-is, directed-new, covered-none, covered-scope, MovedAre, moved-are, are-outs, are-none}
use Rattle.dsde_sound_expressions.proofs.BodyPieces.{BodyPut}
use Rattle.dsde_sound_expressions.proofs.BodyRules.{BodyJudged, body-judged}
use Rattle.dsde_sound_expressions.proofs.States.{StatesAre, states-are, phase-stands}

-- fields behind others
new-append : (one two before : List Field) → NewFields before one → NewFields (before ++ one) two → NewFields before (one ++ two)
new-append [] two before first second = subst (λ (l : List Field). NewFields l two) (append-nil before) second
new-append (field ∷ one) two before first second =
    (first.0, new-append one two (before ++ field ∷ []) first.1 (subst (λ (l : List Field). NewFields l two) (sym (append_assoc before (field ∷ []) one)) second))

-- A name that is no word of the language is not `elapsed`.
not-elapsed : (name : List ℕ) (same : Bool) → Decides same (name ≡ elapsed_name) → not (is_reserved name) ≡ true → not same ≡ true
not-elapsed name false tells free = refl
not-elapsed name true tells free =
    absurd (let word : not (is_reserved elapsed_name) ≡ false = refl in let e : true ≡ false = sym free ∙ ap (λ (n : List ℕ). not (is_reserved n)) (tells.0 refl) ∙ word in cc)

none-elapsed : {X : Type 0} (f : X → List ℕ) (xs : List X) → list_all (λ x. not (is_reserved (f x))) xs ≡ true → list_all (λ x. not (bytes_eq (f x) elapsed_name)) xs ≡ true
none-elapsed f [] all = refl
none-elapsed f (x ∷ xs) all =
    let both = and_parts (not (is_reserved (f x))) (list_all (λ x. not (is_reserved (f x))) xs) all in
    and_from (not (bytes_eq (f x) elapsed_name)) _ (not-elapsed (f x) (bytes_eq (f x) elapsed_name) (bytes_eq-Decides (f x) elapsed_name) both.0) (none-elapsed f xs both.1)

-- No name of these is `elapsed`.
typed-plain : (known : Known) (params : List Typed) → are_plain params ≡ true → is_among field_name (typed_fields known params) elapsed_name ≡ false
typed-plain known params plain = any-map _ _ params ∙ none-passes (λ (typed : Typed). bytes_eq typed.name.name elapsed_name) params (none-elapsed (λ (typed : Typed). typed.name.name) params plain)

states-plain : (known : Known) (states : List StateDecl) → list_all (λ (state : StateDecl). is_plain state.name && is_proper state.value) states ≡ true → is_among field_name (state_fields known states) elapsed_name ≡ false
states-plain known states plain = any-map _ _ states ∙ none-passes (λ (state : StateDecl). bytes_eq state.name.name elapsed_name) states (none-elapsed (λ (state : StateDecl). state.name.name) states (names-all states plain))
  where
    names-all : (states : List StateDecl) → list_all (λ (state : StateDecl). is_plain state.name && is_proper state.value) states ≡ true → list_all (λ (state : StateDecl). is_plain state.name) states ≡ true
    names-all [] all = refl
    names-all (state ∷ states) all =
        let both = and_parts (is_plain state.name && is_proper state.value) (list_all (λ (state : StateDecl). is_plain state.name && is_proper state.value) states) all in
        and_from (is_plain state.name) _ (and_parts (is_plain state.name) (is_proper state.value) both.0).0 (names-all states both.1)

ports-plain : (known : Known) (ports : List PortDecl) → list_all (λ (port : PortDecl). is_plain port.name) ports ≡ true → is_among port_name (ports_in known.words ports) elapsed_name ≡ false
ports-plain known ports plain = any-map _ _ ports ∙ none-passes (λ (port : PortDecl). bytes_eq port.name.name elapsed_name) ports (none-elapsed (λ (port : PortDecl). port.name.name) ports plain)

-- a body that the grammar grants, part by part
record ProperBody (body : Body) : Type 0 where
  ports : list_all (λ (port : PortDecl). is_plain port.name) body.ports ≡ true
  states : list_all (λ (state : StateDecl). is_plain state.name && is_proper state.value) body.states ≡ true
  advance : is_proper body.advance ≡ true
  output : is_proper_phase body.output ≡ true
  internal : is_proper_phase body.internal ≡ true
  external : is_proper_phase body.external ≡ true
  confluent : is_proper_phase body.confluent ≡ true

proper-body : (body : Body) → is_proper_body body ≡ true → ProperBody body
proper-body body proper =
    let six : Bool = is_proper_phase body.external && is_proper_phase body.confluent in
    let five : Bool = is_proper_phase body.internal && six in
    let four : Bool = is_proper_phase body.output && five in
    let three : Bool = is_proper body.advance && four in
    let two : Bool = list_all (λ (state : StateDecl). is_plain state.name && is_proper state.value) body.states && three in
    let a = and_parts (list_all (λ (port : PortDecl). is_plain port.name) body.ports) two proper in
    let b = and_parts (list_all (λ (state : StateDecl). is_plain state.name && is_proper state.value) body.states) three a.1 in
    let c = and_parts (is_proper body.advance) four b.1 in
    let d = and_parts (is_proper_phase body.output) five c.1 in
    let e = and_parts (is_proper_phase body.internal) six d.1 in
    let f = and_parts (is_proper_phase body.external) (is_proper_phase body.confluent) e.1 in
    record { ports = a.0; states = b.0; advance = c.0; output = d.0; internal = e.0; external = f.0; confluent = f.1 }

module _ (model : Model) where
  abbrev whole : Known
  whole = whole_of model

  abbrev nodes : List Node
  nodes = (resolved model).nodes

  abbrev blocks : List Block
  blocks = (resolved model).blocks

  -- what the rules say of the parameters, the ports and the body of a model
  pub record OwnJudged (known : Known) (own : Own) : Type 0 where
    pub at : KnownAt model known
    pub typed : (own : TypeName) (seen : TypeSeen) → type_of known own ≡ Ok seen → by_text whole.words own ≡ seen.ty
    pub reserved : List (List ℕ)
    pub params : Scope
    pub params_is : params_all known [] own.params ≡ Ok params
    pub ports : List Port
    pub ports_is : ports_all known params [] own.body.ports ≡ Ok ports
    pub passed : Passed
    pub place : ℕ
    pub body_is : body_of (around_with known reserved) place ports own.body params ≡ Ok passed
    pub low : passed.height ≤ 512
    pub plain : are_plain own.params ≡ true
    pub proper : is_proper_body own.body ≡ true

  -- what they say of a network's own ports and of its structure, beside its executive
  pub record StructureJudged (known : Known) (own : Own) (items : List Item) : Type 0 where
    pub body : OwnJudged known own
    pub ports : List Port
    pub ports_is : ports_all known body.params [] own.ports ≡ Ok ports
    pub height : ℕ
    pub structure_is : structure_of (around_with known body.reserved) ports body.ports items body.passed.scope ≡ Ok height
    pub height_low : height ≤ 512

  module _ (known : Known) (own : Own) (judged : OwnJudged known own) where
    abbrev slots0 : List Field
    slots0 = with_slots [] (typed_fields whole own.params)

    abbrev slots1 : List Field
    slots1 = body_scope whole own.params own.body

    abbrev slots2 : List Field
    slots2 = with_slots slots1 (input_fields (port_fields whole false own.body.ports))

    abbrev outs : List Field
    outs = with_slots [] (port_fields whole true own.body.ports)

    abbrev around : Around
    around = around_with known judged.reserved

    params : ParamsAre known whole judged.typed [] judged.params own.params
    params = params-are known whole judged.typed own.params [] judged.params judged.params_is

    ports : PortsAre known whole judged.typed judged.params [] judged.ports own.body.ports
    ports = ports-are known whole judged.typed own.body.ports judged.params [] judged.ports judged.ports_is

    parts : BodyJudged around judged.place judged.ports own.body judged.params judged.passed
    parts = body-judged around judged.place judged.ports own.body judged.params judged.passed judged.body_is

    slots0-are : slots0 ≡ param_slots model own
    slots0-are = slots-are (typed_fields whole own.params) [] params.new

    pub directed-are : (out : Bool) → directed out judged.ports ≡ port_fields whole out own.body.ports
    directed-are out = ap (directed out) ports.is ∙ directed-is whole out own.body.ports

    ports-new : NewPorts judged.params [] judged.ports
    ports-new = subst (λ (l : List Port). NewPorts judged.params [] l) (sym ports.is) ports.new

    outs-are : outs ≡ body_outs model own
    outs-are = slots-are (port_fields whole true own.body.ports) []
        (subst (λ (l : List Field). NewFields [] l) (directed-are true) (directed-new true judged.ports [] judged.params [] (covered-none judged.params) ports-new))

    sends : AreOuts judged.ports outs
    sends = subst (λ (l : List Field). AreOuts judged.ports l) (directed-are true ∙ sym outs-are) (are-outs judged.ports)

    module _ (code : Code) (next : Next) (put : BodyPut nodes blocks whole own.params own.start_at own.body next code) where
      proper : ProperBody own.body
      proper = proper-body own.body judged.proper

      states : StatesAre model known judged.at judged.typed judged.reserved judged.ports own.body.states slots0 parts.states (resolve_states whole own.body.states slots0 next).own
      states = states-are model known judged.at judged.typed judged.reserved judged.ports own.body.states 0 judged.params slots0 next parts.states
          (params.is ∙ sym slots0-are) parts.states_are (let low = parts.states_low in let all = judged.low in omega (arith, low, all)) proper.states ports-new put.states

      slots1-from : slots1 ≡ slots0 ++ state_fields whole own.body.states
      slots1-from = slots-are (state_fields whole own.body.states) slots0 states.new

      pub slots1-are : slots1 ≡ body_slots model own
      slots1-are = slots1-from ∙ ap (λ (l : List Field). l ++ state_fields whole own.body.states) slots0-are

      seen : map own_slot parts.states.scope ≡ slots1
      seen = states.is ∙ sym slots1-from

      sees : Sees false parts.states.scope slots1
      sees = sees-slots parts.states.scope slots1 seen

      moved : MovedAre parts.states.scope [] slots1 parts.states.scope judged.ports
      moved = moved-are judged.ports [] parts.states.scope slots1 parts.states.scope seen (covered-scope parts.states.scope slots1 seen) states.ports_new

      -- the names that a structure sees
      pub structure-sees : Sees false judged.passed.scope (body_slots model own)
      structure-sees =
          subst (λ (s : Scope). Sees false s (body_slots model own)) parts.last
          (subst (λ (l : List Field). Sees false parts.states.scope l) slots1-are sees)

      -- No name that is seen is `elapsed`.
      scope-plain : is_among binding_name parts.states.scope elapsed_name ≡ false
      scope-plain =
          sym (among-slots parts.states.scope elapsed_name)
          ∙ ap (λ (l : List Field). is_among field_name l elapsed_name) (seen ∙ slots1-are)
          ∙ list_any-append (λ field. bytes_eq (field_name field) elapsed_name) (typed_fields whole own.params) (state_fields whole own.body.states)
          ∙ ap (λ (b : Bool). b || is_among field_name (state_fields whole own.body.states) elapsed_name) (typed-plain whole own.params judged.plain)
          ∙ states-plain whole own.body.states proper.states

      fields-plain : is_among field_name (slots1 ++ list_fields (directed false judged.ports)) elapsed_name ≡ false
      fields-plain = moved.covered.cover elapsed_name scope-plain (ap (λ (l : List Port). is_among port_name l elapsed_name) ports.is ∙ ports-plain whole own.body.ports proper.ports)

      input-names : (slots1 ++ list_fields (directed false judged.ports)) ++ elapsed_field ∷ [] ≡ slots1 ++ input_fields (port_fields whole false own.body.ports)
      input-names =
          append_assoc slots1 (list_fields (directed false judged.ports)) (elapsed_field ∷ [])
          ∙ ap (λ (l : List Field). slots1 ++ input_fields l) (directed-are false)

      slots2-from : slots2 ≡ slots1 ++ input_fields (port_fields whole false own.body.ports)
      slots2-from = slots-are (input_fields (port_fields whole false own.body.ports)) slots1
          (subst (λ (l : List Field). NewFields slots1 (input_fields l)) (directed-are false)
          (new-append (list_fields (directed false judged.ports)) (elapsed_field ∷ []) slots1 moved.new (fields-plain, tt)))

      slots2-are : slots2 ≡ moved_slots model own
      slots2-are = slots2-from ∙ ap (λ (l : List Field). l ++ input_fields (body_ins model own)) slots1-are

      sees-inputs : Sees true (inputs_seen parts.states.scope judged.ports) slots2
      sees-inputs = subst (λ (l : List Field). Sees true (inputs_seen parts.states.scope judged.ports) l) (input-names ∙ sym slots2-from)
          (sees-moved (inputs_seen parts.states.scope judged.ports) (slots1 ++ list_fields (directed false judged.ports)) moved.is fields-plain)

      low : (height : ℕ) → height ≤ judged.passed.height → height ≤ 512
      low height within = let all = judged.low in omega (arith, within, all)

      pub body-stands : BodyStands model own code
      body-stands = record {
        inits =
            subst (λ (l : List ExprId). InitsStand model (param_slots model own) own.body.states l) (sym put.inits)
            (subst (λ (l : List Field). InitsStand model l own.body.states (resolve_states whole own.body.states slots0 next).own) slots0-are states.inits);
        advance = subst (λ (l : List Field). IsExpr model false l code.advance.0 own.body.advance (ty.Opt ty.Int)) slots1-are (record {
          around = around;
          scope = parts.states.scope;
          found = parts.advance;
          known = judged.at;
          is_total = refl;
          proper = proper.advance;
          judged = parts.advance_is;
          of = parts.advance_of;
          low = low parts.advance.height parts.advance_low;
          sees = sees;
          stands = put.advance;
        });
        output =
            subst (λ (l : List Field). PhaseStands model l (body_outs model own) code.output own.body.output) slots1-are
            (subst (λ (l : List Field). PhaseStands model slots1 l code.output own.body.output) outs-are
            (subst (λ (o : Option BlockId). PhaseStands model slots1 outs o own.body.output) (sym (put.output ∙ put.phases.output.is))
            (phase-stands model around judged.at judged.ports outs slots1 parts.states.scope sends sees own.body.output parts.output parts.output_is (low parts.output parts.output_low) proper.output
            put.phases.output.names put.phases.output.next put.phases.output.put)));
        internal =
            subst (λ (l : List Field). PhaseStands model l [] code.internal own.body.internal) slots1-are
            (subst (λ (o : Option BlockId). PhaseStands model slots1 [] o own.body.internal) (sym (put.internal ∙ put.phases.internal.is))
            (phase-stands model (moving around false) judged.at [] [] slots1 parts.states.scope are-none sees own.body.internal parts.internal parts.internal_is (low parts.internal parts.internal_low) proper.internal
            put.phases.internal.names put.phases.internal.next put.phases.internal.put));
        external =
            subst (λ (l : List Field). PhaseStands model l [] code.external own.body.external) slots2-are
            (subst (λ (o : Option BlockId). PhaseStands model slots2 [] o own.body.external) (sym (put.external ∙ put.phases.external.is))
            (phase-stands model (moving around true) judged.at [] [] slots2 (inputs_seen parts.states.scope judged.ports) are-none sees-inputs own.body.external parts.external parts.external_is (low parts.external parts.external_low) proper.external
            put.phases.external.names put.phases.external.next put.phases.external.put));
        confluent =
            subst (λ (l : List Field). PhaseStands model l [] code.confluent own.body.confluent) slots2-are
            (subst (λ (o : Option BlockId). PhaseStands model slots2 [] o own.body.confluent) (sym (put.confluent ∙ put.phases.confluent.is))
            (phase-stands model (moving around true) judged.at [] [] slots2 (inputs_seen parts.states.scope judged.ports) are-none sees-inputs own.body.confluent parts.confluent parts.confluent_is (low parts.confluent parts.confluent_low) proper.confluent
            put.phases.confluent.names put.phases.confluent.next put.phases.confluent.put));
        start_at = put.start_at;
        advance_at = put.advance_at;
        external_at = put.external_at;
        confluent_at = put.confluent_at;
      }
