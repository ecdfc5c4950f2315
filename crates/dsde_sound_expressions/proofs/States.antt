-- State variables and phases stand at their numbers.
use Rattle.std.proofs.Common.{◌≡◌, ℕ, ◌+◌, ◌≤◌, max, Bool, true, false, ◌||◌, ◌&&◌, List, [], ◌∷◌, ◌++◌, map, Option, Some, None, Result, Ok, bytes_eq, refl, sym, ap, subst, ◌∙◌, arith, append_assoc, append-nil}
use Rattle.std.proofs.lemmas.List.{map-append}
use Rattle.std.proofs.lemmas.Bool.{and_parts}
use Rattle.std.specs.List.{list_all}
use Rattle.std.proofs.lemmas.List.Folds.{list_any-append}
use Rattle.dsde_language.specs.given.syntax.decl_Model.{Model}
use Rattle.dsde_language.specs.given.syntax.decl_Phase.{Phase}
use Rattle.dsde_language.specs.given.syntax.decl_StateDecl.{StateDecl}
use Rattle.dsde_language.specs.given.syntax.type_name_TypeName.{TypeName}
use Rattle.dsde_language.specs.given.names.Table.{is_among}
use Rattle.dsde_language.specs.given.values.types_Field.{Field}
use Rattle.dsde_language.specs.given.values.types_Ty.{Ty}
use Rattle.dsde_language.specs.declared.known.Around.{Around}
use Rattle.dsde_language.specs.declared.known.Known.{Known}
use Rattle.dsde_language.specs.declared.seen.Binding.{Binding}
use Rattle.dsde_language.specs.declared.seen.BindingKind.TheVariants as kind
use Rattle.dsde_language.specs.declared.seen.Seen.{Seen}
use Rattle.dsde_language.specs.declared.seen.TypeSeen.{TypeSeen}
use Rattle.dsde_language.specs.declared.signatures.Port.{Port}
use Rattle.dsde_language.specs.declared.wrong.Wrong.{Wrong}
use Rattle.dsde_language.specs.declared.wrong.WrongKind.TheVariants.{Duplicate}
use Rattle.dsde_language.specs.Steps.{◌>>=◌, unless}
use Rattle.dsde_language.specs.RuleTables.{by_text, binding_name, field_name, port_name}
use Rattle.dsde_language.specs.Types.{wanted}
use Rattle.dsde_language.specs.Judge.{Scope, judge, unbound, type_of}
use Rattle.dsde_language.specs.Blocks.{Passed, walk, walk_all, new_state, state_of, phase_of}
use Rattle.dsde_language.specs.Rules.{around_with}
use Rattle.dsde_language.specs.declared.node_ids.ExprId.{ExprId}
use Rattle.dsde_language.specs.declared.node.Node.{Node}
use Rattle.dsde_language.specs.Expressions.{resolve, expr_id}
use Rattle.dsde_language.specs.DeclaredModels.{whole_of, state_fields}
use Rattle.dsde_language.specs.NodeModels.{resolved}
use Rattle.dsde_language.specs.Pieces as piece
use Rattle.dsde_language.specs.Pieces.{Block, Next, Step}
use Rattle.dsde_language.specs.Statements.{resolve_states, resolve_stmts, resolve_phase}
use Rattle.dsde_language.specs.Names.{with_slot}
use Rattle.dsde_language.specs.Proper.{is_plain, is_proper, is_proper_phase}
use Rattle.dsde_language.specs.Scopes.{Sees, AreOuts}
use Rattle.dsde_sound_expressions.specs.Places.{KnownAt}
use Rattle.dsde_sound_expressions.specs.Bodies.{InitsStand, PhaseStands}
use Rattle.dsde_sound_expressions.specs.lemmas.Places.{added-new, other-way}
use Rattle.dsde_sound_expressions.specs.lemmas.Truths.{or-left, or-right}
use Rattle.dsde_sound_expressions.specs.lemmas.Types.{wanted-is}
use Rattle.dsde_sound_expressions.specs.lemmas.Seeing.{own_slot, among-slots}
use Rattle.dsde_sound_expressions.specs.lemmas.Steps.{ok-is, unless-is, Went, went}
use Rattle.dsde_sound_expressions.proofs.Slots.{NewFields, sees-slots}
use Rattle.dsde_sound_expressions.proofs.PlaceParams.{NewPorts}
use Rattle.dsde_sound_expressions.proofs.Pieces.{Put, put-first, put-own, put-behind, behind_expr}
use Rattle.dsde_sound_expressions.proofs.BodyRules.{walk-high}

-- ports whose names differ from that of one name more
pub ports-stay : (ports found : List Port) (scope : Scope) (bound : Binding) → is_among port_name ports bound.name ≡ false → NewPorts scope found ports → NewPorts (scope ++ bound ∷ []) found ports
ports-stay [] found scope bound none new = tt
ports-stay (port ∷ ports) found scope bound none new = (
  list_any-append (λ own. bytes_eq (binding_name own) port.name) scope (bound ∷ [])
      ∙ ap (λ (b : Bool). b || (bytes_eq bound.name port.name || false)) new.0
      ∙ ap (λ (b : Bool). b || false) (other-way port.name bound.name (or-left _ _ none)),
  new.1,
  ports-stay ports (found ++ port ∷ []) scope bound (or-right _ _ none) new.2,
)

module _ (model : Model) where
  abbrev whole : Known
  whole = whole_of model

  abbrev nodes : List Node
  nodes = (resolved model).nodes

  abbrev blocks : List Block
  blocks = (resolved model).blocks

  -- the block of a phase
  pub phase-stands : (around : Around) → KnownAt model around.known → (ports : List Port) (outs slots : List Field) (scope : Scope) → AreOuts ports outs → Sees around.has_elapsed scope slots
      → (phase : Option Phase) (height : ℕ) → phase_of around ports phase scope ≡ Ok height → height ≤ 512 → is_proper_phase phase ≡ true
      → (names : List Field) (next : Next) → Put nodes blocks next (resolve_phase whole outs slots phase names next) → PhaseStands model slots outs (resolve_phase whole outs slots phase names next).own phase
  phase-stands around known ports outs slots scope sends sees None height is low proper names next put = tt
  phase-stands around known ports outs slots scope sends sees (Some phase) height is low proper names next put =
      let one = went (walk_all (map (walk around ports) phase.stmts) 0 scope) (λ passed. Ok passed.height) height is in
      let same : one.value.height ≡ height = ok-is one.value.height height one.next in
      let own = put-first nodes blocks (piece.over slots (piece.braced (resolve_stmts whole outs phase.stmts))) (λ own. piece.give (Some own)) names next put in
      record {
        around = around;
        ports = ports;
        scope = scope;
        passed = one.value;
        next = record next { block = next.block + 1 };
        known = known;
        proper = proper;
        judged = one.first;
        low = omega (arith, same, low);
        sees = sees;
        sends = sends;
        behind = refl;
        nodes = own.nodes_at;
        blocks = own.blocks_at;
      }

  module _ (known : Known) (at : KnownAt model known) (typed : (own : TypeName) (seen : TypeSeen) → type_of known own ≡ Ok seen → by_text whole.words own ≡ seen.ty) (reserved : List (List ℕ)) (ports : List Port) where
    abbrev around : Around
    around = around_with known reserved

    abbrev state_field : StateDecl → Field
    state_field state = record { name = state.name.name; ty = by_text whole.words state.ty }

    -- a state variable in which nothing is wrong
    record StateSeen (state : StateDecl) (scope : Scope) (passed : Passed) : Type 0 where
      unused : is_among port_name ports state.name.name ≡ false
      new : is_among binding_name scope state.name.name ≡ false
      found : Seen
      judged : judge around state.value scope ≡ Ok found
      of : found.ty ≡ by_text whole.words state.ty
      height : passed.height ≡ found.height
      bound : Binding
      is : passed.scope ≡ scope ++ bound ∷ []
      as_field : own_slot bound ≡ state_field state

    abbrev state_bound : StateDecl → Ty → Binding
    state_bound state ty = record { name = state.name.name; ty = ty; kind = kind.State }

    abbrev state_passed : StateDecl → Scope → Ty → Seen → Passed
    state_passed state scope ty seen = record { scope = scope ++ state_bound state ty ∷ []; height = seen.height }

    abbrev with_value : StateDecl → Scope → Ty → Seen → Result Passed Wrong
    with_value state scope ty seen = wanted ty seen >>= (λ _. Ok (state_passed state scope ty seen))

    abbrev with_type : StateDecl → Scope → TypeSeen → Result Passed Wrong
    with_type state scope own = judge around state.value scope >>= with_value state scope own.ty

    abbrev with_name : StateDecl → Scope → Unit {0} → Result Passed Wrong
    with_name state scope _ = type_of known state.ty >>= with_type state scope

    state-seen : (state : StateDecl) (scope : Scope) (passed : Passed) → state_of around ports state scope ≡ Ok passed → StateSeen state scope passed
    state-seen state scope passed is =
        let one : Went (new_state ports scope state.name) (with_name state scope) passed = went (new_state ports scope state.name) (with_name state scope) passed is in
        let names = went (unless (is_among port_name ports state.name.name) Duplicate state.name.at) (λ _. unbound scope state.name) one.value one.first in
        let two : Went (type_of known state.ty) (with_type state scope) passed = went (type_of known state.ty) (with_type state scope) passed one.next in
        let three : Went (judge around state.value scope) (with_value state scope two.value.ty) passed = went (judge around state.value scope) (with_value state scope two.value.ty) passed two.next in
        let four = went (wanted two.value.ty three.value) (λ _. Ok (state_passed state scope two.value.ty three.value)) passed three.next in
        let same : state_passed state scope two.value.ty three.value ≡ passed = ok-is (state_passed state scope two.value.ty three.value) passed four.next in
        let text : by_text whole.words state.ty ≡ two.value.ty = typed state.ty two.value two.first in
        record {
          unused = unless-is _ _ _ names.value names.first;
          new = unless-is _ _ _ one.value names.next;
          found = three.value;
          judged = three.first;
          of = sym (wanted-is two.value.ty three.value four.value four.first) ∙ sym text;
          height = ap (λ (p : Passed). p.height) (sym same);
          bound = state_bound state two.value.ty;
          is = ap (λ (p : Passed). p.scope) (sym same);
          as_field = ap (λ (t : Ty). let field : Field = record { name = state.name.name; ty = t } in field) (sym text);
        }

    -- the first values of state variables, and the names behind these
    pub record StatesAre (states : List StateDecl) (slots : List Field) (passed : Passed) (numbers : List ExprId) : Type 0 where
      pub inits : InitsStand model slots states numbers
      pub is : map own_slot passed.scope ≡ slots ++ state_fields whole states
      pub new : NewFields slots (state_fields whole states)
      pub ports_new : NewPorts passed.scope [] ports

    pub states-are : (states : List StateDecl) (height : ℕ) (scope : Scope) (slots : List Field) (next : Next) (passed : Passed) → map own_slot scope ≡ slots
        → walk_all (map (state_of around ports) states) height scope ≡ Ok passed → passed.height ≤ 512
        → list_all (λ (state : StateDecl). is_plain state.name && is_proper state.value) states ≡ true → NewPorts scope [] ports
        → Put nodes blocks next (resolve_states whole states slots next) → StatesAre states slots passed (resolve_states whole states slots next).own
    states-are [] height scope slots next passed same is low proper new put =
        let own : Passed = record { scope = scope; height = height } in
        let here : scope ≡ passed.scope = ap (λ (p : Passed). p.scope) (ok-is own passed is) in
        record {
          inits = tt;
          is = ap (map own_slot) (sym here) ∙ same ∙ sym (append-nil slots);
          new = tt;
          ports_new = subst (λ (s : Scope). NewPorts s [] ports) here new;
        }
    states-are (state ∷ states) height scope slots next passed same is low proper new put =
        let one = went (state_of around ports state scope) (λ own. walk_all (map (state_of around ports) states) (max height own.height) own.scope) passed is in
        let seen : StateSeen state scope one.value = state-seen state scope one.value one.first in
        let high = walk-high (map (state_of around ports) states) (max height one.value.height) one.value.scope passed one.next in
        let both = and_parts (is_plain state.name && is_proper state.value) (list_all (λ (state : StateDecl). is_plain state.name && is_proper state.value) states) proper in
        let own_proper = and_parts (is_plain state.name) (is_proper state.value) both.0 in
        let field : Field = state_field state in
        let more : List Field = with_slot slots state.name.name (by_text whole.words state.ty) in
        let none : is_among field_name slots field.name ≡ false = ap (λ (l : List Field). is_among field_name l field.name) (sym same) ∙ among-slots scope state.name.name ∙ seen.new in
        let longer : more ≡ slots ++ field ∷ [] = added-new field_name slots field none in
        let behind : map own_slot one.value.scope ≡ more =
        ap (map own_slot) seen.is ∙ map-append own_slot scope (seen.bound ∷ [])
        ∙ ap (λ (f : Field). map own_slot scope ++ f ∷ []) seen.as_field ∙ ap (λ (l : List Field). l ++ field ∷ []) same ∙ sym longer in
        let ports_new : NewPorts one.value.scope [] ports = subst (λ (s : Scope). NewPorts s [] ports) (sym seen.is)
        (ports-stay ports [] scope seen.bound (ap (λ (f : Field). is_among port_name ports f.name) seen.as_field ∙ seen.unused) new) in
        let rest_step : Step (List ExprId) = piece.binding state.name.name (by_text whole.words state.ty) (resolve_states whole states) in
        let more_step : ExprId → Ty → Step (List ExprId) = λ own ty. piece.◌>>=◌ rest_step (λ others. piece.give (own ∷ others)) in
        let next1 : Next = behind_expr nodes blocks (resolve whole state.value) slots next in
        let put1 = put-behind nodes blocks (resolve whole state.value) more_step slots next put in
        let put2 = put-first nodes blocks rest_step (λ others. piece.give (expr_id next.node ∷ others)) slots next1 put1 in
        let rest : StatesAre states more passed (resolve_states whole states more next1).own =
        states-are states (max height one.value.height) one.value.scope more next1 passed behind one.next low both.1 ports_new put2 in
        record {
          inits = (
            record {
              around = around;
              scope = scope;
              found = seen.found;
              known = at;
              is_total = refl;
              proper = own_proper.1;
              judged = seen.judged;
              of = seen.of;
              low = let same_height = seen.height in omega (arith, high, low, same_height);
              sees = sees-slots scope slots same;
              stands = put-own nodes blocks (resolve whole state.value) more_step slots next put;
            },
            subst (λ (l : List Field). InitsStand model l states (resolve_states whole states more next1).own) longer rest.inits,
          );
          is = rest.is ∙ ap (λ (l : List Field). l ++ state_fields whole states) longer ∙ append_assoc slots (field ∷ []) (state_fields whole states);
          new = (none, subst (λ (l : List Field). NewFields l (state_fields whole states)) longer rest.new);
          ports_new = rest.ports_new;
        }
