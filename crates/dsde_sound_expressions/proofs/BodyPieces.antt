-- Where the parts of a body stand in the tables.
use Rattle.std.proofs.Common.{◌≡◌, ℕ, true, false, List, [], Option, refl}
use Rattle.dsde_language.specs.given.syntax.decl_Body.{Body}
use Rattle.dsde_language.specs.given.syntax.decl_Typed.{Typed}
use Rattle.dsde_language.specs.declared.known.Known.{Known}
use Rattle.dsde_language.specs.declared.code.Code.{Code}
use Rattle.dsde_language.specs.declared.node_ids.BlockId.{BlockId}
use Rattle.dsde_language.specs.declared.node_ids.ExprId.{ExprId}
use Rattle.dsde_language.specs.declared.node.Node.{Node}
use Rattle.dsde_language.specs.Names.{with_slots, Scope}
use Rattle.dsde_language.specs.Expressions.{resolve}
use Rattle.dsde_language.specs.Pieces.{Block, Next, Step, ◌>>=◌, behind, give, expr, over}
use Rattle.dsde_language.specs.DeclaredModels.{typed_fields, port_fields}
use Rattle.dsde_language.specs.Statements.{Blocks, input_fields, phase_at, resolve_states, resolve_phase, resolve_blocks, resolve_body, body_scope}
use Rattle.dsde_language.specs.Scopes.{Stands}
use Rattle.dsde_sound_expressions.proofs.Pieces.{Put, put-first, put-next, put-own}

-- a phase, over these slots and out ports, and the number of its block
pub record PhasePut (nodes : List Node) (blocks : List Block) (phase : Step (Option BlockId)) (own : Option BlockId) : Type 0 where
  pub names : Scope
  pub next : Next
  pub put : Put nodes blocks next (phase names next)
  pub is : own ≡ (phase names next).own

module _ (nodes : List Node) (blocks : List Block) (known : Known) (params : List Typed) (at : ℕ) (body : Body) where
  abbrev pub first_slots : Scope
  first_slots = with_slots [] (typed_fields known params)

  abbrev pub own_slots : Scope
  own_slots = body_scope known params body

  abbrev pub input_slots : Scope
  input_slots = with_slots own_slots (input_fields (port_fields known false body.ports))

  abbrev pub out_slots : Scope
  out_slots = with_slots [] (port_fields known true body.ports)

  abbrev states_step : Step (List ExprId)
  states_step = over first_slots (resolve_states known body.states)

  abbrev advance_step : Step ExprId
  advance_step = over own_slots (expr (resolve known body.advance) (λ own ty. give own))

  abbrev code_of : List ExprId → ExprId → Blocks → Step Code
  code_of inits advance blocks = give (record {
    start_at = at;
    advance_at = body.advance_at;
    external_at = phase_at body.external;
    confluent_at = phase_at body.confluent;
    inits = inits;
    advance = advance;
    output = blocks.output;
    internal = blocks.internal;
    external = blocks.external;
    confluent = blocks.confluent;
  })

  abbrev behind_advance : List ExprId → ExprId → Step Code
  behind_advance inits advance = resolve_blocks known own_slots body >>= code_of inits advance

  abbrev behind_states : List ExprId → Step Code
  behind_states inits = advance_step >>= behind_advance inits

  abbrev pub output_phase : Step (Option BlockId)
  output_phase = resolve_phase known out_slots own_slots body.output

  abbrev pub internal_phase : Step (Option BlockId)
  internal_phase = resolve_phase known [] own_slots body.internal

  abbrev pub external_phase : Step (Option BlockId)
  external_phase = resolve_phase known [] input_slots body.external

  abbrev pub confluent_phase : Step (Option BlockId)
  confluent_phase = resolve_phase known [] input_slots body.confluent

  abbrev blocks_of : Option BlockId → Option BlockId → Option BlockId → Option BlockId → Step Blocks
  blocks_of output internal external confluent = give (record { output = output; internal = internal; external = external; confluent = confluent })

  abbrev behind_external : Option BlockId → Option BlockId → Option BlockId → Step Blocks
  behind_external output internal external = confluent_phase >>= blocks_of output internal external

  abbrev behind_internal : Option BlockId → Option BlockId → Step Blocks
  behind_internal output internal = external_phase >>= behind_external output internal

  abbrev behind_output : Option BlockId → Step Blocks
  behind_output output = internal_phase >>= behind_internal output

  pub record BlocksPut (own : Blocks) : Type 0 where
    pub output : PhasePut nodes blocks output_phase own.output
    pub internal : PhasePut nodes blocks internal_phase own.internal
    pub external : PhasePut nodes blocks external_phase own.external
    pub confluent : PhasePut nodes blocks confluent_phase own.confluent

  blocks-put : (names : Scope) (next : Next) → Put nodes blocks next (resolve_blocks known own_slots body names next) → BlocksPut (resolve_blocks known own_slots body names next).own
  blocks-put names next put =
      let one = output_phase names next in
      let next1 : Next = behind next one in
      let put1 = put-next nodes blocks output_phase behind_output names next put in
      let two = internal_phase one.scope next1 in
      let next2 : Next = behind next1 two in
      let put2 = put-next nodes blocks internal_phase (behind_internal one.own) one.scope next1 put1 in
      let three = external_phase two.scope next2 in
      let next3 : Next = behind next2 three in
      let put3 = put-next nodes blocks external_phase (behind_external one.own two.own) two.scope next2 put2 in
      record {
        output = record { names = names; next = next; put = put-first nodes blocks output_phase behind_output names next put; is = refl };
        internal = record { names = one.scope; next = next1; put = put-first nodes blocks internal_phase (behind_internal one.own) one.scope next1 put1; is = refl };
        external = record { names = two.scope; next = next2; put = put-first nodes blocks external_phase (behind_external one.own two.own) two.scope next2 put2; is = refl };
        confluent = record { names = three.scope; next = next3; put = put-first nodes blocks confluent_phase (blocks_of one.own two.own three.own) three.scope next3 put3; is = refl };
      }

  -- the parts of a body, and their numbers
  pub record BodyPut (next : Next) (code : Code) : Type 0 where
    pub states : Put nodes blocks next (resolve_states known body.states first_slots next)
    pub inits : code.inits ≡ (resolve_states known body.states first_slots next).own
    pub advance : Stands nodes code.advance.0 ((resolve known body.advance).nodes own_slots code.advance.0)
    pub own : Blocks
    pub phases : BlocksPut own
    pub output : code.output ≡ own.output
    pub internal : code.internal ≡ own.internal
    pub external : code.external ≡ own.external
    pub confluent : code.confluent ≡ own.confluent
    pub start_at : code.start_at ≡ at
    pub advance_at : code.advance_at ≡ body.advance_at
    pub external_at : code.external_at ≡ phase_at body.external
    pub confluent_at : code.confluent_at ≡ phase_at body.confluent

  pub body-put : (names : Scope) (next : Next) → Put nodes blocks next (resolve_body known params at body names next) → BodyPut next (resolve_body known params at body names next).own
  body-put names next put =
      let one = states_step names next in
      let next1 : Next = behind next one in
      let put0 = put-first nodes blocks states_step behind_states names next put in
      let put1 = put-next nodes blocks states_step behind_states names next put in
      let two = advance_step names next1 in
      let next2 : Next = behind next1 two in
      let put2 = put-first nodes blocks advance_step (behind_advance one.own) names next1 put1 in
      let put3 = put-next nodes blocks advance_step (behind_advance one.own) names next1 put1 in
      let put4 = put-first nodes blocks (resolve_blocks known own_slots body) (code_of one.own two.own) names next2 put3 in
      let put5 : Put nodes blocks next1 (expr (resolve known body.advance) (λ own ty. give own) own_slots next1) = record { nodes_at = put2.nodes_at; blocks_at = put2.blocks_at } in
      record {
        states = record { nodes_at = put0.nodes_at; blocks_at = put0.blocks_at };
        inits = refl;
        advance = put-own nodes blocks (resolve known body.advance) (λ own ty. give own) own_slots next1 put5;
        own = (resolve_blocks known own_slots body names next2).own;
        phases = blocks-put names next2 put4;
        output = refl;
        internal = refl;
        external = refl;
        confluent = refl;
        start_at = refl;
        advance_at = refl;
        external_at = refl;
        confluent_at = refl;
      }
