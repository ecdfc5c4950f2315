-- What statements, functions and bodies are resolved to.
use Rattle.std.specs.Prelude.{ℕ, ◌+◌, true, false, List, [], ◌∷◌, ◌++◌, map, Option}
use Rattle.std.specs.Option.{option_map, option_map_or}
use Rattle.dsde_syntax.specs.declared.expr.Expr.{Expr}
use Rattle.dsde_syntax.specs.declared.stmt.Stmt.{Stmt}
use Rattle.dsde_syntax.specs.declared.stmt.Stmt.TheOpen.{Stmt-F, StmtArm-F}
use Rattle.dsde_syntax.specs.declared.stmt.Stmt.TheFolds.{fold-Stmt}
use Rattle.dsde_syntax.specs.declared.decl.Body.{Body}
use Rattle.dsde_syntax.specs.declared.decl.Phase.{Phase}
use Rattle.dsde_syntax.specs.declared.decl.StateDecl.{StateDecl}
use Rattle.dsde_syntax.specs.declared.decl.Typed.{Typed}
use Rattle.dsde_values.specs.declared.types.Field.{Field}
use Rattle.dsde_values.specs.declared.types.Ty.TheVariants as ty
use Rattle.dsde_language.specs.declared.known.Known.{Known}
use Rattle.dsde_language.specs.RuleTables.{by_text}
use Rattle.dsde_language.specs.declared.act.Act.{Act}
use Rattle.dsde_language.specs.declared.act.Act.TheVariants as act
use Rattle.dsde_language.specs.declared.act.ActArm.{ActArm}
use Rattle.dsde_language.specs.declared.code.Code.{Code}
use Rattle.dsde_language.specs.declared.code.FnCode.{FnCode}
use Rattle.dsde_language.specs.declared.node_ids.BlockId.{BlockId}
use Rattle.dsde_language.specs.declared.node_ids.ExprId.{ExprId}
use Rattle.dsde_language.specs.Names.{with_slots, Scope, slot_of, elapsed_name}
use Rattle.dsde_language.specs.Typing.{item_in}
use Rattle.dsde_language.specs.Expressions.{resolve}
use Rattle.dsde_language.specs.Pieces.{Block, Step, ◌>>=◌, give, all, maybe, expr, bound, binding, seeing, over, braced}
use Rattle.dsde_language.specs.DeclaredModels.{typed_fields, state_fields, port_fields}

-- over what is known of the file, and the out ports of the body
abbrev pub stmt_step : Known → List Field → Stmt-F (Step Act) (Step ActArm) → Step Act
stmt_step known outs (Stmt-F.Let mutable name value) =
    expr (resolve known value) (λ own ty. bound name.name ty (act.Let own))
stmt_step known outs (Stmt-F.Set name value) =
    expr (resolve known value) (λ own ty. seeing (λ scope. give (act.Set (slot_of scope name.name) own)))
stmt_step known outs (Stmt-F.Send port value) =
    expr (resolve known value) (λ own ty. give (act.Send (slot_of outs port.name) own))
stmt_step known outs (Stmt-F.If arms other) =
    all arms >>= (λ own. maybe (option_map (λ stmts. braced (all stmts)) other) >>= (λ last. give (act.If own last)))
stmt_step known outs (Stmt-F.For name list body) =
    expr (resolve known list) (λ own ty.
    braced (binding name.name (item_in ty) (all body)) >>= (λ block. give (act.For own block)))

abbrev pub arm_step : Known → StmtArm-F (Step Act) (Step ActArm) → Step ActArm
arm_step known arm =
    expr (resolve known arm.cond) (λ cond ty. braced (all arm.body) >>= (λ block. give (record { cond = cond; then = block })))

abbrev pub resolve_stmt : Known → List Field → Stmt → Step Act
resolve_stmt known outs = fold-Stmt (Step Act) (Step ActArm) (stmt_step known outs) (arm_step known)

-- statements of a block
abbrev pub resolve_stmts : Known → List Field → List Stmt → Step Block
resolve_stmts known outs stmts = all (map (resolve_stmt known outs) stmts)

-- what stands in the braces of a function
pub record FuncParts : Type 0 where
  pub acts : Block
  pub value : ExprId

abbrev pub func_parts : Known → List Stmt → Expr → Step FuncParts
func_parts known stmts value =
    resolve_stmts known [] stmts >>= (λ acts. expr (resolve known value) (λ own ty. give (record { acts = acts; value = own })))

-- A function: the block before its `return`, whose names its value sees.
abbrev pub resolve_func : Known → List Typed → List Stmt → Expr → Step FnCode
resolve_func known params stmts value scope next =
    let within = func_parts known stmts value (with_slots [] (typed_fields known params)) (record next { block = next.block + 1 }) in
    record {
      own = record { block = record { 0 = next.block }; value = within.own.value };
      nodes = within.nodes;
      blocks = within.own.acts ∷ within.blocks;
      vias = within.vias;
      scope = scope;
    }

-- the first values of state variables, each over the parameters and the state variables before it
abbrev pub resolve_states : Known → List StateDecl → Step (List ExprId)
resolve_states known [] = give []
resolve_states known (state ∷ states) =
    expr (resolve known state.value) (λ own ty.
    binding state.name.name (by_text known.words state.ty) (resolve_states known states) >>= (λ others.
    give (own ∷ others)))

-- the block of a phase, if there is one, over these names
abbrev pub resolve_phase : Known → List Field → Scope → Option Phase → Step (Option BlockId)
resolve_phase known outs scope phase =
    maybe (option_map (λ (own : Phase). over scope (braced (resolve_stmts known outs own.stmts))) phase)

-- the place of a phase, or 0
abbrev pub phase_at : Option Phase → ℕ
phase_at phase = option_map_or (λ (own : Phase). own.at) phase 0

-- what external and confluent see: each in port by the list of the values that came, and `elapsed`
abbrev pub list_fields : List Field → List Field
list_fields ins = map (λ (port : Field). record { name = port.name; ty = ty.List port.ty }) ins

abbrev pub input_fields : List Field → List Field
input_fields ins = list_fields ins ++ record { name = elapsed_name; ty = ty.Int } ∷ []

-- the blocks of a body
pub record Blocks : Type 0 where
  pub output : Option BlockId
  pub internal : Option BlockId
  pub external : Option BlockId
  pub confluent : Option BlockId

abbrev pub resolve_blocks : Known → Scope → Body → Step Blocks
resolve_blocks known scope body =
    let moved = with_slots scope (input_fields (port_fields known false body.ports)) in
    resolve_phase known (with_slots [] (port_fields known true body.ports)) scope body.output >>= (λ output.
    resolve_phase known [] scope body.internal >>= (λ internal.
    resolve_phase known [] moved body.external >>= (λ external.
    resolve_phase known [] moved body.confluent >>= (λ confluent.
    give (record { output = output; internal = internal; external = external; confluent = confluent })))))

-- the names that advance, output, internal and a structure see
abbrev pub body_scope : Known → List Typed → Body → Scope
body_scope known params body = with_slots (with_slots [] (typed_fields known params)) (state_fields known body.states)

-- a body at this place, over its parameters
abbrev pub resolve_body : Known → List Typed → ℕ → Body → Step Code
resolve_body known params at body =
    let scope = body_scope known params body in
    over (with_slots [] (typed_fields known params)) (resolve_states known body.states) >>= (λ inits.
    over scope (expr (resolve known body.advance) (λ own ty. give own)) >>= (λ advance.
    resolve_blocks known scope body >>= (λ blocks.
    give (record {
      start_at = at;
      advance_at = body.advance_at;
      external_at = phase_at body.external;
      confluent_at = phase_at body.confluent;
      inits = inits;
      advance = advance;
      output = blocks.output;
      internal = blocks.internal;
      external = blocks.external;
      confluent = blocks.confluent;
    }))))
