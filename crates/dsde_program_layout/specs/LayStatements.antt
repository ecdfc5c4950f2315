-- How statements, functions and bodies are laid behind tables: what the code does, step by step.
use Rattle.std.specs.Prelude.{ℕ, length, true, false, List, [], ◌∷◌, map, Option}
use Rattle.std.specs.Option.{option_map}
use Rattle.dsde_language.specs.given.syntax.expr_Expr.{Expr}
use Rattle.dsde_language.specs.given.syntax.stmt_Stmt.{Stmt}
use Rattle.dsde_language.specs.given.syntax.stmt_Stmt_TheOpen.{Stmt-F, StmtArm-F}
use Rattle.dsde_language.specs.given.syntax.stmt_Stmt_TheFolds.{fold-Stmt}
use Rattle.dsde_language.specs.given.syntax.decl_Body.{Body}
use Rattle.dsde_language.specs.given.syntax.decl_Phase.{Phase}
use Rattle.dsde_language.specs.given.syntax.decl_StateDecl.{StateDecl}
use Rattle.dsde_language.specs.given.syntax.decl_Typed.{Typed}
use Rattle.dsde_language.specs.given.values.types_Field.{Field}
use Rattle.dsde_language.specs.declared.known.Known.{Known}
use Rattle.dsde_language.specs.RuleTables.{by_text}
use Rattle.dsde_language.specs.declared.act.Act.{Act}
use Rattle.dsde_language.specs.declared.act.Act.TheVariants as act
use Rattle.dsde_language.specs.declared.act.ActArm.{ActArm}
use Rattle.dsde_language.specs.declared.code.Code.{Code}
use Rattle.dsde_language.specs.declared.code.FnCode.{FnCode}
use Rattle.dsde_language.specs.declared.node_ids.BlockId.{BlockId}
use Rattle.dsde_language.specs.declared.node_ids.ExprId.{ExprId}
use Rattle.dsde_language.specs.Names.{with_slots, Scope, slot_of}
use Rattle.dsde_language.specs.Typing.{item_in}
use Rattle.dsde_language.specs.DeclaredModels.{typed_fields, port_fields}
use Rattle.dsde_language.specs.Statements.{FuncParts, Blocks, phase_at, input_fields, body_scope}
use Rattle.dsde_program_layout.specs.Lay.{lay}
use Rattle.dsde_language.specs.Pieces.{Block}
use Rattle.dsde_program_layout.specs.LayPieces.{Step, ◌>>=◌, give, all, maybe, expr, bound, binding, seeing, over, braced, roomy, put}

-- over what is known of the file, and the out ports of the body
abbrev pub stmt_step : Known → List Field → Stmt-F (Step Act) (Step ActArm) → Step Act
stmt_step known outs (Stmt-F.Let mutable name value) =
    expr (lay known value) (λ own ty. bound name.name ty (act.Let own))
stmt_step known outs (Stmt-F.Set name value) =
    expr (lay known value) (λ own ty. seeing (λ scope. give (act.Set (slot_of scope name.name) own)))
stmt_step known outs (Stmt-F.Send port value) =
    expr (lay known value) (λ own ty. give (act.Send (slot_of outs port.name) own))
stmt_step known outs (Stmt-F.If arms other) =
    all arms >>= (λ own. maybe (option_map (λ stmts. braced (all stmts)) other) >>= (λ last. give (act.If own last)))
stmt_step known outs (Stmt-F.For name list body) =
    expr (lay known list) (λ own ty.
    braced (binding name.name (item_in ty) (all body)) >>= (λ block. give (act.For own block)))

abbrev pub arm_step : Known → StmtArm-F (Step Act) (Step ActArm) → Step ActArm
arm_step known arm =
    expr (lay known arm.cond) (λ cond ty. braced (all arm.body) >>= (λ block. give (record { cond = cond; then = block })))

abbrev pub lay_stmt : Known → List Field → Stmt → Step Act
lay_stmt known outs = fold-Stmt (Step Act) (Step ActArm) (stmt_step known outs) (arm_step known)

-- statements of a block
abbrev pub lay_stmts : Known → List Field → List Stmt → Step Block
lay_stmts known outs stmts = all (map (lay_stmt known outs) stmts)

-- what stands in the braces of a function
abbrev pub func_parts : Known → List Stmt → Expr → Step FuncParts
func_parts known stmts value =
    lay_stmts known [] stmts >>= (λ acts. expr (lay known value) (λ own ty. give (record { acts = acts; value = own })))

-- A function: the block before its `return`, whose names its value sees.
abbrev pub lay_func : Known → List Typed → List Stmt → Expr → Step FnCode
lay_func known params stmts value scope tables =
    let within = func_parts known stmts value (with_slots [] (typed_fields known params)) (roomy tables) in
    record {
      own = record { block = record { 0 = length tables.blocks }; value = within.own.value };
      tables = put within.tables (length tables.blocks) within.own.acts;
      scope = scope;
    }

-- the first values of state variables, each over the parameters and the state variables before it
abbrev pub lay_states : Known → List StateDecl → Step (List ExprId)
lay_states known [] = give []
lay_states known (state ∷ states) =
    expr (lay known state.value) (λ own ty.
    binding state.name.name (by_text known.words state.ty) (lay_states known states) >>= (λ others.
    give (own ∷ others)))

-- the block of a phase, if there is one, over these names
abbrev pub lay_phase : Known → List Field → Scope → Option Phase → Step (Option BlockId)
lay_phase known outs scope phase =
    maybe (option_map (λ (own : Phase). over scope (braced (lay_stmts known outs own.stmts))) phase)

-- the blocks of a body
abbrev pub lay_blocks : Known → Scope → Body → Step Blocks
lay_blocks known scope body =
    let moved = with_slots scope (input_fields (port_fields known false body.ports)) in
    lay_phase known (with_slots [] (port_fields known true body.ports)) scope body.output >>= (λ output.
    lay_phase known [] scope body.internal >>= (λ internal.
    lay_phase known [] moved body.external >>= (λ external.
    lay_phase known [] moved body.confluent >>= (λ confluent.
    give (record { output = output; internal = internal; external = external; confluent = confluent })))))

-- a body at this place, over its parameters
abbrev pub lay_body : Known → List Typed → ℕ → Body → Step Code
lay_body known params at body =
    let scope = body_scope known params body in
    over (with_slots [] (typed_fields known params)) (lay_states known body.states) >>= (λ inits.
    over scope (expr (lay known body.advance) (λ own ty. give own)) >>= (λ advance.
    lay_blocks known scope body >>= (λ blocks.
    give (record {
      start_at = at;
      advance_at = body.advance_at;
      external_at = phase_at body.external;
      confluent_at = phase_at body.confluent;
      inits = inits;
      advance = advance;
      output = blocks.output;
      internal = blocks.internal;
      external = blocks.external;
      confluent = blocks.confluent;
    }))))
