-- The first wrong thing of statements, functions and bodies.
use Rattle.std.specs.Prelude.{ℕ, max, Bool, true, false, not, ◌&&◌, if◌then◌else◌, List, [], ◌∷◌, ◌++◌, map, Option, Some, None, Result, Ok, is_none}
use Rattle.std.specs.List.{list_any}
use Rattle.dsde_names.specs.Table.{named, is_among}
use Rattle.dsde_syntax.specs.declared.id.Id.{Id}
use Rattle.dsde_syntax.specs.declared.type_name.TypeName.{TypeName}
use Rattle.dsde_syntax.specs.declared.expr.Expr.{Expr}
use Rattle.dsde_syntax.specs.declared.stmt.Stmt.{Stmt}
use Rattle.dsde_syntax.specs.declared.stmt.Stmt.TheOpen.{Stmt-F, StmtArm-F}
use Rattle.dsde_syntax.specs.declared.stmt.Stmt.TheFolds.{fold-Stmt, fold-StmtArm}
use Rattle.dsde_syntax.specs.declared.stmt.StmtArm.{StmtArm}
use Rattle.dsde_syntax.specs.declared.decl.Body.{Body}
use Rattle.dsde_syntax.specs.declared.decl.Phase.{Phase}
use Rattle.dsde_syntax.specs.declared.decl.PortDecl.{PortDecl}
use Rattle.dsde_syntax.specs.declared.decl.StateDecl.{StateDecl}
use Rattle.dsde_syntax.specs.declared.decl.Typed.{Typed}
use Rattle.dsde_values.specs.declared.types.Field.{Field}
use Rattle.dsde_values.specs.declared.types.Ty.{Ty}
use Rattle.dsde_values.specs.declared.types.Ty.TheVariants as ty
use Rattle.dsde_language.specs.declared.known.Around.{Around}
use Rattle.dsde_language.specs.declared.known.Known.{Known}
use Rattle.dsde_language.specs.declared.seen.Binding.{Binding}
use Rattle.dsde_language.specs.declared.seen.BindingKind.{BindingKind}
use Rattle.dsde_language.specs.declared.seen.BindingKind.TheVariants as kind
use Rattle.dsde_language.specs.declared.seen.Seen.{Seen}
use Rattle.dsde_language.specs.declared.signatures.Func.{Func}
use Rattle.dsde_language.specs.declared.signatures.Port.{Port}
use Rattle.dsde_language.specs.declared.wrong.Wrong.{Wrong}
use Rattle.dsde_language.specs.declared.wrong.WrongKind.TheVariants.{Duplicate, Unknown, WrongType, NoExternal}
use Rattle.dsde_language.specs.Steps.{◌>>=◌, Test, wrong, unless, above, within}
use Rattle.dsde_language.specs.Types.{wanted, item_type}
use Rattle.dsde_language.specs.RuleTables.{added, binding_name, field_name, port_name, with_name}
use Rattle.dsde_language.specs.Judge.{Scope, Judge, bound_to, unbound, fresh, fixed, judge, test_of, type_of}

-- the scope behind statements, and the height of the highest
pub record Passed : Type 0 where
  pub scope : Scope
  pub height : ℕ

-- what is seen of statements in a scope, or the first wrong thing in them
abbrev pub Walk : Type 0
Walk = Scope → Result Passed Wrong

-- a statement on parts of this height, which leaves the scope as it is
abbrev pub walked : Scope → ℕ → Result Passed Wrong
walked scope height = Ok (record { scope = scope; height = above height })

-- statements in their order, each in the scope that the one before left
abbrev pub walk_all : List Walk → ℕ → Walk
walk_all [] height scope = Ok (record { scope = scope; height = height })
walk_all (walk ∷ walks) height scope = walk scope >>= (λ passed. walk_all walks (max height passed.height) passed.scope)

-- the height of statements in braces, whose names are seen in them alone
abbrev pub inner : List Walk → ℕ → Scope → Result ℕ Wrong
inner walks height scope = walk_all walks height scope >>= (λ passed. Ok passed.height)

abbrev pub var_kind : Bool → BindingKind
var_kind mutable = if mutable then kind.Var else kind.Fixed

-- "let" and "var": the name is bound behind its value
abbrev pub let_of : Around → Bool → Id → Judge → Walk
let_of around mutable name value scope =
    fresh around name scope >>= (λ _.
    value scope >>= (λ seen.
    walked (scope ++ record { name = name.name; ty = seen.ty; kind = var_kind mutable } ∷ []) seen.height))

-- whether a name may be assigned to: one of "var", or a state variable in some blocks
abbrev pub may_set : Around → BindingKind → Bool
may_set around kind.Fixed = false
may_set around kind.Var = true
may_set around kind.State = around.sets_states

-- an assignment to a name that is bound: one that may be assigned to, of the value's type
abbrev pub set_of : Around → Id → Binding → Judge → Walk
set_of around name bound value scope =
    unless (not (may_set around bound.kind)) WrongType name.at >>= (λ _.
    value scope >>= (λ seen.
    wanted bound.ty seen >>= (λ _.
    walked scope seen.height)))

abbrev pub set_to : Around → Id → Judge → Walk
set_to around name value scope =
    elim (bound_to scope name.name) [ None ↦ wrong Unknown name.at | Some bound ↦ set_of around name bound value scope ]

-- a value that is sent: the port is an out port, of the value's type
abbrev pub send_of : Id → Port → Judge → Walk
send_of name port value scope =
    unless (not port.out) Unknown name.at >>= (λ _.
    value scope >>= (λ seen.
    wanted port.ty seen >>= (λ _.
    walked scope seen.height)))

abbrev pub send_to : List Port → Id → Judge → Walk
send_to ports name value scope =
    elim (named port_name ports name.name) [ None ↦ wrong Unknown name.at | Some port ↦ send_of name port value scope ]

-- what stands in `if` and its braces, on what came before it of this height
abbrev pub ArmWalk : Type 0
ArmWalk = ℕ → Scope → Result ℕ Wrong

abbrev pub arms_walk : List ArmWalk → ArmWalk
arms_walk [] height scope = Ok height
arms_walk (arm ∷ arms) height scope = arm height scope >>= (λ more. arms_walk arms more scope)

abbrev pub last_walk : Option (List Walk) → ArmWalk
last_walk None height scope = Ok height
last_walk (Some walks) height scope = inner walks height scope

-- `if` and its arms: each condition is bool
abbrev pub arm_of : Judge → List Walk → ArmWalk
arm_of cond body height scope = test_of (Some cond) height scope >>= (λ tested. inner body tested scope)

abbrev pub if_walk : List ArmWalk → Option (List Walk) → Walk
if_walk arms other scope =
    arms_walk arms 0 scope >>= (λ height. last_walk other height scope >>= (λ last. walked scope last))

-- `for` over these items, which are a list; its name is seen in its braces.
abbrev pub for_items : Id → List Walk → Seen → Walk
for_items name body items scope =
    item_type items >>= (λ item.
    inner body items.height (scope ++ fixed name item ∷ []) >>= (λ height.
    walked scope height))

abbrev pub for_walk : Around → Id → Judge → List Walk → Walk
for_walk around name list body scope =
    fresh around name scope >>= (λ _. list scope >>= (λ items. for_items name body items scope))

-- a statement, where the out ports among these may be sent to
abbrev pub stmt_step : Around → List Port → Stmt-F Walk ArmWalk → Walk
stmt_step around ports (Stmt-F.Let mutable name value) scope = let_of around mutable name (judge around value) scope
stmt_step around ports (Stmt-F.Set name value) scope = set_to around name (judge around value) scope
stmt_step around ports (Stmt-F.Send port value) scope = send_to ports port (judge around value) scope
stmt_step around ports (Stmt-F.If arms other) scope = if_walk arms other scope
stmt_step around ports (Stmt-F.For name list body) scope = for_walk around name (judge around list) body scope

abbrev pub stmt_arm_step : Around → StmtArm-F Walk ArmWalk → ArmWalk
stmt_arm_step around arm = arm_of (judge around arm.cond) arm.body

abbrev pub walk : Around → List Port → Stmt → Walk
walk around ports = fold-Stmt Walk ArmWalk (stmt_step around ports) (stmt_arm_step around)

abbrev pub walk_arm : Around → List Port → StmtArm → ArmWalk
walk_arm around ports = fold-StmtArm Walk ArmWalk (stmt_step around ports) (stmt_arm_step around)

-- A field has a name that none of those before it has.
abbrev pub new_field : List Field → Id → Test
new_field found name = unless (is_among field_name found name.name) Duplicate name.at

-- Fields behind those that were found: each differs from these, and each type is one that is
-- declared before.
abbrev pub fields_all : Known → List Field → List Typed → Result (List Field) Wrong
fields_all known found [] = Ok found
fields_all known found (typed ∷ rest) =
    new_field found typed.name >>= (λ _.
    type_of known typed.ty >>= (λ seen.
    fields_all known (found ++ record { name = typed.name.name; ty = seen.ty } ∷ []) rest))

-- parameters, as names that are seen
abbrev pub params_all : Known → Scope → List Typed → Result Scope Wrong
params_all known scope [] = Ok scope
params_all known scope (typed ∷ rest) =
    unbound scope typed.name >>= (λ _.
    type_of known typed.ty >>= (λ seen.
    params_all known (scope ++ fixed typed.name seen.ty ∷ []) rest))

-- A port behind those that were found has a name that none of these and no parameter has.
abbrev pub new_port : Scope → List Port → Id → Test
new_port params found name =
    unbound params name >>= (λ _. unless (is_among port_name found name.name) Duplicate name.at)

-- ports, over the parameters
abbrev pub ports_all : Known → Scope → List Port → List PortDecl → Result (List Port) Wrong
ports_all known params found [] = Ok found
ports_all known params found (port ∷ rest) =
    new_port params found port.name >>= (λ _.
    type_of known port.ty >>= (λ seen.
    ports_all known params (found ++ record { out = port.out; name = port.name.name; ty = seen.ty } ∷ []) rest))

-- what stands round the parts of a function, whose names are all in scope
abbrev pub around_func : Known → Around
around_func known = record { known = known; reserved = []; has_elapsed = false; sets_states = false; is_total = false }

-- a function's value, which has the type of its result: the height of `return`
abbrev pub return_of : Judge → Ty → Scope → Result ℕ Wrong
return_of value result scope = value scope >>= (λ seen. wanted result seen >>= (λ _. Ok (above seen.height)))

-- the height of a function's highest statement, `return` among them
abbrev pub func_height : Around → List Stmt → Expr → Ty → Scope → Result ℕ Wrong
func_height around stmts value result params =
    walk_all (map (walk around []) stmts) 0 params >>= (λ passed.
    return_of (judge around value) result passed.scope >>= (λ height.
    Ok (max passed.height height)))

-- the function, over what is declared before it
abbrev pub func_in : Around → Id → List Typed → TypeName → List Stmt → Expr → Result Func Wrong
func_in around name params result stmts value =
    params_all around.known [] params >>= (λ scope.
    type_of around.known result >>= (λ own.
    func_height around stmts value own.ty scope >>= (λ height.
    within name.at height >>= (λ _.
    Ok (record {
      name = name.name;
      params = map (λ (bound : Binding). bound.ty) scope;
      result = own.ty;
      height = above height;
    })))))

abbrev pub func_of : Known → Id → List Typed → TypeName → List Stmt → Expr → Result Func Wrong
func_of known = func_in (around_func known)

-- A state variable has a name that no port and nothing in scope has.
abbrev pub new_state : List Port → Scope → Id → Test
new_state ports scope name =
    unless (is_among port_name ports name.name) Duplicate name.at >>= (λ _. unbound scope name)

-- a state variable: its type, and a value of that type over the parameters and the state variables
-- before it
abbrev pub state_of : Around → List Port → StateDecl → Walk
state_of around ports state scope =
    new_state ports scope state.name >>= (λ _.
    type_of around.known state.ty >>= (λ own.
    judge around state.value scope >>= (λ seen.
    wanted own.ty seen >>= (λ _.
    Ok (record { scope = scope ++ record { name = state.name.name; ty = own.ty; kind = kind.State } ∷ []; height = seen.height })))))

-- an in port as it is seen, behind other names: by the list of the values that came
abbrev pub input_seen : Scope → Port → Scope
input_seen scope port =
    if port.out then scope else added binding_name scope (record { name = port.name; ty = ty.List port.ty; kind = kind.Fixed })

abbrev pub inputs_seen : Scope → List Port → Scope
inputs_seen scope [] = scope
inputs_seen scope (port ∷ ports) = inputs_seen (input_seen scope port) ports

-- the block of a phase, if there is one: its height
abbrev pub phase_of : Around → List Port → Option Phase → Scope → Result ℕ Wrong
phase_of around ports None scope = Ok 0
phase_of around ports (Some phase) scope = inner (map (walk around ports) phase.stmts) 0 scope

-- names with those of parameters, of ports, of state variables
abbrev pub with_params : List (List ℕ) → List Typed → List (List ℕ)
with_params names [] = names
with_params names (param ∷ params) = with_params (with_name names param.name.name) params

abbrev pub with_ports : List (List ℕ) → List PortDecl → List (List ℕ)
with_ports names [] = names
with_ports names (port ∷ ports) = with_ports (with_name names port.name.name) ports

abbrev pub with_states : List (List ℕ) → List StateDecl → List (List ℕ)
with_states names [] = names
with_states names (state ∷ states) = with_states (with_name names state.name.name) states

-- the names of a body, which no bound name may have
abbrev pub body_names : List Typed → Body → List (List ℕ)
body_names params body = with_states (with_ports (with_params [] params) body.ports) body.states

-- what stands round the parts of a body, and round its structure
abbrev pub around_body : Known → List Typed → Body → Around
around_body known params body =
    record { known = known; reserved = body_names params body; has_elapsed = false; sets_states = false; is_total = false }

-- what stands round a block that may assign to state variables, and may see `elapsed`
abbrev pub moving : Around → Bool → Around
moving around has_elapsed =
    record { known = around.known; reserved = around.reserved; has_elapsed = has_elapsed; sets_states = true; is_total = false }

-- Advance has the type opt<int>.
abbrev pub advance_of : Around → Expr → Scope → Result ℕ Wrong
advance_of around advance scope =
    judge around advance scope >>= (λ seen. wanted (ty.Opt ty.Int) seen >>= (λ _. Ok seen.height))

-- a block that may assign to state variables, may see `elapsed` and sends nothing
abbrev pub move_of : Around → Bool → Option Phase → Scope → Result ℕ Wrong
move_of around has_elapsed phase scope = phase_of (moving around has_elapsed) [] phase scope

-- external and confluent, which see the in ports and `elapsed`
abbrev pub inputs_of : Around → Body → Scope → Result ℕ Wrong
inputs_of around body scope =
    move_of around true body.external scope >>= (λ external.
    move_of around true body.confluent scope >>= (λ confluent.
    Ok (max external confluent)))

-- The four blocks: output and internal see parameters and state variables, and internal may assign
-- to these; external and confluent see the in ports beside them.
abbrev pub phases_of : Around → List Port → Body → Scope → Result ℕ Wrong
phases_of around ports body scope =
    phase_of around ports body.output scope >>= (λ output.
    move_of around false body.internal scope >>= (λ internal.
    inputs_of around body (inputs_seen scope ports) >>= (λ inputs.
    Ok (max (max output internal) inputs))))

-- A body with an in port has an external block.
abbrev pub external_of : ℕ → Body → Test
external_of at body = unless (list_any (λ (port : PortDecl). not port.out) body.ports && is_none body.external) NoExternal at

-- a body at this place with these ports, over parameters: the scope of its structure, and the
-- height of its highest part
abbrev pub body_of : Around → ℕ → List Port → Body → Walk
body_of around at ports body scope =
    walk_all (map (state_of around ports) body.states) 0 scope >>= (λ states.
    advance_of around body.advance states.scope >>= (λ advance.
    phases_of around ports body states.scope >>= (λ phases.
    external_of at body >>= (λ _.
    Ok (record { scope = states.scope; height = max states.height (max advance phases) })))))
