-- The nodes of an expression, in the order of its text, a node before its parts.
use Rattle.std.specs.Prelude.{ℕ, ◌+◌, pos, List, [], ◌∷◌, ◌++◌, length, map, Option, Some, None}
use Rattle.dsde_syntax.specs.given.words.key_Key.{Key}
use Rattle.dsde_syntax.specs.given.words.key_Key_TheVariants as key
use Rattle.dsde_syntax.specs.declared.id.Id.{Id}
use Rattle.dsde_syntax.specs.declared.expr.Expr.{Expr}
use Rattle.dsde_syntax.specs.declared.expr.Expr.TheOpen.{Expr-F, Suffix-F, ExprArm-F, FieldSet-F, SignTail-F, Tail-F}
use Rattle.dsde_syntax.specs.declared.expr.Expr.TheFolds.{fold-Expr}
use Rattle.dsde_values.specs.declared.types.Ty.{Ty}
use Rattle.dsde_values.specs.declared.types.Ty.TheVariants as ty
use Rattle.dsde_language.specs.declared.known.Known.{Known}
use Rattle.dsde_language.specs.RuleTables.{by_text}
use Rattle.dsde_language.specs.declared.node_ids.ExprId.{ExprId}
use Rattle.dsde_language.specs.declared.operator.Binary.{Binary}
use Rattle.dsde_language.specs.declared.operator.Binary.TheVariants as binary
use Rattle.dsde_language.specs.declared.node.Node.{Node}
use Rattle.dsde_language.specs.declared.node.Node.TheVariants as node
use Rattle.dsde_language.specs.declared.node.NodeArm.{NodeArm}
use Rattle.dsde_language.specs.Names.{with_slot, Scope, slot_of, elapsed_name, type_number, variant_number}
use Rattle.dsde_language.specs.Typing.{slot_type, item_in, held_in, field_number, field_type, func_number, func_type, builtin_type}
use Rattle.dsde_language.specs.DeclaredOperators.{nested, sign_binary, builtin_of}

-- the expression with a number
abbrev pub expr_id : ℕ → ExprId
expr_id number = record { 0 = number }

-- the nodes of an expression in a scope, from the number of its first node on
abbrev pub Nodes : Type 0
Nodes = Scope → ℕ → List Node

-- What an expression is resolved to: its type in a scope, and its nodes.
pub record Resolved : Type 0 where
  pub ty : Scope → Ty
  pub nodes : Nodes

-- an expression whose type is always the same
abbrev pub of_type : Ty → Nodes → Resolved
of_type own nodes = record { ty = λ scope. own; nodes = nodes }

-- what a link of a chain makes of all that stands before it
abbrev pub Link : Type 0
Link = Resolved → Resolved

-- the nodes of parts, one part after another, and the number of each part
abbrev pub all_nodes : List Resolved → Nodes
all_nodes [] scope start = []
all_nodes (part ∷ parts) scope start =
    part.nodes scope start ++ all_nodes parts scope (start + length (part.nodes scope start))

abbrev pub numbers : List Resolved → Scope → ℕ → List ExprId
numbers [] scope start = []
numbers (part ∷ parts) scope start =
    expr_id start ∷ numbers parts scope (start + length (part.nodes scope start))

-- a node of one part, and of two
abbrev pub over_one : (ExprId → Node) → Nodes → Nodes
over_one own part scope start = own (expr_id (start + 1)) ∷ part scope (start + 1)

abbrev pub over_two : (ExprId → ExprId → Node) → Nodes → Nodes → Nodes
over_two own first second scope start =
    let middle = start + 1 + length (first scope (start + 1)) in
    own (expr_id (start + 1)) (expr_id middle) ∷ first scope (start + 1) ++ second scope middle

-- a node of a list of parts
abbrev pub over_all : (List ExprId → Node) → List Resolved → Nodes
over_all own parts scope start = own (numbers parts scope (start + 1)) ∷ all_nodes parts scope (start + 1)

-- what stands for an arm of `if`: its condition and its value
pub record Arm : Type 0 where
  pub cond : Nodes
  pub value : Nodes

-- "or" and "and"
abbrev pub tail_step : Binary → Tail-F Resolved Link Arm Resolved Link (Binary → Link) → Link
tail_step which tail left = of_type ty.Bool (over_two (node.Binary which tail.at) left.nodes tail.value.nodes)

-- "+" and the other signs between two of one type
abbrev pub sign_tail_step : SignTail-F Resolved Link Arm Resolved Link (Binary → Link) → Link
sign_tail_step tail left =
    record { ty = left.ty; nodes = over_two (node.Binary (sign_binary tail.sign) tail.at) left.nodes tail.value.nodes }

abbrev pub suffix_step : Known → Suffix-F Resolved Link Arm Resolved Link (Binary → Link) → Link
suffix_step known (Suffix-F.Field at name) left = record {
  ty = λ scope. field_type known (left.ty scope) name.name;
  nodes = λ scope. over_one (node.Field (field_number known (left.ty scope) name.name)) left.nodes scope;
}
suffix_step known (Suffix-F.Index at value) left =
    record { ty = λ scope. item_in (left.ty scope); nodes = over_two (node.Index at) left.nodes value.nodes }
suffix_step known (Suffix-F.Unwrap at) left =
    record { ty = λ scope. held_in (left.ty scope); nodes = over_one (node.Unwrap at) left.nodes }

-- the type of the first of some parts
abbrev pub head_type : List Resolved → Scope → Ty
head_type [] scope = ty.Int
head_type (part ∷ parts) scope = part.ty scope

-- the node of a builtin; `some` has one of its own
abbrev pub builtin_node : Key → ℕ → List ExprId → Node
builtin_node key.SomeOf at (part ∷ parts) = node.Some part
builtin_node which at parts = node.Builtin (builtin_of which) at parts

-- the nodes of a comprehension's condition, if there is one, and its number
abbrev pub cond_nodes : Option Resolved → Nodes
cond_nodes None scope start = []
cond_nodes (Some cond) scope start = cond.nodes scope start

abbrev pub cond_number : Option Resolved → ℕ → Option ExprId
cond_number None start = None
cond_number (Some cond) start = Some (expr_id start)

-- a comprehension: the list, and over its name the condition and the value
abbrev pub each_nodes : Id → Resolved → Option Resolved → Resolved → Nodes
each_nodes name list cond value scope start =
    let second = start + 1 + length (list.nodes scope (start + 1)) in
    let inside = with_slot scope name.name (item_in (list.ty scope)) in
    let third = second + length (cond_nodes cond inside second) in
    node.Each (expr_id (start + 1)) (cond_number cond second) (expr_id third)
    ∷ list.nodes scope (start + 1) ++ cond_nodes cond inside second ++ value.nodes inside third

-- arms: their nodes, and their numbers
abbrev pub arm_nodes : List Arm → Nodes
arm_nodes [] scope start = []
arm_nodes (arm ∷ arms) scope start =
    let second = start + length (arm.cond scope start) in
    let behind = second + length (arm.value scope second) in
    arm.cond scope start ++ arm.value scope second ++ arm_nodes arms scope behind

abbrev pub arm_numbers : List Arm → Scope → ℕ → List NodeArm
arm_numbers [] scope start = []
arm_numbers (arm ∷ arms) scope start =
    let second = start + length (arm.cond scope start) in
    let behind = second + length (arm.value scope second) in
    record { cond = expr_id start; value = expr_id second } ∷ arm_numbers arms scope behind

abbrev pub if_nodes : List Arm → Resolved → Nodes
if_nodes arms other scope start =
    let last = start + 1 + length (arm_nodes arms scope (start + 1)) in
    node.If (arm_numbers arms scope (start + 1)) (expr_id last) ∷ arm_nodes arms scope (start + 1) ++ other.nodes scope last

-- the links of a chain of "or" or of "and"
abbrev pub words_of : Binary → List (Binary → Link) → List Link
words_of which tails = map (λ tail. tail which) tails

abbrev pub resolve_step : Known → Expr-F Resolved Link Arm Resolved Link (Binary → Link) → Resolved
resolve_step known (Expr-F.OrElse at left right) =
    record { ty = right.ty; nodes = over_two node.OrElse left.nodes right.nodes }
resolve_step known (Expr-F.Or first rest) = nested first (words_of binary.Or rest)
resolve_step known (Expr-F.And first rest) = nested first (words_of binary.And rest)
resolve_step known (Expr-F.Not at inner) = of_type ty.Bool (over_one node.Not inner.nodes)
resolve_step known (Expr-F.Compare which at left right) =
    of_type ty.Bool (over_two (node.Binary (sign_binary which) at) left.nodes right.nodes)
resolve_step known (Expr-F.Sum first rest) = nested first rest
resolve_step known (Expr-F.Mul first rest) = nested first rest
resolve_step known (Expr-F.Neg at inner) = of_type ty.Int (over_one (node.Neg at) inner.nodes)
resolve_step known (Expr-F.Post first suffixes) = nested first suffixes
resolve_step known (Expr-F.Number at value) = of_type ty.Int (λ scope start. node.Int (pos value) ∷ [])
resolve_step known (Expr-F.Truth at value) = of_type ty.Bool (λ scope start. node.Bool value ∷ [])
resolve_step known (Expr-F.Elapsed at) = of_type ty.Int (λ scope start. node.Slot (slot_of scope elapsed_name) ∷ [])
resolve_step known (Expr-F.Name id) =
    record { ty = λ scope. slot_type scope id.name; nodes = λ scope start. node.Slot (slot_of scope id.name) ∷ [] }
resolve_step known (Expr-F.Call name args) =
    of_type (func_type known name.name) (over_all (node.Call (func_number known name.name)) args)
resolve_step known (Expr-F.Variant owner variant) =
    of_type (ty.Enum (type_number known owner.name))
    (λ scope start. node.Variant (type_number known owner.name) (variant_number known owner.name variant.name) ∷ [])
resolve_step known (Expr-F.New at owner sets) =
    of_type (ty.Rec (type_number known owner.name)) (over_all (node.New (type_number known owner.name)) sets)
resolve_step known (Expr-F.NoneOf at own) = of_type (ty.Opt (by_text known.words own)) (λ scope start. node.Nothing ∷ [])
resolve_step known (Expr-F.EmptyOf at own) = of_type (ty.List (by_text known.words own)) (λ scope start. node.Empty ∷ [])
resolve_step known (Expr-F.Builtin which at args) =
    record { ty = λ scope. builtin_type which (head_type args scope); nodes = over_all (builtin_node which at) args }
resolve_step known (Expr-F.Paren at inner) = inner
resolve_step known (Expr-F.List at items) =
    record { ty = λ scope. ty.List (head_type items scope); nodes = over_all (node.List at) items }
resolve_step known (Expr-F.Each at name list cond value) = record {
  ty = λ scope. ty.List (value.ty (with_slot scope name.name (item_in (list.ty scope))));
  nodes = each_nodes name list cond value;
}
resolve_step known (Expr-F.If at arms other) = record { ty = other.ty; nodes = if_nodes arms other }

abbrev pub arm_step : ExprArm-F Resolved Link Arm Resolved Link (Binary → Link) → Arm
arm_step arm = record { cond = arm.cond.nodes; value = arm.value.nodes }

abbrev pub set_step : FieldSet-F Resolved Link Arm Resolved Link (Binary → Link) → Resolved
set_step set = set.value

abbrev pub tail_of : Tail-F Resolved Link Arm Resolved Link (Binary → Link) → Binary → Link
tail_of tail which = tail_step which tail

-- what an expression is resolved to, over what is known of its file
abbrev pub resolve : Known → Expr → Resolved
resolve known =
    fold-Expr Resolved Link Arm Resolved Link (Binary → Link) (resolve_step known) (suffix_step known) arm_step set_step sign_tail_step tail_of
