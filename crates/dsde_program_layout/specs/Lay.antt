-- The nodes of an expression laid behind a table: what the code does, step by step.
use Rattle.std.specs.Prelude.{ℕ, zero, suc, ◌-◌, pos, List, [], ◌∷◌, ◌++◌, length, map, Option, Some, None, slice_set, unwrap_or}
use Rattle.dsde_language.specs.given.words.key_Key.{Key}
use Rattle.dsde_language.specs.given.syntax.id_Id.{Id}
use Rattle.dsde_language.specs.given.syntax.expr_Expr.{Expr}
use Rattle.dsde_language.specs.given.syntax.expr_ExprArm.{ExprArm}
use Rattle.dsde_language.specs.given.syntax.expr_FieldSet.{FieldSet}
use Rattle.dsde_language.specs.given.syntax.expr_SignTail.{SignTail}
use Rattle.dsde_language.specs.given.syntax.expr_Suffix.{Suffix}
use Rattle.dsde_language.specs.given.syntax.expr_Tail.{Tail}
use Rattle.dsde_language.specs.given.syntax.expr_Expr_TheOpen.{Expr-F, Suffix-F, ExprArm-F, FieldSet-F, SignTail-F, Tail-F}
use Rattle.dsde_language.specs.given.syntax.expr_Expr_TheFolds.{fold-Expr, fold-Suffix, fold-ExprArm, fold-FieldSet, fold-SignTail, fold-Tail}
use Rattle.dsde_language.specs.given.values.types_Ty.{Ty}
use Rattle.dsde_language.specs.given.values.types_Ty_TheVariants as ty
use Rattle.dsde_language.specs.declared.known.Known.{Known}
use Rattle.dsde_language.specs.RuleTables.{by_text}
use Rattle.dsde_language.specs.declared.node_ids.ExprId.{ExprId}
use Rattle.dsde_language.specs.declared.operator.Binary.{Binary}
use Rattle.dsde_language.specs.declared.operator.Binary.TheVariants as binary
use Rattle.dsde_language.specs.declared.node.Node.{Node}
use Rattle.dsde_language.specs.declared.node.Node.TheVariants as node
use Rattle.dsde_language.specs.declared.node.NodeArm.{NodeArm}
use Rattle.dsde_language.specs.Names.{Scope, with_slot, slot_of, elapsed_name, type_number, variant_number}
use Rattle.dsde_language.specs.Typing.{slot_type, item_in, held_in, field_number, field_type, func_number, func_type, builtin_type}
use Rattle.dsde_language.specs.DeclaredOperators.{sign_binary}
use Rattle.dsde_language.specs.Expressions.{expr_id, builtin_node}

abbrev pub Table : Type 0
Table = List Node

-- what is laid for an expression: its type, and the table behind it
pub record Laid : Type 0 where
  pub ty : Ty
  pub table : Table

-- an expression in a scope, behind a table
abbrev pub Lay : Type 0
Lay = Scope → Table → Laid

-- a link of a chain behind what has a type and a number, with its node in front of that
abbrev pub Link : Type 0
Link = Ty → Scope → ℕ → Table → Laid

-- a table with room for one more node
abbrev pub roomy : Table → Table
roomy table = table ++ node.Nothing ∷ []

-- a table with room for more nodes
abbrev pub rooms : ℕ → Table → Table
rooms zero table = table
rooms (suc count) table = roomy (rooms count table)

-- a node in room that was kept for it
abbrev pub put : Ty → Table → ℕ → Node → Laid
put ty table number own = record { ty = ty; table = slice_set table number own }

-- one more node
abbrev pub leaf : Ty → Table → Node → Laid
leaf ty table own = record { ty = ty; table = table ++ own ∷ [] }

-- parts: the table behind them, and their numbers
abbrev pub lay_all : List Lay → Scope → Table → Table
lay_all [] scope table = table
lay_all (part ∷ parts) scope table = lay_all parts scope (part scope table).table

abbrev pub numbers : List Lay → Scope → Table → List ExprId
numbers [] scope table = []
numbers (part ∷ parts) scope table = expr_id (length table) ∷ numbers parts scope (part scope table).table

-- the type of the first part, or the one that was kept of those before
abbrev pub kept : Option Ty → Ty → Option Ty
kept None own = Some own
kept (Some first) own = Some first

abbrev pub head_from : Option Ty → List Lay → Scope → Table → Option Ty
head_from first [] scope table = first
head_from first (part ∷ parts) scope table =
    head_from (kept first (part scope table).ty) parts scope (part scope table).table

abbrev pub head_type : List Lay → Scope → Table → Ty
head_type parts scope table = unwrap_or (head_from None parts scope table) ty.Int

-- links behind what has a number, the last one's node first
abbrev pub lay_links : List Link → Link
lay_links [] own scope left table = record { ty = own; table = table }
lay_links (link ∷ links) own scope left table =
    let one = link own scope left table in
    lay_links links one.ty scope (left - 1) one.table

abbrev pub lay_chain : Lay → List Link → Lay
lay_chain first links scope table =
    let base = rooms (length links) table in
    let one = first scope base in
    lay_links links one.ty scope (length base) one.table

-- an arm of `if`: its condition and its value
pub record Arm : Type 0 where
  pub cond : Lay
  pub value : Lay

-- a node of one part, and of two
abbrev pub lay_one : Ty → (ExprId → Node) → Lay → Lay
lay_one own made part scope table =
    put own (part scope (roomy table)).table (length table) (made (expr_id (length (roomy table))))

-- the two parts of a node, the second behind the first
abbrev pub lay_two : (Ty → Ty → Ty) → (ExprId → ExprId → Node) → Lay → Lay → Lay
lay_two own made first second scope table =
    let one = first scope (roomy table) in
    let two = second scope one.table in
    put (own one.ty two.ty) two.table (length table) (made (expr_id (length (roomy table))) (expr_id (length one.table)))

abbrev pub tail_step : Binary → Tail-F Lay Link Arm Lay Link (Binary → Link) → Link
tail_step which tail own scope left table =
    put ty.Bool (tail.value scope table).table (left - 1) (node.Binary which tail.at (expr_id left) (expr_id (length table)))

abbrev pub sign_tail_step : SignTail-F Lay Link Arm Lay Link (Binary → Link) → Link
sign_tail_step tail own scope left table =
    put own (tail.value scope table).table (left - 1) (node.Binary (sign_binary tail.sign) tail.at (expr_id left) (expr_id (length table)))

abbrev pub suffix_step : Known → Suffix-F Lay Link Arm Lay Link (Binary → Link) → Link
suffix_step known (Suffix-F.Field at name) own scope left table =
    put (field_type known own name.name) table (left - 1) (node.Field (field_number known own name.name) (expr_id left))
suffix_step known (Suffix-F.Index at value) own scope left table =
    put (item_in own) (value scope table).table (left - 1) (node.Index at (expr_id left) (expr_id (length table)))
suffix_step known (Suffix-F.Unwrap at) own scope left table =
    put (held_in own) table (left - 1) (node.Unwrap at (expr_id left))

-- a node of a list of parts
abbrev pub lay_parts : Ty → (List ExprId → Node) → List Lay → Lay
lay_parts own made parts scope table =
    put own (lay_all parts scope (roomy table)) (length table) (made (numbers parts scope (roomy table)))

abbrev pub lay_builtin : Key → ℕ → List Lay → Lay
lay_builtin which at parts scope table =
    lay_parts (builtin_type which (head_type parts scope (roomy table))) (builtin_node which at) parts scope table

-- a condition, if there is one: the table behind it, and its number
abbrev pub lay_cond : Option Lay → Scope → Table → Table
lay_cond None scope table = table
lay_cond (Some cond) scope table = (cond scope table).table

abbrev pub cond_number : Option Lay → Table → Option ExprId
cond_number None table = None
cond_number (Some cond) table = Some (expr_id (length table))

abbrev pub lay_each : Id → Lay → Option Lay → Lay → Lay
lay_each name list cond value scope table =
    let one = list scope (roomy table) in
    let inside = with_slot scope name.name (item_in one.ty) in
    let two = lay_cond cond inside one.table in
    let three = value inside two in
    put (ty.List three.ty) three.table (length table)
    (node.Each (expr_id (length (roomy table))) (cond_number cond one.table) (expr_id (length two)))

-- arms: the table behind them, and their numbers
abbrev pub lay_arms : List Arm → Scope → Table → Table
lay_arms [] scope table = table
lay_arms (arm ∷ arms) scope table = lay_arms arms scope (arm.value scope (arm.cond scope table).table).table

abbrev pub arm_numbers : List Arm → Scope → Table → List NodeArm
arm_numbers [] scope table = []
arm_numbers (arm ∷ arms) scope table =
    let one = (arm.cond scope table).table in
    record { cond = expr_id (length table); value = expr_id (length one) } ∷ arm_numbers arms scope (arm.value scope one).table

abbrev pub lay_if : List Arm → Lay → Lay
lay_if arms other scope table =
    let one = lay_arms arms scope (roomy table) in
    let two = other scope one in
    put two.ty two.table (length table) (node.If (arm_numbers arms scope (roomy table)) (expr_id (length one)))

abbrev pub words_of : Binary → List (Binary → Link) → List Link
words_of which tails = map (λ tail. tail which) tails

abbrev pub lay_step : Known → Expr-F Lay Link Arm Lay Link (Binary → Link) → Lay
lay_step known (Expr-F.OrElse at left right) scope table = lay_two (λ one two. two) node.OrElse left right scope table
lay_step known (Expr-F.Or first rest) scope table = lay_chain first (words_of binary.Or rest) scope table
lay_step known (Expr-F.And first rest) scope table = lay_chain first (words_of binary.And rest) scope table
lay_step known (Expr-F.Not at inner) scope table = lay_one ty.Bool node.Not inner scope table
lay_step known (Expr-F.Compare which at left right) scope table =
    lay_two (λ one two. ty.Bool) (node.Binary (sign_binary which) at) left right scope table
lay_step known (Expr-F.Sum first rest) scope table = lay_chain first rest scope table
lay_step known (Expr-F.Mul first rest) scope table = lay_chain first rest scope table
lay_step known (Expr-F.Neg at inner) scope table = lay_one ty.Int (node.Neg at) inner scope table
lay_step known (Expr-F.Post first suffixes) scope table = lay_chain first suffixes scope table
lay_step known (Expr-F.Number at value) scope table = leaf ty.Int table (node.Int (pos value))
lay_step known (Expr-F.Truth at value) scope table = leaf ty.Bool table (node.Bool value)
lay_step known (Expr-F.Elapsed at) scope table = leaf ty.Int table (node.Slot (slot_of scope elapsed_name))
lay_step known (Expr-F.Name id) scope table = leaf (slot_type scope id.name) table (node.Slot (slot_of scope id.name))
lay_step known (Expr-F.Call name args) scope table =
    lay_parts (func_type known name.name) (node.Call (func_number known name.name)) args scope table
lay_step known (Expr-F.Variant owner variant) scope table =
    leaf (ty.Enum (type_number known owner.name)) table
    (node.Variant (type_number known owner.name) (variant_number known owner.name variant.name))
lay_step known (Expr-F.New at owner sets) scope table =
    lay_parts (ty.Rec (type_number known owner.name)) (node.New (type_number known owner.name)) sets scope table
lay_step known (Expr-F.NoneOf at own) scope table = leaf (ty.Opt (by_text known.words own)) table node.Nothing
lay_step known (Expr-F.EmptyOf at own) scope table = leaf (ty.List (by_text known.words own)) table node.Empty
lay_step known (Expr-F.Builtin which at args) scope table = lay_builtin which at args scope table
lay_step known (Expr-F.Paren at inner) scope table = inner scope table
lay_step known (Expr-F.List at items) scope table =
    lay_parts (ty.List (head_type items scope (roomy table))) (node.List at) items scope table
lay_step known (Expr-F.Each at name list cond value) scope table = lay_each name list cond value scope table
lay_step known (Expr-F.If at arms other) scope table = lay_if arms other scope table

abbrev pub arm_step : ExprArm-F Lay Link Arm Lay Link (Binary → Link) → Arm
arm_step arm = record { cond = arm.cond; value = arm.value }

abbrev pub set_step : FieldSet-F Lay Link Arm Lay Link (Binary → Link) → Lay
set_step set = set.value

abbrev pub tail_of : Tail-F Lay Link Arm Lay Link (Binary → Link) → Binary → Link
tail_of tail which = tail_step which tail

-- an expression, over what is known of its file
abbrev pub lay : Known → Expr → Lay
lay known = fold-Expr Lay Link Arm Lay Link (Binary → Link) (lay_step known) (suffix_step known) arm_step set_step sign_tail_step tail_of

abbrev pub lay_suffix : Known → Suffix → Link
lay_suffix known = fold-Suffix Lay Link Arm Lay Link (Binary → Link) (lay_step known) (suffix_step known) arm_step set_step sign_tail_step tail_of

abbrev pub lay_arm : Known → ExprArm → Arm
lay_arm known = fold-ExprArm Lay Link Arm Lay Link (Binary → Link) (lay_step known) (suffix_step known) arm_step set_step sign_tail_step tail_of

abbrev pub lay_set : Known → FieldSet → Lay
lay_set known = fold-FieldSet Lay Link Arm Lay Link (Binary → Link) (lay_step known) (suffix_step known) arm_step set_step sign_tail_step tail_of

abbrev pub lay_sign_tail : Known → SignTail → Link
lay_sign_tail known = fold-SignTail Lay Link Arm Lay Link (Binary → Link) (lay_step known) (suffix_step known) arm_step set_step sign_tail_step tail_of

abbrev pub lay_tail : Known → Tail → Binary → Link
lay_tail known = fold-Tail Lay Link Arm Lay Link (Binary → Link) (lay_step known) (suffix_step known) arm_step set_step sign_tail_step tail_of
