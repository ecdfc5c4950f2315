-- What expressions and statements mean, over the names that they see.
use Rattle.std.specs.Prelude.{ℕ, pos, Bool, true, if◌then◌else◌, List, [], ◌∷◌, ◌++◌, length, map, take, Option, Some, None, unwrap_or, Ok, Err, slice_get, slice_set}
use Rattle.std.specs.Option.{option_map}
use Rattle.dsde_names.specs.Table.{place_of, named}
use Rattle.dsde_syntax.specs.given.words.key_Key.{Key}
use Rattle.dsde_syntax.specs.given.words.key_Key_TheVariants as key
use Rattle.dsde_syntax.specs.declared.expr.Expr.{Expr}
use Rattle.dsde_syntax.specs.declared.expr.Expr.TheOpen.{Expr-F, Suffix-F, ExprArm-F, FieldSet-F, SignTail-F, Tail-F}
use Rattle.dsde_syntax.specs.declared.expr.Expr.TheFolds.{fold-Expr}
use Rattle.dsde_syntax.specs.declared.stmt.Stmt.{Stmt}
use Rattle.dsde_syntax.specs.declared.stmt.Stmt.TheOpen.{Stmt-F, StmtArm-F}
use Rattle.dsde_syntax.specs.declared.stmt.Stmt.TheFolds.{fold-Stmt, fold-StmtArm}
use Rattle.dsde_syntax.specs.declared.stmt.StmtArm.{StmtArm}
use Rattle.dsde_values.specs.declared.arrival.Item.{Item}
use Rattle.dsde_values.specs.declared.types.Field.{Field}
use Rattle.dsde_values.specs.declared.value.Value.{Value, out-Value}
use Rattle.dsde_values.specs.declared.value.Value.TheOpen as layer
use Rattle.dsde_values.specs.declared.value.Value.TheVariants as value
use Rattle.dsde_language.specs.declared.known.Known.{Known}
use Rattle.dsde_language.specs.RuleTables.{field_name}
use Rattle.dsde_language.specs.Judge.{fields_at}
use Rattle.dsde_language.specs.declared.operator.Binary.{Binary}
use Rattle.dsde_language.specs.declared.operator.Binary.TheVariants as binary
use Rattle.dsde_language.specs.Names.{elapsed_name, slot_of, type_number, variant_number}
use Rattle.dsde_language.specs.DeclaredOperators.{nested, sign_binary, builtin_of}
use Rattle.dsde_language.specs.Outcome.{Outcome, Stuck, ◌>>=◌, present, truth_of, items_of}
use Rattle.dsde_language.specs.MeaningOperators.{combined, denied, negated, or_else, unwrapped, indexed, listed, of_one, of_two, of_three}
use Rattle.dsde_language.specs.Flow.{Flow, stopped, over, inside}

-- a name and its value; `elapsed` is one of them, under its word
pub record Var : Type 0 where
  pub name : List ℕ
  pub value : Value

abbrev pub Vars : Type 0
Vars = List Var

abbrev pub var_name : Var → List ℕ
var_name var = var.name

-- what an expression comes to, over the names that it sees
abbrev pub Mean : Type 0
Mean = Vars → Outcome Value

-- what a link of a chain makes of all that stands before it
abbrev pub On : Type 0
On = Mean → Mean

-- an arm of `if`: its condition, and its value
pub record ArmMean : Type 0 where
  pub cond : Mean
  pub value : Mean

-- a function: what it makes of its arguments
pub record Function : Type 0 where
  pub name : List ℕ
  pub run : List Value → Outcome Value

abbrev pub function_name : Function → List ℕ
function_name function = function.name

-- the value of a name
abbrev pub value_named : Vars → List ℕ → Outcome Value
value_named vars name = present (named var_name vars name) >>= (λ var. Ok var.value)

-- the values so far, and those of the parts behind them
abbrev pub values_of : List Value → List Mean → Vars → Outcome (List Value)
values_of done [] vars = Ok done
values_of done (part ∷ parts) vars = part vars >>= (λ value. values_of (done ++ value ∷ []) parts vars)

-- a function of this name, over its arguments
abbrev pub called : List Function → List ℕ → List Value → Outcome Value
called functions name values = present (named function_name functions name) >>= (λ function. function.run values)

-- the field of this name
abbrev pub part_named : Known → List ℕ → ℕ → List Value → Outcome Value
part_named known name number parts =
    present (place_of field_name (unwrap_or (fields_at known number) []) name) >>= (λ place. present (slice_get parts place))

abbrev pub field_named : Known → List ℕ → Value → Outcome Value
field_named known name own =
    elim (out-Value own) [ layer.Rec number parts ↦ part_named known name number parts | _ ↦ Err Stuck ]

-- one more variable
abbrev pub with_var : List ℕ → Value → Vars → Vars
with_var name own vars = vars ++ record { name = name; value = own } ∷ []

-- whether a condition holds; one that is left out does
abbrev pub holds : Option Mean → Vars → Outcome Bool
holds None vars = Ok true
holds (Some cond) vars = cond vars >>= (λ test. truth_of test)

-- a comprehension: the values so far, and those of the items behind them
abbrev pub kept_of : Mean → List Value → Bool → Vars → Outcome (List Value)
kept_of part done keep vars = if keep then (part vars >>= (λ value. Ok (done ++ value ∷ []))) else Ok done

abbrev pub each_of : List ℕ → Option Mean → Mean → List Value → List Value → Vars → Outcome (List Value)
each_of name cond part done [] vars = Ok done
each_of name cond part done (item ∷ items) vars =
    holds cond (with_var name item vars) >>= (λ keep.
    kept_of part done keep (with_var name item vars) >>= (λ more.
    each_of name cond part more items vars))

-- the value behind the first condition that holds, and else the last one
abbrev pub arms_of : List ArmMean → Mean → Mean
arms_of [] other vars = other vars
arms_of (arm ∷ arms) other vars =
    arm.cond vars >>= (λ test. truth_of test >>= (λ truth. if truth then arm.value vars else arms_of arms other vars))

-- a builtin of its arguments
abbrev pub builtin_mean : Key → ℕ → List Mean → Mean
builtin_mean key.SomeOf at (one ∷ []) vars = one vars >>= (λ own. Ok (value.Some own))
builtin_mean which at (one ∷ []) vars = one vars >>= (λ first. of_one (builtin_of which) first)
builtin_mean which at (one ∷ two ∷ []) vars =
    one vars >>= (λ first. two vars >>= (λ second. of_two (builtin_of which) at first second))
builtin_mean which at (one ∷ two ∷ three ∷ []) vars =
    one vars >>= (λ first. two vars >>= (λ second. three vars >>= (λ third. of_three (builtin_of which) at first second third)))
builtin_mean which at _ vars = Err Stuck

-- "or" and "and"
abbrev pub tail_step : Tail-F Mean On ArmMean Mean On (Binary → On) → Binary → On
tail_step tail which left vars = left vars >>= (λ own. combined which tail.at own (tail.value vars))

-- "+" and the other signs
abbrev pub sign_tail_step : SignTail-F Mean On ArmMean Mean On (Binary → On) → On
sign_tail_step tail left vars = left vars >>= (λ own. combined (sign_binary tail.sign) tail.at own (tail.value vars))

-- the links of a chain of "or" or of "and"
abbrev pub words_of : Binary → List (Binary → On) → List On
words_of which tails = map (λ tail. tail which) tails

abbrev pub suffix_step : Known → Suffix-F Mean On ArmMean Mean On (Binary → On) → On
suffix_step known (Suffix-F.Field at name) left vars = left vars >>= (λ own. field_named known name.name own)
suffix_step known (Suffix-F.Index at index) left vars = left vars >>= (λ list. index vars >>= (λ own. indexed at list own))
suffix_step known (Suffix-F.Unwrap at) left vars = left vars >>= (λ own. unwrapped at own)

abbrev pub arm_step : ExprArm-F Mean On ArmMean Mean On (Binary → On) → ArmMean
arm_step arm = record { cond = arm.cond; value = arm.value }

abbrev pub set_step : FieldSet-F Mean On ArmMean Mean On (Binary → On) → Mean
set_step set = set.value

-- Parts are evaluated from left to right, then the operator; "or", "and", `if` and `??` evaluate
-- only what they need.
abbrev pub mean_step : Known → List Function → Expr-F Mean On ArmMean Mean On (Binary → On) → Mean
mean_step known functions (Expr-F.OrElse at left right) vars = left vars >>= (λ own. or_else own (right vars))
mean_step known functions (Expr-F.Or first rest) vars = nested first (words_of binary.Or rest) vars
mean_step known functions (Expr-F.And first rest) vars = nested first (words_of binary.And rest) vars
mean_step known functions (Expr-F.Not at inner) vars = inner vars >>= (λ own. denied own)
mean_step known functions (Expr-F.Compare which at left right) vars =
    left vars >>= (λ own. combined (sign_binary which) at own (right vars))
mean_step known functions (Expr-F.Sum first rest) vars = nested first rest vars
mean_step known functions (Expr-F.Mul first rest) vars = nested first rest vars
mean_step known functions (Expr-F.Neg at inner) vars = inner vars >>= (λ own. negated at own)
mean_step known functions (Expr-F.Post first suffixes) vars = nested first suffixes vars
mean_step known functions (Expr-F.Number at number) vars = Ok (value.Int (pos number))
mean_step known functions (Expr-F.Truth at truth) vars = Ok (value.Bool truth)
mean_step known functions (Expr-F.Elapsed at) vars = value_named vars elapsed_name
mean_step known functions (Expr-F.Name id) vars = value_named vars id.name
mean_step known functions (Expr-F.Call name args) vars =
    values_of [] args vars >>= (λ values. called functions name.name values)
mean_step known functions (Expr-F.Variant owner variant) vars =
    Ok (value.Enum (type_number known owner.name) (variant_number known owner.name variant.name))
mean_step known functions (Expr-F.New at owner sets) vars =
    values_of [] sets vars >>= (λ values. Ok (value.Rec (type_number known owner.name) values))
mean_step known functions (Expr-F.NoneOf at own) vars = Ok value.Nothing
mean_step known functions (Expr-F.EmptyOf at own) vars = Ok (value.List [])
mean_step known functions (Expr-F.Builtin which at args) vars = builtin_mean which at args vars
mean_step known functions (Expr-F.Paren at inner) vars = inner vars
mean_step known functions (Expr-F.List at items) vars = values_of [] items vars >>= (λ values. listed at values)
mean_step known functions (Expr-F.Each at name list cond part) vars =
    list vars >>= (λ own.
    items_of own >>= (λ items.
    each_of name.name cond part [] items vars >>= (λ values. Ok (value.List values))))
mean_step known functions (Expr-F.If at arms other) vars = arms_of arms other vars

-- what an expression means, over what is known of its file and the functions that it may call
abbrev pub mean : Known → List Function → Expr → Mean
mean known functions =
    fold-Expr Mean On ArmMean Mean On (Binary → On) (mean_step known functions) (suffix_step known) arm_step set_step sign_tail_step tail_step

-- the variables, and what was sent by which out port
pub record Scene : Type 0 where
  pub vars : Vars
  pub sends : List Item

-- what a statement does
abbrev pub Walk : Type 0
Walk = Scene → Flow Scene Scene

abbrev pub scene : Vars → List Item → Scene
scene vars sends = record { vars = vars; sends = sends }

abbrev pub bound : List ℕ → Value → Scene → Scene
bound name own before = scene (with_var name own before.vars) before.sends

-- the variables that there were before braces
abbrev pub cut_vars : ℕ → Scene → Scene
cut_vars size before = scene (take size before.vars) before.sends

-- statements in their order
abbrev pub walk_all : List Walk → Walk
walk_all [] before = Ok before
walk_all (walk ∷ walks) before = walk before >>= (λ after. walk_all walks after)

-- statements in braces
abbrev pub braced : Walk → Walk
braced body before = inside (cut_vars (length before.vars)) (body before)

-- An assignment changes the variable for all that follows.
abbrev pub set_at : Option ℕ → List ℕ → Value → Walk
set_at None name own before = stopped before Stuck
set_at (Some place) name own before = Ok (scene (slice_set before.vars place (record { name = name; value = own })) before.sends)

abbrev pub set_var : List ℕ → Value → Walk
set_var name own before = set_at (place_of var_name before.vars name) name own before

-- an arm of `if`: its condition, and what stands in its braces
pub record ArmWalk : Type 0 where
  pub cond : Mean
  pub body : Walk

abbrev pub last_walk : Option Walk → Walk
last_walk None before = Ok before
last_walk (Some body) before = braced body before

abbrev pub test_in : Mean → Scene → Flow Scene Bool
test_in cond before = over before (cond before.vars >>= (λ test. truth_of test))

-- the braces behind the first condition that holds
abbrev pub arms_walk : List ArmWalk → Option Walk → Walk
arms_walk [] last before = last_walk last before
arms_walk (arm ∷ arms) last before =
    test_in arm.cond before >>= (λ truth. if truth then braced arm.body before else arms_walk arms last before)

-- `for`: its braces for each item in order
abbrev pub for_one : List ℕ → Walk → Value → Walk
for_one name body item before = inside (cut_vars (length before.vars)) (body (bound name item before))

abbrev pub for_walk : List ℕ → Walk → List Value → Walk
for_walk name body [] before = Ok before
for_walk name body (item ∷ items) before = for_one name body item before >>= (λ after. for_walk name body items after)

abbrev pub stmt_step : Known → List Function → List Field → Stmt-F Walk ArmWalk → Walk
stmt_step known functions outs (Stmt-F.Let mutable name part) before =
    over before (mean known functions part before.vars) >>= (λ own. Ok (bound name.name own before))
stmt_step known functions outs (Stmt-F.Set name part) before =
    over before (mean known functions part before.vars) >>= (λ own. set_var name.name own before)
stmt_step known functions outs (Stmt-F.Send port part) before =
    over before (mean known functions part before.vars) >>= (λ own.
    Ok (scene before.vars (before.sends ++ record { port = slot_of outs port.name; value = own } ∷ [])))
stmt_step known functions outs (Stmt-F.If arms other) before = arms_walk arms (option_map walk_all other) before
-- The list is evaluated once.
stmt_step known functions outs (Stmt-F.For name list body) before =
    over before (mean known functions list before.vars >>= (λ own. items_of own)) >>= (λ items.
    for_walk name.name (walk_all body) items before)

abbrev pub stmt_arm_step : Known → List Function → StmtArm-F Walk ArmWalk → ArmWalk
stmt_arm_step known functions arm = record { cond = mean known functions arm.cond; body = walk_all arm.body }

-- what a statement does, where these are the out ports of its body
abbrev pub walk : Known → List Function → List Field → Stmt → Walk
walk known functions outs = fold-Stmt Walk ArmWalk (stmt_step known functions outs) (stmt_arm_step known functions)

abbrev pub walk_arm : Known → List Function → List Field → StmtArm → ArmWalk
walk_arm known functions outs = fold-StmtArm Walk ArmWalk (stmt_step known functions outs) (stmt_arm_step known functions)

-- the statements of a block
abbrev pub block : Known → List Function → List Field → List Stmt → Walk
block known functions outs stmts = walk_all (map (walk known functions outs) stmts)
