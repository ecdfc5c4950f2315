-- What is seen of an expression, or the first wrong thing in it. Each construct has one step, which
-- is read beside its rule above it; its parts are looked at from left to right.
use Rattle.std.specs.Prelude.{ℕ, ◌+◌, ◌==◌, min, max, nat_lt, Bool, true, false, not, ◌&&◌, if◌then◌else◌, List, [], ◌∷◌, ◌++◌, length, Option, Some, None, Result, Ok, position, slice_get, unwrap_or, option_and_then}
use Rattle.std.specs.List.{list_any}
use Rattle.std.specs.Str.{bytes_eq}
use Rattle.dsde_names.specs.Table.{named, is_among}
use Rattle.dsde_syntax.specs.given.words.key_Key.{Key}
use Rattle.dsde_syntax.specs.given.words.key_Key_TheVariants as key
use Rattle.dsde_syntax.specs.declared.token.Sign.{Sign}
use Rattle.dsde_syntax.specs.declared.token.Sign.TheVariants as sign
use Rattle.dsde_syntax.specs.declared.id.Id.{Id}
use Rattle.dsde_syntax.specs.declared.type_name.TypeName.{TypeName}
use Rattle.dsde_syntax.specs.declared.type_name.TypeName.TheOpen.{TypeName-F}
use Rattle.dsde_syntax.specs.declared.type_name.TypeName.TheFolds.{fold-TypeName}
use Rattle.dsde_syntax.specs.declared.expr.Expr.{Expr}
use Rattle.dsde_syntax.specs.declared.expr.Expr.TheOpen.{Expr-F, Suffix-F, ExprArm-F, FieldSet-F, SignTail-F, Tail-F}
use Rattle.dsde_syntax.specs.declared.expr.Expr.TheFolds.{fold-Expr}
use Rattle.dsde_values.specs.declared.types.Ty.{Ty, out-Ty}
use Rattle.dsde_values.specs.declared.types.Ty.TheOpen as layer
use Rattle.dsde_values.specs.declared.types.Ty.TheVariants as ty
use Rattle.dsde_values.specs.declared.types.Field.{Field}
use Rattle.dsde_values.specs.declared.types.Shape.{Shape}
use Rattle.dsde_values.specs.declared.types.Shape.TheVariants as shape
use Rattle.dsde_values.specs.Value.{fields}
use Rattle.dsde_language.specs.declared.builtin.Gives.{Gives}
use Rattle.dsde_language.specs.declared.builtin.Gives.TheVariants as gives
use Rattle.dsde_language.specs.declared.builtin.Part.{Part}
use Rattle.dsde_language.specs.declared.builtin.Part.TheVariants as part
use Rattle.dsde_language.specs.declared.builtin.Row.{Row}
use Rattle.dsde_language.specs.declared.known.Around.{Around}
use Rattle.dsde_language.specs.declared.known.Known.{Known}
use Rattle.dsde_language.specs.declared.seen.Binding.{Binding}
use Rattle.dsde_language.specs.declared.seen.BindingKind.TheVariants as kind
use Rattle.dsde_language.specs.declared.seen.Fitted.{Fitted}
use Rattle.dsde_language.specs.declared.seen.Seen.{Seen}
use Rattle.dsde_language.specs.declared.seen.TypeSeen.{TypeSeen}
use Rattle.dsde_language.specs.declared.signatures.Func.{Func}
use Rattle.dsde_language.specs.declared.wrong.Wrong.{Wrong}
use Rattle.dsde_language.specs.declared.wrong.WrongKind.TheVariants.{Duplicate, Unknown, WrongType, NotTotal, Limit}
use Rattle.dsde_language.specs.Steps.{◌>>=◌, Test, wrong, unless, apart, above}
use Rattle.dsde_language.specs.Types.{depth_of, deeper, wanted, item_type, held_type}
use Rattle.dsde_language.specs.RuleTables.{binding_name, field_name, func_name}

-- the names that are seen, and what they are bound to
abbrev pub Scope : Type 0
Scope = List Binding

-- what a name is bound to
abbrev pub bound_to : Scope → List ℕ → Option Binding
bound_to = named binding_name

-- A name differs from those in scope.
abbrev pub unbound : Scope → Id → Test
unbound scope id = unless (is_among binding_name scope id.name) Duplicate id.at

-- A name that is bound differs from those of its body and from those in scope.
abbrev pub fresh : Around → Id → Scope → Test
fresh around id scope = apart around.reserved id >>= (λ _. unbound scope id)

-- a name that is bound and not assigned to
abbrev pub fixed : Id → Ty → Binding
fixed id ty = record { name = id.name; ty = ty; kind = kind.Fixed }

-- a type that is no deeper than 64
abbrev pub made_type : Ty → ℕ → ℕ → Result TypeSeen Wrong
made_type ty depth at = if nat_lt 64 depth then wrong Limit at else Ok (record { ty = ty; depth = depth })

-- the number of a type that is declared before
abbrev pub declared_type : Known → List ℕ → Option ℕ
declared_type known name = position (λ own. bytes_eq own name) known.before

-- the variants of an enum
abbrev pub variants_in : Shape → Option (List (List ℕ))
variants_in (shape.Enum variants) = Some variants
variants_in (shape.Rec _) = None

-- the variants of the enum with a number, and the fields of the record with a number
abbrev pub variants_at : Known → ℕ → Option (List (List ℕ))
variants_at known number = option_and_then variants_in (slice_get known.types number)

abbrev pub fields_at : Known → ℕ → Option (List Field)
fields_at known number = option_and_then fields (slice_get known.types number)

-- the type with a number
abbrev pub type_at : Known → ℕ → Ty
type_at known number = elim (variants_at known number) [ None ↦ ty.Rec number | Some variants ↦ ty.Enum number ]

-- An identifier is that of an enum or a record that is declared before.
abbrev pub type_of_id : Known → Id → Result TypeSeen Wrong
type_of_id known id =
    elim (declared_type known id.name) [
      | None ↦ wrong Unknown id.at
      | Some number ↦
          Ok (record { ty = type_at known number; depth = unwrap_or (slice_get known.depths number) 0 })
    ]

abbrev pub type_step : Known → TypeName-F (Result TypeSeen Wrong) → Result TypeSeen Wrong
type_step known (TypeName-F.Int at) = Ok (record { ty = ty.Int; depth = 0 })
type_step known (TypeName-F.Bool at) = Ok (record { ty = ty.Bool; depth = 0 })
type_step known (TypeName-F.Named id) = type_of_id known id
type_step known (TypeName-F.List at inner) = inner >>= (λ seen. made_type (ty.List seen.ty) (deeper seen.depth) at)
type_step known (TypeName-F.Opt at inner) = inner >>= (λ seen. made_type (ty.Opt seen.ty) (deeper seen.depth) at)

-- a type as it is written
abbrev pub type_of : Known → TypeName → Result TypeSeen Wrong
type_of known = fold-TypeName (Result TypeSeen Wrong) (type_step known)

-- what is seen of an expression in a scope, or the first wrong thing in it
abbrev pub Judge : Type 0
Judge = Scope → Result Seen Wrong

-- an expression of a type, on parts of this height
abbrev pub seen_as : Ty → ℕ → ℕ → Result Seen Wrong
seen_as ty height at = Ok (record { ty = ty; height = above height; at = at })

-- An expression whose type may be deeper than those of its parts is no deeper than 64.
abbrev pub made : Around → Ty → ℕ → ℕ → Result Seen Wrong
made around ty height at =
    unless (nat_lt 64 (depth_of around.known.depths ty)) Limit at >>= (λ _. seen_as ty height at)

-- What may have no value stands in no translation.
abbrev pub total : Around → Bool → ℕ → Test
total around may_fault at = unless (around.is_total && may_fault) NotTotal at

-- what a link of a chain makes of what is seen of all that stands before it
abbrev pub Link : Type 0
Link = Seen → Judge

-- A chain is nested to the left: each link makes one of what stands before it.
abbrev pub links_from : Seen → List Link → Judge
links_from left [] scope = Ok left
links_from left (link ∷ links) scope = link left scope >>= (λ seen. links_from seen links scope)

abbrev pub chain : Judge → List Link → Judge
chain first links scope = first scope >>= (λ left. links_from left links scope)

-- A value behind a condition, if there is one: the condition is bool. The height is that of the
-- higher of them, and of what came before them.
abbrev pub Guarded : Type 0
Guarded = ℕ → Judge

-- a condition, if there is one: its height, or that of what came before it
abbrev pub test_of : Option Judge → ℕ → Scope → Result ℕ Wrong
test_of None height scope = Ok height
test_of (Some cond) height scope =
    cond scope >>= (λ test. wanted ty.Bool test >>= (λ _. Ok (max height test.height)))

abbrev pub guarded : Option Judge → Judge → Guarded
guarded cond value height scope =
    test_of cond height scope >>= (λ tested.
    value scope >>= (λ seen.
    Ok (record { ty = seen.ty; height = max tested seen.height; at = seen.at })))

-- a field of a new record, and what is seen of its value
pub record SetJudge : Type 0 where
  pub name : Id
  pub value : Judge

-- "or" and "and": both bool
abbrev pub tail_step : Tail-F Judge Link Guarded SetJudge Link Link → Link
tail_step tail left scope =
    wanted ty.Bool left >>= (λ _.
    tail.value scope >>= (λ right.
    wanted ty.Bool right >>= (λ _.
    seen_as ty.Bool (max left.height right.height) tail.at)))

-- "++" joins two lists of one type, and the other signs take and give whole numbers.
abbrev pub operand : Sign → Seen → Result Ty Wrong
operand sign.PlusPlus seen = item_type seen >>= (λ item. Ok (ty.List item))
operand _ seen = wanted ty.Int seen >>= (λ _. Ok ty.Int)

-- "+|", "-|" and "*|" always have a value.
abbrev pub sign_may_fault : Sign → Bool
sign_may_fault sign.PlusBar = false
sign_may_fault sign.MinusBar = false
sign_may_fault sign.StarBar = false
sign_may_fault _ = true

abbrev pub sign_tail_step : Around → SignTail-F Judge Link Guarded SetJudge Link Link → Link
sign_tail_step around tail left scope =
    operand tail.sign left >>= (λ ty.
    tail.value scope >>= (λ right.
    wanted ty right >>= (λ _.
    total around (sign_may_fault tail.sign) tail.at >>= (λ _.
    seen_as ty (max left.height right.height) tail.at))))

-- the fields of a type, if it is a record
abbrev pub fields_of : Known → Ty → Option (List Field)
fields_of known own = elim (out-Ty own) [ layer.Rec number ↦ fields_at known number | _ ↦ None ]

-- the field of a name
abbrev pub field_in : List Field → Id → Result Ty Wrong
field_in fields name = elim (named field_name fields name.name) [ None ↦ wrong Unknown name.at | Some field ↦ Ok field.ty ]

-- e.f: e is a record that has the field
abbrev pub field_of : Known → Seen → Id → Result Ty Wrong
field_of known seen name =
    elim (fields_of known seen.ty) [ None ↦ wrong WrongType seen.at | Some fields ↦ field_in fields name ]

abbrev pub suffix_step : Around → Suffix-F Judge Link Guarded SetJudge Link Link → Link
suffix_step around (Suffix-F.Field at name) first scope =
    field_of around.known first name >>= (λ ty. made around ty first.height at)
-- e[i]: a list and a whole number
suffix_step around (Suffix-F.Index at value) first scope =
    item_type first >>= (λ item.
    value scope >>= (λ index.
    wanted ty.Int index >>= (λ _.
    total around true at >>= (λ _.
    seen_as item (max first.height index.height) at))))
-- e!: an option
suffix_step around (Suffix-F.Unwrap at) first scope =
    held_type first >>= (λ inner.
    total around true at >>= (λ _.
    seen_as inner first.height at))

-- the greatest height of parts that have these types, and of what came before them
abbrev pub fit : List Judge → List Ty → ℕ → Scope → Result ℕ Wrong
fit (part ∷ parts) (ty ∷ tys) height scope =
    part scope >>= (λ seen.
    wanted ty seen >>= (λ _.
    fit parts tys (max height seen.height) scope))
fit _ _ height scope = Ok height

-- arguments, as many as there are parameters and of their types
abbrev pub fit_all : Id → List Judge → List Ty → Scope → Result ℕ Wrong
fit_all name args params scope =
    unless (not (length args == length params)) WrongType name.at >>= (λ _. fit args params 0 scope)

-- the greatest height of parts that all have one type, and of what came before them
abbrev pub all_of : Ty → List Judge → ℕ → Scope → Result ℕ Wrong
all_of ty [] height scope = Ok height
all_of ty (part ∷ parts) height scope =
    part scope >>= (λ seen.
    wanted ty seen >>= (λ _.
    all_of ty parts (max height seen.height) scope))

-- [e, ..]: all of the first one's type
abbrev pub list_of : Around → ℕ → List Judge → Judge
list_of around at [] scope = wrong WrongType at
list_of around at (first ∷ rest) scope =
    first scope >>= (λ seen.
    all_of seen.ty rest seen.height scope >>= (λ height.
    total around true at >>= (λ _.
    made around (ty.List seen.ty) height at)))

-- a name that is used
abbrev pub name_of : Around → Id → Judge
name_of around id scope =
    elim (bound_to scope id.name) [ None ↦ wrong Unknown id.at | Some bound ↦ made around bound.ty 0 id.at ]

-- A call: arguments of the parameters' types. It is as much higher as the function's body is high.
abbrev pub call_of : Around → Id → Func → List Judge → Judge
call_of around name func args scope =
    fit_all name args func.params scope >>= (λ height.
    total around true name.at >>= (λ _.
    seen_as func.result (min height 512 + min func.height 512) name.at))

-- f(..): a function that is declared before
abbrev pub call_to : Around → Id → List Judge → Judge
call_to around name args scope =
    elim (named func_name around.known.funcs name.name) [ None ↦ wrong Unknown name.at | Some func ↦ call_of around name func args scope ]

-- a variant of the enum with this number
abbrev pub variant_in : ℕ → List (List ℕ) → Id → ℕ → Result Seen Wrong
variant_in number variants variant at =
    unless (not (list_any (λ name. bytes_eq name variant.name) variants)) Unknown variant.at >>= (λ _.
    seen_as (ty.Enum number) 0 at)

abbrev pub variant_at : Known → Id → Id → ℕ → Result Seen Wrong
variant_at known owner variant number =
    elim (variants_at known number) [
      | None ↦ wrong Unknown owner.at
      | Some variants ↦ variant_in number variants variant owner.at
    ]

-- E::v: an enum that is declared before, and one of its variants
abbrev pub variant_of : Known → Id → Id → Result Seen Wrong
variant_of known owner variant =
    elim (declared_type known owner.name) [ None ↦ wrong Unknown owner.at | Some number ↦ variant_at known owner variant number ]

-- Each of these names is a field's.
abbrev pub all_fields : List Field → List SetJudge → Test
all_fields fields [] = Ok tt
all_fields fields (set ∷ sets) =
    unless (not (is_among field_name fields set.name.name)) Unknown set.name.at >>= (λ _. all_fields fields sets)

-- whether these are all fields, in their order
abbrev pub in_order : List Field → List SetJudge → Bool
in_order [] [] = true
in_order (field ∷ fields) (set ∷ sets) = bytes_eq field.name set.name.name && in_order fields sets
in_order _ _ = false

-- the values of a new record, each of its field's type
abbrev pub fill : List SetJudge → List Field → ℕ → Scope → Result ℕ Wrong
fill (set ∷ sets) (field ∷ fields) height scope =
    set.value scope >>= (λ seen.
    wanted field.ty seen >>= (λ _.
    fill sets fields (max height seen.height) scope))
fill _ _ height scope = Ok height

-- new R{f: e, ..}: all fields in their order, each value of its field's type
abbrev pub record_of : ℕ → Id → ℕ → List Field → List SetJudge → Judge
record_of at owner number fields sets scope =
    all_fields fields sets >>= (λ _.
    unless (not (in_order fields sets)) WrongType owner.at >>= (λ _.
    fill sets fields 0 scope >>= (λ height.
    seen_as (ty.Rec number) height at)))

abbrev pub record_at : Known → ℕ → Id → ℕ → List SetJudge → Judge
record_at known at owner number sets scope =
    elim (fields_at known number) [ None ↦ wrong Unknown owner.at | Some fields ↦ record_of at owner number fields sets scope ]

-- a record that is declared before
abbrev pub new_of : Known → ℕ → Id → List SetJudge → Judge
new_of known at owner sets scope =
    elim (declared_type known owner.name) [ None ↦ wrong Unknown owner.at | Some number ↦ record_at known at owner number sets scope ]

-- the table of builtins
abbrev pub row_of : Key → Row
row_of key.SomeOf = record { parts = part.Any ∷ []; gives = gives.Opt; may_fault = false }
row_of key.Len = record { parts = part.List ∷ []; gives = gives.Int; may_fault = false }
row_of key.IsSome = record { parts = part.Opt ∷ []; gives = gives.Bool; may_fault = false }
row_of key.Min = record { parts = part.Int ∷ part.Int ∷ []; gives = gives.Int; may_fault = false }
row_of key.Max = record { parts = part.Int ∷ part.Int ∷ []; gives = gives.Int; may_fault = false }
row_of key.Range = record { parts = part.Int ∷ part.Int ∷ []; gives = gives.Ints; may_fault = true }
row_of key.Push = record { parts = part.List ∷ part.Item ∷ []; gives = gives.List; may_fault = true }
row_of key.Put = record { parts = part.List ∷ part.Int ∷ part.Item ∷ []; gives = gives.List; may_fault = true }
row_of key.Take = record { parts = part.List ∷ part.Int ∷ []; gives = gives.List; may_fault = false }
row_of key.Skip = record { parts = part.List ∷ part.Int ∷ []; gives = gives.List; may_fault = false }
row_of _ = record { parts = []; gives = gives.Int; may_fault = false }

-- what T is behind an argument, where it was this before
abbrev pub part_type : Part → Ty → Seen → Result Ty Wrong
part_type part.Any before seen = Ok seen.ty
part_type part.List before seen = item_type seen
part_type part.Opt before seen = held_type seen
part_type part.Int before seen = wanted ty.Int seen >>= (λ _. Ok before)
part_type part.Item before seen = wanted before seen >>= (λ _. Ok before)

-- arguments of these kinds: T, and the greatest height
abbrev pub fit_parts : List Judge → List Part → Ty → ℕ → Scope → Result Fitted Wrong
fit_parts (arg ∷ args) (own ∷ parts) before height scope =
    arg scope >>= (λ seen.
    part_type own before seen >>= (λ ty.
    fit_parts args parts ty (max height seen.height) scope))
fit_parts _ _ before height scope = Ok (record { ty = before; height = height })

abbrev pub given_type : Gives → Ty → Ty
given_type gives.Int item = ty.Int
given_type gives.Bool item = ty.Bool
given_type gives.Opt item = ty.Opt item
given_type gives.List item = ty.List item
given_type gives.Ints item = ty.List ty.Int

-- a builtin by its row
abbrev pub builtin_of : Around → Row → ℕ → List Judge → Judge
builtin_of around row at args scope =
    unless (not (length args == length row.parts)) WrongType at >>= (λ _.
    fit_parts args row.parts ty.Int 0 scope >>= (λ fitted.
    total around row.may_fault at >>= (λ _.
    made around (given_type row.gives fitted.ty) fitted.height at)))

-- "==" and "!=" compare values of one type, and the other signs whole numbers.
abbrev pub compared : Sign → Seen → Result Ty Wrong
compared sign.EqualEqual left = Ok left.ty
compared sign.NotEqual left = Ok left.ty
compared _ left = wanted ty.Int left >>= (λ _. Ok ty.Int)

-- [for x in l if c : e]: l a list, c bool; x stands before l
abbrev pub each_of : Around → ℕ → Id → Judge → Option Judge → Judge → Judge
each_of around at name list cond value scope =
    fresh around name scope >>= (λ _.
    list scope >>= (λ items.
    item_type items >>= (λ item.
    guarded cond value items.height (scope ++ fixed name item ∷ []) >>= (λ seen.
    made around (ty.List seen.ty) seen.height at))))

-- further arms of an `if`: values of the first arm's type
abbrev pub arms_of : Ty → List Guarded → ℕ → Scope → Result ℕ Wrong
arms_of ty [] height scope = Ok height
arms_of ty (arm ∷ arms) height scope =
    arm height scope >>= (λ seen.
    wanted ty seen >>= (λ _.
    arms_of ty arms seen.height scope))

abbrev pub if_of : ℕ → List Guarded → Judge → Judge
if_of at [] other scope = other scope
if_of at (arm ∷ arms) other scope =
    arm 0 scope >>= (λ first.
    arms_of first.ty arms first.height scope >>= (λ height.
    other scope >>= (λ last.
    wanted first.ty last >>= (λ _.
    seen_as first.ty (max height last.height) at))))

abbrev pub judge_step : Around → Expr-F Judge Link Guarded SetJudge Link Link → Judge
-- a ?? b: opt<T>, T
judge_step around (Expr-F.OrElse at left right) scope =
    left scope >>= (λ option.
    held_type option >>= (λ inner.
    right scope >>= (λ other.
    wanted inner other >>= (λ _.
    seen_as inner (max option.height other.height) at))))
judge_step around (Expr-F.Or first rest) scope = chain first rest scope
judge_step around (Expr-F.And first rest) scope = chain first rest scope
-- not: bool
judge_step around (Expr-F.Not at inner) scope =
    inner scope >>= (λ seen. wanted ty.Bool seen >>= (λ _. seen_as ty.Bool seen.height at))
judge_step around (Expr-F.Compare which at left right) scope =
    left scope >>= (λ one.
    compared which one >>= (λ own.
    right scope >>= (λ other.
    wanted own other >>= (λ _.
    seen_as ty.Bool (max one.height other.height) at))))
judge_step around (Expr-F.Sum first rest) scope = chain first rest scope
judge_step around (Expr-F.Mul first rest) scope = chain first rest scope
-- -e: a whole number
judge_step around (Expr-F.Neg at inner) scope =
    inner scope >>= (λ seen.
    wanted ty.Int seen >>= (λ _.
    total around true at >>= (λ _.
    seen_as ty.Int seen.height at)))
judge_step around (Expr-F.Post first suffixes) scope = chain first suffixes scope
judge_step around (Expr-F.Number at value) scope = seen_as ty.Int 0 at
judge_step around (Expr-F.Truth at value) scope = seen_as ty.Bool 0 at
judge_step around (Expr-F.Elapsed at) scope =
    unless (not around.has_elapsed) Unknown at >>= (λ _. seen_as ty.Int 0 at)
judge_step around (Expr-F.Name id) scope = name_of around id scope
judge_step around (Expr-F.Call name args) scope = call_to around name args scope
judge_step around (Expr-F.Variant owner variant) scope = variant_of around.known owner variant
judge_step around (Expr-F.New at owner sets) scope = new_of around.known at owner sets scope
-- none<T>
judge_step around (Expr-F.NoneOf at own) scope =
    type_of around.known own >>= (λ seen. made around (ty.Opt seen.ty) 0 at)
-- empty<T>
judge_step around (Expr-F.EmptyOf at own) scope =
    type_of around.known own >>= (λ seen. made around (ty.List seen.ty) 0 at)
judge_step around (Expr-F.Builtin which at args) scope = builtin_of around (row_of which) at args scope
-- (e) is as e is, with its place and height.
judge_step around (Expr-F.Paren at inner) scope = inner scope
judge_step around (Expr-F.List at items) scope = list_of around at items scope
judge_step around (Expr-F.Each at name list cond value) scope = each_of around at name list cond value scope
judge_step around (Expr-F.If at arms other) scope = if_of at arms other scope

abbrev pub arm_step : ExprArm-F Judge Link Guarded SetJudge Link Link → Guarded
arm_step arm = guarded (Some arm.cond) arm.value

abbrev pub set_step : FieldSet-F Judge Link Guarded SetJudge Link Link → SetJudge
set_step set = record { name = set.name; value = set.value }

-- what is seen of an expression, or the first wrong thing in it
abbrev pub judge : Around → Expr → Judge
judge around = fold-Expr Judge Link Guarded SetJudge Link Link (judge_step around) (suffix_step around) arm_step set_step (sign_tail_step around) tail_step
