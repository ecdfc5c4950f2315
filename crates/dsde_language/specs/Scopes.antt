-- How the names that the rules see stand to slots, and what is known at a place to what is known of
-- the whole file.
use Rattle.std.specs.Prelude.{◌≡◌, ◌≢◌, ℕ, ◌^◌, ◌≤◌, Bool, true, false, List, ◌++◌, length, Some, slice_get}
use Rattle.dsde_names.specs.Table.{place_of, named, is_among}
use Rattle.dsde_values.specs.declared.types.Field.{Field}
use Rattle.dsde_values.specs.declared.types.Ty.{Ty}
use Rattle.dsde_values.specs.declared.types.Ty.TheVariants as ty
use Rattle.dsde_values.specs.declared.types.Types.{Types}
use Rattle.dsde_values.specs.declared.value.Value.{Value}
use Rattle.dsde_values.specs.Value as values
use Rattle.dsde_language.specs.declared.known.Known.{Known}
use Rattle.dsde_language.specs.declared.seen.Binding.{Binding}
use Rattle.dsde_language.specs.declared.signatures.Func.{Func}
use Rattle.dsde_language.specs.declared.signatures.Port.{Port}
use Rattle.dsde_language.specs.RuleTables.{binding_name, field_name, func_name, port_name, type_word, numbered}
use Rattle.dsde_language.specs.Judge.{bound_to, declared_type, type_at, fields_at, variants_at}
use Rattle.dsde_language.specs.Judge as rules
use Rattle.dsde_language.specs.Names.{elapsed_name}
use Rattle.dsde_language.specs.Typing.{func_number, func_type}
use Rattle.dsde_language.specs.Meaning.{Function, called}
use Rattle.dsde_language.specs.MeaningTables.{Coded, means_in, called_at}
use Rattle.dsde_language.specs.Typed.{Typed, Sound, AllTyped}

-- a part of a table, from a number on
pub record Stands {A : Type 0} (table : List A) (start : ℕ) (part : List A) : Type 0 where
  pub before : List A
  pub rest : List A
  pub is : table ≡ before ++ (part ++ rest)
  pub at : length before ≡ start

-- A name has a slot, for values of this type.
pub record Slotted (slots : List Field) (name : List ℕ) (ty : Ty) : Type 0 where
  pub field : Field
  pub found : named field_name slots name ≡ Some field
  pub of : field.ty ≡ ty

-- Each name that is seen has a slot, each name but `elapsed` that is not seen has none, and `elapsed`
-- has one where it is seen.
pub record Sees (has_elapsed : Bool) (scope : rules.Scope) (slots : List Field) : Type 0 where
  pub seen : (name : List ℕ) (bound : Binding) → bound_to scope name ≡ Some bound → Slotted slots name bound.ty
  pub unseen : (name : List ℕ) → is_among binding_name scope name ≡ false → name ≢ elapsed_name → is_among field_name slots name ≡ false
  pub elapsed : has_elapsed ≡ true → Slotted slots elapsed_name ty.Int

-- Each out port that a block may send by is among these.
pub record AreOuts (ports : List Port) (outs : List Field) : Type 0 where
  pub slotted : (name : List ℕ) (port : Port) → named port_name ports name ≡ Some port → port.out ≡ true → Slotted outs name port.ty

-- the type with a number and an identifier that is declared
pub record IsDeclared (known whole : Known) (name : List ℕ) (number : ℕ) : Type 0 where
  pub place : place_of type_word whole.words name ≡ Some number
  pub own : numbered number (slice_get whole.words number) ≡ type_at known number

-- the variants of an enum, of which there are fewer than 2^32
pub record AreVariants (types : Types) (number : ℕ) (names : List (List ℕ)) : Type 0 where
  pub are : values.variants_at types number ≡ names
  pub few : length names ≤ 2 ^ 32

-- What is known at a place is known of the whole file, whose types these are.
pub record Within (types : Types) (known whole : Known) : Type 0 where
  pub shapes : known.types ≡ whole.types
  pub words : (name : List ℕ) (number : ℕ) → declared_type known name ≡ Some number → IsDeclared known whole name number
  pub records : (number : ℕ) (fields : List Field) → fields_at whole number ≡ Some fields → values.fields_at types number ≡ Some fields
  pub enums : (number : ℕ) (names : List (List ℕ)) → variants_at whole number ≡ Some names → AreVariants types number names
  pub results : (name : List ℕ) (func : Func) → named func_name known.funcs name ≡ Some func → func_type whole name ≡ func.result

-- A function of this name takes values of its parameters' types, and comes to one of its result's type
-- or to a fault.
pub record Served (types : Types) (functions : List Function) (name : List ℕ) (func : Func) : Type 0 where
  pub sound : (values : List Value) → AllTyped types func.params values → Sound false (Typed types func.result) (called functions name values)

-- Each function that is known is among these.
abbrev pub Serve : Types → Known → List Function → Type 0
Serve types known functions =
    (name : List ℕ) (func : Func) → named func_name known.funcs name ≡ Some func → Served types functions name func

-- A call of each function that is known means in the tables what it means over names, to a depth that
-- is its height at least.
abbrev pub Calls : Types → Coded → Known → Known → List Function → Type 0
Calls types coded known whole functions =
    (name : List ℕ) (func : Func) (depth : ℕ) (values : List Value) → named func_name known.funcs name ≡ Some func
    → AllTyped types func.params values → func.height ≤ 512 → func.height ≤ depth
    → called_at (means_in coded depth) coded.functions (func_number whole name) values ≡ called functions name values
