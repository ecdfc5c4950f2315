-- What is near: each fault of it stands at one of so many tokens. The parts of expressions.
use Rattle.std.proofs.Common.{◌≡◌, ℕ, Bool, List, [], ◌∷◌, ◌++◌, Option, Some, None, Ok, Err, refl, sym, subst}
use Rattle.std.specs.Prelude.{◌<◌, if◌then◌else◌, slice_get, unwrap_or}
use Rattle.std.specs.List.{AllByRecursion}
use Rattle.dsde_names.specs.Table.{place_of, named}
use Rattle.dsde_words.specs.declared.key.Key.{Key}
use Rattle.dsde_words.specs.declared.key.Key.TheVariants as key
use Rattle.dsde_values.specs.declared.value.Value.{Value, Value-F, out-Value}
use Rattle.dsde_values.specs.declared.value.Value.TheOpen as layer
use Rattle.dsde_values.specs.declared.value.Value.TheVariants as value
use Rattle.dsde_language.specs.declared.known.Known.{Known}
use Rattle.dsde_language.specs.RuleTables.{field_name}
use Rattle.dsde_language.specs.Judge.{fields_at}
use Rattle.dsde_language.specs.declared.operator.Binary.{Binary}
use Rattle.dsde_language.specs.declared.operator.Builtin.{Builtin}
use Rattle.dsde_language.specs.DeclaredOperators.{nested, builtin_of}
use Rattle.dsde_language.specs.Outcome.{Halt, Stuck, ◌>>=◌, present, truth_of}
use Rattle.dsde_language.specs.MeaningOperators.{of_one, of_two, of_three}
use Rattle.dsde_language.specs.Meaning.{Mean, On, ArmMean, Vars, Function, function_name, var_name, value_named, values_of, called, part_named, field_named, with_var, holds, kept_of, each_of, arms_of, builtin_mean, words_of}
use Rattle.dsde_cli_spots.specs.Placed.{Ends}
use Rattle.dsde_cli_spots.proofs.Ending.{IsBelow, ends-then, ends-on, ends-if, each-at}
use Rattle.dsde_cli_spots.proofs.Operators.{present-near, truth-near, one-near, two-near, three-near}

pub record NearMean (n : ℕ) (own : Mean) : Type 0 where
  pub near : (vars : Vars) → Ends (IsBelow n) (own vars)

pub record NearOn (n : ℕ) (own : On) : Type 0 where
  pub near : (left : Mean) → NearMean n left → NearMean n (own left)

pub record NearArm (n : ℕ) (own : ArmMean) : Type 0 where
  pub cond : NearMean n own.cond
  pub value : NearMean n own.value

pub record NearTail (n : ℕ) (own : Binary → On) : Type 0 where
  pub near : (which : Binary) → NearOn n (own which)

pub record NearFunction (n : ℕ) (own : Function) : Type 0 where
  pub near : (values : List Value) → Ends (IsBelow n) (own.run values)

module _ (n : ℕ) where
  abbrev B : Halt → Type 0
  B = IsBelow n

  pub nested-near : (links : List On) → AllByRecursion (NearOn n) links → (left : Mean) → NearMean n left → NearMean n (nested left links)
  nested-near [] all left own = own
  nested-near (link ∷ links) all left own = nested-near links all.1 (link left) (all.0.near left own)

  pub words-near : (which : Binary) (tails : List (Binary → On)) → AllByRecursion (NearTail n) tails → AllByRecursion (NearOn n) (words_of which tails)
  words-near which [] all = tt
  words-near which (tail ∷ tails) all = (all.0.near which, words-near which tails all.1)

  pub value-near : (vars : Vars) (name : List ℕ) → Ends B (value_named vars name)
  value-near vars name = ends-then B (present (named var_name vars name)) (λ var. Ok var.value) (present-near n (named var_name vars name)) (λ var. tt)

  pub values-near : (parts : List Mean) → AllByRecursion (NearMean n) parts → (done : List Value) (vars : Vars) → Ends B (values_of done parts vars)
  values-near [] all done vars = tt
  values-near (part ∷ parts) all done vars =
      ends-then B (part vars) (λ value. values_of (done ++ value ∷ []) parts vars) (all.0.near vars) (λ value. values-near parts all.1 (done ++ value ∷ []) vars)

  at-near : (functions : List Function) → AllByRecursion (NearFunction n) functions → (place : Option ℕ) (own : Function)
      → (let found : Option Function = elim place [ None ↦ None | Some place ↦ slice_get functions place ] in found ≡ Some own) → NearFunction n own
  at-near functions all None own is = cc
  at-near functions all (Some place) own is = each-at (NearFunction n) functions all place own is

  there : {A : Type 0} (found : Option A) (own : A) → present found ≡ Ok own → found ≡ Some own
  there None own is = cc
  there (Some other) own is = cc

  pub called-near : (functions : List Function) → AllByRecursion (NearFunction n) functions → (name : List ℕ) (values : List Value) → Ends B (called functions name values)
  called-near functions all name values =
      ends-on B (present (named function_name functions name)) (λ function. function.run values) (present-near n (named function_name functions name))
      (λ own is. (at-near functions all (place_of function_name functions name) own (there (named function_name functions name) own is)).near values)

  part-near : (known : Known) (name : List ℕ) (number : ℕ) (parts : List Value) → Ends B (part_named known name number parts)
  part-near known name number parts =
      ends-then B (present (place_of field_name (unwrap_or (fields_at known number) []) name)) (λ place. present (slice_get parts place)) (present-near n (place_of field_name (unwrap_or (fields_at known number) []) name))
      (λ place. present-near n (slice_get parts place))

  field-layer : (known : Known) (name : List ℕ) (own : Value-F Value) → Ends B (elim own [ layer.Rec number parts ↦ part_named known name number parts | _ ↦ Err Stuck ])
  field-layer known name (layer.Int number) = tt
  field-layer known name (layer.Bool truth) = tt
  field-layer known name (layer.Enum number variant) = tt
  field-layer known name (layer.Rec number parts) = part-near known name number parts
  field-layer known name (layer.List items) = tt
  field-layer known name layer.Nothing = tt
  field-layer known name (layer.Some inner) = tt

  pub field-near : (known : Known) (name : List ℕ) (own : Value) → Ends B (field_named known name own)
  field-near known name own = field-layer known name (out-Value own)

  -- conditions, comprehensions and arms
  abbrev pub NearCond : Option Mean → Type 0
  NearCond None = Unit {0}
  NearCond (Some cond) = NearMean n cond

  holds-near : (cond : Option Mean) → NearCond cond → (vars : Vars) → Ends B (holds cond vars)
  holds-near None own vars = tt
  holds-near (Some cond) own vars = ends-then B (cond vars) (λ test. truth_of test) (own.near vars) (λ test. truth-near n test)

  kept-near : (part : Mean) → NearMean n part → (done : List Value) (keep : Bool) (vars : Vars) → Ends B (kept_of part done keep vars)
  kept-near part own done keep vars =
      ends-if B keep (part vars >>= (λ value. Ok (done ++ value ∷ []))) (Ok done) (ends-then B (part vars) (λ value. Ok (done ++ value ∷ [])) (own.near vars) (λ value. tt)) tt

  pub each-near : (name : List ℕ) (cond : Option Mean) → NearCond cond → (part : Mean) → NearMean n part → (done items : List Value) (vars : Vars) → Ends B (each_of name cond part done items vars)
  each-near name cond test part own done [] vars = tt
  each-near name cond test part own done (item ∷ items) vars =
      ends-then B (holds cond (with_var name item vars)) (λ keep. kept_of part done keep (with_var name item vars) >>= (λ more. each_of name cond part more items vars)) (holds-near cond test (with_var name item vars)) (λ keep.
      ends-then B (kept_of part done keep (with_var name item vars)) (λ more. each_of name cond part more items vars) (kept-near part own done keep (with_var name item vars)) (λ more.
      each-near name cond test part own more items vars))

  pub arms-near : (arms : List ArmMean) → AllByRecursion (NearArm n) arms → (other : Mean) → NearMean n other → (vars : Vars) → Ends B (arms_of arms other vars)
  arms-near [] all other own vars = own.near vars
  arms-near (arm ∷ arms) all other own vars =
      ends-then B (arm.cond vars) (λ test. truth_of test >>= (λ truth. if truth then arm.value vars else arms_of arms other vars)) (all.0.cond.near vars) (λ test.
      ends-then {A = Bool} B (truth_of test) (λ truth. if truth then arm.value vars else arms_of arms other vars) (truth-near n test) (λ truth.
      ends-if B truth (arm.value vars) (arms_of arms other vars) (all.0.value.near vars) (arms-near arms all.1 other own vars)))

  -- builtins
  others-near : (which : Builtin) (at : ℕ) → at < n → (own : List Mean → Mean)
      → ((vars : Vars) → own [] vars ≡ Err Stuck)
      → ((one : Mean) (vars : Vars) → own (one ∷ []) vars ≡ (one vars >>= (λ first. of_one which first)))
      → ((one two : Mean) (vars : Vars) → own (one ∷ two ∷ []) vars ≡ (one vars >>= (λ first. two vars >>= (λ second. of_two which at first second))))
      → ((one two three : Mean) (vars : Vars) → own (one ∷ two ∷ three ∷ []) vars ≡ (one vars >>= (λ first. two vars >>= (λ second. three vars >>= (λ third. of_three which at first second third)))))
      → ((one two three four : Mean) (more : List Mean) (vars : Vars) → own (one ∷ two ∷ three ∷ four ∷ more) vars ≡ Err Stuck)
      → (parts : List Mean) → AllByRecursion (NearMean n) parts → (vars : Vars) → Ends B (own parts vars)
  others-near which at less own is0 is1 is2 is3 is4 [] all vars = subst (Ends B) (sym (is0 vars)) tt
  others-near which at less own is0 is1 is2 is3 is4 (one ∷ []) all vars = subst (Ends B) (sym (is1 one vars))
      (ends-then B (one vars) (λ first. of_one which first) (all.0.near vars) (λ first. one-near n which first))
  others-near which at less own is0 is1 is2 is3 is4 (one ∷ two ∷ []) all vars = subst (Ends B) (sym (is2 one two vars))
      (ends-then B (one vars) (λ first. two vars >>= (λ second. of_two which at first second)) (all.0.near vars) (λ first.
      ends-then B (two vars) (λ second. of_two which at first second) (all.1.0.near vars) (λ second. two-near n which at less first second)))
  others-near which at less own is0 is1 is2 is3 is4 (one ∷ two ∷ three ∷ []) all vars = subst (Ends B) (sym (is3 one two three vars))
      (ends-then B (one vars) (λ first. two vars >>= (λ second. three vars >>= (λ third. of_three which at first second third))) (all.0.near vars) (λ first.
      ends-then B (two vars) (λ second. three vars >>= (λ third. of_three which at first second third)) (all.1.0.near vars) (λ second.
      ends-then B (three vars) (λ third. of_three which at first second third) (all.1.1.0.near vars) (λ third. three-near n which at less first second third))))
  others-near which at less own is0 is1 is2 is3 is4 (one ∷ two ∷ three ∷ four ∷ more) all vars = subst (Ends B) (sym (is4 one two three four more vars)) tt

  some-near : (at : ℕ) → at < n → (parts : List Mean) → AllByRecursion (NearMean n) parts → (vars : Vars) → Ends B (builtin_mean key.SomeOf at parts vars)
  some-near at less [] all vars = tt
  some-near at less (one ∷ []) all vars = ends-then B (one vars) (λ own. Ok (value.Some own)) (all.0.near vars) (λ own. tt)
  some-near at less (one ∷ two ∷ []) all vars =
      ends-then B (one vars) (λ first. two vars >>= (λ second. of_two (builtin_of key.SomeOf) at first second)) (all.0.near vars) (λ first.
      ends-then B (two vars) (λ second. of_two (builtin_of key.SomeOf) at first second) (all.1.0.near vars) (λ second. tt))
  some-near at less (one ∷ two ∷ three ∷ []) all vars =
      ends-then B (one vars) (λ first. two vars >>= (λ second. three vars >>= (λ third. of_three (builtin_of key.SomeOf) at first second third))) (all.0.near vars) (λ first.
      ends-then B (two vars) (λ second. three vars >>= (λ third. of_three (builtin_of key.SomeOf) at first second third)) (all.1.0.near vars) (λ second.
      ends-then B (three vars) (λ third. of_three (builtin_of key.SomeOf) at first second third) (all.1.1.0.near vars) (λ third. tt)))
  some-near at less (one ∷ two ∷ three ∷ four ∷ more) all vars = tt

  builtin-by : (which : Key) (at : ℕ) → at < n → (parts : List Mean) → AllByRecursion (NearMean n) parts → (vars : Vars) → Ends B (builtin_mean which at parts vars)
  builtin-by key.Enum at less = others-near (builtin_of key.Enum) at less (builtin_mean key.Enum at) (λ vars. refl) (λ one vars. refl) (λ one two vars. refl) (λ one two three vars. refl) (λ one two three four more vars. refl)
  builtin-by key.Record at less = others-near (builtin_of key.Record) at less (builtin_mean key.Record at) (λ vars. refl) (λ one vars. refl) (λ one two vars. refl) (λ one two three vars. refl) (λ one two three four more vars. refl)
  builtin-by key.Fn at less = others-near (builtin_of key.Fn) at less (builtin_mean key.Fn at) (λ vars. refl) (λ one vars. refl) (λ one two vars. refl) (λ one two three vars. refl) (λ one two three four more vars. refl)
  builtin-by key.Atomic at less = others-near (builtin_of key.Atomic) at less (builtin_mean key.Atomic at) (λ vars. refl) (λ one vars. refl) (λ one two vars. refl) (λ one two three vars. refl) (λ one two three four more vars. refl)
  builtin-by key.Network at less = others-near (builtin_of key.Network) at less (builtin_mean key.Network at) (λ vars. refl) (λ one vars. refl) (λ one two vars. refl) (λ one two three vars. refl) (λ one two three four more vars. refl)
  builtin-by key.Exec at less = others-near (builtin_of key.Exec) at less (builtin_mean key.Exec at) (λ vars. refl) (λ one vars. refl) (λ one two vars. refl) (λ one two three vars. refl) (λ one two three four more vars. refl)
  builtin-by key.In at less = others-near (builtin_of key.In) at less (builtin_mean key.In at) (λ vars. refl) (λ one vars. refl) (λ one two vars. refl) (λ one two three vars. refl) (λ one two three four more vars. refl)
  builtin-by key.Out at less = others-near (builtin_of key.Out) at less (builtin_mean key.Out at) (λ vars. refl) (λ one vars. refl) (λ one two vars. refl) (λ one two three vars. refl) (λ one two three four more vars. refl)
  builtin-by key.State at less = others-near (builtin_of key.State) at less (builtin_mean key.State at) (λ vars. refl) (λ one vars. refl) (λ one two vars. refl) (λ one two three vars. refl) (λ one two three four more vars. refl)
  builtin-by key.Advance at less = others-near (builtin_of key.Advance) at less (builtin_mean key.Advance at) (λ vars. refl) (λ one vars. refl) (λ one two vars. refl) (λ one two three vars. refl) (λ one two three four more vars. refl)
  builtin-by key.Output at less = others-near (builtin_of key.Output) at less (builtin_mean key.Output at) (λ vars. refl) (λ one vars. refl) (λ one two vars. refl) (λ one two three vars. refl) (λ one two three four more vars. refl)
  builtin-by key.Internal at less = others-near (builtin_of key.Internal) at less (builtin_mean key.Internal at) (λ vars. refl) (λ one vars. refl) (λ one two vars. refl) (λ one two three vars. refl) (λ one two three four more vars. refl)
  builtin-by key.External at less = others-near (builtin_of key.External) at less (builtin_mean key.External at) (λ vars. refl) (λ one vars. refl) (λ one two vars. refl) (λ one two three vars. refl) (λ one two three four more vars. refl)
  builtin-by key.Confluent at less = others-near (builtin_of key.Confluent) at less (builtin_mean key.Confluent at) (λ vars. refl) (λ one vars. refl) (λ one two vars. refl) (λ one two three vars. refl) (λ one two three four more vars. refl)
  builtin-by key.Structure at less = others-near (builtin_of key.Structure) at less (builtin_mean key.Structure at) (λ vars. refl) (λ one vars. refl) (λ one two vars. refl) (λ one two three vars. refl) (λ one two three four more vars. refl)
  builtin-by key.Comp at less = others-near (builtin_of key.Comp) at less (builtin_mean key.Comp at) (λ vars. refl) (λ one vars. refl) (λ one two vars. refl) (λ one two three vars. refl) (λ one two three four more vars. refl)
  builtin-by key.Link at less = others-near (builtin_of key.Link) at less (builtin_mean key.Link at) (λ vars. refl) (λ one vars. refl) (λ one two vars. refl) (λ one two three vars. refl) (λ one two three four more vars. refl)
  builtin-by key.Via at less = others-near (builtin_of key.Via) at less (builtin_mean key.Via at) (λ vars. refl) (λ one vars. refl) (λ one two vars. refl) (λ one two three vars. refl) (λ one two three four more vars. refl)
  builtin-by key.Is at less = others-near (builtin_of key.Is) at less (builtin_mean key.Is at) (λ vars. refl) (λ one vars. refl) (λ one two vars. refl) (λ one two three vars. refl) (λ one two three four more vars. refl)
  builtin-by key.For at less = others-near (builtin_of key.For) at less (builtin_mean key.For at) (λ vars. refl) (λ one vars. refl) (λ one two vars. refl) (λ one two three vars. refl) (λ one two three four more vars. refl)
  builtin-by key.If at less = others-near (builtin_of key.If) at less (builtin_mean key.If at) (λ vars. refl) (λ one vars. refl) (λ one two vars. refl) (λ one two three vars. refl) (λ one two three four more vars. refl)
  builtin-by key.Else at less = others-near (builtin_of key.Else) at less (builtin_mean key.Else at) (λ vars. refl) (λ one vars. refl) (λ one two vars. refl) (λ one two three vars. refl) (λ one two three four more vars. refl)
  builtin-by key.Let at less = others-near (builtin_of key.Let) at less (builtin_mean key.Let at) (λ vars. refl) (λ one vars. refl) (λ one two vars. refl) (λ one two three vars. refl) (λ one two three four more vars. refl)
  builtin-by key.Var at less = others-near (builtin_of key.Var) at less (builtin_mean key.Var at) (λ vars. refl) (λ one vars. refl) (λ one two vars. refl) (λ one two three vars. refl) (λ one two three four more vars. refl)
  builtin-by key.Send at less = others-near (builtin_of key.Send) at less (builtin_mean key.Send at) (λ vars. refl) (λ one vars. refl) (λ one two vars. refl) (λ one two three vars. refl) (λ one two three four more vars. refl)
  builtin-by key.Return at less = others-near (builtin_of key.Return) at less (builtin_mean key.Return at) (λ vars. refl) (λ one vars. refl) (λ one two vars. refl) (λ one two three vars. refl) (λ one two three four more vars. refl)
  builtin-by key.New at less = others-near (builtin_of key.New) at less (builtin_mean key.New at) (λ vars. refl) (λ one vars. refl) (λ one two vars. refl) (λ one two three vars. refl) (λ one two three four more vars. refl)
  builtin-by key.NoneOf at less = others-near (builtin_of key.NoneOf) at less (builtin_mean key.NoneOf at) (λ vars. refl) (λ one vars. refl) (λ one two vars. refl) (λ one two three vars. refl) (λ one two three four more vars. refl)
  builtin-by key.EmptyOf at less = others-near (builtin_of key.EmptyOf) at less (builtin_mean key.EmptyOf at) (λ vars. refl) (λ one vars. refl) (λ one two vars. refl) (λ one two three vars. refl) (λ one two three four more vars. refl)
  builtin-by key.True at less = others-near (builtin_of key.True) at less (builtin_mean key.True at) (λ vars. refl) (λ one vars. refl) (λ one two vars. refl) (λ one two three vars. refl) (λ one two three four more vars. refl)
  builtin-by key.False at less = others-near (builtin_of key.False) at less (builtin_mean key.False at) (λ vars. refl) (λ one vars. refl) (λ one two vars. refl) (λ one two three vars. refl) (λ one two three four more vars. refl)
  builtin-by key.And at less = others-near (builtin_of key.And) at less (builtin_mean key.And at) (λ vars. refl) (λ one vars. refl) (λ one two vars. refl) (λ one two three vars. refl) (λ one two three four more vars. refl)
  builtin-by key.Or at less = others-near (builtin_of key.Or) at less (builtin_mean key.Or at) (λ vars. refl) (λ one vars. refl) (λ one two vars. refl) (λ one two three vars. refl) (λ one two three four more vars. refl)
  builtin-by key.Not at less = others-near (builtin_of key.Not) at less (builtin_mean key.Not at) (λ vars. refl) (λ one vars. refl) (λ one two vars. refl) (λ one two three vars. refl) (λ one two three four more vars. refl)
  builtin-by key.Len at less = others-near (builtin_of key.Len) at less (builtin_mean key.Len at) (λ vars. refl) (λ one vars. refl) (λ one two vars. refl) (λ one two three vars. refl) (λ one two three four more vars. refl)
  builtin-by key.Range at less = others-near (builtin_of key.Range) at less (builtin_mean key.Range at) (λ vars. refl) (λ one vars. refl) (λ one two vars. refl) (λ one two three vars. refl) (λ one two three four more vars. refl)
  builtin-by key.Push at less = others-near (builtin_of key.Push) at less (builtin_mean key.Push at) (λ vars. refl) (λ one vars. refl) (λ one two vars. refl) (λ one two three vars. refl) (λ one two three four more vars. refl)
  builtin-by key.Put at less = others-near (builtin_of key.Put) at less (builtin_mean key.Put at) (λ vars. refl) (λ one vars. refl) (λ one two vars. refl) (λ one two three vars. refl) (λ one two three four more vars. refl)
  builtin-by key.Take at less = others-near (builtin_of key.Take) at less (builtin_mean key.Take at) (λ vars. refl) (λ one vars. refl) (λ one two vars. refl) (λ one two three vars. refl) (λ one two three four more vars. refl)
  builtin-by key.Skip at less = others-near (builtin_of key.Skip) at less (builtin_mean key.Skip at) (λ vars. refl) (λ one vars. refl) (λ one two vars. refl) (λ one two three vars. refl) (λ one two three four more vars. refl)
  builtin-by key.Min at less = others-near (builtin_of key.Min) at less (builtin_mean key.Min at) (λ vars. refl) (λ one vars. refl) (λ one two vars. refl) (λ one two three vars. refl) (λ one two three four more vars. refl)
  builtin-by key.Max at less = others-near (builtin_of key.Max) at less (builtin_mean key.Max at) (λ vars. refl) (λ one vars. refl) (λ one two vars. refl) (λ one two three vars. refl) (λ one two three four more vars. refl)
  builtin-by key.IsSome at less = others-near (builtin_of key.IsSome) at less (builtin_mean key.IsSome at) (λ vars. refl) (λ one vars. refl) (λ one two vars. refl) (λ one two three vars. refl) (λ one two three four more vars. refl)
  builtin-by key.Int at less = others-near (builtin_of key.Int) at less (builtin_mean key.Int at) (λ vars. refl) (λ one vars. refl) (λ one two vars. refl) (λ one two three vars. refl) (λ one two three four more vars. refl)
  builtin-by key.Bool at less = others-near (builtin_of key.Bool) at less (builtin_mean key.Bool at) (λ vars. refl) (λ one vars. refl) (λ one two vars. refl) (λ one two three vars. refl) (λ one two three four more vars. refl)
  builtin-by key.List at less = others-near (builtin_of key.List) at less (builtin_mean key.List at) (λ vars. refl) (λ one vars. refl) (λ one two vars. refl) (λ one two three vars. refl) (λ one two three four more vars. refl)
  builtin-by key.Opt at less = others-near (builtin_of key.Opt) at less (builtin_mean key.Opt at) (λ vars. refl) (λ one vars. refl) (λ one two vars. refl) (λ one two three vars. refl) (λ one two three four more vars. refl)
  builtin-by key.Top at less = others-near (builtin_of key.Top) at less (builtin_mean key.Top at) (λ vars. refl) (λ one vars. refl) (λ one two vars. refl) (λ one two three vars. refl) (λ one two three four more vars. refl)
  builtin-by key.Net at less = others-near (builtin_of key.Net) at less (builtin_mean key.Net at) (λ vars. refl) (λ one vars. refl) (λ one two vars. refl) (λ one two three vars. refl) (λ one two three four more vars. refl)
  builtin-by key.Elapsed at less = others-near (builtin_of key.Elapsed) at less (builtin_mean key.Elapsed at) (λ vars. refl) (λ one vars. refl) (λ one two vars. refl) (λ one two three vars. refl) (λ one two three four more vars. refl)
  builtin-by key.SomeOf at less = some-near at less

  pub builtin-near : (which : Key) (at : ℕ) → at < n → (parts : List Mean) → AllByRecursion (NearMean n) parts → NearMean n (builtin_mean which at parts)
  builtin-near which at less parts all = record { near = λ vars. builtin-by which at less parts all vars }
