-- Each expression whose places are those of its tokens is near.
use Rattle.std.proofs.Common.{◌≡◌, ℕ, List, [], map, Option, Some, None, Ok, sym, subst}
use Rattle.std.specs.Prelude.{◌<◌}
use Rattle.std.specs.List.{AllByRecursion}
use Rattle.dsde_syntax.specs.declared.expr.Expr.{Expr}
use Rattle.dsde_syntax.specs.declared.expr.Suffix.{Suffix}
use Rattle.dsde_syntax.specs.declared.expr.ExprArm.{ExprArm}
use Rattle.dsde_syntax.specs.declared.expr.FieldSet.{FieldSet}
use Rattle.dsde_syntax.specs.declared.expr.SignTail.{SignTail}
use Rattle.dsde_syntax.specs.declared.expr.Tail.{Tail}
use Rattle.dsde_syntax.specs.declared.expr.Expr.TheOpen.{Expr-F, Suffix-F, ExprArm-F, FieldSet-F, SignTail-F, Tail-F}
use Rattle.dsde_syntax.specs.declared.expr.Expr.TheViews.{roll-Expr, roll-Suffix, roll-ExprArm, roll-FieldSet, roll-SignTail, roll-Tail}
use Rattle.dsde_syntax.specs.declared.expr.Expr.TheFolds.{fold-Suffix, fold-ExprArm, fold-FieldSet, fold-SignTail, fold-Tail, map-Expr, map-Suffix, map-ExprArm, map-FieldSet, map-SignTail, map-Tail, fold-roll-Expr, fold-roll-Suffix, fold-roll-ExprArm, fold-roll-FieldSet, fold-roll-SignTail, fold-roll-Tail, ind-Expr}
use Rattle.dsde_syntax.specs.Places.{Span, span_step, suffix_span_step, expr_arm_span_step, field_set_span_step, sign_tail_span_step, tail_span_step, expr_span, suffix_span, expr_arm_span, field_set_span, sign_tail_span, tail_span, type_span}
use Rattle.dsde_syntax.specs.declared.type_name.TypeName.{TypeName}
use Rattle.dsde_syntax.specs.declared.type_name.TypeName.TheOpen.{TypeName-F}
use Rattle.dsde_syntax.specs.declared.type_name.TypeName.TheViews.{roll-TypeName}
use Rattle.dsde_syntax.specs.declared.type_name.TypeName.TheFolds.{map-TypeName, fold-roll-TypeName, ind-TypeName}
use Rattle.dsde_syntax.specs.Places.{type_span_step}
use Rattle.dsde_values.specs.declared.value.Value.{Value}
use Rattle.dsde_values.specs.declared.value.Value.TheVariants as value
use Rattle.dsde_language.specs.declared.known.Known.{Known}
use Rattle.dsde_language.specs.declared.operator.Binary.{Binary}
use Rattle.dsde_language.specs.declared.operator.Binary.TheVariants as binary
use Rattle.dsde_language.specs.Names.{elapsed_name, type_number}
use Rattle.dsde_language.specs.DeclaredOperators.{nested, sign_binary}
use Rattle.dsde_language.specs.Meaning as meaning
use Rattle.dsde_language.specs.Meaning.{Mean, On, ArmMean, Vars, Function, mean, mean_step, values_of, called, each_of, words_of, field_named}
use Rattle.dsde_language.specs.MeaningOperators.{combined, denied, negated, or_else, unwrapped, indexed, listed}
use Rattle.dsde_language.specs.Outcome.{Halt, ◌>>=◌, items_of}
use Rattle.dsde_cli_spots.proofs.Ending.{IsBelow, ends-then}
use Rattle.dsde_cli_spots.proofs.Operators.{items-near, listed-near, combined-near, denied-near, negated-near, or-else-near, unwrapped-near, indexed-near}
use Rattle.dsde_cli_spots.proofs.Means.{NearMean, NearOn, NearArm, NearTail, NearFunction, nested-near, words-near, value-near, values-near, called-near, field-near, each-near, arms-near, builtin-near, NearCond}
use Rattle.dsde_cli_spots.proofs.Spans.{Grants, none, skip, begun, more, both, at, behind, within, placed, all-of, separated-of}

-- ---- types have no faults; their places rise

module _ (n : ℕ) where
  abbrev Rises : TypeName → Type 0
  Rises t = Grants n (type_span t) (Unit {0})

  abbrev Y : Type 0
  Y = (t : TypeName) × Rises t

  type-roll : (x : TypeName-F TypeName) → Grants n (type_span_step (map-TypeName TypeName Span type_span x)) (Unit {0}) → Rises (roll-TypeName x)
  type-roll x own = subst (λ (span : Span). Grants n span (Unit {0})) (sym (fold-roll-TypeName Span type_span_step x)) own

  type-case : (y : TypeName-F Y) → Rises (roll-TypeName (map-TypeName Y TypeName (λ y. y.0) y))
  type-case (TypeName-F.Int place) = type-roll (TypeName-F.Int place) (more n (at n place) (λ less. tt))
  type-case (TypeName-F.Bool place) = type-roll (TypeName-F.Bool place) (more n (at n place) (λ less. tt))
  type-case (TypeName-F.Named id) = type-roll (TypeName-F.Named id) (more n (at n id.at) (λ less. tt))
  type-case (TypeName-F.List place (t, part)) = type-roll (TypeName-F.List place t) (more n (both n (at n place) (within n part)) (λ own. tt))
  type-case (TypeName-F.Opt place (t, part)) = type-roll (TypeName-F.Opt place t) (more n (both n (at n place) (within n part)) (λ own. tt))

  pub type-rises : (t : TypeName) → Rises t
  type-rises = ind-TypeName Rises (λ x y is. subst (λ (z : TypeName-F TypeName). Rises (roll-TypeName z)) is (type-case y))

-- ---- expressions

module _ (n : ℕ) (known : Known) (functions : List Function) (callable : AllByRecursion (NearFunction n) functions) where
  abbrev B : Halt → Type 0
  B = IsBelow n

  abbrev M : Expr → Mean
  M = mean known functions

  abbrev MS : Suffix → On
  MS = fold-Suffix Mean On ArmMean Mean On (Binary → On) (mean_step known functions) (meaning.suffix_step known) meaning.arm_step meaning.set_step meaning.sign_tail_step meaning.tail_step

  abbrev MA : ExprArm → ArmMean
  MA = fold-ExprArm Mean On ArmMean Mean On (Binary → On) (mean_step known functions) (meaning.suffix_step known) meaning.arm_step meaning.set_step meaning.sign_tail_step meaning.tail_step

  abbrev MF : FieldSet → Mean
  MF = fold-FieldSet Mean On ArmMean Mean On (Binary → On) (mean_step known functions) (meaning.suffix_step known) meaning.arm_step meaning.set_step meaning.sign_tail_step meaning.tail_step

  abbrev MG : SignTail → On
  MG = fold-SignTail Mean On ArmMean Mean On (Binary → On) (mean_step known functions) (meaning.suffix_step known) meaning.arm_step meaning.set_step meaning.sign_tail_step meaning.tail_step

  abbrev MT : Tail → Binary → On
  MT = fold-Tail Mean On ArmMean Mean On (Binary → On) (mean_step known functions) (meaning.suffix_step known) meaning.arm_step meaning.set_step meaning.sign_tail_step meaning.tail_step

  -- what a part's places grant of what it means
  abbrev pub ExprClaim : Expr → Type 0
  ExprClaim e = Grants n (expr_span e) (NearMean n (M e))

  abbrev SuffixClaim : Suffix → Type 0
  SuffixClaim v = Grants n (suffix_span v) (NearOn n (MS v))

  abbrev ArmClaim : ExprArm → Type 0
  ArmClaim v = Grants n (expr_arm_span v) (NearArm n (MA v))

  abbrev FieldClaim : FieldSet → Type 0
  FieldClaim v = Grants n (field_set_span v) (NearMean n (MF v))

  abbrev SignTailClaim : SignTail → Type 0
  SignTailClaim v = Grants n (sign_tail_span v) (NearOn n (MG v))

  abbrev TailClaim : Tail → Type 0
  TailClaim v = Grants n (tail_span v) (NearTail n (MT v))

  -- a claim of a value made of its layer, by what the steps give there
  roll-claim : {A : Type 0} (P : A → Type 0) (s t : Span) (a b : A) → s ≡ t → a ≡ b → Grants n t (P b) → Grants n s (P a)
  roll-claim P s t a b spans means own = subst (λ (span : Span). Grants n span (P a)) (sym spans) (subst (λ own. Grants n t (P own)) (sym means) own)

  expr-roll : (x : Expr-F Expr Suffix ExprArm FieldSet SignTail Tail) → Grants n (span_step (map-Expr Expr Suffix ExprArm FieldSet SignTail Tail Span Span Span Span Span Span expr_span suffix_span expr_arm_span field_set_span sign_tail_span tail_span x)) (NearMean n (mean_step known functions (map-Expr Expr Suffix ExprArm FieldSet SignTail Tail Mean On ArmMean Mean On (Binary → On) M MS MA MF MG MT x))) → ExprClaim (roll-Expr x)
  expr-roll x own = roll-claim (NearMean n) _ _ _ _
      (fold-roll-Expr Span Span Span Span Span Span span_step suffix_span_step expr_arm_span_step field_set_span_step sign_tail_span_step tail_span_step x)
      (fold-roll-Expr Mean On ArmMean Mean On (Binary → On) (mean_step known functions) (meaning.suffix_step known) meaning.arm_step meaning.set_step meaning.sign_tail_step meaning.tail_step x) own

  suffix-roll : (x : Suffix-F Expr Suffix ExprArm FieldSet SignTail Tail) → Grants n (suffix_span_step (map-Suffix Expr Suffix ExprArm FieldSet SignTail Tail Span Span Span Span Span Span expr_span suffix_span expr_arm_span field_set_span sign_tail_span tail_span x)) (NearOn n (meaning.suffix_step known (map-Suffix Expr Suffix ExprArm FieldSet SignTail Tail Mean On ArmMean Mean On (Binary → On) M MS MA MF MG MT x))) → SuffixClaim (roll-Suffix x)
  suffix-roll x own = roll-claim (NearOn n) _ _ _ _
      (fold-roll-Suffix Span Span Span Span Span Span span_step suffix_span_step expr_arm_span_step field_set_span_step sign_tail_span_step tail_span_step x)
      (fold-roll-Suffix Mean On ArmMean Mean On (Binary → On) (mean_step known functions) (meaning.suffix_step known) meaning.arm_step meaning.set_step meaning.sign_tail_step meaning.tail_step x) own

  arm-roll : (x : ExprArm-F Expr Suffix ExprArm FieldSet SignTail Tail) → Grants n (expr_arm_span_step (map-ExprArm Expr Suffix ExprArm FieldSet SignTail Tail Span Span Span Span Span Span expr_span suffix_span expr_arm_span field_set_span sign_tail_span tail_span x)) (NearArm n (meaning.arm_step (map-ExprArm Expr Suffix ExprArm FieldSet SignTail Tail Mean On ArmMean Mean On (Binary → On) M MS MA MF MG MT x))) → ArmClaim (roll-ExprArm x)
  arm-roll x own = roll-claim (NearArm n) _ _ _ _
      (fold-roll-ExprArm Span Span Span Span Span Span span_step suffix_span_step expr_arm_span_step field_set_span_step sign_tail_span_step tail_span_step x)
      (fold-roll-ExprArm Mean On ArmMean Mean On (Binary → On) (mean_step known functions) (meaning.suffix_step known) meaning.arm_step meaning.set_step meaning.sign_tail_step meaning.tail_step x) own

  field-roll : (x : FieldSet-F Expr Suffix ExprArm FieldSet SignTail Tail) → Grants n (field_set_span_step (map-FieldSet Expr Suffix ExprArm FieldSet SignTail Tail Span Span Span Span Span Span expr_span suffix_span expr_arm_span field_set_span sign_tail_span tail_span x)) (NearMean n (meaning.set_step (map-FieldSet Expr Suffix ExprArm FieldSet SignTail Tail Mean On ArmMean Mean On (Binary → On) M MS MA MF MG MT x))) → FieldClaim (roll-FieldSet x)
  field-roll x own = roll-claim (NearMean n) _ _ _ _
      (fold-roll-FieldSet Span Span Span Span Span Span span_step suffix_span_step expr_arm_span_step field_set_span_step sign_tail_span_step tail_span_step x)
      (fold-roll-FieldSet Mean On ArmMean Mean On (Binary → On) (mean_step known functions) (meaning.suffix_step known) meaning.arm_step meaning.set_step meaning.sign_tail_step meaning.tail_step x) own

  sign_tail-roll : (x : SignTail-F Expr Suffix ExprArm FieldSet SignTail Tail) → Grants n (sign_tail_span_step (map-SignTail Expr Suffix ExprArm FieldSet SignTail Tail Span Span Span Span Span Span expr_span suffix_span expr_arm_span field_set_span sign_tail_span tail_span x)) (NearOn n (meaning.sign_tail_step (map-SignTail Expr Suffix ExprArm FieldSet SignTail Tail Mean On ArmMean Mean On (Binary → On) M MS MA MF MG MT x))) → SignTailClaim (roll-SignTail x)
  sign_tail-roll x own = roll-claim (NearOn n) _ _ _ _
      (fold-roll-SignTail Span Span Span Span Span Span span_step suffix_span_step expr_arm_span_step field_set_span_step sign_tail_span_step tail_span_step x)
      (fold-roll-SignTail Mean On ArmMean Mean On (Binary → On) (mean_step known functions) (meaning.suffix_step known) meaning.arm_step meaning.set_step meaning.sign_tail_step meaning.tail_step x) own

  tail-roll : (x : Tail-F Expr Suffix ExprArm FieldSet SignTail Tail) → Grants n (tail_span_step (map-Tail Expr Suffix ExprArm FieldSet SignTail Tail Span Span Span Span Span Span expr_span suffix_span expr_arm_span field_set_span sign_tail_span tail_span x)) (NearTail n (meaning.tail_step (map-Tail Expr Suffix ExprArm FieldSet SignTail Tail Mean On ArmMean Mean On (Binary → On) M MS MA MF MG MT x))) → TailClaim (roll-Tail x)
  tail-roll x own = roll-claim (NearTail n) _ _ _ _
      (fold-roll-Tail Span Span Span Span Span Span span_step suffix_span_step expr_arm_span_step field_set_span_step sign_tail_span_step tail_span_step x)
      (fold-roll-Tail Mean On ArmMean Mean On (Binary → On) (mean_step known functions) (meaning.suffix_step known) meaning.arm_step meaning.set_step meaning.sign_tail_step meaning.tail_step x) own

  -- a part beside its claim
  abbrev E : Type 0
  E = (v : Expr) × ExprClaim v

  abbrev S : Type 0
  S = (v : Suffix) × SuffixClaim v

  abbrev A : Type 0
  A = (v : ExprArm) × ArmClaim v

  abbrev F : Type 0
  F = (v : FieldSet) × FieldClaim v

  abbrev G : Type 0
  G = (v : SignTail) × SignTailClaim v

  abbrev T : Type 0
  T = (v : Tail) × TailClaim v

  -- ---- what each construct comes to

  or-else-mean : (l r : Mean) → NearMean n l → NearMean n r → NearMean n (λ vars. l vars >>= (λ own. or_else own (r vars)))
  or-else-mean l r left right = record { near = λ vars. ends-then B (l vars) (λ own. or_else own (r vars)) (left.near vars) (λ own. or-else-near n own (r vars) (right.near vars)) }

  combined-mean : (which : Binary) (place : ℕ) → place < n → (l r : Mean) → NearMean n l → NearMean n r → NearMean n (λ vars. l vars >>= (λ own. combined which place own (r vars)))
  combined-mean which place less l r left right = record {
    near = λ vars. ends-then B (l vars) (λ own. combined which place own (r vars)) (left.near vars) (λ own. combined-near n which place less own (r vars) (right.near vars));
  }

  not-mean : (m : Mean) → NearMean n m → NearMean n (λ vars. m vars >>= (λ own. denied own))
  not-mean m near = record { near = λ vars. ends-then B (m vars) (λ own. denied own) (near.near vars) (λ own. denied-near n own) }

  neg-mean : (place : ℕ) → place < n → (m : Mean) → NearMean n m → NearMean n (λ vars. m vars >>= (λ own. negated place own))
  neg-mean place less m near = record { near = λ vars. ends-then B (m vars) (λ own. negated place own) (near.near vars) (λ own. negated-near n place less own) }

  call-mean : (name : List ℕ) (parts : List Mean) → AllByRecursion (NearMean n) parts → NearMean n (λ vars. values_of [] parts vars >>= (λ values. called functions name values))
  call-mean name parts all = record {
    near = λ vars. ends-then B (values_of [] parts vars) (λ values. called functions name values) (values-near n parts all [] vars) (λ values. called-near n functions callable name values);
  }

  new-mean : (number : ℕ) (parts : List Mean) → AllByRecursion (NearMean n) parts → NearMean n (λ vars. values_of [] parts vars >>= (λ values. Ok (value.Rec number values)))
  new-mean number parts all = record {
    near = λ vars. ends-then B (values_of [] parts vars) (λ values. Ok (value.Rec number values)) (values-near n parts all [] vars) (λ values. tt);
  }

  list-mean : (place : ℕ) → place < n → (parts : List Mean) → AllByRecursion (NearMean n) parts → NearMean n (λ vars. values_of [] parts vars >>= (λ values. listed place values))
  list-mean place less parts all = record {
    near = λ vars. ends-then B (values_of [] parts vars) (λ values. listed place values) (values-near n parts all [] vars) (λ values. listed-near n place less values);
  }

  each-mean : (name : List ℕ) (l : Mean) (cond : Option Mean) (part : Mean) → NearMean n l → NearCond n cond → NearMean n part
      → NearMean n (λ vars. l vars >>= (λ own. items_of own >>= (λ items. each_of name cond part [] items vars >>= (λ values. Ok (value.List values)))))
  each-mean name l cond part list test near = record {
    near = λ vars.
        ends-then B (l vars) (λ own. items_of own >>= (λ items. each_of name cond part [] items vars >>= (λ values. Ok (value.List values)))) (list.near vars) (λ own.
        ends-then B (items_of own) (λ items. each_of name cond part [] items vars >>= (λ values. Ok (value.List values))) (items-near n own) (λ items.
        ends-then B (each_of name cond part [] items vars) (λ values. Ok (value.List values)) (each-near n name cond test part near [] items vars) (λ values. tt)));
  }

  chain-mean : (first : Mean) (links : List On) → NearMean n first → AllByRecursion (NearOn n) links → NearMean n (λ vars. let own : Mean = nested first links in own vars)
  chain-mean first links own all = record { near = (nested-near n links all first own).near }

  ok-mean : (own : Vars → Value) → NearMean n (λ vars. Ok (own vars))
  ok-mean own = record { near = λ vars. tt }

  expr-case : (y : Expr-F E S A F G T) → ExprClaim (roll-Expr (map-Expr E S A F G T Expr Suffix ExprArm FieldSet SignTail Tail (λ e. e.0) (λ e. e.0) (λ e. e.0) (λ e. e.0) (λ e. e.0) (λ e. e.0) y))
  expr-case (Expr-F.OrElse place (l, left) (r, right)) = expr-roll (Expr-F.OrElse place l r)
      (more n (both n (both n left (at n place)) right) (λ own. or-else-mean (M l) (M r) own.0.0 own.1))
  expr-case (Expr-F.Or (e, first) rest) = expr-roll (Expr-F.Or e (map (λ e. e.0) rest))
      (more n (both n first (all-of n (λ (e : T). e.0) tail_span MT (NearTail n) (λ e. e.1) rest)) (λ own. chain-mean (M e) _ own.0 (words-near n binary.Or _ own.1)))
  expr-case (Expr-F.And (e, first) rest) = expr-roll (Expr-F.And e (map (λ e. e.0) rest))
      (more n (both n first (all-of n (λ (e : T). e.0) tail_span MT (NearTail n) (λ e. e.1) rest)) (λ own. chain-mean (M e) _ own.0 (words-near n binary.And _ own.1)))
  expr-case (Expr-F.Not place (e, part)) = expr-roll (Expr-F.Not place e) (more n (both n (at n place) part) (λ own. not-mean (M e) own.1))
  expr-case (Expr-F.Compare which place (l, left) (r, right)) = expr-roll (Expr-F.Compare which place l r)
      (more n (both n (both n left (at n place)) right) (λ own. combined-mean (sign_binary which) place own.0.1 (M l) (M r) own.0.0 own.1))
  expr-case (Expr-F.Sum (e, first) rest) = expr-roll (Expr-F.Sum e (map (λ e. e.0) rest))
      (more n (both n first (all-of n (λ (e : G). e.0) sign_tail_span MG (NearOn n) (λ e. e.1) rest)) (λ own. chain-mean (M e) _ own.0 own.1))
  expr-case (Expr-F.Mul (e, first) rest) = expr-roll (Expr-F.Mul e (map (λ e. e.0) rest))
      (more n (both n first (all-of n (λ (e : G). e.0) sign_tail_span MG (NearOn n) (λ e. e.1) rest)) (λ own. chain-mean (M e) _ own.0 own.1))
  expr-case (Expr-F.Neg place (e, part)) = expr-roll (Expr-F.Neg place e) (more n (both n (at n place) part) (λ own. neg-mean place own.0 (M e) own.1))
  expr-case (Expr-F.Post (e, first) rest) = expr-roll (Expr-F.Post e (map (λ e. e.0) rest))
      (more n (both n first (all-of n (λ (e : S). e.0) suffix_span MS (NearOn n) (λ e. e.1) rest)) (λ own. chain-mean (M e) _ own.0 own.1))
  expr-case (Expr-F.Number place number) = expr-roll (Expr-F.Number place number) (more n (at n place) (λ less. record { near = λ vars. tt }))
  expr-case (Expr-F.Truth place truth) = expr-roll (Expr-F.Truth place truth) (more n (at n place) (λ less. record { near = λ vars. tt }))
  expr-case (Expr-F.Elapsed place) = expr-roll (Expr-F.Elapsed place) (more n (at n place) (λ less. record { near = λ vars. value-near n vars elapsed_name }))
  expr-case (Expr-F.Name id) = expr-roll (Expr-F.Name id) (more n (at n id.at) (λ less. record { near = λ vars. value-near n vars id.name }))
  expr-case (Expr-F.Call name args) = expr-roll (Expr-F.Call name (map (λ e. e.0) args))
      (more n (both n (at n name.at) (within n (separated-of n (λ (e : E). e.0) expr_span M (NearMean n) (λ e. e.1) args))) (λ own. call-mean name.name _ own.1))
  expr-case (Expr-F.Variant owner variant) = expr-roll (Expr-F.Variant owner variant)
      (more n (both n (both n (at n owner.at) (skip n)) (at n variant.at)) (λ own. record { near = λ vars. tt }))
  expr-case (Expr-F.New place owner fields) = expr-roll (Expr-F.New place owner (map (λ e. e.0) fields))
      (more n (both n (both n (at n place) (at n owner.at)) (within n (separated-of n (λ (e : F). e.0) field_set_span MF (NearMean n) (λ e. e.1) fields))) (λ own. new-mean (type_number known owner.name) _ own.1))
  expr-case (Expr-F.NoneOf place ty) = expr-roll (Expr-F.NoneOf place ty) (more n (both n (at n place) (within n (type-rises n ty))) (λ own. record { near = λ vars. tt }))
  expr-case (Expr-F.EmptyOf place ty) = expr-roll (Expr-F.EmptyOf place ty) (more n (both n (at n place) (within n (type-rises n ty))) (λ own. record { near = λ vars. tt }))
  expr-case (Expr-F.Builtin which place args) = expr-roll (Expr-F.Builtin which place (map (λ e. e.0) args))
      (more n (both n (at n place) (within n (separated-of n (λ (e : E). e.0) expr_span M (NearMean n) (λ e. e.1) args))) (λ own. record { near = (builtin-near n which place own.0 _ own.1).near }))
  expr-case (Expr-F.Paren place (e, inner)) = expr-roll (Expr-F.Paren place e) (more n (placed n place inner) (λ own. record { near = own.1.near }))
  expr-case (Expr-F.List place items) = expr-roll (Expr-F.List place (map (λ e. e.0) items))
      (more n (placed n place (separated-of n (λ (e : E). e.0) expr_span M (NearMean n) (λ e. e.1) items)) (λ own. list-mean place own.0 _ own.1))
  expr-case (Expr-F.Each place name (l, list) None (v, part)) = expr-roll (Expr-F.Each place name l None v)
      (more n (placed n place (both n (both n (both n (both n (both n (both n (skip n) (at n name.at)) (skip n)) list) (none n)) (skip n)) part))
      (λ own. each-mean name.name (M l) None (M v) own.1.0.0.0.1 tt own.1.1))
  expr-case (Expr-F.Each place name (l, list) (Some (c, cond)) (v, part)) = expr-roll (Expr-F.Each place name l (Some c) v)
      (more n (placed n place (both n (both n (both n (both n (both n (both n (skip n) (at n name.at)) (skip n)) list) (behind n cond)) (skip n)) part))
      (λ own. each-mean name.name (M l) (Some (M c)) (M v) own.1.0.0.0.1 own.1.0.0.1 own.1.1))
  expr-case (Expr-F.If place arms (e, other)) = expr-roll (Expr-F.If place (map (λ e. e.0) arms) e)
      (more n (both n (both n (both n (begun n place) (separated-of n (λ (e : A). e.0) expr_arm_span MA (NearArm n) (λ e. e.1) arms)) (skip n)) (within n other))
      (λ own. record { near = λ vars. arms-near n _ own.0.0.1 (M e) own.1 vars }))

  suffix-case : (y : Suffix-F E S A F G T) → SuffixClaim (roll-Suffix (map-Suffix E S A F G T Expr Suffix ExprArm FieldSet SignTail Tail (λ e. e.0) (λ e. e.0) (λ e. e.0) (λ e. e.0) (λ e. e.0) (λ e. e.0) y))
  suffix-case (Suffix-F.Field place name) = suffix-roll (Suffix-F.Field place name)
      (more n (both n (at n place) (at n name.at)) (λ own. record {
        near = λ left near. record { near = λ vars. ends-then B (left vars) (λ own. field_named known name.name own) (near.near vars) (λ own. field-near n known name.name own) };
      }))
  suffix-case (Suffix-F.Index place (e, part)) = suffix-roll (Suffix-F.Index place e)
      (more n (placed n place part) (λ own. record {
        near = λ left near. record {
          near = λ vars.
              ends-then B (left vars) (λ list. M e vars >>= (λ index. indexed place list index)) (near.near vars) (λ list.
              ends-then B (M e vars) (λ index. indexed place list index) (own.1.near vars) (λ index. indexed-near n place own.0 list index));
        };
      }))
  suffix-case (Suffix-F.Unwrap place) = suffix-roll (Suffix-F.Unwrap place)
      (more n (at n place) (λ less. record {
        near = λ left near. record { near = λ vars. ends-then B (left vars) (λ own. unwrapped place own) (near.near vars) (λ own. unwrapped-near n place less own) };
      }))

  arm-case : (y : ExprArm-F E S A F G T) → ArmClaim (roll-ExprArm (map-ExprArm E S A F G T Expr Suffix ExprArm FieldSet SignTail Tail (λ e. e.0) (λ e. e.0) (λ e. e.0) (λ e. e.0) (λ e. e.0) (λ e. e.0) y))
  arm-case y = arm-roll (record { cond = y.cond.0; value = y.value.0 })
      (more n (both n (behind n y.cond.1) (within n y.value.1)) (λ own. record { cond = own.0; value = own.1 }))

  field-case : (y : FieldSet-F E S A F G T) → FieldClaim (roll-FieldSet (map-FieldSet E S A F G T Expr Suffix ExprArm FieldSet SignTail Tail (λ e. e.0) (λ e. e.0) (λ e. e.0) (λ e. e.0) (λ e. e.0) (λ e. e.0) y))
  field-case y = field-roll (record { name = y.name; value = y.value.0 })
      (more n (both n (both n (at n y.name.at) (skip n)) y.value.1) (λ own. own.1))

  sign_tail-case : (y : SignTail-F E S A F G T) → SignTailClaim (roll-SignTail (map-SignTail E S A F G T Expr Suffix ExprArm FieldSet SignTail Tail (λ e. e.0) (λ e. e.0) (λ e. e.0) (λ e. e.0) (λ e. e.0) (λ e. e.0) y))
  sign_tail-case y = sign_tail-roll (record { sign = y.sign; at = y.at; value = y.value.0 })
      (more n (both n (at n y.at) y.value.1) (λ own. record { near = λ left near. combined-mean (sign_binary y.sign) y.at own.0 left (M y.value.0) near own.1 }))

  tail-case : (y : Tail-F E S A F G T) → TailClaim (roll-Tail (map-Tail E S A F G T Expr Suffix ExprArm FieldSet SignTail Tail (λ e. e.0) (λ e. e.0) (λ e. e.0) (λ e. e.0) (λ e. e.0) (λ e. e.0) y))
  tail-case y = tail-roll (record { at = y.at; value = y.value.0 })
      (more n (both n (at n y.at) y.value.1) (λ own. record { near = λ which. record { near = λ left near. combined-mean which y.at own.0 left (M y.value.0) near own.1 } }))

  pub expr-near : (e : Expr) → ExprClaim e
  expr-near = ind-Expr ExprClaim SuffixClaim ArmClaim FieldClaim SignTailClaim TailClaim
      (λ x y is. subst (λ (z : Expr-F Expr Suffix ExprArm FieldSet SignTail Tail). ExprClaim (roll-Expr z)) is (expr-case y))
      (λ x y is. subst (λ (z : Suffix-F Expr Suffix ExprArm FieldSet SignTail Tail). SuffixClaim (roll-Suffix z)) is (suffix-case y))
      (λ x y is. subst (λ (z : ExprArm-F Expr Suffix ExprArm FieldSet SignTail Tail). ArmClaim (roll-ExprArm z)) is (arm-case y))
      (λ x y is. subst (λ (z : FieldSet-F Expr Suffix ExprArm FieldSet SignTail Tail). FieldClaim (roll-FieldSet z)) is (field-case y))
      (λ x y is. subst (λ (z : SignTail-F Expr Suffix ExprArm FieldSet SignTail Tail). SignTailClaim (roll-SignTail z)) is (sign_tail-case y))
      (λ x y is. subst (λ (z : Tail-F Expr Suffix ExprArm FieldSet SignTail Tail). TailClaim (roll-Tail z)) is (tail-case y))
