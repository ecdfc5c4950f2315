-- No expression in which nothing is wrong is lower than its conditions nest.
use Rattle.std.proofs.Common.{◌≡◌, ℕ, true, false, List, [], ◌∷◌, length, Result, Ok, Err, arith}
use Rattle.std.specs.Prelude.{max, not, ◌==◌, nat_lt}
use Rattle.dsde_syntax.specs.declared.id.Id.{Id}
use Rattle.dsde_syntax.specs.declared.token.Sign.{Sign}
use Rattle.dsde_syntax.specs.declared.expr.Expr.TheOpen.{Suffix-F}
use Rattle.dsde_values.specs.declared.types.Field.{Field}
use Rattle.dsde_values.specs.declared.types.Ty.{Ty}
use Rattle.dsde_values.specs.declared.types.Ty.TheVariants as ty
use Rattle.std.specs.Str.{bytes_eq}
use Rattle.std.proofs.lemmas.Bool.Decides.{nat_tests}
use Rattle.dsde_language.specs.declared.known.Around.{Around}
use Rattle.dsde_language.specs.declared.builtin.Part.{Part}
use Rattle.dsde_language.specs.declared.seen.Seen.{Seen}
use Rattle.dsde_language.specs.declared.wrong.Wrong.{Wrong}
use Rattle.dsde_language.specs.declared.wrong.WrongKind.TheVariants.{Limit, WrongType}
use Rattle.dsde_language.specs.Steps.{unless, above}
use Rattle.dsde_language.specs.Types.{wanted, depth_of, item_type, held_type}
use Rattle.dsde_language.specs.Judge as rules
use Rattle.dsde_language.specs.Judge.{Scope, Judge, Link, Guarded, SetJudge, seen_as, made, links_from, chain, test_of, guarded, fit, fit_all, all_of, list_of, operand, sign_may_fault, total, field_of, part_type, in_order, fill, fit_parts, arms_of, judge_step}
use Rattle.dsde_sound_depth.proofs.Nests.{most}
use Rattle.dsde_sound_depth.proofs.ExprParts.{both}
use Rattle.dsde_sound_depth.proofs.Sure.{Sure, follow, pass, done, failed, weaker, tested, Under, Nearly, under-zero, under-same, under-more, under-both, under-left, under-right, under-above, nearly-above, nearly-more, nearly-both, nearly-under}

-- an expression in which so many conditions nest
pub record Tall (n : ℕ) (judge : Judge) : Type 0 where
  pub tall : (scope : Scope) → Sure (judge scope) (λ seen. Under n seen.height)

-- a part of a chain: what it makes is no lower than what stood before it
pub record LinkTall (n : ℕ) (link : Link) : Type 0 where
  pub tall : (left : Seen) (scope : Scope) → Sure (link left scope) (λ seen. Under left.height seen.height × Under n seen.height)

-- an arm, which has the height of its parts
pub record ArmTall (n : ℕ) (arm : Guarded) : Type 0 where
  pub tall : (height : ℕ) (scope : Scope) → Sure (arm height scope) (λ seen. Under height seen.height × Nearly n seen.height)

-- what is made on parts of this height
pub made-tall : {n : ℕ} (around : Around) (own : Ty) (height place : ℕ) → Nearly n height → Sure (made around own height place) (λ seen. Under n seen.height)
made-tall around own height place few = pass (unless (nat_lt 64 (depth_of around.known.depths own)) Limit place) (λ _. done (nearly-above height few))

-- parts in lists
abbrev pub AllTall : List ℕ → List Judge → Type 0
AllTall [] [] = Unit {0}
AllTall (n ∷ ns) (judge ∷ judges) = Tall n judge × AllTall ns judges
AllTall _ _ = ⊥

abbrev pub AllLinksTall : List ℕ → List Link → Type 0
AllLinksTall [] [] = Unit {0}
AllLinksTall (n ∷ ns) (link ∷ links) = LinkTall n link × AllLinksTall ns links
AllLinksTall _ _ = ⊥

abbrev pub AllArmsTall : List ℕ → List Guarded → Type 0
AllArmsTall [] [] = Unit {0}
AllArmsTall (n ∷ ns) (arm ∷ arms) = ArmTall n arm × AllArmsTall ns arms
AllArmsTall _ _ = ⊥

abbrev pub AllSetsTall : List ℕ → List SetJudge → Type 0
AllSetsTall [] [] = Unit {0}
AllSetsTall (n ∷ ns) (set ∷ sets) = Tall n set.value × AllSetsTall ns sets
AllSetsTall _ _ = ⊥

-- a chain
pub links-tall : (ns : List ℕ) (links : List Link) → AllLinksTall ns links → (left : Seen) (scope : Scope) → Sure (links_from left links scope) (λ seen. Under left.height seen.height × Under (most ns) seen.height)
links-tall [] [] all left scope = done (under-same, under-zero)
links-tall (n ∷ ns) (link ∷ links) all left scope =
    follow (all.0.tall left scope) (λ seen own.
    weaker (links-tall ns links all.1 seen scope) (λ after more. (under-more own.0 more.0, under-both (under-more own.1 more.0) more.1)))
links-tall [] (link ∷ links) all left scope = absurd all
links-tall (n ∷ ns) [] all left scope = absurd all

-- of what nothing nests in nothing is to be known
pub none-tall : (r : Result Seen Wrong) → Sure r (λ seen. Under 0 seen.height)
none-tall (Ok seen) = done under-zero
none-tall (Err failure) = failed

-- "or value" and "and value"
pub tail-tall : (n place : ℕ) (value : Judge) → Tall n value → LinkTall n (rules.tail_step (record { at = place; value = value }))
tail-tall n place value own = record {
  tall = λ left scope.
      pass (wanted ty.Bool left) (λ _.
      follow (own.tall scope) (λ right few.
      pass (wanted ty.Bool right) (λ _.
      done (sides left.height right.height few))));
}
  where
    sides : (a b : ℕ) → Under n b → Under a (above (max a b)) × Under n (above (max a b))
    sides a b few = (under-above (max a b) (under-left a b under-same), under-above (max a b) (under-right a b few))

-- a sign and a value
pub sign_tail-tall : (around : Around) (n : ℕ) (which : Sign) (place : ℕ) (value : Judge) → Tall n value → LinkTall n (rules.sign_tail_step around (record { sign = which; at = place; value = value }))
sign_tail-tall around n which place value own = record {
  tall = λ left scope.
      pass (operand which left) (λ ty.
      follow (own.tall scope) (λ right few.
      pass (wanted ty right) (λ _.
      pass (total around (sign_may_fault which) place) (λ _.
      done (sides left.height right.height few)))));
}
  where
    sides : (a b : ℕ) → Under n b → Under a (above (max a b)) × Under n (above (max a b))
    sides a b few = (under-above (max a b) (under-left a b under-same), under-above (max a b) (under-right a b few))

-- e.f, e[i], e!
pub field-tall : (around : Around) (place : ℕ) (name : Id) → LinkTall 0 (rules.suffix_step around (Suffix-F.Field place name))
field-tall around place name = record {
  tall = λ left scope.
      pass (field_of around.known left name) (λ ty.
      weaker (made-tall around ty left.height place (nearly-under under-same)) (λ seen few. (few, under-zero)));
}

pub index-tall : (around : Around) (n place : ℕ) (value : Judge) → Tall n value → LinkTall n (rules.suffix_step around (Suffix-F.Index place value))
index-tall around n place value own = record {
  tall = λ left scope.
      pass (item_type left) (λ item.
      follow (own.tall scope) (λ right few.
      pass (wanted ty.Int right) (λ _.
      pass (total around true place) (λ _.
      done (under-above (max left.height right.height) (under-left left.height right.height under-same), under-above (max left.height right.height) (under-right left.height right.height few))))));
}

pub unwrap-tall : (around : Around) (place : ℕ) → LinkTall 0 (rules.suffix_step around (Suffix-F.Unwrap place))
unwrap-tall around place = record {
  tall = λ left scope.
      pass (held_type left) (λ inner.
      pass (total around true place) (λ _.
      done (under-above left.height under-same, under-zero)));
}

-- as many parts as types
pub same-length : (a b : ℕ) → not (a == b) ≡ false → a ≡ b
same-length a b is = grind (arith, nat_tests)

-- parts of these types
pub fit-tall : (ns : List ℕ) (judges : List Judge) → AllTall ns judges → (tys : List Ty) → length judges ≡ length tys → (height : ℕ) (scope : Scope) → Sure (fit judges tys height scope) (λ most_high. Under height most_high × Under (most ns) most_high)
fit-tall [] [] all tys long height scope = done (under-same, under-zero)
fit-tall (n ∷ ns) (judge ∷ judges) all (own ∷ tys) long height scope =
    follow (all.0.tall scope) (λ seen few.
    pass (wanted own seen) (λ _.
    weaker (fit-tall ns judges all.1 tys (omega (arith, long)) (max height seen.height) scope) (λ high more.
    (under-more (under-left height seen.height under-same) more.0, under-both (under-more (under-right height seen.height few) more.0) more.1))))
fit-tall (n ∷ ns) (judge ∷ judges) all [] long height scope = absurd (omega (arith, long))
fit-tall [] (judge ∷ judges) all tys long height scope = absurd all
fit-tall (n ∷ ns) [] all tys long height scope = absurd all

pub fit_all-tall : (name : Id) (ns : List ℕ) (judges : List Judge) → AllTall ns judges → (tys : List Ty) (scope : Scope) → Sure (fit_all name judges tys scope) (λ high. Under (most ns) high)
fit_all-tall name ns judges all tys scope =
    follow (tested (not (length judges == length tys)) WrongType name.at) (λ _ long.
    weaker (fit-tall ns judges all tys (same-length (length judges) (length tys) long) 0 scope) (λ high own. own.1))

-- parts of one type
pub all_of-tall : (ns : List ℕ) (judges : List Judge) → AllTall ns judges → (own : Ty) (height : ℕ) (scope : Scope) → Sure (all_of own judges height scope) (λ high. Under height high × Under (most ns) high)
all_of-tall [] [] all own height scope = done (under-same, under-zero)
all_of-tall (n ∷ ns) (judge ∷ judges) all own height scope =
    follow (all.0.tall scope) (λ seen few.
    pass (wanted own seen) (λ _.
    weaker (all_of-tall ns judges all.1 own (max height seen.height) scope) (λ high more.
    (under-more (under-left height seen.height under-same) more.0, under-both (under-more (under-right height seen.height few) more.0) more.1))))
all_of-tall [] (judge ∷ judges) all own height scope = absurd all
all_of-tall (n ∷ ns) [] all own height scope = absurd all

-- the fields of a new record
pub fill-tall : (ns : List ℕ) (sets : List SetJudge) → AllSetsTall ns sets → (fields : List Field) → in_order fields sets ≡ true → (height : ℕ) (scope : Scope) → Sure (fill sets fields height scope) (λ high. Under height high × Under (most ns) high)
fill-tall [] [] all fields order height scope = done (under-same, under-zero)
fill-tall (n ∷ ns) (set ∷ sets) all (field ∷ fields) order height scope =
    follow (all.0.tall scope) (λ seen few.
    pass (wanted field.ty seen) (λ _.
    weaker (fill-tall ns sets all.1 fields (both (bytes_eq field.name set.name.name) (in_order fields sets) order).right (max height seen.height) scope) (λ high more.
    (under-more (under-left height seen.height under-same) more.0, under-both (under-more (under-right height seen.height few) more.0) more.1))))
fill-tall (n ∷ ns) (set ∷ sets) all [] order height scope = cc
fill-tall [] (set ∷ sets) all fields order height scope = absurd all
fill-tall (n ∷ ns) [] all fields order height scope = absurd all

-- the arguments of a builtin
pub fit_parts-tall : (ns : List ℕ) (judges : List Judge) → AllTall ns judges → (parts : List Part) → length judges ≡ length parts → (before : Ty) (height : ℕ) (scope : Scope) → Sure (fit_parts judges parts before height scope) (λ fitted. Under height fitted.height × Under (most ns) fitted.height)
fit_parts-tall [] [] all parts long before height scope = done (under-same, under-zero)
fit_parts-tall (n ∷ ns) (judge ∷ judges) all (own ∷ parts) long before height scope =
    follow (all.0.tall scope) (λ seen few.
    pass (part_type own before seen) (λ next.
    weaker (fit_parts-tall ns judges all.1 parts (omega (arith, long)) next (max height seen.height) scope) (λ fitted more.
    (under-more (under-left height seen.height under-same) more.0, under-both (under-more (under-right height seen.height few) more.0) more.1))))
fit_parts-tall (n ∷ ns) (judge ∷ judges) all [] long before height scope = absurd (omega (arith, long))
fit_parts-tall [] (judge ∷ judges) all parts long before height scope = absurd all
fit_parts-tall (n ∷ ns) [] all parts long before height scope = absurd all

-- further arms of an `if`
pub arms_of-tall : (ns : List ℕ) (arms : List Guarded) → AllArmsTall ns arms → (own : Ty) (height : ℕ) (scope : Scope) → Sure (arms_of own arms height scope) (λ high. Under height high × Nearly (most ns) high)
arms_of-tall [] [] all own height scope = done (under-same, nearly-under under-zero)
arms_of-tall (n ∷ ns) (arm ∷ arms) all own height scope =
    follow (all.0.tall height scope) (λ seen few.
    pass (wanted own seen) (λ _.
    weaker (arms_of-tall ns arms all.1 own seen.height scope) (λ high more.
    (under-more few.0 more.0, nearly-both (nearly-more few.1 more.0) more.1))))
arms_of-tall [] (arm ∷ arms) all own height scope = absurd all
arms_of-tall (n ∷ ns) [] all own height scope = absurd all
