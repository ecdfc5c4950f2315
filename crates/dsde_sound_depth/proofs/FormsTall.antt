-- No form of an expression in which nothing is wrong is lower than its conditions nest.
use Rattle.std.proofs.Common.{◌≡◌, ℕ, ◌+◌, ◌≤◌, Bool, true, false, List, [], ◌∷◌, ◌++◌, length, Option, Some, None, refl, arith}
use Rattle.std.specs.Prelude.{max, min, not, ◌==◌}
use Rattle.dsde_syntax.specs.declared.id.Id.{Id}
use Rattle.dsde_syntax.specs.declared.token.Sign.{Sign}
use Rattle.dsde_syntax.specs.declared.expr.Expr.TheOpen.{Expr-F}
use Rattle.dsde_values.specs.declared.types.Field.{Field}
use Rattle.dsde_values.specs.declared.types.Ty.TheVariants as ty
use Rattle.dsde_names.specs.Table.{named}
use Rattle.dsde_language.specs.declared.builtin.Row.{Row}
use Rattle.dsde_language.specs.declared.known.Around.{Around}
use Rattle.dsde_language.specs.declared.known.Known.{Known}
use Rattle.dsde_language.specs.declared.seen.Seen.{Seen}
use Rattle.dsde_language.specs.declared.signatures.Func.{Func}
use Rattle.dsde_language.specs.declared.wrong.WrongKind.TheVariants.{Unknown, WrongType}
use Rattle.dsde_language.specs.Steps.{wrong, above}
use Rattle.dsde_language.specs.RuleTables.{func_name}
use Rattle.dsde_language.specs.Types.{wanted, item_type, held_type}
use Rattle.dsde_language.specs.Judge as rules
use Rattle.dsde_language.specs.Judge.{Scope, Judge, Link, Guarded, SetJudge, fresh, fixed, total, chain, test_of, guarded, list_of, call_of, call_to, compared, fields_at, declared_type, all_fields, in_order, record_of, record_at, new_of, builtin_of, given_type, each_of, if_of, judge_step}
use Rattle.dsde_sound_depth.proofs.Nests.{most, test_nest, nest_step, arm_nest_step}
use Rattle.dsde_sound_depth.proofs.Sure.{Sure, follow, pass, done, failed, weaker, tested, Under, Nearly, under-zero, under-same, under-more, under-both, under-left, under-right, under-above, nearly-above, nearly-more, nearly-both, nearly-next, nearly-under}
use Rattle.dsde_sound_depth.proofs.ExprTall.{Tall, ArmTall, AllTall, AllLinksTall, AllArmsTall, AllSetsTall, made-tall, links-tall, same-length, fit_all-tall, all_of-tall, fill-tall, fit_parts-tall, arms_of-tall}

-- each function that is known has a height
abbrev pub HasHeights : Known → Type 0
HasHeights known = (name : List ℕ) (func : Func) → named func_name known.funcs name ≡ Some func → 1 ≤ func.height

-- two parts, and one above them
sides : (n m a b : ℕ) → Under n a → Under m b → Under (max n m) (above (max a b))
sides n m a b left right = under-above (max a b) (under-both (under-left a b left) (under-right a b right))

pub chain-tall : (n : ℕ) (first : Judge) → Tall n first → (ns : List ℕ) (links : List Link) → AllLinksTall ns links → Tall (max n (most ns)) (chain first links)
chain-tall n first own ns links all = record {
  tall = λ scope.
      follow (own.tall scope) (λ left few.
      weaker (links-tall ns links all left scope) (λ seen more. under-both (under-more few more.0) more.1));
}

-- a node of two parts
module _ (around : Around) (n1 n2 : ℕ) (j1 j2 : Judge) (one : Tall n1 j1) (two : Tall n2 j2) where
  pub or_else-tall : (place : ℕ) → Tall (nest_step (Expr-F.OrElse place n1 n2)) (judge_step around (Expr-F.OrElse place j1 j2))
  or_else-tall place = record {
    tall = λ scope.
        follow (one.tall scope) (λ left few.
        pass (held_type left) (λ inner.
        follow (two.tall scope) (λ right more.
        pass (wanted inner right) (λ _.
        done (sides n1 n2 left.height right.height few more)))));
  }

  pub compare-tall : (which : Sign) (place : ℕ) → Tall (nest_step (Expr-F.Compare which place n1 n2)) (judge_step around (Expr-F.Compare which place j1 j2))
  compare-tall which place = record {
    tall = λ scope.
        follow (one.tall scope) (λ left few.
        pass (compared which left) (λ own.
        follow (two.tall scope) (λ right more.
        pass (wanted own right) (λ _.
        done (sides n1 n2 left.height right.height few more)))));
  }

-- a node of one part
module _ (around : Around) (n : ℕ) (judge : Judge) (part : Tall n judge) where
  pub not-tall : (place : ℕ) → Tall (nest_step (Expr-F.Not place n)) (judge_step around (Expr-F.Not place judge))
  not-tall place = record {
    tall = λ scope.
        follow (part.tall scope) (λ seen few.
        pass (wanted ty.Bool seen) (λ _. done (under-above seen.height few)));
  }

  pub neg-tall : (place : ℕ) → Tall (nest_step (Expr-F.Neg place n)) (judge_step around (Expr-F.Neg place judge))
  neg-tall place = record {
    tall = λ scope.
        follow (part.tall scope) (λ seen few.
        pass (wanted ty.Int seen) (λ _.
        pass (total around true place) (λ _. done (under-above seen.height few))));
  }

  pub if-tall : (place : ℕ) (ns : List ℕ) (arms : List Guarded) → AllArmsTall ns arms → Tall (nest_step (Expr-F.If place ns n)) (judge_step around (Expr-F.If place arms judge))
  if-tall place [] [] all = record { tall = λ scope. weaker (part.tall scope) (λ seen few. under-both under-zero few) }
  if-tall place (m ∷ ns) (arm ∷ arms) all = record {
    tall = λ scope.
        follow (all.0.tall 0 scope) (λ first own.
        follow (arms_of-tall ns arms all.1 first.ty first.height scope) (λ height more.
        follow (part.tall scope) (λ last few.
        pass (wanted first.ty last) (λ _.
        done (nearly-above (max height last.height)
        (nearly-both
        (nearly-both (nearly-more own.1 (under-more more.0 (under-left height last.height under-same))) (nearly-more more.1 (under-left height last.height under-same)))
        (nearly-under (under-right height last.height few))))))));
  }
  if-tall place [] (arm ∷ arms) all = absurd all
  if-tall place (m ∷ ns) [] all = absurd all

-- a call of a function that is known
call_of-tall : (around : Around) (name : Id) (ns : List ℕ) (args : List Judge) → AllTall ns args → (found : Option Func) → ((func : Func) → found ≡ Some func → 1 ≤ func.height) → (scope : Scope)
    → Sure (elim found [ None ↦ wrong Unknown name.at | Some func ↦ call_of around name func args scope ]) (λ (seen : Seen). Under (most ns) seen.height)
call_of-tall around name ns args all None heights scope = failed
call_of-tall around name ns args all (Some func) heights scope =
    follow (fit_all-tall name ns args all func.params scope) (λ height few.
    pass (total around true name.at) (λ _.
    done (below height func.height (heights func refl) few)))
  where
    below : (height own : ℕ) → 1 ≤ own → Under (most ns) height → Under (most ns) (above (min height 512 + min own 512))
    below height own some few less = omega (arith, some, less, few (omega (arith, some, less)))

-- a node of a list of parts
module _ (around : Around) (ns : List ℕ) (parts : List Judge) (all : AllTall ns parts) where
  pub call-tall : (name : Id) → HasHeights around.known → Tall (nest_step (Expr-F.Call name ns)) (judge_step around (Expr-F.Call name parts))
  call-tall name heights = record { tall = λ scope. call_of-tall around name ns parts all (named func_name around.known.funcs name.name) (heights name.name) scope }

  pub builtin-tall : (row : Row) (place : ℕ) → Tall (most ns) (builtin_of around row place parts)
  builtin-tall row place = record {
    tall = λ scope.
        follow (tested (not (length parts == length row.parts)) WrongType place) (λ _ long.
        follow (fit_parts-tall ns parts all row.parts (same-length (length parts) (length row.parts) long) ty.Int 0 scope) (λ fitted few.
        pass (total around row.may_fault place) (λ _.
        made-tall around (given_type row.gives fitted.ty) fitted.height place (nearly-under few.1))));
  }

pub list-tall : (around : Around) (place : ℕ) (ns : List ℕ) (parts : List Judge) → AllTall ns parts → Tall (nest_step (Expr-F.List place ns)) (judge_step around (Expr-F.List place parts))
list-tall around place [] [] all = record { tall = λ scope. failed }
list-tall around place (n ∷ ns) (first ∷ rest) all = record {
  tall = λ scope.
      follow (all.0.tall scope) (λ seen few.
      follow (all_of-tall ns rest all.1 seen.ty seen.height scope) (λ height more.
      pass (total around true place) (λ _.
      made-tall around (ty.List seen.ty) height place (nearly-under (under-both (under-more few more.0) more.1)))));
}
list-tall around place [] (first ∷ rest) all = absurd all
list-tall around place (n ∷ ns) [] all = absurd all

-- a new record
record_of-tall : (place : ℕ) (owner : Id) (number : ℕ) (ns : List ℕ) (sets : List SetJudge) → AllSetsTall ns sets → (found : Option (List Field)) (scope : Scope)
    → Sure (elim found [ None ↦ wrong Unknown owner.at | Some fields ↦ record_of place owner number fields sets scope ]) (λ (seen : Seen). Under (most ns) seen.height)
record_of-tall place owner number ns sets all None scope = failed
record_of-tall place owner number ns sets all (Some fields) scope =
    pass (all_fields fields sets) (λ _.
    follow (tested (not (in_order fields sets)) WrongType owner.at) (λ _ order.
    follow (fill-tall ns sets all fields (right-order (in_order fields sets) order) 0 scope) (λ height few.
    done (under-above height few.1))))
  where
    right-order : (b : Bool) → not b ≡ false → b ≡ true
    right-order true is = refl
    right-order false is = cc

new_of-tall : (known : Known) (place : ℕ) (owner : Id) (ns : List ℕ) (sets : List SetJudge) → AllSetsTall ns sets → (found : Option ℕ) (scope : Scope)
    → Sure (elim found [ None ↦ wrong Unknown owner.at | Some number ↦ record_at known place owner number sets scope ]) (λ (seen : Seen). Under (most ns) seen.height)
new_of-tall known place owner ns sets all None scope = failed
new_of-tall known place owner ns sets all (Some number) scope = record_of-tall place owner number ns sets all (fields_at known number) scope

pub new-tall : (around : Around) (place : ℕ) (owner : Id) (ns : List ℕ) (sets : List SetJudge) → AllSetsTall ns sets → Tall (nest_step (Expr-F.New place owner ns)) (judge_step around (Expr-F.New place owner sets))
new-tall around place owner ns sets all = record { tall = λ scope. new_of-tall around.known place owner ns sets all (declared_type around.known owner.name) scope }

-- a condition, which may be left out
pub record TestTall (nest : Option ℕ) (cond : Option Judge) : Type 0 where
  pub tall : (height : ℕ) (scope : Scope) → Sure (test_of cond height scope) (λ high. Under height high × Nearly (test_nest nest) high)

pub no-test : TestTall None None
no-test = record { tall = λ height scope. done (under-same, nearly-under under-zero) }

pub some-test : (n : ℕ) (cond : Judge) → Tall n cond → TestTall (Some n) (Some cond)
some-test n cond own = record {
  tall = λ height scope.
      follow (own.tall scope) (λ test few.
      pass (wanted ty.Bool test) (λ _.
      done (under-left height test.height under-same, nearly-next (under-right height test.height few))));
}

-- a value behind a condition
pub guarded-tall : (nest : Option ℕ) (cond : Option Judge) → TestTall nest cond → (n : ℕ) (value : Judge) → Tall n value → ArmTall (max (test_nest nest) n) (guarded cond value)
guarded-tall nest cond test n value own = record {
  tall = λ height scope.
      follow (test.tall height scope) (λ tested high.
      follow (own.tall scope) (λ seen few.
      done (under-more high.0 (under-left tested seen.height under-same), nearly-both (nearly-more high.1 (under-left tested seen.height under-same)) (nearly-under (under-right tested seen.height few)))));
}

pub arm-tall : (n1 n2 : ℕ) (cond value : Judge) → Tall n1 cond → Tall n2 value → ArmTall (arm_nest_step (record { cond = n1; value = n2 })) (rules.arm_step (record { cond = cond; value = value }))
arm-tall n1 n2 cond value test own = guarded-tall (Some n1) (Some cond) (some-test n1 cond test) n2 value own

pub each-tall : (around : Around) (place : ℕ) (name : Id) (n1 : ℕ) (list : Judge) → Tall n1 list → (nest : Option ℕ) (cond : Option Judge) → TestTall nest cond → (n2 : ℕ) (value : Judge) → Tall n2 value
    → Tall (nest_step (Expr-F.Each place name n1 nest n2)) (judge_step around (Expr-F.Each place name list cond value))
each-tall around place name n1 list first nest cond test n2 value own = record {
  tall = λ scope.
      pass (fresh around name scope) (λ _.
      follow (first.tall scope) (λ items few.
      pass (item_type items) (λ item.
      follow ((guarded-tall nest cond test n2 value own).tall items.height (scope ++ fixed name item ∷ [])) (λ seen more.
      made-tall around (ty.List seen.ty) seen.height place (nearly-both (nearly-more (nearly-under few) more.0) more.1)))));
}
