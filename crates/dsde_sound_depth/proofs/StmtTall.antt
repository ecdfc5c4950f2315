-- No statement or item in which nothing is wrong is lower than its conditions nest.
use Rattle.std.proofs.Common.{ℕ, ◌+◌, Bool, List, [], ◌∷◌, ◌++◌, map, Option, Some, None, subst}
use Rattle.std.specs.Prelude.{max, not}
use Rattle.dsde_syntax.specs.declared.id.Id.{Id}
use Rattle.dsde_syntax.specs.declared.stmt.Stmt.{Stmt}
use Rattle.dsde_syntax.specs.declared.stmt.StmtArm.{StmtArm}
use Rattle.dsde_syntax.specs.declared.stmt.Stmt.TheOpen.{Stmt-F, StmtArm-F}
use Rattle.dsde_syntax.specs.declared.stmt.Stmt.TheViews.{roll-Stmt, roll-StmtArm}
use Rattle.dsde_syntax.specs.declared.stmt.Stmt.TheFolds.{map-Stmt, map-StmtArm, fold-roll-Stmt, fold-roll-StmtArm, ind-Stmt}
use Rattle.dsde_names.specs.Table.{named}
use Rattle.dsde_language.specs.declared.known.Around.{Around}
use Rattle.dsde_language.specs.declared.seen.Binding.{Binding}
use Rattle.dsde_language.specs.declared.signatures.Port.{Port}
use Rattle.dsde_language.specs.declared.wrong.WrongKind.TheVariants.{Unknown, WrongType}
use Rattle.dsde_language.specs.Steps.{wrong, unless}
use Rattle.dsde_language.specs.Types.{wanted, item_type}
use Rattle.dsde_language.specs.RuleTables.{port_name}
use Rattle.dsde_language.specs.Judge.{Scope, Judge, bound_to, fresh, fixed, judge}
use Rattle.dsde_language.specs.Blocks.{Passed, Walk, ArmWalk, walk_all, inner, may_set, let_of, set_of, set_to, send_of, send_to, arms_walk, last_walk, arm_of, if_walk, for_walk, stmt_step, stmt_arm_step, walk, walk_arm}
use Rattle.dsde_sound_depth.proofs.Nests.{most, nest, else_nest, stmt_nest_step, stmt_arm_nest_step, stmt_nest, stmt_arm_nest}
use Rattle.dsde_sound_depth.proofs.Sure.{Sure, follow, pass, done, failed, weaker, Under, Nearly, under-zero, under-same, under-more, under-both, under-left, under-right, under-above, nearly-above, nearly-more, nearly-both, nearly-under}
use Rattle.dsde_sound_depth.proofs.ExprTall.{Tall}
use Rattle.dsde_sound_depth.proofs.FormsTall.{HasHeights, some-test}
use Rattle.dsde_sound_depth.proofs.ExprHeights.{roll-claim, expr-tall}

-- a statement in which so many conditions nest
pub record WalkTall (n : ℕ) (walk : Walk) : Type 0 where
  pub tall : (scope : Scope) → Sure (walk scope) (λ passed. Under n passed.height)

-- an arm, which has the height of its parts
pub record ArmWalkTall (n : ℕ) (arm : ArmWalk) : Type 0 where
  pub tall : (height : ℕ) (scope : Scope) → Sure (arm height scope) (λ high. Under height high × Nearly n high)

abbrev pub AllWalksTall : List ℕ → List Walk → Type 0
AllWalksTall [] [] = Unit {0}
AllWalksTall (n ∷ ns) (walk ∷ walks) = WalkTall n walk × AllWalksTall ns walks
AllWalksTall _ _ = ⊥

abbrev pub AllArmWalksTall : List ℕ → List ArmWalk → Type 0
AllArmWalksTall [] [] = Unit {0}
AllArmWalksTall (n ∷ ns) (arm ∷ arms) = ArmWalkTall n arm × AllArmWalksTall ns arms
AllArmWalksTall _ _ = ⊥

-- statements in their order
pub walk_all-tall : (ns : List ℕ) (walks : List Walk) → AllWalksTall ns walks → (height : ℕ) (scope : Scope) → Sure (walk_all walks height scope) (λ passed. Under height passed.height × Under (most ns) passed.height)
walk_all-tall [] [] all height scope = done (under-same, under-zero)
walk_all-tall (n ∷ ns) (walk ∷ walks) all height scope =
    follow (all.0.tall scope) (λ passed few.
    weaker (walk_all-tall ns walks all.1 (max height passed.height) passed.scope) (λ after more.
    (under-more (under-left height passed.height under-same) more.0, under-both (under-more (under-right height passed.height few) more.0) more.1)))
walk_all-tall [] (walk ∷ walks) all height scope = absurd all
walk_all-tall (n ∷ ns) [] all height scope = absurd all

pub inner-tall : (ns : List ℕ) (walks : List Walk) → AllWalksTall ns walks → (height : ℕ) (scope : Scope) → Sure (inner walks height scope) (λ high. Under height high × Under (most ns) high)
inner-tall ns walks all height scope = follow (walk_all-tall ns walks all height scope) (λ passed few. done few)

-- "let" and "var"
pub let-tall : (around : Around) (mutable : Bool) (name : Id) (n : ℕ) (value : Judge) → Tall n value → WalkTall n (let_of around mutable name value)
let-tall around mutable name n value own = record {
  tall = λ scope.
      pass (fresh around name scope) (λ _.
      follow (own.tall scope) (λ seen few. done (under-above seen.height few)));
}

-- an assignment
set_to-tall : (around : Around) (name : Id) (n : ℕ) (value : Judge) → Tall n value → (found : Option Binding) (scope : Scope)
    → Sure (elim found [ None ↦ wrong Unknown name.at | Some bound ↦ set_of around name bound value scope ]) (λ (passed : Passed). Under n passed.height)
set_to-tall around name n value own None scope = failed
set_to-tall around name n value own (Some bound) scope =
    pass (unless (not (may_set around bound.kind)) WrongType name.at) (λ _.
    follow (own.tall scope) (λ seen few.
    pass (wanted bound.ty seen) (λ _. done (under-above seen.height few))))

pub set-tall : (around : Around) (name : Id) (n : ℕ) (value : Judge) → Tall n value → WalkTall n (set_to around name value)
set-tall around name n value own = record { tall = λ scope. set_to-tall around name n value own (bound_to scope name.name) scope }

-- a value that is sent
send_to-tall : (name : Id) (n : ℕ) (value : Judge) → Tall n value → (found : Option Port) (scope : Scope)
    → Sure (elim found [ None ↦ wrong Unknown name.at | Some port ↦ send_of name port value scope ]) (λ (passed : Passed). Under n passed.height)
send_to-tall name n value own None scope = failed
send_to-tall name n value own (Some port) scope =
    pass (unless (not port.out) Unknown name.at) (λ _.
    follow (own.tall scope) (λ seen few.
    pass (wanted port.ty seen) (λ _. done (under-above seen.height few))))

pub send-tall : (ports : List Port) (name : Id) (n : ℕ) (value : Judge) → Tall n value → WalkTall n (send_to ports name value)
send-tall ports name n value own = record { tall = λ scope. send_to-tall name n value own (named port_name ports name.name) scope }

-- `if` and its arms
arms-tall : (ns : List ℕ) (arms : List ArmWalk) → AllArmWalksTall ns arms → ArmWalkTall (most ns) (arms_walk arms)
arms-tall [] [] all = record { tall = λ height scope. done (under-same, nearly-under under-zero) }
arms-tall (n ∷ ns) (arm ∷ arms) all = record {
  tall = λ height scope.
      follow (all.0.tall height scope) (λ mid own.
      weaker ((arms-tall ns arms all.1).tall mid scope) (λ high more.
      (under-more own.0 more.0, nearly-both (nearly-more own.1 more.0) more.1)));
}
arms-tall [] (arm ∷ arms) all = absurd all
arms-tall (n ∷ ns) [] all = absurd all

-- the block of `else`, which may be left out
pub record LastTall (nests : Option (List ℕ)) (walks : Option (List Walk)) : Type 0 where
  pub tall : (height : ℕ) (scope : Scope) → Sure (last_walk walks height scope) (λ high. Under height high × Under (else_nest nests) high)

pub no-last : LastTall None None
no-last = record { tall = λ height scope. done (under-same, under-zero) }

pub some-last : (ns : List ℕ) (walks : List Walk) → AllWalksTall ns walks → LastTall (Some ns) (Some walks)
some-last ns walks all = record { tall = λ height scope. inner-tall ns walks all height scope }

pub if-tall : (ns : List ℕ) (arms : List ArmWalk) → AllArmWalksTall ns arms → (nests : Option (List ℕ)) (other : Option (List Walk)) → LastTall nests other → WalkTall (max (most ns) (else_nest nests)) (if_walk arms other)
if-tall ns arms all nests other last = record {
  tall = λ scope.
      follow ((arms-tall ns arms all).tall 0 scope) (λ height own.
      follow (last.tall height scope) (λ high more.
      done (nearly-above high (nearly-both (nearly-more own.1 more.0) (nearly-under more.1)))));
}

pub arm-tall : (n : ℕ) (cond : Judge) → Tall n cond → (ns : List ℕ) (walks : List Walk) → AllWalksTall ns walks → ArmWalkTall (max (n + 1) (most ns)) (arm_of cond walks)
arm-tall n cond own ns walks all = record {
  tall = λ height scope.
      follow ((some-test n cond own).tall height scope) (λ tested test.
      weaker (inner-tall ns walks all tested scope) (λ high more.
      (under-more test.0 more.0, nearly-both (nearly-more test.1 more.0) (nearly-under more.1))));
}

pub for-tall : (around : Around) (name : Id) (n : ℕ) (list : Judge) → Tall n list → (ns : List ℕ) (walks : List Walk) → AllWalksTall ns walks → WalkTall (max n (most ns)) (for_walk around name list walks)
for-tall around name n list own ns walks all = record {
  tall = λ scope.
      pass (fresh around name scope) (λ _.
      follow (own.tall scope) (λ items few.
      pass (item_type items) (λ item.
      follow (inner-tall ns walks all items.height (scope ++ fixed name item ∷ [])) (λ height more.
      done (under-above height (under-both (under-more few more.0) more.1))))));
}

module _ (around : Around) (ports : List Port) (heights : HasHeights around.known) where
  abbrev Claim : Stmt → Type 0
  Claim s = WalkTall (stmt_nest s) (walk around ports s)

  abbrev ArmClaim : StmtArm → Type 0
  ArmClaim a = ArmWalkTall (stmt_arm_nest a) (walk_arm around ports a)

  stmt-roll : (x : Stmt-F Stmt StmtArm) → WalkTall (stmt_nest_step (map-Stmt Stmt StmtArm ℕ ℕ stmt_nest stmt_arm_nest x)) (stmt_step around ports (map-Stmt Stmt StmtArm Walk ArmWalk (walk around ports) (walk_arm around ports) x)) → Claim (roll-Stmt x)
  stmt-roll x own = roll-claim WalkTall _ _ _ _
      (fold-roll-Stmt ℕ ℕ stmt_nest_step stmt_arm_nest_step x)
      (fold-roll-Stmt Walk ArmWalk (stmt_step around ports) (stmt_arm_step around) x) own

  arm-roll : (x : StmtArm-F Stmt StmtArm) → ArmWalkTall (stmt_arm_nest_step (map-StmtArm Stmt StmtArm ℕ ℕ stmt_nest stmt_arm_nest x)) (stmt_arm_step around (map-StmtArm Stmt StmtArm Walk ArmWalk (walk around ports) (walk_arm around ports) x)) → ArmClaim (roll-StmtArm x)
  arm-roll x own = roll-claim ArmWalkTall _ _ _ _
      (fold-roll-StmtArm ℕ ℕ stmt_nest_step stmt_arm_nest_step x)
      (fold-roll-StmtArm Walk ArmWalk (stmt_step around ports) (stmt_arm_step around) x) own

  -- a part of a statement beside its claim
  abbrev S : Type 0
  S = (s : Stmt) × Claim s

  abbrev A : Type 0
  A = (a : StmtArm) × ArmClaim a

  body-tall : (body : List S) → AllWalksTall (map stmt_nest (map (λ s. s.0) body)) (map (walk around ports) (map (λ s. s.0) body))
  body-tall [] = tt
  body-tall ((s, own) ∷ body) = (own, body-tall body)

  choice-tall : (arms : List A) → AllArmWalksTall (map stmt_arm_nest (map (λ a. a.0) arms)) (map (walk_arm around ports) (map (λ a. a.0) arms))
  choice-tall [] = tt
  choice-tall ((a, own) ∷ arms) = (own, choice-tall arms)

  stmt-case : (y : Stmt-F S A) → Claim (roll-Stmt (map-Stmt S A Stmt StmtArm (λ s. s.0) (λ a. a.0) y))
  stmt-case (Stmt-F.Let mutable name e) = stmt-roll (Stmt-F.Let mutable name e) (record { tall = λ scope. (let-tall around mutable name (nest e) (judge around e) (expr-tall around heights e)).tall scope })
  stmt-case (Stmt-F.Set name e) = stmt-roll (Stmt-F.Set name e) (record { tall = λ scope. (set-tall around name (nest e) (judge around e) (expr-tall around heights e)).tall scope })
  stmt-case (Stmt-F.Send port e) = stmt-roll (Stmt-F.Send port e) (record { tall = λ scope. (send-tall ports port (nest e) (judge around e) (expr-tall around heights e)).tall scope })
  stmt-case (Stmt-F.If arms None) = stmt-roll (Stmt-F.If (map (λ a. a.0) arms) None)
      (record { tall = λ scope. (if-tall _ _ (choice-tall arms) None None no-last).tall scope })
  stmt-case (Stmt-F.If arms (Some body)) = stmt-roll (Stmt-F.If (map (λ a. a.0) arms) (Some (map (λ s. s.0) body)))
      (record { tall = λ scope. (if-tall _ _ (choice-tall arms) _ _ (some-last _ _ (body-tall body))).tall scope })
  stmt-case (Stmt-F.For name e body) = stmt-roll (Stmt-F.For name e (map (λ s. s.0) body))
      (record { tall = λ scope. (for-tall around name (nest e) (judge around e) (expr-tall around heights e) _ _ (body-tall body)).tall scope })

  arm-case : (y : StmtArm-F S A) → ArmClaim (roll-StmtArm (map-StmtArm S A Stmt StmtArm (λ s. s.0) (λ a. a.0) y))
  arm-case y = arm-roll (record { cond = y.cond; body = map (λ s. s.0) y.body })
      (record { tall = λ height scope. (arm-tall (nest y.cond) (judge around y.cond) (expr-tall around heights y.cond) _ _ (body-tall y.body)).tall height scope })

  pub stmt-tall : (s : Stmt) → WalkTall (stmt_nest s) (walk around ports s)
  stmt-tall = ind-Stmt Claim ArmClaim
      (λ x y is. subst (λ (z : Stmt-F Stmt StmtArm). Claim (roll-Stmt z)) is (stmt-case y))
      (λ x y is. subst (λ (z : StmtArm-F Stmt StmtArm). ArmClaim (roll-StmtArm z)) is (arm-case y))
