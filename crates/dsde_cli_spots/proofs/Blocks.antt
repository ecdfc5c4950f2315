-- Each block whose places are those of its tokens is near.
use Rattle.std.proofs.Common.{ℕ, Bool, List, [], ◌∷◌, ◌++◌, length, map, Option, Some, None, Ok, Err, sym, subst}
use Rattle.std.specs.Prelude.{if◌then◌else◌}
use Rattle.std.specs.List.{AllByRecursion}
use Rattle.dsde_syntax.specs.declared.id.Id.{Id}
use Rattle.dsde_syntax.specs.declared.expr.Expr.{Expr}
use Rattle.dsde_syntax.specs.declared.stmt.Stmt.{Stmt}
use Rattle.dsde_syntax.specs.declared.stmt.StmtArm.{StmtArm}
use Rattle.dsde_syntax.specs.declared.stmt.Stmt.TheOpen.{Stmt-F, StmtArm-F}
use Rattle.dsde_syntax.specs.declared.stmt.Stmt.TheViews.{roll-Stmt, roll-StmtArm}
use Rattle.dsde_syntax.specs.declared.stmt.Stmt.TheFolds.{map-Stmt, map-StmtArm, fold-roll-Stmt, fold-roll-StmtArm, ind-Stmt}
use Rattle.dsde_syntax.specs.Places.{Span, token, stmt_span_step, stmt_arm_span_step, stmt_span, stmt_arm_span, set_span, all_spans, spans_with}
use Rattle.dsde_values.specs.declared.types.Field.{Field}
use Rattle.dsde_values.specs.declared.value.Value.{Value}
use Rattle.dsde_language.specs.declared.known.Known.{Known}
use Rattle.dsde_language.specs.Names.{slot_of}
use Rattle.dsde_names.specs.Table.{place_of}
use Rattle.dsde_language.specs.Flow.{Flow, Stopped, over, inside, lifted}
use Rattle.dsde_language.specs.Outcome.{Halt, Outcome, ◌>>=◌, truth_of, items_of}
use Rattle.dsde_language.specs.Meaning.{Mean, Function, Scene, Walk, ArmWalk, mean, scene, bound, cut_vars, walk_all, braced, set_at, set_var, var_name, last_walk, test_in, arms_walk, for_one, for_walk, stmt_step, stmt_arm_step, walk, walk_arm, block}
use Rattle.dsde_cli_spots.specs.Placed.{Ends}
use Rattle.dsde_cli_spots.proofs.Ending.{IsBelow, ends-then, ends-if}
use Rattle.dsde_cli_spots.proofs.Operators.{truth-near, items-near}
use Rattle.dsde_cli_spots.proofs.Means.{NearMean, NearFunction}
use Rattle.dsde_cli_spots.proofs.Exprs.{expr-near}
use Rattle.dsde_cli_spots.proofs.Spans.{Grants, none, skip, more, both, at, behind, before, within, all, all-of, separated-of}

-- where statements stopped, for what stands at one of so many tokens
abbrev pub IsStoppedBelow : (n : ℕ) {S : Type 0} → Stopped S → Type 0
IsStoppedBelow n end = IsBelow n end.halt

pub record NearWalk (n : ℕ) (own : Walk) : Type 0 where
  pub near : (before : Scene) → Ends (IsStoppedBelow n) (own before)

pub record NearArmWalk (n : ℕ) (own : ArmWalk) : Type 0 where
  pub cond : NearMean n own.cond
  pub body : NearWalk n own.body

module _ (n : ℕ) where
  abbrev B : Halt → Type 0
  B = IsBelow n

  abbrev F : Stopped Scene → Type 0
  F = IsStoppedBelow n

  over-near : {A : Type 0} (state : Scene) (own : Outcome A) → Ends B own → Ends F (over state own)
  over-near state (Ok value) near = tt
  over-near state (Err halt) near = near

  inside-near : (change : Scene → Scene) (own : Flow Scene Scene) → Ends F own → Ends F (inside change own)
  inside-near change (Ok state) near = tt
  inside-near change (Err end) near = near

  pub lifted-near : (own : Flow Scene Scene) → Ends F own → Ends B (lifted own)
  lifted-near (Ok state) near = tt
  lifted-near (Err end) near = near

  pub all-near : (walks : List Walk) → AllByRecursion (NearWalk n) walks → NearWalk n (walk_all walks)
  all-near [] all = record { near = λ before. tt }
  all-near (walk ∷ walks) all = record {
    near = λ before. ends-then F (walk before) (λ after. walk_all walks after) (all.0.near before) (λ after. (all-near walks all.1).near after);
  }

  braced-near : (body : Walk) → NearWalk n body → (before : Scene) → Ends F (braced body before)
  braced-near body own before = inside-near (cut_vars (length before.vars)) (body before) (own.near before)

  set-near : (place : Option ℕ) (name : List ℕ) (value : Value) (before : Scene) → Ends F (set_at place name value before)
  set-near None name value before = tt
  set-near (Some place) name value before = tt

  abbrev NearLast : Option Walk → Type 0
  NearLast None = Unit {0}
  NearLast (Some body) = NearWalk n body

  last-near : (last : Option Walk) → NearLast last → (before : Scene) → Ends F (last_walk last before)
  last-near None own before = tt
  last-near (Some body) own before = braced-near body own before

  arms-near : (arms : List ArmWalk) → AllByRecursion (NearArmWalk n) arms → (last : Option Walk) → NearLast last → (before : Scene) → Ends F (arms_walk arms last before)
  arms-near [] all last own before = last-near last own before
  arms-near (arm ∷ arms) all last own before =
      ends-then {A = Bool} F (test_in arm.cond before) (λ truth. if truth then braced arm.body before else arms_walk arms last before)
      (over-near {A = Bool} before (arm.cond before.vars >>= (λ test. truth_of test)) (ends-then {B = Bool} B (arm.cond before.vars) (λ test. truth_of test) (all.0.cond.near before.vars) (λ test. truth-near n test)))
      (λ truth. ends-if F truth (braced arm.body before) (arms_walk arms last before) (braced-near arm.body all.0.body before) (arms-near arms all.1 last own before))

  for-near : (name : List ℕ) (body : Walk) → NearWalk n body → (items : List Value) (before : Scene) → Ends F (for_walk name body items before)
  for-near name body own [] before = tt
  for-near name body own (item ∷ items) before =
      ends-then F (for_one name body item before) (λ after. for_walk name body items after) (inside-near (cut_vars (length before.vars)) (body (bound name item before)) (own.near (bound name item before)))
      (λ after. for-near name body own items after)

  module _ (known : Known) (functions : List Function) (callable : AllByRecursion (NearFunction n) functions) (outs : List Field) where
    abbrev M : Expr → Mean
    M = mean known functions

    abbrev W : Stmt → Walk
    W = walk known functions outs

    abbrev WA : StmtArm → ArmWalk
    WA = walk_arm known functions outs

    abbrev pub StmtClaim : Stmt → Type 0
    StmtClaim s = Grants n (stmt_span s) (NearWalk n (W s))

    abbrev ArmClaim : StmtArm → Type 0
    ArmClaim a = Grants n (stmt_arm_span a) (NearArmWalk n (WA a))

    stmt-roll : (x : Stmt-F Stmt StmtArm) → Grants n (stmt_span_step (map-Stmt Stmt StmtArm Span Span stmt_span stmt_arm_span x)) (NearWalk n (stmt_step known functions outs (map-Stmt Stmt StmtArm Walk ArmWalk W WA x))) → StmtClaim (roll-Stmt x)
    stmt-roll x own =
        subst (λ (span : Span). Grants n span (NearWalk n (W (roll-Stmt x)))) (sym (fold-roll-Stmt Span Span stmt_span_step stmt_arm_span_step x))
        (subst (λ (own : Walk). Grants n (stmt_span_step (map-Stmt Stmt StmtArm Span Span stmt_span stmt_arm_span x)) (NearWalk n own)) (sym (fold-roll-Stmt Walk ArmWalk (stmt_step known functions outs) (stmt_arm_step known functions) x)) own)

    arm-roll : (x : StmtArm-F Stmt StmtArm) → Grants n (stmt_arm_span_step (map-StmtArm Stmt StmtArm Span Span stmt_span stmt_arm_span x)) (NearArmWalk n (stmt_arm_step known functions (map-StmtArm Stmt StmtArm Walk ArmWalk W WA x))) → ArmClaim (roll-StmtArm x)
    arm-roll x own =
        subst (λ (span : Span). Grants n span (NearArmWalk n (WA (roll-StmtArm x)))) (sym (fold-roll-StmtArm Span Span stmt_span_step stmt_arm_span_step x))
        (subst (λ (own : ArmWalk). Grants n (stmt_arm_span_step (map-StmtArm Stmt StmtArm Span Span stmt_span stmt_arm_span x)) (NearArmWalk n own)) (sym (fold-roll-StmtArm Walk ArmWalk (stmt_step known functions outs) (stmt_arm_step known functions) x)) own)

    -- a statement beside its claim
    abbrev S : Type 0
    S = (s : Stmt) × StmtClaim s

    abbrev A : Type 0
    A = (a : StmtArm) × ArmClaim a

    -- a name, a sign, an expression and a mark
    pub set-grants : (name : Id) (e : Expr) → Grants n (set_span name e) (NearMean n (M e))
    set-grants name e = more n (both n (both n (both n (at n name.at) (skip n)) (expr-near n known functions callable e)) (skip n)) (λ own. own.0.1)

    body-grants : (body : List S) → Grants n (all_spans (map stmt_span (map (λ s. s.0) body))) (AllByRecursion (NearWalk n) (map W (map (λ s. s.0) body)))
    body-grants body = all-of n (λ (s : S). s.0) stmt_span W (NearWalk n) (λ s. s.1) body

    arms-grant : (arms : List A) → Grants n (spans_with token (map stmt_arm_span (map (λ a. a.0) arms))) (AllByRecursion (NearArmWalk n) (map WA (map (λ a. a.0) arms)))
    arms-grant arms = separated-of n (λ (a : A). a.0) stmt_arm_span WA (NearArmWalk n) (λ a. a.1) arms

    let-near : (name : List ℕ) (e : Expr) → NearMean n (M e) → NearWalk n (λ before. over before (M e before.vars) >>= (λ own. Ok (bound name own before)))
    let-near name e own = record {
      near = λ before. ends-then F (over before (M e before.vars)) (λ own. Ok (bound name own before)) (over-near before (M e before.vars) (own.near before.vars)) (λ own. tt);
    }

    assign-near : (name : List ℕ) (e : Expr) → NearMean n (M e) → NearWalk n (λ before. over before (M e before.vars) >>= (λ own. set_var name own before))
    assign-near name e own = record {
      near = λ before.
          ends-then F (over before (M e before.vars)) (λ own. set_var name own before) (over-near before (M e before.vars) (own.near before.vars))
          (λ value. set-near (place_of var_name before.vars name) name value before);
    }

    send-near : (port : List ℕ) (e : Expr) → NearMean n (M e) → NearWalk n (λ before. over before (M e before.vars) >>= (λ own. Ok (scene before.vars (before.sends ++ record { port = slot_of outs port; value = own } ∷ []))))
    send-near port e own = record {
      near = λ before.
          ends-then F (over before (M e before.vars)) (λ own. Ok (scene before.vars (before.sends ++ record { port = slot_of outs port; value = own } ∷ []))) (over-near before (M e before.vars) (own.near before.vars)) (λ own. tt);
    }

    list-near : (name : List ℕ) (e : Expr) (body : List Walk) → NearMean n (M e) → AllByRecursion (NearWalk n) body
        → NearWalk n (λ before. over before (M e before.vars >>= (λ own. items_of own)) >>= (λ items. for_walk name (walk_all body) items before))
    list-near name e body own all = record {
      near = λ before.
          ends-then F (over before (M e before.vars >>= (λ own. items_of own))) (λ items. for_walk name (walk_all body) items before)
          (over-near before (M e before.vars >>= (λ own. items_of own)) (ends-then B (M e before.vars) (λ own. items_of own) (own.near before.vars) (λ own. items-near n own)))
          (λ items. for-near name (walk_all body) (all-near body all) items before);
    }

    stmt-case : (y : Stmt-F S A) → StmtClaim (roll-Stmt (map-Stmt S A Stmt StmtArm (λ s. s.0) (λ a. a.0) y))
    stmt-case (Stmt-F.Let mutable name e) = stmt-roll (Stmt-F.Let mutable name e) (more n (behind n (set-grants name e)) (λ own. record { near = (let-near name.name e own).near }))
    stmt-case (Stmt-F.Set name e) = stmt-roll (Stmt-F.Set name e) (more n (set-grants name e) (λ own. record { near = (assign-near name.name e own).near }))
    stmt-case (Stmt-F.Send port e) = stmt-roll (Stmt-F.Send port e)
        (more n (both n (both n (both n (skip n) (at n port.at)) (within n (expr-near n known functions callable e))) (skip n)) (λ own. record { near = (send-near port.name e own.0.1).near }))
    stmt-case (Stmt-F.If arms None) = stmt-roll (Stmt-F.If (map (λ a. a.0) arms) None)
        (more n (both n (arms-grant arms) (none n)) (λ own. record { near = λ before. arms-near _ own.0 None tt before }))
    stmt-case (Stmt-F.If arms (Some body)) = stmt-roll (Stmt-F.If (map (λ a. a.0) arms) (Some (map (λ s. s.0) body)))
        (more n (both n (arms-grant arms) (behind n (within n (body-grants body)))) (λ own. record { near = λ before. arms-near _ own.0 (Some (walk_all (map W (map (λ (s : S). s.0) body)))) (all-near _ own.1) before }))
    stmt-case (Stmt-F.For name e body) = stmt-roll (Stmt-F.For name e (map (λ s. s.0) body))
        (more n (both n (both n (both n (both n (skip n) (at n name.at)) (skip n)) (expr-near n known functions callable e)) (within n (body-grants body))) (λ own. record { near = (list-near name.name e _ own.0.1 own.1).near }))

    arm-case : (y : StmtArm-F S A) → ArmClaim (roll-StmtArm (map-StmtArm S A Stmt StmtArm (λ s. s.0) (λ a. a.0) y))
    arm-case y = arm-roll (record { cond = y.cond; body = map (λ s. s.0) y.body })
        (more n (both n (behind n (expr-near n known functions callable y.cond)) (within n (body-grants y.body))) (λ own. record { cond = own.0; body = all-near _ own.1 }))

    pub stmt-near : (s : Stmt) → StmtClaim s
    stmt-near = ind-Stmt StmtClaim ArmClaim
        (λ x y is. subst (λ (z : Stmt-F Stmt StmtArm). StmtClaim (roll-Stmt z)) is (stmt-case y))
        (λ x y is. subst (λ (z : StmtArm-F Stmt StmtArm). ArmClaim (roll-StmtArm z)) is (arm-case y))

    -- the statements of a block
    pub block-near : (stmts : List Stmt) → Grants n (all_spans (map stmt_span stmts)) (NearWalk n (block known functions outs stmts))
    block-near stmts = more n (all n stmt_span W (NearWalk n) stmt-near stmts) (λ own. all-near (map W stmts) own)
