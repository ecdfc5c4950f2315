-- Each statement, and the statements of each block, do in tables what they do over names.
use Rattle.std.proofs.Common.{◌≡◌, Bool, true, List, [], ◌∷◌, map, Some, None, refl, sym, ◌∙◌, subst, ap}
use Rattle.std.proofs.lemmas.List.Folds.{list_all-map}
use Rattle.dsde_language.specs.given.syntax.stmt_Stmt.{Stmt}
use Rattle.dsde_language.specs.given.syntax.stmt_StmtArm.{StmtArm}
use Rattle.dsde_language.specs.given.syntax.stmt_Stmt_TheOpen.{Stmt-F, StmtArm-F}
use Rattle.dsde_language.specs.given.syntax.stmt_Stmt_TheViews.{roll-Stmt, roll-StmtArm}
use Rattle.dsde_language.specs.given.syntax.stmt_Stmt_TheFolds.{fold-StmtArm, map-Stmt, map-StmtArm, fold-roll-Stmt, fold-roll-StmtArm, ind-Stmt}
use Rattle.dsde_language.specs.given.values.types_Field.{Field}
use Rattle.dsde_language.specs.given.values.types_Types.{Types}
use Rattle.dsde_language.specs.declared.known.Around.{Around}
use Rattle.dsde_language.specs.declared.known.Known.{Known}
use Rattle.dsde_language.specs.declared.signatures.Port.{Port}
use Rattle.dsde_language.specs.Blocks as rule_blocks
use Rattle.dsde_language.specs.declared.act.Act.{Act}
use Rattle.dsde_language.specs.declared.act.ActArm.{ActArm}
use Rattle.dsde_language.specs.Pieces.{Step, all}
use Rattle.dsde_language.specs.Statements as said
use Rattle.dsde_language.specs.Statements.{resolve_stmt, resolve_stmts}
use Rattle.dsde_language.specs.Meaning as meaning
use Rattle.dsde_language.specs.Meaning.{Function, Walk, ArmWalk, walk_all, block}
use Rattle.dsde_language.specs.MeaningTables.{Coded, act_flow}
use Rattle.dsde_language.specs.Proper as proper
use Rattle.dsde_language.specs.Proper.{is_proper_stmt, all_so}
use Rattle.dsde_language.specs.Scopes.{AreOuts}
use Rattle.dsde_language.specs.Agreement.{ExpressionsAgree, BlocksAgree}
use Rattle.dsde_sound_expressions.proofs.Does.{Does, AllDo, Exprs}
use Rattle.dsde_sound_expressions.proofs.Statements.{let-does, set-does, send-does}
use Rattle.dsde_sound_expressions.proofs.Braces.{all-do}
use Rattle.dsde_sound_expressions.proofs.Loops.{for-does}
use Rattle.dsde_sound_expressions.proofs.Choices.{ArmDoes, arm-does, if-none, if-some}

roll-four : {A B C D : Type 0} (Q : A → B → C → D → Type 0) (a a' : A) (b b' : B) (c c' : C) (d d' : D) → a ≡ a' → b ≡ b' → c ≡ c' → d ≡ d' → Q a' b' c' d' → Q a b c d
roll-four Q a a' b b' c c' d d' ha hb hc hd own =
    subst (λ own. Q own b c d) (sym ha) (subst (λ own. Q a' own c d) (sym hb) (subst (λ own. Q a' b' own d) (sym hc) (subst (λ own. Q a' b' c' own) (sym hd) own)))

module _ (types : Types) (coded : Coded) (whole : Known) (functions : List Function) (around : Around) (ports : List Port) (outs : List Field)
    (exprs : Exprs types coded whole functions around outs) (are : AreOuts ports outs) where
  abbrev P : Stmt → Bool
  P = is_proper_stmt

  abbrev PA : StmtArm → Bool
  PA = fold-StmtArm Bool Bool proper.stmt_step proper.stmt_arm_step

  abbrev J : Stmt → rule_blocks.Walk
  J = rule_blocks.walk around ports

  abbrev JA : StmtArm → rule_blocks.ArmWalk
  JA = rule_blocks.walk_arm around ports

  abbrev R : Stmt → Step Act
  R = resolve_stmt whole outs

  abbrev RA : StmtArm → Step ActArm
  RA = fold-StmtArm (Step Act) (Step ActArm) (said.stmt_step whole outs) (said.arm_step whole)

  abbrev W : Stmt → Walk
  W = meaning.walk whole functions outs

  abbrev WA : StmtArm → ArmWalk
  WA = meaning.walk_arm whole functions outs

  abbrev Stmts : Bool → rule_blocks.Walk → Step Act → Walk → Type 0
  Stmts plain judged step walk = Does types coded around.has_elapsed outs act_flow plain judged step walk

  abbrev Arms : Bool → rule_blocks.ArmWalk → Step ActArm → ArmWalk → Type 0
  Arms = ArmDoes types coded whole functions around ports outs exprs

  abbrev Claim : Stmt → Type 0
  Claim s = Stmts (P s) (J s) (R s) (W s)

  abbrev ArmClaim : StmtArm → Type 0
  ArmClaim a = Arms (PA a) (JA a) (RA a) (WA a)

  stmt-roll : (x : Stmt-F Stmt StmtArm)
      → Stmts (proper.stmt_step (map-Stmt Stmt StmtArm Bool Bool P PA x)) (rule_blocks.stmt_step around ports (map-Stmt Stmt StmtArm rule_blocks.Walk rule_blocks.ArmWalk J JA x))
      (said.stmt_step whole outs (map-Stmt Stmt StmtArm (Step Act) (Step ActArm) R RA x)) (meaning.stmt_step whole functions outs (map-Stmt Stmt StmtArm Walk ArmWalk W WA x))
      → Claim (roll-Stmt x)
  stmt-roll x own = roll-four Stmts _ _ _ _ _ _ _ _
      (fold-roll-Stmt Bool Bool proper.stmt_step proper.stmt_arm_step x)
      (fold-roll-Stmt rule_blocks.Walk rule_blocks.ArmWalk (rule_blocks.stmt_step around ports) (rule_blocks.stmt_arm_step around) x)
      (fold-roll-Stmt (Step Act) (Step ActArm) (said.stmt_step whole outs) (said.arm_step whole) x)
      (fold-roll-Stmt Walk ArmWalk (meaning.stmt_step whole functions outs) (meaning.stmt_arm_step whole functions) x) own

  arm-roll : (x : StmtArm-F Stmt StmtArm)
      → Arms (proper.stmt_arm_step (map-StmtArm Stmt StmtArm Bool Bool P PA x)) (rule_blocks.stmt_arm_step around (map-StmtArm Stmt StmtArm rule_blocks.Walk rule_blocks.ArmWalk J JA x))
      (said.arm_step whole (map-StmtArm Stmt StmtArm (Step Act) (Step ActArm) R RA x)) (meaning.stmt_arm_step whole functions (map-StmtArm Stmt StmtArm Walk ArmWalk W WA x))
      → ArmClaim (roll-StmtArm x)
  arm-roll x own = roll-four Arms _ _ _ _ _ _ _ _
      (fold-roll-StmtArm Bool Bool proper.stmt_step proper.stmt_arm_step x)
      (fold-roll-StmtArm rule_blocks.Walk rule_blocks.ArmWalk (rule_blocks.stmt_step around ports) (rule_blocks.stmt_arm_step around) x)
      (fold-roll-StmtArm (Step Act) (Step ActArm) (said.stmt_step whole outs) (said.arm_step whole) x)
      (fold-roll-StmtArm Walk ArmWalk (meaning.stmt_step whole functions outs) (meaning.stmt_arm_step whole functions) x) own

  -- a statement and an arm, beside their claims
  abbrev S : Type 0
  S = (s : Stmt) × Claim s

  abbrev A : Type 0
  A = (a : StmtArm) × ArmClaim a

  abbrev bare : List S → List Stmt
  bare body = map (λ s. s.0) body

  body-do : (body : List S) → AllDo types coded around.has_elapsed outs (all_so (map P (bare body))) (map J (bare body)) (all (map R (bare body))) (walk_all (map W (bare body)))
  body-do body = all-do types coded around.has_elapsed outs (λ (s : S). s.0) P J R W (λ s. s.1) body

  stmt-case : (y : Stmt-F S A) → Claim (roll-Stmt (map-Stmt S A Stmt StmtArm (λ s. s.0) (λ a. a.0) y))
  stmt-case (Stmt-F.Let mutable name e) = stmt-roll (Stmt-F.Let mutable name e) (let-does types coded whole functions around ports outs exprs mutable name e)
  stmt-case (Stmt-F.Set name e) = stmt-roll (Stmt-F.Set name e) (set-does types coded whole functions around ports outs exprs name e)
  stmt-case (Stmt-F.Send port e) = stmt-roll (Stmt-F.Send port e) (send-does types coded whole functions around ports outs exprs are port e)
  stmt-case (Stmt-F.If arms None) = stmt-roll (Stmt-F.If (map (λ a. a.0) arms) None)
      (if-none types coded whole functions around ports outs exprs (λ (a : A). a.0) PA JA RA WA (λ a. a.1) arms)
  stmt-case (Stmt-F.If arms (Some body)) = stmt-roll (Stmt-F.If (map (λ a. a.0) arms) (Some (bare body)))
      (if-some types coded whole functions around ports outs exprs (λ (a : A). a.0) PA JA RA WA (λ a. a.1) arms
      (map P (bare body)) (map J (bare body)) (map R (bare body)) (map W (bare body)) (body-do body))
  stmt-case (Stmt-F.For name e body) = stmt-roll (Stmt-F.For name e (bare body))
      (for-does types coded whole functions around ports outs exprs name e (map P (bare body)) (map J (bare body)) (map R (bare body)) (map W (bare body)) (body-do body))

  arm-case : (y : StmtArm-F S A) → ArmClaim (roll-StmtArm (map-StmtArm S A Stmt StmtArm (λ s. s.0) (λ a. a.0) y))
  arm-case y = arm-roll (record { cond = y.cond; body = bare y.body })
      (arm-does types coded whole functions around ports outs exprs y.cond (map P (bare y.body)) (map J (bare y.body)) (map R (bare y.body)) (map W (bare y.body)) (body-do y.body))

  stmt-does : (s : Stmt) → Claim s
  stmt-does = ind-Stmt Claim ArmClaim
      (λ x y is. subst (λ (z : Stmt-F Stmt StmtArm). Claim (roll-Stmt z)) is (stmt-case y))
      (λ x y is. subst (λ (z : StmtArm-F Stmt StmtArm). ArmClaim (roll-StmtArm z)) is (arm-case y))

  map-same : (l : List Stmt) → map (λ (s : Stmt). s) l ≡ l
  map-same [] = refl
  map-same (s ∷ l) = ap (λ (m : List Stmt). s ∷ m) (map-same l)

  pub stmts-do : (stmts : List Stmt) → AllDo types coded around.has_elapsed outs (all_so (map P stmts)) (map J stmts) (resolve_stmts whole outs stmts) (block whole functions outs stmts)
  stmts-do stmts =
      subst (λ (l : List Stmt). AllDo types coded around.has_elapsed outs (all_so (map P l)) (map J l) (all (map R l)) (walk_all (map W l))) (map-same stmts)
      (all-do types coded around.has_elapsed outs (λ (s : Stmt). s) P J R W stmt-does stmts)

-- the statements of a block, where expressions agree
pub blocks-agree : ExpressionsAgree → BlocksAgree
blocks-agree agree types coded whole functions around ports outs stmts scope passed slots next within serve calls are plain judged sees =
    let exprs : Exprs types coded whole functions around outs = λ e. agree types coded whole functions around e within serve calls in
    let all_plain : all_so (map is_proper_stmt stmts) ≡ true = list_all-map (λ (own : Bool). own) is_proper_stmt stmts ∙ plain in
    let done = (stmts-do types coded whole functions around ports outs exprs are stmts).does all_plain 0 scope passed slots next judged sees in
    record {
      more = done.more;
      grows = done.grows;
      sees = done.sees;
      lands = λ before fits sent. (done.shows before 0 fits sent).lands;
      runs = λ before depth fits sent nodes blocks low deep. (done.shows before depth fits sent).same (record { code = nodes; acts = blocks; low = low; deep = deep });
    }
