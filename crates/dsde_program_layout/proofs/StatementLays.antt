-- What statements, functions and bodies lay behind tables is their resolution.
use Rattle.std.proofs.Common.{◌≡◌, ℕ, ◌+◌, true, false, List, [], ◌∷◌, map, length, Option, Some, None, refl, sym, ◌∙◌, ap, subst}
use Rattle.dsde_language.specs.given.syntax.expr_Expr.{Expr}
use Rattle.dsde_language.specs.given.syntax.stmt_Stmt.{Stmt}
use Rattle.dsde_language.specs.given.syntax.stmt_StmtArm.{StmtArm}
use Rattle.dsde_language.specs.given.syntax.stmt_Stmt_TheOpen.{Stmt-F, StmtArm-F}
use Rattle.dsde_language.specs.given.syntax.stmt_Stmt_TheViews.{roll-Stmt, roll-StmtArm}
use Rattle.dsde_language.specs.given.syntax.stmt_Stmt_TheFolds.{fold-StmtArm, map-Stmt, map-StmtArm, fold-roll-Stmt, fold-roll-StmtArm, ind-Stmt}
use Rattle.dsde_language.specs.given.syntax.decl_Body.{Body}
use Rattle.dsde_language.specs.given.syntax.decl_Phase.{Phase}
use Rattle.dsde_language.specs.given.syntax.decl_StateDecl.{StateDecl}
use Rattle.dsde_language.specs.given.syntax.decl_Typed.{Typed}
use Rattle.dsde_language.specs.given.values.types_Field.{Field}
use Rattle.dsde_language.specs.declared.known.Known.{Known}
use Rattle.dsde_language.specs.RuleTables.{by_text}
use Rattle.dsde_language.specs.declared.act.Act.{Act}
use Rattle.dsde_language.specs.declared.act.Act.TheVariants as act
use Rattle.dsde_language.specs.declared.act.ActArm.{ActArm}
use Rattle.dsde_language.specs.declared.code.Code.{Code}
use Rattle.dsde_language.specs.declared.code.FnCode.{FnCode}
use Rattle.dsde_language.specs.declared.node_ids.BlockId.{BlockId}
use Rattle.dsde_language.specs.declared.node_ids.ExprId.{ExprId}
use Rattle.dsde_language.specs.Names.{Scope, slot_of, with_slots}
use Rattle.dsde_language.specs.Typing.{item_in}
use Rattle.dsde_language.specs.Expressions.{resolve}
use Rattle.dsde_language.specs.Pieces as piece
use Rattle.dsde_language.specs.Statements as said
use Rattle.dsde_language.specs.DeclaredModels.{typed_fields, port_fields}
use Rattle.dsde_language.specs.Statements.{FuncParts, Blocks, input_fields, body_scope, phase_at}
use Rattle.dsde_program_layout.specs.Lay.{lay}
use Rattle.dsde_program_layout.specs.LayPieces as step
use Rattle.dsde_program_layout.specs.LayPieces.{LaidPiece}
use Rattle.dsde_program_layout.specs.LayStatements as laid
use Rattle.dsde_program_layout.specs.LaidIs.{next_of}
use Rattle.dsde_program_layout.proofs.Lays as of_expr
use Rattle.dsde_program_layout.proofs.PieceLays.{Lays, same-tables, give-lays, bound-lays, binding-lays, seeing-lays, over-lays, then-lays, expr-lays, seam, in-room, braced-lays, maybe-lays, all-lays, map-same}

-- an expression, and what stands behind it
pub value-lays : {B : Type 0} (known : Known) (e : Expr) (k : ExprId → _ → step.Step B) (t : ExprId → _ → piece.Step B)
    → ((n : ExprId) (ty : _) → Lays (k n ty) (t n ty)) → Lays (step.expr (lay known e) k) (piece.expr (resolve known e) t)
value-lays known e k t next = expr-lays (lay known e) (resolve known e) k t (of_expr.expr-lays known e) next

module _ (known : Known) (outs : List Field) where
  abbrev L : Stmt → step.Step Act
  L = laid.lay_stmt known outs

  abbrev S : Stmt → piece.Step Act
  S = said.resolve_stmt known outs

  abbrev LA : StmtArm → step.Step ActArm
  LA = fold-StmtArm (step.Step Act) (step.Step ActArm) (laid.stmt_step known outs) (laid.arm_step known)

  abbrev SA : StmtArm → piece.Step ActArm
  SA = fold-StmtArm (piece.Step Act) (piece.Step ActArm) (said.stmt_step known outs) (said.arm_step known)

  abbrev Claim : Stmt → Type 0
  Claim s = Lays (L s) (S s)

  abbrev ArmClaim : StmtArm → Type 0
  ArmClaim a = Lays (LA a) (SA a)

  roll-both : {A B : Type 0} (P : A → B → Type 0) (a a' : A) (b b' : B) → a ≡ a' → b ≡ b' → P a' b' → P a b
  roll-both P a a' b b' ha hb own = subst (λ own. P own b) (sym ha) (subst (λ own. P a' own) (sym hb) own)

  stmt-roll : (x : Stmt-F Stmt StmtArm)
      → Lays (laid.stmt_step known outs (map-Stmt Stmt StmtArm (step.Step Act) (step.Step ActArm) L LA x)) (said.stmt_step known outs (map-Stmt Stmt StmtArm (piece.Step Act) (piece.Step ActArm) S SA x))
      → Claim (roll-Stmt x)
  stmt-roll x own = roll-both Lays _ _ _ _
      (fold-roll-Stmt (step.Step Act) (step.Step ActArm) (laid.stmt_step known outs) (laid.arm_step known) x)
      (fold-roll-Stmt (piece.Step Act) (piece.Step ActArm) (said.stmt_step known outs) (said.arm_step known) x) own

  arm-roll : (x : StmtArm-F Stmt StmtArm)
      → Lays (laid.arm_step known (map-StmtArm Stmt StmtArm (step.Step Act) (step.Step ActArm) L LA x)) (said.arm_step known (map-StmtArm Stmt StmtArm (piece.Step Act) (piece.Step ActArm) S SA x))
      → ArmClaim (roll-StmtArm x)
  arm-roll x own = roll-both Lays _ _ _ _
      (fold-roll-StmtArm (step.Step Act) (step.Step ActArm) (laid.stmt_step known outs) (laid.arm_step known) x)
      (fold-roll-StmtArm (piece.Step Act) (piece.Step ActArm) (said.stmt_step known outs) (said.arm_step known) x) own

  abbrev St : Type 0
  St = (s : Stmt) × Claim s

  abbrev Ar : Type 0
  Ar = (a : StmtArm) × ArmClaim a

  body-lays : (body : List St) → Lays (step.all (map L (map (λ s. s.0) body))) (piece.all (map S (map (λ s. s.0) body)))
  body-lays body = all-lays (λ (s : St). s.0) L S (λ s. s.1) body

  arms-lay : (arms : List Ar) → Lays (step.all (map LA (map (λ a. a.0) arms))) (piece.all (map SA (map (λ a. a.0) arms)))
  arms-lay arms = all-lays (λ (a : Ar). a.0) LA SA (λ a. a.1) arms

  stmt-case : (y : Stmt-F St Ar) → Claim (roll-Stmt (map-Stmt St Ar Stmt StmtArm (λ s. s.0) (λ a. a.0) y))
  stmt-case (Stmt-F.Let mutable name e) = stmt-roll (Stmt-F.Let mutable name e)
      (value-lays known e _ _ (λ own ty. bound-lays name.name ty (act.Let own)))
  stmt-case (Stmt-F.Set name e) = stmt-roll (Stmt-F.Set name e)
      (value-lays known e _ _ (λ own ty. seeing-lays _ _ (λ scope. give-lays (act.Set (slot_of scope name.name) own))))
  stmt-case (Stmt-F.Send port e) = stmt-roll (Stmt-F.Send port e)
      (value-lays known e _ _ (λ own ty. give-lays (act.Send (slot_of outs port.name) own)))
  stmt-case (Stmt-F.If arms None) = stmt-roll (Stmt-F.If (map (λ a. a.0) arms) None)
      (then-lays (step.all (map LA (map (λ a. a.0) arms))) (piece.all (map SA (map (λ a. a.0) arms))) _ _ (arms-lay arms)
      (λ own. then-lays (step.give None) (piece.give None) _ _ (give-lays None) (λ last. give-lays (act.If own last))))
  stmt-case (Stmt-F.If arms (Some body)) = stmt-roll (Stmt-F.If (map (λ a. a.0) arms) (Some (map (λ s. s.0) body)))
      (let l = step.braced (step.all (map L (map (λ s. s.0) body))) in
      let s = piece.braced (piece.all (map S (map (λ s. s.0) body))) in
      then-lays (step.all (map LA (map (λ a. a.0) arms))) (piece.all (map SA (map (λ a. a.0) arms))) _ _ (arms-lay arms)
      (λ own. then-lays (step.maybe (Some l)) (piece.maybe (Some s)) _ _
      (maybe-lays l s (braced-lays _ _ (body-lays body)))
      (λ last. give-lays (act.If own last))))
  stmt-case (Stmt-F.For name e body) = stmt-roll (Stmt-F.For name e (map (λ s. s.0) body))
      (value-lays known e _ _
      (λ own ty. then-lays (step.braced (step.binding name.name (item_in ty) (step.all (map L (map (λ s. s.0) body))))) (piece.braced (piece.binding name.name (item_in ty) (piece.all (map S (map (λ s. s.0) body))))) _ _
      (braced-lays _ _ (binding-lays name.name (item_in ty) _ _ (body-lays body))) (λ block. give-lays (act.For own block))))

  arm-case : (y : StmtArm-F St Ar) → ArmClaim (roll-StmtArm (map-StmtArm St Ar Stmt StmtArm (λ s. s.0) (λ a. a.0) y))
  arm-case y = arm-roll (record { cond = y.cond; body = map (λ s. s.0) y.body })
      (value-lays known y.cond _ _
      (λ cond ty. then-lays (step.braced (step.all (map L (map (λ s. s.0) y.body)))) (piece.braced (piece.all (map S (map (λ s. s.0) y.body)))) _ _
      (braced-lays _ _ (body-lays y.body)) (λ block. give-lays (let arm : ActArm = record { cond = cond; then = block } in arm))))

  pub stmt-lays : (s : Stmt) → Claim s
  stmt-lays = ind-Stmt Claim ArmClaim
      (λ x y is. subst (λ (z : Stmt-F Stmt StmtArm). Claim (roll-Stmt z)) is (stmt-case y))
      (λ x y is. subst (λ (z : StmtArm-F Stmt StmtArm). ArmClaim (roll-StmtArm z)) is (arm-case y))

  pub stmts-lay : (stmts : List Stmt) → Lays (laid.lay_stmts known outs stmts) (said.resolve_stmts known outs stmts)
  stmts-lay stmts =
      subst (λ (l : List Stmt). Lays (laid.lay_stmts known outs l) (said.resolve_stmts known outs l)) (map-same stmts)
      (all-lays (λ (s : Stmt). s) L S stmt-lays stmts)

module _ (known : Known) where
  parts-lay : (stmts : List Stmt) (value : Expr) → Lays (laid.func_parts known stmts value) (said.func_parts known stmts value)
  parts-lay stmts value =
      then-lays _ _ _ _ (stmts-lay known [] stmts)
      (λ acts. value-lays known value _ _ (λ own ty. give-lays (let parts : FuncParts = record { acts = acts; value = own } in parts)))

  pub func-lays : (params : List Typed) (stmts : List Stmt) (value : Expr) → Lays (laid.lay_func known params stmts value) (said.resolve_func known params stmts value)
  func-lays params stmts value = record {
    lays = λ scope tables.
        let names : Scope = with_slots [] (typed_fields known params) in
        let own = said.func_parts known stmts value names (record (next_of tables) { block = length tables.blocks + 1 }) in
        let id : BlockId = record { 0 = length tables.blocks } in
        let code : FnCode = record { block = id; value = own.own.value } in
        ap (λ (within : LaidPiece FuncParts). let r : LaidPiece FnCode = record { own = record { block = id; value = within.own.value }; tables = step.put within.tables (length tables.blocks) within.own.acts; scope = scope } in r)
        (in-room (laid.func_parts known stmts value) (said.func_parts known stmts value) (parts-lay stmts value) names tables)
        ∙ same-tables code scope _ _ _ _ _ _ refl (seam tables.blocks own.blocks own.own.acts) refl;
  }

  pub states-lay : (states : List StateDecl) → Lays (laid.lay_states known states) (said.resolve_states known states)
  states-lay [] = give-lays []
  states-lay (state ∷ states) =
      value-lays known state.value _ _
      (λ own ty. then-lays _ _ _ _ (binding-lays state.name.name (by_text known.words state.ty) _ _ (states-lay states)) (λ others. give-lays (own ∷ others)))

  phase-lays : (outs : List Field) (scope : Scope) (phase : Option Phase) → Lays (laid.lay_phase known outs scope phase) (said.resolve_phase known outs scope phase)
  phase-lays outs scope None = give-lays None
  phase-lays outs scope (Some phase) = maybe-lays _ _ (over-lays scope _ _ (braced-lays _ _ (stmts-lay known outs phase.stmts)))

  blocks-lay : (scope : Scope) (body : Body) → Lays (laid.lay_blocks known scope body) (said.resolve_blocks known scope body)
  blocks-lay scope body =
      let moved : Scope = with_slots scope (input_fields (port_fields known false body.ports)) in
      then-lays _ _ _ _ (phase-lays (with_slots [] (port_fields known true body.ports)) scope body.output)
      (λ output. then-lays _ _ _ _ (phase-lays [] scope body.internal)
      (λ internal. then-lays _ _ _ _ (phase-lays [] moved body.external)
      (λ external. then-lays _ _ _ _ (phase-lays [] moved body.confluent)
      (λ confluent. give-lays (let own : Blocks = record { output = output; internal = internal; external = external; confluent = confluent } in own)))))

  pub body-is : (params : List Typed) (at : ℕ) (body : Body) → Lays (laid.lay_body known params at body) (said.resolve_body known params at body)
  body-is params at body =
      let scope : Scope = body_scope known params body in
      then-lays _ _ _ _ (over-lays (with_slots [] (typed_fields known params)) _ _ (states-lay body.states))
      (λ inits. then-lays _ _ _ _ (over-lays scope _ _ (value-lays known body.advance _ _ (λ own ty. give-lays own)))
      (λ advance. then-lays _ _ _ _ (blocks-lay scope body)
      (λ blocks. give-lays (let code : Code = record {
        start_at = at;
        advance_at = body.advance_at;
        external_at = phase_at body.external;
        confluent_at = phase_at body.confluent;
        inits = inits;
        advance = advance;
        output = blocks.output;
        internal = blocks.internal;
        external = blocks.external;
        confluent = blocks.confluent;
      } in code))))
