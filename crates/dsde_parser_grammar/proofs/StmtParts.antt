-- The steps of statements are sound.
use Rattle.std.proofs.Common.{◌≡◌, Bool, true, false, [], ◌∷◌, ◌++◌, map, Option, Some, None, refl, sym, ap, ◌∙◌}
use Rattle.std.proofs.lemmas.List.{append-nil}
use Rattle.std.specs.Prelude.{flat_map}
use Rattle.dsde_syntax.specs.declared.token.Tok.{Tok}
use Rattle.dsde_syntax.specs.declared.token.Tok.TheVariants as tok
use Rattle.dsde_words.specs.declared.key.Key.TheVariants as key
use Rattle.dsde_syntax.specs.declared.token.Sign.TheVariants as sign
use Rattle.dsde_syntax.specs.declared.stmt.Stmt.{Stmt}
use Rattle.dsde_syntax.specs.declared.stmt.StmtArm.{StmtArm}
use Rattle.dsde_syntax.specs.declared.stmt.Stmt.TheOpen.{Stmt-F, StmtArm-F}
use Rattle.dsde_syntax.specs.declared.stmt.Stmt.TheViews.{roll-Stmt, roll-StmtArm}
use Rattle.dsde_syntax.specs.declared.stmt.Stmt.TheFolds.{map-Stmt}
use Rattle.dsde_syntax.specs.Grammar.{Tokens, word, mark, joined, in_braces, if_tokens, expr_tokens, stmt_tokens, stmt_arm_tokens}
use Rattle.dsde_syntax.specs.Grammar.{stmt_step as stmt_tokens_step, block as block_tokens, else_block}
use Rattle.dsde_syntax.specs.Levels.{is_expr, is_stmt, is_stmt_step, is_stmt_arm}
use Rattle.dsde_parser_grammar.specs.Want as want
use Rattle.dsde_parser_grammar.specs.Steps.{repeated, stmt_step, else_step, else_block_step, arm_rest}
use Rattle.dsde_parser_grammar.proofs.Layers.{stmt-tokens, stmt-level, stmt_arm-tokens, stmt_arm-level}
use Rattle.dsde_parser_grammar.proofs.Values.{Good, Several, Spelled, Value, Values, spells, Meets, spelled-same, stmt_others}
use Rattle.dsde_parser_grammar.proofs.Taking.{Takes, Sound, repeated-sound, named, one_more, true-and, three}
use Rattle.dsde_parser_grammar.proofs.ExprParts.{several-join}

-- a statement by its layer
stmt-made : (x : Stmt-F Stmt StmtArm) {u : Tokens} → stmt_tokens_step (map-Stmt Stmt StmtArm Tokens Tokens stmt_tokens stmt_arm_tokens x) ≡ u → is_stmt_step (map-Stmt Stmt StmtArm Bool Bool is_stmt is_stmt_arm x) ≡ true → Meets want.stmt u
stmt-made x e h = record { value = record { value = roll-Stmt x; good = stmt-level x ∙ h }; spells = stmt-tokens x ∙ e }

-- "if" expr block
stmt_arm-of : (cond : Good is_expr) (body : Value want.stmts) → Spelled (λ (v : Good is_stmt_arm). stmt_arm_tokens v.value) (if_tokens cond.value ++ block_tokens (map stmt_tokens body.items))
stmt_arm-of cond body =
    let x : StmtArm-F Stmt StmtArm = record { cond = cond.value; body = body.items } in
    record { value = record { value = roll-StmtArm x; good = stmt_arm-level x ∙ true-and _ _ cond.good body.all }; spells = stmt_arm-tokens x }

stmt-choice : (arm : Good is_stmt_arm) (arms : Several is_stmt_arm (λ holds. holds)) (other : Option (Several is_stmt (λ holds. holds))) → Meets want.stmt (stmt_arm_tokens arm.value ++ stmt_others (record { arms = arms; other = other }))
stmt-choice arm arms None =
    stmt-made (Stmt-F.If (arm.value ∷ arms.items) None)
    (three (stmt_arm_tokens arm.value) (flat_map (λ own. word key.Else ++ own) (map stmt_arm_tokens arms.items)) [])
    (true-and _ _ (true-and _ _ refl (true-and _ _ arm.good arms.all)) refl)
stmt-choice arm arms (Some last) =
    stmt-made (Stmt-F.If (arm.value ∷ arms.items) (Some last.items))
    (three (stmt_arm_tokens arm.value) (flat_map (λ own. word key.Else ++ own) (map stmt_arm_tokens arms.items)) (else_block (map stmt_tokens last.items)))
    (true-and _ _ (true-and _ _ refl (true-and _ _ arm.good arms.all)) last.all)

-- an arm and what follows, as they are wanted behind the "if"
pub arm-behind : (cond body others : Tokens) → ((word key.If ++ cond) ++ in_braces body) ++ others ≡ tok.Key key.If ∷ (cond ++ (mark sign.OpenBrace ++ (body ++ (mark sign.CloseBrace ++ (others ++ [])))))
arm-behind cond body others =
    ap (λ (t : Tokens). tok.Key key.If ∷ t)
    (three cond (in_braces body) others
    ∙ ap (λ (t : Tokens). cond ++ (mark sign.OpenBrace ++ t)) (three body (mark sign.CloseBrace) others
    ∙ ap (λ (t : Tokens). body ++ (mark sign.CloseBrace ++ t)) (sym (append-nil others))))

stmt-if : (vs : Values (arm_rest want.stmts want.other_stmts)) → Meets want.stmt (tok.Key key.If ∷ spells (arm_rest want.stmts want.other_stmts) vs)
stmt-if (cond, (open_brace, (body, (close_brace, (others, end))))) =
    let arm = stmt_arm-of cond body in
    spelled-same
    (ap (λ (t : Tokens). t ++ stmt_others others) arm.spells ∙ arm-behind (expr_tokens cond.value) (joined (map stmt_tokens body.items)) (stmt_others others))
    (stmt-choice arm.value others.arms others.other)

-- a statement, by its first token
pub stmt-takes : (t : Tok) → Takes (λ u. Meets want.stmt (t ∷ u)) (stmt_step t)
stmt-takes (tok.Ident name) = λ (equal, (value, (semicolon, end))). stmt-made (Stmt-F.Set (named name) value.value) refl value.good
stmt-takes (tok.Key key.Let) = λ (name, (equal, (value, (semicolon, end)))). stmt-made (Stmt-F.Let false name value.value) refl value.good
stmt-takes (tok.Key key.Var) = λ (name, (equal, (value, (semicolon, end)))). stmt-made (Stmt-F.Let true name value.value) refl value.good
stmt-takes (tok.Key key.Send) = λ (name, (open_paren, (value, (close_paren, (semicolon, end))))).
    stmt-made (Stmt-F.Send name value.value)
    (ap (λ (t : Tokens). tok.Key key.Send ∷ tok.Ident name.name ∷ tok.Sign sign.OpenParen ∷ t) (three (expr_tokens value.value) (mark sign.CloseParen) (mark sign.Semicolon)))
    value.good
stmt-takes (tok.Key key.If) = stmt-if
stmt-takes (tok.Key key.For) = λ (name, (word_in, (list, (open_brace, (body, (close_brace, end)))))). stmt-made (Stmt-F.For name list.value body.items) refl (true-and _ _ list.good body.all)
stmt-takes _ = tt

-- {stmt}
pub stmts-sound : (t : Tok) → Sound (λ u. Meets want.stmts (t ∷ u)) (Meets want.stmts []) (repeated want.stmts (stmt_step t))
stmts-sound t =
    repeated-sound (Meets want.stmt) want.stmts t (stmt_step t) (stmt-takes t)
    (several-join is_stmt (λ holds. holds) stmt_tokens (λ items. joined (map stmt_tokens items)) (λ x xs. refl))
    (record { value = record { items = []; all = refl }; spells = refl })

-- {"else" arm} ["else" block]
pub other_stmts-takes : (t : Tok) → Takes (λ u. Meets want.other_stmts (t ∷ u)) (else_step want.else_stmts t)
other_stmts-takes (tok.Key key.Else) = λ (own, end). spelled-same (ap (λ (t : Tokens). tok.Key key.Else ∷ t) (sym (append-nil own.tokens))) own.whole
other_stmts-takes _ = tt

pub other_stmts-none : Meets want.other_stmts []
other_stmts-none = record { value = record { arms = record { items = []; all = refl }; other = None }; spells = refl }

else_stmts-if : (vs : Values (arm_rest want.stmts want.other_stmts)) → Meets want.else_stmts (tok.Key key.If ∷ spells (arm_rest want.stmts want.other_stmts) vs)
else_stmts-if (cond, (open_brace, (body, (close_brace, (others, end))))) =
    let arm = stmt_arm-of cond body in
    let arms : Several is_stmt_arm (λ holds. holds) = one_more arm.value.value arm.value.good others.arms in
    let all : Value want.other_stmts = record { arms = arms; other = others.other } in
    let whole : Spelled stmt_others (tok.Key key.Else ∷ tok.Key key.If ∷ spells (arm_rest want.stmts want.other_stmts) (cond, (open_brace, (body, (close_brace, (others, end)))))) = record {
      value = all;
      spells = ap (λ (t : Tokens). tok.Key key.Else ∷ t)
          (three (stmt_arm_tokens arm.value.value) (flat_map (λ own. word key.Else ++ own) (map stmt_arm_tokens others.arms.items)) _
          ∙ ap (λ (t : Tokens). t ++ stmt_others others) arm.spells
          ∙ arm-behind (expr_tokens cond.value) (joined (map stmt_tokens body.items)) (stmt_others others));
    } in
    record { value = record { tokens = _; whole = whole }; spells = refl }

else_stmts-last : (own : Value want.stmts) → Meets want.else_stmts (block_tokens (map stmt_tokens own.items))
else_stmts-last own =
    let whole : Spelled stmt_others (else_block (map stmt_tokens own.items)) = record { value = record { arms = record { items = []; all = refl }; other = Some own }; spells = refl } in
    record { value = record { tokens = block_tokens (map stmt_tokens own.items); whole = whole }; spells = refl }

-- what stands behind "else"
pub else_stmts-takes : (t : Tok) → Takes (λ u. Meets want.else_stmts (t ∷ u)) (else_block_step want.stmts want.other_stmts t)
else_stmts-takes (tok.Key key.If) = else_stmts-if
else_stmts-takes (tok.Sign sign.OpenBrace) = λ (own, (close_brace, end)). else_stmts-last own
else_stmts-takes _ = tt
