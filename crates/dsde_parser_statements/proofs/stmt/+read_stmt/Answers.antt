use Rattle.dsde_syntax.specs.declared.token.Sign.TheVariants as sign
use Rattle.dsde_parser_expressions.proofs.TookLemmas.{Took-push, Took-else}
use Rattle.dsde_parser_statements.proofs.StmtLemmas.{stmt_loop-Took, stmt_arm-Took, stmt_choice-Took}
use Rattle.std.proofs.Common.{rules, refl, sym, [], ◌∷◌}
use Rattle.dsde_words.specs.declared.key.Key.TheVariants as key
use Rattle.dsde_parser_grammar.specs.Want as want
use Rattle.dsde_parser_grammar.specs.Steps.{block, arm_rest, set, loop_rest}
use Rattle.dsde_parser_expressions.proofs.NodeLemmas.{taken}
use Rattle.dsde_parser_expressions.proofs.PartLemmas.{one, own, all, ◌⨟◌, wide, read, read-all}
use Rattle.dsde_parser_expressions.proofs.LedLemmas.{leads-from, leads-behind, taken-step}
use Rattle.dsde_parser_expressions.proofs.StepLemmas.{stmts-more, stmt-assign, stmt-send, stmt-choice, stmt-loop, stmt-var, stmt-let, stmts-else, else_stmts-last, no-if}
use Rattle.dsde_parser_statements.proofs.stmt.+read_stmt.Goals as goal

pub stmts-stmts-preserved : goal.stmts-stmts-preserved
stmts-stmts-preserved t c =
    record {
      took = rw c.in_ok-push.ensures.ok (Took-push _ c.stmts.invariant.took c.in_ok-stmt.ensures.took);
      same = search rules;
    }

pub stmt_arms-arms-preserved : goal.stmt_arms-arms-preserved
stmt_arms-arms-preserved t c =
    record {
      took = rw c.in_ok-push-2.ensures.ok (Took-else _ c.arms.invariant.took c.in_ok-key.ensures.took c.in_ok-stmt_arm-2.ensures.took);
      same = search rules;
    }

pub stmt_choice-returns-clause-took : goal.stmt_choice-returns-clause-took
stmt_choice-returns-clause-took t c = stmt_choice-Took _ _ c.in_ok-arms.ensures.took c.in_ok-other.ensures.took

pub stmt_loop-returns-clause-took : goal.stmt_loop-returns-clause-took
stmt_loop-returns-clause-took t c = rw c.into_inner-list.ensures (stmt_loop-Took _ _ _ c.in_ok-name.ensures.took c.in_ok-body.ensures.took)

pub stmt_arm-returns-clause-took : goal.stmt_arm-returns-clause-took
stmt_arm-returns-clause-took t c = rw c.into_inner-cond.ensures (stmt_arm-Took _ _ c.in_ok-cond.ensures.took c.in_ok-body.ensures.took)

pub stmts-returns-in_err-stmt-clause-same : goal.stmts-returns-in_err-stmt-clause-same
stmts-returns-in_err-stmt-clause-same t c =
    leads-behind (want.stmts ∷ []) (want.stmts ∷ []) [] c.args.parser.now c.stmts.parser c.stmt.new.parser _ c.stmts.invariant.same (leads-from (want.stmts ∷ []) (want.stmt ∷ want.stmts ∷ []) [] c.stmts.parser c.stmt.new.parser _ (λ s. stmts-more s c.stmts.parser.0 c.stmts.parser.1 (sym c.stmts-test.ensures)) (search rules))

pub stmt-returns-then-next_is_name-clause-same : goal.stmt-returns-then-next_is_name-clause-same
stmt-returns-then-next_is_name-clause-same t c =
    leads-from (want.stmt ∷ []) set [] c.args.parser.now c.assign.new.parser _ (λ s. stmt-assign s c.args.parser.now.0 c.args.parser.now.1 (sym c.if-next_is_name.ensures)) c.assign.ensures.same

pub stmt-returns-then-next_is_key-clause-same : goal.stmt-returns-then-next_is_key-clause-same
stmt-returns-then-next_is_key-clause-same t c =
    leads-from (want.stmt ∷ []) (want.word key.Send ∷ want.name ∷ want.mark sign.OpenParen ∷ want.expr ∷ want.mark sign.CloseParen ∷ want.mark sign.Semicolon ∷ []) [] c.args.parser.now c.send.new.parser _ (λ s. stmt-send s c.args.parser.now.0 c.args.parser.now.1 (sym c.if-next_is_key.ensures)) c.send.ensures.same

pub stmt-returns-then-next_is_key-2-clause-same : goal.stmt-returns-then-next_is_key-2-clause-same
stmt-returns-then-next_is_key-2-clause-same t c =
    leads-from (want.stmt ∷ []) (want.word key.If ∷ arm_rest want.stmts want.other_stmts) [] c.args.parser.now c.stmt_choice.new.parser _ (λ s. stmt-choice s c.args.parser.now.0 c.args.parser.now.1 (sym c.if-next_is_key-2.ensures)) c.stmt_choice.ensures.same

pub stmt-returns-then-next_is_key-3-clause-same : goal.stmt-returns-then-next_is_key-3-clause-same
stmt-returns-then-next_is_key-3-clause-same t c =
    leads-from (want.stmt ∷ []) (want.word key.For ∷ loop_rest want.stmts) [] c.args.parser.now c.stmt_loop.new.parser _ (λ s. stmt-loop s c.args.parser.now.0 c.args.parser.now.1 (sym c.if-next_is_key-3.ensures)) c.stmt_loop.ensures.same

pub stmt-returns-then-next_is_key-4-clause-same : goal.stmt-returns-then-next_is_key-4-clause-same
stmt-returns-then-next_is_key-4-clause-same t c =
    leads-from (want.stmt ∷ []) (want.word key.Var ∷ set) [] c.args.parser.now c.var_stmt.new.parser _ (λ s. stmt-var s c.args.parser.now.0 c.args.parser.now.1 (sym c.if-next_is_key-4.ensures)) c.var_stmt.ensures.same

pub stmt-returns-clause-same : goal.stmt-returns-clause-same
stmt-returns-clause-same t c =
    leads-from (want.stmt ∷ []) (want.word key.Let ∷ set) [] c.args.parser.now c.let_stmt.new.parser _ (λ s. stmt-let s c.args.parser.now.0 c.args.parser.now.1 (sym c.if-next_is_name.ensures) (sym c.if-next_is_key.ensures) (sym c.if-next_is_key-2.ensures) (sym c.if-next_is_key-3.ensures) (sym c.if-next_is_key-4.ensures)) c.let_stmt.ensures.same

pub stmt_arms-returns-in_err-key-clause-same : goal.stmt_arms-returns-in_err-key-clause-same
stmt_arms-returns-in_err-key-clause-same t c =
    leads-behind (want.word key.If ∷ arm_rest want.stmts want.other_stmts) (want.other_stmts ∷ []) (want.other_stmts ∷ []) c.args.parser.now c.arms.parser c.key.new.self _ c.arms.invariant.same (leads-from (want.other_stmts ∷ []) (want.word key.Else ∷ want.word key.If ∷ arm_rest want.stmts want.other_stmts) (want.other_stmts ∷ []) c.arms.parser c.key.new.self _ (λ s. stmts-else s c.arms.parser.0 c.arms.parser.1 (sym c.arms-test.ensures)) (search rules))

pub stmt_arms-returns-in_err-stmt_arm-2-clause-same : goal.stmt_arms-returns-in_err-stmt_arm-2-clause-same
stmt_arms-returns-in_err-stmt_arm-2-clause-same t c =
    leads-behind (want.word key.If ∷ arm_rest want.stmts want.other_stmts) (want.other_stmts ∷ []) (want.other_stmts ∷ []) c.args.parser.now c.arms.parser c.stmt_arm-in-arms.new.parser _ c.arms.invariant.same (leads-from (want.other_stmts ∷ []) (want.word key.Else ∷ want.word key.If ∷ arm_rest want.stmts want.other_stmts) (want.other_stmts ∷ []) c.arms.parser c.stmt_arm-in-arms.new.parser _ (λ s. stmts-else s c.arms.parser.0 c.arms.parser.1 (sym c.arms-test.ensures)) (search rules))

pub last_stmts-returns-in_err-block-clause-same : goal.last_stmts-returns-in_err-block-clause-same
last_stmts-returns-in_err-block-clause-same t c =
    λ h.
    let one = taken _ _ _ _ c.takes_key.ensures.took c.if-not-takes_key.false in
    leads-behind (want.other_stmts ∷ []) (want.else_stmts ∷ []) [] c.args.parser.now c.takes_key.new.self c.block.new.parser _ (λ s. taken-step (want.other_stmts ∷ s) (want.else_stmts ∷ s) one refl) (leads-from (want.else_stmts ∷ []) (block want.stmts) [] c.takes_key.new.self c.block.new.parser _ (λ s. else_stmts-last s c.takes_key.new.self.0 c.takes_key.new.self.1 (no-if one h)) (search rules))

pub block-returns-clause-took : goal.block-returns-clause-took
block-returns-clause-took t c = read (one c.in_ok-sign.ensures.took ⨟ all c.in_ok-stmts.ensures.took ⨟ one c.in_ok-sign-2.ensures.took) refl refl c.in_ok-stmts.ensures.took.good

pub last_stmts-returns-clause-took : goal.last_stmts-returns-clause-took
last_stmts-returns-clause-took t c =
    read-all (wide (one (taken _ _ _ _ c.takes_key.ensures.took c.if-not-takes_key.false) ⨟ own c.in_ok-block.ensures.took)) refl refl c.in_ok-block.ensures.took.good
