-- Declarations and their parts that were read.
use Rattle.std.proofs.Common.{◌≡◌, ℕ, Bool, true, ◌&&◌, List, ◌++◌, map, Option, refl}
use Rattle.dsde_syntax.specs.declared.expr.Expr.{Expr}
use Rattle.dsde_syntax.specs.declared.item.Item.{Item}
use Rattle.dsde_syntax.specs.declared.decl.PortDecl.{PortDecl}
use Rattle.dsde_syntax.specs.declared.decl.StateDecl.{StateDecl}
use Rattle.dsde_syntax.specs.declared.decl.Body.{Body}
use Rattle.dsde_syntax.specs.declared.decl.Phase.{Phase}
use Rattle.dsde_syntax.specs.declared.token.Tok.TheVariants as tok
use Rattle.dsde_words.specs.declared.key.Key.TheVariants as key
use Rattle.dsde_syntax.specs.declared.token.Sign.TheVariants as sign
use Rattle.dsde_syntax.specs.Grammar.{word, mark, block, expr_tokens, port_tokens, state_tokens, body_tokens, item_tokens}
use Rattle.dsde_syntax.specs.Places.{◌>>◌, token, token_at, block_span, expr_span, port_span, state_span, body_span, item_span}
use Rattle.dsde_syntax.specs.Levels.{is_expr, is_item, is_state, is_phase, is_body}
use Rattle.dsde_parser_expressions.specs.Took.{Spot, Took, TookAll, TookOne}
use Rattle.dsde_parser_expressions.specs.Parts.{AllOk, IsOk, joined_by, all_by, any_ok}
use Rattle.dsde_parser_expressions.proofs.PartLemmas.{one, one-at, own, all, ◌⨟◌, regroup, behind-three, read}
use Rattle.dsde_parser_declarations.specs.Parts.{ExecOk, exec_spelled, exec_placed, structure_tokens, structure_span, advance_tokens, advance_span, phases_spelled, phases_placed, PhasesOk}

pub true-and : (a b : Bool) → a ≡ true → b ≡ true → (a && b) ≡ true
true-and a b h1 h2 = rw (h1, h2) refl

pub exec-Took : {before a b c after : Spot} (at : ℕ) (body : Body) (items : List Item) → TookOne (tok.Key key.Exec) before a → at ≡ before.0 → TookOne (tok.Sign sign.OpenBrace) a b → Took body_tokens body_span (IsOk is_body) b c body → Took structure_tokens structure_span (AllOk is_item) c after items → Took exec_spelled exec_placed ExecOk before after (at, body, items)
exec-Took at body items begun place bracket own_body own_items =
    let list = block (map item_tokens items) in
    let places = block_span (map item_span items) in
    let whole = behind-three (word key.Structure) list (mark sign.CloseBrace) token places token (own own_body) (own own_items) in
    let inner = (body_tokens body ++ word key.Structure) ++ list in
    let inside = (body_span body >> token) >> places in
    read (one-at begun place ⨟ regroup (mark sign.OpenBrace) inner (mark sign.CloseBrace) token inside token (one bracket ⨟ whole)) refl refl (own_body.good, own_items.good)

pub body-Took : {before a b c after : Spot} (ports : List PortDecl) (states : List StateDecl) (at : ℕ) (advance : Expr) (output internal external confluent : Option Phase) → TookAll (joined_by port_tokens) (all_by port_span) (AllOk any_ok) before a ports → TookAll (joined_by state_tokens) (all_by state_span) (AllOk is_state) a b states → Took (λ (own : ℕ × Expr). advance_tokens own.1) (λ (own : ℕ × Expr). advance_span own.0 own.1) (λ (own : ℕ × Expr). is_expr own.1 ≡ true) b c (at, advance) → TookAll phases_spelled phases_placed PhasesOk c after (output, internal, external, confluent) → Took body_tokens body_span (IsOk is_body) before after (record { ports = ports; states = states; advance_at = at; advance = advance; output = output; internal = internal; external = external; confluent = confluent })
body-Took ports states at advance output internal external confluent has_ports has_states has_advance has_phases =
    let whole = behind-three (word key.Advance) (expr_tokens advance) (mark sign.Semicolon) (token_at at) (expr_span advance) token (all has_ports ⨟ all has_states) (own has_advance) in
    let good = has_phases.good in
    read (whole ⨟ all has_phases) refl refl
    (true-and _ (is_phase confluent) (true-and _ (is_phase external) (true-and _ (is_phase internal) (true-and _ (is_phase output) (true-and _ (is_expr advance) has_states.good has_advance.good) good.output) good.internal) good.external) good.confluent)
