-- The levels and the spans of the parts of declarations.
use Rattle.std.specs.Prelude.{◌≡◌, ℕ, true, List, ◌++◌, map, Option}
use Rattle.std.specs.List.{list_all}
use Rattle.dsde_syntax.specs.declared.expr.Expr.{Expr}
use Rattle.dsde_syntax.specs.declared.stmt.Stmt.{Stmt}
use Rattle.dsde_syntax.specs.declared.item.Item.{Item}
use Rattle.dsde_syntax.specs.declared.decl.PortDecl.{PortDecl}
use Rattle.dsde_syntax.specs.declared.decl.Body.{Body}
use Rattle.dsde_syntax.specs.declared.decl.Phase.{Phase}
use Rattle.dsde_syntax.specs.Levels.{is_expr, is_stmt, is_item, is_phase, is_body}
use Rattle.dsde_words.specs.declared.key.Key.TheVariants as key
use Rattle.dsde_syntax.specs.declared.token.Sign.TheVariants as sign
use Rattle.dsde_syntax.specs.Grammar.{Tokens, word, joined, in_braces, block, mark, expr_tokens, item_tokens, port_tokens, phase_tokens, exec_tokens}
use Rattle.dsde_syntax.specs.Places.{◌>>◌, token, token_at, bracketed, block_span, all_spans, expr_span, item_span, port_span, phase_span, exec_span, Span}

abbrev pub ResultOk : List Stmt × Expr → Type 0
ResultOk own = (list_all is_stmt own.0 ≡ true) × (is_expr own.1 ≡ true)

abbrev pub exec_spelled : ℕ × Body × List Item → Tokens
exec_spelled own = exec_tokens own.1 own.2

abbrev pub exec_placed : ℕ × Body × List Item → Span
exec_placed own = exec_span own.0 own.1 own.2

abbrev pub ExecOk : ℕ × Body × List Item → Type 0
ExecOk own = (is_body own.1 ≡ true) × (list_all is_item own.2 ≡ true)

abbrev pub network_spelled : List PortDecl × (ℕ × Body × List Item) → Tokens
network_spelled own = in_braces (joined (map port_tokens own.0) ++ exec_spelled own.1)

abbrev pub network_placed : List PortDecl × (ℕ × Body × List Item) → Span
network_placed own = bracketed (all_spans (map port_span own.0) >> exec_placed own.1)

abbrev pub NetworkOk : List PortDecl × (ℕ × Body × List Item) → Type 0
NetworkOk own = ExecOk own.1

abbrev pub phases_spelled : Option Phase × Option Phase × Option Phase × Option Phase → Tokens
phases_spelled own = phase_tokens key.Output own.0 ++ phase_tokens key.Internal own.1 ++ phase_tokens key.External own.2 ++ phase_tokens key.Confluent own.3

abbrev pub phases_placed : Option Phase × Option Phase × Option Phase × Option Phase → Span
phases_placed own = phase_span own.0 >> phase_span own.1 >> phase_span own.2 >> phase_span own.3

pub record PhasesOk (own : Option Phase × Option Phase × Option Phase × Option Phase) : Type 0 where
  pub output : is_phase own.0 ≡ true
  pub internal : is_phase own.1 ≡ true
  pub external : is_phase own.2 ≡ true
  pub confluent : is_phase own.3 ≡ true

-- "structure" items "}"
abbrev pub structure_tokens : List Item → Tokens
structure_tokens items = word key.Structure ++ block (map item_tokens items) ++ mark sign.CloseBrace

abbrev pub structure_span : List Item → Span
structure_span items = token >> block_span (map item_span items) >> token

-- "advance" expr ";"
abbrev pub advance_tokens : Expr → Tokens
advance_tokens advance = word key.Advance ++ expr_tokens advance ++ mark sign.Semicolon

abbrev pub advance_span : ℕ → Expr → Span
advance_span at advance = token_at at >> expr_span advance >> token
