-- The levels and the spans of the parts of statements and items.
use Rattle.std.specs.Prelude.{◌≡◌, Bool, true, List, ◌++◌, map, Option}
use Rattle.std.specs.Option.{option_map}
use Rattle.std.specs.List.{list_all}
use Rattle.dsde_syntax.specs.declared.expr.Expr.{Expr}
use Rattle.dsde_syntax.specs.declared.stmt.Stmt.{Stmt}
use Rattle.dsde_syntax.specs.declared.item.Item.{Item}
use Rattle.dsde_syntax.specs.declared.item.EndPart.{EndPart}
use Rattle.dsde_syntax.specs.declared.item.EndPart.TheVariants as end_part
use Rattle.dsde_syntax.specs.declared.item.ViaKey.{ViaKey}
use Rattle.dsde_syntax.specs.Levels.{if_written, is_expr, is_stmt, is_item, is_index, is_end}
use Rattle.dsde_syntax.specs.declared.token.Sign.TheVariants as sign
use Rattle.dsde_syntax.specs.declared.id.Id.{Id}
use Rattle.dsde_syntax.specs.declared.item.End.{End}
use Rattle.dsde_syntax.specs.declared.item.ViaPart.{ViaPart}
use Rattle.dsde_syntax.specs.Grammar.{Tokens, optional, in_parens, mark, id_tokens, args_tokens, entry_mark, end_tokens, via_tokens, via_key_tokens, else_block, expr_tokens, stmt_tokens, item_tokens}
use Rattle.dsde_syntax.specs.Places.{◌>>◌, token, bracketed, id_span, args_span, end_span, via_span, via_key_span, written_span, else_span, expr_span, stmt_span, item_span, Span}

-- "if" expr
abbrev pub if_span : Expr → Span
if_span cond = token >> expr_span cond

-- ["else" block], of statements and of items
abbrev pub last_stmts_tokens : Option (List Stmt) → Tokens
last_stmts_tokens other = optional else_block (option_map (map stmt_tokens) other)

abbrev pub last_stmts_span : Option (List Stmt) → Span
last_stmts_span other = written_span else_span (option_map (map stmt_span) other)

abbrev pub last_stmts_ok : Option (List Stmt) → Type 0
last_stmts_ok other = if_written (list_all is_stmt) other ≡ true

abbrev pub last_items_tokens : Option (List Item) → Tokens
last_items_tokens other = optional else_block (option_map (map item_tokens) other)

abbrev pub last_items_span : Option (List Item) → Span
last_items_span other = written_span else_span (option_map (map item_span) other)

abbrev pub last_items_ok : Option (List Item) → Type 0
last_items_ok other = if_written (list_all is_item) other ≡ true

abbrev pub is_end_part : EndPart → Bool
is_end_part end_part.Net = true
is_end_part end_part.Exec = true
is_end_part (end_part.Kid name index) = is_index index

abbrev pub is_via_key : Option ViaKey → Bool
is_via_key = if_written (λ (own : ViaKey). is_expr own.value)

-- ("is" | ":") id args ";"
abbrev pub made_tokens : Bool × Id × List Expr → Tokens
made_tokens own = entry_mark own.0 ++ id_tokens own.1 ++ args_tokens own.2 ++ mark sign.Semicolon

abbrev pub made_span : Bool × Id × List Expr → Span
made_span own = token >> id_span own.1 >> args_span (map expr_span own.2) >> token

-- "(" id ["," id "=" expr] ")"
abbrev pub via_names_tokens : Id × Option ViaKey → Tokens
via_names_tokens own = in_parens (id_tokens own.0 ++ optional via_key_tokens own.1)

abbrev pub via_names_span : Id × Option ViaKey → Span
via_names_span own = bracketed (id_span own.0 >> written_span via_key_span own.1)

-- "=>" expr
abbrev pub via_body_tokens : Expr → Tokens
via_body_tokens body = mark sign.FatArrow ++ expr_tokens body

abbrev pub via_body_span : Expr → Span
via_body_span body = token >> expr_span body

-- "->" end
abbrev pub target_tokens : End → Tokens
target_tokens end = mark sign.Arrow ++ end_tokens end

abbrev pub target_span : End → Span
target_span end = token >> end_span end

-- end "->" end
abbrev pub ends_tokens : End × End → Tokens
ends_tokens own = end_tokens own.0 ++ target_tokens own.1

abbrev pub ends_span : End × End → Span
ends_span own = end_span own.0 >> target_span own.1

abbrev pub EndsOk : End × End → Type 0
EndsOk own = (is_end own.0 ≡ true) × (is_end own.1 ≡ true)

-- ["via" ..] ";"
abbrev pub last_via_tokens : Option ViaPart → Tokens
last_via_tokens via = optional via_tokens via ++ mark sign.Semicolon

abbrev pub last_via_span : Option ViaPart → Span
last_via_span via = written_span via_span via >> token
