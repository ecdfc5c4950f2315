-- What meets a want: values, and how they are spelled.
use Rattle.std.proofs.Common.{◌≡◌, ℕ, Bool, true, List, [], ◌∷◌, ◌++◌, map, Option, ◌∙◌}
use Rattle.std.specs.Prelude.{flat_map, if◌then◌else◌}
use Rattle.std.specs.List.{list_all}
use Rattle.dsde_syntax.specs.declared.token.Tok.TheVariants as tok
use Rattle.dsde_words.specs.declared.key.Key.TheVariants as key
use Rattle.dsde_syntax.specs.declared.token.Sign.{Sign}
use Rattle.dsde_syntax.specs.declared.token.Sign.TheVariants as sign
use Rattle.dsde_syntax.specs.declared.id.Id.{Id}
use Rattle.dsde_syntax.specs.declared.type_name.TypeName.{TypeName}
use Rattle.dsde_syntax.specs.declared.item.ViaKey.{ViaKey}
use Rattle.dsde_syntax.specs.declared.decl.Typed.{Typed}
use Rattle.dsde_syntax.specs.declared.decl.PortDecl.{PortDecl}
use Rattle.dsde_syntax.specs.Grammar.{Tokens, word, mark, id_tokens, joined, commas, optional, in_braces, else_block, type_tokens, expr_tokens, suffix_tokens, expr_arm_tokens, field_set_tokens, sign_tail_tokens, tail_tokens, stmt_tokens, stmt_arm_tokens, item_tokens, item_arm_tokens, bracket_tokens, entry_mark, end_tokens, via_key_tokens, via_tokens, typed_tokens, port_tokens, state_tokens, phase_tokens, decl_tokens}
use Rattle.dsde_syntax.specs.Levels.{prim_level, neg_level, mul_level, sum_level, and_level, or_level, not_level, stands_at, may_follow, is_comparison, is_sum_sign, is_mul_sign, level_of, is_expr, is_stmt, is_item, is_index, is_end, is_via, is_state, is_phase, is_decl, is_expr_arm, is_field_set, is_item_arm, is_stmt_arm, is_suffix, sign_tail_level, tail_level}
use Rattle.dsde_parser_grammar.specs.Want.{Want}
use Rattle.dsde_parser_grammar.specs.Want as want
use Rattle.dsde_parser_grammar.specs.Steps.{Wants}

-- a value that passes a test
pub record Good {A : Type 0} (ok : A → Bool) : Type 0 where
  pub value : A
  pub good : ok value ≡ true

-- values of which what the second is given passes a test
pub record Several {A B : Type 0} (own : A → B) (ok : B → Bool) : Type 0 where
  pub items : List A
  pub all : list_all ok (map own items) ≡ true

-- an expression that may stand at a level
abbrev pub ExprAt : ℕ → Type 0
ExprAt level = Good (λ e. stands_at level (level_of e))

-- a value that is spelled by these tokens
pub record Spelled {A : Type 0} (spell : A → Tokens) (tokens : Tokens) : Type 0 where
  pub value : A
  pub spells : spell value ≡ tokens

-- an expression that may stand at a level and is spelled by these tokens
abbrev pub ExprOf : ℕ → Tokens → Type 0
ExprOf level tokens = Spelled (λ (e : ExprAt level). expr_tokens e.value) tokens

-- tokens that a primary expression has behind some others
pub record Behind {A : Type 0} (before : A → Tokens) : Type 0 where
  pub tokens : Tokens
  pub whole : (own : A) → ExprOf prim_level (before own ++ tokens)

-- a comparison behind its left part
pub record Compared : Type 0 where
  pub which : Sign
  pub is : is_comparison which ≡ true
  pub value : ExprAt sum_level

-- arms, and the other part
pub record Choice : Type 0 where
  pub arms : Several is_expr_arm (λ holds. holds)
  pub other : Good is_expr

-- arms, and the last block
pub record Others {A B : Type 0} (own : A → Bool) (own_arm : B → Bool) : Type 0 where
  pub arms : Several own_arm (λ holds. holds)
  pub other : Option (Several own (λ holds. holds))

-- {"else" arm} ["else" "{" {part} "}"]
abbrev pub others_tokens : {A B : Type 0} {own : A → Bool} {own_arm : B → Bool} → (A → Tokens) → (B → Tokens) → Others own own_arm → Tokens
others_tokens {A} {B} {own} {own_arm} spell spell_arm others =
    flat_map (λ own. word key.Else ++ own) (map spell_arm others.arms.items)
    ++ optional (λ (other : Several own (λ holds. holds)). else_block (map spell other.items)) others.other

-- what stands behind "else", by what stands from "else" on
pub record BehindElse {A : Type 0} (spell : A → Tokens) : Type 0 where
  pub tokens : Tokens
  pub whole : Spelled spell (tok.Key key.Else ∷ tokens)

abbrev pub stmt_others : Others is_stmt is_stmt_arm → Tokens
stmt_others = others_tokens stmt_tokens stmt_arm_tokens

abbrev pub item_others : Others is_item is_item_arm → Tokens
item_others = others_tokens item_tokens item_arm_tokens

-- {"," part}
abbrev pub commas_rest : List Tokens → Tokens
commas_rest = flat_map (λ part. mark sign.Comma ++ part)

-- {arm "else"} "{" expr "}"
abbrev pub choice_tokens : Choice → Tokens
choice_tokens own = flat_map (λ arm. arm ++ word key.Else) (map expr_arm_tokens own.arms.items) ++ in_braces (expr_tokens own.other.value)

-- what meets a want
abbrev pub Value : Want → Type 0
Value (want.word which) = Unit {0}
Value (want.mark which) = Unit {0}
Value want.name = Id
Value want.ty = TypeName
Value want.expr = Good is_expr
Value want.negation = Bool
Value want.minus = Bool
Value want.prim = ExprAt prim_level
Value want.suffix = Good is_suffix
Value want.suffixes = Several is_suffix (λ holds. holds)
Value want.factors = Several sign_tail_level (may_follow is_mul_sign neg_level)
Value want.terms = Several sign_tail_level (may_follow is_sum_sign mul_level)
Value want.comparison = Option Compared
Value want.conjuncts = Several tail_level (stands_at not_level)
Value want.disjuncts = Several tail_level (stands_at and_level)
Value want.fallback = Option (ExprAt or_level)
Value want.after_name = Behind id_tokens
Value want.args_rest = Several level_of (stands_at 9)
Value want.more_exprs = Several level_of (stands_at 9)
Value want.more_fields = Several is_field_set (λ holds. holds)
Value want.row_rest = Behind (λ (own : Unit {0}). mark sign.OpenBracket)
Value want.test = Option (Good is_expr)
Value want.else_rest = Choice
Value want.stmt = Good is_stmt
Value want.stmts = Several is_stmt (λ holds. holds)
Value want.other_stmts = Others is_stmt is_stmt_arm
Value want.else_stmts = BehindElse stmt_others
Value want.item = Good is_item
Value want.items = Several is_item (λ holds. holds)
Value want.other_items = Others is_item is_item_arm
Value want.else_items = BehindElse item_others
Value want.index = Good is_index
Value want.entry_mark = Bool
Value want.end = Good is_end
Value want.via = Option (Good is_via)
Value want.via_key = Option (Good (λ (own : ViaKey). is_expr own.value))
Value want.decl = Good is_decl
Value want.decls = Several is_decl (λ holds. holds)
Value want.more_names = List Id
Value want.more_typed = List Typed
Value want.params_rest = List Typed
Value want.port = PortDecl
Value want.ports = List PortDecl
Value want.state = Good is_state
Value want.states = Several is_state (λ holds. holds)
Value (want.phase which) = Good is_phase

-- the tokens of what meets a want
abbrev pub spelled : (a : Want) → Value a → Tokens
spelled (want.word which) v = word which
spelled (want.mark which) v = mark which
spelled want.name v = id_tokens v
spelled want.ty v = type_tokens v
spelled want.expr v = expr_tokens v.value
spelled want.negation v = if v then word key.Not else []
spelled want.minus v = if v then mark sign.Minus else []
spelled want.prim v = expr_tokens v.value
spelled want.suffix v = suffix_tokens v.value
spelled want.suffixes v = joined (map suffix_tokens v.items)
spelled want.factors v = joined (map sign_tail_tokens v.items)
spelled want.terms v = joined (map sign_tail_tokens v.items)
spelled want.comparison v = optional (λ (own : Compared). mark own.which ++ expr_tokens own.value.value) v
spelled want.conjuncts v = flat_map (λ own. word key.And ++ own) (map tail_tokens v.items)
spelled want.disjuncts v = flat_map (λ own. word key.Or ++ own) (map tail_tokens v.items)
spelled want.fallback v = optional (λ (own : ExprAt or_level). mark sign.QuestionQuestion ++ expr_tokens own.value) v
spelled want.after_name v = v.tokens
spelled want.args_rest v = commas (map expr_tokens v.items) ++ mark sign.CloseParen
spelled want.more_exprs v = commas_rest (map expr_tokens v.items)
spelled want.more_fields v = commas_rest (map field_set_tokens v.items)
spelled want.row_rest v = v.tokens
spelled want.test v = optional (λ (own : Good is_expr). word key.If ++ expr_tokens own.value) v
spelled want.else_rest v = choice_tokens v
spelled want.stmt v = stmt_tokens v.value
spelled want.stmts v = joined (map stmt_tokens v.items)
spelled want.other_stmts v = stmt_others v
spelled want.else_stmts v = v.tokens
spelled want.item v = item_tokens v.value
spelled want.items v = joined (map item_tokens v.items)
spelled want.other_items v = item_others v
spelled want.else_items v = v.tokens
spelled want.index v = optional bracket_tokens v.value
spelled want.entry_mark v = entry_mark v
spelled want.end v = end_tokens v.value
spelled want.via v = optional (λ (own : Good is_via). via_tokens own.value) v
spelled want.via_key v = optional (λ (own : Good (λ (own : ViaKey). is_expr own.value)). via_key_tokens own.value) v
spelled want.decl v = decl_tokens v.value
spelled want.decls v = joined (map decl_tokens v.items)
spelled want.more_names v = commas_rest (map id_tokens v)
spelled want.more_typed v = commas_rest (map typed_tokens v)
spelled want.params_rest v = commas (map typed_tokens v) ++ mark sign.CloseParen
spelled want.port v = port_tokens v
spelled want.ports v = joined (map port_tokens v)
spelled want.state v = state_tokens v.value
spelled want.states v = joined (map state_tokens v.items)
spelled (want.phase which) v = phase_tokens which v.value

abbrev pub Values : Wants → Type 0
Values [] = Unit {0}
Values (a ∷ wants) = Value a × Values wants

abbrev pub spells : (wants : Wants) → Values wants → Tokens
spells [] vs = []
spells (a ∷ wants) vs = spelled a vs.0 ++ spells wants vs.1

-- these tokens meet a want
abbrev pub Meets : Want → Tokens → Type 0
Meets a tokens = Spelled (spelled a) tokens

pub spelled-same : {A : Type 0} {spell : A → Tokens} {t u : Tokens} → t ≡ u → Spelled spell t → Spelled spell u
spelled-same e own = record { value = own.value; spells = own.spells ∙ e }
