-- Items of structures are read.
use Rattle.std.proofs.Common.{◌≡◌, ℕ, zero, suc, ◌+◌, Bool, true, false, not, ◌&&◌, List, [], ◌∷◌, ◌++◌, map, Option, Some, None, refl, ap, subst, ◌∙◌}
use Rattle.std.specs.List.{list_all}
use Rattle.std.specs.Option.{option_map}
use Rattle.dsde_syntax.specs.declared.token.Tok.TheVariants as tok
use Rattle.dsde_words.specs.declared.key.Key.TheVariants as key
use Rattle.dsde_syntax.specs.declared.token.Sign.TheVariants as sign
use Rattle.dsde_syntax.specs.declared.id.Id.{Id}
use Rattle.dsde_syntax.specs.declared.expr.Expr.{Expr}
use Rattle.dsde_syntax.specs.declared.item.Item.{Item}
use Rattle.dsde_syntax.specs.declared.item.ItemArm.{ItemArm}
use Rattle.dsde_syntax.specs.declared.item.Bracket.{Bracket}
use Rattle.dsde_syntax.specs.declared.item.End.{End}
use Rattle.dsde_syntax.specs.declared.item.EndPart.{EndPart}
use Rattle.dsde_syntax.specs.declared.item.EndPart.TheVariants as end_part
use Rattle.dsde_syntax.specs.declared.item.ViaPart.{ViaPart}
use Rattle.dsde_syntax.specs.declared.item.ViaKey.{ViaKey}
use Rattle.dsde_syntax.specs.declared.item.Item.TheOpen.{Item-F, ItemArm-F}
use Rattle.dsde_syntax.specs.declared.item.Item.TheViews.{roll-Item, roll-ItemArm}
use Rattle.dsde_syntax.specs.declared.item.Item.TheFolds.{map-Item, map-ItemArm, fold-roll-Item, fold-roll-ItemArm, ind-Item}
use Rattle.dsde_syntax.specs.Grammar.{Tokens, word, mark, id_tokens, commas, elses, optional, in_parens, expr_tokens, args_tokens, set_tokens, for_tokens, if_tokens, bracket_tokens, component_tokens, entry_mark, end_part_tokens, end_tokens, via_key_tokens, via_tokens, link_tokens, item_step, item_arm_step, item_tokens, item_arm_tokens}
use Rattle.dsde_syntax.specs.Grammar.{block as block_tokens, else_block}
use Rattle.dsde_syntax.specs.Places.{Span, ◌>>◌, token, token_at, id_span, spans_with, written_span, block_span, else_span, args_span, expr_span, set_span, for_span, bracket_span, component_span, end_part_span, end_span, via_key_span, via_span, item_span_step, item_arm_span_step, item_span, item_arm_span}
use Rattle.dsde_syntax.specs.Levels.{stands_at, has_first, all_hold, if_written, is_expr, level_of, is_index, is_end, is_via, is_item_step, is_item_arm_step, is_item, is_item_arm}
use Rattle.dsde_parser_grammar.proofs.Reading.{Reader, Reads, AllRead, any, pair, made, maybe, skip, place, here, ident, pair-Reads, made-Reads, fewer-Reads, maybe-none, maybe-some, skip-Reads, place-Reads, here-Reads, ident-Reads, token-end}
use Rattle.dsde_parser_grammar.proofs.ExprReaders.{stops, is_if, is_else_if, bracketed, separated, args, read_expr}
use Rattle.dsde_parser_grammar.proofs.TypeReads.{bracketed-Reads, stepped-Reads}
use Rattle.dsde_parser_grammar.proofs.ListReads.{and-true}
use Rattle.dsde_parser_grammar.proofs.PrimReads.{ExprClaim, args-reads}
use Rattle.dsde_parser_grammar.proofs.ExprCases.{expr-reads, roll-claim}
use Rattle.dsde_parser_grammar.proofs.StmtReads.{whole_expr, is_else, no_else, set_reader, for_reader, if_reader, block_reader, else_reader, set-Reads, for-Reads, if-Reads, block-Reads, no_other-Reads, other-Reads, first-arm, false-true}

-- arguments of the grammar are read

with-claims : (list : List Expr) → map (λ (e : (e : Expr) × ExprClaim e). e.0) (map (λ e. (e, expr-reads e)) list) ≡ list
with-claims [] = refl
with-claims (e ∷ list) = ap (λ (more : List Expr). e ∷ more) (with-claims list)

all-levels : (list : List Expr) → list_all is_expr list ≡ true → list_all (stands_at 9) (map level_of list) ≡ true
all-levels [] h = refl
all-levels (e ∷ list) h =
    let both = and-true (is_expr e) (list_all is_expr list) h in
    rw (both.0, all-levels list both.1) refl

pub args_read : (list : List Expr) → list_all is_expr list ≡ true → Reads any (λ n. args n (read_expr n)) list (args_tokens list) (args_span (map expr_span list))
args_read list h =
    let P : List Expr → Type 0 = λ own. list_all (stands_at 9) (map level_of own) ≡ true → Reads any (λ n. args n (read_expr n)) own (in_parens (commas (map expr_tokens own))) (args_span (map expr_span own)) in
    subst P (with-claims list) (args-reads (map (λ e. (e, expr-reads e)) list)) (all-levels list h)

-- the parts of items

abbrev pub is_bracket : Tokens → Bool
is_bracket (tok.Sign sign.OpenBracket ∷ ts) = true
is_bracket _ = false

abbrev pub no_bracket : Tokens → Bool
no_bracket ts = not (is_bracket ts)

abbrev pub bracket_reader : ℕ → Reader Bracket
bracket_reader n = made (λ v. record { at = v.0; value = v.1 }) (pair here (bracketed (read_expr n)))

abbrev pub component_reader : ℕ → Reader (Id × Option Bracket)
component_reader n = pair ident (maybe is_bracket (bracket_reader n))

abbrev pub entry_mark_reader : Reader Bool
entry_mark_reader at (tok.Key key.Is ∷ ts) = Some (false, at + 1, ts)
entry_mark_reader at (tok.Sign sign.Colon ∷ ts) = Some (true, at + 1, ts)
entry_mark_reader at _ = None

entry_mark-Reads : (soft : Bool) → Reads any (λ n. entry_mark_reader) soft (entry_mark soft) token
entry_mark-Reads true = record { least = 0; gets = λ fuel at end rest enough is fits. ap (λ n. Some (true, n, rest)) (token-end at end is) }
entry_mark-Reads false = record { least = 0; gets = λ fuel at end rest enough is fits. ap (λ n. Some (false, n, rest)) (token-end at end is) }

entry_mark-no_bracket : (soft : Bool) (rest : Tokens) → no_bracket (entry_mark soft ++ rest) ≡ true
entry_mark-no_bracket true rest = refl
entry_mark-no_bracket false rest = refl

bracket-Reads : (bracket : Bracket) → is_expr bracket.value ≡ true → Reads any bracket_reader bracket (bracket_tokens bracket) (bracket_span bracket)
bracket-Reads bracket h =
    made-Reads (λ v. record { at = v.0; value = v.1 })
    (pair-Reads (here-Reads bracket.at) (bracketed-Reads (tok.Sign sign.OpenBracket) (tok.Sign sign.CloseBracket) (whole_expr bracket.value h).reads (λ rest. refl)) (λ rest h. refl))

component-Reads : (name : Id) (index : Option Bracket) → is_index index ≡ true → Reads no_bracket component_reader (name, index) (component_tokens name index) (component_span name index)
component-Reads name None h = pair-Reads (ident-Reads name) (maybe-none is_bracket bracket_reader) (λ rest h. refl)
component-Reads name (Some bracket) h =
    pair-Reads (ident-Reads name) (fewer-Reads no_bracket (λ rest h. refl) (maybe-some is_bracket (bracket-Reads bracket h) (λ rest h. refl))) (λ rest h. refl)

pub data EndForm : Type 0 where
  the_net : EndForm
  the_exec : EndForm
  a_kid : EndForm

abbrev pub end_form : Tokens → EndForm
end_form (tok.Key key.Net ∷ ts) = the_net
end_form (tok.Key key.Exec ∷ ts) = the_exec
end_form _ = a_kid

abbrev pub end_branch : EndForm → ℕ → Reader EndPart
end_branch the_net n = made (λ v. end_part.Net) skip
end_branch the_exec n = made (λ v. end_part.Exec) skip
end_branch a_kid n = made (λ v. end_part.Kid v.0 v.1) (component_reader n)

abbrev pub end_part_reader : ℕ → Reader EndPart
end_part_reader n at ts = end_branch (end_form ts) n at ts

abbrev pub end_reader : ℕ → Reader End
end_reader n = made (λ v. record { part = v.0.0; port = v.1 }) (pair (pair (end_part_reader n) skip) ident)

end-by : {v : EndPart} {t : Tokens} {s : Span} (form : EndForm) → Reads no_bracket (end_branch form) v t s → ((rest : Tokens) → end_form (t ++ rest) ≡ form) → Reads no_bracket end_part_reader v t s
end-by {v} {t} {s} form own begins = record {
  least = own.least;
  gets = λ fuel at end rest enough is fits. ap (λ (form : EndForm). end_branch form fuel at (t ++ rest)) (begins rest) ∙ own.gets fuel at end rest enough is fits;
}

abbrev pub is_end_part : EndPart → Bool
is_end_part part = elim part [ end_part.Net ↦ true | end_part.Exec ↦ true | end_part.Kid name index ↦ is_index index ]

end_part-Reads : (part : EndPart) → is_end_part part ≡ true → Reads no_bracket end_part_reader part (end_part_tokens part) (end_part_span part)
end_part-Reads end_part.Net h = end-by the_net (fewer-Reads no_bracket (λ rest h. refl) (made-Reads (λ v. end_part.Net) (skip-Reads (tok.Key key.Net)))) (λ rest. refl)
end_part-Reads end_part.Exec h = end-by the_exec (fewer-Reads no_bracket (λ rest h. refl) (made-Reads (λ v. end_part.Exec) (skip-Reads (tok.Key key.Exec)))) (λ rest. refl)
end_part-Reads (end_part.Kid name index) h = end-by a_kid (made-Reads (λ v. end_part.Kid v.0 v.1) (component-Reads name index h)) (λ rest. refl)

end-Reads : (end : End) → is_end end ≡ true → Reads any end_reader end (end_tokens end) (end_span end)
end-Reads end h =
    made-Reads (λ v. record { part = v.0.0; port = v.1 })
    (pair-Reads (pair-Reads (end_part-Reads end.part h) (skip-Reads (tok.Sign sign.Dot)) (λ rest h. refl)) (ident-Reads end.port) (λ rest h. refl))

abbrev pub is_comma : Tokens → Bool
is_comma (tok.Sign sign.Comma ∷ ts) = true
is_comma _ = false

abbrev pub is_via_word : Tokens → Bool
is_via_word (tok.Key key.Via ∷ ts) = true
is_via_word _ = false

abbrev pub via_key_reader : ℕ → Reader ViaKey
via_key_reader n = made (λ v. record { name = v.0.0.1; value = v.1 }) (pair (pair (pair skip ident) skip) (read_expr n))

abbrev pub via_reader : ℕ → Reader ViaPart
via_reader n =
    made (λ v. record { value = v.0.0.1.0; key = v.0.0.1.1; body = v.1 })
    (pair (pair (pair skip (bracketed (pair ident (maybe is_comma (via_key_reader n))))) skip) (read_expr n))

via_key-Reads : (own : ViaKey) → is_expr own.value ≡ true → Reads (stops 9) via_key_reader own (via_key_tokens own) (via_key_span own)
via_key-Reads own h =
    made-Reads (λ v. record { name = v.0.0.1; value = v.1 })
    (pair-Reads (pair-Reads (pair-Reads (skip-Reads (tok.Sign sign.Comma)) (ident-Reads own.name) (λ rest h. refl)) (skip-Reads (tok.Sign sign.Equal)) (λ rest h. refl)) (whole_expr own.value h).reads (λ rest h. refl))

abbrev pub closes : Tokens → Bool
closes (tok.Sign sign.CloseParen ∷ ts) = true
closes _ = false

closes-comma : (rest : Tokens) → closes rest ≡ true → not (is_comma rest) ≡ true
closes-comma (tok.Sign sign.CloseParen ∷ rest) h = refl
closes-comma _ h = cc

closes-stops : (rest : Tokens) → closes rest ≡ true → stops 9 rest ≡ true
closes-stops (tok.Sign sign.CloseParen ∷ rest) h = refl
closes-stops _ h = cc

maybe_key-Reads : (own : Option ViaKey) → if_written (λ (own : ViaKey). is_expr own.value) own ≡ true → Reads closes (λ n. maybe is_comma (via_key_reader n)) own (optional via_key_tokens own) (written_span via_key_span own)
maybe_key-Reads None h = fewer-Reads closes closes-comma (maybe-none is_comma via_key_reader)
maybe_key-Reads (Some own) h = fewer-Reads closes closes-stops (maybe-some is_comma (via_key-Reads own h) (λ rest h. refl))

via-Reads : (via : ViaPart) → is_via via ≡ true → Reads (stops 9) via_reader via (via_tokens via) (via_span via)
via-Reads via h =
    let both = and-true (if_written (λ (own : ViaKey). is_expr own.value) via.key) (is_expr via.body) h in
    made-Reads (λ v. record { value = v.0.0.1.0; key = v.0.0.1.1; body = v.1 })
    (pair-Reads (pair-Reads (pair-Reads (skip-Reads (tok.Key key.Via))
    (bracketed-Reads (tok.Sign sign.OpenParen) (tok.Sign sign.CloseParen) (pair-Reads (ident-Reads via.value) (maybe_key-Reads via.key both.0) (λ rest h. refl)) (λ rest. refl)) (λ rest h. refl))
    (skip-Reads (tok.Sign sign.FatArrow)) (λ rest h. refl)) (whole_expr via.body both.1).reads (λ rest h. refl))

abbrev pub ends_item : Tokens → Bool
ends_item (tok.Sign sign.Semicolon ∷ ts) = true
ends_item _ = false

ends-via : (rest : Tokens) → ends_item rest ≡ true → not (is_via_word rest) ≡ true
ends-via (tok.Sign sign.Semicolon ∷ rest) h = refl
ends-via _ h = cc

ends-stops : (rest : Tokens) → ends_item rest ≡ true → stops 9 rest ≡ true
ends-stops (tok.Sign sign.Semicolon ∷ rest) h = refl
ends-stops _ h = cc

maybe_via-Reads : (via : Option ViaPart) → if_written is_via via ≡ true → Reads ends_item (λ n. maybe is_via_word (via_reader n)) via (optional via_tokens via) (written_span via_span via)
maybe_via-Reads None h = fewer-Reads ends_item ends-via (maybe-none is_via_word via_reader)
maybe_via-Reads (Some via) h = fewer-Reads ends_item ends-stops (maybe-some is_via_word (via-Reads via h) (λ rest h. refl))

-- the forms of items

pub data ItemForm : Type 0 where
  a_comp : ItemForm
  a_link : ItemForm
  a_let : ItemForm
  a_choice : ItemForm
  a_loop : ItemForm

abbrev pub item_form_of : Tokens → ItemForm
item_form_of (tok.Key key.Comp ∷ ts) = a_comp
item_form_of (tok.Key key.Link ∷ ts) = a_link
item_form_of (tok.Key key.Let ∷ ts) = a_let
item_form_of (tok.Key key.If ∷ ts) = a_choice
item_form_of _ = a_loop

abbrev pub begins_item : Tokens → Bool
begins_item (tok.Key key.Comp ∷ ts) = true
begins_item (tok.Key key.Link ∷ ts) = true
begins_item (tok.Key key.Let ∷ ts) = true
begins_item (tok.Key key.If ∷ ts) = true
begins_item (tok.Key key.For ∷ ts) = true
begins_item _ = false

abbrev pub item_arm : ℕ → Reader Item → Reader ItemArm
item_arm n sub = made (λ v. roll-ItemArm (record { cond = v.0; body = v.1 })) (pair (if_reader n) (block_reader begins_item n sub))

abbrev pub item_branch : ItemForm → ℕ → Reader Item → Reader Item
item_branch a_comp n sub =
    made (λ v. roll-Item (Item-F.Comp v.0.0.0.0.0 v.0.0.0.0.1.0 v.0.0.0.0.1.1 v.0.0.0.1 v.0.0.1 v.0.1))
    (pair (pair (pair (pair (pair place (component_reader n)) entry_mark_reader) ident) (args n (read_expr n))) skip)
item_branch a_link n sub =
    made (λ v. roll-Item (Item-F.Link v.0.0.0.0.0 v.0.0.0.0.1 v.0.0.1 v.0.1))
    (pair (pair (pair (pair (pair place (end_reader n)) skip) (end_reader n)) (maybe is_via_word (via_reader n))) skip)
item_branch a_let n sub = made (λ v. roll-Item (Item-F.Let v.1.0 v.1.1)) (pair skip (set_reader n))
item_branch a_choice n sub =
    made (λ v. roll-Item (Item-F.If v.0 v.1)) (pair (separated n is_else_if (item_arm n sub)) (maybe is_else (else_reader begins_item n sub)))
item_branch a_loop n sub = made (λ v. roll-Item (Item-F.For v.0.0 v.0.1 v.1)) (pair (for_reader n) (block_reader begins_item n sub))

abbrev pub read_item : ℕ → Reader Item
read_item zero at ts = None
read_item (suc n) at ts = item_branch (item_form_of ts) n (read_item n) at ts

-- items

record ItemReads (v : Item) (t : Tokens) (ok : Bool) (s : Span) : Type 0 where
  begins : ok ≡ true → (rest : Tokens) → begins_item (t ++ rest) ≡ true
  reads : ok ≡ true → Reads no_else read_item v t s

record ArmReads (v : ItemArm) (t : Tokens) (ok : Bool) (s : Span) : Type 0 where
  begins : (rest : Tokens) → is_if (t ++ rest) ≡ true
  reads : ok ≡ true → Reads any (λ n. item_arm n (read_item n)) v t s

abbrev ItemClaim : Item → Type 0
ItemClaim v = ItemReads v (item_tokens v) (is_item v) (item_span v)

abbrev ArmClaim : ItemArm → Type 0
ArmClaim v = ArmReads v (item_arm_tokens v) (is_item_arm v) (item_arm_span v)

abbrev S : Type 0
S = (v : Item) × ItemClaim v

abbrev A : Type 0
A = (v : ItemArm) × ArmClaim v

item-within : {v : Item} {t : Tokens} {s : Span} {fit : Tokens → Bool} (form : ItemForm) → Reads fit (λ n. item_branch form n (read_item n)) v t s → ((rest : Tokens) → fit rest ≡ true → item_form_of (t ++ rest) ≡ form) → Reads fit read_item v t s
item-within form own begins = stepped-Reads read_item (λ form n. item_branch form n (read_item n)) item_form_of (λ n at ts. refl) form own begins

item-by : {v : Item} {t : Tokens} {s : Span} (form : ItemForm) → Reads any (λ n. item_branch form n (read_item n)) v t s → ((rest : Tokens) → item_form_of (t ++ rest) ≡ form) → Reads no_else read_item v t s
item-by form own begins = fewer-Reads no_else (λ rest h. refl) (stepped-Reads read_item (λ form n. item_branch form n (read_item n)) item_form_of (λ n at ts. refl) form own (λ rest h. begins rest))

goes-no_else : (rest : Tokens) → begins_item rest ≡ true → no_else rest ≡ true
goes-no_else (tok.Key key.Else ∷ rest) h = cc
goes-no_else _ h = refl

items-all : (list : List S) → all_hold (map is_item (map (λ e. e.0) list)) ≡ true → AllRead begins_item no_else read_item (map (λ e. e.0) list) (map item_tokens (map (λ e. e.0) list)) (map item_span (map (λ e. e.0) list))
items-all [] h = tt
items-all ((v, own) ∷ list) h =
    let both = and-true (is_item v) (all_hold (map is_item (map (λ e. e.0) list))) h in
    (own.reads both.0, own.begins both.0, items-all list both.1)

arms-all : (list : List A) → all_hold (map is_item_arm (map (λ e. e.0) list)) ≡ true → AllRead is_if any (λ n. item_arm n (read_item n)) (map (λ e. e.0) list) (map item_arm_tokens (map (λ e. e.0) list)) (map item_arm_span (map (λ e. e.0) list))
arms-all [] h = tt
arms-all ((v, own) ∷ list) h =
    let both = and-true (is_item_arm v) (all_hold (map is_item_arm (map (λ e. e.0) list))) h in
    (own.reads both.0, own.begins, arms-all list both.1)

items-block : (list : List S) → all_hold (map is_item (map (λ e. e.0) list)) ≡ true → Reads any (λ n. block_reader begins_item n (read_item n)) (map (λ e. e.0) list) (block_tokens (map item_tokens (map (λ e. e.0) list))) (block_span (map item_span (map (λ e. e.0) list)))
items-block list h = block-Reads begins_item read_item goes-no_else (λ rest. refl) _ _ _ (items-all list h)

comp-reads : (at : ℕ) (name : Id) (index : Option Bracket) (soft : Bool) (model : Id) (list : List Expr) → ItemReads (roll-Item (Item-F.Comp at name index soft model list)) (((((word key.Comp ++ component_tokens name index) ++ entry_mark soft) ++ id_tokens model) ++ args_tokens list) ++ mark sign.Semicolon) (is_index index && list_all is_expr list) (((((token_at at >> component_span name index) >> token) >> id_span model) >> args_span (map expr_span list)) >> token)
comp-reads at name index soft model list = record {
  begins = λ h rest. refl;
  reads = λ h.
      let both = and-true (is_index index) (list_all is_expr list) h in
      item-by a_comp
      (made-Reads (λ v. roll-Item (Item-F.Comp v.0.0.0.0.0 v.0.0.0.0.1.0 v.0.0.0.0.1.1 v.0.0.0.1 v.0.0.1 v.0.1))
      (pair-Reads (pair-Reads (pair-Reads (pair-Reads (pair-Reads (place-Reads (tok.Key key.Comp) at) (component-Reads name index both.0) (λ rest h. refl)) (entry_mark-Reads soft) (λ rest h. entry_mark-no_bracket soft rest)) (ident-Reads model) (λ rest h. refl)) (args_read list both.1) (λ rest h. refl)) (skip-Reads (tok.Sign sign.Semicolon)) (λ rest h. refl)))
      (λ rest. refl);
}

link-reads : (at : ℕ) (source target : End) (via : Option ViaPart) → ItemReads (roll-Item (Item-F.Link at source target via)) (link_tokens source target via) ((is_end source && is_end target) && if_written is_via via) (((((token_at at >> end_span source) >> token) >> end_span target) >> written_span via_span via) >> token)
link-reads at source target via = record {
  begins = λ h rest. refl;
  reads = λ h.
      let both = and-true (is_end source && is_end target) (if_written is_via via) h in
      let ends = and-true (is_end source) (is_end target) both.0 in
      item-by a_link
      (made-Reads (λ v. roll-Item (Item-F.Link v.0.0.0.0.0 v.0.0.0.0.1 v.0.0.1 v.0.1))
      (pair-Reads (pair-Reads (pair-Reads (pair-Reads (pair-Reads (place-Reads (tok.Key key.Link) at) (end-Reads source ends.0) (λ rest h. refl)) (skip-Reads (tok.Sign sign.Arrow)) (λ rest h. refl)) (end-Reads target ends.1) (λ rest h. refl)) (maybe_via-Reads via both.1) (λ rest h. refl)) (skip-Reads (tok.Sign sign.Semicolon)) (λ rest h. refl)))
      (λ rest. refl);
}

let-reads : (name : Id) (value : Expr) → ItemReads (roll-Item (Item-F.Let name value)) (word key.Let ++ set_tokens name value) (is_expr value) (token >> set_span name value)
let-reads name value = record {
  begins = λ h rest. refl;
  reads = λ h. item-by a_let (made-Reads (λ v. roll-Item (Item-F.Let v.1.0 v.1.1)) (pair-Reads (skip-Reads (tok.Key key.Let)) (set-Reads name value h) (λ rest h. refl))) (λ rest. refl);
}

loop-reads : (name : Id) (list : Expr) (body : List S) → ItemReads (roll-Item (Item-F.For name list (map (λ e. e.0) body))) (for_tokens name list ++ block_tokens (map item_tokens (map (λ e. e.0) body))) (is_expr list && all_hold (map is_item (map (λ e. e.0) body))) (for_span name list >> block_span (map item_span (map (λ e. e.0) body)))
loop-reads name list body = record {
  begins = λ h rest. refl;
  reads = λ h.
      let both = and-true (is_expr list) (all_hold (map is_item (map (λ e. e.0) body))) h in
      item-by a_loop (made-Reads (λ v. roll-Item (Item-F.For v.0.0 v.0.1 v.1)) (pair-Reads (for-Reads name list both.0) (items-block body both.1) (λ rest h. refl))) (λ rest. refl);
}

arm-reads : (cond : Expr) (body : List S) → ArmReads (roll-ItemArm (record { cond = cond; body = map (λ e. e.0) body })) (if_tokens cond ++ block_tokens (map item_tokens (map (λ e. e.0) body))) (is_expr cond && all_hold (map is_item (map (λ e. e.0) body))) ((token >> expr_span cond) >> block_span (map item_span (map (λ e. e.0) body)))
arm-reads cond body = record {
  begins = λ rest. refl;
  reads = λ h.
      let both = and-true (is_expr cond) (all_hold (map is_item (map (λ e. e.0) body))) h in
      made-Reads (λ v. roll-ItemArm (record { cond = v.0; body = v.1 })) (pair-Reads (if-Reads cond both.0) (items-block body both.1) (λ rest h. refl));
}

-- what begins with "if"
if-item : (ts : Tokens) → is_if ts ≡ true → (begins_item ts ≡ true) × (item_form_of ts ≡ a_choice)
if-item (tok.Key key.If ∷ ts) h = (refl, refl)
if-item _ h = cc

item-choice : (arms : List A) (other : Option (List S)) → ItemReads (roll-Item (Item-F.If (map (λ e. e.0) arms) (option_map (map (λ e. e.0)) other))) (elses (map item_arm_tokens (map (λ e. e.0) arms)) ++ optional else_block (option_map (map item_tokens) (option_map (map (λ e. e.0)) other))) ((has_first (map is_item_arm (map (λ e. e.0) arms)) && all_hold (map is_item_arm (map (λ e. e.0) arms))) && if_written all_hold (option_map (map is_item) (option_map (map (λ e. e.0)) other))) (spans_with token (map item_arm_span (map (λ e. e.0) arms)) >> written_span else_span (option_map (map item_span) (option_map (map (λ e. e.0)) other)))
item-choice [] other = record {
  begins = λ h. absurd (false-true (and-true false (if_written all_hold (option_map (map is_item) (option_map (map (λ e. e.0)) other))) h).0);
  reads = λ h. absurd (false-true (and-true false (if_written all_hold (option_map (map is_item) (option_map (map (λ e. e.0)) other))) h).0);
}
item-choice (first ∷ arms) None =
    let begins = λ (rest : Tokens). first-arm (item_arm_tokens first.0) first.1.begins _ [] rest in
    record {
      begins = λ h rest. (if-item _ (begins rest)).0;
      reads = λ h.
          let both = and-true (all_hold (map is_item_arm (map (λ e. e.0) (first ∷ arms)))) true h in
          item-within a_choice (made-Reads (λ v. roll-Item (Item-F.If v.0 v.1)) (no_other-Reads begins_item (λ n. item_arm n (read_item n)) read_item _ _ _ _ _ _ (arms-all (first ∷ arms) both.0))) (λ rest h. (if-item _ (begins rest)).1);
    }
item-choice (first ∷ arms) (Some last) =
    let begins = λ (rest : Tokens). first-arm (item_arm_tokens first.0) first.1.begins _ (else_block (map item_tokens (map (λ e. e.0) last))) rest in
    record {
      begins = λ h rest. (if-item _ (begins rest)).0;
      reads = λ h.
          let both = and-true (all_hold (map is_item_arm (map (λ e. e.0) (first ∷ arms)))) (all_hold (map is_item (map (λ e. e.0) last))) h in
          item-within a_choice (made-Reads (λ v. roll-Item (Item-F.If v.0 v.1)) (other-Reads begins_item (λ n. item_arm n (read_item n)) read_item goes-no_else (λ rest. refl) _ _ _ _ _ _ (arms-all (first ∷ arms) both.0) _ _ _ (items-all last both.1))) (λ rest h. (if-item _ (begins rest)).1);
    }

-- every item

item-roll : (x : Item-F Item ItemArm) → ItemReads (roll-Item x) (item_step (map-Item Item ItemArm Tokens Tokens item_tokens item_arm_tokens x)) (is_item_step (map-Item Item ItemArm Bool Bool is_item is_item_arm x)) (item_span_step (map-Item Item ItemArm Span Span item_span item_arm_span x)) → ItemClaim (roll-Item x)
item-roll x own = roll-claim ItemReads (roll-Item x) _ _ _ _ _ _ (fold-roll-Item Tokens Tokens item_step item_arm_step x) (fold-roll-Item Bool Bool is_item_step is_item_arm_step x) (fold-roll-Item Span Span item_span_step item_arm_span_step x) own

arm-roll : (x : ItemArm-F Item ItemArm) → ArmReads (roll-ItemArm x) (item_arm_step (map-ItemArm Item ItemArm Tokens Tokens item_tokens item_arm_tokens x)) (is_item_arm_step (map-ItemArm Item ItemArm Bool Bool is_item is_item_arm x)) (item_arm_span_step (map-ItemArm Item ItemArm Span Span item_span item_arm_span x)) → ArmClaim (roll-ItemArm x)
arm-roll x own = roll-claim ArmReads (roll-ItemArm x) _ _ _ _ _ _ (fold-roll-ItemArm Tokens Tokens item_step item_arm_step x) (fold-roll-ItemArm Bool Bool is_item_step is_item_arm_step x) (fold-roll-ItemArm Span Span item_span_step item_arm_span_step x) own

item-case : (y : Item-F S A) → ItemClaim (roll-Item (map-Item S A Item ItemArm (λ e. e.0) (λ e. e.0) y))
item-case (Item-F.Comp at name index soft model list) = item-roll (Item-F.Comp at name index soft model list) (comp-reads at name index soft model list)
item-case (Item-F.Link at source target via) = item-roll (Item-F.Link at source target via) (link-reads at source target via)
item-case (Item-F.Let name value) = item-roll (Item-F.Let name value) (let-reads name value)
item-case (Item-F.If arms None) = item-roll (Item-F.If (map (λ e. e.0) arms) None) (item-choice arms None)
item-case (Item-F.If arms (Some last)) = item-roll (Item-F.If (map (λ e. e.0) arms) (Some (map (λ e. e.0) last))) (item-choice arms (Some last))
item-case (Item-F.For name list body) = item-roll (Item-F.For name list (map (λ e. e.0) body)) (loop-reads name list body)

arm-case : (y : ItemArm-F S A) → ArmClaim (roll-ItemArm (map-ItemArm S A Item ItemArm (λ e. e.0) (λ e. e.0) y))
arm-case y = arm-roll (record { cond = y.cond; body = map (λ e. e.0) y.body }) (arm-reads y.cond y.body)

item-reads : (v : Item) → ItemClaim v
item-reads = ind-Item ItemClaim ArmClaim
    (λ x y is. subst (λ (z : Item-F Item ItemArm). ItemClaim (roll-Item z)) is (item-case y))
    (λ x y is. subst (λ (z : ItemArm-F Item ItemArm). ArmClaim (roll-ItemArm z)) is (arm-case y))

-- several items of the grammar are read
pub items-read : (list : List Item) → list_all is_item list ≡ true → AllRead begins_item no_else read_item list (map item_tokens list) (map item_span list)
items-read [] h = tt
items-read (v ∷ list) h =
    let both = and-true (is_item v) (list_all is_item list) h in
    ((item-reads v).reads both.0, (item-reads v).begins both.0, items-read list both.1)

pub items-block-read : (list : List Item) → list_all is_item list ≡ true → Reads any (λ n. block_reader begins_item n (read_item n)) list (block_tokens (map item_tokens list)) (block_span (map item_span list))
items-block-read list h = block-Reads begins_item read_item goes-no_else (λ rest. refl) _ _ _ (items-read list h)
