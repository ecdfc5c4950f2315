-- The steps of items are sound.
use Rattle.std.proofs.Common.{◌≡◌, Bool, true, false, [], ◌∷◌, ◌++◌, map, Option, Some, None, refl, sym, ap, ◌∙◌}
use Rattle.std.proofs.lemmas.List.{append-nil}
use Rattle.std.specs.Prelude.{flat_map}
use Rattle.dsde_syntax.specs.declared.token.Tok.{Tok}
use Rattle.dsde_syntax.specs.declared.token.Tok.TheVariants as tok
use Rattle.dsde_words.specs.declared.key.Key.TheVariants as key
use Rattle.dsde_syntax.specs.declared.token.Sign.TheVariants as sign
use Rattle.dsde_syntax.specs.declared.item.Item.{Item}
use Rattle.dsde_syntax.specs.declared.item.ItemArm.{ItemArm}
use Rattle.dsde_syntax.specs.declared.item.Item.TheOpen.{Item-F, ItemArm-F}
use Rattle.dsde_syntax.specs.declared.item.Item.TheViews.{roll-Item, roll-ItemArm}
use Rattle.dsde_syntax.specs.declared.item.Item.TheFolds.{map-Item}
use Rattle.dsde_syntax.specs.declared.id.Id.{Id}
use Rattle.dsde_syntax.specs.declared.item.EndPart.{EndPart}
use Rattle.dsde_syntax.specs.declared.item.EndPart.TheVariants as end_part
use Rattle.dsde_syntax.specs.Grammar.{id_tokens, in_parens, in_brackets, entry_mark, end_part_tokens, end_tokens, via_key_tokens, via_tokens, Tokens, word, mark, joined, if_tokens, expr_tokens, item_tokens, item_arm_tokens}
use Rattle.dsde_syntax.specs.Grammar.{item_step as item_tokens_step, block as block_tokens, else_block}
use Rattle.dsde_syntax.specs.Levels.{stands_at, level_of, is_end, is_expr, is_item, is_item_step, is_item_arm}
use Rattle.dsde_parser_grammar.specs.Want as want
use Rattle.dsde_parser_grammar.specs.Steps.{repeated, index_step, entry_mark_step, end_step, via_step, via_key_step, item_step, else_step, else_block_step, arm_rest}
use Rattle.dsde_parser_grammar.proofs.Layers.{item-tokens, item-level, item_arm-tokens, item_arm-level}
use Rattle.dsde_parser_grammar.proofs.Values.{Good, Several, Spelled, Value, spelled, Values, spells, Meets, spelled-same, item_others}
use Rattle.dsde_parser_grammar.proofs.Taking.{Takes, Sound, repeated-sound, named, one_more, true-and, all-of-map, three, five}
use Rattle.dsde_parser_grammar.proofs.ExprParts.{several-join}
use Rattle.dsde_parser_grammar.proofs.StmtParts.{arm-behind}

-- an item by its layer
item-made : (x : Item-F Item ItemArm) {u : Tokens} → item_tokens_step (map-Item Item ItemArm Tokens Tokens item_tokens item_arm_tokens x) ≡ u → is_item_step (map-Item Item ItemArm Bool Bool is_item is_item_arm x) ≡ true → Meets want.item u
item-made x e h = record { value = record { value = roll-Item x; good = item-level x ∙ h }; spells = item-tokens x ∙ e }

-- "if" expr block
item_arm-of : (cond : Good is_expr) (body : Value want.items) → Spelled (λ (v : Good is_item_arm). item_arm_tokens v.value) (if_tokens cond.value ++ block_tokens (map item_tokens body.items))
item_arm-of cond body =
    let x : ItemArm-F Item ItemArm = record { cond = cond.value; body = body.items } in
    record { value = record { value = roll-ItemArm x; good = item_arm-level x ∙ true-and _ _ cond.good body.all }; spells = item_arm-tokens x }

item-choice : (arm : Good is_item_arm) (arms : Several is_item_arm (λ holds. holds)) (other : Option (Several is_item (λ holds. holds))) → Meets want.item (item_arm_tokens arm.value ++ item_others (record { arms = arms; other = other }))
item-choice arm arms None =
    item-made (Item-F.If (arm.value ∷ arms.items) None)
    (three (item_arm_tokens arm.value) (flat_map (λ own. word key.Else ++ own) (map item_arm_tokens arms.items)) [])
    (true-and _ _ (true-and _ _ refl (true-and _ _ arm.good arms.all)) refl)
item-choice arm arms (Some last) =
    item-made (Item-F.If (arm.value ∷ arms.items) (Some last.items))
    (three (item_arm_tokens arm.value) (flat_map (λ own. word key.Else ++ own) (map item_arm_tokens arms.items)) (else_block (map item_tokens last.items)))
    (true-and _ _ (true-and _ _ refl (true-and _ _ arm.good arms.all)) last.all)

item-if : (vs : Values (arm_rest want.items want.other_items)) → Meets want.item (tok.Key key.If ∷ spells (arm_rest want.items want.other_items) vs)
item-if (cond, (open_brace, (body, (close_brace, (others, end))))) =
    let arm = item_arm-of cond body in
    spelled-same
    (ap (λ (t : Tokens). t ++ item_others others) arm.spells ∙ arm-behind (expr_tokens cond.value) (joined (map item_tokens body.items)) (item_others others))
    (item-choice arm.value others.arms others.other)

-- ["[" expr "]"]
pub index-takes : (t : Tok) → Takes (λ u. Meets want.index (t ∷ u)) (index_step t)
index-takes (tok.Sign sign.OpenBracket) = λ (value, (close, end)). index-of value
  where
    index-of : (value : Good is_expr) → Meets want.index (in_brackets (expr_tokens value.value))
    index-of value = record { value = record { value = Some (record { at = 0; value = value.value }); good = value.good }; spells = refl }
index-takes _ = tt

pub index-none : Meets want.index []
index-none = record { value = record { value = None; good = refl }; spells = refl }

end-of : (part : EndPart) (port : Id) {u : Tokens} → (end_part_tokens part ++ mark sign.Dot) ++ id_tokens port ≡ u → is_end (record { part = part; port = port }) ≡ true → Meets want.end u
end-of part port e h = record { value = record { value = record { part = part; port = port }; good = h }; spells = e }

-- one end of a link
pub end-takes : (t : Tok) → Takes (λ u. Meets want.end (t ∷ u)) (end_step t)
end-takes (tok.Key key.Net) = λ (dot, (port, end)). end-of end_part.Net port refl refl
end-takes (tok.Key key.Exec) = λ (dot, (port, end)). end-of end_part.Exec port refl refl
end-takes (tok.Ident name) = λ (index, (dot, (port, end))).
    end-of (end_part.Kid (named name) index.value) port
    (ap (λ (t : Tokens). tok.Ident name ∷ t) (three (spelled want.index index) (mark sign.Dot) (id_tokens port)))
    index.good
end-takes _ = tt

via_key-of : (name : Id) (value : Good is_expr) → Meets want.via_key (mark sign.Comma ++ (id_tokens name ++ (mark sign.Equal ++ expr_tokens value.value)))
via_key-of name value = record { value = Some (record { value = record { name = name; value = value.value }; good = value.good }); spells = refl }

-- "," id "=" expr
pub via_key-takes : (t : Tok) → Takes (λ u. Meets want.via_key (t ∷ u)) (via_key_step t)
via_key-takes (tok.Sign sign.Comma) = λ (name, (equal, (value, end))).
    spelled-same (ap (λ (t : Tokens). tok.Sign sign.Comma ∷ (id_tokens name ++ (mark sign.Equal ++ t))) (sym (append-nil (expr_tokens value.value)))) (via_key-of name value)
via_key-takes _ = tt

via-parts : (own : Tokens) (name : Id) (body : Tokens) → ((word key.Via ++ in_parens (id_tokens name ++ own)) ++ mark sign.FatArrow) ++ body ≡ tok.Key key.Via ∷ (mark sign.OpenParen ++ (id_tokens name ++ (own ++ (mark sign.CloseParen ++ (mark sign.FatArrow ++ (body ++ []))))))
via-parts own name body =
    ap (λ (t : Tokens). tok.Key key.Via ∷ (mark sign.OpenParen ++ (id_tokens name ++ t)))
    (ap (λ (t : Tokens). t ++ body) (three own (mark sign.CloseParen) (mark sign.FatArrow))
    ∙ three own (mark sign.CloseParen ++ mark sign.FatArrow) body
    ∙ ap (λ (t : Tokens). own ++ (mark sign.CloseParen ++ (mark sign.FatArrow ++ t))) (sym (append-nil body)))

via-of : (name : Id) (own : Value want.via_key) (body : Good is_expr) → Meets want.via (tok.Key key.Via ∷ (mark sign.OpenParen ++ (id_tokens name ++ (spelled want.via_key own ++ (mark sign.CloseParen ++ (mark sign.FatArrow ++ (expr_tokens body.value ++ [])))))))
via-of name None body = record {
  value = Some (record { value = record { value = name; key = None; body = body.value }; good = true-and _ _ refl body.good });
  spells = via-parts [] name (expr_tokens body.value);
}
via-of name (Some own) body = record {
  value = Some (record { value = record { value = name; key = Some own.value; body = body.value }; good = true-and _ _ own.good body.good });
  spells = via-parts (via_key_tokens own.value) name (expr_tokens body.value);
}

-- "via" "(" id ["," id "=" expr] ")" "=>" expr
pub via-takes : (t : Tok) → Takes (λ u. Meets want.via (t ∷ u)) (via_step t)
via-takes (tok.Key key.Via) = λ (open_paren, (name, (own, (close_paren, (arrow, (body, end)))))). via-of name own body
via-takes _ = tt

-- "is" | ":"
pub entry_mark-takes : (t : Tok) → Takes (λ u. Meets want.entry_mark (t ∷ u)) (entry_mark_step t)
entry_mark-takes (tok.Key key.Is) = λ end. record { value = false; spells = refl }
entry_mark-takes (tok.Sign sign.Colon) = λ end. record { value = true; spells = refl }
entry_mark-takes _ = tt

-- "comp" id ["[" expr "]"] ("is" | ":") id args ";"
comp-parts : (index args : Tokens) (soft : Bool) (name model : Id) → ((((word key.Comp ++ (id_tokens name ++ index)) ++ entry_mark soft) ++ id_tokens model) ++ (mark sign.OpenParen ++ args)) ++ mark sign.Semicolon ≡ tok.Key key.Comp ∷ (id_tokens name ++ (index ++ (entry_mark soft ++ (id_tokens model ++ (mark sign.OpenParen ++ (args ++ mark sign.Semicolon))))))
comp-parts index args soft name model =
    ap (λ (t : Tokens). tok.Key key.Comp ∷ (id_tokens name ++ t)) (five index (entry_mark soft) (id_tokens model) (mark sign.OpenParen ++ args) (mark sign.Semicolon))

-- "link" end "->" end ["via" ..] ";"
link-parts : (source target via : Tokens) → ((((word key.Link ++ source) ++ mark sign.Arrow) ++ target) ++ via) ++ mark sign.Semicolon ≡ tok.Key key.Link ∷ (source ++ (mark sign.Arrow ++ (target ++ (via ++ mark sign.Semicolon))))
link-parts source target via =
    ap (λ (t : Tokens). tok.Key key.Link ∷ t) (five source (mark sign.Arrow) target via (mark sign.Semicolon))

link-of : (source target : Good is_end) (via : Value want.via) → Meets want.item (tok.Key key.Link ∷ (end_tokens source.value ++ (mark sign.Arrow ++ (end_tokens target.value ++ (spelled want.via via ++ mark sign.Semicolon)))))
link-of source target None =
    item-made (Item-F.Link 0 source.value target.value None) (link-parts (end_tokens source.value) (end_tokens target.value) [])
    (true-and _ _ (true-and _ _ source.good target.good) refl)
link-of source target (Some via) =
    item-made (Item-F.Link 0 source.value target.value (Some via.value)) (link-parts (end_tokens source.value) (end_tokens target.value) (via_tokens via.value))
    (true-and _ _ (true-and _ _ source.good target.good) via.good)

-- an item, by its first token
pub item-takes : (t : Tok) → Takes (λ u. Meets want.item (t ∷ u)) (item_step t)
item-takes (tok.Key key.Comp) = λ (name, (index, (soft, (model, (open_paren, (own, (semicolon, end))))))).
    item-made (Item-F.Comp 0 name index.value soft model own.items)
    (comp-parts (spelled want.index index) (spelled want.args_rest own) soft name model)
    (true-and _ _ index.good (all-of-map level_of (stands_at 9) own.items own.all))
item-takes (tok.Key key.Link) = λ (source, (arrow, (target, (via, (semicolon, end))))). link-of source target via
item-takes (tok.Key key.Let) = λ (name, (equal, (value, (semicolon, end)))). item-made (Item-F.Let name value.value) refl value.good
item-takes (tok.Key key.If) = item-if
item-takes (tok.Key key.For) = λ (name, (word_in, (list, (open_brace, (body, (close_brace, end)))))). item-made (Item-F.For name list.value body.items) refl (true-and _ _ list.good body.all)
item-takes _ = tt

-- {item}
pub items-sound : (t : Tok) → Sound (λ u. Meets want.items (t ∷ u)) (Meets want.items []) (repeated want.items (item_step t))
items-sound t =
    repeated-sound (Meets want.item) want.items t (item_step t) (item-takes t)
    (several-join is_item (λ holds. holds) item_tokens (λ items. joined (map item_tokens items)) (λ x xs. refl))
    (record { value = record { items = []; all = refl }; spells = refl })

-- {"else" arm} ["else" block]
pub other_items-takes : (t : Tok) → Takes (λ u. Meets want.other_items (t ∷ u)) (else_step want.else_items t)
other_items-takes (tok.Key key.Else) = λ (own, end). spelled-same (ap (λ (t : Tokens). tok.Key key.Else ∷ t) (sym (append-nil own.tokens))) own.whole
other_items-takes _ = tt

pub other_items-none : Meets want.other_items []
other_items-none = record { value = record { arms = record { items = []; all = refl }; other = None }; spells = refl }

else_items-if : (vs : Values (arm_rest want.items want.other_items)) → Meets want.else_items (tok.Key key.If ∷ spells (arm_rest want.items want.other_items) vs)
else_items-if (cond, (open_brace, (body, (close_brace, (others, end))))) =
    let arm = item_arm-of cond body in
    let arms : Several is_item_arm (λ holds. holds) = one_more arm.value.value arm.value.good others.arms in
    let all : Value want.other_items = record { arms = arms; other = others.other } in
    let whole : Spelled item_others (tok.Key key.Else ∷ tok.Key key.If ∷ spells (arm_rest want.items want.other_items) (cond, (open_brace, (body, (close_brace, (others, end)))))) = record {
      value = all;
      spells = ap (λ (t : Tokens). tok.Key key.Else ∷ t)
          (three (item_arm_tokens arm.value.value) (flat_map (λ own. word key.Else ++ own) (map item_arm_tokens others.arms.items)) _
          ∙ ap (λ (t : Tokens). t ++ item_others others) arm.spells
          ∙ arm-behind (expr_tokens cond.value) (joined (map item_tokens body.items)) (item_others others));
    } in
    record { value = record { tokens = _; whole = whole }; spells = refl }

else_items-last : (own : Value want.items) → Meets want.else_items (block_tokens (map item_tokens own.items))
else_items-last own =
    let whole : Spelled item_others (else_block (map item_tokens own.items)) = record { value = record { arms = record { items = []; all = refl }; other = Some own }; spells = refl } in
    record { value = record { tokens = block_tokens (map item_tokens own.items); whole = whole }; spells = refl }

-- what stands behind "else"
pub else_items-takes : (t : Tok) → Takes (λ u. Meets want.else_items (t ∷ u)) (else_block_step want.items want.other_items t)
else_items-takes (tok.Key key.If) = else_items-if
else_items-takes (tok.Sign sign.OpenBrace) = λ (own, (close_brace, end)). else_items-last own
else_items-takes _ = tt
