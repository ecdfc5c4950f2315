-- Each step is sound, and each want can be met.
use Rattle.std.proofs.Common.{◌≡◌, true, false, [], ◌∷◌, None, refl, sym, subst, arith}
use Rattle.std.specs.Prelude.{All}
use Rattle.std.proofs.lemmas.List.Elements.{All-nil, All-cons, All-append}
use Rattle.dsde_syntax.specs.declared.token.Tok.{Tok}
use Rattle.dsde_syntax.specs.declared.token.Tok.TheVariants as tok
use Rattle.dsde_words.specs.declared.key.Key.{Key}
use Rattle.dsde_words.specs.declared.key.Key.TheVariants as key
use Rattle.dsde_syntax.specs.declared.token.Sign.{Sign}
use Rattle.dsde_syntax.specs.declared.token.Sign.TheVariants as sign
use Rattle.dsde_words.specs.Words.{IsIdentifier}
use Rattle.dsde_syntax.specs.Spelling.{IsToken}
use Rattle.dsde_parser_grammar.specs.Want.{Want}
use Rattle.dsde_parser_grammar.specs.Want as want
use Rattle.dsde_parser_grammar.specs.Steps.{Wants, step, may_end, go_if, is_key, is_sign, name_step, type_step, expr_step, negation_step, minus_step, prim_step, suffix_step, comparison_step, fallback_step, after_name_step, args_rest_step, row_rest_step, test_step, else_rest_step, stmt_step, else_step, else_block_step, item_step, index_step, entry_mark_step, end_step, via_step, via_key_step, decl_step, params_rest_step, port_step, state_step, block}
use Rattle.dsde_parser_grammar.proofs.Values.{Value, spelled, Values, spells, Meets}
use Rattle.dsde_parser_grammar.proofs.Taking.{Sound, takes-sound, optional-sound, word-takes, mark-takes, name-takes, named}
use Rattle.dsde_parser_grammar.proofs.ExprParts.{type-takes, negation-takes, minus-takes, suffix-takes, suffixes-sound, factors-sound, terms-sound, comparison-takes, conjuncts-sound, disjuncts-sound, fallback-takes}
use Rattle.dsde_parser_grammar.proofs.PrimParts.{prim-takes, expr-takes, after_name-takes, after_name-none, args_rest-takes, more_exprs-sound, more_fields-sound, row_rest-takes, test-takes, else_rest-takes}
use Rattle.dsde_parser_grammar.proofs.StmtParts.{stmt-takes, stmts-sound, other_stmts-takes, other_stmts-none, else_stmts-takes}
use Rattle.dsde_parser_grammar.proofs.ItemParts.{index-takes, index-none, entry_mark-takes, end-takes, via-takes, via_key-takes, item-takes, items-sound, other_items-takes, other_items-none, else_items-takes}
use Rattle.dsde_parser_grammar.proofs.DeclParts.{more_names-sound, more_typed-sound, params_rest-takes, port-takes, ports-sound, state-takes, states-sound, phase-takes, phase-none, decl-takes, decls-sound}

-- a want that may be met by nothing is
pub none : (a : Want) → may_end a ≡ true → Meets a []
none want.negation h = record { value = false; spells = refl }
none want.minus h = record { value = false; spells = refl }
none want.suffixes h = record { value = record { items = []; all = refl }; spells = refl }
none want.factors h = record { value = record { items = []; all = refl }; spells = refl }
none want.terms h = record { value = record { items = []; all = refl }; spells = refl }
none want.comparison h = record { value = None; spells = refl }
none want.conjuncts h = record { value = record { items = []; all = refl }; spells = refl }
none want.disjuncts h = record { value = record { items = []; all = refl }; spells = refl }
none want.fallback h = record { value = None; spells = refl }
none want.after_name h = after_name-none
none want.more_exprs h = record { value = record { items = []; all = refl }; spells = refl }
none want.more_fields h = record { value = record { items = []; all = refl }; spells = refl }
none want.test h = record { value = None; spells = refl }
none want.stmts h = record { value = record { items = []; all = refl }; spells = refl }
none want.other_stmts h = other_stmts-none
none want.items h = record { value = record { items = []; all = refl }; spells = refl }
none want.other_items h = other_items-none
none want.index h = index-none
none want.via h = record { value = None; spells = refl }
none want.via_key h = record { value = None; spells = refl }
none want.decls h = record { value = record { items = []; all = refl }; spells = refl }
none want.more_names h = record { value = []; spells = refl }
none want.more_typed h = record { value = []; spells = refl }
none want.ports h = record { value = []; spells = refl }
none want.states h = record { value = record { items = []; all = refl }; spells = refl }
none (want.phase which) h = phase-none which
none _ h = cc

-- each step is sound
pub sound : (a : Want) (t : Tok) → Sound (λ u. Meets a (t ∷ u)) (Meets a []) (step a t)
sound (want.word which) t = takes-sound (λ u. Meets (want.word which) (t ∷ u)) (Meets (want.word which) []) (go_if (is_key which t) []) (word-takes which t)
sound (want.mark which) t = takes-sound (λ u. Meets (want.mark which) (t ∷ u)) (Meets (want.mark which) []) (go_if (is_sign which t) []) (mark-takes which t)
sound want.name t = takes-sound (λ u. Meets want.name (t ∷ u)) (Meets want.name []) (name_step t) (name-takes t)
sound want.ty t = takes-sound (λ u. Meets want.ty (t ∷ u)) (Meets want.ty []) (type_step t) (type-takes t)
sound want.expr t = takes-sound (λ u. Meets want.expr (t ∷ u)) (Meets want.expr []) (expr_step t) (expr-takes t)
sound want.negation t = optional-sound (λ u. Meets want.negation (t ∷ u)) (Meets want.negation []) (negation_step t) (negation-takes t) (none want.negation refl)
sound want.minus t = optional-sound (λ u. Meets want.minus (t ∷ u)) (Meets want.minus []) (minus_step t) (minus-takes t) (none want.minus refl)
sound want.prim t = takes-sound (λ u. Meets want.prim (t ∷ u)) (Meets want.prim []) (prim_step t) (prim-takes t)
sound want.suffix t = takes-sound (λ u. Meets want.suffix (t ∷ u)) (Meets want.suffix []) (suffix_step t) (suffix-takes t)
sound want.suffixes t = suffixes-sound t
sound want.factors t = factors-sound t
sound want.terms t = terms-sound t
sound want.comparison t = optional-sound (λ u. Meets want.comparison (t ∷ u)) (Meets want.comparison []) (comparison_step t) (comparison-takes t) (none want.comparison refl)
sound want.conjuncts t = conjuncts-sound t
sound want.disjuncts t = disjuncts-sound t
sound want.fallback t = optional-sound (λ u. Meets want.fallback (t ∷ u)) (Meets want.fallback []) (fallback_step t) (fallback-takes t) (none want.fallback refl)
sound want.after_name t = optional-sound (λ u. Meets want.after_name (t ∷ u)) (Meets want.after_name []) (after_name_step t) (after_name-takes t) after_name-none
sound want.args_rest t = takes-sound (λ u. Meets want.args_rest (t ∷ u)) (Meets want.args_rest []) (args_rest_step t) (args_rest-takes t)
sound want.more_exprs t = more_exprs-sound t
sound want.more_fields t = more_fields-sound t
sound want.row_rest t = takes-sound (λ u. Meets want.row_rest (t ∷ u)) (Meets want.row_rest []) (row_rest_step t) (row_rest-takes t)
sound want.test t = optional-sound (λ u. Meets want.test (t ∷ u)) (Meets want.test []) (test_step t) (test-takes t) (none want.test refl)
sound want.else_rest t = takes-sound (λ u. Meets want.else_rest (t ∷ u)) (Meets want.else_rest []) (else_rest_step t) (else_rest-takes t)
sound want.stmt t = takes-sound (λ u. Meets want.stmt (t ∷ u)) (Meets want.stmt []) (stmt_step t) (stmt-takes t)
sound want.stmts t = stmts-sound t
sound want.other_stmts t = optional-sound (λ u. Meets want.other_stmts (t ∷ u)) (Meets want.other_stmts []) (else_step want.else_stmts t) (other_stmts-takes t) other_stmts-none
sound want.else_stmts t = takes-sound (λ u. Meets want.else_stmts (t ∷ u)) (Meets want.else_stmts []) (else_block_step want.stmts want.other_stmts t) (else_stmts-takes t)
sound want.item t = takes-sound (λ u. Meets want.item (t ∷ u)) (Meets want.item []) (item_step t) (item-takes t)
sound want.items t = items-sound t
sound want.other_items t = optional-sound (λ u. Meets want.other_items (t ∷ u)) (Meets want.other_items []) (else_step want.else_items t) (other_items-takes t) other_items-none
sound want.else_items t = takes-sound (λ u. Meets want.else_items (t ∷ u)) (Meets want.else_items []) (else_block_step want.items want.other_items t) (else_items-takes t)
sound want.index t = optional-sound (λ u. Meets want.index (t ∷ u)) (Meets want.index []) (index_step t) (index-takes t) index-none
sound want.entry_mark t = takes-sound (λ u. Meets want.entry_mark (t ∷ u)) (Meets want.entry_mark []) (entry_mark_step t) (entry_mark-takes t)
sound want.end t = takes-sound (λ u. Meets want.end (t ∷ u)) (Meets want.end []) (end_step t) (end-takes t)
sound want.via t = optional-sound (λ u. Meets want.via (t ∷ u)) (Meets want.via []) (via_step t) (via-takes t) (none want.via refl)
sound want.via_key t = optional-sound (λ u. Meets want.via_key (t ∷ u)) (Meets want.via_key []) (via_key_step t) (via_key-takes t) (none want.via_key refl)
sound want.decl t = takes-sound (λ u. Meets want.decl (t ∷ u)) (Meets want.decl []) (decl_step t) (decl-takes t)
sound want.decls t = decls-sound t
sound want.more_names t = more_names-sound t
sound want.more_typed t = more_typed-sound t
sound want.params_rest t = takes-sound (λ u. Meets want.params_rest (t ∷ u)) (Meets want.params_rest []) (params_rest_step t) (params_rest-takes t)
sound want.port t = takes-sound (λ u. Meets want.port (t ∷ u)) (Meets want.port []) (port_step t) (port-takes t)
sound want.ports t = ports-sound t
sound want.state t = takes-sound (λ u. Meets want.state (t ∷ u)) (Meets want.state []) (state_step t) (state-takes t)
sound want.states t = states-sound t
sound (want.phase which) t = optional-sound (λ u. Meets (want.phase which) (t ∷ u)) (Meets (want.phase which) []) (go_if (is_key which t) (block want.stmts)) (phase-takes which t) (phase-none which)

-- a value that meets a want, spelled by lawful tokens
pub record Filled (a : Want) : Type 0 where
  pub value : Value a
  pub lawful : All IsToken (spelled a value)

pub record AllFilled (wants : Wants) : Type 0 where
  pub values : Values wants
  pub lawful : All IsToken (spells wants values)

pub none-filled : AllFilled []
none-filled = record { values = tt; lawful = All-nil IsToken }

pub more-filled : {a : Want} {wants : Wants} → Filled a → AllFilled wants → AllFilled (a ∷ wants)
more-filled {a} {wants} own rest = record { values = (own.value, rest.values); lawful = All-append IsToken (spelled a own.value) (spells wants rest.values) own.lawful rest.lawful }

ended : (a : Want) → may_end a ≡ true → Filled a
ended a h = let own = none a h in record { value = own.value; lawful = subst (All IsToken) (sym own.spells) (All-nil IsToken) }

-- a want is met by a token and what meets the wants behind it
taken : (a : Want) (t : Tok) → IsToken t → (wants : Wants) → ((vs : Values wants) → Meets a (t ∷ spells wants vs)) → AllFilled wants → Filled a
taken a t h wants make rest =
    let own = make rest.values in
    record { value = own.value; lawful = subst (All IsToken) (sym own.spells) (All-cons IsToken t (spells wants rest.values) h rest.lawful) }

word-filled : (which : Key) → Filled (want.word which)
word-filled which = record { value = tt; lawful = All-cons IsToken (tok.Key which) [] tt (All-nil IsToken) }

mark-filled : (which : Sign) → Filled (want.mark which)
mark-filled which = record { value = tt; lawful = All-cons IsToken (tok.Sign which) [] tt (All-nil IsToken) }

-- the identifier `a`
a-lawful : IsIdentifier (97 ∷ [])
a-lawful = record { word = refl; free = refl }

name-filled : Filled want.name
name-filled = record { value = named (97 ∷ []); lawful = All-cons IsToken (tok.Ident (97 ∷ [])) [] a-lawful (All-nil IsToken) }

type-filled : Filled want.ty
type-filled = taken want.ty (tok.Key key.Int) tt [] (type-takes (tok.Key key.Int)) none-filled

expr-filled : Filled want.expr
expr-filled = taken want.expr (tok.Int 0) (omega arith) _ (expr-takes (tok.Int 0))
    (more-filled (ended want.suffixes refl) (more-filled (ended want.factors refl) (more-filled (ended want.terms refl) (more-filled (ended want.comparison refl)
    (more-filled (ended want.conjuncts refl) (more-filled (ended want.disjuncts refl) (more-filled (ended want.fallback refl) none-filled)))))))

row_rest-filled : Filled want.row_rest
row_rest-filled = taken want.row_rest (tok.Int 0) (omega arith) _ (row_rest-takes (tok.Int 0))
    (more-filled (ended want.suffixes refl) (more-filled (ended want.factors refl) (more-filled (ended want.terms refl) (more-filled (ended want.comparison refl)
    (more-filled (ended want.conjuncts refl) (more-filled (ended want.disjuncts refl) (more-filled (ended want.fallback refl)
    (more-filled (ended want.more_exprs refl) (more-filled (mark-filled sign.CloseBracket) none-filled)))))))))

args_rest-filled : Filled want.args_rest
args_rest-filled = taken want.args_rest (tok.Sign sign.CloseParen) tt [] (args_rest-takes (tok.Sign sign.CloseParen)) none-filled

-- a name and what follows it
set-filled : AllFilled (want.mark sign.Equal ∷ want.expr ∷ want.mark sign.Semicolon ∷ [])
set-filled = more-filled (mark-filled sign.Equal) (more-filled expr-filled (more-filled (mark-filled sign.Semicolon) none-filled))

-- each want can be met
pub filled : (a : Want) → Filled a
filled (want.word which) = word-filled which
filled (want.mark which) = mark-filled which
filled want.name = name-filled
filled want.ty = type-filled
filled want.expr = expr-filled
filled want.prim = taken want.prim (tok.Int 0) (omega arith) [] (prim-takes (tok.Int 0)) none-filled
filled want.suffix = taken want.suffix (tok.Sign sign.Bang) tt [] (suffix-takes (tok.Sign sign.Bang)) none-filled
filled want.args_rest = args_rest-filled
filled want.row_rest = row_rest-filled
filled want.else_rest =
    taken want.else_rest (tok.Sign sign.OpenBrace) tt _ (else_rest-takes (tok.Sign sign.OpenBrace)) (more-filled expr-filled (more-filled (mark-filled sign.CloseBrace) none-filled))
filled want.stmt = taken want.stmt (tok.Ident (97 ∷ [])) a-lawful _ (stmt-takes (tok.Ident (97 ∷ []))) set-filled
filled want.else_stmts =
    taken want.else_stmts (tok.Sign sign.OpenBrace) tt _ (else_stmts-takes (tok.Sign sign.OpenBrace)) (more-filled (ended want.stmts refl) (more-filled (mark-filled sign.CloseBrace) none-filled))
filled want.item = taken want.item (tok.Key key.Let) tt _ (item-takes (tok.Key key.Let)) (more-filled name-filled set-filled)
filled want.else_items =
    taken want.else_items (tok.Sign sign.OpenBrace) tt _ (else_items-takes (tok.Sign sign.OpenBrace)) (more-filled (ended want.items refl) (more-filled (mark-filled sign.CloseBrace) none-filled))
filled want.entry_mark = taken want.entry_mark (tok.Key key.Is) tt [] (entry_mark-takes (tok.Key key.Is)) none-filled
filled want.end = taken want.end (tok.Key key.Net) tt _ (end-takes (tok.Key key.Net)) (more-filled (mark-filled sign.Dot) (more-filled name-filled none-filled))
filled want.decl =
    taken want.decl (tok.Key key.Top) tt _ (decl-takes (tok.Key key.Top))
    (more-filled name-filled (more-filled (mark-filled sign.OpenParen) (more-filled args_rest-filled (more-filled (mark-filled sign.Semicolon) none-filled))))
filled want.params_rest = taken want.params_rest (tok.Sign sign.CloseParen) tt [] (params_rest-takes (tok.Sign sign.CloseParen)) none-filled
filled want.port =
    taken want.port (tok.Key key.In) tt _ (port-takes (tok.Key key.In))
    (more-filled name-filled (more-filled (mark-filled sign.Colon) (more-filled type-filled (more-filled (mark-filled sign.Semicolon) none-filled))))
filled want.state =
    taken want.state (tok.Key key.State) tt _ (state-takes (tok.Key key.State)) (more-filled name-filled (more-filled (mark-filled sign.Colon) (more-filled type-filled set-filled)))
filled a = ended a refl

-- and so can several
pub all-filled : (wants : Wants) → AllFilled wants
all-filled [] = none-filled
all-filled (a ∷ wants) = more-filled (filled a) (all-filled wants)
