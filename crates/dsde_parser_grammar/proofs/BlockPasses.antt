-- Blocks and choices pass, of statements and of items alike.
use Rattle.std.proofs.Common.{◌≡◌, ℕ, ◌+◌, Bool, true, List, [], ◌∷◌, ◌++◌, refl}
use Rattle.std.specs.Prelude.{flat_map}
use Rattle.dsde_syntax.specs.declared.token.Tok.TheVariants as tok
use Rattle.dsde_words.specs.declared.key.Key.TheVariants as key
use Rattle.dsde_syntax.specs.declared.token.Sign.TheVariants as sign
use Rattle.dsde_syntax.specs.declared.id.Id.{Id}
use Rattle.dsde_syntax.specs.declared.expr.Expr.{Expr}
use Rattle.dsde_syntax.specs.Grammar.{Tokens, word, mark, joined, elses, else_block, set_tokens, for_tokens, if_tokens}
use Rattle.dsde_syntax.specs.Grammar.{block as block_tokens}
use Rattle.dsde_syntax.specs.Levels.{is_expr}
use Rattle.dsde_parser_grammar.proofs.ExprReaders.{is_if}
use Rattle.dsde_parser_grammar.proofs.StmtReads.{no_else, first-arm}
use Rattle.dsde_parser_grammar.specs.Want.{Want}
use Rattle.dsde_parser_grammar.specs.Want as want
use Rattle.dsde_parser_grammar.specs.Steps.{Wants, stop, set, block}
use Rattle.dsde_parser_grammar.proofs.Leading.{any, Leads, AllLead, AllFrom, nothing, take, takes, closed, pair, beside, fewer, turned, passed, ended, several, alternated}
use Rattle.dsde_parser_grammar.proofs.ExprPasses.{whole_expr}

-- id "=" expr ";"
pub set-passes : (name : Id) (value : Expr) → is_expr value ≡ true → (wants : Wants) → Leads any (set ++ wants) wants (set_tokens name value)
set-passes name value h wants =
    takes (tok.Ident name.name ∷ tok.Sign sign.Equal ∷ [])
    (closed (tok.Sign sign.Semicolon) (beside (whole_expr value h).passes (want.mark sign.Semicolon ∷ wants)) (λ rest. refl) (λ more at rest. refl))
    (λ more at rest. refl)

-- {part} "}"
pub block_rest-passes : (inner : Want) (wants : Wants) (ts : List Tokens) → AllLead no_else (inner ∷ []) ts → ((more : Wants) (at : ℕ) (rest : Tokens) → stop (inner ∷ want.mark sign.CloseBrace ∷ more) at (tok.Sign sign.CloseBrace ∷ rest) ≡ stop more (at + 1) rest) → Leads any (inner ∷ want.mark sign.CloseBrace ∷ wants) wants (joined ts ++ mark sign.CloseBrace)
block_rest-passes inner wants ts all ends =
    closed (tok.Sign sign.CloseBrace) (beside (several no_else (inner ∷ []) ts all) (want.mark sign.CloseBrace ∷ wants)) (λ rest. refl) (λ more at rest. ends (wants ++ more) at rest)

-- "{" {part} "}"
pub block-passes : (inner : Want) (wants : Wants) (ts : List Tokens) → AllLead no_else (inner ∷ []) ts → ((more : Wants) (at : ℕ) (rest : Tokens) → stop (inner ∷ want.mark sign.CloseBrace ∷ more) at (tok.Sign sign.CloseBrace ∷ rest) ≡ stop more (at + 1) rest) → Leads any (block inner ++ wants) wants (block_tokens ts)
block-passes inner wants ts all ends = take (tok.Sign sign.OpenBrace) (block_rest-passes inner wants ts all ends) (λ more at rest. refl)

-- behind the "else" of a choice, "if" expr block and then what else there may be
pub arm-passes : (inner others behind : Want) (cond : Expr) → is_expr cond ≡ true → (ts : List Tokens) → AllLead no_else (inner ∷ []) ts → ((more : Wants) (at : ℕ) (rest : Tokens) → stop (inner ∷ want.mark sign.CloseBrace ∷ more) at (tok.Sign sign.CloseBrace ∷ rest) ≡ stop more (at + 1) rest) → ((more : Wants) (at : ℕ) (rest : Tokens) → stop (behind ∷ more) at (tok.Key key.If ∷ rest) ≡ stop (want.expr ∷ (block inner ++ others ∷ more)) (at + 1) rest) → Leads any (behind ∷ []) (others ∷ []) (if_tokens cond ++ block_tokens ts)
arm-passes inner others behind cond h ts all ends turn =
    take (tok.Key key.If) (pair (beside (whole_expr cond h).passes (block inner ++ others ∷ [])) (block-passes inner (others ∷ []) ts all ends) (λ rest h. refl)) turn

-- "for" id "in" expr block
pub loop-passes : (inner : Want) (name : Id) (list : Expr) → is_expr list ≡ true → (ts : List Tokens) → AllLead no_else (inner ∷ []) ts → ((more : Wants) (at : ℕ) (rest : Tokens) → stop (inner ∷ want.mark sign.CloseBrace ∷ more) at (tok.Sign sign.CloseBrace ∷ rest) ≡ stop more (at + 1) rest) → ((more : Wants) (at : ℕ) (rest : Tokens) → stop (inner ∷ more) at (tok.Key key.For ∷ rest) ≡ stop (want.name ∷ want.word key.In ∷ want.expr ∷ (block inner ++ inner ∷ more)) (at + 1) rest) → Leads any (inner ∷ []) (inner ∷ []) (for_tokens name list ++ block_tokens ts)
loop-passes inner name list h ts all ends turn =
    takes (tok.Key key.For ∷ tok.Ident name.name ∷ tok.Key key.In ∷ [])
    (pair (beside (whole_expr list h).passes (block inner ++ inner ∷ [])) (block-passes inner (inner ∷ []) ts all ends) (λ rest h. refl))
    (λ more at rest. turn more at (tok.Ident name.name ∷ tok.Key key.In ∷ rest))

-- a choice begins as what stands behind "else"
chosen : (inner behind : Want) {fit : Tokens → Bool} → ((more : Wants) (at : ℕ) (ts : Tokens) → is_if ts ≡ true → stop (inner ∷ more) at ts ≡ stop (behind ∷ inner ∷ more) at ts) → (t m1 m2 : Tokens) → ((rest : Tokens) → is_if (t ++ rest) ≡ true) → Leads fit (behind ∷ []) [] ((t ++ m1) ++ m2) → Leads fit (inner ∷ []) (inner ∷ []) ((t ++ m1) ++ m2)
chosen inner behind turn t m1 m2 begins own =
    turned (beside own (inner ∷ [])) (λ more at rest fits. turn more at _ (first-arm t begins m1 m2 rest))

-- a choice with no last block
pub choice_none-passes : (inner others behind : Want) → ((more : Wants) (at : ℕ) (rest : Tokens) → stop (others ∷ more) at (tok.Key key.Else ∷ rest) ≡ stop (behind ∷ more) (at + 1) rest) → ((rest : Tokens) → no_else rest ≡ true → passed others rest ≡ true) → ((more : Wants) (at : ℕ) (ts : Tokens) → is_if ts ≡ true → stop (inner ∷ more) at ts ≡ stop (behind ∷ inner ∷ more) at ts) → (t : Tokens) (ts : List Tokens) → ((rest : Tokens) → is_if (t ++ rest) ≡ true) → AllFrom (behind ∷ []) (others ∷ []) (t ∷ ts) → Leads no_else (inner ∷ []) (inner ∷ []) (elses (t ∷ ts) ++ [])
choice_none-passes inner others behind turn over turn_if t ts begins all =
    let arms = alternated (behind ∷ []) (others ∷ []) (tok.Key key.Else) turn t ts all in
    let none : Leads no_else (others ∷ []) [] [] = ended no_else others (nothing (others ∷ [])) (λ rest h. refl) over in
    chosen inner behind turn_if t (flat_map (λ own. word key.Else ++ own) ts) [] begins (pair arms none (λ rest h. refl))

-- a choice with a last block
pub choice_some-passes : (inner others behind : Want) → ((more : Wants) (at : ℕ) (rest : Tokens) → stop (others ∷ more) at (tok.Key key.Else ∷ rest) ≡ stop (behind ∷ more) (at + 1) rest) → ((more : Wants) (at : ℕ) (rest : Tokens) → stop (behind ∷ more) at (tok.Sign sign.OpenBrace ∷ rest) ≡ stop (inner ∷ want.mark sign.CloseBrace ∷ more) (at + 1) rest) → ((more : Wants) (at : ℕ) (ts : Tokens) → is_if ts ≡ true → stop (inner ∷ more) at ts ≡ stop (behind ∷ inner ∷ more) at ts) → ((more : Wants) (at : ℕ) (rest : Tokens) → stop (inner ∷ want.mark sign.CloseBrace ∷ more) at (tok.Sign sign.CloseBrace ∷ rest) ≡ stop more (at + 1) rest) → (t : Tokens) (ts : List Tokens) → ((rest : Tokens) → is_if (t ++ rest) ≡ true) → AllFrom (behind ∷ []) (others ∷ []) (t ∷ ts) → (us : List Tokens) → AllLead no_else (inner ∷ []) us → Leads no_else (inner ∷ []) (inner ∷ []) (elses (t ∷ ts) ++ else_block us)
choice_some-passes inner others behind turn opens turn_if ends t ts begins all us own =
    let arms = alternated (behind ∷ []) (others ∷ []) (tok.Key key.Else) turn t ts all in
    let last : Leads any (others ∷ []) [] (else_block us) = take {mid = behind ∷ []} (tok.Key key.Else) (take (tok.Sign sign.OpenBrace) (block_rest-passes inner [] us own ends) opens) turn in
    fewer no_else (λ rest h. refl) (chosen inner behind turn_if t (flat_map (λ own. word key.Else ++ own) ts) (else_block us) begins (pair arms last (λ rest h. refl)))
