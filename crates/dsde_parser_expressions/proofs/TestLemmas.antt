-- The tests of the next token.
use Rattle.std.proofs.Common.{◌≡◌, Bool, true, false, refl, sym, ap, ◌↔◌}
use Rattle.std.specs.Prelude.{IsTrue}
use denote.Enum.Bare.{true_same, false_same}
use Rattle.dsde_words.specs.contracts.key.Key.{the_type as keys}
use Rattle.dsde_syntax.specs.contracts.token.Sign.{the_type as signs}
use Rattle.dsde_words.specs.declared.key.Key.{Key}
use Rattle.dsde_syntax.specs.declared.token.Sign.{Sign}
use Rattle.dsde_syntax.specs.declared.token.Tok.{Tok}
use Rattle.dsde_syntax.specs.declared.token.Tok.TheVariants as tok
use Rattle.dsde_parser_grammar.specs.Steps.{is_key, is_sign}

key-own : (own which : Key) → tok.Key own ≡ tok.Key which → own ≡ which
key-own own which h = cc

sign-own : (own which : Sign) → tok.Sign own ≡ tok.Sign which → own ≡ which
sign-own own which h = cc

-- the test of a reserved word
pub is_key-true : (t : Tok) (which : Key) → t ≡ tok.Key which → is_key which t ≡ true
is_key-true (tok.Key own) which h = true_same keys own which (key-own own which h)
is_key-true (tok.Sign own) which h = cc
is_key-true (tok.Ident name) which h = cc
is_key-true (tok.Int value) which h = cc

pub is_key-false : (t : Tok) (which : Key) → (t ≡ tok.Key which → ⊥) → is_key which t ≡ false
is_key-false (tok.Key own) which h = false_same keys tt own which (λ e. h (ap (λ k. tok.Key k) e))
is_key-false (tok.Sign own) which h = refl
is_key-false (tok.Ident name) which h = refl
is_key-false (tok.Int value) which h = refl

pub is_sign-true : (t : Tok) (which : Sign) → t ≡ tok.Sign which → is_sign which t ≡ true
is_sign-true (tok.Sign own) which h = true_same signs own which (sign-own own which h)
is_sign-true (tok.Key own) which h = cc
is_sign-true (tok.Ident name) which h = cc
is_sign-true (tok.Int value) which h = cc

pub is_sign-false : (t : Tok) (which : Sign) → (t ≡ tok.Sign which → ⊥) → is_sign which t ≡ false
is_sign-false (tok.Sign own) which h = false_same signs tt own which (λ e. h (ap (λ k. tok.Sign k) e))
is_sign-false (tok.Key own) which h = refl
is_sign-false (tok.Ident name) which h = refl
is_sign-false (tok.Int value) which h = refl

pub tests-key : (b : Bool) (t : Tok) (which : Key) → (IsTrue b ↔ (t ≡ tok.Key which)) → b ≡ is_key which t
tests-key true t which h = sym (is_key-true t which (h.0 refl))
tests-key false t which h = sym (is_key-false t which (λ e. no (h.1 e)))
  where
    no : false ≡ true → ⊥
    no e = cc

pub tests-sign : (b : Bool) (t : Tok) (which : Sign) → (IsTrue b ↔ (t ≡ tok.Sign which)) → b ≡ is_sign which t
tests-sign true t which h = sym (is_sign-true t which (h.0 refl))
tests-sign false t which h = sym (is_sign-false t which (λ e. no (h.1 e)))
  where
    no : false ≡ true → ⊥
    no e = cc
