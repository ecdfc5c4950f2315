-- The reader of types reads each type.
use Rattle.std.proofs.Common.{◌≡◌, ℕ, zero, suc, ◌≤◌, Bool, true, [], ◌∷◌, ◌++◌, Some, refl, sym, ap, subst, ◌∙◌, arith}
use Rattle.dsde_syntax.specs.declared.token.Tok.{Tok}
use Rattle.dsde_syntax.specs.declared.token.Tok.TheVariants as tok
use Rattle.dsde_words.specs.declared.key.Key.TheVariants as key
use Rattle.dsde_syntax.specs.declared.token.Sign.TheVariants as sign
use Rattle.dsde_syntax.specs.declared.type_name.TypeName.{TypeName}
use Rattle.dsde_syntax.specs.declared.type_name.TypeName.TheOpen.{TypeName-F}
use Rattle.dsde_syntax.specs.declared.type_name.TypeName.TheViews.{roll-TypeName}
use Rattle.dsde_syntax.specs.declared.type_name.TypeName.TheFolds.{map-TypeName, fold-roll-TypeName, ind-TypeName}
use Rattle.dsde_syntax.specs.Grammar.{Tokens, type_step, type_tokens}
use Rattle.dsde_syntax.specs.Places.{Span, ◌>>◌, token, type_span_step, type_span}
use Rattle.dsde_parser_grammar.proofs.Reading.{Reader, Reads, any, pair-Reads, made-Reads, skip-Reads, place-Reads, ident-Reads}
use Rattle.dsde_parser_grammar.proofs.ExprReaders.{TypeForm, type_form, type_branch, read_type, bracketed, an_int, a_bool, a_list, an_opt, named}

-- a part in brackets
pub bracketed-Reads : {A : Type 0} {fit : Tokens → Bool} {p : ℕ → Reader A} {v : A} {t : Tokens} {s : Span} (open_tok close_tok : Tok) → Reads fit p v t s → ((rest : Tokens) → fit (close_tok ∷ rest) ≡ true) → Reads any (λ fuel. bracketed (p fuel)) v (((open_tok ∷ []) ++ t) ++ (close_tok ∷ [])) ((token >> s) >> token)
bracketed-Reads {A} {fit} {p} {v} {t} {s} open_tok close_tok own closes =
    made-Reads (λ v. v.0.1) (pair-Reads (pair-Reads (skip-Reads open_tok) own (λ rest h. refl)) (skip-Reads close_tok) (λ rest h. closes rest))

stepped-gets : {A F : Type 0} {fit : Tokens → Bool} {v : A} {t : Tokens} {s : Span} (reader : ℕ → Reader A) (branches : F → ℕ → Reader A) (form_of : Tokens → F) → ((n at : ℕ) (ts : Tokens) → reader (suc n) at ts ≡ branches (form_of ts) n at ts) → (form : F) → (own : Reads fit (branches form) v t s) → ((rest : Tokens) → fit rest ≡ true → form_of (t ++ rest) ≡ form) → (fuel at end : ℕ) (rest : Tokens) → suc own.least ≤ fuel → s at ≡ Some end → fit rest ≡ true → reader fuel at (t ++ rest) ≡ Some (v, end, rest)
stepped-gets {A} {F} {fit} {v} {t} {s} reader branches form_of steps form own begins zero at end rest enough is fits = absurd (omega arith)
stepped-gets {A} {F} {fit} {v} {t} {s} reader branches form_of steps form own begins (suc n) at end rest enough is fits =
    steps n at (t ++ rest)
    ∙ (ap (λ (own : F). branches own n at (t ++ rest)) (begins rest fits)
    ∙ own.gets n at end rest (omega arith) is fits)

-- a reader that goes by the form of what comes next, with less fuel
pub stepped-Reads : {A F : Type 0} {fit : Tokens → Bool} {v : A} {t : Tokens} {s : Span} (reader : ℕ → Reader A) (branches : F → ℕ → Reader A) (form_of : Tokens → F) → ((n at : ℕ) (ts : Tokens) → reader (suc n) at ts ≡ branches (form_of ts) n at ts) → (form : F) → Reads fit (branches form) v t s → ((rest : Tokens) → fit rest ≡ true → form_of (t ++ rest) ≡ form) → Reads fit reader v t s
stepped-Reads {A} {F} {fit} {v} {t} {s} reader branches form_of steps form own begins =
    record { least = suc own.least; gets = stepped-gets reader branches form_of steps form own begins }

abbrev TypeReads : TypeName → Tokens → Span → Type 0
TypeReads ty t s = Reads any read_type ty t s

abbrev TypeClaim : TypeName → Type 0
TypeClaim ty = TypeReads ty (type_tokens ty) (type_span ty)

form-TypeReads : (form : TypeForm) {ty : TypeName} {t : Tokens} {s : Span} → Reads any (λ n. type_branch form (read_type n)) ty t s → ((rest : Tokens) → type_form (t ++ rest) ≡ form) → TypeReads ty t s
form-TypeReads form own begins =
    stepped-Reads read_type (λ own n. type_branch own (read_type n)) type_form (λ n at ts. refl) form own (λ rest h. begins rest)

type-roll : (x : TypeName-F TypeName) → TypeReads (roll-TypeName x) (type_step (map-TypeName TypeName Tokens type_tokens x)) (type_span_step (map-TypeName TypeName Span type_span x)) → TypeClaim (roll-TypeName x)
type-roll x own =
    let toks = fold-roll-TypeName Tokens type_step x in
    let span = fold-roll-TypeName Span type_span_step x in
    subst (λ (t : Tokens). TypeReads (roll-TypeName x) t (type_span (roll-TypeName x))) (sym toks)
    (subst (λ (s : Span). TypeReads (roll-TypeName x) (type_step (map-TypeName TypeName Tokens type_tokens x)) s) (sym span) own)

type-case : (y : TypeName-F ((ty : TypeName) × TypeClaim ty)) → TypeClaim (roll-TypeName (map-TypeName ((ty : TypeName) × TypeClaim ty) TypeName (λ e. e.0) y))
type-case (TypeName-F.Int at) = type-roll (TypeName-F.Int at) (form-TypeReads an_int (made-Reads (λ at. roll-TypeName (TypeName-F.Int at)) (place-Reads (tok.Key key.Int) at)) (λ rest. refl))
type-case (TypeName-F.Bool at) = type-roll (TypeName-F.Bool at) (form-TypeReads a_bool (made-Reads (λ at. roll-TypeName (TypeName-F.Bool at)) (place-Reads (tok.Key key.Bool) at)) (λ rest. refl))
type-case (TypeName-F.Named id) = type-roll (TypeName-F.Named id) (form-TypeReads named (made-Reads (λ id. roll-TypeName (TypeName-F.Named id)) (ident-Reads id)) (λ rest. refl))
type-case (TypeName-F.List at (part, own)) =
    type-roll (TypeName-F.List at part) (form-TypeReads a_list
    (made-Reads (λ v. roll-TypeName (TypeName-F.List v.0 v.1)) (pair-Reads (place-Reads (tok.Key key.List) at) (bracketed-Reads (tok.Sign sign.Less) (tok.Sign sign.Greater) own (λ rest. refl)) (λ rest h. refl)))
    (λ rest. refl))
type-case (TypeName-F.Opt at (part, own)) =
    type-roll (TypeName-F.Opt at part) (form-TypeReads an_opt
    (made-Reads (λ v. roll-TypeName (TypeName-F.Opt v.0 v.1)) (pair-Reads (place-Reads (tok.Key key.Opt) at) (bracketed-Reads (tok.Sign sign.Less) (tok.Sign sign.Greater) own (λ rest. refl)) (λ rest h. refl)))
    (λ rest. refl))

pub type-Reads : (ty : TypeName) → Reads any read_type ty (type_tokens ty) (type_span ty)
type-Reads = ind-TypeName TypeClaim (λ x y is. subst (λ (z : TypeName-F TypeName). TypeClaim (roll-TypeName z)) is (type-case y))
