-- Places in the parts of a model can be laid anew, so that each is the index of its token.
use Rattle.std.proofs.Common.{◌≡◌, ℕ, ◌+◌, Bool, true, List, [], ◌∷◌, ◌++◌, length, map, Option, Some, None, refl, sym, ap, subst, ◌∙◌, arith, length-append}
use Rattle.std.specs.Prelude.{option_and_then, flat_map, ◌==◌}
use Rattle.std.specs.List.{join_by, list_all}
use Rattle.std.proofs.lemmas.List.Folds.{list_all-map}
use Rattle.std.proofs.lemmas.Bool.Decides.{Decides-eqb}
use Rattle.dsde_syntax.specs.declared.token.Tok.{Tok}
use Rattle.dsde_syntax.specs.declared.id.Id.{Id}
use Rattle.dsde_syntax.specs.Grammar.{Tokens, id_tokens, optional}
use Rattle.dsde_syntax.specs.Levels.{has_first, all_hold, if_written}
use Rattle.dsde_syntax.specs.Places.{Span, ◌>>◌, token, token_at, begins_at, id_span, all_spans, spans_with, bracketed, written_span}

-- At each index a part with the same tokens, of the same kind, has its places from there on.
pub record Lays {A K : Type 0} (tokens : A → Tokens) (kind : A → K) (span : A → Span) (own : A) : Type 0 where
  pub lay : ℕ → A
  pub spells : (at : ℕ) → tokens (lay at) ≡ tokens own
  pub stands : (at : ℕ) → kind (lay at) ≡ kind own
  pub right : (at : ℕ) → span (lay at) at ≡ Some (at + length (tokens own))

-- what is made of a part
pub made : {A K B L : Type 0} {ta : A → Tokens} {ka : A → K} {sa : A → Span} {own : A} (tb : B → Tokens) (kb : B → L) (sb : B → Span) → Lays ta ka sa own → (f : A → B) (g : K → L) → ((v : A) → tb (f v) ≡ ta v) → ((v : A) → kb (f v) ≡ g (ka v)) → ((v : A) (at : ℕ) → sb (f v) at ≡ sa v at) → Lays tb kb sb (f own)
made {own = own} tb kb sb laid f g spells stands right = record {
  lay = λ at. f (laid.lay at);
  spells = λ at. spells (laid.lay at) ∙ (laid.spells at ∙ sym (spells own));
  stands = λ at. stands (laid.lay at) ∙ (ap g (laid.stands at) ∙ sym (stands own));
  right = λ at. right (laid.lay at) at ∙ (laid.right at ∙ ap (λ t. Some (at + length t)) (sym (spells own)));
}

plus-zero : (at : ℕ) → at ≡ at + 0
plus-zero at = omega arith

-- what has no tokens
pub nothing : Lays (λ (v : Unit {0}). let none : Tokens = [] in none) (λ v. v) (λ v. let none : Span = Some in none) tt
nothing = record { lay = λ at. tt; spells = λ at. refl; stands = λ at. refl; right = λ at. ap Some (plus-zero at) }

-- a token that has no place
pub skip : (t : Tok) → Lays (λ (v : Unit {0}). t ∷ []) (λ v. v) (λ v. token) tt
skip t = record { lay = λ at. tt; spells = λ at. refl; stands = λ at. refl; right = λ at. refl }

begins : (at : ℕ) → begins_at at at ≡ Some at
begins at = let same : (at == at) ≡ true = (Decides-eqb at at).1 refl in rw same refl

-- a token and its place
pub place : (t : Tok) (own : ℕ) → Lays (λ (at : ℕ). t ∷ []) (λ at. tt {0}) token_at own
place t own = record { lay = λ at. at; spells = λ at. refl; stands = λ at. refl; right = λ at. ap (option_and_then token) (begins at) }

-- the place of the token that comes next
pub here : (own : ℕ) → Lays (λ (at : ℕ). let none : Tokens = [] in none) (λ at. tt {0}) begins_at own
here own = record { lay = λ at. at; spells = λ at. refl; stands = λ at. refl; right = λ at. begins at ∙ ap Some (plus-zero at) }

pub ident : (id : Id) → Lays id_tokens (λ id. tt {0}) id_span id
ident id = record {
  lay = λ at. record { name = id.name; at = at };
  spells = λ at. refl;
  stands = λ at. refl;
  right = λ at. ap (option_and_then token) (begins at);
}

-- a part behind another
pub both : {A B K L : Type 0} {ta : A → Tokens} {ka : A → K} {sa : A → Span} {tb : B → Tokens} {kb : B → L} {sb : B → Span} {a : A} {b : B} → Lays ta ka sa a → Lays tb kb sb b → Lays (λ (v : A × B). ta v.0 ++ tb v.1) (λ (v : A × B). let k : K × L = (ka v.0, kb v.1) in k) (λ (v : A × B). sa v.0 >> sb v.1) (a, b)
both {A} {B} {K} {L} {ta = ta} {ka = ka} {sa = sa} {tb = tb} {kb = kb} {sb = sb} {a = a} {b = b} left right = record {
  lay = λ at. (left.lay at, right.lay (at + length (ta a)));
  spells = λ at. let l = left.spells at in let r = right.spells (at + length (ta a)) in ap (λ t. t ++ tb (right.lay (at + length (ta a)))) l ∙ ap (λ t. ta a ++ t) r;
  stands = λ at. let l = left.stands at in let r = right.stands (at + length (ta a)) in cc;
  right = λ at.
      let sum : at + length (ta a) + length (tb b) ≡ at + length (ta a ++ tb b) = omega (arith, length-append (ta a) (tb b)) in
      ap (option_and_then (sb (right.lay (at + length (ta a))))) (left.right at) ∙ (right.right (at + length (ta a)) ∙ ap Some sum);
}

-- a part behind a token, and one in brackets
pub behind : {A K : Type 0} {t : A → Tokens} {k : A → K} {s : A → Span} {own : A} (first : Tok) → Lays t k s own → Lays (λ v. (first ∷ []) ++ t v) k (λ v. token >> s v) own
behind {A} {K} {t} {k} {s} first laid = made (λ v. (first ∷ []) ++ t v) k (λ v. token >> s v) (both (skip first) laid) (λ v. v.1) (λ v. v.1) (λ v. refl) (λ v. refl) (λ v at. refl)

pub before : {A K : Type 0} {t : A → Tokens} {k : A → K} {s : A → Span} {own : A} → Lays t k s own → (last : Tok) → Lays (λ v. t v ++ (last ∷ [])) k (λ v. s v >> token) own
before {A} {K} {t} {k} {s} laid last = made (λ v. t v ++ (last ∷ [])) k (λ v. s v >> token) (both laid (skip last)) (λ v. v.0) (λ v. v.0) (λ v. refl) (λ v. refl) (λ v at. refl)

pub within : {A K : Type 0} {t : A → Tokens} {k : A → K} {s : A → Span} {own : A} (first last : Tok) → Lays t k s own → Lays (λ v. ((first ∷ []) ++ t v) ++ (last ∷ [])) k (λ v. bracketed (s v)) own
within first last laid = before (behind first laid) last

-- parts one behind another
pub each : {A C K : Type 0} (around : Tokens → Tokens) (t : A → Tokens) (k : A → K) (s : A → Span) (value : C → A) → ((c : C) → Lays (λ v. around (t v)) k s (value c)) → (list : List C) → Lays (λ vs. flat_map around (map t vs)) (map k) (λ vs. all_spans (map s vs)) (map value list)
each {A} {C} {K} around t k s value own [] = made (λ vs. flat_map around (map t vs)) (map k) (λ vs. all_spans (map s vs)) nothing (λ v. []) (λ v. []) (λ v. refl) (λ v. refl) (λ v at. refl)
each {A} {C} {K} around t k s value own (c ∷ list) =
    made (λ vs. flat_map around (map t vs)) (map k) (λ vs. all_spans (map s vs)) (both (own c) (each around t k s value own list)) (λ v. v.0 ∷ v.1) (λ v. v.0 ∷ v.1) (λ v. refl) (λ v. refl) (λ v at. refl)

-- parts of which each stands behind a token
more : {A C K : Type 0} (sep : Tok) (t : A → Tokens) (k : A → K) (s : A → Span) (value : C → A) → ((c : C) → Lays t k s (value c)) → (list : List C) → Lays (λ vs. flat_map (λ own. (sep ∷ []) ++ own) (map t vs)) (map k) (λ vs. all_spans (map (λ next. token >> next) (map s vs))) (map value list)
more {A} {C} {K} sep t k s value own [] = made (λ vs. flat_map (λ own. (sep ∷ []) ++ own) (map t vs)) (map k) (λ vs. all_spans (map (λ next. token >> next) (map s vs))) nothing (λ v. []) (λ v. []) (λ v. refl) (λ v. refl) (λ v at. refl)
more {A} {C} {K} sep t k s value own (c ∷ list) =
    made (λ vs. flat_map (λ own. (sep ∷ []) ++ own) (map t vs)) (map k) (λ vs. all_spans (map (λ next. token >> next) (map s vs))) (both (behind sep (own c)) (more sep t k s value own list)) (λ v. v.0 ∷ v.1) (λ v. v.0 ∷ v.1) (λ v. refl) (λ v. refl) (λ v at. refl)

-- parts with a token between each two
pub separated : {A C K : Type 0} (sep : Tok) (t : A → Tokens) (k : A → K) (s : A → Span) (value : C → A) → ((c : C) → Lays t k s (value c)) → (list : List C) → Lays (λ vs. join_by (λ part. part) (sep ∷ []) (map t vs)) (map k) (λ vs. spans_with token (map s vs)) (map value list)
separated {A} {C} {K} sep t k s value own [] = made (λ vs. join_by (λ part. part) (sep ∷ []) (map t vs)) (map k) (λ vs. spans_with token (map s vs)) nothing (λ v. []) (λ v. []) (λ v. refl) (λ v. refl) (λ v at. refl)
separated {A} {C} {K} sep t k s value own (c ∷ list) =
    made (λ vs. join_by (λ part. part) (sep ∷ []) (map t vs)) (map k) (λ vs. spans_with token (map s vs)) (both (own c) (more sep t k s value own list)) (λ v. v.0 ∷ v.1) (λ v. v.0 ∷ v.1) (λ v. refl) (λ v. refl) (λ v at. refl)

-- a list whose parts can all be laid
map-same : {A : Type 0} (list : List A) → map (λ v. v) list ≡ list
map-same [] = refl
map-same (v ∷ list) = ap (λ rest. v ∷ rest) (map-same list)

pub each_of : {A K : Type 0} (t : A → Tokens) (k : A → K) (s : A → Span) → ((v : A) → Lays t k s v) → (list : List A) → Lays (λ vs. flat_map (λ part. part) (map t vs)) (map k) (λ vs. all_spans (map s vs)) list
each_of t k s own list =
    subst (λ vs. Lays (λ vs. flat_map (λ part. part) (map t vs)) (map k) (λ vs. all_spans (map s vs)) vs) (map-same list) (each (λ part. part) t k s (λ v. v) own list)

pub separated_of : {A K : Type 0} (sep : Tok) (t : A → Tokens) (k : A → K) (s : A → Span) → ((v : A) → Lays t k s v) → (list : List A) → Lays (λ vs. join_by (λ part. part) (sep ∷ []) (map t vs)) (map k) (λ vs. spans_with token (map s vs)) list
separated_of sep t k s own list =
    subst (λ vs. Lays (λ vs. join_by (λ part. part) (sep ∷ []) (map t vs)) (map k) (λ vs. spans_with token (map s vs)) vs) (map-same list) (separated sep t k s (λ v. v) own list)

-- a part that may be left out
pub written : {A : Type 0} (t : A → Tokens) (k : A → Bool) (s : A → Span) → ((v : A) → Lays t k s v) → (part : Option A) → Lays (optional t) (if_written k) (written_span s) part
written t k s own None = made (optional t) (if_written k) (written_span s) nothing (λ v. None) (λ v. true) (λ v. refl) (λ v. refl) (λ v at. refl)
written t k s own (Some v) = made (optional t) (if_written k) (written_span s) (own v) (λ v. Some v) (λ v. v) (λ v. refl) (λ v. refl) (λ v at. refl)

-- a test of all parts, by the tests that were made of each
pub all_held : {A : Type 0} (test : A → Bool) (list : List A) → list_all test list ≡ all_hold (map test list)
all_held test list = sym (list_all-map (λ holds. holds) test list)

pub has_first-map : {A B : Type 0} (f : A → B) (list : List A) → has_first list ≡ has_first (map f list)
has_first-map f [] = refl
has_first-map f (v ∷ list) = refl
