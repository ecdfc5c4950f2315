-- Lists of parts that were read, one part after another.
use Rattle.std.proofs.Common.{◌≡◌, ℕ, ◌+◌, Bool, true, false, ◌&&◌, List, [], ◌∷◌, ◌++◌, length, map, Option, Some, None, Result, Ok, Err, refl, sym, ap, ◌∙◌, arith, append_assoc, append-nil}
use Rattle.std.specs.Prelude.{option_and_then, flat_map}
use Rattle.std.specs.List.{list_all, join_by}
use Rattle.dsde_syntax.specs.declared.token.Tok.{Tok}
use Rattle.dsde_syntax.specs.declared.token.Tok.TheVariants as tok
use Rattle.dsde_words.specs.declared.key.Key.TheVariants as key
use Rattle.dsde_syntax.specs.declared.token.Sign.TheVariants as sign
use Rattle.dsde_syntax.specs.Grammar.{Tokens}
use Rattle.dsde_syntax.specs.Places.{Span, ◌>>◌, token, all_spans, bracketed}
use Rattle.dsde_syntax.specs.Levels.{has_first}
use Rattle.dsde_parser_expressions.specs.declared.parser.ParseError.{ParseError}
use Rattle.dsde_parser_expressions.specs.Took.{Spot, Took, TookAll, TookOne, Reads, Any}
use Rattle.dsde_parser_expressions.specs.Parts.{AllOk, SomeOk, IsOk, joined_by, all_by, commas_by, elses_by, spans_by, any_ok}

joined-push : {A : Type 0} (f : A → Tokens) (xs : List A) (x : A) (rest : Tokens) → joined_by f (xs ++ x ∷ []) ++ rest ≡ joined_by f xs ++ (f x ++ rest)
joined-push f [] x rest = ap (λ (own : Tokens). own ++ rest) (append-nil (f x))
joined-push f (y ∷ ys) x rest =
    append_assoc (f y) (joined_by f (ys ++ x ∷ [])) rest
    ∙ (ap (λ (own : Tokens). f y ++ own) (joined-push f ys x rest)
    ∙ sym (append_assoc (f y) (joined_by f ys) (f x ++ rest)))

and_then-some : (got : Option ℕ) → option_and_then Some got ≡ got
and_then-some None = refl
and_then-some (Some at) = refl

spans-push : {A : Type 0} (g : A → Span) (xs : List A) (x : A) (got : Option ℕ) → option_and_then (all_by g (xs ++ x ∷ [])) got ≡ option_and_then (g x) (option_and_then (all_by g xs) got)
spans-push g [] x None = refl
spans-push g [] x (Some at) = and_then-some (g x at)
spans-push g (y ∷ ys) x None = refl
spans-push g (y ∷ ys) x (Some at) = spans-push g ys x (g y at)

and-true : (a b : Bool) → (a && b) ≡ true → (a ≡ true) × (b ≡ true)
and-true true b h = (refl, h)
and-true false b h = cc

all-push : {A : Type 0} (ok : A → Bool) (xs : List A) (x : A) → list_all ok xs ≡ true → ok x ≡ true → list_all ok (xs ++ x ∷ []) ≡ true
all-push ok [] x all own = rw own refl
all-push ok (y ∷ ys) x all own =
    let both = and-true (ok y) (list_all ok ys) all in
    rw (both.0, all-push ok ys x both.1 own) refl

-- one part more
pub Took-push : {A : Type 0} {f : A → Tokens} {g : A → Span} {ok : A → Bool} {before mid after : Spot} {xs : List A} (x : A) → TookAll (joined_by f) (all_by g) (AllOk ok) before mid xs → Took f g (IsOk ok) mid after x → TookAll (joined_by f) (all_by g) (AllOk ok) before after (xs ++ x ∷ [])
Took-push {A} {f} {g} {ok} {before} {mid} {after} {xs} x has own = record {
  spells = has.spells ∙ (ap (λ (own : Tokens). joined_by f xs ++ own) own.spells ∙ sym (joined-push f xs x after.1));
  placed = spans-push g xs x (Some before.0) ∙ (ap (λ (got : Option ℕ). option_and_then (g x) got) has.placed ∙ own.placed);
  good = all-push ok xs x has.good own.good;
  shorter = omega (arith, has.shorter, own.shorter);
  moved = omega (arith, has.moved, own.moved);
}

-- parts with commas between them

separated_push : {A : Type 0} (f : A → Tokens) (sep : Tok) (xs : List A) (x : A) (rest : Tokens) → flat_map (λ own. (sep ∷ []) ++ own) (map f (xs ++ x ∷ [])) ++ rest ≡ flat_map (λ own. (sep ∷ []) ++ own) (map f xs) ++ (sep ∷ (f x ++ rest))
separated_push f sep [] x rest = ap (λ (own : Tokens). (sep ∷ own) ++ rest) (append-nil (f x))
separated_push f sep (y ∷ ys) x rest =
    let more = flat_map (λ own. (sep ∷ []) ++ own) (map f (ys ++ x ∷ [])) in
    let less = flat_map (λ own. (sep ∷ []) ++ own) (map f ys) in
    ap (λ (own : Tokens). sep ∷ own) (append_assoc (f y) more rest
    ∙ (ap (λ (own : Tokens). f y ++ own) (separated_push f sep ys x rest)
    ∙ sym (append_assoc (f y) less (sep ∷ (f x ++ rest)))))

separated_spans : {A : Type 0} (g : A → Span) (xs : List A) (x : A) (got : Option ℕ) → option_and_then (all_spans (map (λ next. token >> next) (map g (xs ++ x ∷ [])))) got ≡ option_and_then (token >> g x) (option_and_then (all_spans (map (λ next. token >> next) (map g xs))) got)
separated_spans g [] x None = refl
separated_spans g [] x (Some at) = and_then-some (g x (at + 1))
separated_spans g (y ∷ ys) x None = refl
separated_spans g (y ∷ ys) x (Some at) = separated_spans g ys x (g y (at + 1))

abbrev by_separator : {A : Type 0} → Tok → (A → Tokens) → List A → Tokens
by_separator sep f xs = join_by (λ part. part) (sep ∷ []) (map f xs)

-- a separator and one part more
Took-next : {A : Type 0} {f : A → Tokens} {g : A → Span} {ok : A → Bool} {before mid next after : Spot} {xs : List A} (sep : Tok) (x : A) → Took (by_separator sep f) (spans_by g) (SomeOk ok) before mid xs → TookOne sep mid next → Took f g (IsOk ok) next after x → Took (by_separator sep f) (spans_by g) (SomeOk ok) before after (xs ++ x ∷ [])
Took-next {A} {f} {g} {ok} {before} {mid} {next} {after} {xs = []} sep x has one own = absurd (no-first has.good.some)
  where
    no-first : false ≡ true → ⊥
    no-first h = cc
Took-next {A} {f} {g} {ok} {before} {mid} {next} {after} {xs = y ∷ ys} sep x has one own = record {
  spells = has.spells ∙ (append_assoc (f y) (flat_map (λ own. (sep ∷ []) ++ own) (map f ys)) mid.1
      ∙ (ap (λ (own : Tokens). f y ++ (flat_map (λ own. (sep ∷ []) ++ own) (map f ys) ++ own)) (one.comes ∙ ap (λ (own : Tokens). sep ∷ own) own.spells)
      ∙ (ap (λ (own : Tokens). f y ++ own) (sym (separated_push f sep ys x after.1))
      ∙ sym (append_assoc (f y) (flat_map (λ own. (sep ∷ []) ++ own) (map f (ys ++ x ∷ []))) after.1))));
  placed = separated_spans g ys x (g y before.0) ∙ (ap (λ (got : Option ℕ). option_and_then (token >> g x) got) has.placed ∙ (ap (g x) (sym one.next) ∙ own.placed));
  good = record { some = refl; all = all-push ok (y ∷ ys) x has.good.all own.good };
  shorter = omega (arith, has.shorter, own.shorter, ap length one.comes);
  moved = omega (arith, has.moved, one.next, ap length one.comes, own.moved);
}

pub Took-comma : {A : Type 0} {f : A → Tokens} {g : A → Span} {ok : A → Bool} {before mid next after : Spot} {xs : List A} (x : A) → Took (commas_by f) (spans_by g) (SomeOk ok) before mid xs → TookOne (tok.Sign sign.Comma) mid next → Took f g (IsOk ok) next after x → Took (commas_by f) (spans_by g) (SomeOk ok) before after (xs ++ x ∷ [])
Took-comma x has one own = Took-next (tok.Sign sign.Comma) x has one own

pub Took-else : {A : Type 0} {f : A → Tokens} {g : A → Span} {ok : A → Bool} {before mid next after : Spot} {xs : List A} (x : A) → Took (elses_by f) (spans_by g) (SomeOk ok) before mid xs → TookOne (tok.Key key.Else) mid next → Took f g (IsOk ok) next after x → Took (elses_by f) (spans_by g) (SomeOk ok) before after (xs ++ x ∷ [])
Took-else x has one own = Took-next (tok.Key key.Else) x has one own

pub any-Took : {A : Type 0} {f : A → Tokens} {g : A → Span} {before after : Spot} {x : A} → Took f g Any before after x → Took f g (IsOk any_ok) before after x
any-Took own = record { spells = own.spells; placed = own.placed; good = refl; shorter = own.shorter; moved = own.moved }

-- a part and the token behind it
pub Took-closed : {A : Type 0} {f : A → Tokens} {g : A → Span} {Good : A → Type 0} {before mid after : Spot} {x : A} {sep : Tok} → Took f g Good before mid x → TookOne sep mid after → Took (λ own. f own ++ sep ∷ []) (λ own. g own >> token) Good before after x
Took-closed {A} {f} {g} {Good} {before} {mid} {after} {x} {sep} own last = record {
  spells = own.spells ∙ (ap (λ (rest : Tokens). f x ++ rest) last.comes ∙ sym (append_assoc (f x) (sep ∷ []) after.1));
  placed = ap (λ (got : Option ℕ). option_and_then token got) own.placed ∙ ap Some (sym last.next);
  good = own.good;
  shorter = omega (arith, own.shorter, ap length last.comes);
  moved = omega (arith, own.moved, last.next, ap length last.comes);
}

-- parts with a separator behind each, and one more behind them all

separated_first : {A : Type 0} (f : A → Tokens) (sep : Tok) (xs : List A) (x : A) (rest : Tokens) → sep ∷ (by_separator sep f (xs ++ x ∷ []) ++ rest) ≡ flat_map (λ own. (sep ∷ []) ++ own) (map f (xs ++ x ∷ [])) ++ rest
separated_first f sep [] x rest = refl
separated_first f sep (y ∷ ys) x rest = refl

last-spells : {A : Type 0} (f : A → Tokens) (sep : Tok) (xs : List A) (x : A) (rest : Tokens) → joined_by (λ own. f own ++ sep ∷ []) xs ++ (f x ++ rest) ≡ by_separator sep f (xs ++ x ∷ []) ++ rest
last-spells f sep [] x rest = ap (λ (own : Tokens). own ++ rest) (sym (append-nil (f x)))
last-spells f sep (y ∷ ys) x rest =
    append_assoc (f y ++ sep ∷ []) (joined_by (λ own. f own ++ sep ∷ []) ys) (f x ++ rest)
    ∙ (append_assoc (f y) (sep ∷ []) (joined_by (λ own. f own ++ sep ∷ []) ys ++ (f x ++ rest))
    ∙ (ap (λ (own : Tokens). f y ++ own) (ap (λ (own : Tokens). sep ∷ own) (last-spells f sep ys x rest) ∙ separated_first f sep ys x rest)
    ∙ sym (append_assoc (f y) (flat_map (λ own. (sep ∷ []) ++ own) (map f (ys ++ x ∷ []))) rest)))

first-spans : {A : Type 0} (g : A → Span) (xs : List A) (x : A) (got : Option ℕ) → option_and_then (all_spans (map (λ next. token >> next) (map g (xs ++ x ∷ [])))) got ≡ option_and_then (spans_by g (xs ++ x ∷ [])) (option_and_then token got)
first-spans g xs x None = refl
first-spans g [] x (Some at) = refl
first-spans g (y ∷ ys) x (Some at) = refl

last-spans : {A : Type 0} (g : A → Span) (xs : List A) (x : A) (got : Option ℕ) → option_and_then (spans_by g (xs ++ x ∷ [])) got ≡ option_and_then (g x) (option_and_then (all_by (λ own. g own >> token) xs) got)
last-spans g xs x None = refl
last-spans g [] x (Some at) = and_then-some (g x at)
last-spans g (y ∷ ys) x (Some at) = first-spans g ys x (g y at) ∙ last-spans g ys x (option_and_then token (g y at))

some-push : {A : Type 0} (xs : List A) (x : A) → has_first (xs ++ x ∷ []) ≡ true
some-push [] x = refl
some-push (y ∷ ys) x = refl

pub Took-last : {A : Type 0} {f : A → Tokens} {g : A → Span} {ok : A → Bool} {before mid after : Spot} {xs : List A} (sep : Tok) (x : A) → TookAll (joined_by (λ own. f own ++ sep ∷ [])) (all_by (λ own. g own >> token)) (AllOk ok) before mid xs → Took f g (IsOk ok) mid after x → Took (by_separator sep f) (spans_by g) (SomeOk ok) before after (xs ++ x ∷ [])
Took-last {A} {f} {g} {ok} {before} {mid} {after} {xs} sep x has own = record {
  spells = has.spells ∙ (ap (λ (rest : Tokens). joined_by (λ own. f own ++ sep ∷ []) xs ++ rest) own.spells ∙ last-spells f sep xs x after.1);
  placed = last-spans g xs x (Some before.0) ∙ (ap (λ (got : Option ℕ). option_and_then (g x) got) has.placed ∙ own.placed);
  good = record { some = some-push xs x; all = all-push ok xs x has.good own.good };
  shorter = omega (arith, has.shorter, own.shorter);
  moved = omega (arith, has.moved, own.moved);
}

-- a list that is read up to the token behind it, behind a token
pub Took-between : {A : Type 0} (f : A → Tokens) (g : A → Span) {Good : A → Type 0} {before mid after : Spot} {open_tok : Tok} (close_tok : Tok) {value : A} → TookOne open_tok before mid → Took (λ own. f own ++ close_tok ∷ []) (λ own. g own >> token) Good mid after value → Took (λ value. ((open_tok ∷ []) ++ f value) ++ (close_tok ∷ [])) (λ value. bracketed (g value)) Good before after value
Took-between {A} f g {Good} {before} {mid} {after} {open_tok} close_tok {value} begun own = record {
  spells = begun.comes ∙ ap (λ (rest : Tokens). open_tok ∷ rest) own.spells;
  placed = ap (λ (index : ℕ). option_and_then token (g value index)) (sym begun.next) ∙ own.placed;
  good = own.good;
  shorter = omega (arith, ap length begun.comes, own.shorter);
  moved = omega (arith, begun.next, ap length begun.comes, own.moved);
}

-- the same, read or refused, where the list may also have no item
pub Reads-between : {A : Type 0} (f : A → Tokens) (g : A → Span) (ok : A → Bool) {before mid : Spot} (after : Spot) (open_tok close_tok : Tok) (result : Result (List A) ParseError) → TookOne open_tok before mid → Reads (λ own. commas_by f own ++ close_tok ∷ []) (λ own. spans_by g own >> token) (SomeOk ok) mid result after → Reads (λ own. ((open_tok ∷ []) ++ commas_by f own) ++ (close_tok ∷ [])) (λ own. bracketed (spans_by g own)) (AllOk ok) before result after
Reads-between f g ok after open_tok close_tok (Ok list) begun own =
    let whole = Took-between (commas_by f) (spans_by g) close_tok begun own in
    record { spells = whole.spells; placed = whole.placed; good = whole.good.all; shorter = whole.shorter; moved = whole.moved }
Reads-between f g ok after open_tok close_tok (Err error) begun own = tt
