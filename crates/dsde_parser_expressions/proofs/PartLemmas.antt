-- Parts that were read one behind another, put together from the left to the right.
use Rattle.std.proofs.Common.{◌≡◌, ℕ, ◌+◌, ◌<◌, ◌≤◌, Bool, true, false, ◌||◌, [], ◌∷◌, ◌++◌, length, Option, Some, None, Result, Ok, Err, refl, sym, ap, ◌∙◌, arith, append_assoc}
use Rattle.std.specs.Prelude.{option_and_then}
use Rattle.dsde_syntax.specs.declared.token.Tok.{Tok}
use Rattle.dsde_syntax.specs.declared.expr.Expr.{Expr}
use Rattle.dsde_syntax.specs.Grammar.{Tokens, expr_tokens}
use Rattle.dsde_syntax.specs.Places.{Span, ◌>>◌, token, token_at, begins_at, expr_span}
use Rattle.dsde_syntax.specs.Levels.{is_expr, level_of}
use Rattle.dsde_parser_expressions.specs.declared.parser.ParseError.{ParseError}
use Rattle.dsde_parser_expressions.specs.Took.{Spot, Took, TookAll, TookOne, Reads}
use Rattle.dsde_parser_expressions.specs.Parts.{IsWithin, IsOk}
use Rattle.dsde_parser_expressions.proofs.ChainLemmas.{le-stands}
use Rattle.dsde_parser_expressions.proofs.NodeLemmas.{token-here, begins-here}

-- fewer tokens are left, or no more
abbrev pub Shorter : Bool → ℕ → ℕ → Type 0
Shorter true after before = after < before
Shorter false after before = after ≤ before

-- from one place to another stand these tokens, of which there is one for certain or not, and this
-- span goes
pub record Part (some : Bool) (tokens : Tokens) (span : Span) (before after : Spot) : Type 0 where
  pub spells : before.1 ≡ tokens ++ after.1
  pub placed : span before.0 ≡ Some after.0
  pub shorter : Shorter some (length after.1) (length before.1)
  pub moved : after.0 + length after.1 ≡ before.0 + length before.1

-- a token
pub one : {t : Tok} {before after : Spot} → TookOne t before after → Part true (t ∷ []) token before after
one taken = record {
  spells = taken.comes;
  placed = ap Some (sym taken.next);
  shorter = omega (arith, ap length taken.comes);
  moved = omega (arith, taken.next, ap length taken.comes);
}

-- a token with its place
pub one-at : {t : Tok} {before after : Spot} {at : ℕ} → TookOne t before after → at ≡ before.0 → Part true (t ∷ []) (token_at at) before after
one-at {t} {before} {after} {at} taken place = record {
  spells = taken.comes;
  placed = token-here at before.0 place ∙ ap Some (sym taken.next);
  shorter = omega (arith, ap length taken.comes);
  moved = omega (arith, taken.next, ap length taken.comes);
}

-- a part whose first token has its place
pub placed-at : {b : Bool} {t : Tokens} {s : Span} {before after : Spot} {at : ℕ} → Part b t s before after → at ≡ before.0 → Part b t (begins_at at >> s) before after
placed-at {b} {t} {s} {before} {after} {at} part place = record {
  spells = part.spells;
  placed = ap (λ (got : Option ℕ). option_and_then s got) (begins-here at before.0 place) ∙ part.placed;
  shorter = part.shorter;
  moved = part.moved;
}

-- a part that was read
pub own : {A : Type 0} {f : A → Tokens} {g : A → Span} {G : A → Type 0} {before after : Spot} {x : A} → Took f g G before after x → Part true (f x) (g x) before after
own took = record { spells = took.spells; placed = took.placed; shorter = took.shorter; moved = took.moved }

-- a part that may have no token
pub all : {A : Type 0} {f : A → Tokens} {g : A → Span} {G : A → Type 0} {before after : Spot} {x : A} → TookAll f g G before after x → Part false (f x) (g x) before after
all took = record { spells = took.spells; placed = took.placed; shorter = took.shorter; moved = took.moved }

shorter-behind : (a b : Bool) (x y z : ℕ) → Shorter a y x → Shorter b z y → Shorter (a || b) z x
shorter-behind true true x y z h k = omega arith
shorter-behind true false x y z h k = omega arith
shorter-behind false true x y z h k = omega arith
shorter-behind false false x y z h k = omega arith

-- one part and the next
infixl 5 ◌⨟◌
pub ◌⨟◌ : {a b : Bool} {t u : Tokens} {g h : Span} {before mid after : Spot} → Part a t g before mid → Part b u h mid after → Part (a || b) (t ++ u) (g >> h) before after
◌⨟◌ {a} {b} {t} {u} {g} {h} {before} {mid} {after} first next = record {
  spells = first.spells ∙ (ap (λ (own : Tokens). t ++ own) next.spells ∙ sym (append_assoc t u after.1));
  placed = ap (λ (got : Option ℕ). option_and_then h got) first.placed ∙ next.placed;
  shorter = shorter-behind a b (length before.1) (length mid.1) (length after.1) first.shorter next.shorter;
  moved = omega (arith, first.moved, next.moved);
}

-- one part and the next two, which were read as one
and_then-both : (g h : Span) (got : Option ℕ) → option_and_then (g >> h) got ≡ option_and_then h (option_and_then g got)
and_then-both g h None = refl
and_then-both g h (Some at) = refl

pub regroup : {b : Bool} {before after : Spot} (t u v : Tokens) (g h k : Span) → Part b (t ++ (u ++ v)) (g >> (h >> k)) before after → Part b ((t ++ u) ++ v) ((g >> h) >> k) before after
regroup {b} {before} {after} t u v g h k both = record {
  spells = both.spells ∙ ap (λ (own : Tokens). own ++ after.1) (sym (append_assoc t u v));
  placed = sym (and_then-both h k (g before.0)) ∙ both.placed;
  shorter = both.shorter;
  moved = both.moved;
}

pub behind-two : {a b : Bool} {t : Tokens} {g : Span} {before mid after : Spot} (u v : Tokens) (h k : Span) → Part a t g before mid → Part b (u ++ v) (h >> k) mid after → Part (a || b) ((t ++ u) ++ v) ((g >> h) >> k) before after
behind-two {a} {b} {t} {g} u v h k first next = regroup t u v g h k (first ⨟ next)

pub behind-three : {a b : Bool} {t : Tokens} {g : Span} {before mid after : Spot} (u v w : Tokens) (h k l : Span) → Part a t g before mid → Part b ((u ++ v) ++ w) ((h >> k) >> l) mid after → Part (a || b) (((t ++ u) ++ v) ++ w) (((g >> h) >> k) >> l) before after
behind-three {a} {b} {t} {g} {before} {mid} {after} u v w h k l first next =
    let both = behind-two (u ++ v) w (h >> k) l first next in
    record {
      spells = both.spells ∙ ap (λ (own : Tokens). (own ++ w) ++ after.1) (sym (append_assoc t u v));
      placed = ap (λ (got : Option ℕ). option_and_then l got) (sym (and_then-both h k (g before.0))) ∙ both.placed;
      shorter = both.shorter;
      moved = both.moved;
    }

-- some token stands there, and so it need not be certain
pub wide : {t : Tokens} {s : Span} {before after : Spot} → Part true t s before after → Part false t s before after
wide part = record { spells = part.spells; placed = part.placed; shorter = omega (arith, part.shorter); moved = part.moved }

-- what was read of these parts
pub read : {A : Type 0} {f : A → Tokens} {g : A → Span} {G : A → Type 0} {t : Tokens} {s : Span} {before after : Spot} {x : A} → Part true t s before after → f x ≡ t → g x before.0 ≡ s before.0 → G x → Took f g G before after x
read {A} {f} {g} {G} {t} {s} {before} {after} {x} part toks span good = record {
  spells = part.spells ∙ ap (λ (own : Tokens). own ++ after.1) (sym toks);
  placed = span ∙ part.placed;
  good = good;
  shorter = part.shorter;
  moved = part.moved;
}

-- the same, where there may be no token
pub read-all : {A : Type 0} {f : A → Tokens} {g : A → Span} {G : A → Type 0} {t : Tokens} {s : Span} {before after : Spot} {x : A} → Part false t s before after → f x ≡ t → g x before.0 ≡ s before.0 → G x → TookAll f g G before after x
read-all {A} {f} {g} {G} {t} {s} {before} {after} {x} part toks span good = record {
  spells = part.spells ∙ ap (λ (own : Tokens). own ++ after.1) (sym toks);
  placed = span ∙ part.placed;
  good = good;
  shorter = part.shorter;
  moved = part.moved;
}

-- the same of a node, whose tokens and span are those of its layer
pub read-node : {A : Type 0} {f : A → Tokens} {g : A → Span} {ok : A → Bool} {t : Tokens} {s : Span} {before after : Spot} {x : A} → Part true t s before after → f x ≡ t → g x ≡ s → ok x ≡ true → Took f g (IsOk ok) before after x
read-node {A} {f} {g} {ok} {t} {s} {before} {after} {x} part toks span good = read part toks (ap (λ (own : Span). own before.0) span) good

-- what is read behind a token, or refused
pub reads-behind : {A : Type 0} {t : Tok} {before mid : Spot} (f : A → Tokens) (g : A → Span) (G : A → Type 0) (after : Spot) (result : Result A ParseError) → TookOne t before mid → Reads f g G mid result after → Reads (λ x. (t ∷ []) ++ f x) (λ x. token >> g x) G before result after
reads-behind f g G after (Ok value) begun took = read (one begun ⨟ own took) refl refl took.good
reads-behind f g G after (Err error) begun took = tt

-- what is of the weakest level is an expression
pub whole-expr : {before after : Spot} {e : Expr} → Took expr_tokens expr_span (IsWithin 9) before after e → is_expr e ≡ true
whole-expr {before} {after} {e} took = le-stands (level_of e) 9 took.good
