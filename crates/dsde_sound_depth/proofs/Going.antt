-- How what is open goes from token to token.
use Rattle.std.proofs.Common.{◌≡◌, ℕ, ◌+◌, ◌-◌, ◌≤◌, zero, suc, List, [], ◌∷◌, ◌++◌, length, take, refl, sym, ap, subst, ◌∙◌, arith}
use Rattle.std.specs.Prelude.{get_or}
use Rattle.std.specs.List.{fold}
use Rattle.std.proofs.Math.Seq.{take-append_seam, get_or-append_seam}
use Rattle.std.proofs.lemmas.List.{length-append}
use Rattle.std.proofs.lemmas.Option.{unwrap_or-slice_get}
use Rattle.dsde_syntax.specs.declared.token.Tok.{Tok}
use Rattle.dsde_syntax.specs.declared.token.Tok.TheVariants as tok
use Rattle.dsde_syntax.specs.declared.token.Sign.{Sign}
use Rattle.dsde_syntax.specs.declared.token.Sign.TheVariants as sign
use Rattle.dsde_syntax.specs.Grammar.{Tokens, mark}
use Rattle.dsde_parser.specs.declared.depth.Last.{Last}
use Rattle.dsde_parser.specs.declared.depth.Last.TheVariants as last
use Rattle.dsde_parser.specs.declared.depth.Open.{Open}
use Rattle.dsde_parser.specs.Depth.{opened, none_open, open_after, innermost, with_bracket, without_bracket, behind_name}

-- Tokens lead from what is open before them to what is open behind them, and at no place among them
-- more conditions are open than a limit.
abbrev pub Steps : ℕ → Open → Tokens → Open → Type 0
Steps limit before [] after = (before ≡ after) × (before.conditions ≤ limit)
Steps limit before (t ∷ tokens) after = (before.conditions ≤ limit) × Steps limit (opened before t) tokens after

pub record Goes (limit : ℕ) (before : Open) (tokens : Tokens) (after : Open) : Type 0 where
  pub steps : Steps limit before tokens after

-- no token
pub stay : {limit : ℕ} {before : Open} → before.conditions ≤ limit → Goes limit before [] before
stay few = record { steps = (refl, few) }

-- a token, and those behind it
pub step : {limit : ℕ} {before after : Open} {tokens : Tokens} (t : Tok) → before.conditions ≤ limit → Goes limit (opened before t) tokens after → Goes limit before (t ∷ tokens) after
step t few own = record { steps = (few, own.steps) }

-- the last token
pub one : {limit : ℕ} {before : Open} (t : Tok) → before.conditions ≤ limit → (opened before t).conditions ≤ limit → Goes limit before (t ∷ []) (opened before t)
one t few more = step t few (stay more)

-- the last token, behind which this is open
pub one-to : {limit : ℕ} {before after : Open} (t : Tok) → opened before t ≡ after → before.conditions ≤ limit → after.conditions ≤ limit → Goes limit before (t ∷ []) after
one-to {limit} {before} {after} t is few more = record { steps = (few, (is, subst (λ (own : Open). own.conditions ≤ limit) (sym is) more)) }

join-steps : (limit : ℕ) (before mid after : Open) (front behind : Tokens) → Steps limit before front mid → Steps limit mid behind after → Steps limit before (front ++ behind) after
join-steps limit before mid after [] behind (is, few) next = subst (λ (own : Open). Steps limit own behind after) (sym is) next
join-steps limit before mid after (t ∷ front) behind (few, own) next = (few, join-steps limit (opened before t) mid after front behind own next)

-- tokens behind tokens
pub join : {limit : ℕ} {before mid after : Open} {front behind : Tokens} → Goes limit before front mid → Goes limit mid behind after → Goes limit before (front ++ behind) after
join own next = record { steps = join-steps _ _ _ _ _ _ own.steps next.steps }

-- before a token that goes elsewhere by computing
pub before-is : {limit : ℕ} {before same after : Open} {tokens : Tokens} → before ≡ same → Goes limit same tokens after → Goes limit before tokens after
before-is {limit} {before} {same} {after} {tokens} is own = subst (λ (now : Open). Goes limit now tokens after) (sym is) own

-- at no place more than the limit is open
within-steps : (limit : ℕ) (before after : Open) (tokens : Tokens) → Steps limit before tokens after → (n : ℕ) → (fold opened before (take n tokens)).conditions ≤ limit
within-steps limit before after [] own zero = own.1
within-steps limit before after [] own (suc n) = own.1
within-steps limit before after (t ∷ tokens) own zero = own.0
within-steps limit before after (t ∷ tokens) own (suc n) = within-steps limit (opened before t) after tokens own.1 n

pub within : (limit : ℕ) (after : Open) (tokens : Tokens) → Goes limit none_open tokens after → (n : ℕ) → (open_after (take n tokens)).conditions ≤ limit
unfolding open_after
within limit after tokens own n = within-steps limit none_open after tokens own.steps n

-- These brackets and conditions are open, some of the brackets those of types.
abbrev pub typed : List ℕ → ℕ → ℕ → Last → Open
typed brackets angles conditions before = record { brackets = brackets; angles = angles; conditions = conditions; last = before }

-- and none of types
abbrev pub here : List ℕ → ℕ → Last → Open
here brackets conditions before = typed brackets 0 conditions before

-- a bracket that is closed again
pub outer : (brackets : List ℕ) (own : ℕ) → without_bracket (with_bracket brackets own) ≡ brackets
outer brackets own =
    let long : length (brackets ++ own ∷ []) - 1 ≡ length brackets = omega (arith, length-append brackets (own ∷ [])) in
    ap (λ (n : ℕ). take n (brackets ++ own ∷ [])) long ∙ take-append_seam brackets (own ∷ [])

-- what was open behind it
pub inner : (brackets : List ℕ) (own : ℕ) → innermost (with_bracket brackets own) ≡ own
inner brackets own =
    let long : length (brackets ++ own ∷ []) - 1 ≡ length brackets = omega (arith, length-append brackets (own ∷ [])) in
    unwrap_or-slice_get (brackets ++ own ∷ []) (length (brackets ++ own ∷ []) - 1) 0
    ∙ (ap (λ (n : ℕ). get_or (brackets ++ own ∷ []) n 0) long ∙ get_or-append_seam brackets own [] 0)

-- the sign that closes a bracket
pub closed : {limit conditions : ℕ} (brackets : List ℕ) (own : ℕ) (before : Last) (which : Sign)
    → opened (here (with_bracket brackets own) conditions before) (tok.Sign which) ≡ here (without_bracket (with_bracket brackets own)) conditions last.Other
    → conditions ≤ limit → Goes limit (here (with_bracket brackets own) conditions before) (mark which) (here brackets conditions last.Other)
closed {limit} {conditions} brackets own before which is few =
    one-to (tok.Sign which) (is ∙ ap (λ (now : List ℕ). here now conditions last.Other) (outer brackets own)) few few

-- the ":" of a comprehension
pub colon : {limit conditions : ℕ} (brackets : List ℕ) (own : ℕ) → conditions ≤ limit → own ≤ limit
    → Goes limit (here (with_bracket brackets own) conditions last.Other) (mark sign.Colon) (here (with_bracket brackets own) own last.Other)
colon {limit} {conditions} brackets own few less =
    one-to (tok.Sign sign.Colon) (ap (λ (n : ℕ). here (with_bracket brackets own) n last.Other) (inner brackets own)) few less

-- the "{" behind a condition
pub brace : {limit conditions : ℕ} (brackets : List ℕ) → conditions + 1 ≤ limit
    → Goes limit (here brackets (conditions + 1) last.Other) (mark sign.OpenBrace) (here (with_bracket brackets conditions) conditions last.Start)
brace {limit} {conditions} brackets few =
    one-to (tok.Sign sign.OpenBrace) (ap (λ (n : ℕ). here (with_bracket brackets n) n last.Start) (less conditions)) few (omega arith)
  where
    less : (n : ℕ) → n + 1 - 1 ≡ n
    less n = omega arith

-- What the last tokens are behind an expression or a type: a name that came alone, or anything of
-- which nothing is to be known.
abbrev pub Ends : Last → Last → Type 0
Ends before last.Other = Unit {0}
Ends last.New last.RecordName = Unit {0}
Ends last.Start last.FieldName = Unit {0}
Ends before after = ⊥

pub name-ends : (before : Last) → Ends before (behind_name before)
name-ends last.New = tt
name-ends last.Start = tt
name-ends _ = tt

pub other-ends : (before : Last) → Ends before last.Other
other-ends before = tt

-- behind anything else it is none
pub plain-ends : (after : Last) → Ends last.Other after → after ≡ last.Other
plain-ends last.Other own = refl
plain-ends _ own = absurd own
