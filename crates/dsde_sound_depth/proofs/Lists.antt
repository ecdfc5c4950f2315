-- How what is open goes over lists of parts, and over what stands in brackets.
use Rattle.std.proofs.Common.{ℕ, ◌+◌, ◌≤◌, List, [], ◌∷◌, ◌++◌, refl, subst, arith}
use Rattle.std.specs.Prelude.{max, flat_map}
use Rattle.std.proofs.Math.Nat.{le-max_left, le-max_right}
use Rattle.dsde_syntax.specs.declared.token.Tok.TheVariants as tok
use Rattle.dsde_words.specs.declared.key.Key.TheVariants as key
use Rattle.dsde_syntax.specs.declared.token.Sign.TheVariants as sign
use Rattle.dsde_syntax.specs.Grammar.{Tokens, mark, commas, elses, in_parens, in_brackets, in_braces}
use Rattle.dsde_parser.specs.declared.depth.Last.{Last}
use Rattle.dsde_parser.specs.declared.depth.Last.TheVariants as last
use Rattle.dsde_parser.specs.Depth.{with_bracket}
use Rattle.dsde_sound_depth.proofs.Nests.{most}
use Rattle.dsde_sound_depth.proofs.Going.{Goes, stay, step, join, here, closed, Ends, other-ends, plain-ends}

-- room for the more of two is room for each
pub left-room : (conditions a b limit : ℕ) → conditions + max a b ≤ limit → conditions + a ≤ limit
left-room conditions a b limit few = omega (arith, le-max_left a b, few)

pub right-room : (conditions a b limit : ℕ) → conditions + max a b ≤ limit → conditions + b ≤ limit
right-room conditions a b limit few = omega (arith, le-max_right a b, few)

-- Tokens behind `mid` leave the brackets and conditions as they are. What the last tokens are then is
-- nothing of note, or a name behind `before` alone.
pub record Led (limit : ℕ) (brackets : List ℕ) (conditions : ℕ) (before mid : Last) (tokens : Tokens) : Type 0 where
  pub after : Last
  pub ends : Ends before after
  pub goes : Goes limit (here brackets conditions mid) tokens (here brackets conditions after)

-- an expression, in which so many conditions nest
pub record Whole (nest : ℕ) (tokens : Tokens) : Type 0 where
  pub goes : (brackets : List ℕ) (conditions limit : ℕ) (before : Last) → conditions + nest ≤ limit → Led limit brackets conditions before before tokens

-- a part behind which nothing of note stands
pub record Part (nest : ℕ) (tokens : Tokens) : Type 0 where
  pub goes : (brackets : List ℕ) (conditions limit : ℕ) (before : Last) → conditions + nest ≤ limit → Goes limit (here brackets conditions before) tokens (here brackets conditions last.Other)

-- an expression behind anything but a name's place
pub plain : {nest : ℕ} {tokens : Tokens} → Whole nest tokens → (brackets : List ℕ) (conditions limit : ℕ) → conditions + nest ≤ limit → Goes limit (here brackets conditions last.Other) tokens (here brackets conditions last.Other)
plain {nest} {tokens} own brackets conditions limit few =
    let led = own.goes brackets conditions limit last.Other few in
    subst (λ (after : Last). Goes limit (here brackets conditions last.Other) tokens (here brackets conditions after)) (plain-ends led.after led.ends) led.goes

-- such a part alone
pub part-whole : {nest : ℕ} {tokens : Tokens} → Part nest tokens → Whole nest tokens
part-whole own = record {
  goes = λ brackets conditions limit before few. record {
    after = last.Other;
    ends = other-ends before;
    goes = own.goes brackets conditions limit before few;
  };
}

-- parts, each as it is written
abbrev pub AllParts : (Tokens → Tokens) → List ℕ → List Tokens → Type 0
AllParts written [] [] = Unit {0}
AllParts written (nest ∷ nests) (part ∷ parts) = Part nest (written part) × AllParts written nests parts
AllParts written _ _ = ⊥

-- one behind the other
pub rest : (written : Tokens → Tokens) (nests : List ℕ) (parts : List Tokens) → AllParts written nests parts → (brackets : List ℕ) (conditions limit : ℕ) (before mid : Last) → Ends before mid → conditions + most nests ≤ limit → Led limit brackets conditions before mid (flat_map written parts)
rest written [] [] all brackets conditions limit before mid ends few = record { after = mid; ends = ends; goes = stay (omega arith) }
rest written (nest ∷ nests) (part ∷ parts) all brackets conditions limit before mid ends few =
    let own = all.0.goes brackets conditions limit mid (left-room conditions nest (most nests) limit few) in
    let more = rest written nests parts all.1 brackets conditions limit before last.Other (other-ends before) (right-room conditions nest (most nests) limit few) in
    record { after = more.after; ends = more.ends; goes = join own more.goes }
rest written [] (part ∷ parts) all brackets conditions limit before mid ends few = absurd all
rest written (nest ∷ nests) [] all brackets conditions limit before mid ends few = absurd all

-- an expression, and parts behind it
pub chain : {nest : ℕ} {tokens : Tokens} → Whole nest tokens → (written : Tokens → Tokens) (nests : List ℕ) (parts : List Tokens) → AllParts written nests parts → Whole (max nest (most nests)) (tokens ++ flat_map written parts)
chain {nest} {tokens} first written nests parts all = record {
  goes = λ brackets conditions limit before few.
      let own = first.goes brackets conditions limit before (left-room conditions nest (most nests) limit few) in
      let more = rest written nests parts all brackets conditions limit before own.after own.ends (right-room conditions nest (most nests) limit few) in
      record { after = more.after; ends = more.ends; goes = join own.goes more.goes };
}

-- some tokens, whatever the last of them is
pub record Goes-on (limit : ℕ) (brackets : List ℕ) (conditions : ℕ) (before : Last) (tokens : Tokens) : Type 0 where
  pub after : Last
  pub goes : Goes limit (here brackets conditions before) tokens (here brackets conditions after)

-- parts with `else` between them
else-parts : (nests : List ℕ) (parts : List Tokens) → AllParts (λ part. part) nests parts → AllParts (λ part. tok.Key key.Else ∷ part) nests parts
else-parts [] [] all = tt
else-parts (nest ∷ nests) (part ∷ parts) all =
    (record { goes = λ brackets conditions limit before few. step (tok.Key key.Else) (omega arith) (all.0.goes brackets conditions limit last.Else few) }, else-parts nests parts all.1)
else-parts [] (part ∷ parts) all = absurd all
else-parts (nest ∷ nests) [] all = absurd all

pub elses-go : (nests : List ℕ) (parts : List Tokens) → AllParts (λ part. part) nests parts → (brackets : List ℕ) (conditions limit : ℕ) (before : Last) → conditions + most nests ≤ limit → Goes-on limit brackets conditions before (elses parts)
elses-go [] [] all brackets conditions limit before few = record { after = before; goes = stay (omega arith) }
elses-go (nest ∷ nests) (part ∷ parts) all brackets conditions limit before few =
    let own = all.0.goes brackets conditions limit before (left-room conditions nest (most nests) limit few) in
    let more = rest (λ part. tok.Key key.Else ∷ part) nests parts (else-parts nests parts all.1) brackets conditions limit last.Other last.Other tt (right-room conditions nest (most nests) limit few) in
    record { after = more.after; goes = join own more.goes }
elses-go [] (part ∷ parts) all brackets conditions limit before few = absurd all
elses-go (nest ∷ nests) [] all brackets conditions limit before few = absurd all

-- One of several between brackets, with commas between them: behind the bracket, and behind a ",".
pub record Listed (first : Last) (nest : ℕ) (tokens : Tokens) : Type 0 where
  pub leads : (brackets : List ℕ) (conditions limit : ℕ) → conditions + nest ≤ limit → Goes-on limit (with_bracket brackets conditions) conditions first tokens
  pub follows : (brackets : List ℕ) (conditions limit : ℕ) → conditions + nest ≤ limit → Goes-on limit (with_bracket brackets conditions) conditions last.Start tokens

pub whole-listed : {nest : ℕ} {tokens : Tokens} (first : Last) → Whole nest tokens → Listed first nest tokens
whole-listed first own = record {
  leads = λ brackets conditions limit few.
      let led = own.goes (with_bracket brackets conditions) conditions limit first few in record { after = led.after; goes = led.goes };
  follows = λ brackets conditions limit few.
      let led = own.goes (with_bracket brackets conditions) conditions limit last.Start few in record { after = led.after; goes = led.goes };
}

abbrev pub AllListed : Last → List ℕ → List Tokens → Type 0
AllListed first [] [] = Unit {0}
AllListed first (nest ∷ nests) (part ∷ parts) = Listed first nest part × AllListed first nests parts
AllListed first _ _ = ⊥

behind-commas : (first : Last) (nests : List ℕ) (parts : List Tokens) → AllListed first nests parts → (brackets : List ℕ) (conditions limit : ℕ) (before : Last) → conditions + most nests ≤ limit → Goes-on limit (with_bracket brackets conditions) conditions before (flat_map (λ part. mark sign.Comma ++ part) parts)
behind-commas first [] [] all brackets conditions limit before few = record { after = before; goes = stay (omega arith) }
behind-commas first (nest ∷ nests) (part ∷ parts) all brackets conditions limit before few =
    let own = all.0.follows brackets conditions limit (left-room conditions nest (most nests) limit few) in
    let more = behind-commas first nests parts all.1 brackets conditions limit own.after (right-room conditions nest (most nests) limit few) in
    record { after = more.after; goes = step (tok.Sign sign.Comma) (omega arith) (join own.goes more.goes) }
behind-commas first [] (part ∷ parts) all brackets conditions limit before few = absurd all
behind-commas first (nest ∷ nests) [] all brackets conditions limit before few = absurd all

pub commas-go : (first : Last) (nests : List ℕ) (parts : List Tokens) → AllListed first nests parts → (brackets : List ℕ) (conditions limit : ℕ) → conditions + most nests ≤ limit → Goes-on limit (with_bracket brackets conditions) conditions first (commas parts)
commas-go first [] [] all brackets conditions limit few = record { after = first; goes = stay (omega arith) }
commas-go first (nest ∷ nests) (part ∷ parts) all brackets conditions limit few =
    let own = all.0.leads brackets conditions limit (left-room conditions nest (most nests) limit few) in
    let more = behind-commas first nests parts all.1 brackets conditions limit own.after (right-room conditions nest (most nests) limit few) in
    record { after = more.after; goes = join own.goes more.goes }
commas-go first [] (part ∷ parts) all brackets conditions limit few = absurd all
commas-go first (nest ∷ nests) [] all brackets conditions limit few = absurd all

-- what stands in brackets
pub parens-go : {limit conditions : ℕ} {tokens : Tokens} (brackets : List ℕ) (before : Last) → conditions ≤ limit → Goes-on limit (with_bracket brackets conditions) conditions last.Other tokens → Goes limit (here brackets conditions before) (in_parens tokens) (here brackets conditions last.Other)
parens-go {limit} {conditions} brackets before few own =
    step (tok.Sign sign.OpenParen) few (join own.goes (closed brackets conditions own.after sign.CloseParen refl few))

pub brackets-go : {limit conditions : ℕ} {tokens : Tokens} (brackets : List ℕ) (before : Last) → conditions ≤ limit → Goes-on limit (with_bracket brackets conditions) conditions last.Other tokens → Goes limit (here brackets conditions before) (in_brackets tokens) (here brackets conditions last.Other)
brackets-go {limit} {conditions} brackets before few own =
    step (tok.Sign sign.OpenBracket) few (join own.goes (closed brackets conditions own.after sign.CloseBracket refl few))

-- the braces of a record
pub record-go : {limit conditions : ℕ} {tokens : Tokens} (brackets : List ℕ) → conditions ≤ limit → Goes-on limit (with_bracket brackets conditions) conditions last.Start tokens → Goes limit (here brackets conditions last.RecordName) (in_braces tokens) (here brackets conditions last.Other)
record-go {limit} {conditions} brackets few own =
    step (tok.Sign sign.OpenBrace) few (join own.goes (closed brackets conditions own.after sign.CloseBrace refl few))

-- those of the last arm of an `if`
pub else-go : {limit conditions : ℕ} {tokens : Tokens} (brackets : List ℕ) → conditions ≤ limit → Goes-on limit (with_bracket brackets conditions) conditions last.Start tokens → Goes limit (here brackets conditions last.Else) (in_braces tokens) (here brackets conditions last.Other)
else-go {limit} {conditions} brackets few own =
    step (tok.Sign sign.OpenBrace) few (join own.goes (closed brackets conditions own.after sign.CloseBrace refl few))
