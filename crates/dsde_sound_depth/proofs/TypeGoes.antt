-- The tokens of a type leave what is open as it is.
use Rattle.std.proofs.Common.{◌≡◌, ℕ, ◌+◌, ◌≤◌, suc, List, [], ◌∷◌, sym, ap, subst, ◌∙◌, arith}
use Rattle.dsde_syntax.specs.declared.token.Tok.TheVariants as tok
use Rattle.dsde_words.specs.declared.key.Key.TheVariants as key
use Rattle.dsde_syntax.specs.declared.token.Sign.TheVariants as sign
use Rattle.dsde_syntax.specs.declared.type_name.TypeName.{TypeName}
use Rattle.dsde_syntax.specs.declared.type_name.TypeName.TheOpen.{TypeName-F}
use Rattle.dsde_syntax.specs.declared.type_name.TypeName.TheViews.{roll-TypeName}
use Rattle.dsde_syntax.specs.declared.type_name.TypeName.TheFolds.{map-TypeName, fold-roll-TypeName, ind-TypeName}
use Rattle.dsde_syntax.specs.Grammar.{Tokens, in_angles, type_step, type_tokens}
use Rattle.dsde_parser.specs.declared.depth.Last.{Last}
use Rattle.dsde_parser.specs.declared.depth.Last.TheVariants as last
use Rattle.dsde_parser.specs.Depth.{with_bracket, behind_greater, behind_name}
use Rattle.dsde_sound_depth.proofs.Going.{Goes, step, one, one-to, join, typed, outer}

-- tokens of a type, whatever the last of them is
pub record Type-led (limit : ℕ) (brackets : List ℕ) (angles conditions : ℕ) (before : Last) (tokens : Tokens) : Type 0 where
  pub after : Last
  pub goes : Goes limit (typed brackets angles conditions before) tokens (typed brackets angles conditions after)

pub record TypeGoes (tokens : Tokens) : Type 0 where
  pub goes : (brackets : List ℕ) (angles conditions limit : ℕ) (before : Last) → conditions ≤ limit → Type-led limit brackets angles conditions before tokens

-- the ">" behind a type
greater : {limit conditions : ℕ} (brackets : List ℕ) (angles own : ℕ) (before : Last) → conditions ≤ limit
    → Goes limit (typed (with_bracket brackets own) (angles + 1) conditions before) (tok.Sign sign.Greater ∷ []) (typed brackets angles conditions last.Other)
greater {limit} {conditions} brackets angles own before few =
    let more : angles + 1 ≡ suc angles = omega arith in
    one-to (tok.Sign sign.Greater)
    (ap (λ (n : ℕ). typed (behind_greater (with_bracket brackets own) n).0 (behind_greater (with_bracket brackets own) n).1 conditions last.Other) more
    ∙ ap (λ (now : List ℕ). typed now angles conditions last.Other) (outer brackets own)) few few

-- "<" type ">", behind one of the words before it
pub angles-go : {tokens : Tokens} → TypeGoes tokens → (brackets : List ℕ) (angles conditions limit : ℕ) → conditions ≤ limit
    → Goes limit (typed brackets angles conditions last.TypeWord) (in_angles tokens) (typed brackets angles conditions last.Other)
angles-go own brackets angles conditions limit few =
    let inside = own.goes (with_bracket brackets conditions) (angles + 1) conditions limit last.Other few in
    step (tok.Sign sign.Less) few (join inside.goes (greater brackets angles conditions inside.after few))

abbrev Claim : TypeName → Type 0
Claim ty = TypeGoes (type_tokens ty)

type-roll : (x : TypeName-F TypeName) → TypeGoes (type_step (map-TypeName TypeName Tokens type_tokens x)) → Claim (roll-TypeName x)
type-roll x own = subst TypeGoes (sym (fold-roll-TypeName Tokens type_step x)) own

abbrev T : Type 0
T = (ty : TypeName) × Claim ty

type-case : (y : TypeName-F T) → Claim (roll-TypeName (map-TypeName T TypeName (λ t. t.0) y))
type-case (TypeName-F.Int at) = type-roll (TypeName-F.Int at)
    (record { goes = λ brackets angles conditions limit before few. record { after = last.Other; goes = one (tok.Key key.Int) few few } })
type-case (TypeName-F.Bool at) = type-roll (TypeName-F.Bool at)
    (record { goes = λ brackets angles conditions limit before few. record { after = last.Other; goes = one (tok.Key key.Bool) few few } })
type-case (TypeName-F.Named id) = type-roll (TypeName-F.Named id)
    (record { goes = λ brackets angles conditions limit before few. record { after = behind_name before; goes = one (tok.Ident id.name) few few } })
type-case (TypeName-F.List at (ty, own)) = type-roll (TypeName-F.List at ty)
    (record { goes = λ brackets angles conditions limit before few. record { after = last.Other; goes = step (tok.Key key.List) few (angles-go own brackets angles conditions limit few) } })
type-case (TypeName-F.Opt at (ty, own)) = type-roll (TypeName-F.Opt at ty)
    (record { goes = λ brackets angles conditions limit before few. record { after = last.Other; goes = step (tok.Key key.Opt) few (angles-go own brackets angles conditions limit few) } })

pub type-goes : (ty : TypeName) → TypeGoes (type_tokens ty)
type-goes = ind-TypeName Claim
    (λ x y is. subst (λ (z : TypeName-F TypeName). Claim (roll-TypeName z)) is (type-case y))
