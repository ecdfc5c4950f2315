-- Each type passes.
use Rattle.std.proofs.Common.{[], ◌∷◌, refl, sym, subst}
use Rattle.dsde_syntax.specs.declared.token.Tok.TheVariants as tok
use Rattle.dsde_words.specs.declared.key.Key.TheVariants as key
use Rattle.dsde_syntax.specs.declared.token.Sign.TheVariants as sign
use Rattle.dsde_syntax.specs.declared.type_name.TypeName.{TypeName}
use Rattle.dsde_syntax.specs.declared.type_name.TypeName.TheOpen.{TypeName-F}
use Rattle.dsde_syntax.specs.declared.type_name.TypeName.TheViews.{roll-TypeName}
use Rattle.dsde_syntax.specs.declared.type_name.TypeName.TheFolds.{map-TypeName, fold-roll-TypeName, ind-TypeName}
use Rattle.dsde_syntax.specs.Grammar.{Tokens, type_step, type_tokens}
use Rattle.dsde_parser_grammar.specs.Want as want
use Rattle.dsde_parser_grammar.proofs.Leading.{any, Leads, takes, last, closed, beside}

abbrev TypeClaim : TypeName → Type 0
TypeClaim ty = Leads any (want.ty ∷ []) [] (type_tokens ty)

type-roll : (x : TypeName-F TypeName) → Leads any (want.ty ∷ []) [] (type_step (map-TypeName TypeName Tokens type_tokens x)) → TypeClaim (roll-TypeName x)
type-roll x own = subst (λ (t : Tokens). Leads any (want.ty ∷ []) [] t) (sym (fold-roll-TypeName Tokens type_step x)) own

type-case : (y : TypeName-F ((ty : TypeName) × TypeClaim ty)) → TypeClaim (roll-TypeName (map-TypeName ((ty : TypeName) × TypeClaim ty) TypeName (λ e. e.0) y))
type-case (TypeName-F.Int at) = type-roll (TypeName-F.Int at) (last (tok.Key key.Int) (λ more at rest. refl))
type-case (TypeName-F.Bool at) = type-roll (TypeName-F.Bool at) (last (tok.Key key.Bool) (λ more at rest. refl))
type-case (TypeName-F.Named id) = type-roll (TypeName-F.Named id) (last (tok.Ident id.name) (λ more at rest. refl))
type-case (TypeName-F.List at (part, own)) =
    type-roll (TypeName-F.List at part)
    (takes (tok.Key key.List ∷ tok.Sign sign.Less ∷ []) (closed (tok.Sign sign.Greater) (beside own (want.mark sign.Greater ∷ [])) (λ rest. refl) (λ more at rest. refl)) (λ more at rest. refl))
type-case (TypeName-F.Opt at (part, own)) =
    type-roll (TypeName-F.Opt at part)
    (takes (tok.Key key.Opt ∷ tok.Sign sign.Less ∷ []) (closed (tok.Sign sign.Greater) (beside own (want.mark sign.Greater ∷ [])) (λ rest. refl) (λ more at rest. refl)) (λ more at rest. refl))

pub type-passes : (ty : TypeName) → Leads any (want.ty ∷ []) [] (type_tokens ty)
type-passes = ind-TypeName TypeClaim (λ x y is. subst (λ (z : TypeName-F TypeName). TypeClaim (roll-TypeName z)) is (type-case y))
