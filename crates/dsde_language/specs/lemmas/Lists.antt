-- Lists that are gone through one item after the other.
use Rattle.std.proofs.Common.{◌≡◌, ℕ, ◌+◌, ◌<◌, suc, List, ◌∷◌, length, get_or, take, drop, sym, ap, ◌∙◌, arith}
use Rattle.std.proofs.Math.Seq.{drop-cons}
use Rattle.std.proofs.Math.Numerals.{suc-eq-add-one}
use Rattle.std.proofs.lemmas.List.{length-take, take-take}

-- the first of what is left of a list, and what is behind it
pub one_of : {X : Type 0} (items : List X) (index : ℕ) (own : X) → index < length items → own ≡ get_or items index own → drop index items ≡ own ∷ drop (index + 1) items
one_of items index own within is =
    drop-cons items index own within ∙ ap (λ first. first ∷ drop (suc index) items) (sym is) ∙ ap (λ next. own ∷ drop next items) (suc-eq-add-one index)

-- the front of a list that was longer and longer
pub kept_on : {X : Type 0} (first mid last : List X) → take (length first) mid ≡ first → take (length mid) last ≡ mid → take (length first) last ≡ first
kept_on first mid last begun more =
    sym (take-take (length first) (length mid) last (omega (arith, ap length begun, length-take (length first) mid))) ∙ ap (take (length first)) more ∙ begun
