-- Signs between parts, by their rules.
use Rattle.std.proofs.Common.{◌≡◌, ℕ, Bool, true, false, ◌||◌, Ok, sym, ◌∙◌, subst}
use Rattle.dsde_language.specs.given.syntax.token_Sign.{Sign}
use Rattle.dsde_language.specs.given.syntax.token_Sign_TheVariants as sign
use Rattle.dsde_language.specs.given.syntax.Levels.{is_comparison, is_sum_sign, is_mul_sign}
use Rattle.dsde_language.specs.given.values.types_Ty.{Ty}
use Rattle.dsde_language.specs.given.values.types_Ty_TheVariants as ty
use Rattle.dsde_language.specs.given.values.types_Types.{Types}
use Rattle.dsde_language.specs.given.values.value_Value.{Value}
use Rattle.dsde_language.specs.declared.known.Around.{Around}
use Rattle.dsde_language.specs.declared.seen.Seen.{Seen}
use Rattle.dsde_language.specs.Judge.{operand, sign_may_fault, total, compared}
use Rattle.dsde_language.specs.Types.{wanted, item_type}
use Rattle.dsde_language.specs.DeclaredOperators.{sign_binary}
use Rattle.dsde_language.specs.Outcome.{Outcome}
use Rattle.dsde_language.specs.MeaningOperators.{combined}
use Rattle.dsde_language.specs.Typed.{Typed}
use Rattle.dsde_sound_expressions.specs.lemmas.Steps.{Went, went, ok-is}
use Rattle.dsde_sound_expressions.specs.lemmas.Types.{wanted-is, item-is}
use Rattle.dsde_sound_expressions.proofs.At.{never-total}
use Rattle.dsde_sound_expressions.proofs.Operators.{Fine, equal-sound, apart-sound, less-sound, at-most-sound, greater-sound, at-least-sound, add-sound, sub-sound, mul-sound, div-sound, rem-sound, cap-add-sound, cap-sub-sound, cap-mul-sound, join-sound}

-- a sign of a sum or of a product
abbrev pub is_operator : Sign → Bool
is_operator which = is_sum_sign which || is_mul_sign which

-- A sign takes values of a type on both sides, and gives one of another.
pub record Takes (types : Types) (free : Bool) (which : Sign) (at : ℕ) (left : Seen) (t u : Ty) : Type 0 where
  pub is : left.ty ≡ t
  pub sounds : (v : Value) (x : Outcome Value) → Typed types t v → Fine types free t x → Fine types free u (combined (sign_binary which) at v x)

module _ (types : Types) (around : Around) (at : ℕ) (left : Seen) (t : Ty) where
  abbrev total_at : Bool
  total_at = around.is_total

  abbrev Compares : Sign → Type 0
  Compares which = Takes types total_at which at left t ty.Bool

  -- whole numbers on the left
  pub record Ints : Type 0 where
    pub is : left.ty ≡ ty.Int
    pub own : ty.Int ≡ t

  ints : (w : Went (wanted ty.Int left) (λ _. Ok ty.Int) t) → Ints
  ints w = record { is = sym (wanted-is ty.Int left w.value w.first); own = ok-is ty.Int t w.next }

  int-compares : (which : Sign) → Ints → ((v : Value) (x : Outcome Value) → Typed types ty.Int v → Fine types total_at ty.Int x → Fine types total_at ty.Bool (combined (sign_binary which) at v x)) → Compares which
  int-compares which i sounds = record {
    is = i.is ∙ i.own;
    sounds = subst (λ (w : Ty). (v : Value) (x : Outcome Value) → Typed types w v → Fine types total_at w x → Fine types total_at ty.Bool (combined (sign_binary which) at v x)) i.own sounds;
  }

  pub compares : (which : Sign) → is_comparison which ≡ true → compared which left ≡ Ok t → Compares which
  compares sign.EqualEqual so h = record { is = ok-is left.ty t h; sounds = equal-sound types total_at at t }
  compares sign.NotEqual so h = record { is = ok-is left.ty t h; sounds = apart-sound types total_at at t }
  compares sign.Less so h = int-compares sign.Less (ints (went (wanted ty.Int left) _ t h)) (less-sound types total_at at)
  compares sign.LessEqual so h = int-compares sign.LessEqual (ints (went (wanted ty.Int left) _ t h)) (at-most-sound types total_at at)
  compares sign.Greater so h = int-compares sign.Greater (ints (went (wanted ty.Int left) _ t h)) (greater-sound types total_at at)
  compares sign.GreaterEqual so h = int-compares sign.GreaterEqual (ints (went (wanted ty.Int left) _ t h)) (at-least-sound types total_at at)
  compares _ so h = cc

  abbrev Makes : Sign → Type 0
  Makes which = Takes types total_at which at left t t

  int-makes : (which : Sign) → Ints → ((v : Value) (x : Outcome Value) → Typed types ty.Int v → Fine types total_at ty.Int x → Fine types total_at ty.Int (combined (sign_binary which) at v x)) → Makes which
  int-makes which i sounds = record {
    is = i.is ∙ i.own;
    sounds = subst (λ (w : Ty). (v : Value) (x : Outcome Value) → Typed types w v → Fine types total_at w x → Fine types total_at w (combined (sign_binary which) at v x)) i.own sounds;
  }

  join-makes : around.is_total ≡ false → (w : Went (item_type left) (λ item. Ok (ty.List item)) t) → Makes sign.PlusPlus
  join-makes free w =
      let own : ty.List w.value ≡ t = ok-is (ty.List w.value) t w.next in
      record {
        is = item-is left w.value w.first ∙ own;
        sounds = subst (λ (u : Ty). (v : Value) (x : Outcome Value) → Typed types u v → Fine types total_at u x → Fine types total_at u (combined (sign_binary sign.PlusPlus) at v x)) own (join-sound types total_at at w.value free);
      }

  pub makes : (which : Sign) (u : Unit {0}) → is_operator which ≡ true → operand which left ≡ Ok t → total around (sign_may_fault which) at ≡ Ok u → Makes which
  makes sign.Plus u so h k = int-makes sign.Plus (ints (went (wanted ty.Int left) _ t h)) (add-sound types total_at at (never-total around at u k))
  makes sign.Minus u so h k = int-makes sign.Minus (ints (went (wanted ty.Int left) _ t h)) (sub-sound types total_at at (never-total around at u k))
  makes sign.PlusBar u so h k = int-makes sign.PlusBar (ints (went (wanted ty.Int left) _ t h)) (cap-add-sound types total_at at)
  makes sign.MinusBar u so h k = int-makes sign.MinusBar (ints (went (wanted ty.Int left) _ t h)) (cap-sub-sound types total_at at)
  makes sign.PlusPlus u so h k = join-makes (never-total around at u k) (went (item_type left) _ t h)
  makes sign.Star u so h k = int-makes sign.Star (ints (went (wanted ty.Int left) _ t h)) (mul-sound types total_at at (never-total around at u k))
  makes sign.Slash u so h k = int-makes sign.Slash (ints (went (wanted ty.Int left) _ t h)) (div-sound types total_at at (never-total around at u k))
  makes sign.Percent u so h k = int-makes sign.Percent (ints (went (wanted ty.Int left) _ t h)) (rem-sound types total_at at (never-total around at u k))
  makes sign.StarBar u so h k = int-makes sign.StarBar (ints (went (wanted ty.Int left) _ t h)) (cap-mul-sound types total_at at)
  makes _ u so h k = cc
