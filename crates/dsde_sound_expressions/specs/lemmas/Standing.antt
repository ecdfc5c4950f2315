-- Parts of what stands in a table.
use Rattle.std.proofs.Common.{◌≡◌, ℕ, ◌+◌, List, [], ◌∷◌, ◌++◌, length, slice_get, Some, refl, sym, ◌∙◌, ap, append_assoc, append-nil}
use Rattle.std.proofs.lemmas.List.{length-append}
use Rattle.dsde_language.specs.Scopes.{Stands}

module _ {A : Type 0} where
  get-seam : (before : List A) (own : A) (rest : List A) → slice_get (before ++ own ∷ rest) (length before) ≡ Some own
  get-seam [] own rest = refl
  get-seam (x ∷ before) own rest = get-seam before own rest

  pub stands-head : (table : List A) (start : ℕ) (own : A) (part : List A) → Stands table start (own ∷ part) → slice_get table start ≡ Some own
  stands-head table start own part s =
      ap (λ (l : List A). slice_get l start) s.is
      ∙ ap (λ (n : ℕ). slice_get (s.before ++ own ∷ (part ++ s.rest)) n) (sym s.at)
      ∙ get-seam s.before own (part ++ s.rest)

  pub stands-tail : (table : List A) (start : ℕ) (own : A) (part : List A) → Stands table start (own ∷ part) → Stands table (start + 1) part
  stands-tail table start own part s = record {
    before = s.before ++ own ∷ [];
    rest = s.rest;
    is = s.is ∙ sym (append_assoc s.before (own ∷ []) (part ++ s.rest));
    at = let e : length (s.before ++ own ∷ []) ≡ length s.before + 1 = length-append s.before (own ∷ []) in e ∙ ap (λ (n : ℕ). n + 1) s.at;
  }

  pub stands-left : (table : List A) (start : ℕ) (left right : List A) → Stands table start (left ++ right) → Stands table start left
  stands-left table start left right s = record {
    before = s.before;
    rest = right ++ s.rest;
    is = s.is ∙ ap (λ (l : List A). s.before ++ l) (append_assoc left right s.rest);
    at = s.at;
  }

  pub stands-right : (table : List A) (start : ℕ) (left right : List A) → Stands table start (left ++ right) → Stands table (start + length left) right
  stands-right table start left right s = record {
    before = s.before ++ left;
    rest = s.rest;
    is = s.is ∙ ap (λ (l : List A). s.before ++ l) (append_assoc left right s.rest) ∙ sym (append_assoc s.before left (right ++ s.rest));
    at = length-append s.before left ∙ ap (λ (n : ℕ). n + length left) s.at;
  }

  pub stands-whole : (table : List A) → Stands table 0 table
  stands-whole table = record { before = []; rest = []; is = sym (append-nil table); at = refl }
