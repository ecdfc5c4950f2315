-- That two names are equal, as an equivalence of what is named.
use Rattle.std.specs.Prelude.{◌≡◌, ℕ, true, List, [], ◌∷◌}
use Rattle.std.proofs.Common.{refl, sym, ap}
use Rattle.std.specs.Cmp.{IsEquivalence, IsPartialEquivalence, partial_equiv_from_equiv}
use Rattle.std.specs.Cmp.Lexicographic.{bytes_decides, nat_list_eq_equiv}
use Rattle.std.specs.Str.{bytes_eq}

module _ {T : Type 0} (name_of : T → List ℕ) where
  pub names_equivalence : IsEquivalence (λ x y. bytes_eq (name_of y) (name_of x))
  names_equivalence = record {
    refl = λ x. nat_list_eq_equiv.refl (name_of x);
    symm = λ x y. nat_list_eq_equiv.symm (name_of y) (name_of x);
    congr = λ x y z same. ap (bytes_eq (name_of z)) (sym ((bytes_decides (name_of y) (name_of x)).0 same));
  }

  pub names_partial : IsPartialEquivalence (λ x y. bytes_eq (name_of y) (name_of x))
  names_partial = partial_equiv_from_equiv names_equivalence

-- equal names are hashed alike
pub one_write : (a b : List ℕ) → bytes_eq a b ≡ true → a ∷ [] ≡ b ∷ []
one_write a b same = ap (λ name. name ∷ []) ((bytes_decides a b).0 same)

-- a name that was found stands for the one that was asked for
pub as_found : (own other asked : List ℕ) → bytes_eq own asked ≡ true → bytes_eq other asked ≡ bytes_eq other own
as_found own other asked same = ap (bytes_eq other) (sym ((bytes_decides own asked).0 same))
