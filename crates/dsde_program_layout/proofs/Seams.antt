-- A node put in front of its parts.
use Rattle.std.proofs.Common.{◌≡◌, List, [], ◌∷◌, ◌++◌, length, slice_set, sym, ◌∙◌, ap, append_assoc}
use Rattle.std.proofs.Math.Seq.{set-append_seam}

module _ {A : Type 0} where
  pub seam-1 : (before part : List A) (hole node : A) → slice_set ((before ++ hole ∷ []) ++ part) (length before) node ≡ before ++ (node ∷ part)
  seam-1 before part hole node =
      ap (λ (l : List A). slice_set l (length before) node) (append_assoc before (hole ∷ []) part) ∙ set-append_seam before hole part node

  pub seam-2 : (before part1 part2 : List A) (hole node : A) → slice_set (((before ++ hole ∷ []) ++ part1) ++ part2) (length before) node ≡ before ++ (node ∷ (part1 ++ part2))
  seam-2 before part1 part2 hole node =
      ap (λ (l : List A). slice_set l (length before) node) (append_assoc (before ++ hole ∷ []) part1 part2) ∙ seam-1 before (part1 ++ part2) hole node

  pub seam-3 : (before part1 part2 part3 : List A) (hole node : A) → slice_set ((((before ++ hole ∷ []) ++ part1) ++ part2) ++ part3) (length before) node ≡ before ++ (node ∷ ((part1 ++ part2) ++ part3))
  seam-3 before part1 part2 part3 hole node =
      ap (λ (l : List A). slice_set l (length before) node) (append_assoc ((before ++ hole ∷ []) ++ part1) part2 part3
      ∙ append_assoc (before ++ hole ∷ []) part1 (part2 ++ part3))
      ∙ seam-1 before (part1 ++ (part2 ++ part3)) hole node ∙ ap (λ (l : List A). before ++ (node ∷ l)) (sym (append_assoc part1 part2 part3))
