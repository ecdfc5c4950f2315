-- How many words there are.
use Rattle.std.proofs.Common.{◌≡◌, ℕ, zero, suc, length, refl, ap}
use Rattle.rand_pcg.specs.Lcg.{Lcg}
use Rattle.rand_pcg.specs.Pcg.{pcg32}
use Rattle.dsde_drawing.specs.Words.{next_words}

pub length-words : (count : ℕ) (generator : Lcg) → length (next_words count generator) ≡ count
length-words zero generator = refl
length-words (suc count) generator = ap suc (length-words count (pcg32 generator).1)
