-- The words that a generator has next.
use Rattle.std.specs.Prelude.{ℕ, zero, suc, List, [], ◌∷◌}
use Rattle.rand_pcg.specs.Lcg.{Lcg}
use Rattle.rand_pcg.specs.Pcg.{pcg32, pcg32_of_seed}
use Rattle.rand_core.specs.Pcg32Seed.{pcg32_seed}

-- so many words of it, one after another
abbrev pub next_words : ℕ → Lcg → List ℕ
next_words zero generator = []
next_words (suc count) generator = (pcg32 generator).0 ∷ next_words count (pcg32 generator).1

-- the generator behind so many words
abbrev pub behind : ℕ → Lcg → Lcg
behind zero generator = generator
behind (suc count) generator = behind count (pcg32 generator).1

-- the generator of a seed
abbrev pub seeded : ℕ → Lcg
seeded seed = pcg32_of_seed (pcg32_seed 16 seed)
