-- What holds where a source tells its bytes.
use Rattle.std.proofs.Common.{List, ℕ}
use Rattle.std.specs.Prelude.{Option, Some, None}
use Rattle.dsde_run.specs.Reading.{Told}

-- What holds of two calls, one after the other.
pub Told-then : (left between rest : Option (List ℕ)) {P Q R : List ℕ → List ℕ → Type 0} → Told left between P → Told between rest Q →
    ((before mid after : List ℕ) → P before mid → Q mid after → R before after) → Told left rest R
Told-then None between rest first second both = tt
Told-then (Some before) None rest first second both = absurd first
Told-then (Some before) (Some mid) None first second both = absurd second
Told-then (Some before) (Some mid) (Some after) first second both = both before mid after first second

pub Told-weaker : (left rest : Option (List ℕ)) {P Q : List ℕ → List ℕ → Type 0} → Told left rest P → ((before after : List ℕ) → P before after → Q before after) → Told left rest Q
Told-weaker None rest first weaker = tt
Told-weaker (Some before) None first weaker = absurd first
Told-weaker (Some before) (Some after) first weaker = weaker before after first

-- What holds where nothing was taken.
pub Told-same : (left : Option (List ℕ)) (P : List ℕ → List ℕ → Type 0) → ((bytes : List ℕ) → P bytes bytes) → Told left left P
Told-same None P same = tt
Told-same (Some bytes) P same = same bytes
