-- Outcomes that hold what is asked of them, as ends of components.
use Rattle.std.proofs.Common.{false, Result, Ok, Err, refl}
use Rattle.dsde_faults.specs.declared.kind.Site.{Site}
use Rattle.dsde_faults.specs.declared.end.LeafEnd.{LeafEnd}
use Rattle.dsde_faults.specs.declared.end.LeafEnd.TheVariants as leaf_end
use Rattle.dsde_sim_tree.specs.given.language.Outcome.{Fault, Stuck, Outcome}
use Rattle.dsde_sim_tree.specs.given.language.Typed.{Sound}
use Rattle.dsde_sim_tree.specs.given.formalism.Leaf as formalism
use Rattle.dsde_system.specs.Body.{at_site}
use Rattle.dsde_sound_structures.specs.Sure.{Sure}

-- what is sound is sure in a part of a component
pub sure-at : {A : Type 0} (site : Site) (P : A → Type 0) (meant : Outcome A) → Sound false P meant → Sure P (at_site site meant)
sure-at site P (Ok value) h = h
sure-at site P (Err (Fault kind at)) h = tt
sure-at site P (Err Stuck) h = absurd h

-- a step on what holds
pub sure-then : {A B : Type 0} (P : A → Type 0) (Q : B → Type 0) (meant : Result A LeafEnd) (next : A → Result B LeafEnd) → Sure P meant → ((value : A) → P value → Sure Q (next value)) → Sure Q (formalism.◌>>=◌ meant next)
sure-then P Q (Ok value) next h step = step value h
sure-then P Q (Err (leaf_end.Fault site kind at)) next h step = tt
sure-then P Q (Err leaf_end.Memory) next h step = absurd h

-- what holds of each value that is sound
pub sound-more : {A : Type 0} (P Q : A → Type 0) (meant : Outcome A) → Sound false P meant → ((value : A) → P value → Q value) → Sound false Q meant
sound-more P Q (Ok value) h more = more value h
sound-more P Q (Err (Fault kind at)) h more = refl
sound-more P Q (Err Stuck) h more = absurd h

-- what holds more
pub sure-more : {A : Type 0} (P Q : A → Type 0) (meant : Result A LeafEnd) → Sure P meant → ((value : A) → P value → Q value) → Sure Q meant
sure-more P Q (Ok value) h more = more value h
sure-more P Q (Err (leaf_end.Fault site kind at)) h more = tt
sure-more P Q (Err leaf_end.Memory) h more = absurd h
