-- What steps bring where they come to an end that is no fault.
use Rattle.std.proofs.Common.{◌≡◌, List, refl, ap, subst}
use Rattle.std.specs.Prelude.{Result, Ok, Err}
use Rattle.dsde_values.specs.declared.path.Path.{Path}
use Rattle.dsde_faults.specs.declared.end.LeafEnd.{LeafEnd}
use Rattle.dsde_faults.specs.declared.end.LeafEnd.TheVariants as leaf_end
use Rattle.dsde_sim_tree.specs.declared.event.Event.{Event}
use Rattle.dsde_sim_tree.specs.declared.fault.TurnEnd.{TurnEnd}
use Rattle.dsde_sim_tree.specs.Told.{Told, told, ◌then◌, at}
use Rattle.dsde_sim_tree.specs.given.formalism.Leaf as formalism

abbrev pub Brings : {A : Type 0} → (A → Type 0) → Told A → Type 0
Brings {A} P step = (value : A) → step.end ≡ Ok value → P value

pub ok-is : {A E : Type 0} (x y : A) → (let own : Result A E = Ok x in own ≡ Ok y) → x ≡ y
ok-is x y is = cc

pub brings-then : {A B : Type 0} (P : A → Type 0) (Q : B → Type 0) (events : List Event) (end : Result A TurnEnd) (next : A → Told B) →
    ((value : A) → end ≡ Ok value → P value) → ((value : A) → P value → Brings Q (next value)) →
    (let step : Told A = record { events = events; end = end } in Brings Q (step then next))
brings-then P Q events (Ok value) next first later result is = later value (first value refl) result is
brings-then P Q events (Err why) next first later result is = absurd (cc is)

pub brings-told : {A : Type 0} (P : A → Type 0) (events : List Event) (value : A) → P value → Brings P (told events value)
brings-told P events value own result is = subst P (ok-is value result is) own

pub at-ok : {A : Type 0} (path : Path) (found : Result A LeafEnd) (value : A) → at path found ≡ Ok value → found ≡ Ok value
at-ok path (Ok own) value is = ap (λ x. Ok x) (ok-is own value is)
at-ok path (Err (leaf_end.Fault site kind place)) value is = absurd (cc is)
at-ok path (Err leaf_end.Memory) value is = absurd (cc is)

pub bind-ok : {A B E : Type 0} (found : Result A E) (next : A → Result B E) (value : B) → formalism.◌>>=◌ found next ≡ Ok value → (x : A) × (found ≡ Ok x) × (next x ≡ Ok value)
bind-ok (Ok x) next value is = (x, refl, is)
bind-ok (Err why) next value is = absurd (cc is)
