-- The first component of a name, and the others.
use Rattle.std.proofs.Common.{◌≡◌, ◌||◌, Bool, true, false, List, [], ◌∷◌, Option, Some, None, refl, sym, ◌∙◌, ap}
use Rattle.std.specs.Prelude.{if◌then◌else◌}
use Rattle.std.specs.List.{list_any}
use Rattle.dsde_values.specs.declared.name.Name.{Name}
use Rattle.dsde_structure.specs.Gather.{is_same_name}
use Rattle.dsde_sim_tree.specs.declared.sim.Kid.{Kid}
use Rattle.dsde_sim_tree.specs.Tree.{name_of}
use Rattle.dsde_sim_tree.specs.Move.{take_named}
use Rattle.dsde_core_moves.specs.given.core_flat.lemmas_Names.{name-exact}

-- some component has a name
abbrev pub has_named : Name → List Kid → Bool
has_named name kids = list_any (λ kid. is_same_name (name_of kid) name) kids

-- The one that is taken has the name, and the others are found as before.
pub record Takes (name : Name) (kids : List Kid) (taken : Kid × List Kid) : Type 0 where
  pub has : has_named name kids ≡ true
  pub others : (other : Name) → is_same_name name other ≡ false → has_named other taken.1 ≡ has_named other kids
  pub named : name_of taken.0 ≡ name

abbrev pub Found : Name → List Kid → Option (Kid × List Kid) → Type 0
Found name kids None = has_named name kids ≡ false
Found name kids (Some taken) = Takes name kids taken

take-by : (name : Name) (kid : Kid) (kids : List Kid) (here : Bool) → is_same_name (name_of kid) name ≡ here → (found : Option (Kid × List Kid)) → Found name kids found →
    (let own : Option (Kid × List Kid) = if here then Some (kid, kids) else (elim found [ Some taken ↦ Some (taken.0, kid ∷ taken.1) | None ↦ None ]) in Found name (kid ∷ kids) own)
take-by name kid kids true is found fact =
    let same = name-exact (name_of kid) name is in
    record {
      has = ap (λ (b : Bool). b || has_named name kids) is;
      others = λ other unlike. sym (ap (λ (b : Bool). b || has_named other kids) (ap (λ (n : Name). is_same_name n other) same ∙ unlike));
      named = same;
    }
take-by name kid kids false is (Some taken) fact = record {
  has = ap (λ (b : Bool). b || has_named name kids) is ∙ fact.has;
  others = λ other unlike. ap (λ (b : Bool). is_same_name (name_of kid) other || b) (fact.others other unlike);
  named = fact.named;
}
take-by name kid kids false is None fact = ap (λ (b : Bool). b || has_named name kids) is ∙ fact

pub taken-fact : (name : Name) (kids : List Kid) → Found name kids (take_named name kids)
taken-fact name [] = refl
taken-fact name (kid ∷ kids) = take-by name kid kids (is_same_name (name_of kid) name) refl (take_named name kids) (taken-fact name kids)
