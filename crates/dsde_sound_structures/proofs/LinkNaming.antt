-- Entries and ports, by the names of components.
use Rattle.std.proofs.Common.{◌≡◌, ℕ, zero, suc, ◌<◌, Bool, true, false, List, [], ◌∷◌, length, get_or, Option, Some, slice_get, sym, ◌∙◌, ap, subst, arith, rules}
use Rattle.std.specs.declared.cmp.Ordering.TheVariants.{Less, Equal}
use Rattle.std.specs.Cmp.{IsTotalOrder, Equal-is}
use Rattle.std.specs.Cmp.Rules.{comparing}
use Rattle.std.specs.List.{AllByRecursion}
use Rattle.std.proofs.lemmas.Cmp.{tied_itself}
use Rattle.std.proofs.lemmas.Map.Keys.{sorted_head, sorted_tail}
use Rattle.dsde_sim_tree.specs.given.syntax.decl_Model.{Model}
use Rattle.dsde_values.specs.declared.name.Name.{Name}
use Rattle.dsde_values.specs.declared.types.Field.{Field}
use Rattle.dsde_values.specs.Path.{name_cmp}
use Rattle.dsde_sim_tree.specs.given.structure.plan_Entry.{Entry}
use Rattle.dsde_sim_tree.specs.given.structure.plan_Part.{Part}
use Rattle.dsde_sim_tree.specs.given.structure.plan_Part_TheVariants as part
use Rattle.dsde_sim_tree.specs.given.structure.Gather.{is_part, is_same_name}
use Rattle.dsde_sim_tree.specs.given.structure.Survival.{IsInOrder, names}
use Rattle.dsde_sim_tree.specs.given.language.DeclaredModels.{Own, owns_of}
use Rattle.dsde_system.specs.Plans.{ArePortsOf, HasKid, ways}

total : IsTotalOrder name_cmp
total = search (comparing, rules)

at-index : (P : Name → Type 0) (es : List Entry) → AllByRecursion P (names es) → (k : ℕ) (d : Entry) → k < length es → P (get_or es k d).name
at-index P [] all k d below = absurd (omega arith)
at-index P (e ∷ es) all zero d below = all.0
at-index P (e ∷ es) all (suc k) d below = at-index P es all.1 k d (omega arith)

-- no later entry has the first one's name
no-later : (first : Name) (es : List Entry) → AllByRecursion (λ y. name_cmp first y ≡ Less) (names es) → (k : ℕ) (e : Entry) → k < length es → get_or es k e ≡ e → first ≡ e.name → ⊥
no-later first es before k e below is same =
    let less : name_cmp first (get_or es k e).name ≡ Less = at-index (λ y. name_cmp first y ≡ Less) es before k e below in
    let here : name_cmp first first ≡ Less = subst (λ (n : Name). name_cmp first n ≡ Less) (ap (λ (x : Entry). x.name) is ∙ sym same) less in
    let wrong : Less ≡ Equal = sym here ∙ tied_itself total first in
    cc

-- entries in order are told by their names
unique : (es : List Entry) → IsInOrder es → (i j : ℕ) (a b : Entry) → i < length es → j < length es → get_or es i a ≡ a → get_or es j b ≡ b → a.name ≡ b.name → a ≡ b
unique [] order i j a b below_i below_j is_a is_b same = absurd (omega arith)
unique (e ∷ es) order zero zero a b below_i below_j is_a is_b same = sym is_a ∙ is_b
unique (e ∷ es) order zero (suc j) a b below_i below_j is_a is_b same =
    absurd (no-later e.name es (sorted_head name_cmp e.name (names es) order) j b (omega arith) is_b (ap (λ (x : Entry). x.name) is_a ∙ same))
unique (e ∷ es) order (suc i) zero a b below_i below_j is_a is_b same =
    absurd (no-later e.name es (sorted_head name_cmp e.name (names es) order) i a (omega arith) is_a (ap (λ (x : Entry). x.name) is_b ∙ sym same))
unique (e ∷ es) order (suc i) (suc j) a b below_i below_j is_a is_b same =
    unique es (sorted_tail name_cmp e.name (names es) order) i j a b (omega arith) (omega arith) is_a is_b same

some-own : (a b : Own) → (let r : Option Own = Some a in r) ≡ Some b → a ≡ b
some-own a b e = cc

module _ (one : (name other : Name) → name_cmp name other ≡ Equal → name ≡ other) (model : Model) (own : Own) (entries : List Entry) (order : IsInOrder entries) where
  -- components of one name have the same ports
  pub kid-ports : (name other : Name) (is_source : Bool) (ports others : List Field) → name ≡ other → HasKid model entries name is_source ports → HasKid model entries other is_source others → ports ≡ others
  kid-ports name other is_source ports others same kid its =
      let one_entry : kid.entry ≡ its.entry =
      unique entries order kid.among.0 its.among.0 kid.entry its.entry kid.among.1 its.among.1 kid.among.2 its.among.2 (kid.named ∙ same ∙ sym its.named) in
      let one_own : kid.own ≡ its.own =
      some-own kid.own its.own (sym kid.found ∙ ap (λ (e : Entry). slice_get (owns_of model.decls) e.model.0) one_entry ∙ its.found) in
      sym kid.are ∙ ap (λ (o : Own). ways model o is_source) one_own ∙ its.are

  pub one-name : (name other : Name) → is_same_name name other ≡ true → name ≡ other
  one-name name other is = one name other ((Equal-is (name_cmp name other)).0 is)

  -- a part has the same ports however it is named
  pub part-ports : (a b : Part) (is_source : Bool) (ports others : List Field) → is_part a b ≡ true → ArePortsOf model own entries is_source a ports → ArePortsOf model own entries is_source b others → ports ≡ others
  part-ports part.Net part.Net is_source ports others is are its = sym are ∙ its
  part-ports part.Boss part.Boss is_source ports others is are its = sym are ∙ its
  part-ports (part.Kid name) (part.Kid other) is_source ports others is are its = kid-ports name other is_source ports others (one-name name other is) are its
  part-ports part.Net part.Boss is_source ports others is are its = absurd (let e : false ≡ true = is in cc)
  part-ports part.Net (part.Kid other) is_source ports others is are its = absurd (let e : false ≡ true = is in cc)
  part-ports part.Boss part.Net is_source ports others is are its = absurd (let e : false ≡ true = is in cc)
  part-ports part.Boss (part.Kid other) is_source ports others is are its = absurd (let e : false ≡ true = is in cc)
  part-ports (part.Kid name) part.Net is_source ports others is are its = absurd (let e : false ≡ true = is in cc)
  part-ports (part.Kid name) part.Boss is_source ports others is are its = absurd (let e : false ≡ true = is in cc)
