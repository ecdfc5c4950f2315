-- Parts and what stands in their place: what one place has another has not to do with.
use Rattle.std.proofs.Common.{◌≡◌, Bool, true, false, List, [], ◌∷◌, Option, Some, None, refl, sym, ◌∙◌, ap, subst}
use Rattle.std.specs.Prelude.{if◌then◌else◌, option_and_then, option_map}
use Rattle.dsde_sim_tree.specs.Tree.{name_of}
use Rattle.dsde_values.specs.declared.name.Name.{Name}
use Rattle.dsde_values.specs.declared.value.Value.{Value}
use Rattle.dsde_sim_tree.specs.given.language.ids_ModelId.{ModelId}
use Rattle.dsde_sim_tree.specs.given.formalism.leaf_Leaf.{Leaf}
use Rattle.dsde_sim_tree.specs.given.structure.plan_Link.{Link}
use Rattle.dsde_sim_tree.specs.given.structure.Gather.{is_same_name}
use Rattle.dsde_sim_tree.specs.declared.sim.Kid.{Kid}
use Rattle.dsde_sim_tree.specs.declared.sim.Sim.{Sim}
use Rattle.dsde_sim_tree.specs.declared.sim.Sim.TheVariants as sim
use Rattle.dsde_sim_tree.specs.declared.sim.Sim.TheViews.{out-Kid, out-Net}
use Rattle.dsde_sim_tree.specs.Start.{kid_of}
use Rattle.dsde_sim_tree.specs.lemmas.Trees.{each_tree}
use Rattle.dsde_sim_movers.specs.Parts.{kid_named, with_named, part_in, part_at, with_in, with_part, are_apart}
use Rattle.dsde_sim_movers.specs.lemmas.Seats.{out-Leaf, whole, whole-of, named, own-sim, if-true, if-false, part_at-whole, with_part-whole}

-- a fact of each tree, by leaves and by networks of parts
pub by_parts : (P : Sim → Type 0) → ((leaf : Leaf) → P (sim.Leaf leaf)) →
    ((model : ModelId) (args : List Value) (boss : Leaf) (kids : List Kid) (links : List Link) → P (whole model args boss kids links)) → (tree : Sim) → P tree
by_parts P of_leaf of_whole =
    each_tree P of_leaf (λ net _. subst P (sym (whole-of net)) (of_whole (out-Net net).model (out-Net net).args (out-Net net).boss (out-Net net).kids (out-Net net).links))

pub with-leaf : (names : List Name) (name : Name) (own : Sim) (leaf : Leaf) → with_part (name ∷ names) own (sim.Leaf leaf) ≡ sim.Leaf leaf
with-leaf names name own leaf = ap (with_in name (with_part names own) (sim.Leaf leaf)) (out-Leaf leaf)

pub part-leaf : (names : List Name) (name : Name) (leaf : Leaf) → part_at (name ∷ names) (sim.Leaf leaf) ≡ None
part-leaf names name leaf = ap (part_in name (part_at names)) (out-Leaf leaf)

module _ (same : (name : Name) → is_same_name name name ≡ true) (exact : (name other : Name) → is_same_name name other ≡ true → name ≡ other) where
  -- one of a pair of names that differ is not the other
  differs : (own name other : Name) → is_same_name name other ≡ false → is_same_name own name ≡ true → is_same_name own other ≡ false
  differs own name other differ is = ap (λ (n : Name). is_same_name n other) (exact own name is) ∙ differ

  differs-back : (own name other : Name) → is_same_name name other ≡ false → is_same_name own other ≡ true → is_same_name own name ≡ false
  differs-back own name other differ is = by (is_same_name own name) refl
    where
      by : (b : Bool) → is_same_name own name ≡ b → is_same_name own name ≡ false
      by true here = absurd (let e : true ≡ false = sym is ∙ differs own name other differ here in cc)
      by false here = here

  -- a component of another name stays
  named-other-by : (name other : Name) (change : Sim → Sim) → is_same_name name other ≡ false → (kid : Kid) (kids : List Kid) (here there : Bool) →
      is_same_name (name_of kid) name ≡ here → is_same_name (name_of kid) other ≡ there → kid_named other (with_named name change kids) ≡ kid_named other kids →
      kid_named other (if here then kid_of (name_of kid) (change (out-Kid kid).sim) ∷ kids else kid ∷ with_named name change kids) ≡ (if there then Some (out-Kid kid).sim else kid_named other kids)
  named-other-by name other change differ kid kids true true here there rest = absurd (let e : true ≡ false = sym there ∙ differs (name_of kid) name other differ here in cc)
  named-other-by name other change differ kid kids true false here there rest =
      if-false (is_same_name (name_of (kid_of (name_of kid) (change (out-Kid kid).sim))) other) _ _ (ap (λ (n : Name). is_same_name n other) (named (name_of kid) (change (out-Kid kid).sim)) ∙ there)
  named-other-by name other change differ kid kids false true here there rest = if-true (is_same_name (name_of kid) other) _ _ there
  named-other-by name other change differ kid kids false false here there rest = if-false (is_same_name (name_of kid) other) _ _ there ∙ rest

  pub named-other : (name other : Name) (change : Sim → Sim) → is_same_name name other ≡ false → (kids : List Kid) → kid_named other (with_named name change kids) ≡ kid_named other kids
  named-other name other change differ [] = refl
  named-other name other change differ (kid ∷ kids) =
      named-other-by name other change differ kid kids (is_same_name (name_of kid) name) (is_same_name (name_of kid) other) refl refl (named-other name other change differ kids)

  -- the component itself is what it is changed to
  named-own-by : (name : Name) (change : Sim → Sim) (kid : Kid) (kids : List Kid) (here : Bool) → is_same_name (name_of kid) name ≡ here →
      kid_named name (with_named name change kids) ≡ option_map change (kid_named name kids) →
      kid_named name (if here then kid_of (name_of kid) (change (out-Kid kid).sim) ∷ kids else kid ∷ with_named name change kids)
      ≡ option_map change (if here then Some (out-Kid kid).sim else kid_named name kids)
  named-own-by name change kid kids true here rest =
      if-true (is_same_name (name_of (kid_of (name_of kid) (change (out-Kid kid).sim))) name) _ _ (ap (λ (n : Name). is_same_name n name) (named (name_of kid) (change (out-Kid kid).sim)) ∙ here)
      ∙ ap (λ (s : Sim). Some s) (own-sim (name_of kid) (change (out-Kid kid).sim))
  named-own-by name change kid kids false here rest = if-false (is_same_name (name_of kid) name) _ _ here ∙ rest

  pub named-own : (name : Name) (change : Sim → Sim) (kids : List Kid) → kid_named name (with_named name change kids) ≡ option_map change (kid_named name kids)
  named-own name change [] = refl
  named-own name change (kid ∷ kids) = named-own-by name change kid kids (is_same_name (name_of kid) name) refl (named-own name change kids)

  -- two changes of one component
  with-twice-by : (name : Name) (first later : Sim → Sim) (kid : Kid) (kids : List Kid) (here : Bool) → is_same_name (name_of kid) name ≡ here →
      with_named name later (with_named name first kids) ≡ with_named name (λ own. later (first own)) kids →
      with_named name later (if here then kid_of (name_of kid) (first (out-Kid kid).sim) ∷ kids else kid ∷ with_named name first kids)
      ≡ (if here then kid_of (name_of kid) (later (first (out-Kid kid).sim)) ∷ kids else kid ∷ with_named name (λ own. later (first own)) kids)
  with-twice-by name first later kid kids true here rest =
      if-true (is_same_name (name_of (kid_of (name_of kid) (first (out-Kid kid).sim))) name) _ _ (ap (λ (n : Name). is_same_name n name) (named (name_of kid) (first (out-Kid kid).sim)) ∙ here)
      ∙ (λ i. kid_of (named (name_of kid) (first (out-Kid kid).sim) i) (later (own-sim (name_of kid) (first (out-Kid kid).sim) i)) ∷ kids)
  with-twice-by name first later kid kids false here rest =
      if-false (is_same_name (name_of kid) name) _ _ here ∙ ap (λ (own : List Kid). kid ∷ own) rest

  pub with-twice : (name : Name) (first later : Sim → Sim) (kids : List Kid) → with_named name later (with_named name first kids) ≡ with_named name (λ own. later (first own)) kids
  with-twice name first later [] = refl
  with-twice name first later (kid ∷ kids) = with-twice-by name first later kid kids (is_same_name (name_of kid) name) refl (with-twice name first later kids)

  -- changes of two components
  with-both-by : (name other : Name) (change shift : Sim → Sim) → is_same_name name other ≡ false → (kid : Kid) (kids : List Kid) (here there : Bool) →
      is_same_name (name_of kid) name ≡ here → is_same_name (name_of kid) other ≡ there →
      with_named name change (with_named other shift kids) ≡ with_named other shift (with_named name change kids) →
      with_named name change (if there then kid_of (name_of kid) (shift (out-Kid kid).sim) ∷ kids else kid ∷ with_named other shift kids)
      ≡ with_named other shift (if here then kid_of (name_of kid) (change (out-Kid kid).sim) ∷ kids else kid ∷ with_named name change kids)
  with-both-by name other change shift differ kid kids true true here there rest = absurd (let e : true ≡ false = sym there ∙ differs (name_of kid) name other differ here in cc)
  with-both-by name other change shift differ kid kids true false here there rest =
      if-true (is_same_name (name_of kid) name) _ _ here
      ∙ sym (if-false (is_same_name (name_of (kid_of (name_of kid) (change (out-Kid kid).sim))) other) _ _ (ap (λ (n : Name). is_same_name n other) (named (name_of kid) (change (out-Kid kid).sim)) ∙ there))
  with-both-by name other change shift differ kid kids false true here there rest =
      if-false (is_same_name (name_of (kid_of (name_of kid) (shift (out-Kid kid).sim))) name) _ _ (ap (λ (n : Name). is_same_name n name) (named (name_of kid) (shift (out-Kid kid).sim)) ∙ here)
      ∙ sym (if-true (is_same_name (name_of kid) other) _ _ there)
  with-both-by name other change shift differ kid kids false false here there rest =
      if-false (is_same_name (name_of kid) name) _ _ here ∙ ap (λ (own : List Kid). kid ∷ own) rest ∙ sym (if-false (is_same_name (name_of kid) other) _ _ there)

  pub with-both : (name other : Name) (change shift : Sim → Sim) → is_same_name name other ≡ false → (kids : List Kid) →
      with_named name change (with_named other shift kids) ≡ with_named other shift (with_named name change kids)
  with-both name other change shift differ [] = refl
  with-both name other change shift differ (kid ∷ kids) =
      with-both-by name other change shift differ kid kids (is_same_name (name_of kid) name) (is_same_name (name_of kid) other) refl refl (with-both name other change shift differ kids)

  apart-cons-by : (name other : Name) (names others : List Name) (here : Bool) → is_same_name name other ≡ here → are_apart (name ∷ names) (other ∷ others) ≡ (if here then are_apart names others else true)
  apart-cons-by name other names others here is = ap (λ (b : Bool). if b then are_apart names others else true) is

  -- what stands apart stays
  part-apart-by : (name other : Name) (names others : List Name) (own : Sim) →
      (are_apart names others ≡ true → (tree : Sim) → part_at others (with_part names own tree) ≡ part_at others tree) →
      (here : Bool) → is_same_name name other ≡ here → are_apart (name ∷ names) (other ∷ others) ≡ true → (kids : List Kid) →
      option_and_then (part_at others) (kid_named other (with_named name (with_part names own) kids)) ≡ option_and_then (part_at others) (kid_named other kids)
  part-apart-by name other names others own later true is apart kids =
      let same_one : name ≡ other = exact name other is in
      let beneath : are_apart names others ≡ true = sym (apart-cons-by name other names others true is) ∙ apart in
      ap (λ (n : Name). option_and_then (part_at others) (kid_named n (with_named name (with_part names own) kids))) (sym same_one)
      ∙ ap (option_and_then (part_at others)) (named-own name (with_part names own) kids)
      ∙ of_found (later beneath) (kid_named name kids)
      ∙ ap (λ (n : Name). option_and_then (part_at others) (kid_named n kids)) same_one
    where
      of_found : ((tree : Sim) → part_at others (with_part names own tree) ≡ part_at others tree) → (found : Option Sim) →
          option_and_then (part_at others) (option_map (with_part names own) found) ≡ option_and_then (part_at others) found
      of_found same_part None = refl
      of_found same_part (Some tree) = same_part tree
  part-apart-by name other names others own later false is apart kids =
      ap (option_and_then (part_at others)) (named-other name other (with_part names own) is kids)

  pub part-apart : (names others : List Name) → are_apart names others ≡ true → (own tree : Sim) → part_at others (with_part names own tree) ≡ part_at others tree
  part-apart [] others apart own tree = absurd (let e : false ≡ true = apart in cc)
  part-apart (name ∷ names) [] apart own tree = absurd (let e : false ≡ true = apart in cc)
  part-apart (name ∷ names) (other ∷ others) apart own tree =
      by_parts (λ (t : Sim). part_at (other ∷ others) (with_part (name ∷ names) own t) ≡ part_at (other ∷ others) t)
      (λ leaf. ap (part_at (other ∷ others)) (with-leaf names name own leaf))
      (λ model args boss kids links.
      ap (part_at (other ∷ others)) (with_part-whole name names own model args boss kids links)
      ∙ part_at-whole other others model args boss (with_named name (with_part names own) kids) links
      ∙ part-apart-by name other names others own (λ beneath t. part-apart names others beneath own t) (is_same_name name other) refl apart kids
      ∙ sym (part_at-whole other others model args boss kids links))
      tree

  with-apart-by : (name other : Name) (names others : List Name) (own part : Sim) →
      (are_apart names others ≡ true → (tree : Sim) → with_part names own (with_part others part tree) ≡ with_part others part (with_part names own tree)) →
      (here : Bool) → is_same_name name other ≡ here → are_apart (name ∷ names) (other ∷ others) ≡ true → (kids : List Kid) →
      with_named name (with_part names own) (with_named other (with_part others part) kids) ≡ with_named other (with_part others part) (with_named name (with_part names own) kids)
  with-apart-by name other names others own part later true is apart kids =
      let same_one : name ≡ other = exact name other is in
      let beneath : are_apart names others ≡ true = sym (apart-cons-by name other names others true is) ∙ apart in
      ap (λ (n : Name). with_named name (with_part names own) (with_named n (with_part others part) kids)) (sym same_one)
      ∙ with-twice name (with_part others part) (with_part names own) kids
      ∙ ap (λ (change : Sim → Sim). with_named name change kids) (λ i tree. later beneath tree i)
      ∙ sym (with-twice name (with_part names own) (with_part others part) kids)
      ∙ ap (λ (n : Name). with_named n (with_part others part) (with_named name (with_part names own) kids)) same_one
  with-apart-by name other names others own part later false is apart kids = with-both name other (with_part names own) (with_part others part) is kids

  -- two places that are apart, in either order
  pub with-apart : (names others : List Name) → are_apart names others ≡ true → (own part tree : Sim) →
      with_part names own (with_part others part tree) ≡ with_part others part (with_part names own tree)
  with-apart [] others apart own part tree = absurd (let e : false ≡ true = apart in cc)
  with-apart (name ∷ names) [] apart own part tree = absurd (let e : false ≡ true = apart in cc)
  with-apart (name ∷ names) (other ∷ others) apart own part tree =
      by_parts (λ (t : Sim). with_part (name ∷ names) own (with_part (other ∷ others) part t) ≡ with_part (other ∷ others) part (with_part (name ∷ names) own t))
      (λ leaf. ap (with_part (name ∷ names) own) (with-leaf others other part leaf) ∙ with-leaf names name own leaf
      ∙ sym (ap (with_part (other ∷ others) part) (with-leaf names name own leaf) ∙ with-leaf others other part leaf))
      (λ model args boss kids links.
      ap (with_part (name ∷ names) own) (with_part-whole other others part model args boss kids links)
      ∙ with_part-whole name names own model args boss (with_named other (with_part others part) kids) links
      ∙ ap (λ (own_kids : List Kid). whole model args boss own_kids links)
      (with-apart-by name other names others own part (λ beneath t. with-apart names others beneath own part t) (is_same_name name other) refl apart kids)
      ∙ sym (ap (with_part (other ∷ others) part) (with_part-whole name names own model args boss kids links)
      ∙ with_part-whole other others part model args boss (with_named name (with_part names own) kids) links))
      tree

  -- what was put in a place stands there
  with-itself-by : (names : List Name) (own part : Sim) (found : Option Sim) →
      ((tree : Sim) → part_at names tree ≡ Some part → part_at names (with_part names own tree) ≡ Some own) →
      option_and_then (part_at names) found ≡ Some part → option_and_then (part_at names) (option_map (with_part names own) found) ≡ Some own
  with-itself-by names own part None later is = absurd (let e : None ≡ Some part = is in cc)
  with-itself-by names own part (Some tree) later is = later tree is

  pub with-itself : (names : List Name) (own part tree : Sim) → part_at names tree ≡ Some part → part_at names (with_part names own tree) ≡ Some own
  with-itself [] own part tree = λ is. refl
  with-itself (name ∷ names) own part tree =
      by_parts (λ (t : Sim). part_at (name ∷ names) t ≡ Some part → part_at (name ∷ names) (with_part (name ∷ names) own t) ≡ Some own)
      (λ leaf is. absurd (let e : None ≡ Some part = sym (part-leaf names name leaf) ∙ is in cc))
      (λ model args boss kids links is.
      ap (part_at (name ∷ names)) (with_part-whole name names own model args boss kids links)
      ∙ part_at-whole name names model args boss (with_named name (with_part names own) kids) links
      ∙ ap (option_and_then (part_at names)) (named-own name (with_part names own) kids)
      ∙ with-itself-by names own part (kid_named name kids) (λ t found. with-itself names own part t found) (sym (part_at-whole name names model args boss kids links) ∙ is))
      tree

  apart-back-by : (name other : Name) (names others : List Name) → (are_apart names others ≡ true → are_apart others names ≡ true) → (here : Bool) → is_same_name name other ≡ here → (there : Bool) → is_same_name other name ≡ there →
      are_apart (name ∷ names) (other ∷ others) ≡ true → are_apart (other ∷ others) (name ∷ names) ≡ true
  apart-back-by name other names others later here is false back apart = apart-cons-by other name others names false back
  apart-back-by name other names others later true is true back apart =
      apart-cons-by other name others names true back ∙ later (sym (apart-cons-by name other names others true is) ∙ apart)
  apart-back-by name other names others later false is true back apart =
      absurd (let e : true ≡ false = sym (subst (λ (n : Name). is_same_name name n ≡ true) (sym (exact other name back)) (same name)) ∙ is in cc)

  pub apart-back : (names others : List Name) → are_apart names others ≡ true → are_apart others names ≡ true
  apart-back [] others apart = absurd (let e : false ≡ true = apart in cc)
  apart-back (name ∷ names) [] apart = absurd (let e : false ≡ true = apart in cc)
  apart-back (name ∷ names) (other ∷ others) apart =
      apart-back-by name other names others (apart-back names others) (is_same_name name other) refl (is_same_name other name) refl apart
