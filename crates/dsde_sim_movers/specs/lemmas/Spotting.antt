-- What holds of each component and network of a tree holds of a part, and of the tree with another part in its place.
use Rattle.std.proofs.Common.{◌≡◌, Bool, true, false, List, [], ◌∷◌, map, Option, Some, None, refl, sym, ◌∙◌, ap, subst, inr}
use Rattle.std.specs.Prelude.{if◌then◌else◌, option_and_then}
use Rattle.std.specs.List.{AllByRecursion}
use Rattle.dsde_values.specs.declared.name.Name.{Name}
use Rattle.dsde_values.specs.declared.value.Value.{Value}
use Rattle.dsde_sim_tree.specs.given.language.ids_ModelId.{ModelId}
use Rattle.dsde_sim_tree.specs.given.formalism.leaf_Leaf.{Leaf}
use Rattle.dsde_sim_tree.specs.given.structure.plan_Entry.{Entry}
use Rattle.dsde_sim_tree.specs.given.structure.plan_Link.{Link}
use Rattle.dsde_sim_tree.specs.given.structure.Gather.{is_same_name}
use Rattle.dsde_sim_tree.specs.declared.sim.Kid.{Kid}
use Rattle.dsde_sim_tree.specs.declared.sim.Net.{Net}
use Rattle.dsde_sim_tree.specs.declared.sim.Sim.{Sim}
use Rattle.dsde_sim_tree.specs.declared.sim.Sim.TheOpen as layer
use Rattle.dsde_sim_tree.specs.declared.sim.Sim.TheOpen.{Sim-F, Net-F, Kid-F}
use Rattle.dsde_sim_tree.specs.declared.sim.Sim.TheViews.{out-Kid, out-Net, out-roll-Net}
use Rattle.dsde_sim_tree.specs.Opened.{shape_in, spots-Net, spots-kid, spots-net}
use Rattle.dsde_sim_tree.specs.Spots.{Spot, Shape, shape_of, spots, spots_of_kid}
use Rattle.dsde_sim_tree.specs.Start.{kid_of, net_of}
use Rattle.dsde_sim_tree.specs.Tree.{model_of, args_of, entry_of, name_of}
use Rattle.dsde_sim_movers.specs.lemmas.Events.{each-weaker, flat-each}
use Rattle.dsde_sim_movers.specs.Parts.{kid_named, with_named, part_at, with_part}
use Rattle.dsde_sim_movers.specs.lemmas.Seats.{out-Net-of, whole, named, own-sim, part_at-whole, with_part-whole}
use Rattle.dsde_sim_movers.specs.lemmas.Lenses.{by_parts, part-leaf}
use Rattle.dsde_sim_movers.specs.lemmas.Named.{net-spots}

-- the parts of a network of parts
pub opened : (model : ModelId) (args : List Value) (boss : Leaf) (kids : List Kid) (links : List Link) →
    out-Net (net_of model args boss kids links) ≡ record { model = model; args = args; boss = boss; kids = kids; links = links }
opened model args boss kids links = out-roll-Net (record { model = model; args = args; boss = boss; kids = kids; links = links })

module _ (P : Spot → Type 0) where
  abbrev pub Each : Sim → Type 0
  Each tree = AllByRecursion P (spots tree)

  abbrev pub EachKid : List Kid → Type 0
  EachKid kids = AllByRecursion (λ kid. AllByRecursion P (spots (out-Kid kid).sim)) kids

  pub whole-spots : (model : ModelId) (args : List Value) (boss : Leaf) (kids : List Kid) (links : List Link) → Each (whole model args boss kids links) →
      P (inr (shape_of model args boss kids links)) × EachKid kids
  whole-spots model args boss kids links each =
      let both = net-spots P (net_of model args boss kids links) each in (
        subst (λ (net : Net-F Sim Kid Net). P (inr (shape_of net.model net.args net.boss net.kids net.links))) (opened model args boss kids links) both.0,
        subst (λ (net : Net-F Sim Kid Net). EachKid net.kids) (opened model args boss kids links) both.1,
      )

  pub spots-whole : (model : ModelId) (args : List Value) (boss : Leaf) (kids : List Kid) (links : List Link) → P (inr (shape_of model args boss kids links)) → EachKid kids →
      Each (whole model args boss kids links)
  spots-whole model args boss kids links shape each =
      let net = net_of model args boss kids links in
      let made : P (inr (shape_in net)) = subst (λ (n : Net-F Sim Kid Net). P (inr (shape_of n.model n.args n.boss n.kids n.links))) (sym (opened model args boss kids links)) shape in
      let own : EachKid (out-Net net).kids = subst (λ (n : Net-F Sim Kid Net). EachKid n.kids) (sym (opened model args boss kids links)) each in
      subst (AllByRecursion P) (sym (spots-Net net ∙ spots-net net)) (
        made,
        flat-each P spots_of_kid (out-Net net).kids
            (each-weaker (λ kid. AllByRecursion P (spots (out-Kid kid).sim)) (λ kid. AllByRecursion P (spots_of_kid kid)) (λ kid. subst (AllByRecursion P) (sym (spots-kid kid))) (out-Net net).kids own),
      )

  found-spots-by : (kid : Kid) (kids : List Kid) (name : Name) (part : Sim) (here : Bool) → Each (out-Kid kid).sim → (kid_named name kids ≡ Some part → Each part) →
      (let found : Option Sim = if here then Some (out-Kid kid).sim else kid_named name kids in found ≡ Some part) → Each part
  found-spots-by kid kids name part true each later is = subst Each (let e : Some (out-Kid kid).sim ≡ Some part = is in cc) each
  found-spots-by kid kids name part false each later is = later is

  found-spots : (kids : List Kid) (name : Name) (part : Sim) → EachKid kids → kid_named name kids ≡ Some part → Each part
  found-spots [] name part each is = absurd (let e : None ≡ Some part = is in cc)
  found-spots (kid ∷ kids) name part each is = found-spots-by kid kids name part (is_same_name (name_of kid) name) each.0 (found-spots kids name part each.1) is

  spots-at-by : (names : List Name) (part : Sim) (kids : List Kid) (name : Name) (found : Option Sim) → kid_named name kids ≡ found → EachKid kids →
      ((tree : Sim) → Each tree → part_at names tree ≡ Some part → Each part) → option_and_then (part_at names) found ≡ Some part → Each part
  spots-at-by names part kids name None found each later is = absurd (let e : None ≡ Some part = is in cc)
  spots-at-by names part kids name (Some tree) found each later is = later tree (found-spots kids name tree each found) is

  -- a part of a tree
  pub spots-at : (names : List Name) (part tree : Sim) → Each tree → part_at names tree ≡ Some part → Each part
  spots-at [] part tree = λ each is. subst Each (let e : Some tree ≡ Some part = is in cc) each
  spots-at (name ∷ names) part tree =
      by_parts (λ (t : Sim). Each t → part_at (name ∷ names) t ≡ Some part → Each part)
      (λ leaf each is. absurd (let e : None ≡ Some part = sym (part-leaf names name leaf) ∙ is in cc))
      (λ model args boss kids links each is.
      spots-at-by names part kids name (kid_named name kids) refl (whole-spots model args boss kids links each).1 (λ t own there. spots-at names part t own there)
      (sym (part_at-whole name names model args boss kids links) ∙ is))
      tree

-- the model and the arguments of a network of parts
pub model-whole : (model : ModelId) (args : List Value) (boss : Leaf) (kids : List Kid) (links : List Link) → model_of (whole model args boss kids links) ≡ model
model-whole model args boss kids links =
    ap (λ (own : Sim-F Sim Kid Net). let found : ModelId = elim own [ layer.Leaf leaf ↦ leaf.model | layer.Net net ↦ (out-Net net).model ] in found) (out-Net-of (net_of model args boss kids links))
    ∙ ap (λ (net : Net-F Sim Kid Net). net.model) (opened model args boss kids links)

pub args-whole : (model : ModelId) (args : List Value) (boss : Leaf) (kids : List Kid) (links : List Link) → args_of (whole model args boss kids links) ≡ args
args-whole model args boss kids links =
    ap (λ (own : Sim-F Sim Kid Net). let found : List Value = elim own [ layer.Leaf leaf ↦ leaf.args | layer.Net net ↦ (out-Net net).args ] in found) (out-Net-of (net_of model args boss kids links))
    ∙ ap (λ (net : Net-F Sim Kid Net). net.args) (opened model args boss kids links)

-- a simulator of the same model with the same arguments
pub record IsAlike (own other : Sim) : Type 0 where
  pub model : model_of own ≡ model_of other
  pub args : args_of own ≡ args_of other

-- the entry of a component whose simulator is another that is alike
entry-alike : (kid : Kid) (own : Sim) → IsAlike own (out-Kid kid).sim → entry_of (kid_of (name_of kid) own) ≡ entry_of kid
entry-alike kid own alike =
    (λ i. record { name = named (name_of kid) own i; model = model_of (own-sim (name_of kid) own i); args = args_of (own-sim (name_of kid) own i); soft = false })
    ∙ (λ i. record { name = name_of kid; model = alike.model i; args = alike.args i; soft = false })

entries-by : (kid : Kid) (kids : List Kid) (name : Name) (change : Sim → Sim) (here : Bool) →
    ((part : Sim) → (let found : Option Sim = if here then Some (out-Kid kid).sim else kid_named name kids in found ≡ Some part) → IsAlike (change part) part) →
    (((part : Sim) → kid_named name kids ≡ Some part → IsAlike (change part) part) → map entry_of (with_named name change kids) ≡ map entry_of kids) →
    map entry_of (if here then kid_of (name_of kid) (change (out-Kid kid).sim) ∷ kids else kid ∷ with_named name change kids) ≡ map entry_of (kid ∷ kids)
entries-by kid kids name change true alike later = ap (λ (entry : Entry). entry ∷ map entry_of kids) (entry-alike kid (change (out-Kid kid).sim) (alike (out-Kid kid).sim refl))
entries-by kid kids name change false alike later = ap (λ (entries : List Entry). entry_of kid ∷ entries) (later alike)

entries-stay : (kids : List Kid) (name : Name) (change : Sim → Sim) → ((part : Sim) → kid_named name kids ≡ Some part → IsAlike (change part) part) → map entry_of (with_named name change kids) ≡ map entry_of kids
entries-stay [] name change alike = refl
entries-stay (kid ∷ kids) name change alike = entries-by kid kids name change (is_same_name (name_of kid) name) alike (entries-stay kids name change)

pub alike-itself : (own : Sim) → IsAlike own own
alike-itself own = record { model = refl; args = refl }

-- a tree with a part that is alike in the place of another
pub alike-with : (names : List Name) (own part tree : Sim) → part_at names tree ≡ Some part → IsAlike own part → IsAlike (with_part names own tree) tree
alike-with [] own part tree = λ is alike. subst (λ (t : Sim). IsAlike own t) (let e : Some tree ≡ Some part = is in let same : part ≡ tree = cc in same) alike
alike-with (name ∷ names) own part tree =
    by_parts (λ (t : Sim). part_at (name ∷ names) t ≡ Some part → IsAlike own part → IsAlike (with_part (name ∷ names) own t) t)
    (λ leaf is alike. absurd (let e : None ≡ Some part = sym (part-leaf names name leaf) ∙ is in cc))
    (λ model args boss kids links is alike. record {
      model = ap model_of (with_part-whole name names own model args boss kids links) ∙ model-whole model args boss (with_named name (with_part names own) kids) links ∙ sym (model-whole model args boss kids links);
      args = ap args_of (with_part-whole name names own model args boss kids links) ∙ args-whole model args boss (with_named name (with_part names own) kids) links ∙ sym (args-whole model args boss kids links);
    })
    tree

module _ (P : Spot → Type 0) where
  changed-by : (kid : Kid) (kids : List Kid) (name : Name) (change : Sim → Sim) (here : Bool) →
      ((part : Sim) → (let found : Option Sim = if here then Some (out-Kid kid).sim else kid_named name kids in found ≡ Some part) → Each P part → Each P (change part)) →
      (((part : Sim) → kid_named name kids ≡ Some part → Each P part → Each P (change part)) → EachKid P (with_named name change kids)) → Each P (out-Kid kid).sim → EachKid P kids →
      EachKid P (if here then kid_of (name_of kid) (change (out-Kid kid).sim) ∷ kids else kid ∷ with_named name change kids)
  changed-by kid kids name change true keeps later here each =
      (subst (Each P) (sym (own-sim (name_of kid) (change (out-Kid kid).sim))) (keeps (out-Kid kid).sim refl here), each)
  changed-by kid kids name change false keeps later here each = (here, later keeps)

  kids-changed : (kids : List Kid) (name : Name) (change : Sim → Sim) → ((part : Sim) → kid_named name kids ≡ Some part → Each P part → Each P (change part)) → EachKid P kids → EachKid P (with_named name change kids)
  kids-changed [] name change keeps each = tt
  kids-changed (kid ∷ kids) name change keeps each =
      changed-by kid kids name change (is_same_name (name_of kid) name) keeps (λ later. kids-changed kids name change later each.1) each.0 each.1

  found-at : (names : List Name) (part : Sim) (found : Option Sim) (tree : Sim) → found ≡ Some tree → option_and_then (part_at names) found ≡ Some part → part_at names tree ≡ Some part
  found-at names part found tree is there = ap (option_and_then (part_at names)) (sym is) ∙ there

  -- What holds of a tree and of a part that is alike to the one in its place holds of the tree with that part.
  pub spots-with : (names : List Name) (own part tree : Sim) → Each P tree → part_at names tree ≡ Some part → Each P own → IsAlike own part → Each P (with_part names own tree)
  spots-with [] own part tree = λ each is own_each alike. own_each
  spots-with (name ∷ names) own part tree =
      by_parts (λ (t : Sim). Each P t → part_at (name ∷ names) t ≡ Some part → Each P own → IsAlike own part → Each P (with_part (name ∷ names) own t))
      (λ leaf each is own_each alike. absurd (let e : None ≡ Some part = sym (part-leaf names name leaf) ∙ is in cc))
      (λ model args boss kids links each is own_each alike.
      let there : option_and_then (part_at names) (kid_named name kids) ≡ Some part = sym (part_at-whole name names model args boss kids links) ∙ is in
      let both = whole-spots P model args boss kids links each in
      let change = with_part names own in
      let entries : map entry_of (with_named name change kids) ≡ map entry_of kids =
      entries-stay kids name change (λ one found. alike-with names own part one (found-at names part (kid_named name kids) one found there) alike) in
      subst (Each P) (sym (with_part-whole name names own model args boss kids links))
      (spots-whole P model args boss (with_named name change kids) links
      (subst (λ (all : List Entry). let shape : Shape = record { model = model; args = args; boss = boss; entries = all; links = links } in P (inr shape)) (sym entries) both.0)
      (kids-changed kids name change (λ one found each_one. spots-with names own part one each_one (found-at names part (kid_named name kids) one found there) own_each alike) both.1)))
      tree
