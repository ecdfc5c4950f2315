-- Parts in the place of others, and how many there are.
use Rattle.std.proofs.Common.{◌≡◌, ◌∙◌, ◌+◌, ◌≤◌, not, Bool, true, false, List, [], ◌∷◌, map, Option, Some, refl, sym, ap, arith}
use Rattle.std.specs.Prelude.{if◌then◌else◌}
use Rattle.std.proofs.lemmas.List.Sums.{sum_by-cons}
use Rattle.dsde_values.specs.declared.name.Name.{Name}
use Rattle.dsde_sim_tree.specs.given.formalism.System.{System}
use Rattle.dsde_structure.specs.declared.plan.Entry.{Entry}
use Rattle.dsde_sim_tree.specs.declared.sim.Kid.{Kid}
use Rattle.dsde_sim_tree.specs.declared.sim.Net.{Net}
use Rattle.dsde_sim_tree.specs.declared.sim.Sim.{Sim}
use Rattle.dsde_sim_tree.specs.declared.sim.Sim.TheVariants as sim
use Rattle.dsde_sim_tree.specs.declared.sim.Sim.TheOpen as layer
use Rattle.dsde_sim_tree.specs.declared.sim.Sim.TheViews.{out-Net, out-Sim}
use Rattle.dsde_sim_tree.specs.Move.{gone, survives}
use Rattle.dsde_sim_tree.specs.Tree.{parts, parts_of_kid, parts_of_kids}
use Rattle.dsde_sim_movers.specs.lemmas.Opened.{parts-Leaf, parts-Net}
use Rattle.dsde_sim_movers.specs.Parts.{part_at, with_named, with_part}
use Rattle.dsde_sim_movers.specs.lemmas.Lenses.{by_parts, with-itself, with-leaf, with-twice}
use Rattle.dsde_sim_movers.specs.lemmas.Seats.{whole, with_part-whole}
use Rattle.dsde_sim_movers.proofs.Rooms.{trade}
use Rattle.dsde_core_moves.specs.given.core_flat.lemmas_Context.{out-Network}
use Rattle.dsde_core_moves.specs.given.core_flat.lemmas_Names.{name-exact, same-itself}

-- a part in the place of one that was put there is a part in that place
pub with-again : (names : List Name) (own part tree : Sim) → with_part names own (with_part names part tree) ≡ with_part names own tree
with-again [] own part tree = refl
with-again (name ∷ names) own part tree =
    by_parts (λ (t : Sim). with_part (name ∷ names) own (with_part (name ∷ names) part t) ≡ with_part (name ∷ names) own t)
    (λ leaf. ap (with_part (name ∷ names) own) (with-leaf names name part leaf))
    (λ model args boss kids links.
    ap (with_part (name ∷ names) own) (with_part-whole name names part model args boss kids links)
    ∙ with_part-whole name names own model args boss (with_named name (with_part names part) kids) links
    ∙ ap (λ (ks : List Kid). whole model args boss ks links)
    (with-twice same-itself name-exact name (with_part names part) (with_part names own) kids
    ∙ ap (λ (change : Sim → Sim). with_named name change kids) (λ i t. with-again names own part t i))
    ∙ sym (with_part-whole name names own model args boss kids links))
    tree

-- what was put there stands there
pub with-there : (names : List Name) (own part tree : Sim) → part_at names tree ≡ Some part → part_at names (with_part names own tree) ≡ Some own
with-there names own part tree is = with-itself same-itself name-exact names own part tree is

-- a network that is found is one
pub net-one : (net other : Net) → (let found : Option Sim = Some (sim.Net net) in found ≡ Some (sim.Net other)) → net ≡ other
net-one net other is =
    let same : sim.Net net ≡ sim.Net other = cc in
    let opened : layer.Net net ≡ layer.Net other = sym (out-Network net) ∙ ap out-Sim same ∙ out-Network other in
    cc

-- a tree with a network of as many parts has as many
pub parts-traded : (system : System) (names : List Name) (own net : Net) (tree : Sim) → part_at names tree ≡ Some (sim.Net net) → parts_of_kids (out-Net own).kids ≡ parts_of_kids (out-Net net).kids → parts (with_part names (sim.Net own) tree) ≡ parts tree
parts-traded system names own net tree is same =
    let traded = trade system names (sim.Net own) (sim.Net net) tree is in
    omega (arith, traded, same, parts-Net own, parts-Net net)

kids-cons : (kid : Kid) (kids : List Kid) → parts_of_kids (kid ∷ kids) ≡ parts_of_kid kid + parts_of_kids kids
kids-cons kid kids = sum_by-cons (λ n. n) (parts_of_kid kid) (map parts_of_kid kids)

fewer-by : (kid : Kid) (some kids : List Kid) (here : Bool) → parts_of_kids some ≤ parts_of_kids kids → parts_of_kids (if here then kid ∷ some else some) ≤ parts_of_kids (kid ∷ kids)
fewer-by kid some kids true few = omega (arith, kids-cons kid some, kids-cons kid kids, few)
fewer-by kid some kids false few = omega (arith, kids-cons kid kids, few)

-- what leaves has no more parts than all
gone-fewer : (entries : List Entry) (kids : List Kid) → parts_of_kids (gone entries kids) ≤ parts_of_kids kids
gone-fewer entries [] = omega arith
gone-fewer entries (kid ∷ kids) = fewer-by kid (gone entries kids) kids (not (survives entries kid)) (gone-fewer entries kids)

-- what leaves a network of a tree is no more than the tree has
pub gone-few : (system : System) (names : List Name) (net : Net) (tree : Sim) (entries : List Entry) → part_at names tree ≡ Some (sim.Net net) → parts_of_kids (gone entries (out-Net net).kids) ≤ parts tree
gone-few system names net tree entries is =
    let traded = trade system names (sim.Leaf (out-Net net).boss) (sim.Net net) tree is in
    let few = gone-fewer entries (out-Net net).kids in
    omega (arith, traded, few, parts-Net net, parts-Leaf (out-Net net).boss)
