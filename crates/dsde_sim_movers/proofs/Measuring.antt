-- How many parts a tree has, and when it is due next, by its components and executives.
use Rattle.std.proofs.Common.{◌≡◌, ℕ, ◌+◌, ◌≤◌, min, length, List, [], ◌∷◌, ◌++◌, map, refl, sym, ◌∙◌, ap, subst, inl, inr, ◌⊎◌, arith, sum, length-append}
use Rattle.std.proofs.lemmas.List.{map-append}
use Rattle.std.proofs.lemmas.List.Sums.{sum_by-cons}
use Rattle.std.specs.List.{AllByRecursion, flat_map}
use Rattle.dsde_values.specs.declared.path.Path.{Path}
use Rattle.dsde_values.specs.declared.when.When.{When}
use Rattle.dsde_values.specs.declared.when.When.TheVariants.{At, Never}
use Rattle.dsde_sim_tree.specs.given.formalism.leaf_Leaf.{Leaf}
use Rattle.dsde_sim_tree.specs.Told.{below, to_boss}
use Rattle.dsde_sim_tree.specs.declared.sim.Kid.{Kid}
use Rattle.dsde_sim_tree.specs.declared.sim.Net.{Net}
use Rattle.dsde_sim_tree.specs.declared.sim.Sim.{Sim}
use Rattle.dsde_sim_tree.specs.declared.sim.Sim.TheFolds.{fold-Net, fold-roll-Sim, fold-roll-Kid, fold-roll-Net}
use Rattle.dsde_sim_tree.specs.declared.sim.Sim.TheOpen as layer
use Rattle.dsde_sim_tree.specs.declared.sim.Sim.TheVariants as sim
use Rattle.dsde_sim_tree.specs.declared.sim.Sim.TheViews.{out-Kid, out-Net, roll-out-Kid, roll-out-Net, rolls-Leaf, rolls-Net}
use Rattle.dsde_sim_tree.specs.Tree.{parts_step, kid_parts, net_parts, parts, parts_of_kid, parts_of_net, soonest, next_step, next_kid, next_net, next_time, next_of_kid, name_of}
use Rattle.dsde_sim_tree.specs.lemmas.Trees.{each_tree}
use Rattle.dsde_sim_movers.specs.Places.{paths_from, paths_of_kid}
use Rattle.dsde_sim_movers.specs.lemmas.Events.{Among, among-left, among-right, contains-from, each-append, each-weaker}
use Rattle.dsde_sim_movers.specs.lemmas.Opens.{paths-Leaf, paths-Net, paths-kid}
use Rattle.dsde_sim_movers.specs.Asking.{Seated, seated, seated_of_kid, IsFrom, IsNext}
use Rattle.dsde_sim_movers.proofs.Asked.{seated-Leaf, seated-Net, seated-kid}

pub parts-Leaf : (leaf : Leaf) → parts (sim.Leaf leaf) ≡ 1
parts-Leaf leaf = ap parts (sym (rolls-Leaf leaf)) ∙ fold-roll-Sim ℕ ℕ ℕ parts_step kid_parts net_parts (layer.Leaf leaf)

pub parts-Net : (net : Net) → parts (sim.Net net) ≡ 2 + sum (map parts_of_kid (out-Net net).kids)
parts-Net net =
    ap parts (sym (rolls-Net net)) ∙ fold-roll-Sim ℕ ℕ ℕ parts_step kid_parts net_parts (layer.Net net)
    ∙ ap parts_of_net (sym (roll-out-Net net)) ∙ fold-roll-Net ℕ ℕ ℕ parts_step kid_parts net_parts (out-Net net)

pub parts-kid : (kid : Kid) → parts_of_kid kid ≡ parts (out-Kid kid).sim
parts-kid kid = ap parts_of_kid (sym (roll-out-Kid kid)) ∙ fold-roll-Kid ℕ ℕ ℕ parts_step kid_parts net_parts (out-Kid kid)

-- a part has a path each
abbrev Counts : Sim → Type 0
Counts tree = (path : Path) → length (paths_from tree path) ≡ parts tree

counts-kids : (kids : List Kid) → AllByRecursion (λ kid. Counts (out-Kid kid).sim) kids → (path : Path) → length (flat_map (λ kid. paths_of_kid kid path) kids) ≡ sum (map parts_of_kid kids)
counts-kids [] counts path = refl
counts-kids (kid ∷ kids) counts path =
    length-append (paths_of_kid kid path) (flat_map (λ kid. paths_of_kid kid path) kids)
    ∙ (λ i. (ap length (paths-kid kid path) ∙ counts.0 (below path (name_of kid)) ∙ sym (parts-kid kid)) i + counts-kids kids counts.1 path i)
    ∙ sym (sum_by-cons (λ x. x) (parts_of_kid kid) (map parts_of_kid kids))

counts-net : (net : Net) → AllByRecursion (λ kid. Counts (out-Kid kid).sim) (out-Net net).kids → Counts (sim.Net net)
counts-net net counts path =
    let within = flat_map (λ kid. paths_of_kid kid path) (out-Net net).kids in
    let total : length within ≡ sum (map parts_of_kid (out-Net net).kids) = counts-kids (out-Net net).kids counts path in
    let joined : length (within ++ to_boss path ∷ []) ≡ length within + 1 = length-append within (to_boss path ∷ []) in
    let all : length (path ∷ within ++ to_boss path ∷ []) ≡ 2 + sum (map parts_of_kid (out-Net net).kids) = omega (arith, joined, total) in
    ap length (paths-Net net path) ∙ all ∙ sym (parts-Net net)

pub counts : (tree : Sim) → Counts tree
counts = each_tree Counts (λ leaf path. ap length (paths-Leaf leaf path) ∙ sym (parts-Leaf leaf)) counts-net

-- the least of times
abbrev IsLeast : When → List When → Type 0
IsLeast (At time) list = Among (At time) list × AllByRecursion (IsFrom time) list
IsLeast Never list = AllByRecursion (λ own. own ≡ Never) list

from-later : (time other : ℕ) → time ≤ other → (own : When) → IsFrom other own → IsFrom time own
from-later time other less (At own) from = omega (arith, less, from)
from-later time other less Never from = tt

from-never : (time : ℕ) (own : When) → own ≡ Never → IsFrom time own
from-never time (At own) is = absurd (let e : At own ≡ Never = is in cc)
from-never time Never is = tt

abbrev never : When → Type 0
never own = own ≡ Never

-- the least of a list whose first is the earlier of two is the least of the two and the others
two-by : (a b : ℕ) (others : List When) (least : When) → min a b ≡ a ⊎ min a b ≡ b → IsLeast least (At (min a b) ∷ others) → IsLeast least (At a ∷ At b ∷ others)
two-by a b others (At time) (inl is) (inl same, from) = (inl (same ∙ ap At is), (omega (arith, from.0), (omega (arith, from.0), from.1)))
two-by a b others (At time) (inr is) (inl same, from) = (inr (inl (same ∙ ap At is)), (omega (arith, from.0), (omega (arith, from.0), from.1)))
two-by a b others (At time) which (inr there, from) = (inr (inr there), (omega (arith, from.0), (omega (arith, from.0), from.1)))
two-by a b others Never which all = absurd (let e : At (min a b) ≡ Never = all.0 in cc)

which-min : (a b : ℕ) → (min a b ≡ a) ⊎ (min a b ≡ b)
which-min a b = grind arith

least-of : (first : When) (others : List When) → IsLeast (soonest first others) (first ∷ others)
least-of (At a) [] = (inl refl, (omega arith, tt))
least-of Never [] = (refl, tt)
least-of (At a) (At b ∷ others) = two-by a b others (soonest (At (min a b)) others) (which-min a b) (least-of (At (min a b)) others)
least-of (At a) (Never ∷ others) = behind-never a others (soonest (At a) others) (least-of (At a) others)
  where
    behind-never : (a : ℕ) (others : List When) (least : When) → IsLeast least (At a ∷ others) → IsLeast least (At a ∷ Never ∷ others)
    behind-never a others (At time) (inl same, from) = (inl same, (from.0, (tt, from.1)))
    behind-never a others (At time) (inr there, from) = (inr (inr there), (from.0, (tt, from.1)))
    behind-never a others Never all = absurd (let e : At a ≡ Never = all.0 in cc)
least-of Never (own ∷ others) = before-never own others (soonest own others) (least-of own others)
  where
    before-never : (own : When) (others : List When) (least : When) → IsLeast least (own ∷ others) → IsLeast least (Never ∷ own ∷ others)
    before-never own others (At time) (there, from) = (inr there, (tt, from))
    before-never own others Never all = (refl, all)

abbrev next_of_net : Net → When
next_of_net = fold-Net When When When next_step next_kid next_net

abbrev nx : Seated → When
nx own = own.leaf.next

next-Leaf : (leaf : Leaf) → next_time (sim.Leaf leaf) ≡ leaf.next
next-Leaf leaf = ap next_time (sym (rolls-Leaf leaf)) ∙ fold-roll-Sim When When When next_step next_kid next_net (layer.Leaf leaf)

next-Net : (net : Net) → next_time (sim.Net net) ≡ soonest (out-Net net).boss.next (map next_of_kid (out-Net net).kids)
next-Net net =
    ap next_time (sym (rolls-Net net)) ∙ fold-roll-Sim When When When next_step next_kid next_net (layer.Net net)
    ∙ ap next_of_net (sym (roll-out-Net net)) ∙ fold-roll-Net When When When next_step next_kid next_net (out-Net net)

next-kid : (kid : Kid) → next_of_kid kid ≡ next_time (out-Kid kid).sim
next-kid kid = ap next_of_kid (sym (roll-out-Kid kid)) ∙ fold-roll-Kid When When When next_step next_kid next_net (out-Kid kid)

-- a tree is due when the first of its components and executives is
abbrev Leasts : Sim → Type 0
Leasts tree = (path : Path) → IsLeast (next_time tree) (map nx (seated tree path))

least-leaf : (leaf : Leaf) → Leasts (sim.Leaf leaf)
least-leaf leaf path =
    subst (λ (w : When). IsLeast w (map nx (seated (sim.Leaf leaf) path))) (sym (next-Leaf leaf))
    (subst (λ (list : List Seated). IsLeast leaf.next (map nx list)) (sym (seated-Leaf leaf path)) (least-of leaf.next []))

all-from : (time : ℕ) (own : When) (list : List When) → IsFrom time own → IsLeast own list → AllByRecursion (IsFrom time) list
all-from time (At other) list less least = each-weaker (IsFrom other) (IsFrom time) (from-later time other less) list least.1
all-from time Never list less least = each-weaker never (IsFrom time) (from-never time) list least

module _ (path : Path) where
  abbrev flat : List Kid → List When
  flat kids = map nx (flat_map (λ kid. seated_of_kid kid path) kids)

  abbrev KidLeast : Kid → Type 0
  KidLeast kid = IsLeast (next_of_kid kid) (map nx (seated_of_kid kid path))

  kid-least : (kid : Kid) → Leasts (out-Kid kid).sim → KidLeast kid
  kid-least kid least =
      subst (λ (w : When). IsLeast w (map nx (seated_of_kid kid path))) (sym (next-kid kid))
      (subst (λ (list : List Seated). IsLeast (next_time (out-Kid kid).sim) (map nx list)) (sym (seated-kid kid path)) (least (below path (name_of kid))))

  flat-cons : (kid : Kid) (kids : List Kid) → flat (kid ∷ kids) ≡ map nx (seated_of_kid kid path) ++ flat kids
  flat-cons kid kids = map-append nx (seated_of_kid kid path) (flat_map (λ kid. seated_of_kid kid path) kids)

  kids-among : (time : ℕ) (kids : List Kid) → AllByRecursion KidLeast kids → Among (At time) (map next_of_kid kids) → Among (At time) (flat kids)
  kids-among time [] least there = absurd there
  kids-among time (kid ∷ kids) least (inl same) =
      subst (λ (list : List When). Among (At time) list) (sym (flat-cons kid kids))
      (among-left (At time) (map nx (seated_of_kid kid path)) (flat kids) (subst (λ (w : When). IsLeast w (map nx (seated_of_kid kid path))) (sym same) least.0).0)
  kids-among time (kid ∷ kids) least (inr there) =
      subst (λ (list : List When). Among (At time) list) (sym (flat-cons kid kids))
      (among-right (At time) (map nx (seated_of_kid kid path)) (flat kids) (kids-among time kids least.1 there))

  kids-from : (time : ℕ) (kids : List Kid) → AllByRecursion KidLeast kids → AllByRecursion (IsFrom time) (map next_of_kid kids) → AllByRecursion (IsFrom time) (flat kids)
  kids-from time [] least from = tt
  kids-from time (kid ∷ kids) least from =
      subst (AllByRecursion (IsFrom time)) (sym (flat-cons kid kids))
      (each-append (IsFrom time) (map nx (seated_of_kid kid path)) (flat kids) (all-from time (next_of_kid kid) (map nx (seated_of_kid kid path)) from.0 least.0) (kids-from time kids least.1 from.1))

  kids-never : (kids : List Kid) → AllByRecursion KidLeast kids → AllByRecursion never (map next_of_kid kids) → AllByRecursion never (flat kids)
  kids-never [] least all = tt
  kids-never (kid ∷ kids) least all =
      subst (AllByRecursion never) (sym (flat-cons kid kids))
      (each-append never (map nx (seated_of_kid kid path)) (flat kids) (subst (λ (w : When). IsLeast w (map nx (seated_of_kid kid path))) all.0 least.0) (kids-never kids least.1 all.1))

  with-boss : (boss : When) (kids : List Kid) → AllByRecursion KidLeast kids → (least : When) → IsLeast least (boss ∷ map next_of_kid kids) → IsLeast least (flat kids ++ boss ∷ [])
  with-boss boss kids each (At time) (inl same, from) =
      (among-right (At time) (flat kids) (boss ∷ []) (inl same), each-append (IsFrom time) (flat kids) (boss ∷ []) (kids-from time kids each from.1) (from.0, tt))
  with-boss boss kids each (At time) (inr there, from) =
      (among-left (At time) (flat kids) (boss ∷ []) (kids-among time kids each there), each-append (IsFrom time) (flat kids) (boss ∷ []) (kids-from time kids each from.1) (from.0, tt))
  with-boss boss kids each Never all = each-append never (flat kids) (boss ∷ []) (kids-never kids each all.1) (all.0, tt)

least-net : (net : Net) → AllByRecursion (λ kid. Leasts (out-Kid kid).sim) (out-Net net).kids → Leasts (sim.Net net)
least-net net least path =
    let own = out-Net net in
    let within = flat_map (λ kid. seated_of_kid kid path) own.kids in
    let all = soonest own.boss.next (map next_of_kid own.kids) in
    let each : AllByRecursion (KidLeast path) own.kids = each-weaker (λ kid. Leasts (out-Kid kid).sim) (KidLeast path) (kid-least path) own.kids least in
    subst (λ (w : When). IsLeast w (map nx (seated (sim.Net net) path))) (sym (next-Net net))
    (subst (λ (list : List Seated). IsLeast all (map nx list)) (sym (seated-Net net path))
    (subst (IsLeast all) (sym (map-append nx within (record { path = to_boss path; leaf = own.boss } ∷ [])))
    (with-boss path own.boss.next own.kids each all (least-of own.boss.next (map next_of_kid own.kids)))))

leasts : (tree : Sim) → Leasts tree
leasts = each_tree Leasts least-leaf least-net

all-unmapped : (P : When → Type 0) (list : List Seated) → AllByRecursion P (map nx list) → AllByRecursion (λ own. P own.leaf.next) list
all-unmapped P [] all = tt
all-unmapped P (own ∷ list) all = (all.0, all-unmapped P list all.1)

next-from : (least : When) (list : List Seated) → IsLeast least (map nx list) → IsNext least list
next-from (At time) list is = (contains-from (map nx list) (At time) is.0, all-unmapped (IsFrom time) list is.1)
next-from Never list is = all-unmapped never list is

pub next-of : (tree : Sim) (path : Path) → IsNext (next_time tree) (seated tree path)
next-of tree path = next-from (next_time tree) (seated tree path) (leasts tree path)
