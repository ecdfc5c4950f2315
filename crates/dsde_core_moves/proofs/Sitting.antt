-- Where an atomic component stands in a tree that fits a program.
use Rattle.std.proofs.Common.{◌≡◌, Bool, true, false, List, [], ◌∷◌, Option, Some, None, refl, sym, ap, subst, ◌∙◌}
use Rattle.std.specs.Prelude.{if◌then◌else◌, option_and_then}
use Rattle.std.specs.List.{AllByRecursion}
use Rattle.std.proofs.lemmas.Simd.{map-map}
use Rattle.dsde_values.specs.declared.name.Name.{Name}
use Rattle.dsde_values.specs.Path.{EXEC}
use Rattle.dsde_syntax.specs.declared.decl.Model.{Model}
use Rattle.dsde_sim_tree.specs.given.formalism.leaf_Leaf.{Leaf}
use Rattle.dsde_routes_wiring.specs.given.structure.plan_Entry.{Entry}
use Rattle.dsde_routes_wiring.specs.given.structure.Gather.{is_same_name}
use Rattle.dsde_sim_tree.specs.declared.sim.Kid.{Kid}
use Rattle.dsde_sim_tree.specs.declared.sim.Net.{Net}
use Rattle.dsde_sim_tree.specs.declared.sim.Sim.{Sim}
use Rattle.dsde_sim_tree.specs.declared.sim.Sim.TheVariants as sim
use Rattle.dsde_sim_tree.specs.declared.sim.Sim.TheOpen as layer
use Rattle.dsde_sim_tree.specs.declared.sim.Sim.TheOpen.{Sim-F}
use Rattle.dsde_sim_tree.specs.declared.sim.Sim.TheViews.{out-Kid, out-Net, out-Sim, roll-Sim, roll-out-Sim, rolls-Leaf, rolls-Net}
use Rattle.dsde_sim_tree.specs.Tree.{entry_of, name_of}
use Rattle.dsde_sim_changing.specs.given.sim_starting.Fitting.{FitsSpot, FitsTree}
use Rattle.dsde_sim_changing.specs.given.sim_starting.lemmas_Fits.{net-shape, net-tree}
use Rattle.dsde_core_flat.specs.given.sim_movers.Movers.{leaf_at, leaf_in, seat_of, seat_within, Seat}
use Rattle.dsde_core_flat.specs.given.sim_movers.Names.{HasNames, IsNamed}
use Rattle.dsde_core_flat.specs.given.sim_movers.Parts.{kid_named, part_at}
use Rattle.dsde_core_flat.specs.given.sim_movers.lemmas_Lenses.{by_parts, part-leaf}
use Rattle.dsde_core_flat.specs.given.sim_movers.lemmas_Named.{names-of}
use Rattle.dsde_core_flat.specs.given.sim_movers.lemmas_Seats.{part_at-whole, whole}
use Rattle.dsde_core_flat.specs.given.sim_movers.lemmas_Spotting.{spots-at, whole-spots}
use Rattle.dsde_core_flat.specs.lemmas.Beneath.{IsNoBoss}
use Rattle.dsde_core_flat.specs.lemmas.Names.{name-exact}

-- a component's seat has all names
last-name : (name : Name) (b : Bool) → (let seat : Seat = if b then record { names = []; is_boss = true } else record { names = name ∷ []; is_boss = false } in seat.is_boss ≡ false → seat ≡ record { names = name ∷ []; is_boss = false })
last-name name true is = absurd (let wrong : true ≡ false = is in cc)
last-name name false is = refl

pub seat-component : (names : List Name) → (seat_of names).is_boss ≡ false → seat_of names ≡ record { names = names; is_boss = false }
seat-component [] is = refl
seat-component (name ∷ []) is = last-name name (is_same_name EXEC name) is
seat-component (name ∷ later ∷ names) is = ap (seat_within name) (seat-component (later ∷ names) is)

-- an atomic component is a part, and no executive of one
leaf-by : (model : Model) (leaf : Leaf) (part : Sim) (boss : Bool) (opened : Sim-F Sim Kid Net) → out-Sim part ≡ opened → leaf_in boss opened ≡ Some leaf → FitsTree model part → leaf.boss ≡ false → (boss ≡ false) × (part ≡ sim.Leaf leaf)
leaf-by model leaf part false (layer.Leaf own) is found fits atomic =
    let e : Some own ≡ Some leaf = found in
    let same : own ≡ leaf = cc in
    (refl, sym (roll-out-Sim part) ∙ ap roll-Sim is ∙ rolls-Leaf own ∙ ap sim.Leaf same)
leaf-by model leaf part true (layer.Leaf own) is found fits atomic = absurd (let wrong : None ≡ Some leaf = found in cc)
leaf-by model leaf part false (layer.Net net) is found fits atomic = absurd (let wrong : None ≡ Some leaf = found in cc)
leaf-by model leaf part true (layer.Net net) is found fits atomic =
    let same : part ≡ sim.Net net = sym (roll-out-Sim part) ∙ ap roll-Sim is ∙ rolls-Net net in
    let shape = net-shape model net (net-tree model net (subst (FitsTree model) same fits)) in
    let e : Some (out-Net net).boss ≡ Some leaf = found in
    let own : (out-Net net).boss ≡ leaf = cc in
    let executive : (out-Net net).boss.boss ≡ true = shape.boss_is.executive in
    absurd (let wrong : true ≡ false = sym executive ∙ ap (λ (l : Leaf). l.boss) own ∙ atomic in cc)

pub record Sits (seat : Seat) (tree : Sim) (leaf : Leaf) : Type 0 where
  pub component : seat.is_boss ≡ false
  pub there : part_at seat.names tree ≡ Some (sim.Leaf leaf)

sits-by : (model : Model) (seat : Seat) (tree : Sim) (leaf : Leaf) (found : Option Sim) → part_at seat.names tree ≡ found → FitsTree model tree → option_and_then (λ part. leaf_in seat.is_boss (out-Sim part)) found ≡ Some leaf → leaf.boss ≡ false → Sits seat tree leaf
sits-by model seat tree leaf None at fits is atomic = absurd (let wrong : None ≡ Some leaf = is in cc)
sits-by model seat tree leaf (Some part) at fits is atomic =
    let own : FitsTree model part = record { all = spots-at (FitsSpot model) seat.names part tree fits.all at } in
    let both = leaf-by model leaf part seat.is_boss (out-Sim part) refl is own atomic in
    record { component = both.0; there = at ∙ ap (λ (s : Sim). let o : Option Sim = Some s in o) both.1 }

-- where an atomic component has a seat, it is the part that stands there
pub sits : (model : Model) (seat : Seat) (tree : Sim) (leaf : Leaf) → FitsTree model tree → leaf_at seat tree ≡ Some leaf → leaf.boss ≡ false → Sits seat tree leaf
sits model seat tree leaf fits is atomic = sits-by model seat tree leaf (part_at seat.names tree) refl fits is atomic

-- the names that lead to a part are none of an executive
kid-none-by : (kid : Kid) (kids : List Kid) (name : Name) (b : Bool) → is_same_name (name_of kid) name ≡ b → is_same_name EXEC (name_of kid) ≡ false → (part : Sim) →
    ((own : Sim) → kid_named name kids ≡ Some own → IsNoBoss name) → (let found : Option Sim = if b then Some (out-Kid kid).sim else kid_named name kids in found ≡ Some part) → IsNoBoss name
kid-none-by kid kids name true is ordinary part later found = ap (is_same_name EXEC) (sym (name-exact (name_of kid) name is)) ∙ ordinary
kid-none-by kid kids name false is ordinary part later found = later part found

kid-none : (kids : List Kid) (name : Name) (part : Sim) → AllByRecursion (λ kid. is_same_name EXEC (name_of kid) ≡ false) kids → kid_named name kids ≡ Some part → IsNoBoss name
kid-none [] name part ordinary found = absurd (let wrong : None ≡ Some part = found in cc)
kid-none (kid ∷ kids) name part ordinary found =
    kid-none-by kid kids name (is_same_name (name_of kid) name) refl ordinary.0 part (λ own there. kid-none kids name own ordinary.1 there) found

none-by : (name : Name) (names : List Name) (kids : List Kid) (part : Sim) (found : Option Sim) → kid_named name kids ≡ found → AllByRecursion (λ kid. is_same_name EXEC (name_of kid) ≡ false) kids → ((own : Sim) → kid_named name kids ≡ Some own → IsNamed own) →
    ((own : Sim) → IsNamed own → part_at names own ≡ Some part → AllByRecursion IsNoBoss names) → option_and_then (part_at names) found ≡ Some part → AllByRecursion IsNoBoss (name ∷ names)
none-by name names kids part None at ordinary named later is = absurd (let wrong : None ≡ Some part = is in cc)
none-by name names kids part (Some own) at ordinary named later is = (kid-none kids name own ordinary at, later own (named own at) is)

pub none-boss : (names : List Name) (part tree : Sim) → IsNamed tree → part_at names tree ≡ Some part → AllByRecursion IsNoBoss names
none-boss [] part tree = λ named is. tt
none-boss (name ∷ names) part tree =
    by_parts (λ (t : Sim). IsNamed t → part_at (name ∷ names) t ≡ Some part → AllByRecursion IsNoBoss (name ∷ names))
    (λ leaf named is. absurd (let wrong : None ≡ Some part = sym (part-leaf names name leaf) ∙ is in cc))
    (λ model args boss kids links named is.
    let both = whole-spots HasNames model args boss kids links named in
    let ordinary = names-of (λ own. is_same_name EXEC own ≡ false) kids (subst (AllByRecursion (λ own. is_same_name EXEC own ≡ false)) (map-map (λ (entry : Entry). entry.name) entry_of kids) both.0.ordinary) in
    none-by name names kids part (kid_named name kids) refl ordinary
    (λ own at. spots-at HasNames (name ∷ []) own (whole model args boss kids links) named (part_at-whole name [] model args boss kids links ∙ ap (option_and_then (part_at [])) at))
    (λ own known there. none-boss names part own known there)
    (sym (part_at-whole name names model args boss kids links) ∙ is))
    tree
