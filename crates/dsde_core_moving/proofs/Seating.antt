-- Where an executive stands in a tree that fits a program.
use Rattle.std.proofs.Common.{◌≡◌, Bool, true, false, List, [], ◌∷◌, ◌++◌, Option, Some, None, refl, sym, ap, subst, ◌∙◌}
use Rattle.std.specs.Prelude.{if◌then◌else◌, option_and_then}
use Rattle.dsde_values.specs.declared.name.Name.{Name}
use Rattle.dsde_values.specs.Path.{EXEC}
use Rattle.dsde_syntax.specs.declared.decl.Model.{Model}
use Rattle.dsde_sim_tree.specs.given.formalism.leaf_Leaf.{Leaf}
use Rattle.dsde_structure.specs.Gather.{is_same_name}
use Rattle.dsde_sim_tree.specs.declared.sim.Kid.{Kid}
use Rattle.dsde_sim_tree.specs.declared.sim.Net.{Net}
use Rattle.dsde_sim_tree.specs.declared.sim.Sim.{Sim}
use Rattle.dsde_sim_tree.specs.declared.sim.Sim.TheVariants as sim
use Rattle.dsde_sim_tree.specs.declared.sim.Sim.TheOpen as layer
use Rattle.dsde_sim_tree.specs.declared.sim.Sim.TheOpen.{Sim-F}
use Rattle.dsde_sim_tree.specs.declared.sim.Sim.TheViews.{out-Net, out-Sim, roll-Sim, roll-out-Sim, rolls-Leaf, rolls-Net}
use Rattle.dsde_sim_starting.specs.Fitting.{FitsSpot, FitsTree}
use Rattle.dsde_sim_starting.specs.lemmas.Fits.{leaf-tree}
use Rattle.dsde_sim_movers.specs.Movers.{leaf_at, leaf_in, seat_of, Seat}
use Rattle.dsde_sim_movers.specs.Parts.{part_at}
use Rattle.dsde_sim_movers.specs.lemmas.Spotting.{spots-at}
use Rattle.dsde_core_moves.specs.given.core_flat.lemmas_Names.{name-exact}

-- the last of the names that lead to an executive is an executive's
last-boss : (name : Name) (b : Bool) → is_same_name EXEC name ≡ b → (let seat : Seat = if b then record { names = []; is_boss = true } else record { names = name ∷ []; is_boss = false } in seat.is_boss ≡ true → name ∷ [] ≡ seat.names ++ EXEC ∷ [])
last-boss name true here is = ap (λ (n : Name). n ∷ []) (sym (name-exact EXEC name here))
last-boss name false here is = absurd (let wrong : false ≡ true = is in cc)

pub seat-boss : (names : List Name) → (seat_of names).is_boss ≡ true → names ≡ (seat_of names).names ++ EXEC ∷ []
seat-boss [] is = absurd (let wrong : false ≡ true = is in cc)
seat-boss (name ∷ []) is = last-boss name (is_same_name EXEC name) refl is
seat-boss (name ∷ later ∷ names) is = ap (λ (ns : List Name). name ∷ ns) (seat-boss (later ∷ names) is)

-- Who has a seat is the executive of a network.
pub record Rules (seat : Seat) (tree : Sim) (leaf : Leaf) : Type 0 where
  pub executive : seat.is_boss ≡ true
  pub net : Net
  pub there : part_at seat.names tree ≡ Some (sim.Net net)
  pub own : (out-Net net).boss ≡ leaf

rules-in : (model : Model) (seat : Seat) (tree : Sim) (leaf : Leaf) (part : Sim) (boss : Bool) (opened : Sim-F Sim Kid Net) → seat.is_boss ≡ boss → out-Sim part ≡ opened → part_at seat.names tree ≡ Some part →
    leaf_in boss opened ≡ Some leaf → FitsTree model part → leaf.boss ≡ true → Rules seat tree leaf
rules-in model seat tree leaf part false (layer.Leaf own) kind is at found fits boss =
    let e : Some own ≡ Some leaf = found in
    let same : own ≡ leaf = cc in
    let whole : part ≡ sim.Leaf leaf = sym (roll-out-Sim part) ∙ ap roll-Sim is ∙ rolls-Leaf own ∙ ap sim.Leaf same in
    let atomic = leaf-tree model leaf (subst (FitsTree model) whole fits) in
    absurd (let wrong : true ≡ false = sym boss ∙ atomic.component in cc)
rules-in model seat tree leaf part true (layer.Leaf own) kind is at found fits boss = absurd (let wrong : None ≡ Some leaf = found in cc)
rules-in model seat tree leaf part false (layer.Net net) kind is at found fits boss = absurd (let wrong : None ≡ Some leaf = found in cc)
rules-in model seat tree leaf part true (layer.Net net) kind is at found fits boss =
    let same : part ≡ sim.Net net = sym (roll-out-Sim part) ∙ ap roll-Sim is ∙ rolls-Net net in
    let e : Some (out-Net net).boss ≡ Some leaf = found in
    let own : (out-Net net).boss ≡ leaf = cc in
    record { executive = kind; net = net; there = at ∙ ap (λ (s : Sim). let o : Option Sim = Some s in o) same; own = own }

rules-by : (model : Model) (seat : Seat) (tree : Sim) (leaf : Leaf) (found : Option Sim) → part_at seat.names tree ≡ found → FitsTree model tree → option_and_then (λ part. leaf_in seat.is_boss (out-Sim part)) found ≡ Some leaf → leaf.boss ≡ true → Rules seat tree leaf
rules-by model seat tree leaf None at fits is boss = absurd (let wrong : None ≡ Some leaf = is in cc)
rules-by model seat tree leaf (Some part) at fits is boss =
    let own : FitsTree model part = record { all = spots-at (FitsSpot model) seat.names part tree fits.all at } in
    rules-in model seat tree leaf part seat.is_boss (out-Sim part) refl refl at is own boss

-- an executive that has a seat is that of the network there
pub rules : (model : Model) (seat : Seat) (tree : Sim) (leaf : Leaf) → FitsTree model tree → leaf_at seat tree ≡ Some leaf → leaf.boss ≡ true → Rules seat tree leaf
rules model seat tree leaf fits is boss = rules-by model seat tree leaf (part_at seat.names tree) refl fits is boss
