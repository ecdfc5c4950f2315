-- What the step of a mover is, by what stands at its seat.
use Rattle.std.proofs.Common.{◌≡◌, ℕ, Bool, true, false, List, [], Option, Some, None, refl, sym, ◌∙◌, ap}
use Rattle.std.specs.Prelude.{option_and_then}
use Rattle.dsde_values.specs.declared.name.Name.{Name}
use Rattle.dsde_values.specs.declared.path.Path.{Path}
use Rattle.dsde_values.specs.declared.value.Value.{Value}
use Rattle.dsde_sim_tree.specs.given.language.ids_ModelId.{ModelId}
use Rattle.dsde_sim_tree.specs.given.formalism.leaf_Leaf.{Leaf}
use Rattle.dsde_sim_tree.specs.given.formalism.System.{System, Ports}
use Rattle.dsde_sim_tree.specs.given.structure.plan_Link.{Link}
use Rattle.dsde_sim_tree.specs.Told.{Told, told, ◌then◌}
use Rattle.dsde_sim_tree.specs.declared.sim.Kid.{Kid}
use Rattle.dsde_sim_tree.specs.declared.sim.Sim.{Sim}
use Rattle.dsde_sim_tree.specs.declared.sim.Sim.TheVariants as sim
use Rattle.dsde_sim_tree.specs.declared.sim.Sim.TheViews.{out-Sim}
use Rattle.dsde_sim_tree.specs.Move.{move_leaf_at, boss_moves}
use Rattle.dsde_sim_tree.specs.Opened.{as_leaf, as_net}
use Rattle.dsde_sim_tree.specs.Start.{net_of}
use Rattle.dsde_sim_movers.specs.Parts.{part_at, with_part}
use Rattle.dsde_sim_movers.specs.Movers.{leaf_in, leaf_at, moves, path_behind, move_at}
use Rattle.dsde_sim_movers.specs.lemmas.Seats.{out-Leaf, out-Net-of, whole, boss-at-whole, boss-moves-whole, leaf-moves-leaf}
use Rattle.dsde_sim_movers.specs.lemmas.Lenses.{by_parts}
use Rattle.dsde_sim_movers.specs.lemmas.Steps.{then-assoc}

leaf-found : (leaf : Leaf) (found : Option Sim) → option_and_then (λ part. leaf_in false (out-Sim part)) found ≡ Some leaf → found ≡ Some (sim.Leaf leaf)
leaf-found leaf None is = absurd (let e : None ≡ Some leaf = is in cc)
leaf-found leaf (Some tree) is =
    by_parts (λ (t : Sim). leaf_in false (out-Sim t) ≡ Some leaf → Some t ≡ Some (sim.Leaf leaf))
    (λ own here. let e : Some own ≡ Some leaf = sym (ap (leaf_in false) (out-Leaf own)) ∙ here in let same : own ≡ leaf = cc in ap (λ (l : Leaf). Some (sim.Leaf l)) same)
    (λ model args boss kids links here. absurd (let e : None ≡ Some leaf = sym (ap (leaf_in false) (out-Net-of (net_of model args boss kids links))) ∙ here in cc))
    tree is

-- the network of which this is the executive
pub record NetOf (names : List Name) (tree : Sim) (boss : Leaf) : Type 0 where
  pub model : ModelId
  pub args : List Value
  pub kids : List Kid
  pub links : List Link
  pub there : part_at names tree ≡ Some (whole model args boss kids links)

boss-found : (names : List Name) (tree : Sim) (boss : Leaf) (found : Option Sim) → part_at names tree ≡ found → option_and_then (λ part. leaf_in true (out-Sim part)) found ≡ Some boss → NetOf names tree boss
boss-found names tree boss None there is = absurd (let e : None ≡ Some boss = is in cc)
boss-found names tree boss (Some part) there is =
    by_parts (λ (t : Sim). part_at names tree ≡ Some t → leaf_in true (out-Sim t) ≡ Some boss → NetOf names tree boss)
    (λ own here found. absurd (let e : None ≡ Some boss = sym (ap (leaf_in true) (out-Leaf own)) ∙ found in cc))
    (λ model args own kids links here found.
    let e : Some own ≡ Some boss = sym (boss-at-whole model args own kids links) ∙ found in
    let same : own ≡ boss = cc in
    record { model = model; args = args; kids = kids; links = links; there = here ∙ ap (λ (l : Leaf). Some (whole model args l kids links)) same })
    part there is

module _ (system : System) (path : Path) (time : ℕ) (names : List Name) (got : Ports) (tree : Sim) (room : ℕ) where
  abbrev At : Bool → Option Sim → Told (Sim × ℕ)
  At is_boss found = elim found [
    | Some part ↦ moves system is_boss (path_behind path names) time got part room then (λ after. told [] (with_part names after.0 tree, after.1))
    | None ↦ told [] (tree, room)
  ]

  -- a component moves
  pub leaf-takes : (leaf : Leaf) → leaf_at (record { names = names; is_boss = false }) tree ≡ Some leaf →
      move_at system path time (record { names = names; is_boss = false }) got tree room
      ≡ (move_leaf_at system leaf (path_behind path names) time got then (λ after. told [] (with_part names (sim.Leaf after) tree, room)))
  leaf-takes leaf is =
      ap (At false) (leaf-found leaf (part_at names tree) is)
      ∙ ap (λ (step : Told (Sim × ℕ)). step then (λ after. told [] (with_part names after.0 tree, after.1))) (leaf-moves-leaf system (path_behind path names) time got leaf room)
      ∙ then-assoc (move_leaf_at system leaf (path_behind path names) time got) (as_leaf room) (λ after. told [] (with_part names after.0 tree, after.1))

  -- an executive moves
  pub net-there : (boss : Leaf) → leaf_at (record { names = names; is_boss = true }) tree ≡ Some boss → NetOf names tree boss
  net-there boss is = boss-found names tree boss (part_at names tree) refl is

  pub boss-takes : (model : ModelId) (args : List Value) (boss : Leaf) (kids : List Kid) (links : List Link) → part_at names tree ≡ Some (whole model args boss kids links) →
      move_at system path time (record { names = names; is_boss = true }) got tree room
      ≡ (boss_moves system model args boss links kids (path_behind path names) time got room then (λ after. told [] (with_part names (sim.Net after.0) tree, after.1)))
  boss-takes model args boss kids links there =
      ap (At true) there
      ∙ ap (λ (step : Told (Sim × ℕ)). step then (λ after. told [] (with_part names after.0 tree, after.1))) (boss-moves-whole system (path_behind path names) time got model args boss kids links room)
      ∙ then-assoc (boss_moves system model args boss links kids (path_behind path names) time got room) as_net (λ after. told [] (with_part names after.0 tree, after.1))
