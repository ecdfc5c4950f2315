-- The structure of a network follows the state of its executive, where both lie.
use Rattle.std.proofs.Common.{◌≡◌, ◌∙◌, ℕ, ◌+◌, ◌*◌, ◌≤◌, true, List, [], length, Option, Some, None, Result, Ok, Err, OnOk, IsSome, refl, sym, ap, subst, arith}
use Rattle.std.specs.Prelude.{IfOk}
use Rattle.dsde_bank.specs.declared.handle.Handle.{Handle}
use Rattle.dsde_values.specs.declared.name.Name.{Name}
use Rattle.dsde_values.specs.declared.path.Path.{Path}
use Rattle.dsde_values.specs.declared.value.Value.{Value}
use Rattle.dsde_syntax.specs.declared.decl.Model.{Model}
use Rattle.dsde_language.specs.declared.ids.ModelId.{ModelId}
use Rattle.dsde_sim_tree.specs.given.formalism.leaf_Leaf.{Leaf}
use Rattle.dsde_sim_tree.specs.given.formalism.System.{System}
use Rattle.dsde_sim_starting.specs.given.executive.Structure.{IsPlan}
use Rattle.dsde_structure.specs.declared.plan.Plan.{Plan}
use Rattle.dsde_sim_starting.specs.given.system.Fitting.{FitsArgs, FitsLeaf}
use Rattle.dsde_sim_starting.specs.given.system.Program.{system}
use Rattle.dsde_sim_tree.specs.declared.event.Event.{Event}
use Rattle.dsde_sim_tree.specs.declared.fault.TurnEnd.{TurnEnd}
use Rattle.dsde_sim_tree.specs.Told.{Told, told, quietly, ◌then◌, Comes, Tells}
use Rattle.dsde_sim_starting.specs.given.sim_telling.lemmas_GoingOn.{goes-begin, goes-ends, goes-ok, tail, GoesOn}
use Rattle.dsde_grove.specs.Grove.{value_of}
use Rattle.dsde_sim_tree.specs.declared.sim.Net.{Net}
use Rattle.dsde_sim_tree.specs.declared.sim.Sim.{Sim}
use Rattle.dsde_sim_tree.specs.declared.sim.Sim.TheVariants as sim
use Rattle.dsde_sim_tree.specs.declared.sim.Sim.TheViews.{out-Net}
use Rattle.dsde_sim_tree.specs.Move.{gone, replanned}
use Rattle.dsde_sim_tree.specs.Opened.{shape_in}
use Rattle.dsde_sim_tree.specs.Start.{structure_of}
use Rattle.dsde_sim_tree.specs.Tree.{parts, parts_of_kids}
use Rattle.dsde_sim_starting.specs.Fitting.{FitsShape, FitsSpot}
use Rattle.dsde_sim_starting.specs.lemmas.Fits.{net-shape, net-tree}
use Rattle.dsde_sim_movers.specs.Parts.{part_at, with_part}
use Rattle.dsde_sim_movers.specs.lemmas.Spotting.{spots-at}
use Rattle.dsde_sim_movers.specs.lemmas.Steps.{same-ok, then-assoc}
use Rattle.dsde_core_moves.specs.given.core_flat.spot_Spot.{Spot}
use Rattle.dsde_core_moves.specs.given.core_flat.spot_Spot_TheVariants as variant
use Rattle.dsde_core_moves.specs.given.core_flat.Scheduled.{held_leaf}
use Rattle.dsde_core_moves.specs.given.core_flat.Shown.{leaf_in}
use Rattle.dsde_core_moves.specs.declared.flat.Flat.{Flat}
use Rattle.dsde_core_moves.specs.Flat.{tree_of, Stands}
use Rattle.dsde_core_moving.specs.Restructured.{restructured, with_room}
use Rattle.dsde_core_moving.specs.Executive.{followed, IsExecutiveAt}
use Rattle.dsde_core_moving.proofs.Again.{gone-few, net-one}

-- what ends is a fault, whatever stands then
pub ends-as : (flat : Flat) (result : Result ℕ TurnEnd) (end : TurnEnd) → result ≡ Err end → with_room flat result ≡ Err end
ends-as flat result end is = ap (with_room flat) is

-- the component or the executive that is held
pub leaf-held : (held : Option Spot) (leaf : Leaf) → (let own : Option Leaf = Some leaf in own) ≡ held_leaf held → leaf_in held ≡ leaf
leaf-held None leaf is = absurd (let wrong : Some leaf ≡ None = is in cc)
leaf-held (Some (variant.Leaf own)) leaf is = let e : Some leaf ≡ Some own = is in cc
leaf-held (Some (variant.Net number args)) leaf is = absurd (let wrong : Some leaf ≡ None = is in cc)

-- its arguments fit its model
pub args-fit : (model : Model) (leaf : Leaf) → FitsLeaf model leaf → FitsArgs model leaf.model.0 leaf.args
args-fit model leaf fits = record { below = fits.below; own = fits.own; found = fits.found; fill = fits.args }

-- the looks of a change, with those of its structure
looks-sum : {T E : Type 0} (result : Result T E) (before mid after old new kids entries left : ℕ) → mid ≤ before + 2 → OnOk result (after + 4 * old ≤ mid + 2 * kids + 2 * entries + 6 * left + 4 * new) → OnOk result (after + 4 * old ≤ before + 2 + 2 * kids + 2 * entries + 6 * left + 4 * new)
looks-sum (Ok value) before mid after old new kids entries left few looks = omega (arith, few, looks)
looks-sum (Err end) before mid after old new kids entries left few looks = tt

work-sum : {T E : Type 0} (result : Result T E) (before mid after pairs told others work entries : ℕ) → mid ≤ before + 2 → OnOk result (after + pairs + told ≤ mid + others + work + 4 * entries) →
    OnOk result (after + pairs + told ≤ before + 2 + others + work + 4 * entries)
work-sum (Ok value) before mid after pairs told others work entries few looks = omega (arith, few, looks)
work-sum (Err end) before mid after pairs told others work entries few looks = tt

module _ (S : System) (model : Model) (flat : Flat) (handle : Handle) (path : Path) (stands : Stands model flat) (own : IsExecutiveAt flat handle path) where
  abbrev tree : Sim
  tree = tree_of flat

  abbrev boss : Leaf
  boss = (out-Net own.net).boss

  abbrev here : Leaf
  here = leaf_in (value_of flat.grove handle)

  here-is : here ≡ boss
  here-is = ap leaf_in own.held

  shape : FitsShape model (shape_in own.net)
  shape = net-shape model own.net (net-tree model own.net (record { all = spots-at (FitsSpot model) own.place (sim.Net own.net) tree stands.fits.all own.there }))

  pub here-live : IsSome (held_leaf (value_of flat.grove handle))
  here-live = subst (λ (held : Option Spot). IsSome (held_leaf held)) (sym own.held) refl

  pub here-fits : FitsLeaf model here
  here-fits = subst (FitsLeaf model) (sym here-is) shape.boss

  here-model : here.model ≡ (out-Net own.net).model
  here-model = ap (λ (leaf : Leaf). leaf.model) here-is ∙ shape.boss_is.model

  pub here-network : (system model).is_network here.model ≡ true
  here-network = ap (λ (number : ModelId). (system model).is_network number) here-model ∙ shape.links.network

  abbrev structure : Result Plan TurnEnd
  structure = structure_of S (out-Net own.net).model (out-Net own.net).args boss path

  structure-is : structure_of S here.model here.args here path ≡ structure
  structure-is =
      ap (λ (leaf : Leaf). structure_of S leaf.model leaf.args leaf path) here-is
      ∙ ap (λ (number : ModelId). structure_of S number boss.args boss path) shape.boss_is.model
      ∙ ap (λ (args : List Value). structure_of S (out-Net own.net).model args boss path) shape.boss_is.args

  pub comes-here : (result : Result Plan TurnEnd) → Comes (structure_of S here.model here.args here path) result → Comes structure result
  comes-here result comes = subst (λ (expected : Result Plan TurnEnd). Comes expected result) structure-is comes

  -- where names lead to its network, the plan is one of that network
  pub plan-fits : (plan : Plan) → IsPlan model here.model.0 plan → (place : List Name) → place ≡ own.place → (net : Net) → part_at place tree ≡ Some (sim.Net net) → IsPlan model (out-Net net).model.0 plan
  plan-fits plan fits place same net is =
      let one : net ≡ own.net = net-one net own.net (sym is ∙ ap (λ (names : List Name). part_at names tree) same ∙ own.there) in
      subst (λ (number : ModelId). IsPlan model number.0 plan) (here-model ∙ ap (λ (n : Net). (out-Net n).model) (sym one)) fits

  pub there-at : (place : List Name) → place ≡ own.place → part_at place tree ≡ Some (sim.Net own.net)
  there-at place same = ap (λ (names : List Name). part_at names tree) same ∙ own.there

  module _ (time room : ℕ) where
    abbrev whole : Told (Sim × ℕ)
    whole = followed S tree own.place path own.net time room

    abbrev planned : Plan → Told (Sim × ℕ)
    planned plan = restructured S tree own.place path own.net time room plan

    whole-is : whole ≡ (quietly structure then planned)
    whole-is =
        then-assoc (quietly structure) (replanned S (out-Net own.net).model (out-Net own.net).args boss (out-Net own.net).kids path time room)
        (λ after. told [] (with_part own.place (sim.Net after.0) tree, after.1))

    goes : (old : List Event) → GoesOn whole (quietly structure then planned) old old
    goes old = subst (λ (step : Told (Sim × ℕ)). GoesOn whole step old old) whole-is (goes-begin whole old)

    -- a fault of the structure is one of the whole
    pub follows-err : (old : List Event) (end : TurnEnd) → Comes (structure_of S here.model here.args here path) (Err end) → Tells whole old old (Err end)
    follows-err old end comes = goes-ends whole structure planned old old end (goes old) (comes-here (Err end) comes)

    -- the plan is taken
    pub follows-ok : (old new : List Event) (plan : Plan) (place : List Name) (result : Result (Sim × ℕ) TurnEnd) → Comes (structure_of S here.model here.args here path) (Ok plan) → place ≡ own.place →
        Tells (restructured S tree place path own.net time room plan) old new result → Tells whole old new result
    follows-ok old new plan place result comes same tells =
        tail whole (planned plan) old old new result (goes-ok whole structure planned old old plan (goes old) (comes-here (Ok plan) comes))
        (subst (λ (names : List Name). Tells (restructured S tree names path own.net time room plan) old new result) same tells)

  -- the births of the change
  pub born-few : (plan : Plan) (room old new : ℕ) (result : Result ℕ TurnEnd) → IfOk result (λ rest. new + rest ≡ old + room + parts_of_kids (gone plan.entries (out-Net own.net).kids)) → OnOk result (new ≤ old + room + parts tree)
  born-few plan room old new (Ok rest) born =
      let few = gone-few S own.place own.net tree plan.entries own.there in
      omega (arith, born, few)
  born-few plan room old new (Err end) born = tt

  -- the plan that comes is the one of which the looks are told
  pub looked : (plan other : Plan) (before mid after old new : ℕ) (result : Result ℕ TurnEnd) → Comes (structure_of S here.model here.args here path) (Ok plan) → structure ≡ Ok other → mid ≤ before + 2 →
      OnOk result (after + 4 * old ≤ mid + 2 * length (out-Net own.net).kids + 2 * length plan.entries + 6 * parts_of_kids (gone plan.entries (out-Net own.net).kids) + 4 * new) →
      OnOk result (after + 4 * old ≤ before + 2 + 2 * length (out-Net own.net).kids + 2 * length other.entries + 6 * parts_of_kids (gone other.entries (out-Net own.net).kids) + 4 * new)
  looked plan other before mid after old new result comes is few looks =
      let one : plan ≡ other = same-ok plan other (sym (comes-here (Ok plan) comes) ∙ is) in
      subst (λ (p : Plan). OnOk result (after + 4 * old ≤ before + 2 + 2 * length (out-Net own.net).kids + 2 * length p.entries + 6 * parts_of_kids (gone p.entries (out-Net own.net).kids) + 4 * new)) one
      (looks-sum result before mid after old new (length (out-Net own.net).kids) (length plan.entries) (parts_of_kids (gone plan.entries (out-Net own.net).kids)) few looks)

  -- and of which the work is told
  pub worked : (plan other : Plan) (before mid after pairs told others work : ℕ) (result : Result ℕ TurnEnd) → Comes (structure_of S here.model here.args here path) (Ok plan) → structure ≡ Ok other → mid ≤ before + 2 →
      OnOk result (after + pairs + told ≤ mid + others + work + 4 * length plan.entries) → OnOk result (after + pairs + told ≤ before + 2 + others + work + 4 * length other.entries)
  worked plan other before mid after pairs told others work result comes is few looks =
      let one : plan ≡ other = same-ok plan other (sym (comes-here (Ok plan) comes) ∙ is) in
      subst (λ (p : Plan). OnOk result (after + pairs + told ≤ before + 2 + others + work + 4 * length p.entries)) one (work-sum result before mid after pairs told others work (length plan.entries) few looks)
