-- Engines whose trees stand.
use Rattle.std.proofs.Common.{◌≡◌, ◌↔◌, ℕ, ◌+◌, ◌-◌, ◌≤◌, min, true, List, [], ◌∷◌, ◌++◌, map, Option, Some, None, refl, sym, ap, subst, ◌∙◌, arith}
use Rattle.std.specs.Prelude.{Result, Ok, Err, IfSome}
use Rattle.std.specs.List.{AllByRecursion, Contains, list_any, flat_map}
use Rattle.std.specs.declared.cmp.Ordering.TheVariants.{Equal}
use Rattle.dsde_values.specs.declared.arrival.Arrival.{Arrival}
use Rattle.dsde_values.specs.declared.arrival.Item.{Item}
use Rattle.dsde_values.specs.declared.value.Value.{Value}
use Rattle.dsde_sim_tree.specs.given.language.ids_ModelId.{ModelId}
use Rattle.dsde_faults.specs.declared.end.LeafEnd.{LeafEnd}
use Rattle.dsde_sim_tree.specs.declared.step.Step.TheVariants.{Turned, Quiet}
use Rattle.dsde_sim_tree.specs.declared.fault.TurnEnd.TheVariants as turn_end
use Rattle.dsde_values.specs.declared.name.Name.{Name}
use Rattle.dsde_values.specs.declared.when.When.{When}
use Rattle.dsde_values.specs.declared.when.When.TheVariants.{At, Never}
use Rattle.dsde_values.specs.Path.{name_cmp, root}
use Rattle.dsde_sim_tree.specs.given.formalism.leaf_Leaf.{Leaf}
use Rattle.dsde_sim_tree.specs.given.formalism.System.{System, Ports, Chosen}
use Rattle.dsde_sim_tree.specs.given.structure.plan_Entry.{Entry}
use Rattle.dsde_sim_tree.specs.given.structure.Survival as entry
use Rattle.dsde_sim_tree.specs.Told.{Told, at}
use Rattle.dsde_sim_tree.specs.declared.sim.Kid.{Kid}
use Rattle.dsde_sim_tree.specs.declared.sim.Net.{Net}
use Rattle.dsde_sim_tree.specs.declared.sim.Sim.{Sim}
use Rattle.dsde_sim_tree.specs.declared.sim.Sim.TheFolds.{fold-Net, fold-roll-Sim, fold-roll-Kid, fold-roll-Net}
use Rattle.dsde_sim_tree.specs.declared.sim.Sim.TheOpen as layer
use Rattle.dsde_sim_tree.specs.declared.sim.Sim.TheVariants as sim
use Rattle.dsde_sim_tree.specs.declared.sim.Sim.TheViews.{out-Kid, out-Net, roll-out-Kid, roll-out-Net, rolls-Leaf, rolls-Net}
use Rattle.dsde_sim_tree.specs.declared.sim.TheConstants.{DEEPEST}
use Rattle.dsde_sim_tree.specs.Opened.{spots-Leaf, spots-Net, spots-net, spots-kid}
use Rattle.dsde_sim_tree.specs.Output.{by_port, output}
use Rattle.dsde_sim_tree.specs.Spots.{spots, spots_of_kid}
use Rattle.dsde_sim_tree.specs.Start as tree
use Rattle.dsde_sim_tree.specs.Move.{ins_of, move}
use Rattle.dsde_sim_tree.specs.Tree.{parts, next_time, next_of_kid, next_step, next_kid, next_net, sooner, soonest, model_of, args_of}
use Rattle.dsde_sim_tree.specs.lemmas.Trees.{each_tree}
use Rattle.dsde_sim_tree.specs.declared.step.Step.{Step}
use Rattle.dsde_sim_tree.specs.declared.step.TheConstants.{MOST_PARTS}
use Rattle.dsde_sim_tree.specs.Engine.{Engine, next_of, begun, turned}
use Rattle.dsde_sim_tree.specs.Turn.{start, started_tree, without_room, advance, advance_tree, after_turn, move_phase, turn, turn_time, items_at, is_taken}
use Rattle.dsde_sim_movers.specs.Stands.{IsDueLater, StandsLeaf, StandsSpot}
use Rattle.dsde_sim_movers.specs.Stands.{IsForward, StandsIn, StandsTree, StandsEngine, IsNotBefore}
use Rattle.dsde_sim_movers.proofs.Brings.{Brings, brings-then, brings-told, at-ok}
use Rattle.dsde_sim_movers.specs.lemmas.Standing.{IsPart}
use Rattle.dsde_sim_movers.proofs.Starting.{start-stands}
use Rattle.dsde_sim_movers.proofs.StandingMoving.{tree-moves}

-- ---- when a tree is due next

pub next-Leaf : (leaf : Leaf) → next_time (sim.Leaf leaf) ≡ leaf.next
next-Leaf leaf = ap next_time (sym (rolls-Leaf leaf)) ∙ fold-roll-Sim When When When next_step next_kid next_net (layer.Leaf leaf)

pub next-Net : (net : Net) → next_time (sim.Net net) ≡ soonest (out-Net net).boss.next (map next_of_kid (out-Net net).kids)
next-Net net =
    ap next_time (sym (rolls-Net net)) ∙ fold-roll-Sim When When When next_step next_kid next_net (layer.Net net)
    ∙ ap (fold-Net When When When next_step next_kid next_net) (sym (roll-out-Net net)) ∙ fold-roll-Net When When When next_step next_kid next_net (out-Net net)

pub next-kid : (kid : Kid) → next_of_kid kid ≡ next_time (out-Kid kid).sim
next-kid kid = ap next_of_kid (sym (roll-out-Kid kid)) ∙ fold-roll-Kid When When When next_step next_kid next_net (out-Kid kid)

sooner-both : (time : ℕ) (a b : When) → IsDueLater time (sooner a b) → IsDueLater time a × IsDueLater time b
sooner-both time (At x) (At y) later = (omega (arith, later), omega (arith, later))
sooner-both time (At x) Never later = (later, tt)
sooner-both time Never b later = (tt, later)

both-sooner : (time : ℕ) (a b : When) → IsDueLater time a → IsDueLater time b → IsDueLater time (sooner a b)
both-sooner time (At x) (At y) first later = omega (arith, first, later)
both-sooner time (At x) Never first later = first
both-sooner time Never b first later = later

soonest-all : (time : ℕ) (first : When) (others : List When) → IsDueLater time (soonest first others) → IsDueLater time first × AllByRecursion (IsDueLater time) others
soonest-all time first [] later = (later, tt)
soonest-all time first (next ∷ others) later =
    let rest = soonest-all time (sooner first next) others later in
    let own = sooner-both time first next rest.0 in
    (own.0, (own.1, rest.1))

all-soonest : (time : ℕ) (first : When) (others : List When) → IsDueLater time first → AllByRecursion (IsDueLater time) others → IsDueLater time (soonest first others)
all-soonest time first [] own all = own
all-soonest time first (next ∷ others) own all = all-soonest time (sooner first next) others (both-sooner time first next own all.0) all.1

each-split : {A : Type 0} (P : A → Type 0) (xs ys : List A) → AllByRecursion P (xs ++ ys) → AllByRecursion P xs × AllByRecursion P ys
each-split P [] ys all = (tt, all)
each-split P (x ∷ xs) ys all = let rest = each-split P xs ys all.1 in ((all.0, rest.0), rest.1)

each-join : {A : Type 0} (P : A → Type 0) (xs ys : List A) → AllByRecursion P xs → AllByRecursion P ys → AllByRecursion P (xs ++ ys)
each-join P [] ys first later = later
each-join P (x ∷ xs) ys first later = (first.0, each-join P xs ys first.1 later)

module _ (system : System) where
  -- ---- a tree that stands is not due before

  NotBefore : ℕ → Sim → Type 0
  NotBefore time own = AllByRecursion (StandsSpot system time) (spots own) → IsDueLater time (next_time own)

  later-leaf : (time : ℕ) (leaf : Leaf) → NotBefore time (sim.Leaf leaf)
  unfolding NotBefore
  later-leaf time leaf all =
      let own = subst (AllByRecursion (StandsSpot system time)) (spots-Leaf leaf) all in
      subst (IsDueLater time) (sym (next-Leaf leaf)) own.0.stands.later

  later-kids : (time : ℕ) (kids : List Kid) → AllByRecursion (λ kid. NotBefore time (out-Kid kid).sim) kids → AllByRecursion (StandsSpot system time) (flat_map spots_of_kid kids) → AllByRecursion (IsDueLater time) (map next_of_kid kids)
  unfolding NotBefore
  later-kids time [] each all = tt
  later-kids time (kid ∷ kids) each all =
      let split = each-split (StandsSpot system time) (spots_of_kid kid) (flat_map spots_of_kid kids) all in
      (subst (IsDueLater time) (sym (next-kid kid)) (each.0 (subst (AllByRecursion (StandsSpot system time)) (spots-kid kid) split.0)), later-kids time kids each.1 split.1)

  later-net : (time : ℕ) (net : Net) → AllByRecursion (λ kid. NotBefore time (out-Kid kid).sim) (out-Net net).kids → NotBefore time (sim.Net net)
  unfolding NotBefore
  later-net time net each all =
      let own = subst (AllByRecursion (StandsSpot system time)) (spots-Net net ∙ spots-net net) all in
      subst (IsDueLater time) (sym (next-Net net)) (all-soonest time (out-Net net).boss.next (map next_of_kid (out-Net net).kids) own.0.boss.later (later-kids time (out-Net net).kids each own.1))

  not-before : (time : ℕ) (own : Sim) → AllByRecursion (StandsSpot system time) (spots own) → IsDueLater time (next_time own)
  unfolding NotBefore
  not-before time = each_tree (NotBefore time) (later-leaf time) (later-net time)

  -- ---- and stands until then

  Waits : ℕ → ℕ → Sim → Type 0
  Waits now time own = AllByRecursion (StandsSpot system now) (spots own) → IsDueLater time (next_time own) → AllByRecursion (StandsSpot system time) (spots own)

  leaf-waits : (now time : ℕ) → now ≤ time → (leaf : Leaf) → StandsLeaf system now leaf → IsDueLater time leaf.next → StandsLeaf system time leaf
  leaf-waits now time within leaf stands later = record { last = omega (arith, stands.last, within); advance = stands.advance; later = later }

  waits-leaf : (now time : ℕ) → now ≤ time → (leaf : Leaf) → Waits now time (sim.Leaf leaf)
  unfolding Waits
  waits-leaf now time within leaf all later =
      let own = subst (AllByRecursion (StandsSpot system now)) (spots-Leaf leaf) all in
      subst (AllByRecursion (StandsSpot system time)) (sym (spots-Leaf leaf))
      (record { stands = leaf-waits now time within leaf own.0.stands (subst (IsDueLater time) (next-Leaf leaf) later); atomic = own.0.atomic; not_boss = own.0.not_boss }, tt)

  waits-kids : (now time : ℕ) (kids : List Kid) → AllByRecursion (λ kid. Waits now time (out-Kid kid).sim) kids → AllByRecursion (StandsSpot system now) (flat_map spots_of_kid kids) → AllByRecursion (IsDueLater time) (map next_of_kid kids) →
      AllByRecursion (StandsSpot system time) (flat_map spots_of_kid kids)
  unfolding Waits
  waits-kids now time [] each all later = tt
  waits-kids now time (kid ∷ kids) each all later =
      let split = each-split (StandsSpot system now) (spots_of_kid kid) (flat_map spots_of_kid kids) all in
      each-join (StandsSpot system time) (spots_of_kid kid) (flat_map spots_of_kid kids)
      (subst (AllByRecursion (StandsSpot system time)) (sym (spots-kid kid)) (each.0 (subst (AllByRecursion (StandsSpot system now)) (spots-kid kid) split.0) (subst (IsDueLater time) (next-kid kid) later.0)))
      (waits-kids now time kids each.1 split.1 later.1)

  waits-net : (now time : ℕ) → now ≤ time → (net : Net) → AllByRecursion (λ kid. Waits now time (out-Kid kid).sim) (out-Net net).kids → Waits now time (sim.Net net)
  unfolding Waits
  waits-net now time within net each all later =
      let own = subst (AllByRecursion (StandsSpot system now)) (spots-Net net ∙ spots-net net) all in
      let due = soonest-all time (out-Net net).boss.next (map next_of_kid (out-Net net).kids) (subst (IsDueLater time) (next-Net net) later) in
      subst (AllByRecursion (StandsSpot system time)) (sym (spots-Net net ∙ spots-net net)) (
        record {
          network = own.0.network;
          boss = leaf-waits now time within (out-Net net).boss own.0.boss due.0;
          is_boss = own.0.is_boss;
          model = own.0.model;
          args = own.0.args;
          plan = own.0.plan;
          structure = own.0.structure;
          has = own.0.has;
        },
        waits-kids now time (out-Net net).kids each own.1 due.1,
      )

  waits : (now time : ℕ) → now ≤ time → (own : Sim) → AllByRecursion (StandsSpot system now) (spots own) → IsDueLater time (next_time own) → AllByRecursion (StandsSpot system time) (spots own)
  unfolding Waits
  waits now time within = each_tree (Waits now time) (waits-leaf now time within) (waits-net now time within)

  -- ---- the time of a turn

  some-is : {x y : ℕ} → (let own : Option ℕ = Some x in own ≡ Some y) → x ≡ y
  some-is is = cc

  pub record TurnsAt (now time : ℕ) (next : When) : Type 0 where
    pub within : now ≤ time
    pub due : IsDueLater time next

  turns-at : (now time : ℕ) (next : When) (head : Option Arrival) → IsDueLater now next → IsNotBefore now head → turn_time next head ≡ Some time → TurnsAt now time next
  turns-at now time (At next) (Some head) later early is = let same : min next head.time ≡ time = some-is is in record { within = omega (arith, same, later, early); due = omega (arith, same) }
  turns-at now time (At next) None later early is = let same : next ≡ time = some-is is in record { within = omega (arith, same, later); due = omega (arith, same) }
  turns-at now time Never (Some head) later early is = let same : head.time ≡ time = some-is is in record { within = omega (arith, same, early); due = tt }
  turns-at now time Never None later early is = absurd (cc is)

module _ (one : (name other : Name) → (name_cmp name other ≡ Equal) ↔ (name ≡ other)) (found : (old : Entry) (news : List Entry) → (list_any (entry.survives old) news ≡ true) ↔ ((new : Entry) × Contains news new × entry.StaysAs old new))
    (system : System) (forward : IsForward system) where
  turn-stands : (own : Sim) (number time : ℕ) (items : List Item) → StandsIn system time DEEPEST own → Brings (IsPart system time DEEPEST (model_of own) (args_of own)) (turn system own number time items)
  turn-stands own number time items stands =
      let got = by_port (ins_of system own) items in
      brings-then (λ (sent : Ports). Unit {0}) (IsPart system time DEEPEST (model_of own) (args_of own)) [] (output system own root time) (move_phase system own time got) (λ sent is. tt)
      (λ sent none. let step = move system own root time got (MOST_PARTS - parts own) in
      brings-then (λ after. IsPart system time DEEPEST (model_of own) (args_of own) after.0) (IsPart system time DEEPEST (model_of own) (args_of own)) step.events step.end without_room
      (tree-moves one found system forward time own DEEPEST (MOST_PARTS - parts own) root got stands refl)
      (λ after is. brings-told (IsPart system time DEEPEST (model_of own) (args_of own)) [] after.0 is))

  abbrev AnswerStands : Step × Engine → Type 0
  AnswerStands answer = StandsEngine system answer.1

  tree-advances : (engine : Engine) (own : Sim) (head : Option Arrival) (time : Option ℕ) → engine.tree ≡ Some own → StandsTree system engine.time own → IsNotBefore engine.time head → turn_time (next_time own) head ≡ time →
      Brings AnswerStands (advance_tree system engine own head time)
  tree-advances engine own head None is stands early next =
      brings-told AnswerStands [] (Quiet, engine) (subst (λ (tree : Option Sim). IfSome tree (StandsTree system engine.time)) (sym is) stands)
  tree-advances engine own head (Some time) is stands early next =
      let at_turn = turns-at system engine.time time (next_time own) head (not-before system engine.time own stands.stands.all) early next in
      let step = turn system own (engine.turn + 1) time (items_at head time) in
      brings-then (IsPart system time DEEPEST (model_of own) (args_of own)) AnswerStands step.events step.end (after_turn engine head time)
      (turn-stands own (engine.turn + 1) time (items_at head time)
      (record { all = waits system engine.time time at_turn.within own stands.stands.all at_turn.due; depth = stands.stands.depth }))
      (λ after part. brings-told AnswerStands [] (Turned (is_taken head time), turned engine after time (is_taken head time))
      (record { stands = part.stands; top = stands.top ∙ ap (λ (model : ModelId). let own_top : Result Chosen LeafEnd = Ok (record { model = model; args = args_of own }) in own_top) (sym part.model_is) ∙ ap (λ (args : List Value). let own_top : Result Chosen LeafEnd = Ok (record { model = model_of after; args = args }) in own_top) (sym part.args_is) }))

  advance-by : (engine : Engine) (head : Option Arrival) (tree : Option Sim) → engine.tree ≡ tree → IfSome tree (StandsTree system engine.time) → IsNotBefore engine.time head →
      (let step : Told (Step × Engine) = elim tree [ Some own ↦ advance_tree system engine own head (turn_time (next_of engine) head) | None ↦ record { events = []; end = Err turn_end.Memory } ] in Brings AnswerStands step)
  advance-by engine head (Some own) is stands early =
      tree-advances engine own head (turn_time (next_of engine) head) is stands early
      (ap (λ (tree : Option Sim). turn_time (elim tree [ Some tree ↦ next_time tree | None ↦ Never ]) head) (sym is))
  advance-by engine head None is stands early = λ answer none. absurd (cc none)

  pub advance-stands : (engine : Engine) (head : Option Arrival) (answer : Step × Engine) → StandsEngine system engine → IsNotBefore engine.time head → (advance system engine head).end ≡ Ok answer → StandsEngine system answer.1
  advance-stands engine head answer stands early is = advance-by engine head engine.tree refl stands early answer is

pub start-engine : (system : System) → IsForward system → (engine : Engine) → (start system).end ≡ Ok engine → StandsEngine system engine
start-engine system forward engine is =
    brings-then (λ (chosen : Chosen). system.top ≡ Ok chosen) (StandsEngine system) [] (at root system.top) _ (λ chosen is. at-ok root system.top chosen is)
    (λ chosen top. let whole = started_tree system chosen.model chosen.args in
    brings-then (IsPart system 0 DEEPEST chosen.model chosen.args) (StandsEngine system) whole.events whole.end _
    (let step = tree.start system DEEPEST chosen.model chosen.args root 0 MOST_PARTS in
    brings-then (λ after. IsPart system 0 DEEPEST chosen.model chosen.args after.0) (IsPart system 0 DEEPEST chosen.model chosen.args) step.events step.end without_room
    (start-stands system forward 0 DEEPEST chosen.model chosen.args root MOST_PARTS)
    (λ after part. brings-told (IsPart system 0 DEEPEST chosen.model chosen.args) [] after.0 part))
    (λ own part. brings-told (StandsEngine system) [] (begun own)
    (record { stands = part.stands; top = top ∙ ap (λ (model : ModelId). let own_top : Result Chosen LeafEnd = Ok (record { model = model; args = chosen.args }) in own_top) (sym part.model_is) ∙ ap (λ (args : List Value). let own_top : Result Chosen LeafEnd = Ok (record { model = model_of own; args = args }) in own_top) (sym part.args_is) })))
    engine is
