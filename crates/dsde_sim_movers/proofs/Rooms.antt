-- A step takes no more room than there is.
use Rattle.std.proofs.Common.{◌≡◌, ℕ, ◌+◌, ◌-◌, ◌≤◌, zero, suc, not, Bool, true, false, List, [], ◌∷◌, ◌++◌, map, sum, Option, Some, None, refl, sym, ◌∙◌, ap, subst, arith}
use Rattle.std.proofs.lemmas.List.Sums.{sum_by-cons}
use Rattle.std.specs.Prelude.{if◌then◌else◌, option_and_then}
use Rattle.dsde_values.specs.declared.arrival.Item.{Item}
use Rattle.dsde_values.specs.declared.name.Name.{Name}
use Rattle.dsde_values.specs.declared.path.Path.{Path}
use Rattle.dsde_values.specs.declared.value.Value.{Value}
use Rattle.dsde_values.specs.Path.{root}
use Rattle.dsde_sim_tree.specs.given.language.ids_ModelId.{ModelId}
use Rattle.dsde_sim_tree.specs.given.formalism.leaf_Leaf.{Leaf}
use Rattle.dsde_sim_tree.specs.given.formalism.leaf_MoveKind.{MoveKind}
use Rattle.dsde_sim_tree.specs.given.formalism.Leaf.{kind_of, start_leaf}
use Rattle.dsde_sim_tree.specs.given.formalism.System.{System, Ports}
use Rattle.dsde_sim_tree.specs.given.structure.plan_Entry.{Entry}
use Rattle.dsde_sim_tree.specs.given.structure.plan_Link.{Link}
use Rattle.dsde_sim_tree.specs.given.structure.plan_Plan.{Plan}
use Rattle.dsde_sim_tree.specs.given.structure.Gather.{is_same_name}
use Rattle.dsde_sim_tree.specs.declared.event.Event.TheVariants.{AddLeaf}
use Rattle.dsde_sim_tree.specs.Told.{Told, told, quietly, ◌then◌, at, below, to_boss}
use Rattle.dsde_sim_tree.specs.declared.sim.Kid.{Kid}
use Rattle.dsde_sim_tree.specs.declared.sim.Net.{Net}
use Rattle.dsde_sim_tree.specs.declared.sim.Sim.{Sim}
use Rattle.dsde_sim_tree.specs.declared.sim.Sim.TheVariants as sim
use Rattle.dsde_sim_tree.specs.declared.sim.Sim.TheOpen.{Net-F}
use Rattle.dsde_sim_tree.specs.declared.sim.Sim.TheViews.{out-Kid}
use Rattle.dsde_sim_tree.specs.Move.{take_move, move_leaf_at, survives, gone, kept, take_named, refill, refilled, left_behind, change, replanned, after_boss, boss_moves}
use Rattle.dsde_sim_tree.specs.Opened.{as_leaf, as_net}
use Rattle.dsde_sim_tree.specs.Output.{output}
use Rattle.dsde_sim_tree.specs.Start.{entered, kid_of, net_of, start_leaf_at, Starter, started_kid, starts, structure_of, with_plan, with_boss, start_net, start_net_at, start_atomic, start}
use Rattle.dsde_sim_tree.specs.Tree.{parts, parts_of_kid, parts_of_kids, name_of}
use Rattle.dsde_sim_tree.specs.declared.step.TheConstants.{MOST_PARTS}
use Rattle.dsde_sim_tree.specs.Turn.{without_room}
use Rattle.dsde_sim_movers.specs.Deliveries.{Delivery}
use Rattle.dsde_sim_movers.specs.Parts.{kid_named, with_named, part_at, with_part}
use Rattle.dsde_sim_movers.specs.Movers.{Step, moves_in, moves, path_behind, seat_behind, move_one, move_each}
use Rattle.dsde_sim_movers.specs.Turns.{free_phase, free_turn}
use Rattle.dsde_sim_movers.specs.lemmas.Seats.{out-Leaf, out-Net-of, whole, own-sim, part_at-whole, with_part-whole, boss-moves-whole, leaf-moves-leaf}
use Rattle.dsde_sim_movers.specs.lemmas.Lenses.{by_parts, part-leaf}
use Rattle.dsde_sim_movers.specs.lemmas.Steps.{same-ok, never-ok}
use Rattle.dsde_sim_movers.proofs.Staying.{Brings, brings-told, brings-then, brings-any}
use Rattle.dsde_sim_movers.specs.lemmas.Spotting.{opened}
use Rattle.dsde_sim_movers.proofs.Measuring.{parts-Leaf, parts-Net, parts-kid}

kids-cons : (kid : Kid) (kids : List Kid) → parts_of_kids (kid ∷ kids) ≡ parts_of_kid kid + parts_of_kids kids
kids-cons kid kids = sum_by-cons (λ x. x) (parts_of_kid kid) (map parts_of_kid kids)

kids-append : (xs ys : List Kid) → parts_of_kids (xs ++ ys) ≡ parts_of_kids xs + parts_of_kids ys
kids-append [] ys = omega arith
kids-append (kid ∷ xs) ys =
    let one = kids-cons kid (xs ++ ys) in
    let two = kids-cons kid xs in
    let rest = kids-append xs ys in
    let all : parts_of_kids (kid ∷ xs ++ ys) ≡ parts_of_kids (kid ∷ xs) + parts_of_kids ys = omega (arith, one, two, rest) in all

kids-snoc : (done : List Kid) (kid : Kid) → parts_of_kids (done ++ kid ∷ []) ≡ parts_of_kids done + parts_of_kid kid
kids-snoc done kid =
    let joined = kids-append done (kid ∷ []) in
    let last = kids-cons kid [] in
    let none : parts_of_kids [] ≡ 0 = refl in
    omega (arith, joined, last, none)

pub parts-whole : (model : ModelId) (args : List Value) (boss : Leaf) (kids : List Kid) (links : List Link) → parts (whole model args boss kids links) ≡ 2 + parts_of_kids kids
parts-whole model args boss kids links =
    parts-Net (net_of model args boss kids links) ∙ ap (λ (net : Net-F Sim Kid Net). 2 + sum (map parts_of_kid net.kids)) (opened model args boss kids links)

parts-named : (name : Name) (own : Sim) → parts_of_kid (kid_of name own) ≡ parts own
parts-named name own = parts-kid (kid_of name own) ∙ ap parts (own-sim name own)

kids-filter-by : (kid : Kid) (yes_kids no_kids kids : List Kid) (here : Bool) → parts_of_kids yes_kids + parts_of_kids no_kids ≡ parts_of_kids kids →
    parts_of_kids (if here then kid ∷ yes_kids else yes_kids) + parts_of_kids (if not here then kid ∷ no_kids else no_kids) ≡ parts_of_kids (kid ∷ kids)
kids-filter-by kid yes_kids no_kids kids true rest = let one = kids-cons kid yes_kids in let all = kids-cons kid kids in omega (arith, one, all, rest)
kids-filter-by kid yes_kids no_kids kids false rest = let one = kids-cons kid no_kids in let all = kids-cons kid kids in omega (arith, one, all, rest)

-- what survives and what is gone is all
kids-filter : (entries : List Entry) (kids : List Kid) → parts_of_kids (kept entries kids) + parts_of_kids (gone entries kids) ≡ parts_of_kids kids
kids-filter entries [] = omega arith
kids-filter entries (kid ∷ kids) = kids-filter-by kid (kept entries kids) (gone entries kids) kids (survives entries kid) (kids-filter entries kids)

-- a component taken out by its name, and the others
abbrev Taken : List Kid → Option (Kid × List Kid) → Type 0
Taken kids None = Unit {0}
Taken kids (Some taken) = parts_of_kid taken.0 + parts_of_kids taken.1 ≡ parts_of_kids kids

taken-by : (kid : Kid) (kids : List Kid) (here : Bool) (rest : Option (Kid × List Kid)) → Taken kids rest →
    (let taken : Option (Kid × List Kid) = if here then Some (kid, kids) else (elim rest [ Some taken ↦ Some (taken.0, kid ∷ taken.1) | None ↦ None ]) in Taken (kid ∷ kids) taken)
taken-by kid kids true rest later = sym (kids-cons kid kids)
taken-by kid kids false None later = tt
taken-by kid kids false (Some taken) later = let one = kids-cons kid taken.1 in let all = kids-cons kid kids in omega (arith, one, all, later)

taken-parts : (name : Name) (kids : List Kid) → Taken kids (take_named name kids)
taken-parts name [] = tt
taken-parts name (kid ∷ kids) = taken-by kid kids (is_same_name (name_of kid) name) (take_named name kids) (taken-parts name kids)

-- parts and room together are at most this many
abbrev FewSim : ℕ → Sim × ℕ → Type 0
FewSim most own = parts own.0 + own.1 ≤ most

abbrev FewNet : ℕ → Net × ℕ → Type 0
FewNet most net = parts (sim.Net net.0) + net.1 ≤ most

abbrev FewKid : ℕ → Kid × ℕ → Type 0
FewKid most kid = parts_of_kid kid.0 + kid.1 ≤ most

abbrev FewKids : ℕ → List Kid × ℕ → Type 0
FewKids most kids = parts_of_kids kids.0 + kids.1 ≤ most

entered-few : (left : ℕ) (path : Path) (place room : ℕ) → Brings (λ rest. rest + 1 ≤ room) (quietly (entered left path place room))
entered-few zero path place room = λ value is. absurd (never-ok _ value is)
entered-few (suc left) path place zero = λ value is. absurd (never-ok _ value is)
entered-few (suc left) path place (suc room) = λ value is. let same = same-ok room value is in omega (arith, same)

module _ (system : System) where
  leaf-few : (left : ℕ) (model : ModelId) (boss : Bool) (args : List Value) (path : Path) (time room : ℕ) → Brings (λ own. own.1 + 1 ≤ room) (start_leaf_at system left model boss args path time room)
  leaf-few left model boss args path time room =
      brings-then (λ rest. rest + 1 ≤ room) (λ own. own.1 + 1 ≤ room) (quietly (entered left path (system.component model args).at room))
      (λ rest. quietly (at path (start_leaf system model boss args time)) then (λ leaf. told (AddLeaf path model leaf.state leaf.next ∷ []) (leaf, rest)))
      (entered-few left path (system.component model args).at room)
      (λ rest less. brings-any (λ own. own.1 + 1 ≤ room) (quietly (at path (start_leaf system model boss args time))) (λ leaf. told (AddLeaf path model leaf.state leaf.next ∷ []) (leaf, rest))
      (λ leaf. brings-told (λ own. own.1 + 1 ≤ room) (AddLeaf path model leaf.state leaf.next ∷ []) (leaf, rest) less))

  abbrev StartsFew : Starter → Type 0
  StartsFew starter = (model : ModelId) (args : List Value) (path : Path) (time room : ℕ) → Brings (FewSim room) (starter model args path time room)

  kid-few : (starter : Starter) → StartsFew starter → (own : Entry) (path : Path) (time room : ℕ) → Brings (FewKid room) (started_kid starter own path time room)
  kid-few starter few own path time room =
      brings-then (FewSim room) (FewKid room) (starter own.model own.args (below path own.name) time room) (λ started. told [] (kid_of own.name started.0, started.1))
      (few own.model own.args (below path own.name) time room)
      (λ started less. let same = parts-named own.name started.0 in brings-told (FewKid room) [] (kid_of own.name started.0, started.1) (omega (arith, same, less)))

  starts-few : (starter : Starter) → StartsFew starter → (entries : List Entry) (path : Path) (time room : ℕ) (done : List Kid) → Brings (FewKids (parts_of_kids done + room)) (starts starter entries path time room done)
  starts-few starter few [] path time room done = brings-told (FewKids (parts_of_kids done + room)) [] (done, room) (omega arith)
  starts-few starter few (own ∷ entries) path time room done =
      brings-then (FewKid room) (FewKids (parts_of_kids done + room)) (started_kid starter own path time room) (λ one. starts starter entries path time one.1 (done ++ one.0 ∷ []))
      (kid-few starter few own path time room)
      (λ one less value is.
      let rest = starts-few starter few entries path time one.1 (done ++ one.0 ∷ []) value is in
      let more = kids-snoc done one.0 in omega (arith, rest, more, less))

  whole-few : (model : ModelId) (args : List Value) (boss : Leaf) (kids : List Kid) (links : List Link) (room most : ℕ) → parts_of_kids kids + room ≤ most → parts (sim.Net (net_of model args boss kids links)) + room ≤ most + 2
  whole-few model args boss kids links room most less = let same = parts-whole model args boss kids links in omega (arith, same, less)

  plan-few : (starter : Starter) → StartsFew starter → (model : ModelId) (args : List Value) (boss : Leaf) (path : Path) (time room : ℕ) (plan : Plan) → Brings (FewNet (room + 2)) (with_plan starter model args boss path time room plan)
  plan-few starter few model args boss path time room plan =
      brings-then (FewKids (parts_of_kids [] + room)) (FewNet (room + 2)) (starts starter plan.entries path time room []) (λ kids. told [] (net_of model args boss kids.0 plan.links, kids.1))
      (starts-few starter few plan.entries path time room [])
      (λ kids less. let none : parts_of_kids [] ≡ 0 = refl in
      let own : parts_of_kids kids.0 + kids.1 ≤ room = omega (arith, less, none) in
      brings-told (FewNet (room + 2)) [] (net_of model args boss kids.0 plan.links, kids.1) (whole-few model args boss kids.0 plan.links kids.1 room own))

  boss-few : (starter : Starter) → StartsFew starter → (model : ModelId) (args : List Value) (path : Path) (time : ℕ) (boss : Leaf × ℕ) → Brings (FewNet (boss.1 + 2)) (with_boss system starter model args path time boss)
  boss-few starter few model args path time boss =
      brings-any (FewNet (boss.1 + 2)) (quietly (structure_of system model args boss.0 path)) (with_plan starter model args boss.0 path time boss.1)
      (λ plan. plan-few starter few model args boss.0 path time boss.1 plan)

  net-few : (left : ℕ) (starter : Starter) → StartsFew starter → (model : ModelId) (args : List Value) (path : Path) (time room : ℕ) → Brings (FewNet (room + 1)) (start_net system left starter model args path time room)
  net-few left starter few model args path time room =
      brings-then (λ own. own.1 + 1 ≤ room) (FewNet (room + 1)) (start_leaf_at system left model true args (to_boss path) time room) (with_boss system starter model args path time)
      (leaf-few left model true args (to_boss path) time room)
      (λ boss less value is. let own = boss-few starter few model args path time boss value is in omega (arith, own, less))

  if-few : (most : ℕ) (test : Bool) (one other : Told (Sim × ℕ)) → Brings (FewSim most) one → Brings (FewSim most) other → Brings (FewSim most) (if test then one else other)
  if-few most true one other first later = first
  if-few most false one other first later = later

  pub start-few : (left : ℕ) → StartsFew (start system left)
  start-few zero model args path time room = λ value is. absurd (never-ok _ value is)
  start-few (suc left) model args path time room =
      if-few room (system.is_network model) (start_net_at system left (start system left) model args path time room) (start_atomic system (suc left) model args path time room)
      (brings-then (λ rest. rest + 1 ≤ room) (FewSim room) (quietly (entered (suc left) path (system.network model args).at room)) (λ rest. start_net system left (start system left) model args path time rest then as_net)
      (entered-few (suc left) path (system.network model args).at room)
      (λ rest less. brings-then (FewNet (rest + 1)) (FewSim room) (start_net system left (start system left) model args path time rest) as_net
      (net-few left (start system left) (start-few left) model args path time rest)
      (λ net own. brings-told (FewSim room) [] (sim.Net net.0, net.1) (omega (arith, own, less)))))
      (brings-then (λ own. own.1 + 1 ≤ room) (FewSim room) (start_leaf_at system (suc left) model false args path time room) (λ leaf. told [] (sim.Leaf leaf.0, leaf.1))
      (leaf-few (suc left) model false args path time room)
      (λ leaf less. let one = parts-Leaf leaf.0 in brings-told (FewSim room) [] (sim.Leaf leaf.0, leaf.1) (omega (arith, one, less))))

  abbrev FewLeft : ℕ → Kid × List Kid × ℕ → Type 0
  FewLeft most own = parts_of_kid own.0 + parts_of_kids own.1 + own.2 ≤ most

  refill-few : (starter : Starter) → StartsFew starter → (own : Entry) (kids : List Kid) (path : Path) (time room : ℕ) (taken : Option (Kid × List Kid)) → Taken kids taken →
      (let step : Told (Kid × List Kid × ℕ) = elim taken [
        | Some taken ↦ told [] (taken.0, taken.1, room)
        | None ↦ started_kid starter own path time room then (λ one. told [] (one.0, kids, one.1))
      ] in Brings (FewLeft (parts_of_kids kids + room)) step)
  refill-few starter few own kids path time room (Some taken) is = brings-told (FewLeft (parts_of_kids kids + room)) [] (taken.0, taken.1, room) (omega (arith, is))
  refill-few starter few own kids path time room None is =
      brings-then (FewKid room) (FewLeft (parts_of_kids kids + room)) (started_kid starter own path time room) (λ one. told [] (one.0, kids, one.1))
      (kid-few starter few own path time room)
      (λ one less. brings-told (FewLeft (parts_of_kids kids + room)) [] (one.0, kids, one.1) (omega (arith, less)))

  refilled-few : (starter : Starter) → StartsFew starter → (entries : List Entry) (kids : List Kid) (path : Path) (time room : ℕ) (done : List Kid) →
      Brings (FewKids (parts_of_kids done + (parts_of_kids kids + room))) (refilled starter entries kids path time room done)
  refilled-few starter few [] kids path time room done = brings-told (FewKids (parts_of_kids done + (parts_of_kids kids + room))) [] (done, room) (omega arith)
  refilled-few starter few (own ∷ entries) kids path time room done =
      brings-then (FewLeft (parts_of_kids kids + room)) (FewKids (parts_of_kids done + (parts_of_kids kids + room))) (refill starter own kids path time room) (λ one. refilled starter entries one.1 path time one.2 (done ++ one.0 ∷ []))
      (refill-few starter few own kids path time room (take_named own.name kids) (taken-parts own.name kids))
      (λ one less value is.
      let rest = refilled-few starter few entries one.1 path time one.2 (done ++ one.0 ∷ []) value is in
      let more = kids-snoc done one.0 in omega (arith, rest, more, less))

  change-few : (entries : List Entry) (kids : List Kid) (path : Path) (time room : ℕ) → Brings (FewKids (parts_of_kids kids + room)) (change system entries kids path time room)
  change-few entries kids path time room value is =
      let all = refilled-few (start system (left_behind path)) (start-few (left_behind path)) entries (kept entries kids) path time (room + parts_of_kids (gone entries kids)) [] value is in
      let split = kids-filter entries kids in
      let none : parts_of_kids [] ≡ 0 = refl in
      omega (arith, all, split, none)

  after-few : (model : ModelId) (args : List Value) (kids : List Kid) (path : Path) (time room : ℕ) (boss : Leaf) → Brings (FewNet (parts_of_kids kids + room + 2)) (after_boss system model args kids path time room boss)
  after-few model args kids path time room boss =
      brings-any (FewNet (parts_of_kids kids + room + 2)) (quietly (structure_of system model args boss path)) (replanned system model args boss kids path time room)
      (λ plan. brings-then (FewKids (parts_of_kids kids + room)) (FewNet (parts_of_kids kids + room + 2)) (change system plan.entries kids path time room) (λ changed. told [] (net_of model args boss changed.0 plan.links, changed.1))
      (change-few plan.entries kids path time room)
      (λ changed less. brings-told (FewNet (parts_of_kids kids + room + 2)) [] (net_of model args boss changed.0 plan.links, changed.1)
      (whole-few model args boss changed.0 plan.links changed.1 (parts_of_kids kids + room) less)))

  boss-moves-few : (model : ModelId) (args : List Value) (boss : Leaf) (links : List Link) (kids : List Kid) (path : Path) (time : ℕ) (got : Ports) (room : ℕ) (kind : Option MoveKind) →
      (let step : Told (Net × ℕ) = elim kind [
        | Some kind ↦ take_move system boss kind (to_boss path) time got then after_boss system model args kids path time room
        | None ↦ told [] (net_of model args boss kids links, room)
      ] in Brings (FewNet (parts_of_kids kids + room + 2)) step)
  boss-moves-few model args boss links kids path time got room (Some kind) =
      brings-any (FewNet (parts_of_kids kids + room + 2)) (take_move system boss kind (to_boss path) time got) (after_boss system model args kids path time room) (λ after. after-few model args kids path time room after)
  boss-moves-few model args boss links kids path time got room None =
      let same = parts-whole model args boss kids links in
      brings-told (FewNet (parts_of_kids kids + room + 2)) [] (net_of model args boss kids links, room) (omega (arith, same))

  -- a part that moves
  moves-few : (is_boss : Bool) (path : Path) (time : ℕ) (got : Ports) (part : Sim) (room : ℕ) → Brings (FewSim (parts part + room)) (moves system is_boss path time got part room)
  moves-few false path time got part room =
      by_parts (λ (t : Sim). Brings (FewSim (parts t + room)) (moves system false path time got t room))
      (λ own. subst (Brings (FewSim (parts (sim.Leaf own) + room))) (sym (leaf-moves-leaf system path time got own room))
      (brings-any (FewSim (parts (sim.Leaf own) + room)) (move_leaf_at system own path time got) (as_leaf room)
      (λ after. let one = parts-Leaf after in let two = parts-Leaf own in brings-told (FewSim (parts (sim.Leaf own) + room)) [] (sim.Leaf after, room) (omega (arith, one, two)))))
      (λ model args boss kids links. subst (Brings (FewSim (parts (whole model args boss kids links) + room)))
      (sym (ap (moves_in system false path time got (whole model args boss kids links) room) (out-Net-of (net_of model args boss kids links))))
      (brings-told (FewSim (parts (whole model args boss kids links) + room)) [] (whole model args boss kids links, room) (omega arith)))
      part
  moves-few true path time got part room =
      by_parts (λ (t : Sim). Brings (FewSim (parts t + room)) (moves system true path time got t room))
      (λ own. subst (Brings (FewSim (parts (sim.Leaf own) + room))) (sym (ap (moves_in system true path time got (sim.Leaf own) room) (out-Leaf own)))
      (brings-told (FewSim (parts (sim.Leaf own) + room)) [] (sim.Leaf own, room) (omega arith)))
      (λ model args boss kids links. subst (Brings (FewSim (parts (whole model args boss kids links) + room))) (sym (boss-moves-whole system path time got model args boss kids links room))
      (brings-then (FewNet (parts_of_kids kids + room + 2)) (FewSim (parts (whole model args boss kids links) + room)) (boss_moves system model args boss links kids path time got room) as_net
      (boss-moves-few model args boss links kids path time got room (kind_of boss time got))
      (λ net less. let same = parts-whole model args boss kids links in brings-told (FewSim (parts (whole model args boss kids links) + room)) [] (sim.Net net.0, net.1) (omega (arith, same, less)))))
      part

  -- the parts of a tree with another part in a place
  abbrev Trades : (Sim → Sim) → Sim → ℕ → ℕ → Type 0
  Trades replace tree old new = parts (replace tree) + old ≡ parts tree + new

  kids-trade-by : (kid : Kid) (kids : List Kid) (name : Name) (replace : Sim → Sim) (old new : ℕ) (tree : Sim) (here : Bool) →
      (let found : Option Sim = if here then Some (out-Kid kid).sim else kid_named name kids in found ≡ Some tree) → Trades replace tree old new →
      (kid_named name kids ≡ Some tree → parts_of_kids (with_named name replace kids) + old ≡ parts_of_kids kids + new) →
      parts_of_kids (if here then kid_of (name_of kid) (replace (out-Kid kid).sim) ∷ kids else kid ∷ with_named name replace kids) + old ≡ parts_of_kids (kid ∷ kids) + new
  kids-trade-by kid kids name replace old new tree true is trades later =
      let same : (out-Kid kid).sim ≡ tree = (let e : Some (out-Kid kid).sim ≡ Some tree = is in cc) in
      let own : parts (replace (out-Kid kid).sim) + old ≡ parts (out-Kid kid).sim + new = subst (λ (t : Sim). Trades replace t old new) (sym same) trades in
      let first = kids-cons (kid_of (name_of kid) (replace (out-Kid kid).sim)) kids in
      let named = parts-named (name_of kid) (replace (out-Kid kid).sim) in
      let all = kids-cons kid kids in
      let opened_kid = parts-kid kid in
      omega (arith, own, first, named, all, opened_kid)
  kids-trade-by kid kids name replace old new tree false is trades later =
      let first = kids-cons kid (with_named name replace kids) in
      let all = kids-cons kid kids in
      let rest = later is in
      omega (arith, first, all, rest)

  kids-trade : (kids : List Kid) (name : Name) (replace : Sim → Sim) (old new : ℕ) (tree : Sim) → kid_named name kids ≡ Some tree → Trades replace tree old new →
      parts_of_kids (with_named name replace kids) + old ≡ parts_of_kids kids + new
  kids-trade [] name replace old new tree is trades = absurd (let e : None ≡ Some tree = is in cc)
  kids-trade (kid ∷ kids) name replace old new tree is trades =
      kids-trade-by kid kids name replace old new tree (is_same_name (name_of kid) name) is trades (λ found. kids-trade kids name replace old new tree found trades)

  trade-by : (names : List Name) (own part : Sim) (name : Name) (kids : List Kid) (found : Option Sim) → kid_named name kids ≡ found → option_and_then (part_at names) found ≡ Some part →
      ((tree : Sim) → part_at names tree ≡ Some part → Trades (with_part names own) tree (parts part) (parts own)) →
      parts_of_kids (with_named name (with_part names own) kids) + parts part ≡ parts_of_kids kids + parts own
  trade-by names own part name kids None there is later = absurd (let e : None ≡ Some part = is in cc)
  trade-by names own part name kids (Some tree) there is later = kids-trade kids name (with_part names own) (parts part) (parts own) tree there (later tree is)

  pub trade : (names : List Name) (own part tree : Sim) → part_at names tree ≡ Some part → Trades (with_part names own) tree (parts part) (parts own)
  trade [] own part tree = λ is. let same : tree ≡ part = (let e : Some tree ≡ Some part = is in cc) in let counted = ap parts same in omega (arith, counted)
  trade (name ∷ names) own part tree =
      by_parts (λ (t : Sim). part_at (name ∷ names) t ≡ Some part → Trades (with_part (name ∷ names) own) t (parts part) (parts own))
      (λ leaf is. absurd (let e : None ≡ Some part = sym (part-leaf names name leaf) ∙ is in cc))
      (λ model args boss kids links is.
      let in_kids = trade-by names own part name kids (kid_named name kids) refl (sym (part_at-whole name names model args boss kids links) ∙ is) (λ t found. trade names own part t found) in
      let before = parts-whole model args boss kids links in
      let after = ap parts (with_part-whole name names own model args boss kids links) ∙ parts-whole model args boss (with_named name (with_part names own) kids) links in
      omega (arith, in_kids, before, after))
      tree

  at-few : (names : List Name) (step : Step) (tree : Sim) (room : ℕ) (found : Option Sim) → part_at names tree ≡ found → ((part : Sim) → Brings (FewSim (parts part + room)) (step part room)) →
      (let all : Told (Sim × ℕ) = elim found [
        | Some part ↦ step part room then (λ after. told [] (with_part names after.0 tree, after.1))
        | None ↦ told [] (tree, room)
      ] in Brings (FewSim (parts tree + room)) all)
  at-few names step tree room (Some part) there few =
      brings-then (FewSim (parts part + room)) (FewSim (parts tree + room)) (step part room) (λ after. told [] (with_part names after.0 tree, after.1)) (few part)
      (λ after less. let traded = trade names after.0 part tree there in brings-told (FewSim (parts tree + room)) [] (with_part names after.0 tree, after.1) (omega (arith, traded, less)))
  at-few names step tree room None there few = brings-told (FewSim (parts tree + room)) [] (tree, room) (omega arith)

  pub each-few : (path : Path) (time : ℕ) (list : List Delivery) (tree : Sim) (room : ℕ) → Brings (FewSim (parts tree + room)) (move_each system path time list tree room)
  each-few path time [] tree room = brings-told (FewSim (parts tree + room)) [] (tree, room) (omega arith)
  each-few path time (own ∷ others) tree room =
      let seat = seat_behind path own.path in
      brings-then (FewSim (parts tree + room)) (FewSim (parts tree + room)) (move_one system path time own tree room) (λ after. move_each system path time others after.0 after.1)
      (at-few seat.names (moves system seat.is_boss (path_behind path seat.names) time own.ports) tree room (part_at seat.names tree) refl
      (λ part. moves-few seat.is_boss (path_behind path seat.names) time own.ports part room))
      (λ after less value is. let rest = each-few path time others after.0 after.1 value is in omega (arith, rest, less))

  -- a turn in any order
  pub turn-few : (tree : Sim) (number time : ℕ) (items : List Item) (order : List Delivery) → parts tree ≤ MOST_PARTS → Brings (λ (after : Sim). parts after ≤ MOST_PARTS) (free_turn system tree number time items order)
  turn-few tree number time items order within =
      let room = MOST_PARTS - parts tree in
      brings-any (λ (after : Sim). parts after ≤ MOST_PARTS) (quietly (output system tree root time)) (free_phase system tree time order)
      (λ sent. brings-then (FewSim (parts tree + room)) (λ (after : Sim). parts after ≤ MOST_PARTS) (move_each system root time order tree room) without_room
      (each-few root time order tree room)
      (λ after less. brings-told (λ (own : Sim). parts own ≤ MOST_PARTS) [] after.0 (omega (arith, less, within))))
