-- The work that steps tell, by the room that they take and give back.
use Rattle.std.proofs.Common.{◌≡◌, ℕ, ◌+◌, ◌*◌, ◌≤◌, ◌==◌, zero, suc, not, ◌||◌, ◌&&◌, Bool, true, false, List, [], ◌∷◌, ◌++◌, length, map, sum, sum_by, Option, Some, None, Ok, Less, refl, sym, ◌∙◌, ap, subst, arith, length-append}
use Rattle.std.proofs.lemmas.List.Sums.{sum_by-cons, sum_by-append}
use Rattle.std.proofs.lemmas.Map.Keys.{sorted_head, sorted_tail}
use Rattle.std.specs.Cmp.{IsTotalOrder}
use Rattle.std.specs.List.{AllByRecursion, filter, list_any}
use Rattle.std.specs.Prelude.{if◌then◌else◌, option_map, Result}
use Rattle.dsde_values.specs.declared.name.Name.{Name}
use Rattle.dsde_values.specs.declared.path.Path.{Path}
use Rattle.dsde_values.specs.declared.value.Value.{Value}
use Rattle.dsde_values.specs.Path.{name_cmp}
use Rattle.dsde_sim_tree.specs.given.language.ids_ModelId.{ModelId}
use Rattle.dsde_sim_tree.specs.given.formalism.leaf_Leaf.{Leaf}
use Rattle.dsde_sim_tree.specs.given.formalism.leaf_MoveKind.{MoveKind}
use Rattle.dsde_sim_tree.specs.given.formalism.Leaf.{kind_of, move_leaf, start_leaf}
use Rattle.dsde_sim_tree.specs.given.formalism.System.{System, Ports}
use Rattle.dsde_sim_tree.specs.given.structure.plan_Entry.{Entry}
use Rattle.dsde_sim_tree.specs.given.structure.plan_Link.{Link}
use Rattle.dsde_sim_tree.specs.given.structure.plan_Plan.{Plan}
use Rattle.dsde_sim_tree.specs.given.structure.Gather.{is_same_name}
use Rattle.dsde_sim_tree.specs.given.values_equality.Same.{are_same_values}
use Rattle.dsde_sim_tree.specs.given.structure.Survival as entry
use Rattle.dsde_sim_tree.specs.given.structure.Survival.{AreInOrder}
use Rattle.dsde_sim_tree.specs.declared.event.Event.{Event}
use Rattle.dsde_sim_tree.specs.declared.event.Event.TheVariants.{AddLeaf, AddNet, Get, Move}
use Rattle.dsde_sim_tree.specs.declared.fault.TurnEnd.{TurnEnd}
use Rattle.dsde_sim_tree.specs.Told.{Told, told, quietly, telling, ◌then◌, at, below, to_boss}
use Rattle.dsde_sim_tree.specs.declared.sim.Kid.{Kid}
use Rattle.dsde_sim_tree.specs.declared.sim.Net.{Net}
use Rattle.dsde_sim_tree.specs.declared.sim.Sim.{Sim}
use Rattle.dsde_sim_tree.specs.declared.sim.Sim.TheVariants as sim
use Rattle.dsde_sim_tree.specs.declared.sim.Sim.TheOpen.{Sim-F}
use Rattle.dsde_sim_tree.specs.declared.sim.Sim.TheViews.{out-Kid, out-Net, out-Sim}
use Rattle.dsde_sim_tree.specs.Move.{gets_at, gets_from, take_move, survives, gone, kept, drop_of, take_named, refill, refilled, left_behind, change, replanned, after_boss, boss_moves}
use Rattle.dsde_sim_tree.specs.Opened.{as_net}
use Rattle.dsde_sim_tree.specs.Start.{entered, kid_of, net_of, start_leaf_at, Starter, started_kid, starts, structure_of, with_plan, with_boss, start_net, start_net_at, start_atomic, start}
use Rattle.dsde_sim_tree.specs.Tree.{entry_of, parts, parts_of_kid, parts_of_kids, name_of}
use Rattle.dsde_sim_movers.specs.Work.{work_of, work, entries_in, entries_after, entries_by, entries_of, TakesStructure}
use Rattle.dsde_sim_movers.specs.Movers.{Seat, move_at, moves_in, moves, path_behind, step_at}
use Rattle.dsde_sim_movers.specs.Parts.{part_at, with_part}
use Rattle.dsde_sim_movers.specs.lemmas.Lenses.{by_parts}
use Rattle.dsde_sim_movers.specs.lemmas.Seats.{out-Net-of}
use Rattle.dsde_sim_movers.specs.lemmas.Steps.{same-ok, never-ok, split-then}
use Rattle.dsde_sim_movers.proofs.Measuring.{parts-Leaf, parts-kid}
use Rattle.dsde_sim_movers.proofs.MoverChanging.{apart-back}
use Rattle.dsde_sim_movers.proofs.Rooms.{parts-whole}
use Rattle.dsde_sim_movers.proofs.Staying.{Brings, brings-told, brings-then}

-- what a step comes to, and the work that it tells, have this
abbrev Works : {A : Type 0} → (ℕ → A → Type 0) → Told A → Type 0
Works P step = (value : _) → step.end ≡ Ok value → P (work step.events) value

work-append : (xs ys : List Event) → work (xs ++ ys) ≡ work xs + work ys
work-append xs ys = sum_by-append work_of xs ys

work-cons : (own : Event) (events : List Event) → work (own ∷ events) ≡ work_of own + work events
work-cons own events = sum_by-cons work_of own events

works-told : {A : Type 0} (P : ℕ → A → Type 0) (events : List Event) (value : A) → P (work events) value → Works P (told events value)
works-told P events value has other is = subst (P (work events)) (same-ok value other is) has

works-then : {A B : Type 0} (P : ℕ → A → Type 0) (Q : ℕ → B → Type 0) (step : Told A) (next : A → Told B) → Works P step →
    ((n : ℕ) (value : A) → P n value → Works (λ m other. Q (n + m) other) (next value)) → Works Q (step then next)
works-then P Q step next first later value is =
    let known = split-then step.events step.end next value is in
    subst (λ (n : ℕ). Q n value) (sym (ap work known.3 ∙ work-append step.events (next known.0).events)) (later (work step.events) known.0 (first known.0 known.1) value known.2)

-- of a step that tells nothing
works-quietly : {A B : Type 0} (Q : ℕ → B → Type 0) (result : Result A TurnEnd) (next : A → Told B) → ((value : A) → result ≡ Ok value → Works Q (next value)) → Works Q (quietly result then next)
works-quietly Q result next later value is =
    let known = split-then [] result next value is in
    subst (λ (n : ℕ). Q n value) (sym (ap work known.3)) (later known.0 known.1 value known.2)

works-telling : {A : Type 0} (P : ℕ → A → Type 0) (events : List Event) (step : Told A) → Works (λ n value. P (work events + n) value) step → Works P (telling events step)
works-telling P events step has value is = subst (λ (n : ℕ). P n value) (sym (work-append events step.events)) (has value is)

-- the work and the room that is left are this together
abbrev Leaves : {A : Type 0} → ℕ → ℕ → A × ℕ → Type 0
Leaves all n own = n + own.1 ≡ all

entered-one : (left : ℕ) (path : Path) (place room rest : ℕ) → entered left path place room ≡ Ok rest → rest + 1 ≡ room
entered-one zero path place room rest is = absurd (never-ok _ rest is)
entered-one (suc left) path place zero rest is = absurd (never-ok _ rest is)
entered-one (suc left) path place (suc room) rest is = let same = same-ok room rest is in omega (arith, same)

-- receiving is no work
gets-at-none : (path : Path) (model : ModelId) (port : ℕ) (values : List Value) → work (gets_at path model port values) ≡ 0
gets-at-none path model port [] = omega arith
gets-at-none path model port (value ∷ values) =
    let one = work-cons (Get path model port value) (gets_at path model port values) in
    let rest = gets-at-none path model port values in
    omega (arith, one, rest)

gets-none : (path : Path) (model : ModelId) (port : ℕ) (got : Ports) → work (gets_from path model port got) ≡ 0
gets-none path model port [] = omega arith
gets-none path model port (values ∷ later) =
    let joined = work-append (gets_at path model port values) (gets_from path model (port + 1) later) in
    let one = gets-at-none path model port values in
    let others = gets-none path model (port + 1) later in
    omega (arith, joined, one, others)

-- what is dropped is work for each part
drops-all : (path : Path) (kids : List Kid) → work (map (drop_of path) kids) ≡ parts_of_kids kids
drops-all path [] = refl
drops-all path (kid ∷ kids) =
    let one = work-cons (drop_of path kid) (map (drop_of path) kids) in
    let rest = drops-all path kids in
    let all = sum_by-cons (λ x. x) (parts_of_kid kid) (map parts_of_kid kids) in
    let own : work (drop_of path kid ∷ map (drop_of path) kids) ≡ parts_of_kids (kid ∷ kids) = omega (arith, one, rest, all) in own

-- a part is one at least
parts-some : (tree : Sim) → 1 ≤ parts tree
parts-some = by_parts (λ (t : Sim). 1 ≤ parts t) (λ leaf. let one = parts-Leaf leaf in omega (arith, one)) (λ model args boss kids links. let all = parts-whole model args boss kids links in omega (arith, all))

-- who is gone has a part at least
gone-few : (kids : List Kid) → length kids ≤ parts_of_kids kids
gone-few [] = omega arith
gone-few (kid ∷ kids) =
    let all = sum_by-cons (λ x. x) (parts_of_kid kid) (map parts_of_kid kids) in
    let one = parts-some (out-Kid kid).sim in
    let same = parts-kid kid in
    let rest = gone-few kids in
    let own : length (kid ∷ kids) ≤ parts_of_kids (kid ∷ kids) = omega (arith, all, one, same, rest) in own

split-by : (kid : Kid) (yes_kids no_kids kids : List Kid) (here : Bool) → length yes_kids + length no_kids ≡ length kids →
    length (if here then kid ∷ yes_kids else yes_kids) + length (if not here then kid ∷ no_kids else no_kids) ≡ length (kid ∷ kids)
split-by kid yes_kids no_kids kids true rest = omega (arith, rest)
split-by kid yes_kids no_kids kids false rest = omega (arith, rest)

-- who is kept and who is gone are all
split-kids : (entries : List Entry) (kids : List Kid) → length (kept entries kids) + length (gone entries kids) ≡ length kids
split-kids entries [] = omega arith
split-kids entries (kid ∷ kids) = split-by kid (kept entries kids) (gone entries kids) kids (survives entries kid) (split-kids entries kids)

-- an entry as which a component survives, and the others
record Found (test : Entry → Bool) (entries : List Entry) : Type 0 where
  before : List Entry
  own : Entry
  after : List Entry
  all : entries ≡ before ++ own ∷ after
  passes : test own ≡ true

found-by : (test : Entry → Bool) (own : Entry) (entries : List Entry) (here : Bool) → test own ≡ here → (here || list_any test entries) ≡ true → (list_any test entries ≡ true → Found test entries) → Found test (own ∷ entries)
found-by test own entries true is any later = record { before = []; own = own; after = entries; all = refl; passes = is }
found-by test own entries false is any later =
    let rest = later any in record { before = own ∷ rest.before; own = rest.own; after = rest.after; all = ap (λ (list : List Entry). own ∷ list) rest.all; passes = rest.passes }

found : (test : Entry → Bool) (entries : List Entry) → list_any test entries ≡ true → Found test entries
found test [] any = absurd (let e : false ≡ true = any in cc)
found test (own ∷ entries) any = found-by test own entries (test own) refl any (found test entries)

any-without : (test : Entry → Bool) (before : List Entry) (own : Entry) (after : List Entry) → test own ≡ false → list_any test (before ++ own ∷ after) ≡ list_any test (before ++ after)
any-without test [] own after is = ap (λ (here : Bool). here || list_any test after) is
any-without test (first ∷ before) own after is = ap (λ (rest : Bool). test first || rest) (any-without test before own after is)

first-of : (a b c : Bool) → (a && b && c) ≡ true → a ≡ true
first-of true b c is = refl
first-of false b c is = absurd (let e : false ≡ true = is in cc)

-- who survives as an entry has its name
survivor-named : (old own : Entry) → entry.survives old own ≡ true → is_same_name old.name own.name ≡ true
survivor-named old own is = first-of (is_same_name old.name own.name) (old.model.0 == own.model.0) (own.soft || are_same_values old.args own.args) is

survivor-other : (old own : Entry) → is_same_name old.name own.name ≡ false → entry.survives old own ≡ false
survivor-other old own is = ap (λ (named : Bool). named && old.model.0 == own.model.0 && (own.soft || are_same_values old.args own.args)) is

module _ (total : IsTotalOrder name_cmp) (exact : (name other : Name) → is_same_name name other ≡ true → name ≡ other) where
  -- who comes later is not of the entry as which the first survives
  later-without : (entries before : List Entry) (own : Entry) (after : List Entry) (first : Kid) → entries ≡ before ++ own ∷ after → entry.survives (entry_of first) own ≡ true → (kids : List Kid) →
      AllByRecursion (λ (name : Name). name_cmp (name_of first) name ≡ Less) (map name_of kids) → kept entries kids ≡ kept (before ++ after) kids
  later-without entries before own after first all is [] less = refl
  later-without entries before own after first all is (kid ∷ kids) less =
      let named : name_of first ≡ own.name = exact (name_of first) own.name (survivor-named (entry_of first) own is) in
      let other : is_same_name (name_of kid) own.name ≡ false = ap (λ (n : Name). is_same_name (name_of kid) n) (sym named) ∙ apart-back total (name_of first) (name_of kid) less.0 in
      let here : survives entries kid ≡ survives (before ++ after) kid =
      ap (λ (list : List Entry). survives list kid) all ∙ any-without (entry.survives (entry_of kid)) before own after (survivor-other (entry_of kid) own other) in
      λ i. if here i then kid ∷ later-without entries before own after first all is kids less.1 i else later-without entries before own after first all is kids less.1 i

  kept-by : (entries : List Entry) (kid : Kid) (kids : List Kid) (here : Bool) → survives entries kid ≡ here → AllByRecursion (λ (name : Name). name_cmp (name_of kid) name ≡ Less) (map name_of kids) →
      ((others : List Entry) → length (kept others kids) ≤ length others) → length (if here then kid ∷ kept entries kids else kept entries kids) ≤ length entries
  kept-by entries kid kids false is less rest = rest entries
  kept-by entries kid kids true is less rest =
      let own = found (entry.survives (entry_of kid)) entries is in
      let same = ap length (later-without entries own.before own.own own.after kid own.all own.passes kids less) in
      let few = rest (own.before ++ own.after) in
      let whole = ap length own.all ∙ length-append own.before (own.own ∷ own.after) in
      let less_one = length-append own.before own.after in
      omega (arith, same, few, whole, less_one)

  kept-few : (kids : List Kid) → AreInOrder (map name_of kids) → (entries : List Entry) → length (kept entries kids) ≤ length entries
  kept-few [] order entries = omega arith
  kept-few (kid ∷ kids) order entries =
      kept-by entries kid kids (survives entries kid) refl (sorted_head name_cmp (name_of kid) (map name_of kids) order) (kept-few kids (sorted_tail name_cmp (name_of kid) (map name_of kids) order))

  -- components are no more than entries and parts that are gone
  pub kids-few : (entries : List Entry) (kids : List Kid) → AreInOrder (map name_of kids) → length kids ≤ length entries + parts_of_kids (gone entries kids)
  kids-few entries kids order =
      let all = split-kids entries kids in
      let stay = kept-few kids order entries in
      let left = gone-few (gone entries kids) in
      omega (arith, all, stay, left)

module _ (system : System) where
  leaf-works : (left : ℕ) (model : ModelId) (boss : Bool) (args : List Value) (path : Path) (time room : ℕ) → Works (Leaves room) (start_leaf_at system left model boss args path time room)
  leaf-works left model boss args path time room =
      works-quietly (Leaves room) (entered left path (system.component model args).at room)
      (λ rest. quietly (at path (start_leaf system model boss args time)) then (λ leaf. told (AddLeaf path model leaf.state leaf.next ∷ []) (leaf, rest)))
      (λ rest is. works-quietly (Leaves room) (at path (start_leaf system model boss args time)) (λ leaf. told (AddLeaf path model leaf.state leaf.next ∷ []) (leaf, rest))
      (λ leaf begun.
      let taken = entered-one left path (system.component model args).at room rest is in
      let one = work-cons (AddLeaf path model leaf.state leaf.next) [] in
      let none : work [] ≡ 0 = refl in
      works-told (Leaves room) (AddLeaf path model leaf.state leaf.next ∷ []) (leaf, rest) (omega (arith, one, none, taken))))

  abbrev StartsWork : Starter → Type 0
  StartsWork starter = (model : ModelId) (args : List Value) (path : Path) (time room : ℕ) → Works (Leaves room) (starter model args path time room)

  -- a step, and then nothing more is told
  works-as : {A B : Type 0} (all : ℕ) (step : Told (A × ℕ)) (view : A → B) → Works (Leaves all) step → Works (Leaves all) (step then (λ own. told [] (view own.0, own.1)))
  works-as all step view has =
      works-then (Leaves all) (Leaves all) step (λ own. told [] (view own.0, own.1)) has
      (λ n own is. works-told (λ m other. Leaves all (n + m) other) [] (view own.0, own.1) (omega (arith, is)))

  kid-works : (starter : Starter) → StartsWork starter → (own : Entry) (path : Path) (time room : ℕ) → Works (Leaves room) (started_kid starter own path time room)
  kid-works starter works own path time room = works-as room (starter own.model own.args (below path own.name) time room) (kid_of own.name) (works own.model own.args (below path own.name) time room)

  starts-work : (starter : Starter) → StartsWork starter → (entries : List Entry) (path : Path) (time room : ℕ) (done : List Kid) → Works (Leaves room) (starts starter entries path time room done)
  starts-work starter works [] path time room done = works-told (Leaves room) [] (done, room) (omega arith)
  starts-work starter works (own ∷ entries) path time room done =
      works-then (Leaves room) (Leaves room) (started_kid starter own path time room) (λ one. starts starter entries path time one.1 (done ++ one.0 ∷ []))
      (kid-works starter works own path time room)
      (λ n one is value ends. let rest = starts-work starter works entries path time one.1 (done ++ one.0 ∷ []) value ends in omega (arith, rest, is))

  plan-works : (starter : Starter) → StartsWork starter → (model : ModelId) (args : List Value) (boss : Leaf) (path : Path) (time room : ℕ) (plan : Plan) → Works (Leaves room) (with_plan starter model args boss path time room plan)
  plan-works starter works model args boss path time room plan =
      works-as room (starts starter plan.entries path time room []) (λ kids. net_of model args boss kids plan.links) (starts-work starter works plan.entries path time room [])

  boss-works : (starter : Starter) → StartsWork starter → (model : ModelId) (args : List Value) (path : Path) (time : ℕ) (boss : Leaf × ℕ) → Works (Leaves boss.1) (with_boss system starter model args path time boss)
  boss-works starter works model args path time boss =
      works-quietly (Leaves boss.1) (structure_of system model args boss.0 path) (with_plan starter model args boss.0 path time boss.1)
      (λ plan is. plan-works starter works model args boss.0 path time boss.1 plan)

  net-works : (left : ℕ) (starter : Starter) → StartsWork starter → (model : ModelId) (args : List Value) (path : Path) (time room : ℕ) → Works (Leaves (room + 1)) (start_net system left starter model args path time room)
  net-works left starter works model args path time room =
      works-telling (Leaves (room + 1)) (AddNet path model ∷ []) (start_leaf_at system left model true args (to_boss path) time room then with_boss system starter model args path time)
      (works-then (Leaves room) (λ n net. Leaves (room + 1) (work (AddNet path model ∷ []) + n) net) (start_leaf_at system left model true args (to_boss path) time room) (with_boss system starter model args path time)
      (leaf-works left model true args (to_boss path) time room)
      (λ n boss is value ends.
      let own = boss-works starter works model args path time boss value ends in
      let one = work-cons (AddNet path model) [] in
      let none : work [] ≡ 0 = refl in
      omega (arith, own, is, one, none)))

  if-works : (all : ℕ) (test : Bool) (one other : Told (Sim × ℕ)) → Works (Leaves all) one → Works (Leaves all) other → Works (Leaves all) (if test then one else other)
  if-works all true one other first later = first
  if-works all false one other first later = later

  pub start-works : (left : ℕ) → StartsWork (start system left)
  start-works zero model args path time room = λ value is. absurd (never-ok _ value is)
  start-works (suc left) model args path time room =
      if-works room (system.is_network model) (start_net_at system left (start system left) model args path time room) (start_atomic system (suc left) model args path time room)
      (works-quietly (Leaves room) (entered (suc left) path (system.network model args).at room) (λ rest. start_net system left (start system left) model args path time rest then as_net)
      (λ rest is.
      let taken = entered-one (suc left) path (system.network model args).at room rest is in
      subst (λ (all : ℕ). Works (Leaves all) (start_net system left (start system left) model args path time rest then as_net)) taken
      (works-as (rest + 1) (start_net system left (start system left) model args path time rest) sim.Net (net-works left (start system left) (start-works left) model args path time rest))))
      (works-as room (start_leaf_at system (suc left) model false args path time room) sim.Leaf (leaf-works (suc left) model false args path time room))

  refill-works : (starter : Starter) → StartsWork starter → (own : Entry) (kids : List Kid) (path : Path) (time room : ℕ) (taken : Option (Kid × List Kid)) →
      (let step : Told (Kid × List Kid × ℕ) = elim taken [
        | Some taken ↦ told [] (taken.0, taken.1, room)
        | None ↦ started_kid starter own path time room then (λ one. told [] (one.0, kids, one.1))
      ] in Works (λ n own. n + own.2 ≡ room) step)
  refill-works starter works own kids path time room (Some taken) = works-told (λ n own. n + own.2 ≡ room) [] (taken.0, taken.1, room) (omega arith)
  refill-works starter works own kids path time room None =
      works-then (Leaves room) (λ n own. n + own.2 ≡ room) (started_kid starter own path time room) (λ one. told [] (one.0, kids, one.1))
      (kid-works starter works own path time room)
      (λ n one is. works-told (λ m other. n + m + other.2 ≡ room) [] (one.0, kids, one.1) (omega (arith, is)))

  refilled-works : (starter : Starter) → StartsWork starter → (entries : List Entry) (kids : List Kid) (path : Path) (time room : ℕ) (done : List Kid) → Works (Leaves room) (refilled starter entries kids path time room done)
  refilled-works starter works [] kids path time room done = works-told (Leaves room) [] (done, room) (omega arith)
  refilled-works starter works (own ∷ entries) kids path time room done =
      works-then (λ n one. n + one.2 ≡ room) (Leaves room) (refill starter own kids path time room) (λ one. refilled starter entries one.1 path time one.2 (done ++ one.0 ∷ []))
      (refill-works starter works own kids path time room (take_named own.name kids))
      (λ n one is value ends. let rest = refilled-works starter works entries one.1 path time one.2 (done ++ one.0 ∷ []) value ends in omega (arith, rest, is))

  pub change-works : (entries : List Entry) (kids : List Kid) (path : Path) (time room : ℕ) → Works (Leaves (room + 2 * parts_of_kids (gone entries kids))) (change system entries kids path time room)
  change-works entries kids path time room =
      let lost = gone entries kids in
      let all = room + 2 * parts_of_kids lost in
      works-telling (Leaves all) (map (drop_of path) lost) (refilled (start system (left_behind path)) entries (kept entries kids) path time (room + parts_of_kids lost) [])
      (λ value ends.
      let rest = refilled-works (start system (left_behind path)) (start-works (left_behind path)) entries (kept entries kids) path time (room + parts_of_kids lost) [] value ends in
      let dropped = drops-all path lost in
      omega (arith, rest, dropped))

  -- a move is one
  pub take-works : (leaf : Leaf) (kind : MoveKind) (path : Path) (time : ℕ) (got : Ports) → Works (λ n moved. n ≡ 1) (take_move system leaf kind path time got)
  take-works leaf kind path time got =
      works-telling (λ n moved. n ≡ 1) (gets_from path leaf.model 0 got) (quietly (at path (move_leaf system leaf kind time got)) then (λ moved. told (Move path leaf.model kind moved.state moved.next ∷ []) moved))
      (works-quietly (λ n moved. work (gets_from path leaf.model 0 got) + n ≡ 1) (at path (move_leaf system leaf kind time got)) (λ moved. told (Move path leaf.model kind moved.state moved.next ∷ []) moved)
      (λ moved is.
      let none = gets-none path leaf.model 0 got in
      let one = work-cons (Move path leaf.model kind moved.state moved.next) [] in
      let nil : work [] ≡ 0 = refl in
      works-told (λ n other. work (gets_from path leaf.model 0 got) + n ≡ 1) (Move path leaf.model kind moved.state moved.next ∷ []) moved (omega (arith, none, one, nil))))

  -- what an executive takes
  abbrev Taken : Net → MoveKind → Path → ℕ → Ports → Type 0
  Taken net kind path time got = (moved : Leaf) × (plan : Plan) × ((take_move system (out-Net net).boss kind (to_boss path) time got).end ≡ Ok moved)
      × (structure_of system (out-Net net).model (out-Net net).args moved path ≡ Ok plan)

  boss-takes : (net : Net) (kind : MoveKind) (path : Path) (time : ℕ) (got : Ports) (room : ℕ) → kind_of (out-Net net).boss time got ≡ Some kind →
      Brings (λ (after : Net × ℕ). Taken net kind path time got) (boss_moves system (out-Net net).model (out-Net net).args (out-Net net).boss (out-Net net).links (out-Net net).kids path time got room)
  boss-takes net kind path time got room is =
      let own = out-Net net in
      let taken = take_move system own.boss kind (to_boss path) time got in
      subst (λ (found : Option MoveKind). (let step : Told (Net × ℕ) = elim found [
        | Some kind ↦ take_move system own.boss kind (to_boss path) time got then after_boss system own.model own.args own.kids path time room
        | None ↦ told [] (net_of own.model own.args own.boss own.kids own.links, room)
      ] in Brings (λ (after : Net × ℕ). Taken net kind path time got) step)) (sym is)
      (brings-then (λ moved. taken.end ≡ Ok moved) (λ (after : Net × ℕ). Taken net kind path time got) taken (after_boss system own.model own.args own.kids path time room)
      (λ moved ends. ends)
      (λ moved moves value ends.
      let known = split-then [] (structure_of system own.model own.args moved path) (replanned system own.model own.args moved own.kids path time room) value ends in
      (moved, known.0, moves, known.1)))

  -- the executive of the network at a place
  boss-at-takes : (path : Path) (time : ℕ) (names : List Name) (got : Ports) (tree : Sim) (net : Net) (kind : MoveKind) (room : ℕ) → part_at names tree ≡ Some (sim.Net net) → kind_of (out-Net net).boss time got ≡ Some kind →
      Brings (λ (after : Sim × ℕ). Taken net kind (path_behind path names) time got) (step_at names (moves system true (path_behind path names) time got) tree room)
  boss-at-takes path time names got tree net kind room there is =
      let own = out-Net net in
      let here = path_behind path names in
      let step = moves system true here time got in
      let opened : step (sim.Net net) room ≡ (boss_moves system own.model own.args own.boss own.links own.kids here time got room then as_net) = ap (moves_in system true here time got (sim.Net net) room) (out-Net-of net) in
      subst (λ (found : Option Sim). (let all : Told (Sim × ℕ) = elim found [
        | Some part ↦ step part room then (λ after. told [] (with_part names after.0 tree, after.1))
        | None ↦ told [] (tree, room)
      ] in Brings (λ (after : Sim × ℕ). Taken net kind here time got) all)) (sym there)
      (brings-then (λ (after : Sim × ℕ). Taken net kind here time got) (λ (after : Sim × ℕ). Taken net kind here time got) (step (sim.Net net) room) (λ after. told [] (with_part names after.0 tree, after.1))
      (subst (Brings (λ (after : Sim × ℕ). Taken net kind here time got)) (sym opened)
      (brings-then (λ (after : Net × ℕ). Taken net kind here time got) (λ (after : Sim × ℕ). Taken net kind here time got)
      (boss_moves system own.model own.args own.boss own.links own.kids here time got room) as_net
      (boss-takes net kind here time got room is)
      (λ after taken. brings-told (λ (own : Sim × ℕ). Taken net kind here time got) [] (sim.Net after.0, after.1) taken)))
      (λ after taken. brings-told (λ (own : Sim × ℕ). Taken net kind here time got) [] (with_part names after.0 tree, after.1) taken))

  -- the entries that it takes
  entries-taken : (path : Path) (time : ℕ) (names : List Name) (got : Ports) (tree : Sim) (net : Net) (kind : MoveKind) → part_at names tree ≡ Some (sim.Net net) → kind_of (out-Net net).boss time got ≡ Some kind →
      (taken : Taken net kind (path_behind path names) time got) → entries_of system true (path_behind path names) time got (option_map out-Sim (part_at names tree)) ≡ length taken.1.entries
  entries-taken path time names got tree net kind there is taken =
      let here = path_behind path names in
      ap (λ (found : Option Sim). entries_of system true here time got (option_map out-Sim found)) there
      ∙ ap (λ (own : Sim-F Sim Kid Net). entries_of system true here time got (Some own)) (out-Net-of net)
      ∙ ap (entries_by system net here time got) is
      ∙ ap (entries_after system net here) taken.2
      ∙ ap entries_in taken.3

  pub takes-at : (path : Path) (time : ℕ) (seat : Seat) (got : Ports) (tree : Sim) (net : Net) (kind : MoveKind) (room : ℕ) → seat.is_boss ≡ true → part_at seat.names tree ≡ Some (sim.Net net) → kind_of (out-Net net).boss time got ≡ Some kind →
      Brings (λ (after : Sim × ℕ). TakesStructure system net kind (path_behind path seat.names) time got (entries_of system seat.is_boss (path_behind path seat.names) time got (option_map out-Sim (part_at seat.names tree)))) (move_at system path time seat got tree room)
  takes-at path time seat got tree net kind room boss there is =
      let here = path_behind path seat.names in
      subst (λ (b : Bool). Brings (λ (after : Sim × ℕ). TakesStructure system net kind here time got (entries_of system b here time got (option_map out-Sim (part_at seat.names tree)))) (step_at seat.names (moves system b here time got) tree room)) (sym boss)
      (λ value ends.
      let taken = boss-at-takes path time seat.names got tree net kind room there is value ends in
      record { moved = taken.0; plan = taken.1; moves = taken.2; follows = taken.3; all = entries-taken path time seat.names got tree net kind there is taken })
