-- Parts and seats beneath a component of a network.
use Rattle.std.proofs.Common.{◌≡◌, ℕ, Bool, true, false, List, [], ◌∷◌, ◌++◌, length, drop, Option, Some, None, refl, sym, ◌∙◌, ap, append_assoc}
use Rattle.std.specs.Prelude.{if◌then◌else◌, option_and_then}
use Rattle.std.specs.List.{AllByRecursion}
use Rattle.dsde_sim_tree.specs.Tree.{name_of}
use Rattle.dsde_values.specs.declared.name.Name.{Name}
use Rattle.dsde_values.specs.declared.path.Path.{Path}
use Rattle.dsde_values.specs.declared.value.Value.{Value}
use Rattle.dsde_sim_tree.specs.given.language.ids_ModelId.{ModelId}
use Rattle.dsde_sim_tree.specs.given.formalism.leaf_Leaf.{Leaf}
use Rattle.dsde_sim_tree.specs.given.formalism.System.{System, Ports}
use Rattle.dsde_sim_tree.specs.given.structure.plan_Link.{Link}
use Rattle.dsde_sim_tree.specs.given.structure.Gather.{is_same_name}
use Rattle.dsde_values.specs.Path.{EXEC}
use Rattle.dsde_sim_tree.specs.Told.{below, Told, told, ◌then◌}
use Rattle.dsde_sim_tree.specs.declared.sim.Kid.{Kid}
use Rattle.dsde_sim_tree.specs.declared.sim.Net.{Net}
use Rattle.dsde_sim_tree.specs.declared.sim.Sim.{Sim}
use Rattle.dsde_sim_tree.specs.declared.sim.Sim.TheVariants as sim
use Rattle.dsde_sim_tree.specs.declared.sim.Sim.TheOpen as layer
use Rattle.dsde_sim_tree.specs.declared.sim.Sim.TheOpen.{Sim-F, Net-F, Kid-F}
use Rattle.dsde_sim_tree.specs.declared.sim.Sim.TheViews.{out-Sim, out-Kid, out-Net, out-roll-Sim, out-roll-Kid, out-roll-Net, roll-out-Kid, roll-out-Net, rolls-Leaf, rolls-Net}
use Rattle.dsde_sim_tree.specs.Move.{boss_moves, move_leaf_at}
use Rattle.dsde_sim_tree.specs.Opened.{as_leaf, as_net}
use Rattle.dsde_sim_tree.specs.Start.{kid_of, net_of}
use Rattle.dsde_sim_movers.specs.Deliveries.{Delivery}
use Rattle.dsde_sim_movers.specs.Parts.{kid_named, with_named, part_in, part_at, with_in, with_part}
use Rattle.dsde_sim_movers.specs.Movers.{Seat, seat_within, seat_of, leaf_in, leaf_at, Step, step_at, moves_in, moves, path_behind, move_at, seat_behind, move_one, is_called, is_mover}
use Rattle.dsde_sim_movers.specs.lemmas.Steps.{then-assoc, then-same}

pub out-Leaf : (leaf : Leaf) → out-Sim (sim.Leaf leaf) ≡ layer.Leaf leaf
out-Leaf leaf = ap out-Sim (sym (rolls-Leaf leaf)) ∙ out-roll-Sim (layer.Leaf leaf)

pub out-Net-of : (net : Net) → out-Sim (sim.Net net) ≡ layer.Net net
out-Net-of net = ap out-Sim (sym (rolls-Net net)) ∙ out-roll-Sim (layer.Net net)

-- a network of these parts, as a part
abbrev pub whole : ModelId → List Value → Leaf → List Kid → List Link → Sim
whole model args boss kids links = sim.Net (net_of model args boss kids links)

-- a network is that of its parts
pub whole-of : (net : Net) → sim.Net net ≡ whole (out-Net net).model (out-Net net).args (out-Net net).boss (out-Net net).kids (out-Net net).links
whole-of net = ap sim.Net (sym (roll-out-Net net))

pub same-kid : (kid : Kid) → kid_of (name_of kid) (out-Kid kid).sim ≡ kid
same-kid kid = roll-out-Kid kid

pub named : (name : Name) (own : Sim) → name_of (kid_of name own) ≡ name
named name own = ap (λ (kid : Kid-F Sim Kid Net). kid.name) (out-roll-Kid (record { name = name; sim = own }))

pub own-sim : (name : Name) (own : Sim) → (out-Kid (kid_of name own)).sim ≡ own
own-sim name own = ap (λ (kid : Kid-F Sim Kid Net). kid.sim) (out-roll-Kid (record { name = name; sim = own }))

-- none of these components has this name
abbrev pub NoneNamed : Name → List Kid → Type 0
NoneNamed name kids = AllByRecursion (λ kid. is_same_name (name_of kid) name ≡ false) kids

pub if-true : {A : Type 0} (test : Bool) (yes_case no_case : A) → test ≡ true → (if test then yes_case else no_case) ≡ yes_case
if-true test yes_case no_case is = ap (λ (t : Bool). if t then yes_case else no_case) is

pub if-false : {A : Type 0} (test : Bool) (yes_case no_case : A) → test ≡ false → (if test then yes_case else no_case) ≡ no_case
if-false test yes_case no_case is = ap (λ (t : Bool). if t then yes_case else no_case) is

module _ (same : (name : Name) → is_same_name name name ≡ true) where
  pub kid_named-at : (name : Name) (own : Sim) (done later : List Kid) → NoneNamed name done → kid_named name (done ++ kid_of name own ∷ later) ≡ Some own
  kid_named-at name own [] later none =
      if-true (is_same_name (name_of (kid_of name own)) name) (Some (out-Kid (kid_of name own)).sim) (kid_named name later) (ap (λ (n : Name). is_same_name n name) (named name own) ∙ same name)
      ∙ ap (λ (s : Sim). Some s) (own-sim name own)
  kid_named-at name own (kid ∷ done) later none =
      if-false (is_same_name (name_of kid) name) (Some (out-Kid kid).sim) (kid_named name (done ++ kid_of name own ∷ later)) none.0
      ∙ kid_named-at name own done later none.1

  pub with_named-at : (name : Name) (change : Sim → Sim) (own : Sim) (done later : List Kid) → NoneNamed name done →
      with_named name change (done ++ kid_of name own ∷ later) ≡ done ++ kid_of name (change own) ∷ later
  with_named-at name change own [] later none =
      if-true (is_same_name (name_of (kid_of name own)) name) (kid_of (name_of (kid_of name own)) (change (out-Kid (kid_of name own)).sim) ∷ later) (kid_of name own ∷ with_named name change later)
      (ap (λ (n : Name). is_same_name n name) (named name own) ∙ same name)
      ∙ (λ i. kid_of (named name own i) (change (own-sim name own i)) ∷ later)
  with_named-at name change own (kid ∷ done) later none =
      if-false (is_same_name (name_of kid) name) (kid_of (name_of kid) (change (out-Kid kid).sim) ∷ done ++ kid_of name own ∷ later) (kid ∷ with_named name change (done ++ kid_of name own ∷ later)) none.0
      ∙ ap (λ (kids : List Kid). kid ∷ kids) (with_named-at name change own done later none.1)

pub part_at-whole : (name : Name) (names : List Name) (model : ModelId) (args : List Value) (boss : Leaf) (kids : List Kid) (links : List Link) →
    part_at (name ∷ names) (whole model args boss kids links) ≡ option_and_then (part_at names) (kid_named name kids)
part_at-whole name names model args boss kids links =
    ap (part_in name (part_at names)) (out-Net-of (net_of model args boss kids links))
    ∙ ap (λ (net : Net-F Sim Kid Net). option_and_then (part_at names) (kid_named name net.kids)) (out-roll-Net (record { model = model; args = args; boss = boss; kids = kids; links = links }))

pub with_part-whole : (name : Name) (names : List Name) (own : Sim) (model : ModelId) (args : List Value) (boss : Leaf) (kids : List Kid) (links : List Link) →
    with_part (name ∷ names) own (whole model args boss kids links) ≡ whole model args boss (with_named name (with_part names own) kids) links
with_part-whole name names own model args boss kids links =
    ap (with_in name (with_part names own) (whole model args boss kids links)) (out-Net-of (net_of model args boss kids links))
    ∙ ap (λ (net : Net-F Sim Kid Net). whole net.model net.args net.boss (with_named name (with_part names own) net.kids) net.links) (out-roll-Net (record { model = model; args = args; boss = boss; kids = kids; links = links }))

pub boss-moves-whole : (system : System) (path : Path) (time : ℕ) (got : Ports) (model : ModelId) (args : List Value) (boss : Leaf) (kids : List Kid) (links : List Link) (room : ℕ) →
    moves system true path time got (whole model args boss kids links) room ≡ (boss_moves system model args boss links kids path time got room then as_net)
boss-moves-whole system path time got model args boss kids links room =
    ap (moves_in system true path time got (whole model args boss kids links) room) (out-Net-of (net_of model args boss kids links))
    ∙ ap (λ (net : Net-F Sim Kid Net). boss_moves system net.model net.args net.boss net.links net.kids path time got room then as_net) (out-roll-Net (record { model = model; args = args; boss = boss; kids = kids; links = links }))

pub leaf-moves-leaf : (system : System) (path : Path) (time : ℕ) (got : Ports) (leaf : Leaf) (room : ℕ) →
    moves system false path time got (sim.Leaf leaf) room ≡ (move_leaf_at system leaf path time got then as_leaf room)
leaf-moves-leaf system path time got leaf room = ap (moves_in system false path time got (sim.Leaf leaf) room) (out-Leaf leaf)

pub boss-at-whole : (model : ModelId) (args : List Value) (boss : Leaf) (kids : List Kid) (links : List Link) →
    leaf_in true (out-Sim (whole model args boss kids links)) ≡ Some boss
boss-at-whole model args boss kids links =
    ap (leaf_in true) (out-Net-of (net_of model args boss kids links))
    ∙ ap (λ (net : Net-F Sim Kid Net). Some net.boss) (out-roll-Net (record { model = model; args = args; boss = boss; kids = kids; links = links }))

-- the seat beneath a component that is named as none's executive
pub seat-within : (name : Name) (names : List Name) → is_same_name EXEC name ≡ false → seat_of (name ∷ names) ≡ seat_within name (seat_of names)
seat-within name [] other = if-false (is_same_name EXEC name) (record { names = []; is_boss = true }) (record { names = name ∷ []; is_boss = false }) other
seat-within name (later ∷ names) other = refl

pub drop-front : {A : Type 0} (xs ys : List A) → drop (length xs) (xs ++ ys) ≡ ys
drop-front [] ys = refl
drop-front (x ∷ xs) ys = drop-front xs ys

-- A path stands behind another, or is it.
abbrev pub IsBehind : Path → Path → Type 0
IsBehind path other = (names : List Name) × (other.names ≡ path.names ++ names)

-- the seat of a path beneath a component, in its network
pub seat-in-net : (name : Name) (path other : Path) → is_same_name EXEC name ≡ false → IsBehind (below path name) other → seat_behind path other ≡ seat_within name (seat_behind (below path name) other)
seat-in-net name path other not_exec behind =
    ap (λ (names : List Name). seat_of (drop (length path.names) names)) (behind.1 ∙ append_assoc path.names (name ∷ []) behind.0)
    ∙ ap seat_of (drop-front path.names (name ∷ behind.0))
    ∙ seat-within name behind.0 not_exec
    ∙ ap (λ (names : List Name). seat_within name (seat_of names)) (sym (drop-front (path.names ++ name ∷ []) behind.0) ∙ ap (drop (length (path.names ++ name ∷ []))) (sym behind.1))

-- a network with this part under the name, behind some components and before others
abbrev pub net_with : ModelId → List Value → Leaf → List Link → List Kid → List Kid → Name → Sim → Sim
net_with model args boss links done later name own = whole model args boss (done ++ kid_of name own ∷ later) links

abbrev pub with_room : (Sim → Sim) → Sim × ℕ → Told (Sim × ℕ)
with_room change after = told [] (change after.0, after.1)

module _ (same : (name : Name) → is_same_name name name ≡ true) (model : ModelId) (args : List Value) (boss : Leaf) (links : List Link) (done later : List Kid) (name : Name) (none : NoneNamed name done) where
  abbrev within : Sim → Sim
  within = net_with model args boss links done later name

  abbrev within_room : Sim × ℕ → Told (Sim × ℕ)
  within_room = with_room within

  pub part-within : (names : List Name) (own : Sim) → part_at (name ∷ names) (within own) ≡ part_at names own
  part-within names own =
      part_at-whole name names model args boss (done ++ kid_of name own ∷ later) links
      ∙ ap (option_and_then (part_at names)) (kid_named-at same name own done later none)

  pub with-within : (names : List Name) (part own : Sim) → with_part (name ∷ names) part (within own) ≡ within (with_part names part own)
  with-within names part own =
      with_part-whole name names part model args boss (done ++ kid_of name own ∷ later) links
      ∙ ap (λ (kids : List Kid). whole model args boss kids links) (with_named-at same name (with_part names part) own done later none)

  step-by : (names : List Name) (step : Step) (own : Sim) (room : ℕ) (found : Option Sim) →
      (let inner : Told (Sim × ℕ) = elim found [
        | Some part ↦ step part room then (λ after. told [] (with_part names after.0 own, after.1))
        | None ↦ told [] (own, room)
      ] in
      let outer : Told (Sim × ℕ) = elim found [
        | Some part ↦ step part room then (λ after. told [] (with_part (name ∷ names) after.0 (within own), after.1))
        | None ↦ told [] (within own, room)
      ] in outer ≡ (inner then within_room))
  step-by names step own room (Some part) =
      then-same (step part room) _ _ (λ after. λ i. told [] (with-within names after.0 own i, after.1))
      ∙ sym (then-assoc (step part room) (λ after. told [] (with_part names after.0 own, after.1)) within_room)
  step-by names step own room None = refl

  -- a step beneath the component is a step of the network
  pub step-within : (names : List Name) (step : Step) (own : Sim) (room : ℕ) → step_at (name ∷ names) step (within own) room ≡ (step_at names step own room then within_room)
  step-within names step own room =
      ap (λ (found : Option Sim). let outer : Told (Sim × ℕ) = elim found [
        | Some part ↦ step part room then (λ after. told [] (with_part (name ∷ names) after.0 (within own), after.1))
        | None ↦ told [] (within own, room)
      ] in outer) (part-within names own)
      ∙ step-by names step own room (part_at names own)

  pub leaf-within : (seat : Seat) (own : Sim) → leaf_at (seat_within name seat) (within own) ≡ leaf_at seat own
  leaf-within seat own = ap (option_and_then (λ part. leaf_in seat.is_boss (out-Sim part))) (part-within seat.names own)

  module _ (system : System) (path : Path) (time : ℕ) (not_exec : is_same_name EXEC name ≡ false) where
    pub move_at-within : (seat : Seat) (got : Ports) (own : Sim) (room : ℕ) →
        move_at system path time (seat_within name seat) got (within own) room ≡ (move_at system (below path name) time seat got own room then within_room)
    move_at-within seat got own room =
        step-within seat.names (moves system seat.is_boss (path_behind path (name ∷ seat.names)) time got) own room
        ∙ ap (λ (names : List Name). step_at seat.names (moves system seat.is_boss (record { names = names }) time got) own room then within_room) (sym (append_assoc path.names (name ∷ []) seat.names))

    pub move_one-within : (delivery : Delivery) → IsBehind (below path name) delivery.path → (own : Sim) (room : ℕ) →
        move_one system path time delivery (within own) room ≡ (move_one system (below path name) time delivery own room then within_room)
    move_one-within delivery behind own room =
        ap (λ (seat : Seat). move_at system path time seat delivery.ports (within own) room) (seat-in-net name path delivery.path not_exec behind)
        ∙ move_at-within (seat_behind (below path name) delivery.path) delivery.ports own room

    pub is_mover-within : (delivery : Delivery) → IsBehind (below path name) delivery.path → (own : Sim) →
        is_mover (within own) path time delivery ≡ is_mover own (below path name) time delivery
    is_mover-within delivery behind own =
        ap (λ (seat : Seat). is_called time delivery.ports (leaf_at seat (within own))) (seat-in-net name path delivery.path not_exec behind)
        ∙ ap (is_called time delivery.ports) (leaf-within (seat_behind (below path name) delivery.path) own)
