-- What starts tells only that it was added.
use Rattle.std.proofs.Common.{◌≡◌, ℕ, zero, suc, Bool, true, false, List, [], ◌∷◌, ◌++◌, sym, ◌∙◌, append_assoc, append-nil}
use Rattle.std.specs.List.{AllByRecursion}
use Rattle.std.specs.Prelude.{if◌then◌else◌}
use Rattle.dsde_values.specs.Path.{EXEC}
use Rattle.dsde_values.specs.declared.name.Name.{Name}
use Rattle.dsde_values.specs.declared.path.Path.{Path}
use Rattle.dsde_values.specs.declared.value.Value.{Value}
use Rattle.dsde_sim_tree.specs.given.language.ids_ModelId.{ModelId}
use Rattle.dsde_sim_tree.specs.given.formalism.Leaf.{start_leaf}
use Rattle.dsde_sim_tree.specs.given.formalism.System.{System}
use Rattle.dsde_sim_tree.specs.given.structure.plan_Entry.{Entry}
use Rattle.dsde_sim_tree.specs.declared.event.Event.{Event}
use Rattle.dsde_sim_tree.specs.declared.event.Event.TheVariants.{AddNet, AddLeaf}
use Rattle.dsde_sim_tree.specs.Told.{below, Told, ◌then◌, at, to_boss}
use Rattle.dsde_sim_tree.specs.declared.sim.Kid.{Kid}
use Rattle.dsde_sim_tree.specs.Start.{Starter, entered, start_leaf_at, started_kid, starts, structure_of, with_plan, with_boss, start_net, start_net_at, start_atomic, start}
use Rattle.dsde_sim_movers.specs.lemmas.Events.{each-weaker, each-then}

-- an event that adds what stands at a path or below
abbrev pub IsStart : Path → Event → Type 0
IsStart path (AddNet at model) = (beneath : List Name) × (at.names ≡ path.names ++ beneath)
IsStart path (AddLeaf at model state next) = (beneath : List Name) × (at.names ≡ path.names ++ beneath)
IsStart path _ = ⊥

abbrev pub AreStarts : Path → List Event → Type 0
AreStarts path events = AllByRecursion (IsStart path) events

pub deeper : (path : Path) (name : Name) (event : Event) → IsStart (below path name) event → IsStart path event
deeper path name (AddNet at model) start = (name ∷ start.0, start.1 ∙ append_assoc path.names (name ∷ []) start.0)
deeper path name (AddLeaf at model state next) start = (name ∷ start.0, start.1 ∙ append_assoc path.names (name ∷ []) start.0)
deeper path name event start = absurd start

all_deeper : (path : Path) (name : Name) (events : List Event) → AreStarts (below path name) events → AreStarts path events
all_deeper path name events starts = each-weaker (IsStart (below path name)) (IsStart path) (deeper path name) events starts

module _ (system : System) where
  leaf-starts : (left : ℕ) (model : ModelId) (boss : Bool) (args : List Value) (path : Path) (time room : ℕ) →
      AreStarts path (start_leaf_at system left model boss args path time room).events
  leaf-starts left model boss args path time room =
      each-then (IsStart path) [] (entered left path (system.component model args).at room) _ tt (λ room.
      each-then (IsStart path) [] (at path (start_leaf system model boss args time)) _ tt (λ leaf.
      (([], sym (append-nil path.names)), tt)))

  module _ (starter : Starter) (starter_starts : (model : ModelId) (args : List Value) (path : Path) (time room : ℕ) → AreStarts path (starter model args path time room).events) where
    pub kid-starts : (entry : Entry) (path : Path) (time room : ℕ) → AreStarts (below path entry.name) (started_kid starter entry path time room).events
    kid-starts entry path time room =
        let step = starter entry.model entry.args (below path entry.name) time room in
        each-then (IsStart (below path entry.name)) step.events step.end _
        (starter_starts entry.model entry.args (below path entry.name) time room) (λ started. tt)

    kids-start : (entries : List Entry) (path : Path) (time room : ℕ) (done : List Kid) → AreStarts path (starts starter entries path time room done).events
    kids-start [] path time room done = tt
    kids-start (entry ∷ entries) path time room done =
        let step = started_kid starter entry path time room in
        each-then (IsStart path) step.events step.end _
        (all_deeper path entry.name step.events (kid-starts entry path time room))
        (λ one. kids-start entries path time one.1 (done ++ one.0 ∷ []))

    net-starts : (left : ℕ) (model : ModelId) (args : List Value) (path : Path) (time room : ℕ) → AreStarts path (start_net system left starter model args path time room).events
    net-starts left model args path time room =
        let step = start_leaf_at system left model true args (to_boss path) time room in (
          ([], sym (append-nil path.names)),
          each-then (IsStart path) step.events step.end (with_boss system starter model args path time)
              (all_deeper path EXEC step.events (leaf-starts left model true args (to_boss path) time room))
              (λ boss.
              each-then (IsStart path) [] (structure_of system model args boss.0 path) (with_plan starter model args boss.0 path time boss.1) tt
              (λ plan.
              let kids = starts starter plan.entries path time boss.1 [] in
              each-then (IsStart path) kids.events kids.end _ (kids-start plan.entries path time boss.1 []) (λ kids. tt))),
        )

  net_at-starts : (left : ℕ) (starter : Starter) → ((model : ModelId) (args : List Value) (path : Path) (time room : ℕ) → AreStarts path (starter model args path time room).events) →
      (model : ModelId) (args : List Value) (path : Path) (time room : ℕ) → AreStarts path (start_net_at system left starter model args path time room).events
  net_at-starts left starter starter_starts model args path time room =
      each-then (IsStart path) [] (entered (suc left) path (system.network model args).at room) _ tt (λ rest.
      let net = start_net system left starter model args path time rest in
      each-then (IsStart path) net.events net.end _ (net-starts starter starter_starts left model args path time rest) (λ net. tt))

  atomic-starts : (left : ℕ) (model : ModelId) (args : List Value) (path : Path) (time room : ℕ) → AreStarts path (start_atomic system left model args path time room).events
  atomic-starts left model args path time room =
      let leaf = start_leaf_at system left model false args path time room in
      each-then (IsStart path) leaf.events leaf.end _ (leaf-starts left model false args path time room) (λ leaf. tt)

  chosen : {A : Type 0} (path : Path) (b : Bool) (one other : Told A) → AreStarts path one.events → AreStarts path other.events → AreStarts path (if b then one else other).events
  chosen path true one other first second = first
  chosen path false one other first second = second

  pub start-starts : (left : ℕ) (model : ModelId) (args : List Value) (path : Path) (time room : ℕ) → AreStarts path (start system left model args path time room).events
  start-starts zero model args path time room = tt
  start-starts (suc left) model args path time room =
      chosen path (system.is_network model) _ _
      (net_at-starts left (start system left) (start-starts left) model args path time room)
      (atomic-starts (suc left) model args path time room)
