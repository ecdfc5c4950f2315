-- What is left behind a part that is restored are the last of the rows.
use Rattle.std.proofs.Common.{◌≡◌, ℕ, zero, suc, Bool, true, false, List, [], ◌∷◌, ◌++◌, refl, sym, ap, subst, ◌∙◌, append_assoc}
use Rattle.std.specs.Prelude.{if◌then◌else◌, Ok}
use Rattle.dsde_values.specs.declared.path.Path.{Path}
use Rattle.dsde_values.specs.declared.value.Value.{Value}
use Rattle.dsde_sim_movers.specs.given.language.ids_ModelId.{ModelId}
use Rattle.dsde_sim_movers.specs.given.formalism.leaf_Leaf.{Leaf}
use Rattle.dsde_sim_movers.specs.given.formalism.System.{System}
use Rattle.dsde_sim_movers.specs.given.structure.plan_Entry.{Entry}
use Rattle.dsde_sim_movers.specs.given.sim_tree.Told.{below, to_boss}
use Rattle.dsde_sim_movers.specs.given.sim_tree.sim_Kid.{Kid}
use Rattle.dsde_sim_movers.specs.given.sim_tree.sim_Sim.{Sim}
use Rattle.dsde_sim_movers.specs.given.sim_tree.Start.{kid_of}
use Rattle.dsde_image.specs.declared.image.Row.{Row}
use Rattle.dsde_image.specs.declared.image.Version.{Version}
use Rattle.dsde_image_rows.specs.Rows.{Script}
use Rattle.dsde_image_rows.specs.Walk.{Left, at, took, said_by, atomic_in, boss_in, net_in, took_net, with_args, restored_atomic, restored_boss, planned, restored_kids, with_plan, with_boss, restored_net, restored}
use Rattle.dsde_image_rows.proofs.Found.{ok-is, bind-ok, took-row}

abbrev Leaves : Left → Left → Type 0
Leaves here after = (taken : List Row) × (here.0 ≡ taken ++ after.0)

leaves-then : (first second third : Left) → Leaves first second → Leaves second third → Leaves first third
leaves-then first second third one two = (one.0 ++ two.0, one.1 ∙ ap (λ (rest : List Row). one.0 ++ rest) two.1 ∙ sym (append_assoc one.0 two.0 third.0))

module _ (system : System) (script : Script) (version : Version) (time : ℕ) where
  took-leaves : (left : ℕ) (path : Path) (here : Left) (one : Row × Left) → took version left path here ≡ Ok one → Leaves here one.1
  took-leaves left path here one is = (one.0 ∷ [], (took-row system script version time left path here one is).rows)

  atomic-leaves : (left : ℕ) (soft : Bool) (model : ModelId) (args : List Value) (path : Path) (here : Left) (one : Sim × Left) → restored_atomic system script version time left soft model args path here ≡ Ok one → Leaves here one.1
  atomic-leaves left soft model args path here one is =
      let first = bind-ok (took version left path here) _ one is in
      let second = bind-ok (at path (said_by script first.0.0 model (atomic_in system script time soft model args first.0.0.body))) _ one first.2 in
      subst (λ (own : Sim × Left). Leaves here own.1) (ok-is second.2) (took-leaves left path here first.0 first.1)

  boss-leaves : (left : ℕ) (model : ModelId) (args : List Value) (path : Path) (here : Left) (one : Leaf × Left) → restored_boss system script version time left model args path here ≡ Ok one → Leaves here one.1
  boss-leaves left model args path here one is =
      let first = bind-ok (took version left (to_boss path) here) _ one is in
      let second = bind-ok (at (to_boss path) (said_by script first.0.0 model (boss_in system script time model args first.0.0.body))) _ one first.2 in
      subst (λ (own : Leaf × Left). Leaves here own.1) (ok-is second.2) (took-leaves left (to_boss path) here first.0 first.1)

  net-row-leaves : (left : ℕ) (soft : Bool) (model : ModelId) (args : List Value) (path : Path) (here : Left) (own : List Value × Left) → took_net script version left soft model args path here ≡ Ok own → Leaves here own.1
  net-row-leaves left soft model args path here own is =
      let first = bind-ok (took version left path here) _ own is in
      let second = bind-ok (at path (said_by script first.0.0 model (net_in script soft model args first.0.0.body))) _ own first.2 in
      subst (λ (found : List Value × Left). Leaves here found.1) (ok-is second.2) (took-leaves left path here first.0 first.1)

  abbrev PartLeaves : ℕ → Type 0
  PartLeaves left = (soft : Bool) (model : ModelId) (args : List Value) (path : Path) (here : Left) (one : Sim × Left) → restored system script version time left soft model args path here ≡ Ok one → Leaves here one.1

  kids-leave : (left : ℕ) → PartLeaves left → (entries : List Entry) (path : Path) (here : Left) (done : List Kid) (all : List Kid × Left) →
      restored_kids system script version time (restored system script version time left) entries path here done ≡ Ok all → Leaves here all.1
  kids-leave left each [] path here done all is = subst (λ (own : List Kid × Left). Leaves here own.1) (ok-is is) ([], refl)
  kids-leave left each (entry ∷ entries) path here done all is =
      let first = bind-ok (restored system script version time left entry.soft entry.model entry.args (below path entry.name) here) _ all is in
      leaves-then here first.0.1 all.1 (each entry.soft entry.model entry.args (below path entry.name) here first.0 first.1)
      (kids-leave left each entries path first.0.1 (done ++ kid_of entry.name first.0.0 ∷ []) all first.2)

  net-leaves : (left : ℕ) → PartLeaves left → (soft : Bool) (model : ModelId) (args : List Value) (path : Path) (here : Left) (one : Sim × Left) →
      restored_net system script version time left (restored system script version time left) soft model args path here ≡ Ok one → Leaves here one.1
  net-leaves left each soft model args path here one is =
      let walker = restored system script version time left in
      let taken = bind-ok (took_net script version (suc left) soft model args path here) (with_args system script version time left walker model path) one is in
      let own = taken.0.0 in
      let third = bind-ok (restored_boss system script version time left model own path taken.0.1) (with_boss system script version time walker model own path) one taken.2 in
      let fourth = bind-ok (planned system model own third.0.0 path) (with_plan system script version time walker model own path third.0.0 third.0.1) one third.2 in
      let fifth = bind-ok (restored_kids system script version time walker fourth.0.entries path third.0.1 []) _ one fourth.2 in
      subst (λ (found : Sim × Left). Leaves here found.1) (ok-is fifth.2)
      (leaves-then here taken.0.1 fifth.0.1 (net-row-leaves (suc left) soft model args path here taken.0 taken.1)
      (leaves-then taken.0.1 third.0.1 fifth.0.1 (boss-leaves left model own path taken.0.1 third.0 third.1)
      (kids-leave left each fourth.0.entries path third.0.1 [] fifth.0 fifth.1)))

  by-kind : (left : ℕ) → PartLeaves left → (network soft : Bool) (model : ModelId) (args : List Value) (path : Path) (here : Left) (one : Sim × Left) →
      (if network then restored_net system script version time left (restored system script version time left) soft model args path here else restored_atomic system script version time (suc left) soft model args path here) ≡ Ok one → Leaves here one.1
  by-kind left each true soft model args path here one is = net-leaves left each soft model args path here one is
  by-kind left each false soft model args path here one is = atomic-leaves (suc left) soft model args path here one is

  pub part-leaves : (left : ℕ) → PartLeaves left
  part-leaves zero soft model args path here one is = absurd (cc is)
  part-leaves (suc left) soft model args path here one is = by-kind left (part-leaves left) (system.is_network model) soft model args path here one is
