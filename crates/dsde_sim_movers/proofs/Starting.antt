-- What has started stands.
use Rattle.std.proofs.Common.{◌≡◌, ℕ, zero, suc, ◌≤◌, Bool, true, false, List, [], ◌∷◌, ◌++◌, refl, sym, subst, inr, append-nil, append_assoc, arith}
use Rattle.std.specs.Prelude.{Ok, if◌then◌else◌}
use Rattle.dsde_values.specs.declared.path.Path.{Path}
use Rattle.dsde_values.specs.declared.value.Value.{Value}
use Rattle.dsde_sim_tree.specs.given.language.ids_ModelId.{ModelId}
use Rattle.dsde_sim_tree.specs.given.formalism.leaf_Leaf.{Leaf}
use Rattle.dsde_sim_tree.specs.given.formalism.System.{System, State}
use Rattle.dsde_sim_tree.specs.given.formalism.Leaf.{settled, start_leaf}
use Rattle.dsde_sim_tree.specs.given.structure.plan_Entry.{Entry}
use Rattle.dsde_sim_tree.specs.declared.event.Event.TheVariants.{AddLeaf}
use Rattle.dsde_sim_tree.specs.Told.{◌then◌, at, below, to_boss}
use Rattle.dsde_sim_tree.specs.declared.sim.Kid.{Kid}
use Rattle.dsde_sim_tree.specs.declared.sim.Net.{Net}
use Rattle.dsde_sim_tree.specs.declared.sim.Sim.TheVariants as sim
use Rattle.dsde_sim_tree.specs.Start.{Starter, entered, start_leaf_at, started_kid, starts, structure_of, with_boss, start_net, start_net_at, start_atomic, start, kid_of, net_of}
use Rattle.dsde_sim_movers.specs.Stands.{IsForward}
use Rattle.dsde_sim_movers.specs.lemmas.Standing.{IsLeaf, IsPart, leaf-part, net-part, IsKid, kid-is, AreKids, kids-behind}
use Rattle.dsde_sim_movers.proofs.Brings.{Brings, ok-is, brings-then, brings-told, at-ok, bind-ok}

module _ (system : System) (forward : IsForward system) (time : ℕ) where
  pub settled-stands : (model : ModelId) (boss : Bool) (args : List Value) (state : State) (leaf : Leaf) → settled system model boss args state time ≡ Ok leaf → IsLeaf system time model boss args leaf
  settled-stands model boss args state leaf is =
      let found = bind-ok ((system.component model args).advance state time) _ leaf is in
      let same = ok-is (let own : Leaf = record { model = model; boss = boss; args = args; state = state; last = time; next = found.0 } in own) leaf found.2 in
      subst (IsLeaf system time model boss args) same (record {
        stands = record { last = omega arith; advance = found.1; later = forward.later model args state time found.0 found.1 };
        model_is = refl;
        boss_is = refl;
        args_is = refl;
      })

  start-leaf-stands : (model : ModelId) (boss : Bool) (args : List Value) (leaf : Leaf) → start_leaf system model boss args time ≡ Ok leaf → IsLeaf system time model boss args leaf
  start-leaf-stands model boss args leaf is =
      let found = bind-ok (system.component model args).init _ leaf is in
      settled-stands model boss args found.0 leaf found.2

  leaf-starts : (left : ℕ) (model : ModelId) (boss : Bool) (args : List Value) (path : Path) (room : ℕ) → Brings (λ one. IsLeaf system time model boss args one.0) (start_leaf_at system left model boss args path time room)
  leaf-starts left model boss args path room =
      brings-then (λ (rest : ℕ). Unit {0}) (λ one. IsLeaf system time model boss args one.0) [] (entered left path (system.component model args).at room) _ (λ rest is. tt)
      (λ rest none. brings-then (IsLeaf system time model boss args) (λ one. IsLeaf system time model boss args one.0) [] (at path (start_leaf system model boss args time)) _
      (λ leaf is. start-leaf-stands model boss args leaf (at-ok path (start_leaf system model boss args time) leaf is))
      (λ leaf own. brings-told (λ one. IsLeaf system time model boss args one.0) (AddLeaf path model leaf.state leaf.next ∷ []) (leaf, rest) own))

  abbrev pub Starts : ℕ → Starter → Type 0
  Starts left starter = (model : ModelId) (args : List Value) (path : Path) (room : ℕ) → Brings (λ one. IsPart system time left model args one.0) (starter model args path time room)

  pub kid-starts : (left : ℕ) (starter : Starter) → Starts left starter → (entry : Entry) (path : Path) (room : ℕ) → Brings (λ one. IsKid system time left entry one.0) (started_kid starter entry path time room)
  kid-starts left starter each entry path room =
      let step = starter entry.model entry.args (below path entry.name) time room in
      brings-then (λ one. IsPart system time left entry.model entry.args one.0) (λ one. IsKid system time left entry one.0) step.events step.end _
      (each entry.model entry.args (below path entry.name) room)
      (λ one part. brings-told (λ own. IsKid system time left entry own.0) [] (kid_of entry.name one.0, one.1) (kid-is system time left entry entry.args one.0 (inr refl) part))

  kids-start : (left : ℕ) (starter : Starter) → Starts left starter → (done entries : List Entry) (path : Path) (room : ℕ) (kids : List Kid) → AreKids system time left done kids →
      Brings (λ one. AreKids system time left (done ++ entries) one.0) (starts starter entries path time room kids)
  kids-start left starter each done [] path room kids so_far = brings-told (λ one. AreKids system time left (done ++ []) one.0) [] (kids, room) (subst (λ (own : List Entry). AreKids system time left own kids) (sym (append-nil done)) so_far)
  kids-start left starter each done (entry ∷ entries) path room kids so_far =
      let step = started_kid starter entry path time room in
      brings-then (λ one. IsKid system time left entry one.0) (λ one. AreKids system time left (done ++ entry ∷ entries) one.0) step.events step.end _
      (kid-starts left starter each entry path room)
      (λ one own. subst (λ (all : List Entry). Brings (λ (own : List Kid × ℕ). AreKids system time left all own.0) (starts starter entries path time one.1 (kids ++ one.0 ∷ []))) (append_assoc done (entry ∷ []) entries)
      (kids-start left starter each (done ++ entry ∷ []) entries path one.1 (kids ++ one.0 ∷ []) (kids-behind system time left done entry kids one.0 so_far own)))

  abbrev NetStands : ℕ → ModelId → List Value → Net × ℕ → Type 0
  NetStands left model args one = IsPart system time left model args (sim.Net one.0)

  net-starts : (left : ℕ) (starter : Starter) → Starts left starter → 1 ≤ left → (model : ModelId) (args : List Value) (path : Path) (room : ℕ) → system.is_network model ≡ true →
      Brings (NetStands (suc left) model args) (start_net system left starter model args path time room)
  net-starts left starter each some model args path room network =
      let first = start_leaf_at system left model true args (to_boss path) time room in
      brings-then (λ one. IsLeaf system time model true args one.0) (NetStands (suc left) model args) first.events first.end _
      (leaf-starts left model true args (to_boss path) room)
      (λ boss own. brings-then (λ plan. (system.network model args).structure boss.0.state ≡ Ok plan) (NetStands (suc left) model args) [] (structure_of system model args boss.0 path) _
      (λ plan is. at-ok (to_boss path) ((system.network model args).structure boss.0.state) plan is)
      (λ plan structure. let step = starts starter plan.entries path time boss.1 [] in
      brings-then (λ one. AreKids system time left plan.entries one.0) (NetStands (suc left) model args) step.events step.end _
      (kids-start left starter each [] plan.entries path boss.1 [] (record { stand = tt; stay = tt }))
      (λ kids all. brings-told (NetStands (suc left) model args) [] (net_of model args boss.0 kids.0 plan.links, kids.1)
      (net-part system time left model args boss.0 kids.0 plan.links plan some network own all.stand structure (record { stay = all.stay; links_are = refl })))))

  -- no part is started where no name may stand
  no-leaf : (model : ModelId) (boss : Bool) (args : List Value) (path : Path) (room : ℕ) (P : Leaf × ℕ → Type 0) → Brings P (start_leaf_at system zero model boss args path time room)
  no-leaf model boss args path room P = λ one is. absurd (cc is)

  by-left : (left : ℕ) → Starts left (start system left) → (model : ModelId) (args : List Value) (path : Path) (room : ℕ) → system.is_network model ≡ true →
      Brings (NetStands (suc left) model args) (start_net system left (start system left) model args path time room)
  by-left zero each model args path room network =
      let first = start_leaf_at system zero model true args (to_boss path) time room in
      brings-then (λ one. ⊥) (NetStands 1 model args) first.events first.end (with_boss system (start system zero) model args path time) (no-leaf model true args (to_boss path) room (λ one. ⊥)) (λ one (none : ⊥) value is. absurd none)
  by-left (suc left) each model args path room network = net-starts (suc left) (start system (suc left)) each (omega arith) model args path room network

  by-kind : (left : ℕ) → Starts left (start system left) → (network : Bool) (model : ModelId) (args : List Value) (path : Path) (room : ℕ) → system.is_network model ≡ network →
      Brings (λ one. IsPart system time (suc left) model args one.0) (if network then start_net_at system left (start system left) model args path time room else start_atomic system (suc left) model args path time room)
  by-kind left each true model args path room network =
      brings-then (λ (rest : ℕ). Unit {0}) (λ one. IsPart system time (suc left) model args one.0) [] (entered (suc left) path (system.network model args).at room) _ (λ rest is. tt)
      (λ rest none. let step = start_net system left (start system left) model args path time rest in
      brings-then (NetStands (suc left) model args) (λ one. IsPart system time (suc left) model args one.0) step.events step.end _ (by-left left each model args path rest network)
      (λ net own. brings-told (λ one. IsPart system time (suc left) model args one.0) [] (sim.Net net.0, net.1) own))
  by-kind left each false model args path room atomic =
      let step = start_leaf_at system (suc left) model false args path time room in
      brings-then (λ one. IsLeaf system time model false args one.0) (λ one. IsPart system time (suc left) model args one.0) step.events step.end _ (leaf-starts (suc left) model false args path room)
      (λ leaf own. brings-told (λ one. IsPart system time (suc left) model args one.0) [] (sim.Leaf leaf.0, leaf.1) (leaf-part system time (suc left) model args leaf.0 (omega arith) atomic own))

  pub start-stands : (left : ℕ) → Starts left (start system left)
  start-stands zero model args path room = λ one is. absurd (cc is)
  start-stands (suc left) model args path room = by-kind left (start-stands left) (system.is_network model) model args path room refl
