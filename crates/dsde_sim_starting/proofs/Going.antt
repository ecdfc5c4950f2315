-- How far the start of a part has come.
use Rattle.std.proofs.Common.{◌≡◌, ℕ, zero, suc, ◌+◌, ◌-◌, List, [], ◌∷◌, ◌++◌, map, true, false, refl, sym, ap, subst, ◌∙◌, arith, append_assoc, Ok}
use Rattle.std.specs.List.{AllByRecursion}
use Rattle.std.proofs.lemmas.List.{map-append}
use Rattle.std.proofs.lemmas.List.Sums.{sum_by-cons}
use Rattle.dsde_language.specs.given.syntax.decl_Model.{Model}
use Rattle.dsde_values.specs.declared.path.Path.{Path}
use Rattle.dsde_values.specs.declared.value.Value.{Value}
use Rattle.dsde_language.specs.declared.ids.ModelId.{ModelId}
use Rattle.dsde_sim_tree.specs.given.formalism.leaf_Leaf.{Leaf}
use Rattle.dsde_sim_tree.specs.given.formalism.System.{System}
use Rattle.dsde_sim_tree.specs.given.structure.plan_Entry.{Entry}
use Rattle.dsde_sim_tree.specs.declared.event.Event.{Event}
use Rattle.dsde_sim_tree.specs.declared.event.Event.TheVariants.{AddNet}
use Rattle.dsde_sim_tree.specs.Told.{Told, told, quietly, ◌then◌, to_boss, Comes}
use Rattle.dsde_executive.specs.given.system.Plans.{FitsEntry}
use Rattle.dsde_sim_telling.specs.lemmas.GoingOn.{GoesOn, goes-begin, goes-ok, goes-told, goes-step}
use Rattle.dsde_sim_tree.specs.declared.sim.Kid.{Kid}
use Rattle.dsde_sim_tree.specs.declared.sim.Net.{Net}
use Rattle.dsde_sim_tree.specs.declared.sim.Sim.{Sim}
use Rattle.dsde_sim_tree.specs.declared.sim.Sim.TheVariants as sim
use Rattle.dsde_sim_tree.specs.Tree.{entry_of, started_as, parts_of_kid, parts_of_kids}
use Rattle.dsde_sim_tree.specs.Start.{Starter, started_kid, entered, start, start_atomic, start_net, starts, start_leaf_at, with_boss}
use Rattle.dsde_sim_starting.specs.Fitting.{FitsKid}

-- a network's start, and then the network as a part
abbrev pub as_part : Net × ℕ → Told (Sim × ℕ)
as_part net = told [] (sim.Net net.0, net.1)

abbrev pub start_inner : System → ℕ → ModelId → List Value → Path → ℕ → ℕ → Told (Net × ℕ)
start_inner system left model args path time room = start_net system (left - 1) (start system (left - 1)) model args path time room

abbrev pub start_within : System → ℕ → ModelId → List Value → Path → ℕ → ℕ → Told (Sim × ℕ)
start_within system left model args path time room = start_inner system left model args path time room then as_part

pub start-network : (system : System) (left : ℕ) (model : ModelId) (args : List Value) (path : Path) (time room : ℕ) →
    system.is_network model ≡ true →
    start system left model args path time room ≡ (quietly (entered left path (system.network model args).at room) then start_within system left model args path time)
start-network system zero model args path time room network = rw network refl
start-network system (suc left) model args path time room network =
    let one_less : suc left - 1 ≡ left = omega arith in
    rw network (ap (λ (n : ℕ). quietly (entered (suc left) path (system.network model args).at room) then (λ room. start_net system n (start system n) model args path time room then as_part)) (sym one_less))

pub start-component : (system : System) (left : ℕ) (model : ModelId) (args : List Value) (path : Path) (time room : ℕ) →
    system.is_network model ≡ false → start system left model args path time room ≡ start_atomic system left model args path time room
start-component system zero model args path time room atomic = rw atomic refl
start-component system (suc left) model args path time room atomic = rw atomic refl

-- a network's start, where there is room
pub start-goes : (system : System) (left : ℕ) (model : ModelId) (args : List Value) (path : Path) (time room : ℕ) (old : List Event) (at rest : ℕ) →
    system.is_network model ≡ true → (system.network model args).at ≡ at → Comes (entered left path at room) (Ok rest) →
    GoesOn (start system left model args path time room) (start_within system left model args path time rest) old old
start-goes system left model args path time room old at rest network place comes =
    let whole = start system left model args path time room in
    let begun = subst (λ (all : Told (Sim × ℕ)). GoesOn whole all old old)
    (start-network system left model args path time room network
    ∙ ap (λ (n : ℕ). quietly (entered left path n room) then start_within system left model args path time) place) (goes-begin whole old) in
    goes-ok whole (entered left path at room) (start_within system left model args path time) old old rest begun comes

module _ (system : System) (left : ℕ) (starter : Starter) (model : ModelId) (args : List Value) (path : Path) (time room : ℕ) (old : List Event) where
  abbrev pub net_whole : Told (Net × ℕ)
  net_whole = start_net system left starter model args path time room

  pub net-told : (mid : List Event) → mid ≡ old ++ AddNet path model ∷ [] →
      GoesOn net_whole (start_leaf_at system left model true args (to_boss path) time room then with_boss system starter model args path time) old mid
  net-told mid is_new =
      goes-told net_whole (start_leaf_at system left model true args (to_boss path) time room then with_boss system starter model args path time)
      (AddNet path model ∷ []) old old mid (goes-begin net_whole old) is_new

  pub net-boss : (mid new : List Event) (boss : Leaf × ℕ) → mid ≡ old ++ AddNet path model ∷ [] →
      (new ≡ mid ++ (start_leaf_at system left model true args (to_boss path) time room).events) × ((start_leaf_at system left model true args (to_boss path) time room).end ≡ Ok boss) →
      GoesOn net_whole (with_boss system starter model args path time boss) old new
  net-boss mid new boss is_new tells =
      goes-step net_whole (start_leaf_at system left model true args (to_boss path) time room) (with_boss system starter model args path time)
      old mid new boss (net-told mid is_new) tells.0 tells.1

-- the other entries start behind this component, with the room left
abbrev pub starts_behind : Starter → List Entry → Path → ℕ → List Kid → Kid × ℕ → Told (List Kid × ℕ)
starts_behind starter entries path time done one = starts starter entries path time one.1 (done ++ one.0 ∷ [])

each-append : {A : Type 0} (P : A → Type 0) (xs : List A) (x : A) → AllByRecursion P xs → P x → AllByRecursion P (xs ++ x ∷ [])
each-append P [] x each here = (here, tt)
each-append P (y ∷ xs) x each here = (each.0, each-append P xs x each.1 here)

parts-cons : (kid : Kid) (kids : List Kid) → parts_of_kids (kid ∷ kids) ≡ parts_of_kid kid + parts_of_kids kids
parts-cons kid kids = sum_by-cons (λ x. x) (parts_of_kid kid) (map parts_of_kid kids)

parts-append : (kids later : List Kid) → parts_of_kids (kids ++ later) ≡ parts_of_kids kids + parts_of_kids later
parts-append [] later = omega arith
parts-append (kid ∷ kids) later =
    parts-cons kid (kids ++ later)
    ∙ omega (arith, parts-append kids later, parts-cons kid kids)

-- How far the entries of a structure have started: what is left of them.
pub record HaveStarted (model : Model) (starter : Starter) (entries : List Entry) (path : Path) (time first : ℕ) (old : List Event) (done : List Kid) (room : ℕ) (events : List Event) (rest : List Entry) : Type 0 where
  pub goes : GoesOn (starts starter entries path time first []) (starts starter rest path time room done) old events
  pub parts : parts_of_kids done + room ≡ first
  pub fit : AllByRecursion (FitsKid model) done
  pub are : map entry_of done ++ map started_as rest ≡ map started_as entries
  pub entries_fit : AllByRecursion (FitsEntry model) rest

module _ (model : Model) (starter : Starter) (entries : List Entry) (path : Path) (time first : ℕ) (old : List Event) (done : List Kid) (room : ℕ) (events : List Event) (rest : List Entry)
    (so_far : HaveStarted model starter entries path time first old done room events rest)
    (own : Entry) (later : List Entry) (is_rest : rest ≡ own ∷ later) where
  here : HaveStarted model starter entries path time first old done room events (own ∷ later)
  here = subst (HaveStarted model starter entries path time first old done room events) is_rest so_far

  pub entry-fits : FitsEntry model own
  entry-fits = here.entries_fit.0

  pub goes-here : GoesOn (starts starter entries path time first []) (started_kid starter own path time room then starts_behind starter later path time done) old events
  goes-here = here.goes

  module _ (new : List Event) (kid : Kid) (room_left : ℕ) (told : new ≡ events ++ (started_kid starter own path time room).events) (came : (started_kid starter own path time room).end ≡ Ok (kid, room_left)) where
    pub goes-on : GoesOn (starts starter entries path time first []) (starts_behind starter later path time done (kid, room_left)) old new
    goes-on = goes-step (starts starter entries path time first []) (started_kid starter own path time room) (starts_behind starter later path time done) old events new (kid, room_left) goes-here told came

    pub start-one : (more : List Kid) → parts_of_kid kid + room_left ≡ room → FitsKid model kid → entry_of kid ≡ started_as own → more ≡ done ++ kid ∷ [] →
        HaveStarted model starter entries path time first old more room_left new later
    start-one more counted fits is is_more =
        let parts_more : parts_of_kids more ≡ parts_of_kids done + parts_of_kid kid =
        ap parts_of_kids is_more ∙ parts-append done (kid ∷ []) ∙ ap (λ n. parts_of_kids done + n) (parts-cons kid [] ∙ omega arith) in
        record {
          goes = subst (λ (own_done : List Kid). GoesOn (starts starter entries path time first []) (starts starter later path time room_left own_done) old new) (sym is_more) goes-on;
          parts = omega (arith, parts_more, counted, here.parts);
          fit = subst (AllByRecursion (FitsKid model)) (sym is_more) (each-append (FitsKid model) done kid here.fit fits);
          are =
              ap (λ (own_done : List Kid). map entry_of own_done ++ map started_as later) is_more
              ∙ ap (λ (front : List Entry). front ++ map started_as later) (map-append entry_of done (kid ∷ []))
              ∙ append_assoc (map entry_of done) (entry_of kid ∷ []) (map started_as later)
              ∙ ap (λ (one : Entry). map entry_of done ++ one ∷ map started_as later) is
              ∙ here.are;
          entries_fit = here.entries_fit.1;
        }
