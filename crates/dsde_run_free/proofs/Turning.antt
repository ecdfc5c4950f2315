-- The movers of a turn in a drawn order.
use Rattle.std.proofs.Common.{◌≡◌, ◌∙◌, ℕ, zero, suc, ◌≤◌, List, [], ◌++◌, length, Result, Ok, Err, IfOk, OnOk, refl, sym, ap, subst, arith}
use Rattle.std.specs.List.{AllByRecursion}
use Rattle.rand_pcg.specs.Lcg.{Lcg}
use Rattle.rand_pcg.specs.Pcg.{pcg32}
use Rattle.dsde_lists.specs.declared.memory.Memory.{Memory}
use Rattle.dsde_values.specs.declared.arrival.Item.{Item}
use Rattle.dsde_values.specs.declared.path.Path.{Path}
use Rattle.dsde_values.specs.Path.{root}
use Rattle.dsde_sim_tree.specs.given.formalism.System.{Ports, System}
use Rattle.dsde_sim_tree.specs.declared.sim.Sim.{Sim}
use Rattle.dsde_sim_tree.specs.Output.{by_port}
use Rattle.dsde_sim_tree.specs.Move.{ins_of}
use Rattle.dsde_sim_movers.specs.Deliveries.{Delivery}
use Rattle.dsde_sim_movers.specs.Movers.{movers}
use Rattle.dsde_sim_movers.specs.Names.{IsNamed}
use Rattle.dsde_sim_movers.specs.Turns.{turn_movers}
use Rattle.dsde_sim_movers.specs.Orders.{IsDrawn, is_above}
use Rattle.dsde_drawing.specs.Drawing.{IsOrderly, drawn}
use Rattle.dsde_drawing.specs.Words.{behind, next_words}
use Rattle.dsde_order.specs.Free.{drawn_movers, moves_of}
use Rattle.dsde_run_free.proofs.Seated.{each-drawn}

-- the walk from the root finds the movers of the turn
pub walked-all : (system : System) (tree : Sim) (time : ℕ) (items : List Item) (path : Path) (got : Ports) (old found list : List Delivery) → found ≡ old ++ movers system tree path time got → old ≡ [] →
    path ≡ root → got ≡ by_port (ins_of system tree) items → list ≡ found → list ≡ turn_movers system tree time items
walked-all system tree time items path got old found list found_is none path_is got_is is =
    is
    ∙ found_is
    ∙ ap (λ (front : List Delivery). front ++ movers system tree path time got) none
    ∙ ap (λ (p : Path). movers system tree p time got) path_is
    ∙ ap (λ (ports : Ports). movers system tree root time ports) got_is

-- what is known whatever comes of a step
pub ok-known : {X E : Type 0} (result : Result X E) (P : Type 0) → P → OnOk result P
ok-known (Ok value) P holds = holds
ok-known (Err end) P holds = tt

length-next : (count : ℕ) (generator : Lcg) → length (next_words count generator) ≡ count
length-next zero generator = refl
length-next (suc count) generator = ap suc (length-next count (pcg32 generator).1)

-- drawn orders are lawful
abbrev pub DrawnAreLawful : Type 0
DrawnAreLawful = (system : System) (tree : Sim) (time : ℕ) (items : List Item) (words : List ℕ) → IsNamed tree → length (turn_movers system tree time items) ≤ length words →
    IsDrawn root (turn_movers system tree time items) (drawn (is_above root) (length (turn_movers system tree time items)) (turn_movers system tree time items) words)

pub drawn-here : DrawnAreLawful → (system : System) (tree : Sim) (time : ℕ) (items : List Item) (generator : Lcg) → IsNamed tree → IsDrawn root (turn_movers system tree time items) (drawn_movers system tree time items generator)
drawn-here law system tree time items generator named =
    let count = moves_of system tree time items in
    let counted = length-next count generator in
    law system tree time items (next_words count generator) named (omega (arith, counted))

module _ (system : System) (tree : Sim) (time : ℕ) (items : List Item) (generator : Lcg) (list : List Delivery) (is : list ≡ turn_movers system tree time items) where
  pub order-drawn : (result : Result (List Delivery) Memory) → IfOk result (λ order. order ≡ drawn (is_above root) (length list) list (next_words (length list) generator)) → IfOk result (λ order. order ≡ drawn_movers system tree time items generator)
  order-drawn result ok = subst (λ (own : List Delivery). IfOk result (λ order. order ≡ drawn (is_above root) (length own) own (next_words (length own) generator))) is ok

  pub words-drawn : {X : Type 0} (result : Result X Memory) (after : Lcg) → OnOk result (after ≡ behind (length list) generator) → OnOk result (after ≡ behind (moves_of system tree time items) generator)
  words-drawn result after ok = subst (λ (own : List Delivery). OnOk result (after ≡ behind (length own) generator)) is ok

  pub orderly : IsOrderly (is_above root) (turn_movers system tree time items) → IsOrderly (is_above root) list
  orderly holds = subst (IsOrderly (is_above root)) (sym is) holds

  pub order-fits : (P : Delivery → Type 0) → AllByRecursion P list → IsDrawn root (turn_movers system tree time items) (drawn_movers system tree time items generator) →
      (result : Result (List Delivery) Memory) → IfOk result (λ order. order ≡ drawn_movers system tree time items generator) → IfOk result (AllByRecursion P)
  order-fits P all drawn (Ok order) ok =
      subst (AllByRecursion P) (sym ok) (each-drawn P root (turn_movers system tree time items) (drawn_movers system tree time items generator) drawn (subst (AllByRecursion P) is all))
  order-fits P all drawn (Err end) ok = tt
