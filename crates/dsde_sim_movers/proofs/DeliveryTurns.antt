-- The laws of a turn.
use Rattle.std.proofs.Common.{◌≡◌, ℕ, ◌+◌, ◌-◌, List, [], ◌∷◌, ◌++◌, Result, Ok, Err, refl, sym, ◌∙◌, ap, subst, append_assoc, inl, inr}
use Rattle.std.specs.Cmp.{IsTotalOrder}
use Rattle.std.specs.List.{AllByRecursion, flat_map, filter}
use Rattle.dsde_values.specs.declared.arrival.Item.{Item}
use Rattle.dsde_values.specs.declared.path.Path.{Path}
use Rattle.dsde_values.specs.declared.value.Value.{Value}
use Rattle.dsde_values.specs.Path.{root, name_cmp}
use Rattle.dsde_sim_tree.specs.given.formalism.System.{System, Ports}
use Rattle.dsde_sim_tree.specs.declared.event.Event.{Event}
use Rattle.dsde_sim_tree.specs.declared.event.Event.TheVariants.{Turn, Out}
use Rattle.dsde_sim_tree.specs.declared.fault.TurnEnd.{TurnEnd}
use Rattle.dsde_sim_tree.specs.Told.{Told, quietly, telling, ◌then◌}
use Rattle.dsde_sim_tree.specs.declared.sim.Sim.{Sim}
use Rattle.dsde_sim_tree.specs.Move.{ins_of, move}
use Rattle.dsde_sim_tree.specs.Output.{by_port, output, outs_at, outs_from}
use Rattle.dsde_sim_tree.specs.Tree.{parts}
use Rattle.dsde_sim_tree.specs.declared.step.TheConstants.{MOST_PARTS}
use Rattle.dsde_sim_tree.specs.Turn.{without_room, move_phase, turn}
use Rattle.dsde_sim_movers.specs.Places.{paths, added, reached, IsInOrder, ReachOnly, ReachNoneAdded}
use Rattle.dsde_sim_movers.specs.Deliveries.{deliveries, gets_of, is_get}
use Rattle.dsde_sim_movers.specs.Delivered.{UpTo, IsDelivered}
use Rattle.dsde_sim_movers.specs.lemmas.Events.{each-append, each-then, each-back, Among, among-cases, among-from, contains-from}
use Rattle.dsde_sim_movers.proofs.Reaching.{IsOf, AreOf, moves-of, reached-among}
use Rattle.dsde_sim_movers.proofs.Calm.{IsApart, AreApart, IsCalm, calm-then, calm-append, calm-addless, AddsNone, apart-addless, apart-still, moves-calmly}
use Rattle.dsde_sim_movers.proofs.Delivering.{Gets, upto-last, moves-deliver}
use Rattle.dsde_sim_movers.proofs.Bringing.{upto-brings}

-- events that reach only these places, from the facts of each
only-among : (places : List Path) (above : Path) (events : List Event) → AreOf places above events → (path : Path) → Among path (flat_map reached events) → Among path places
only-among places above [] of path there = absurd there
only-among places above (event ∷ events) of path there = elim (among-cases path (reached event) (flat_map reached events) there) [
  | inl here ↦ reached-among places above event of.0 path here
  | inr later ↦ only-among places above events of.1 path later
]

pub reach-only : (places : List Path) (above : Path) (events : List Event) → AreOf places above events → ReachOnly places events
reach-only places above events of path there =
    contains-from places path (only-among places above events of path (among-from (flat_map reached events) path there))

-- calm events, cut in two
calm-apart : (xs ys : List Event) → IsCalm (xs ++ ys) → AreApart xs ys
calm-apart [] ys calm = tt
calm-apart (x ∷ xs) ys calm = (each-back (IsApart x) xs ys calm.0, calm-apart xs ys calm.1)

one-apart : (x : Event) (ys : List Event) → AllByRecursion (IsApart x) ys → (path : Path) → Among path (added x) → Among path (flat_map reached ys) → ⊥
one-apart x [] apart path in_x there = there
one-apart x (y ∷ ys) apart path in_x there = elim (among-cases path (reached y) (flat_map reached ys) there) [
  | inl here ↦ apart.0 path in_x here
  | inr later ↦ one-apart x ys apart.1 path in_x later
]

all-apart : (xs ys : List Event) → AreApart xs ys → (path : Path) → Among path (flat_map added xs) → Among path (flat_map reached ys) → ⊥
all-apart [] ys apart path in_xs in_ys = in_xs
all-apart (x ∷ xs) ys apart path in_xs in_ys = elim (among-cases path (added x) (flat_map added xs) in_xs) [
  | inl here ↦ one-apart x ys apart.0 path here in_ys
  | inr later ↦ all-apart xs ys apart.1 path later in_ys
]

pub reach-none-added : (events : List Event) → IsCalm events → ReachNoneAdded events
reach-none-added events calm before after path is in_before in_after =
    all-apart before after (calm-apart before after (subst IsCalm is calm)) path
    (among-from (flat_map added before) path in_before) (among-from (flat_map reached after) path in_after)

-- a root's out events
values-out : (P : Event → Type 0) → ((port : ℕ) (value : Value) → P (Out port value)) → (port : ℕ) (values : List Value) → AllByRecursion P (outs_at port values)
values-out P out port [] = tt
values-out P out port (value ∷ values) = (out port value, values-out P out port values)

outs-told : (P : Event → Type 0) → ((port : ℕ) (value : Value) → P (Out port value)) → (port : ℕ) (sent : Ports) → AllByRecursion P (outs_from port sent)
outs-told P out port [] = tt
outs-told P out port (values ∷ later) = each-append P (outs_at port values) (outs_from (port + 1) later) (values-out P out port values) (outs-told P out (port + 1) later)

values-no_gets : (port : ℕ) (values : List Value) (rest : List Event) → filter is_get (outs_at port values ++ rest) ≡ filter is_get rest
values-no_gets port [] rest = refl
values-no_gets port (value ∷ values) rest = values-no_gets port values rest

outs-no_gets : (port : ℕ) (sent : Ports) (rest : List Event) → filter is_get (outs_from port sent ++ rest) ≡ filter is_get rest
outs-no_gets port [] rest = refl
outs-no_gets port (values ∷ later) rest =
    ap (filter is_get) (append_assoc (outs_at port values) (outs_from (port + 1) later) rest)
    ∙ values-no_gets port values (outs_from (port + 1) later ++ rest) ∙ outs-no_gets (port + 1) later rest

module _ (system : System) (tree : Sim) (number time : ℕ) (items : List Item) where
  abbrev got : Ports
  got = by_port (ins_of system tree) items

  abbrev moves : Told (Sim × ℕ)
  moves = move system tree root time got (MOST_PARTS - parts tree)

  turn-of : AreOf (paths tree) root (turn system tree number time items).events
  turn-of = (
    tt,
    each-then (IsOf (paths tree) root) [] (output system tree root time) (move_phase system tree time got) tt (λ sent.
        each-append (IsOf (paths tree) root) (outs_from 0 sent) _ (outs-told (IsOf (paths tree) root) (λ port value. tt) 0 sent)
        (each-then (IsOf (paths tree) root) moves.events moves.end without_room (moves-of system tree root time got (MOST_PARTS - parts tree)) (λ after. tt))),
  )

  apart-all : (x : Event) → AddsNone x → (ys : List Event) → AllByRecursion (IsApart x) ys
  apart-all x none ys = (apart-addless (x ∷ []) ys (none, tt)).0

  turn-calm : IsTotalOrder name_cmp → IsInOrder tree → IsCalm (turn system tree number time items).events
  turn-calm total order = (
    apart-all (Turn number time) (λ path there. there) _,
    calm-then [] (output system tree root time) (move_phase system tree time got) tt (λ sent.
        calm-append (outs_from 0 sent) _ (calm-addless (outs_from 0 sent) (outs-told AddsNone (λ port value path there. there) 0 sent))
        (calm-then moves.events moves.end without_room (moves-calmly system total tree order root time got (MOST_PARTS - parts tree)) (λ after. tt) (λ after. apart-still moves.events [] tt))
        (apart-addless (outs_from 0 sent) _ (outs-told AddsNone (λ port value path there. there) 0 sent)))
        (λ sent. tt),
  )

  abbrev all_gets : List Event
  all_gets = flat_map gets_of (deliveries system tree root time got)

  turn-gets-of : (sent : Result Ports TurnEnd) → Gets (telling (Turn number time ∷ []) (quietly sent then move_phase system tree time got)) all_gets
  turn-gets-of (Err end) = (all_gets, refl)
  turn-gets-of (Ok sent) =
      let rest : Told Sim = moves then without_room in
      subst (λ (list : List Event). UpTo rest.end list all_gets) (sym (outs-no_gets 0 sent rest.events))
      (upto-last moves.events moves.end without_room all_gets (moves-deliver system tree root time got (MOST_PARTS - parts tree)) (λ after. refl))

  pub turn-gets : Gets (turn system tree number time items) all_gets
  turn-gets = turn-gets-of (output system tree root time)

  pub turn-delivered : IsTotalOrder name_cmp → IsInOrder tree → IsDelivered system tree time got (turn system tree number time items).events (turn system tree number time items).end
  turn-delivered total order = record {
    places = reach-only (paths tree) root (turn system tree number time items).events turn-of;
    calm = reach-none-added (turn system tree number time items).events (turn-calm total order);
    received = λ path port. upto-brings path port (turn system tree number time items).end (turn system tree number time items).events (deliveries system tree root time got) turn-gets;
  }
