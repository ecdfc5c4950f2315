-- Which of the two steps a mover takes.
use Rattle.std.proofs.Common.{◌≡◌, ◌∙◌, ℕ, ◌+◌, ◌≤◌, ◌||◌, Bool, true, false, if◌then◌else◌, Option, Some, None, IsSome, Result, Ok, Err, OnOk, refl, sym, ap, subst, arith}
use Rattle.dsde_grove.specs.Grove.{value_of}
use Rattle.dsde_sim_tree.specs.declared.fault.TurnEnd.{TurnEnd}
use Rattle.dsde_sim_tree.specs.declared.step.TheConstants.{MOST_PARTS}
use Rattle.dsde_core_moves.specs.given.core_flat.spot_Spot.{Spot}
use Rattle.dsde_core_moves.specs.given.core_flat.spot_Spot_TheVariants as variant
use Rattle.dsde_core_moves.specs.given.core_flat.Scheduled.{held_leaf}
use Rattle.dsde_core_moves.specs.given.core_flat.Shown.{leaf_in}
use Rattle.dsde_values.specs.Path.{root}
use Rattle.dsde_syntax.specs.declared.decl.Model.{Model}
use Rattle.dsde_sim_tree.specs.given.formalism.leaf_Leaf.{Leaf}
use Rattle.dsde_sim_tree.specs.given.formalism.leaf_MoveKind.{MoveKind}
use Rattle.dsde_sim_tree.specs.given.formalism.leaf_MoveKind_TheVariants.{Internal, External, Confluent}
use Rattle.dsde_sim_tree.specs.given.formalism.System.{Ports}
use Rattle.dsde_sim_tree.specs.given.formalism.Leaf.{has_come, is_due, kind_of}
use Rattle.dsde_sim_movers.specs.Movers.{seat_behind}
use Rattle.dsde_core_moves.specs.declared.flat.Flat.{Flat}
use Rattle.dsde_core_moves.specs.declared.flat.Mover.{Mover}
use Rattle.dsde_core_moves.specs.Flat.{leaf_of, IsComponent, IsThere, Stands}
use Rattle.dsde_core_moving.specs.Executive.{IsExecutive}
use Rattle.dsde_core_moving.specs.Moving.{most_births, IsCalled}
use Rattle.dsde_core_moving.proofs.Held.{boss-seat, held-is}

-- who is due, or to whom something comes, takes a transition
kind-by : (due come : Bool) → (due || come) ≡ true → IsSome (let kind : Option MoveKind = if due then (if come then Some Confluent else Some Internal) else (if come then Some External else None) in kind)
kind-by true true is = refl
kind-by true false is = refl
kind-by false true is = refl
kind-by false false is = absurd (let wrong : false ≡ true = is in cc)

-- what is held under a handle
held-by : (held : Option Spot) (leaf : Leaf) → Some leaf ≡ held_leaf held → leaf_in held ≡ leaf
held-by None leaf is = absurd (let wrong : Some leaf ≡ None = is in cc)
held-by (Some (variant.Net model args)) leaf is = absurd (let wrong : Some leaf ≡ None = is in cc)
held-by (Some (variant.Leaf own)) leaf is = let e : Some leaf ≡ Some own = is in cc

no-kind : (kind : Option MoveKind) → IsSome kind → kind ≡ None → ⊥
no-kind None some is = absurd (let wrong : false ≡ true = some in cc)
no-kind (Some kind) some is = absurd (let wrong : Some kind ≡ None = is in cc)

most-by : (b : Bool) → b ≡ true → (next was room all : ℕ) → next ≤ was + room + all → all + room ≤ MOST_PARTS → next ≤ was + (if b then MOST_PARTS else 0)
most-by true is next was room all births few = let less : all + room ≤ 131072 = few in omega (arith, births, less)
most-by false is next was room all births few = absurd (let wrong : false ≡ true = is in cc)

module _ (model : Model) (flat : Flat) (mover : Mover) (stands : Stands model flat) (there : IsThere flat mover) (time : ℕ) (called : IsCalled flat time mover) where
  pub leaf-is : leaf_of flat mover ≡ called.leaf
  leaf-is = held-is model flat mover stands there called.leaf called.sits

  pub takes-one : IsSome (kind_of (leaf_of flat mover) time mover.got)
  takes-one = subst (λ (leaf : Leaf). IsSome (kind_of leaf time mover.got)) (sym leaf-is) (kind-by (is_due called.leaf time) (has_come mover.got) called.called)

  pub component : (leaf_of flat mover).boss ≡ false → IsComponent flat mover
  component is = record { leaf = called.leaf; sits = called.sits; atomic = ap (λ (leaf : Leaf). leaf.boss) (sym leaf-is) ∙ is }

  pub executive : (leaf_of flat mover).boss ≡ true → IsExecutive flat mover
  executive is = record { leaf = called.leaf; sits = called.sits; boss = ap (λ (leaf : Leaf). leaf.boss) (sym leaf-is) ∙ is }

  -- as it is looked up
  module _ (leaf : Leaf) (held : Some leaf ≡ held_leaf (value_of flat.grove mover.handle)) where
    found : leaf_of flat mover ≡ leaf
    found = held-by (value_of flat.grove mover.handle) leaf held

    pub some-kind : (kind : Option MoveKind) (got : Ports) → kind ≡ kind_of leaf time got → got ≡ mover.got → kind ≡ None → ⊥
    some-kind kind got is got_is none =
        no-kind kind (subst IsSome (ap (λ (own : Leaf). kind_of own time mover.got) found ∙ ap (kind_of leaf time) (sym got_is) ∙ sym is) takes-one) none

    pub kind-found : (kind : Option MoveKind) (one : MoveKind) (got : Ports) → kind ≡ kind_of leaf time got → got ≡ mover.got → kind ≡ Some one → kind_of (leaf_of flat mover) time mover.got ≡ Some one
    kind-found kind one got is got_is some = ap (λ (own : Leaf). kind_of own time mover.got) found ∙ ap (kind_of leaf time) (sym got_is) ∙ sym is ∙ some

    pub is-component : leaf.boss ≡ false → IsComponent flat mover
    is-component is = component (ap (λ (own : Leaf). own.boss) found ∙ is)

    pub is-executive : leaf.boss ≡ true → IsExecutive flat mover
    is-executive is = executive (ap (λ (own : Leaf). own.boss) found ∙ is)

    -- an executive may bring as many births as parts may be alive
    pub births-by : {U : Type 0} (result : Result U TurnEnd) (next room all : ℕ) → leaf.boss ≡ true → OnOk result (next ≤ flat.grove.next_birth + room + all) → all + room ≤ MOST_PARTS →
        OnOk result (next ≤ flat.grove.next_birth + most_births mover)
    births-by (Ok done) next room all boss births few =
        most-by (seat_behind root mover.path).is_boss (boss-seat model flat mover stands there called.leaf called.sits (ap (λ (own : Leaf). own.boss) (sym leaf-is ∙ found) ∙ boss)) next flat.grove.next_birth room all births few
    births-by (Err end) next room all boss births few = tt
