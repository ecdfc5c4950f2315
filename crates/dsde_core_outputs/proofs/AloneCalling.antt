-- A component moves where it is due or something comes to it.
use Rattle.std.proofs.Common.{◌≡◌, ℕ, ◌||◌, Bool, true, false, List, [], ◌∷◌, map, is_some, Option, Some, None, refl, sym, ap, subst, ◌∙◌, inl}
use Rattle.std.specs.Prelude.{if◌then◌else◌}
use Rattle.std.specs.List.{AllByRecursion}
use Rattle.dsde_bank.specs.declared.handle.Handle.{Handle}
use Rattle.dsde_values.specs.declared.path.Path.{Path}
use Rattle.dsde_sim_tree.specs.given.formalism.leaf_Leaf.{Leaf}
use Rattle.dsde_sim_tree.specs.given.formalism.leaf_MoveKind.{MoveKind}
use Rattle.dsde_sim_tree.specs.given.formalism.leaf_MoveKind_TheVariants.{Confluent, External, Internal}
use Rattle.dsde_sim_tree.specs.given.formalism.Leaf.{has_come, is_due, kind_of}
use Rattle.dsde_sim_tree.specs.given.formalism.System.{Ports}
use Rattle.dsde_sim_working.specs.given.sim_movers.Deliveries.{Delivery}
use Rattle.dsde_sim_working.specs.given.sim_movers.Walk.{called_one}
use Rattle.dsde_core_parcels.specs.given.routes_pushing.lemmas_Lists.{Among}
use Rattle.dsde_core_parcels.specs.given.core_moves.flat_Mover.{Mover}
use Rattle.dsde_core_parcels.specs.given.core_moves.Flat.{delivery_of}
use Rattle.dsde_core_parcels.specs.given.core_moves.Movers.{handle_of}
use Rattle.dsde_core_outputs.specs.Alone.{one_called}

abbrev kind_by : Bool → Bool → Option MoveKind
kind_by due came = if due then (if came then Some Confluent else Some Internal) else (if came then Some External else None)

moves-by : (due came : Bool) → is_some (kind_by due came) ≡ (due || came)
moves-by true true = refl
moves-by true false = refl
moves-by false true = refl
moves-by false false = refl

is-called : (leaf : Leaf) (time : ℕ) (got : Ports) → is_some (kind_of leaf time got) ≡ (is_due leaf time || has_come got)
is-called leaf time got = moves-by (is_due leaf time) (has_come got)

module _ (leaf : Leaf) (handle : Handle) (path : Path) (time : ℕ) (got : Ports) where
  abbrev pub mover : Mover
  mover = record { handle = handle; path = path; model = leaf.model; got = got }

  abbrev mover_if : Bool → List Mover
  mover_if called = if called then mover ∷ [] else []

  pub some-called : (kind : MoveKind) → kind_of leaf time got ≡ Some kind → one_called leaf handle path time got ≡ mover ∷ []
  some-called kind is = ap mover_if (sym (is-called leaf time got) ∙ ap is_some is)

  pub none-called : kind_of leaf time got ≡ None → one_called leaf handle path time got ≡ []
  none-called is = ap mover_if (sym (is-called leaf time got) ∙ ap is_some is)

  abbrev delivery_if : Bool → List Delivery
  delivery_if called = if called then record { path = path; model = leaf.model; ports = got } ∷ [] else []

  delivered-by : (called : Bool) → map delivery_of (mover_if called) ≡ delivery_if called
  delivered-by true = refl
  delivered-by false = refl

  -- what it receives, without its handle
  pub delivered : map delivery_of (one_called leaf handle path time got) ≡ called_one leaf path time got
  delivered = delivered-by (is_due leaf time || has_come got)

  all-by : (P : Mover → Type 0) → P mover → (called : Bool) → AllByRecursion P (mover_if called)
  all-by P holds true = (holds, tt)
  all-by P holds false = tt

  -- what holds of it
  pub all-called : (P : Mover → Type 0) → P mover → AllByRecursion P (one_called leaf handle path time got)
  all-called P holds = all-by P holds (is_due leaf time || has_come got)

  -- who is due is called
  pub due-called : is_due leaf time ≡ true → Among handle (map handle_of (one_called leaf handle path time got))
  due-called due = subst (λ (called : Bool). Among handle (map handle_of (mover_if called))) (sym (ap (λ (b : Bool). b || has_come got) due)) (inl refl)
