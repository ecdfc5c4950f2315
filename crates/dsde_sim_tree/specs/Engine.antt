-- An engine: a system at work.
use Rattle.std.specs.Prelude.{ℕ, ◌+◌, Bool, if◌then◌else◌, Option, Some, None}
use Rattle.dsde_values.specs.declared.when.When.{When}
use Rattle.dsde_values.specs.declared.when.When.TheVariants.{Never}
use Rattle.dsde_sim_tree.specs.declared.sim.Sim.{Sim}
use Rattle.dsde_sim_tree.specs.Tree.{next_time}

pub record Engine : Type 0 where
  -- its tree, unless a turn of it did not come to its end
  pub tree : Option Sim
  -- how many turns are done
  pub turn : ℕ
  -- the time of the last of them
  pub time : ℕ
  -- how many records of the input are taken
  pub taken : ℕ

-- the least time at which a part of the tree is due
abbrev pub next_of : Engine → When
next_of engine = elim engine.tree [ Some tree ↦ next_time tree | None ↦ Never ]

-- an engine whose tree has started
abbrev pub begun : Sim → Engine
begun tree = record { tree = Some tree; turn = 0; time = 0; taken = 0 }

-- an engine after a turn
abbrev pub turned : Engine → Sim → ℕ → Bool → Engine
turned engine tree time took_input = record {
  tree = Some tree;
  turn = engine.turn + 1;
  time = time;
  taken = engine.taken + (if took_input then 1 else 0);
}
