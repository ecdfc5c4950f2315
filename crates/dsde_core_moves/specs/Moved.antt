-- What a move does to a grove.
use Rattle.std.specs.Prelude.{◌≡◌, [], Result, Ok, Err}
use Rattle.dsde_bank.specs.declared.handle.Handle.{Handle}
use Rattle.dsde_sim_tree.specs.given.formalism.leaf_Leaf.{Leaf}
use Rattle.dsde_sim_tree.specs.declared.fault.TurnEnd.{TurnEnd}
use Rattle.dsde_sim_tree.specs.Told.{Told, told}
use Rattle.dsde_core_flat.specs.given.grove.Grove.{Grove, with_value}
use Rattle.dsde_core_flat.specs.declared.spot.Spot.{Spot}
use Rattle.dsde_core_flat.specs.declared.spot.Spot.TheVariants as variant

-- what a call came to that leaves this
abbrev pub after : {U A : Type 0} → Result U TurnEnd → A → Result A TurnEnd
after (Ok done) value = Ok value
after (Err end) value = Err end

-- a grove with another component or executive under a handle
abbrev pub put_under : Grove Spot → Handle → Leaf → Told (Grove Spot)
put_under own handle leaf = told [] (with_value own handle (variant.Leaf leaf))

-- A component or an executive stays one of its model with its arguments.
pub record StaysOf (old new : Leaf) : Type 0 where
  pub model : new.model ≡ old.model
  pub args : new.args ≡ old.args
  pub boss : new.boss ≡ old.boss
