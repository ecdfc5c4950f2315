use Rattle.std.proofs.Common.{◌≡◌, None, ◌++◌, drop}
use Rattle.std.specs.Option.{option_copied}
use Rattle.dsde_drawing.specs.Drawing.{clear}
use Rattle.dsde_drawing.proofs.drawing.find_clear.Given as goal

abbrev pub invariant-loop-place : goal.invariant-loop-place
invariant-loop-place g l = l.places ++ clear g.T.Waits.waits (option_copied l.before) l.place (drop l.place l.left) ≡ clear g.T.Waits.waits None 0 l.left
