use Rattle.dsde_routes_wiring.specs.declared.wiring.WiredKid.TheViews.{out-Wiring}
use Rattle.dsde_core_moves.proofs.ComparingStepping.{Sifted}
use Rattle.dsde_core_moves.proofs.comparing.fresh_entries.Given as goal

abbrev pub invariant-loop-entry : goal.invariant-loop-entry
invariant-loop-entry g l = Sifted l.grove (out-Wiring l.wiring).kids l.fn.entries l.fn.looks l.list l.looks l.left l.entry-iterator.rest.items
