use Rattle.std.proofs.Common.{◌≡◌, ◌++◌}
use Rattle.dsde_routes_wiring.specs.declared.wiring.WiredKid.TheViews.{out-Wiring}
use Rattle.dsde_repair.specs.Walks.{from_number, crossed_link, open_around}
use Rattle.dsde_repair.proofs.rows.crossing_rows.Given as goal

abbrev pub invariant-loop-number : goal.invariant-loop-number
invariant-loop-number l =
    l.rows ++ from_number (crossed_link (open_around l.whole l.net) (out-Wiring l.net).me) l.links l.number
    ≡ l.fn.rows ++ from_number (crossed_link (open_around l.whole l.net) (out-Wiring l.net).me) l.links 0
