use Rattle.std.proofs.Common.{◌≡◌, ◌++◌, drop}
use Rattle.std.specs.List.{flat_map}
use Rattle.dsde_routes_wiring.specs.declared.wiring.WiredKid.TheViews.{out-Wiring}
use Rattle.dsde_routes_wiring.specs.Places.{only}
use Rattle.dsde_repair_walks.specs.Walks.{beyond, link_at}
use Rattle.dsde_repair.specs.Walks.{between_link, passing_kids, past_around}
use Rattle.dsde_repair.proofs.through.into_all.Given as goal

abbrev pub invariant-loop-number : goal.invariant-loop-number
invariant-loop-number l =
    l.rows ++ flat_map (link_at (between_link (past_around (beyond l.whole (out-Wiring l.net).me) l.name l.rest l.net) (only (passing_kids l.name l.rest (out-Wiring l.net).kids)) (out-Wiring l.net).me) (out-Wiring l.net).links) (drop l.number-index l.numbers)
    ≡ l.fn.rows ++ flat_map (link_at (between_link (past_around (beyond l.whole (out-Wiring l.net).me) l.name l.rest l.net) (only (passing_kids l.name l.rest (out-Wiring l.net).kids)) (out-Wiring l.net).me) (out-Wiring l.net).links) l.numbers
