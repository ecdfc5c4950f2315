-- The order of ports of sources.
use Rattle.std.specs.Prelude.{ℕ}
use Rattle.std.specs.Ordering.{nat_cmp, on, then_cmp}
use Rattle.std.specs.declared.cmp.Ordering.{Ordering}
use Rattle.dsde_routes_wiring.specs.given.bank.handle_Handle.{Handle}
use Rattle.dsde_routes_wiring.specs.declared.row.Row.{Row}
use Rattle.dsde_routes_table.specs.declared.source.Source.{Source}

-- by birth, slot and port
abbrev pub source_cmp : Source → Source → Ordering
source_cmp = then_cmp (on (λ source. source.birth) nat_cmp) (then_cmp (on (λ source. source.slot) nat_cmp) (on (λ source. source.port) nat_cmp))

abbrev pub source_at : Handle → ℕ → Source
source_at handle port = record { birth = handle.birth; slot = handle.slot; port = port }

-- where a row comes from
abbrev pub source_of : Row → Source
source_of row = source_at row.source row.source_port
