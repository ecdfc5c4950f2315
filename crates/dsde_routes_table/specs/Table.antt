-- What lies in a table of routes.
use Rattle.std.specs.Prelude.{◌≡◌, Bool, true, List}
use Rattle.std.specs.FinSet as set
use Rattle.std.specs.List.{AllByRecursion, flat_map, list_all}
use Rattle.std.specs.Ordering.{eq_by_cmp}
use Rattle.std.specs.BTreeMap.{BTreeMap, IsOrdered}
use Rattle.dsde_routes_wiring.specs.declared.row.Row.{Row}
use Rattle.dsde_routes_wiring.specs.Sets.{Rows}
use Rattle.dsde_routes_table.specs.declared.source.Source.{Source}
use Rattle.dsde_routes_table.specs.Source.{source_cmp, source_of}

-- the rows of all ports
abbrev pub all_rows : List (Source × List Row) → List Row
all_rows entries = flat_map (λ entry. entry.1) entries

abbrev pub rows_of : List (Source × List Row) → Rows
rows_of entries = set.from_list (all_rows entries)

-- whether a row comes from a port
abbrev pub is_of : Source → Row → Bool
is_of source row = eq_by_cmp source_cmp (source_of row) source

-- each port among its rows alone
abbrev pub ComeFrom : Source × List Row → Type 0
ComeFrom entry = list_all (is_of entry.0) entry.1 ≡ true

abbrev pub IsSound : BTreeMap Source (List Row) → Type 0
IsSound buckets = IsOrdered source_cmp buckets × AllByRecursion ComeFrom buckets.entries
