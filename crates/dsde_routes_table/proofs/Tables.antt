-- The rows that lie under ports.
use Rattle.std.proofs.Common.{◌≡◌, Bool, true, false, not, ◌||◌, ◌&&◌, cond, List, [], ◌∷◌, ◌++◌, refl, sym, ap, ◌∙◌, Less, Equal, Greater, Ordering, Option, Some, None}
use Rattle.std.specs.FinSet as set
use Rattle.std.specs.List.{AllByRecursion, list_all}
use Rattle.std.specs.Ordering.{is_eq, match_ordering}
use Rattle.std.specs.Cmp.{IsTotalOrder, on_total, then_total, nat_cmp_total}
use Rattle.std.specs.List.Sorted.{IsStrictlySortedBy}
use Rattle.std.specs.Map.{lookup, set_value, remove_entry, keys_of}
use Rattle.std.specs.BTreeMap.{insert_entry, is_at}
use Rattle.std.proofs.lemmas.Map.Keys.{sorted_head, sorted_tail}
use Rattle.dsde_routes_wiring.specs.declared.row.Row.{Row}
use Rattle.dsde_routes_wiring.specs.Sets.{Rows, row_cmp-total, row_cmp-same}
use Rattle.dsde_routes_table.specs.declared.source.Source.{Source}
use Rattle.dsde_routes_table.specs.Source.{source_cmp, source_of}
use Rattle.dsde_routes_wiring.specs.Rows.{is_same_row, among}
use Rattle.dsde_routes_table.specs.Table.{all_rows, rows_of, is_of, ComeFrom}
use Rattle.dsde_routes_table.proofs.Ordered.{same-is}

pub source-total : IsTotalOrder source_cmp
source-total = then_total (on_total (λ (source : Source). source.birth) nat_cmp_total) (then_total (on_total (λ (source : Source). source.slot) nat_cmp_total) (on_total (λ (source : Source). source.port) nat_cmp_total))

abbrev Entries : Type 0
Entries = List (Source × List Row)

abbrev at : Source → Source → Bool
at key = is_at (source_cmp key)

pub has-append : (xs ys : List Row) (row : Row) → among (xs ++ ys) row ≡ (among xs row || among ys row)
has-append [] ys row = refl
has-append (x ∷ xs) ys row = ap (λ b. is_same_row row x || b) (has-append xs ys row) ∙ or_assoc (is_same_row row x) (among xs row) (among ys row)
  where
    or_assoc : (a b c : Bool) → (a || (b || c)) ≡ ((a || b) || c)
    or_assoc true b c = refl
    or_assoc false b c = refl

pub contains-has : (entries : Entries) (row : Row) → set.contains (rows_of entries) row ≡ among (all_rows entries) row
contains-has entries row = set.contains-from_list row_cmp-total (all_rows entries) row

or_swap : (a b c : Bool) → (a || (b || c)) ≡ (b || (a || c))
or_swap true true c = refl
or_swap true false c = refl
or_swap false b c = refl

or_assoc : (a b c : Bool) → ((a || b) || c) ≡ (a || (b || c))
or_assoc true b c = refl
or_assoc false b c = refl

-- a row is put under a port that has rows
pub set-has : (test : Source → Bool) (entries : Entries) (old new : List Row) (row own : Row) → lookup test entries ≡ Some old → among new own ≡ (is_same_row own row || among old own) →
    among (all_rows (set_value test entries new)) own ≡ (is_same_row own row || among (all_rows entries) own)
set-has test [] old new row own found is = absurd (let wrong : None ≡ Some old = found in cc)
set-has test (entry ∷ entries) old new row own found is = by (test entry.0) found (set-has test entries old new row own)
  where
    by : (b : Bool) → cond b (Some entry.1) (lookup test entries) ≡ Some old →
        (lookup test entries ≡ Some old → among new own ≡ (is_same_row own row || among old own) → among (all_rows (set_value test entries new)) own ≡ (is_same_row own row || among (all_rows entries) own)) →
        among (all_rows (cond b ((entry.0, new) ∷ entries) (entry ∷ set_value test entries new))) own ≡ (is_same_row own row || among (entry.1 ++ all_rows entries) own)
    by true found later =
        let same : entry.1 ≡ old = cc in
        has-append new (all_rows entries) own
        ∙ ap (λ b. b || among (all_rows entries) own) (is ∙ ap (λ (rows : List Row). is_same_row own row || among rows own) (sym same))
        ∙ or_assoc (is_same_row own row) (among entry.1 own) (among (all_rows entries) own)
        ∙ ap (λ b. is_same_row own row || b) (sym (has-append entry.1 (all_rows entries) own))
    by false found later =
        has-append entry.1 (all_rows (set_value test entries new)) own
        ∙ ap (λ b. among entry.1 own || b) (later found is)
        ∙ or_swap (among entry.1 own) (is_same_row own row) (among (all_rows entries) own)
        ∙ ap (λ b. is_same_row own row || b) (sym (has-append entry.1 (all_rows entries) own))

-- a port gets its first rows
pub insert-has : (key : Source) (entries : Entries) (new : List Row) (own : Row) → lookup (at key) entries ≡ None → among (all_rows (insert_entry source_cmp entries key new)) own ≡ (among new own || among (all_rows entries) own)
insert-has key [] new own none = has-append new [] own
insert-has key (entry ∷ entries) new own none = by (source_cmp key entry.0) none (insert-has key entries new own)
  where
    by : (o : Ordering) → cond (is_eq o) (Some entry.1) (lookup (at key) entries) ≡ None →
        (lookup (at key) entries ≡ None → among (all_rows (insert_entry source_cmp entries key new)) own ≡ (among new own || among (all_rows entries) own)) →
        among (all_rows (match_ordering o ((key, new) ∷ entry ∷ entries) ((entry.0, new) ∷ entries) (entry ∷ insert_entry source_cmp entries key new))) own ≡ (among new own || among (entry.1 ++ all_rows entries) own)
    by Less none later = has-append new (entry.1 ++ all_rows entries) own
    by Equal none later = absurd (let wrong : Some entry.1 ≡ None = none in cc)
    by Greater none later =
        has-append entry.1 (all_rows (insert_entry source_cmp entries key new)) own
        ∙ ap (λ b. among entry.1 own || b) (later none)
        ∙ or_swap (among entry.1 own) (among new own) (among (all_rows entries) own)
        ∙ ap (λ b. among new own || b) (sym (has-append entry.1 (all_rows entries) own))

and-first : (a b : Bool) → (a && b) ≡ true → a ≡ true
and-first true b is = refl
and-first false b is = is

and-second : (a b : Bool) → (a && b) ≡ true → b ≡ true
and-second true b is = is
and-second false b is = absurd (cc)

-- rows of another port
none-in : (source : Source) (rows : List Row) (row : Row) → list_all (is_of source) rows ≡ true → is_of source row ≡ false → among rows row ≡ false
none-in source [] row all apart = refl
none-in source (x ∷ rows) row all apart =
    λ i. by (is_same_row row x) refl i || none-in source rows row (and-second (is_of source x) (list_all (is_of source) rows) all) apart i
  where
    by : (b : Bool) → is_same_row row x ≡ b → b ≡ false
    by false is = refl
    by true is = absurd (let wrong : true ≡ false = sym (and-first (is_of source x) (list_all (is_of source) rows) all) ∙ ap (is_of source) (sym (same-is row x is)) ∙ apart in cc)

none-later : (row : Row) (entries : Entries) → AllByRecursion (λ source. is_of source row ≡ false) (keys_of entries) → AllByRecursion ComeFrom entries → among (all_rows entries) row ≡ false
none-later row [] apart come = refl
none-later row (entry ∷ entries) apart come =
    has-append entry.1 (all_rows entries) row ∙ (λ i. none-in entry.0 entry.1 row come.0 apart.0 i || none-later row entries apart.1 come.1 i)

later-apart : (row : Row) (key : Source) (keys : List Source) → source_cmp (source_of row) key ≡ Equal → AllByRecursion (λ other. source_cmp key other ≡ Less) keys → AllByRecursion (λ source. is_of source row ≡ false) keys
later-apart row key [] tied up = tt
later-apart row key (other ∷ keys) tied up = (ap is_eq (source-total.congr (source_of row) key other tied ∙ up.0), later-apart row key keys tied up.1)

tied-from : (o : Ordering) → is_eq o ≡ true → o ≡ Equal
tied-from Less is = absurd (cc)
tied-from Equal is = refl
tied-from Greater is = absurd (cc)

-- behind the port of a row there is none of its rows
none-behind : (row : Row) (entry : Source × List Row) (entries : Entries) → IsStrictlySortedBy source_cmp (keys_of (entry ∷ entries)) → AllByRecursion ComeFrom entries → is_of entry.0 row ≡ true → among (all_rows entries) row ≡ false
none-behind row entry entries order come is =
    none-later row entries (later-apart row entry.0 (keys_of entries) (tied-from (source_cmp (source_of row) entry.0) is) (sorted_head source_cmp entry.0 (keys_of entries) order)) come

-- what lies under the port of a row
abbrev pub had : Option (List Row) → Row → Bool
had found row = elim found [ None ↦ false | Some rows ↦ among rows row ]

or-false : (a : Bool) → (a || false) ≡ a
or-false true = refl
or-false false = refl

-- a row is in the table where it lies under its port
pub found-has : (entries : Entries) → IsStrictlySortedBy source_cmp (keys_of entries) → AllByRecursion ComeFrom entries → (row : Row) → among (all_rows entries) row ≡ had (lookup (at (source_of row)) entries) row
found-has [] order come row = refl
found-has (entry ∷ entries) order come row =
    has-append entry.1 (all_rows entries) row
    ∙ by (is_of entry.0 row) refl (found-has entries (sorted_tail source_cmp entry.0 (keys_of entries) order) come.1 row)
  where
    by : (b : Bool) → is_of entry.0 row ≡ b → among (all_rows entries) row ≡ had (lookup (at (source_of row)) entries) row → (among entry.1 row || among (all_rows entries) row) ≡ had (cond b (Some entry.1) (lookup (at (source_of row)) entries)) row
    by true is later = ap (λ b. among entry.1 row || b) (none-behind row entry entries order come.1 is) ∙ or-false (among entry.1 row)
    by false is later = λ i. none-in entry.0 entry.1 row come.0 is i || later i

not-here : (row own : Row) (rest : Bool) (b : Bool) → (b ≡ true → rest ≡ false) → rest ≡ (not b && rest)
not-here row own rest true none = none refl
not-here row own rest false none = refl

and-or : (n a b : Bool) → ((n && a) || (n && b)) ≡ (n && (a || b))
and-or true a b = refl
and-or false a b = refl

-- a row is taken from under its port
pub take-has : (entries : Entries) → IsStrictlySortedBy source_cmp (keys_of entries) → AllByRecursion ComeFrom entries → (old new : List Row) (row own : Row) → lookup (at (source_of row)) entries ≡ Some old →
    among new own ≡ (not (is_same_row own row) && among old own) →
    among (all_rows (set_value (at (source_of row)) entries new)) own ≡ (not (is_same_row own row) && among (all_rows entries) own)
take-has [] order come old new row own found is = absurd (let wrong : None ≡ Some old = found in cc)
take-has (entry ∷ entries) order come old new row own found is =
    by (is_of entry.0 row) refl found (λ later. take-has entries (sorted_tail source_cmp entry.0 (keys_of entries) order) come.1 old new row own later is)
    ∙ and-or (not (is_same_row own row)) (among entry.1 own) (among (all_rows entries) own)
    ∙ ap (λ b. not (is_same_row own row) && b) (sym (has-append entry.1 (all_rows entries) own))
  where
    by : (b : Bool) → is_of entry.0 row ≡ b → cond b (Some entry.1) (lookup (at (source_of row)) entries) ≡ Some old →
        (lookup (at (source_of row)) entries ≡ Some old → among (all_rows (set_value (at (source_of row)) entries new)) own ≡ (not (is_same_row own row) && among (all_rows entries) own)) →
        among (all_rows (cond b ((entry.0, new) ∷ entries) (entry ∷ set_value (at (source_of row)) entries new))) own
        ≡ ((not (is_same_row own row) && among entry.1 own) || (not (is_same_row own row) && among (all_rows entries) own))
    by true here found later =
        let same : entry.1 ≡ old = cc in
        has-append new (all_rows entries) own
        ∙ (λ i. (is ∙ ap (λ (rows : List Row). not (is_same_row own row) && among rows own) (sym same)) i
        || not-here row own (among (all_rows entries) own) (is_same_row own row) (λ one. ap (among (all_rows entries)) (same-is own row one) ∙ none-behind row entry entries order come.1 here) i)
    by false here found later =
        has-append entry.1 (all_rows (set_value (at (source_of row)) entries new)) own
        ∙ (λ i. not-here row own (among entry.1 own) (is_same_row own row) (λ one. ap (among entry.1) (same-is own row one) ∙ none-in entry.0 entry.1 row come.0 here) i || later found i)

-- a port whose rows are all gone
pub empty-has : (test : Source → Bool) (entries : Entries) (own : Row) → lookup test entries ≡ Some [] → among (all_rows (remove_entry test entries)) own ≡ among (all_rows entries) own
empty-has test [] own found = refl
empty-has test (entry ∷ entries) own found = by (test entry.0) found (empty-has test entries own)
  where
    by : (b : Bool) → cond b (Some entry.1) (lookup test entries) ≡ Some [] → (lookup test entries ≡ Some [] → among (all_rows (remove_entry test entries)) own ≡ among (all_rows entries) own) →
        among (all_rows (cond b entries (entry ∷ remove_entry test entries))) own ≡ among (entry.1 ++ all_rows entries) own
    by true found later = let same : [] ≡ entry.1 = cc in ap (λ (rows : List Row). among (rows ++ all_rows entries) own) same
    by false found later =
        has-append entry.1 (all_rows (remove_entry test entries)) own ∙ ap (λ b. among entry.1 own || b) (later found) ∙ sym (has-append entry.1 (all_rows entries) own)

-- each port still among its rows alone
pub come-set : (key : Source) (entries : Entries) (new : List Row) → AllByRecursion ComeFrom entries → ((source : Source) (old : List Row) → at key source ≡ true → lookup (at key) entries ≡ Some old → list_all (is_of source) old ≡ true → list_all (is_of source) new ≡ true) →
    AllByRecursion ComeFrom (set_value (at key) entries new)
come-set key [] new come keeps = tt
come-set key (entry ∷ entries) new come keeps =
    by (at key entry.0) refl (λ source old here found. keeps source old here found) (come-set key entries new come.1)
  where
    by : (b : Bool) → at key entry.0 ≡ b →
        ((source : Source) (old : List Row) → at key source ≡ true → cond b (Some entry.1) (lookup (at key) entries) ≡ Some old → list_all (is_of source) old ≡ true → list_all (is_of source) new ≡ true) →
        (((source : Source) (old : List Row) → at key source ≡ true → lookup (at key) entries ≡ Some old → list_all (is_of source) old ≡ true → list_all (is_of source) new ≡ true) → AllByRecursion ComeFrom (set_value (at key) entries new)) →
        AllByRecursion ComeFrom (cond b ((entry.0, new) ∷ entries) (entry ∷ set_value (at key) entries new))
    by true here keeps later = (keeps entry.0 entry.1 here refl come.0, come.1)
    by false here keeps later = (come.0, later keeps)

pub come-insert : (key : Source) (entries : Entries) (new : List Row) → AllByRecursion ComeFrom entries → list_all (is_of key) new ≡ true → lookup (at key) entries ≡ None → AllByRecursion ComeFrom (insert_entry source_cmp entries key new)
come-insert key [] new come own none = (own, tt)
come-insert key (entry ∷ entries) new come own none = by (source_cmp key entry.0) none (come-insert key entries new come.1 own)
  where
    by : (o : Ordering) → cond (is_eq o) (Some entry.1) (lookup (at key) entries) ≡ None → (lookup (at key) entries ≡ None → AllByRecursion ComeFrom (insert_entry source_cmp entries key new)) →
        AllByRecursion ComeFrom (match_ordering o ((key, new) ∷ entry ∷ entries) ((entry.0, new) ∷ entries) (entry ∷ insert_entry source_cmp entries key new))
    by Less none later = (own, come)
    by Equal none later = absurd (let wrong : Some entry.1 ≡ None = none in cc)
    by Greater none later = (come.0, later none)

pub come-remove : (test : Source → Bool) (entries : Entries) → AllByRecursion ComeFrom entries → AllByRecursion ComeFrom (remove_entry test entries)
come-remove test [] come = tt
come-remove test (entry ∷ entries) come = by (test entry.0) (come-remove test entries come.1)
  where
    by : (b : Bool) → AllByRecursion ComeFrom (remove_entry test entries) → AllByRecursion ComeFrom (cond b entries (entry ∷ remove_entry test entries))
    by true later = come.1
    by false later = (come.0, later)

-- what is found there
pub found-come : (test : Source → Bool) (entries : Entries) (rows : List Row) → AllByRecursion ComeFrom entries → lookup test entries ≡ Some rows → (key : Source) × (test key ≡ true) × (list_all (is_of key) rows ≡ true)
found-come test [] rows come found = absurd (let wrong : None ≡ Some rows = found in cc)
found-come test (entry ∷ entries) rows come found = by (test entry.0) refl found (found-come test entries rows come.1)
  where
    by : (b : Bool) → test entry.0 ≡ b → cond b (Some entry.1) (lookup test entries) ≡ Some rows → (lookup test entries ≡ Some rows → (key : Source) × (test key ≡ true) × (list_all (is_of key) rows ≡ true)) → (key : Source) × (test key ≡ true) × (list_all (is_of key) rows ≡ true)
    by true here found later = let same : entry.1 ≡ rows = cc in (entry.0, here, ap (list_all (is_of entry.0)) (sym same) ∙ come.0)
    by false here found later = later found

-- two sets that have the same rows
pub same-rows : (one other : Rows) → ((row : Row) → set.contains one row ≡ set.contains other row) → one ≡ other
same-rows one other same = set.same_set row_cmp-total row_cmp-same one other same
