-- Rows put into a table and taken out.
use Rattle.std.proofs.Common.{◌≡◌, Bool, true, false, not, ◌||◌, ◌&&◌, List, [], ◌∷◌, refl, sym, ap, ◌∙◌, subst, Option, Some, None, Result, Ok, Err}
use Rattle.std.specs.Prelude.{IfOk, OnOk, OnErr, IsSome}
use Rattle.std.specs.FinSet as set
use Rattle.std.specs.List.{AllByRecursion, list_all}
use Rattle.std.specs.Map.{lookup, set_value, remove_entry}
use Rattle.std.specs.BTreeMap.{BTreeMap, IsOrdered, WritesThrough, get_by, insert_entry, is_at}
use Rattle.std.specs.Ordering.{is_eq}
use Rattle.std.specs.Cmp.{tied_itself}
use Rattle.std.proofs.lemmas.Map.Steps.{set_value_same}
use Rattle.dsde_lists.specs.declared.memory.Memory.{Memory}
use Rattle.dsde_routes_wiring.specs.declared.row.Row.{Row}
use Rattle.dsde_routes_wiring.specs.Sets.{Rows, row_cmp-total}
use Rattle.dsde_routes_table.specs.declared.source.Source.{Source}
use Rattle.dsde_routes_table.specs.Source.{source_cmp, source_of}
use Rattle.dsde_routes_wiring.specs.Rows.{is_same_row}
use Rattle.dsde_routes_table.specs.Order.{Puts, Takes}
use Rattle.dsde_routes_table.specs.Table.{rows_of, is_of, ComeFrom, IsSound}
use Rattle.dsde_routes_table.proofs.Ordered.{same-is}
use Rattle.dsde_routes_table.proofs.Tables.{source-total, contains-has, set-has, insert-has, found-has, had, take-has, empty-has, come-set, come-insert, come-remove, same-rows}

module _ (m : BTreeMap Source (List Row)) (sound : IsSound m) where
  contains-found : (row : Row) (found : Option (List Row)) → lookup (is_at (source_cmp (source_of row))) m.entries ≡ found → set.contains (rows_of m.entries) row ≡ had found row
  contains-found row found is = contains-has m.entries row ∙ found-has m.entries sound.0 sound.1 row ∙ ap (λ (o : Option (List Row)). had o row) is

  same-found : (old one : List Row) (found : Option (List Row)) → found ≡ Some old → found ≡ Some one → old ≡ one
  same-found old one found is also = let same : Some old ≡ Some one = sym is ∙ also in cc

  module _ (row : Row) (old : List Row) (found : lookup (is_at (source_cmp (source_of row))) m.entries ≡ Some old) where
    puts-come : (new : List Row) (is_new : Bool) → Puts row old new is_new → AllByRecursion ComeFrom (set_value (is_at (source_cmp (source_of row))) m.entries new)
    puts-come new is_new puts =
        come-set (source_of row) m.entries new sound.1 (λ source one here also come.
        puts.each (is_of source) ∙ (λ i. here i && (ap (list_all (is_of source)) (same-found old one (lookup (is_at (source_cmp (source_of row))) m.entries) found also) ∙ come) i))

    puts-rows : (new : List Row) (is_new : Bool) → Puts row old new is_new → rows_of (set_value (is_at (source_cmp (source_of row))) m.entries new) ≡ set.insert (rows_of m.entries) row
    puts-rows new is_new puts =
        same-rows (rows_of (set_value (is_at (source_cmp (source_of row))) m.entries new)) (set.insert (rows_of m.entries) row) (λ own.
        contains-has (set_value (is_at (source_cmp (source_of row))) m.entries new) own
        ∙ set-has (is_at (source_cmp (source_of row))) m.entries old new row own found (puts.rows own)
        ∙ ap (λ b. is_same_row own row || b) (sym (contains-has m.entries own))
        ∙ sym (set.contains-insert row_cmp-total (rows_of m.entries) row own))

    takes-come : (new : List Row) (was_there : Bool) → Takes row old new was_there → AllByRecursion ComeFrom (set_value (is_at (source_cmp (source_of row))) m.entries new)
    takes-come new was_there takes =
        come-set (source_of row) m.entries new sound.1 (λ source one here also come.
        takes.each (is_of source) (ap (list_all (is_of source)) (same-found old one (lookup (is_at (source_cmp (source_of row))) m.entries) found also) ∙ come))

    takes-rows : (new : List Row) (was_there : Bool) → Takes row old new was_there → rows_of (set_value (is_at (source_cmp (source_of row))) m.entries new) ≡ set.remove (rows_of m.entries) row
    takes-rows new was_there takes =
        same-rows (rows_of (set_value (is_at (source_cmp (source_of row))) m.entries new)) (set.remove (rows_of m.entries) row) (λ own.
        contains-has (set_value (is_at (source_cmp (source_of row))) m.entries new) own
        ∙ take-has m.entries sound.0 sound.1 old new row own found (takes.rows own)
        ∙ ap (λ b. not (is_same_row own row) && b) (sym (contains-has m.entries own))
        ∙ sym (set.contains-remove row_cmp-total (rows_of m.entries) row own))

-- what a put comes to
pub record HasPut (m n : BTreeMap Source (List Row)) (row : Row) (result : Result Bool Memory) : Type 0 where
  pub sound : IsSound n
  pub rows : OnOk result (rows_of n.entries ≡ set.insert (rows_of m.entries) row)
  pub is_new : IfOk result (λ is_new. is_new ≡ not (set.contains (rows_of m.entries) row))
  pub kept : OnErr result (rows_of n.entries ≡ rows_of m.entries)

pub put-some : (m n : BTreeMap Source (List Row)) (row : Row) (old new : List Row) → IsSound m → get_by (source_cmp (source_of row)) m ≡ Some old → WritesThrough source_cmp (source_cmp (source_of row)) m new n →
    (result : Result Bool Memory) → IfOk result (λ is_new. Puts row old new is_new) → OnErr result (new ≡ old) → HasPut m n row result
put-some m n row old new sound found written (Ok is_new) puts kept = record {
  sound = (written.4, subst (AllByRecursion ComeFrom) (sym written.0) (puts-come m sound row old found new is_new puts));
  rows = ap rows_of written.0 ∙ puts-rows m sound row old found new is_new puts;
  is_new = puts.added ∙ ap not (sym (contains-found m sound row (Some old) found));
  kept = tt;
}
put-some m n row old new sound found written (Err end) puts kept =
    let same = written.0 ∙ ap (set_value (is_at (source_cmp (source_of row))) m.entries) kept ∙ set_value_same (is_at (source_cmp (source_of row))) m.entries old found in
    record {
      sound = (written.4, subst (AllByRecursion ComeFrom) (sym same) sound.1);
      rows = tt;
      is_new = tt;
      kept = ap rows_of same;
    }

pub put-none : (m n : BTreeMap Source (List Row)) (row : Row) → IsSound m → get_by (source_cmp (source_of row)) m ≡ None → n.entries ≡ insert_entry source_cmp m.entries (source_of row) (row ∷ []) → IsOrdered source_cmp n → HasPut m n row (Ok true)
put-none m n row sound none is order = record {
  sound = (order, subst (AllByRecursion ComeFrom) (sym is) (come-insert (source_of row) m.entries (row ∷ []) sound.1 (ap (λ o. is_eq o && true) (tied_itself source-total (source_of row))) none));
  rows = ap rows_of is ∙ same-rows (rows_of (insert_entry source_cmp m.entries (source_of row) (row ∷ []))) (set.insert (rows_of m.entries) row) (λ own.
      contains-has (insert_entry source_cmp m.entries (source_of row) (row ∷ [])) own
      ∙ insert-has (source_of row) m.entries (row ∷ []) own none
      ∙ (λ i. or-false (is_same_row own row) i || sym (contains-has m.entries own) i)
      ∙ sym (set.contains-insert row_cmp-total (rows_of m.entries) row own));
  is_new = ap not (sym (contains-found m sound row None none));
  kept = tt;
}
  where
    or-false : (a : Bool) → (a || false) ≡ a
    or-false true = refl
    or-false false = refl

-- what a take comes to
pub record HasTaken (m n : BTreeMap Source (List Row)) (row : Row) (result : Bool) : Type 0 where
  pub sound : IsSound n
  pub rows : rows_of n.entries ≡ set.remove (rows_of m.entries) row
  pub was_there : result ≡ set.contains (rows_of m.entries) row

pub take-some : (m n : BTreeMap Source (List Row)) (row : Row) (old new : List Row) (result : Bool) → IsSound m → get_by (source_cmp (source_of row)) m ≡ Some old → WritesThrough source_cmp (source_cmp (source_of row)) m new n →
    Takes row old new result → HasTaken m n row result
take-some m n row old new result sound found written takes = record {
  sound = (written.4, subst (AllByRecursion ComeFrom) (sym written.0) (takes-come m sound row old found new result takes));
  rows = ap rows_of written.0 ∙ takes-rows m sound row old found new result takes;
  was_there = takes.taken ∙ sym (contains-found m sound row (Some old) found);
}

remove-absent : (rows : Rows) (row : Row) → set.contains rows row ≡ false → rows ≡ set.remove rows row
remove-absent rows row absent =
    same-rows rows (set.remove rows row) (λ own. by own (is_same_row own row) refl ∙ sym (set.contains-remove row_cmp-total rows row own))
  where
    by : (own : Row) (b : Bool) → is_same_row own row ≡ b → set.contains rows own ≡ (not b && set.contains rows own)
    by own true is = ap (set.contains rows) (same-is own row is) ∙ absent
    by own false is = refl

pub take-none : (m : BTreeMap Source (List Row)) (row : Row) → IsSound m → get_by (source_cmp (source_of row)) m ≡ None → HasTaken m m row false
take-none m row sound none =
    let absent = contains-found m sound row None none in
    record {
      sound = sound;
      rows = remove-absent (rows_of m.entries) row absent;
      was_there = sym absent;
    }

-- the port whose last row was taken goes
pub take-last : (m n left : BTreeMap Source (List Row)) (row : Row) (result : Bool) → HasTaken m n row result → get_by (source_cmp (source_of row)) n ≡ Some [] → left.entries ≡ remove_entry (is_at (source_cmp (source_of row))) n.entries → IsOrdered source_cmp left → HasTaken m left row result
take-last m n left row result taken found is order = record {
  sound = (order, subst (AllByRecursion ComeFrom) (sym is) (come-remove (is_at (source_cmp (source_of row))) n.entries taken.sound.1));
  rows =
      ap rows_of is
      ∙ same-rows (rows_of (remove_entry (is_at (source_cmp (source_of row))) n.entries)) (rows_of n.entries) (λ own.
      contains-has (remove_entry (is_at (source_cmp (source_of row))) n.entries) own ∙ empty-has (is_at (source_cmp (source_of row))) n.entries own found ∙ sym (contains-has n.entries own))
      ∙ taken.rows;
  was_there = taken.was_there;
}

-- the same in the words of the code: a look-up by a key that is the row's port
pub take-known : (m n : BTreeMap Source (List Row)) (key : Source) (row : Row) (old new : List Row) (result : Bool) → key ≡ source_of row → IsSound m → get_by (source_cmp key) m ≡ Some old → WritesThrough source_cmp (source_cmp key) m new n →
    Takes row old new result → HasTaken m n row result
take-known m n key row old new result is sound found written takes =
    take-some m n row old new result sound (ap (λ (k : Source). get_by (source_cmp k) m) (sym is) ∙ found) (subst (λ (k : Source). WritesThrough source_cmp (source_cmp k) m new n) is written) takes

some-is : {X : Type 0} (o : Option X) (x : X) → o ≡ Some x → IsSome o
some-is None x is = absurd (let wrong : None ≡ Some x = is in cc)
some-is (Some y) x is = refl

pub take-known-last : (m n left : BTreeMap Source (List Row)) (key : Source) (row : Row) (old new : List Row) (result : Bool) → key ≡ source_of row → IsSound m → get_by (source_cmp key) m ≡ Some old → WritesThrough source_cmp (source_cmp key) m new n →
    Takes row old new result → new ≡ [] → left.entries ≡ remove_entry (is_at (source_cmp key)) n.entries → IsOrdered source_cmp left → HasTaken m left row result
take-known-last m n left key row old new result is sound found written takes empty removed order =
    take-last m n left row result (take-known m n key row old new result is sound found written takes)
    (ap (λ (k : Source). get_by (source_cmp k) n) (sym is) ∙ (written.3 (some-is (get_by (source_cmp key) m) old found)).1 ∙ ap (λ (rows : List Row). let known : Option (List Row) = Some rows in known) empty)
    (removed ∙ ap (λ (k : Source). remove_entry (is_at (source_cmp k)) n.entries) is)
    order
