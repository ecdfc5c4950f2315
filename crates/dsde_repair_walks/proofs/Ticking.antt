-- A change is counted where a row is put in that was not there, or taken out that was.
use Rattle.std.proofs.Common.{◌≡◌, ℕ, ◌+◌, ◌-◌, zero, suc, Bool, true, false, cond, not, if◌then◌else◌, refl, sym, ap, ◌∙◌, arith, Result, Ok, Err, OnOk, OnErr, IfOk}
use Rattle.std.specs.FinSet as set
use Rattle.dsde_routes_wiring.specs.declared.row.Row.{Row}
use Rattle.dsde_routes_wiring.specs.Sets.{Rows, row_cmp, row_cmp-total}

pub put-in : {E : Type 0} (result : Result Bool E) (table new : Rows) (row : Row) (before after : ℕ) → OnOk result (new ≡ set.insert table row) → IfOk result (λ is_new. is_new ≡ not (set.contains table row)) → OnErr result (new ≡ table) →
    IfOk result (λ is_new. after ≡ (if is_new then before + 1 else before)) → OnErr result (after ≡ before) → after + set.len table ≡ before + set.len new
put-in (Ok is_new) table new row before after is fresh kept ticks none = by (set.contains table row) refl where
  by : (b : Bool) → set.contains table row ≡ b → after + set.len table ≡ before + set.len new
  by true there =
      let same : set.len new ≡ set.len table = ap set.len is ∙ set.len-insert row_cmp-total table row ∙ ap (λ b. cond b (set.len table) (set.len table + 1)) there in
      let own : after ≡ before = ticks ∙ ap (λ b. cond b (before + 1) before) (fresh ∙ ap not there) in
      omega arith
  by false there =
      let more : set.len new ≡ set.len table + 1 = ap set.len is ∙ set.len-insert row_cmp-total table row ∙ ap (λ b. cond b (set.len table) (set.len table + 1)) there in
      let up : after ≡ before + 1 = ticks ∙ ap (λ b. cond b (before + 1) before) (fresh ∙ ap not there) in
      omega arith
put-in (Err end) table new row before after is fresh kept ticks none =
    let same : set.len new ≡ set.len table = ap set.len kept in
    let own : after ≡ before = none in
    omega arith

-- a set that has a row is not empty
has-some : (table : Rows) (row : Row) (n : ℕ) → set.len table ≡ n → set.contains table row ≡ true → set.len table ≡ (set.len table - 1) + 1
has-some table row zero none there =
    let empty : set.contains table row ≡ false = ap (λ (rows : Rows). set.contains rows row) (set.empty_of_len table none) ∙ set.contains-empty row_cmp row in
    let wrong : true ≡ false = sym there ∙ empty in
    absurd (cc)
has-some table row (suc n) many there = omega arith

pub taken-out : (table new : Rows) (row : Row) (was_there : Bool) (before after : ℕ) → new ≡ set.remove table row → was_there ≡ set.contains table row → after ≡ (if was_there then before + 1 else before) → after + set.len new ≡ before + set.len table
taken-out table new row was_there before after is had ticks = by (set.contains table row) refl where
  by : (b : Bool) → set.contains table row ≡ b → after + set.len new ≡ before + set.len table
  by true there =
      let some = has-some table row (set.len table) refl there in
      let less : set.len new ≡ set.len table - 1 = ap set.len is ∙ set.len-remove row_cmp-total table row ∙ ap (λ b. cond b (set.len table - 1) (set.len table)) there in
      let up : after ≡ before + 1 = ticks ∙ ap (λ b. cond b (before + 1) before) (had ∙ there) in
      omega arith
  by false there =
      let same : set.len new ≡ set.len table = ap set.len is ∙ set.len-remove row_cmp-total table row ∙ ap (λ b. cond b (set.len table - 1) (set.len table)) there in
      let own : after ≡ before = ticks ∙ ap (λ b. cond b (before + 1) before) (had ∙ there) in
      omega arith
