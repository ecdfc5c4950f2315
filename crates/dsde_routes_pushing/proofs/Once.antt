-- No two ways come to one row.
use Rattle.std.proofs.Common.{◌≡◌, ℕ, ◌+◌, Bool, true, false, cond, length, List, [], ◌∷◌, refl, sym, ◌∙◌, subst, Less, Equal, arith}
use Rattle.std.specs.FinSet as set
use Rattle.std.specs.List.{filter}
use Rattle.std.specs.Cmp.{tied_itself}
use Rattle.std.specs.Cmp.Lexicographic.{nat_list_cmp_total}
use Rattle.dsde_bank.specs.declared.handle.Handle.{Handle}
use Rattle.dsde_routes_wiring.specs.declared.row.Row.{Row}
use Rattle.dsde_routes_wiring.specs.declared.wiring.Wiring.{Wiring}
use Rattle.dsde_routes_wiring.specs.Sets.{row_cmp, row_cmp-total, row_cmp-same}
use Rattle.dsde_routes_wiring.specs.Wired.{HasOwnHandles}
use Rattle.dsde_routes_wiring.specs.Flatten.{rows, flatten, is_to}
use Rattle.dsde_routes_pushing.specs.Pushed.{rank_cmp}
use Rattle.dsde_routes_pushing.specs.lemmas.Lists.{Among, among-filter, any-among, each-among, Ascend}
use Rattle.dsde_routes_pushing.proofs.Whole.{rank_of, ascend}

abbrev Rising : List Row → Type 0
Rising list = (target : Handle) (port : ℕ) → Ascend rank_cmp nat_list_cmp_total rank_of (filter (is_to target port) list)

later-rise : (row : Row) (list : List Row) → Rising (row ∷ list) → Rising list
later-rise row list rise target port = by (is_to target port row) (rise target port)
  where
    by : (b : Bool) → Ascend rank_cmp nat_list_cmp_total rank_of (cond b (row ∷ filter (is_to target port) list) (filter (is_to target port) list)) → Ascend rank_cmp nat_list_cmp_total rank_of (filter (is_to target port) list)
    by true up = up.1
    by false up = up

to-itself : (row : Row) → is_to row.target row.target_port row ≡ true
to-itself row = grind arith

never-twice : (row : Row) (list : List Row) → Rising (row ∷ list) → Among row list → ⊥
never-twice row list rise there =
    let own = filter (is_to row.target row.target_port) list in
    let up = subst (λ b. Ascend rank_cmp nat_list_cmp_total rank_of (cond b (row ∷ own) own)) (to-itself row) (rise row.target row.target_port) in
    let less : rank_cmp row.rank row.rank ≡ Less = each-among (λ (other : Row). rank_cmp row.rank other.rank ≡ Less) own row up.0 (among-filter (is_to row.target row.target_port) row list there (to-itself row)) in
    let tied : rank_cmp row.rank row.rank ≡ Equal = tied_itself nat_list_cmp_total row.rank in
    let wrong : Less ≡ Equal = sym less ∙ tied in
    absurd (cc)

each-counts : (list : List Row) → Rising list → set.len (set.from_list {R = row_cmp} list) ≡ length list
each-counts [] rise = set.len-empty row_cmp
each-counts (row ∷ list) rise =
    set.len-insert row_cmp-total (set.from_list list) row
    ∙ by (set.contains (set.from_list {R = row_cmp} list) row) refl (each-counts list (later-rise row list rise))
  where
    by : (b : Bool) → set.contains (set.from_list {R = row_cmp} list) row ≡ b → set.len (set.from_list {R = row_cmp} list) ≡ length list → cond b (set.len (set.from_list {R = row_cmp} list)) (set.len (set.from_list {R = row_cmp} list) + 1) ≡ length (row ∷ list)
    by true is later = absurd (never-twice row list rise (any-among row_cmp row_cmp-total row_cmp-same row list (sym (set.contains-from_list row_cmp-total list row) ∙ is)))
    by false is later = omega (arith, later)

pub all-count : (net : Wiring) → HasOwnHandles net → set.len (flatten net) ≡ length (rows net)
all-count net own = each-counts (rows net) (λ target port. ascend net own target port)
