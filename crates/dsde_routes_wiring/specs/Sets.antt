-- Sets of rows. Which order of rows a set is kept in says nothing: it is there so that each row is in it once.
use Rattle.std.specs.Prelude.{◌≡◌, ℕ, List, [], ◌∷◌}
use Rattle.std.specs.FinSet as set
use Rattle.std.specs.Cmp.{IsTotalOrder, on_total}
use Rattle.std.specs.Cmp.Lexicographic.{slice_cmp, nat_list_cmp_total}
use Rattle.std.specs.Ordering.{nat_cmp}
use Rattle.std.specs.FinSet.{IsAntisymmetric, nat_cmp-IsAntisymmetric, slice_cmp-IsAntisymmetric}
use Rattle.std.specs.declared.cmp.Ordering.{Ordering}
use Rattle.std.proofs.Common.{refl}
use base.Stored.{Gv, gnil, gnum, gcons}
use Rattle.dsde_routes_wiring.specs.declared.row.Row.{Row}
use Rattle.dsde_routes_wiring.specs.contracts.row.Row as row

-- the numbers of a code, before others
numbers : Gv → List ℕ → List ℕ
numbers gnil rest = 0 ∷ rest
numbers (gnum n) rest = 1 ∷ n ∷ rest
numbers (gcons one other) rest = 2 ∷ numbers one (numbers other rest)

one_code : (one other : Gv) (rest behind : List ℕ) → numbers one rest ≡ numbers other behind → (one ≡ other) × (rest ≡ behind)
unfolding numbers
one_code gnil gnil rest behind is = (refl, cc)
one_code (gnum n) (gnum m) rest behind is = (cc, cc)
one_code (gcons a b) (gcons c d) rest behind is =
    let inner : numbers a (numbers b rest) ≡ numbers c (numbers d behind) = cc in
    let first = one_code a c (numbers b rest) (numbers d behind) inner in
    let second = one_code b d rest behind first.1 in
    (λ i. gcons (first.0 i) (second.0 i), second.1)
one_code gnil (gnum m) rest behind is = absurd (cc)
one_code gnil (gcons c d) rest behind is = absurd (cc)
one_code (gnum n) gnil rest behind is = absurd (cc)
one_code (gnum n) (gcons c d) rest behind is = absurd (cc)
one_code (gcons a b) gnil rest behind is = absurd (cc)
one_code (gcons a b) (gnum m) rest behind is = absurd (cc)

-- an order of rows
pub row_cmp : Row → Row → Ordering
row_cmp one other = slice_cmp nat_cmp (numbers ((row.the_row.coded).code one) []) (numbers ((row.the_row.coded).code other) [])

pub row_cmp-total : IsTotalOrder row_cmp
unfolding row_cmp
row_cmp-total = on_total (λ (own : Row). numbers ((row.the_row.coded).code own) []) nat_list_cmp_total

pub row_cmp-same : IsAntisymmetric row_cmp
unfolding row_cmp
row_cmp-same one other tied =
    (row.the_row.coded).inj one other (one_code ((row.the_row.coded).code one) ((row.the_row.coded).code other) [] [] (slice_cmp-IsAntisymmetric nat_cmp-IsAntisymmetric _ _ tied)).0

-- a set of rows
abbrev pub Rows : Type 0
Rows = set.FinSet row_cmp
