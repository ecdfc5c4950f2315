-- Paths in their order are orderly: none that stands beneath a network comes behind its executive, and those
-- beneath it stand side by side.
use Rattle.std.proofs.Common.{◌≡◌, ℕ, ◌&&◌, Bool, true, false, List, [], ◌∷◌, drop, Option, Some, None, refl, sym, ◌∙◌, ap, subst, codes}
use Rattle.std.proofs.lemmas.Slice.Eq.{bytes_eq-Decides}
use Rattle.std.specs.Cmp.{IsTotalOrder}
use Rattle.std.specs.Cmp.Lexicographic.{slice_cmp}
use Rattle.std.specs.List.{AllByRecursion}
use Rattle.std.specs.List.Sorted.{IsStrictlySortedBy}
use Rattle.std.specs.Option.{option_cmp}
use Rattle.std.specs.Ordering.{bool_cmp, is_eq, nat_cmp, ordering_reverse, ordering_then}
use Rattle.std.specs.Prelude.{if◌then◌else◌, is_none}
use Rattle.std.specs.Str.{bytes_eq}
use Rattle.std.specs.declared.cmp.Ordering.{Ordering}
use Rattle.std.specs.declared.cmp.Ordering.TheVariants.{Less, Equal, Greater}
use Rattle.dsde_values.specs.declared.name.Name.{Name}
use Rattle.dsde_values.specs.declared.path.Path.{Path}
use Rattle.dsde_values.specs.Path.{EXEC, IsPath, are_below, is_component, is_executive, is_path, is_plain, name_cmp, path_cmp, root}
use Rattle.dsde_structure.specs.Gather.{is_same_name}
use Rattle.dsde_sim_movers.specs.Places.{begin_with}
use Rattle.dsde_sim_movers.specs.Movers.{Seat, seat_of}
use Rattle.dsde_sim_movers.specs.lemmas.Named.{same_name}
use Rattle.dsde_sim_movers.specs.Orders.{is_over}
use Rattle.dsde_drawing.specs.Drawing.{IsOrderly, IsPassed}
use Rattle.dsde_order.proofs.Seats.{exec-same}

-- Behind the first name of a path: each but the last is a component's.
abbrev Below : List Name → Type 0
Below [] = Unit {0}
Below (name ∷ []) = Unit {0}
Below (name ∷ next ∷ names) = (is_same_name EXEC name ≡ false) × Below (next ∷ names)

-- names of an executive, beneath whose network others stand
abbrev over : List Name → List Name → Bool
over [] others = false
over (name ∷ []) others = is_same_name EXEC name
over (name ∷ next ∷ names) [] = false
over (name ∷ next ∷ names) (other ∷ others) = is_same_name name other && over (next ∷ names) others

abbrev is_above : List Name → List Name → Bool
is_above own other = (seat_of own).is_boss && begin_with (seat_of own).names (seat_of other).names

and-false : (b : Bool) → (b && false) ≡ false
and-false true = refl
and-false false = refl

and-swap : (a b c : Bool) → (a && (b && c)) ≡ (b && (a && c))
and-swap true b c = refl
and-swap false true c = refl
and-swap false false c = refl

both : (one later : Bool) → (one && later) ≡ true → (one ≡ true) × (later ≡ true)
both true later is = (refl, is)
both false later is = absurd (let e : false ≡ true = is in cc)

below-more : (name : Name) (names : List Name) → Below (name ∷ names) → Below names
below-more name [] below = tt
below-more name (next ∷ names) below = below.1

is-equal : (order : Ordering) → is_eq order ≡ true → order ≡ Equal
is-equal Less is = absurd (let e : false ≡ true = is in cc)
is-equal Equal is = refl
is-equal Greater is = absurd (let e : false ≡ true = is in cc)

one-seat : (name : Name) (others : List Name) (here : Bool) →
    (let seat : Seat = if here then record { names = []; is_boss = true } else record { names = name ∷ []; is_boss = false } in (seat.is_boss && begin_with seat.names others) ≡ here)
one-seat name others true = refl
one-seat name others false = refl

module _ (total : IsTotalOrder name_cmp) (exact : (name other : Name) → is_same_name name other ≡ true → name ≡ other) where
  -- a component's name is no executive's
  not-same : (name other : Name) → is_same_name EXEC name ≡ false → is_same_name EXEC other ≡ true → is_same_name name other ≡ false
  not-same name other component boss = by_case (is_same_name name other) refl
    where
      by_case : (here : Bool) → is_same_name name other ≡ here → is_same_name name other ≡ false
      by_case false is = is
      by_case true is = absurd (let e : false ≡ true = sym component ∙ ap (is_same_name EXEC) (exact name other is) ∙ boss in cc)

  last-seat : (name : Name) (seat : Seat) (other : Name) (rest : Bool) → is_same_name EXEC name ≡ false → (seat.is_boss && begin_with seat.names []) ≡ rest → (here : Bool) → is_same_name EXEC other ≡ here →
      (let last : Seat = if here then record { names = []; is_boss = true } else record { names = other ∷ []; is_boss = false } in
      (seat.is_boss && begin_with (name ∷ seat.names) last.names) ≡ (is_same_name name other && rest))
  last-seat name seat other rest component is true boss = and-false seat.is_boss ∙ ap (λ (b : Bool). b && rest) (sym (not-same name other component boss))
  last-seat name seat other rest component is false boss = and-swap seat.is_boss (is_same_name name other) (begin_with seat.names []) ∙ ap (λ (b : Bool). is_same_name name other && b) is

  above-over : (own other : List Name) → Below own → Below other → is_above own other ≡ over own other
  above-over [] other below beside = refl
  above-over (name ∷ []) other below beside = one-seat name (seat_of other).names (is_same_name EXEC name)
  above-over (name ∷ next ∷ names) [] below beside = and-false (seat_of (next ∷ names)).is_boss
  above-over (name ∷ next ∷ names) (other ∷ []) below beside =
      last-seat name (seat_of (next ∷ names)) other (over (next ∷ names) []) below.0 (above-over (next ∷ names) [] below.1 tt) (is_same_name EXEC other) refl
  above-over (name ∷ next ∷ names) (other ∷ third ∷ others) below beside =
      let seat = seat_of (next ∷ names) in
      and-swap seat.is_boss (is_same_name name other) (begin_with seat.names (seat_of (third ∷ others)).names)
      ∙ ap (λ (b : Bool). is_same_name name other && b) (above-over (next ∷ names) (third ∷ others) below.1 beside.1)

  -- an executive's name is the last
  exec-last : (other : Name) → name_cmp EXEC other ≡ Less → ⊥
  exec-last other less = by_case (is_same_name EXEC other) refl
    where
      by_case : (here : Bool) → is_same_name EXEC other ≡ here → ⊥
      by_case true is = let e : true ≡ false = sym is ∙ ap is_eq less in cc e
      by_case false is =
          let plain : is_executive other ≡ false = sym (exec-same total exact other) ∙ is in
          let greater : name_cmp EXEC other ≡ Greater =
          ap (λ (b : Bool). ordering_then (ordering_then (bool_cmp true b) (slice_cmp nat_cmp EXEC.stem other.stem)) (option_cmp nat_cmp None other.index)) plain in
          let e : Greater ≡ Less = sym greater ∙ less in cc e

  boss-behind : (name other : Name) (others : List Name) → is_same_name EXEC name ≡ true → Below (other ∷ others) → (order : Ordering) → name_cmp name other ≡ order → ordering_then order (slice_cmp name_cmp [] others) ≡ Less → ⊥
  boss-behind name other others boss below Less is less = exec-last other (ap (λ (own : Name). name_cmp own other) (exact EXEC name boss) ∙ is)
  boss-behind name other [] boss below Equal is less = cc less
  boss-behind name other (next ∷ others) boss below Equal is less =
      let same : name ≡ other = exact name other (ap is_eq is) in
      let e : true ≡ false = sym boss ∙ ap (is_same_name EXEC) same ∙ below.0 in cc e
  boss-behind name other others boss below Greater is less = cc less

  not-over : (own other : List Name) → Below own → Below other → slice_cmp name_cmp own other ≡ Less → over own other ≡ false
  not-over [] other below beside less = refl
  not-over (name ∷ []) other below beside less = by_case (is_same_name EXEC name) refl other beside less
    where
      by_case : (here : Bool) → is_same_name EXEC name ≡ here → (other : List Name) → Below other → slice_cmp name_cmp (name ∷ []) other ≡ Less → is_same_name EXEC name ≡ false
      by_case false is other beside less = is
      by_case true is [] beside less = absurd (cc less)
      by_case true is (other ∷ others) beside less = absurd (boss-behind name other others is beside (name_cmp name other) refl less)
  not-over (name ∷ next ∷ names) [] below beside less = refl
  not-over (name ∷ next ∷ names) (other ∷ others) below beside less =
      by_order (name_cmp name other) refl less (not-over (next ∷ names) others below.1 (below-more other others beside))
    where
      by_order : (order : Ordering) → name_cmp name other ≡ order → ordering_then order (slice_cmp name_cmp (next ∷ names) others) ≡ Less →
          (slice_cmp name_cmp (next ∷ names) others ≡ Less → over (next ∷ names) others ≡ false) → (is_eq (name_cmp name other) && over (next ∷ names) others) ≡ false
      by_order Less is less later = ap (λ (o : Ordering). is_eq o && over (next ∷ names) others) is
      by_order Equal is less later = ap (λ (o : Ordering). is_eq o && over (next ∷ names) others) is ∙ later less
      by_order Greater is less later = ap (λ (o : Ordering). is_eq o && over (next ∷ names) others) is

  tied : (name : Name) → name_cmp name name ≡ Equal
  tied name = is-equal (name_cmp name name) (same_name total name)

  over-between : (other one next : List Name) → over other one ≡ true → slice_cmp name_cmp one next ≡ Less → slice_cmp name_cmp next other ≡ Less → over other next ≡ true
  over-between [] one next above first later = absurd (let e : false ≡ true = above in cc)
  over-between (name ∷ []) one next above first later = above
  over-between (name ∷ third ∷ names) [] next above first later = absurd (let e : false ≡ true = above in cc)
  over-between (name ∷ third ∷ names) (own ∷ one) [] above first later = absurd (cc first)
  over-between (name ∷ third ∷ names) (own ∷ one) (other ∷ next) above first later =
      let parts = both (is_same_name name own) (over (third ∷ names) one) above in
      let same : name ≡ own = exact name own parts.0 in
      by_order (name_cmp name other) refl
      (subst (λ (n : Name). ordering_then (name_cmp n other) (slice_cmp name_cmp one next) ≡ Less) (sym same) first) later
      (over-between (third ∷ names) one next parts.1)
    where
      by_order : (order : Ordering) → name_cmp name other ≡ order → ordering_then (name_cmp name other) (slice_cmp name_cmp one next) ≡ Less →
          ordering_then (name_cmp other name) (slice_cmp name_cmp next (third ∷ names)) ≡ Less →
          (slice_cmp name_cmp one next ≡ Less → slice_cmp name_cmp next (third ∷ names) ≡ Less → over (third ∷ names) next ≡ true) → (is_same_name name other && over (third ∷ names) next) ≡ true
      by_order Less is first later within =
          let back : name_cmp other name ≡ Greater = total.antisymm other name ∙ ap ordering_reverse is in
          let e : Greater ≡ Less = ap (λ (o : Ordering). ordering_then o (slice_cmp name_cmp next (third ∷ names))) (sym back) ∙ later in absurd (cc e)
      by_order Equal is first later within =
          let same : name ≡ other = exact name other (ap is_eq is) in
          let back : name_cmp other name ≡ Equal = ap (λ (n : Name). name_cmp n name) (sym same) ∙ tied name in
          ap (λ (b : Bool). b && over (third ∷ names) next) (ap is_eq is)
          ∙ within (ap (λ (o : Ordering). ordering_then o (slice_cmp name_cmp one next)) (sym is) ∙ first)
          (ap (λ (o : Ordering). ordering_then o (slice_cmp name_cmp next (third ∷ names))) (sym back) ∙ later)
      by_order Greater is first later within =
          let e : Greater ≡ Less = ap (λ (o : Ordering). ordering_then o (slice_cmp name_cmp one next)) (sym is) ∙ first in absurd (cc e)

  -- what a path's names are
  index-none : (index : Option ℕ) → is_none index ≡ true → index ≡ None
  index-none None is = refl
  index-none (Some index) is = absurd (let e : false ≡ true = is in cc)

  plain-is : (word : List ℕ) (name : Name) → is_plain word name ≡ true → name ≡ record { stem = word; index = None }
  plain-is word name is =
      let parts = both (bytes_eq name.stem word) (is_none name.index) is in
      λ i. record { stem = (bytes_eq-Decides name.stem word).0 parts.0 i; index = index-none name.index parts.1 i }

  component : (name : Name) → is_component name ≡ true → is_same_name EXEC name ≡ false
  component name is = by_case (is_same_name EXEC name) refl
    where
      by_case : (here : Bool) → is_same_name EXEC name ≡ here → is_same_name EXEC name ≡ false
      by_case false same = same
      by_case true same = absurd (let e : is_component EXEC ≡ true = ap is_component (exact EXEC name same) ∙ is in cc e)

  below-by : (names : List Name) → are_below names ≡ true → Below names
  below-by [] is = tt
  below-by (name ∷ []) is = tt
  below-by (name ∷ next ∷ names) is = let parts = both (is_component name) (are_below (next ∷ names)) is in (component name parts.0, below-by (next ∷ names) parts.1)

  behind : (names : List Name) → is_path names ≡ true → Below (drop 1 names)
  behind [] is = absurd (let e : false ≡ true = is in cc)
  behind (name ∷ names) is = below-by names (both (is_plain (codes "root") name) (are_below names) is).1

  before-behind : (names others : List Name) → is_path names ≡ true → is_path others ≡ true → slice_cmp name_cmp names others ≡ Less → slice_cmp name_cmp (drop 1 names) (drop 1 others) ≡ Less
  before-behind [] others is own less = absurd (let e : false ≡ true = is in cc)
  before-behind (name ∷ names) [] is own less = absurd (let e : false ≡ true = own in cc)
  before-behind (name ∷ names) (other ∷ others) is own less =
      let one = plain-is (codes "root") name (both (is_plain (codes "root") name) (are_below names) is).0 in
      let two = plain-is (codes "root") other (both (is_plain (codes "root") other) (are_below others) own).0 in
      let same : name_cmp name other ≡ Equal = ap (name_cmp name) (two ∙ sym one) ∙ tied name in
      ap (λ (o : Ordering). ordering_then o (slice_cmp name_cmp names others)) (sym same) ∙ less

  no-over : (own other : Path) → IsPath own → IsPath other → path_cmp own other ≡ Less → is_over root own other ≡ false
  no-over own other is beside less =
      above-over (drop 1 own.names) (drop 1 other.names) (behind own.names is) (behind other.names beside)
      ∙ not-over (drop 1 own.names) (drop 1 other.names) (behind own.names is) (behind other.names beside) (before-behind own.names other.names is beside less)

  all-between : (other one next : Path) → IsPath other → IsPath one → IsPath next → path_cmp one next ≡ Less → path_cmp next other ≡ Less → is_over root other one ≡ true → is_over root other next ≡ true
  all-between other one next is_other is_one is_next first later above =
      let at = behind other.names is_other in
      above-over (drop 1 other.names) (drop 1 next.names) at (behind next.names is_next)
      ∙ over-between (drop 1 other.names) (drop 1 one.names) (drop 1 next.names) (sym (above-over (drop 1 other.names) (drop 1 one.names) at (behind one.names is_one)) ∙ above)
      (before-behind one.names next.names is_one is_next first) (before-behind next.names other.names is_next is_other later)

  none-over : (own : Path) (paths : List Path) → IsPath own → AllByRecursion IsPath paths → AllByRecursion (λ other. path_cmp own other ≡ Less) paths → AllByRecursion (λ other. is_over root own other ≡ false) paths
  none-over own [] is are less = tt
  none-over own (other ∷ paths) is are less = (no-over own other is are.0 less.0, none-over own paths is are.1 less.1)

  between : (one next : Path) (paths : List Path) → IsPath one → IsPath next → AllByRecursion IsPath paths → path_cmp one next ≡ Less → AllByRecursion (λ other. path_cmp next other ≡ Less) paths →
      AllByRecursion (λ other. is_over root other one ≡ true → is_over root other next ≡ true) paths
  between one next [] is_one is_next are first later = tt
  between one next (other ∷ paths) is_one is_next are first later =
      (all-between other one next are.0 is_one is_next first later.0, between one next paths is_one is_next are.1 first later.1)

  passed : (one : Path) (paths : List Path) → IsPath one → AllByRecursion IsPath paths → AllByRecursion (λ other. path_cmp one other ≡ Less) paths → IsStrictlySortedBy path_cmp paths → IsPassed (is_over root) one paths
  unfolding IsStrictlySortedBy
  passed one [] is are less sorted = tt
  passed one (next ∷ paths) is are less sorted = (between one next paths is are.0 are.1 less.0 sorted.0, passed one paths is are.1 less.1 sorted.1)

  pub orderly : (paths : List Path) → AllByRecursion IsPath paths → IsStrictlySortedBy path_cmp paths → IsOrderly (is_over root) paths
  unfolding IsStrictlySortedBy
  orderly [] are sorted = tt
  orderly (own ∷ paths) are sorted = (none-over own paths are.0 are.1 sorted.0, passed own paths are.0 are.1 sorted.0 sorted.1, orderly paths are.1 sorted.1)
