-- The links with an end at a part serve for all, where nothing comes of the others.
use Rattle.std.proofs.Common.{◌≡◌, ℕ, zero, suc, ◌+◌, ◌<◌, ◌≤◌, get_or, drop, arith, append-nil, Bool, true, false, if◌then◌else◌, List, [], ◌∷◌, ◌++◌, length, slice_get, refl, sym, ap, ◌∙◌, append_assoc, length-append, Option, Some, None}
use Rattle.std.specs.List.{flat_map, enumerate_from}
use Rattle.dsde_routes_wiring.specs.given.structure.plan_Link.{Link}
use Rattle.dsde_routes_wiring.specs.given.structure.plan_Part.{Part}
use Rattle.dsde_routes_wiring.specs.given.structure.Gather.{is_part}
use Rattle.dsde_routes_wiring.specs.declared.side.Side.{Side}
use Rattle.dsde_routes_wiring.specs.Side.{near}
use Rattle.dsde_routes_wiring.specs.Numbers.{number_if, numbers_at}
use Rattle.dsde_repair_walks.specs.Walks.{link_at}

get-middle : (before : List Link) (link : Link) (after : List Link) → slice_get (before ++ link ∷ after) (length before) ≡ Some link
get-middle [] link after = refl
get-middle (own ∷ before) link after = get-middle before link after

no-link : (links : List Link) (number : ℕ) → length links ≤ number → slice_get links number ≡ None
no-link [] zero le = refl
no-link [] (suc number) le = refl
no-link (link ∷ links) zero le = absurd (omega arith)
no-link (link ∷ links) (suc number) le = no-link links number (omega arith)

one-link : (links : List Link) (number : ℕ) (link : Link) → number < length links → link ≡ get_or links number link → slice_get links number ≡ Some link
one-link [] number link lt is = absurd (omega arith)
one-link (own ∷ links) zero link lt is = ap Some (sym is)
one-link (own ∷ links) (suc number) link lt is = one-link links number link (omega arith) is

-- what comes of a link that was looked for by its number
pub link-none : {X : Type 0} (each : ℕ × Link → List X) (links : List Link) (number : ℕ) → length links ≤ number → link_at each links number ≡ []
link-none each links number le = ap (λ (found : Option Link). elim found [ None ↦ [] | Some link ↦ each (number, link) ]) (no-link links number le)

pub link-some : {X : Type 0} (each : ℕ × Link → List X) (links : List Link) (number : ℕ) (link : Link) → number < length links → link ≡ get_or links number link → link_at each links number ≡ each (number, link)
link-some each links number link lt is = ap (λ (found : Option Link). elim found [ None ↦ [] | Some own ↦ each (number, own) ]) (one-link links number link lt is)

drop-all : {X : Type 0} (xs : List X) (n : ℕ) → length xs ≤ n → drop n xs ≡ []
drop-all [] zero le = refl
drop-all [] (suc n) le = refl
drop-all (x ∷ xs) zero le = absurd (omega arith)
drop-all (x ∷ xs) (suc n) le = drop-all xs n (omega arith)

-- what a walk over numbers added, when it is done
pub numbers-done : {X : Type 0} (each : ℕ → List X) (numbers : List ℕ) (index : ℕ) (items first : List X) → length numbers ≤ index → items ++ flat_map each (drop index numbers) ≡ first ++ flat_map each numbers → items ≡ first ++ flat_map each numbers
numbers-done each numbers index items first le kept = sym (append-nil items) ∙ ap (λ later. items ++ flat_map each later) (sym (drop-all numbers index le)) ∙ kept

module _ {X : Type 0} (side : Side) (own : Part) (each : ℕ × Link → List X) (none : (number : ℕ) (link : Link) → is_part (near side link).part own ≡ false → each (number, link) ≡ []) where
  from : (before links : List Link) (number : ℕ) → length before ≡ number →
      flat_map each (enumerate_from number links) ≡ flat_map (link_at each (before ++ links)) (flat_map (number_if side own) (enumerate_from number links))
  from before [] number is = refl
  from before (link ∷ links) number is =
      ap (λ later. each (number, link) ++ later)
      (from (before ++ link ∷ []) links (number + 1) (length-append before (link ∷ []) ∙ ap (λ n. n + 1) is)
      ∙ ap (λ whole. flat_map (link_at each whole) (flat_map (number_if side own) (enumerate_from (number + 1) links))) (append_assoc before (link ∷ []) links))
      ∙ by (is_part (near side link).part own) refl
    where
      here : link_at each (before ++ link ∷ links) number ≡ each (number, link)
      here = ap (λ (found : Option Link). elim found [ None ↦ [] | Some one ↦ each (number, one) ]) (ap (slice_get (before ++ link ∷ links)) (sym is) ∙ get-middle before link links)

      by : (test : Bool) → is_part (near side link).part own ≡ test →
          each (number, link) ++ flat_map (link_at each (before ++ link ∷ links)) (flat_map (number_if side own) (enumerate_from (number + 1) links))
          ≡ flat_map (link_at each (before ++ link ∷ links)) ((if test then number ∷ [] else []) ++ flat_map (number_if side own) (enumerate_from (number + 1) links))
      by true same = ap (λ first. first ++ flat_map (link_at each (before ++ link ∷ links)) (flat_map (number_if side own) (enumerate_from (number + 1) links))) (sym here)
      by false same = ap (λ first. first ++ flat_map (link_at each (before ++ link ∷ links)) (flat_map (number_if side own) (enumerate_from (number + 1) links))) (none number link same)

  pub few-serve : (links : List Link) → flat_map each (enumerate_from 0 links) ≡ flat_map (link_at each links) (numbers_at side own links)
  few-serve links = from [] links 0 refl
