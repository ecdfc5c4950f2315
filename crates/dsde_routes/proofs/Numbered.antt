-- The ways at a port are those of its numbers.
use Rattle.std.proofs.Common.{◌≡◌, ℕ, zero, suc, ◌+◌, ◌<◌, ◌≤◌, Bool, true, false, List, [], ◌∷◌, ◌++◌, map, get_or, length, slice_get, refl, sym, ap, ◌∙◌, append_assoc, length-append, arith, Option, Some, None, Result, Ok, Err, OnOk, IfOk}
use Rattle.std.specs.Prelude.{◌==◌, filter, if◌then◌else◌}
use Rattle.std.specs.List.{flat_map, enumerate_from}
use Rattle.dsde_routes_wiring.specs.declared.row.Way.{Way}
use Rattle.dsde_routes_wiring.specs.declared.row.Passing.{Passing}
use Rattle.dsde_routes.specs.Passing.{ways_in}
use Rattle.dsde_routes.specs.Ports.{number_if, numbers_at, way_at}

get-middle : (before : List Passing) (passing : Passing) (after : List Passing) → slice_get (before ++ passing ∷ after) (length before) ≡ Some passing
get-middle [] passing after = refl
get-middle (own ∷ before) passing after = get-middle before passing after

abbrev ways_by : ℕ → List Passing → List Way
ways_by port list = map (λ (passing : Passing). passing.way) (filter (λ (passing : Passing). passing.port == port) list)

module _ (port : ℕ) where
  one-more : (whole list : List Passing) (passing : Passing) (numbers : List ℕ) (number : ℕ) (test : Bool) → way_at whole number ≡ passing.way ∷ [] → flat_map (way_at whole) numbers ≡ ways_by port list →
      flat_map (way_at whole) ((if test then number ∷ [] else []) ++ numbers)
      ≡ map (λ (own : Passing). own.way) (if test then passing ∷ filter (λ (own : Passing). own.port == port) list else filter (λ (own : Passing). own.port == port) list)
  one-more whole list passing numbers number true here later = λ i. here i ++ later i
  one-more whole list passing numbers number false here later = later

  from : (before list : List Passing) (number : ℕ) → length before ≡ number →
      flat_map (way_at (before ++ list)) (flat_map (number_if port) (enumerate_from number list)) ≡ ways_by port list
  from before [] number is = refl
  from before (passing ∷ list) number is =
      one-more (before ++ passing ∷ list) list passing (flat_map (number_if port) (enumerate_from (number + 1) list)) number (passing.port == port)
      (ap (λ (found : Option Passing). let ways : List Way = elim found [ None ↦ [] | Some own ↦ own.way ∷ [] ] in ways) (ap (slice_get (before ++ passing ∷ list)) (sym is) ∙ get-middle before passing list))
      (ap (λ whole. flat_map (way_at whole) (flat_map (number_if port) (enumerate_from (number + 1) list))) (sym (append_assoc before (passing ∷ []) list))
      ∙ from (before ++ passing ∷ []) list (number + 1) (length-append before (passing ∷ []) ∙ ap (λ n. n + 1) is))

  pub numbers-serve : (list : List Passing) → flat_map (way_at list) (numbers_at port list) ≡ ways_in list port
  numbers-serve list = from [] list 0 refl

no-item : (list : List Passing) (number : ℕ) → length list ≤ number → slice_get list number ≡ None
no-item [] zero le = refl
no-item [] (suc number) le = refl
no-item (passing ∷ list) zero le = absurd (omega arith)
no-item (passing ∷ list) (suc number) le = no-item list number (omega arith)

one-item : (list : List Passing) (number : ℕ) (passing : Passing) → number < length list → passing ≡ get_or list number passing → slice_get list number ≡ Some passing
one-item [] number passing lt is = absurd (omega arith)
one-item (own ∷ list) zero passing lt is = ap Some (sym is)
one-item (own ∷ list) (suc number) passing lt is = one-item list number passing (omega arith) is

abbrev way_of : Option Passing → List Way
way_of None = []
way_of (Some passing) = passing.way ∷ []

-- what comes of a way that was looked for by its number
pub way-none : (list : List Passing) (number : ℕ) → length list ≤ number → way_at list number ≡ []
way-none list number le = ap way_of (no-item list number le)

pub way-some : (list : List Passing) (number : ℕ) (passing : Passing) → number < length list → passing ≡ get_or list number passing → way_at list number ≡ passing.way ∷ []
way-some list number passing lt is = ap way_of (one-item list number passing lt is)

pub ok-map : {X E : Type 0} (result : Result X E) (P Q : Type 0) → (P → Q) → OnOk result P → OnOk result Q
ok-map (Ok value) P Q gives holds = gives holds
ok-map (Err end) P Q gives holds = tt

pub ok-if : {X E : Type 0} (result : Result X E) (P Q : X → Type 0) → ((value : X) → P value → Q value) → IfOk result P → IfOk result Q
ok-if (Ok value) P Q gives holds = gives value holds
ok-if (Err end) P Q gives holds = tt
