-- Of items of which each waits for none later, and for all between it and one it waits for, those are ready
-- that do not wait for the one before them.
use Rattle.std.proofs.Common.{◌≡◌, ℕ, zero, suc, ◌&&◌, not, Bool, true, false, List, [], ◌∷◌, ◌++◌, length, map, filter, cond, Option, Some, None, IfSome, refl, sym, ◌∙◌, ap, subst, arith, append_assoc, length-append}
use Rattle.std.specs.List.{AllByRecursion, list_all, slice_get}
use Rattle.dsde_drawing.specs.Drawing.{Pick, more, picks, is_ready, ready, IsPassed, IsOrderly, is_clear, clear}

module _ {A : Type 0} (waits : A → A → Bool) where
  -- each of the later ones, with those before it and behind it
  abbrev picks_behind : List A → List A → List (Pick A)
  picks_behind front [] = []
  picks_behind front (own ∷ later) = record { own = own; others = front ++ later } ∷ picks_behind (front ++ own ∷ []) later

  abbrev behind_front : List A → Pick A → Pick A
  behind_front front pick = record { own = pick.own; others = front ++ pick.others }

  more-behind : (front : List A) (own : A) (list : List (Pick A)) → map (behind_front front) (map (more own) list) ≡ map (behind_front (front ++ own ∷ [])) list
  more-behind front own [] = refl
  more-behind front own (pick ∷ list) =
      λ i. record { own = pick.own; others = sym (append_assoc front (own ∷ []) pick.others) i } ∷ more-behind front own list i

  picks-behind : (front later : List A) → picks_behind front later ≡ map (behind_front front) (picks later)
  picks-behind front [] = refl
  picks-behind front (own ∷ later) = λ i. record { own = own; others = front ++ later } ∷ (picks-behind (front ++ own ∷ []) later ∙ sym (more-behind front own (picks later))) i

  none-front : (list : List (Pick A)) → map (behind_front []) list ≡ list
  none-front [] = refl
  none-front (pick ∷ list) = λ i. pick ∷ none-front list i

  -- the number is the place of the pick in the whole
  pub record IsAt (whole : List A) (pick : Pick A) (place : ℕ) : Type 0 where
    pub before : List A
    pub after : List A
    pub is : whole ≡ before ++ pick.own ∷ after
    pub others : pick.others ≡ before ++ after
    pub at : length before ≡ place

  abbrev pub AreAt : List A → List (Pick A) → List ℕ → Type 0
  AreAt whole [] [] = Unit {0}
  AreAt whole [] (place ∷ places) = ⊥
  AreAt whole (pick ∷ list) [] = ⊥
  AreAt whole (pick ∷ list) (place ∷ places) = IsAt whole pick place × AreAt whole list places

  -- it waits for none of a list
  abbrev is_free : List A → A → Bool
  is_free front own = list_all (λ other. not (waits own other)) front

  all-append : (test : A → Bool) (front later : List A) → list_all test (front ++ later) ≡ (list_all test front && list_all test later)
  all-append test [] later = refl
  all-append test (own ∷ front) later = by_case (test own) (all-append test front later)
    where
      by_case : (here : Bool) → list_all test (front ++ later) ≡ (list_all test front && list_all test later) →
          (here && list_all test (front ++ later)) ≡ ((here && list_all test front) && list_all test later)
      by_case true is = is
      by_case false is = refl

  and-true : (b : Bool) → (b && true) ≡ b
  and-true true = refl
  and-true false = refl

  none-later : (own : A) (later : List A) → AllByRecursion (λ other. waits own other ≡ false) later → is_free later own ≡ true
  none-later own [] none = refl
  none-later own (other ∷ later) none = (λ i. not (none.0 i) && is_free later own) ∙ none-later own later none.1

  -- whether one is ready shows at the one before it
  ready-here : (front : List A) (before : Option A) (own : A) (later : List A) → is_free front own ≡ is_clear waits before own → AllByRecursion (λ other. waits own other ≡ false) later →
      is_ready waits (record { own = own; others = front ++ later }) ≡ is_clear waits before own
  ready-here front before own later same none =
      all-append (λ other. not (waits own other)) front later
      ∙ ap (λ (b : Bool). is_free front own && b) (none-later own later none)
      ∙ and-true (is_free front own) ∙ same

  -- who waits for the one before waits for this one
  abbrev Passes : Option A → List A → Type 0
  Passes before later = IfSome before (λ one. IsPassed waits one later)

  abbrev Shows : List A → Option A → List A → Type 0
  Shows front before later = AllByRecursion (λ own. is_free front own ≡ is_clear waits before own) later

  shows-one : (front : List A) (before : Option A) (own other : A) → is_free front other ≡ is_clear waits before other → IfSome before (λ one. waits other one ≡ true → waits other own ≡ true) →
      is_free (front ++ own ∷ []) other ≡ not (waits other own)
  shows-one front before own other same passes =
      all-append (λ third. not (waits other third)) front (own ∷ []) ∙ (λ i. same i && (not (waits other own) && true)) ∙ by_before before passes
    where
      by_both : (far near : Bool) → (far ≡ true → near ≡ true) → (not far && (not near && true)) ≡ not near
      by_both true true passes = refl
      by_both true false passes = absurd (let e : false ≡ true = passes refl in cc)
      by_both false true passes = refl
      by_both false false passes = refl

      by_before : (before : Option A) → IfSome before (λ one. waits other one ≡ true → waits other own ≡ true) → (is_clear waits before other && (not (waits other own) && true)) ≡ not (waits other own)
      by_before None passes = and-true (not (waits other own))
      by_before (Some one) passes = by_both (waits other one) (waits other own) passes

  shows-next : (front : List A) (before : Option A) (own : A) (later : List A) → Shows front before later → IfSome before (λ one. AllByRecursion (λ other. waits other one ≡ true → waits other own ≡ true) later) →
      Shows (front ++ own ∷ []) (Some own) later
  shows-next front before own [] shows passes = tt
  shows-next front None own (other ∷ later) shows passes = (shows-one front None own other shows.0 tt, shows-next front None own later shows.1 tt)
  shows-next front (Some one) own (other ∷ later) shows passes = (shows-one front (Some one) own other shows.0 passes.0, shows-next front (Some one) own later shows.1 passes.1)

  passes-head : (before : Option A) (own : A) (later : List A) → Passes before (own ∷ later) → IfSome before (λ one. AllByRecursion (λ other. waits other one ≡ true → waits other own ≡ true) later)
  passes-head None own later passes = tt
  passes-head (Some one) own later passes = passes.0

  clear-behind : (front : List A) (before : Option A) (at : ℕ) (later : List A) → length front ≡ at → IsOrderly waits later → Passes before later → Shows front before later →
      AreAt (front ++ later) (filter (is_ready waits) (picks_behind front later)) (clear waits before at later)
  clear-behind front before at [] counted orderly passes shows = tt
  clear-behind front before at (own ∷ later) counted orderly passes shows =
      by_case (is_ready waits (record { own = own; others = front ++ later })) (is_clear waits before own)
      (ready-here front before own later shows.0 orderly.0)
      (subst (λ (whole : List A). AreAt whole (filter (is_ready waits) (picks_behind (front ++ own ∷ []) later)) (clear waits (Some own) (suc at) later)) (append_assoc front (own ∷ []) later)
      (clear-behind (front ++ own ∷ []) (Some own) (suc at) later (length-append front (own ∷ []) ∙ omega (arith, counted)) orderly.2 orderly.1
      (shows-next front before own later shows.1 (passes-head before own later passes))))
    where
      others : List ℕ
      others = clear waits (Some own) (suc at) later

      rest : List (Pick A)
      rest = filter (is_ready waits) (picks_behind (front ++ own ∷ []) later)

      by_case : (here is : Bool) → here ≡ is → AreAt (front ++ own ∷ later) rest others →
          (let places : List ℕ = elim is [ true ↦ at ∷ others | false ↦ others ] in AreAt (front ++ own ∷ later) (cond here (record { own = own; others = front ++ later } ∷ rest) rest) places)
      by_case true true same are = (record { before = front; after = later; is = refl; others = refl; at = counted }, are)
      by_case false false same are = are
      by_case true false same are = absurd (cc same)
      by_case false true same are = absurd (cc same)

  all-shown : (list : List A) → Shows [] None list
  all-shown [] = tt
  all-shown (own ∷ later) = (refl, all-shown later)

  pub clear-are-ready : (left : List A) → IsOrderly waits left → AreAt left (ready waits left) (clear waits None 0 left)
  clear-are-ready left orderly =
      subst (λ (list : List (Pick A)). AreAt left (filter (is_ready waits) list) (clear waits None 0 left)) (picks-behind [] left ∙ none-front (picks left))
      (clear-behind [] None 0 left refl orderly tt (all-shown left))

  pub as-many : (whole : List A) (list : List (Pick A)) (places : List ℕ) → AreAt whole list places → length list ≡ length places
  as-many whole [] [] are = refl
  as-many whole [] (place ∷ places) are = absurd are
  as-many whole (pick ∷ list) [] are = absurd are
  as-many whole (pick ∷ list) (place ∷ places) are = ap suc (as-many whole list places are.1)

  pub record Found (whole : List A) (list : List (Pick A)) (number place : ℕ) : Type 0 where
    pub pick : Pick A
    pub there : slice_get list number ≡ Some pick
    pub is : IsAt whole pick place

  pub found-at : (whole : List A) (list : List (Pick A)) (places : List ℕ) → AreAt whole list places → (number place : ℕ) → slice_get places number ≡ Some place → Found whole list number place
  found-at whole [] [] are number place there = absurd (cc there)
  found-at whole [] (one ∷ places) are number place there = absurd are
  found-at whole (pick ∷ list) [] are number place there = absurd are
  found-at whole (pick ∷ list) (one ∷ places) are zero place there =
      let same : one ≡ place = cc there in
      record { pick = pick; there = refl; is = subst (IsAt whole pick) same are.0 }
  found-at whole (pick ∷ list) (one ∷ places) are (suc number) place there =
      let rest = found-at whole list places are.1 number place there in
      record { pick = rest.pick; there = rest.there; is = rest.is }
