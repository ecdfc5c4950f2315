-- Items that are left when one is taken out.
use Rattle.std.proofs.Common.{◌≡◌, ◌≢◌, ℕ, suc, ◌+◌, ◌-◌, ◌<◌, ◌≤◌, ◌%◌, Bool, true, false, List, [], ◌∷◌, ◌++◌, length, Option, Some, None, refl, sym, ◌∙◌, ap, subst, arith, append_assoc, append-nil, length-append}
use Rattle.std.specs.List.{AllByRecursion, remove}
use Rattle.std.specs.Prelude.{slice_index_or}
use Rattle.std.proofs.lemmas.Option.{slice_get-get_or, slice_get_within}
use Rattle.rand_pcg.specs.Lcg.{Lcg}
use Rattle.rand_pcg.specs.Pcg.{pcg32}
use Rattle.dsde_drawing.specs.Words.{behind, next_words}
use Rattle.dsde_drawing.specs.Drawing.{Pick, ready, IsPassed, IsOrderly, clear, drawn, Draws}
use Rattle.dsde_drawing.proofs.Clear.{clear-are-ready, as-many, found-at}

module _ {A : Type 0} (waits : A → A → Bool) where
  all-drop : (P : A → Type 0) (before : List A) (own : A) (after : List A) → AllByRecursion P (before ++ own ∷ after) → AllByRecursion P (before ++ after)
  all-drop P [] own after all = all.1
  all-drop P (other ∷ before) own after all = (all.0, all-drop P before own after all.1)

  passed-drop : (one : A) (before : List A) (own : A) (after : List A) → IsPassed waits one (before ++ own ∷ after) → IsPassed waits one (before ++ after)
  passed-drop one [] own after passed = passed.1
  passed-drop one (next ∷ before) own after passed = (all-drop (λ other. waits other one ≡ true → waits other next ≡ true) before own after passed.0, passed-drop one before own after passed.1)

  pub orderly-drop : (before : List A) (own : A) (after : List A) → IsOrderly waits (before ++ own ∷ after) → IsOrderly waits (before ++ after)
  orderly-drop [] own after orderly = orderly.2
  orderly-drop (other ∷ before) own after orderly =
      (all-drop (λ one. waits other one ≡ false) before own after orderly.0, passed-drop other before own after orderly.1, orderly-drop before own after orderly.2)

  -- the next draw
  pub drawn-next : (count : ℕ) (left : List A) (word : ℕ) (words : List ℕ) (own : A) (others : List A) → left ≢ [] → Draws waits left word own others →
      drawn waits (suc count) left (word ∷ words) ≡ own ∷ drawn waits count others words
  drawn-next count [] word words own others some draws = absurd (some refl)
  drawn-next count (first ∷ left) word words own others some draws =
      ap (λ (found : Option (Pick A)). let order : List A = elim found [ Some pick ↦ pick.own ∷ drawn waits count pick.others words | None ↦ [] ] in order) draws

  -- one draw more, of those that remain
  pub draws-more : (order left others : List A) (own : A) (count : ℕ) (generator : Lcg) (whole : List A) → left ≢ [] → Draws waits left (pcg32 generator).0 own others →
      order ++ drawn waits (suc count) left (next_words (suc count) generator) ≡ whole → (order ++ own ∷ []) ++ drawn waits count others (next_words count (pcg32 generator).1) ≡ whole
  draws-more order left others own count generator whole some draws is =
      append_assoc order (own ∷ []) (drawn waits count others (next_words count (pcg32 generator).1))
      ∙ ap (λ (list : List A). order ++ list) (sym (drawn-next count left (pcg32 generator).0 (next_words count (pcg32 generator).1) own others some draws)) ∙ is

  -- what a draw leaves
  pub draws-leaves : (left others : List A) (own : A) (word : ℕ) → IsOrderly waits left → left ≢ [] → Draws waits left word own others → IsOrderly waits others × (length left ≡ suc (length others))
  draws-leaves left others own word orderly some draws =
      let number = word % length (ready waits left) in
      let places = clear waits None 0 left in
      let are = clear-are-ready waits left orderly in
      let counted = as-many waits left (ready waits left) places are in
      let within : number < length places = subst (λ (n : ℕ). number < n) counted (slice_get_within (ready waits left) number (record { own = own; others = others }) draws) in
      let found = found-at waits left (ready waits left) places are number (slice_index_or places number 0) (slice_get-get_or places number 0 within) in
      let same : found.pick ≡ record { own = own; others = others } = cc (found.there, draws) in
      let is = found.is in
      let rest : others ≡ is.before ++ is.after = subst (λ (pick : Pick A). pick.others ≡ is.before ++ is.after) same is.others in
      let one : length left ≡ length is.before + suc (length is.after) = ap (λ (list : List A). length list) is.is ∙ length-append is.before (found.pick.own ∷ is.after) in
      let two : length others ≡ length is.before + length is.after = ap length rest ∙ length-append is.before is.after in (
        subst (IsOrderly waits) (sym rest) (orderly-drop is.before found.pick.own is.after (subst (IsOrderly waits) is.is orderly)),
        omega (arith, one, two),
      )

pub remove-seam : {A : Type 0} (before : List A) (own : A) (after : List A) → remove (before ++ own ∷ after) (length before) ≡ before ++ after
remove-seam [] own after = refl
remove-seam (other ∷ before) own after = ap (λ list. other ∷ list) (remove-seam before own after)

pub index-seam : {A : Type 0} (before : List A) (own : A) (after : List A) (other : A) → slice_index_or (before ++ own ∷ after) (length before) other ≡ own
index-seam [] own after other = refl
index-seam (one ∷ before) own after other = index-seam before own after other

module _ {A : Type 0} (waits : A → A → Bool) where
  pub draws-on : (order left others pushed : List A) (own : A) (n i : ℕ) (words after : Lcg) (whole : List A) → i < n → left ≢ [] → Draws waits left (pcg32 words).0 own others → after ≡ (pcg32 words).1 →
      pushed ≡ order ++ own ∷ [] → order ++ drawn waits (n - i) left (next_words (n - i) words) ≡ whole → pushed ++ drawn waits (n - (i + 1)) others (next_words (n - (i + 1)) after) ≡ whole
  draws-on order left others pushed own n i words after whole within some draws next push is =
      let m = n - (i + 1) in
      let more : n - i ≡ suc m = omega arith in
      let here : order ++ drawn waits (suc m) left (next_words (suc m) words) ≡ whole = subst (λ (k : ℕ). order ++ drawn waits k left (next_words k words) ≡ whole) more is in
      subst (λ (list : List A). list ++ drawn waits m others (next_words m after) ≡ whole) (sym push)
      (subst (λ (generator : Lcg). (order ++ own ∷ []) ++ drawn waits m others (next_words m generator) ≡ whole) (sym next) (draws-more waits order left others own m words whole some draws here))

  pub draws-end : (order left : List A) (n i : ℕ) (words : Lcg) (whole : List A) → n ≤ i → order ++ drawn waits (n - i) left (next_words (n - i) words) ≡ whole → order ≡ whole
  draws-end order left n i words whole end is =
      let none : n - i ≡ 0 = omega arith in
      sym (append-nil order) ∙ subst (λ (k : ℕ). order ++ drawn waits k left (next_words k words) ≡ whole) none is

pub behind-on : (n i : ℕ) (words after whole : Lcg) → i < n → after ≡ (pcg32 words).1 → behind (n - i) words ≡ whole → behind (n - (i + 1)) after ≡ whole
behind-on n i words after whole within next is =
    let more : n - i ≡ suc (n - (i + 1)) = omega arith in
    ap (behind (n - (i + 1))) next ∙ subst (λ (k : ℕ). behind k words ≡ whole) more is

pub behind-end : (n i : ℕ) (words whole : Lcg) → n ≤ i → behind (n - i) words ≡ whole → words ≡ whole
behind-end n i words whole end is =
    let none : n - i ≡ 0 = omega arith in
    subst (λ (k : ℕ). behind k words ≡ whole) none is
