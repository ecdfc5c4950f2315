use Rattle.std.proofs.Common.{◌≡◌, ◌≢◌, ◌<◌, ◌%◌, ℕ, Bool, List, [], ◌∷◌, ◌++◌, None, Some, length, refl, sym, ◌∙◌, ap, subst, arith, mod-lt, length-append}
use Rattle.std.specs.List.{slice_get, remove}
use Rattle.std.specs.Prelude.{slice_index_or}
use Rattle.std.proofs.lemmas.Option.{slice_get-get_or}
use Rattle.rand_pcg.specs.Lcg.{Lcg}
use Rattle.dsde_drawing.specs.Drawing.{Draws, IsOrderly, clear, ready}
use Rattle.dsde_drawing.proofs.Clear.{AreAt, Found, clear-are-ready, as-many, found-at}
use Rattle.dsde_drawing.proofs.Left.{remove-seam, index-seam}
use Rattle.dsde_drawing.proofs.drawing.draw_one.Goals as goal

some-clear : {A : Type 0} (waits : A → A → Bool) (left : List A) → left ≢ [] → 0 < length (clear waits None 0 left)
some-clear waits [] some = absurd (some refl)
some-clear waits (own ∷ left) some = omega arith

-- the number of the word finds one of those that are ready, at its place
found : {A : Type 0} (waits : A → A → Bool) (left : List A) (places : List ℕ) (word count : ℕ) → IsOrderly waits left → places ≡ clear waits None 0 left → count ≡ length places → word % count < length places →
    Found waits left (ready waits left) (word % count) (slice_index_or places (word % count) 0)
found waits left places word count orderly is counted within =
    found-at waits left (ready waits left) places (subst (AreAt waits left (ready waits left)) (sym is) (clear-are-ready waits left orderly)) (word % count) (slice_index_or places (word % count) 0)
    (slice_get-get_or places (word % count) 0 within)

within-seam : {A : Type 0} (before : List A) (own : A) (after : List A) → length before < length (before ++ own ∷ after)
within-seam before own after = let e = length-append before (own ∷ after) in omega (arith, e)

at-within : {A : Type 0} (waits : A → A → Bool) (left : List A) (list : List _) (number place : ℕ) → Found waits left list number place → place < length left
at-within waits left list number place found =
    subst (λ (n : ℕ). n < length left) found.is.at (subst (λ (all : List _). length found.is.before < length all) (sym found.is.is) (within-seam found.is.before found.pick.own found.is.after))

drawn-by : {A : Type 0} (waits : A → A → Bool) (left : List A) (places : List ℕ) (word count place : ℕ) (own : A) (others : List A) → IsOrderly waits left → places ≡ clear waits None 0 left → count ≡ length places →
    word % count < length places → place ≡ slice_index_or places (word % count) 0 → own ≡ slice_index_or left place own → others ≡ remove left place → Draws waits left word own others
drawn-by waits left places word count place own others orderly is counted within at value rest =
    let known = found waits left places word count orderly is counted within in
    let here = known.is in
    let number : count ≡ length (ready waits left) = counted ∙ ap length is ∙ sym (as-many waits left (ready waits left) (clear waits None 0 left) (clear-are-ready waits left orderly)) in
    let seat : length here.before ≡ place = here.at ∙ sym at in
    let same_own : own ≡ known.pick.own =
    value ∙ (λ i. slice_index_or (here.is i) (sym seat i) own) ∙ index-seam here.before known.pick.own here.after own in
    let same_rest : others ≡ known.pick.others =
    rest ∙ (λ i. remove (here.is i) (sym seat i)) ∙ remove-seam here.before known.pick.own here.after ∙ sym here.others in
    subst (λ (n : ℕ). slice_get (ready waits left) (word % n) ≡ Some (record { own = own; others = others })) number
    (known.there ∙ (λ i. Some (record { own = sym same_own i; others = sym same_rest i })))

place-within : {A : Type 0} (waits : A → A → Bool) (left : List A) (places : List ℕ) (word count place : ℕ) → IsOrderly waits left → places ≡ clear waits None 0 left → count ≡ length places → word % count < length places →
    place ≡ slice_index_or places (word % count) 0 → place < length left
place-within waits left places word count place orderly is counted within at =
    subst (λ (n : ℕ). n < length left) (sym at) (at-within waits left (ready waits left) (word % count) (slice_index_or places (word % count) 0) (found waits left places word count orderly is counted within))

below : {A : Type 0} (waits : A → A → Bool) (left : List A) (places : List ℕ) (word count : ℕ) → left ≢ [] → places ≡ clear waits None 0 left → count ≡ length places → word % count < length places
below waits left places word count some is counted =
    let above : 0 < count = subst (λ (n : ℕ). 0 < n) (sym (counted ∙ ap length is)) (some-clear waits left some) in
    subst (λ (n : ℕ). word % count < n) counted (mod-lt word above)

pub nonzero_rem-number : goal.nonzero_rem-number
nonzero_rem-number g c =
    let is = c.in_ok-find_clear.ensures ∙ ap (clear g.T.Waits.waits None 0) c.as_slice.ensures.value in
    subst (λ (n : ℕ). 0 < n) (sym (c.len.ensures ∙ ap length is)) (some-clear g.T.Waits.waits c.args.left.now.items c.requires.some)

pub bounds-as_slice-number : goal.bounds-as_slice-number
bounds-as_slice-number g c =
    let is = c.in_ok-find_clear.ensures ∙ ap (clear g.T.Waits.waits None 0) c.as_slice.ensures.value in
    subst (λ (n : ℕ). c.next_word-word.result % c.len.result < n) (ap length (sym c.as_slice-2.ensures))
    (below g.T.Waits.waits c.args.left.now.items c.find_clear.new.places c.next_word-word.result c.len.result c.requires.some is c.len.ensures)

pub remove-requires : goal.remove-requires
remove-requires g c =
    let is = c.in_ok-find_clear.ensures ∙ ap (clear g.T.Waits.waits None 0) c.as_slice.ensures.value in
    let size = c.as_slice.ensures.len in
    let value : length c.as_slice.result.now ≡ length c.args.left.now.items = ap (λ list. length list) c.as_slice.ensures.value in
    let place : slice_index_or c.as_slice-2.result.now (c.next_word-word.result % c.len.result) 0 < length c.args.left.now.items = place-within g.T.Waits.waits c.args.left.now.items c.find_clear.new.places c.next_word-word.result c.len.result _ c.requires.orderly is c.len.ensures
    (below g.T.Waits.waits c.args.left.now.items c.find_clear.new.places c.next_word-word.result c.len.result c.requires.some is c.len.ensures)
    (ap (λ (own : List ℕ). slice_index_or own (c.next_word-word.result % c.len.result) 0) c.as_slice-2.ensures) in
    omega (arith, size, value, place)

pub returns-clause-item : goal.returns-clause-item
returns-clause-item g c =
    let is = c.in_ok-find_clear.ensures ∙ ap (clear g.T.Waits.waits None 0) c.as_slice.ensures.value in
    let within = below g.T.Waits.waits c.args.left.now.items c.find_clear.new.places c.next_word-word.result c.len.result c.requires.some is c.len.ensures in
    let drawn = drawn-by g.T.Waits.waits c.args.left.now.items c.find_clear.new.places c.next_word-word.result c.len.result _ c.remove.result c.remove.new.self.items c.requires.orderly is c.len.ensures within
    (ap (λ (own : List ℕ). slice_index_or own (c.next_word-word.result % c.len.result) 0) c.as_slice-2.ensures) c.remove.ensures.value c.remove.ensures.items in
    subst (λ (word : ℕ). Draws g.T.Waits.waits c.args.left.now.items word c.remove.result c.remove.new.self.items) (ap (λ (both : ℕ × Lcg). both.0) c.next_word-word.ensures) drawn
