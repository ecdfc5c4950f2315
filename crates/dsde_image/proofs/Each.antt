-- Lists that are read item by item.
use Rattle.std.proofs.Common.{◌≡◌, ℕ, suc, ◌+◌, ◌<◌, ◌≤◌, List, [], ◌∷◌, ◌++◌, length, drop, get_or, Option, Some, None, refl, sym, ap, subst, ◌∙◌, append-nil, append_assoc, zero, arith}
use Rattle.std.proofs.Math.Seq.{drop-cons}
use Rattle.std.proofs.Math.Numerals.{suc-eq-add-one}
use Rattle.serde_json.specs.Data.{Data}
use Rattle.serde_json.specs.View.{view, items_view}
use Rattle.serde_json.specs.declared.value.Value.{Value}
use Rattle.dsde_image.specs.Form.{◌>>=◌, each_of, behind, GivesIt}
use Rattle.std.specs.List.{AllByRecursion}
use Rattle.std.specs.Prelude.{Result, Err}
use Rattle.dsde_image.specs.declared.reading.ReadImage.{ReadImage}
use Rattle.dsde_image.specs.declared.reading.ReadImage.TheVariants as read_image

drop-all : {A : Type 0} (xs : List A) (n : ℕ) → length xs ≤ n → drop n xs ≡ []
drop-all [] zero h = refl
drop-all [] (suc n) h = refl
drop-all (x ∷ xs) zero h = absurd (omega arith)
drop-all (x ∷ xs) (suc n) h = drop-all xs n (omega arith)

module _ {A : Type 0} (read : Data → Option A) where
  next : (front : List A) (value : Value) (values : List Value) (own : Option A) → read (view value) ≡ own →
      behind front (each_of read (items_view (value ∷ values))) ≡ (own >>= λ thing. behind (front ++ thing ∷ []) (each_of read (items_view values)))
  unfolding each_of
  next front value values None is = rw is refl
  next front value values (Some thing) is = rw is (later (each_of read (items_view values)))
    where
      later : (rest : Option (List A)) → behind front (rest >>= λ things. Some (thing ∷ things)) ≡ behind (front ++ thing ∷ []) rest
      later None = refl
      later (Some things) = ap Some (sym (append_assoc front (thing ∷ []) things))

  at-index : (front : List A) (values : List Value) (index : ℕ) (own : Value) → index < length values → own ≡ get_or values index own →
      behind front (each_of read (items_view (drop index values))) ≡ (read (view own) >>= λ thing. behind (front ++ thing ∷ []) (each_of read (items_view (drop (index + 1) values))))
  at-index front values index own within is =
      ap (λ (rest : List Value). behind front (each_of read (items_view rest))) (drop-cons values index own within ∙ ap (λ first. first ∷ drop (suc index) values) (sym is) ∙ ap (λ next. own ∷ drop next values) (suc-eq-add-one index))
      ∙ next front own (drop (index + 1) values) (read (view own)) refl

  pub goes-on : (front : List A) (values : List Value) (index : ℕ) (own : Value) (thing : A) (whole : Option (List A)) → index < length values → own ≡ get_or values index own →
      read (view own) ≡ Some thing → behind front (each_of read (items_view (drop index values))) ≡ whole →
      behind (front ++ thing ∷ []) (each_of read (items_view (drop (index + 1) values))) ≡ whole
  goes-on front values index own thing whole within is reads so_far =
      sym (ap (λ (found : Option A). found >>= λ thing. behind (front ++ thing ∷ []) (each_of read (items_view (drop (index + 1) values)))) reads)
      ∙ sym (at-index front values index own within is) ∙ so_far

  pub stops : (front : List A) (values : List Value) (index : ℕ) (own : Value) (whole : Option (List A)) → index < length values → own ≡ get_or values index own →
      read (view own) ≡ None → behind front (each_of read (items_view (drop index values))) ≡ whole → whole ≡ None
  stops front values index own whole within is reads so_far =
      sym so_far ∙ at-index front values index own within is
      ∙ ap (λ (found : Option A). found >>= λ thing. behind (front ++ thing ∷ []) (each_of read (items_view (drop (index + 1) values)))) reads

  pub is-done : (front : List A) (values : List Value) (index : ℕ) (whole : Option (List A)) → length values ≤ index →
      behind front (each_of read (items_view (drop index values))) ≡ whole → whole ≡ Some front
  unfolding each_of
  is-done front values index whole over so_far =
      sym so_far ∙ ap (λ (rest : List Value). behind front (each_of read (items_view rest))) (drop-all values index over) ∙ ap Some (append-nil front)

  pub fails : (front : List A) (values : List Value) (index : ℕ) (own : Value) (whole : Option (List A)) (why : ReadImage) → index < length values → own ≡ get_or values index own →
      (let read_it : Result A ReadImage = Err why in GivesIt read_it (read (view own))) → behind front (each_of read (items_view (drop index values))) ≡ whole →
      (let all : Result (List A) ReadImage = Err why in GivesIt all whole)
  fails front values index own whole read_image.NotJson within is reads so_far = absurd reads
  fails front values index own whole read_image.WrongForm within is reads so_far = stops front values index own whole within is reads so_far
  fails front values index own whole read_image.Memory within is reads so_far = tt

module _ {A : Type 0} (P : A → Type 0) where
  -- Where all later things have it, all have.
  abbrev pub Owes : List A → ℕ → Type 0
  Owes things index = AllByRecursion P (drop index things) → AllByRecursion P things

  pub owes-less : (things : List A) (index : ℕ) (own : A) → index < length things → own ≡ get_or things index own → P own → Owes things index → Owes things (index + 1)
  owes-less things index own within is has so_far later =
      so_far (subst (AllByRecursion P) (sym (drop-cons things index own within ∙ ap (λ first. first ∷ drop (suc index) things) (sym is) ∙ ap (λ next. own ∷ drop next things) (suc-eq-add-one index))) (has, later))

  pub owes-none : (things : List A) (index : ℕ) → length things ≤ index → Owes things index → AllByRecursion P things
  owes-none things index over so_far = so_far (subst (AllByRecursion P) (sym (drop-all things index over)) tt)
