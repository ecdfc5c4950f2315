-- What items leave of a layout, by what is judged of them.
use Rattle.std.proofs.Common.{◌≡◌, ℕ, ◌+◌, max, Bool, true, List, [], ◌∷◌, ◌++◌, map, length, take, Ok, sym, ◌∙◌, ap, subst, append_assoc, append-nil}
use Rattle.dsde_values.specs.declared.types.Field.{Field}
use Rattle.dsde_values.specs.declared.types.Ty.{Ty}
use Rattle.dsde_values.specs.declared.value.Value.{Value}
use Rattle.dsde_language.specs.Judge as rules
use Rattle.dsde_language.specs.Blocks.{Passed, Walk, walk_all}
use Rattle.dsde_language.specs.Meaning.{with_var}
use Rattle.dsde_language.specs.Proper.{all_so}
use Rattle.dsde_language.specs.Scopes.{Sees}
use Rattle.dsde_language.specs.Typed.{Typed}
use Rattle.dsde_sound_structures.specs.given.executive_plans.Layout.{Layout, Lay, lay_all, braced, for_one, for_lay}
use Rattle.dsde_sound_expressions.specs.lemmas.Values.{AllHave, all-cons}
use Rattle.dsde_sound_expressions.specs.lemmas.Steps.{went, ok-is}
use Rattle.dsde_sound_expressions.specs.lemmas.Truths.{and-left, and-right}
use Rattle.dsde_sound_expressions.specs.lemmas.Fitting.{field_of, fits-snoc}
use Rattle.dsde_image_rows.proofs.Laid.{Ground, Kept, bound, as-in, cut-kept}

module _ (g : Ground) where
  abbrev pub E : Bool
  E = g.site.around.has_elapsed

  -- A step keeps layouts: where the variables are those of some slots, they are those of others behind it.
  abbrev pub Keeps : List Field → List Field → Lay → Type 0
  Keeps slots last own = (number : ℕ) (before after : Layout) → Kept g slots before → own.run number before ≡ Ok after → Kept g last after

  -- An item in a place by what is judged of it: the slots behind it, and that it keeps layouts.
  pub record Done (passed : Passed) (slots : List Field) (own : Lay) : Type 0 where
    pub last : List Field
    pub more : List Field
    pub grows : last ≡ slots ++ more
    pub sees : Sees E passed.scope last
    pub keeps : Keeps slots last own

  pub record Does (proper : Bool) (judged : Walk) (own : Lay) : Type 0 where
    pub does : proper ≡ true → (scope : rules.Scope) (passed : Passed) (slots : List Field) → judged scope ≡ Ok passed → Sees E scope slots → Done passed slots own

  -- The same of items in their order, on what came before them of this height.
  pub record AllDo (proper : Bool) (judged : List Walk) (own : Lay) : Type 0 where
    pub does : proper ≡ true → (height : ℕ) (scope : rules.Scope) (passed : Passed) (slots : List Field) → walk_all judged height scope ≡ Ok passed → Sees E scope slots → Done passed slots own

  -- what leaves the slots as they are
  pub same-done : (passed : Passed) (slots : List Field) (own : Lay) → Sees E passed.scope slots → Keeps slots slots own → Done passed slots own
  same-done passed slots own sees keeps = record { last = slots; more = []; grows = sym (append-nil slots); sees = sees; keeps = keeps }

  module _ {Y X : Type 0} (f : Y → X) (P : X → Bool) (J : X → Walk) (L : X → Lay) (each : (y : Y) → Does (P (f y)) (J (f y)) (L (f y))) where
    all-done : (ys : List Y) → all_so (map P (map f ys)) ≡ true → (height : ℕ) (scope : rules.Scope) (passed : Passed) (slots : List Field)
        → walk_all (map J (map f ys)) height scope ≡ Ok passed → Sees E scope slots → Done passed slots (lay_all (map L (map f ys)))
    all-done [] plain height scope passed slots h sees =
        subst (λ (p : Passed). Done p slots (lay_all []))
        (ok-is (let own : Passed = record { scope = scope; height = height } in own) passed h)
        (same-done (record { scope = scope; height = height }) slots (lay_all []) sees (λ number before after kept is. as-in g slots before after is kept))
    all-done (y ∷ ys) plain height scope passed slots h sees =
        let w1 = went (J (f y) scope) _ passed h in
        let own : Lay = L (f y) in
        let others : Lay = lay_all (map L (map f ys)) in
        let first = (each y).does (and-left (P (f y)) _ plain) scope w1.value slots w1.first sees in
        let rest = all-done ys (and-right (P (f y)) _ plain) (max height w1.value.height) w1.value.scope passed first.last w1.next first.sees in
        record {
          last = rest.last;
          more = first.more ++ rest.more;
          grows = rest.grows ∙ ap (λ (l : List Field). l ++ rest.more) first.grows ∙ append_assoc slots first.more rest.more;
          sees = rest.sees;
          keeps = λ number before after kept is.
              bound (Kept g rest.last after) (own.run number before) (λ mid. others.run (number + own.vias) mid) after is
              (λ mid ran later. rest.keeps (number + own.vias) mid after (first.keeps number before mid kept ran) later);
        }

    pub all-do : (ys : List Y) → AllDo (all_so (map P (map f ys))) (map J (map f ys)) (lay_all (map L (map f ys)))
    all-do ys = record { does = all-done ys }

  -- items in braces
  pub braced-keeps : (passed : Passed) (slots : List Field) (body : Lay) → Done passed slots body
      → (number : ℕ) (before after : Layout) → Kept g slots before → braced body number before ≡ Ok after → Kept g slots after
  braced-keeps passed slots body done number before after kept is =
      bound (Kept g slots after) (body.run number before) (λ mid. Ok (record mid { vars = take (length before.vars) mid.vars })) after is
      (λ mid ran last.
      as-in g slots (record mid { vars = take (length before.vars) mid.vars }) after last
      (cut-kept g slots done.last done.more done.grows before mid kept.fits (done.keeps number before mid kept ran)))

  -- the braces of `for`, which see one slot more
  module _ (passed : Passed) (slots : List Field) (name : List ℕ) (item : Ty) (body : Lay) (done : Done passed (slots ++ field_of name item ∷ []) body) where
    once-keeps : (value : Value) → Typed g.types item value → (number : ℕ) (before after : Layout) → Kept g slots before → for_one name body number value before ≡ Ok after → Kept g slots after
    once-keeps value typed number before after kept is =
        let more : Layout = record before { vars = with_var name value before.vars } in
        bound (Kept g slots after) (body.run number more) (λ mid. Ok (record mid { vars = take (length before.vars) mid.vars })) after is
        (λ mid ran last.
        as-in g slots (record mid { vars = take (length before.vars) mid.vars }) after last
        (cut-kept g slots done.last (field_of name item ∷ done.more) (done.grows ∙ append_assoc slots (field_of name item ∷ []) done.more) before mid kept.fits
        (done.keeps number more mid (record { fits = fits-snoc g.types before.vars slots name item value kept.fits typed; entries = kept.entries }) ran)))

    pub for-keeps : (items : List Value) → AllHave g.types item items → (number : ℕ) (before after : Layout) → Kept g slots before → for_lay name body number items before ≡ Ok after → Kept g slots after
    for-keeps [] have number before after kept is = as-in g slots before after is kept
    for-keeps (value ∷ items) have number before after kept is =
        let both = all-cons g.types item value items have in
        bound (Kept g slots after) (for_one name body number value before) (λ mid. for_lay name body number items mid) after is
        (λ mid ran later. for-keeps items both.1 number mid after (once-keeps value both.0 number before mid kept ran) later)
