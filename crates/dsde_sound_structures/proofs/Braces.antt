-- Items in their order, and in braces, do in tables what they do over names.
use Rattle.std.proofs.Common.{◌≡◌, ℕ, ◌+◌, ◌≤◌, max, arith, Bool, true, List, [], ◌∷◌, ◌++◌, map, length, Ok, refl, sym, ◌∙◌, ap, subst, append_assoc, append-nil}
use Rattle.std.specs.List.{flat_map}
use Rattle.std.proofs.lemmas.List.{length-append}
use Rattle.dsde_sim_tree.specs.given.syntax.item_ViaPart.{ViaPart}
use Rattle.dsde_values.specs.declared.types.Field.{Field}
use Rattle.dsde_values.specs.declared.types.Ty.{Ty}
use Rattle.dsde_values.specs.declared.value.Value.{Value}
use Rattle.dsde_sim_tree.specs.given.language.Judge as rules
use Rattle.dsde_sim_tree.specs.given.language.Blocks.{Passed, Walk, walk_all}
use Rattle.dsde_sim_tree.specs.given.language.RuleStructures.{Enter, enter_all}
use Rattle.dsde_sim_tree.specs.given.language.code_ViaCode.{ViaCode}
use Rattle.dsde_sim_tree.specs.given.language.make_Make.{Make}
use Rattle.dsde_sim_tree.specs.given.language.Pieces.{Next, Piece, Step, all, behind}
use Rattle.dsde_sim_tree.specs.given.language.Meaning.{with_var}
use Rattle.dsde_sim_tree.specs.given.language.Proper.{all_so}
use Rattle.dsde_sim_tree.specs.given.language.Typed.{Typed, Fits, values_in}
use Rattle.dsde_sim_tree.specs.given.language.Scopes.{Stands, Sees}
use Rattle.dsde_sound_names.specs.given.executive_plans.Layout.{Layout, Lay, lay_all, braced, for_one, for_lay}
use Rattle.dsde_sound_names.specs.given.executive_plans.Drafts as over_slots
use Rattle.dsde_sound_names.specs.given.executive_plans.Drafts.{Draft, draft_of, for_draw}
use Rattle.dsde_sound_names.specs.given.sound_expressions.lemmas_Values.{AllHave, all-cons}
use Rattle.dsde_sound_names.specs.given.sound_expressions.lemmas_Steps.{went, ok-is}
use Rattle.dsde_sound_names.specs.given.sound_expressions.lemmas_Truths.{and-left, and-right}
use Rattle.dsde_sound_names.specs.given.sound_expressions.lemmas_Standing.{stands-left, stands-right}
use Rattle.dsde_sound_names.specs.given.sound_expressions.lemmas_Fitting.{field_of, fits-snoc, values-snoc}
use Rattle.dsde_sound_structures.proofs.StructureGround.{Ground, Kept, Shows, shown, shows-ok, shows-then, shows-cut}
use Rattle.dsde_sound_structures.proofs.StructureDoes.{Entered, entered-first, entered-then, Widens, nothing-widens, then-widens, Ready, Done, Does, AllDo, one_does, all_do}

-- Items are as high as what came before them at least.
pub walk-rises : (judged : List Walk) (height : ℕ) (scope : rules.Scope) (passed : Passed) → walk_all judged height scope ≡ Ok passed → height ≤ passed.height
walk-rises [] height scope passed h =
    let same = ok-is (let own : Passed = record { scope = scope; height = height } in own) passed h in
    let same_height : height ≡ passed.height = ap (λ (p : Passed). p.height) same in
    omega (arith, same_height)
walk-rises (own ∷ judged) height scope passed h =
    let w1 = went (own scope) _ passed h in
    let rest : max height w1.value.height ≤ passed.height = walk-rises judged (max height w1.value.height) w1.value.scope passed w1.next in
    omega (arith, rest)

-- the translations of pieces of text, one behind another
abbrev pub joined_texts : List (List ViaPart) → List ViaPart
joined_texts texts = flat_map (λ own. own) texts

module _ (g : Ground) where
  abbrev E : Bool
  E = g.site.around.has_elapsed

  module _ {Y X : Type 0} (f : Y → X) (P : X → Bool) (N : X → Enter) (J : X → Walk) (R : X → Step Make) (V : X → List ViaPart) (L : X → Lay)
      (each : (y : Y) → Does g (P (f y)) (N (f y)) (J (f y)) (R (f y)) (V (f y)) (L (f y))) where
    all-count : (ys : List Y) (slots : List Field) (next : Next) → length (all (map R (map f ys)) slots next).vias ≡ (lay_all (map L (map f ys))).vias
    all-count [] slots next = refl
    all-count (y ∷ ys) slots next =
        let one = R (f y) slots next in
        let two = all (map R (map f ys)) one.scope (behind next one) in
        let first : length one.vias ≡ (L (f y)).vias = (each y).counts slots next in
        let rest : length two.vias ≡ (lay_all (map L (map f ys))).vias = all-count ys one.scope (behind next one) in
        let sum : length (one.vias ++ (two.vias ++ [])) ≡ length one.vias + length (two.vias ++ []) = length-append one.vias (two.vias ++ []) in
        let short : length (two.vias ++ []) ≡ length two.vias = ap (λ (l : List ViaCode). length l) (append-nil two.vias) in
        omega (arith, first, rest, sum, short)

    all-told : (ys : List Y) → length (joined_texts (map V (map f ys))) ≡ (lay_all (map L (map f ys))).vias
    all-told [] = refl
    all-told (y ∷ ys) =
        let first : length (V (f y)) ≡ (L (f y)).vias = (each y).told in
        let rest : length (joined_texts (map V (map f ys))) ≡ (lay_all (map L (map f ys))).vias = all-told ys in
        let sum : length (V (f y) ++ joined_texts (map V (map f ys))) ≡ length (V (f y)) + length (joined_texts (map V (map f ys))) = length-append (V (f y)) (joined_texts (map V (map f ys))) in
        omega (arith, first, rest, sum)

    all-widen : (ys : List Y) → Widens g (enter_all (map N (map f ys)))
    all-widen [] = nothing-widens g
    all-widen (y ∷ ys) = then-widens g (N (f y)) (enter_all (map N (map f ys))) (each y).widens (all-widen ys)

    all-done : (ys : List Y) → all_so (map P (map f ys)) ≡ true → Entered g (enter_all (map N (map f ys))) → (height : ℕ) (scope : rules.Scope) (passed : Passed) (slots : List Field) (next : Next)
        → walk_all (map J (map f ys)) height scope ≡ Ok passed → Sees E scope slots
        → Done g (all_do g) passed slots next (all (map R (map f ys)) slots next) (joined_texts (map V (map f ys))) (lay_all (map L (map f ys)))
    all-done [] plain entered height scope passed slots next h sees =
        subst (λ (p : Passed). Done g (all_do g) p slots next (all [] slots next) [] (lay_all []))
        (ok-is (let own : Passed = record { scope = scope; height = height } in own) passed h)
        (record {
          more = [];
          grows = sym (append-nil slots);
          sees = sees;
          shows = λ ready before kept. shows-ok g slots before kept;
        })
    all-done (y ∷ ys) plain entered height scope passed slots next h sees =
        let w1 = went (J (f y) scope) _ passed h in
        let p1 : Passed = w1.value in
        let one = R (f y) slots next in
        let two = all (map R (map f ys)) one.scope (behind next one) in
        let own : Lay = L (f y) in
        let others : Lay = lay_all (map L (map f ys)) in
        let texts : List ViaPart = joined_texts (map V (map f ys)) in
        let first = (each y).does (and-left (P (f y)) _ plain) (entered-first g (N (f y)) (enter_all (map N (map f ys))) (all-widen ys) entered) scope p1 slots next w1.first sees in
        let rest = all-done ys (and-right (P (f y)) _ plain) (entered-then g (N (f y)) (enter_all (map N (map f ys))) entered) (max height p1.height) p1.scope passed one.scope (behind next one) w1.next first.sees in
        let rises : max height p1.height ≤ passed.height = walk-rises (map J (map f ys)) (max height p1.height) p1.scope passed w1.next in
        let counted : length one.vias ≡ own.vias = (each y).counts slots next in
        let told : length (V (f y)) ≡ length one.vias = (each y).told ∙ sym counted in
        record {
          more = first.more ++ rest.more;
          grows = rest.grows ∙ ap (λ (l : List Field). l ++ rest.more) first.grows ∙ append_assoc slots first.more rest.more;
          sees = rest.sees;
          shows = λ ready before kept.
              let low : passed.height ≤ 512 = ready.low in
              shows-then g one.scope two.scope (own.run next.via before) (one_does g one.own (shown before)) _ _
              (first.shows (record {
                code = stands-left g.coded.nodes next.node one.nodes (two.nodes ++ []) ready.code;
                ways = stands-left g.codes next.via one.vias (two.vias ++ []) ready.ways;
                words = stands-left g.written next.via (V (f y)) texts ready.words;
                low = omega (arith, rises, low);
              }) before kept)
              (λ after kept.
              subst (λ (n : ℕ). Shows g two.scope (others.run (next.via + n) after) (all_do g two.own (shown after))) counted
              (rest.shows (record {
                code = stands-left g.coded.nodes (next.node + length one.nodes) two.nodes [] (stands-right g.coded.nodes next.node one.nodes (two.nodes ++ []) ready.code);
                ways = stands-left g.codes (next.via + length one.vias) two.vias [] (stands-right g.codes next.via one.vias (two.vias ++ []) ready.ways);
                words = subst (λ (n : ℕ). Stands g.written (next.via + n) texts) told (stands-right g.written next.via (V (f y)) texts ready.words);
                low = ready.low;
              }) after kept));
        }

    pub all-do : (ys : List Y) → AllDo g (all_so (map P (map f ys))) (enter_all (map N (map f ys))) (map J (map f ys)) (all (map R (map f ys))) (joined_texts (map V (map f ys))) (lay_all (map L (map f ys)))
    all-do ys = record { counts = all-count ys; told = all-told ys; widens = all-widen ys; does = all-done ys }

  -- items in braces
  module _ (passed : Passed) (slots : List Field) (next : Next) (own : Piece (List Make)) (texts : List ViaPart) (body : Lay) (done : Done g (all_do g) passed slots next own texts body)
      (ready : Ready g next own.nodes own.vias texts passed.height) where
    pub braces-show : (before : Layout) → Kept g slots before
        → Shows g slots (braced body next.via before) (over_slots.braced (all_do g own.own) (shown before))
    braces-show before kept =
        shows-cut g slots done.more before (body.run next.via before) (all_do g own.own (shown before)) kept.fits
        (subst (λ (l : List Field). Shows g l (body.run next.via before) (all_do g own.own (shown before))) done.grows (done.shows ready before kept))

  -- the braces of `for`, which see one slot more
  module _ (passed : Passed) (slots inner : List Field) (name : List ℕ) (item : Ty) (is : inner ≡ slots ++ field_of name item ∷ []) (next : Next) (own : Piece (List Make)) (texts : List ViaPart) (body : Lay)
      (done : Done g (all_do g) passed inner next own texts body) (ready : Ready g next own.nodes own.vias texts passed.height) where
    once-shows : (value : Value) → Typed g.types item value → (before : Layout) → Kept g slots before
        → Shows g slots (for_one name body next.via value before) (over_slots.for_one (all_do g own.own) value (shown before))
    once-shows value typed before kept =
        let more : Layout = record before { vars = with_var name value before.vars } in
        let inside : Kept g inner more = record {
          fits = subst (λ (l : List Field). Fits g.types more.vars l) (sym is) (fits-snoc g.types before.vars slots name item value kept.fits typed);
          entries = kept.entries;
          links = kept.links;
        } in
        let grows : own.scope ≡ slots ++ (field_of name item ∷ done.more) =
        done.grows ∙ ap (λ (l : List Field). l ++ done.more) is ∙ append_assoc slots (field_of name item ∷ []) done.more in
        let draft : draft_of (values_in before.vars ++ value ∷ []) before.entries before.links ≡ shown more =
        ap (λ (l : List Value). draft_of l before.entries before.links) (values-snoc before.vars name value) in
        shows-cut g slots (field_of name item ∷ done.more) before (body.run next.via more) (all_do g own.own (draft_of (values_in before.vars ++ value ∷ []) before.entries before.links)) kept.fits
        (subst (λ (d : Draft). Shows g (slots ++ (field_of name item ∷ done.more)) (body.run next.via more) (all_do g own.own d)) (sym draft)
        (subst (λ (l : List Field). Shows g l (body.run next.via more) (all_do g own.own (shown more))) grows (done.shows ready more inside)))

    pub for-shows : (items : List Value) → AllHave g.types item items → (before : Layout) → Kept g slots before
        → Shows g slots (for_lay name body next.via items before) (for_draw (all_do g own.own) items (shown before))
    for-shows [] have before kept = shows-ok g slots before kept
    for-shows (value ∷ items) have before kept =
        let both = all-cons g.types item value items have in
        shows-then g slots slots (for_one name body next.via value before) (over_slots.for_one (all_do g own.own) value (shown before)) _ _
        (once-shows value both.0 before kept)
        (λ after more. for-shows items both.1 after more)
