-- Statements in their order, and in braces, do in tables what they do over names.
use Rattle.std.proofs.Common.{◌≡◌, ℕ, zero, suc, ◌+◌, ◌≤◌, max, arith, Bool, true, List, [], ◌∷◌, ◌++◌, map, length, Option, Some, Ok, sym, ◌∙◌, ap, subst, slice_get, append_assoc, append-nil}
use Rattle.dsde_language.specs.given.values.types_Field.{Field}
use Rattle.dsde_language.specs.given.values.types_Ty.{Ty}
use Rattle.dsde_language.specs.given.values.types_Types.{Types}
use Rattle.dsde_language.specs.given.values.value_Value.{Value}
use Rattle.dsde_language.specs.Judge as rules
use Rattle.dsde_language.specs.Blocks.{Passed, inner}
use Rattle.dsde_language.specs.Blocks as rule_blocks
use Rattle.dsde_language.specs.declared.act.Act.{Act}
use Rattle.dsde_language.specs.Pieces.{Block, Next, Piece, Step, all, behind}
use Rattle.dsde_language.specs.Meaning as meaning
use Rattle.dsde_language.specs.Meaning.{Scene, Walk, walk_all, bound, for_one, for_walk}
use Rattle.dsde_language.specs.MeaningTables as tables
use Rattle.dsde_language.specs.MeaningTables.{Coded, State, state_of, means_in, act_flow, acts_flow, block_at, braced_at, once, for_each}
use Rattle.dsde_language.specs.Proper.{all_so}
use Rattle.dsde_language.specs.Typed.{Typed, Fits, AllSent, shown}
use Rattle.dsde_language.specs.Scopes.{Sees}
use Rattle.dsde_sound_expressions.specs.lemmas.Values.{AllHave, all-cons}
use Rattle.dsde_sound_expressions.specs.lemmas.Steps.{went, ok-is}
use Rattle.dsde_sound_expressions.specs.lemmas.Truths.{and-left, and-right}
use Rattle.dsde_sound_expressions.specs.lemmas.Standing.{stands-head, stands-tail, stands-left, stands-right}
use Rattle.dsde_sound_expressions.specs.lemmas.Fitting.{field_of, fits-snoc, values-snoc}
use Rattle.dsde_sound_expressions.proofs.Shows.{Shows, shows-ok, shows-then, shows-where, shows-braces}
use Rattle.dsde_sound_expressions.proofs.Does.{Ready, Done, Does, AllDo, within_braces, block_id}

-- Statements are as high as what came before them at least.
pub walk-rises : (judged : List rule_blocks.Walk) (height : ℕ) (scope : rules.Scope) (passed : Passed) → rule_blocks.walk_all judged height scope ≡ Ok passed → height ≤ passed.height
walk-rises [] height scope passed h =
    let same = ok-is (let own : Passed = record { scope = scope; height = height } in own) passed h in
    let same_height : height ≡ passed.height = ap (λ (p : Passed). p.height) same in
    omega (arith, same_height)
walk-rises (own ∷ judged) height scope passed h =
    let w1 = went (own scope) _ passed h in
    let rest : max height w1.value.height ≤ passed.height = walk-rises judged (max height w1.value.height) w1.value.scope passed w1.next in
    omega (arith, rest)

-- a block of tables, one deeper than its statements
pub run-suc : (coded : Coded) (depth number : ℕ) (state : State) (acts : List Act) → slice_get coded.blocks number ≡ Some acts
    → (means_in coded (suc depth)).run (block_id number) state ≡ acts_flow (means_in coded depth) acts state
unfolding means_in
run-suc coded depth number state acts found = ap (λ (o : Option (List Act)). block_at (means_in coded depth) o state) found

module _ (types : Types) (coded : Coded) (E : Bool) (outs : List Field) where
  -- statements in their order
  module _ {Y X : Type 0} (f : Y → X) (P : X → Bool) (J : X → rule_blocks.Walk) (R : X → Step Act) (W : X → Walk) (each : (y : Y) → Does types coded E outs act_flow (P (f y)) (J (f y)) (R (f y)) (W (f y))) where
    all-done : (ys : List Y) → all_so (map P (map f ys)) ≡ true → (height : ℕ) (scope : rules.Scope) (passed : Passed) (slots : List Field) (next : Next)
        → rule_blocks.walk_all (map J (map f ys)) height scope ≡ Ok passed → Sees E scope slots
        → Done types coded E outs acts_flow passed slots next (all (map R (map f ys)) slots next) (walk_all (map W (map f ys)))
    all-done [] plain height scope passed slots next h sees =
        subst (λ (p : Passed). Done types coded E outs acts_flow p slots next (all [] slots next) (walk_all []))
        (ok-is (let own : Passed = record { scope = scope; height = height } in own) passed h)
        (record {
          more = [];
          grows = sym (append-nil slots);
          sees = sees;
          shows = λ before depth fits sent. shows-ok types outs _ slots before fits sent;
        })
    all-done (y ∷ ys) plain height scope passed slots next h sees =
        let w1 = went (J (f y) scope) _ passed h in
        let p1 : Passed = w1.value in
        let one = R (f y) slots next in
        let two = all (map R (map f ys)) one.scope (behind next one) in
        let first = (each y).does (and-left (P (f y)) _ plain) scope p1 slots next w1.first sees in
        let rest = all-done ys (and-right (P (f y)) _ plain) (max height p1.height) p1.scope passed one.scope (behind next one) w1.next first.sees in
        let rises : max height p1.height ≤ passed.height = walk-rises (map J (map f ys)) (max height p1.height) p1.scope passed w1.next in
        record {
          more = first.more ++ rest.more;
          grows = rest.grows ∙ ap (λ (l : List Field). l ++ rest.more) first.grows ∙ append_assoc slots first.more rest.more;
          sees = rest.sees;
          shows = λ before depth fits sent.
              shows-then types outs (Ready types coded E outs next (one.nodes ++ (two.nodes ++ [])) (one.blocks ++ (two.blocks ++ [])) passed.height depth) one.scope two.scope
              (W (f y) before) (act_flow (means_in coded depth) one.own (shown before)) _ _
              (shows-where types outs _ _ one.scope (W (f y) before) (act_flow (means_in coded depth) one.own (shown before)) (first.shows before depth fits sent)
              (λ ready. record {
                code = stands-left coded.nodes next.node one.nodes (two.nodes ++ []) ready.code;
                acts = stands-left coded.blocks next.block one.blocks (two.blocks ++ []) ready.acts;
                low = omega (arith, rises, ready.low);
                deep = omega (arith, rises, ready.deep);
              }))
              (λ after fit out.
              shows-where types outs _ _ two.scope (walk_all (map W (map f ys)) after) (acts_flow (means_in coded depth) two.own (shown after)) (rest.shows after depth fit out)
              (λ ready. record {
                code = stands-left coded.nodes (next.node + length one.nodes) two.nodes [] (stands-right coded.nodes next.node one.nodes (two.nodes ++ []) ready.code);
                acts = stands-left coded.blocks (next.block + length one.blocks) two.blocks [] (stands-right coded.blocks next.block one.blocks (two.blocks ++ []) ready.acts);
                low = ready.low;
                deep = ready.deep;
              }));
        }

    pub all-do : (ys : List Y) → AllDo types coded E outs (all_so (map P (map f ys))) (map J (map f ys)) (all (map R (map f ys))) (walk_all (map W (map f ys)))
    all-do ys = record { does = all-done ys }

  -- a block, by its number
  module _ (passed : Passed) (slots : List Field) (next : Next) (own : Piece Block) (walk : Walk) (done : Done types coded E outs acts_flow passed slots (within_braces next) own walk) where
    -- Its statements stand in the tables behind its own place.
    abbrev pub Held : ℕ → Type 0
    Held depth = Ready types coded E outs next own.nodes (own.own ∷ own.blocks) (passed.height + 1) depth

    pub block-shows : (before : Scene) (depth : ℕ) → Fits types before.vars slots → AllSent types outs before.sends
        → Shows types outs (Held depth) own.scope (walk before) ((means_in coded depth).run (block_id next.block) (shown before))
    block-shows before zero fits sent = record {
      lands = (done.shows before zero fits sent).lands;
      same = λ held. let deep : passed.height + 1 ≤ 0 = held.deep in absurd (omega (arith, deep));
    }
    block-shows before (suc depth) fits sent = record {
      lands = (done.shows before depth fits sent).lands;
      same = λ held.
          let low : passed.height + 1 ≤ 512 = held.low in
          let deep : passed.height + 1 ≤ suc depth = held.deep in
          run-suc coded depth next.block (shown before) own.own (stands-head coded.blocks next.block own.own own.blocks held.acts)
          ∙ (done.shows before depth fits sent).same (record {
            code = held.code;
            acts = stands-tail coded.blocks next.block own.own own.blocks held.acts;
            low = omega (arith, low);
            deep = omega (arith, deep);
          });
    }

    pub braces-show : (before : Scene) (depth : ℕ) → Fits types before.vars slots → AllSent types outs before.sends
        → Shows types outs (Held depth) slots (meaning.braced walk before) (braced_at (means_in coded depth).run (block_id next.block) (shown before))
    braces-show before depth fits sent =
        shows-braces types outs (Held depth) slots done.more before (walk before) ((means_in coded depth).run (block_id next.block) (shown before)) fits
        (subst (λ (l : List Field). Shows types outs (Held depth) l (walk before) ((means_in coded depth).run (block_id next.block) (shown before))) done.grows (block-shows before depth fits sent))

  -- the braces of `for`, which see one slot more
  module _ (passed : Passed) (slots inner : List Field) (name : List ℕ) (item : Ty) (is : inner ≡ slots ++ field_of name item ∷ []) (next : Next) (own : Piece Block) (walk : Walk)
      (done : Done types coded E outs acts_flow passed inner (within_braces next) own walk) where
    once-shows : (value : Value) → Typed types item value → (before : Scene) (depth : ℕ) → Fits types before.vars slots → AllSent types outs before.sends
        → Shows types outs (Held passed inner next own walk done depth) slots (for_one name walk value before) (once (means_in coded depth).run (block_id next.block) value (shown before))
    once-shows value typed before depth fits sent =
        let more : Scene = bound name value before in
        let If : Type 0 = Held passed inner next own walk done depth in
        let fit : Fits types more.vars inner = subst (λ (l : List Field). Fits types more.vars l) (sym is) (fits-snoc types before.vars slots name item value fits typed) in
        let grows : own.scope ≡ slots ++ (field_of name item ∷ done.more) =
        done.grows ∙ ap (λ (l : List Field). l ++ done.more) is ∙ append_assoc slots (field_of name item ∷ []) done.more in
        let state : tables.with_slot value (shown before) ≡ shown more = ap (λ (l : List Value). state_of l before.sends) (values-snoc before.vars name value) in
        shows-braces types outs If slots (field_of name item ∷ done.more) before (walk more) ((means_in coded depth).run (block_id next.block) (tables.with_slot value (shown before))) fits
        (subst (λ (s : State). Shows types outs If (slots ++ (field_of name item ∷ done.more)) (walk more) ((means_in coded depth).run (block_id next.block) s)) (sym state)
        (subst (λ (l : List Field). Shows types outs If l (walk more) ((means_in coded depth).run (block_id next.block) (shown more))) grows
        (block-shows passed inner next own walk done more depth fit sent)))

    pub for-shows : (items : List Value) → AllHave types item items → (before : Scene) (depth : ℕ) → Fits types before.vars slots → AllSent types outs before.sends
        → Shows types outs (Held passed inner next own walk done depth) slots (for_walk name walk items before) (for_each (means_in coded depth).run (block_id next.block) items (shown before))
    for-shows [] have before depth fits sent = shows-ok types outs _ slots before fits sent
    for-shows (value ∷ items) have before depth fits sent =
        let both = all-cons types item value items have in
        shows-then types outs (Held passed inner next own walk done depth) slots slots (for_one name walk value before) (once (means_in coded depth).run (block_id next.block) value (shown before)) _ _
        (once-shows value both.0 before depth fits sent)
        (λ after fit out. for-shows items both.1 after depth fit out)
