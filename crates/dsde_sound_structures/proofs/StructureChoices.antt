-- `if` does in tables what it does over names.
use Rattle.std.proofs.Common.{◌≡◌, ℕ, ◌+◌, ◌≤◌, max, arith, Bool, true, false, if◌then◌else◌, List, [], ◌∷◌, ◌++◌, map, length, Option, Some, None, Ok, Err, refl, sym, ◌∙◌, ap, subst, append-nil}
use Rattle.std.proofs.lemmas.List.{length-append}
use Rattle.dsde_sim_tree.specs.given.syntax.expr_Expr.{Expr}
use Rattle.dsde_sim_tree.specs.given.syntax.item_Item_TheOpen.{Item-F}
use Rattle.dsde_sim_tree.specs.given.syntax.item_ViaPart.{ViaPart}
use Rattle.dsde_values.specs.declared.types.Field.{Field}
use Rattle.dsde_values.specs.declared.types.Ty.{Ty}
use Rattle.dsde_values.specs.declared.types.Ty.TheVariants as ty
use Rattle.dsde_values.specs.declared.value.Value.{Value}
use Rattle.dsde_sim_tree.specs.given.language.known_Around.{Around}
use Rattle.dsde_sim_tree.specs.given.language.known_Known.{Known}
use Rattle.dsde_sim_tree.specs.given.language.Steps.{above}
use Rattle.dsde_sim_tree.specs.given.language.Types.{wanted}
use Rattle.dsde_sim_tree.specs.given.language.Judge.{judge, test_of}
use Rattle.dsde_sim_tree.specs.given.language.Judge as rules
use Rattle.dsde_sim_tree.specs.given.language.Blocks.{Passed, Walk, ArmWalk, walk_all, inner, arms_walk}
use Rattle.dsde_sim_tree.specs.given.language.RuleStructures as rule_structures
use Rattle.dsde_sim_tree.specs.given.language.RuleStructures.{Enter, enter_all}
use Rattle.dsde_sim_tree.specs.given.language.code_ViaCode.{ViaCode}
use Rattle.dsde_sim_tree.specs.given.language.make_Make.{Make}
use Rattle.dsde_sim_tree.specs.given.language.make_MakeArm.{MakeArm}
use Rattle.dsde_sim_tree.specs.given.language.node_Node.{Node}
use Rattle.dsde_sim_tree.specs.given.language.Expressions.{resolve}
use Rattle.dsde_sim_tree.specs.given.language.Items as nodes
use Rattle.dsde_sim_tree.specs.given.language.Pieces.{Next, Piece, Step, all, behind}
use Rattle.dsde_sim_tree.specs.given.language.Outcome.{Outcome, ◌>>=◌, truth_of}
use Rattle.dsde_sim_tree.specs.given.language.Meaning.{mean}
use Rattle.dsde_sim_tree.specs.given.language.Proper.{is_proper, all_so}
use Rattle.dsde_sim_tree.specs.given.language.Typed.{Typed, values_in}
use Rattle.dsde_sim_tree.specs.given.language.Scopes.{Stands, Sees}
use Rattle.dsde_sound_names.specs.given.sound_expressions.Items as proper
use Rattle.dsde_sim_tree.specs.given.language.DeclaredStructures as standing
use Rattle.dsde_sound_names.specs.given.executive_plans.Layout.{Layout, Lay, ArmLay, lay_all, braced, last_lay, arms_lay, item_step, item_arm_step}
use Rattle.dsde_sound_names.specs.given.executive_plans.Drafts as over_slots
use Rattle.dsde_sound_names.specs.given.executive_plans.Drafts.{Draft, Draw, ArmDraw, arms_draw, else_draw, draw_arm, draws}
use Rattle.dsde_sound_names.specs.given.sound_expressions.lemmas_Values.{truth-sound}
use Rattle.dsde_sound_names.specs.given.sound_expressions.lemmas_Types.{wanted-is}
use Rattle.dsde_sound_names.specs.given.sound_expressions.lemmas_Steps.{went, ok-is}
use Rattle.dsde_sound_names.specs.given.sound_expressions.lemmas_Truths.{and-left, and-right}
use Rattle.dsde_sound_names.specs.given.sound_expressions.lemmas_Standing.{stands-left, stands-right}
use Rattle.dsde_sound_structures.proofs.Gets.{Gets, gets-own}
use Rattle.dsde_sound_structures.proofs.StructureGround.{Ground, Kept, Shows, part_in, shown, shows-ok, shows-over, shows-by}
use Rattle.dsde_sound_structures.proofs.Values.{value-gets}
use Rattle.dsde_sound_structures.proofs.Drawing.{draw-if, draw-arm}
use Rattle.dsde_sound_structures.proofs.StructureDoes.{Entered, entered-first, entered-then, Widens, nothing-widens, then-widens, Ready, Done, Does, AllDo, one_does, all_do, not-cut, behind_nodes}
use Rattle.dsde_sound_structures.proofs.Braces.{walk-rises, braces-show, joined_texts}

-- a step behind a choice
chosen-then : (t : Outcome Bool) (taken other : Outcome (Option Draft)) (k : Option Draft → Outcome Draft)
    → ((t >>= (λ truth. if truth then taken else other)) >>= k) ≡ (t >>= (λ truth. if truth then (taken >>= k) else (other >>= k)))
chosen-then (Ok true) taken other k = refl
chosen-then (Ok false) taken other k = refl
chosen-then (Err halt) taken other k = refl

tested-then : (p : Outcome Value) (taken other : Outcome (Option Draft)) (k : Option Draft → Outcome Draft)
    → ((p >>= (λ test. truth_of test >>= (λ truth. if truth then taken else other))) >>= k) ≡ (p >>= (λ test. truth_of test >>= (λ truth. if truth then (taken >>= k) else (other >>= k))))
tested-then (Ok v) taken other k = chosen-then (truth_of v) taken other k
tested-then (Err halt) taken other k = refl

-- what was taken stands for all of it
taken-is : (b : Outcome Draft) (last : Option Draw) (draft : Draft) → ((b >>= (λ after. Ok (Some after))) >>= (λ found. else_draw last draft found)) ≡ b
taken-is (Ok after) last draft = refl
taken-is (Err halt) last draft = refl

module _ (g : Ground) where
  abbrev E : Bool
  E = g.site.around.has_elapsed

  abbrev whole : Known
  whole = g.place.known

  abbrev around : Around
  around = g.site.around

  shows-if : (slots : List Field) (b : Bool) (x y : Outcome Layout) (z w : Outcome Draft) → Shows g slots x z → Shows g slots y w → Shows g slots (if b then x else y) (if b then z else w)
  shows-if slots true x y z w here there = here
  shows-if slots false x y z w here there = there

  -- An arm in a place by what is judged of it: its condition, and what its braces do.
  pub record ArmDone (found : ℕ) (slots : List Field) (next : Next) (piece : Piece MakeArm) (texts : List ViaPart) (arm : ArmLay) : Type 0 where
    pub tests : Ready g next piece.nodes piece.vias texts (found + 1) → (before : Layout) → Kept g slots before
        → Gets (Typed g.types ty.Bool) (arm.cond before.vars) (part_in g piece.own.cond (values_in before.vars))
    pub body : Ready g next piece.nodes piece.vias texts (found + 1) → (before : Layout) → Kept g slots before
        → Shows g slots (braced arm.body next.via before) (over_slots.braced (draws (part_in g) piece.own.makes) (shown before))

  pub record ArmDoes (proper : Bool) (rule : Enter) (judged : ArmWalk) (step : Step MakeArm) (texts : List ViaPart) (arm : ArmLay) : Type 0 where
    pub counts : (slots : List Field) (next : Next) → length (step slots next).vias ≡ arm.body.vias
    pub told : length texts ≡ arm.body.vias
    pub widens : Widens g rule
    pub keeps : (slots : List Field) (next : Next) → (step slots next).scope ≡ slots
    pub rises : (height found : ℕ) (scope : rules.Scope) → judged height scope ≡ Ok found → height ≤ found
    pub does : proper ≡ true → Entered g rule → (height found : ℕ) (scope : rules.Scope) (slots : List Field) (next : Next) → judged height scope ≡ Ok found → Sees E scope slots
        → ArmDone found slots next (step slots next) texts arm

  pub arm-does : (e : Expr) (P : List Bool) (N : List Enter) (J : List Walk) (R : List (Step Make)) (V : List (List ViaPart)) (L : List Lay)
      → AllDo g (all_so P) (enter_all N) J (all R) (joined_texts V) (lay_all L)
      → ArmDoes (proper.item_arm_step (record { cond = e; body = P })) (rule_structures.enter_arm_step (record { cond = e; body = N })) (rule_structures.item_arm_step g.site (record { cond = e; body = J }))
      (nodes.item_arm_step g.place (record { cond = e; body = R })) (standing.via_arm_step (record { cond = e; body = V })) (item_arm_step g.place g.functions (record { cond = e; body = L }))
  arm-does e P N J R V L body = record {
    counts = λ slots next.
        let next1 : Next = behind_nodes next (length ((resolve whole e).nodes slots next.node)) in
        ap (λ (l : List ViaCode). length l) (append-nil (all R slots next1).vias) ∙ body.counts slots next1;
    told = body.told;
    widens = body.widens;
    keeps = λ slots next. refl;
    rises = λ height found scope h.
        let w1 = went (test_of (Some (judge around e)) height scope) _ found h in
        let w2 = went (judge around e scope) _ w1.value w1.first in
        let w3 = went (wanted ty.Bool w2.value) _ w1.value w2.next in
        let w4 = went (walk_all J w1.value scope) _ found w1.next in
        let tested : max height w2.value.height ≡ w1.value = ok-is (max height w2.value.height) w1.value w3.next in
        let high : w4.value.height ≡ found = ok-is w4.value.height found w4.next in
        let rises : w1.value ≤ w4.value.height = walk-rises J w1.value scope w4.value w4.first in
        omega (arith, tested, high, rises);
    does = λ plain entered height found scope slots next h sees.
        let w1 = went (test_of (Some (judge around e)) height scope) _ found h in
        let w2 = went (judge around e scope) _ w1.value w1.first in
        let w3 = went (wanted ty.Bool w2.value) _ w1.value w2.next in
        let w4 = went (walk_all J w1.value scope) _ found w1.next in
        let t : ty.Bool ≡ w2.value.ty = wanted-is ty.Bool w2.value w3.value w3.first in
        let tested : max height w2.value.height ≡ w1.value = ok-is (max height w2.value.height) w1.value w3.next in
        let high : w4.value.height ≡ found = ok-is w4.value.height found w4.next in
        let rises : w1.value ≤ w4.value.height = walk-rises J w1.value scope w4.value w4.first in
        let code : List Node = (resolve whole e).nodes slots next.node in
        let next1 : Next = behind_nodes next (length code) in
        let held : Piece (List Make) = all R slots next1 in
        let done = body.does (and-right (is_proper e) (all_so P) plain) entered w1.value scope w4.value slots next1 w4.first sees in
        record {
          tests = λ ready before kept.
              let low : found + 1 ≤ 512 = ready.low in
              subst (λ (u : Ty). Gets (Typed g.types u) (mean whole g.functions e before.vars) (part_in g (nodes.item_arm_step g.place (record { cond = e; body = R }) slots next).own.cond (values_in before.vars))) (sym t)
              (value-gets g scope slots sees before.vars kept.fits e (and-left (is_proper e) (all_so P) plain) w2.value next.node w2.first
              (stands-left g.coded.nodes next.node code (held.nodes ++ []) ready.code) (omega (arith, tested, high, rises, low)));
          body = λ ready before kept.
              let low : found + 1 ≤ 512 = ready.low in
              braces-show g w4.value slots next1 held (joined_texts V) (lay_all L) done
              (record {
                code = stands-left g.coded.nodes next1.node held.nodes [] (stands-right g.coded.nodes next.node code (held.nodes ++ []) ready.code);
                ways = stands-left g.codes next.via held.vias [] ready.ways;
                words = ready.words;
                low = omega (arith, high, low);
              })
              before kept;
        };
  }

  module _ {Y X : Type 0} (f : Y → X) (P : X → Bool) (N : X → Enter) (J : X → ArmWalk) (R : X → Step MakeArm) (V : X → List ViaPart) (L : X → ArmLay)
      (each : (y : Y) → ArmDoes (P (f y)) (N (f y)) (J (f y)) (R (f y)) (V (f y)) (L (f y))) where
    arms-keep : (ys : List Y) (slots : List Field) (next : Next) → (all (map R (map f ys)) slots next).scope ≡ slots
    arms-keep [] slots next = refl
    arms-keep (y ∷ ys) slots next =
        let one = R (f y) slots next in
        arms-keep ys one.scope (behind next one) ∙ (each y).keeps slots next

    arms-rise : (ys : List Y) (height found : ℕ) (scope : rules.Scope) → arms_walk (map J (map f ys)) height scope ≡ Ok found → height ≤ found
    arms-rise [] height found scope h = let same : height ≡ found = ok-is height found h in omega (arith, same)
    arms-rise (y ∷ ys) height found scope h =
        let w1 = went (J (f y) height scope) _ found h in
        let first : height ≤ w1.value = (each y).rises height w1.value scope w1.first in
        let rest : w1.value ≤ found = arms-rise ys w1.value found scope w1.next in
        omega (arith, first, rest)

    arms-count : (ys : List Y) (last : Option Lay) (slots : List Field) (next : Next) → length (all (map R (map f ys)) slots next).vias + (last_lay last).vias ≡ (arms_lay (map L (map f ys)) last).vias
    arms-count [] last slots next = let same : 0 + (last_lay last).vias ≡ (last_lay last).vias = omega arith in same
    arms-count (y ∷ ys) last slots next =
        let one = R (f y) slots next in
        let two = all (map R (map f ys)) one.scope (behind next one) in
        let first : length one.vias ≡ (L (f y)).body.vias = (each y).counts slots next in
        let rest : length two.vias + (last_lay last).vias ≡ (arms_lay (map L (map f ys)) last).vias = arms-count ys last one.scope (behind next one) in
        let sum : length (one.vias ++ (two.vias ++ [])) ≡ length one.vias + length (two.vias ++ []) = length-append one.vias (two.vias ++ []) in
        let short : length (two.vias ++ []) ≡ length two.vias = ap (λ (l : List ViaCode). length l) (append-nil two.vias) in
        omega (arith, first, rest, sum, short)

    arms-told : (ys : List Y) (last : Option Lay) → length (joined_texts (map V (map f ys))) + (last_lay last).vias ≡ (arms_lay (map L (map f ys)) last).vias
    arms-told [] last = let same : 0 + (last_lay last).vias ≡ (last_lay last).vias = omega arith in same
    arms-told (y ∷ ys) last =
        let first : length (V (f y)) ≡ (L (f y)).body.vias = (each y).told in
        let rest : length (joined_texts (map V (map f ys))) + (last_lay last).vias ≡ (arms_lay (map L (map f ys)) last).vias = arms-told ys last in
        let sum : length (V (f y) ++ joined_texts (map V (map f ys))) ≡ length (V (f y)) + length (joined_texts (map V (map f ys))) = length-append (V (f y)) (joined_texts (map V (map f ys))) in
        omega (arith, first, rest, sum)

    arms-widen : (ys : List Y) → Widens g (enter_all (map N (map f ys)))
    arms-widen [] = nothing-widens g
    arms-widen (y ∷ ys) = then-widens g (N (f y)) (enter_all (map N (map f ys))) (each y).widens (arms-widen ys)

    -- as many translations in the file as in the tables
    arms-even : (ys : List Y) (slots : List Field) (next : Next) → length (joined_texts (map V (map f ys))) ≡ length (all (map R (map f ys)) slots next).vias
    arms-even ys slots next =
        let told : length (joined_texts (map V (map f ys))) + 0 ≡ (arms_lay (map L (map f ys)) None).vias = arms-told ys None in
        let counted : length (all (map R (map f ys)) slots next).vias + 0 ≡ (arms_lay (map L (map f ys)) None).vias = arms-count ys None slots next in
        omega (arith, told, counted)

    arms-show : (ys : List Y) → all_so (map P (map f ys)) ≡ true → Entered g (enter_all (map N (map f ys))) → (height found : ℕ) (scope : rules.Scope) (slots : List Field) (next : Next)
        → arms_walk (map J (map f ys)) height scope ≡ Ok found → Sees E scope slots
        → Ready g next (all (map R (map f ys)) slots next).nodes (all (map R (map f ys)) slots next).vias (joined_texts (map V (map f ys))) (found + 1)
        → (before : Layout) → Kept g slots before → (last : Option Lay) (other : Option Draw)
        → ((number : ℕ) → number ≡ next.via + length (all (map R (map f ys)) slots next).vias → Shows g slots ((last_lay last).run number before) (else_draw other (shown before) None))
        → Shows g slots ((arms_lay (map L (map f ys)) last).run next.via before)
        (arms_draw (part_in g) (map (draw_arm (part_in g)) (all (map R (map f ys)) slots next).own) (shown before) >>= (λ found. else_draw other (shown before) found))
    arms-show [] plain entered height found scope slots next h sees ready before kept last other there = there next.via (omega arith)
    arms-show (y ∷ ys) plain entered height found scope slots next h sees ready before kept last other there =
        let w1 = went (J (f y) height scope) _ found h in
        let one = R (f y) slots next in
        let two = all (map R (map f ys)) one.scope (behind next one) in
        let own = L (f y) in
        let texts : List ViaPart = joined_texts (map V (map f ys)) in
        let done = (each y).does (and-left (P (f y)) _ plain) (entered-first g (N (f y)) (enter_all (map N (map f ys))) (arms-widen ys) entered) height w1.value scope slots next w1.first sees in
        let keeps : one.scope ≡ slots = (each y).keeps slots next in
        let rises : w1.value ≤ found = arms-rise ys w1.value found scope w1.next in
        let counted : length one.vias ≡ own.body.vias = (each y).counts slots next in
        let told : length (V (f y)) ≡ length one.vias = (each y).told ∙ sym counted in
        let low : found + 1 ≤ 512 = ready.low in
        let first : Ready g next one.nodes one.vias (V (f y)) (w1.value + 1) = record {
          code = stands-left g.coded.nodes next.node one.nodes (two.nodes ++ []) ready.code;
          ways = stands-left g.codes next.via one.vias (two.vias ++ []) ready.ways;
          words = stands-left g.written next.via (V (f y)) texts ready.words;
          low = omega (arith, rises, low);
        } in
        let draft : Draft = shown before in
        let rest : Outcome (Option Draft) = arms_draw (part_in g) (map (draw_arm (part_in g)) two.own) draft in
        let k : Option Draft → Outcome Draft = λ found. else_draw other draft found in
        let arm : ArmDraw = record { cond = one.own.cond; body = draws (part_in g) one.own.makes } in
        let taken : Outcome Draft = over_slots.braced arm.body draft in
        let sum : length (one.vias ++ (two.vias ++ [])) ≡ length one.vias + length (two.vias ++ []) = length-append one.vias (two.vias ++ []) in
        let short : length (two.vias ++ []) ≡ length two.vias = ap (λ (l : List ViaCode). length l) (append-nil two.vias) in
        let later : Shows g slots ((arms_lay (map L (map f ys)) last).run (next.via + length one.vias) before) (rest >>= k) =
        subst (λ (l : List Field). Shows g l ((arms_lay (map L (map f ys)) last).run (next.via + length one.vias) before) (rest >>= k)) keeps
        (arms-show ys (and-right (P (f y)) _ plain) (entered-then g (N (f y)) (enter_all (map N (map f ys))) entered) w1.value found scope one.scope (behind next one) w1.next
        (subst (λ (l : List Field). Sees E scope l) (sym keeps) sees)
        (record {
          code = stands-left g.coded.nodes (next.node + length one.nodes) two.nodes [] (stands-right g.coded.nodes next.node one.nodes (two.nodes ++ []) ready.code);
          ways = stands-left g.codes (next.via + length one.vias) two.vias [] (stands-right g.codes next.via one.vias (two.vias ++ []) ready.ways);
          words = subst (λ (n : ℕ). Stands g.written (next.via + n) texts) told (stands-right g.written next.via (V (f y)) texts ready.words);
          low = ready.low;
        })
        before (subst (λ (l : List Field). Kept g l before) (sym keeps) kept) last other
        (λ number is.
        subst (λ (l : List Field). Shows g l ((last_lay last).run number before) (else_draw other draft None)) (sym keeps)
        (there number (omega (arith, is, sum, short))))) in
        shows-by g slots _ _ (part_in g one.own.cond draft.slots >>= (λ test. truth_of test >>= (λ truth. if truth then taken else (rest >>= k))))
        (ap (λ (a : ArmDraw). arms_draw (part_in g) (a ∷ map (draw_arm (part_in g)) two.own) draft >>= k) (draw-arm (part_in g) one.own.cond one.own.makes)
        ∙ tested-then (part_in g one.own.cond draft.slots) (taken >>= (λ after. Ok (Some after))) rest k
        ∙ ap (λ (o : Outcome Draft). part_in g one.own.cond draft.slots >>= (λ test. truth_of test >>= (λ truth. if truth then o else (rest >>= k)))) (taken-is taken other draft))
        (shows-over g (Typed g.types ty.Bool) slots (own.cond before.vars) (part_in g one.own.cond (values_in before.vars)) _ _ (done.tests first before kept)
        (λ v typed.
        shows-over g (λ (b : Bool). Unit {0}) slots (truth_of v) (truth_of v) _ _ (gets-own (λ (b : Bool). Unit {0}) (truth_of v) (truth-sound g.types false v typed))
        (λ truth _.
        shows-if slots truth _ _ _ _
        (done.body first before kept)
        (subst (λ (n : ℕ). Shows g slots ((arms_lay (map L (map f ys)) last).run (next.via + n) before) (rest >>= k)) counted later))))

    pub if-none : (ys : List Y)
        → Does g (proper.item_step (Item-F.If (map P (map f ys)) None)) (rule_structures.enter_step around.known (Item-F.If (map N (map f ys)) None)) (rule_structures.item_step g.site (Item-F.If (map J (map f ys)) None))
        (nodes.item_step g.place (Item-F.If (map R (map f ys)) None)) (standing.via_step (Item-F.If (map V (map f ys)) None)) (item_step g.place g.functions (Item-F.If (map L (map f ys)) None))
    if-none ys = record {
      counts = λ slots next.
          let one = all (map R (map f ys)) slots next in
          let counted : length one.vias + 0 ≡ (arms_lay (map L (map f ys)) None).vias = arms-count ys None slots next in
          let short : length (one.vias ++ []) ≡ length one.vias = ap (λ (l : List ViaCode). length l) (append-nil one.vias) in
          omega (arith, counted, short);
      told =
          let texts : List ViaPart = joined_texts (map V (map f ys)) in
          let told : length texts + 0 ≡ (arms_lay (map L (map f ys)) None).vias = arms-told ys None in
          let short : length (texts ++ []) ≡ length texts = ap (λ (l : List ViaPart). length l) (append-nil texts) in
          omega (arith, told, short);
      widens = record { grows = (then-widens g (enter_all (map N (map f ys))) (λ families. Ok families) (arms-widen ys) (nothing-widens g)).grows };
      does = λ plain entered scope passed slots next h sees.
          let w1 = went (arms_walk (map J (map f ys)) 0 scope) _ passed h in
          let one = all (map R (map f ys)) slots next in
          let texts : List ViaPart = joined_texts (map V (map f ys)) in
          let keeps : one.scope ≡ slots = arms-keep ys slots next in
          let behind : Passed = record { scope = scope; height = above w1.value } in
          subst (λ (p : Passed). Done g (one_does g) p slots next (nodes.item_step g.place (Item-F.If (map R (map f ys)) None) slots next) (texts ++ []) (item_step g.place g.functions (Item-F.If (map L (map f ys)) None)))
          (ok-is behind passed w1.next)
          (record {
            more = [];
            grows = keeps ∙ sym (append-nil slots);
            sees = subst (λ (l : List Field). Sees E scope l) (sym keeps) sees;
            shows = λ ready before kept.
                subst (λ (l : List Field). Shows g l ((arms_lay (map L (map f ys)) None).run next.via before) (one_does g (nodes.item_step g.place (Item-F.If (map R (map f ys)) None) slots next).own (shown before))) (sym keeps)
                (shows-by g slots _ _ _ (draw-if (part_in g) one.own None (shown before))
                (arms-show ys (and-left _ true plain)
                (entered-first g (enter_all (map N (map f ys))) (λ families. Ok families) (nothing-widens g) (record { found = entered.found; more = entered.more; is = entered.is; within = entered.within }))
                0 w1.value scope slots next w1.first sees
                (record {
                  code = stands-left g.coded.nodes next.node one.nodes [] ready.code;
                  ways = stands-left g.codes next.via one.vias [] ready.ways;
                  words = stands-left g.written next.via texts [] ready.words;
                  low = not-cut w1.value ready.low;
                })
                before kept None None (λ number is. shows-ok g slots before kept)));
          });
    }

    pub if-some : (ys : List Y) (P_last : List Bool) (N_last : List Enter) (J_last : List Walk) (R_last : List (Step Make)) (V_last : List (List ViaPart)) (L_last : List Lay)
        → AllDo g (all_so P_last) (enter_all N_last) J_last (all R_last) (joined_texts V_last) (lay_all L_last)
        → Does g (proper.item_step (Item-F.If (map P (map f ys)) (Some P_last))) (rule_structures.enter_step around.known (Item-F.If (map N (map f ys)) (Some N_last))) (rule_structures.item_step g.site (Item-F.If (map J (map f ys)) (Some J_last)))
        (nodes.item_step g.place (Item-F.If (map R (map f ys)) (Some R_last))) (standing.via_step (Item-F.If (map V (map f ys)) (Some V_last))) (item_step g.place g.functions (Item-F.If (map L (map f ys)) (Some L_last)))
    if-some ys P_last N_last J_last R_last V_last L_last body = record {
      counts = λ slots next.
          let one = all (map R (map f ys)) slots next in
          let held : Piece (List Make) = all R_last one.scope (behind next one) in
          let counted : length one.vias + (lay_all L_last).vias ≡ (arms_lay (map L (map f ys)) (Some (lay_all L_last))).vias = arms-count ys (Some (lay_all L_last)) slots next in
          let last : length held.vias ≡ (lay_all L_last).vias = body.counts one.scope (behind next one) in
          let sum : length (one.vias ++ ((held.vias ++ []) ++ [])) ≡ length one.vias + length ((held.vias ++ []) ++ []) = length-append one.vias ((held.vias ++ []) ++ []) in
          let short : length ((held.vias ++ []) ++ []) ≡ length held.vias = ap (λ (l : List ViaCode). length l) (append-nil (held.vias ++ []) ∙ append-nil held.vias) in
          omega (arith, counted, last, sum, short);
      told =
          let texts : List ViaPart = joined_texts (map V (map f ys)) in
          let told : length texts + (lay_all L_last).vias ≡ (arms_lay (map L (map f ys)) (Some (lay_all L_last))).vias = arms-told ys (Some (lay_all L_last)) in
          let last : length (joined_texts V_last) ≡ (lay_all L_last).vias = body.told in
          let sum : length (texts ++ joined_texts V_last) ≡ length texts + length (joined_texts V_last) = length-append texts (joined_texts V_last) in
          omega (arith, told, last, sum);
      widens = record { grows = (then-widens g (enter_all (map N (map f ys))) (enter_all N_last) (arms-widen ys) body.widens).grows };
      does = λ plain entered scope passed slots next h sees.
          let w1 = went (arms_walk (map J (map f ys)) 0 scope) _ passed h in
          let w2 = went (inner J_last w1.value scope) _ passed w1.next in
          let w3 = went (walk_all J_last w1.value scope) _ w2.value w2.first in
          let high : w3.value.height ≡ w2.value = ok-is w3.value.height w2.value w3.next in
          let rises : w1.value ≤ w3.value.height = walk-rises J_last w1.value scope w3.value w3.first in
          let one = all (map R (map f ys)) slots next in
          let texts : List ViaPart = joined_texts (map V (map f ys)) in
          let keeps : one.scope ≡ slots = arms-keep ys slots next in
          let next1 : Next = behind next one in
          let held : Piece (List Make) = all R_last one.scope next1 in
          let sees1 : Sees E scope one.scope = subst (λ (l : List Field). Sees E scope l) (sym keeps) sees in
          let both : Entered g (λ families. enter_all (map N (map f ys)) families >>= (λ more. enter_all N_last more)) = record { found = entered.found; more = entered.more; is = entered.is; within = entered.within } in
          let done = body.does (and-right (all_so (map P (map f ys))) (all_so P_last) plain) (entered-then g (enter_all (map N (map f ys))) (enter_all N_last) both) w1.value scope w3.value one.scope next1 w3.first sees1 in
          let after : Passed = record { scope = scope; height = above w2.value } in
          subst (λ (p : Passed). Done g (one_does g) p slots next (nodes.item_step g.place (Item-F.If (map R (map f ys)) (Some R_last)) slots next) (texts ++ joined_texts V_last) (item_step g.place g.functions (Item-F.If (map L (map f ys)) (Some L_last))))
          (ok-is after passed w2.next)
          (record {
            more = [];
            grows = keeps ∙ sym (append-nil slots);
            sees = sees1;
            shows = λ ready before kept.
                let low : w2.value + 1 ≤ 512 = not-cut w2.value ready.low in
                let even : length texts ≡ length one.vias = arms-even ys slots next in
                subst (λ (l : List Field). Shows g l ((arms_lay (map L (map f ys)) (Some (lay_all L_last))).run next.via before) (one_does g (nodes.item_step g.place (Item-F.If (map R (map f ys)) (Some R_last)) slots next).own (shown before))) (sym keeps)
                (shows-by g slots _ _ _ (draw-if (part_in g) one.own (Some held.own) (shown before))
                (arms-show ys (and-left (all_so (map P (map f ys))) (all_so P_last) plain) (entered-first g (enter_all (map N (map f ys))) (enter_all N_last) body.widens both)
                0 w1.value scope slots next w1.first sees
                (record {
                  code = stands-left g.coded.nodes next.node one.nodes ((held.nodes ++ []) ++ []) ready.code;
                  ways = stands-left g.codes next.via one.vias ((held.vias ++ []) ++ []) ready.ways;
                  words = stands-left g.written next.via texts (joined_texts V_last) ready.words;
                  low = omega (arith, rises, high, low);
                })
                before kept (Some (lay_all L_last)) (Some (all_do g held.own))
                (λ number is.
                subst (λ (n : ℕ). Shows g slots (braced (lay_all L_last) n before) (over_slots.braced (all_do g held.own) (shown before))) (sym is)
                (subst (λ (l : List Field). Shows g l (braced (lay_all L_last) next1.via before) (over_slots.braced (all_do g held.own) (shown before))) keeps
                (braces-show g w3.value one.scope next1 held (joined_texts V_last) (lay_all L_last) done
                (record {
                  code = stands-left g.coded.nodes next1.node held.nodes [] (stands-left g.coded.nodes next1.node (held.nodes ++ []) [] (stands-right g.coded.nodes next.node one.nodes ((held.nodes ++ []) ++ []) ready.code));
                  ways = stands-left g.codes next1.via held.vias [] (stands-left g.codes next1.via (held.vias ++ []) [] (stands-right g.codes next.via one.vias ((held.vias ++ []) ++ []) ready.ways));
                  words = subst (λ (n : ℕ). Stands g.written (next.via + n) (joined_texts V_last)) even (stands-right g.written next.via texts (joined_texts V_last) ready.words);
                  low = omega (arith, high, low);
                })
                before (subst (λ (l : List Field). Kept g l before) (sym keeps) kept))))));
          });
    }
