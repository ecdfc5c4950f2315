-- `if` does in tables what it does over names.
use Rattle.std.proofs.Common.{◌≡◌, ℕ, ◌+◌, ◌≤◌, max, arith, Bool, true, List, [], ◌∷◌, ◌++◌, map, length, Option, Some, None, Ok, refl, sym, ◌∙◌, ap, subst, append-nil}
use Rattle.dsde_language.specs.given.syntax.expr_Expr.{Expr}
use Rattle.dsde_language.specs.given.syntax.stmt_Stmt_TheOpen.{Stmt-F}
use Rattle.dsde_language.specs.given.values.types_Field.{Field}
use Rattle.dsde_language.specs.given.values.types_Ty.{Ty}
use Rattle.dsde_language.specs.given.values.types_Ty_TheVariants as ty
use Rattle.dsde_language.specs.given.values.types_Types.{Types}
use Rattle.dsde_language.specs.given.values.value_Value.{Value}
use Rattle.dsde_language.specs.declared.known.Around.{Around}
use Rattle.dsde_language.specs.declared.known.Known.{Known}
use Rattle.dsde_language.specs.declared.signatures.Port.{Port}
use Rattle.dsde_language.specs.Steps.{above}
use Rattle.dsde_language.specs.Types.{wanted}
use Rattle.dsde_language.specs.Judge.{judge, test_of}
use Rattle.dsde_language.specs.Judge as rules
use Rattle.dsde_language.specs.Blocks.{Passed, inner}
use Rattle.dsde_language.specs.Blocks as rule_blocks
use Rattle.dsde_language.specs.declared.act.Act.{Act}
use Rattle.dsde_language.specs.declared.act.ActArm.{ActArm}
use Rattle.dsde_language.specs.declared.node_ids.BlockId.{BlockId}
use Rattle.dsde_language.specs.declared.node.Node.{Node}
use Rattle.dsde_language.specs.Expressions.{resolve}
use Rattle.dsde_language.specs.Pieces.{Block, Next, Piece, Step, all, behind}
use Rattle.dsde_language.specs.Statements as said
use Rattle.dsde_language.specs.Outcome.{Outcome, ◌>>=◌, truth_of}
use Rattle.dsde_language.specs.Meaning as meaning
use Rattle.dsde_language.specs.Meaning.{Function, Scene, Walk, ArmWalk, mean, walk_all, arms_walk, last_walk}
use Rattle.dsde_language.specs.MeaningTables.{Coded, means_in, act_flow, arms_flow, last_flow, braced_at}
use Rattle.dsde_language.specs.Proper as proper
use Rattle.dsde_language.specs.Proper.{is_proper, all_so}
use Rattle.dsde_language.specs.Typed.{Typed, Sound, Fits, AllSent, values_in, shown}
use Rattle.dsde_language.specs.Scopes.{Sees}
use Rattle.dsde_sound_expressions.specs.lemmas.Values.{truth-sound}
use Rattle.dsde_sound_expressions.specs.lemmas.Outcomes.{sound-then}
use Rattle.dsde_sound_expressions.specs.lemmas.Types.{wanted-is}
use Rattle.dsde_sound_expressions.specs.lemmas.Steps.{went, ok-is}
use Rattle.dsde_sound_expressions.specs.lemmas.Truths.{and-left, and-right}
use Rattle.dsde_sound_expressions.specs.lemmas.Standing.{stands-left, stands-right}
use Rattle.dsde_sound_expressions.proofs.Shows.{Shows, shows-ok, shows-over, shows-if, shows-where}
use Rattle.dsde_sound_expressions.proofs.Does.{Ready, Done, Does, AllDo, Exprs, within_braces, behind_nodes, block_id, not-cut}
use Rattle.dsde_sound_expressions.proofs.Braces.{walk-rises, braces-show}

module _ (types : Types) (coded : Coded) (whole : Known) (functions : List Function) (around : Around) (ports : List Port) (outs : List Field) (exprs : Exprs types coded whole functions around outs) where
  abbrev E : Bool
  E = around.has_elapsed

  -- An arm in a place by what is judged of it: its condition, and what its braces do.
  pub record ArmDone (found : ℕ) (slots : List Field) (next : Next) (piece : Piece ActArm) (arm : ArmWalk) : Type 0 where
    pub tests : (before : Scene) → Fits types before.vars slots → Sound around.is_total (Typed types ty.Bool) (arm.cond before.vars)
    pub reads : (before : Scene) (depth : ℕ) → Fits types before.vars slots → Ready types coded E outs next piece.nodes piece.blocks (found + 1) depth
        → (means_in coded depth).part piece.own.cond (values_in before.vars) ≡ arm.cond before.vars
    pub body : (before : Scene) (depth : ℕ) → Fits types before.vars slots → AllSent types outs before.sends
        → Shows types outs (Ready types coded E outs next piece.nodes piece.blocks (found + 1) depth) slots (meaning.braced arm.body before) (braced_at (means_in coded depth).run piece.own.then (shown before))

  pub record ArmDoes (proper : Bool) (judged : rule_blocks.ArmWalk) (step : Step ActArm) (arm : ArmWalk) : Type 0 where
    pub keeps : (slots : List Field) (next : Next) → (step slots next).scope ≡ slots
    pub rises : (height found : ℕ) (scope : rules.Scope) → judged height scope ≡ Ok found → height ≤ found
    pub does : proper ≡ true → (height found : ℕ) (scope : rules.Scope) (slots : List Field) (next : Next) → judged height scope ≡ Ok found → Sees E scope slots
        → ArmDone found slots next (step slots next) arm

  pub arm-does : (e : Expr) (P : List Bool) (J : List rule_blocks.Walk) (R : List (Step Act)) (W : List Walk) → AllDo types coded E outs (all_so P) J (all R) (walk_all W)
      → ArmDoes (proper.stmt_arm_step (record { cond = e; body = P })) (rule_blocks.stmt_arm_step around (record { cond = e; body = J }))
      (said.arm_step whole (record { cond = e; body = R })) (meaning.stmt_arm_step whole functions (record { cond = e; body = W }))
  arm-does e P J R W body = record {
    keeps = λ slots next. refl;
    rises = λ height found scope h.
        let w1 = went (test_of (Some (judge around e)) height scope) _ found h in
        let w2 = went (judge around e scope) _ w1.value w1.first in
        let w3 = went (wanted ty.Bool w2.value) _ w1.value w2.next in
        let w4 = went (rule_blocks.walk_all J w1.value scope) _ found w1.next in
        let tested : max height w2.value.height ≡ w1.value = ok-is (max height w2.value.height) w1.value w3.next in
        let high : w4.value.height ≡ found = ok-is w4.value.height found w4.next in
        let rises : w1.value ≤ w4.value.height = walk-rises J w1.value scope w4.value w4.first in
        omega (arith, tested, high, rises);
    does = λ plain height found scope slots next h sees.
        let agrees = exprs e (and-left (is_proper e) (all_so P) plain) in
        let w1 = went (test_of (Some (judge around e)) height scope) _ found h in
        let w2 = went (judge around e scope) _ w1.value w1.first in
        let w3 = went (wanted ty.Bool w2.value) _ w1.value w2.next in
        let w4 = went (rule_blocks.walk_all J w1.value scope) _ found w1.next in
        let t : ty.Bool ≡ w2.value.ty = wanted-is ty.Bool w2.value w3.value w3.first in
        let tested : max height w2.value.height ≡ w1.value = ok-is (max height w2.value.height) w1.value w3.next in
        let high : w4.value.height ≡ found = ok-is w4.value.height found w4.next in
        let rises : w1.value ≤ w4.value.height = walk-rises J w1.value scope w4.value w4.first in
        let nodes : List Node = (resolve whole e).nodes slots next.node in
        let next1 : Next = behind_nodes next (length nodes) in
        let held : Piece Block = all R slots (within_braces next1) in
        let done = body.does (and-right (is_proper e) (all_so P) plain) w1.value scope w4.value slots (within_braces next1) w4.first sees in
        record {
          tests = λ before fits. subst (λ (u : Ty). Sound around.is_total (Typed types u) (mean whole functions e before.vars)) (sym t) (agrees.sound scope slots w2.value before.vars w2.first sees fits);
          reads = λ before depth fits ready.
              let low : found + 1 ≤ 512 = ready.low in
              let deep : found + 1 ≤ depth = ready.deep in
              agrees.reads scope slots w2.value before.vars next.node depth w2.first sees fits (stands-left coded.nodes next.node nodes (held.nodes ++ []) ready.code)
              (omega (arith, tested, high, rises, low)) (omega (arith, tested, high, rises, deep));
          body = λ before depth fits sent.
              shows-where types outs _ _ slots (meaning.braced (walk_all W) before) (braced_at (means_in coded depth).run (block_id next.block) (shown before))
              (braces-show types coded E outs w4.value slots next1 held (walk_all W) done before depth fits sent)
              (λ ready.
              let low : found + 1 ≤ 512 = ready.low in
              let deep : found + 1 ≤ depth = ready.deep in
              record {
                code = stands-left coded.nodes (next.node + length nodes) held.nodes [] (stands-right coded.nodes next.node nodes (held.nodes ++ []) ready.code);
                acts = stands-left coded.blocks next.block (held.own ∷ held.blocks) [] ready.acts;
                low = omega (arith, high, low);
                deep = omega (arith, high, deep);
              });
        };
  }

  module _ {Y X : Type 0} (f : Y → X) (P : X → Bool) (J : X → rule_blocks.ArmWalk) (R : X → Step ActArm) (W : X → ArmWalk) (each : (y : Y) → ArmDoes (P (f y)) (J (f y)) (R (f y)) (W (f y))) where
    pub arms-keep : (ys : List Y) (slots : List Field) (next : Next) → (all (map R (map f ys)) slots next).scope ≡ slots
    arms-keep [] slots next = refl
    arms-keep (y ∷ ys) slots next =
        let one = R (f y) slots next in
        arms-keep ys one.scope (behind next one) ∙ (each y).keeps slots next

    arms-rise : (ys : List Y) (height found : ℕ) (scope : rules.Scope) → rule_blocks.arms_walk (map J (map f ys)) height scope ≡ Ok found → height ≤ found
    arms-rise [] height found scope h = let same : height ≡ found = ok-is height found h in omega (arith, same)
    arms-rise (y ∷ ys) height found scope h =
        let w1 = went (J (f y) height scope) _ found h in
        let first : height ≤ w1.value = (each y).rises height w1.value scope w1.first in
        let rest : w1.value ≤ found = arms-rise ys w1.value found scope w1.next in
        omega (arith, first, rest)

    pub arms-show : (ys : List Y) → all_so (map P (map f ys)) ≡ true → (height found : ℕ) (scope : rules.Scope) (slots : List Field) (next : Next)
        → rule_blocks.arms_walk (map J (map f ys)) height scope ≡ Ok found → Sees E scope slots
        → (before : Scene) (depth : ℕ) → Fits types before.vars slots → AllSent types outs before.sends
        → (If : Type 0) → (If → Ready types coded E outs next (all (map R (map f ys)) slots next).nodes (all (map R (map f ys)) slots next).blocks (found + 1) depth)
        → (last : Option BlockId) (other : Option Walk) → Shows types outs If slots (last_walk other before) (last_flow (means_in coded depth).run last (shown before))
        → Shows types outs If slots (arms_walk (map W (map f ys)) other before) (arms_flow (means_in coded depth) (all (map R (map f ys)) slots next).own last (shown before))
    arms-show [] plain height found scope slots next h sees before depth fits sent If so last other there = there
    arms-show (y ∷ ys) plain height found scope slots next h sees before depth fits sent If so last other there =
        let w1 = went (J (f y) height scope) _ found h in
        let one = R (f y) slots next in
        let two = all (map R (map f ys)) one.scope (behind next one) in
        let own = W (f y) in
        let done = (each y).does (and-left (P (f y)) _ plain) height w1.value scope slots next w1.first sees in
        let keeps : one.scope ≡ slots = (each y).keeps slots next in
        let rises : w1.value ≤ found = arms-rise ys w1.value found scope w1.next in
        let First : Type 0 = Ready types coded E outs next one.nodes one.blocks (w1.value + 1) depth in
        let first : If → First = λ here.
        let ready = so here in
        let low : found + 1 ≤ 512 = ready.low in
        let deep : found + 1 ≤ depth = ready.deep in
        record {
          code = stands-left coded.nodes next.node one.nodes (two.nodes ++ []) ready.code;
          acts = stands-left coded.blocks next.block one.blocks (two.blocks ++ []) ready.acts;
          low = omega (arith, rises, low);
          deep = omega (arith, rises, deep);
        } in
        shows-over types outs {A = Bool} If around.is_total (λ (b : Bool). Unit {0}) slots before
        (own.cond before.vars >>= (λ test. truth_of test)) ((means_in coded depth).part one.own.cond (values_in before.vars) >>= (λ test. truth_of test)) _ _
        (sound-then around.is_total (Typed types ty.Bool) (λ (b : Bool). Unit {0}) (own.cond before.vars) _ (done.tests before fits) (λ v typed. truth-sound types around.is_total v typed))
        (λ here. ap (λ (o : Outcome Value). o >>= (λ test. truth_of test)) (done.reads before depth fits (first here)))
        sent
        (λ truth _.
        shows-if types outs If slots truth _ _ _ _
        (shows-where types outs First If slots (meaning.braced own.body before) (braced_at (means_in coded depth).run one.own.then (shown before)) (done.body before depth fits sent) first)
        (subst (λ (l : List Field). Shows types outs If l (arms_walk (map W (map f ys)) other before) (arms_flow (means_in coded depth) two.own last (shown before))) keeps
        (arms-show ys (and-right (P (f y)) _ plain) w1.value found scope one.scope (behind next one) w1.next
        (subst (λ (l : List Field). Sees E scope l) (sym keeps) sees) before depth
        (subst (λ (l : List Field). Fits types before.vars l) (sym keeps) fits) sent If
        (λ here.
        let ready = so here in
        record {
          code = stands-left coded.nodes (next.node + length one.nodes) two.nodes [] (stands-right coded.nodes next.node one.nodes (two.nodes ++ []) ready.code);
          acts = stands-left coded.blocks (next.block + length one.blocks) two.blocks [] (stands-right coded.blocks next.block one.blocks (two.blocks ++ []) ready.acts);
          low = ready.low;
          deep = ready.deep;
        }) last other
        (subst (λ (l : List Field). Shows types outs If l (last_walk other before) (last_flow (means_in coded depth).run last (shown before))) (sym keeps) there))))

    pub if-none : (ys : List Y)
        → Does types coded E outs act_flow (proper.stmt_step (Stmt-F.If (map P (map f ys)) None)) (rule_blocks.stmt_step around ports (Stmt-F.If (map J (map f ys)) None))
        (said.stmt_step whole outs (Stmt-F.If (map R (map f ys)) None)) (meaning.stmt_step whole functions outs (Stmt-F.If (map W (map f ys)) None))
    if-none ys = record {
      does = λ plain scope passed slots next h sees.
          let w1 = went (rule_blocks.arms_walk (map J (map f ys)) 0 scope) _ passed h in
          let one = all (map R (map f ys)) slots next in
          let keeps : one.scope ≡ slots = arms-keep ys slots next in
          let behind : Passed = record { scope = scope; height = above w1.value } in
          subst (λ (p : Passed). Done types coded E outs act_flow p slots next (said.stmt_step whole outs (Stmt-F.If (map R (map f ys)) None) slots next) (meaning.stmt_step whole functions outs (Stmt-F.If (map W (map f ys)) None)))
          (ok-is behind passed w1.next)
          (record {
            more = [];
            grows = keeps ∙ sym (append-nil slots);
            sees = subst (λ (l : List Field). Sees E scope l) (sym keeps) sees;
            shows = λ before depth fits sent.
                let If : Type 0 = Ready types coded E outs next (one.nodes ++ []) (one.blocks ++ []) (above w1.value) depth in
                subst (λ (l : List Field). Shows types outs If l (arms_walk (map W (map f ys)) None before) (arms_flow (means_in coded depth) one.own None (shown before))) (sym keeps)
                (arms-show ys (and-left _ true plain) 0 w1.value scope slots next w1.first sees before depth fits sent If
                (λ ready. record {
                  code = stands-left coded.nodes next.node one.nodes [] ready.code;
                  acts = stands-left coded.blocks next.block one.blocks [] ready.acts;
                  low = not-cut w1.value 512 ready.low ready.low;
                  deep = not-cut w1.value depth ready.low ready.deep;
                }) None None (shows-ok types outs If slots before fits sent));
          });
    }

    pub if-some : (ys : List Y) (P_last : List Bool) (J_last : List rule_blocks.Walk) (R_last : List (Step Act)) (W_last : List Walk) → AllDo types coded E outs (all_so P_last) J_last (all R_last) (walk_all W_last)
        → Does types coded E outs act_flow (proper.stmt_step (Stmt-F.If (map P (map f ys)) (Some P_last))) (rule_blocks.stmt_step around ports (Stmt-F.If (map J (map f ys)) (Some J_last)))
        (said.stmt_step whole outs (Stmt-F.If (map R (map f ys)) (Some R_last))) (meaning.stmt_step whole functions outs (Stmt-F.If (map W (map f ys)) (Some W_last)))
    if-some ys P_last J_last R_last W_last body = record {
      does = λ plain scope passed slots next h sees.
          let w1 = went (rule_blocks.arms_walk (map J (map f ys)) 0 scope) _ passed h in
          let w2 = went (inner J_last w1.value scope) _ passed w1.next in
          let w3 = went (rule_blocks.walk_all J_last w1.value scope) _ w2.value w2.first in
          let high : w3.value.height ≡ w2.value = ok-is w3.value.height w2.value w3.next in
          let rises : w1.value ≤ w3.value.height = walk-rises J_last w1.value scope w3.value w3.first in
          let one = all (map R (map f ys)) slots next in
          let keeps : one.scope ≡ slots = arms-keep ys slots next in
          let next1 : Next = behind next one in
          let held : Piece Block = all R_last one.scope (within_braces next1) in
          let sees1 : Sees E scope one.scope = subst (λ (l : List Field). Sees E scope l) (sym keeps) sees in
          let done = body.does (and-right (all_so (map P (map f ys))) (all_so P_last) plain) w1.value scope w3.value one.scope (within_braces next1) w3.first sees1 in
          let after : Passed = record { scope = scope; height = above w2.value } in
          subst (λ (p : Passed). Done types coded E outs act_flow p slots next (said.stmt_step whole outs (Stmt-F.If (map R (map f ys)) (Some R_last)) slots next) (meaning.stmt_step whole functions outs (Stmt-F.If (map W (map f ys)) (Some W_last))))
          (ok-is after passed w2.next)
          (record {
            more = [];
            grows = keeps ∙ sym (append-nil slots);
            sees = sees1;
            shows = λ before depth fits sent.
                let acts : List Block = held.own ∷ held.blocks in
                let If : Type 0 = Ready types coded E outs next (one.nodes ++ ((held.nodes ++ []) ++ [])) (one.blocks ++ ((acts ++ []) ++ [])) (above w2.value) depth in
                subst (λ (l : List Field). Shows types outs If l (arms_walk (map W (map f ys)) (Some (walk_all W_last)) before) (arms_flow (means_in coded depth) one.own (Some (block_id next1.block)) (shown before))) (sym keeps)
                (arms-show ys (and-left (all_so (map P (map f ys))) (all_so P_last) plain) 0 w1.value scope slots next w1.first sees before depth fits sent If
                (λ ready.
                let low : w2.value + 1 ≤ 512 = not-cut w2.value 512 ready.low ready.low in
                let deep : w2.value + 1 ≤ depth = not-cut w2.value depth ready.low ready.deep in
                record {
                  code = stands-left coded.nodes next.node one.nodes ((held.nodes ++ []) ++ []) ready.code;
                  acts = stands-left coded.blocks next.block one.blocks ((acts ++ []) ++ []) ready.acts;
                  low = omega (arith, rises, high, low);
                  deep = omega (arith, rises, high, deep);
                }) (Some (block_id next1.block)) (Some (walk_all W_last))
                (subst (λ (l : List Field). Shows types outs If l (meaning.braced (walk_all W_last) before) (braced_at (means_in coded depth).run (block_id next1.block) (shown before))) keeps
                (shows-where types outs _ If one.scope (meaning.braced (walk_all W_last) before) (braced_at (means_in coded depth).run (block_id next1.block) (shown before))
                (braces-show types coded E outs w3.value one.scope next1 held (walk_all W_last) done before depth (subst (λ (l : List Field). Fits types before.vars l) (sym keeps) fits) sent)
                (λ ready.
                let low : w2.value + 1 ≤ 512 = not-cut w2.value 512 ready.low ready.low in
                let deep : w2.value + 1 ≤ depth = not-cut w2.value depth ready.low ready.deep in
                record {
                  code = stands-left coded.nodes next1.node held.nodes [] (stands-left coded.nodes next1.node (held.nodes ++ []) [] (stands-right coded.nodes next.node one.nodes ((held.nodes ++ []) ++ []) ready.code));
                  acts = stands-left coded.blocks next1.block acts [] (stands-left coded.blocks next1.block (acts ++ []) [] (stands-right coded.blocks next.block one.blocks ((acts ++ []) ++ []) ready.acts));
                  low = omega (arith, high, low);
                  deep = omega (arith, high, deep);
                }))));
          });
    }
