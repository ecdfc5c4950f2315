-- `if`: its conditions and what stands in its braces.
use Rattle.std.proofs.Common.{◌≡◌, ◌+◌, ◌≤◌, max, arith, Bool, true, List, [], ◌∷◌, ◌++◌, map, length, Some, None, refl, sym, subst}
use Rattle.dsde_sim_tree.specs.given.syntax.expr_Expr.{Expr}
use Rattle.dsde_sim_tree.specs.given.syntax.item_Item_TheOpen.{Item-F}
use Rattle.dsde_values.specs.declared.types.Field.{Field}
use Rattle.dsde_values.specs.declared.types.Ty.TheVariants as ty
use Rattle.dsde_sim_tree.specs.given.language.Steps.{above}
use Rattle.dsde_sim_tree.specs.given.language.Types.{wanted}
use Rattle.dsde_sim_tree.specs.given.language.Judge.{judge, test_of}
use Rattle.dsde_sim_tree.specs.given.language.Blocks.{Passed, Walk, ArmWalk, walk_all, inner, arms_walk}
use Rattle.dsde_sim_tree.specs.given.language.RuleStructures as rule_structures
use Rattle.dsde_sim_tree.specs.given.language.make_Make.{Make}
use Rattle.dsde_sim_tree.specs.given.language.make_MakeArm.{MakeArm}
use Rattle.dsde_sim_tree.specs.given.language.node_Node.{Node}
use Rattle.dsde_sim_tree.specs.given.language.Expressions.{resolve, expr_id}
use Rattle.dsde_sim_tree.specs.given.language.Items as nodes
use Rattle.dsde_sim_tree.specs.given.language.Pieces.{Next, Piece, Step, all, behind}
use Rattle.dsde_sim_tree.specs.given.language.Proper.{is_proper, all_so}
use Rattle.dsde_sim_tree.specs.given.language.Scopes.{Sees}
use Rattle.dsde_sound_names.specs.given.sound_expressions.Items as proper
use Rattle.dsde_sound_names.specs.given.sound_expressions.lemmas_Types.{wanted-is}
use Rattle.dsde_sound_names.specs.given.sound_expressions.lemmas_Steps.{went, ok-is}
use Rattle.dsde_sound_names.specs.given.sound_expressions.lemmas_Truths.{and-left, and-right}
use Rattle.dsde_sound_names.specs.given.sound_expressions.lemmas_Standing.{stands-left, stands-right}
use Rattle.dsde_sound_structures.specs.Numbers.{numbers_in, arm_numbers, numbers_of}
use Rattle.dsde_sound_structures.specs.Spots.{Look, SpotsStand, spot_as, look_all, look_step, look_arm_step}
use Rattle.dsde_sound_structures.proofs.Numbers.{numbers-arm, numbers-if-none, numbers-if-some}
use Rattle.dsde_sound_structures.proofs.MakeGround.{Ground, E, whole, around, table, expr-as, spots-append}
use Rattle.dsde_sound_structures.proofs.MakeDoes.{Done, Does, AllDo, ArmDoes, arms_numbers, arms-do, not-cut, walk-rises}

module _ (g : Ground) where
  pub arm-does : (e : Expr) (P : List Bool) (J : List Walk) (R : List (Step Make)) (K : List Look) → AllDo g (all_so P) J (all R) (look_all K)
      → ArmDoes g arm_numbers (proper.item_arm_step (record { cond = e; body = P })) (rule_structures.item_arm_step g.site (record { cond = e; body = J }))
      (nodes.item_arm_step g.place (record { cond = e; body = R })) (look_arm_step (whole g) (record { cond = e; body = K }))
  arm-does e P J R K body = record {
    keeps = λ slots next. refl;
    holds = λ slots. refl;
    rises = λ height found scope h.
        let w1 = went (test_of (Some (judge (around g) e)) height scope) _ found h in
        let w2 = went (judge (around g) e scope) _ w1.value w1.first in
        let w3 = went (wanted ty.Bool w2.value) _ w1.value w2.next in
        let w4 = went (walk_all J w1.value scope) _ found w1.next in
        let tested : max height w2.value.height ≡ w1.value = ok-is (max height w2.value.height) w1.value w3.next in
        let high : w4.value.height ≡ found = ok-is w4.value.height found w4.next in
        let rises : w1.value ≤ w4.value.height = walk-rises J w1.value scope w4.value w4.first in
        omega (arith, tested, high, rises);
    does = λ plain height found scope slots next h sees stands low.
        let w1 = went (test_of (Some (judge (around g) e)) height scope) _ found h in
        let w2 = went (judge (around g) e scope) _ w1.value w1.first in
        let w3 = went (wanted ty.Bool w2.value) _ w1.value w2.next in
        let w4 = went (walk_all J w1.value scope) _ found w1.next in
        let t : ty.Bool ≡ w2.value.ty = wanted-is ty.Bool w2.value w3.value w3.first in
        let tested : max height w2.value.height ≡ w1.value = ok-is (max height w2.value.height) w1.value w3.next in
        let high : w4.value.height ≡ found = ok-is w4.value.height found w4.next in
        let rises : w1.value ≤ w4.value.height = walk-rises J w1.value scope w4.value w4.first in
        let code : List Node = (resolve (whole g) e).nodes slots next.node in
        let next1 : Next = record next { node = next.node + length code } in
        let held : Piece (List Make) = all R slots next1 in
        let done = body.does (and-right (is_proper e) (all_so P) plain) w1.value scope w4.value slots next1 w4.first sees in
        subst (λ l. SpotsStand g.model l (spot_as ty.Bool slots e ∷ (look_all K slots).spots)) (sym (numbers-arm (expr_id next.node) held.own)) (
          expr-as g e ty.Bool scope slots w2.value next.node (and-left (is_proper e) (all_so P) plain) w2.first (sym t) sees
              (stands-left (table g) next.node code (held.nodes ++ []) stands) (omega (arith, tested, high, rises, low)),
          done.stand (stands-left (table g) next1.node held.nodes [] (stands-right (table g) next.node code (held.nodes ++ []) stands)) (omega (arith, high, low)),
        );
  }

  module _ {Y X : Type 0} (f : Y → X) (P : X → Bool) (J : X → ArmWalk) (R : X → Step MakeArm) (K : X → Look) (each : (y : Y) → ArmDoes g arm_numbers (P (f y)) (J (f y)) (R (f y)) (K (f y))) where
    pub if-none : (ys : List Y)
        → Does g (proper.item_step (Item-F.If (map P (map f ys)) None)) (rule_structures.item_step g.site (Item-F.If (map J (map f ys)) None))
        (nodes.item_step g.place (Item-F.If (map R (map f ys)) None)) (look_step (whole g) (Item-F.If (map K (map f ys)) None))
    if-none ys = record {
      does = λ plain scope passed slots next h sees.
          let arms = arms-do g f P J R K each ys in
          let w1 = went (arms_walk (map J (map f ys)) 0 scope) _ passed h in
          let one = all (map R (map f ys)) slots next in
          let keeps : one.scope ≡ slots = arms.keeps slots next in
          let behind : Passed = record { scope = scope; height = above w1.value } in
          subst (λ (p : Passed). Done g numbers_in p next (nodes.item_step g.place (Item-F.If (map R (map f ys)) None) slots next) (look_step (whole g) (Item-F.If (map K (map f ys)) None) slots))
          (ok-is behind passed w1.next)
          (record {
            same = keeps;
            sees = subst (λ (l : List Field). Sees (E g) scope l) (sym keeps) sees;
            stand = λ stands low.
                subst (λ l. SpotsStand g.model l ((look_all (map K (map f ys)) slots).spots ++ [])) (sym (numbers-if-none one.own))
                (spots-append g.model (arms_numbers g one.own) [] (look_all (map K (map f ys)) slots).spots []
                (arms.does (and-left _ true plain) 0 w1.value scope slots next w1.first sees (stands-left (table g) next.node one.nodes [] stands)
                (let small : w1.value + 1 ≤ 512 = not-cut w1.value low in omega (arith, small)))
                tt);
          });
    }

    pub if-some : (ys : List Y) (P_last : List Bool) (J_last : List Walk) (R_last : List (Step Make)) (K_last : List Look) → AllDo g (all_so P_last) J_last (all R_last) (look_all K_last)
        → Does g (proper.item_step (Item-F.If (map P (map f ys)) (Some P_last))) (rule_structures.item_step g.site (Item-F.If (map J (map f ys)) (Some J_last)))
        (nodes.item_step g.place (Item-F.If (map R (map f ys)) (Some R_last))) (look_step (whole g) (Item-F.If (map K (map f ys)) (Some K_last)))
    if-some ys P_last J_last R_last K_last body = record {
      does = λ plain scope passed slots next h sees.
          let arms = arms-do g f P J R K each ys in
          let w1 = went (arms_walk (map J (map f ys)) 0 scope) _ passed h in
          let w2 = went (inner J_last w1.value scope) _ passed w1.next in
          let w3 = went (walk_all J_last w1.value scope) _ w2.value w2.first in
          let high : w3.value.height ≡ w2.value = ok-is w3.value.height w2.value w3.next in
          let rises : w1.value ≤ w3.value.height = walk-rises J_last w1.value scope w3.value w3.first in
          let one = all (map R (map f ys)) slots next in
          let keeps : one.scope ≡ slots = arms.keeps slots next in
          let next1 : Next = behind next one in
          let held : Piece (List Make) = all R_last one.scope next1 in
          let sees1 : Sees (E g) scope one.scope = subst (λ (l : List Field). Sees (E g) scope l) (sym keeps) sees in
          let done = body.does (and-right (all_so (map P (map f ys))) (all_so P_last) plain) w1.value scope w3.value one.scope next1 w3.first sees1 in
          let after : Passed = record { scope = scope; height = above w2.value } in
          let spots = (look_all (map K (map f ys)) slots).spots in
          subst (λ (p : Passed). Done g numbers_in p next (nodes.item_step g.place (Item-F.If (map R (map f ys)) (Some R_last)) slots next) (look_step (whole g) (Item-F.If (map K (map f ys)) (Some K_last)) slots))
          (ok-is after passed w2.next)
          (record {
            same = keeps;
            sees = sees1;
            stand = λ stands low.
                let small : w2.value + 1 ≤ 512 = not-cut w2.value low in
                subst (λ l. SpotsStand g.model l (spots ++ (look_all K_last slots).spots)) (sym (numbers-if-some one.own held.own))
                (spots-append g.model (arms_numbers g one.own) (numbers_of held.own) spots (look_all K_last slots).spots
                (arms.does (and-left (all_so (map P (map f ys))) (all_so P_last) plain) 0 w1.value scope slots next w1.first sees
                (stands-left (table g) next.node one.nodes ((held.nodes ++ []) ++ []) stands) (omega (arith, rises, high, small)))
                (subst (λ (l : List Field). SpotsStand g.model (numbers_of held.own) (look_all K_last l).spots) keeps
                (done.stand (stands-left (table g) next1.node held.nodes [] (stands-left (table g) next1.node (held.nodes ++ []) [] (stands-right (table g) next.node one.nodes ((held.nodes ++ []) ++ []) stands)))
                (omega (arith, high, small)))));
          });
    }
