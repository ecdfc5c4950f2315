-- `if`.
use Rattle.std.proofs.Common.{◌≡◌, ℕ, ◌+◌, Bool, true, false, if◌then◌else◌, List, [], ◌∷◌, map, subst, Option, Some, None, Ok}
use Rattle.dsde_syntax.specs.declared.expr.Expr.{Expr}
use Rattle.dsde_syntax.specs.declared.item.Item.TheOpen.{Item-F}
use Rattle.dsde_values.specs.declared.types.Field.{Field}
use Rattle.dsde_language.specs.Steps.{above}
use Rattle.dsde_language.specs.Judge.{judge, test_of}
use Rattle.dsde_language.specs.Judge as rules
use Rattle.dsde_language.specs.Blocks.{Passed, Walk, ArmWalk, walk_all, inner, arms_walk}
use Rattle.dsde_language.specs.RuleStructures as rule_structures
use Rattle.dsde_language.specs.Outcome.{truth_of}
use Rattle.dsde_language.specs.Proper.{is_proper, all_so}
use Rattle.dsde_language.specs.Scopes.{Sees}
use Rattle.dsde_sound_expressions.specs.Items as proper
use Rattle.dsde_sound_structures.specs.given.executive_plans.Layout.{Layout, Lay, ArmLay, lay_all, braced, last_lay, arms_lay, item_step, item_arm_step}
use Rattle.dsde_sound_expressions.specs.lemmas.Steps.{went, ok-is}
use Rattle.dsde_sound_expressions.specs.lemmas.Truths.{and-left, and-right}
use Rattle.dsde_image_rows.proofs.Laid.{Ground, Kept, bound, as-in}
use Rattle.dsde_image_rows.proofs.Does.{E, Keeps, Done, Does, AllDo, same-done, braced-keeps}

module _ (g : Ground) where
  -- the braces of an arm
  pub record ArmDoes (proper : Bool) (judged : ArmWalk) (arm : ArmLay) : Type 0 where
    pub does : proper ≡ true → (height found : ℕ) (scope : rules.Scope) (slots : List Field) → judged height scope ≡ Ok found → Sees (E g) scope slots
        → (number : ℕ) (before after : Layout) → Kept g slots before → braced arm.body number before ≡ Ok after → Kept g slots after

  pub arm-does : (e : Expr) (P : List Bool) (J : List Walk) (L : List Lay) → AllDo g (all_so P) J (lay_all L)
      → ArmDoes (proper.item_arm_step (record { cond = e; body = P })) (rule_structures.item_arm_step g.site (record { cond = e; body = J })) (item_arm_step g.place g.functions (record { cond = e; body = L }))
  arm-does e P J L body = record {
    does = λ plain height found scope slots h sees number before after kept is.
        let w1 = went (test_of (Some (judge g.site.around e)) height scope) _ found h in
        let w2 = went (walk_all J w1.value scope) _ found w1.next in
        braced-keeps g w2.value slots (lay_all L) (body.does (and-right (is_proper e) (all_so P) plain) w1.value scope w2.value slots w2.first sees) number before after kept is;
  }

  chosen-keeps : (slots : List Field) (truth : Bool) (arm : ArmLay) (rest : Lay)
      → ((number : ℕ) (before after : Layout) → Kept g slots before → braced arm.body number before ≡ Ok after → Kept g slots after)
      → Keeps g slots slots rest → (number : ℕ) (before after : Layout) → Kept g slots before
      → (if truth then braced arm.body number before else rest.run (number + arm.body.vias) before) ≡ Ok after → Kept g slots after
  chosen-keeps slots true arm rest own keeps number before after kept is = own number before after kept is
  chosen-keeps slots false arm rest own keeps number before after kept is = keeps (number + arm.body.vias) before after kept is

  module _ {Y X : Type 0} (f : Y → X) (P : X → Bool) (J : X → ArmWalk) (L : X → ArmLay) (each : (y : Y) → ArmDoes (P (f y)) (J (f y)) (L (f y))) where
    arms-keep : (ys : List Y) → all_so (map P (map f ys)) ≡ true → (height found : ℕ) (scope : rules.Scope) (slots : List Field) → arms_walk (map J (map f ys)) height scope ≡ Ok found → Sees (E g) scope slots
        → (last : Option Lay) → Keeps g slots slots (last_lay last) → Keeps g slots slots (arms_lay (map L (map f ys)) last)
    arms-keep [] plain height found scope slots h sees last there number before after kept is = there number before after kept is
    arms-keep (y ∷ ys) plain height found scope slots h sees last there number before after kept is =
        let w1 = went (J (f y) height scope) _ found h in
        let arm : ArmLay = L (f y) in
        let rest : Lay = arms_lay (map L (map f ys)) last in
        bound (Kept g slots after) (arm.cond before.vars) _ after is (λ value _ later.
        bound (Kept g slots after) (truth_of value) _ after later (λ truth _ chosen.
        chosen-keeps slots truth arm rest
        ((each y).does (and-left (P (f y)) _ plain) height w1.value scope slots w1.first sees)
        (arms-keep ys (and-right (P (f y)) _ plain) w1.value found scope slots w1.next sees last there)
        number before after kept chosen))

    pub if-none : (ys : List Y)
        → Does g (proper.item_step (Item-F.If (map P (map f ys)) None)) (rule_structures.item_step g.site (Item-F.If (map J (map f ys)) None)) (item_step g.place g.functions (Item-F.If (map L (map f ys)) None))
    if-none ys = record {
      does = λ plain scope passed slots h sees.
          let w1 = went (arms_walk (map J (map f ys)) 0 scope) _ passed h in
          let behind : Passed = record { scope = scope; height = above w1.value } in
          let own : Lay = item_step g.place g.functions (Item-F.If (map L (map f ys)) None) in
          subst (λ (p : Passed). Done g p slots own) (ok-is behind passed w1.next)
          (same-done g behind slots own sees
          (arms-keep ys (and-left _ true plain) 0 w1.value scope slots w1.first sees None (λ number before after kept is. as-in g slots before after is kept)));
    }

    pub if-some : (ys : List Y) (P_last : List Bool) (J_last : List Walk) (L_last : List Lay) → AllDo g (all_so P_last) J_last (lay_all L_last)
        → Does g (proper.item_step (Item-F.If (map P (map f ys)) (Some P_last))) (rule_structures.item_step g.site (Item-F.If (map J (map f ys)) (Some J_last))) (item_step g.place g.functions (Item-F.If (map L (map f ys)) (Some L_last)))
    if-some ys P_last J_last L_last body = record {
      does = λ plain scope passed slots h sees.
          let w1 = went (arms_walk (map J (map f ys)) 0 scope) _ passed h in
          let w2 = went (inner J_last w1.value scope) _ passed w1.next in
          let w3 = went (walk_all J_last w1.value scope) _ w2.value w2.first in
          let behind : Passed = record { scope = scope; height = above w2.value } in
          let own : Lay = item_step g.place g.functions (Item-F.If (map L (map f ys)) (Some L_last)) in
          let done = body.does (and-right (all_so (map P (map f ys))) (all_so P_last) plain) w1.value scope w3.value slots w3.first sees in
          subst (λ (p : Passed). Done g p slots own) (ok-is behind passed w2.next)
          (same-done g behind slots own sees
          (arms-keep ys (and-left (all_so (map P (map f ys))) (all_so P_last) plain) 0 w1.value scope slots w1.first sees (Some (lay_all L_last))
          (λ number before after kept is. braced-keeps g w3.value slots (lay_all L_last) done number before after kept is)));
    }
