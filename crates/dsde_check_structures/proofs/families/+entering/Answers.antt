use Rattle.std.proofs.Common.{◌≡◌, ℕ, Bool, List, Option, Err, map, sym, ap, subst, ◌∙◌, rules}
use Rattle.dsde_syntax.specs.declared.id.Id.{Id}
use Rattle.dsde_syntax.specs.declared.expr.Expr.{Expr}
use Rattle.dsde_syntax.specs.declared.item.Bracket.{Bracket}
use Rattle.dsde_syntax.specs.declared.item.ItemArm.{ItemArm}
use Rattle.dsde_syntax.specs.declared.item.Item.TheVariants as item
use Rattle.dsde_syntax.specs.declared.item.Item.TheFolds.{the_lemmas}
use Rattle.dsde_language.specs.declared.known.Known.{Known}
use Rattle.dsde_language.specs.declared.signatures.Family.{Family}
use Rattle.dsde_language.specs.RuleStructures.{comp_family, enter, enter_all}
use Rattle.dsde_check_expressions.specs.given.check_scope.Says.{Leaves}
use Rattle.dsde_check_structures.specs.Parts.{enter_arm}
use Rattle.dsde_check_structures.proofs.Entering.{enter_went, enter_failed}
use Rattle.dsde_check_structures.proofs.families.+entering.Goals as goal

-- what a `comp` brings, by its own rule
enter_comp : (known : Known) (at : ℕ) (name : Id) (index : Option Bracket) (soft : Bool) (model : Id) (args : List Expr) (families : List Family) → enter known (item.Comp at name index soft model args) families ≡ comp_family known at name model families
enter_comp known at name index soft model args families = ap (λ i. enter known i families) (sym (item.rolls-Comp at name index soft model args)) ∙ search (rules, the_lemmas)

pub enter-returns-in-Comp : goal.enter-returns-in-Comp
enter-returns-in-Comp t c =
    subst (λ meant. Leaves meant c.comp_family.result c.comp_family.new.families)
    (sym (ap (λ i. enter c.args.known.now i c.args.families.now) c.in-Comp.is ∙ enter_comp c.args.known.now c.in-Comp.at c.in-Comp.name c.in-Comp.index c.in-Comp.soft c.in-Comp.model c.in-Comp.args c.args.families.now))
    c.comp_family.ensures

-- what an arm of a choice brings: what its items bring
arm_brings : (known : Known) (arm : ItemArm) (families : List Family) → enter_arm known arm families ≡ enter_all (map (enter known) arm.body) families
arm_brings known arm families = search (rules, the_lemmas)

pub enter_all-loop-item-preserved : goal.enter_all-loop-item-preserved
enter_all-loop-item-preserved t c =
    enter_went (enter c.args.known.now) c.args.items.now c.loop-item.item-index c.item-item.result c.loop-item.families _ _ c.loop-item-test.true c.item-item.is c.in_ok-enter.ensures c.loop-item.invariant

pub enter_all-returns-in_err-enter : goal.enter_all-returns-in_err-enter
enter_all-returns-in_err-enter t c =
    enter_failed (enter c.args.known.now) c.args.items.now c.loop-item.item-index c.item-item.result c.loop-item.families c.enter.new.families _ _ c.in_err-enter.field-0.0 c.from_residual.result c.loop-item-test.true c.item-item.is c.in_err-enter.ensures c.loop-item.invariant c.from_residual.ensures.0 c.from_residual.ensures.1

pub enter_arms-loop-arm-preserved : goal.enter_arms-loop-arm-preserved
enter_arms-loop-arm-preserved t c =
    let brings = arm_brings c.args.known.now c.arm-item.result c.loop-arm.families ∙ ap (λ body. enter_all (map (enter c.args.known.now) body) c.loop-arm.families) (sym c.as_slice.ensures) in
    enter_went (enter_arm c.args.known.now) c.args.arms.now c.loop-arm.arm-index c.arm-item.result c.loop-arm.families _ _ c.loop-arm-test.true c.arm-item.is (brings ∙ c.in_ok-enter_all.ensures) c.loop-arm.invariant

pub enter_arms-returns-in_err-enter_all : goal.enter_arms-returns-in_err-enter_all
enter_arms-returns-in_err-enter_all t c =
    let brings = arm_brings c.args.known.now c.arm-item.result c.loop-arm.families ∙ ap (λ body. enter_all (map (enter c.args.known.now) body) c.loop-arm.families) (sym c.as_slice.ensures) in
    enter_failed (enter_arm c.args.known.now) c.args.arms.now c.loop-arm.arm-index c.arm-item.result c.loop-arm.families c.enter_all.new.families _ _ c.in_err-enter_all.field-0.0 c.from_residual.result c.loop-arm-test.true c.arm-item.is
    (subst (λ meant. Leaves meant (Err c.in_err-enter_all.field-0.0) c.enter_all.new.families) (sym brings) c.in_err-enter_all.ensures) c.loop-arm.invariant c.from_residual.ensures.0 c.from_residual.ensures.1
