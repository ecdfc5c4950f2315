use Rattle.std.proofs.Common.{ℕ, List, [], ◌∷◌, ◌++◌, Err, refl, sym, ap, subst, ◌∙◌}
use Rattle.dsde_syntax.specs.declared.id.Id.{Id}
use Rattle.dsde_language.specs.Steps.{apart}
use Rattle.dsde_language.specs.Rules.{distinct}
use Rattle.dsde_check_bodies.specs.given.check_scope.Says.{Says}
use Rattle.dsde_check.proofs.Rest.{Tests, test_went, test_failed}
use Rattle.dsde_check.proofs.own.take_ids.Goals as goal

abbrev by : Tests Id (List (List ℕ))
by = record { walk = distinct; test = apart; add = λ names id. names ++ id.name ∷ []; opens = λ names id rest. refl }

abbrev named : Id → List ℕ → Id
named id name = record { name = name; at = id.at }

pub loop-id-preserved : goal.loop-id-preserved
loop-id-preserved c =
    test_went by c.args.ids.now c.loop-id.id-index c.id-item.result c.loop-id.names _ c.in_ok-take.field-0 _ c.loop-id-test.true c.id-item.is
    (ap (λ name. apart c.loop-id.names (named c.id-item.result name)) (sym c.as_slice.ensures) ∙ c.in_ok-take.ensures.says)
    (c.in_ok-take.ensures.adds ∙ ap (λ name. c.loop-id.names ++ name ∷ []) c.as_slice.ensures) c.loop-id.invariant

pub returns-in_err-take : goal.returns-in_err-take
returns-in_err-take c =
    test_failed by c.args.ids.now c.loop-id.id-index c.id-item.result c.loop-id.names _ c.in_err-take.field-0.0 c.from_residual.result c.loop-id-test.true c.id-item.is
    (subst (λ name. Says (apart c.loop-id.names (named c.id-item.result name)) (Err c.in_err-take.field-0.0)) c.as_slice.ensures c.in_err-take.ensures.says)
    c.loop-id.invariant c.from_residual.ensures.0 c.from_residual.ensures.1
