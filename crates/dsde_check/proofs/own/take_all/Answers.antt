use Rattle.std.proofs.Common.{ℕ, List, [], ◌∷◌, ◌++◌, Err, refl, sym, ap, subst, ◌∙◌}
use Rattle.dsde_syntax.specs.declared.decl.Decl.{Decl}
use Rattle.dsde_syntax.specs.declared.id.Id.{Id}
use Rattle.dsde_language.specs.Steps.{apart}
use Rattle.dsde_language.specs.Rules.{apart_all, own_name}
use Rattle.dsde_check_bodies.specs.given.check_scope.Says.{Says}
use Rattle.dsde_check.proofs.Rest.{Tests, test_went, test_failed}
use Rattle.dsde_check.proofs.own.take_all.Goals as goal

abbrev by : Tests Decl (List (List ℕ))
by = record { walk = apart_all; test = λ names own. apart names (own_name own); add = λ names own. names ++ (own_name own).name ∷ []; opens = λ names own rest. refl }

pub loop-decl-preserved : goal.loop-decl-preserved
loop-decl-preserved c =
    test_went by c.args.decls.now c.loop-decl.decl-index c.decl-item.result c.loop-decl.names _ c.in_ok-take.field-0 _ c.loop-decl-test.true c.decl-item.is
    (ap (apart c.loop-decl.names) c.own_name-at.ensures ∙ c.in_ok-take.ensures.says)
    (c.in_ok-take.ensures.adds ∙ ap (λ (id : Id). c.loop-decl.names ++ id.name ∷ []) (sym c.own_name-at.ensures)) c.loop-decl.invariant

pub returns-in_err-take : goal.returns-in_err-take
returns-in_err-take c =
    test_failed by c.args.decls.now c.loop-decl.decl-index c.decl-item.result c.loop-decl.names _ c.in_err-take.field-0.0 c.from_residual.result c.loop-decl-test.true c.decl-item.is
    (subst (λ id. Says (apart c.loop-decl.names id) (Err c.in_err-take.field-0.0)) (sym c.own_name-at.ensures) c.in_err-take.ensures.says)
    c.loop-decl.invariant c.from_residual.ensures.0 c.from_residual.ensures.1
