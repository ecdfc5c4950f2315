use Rattle.std.proofs.Common.{[], ◌∷◌, ◌++◌, refl}
use Rattle.dsde_syntax.specs.declared.decl.Typed.{Typed}
use Rattle.dsde_language.specs.declared.known.Known.{Known}
use Rattle.dsde_language.specs.declared.seen.TypeSeen.{TypeSeen}
use Rattle.dsde_language.specs.Judge.{Scope, fixed, type_of, unbound}
use Rattle.dsde_language.specs.Blocks.{params_all}
use Rattle.dsde_check_scope.proofs.Rest.{Walk, item_went, test_failed, item_failed}
use Rattle.dsde_check_scope.proofs.headers.add_params.Goals as goal

abbrev by : Known → Walk Typed Scope TypeSeen
by known = record {
  walk = params_all known;
  test = λ scope own. unbound scope own.name;
  found = λ own. type_of known own.ty;
  add = λ scope own seen. scope ++ fixed own.name seen.ty ∷ [];
  opens = λ scope own rest. refl;
}

pub returns-in_err-unbound : goal.returns-in_err-unbound
returns-in_err-unbound c =
    test_failed (by c.args.known.now) c.args.params.now c.loop-typed.typed-index c.typed-item.result c.loop-typed.scope c.loop-typed.scope _ c.in_err-unbound.field-0.0 c.from_residual.result c.loop-typed-test.true c.typed-item.is c.in_err-unbound.ensures.says c.loop-typed.invariant c.from_residual.ensures.0 c.from_residual.ensures.1

pub returns-in_err-seen : goal.returns-in_err-seen
returns-in_err-seen c =
    item_failed (by c.args.known.now) c.args.params.now c.loop-typed.typed-index c.typed-item.result c.loop-typed.scope c.loop-typed.scope c.in_ok-unbound.field-0 _ c.in_err-seen.field-0.0 c.from_residual-in_err-seen.result c.loop-typed-test.true c.typed-item.is c.in_ok-unbound.ensures.says c.in_err-seen.ensures c.loop-typed.invariant c.from_residual-in_err-seen.ensures.0 c.from_residual-in_err-seen.ensures.1

pub loop-typed-preserved : goal.loop-typed-preserved
loop-typed-preserved c =
    item_went (by c.args.known.now) c.args.params.now c.loop-typed.typed-index c.typed-item.result c.loop-typed.scope _ c.in_ok-seen.seen c.in_ok-unbound.field-0 _ c.loop-typed-test.true c.typed-item.is c.in_ok-unbound.ensures.says c.in_ok-seen.ensures c.in_ok-bind.ensures c.loop-typed.invariant
