use Rattle.std.proofs.Common.{List, [], ◌∷◌, ◌++◌, refl, rules}
use Rattle.dsde_syntax.specs.declared.decl.PortDecl.{PortDecl}
use Rattle.dsde_language.specs.declared.known.Known.{Known}
use Rattle.dsde_language.specs.declared.signatures.Port.{Port}
use Rattle.dsde_language.specs.declared.seen.TypeSeen.{TypeSeen}
use Rattle.dsde_language.specs.Judge.{Scope, type_of}
use Rattle.dsde_language.specs.Blocks.{new_port, ports_all}
use Rattle.dsde_check_scope.proofs.Rest.{Walk, item_went, test_failed, item_failed}
use Rattle.dsde_check_scope.proofs.headers.add_ports.Goals as goal

abbrev by : Known → Scope → Walk PortDecl (List Port) TypeSeen
by known params = record {
  walk = ports_all known params;
  test = λ found own. new_port params found own.name;
  found = λ own. type_of known own.ty;
  add = λ found own seen. found ++ record { out = own.out; name = own.name.name; ty = seen.ty } ∷ [];
  opens = λ found own rest. refl;
}

pub returns-in_err-new_port : goal.returns-in_err-new_port
returns-in_err-new_port c =
    test_failed (by c.args.known.now c.args.params.now) c.args.ports.now c.loop-port.port-index c.port-item.result c.loop-port.found c.loop-port.found _ c.in_err-new_port.field-0.0 c.from_residual.result c.loop-port-test.true c.port-item.is c.in_err-new_port.ensures.says c.loop-port.invariant c.from_residual.ensures.0 c.from_residual.ensures.1

pub returns-in_err-seen : goal.returns-in_err-seen
returns-in_err-seen c =
    item_failed (by c.args.known.now c.args.params.now) c.args.ports.now c.loop-port.port-index c.port-item.result c.loop-port.found c.loop-port.found c.in_ok-new_port.field-0 _ c.in_err-seen.field-0.0 c.from_residual-in_err-seen.result c.loop-port-test.true c.port-item.is c.in_ok-new_port.ensures.says c.in_err-seen.ensures c.loop-port.invariant c.from_residual-in_err-seen.ensures.0 c.from_residual-in_err-seen.ensures.1

pub loop-port-preserved : goal.loop-port-preserved
loop-port-preserved c =
    item_went (by c.args.known.now c.args.params.now) c.args.ports.now c.loop-port.port-index c.port-item.result c.loop-port.found _ c.in_ok-seen.seen c.in_ok-new_port.field-0 _ c.loop-port-test.true c.port-item.is c.in_ok-new_port.ensures.says c.in_ok-seen.ensures (search rules) c.loop-port.invariant
