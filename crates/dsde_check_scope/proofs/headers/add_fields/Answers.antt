use Rattle.std.proofs.Common.{List, [], ◌∷◌, ◌++◌, refl, rules}
use Rattle.dsde_syntax.specs.declared.decl.Typed.{Typed}
use Rattle.dsde_values.specs.declared.types.Field.{Field}
use Rattle.dsde_language.specs.declared.known.Known.{Known}
use Rattle.dsde_language.specs.declared.seen.TypeSeen.{TypeSeen}
use Rattle.dsde_language.specs.Judge.{type_of}
use Rattle.dsde_language.specs.Blocks.{new_field, fields_all}
use Rattle.dsde_check_scope.proofs.Rest.{Walk, item_went, test_failed, item_failed}
use Rattle.dsde_check_scope.proofs.headers.add_fields.Goals as goal

abbrev by : Known → Walk Typed (List Field) TypeSeen
by known = record {
  walk = fields_all known;
  test = λ found own. new_field found own.name;
  found = λ own. type_of known own.ty;
  add = λ found own seen. found ++ record { name = own.name.name; ty = seen.ty } ∷ [];
  opens = λ found own rest. refl;
}

pub returns-in_err-new_field : goal.returns-in_err-new_field
returns-in_err-new_field c =
    test_failed (by c.args.known.now) c.args.fields.now c.loop-typed.typed-index c.typed-item.result c.loop-typed.found c.loop-typed.found _ c.in_err-new_field.field-0.0 c.from_residual.result c.loop-typed-test.true c.typed-item.is c.in_err-new_field.ensures.says c.loop-typed.invariant c.from_residual.ensures.0 c.from_residual.ensures.1

pub returns-in_err-seen : goal.returns-in_err-seen
returns-in_err-seen c =
    item_failed (by c.args.known.now) c.args.fields.now c.loop-typed.typed-index c.typed-item.result c.loop-typed.found c.loop-typed.found c.in_ok-new_field.field-0 _ c.in_err-seen.field-0.0 c.from_residual-in_err-seen.result c.loop-typed-test.true c.typed-item.is c.in_ok-new_field.ensures.says c.in_err-seen.ensures c.loop-typed.invariant c.from_residual-in_err-seen.ensures.0 c.from_residual-in_err-seen.ensures.1

pub loop-typed-preserved : goal.loop-typed-preserved
loop-typed-preserved c =
    item_went (by c.args.known.now) c.args.fields.now c.loop-typed.typed-index c.typed-item.result c.loop-typed.found _ c.in_ok-seen.seen c.in_ok-new_field.field-0 _ c.loop-typed-test.true c.typed-item.is c.in_ok-new_field.ensures.says c.in_ok-seen.ensures (search rules) c.loop-typed.invariant
