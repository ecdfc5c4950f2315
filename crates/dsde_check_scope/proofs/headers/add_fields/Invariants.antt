use Rattle.std.proofs.Common.{◌≡◌, drop}
use Rattle.dsde_language.specs.Blocks.{fields_all}
use Rattle.dsde_check_scope.proofs.headers.add_fields.Given as goal

abbrev pub invariant-loop-typed : goal.invariant-loop-typed
invariant-loop-typed l = fields_all l.known l.found (drop l.typed-index l.fields) ≡ fields_all l.known l.fn.found l.fields
