-- What is laid stands behind a table.
use Rattle.std.proofs.Common.{◌≡◌, ◌≤◌, length, Result, Ok, Err, ap, ◌∙◌, arith, rules}
use Rattle.std.specs.Prelude.{OnOk}
use Rattle.std.proofs.lemmas.List.{length-append}
use Rattle.dsde_syntax.specs.declared.expr.Expr.{Expr}
use Rattle.dsde_language.specs.declared.known.Known.{Known}
use Rattle.dsde_language.specs.Names.{Scope}
use Rattle.dsde_language.specs.Expressions.{resolve}
use Rattle.dsde_program_layout.specs.Lay.{Table, Laid, lay}
use Rattle.dsde_program_layout.specs.LaidIs.{LaidIs}

pub grown : {A E : Type 0} (known : Known) (e : Expr) (scope : Scope) (table after : Table) (result : Result A E) → LaidIs → OnOk result (after ≡ (lay known e scope table).table) → OnOk result (length table ≤ length after)
grown known e scope table after (Ok laid) law is =
    omega (arith, ap length (is ∙ ap (λ (one : Laid). one.table) (law known e scope table)), length-append table ((resolve known e).nodes scope (length table)))
grown known e scope table after (Err error) law is = search rules
