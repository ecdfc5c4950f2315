use Rattle.std.proofs.Common.{List, IfOk, subst}
use Rattle.dsde_syntax.specs.declared.decl.Decl.{Decl}
use Rattle.dsde_language.specs.declared.known.Known.{Known}
use Rattle.dsde_program.specs.Whole.{IsWhole}
use Rattle.dsde_program.proofs.whole.whole_in.Goals as goal

pub returns : goal.returns
returns c =
    subst (λ (known : Known). IfOk c.whole_by.result (λ own. IsWhole own known c.args.model.now.decls)) c.in_ok-known.ensures
    (subst (λ (decls : List Decl). IfOk c.whole_by.result (λ own. IsWhole own c.in_ok-known.known decls)) c.as_slice.ensures c.whole_by.ensures)
