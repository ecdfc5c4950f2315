use Rattle.std.proofs.Common.{◌≡◌, OnOk, subst, sym}
use Rattle.dsde_syntax.specs.declared.decl.Decl.{Decl}
use Rattle.dsde_program.specs.Behind.{behind_decl}
use Rattle.dsde_program.proofs.made.behind_decl.Goals as goal

pub returns-in-Network : goal.returns-in-Network
returns-in-Network c =
    subst (λ (own : Decl). OnOk c.behind_network.result (c.behind_network.new.made ≡ behind_decl c.args.structures.now own c.args.made.now))
    (sym c.in-Network.is) c.behind_network.ensures
