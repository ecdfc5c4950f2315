use Rattle.std.proofs.Common.{sym, ap, ◌∙◌}
use Rattle.std.specs.Option.{option_copied_mut}
use Rattle.dsde_grove.specs.Part.{Puts}
use Rattle.dsde_grove.proofs.Trees.{changes-with_value}
use Rattle.dsde_grove.proofs.growth.link.Goals as goal

pub returns-clause-linked : goal.returns-clause-linked
returns-clause-linked g c =
    changes-with_value c.args.bank.now c.args.parent c.unwrap-part.result.now c.put.new.self (Puts record { name = c.args.name; handle = c.args.kid })
    (sym c.get_mut.ensures.value ∙ ap option_copied_mut c.unwrap-part.ensures) c.in-Ok.ensures.put
