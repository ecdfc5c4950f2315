use Rattle.std.proofs.Common.{sym, ap, ◌∙◌}
use Rattle.std.specs.Option.{option_copied_mut}
use Rattle.dsde_grove.specs.Part.{Forgets}
use Rattle.dsde_grove.proofs.Trees.{changes-with_value}
use Rattle.dsde_grove.proofs.growth.unlink.Goals as goal

pub returns-in-Some-clause-unlinked : goal.returns-in-Some-clause-unlinked
returns-in-Some-clause-unlinked g c =
    rw c.in-Some.is (changes-with_value c.args.bank.now c.in-Some.parent c.unwrap-part.result.now c.forget.new.self (Forgets c.args.name.now)
    (sym c.get_mut.ensures.value ∙ ap option_copied_mut c.unwrap-part.ensures) c.forget.ensures)
