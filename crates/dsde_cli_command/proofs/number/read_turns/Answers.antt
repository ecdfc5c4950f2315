use Rattle.std.proofs.Common.{◌≡◌, true, arith}
use Rattle.std.proofs.lemmas.Grind.{common_steps}
use Rattle.dsde_cli_command.specs.Commands.{is_number}
use Rattle.dsde_cli_command.proofs.WordsLemmas.{parsed}
use Rattle.dsde_cli_command.proofs.number.read_turns.Goals as goal

pub returns-clause-spelled : goal.returns-clause-spelled
returns-clause-spelled c =
    let number : is_number c.args.word.now ≡ true = cc in
    let value = parsed c.args.word.now c.parse.result c.parse.ensures.value.0 number in
    grind (arith, common_steps)
