use Rattle.std.proofs.Common.{◌≡◌, true, sym, ◌∙◌}
use Rattle.dsde_cli_command.specs.Commands.{is_number}
use Rattle.dsde_cli_command.proofs.WordsLemmas.{parsed}
use Rattle.dsde_cli_command.proofs.number.read_seed.Goals as goal

pub returns-in_default-2 : goal.returns-in_default-2
returns-in_default-2 c =
    let number : is_number c.args.word.now ≡ true = cc in
    let value = parsed c.args.word.now c.parse.result c.parse.ensures.value.0 number in
    absurd (let two = sym c.in_default.is ∙ value in cc two)
