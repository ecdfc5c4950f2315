use Rattle.std.proofs.Common.{◌≡◌, length, map, Some, string_bytes}
use Rattle.dsde_cli_command.specs.Commands.{line_of}
use Rattle.dsde_cli_command.specs.Given.{read_words_of}
use Rattle.dsde_cli_command.proofs.WordsLemmas.{read_on}
use Rattle.dsde_cli_command.proofs.given.read_words.Given as goal

-- what was given so far, and then the words left, give what the whole words give
abbrev pub invariant-loop-word : goal.invariant-loop-word
invariant-loop-word l = read_on (Some l.given) (line_of (map string_bytes l.left)) ≡ read_words_of (map string_bytes l.fn.words)

abbrev pub decreases-loop-word : goal.decreases-loop-word
decreases-loop-word l = length l.left
