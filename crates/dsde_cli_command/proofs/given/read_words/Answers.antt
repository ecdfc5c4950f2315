use Rattle.std.proofs.Common.{◌≡◌, ◌∷◌, length, ap, Some, None, map, string_bytes, sym, ◌∙◌, rules}
use Rattle.dsde_cli_command.specs.Commands.{line_of, valued_of}
use Rattle.dsde_cli_command.proofs.WordsLemmas.{map-none, read_on-none, read_on-unvalued, read_on-value, read_on-word}
use Rattle.dsde_cli_command.proofs.given.read_words.Goals as goal

pub returns-in_err-value : goal.returns-in_err-value
returns-in_err-value c =
    let left : map string_bytes c.loop-word.left.now ≡ string_bytes c.in-Some.word.now ∷ map string_bytes c.in-Some.rest.now = search rules in
    let short : length c.in-Some.rest.now ≡ 0 = search rules in
    let alone = left ∙ ap (λ rest. string_bytes c.in-Some.word.now ∷ rest) (map-none string_bytes c.in-Some.rest.now short) in
    let takes : valued_of (string_bytes c.in-Some.word.now) ≡ Some c.in-Some-valued_of.option = search rules in
    let unvalued = read_on-unvalued c.loop-word.given c.in-Some-valued_of.option (string_bytes c.in-Some.word.now) (map string_bytes c.loop-word.left.now) _ alone takes c.loop-word.invariant in
    rw c.from_residual.ensures unvalued

pub returns-in_err-given-2 : goal.returns-in_err-given-2
returns-in_err-given-2 c =
    let words = map string_bytes c.in-Some.rest.now in
    let plain : valued_of (string_bytes c.in-Some.word.now) ≡ None = search rules in
    let taken = read_on-word c.loop-word.given None (string_bytes c.in-Some.word.now) words (map string_bytes c.loop-word.left.now) _ (search rules) plain (search rules) c.loop-word.invariant in
    rw c.from_residual-in_err-given-2.ensures (sym (read_on-none (line_of words)) ∙ taken)

pub loop-word-preserved : goal.loop-word-preserved
loop-word-preserved c =
    let plain : valued_of (string_bytes c.in-Some.word.now) ≡ None = search rules in
    read_on-word c.loop-word.given (Some c.in_ok-given-2.given) (string_bytes c.in-Some.word.now) (map string_bytes c.in-Some.rest.now) (map string_bytes c.loop-word.left.now) _ (search rules) plain (search rules) c.loop-word.invariant

pub returns-in_err-given : goal.returns-in_err-given
returns-in_err-given c =
    let words = map string_bytes c.in_ok-value.rest.now in
    let takes = sym c.valued_of.ensures ∙ c.in-Some-valued_of.is in
    let taken = read_on-value c.loop-word.given None c.in-Some-valued_of.option c.as_str.result.now c.as_str-in-Some-valued_of.result.now words (map string_bytes c.loop-word.left.now) _ (search rules) takes c.in_err-given.ensures c.loop-word.invariant in
    rw c.from_residual-in_err-given.ensures (sym (read_on-none (line_of words)) ∙ taken)

pub loop-word-preserved-in-Some-valued_of : goal.loop-word-preserved-in-Some-valued_of
loop-word-preserved-in-Some-valued_of c =
    let takes = sym c.valued_of.ensures ∙ c.in-Some-valued_of.is in
    read_on-value c.loop-word.given (Some c.in_ok-given.given) c.in-Some-valued_of.option c.as_str.result.now c.as_str-in-Some-valued_of.result.now (map string_bytes c.in_ok-value.rest.now) (map string_bytes c.loop-word.left.now) _ (search rules) takes c.in_ok-given.ensures c.loop-word.invariant
