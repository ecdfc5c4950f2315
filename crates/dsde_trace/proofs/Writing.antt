-- What was written stays where a text goes on.
use Rattle.std.proofs.Common.{◌≡◌, ℕ, ◌≤◌, List, length, take, sym, ◌∙◌, ap, arith}
use Rattle.std.proofs.lemmas.List.{length-take, take-take}

-- A text that went on from a text that had gone on.
pub grown : (start text after : List ℕ) → take (length start) text ≡ start → take (length text) after ≡ text → take (length start) after ≡ start
grown start text after first later =
    let shorter : length start ≤ length text = omega (arith, ap length first, length-take (length start) text) in
    sym (take-take (length start) (length text) after shorter) ∙ ap (take (length start)) later ∙ first
