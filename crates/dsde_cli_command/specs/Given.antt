-- What the words that were read have given, for the reading of the others: a device for the proofs
-- of that reading alone.
use Rattle.std.specs.Prelude.{ℕ, Bool, true, false, ◌&&◌, List, [], ◌∷◌, ◌++◌, Option, Some, None, codes, if◌then◌else◌}
use Rattle.std.specs.Borrow.{Bor}
use Rattle.dsde_cli_command.specs.declared.given.Given.{Given}
use Rattle.dsde_cli_command.specs.declared.given.Positional.{Positional}
use Rattle.dsde_cli_command.specs.declared.given.Positional.TheVariants.{Nothing, One, Two}
use Rattle.dsde_cli_command.specs.Commands.{Line, no_words, line_of, with_word, ◌>>=◌}

-- A word that was given or not, as a list.
abbrev pub words_of : Option (Bor (List ℕ)) → List (List ℕ)
words_of None = []
words_of (Some word) = word.now ∷ []

-- The positional words, as a list.
abbrev pub positional_of : Positional → List (List ℕ)
positional_of Nothing = []
positional_of (One first) = first.now ∷ []
positional_of (Two first second) = first.now ∷ second.now ∷ []

-- `--print`, if it was given, as a list.
abbrev pub prints_of : Bool → List (List ℕ)
prints_of print = if print then codes "--print" ∷ [] else []

-- What was given, and then a line.
abbrev pub joined : Given → Line → Line
joined given line = record {
  positional = positional_of given.positional ++ line.positional;
  turns = words_of given.turns ++ line.turns;
  onlys = words_of given.only ++ line.onlys;
  saves = words_of given.save ++ line.saves;
  orders = words_of given.order ++ line.orders;
  prints = prints_of given.print ++ line.prints;
}

-- What was given, as a line.
abbrev pub line_given : Given → Line
line_given given = joined given no_words

-- At most one of them.
abbrev pub is_single : {A : Type 0} → List A → Bool
is_single [] = true
is_single (item ∷ []) = true
is_single (item ∷ next ∷ items) = false

-- At most two of them.
abbrev pub is_pair : {A : Type 0} → List A → Bool
is_pair [] = true
is_pair (item ∷ items) = is_single items

-- Each of its words stands as often at most as in any command.
abbrev pub is_read : Line → Bool
is_read line = is_pair line.positional && is_single line.turns && is_single line.onlys && is_single line.saves && is_single line.orders && is_single line.prints

-- A line, where each of its words stands so often at most.
abbrev pub read_of : Line → Option Line
read_of line = if is_read line then Some line else None

-- What words give, where each stands so often at most.
abbrev pub read_words_of : List (List ℕ) → Option Line
read_words_of words = line_of words >>= read_of

-- What was given and then a line, if nothing was refused before.
abbrev pub given_after : Option Given → Line → Option Line
given_after given line = given >>= (λ given. read_of (joined given line))

-- What was given, and then a word without a value and a line.
abbrev pub read_with : Given → List ℕ → Line → Option Line
read_with given word line = with_word word (Some line) >>= (λ line. read_of (joined given line))
