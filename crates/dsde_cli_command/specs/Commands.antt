-- What the program's words ask for.
use Rattle.std.specs.Prelude.{ℕ, ◌≡◌, ◌≤◌, ⊤, Bool, true, false, List, [], ◌∷◌, length, Option, Some, None, ◌&&◌, nat_le, nat_eq, codes, if◌then◌else◌}
use Rattle.std.specs.Borrow.{Bor}
use Rattle.std.specs.Char.{is_ascii_digit}
use Rattle.std.specs.List.{list_all, starts_with}
use Rattle.std.specs.Option.{option_map, option_and_then}
use Rattle.std.specs.Str.{bytes_eq}
use Rattle.std.specs.Str.Parse.{digits_value}
use Rattle.dsde_cli_command.specs.declared.command.Command.{Command}
use Rattle.dsde_cli_command.specs.declared.command.Command.TheVariants.{Check, Run, Resume, Big, Free}
use Rattle.dsde_cli_command.specs.declared.command.Only.{Only}
use Rattle.dsde_cli_command.specs.declared.command.Only.TheVariants.{Outputs, Structure}
use Rattle.dsde_cli_command.specs.declared.command.RunWords.{RunWords}
use Rattle.dsde_cli_command.specs.declared.given.Valued.{Valued}
use Rattle.dsde_cli_command.specs.declared.given.Valued.TheVariants as valued

-- It takes no more turns than one command may.
abbrev pub IsBounded : Command → Type 0
IsBounded (Check model print) = ⊤
IsBounded (Run run) = run.turns ≤ 1_000_000_000
IsBounded (Resume file run) = run.turns ≤ 1_000_000_000
IsBounded (Big seed turns) = turns ≤ 1_000_000_000
IsBounded (Free model turns seed) = turns ≤ 1_000_000_000

-- A model is to be checked: the bytes of its name, and whether its text is to be printed.
pub record CheckCommand : Type 0 where
  pub model : List ℕ
  pub print : Bool

-- A model is to be run: the bytes of its name, the most turns, which lines are kept, if not all, and the
-- bytes of the name under which the image of the run is stored, if it is.
pub record RunCommand : Type 0 where
  pub model : List ℕ
  pub turns : ℕ
  pub kept : Option Only
  pub save : Option (List ℕ)

-- A run is to be taken up again: the bytes of the name of its image, and what is run from there.
pub record ResumeCommand : Type 0 where
  pub file : List ℕ
  pub run : RunCommand

-- The large model of a seed is to be run, for at most so many turns.
pub record BigCommand : Type 0 where
  pub seed : ℕ
  pub turns : ℕ

-- A model is to be run in an order of moves that is drawn: the bytes of its name, the most turns, and the seed
-- of the generator that draws.
pub record FreeCommand : Type 0 where
  pub model : List ℕ
  pub turns : ℕ
  pub seed : ℕ

-- What is to be done.
pub data Task : Type 0 where
  checks : CheckCommand → Task
  runs : RunCommand → Task
  resumes : ResumeCommand → Task
  counts : BigCommand → Task
  draws : FreeCommand → Task

-- What a run is asked to be.
abbrev pub run_asked : RunWords → RunCommand
run_asked run = record { model = run.model.now; turns = run.turns; kept = run.only; save = option_map (λ (name : Bor (List ℕ)). name.now) run.save }

-- What a command asks for.
abbrev pub task_of : Command → Task
task_of (Check model print) = checks (record { model = model.now; print = print })
task_of (Run run) = runs (run_asked run)
task_of (Resume file run) = resumes (record { file = file.now; run = run_asked run })
task_of (Big seed turns) = counts (record { seed = seed; turns = turns })
task_of (Free model turns seed) = draws (record { model = model.now; turns = turns; seed = seed })

-- What the words after the command give, each from left to right: the positional words, the values
-- of `--turns`, of `--only`, of `--save` and of `--order`, and each `--print`.
pub record Line : Type 0 where
  pub positional : List (List ℕ)
  pub turns : List (List ℕ)
  pub onlys : List (List ℕ)
  pub saves : List (List ℕ)
  pub orders : List (List ℕ)
  pub prints : List (List ℕ)

-- A line of no words.
abbrev pub no_words : Line
no_words = record { positional = []; turns = []; onlys = []; saves = []; orders = []; prints = [] }

-- A line with one positional word more, before the others.
abbrev pub with_positional : List ℕ → Line → Line
with_positional word line = record line { positional = word ∷ line.positional }

-- A line with one `--print` more.
abbrev pub with_print : Line → Line
with_print line = record line { prints = codes "--print" ∷ line.prints }

-- The option that a word is, of those that take the next word as their value.
abbrev pub valued_of : List ℕ → Option Valued
valued_of word =
    if bytes_eq word (codes "--turns") then Some valued.Turns
    else (if bytes_eq word (codes "--only") then Some valued.Only
    else (if bytes_eq word (codes "--save") then Some valued.Save
    else (if bytes_eq word (codes "--order") then Some valued.Order else None)))

-- A line with one value of such an option more, before the others.
abbrev pub with_value : Valued → List ℕ → Line → Line
with_value valued.Turns value line = record line { turns = value ∷ line.turns }
with_value valued.Only value line = record line { onlys = value ∷ line.onlys }
with_value valued.Save value line = record line { saves = value ∷ line.saves }
with_value valued.Order value line = record line { orders = value ∷ line.orders }

-- A word that may only be an option.
abbrev pub is_option : List ℕ → Bool
is_option word = starts_with nat_eq word (codes "--")

-- A word that takes no value, before a line: `--print`, or no option.
abbrev pub with_word : List ℕ → Option Line → Option Line
with_word word line =
    if bytes_eq word (codes "--print") then option_map with_print line
    else (if is_option word then None else option_map (with_positional word) line)

-- The line of words, of which some take the next one as their value.
abbrev pub line_of : List (List ℕ) → Option Line
line_of [] = Some no_words
line_of (word ∷ []) = with_word word (Some no_words)
line_of (word ∷ next ∷ words) = elim (valued_of word) [
  | None ↦ with_word word (line_of (next ∷ words))
  | Some option ↦ option_map (with_value option next) (line_of words)
]

-- The one item of a list that has one.
abbrev pub only : {A : Type 0} → List A → Option A
only [] = None
only (item ∷ []) = Some item
only (item ∷ next ∷ items) = None

-- The two items of a list that has two.
abbrev pub both : {A : Type 0} → List A → Option (A × A)
both (item ∷ next ∷ []) = Some (item, next)
both [] = None
both (item ∷ []) = None
both (item ∷ next ∷ other ∷ items) = None

-- The item of a list that has at most one.
abbrev pub if_given : {A : Type 0} → List A → Option (Option A)
if_given [] = Some None
if_given (item ∷ []) = Some (Some item)
if_given (item ∷ next ∷ items) = None

-- Whether a word is given that may stand once.
abbrev pub is_given : {A : Type 0} → List A → Option Bool
is_given [] = Some false
is_given (item ∷ []) = Some true
is_given (item ∷ next ∷ items) = None

-- What there is, where a word is not given that may not stand there.
abbrev pub without : {A B : Type 0} → List A → Option B → Option B
without [] found = found
without (item ∷ items) found = None

-- A word of 1 to 10 decimal digits.
abbrev pub is_number : List ℕ → Bool
is_number word = nat_le 1 (length word) && nat_le (length word) 10 && list_all is_ascii_digit word

-- The number that such a word spells, if it is at most a billion.
abbrev pub turns_of : List ℕ → Option ℕ
turns_of word = if is_number word && nat_le (digits_value 10 word) 1_000_000_000 then Some (digits_value 10 word) else None

-- The number that such a word spells, if it has at most 32 bits.
abbrev pub seed_of : List ℕ → Option ℕ
seed_of word = if is_number word && nat_le (digits_value 10 word) 4_294_967_295 then Some (digits_value 10 word) else None

-- The selection of lines that a word names.
abbrev pub only_of : List ℕ → Option Only
only_of word =
    if bytes_eq word (codes "outputs") then Some Outputs else (if bytes_eq word (codes "structure") then Some Structure else None)

-- The selection of lines of a run: none where no word asks for one.
abbrev pub kept_of : List (List ℕ) → Option (Option Only)
kept_of [] = Some None
kept_of (word ∷ []) = option_map Some (only_of word)
kept_of (word ∷ next ∷ words) = None

infixl 10 ◌>>=◌
abbrev pub ◌>>=◌ : {A B : Type 0} → Option A → (A → Option B) → Option B
found >>= next = option_and_then next found

-- The check of a line: its one positional word is the model's name, `--print` stands in it at most
-- once, and `--turns`, `--only`, `--save` and `--order` nowhere.
abbrev pub check_of : Line → Option Task
check_of line = without line.turns (without line.onlys (without line.saves (without line.orders (do
  model ← only line.positional
  print ← is_given line.prints
  Some (checks (record { model = model; print = print }))))))

-- What a line asks a run of the model of this name to be: `--turns` stands in it once, `--only` and
-- `--save` at most once.
abbrev pub run_on : Line → List ℕ → Option RunCommand
run_on line model = do
  value ← only line.turns
  turns ← turns_of value
  kept ← kept_of line.onlys
  save ← if_given line.saves
  Some (record { model = model; turns = turns; kept = kept; save = save })

-- The run of a line: its one positional word is the model's name, and `--print` and `--order`
-- stand nowhere in it.
abbrev pub run_of : Line → Option Task
run_of line = without line.prints (without line.orders (do
  model ← only line.positional
  run ← run_on line model
  Some (runs run)))

-- The run of a line that is taken up again: its two positional words are the names of the model and of
-- the image, and `--print` and `--order` stand nowhere in it.
abbrev pub resume_of : Line → Option Task
resume_of line = without line.prints (without line.orders (do
  names ← both line.positional
  run ← run_on line names.0
  Some (resumes (record { file = names.1; run = run }))))

-- The run of the large model of a line: its one positional word is the seed, `--turns` stands in it
-- once, and `--only`, `--save`, `--order` and `--print` nowhere.
abbrev pub big_of : Line → Option Task
big_of line = without line.prints (without line.onlys (without line.saves (without line.orders (do
  word ← only line.positional
  seed ← seed_of word
  value ← only line.turns
  turns ← turns_of value
  Some (counts (record { seed = seed; turns = turns }))))))

-- The run of a line in an order that is drawn: its one positional word is the model's name, `--turns` and
-- `--order` stand in it once, and `--only`, `--save` and `--print` nowhere.
abbrev pub free_of : Line → Option Task
free_of line = without line.prints (without line.onlys (without line.saves (do
  model ← only line.positional
  value ← only line.turns
  turns ← turns_of value
  word ← only line.orders
  seed ← seed_of word
  Some (draws (record { model = model; turns = turns; seed = seed })))))

-- The command that words spell: the first word names it.
abbrev pub command_of : List (List ℕ) → Option Task
command_of [] = None
command_of (name ∷ words) =
    if bytes_eq name (codes "check") then line_of words >>= check_of
    else (if bytes_eq name (codes "run") then line_of words >>= run_of
    else (if bytes_eq name (codes "resume") then line_of words >>= resume_of
    else (if bytes_eq name (codes "big") then line_of words >>= big_of
    else (if bytes_eq name (codes "free") then line_of words >>= free_of else None))))

-- The words ask for this check.
pub record AsksCheck (words : List (List ℕ)) : Type 0 where
  pub check : CheckCommand
  pub spelled : command_of words ≡ Some (checks check)

-- The words ask for this run.
pub record Asked (words : List (List ℕ)) : Type 0 where
  pub run : RunCommand
  pub spelled : command_of words ≡ Some (runs run)

-- The words ask for this run to be taken up again.
pub record AsksResume (words : List (List ℕ)) : Type 0 where
  pub resume : ResumeCommand
  pub spelled : command_of words ≡ Some (resumes resume)

-- The words ask for this run of the large model.
pub record AsksBig (words : List (List ℕ)) : Type 0 where
  pub big : BigCommand
  pub spelled : command_of words ≡ Some (counts big)

-- The words ask for this run in an order that is drawn.
pub record AsksFree (words : List (List ℕ)) : Type 0 where
  pub free : FreeCommand
  pub spelled : command_of words ≡ Some (draws free)
