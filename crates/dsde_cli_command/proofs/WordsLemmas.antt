-- The words after a command, read one by one.
use Rattle.std.proofs.Common.{◌≡◌, ℕ, ◌≤◌, Bool, true, false, ◌&&◌, List, [], ◌∷◌, length, map, Option, Some, None, Result, Ok, refl, sym, ap, subst, ◌∙◌, codes, arith, rules}
use Rattle.std.specs.Prelude.{if◌then◌else◌}
use Rattle.std.specs.List.{list_all}
use Rattle.std.specs.Char.{is_ascii_digit}
use Rattle.std.specs.Option.{option_map}
use Rattle.std.specs.Str.{bytes_eq}
use Rattle.std.specs.Str.Parse.{digits_value, ParsesUnsigned}
use Rattle.std.proofs.lemmas.Str.Parse.{IsNumeralModel, numerals_by_value, parse_gives, digits_value_short}
use Rattle.std.proofs.lemmas.Bool.Decides.{nat_tests}
use Rattle.std.proofs.lemmas.Slice.Eq.{bytes_eq-Decides}
use Rattle.dsde_cli_command.specs.declared.given.Given.{Given}
use Rattle.dsde_cli_command.specs.declared.given.Valued.{Valued}
use Rattle.dsde_cli_command.specs.declared.given.Valued.TheVariants as valued
use Rattle.dsde_cli_command.specs.Commands.{Task, Line, no_words, valued_of, with_value, with_word, is_option, is_number, ◌>>=◌, line_of, only, both, if_given, is_given, without, kept_of, seed_of, turns_of, check_of, run_on, run_of, resume_of, big_of, free_of, command_of}
use Rattle.dsde_cli_command.specs.Given.{joined, is_single, is_pair, is_read, read_of, read_with, read_words_of, given_after}

-- what was given and then a line, if there is such a line
abbrev pub read_on : Option Given → Option Line → Option Line
read_on given line = line >>= given_after given

pub read_on-none : (line : Option Line) → read_on None line ≡ None
read_on-none None = refl
read_on-none (Some line) = refl

-- the line of words that begin with an option and its value, or with another word
at_value : (word value : List ℕ) (words : List (List ℕ)) (option : Valued) → valued_of word ≡ Some option → line_of (word ∷ value ∷ words) ≡ option_map (with_value option value) (line_of words)
at_value word value words option is = rw (is, line_of) refl

at_word : (word : List ℕ) (words : List (List ℕ)) → valued_of word ≡ None → line_of (word ∷ words) ≡ with_word word (line_of words)
at_word word [] is = refl
at_word word (next ∷ words) is = rw (is, line_of) refl

-- the words left begin with an option and its value, which is taken
pub read_on-value : (given : Given) (after : Option Given) (option : Valued) (word value : List ℕ) (words left : List (List ℕ)) (whole : Option Line) → left ≡ word ∷ value ∷ words → valued_of word ≡ Some option →
    ((line : Line) → given_after after line ≡ read_of (joined given (with_value option value line))) → read_on (Some given) (line_of left) ≡ whole → read_on after (line_of words) ≡ whole
read_on-value given after option word value words left whole is takes taken before =
    by_line (line_of words) ∙ sym (ap (read_on (Some given)) (at_value word value words option takes)) ∙ ap (λ left. read_on (Some given) (line_of left)) (sym is) ∙ before
  where
    by_line : (line : Option Line) → read_on after line ≡ read_on (Some given) (option_map (with_value option value) line)
    by_line None = refl
    by_line (Some line) = taken line

-- the words left begin with another word, which is taken
pub read_on-word : (given : Given) (after : Option Given) (word : List ℕ) (words left : List (List ℕ)) (whole : Option Line) → left ≡ word ∷ words → valued_of word ≡ None →
    ((line : Line) → given_after after line ≡ read_with given word line) → read_on (Some given) (line_of left) ≡ whole → read_on after (line_of words) ≡ whole
read_on-word given after word words left whole is plain taken before =
    by_line (line_of words) ∙ sym (ap (read_on (Some given)) (at_word word words plain)) ∙ ap (λ left. read_on (Some given) (line_of left)) (sym is) ∙ before
  where
    -- no word makes a line of none
    lost : (print option : Bool) → (if print then None else (if option then None else None)) ≡ (let none : Option Line = None in none)
    lost true option = refl
    lost false true = refl
    lost false false = refl

    by_line : (line : Option Line) → read_on after line ≡ read_on (Some given) (with_word word line)
    by_line None = sym (ap (read_on (Some given)) (lost (bytes_eq word (codes "--print")) (is_option word)))
    by_line (Some line) = taken line

-- an option that takes a value is no other word
valued_alone : (word : List ℕ) (option : Valued) → valued_of word ≡ Some option → with_word word (Some no_words) ≡ None
valued_alone word option = by (bytes_eq word (codes "--turns")) (bytes_eq word (codes "--only")) (bytes_eq word (codes "--save")) (bytes_eq word (codes "--order"))
    ((bytes_eq-Decides word (codes "--turns")).0) ((bytes_eq-Decides word (codes "--only")).0) ((bytes_eq-Decides word (codes "--save")).0) ((bytes_eq-Decides word (codes "--order")).0)
  where
    by : (turns only save order : Bool) → (turns ≡ true → word ≡ codes "--turns") → (only ≡ true → word ≡ codes "--only") → (save ≡ true → word ≡ codes "--save") → (order ≡ true → word ≡ codes "--order") →
        (if turns then Some valued.Turns else (if only then Some valued.Only else (if save then Some valued.Save else (if order then Some valued.Order else None)))) ≡ Some option → with_word word (Some no_words) ≡ None
    by true only save order turns_is only_is save_is order_is some = subst (λ word. with_word word (Some no_words) ≡ None) (sym (turns_is refl)) refl
    by false true save order turns_is only_is save_is order_is some = subst (λ word. with_word word (Some no_words) ≡ None) (sym (only_is refl)) refl
    by false false true order turns_is only_is save_is order_is some = subst (λ word. with_word word (Some no_words) ≡ None) (sym (save_is refl)) refl
    by false false false true turns_is only_is save_is order_is some = subst (λ word. with_word word (Some no_words) ≡ None) (sym (order_is refl)) refl
    by false false false false turns_is only_is save_is order_is some = absurd (cc some)

-- nothing is made of nothing
pub map-none : {A : Type 0} (f : A → List ℕ) (items : List A) → length items ≡ 0 → map f items ≡ []
map-none f [] none = refl
map-none f (item ∷ items) none = absurd (omega arith)

-- the words left are an option alone that takes a value
pub read_on-unvalued : (given : Given) (option : Valued) (word : List ℕ) (left : List (List ℕ)) (whole : Option Line) → left ≡ word ∷ [] → valued_of word ≡ Some option → read_on (Some given) (line_of left) ≡ whole → None ≡ whole
read_on-unvalued given option word left whole is takes before =
    sym (ap (read_on (Some given)) (valued_alone word option takes)) ∙ ap (λ left. read_on (Some given) (line_of left)) (sym is) ∙ before

-- what is made of what gives nothing is nothing
behind : {A B : Type 0} (found : Option A) (next : A → Option B) → ((one : A) → next one ≡ None) → (found >>= next) ≡ None
behind None next none = refl
behind (Some one) next none = none one

none_of : {A B : Type 0} (found : Option A) (next : A → Option B) → found ≡ None → (found >>= next) ≡ None
none_of found next is = ap (λ found. found >>= next) is

-- words that stand too often are none that a command has
only_none : {A : Type 0} (items : List A) → is_single items ≡ false → only items ≡ None
only_none [] many = absurd (cc many)
only_none (item ∷ []) many = absurd (cc many)
only_none (item ∷ next ∷ items) many = refl

only_too_many : {A : Type 0} (items : List A) → is_pair items ≡ false → only items ≡ None
only_too_many [] many = absurd (cc many)
only_too_many (item ∷ []) many = absurd (cc many)
only_too_many (item ∷ next ∷ items) many = refl

both_none : {A : Type 0} (items : List A) → is_pair items ≡ false → both items ≡ None
both_none [] many = absurd (cc many)
both_none (item ∷ []) many = absurd (cc many)
both_none (item ∷ next ∷ []) many = absurd (cc many)
both_none (item ∷ next ∷ other ∷ items) many = refl

if_given_none : {A : Type 0} (items : List A) → is_single items ≡ false → if_given items ≡ None
if_given_none [] many = absurd (cc many)
if_given_none (item ∷ []) many = absurd (cc many)
if_given_none (item ∷ next ∷ items) many = refl

is_given_none : {A : Type 0} (items : List A) → is_single items ≡ false → is_given items ≡ None
is_given_none [] many = absurd (cc many)
is_given_none (item ∷ []) many = absurd (cc many)
is_given_none (item ∷ next ∷ items) many = refl

kept_none : (items : List (List ℕ)) → is_single items ≡ false → kept_of items ≡ None
kept_none [] many = absurd (cc many)
kept_none (item ∷ []) many = absurd (cc many)
kept_none (item ∷ next ∷ items) many = refl

without_many : {A B : Type 0} (items : List A) (found : Option B) → is_single items ≡ false → without items found ≡ None
without_many [] found many = absurd (cc many)
without_many (item ∷ items) found many = refl

without_none : {A B : Type 0} (items : List A) (found : Option B) → found ≡ None → without items found ≡ None
without_none [] found none = none
without_none (item ∷ items) found none = refl

-- some word stands too often, and it is one of these
pub data Often (line : Line) : Type 0 where
  positional : is_pair line.positional ≡ false → Often line
  turns : is_single line.turns ≡ false → Often line
  onlys : is_single line.onlys ≡ false → Often line
  saves : is_single line.saves ≡ false → Often line
  orders : is_single line.orders ≡ false → Often line
  prints : is_single line.prints ≡ false → Often line

often : (line : Line) → is_read line ≡ false → Often line
often line = by (is_pair line.positional) (is_single line.turns) (is_single line.onlys) (is_single line.saves) (is_single line.orders) (is_single line.prints) positional turns onlys saves orders prints
  where
    by : (a b c d e f : Bool) → (a ≡ false → Often line) → (b ≡ false → Often line) → (c ≡ false → Often line) → (d ≡ false → Often line) → (e ≡ false → Often line) → (f ≡ false → Often line) → (a && b && c && d && e && f) ≡ false → Often line
    by false b c d e f at_a at_b at_c at_d at_e at_f is = at_a refl
    by true false c d e f at_a at_b at_c at_d at_e at_f is = at_b refl
    by true true false d e f at_a at_b at_c at_d at_e at_f is = at_c refl
    by true true true false e f at_a at_b at_c at_d at_e at_f is = at_d refl
    by true true true true false f at_a at_b at_c at_d at_e at_f is = at_e refl
    by true true true true true false at_a at_b at_c at_d at_e at_f is = at_f refl
    by true true true true true true at_a at_b at_c at_d at_e at_f is = absurd (cc is)

-- such a line is no check
not_check : (line : Line) → Often line → check_of line ≡ None
not_check line (turns many) = without_many line.turns _ many
not_check line (onlys many) = without_none line.turns _ (without_many line.onlys _ many)
not_check line (saves many) = without_none line.turns _ (without_none line.onlys _ (without_many line.saves _ many))
not_check line (orders many) = without_none line.turns _ (without_none line.onlys _ (without_none line.saves _ (without_many line.orders _ many)))
not_check line (positional many) = without_none line.turns _ (without_none line.onlys _ (without_none line.saves _ (without_none line.orders _ (none_of (only line.positional) _ (only_too_many line.positional many)))))
not_check line (prints many) =
    without_none line.turns _ (without_none line.onlys _ (without_none line.saves _ (without_none line.orders _ (behind (only line.positional) _ (λ model. none_of (is_given line.prints) _ (is_given_none line.prints many))))))

-- nothing that a run is asked to be
unasked_turns : (line : Line) (model : List ℕ) → is_single line.turns ≡ false → run_on line model ≡ None
unasked_turns line model many = none_of (only line.turns) _ (only_none line.turns many)

unasked_onlys : (line : Line) (model : List ℕ) → is_single line.onlys ≡ false → run_on line model ≡ None
unasked_onlys line model many = behind (only line.turns) _ (λ value. behind (turns_of value) _ (λ turns. none_of (kept_of line.onlys) _ (kept_none line.onlys many)))

unasked_saves : (line : Line) (model : List ℕ) → is_single line.saves ≡ false → run_on line model ≡ None
unasked_saves line model many =
    behind (only line.turns) _ (λ value. behind (turns_of value) _ (λ turns. behind (kept_of line.onlys) _ (λ kept. none_of (if_given line.saves) _ (if_given_none line.saves many))))

-- and no run
not_run : (line : Line) → Often line → run_of line ≡ None
not_run line (prints many) = without_many line.prints _ many
not_run line (orders many) = without_none line.prints _ (without_many line.orders _ many)
not_run line (positional many) = without_none line.prints _ (without_none line.orders _ (none_of (only line.positional) _ (only_too_many line.positional many)))
not_run line (turns many) = without_none line.prints _ (without_none line.orders _ (behind (only line.positional) _ (λ model. none_of (run_on line model) _ (unasked_turns line model many))))
not_run line (onlys many) = without_none line.prints _ (without_none line.orders _ (behind (only line.positional) _ (λ model. none_of (run_on line model) _ (unasked_onlys line model many))))
not_run line (saves many) = without_none line.prints _ (without_none line.orders _ (behind (only line.positional) _ (λ model. none_of (run_on line model) _ (unasked_saves line model many))))

-- and none that is taken up again
not_resume : (line : Line) → Often line → resume_of line ≡ None
not_resume line (prints many) = without_many line.prints _ many
not_resume line (orders many) = without_none line.prints _ (without_many line.orders _ many)
not_resume line (positional many) = without_none line.prints _ (without_none line.orders _ (none_of (both line.positional) _ (both_none line.positional many)))
not_resume line (turns many) = without_none line.prints _ (without_none line.orders _ (behind (both line.positional) _ (λ names. none_of (run_on line names.0) _ (unasked_turns line names.0 many))))
not_resume line (onlys many) = without_none line.prints _ (without_none line.orders _ (behind (both line.positional) _ (λ names. none_of (run_on line names.0) _ (unasked_onlys line names.0 many))))
not_resume line (saves many) = without_none line.prints _ (without_none line.orders _ (behind (both line.positional) _ (λ names. none_of (run_on line names.0) _ (unasked_saves line names.0 many))))

-- and no run of the large model
not_big : (line : Line) → Often line → big_of line ≡ None
not_big line (prints many) = without_many line.prints _ many
not_big line (onlys many) = without_none line.prints _ (without_many line.onlys _ many)
not_big line (saves many) = without_none line.prints _ (without_none line.onlys _ (without_many line.saves _ many))
not_big line (orders many) = without_none line.prints _ (without_none line.onlys _ (without_none line.saves _ (without_many line.orders _ many)))
not_big line (positional many) = without_none line.prints _ (without_none line.onlys _ (without_none line.saves _ (without_none line.orders _ (none_of (only line.positional) _ (only_too_many line.positional many)))))
not_big line (turns many) =
    without_none line.prints _ (without_none line.onlys _ (without_none line.saves _ (without_none line.orders _ (behind (only line.positional) _ (λ word. behind (seed_of word) _ (λ seed. none_of (only line.turns) _ (only_none line.turns many)))))))

-- and no run in an order that is drawn
not_free : (line : Line) → Often line → free_of line ≡ None
not_free line (prints many) = without_many line.prints _ many
not_free line (onlys many) = without_none line.prints _ (without_many line.onlys _ many)
not_free line (saves many) = without_none line.prints _ (without_none line.onlys _ (without_many line.saves _ many))
not_free line (positional many) = without_none line.prints _ (without_none line.onlys _ (without_none line.saves _ (none_of (only line.positional) _ (only_too_many line.positional many))))
not_free line (turns many) =
    without_none line.prints _ (without_none line.onlys _ (without_none line.saves _ (behind (only line.positional) _ (λ model. none_of (only line.turns) _ (only_none line.turns many)))))
not_free line (orders many) =
    without_none line.prints _ (without_none line.onlys _ (without_none line.saves _ (behind (only line.positional) _ (λ model. behind (only line.turns) _ (λ value. behind (turns_of value) _ (λ turns. none_of (only line.orders) _ (only_none line.orders many)))))))

-- what takes no line where a word stands too often is the same of a line that was read
by_read : (test : Bool) (line : Line) (next : Line → Option Task) → (test ≡ false → next line ≡ None) → ((if test then Some line else None) >>= next) ≡ next line
by_read true line next none = refl
by_read false line next none = sym (none refl)

-- the same of a line, if there is one
through : (next : Line → Option Task) → ((line : Line) → Often line → next line ≡ None) → (line : Option Line) → ((line >>= read_of) >>= next) ≡ (line >>= next)
through next none None = refl
through next none (Some line) = by_read (is_read line) line next (λ is. none line (often line is))

-- what was read behind a command is what the words spell
spelled_by : (next : Line → Option Task) → ((line : Line) → Often line → next line ≡ None) → (all : List (List ℕ)) (words : List (List ℕ)) (given : Option Line) → given ≡ read_words_of words →
    (line_of words >>= next) ≡ command_of all → (given >>= next) ≡ command_of all
spelled_by next none all words given read spelled = ap (λ given. given >>= next) read ∙ through next none (line_of words) ∙ spelled

pub command_of-check : (all : List (List ℕ)) (name : List ℕ) (words : List (List ℕ)) (given : Option Line) → all ≡ name ∷ words → bytes_eq name (codes "check") ≡ true → given ≡ read_words_of words → (given >>= check_of) ≡ command_of all
command_of-check all name words given is same read = spelled_by check_of not_check all words given read (spelled ∙ ap command_of (sym is))
  where
    spelled : (line_of words >>= check_of) ≡ command_of (name ∷ words)
    spelled = rw same refl

pub command_of-run : (all : List (List ℕ)) (name : List ℕ) (words : List (List ℕ)) (given : Option Line) → all ≡ name ∷ words → bytes_eq name (codes "check") ≡ false → bytes_eq name (codes "run") ≡ true → given ≡ read_words_of words → (given >>= run_of) ≡ command_of all
command_of-run all name words given is other same read = spelled_by run_of not_run all words given read (spelled ∙ ap command_of (sym is))
  where
    spelled : (line_of words >>= run_of) ≡ command_of (name ∷ words)
    spelled = rw (other, same) refl

pub command_of-resume : (all : List (List ℕ)) (name : List ℕ) (words : List (List ℕ)) (given : Option Line) → all ≡ name ∷ words → bytes_eq name (codes "check") ≡ false → bytes_eq name (codes "run") ≡ false → bytes_eq name (codes "resume") ≡ true → given ≡ read_words_of words → (given >>= resume_of) ≡ command_of all
command_of-resume all name words given is check run same read = spelled_by resume_of not_resume all words given read (spelled ∙ ap command_of (sym is))
  where
    spelled : (line_of words >>= resume_of) ≡ command_of (name ∷ words)
    spelled = rw (check, run, same) refl

pub command_of-big : (all : List (List ℕ)) (name : List ℕ) (words : List (List ℕ)) (given : Option Line) → all ≡ name ∷ words → bytes_eq name (codes "check") ≡ false → bytes_eq name (codes "run") ≡ false → bytes_eq name (codes "resume") ≡ false → bytes_eq name (codes "big") ≡ true → given ≡ read_words_of words → (given >>= big_of) ≡ command_of all
command_of-big all name words given is check run resume same read = spelled_by big_of not_big all words given read (spelled ∙ ap command_of (sym is))
  where
    spelled : (line_of words >>= big_of) ≡ command_of (name ∷ words)
    spelled = rw (check, run, resume, same) refl

pub command_of-free : (all : List (List ℕ)) (name : List ℕ) (words : List (List ℕ)) (given : Option Line) → all ≡ name ∷ words → bytes_eq name (codes "check") ≡ false → bytes_eq name (codes "run") ≡ false → bytes_eq name (codes "resume") ≡ false → bytes_eq name (codes "big") ≡ false → bytes_eq name (codes "free") ≡ true → given ≡ read_words_of words → (given >>= free_of) ≡ command_of all
command_of-free all name words given is check run resume big same read = spelled_by free_of not_free all words given read (spelled ∙ ap command_of (sym is))
  where
    spelled : (line_of words >>= free_of) ≡ command_of (name ∷ words)
    spelled = rw (check, run, resume, big, same) refl

-- words behind a command that are no line spell no command
pub command_of-unread : (all : List (List ℕ)) (name : List ℕ) (words : List (List ℕ)) → all ≡ name ∷ words → None ≡ read_words_of words → None ≡ command_of all
command_of-unread all name words is unread =
    by (bytes_eq name (codes "check")) (bytes_eq name (codes "run")) (bytes_eq name (codes "resume")) (bytes_eq name (codes "big")) (bytes_eq name (codes "free"))
    (none check_of not_check) (none run_of not_run) (none resume_of not_resume) (none big_of not_big) (none free_of not_free)
    ∙ ap command_of (sym is)
  where
    none : (next : Line → Option Task) → ((line : Line) → Often line → next line ≡ None) → None ≡ (line_of words >>= next)
    none next often_none = ap (λ given. given >>= next) unread ∙ through next often_none (line_of words)

    by : {check run resume big free : Option Task} (is_check is_run is_resume is_big is_free : Bool) → None ≡ check → None ≡ run → None ≡ resume → None ≡ big → None ≡ free →
        None ≡ (if is_check then check else (if is_run then run else (if is_resume then resume else (if is_big then big else (if is_free then free else None)))))
    by true is_run is_resume is_big is_free check run resume big free = check
    by false true is_resume is_big is_free check run resume big free = run
    by false false true is_big is_free check run resume big free = resume
    by false false false true is_free check run resume big free = big
    by false false false false true check run resume big free = free
    by false false false false false check run resume big free = refl

-- 1 to 10 digits are a number of 64 bits
all_digits : IsNumeralModel (λ word. list_all is_ascii_digit word ≡ true) (digits_value 10)
all_digits = numerals_by_value _ (search rules)

pub parsed : {E : Type 0} (word : List ℕ) (r : Result ℕ E) → ParsesUnsigned 64 10 word r → is_number word ≡ true → r ≡ Ok (digits_value 10 word)
parsed word r h is =
    let some : 1 ≤ length word = grind (arith, nat_tests) in
    let short : length word ≤ 10 = grind (arith, nat_tests) in
    let digits : list_all is_ascii_digit word ≡ true = grind (arith, nat_tests) in
    parse_gives all_digits 64 word r h digits (omega arith) (omega (arith, digits_value_short all_digits word 10 digits short))
