-- What the words of a line are.
use Rattle.std.proofs.Common.{◌≡◌, ℕ, Bool, true, false, List, [], ◌∷◌, refl, sym, subst, ◌∙◌, ap, codes}
use Rattle.std.specs.Prelude.{Option, Some, None, IfSome, if◌then◌else◌}
use Rattle.std.specs.Str.{bytes_eq}
use Rattle.std.proofs.lemmas.Slice.Eq.{bytes_eq-Decides}
use Rattle.dsde_input_records.specs.Lines.{Lacks}
use Rattle.dsde_faults.specs.declared.kind.FaultKind.{FaultKind}
use Rattle.dsde_faults.specs.declared.kind.FaultKind.TheVariants as kind
use Rattle.dsde_faults.specs.declared.kind.Site.{Site}
use Rattle.dsde_faults.specs.declared.kind.Site.TheVariants as site
use Rattle.dsde_formalism.specs.declared.leaf.MoveKind.{MoveKind}
use Rattle.dsde_formalism.specs.declared.leaf.MoveKind.TheVariants as move
use Rattle.dsde_sim_tree.specs.declared.event.InputKind.{InputKind}
use Rattle.dsde_sim_tree.specs.declared.event.InputKind.TheVariants as input
use Rattle.dsde_trace.specs.Text.{input_text, kind_text, move_text, site_text}
use Rattle.dsde_trace_words.specs.Names.{ending_text, endings, fault_kinds, found_in, input_kinds, line_word_text, line_words, move_kinds, sites}
use Rattle.dsde_trace_words.specs.Words.{Inverts, IsAny, Spells}
use Rattle.dsde_trace_words.specs.declared.names.Ending.{Ending}
use Rattle.dsde_trace_words.specs.declared.names.Ending.TheVariants as ending
use Rattle.dsde_trace_words.specs.declared.names.LineWord.{LineWord}
use Rattle.dsde_trace_words.specs.declared.names.LineWord.TheVariants as word
use Rattle.dsde_trace_words.specs.lemmas.Lacking.{Lacks-name_word}

-- Each thing of a table has its text there.
abbrev AreTexts : {A : Type 0} → (A → List ℕ) → List (List ℕ × A) → Type 0
AreTexts text_of [] = Unit {0}
AreTexts text_of (entry ∷ entries) = (entry.0 ≡ text_of entry.1) × AreTexts text_of entries

module _ {A : Type 0} (text_of : A → List ℕ) (text : List ℕ) where
  abbrev HasText : A → Type 0
  HasText one = text ≡ text_of one

  found_here : (entry : List ℕ × A) (entries : List (List ℕ × A)) (same : Bool) → bytes_eq text entry.0 ≡ same → entry.0 ≡ text_of entry.1 →
      IfSome (found_in entries text) HasText → IfSome (if same then Some entry.1 else found_in entries text) HasText
  found_here entry entries true same here later = (bytes_eq-Decides text entry.0).0 same ∙ here
  found_here entry entries false same here later = later

  found-is : (table : List (List ℕ × A)) → AreTexts text_of table → IfSome (found_in table text) HasText
  found-is [] are = tt
  found-is (entry ∷ entries) are = found_here entry entries (bytes_eq text entry.0) refl are.0 (found-is entries are.1)

  spells : (found : Option A) → IfSome found HasText → IfSome found (Spells IsAny text_of text)
  spells None has = tt
  spells (Some one) has = (tt, has)

  table-inverts : (table : List (List ℕ × A)) → AreTexts text_of table → ((one : A) → found_in table (text_of one) ≡ Some one) →
      (found : Option A) → found ≡ found_in table text → Inverts IsAny text_of text found
  table-inverts table are all found same = record {
    is = spells found (subst (λ found. IfSome found HasText) (sym same) (found-is table are));
    only = λ one is spelled. same ∙ ap (found_in table) spelled ∙ all one;
  }

pub line_word-inverts : (text : List ℕ) (found : Option LineWord) → found ≡ found_in line_words text → Inverts IsAny line_word_text text found
line_word-inverts text = table-inverts line_word_text text line_words (refl, (refl, (refl, (refl, (refl, (refl, (refl, tt))))))) all
  where
    all : (one : LineWord) → found_in line_words (line_word_text one) ≡ Some one
    all word.Add = refl
    all word.Turn = refl
    all word.Out = refl
    all word.Get = refl
    all word.Move = refl
    all word.Drop = refl
    all word.End = refl

pub Lacks-line_word : (one : LineWord) → IsAny one → Lacks 32 (line_word_text one)
Lacks-line_word word.Add is = Lacks-name_word (codes "add") refl
Lacks-line_word word.Turn is = Lacks-name_word (codes "turn") refl
Lacks-line_word word.Out is = Lacks-name_word (codes "out") refl
Lacks-line_word word.Get is = Lacks-name_word (codes "get") refl
Lacks-line_word word.Move is = Lacks-name_word (codes "move") refl
Lacks-line_word word.Drop is = Lacks-name_word (codes "drop") refl
Lacks-line_word word.End is = Lacks-name_word (codes "end") refl

pub ending-inverts : (text : List ℕ) (found : Option Ending) → found ≡ found_in endings text → Inverts IsAny ending_text text found
ending-inverts text = table-inverts ending_text text endings (refl, (refl, (refl, (refl, tt)))) all
  where
    all : (one : Ending) → found_in endings (ending_text one) ≡ Some one
    all ending.Bound = refl
    all ending.Quiet = refl
    all ending.Input = refl
    all ending.Fault = refl

pub Lacks-ending : (one : Ending) → IsAny one → Lacks 32 (ending_text one)
Lacks-ending ending.Bound is = Lacks-name_word (codes "bound") refl
Lacks-ending ending.Quiet is = Lacks-name_word (codes "quiet") refl
Lacks-ending ending.Input is = Lacks-name_word (codes "input") refl
Lacks-ending ending.Fault is = Lacks-name_word (codes "fault") refl

pub move-inverts : (text : List ℕ) (found : Option MoveKind) → found ≡ found_in move_kinds text → Inverts IsAny move_text text found
move-inverts text = table-inverts move_text text move_kinds (refl, (refl, (refl, tt))) all
  where
    all : (one : MoveKind) → found_in move_kinds (move_text one) ≡ Some one
    all move.Internal = refl
    all move.External = refl
    all move.Confluent = refl

pub Lacks-move : (one : MoveKind) → IsAny one → Lacks 32 (move_text one)
Lacks-move move.Internal is = Lacks-name_word (codes "internal") refl
Lacks-move move.External is = Lacks-name_word (codes "external") refl
Lacks-move move.Confluent is = Lacks-name_word (codes "confluent") refl

pub input-inverts : (text : List ℕ) (found : Option InputKind) → found ≡ found_in input_kinds text → Inverts IsAny input_text text found
input-inverts text = table-inverts input_text text input_kinds (refl, (refl, (refl, tt))) all
  where
    all : (one : InputKind) → found_in input_kinds (input_text one) ≡ Some one
    all input.BadLine = refl
    all input.Backwards = refl
    all input.LineTooLong = refl

pub Lacks-input : (one : InputKind) → IsAny one → Lacks 32 (input_text one)
Lacks-input input.BadLine is = Lacks-name_word (codes "BadLine") refl
Lacks-input input.Backwards is = Lacks-name_word (codes "Backwards") refl
Lacks-input input.LineTooLong is = Lacks-name_word (codes "LineTooLong") refl

pub site-inverts : (text : List ℕ) (found : Option Site) → found ≡ found_in sites text → Inverts IsAny site_text text found
site-inverts text = table-inverts site_text text sites (refl, (refl, (refl, (refl, (refl, (refl, (refl, (refl, (refl, tt))))))))) all
  where
    all : (one : Site) → found_in sites (site_text one) ≡ Some one
    all site.Top = refl
    all site.Start = refl
    all site.Init = refl
    all site.Advance = refl
    all site.Output = refl
    all site.Internal = refl
    all site.External = refl
    all site.Confluent = refl
    all site.Structure = refl

pub Lacks-site : (one : Site) → IsAny one → Lacks 32 (site_text one)
Lacks-site site.Top is = Lacks-name_word (codes "top") refl
Lacks-site site.Start is = Lacks-name_word (codes "start") refl
Lacks-site site.Init is = Lacks-name_word (codes "init") refl
Lacks-site site.Advance is = Lacks-name_word (codes "advance") refl
Lacks-site site.Output is = Lacks-name_word (codes "output") refl
Lacks-site site.Internal is = Lacks-name_word (codes "internal") refl
Lacks-site site.External is = Lacks-name_word (codes "external") refl
Lacks-site site.Confluent is = Lacks-name_word (codes "confluent") refl
Lacks-site site.Structure is = Lacks-name_word (codes "structure") refl

pub kind-inverts : (text : List ℕ) (found : Option FaultKind) → found ≡ found_in fault_kinds text → Inverts IsAny kind_text text found
kind-inverts text = table-inverts kind_text text fault_kinds (refl, (refl, (refl, (refl, (refl, (refl, (refl, (refl, (refl, (refl, (refl, (refl, (refl, tt))))))))))))) all
  where
    all : (one : FaultKind) → found_in fault_kinds (kind_text one) ≡ Some one
    all kind.Overflow = refl
    all kind.DivideByZero = refl
    all kind.IndexOutOfRange = refl
    all kind.EmptyOption = refl
    all kind.RangeTooLong = refl
    all kind.NegativeAdvance = refl
    all kind.TimeTooFar = refl
    all kind.DuplicateComponent = refl
    all kind.BadIndex = refl
    all kind.DanglingLink = refl
    all kind.TooManyLinks = refl
    all kind.TooDeep = refl
    all kind.Crowded = refl

pub Lacks-kind : (one : FaultKind) → IsAny one → Lacks 32 (kind_text one)
Lacks-kind kind.Overflow is = Lacks-name_word (codes "Overflow") refl
Lacks-kind kind.DivideByZero is = Lacks-name_word (codes "DivideByZero") refl
Lacks-kind kind.IndexOutOfRange is = Lacks-name_word (codes "IndexOutOfRange") refl
Lacks-kind kind.EmptyOption is = Lacks-name_word (codes "EmptyOption") refl
Lacks-kind kind.RangeTooLong is = Lacks-name_word (codes "RangeTooLong") refl
Lacks-kind kind.NegativeAdvance is = Lacks-name_word (codes "NegativeAdvance") refl
Lacks-kind kind.TimeTooFar is = Lacks-name_word (codes "TimeTooFar") refl
Lacks-kind kind.DuplicateComponent is = Lacks-name_word (codes "DuplicateComponent") refl
Lacks-kind kind.BadIndex is = Lacks-name_word (codes "BadIndex") refl
Lacks-kind kind.DanglingLink is = Lacks-name_word (codes "DanglingLink") refl
Lacks-kind kind.TooManyLinks is = Lacks-name_word (codes "TooManyLinks") refl
Lacks-kind kind.TooDeep is = Lacks-name_word (codes "TooDeep") refl
Lacks-kind kind.Crowded is = Lacks-name_word (codes "Crowded") refl
