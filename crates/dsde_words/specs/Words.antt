-- Words: letters, digits and `_`, the reserved words among them, and identifiers.
use Rattle.std.specs.Prelude.{◌≡◌, ℕ, Bool, true, false, ◌||◌, ◌&&◌, not, ◌==◌, List, [], ◌∷◌, Option, None, codes, find, is_some}
use Rattle.std.specs.List.{list_all}
use Rattle.std.specs.Str.{bytes_eq}
use Rattle.std.specs.Char.{is_ascii_alphanumeric, is_ascii_digit}
use Rattle.dsde_words.specs.declared.key.Key.{Key}
use Rattle.dsde_words.specs.declared.key.Key.TheVariants as key

-- letters, digits and `_`
abbrev pub is_word_byte : ℕ → Bool
is_word_byte byte = is_ascii_alphanumeric byte || byte == 95

-- whether a letter, a digit or `_` stands first
abbrev pub begins_word : List ℕ → Bool
begins_word [] = false
begins_word (byte ∷ _) = is_word_byte byte

-- a word: a letter or `_`, and then letters, digits and `_`
abbrev pub is_word : List ℕ → Bool
is_word [] = false
is_word (byte ∷ bytes) = not (is_ascii_digit byte) && list_all is_word_byte (byte ∷ bytes)

-- the reserved words as they are written
abbrev pub key_text : Key → List ℕ
key_text key.Enum = codes "enum"
key_text key.Record = codes "record"
key_text key.Fn = codes "fn"
key_text key.Atomic = codes "atomic"
key_text key.Network = codes "network"
key_text key.Exec = codes "exec"
key_text key.In = codes "in"
key_text key.Out = codes "out"
key_text key.State = codes "state"
key_text key.Advance = codes "advance"
key_text key.Output = codes "output"
key_text key.Internal = codes "internal"
key_text key.External = codes "external"
key_text key.Confluent = codes "confluent"
key_text key.Structure = codes "structure"
key_text key.Comp = codes "comp"
key_text key.Link = codes "link"
key_text key.Via = codes "via"
key_text key.Is = codes "is"
key_text key.For = codes "for"
key_text key.If = codes "if"
key_text key.Else = codes "else"
key_text key.Let = codes "let"
key_text key.Var = codes "var"
key_text key.Send = codes "send"
key_text key.Return = codes "return"
key_text key.New = codes "new"
key_text key.NoneOf = codes "none"
key_text key.EmptyOf = codes "empty"
key_text key.SomeOf = codes "some"
key_text key.True = codes "true"
key_text key.False = codes "false"
key_text key.And = codes "and"
key_text key.Or = codes "or"
key_text key.Not = codes "not"
key_text key.Len = codes "len"
key_text key.Range = codes "range"
key_text key.Push = codes "push"
key_text key.Put = codes "put"
key_text key.Take = codes "take"
key_text key.Skip = codes "skip"
key_text key.Min = codes "min"
key_text key.Max = codes "max"
key_text key.IsSome = codes "is_some"
key_text key.Int = codes "int"
key_text key.Bool = codes "bool"
key_text key.List = codes "list"
key_text key.Opt = codes "opt"
key_text key.Top = codes "top"
key_text key.Net = codes "net"
key_text key.Elapsed = codes "elapsed"

-- the reserved words
abbrev pub keys : List Key
keys =
    key.Enum ∷ key.Record ∷ key.Fn ∷ key.Atomic ∷ key.Network ∷ key.Exec ∷ key.In ∷ key.Out ∷
    key.State ∷ key.Advance ∷ key.Output ∷ key.Internal ∷ key.External ∷ key.Confluent ∷ key.Structure ∷ key.Comp ∷
    key.Link ∷ key.Via ∷ key.Is ∷ key.For ∷ key.If ∷ key.Else ∷ key.Let ∷ key.Var ∷
    key.Send ∷ key.Return ∷ key.New ∷ key.NoneOf ∷ key.EmptyOf ∷ key.SomeOf ∷ key.True ∷ key.False ∷
    key.And ∷ key.Or ∷ key.Not ∷ key.Len ∷ key.Range ∷ key.Push ∷ key.Put ∷ key.Take ∷
    key.Skip ∷ key.Min ∷ key.Max ∷ key.IsSome ∷ key.Int ∷ key.Bool ∷ key.List ∷ key.Opt ∷
    key.Top ∷ key.Net ∷ key.Elapsed ∷ []

-- the reserved word that a text is, if it is one
abbrev pub key_of : List ℕ → Option Key
key_of text = find (λ word. bytes_eq (key_text word) text) keys

-- whether a text is a reserved word
abbrev pub is_reserved : List ℕ → Bool
is_reserved text = is_some (key_of text)

-- An identifier is a word that is not reserved.
pub record IsIdentifier (name : List ℕ) : Type 0 where
  pub word : is_word name ≡ true
  pub free : key_of name ≡ None
