-- The types of a file: their identifiers, their shapes and their definitions.
use Rattle.std.proofs.Common.{◌≡◌, ℕ, zero, suc, ◌+◌, ◌≤◌, Bool, true, false, List, [], ◌∷◌, ◌++◌, map, length, if◌then◌else◌, Option, Some, None, Ok, option_and_then, option_map, slice_get, flat_map, refl, sym, ap, subst, ◌∙◌, arith, append_assoc, append-nil}
use Rattle.std.proofs.lemmas.List.{length-append}
use Rattle.dsde_language.specs.given.syntax.id_Id.{Id}
use Rattle.dsde_language.specs.given.syntax.decl_Decl.{Decl}
use Rattle.dsde_language.specs.given.syntax.decl_Decl_TheVariants as decl
use Rattle.dsde_language.specs.given.syntax.decl_PortDecl.{PortDecl}
use Rattle.dsde_language.specs.given.syntax.decl_Typed.{Typed}
use Rattle.dsde_language.specs.given.syntax.type_name_TypeName.{TypeName}
use Rattle.dsde_language.specs.given.syntax.Grammar as grammar
use Rattle.dsde_language.specs.given.syntax.token_Sign_TheVariants as sign
use Rattle.dsde_language.specs.given.names.Table.{is_among}
use Rattle.dsde_language.specs.given.values.types_Def.{Def}
use Rattle.dsde_language.specs.given.values.types_Shape.{Shape}
use Rattle.dsde_language.specs.given.values.types_Shape_TheVariants as shape
use Rattle.dsde_language.specs.given.values.types_Ty.{Ty}
use Rattle.dsde_language.specs.given.values.types_Ty_TheVariants as ty
use Rattle.dsde_language.specs.declared.signatures.TypeWord.{TypeWord}
use Rattle.dsde_language.specs.RuleTables.{type_word, with_word, with_name, with_names, declared_words, used_in, used_word, used_typed, used_ports, used_decl, used_words, type_words, numbered, text_fields, shapes_from, added}
use Rattle.dsde_language.specs.Judge.{variants_in}
use Rattle.dsde_language.specs.Rules.{own_name, apart_all}
use Rattle.dsde_language.specs.DeclaredModels.{defs_from}
use Rattle.dsde_sound_expressions.specs.lemmas.Places.{added-new}
use Rattle.dsde_sound_expressions.proofs.Steps.{is_name, apart-parts, Among, among-none, among-more, among-new}

abbrev pub word_as : Bool → Id → TypeWord
word_as is_enum id = record { name = id.name; is_enum = is_enum }

-- the identifiers of the types that are declared, and their shapes
abbrev pub type_names : List Decl → List TypeWord
type_names [] = []
type_names (decl.Enum name variants ∷ decls) = word_as true name ∷ type_names decls
type_names (decl.Rec name fields ∷ decls) = word_as false name ∷ type_names decls
type_names (decl.Func name params result stmts value ∷ decls) = type_names decls
type_names (decl.Atomic at name params body ∷ decls) = type_names decls
type_names (decl.Network at name params ports exec_at body items ∷ decls) = type_names decls
type_names (decl.Top at name args ∷ decls) = type_names decls

abbrev pub shapes_in : List TypeWord → List Decl → List Shape
shapes_in words [] = []
shapes_in words (decl.Enum name variants ∷ decls) = shape.Enum (with_names [] variants) ∷ shapes_in words decls
shapes_in words (decl.Rec name fields ∷ decls) = shape.Rec (text_fields words [] fields) ∷ shapes_in words decls
shapes_in words (decl.Func name params result stmts value ∷ decls) = shapes_in words decls
shapes_in words (decl.Atomic at name params body ∷ decls) = shapes_in words decls
shapes_in words (decl.Network at name params ports exec_at body items ∷ decls) = shapes_in words decls
shapes_in words (decl.Top at name args ∷ decls) = shapes_in words decls

pub names-append : (decls more : List Decl) → type_names (decls ++ more) ≡ type_names decls ++ type_names more
names-append [] more = refl
names-append (decl.Enum name variants ∷ decls) more = ap (λ (l : List TypeWord). word_as true name ∷ l) (names-append decls more)
names-append (decl.Rec name fields ∷ decls) more = ap (λ (l : List TypeWord). word_as false name ∷ l) (names-append decls more)
names-append (decl.Func name params result stmts value ∷ decls) more = names-append decls more
names-append (decl.Atomic at name params body ∷ decls) more = names-append decls more
names-append (decl.Network at name params ports exec_at body items ∷ decls) more = names-append decls more
names-append (decl.Top at name args ∷ decls) more = names-append decls more

pub shapes-are : (words : List TypeWord) (decls : List Decl) (shapes : List Shape) → shapes_from words shapes decls ≡ shapes ++ shapes_in words decls
shapes-are words [] shapes = sym (append-nil shapes)
shapes-are words (decl.Enum name variants ∷ decls) shapes = shapes-are words decls _ ∙ append_assoc shapes (_ ∷ []) (shapes_in words decls)
shapes-are words (decl.Rec name fields ∷ decls) shapes = shapes-are words decls _ ∙ append_assoc shapes (_ ∷ []) (shapes_in words decls)
shapes-are words (decl.Func name params result stmts value ∷ decls) shapes = shapes-are words decls shapes
shapes-are words (decl.Atomic at name params body ∷ decls) shapes = shapes-are words decls shapes
shapes-are words (decl.Network at name params ports exec_at body items ∷ decls) shapes = shapes-are words decls shapes
shapes-are words (decl.Top at name args ∷ decls) shapes = shapes-are words decls shapes

-- The identifiers of all declarations differ, so each of a type is its own.
abbrev DeclaredAre : List Decl → Type 0
DeclaredAre decls = (words : List TypeWord) (names : List (List ℕ)) → Among type_word words names → apart_all names decls ≡ Ok tt → declared_words words decls ≡ words ++ type_names decls

word-more : (words : List TypeWord) (names : List (List ℕ)) (word : TypeWord) (own : Decl) (decls : List Decl) → word.name ≡ (own_name own).name → DeclaredAre decls
    → Among type_word words names → apart_all names (own ∷ decls) ≡ Ok tt → declared_words (added type_word words word) decls ≡ words ++ word ∷ type_names decls
word-more words names word own decls same rest among apart =
    let parts = apart-parts names own decls apart in
    let new : added type_word words word ≡ words ++ word ∷ [] = added-new type_word words word (among.among word.name (ap (is_name names) same ∙ parts.new)) in
    ap (λ (l : List TypeWord). declared_words l decls) new
    ∙ rest (words ++ word ∷ []) (names ++ (own_name own).name ∷ [])
    (subst (λ (n : List ℕ). Among type_word (words ++ word ∷ []) (names ++ n ∷ [])) same (among-new type_word words names word among)) parts.rest
    ∙ append_assoc words (word ∷ []) (type_names decls)

word-same : (words : List TypeWord) (names : List (List ℕ)) (own : Decl) (decls : List Decl) → DeclaredAre decls
    → Among type_word words names → apart_all names (own ∷ decls) ≡ Ok tt → declared_words words decls ≡ words ++ type_names decls
word-same words names own decls rest among apart = rest words _ (among-more type_word words names _ among) (apart-parts names own decls apart).rest

pub declared-are : (decls : List Decl) → DeclaredAre decls
declared-are [] words names among apart = sym (append-nil words)
declared-are (decl.Enum name variants ∷ decls) words names among apart = word-more words names (word_as true name) (decl.Enum name variants) decls refl (declared-are decls) among apart
declared-are (decl.Rec name fields ∷ decls) words names among apart = word-more words names (word_as false name) (decl.Rec name fields) decls refl (declared-are decls) among apart
declared-are (decl.Func name params result stmts value ∷ decls) words names among apart = word-same words names (decl.Func name params result stmts value) decls (declared-are decls) among apart
declared-are (decl.Atomic at name params body ∷ decls) words names among apart = word-same words names (decl.Atomic at name params body) decls (declared-are decls) among apart
declared-are (decl.Network at name params ports exec_at body items ∷ decls) words names among apart = word-same words names (decl.Network at name params ports exec_at body items) decls (declared-are decls) among apart
declared-are (decl.Top at name args ∷ decls) words names among apart = word-same words names (decl.Top at name args) decls (declared-are decls) among apart

-- identifiers behind those that are known
pub record Longer (words more : List TypeWord) : Type 0 where
  pub rest : List TypeWord
  pub is : more ≡ words ++ rest

longer-same : (words : List TypeWord) → Longer words words
longer-same words = record { rest = []; is = sym (append-nil words) }

longer-then : (words more most : List TypeWord) → Longer words more → Longer more most → Longer words most
longer-then words more most one two = record {
  rest = one.rest ++ two.rest;
  is = two.is ∙ ap (λ (l : List TypeWord). l ++ two.rest) one.is ∙ append_assoc words one.rest two.rest;
}

longer-if : (b : Bool) (words : List TypeWord) (word : TypeWord) → Longer words (if b then words else words ++ word ∷ [])
longer-if true words word = longer-same words
longer-if false words word = record { rest = word ∷ []; is = refl }

longer-id : (words : List TypeWord) (used : Option Id) → Longer words (elim used [ None ↦ words | Some id ↦ with_word words false id ])
longer-id words None = longer-same words
longer-id words (Some id) = longer-if (is_among type_word words id.name) words (word_as false id)

longer-word : (words : List TypeWord) (own : TypeName) → Longer words (used_word words own)
longer-word words own = longer-id words (used_in own)

longer-typed : (typed : List Typed) (words : List TypeWord) → Longer words (used_typed words typed)
longer-typed [] words = longer-same words
longer-typed (own ∷ rest) words = longer-then words _ _ (longer-word words own.ty) (longer-typed rest (used_word words own.ty))

longer-ports : (ports : List PortDecl) (words : List TypeWord) → Longer words (used_ports words ports)
longer-ports [] words = longer-same words
longer-ports (own ∷ rest) words = longer-then words _ _ (longer-word words own.ty) (longer-ports rest (used_word words own.ty))

longer-decl : (own : Decl) (words : List TypeWord) → Longer words (used_decl words own)
longer-decl (decl.Enum name variants) words = longer-same words
longer-decl (decl.Rec name fields) words = longer-typed fields words
longer-decl (decl.Func name params result stmts value) words = longer-same words
longer-decl (decl.Atomic at name params body) words = longer-then words _ _ (longer-typed params words) (longer-ports body.ports (used_typed words params))
longer-decl (decl.Network at name params ports exec_at body items) words = longer-then words _ _ (longer-typed params words) (longer-ports ports (used_typed words params))
longer-decl (decl.Top at name args) words = longer-same words

longer-decls : (decls : List Decl) (words : List TypeWord) → Longer words (used_words words decls)
longer-decls [] words = longer-same words
longer-decls (own ∷ decls) words = longer-then words _ _ (longer-decl own words) (longer-decls decls (used_decl words own))

-- the identifiers of types: first those that are declared
pub words-longer : (decls : List Decl) → apart_all [] decls ≡ Ok tt → Longer (type_names decls) (type_words decls)
words-longer decls apart =
    let declared : declared_words [] decls ≡ type_names decls = declared-are decls [] [] (among-none type_word []) apart in
    subst (λ (l : List TypeWord). Longer l (used_words (declared_words [] decls) decls)) declared (longer-decls decls (declared_words [] decls))

-- the type with a number, by its identifier and by its shape
abbrev pub type_by : ℕ → Option Shape → Ty
type_by number own = elim (option_and_then variants_in own) [ None ↦ ty.Rec number | Some variants ↦ ty.Enum number ]

pub numbered-is : (words : List TypeWord) (decls : List Decl) (place number : ℕ) (word : TypeWord) → slice_get (type_names decls) place ≡ Some word
    → numbered number (Some word) ≡ type_by number (slice_get (shapes_in words decls) place)
numbered-is words [] place number word at = cc
numbered-is words (decl.Enum name variants ∷ decls) zero number word at = let same : word_as true name ≡ word = cc in ap (λ (w : TypeWord). numbered number (Some w)) (sym same)
numbered-is words (decl.Enum name variants ∷ decls) (suc place) number word at = numbered-is words decls place number word at
numbered-is words (decl.Rec name fields ∷ decls) zero number word at = let same : word_as false name ≡ word = cc in ap (λ (w : TypeWord). numbered number (Some w)) (sym same)
numbered-is words (decl.Rec name fields ∷ decls) (suc place) number word at = numbered-is words decls place number word at
numbered-is words (decl.Func name params result stmts value ∷ decls) place number word at = numbered-is words decls place number word at
numbered-is words (decl.Atomic at name params body ∷ decls) place number word found = numbered-is words decls place number word found
numbered-is words (decl.Network at name params ports exec_at body items ∷ decls) place number word found = numbered-is words decls place number word found
numbered-is words (decl.Top at name args ∷ decls) place number word found = numbered-is words decls place number word found

-- the definition with a number has the shape with that number
no-defs : (words : List TypeWord) → defs_from words [] ≡ []
no-defs [] = refl
no-defs (word ∷ words) = refl

pub shapes-stay : (words more : List TypeWord) (decls : List Decl) (number : ℕ)
    → option_map (λ (def : Def). def.shape) (slice_get (defs_from (type_names decls ++ more) (shapes_in words decls)) number) ≡ slice_get (shapes_in words decls) number
shapes-stay words more [] number = ap (λ (l : List Def). option_map (λ (def : Def). def.shape) (slice_get l number)) (no-defs more)
shapes-stay words more (decl.Enum name variants ∷ decls) zero = refl
shapes-stay words more (decl.Enum name variants ∷ decls) (suc number) = shapes-stay words more decls number
shapes-stay words more (decl.Rec name fields ∷ decls) zero = refl
shapes-stay words more (decl.Rec name fields ∷ decls) (suc number) = shapes-stay words more decls number
shapes-stay words more (decl.Func name params result stmts value ∷ decls) number = shapes-stay words more decls number
shapes-stay words more (decl.Atomic at name params body ∷ decls) number = shapes-stay words more decls number
shapes-stay words more (decl.Network at name params ports exec_at body items ∷ decls) number = shapes-stay words more decls number
shapes-stay words more (decl.Top at name args ∷ decls) number = shapes-stay words more decls number

-- An enum has no more variants than the file has tokens.
with-more : (b : Bool) (names : List (List ℕ)) (name : List ℕ) → length (if b then names else names ++ name ∷ []) ≤ length names + 1
with-more true names name = omega arith
with-more false names name = omega (arith, length-append names (name ∷ []))

names-few : (ids : List Id) (names : List (List ℕ)) → length (with_names names ids) ≤ length names + length ids
names-few [] names = omega arith
names-few (id ∷ ids) names =
    let rest = names-few ids (with_name names id.name) in
    let one : length (with_name names id.name) ≤ length names + 1 = with-more (is_name names id.name) names id.name in
    omega (arith, rest, one)

commas-long : (ids : List Id) → length ids ≤ length (grammar.commas (map grammar.id_tokens ids))
commas-long [] = omega arith
commas-long (id ∷ ids) = let rest = behind ids in omega (arith, rest)
  where
    behind : (ids : List Id) → length ids ≤ length (flat_map (λ (part : grammar.Tokens). grammar.mark sign.Comma ++ part) (map grammar.id_tokens ids))
    behind [] = omega arith
    behind (id ∷ ids) = let rest = behind ids in omega (arith, rest)

enum-long : (name : Id) (variants : List Id) → length variants ≤ length (grammar.decl_tokens (decl.Enum name variants))
enum-long name variants =
    let list = grammar.commas (map grammar.id_tokens variants) in
    omega (arith, commas-long variants, length-append list (grammar.mark sign.CloseBrace))

abbrev pub file_tokens : List Decl → grammar.Tokens
file_tokens decls = grammar.joined (map grammar.decl_tokens decls)

behind-own : (own : Decl) (decls : List Decl) (few : ℕ) → few ≤ length (file_tokens decls) → few ≤ length (file_tokens (own ∷ decls))
behind-own own decls few low = omega (arith, low, length-append (grammar.decl_tokens own) (file_tokens decls))

at-own : (own : Decl) (decls : List Decl) (few : ℕ) → few ≤ length (grammar.decl_tokens own) → few ≤ length (file_tokens (own ∷ decls))
at-own own decls few low = omega (arith, low, length-append (grammar.decl_tokens own) (file_tokens decls))

pub variants-few : (words : List TypeWord) (decls : List Decl) (number : ℕ) (names : List (List ℕ)) → option_and_then variants_in (slice_get (shapes_in words decls) number) ≡ Some names → length names ≤ length (file_tokens decls)
variants-few words [] number names is = cc
variants-few words (decl.Enum name variants ∷ decls) zero names is =
    let same : with_names [] variants ≡ names = cc in
    subst (λ (l : List (List ℕ)). length l ≤ length (file_tokens (decl.Enum name variants ∷ decls))) same
    (at-own (decl.Enum name variants) decls _ (omega (arith, names-few variants [], enum-long name variants)))
variants-few words (decl.Enum name variants ∷ decls) (suc number) names is = behind-own (decl.Enum name variants) decls _ (variants-few words decls number names is)
variants-few words (decl.Rec name fields ∷ decls) zero names is = cc
variants-few words (decl.Rec name fields ∷ decls) (suc number) names is = behind-own (decl.Rec name fields) decls _ (variants-few words decls number names is)
variants-few words (decl.Func name params result stmts value ∷ decls) number names is = behind-own (decl.Func name params result stmts value) decls _ (variants-few words decls number names is)
variants-few words (decl.Atomic at name params body ∷ decls) number names is = behind-own (decl.Atomic at name params body) decls _ (variants-few words decls number names is)
variants-few words (decl.Network at name params ports exec_at body items ∷ decls) number names is = behind-own (decl.Network at name params ports exec_at body items) decls _ (variants-few words decls number names is)
variants-few words (decl.Top at name args ∷ decls) number names is = behind-own (decl.Top at name args) decls _ (variants-few words decls number names is)
