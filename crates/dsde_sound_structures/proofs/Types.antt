-- The types of a model that a text can spell: identifiers, and distinct variants.
use Rattle.std.proofs.Common.{◌≡◌, ℕ, Bool, true, false, ◌&&◌, ◌||◌, not, if◌then◌else◌, List, [], ◌∷◌, ◌++◌, map, Option, Some, None, bytes_eq, refl, sym, ap, ◌∙◌, true≢false}
use Rattle.std.specs.Prelude.{Decides}
use Rattle.std.specs.List.{list_all, list_any}
use Rattle.std.proofs.lemmas.List.Folds.{list_all-append, list_any-append}
use Rattle.std.proofs.lemmas.Slice.Eq.{bytes_eq-Decides}
use Rattle.dsde_words.specs.Words.{is_word}
use Rattle.dsde_sim_tree.specs.given.syntax.token_Sign_TheVariants as sign
use Rattle.dsde_sim_tree.specs.given.syntax.id_Id.{Id}
use Rattle.dsde_sim_tree.specs.given.syntax.type_name_TypeName.{TypeName}
use Rattle.dsde_sim_tree.specs.given.syntax.decl_Decl.{Decl}
use Rattle.dsde_sim_tree.specs.given.syntax.decl_Decl_TheVariants as decl
use Rattle.dsde_sim_tree.specs.given.syntax.decl_Model.{Model}
use Rattle.dsde_sim_tree.specs.given.syntax.decl_PortDecl.{PortDecl}
use Rattle.dsde_sim_tree.specs.given.syntax.decl_Typed.{Typed}
use Rattle.dsde_sim_tree.specs.given.syntax.Grammar.{word, mark, id_tokens, type_tokens, typed_tokens, port_tokens, decl_tokens, tokens_of}
use Rattle.dsde_sim_tree.specs.given.names.Table.{is_among}
use Rattle.dsde_values.specs.declared.types.Shape.{Shape}
use Rattle.dsde_values.specs.declared.types.Shape.TheVariants as shape
use Rattle.dsde_values.specs.Value.{are_distinct, is_lawful_shape, is_lawful_def, IsLawful}
use Rattle.dsde_sim_tree.specs.given.language.known_Known.{Known}
use Rattle.dsde_sim_tree.specs.given.language.signatures_TypeWord.{TypeWord}
use Rattle.dsde_sim_tree.specs.given.language.RuleTables.{type_word, with_name, with_names, with_word, declared_word, declared_words, used_in, used_word, used_typed, used_ports, used_decl, used_words, type_words, text_fields, with_shape, shapes_from, known_of}
use Rattle.dsde_sim_tree.specs.given.language.DeclaredModels.{with_func, with_funcs, whole_of, defs_from, types_of}
use Rattle.dsde_sim_tree.specs.given.language.Right.{IsRight}
use Rattle.dsde_sound_structures.proofs.Heads.{record-worded, enum-worded, atomic-headed, network-headed}
use Rattle.dsde_sound_structures.proofs.Words.{worded, Both, both, and-true, or-parts, front-worded, flat-worded, tokens-worded, is_word_used, used-worded}

-- Names that are found are words.
abbrev pub is_word_type : TypeWord → Bool
is_word_type own = is_word own.name

-- one more behind others, unless it is among them
pub more-all : {X : Type 0} (p : X → Bool) (b : Bool) (xs : List X) (x : X) → list_all p xs ≡ true → p x ≡ true → list_all p (if b then xs else xs ++ x ∷ []) ≡ true
more-all p true xs x all own = all
more-all p false xs x all own = list_all-append p xs (x ∷ []) ∙ and-true (list_all p xs) (p x && true) all (and-true (p x) true own refl)

with-word : (words : List TypeWord) (is_enum : Bool) (id : Id) → list_all is_word_type words ≡ true → is_word id.name ≡ true → list_all is_word_type (with_word words is_enum id) ≡ true
with-word words is_enum id all own = more-all is_word_type (is_among type_word words id.name) words (record { name = id.name; is_enum = is_enum }) all own

-- words that are words stay so
abbrev Keeps : (List TypeWord → List TypeWord) → Type 0
Keeps more = (words : List TypeWord) → list_all is_word_type words ≡ true → list_all is_word_type (more words) ≡ true

with-used : (used : Option Id) → is_word_used used ≡ true → Keeps (λ words. elim used [ None ↦ words | Some id ↦ with_word words false id ])
with-used None own words all = all
with-used (Some id) own words all = with-word words false id all own

with-type : (own : TypeName) → worded (type_tokens own) ≡ true → Keeps (λ words. used_word words own)
with-type own tokens = with-used (used_in own) ((used-worded own).holds tokens)

with-typed : (typed : List Typed) → list_all worded (map typed_tokens typed) ≡ true → Keeps (λ words. used_typed words typed)
with-typed [] tokens words all = all
with-typed (own ∷ rest) tokens words all =
    let parts = both (worded (typed_tokens own)) (list_all worded (map typed_tokens rest)) tokens in
    let part = both (is_word own.name.name) (worded (type_tokens own.ty)) parts.left in
    with-typed rest parts.right (used_word words own.ty) (with-type own.ty part.right words all)

with-ports : (ports : List PortDecl) → list_all worded (map port_tokens ports) ≡ true → Keeps (λ words. used_ports words ports)
with-ports [] tokens words all = all
with-ports (own ∷ rest) tokens words all =
    let parts = both (worded (port_tokens own)) (list_all worded (map port_tokens rest)) tokens in
    let part = both (is_word own.name.name) (worded (type_tokens own.ty ++ mark sign.Semicolon)) parts.left in
    with-ports rest parts.right (used_word words own.ty) (with-type own.ty (front-worded (type_tokens own.ty) (mark sign.Semicolon) part.right) words all)

-- declarations
with-declared : (own : Decl) → worded (decl_tokens own) ≡ true → Keeps (λ words. declared_word words own)
with-declared (decl.Enum name variants) tokens words all = with-word words true name all (enum-worded name variants tokens).own
with-declared (decl.Rec name fields) tokens words all = with-word words false name all (record-worded name fields tokens).own
with-declared (decl.Func name params result stmts value) tokens words all = all
with-declared (decl.Atomic at name params body) tokens words all = all
with-declared (decl.Network at name params ports exec_at body items) tokens words all = all
with-declared (decl.Top at name args) tokens words all = all

all-declared : (decls : List Decl) → list_all worded (map decl_tokens decls) ≡ true → Keeps (λ words. declared_words words decls)
all-declared [] tokens words all = all
all-declared (own ∷ decls) tokens words all =
    let parts = both (worded (decl_tokens own)) (list_all worded (map decl_tokens decls)) tokens in
    all-declared decls parts.right (declared_word words own) (with-declared own parts.left words all)

with-decl : (own : Decl) → worded (decl_tokens own) ≡ true → Keeps (λ words. used_decl words own)
with-decl (decl.Enum name variants) tokens words all = all
with-decl (decl.Rec name fields) tokens words all = with-typed fields (record-worded name fields tokens).fields_worded words all
with-decl (decl.Func name params result stmts value) tokens words all = all
with-decl (decl.Atomic at name params body) tokens words all =
    let own = atomic-headed at name params body tokens in
    with-ports body.ports own.ports_worded (used_typed words params) (with-typed params own.params_worded words all)
with-decl (decl.Network at name params ports exec_at body items) tokens words all =
    let own = network-headed at name params ports exec_at body items tokens in
    with-ports ports own.ports_worded (used_typed words params) (with-typed params own.params_worded words all)
with-decl (decl.Top at name args) tokens words all = all

all-used : (decls : List Decl) → list_all worded (map decl_tokens decls) ≡ true → Keeps (λ words. used_words words decls)
all-used [] tokens words all = all
all-used (own ∷ decls) tokens words all =
    let parts = both (worded (decl_tokens own)) (list_all worded (map decl_tokens decls)) tokens in
    all-used decls parts.right (used_decl words own) (with-decl own parts.left words all)

pub words-are : (decls : List Decl) → list_all worded (map decl_tokens decls) ≡ true → list_all is_word_type (type_words decls) ≡ true
words-are decls tokens = all-used decls tokens (declared_words [] decls) (all-declared decls tokens [] refl)

-- Names differ with one more that is not among them.
other-way : (one other : List ℕ) (b c : Bool) → Decides b (one ≡ other) → Decides c (other ≡ one) → b ≡ false → c ≡ false
other-way one other b false tells told is = refl
other-way one other b true tells told is = absurd (true≢false (sym (tells.1 (sym (told.0 refl))) ∙ is))

swapped : (one other : List ℕ) → bytes_eq one other ≡ false → bytes_eq other one ≡ false
swapped one other is = other-way one other (bytes_eq one other) (bytes_eq other one) (bytes_eq-Decides one other) (bytes_eq-Decides other one) is

new-step : (b d e : Bool) → b ≡ false → d ≡ false → e ≡ true → (not (b || (d || false)) && e) ≡ true
new-step false false true b-is d-is e-is = refl
new-step true d e b-is d-is e-is = absurd (true≢false b-is)
new-step false true e b-is d-is e-is = absurd (true≢false d-is)
new-step false false false b-is d-is e-is = absurd (true≢false (sym e-is))

not-left : (b e : Bool) → (not b && e) ≡ true → b ≡ false
not-left true e is = cc
not-left false e is = refl

distinct-new : (names : List (List ℕ)) (name : List ℕ) → are_distinct names ≡ true → list_any (λ own. bytes_eq own name) names ≡ false → are_distinct (names ++ name ∷ []) ≡ true
distinct-new [] name distinct none = refl
distinct-new (first ∷ names) name distinct none =
    let p : List ℕ → Bool = λ other. bytes_eq other first in
    let parts = both (not (list_any p names)) (are_distinct names) distinct in
    let none_of = or-parts (bytes_eq first name) (list_any (λ own. bytes_eq own name) names) none in
    ap (λ (b : Bool). not b && are_distinct (names ++ name ∷ [])) (list_any-append p names (name ∷ []))
    ∙ new-step (list_any p names) (bytes_eq name first) (are_distinct (names ++ name ∷ []))
    (not-left (list_any p names) (are_distinct names) distinct) (swapped first name none_of.0) (distinct-new names name parts.right none_of.1)

distinct-if : (b : Bool) (names : List (List ℕ)) (name : List ℕ) → list_any (λ own. bytes_eq own name) names ≡ b → are_distinct names ≡ true → are_distinct (if b then names else names ++ name ∷ []) ≡ true
distinct-if true names name is distinct = distinct
distinct-if false names name is distinct = distinct-new names name distinct is

pub names-lawful : (ids : List Id) → list_all worded (map id_tokens ids) ≡ true → (names : List (List ℕ)) → list_all is_word names ≡ true → are_distinct names ≡ true
    → Both (list_all is_word (with_names names ids)) (are_distinct (with_names names ids))
names-lawful [] tokens names all distinct = record { left = all; right = distinct }
names-lawful (id ∷ ids) tokens names all distinct =
    let parts = both (worded (id_tokens id)) (list_all worded (map id_tokens ids)) tokens in
    let own = both (is_word id.name) true parts.left in
    let found : Bool = list_any (λ own. bytes_eq own id.name) names in
    names-lawful ids parts.right (with_name names id.name) (more-all is_word found names id.name all own.left) (distinct-if found names id.name refl distinct)

-- shapes
with-shape : (words : List TypeWord) (own : Decl) → worded (decl_tokens own) ≡ true → (shapes : List Shape) → list_all is_lawful_shape shapes ≡ true → list_all is_lawful_shape (with_shape words shapes own) ≡ true
with-shape words (decl.Enum name variants) tokens shapes all =
    let own = names-lawful variants (enum-worded name variants tokens).variants_worded [] refl refl in
    more-all is_lawful_shape false shapes (shape.Enum (with_names [] variants)) all (and-true _ _ own.left own.right)
with-shape words (decl.Rec name fields) tokens shapes all = more-all is_lawful_shape false shapes (shape.Rec (text_fields words [] fields)) all refl
with-shape words (decl.Func name params result stmts value) tokens shapes all = all
with-shape words (decl.Atomic at name params body) tokens shapes all = all
with-shape words (decl.Network at name params ports exec_at body items) tokens shapes all = all
with-shape words (decl.Top at name args) tokens shapes all = all

shapes-lawful : (words : List TypeWord) (decls : List Decl) → list_all worded (map decl_tokens decls) ≡ true → (shapes : List Shape) → list_all is_lawful_shape shapes ≡ true → list_all is_lawful_shape (shapes_from words shapes decls) ≡ true
shapes-lawful words [] tokens shapes all = all
shapes-lawful words (own ∷ decls) tokens shapes all =
    let parts = both (worded (decl_tokens own)) (list_all worded (map decl_tokens decls)) tokens in
    shapes-lawful words decls parts.right (with_shape words shapes own) (with-shape words own parts.left shapes all)

-- definitions
defs-lawful : (words : List TypeWord) (shapes : List Shape) → list_all is_word_type words ≡ true → list_all is_lawful_shape shapes ≡ true → list_all is_lawful_def (defs_from words shapes) ≡ true
defs-lawful [] shapes named lawful = refl
defs-lawful (word ∷ words) [] named lawful = refl
defs-lawful (word ∷ words) (own ∷ shapes) named lawful =
    let name = both (is_word word.name) (list_all is_word_type words) named in
    let parts = both (is_lawful_shape own) (list_all is_lawful_shape shapes) lawful in
    and-true _ _ (and-true _ _ name.left parts.left) (defs-lawful words shapes name.right parts.right)

-- functions leave types as they are
pub words-stay : (known : Known) (decls : List Decl) → (with_funcs known decls).words ≡ known.words
words-stay known [] = refl
words-stay known (decl.Enum name variants ∷ decls) = words-stay known decls
words-stay known (decl.Rec name fields ∷ decls) = words-stay known decls
words-stay known (decl.Func name params result stmts value ∷ decls) = words-stay (with_func known (decl.Func name params result stmts value)) decls
words-stay known (decl.Atomic at name params body ∷ decls) = words-stay known decls
words-stay known (decl.Network at name params ports exec_at body items ∷ decls) = words-stay known decls
words-stay known (decl.Top at name args ∷ decls) = words-stay known decls

pub types-stay : (known : Known) (decls : List Decl) → (with_funcs known decls).types ≡ known.types
types-stay known [] = refl
types-stay known (decl.Enum name variants ∷ decls) = types-stay known decls
types-stay known (decl.Rec name fields ∷ decls) = types-stay known decls
types-stay known (decl.Func name params result stmts value ∷ decls) = types-stay (with_func known (decl.Func name params result stmts value)) decls
types-stay known (decl.Atomic at name params body ∷ decls) = types-stay known decls
types-stay known (decl.Network at name params ports exec_at body items ∷ decls) = types-stay known decls
types-stay known (decl.Top at name args ∷ decls) = types-stay known decls

pub types-are-lawful : (model : Model) → IsRight model → IsLawful (types_of model)
types-are-lawful model right =
    let tokens = flat-worded [] (map decl_tokens model.decls) (tokens-worded (tokens_of model) right.shaped.tokens) in
    let words : List TypeWord = type_words model.decls in
    defs-lawful (whole_of model).words (whole_of model).types
    (ap (list_all is_word_type) (words-stay (known_of model.decls) model.decls) ∙ words-are model.decls tokens)
    (ap (list_all is_lawful_shape) (types-stay (known_of model.decls) model.decls) ∙ shapes-lawful words model.decls tokens [] refl)
