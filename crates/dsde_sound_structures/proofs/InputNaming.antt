-- The names of a model that a text can spell are identifiers.
use Rattle.std.proofs.Common.{◌≡◌, ℕ, Bool, true, false, ◌&&◌, List, [], ◌∷◌, ◌++◌, map, refl, ap, ◌∙◌}
use Rattle.std.specs.List.{list_all}
use Rattle.dsde_words.specs.Words.{is_word}
use Rattle.dsde_sim_tree.specs.given.syntax.decl_Decl.{Decl}
use Rattle.dsde_sim_tree.specs.given.syntax.decl_Decl_TheVariants as decl
use Rattle.dsde_sim_tree.specs.given.syntax.decl_Model.{Model}
use Rattle.dsde_sim_tree.specs.given.syntax.decl_Typed.{Typed}
use Rattle.dsde_sim_tree.specs.given.syntax.Grammar.{type_tokens, typed_tokens, decl_tokens, tokens_of}
use Rattle.dsde_sim_tree.specs.given.names.Table.{is_among}
use Rattle.dsde_values.specs.declared.types.Field.{Field}
use Rattle.dsde_values.specs.declared.types.Shape.{Shape}
use Rattle.dsde_values.specs.declared.types.Shape.TheVariants as shape
use Rattle.dsde_sim_tree.specs.given.language.signatures_TypeWord.{TypeWord}
use Rattle.dsde_sim_tree.specs.given.language.RuleTables.{field_name, by_text, added, text_fields, with_names, with_shape, shapes_from, type_words, known_of}
use Rattle.dsde_sim_tree.specs.given.language.Right.{IsRight}
use Rattle.dsde_sim_tree.specs.given.language.DeclaredModels.{whole_of, defs_from, types_of, own_of, owns_of}
use Rattle.dsde_sound_structures.specs.Lawful.{is_named_shape, is_named_def, is_named_own}
use Rattle.dsde_sound_structures.proofs.Heads.{record-worded, enum-worded, atomic-headed, network-headed}
use Rattle.dsde_sound_structures.proofs.Words.{worded, both, and-true, flat-worded, tokens-worded}
use Rattle.dsde_sound_structures.proofs.Types.{is_word_type, more-all, names-lawful, words-are, words-stay, types-stay}

-- ---- types

abbrev is_named_field : Field → Bool
is_named_field field = is_word field.name

fields-named : (words : List TypeWord) (fields : List Field) (typed : List Typed) → list_all worded (map typed_tokens typed) ≡ true → list_all is_named_field fields ≡ true → list_all is_named_field (text_fields words fields typed) ≡ true
fields-named words fields [] tokens all = all
fields-named words fields (own ∷ rest) tokens all =
    let parts = both (worded (typed_tokens own)) (list_all worded (map typed_tokens rest)) tokens in
    let part = both (is_word own.name.name) (worded (type_tokens own.ty)) parts.left in
    let field : Field = record { name = own.name.name; ty = by_text words own.ty } in
    fields-named words (added field_name fields field) rest parts.right (more-all is_named_field (is_among field_name fields own.name.name) fields field all part.left)

shape-named : (words : List TypeWord) (own : Decl) → worded (decl_tokens own) ≡ true → (shapes : List Shape) → list_all is_named_shape shapes ≡ true → list_all is_named_shape (with_shape words shapes own) ≡ true
shape-named words (decl.Enum name variants) tokens shapes all =
    let own = names-lawful variants (enum-worded name variants tokens).variants_worded [] refl refl in
    more-all is_named_shape false shapes (shape.Enum (with_names [] variants)) all own.left
shape-named words (decl.Rec name fields) tokens shapes all =
    more-all is_named_shape false shapes (shape.Rec (text_fields words [] fields)) all (fields-named words [] fields (record-worded name fields tokens).fields_worded refl)
shape-named words (decl.Func name params result stmts value) tokens shapes all = all
shape-named words (decl.Atomic at name params body) tokens shapes all = all
shape-named words (decl.Network at name params ports exec_at body items) tokens shapes all = all
shape-named words (decl.Top at name args) tokens shapes all = all

shapes-named : (words : List TypeWord) (decls : List Decl) → list_all worded (map decl_tokens decls) ≡ true → (shapes : List Shape) → list_all is_named_shape shapes ≡ true → list_all is_named_shape (shapes_from words shapes decls) ≡ true
shapes-named words [] tokens shapes all = all
shapes-named words (own ∷ decls) tokens shapes all =
    let parts = both (worded (decl_tokens own)) (list_all worded (map decl_tokens decls)) tokens in
    shapes-named words decls parts.right (with_shape words shapes own) (shape-named words own parts.left shapes all)

defs-named : (words : List TypeWord) (shapes : List Shape) → list_all is_word_type words ≡ true → list_all is_named_shape shapes ≡ true → list_all is_named_def (defs_from words shapes) ≡ true
defs-named [] shapes named all = refl
defs-named (word ∷ words) [] named all = refl
defs-named (word ∷ words) (own ∷ shapes) named all =
    let name = both (is_word word.name) (list_all is_word_type words) named in
    let parts = both (is_named_shape own) (list_all is_named_shape shapes) all in
    and-true _ _ (and-true _ _ name.left parts.left) (defs-named words shapes name.right parts.right)

pub types-are-named : (model : Model) → IsRight model → list_all is_named_def (types_of model).defs ≡ true
types-are-named model right =
    let tokens = flat-worded [] (map decl_tokens model.decls) (tokens-worded (tokens_of model) right.shaped.tokens) in
    let words : List TypeWord = type_words model.decls in
    defs-named (whole_of model).words (whole_of model).types
    (ap (list_all is_word_type) (words-stay (known_of model.decls) model.decls) ∙ words-are model.decls tokens)
    (ap (list_all is_named_shape) (types-stay (known_of model.decls) model.decls) ∙ shapes-named words model.decls tokens [] refl)

-- ---- atomic models and networks

owns-named : (decls : List Decl) → list_all worded (map decl_tokens decls) ≡ true → list_all is_named_own (owns_of decls) ≡ true
owns-named [] tokens = refl
owns-named (own ∷ decls) tokens =
    let parts = both (worded (decl_tokens own)) (list_all worded (map decl_tokens decls)) tokens in
    by-kind own parts.left (owns-named decls parts.right)
  where
    by-kind : (own : Decl) → worded (decl_tokens own) ≡ true → list_all is_named_own (owns_of decls) ≡ true → list_all is_named_own (own_of own ++ owns_of decls) ≡ true
    by-kind (decl.Enum name variants) tokens rest = rest
    by-kind (decl.Rec name fields) tokens rest = rest
    by-kind (decl.Func name params result stmts value) tokens rest = rest
    by-kind (decl.Atomic at name params body) tokens rest = and-true (is_word name.name) _ (atomic-headed at name params body tokens).own rest
    by-kind (decl.Network at name params ports exec_at body items) tokens rest = and-true (is_word name.name) _ (network-headed at name params ports exec_at body items tokens).own rest
    by-kind (decl.Top at name args) tokens rest = rest

pub models-are-named : (model : Model) → IsRight model → list_all is_named_own (owns_of model.decls) ≡ true
models-are-named model right = owns-named model.decls (flat-worded [] (map decl_tokens model.decls) (tokens-worded (tokens_of model) right.shaped.tokens))
