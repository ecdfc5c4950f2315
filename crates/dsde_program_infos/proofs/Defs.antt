-- The table of types, one type after the other, until there are no more identifiers or no more types.
use Rattle.std.proofs.Common.{◌≡◌, ℕ, ◌+◌, ◌<◌, min, List, [], ◌∷◌, ◌++◌, length, get_or, drop, refl, sym, ap, ◌∙◌, append_assoc, arith}
use Rattle.dsde_values.specs.declared.types.Def.{Def}
use Rattle.dsde_values.specs.declared.types.Shape.{Shape}
use Rattle.dsde_language.specs.declared.signatures.TypeWord.{TypeWord}
use Rattle.dsde_language.specs.DeclaredModels.{defs_from}
use Rattle.dsde_language.specs.lemmas.Lists.{one_of}

pub one_more : (words : List TypeWord) (types : List Shape) (index : ℕ) (word : TypeWord) (own : Shape) (before : List Def) → index < length words → index < length types → word ≡ get_or words index word → own ≡ get_or types index own → (before ++ record { name = word.name; shape = own } ∷ []) ++ defs_from (drop (index + 1) words) (drop (index + 1) types) ≡ before ++ defs_from (drop index words) (drop index types)
one_more words types index word own before in_words in_types word_is own_is =
    append_assoc before _ _ ∙ ap (λ rest. before ++ rest) (sym (ap (λ left. defs_from left (drop index types)) (one_of words index word in_words word_is) ∙ ap (λ left. defs_from (word ∷ drop (index + 1) words) left) (one_of types index own in_types own_is)))

no_types : (words : List TypeWord) → defs_from words [] ≡ []
no_types [] = refl
no_types (word ∷ words) = refl

pub no_more : (words : List TypeWord) (types : List Shape) → min (length words) (length types) ≡ 0 → defs_from words types ≡ []
no_more [] types none = refl
no_more (word ∷ words) [] none = refl
no_more (word ∷ words) (own ∷ types) none = absurd (omega arith)
