-- Names that differ, and items that have some of them.
use Rattle.std.proofs.Common.{◌≡◌, ℕ, Bool, false, ◌||◌, if◌then◌else◌, List, [], ◌∷◌, ◌++◌, Ok, bytes_eq, refl, sym, ap, ◌∙◌}
use Rattle.std.specs.List.{list_any}
use Rattle.std.proofs.lemmas.List.Folds.{list_any-append}
use Rattle.dsde_language.specs.given.syntax.decl_Decl.{Decl}
use Rattle.dsde_language.specs.given.names.Table.{is_among}
use Rattle.dsde_language.specs.Steps.{apart}
use Rattle.dsde_language.specs.RuleTables.{with_name}
use Rattle.dsde_language.specs.Rules.{own_name, apart_all}
use Rattle.dsde_sound_expressions.specs.lemmas.Truths.{or-left, or-right}
use Rattle.dsde_sound_expressions.specs.lemmas.Steps.{went, unless-is}
use Rattle.dsde_sound_expressions.specs.lemmas.Places.{any-left}

-- whether a name is among names
abbrev pub is_name : List (List ℕ) → List ℕ → Bool
is_name names name = list_any (λ own. bytes_eq own name) names

-- the names of the first declaration and of those behind it
pub record Apart (names : List (List ℕ)) (own : Decl) (decls : List Decl) : Type 0 where
  pub new : is_name names (own_name own).name ≡ false
  pub rest : apart_all (names ++ (own_name own).name ∷ []) decls ≡ Ok tt

pub apart-parts : (names : List (List ℕ)) (own : Decl) (decls : List Decl) → apart_all names (own ∷ decls) ≡ Ok tt → Apart names own decls
apart-parts names own decls is =
    let parts = went (apart names (own_name own)) (λ _. apart_all (names ++ (own_name own).name ∷ []) decls) tt is in
    record { new = unless-is _ _ _ parts.value parts.first; rest = parts.next }

-- each of these items has one of these names
pub record Among {T : Type 0} (name_of : T → List ℕ) (items : List T) (names : List (List ℕ)) : Type 0 where
  pub among : (name : List ℕ) → is_name names name ≡ false → is_among name_of items name ≡ false

pub among-none : {T : Type 0} (name_of : T → List ℕ) (names : List (List ℕ)) → Among name_of [] names
among-none name_of names = record { among = λ name none. refl }

pub among-more : {T : Type 0} (name_of : T → List ℕ) (items : List T) (names more : List (List ℕ)) → Among name_of items names → Among name_of items (names ++ more)
among-more name_of items names more own = record {
  among = λ name none. own.among name (any-left (λ own. bytes_eq own name) names more none);
}

pub among-new : {T : Type 0} (name_of : T → List ℕ) (items : List T) (names : List (List ℕ)) (item : T)
    → Among name_of items names → Among name_of (items ++ item ∷ []) (names ++ name_of item ∷ [])
among-new name_of items names item own = record {
  among = λ name none.
      let both : (is_name names name || is_name (name_of item ∷ []) name) ≡ false = sym (list_any-append (λ own. bytes_eq own name) names (name_of item ∷ [])) ∙ none in
      list_any-append (λ own. bytes_eq (name_of own) name) items (item ∷ [])
      ∙ ap (λ (b : Bool). b || is_among name_of (item ∷ []) name) (own.among name (or-left _ _ both))
      ∙ or-right _ _ both;
}

-- a name that none of these has
pub name-new : (names : List (List ℕ)) (name : List ℕ) → is_name names name ≡ false → with_name names name ≡ names ++ name ∷ []
name-new names name none = ap (λ (b : Bool). if b then names else names ++ name ∷ []) none
