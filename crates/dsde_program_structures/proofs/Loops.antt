-- What the first of the rest lays, or adds, behind what was laid so far.
use Rattle.std.proofs.Common.{◌≡◌, ℕ, ◌+◌, ◌<◌, not, Bool, true, false, List, [], ◌∷◌, ◌++◌, length, get_or, drop, map, append_assoc, refl, sym, ap, ◌∙◌, if◌then◌else◌}
use Rattle.dsde_values.specs.declared.types.Field.{Field}
use Rattle.dsde_language.specs.declared.signatures.Family.{Family}
use Rattle.dsde_language.specs.declared.signatures.Port.{Port}
use Rattle.dsde_language.specs.declared.tables.Tables.{Tables}
use Rattle.dsde_language.specs.Names.{Scope, with_slots}
use Rattle.dsde_language.specs.DeclaredStructures.{Kin, directed, kin_all}
use Rattle.dsde_language.specs.lemmas.Lists.{one_of}
use Rattle.dsde_program_expressions.specs.given.program_layout.LayPieces.{Step, all}

module _ {X : Type 0} (items : List X) (index : ℕ) (own : X) (within : index < length items) (is : own ≡ get_or items index own) where
  abbrev rest : List X
  rest = drop (index + 1) items

  -- one more piece of text
  module _ {A : Type 0} (each : X → Step A) (scope after : Scope) (tables behind : Tables) (is-scope : after ≡ (each own scope tables).scope) (is-tables : behind ≡ (each own scope tables).tables) where
    rest_is : all (map each rest) after behind ≡ all (map each rest) (each own scope tables).scope (each own scope tables).tables
    rest_is = ap (λ s. all (map each rest) s behind) is-scope ∙ ap (λ t. all (map each rest) (each own scope tables).scope t) is-tables

    all_is : all (map each (drop index items)) scope tables ≡ all (map each (own ∷ rest)) scope tables
    all_is = ap (λ l. all (map each l) scope tables) (one_of items index own within is)

    pub next_own : (found longer : List A) (piece : A) → longer ≡ found ++ piece ∷ [] → piece ≡ (each own scope tables).own → longer ++ (all (map each rest) after behind).own ≡ found ++ (all (map each (drop index items)) scope tables).own
    next_own found longer piece is-longer is-piece =
        ap (λ l. longer ++ l.own) rest_is
        ∙ ap (λ l. l ++ (all (map each rest) (each own scope tables).scope (each own scope tables).tables).own) (is-longer ∙ ap (λ p. found ++ p ∷ []) is-piece)
        ∙ append_assoc found ((each own scope tables).own ∷ []) (all (map each rest) (each own scope tables).scope (each own scope tables).tables).own
        ∙ sym (ap (λ l. found ++ l.own) all_is)

    pub next_tables : (all (map each rest) after behind).tables ≡ (all (map each (drop index items)) scope tables).tables
    next_tables = ap (λ l. l.tables) rest_is ∙ sym (ap (λ l. l.tables) all_is)

    pub next_scope : (all (map each rest) after behind).scope ≡ (all (map each (drop index items)) scope tables).scope
    next_scope = ap (λ l. l.scope) rest_is ∙ sym (ap (λ l. l.scope) all_is)

  -- the components of one more item
  pub next_kin : (each : X → Kin) (families more : List Family) → more ≡ each own families → kin_all (map each rest) more ≡ kin_all (map each (drop index items)) families
  next_kin each families more is-more =
      ap (kin_all (map each rest)) is-more ∙ sym (ap (λ l. kin_all (map each l) families) (one_of items index own within is))

  -- what is made of one more
  pub next_made : {A : Type 0} (each : X → A) (found longer : List A) (made : A) → longer ≡ found ++ made ∷ [] → made ≡ each own → longer ++ map each rest ≡ found ++ map each (drop index items)
  next_made each found longer made is-longer is-made =
      ap (λ l. l ++ map each rest) (is-longer ∙ ap (λ m. found ++ m ∷ []) is-made)
      ∙ append_assoc found (each own ∷ []) (map each rest)
      ∙ sym (ap (λ l. found ++ map each l) (one_of items index own within is))

-- one more port
seen_one : (found : Scope) (own : Field) (later : List Field) (sees : Bool) → with_slots (with_slots found (if sees then own ∷ [] else [])) later ≡ with_slots found (if sees then own ∷ later else later)
seen_one found own later true = refl
seen_one found own later false = refl

pub next_port : (ports : List Port) (index : ℕ) (own : Port) → index < length ports → own ≡ get_or ports index own → (out : Bool) (found more : Scope) → more ≡ with_slots found (directed out (own ∷ [])) → with_slots more (directed out (drop (index + 1) ports)) ≡ with_slots found (directed out (drop index ports))
next_port ports index own within is out found more is-more =
    ap (λ s. with_slots s (directed out (drop (index + 1) ports))) is-more
    ∙ seen_one found (record { name = own.name; ty = own.ty }) (directed out (drop (index + 1) ports)) (if out then own.out else not own.out)
    ∙ sym (ap (λ l. with_slots found (directed out l)) (one_of ports index own within is))
