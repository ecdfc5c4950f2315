-- What the first of the rest lays behind what was laid so far.
use Rattle.std.proofs.Common.{◌≡◌, ℕ, ◌+◌, ◌<◌, List, [], ◌∷◌, ◌++◌, length, get_or, drop, map, append_assoc, sym, ap, ◌∙◌}
use Rattle.dsde_syntax.specs.declared.decl.StateDecl.{StateDecl}
use Rattle.dsde_language.specs.declared.known.Known.{Known}
use Rattle.dsde_language.specs.declared.node_ids.ExprId.{ExprId}
use Rattle.dsde_language.specs.declared.tables.Tables.{Tables}
use Rattle.dsde_language.specs.DeclaredModels.{state_fields}
use Rattle.dsde_language.specs.Expressions.{expr_id}
use Rattle.dsde_language.specs.Names.{Scope, with_slot, with_slots}
use Rattle.dsde_language.specs.RuleTables.{by_text}
use Rattle.dsde_language.specs.lemmas.Lists.{one_of}
use Rattle.dsde_program_expressions.specs.given.program_layout.Lay.{lay}
use Rattle.dsde_program_expressions.specs.given.program_layout.LayPieces.{Step, all}
use Rattle.dsde_program_expressions.specs.given.program_layout.LayStatements.{lay_states}

module _ {X : Type 0} (items : List X) (index : ℕ) (own : X) (within : index < length items) (is : own ≡ get_or items index own) where
  abbrev rest : List X
  rest = drop (index + 1) items

  -- one more piece of text
  module _ {A : Type 0} (each : X → Step A) (scope after : Scope) (tables behind : Tables) (is-scope : after ≡ (each own scope tables).scope) (is-tables : behind ≡ (each own scope tables).tables) where
    rest_is : all (map each rest) after behind ≡ all (map each rest) (each own scope tables).scope (each own scope tables).tables
    rest_is = ap (λ s. all (map each rest) s behind) is-scope ∙ ap (λ t. all (map each rest) (each own scope tables).scope t) is-tables

    all_is : all (map each (drop index items)) scope tables ≡ all (map each (own ∷ rest)) scope tables
    all_is = ap (λ l. all (map each l) scope tables) (one_of items index own within is)

    pub next_own : (found longer : List A) (piece : A) → longer ≡ found ++ piece ∷ [] → piece ≡ (each own scope tables).own → longer ++ (all (map each rest) after behind).own ≡ found ++ (all (map each (drop index items)) scope tables).own
    next_own found longer piece is-longer is-piece =
        ap (λ l. longer ++ l.own) rest_is
        ∙ ap (λ l. l ++ (all (map each rest) (each own scope tables).scope (each own scope tables).tables).own) (is-longer ∙ ap (λ p. found ++ p ∷ []) is-piece)
        ∙ append_assoc found ((each own scope tables).own ∷ []) (all (map each rest) (each own scope tables).scope (each own scope tables).tables).own
        ∙ sym (ap (λ l. found ++ l.own) all_is)

    pub next_tables : (all (map each rest) after behind).tables ≡ (all (map each (drop index items)) scope tables).tables
    next_tables = ap (λ l. l.tables) rest_is ∙ sym (ap (λ l. l.tables) all_is)

    pub next_scope : (all (map each rest) after behind).scope ≡ (all (map each (drop index items)) scope tables).scope
    next_scope = ap (λ l. l.scope) rest_is ∙ sym (ap (λ l. l.scope) all_is)

-- one more state variable, whose first value is laid before it is seen
module _ (known : Known) (states : List StateDecl) (index : ℕ) (own : StateDecl) (within : index < length states) (is : own ≡ get_or states index own) (scope after : Scope) (tables behind : Tables)
    (is-scope : after ≡ with_slot scope own.name.name (by_text known.words own.ty)) (is-tables : behind ≡ record tables { nodes = (lay known own.value scope tables.nodes).table }) where
  abbrev later : List StateDecl
  later = drop (index + 1) states

  abbrev seen : Scope
  seen = with_slot scope own.name.name (by_text known.words own.ty)

  abbrev laid : Tables
  laid = record tables { nodes = (lay known own.value scope tables.nodes).table }

  later_is : lay_states known later after behind ≡ lay_states known later seen laid
  later_is = ap (λ s. lay_states known later s behind) is-scope ∙ ap (λ t. lay_states known later seen t) is-tables

  states_are : lay_states known (drop index states) scope tables ≡ lay_states known (own ∷ later) scope tables
  states_are = ap (λ l. lay_states known l scope tables) (one_of states index own within is)

  pub state_own : (found longer : List ExprId) (number : ExprId) → longer ≡ found ++ number ∷ [] → number ≡ expr_id (length tables.nodes) → longer ++ (lay_states known later after behind).own ≡ found ++ (lay_states known (drop index states) scope tables).own
  state_own found longer number is-longer is-number =
      ap (λ l. longer ++ l.own) later_is
      ∙ ap (λ l. l ++ (lay_states known later seen laid).own) (is-longer ∙ ap (λ n. found ++ n ∷ []) is-number)
      ∙ append_assoc found (expr_id (length tables.nodes) ∷ []) (lay_states known later seen laid).own
      ∙ sym (ap (λ l. found ++ l.own) states_are)

  pub state_tables : (lay_states known later after behind).tables ≡ (lay_states known (drop index states) scope tables).tables
  state_tables = ap (λ l. l.tables) later_is ∙ sym (ap (λ l. l.tables) states_are)

  pub state_seen : with_slots after (state_fields known later) ≡ with_slots scope (state_fields known (drop index states))
  state_seen = ap (λ s. with_slots s (state_fields known later)) is-scope ∙ sym (ap (λ l. with_slots scope (state_fields known l)) (one_of states index own within is))
