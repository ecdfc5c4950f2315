-- What the first part or link of the rest lays behind what was laid so far.
use Rattle.std.proofs.Common.{◌≡◌, ℕ, ◌+◌, ◌-◌, ◌<◌, List, [], ◌∷◌, ◌++◌, length, get_or, drop, map, Option, append_assoc, sym, ap, ◌∙◌}
use Rattle.dsde_values.specs.declared.types.Ty.{Ty}
use Rattle.dsde_language.specs.declared.node_ids.ExprId.{ExprId}
use Rattle.dsde_language.specs.declared.node.NodeArm.{NodeArm}
use Rattle.dsde_language.specs.Names.{Scope}
use Rattle.dsde_language.specs.Expressions.{expr_id}
use Rattle.dsde_language.specs.lemmas.Lists.{one_of}
use Rattle.dsde_program_layout.specs.Lay.{Table, Lay, Link, Arm, lay_all, numbers, kept, head_from, lay_arms, arm_numbers, lay_links}

module _ {X : Type 0} (items : List X) (index : ℕ) (own : X) (within : index < length items) (is : own ≡ get_or items index own) where
  abbrev rest : List X
  rest = drop (index + 1) items

  -- one more part of a node
  module _ (each : X → Lay) (scope after : Scope) (table behind : Table) (is-scope : after ≡ scope) (is-table : behind ≡ (each own scope table).table) where
    pub next_all : lay_all (map each rest) after behind ≡ lay_all (map each (drop index items)) scope table
    next_all =
        ap (λ o. lay_all (map each rest) o behind) is-scope
        ∙ ap (λ t. lay_all (map each rest) scope t) is-table
        ∙ sym (ap (λ l. lay_all (map each l) scope table) (one_of items index own within is))

    pub next_numbers : (found longer : List ExprId) (number : ExprId) → longer ≡ found ++ number ∷ [] → number ≡ expr_id (length table) → longer ++ numbers (map each rest) after behind ≡ found ++ numbers (map each (drop index items)) scope table
    next_numbers found longer number is-longer is-number =
        ap (λ o. longer ++ numbers (map each rest) o behind) is-scope
        ∙ ap (λ t. longer ++ numbers (map each rest) scope t) is-table
        ∙ ap (λ l. l ++ numbers (map each rest) scope (each own scope table).table) (is-longer ∙ ap (λ n. found ++ n ∷ []) is-number)
        ∙ append_assoc found (expr_id (length table) ∷ []) (numbers (map each rest) scope (each own scope table).table)
        ∙ sym (ap (λ l. found ++ numbers (map each l) scope table) (one_of items index own within is))

    pub next_head : (first then : Option Ty) (ty : Ty) → then ≡ kept first ty → ty ≡ (each own scope table).ty → head_from then (map each rest) after behind ≡ head_from first (map each (drop index items)) scope table
    next_head first then ty is-then is-ty =
        ap (λ o. head_from then (map each rest) o behind) is-scope
        ∙ ap (λ t. head_from then (map each rest) scope t) is-table
        ∙ ap (λ h. head_from h (map each rest) scope (each own scope table).table) (is-then ∙ ap (kept first) is-ty)
        ∙ sym (ap (λ l. head_from first (map each l) scope table) (one_of items index own within is))

  -- one more arm of an `if`
  module _ (each : X → Arm) (scope after : Scope) (table behind : Table) (is-scope : after ≡ scope) (is-table : behind ≡ ((each own).value scope ((each own).cond scope table).table).table) where
    pub next_arms : lay_arms (map each rest) after behind ≡ lay_arms (map each (drop index items)) scope table
    next_arms =
        ap (λ o. lay_arms (map each rest) o behind) is-scope
        ∙ ap (λ t. lay_arms (map each rest) scope t) is-table
        ∙ sym (ap (λ l. lay_arms (map each l) scope table) (one_of items index own within is))

    pub next_arm_numbers : (found longer : List NodeArm) (arm : NodeArm) → longer ≡ found ++ arm ∷ [] → arm ≡ record { cond = expr_id (length table); value = expr_id (length ((each own).cond scope table).table) } → longer ++ arm_numbers (map each rest) after behind ≡ found ++ arm_numbers (map each (drop index items)) scope table
    next_arm_numbers found longer arm is-longer is-arm =
        ap (λ o. longer ++ arm_numbers (map each rest) o behind) is-scope
        ∙ ap (λ t. longer ++ arm_numbers (map each rest) scope t) is-table
        ∙ ap (λ l. l ++ arm_numbers (map each rest) scope ((each own).value scope ((each own).cond scope table).table).table) (is-longer ∙ ap (λ n. found ++ n ∷ []) is-arm)
        ∙ append_assoc found (record { cond = expr_id (length table); value = expr_id (length ((each own).cond scope table).table) } ∷ []) (arm_numbers (map each rest) scope ((each own).value scope ((each own).cond scope table).table).table)
        ∙ sym (ap (λ l. found ++ arm_numbers (map each l) scope table) (one_of items index own within is))

  -- one more link of a chain
  module _ (links : List X → List Link) (each : Link) (opens : links (own ∷ rest) ≡ each ∷ links rest) (ty laid : Ty) (scope after : Scope) (left number : ℕ) (table behind : Table) (is-scope : after ≡ scope) (is-ty : laid ≡ (each ty scope left table).ty) (is-number : number ≡ left - 1) (is-table : behind ≡ (each ty scope left table).table) where
    pub next_links : lay_links (links rest) laid after number behind ≡ lay_links (links (drop index items)) ty scope left table
    next_links =
        ap (λ o. lay_links (links rest) laid o number behind) is-scope
        ∙ ap (λ t. lay_links (links rest) laid scope number t) is-table
        ∙ ap (λ n. lay_links (links rest) laid scope n (each ty scope left table).table) is-number
        ∙ ap (λ t. lay_links (links rest) t scope (left - 1) (each ty scope left table).table) is-ty
        ∙ sym (ap (λ l. lay_links l ty scope left table) (ap links (one_of items index own within is) ∙ opens))
