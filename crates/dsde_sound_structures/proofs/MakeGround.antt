-- Where items stand, and expressions that stand there.
use Rattle.std.proofs.Common.{◌≡◌, ℕ, ◌≤◌, Bool, true, false, List, [], ◌∷◌, ◌++◌, Ok, sym, subst}
use Rattle.dsde_sim_tree.specs.given.syntax.decl_Model.{Model}
use Rattle.dsde_sim_tree.specs.given.syntax.expr_Expr.{Expr}
use Rattle.dsde_values.specs.declared.types.Field.{Field}
use Rattle.dsde_values.specs.declared.types.Ty.{Ty}
use Rattle.dsde_sim_tree.specs.given.language.known_Around.{Around}
use Rattle.dsde_sim_tree.specs.given.language.known_Known.{Known}
use Rattle.dsde_sim_tree.specs.given.language.known_Site.{Site}
use Rattle.dsde_sim_tree.specs.given.language.seen_Seen.{Seen}
use Rattle.dsde_sim_tree.specs.given.language.Judge.{judge}
use Rattle.dsde_sim_tree.specs.given.language.Judge as rules
use Rattle.dsde_sim_tree.specs.given.language.DeclaredModels.{whole_of}
use Rattle.dsde_sim_tree.specs.given.language.DeclaredStructures.{Place}
use Rattle.dsde_sim_tree.specs.given.language.node_ids_ExprId.{ExprId}
use Rattle.dsde_sim_tree.specs.given.language.node_Node.{Node}
use Rattle.dsde_sim_tree.specs.given.language.Expressions.{resolve}
use Rattle.dsde_sim_tree.specs.given.language.NodeModels.{resolved}
use Rattle.dsde_sim_tree.specs.given.language.Proper.{is_proper}
use Rattle.dsde_sim_tree.specs.given.language.Scopes.{Stands, Sees}
use Rattle.dsde_sound_names.specs.given.sound_expressions.Places.{KnownAt, IsExpr}
use Rattle.dsde_sound_structures.specs.Spots.{Spot, SpotsStand}

-- Where items stand: what is known there, in the file and in its tables.
pub record Ground : Type 0 where
  pub model : Model
  pub place : Place
  pub site : Site
  pub whole : place.known ≡ whole_of model
  pub known : KnownAt model site.around.known
  pub partial : site.around.is_total ≡ false
  pub types : (e : Expr) (scope : rules.Scope) (slots : List Field) (found : Seen) → is_proper e ≡ true → judge site.around e scope ≡ Ok found
      → Sees site.around.has_elapsed scope slots → (resolve place.known e).ty slots ≡ found.ty

-- expressions, one behind another
pub spots-append : (model : Model) (one two : List ExprId) (first second : List Spot)
    → SpotsStand model one first → SpotsStand model two second → SpotsStand model (one ++ two) (first ++ second)
spots-append model [] two [] second a b = b
spots-append model [] two (spot ∷ first) second a b = absurd a
spots-append model (number ∷ one) two [] second a b = absurd a
spots-append model (number ∷ one) two (spot ∷ first) second a b = (a.0, spots-append model one two first second a.1 b)

module _ (g : Ground) where
  abbrev pub E : Bool
  E = g.site.around.has_elapsed

  abbrev pub whole : Known
  whole = g.place.known

  abbrev pub around : Around
  around = g.site.around

  -- the nodes of the model
  abbrev pub table : List Node
  table = (resolved g.model).nodes

  pub expr-as : (e : Expr) (t : Ty) (scope : rules.Scope) (slots : List Field) (found : Seen) (number : ℕ) → is_proper e ≡ true → judge around e scope ≡ Ok found
      → found.ty ≡ t → Sees E scope slots → Stands table number ((resolve whole e).nodes slots number) → found.height ≤ 512
      → IsExpr g.model false slots number e t
  expr-as e t scope slots found number proper h of sees stands low = record {
    around = around;
    scope = scope;
    found = found;
    known = g.known;
    is_total = g.partial;
    proper = proper;
    judged = h;
    of = of;
    low = low;
    sees = sees;
    stands = subst (λ (k : Known). Stands table number ((resolve k e).nodes slots number)) g.whole stands;
  }

  -- an expression of its type
  pub expr-of : (e : Expr) (scope : rules.Scope) (slots : List Field) (found : Seen) (number : ℕ) → is_proper e ≡ true → judge around e scope ≡ Ok found
      → Sees E scope slots → Stands table number ((resolve whole e).nodes slots number) → found.height ≤ 512
      → IsExpr g.model false slots number e ((resolve whole e).ty slots)
  expr-of e scope slots found number proper h sees stands low =
      expr-as e ((resolve whole e).ty slots) scope slots found number proper h (sym (g.types e scope slots found proper h sees)) sees stands low
