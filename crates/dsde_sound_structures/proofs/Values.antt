-- Expressions in items: their values, indexes, keys and arguments in tables are those over names.
use Rattle.std.proofs.Common.{◌≡◌, ℕ, ◌≤◌, max, arith, ℤ, pos, negsuc, true, false, List, [], ◌∷◌, ◌++◌, map, length, Option, Some, None, Ok, refl, sym, ◌∙◌, subst, append_assoc, append-nil}
use Rattle.std.specs.List.{list_all}
use Rattle.dsde_sim_tree.specs.given.syntax.expr_Expr.{Expr}
use Rattle.dsde_sim_tree.specs.given.syntax.item_Bracket.{Bracket}
use Rattle.dsde_values.specs.declared.types.Field.{Field}
use Rattle.dsde_values.specs.declared.types.Ty.{Ty}
use Rattle.dsde_values.specs.declared.types.Ty.TheVariants as ty
use Rattle.dsde_values.specs.declared.value.Value.{Value}
use Rattle.dsde_values.specs.Value.{fits_int}
use Rattle.dsde_sim_tree.specs.given.language.known_Around.{Around}
use Rattle.dsde_sim_tree.specs.given.language.known_Known.{Known}
use Rattle.dsde_sim_tree.specs.given.language.seen_Seen.{Seen}
use Rattle.dsde_sim_tree.specs.given.language.Types.{wanted}
use Rattle.dsde_sim_tree.specs.given.language.Judge.{Judge, judge, fit}
use Rattle.dsde_sim_tree.specs.given.language.Judge as rules
use Rattle.dsde_sim_tree.specs.given.language.RuleStructures as rule_structures
use Rattle.dsde_sim_tree.specs.given.language.node_ids_ExprId.{ExprId}
use Rattle.dsde_sim_tree.specs.given.language.node_Node.{Node}
use Rattle.dsde_sim_tree.specs.given.language.Expressions.{resolve, expr_id}
use Rattle.dsde_sim_tree.specs.given.language.Items.{resolve_index, resolve_all}
use Rattle.dsde_sim_tree.specs.given.language.Pieces.{Next, Piece, behind, expr, give}
use Rattle.dsde_sim_tree.specs.given.language.Outcome.{int_of}
use Rattle.dsde_sim_tree.specs.given.language.Meaning.{Vars, mean, values_of}
use Rattle.dsde_sim_tree.specs.given.language.MeaningTables.{values_from}
use Rattle.dsde_sim_tree.specs.given.language.Proper.{is_proper}
use Rattle.dsde_sim_tree.specs.given.language.Typed.{Typed, Sound, AllTyped, Fits, values_in}
use Rattle.dsde_sim_tree.specs.given.language.Scopes.{Stands, Sees}
use Rattle.dsde_sound_names.specs.given.sound_expressions.Items.{is_proper_index}
use Rattle.dsde_sound_names.specs.given.executive_plans.Layout.{natural, index_of}
use Rattle.dsde_sound_names.specs.given.executive_plans.Drafts.{index_at}
use Rattle.dsde_sound_names.specs.given.sound_expressions.lemmas_Steps.{went, ok-is}
use Rattle.dsde_sound_names.specs.given.sound_expressions.lemmas_Truths.{and-left, and-right}
use Rattle.dsde_sound_names.specs.given.sound_expressions.lemmas_Types.{wanted-is}
use Rattle.dsde_sound_names.specs.given.sound_expressions.lemmas_Values.{int-sound}
use Rattle.dsde_sound_names.specs.given.sound_expressions.lemmas_Standing.{stands-left, stands-right}
use Rattle.dsde_sound_names.specs.given.sound_expressions.lemmas_Fitting.{typed-snoc}
use Rattle.dsde_sound_structures.proofs.Gets.{Gets, sound-any, gets-ok, gets-own, gets-then}
use Rattle.dsde_sound_structures.proofs.StructureGround.{Ground, part_in}

natural-sound : (at : ℕ) (number : ℤ) → Sound false (λ (own : Option ℕ). Unit {0}) (natural at number)
natural-sound at (pos number) = tt
natural-sound at (negsuc number) = refl

-- Parts are as high as what came before them at least.
pub fit-rises : (parts : List Judge) (tys : List Ty) (height : ℕ) (scope : rules.Scope) (last : ℕ) → fit parts tys height scope ≡ Ok last → height ≤ last
fit-rises [] tys height scope last h = let same : height ≡ last = ok-is height last h in omega (arith, same)
fit-rises (own ∷ parts) [] height scope last h = let same : height ≡ last = ok-is height last h in omega (arith, same)
fit-rises (own ∷ parts) (t ∷ tys) height scope last h =
    let w1 = went (own scope) _ last h in
    let w2 = went (wanted t w1.value) _ last w1.next in
    let rest : max height w1.value.height ≤ last = fit-rises parts tys (max height w1.value.height) scope last w2.next in
    omega (arith, rest)

-- the numbers behind an expression
abbrev pub behind_expr : Known → Expr → List Field → Next → Next
behind_expr known e slots next =
    let one : Piece ExprId = expr (resolve known e) (λ value ty. give value) slots next in
    behind next one

-- what an index and arguments leave: the scope, and no translation
pub index-scope : (known : Known) (index : Option Bracket) (slots : List Field) (next : Next) → (resolve_index known index slots next).scope ≡ slots
index-scope known None slots next = refl
index-scope known (Some own) slots next = refl

pub index-vias : (known : Known) (index : Option Bracket) (slots : List Field) (next : Next) → (resolve_index known index slots next).vias ≡ []
index-vias known None slots next = refl
index-vias known (Some own) slots next = refl

pub all-scope : (known : Known) (args : List Expr) (slots : List Field) (next : Next) → (resolve_all known args slots next).scope ≡ slots
all-scope known [] slots next = refl
all-scope known (e ∷ args) slots next = all-scope known args slots (behind_expr known e slots next)

pub all-vias : (known : Known) (args : List Expr) (slots : List Field) (next : Next) → (resolve_all known args slots next).vias ≡ []
all-vias known [] slots next = refl
all-vias known (e ∷ args) slots next =
    append-nil (resolve_all known args slots (behind_expr known e slots next)).vias ∙ all-vias known args slots (behind_expr known e slots next)

module _ (g : Ground) (scope : rules.Scope) (slots : List Field) (sees : Sees g.site.around.has_elapsed scope slots) (vars : Vars) (fits : Fits g.types vars slots) where
  abbrev around : Around
  around = g.site.around

  abbrev whole : Known
  whole = g.place.known

  pub value-gets : (e : Expr) → is_proper e ≡ true → (found : Seen) (start : ℕ) → judge around e scope ≡ Ok found
      → Stands g.coded.nodes start ((resolve whole e).nodes slots start) → found.height ≤ 512
      → Gets (Typed g.types found.ty) (mean whole g.functions e vars) (part_in g (expr_id start) (values_in vars))
  value-gets e proper found start h stands low =
      let agrees = g.exprs e proper in
      record {
        sound = sound-any around.is_total (Typed g.types found.ty) (mean whole g.functions e vars) (agrees.sound scope slots found vars h sees fits);
        same = agrees.reads scope slots found vars start g.depth h sees fits stands low (omega (arith, low, g.deep));
      }

  pub index-gets : (index : Option Bracket) → is_proper_index index ≡ true → (height : ℕ) (next : Next) → rule_structures.index_of around index scope ≡ Ok height
      → Stands g.coded.nodes next.node (resolve_index whole index slots next).nodes → height ≤ 512
      → Gets (λ (own : Option ℕ). Unit {0}) (index_of whole g.functions index vars) (index_at (part_in g) (resolve_index whole index slots next).own (values_in vars))
  index-gets None proper height next h stands low = gets-ok (λ (own : Option ℕ). Unit {0}) None tt
  index-gets (Some own) proper height next h stands low =
      let w1 = went (judge around own.value scope) _ height h in
      let w2 = went (wanted ty.Int w1.value) _ height w1.next in
      let t : ty.Int ≡ w1.value.ty = wanted-is ty.Int w1.value w2.value w2.first in
      let high : w1.value.height ≡ height = ok-is w1.value.height height w2.next in
      let nodes : List Node = (resolve whole own.value).nodes slots next.node in
      gets-then (Typed g.types w1.value.ty) (λ (own : Option ℕ). Unit {0}) (mean whole g.functions own.value vars) (part_in g (expr_id next.node) (values_in vars)) _ _
      (value-gets own.value proper w1.value next.node w1.first (stands-left g.coded.nodes next.node nodes [] (stands-left g.coded.nodes next.node (nodes ++ []) [] stands)) (omega (arith, high, low)))
      (λ v typed.
      gets-then (λ (number : ℤ). fits_int number ≡ true) (λ (own : Option ℕ). Unit {0}) (int_of v) (int_of v) _ _
      (gets-own (λ (number : ℤ). fits_int number ≡ true) (int_of v) (int-sound g.types false v (subst (λ (u : Ty). Typed g.types u v) (sym t) typed)))
      (λ number _. gets-own (λ (own : Option ℕ). Unit {0}) (natural own.at number) (natural-sound own.at number)))

  pub values-get : (args : List Expr) → list_all is_proper args ≡ true → (tys : List Ty) (height last : ℕ) → fit (map (judge around) args) tys height scope ≡ Ok last
      → length args ≡ length tys → last ≤ 512 → (next : Next) → Stands g.coded.nodes next.node (resolve_all whole args slots next).nodes
      → (before : List Ty) (done : List Value) → AllTyped g.types before done
      → Gets (AllTyped g.types (before ++ tys)) (values_of done (map (mean whole g.functions) args) vars) (values_from (part_in g) done (resolve_all whole args slots next).own (values_in vars))
  values-get [] proper [] height last h long low next stands before done all =
      gets-ok (AllTyped g.types (before ++ [])) done (subst (λ (l : List Ty). AllTyped g.types l done) (sym (append-nil before)) all)
  values-get [] proper (t ∷ tys) height last h long low next stands before done all = absurd (omega (arith, long))
  values-get (e ∷ args) proper [] height last h long low next stands before done all = absurd (omega (arith, long))
  values-get (e ∷ args) proper (t ∷ tys) height last h long low next stands before done all =
      let w1 = went (judge around e scope) _ last h in
      let w2 = went (wanted t w1.value) _ last w1.next in
      let same : t ≡ w1.value.ty = wanted-is t w1.value w2.value w2.first in
      let rest : max height w1.value.height ≤ last = fit-rises (map (judge around) args) tys (max height w1.value.height) scope last w2.next in
      let nodes : List Node = (resolve whole e).nodes slots next.node in
      let next1 : Next = behind_expr whole e slots next in
      let more : List Node = (resolve_all whole args slots next1).nodes in
      gets-then (Typed g.types w1.value.ty) (AllTyped g.types (before ++ t ∷ tys)) (mean whole g.functions e vars) (part_in g (expr_id next.node) (values_in vars)) _ _
      (value-gets e (and-left (is_proper e) (list_all is_proper args) proper) w1.value next.node w1.first
      (stands-left g.coded.nodes next.node nodes [] (stands-left g.coded.nodes next.node (nodes ++ []) (more ++ []) stands)) (omega (arith, rest, low)))
      (λ v typed.
      subst (λ (l : List Ty). Gets (AllTyped g.types l) (values_of (done ++ v ∷ []) (map (mean whole g.functions) args) vars) (values_from (part_in g) (done ++ v ∷ []) (resolve_all whole args slots next1).own (values_in vars)))
      (append_assoc before (t ∷ []) tys)
      (values-get args (and-right (is_proper e) (list_all is_proper args) proper) tys (max height w1.value.height) last w2.next (omega (arith, long)) low next1
      (stands-left g.coded.nodes next1.node more [] (stands-right g.coded.nodes next.node (nodes ++ []) (more ++ []) stands))
      (before ++ t ∷ []) (done ++ v ∷ []) (typed-snoc g.types before done t v all (subst (λ (u : Ty). Typed g.types u v) (sym same) typed))))
