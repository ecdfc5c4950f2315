-- Indexes, arguments, ends and keys stand.
use Rattle.std.proofs.Common.{◌≡◌, ℕ, ◌==◌, ◌≤◌, max, arith, Bool, true, false, not, List, [], ◌∷◌, ◌++◌, map, length, Option, Some, None, Result, Ok, refl, sym, ◌∙◌, ap, subst}
use Rattle.std.specs.List.{list_all}
use Rattle.std.proofs.lemmas.List.{length-map}
use Rattle.std.proofs.lemmas.Bool.{not-false, eqb-true}
use Rattle.dsde_sim_tree.specs.given.names.Table.{named}
use Rattle.dsde_sim_tree.specs.given.syntax.expr_Expr.{Expr}
use Rattle.dsde_sim_tree.specs.given.syntax.id_Id.{Id}
use Rattle.dsde_sim_tree.specs.given.syntax.item_Bracket.{Bracket}
use Rattle.dsde_sim_tree.specs.given.syntax.item_EndPart.{EndPart}
use Rattle.dsde_sim_tree.specs.given.syntax.item_EndPart_TheVariants as end_part
use Rattle.dsde_values.specs.declared.types.Field.{Field}
use Rattle.dsde_values.specs.declared.types.Ty.{Ty}
use Rattle.dsde_values.specs.declared.types.Ty.TheVariants as ty
use Rattle.dsde_sim_tree.specs.given.language.known_Known.{Known}
use Rattle.dsde_sim_tree.specs.given.language.seen_EndSeen.{EndSeen}
use Rattle.dsde_sim_tree.specs.given.language.signatures_Family.{Family}
use Rattle.dsde_sim_tree.specs.given.language.signatures_ModelSig.{ModelSig}
use Rattle.dsde_sim_tree.specs.given.language.signatures_Port.{Port}
use Rattle.dsde_sim_tree.specs.given.language.wrong_Wrong.{Wrong}
use Rattle.dsde_sim_tree.specs.given.language.wrong_WrongKind_TheVariants.{BadLink, Unknown, WrongType}
use Rattle.dsde_sim_tree.specs.given.language.Steps.{wrong, unless}
use Rattle.dsde_sim_tree.specs.given.language.RuleTables.{port_name}
use Rattle.dsde_sim_tree.specs.given.language.Types.{wanted}
use Rattle.dsde_sim_tree.specs.given.language.Judge.{Judge, judge, fit, fit_all}
use Rattle.dsde_sim_tree.specs.given.language.Judge as rules
use Rattle.dsde_sim_tree.specs.given.language.RuleStructures as rule_structures
use Rattle.dsde_sim_tree.specs.given.language.RuleStructures.{args_of, family_named, kid_end, model_named, port_at, ports_at}
use Rattle.dsde_sim_tree.specs.given.language.node_ids_ExprId.{ExprId}
use Rattle.dsde_sim_tree.specs.given.language.node_Node.{Node}
use Rattle.dsde_sim_tree.specs.given.language.Expressions.{resolve}
use Rattle.dsde_sim_tree.specs.given.language.Items.{resolve_index, resolve_part, resolve_all}
use Rattle.dsde_sim_tree.specs.given.language.Pieces.{Next, Piece, behind, expr, give}
use Rattle.dsde_sim_tree.specs.given.language.Proper.{is_proper}
use Rattle.dsde_sim_tree.specs.given.language.Scopes.{Stands, Sees}
use Rattle.dsde_sound_names.specs.given.sound_expressions.Items.{is_proper_index, is_proper_end}
use Rattle.dsde_sound_names.specs.given.sound_expressions.lemmas_Steps.{went, ok-is, unless-is}
use Rattle.dsde_sound_names.specs.given.sound_expressions.lemmas_Truths.{and-left, and-right}
use Rattle.dsde_sound_names.specs.given.sound_expressions.lemmas_Types.{wanted-is}
use Rattle.dsde_sound_names.specs.given.sound_expressions.lemmas_Standing.{stands-left, stands-right}
use Rattle.dsde_sound_structures.specs.Numbers.{index_numbers, part_numbers}
use Rattle.dsde_sound_structures.specs.Spots.{SpotsStand, spot_of, index_spots, part_spots}
use Rattle.dsde_sound_structures.proofs.MakeGround.{Ground, E, whole, around, table, expr-as, expr-of}

-- Parts are as high as what came before them at least.
fit-rises : (parts : List Judge) (tys : List Ty) (height : ℕ) (scope : rules.Scope) (last : ℕ) → fit parts tys height scope ≡ Ok last → height ≤ last
fit-rises [] tys height scope last h = let same : height ≡ last = ok-is height last h in omega (arith, same)
fit-rises (own ∷ parts) [] height scope last h = let same : height ≡ last = ok-is height last h in omega (arith, same)
fit-rises (own ∷ parts) (t ∷ tys) height scope last h =
    let w1 = went (own scope) _ last h in
    let w2 = went (wanted t w1.value) _ last w1.next in
    let rest : max height w1.value.height ≤ last = fit-rises parts tys (max height w1.value.height) scope last w2.next in
    omega (arith, rest)

-- the numbers behind an expression
abbrev behind_expr : Known → Expr → List Field → Next → Next
behind_expr known e slots next =
    let one : Piece ExprId = expr (resolve known e) (λ value ty. give value) slots next in
    behind next one

-- what indexes, arguments and ends leave
pub index-scope : (known : Known) (index : Option Bracket) (slots : List Field) (next : Next) → (resolve_index known index slots next).scope ≡ slots
index-scope known None slots next = refl
index-scope known (Some own) slots next = refl

pub all-scope : (known : Known) (args : List Expr) (slots : List Field) (next : Next) → (resolve_all known args slots next).scope ≡ slots
all-scope known [] slots next = refl
all-scope known (e ∷ args) slots next = all-scope known args slots (behind_expr known e slots next)

pub part-scope : (known : Known) (own : EndPart) (slots : List Field) (next : Next) → (resolve_part known own slots next).scope ≡ slots
part-scope known end_part.Net slots next = refl
part-scope known end_part.Exec slots next = refl
part-scope known (end_part.Kid name index) slots next = index-scope known index slots next

module _ (g : Ground) where
  -- arguments of a model that is known
  pub record Called (model : Id) (args : List Expr) (scope : rules.Scope) (height : ℕ) : Type 0 where
    pub sig : ModelSig
    pub long : length args ≡ length sig.params
    pub fits : fit (map (judge (around g)) args) sig.params 0 scope ≡ Ok height

  abbrev args_by : Id → List Expr → rules.Scope → Option ModelSig → Result ℕ Wrong
  args_by model args scope found = elim found [
    | None ↦ wrong Unknown model.at
    | Some sig ↦ fit_all model (map (judge (around g)) args) sig.params scope
  ]

  called-by : (model : Id) (args : List Expr) (scope : rules.Scope) (height : ℕ) (found : Option ModelSig) → args_by model args scope found ≡ Ok height → Called model args scope height
  called-by model args scope height None h = absurd (cc h)
  called-by model args scope height (Some sig) h =
      let parts : List Judge = map (judge (around g)) args in
      let w1 = went (unless (not (length parts == length sig.params)) WrongType model.at) _ height h in
      let same : length parts ≡ length sig.params = eqb-true _ _ (not-false _ (unless-is (not (length parts == length sig.params)) WrongType model.at w1.value w1.first)) in
      record { sig = sig; long = sym (length-map args (judge (around g))) ∙ same; fits = w1.next }

  pub called-at : (model : Id) (args : List Expr) (scope : rules.Scope) (height : ℕ) → args_of (around g) model args scope ≡ Ok height → Called model args scope height
  called-at model args scope height h = called-by model args scope height (model_named (around g).known model.name) h

  module _ (scope : rules.Scope) (slots : List Field) (sees : Sees (E g) scope slots) where
    pub index-stands : (index : Option Bracket) → is_proper_index index ≡ true → (height : ℕ) (next : Next) → rule_structures.index_of (around g) index scope ≡ Ok height
        → Stands (table g) next.node (resolve_index (whole g) index slots next).nodes → height ≤ 512
        → SpotsStand g.model (index_numbers (resolve_index (whole g) index slots next).own) (index_spots slots index)
    index-stands None proper height next h stands low = tt
    index-stands (Some own) proper height next h stands low =
        let w1 = went (judge (around g) own.value scope) _ height h in
        let w2 = went (wanted ty.Int w1.value) _ height w1.next in
        let t : ty.Int ≡ w1.value.ty = wanted-is ty.Int w1.value w2.value w2.first in
        let high : w1.value.height ≡ height = ok-is w1.value.height height w2.next in
        let nodes : List Node = (resolve (whole g) own.value).nodes slots next.node in (
          expr-as g own.value ty.Int scope slots w1.value next.node proper w1.first (sym t) sees
              (stands-left (table g) next.node nodes [] (stands-left (table g) next.node (nodes ++ []) [] stands)) (omega (arith, high, low)),
          tt,
        )

    pub args-stand : (args : List Expr) → list_all is_proper args ≡ true → (tys : List Ty) (height last : ℕ) → fit (map (judge (around g)) args) tys height scope ≡ Ok last
        → length args ≡ length tys → last ≤ 512 → (next : Next) → Stands (table g) next.node (resolve_all (whole g) args slots next).nodes
        → SpotsStand g.model (resolve_all (whole g) args slots next).own (map (spot_of (whole g) slots) args)
    args-stand [] proper tys height last h long low next stands = tt
    args-stand (e ∷ args) proper [] height last h long low next stands = absurd (omega (arith, long))
    args-stand (e ∷ args) proper (t ∷ tys) height last h long low next stands =
        let w1 = went (judge (around g) e scope) _ last h in
        let w2 = went (wanted t w1.value) _ last w1.next in
        let rest : max height w1.value.height ≤ last = fit-rises (map (judge (around g)) args) tys (max height w1.value.height) scope last w2.next in
        let nodes : List Node = (resolve (whole g) e).nodes slots next.node in
        let next1 : Next = behind_expr (whole g) e slots next in
        let more : List Node = (resolve_all (whole g) args slots next1).nodes in (
          expr-of g e scope slots w1.value next.node (and-left (is_proper e) (list_all is_proper args) proper) w1.first sees
              (stands-left (table g) next.node nodes [] (stands-left (table g) next.node (nodes ++ []) (more ++ []) stands)) (omega (arith, rest, low)),
          args-stand args (and-right (is_proper e) (list_all is_proper args) proper) tys (max height w1.value.height) last w2.next (omega (arith, long)) low next1
              (stands-left (table g) next1.node more [] (stands-right (table g) next.node (nodes ++ []) (more ++ []) stands)),
        )

    abbrev port_by : Id → Bool → ℕ → Bool → Option Port → Result EndSeen Wrong
    port_by name out height is_net found = elim found [
      | None ↦ wrong Unknown name.at
      | Some port ↦ port_at name out port height is_net
    ]

    -- an end is as high as its index
    port-high : (name : Id) (out : Bool) (height : ℕ) (is_net : Bool) (port : Option Port) (found : EndSeen) → port_by name out height is_net port ≡ Ok found → height ≡ found.height
    port-high name out height is_net None found h = absurd (cc h)
    port-high name out height is_net (Some port) found h =
        let own : EndSeen = record { ty = port.ty; height = height; is_net = is_net } in
        let w1 = went (unless _ BadLink name.at) (λ _. Ok own) found h in
        ap (λ (seen : EndSeen). seen.height) (ok-is own found w1.next)

    abbrev kid_by : Bool → Id → Option Bracket → Id → Option Family → Result EndSeen Wrong
    kid_by is_source name index port found = elim found [
      | None ↦ wrong Unknown name.at
      | Some family ↦ kid_end g.site is_source index family.model port scope
    ]

    kid-index : (is_source : Bool) (name : Id) (index : Option Bracket) (port : Id) (family : Option Family) (found : EndSeen)
        → kid_by is_source name index port family ≡ Ok found → rule_structures.index_of (around g) index scope ≡ Ok found.height
    kid-index is_source name index port None found h = absurd (cc h)
    kid-index is_source name index port (Some family) found h =
        let w1 = went (rule_structures.index_of (around g) index scope) _ found h in
        let high : w1.value ≡ found.height = port-high port is_source w1.value false (named port_name (ports_at (around g).known family.model) port.name) found w1.next in
        subst (λ (n : ℕ). rule_structures.index_of (around g) index scope ≡ Ok n) high w1.first

    pub part-stands : (is_source : Bool) (of : EndPart) (port : Id) → is_proper_end (record { part = of; port = port }) ≡ true → (found : EndSeen) (next : Next)
        → rule_structures.end_of g.site is_source of port scope ≡ Ok found
        → Stands (table g) next.node (resolve_part (whole g) of slots next).nodes → found.height ≤ 512
        → SpotsStand g.model (part_numbers (resolve_part (whole g) of slots next).own) (part_spots slots of)
    part-stands is_source end_part.Net port proper found next h stands low = tt
    part-stands is_source end_part.Exec port proper found next h stands low = tt
    part-stands is_source (end_part.Kid name index) port proper found next h stands low =
        index-stands index proper found.height next (kid-index is_source name index port (family_named g.site.families name.name) found h)
        (stands-left (table g) next.node (resolve_index (whole g) index slots next).nodes [] stands) low
