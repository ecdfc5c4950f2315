-- Arguments in which nothing is wrong stand at their numbers.
use Rattle.std.proofs.Common.{◌≡◌, ℕ, ◌≤◌, max, true, List, [], ◌∷◌, map, length, Result, Ok, refl, sym, arith}
use Rattle.std.proofs.lemmas.Bool.{and_parts}
use Rattle.std.specs.List.{list_all}
use Rattle.dsde_language.specs.given.syntax.expr_Expr.{Expr}
use Rattle.dsde_language.specs.given.syntax.decl_Model.{Model}
use Rattle.dsde_language.specs.given.syntax.decl_Typed.{Typed}
use Rattle.dsde_language.specs.given.values.types_Ty.{Ty}
use Rattle.dsde_language.specs.declared.known.Around.{Around}
use Rattle.dsde_language.specs.declared.known.Known.{Known}
use Rattle.dsde_language.specs.declared.seen.Seen.{Seen}
use Rattle.dsde_language.specs.declared.wrong.Wrong.{Wrong}
use Rattle.dsde_language.specs.Steps.{◌>>=◌}
use Rattle.dsde_language.specs.RuleTables.{by_text, text_params}
use Rattle.dsde_language.specs.Types.{wanted}
use Rattle.dsde_language.specs.Judge.{Scope, Judge, judge, fit}
use Rattle.dsde_language.specs.Rules.{around_with}
use Rattle.dsde_language.specs.declared.node_ids.ExprId.{ExprId}
use Rattle.dsde_language.specs.declared.node.Node.{Node}
use Rattle.dsde_language.specs.Expressions.{resolve, expr_id}
use Rattle.dsde_language.specs.Items.{resolve_all}
use Rattle.dsde_language.specs.DeclaredModels.{whole_of, typed_fields}
use Rattle.dsde_language.specs.NodeModels.{resolved}
use Rattle.dsde_language.specs.Pieces as piece
use Rattle.dsde_language.specs.Pieces.{Block, Next, Step}
use Rattle.dsde_language.specs.Proper.{is_proper}
use Rattle.dsde_sound_expressions.specs.Places.{KnownAt}
use Rattle.dsde_sound_expressions.specs.Bodies.{ArgsStand}
use Rattle.dsde_sound_expressions.specs.lemmas.Steps.{ok-is, Went, went}
use Rattle.dsde_sound_expressions.specs.lemmas.Types.{wanted-is}
use Rattle.dsde_sound_expressions.proofs.Slots.{sees-slots}
use Rattle.dsde_sound_expressions.proofs.Pieces.{Put, put-first, put-next, put-own}

abbrev with_seen : List Judge → Ty → List Ty → ℕ → Scope → Seen → Result ℕ Wrong
with_seen parts ty tys height scope seen = wanted ty seen >>= (λ _. fit parts tys (max height seen.height) scope)

-- Parts are no lower than what came before them.
fit-high : (parts : List Judge) (tys : List Ty) (height last : ℕ) (scope : Scope) → fit parts tys height scope ≡ Ok last → height ≤ last
fit-high [] tys height last scope is = let same : height ≡ last = ok-is height last is in omega (arith, same)
fit-high (part ∷ parts) [] height last scope is = let same : height ≡ last = ok-is height last is in omega (arith, same)
fit-high (part ∷ parts) (ty ∷ tys) height last scope is =
    let one : Went (part scope) (with_seen parts ty tys height scope) last = went (part scope) (with_seen parts ty tys height scope) last is in
    let two = went (wanted ty one.value) (λ _. fit parts tys (max height one.value.height) scope) last one.next in
    let rest = fit-high parts tys (max height one.value.height) last scope two.next in
    omega (arith, rest)

module _ (model : Model) (known : Known) (at : KnownAt model known) where
  abbrev whole : Known
  whole = whole_of model

  abbrev nodes : List Node
  nodes = (resolved model).nodes

  abbrev blocks : List Block
  blocks = (resolved model).blocks

  abbrev around : Around
  around = around_with known []

  abbrev arg_step : Expr → Step ExprId
  arg_step own = piece.expr (resolve whole own) (λ value ty. piece.give value)

  abbrev behind_arg : List Expr → ExprId → Step (List ExprId)
  behind_arg args own = piece.◌>>=◌ (resolve_all whole args) (λ others. piece.give (own ∷ others))

  pub args-stand : (args : List Expr) (params : List Typed) (height last : ℕ) → fit (map (judge around) args) (text_params whole.words params) height [] ≡ Ok last → length args ≡ length params → last ≤ 512
      → list_all is_proper args ≡ true → (next : Next) → Put nodes blocks next (resolve_all whole args [] next) → ArgsStand model (typed_fields whole params) args (resolve_all whole args [] next).own
  args-stand [] [] height last is long low proper next put = tt
  args-stand [] (param ∷ params) height last is long low proper next put = absurd (omega (arith, long))
  args-stand (own ∷ args) [] height last is long low proper next put = absurd (omega (arith, long))
  args-stand (own ∷ args) (param ∷ params) height last is long low proper next put =
      let ty : Ty = by_text whole.words param.ty in
      let parts : List Judge = map (judge around) args in
      let tys : List Ty = text_params whole.words params in
      let one : Went (judge around own []) (with_seen parts ty tys height []) last = went (judge around own []) (with_seen parts ty tys height []) last is in
      let two = went (wanted ty one.value) (λ _. fit parts tys (max height one.value.height) []) last one.next in
      let high = fit-high parts tys (max height one.value.height) last [] two.next in
      let both = and_parts (is_proper own) (list_all is_proper args) proper in
      let first = put-first nodes blocks (arg_step own) (behind_arg args) [] next put in
      let next1 : Next = piece.behind next (arg_step own [] next) in
      let put1 = put-next nodes blocks (arg_step own) (behind_arg args) [] next put in
      let put2 = put-first nodes blocks (resolve_all whole args) (λ others. piece.give (expr_id next.node ∷ others)) [] next1 put1 in (
        record {
          around = around;
          scope = [];
          found = one.value;
          known = at;
          is_total = refl;
          proper = both.0;
          judged = one.first;
          of = sym (wanted-is ty one.value two.value two.first);
          low = omega (arith, high, low);
          sees = sees-slots [] [] refl;
          stands = put-own nodes blocks (resolve whole own) (λ value ty. piece.give value) [] next first;
        },
        args-stand args params (max height one.value.height) last two.next (omega (arith, long)) low both.1 next1 put2,
      )
