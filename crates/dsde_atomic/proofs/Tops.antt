-- The arguments of the model that runs, one behind another.
use Rattle.std.proofs.Common.{◌≡◌, slice_get, ℕ, ◌+◌, ◌<◌, ◌≤◌, false, List, [], ◌∷◌, ◌++◌, length, drop, Option, Some, Result, Ok, Err, slice_index_or, refl, sym, ◌∙◌, ap, subst, append_assoc}
use Rattle.std.proofs.lemmas.List.{append-nil, length-map}
use Rattle.std.proofs.lemmas.Option.{slice_get_within}
use Rattle.dsde_language.specs.given.syntax.expr_Expr.{Expr}
use Rattle.dsde_language.specs.given.syntax.decl_Model.{Model}
use Rattle.dsde_values.specs.declared.types.Field.{Field}
use Rattle.dsde_values.specs.declared.value.Value.{Value}
use Rattle.dsde_faults.specs.declared.kind.Site.TheVariants as site
use Rattle.dsde_faults.specs.declared.end.EvalEnd.{EvalEnd}
use Rattle.dsde_faults.specs.declared.end.EvalEnd.TheVariants as eval_end
use Rattle.dsde_language.specs.declared.info.Info.{Info}
use Rattle.dsde_language.specs.declared.node_ids.ExprId.{ExprId}
use Rattle.dsde_language.specs.DeclaredModels.{top_number, whole_of, types_of, Own, TopOf, owns_of, param_slots, top_in}
use Rattle.dsde_language.specs.NodeModels.{resolved}
use Rattle.dsde_language.specs.Outcome.{Outcome, ◌>>=◌, Gives, present}
use Rattle.dsde_language.specs.Typed.{Typed}
use Rattle.dsde_system.specs.given.sound_expressions.Places.{IsExpr}
use Rattle.dsde_system.specs.given.sound_expressions.Bodies.{TopStands, ArgsStand}
use Rattle.dsde_system.specs.given.formalism.System.{Chosen}
use Rattle.dsde_language.specs.Functions.{mean_of}
use Rattle.dsde_system.specs.given.sound_expressions.Conditions.{CanEval, Came}
use Rattle.dsde_system.specs.Program.{system, args_from, top_of}
use Rattle.dsde_system.specs.Fitting.{Fill, FitsArgs, Topped}
use Rattle.dsde_atomic.specs.Steps.{sited}
use Rattle.dsde_system.specs.given.sound_expressions.lemmas_Outcomes.{sound-given}
use Rattle.dsde_atomic.proofs.Ends.{then-end}
use Rattle.dsde_atomic.proofs.Filling.{fill-append, drop-at, drop-over}
use Rattle.dsde_atomic.proofs.Infos.{infos-by, info_by}

-- Arguments so far, and those that are still to come.
pub record Topping (model : Model) (rest : List ExprId) (done : List Value) : Type 0 where
  pub top : TopOf
  pub own : Own
  pub before : List Field
  pub fields : List Field
  pub args : List Expr
  pub found : top_in model.decls ≡ Some top
  pub at : slice_get (owns_of model.decls) (top_number model).0 ≡ Some own
  pub stands : ArgsStand model fields args rest
  pub fill : Fill (types_of model) before done
  pub split : before ++ fields ≡ param_slots model own
  pub goes : args_from model [] top.args ≡ args_from model done args

module _ (model : Model) where
  pub top-start : TopStands model → Topping model (resolved model).own.top_args []
  top-start stands = record {
    top = stands.top;
    own = stands.own;
    before = [];
    fields = param_slots model stands.own;
    args = stands.top.args;
    found = stands.found;
    at = stands.at;
    stands = stands.args;
    fill = tt;
    split = refl;
    goes = refl;
  }

  module _ (id : ExprId) (rest : List ExprId) (done : List Value) where
    record Next (own : Own) (before : List Field) (top : TopOf) : Type 0 where
      field : Field
      fields : List Field
      arg : Expr
      args : List Expr
      is : IsExpr model false [] id.0 arg field.ty
      stands : ArgsStand model fields args rest
      split : before ++ (field ∷ fields) ≡ param_slots model own
      goes : args_from model [] top.args ≡ (mean_of model arg [] >>= (λ own. args_from model (done ++ own ∷ []) args))

    next-of : (own : Own) (before fields : List Field) (top : TopOf) (args : List Expr) → ArgsStand model fields args (id ∷ rest) → before ++ fields ≡ param_slots model own
        → args_from model [] top.args ≡ args_from model done args → Next own before top
    next-of own before [] top [] stands split goes = absurd stands
    next-of own before [] top (arg ∷ args) stands split goes = absurd stands
    next-of own before (field ∷ fields) top [] stands split goes = absurd stands
    next-of own before (field ∷ fields) top (arg ∷ args) stands split goes =
        record { field = field; fields = fields; arg = arg; args = args; is = stands.0; stands = stands.1; split = split; goes = goes }

    module _ (at : Topping model (id ∷ rest) done) where
      next : Next at.own at.before at.top
      next = next-of at.own at.before at.fields at.top at.args at.stands at.split at.goes

      pub top-can : CanEval model id.0 []
      top-can = record { total = false; slots = []; expr = next.arg; ty = next.field.ty; vars = []; is = next.is; fits = tt; are = refl }

      module _ (result : Result Value EvalEnd) (came : Came model id.0 [] result) where
        gives : Gives (mean_of model next.arg []) result
        gives = came.gives false [] next.arg next.field.ty [] next.is tt refl

        pub top-next : (value : Value) → result ≡ Ok value → Topping model rest (done ++ value ∷ [])
        top-next value given =
            let is : mean_of model next.arg [] ≡ Ok value = subst (λ (r : Result Value EvalEnd). Gives (mean_of model next.arg []) r) given gives in
            let has : Typed (types_of model) next.field.ty value = sound-given false (Typed (types_of model) next.field.ty) (mean_of model next.arg []) value (came.sound false [] next.arg next.field.ty [] next.is tt refl) is in
            record {
              top = at.top;
              own = at.own;
              before = at.before ++ next.field ∷ [];
              fields = next.fields;
              args = next.args;
              found = at.found;
              at = at.at;
              stands = next.stands;
              fill = fill-append (types_of model) at.before (next.field ∷ []) done (value ∷ []) at.fill (has, tt);
              split = append_assoc at.before (next.field ∷ []) next.fields ∙ next.split;
              goes = next.goes ∙ ap (λ (o : Outcome Value). o >>= (λ own. args_from model (done ++ own ∷ []) next.args)) is;
            }

        top-met : top_of model ≡ (args_from model [] at.top.args >>= (λ args. Ok (record { model = top_number model; args = args })))
        top-met = ap (λ (o : Option TopOf). present o >>= (λ top. args_from model [] top.args >>= (λ args. Ok (record { model = top_number model; args = args })))) at.found

        fault : (end : EvalEnd) → Gives (top_of model) (let r : Result Chosen EvalEnd = Err end in r) → Topped (system model).top (top_number model) (Err (sited site.Top end))
        unfolding system
        fault (eval_end.Fault kind place) h = rw h refl
        fault eval_end.Memory h = tt

        pub top-end : (end : EvalEnd) → result ≡ Err end → Topped (system model).top (top_number model) (Err (sited site.Top end))
        top-end end given =
            fault end (subst (λ (o : Outcome Chosen). Gives o (let r : Result Chosen EvalEnd = Err end in r)) (sym top-met)
            (then-end (args_from model [] at.top.args) (λ args. Ok (record { model = top_number model; args = args })) end
            (subst (λ (o : Outcome (List Value)). Gives o (let r : Result (List Value) EvalEnd = Err end in r)) (sym next.goes)
            (then-end (mean_of model next.arg []) (λ own. args_from model (done ++ own ∷ []) next.args) end
            (subst (λ (r : Result Value EvalEnd). Gives (mean_of model next.arg []) r) given gives)))))

  top-done : (done : List Value) → top_of model ≡ Ok (record { model = top_number model; args = done }) → Topped (system model).top (top_number model) (Ok done)
  unfolding system
  top-done done h = rw h refl

  all-done : (own : Own) (before fields : List Field) (top : TopOf) (args : List Expr) (done : List Value) → ArgsStand model fields args [] → before ++ fields ≡ param_slots model own
      → args_from model [] top.args ≡ args_from model done args → Fill (types_of model) before done
      → (args_from model [] top.args ≡ Ok done) × Fill (types_of model) (param_slots model own) done
  all-done own before [] top [] done stands split goes fill = (goes, subst (λ (l : List Field). Fill (types_of model) l done) (sym (append-nil before) ∙ split) fill)
  all-done own before [] top (arg ∷ args) done stands split goes fill = absurd stands
  all-done own before (field ∷ fields) top [] done stands split goes fill = absurd stands
  all-done own before (field ∷ fields) top (arg ∷ args) done stands split goes fill = absurd stands

  module _ (done : List Value) (at : Topping model [] done) where
    whole : (args_from model [] at.top.args ≡ Ok done) × Fill (types_of model) (param_slots model at.own) done
    whole = all-done at.own at.before at.fields at.top at.args done at.stands at.split at.goes at.fill

    pub top-gives : Topped (system model).top (top_number model) (Ok done)
    top-gives = top-done done
        (ap (λ (o : Option TopOf). present o >>= (λ top. args_from model [] top.args >>= (λ args. Ok (record { model = top_number model; args = args })))) at.found
        ∙ ap (λ (o : Outcome (List Value)). o >>= (λ args. Ok (record { model = top_number model; args = args }))) whole.0)

    pub top-fits : FitsArgs model (top_number model).0 done
    top-fits = record {
      below = subst (λ (n : ℕ). (top_number model).0 < n)
          (sym (ap (λ (l : List Info). length l) (infos-by (whole_of model) [] model.decls) ∙ length-map (owns_of model.decls) (info_by (whole_of model))))
          (slice_get_within (owns_of model.decls) (top_number model).0 at.own at.at);
      own = at.own;
      found = at.at;
      fill = whole.1;
    }

module _ (model : Model) (numbers : List ExprId) (index : ℕ) (done : List Value) where
  pub top-at : index < length numbers → Topping model (drop index numbers) done → Topping model (slice_index_or numbers index (record { 0 = 0 }) ∷ drop (index + 1) numbers) done
  top-at below at = subst (λ (l : List ExprId). Topping model l done) (drop-at numbers index (record { 0 = 0 }) below) at

  pub top-all : length numbers ≤ index → Topping model (drop index numbers) done → Topping model [] done
  top-all past at = subst (λ (l : List ExprId). Topping model l done) (drop-over numbers index past) at
