-- Any expression of a model in which nothing is wrong.
use Rattle.std.proofs.Common.{◌≡◌, ◌≢◌, ℕ, ℤ, Bool, List, Option, Some, None, Result, Ok, Err, sym, ◌∙◌, ap, subst, IfSome}
use Rattle.dsde_language.specs.given.syntax.expr_Expr.{Expr}
use Rattle.dsde_language.specs.given.syntax.decl_Model.{Model}
use Rattle.dsde_values.specs.declared.types.Field.{Field}
use Rattle.dsde_values.specs.declared.types.Ty.{Ty}
use Rattle.dsde_values.specs.declared.value.Value.{Value}
use Rattle.dsde_values.specs.declared.value.Value.TheVariants as value
use Rattle.dsde_faults.specs.declared.end.EvalEnd.{EvalEnd}
use Rattle.dsde_language.specs.Judge.{judge}
use Rattle.dsde_language.specs.Expressions.{resolve, expr_id}
use Rattle.dsde_language.specs.DeclaredModels.{whole_of, types_of}
use Rattle.dsde_language.specs.Right.{IsRight}
use Rattle.dsde_language.specs.Outcome.{Stuck, Outcome, Gives}
use Rattle.dsde_language.specs.Meaning.{Vars}
use Rattle.dsde_language.specs.Functions.{functions_of, mean_of}
use Rattle.dsde_language.specs.MeaningTables.{Coded, means_in}
use Rattle.dsde_language.specs.Typed.{Typed, Sound, Fits, values_in}
use Rattle.dsde_language.specs.Agreement.{Agrees, ExpressionsAgree}
use Rattle.dsde_sound_expressions.specs.Places.{IsExpr}
use Rattle.dsde_sound_expressions.specs.Laws.{KnownIsWithin}
use Rattle.dsde_sound_expressions.specs.Coded.{coded_of, FuncsAgree, FunctionsAgree}
use Rattle.dsde_sound_expressions.specs.Conditions.{CanEval, Came}
use Rattle.dsde_sound_expressions.specs.lemmas.Outcomes.{sound-stuck}

module _ (model : Model) (right : IsRight model) (agree : ExpressionsAgree) (within : KnownIsWithin) (functions : FunctionsAgree) where
  module _ (total : Bool) (slots : List Field) (number : ℕ) (expr : Expr) (t : Ty) (is : IsExpr model total slots number expr t) where
    agrees : Agrees (types_of model) (coded_of model) is.around.has_elapsed is.around.is_total (judge is.around expr) (resolve (whole_of model) expr) (mean_of model expr)
    agrees =
        let known : FuncsAgree model is.around.known = functions model is.around.known right is.known in
        agree (types_of model) (coded_of model) (whole_of model) (functions_of model) is.around expr
        (within model is.around.known right is.known) known.serve known.calls is.proper

    -- It comes to a value of its type, or where it need not be total to a fault.
    pub expr-sound : (vars : Vars) → Fits (types_of model) vars slots → Sound total (Typed (types_of model) t) (mean_of model expr vars)
    expr-sound vars fits =
        subst (λ (b : Bool). Sound b (Typed (types_of model) t) (mean_of model expr vars)) is.is_total
        (subst (λ (u : Ty). Sound is.around.is_total (Typed (types_of model) u) (mean_of model expr vars)) is.of
        (agrees.sound is.scope slots is.found vars is.judged is.sees fits))

    expr-reads : (vars : Vars) → Fits (types_of model) vars slots → (means_in (coded_of model) 512).part (expr_id number) (values_in vars) ≡ mean_of model expr vars
    expr-reads vars fits = agrees.reads is.scope slots is.found vars number 512 is.judged is.sees fits is.stands is.low is.low

  module _ (coded : Coded) (are_tables : coded ≡ coded_of model) (number : ℕ) (values : List Value) where
    part-is : (total : Bool) (slots : List Field) (expr : Expr) (t : Ty) (vars : Vars) → IsExpr model total slots number expr t → Fits (types_of model) vars slots → values_in vars ≡ values
        → (means_in coded 512).part (expr_id number) values ≡ mean_of model expr vars
    part-is total slots expr t vars is fits are =
        ap (λ (c : Coded). (means_in c 512).part (expr_id number) values) are_tables
        ∙ ap (λ (l : List Value). (means_in (coded_of model) 512).part (expr_id number) l) (sym are)
        ∙ expr-reads total slots number expr t is vars fits

    pub part-allowed : CanEval model number values → (means_in coded 512).part (expr_id number) values ≢ Err Stuck
    part-allowed can = λ e.
        sound-stuck can.total (Typed (types_of model) can.ty) (mean_of model can.expr can.vars) (expr-sound can.total can.slots number can.expr can.ty can.is can.vars can.fits)
        (sym (part-is can.total can.slots can.expr can.ty can.vars can.is can.fits can.are) ∙ e)

    -- what it gives, for each expression that stands there
    part-gives : (result : Result Value EvalEnd) → Gives ((means_in coded 512).part (expr_id number) values) result
        → (total : Bool) (slots : List Field) (expr : Expr) (t : Ty) (vars : Vars) → IsExpr model total slots number expr t → Fits (types_of model) vars slots → values_in vars ≡ values
        → Gives (mean_of model expr vars) result
    part-gives result gives total slots expr t vars is fits are =
        subst (λ (o : Outcome Value). Gives o result) (part-is total slots expr t vars is fits are) gives

    pub part-came : (result : Result Value EvalEnd) → Gives ((means_in coded 512).part (expr_id number) values) result → Came model number values result
    part-came result gives = record {
      gives = part-gives result gives;
      sound = λ total slots expr t vars is fits are. expr-sound total slots number expr t is vars fits;
    }

    -- the number in an option that an expression comes to
    pub number-came : (result : Option ℤ) → IfSome result (λ found. (means_in coded 512).part (expr_id number) values ≡ Ok (value.Some (value.Int found)))
        → IfSome result (λ found. Came model number values (Ok (value.Some (value.Int found))))
    number-came None is = tt
    number-came (Some found) is = part-came (Ok (value.Some (value.Int found))) is
