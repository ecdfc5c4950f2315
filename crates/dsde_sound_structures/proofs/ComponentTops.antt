-- The model that runs.
use Rattle.std.proofs.Common.{false, List, [], ◌∷◌, ◌++◌, Option, Ok, refl, sym, subst, append_assoc}
use Rattle.std.proofs.lemmas.List.{append-nil}
use Rattle.dsde_sim_tree.specs.given.syntax.expr_Expr.{Expr}
use Rattle.dsde_sim_tree.specs.given.syntax.decl_Model.{Model}
use Rattle.dsde_values.specs.declared.types.Field.{Field}
use Rattle.dsde_values.specs.declared.value.Value.{Value}
use Rattle.dsde_faults.specs.declared.kind.Site.TheVariants as site
use Rattle.dsde_sim_tree.specs.given.language.node_ids_ExprId.{ExprId}
use Rattle.dsde_sim_tree.specs.given.language.DeclaredModels.{top_number, types_of, TopOf, param_slots}
use Rattle.dsde_sim_tree.specs.given.language.NodeModels.{resolved}
use Rattle.dsde_sim_tree.specs.given.language.Right.{IsRight}
use Rattle.dsde_sim_tree.specs.given.language.Agreement.{ExpressionsAgree}
use Rattle.dsde_sim_tree.specs.given.language.Outcome.{Outcome, ◌>>=◌, present}
use Rattle.dsde_sim_tree.specs.given.language.Typed.{Typed, Sound}
use Rattle.dsde_sound_names.specs.given.sound_expressions.lemmas_Outcomes.{sound-then}
use Rattle.dsde_sound_structures.specs.Lawful.{TopIsDeclared}
use Rattle.dsde_sound_names.specs.given.sound_expressions.Bodies.{TopStands, ArgsStand}
use Rattle.dsde_sim_tree.specs.given.language.Functions.{mean_of}
use Rattle.dsde_sound_names.specs.given.sound_expressions.Laws.{KnownIsWithin, TopsStand}
use Rattle.dsde_sound_names.specs.given.sound_expressions.Coded.{FunctionsAgree}
use Rattle.dsde_sim_tree.specs.given.formalism.System.{Chosen}
use Rattle.dsde_system.specs.Program.{system, args_from, top_of}
use Rattle.dsde_system.specs.Fitting.{Fill}
use Rattle.dsde_sound_structures.specs.Sure.{Sure, FitsChosen}
use Rattle.dsde_sound_structures.specs.lemmas.Steps.{sure-at}
use Rattle.dsde_sound_structures.proofs.Filling.{fill-append}
use Rattle.dsde_sound_structures.proofs.ComponentParts.{expr-sound}

module _ (model : Model) (right : IsRight model) (expressions : ExpressionsAgree) (within : KnownIsWithin) (functions : FunctionsAgree) (tops : TopsStand) (declared : TopIsDeclared) where
  -- arguments, behind those that are done
  args-sound : (before fields : List Field) (done : List Value) (args : List Expr) (numbers : List ExprId)
      → ArgsStand model fields args numbers → Fill (types_of model) before done
      → Sound false (Fill (types_of model) (before ++ fields)) (args_from model done args)
  args-sound before [] done [] [] stands fill = subst (λ (l : List Field). Fill (types_of model) l done) (sym (append-nil before)) fill
  args-sound before [] done [] (number ∷ numbers) stands fill = absurd stands
  args-sound before [] done (arg ∷ args) numbers stands fill = absurd stands
  args-sound before (field ∷ fields) done [] numbers stands fill = absurd stands
  args-sound before (field ∷ fields) done (arg ∷ args) [] stands fill = absurd stands
  args-sound before (field ∷ fields) done (arg ∷ args) (number ∷ numbers) stands fill =
      sound-then false (Typed (types_of model) field.ty) (Fill (types_of model) (before ++ (field ∷ fields))) (mean_of model arg []) (λ own. args_from model (done ++ own ∷ []) args)
      (expr-sound model right expressions within functions false [] number.0 arg field.ty stands.0 [] tt)
      (λ own typed.
      subst (λ (l : List Field). Sound false (Fill (types_of model) l) (args_from model (done ++ own ∷ []) args)) (append_assoc before (field ∷ []) fields)
      (args-sound (before ++ field ∷ []) fields (done ++ own ∷ []) args numbers stands.1 (fill-append (types_of model) before (field ∷ []) done (own ∷ []) fill (typed, tt))))

  abbrev stands : TopStands model
  stands = tops model right

  abbrev choose : TopOf → Outcome Chosen
  choose top = args_from model [] top.args >>= (λ args. Ok (record { model = top_number model; args = args }))

  chosen-sound : Sound false (FitsChosen model) (choose stands.top)
  chosen-sound =
      sound-then false (Fill (types_of model) (param_slots model stands.own)) (FitsChosen model) (args_from model [] stands.top.args)
      (λ args. Ok (record { model = top_number model; args = args }))
      (args-sound [] (param_slots model stands.own) [] stands.top.args (resolved model).own.top_args stands.args tt)
      (λ args fill. record { is = refl; args = record { below = declared model right; own = stands.own; found = stands.at; fill = fill } })

  top-sound : Sound false (FitsChosen model) (top_of model)
  top-sound = subst (λ (o : Option TopOf). Sound false (FitsChosen model) (present o >>= choose)) (sym stands.found) chosen-sound

  pub top-sure : Sure (FitsChosen model) (system model).top
  unfolding system
  top-sure = sure-at site.Top (FitsChosen model) (top_of model) top-sound
