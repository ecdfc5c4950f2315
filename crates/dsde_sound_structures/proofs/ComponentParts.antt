-- Expressions and blocks of a model in which nothing is wrong.
use Rattle.std.proofs.Common.{ℕ, Bool, false, List, [], Option, Some, None, Ok, Err, refl, subst}
use Rattle.dsde_sim_tree.specs.given.syntax.expr_Expr.{Expr}
use Rattle.dsde_sim_tree.specs.given.syntax.stmt_Stmt.{Stmt}
use Rattle.dsde_sim_tree.specs.given.syntax.decl_Model.{Model}
use Rattle.dsde_sim_tree.specs.given.syntax.decl_Phase.{Phase}
use Rattle.dsde_values.specs.declared.types.Field.{Field}
use Rattle.dsde_values.specs.declared.types.Ty.{Ty}
use Rattle.dsde_values.specs.declared.types.Types.{Types}
use Rattle.dsde_sim_tree.specs.given.language.node_ids_BlockId.{BlockId}
use Rattle.dsde_sim_tree.specs.given.language.DeclaredModels.{whole_of, types_of}
use Rattle.dsde_sim_tree.specs.given.language.Expressions.{resolve}
use Rattle.dsde_sim_tree.specs.given.language.Judge.{judge}
use Rattle.dsde_sim_tree.specs.given.language.Right.{IsRight}
use Rattle.dsde_sim_tree.specs.given.language.Agreement.{Agrees, ExpressionsAgree, BlockAgrees, BlocksAgree}
use Rattle.dsde_sim_tree.specs.given.language.Flow.{Flow, lifted}
use Rattle.dsde_sim_tree.specs.given.language.Functions.{functions_of, mean_of, block_of}
use Rattle.dsde_sim_tree.specs.given.language.Meaning.{Vars, Scene, scene}
use Rattle.dsde_sim_tree.specs.given.language.Outcome.{Halt, Fault, Stuck, Outcome}
use Rattle.dsde_sim_tree.specs.given.language.Typed.{Typed, Sound, Fits, AllSent, Faults, Lands}
use Rattle.dsde_sound_names.specs.given.sound_expressions.Places.{IsExpr, IsBlock, piece_of}
use Rattle.dsde_sound_names.specs.given.sound_expressions.Bodies.{PhaseStands}
use Rattle.dsde_sound_names.specs.given.sound_expressions.Laws.{KnownIsWithin}
use Rattle.dsde_sound_names.specs.given.sound_expressions.Conditions.{Grown}
use Rattle.dsde_sound_names.specs.given.sound_expressions.Coded.{coded_of, FuncsAgree, FunctionsAgree}

module _ (model : Model) (right : IsRight model) (agree : ExpressionsAgree) (within : KnownIsWithin) (functions : FunctionsAgree) where
  module _ (total : Bool) (slots : List Field) (number : ℕ) (expr : Expr) (t : Ty) (is : IsExpr model total slots number expr t) where
    agrees : Agrees (types_of model) (coded_of model) is.around.has_elapsed is.around.is_total (judge is.around expr) (resolve (whole_of model) expr) (mean_of model expr)
    agrees =
        let known : FuncsAgree model is.around.known = functions model is.around.known right is.known in
        agree (types_of model) (coded_of model) (whole_of model) (functions_of model) is.around expr
        (within model is.around.known right is.known) known.serve known.calls is.proper

    -- It comes to a value of its type, or where it need not be total to a fault.
    pub expr-sound : (vars : Vars) → Fits (types_of model) vars slots → Sound total (Typed (types_of model) t) (mean_of model expr vars)
    expr-sound vars fits =
        subst (λ (b : Bool). Sound b (Typed (types_of model) t) (mean_of model expr vars)) is.is_total
        (subst (λ (u : Ty). Sound is.around.is_total (Typed (types_of model) u) (mean_of model expr vars)) is.of
        (agrees.sound is.scope slots is.found vars is.judged is.sees fits))

-- What a block left: variables that begin with those that there were, and what it sent.
pub record Left (types : Types) (slots outs : List Field) (end : Scene) : Type 0 where
  pub scope : List Field
  pub grown : Grown slots scope
  pub fits : Fits types end.vars scope
  pub sent : AllSent types outs end.sends

left : (types : Types) (slots outs scope : List Field) (flow : Flow Scene Scene) → Grown slots scope → Lands types outs scope flow → Sound false (Left types slots outs) (lifted flow)
left types slots outs scope (Ok end) grown lands = record { scope = scope; grown = grown; fits = lands.0; sent = lands.1 }
left types slots outs scope (Err end) grown lands = halted end.halt lands.0
  where
    halted : (halt : Halt) → Faults halt → Sound false (Left types slots outs) (Err halt)
    halted (Fault kind at) h = refl
    halted Stuck h = absurd h

module _ (model : Model) (right : IsRight model) (agree : BlocksAgree) (within : KnownIsWithin) (functions : FunctionsAgree) where
  module _ (slots outs : List Field) (number : ℕ) (stmts : List Stmt) (is : IsBlock model slots outs number stmts) where
    lands : BlockAgrees (types_of model) (coded_of model) is.around.has_elapsed outs is.passed slots is.next (piece_of model slots outs stmts is.next) (block_of model outs stmts)
    lands =
        let known : FuncsAgree model is.around.known = functions model is.around.known right is.known in
        agree (types_of model) (coded_of model) (whole_of model) (functions_of model) is.around is.ports outs stmts is.scope is.passed slots is.next
        (within model is.around.known right is.known) known.serve known.calls is.sends is.proper is.judged is.sees

    -- It leaves what it should, or stops at a fault.
    pub block-sound : (vars : Vars) → Fits (types_of model) vars slots → Sound false (Left (types_of model) slots outs) (lifted (block_of model outs stmts (scene vars [])))
    block-sound vars fits =
        left (types_of model) slots outs (piece_of model slots outs stmts is.next).scope (block_of model outs stmts (scene vars []))
        (record { more = lands.more; is = lands.grows }) (lands.lands (scene vars []) fits tt)

-- A block that may be left out, by what comes without it and with it.
pub phase-sound : {A : Type 0} (model : Model) (slots outs : List Field) (Q : A → Type 0) (number : Option BlockId) (found : Option Phase) (none : Outcome A) (some : Phase → Outcome A)
    → PhaseStands model slots outs number found → Sound false Q none
    → ((phase : Phase) (block : BlockId) → IsBlock model slots outs block.0 phase.stmts → Sound false Q (some phase))
    → Sound false Q (elim found [ None ↦ none | Some phase ↦ some phase ])
phase-sound model slots outs Q None None none some stands h k = h
phase-sound model slots outs Q (Some block) (Some phase) none some stands h k = k phase block stands
phase-sound model slots outs Q None (Some phase) none some stands h k = absurd stands
phase-sound model slots outs Q (Some block) None none some stands h k = absurd stands
