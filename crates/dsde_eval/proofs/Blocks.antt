-- Any block of a model in which nothing is wrong.
use Rattle.std.proofs.Common.{◌≡◌, ◌≢◌, ℕ, suc, ◌+◌, List, [], ◌∷◌, ◌++◌, length, Some, Result, Ok, Err, slice_get, refl, sym, ◌∙◌, ap, subst, append_assoc, length-append}
use Rattle.dsde_language.specs.given.syntax.stmt_Stmt.{Stmt}
use Rattle.dsde_language.specs.given.syntax.decl_Model.{Model}
use Rattle.dsde_values.specs.declared.arrival.Item.{Item}
use Rattle.dsde_values.specs.declared.types.Field.{Field}
use Rattle.dsde_values.specs.declared.types.Types.{Types}
use Rattle.dsde_values.specs.declared.value.Value.{Value}
use Rattle.dsde_faults.specs.declared.end.EvalEnd.{EvalEnd}
use Rattle.dsde_language.specs.declared.node_ids.BlockId.{BlockId}
use Rattle.dsde_language.specs.DeclaredModels.{whole_of, types_of}
use Rattle.dsde_language.specs.Pieces.{Block}
use Rattle.dsde_language.specs.Right.{IsRight}
use Rattle.dsde_language.specs.Outcome.{Halt, Fault, Stuck}
use Rattle.dsde_language.specs.Meaning.{Vars, Scene, scene}
use Rattle.dsde_language.specs.Flow.{Flow, why}
use Rattle.dsde_language.specs.Functions.{functions_of, block_of}
use Rattle.dsde_language.specs.MeaningTables.{Coded, State, state_of, means_in, acts_flow, Flows}
use Rattle.dsde_language.specs.Typed.{Fits, AllSent, Lands, values_in, shown, seen}
use Rattle.dsde_language.specs.Scopes.{Stands}
use Rattle.dsde_language.specs.Agreement.{BlockAgrees, BlocksAgree}
use Rattle.dsde_sound_expressions.specs.Places.{IsBlock, piece_of}
use Rattle.dsde_sound_expressions.specs.Laws.{KnownIsWithin}
use Rattle.dsde_sound_expressions.specs.Coded.{coded_of, FuncsAgree, FunctionsAgree}
use Rattle.dsde_sound_expressions.specs.Conditions.{CanRun, Ran, Grown}

-- the block with a number
abbrev block_id : ℕ → BlockId
block_id number = record { 0 = number }

get-at : {A : Type 0} (before : List A) (own : A) (rest : List A) → slice_get (before ++ own ∷ rest) (length before) ≡ Some own
get-at [] own rest = refl
get-at (other ∷ before) own rest = get-at before own rest

first-stands : {A : Type 0} (table : List A) (start : ℕ) (own : A) (part : List A) → Stands table start (own ∷ part) → slice_get table start ≡ Some own
first-stands {A = A} table start own part stands =
    ap (λ (l : List A). slice_get l start) stands.is
    ∙ ap (λ (n : ℕ). slice_get (stands.before ++ own ∷ (part ++ stands.rest)) n) (sym stands.at)
    ∙ get-at stands.before own (part ++ stands.rest)

others-stand : {A : Type 0} (table : List A) (start : ℕ) (own : A) (part : List A) → Stands table start (own ∷ part) → Stands table (start + 1) part
others-stand {A = A} table start own part stands = record {
  before = stands.before ++ own ∷ [];
  rest = stands.rest;
  is = stands.is ∙ sym (append_assoc stands.before (own ∷ []) (part ++ stands.rest));
  at = rw length-append (ap (λ (n : ℕ). n + 1) stands.at);
}

-- A block that stands at its number does, one deeper, what its statements do.
run-at : (coded : Coded) (depth number : ℕ) (own : Block) (state : State) → slice_get coded.blocks number ≡ Some own
    → (means_in coded (suc depth)).run (block_id number) state ≡ acts_flow (means_in coded depth) own state
unfolding means_in
run-at coded depth number own state found = rw found refl

module _ (types : Types) (outs slots : List Field) where
  halt-why : (state : Scene) (halt : Halt) → Lands types outs slots (Err (record { state = state; halt = halt })) → why (let r : Flow Scene Scene = Err (record { state = state; halt = halt }) in r) ≢ Some Stuck
  halt-why state (Fault kind at) h = λ e. cc
  halt-why state Stuck h = absurd h.0

  lands-why : (x : Flow Scene Scene) → Lands types outs slots x → why x ≢ Some Stuck
  lands-why (Ok after) h = λ e. cc
  lands-why (Err end) h = halt-why end.state end.halt h

why-seen : (x : Flow Scene Scene) → why (seen x) ≡ why x
why-seen (Ok after) = refl
why-seen (Err end) = refl

module _ (model : Model) (right : IsRight model) (agree : BlocksAgree) (within : KnownIsWithin) (functions : FunctionsAgree) where
  module _ (slots outs : List Field) (number : ℕ) (stmts : List Stmt) (is : IsBlock model slots outs number stmts) where
    agrees : BlockAgrees (types_of model) (coded_of model) is.around.has_elapsed outs is.passed slots is.next (piece_of model slots outs stmts is.next) (block_of model outs stmts)
    agrees =
        let known : FuncsAgree model is.around.known = functions model is.around.known right is.known in
        agree (types_of model) (coded_of model) (whole_of model) (functions_of model) is.around is.ports outs stmts is.scope is.passed slots is.next
        (within model is.around.known right is.known) known.serve known.calls is.sends is.proper is.judged is.sees

    block-lands : (vars : Vars) (sends : List Item) → Fits (types_of model) vars slots → AllSent (types_of model) outs sends
        → Lands (types_of model) outs (piece_of model slots outs stmts is.next).scope (block_of model outs stmts (scene vars sends))
    block-lands vars sends fits sent = agrees.lands (scene vars sends) fits sent

    block-grows : Grown slots (piece_of model slots outs stmts is.next).scope
    block-grows = record { more = agrees.more; is = agrees.grows }

    block-runs : (vars : Vars) (sends : List Item) → Fits (types_of model) vars slots → AllSent (types_of model) outs sends
        → (means_in (coded_of model) 513).run (block_id number) (shown (scene vars sends)) ≡ seen (block_of model outs stmts (scene vars sends))
    block-runs vars sends fits sent =
        let own : Block = (piece_of model slots outs stmts is.next).own in
        let rest : List Block = (piece_of model slots outs stmts is.next).blocks in
        run-at (coded_of model) 512 number own (shown (scene vars sends)) (first-stands (coded_of model).blocks number own rest is.blocks)
        ∙ agrees.runs (scene vars sends) 512 fits sent is.nodes
        (subst (λ (n : ℕ). Stands (coded_of model).blocks n rest) (sym is.behind) (others-stand (coded_of model).blocks number own rest is.blocks))
        is.low is.low

  module _ (coded : Coded) (are_tables : coded ≡ coded_of model) (number : ℕ) (values : List Value) (sends : List Item) where
    run-is : (slots outs : List Field) (stmts : List Stmt) (vars : Vars) → IsBlock model slots outs number stmts → Fits (types_of model) vars slots → values_in vars ≡ values → AllSent (types_of model) outs sends
        → (means_in coded 513).run (block_id number) (state_of values sends) ≡ seen (block_of model outs stmts (scene vars sends))
    run-is slots outs stmts vars is fits are sent =
        ap (λ (c : Coded). (means_in c 513).run (block_id number) (state_of values sends)) are_tables
        ∙ ap (λ (l : List Value). (means_in (coded_of model) 513).run (block_id number) (state_of l sends)) (sym are)
        ∙ block-runs slots outs number stmts is vars sends fits sent

    pub run-allowed : CanRun model number values sends → why ((means_in coded 513).run (block_id number) (state_of values sends)) ≢ Some Stuck
    run-allowed can = λ e.
        lands-why (types_of model) can.outs (piece_of model can.slots can.outs can.stmts can.is.next).scope (block_of model can.outs can.stmts (scene can.vars sends))
        (block-lands can.slots can.outs number can.stmts can.is can.vars sends can.fits can.sent)
        (sym (why-seen (block_of model can.outs can.stmts (scene can.vars sends)))
        ∙ ap (λ (o : Flow State State). why o) (sym (run-is can.slots can.outs can.stmts can.vars can.is can.fits can.are can.sent)) ∙ e)

    pub run-ran : (result : Result (Unit {0}) EvalEnd) (after : List Value) (sent : List Item) → Flows ((means_in coded 513).run (block_id number) (state_of values sends)) result after sent
        → Ran model number values sends result after sent
    run-ran result after sent flows = record {
      flows = λ slots outs stmts vars is fits are all.
          subst (λ (o : Flow State State). Flows o result after sent) (run-is slots outs stmts vars is fits are all) flows;
      lands = λ slots outs stmts vars is fits are all. block-lands slots outs number stmts is vars sends fits all;
      grows = λ slots outs stmts is. block-grows slots outs number stmts is;
    }
