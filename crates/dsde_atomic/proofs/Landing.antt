-- State variables behind a block.
use Rattle.std.proofs.Common.{◌≡◌, ℕ, zero, suc, ◌+◌, ◌≤◌, List, [], ◌∷◌, ◌++◌, length, take, drop, Result, Ok, Err, refl, sym, ◌∙◌, ap, subst, length-append, arith}
use Rattle.dsde_language.specs.given.syntax.decl_Model.{Model}
use Rattle.dsde_values.specs.declared.arrival.Item.{Item}
use Rattle.dsde_values.specs.declared.types.Field.{Field}
use Rattle.dsde_values.specs.declared.types.Types.{Types}
use Rattle.dsde_values.specs.declared.value.Value.{Value}
use Rattle.dsde_faults.specs.declared.end.EvalEnd.{EvalEnd}
use Rattle.dsde_faults.specs.declared.end.EvalEnd.TheVariants as eval_end
use Rattle.dsde_language.specs.DeclaredModels.{types_of}
use Rattle.dsde_language.specs.Outcome.{Fault, Outcome, ◌>>=◌, Gives}
use Rattle.dsde_language.specs.Meaning.{Scene, scene}
use Rattle.dsde_language.specs.Flow.{Flow, Stopped, lifted}
use Rattle.dsde_language.specs.MeaningTables.{State, state_of, Flows}
use Rattle.dsde_language.specs.Typed.{Fits, AllSent, Lands, values_in, shown, seen}
use Rattle.dsde_system.specs.given.sound_expressions.Places.{piece_of}
use Rattle.dsde_language.specs.Functions.{block_of}
use Rattle.dsde_system.specs.given.sound_expressions.Conditions.{CanRun, Ran, Grown}
use Rattle.dsde_system.specs.Fitting.{Fill}
use Rattle.dsde_atomic.specs.Steps.{part, CanMove, Moved}
use Rattle.dsde_atomic.proofs.Filling.{fits-fill, fill-length, fill-take, fill-drop}

ok-state : (a b : State) → (let r : Flow State State = Ok a in r) ≡ Ok b → a ≡ b
ok-state a b h = cc

err-state : (a b : Stopped State) → (let r : Flow State State = Err a in r) ≡ Err b → a ≡ b
err-state a b e = cc

-- What a block came to, by the slots that it left.
pub record Landed (types : Types) (outs slots : List Field) (meant : Flow Scene Scene) (after : List Value) (sent : List Item) : Type 0 where
  pub end : Scene
  pub is : meant ≡ Ok end
  pub are : values_in end.vars ≡ after
  pub sends : end.sends ≡ sent
  pub fits : Fits types end.vars slots
  pub all : AllSent types outs sent

pub landed : (types : Types) (outs slots : List Field) (meant : Flow Scene Scene) (u : Unit {0}) (after : List Value) (sent : List Item)
    → Flows (seen meant) (Ok u) after sent → Lands types outs slots meant → Landed types outs slots meant after sent
landed types outs slots (Ok end) u after sent flows lands =
    let same : shown end ≡ state_of after sent = ok-state (shown end) (state_of after sent) flows in
    record {
      end = end;
      is = refl;
      are = ap (λ (s : State). s.slots) same;
      sends = ap (λ (s : State). s.sends) same;
      fits = lands.0;
      all = subst (λ (l : List Item). AllSent types outs l) (ap (λ (s : State). s.sends) same) lands.1;
    }
landed types outs slots (Err end) u after sent flows lands = cc

-- A fault of a block is that of its outcome.
pub flow-end : {A : Type 0} (meant : Flow Scene Scene) (next : Scene → Outcome A) (end : EvalEnd) (after : List Value) (sent : List Item)
    → Flows (seen meant) (Err end) after sent → Gives (lifted meant >>= next) (let r : Result A EvalEnd = Err end in r)
flow-end (Ok own) next (eval_end.Fault kind at) after sent flows = cc
flow-end {A = A} (Err own) next (eval_end.Fault kind at) after sent flows =
    ap (λ (s : Stopped State). (let r : Outcome A = Err s.halt in r)) (err-state (record { state = shown own.state; halt = own.halt }) (record { state = state_of after sent; halt = Fault kind at }) flows)
flow-end meant next eval_end.Memory after sent flows = tt

pub lifted-ok : {A : Type 0} (meant : Flow Scene Scene) (next : Scene → Outcome A) (end : Scene) → meant ≡ Ok end → (lifted meant >>= next) ≡ next end
lifted-ok meant next end is = rw is refl

ok-values : (a b : List Value) → (let r : Result (List Value) EvalEnd = Ok a in r) ≡ Ok b → a ≡ b
ok-values a b h = cc

err-ok : (end : EvalEnd) (state : List Value) → (let r : Result (List Value) EvalEnd = Err end in r) ≡ Ok state → ⊥
err-ok end state h = cc

grown-long : (slots more : List Field) → length slots ≤ length (slots ++ more)
grown-long slots more =
    let size : length (slots ++ more) ≡ length slots + length more = length-append slots more in
    omega (arith, size)

take-past : (count : ℕ) (xs ys : List Field) → count ≤ length xs → take count (xs ++ ys) ≡ take count xs
take-past zero xs ys h = refl
take-past (suc count) [] ys h = absurd (omega (arith, h))
take-past (suc count) (x ∷ xs) ys h = ap (λ (l : List Field). x ∷ l) (take-past count xs ys (omega (arith, h)))

part-past : (params states : ℕ) (xs ys : List Field) → params + states ≤ length xs → take states (drop params (xs ++ ys)) ≡ take states (drop params xs)
part-past zero states xs ys h = take-past states xs ys (omega (arith, h))
part-past (suc params) states [] ys h = absurd (omega (arith, h))
part-past (suc params) states (x ∷ xs) ys h = part-past params states xs ys (omega (arith, h))

module _ (model : Model) (number : ℕ) (values : List Value) (params states : ℕ) where
  pub move-can : CanMove model number values → CanRun model number values []
  move-can can = record { slots = can.slots; outs = []; stmts = can.stmts; vars = can.vars; is = can.is; fits = can.fits; are = can.are; sent = tt }

  module _ (after : List Value) (sent : List Item) where
    -- The slots are no fewer than before.
    pub move-long : (u : Unit {0}) → CanMove model number values → Ran model number values [] (Ok u) after sent → params ≤ length values → params ≤ length after
    move-long u can ran few =
        let scope : List Field = (piece_of model can.slots [] can.stmts can.is.next).scope in
        let grown : Grown can.slots scope = ran.grows can.slots [] can.stmts can.is in
        let end : Landed (types_of model) [] scope (block_of model [] can.stmts (scene can.vars [])) after sent =
        landed (types_of model) [] scope (block_of model [] can.stmts (scene can.vars [])) u after sent (ran.flows can.slots [] can.stmts can.vars can.is can.fits can.are tt) (ran.lands can.slots [] can.stmts can.vars can.is can.fits can.are tt) in
        let size : length after ≡ length scope = ap (λ (l : List Value). length l) (sym end.are) ∙ fill-length (types_of model) scope (values_in end.end.vars) (fits-fill (types_of model) end.end.vars scope end.fits) in
        let before : length values ≡ length can.slots = ap (λ (l : List Value). length l) (sym can.are) ∙ fill-length (types_of model) can.slots (values_in can.vars) (fits-fill (types_of model) can.vars can.slots can.fits) in
        let whole : length scope ≡ length (can.slots ++ grown.more) = ap (λ (l : List Field). length l) grown.is in
        let long : length can.slots ≤ length (can.slots ++ grown.more) = grown-long can.slots grown.more in
        omega (arith, size, before, whole, long, few)

    pub move-fails : (end : EvalEnd) → Ran model number values [] (Err end) after sent → Moved model number values params states (Err end)
    move-fails end ran = record {
      gives = λ slots stmts vars is fits are.
          flow-end (block_of model [] stmts (scene vars [])) (λ end. Ok (part params states (values_in end.vars))) end after sent (ran.flows slots [] stmts vars is fits are tt);
      fits = λ slots stmts vars state is fits are few given. absurd (err-ok end state given);
    }

    pub moved-by : (u : Unit {0}) → Ran model number values [] (Ok u) after sent → Moved model number values params states (Ok (part params states after))
    moved-by u ran = record {
      gives = λ slots stmts vars is fits are.
          let scope : List Field = (piece_of model slots [] stmts is.next).scope in
          let end : Landed (types_of model) [] scope (block_of model [] stmts (scene vars [])) after sent =
          landed (types_of model) [] scope (block_of model [] stmts (scene vars [])) u after sent (ran.flows slots [] stmts vars is fits are tt) (ran.lands slots [] stmts vars is fits are tt) in
          lifted-ok (block_of model [] stmts (scene vars [])) (λ end. Ok (part params states (values_in end.vars))) end.end end.is
          ∙ ap (λ (l : List Value). (let r : Outcome (List Value) = Ok (part params states l) in r)) end.are;
      fits = λ slots stmts vars state is fits are few given.
          let scope : List Field = (piece_of model slots [] stmts is.next).scope in
          let grown : Grown slots scope = ran.grows slots [] stmts is in
          let end : Landed (types_of model) [] scope (block_of model [] stmts (scene vars [])) after sent =
          landed (types_of model) [] scope (block_of model [] stmts (scene vars [])) u after sent (ran.flows slots [] stmts vars is fits are tt) (ran.lands slots [] stmts vars is fits are tt) in
          let fill : Fill (types_of model) scope after = subst (λ (l : List Value). Fill (types_of model) scope l) end.are (fits-fill (types_of model) end.end.vars scope end.fits) in
          let kept : take states (drop params scope) ≡ take states (drop params slots) = ap (λ (l : List Field). take states (drop params l)) grown.is ∙ part-past params states slots grown.more few in
          subst (λ (l : List Value). Fill (types_of model) (take states (drop params slots)) l) (ok-values (part params states after) state given)
          (subst (λ (l : List Field). Fill (types_of model) l (part params states after)) kept
          (fill-take (types_of model) states (drop params scope) (drop params after) (fill-drop (types_of model) params scope after fill)));
    }
