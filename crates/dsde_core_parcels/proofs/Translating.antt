-- Values along translations.
use Rattle.std.proofs.Common.{◌≡◌, List, ◌∷◌, Option, Some, None, Result, Ok, Err, IfOk, option_and_then, refl, sym, ap, subst, ◌∙◌}
use Rattle.dsde_syntax.specs.declared.decl.Model.{Model}
use Rattle.dsde_syntax.specs.declared.item.ViaKey.{ViaKey}
use Rattle.dsde_syntax.specs.declared.item.ViaPart.{ViaPart}
use Rattle.dsde_values.specs.declared.types.Ty.{Ty}
use Rattle.dsde_values.specs.declared.types.Types.{Types}
use Rattle.dsde_values.specs.declared.value.Value.{Value}
use Rattle.dsde_language.specs.DeclaredModels.{types_of}
use Rattle.dsde_routes_wiring.specs.given.structure.plan_Via.{Via}
use Rattle.dsde_routes_wiring.specs.given.structure.Gather.{Translation}
use Rattle.dsde_routes_pushing.specs.Carried.{along}
use Rattle.dsde_language.specs.Meaning.{Vars}
use Rattle.dsde_language.specs.Typed.{Typed, Fits, values_in}
use Rattle.dsde_core_moves.specs.given.sound_expressions.Conditions.{via_values}
use Rattle.dsde_core_moves.specs.given.system.Plans.{IsKey, via_slots}
use Rattle.dsde_core_moves.specs.given.system.Program.{key_vars, via_vars}
use Rattle.dsde_core_moves.specs.given.eval.Translations.{HasTargetType}
use Rattle.dsde_core_moves.specs.given.sim_gathering.Passing.{IsTaken}
use Rattle.dsde_core_parcels.specs.Along.{GoAlong, GoesAlong}
use Rattle.dsde_core_parcels.specs.Parcels.{KeepsTypes}

pub if-ok : {A E : Type 0} (result : Result A E) (P Q : A → Type 0) → ((a : A) → P a → Q a) → IfOk result P → IfOk result Q
if-ok (Ok a) P Q so holds = so a holds
if-ok (Err end) P Q so holds = tt

-- what a translation sees
fits-key : (types : Types) (text : ViaPart) (from key_ty : Ty) (own : Value) (text_key : Option ViaKey) (key : Option Value) → IsKey types text_key key key_ty → Typed types from own
    → Fits types (record { name = text.value.name; value = own } ∷ key_vars text_key key) (via_slots text from text_key key_ty)
fits-key types text from key_ty own None None is typed = (refl, typed, tt)
fits-key types text from key_ty own (Some key) (Some value) is typed = (refl, typed, (refl, is, tt))
fits-key types text from key_ty own None (Some value) is typed = absurd is
fits-key types text from key_ty own (Some key) None is typed = absurd is

are-key : (types : Types) (text : ViaPart) (key_ty : Ty) (own : Value) (text_key : Option ViaKey) (key : Option Value) → IsKey types text_key key key_ty
    → (let vars : Vars = record { name = text.value.name; value = own } ∷ key_vars text_key key in values_in vars ≡ via_values key own)
are-key types text key_ty own None None is = refl
are-key types text key_ty own (Some key) (Some value) is = refl
are-key types text key_ty own None (Some value) is = absurd is
are-key types text key_ty own (Some key) None is = absurd is

-- what it makes has the type that it gives
pub keeps-types : (model : Model) (via : Via) (own : Value) (made : Option Value) → HasTargetType model via.id.0 via.key own made → KeepsTypes model via own made
keeps-types model via own made has from to takes typed =
    has (via_slots takes.text from takes.text.key takes.key_ty) takes.text.body to (via_vars takes.text via.key own) takes.is
    (fits-key (types_of model) takes.text from takes.key_ty own takes.text.key via.key takes.key typed)
    (are-key (types_of model) takes.text takes.key_ty own takes.text.key via.key takes.key)

module _ (model : Model) where
  taken : (via : Via) (chain : List Via) (own : Value) → GoesAlong model (via ∷ chain) own → IsTaken model via own
  taken via chain own goes = record { from = goes.from; to = goes.takes.0; takes = goes.takes.1; typed = goes.typed }

  -- the first of some translations takes the value
  pub first-taken : (rest : List Via) (via : Via) (later : List Via) (own : Value) → GoesAlong model rest own → rest ≡ via ∷ later → IsTaken model via own
  first-taken rest via later own goes is = taken via later own (subst (λ (chain : List Via). GoesAlong model chain own) is goes)

  further : (via : Via) (later : List Via) (own next : Value) → GoesAlong model (via ∷ later) own → KeepsTypes model via own (Some next) → GoesAlong model later next
  further via later own next goes keeps = record {
    from = goes.takes.0;
    to = goes.to;
    takes = goes.takes.2;
    typed = keeps goes.from goes.takes.0 goes.takes.1 goes.typed;
  }

  -- and the others what it makes
  pub goes-further : (rest : List Via) (via : Via) (later : List Via) (own next : Value) → GoesAlong model rest own → rest ≡ via ∷ later → KeepsTypes model via own (Some next) → GoesAlong model later next
  goes-further rest via later own next goes is keeps = further via later own next (subst (λ (chain : List Via). GoesAlong model chain own) is goes) keeps

  pub goes-same : (chain : List Via) (own other : Value) → other ≡ own → GoesAlong model chain own → GoesAlong model chain other
  goes-same chain own other is goes = subst (GoesAlong model chain) (sym is) goes

  one : (chain : List Via) (value : Value) (values : List Value) → GoAlong model chain (value ∷ values) → GoesAlong model chain value
  one chain value values go = record { from = go.from; to = go.to; takes = go.takes; typed = go.typed.0 }

  others : (chain : List Via) (value : Value) (values : List Value) → GoAlong model chain (value ∷ values) → GoAlong model chain values
  others chain value values go = record { from = go.from; to = go.to; takes = go.takes; typed = go.typed.1 }

  -- the first of some values, and the others
  pub one-goes : (chain : List Via) (rest : List Value) (value : Value) (later : List Value) → GoAlong model chain rest → rest ≡ value ∷ later → GoesAlong model chain value
  one-goes chain rest value later go is = one chain value later (subst (GoAlong model chain) is go)

  pub others-go : (chain : List Via) (rest : List Value) (value : Value) (later : List Value) → GoAlong model chain rest → rest ≡ value ∷ later → GoAlong model chain later
  others-go chain rest value later go is = others chain value later (subst (GoAlong model chain) is go)

-- one translation more
pub along-further : (gives : Translation) (rest : List Via) (via : Via) (later : List Via) (own next : Value) (made whole : Option Value) → along gives rest own ≡ whole → rest ≡ via ∷ later → made ≡ gives via own → made ≡ Some next → along gives later next ≡ whole
along-further gives rest via later own next made whole so is made-is next-is =
    ap (option_and_then (along gives later)) (sym next-is ∙ made-is) ∙ ap (λ (chain : List Via). along gives chain own) (sym is) ∙ so
