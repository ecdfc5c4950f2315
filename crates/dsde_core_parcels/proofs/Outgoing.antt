-- What components and executives send, asked one after another.
use Rattle.std.proofs.Common.{◌≡◌, ℕ, Bool, true, false, cond, List, [], length, Option, Some, None, Result, Ok, slice_get, refl, sym, ap, subst, ◌∙◌}
use Rattle.std.specs.List.{AllByRecursion}
use Rattle.dsde_bank.specs.declared.handle.Handle.{Handle}
use Rattle.dsde_syntax.specs.declared.decl.Model.{Model}
use Rattle.dsde_values.specs.declared.arrival.Item.{Item}
use Rattle.dsde_values.specs.declared.value.Value.{Value}
use Rattle.dsde_faults.specs.declared.end.LeafEnd.{LeafEnd}
use Rattle.dsde_language.specs.declared.ids.ModelId.{ModelId}
use Rattle.dsde_language.specs.DeclaredModels.{types_of, Own, owns_of}
use Rattle.dsde_sim_tree.specs.given.formalism.leaf_Leaf.{Leaf}
use Rattle.dsde_sim_tree.specs.given.formalism.System.{Ports}
use Rattle.dsde_sim_tree.specs.given.formalism.Leaf as leaf
use Rattle.dsde_sim_tree.specs.given.formalism.Leaf.{component_of, is_due, output_leaf}
use Rattle.dsde_core_moves.specs.given.system.Program.{system, component_at}
use Rattle.dsde_core_moves.specs.given.system.Fitting.{FitsSends, Reach}
use Rattle.dsde_core_moves.specs.given.system.Plans.{body_ways}
use Rattle.dsde_core_moves.specs.given.sound_structures.Carrying.{ReachCovers, SentFit}
use Rattle.dsde_core_moves.specs.given.grove.Grove.{Grove, value_of}
use Rattle.dsde_sim_tree.specs.Output.{by_port, sent}
use Rattle.dsde_core_moves.specs.given.sim_starting.Fitting.{FitsBodySent}
use Rattle.dsde_routes_pushing.specs.lemmas.Lists.{among-from, each-among}
use Rattle.dsde_core_moves.specs.given.core_flat.spot_Spot.{Spot}
use Rattle.dsde_core_moves.specs.given.core_flat.spot_Spot_TheVariants as variant
use Rattle.dsde_core_moves.specs.given.core_flat.Grafts.{path_at}
use Rattle.dsde_core_moves.specs.given.core_flat.Scheduled.{held_leaf, is_next}
use Rattle.dsde_core_moves.specs.given.core_flat.Shown.{leaf_in}
use Rattle.dsde_core_moves.specs.given.core_flat.due_Due.{Due}
use Rattle.dsde_core_moves.specs.given.core_flat.Due.{AreDue, IsDue}
use Rattle.dsde_core_parcels.specs.Traffic.{AllSend, Sends}
use Rattle.dsde_core_parcels.specs.Asking.{AllFit, SendsAt}

-- a component sends by the out ports of its body
outs-are : (model : Model) (number : ModelId) (own : Own) → slice_get (owns_of model.decls) number.0 ≡ Some own → (args : List Value) → ((system model).component number args).outs ≡ length (body_ways model own true)
unfolding system
outs-are model number own found args = ap (λ (one : Option Own). (component_at model one args).outs) found

-- what a body sends
pub body-sent : SentFit → ReachCovers → (model : Model) (leaf : Leaf) (items : List Item) (ports : ℕ)
    → ((args : List Value) → ((system model).component leaf.model args).outs ≡ ports) → FitsSends model leaf.model.0 items
    → (sent : Ports) → sent ≡ by_port ports items → FitsBodySent model leaf.model.0 sent
body-sent fit covers model leaf items ports are sends sent is =
    let outs = body_ways model sends.own true in
    let count : length outs ≡ ports = sym (outs-are model leaf.model sends.own sends.found []) ∙ are [] in
    let whole : by_port (length outs) items ≡ sent = ap (λ (n : ℕ). by_port n items) count ∙ sym is in
    record {
      own = sends.own;
      found = sends.found;
      cover = covers (types_of model) outs sent (subst (Reach (types_of model) outs) whole (fit (types_of model) outs items sends.sent));
    }

-- the leaf that is held
pub leaf-is : (held : Option Spot) (own : Leaf) → (let found : Option Leaf = Some own in found) ≡ held_leaf held → held ≡ Some (variant.Leaf own)
leaf-is None own is = absurd (let wrong : (let found : Option Leaf = Some own in found) ≡ None = is in cc)
leaf-is (Some (variant.Net model args)) own is = absurd (let wrong : (let found : Option Leaf = Some own in found) ≡ None = is in cc)
leaf-is (Some (variant.Leaf other)) own is = ap (λ (one : Leaf). Some (variant.Leaf one)) (one-leaf other own is)
  where
    one-leaf : (other own : Leaf) → (let found : Option Leaf = Some own in found) ≡ Some other → other ≡ own
    one-leaf other own is = cc

module _ (model : Model) (time : ℕ) (own : Grove Spot) where
  -- where each that is due sends, so does each other
  module _ (fit : SentFit) (covers : ReachCovers) (all_fit : AllFit model own) (list : List Due) (are : AreDue own time list) (sends : AllByRecursion (SendsAt model time own) list) where
    waiting : (handle : Handle) (one : Leaf) → value_of own handle ≡ Some (variant.Leaf one) → is_due one time ≡ false → Sends model time one
    waiting handle one held not_due =
        let fits = all_fit handle one held in
        let outs = (component_of (system model) one).outs in
        record {
          ports = by_port outs [];
          is = ap (λ (b : Bool). leaf.◌>>=◌ (cond b (output_leaf (system model) one) (Ok [])) (λ items. let known : Result Ports LeafEnd = Ok (by_port outs items) in known)) not_due;
          fits = body-sent fit covers model one [] outs (λ args. outs-are model one.model fits.own fits.found args ∙ sym (outs-are model one.model fits.own fits.found one.args))
              (record { own = fits.own; found = fits.found; sent = tt }) (by_port outs []) refl;
        }

    each-sends : (handle : Handle) (one : Leaf) → value_of own handle ≡ Some (variant.Leaf one) → (due : Bool) → is_due one time ≡ due → Sends model time one
    each-sends handle one held false not_due = waiting handle one held not_due
    each-sends handle one held true due_now =
        let due : Due = record { path = path_at own handle; handle = handle } in
        let is : IsDue own time due = record { next = ap (λ (spot : Option Spot). is_next spot time) held ∙ due_now; path = refl } in
        subst (Sends model time) (ap leaf_in held) (each-among (SendsAt model time own) list due sends (among-from list due ((are.each due).1 is)))

    pub all-send : AllSend model time own
    all-send handle one held = each-sends handle one held (is_due one time) refl
