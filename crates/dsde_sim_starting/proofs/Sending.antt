-- What parts send has the types of their out ports.
use Rattle.std.proofs.Common.{◌≡◌, ℕ, ◌<◌, zero, suc, true, false, List, [], ◌∷◌, map, refl, sym, ◌∙◌, ap, subst, Option, Some, Result, Ok, Err, slice_get}
use Rattle.std.specs.Prelude.{◌^◌, IfOk, length}
use Rattle.std.specs.Option.{option_map_or}
use Rattle.std.proofs.lemmas.Simd.{map-map}
use Rattle.std.proofs.lemmas.List.FromFn.{length-map-range_with_len}
use Rattle.dsde_language.specs.given.syntax.decl_Decl.{Decl}
use Rattle.dsde_language.specs.given.syntax.decl_Decl_TheVariants as decl
use Rattle.dsde_language.specs.given.syntax.decl_Model.{Model}
use Rattle.dsde_values.specs.declared.arrival.Item.{Item}
use Rattle.dsde_values.specs.declared.value.Value.{Value}
use Rattle.dsde_faults.specs.declared.end.LeafEnd.{LeafEnd}
use Rattle.dsde_language.specs.declared.ids.ModelId.{ModelId}
use Rattle.dsde_language.specs.DeclaredModels.{whole_of, types_of, port_fields, Own, owns_of}
use Rattle.dsde_language.specs.Right.{IsRight}
use Rattle.dsde_sim_tree.specs.given.formalism.leaf_Leaf.{Leaf}
use Rattle.dsde_sim_tree.specs.given.formalism.System.{Ports}
use Rattle.dsde_sim_tree.specs.declared.fault.TurnEnd.{TurnEnd}
use Rattle.dsde_sim_tree.specs.given.structure.plan_Entry.{Entry}
use Rattle.dsde_sim_tree.specs.given.structure.plan_Part_TheVariants as part
use Rattle.dsde_sim_tree.specs.given.structure.sources_Sources.{Sources}
use Rattle.dsde_sim_tree.specs.given.structure.Gather.{gather, gathered}
use Rattle.dsde_sim_tree.specs.given.structure.Survival.{AreInOrder}
use Rattle.dsde_executive.specs.given.system.Program.{system, component_at, network_at}
use Rattle.dsde_executive.specs.given.system.Fitting.{FitsSends, Reach}
use Rattle.dsde_executive.specs.given.system.Plans.{Cover, FitsSources, ways, body_ways}
use Rattle.dsde_executive.specs.given.sound_structures.Carrying.{FitsWiring, GatheredFit, ReachCovers, SentFit}
use Rattle.dsde_sim_gathering.specs.Passing.{AreSorted}
use Rattle.dsde_sim_tree.specs.declared.sim.Net.{Net}
use Rattle.dsde_sim_tree.specs.declared.sim.Sim.TheViews.{out-Net}
use Rattle.dsde_sim_tree.specs.Tree.{entry_of}
use Rattle.dsde_sim_tree.specs.Output.{by_port}
use Rattle.dsde_sim_tree.specs.Opened.{shape_in}
use Rattle.dsde_sim_starting.specs.Fitting.{FitsAtomic, FitsBodySent, FitsNet, FitsSent, FitsShape}
use Rattle.dsde_sim_starting.specs.Asking.{AreSources}
use Rattle.dsde_sim_starting.specs.lemmas.Fits.{net-shape}

some-is : {A : Type 0} (o : Option A) (a b : A) → o ≡ Some a → o ≡ Some b → a ≡ b
some-is o a b e h = cc

own-first : (a b : Own) → Some a ≡ Some b → a ≡ b
own-first a b e = cc

-- the own ports of an atomic model are those of its body
atomic-ports : (decls : List Decl) (number : ℕ) (own : Own) → slice_get (owns_of decls) number ≡ Some own → own.network ≡ false → own.ports ≡ own.body.ports
atomic-ports [] number own found atomic = absurd (cc found)
atomic-ports (decl.Enum name variants ∷ decls) number own found atomic = atomic-ports decls number own found atomic
atomic-ports (decl.Rec name fields ∷ decls) number own found atomic = atomic-ports decls number own found atomic
atomic-ports (decl.Func name params result stmts value ∷ decls) number own found atomic = atomic-ports decls number own found atomic
atomic-ports (decl.Top at name args ∷ decls) number own found atomic = atomic-ports decls number own found atomic
atomic-ports (decl.Atomic at name params body ∷ decls) zero own found atomic =
    let first : Own = record { name = name; at = at; network = false; params = params; ports = body.ports; start_at = at; body = body } in
    subst (λ (o : Own). o.ports ≡ o.body.ports) (own-first first own found) refl
atomic-ports (decl.Atomic at name params body ∷ decls) (suc number) own found atomic = atomic-ports decls number own found atomic
atomic-ports (decl.Network at name params ports exec_at body items ∷ decls) zero own found atomic =
    let first : Own = record { name = name; at = at; network = true; params = params; ports = ports; start_at = exec_at; body = body } in
    let is : true ≡ false = ap (λ (o : Own). o.network) (own-first first own found) ∙ atomic in
    absurd (cc is)
atomic-ports (decl.Network at name params ports exec_at body items ∷ decls) (suc number) own found atomic = atomic-ports decls number own found atomic

module _ (model : Model) (number : ModelId) (own : Own) (found : slice_get (owns_of model.decls) number.0 ≡ Some own) where
  own-atomic : (system model).is_network number ≡ false → own.network ≡ false
  unfolding system
  own-atomic atomic = sym (ap (λ (o : Option Own). option_map_or (λ (own : Own). own.network) o false) found) ∙ atomic

  -- a component sends by the out ports of its body
  outs-are : (args : List Value) → ((system model).component number args).outs ≡ length (body_ways model own true)
  unfolding system
  outs-are args = ap (λ (o : Option Own). (component_at model o args).outs) found

  -- a network sends by its own
  net-outs-are : (args : List Value) → ((system model).network number args).outs ≡ length (ways model own true)
  unfolding system
  net-outs-are args = ap (λ (o : Option Own). (network_at model o number.0 args).outs) found

-- what a body sends
pub body-sent : SentFit → ReachCovers → (model : Model) (leaf : Leaf) (items : List Item) (ports : ℕ)
    → ((args : List Value) → ((system model).component leaf.model args).outs ≡ ports) → FitsSends model leaf.model.0 items
    → (sent : Ports) → sent ≡ by_port ports items → FitsBodySent model leaf.model.0 sent
body-sent fit covers model leaf items ports are sends sent is =
    let outs = body_ways model sends.own true in
    let count : length outs ≡ ports = sym (outs-are model leaf.model sends.own sends.found []) ∙ are [] in
    let whole : by_port (length outs) items ≡ sent = ap (λ (n : ℕ). by_port n items) count ∙ sym is in
    record {
      own = sends.own;
      found = sends.found;
      cover = covers (types_of model) outs sent (subst (Reach (types_of model) outs) whole (fit (types_of model) outs items sends.sent));
    }

-- an atomic component sends what its body sends
atomic-sent : (model : Model) (leaf : Leaf) → FitsAtomic model leaf → (sent : Ports) → FitsBodySent model leaf.model.0 sent → FitsSent model leaf.model.0 sent
atomic-sent model leaf fits sent body =
    let same = atomic-ports model.decls leaf.model.0 body.own body.found (own-atomic model leaf.model body.own body.found fits.atomic) in
    record {
      own = body.own;
      found = body.found;
      cover = subst (λ ports. Cover (types_of model) (port_fields (whole_of model) true ports) sent) (sym same) body.cover;
    }

pub leaf-sent : (model : Model) (leaf : Leaf) → FitsAtomic model leaf → (outcome : Result Ports LeafEnd) (result : Result Ports TurnEnd)
    → IfOk outcome (λ sent. FitsBodySent model leaf.model.0 sent) → IfOk result (λ value. outcome ≡ Ok value) → IfOk result (λ sent. FitsSent model leaf.model.0 sent)
leaf-sent model leaf fits outcome (Ok sent) body is =
    atomic-sent model leaf fits sent (subst (λ (o : Result Ports LeafEnd). IfOk o (λ sent. FitsBodySent model leaf.model.0 sent)) is body)
leaf-sent model leaf fits outcome (Err end) body is = tt

-- What the links of a network carry from.
module _ (model : Model) (net : Net) (sources : Sources) (fits : FitsNet model net) (are : AreSources model (out-Net net).kids (out-Net net).boss [] sources) where
  abbrev shape : FitsShape model (shape_in net)
  shape = net-shape model net fits

  abbrev own : Own
  own = shape.links.own

  abbrev entries : List Entry
  entries = map entry_of (out-Net net).kids

  boss-own : are.boss.own ≡ own
  boss-own =
      some-is (slice_get (owns_of model.decls) (out-Net net).model.0) are.boss.own own
      (ap (λ (m : ModelId). slice_get (owns_of model.decls) m.0) (sym shape.boss_is.model) ∙ are.boss.found) shape.links.found

  given : FitsSources model own entries sources
  given = record {
    net = subst (Cover (types_of model) (ways model own false)) (sym are.net) tt;
    boss = subst (λ (o : Own). Cover (types_of model) (body_ways model o true) sources.boss) boss-own are.boss.cover;
    kids = are.asked.fits;
  }

  pub net-wiring : FitsWiring model (out-Net net).links sources
  net-wiring = record { own = own; entries = entries; order = shape.links.order; joined = shape.links.each; given = given }

  pub net-sorted : AreSorted sources
  net-sorted = subst AreInOrder (map-map (λ (entry : Entry). entry.name) entry_of (out-Net net).kids ∙ sym are.asked.names) shape.links.order

  pub net-sent : GatheredFit → ReachCovers → IsRight model → (ports : ℕ) → ((args : List Value) → ((system model).network (out-Net net).model args).outs ≡ ports)
      → (sent : Ports) → sent ≡ gathered (system model).translate (out-Net net).links sources part.Net ports → FitsSent model (out-Net net).model.0 sent
  net-sent fit covers right ports counts sent is =
      let outs = ways model own true in
      let count : length outs ≡ ports = sym (net-outs-are model (out-Net net).model own shape.links.found []) ∙ counts [] in
      let whole : gathered (system model).translate (out-Net net).links sources part.Net (length outs) ≡ sent =
      ap (gathered (system model).translate (out-Net net).links sources part.Net) count ∙ sym is in
      record {
        own = own;
        found = shape.links.found;
        cover = covers (types_of model) outs sent
            (subst (Reach (types_of model) outs) whole (fit model own entries (out-Net net).links sources part.Net outs right shape.links.order shape.links.each given refl));
      }

-- there is a list for each of so many ports
pub gathered-few : (model : Model) (net : Net) (sources : Sources) (ports : ℕ) → ports < 2 ^ 32
    → (sent : Ports) → sent ≡ gathered (system model).translate (out-Net net).links sources part.Net ports → length sent < 2 ^ 32
gathered-few model net sources ports few sent is =
    let count : length sent ≡ ports =
    ap length is ∙ length-map-range_with_len (λ port. gather (system model).translate (out-Net net).links sources (record { part = part.Net; port = port })) 0 ports in
    subst (λ (n : ℕ). n < 2 ^ 32) (sym count) few
