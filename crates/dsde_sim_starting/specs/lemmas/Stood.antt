-- Parts that fit a program, and their models.
use Rattle.std.proofs.Common.{◌≡◌, ℕ, ◌<◌, true, false, List, [], ◌∷◌, length, Option, Some, None, slice_get, refl, sym, ap, subst, ◌∙◌, zero, suc}
use Rattle.std.specs.Option.{option_map_or}
use Rattle.std.specs.List.{AllByRecursion}
use Rattle.dsde_language.specs.given.syntax.decl_Decl.{Decl}
use Rattle.dsde_language.specs.given.syntax.decl_Decl_TheVariants as decl
use Rattle.dsde_language.specs.given.syntax.decl_Model.{Model}
use Rattle.dsde_language.specs.given.syntax.decl_PortDecl.{PortDecl}
use Rattle.dsde_values.specs.declared.types.Field.{Field}
use Rattle.dsde_values.specs.declared.value.Value.{Value}
use Rattle.dsde_language.specs.declared.ids.ModelId.{ModelId}
use Rattle.dsde_language.specs.DeclaredModels.{whole_of, types_of, port_fields, Own, owns_of, body_ins}
use Rattle.dsde_language.specs.NodeModels.{infos_of}
use Rattle.dsde_sim_tree.specs.given.formalism.leaf_Leaf.{Leaf}
use Rattle.dsde_sim_tree.specs.given.formalism.System.{System, Ports}
use Rattle.dsde_sim_tree.specs.given.formalism.Leaf.{component_of}
use Rattle.dsde_executive.specs.given.system.Program.{system, component_at, network_at}
use Rattle.dsde_executive.specs.given.system.Fitting.{FitsInputs, Reach}
use Rattle.dsde_executive.specs.given.system.Plans.{ways}
use Rattle.dsde_sim_tree.specs.declared.sim.Kid.{Kid}
use Rattle.dsde_sim_tree.specs.declared.sim.Net.{Net}
use Rattle.dsde_sim_tree.specs.declared.sim.Sim.{Sim}
use Rattle.dsde_sim_tree.specs.declared.sim.Sim.TheVariants as sim
use Rattle.dsde_sim_tree.specs.declared.sim.Sim.TheOpen.{Sim-F}
use Rattle.dsde_sim_tree.specs.declared.sim.Sim.TheOpen as layer
use Rattle.dsde_sim_tree.specs.declared.sim.Sim.TheViews.{out-Sim, out-Net, roll-Sim, roll-out-Sim, out-roll-Sim, rolls-Leaf, rolls-Net}
use Rattle.dsde_sim_tree.specs.Opened.{shape_in}
use Rattle.dsde_sim_tree.specs.Tree.{model_of}
use Rattle.dsde_sim_tree.specs.Move.{ins_of}
use Rattle.dsde_sim_starting.specs.Fitting.{FitsAtomic, FitsGot, FitsShape, FitsTree}
use Rattle.dsde_sim_gathering.specs.Passing.{IsOfModel}
use Rattle.dsde_sim_starting.specs.lemmas.Fits.{leaf-tree, net-tree, net-shape}

-- two that stand at one number are one
pub same-own : (found : Option Own) (one other : Own) → found ≡ Some one → found ≡ Some other → one ≡ other
same-own None one other is are = absurd (cc is)
same-own (Some own) one other is are = cc

-- an atomic model's ports are those of its body
abbrev IsPlain : Own → Type 0
IsPlain own = own.network ≡ false → own.ports ≡ own.body.ports

all-plain : (decls : List Decl) → AllByRecursion IsPlain (owns_of decls)
all-plain [] = tt
all-plain (decl.Enum name variants ∷ decls) = all-plain decls
all-plain (decl.Rec name fields ∷ decls) = all-plain decls
all-plain (decl.Func name params result stmts value ∷ decls) = all-plain decls
all-plain (decl.Top at name args ∷ decls) = all-plain decls
all-plain (decl.Atomic at name params body ∷ decls) = (λ is. refl, all-plain decls)
all-plain (decl.Network at name params ports exec_at body items ∷ decls) = (λ is. absurd (cc is), all-plain decls)

all-at : {T : Type 0} (P : T → Type 0) (xs : List T) (index : ℕ) (x : T) → AllByRecursion P xs → slice_get xs index ≡ Some x → P x
all-at P [] index x all at = absurd (cc at)
all-at P (y ∷ xs) zero x all at = subst P (some-own y x at) all.0
  where
    some-own : {T : Type 0} (y x : T) → (let first : Option T = Some y in first ≡ Some x) → y ≡ x
    some-own y x is = cc
all-at P (y ∷ xs) (suc index) x all at = all-at P xs index x all.1 at

module _ (model : Model) (number : ModelId) (own : Own) (found : slice_get (owns_of model.decls) number.0 ≡ Some own) where
  network-is : (system model).is_network number ≡ own.network
  unfolding system
  network-is = ap (λ (one : Option Own). option_map_or (λ (own : Own). own.network) one false) found

  pub component-ins : (args : List Value) → ((system model).component number args).ins ≡ length (body_ins model own)
  unfolding system
  component-ins args = ap (λ (one : Option Own). (component_at model one args).ins) found

  network-ins : (args : List Value) → ((system model).network number args).ins ≡ length (ways model own false)
  unfolding system
  network-ins args = ap (λ (one : Option Own). (network_at model one number.0 args).ins) found

  plain : (system model).is_network number ≡ false → own.ports ≡ own.body.ports
  plain atomic = all-at IsPlain (owns_of model.decls) number.0 own (all-plain model.decls) found (sym network-is ∙ atomic)

  -- the in ports of an atomic model, as those see them that link to it
  pub plain-ins : (system model).is_network number ≡ false → ways model own false ≡ body_ins model own
  plain-ins atomic = ap (λ (ports : List PortDecl). port_fields (whole_of model) false ports) (plain atomic)

-- what comes to an atomic component is what comes to its body
pub inputs-of : (model : Model) (leaf : Leaf) (got : Ports) → FitsAtomic model leaf → FitsGot model leaf.model.0 got → FitsInputs model leaf.model.0 got
inputs-of model leaf got fits has = record {
  own = has.own;
  found = has.found;
  reach = subst (λ (ports : List Field). Reach (types_of model) ports got) (plain-ins model leaf.model has.own has.found fits.atomic) has.reach;
}

abbrev Layer : Type 0
Layer = Sim-F Sim Kid Net

abbrev model_in : Layer → ModelId
model_in shown = elim shown [ layer.Leaf leaf ↦ leaf.model | layer.Net net ↦ (out-Net net).model ]

abbrev ins_in : System → Layer → ℕ
ins_in system shown = elim shown [
  | layer.Leaf leaf ↦ (component_of system leaf).ins
  | layer.Net net ↦ (system.network (out-Net net).model (out-Net net).args).ins
]

-- What is known of a part that fits: its model, and how many in ports it has.
pub record Stood (model : Model) (own : Sim) : Type 0 where
  pub is_of : IsOfModel model own
  pub stands : Own
  pub found : slice_get (owns_of model.decls) (model_of own).0 ≡ Some stands
  pub ins : ins_of (system model) own ≡ length (ways model stands false)

module _ (model : Model) (own : Sim) where
  own-leaf : (leaf : Leaf) → out-Sim own ≡ layer.Leaf leaf → own ≡ sim.Leaf leaf
  own-leaf leaf is = sym (roll-out-Sim own) ∙ ap roll-Sim is ∙ rolls-Leaf leaf

  own-net : (net : Net) → out-Sim own ≡ layer.Net net → own ≡ sim.Net net
  own-net net is = sym (roll-out-Sim own) ∙ ap roll-Sim is ∙ rolls-Net net

  stood-leaf : (leaf : Leaf) → out-Sim own ≡ layer.Leaf leaf → FitsAtomic model leaf → Stood model own
  stood-leaf leaf is fits =
      let same : model_of own ≡ leaf.model = ap model_in is in
      record {
        is_of = record {
          below = subst (λ (number : ModelId). number.0 < length (infos_of model)) (sym same) fits.fits.below;
          network = λ net at. absurd (clash leaf net (sym is ∙ at));
        };
        stands = fits.fits.own;
        found = ap (λ (number : ModelId). slice_get (owns_of model.decls) number.0) same ∙ fits.fits.found;
        ins =
            ap (ins_in (system model)) is
            ∙ component-ins model leaf.model fits.fits.own fits.fits.found leaf.args
            ∙ ap (λ (ports : List Field). length ports) (sym (plain-ins model leaf.model fits.fits.own fits.fits.found fits.atomic));
      }
    where
      clash : (leaf : Leaf) (net : Net) → (let one : Layer = layer.Leaf leaf in one ≡ layer.Net net) → ⊥
      clash leaf net is = absurd (cc is)

  stood-net : (net : Net) → out-Sim own ≡ layer.Net net → FitsShape model (shape_in net) → Stood model own
  stood-net net is fits =
      let same : model_of own ≡ (out-Net net).model = ap model_in is in
      record {
        is_of = record {
          below = subst (λ (number : ModelId). number.0 < length (infos_of model)) (sym same) fits.args.below;
          network = λ other at. subst (λ (n : Net). (system model).is_network (out-Net n).model ≡ true) (one-net net other (sym is ∙ at)) fits.links.network;
        };
        stands = fits.links.own;
        found = ap (λ (number : ModelId). slice_get (owns_of model.decls) number.0) same ∙ fits.links.found;
        ins = ap (ins_in (system model)) is ∙ network-ins model (out-Net net).model fits.links.own fits.links.found (out-Net net).args;
      }
    where
      one-net : (net other : Net) → (let one : Layer = layer.Net net in one ≡ layer.Net other) → net ≡ other
      one-net net other is = cc

  stood-by : (shown : Layer) → out-Sim own ≡ shown → FitsTree model own → Stood model own
  stood-by (layer.Leaf leaf) is fits = stood-leaf leaf is (leaf-tree model leaf (subst (FitsTree model) (own-leaf leaf is) fits))
  stood-by (layer.Net net) is fits = stood-net net is (net-shape model net (net-tree model net (subst (FitsTree model) (own-net net is) fits)))

  pub stood : FitsTree model own → Stood model own
  stood fits = stood-by (out-Sim own) refl fits

-- the model of an atomic component, and of a network
pub model-leaf : (leaf : Leaf) → model_of (sim.Leaf leaf) ≡ leaf.model
model-leaf leaf = ap model_of (sym (rolls-Leaf leaf)) ∙ ap model_in (out-roll-Sim (layer.Leaf leaf))

pub model-net : (net : Net) → model_of (sim.Net net) ≡ (out-Net net).model
model-net net = ap model_of (sym (rolls-Net net)) ∙ ap model_in (out-roll-Sim (layer.Net net))
