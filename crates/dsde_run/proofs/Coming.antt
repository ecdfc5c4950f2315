-- What comes by the in ports of a model comes to the root of its tree.
use Rattle.std.proofs.Common.{◌≡◌, ℕ, false, List, [], ◌∷◌, Option, Some, None, slice_get, ap, sym, subst, ◌∙◌, arith}
use Rattle.std.specs.Prelude.{All, IfSome, suc}
use Rattle.std.specs.Option.{option_map_or}
use Rattle.dsde_values.specs.declared.arrival.Arrival.{Arrival}
use Rattle.dsde_values.specs.declared.arrival.Item.{Item}
use Rattle.dsde_values.specs.declared.types.Field.{Field}
use Rattle.dsde_values.specs.declared.types.Types.{Types}
use Rattle.dsde_values.proofs.Typed.{HasType-is}
use Rattle.dsde_input_records.specs.Record.{IsItem}
use Rattle.dsde_image_rows.specs.given.sound_structures.Lawful.{TopIsDeclared}
use Rattle.dsde_language.specs.Typed.{AllSent}
use Rattle.dsde_language.specs.declared.ids.ModelId.{ModelId}
use Rattle.dsde_language.specs.DeclaredModels.{top_ins, Own, own_ins, owns_of, top_number, types_of}
use Rattle.dsde_language.specs.Right.{IsRight}
use Rattle.dsde_core.specs.given.sim_working.Working as sim
use Rattle.dsde_image_rows.specs.given.sound_expressions.Laws.{BodiesStand}
use Rattle.dsde_image_rows.specs.given.system.Plans.{ways}
use Rattle.dsde_sim_tree.specs.declared.sim.Sim.{Sim}
use Rattle.dsde_sim_tree.specs.Tree.{model_of}
use Rattle.dsde_run.specs.Run.{Running}
use Rattle.dsde_run.specs.Steps.{ComesBy, IsRoot, ItemsCome}
use Rattle.dsde_syntax.specs.declared.decl.Model.{Model}
use Rattle.dsde_sim_tree.specs.Engine.{Engine}

-- items with values of their ports' types
all-sent : (ports : List Field) (types : Types) (items : List Item) → All (IsItem ports types) items → AllSent types ports items
all-sent ports types [] all = tt
all-sent ports types (item ∷ items) all =
    let first : IsItem ports types item = all 0 item (omega arith) in (
      record { port = first.port; found = first.at; has = record { has = (HasType-is types item.value first.port.ty).0 first.typed } },
      all-sent ports types items (λ k d within. all (suc k) d (omega (arith, within))),
    )

module _ (bodies : BodiesStand) (declared : TopIsDeclared) (own : Running) (right : IsRight own.model) where
  comes-root : (root : ModelId) (head : Arrival) → root ≡ top_number own.model → ComesBy own head → sim.Comes own.model root head
  comes-root root head is_root comes =
      let number : ℕ = (top_number own.model).0 in
      let has = bodies own.model number right (declared own.model right) in
      let ports : top_ins own.model ≡ ways own.model has.own false = ap (λ (found : Option Own). option_map_or (own_ins own.model) found []) has.is.found in
      record {
        early = comes.early;
        fits = record {
          own = has.own;
          found = ap (λ (m : ModelId). slice_get (owns_of own.model.decls) m.0) is_root ∙ has.is.found;
          come = subst (λ (ins : List Field). AllSent (types_of own.model) ins head.items) ports (all-sent (top_ins own.model) (types_of own.model) head.items comes.items.each);
        };
      }

  comes-tree : (tree : Option Sim) (head : Option Arrival) → IfSome tree (λ tree. model_of tree ≡ top_number own.model) →
      IfSome head (ComesBy own) → IfSome tree (λ tree. IfSome head (sim.Comes own.model (model_of tree)))
  comes-tree None head root comes = tt
  comes-tree (Some tree) None root comes = tt
  comes-tree (Some tree) (Some head) root comes = comes-root (model_of tree) head root comes

  pub items-come : ItemsCome own
  items-come engine head root comes = comes-tree engine.tree head root comes

-- what comes to the root comes to the engine of the program
pub head-comes : (own : Running) (program : Model) (engine : Engine) (found head : Option Arrival) → ItemsCome own → program ≡ own.model → found ≡ head →
    IsRoot own engine → IfSome head (ComesBy own) → sim.HeadComes (sim.working program engine) found
head-comes own program engine found head come is_program is_head root comes =
    subst (λ (program : Model). sim.HeadComes (sim.working program engine) found) (sym is_program)
    (subst (λ (found : Option Arrival). sim.HeadComes (sim.working own.model engine) found) (sym is_head) (come engine head root comes))
