-- What items bring to the whole model fits it.
use Rattle.std.proofs.Common.{◌≡◌, ℕ, ◌<◌, ◌^◌, false, List, length, Result, Ok, Err, IfOk, slice_get, sym, ap, subst, ◌∙◌}
use Rattle.dsde_lists.specs.declared.memory.Memory.{Memory}
use Rattle.dsde_syntax.specs.declared.decl.Model.{Model}
use Rattle.dsde_values.specs.declared.arrival.Item.{Item}
use Rattle.dsde_language.specs.DeclaredModels.{types_of, Own, owns_of}
use Rattle.dsde_sim_tree.specs.given.formalism.System.{Ports}
use Rattle.dsde_system.specs.Fitting.{Reach}
use Rattle.dsde_system.specs.Plans.{ways}
use Rattle.dsde_system.specs.Program.{system}
use Rattle.dsde_sim_moving.specs.given.sound_structures.Carrying.{SentFit}
use Rattle.dsde_sim_tree.specs.declared.sim.Sim.{Sim}
use Rattle.dsde_sim_tree.specs.Tree.{model_of}
use Rattle.dsde_sim_tree.specs.Output.{by_port}
use Rattle.dsde_sim_tree.specs.Move.{ins_of}
use Rattle.dsde_sim_moving.specs.Fitting.{FitsTree, FitsGot}
use Rattle.dsde_sim_working.specs.Working.{FitsItems}
use Rattle.dsde_sim_moving.specs.Stood.{stood, same-own}

module _ (model : Model) (tree : Sim) (fits : FitsTree model tree) (law : SentFit) (items : List Item) (come : FitsItems model (model_of tree).0 items) where
  pub got-fits : (ports : ℕ) (got : Ports) → ins_of (system model) tree ≡ ports → got ≡ by_port ports items → length got < 2 ^ 32 → FitsGot model (model_of tree).0 got
  got-fits ports got many is few =
      let stands = stood model tree fits in
      let own = same-own (slice_get (owns_of model.decls) (model_of tree).0) stands.stands come.own stands.found come.found in
      let count : length (ways model come.own false) ≡ ports = ap (λ (o : Own). length (ways model o false)) (sym own) ∙ sym stands.ins ∙ many in
      record {
        own = come.own;
        found = come.found;
        reach = subst (λ (g : Ports). Reach (types_of model) (ways model come.own false) g)
            (ap (λ (n : ℕ). by_port n items) count ∙ sym is)
            (law (types_of model) (ways model come.own false) items come.come);
        few = few;
      }

  pub received-fits : (ports : ℕ) → ins_of (system model) tree ≡ ports → (result : Result Ports Memory) → IfOk result (λ got. got ≡ by_port ports items) → IfOk result (λ got. length got < 2 ^ 32)
      → IfOk result (λ got. FitsGot model (model_of tree).0 got)
  received-fits ports many (Ok got) is few = got-fits ports got many is few
  received-fits ports many (Err end) is few = tt
