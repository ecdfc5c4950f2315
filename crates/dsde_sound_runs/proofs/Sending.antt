-- What parts send.
use Rattle.std.proofs.Common.{◌≡◌, ℕ, suc, ◌<◌, Bool, true, false, List, [], ◌∷◌, ◌++◌, length, map, Some, Ok, slice_get, refl, sym, ap, subst, ◌∙◌, arith}
use Rattle.std.specs.Prelude.{if◌then◌else◌}
use Rattle.std.specs.List.{AllByRecursion, Contains}
use Rattle.dsde_syntax.specs.declared.decl.Model.{Model}
use Rattle.dsde_syntax.specs.declared.decl.PortDecl.{PortDecl}
use Rattle.dsde_values.specs.declared.arrival.Item.{Item}
use Rattle.dsde_values.specs.declared.path.Path.{Path}
use Rattle.dsde_values.specs.declared.types.Field.{Field}
use Rattle.dsde_language.specs.declared.ids.ModelId.{ModelId}
use Rattle.dsde_language.specs.DeclaredModels.{whole_of, types_of, port_fields, Own, owns_of}
use Rattle.dsde_structure.specs.declared.plan.Entry.{Entry}
use Rattle.dsde_structure.specs.declared.plan.Part.TheVariants as part
use Rattle.dsde_structure.specs.declared.sources.Given.{Given}
use Rattle.dsde_structure.specs.declared.sources.Sources.{Sources}
use Rattle.dsde_structure.specs.Gather.{gathered}
use Rattle.dsde_formalism.specs.declared.leaf.Leaf.{Leaf}
use Rattle.dsde_formalism.specs.System.{Ports}
use Rattle.dsde_formalism.specs.Leaf.{component_of, is_due, output_leaf, sent_at}
use Rattle.dsde_sim_starting.specs.given.system.Program.{system}
use Rattle.dsde_sim_starting.specs.given.system.Fitting.{FitsLeaf, FitsSends, Reach}
use Rattle.dsde_sim_starting.specs.given.system.Plans.{Cover, FitsGiven, FitsSources, ways, body_ways}
use Rattle.dsde_sim_tree.specs.Told.{at, below, to_boss}
use Rattle.dsde_sim_tree.specs.declared.sim.Kid.{Kid}
use Rattle.dsde_sim_tree.specs.declared.sim.Net.{Net}
use Rattle.dsde_sim_tree.specs.declared.sim.Sim.{Sim}
use Rattle.dsde_sim_tree.specs.declared.sim.Sim.TheVariants as sim
use Rattle.dsde_sim_tree.specs.declared.sim.Sim.TheViews.{out-Kid, out-Net}
use Rattle.dsde_sim_tree.specs.Opened.{shape_in}
use Rattle.dsde_sim_tree.specs.Output.{◌>>=◌, asked, by_port, kid_output, output, sent, sources_of}
use Rattle.dsde_sim_tree.specs.Tree.{entry_of, model_of}
use Rattle.dsde_sim_tree.specs.lemmas.Trees.{each_tree}
use Rattle.dsde_sim_starting.specs.given.sound_structures.Sure.{Sure}
use Rattle.dsde_sim_starting.specs.given.sound_structures.lemmas_Steps.{sure-then, sure-more}
use Rattle.dsde_sound_runs.proofs.Relied.{Laws}
use Rattle.dsde_sound_runs.proofs.Safe.{Safe, safe-at, safe-bind}
use Rattle.dsde_sim_starting.specs.Fitting.{FitsAtomic, FitsBodySent, FitsKid, FitsSent, FitsShape, FitsTree}
use Rattle.dsde_sim_starting.specs.lemmas.Fits.{kid-tree, leaf-tree, net-kids, net-shape, net-tree}
use Rattle.dsde_sim_starting.specs.lemmas.Stood.{model-leaf, model-net, same-own}
use Rattle.dsde_sound_runs.proofs.Ports.{component-outs, network-outs, plain}
use Rattle.dsde_sound_runs.proofs.Opens.{output-Leaf, output-Net, output-kid}
use Rattle.dsde_sound_runs.proofs.Leaves.{leaf-args, leaf-state}
use Rattle.dsde_sound_runs.proofs.Starting.{each-behind}

pub contains-later : (first own : Entry) (entries : List Entry) → Contains entries own → Contains (first ∷ entries) own
contains-later first own entries h = (suc h.0, (let below : h.0 < length entries = h.1 in omega (arith, below)), h.2)

pub contains-here : (own : Entry) (entries : List Entry) → Contains (own ∷ entries) own
contains-here own entries = (0, omega arith, refl)

module _ (model : Model) (laws : Laws model) (time : ℕ) where
  sends-sure : (leaf : Leaf) → FitsLeaf model leaf → (due : Bool) → Sure (FitsSends model leaf.model.0) (if due then output_leaf (system model) leaf else Ok [])
  sends-sure leaf fits true = (laws.component leaf.model leaf.args (leaf-args model leaf fits)).output leaf.state (leaf-state model leaf fits)
  sends-sure leaf fits false = record { own = fits.own; found = fits.found; sent = tt }

  by-ports : (leaf : Leaf) (items : List Item) → FitsSends model leaf.model.0 items → FitsBodySent model leaf.model.0 (by_port (component_of (system model) leaf).outs items)
  by-ports leaf items sends =
      let outs : List Field = body_ways model sends.own true in
      record {
        own = sends.own;
        found = sends.found;
        cover = laws.covers (types_of model) outs (by_port (component_of (system model) leaf).outs items)
            (subst (λ (n : ℕ). Reach (types_of model) outs (by_port n items)) (sym (component-outs model leaf.model sends.own sends.found leaf.args)) (laws.sent (types_of model) outs items sends.sent));
      }

  -- what a component sends by its body's out ports
  body-sends : (leaf : Leaf) → FitsLeaf model leaf → Sure (FitsBodySent model leaf.model.0) (sent (system model) leaf time)
  body-sends leaf fits =
      sure-then (FitsSends model leaf.model.0) (FitsBodySent model leaf.model.0) (sent_at (system model) leaf time) (λ items. Ok (by_port (component_of (system model) leaf).outs items))
      (sends-sure leaf fits (is_due leaf time)) (by-ports leaf)

  abbrev Answers : Sim → Type 0
  Answers own = (path : Path) → FitsTree model own → Safe (FitsSent model (model_of own).0) (output (system model) own path time)

  atomic-sent : (leaf : Leaf) → FitsAtomic model leaf → (ports : Ports) → FitsBodySent model leaf.model.0 ports → FitsSent model (model_of (sim.Leaf leaf)).0 ports
  atomic-sent leaf fits ports body = record {
    own = body.own;
    found = ap (λ (number : ModelId). slice_get (owns_of model.decls) number.0) (model-leaf leaf) ∙ body.found;
    cover = subst (λ (own : List PortDecl). Cover (types_of model) (port_fields (whole_of model) true own) ports) (sym (plain model leaf.model body.own body.found fits.atomic)) body.cover;
  }

  leaf-answers : (leaf : Leaf) → Answers (sim.Leaf leaf)
  leaf-answers leaf path fits =
      let atomic : FitsAtomic model leaf = leaf-tree model leaf fits in
      subst (Safe (FitsSent model (model_of (sim.Leaf leaf)).0)) (sym (output-Leaf (system model) leaf path time))
      (safe-at (FitsSent model (model_of (sim.Leaf leaf)).0) path (sent (system model) leaf time)
      (sure-more (FitsBodySent model leaf.model.0) (FitsSent model (model_of (sim.Leaf leaf)).0) (sent (system model) leaf time) (body-sends leaf atomic.fits) (atomic-sent leaf atomic)))

  kid-answers : (entries : List Entry) (kid : Kid) (path : Path) → Answers (out-Kid kid).sim → FitsKid model kid → Contains entries (entry_of kid) → Safe (FitsGiven model entries) (kid_output (system model) kid path time)
  kid-answers entries kid path answers fits among =
      subst (Safe (FitsGiven model entries)) (sym (output-kid (system model) kid path time))
      (safe-bind (FitsSent model (model_of (out-Kid kid).sim).0) (FitsGiven model entries) (output (system model) (out-Kid kid).sim (below path (out-Kid kid).name) time)
      (λ ports. let given : Given = record { name = (out-Kid kid).name; ports = ports } in Ok given)
      (answers (below path (out-Kid kid).name) (kid-tree model kid fits))
      (λ ports sends. record {
        ports = ways model sends.own true;
        are = record { entry = entry_of kid; among = among; named = refl; own = sends.own; found = sends.found; are = refl };
        cover = sends.cover;
      }))

  asked-safe : (entries : List Entry) (kids : List Kid) (path : Path) (done : List Given) → AllByRecursion (λ (kid : Kid). Answers (out-Kid kid).sim) kids → AllByRecursion (FitsKid model) kids
      → ((own : Entry) → Contains (map entry_of kids) own → Contains entries own) → AllByRecursion (FitsGiven model entries) done
      → Safe (AllByRecursion (FitsGiven model entries)) (asked (map (kid_output (system model)) kids) path time done)
  asked-safe entries [] path done each fit among so_far = so_far
  asked-safe entries (kid ∷ kids) path done each fit among so_far =
      safe-bind (FitsGiven model entries) (AllByRecursion (FitsGiven model entries)) (kid_output (system model) kid path time)
      (λ given. asked (map (kid_output (system model)) kids) path time (done ++ given ∷ []))
      (kid-answers entries kid path each.0 fit.0 (among (entry_of kid) (contains-here (entry_of kid) (map entry_of kids))))
      (λ given own.
      asked-safe entries kids path (done ++ given ∷ []) each.1 fit.1 (λ other there. among other (contains-later (entry_of kid) other (map entry_of kids) there))
      (each-behind (FitsGiven model entries) done given so_far own))

  -- what the links of a network carry from
  sources-by : (own : Own) (boss : Leaf) (kids : List Kid) (path : Path) (got : Ports) → FitsLeaf model boss → slice_get (owns_of model.decls) boss.model.0 ≡ Some own
      → AllByRecursion (λ (kid : Kid). Answers (out-Kid kid).sim) kids → AllByRecursion (FitsKid model) kids → Cover (types_of model) (ways model own false) got
      → Safe (FitsSources model own (map entry_of kids)) (sources_of (system model) (map (kid_output (system model)) kids) boss path time got)
  sources-by own boss kids path got fits found each fit cover =
      safe-bind (AllByRecursion (FitsGiven model (map entry_of kids))) (FitsSources model own (map entry_of kids)) (asked (map (kid_output (system model)) kids) path time [])
      (λ given. at (to_boss path) (sent (system model) boss time) >>= (λ ports. let sources : Sources = record { net = got; boss = ports; kids = given } in Ok sources))
      (asked-safe (map entry_of kids) kids path [] each fit (λ other there. there) tt)
      (λ given all.
      safe-bind (FitsBodySent model boss.model.0) (FitsSources model own (map entry_of kids)) (at (to_boss path) (sent (system model) boss time))
      (λ ports. let sources : Sources = record { net = got; boss = ports; kids = given } in Ok sources)
      (safe-at (FitsBodySent model boss.model.0) (to_boss path) (sent (system model) boss time) (body-sends boss fits))
      (λ ports body. record {
        net = cover;
        boss = subst (λ (o : Own). Cover (types_of model) (body_ways model o true) ports) (same-own (slice_get (owns_of model.decls) boss.model.0) body.own own body.found found) body.cover;
        kids = all;
      }))

  net-answers : (net : Net) → AllByRecursion (λ (kid : Kid). Answers (out-Kid kid).sim) (out-Net net).kids → Answers (sim.Net net)
  net-answers net each path fits =
      let shape : FitsShape model (shape_in net) = net-shape model net (net-tree model net fits) in
      let whole = out-Net net in
      let own : Own = shape.links.own in
      let outs : List Field = ways model own true in
      let entries : List Entry = map entry_of whole.kids in
      let ports : ℕ = ((system model).network whole.model whole.args).outs in
      subst (Safe (FitsSent model (model_of (sim.Net net)).0)) (sym (output-Net (system model) net path time))
      (safe-bind (FitsSources model own entries) (FitsSent model (model_of (sim.Net net)).0) (sources_of (system model) (map (kid_output (system model)) whole.kids) whole.boss path time [])
      (λ sources. Ok (gathered (system model).translate whole.links sources part.Net ports))
      (sources-by own whole.boss whole.kids path [] shape.boss (ap (λ (number : ModelId). slice_get (owns_of model.decls) number.0) shape.boss_is.model ∙ shape.links.found)
      each (net-kids model net (net-tree model net fits)) tt)
      (λ sources given. record {
        own = own;
        found = ap (λ (number : ModelId). slice_get (owns_of model.decls) number.0) (model-net net) ∙ shape.links.found;
        cover = laws.covers (types_of model) outs (gathered (system model).translate whole.links sources part.Net ports)
            (subst (λ (n : ℕ). Reach (types_of model) outs (gathered (system model).translate whole.links sources part.Net n)) (sym (network-outs model whole.model own shape.links.found whole.args))
            (laws.gathered model own entries whole.links sources part.Net outs laws.right shape.links.order shape.links.each given refl));
      }))

  -- each part answers an output message, or faults
  pub tree-answers : (own : Sim) → Answers own
  tree-answers = each_tree Answers leaf-answers net-answers

  each-answers : (kids : List Kid) → AllByRecursion (λ (kid : Kid). Answers (out-Kid kid).sim) kids
  each-answers [] = tt
  each-answers (kid ∷ kids) = (tree-answers (out-Kid kid).sim, each-answers kids)

  pub sources-safe : (own : Own) (boss : Leaf) (kids : List Kid) (path : Path) (got : Ports) → FitsLeaf model boss → slice_get (owns_of model.decls) boss.model.0 ≡ Some own
      → AllByRecursion (FitsKid model) kids → Cover (types_of model) (ways model own false) got
      → Safe (FitsSources model own (map entry_of kids)) (sources_of (system model) (map (kid_output (system model)) kids) boss path time got)
  sources-safe own boss kids path got fits found fit cover = sources-by own boss kids path got fits found (each-answers kids) fit cover
