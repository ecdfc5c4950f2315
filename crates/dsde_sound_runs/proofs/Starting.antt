-- Starts of parts.
use Rattle.std.proofs.Common.{◌≡◌, ℕ, zero, suc, Bool, true, false, List, [], ◌∷◌, ◌++◌, map, refl, sym, ap, subst, ◌∙◌, append-nil, append_assoc}
use Rattle.std.specs.Prelude.{if◌then◌else◌}
use Rattle.std.specs.List.{AllByRecursion}
use Rattle.dsde_syntax.specs.declared.decl.Model.{Model}
use Rattle.dsde_values.specs.declared.name.Name.{Name}
use Rattle.dsde_values.specs.declared.path.Path.{Path}
use Rattle.dsde_values.specs.declared.value.Value.{Value}
use Rattle.dsde_values.specs.When.{IsMoment}
use Rattle.dsde_language.specs.declared.ids.ModelId.{ModelId}
use Rattle.dsde_formalism.specs.declared.leaf.Leaf.{Leaf}
use Rattle.dsde_structure.specs.declared.plan.Entry.{Entry}
use Rattle.dsde_structure.specs.declared.plan.Link.{Link}
use Rattle.dsde_structure.specs.declared.plan.Plan.{Plan}
use Rattle.dsde_structure.specs.Survival.{role, roles}
use Rattle.dsde_sim_starting.specs.given.system.Program.{system}
use Rattle.dsde_sim_starting.specs.given.system.Fitting.{FitsArgs, FitsState, FitsLeaf}
use Rattle.dsde_sim_starting.specs.given.system.Plans.{FitsEntry}
use Rattle.dsde_sim_tree.specs.Told.{told, quietly, ◌then◌, below, to_boss}
use Rattle.dsde_sim_tree.specs.declared.sim.Kid.{Kid}
use Rattle.dsde_sim_tree.specs.declared.sim.Net.{Net}
use Rattle.dsde_sim_tree.specs.declared.sim.Sim.{Sim}
use Rattle.dsde_sim_tree.specs.declared.sim.Sim.TheVariants as sim
use Rattle.dsde_sim_tree.specs.declared.sim.Sim.TheOpen.{Kid-F, Net-F}
use Rattle.dsde_sim_tree.specs.declared.sim.Sim.TheViews.{out-roll-Kid, out-roll-Net}
use Rattle.dsde_sim_tree.specs.Opened.{shape_in}
use Rattle.dsde_sim_tree.specs.Spots.{shape_of}
use Rattle.dsde_sim_tree.specs.Start.{Starter, entered, kid_of, net_of, start, start_atomic, start_leaf_at, start_net, start_net_at, started_kid, starts, structure_of, with_boss, with_plan}
use Rattle.dsde_sim_tree.specs.Tree.{args_of, entry_of, model_of}
use Rattle.dsde_sim_starting.specs.given.sound_structures.Sure.{FitsNetwork}
use Rattle.dsde_sound_runs.proofs.Relied.{Laws}
use Rattle.dsde_sound_runs.proofs.Safe.{Safe, safe-at, safe-then}
use Rattle.dsde_sim_starting.specs.Fitting.{FitsKid, FitsLinks, FitsShape, FitsTree, IsExecutive}
use Rattle.dsde_sim_starting.specs.lemmas.Fits.{net-parts, tree-kid, tree-leaf, tree-net}
use Rattle.dsde_sim_starting.specs.lemmas.Roles.{links-by-roles}
use Rattle.dsde_sim_starting.specs.lemmas.Stood.{model-leaf, model-net}
use Rattle.dsde_sound_runs.proofs.Opens.{args-Leaf, args-Net}
use Rattle.dsde_sound_runs.proofs.Leaves.{IsLeaf, entered-safe, leaf-starts}

pub each-behind : {A : Type 0} (P : A → Type 0) (xs : List A) (x : A) → AllByRecursion P xs → P x → AllByRecursion P (xs ++ x ∷ [])
each-behind P [] x each here = (here, tt)
each-behind P (y ∷ xs) x each here = (each.0, each-behind P xs x each.1 here)

map-behind : {A B : Type 0} (f : A → B) (xs : List A) (x : A) → map f (xs ++ x ∷ []) ≡ map f xs ++ f x ∷ []
map-behind f [] x = refl
map-behind f (y ∷ xs) x = ap (λ rest. f y ∷ rest) (map-behind f xs x)

module _ (model : Model) where
  -- a part of this model with these arguments, which fits
  pub record IsPart (number : ModelId) (args : List Value) (own : Sim) : Type 0 where
    pub fits : FitsTree model own
    pub model_is : model_of own ≡ number
    pub args_is : args_of own ≡ args

  pub leaf-part : (number : ModelId) (args : List Value) (leaf : Leaf) → (system model).is_network number ≡ false → IsLeaf model number false args leaf → IsPart number args (sim.Leaf leaf)
  leaf-part number args leaf atomic own = record {
    fits = tree-leaf model leaf (record { fits = own.fits; atomic = ap (λ (m : ModelId). (system model).is_network m) own.model_is ∙ atomic; component = own.boss_is });
    model_is = model-leaf leaf ∙ own.model_is;
    args_is = args-Leaf leaf ∙ own.args_is;
  }

  -- a component of an entry's name and model, with arguments that fit
  pub record IsKid (entry : Entry) (kid : Kid) : Type 0 where
    pub fits : FitsKid model kid
    pub is : role (entry_of kid) ≡ role entry

  pub kid-is : (entry : Entry) (own : Sim) → IsPart entry.model entry.args own → IsKid entry (kid_of entry.name own)
  kid-is entry own part =
      let opened = out-roll-Kid (record { name = entry.name; sim = own }) in
      record {
        fits = tree-kid model (kid_of entry.name own) (subst (λ (kid : Kid-F Sim Kid Net). FitsTree model kid.sim) (sym opened) part.fits);
        is =
            ap (λ (kid : Kid-F Sim Kid Net). let one : Name × ModelId = (kid.name, model_of kid.sim) in one) opened
            ∙ ap (λ (number : ModelId). let one : Name × ModelId = (entry.name, number) in one) part.model_is;
      }

  -- components for these entries
  pub record AreKids (entries : List Entry) (kids : List Kid) : Type 0 where
    pub fit : AllByRecursion (FitsKid model) kids
    pub are : roles (map entry_of kids) ≡ roles entries

  pub kids-behind : (entries : List Entry) (entry : Entry) (kids : List Kid) (kid : Kid) → AreKids entries kids → IsKid entry kid → AreKids (entries ++ entry ∷ []) (kids ++ kid ∷ [])
  kids-behind entries entry kids kid all own = record {
    fit = each-behind (FitsKid model) kids kid all.fit own.fits;
    are =
        ap roles (map-behind entry_of kids kid)
        ∙ map-behind role (map entry_of kids) (entry_of kid)
        ∙ ap (λ (rest : List (Name × ModelId)). rest ++ role (entry_of kid) ∷ []) all.are
        ∙ ap (λ (one : Name × ModelId). roles entries ++ one ∷ []) own.is
        ∙ sym (map-behind role entries entry);
  }

  -- a network with arguments and an executive that fit, whose components are those of its links
  pub record IsHead (number : ModelId) (args : List Value) (boss : Leaf) : Type 0 where
    pub network : (system model).is_network number ≡ true
    pub args_fit : FitsArgs model number.0 args
    pub fits : FitsLeaf model boss
    pub is : IsExecutive number args boss

  pub net-part : (number : ModelId) (args : List Value) (boss : Leaf) (kids : List Kid) (entries : List Entry) (links : List Link) → IsHead number args boss → AreKids entries kids → FitsLinks model number entries links
      → IsPart number args (sim.Net (net_of number args boss kids links))
  net-part number args boss kids entries links head all fit =
      let net = net_of number args boss kids links in
      let opened = out-roll-Net (record { model = number; args = args; boss = boss; kids = kids; links = links }) in
      let shape : FitsShape model (shape_in net) =
      subst (λ (own : Net-F Sim Kid Net). FitsShape model (shape_of own.model own.args own.boss own.kids own.links)) (sym opened)
      (record { args = head.args_fit; boss = head.fits; boss_is = head.is; links = links-by-roles model entries (map entry_of kids) (sym all.are) number links fit }) in
      record {
        fits = tree-net model net (net-parts model net shape (subst (λ (own : Net-F Sim Kid Net). AllByRecursion (FitsKid model) own.kids) (sym opened) all.fit));
        model_is = model-net net ∙ ap (λ (own : Net-F Sim Kid Net). own.model) opened;
        args_is = args-Net net ∙ ap (λ (own : Net-F Sim Kid Net). own.args) opened;
      }

  pub plan-links : (number : ModelId) (plan : Plan) → (system model).is_network number ≡ true → FitsNetwork model number.0 plan → FitsLinks model number plan.entries plan.links
  plan-links number plan network is = record { own = is.own; found = is.found; network = network; order = is.fits.order; ordinary = is.fits.ordinary; each = is.fits.links }

  module _ (laws : Laws model) (time : ℕ) (moment : IsMoment time) where
    abbrev pub Starts : Starter → Type 0
    Starts starter = (number : ModelId) (args : List Value) (path : Path) (room : ℕ) → FitsArgs model number.0 args → Safe (λ one. IsPart number args one.0) (starter number args path time room).end

    pub kid-starts : (starter : Starter) → Starts starter → (entry : Entry) (path : Path) (room : ℕ) → FitsEntry model entry → Safe (λ one. IsKid entry one.0) (started_kid starter entry path time room).end
    kid-starts starter each entry path room fits =
        safe-then (λ one. IsPart entry.model entry.args one.0) (λ one. IsKid entry one.0) (starter entry.model entry.args (below path entry.name) time room)
        (λ started. told [] (kid_of entry.name started.0, started.1))
        (each entry.model entry.args (below path entry.name) room fits) (λ one part. kid-is entry one.0 part)

    kids-start : (starter : Starter) → Starts starter → (before entries : List Entry) (path : Path) (room : ℕ) (done : List Kid) → AllByRecursion (FitsEntry model) entries → AreKids before done
        → Safe (λ one. AreKids (before ++ entries) one.0) (starts starter entries path time room done).end
    kids-start starter each before [] path room done fits so_far = subst (λ (own : List Entry). AreKids own done) (sym (append-nil before)) so_far
    kids-start starter each before (entry ∷ entries) path room done fits so_far =
        safe-then (λ one. IsKid entry one.0) (λ one. AreKids (before ++ entry ∷ entries) one.0) (started_kid starter entry path time room)
        (λ one. starts starter entries path time one.1 (done ++ one.0 ∷ []))
        (kid-starts starter each entry path room fits.0)
        (λ one own.
        subst (λ (all : List Entry). Safe (λ (own : List Kid × ℕ). AreKids all own.0) (starts starter entries path time one.1 (done ++ one.0 ∷ [])).end) (append_assoc before (entry ∷ []) entries)
        (kids-start starter each (before ++ entry ∷ []) entries path one.1 (done ++ one.0 ∷ []) fits.1 (kids-behind before entry done one.0 so_far own)))

    -- the structure of an executive's state
    pub structure-safe : (number : ModelId) (args : List Value) (boss : Leaf) (path : Path) → IsHead number args boss → Safe (FitsNetwork model number.0) (structure_of (system model) number args boss path)
    structure-safe number args boss path head =
        let stood : FitsState model number.0 boss.state = subst (λ (m : ModelId). FitsState model m.0 boss.state) head.is.model (record { own = head.fits.own; found = head.fits.found; fill = head.fits.state }) in
        safe-at (FitsNetwork model number.0) (to_boss path) (((system model).network number args).structure boss.state) (laws.structure number args boss.state head.network head.args_fit stood)

    abbrev pub NetIs : ModelId → List Value → Net × ℕ → Type 0
    NetIs number args one = IsPart number args (sim.Net one.0)

    plan-starts : (starter : Starter) → Starts starter → (number : ModelId) (args : List Value) (boss : Leaf) (path : Path) (room : ℕ) (plan : Plan) → IsHead number args boss → FitsNetwork model number.0 plan
        → Safe (NetIs number args) (with_plan starter number args boss path time room plan).end
    plan-starts starter each number args boss path room plan head fits =
        safe-then (λ one. AreKids plan.entries one.0) (NetIs number args) (starts starter plan.entries path time room [])
        (λ kids. told [] (net_of number args boss kids.0 plan.links, kids.1))
        (kids-start starter each [] plan.entries path room [] fits.fits.entries (record { fit = tt; are = refl }))
        (λ kids all. net-part number args boss kids.0 plan.entries plan.links head all (plan-links number plan head.network fits))

    net-starts : (left : ℕ) (starter : Starter) → Starts starter → (number : ModelId) (args : List Value) (path : Path) (room : ℕ) → (system model).is_network number ≡ true → FitsArgs model number.0 args
        → Safe (NetIs number args) (start_net (system model) left starter number args path time room).end
    net-starts left starter each number args path room network fits =
        safe-then (λ one. IsLeaf model number true args one.0) (NetIs number args) (start_leaf_at (system model) left number true args (to_boss path) time room)
        (with_boss (system model) starter number args path time)
        (leaf-starts model laws time moment number args fits left true (to_boss path) room)
        (λ boss own.
        let head : IsHead number args boss.0 = record { network = network; args_fit = fits; fits = own.fits; is = record { model = own.model_is; args = own.args_is; executive = own.boss_is } } in
        safe-then (FitsNetwork model number.0) (NetIs number args) (quietly (structure_of (system model) number args boss.0 path)) (with_plan starter number args boss.0 path time boss.1)
        (structure-safe number args boss.0 path head) (λ plan is. plan-starts starter each number args boss.0 path boss.1 plan head is))

    by-kind : (left : ℕ) → Starts (start (system model) left) → (network : Bool) (number : ModelId) (args : List Value) (path : Path) (room : ℕ) → (system model).is_network number ≡ network → FitsArgs model number.0 args
        → Safe (λ one. IsPart number args one.0) (if network then start_net_at (system model) left (start (system model) left) number args path time room else start_atomic (system model) (suc left) number args path time room).end
    by-kind left each true number args path room network fits =
        safe-then (λ (rest : ℕ). Unit {0}) (λ one. IsPart number args one.0) (quietly (entered (suc left) path ((system model).network number args).at room))
        (λ rest. start_net (system model) left (start (system model) left) number args path time rest then (λ net. told [] (sim.Net net.0, net.1)))
        (entered-safe (suc left) path ((system model).network number args).at room)
        (λ rest none.
        safe-then (NetIs number args) (λ one. IsPart number args one.0) (start_net (system model) left (start (system model) left) number args path time rest) (λ net. told [] (sim.Net net.0, net.1))
        (net-starts left (start (system model) left) each number args path rest network fits) (λ net own. own))
    by-kind left each false number args path room atomic fits =
        safe-then (λ one. IsLeaf model number false args one.0) (λ one. IsPart number args one.0) (start_leaf_at (system model) (suc left) number false args path time room)
        (λ leaf. told [] (sim.Leaf leaf.0, leaf.1))
        (leaf-starts model laws time moment number args fits (suc left) false path room) (λ leaf own. leaf-part number args leaf.0 atomic own)

    -- a part starts, or faults
    pub part-starts : (left : ℕ) → Starts (start (system model) left)
    part-starts zero number args path room fits = tt
    part-starts (suc left) number args path room fits = by-kind left (part-starts left) ((system model).is_network number) number args path room refl fits
