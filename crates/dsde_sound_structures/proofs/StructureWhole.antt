-- The structure of a network means in tables what it means over names, and its plan fits.
use Rattle.std.proofs.Common.{◌≡◌, ◌≢◌, ℕ, ◌≤◌, arith, Bool, true, false, List, [], ◌∷◌, ◌++◌, map, Some, Ok, Err, refl, sym, ◌∙◌, ap, subst, slice_get}
use Rattle.std.specs.List.{AllByRecursion, flat_map, list_all}
use Rattle.std.proofs.lemmas.List.Folds.{list_all-map}
use Rattle.dsde_values.specs.Path.{EXEC}
use Rattle.dsde_sim_tree.specs.given.syntax.decl_Model.{Model}
use Rattle.dsde_sim_tree.specs.given.syntax.item_Item.{Item}
use Rattle.dsde_sim_tree.specs.given.syntax.item_ViaPart.{ViaPart}
use Rattle.dsde_sim_tree.specs.given.language.known_Known.{Known}
use Rattle.dsde_sim_tree.specs.given.language.signatures_Family.{Family}
use Rattle.dsde_sim_tree.specs.given.language.Blocks.{walk_all}
use Rattle.dsde_sim_tree.specs.given.language.RuleStructures.{enter, enter_all, item_walk}
use Rattle.dsde_sim_tree.specs.given.language.make_Make.{Make}
use Rattle.dsde_sim_tree.specs.given.language.DeclaredStructures.{Place, kin_all, kin_of, place_of_items, vias_in, vias_of}
use Rattle.dsde_sim_tree.specs.given.language.DeclaredModels.{whole_of, types_of, Own, owns_of}
use Rattle.dsde_sim_tree.specs.given.language.NodeModels.{resolved}
use Rattle.dsde_sim_tree.specs.given.language.Right.{IsRight}
use Rattle.dsde_sim_tree.specs.given.structure.plan_Entry.{Entry}
use Rattle.dsde_sim_tree.specs.given.structure.plan_Plan.{Plan}
use Rattle.dsde_sim_tree.specs.given.structure.Gather.{is_same_name}
use Rattle.dsde_sim_tree.specs.given.structure.Survival.{IsInOrder}
use Rattle.dsde_sim_tree.specs.given.language.Outcome.{Fault, Stuck, Outcome, ◌>>=◌}
use Rattle.dsde_sim_tree.specs.given.language.Meaning.{Function, Vars}
use Rattle.dsde_sim_tree.specs.given.language.Functions.{functions_of}
use Rattle.dsde_sim_tree.specs.given.language.MeaningTables.{means_in}
use Rattle.dsde_sim_tree.specs.given.language.Typed.{Sound, Fits, values_in}
use Rattle.dsde_sim_tree.specs.given.language.Scopes.{Stands}
use Rattle.dsde_sim_tree.specs.given.language.Agreement.{ExpressionsAgree}
use Rattle.dsde_sound_names.specs.given.sound_expressions.Items.{is_proper_item}
use Rattle.dsde_sound_names.specs.given.sound_expressions.Coded.{FunctionsAgree, coded_of}
use Rattle.dsde_sound_names.specs.given.sound_expressions.Bodies.{body_slots}
use Rattle.dsde_sound_names.specs.given.sound_expressions.Laws.{KnownIsWithin}
use Rattle.dsde_sound_names.specs.given.sound_expressions.Structures.{IsStructure, ModelsAre, ModelsAreKnown, PortsApart}
use Rattle.dsde_sound_names.specs.given.executive_plans.placed_PlacedLink.{PlacedLink}
use Rattle.dsde_sound_names.specs.given.executive_plans.Layout.{Layout, lay, lay_all, tied, plan_of, structure}
use Rattle.dsde_sound_names.specs.given.executive_plans.Drafts.{Draft, draws, draft_of}
use Rattle.dsde_system.specs.Plans.{FitsPlan}
use Rattle.dsde_sound_structures.specs.Agreement.{StructuresAgree, structure_of}
use Rattle.dsde_sound_names.specs.given.sound_expressions.lemmas_Steps.{went, ok-is}
use Rattle.dsde_sound_structures.proofs.Families.{all-enters, item-enters, grows-same}
use Rattle.dsde_sound_structures.proofs.StructureGround.{Ground, Kept, seen}
use Rattle.dsde_sound_structures.proofs.ByFamily.{EntryBy, LinkBy}
use Rattle.dsde_sound_structures.proofs.Braces.{joined_texts}
use Rattle.dsde_sound_structures.proofs.Comps.{comps-do, entry-by}
use Rattle.dsde_sound_structures.proofs.Ends.{PlaceIs}
use Rattle.dsde_sound_structures.proofs.Links.{links-do}
use Rattle.dsde_sound_structures.proofs.StructureItems.{items-do, map-same}
use Rattle.dsde_sound_structures.proofs.Tied.{tied-all, tied-sure, entries-fit, links-fit}

-- The components of a plan stand in order.
abbrev pub PlansInOrder : Type 0
PlansInOrder = (place : Place) (functions : List Function) (items : List Item) (number : ℕ) (vars : Vars) (plan : Plan)
    → structure place functions items number vars ≡ Ok plan → IsInOrder plan.entries

-- No component of a plan of proper items is named as an executive.
abbrev pub IsOrdinary : List Entry → Type 0
IsOrdinary entries = AllByRecursion (λ entry. is_same_name EXEC entry.name ≡ false) entries

abbrev pub PlansOrdinary : Type 0
PlansOrdinary = (place : Place) (functions : List Function) (items : List Item) (number : ℕ) (vars : Vars) (plan : Plan)
    → list_all is_proper_item items ≡ true → structure place functions items number vars ≡ Ok plan → IsOrdinary plan.entries

texts-joined : (items : List Item) → joined_texts (map vias_in items) ≡ flat_map vias_in items
texts-joined [] = refl
texts-joined (item ∷ items) = ap (λ (l : List ViaPart). vias_in item ++ l) (texts-joined items)

-- what was entered is what is resolved
families-are : (known whole : Known) → known.models ≡ whole.models → (items : List Item) (families : List Family) → enter_all (map (enter known) items) [] ≡ Ok families → kin_all (map (kin_of whole) items) [] ≡ families
families-are known whole models items families h =
    let all = all-enters (λ (item : Item). item) (enter known) (kin_of whole) (item-enters known whole models) items in
    ap (λ (l : List Item). kin_all (map (kin_of whole) l) []) (sym (map-same items))
    ∙ all.same [] families (ap (λ (l : List Item). enter_all (map (enter known) l) []) (map-same items) ∙ h)

-- a plan of a layout
abbrev plan_in : Layout → Outcome Plan
plan_in layout = plan_of layout.entries layout.links

plan-seen : (x : Outcome Layout) → (seen x >>= (λ draft. plan_of draft.entries draft.links)) ≡ (x >>= plan_in)
plan-seen (Ok after) = refl
plan-seen (Err halt) = refl

tied-then : (x : Outcome (Unit {0})) (plan : Plan) → Sound false (λ (u : Unit {0}). Unit {0}) x → Sound false (λ (p : Plan). Unit {0}) (x >>= (λ _. Ok plan))
tied-then (Ok u) plan h = tt
tied-then (Err (Fault kind at)) plan h = refl
tied-then (Err Stuck) plan h = h

-- the plan of a layout is never stuck
plan-sure : (P : Layout → Type 0) (x : Outcome Layout) → Sound false P x → Sound false (λ (p : Plan). Unit {0}) (x >>= plan_in)
plan-sure P (Ok after) h = tied-then (tied after.entries after.links) (record { entries = after.entries; links = map (λ (placed : PlacedLink). placed.link) after.links }) (tied-sure after.entries after.links)
plan-sure P (Err (Fault kind at)) h = refl
plan-sure P (Err Stuck) h = h

not-stuck : (x : Outcome Plan) → Sound false (λ (p : Plan). Unit {0}) x → x ≢ Err Stuck
not-stuck (Ok plan) h same = cc same
not-stuck (Err (Fault kind at)) h same = cc same
not-stuck (Err Stuck) h same = h

module _ (model : Model) (own : Own) (families : List Family) where
  -- a layout with components and links by their families
  pub record LaidBy (layout : Layout) : Type 0 where
    pub entries : AllByRecursion (EntryBy model own families) layout.entries
    pub links : AllByRecursion (LinkBy model own families) layout.links

  plan-tied : (entries : List Entry) (links : List PlacedLink) (found : Outcome (Unit {0})) → tied entries links ≡ found → (plan : Plan)
      → AllByRecursion (EntryBy model own families) entries → AllByRecursion (LinkBy model own families) links
      → (found >>= (λ _. Ok (record { entries = entries; links = map (λ (placed : PlacedLink). placed.link) links }))) ≡ Ok plan → IsInOrder plan.entries → IsOrdinary plan.entries → FitsPlan model own plan
  plan-tied entries links (Err halt) is plan all by h order ordinary = absurd (cc h)
  plan-tied entries links (Ok u) is plan all by h order ordinary =
      let own_plan : Plan = record { entries = entries; links = map (λ (placed : PlacedLink). placed.link) links } in
      let same : own_plan ≡ plan = cc h in
      subst (FitsPlan model own) same (record {
        order = subst (λ (p : Plan). IsInOrder p.entries) (sym same) order;
        ordinary = subst (λ (p : Plan). IsOrdinary p.entries) (sym same) ordinary;
        entries = entries-fit model own families entries all;
        links = links-fit model own families entries all links by (tied-all entries links u is);
      })

  plan-fits : (x : Outcome Layout) → Sound false LaidBy x → (plan : Plan) → (x >>= plan_in) ≡ Ok plan → IsInOrder plan.entries → IsOrdinary plan.entries → FitsPlan model own plan
  plan-fits (Ok after) laid plan h order ordinary = plan-tied after.entries after.links (tied after.entries after.links) refl plan laid.entries laid.links h order ordinary
  plan-fits (Err halt) laid plan h order ordinary = absurd (cc h)

laid-by : (model : Model) (own : Own) (families : List Family) (P : Layout → Type 0) → ((layout : Layout) → P layout → LaidBy model own families layout) → (x : Outcome Layout) → Sound false P x → Sound false (LaidBy model own families) x
laid-by model own families P so (Ok after) h = so after h
laid-by model own families P so (Err (Fault kind at)) h = refl
laid-by model own families P so (Err Stuck) h = h

-- the layout of a structure, before any link is tied
abbrev layout_of : Model → Own → List Item → ℕ → Vars → Outcome Layout
layout_of model own items via vars =
    (lay_all (map (lay (place_of_items (whole_of model) own.ports own.body items) (functions_of model)) items)).run via (record { vars = vars; entries = []; links = [] })

structure-is : (model : Model) (own : Own) (items : List Item) (via : ℕ) (vars : Vars) → structure_of model own items via vars ≡ (layout_of model own items via vars >>= plan_in)
unfolding structure
structure-is model own items via vars = refl

-- what a structure leaves, to a depth
record Left (model : Model) (own : Own) (families : List Family) (items : List Item) (via : ℕ) (makes : List Make) (vars : Vars) (depth : ℕ) : Type 0 where
  laid : Sound false (LaidBy model own families) (layout_of model own items via vars)
  same : draws (means_in (coded_of model) depth).part makes (draft_of (values_in vars) [] []) ≡ seen (layout_of model own items via vars)

module _ (agree : ExpressionsAgree) (functions : FunctionsAgree) (within : KnownIsWithin) (models : ModelsAreKnown) (orders : PlansInOrder) (ordinary : PlansOrdinary) where
  left-at : (model : Model) (number : ℕ) (own : Own) (items : List Item) (via : ℕ) (makes : List Make) (vars : Vars) → IsRight model → slice_get (owns_of model.decls) number ≡ Some own
      → (is : IsStructure model own items via makes) → Fits (types_of model) vars (body_slots model own) → (depth : ℕ) → 512 ≤ depth
      → Left model own is.families items via makes vars depth
  left-at model number own items via makes vars right found is fits depth deep =
      let all : ModelsAre model = models model right in
      let apart : PortsApart model own = all.apart number own found in
      let same : is.around.known.models ≡ (whole_of model).models = all.known is.around.known is.known in
      let funcs = functions model is.around.known right is.known in
      let g : Ground = record {
        types = types_of model;
        coded = coded_of model;
        functions = functions_of model;
        site = record { around = is.around; ports = is.ports; execs = is.execs; families = is.families };
        place = place_of_items (whole_of model) own.ports own.body items;
        codes = (resolved model).vias;
        written = vias_of model;
        depth = depth;
        deep = deep;
        entry_is = EntryBy model own is.families;
        link_is = LinkBy model own is.families;
        exprs = λ e. agree (types_of model) (coded_of model) (whole_of model) (functions_of model) is.around e (within model is.around.known right is.known) funcs.serve funcs.calls;
      } in
      let place : PlaceIs model own g.site g.place = record {
        known = refl;
        models = same;
        families = families-are is.around.known (whole_of model) same items is.families is.entered;
        ins = apart.ports false;
        outs = apart.ports true;
        boss_ins = apart.body false;
        boss_outs = apart.body true;
        ports = is.own_ports;
        execs = is.exec_ports;
      } in
      let comps = comps-do g (entry-by model own is.families is.around.known all same) in
      let links = links-do model own g place is.known refl refl refl refl (λ placed by. by) in
      let w1 = went (walk_all (map (item_walk g.site) items) 0 is.scope) _ is.height is.judged in
      let high : w1.value.height ≡ is.height = ok-is w1.value.height is.height w1.next in
      let done = (items-do g comps links items).does (list_all-map (λ (own : Bool). own) is_proper_item items ∙ is.proper)
      (record { found = []; more = is.families; is = is.entered; within = grows-same is.families })
      0 is.scope w1.value (body_slots model own) is.next w1.first is.sees in
      let before : Layout = record { vars = vars; entries = []; links = [] } in
      let shows = done.shows (record {
        code = is.nodes;
        ways = is.vias;
        words = subst (λ (l : List ViaPart). Stands (vias_of model) is.next.via l) (sym (texts-joined items)) is.texts;
        low = let low : is.height ≤ 512 = is.low in omega (arith, high, low);
      }) before (record { fits = fits; entries = tt; links = tt }) in
      record {
        laid = subst (λ (n : ℕ). Sound false (LaidBy model own is.families) (layout_of model own items n vars)) is.at
            (laid-by model own is.families (Kept g _) (λ layout kept. record { entries = kept.entries; links = kept.links }) (layout_of model own items is.next.via vars) shows.lands);
        same = ap (λ (l : List Make). draws (means_in (coded_of model) depth).part l (draft_of (values_in vars) [] [])) is.made
            ∙ shows.same ∙ ap (λ (n : ℕ). seen (layout_of model own items n vars)) is.at;
      }

  pub structures-agree : StructuresAgree
  structures-agree model number own items via makes vars right found is fits =
      let left : Left model own is.families items via makes vars 512 = left-at model number own items via makes vars right found is fits 512 (omega arith) in
      let x : Outcome Layout = layout_of model own items via vars in
      let whole : structure_of model own items via vars ≡ (x >>= plan_in) = structure-is model own items via vars in
      record {
        sure = subst (λ (o : Outcome Plan). o ≢ Err Stuck) (sym whole) (not-stuck (x >>= plan_in) (plan-sure (LaidBy model own is.families) x left.laid));
        reads = λ depth deep.
            let here : Left model own is.families items via makes vars depth = left-at model number own items via makes vars right found is fits depth deep in
            ap (λ (o : Outcome Draft). o >>= (λ draft. plan_of draft.entries draft.links)) here.same ∙ plan-seen x ∙ sym whole;
        fits = λ plan h.
            plan-fits model own is.families x left.laid plan (sym whole ∙ h) (orders (place_of_items (whole_of model) own.ports own.body items) (functions_of model) items via vars plan h)
            (ordinary (place_of_items (whole_of model) own.ports own.body items) (functions_of model) items via vars plan is.proper h);
      }
