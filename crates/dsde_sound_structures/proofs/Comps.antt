-- A component is in tables what it is over names.
use Rattle.std.proofs.Common.{◌≡◌, ℕ, ◌+◌, ◌==◌, ◌≤◌, nat_lt, max, arith, Bool, true, false, not, if◌then◌else◌, List, [], ◌∷◌, ◌++◌, map, length, Option, Some, None, Result, Ok, Err, refl, sym, ◌∙◌, ap, subst, slice_get, unwrap_or, append-nil}
use Rattle.std.specs.List.{AllByRecursion}
use Rattle.std.specs.Option.{option_map_or}
use Rattle.std.specs.Ordering.{is_lt}
use Rattle.std.proofs.lemmas.List.{length-map}
use Rattle.std.proofs.lemmas.Bool.{not-false, eqb-true}
use Rattle.dsde_sim_tree.specs.given.names.Table.{place_of}
use Rattle.dsde_sim_tree.specs.given.syntax.decl_Model.{Model}
use Rattle.dsde_sim_tree.specs.given.syntax.expr_Expr.{Expr}
use Rattle.dsde_sim_tree.specs.given.syntax.id_Id.{Id}
use Rattle.dsde_sim_tree.specs.given.syntax.item_Item_TheOpen.{Item-F}
use Rattle.dsde_values.specs.declared.types.Field.{Field}
use Rattle.dsde_values.specs.declared.types.Ty.{Ty}
use Rattle.dsde_values.specs.declared.types.Types.{Types}
use Rattle.dsde_values.specs.declared.value.Value.{Value}
use Rattle.dsde_values.specs.Path.{name_cmp}
use Rattle.dsde_faults.specs.declared.kind.FaultKind.TheVariants.{DuplicateComponent, Crowded}
use Rattle.dsde_sim_tree.specs.given.language.known_Around.{Around}
use Rattle.dsde_sim_tree.specs.given.language.known_Known.{Known}
use Rattle.dsde_sim_tree.specs.given.language.signatures_Family.{Family}
use Rattle.dsde_sim_tree.specs.given.language.signatures_ModelSig.{ModelSig}
use Rattle.dsde_sim_tree.specs.given.language.wrong_Wrong.{Wrong}
use Rattle.dsde_sim_tree.specs.given.language.wrong_WrongKind_TheVariants.{Unknown, WrongType}
use Rattle.dsde_sim_tree.specs.given.language.Steps.{above, wrong, unless}
use Rattle.dsde_sim_tree.specs.given.language.RuleTables.{model_name}
use Rattle.dsde_sim_tree.specs.given.language.Judge.{judge, fit, fit_all}
use Rattle.dsde_sim_tree.specs.given.language.Judge as rules
use Rattle.dsde_sim_tree.specs.given.language.Blocks.{Passed}
use Rattle.dsde_sim_tree.specs.given.language.RuleStructures as rule_structures
use Rattle.dsde_sim_tree.specs.given.language.RuleStructures.{args_of, family_named, model_named}
use Rattle.dsde_sim_tree.specs.given.language.code_ViaCode.{ViaCode}
use Rattle.dsde_sim_tree.specs.given.language.DeclaredModels as declared
use Rattle.dsde_sim_tree.specs.given.language.Items as nodes
use Rattle.dsde_sim_tree.specs.given.language.DeclaredStructures.{directed, model_ports}
use Rattle.dsde_sim_tree.specs.given.language.DeclaredModels.{model_id, whole_of, types_of, Own, owns_of, param_slots}
use Rattle.dsde_sim_tree.specs.given.language.Items.{resolve_index, resolve_all}
use Rattle.dsde_sim_tree.specs.given.language.Pieces.{Next, behind}
use Rattle.dsde_sim_tree.specs.given.language.Names.{with_slots}
use Rattle.dsde_sim_tree.specs.given.structure.plan_Entry.{Entry}
use Rattle.dsde_sim_tree.specs.given.language.Outcome.{Fault}
use Rattle.dsde_sim_tree.specs.given.language.Meaning.{mean, values_of}
use Rattle.dsde_sim_tree.specs.given.language.MeaningTables.{values_from}
use Rattle.dsde_sim_tree.specs.given.language.Typed.{Sound, AllTyped, Fits, values_in}
use Rattle.dsde_sim_tree.specs.given.language.Scopes.{Sees}
use Rattle.dsde_sound_names.specs.given.sound_expressions.Items as proper
use Rattle.dsde_sound_names.specs.given.sound_expressions.Structures.{ModelIs, ModelsAre}
use Rattle.dsde_sound_names.specs.given.executive_plans.Layout.{most, inserted, is_there, with_entry, index_of, item_step}
use Rattle.dsde_sound_names.specs.given.executive_plans.Drafts.{index_at}
use Rattle.dsde_system.specs.Fitting.{Fill, FitsArgs}
use Rattle.dsde_sound_names.specs.given.sound_expressions.lemmas_Steps.{went, ok-is, unless-is}
use Rattle.dsde_sim_tree.specs.given.language.Proper.{is_plain}
use Rattle.dsde_sound_names.specs.given.sound_expressions.lemmas_Truths.{and-left, and-right}
use Rattle.dsde_sound_names.specs.given.sound_expressions.lemmas_Places.{Placed, placed}
use Rattle.dsde_sound_names.specs.given.sound_expressions.lemmas_Standing.{stands-left, stands-right}
use Rattle.dsde_sound_structures.proofs.Gets.{gets-own}
use Rattle.dsde_sound_structures.proofs.Families.{comp-enters}
use Rattle.dsde_sound_structures.proofs.StructureGround.{Ground, Shows, part_in, shown, shows-ok, shows-over, shows-by}
use Rattle.dsde_sound_structures.proofs.ByFamily.{EntryBy}
use Rattle.dsde_sound_structures.proofs.Values.{index-gets, values-get, index-scope, index-vias, all-scope, all-vias}
use Rattle.dsde_sound_structures.proofs.Drawing.{draw-comp}
use Rattle.dsde_sound_structures.proofs.StructureDoes.{Done, one_does, not-cut}
use Rattle.dsde_sound_structures.proofs.StructureItems.{CompsDo}

-- Values of the types of fields fill them.
fill-typed : (types : Types) (fields : List Field) (values : List Value) → AllTyped types (map (λ (field : Field). field.ty) fields) values → Fill types fields values
fill-typed types [] [] all = tt
fill-typed types [] (v ∷ values) all = absurd all
fill-typed types (field ∷ fields) [] all = absurd all
fill-typed types (field ∷ fields) (v ∷ values) all = (all.0, fill-typed types fields values all.1)

module _ (Is : Entry → Type 0) where
  inserted-if : (b : Bool) (entry first : Entry) (later more : List Entry) → Is entry → Is first → AllByRecursion Is later → AllByRecursion Is more
      → AllByRecursion Is (if b then entry ∷ first ∷ later else first ∷ more)
  inserted-if true entry first later more own here all rest = (own, (here, all))
  inserted-if false entry first later more own here all rest = (here, rest)

  inserted-all : (entry : Entry) (entries : List Entry) → Is entry → AllByRecursion Is entries → AllByRecursion Is (inserted entry entries)
  inserted-all entry [] own all = (own, tt)
  inserted-all entry (first ∷ later) own all =
      inserted-if (is_lt (name_cmp entry.name first.name)) entry first later (inserted entry later) own all.0 all.1 (inserted-all entry later own all.1)

  entry-if : (there room : Bool) (at : ℕ) (entries : List Entry) → AllByRecursion Is entries
      → Sound false (AllByRecursion Is) (if there then Err (Fault DuplicateComponent at) else if room then Ok entries else Err (Fault Crowded at))
  entry-if true room at entries all = refl
  entry-if false true at entries all = all
  entry-if false false at entries all = refl

  -- one more component
  with-entry-sound : (at : ℕ) (entry : Entry) (entries : List Entry) → Is entry → AllByRecursion Is entries → Sound false (AllByRecursion Is) (with_entry at entry entries)
  with-entry-sound at entry entries own all =
      entry-if (is_there entry.name entries) (nat_lt (length entries) most) at (inserted entry entries) (inserted-all entry entries own all)

-- arguments of a model that is known
record Called (around : Around) (model : Id) (args : List Expr) (scope : rules.Scope) (height : ℕ) : Type 0 where
  sig : ModelSig
  found : model_named around.known model.name ≡ Some sig
  long : length args ≡ length sig.params
  fits : fit (map (judge around) args) sig.params 0 scope ≡ Ok height

abbrev args_by : Around → Id → List Expr → rules.Scope → Option ModelSig → Result ℕ Wrong
args_by around model args scope found = elim found [
  | None ↦ wrong Unknown model.at
  | Some sig ↦ fit_all model (map (judge around) args) sig.params scope
]

called-by : (around : Around) (model : Id) (args : List Expr) (scope : rules.Scope) (height : ℕ) (found : Option ModelSig) → model_named around.known model.name ≡ found
    → args_by around model args scope found ≡ Ok height → Called around model args scope height
called-by around model args scope height None is h = absurd (cc h)
called-by around model args scope height (Some sig) is h =
    let w1 = went (unless (not (length (map (judge around) args) == length sig.params)) WrongType model.at) _ height h in
    let same : length (map (judge around) args) ≡ length sig.params = eqb-true _ _ (not-false _ (unless-is (not (length (map (judge around) args) == length sig.params)) WrongType model.at w1.value w1.first)) in
    record { sig = sig; found = is; long = sym (length-map args (judge around)) ∙ same; fits = w1.next }

called-at : (around : Around) (model : Id) (args : List Expr) (scope : rules.Scope) (height : ℕ) → args_of around model args scope ≡ Ok height → Called around model args scope height
called-at around model args scope height h = called-by around model args scope height (model_named around.known model.name) refl h

module _ (g : Ground) where
  abbrev E : Bool
  E = g.site.around.has_elapsed

  abbrev whole : Known
  whole = g.place.known

  abbrev around : Around
  around = g.site.around

  -- Components of these names, models and arguments are of their kind.
  abbrev pub EntriesAre : Type 0
  EntriesAre = (name model : Id) (index : Option ℕ) (soft : Bool) (sig : ModelSig) (number : ℕ) (family : Family) (values : List Value)
      → rule_structures.model_number around.known model.name ≡ Some number → model_named around.known model.name ≡ Some sig
      → family_named g.site.families name.name ≡ Some family → family.model ≡ number → AllTyped g.types sig.params values
      → g.entry_is (record { name = record { stem = name.name; index = index }; model = model_id whole model.name; args = values; soft = soft })

  module _ (are : EntriesAre) where
    pub comps-do : CompsDo g
    comps-do at name index soft model args = record {
      counts = λ slots next.
          let one = resolve_index whole index slots next in
          let two = resolve_all whole args one.scope (behind next one) in
          ap (λ (l : List ViaCode). length (l ++ (two.vias ++ []))) (index-vias whole index slots next)
          ∙ ap (λ (l : List ViaCode). length (l ++ [])) (all-vias whole args one.scope (behind next one));
      told = refl;
      widens = record { grows = λ found more h. (comp-enters around.known at name model found more h).grows };
      does = λ plain entered scope passed slots next h sees.
          let w1 = went (rule_structures.index_of around index scope) _ passed h in
          let w2 = went (args_of around model args scope) _ passed w1.next in
          let called : Called around model args scope w2.value = called-at around model args scope w2.value w2.first in
          let entering = comp-enters around.known at name model entered.found entered.more entered.is in
          let behind_it : Passed = record { scope = scope; height = above (max w1.value w2.value) } in
          let one = resolve_index whole index slots next in
          let next1 : Next = behind next one in
          let two = resolve_all whole args one.scope next1 in
          let same1 : one.scope ≡ slots = index-scope whole index slots next in
          let same2 : two.scope ≡ slots = all-scope whole args one.scope next1 ∙ same1 in
          subst (λ (p : Passed). Done g (one_does g) p slots next (nodes.item_step g.place (Item-F.Comp at name index soft model args) slots next) [] (item_step g.place g.functions (Item-F.Comp at name index soft model args)))
          (ok-is behind_it passed w2.next)
          (record {
            more = [];
            grows = same2 ∙ sym (append-nil slots);
            sees = subst (λ (l : List Field). Sees E scope l) (sym same2) sees;
            shows = λ ready before kept.
                let low : max w1.value w2.value + 1 ≤ 512 = not-cut (max w1.value w2.value) ready.low in
                subst (λ (l : List Field). Shows g l ((item_step g.place g.functions (Item-F.Comp at name index soft model args)).run next.via before) (one_does g (nodes.item_step g.place (Item-F.Comp at name index soft model args) slots next).own (shown before))) (sym same2)
                (shows-by g slots _ _ _ (draw-comp (part_in g) at name.name one.own (model_id whole model.name) two.own soft (shown before))
                (shows-over g (λ (own : Option ℕ). Unit {0}) slots (index_of whole g.functions index before.vars) (index_at (part_in g) one.own (values_in before.vars)) _ _
                (index-gets g scope slots sees before.vars kept.fits index (and-left (proper.is_proper_index index) _ (and-right (is_plain name) _ plain)) w1.value next w1.first
                (stands-left g.coded.nodes next.node one.nodes (two.nodes ++ []) ready.code) (omega (arith, low)))
                (λ own _.
                shows-over g (AllTyped g.types called.sig.params) slots (values_of [] (map (mean whole g.functions) args) before.vars) (values_from (part_in g) [] two.own (values_in before.vars)) _ _
                (values-get g scope one.scope (subst (λ (l : List Field). Sees E scope l) (sym same1) sees) before.vars (subst (λ (l : List Field). Fits g.types before.vars l) (sym same1) kept.fits)
                args (and-right (proper.is_proper_index index) _ (and-right (is_plain name) _ plain)) called.sig.params 0 w2.value called.fits called.long (omega (arith, low)) next1
                (stands-left g.coded.nodes next1.node two.nodes [] (stands-right g.coded.nodes next.node one.nodes (two.nodes ++ []) ready.code)) [] [] tt)
                (λ values typed.
                let entry : Entry = record { name = record { stem = name.name; index = own }; model = model_id whole model.name; args = values; soft = soft } in
                let is : g.entry_is entry = are name model own soft called.sig entering.number entering.family values entering.is called.found (entered.within.finds name.name entering.family entering.has) entering.of typed in
                shows-over g (AllByRecursion g.entry_is) slots (with_entry at entry before.entries) (with_entry at entry before.entries) _ _
                (gets-own (AllByRecursion g.entry_is) (with_entry at entry before.entries) (with-entry-sound g.entry_is at entry before.entries is kept.entries))
                (λ entries all. shows-ok g slots (record before { entries = entries }) (record { fits = kept.fits; entries = all; links = kept.links }))))));
          });
    }

-- Components are of the models of the file.
pub entry-by : (m : Model) (own : Own) (families : List Family) (known : Known) → ModelsAre m → known.models ≡ (whole_of m).models
    → (name model : Id) (index : Option ℕ) (soft : Bool) (sig : ModelSig) (number : ℕ) (family : Family) (values : List Value)
    → rule_structures.model_number known model.name ≡ Some number → model_named known model.name ≡ Some sig
    → family_named families name.name ≡ Some family → family.model ≡ number → AllTyped (types_of m) sig.params values
    → EntryBy m own families (record { name = record { stem = name.name; index = index }; model = model_id (whole_of m) model.name; args = values; soft = soft })
entry-by m own families known models same name model index soft sig number family values is found has of typed =
    let p : Placed model_name known.models model.name sig = placed model_name known.models model.name sig found in
    let some : (let own : Option ℕ = Some p.place in own) ≡ Some number = sym p.found ∙ is in
    let place : p.place ≡ number = the-number p.place number some in
    let at : slice_get (whole_of m).models number ≡ Some sig =
    ap (λ (l : List ModelSig). slice_get l number) (sym same) ∙ ap (λ (n : ℕ). slice_get known.models n) (sym place) ∙ p.at in
    let told : ModelIs m number sig = models.models number sig at in
    let own_number : declared.model_number (whole_of m) model.name ≡ number =
    ap (λ (l : List ModelSig). unwrap_or (place_of model_name l model.name) 0) (sym same) ∙ ap (λ (o : Option ℕ). unwrap_or o 0) is in
    let args : FitsArgs m number values = record {
      below = told.below;
      own = told.own;
      found = told.found;
      fill = fill-typed (types_of m) (param_slots m told.own) values (subst (λ (l : List Ty). AllTyped (types_of m) l values) told.params typed);
    } in
    record {
      fits = subst (λ (n : ℕ). FitsArgs m n values) (sym own_number) args;
      family = family;
      found = has;
      is = own_number ∙ sym of;
      kid = told.own;
      kid_is = ap (λ (n : ℕ). slice_get (owns_of m.decls) n) own_number ∙ told.found;
      kid_ports = λ out.
          ap (λ (n : ℕ). model_ports (whole_of m) out n) of
          ∙ ap (λ (o : Option ModelSig). with_slots [] (option_map_or (λ (own : ModelSig). directed out own.ports) o [])) at
          ∙ told.ports out;
    }
  where
    the-number : (a b : ℕ) → (let own : Option ℕ = Some a in own) ≡ Some b → a ≡ b
    the-number a b h = cc h
