-- The rows of a tree that stands are restored to it.
use Rattle.std.proofs.Common.{◌≡◌, ◌⊎◌, ℕ, zero, suc, ◌+◌, ◌-◌, ◌≤◌, Bool, true, false, List, [], ◌∷◌, ◌++◌, map, Option, Some, refl, sym, ap, subst, ◌∙◌, inl, inr, append-nil, append_assoc, arith}
use Rattle.std.specs.Prelude.{if◌then◌else◌, Result, Ok, Err}
use Rattle.std.specs.List.{AllByRecursion, flat_map}
use Rattle.std.specs.Str.{bytes_eq}
use Rattle.std.proofs.lemmas.Bool.{eq-eqb, le-leb}
use Rattle.std.proofs.lemmas.List.Sums.{sum_by-cons}
use Rattle.std.proofs.lemmas.Slice.Eq.{bytes_eq-Decides}
use Rattle.dsde_values.specs.declared.name.Name.{Name}
use Rattle.dsde_values.specs.declared.path.Path.{Path}
use Rattle.dsde_values.specs.declared.value.Value.{Value}
use Rattle.dsde_values.specs.declared.when.When.{When}
use Rattle.dsde_values.specs.declared.when.When.TheVariants.{At, Never}
use Rattle.dsde_values.specs.Path.{path_text, root}
use Rattle.dsde_faults.specs.declared.end.LeafEnd.{LeafEnd}
use Rattle.dsde_sim_movers.specs.given.language.ids_ModelId.{ModelId}
use Rattle.dsde_sim_movers.specs.given.formalism.leaf_Leaf.{Leaf}
use Rattle.dsde_sim_movers.specs.given.formalism.System.{System, Chosen}
use Rattle.dsde_sim_movers.specs.given.structure.plan_Entry.{Entry}
use Rattle.dsde_sim_movers.specs.given.structure.plan_Link.{Link}
use Rattle.dsde_sim_movers.specs.given.structure.plan_Plan.{Plan}
use Rattle.dsde_sim_movers.specs.given.sim_tree.Told.{below, to_boss}
use Rattle.dsde_sim_movers.specs.given.sim_tree.sim_Kid.{Kid}
use Rattle.dsde_sim_movers.specs.given.sim_tree.sim_Net.{Net}
use Rattle.dsde_sim_movers.specs.given.sim_tree.sim_Sim.{Sim}
use Rattle.dsde_sim_movers.specs.given.sim_tree.sim_Sim_TheVariants as sim
use Rattle.dsde_sim_movers.specs.given.sim_tree.sim_Sim_TheViews.{out-Kid, out-Net, roll-out-Kid, roll-out-Net}
use Rattle.dsde_sim_movers.specs.given.sim_tree.sim_TheConstants.{DEEPEST}
use Rattle.dsde_sim_movers.specs.given.sim_tree.Opened.{spots-Leaf, spots-Net, spots-net, spots-kid}
use Rattle.dsde_sim_movers.specs.given.sim_tree.Spots.{spots, spots_of_kid}
use Rattle.dsde_sim_movers.specs.given.sim_tree.Start.{kid_of, net_of}
use Rattle.dsde_sim_movers.specs.given.sim_tree.Tree.{parts, parts_of_kid, parts_of_kids, model_of, args_of, entry_of}
use Rattle.dsde_sim_movers.specs.given.sim_tree.lemmas_Trees.{each_tree}
use Rattle.dsde_sim_movers.specs.given.sim_tree.step_TheConstants.{MOST_PARTS}
use Rattle.dsde_sim_movers.specs.Stands.{deepest, depth, depth_of_kid, IsDueLater, StandsLeaf, StandsAtomic, StandsSpot, StayAs, Stands}
use Rattle.dsde_sim_movers.specs.lemmas.Opened.{depth-Leaf, depth-Net, depth-kid, parts-Leaf, parts-Net, parts-kid, model-Leaf, args-Leaf, model-Net, args-Net}
use Rattle.dsde_image.specs.Image.{location_of}
use Rattle.dsde_image.specs.declared.image.Location.{Location}
use Rattle.dsde_image.specs.declared.image.Location.TheVariants as location
use Rattle.dsde_image.specs.declared.image.Row.{Row}
use Rattle.dsde_image.specs.declared.image.Version.{Version}
use Rattle.dsde_image_rows.specs.Rows.{Script, texts, standing_of, rows, rows_of_kid, atomic_row, net_row, boss_row}
use Rattle.dsde_image_rows.specs.Walk.{Left, Walked, ◌>>=◌, ◌and_then◌, at, only_if, is_same_location, took, texts_eq, args_in, is_next, is_due_later, stood, said_by, atomic_in, boss_in, net_in, took_net, restored_atomic, restored_boss, planned, restored_kids, restored_net, restored, only_at_end, tree_of}
use Rattle.dsde_image_rows.specs.Fits.{StateIsReadAgain, ArgsAreReadAgain, SpotIsReadAgain}
use Rattle.dsde_image_rows.proofs.Opens.{rows-Leaf, rows-Net, rows-kid}

bytes-same : (bytes : List ℕ) → bytes_eq bytes bytes ≡ true
bytes-same bytes = (bytes_eq-Decides bytes bytes).1 refl

location-same : (own : Location) → is_same_location own own ≡ true
location-same (location.Path text) = bytes-same text
location-same (location.Last name depth) = rw (bytes-same name, eq-eqb depth depth refl) refl

texts-same : (own : List (List ℕ)) → texts_eq own own ≡ true
texts-same [] = refl
texts-same (text ∷ own) = rw (bytes-same text, texts-same own) refl

next-same : (next : When) → is_next (Ok next) next ≡ true
next-same (At time) = eq-eqb time time refl
next-same Never = refl

due-later : (time : ℕ) (next : When) → IsDueLater time next → is_due_later time next ≡ true
due-later time (At next) later = le-leb time next later
due-later time Never later = refl

goes : {A B : Type 0} (read : Walked A) (value : A) (next : A → Walked B) (result : Walked B) → read ≡ Ok value → next value ≡ result → (read >>= next) ≡ result
goes {A = A} read value next result is later = ap (λ (own : Walked A). own >>= next) is ∙ later

deepest-some : (depths : List ℕ) → 1 ≤ deepest depths
deepest-some [] = omega arith
deepest-some (depth ∷ depths) = omega (arith, deepest-some depths)

parts-cons : (kid : Kid) (kids : List Kid) → parts_of_kids (kid ∷ kids) ≡ parts_of_kid kid + parts_of_kids kids
parts-cons kid kids = sum_by-cons (λ x. x) (parts_of_kid kid) (map parts_of_kid kids)

all-append : {A : Type 0} (P : A → Type 0) (xs ys : List A) → AllByRecursion P (xs ++ ys) → AllByRecursion P xs × AllByRecursion P ys
all-append P [] ys all = (tt, all)
all-append P (x ∷ xs) ys all = let rest = all-append P xs ys all.1 in ((all.0, rest.0), rest.1)

module _ (system : System) (script : Script) (version : Version) (time : ℕ) where
  took-own : (left : ℕ) (path : Path) (row : Row) (rest : List Row) (many room : ℕ) → row.location ≡ location_of version path → many ≡ suc room → took version (suc left) path (row ∷ rest, many) ≡ Ok (row, (rest, room))
  took-own left path row rest many room is enough =
      ap (λ (n : ℕ). took version (suc left) path (row ∷ rest, n)) enough
      ∙ ap (λ (own : Location). at path (only_if (is_same_location own (location_of version path)) (Some (row, (rest, room))))) is
      ∙ ap (λ (b : Bool). at path (only_if b (Some (row, (rest, room))))) (location-same (location_of version path))

  -- the arguments that a row says are those of the part
  args-again : (soft : Bool) (model : ModelId) (wanted own : List Value) → ArgsAreReadAgain script model own → (soft ≡ true) ⊎ (own ≡ wanted) → args_in script soft model wanted (texts script own) ≡ Some own
  args-again true model wanted own again free = again
  args-again false model wanted own again (inl soft) = absurd (cc soft)
  args-again false model wanted own again (inr same) =
      subst (λ (w : List Value). args_in script false model w (texts script own) ≡ Some own) same
      (ap (λ (b : Bool). only_if b (Some own)) (texts-same (texts script own)))

  -- what a component that stands says of itself
  stood-again : (leaf : Leaf) (boss : Bool) → StandsLeaf system time leaf → leaf.boss ≡ boss → StateIsReadAgain script leaf →
      stood system script time leaf.model boss leaf.args (standing_of script leaf) ≡ Some leaf
  stood-again leaf boss stands is again =
      rw (again, le-leb leaf.last time stands.last, stands.advance, next-same leaf.next, due-later time leaf.next stands.later)
      (ap (λ (b : Bool). let own : Option Leaf = Some (record { model = leaf.model; boss = b; args = leaf.args; state = leaf.state; last = leaf.last; next = leaf.next }) in own) (sym is))

  abbrev IsAgain : Sim → Type 0
  IsAgain own =
      (left many room : ℕ) (soft : Bool) (wanted : List Value) (path : Path) (more : List Row)
      → AllByRecursion (StandsSpot system time) (spots own) → AllByRecursion (SpotIsReadAgain script) (spots own) → depth own ≤ left → many ≡ parts own + room
      → (soft ≡ true) ⊎ (args_of own ≡ wanted)
      → restored system script version time left soft (model_of own) wanted path (rows script version own path ++ more, many) ≡ Ok (own, (more, room))

  atomic-again : (leaf : Leaf) (left many room : ℕ) (soft : Bool) (wanted : List Value) (path : Path) (more : List Row) → StandsAtomic system time leaf → SpotIsReadAgain script (inl leaf) → many ≡ suc room →
      (soft ≡ true) ⊎ (leaf.args ≡ wanted) →
      restored system script version time (suc left) soft leaf.model wanted path (atomic_row script version path leaf ∷ more, many) ≡ Ok (sim.Leaf leaf, (more, room))
  atomic-again leaf left many room soft wanted path more stands again enough free =
      let row = atomic_row script version path leaf in
      ap (λ (net : Bool). if net then restored_net system script version time left (restored system script version time left) soft leaf.model wanted path (row ∷ more, many) else restored_atomic system script version time (suc left) soft leaf.model wanted path (row ∷ more, many)) stands.atomic
      ∙ goes (took version (suc left) path (row ∷ more, many)) (row, (more, room)) _ _ (took-own left path row more many room refl enough)
      (goes (at path (said_by script row leaf.model (atomic_in system script time soft leaf.model wanted row.body))) leaf _ _
      (ap (λ (b : Bool). at path (only_if b (atomic_in system script time soft leaf.model wanted row.body))) (bytes-same (script.model leaf.model))
      ∙ ap (λ (own : Option (List Value)). at path (own and_then (λ args. stood system script time leaf.model false args (standing_of script leaf)))) (args-again soft leaf.model wanted leaf.args again.1 free)
      ∙ ap (λ (own : Option Leaf). at path own) (stood-again leaf false stands.stands stands.not_boss again.0)) refl)

  leaf-again : (leaf : Leaf) → IsAgain (sim.Leaf leaf)
  leaf-again leaf zero many room soft wanted path more stands again deep enough free = absurd (omega (arith, deep, depth-Leaf leaf))
  leaf-again leaf (suc left) many room soft wanted path more stands again deep enough free =
      let own = subst (AllByRecursion (StandsSpot system time)) (spots-Leaf leaf) stands in
      let reads = subst (AllByRecursion (SpotIsReadAgain script)) (spots-Leaf leaf) again in
      ap (λ (listed : List Row). restored system script version time (suc left) soft (model_of (sim.Leaf leaf)) wanted path (listed ++ more, many)) (rows-Leaf script version leaf path)
      ∙ ap (λ (model : ModelId). restored system script version time (suc left) soft model wanted path (atomic_row script version path leaf ∷ more, many)) (model-Leaf leaf)
      ∙ atomic-again leaf left many room soft wanted path more own.0 reads.0 (omega (arith, enough, parts-Leaf leaf))
      (subst (λ (args : List Value). (soft ≡ true) ⊎ (args ≡ wanted)) (args-Leaf leaf) free)

  -- components one after another, each of which is restored
  kids-again : (kids done : List Kid) (entries : List Entry) (left many room : ℕ) (path : Path) (more : List Row)
      → AllByRecursion (λ kid. IsAgain (out-Kid kid).sim) kids → StayAs (map entry_of kids) entries
      → AllByRecursion (StandsSpot system time) (flat_map spots_of_kid kids) → AllByRecursion (SpotIsReadAgain script) (flat_map spots_of_kid kids)
      → deepest (map depth_of_kid kids) ≤ left → many ≡ parts_of_kids kids + room
      → restored_kids system script version time (restored system script version time left) entries path (flat_map (λ kid. rows_of_kid script version kid path) kids ++ more, many) done ≡ Ok (done ++ kids, (more, room))
  kids-again [] done [] left many room path more each stay stands again deep enough =
      ap (λ (own : List Kid). let result : Walked (List Kid × Left) = Ok (own, (more, many)) in result) (sym (append-nil done))
      ∙ ap (λ (n : ℕ). let result : Walked (List Kid × Left) = Ok (done ++ [], (more, n)) in result) (let same : many ≡ room = omega (arith, enough) in same)
  kids-again [] done (entry ∷ entries) left many room path more each stay stands again deep enough = absurd stay
  kids-again (kid ∷ kids) done [] left many room path more each stay stands again deep enough = absurd stay
  kids-again (kid ∷ kids) done (entry ∷ entries) left many room path more each stay stands again deep enough =
      let own = all-append (StandsSpot system time) (spots_of_kid kid) (flat_map spots_of_kid kids) stands in
      let reads = all-append (SpotIsReadAgain script) (spots_of_kid kid) (flat_map spots_of_kid kids) again in
      let listed = flat_map (λ kid. rows_of_kid script version kid path) kids ++ more in
      let all = flat_map (λ kid. rows_of_kid script version kid path) (kid ∷ kids) ++ more in
      let beneath = (out-Kid kid).sim in
      let at_kid = below path (out-Kid kid).name in
      let walker = restored system script version time left in
      goes (walker entry.soft entry.model entry.args (below path entry.name) (all, many)) (beneath, (listed, parts_of_kids kids + room)) _ _
      (ap (λ (model : ModelId). walker entry.soft model entry.args (below path entry.name) (all, many)) (sym stay.0.1)
      ∙ ap (λ (name : Name). walker entry.soft (model_of beneath) entry.args (below path name) (all, many)) (sym stay.0.0)
      ∙ ap (λ (all : List Row). walker entry.soft (model_of beneath) entry.args at_kid (all, many)) (append_assoc (rows_of_kid script version kid path) (flat_map (λ kid. rows_of_kid script version kid path) kids) more)
      ∙ ap (λ (first : List Row). walker entry.soft (model_of beneath) entry.args at_kid (first ++ listed, many)) (rows-kid script version kid path)
      ∙ each.0 left many (parts_of_kids kids + room) entry.soft entry.args at_kid listed
      (subst (AllByRecursion (StandsSpot system time)) (spots-kid kid) own.0) (subst (AllByRecursion (SpotIsReadAgain script)) (spots-kid kid) reads.0)
      (omega (arith, deep, depth-kid kid)) (omega (arith, enough, parts-kid kid, parts-cons kid kids)) stay.0.2)
      (ap (λ (name : Name). restored_kids system script version time walker entries path (listed, parts_of_kids kids + room) (done ++ kid_of name beneath ∷ [])) (sym stay.0.0)
      ∙ ap (λ (one : Kid). restored_kids system script version time walker entries path (listed, parts_of_kids kids + room) (done ++ one ∷ [])) (roll-out-Kid kid)
      ∙ kids-again kids (done ++ kid ∷ []) entries left (parts_of_kids kids + room) room path more each.1 stay.1 own.1 reads.1 (omega (arith, deep)) refl
      ∙ ap (λ (all : List Kid). let result : Walked (List Kid × Left) = Ok (all, (more, room)) in result) (append_assoc done (kid ∷ []) kids))

  -- the executive of a network that stands
  boss-again : (boss : Leaf) (left many room : ℕ) (path : Path) (more : List Row) → StandsLeaf system time boss → boss.boss ≡ true → StateIsReadAgain script boss → many ≡ suc room →
      restored_boss system script version time (suc left) boss.model boss.args path (boss_row script version path boss ∷ more, many) ≡ Ok (boss, (more, room))
  boss-again boss left many room path more stands is again enough =
      let row = boss_row script version path boss in
      goes (took version (suc left) (to_boss path) (row ∷ more, many)) (row, (more, room)) _ _ (took-own left (to_boss path) row more many room refl enough)
      (goes (at (to_boss path) (said_by script row boss.model (boss_in system script time boss.model boss.args row.body))) boss _ _
      (ap (λ (b : Bool). at (to_boss path) (only_if b (boss_in system script time boss.model boss.args row.body))) (bytes-same (script.model boss.model))
      ∙ ap (λ (own : Option Leaf). at (to_boss path) own) (stood-again boss true stands is again)) refl)

  -- a network's own row
  net-row-again : (left many room : ℕ) (soft : Bool) (model : ModelId) (wanted args : List Value) (path : Path) (more : List Row) → ArgsAreReadAgain script model args → (soft ≡ true) ⊎ (args ≡ wanted) → many ≡ suc room →
      took_net script version (suc left) soft model wanted path (net_row script version path model args ∷ more, many) ≡ Ok (args, (more, room))
  net-row-again left many room soft model wanted args path more again free enough =
      let row = net_row script version path model args in
      goes (took version (suc left) path (row ∷ more, many)) (row, (more, room)) _ _ (took-own left path row more many room refl enough)
      (goes (at path (said_by script row model (net_in script soft model wanted row.body))) args _ _
      (ap (λ (b : Bool). at path (only_if b (net_in script soft model wanted row.body))) (bytes-same (script.model model))
      ∙ ap (λ (own : Option (List Value)). at path own) (args-again soft model wanted args again free)) refl)

  -- a network, by its parts
  net-rows-again : (model : ModelId) (wanted args : List Value) (boss : Leaf) (kids : List Kid) (plan : Plan) (left many room : ℕ) (soft : Bool) (path : Path) (more : List Row)
      → system.is_network model ≡ true → StandsLeaf system time boss → boss.boss ≡ true → boss.model ≡ model → boss.args ≡ args
      → (system.network model args).structure boss.state ≡ Ok plan → StayAs (map entry_of kids) plan.entries
      → StateIsReadAgain script boss → ArgsAreReadAgain script model args → (soft ≡ true) ⊎ (args ≡ wanted) → AllByRecursion (λ kid. IsAgain (out-Kid kid).sim) kids
      → AllByRecursion (StandsSpot system time) (flat_map spots_of_kid kids) → AllByRecursion (SpotIsReadAgain script) (flat_map spots_of_kid kids)
      → deepest (map depth_of_kid kids) ≤ left → many ≡ 2 + parts_of_kids kids + room
      → restored system script version time (suc left) soft model wanted path (net_row script version path model args ∷ boss_row script version path boss ∷ flat_map (λ kid. rows_of_kid script version kid path) kids ++ more, many)
      ≡ Ok (sim.Net (net_of model args boss kids plan.links), (more, room))
  net-rows-again model wanted args boss kids plan zero many room soft path more network stands is_boss model_is args_is structure entries again args_again free each all reads deep enough = absurd (omega (arith, deep, deepest-some (map depth_of_kid kids)))
  net-rows-again model wanted args boss kids plan (suc left) many room soft path more network stands is_boss model_is args_is structure entries again args_again free each all reads deep enough =
      let later = flat_map (λ kid. rows_of_kid script version kid path) kids ++ more in
      let row = net_row script version path model args in
      let walker = restored system script version time (suc left) in
      ap (λ (net : Bool). if net then restored_net system script version time (suc left) walker soft model wanted path (row ∷ boss_row script version path boss ∷ later, many) else restored_atomic system script version time (suc (suc left)) soft model wanted path (row ∷ boss_row script version path boss ∷ later, many)) network
      ∙ goes (took_net script version (suc (suc left)) soft model wanted path (row ∷ boss_row script version path boss ∷ later, many)) (args, (boss_row script version path boss ∷ later, suc (parts_of_kids kids + room))) _ _
      (net-row-again (suc left) many (suc (parts_of_kids kids + room)) soft model wanted args path (boss_row script version path boss ∷ later) args_again free (omega (arith, enough)))
      (goes (restored_boss system script version time (suc left) model args path (boss_row script version path boss ∷ later, suc (parts_of_kids kids + room))) (boss, (later, parts_of_kids kids + room)) _ _
      (ap (λ (own : ModelId). restored_boss system script version time (suc left) own args path (boss_row script version path boss ∷ later, suc (parts_of_kids kids + room))) (sym model_is)
      ∙ ap (λ (own : List Value). restored_boss system script version time (suc left) boss.model own path (boss_row script version path boss ∷ later, suc (parts_of_kids kids + room))) (sym args_is)
      ∙ boss-again boss left (suc (parts_of_kids kids + room)) (parts_of_kids kids + room) path later stands is_boss again refl)
      (goes (planned system model args boss path) plan _ _
      (ap (λ (found : Result Plan LeafEnd). let own : Walked Plan = elim found [ Ok plan ↦ Ok plan | Err why ↦ Err (path_text (to_boss path)) ] in own) structure)
      (goes (restored_kids system script version time walker plan.entries path (later, parts_of_kids kids + room) []) (kids, (more, room)) _ _
      (kids-again kids [] plan.entries (suc left) (parts_of_kids kids + room) room path more each entries all reads deep refl)
      refl)))

  net-again : (net : Net) → AllByRecursion (λ kid. IsAgain (out-Kid kid).sim) (out-Net net).kids → IsAgain (sim.Net net)
  net-again net each zero many room soft wanted path more stands again deep enough free = absurd (omega (arith, deep, depth-Net net))
  net-again net each (suc left) many room soft wanted path more stands again deep enough free =
      let own = subst (AllByRecursion (StandsSpot system time)) (spots-Net net ∙ spots-net net) stands in
      let reads = subst (AllByRecursion (SpotIsReadAgain script)) (spots-Net net ∙ spots-net net) again in
      let whole = out-Net net in
      ap (λ (listed : List Row). restored system script version time (suc left) soft (model_of (sim.Net net)) wanted path (listed ++ more, many)) (rows-Net script version net path)
      ∙ ap (λ (model : ModelId). restored system script version time (suc left) soft model wanted path (net_row script version path whole.model whole.args ∷ boss_row script version path whole.boss ∷ flat_map (λ kid. rows_of_kid script version kid path) whole.kids ++ more, many)) (model-Net net)
      ∙ net-rows-again whole.model wanted whole.args whole.boss whole.kids own.0.plan left many room soft path more
      own.0.network own.0.boss own.0.is_boss own.0.model own.0.args own.0.structure own.0.has.stay reads.0.0 reads.0.1
      (subst (λ (args : List Value). (soft ≡ true) ⊎ (args ≡ wanted)) (args-Net net) free)
      each own.1 reads.1 (omega (arith, deep, depth-Net net)) (omega (arith, enough, parts-Net net))
      ∙ ap (λ (links : List Link). let result : Walked (Sim × Left) = Ok (sim.Net (net_of whole.model whole.args whole.boss whole.kids links), (more, room)) in result) (sym own.0.has.links_are)
      ∙ ap (λ (n : Net). let result : Walked (Sim × Left) = Ok (sim.Net n, (more, room)) in result) (roll-out-Net net)

  each-again : (own : Sim) → IsAgain own
  each-again = each_tree IsAgain leaf-again net-again

  pub tree-again : (tree : Sim) → Stands system time tree → AllByRecursion (SpotIsReadAgain script) (spots tree) → tree_of system script version time (rows script version tree root) ≡ Ok tree
  tree-again tree stands again =
      ap (λ (top : Result Chosen LeafEnd). let own : Walked Sim = elim top [
        | Err why ↦ Err (path_text root)
        | Ok chosen ↦ restored system script version time DEEPEST false chosen.model chosen.args root (rows script version tree root, MOST_PARTS) >>= λ one. only_at_end one.0 one.1.0
      ] in own) stands.tree.top
      ∙ goes (restored system script version time DEEPEST false (model_of tree) (args_of tree) root (rows script version tree root, MOST_PARTS)) (tree, ([], MOST_PARTS - parts tree)) _ _
      (ap (λ (listed : List Row). restored system script version time DEEPEST false (model_of tree) (args_of tree) root (listed, MOST_PARTS)) (sym (append-nil (rows script version tree root)))
      ∙ each-again tree DEEPEST MOST_PARTS (MOST_PARTS - parts tree) false (args_of tree) root [] stands.tree.stands.all again stands.tree.stands.depth (omega (arith, stands.parts)) (inr refl)) refl
