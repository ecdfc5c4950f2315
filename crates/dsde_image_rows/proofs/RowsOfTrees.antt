-- The rows of a tree of a program are rows of an image.
use Rattle.std.proofs.Common.{◌≡◌, ℕ, suc, ◌+◌, ◌<◌, ◌≤◌, ◌^◌, true, false, ◌&&◌, ◌||◌, Bool, List, [], ◌∷◌, ◌++◌, length, map, None, refl, sym, ap, subst, ◌∙◌, arith, codes}
use Rattle.std.specs.List.{AllByRecursion, flat_map, list_all}
use Rattle.std.proofs.lemmas.List.{length-append}
use Rattle.dsde_words.specs.Words.{is_word}
use Rattle.dsde_syntax.specs.declared.decl.Model.{Model}
use Rattle.dsde_values.specs.declared.name.Name.{Name}
use Rattle.dsde_values.specs.declared.path.Path.{Path}
use Rattle.dsde_values.specs.declared.when.When.{When}
use Rattle.dsde_values.specs.declared.when.When.TheVariants.{At, Never}
use Rattle.dsde_values.specs.Path.{EXEC, IsPath, are_below, is_component, is_index, is_path, is_plain, root}
use Rattle.dsde_language.specs.Right.{IsRight}
use Rattle.dsde_language.specs.declared.ids.ModelId.{ModelId}
use Rattle.dsde_sim_movers.specs.given.formalism.leaf_Leaf.{Leaf}
use Rattle.dsde_sim_movers.specs.given.structure.plan_Entry.{Entry}
use Rattle.dsde_sound_structures.specs.given.system.Program.{system}
use Rattle.dsde_sound_structures.specs.given.system.Fitting.{FitsLeaf, FitsState, IsInTime}
use Rattle.dsde_sim_movers.specs.given.sim_tree.Told.{below, to_boss}
use Rattle.dsde_sim_movers.specs.given.sim_tree.sim_Kid.{Kid}
use Rattle.dsde_sim_movers.specs.given.sim_tree.sim_Net.{Net}
use Rattle.dsde_sim_movers.specs.given.sim_tree.sim_Sim.{Sim}
use Rattle.dsde_sim_movers.specs.given.sim_tree.sim_Sim_TheVariants as sim
use Rattle.dsde_sim_movers.specs.given.sim_tree.sim_Sim_TheViews.{out-Kid, out-Net}
use Rattle.dsde_sim_movers.specs.given.sim_tree.Opened.{shape_in, spots-Leaf, spots-Net, spots-net, spots-kid}
use Rattle.dsde_sim_movers.specs.given.sim_tree.Spots.{Shape, spots, spots_of_kid}
use Rattle.dsde_sim_movers.specs.given.sim_tree.Tree.{entry_of}
use Rattle.dsde_sim_movers.specs.given.sim_tree.lemmas_Trees.{each_tree}
use Rattle.dsde_sim_starting.specs.Fitting.{FitsShape, FitsSpot, FitsTree}
use Rattle.dsde_sim_movers.specs.Stands.{StandsShape, StandsSpot, StandsTree, StayAs, deepest, depth, depth_of_kid}
use Rattle.dsde_sim_movers.specs.lemmas.Opened.{depth-Leaf, depth-Net, depth-kid}
use Rattle.dsde_image.specs.Image as image
use Rattle.dsde_image.specs.Image.{IsLocation, IsRow, IsStanding, location_of}
use Rattle.dsde_image.specs.declared.image.Row.{Row}
use Rattle.dsde_image.specs.declared.image.Version.{Version}
use Rattle.dsde_image.specs.declared.image.Version.TheVariants.{One, Two}
use Rattle.dsde_image_rows.specs.Rows.{Script, rows, rows_of_kid, atomic_row, boss_row, standing_of}
use Rattle.dsde_image_rows.specs.Script.{script, ComponentsAreCalled}
use Rattle.dsde_image_rows.specs.Named.{AreAllowed, NamesAreAllowed}
use Rattle.dsde_image_rows.proofs.Opens.{rows-Leaf, rows-Net, rows-kid}
use Rattle.dsde_image_rows.proofs.Written.{all-append, all-parts}

-- ---- paths of a model

-- A path that other parts may stand behind: `root`, and components' names.
record IsOpen (path : Path) : Type 0 where
  first : Name
  others : List Name
  are : path.names ≡ first ∷ others
  plain : is_plain (codes "root") first ≡ true
  components : list_all is_component others ≡ true

both : (a b : Bool) → (a && b) ≡ true → (a ≡ true) × (b ≡ true)
both true b is = (refl, is)
both false b is = absurd (cc is)

and-true : (a b : Bool) → a ≡ true → b ≡ true → (a && b) ≡ true
and-true true b one other = other
and-true false b one other = absurd (cc one)

or-first : (a b : Bool) → a ≡ true → (a || b) ≡ true
or-first true b is = refl
or-first false b is = absurd (cc is)

below-all : (names : List Name) → list_all is_component names ≡ true → are_below names ≡ true
below-all [] all = refl
below-all (name ∷ []) all = or-first (is_component name) _ (both (is_component name) true all).0
below-all (name ∷ second ∷ names) all =
    let parts = both (is_component name) (list_all is_component (second ∷ names)) all in
    and-true (is_component name) (are_below (second ∷ names)) parts.0 (below-all (second ∷ names) parts.1)

-- an executive behind components
below-boss : (names : List Name) → list_all is_component names ≡ true → are_below (names ++ EXEC ∷ []) ≡ true
below-boss [] all = refl
below-boss (name ∷ []) all = and-true (is_component name) (are_below (EXEC ∷ [])) (both (is_component name) true all).0 refl
below-boss (name ∷ second ∷ names) all =
    let parts = both (is_component name) (list_all is_component (second ∷ names)) all in
    and-true (is_component name) (are_below ((second ∷ names) ++ EXEC ∷ [])) parts.0 (below-boss (second ∷ names) parts.1)

components-snoc : (names : List Name) (name : Name) → list_all is_component names ≡ true → is_component name ≡ true → list_all is_component (names ++ name ∷ []) ≡ true
components-snoc [] name all is = and-true (is_component name) true is refl
components-snoc (first ∷ names) name all is =
    let parts = both (is_component first) (list_all is_component names) all in
    and-true (is_component first) (list_all is_component (names ++ name ∷ [])) parts.0 (components-snoc names name parts.1 is)

open-path : (path : Path) → IsOpen path → IsPath path
open-path path own = subst (λ (names : List Name). is_path names ≡ true) (sym own.are) (and-true (is_plain (codes "root") own.first) (are_below own.others) own.plain (below-all own.others own.components))

open-boss : (path : Path) → IsOpen path → IsPath (to_boss path)
open-boss path own =
    subst (λ (names : List Name). is_path (names ++ EXEC ∷ []) ≡ true) (sym own.are)
    (and-true (is_plain (codes "root") own.first) (are_below (own.others ++ EXEC ∷ [])) own.plain (below-boss own.others own.components))

open-below : (path : Path) (name : Name) → IsOpen path → is_component name ≡ true → IsOpen (below path name)
open-below path name own is = record {
  first = own.first;
  others = own.others ++ name ∷ [];
  are = ap (λ (names : List Name). names ++ name ∷ []) own.are;
  plain = own.plain;
  components = components-snoc own.others name own.components is;
}

open-root : IsOpen root
open-root = record { first = record { stem = codes "root"; index = None }; others = []; are = refl; plain = refl; components = refl }

longer : (path : Path) (name : Name) → length (below path name).names ≡ suc (length path.names)
longer path name = let sum = length-append path.names (name ∷ []) in omega (arith, sum)

-- a word that is no word of the language, with such an index, is a component's name
abbrev AreNamed : List Entry → Type 0
AreNamed = AllByRecursion (λ entry. is_component entry.name ≡ true)

all-named : (entries : List Entry) → AllByRecursion (λ entry. is_word entry.name.stem ≡ true) entries → AreAllowed entries → AreNamed entries
all-named [] words allowed = tt
all-named (entry ∷ entries) words allowed = (
  and-true (is_word entry.name.stem && is_index entry.name.index) _ (and-true (is_word entry.name.stem) (is_index entry.name.index) words.0 allowed.0.index) allowed.0.free,
  all-named entries words.1 allowed.1,
)

-- ---- rows

location-is : (version : Version) (path : Path) → IsPath path → length path.names < 2 ^ 32 → IsLocation version (location_of version path)
location-is One path is short = record { path = path; is = is; spelled = refl }
location-is Two path is short = (record { path = path; is = is; spelled = refl }, short)

in-time : (next : When) → IsInTime next → image.IsInTime next
in-time (At time) is = is
in-time Never is = tt

standing-is : (own : Script) (model : Model) (leaf : Leaf) → FitsLeaf model leaf → IsStanding (standing_of own leaf)
standing-is own model leaf fits = record { last = fits.last; next = in-time leaf.next fits.next }

deepest-some : (depths : List ℕ) → 1 ≤ deepest depths
deepest-some [] = omega arith
deepest-some (depth ∷ depths) = omega (arith, deepest-some depths)

module _ (called : ComponentsAreCalled) (allowed : NamesAreAllowed) (model : Model) (right : IsRight model) (version : Version) (time : ℕ) where
  abbrev own_script : Script
  own_script = script model

  abbrev AreRows : List Row → Type 0
  AreRows = AllByRecursion (IsRow version)

  atomic-is : (path : Path) (leaf : Leaf) → IsPath path → length path.names < 2 ^ 32 → FitsLeaf model leaf → IsRow version (atomic_row own_script version path leaf)
  atomic-is path leaf is short fits = record { location = location-is version path is short; body = standing-is own_script model leaf fits }

  boss-is : (path : Path) (leaf : Leaf) → IsOpen path → length path.names + 1 < 2 ^ 32 → FitsLeaf model leaf → IsRow version (boss_row own_script version path leaf)
  boss-is path leaf own short fits = record {
    location = location-is version (to_boss path) (open-boss path own) (let size = longer path EXEC in omega (arith, size, short));
    body = standing-is own_script model leaf fits;
  }

  -- Below an open path, where no more names stand than there may, the rows of a tree are rows of an image.
  abbrev HasRows : Sim → Type 0
  HasRows own =
      (path : Path) → IsOpen path → length path.names + depth own ≤ 65 → AllByRecursion (FitsSpot model) (spots own) → AllByRecursion (StandsSpot (system model) time) (spots own)
      → AreRows (rows own_script version own path)

  leaf-has : (leaf : Leaf) → HasRows (sim.Leaf leaf)
  leaf-has leaf path own short fits stands =
      let spot = subst (AllByRecursion (FitsSpot model)) (spots-Leaf leaf) fits in
      subst AreRows (sym (rows-Leaf own_script version leaf path)) (atomic-is path leaf (open-path path own) (let one = depth-Leaf leaf in omega (arith, short, one)) spot.0.fits, tt)

  kids-have : (kids : List Kid) (entries : List Entry) (path : Path)
      → AllByRecursion (λ kid. HasRows (out-Kid kid).sim) kids → StayAs (map entry_of kids) entries → AreNamed entries → IsOpen path
      → length path.names + suc (deepest (map depth_of_kid kids)) ≤ 65
      → AllByRecursion (FitsSpot model) (flat_map spots_of_kid kids) → AllByRecursion (StandsSpot (system model) time) (flat_map spots_of_kid kids)
      → AreRows (flat_map (λ kid. rows_of_kid own_script version kid path) kids)
  kids-have [] entries path each stay names own short fits stands = tt
  kids-have (kid ∷ kids) [] path each stay names own short fits stands = absurd stay
  kids-have (kid ∷ kids) (entry ∷ entries) path each stay names own short fits stands =
      let first = all-parts (FitsSpot model) (spots_of_kid kid) (flat_map spots_of_kid kids) fits in
      let now = all-parts (StandsSpot (system model) time) (spots_of_kid kid) (flat_map spots_of_kid kids) stands in
      let name = (out-Kid kid).name in
      let is : is_component name ≡ true = subst (λ (n : Name). is_component n ≡ true) (sym stay.0.0) names.0 in
      let size = longer path name in
      let deep = depth-kid kid in
      let within : length (below path name).names + depth (out-Kid kid).sim ≤ 65 = omega (arith, short, size, deep) in
      let later : length path.names + suc (deepest (map depth_of_kid kids)) ≤ 65 = omega (arith, short) in
      all-append (IsRow version) (rows_of_kid own_script version kid path) (flat_map (λ kid. rows_of_kid own_script version kid path) kids)
      (subst AreRows (sym (rows-kid own_script version kid path)) (each.0 (below path name) (open-below path name own is) within
      (subst (AllByRecursion (FitsSpot model)) (spots-kid kid) first.0) (subst (AllByRecursion (StandsSpot (system model) time)) (spots-kid kid) now.0)))
      (kids-have kids entries path each.1 stay.1 names.1 own later first.1 now.1)

  -- the components of a network have names that components may have
  names-are : (shape : Shape) → FitsShape model shape → (stands : StandsShape (system model) time shape) → AreNamed stands.plan.entries
  names-are shape fits stands =
      let boss = fits.boss in
      let stood : FitsState model shape.model.0 shape.boss.state =
      subst (λ (number : ModelId). FitsState model number.0 shape.boss.state) stands.model (record { own = boss.own; found = boss.found; fill = boss.state }) in
      all-named stands.plan.entries (called model right shape.model shape.args shape.boss.state stands.plan stands.structure)
      (allowed model shape.model shape.args shape.boss.state stands.plan right stands.network fits.args stood stands.structure)

  net-has : (net : Net) → AllByRecursion (λ kid. HasRows (out-Kid kid).sim) (out-Net net).kids → HasRows (sim.Net net)
  net-has net each path own short fits stands =
      let spot = subst (AllByRecursion (FitsSpot model)) (spots-Net net ∙ spots-net net) fits in
      let now = subst (AllByRecursion (StandsSpot (system model) time)) (spots-Net net ∙ spots-net net) stands in
      let whole = out-Net net in
      let deep = depth-Net net in
      let some = deepest-some (map depth_of_kid whole.kids) in
      subst AreRows (sym (rows-Net own_script version net path)) (
        record { location = location-is version path (open-path path own) (omega (arith, short, deep, some)); body = tt },
        (
          boss-is path whole.boss own (omega (arith, short, deep, some)) spot.0.boss,
          kids-have whole.kids now.0.plan.entries path each now.0.has.stay (names-are (shape_in net) spot.0 now.0) own (omega (arith, short, deep)) spot.1 now.1,
        ),
      )

  pub tree-has : (tree : Sim) → FitsTree model tree → StandsTree (system model) time tree → AreRows (rows own_script version tree root)
  tree-has tree fits stands = each_tree HasRows leaf-has net-has tree root open-root (let deep = stands.stands.depth in omega (arith, deep)) fits.all stands.stands.all
