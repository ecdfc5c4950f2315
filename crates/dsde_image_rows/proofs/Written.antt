-- The texts of the rows of a tree of a program are UTF-8.
use Rattle.std.proofs.Common.{◌≡◌, ℕ, true, List, [], ◌∷◌, ◌++◌, map, Option, Some, None, refl, sym, subst, ◌∙◌}
use Rattle.std.specs.Prelude.{IsUtf8, codes, decimal}
use Rattle.std.specs.List.{AllByRecursion, flat_map}
use Rattle.std.specs.Str.{IsAscii}
use Rattle.std.proofs.lemmas.Str.{IsUtf8-from_ascii, IsAscii-append}
use Rattle.dsde_syntax.specs.declared.decl.Model.{Model}
use Rattle.dsde_words.specs.Words.{is_word}
use Rattle.dsde_values.specs.declared.name.Name.{Name}
use Rattle.dsde_values.specs.declared.path.Path.{Path}
use Rattle.dsde_values.specs.declared.types.Field.{Field}
use Rattle.dsde_values.specs.declared.value.Value.{Value}
use Rattle.dsde_values.specs.Path.{EXEC, name_text, index_text, root}
use Rattle.dsde_language.specs.Right.{IsRight}
use Rattle.dsde_language.specs.DeclaredModels.{types_of, param_slots, state_slots}
use Rattle.dsde_language.specs.declared.ids.ModelId.{ModelId}
use Rattle.dsde_sim_movers.specs.given.formalism.leaf_Leaf.{Leaf}
use Rattle.dsde_sim_movers.specs.given.structure.plan_Entry.{Entry}
use Rattle.dsde_sound_structures.specs.given.system.Program.{system}
use Rattle.dsde_sound_structures.specs.given.system.Fitting.{Fill, FitsLeaf}
use Rattle.dsde_sim_movers.specs.given.sim_tree.Told.{below}
use Rattle.dsde_sim_movers.specs.given.sim_tree.sim_Kid.{Kid}
use Rattle.dsde_sim_movers.specs.given.sim_tree.sim_Net.{Net}
use Rattle.dsde_sim_movers.specs.given.sim_tree.sim_Sim.{Sim}
use Rattle.dsde_sim_movers.specs.given.sim_tree.sim_Sim_TheVariants as sim
use Rattle.dsde_sim_movers.specs.given.sim_tree.sim_Sim_TheViews.{out-Kid, out-Net}
use Rattle.dsde_sim_movers.specs.given.sim_tree.Opened.{spots-Leaf, spots-Net, spots-net, spots-kid}
use Rattle.dsde_sim_movers.specs.given.sim_tree.Spots.{spots, spots_of_kid}
use Rattle.dsde_sim_movers.specs.given.sim_tree.Tree.{entry_of}
use Rattle.dsde_sim_movers.specs.given.sim_tree.lemmas_Trees.{each_tree}
use Rattle.dsde_sim_starting.specs.Fitting.{FitsSpot, FitsTree}
use Rattle.dsde_sim_movers.specs.Stands.{StandsSpot, StandsTree, StayAs}
use Rattle.dsde_image.specs.Image.{last_text}
use Rattle.dsde_image.specs.Written.{AreUtf8, IsWrittenRow}
use Rattle.dsde_image.specs.declared.image.Row.{Row}
use Rattle.dsde_image.specs.declared.image.Version.TheVariants.{Two}
use Rattle.dsde_image_rows.specs.Rows.{texts, rows, rows_of_kid, atomic_row, boss_row}
use Rattle.dsde_image_rows.specs.Script.{script, ComponentsAreCalled, NamesAreAscii, TextsAreAscii}
use Rattle.dsde_image_rows.proofs.Ascii.{decimal-ascii, word-ascii, by-test}
use Rattle.dsde_image_rows.proofs.Opens.{rows-Leaf, rows-Net, rows-kid}

index-ascii : (index : Option ℕ) → IsAscii (index_text index)
index-ascii None = by-test [] refl
index-ascii (Some index) = IsAscii-append (91 ∷ decimal index) (93 ∷ []) (IsAscii-append (91 ∷ []) (decimal index) (by-test (91 ∷ []) refl) (decimal-ascii index)) (by-test (93 ∷ []) refl)

name-utf8 : (name : Name) → is_word name.stem ≡ true → IsUtf8 (name_text name)
name-utf8 name is = IsUtf8-from_ascii (name_text name) (IsAscii-append name.stem (index_text name.index) (word-ascii name.stem is) (index-ascii name.index))

last-behind : (front : List Name) (name : Name) → last_text (front ++ name ∷ []) ≡ name_text name
last-behind [] name = refl
last-behind (first ∷ []) name = refl
last-behind (first ∷ second ∷ front) name = last-behind (second ∷ front) name

-- the last name of a path is written so
record EndsWell (path : Path) : Type 0 where
  last : IsUtf8 (last_text path.names)

below-well : (path : Path) (name : Name) → is_word name.stem ≡ true → EndsWell (below path name)
below-well path name is = record { last = subst IsUtf8 (sym (last-behind path.names name)) (name-utf8 name is) }

all-utf8 : (texts : List (List ℕ)) → AllByRecursion IsAscii texts → AreUtf8 texts
all-utf8 [] all = tt
all-utf8 (text ∷ texts) all = (IsUtf8-from_ascii text all.0, all-utf8 texts all.1)

pub all-append : {A : Type 0} (P : A → Type 0) (xs ys : List A) → AllByRecursion P xs → AllByRecursion P ys → AllByRecursion P (xs ++ ys)
all-append P [] ys first second = second
all-append P (x ∷ xs) ys first second = (first.0, all-append P xs ys first.1 second)

pub all-parts : {A : Type 0} (P : A → Type 0) (xs ys : List A) → AllByRecursion P (xs ++ ys) → AllByRecursion P xs × AllByRecursion P ys
all-parts P [] ys all = (tt, all)
all-parts P (x ∷ xs) ys all = let rest = all-parts P xs ys all.1 in ((all.0, rest.0), rest.1)

module _ (called : ComponentsAreCalled) (names : NamesAreAscii) (values : TextsAreAscii) (model : Model) (right : IsRight model) (time : ℕ) where
  model-utf8 : (number : ModelId) → IsUtf8 ((script model).model number)
  model-utf8 number = IsUtf8-from_ascii ((script model).model number) (names model right number)

  texts-utf8 : (fields : List Field) (own : List Value) → Fill (types_of model) fields own → AreUtf8 (texts (script model) own)
  texts-utf8 fields own fill = all-utf8 (texts (script model) own) (values model right fields own fill)

  atomic-written : (path : Path) (leaf : Leaf) → EndsWell path → FitsLeaf model leaf → IsWrittenRow (atomic_row (script model) Two path leaf)
  atomic-written path leaf well fits = record {
    location = well.last;
    model = model-utf8 leaf.model;
    body = (texts-utf8 (param_slots model fits.own) leaf.args fits.args, texts-utf8 (state_slots model fits.own) leaf.state fits.state);
  }

  boss-written : (path : Path) (leaf : Leaf) → FitsLeaf model leaf → IsWrittenRow (boss_row (script model) Two path leaf)
  boss-written path leaf fits = record {
    location = (below-well path EXEC refl).last;
    model = model-utf8 leaf.model;
    body = texts-utf8 (state_slots model fits.own) leaf.state fits.state;
  }

  abbrev AreWritten : List Row → Type 0
  AreWritten = AllByRecursion IsWrittenRow

  abbrev IsPlain : Sim → Type 0
  IsPlain own =
      (path : Path) → EndsWell path → AllByRecursion (FitsSpot model) (spots own) → AllByRecursion (StandsSpot (system model) time) (spots own)
      → AreWritten (rows (script model) Two own path)

  leaf-plain : (leaf : Leaf) → IsPlain (sim.Leaf leaf)
  leaf-plain leaf path well fits stands =
      let own = subst (AllByRecursion (FitsSpot model)) (spots-Leaf leaf) fits in
      subst AreWritten (sym (rows-Leaf (script model) Two leaf path)) (atomic-written path leaf well own.0.fits, tt)

  abbrev IsCalled : Entry → Type 0
  IsCalled entry = is_word entry.name.stem ≡ true

  kids-plain : (kids : List Kid) (entries : List Entry) (path : Path)
      → AllByRecursion (λ kid. IsPlain (out-Kid kid).sim) kids → StayAs (map entry_of kids) entries → AllByRecursion IsCalled entries
      → AllByRecursion (FitsSpot model) (flat_map spots_of_kid kids) → AllByRecursion (StandsSpot (system model) time) (flat_map spots_of_kid kids)
      → AreWritten (flat_map (λ kid. rows_of_kid (script model) Two kid path) kids)
  kids-plain [] entries path each stay words fits stands = tt
  kids-plain (kid ∷ kids) [] path each stay words fits stands = absurd stay
  kids-plain (kid ∷ kids) (entry ∷ entries) path each stay words fits stands =
      let own = all-parts (FitsSpot model) (spots_of_kid kid) (flat_map spots_of_kid kids) fits in
      let now = all-parts (StandsSpot (system model) time) (spots_of_kid kid) (flat_map spots_of_kid kids) stands in
      let name = (out-Kid kid).name in
      let word : is_word name.stem ≡ true = subst (λ (n : Name). is_word n.stem ≡ true) (sym stay.0.0) words.0 in
      all-append IsWrittenRow (rows_of_kid (script model) Two kid path) (flat_map (λ kid. rows_of_kid (script model) Two kid path) kids)
      (subst AreWritten (sym (rows-kid (script model) Two kid path)) (each.0 (below path name) (below-well path name word)
      (subst (AllByRecursion (FitsSpot model)) (spots-kid kid) own.0) (subst (AllByRecursion (StandsSpot (system model) time)) (spots-kid kid) now.0)))
      (kids-plain kids entries path each.1 stay.1 words.1 own.1 now.1)

  net-plain : (net : Net) → AllByRecursion (λ kid. IsPlain (out-Kid kid).sim) (out-Net net).kids → IsPlain (sim.Net net)
  net-plain net each path well fits stands =
      let own = subst (AllByRecursion (FitsSpot model)) (spots-Net net ∙ spots-net net) fits in
      let now = subst (AllByRecursion (StandsSpot (system model) time)) (spots-Net net ∙ spots-net net) stands in
      let whole = out-Net net in
      subst AreWritten (sym (rows-Net (script model) Two net path)) (
        record { location = well.last; model = model-utf8 whole.model; body = texts-utf8 (param_slots model own.0.args.own) whole.args own.0.args.fill },
        (
          boss-written path whole.boss own.0.boss,
          kids-plain whole.kids now.0.plan.entries path each now.0.has.stay (called model right whole.model whole.args whole.boss.state now.0.plan now.0.structure) own.1 now.1,
        ),
      )

  pub tree-written : (tree : Sim) → FitsTree model tree → StandsTree (system model) time tree → AreWritten (rows (script model) Two tree root)
  tree-written tree fits stands = each_tree IsPlain leaf-plain net-plain tree root (record { last = name-utf8 (record { stem = codes "root"; index = None }) refl }) fits.all stands.stands.all
