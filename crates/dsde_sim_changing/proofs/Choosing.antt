-- Which survivor an entry has, where components and entries are in the order of their names.
use Rattle.std.proofs.Common.{◌≡◌, Bool, true, false, ◌||◌, List, [], ◌∷◌, ◌++◌, map, refl, sym, ◌∙◌, ap, subst, Option, Some, None}
use Rattle.std.specs.Prelude.{is_some, IfSome}
use Rattle.std.specs.Option.{option_to_list}
use Rattle.std.specs.declared.cmp.Ordering.TheVariants.{Less, Equal, Greater}
use Rattle.std.specs.Cmp.{Equal-is}
use Rattle.std.specs.List.{list_any, AllByRecursion}
use Rattle.std.proofs.lemmas.Map.Keys.{sorted_head, sorted_tail}
use Rattle.dsde_sim_tree.specs.Tree.{name_of}
use Rattle.dsde_values.specs.declared.name.Name.{Name}
use Rattle.dsde_values.specs.Path.{name_cmp}
use Rattle.dsde_sim_tree.specs.given.structure.plan_Entry.{Entry}
use Rattle.dsde_sim_tree.specs.given.structure.Gather.{is_same_name}
use Rattle.dsde_sim_tree.specs.given.structure.Survival.{AreInOrder, IsInOrder, names}
use Rattle.dsde_sim_tree.specs.declared.sim.Kid.{Kid}
use Rattle.dsde_sim_tree.specs.Move.{survives, take_named}
use Rattle.dsde_sim_changing.specs.Survivors.{is_next}
use Rattle.dsde_sim_changing.proofs.Orders.{S, total, same-name, ties, fails, IsBefore, before-less, before-tied, tied-back, greater-back, less-back, apart-back}
use Rattle.dsde_sim_changing.proofs.Walking.{only-first}

-- each of these components survives a change to these entries
abbrev pub AllSurvive : List Entry → List Kid → Type 0
AllSurvive entries kids = AllByRecursion (λ kid. survives entries kid ≡ true) kids

-- the survivor that was taken out, and the others
abbrev pub taken : Option Kid → List Kid → Option (Kid × List Kid)
taken (Some kid) others = Some (kid, others)
taken None others = None

not-named : (name other : Name) → name_cmp other name ≡ Less → is_same_name name other ≡ false
not-named name other less = fails (is_same_name name other) (λ h.
    let e : name_cmp name other ≡ Equal = (Equal-is (name_cmp name other)).0 h in
    let f : Greater ≡ Equal = sym (less-back other name less) ∙ e in cc)

-- no component has a name that comes before those of all
none-named : (name : Name) (kids : List Kid) → IsBefore name (map name_of kids) → take_named name kids ≡ None
none-named name [] before = refl
none-named name (kid ∷ kids) before = rw (not-named (name_of kid) name before.0, none-named name kids before.1) refl

-- components behind an entry survive without it
survive-later : (own : Entry) (entries : List Entry) (kids : List Kid) → IsBefore own.name (map name_of kids) → AllSurvive (own ∷ entries) kids → AllSurvive entries kids
survive-later own entries [] before each = tt
survive-later own entries (kid ∷ kids) before each =
    (sym (ap (λ b. b || list_any (S kid) entries) (apart-back kid own before.0)) ∙ each.0, survive-later own entries kids before.1 each.1)

behind-case : (kid : Kid) (name : Name) (entry : Entry) (entries : List Entry) (b : Bool) → S kid entry ≡ b → name_cmp name entry.name ≡ Less →
    (list_any (S kid) entries ≡ true → name_cmp name (name_of kid) ≡ Less) → (b || list_any (S kid) entries) ≡ true → name_cmp name (name_of kid) ≡ Less
behind-case kid name entry entries true is less later lives =
    greater-back (name_of kid) name (total.congr (name_of kid) entry.name name (ties kid entry is) ∙ less-back name entry.name less)
behind-case kid name entry entries false is less later lives = later lives

-- a component that survives as one of some entries stands behind a name before theirs
stands-behind : (kid : Kid) (name : Name) (entries : List Entry) → IsBefore name (names entries) → list_any (S kid) entries ≡ true → name_cmp name (name_of kid) ≡ Less
stands-behind kid name [] before lives = absurd (let e : false ≡ true = lives in cc)
stands-behind kid name (entry ∷ entries) before lives =
    behind-case kid name entry entries (S kid entry) refl before.0 (stands-behind kid name entries before.1) lives

-- The component of an entry's name, where the first one has it, is its survivor; else it has none.
pub record Chosen (own : Entry) (entries : List Entry) (items : List Kid) (survivor : Option Kid) (others : List Kid) : Type 0 where
  pub found : take_named own.name items ≡ taken survivor others
  pub is : IfSome survivor (λ kid. S kid own ≡ true)
  pub names : AreInOrder (map name_of others)
  pub survive : AllSurvive entries others

chosen-some : (own : Entry) (entries : List Entry) (kid : Kid) (others : List Kid) → IsInOrder (own ∷ entries) → AreInOrder (map name_of (kid ∷ others)) → AllSurvive (own ∷ entries) (kid ∷ others) →
    is_same_name (name_of kid) own.name ≡ true → Chosen own entries (kid ∷ others) (Some kid) others
chosen-some own entries kid others order sorted survive same =
    let tied : name_cmp (name_of kid) own.name ≡ Equal = (Equal-is (name_cmp (name_of kid) own.name)).0 same in
    let alone : list_any (S kid) (own ∷ entries) ≡ S kid own =
    only-first kid own entries (before-tied (name_of kid) own.name (names entries) tied (sorted_head name_cmp own.name (names entries) order)) in
    let before : IsBefore own.name (map name_of others) =
    before-tied own.name (name_of kid) (map name_of others) (tied-back (name_of kid) own.name tied) (sorted_head name_cmp (name_of kid) (map name_of others) sorted) in
    record {
      found = rw same refl;
      is = sym alone ∙ survive.0;
      names = sorted_tail name_cmp (name_of kid) (map name_of others) sorted;
      survive = survive-later own entries others before survive.1;
    }

chosen-none : (own : Entry) (entries : List Entry) (items : List Kid) → IsInOrder (own ∷ entries) → AreInOrder (map name_of items) → AllSurvive (own ∷ entries) items →
    is_next own.name items ≡ false → Chosen own entries items None items
chosen-none own entries [] order sorted survive other = record { found = refl; is = tt; names = sorted; survive = tt }
chosen-none own entries (kid ∷ kids) order sorted survive other =
    let unlike : S kid own ≡ false = fails (S kid own) (λ h.
    let e : is_same_name (name_of kid) own.name ≡ true = same-name kid own h in let f : true ≡ false = sym e ∙ other in cc) in
    let lives : list_any (S kid) entries ≡ true = sym (ap (λ b. b || list_any (S kid) entries) unlike) ∙ survive.0 in
    let less : name_cmp own.name (name_of kid) ≡ Less = stands-behind kid own.name entries (sorted_head name_cmp own.name (names entries) order) lives in
    let before : IsBefore own.name (map name_of (kid ∷ kids)) =
    (less, before-less own.name (name_of kid) (map name_of kids) less (sorted_head name_cmp (name_of kid) (map name_of kids) sorted)) in
    record {
      found = none-named own.name (kid ∷ kids) before;
      is = tt;
      names = sorted;
      survive = survive-later own entries (kid ∷ kids) before survive;
    }

pub chosen : (own : Entry) (entries : List Entry) (items : List Kid) (survivor : Option Kid) (others : List Kid) → IsInOrder (own ∷ entries) → AreInOrder (map name_of items) → AllSurvive (own ∷ entries) items →
    items ≡ option_to_list survivor ++ others → is_some survivor ≡ is_next own.name items → Chosen own entries items survivor others
chosen own entries items (Some kid) others order sorted survive is named =
    let is_items : items ≡ kid ∷ others = is in
    let same : true ≡ is_next own.name (kid ∷ others) = named ∙ ap (is_next own.name) is_items in
    subst (λ (own_items : List Kid). Chosen own entries own_items (Some kid) others) (sym is_items)
    (chosen-some own entries kid others order (subst (λ (own_items : List Kid). AreInOrder (map name_of own_items)) is_items sorted) (subst (AllSurvive (own ∷ entries)) is_items survive) (sym same))
chosen own entries items None others order sorted survive is named =
    let is_others : items ≡ others = is in
    subst (λ (left : List Kid). Chosen own entries items None left) is_others (chosen-none own entries items order sorted survive (sym named))
