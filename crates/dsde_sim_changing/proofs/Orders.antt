-- Components and entries in the order of their names: who cannot survive as what.
use Rattle.std.proofs.Common.{◌≡◌, ◌==◌, Bool, true, false, ◌&&◌, ◌||◌, List, [], ◌∷◌, map, refl, sym, ◌∙◌, ap, rules}
use Rattle.std.specs.declared.cmp.Ordering.TheVariants.{Less, Equal, Greater}
use Rattle.std.specs.Cmp.{IsTotalOrder, Equal-is}
use Rattle.std.specs.Cmp.Rules.{comparing}
use Rattle.std.specs.Ordering.{ordering_reverse}
use Rattle.std.specs.List.{list_any, AllByRecursion}
use Rattle.dsde_values.specs.declared.name.Name.{Name}
use Rattle.dsde_values.specs.Path.{name_cmp}
use Rattle.dsde_sim_tree.specs.given.values_equality.Same.{are_same_values}
use Rattle.dsde_sim_tree.specs.given.structure.plan_Entry.{Entry}
use Rattle.dsde_sim_tree.specs.given.structure.Gather.{is_same_name}
use Rattle.dsde_sim_tree.specs.given.structure.Survival.{names, survives as stays}
use Rattle.dsde_sim_tree.specs.declared.sim.Kid.{Kid}
use Rattle.dsde_sim_tree.specs.Tree.{entry_of, name_of}
use Rattle.dsde_sim_tree.specs.Move.{gone, kept}

pub total : IsTotalOrder name_cmp
total = search (comparing, rules)

-- whether a component survives as an entry
abbrev pub S : Kid → Entry → Bool
S kid entry = stays (entry_of kid) entry

and_first : (x y : Bool) → (x && y) ≡ true → x ≡ true
and_first true y h = refl
and_first false y h = h

pub same-name : (kid : Kid) (entry : Entry) → S kid entry ≡ true → is_same_name (name_of kid) entry.name ≡ true
same-name kid entry h =
    let old : Entry = entry_of kid in
    and_first (is_same_name old.name entry.name) (old.model.0 == entry.model.0)
    (and_first (is_same_name old.name entry.name && old.model.0 == entry.model.0) (entry.soft || are_same_values old.args entry.args) h)

pub ties : (kid : Kid) (entry : Entry) → S kid entry ≡ true → name_cmp (name_of kid) entry.name ≡ Equal
ties kid entry h = (Equal-is (name_cmp (name_of kid) entry.name)).0 (same-name kid entry h)

pub fails : (b : Bool) → (b ≡ true → ⊥) → b ≡ false
fails true never = absurd (never refl)
fails false never = refl

-- a name before others
abbrev pub IsBefore : Name → List Name → Type 0
IsBefore name others = AllByRecursion (λ other. name_cmp name other ≡ Less) others

pub before-less : (first name : Name) (others : List Name) → name_cmp first name ≡ Less → IsBefore name others → IsBefore first others
before-less first name [] less before = before
before-less first name (other ∷ others) less before = (total.trans first name other less before.0, before-less first name others less before.1)

pub before-tied : (first name : Name) (others : List Name) → name_cmp first name ≡ Equal → IsBefore name others → IsBefore first others
before-tied first name [] tied before = before
before-tied first name (other ∷ others) tied before = (total.congr first name other tied ∙ before.0, before-tied first name others tied before.1)

pub tied-back : (name other : Name) → name_cmp name other ≡ Equal → name_cmp other name ≡ Equal
tied-back name other tied = total.antisymm other name ∙ ap ordering_reverse tied

pub greater-back : (name other : Name) → name_cmp name other ≡ Greater → name_cmp other name ≡ Less
greater-back name other greater = total.antisymm other name ∙ ap ordering_reverse greater

pub less-back : (name other : Name) → name_cmp name other ≡ Less → name_cmp other name ≡ Greater
less-back name other less = total.antisymm other name ∙ ap ordering_reverse less

-- a component before an entry, and one behind it, does not survive as it
apart : (kid : Kid) (entry : Entry) → name_cmp (name_of kid) entry.name ≡ Less → S kid entry ≡ false
apart kid entry less = fails (S kid entry) (λ h. let e : name_cmp (name_of kid) entry.name ≡ Equal = ties kid entry h in let f : Less ≡ Equal = sym less ∙ e in cc)

pub apart-back : (kid : Kid) (entry : Entry) → name_cmp entry.name (name_of kid) ≡ Less → S kid entry ≡ false
apart-back kid entry less = fails (S kid entry) (λ h.
    let e : name_cmp (name_of kid) entry.name ≡ Equal = ties kid entry h in
    let f : Greater ≡ Equal = sym (less-back entry.name (name_of kid) less) ∙ e in cc)

-- a component before all entries does not survive
pub none-after : (kid : Kid) (entries : List Entry) → IsBefore (name_of kid) (names entries) → list_any (S kid) entries ≡ false
none-after kid [] before = refl
none-after kid (entry ∷ entries) before = rw (apart kid entry before.0, none-after kid entries before.1) refl

-- an entry before all components changes nothing
pub kept-later : (entry : Entry) (entries : List Entry) (kids : List Kid) → IsBefore entry.name (map name_of kids) → kept (entry ∷ entries) kids ≡ kept entries kids
kept-later entry entries [] before = refl
kept-later entry entries (kid ∷ kids) before = rw (apart-back kid entry before.0, kept-later entry entries kids before.1) refl

pub gone-later : (entry : Entry) (entries : List Entry) (kids : List Kid) → IsBefore entry.name (map name_of kids) → gone (entry ∷ entries) kids ≡ gone entries kids
gone-later entry entries [] before = refl
gone-later entry entries (kid ∷ kids) before = rw (apart-back kid entry before.0, gone-later entry entries kids before.1) refl
