-- Entries that are compared with others, both in the order of their names.
use Rattle.std.proofs.Common.{◌≡◌, ◌==◌, Bool, true, false, cond, not, ◌&&◌, ◌||◌, List, [], ◌∷◌, map, filter, refl, sym, ◌∙◌, ap}
use Rattle.std.specs.Prelude.{if◌then◌else◌}
use Rattle.std.specs.declared.cmp.Ordering.{Ordering}
use Rattle.std.specs.declared.cmp.Ordering.TheVariants.{Less, Equal, Greater}
use Rattle.std.specs.Cmp.{Equal-is}
use Rattle.std.specs.Ordering.{is_lt}
use Rattle.std.specs.List.{list_any}
use Rattle.std.proofs.lemmas.Map.Keys.{sorted_head, sorted_tail}
use Rattle.dsde_values.specs.declared.name.Name.{Name}
use Rattle.dsde_values.specs.Path.{name_cmp}
use Rattle.dsde_routes_wiring.specs.given.values_equality.Same.{are_same_values}
use Rattle.dsde_routes_wiring.specs.given.structure.plan_Entry.{Entry}
use Rattle.dsde_routes_wiring.specs.given.structure.Gather.{is_same_name}
use Rattle.dsde_routes_wiring.specs.given.structure.Survival.{IsInOrder, names, survives}
use Rattle.dsde_sim_changing.specs.Heads.{from_name}
use Rattle.dsde_sim_changing.proofs.Orders.{IsBefore, before-less, before-tied, fails, greater-back, less-back, tied-back}
use Rattle.dsde_core_flat.specs.lemmas.Names.{names-total}

or-false : (b : Bool) → (b || false) ≡ b
or-false true = refl
or-false false = refl

and-first : (x y : Bool) → (x && y) ≡ true → x ≡ true
and-first true y h = refl
and-first false y h = h

-- an entry survives as one of its name alone
pub ties : (old new : Entry) → survives old new ≡ true → name_cmp old.name new.name ≡ Equal
ties old new h =
    (Equal-is (name_cmp old.name new.name)).0
    (and-first (is_same_name old.name new.name) (old.model.0 == new.model.0)
    (and-first (is_same_name old.name new.name && old.model.0 == new.model.0) (new.soft || are_same_values old.args new.args) h))

pub ties-back : (new old : Entry) → survives old new ≡ true → name_cmp new.name old.name ≡ Equal
ties-back new old h = tied-back old.name new.name (ties old new h)

order-case : (order : Ordering) (entry : Entry) (entries others : List Entry) → IsInOrder (entry ∷ entries) → IsInOrder others → IsInOrder (if is_lt order then others else (entry ∷ entries))
order-case Less entry entries others sorted later = later
order-case Equal entry entries others sorted later = sorted
order-case Greater entry entries others sorted later = sorted

-- entries from a name on are in order
pub from-order : (name : Name) (entries : List Entry) → IsInOrder entries → IsInOrder (from_name name entries)
from-order name [] sorted = sorted
from-order name (entry ∷ entries) sorted =
    order-case (name_cmp entry.name name) entry entries (from_name name entries) sorted (from-order name entries (sorted_tail name_cmp entry.name (names entries) sorted))

-- those of a list that are as none of others
abbrev pub unlike : (Entry → Entry → Bool) → List Entry → List Entry → List Entry
unlike R others list = filter (λ one. not (list_any (R one) others)) list

-- whether one is as the first of others
abbrev pub is_head : (Entry → Entry → Bool) → Entry → List Entry → Bool
is_head R one [] = false
is_head R one (other ∷ others) = R one other

module _ (R : Entry → Entry → Bool) (tie : (one other : Entry) → R one other ≡ true → name_cmp one.name other.name ≡ Equal) where
  before-unlike : (one other : Entry) → name_cmp one.name other.name ≡ Less → R one other ≡ false
  before-unlike one other less = fails (R one other) (λ h. let e : Equal ≡ Less = sym (tie one other h) ∙ less in cc)

  after-unlike : (one other : Entry) → name_cmp other.name one.name ≡ Less → R one other ≡ false
  after-unlike one other less = fails (R one other) (λ h. let e : Equal ≡ Greater = sym (tie one other h) ∙ less-back other.name one.name less in cc)

  skip-case : (one : Entry) (name : Name) (other : Entry) (others : List Entry) (order : Ordering) → name_cmp other.name name ≡ order → (name_cmp other.name name ≡ Less → name_cmp other.name one.name ≡ Less) →
      list_any (R one) (from_name name others) ≡ list_any (R one) others → list_any (R one) (if is_lt order then from_name name others else (other ∷ others)) ≡ list_any (R one) (other ∷ others)
  skip-case one name other others Less is passes later = later ∙ sym (ap (λ (b : Bool). b || list_any (R one) others) (after-unlike one other (passes is)))
  skip-case one name other others Equal is passes later = refl
  skip-case one name other others Greater is passes later = refl

  -- those that stand before one count for nothing
  pub skip : (one : Entry) (name : Name) → ((other : Entry) → name_cmp other.name name ≡ Less → name_cmp other.name one.name ≡ Less) → (others : List Entry) →
      list_any (R one) (from_name name others) ≡ list_any (R one) others
  skip one name passes [] = refl
  skip one name passes (other ∷ others) = skip-case one name other others (name_cmp other.name name) refl (passes other) (skip one name passes others)

  none-before : (one : Entry) (others : List Entry) → IsBefore one.name (names others) → list_any (R one) others ≡ false
  none-before one [] before = refl
  none-before one (other ∷ others) before = ap (λ (b : Bool). b || list_any (R one) others) (before-unlike one other before.0) ∙ none-before one others before.1

  only-first : (one other : Entry) (others : List Entry) → IsBefore one.name (names others) → list_any (R one) (other ∷ others) ≡ R one other
  only-first one other others before = ap (λ (rest : Bool). R one other || rest) (none-before one others before) ∙ or-false (R one other)

  first-case : (one other : Entry) (others : List Entry) (order : Ordering) → IsInOrder (other ∷ others) → name_cmp other.name one.name ≡ order →
      list_any (R one) (from_name one.name others) ≡ is_head R one (from_name one.name others) →
      (let own = if is_lt order then from_name one.name others else (other ∷ others) in list_any (R one) own ≡ is_head R one own)
  first-case one other others Less sorted is later = later
  first-case one other others Equal sorted is later =
      only-first one other others (before-tied one.name other.name (names others) (tied-back other.name one.name is) (sorted_head name_cmp other.name (names others) sorted))
  first-case one other others Greater sorted is later =
      only-first one other others (before-less one.name other.name (names others) (greater-back other.name one.name is) (sorted_head name_cmp other.name (names others) sorted))

  -- of those from its name on the first decides
  first-decides : (one : Entry) (others : List Entry) → IsInOrder others → list_any (R one) (from_name one.name others) ≡ is_head R one (from_name one.name others)
  first-decides one [] sorted = refl
  first-decides one (other ∷ others) sorted =
      first-case one other others (name_cmp other.name one.name) sorted refl (first-decides one others (sorted_tail name_cmp other.name (names others) sorted))

  -- one is as some of others exactly where it is as the first of those from its name on
  pub decided : (one : Entry) (others : List Entry) → IsInOrder others → list_any (R one) others ≡ is_head R one (from_name one.name others)
  decided one others sorted = sym (skip one one.name (λ other less. less) others) ∙ first-decides one others sorted

  skip-before : (name : Name) (one : Entry) → name_cmp name one.name ≡ Less → (others : List Entry) → list_any (R one) (from_name name others) ≡ list_any (R one) others
  skip-before name one before others = skip one name (λ other less. names-total.trans other.name name one.name less before) others

  -- for later ones those before the name count for nothing
  pub each-skip : (name : Name) (list : List Entry) → IsBefore name (names list) → (others : List Entry) →
      map (λ one. list_any (R one) (from_name name others)) list ≡ map (λ one. list_any (R one) others) list
  each-skip name [] before others = refl
  each-skip name (one ∷ list) before others = λ i. skip-before name one before.0 others i ∷ each-skip name list before.1 others i

  pub unlike-skip : (name : Name) (list : List Entry) → IsBefore name (names list) → (others : List Entry) → unlike R (from_name name others) list ≡ unlike R others list
  unlike-skip name [] before others = refl
  unlike-skip name (one ∷ list) before others =
      λ i. cond (not (skip-before name one before.0 others i)) (one ∷ unlike-skip name list before.1 others i) (unlike-skip name list before.1 others i)
