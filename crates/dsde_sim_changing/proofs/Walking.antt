-- A step of the walk over components and entries.
use Rattle.std.proofs.Common.{◌≡◌, ℕ, ◌+◌, Bool, true, false, ◌||◌, List, [], ◌∷◌, ◌++◌, length, take, map, refl, sym, ◌∙◌, ap, subst, arith, append_assoc}
use Rattle.std.specs.Prelude.{if◌then◌else◌}
use Rattle.std.specs.declared.cmp.Ordering.{Ordering}
use Rattle.std.specs.declared.cmp.Ordering.TheVariants.{Less, Equal, Greater}
use Rattle.std.specs.Ordering.{is_lt}
use Rattle.std.specs.List.{list_any}
use Rattle.std.proofs.lemmas.List.Sums.{sum_by-cons}
use Rattle.std.proofs.lemmas.Map.Keys.{sorted_head, sorted_tail}
use Rattle.dsde_values.specs.declared.name.Name.{Name}
use Rattle.dsde_values.specs.declared.path.Path.{Path}
use Rattle.dsde_values.specs.Path.{name_cmp}
use Rattle.dsde_sim_tree.specs.given.structure.plan_Entry.{Entry}
use Rattle.dsde_sim_tree.specs.given.structure.Survival.{AreInOrder, IsInOrder, names}
use Rattle.dsde_sim_tree.specs.declared.event.Event.{Event}
use Rattle.dsde_sim_tree.specs.Told.{IsCut}
use Rattle.dsde_sim_starting.specs.given.sim_telling.lemmas_GoingOn.{cut-within}
use Rattle.dsde_sim_tree.specs.declared.sim.Kid.{Kid}
use Rattle.dsde_sim_tree.specs.Tree.{parts_of_kid, parts_of_kids, name_of}
use Rattle.dsde_sim_tree.specs.Move.{gone, kept, drop_of}
use Rattle.dsde_sim_changing.specs.Heads.{from_name, is_first}
use Rattle.dsde_sim_changing.proofs.Orders.{S, IsBefore, before-less, before-tied, tied-back, greater-back, none-after, kept-later, gone-later}

-- a component before others, and an entry before it
before-kids : (kid : Kid) (kids : List Kid) (entry : Entry) → AreInOrder (map name_of (kid ∷ kids)) → name_cmp entry.name (name_of kid) ≡ Less → IsBefore entry.name (map name_of (kid ∷ kids))
before-kids kid kids entry sorted less =
    (less, before-less entry.name (name_of kid) (map name_of kids) less (sorted_head name_cmp (name_of kid) (map name_of kids) sorted))

-- the same is kept and dropped without the entries before the first component
abbrev Same : List Kid → List Entry → List Entry → Type 0
Same kids entries others = (gone entries kids ≡ gone others kids) × (kept entries kids ≡ kept others kids)

skip-case : (kid : Kid) (kids : List Kid) (entry : Entry) (entries : List Entry) (order : Ordering) → AreInOrder (map name_of (kid ∷ kids)) → name_cmp entry.name (name_of kid) ≡ order →
    Same (kid ∷ kids) entries (from_name (name_of kid) entries) → Same (kid ∷ kids) (entry ∷ entries) (if is_lt order then from_name (name_of kid) entries else (entry ∷ entries))
skip-case kid kids entry entries Less sorted is later =
    let before = before-kids kid kids entry sorted is in (
      gone-later entry entries (kid ∷ kids) before ∙ later.0,
      kept-later entry entries (kid ∷ kids) before ∙ later.1,
    )
skip-case kid kids entry entries Equal sorted is later = (refl, refl)
skip-case kid kids entry entries Greater sorted is later = (refl, refl)

skip : (kid : Kid) (kids : List Kid) (entries : List Entry) → AreInOrder (map name_of (kid ∷ kids)) → Same (kid ∷ kids) entries (from_name (name_of kid) entries)
skip kid kids [] sorted = (refl, refl)
skip kid kids (entry ∷ entries) sorted = skip-case kid kids entry entries (name_cmp entry.name (name_of kid)) sorted refl (skip kid kids entries sorted)

order-case : (order : Ordering) (entry : Entry) (entries others : List Entry) → IsInOrder (entry ∷ entries) → IsInOrder others → IsInOrder (if is_lt order then others else (entry ∷ entries))
order-case Less entry entries others sorted later = later
order-case Equal entry entries others sorted later = sorted
order-case Greater entry entries others sorted later = sorted

from-order : (name : Name) (entries : List Entry) → IsInOrder entries → IsInOrder (from_name name entries)
from-order name [] sorted = sorted
from-order name (entry ∷ entries) sorted =
    order-case (name_cmp entry.name name) entry entries (from_name name entries) sorted (from-order name entries (sorted_tail name_cmp entry.name (names entries) sorted))

or_false : (b : Bool) → (b || false) ≡ b
or_false true = refl
or_false false = refl

-- where the component comes before all but the first entry, the first decides
pub only-first : (kid : Kid) (entry : Entry) (entries : List Entry) → IsBefore (name_of kid) (names entries) → list_any (S kid) (entry ∷ entries) ≡ S kid entry
only-first kid entry entries before =
    ap (λ rest. S kid entry || rest) (none-after kid entries before) ∙ or_false (S kid entry)

first-case : (kid : Kid) (entry : Entry) (entries : List Entry) (order : Ordering) → IsInOrder (entry ∷ entries) → name_cmp entry.name (name_of kid) ≡ order →
    list_any (S kid) (from_name (name_of kid) entries) ≡ is_first (from_name (name_of kid) entries) kid →
    (let others = if is_lt order then from_name (name_of kid) entries else (entry ∷ entries) in list_any (S kid) others ≡ is_first others kid)
first-case kid entry entries Less sorted is later = later
first-case kid entry entries Equal sorted is later =
    only-first kid entry entries (before-tied (name_of kid) entry.name (names entries) (tied-back entry.name (name_of kid) is) (sorted_head name_cmp entry.name (names entries) sorted))
first-case kid entry entries Greater sorted is later =
    only-first kid entry entries (before-less (name_of kid) entry.name (names entries) (greater-back entry.name (name_of kid) is) (sorted_head name_cmp entry.name (names entries) sorted))

first-decides : (kid : Kid) (entries : List Entry) → IsInOrder entries → list_any (S kid) (from_name (name_of kid) entries) ≡ is_first (from_name (name_of kid) entries) kid
first-decides kid [] sorted = refl
first-decides kid (entry ∷ entries) sorted =
    first-case kid entry entries (name_cmp entry.name (name_of kid)) sorted refl (first-decides kid entries (sorted_tail name_cmp entry.name (names entries) sorted))

pub parts-cons : (kid : Kid) (kids : List Kid) → parts_of_kids (kid ∷ kids) ≡ parts_of_kid kid + parts_of_kids kids
parts-cons kid kids = sum_by-cons (λ x. x) (parts_of_kid kid) (map parts_of_kid kids)

pub parts-append : (kids later : List Kid) → parts_of_kids (kids ++ later) ≡ parts_of_kids kids + parts_of_kids later
parts-append [] later = omega arith
parts-append (kid ∷ kids) later =
    parts-cons kid (kids ++ later)
    ∙ omega (arith, parts-append kids later, parts-cons kid kids)

-- how far the walk has come: what is left of the components and of the entries
pub record Left (entries : List Entry) (kids : List Kid) (path : Path) (first : ℕ) (old : List Event) (stayed : List Kid) (room : ℕ) (events : List Event) (rest : List Entry) (items : List Kid) : Type 0 where
  pub stay : stayed ++ kept rest items ≡ kept entries kids
  pub gives : room + parts_of_kids (gone rest items) ≡ first + parts_of_kids (gone entries kids)
  pub all : parts_of_kids stayed + room + parts_of_kids items ≡ parts_of_kids kids + first
  pub told : events ++ map (drop_of path) (gone rest items) ≡ old ++ map (drop_of path) (gone entries kids)
  pub front : take (length old) events ≡ old
  pub names : AreInOrder (map name_of items)
  pub order : IsInOrder rest

module _ (entries : List Entry) (kids : List Kid) (path : Path) (first : ℕ) (old : List Event) (stayed : List Kid) (room : ℕ) (events : List Event) (rest after : List Entry) (items : List Kid) (kid : Kid) (later : List Kid)
    (left : Left entries kids path first old stayed room events rest items) (is_items : items ≡ kid ∷ later) (is_after : after ≡ from_name (name_of kid) rest) where
  sorted : AreInOrder (map name_of (kid ∷ later))
  sorted = subst (λ (own : List Kid). AreInOrder (map name_of own)) is_items left.names

  skipped : Same (kid ∷ later) rest after
  skipped = subst (λ (es : List Entry). Same (kid ∷ later) rest es) (sym is_after) (skip kid later rest sorted)

  decided : list_any (S kid) after ≡ is_first after kid
  decided = subst (λ (es : List Entry). list_any (S kid) es ≡ is_first es kid) (sym is_after) (first-decides kid rest left.order)

  after-order : IsInOrder after
  after-order = subst IsInOrder (sym is_after) (from-order (name_of kid) rest left.order)

  later-order : AreInOrder (map name_of later)
  later-order = sorted_tail name_cmp (name_of kid) (map name_of later) sorted

  parts-here : parts_of_kids items ≡ parts_of_kid kid + parts_of_kids later
  parts-here = ap parts_of_kids is_items ∙ parts-cons kid later

  -- the component survives
  pub keeps : (more : List Kid) → is_first after kid ≡ true → more ≡ stayed ++ kid ∷ [] → Left entries kids path first old more room events after later
  keeps more is told =
      let lives : list_any (S kid) after ≡ true = decided ∙ is in
      let same_gone : gone rest items ≡ gone after later = ap (gone rest) is_items ∙ skipped.0 ∙ rw lives refl in
      let more_kept : kept rest items ≡ kid ∷ kept after later = ap (kept rest) is_items ∙ skipped.1 ∙ rw lives refl in
      let parts_more : parts_of_kids more ≡ parts_of_kids stayed + parts_of_kid kid =
      ap parts_of_kids told ∙ parts-append stayed (kid ∷ []) ∙ ap (λ n. parts_of_kids stayed + n) (parts-cons kid [] ∙ omega arith) in
      record {
        stay = ap (λ front. front ++ kept after later) told ∙ append_assoc stayed (kid ∷ []) (kept after later) ∙ ap (λ own. stayed ++ own) (sym more_kept) ∙ left.stay;
        gives = ap (λ own. room + parts_of_kids own) (sym same_gone) ∙ left.gives;
        all = omega (arith, parts_more, parts-here, left.all);
        told = ap (λ own. events ++ map (drop_of path) own) (sym same_gone) ∙ left.told;
        front = left.front;
        names = later-order;
        order = after-order;
      }

  module _ (is : is_first after kid ≡ false) where
    dies : list_any (S kid) after ≡ false
    dies = decided ∙ is

    pub more_gone : gone rest items ≡ kid ∷ gone after later
    more_gone = ap (gone rest) is_items ∙ skipped.0 ∙ rw dies refl

    same_kept : kept rest items ≡ kept after later
    same_kept = ap (kept rest) is_items ∙ skipped.1 ∙ rw dies refl

    still : events ++ (drop_of path kid ∷ [] ++ map (drop_of path) (gone after later)) ≡ old ++ map (drop_of path) (gone entries kids)
    still = ap (λ own. events ++ map (drop_of path) own) (sym more_gone) ∙ left.told

    -- memory ran out while the component was dropped
    pub cuts : (new : List Event) → IsCut events (drop_of path kid ∷ []) new → IsCut old (map (drop_of path) (gone entries kids)) new
    cuts new cut =
        cut-within old (map (drop_of path) (gone entries kids)) events (drop_of path kid ∷ []) (map (drop_of path) (gone after later)) new left.front still cut

    -- the component is dropped
    pub drops : (count : ℕ) (new : List Event) → count ≡ parts_of_kid kid → new ≡ events ++ drop_of path kid ∷ [] → IsCut events (drop_of path kid ∷ []) new →
        Left entries kids path first old stayed (room + count) new after later
    drops count new counted told cut =
        let parts_gone : parts_of_kids (gone rest items) ≡ parts_of_kid kid + parts_of_kids (gone after later) = ap parts_of_kids more_gone ∙ parts-cons kid (gone after later) in
        record {
          stay = ap (λ own. stayed ++ own) (sym same_kept) ∙ left.stay;
          gives = omega (arith, parts_gone, counted, left.gives);
          all = omega (arith, parts-here, counted, left.all);
          told = ap (λ front. front ++ map (drop_of path) (gone after later)) told ∙ append_assoc events (drop_of path kid ∷ []) (map (drop_of path) (gone after later)) ∙ still;
          front = (cuts new cut).kept;
          names = later-order;
          order = after-order;
        }
