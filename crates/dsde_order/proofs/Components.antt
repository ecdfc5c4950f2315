-- Components of a network by their names and their places.
use Rattle.std.proofs.Common.{◌≡◌, ◌∙◌, ℕ, zero, suc, ◌<◌, ◌≤◌, List, [], ◌∷◌, ◌++◌, length, take, drop, get_or, Option, Some, None, slice_get, slice_set, refl, sym, ap, subst, arith}
use Rattle.std.specs.List.{AllByRecursion}
use Rattle.dsde_values.specs.declared.name.Name.{Name}
use Rattle.dsde_structure.specs.Gather.{is_same_name}
use Rattle.dsde_sim_tree.specs.declared.sim.Kid.{Kid}
use Rattle.dsde_sim_tree.specs.declared.sim.Sim.{Sim}
use Rattle.dsde_sim_tree.specs.declared.sim.Sim.TheViews.{out-Kid}
use Rattle.dsde_sim_tree.specs.Start.{kid_of}
use Rattle.dsde_sim_tree.specs.Tree.{name_of}
use Rattle.dsde_sim_movers.specs.Parts.{kid_named}
use Rattle.dsde_sim_movers.specs.lemmas.Seats.{NoneNamed, if-false, named, own-sim, same-kid}
use Rattle.dsde_order.specs.Seating.{IsAt, sim_at, with_sim}

-- an item at an index, and what stands there
pub set-there : (kids : List Kid) (index : ℕ) (kid : Kid) (own : Sim) → slice_get kids index ≡ Some kid → slice_set kids index (kid_of (name_of kid) own) ≡ with_sim index own kids
set-there [] index kid own at = absurd (let e : None ≡ Some kid = at in cc)
set-there (first ∷ kids) zero kid own at =
    let same : kid ≡ first = (let e : Some first ≡ Some kid = at in cc) in
    ap (λ (k : Kid). kid_of (name_of k) own ∷ kids) same
set-there (first ∷ kids) (suc index) kid own at = ap (λ (later : List Kid). first ∷ later) (set-there kids index kid own at)

pub sim-there : (kids : List Kid) (index : ℕ) (kid : Kid) → slice_get kids index ≡ Some kid → sim_at index kids ≡ Some (out-Kid kid).sim
sim-there [] index kid at = absurd (let e : None ≡ Some kid = at in cc)
sim-there (first ∷ kids) zero kid at =
    let same : first ≡ kid = (let e : Some first ≡ Some kid = at in cc) in
    ap (λ (k : Kid). let found : Option Sim = Some (out-Kid k).sim in found) same
sim-there (first ∷ kids) (suc index) kid at = sim-there kids index kid at

pub is-there : (kids : List Kid) (index : ℕ) → index < length kids → slice_get kids index ≡ None → ⊥
is-there [] index below none = absurd (omega (arith, below))
is-there (kid ∷ kids) zero below none = let e : Some kid ≡ None = none in cc
is-there (kid ∷ kids) (suc index) below none = is-there kids index (omega (arith, below)) none

-- a component with another simulator, and with yet another
with-twice : (index : ℕ) (one other : Sim) (kids : List Kid) → with_sim index other (with_sim index one kids) ≡ with_sim index other kids
with-twice index one other [] = refl
with-twice zero one other (kid ∷ kids) = ap (λ (name : Name). kid_of name other ∷ kids) (named (name_of kid) one)
with-twice (suc index) one other (kid ∷ kids) = ap (λ (later : List Kid). kid ∷ later) (with-twice index one other kids)

with-middle : (before : List Kid) (name : Name) (own other : Sim) (after : List Kid) → with_sim (length before) other (before ++ kid_of name own ∷ after) ≡ before ++ kid_of name other ∷ after
with-middle [] name own other after = ap (λ (n : Name). kid_of n other ∷ after) (named name own)
with-middle (kid ∷ before) name own other after = ap (λ (later : List Kid). kid ∷ later) (with-middle before name own other after)

sim-middle : (before : List Kid) (name : Name) (own : Sim) (after : List Kid) → sim_at (length before) (before ++ kid_of name own ∷ after) ≡ Some own
sim-middle [] name own after = ap (λ (s : Sim). let found : Option Sim = Some s in found) (own-sim name own)
sim-middle (kid ∷ before) name own after = sim-middle before name own after

length-with : (index : ℕ) (own : Sim) (kids : List Kid) → length (with_sim index own kids) ≡ length kids
length-with index own [] = refl
length-with zero own (kid ∷ kids) = refl
length-with (suc index) own (kid ∷ kids) = ap suc (length-with index own kids)

pub below-with : (index : ℕ) (own : Sim) (kids later : List Kid) → later ≡ with_sim index own kids → index < length kids → index < length later
below-with index own kids later is below = let counted : length later ≡ length kids = ap (λ (list : List Kid). length list) is ∙ length-with index own kids in omega (arith, counted, below)

length-middle : (before : List Kid) (kid : Kid) (after : List Kid) → length before < length (before ++ kid ∷ after)
length-middle [] kid after = omega arith
length-middle (first ∷ before) kid after = omega (arith, length-middle before kid after)

module _ (name : Name) (kids : List Kid) (index : ℕ) (at : IsAt name kids index) where
  with-at : (other : Sim) → with_sim index other kids ≡ at.before ++ kid_of name other ∷ at.after
  with-at other =
      ap (with_sim index other) at.is
      ∙ ap (λ (i : ℕ). with_sim i other (at.before ++ kid_of name at.own ∷ at.after)) (sym at.place)
      ∙ with-middle at.before name at.own other at.after

  -- a component that has had another simulator for a while
  pub twice-at : (one other : Sim) (first second : List Kid) → first ≡ with_sim index one kids → second ≡ with_sim index other first → second ≡ at.before ++ kid_of name other ∷ at.after
  twice-at one other first second first_is second_is = second_is ∙ ap (with_sim index other) first_is ∙ with-twice index one other kids ∙ with-at other

  pub own-at : (own : Sim) → sim_at index kids ≡ Some own → own ≡ at.own
  own-at own is =
      let found : sim_at index kids ≡ Some at.own =
      ap (sim_at index) at.is
      ∙ ap (λ (i : ℕ). sim_at i (at.before ++ kid_of name at.own ∷ at.after)) (sym at.place)
      ∙ sim-middle at.before name at.own at.after in
      let e : Some own ≡ Some at.own = sym is ∙ found in cc

  pub at-below : index < length kids
  at-below =
      let counted : length kids ≡ length (at.before ++ kid_of name at.own ∷ at.after) = ap (λ (list : List Kid). length list) at.is in
      let place = at.place in
      let within = length-middle at.before (kid_of name at.own) at.after in
      omega (arith, counted, place, within)

-- where none has the name there is none of that name
pub none-named : (name : Name) (kids : List Kid) → NoneNamed name kids → kid_named name kids ≡ None
none-named name [] none = refl
none-named name (kid ∷ kids) none = if-false (is_same_name (name_of kid) name) (Some (out-Kid kid).sim) (kid_named name kids) none.0 ∙ none-named name kids none.1

-- the component at an index is the one of its name, where none before it has that name
pub found-at : (name : Name) (kids : List Kid) (index : ℕ) (before : List Kid) (kid : Kid) (after : List Kid) → kids ≡ before ++ kid ∷ after → length before ≡ index → name_of kid ≡ name → NoneNamed name before → IsAt name kids index
found-at name kids index before kid after is place called none = record {
  before = before;
  own = (out-Kid kid).sim;
  after = after;
  is = is ∙ ap (λ (k : Kid). before ++ k ∷ after) (sym (same-kid kid)) ∙ ap (λ (n : Name). before ++ kid_of n (out-Kid kid).sim ∷ after) called;
  place = place;
  none = none;
}

-- one more before which there is none of the name
pub take-more : (P : Kid → Type 0) (kids : List Kid) (index : ℕ) (kid : Kid) → index < length kids → kid ≡ get_or kids index kid → AllByRecursion P (take index kids) → P kid → AllByRecursion P (take (suc index) kids)
take-more P [] index kid below is all here = absurd (omega (arith, below))
take-more P (first ∷ kids) zero kid below is all here = (subst P is here, tt)
take-more P (first ∷ kids) (suc index) kid below is all here = (all.0, take-more P kids index kid (omega (arith, below)) is all.1 here)

length-front : (kids : List Kid) (index : ℕ) → index < length kids → length (take index kids) ≡ index
length-front [] index below = absurd (omega (arith, below))
length-front (kid ∷ kids) zero below = refl
length-front (kid ∷ kids) (suc index) below = ap suc (length-front kids index (omega (arith, below)))

split-there : (kids : List Kid) (index : ℕ) (kid : Kid) → index < length kids → kid ≡ get_or kids index kid → kids ≡ take index kids ++ kid ∷ drop (suc index) kids
split-there [] index kid below is = absurd (omega (arith, below))
split-there (first ∷ kids) zero kid below is = ap (λ (k : Kid). k ∷ kids) (sym is)
split-there (first ∷ kids) (suc index) kid below is = ap (λ (later : List Kid). first ∷ later) (split-there kids index kid (omega (arith, below)) is)

pub found-there : (name : Name) (kids : List Kid) (index : ℕ) (kid : Kid) → index < length kids → kid ≡ get_or kids index kid → name_of kid ≡ name → NoneNamed name (take index kids) → IsAt name kids index
found-there name kids index kid below is called none =
    found-at name kids index (take index kids) kid (drop (suc index) kids) (split-there kids index kid below is) (length-front kids index below) called none

pub all-taken : (P : Kid → Type 0) (kids : List Kid) (index : ℕ) → length kids ≤ index → AllByRecursion P (take index kids) → AllByRecursion P kids
all-taken P [] index within all = tt
all-taken P (kid ∷ kids) zero within all = absurd (omega (arith, within))
all-taken P (kid ∷ kids) (suc index) within all = (all.0, all-taken P kids index (omega (arith, within)) all.1)
