-- A schedule serves: where leaves move, where parts are dropped, and where parts grow.
use Rattle.std.proofs.Common.{◌≡◌, ◌≢◌, ◌⊎◌, inl, inr, ℕ, ◌+◌, ◌≤◌, length, arith, Bool, true, false, if◌then◌else◌, List, [], ◌∷◌, ◌++◌, Option, Some, None, IsSome, refl, sym, ap, subst, ◌∙◌}
use Rattle.std.specs.Option.{option_map}
use Rattle.std.specs.List.{Contains}
use Rattle.std.specs.FinMap as finmap
use Rattle.dsde_bank.specs.declared.handle.Handle.{Handle}
use Rattle.dsde_values.specs.declared.path.Path.{Path}
use Rattle.dsde_values.specs.declared.when.When.{When}
use Rattle.dsde_values.specs.declared.when.When.TheVariants.{At, Never}
use Rattle.dsde_sim_tree.specs.given.formalism.leaf_Leaf.{Leaf}
use Rattle.dsde_grove.specs.Grove as grove
use Rattle.dsde_grove.specs.Grove.{Grove, IsTree, DropsSubtree, Grows, IsUnder, spot, value_of, with_value, in_slot}
use Rattle.dsde_sim_tree.specs.Told.{◌then◌}
use Rattle.dsde_queue.specs.Queue.{put, comes_before}
use Rattle.dsde_sim_movers.specs.lemmas.Events.{Among, among-from, contains-from}
use Rattle.dsde_core_flat.specs.declared.spot.Spot.{Spot}
use Rattle.dsde_core_flat.specs.declared.spot.Spot.TheVariants as variant
use Rattle.dsde_core_flat.specs.Shown.{leaf_in}
use Rattle.dsde_core_flat.specs.Stands.{is_net}
use Rattle.dsde_core_flat.specs.lemmas.Keeping.{spot-got, spot-same}
use Rattle.dsde_core_flat.specs.lemmas.Groves.{same-or-not, spot-slot, valued-there, valued-other}
use Rattle.dsde_core_flat.specs.lemmas.Grafting.{grown-spot, grown-only}
use Rattle.dsde_core_flat.specs.lemmas.Moves.{moved-value}
use Rattle.dsde_values.specs.declared.name.Name.{Name}
use Rattle.dsde_core_flat.specs.Scheduled.{IsScheduled, IsScheduledBut, held_leaf, scheduled}

-- the whole schedule is one for which nobody waits
pub none-waits : (own : Grove Spot) (pairs : List (ℕ × Handle)) → IsScheduled own pairs → IsScheduledBut own [] pairs
none-waits own pairs scheduled = record { due = λ handle leaf next held at. inr (scheduled.due handle leaf next held at) }

pub all-moved : (own : Grove Spot) (pairs : List (ℕ × Handle)) → IsScheduledBut own [] pairs → IsScheduled own pairs
all-moved own pairs but = record { due = λ handle leaf next held at. elim (but.due handle leaf next held at) [ inl wrong ↦ absurd (among-from [] handle wrong) | inr there ↦ there ] }

-- what is put in is there, with what was there before
put-here-by : (p q : ℕ × Handle) (rest : List (ℕ × Handle)) (b : Bool) → Among p (put p rest) → Among p (if b then q ∷ put p rest else p ∷ q ∷ rest)
put-here-by p q rest true later = inr later
put-here-by p q rest false later = inl refl

put-here : (p : ℕ × Handle) (pairs : List (ℕ × Handle)) → Among p (put p pairs)
put-here p [] = inl refl
put-here p (q ∷ rest) = put-here-by p q rest (comes_before q p) (put-here p rest)

put-keeps-by : (p q x : ℕ × Handle) (rest : List (ℕ × Handle)) (b : Bool) → (Among x rest → Among x (put p rest)) → Among x (q ∷ rest) → Among x (if b then q ∷ put p rest else p ∷ q ∷ rest)
put-keeps-by p q x rest true later (inl here) = inl here
put-keeps-by p q x rest true later (inr there) = inr (later there)
put-keeps-by p q x rest false later there = inr there

put-keeps : (p x : ℕ × Handle) (pairs : List (ℕ × Handle)) → Among x pairs → Among x (put p pairs)
put-keeps p x [] there = absurd there
put-keeps p x (q ∷ rest) there = put-keeps-by p q x rest (comes_before q p) (put-keeps p x rest) there

pub scheduled-keeps : (handle : Handle) (next : When) (pairs : List (ℕ × Handle)) (x : ℕ × Handle) → Among x pairs → Among x (scheduled handle next pairs)
scheduled-keeps handle (At time) pairs x there = put-keeps (time, handle) x pairs there
scheduled-keeps handle Never pairs x there = there

put-longer-by : (p q : ℕ × Handle) (rest : List (ℕ × Handle)) (b : Bool) → length (put p rest) ≡ length rest + 1 → length (if b then q ∷ put p rest else p ∷ q ∷ rest) ≡ length (q ∷ rest) + 1
put-longer-by p q rest true later = omega (arith, later)
put-longer-by p q rest false later = omega arith

put-longer : (p : ℕ × Handle) (pairs : List (ℕ × Handle)) → length (put p pairs) ≡ length pairs + 1
put-longer p [] = omega arith
put-longer p (q ∷ rest) = put-longer-by p q rest (comes_before q p) (put-longer p rest)

-- a pair more at most
pub scheduled-longer : (handle : Handle) (next : When) (pairs : List (ℕ × Handle)) → length (scheduled handle next pairs) ≤ length pairs + 1
scheduled-longer handle (At time) pairs = let one = put-longer (time, handle) pairs in omega (arith, one)
scheduled-longer handle Never pairs = omega arith

pub scheduled-here : (handle : Handle) (next : When) (pairs : List (ℕ × Handle)) (time : ℕ) → next ≡ At time → Among (time, handle) (scheduled handle next pairs)
scheduled-here handle next pairs time is = subst (λ (w : When). Among (time, handle) (scheduled handle w pairs)) (sym is) (put-here (time, handle) pairs)

pub some-live : (own : Grove Spot) (handle : Handle) (value : Spot) (held : Option (grove.Spot Spot)) → spot own handle ≡ held → option_map (λ (s : grove.Spot Spot). s.value) held ≡ Some value →
    (part : grove.Spot Spot) × (spot own handle ≡ Some part) × (part.value ≡ value)
some-live own handle value None is held = absurd (let wrong : None ≡ Some value = held in cc)
some-live own handle value (Some part) is held = (part, is, (let e : Some part.value ≡ Some value = held in cc))

-- what is live under a handle in both is the same
pub value-same : (old new : Grove Spot) (handle : Handle) (value : Spot) (part : grove.Spot Spot) → spot new handle ≡ Some part → part.value ≡ value → finmap.get old.parts handle.birth ≡ Some part → value_of old handle ≡ Some value
value-same old new handle value part live is got =
    ap (option_map (λ (s : grove.Spot Spot). s.value)) (spot-same new old handle part live got ∙ live) ∙ ap (λ (v : Spot). let o : Option Spot = Some v in o) is

-- a leaf moves: it waits no longer
module _ (own : Grove Spot) (handle : Handle) (leaf : Leaf) (part : grove.Spot Spot) (live : spot own handle ≡ Some part) where
  abbrev after : Grove Spot
  after = with_value own handle (variant.Leaf leaf)

  one-handle : (other : Handle) (its : grove.Spot Spot) → spot after other ≡ Some its → other.birth ≡ handle.birth → other ≡ handle
  one-handle other its there same =
      let got : finmap.get after.parts handle.birth ≡ Some its = ap (finmap.get after.parts) (sym same) ∙ spot-got after other its there in
      let mine : finmap.get after.parts handle.birth ≡ Some (record part { value = variant.Leaf leaf }) = valued-there own handle (variant.Leaf leaf) part live in
      let is : its ≡ record part { value = variant.Leaf leaf } = cc in
      let slots : other.slot ≡ handle.slot = sym (spot-slot after other its there) ∙ ap (λ (s : grove.Spot Spot). s.slot) is ∙ spot-slot own handle part live in
      λ i. record { birth = same i; slot = slots i }

  waits-on : (rest : List Handle) (pairs : List (ℕ × Handle)) (other : Handle) (next : ℕ) → other ≢ handle → Contains (handle ∷ rest) other ⊎ Contains pairs (next, other) →
      Contains rest other ⊎ Contains (scheduled handle leaf.next pairs) (next, other)
  waits-on rest pairs other next apart (inl waits) = elim (among-from (handle ∷ rest) other waits) [ inl same ↦ absurd (apart same) | inr later ↦ inl (contains-from rest other later) ]
  waits-on rest pairs other next apart (inr has) = inr (contains-from (scheduled handle leaf.next pairs) (next, other) (scheduled-keeps handle leaf.next pairs (next, other) (among-from pairs (next, other) has)))

  pub leaf-moved : (rest : List Handle) (pairs : List (ℕ × Handle)) → IsScheduledBut own (handle ∷ rest) pairs → IsScheduledBut after rest (scheduled handle leaf.next pairs)
  leaf-moved rest pairs but = record {
    due = λ other its next held at.
        let found = some-live after other (variant.Leaf its) (spot after other) refl held in
        elim (same-or-not other.birth handle.birth) [
          | inl same ↦
              let is = one-handle other found.0 found.1 same in
              let values : Some (variant.Leaf its) ≡ Some (variant.Leaf leaf) = sym held ∙ ap (value_of after) is ∙ moved-value own handle leaf part live in
              let leaves : its ≡ leaf = cc in
              inr (subst (λ (h : Handle). Contains (scheduled handle leaf.next pairs) (next, h)) (sym is)
              (contains-from (scheduled handle leaf.next pairs) (next, handle) (scheduled-here handle leaf.next pairs next (ap (λ (l : Leaf). l.next) (sym leaves) ∙ at))))
          | inr apart ↦
              let got : finmap.get own.parts other.birth ≡ Some found.0 = sym (valued-other own handle (variant.Leaf leaf) part live other.birth apart) ∙ spot-got after other found.0 found.1 in
              waits-on rest pairs other next (λ same. apart (ap (λ (h : Handle). h.birth) same))
              (but.due other its next (value-same own after other (variant.Leaf its) found.0 found.1 found.2 got) at)
        ];
  }

  -- who waits may be said of more
  pub more-wait : (waiting more : List Handle) (pairs : List (ℕ × Handle)) → ((h : Handle) → Contains waiting h → Contains more h) → IsScheduledBut own waiting pairs → IsScheduledBut own more pairs
  more-wait waiting more pairs into but = record {
    due = λ other its next held at. elim (but.due other its next held at) [ inl waits ↦ inl (into other waits) | inr has ↦ inr has ];
  }

-- where parts leave, and no other comes
pub parts-left : (old new : Grove Spot) (waiting : List Handle) (pairs : List (ℕ × Handle)) → ((birth : ℕ) (part : grove.Spot Spot) → finmap.get new.parts birth ≡ Some part → finmap.get old.parts birth ≡ Some part) →
    IsScheduledBut old waiting pairs → IsScheduledBut new waiting pairs
parts-left old new waiting pairs only but = record {
  due = λ handle leaf next held at.
      let found = some-live new handle (variant.Leaf leaf) (spot new handle) refl held in
      but.due handle leaf next (value-same old new handle (variant.Leaf leaf) found.0 found.1 found.2 (only handle.birth found.0 (spot-got new handle found.0 found.1))) at;
}

pub subtree-left : (old new : Grove Spot) (top : Handle) (waiting : List Handle) (pairs : List (ℕ × Handle)) → DropsSubtree old new top → IsScheduledBut old waiting pairs → IsScheduledBut new waiting pairs
subtree-left old new top waiting pairs drops but = parts-left old new waiting pairs (λ birth part is. elim (drops.either birth) [
  | inl gone ↦ absurd (let wrong : None ≡ Some part = sym gone.1 ∙ is in cc)
  | inr kept ↦ sym kept.1 ∙ is
]) but

-- where another leaf is put under a handle, and its next event scheduled, it waits no longer
pub step-moved : (own new : Grove Spot) (handle : Handle) (leaf : Leaf) (rest : List Handle) (pairs : List (ℕ × Handle)) → IsSome (held_leaf (value_of own handle)) → new ≡ with_value own handle (variant.Leaf leaf) →
    IsScheduledBut own (handle ∷ rest) pairs → IsScheduledBut new rest (scheduled handle (leaf_in (value_of new handle)).next pairs)
step-moved own new handle leaf rest pairs some is but =
    let live = some-part own handle (spot own handle) refl some in
    let held : value_of new handle ≡ Some (variant.Leaf leaf) = ap (λ (g : Grove Spot). value_of g handle) is ∙ moved-value own handle leaf live.0 live.1 in
    subst (λ (g : Grove Spot). IsScheduledBut g rest (scheduled handle (leaf_in (value_of new handle)).next pairs)) (sym is)
    (subst (λ (o : Option Spot). IsScheduledBut (with_value own handle (variant.Leaf leaf)) rest (scheduled handle (leaf_in o).next pairs)) (sym held) (leaf-moved own handle leaf live.0 live.1 rest pairs but))
  where
    some-part : (own : Grove Spot) (handle : Handle) (held : Option (grove.Spot Spot)) → spot own handle ≡ held → IsSome (held_leaf (option_map (λ (s : grove.Spot Spot). s.value) held)) → (part : grove.Spot Spot) × (spot own handle ≡ Some part)
    some-part own handle None is some = absurd (let wrong : false ≡ true = some in cc)
    some-part own handle (Some part) is some = (part, is)

-- one part grows: a leaf's pair is put in, a network has none
module _ (old new : Grove Spot) (parent : Handle) (name : Name) (value : Spot) (kid : Handle) (path : Path) (grows : Grows old new parent name value kid) (fresh : finmap.get old.parts kid.birth ≡ None) (at : grows.above.path ≡ path.names) where
  abbrev born : grove.Spot Spot
  born = record { slot = kid.slot; parent = Some parent; name = name; path = grows.above.path ++ name ∷ []; value = value }

  pub grown-waits : (waiting : List Handle) (pairs more : List (ℕ × Handle)) → ((pair : ℕ × Handle) → Among pair pairs → Among pair more) →
      ((leaf : Leaf) (next : ℕ) → value ≡ variant.Leaf leaf → leaf.next ≡ At next → Among (next, kid) more) → IsScheduledBut old waiting pairs → IsScheduledBut new waiting more
  grown-waits waiting pairs more kept own but = record {
    due = λ handle leaf next held when.
        let found = some-live new handle (variant.Leaf leaf) (spot new handle) refl held in
        let got = spot-got new handle found.0 found.1 in
        elim (grown-only old new parent name value kid path grows fresh at handle.birth found.0 got) [
          | inl was ↦ elim (but.due handle leaf next (value-same old new handle (variant.Leaf leaf) found.0 found.1 found.2 was) when) [
            | inl waits ↦ inl waits
            | inr has ↦ inr (contains-from more (next, handle) (kept (next, handle) (among-from pairs (next, handle) has)))
          ]
          | inr here ↦
              let its = grown-spot old new parent name value kid path grows fresh at in
              let one : finmap.get new.parts handle.birth ≡ Some born = ap (finmap.get new.parts) (sym here) ∙ spot-got new kid born its in
              let same : found.0 ≡ born = cc in
              let slots : kid.slot ≡ handle.slot = sym (ap (λ (s : grove.Spot Spot). s.slot) same) ∙ spot-slot new handle found.0 found.1 in
              let handles : kid ≡ handle = λ i. record { birth = here i; slot = slots i } in
              let is : value ≡ variant.Leaf leaf = sym (ap (λ (s : grove.Spot Spot). s.value) same) ∙ found.2 in
              inr (subst (λ (h : Handle). Contains more (next, h)) handles (contains-from more (next, kid) (own leaf next is when)))
        ];
  }

  pub net-waits : (waiting : List Handle) (pairs : List (ℕ × Handle)) → is_net value ≡ true → IsScheduledBut old waiting pairs → IsScheduledBut new waiting pairs
  net-waits waiting pairs net but = grown-waits waiting pairs pairs (λ pair there. there) (λ leaf next is when. absurd (let wrong : true ≡ false = sym net ∙ ap is_net is in cc)) but

  pub leaf-waits : (waiting : List Handle) (pairs : List (ℕ × Handle)) (leaf : Leaf) → value ≡ variant.Leaf leaf → IsScheduledBut old waiting pairs → IsScheduledBut new waiting (scheduled kid leaf.next pairs)
  leaf-waits waiting pairs leaf is but = grown-waits waiting pairs (scheduled kid leaf.next pairs) (λ pair there. scheduled-keeps kid leaf.next pairs pair there)
      (λ other next same when. let e : variant.Leaf leaf ≡ variant.Leaf other = sym is ∙ same in let leaves : leaf ≡ other = cc in scheduled-here kid leaf.next pairs next (ap (λ (l : Leaf). l.next) leaves ∙ when)) but
