-- When a tree is due, by the leaves that handles show.
use Rattle.std.proofs.Common.{◌≡◌, ◌⊎◌, inl, inr, ℕ, ◌≤◌, min, nat_lt, ltb-true, ltb-false, Bool, true, false, List, [], ◌∷◌, ◌++◌, map, Option, Some, None, refl, sym, ap, subst, ◌∙◌, arith}
use Rattle.std.specs.List.{flat_map, AllByRecursion}
use Rattle.dsde_bank.specs.declared.handle.Handle.{Handle}
use Rattle.dsde_values.specs.declared.path.Path.{Path}
use Rattle.dsde_values.specs.declared.when.When.{When}
use Rattle.dsde_values.specs.declared.when.When.TheVariants.{At, Never}
use Rattle.dsde_sim_tree.specs.Told.{below, to_boss}
use Rattle.dsde_sim_tree.specs.declared.sim.Kid.{Kid}
use Rattle.dsde_sim_tree.specs.declared.sim.Net.{Net}
use Rattle.dsde_sim_tree.specs.declared.sim.Sim.{Sim}
use Rattle.dsde_sim_tree.specs.declared.sim.Sim.TheVariants as sim
use Rattle.dsde_sim_tree.specs.declared.sim.Sim.TheOpen as layer
use Rattle.dsde_sim_tree.specs.declared.sim.Sim.TheOpen.{Net-F}
use Rattle.dsde_sim_tree.specs.declared.sim.Sim.TheFolds.{fold-Net, fold-roll-Sim, fold-roll-Kid, fold-roll-Net}
use Rattle.dsde_sim_tree.specs.declared.sim.Sim.TheViews.{rolls-Leaf, rolls-Net}
use Rattle.dsde_sim_tree.specs.Tree.{sooner, soonest, next_time, next_of_kid, next_step, next_kid, next_net}
use Rattle.dsde_routes_wiring.specs.declared.wiring.Wiring.{Wiring}
use Rattle.dsde_routes_wiring.specs.declared.wiring.WiredKid.{WiredKid}
use Rattle.dsde_routes_wiring.specs.declared.wiring.WiredKid.TheViews.{out-Wiring, out-WiredKid}
use Rattle.dsde_core_flat.specs.Shown.{Look, leaf_in, model_in, args_in, net_under, kid_under, part_under}
use Rattle.dsde_core_flat.specs.Places.{Place, place, net_places, kid_places, part_places}
use Rattle.dsde_core_flat.specs.lemmas.Opened.{kid-shows, net-shows, kid-stands, net-stands, OfKid}
use Rattle.dsde_routes_wiring.specs.Opened.{each_wiring, Beneath}
use Rattle.dsde_core_flat.specs.lemmas.Frame.{all-join}
use Rattle.dsde_core_flat.specs.lemmas.Beneath.{all-map}

-- one time is not later than another
abbrev pub IsNotLater : When → When → Type 0
IsNotLater (At time) (At other) = time ≤ other
IsNotLater one Never = Unit {0}
IsNotLater Never (At other) = ⊥

not-later-chain : (a b c : When) → IsNotLater a b → IsNotLater b c → IsNotLater a c
not-later-chain (At a) (At b) (At c) one other = omega (arith, one, other)
not-later-chain (At a) (At b) Never one other = tt
not-later-chain (At a) Never (At c) one other = absurd other
not-later-chain (At a) Never Never one other = tt
not-later-chain Never (At b) c one other = absurd one
not-later-chain Never Never (At c) one other = absurd other
not-later-chain Never Never Never one other = tt

itself : (a : When) → IsNotLater a a
itself (At a) = omega arith
itself Never = tt

sooner-left : (a b : When) → IsNotLater (sooner a b) a
sooner-left (At a) (At b) = omega arith
sooner-left (At a) Never = omega arith
sooner-left Never b = never b
  where
    never : (w : When) → IsNotLater w Never
    never (At a) = tt
    never Never = tt

sooner-right : (a b : When) → IsNotLater (sooner a b) b
sooner-right (At a) (At b) = omega arith
sooner-right (At a) Never = tt
sooner-right Never b = itself b

least : (a b : ℕ) (t : Bool) → nat_lt b a ≡ t → (let one : When = At (min a b) in one ≡ At a) ⊎ (let one : When = At (min a b) in one ≡ At b)
least a b true is = let less = ltb-true b a is in let e : min a b ≡ b = omega arith in inr (ap (λ (n : ℕ). let w : When = At n in w) e)
least a b false is = let more = ltb-false b a is in let e : min a b ≡ a = omega arith in inl (ap (λ (n : ℕ). let w : When = At n in w) e)

sooner-is : (a b : When) → (sooner a b ≡ a) ⊎ (sooner a b ≡ b)
sooner-is (At a) (At b) = least a b (nat_lt b a) refl
sooner-is (At a) Never = inl refl
sooner-is Never b = inr refl

soonest-first : (first : When) (others : List When) → IsNotLater (soonest first others) first
soonest-first first [] = itself first
soonest-first first (next ∷ others) = not-later-chain (soonest (sooner first next) others) (sooner first next) first (soonest-first (sooner first next) others) (sooner-left first next)

soonest-all : (first : When) (others : List When) → AllByRecursion (λ (w : When). IsNotLater (soonest first others) w) others
soonest-all first [] = tt
soonest-all first (next ∷ others) =
    (not-later-chain (soonest (sooner first next) others) (sooner first next) next (soonest-first (sooner first next) others) (sooner-right first next), soonest-all (sooner first next) others)

-- one of these places is a leaf's whose next event is at this time
abbrev pub HasNext : Look → When → List Place → Type 0
HasNext look next [] = ⊥
HasNext look next (at ∷ others) = ((at.is_net ≡ false) × ((leaf_in (look at.handle)).next ≡ next)) ⊎ HasNext look next others

next-left : (look : Look) (next : When) (xs ys : List Place) → HasNext look next xs → HasNext look next (xs ++ ys)
next-left look next [] ys has = absurd has
next-left look next (x ∷ xs) ys (inl here) = inl here
next-left look next (x ∷ xs) ys (inr later) = inr (next-left look next xs ys later)

next-right : (look : Look) (next : When) (xs ys : List Place) → HasNext look next ys → HasNext look next (xs ++ ys)
next-right look next [] ys has = has
next-right look next (x ∷ xs) ys has = inr (next-right look next xs ys has)

-- no leaf of these places is due before a time
abbrev pub IsLate : Look → When → Place → Type 0
IsLate look next at = at.is_net ≡ false → IsNotLater next (leaf_in (look at.handle)).next

-- A time is the least of those at which the leaves of these places are due.
pub record IsLeast (look : Look) (next : When) (ats : List Place) : Type 0 where
  pub late : AllByRecursion (IsLate look next) ats
  pub there : HasNext look next ats

module _ (look : Look) where
  abbrev LeastOf : Wiring → Type 0
  LeastOf net = (handle : Handle) (path : Path) → IsLeast look (next_time (sim.Net (net_under look net handle))) (net_places net path)

  part-least : (handle : Handle) (path : Path) (own : Option Wiring) → Beneath LeastOf own → IsLeast look (next_time (part_under look handle own)) (part_places handle path own)
  part-least handle path None known =
      let is : next_time (sim.Leaf (leaf_in (look handle))) ≡ (leaf_in (look handle)).next =
      ap next_time (sym (rolls-Leaf (leaf_in (look handle)))) ∙ fold-roll-Sim When When When next_step next_kid next_net (layer.Leaf (leaf_in (look handle))) in
      record { late = (λ leaf. subst (λ (w : When). IsNotLater w (leaf_in (look handle)).next) (sym is) (itself (leaf_in (look handle)).next), tt); there = inl (refl, sym is) }
  part-least handle path (Some net) known =
      let inner = known handle path in
      record { late = ((λ leaf. absurd (let wrong : true ≡ false = leaf in cc)), inner.late); there = inr inner.there }

  kid-least : (kid : WiredKid) (path : Path) → OfKid LeastOf kid → IsLeast look (next_of_kid (kid_under look kid)) (kid_places kid path)
  kid-least kid path known =
      let is : next_of_kid (kid_under look kid) ≡ next_time (part_under look (out-WiredKid kid).handle (out-WiredKid kid).below) =
      ap next_of_kid (kid-shows look kid) ∙ fold-roll-Kid When When When next_step next_kid next_net (record { name = (out-WiredKid kid).name; sim = part_under look (out-WiredKid kid).handle (out-WiredKid kid).below }) in
      subst (λ (ats : List Place). IsLeast look (next_of_kid (kid_under look kid)) ats) (sym (kid-stands kid path))
      (subst (λ (w : When). IsLeast look w (part_places (out-WiredKid kid).handle (below path (out-WiredKid kid).name) (out-WiredKid kid).below)) (sym is)
      (part-least (out-WiredKid kid).handle (below path (out-WiredKid kid).name) (out-WiredKid kid).below known))

  later-late : (a b : When) → IsNotLater a b → (at : Place) → IsLate look b at → IsLate look a at
  later-late a b less at late leaf = not-later-chain a b (leaf_in (look at.handle)).next less (late leaf)

  -- the components' least times, in front of one that is not later
  kids-late : (path : Path) (next : When) (kids : List WiredKid) → AllByRecursion (OfKid LeastOf) kids → AllByRecursion (λ (w : When). IsNotLater next w) (map next_of_kid (map (kid_under look) kids)) →
      AllByRecursion (IsLate look next) (flat_map (λ (kid : WiredKid). kid_places kid path) kids)
  kids-late path next [] known less = tt
  kids-late path next (kid ∷ kids) known less =
      all-join (IsLate look next) (kid_places kid path) (flat_map (λ (k : WiredKid). kid_places k path) kids)
      (all-map (IsLate look (next_of_kid (kid_under look kid))) (IsLate look next) (later-late next (next_of_kid (kid_under look kid)) less.0) (kid_places kid path) (kid-least kid path known.0).late)
      (kids-late path next kids known.1 less.1)

  -- the least is that of the executive or of a component
  soonest-there : (path : Path) (first : When) (kids : List WiredKid) → AllByRecursion (OfKid LeastOf) kids →
      (soonest first (map next_of_kid (map (kid_under look) kids)) ≡ first) ⊎ HasNext look (soonest first (map next_of_kid (map (kid_under look) kids))) (flat_map (λ (kid : WiredKid). kid_places kid path) kids)
  soonest-there path first [] known = inl refl
  soonest-there path first (kid ∷ kids) known =
      let one = next_of_kid (kid_under look kid) in
      let rest = map next_of_kid (map (kid_under look) kids) in
      let places = flat_map (λ (k : WiredKid). kid_places k path) kids in
      elim (soonest-there path (sooner first one) kids known.1) [
        | inr has ↦ inr (next-right look (soonest (sooner first one) rest) (kid_places kid path) places has)
        | inl is ↦ elim (sooner-is first one) [
          | inl mine ↦ inl (is ∙ mine)
          | inr its ↦ inr (next-left look (soonest (sooner first one) rest) (kid_places kid path) places
              (subst (λ (w : When). HasNext look w (kid_places kid path)) (sym (is ∙ its)) (kid-least kid path known.0).there))
        ]
      ]

  net-least : (net : Wiring) → LeastOf net
  net-least = each_wiring LeastOf (λ net known handle path.
      let boss = leaf_in (look (out-Wiring net).boss) in
      let own : Net-F Sim Kid Net = record { model = model_in (look handle); args = args_in (look handle); boss = boss; kids = map (kid_under look) (out-Wiring net).kids; links = (out-Wiring net).links } in
      let whole = soonest boss.next (map next_of_kid (map (kid_under look) (out-Wiring net).kids)) in
      let is : next_time (sim.Net (net_under look net handle)) ≡ whole =
      ap next_time (sym (rolls-Net (net_under look net handle))) ∙ fold-roll-Sim When When When next_step next_kid next_net (layer.Net (net_under look net handle))
      ∙ ap (λ (n : Net). fold-Net When When When next_step next_kid next_net n) (net-shows look net handle) ∙ fold-roll-Net When When When next_step next_kid next_net own in
      let kids_at = flat_map (λ (kid : WiredKid). kid_places kid path) (out-Wiring net).kids in
      let last = place (out-Wiring net).boss (to_boss path) false in
      subst (λ (w : When). IsLeast look w (net_places net path)) (sym is)
      (subst (IsLeast look whole) (sym (net-stands net path))
      (record {
        late = all-join (IsLate look whole) kids_at (last ∷ [])
            (kids-late path whole (out-Wiring net).kids known (soonest-all boss.next (map next_of_kid (map (kid_under look) (out-Wiring net).kids))))
            ((λ leaf. soonest-first boss.next (map next_of_kid (map (kid_under look) (out-Wiring net).kids))), tt);
        there = elim (soonest-there path boss.next (out-Wiring net).kids known) [
          | inl mine ↦ next-right look whole kids_at (last ∷ []) (inl (refl, sym mine))
          | inr its ↦ next-left look whole kids_at (last ∷ []) its
        ];
      })))

  every : (own : Option Wiring) → Beneath LeastOf own
  every None = tt
  every (Some net) = net-least net

  -- the time at which a tree is due is the least of those of the leaves at its places
  pub tree-least : (handle : Handle) (path : Path) (own : Option Wiring) → IsLeast look (next_time (part_under look handle own)) (part_places handle path own)
  tree-least handle path own = part-least handle path own (every own)
