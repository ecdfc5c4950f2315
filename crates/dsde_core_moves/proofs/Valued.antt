-- What lies under a handle where a leaf was put.
use Rattle.std.proofs.Common.{◌≡◌, inl, inr, ℕ, suc, Bool, false, true, cond, List, ◌∷◌, ◌++◌, Result, Ok, Err, Option, Some, None, IsSome, refl, sym, ap, subst, ◌∙◌, arith}
use Rattle.std.specs.Option.{option_map}
use Rattle.std.specs.Ordering.{nat_cmp, eq_by_cmp}
use Rattle.std.specs.Cmp.{nat_cmp_total}
use Rattle.std.specs.FinMap as map
use Rattle.std.specs.FinMap.{get-insert, nat_cmp-IsAntisymmetric, same_map}
use Rattle.std.proofs.lemmas.List.{append-nil}
use Rattle.dsde_bank.specs.declared.handle.Handle.{Handle}
use Rattle.dsde_sim_tree.specs.given.formalism.leaf_Leaf.{Leaf}
use Rattle.dsde_core_flat.specs.given.grove.Grove as grove
use Rattle.dsde_core_flat.specs.given.grove.Grove.{Grove, spot, value_of, with_value}
use Rattle.dsde_core_flat.specs.declared.spot.Spot.{Spot}
use Rattle.dsde_core_flat.specs.declared.spot.Spot.TheVariants as variant
use Rattle.dsde_core_flat.specs.lemmas.Groves.{valued}
use Rattle.dsde_core_flat.specs.lemmas.Moves.{moved-spot, moved-value}
use Rattle.dsde_core_flat.specs.lemmas.Waiting.{leaf-moved}
use Rattle.dsde_core_flat.specs.Scheduled.{held_leaf, IsScheduledBut}
use Rattle.dsde_core_flat.specs.Shown.{NO_LEAF}
use Rattle.dsde_sim_tree.specs.declared.event.Event.{Event}
use Rattle.dsde_sim_tree.specs.declared.fault.TurnEnd.{TurnEnd}
use Rattle.dsde_sim_tree.specs.Told.{◌then◌, Tells, Told}
use Rattle.dsde_core_moves.specs.Moved.{put_under}

valued-at : (own : Grove Spot) (handle : Handle) (leaf : Leaf) (held : Option (grove.Spot Spot)) → spot own handle ≡ held → IsSome (held_leaf (option_map (λ (part : grove.Spot Spot). part.value) held)) →
    value_of (with_value own handle (variant.Leaf leaf)) handle ≡ Some (variant.Leaf leaf)
valued-at own handle leaf None is some = absurd (let wrong : false ≡ true = some in cc)
valued-at own handle leaf (Some part) is some = moved-value own handle leaf part is

pub valued-here : (own : Grove Spot) (handle : Handle) (leaf : Leaf) → IsSome (held_leaf (value_of own handle)) → value_of (with_value own handle (variant.Leaf leaf)) handle ≡ Some (variant.Leaf leaf)
valued-here own handle leaf some = valued-at own handle leaf (spot own handle) refl some

-- where a component or an executive is held, a part is live
pub live-at : (held : Option (grove.Spot Spot)) → IsSome (held_leaf (option_map (λ (part : grove.Spot Spot). part.value) held)) → IsSome held
live-at None some = absurd (let wrong : false ≡ true = some in cc)
live-at (Some part) some = refl

-- what is put in twice is what was put in last
cond-twice : {X : Type 0} (b : Bool) (new old other : Option X) → cond b new (cond b old other) ≡ cond b new other
cond-twice true new old other = refl
cond-twice false new old other = refl

insert-twice : {X : Type 0} (m : map.FinMap nat_cmp X) (k : ℕ) (old new : X) → map.insert (map.insert m k old) k new ≡ map.insert m k new
insert-twice m k old new =
    same_map nat_cmp_total nat_cmp-IsAntisymmetric (map.insert (map.insert m k old) k new) (map.insert m k new) (λ q.
    get-insert nat_cmp_total (map.insert m k old) k new q
    ∙ ap (cond (eq_by_cmp nat_cmp q k) (Some new)) (get-insert nat_cmp_total m k old q)
    ∙ cond-twice (eq_by_cmp nat_cmp q k) (Some new) (Some old) (map.get m q)
    ∙ sym (get-insert nat_cmp_total m k new q))

twice-at : (own : Grove Spot) (handle : Handle) (old new : Leaf) (part : grove.Spot Spot) → spot own handle ≡ Some part →
    with_value (with_value own handle (variant.Leaf old)) handle (variant.Leaf new) ≡ with_value own handle (variant.Leaf new)
twice-at own handle old new part live =
    let mid = with_value own handle (variant.Leaf old) in
    let parts : (with_value mid handle (variant.Leaf new)).parts ≡ (with_value own handle (variant.Leaf new)).parts =
    valued mid handle (variant.Leaf new) (record part { value = variant.Leaf old }) (moved-spot own handle old part live)
    ∙ ap (λ (m : map.FinMap nat_cmp (grove.Spot Spot)). map.insert m handle.birth (record part { value = variant.Leaf new })) (valued own handle (variant.Leaf old) part live)
    ∙ insert-twice own.parts handle.birth (record part { value = variant.Leaf old }) (record part { value = variant.Leaf new })
    ∙ sym (valued own handle (variant.Leaf new) part live) in
    λ i. record { parts = parts i; next_birth = own.next_birth }

-- the part that holds a component or an executive
live-part : (held : Option (grove.Spot Spot)) → IsSome (held_leaf (option_map (λ (part : grove.Spot Spot). part.value) held)) → (part : grove.Spot Spot) × (held ≡ Some part)
live-part None some = absurd (let wrong : false ≡ true = some in cc)
live-part (Some part) some = (part, refl)

-- a component or an executive is taken out, and another one takes its place
module _ (own mid : Grove Spot) (handle : Handle) (some : IsSome (held_leaf (value_of own handle))) (left : mid ≡ with_value own handle (variant.Leaf NO_LEAF)) where
  pub still-held : IsSome (held_leaf (value_of mid handle))
  still-held =
      let here : value_of mid handle ≡ Some (variant.Leaf NO_LEAF) = ap (λ (g : Grove Spot). value_of g handle) left ∙ valued-here own handle NO_LEAF some in
      subst (λ (held : Option Spot). IsSome (held_leaf held)) (sym here) refl

  pub put-back : (new : Grove Spot) (leaf : Leaf) → new ≡ with_value mid handle (variant.Leaf leaf) → new ≡ with_value own handle (variant.Leaf leaf)
  put-back new leaf put =
      let at = live-part (spot own handle) some in
      put ∙ ap (λ (g : Grove Spot). with_value g handle (variant.Leaf leaf)) left ∙ twice-at own handle NO_LEAF leaf at.0 at.1

  pub back-held : (new : Grove Spot) (leaf : Leaf) → new ≡ with_value mid handle (variant.Leaf leaf) → value_of new handle ≡ Some (variant.Leaf leaf)
  back-held new leaf put = ap (λ (g : Grove Spot). value_of g handle) (put-back new leaf put) ∙ valued-here own handle leaf some

  pub still-waits : (rest : List Handle) (pairs : List (ℕ × Handle)) → IsScheduledBut own (handle ∷ rest) pairs → IsScheduledBut mid (handle ∷ rest) pairs
  still-waits rest pairs but =
      let at = live-part (spot own handle) some in
      let later : IsScheduledBut (with_value own handle (variant.Leaf NO_LEAF)) rest pairs = leaf-moved own handle NO_LEAF at.0 at.1 rest pairs but in
      subst (λ (g : Grove Spot). IsScheduledBut g (handle ∷ rest) pairs) (sym left) (record {
        due = λ other its next held when. elim (later.due other its next held when) [
          | inl waits ↦ inl (suc waits.0, (let below = waits.1 in omega (arith, below)), waits.2)
          | inr has ↦ inr has
        ];
      })

-- what was told of a step whose leaf was put under its handle
put-told : (events before behind : List Event) (end : Result Leaf TurnEnd) (own new : Grove Spot) (handle : Handle) (moved : Leaf) → end ≡ Ok moved → behind ≡ before ++ events → new ≡ with_value own handle (variant.Leaf moved) →
    Tells (record { events = events; end = end } then put_under own handle) before behind (Ok new)
put-told events before behind (Ok leaf) own new handle moved is told put = (
  told ∙ ap (λ (l : List Event). before ++ l) (sym (append-nil events)),
  ap (λ (r : Grove Spot). let o : Result (Grove Spot) TurnEnd = Ok r in o) (ap (λ (l : Leaf). with_value own handle (variant.Leaf l)) (let e : Ok leaf ≡ Ok moved = is in let same : leaf ≡ moved = cc in same) ∙ sym put),
)
put-told events before behind (Err end) own new handle moved is told put = absurd (let wrong : Err end ≡ Ok moved = is in cc)

pub put-tells : (step : Told Leaf) (before behind : List Event) (own new : Grove Spot) (handle : Handle) (moved : Leaf) → Tells step before behind (Ok moved) → new ≡ with_value own handle (variant.Leaf moved) →
    Tells (step then put_under own handle) before behind (Ok new)
put-tells step before behind own new handle moved told put = put-told step.events before behind step.end own new handle moved told.1 told.0 put
