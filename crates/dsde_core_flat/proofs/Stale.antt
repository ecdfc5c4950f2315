-- A schedule that loses what is stale.
use Rattle.std.proofs.Common.{◌≡◌, ◌≢◌, inl, inr, ℕ, ◌≤◌, ◌<◌, suc, zero, ◌&&◌, ◌==◌, Bool, true, false, List, [], ◌∷◌, filter, length, AllPairs, get_or, refl, sym, ap, subst, ◌∙◌, eqb-true, arith}
use Rattle.std.specs.List.{AllByRecursion, dedup}
use Rattle.std.specs.FinMap as finmap
use Rattle.dsde_bank.specs.declared.handle.Handle.{Handle}
use Rattle.dsde_grove.specs.Grove.{Grove, value_of}
use Rattle.dsde_queue.specs.Queue.{is_same}
use Rattle.dsde_sim_movers.specs.lemmas.Events.{Among, among-from, contains-from}
use Rattle.dsde_core_flat.specs.declared.spot.Spot.{Spot}
use Rattle.dsde_core_flat.specs.Scheduled.{IsScheduled, is_current}
use Rattle.dsde_core_flat.specs.lemmas.Live.{IsNext, PairsApart}
use Rattle.dsde_core_flat.specs.lemmas.Pairs.{current-next, next-current}
use Rattle.dsde_core_flat.specs.lemmas.Few.{few-pairs}
use Rattle.dsde_core_flat.proofs.Members.{among-filter, all-pass, left-once, all-once}

-- a schedule that keeps what is current, each once
module _ (own : Grove Spot) (old new : List (ℕ × Handle)) (is : new ≡ dedup is_same (filter (is_current own) old)) where
  and-both : (a b : Bool) → (a && b) ≡ true → (a ≡ true) × (b ≡ true)
  and-both true b h = (refl, h)
  and-both false b h = absurd (let wrong : false ≡ true = h in cc)

  same-exact : (p q : ℕ × Handle) → is_same p q ≡ true → p ≡ q
  same-exact p q h =
      let a = and-both (p.0 == q.0) (p.1.birth == q.1.birth && p.1.slot == q.1.slot) h in
      let b = and-both (p.1.birth == q.1.birth) (p.1.slot == q.1.slot) a.1 in
      let time = eqb-true p.0 q.0 a.0 in
      let birth = eqb-true p.1.birth q.1.birth b.0 in
      let slot = eqb-true p.1.slot q.1.slot b.1 in
      λ i. (time i, record { birth = birth i; slot = slot i })

  pub compact-schedules : IsScheduled own old → IsScheduled own new
  compact-schedules scheduled = record {
    due = λ handle leaf next held at.
        let kept = among-filter (is_current own) (next, handle) old (next-current own handle leaf next held at) (among-from old (next, handle) (scheduled.due handle leaf next held at)) in
        contains-from new (next, handle) (subst (Among (next, handle)) (sym is)
        (left-once is_same (λ p. is_current own p ≡ true) (λ x y one other same. same-exact x y same) (filter (is_current own) old) (all-pass (is_current own) old) (next, handle) kept));
  }

  all-next : (pairs : List (ℕ × Handle)) → AllByRecursion (λ p. is_current own p ≡ true) pairs → AllByRecursion (IsNext own) pairs
  all-next [] all = tt
  all-next (p ∷ pairs) all = (current-next own p all.0, all-next pairs all.1)

  pub compact-next : AllByRecursion (IsNext own) new
  compact-next = all-next new (subst (AllByRecursion (λ p. is_current own p ≡ true)) (sym is) (all-once is_same (λ p. is_current own p ≡ true) (filter (is_current own) old) (all-pass (is_current own) old)))

module _ where
  head-apart : (p : ℕ × Handle) (all pairs : List (ℕ × Handle)) → ((k : ℕ) → k < length pairs → p ≢ get_or pairs k p) → AllByRecursion (λ (q : ℕ × Handle). p ≢ q) pairs
  head-apart p all [] apart = tt
  head-apart p all (q ∷ pairs) apart = (apart zero (omega arith), head-apart p all pairs (λ k within. apart (suc k) (omega (arith, within))))

  -- pairs of which no two are the same are apart
  pub apart-from : (pairs : List (ℕ × Handle)) → AllPairs (λ (p q : ℕ × Handle). p ≢ q) pairs → PairsApart pairs
  apart-from [] apart = tt
  apart-from (p ∷ pairs) apart = (
    head-apart p pairs pairs (λ k within. apart zero (suc k) p (omega arith) (omega (arith, within))),
    apart-from pairs (λ i j d below inside. apart (suc i) (suc j) d (omega (arith, below)) (omega (arith, inside))),
  )

-- no more pairs are left than parts are live
pub compact-few : (own : Grove Spot) (old new : List (ℕ × Handle)) → new ≡ dedup is_same (filter (is_current own) old) → AllPairs (λ (p q : ℕ × Handle). p ≢ q) new → length new ≤ finmap.len own.parts
compact-few own old new is apart = few-pairs own new (compact-next own old new is) (apart-from new apart)
