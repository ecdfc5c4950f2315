-- The kids of a part, as the tree shows them.
use Rattle.std.proofs.Common.{◌≡◌, ◌≢◌, ◌⊎◌, ◌↔◌, ℕ, ◌<◌, List, get_or, Contains, All, MatchOption, Option, Some, None, Result, Err, refl, sym, ap, subst, ◌∙◌, inl, inr, arith}
use Rattle.std.specs.Option.{option_map}
use Rattle.std.specs.List.{AllPairs}
use Rattle.std.proofs.lemmas.Bool.{cases_eq, cases_lt}
use Rattle.std.proofs.lemmas.List.{get_or_read}
use Rattle.dsde_bank.specs.declared.handle.Handle.{Handle}
use Rattle.dsde_bank.specs.Bank.{Bank, found}
use Rattle.dsde_values.specs.declared.name.Name.{Name}
use Rattle.dsde_grove.specs.Grove.{Grove, Spot, spot, IsKid}
use Rattle.dsde_grove.specs.Inside.{spot_in, grove_of, IsLinked}
use Rattle.dsde_grove.specs.declared.grove.GrowEnd.{GrowEnd}
use Rattle.dsde_grove.specs.declared.grove.GrowEnd.TheVariants.{Stale, Taken, Memory}
use Rattle.dsde_grove.specs.declared.part.Part.{Part}
use Rattle.dsde_grove.specs.Part.{Kid}
use Rattle.dsde_grove.proofs.Parts.{get-found, found-get, spot-found}

-- the kid of this name and handle
abbrev pub listing : Name → Handle → Kid
listing name handle = record { name = name; handle = handle }

either : (i j : ℕ) → i ≢ j → (i < j) ⊎ (j < i)
either i j differ = elim (cases_lt i j) [ inl less ↦ inl less | inr more ↦ inr (omega (arith, more, differ)) ]

-- kids of one name are one kid
pub one_kid : (kids : List Kid) → AllPairs (λ (a b : Kid). a.name ≢ b.name) kids → (a b : Kid) → Contains kids a → Contains kids b → a.name ≡ b.name → a ≡ b
one_kid kids distinct a b p q names =
    elim (cases_eq p.0 q.0) [
      | inl same ↦ sym p.2 ∙ ap (λ k. get_or kids k a) same ∙ sym (get_or_read kids q.0 b q.1 (sym q.2) a)
      | inr differ ↦ elim (either p.0 q.0 differ) [
        | inl less ↦ absurd (distinct p.0 q.0 a less q.1 (ap (λ (k : Kid). k.name) (p.2) ∙ names ∙ ap (λ (k : Kid). k.name) (get_or_read kids q.0 b q.1 (sym q.2) a)))
        | inr more ↦ absurd (distinct q.0 p.0 b more p.1 (ap (λ (k : Kid). k.name) (q.2) ∙ sym names ∙ ap (λ (k : Kid). k.name) (get_or_read kids p.0 a p.1 (sym p.2) b)))
      ]
    ]

pub some_option : {X : Type 0} (x y : X) → Some x ≡ Some y → x ≡ y
some_option x y e = cc

-- the answers of `grow` differ
pub stale_taken : {H V : Type 0} (v w : V) → ◌≡◌ {A = Result H (GrowEnd × V)} (Err (Stale, v)) (Err (Taken, w)) → ⊥
stale_taken {V = V} v w same = let both : ◌≡◌ {A = GrowEnd × V} (Stale, v) (Taken, w) = cc in let ends : Stale ≡ Taken = ap (λ z. z.0) both in cc

pub memory_taken : {H V : Type 0} (v w : V) → ◌≡◌ {A = Result H (GrowEnd × V)} (Err (Memory, v)) (Err (Taken, w)) → ⊥
memory_taken {V = V} v w same = let both : ◌≡◌ {A = GrowEnd × V} (Memory, v) (Taken, w) = cc in let ends : Memory ≡ Taken = ap (λ z. z.0) both in cc

-- a search that found nothing found no kid
pub no_kid : (r : Option Handle) (kid : Handle) → r ≡ None → Some r ≡ Some (Some kid) → ⊥
no_kid r kid none same = let wrong : None ≡ Some kid = sym none ∙ some_option r (Some kid) same in cc

module _ {T : Type 0} where
  shown_some : (f : Part T → Spot T) (o : Option (Part T)) (s : Spot T) → option_map f o ≡ Some s → (q : Part T) × (o ≡ Some q) × (f q ≡ s)
  shown_some f None s is = absurd (cc)
  shown_some f (Some q) s is = let same : f q ≡ s = cc in (q, refl, same)

  one_part : (x y : ℕ × Part T) → Some x ≡ Some y → x ≡ y
  one_part x y e = cc

  -- an answer that tells the kid of this name
  abbrev pub Tells : Grove T → Handle → Name → Option (Option Handle) → Type 0
  Tells grove handle name r = (kid : Handle) → (r ≡ Some (Some kid)) ↔ IsKid grove handle name kid

  -- what a live handle shows
  pub part_shown : (bank : Bank (Part T)) (handle : Handle) (s : Spot T) → spot (grove_of bank) handle ≡ Some s → (q : Part T) × (found bank handle ≡ Some q) × (spot_in bank.held handle.birth (handle.slot, q) ≡ s)
  part_shown bank handle s is = shown_some (λ part. spot_in bank.held handle.birth (handle.slot, part)) (found bank handle) s (sym (spot-found bank handle) ∙ is)

  module _ (bank : Bank (Part T)) (next : ℕ) (lawful : IsLinked bank.held next) (handle : Handle) (name : Name) where
    -- what a kid's parent lists
    pub kid_above : (kid : Handle) → IsKid (grove_of bank) handle name kid → (above : Part T) × (found bank handle ≡ Some above) × Contains above.kids (listing name kid)
    kid_above kid is =
        let q = part_shown bank kid is.part is.live in
        let parent : q.0.parent ≡ Some handle = ap (λ (s : Spot T). s.parent) q.2 ∙ is.below in
        let named : q.0.name ≡ name = ap (λ (s : Spot T). s.name) q.2 ∙ is.named in
        let up = lawful.up kid.birth (kid.slot, q.0) handle (get-found bank kid q.0 q.1) parent in
        (up.above, found-get bank handle up.above up.live, subst (λ (n : Name). Contains up.above.kids (listing n kid)) named up.listed)

    module _ (part : Part T) (live : found bank handle ≡ Some part) where
      pub kid_is : (kid : Handle) → Contains part.kids (listing name kid) → IsKid (grove_of bank) handle name kid
      kid_is kid listed =
          let down = lawful.down handle.birth (handle.slot, part) (listing name kid) (get-found bank handle part live) listed in
          record {
            part = spot_in bank.held kid.birth (kid.slot, down.below);
            live = spot-found bank kid ∙ ap (option_map (λ p. spot_in bank.held kid.birth (kid.slot, p))) (found-get bank kid down.below down.live);
            below = down.parent;
            named = down.named;
          }

      pub kid_listed : (kid : Handle) → IsKid (grove_of bank) handle name kid → Contains part.kids (listing name kid)
      kid_listed kid is =
          let above = kid_above kid is in
          let same : above.0 ≡ part = some_part above.0 part (sym above.1 ∙ live) in
          subst (λ (p : Part T). Contains p.kids (listing name kid)) same above.2
        where
          some_part : (x y : Part T) → Some x ≡ Some y → x ≡ y
          some_part x y e = cc

      -- the kid that a search finds
      pub kid_named-is : (r : Option Handle) → MatchOption r (All (λ (kid : Kid). kid.name ≢ name) part.kids) (λ kid. Contains part.kids (listing name kid)) → (kid : Handle) → (Some r ≡ Some (Some kid)) ↔ IsKid (grove_of bank) handle name kid
      kid_named-is None none kid = (
        λ wrong. absurd (cc),
        λ is. let listed = kid_listed kid is in absurd (none listed.0 (listing name kid) listed.1 (ap (λ (k : Kid). k.name) listed.2)),
      )
      kid_named-is (Some h) listed kid = (
        λ same. let one : h ≡ kid = cc in kid_is kid (subst (λ (k : Handle). Contains part.kids (listing name k)) one listed),
        λ is.
            let one = one_kid part.kids (lawful.apart handle.birth (handle.slot, part) (get-found bank handle part live)) (listing name h) (listing name kid) listed (kid_listed kid is) refl in
            λ i. Some (Some ((one i).handle)),
      )

    -- a handle that is not live has no kids
    pub no_kids : found bank handle ≡ None → (kid : Handle) → (◌≡◌ {A = Option (Option Handle)} None (Some (Some kid))) ↔ IsKid (grove_of bank) handle name kid
    no_kids stale kid = (
      λ wrong. absurd (cc),
      λ is. let above = kid_above kid is in let wrong : None ≡ Some above.0 = sym stale ∙ above.1 in absurd (cc),
    )
