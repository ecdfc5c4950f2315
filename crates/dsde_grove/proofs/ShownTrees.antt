-- The linked parts of a bank show a tree.
use Rattle.std.proofs.Common.{◌≡◌, ℕ, ◌<◌, [], ◌∷◌, ◌++◌, Contains, Option, Some, None, refl, sym, ap, subst, ◌∙◌}
use Rattle.std.specs.Option.{option_map}
use Rattle.std.specs.FinMap as fin
use Rattle.dsde_bank.specs.declared.handle.Handle.{Handle}
use Rattle.dsde_bank.specs.Bank.{Bank}
use Rattle.dsde_grove.specs.Grove.{Spot, root_name, IsParent, IsTree}
use Rattle.dsde_grove.specs.Inside.{link, link_of, path_at, spot_in, parts_of, grove_of, IsLinked}
use Rattle.dsde_grove.specs.declared.part.Part.{Part}
use Rattle.dsde_grove.specs.Part.{Kid}
use Rattle.dsde_grove.proofs.Parts.{get-parts_of, found-get, spot-found}
use Rattle.dsde_grove.proofs.Paths.{path-kid, path-root}
use Rattle.dsde_grove.proofs.Trees.{Held, falls}
use Rattle.dsde_grove.proofs.KidLemmas.{one_kid}

module _ {T : Type 0} where
  shown_from : (held : Held T) (b : ℕ) (o : Option (ℕ × Part T)) (s : Spot T) → option_map (spot_in held b) o ≡ Some s → (x : ℕ × Part T) × (o ≡ Some x) × (spot_in held b x ≡ s)
  shown_from held b None s is = absurd (cc)
  shown_from held b (Some x) s is = let same : spot_in held b x ≡ s = cc in (x, refl, same)

  one_part : (x y : ℕ × Part T) → Some x ≡ Some y → x ≡ y
  one_part x y e = cc

  module _ (bank : Bank (Part T)) (lawful : IsLinked bank.held bank.next_birth) where
    -- the part that a birth shows
    shown : (b : ℕ) (s : Spot T) → fin.get (parts_of bank.held) b ≡ Some s → (x : ℕ × Part T) × (fin.get bank.held b ≡ Some x) × (spot_in bank.held b x ≡ s)
    shown b s is = shown_from bank.held b (fin.get bank.held b) s (sym (get-parts_of bank.held b) ∙ is)

    pub tree-shown : IsTree (grove_of bank)
    tree-shown = record { given = given; root = root; up = up; apart = apart }
      where
        given : (b : ℕ) (s : Spot T) → fin.get (parts_of bank.held) b ≡ Some s → b < bank.next_birth
        given b s is = let x = shown b s is in lawful.given b x.0 x.1

        root : (b : ℕ) (s : Spot T) → fin.get (parts_of bank.held) b ≡ Some s → s.parent ≡ None → (b ≡ 0) × (s.name ≡ root_name) × (s.path ≡ root_name ∷ [])
        root b s is bare =
            let x = shown b s is in
            let parent = ap (λ (z : Spot T). z.parent) x.2 ∙ bare in
            let was = lawful.root b x.0 x.1 parent in
            let links = ap (option_map link) x.1 ∙ (λ i. Some (parent i, x.0.1.name)) in (
              was.0,
              ap (λ (z : Spot T). z.name) (sym x.2) ∙ was.1,
              ap (λ (z : Spot T). z.path) (sym x.2) ∙ path-root (link_of bank.held) b x.0.1.name links ∙ ap (λ n. n ∷ []) was.1,
            )

        up : (b : ℕ) (s : Spot T) (p : Handle) → fin.get (parts_of bank.held) b ≡ Some s → s.parent ≡ Some p → IsParent (grove_of bank) b s p
        up b s p is below =
            let x = shown b s is in
            let parent = ap (λ (z : Spot T). z.parent) x.2 ∙ below in
            let was = lawful.up b x.0 p x.1 parent in
            let links = ap (option_map link) x.1 ∙ (λ i. Some (parent i, x.0.1.name)) in
            record {
              above = spot_in bank.held p.birth (p.slot, was.above);
              live = spot-found bank p ∙ ap (option_map (λ part. spot_in bank.held p.birth (p.slot, part))) (found-get bank p was.above was.live);
              earlier = was.later;
              path = ap (λ (z : Spot T). z.path) (sym x.2) ∙ path-kid (link_of bank.held) (falls bank.held bank.next_birth lawful) b p x.0.1.name links
                  ∙ ap (λ n. path_at bank.held p.birth ++ n ∷ []) (ap (λ (z : Spot T). z.name) x.2);
            }

        apart : (a b : ℕ) (s t : Spot T) (p : Handle) → fin.get (parts_of bank.held) a ≡ Some s → fin.get (parts_of bank.held) b ≡ Some t → s.parent ≡ Some p → t.parent ≡ Some p → s.name ≡ t.name → a ≡ b
        apart a b s t p is is' below below' names =
            let x = shown a s is in
            let y = shown b t is' in
            let over = lawful.up a x.0 p x.1 (ap (λ (z : Spot T). z.parent) x.2 ∙ below) in
            let over' = lawful.up b y.0 p y.1 (ap (λ (z : Spot T). z.parent) y.2 ∙ below') in
            let same = one_part (p.slot, over'.above) (p.slot, over.above) (sym over'.live ∙ over.live) in
            let listed' = subst (λ (z : ℕ × Part T). Contains z.1.kids record { name = y.0.1.name; handle = record { birth = b; slot = y.0.0 } }) same over'.listed in
            let named = ap (λ (z : Spot T). z.name) x.2 ∙ names ∙ ap (λ (z : Spot T). z.name) (sym y.2) in
            let kids = one_kid over.above.kids (lawful.apart p.birth (p.slot, over.above) over.live) _ _ over.listed listed' named in
            ap (λ (k : Kid). k.handle.birth) kids
