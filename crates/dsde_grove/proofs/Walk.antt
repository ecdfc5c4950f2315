-- The walk from a part up to the root.
use Rattle.std.proofs.Common.{◌≡◌, ℕ, suc, ◌<◌, List, [], ◌∷◌, ◌++◌, length, length-append, reverse, Option, Some, None, refl, ap, ◌∙◌, arith}
use Rattle.std.specs.Option.{option_map, option_map_or}
use Rattle.std.proofs.lemmas.List.{reverse-append}
use Rattle.dsde_bank.specs.declared.handle.Handle.{Handle}
use Rattle.dsde_bank.specs.Bank.{Bank, found}
use Rattle.dsde_values.specs.declared.name.Name.{Name}
use Rattle.dsde_values.specs.declared.path.Path.{Path}
use Rattle.dsde_grove.specs.Grove.{Spot, depth_of, path_of}
use Rattle.dsde_grove.specs.Inside.{link, link_of, path_at, spot_in, grove_of, IsLinked}
use Rattle.dsde_grove.specs.declared.part.Part.{Part}
use Rattle.dsde_grove.proofs.Parts.{get-found, found-get, spot-found}
use Rattle.dsde_grove.proofs.Paths.{path-kid, path-root}
use Rattle.dsde_grove.proofs.Trees.{Held, falls}

pub reverse_last : {A : Type 0} (l : List A) (x : A) → reverse (l ++ x ∷ []) ≡ x ∷ reverse l
reverse_last l x = reverse-append l (x ∷ [])

-- how far the walk may still go
abbrev pub height : Option Handle → ℕ
height None = 0
height (Some at) = suc at.birth

module _ {T : Type 0} where
  -- the names down to where the walk stands
  abbrev pub path_above : Held T → Option Handle → List Name
  path_above held None = []
  path_above held (Some at) = path_at held at.birth

  -- the walk stands at a live part, or is over
  abbrev pub IsAtLive : Bank (Part T) → Option Handle → Type 0
  IsAtLive bank None = Unit {0}
  IsAtLive bank (Some at) = (part : Part T) × (found bank at ≡ Some part)

  -- one step up
  pub path-step : (bank : Bank (Part T)) (next : ℕ) → IsLinked bank.held next → (at : Handle) (part : Part T) → found bank at ≡ Some part → path_at bank.held at.birth ≡ path_above bank.held part.parent ++ part.name ∷ []
  path-step bank next lawful at part live = by part.parent refl
    where
      by : (o : Option Handle) → part.parent ≡ o → path_at bank.held at.birth ≡ path_above bank.held o ++ part.name ∷ []
      by None root = path-root (link_of bank.held) at.birth part.name (ap (option_map link) (get-found bank at part live) ∙ (λ i. Some (root i, part.name)))
      by (Some up) below = path-kid (link_of bank.held) (falls bank.held next lawful) at.birth up part.name (ap (option_map link) (get-found bank at part live) ∙ (λ i. Some (below i, part.name)))

  pub live-step : (bank : Bank (Part T)) (next : ℕ) → IsLinked bank.held next → (at : Handle) (part : Part T) → found bank at ≡ Some part → IsAtLive bank part.parent
  live-step bank next lawful at part live = by part.parent refl
    where
      by : (o : Option Handle) → part.parent ≡ o → IsAtLive bank o
      by None root = tt
      by (Some up) below = let above = lawful.up at.birth (at.slot, part) up (get-found bank at part live) below in (above.above, found-get bank up above.above above.live)

  pub lower-step : (bank : Bank (Part T)) (next : ℕ) → IsLinked bank.held next → (at : Handle) (part : Part T) → found bank at ≡ Some part → height part.parent < suc at.birth
  lower-step bank next lawful at part live = by part.parent refl
    where
      by : (o : Option Handle) → part.parent ≡ o → height o < suc at.birth
      by None root = omega arith
      by (Some up) below = let above = lawful.up at.birth (at.slot, part) up (get-found bank at part live) below in omega (arith, above.later)

  pub depth-live : (bank : Bank (Part T)) (handle : Handle) (part : Part T) → found bank handle ≡ Some part → depth_of (grove_of bank) handle ≡ length (path_at bank.held handle.birth)
  depth-live bank handle part live =
      ap (λ o. option_map_or (λ (s : Spot T). length s.path) o 0) (spot-found bank handle ∙ ap (option_map (λ p. spot_in bank.held handle.birth (handle.slot, p))) live)

  pub path_of-live : (bank : Bank (Part T)) (handle : Handle) (part : Part T) → found bank handle ≡ Some part → path_of (grove_of bank) handle ≡ Some record { names = path_at bank.held handle.birth }
  path_of-live bank handle part live =
      ap (option_map named) (spot-found bank handle ∙ ap (option_map (λ p. spot_in bank.held handle.birth (handle.slot, p))) live)
    where
      named : Spot T → Path
      named s = record { names = s.path }

  -- a step up leaves at least one name
  pub some_name : (bank : Bank (Part T)) (next : ℕ) → IsLinked bank.held next → (at : Handle) (part : Part T) → found bank at ≡ Some part → 0 < length (path_at bank.held at.birth)
  some_name bank next lawful at part live = omega (arith, ap length (path-step bank next lawful at part live), length-append (path_above bank.held part.parent) (part.name ∷ []))
