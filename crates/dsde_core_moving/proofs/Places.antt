-- The networks at a place of a wiring, and a change there.
use Rattle.std.proofs.Common.{◌≡◌, Bool, true, false, cond, List, [], ◌∷◌, ◌++◌, map, Option, Some, None, refl, sym, ap, subst, ◌∙◌}
use Rattle.std.specs.Option.{option_to_list}
use Rattle.std.specs.List.{flat_map, AllByRecursion}
use Rattle.dsde_bank.specs.declared.handle.Handle.{Handle}
use Rattle.dsde_values.specs.declared.name.Name.{Name}
use Rattle.dsde_values.specs.declared.path.Path.{Path}
use Rattle.dsde_structure.specs.declared.plan.Link.{Link}
use Rattle.dsde_structure.specs.Gather.{is_same_name}
use Rattle.dsde_sim_tree.specs.Told.{below}
use Rattle.dsde_routes_wiring.specs.declared.wiring.Wiring.{Wiring}
use Rattle.dsde_routes_wiring.specs.declared.wiring.WiredKid.{WiredKid}
use Rattle.dsde_routes_wiring.specs.declared.wiring.WiredKid.TheViews.{out-Wiring, out-WiredKid}
use Rattle.dsde_routes_wiring.specs.Places.{below_at, below_changed, changed, kid_at, kid_changed, nets_at, renewed}
use Rattle.dsde_repair.specs.Change.{wiring_after}
use Rattle.dsde_core_moves.specs.given.core_flat.Change.{found, found_kid, wired_kid, wired_kid_with, wired_with, wiring_of, Standing}
use Rattle.dsde_core_moves.specs.given.core_flat.lemmas_Frame.{all-left, all-right}
use Rattle.dsde_core_moves.specs.given.core_flat.lemmas_Grafting.{flat-join}

-- the networks among parts that are found
abbrev net_in : Standing → List Wiring
net_in at = option_to_list at.own

abbrev Nets : List Name → Type 0
Nets names = (handle : Handle) (path : Path) (own : Option Wiring) → flat_map net_in (found names handle path own) ≡ below_at (nets_at names) own

one-net : (name : Name) (names : List Name) → Nets names → (path : Path) (kid : WiredKid) (b : Bool) →
    flat_map net_in (cond b (found names (out-WiredKid kid).handle (below path (out-WiredKid kid).name) (out-WiredKid kid).below) []) ≡ cond b (below_at (nets_at names) (out-WiredKid kid).below) []
one-net name names known path kid true = known (out-WiredKid kid).handle (below path (out-WiredKid kid).name) (out-WiredKid kid).below
one-net name names known path kid false = refl

kids-nets : (name : Name) (names : List Name) → Nets names → (path : Path) (kids : List WiredKid) → flat_map net_in (flat_map (found_kid name (found names) path) kids) ≡ flat_map (kid_at name (nets_at names)) kids
kids-nets name names known path [] = refl
kids-nets name names known path (kid ∷ kids) =
    flat-join net_in (found_kid name (found names) path kid) (flat_map (found_kid name (found names) path) kids)
    ∙ (λ i. one-net name names known path kid (is_same_name (out-WiredKid kid).name name) i ++ kids-nets name names known path kids i)

-- the networks that names lead to are those at that place
found-nets : (names : List Name) → Nets names
found-nets [] handle path None = refl
found-nets [] handle path (Some net) = refl
found-nets (name ∷ names) handle path None = refl
found-nets (name ∷ names) handle path (Some net) = kids-nets name names (found-nets names) path (out-Wiring net).kids

pub leads-there : (names : List Name) (top handle : Handle) (path at : Path) (wiring net : Wiring) → found names top path (Some wiring) ≡ record { handle = handle; path = at; own = Some net } ∷ [] → nets_at names wiring ≡ net ∷ []
leads-there names top handle path at wiring net is = sym (found-nets names top path (Some wiring)) ∙ ap (flat_map net_in) is

-- a change at a place, as both say it
abbrev Changes : (Wiring → Wiring) → List Name → Type 0
Changes f names = (own : Option Wiring) → below_changed (changed names f) own ≡ wired_with names (below_changed f) own

module _ (f : Wiring → Wiring) where
  one-changed : (name : Name) (names : List Name) → Changes f names → (kid : WiredKid) (b : Bool) →
      cond b (wired_kid (out-WiredKid kid).name (out-WiredKid kid).handle (below_changed (changed names f) (out-WiredKid kid).below)) kid ≡ cond b (wired_kid (out-WiredKid kid).name (out-WiredKid kid).handle (wired_with names (below_changed f) (out-WiredKid kid).below)) kid
  one-changed name names known kid true = ap (λ (own : Option Wiring). wired_kid (out-WiredKid kid).name (out-WiredKid kid).handle own) (known (out-WiredKid kid).below)
  one-changed name names known kid false = refl

  kids-changed : (name : Name) (names : List Name) → Changes f names → (kids : List WiredKid) → map (kid_changed name (changed names f)) kids ≡ map (wired_kid_with name (wired_with names (below_changed f))) kids
  kids-changed name names known [] = refl
  kids-changed name names known (kid ∷ kids) = λ i. one-changed name names known kid (is_same_name (out-WiredKid kid).name name) i ∷ kids-changed name names known kids i

  changed-with : (names : List Name) → Changes f names
  changed-with [] own = refl
  changed-with (name ∷ names) None = refl
  changed-with (name ∷ names) (Some net) =
      ap (λ (kids : List WiredKid). let made : Option Wiring = Some (wiring_of (out-Wiring net).me (out-Wiring net).boss (out-Wiring net).links kids) in made) (kids-changed name names (changed-with names) (out-Wiring net).kids)

-- changes that agree on what is found are one
module _ (one other : Option Wiring → Option Wiring) where
  abbrev Agree : Standing → Type 0
  Agree at = one at.own ≡ other at.own

  abbrev Agrees : List Name → Type 0
  Agrees names = (handle : Handle) (path : Path) (own : Option Wiring) → AllByRecursion Agree (found names handle path own) → wired_with names one own ≡ wired_with names other own

  one-agrees : (name : Name) (names : List Name) → Agrees names → (path : Path) (kid : WiredKid) (b : Bool) → AllByRecursion Agree (cond b (found names (out-WiredKid kid).handle (below path (out-WiredKid kid).name) (out-WiredKid kid).below) []) →
      cond b (wired_kid (out-WiredKid kid).name (out-WiredKid kid).handle (wired_with names one (out-WiredKid kid).below)) kid ≡ cond b (wired_kid (out-WiredKid kid).name (out-WiredKid kid).handle (wired_with names other (out-WiredKid kid).below)) kid
  one-agrees name names known path kid true agree =
      ap (λ (own : Option Wiring). wired_kid (out-WiredKid kid).name (out-WiredKid kid).handle own) (known (out-WiredKid kid).handle (below path (out-WiredKid kid).name) (out-WiredKid kid).below agree)
  one-agrees name names known path kid false agree = refl

  kids-agree : (name : Name) (names : List Name) → Agrees names → (path : Path) (kids : List WiredKid) → AllByRecursion Agree (flat_map (found_kid name (found names) path) kids) →
      map (wired_kid_with name (wired_with names one)) kids ≡ map (wired_kid_with name (wired_with names other)) kids
  kids-agree name names known path [] agree = refl
  kids-agree name names known path (kid ∷ kids) agree =
      λ i.
      one-agrees name names known path kid (is_same_name (out-WiredKid kid).name name) (all-left Agree (found_kid name (found names) path kid) (flat_map (found_kid name (found names) path) kids) agree) i
      ∷ kids-agree name names known path kids (all-right Agree (found_kid name (found names) path kid) (flat_map (found_kid name (found names) path) kids) agree) i

  agrees-with : (names : List Name) → Agrees names
  agrees-with [] handle path own agree = agree.0
  agrees-with (name ∷ names) handle path None agree = refl
  agrees-with (name ∷ names) handle path (Some net) agree =
      ap (λ (kids : List WiredKid). let made : Option Wiring = Some (wiring_of (out-Wiring net).me (out-Wiring net).boss (out-Wiring net).links kids) in made) (kids-agree name names (agrees-with names) path (out-Wiring net).kids agree)

pub change-alike : (names : List Name) (top handle : Handle) (path at : Path) (wiring net : Wiring) (kids : List WiredKid) (links : List Link) → found names top path (Some wiring) ≡ record { handle = handle; path = at; own = Some net } ∷ [] →
    Some (wiring_after names kids links wiring) ≡ wired_with names (λ was. Some (wiring_of (out-Wiring net).me (out-Wiring net).boss links kids)) (Some wiring)
change-alike names top handle path at wiring net kids links is =
    let made : Option Wiring → Option Wiring = λ was. Some (wiring_of (out-Wiring net).me (out-Wiring net).boss links kids) in
    changed-with (renewed links kids) names (Some wiring)
    ∙ agrees-with (below_changed (renewed links kids)) made names top path (Some wiring) (subst (AllByRecursion (Agree (below_changed (renewed links kids)) made)) (sym is) (refl, tt))
