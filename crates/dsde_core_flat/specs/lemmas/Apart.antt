-- Where components are told by their names, no two places have one path, and no two have one birth.
use Rattle.std.proofs.Common.{◌≡◌, ◌≢◌, inl, inr, ℕ, ◌+◌, false, List, [], ◌∷◌, ◌++◌, length, map, Option, Some, None, sym, ap, subst, ◌∙◌, arith}
use Rattle.std.specs.List.{flat_map, AllByRecursion}
use Rattle.std.specs.FinMap as map
use Rattle.std.proofs.lemmas.List.{append-nil, length-map}
use Rattle.dsde_bank.specs.declared.handle.Handle.{Handle}
use Rattle.dsde_values.specs.declared.name.Name.{Name}
use Rattle.dsde_values.specs.declared.path.Path.{Path}
use Rattle.dsde_routes_wiring.specs.given.structure.plan_Entry.{Entry}
use Rattle.dsde_values.specs.Path.{EXEC}
use Rattle.dsde_sim_tree.specs.Told.{below, to_boss}
use Rattle.dsde_grove.specs.Grove as grove
use Rattle.dsde_grove.specs.Grove.{Grove, DropsSubtree, spot, value_of}
use Rattle.dsde_sim_tree.specs.declared.sim.Kid.{Kid}
use Rattle.dsde_sim_tree.specs.declared.sim.Net.{Net}
use Rattle.dsde_sim_tree.specs.declared.sim.Sim.{Sim}
use Rattle.dsde_sim_tree.specs.declared.sim.Sim.TheVariants as sim
use Rattle.dsde_sim_tree.specs.declared.sim.Sim.TheOpen.{Net-F, Kid-F}
use Rattle.dsde_sim_tree.specs.declared.sim.Sim.TheViews.{out-Kid, out-Net, out-roll-Kid, out-roll-Net}
use Rattle.dsde_sim_tree.specs.Tree.{parts_of_kid, entry_of}
use Rattle.dsde_core_flat.specs.declared.spot.Spot.{Spot}
use Rattle.dsde_routes_wiring.specs.declared.wiring.Wiring.{Wiring}
use Rattle.dsde_routes_wiring.specs.declared.wiring.WiredKid.{WiredKid}
use Rattle.dsde_routes_wiring.specs.declared.wiring.WiredKid.TheViews.{out-Wiring, out-WiredKid}
use Rattle.dsde_core_flat.specs.Shown.{Look, leaf_in, model_in, args_in, net_under, kid_under, part_under}
use Rattle.dsde_core_flat.specs.Places.{Place, place, net_places, kid_places, part_places}
use Rattle.dsde_core_flat.specs.lemmas.Opened.{kid-shows, net-shows, kid-stands, net-stands, OfKid}
use Rattle.dsde_routes_wiring.specs.Opened.{each_wiring, Beneath}
use Rattle.dsde_core_flat.specs.lemmas.Frame.{all-join}
use Rattle.dsde_core_flat.specs.lemmas.Beneath.{all-map, IsBeneath, places-beneath}
use Rattle.dsde_core_flat.specs.Stands.{StandsAt, HasBirth, Leads}
use Rattle.dsde_core_flat.specs.lemmas.Keeping.{spot-got}
use Rattle.dsde_core_flat.specs.Named.{AreToldApart, HasOwnNames, KidHasOwnNames}
use Rattle.dsde_core_flat.specs.lemmas.Growing.{net-named, heads-alike, longer}
use Rattle.dsde_core_flat.specs.lemmas.Counting.{parts-kid, births, NoTwice, IsHeld, IsLost, fewer, places-count}

-- no two of these places have one path
abbrev pub PathsApart : List Place → Type 0
PathsApart [] = Unit {0}
PathsApart (at ∷ others) = AllByRecursion (λ (other : Place). at.path.names ≢ other.path.names) others × PathsApart others

abbrev Crossed : List Place → List Place → Type 0
Crossed xs ys = AllByRecursion (λ (x : Place). AllByRecursion (λ (y : Place). x.path.names ≢ y.path.names) ys) xs

apart-join : (xs ys : List Place) → PathsApart xs → PathsApart ys → Crossed xs ys → PathsApart (xs ++ ys)
apart-join [] ys one other cross = other
apart-join (x ∷ xs) ys one other cross =
    (all-join (λ (other : Place). x.path.names ≢ other.path.names) xs ys one.0 cross.0, apart-join xs ys one.1 other cross.1)

-- a place beneath a name that is none of these
pub record IsElse (path : Path) (name : Name) (at : Place) : Type 0 where
  pub other : Name
  pub under : IsBeneath (path.names ++ other ∷ []) at
  pub apart : name ≢ other

crossed-one : (path : Path) (name : Name) (x : Place) → IsBeneath (path.names ++ name ∷ []) x → (ys : List Place) → AllByRecursion (IsElse path name) ys → AllByRecursion (λ (y : Place). x.path.names ≢ y.path.names) ys
crossed-one path name x under [] elses = tt
crossed-one path name x under (y ∷ ys) elses =
    ((λ same. elses.0.apart (heads-alike path.names name elses.0.other under.rest elses.0.under.rest x.path.names under.is (same ∙ elses.0.under.is))), crossed-one path name x under ys elses.1)

crossed : (path : Path) (name : Name) (xs ys : List Place) → AllByRecursion (IsBeneath (path.names ++ name ∷ [])) xs → AllByRecursion (IsElse path name) ys → Crossed xs ys
crossed path name [] ys under elses = tt
crossed path name (x ∷ xs) ys under elses = (crossed-one path name x under.0 ys elses, crossed path name xs ys under.1 elses)

kid-beneath : (kid : WiredKid) (path : Path) → AllByRecursion (IsBeneath (path.names ++ (out-WiredKid kid).name ∷ [])) (kid_places kid path)
kid-beneath kid path = subst (AllByRecursion (IsBeneath (path.names ++ (out-WiredKid kid).name ∷ []))) (sym (kid-stands kid path))
    (places-beneath (out-WiredKid kid).handle (below path (out-WiredKid kid).name) (out-WiredKid kid).below)

-- what stands beneath a network has longer paths
abbrev IsInner : Path → Place → Type 0
IsInner path at = path.names ≢ at.path.names

inner : (path : Path) (name : Name) (at : Place) → IsBeneath (path.names ++ name ∷ []) at → IsInner path at
inner path name at under same = longer path.names name under.rest (same ∙ under.is)

inner-kids : (path : Path) (kids : List WiredKid) → AllByRecursion (IsInner path) (flat_map (λ (kid : WiredKid). kid_places kid path) kids)
inner-kids path [] = tt
inner-kids path (kid ∷ kids) =
    all-join (IsInner path) (kid_places kid path) (flat_map (λ (k : WiredKid). kid_places k path) kids)
    (all-map (IsBeneath (path.names ++ (out-WiredKid kid).name ∷ [])) (IsInner path) (inner path (out-WiredKid kid).name) (kid_places kid path) (kid-beneath kid path)) (inner-kids path kids)

inner-net : (net : Wiring) (path : Path) → AllByRecursion (IsInner path) (net_places net path)
inner-net net path = subst (AllByRecursion (IsInner path)) (sym (net-stands net path))
    (all-join (IsInner path) (flat_map (λ (k : WiredKid). kid_places k path) (out-Wiring net).kids) (place (out-Wiring net).boss (to_boss path) false ∷ [])
    (inner-kids path (out-Wiring net).kids) (inner path EXEC (place (out-Wiring net).boss (to_boss path) false) (record { rest = []; is = sym (append-nil (path.names ++ EXEC ∷ [])) }), tt))

module _ (look : Look) where
  pub name-shown : (kid : WiredKid) → (out-Kid (kid_under look kid)).name ≡ (out-WiredKid kid).name
  name-shown kid =
      let own : Kid-F Sim Kid Net = record { name = (out-WiredKid kid).name; sim = part_under look (out-WiredKid kid).handle (out-WiredKid kid).below } in
      ap (λ (k : Kid-F Sim Kid Net). k.name) (ap out-Kid (kid-shows look kid) ∙ out-roll-Kid own)

  pub sim-shown : (kid : WiredKid) → (out-Kid (kid_under look kid)).sim ≡ part_under look (out-WiredKid kid).handle (out-WiredKid kid).below
  sim-shown kid =
      let own : Kid-F Sim Kid Net = record { name = (out-WiredKid kid).name; sim = part_under look (out-WiredKid kid).handle (out-WiredKid kid).below } in
      ap (λ (k : Kid-F Sim Kid Net). k.sim) (ap out-Kid (kid-shows look kid) ∙ out-roll-Kid own)

  abbrev AreApart : Wiring → Type 0
  AreApart net = (handle : Handle) (path : Path) → HasOwnNames (sim.Net (net_under look net handle)) → PathsApart (net_places net path)

  part-apart : (handle : Handle) (path : Path) (own : Option Wiring) → Beneath AreApart own → HasOwnNames (part_under look handle own) → PathsApart (part_places handle path own)
  part-apart handle path None known names = (tt, tt)
  part-apart handle path (Some net) known names = (inner-net net path, known handle path names)

  elses : (path : Path) (name : Name) (kids : List WiredKid) → AllByRecursion (λ (other : Entry). name ≢ other.name) (map entry_of (map (kid_under look) kids)) →
      AllByRecursion (IsElse path name) (flat_map (λ (kid : WiredKid). kid_places kid path) kids)
  elses path name [] apart = tt
  elses path name (kid ∷ kids) apart =
      all-join (IsElse path name) (kid_places kid path) (flat_map (λ (k : WiredKid). kid_places k path) kids)
      (all-map (IsBeneath (path.names ++ (out-WiredKid kid).name ∷ [])) (IsElse path name)
      (λ at under. record { other = (out-WiredKid kid).name; under = under; apart = λ same. apart.0 (same ∙ sym (name-shown kid)) }) (kid_places kid path) (kid-beneath kid path))
      (elses path name kids apart.1)

  kids-apart : (path : Path) (kids : List WiredKid) → AllByRecursion (OfKid AreApart) kids → AreToldApart (map entry_of (map (kid_under look) kids)) → AllByRecursion KidHasOwnNames (map (kid_under look) kids) →
      PathsApart (flat_map (λ (kid : WiredKid). kid_places kid path) kids)
  kids-apart path [] known named names = tt
  kids-apart path (kid ∷ kids) known named names =
      apart-join (kid_places kid path) (flat_map (λ (k : WiredKid). kid_places k path) kids)
      (subst PathsApart (sym (kid-stands kid path)) (part-apart (out-WiredKid kid).handle (below path (out-WiredKid kid).name) (out-WiredKid kid).below known.0 (subst HasOwnNames (sim-shown kid) names.0)))
      (kids-apart path kids known.1 named.2 names.1)
      (crossed path (out-WiredKid kid).name (kid_places kid path) (flat_map (λ (k : WiredKid). kid_places k path) kids) (kid-beneath kid path)
      (elses path (out-WiredKid kid).name kids (subst (λ (n : Name). AllByRecursion (λ (other : Entry). n ≢ other.name) (map entry_of (map (kid_under look) kids))) (name-shown kid) named.1)))

  boss-crossed : (path : Path) (boss : Handle) (kids : List WiredKid) → AreToldApart (map entry_of (map (kid_under look) kids)) →
      Crossed (flat_map (λ (kid : WiredKid). kid_places kid path) kids) (place boss (to_boss path) false ∷ [])
  boss-crossed path boss [] named = tt
  boss-crossed path boss (kid ∷ kids) named =
      let last = place boss (to_boss path) false ∷ [] in
      all-join (λ (x : Place). AllByRecursion (λ (y : Place). x.path.names ≢ y.path.names) last) (kid_places kid path) (flat_map (λ (k : WiredKid). kid_places k path) kids)
      (crossed path (out-WiredKid kid).name (kid_places kid path) last (kid-beneath kid path)
      (record { other = EXEC; under = record { rest = []; is = sym (append-nil (path.names ++ EXEC ∷ [])) }; apart = λ same. named.0 (sym same ∙ sym (name-shown kid)) }, tt))
      (boss-crossed path boss kids named.2)

  net-apart : (net : Wiring) → AreApart net
  net-apart = each_wiring AreApart (λ net known handle path names.
      let own : Net-F Sim Kid Net = record { model = model_in (look handle); args = args_in (look handle); boss = leaf_in (look (out-Wiring net).boss); kids = map (kid_under look) (out-Wiring net).kids; links = (out-Wiring net).links } in
      let opened = net-named (net_under look net handle) names in
      let is : (out-Net (net_under look net handle)).kids ≡ map (kid_under look) (out-Wiring net).kids = ap (λ (n : Net-F Sim Kid Net). n.kids) (ap out-Net (net-shows look net handle) ∙ out-roll-Net own) in
      let named = subst (λ (ks : List Kid). AreToldApart (map entry_of ks)) is opened.0 in
      let within = subst (AllByRecursion KidHasOwnNames) is opened.1 in
      subst PathsApart (sym (net-stands net path))
      (apart-join (flat_map (λ (kid : WiredKid). kid_places kid path) (out-Wiring net).kids) (place (out-Wiring net).boss (to_boss path) false ∷ [])
      (kids-apart path (out-Wiring net).kids known named within) (tt, tt) (boss-crossed path (out-Wiring net).boss (out-Wiring net).kids named)))

  every : (own : Option Wiring) → Beneath AreApart own
  every None = tt
  every (Some net) = net-apart net

  pub paths-apart : (handle : Handle) (path : Path) (own : Option Wiring) → HasOwnNames (part_under look handle own) → PathsApart (part_places handle path own)
  paths-apart handle path own names = part-apart handle path own (every own) names

  all-every : (kids : List WiredKid) → AllByRecursion (OfKid AreApart) kids
  all-every [] = tt
  all-every (kid ∷ kids) = (every (out-WiredKid kid).below, all-every kids)

  -- so do components of a network
  pub kids-paths-apart : (path : Path) (kids : List WiredKid) → AreToldApart (map entry_of (map (kid_under look) kids)) → AllByRecursion KidHasOwnNames (map (kid_under look) kids) → PathsApart (flat_map (λ (kid : WiredKid). kid_places kid path) kids)
  kids-paths-apart path kids named names = kids-apart path kids (all-every kids) named names

-- places that have their paths in a grove
module _ (own : Grove Spot) where
  births-differ : (at : Place) → StandsAt own at → (others : List Place) → AllByRecursion (StandsAt own) others → AllByRecursion (λ (other : Place). at.path.names ≢ other.path.names) others →
      AllByRecursion (λ (other : ℕ). at.handle.birth ≢ other) (births others)
  births-differ at stands [] all apart = tt
  births-differ at stands (other ∷ others) all apart = (
    (λ same.
        let one : map.get own.parts other.handle.birth ≡ Some stands.part = ap (map.get own.parts) (sym same) ∙ spot-got own at.handle stands.part stands.live in
        let two : map.get own.parts other.handle.birth ≡ Some all.0.part = spot-got own other.handle all.0.part all.0.live in
        let parts_same : stands.part ≡ all.0.part = cc in
        apart.0 (sym stands.path ∙ ap (λ (p : grove.Spot Spot). p.path) parts_same ∙ all.0.path)),
    births-differ at stands others all.1 apart.1,
  )

  pub no-birth-twice : (ats : List Place) → AllByRecursion (StandsAt own) ats → PathsApart ats → NoTwice (births ats)
  no-birth-twice [] all apart = tt
  no-birth-twice (at ∷ ats) all apart = (births-differ at all.0 ats all.1 apart.0, no-birth-twice ats all.1 apart.1)

  pub births-held : (ats : List Place) → AllByRecursion (StandsAt own) ats → AllByRecursion (IsHeld (grove.Spot Spot) own.parts) (births ats)
  births-held [] all = tt
  births-held (at ∷ ats) all = ((all.0.part, spot-got own at.handle all.0.part all.0.live), births-held ats all.1)

-- not among the births of places
pub no-birth : (birth : ℕ) (ats : List Place) → AllByRecursion (λ (other : ℕ). other ≢ birth) (births ats) → ¬ HasBirth birth ats
no-birth birth [] out has = has
no-birth birth (at ∷ ats) out (inl here) = out.0 here
no-birth birth (at ∷ ats) out (inr later) = no-birth birth ats out.1 later

-- The parts that leave with a component are as many as its simulator has.
module _ (own new : Grove Spot) (top : Handle) (path : Path) (kid : WiredKid) (drops : DropsSubtree own new top)
    (at : drops.part.path ≡ path.names ++ (out-WiredKid kid).name ∷ []) (stands : AllByRecursion (StandsAt own) (kid_places kid path)) (names : KidHasOwnNames (kid_under (value_of own) kid))
    (only : (birth : ℕ) (part : grove.Spot Spot) → map.get own.parts birth ≡ Some part → Leads (path.names ++ (out-WiredKid kid).name ∷ []) part.path → HasBirth birth (kid_places kid path)) where
  lost-each : (ats : List Place) → AllByRecursion (StandsAt own) ats → AllByRecursion (IsBeneath (path.names ++ (out-WiredKid kid).name ∷ [])) ats → AllByRecursion (IsLost (grove.Spot Spot) new.parts) (births ats)
  lost-each [] all under = tt
  lost-each (one ∷ ats) all under = (
    elim (drops.either one.handle.birth) [
      | inl gone ↦ gone.1
      | inr kept ↦ absurd (kept.0 (record {
        part = all.0.part;
        live = spot-got own one.handle all.0.part all.0.live;
        rest = under.0.rest;
        path = all.0.path ∙ under.0.is ∙ ap (λ (n : List Name). n ++ under.0.rest) (sym at);
      }))
    ],
    lost-each ats all.1 under.1,
  )

  pub drop-count : map.len new.parts + parts_of_kid (kid_under (value_of own) kid) ≡ map.len own.parts
  drop-count =
      let ats = kid_places kid path in
      let apart : PathsApart ats = subst PathsApart (sym (kid-stands kid path)) (paths-apart (value_of own) (out-WiredKid kid).handle (below path (out-WiredKid kid).name) (out-WiredKid kid).below (subst HasOwnNames (sim-shown (value_of own) kid) names)) in
      let less = fewer (grove.Spot Spot) (births ats) own.parts new.parts (no-birth-twice own ats stands apart) (births-held own ats stands) (lost-each ats stands (kid-beneath kid path))
      (λ birth out. elim (drops.either birth) [
        | inl gone ↦ absurd (no-birth birth ats out (only birth gone.0.part gone.0.live (record { rest = gone.0.rest; is = gone.0.path ∙ ap (λ (n : List Name). n ++ gone.0.rest) at })))
        | inr kept ↦ kept.1
      ]) in
      let count : length ats ≡ parts_of_kid (kid_under (value_of own) kid) =
      ap length (kid-stands kid path) ∙ places-count (value_of own) (out-WiredKid kid).handle (below path (out-WiredKid kid).name) (out-WiredKid kid).below
      ∙ sym (ap parts_of_kid (kid-shows (value_of own) kid) ∙ parts-kid (value_of own) (out-WiredKid kid).name (part_under (value_of own) (out-WiredKid kid).handle (out-WiredKid kid).below)) in
      let births_count : length (births ats) ≡ length ats = length-map ats (λ (a : Place). a.handle.birth) in
      omega (arith, less, count, births_count)
