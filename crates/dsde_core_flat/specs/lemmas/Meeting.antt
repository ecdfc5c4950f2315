-- The part of a tree where names lead is what the wiring has there.
use Rattle.std.proofs.Common.{◌≡◌, ◌≢◌, ◌⊎◌, inl, inr, ℕ, Bool, true, false, cond, List, [], ◌∷◌, ◌++◌, map, Option, Some, None, option_and_then, refl, sym, ap, subst, ◌∙◌, append_assoc, rules}
use Rattle.std.specs.declared.cmp.Ordering.TheVariants.{Less, Equal}
use Rattle.std.specs.List.{flat_map, AllByRecursion}
use Rattle.std.specs.Cmp.{IsTotalOrder}
use Rattle.std.specs.Cmp.Rules.{comparing}
use Rattle.std.proofs.lemmas.Cmp.{tied_itself}
use Rattle.std.proofs.lemmas.Map.Keys.{sorted_head, sorted_tail}
use Rattle.dsde_bank.specs.declared.handle.Handle.{Handle}
use Rattle.dsde_values.specs.declared.name.Name.{Name}
use Rattle.dsde_values.specs.declared.path.Path.{Path}
use Rattle.dsde_values.specs.Path.{name_cmp}
use Rattle.dsde_routes_wiring.specs.given.structure.plan_Entry.{Entry}
use Rattle.dsde_routes_wiring.specs.given.structure.Gather.{is_same_name}
use Rattle.dsde_routes_wiring.specs.given.structure.Survival as entry
use Rattle.dsde_values.specs.Path.{EXEC}
use Rattle.dsde_sim_tree.specs.Told.{below}
use Rattle.dsde_sim_tree.specs.declared.sim.Kid.{Kid}
use Rattle.dsde_sim_tree.specs.declared.sim.Net.{Net}
use Rattle.dsde_sim_tree.specs.declared.sim.Sim.{Sim}
use Rattle.dsde_sim_tree.specs.declared.sim.Sim.TheVariants as sim
use Rattle.dsde_sim_tree.specs.declared.sim.Sim.TheOpen as layer
use Rattle.dsde_sim_tree.specs.declared.sim.Sim.TheOpen.{Sim-F, Kid-F, Net-F}
use Rattle.dsde_sim_tree.specs.declared.sim.Sim.TheViews.{out-Sim, out-Kid, out-Net, out-roll-Kid, out-roll-Net, roll-Sim, roll-out-Sim, rolls-Net}
use Rattle.dsde_sim_tree.specs.Start.{kid_of, net_of}
use Rattle.dsde_sim_tree.specs.Tree.{entry_of}
use Rattle.dsde_sim_tree.specs.Spots as tree
use Rattle.dsde_sim_tree.specs.Spots.{spots}
use Rattle.dsde_sim_movers.specs.Parts as movers
use Rattle.dsde_sim_movers.specs.Names as law
use Rattle.dsde_core_flat.specs.declared.spot.Spot.{Spot}
use Rattle.dsde_routes_wiring.specs.declared.wiring.Wiring.{Wiring}
use Rattle.dsde_routes_wiring.specs.declared.wiring.WiredKid.{WiredKid}
use Rattle.dsde_routes_wiring.specs.declared.wiring.WiredKid.TheViews.{out-Wiring, out-WiredKid}
use Rattle.dsde_core_flat.specs.Shown.{Look, leaf_in, model_in, args_in, net_under, kid_under, part_under}
use Rattle.dsde_core_flat.specs.lemmas.Opened.{kid-shows, net-shows}
use Rattle.dsde_core_flat.specs.Change.{kid_changed, with_kids, changed_at, Standing, found_kid, found}
use Rattle.dsde_core_flat.specs.lemmas.Context.{out-Leaf, out-Network}
use Rattle.dsde_core_flat.specs.lemmas.Names.{name-exact, name-apart, same-itself}
use Rattle.dsde_core_flat.specs.Named.{AreToldApart, TellsParts, HasOwnNames, KidHasOwnNames}
use Rattle.dsde_core_flat.specs.lemmas.Growing.{net-named}
use Rattle.dsde_core_flat.specs.lemmas.Apart.{name-shown, sim-shown}

-- names in their order, none of them an executive's, tell components
later-names : (first : Name) (entries : List Entry) → AllByRecursion (λ (y : Name). name_cmp first y ≡ Less) (entry.names entries) → AllByRecursion (λ (other : Entry). first ≢ other.name) entries
later-names first [] all = tt
later-names first (own ∷ entries) all =
    ((λ same. let here : name_cmp first first ≡ Less = ap (name_cmp first) same ∙ all.0 in let wrong : Less ≡ Equal = sym here ∙ tied_itself total first in cc), later-names first entries all.1)
  where
    total : IsTotalOrder name_cmp
    total = search (comparing, rules)

pub told-apart : (entries : List Entry) → entry.AreInOrder (entry.names entries) → AllByRecursion (λ (name : Name). is_same_name EXEC name ≡ false) (entry.names entries) → AreToldApart entries
told-apart [] order ordinary = tt
told-apart (own ∷ entries) order ordinary = (
  name-apart EXEC own.name ordinary.0,
  later-names own.name entries (sorted_head name_cmp own.name (entry.names entries) order),
  told-apart entries (sorted_tail name_cmp own.name (entry.names entries) order) ordinary.1,
)

each-spot : (all : List tree.Spot) → AllByRecursion law.HasNames all → AllByRecursion TellsParts all
each-spot [] all = tt
each-spot (inl leaf ∷ rest) all = (tt, each-spot rest all.1)
each-spot (inr shape ∷ rest) all = (told-apart shape.entries all.0.order all.0.ordinary, each-spot rest all.1)

-- what the law asks of a tree is what tells its components
pub tree-names : (own : Sim) → law.IsNamed own → HasOwnNames own
tree-names own named = record { all = each-spot (spots own) named }

some-same : (one other : Sim) → (let o : Option Sim = Some one in o) ≡ Some other → one ≡ other
some-same one other is = cc

-- The wiring has one part where names lead to one, and shows it.
module _ (look : Look) where
  -- no component has a name that another one has
  none-named : (key : Name) (name : Name) (names : List Name) (kids : List WiredKid) (path : Path) → key ≡ name → AllByRecursion (λ (other : Entry). key ≢ other.name) (map entry_of (map (kid_under look) kids)) →
      flat_map (found_kid name (found names) path) kids ≡ []
  none-named key name names [] path is apart = refl
  none-named key name names (kid ∷ kids) path is apart =
      let here : (b : Bool) → is_same_name (out-WiredKid kid).name name ≡ b → cond b (found names (out-WiredKid kid).handle (below path (out-WiredKid kid).name) (out-WiredKid kid).below) [] ≡ [] =
      λ b. elim b as (λ (t : Bool). is_same_name (out-WiredKid kid).name name ≡ t → cond t (found names (out-WiredKid kid).handle (below path (out-WiredKid kid).name) (out-WiredKid kid).below) [] ≡ []) [
        | true ↦ λ yes. absurd (apart.0 (is ∙ sym (name-exact (out-WiredKid kid).name name yes) ∙ sym (name-shown look kid)))
        | false ↦ λ no. refl
      ] in
      ap (λ (own : List Standing). own ++ flat_map (found_kid name (found names) path) kids) (here (is_same_name (out-WiredKid kid).name name) refl)
      ∙ none-named key name names kids path is apart.1

  pub record IsOne (names : List Name) (handle : Handle) (path : Path) (own : Option Wiring) (part : Sim) : Type 0 where
    pub at : Standing
    pub is : found names handle path own ≡ at ∷ []
    pub shows : part_under look at.handle at.own ≡ part

  abbrev Finds : List Name → Type 0
  Finds names = (handle : Handle) (path : Path) (own : Option Wiring) (part : Sim) → HasOwnNames (part_under look handle own) → movers.part_at names (part_under look handle own) ≡ Some part → IsOne names handle path own part

  pub record IsOneKid (name : Name) (names : List Name) (kids : List WiredKid) (path : Path) (part : Sim) : Type 0 where
    pub at : Standing
    pub is : flat_map (found_kid name (found names) path) kids ≡ at ∷ []
    pub shows : part_under look at.handle at.own ≡ part

  kid-finds : (name : Name) (names : List Name) → Finds names → (kid : WiredKid) (kids : List WiredKid) (path : Path) (part : Sim) (b : Bool) → is_same_name (out-WiredKid kid).name name ≡ b →
      AreToldApart (map entry_of (map (kid_under look) (kid ∷ kids))) → HasOwnNames (out-Kid (kid_under look kid)).sim →
      (option_and_then (movers.part_at names) (movers.kid_named name (map (kid_under look) kids)) ≡ Some part → IsOneKid name names kids path part) →
      option_and_then (movers.part_at names) (cond b (Some (out-Kid (kid_under look kid)).sim) (movers.kid_named name (map (kid_under look) kids))) ≡ Some part →
      (at : Standing) × (cond b (found names (out-WiredKid kid).handle (below path (out-WiredKid kid).name) (out-WiredKid kid).below) [] ++ flat_map (found_kid name (found names) path) kids ≡ at ∷ []) × (part_under look at.handle at.own ≡ part)
  kid-finds name names known kid kids path part true same named within later is =
      let shown = sim-shown look kid in
      let one = known (out-WiredKid kid).handle (below path (out-WiredKid kid).name) (out-WiredKid kid).below part (subst HasOwnNames shown within) (ap (movers.part_at names) (sym shown) ∙ is) in (
        one.at,
        ap (λ (own : List Standing). own ++ flat_map (found_kid name (found names) path) kids) one.is
            ∙ ap (λ (own : List Standing). one.at ∷ own) (none-named (out-Kid (kid_under look kid)).name name names kids path (name-shown look kid ∙ name-exact (out-WiredKid kid).name name same) named.1),
        one.shows,
      )
  kid-finds name names known kid kids path part false same named within later is =
      let one = later is in (one.at, one.is, one.shows)

  kids-find : (name : Name) (names : List Name) → Finds names → (kids : List WiredKid) (path : Path) (part : Sim) →
      AreToldApart (map entry_of (map (kid_under look) kids)) → AllByRecursion KidHasOwnNames (map (kid_under look) kids) →
      option_and_then (movers.part_at names) (movers.kid_named name (map (kid_under look) kids)) ≡ Some part → IsOneKid name names kids path part
  kids-find name names known [] path part named within is = absurd (let wrong : None ≡ Some part = is in cc)
  kids-find name names known (kid ∷ kids) path part named within is =
      let b : is_same_name (out-Kid (kid_under look kid)).name name ≡ is_same_name (out-WiredKid kid).name name = ap (λ (n : Name). is_same_name n name) (name-shown look kid) in
      let one = kid-finds name names known kid kids path part (is_same_name (out-WiredKid kid).name name) refl named within.0
      (kids-find name names known kids path part named.2 within.1)
      (ap (λ (t : Bool). option_and_then (movers.part_at names) (cond t (Some (out-Kid (kid_under look kid)).sim) (movers.kid_named name (map (kid_under look) kids)))) (sym b) ∙ is) in
      record { at = one.0; is = one.1; shows = one.2 }

  pub finds : (names : List Name) → Finds names
  finds [] handle path own part named is = record { at = record { handle = handle; path = path; own = own }; is = refl; shows = some-same (part_under look handle own) part is }
  finds (name ∷ names) handle path None part named is =
      absurd (let wrong : None ≡ Some part = ap (movers.part_in name (movers.part_at names)) (sym (out-Leaf (leaf_in (look handle)))) ∙ is in cc)
  finds (name ∷ names) handle path (Some net) part named is =
      let opened = net-named (net_under look net handle) named in
      let own : Net-F Sim Kid Net = record { model = model_in (look handle); args = args_in (look handle); boss = leaf_in (look (out-Wiring net).boss); kids = map (kid_under look) (out-Wiring net).kids; links = (out-Wiring net).links } in
      let kids : (out-Net (net_under look net handle)).kids ≡ map (kid_under look) (out-Wiring net).kids = ap (λ (n : Net-F Sim Kid Net). n.kids) (ap out-Net (net-shows look net handle) ∙ out-roll-Net own) in
      let within = ap (λ (ks : List Kid). option_and_then (movers.part_at names) (movers.kid_named name ks)) (sym kids)
      ∙ ap (movers.part_in name (movers.part_at names)) (sym (out-Network (net_under look net handle))) ∙ is in
      let one = kids-find name names (finds names) (out-Wiring net).kids path part (subst (λ (ks : List Kid). AreToldApart (map entry_of ks)) kids opened.0) (subst (AllByRecursion KidHasOwnNames) kids opened.1) within in
      record { at = one.at; is = one.is; shows = one.shows }

-- another part where names lead, in both readings
module _ (part : Sim) where
  abbrev mine : List Name → Sim → Sim
  mine names = changed_at names (λ s. part)

  abbrev Agree : List Name → Type 0
  Agree names = (own : Sim) → HasOwnNames own → mine names own ≡ movers.with_part names part own

  kept-others : (key name : Name) (change : Sim → Sim) (kids : List Kid) → key ≡ name → AllByRecursion (λ (other : Entry). key ≢ other.name) (map entry_of kids) → map (kid_changed name change) kids ≡ kids
  kept-others key name change [] is apart = refl
  kept-others key name change (kid ∷ kids) is apart =
      let here : (b : Bool) → is_same_name (out-Kid kid).name name ≡ b → cond b (kid_of (out-Kid kid).name (change (out-Kid kid).sim)) kid ≡ kid =
      λ b. elim b as (λ (t : Bool). is_same_name (out-Kid kid).name name ≡ t → cond t (kid_of (out-Kid kid).name (change (out-Kid kid).sim)) kid ≡ kid) [
        | true ↦ λ yes. absurd (apart.0 (is ∙ sym (name-exact (out-Kid kid).name name yes)))
        | false ↦ λ no. refl
      ] in
      ap (λ (k : Kid). k ∷ map (kid_changed name change) kids) (here (is_same_name (out-Kid kid).name name) refl)
      ∙ ap (λ (ks : List Kid). kid ∷ ks) (kept-others key name change kids is apart.1)

  kid-agrees : (name : Name) (names : List Name) → Agree names → (kid : Kid) (kids : List Kid) (b : Bool) → is_same_name (out-Kid kid).name name ≡ b →
      AllByRecursion (λ (other : Entry). (out-Kid kid).name ≢ other.name) (map entry_of kids) → KidHasOwnNames kid →
      map (kid_changed name (mine names)) kids ≡ movers.with_named name (movers.with_part names part) kids →
      cond b (kid_of (out-Kid kid).name (mine names (out-Kid kid).sim)) kid ∷ map (kid_changed name (mine names)) kids
      ≡ cond b (kid_of (out-Kid kid).name (movers.with_part names part (out-Kid kid).sim) ∷ kids) (kid ∷ movers.with_named name (movers.with_part names part) kids)
  kid-agrees name names known kid kids true is apart named later =
      ap (λ (s : Sim). kid_of (out-Kid kid).name s ∷ map (kid_changed name (mine names)) kids) (known (out-Kid kid).sim named)
      ∙ ap (λ (ks : List Kid). kid_of (out-Kid kid).name (movers.with_part names part (out-Kid kid).sim) ∷ ks) (kept-others (out-Kid kid).name name (mine names) kids (name-exact (out-Kid kid).name name is) apart)
  kid-agrees name names known kid kids false is apart named later = ap (λ (ks : List Kid). kid ∷ ks) later

  kids-agree : (name : Name) (names : List Name) → Agree names → (kids : List Kid) → AreToldApart (map entry_of kids) → AllByRecursion KidHasOwnNames kids →
      map (kid_changed name (mine names)) kids ≡ movers.with_named name (movers.with_part names part) kids
  kids-agree name names known [] named within = refl
  kids-agree name names known (kid ∷ kids) named within =
      kid-agrees name names known kid kids (is_same_name (out-Kid kid).name name) refl named.1 within.0 (kids-agree name names known kids named.2 within.1)

  -- as opened
  abbrev mine_in : Name → List Name → Sim → Sim-F Sim Kid Net → Sim
  mine_in name names own (layer.Leaf leaf) = own
  mine_in name names own (layer.Net net) = sim.Net (with_kids (map (kid_changed name (mine names)) (out-Net net).kids) net)

  opened-agree : (name : Name) (names : List Name) → Agree names → (own : Sim) (opened : Sim-F Sim Kid Net) → out-Sim own ≡ opened → HasOwnNames own →
      mine_in name names own opened ≡ movers.with_in name (movers.with_part names part) own opened
  opened-agree name names known own (layer.Leaf leaf) is named = refl
  opened-agree name names known own (layer.Net net) is named =
      let whole : own ≡ sim.Net net = sym (roll-out-Sim own) ∙ ap roll-Sim is ∙ rolls-Net net in
      let parts = net-named net (subst HasOwnNames whole named) in
      ap (λ (ks : List Kid). sim.Net (with_kids ks net)) (kids-agree name names known (out-Net net).kids parts.0 parts.1)

  pub parts-agree : (names : List Name) → Agree names
  parts-agree [] own named = refl
  parts-agree (name ∷ names) own named = opened-agree name names (parts-agree names) own (out-Sim own) refl named
