-- The components and the executives of the tree that handles show, in path order, by their places.
use Rattle.std.proofs.Common.{◌≡◌, ℕ, ◌&&◌, not, Bool, true, false, cond, List, [], ◌∷◌, ◌++◌, map, filter, Option, Some, None, refl, sym, ap, ◌∙◌}
use Rattle.std.proofs.lemmas.List.{map-append}
use Rattle.std.proofs.lemmas.List.Elements.{filter-append}
use Rattle.std.specs.Option.{option_map}
use Rattle.std.specs.List.{flat_map, AllByRecursion}
use Rattle.dsde_bank.specs.declared.handle.Handle.{Handle}
use Rattle.dsde_values.specs.declared.path.Path.{Path}
use Rattle.dsde_sim_tree.specs.given.formalism.Leaf.{is_due}
use Rattle.dsde_sim_tree.specs.Told.{below, to_boss}
use Rattle.dsde_grove.specs.Grove as grove
use Rattle.dsde_grove.specs.Grove.{Grove, value_of}
use Rattle.dsde_sim_tree.specs.declared.sim.Kid.{Kid}
use Rattle.dsde_sim_tree.specs.declared.sim.Net.{Net}
use Rattle.dsde_sim_tree.specs.declared.sim.Sim.{Sim}
use Rattle.dsde_sim_tree.specs.declared.sim.Sim.TheVariants as sim
use Rattle.dsde_sim_tree.specs.declared.sim.Sim.TheOpen as layer
use Rattle.dsde_sim_tree.specs.declared.sim.Sim.TheOpen.{Net-F}
use Rattle.dsde_sim_tree.specs.declared.sim.Sim.TheFolds.{fold-roll-Sim, fold-roll-Kid, fold-roll-Net}
use Rattle.dsde_sim_tree.specs.declared.sim.Sim.TheViews.{rolls-Leaf, rolls-Net}
use Rattle.dsde_sim_movers.specs.Asking.{Seated, Seatings, seated_step, seated_kid, seated_net, seated, seated_of_kid, seated_of_net, due_ones}
use Rattle.dsde_core_flat.specs.declared.spot.Spot.{Spot}
use Rattle.dsde_core_flat.specs.declared.spot.Spot.TheVariants as variant
use Rattle.dsde_routes_wiring.specs.declared.wiring.Wiring.{Wiring}
use Rattle.dsde_routes_wiring.specs.declared.wiring.WiredKid.{WiredKid}
use Rattle.dsde_routes_wiring.specs.declared.wiring.WiredKid.TheViews.{out-Wiring, out-WiredKid}
use Rattle.dsde_core_flat.specs.Shown.{Look, leaf_in, model_in, args_in, net_under, kid_under, part_under}
use Rattle.dsde_core_flat.specs.Places.{Place, place, net_places, kid_places, part_places}
use Rattle.dsde_core_flat.specs.Stands.{is_net, StandsAt}
use Rattle.dsde_core_flat.specs.lemmas.Opened.{kid-shows, net-shows, kid-stands, net-stands, OfKid}
use Rattle.dsde_routes_wiring.specs.Opened.{each_wiring, Beneath}
use Rattle.dsde_core_flat.specs.Scheduled.{is_next}

-- a place of a component or an executive
abbrev pub is_seat : Place → Bool
is_seat at = not at.is_net

-- who has its seat there
abbrev pub seat : Look → Place → Seated
seat look at = record { path = at.path; leaf = leaf_in (look at.handle) }

-- what lies there is a leaf that is due at this time
abbrev pub is_due_place : Look → ℕ → Place → Bool
is_due_place look time at = is_next (look at.handle) time

-- who has a seat at these places
abbrev pub seats : Look → List Place → List Seated
seats look ats = map (seat look) (filter is_seat ats)

seats-append : (look : Look) (xs ys : List Place) → seats look (xs ++ ys) ≡ seats look xs ++ seats look ys
seats-append look xs ys = ap (map (seat look)) (filter-append is_seat xs ys) ∙ map-append (seat look) (filter is_seat xs) (filter is_seat ys)

module _ (look : Look) where
  abbrev AreSeated : Wiring → Type 0
  AreSeated net = (handle : Handle) (path : Path) → seated (sim.Net (net_under look net handle)) path ≡ seats look (net_places net path)

  part-seated : (handle : Handle) (path : Path) (own : Option Wiring) → Beneath AreSeated own → seated (part_under look handle own) path ≡ seats look (part_places handle path own)
  part-seated handle path None known =
      ap (λ (tree : Sim). seated tree path) (sym (rolls-Leaf (leaf_in (look handle))))
      ∙ ap (λ (places : Seatings). places path) (fold-roll-Sim Seatings Seatings Seatings seated_step seated_kid seated_net (layer.Leaf (leaf_in (look handle))))
  part-seated handle path (Some net) known = known handle path

  kid-seated : (kid : WiredKid) (path : Path) → OfKid AreSeated kid → seated_of_kid (kid_under look kid) path ≡ seats look (kid_places kid path)
  kid-seated kid path known =
      ap (λ (k : Kid). seated_of_kid k path) (kid-shows look kid)
      ∙ ap (λ (places : Seatings). places path) (fold-roll-Kid Seatings Seatings Seatings seated_step seated_kid seated_net (record { name = (out-WiredKid kid).name; sim = part_under look (out-WiredKid kid).handle (out-WiredKid kid).below }))
      ∙ part-seated (out-WiredKid kid).handle (below path (out-WiredKid kid).name) (out-WiredKid kid).below known
      ∙ sym (ap (seats look) (kid-stands kid path))

  kids-seated : (kids : List WiredKid) (path : Path) → AllByRecursion (OfKid AreSeated) kids →
      flat_map (λ (at : Seatings). at path) (map seated_of_kid (map (kid_under look) kids)) ≡ seats look (flat_map (λ (kid : WiredKid). kid_places kid path) kids)
  kids-seated [] path known = refl
  kids-seated (kid ∷ kids) path known =
      (λ i. kid-seated kid path known.0 i ++ kids-seated kids path known.1 i)
      ∙ sym (seats-append look (kid_places kid path) (flat_map (λ (k : WiredKid). kid_places k path) kids))

  net-seated : (net : Wiring) → AreSeated net
  net-seated = each_wiring AreSeated (λ net known handle path.
      let own : Net-F Sim Kid Net = record { model = model_in (look handle); args = args_in (look handle); boss = leaf_in (look (out-Wiring net).boss); kids = map (kid_under look) (out-Wiring net).kids; links = (out-Wiring net).links } in
      let kids = flat_map (λ (kid : WiredKid). kid_places kid path) (out-Wiring net).kids in
      let last = place (out-Wiring net).boss (to_boss path) false in
      ap (λ (tree : Sim). seated tree path) (sym (rolls-Net (net_under look net handle)))
      ∙ ap (λ (places : Seatings). places path) (fold-roll-Sim Seatings Seatings Seatings seated_step seated_kid seated_net (layer.Net (net_under look net handle)))
      ∙ ap (λ (n : Net). seated_of_net n path) (net-shows look net handle)
      ∙ ap (λ (places : Seatings). places path) (fold-roll-Net Seatings Seatings Seatings seated_step seated_kid seated_net own)
      ∙ ap (λ (others : List Seated). others ++ record { path = to_boss path; leaf = leaf_in (look (out-Wiring net).boss) } ∷ []) (kids-seated (out-Wiring net).kids path known)
      ∙ sym (seats-append look kids (last ∷ []))
      ∙ sym (ap (seats look) (net-stands net path)))

  every : (own : Option Wiring) → Beneath AreSeated own
  every None = tt
  every (Some net) = net-seated net

  -- who stands in the tree is who has a seat at its places
  pub tree-seated : (handle : Handle) (path : Path) (own : Option Wiring) → seated (part_under look handle own) path ≡ seats look (part_places handle path own)
  tree-seated handle path own = part-seated handle path own (every own)

-- a filter behind a map behind a filter
module _ {X Y : Type 0} (f : X → Y) (q r : X → Bool) (p : Y → Bool) where
  pick : (x : X) (xs ys : List X) (b d n : Bool) → p (f x) ≡ d → (b && d) ≡ n → filter p (map f xs) ≡ map f ys →
      filter p (map f (cond b (x ∷ xs) xs)) ≡ map f (cond n (x ∷ ys) ys)
  pick x xs ys false d n is both rest = rest ∙ ap (λ (m : Bool). map f (cond m (x ∷ ys) ys)) both
  pick x xs ys true true n is both rest =
      ap (λ (m : Bool). cond m (f x ∷ filter p (map f xs)) (filter p (map f xs))) is ∙ ap (λ (zs : List Y). f x ∷ zs) rest ∙ ap (λ (m : Bool). map f (cond m (x ∷ ys) ys)) both
  pick x xs ys true false n is both rest =
      ap (λ (m : Bool). cond m (f x ∷ filter p (map f xs)) (filter p (map f xs))) is ∙ rest ∙ ap (λ (m : Bool). map f (cond m (x ∷ ys) ys)) both

  pub picks : (xs : List X) → AllByRecursion (λ (x : X). (q x && p (f x)) ≡ r x) xs → filter p (map f (filter q xs)) ≡ map f (filter r xs)
  picks [] all = refl
  picks (x ∷ xs) all = pick x (filter q xs) (filter r xs) (q x) (p (f x)) (r x) refl all.0 (picks xs all.1)

module _ (own : Grove Spot) (time : ℕ) where
  by-kind : (held : Option Spot) (value : Spot) (net : Bool) → held ≡ Some value → is_net value ≡ net → (not net && is_due (leaf_in held) time) ≡ is_next held time
  by-kind held (variant.Leaf leaf) true is kind = absurd (let wrong : false ≡ true = kind in cc)
  by-kind held (variant.Leaf leaf) false is kind = ap (λ (h : Option Spot). is_due (leaf_in h) time) is ∙ sym (ap (λ (h : Option Spot). is_next h time) is)
  by-kind held (variant.Net model args) true is kind = sym (ap (λ (h : Option Spot). is_next h time) is)
  by-kind held (variant.Net model args) false is kind = absurd (let wrong : true ≡ false = kind in cc)

  due-there : (ats : List Place) → AllByRecursion (StandsAt own) ats → AllByRecursion (λ (at : Place). (is_seat at && is_due (leaf_in (value_of own at.handle)) time) ≡ is_due_place (value_of own) time at) ats
  due-there [] stands = tt
  due-there (at ∷ ats) stands = (
    by-kind (value_of own at.handle) stands.0.part.value at.is_net (ap (option_map (λ (s : grove.Spot Spot). s.value)) stands.0.live) stands.0.kind,
    due-there ats stands.1,
  )

  -- who is due is who has its seat where a leaf is due
  pub due-seats : (ats : List Place) → AllByRecursion (StandsAt own) ats → due_ones time (seats (value_of own) ats) ≡ map (seat (value_of own)) (filter (is_due_place (value_of own) time) ats)
  due-seats ats stands = picks (seat (value_of own)) is_seat (is_due_place (value_of own) time) (λ (s : Seated). is_due s.leaf time) ats (due-there ats stands)
