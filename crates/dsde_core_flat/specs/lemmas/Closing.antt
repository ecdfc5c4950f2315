-- A network whose executive has moved, and whose structure has changed.
use Rattle.std.proofs.Common.{◌≡◌, ◌≢◌, ◌⊎◌, inl, inr, ℕ, true, false, List, [], ◌∷◌, ◌++◌, map, Option, Some, refl, sym, ap, subst, ◌∙◌}
use Rattle.std.specs.Option.{option_map}
use Rattle.std.specs.List.{flat_map, AllByRecursion}
use Rattle.std.proofs.lemmas.List.{append-nil}
use Rattle.dsde_bank.specs.declared.handle.Handle.{Handle}
use Rattle.dsde_values.specs.declared.name.Name.{Name}
use Rattle.dsde_values.specs.declared.path.Path.{Path}
use Rattle.dsde_values.specs.declared.value.Value.{Value}
use Rattle.dsde_values.specs.Path.{root}
use Rattle.dsde_language.specs.declared.ids.ModelId.{ModelId}
use Rattle.dsde_sim_tree.specs.given.formalism.leaf_Leaf.{Leaf}
use Rattle.dsde_routes_wiring.specs.given.structure.plan_Link.{Link}
use Rattle.dsde_values.specs.Path.{EXEC}
use Rattle.dsde_sim_tree.specs.Told.{to_boss}
use Rattle.dsde_grove.specs.Grove as grove
use Rattle.dsde_grove.specs.Grove.{Grove, spot, value_of, with_value}
use Rattle.dsde_sim_tree.specs.declared.sim.Net.{Net}
use Rattle.dsde_sim_tree.specs.declared.sim.Sim.{Sim}
use Rattle.dsde_sim_tree.specs.declared.sim.Sim.TheVariants as sim
use Rattle.dsde_sim_tree.specs.Start.{net_of}
use Rattle.dsde_core_flat.specs.declared.spot.Spot.{Spot}
use Rattle.dsde_core_flat.specs.declared.spot.Spot.TheVariants as variant
use Rattle.dsde_routes_wiring.specs.declared.wiring.Wiring.{Wiring}
use Rattle.dsde_routes_wiring.specs.declared.wiring.WiredKid.{WiredKid}
use Rattle.dsde_routes_wiring.specs.declared.wiring.WiredKid.TheOpen.{Wiring-F}
use Rattle.dsde_routes_wiring.specs.declared.wiring.WiredKid.TheViews.{out-Wiring, out-WiredKid, roll-Wiring, out-roll-Wiring}
use Rattle.dsde_core_flat.specs.Shown.{leaf_in, model_in, args_in, kid_under}
use Rattle.dsde_core_flat.specs.Places.{Place, place, kid_places, part_places}
use Rattle.dsde_core_flat.specs.lemmas.Opened.{net-shows, net-stands}
use Rattle.dsde_core_flat.specs.lemmas.Frame.{all-left, all-right, all-join}
use Rattle.dsde_core_flat.specs.Change.{changed_at, wiring_of, wired_with, Standing, found, outside}
use Rattle.dsde_core_flat.specs.lemmas.Context.{Shows}
use Rattle.dsde_core_flat.specs.lemmas.Beneath.{IsApart, IsNoBoss, outside-apart}
use Rattle.dsde_core_flat.specs.Stands.{StandsAt, HasBirth, StandsFor, ChangesBeneath}
use Rattle.dsde_core_flat.specs.lemmas.Mixing.{all-one, all-other, births-apart, places_with}
use Rattle.dsde_core_flat.specs.lemmas.Keeping.{same, old-mixed, all-stand, all-agree, stand-keeps, spot-kept, stays}
use Rattle.dsde_core_flat.specs.lemmas.Groves.{value-changes}
use Rattle.dsde_core_flat.specs.lemmas.Moves.{HasPath, found-path, born-outside, moved-spot, moved-value, was-live}
use Rattle.dsde_core_flat.specs.lemmas.Grafting.{birth-left, birth-right}
use Rattle.dsde_core_flat.specs.Places.{places_of}
use Rattle.dsde_core_flat.specs.Stands.{NetStands}
use Rattle.dsde_core_flat.specs.Handles.{AreThemselves}
use Rattle.dsde_core_flat.specs.lemmas.Called.{StaysItself, IsAtItself, net-itself, made-is, found-itself}
use Rattle.dsde_core_flat.specs.lemmas.Inside.{apart-there, longer-here, keeps-showing}

-- None of these components has an executive's name.
abbrev pub IsNoExec : WiredKid → Type 0
IsNoExec kid = (out-WiredKid kid).name ≢ EXEC

apart-each : (path : Path) (kids : List WiredKid) → AllByRecursion IsNoExec kids → AllByRecursion (IsApart (path.names ++ EXEC ∷ [])) (places_of path kids)
apart-each path [] none = tt
apart-each path (kid ∷ kids) none = all-join (IsApart (path.names ++ EXEC ∷ [])) (kid_places kid path) (places_of path kids) (apart-there path EXEC kid none.0) (apart-each path kids none.1)

-- The executive of a network has another leaf.
module _ (own : Grove Spot) (handle last : Handle) (path : Path) (kids : List WiredKid) (leaf : Leaf) (stands : NetStands own handle last path kids) (none : AllByRecursion IsNoExec kids) where
  abbrev new : Grove Spot
  new = with_value own last (variant.Leaf leaf)

  boss-changes : ChangesBeneath (path.names ++ EXEC ∷ []) own new
  boss-changes = subst (λ (names : List Name). ChangesBeneath names own new) stands.executive.path (value-changes own last (variant.Leaf leaf) stands.executive.part stands.executive.live)

  pub boss-stands : NetStands new handle last path kids
  boss-stands = record {
    itself = stand-keeps own new (path.names ++ EXEC ∷ []) boss-changes (place handle path true) stands.itself (longer-here path EXEC handle true);
    executive = record {
      part = record stands.executive.part { value = variant.Leaf leaf };
      live = moved-spot own last leaf stands.executive.part stands.executive.live;
      path = stands.executive.path;
      kind = refl;
    };
    components = all-stand own new (path.names ++ EXEC ∷ []) boss-changes (places_of path kids) stands.components (apart-each path kids none);
    themselves = stands.themselves;
    only = λ birth part is leads.
        let was = was-live own last leaf stands.executive.part stands.executive.live birth part is in
        stands.only birth was.0 was.1 (record { rest = leads.rest; is = was.2 ∙ leads.is });
  }

  pub boss-value : value_of new last ≡ Some (variant.Leaf leaf)
  boss-value = moved-value own last leaf stands.executive.part stands.executive.live

  pub net-value : value_of new handle ≡ value_of own handle
  net-value = ap (option_map (λ (p : grove.Spot Spot). p.value)) (spot-kept own new (path.names ++ EXEC ∷ []) boss-changes (place handle path true) stands.itself (longer-here path EXEC handle true))

  pub kids-value : map (kid_under (value_of new)) kids ≡ map (kid_under (value_of own)) kids
  kids-value = keeps-showing own new path kids (all-agree own new (path.names ++ EXEC ∷ []) boss-changes (places_of path kids) stands.components (apart-each path kids none))

-- The flat state before and after a move of an executive that has changed the structure of its network.
module _ (old new : Grove Spot) (top : Handle) (wiring : Option Wiring) (tree : Sim) (names : List Name) (at : Standing) (me last : Handle) (model : ModelId) (args : List Value) (leaf : Leaf) (links : List Link) (kids : List WiredKid)
    (stands : StandsFor old top wiring tree) (none : AllByRecursion IsNoBoss names) (is : found names top root wiring ≡ at ∷ []) where
  abbrev made : Wiring-F WiredKid Wiring
  made = record { me = me; boss = last; links = links; kids = kids }

  abbrev pub net_after : Net
  net_after = net_of model args leaf (map (kid_under (value_of new)) kids) links

  abbrev pub wired_after : Option Wiring → Option Wiring
  wired_after own = Some (wiring_of me last links kids)

  abbrev shown_as : Option Spot → Option Spot → Net
  shown_as held boss = net_of (model_in held) (args_in held) (leaf_in boss) (map (kid_under (value_of new)) kids) links

  here-shows : value_of new at.handle ≡ Some (variant.Net model args) → value_of new last ≡ Some (variant.Leaf leaf) → Shows (value_of old) (value_of new) wired_after (λ s. sim.Net net_after) at
  here-shows held boss =
      ap sim.Net
      (net-shows (value_of new) (roll-Wiring made) at.handle
      ∙ ap (λ (w : Wiring-F WiredKid Wiring). net_of (model_in (value_of new at.handle)) (args_in (value_of new at.handle)) (leaf_in (value_of new w.boss)) (map (kid_under (value_of new)) w.kids) w.links) (out-roll-Wiring made)
      ∙ ap (λ (h : Option Spot). shown_as h (value_of new last)) held
      ∙ ap (λ (h : Option Spot). shown_as (Some (variant.Net model args)) h) boss)

  abbrev after_places : List Place
  after_places = place at.handle at.path true ∷ (places_of at.path kids ++ place last (to_boss at.path) false ∷ [])

  places-after : part_places at.handle at.path (Some (wiring_of me last links kids)) ≡ after_places
  places-after =
      ap (λ (ats : List Place). place at.handle at.path true ∷ ats)
      (net-stands (roll-Wiring made) at.path
      ∙ ap (λ (w : Wiring-F WiredKid Wiring). places_of at.path w.kids ++ place w.boss (to_boss at.path) false ∷ []) (out-roll-Wiring made))

  there-after : flat_map (places_with wired_after) (found names top root wiring) ≡ after_places
  there-after = ap (flat_map (places_with wired_after)) is ∙ append-nil (part_places at.handle at.path (Some (wiring_of me last links kids))) ∙ places-after

  at-path : at.path.names ≡ root.names ++ names
  at-path = let all = subst (AllByRecursion (HasPath (root.names ++ names))) is (found-path names top root wiring) in all.0

  pub net-changes : ChangesBeneath (root.names ++ names) old new → at.handle ≡ me → NetStands new at.handle last at.path kids →
      value_of new at.handle ≡ Some (variant.Net model args) → value_of new last ≡ Some (variant.Leaf leaf) →
      StandsFor new top (wired_with names wired_after wiring) (changed_at names (λ s. sim.Net net_after) tree)
  net-changes changes itself net held boss =
      stays old new top wiring tree names wired_after (λ s. sim.Net net_after) stands none changes
      (subst (AllByRecursion (Shows (value_of old) (value_of new) wired_after (λ s. sim.Net net_after))) (sym is) (here-shows held boss, tt))
      (subst (AllByRecursion (StandsAt new)) (sym there-after)
      (net.itself, all-join (StandsAt new) (places_of at.path kids) (place last (to_boss at.path) false ∷ []) net.components (net.executive, tt)))
      (subst (AllByRecursion (StaysItself wired_after)) (sym is) (made-is made at.handle itself net.themselves, tt))
      (λ birth part live leads. subst (HasBirth birth) (sym there-after)
      (elim (net.only birth part live (record { rest = leads.rest; is = leads.is ∙ ap (λ (n : List Name). n ++ leads.rest) (sym at-path) })) [
        | inl here ↦ inl here
        | inr other ↦ elim other [
          | inl it ↦ inr (birth-right birth (places_of at.path kids) (place last (to_boss at.path) false ∷ []) (inl it))
          | inr kid ↦ inr (birth-left birth (places_of at.path kids) (place last (to_boss at.path) false ∷ []) kid)
        ]
      ]))

-- a network where names lead has its own handle
pub net-of-found : (own : Grove Spot) (top : Handle) (wiring : Option Wiring) (tree : Sim) (names : List Name) (handle : Handle) (path : Path) (net : Wiring) →
    StandsFor own top wiring tree → found names top root wiring ≡ record { handle = handle; path = path; own = Some net } ∷ [] → handle ≡ (out-Wiring net).me
net-of-found own top wiring tree names handle path net stands is =
    let all = subst (AllByRecursion IsAtItself) is (found-itself names top root wiring stands.itself) in
    (net-itself net handle all.0).0

-- what stands at a place where names lead, of a flat state
module _ (own : Grove Spot) (top : Handle) (wiring : Option Wiring) (tree : Sim) (names : List Name) (handle : Handle) (path : Path) (net : Wiring)
    (stands : StandsFor own top wiring tree) (none : AllByRecursion IsNoBoss names) (is : found names top root wiring ≡ record { handle = handle; path = path; own = Some net } ∷ []) where
  abbrev kids_in : List WiredKid
  kids_in = (out-Wiring net).kids

  abbrev boss_in : Handle
  boss_in = (out-Wiring net).boss

  abbrev there : List Place
  there = place handle path true ∷ (places_of path kids_in ++ place boss_in (to_boss path) false ∷ [])

  there-is : flat_map (places_with same) (found names top root wiring) ≡ there
  there-is = ap (flat_map (places_with same)) is ∙ append-nil (part_places handle path (Some net)) ∙ ap (λ (ats : List Place). place handle path true ∷ ats) (net-stands net path)

  here-path : path.names ≡ root.names ++ names
  here-path = let all = subst (AllByRecursion (HasPath (root.names ++ names))) is (found-path names top root wiring) in all.0

  here-itself : AreThemselves handle (Some net)
  here-itself = let all = subst (AllByRecursion IsAtItself) is (found-itself names top root wiring stands.itself) in all.0

  split : (birth : ℕ) (xs : List Place) (last : Place) → HasBirth birth (xs ++ last ∷ []) → HasBirth birth xs ⊎ (last.handle.birth ≡ birth)
  split birth [] last (inl here) = inr here
  split birth [] last (inr none) = absurd none
  split birth (x ∷ xs) last (inl here) = inl (inl here)
  split birth (x ∷ xs) last (inr later) = elim (split birth xs last later) [ inl one ↦ inl (inr one) | inr other ↦ inr other ]

  pub net-opens : NetStands own handle boss_in path kids_in
  net-opens =
      let before = old-mixed names top root wiring in
      let all : AllByRecursion (StandsAt own) there = subst (AllByRecursion (StandsAt own)) there-is (all-other (StandsAt own) before stands.live) in
      let others = all-one (StandsAt own) before stands.live in
      record {
        itself = all.0;
        executive = (all-right (StandsAt own) (places_of path kids_in) (place boss_in (to_boss path) false ∷ []) all.1).0;
        components = all-left (StandsAt own) (places_of path kids_in) (place boss_in (to_boss path) false ∷ []) all.1;
        themselves = (net-itself net handle here-itself).1;
        only = λ birth part live leads. elim (births-apart birth before (stands.only birth part live)) [
          | inl out ↦ absurd (born-outside own (root.names ++ names) birth part live (outside names top root wiring) others (outside-apart names none top root wiring) out
              (record { rest = leads.rest; is = leads.is ∙ ap (λ (n : List Name). n ++ leads.rest) here-path }))
          | inr within ↦ elim (subst (HasBirth birth) there-is within) [
            | inl here ↦ inl here
            | inr other ↦ elim (split birth (places_of path kids_in) (place boss_in (to_boss path) false) other) [ inl kid ↦ inr (inr kid) | inr last ↦ inr (inl last) ]
          ]
        ];
      }
