-- The handles of the places of a tree that lies in a grove, and who lives there.
use Rattle.std.proofs.Common.{◌≡◌, ◌≢◌, ℕ, Bool, true, false, cond, is_eq, List, [], ◌∷◌, Some, refl, sym, ap, subst, ◌∙◌}
use Rattle.std.specs.List.{AllByRecursion}
use Rattle.std.proofs.lemmas.Cmp.{tied_itself}
use Rattle.dsde_bank.specs.declared.handle.Handle.{Handle}
use Rattle.dsde_syntax.specs.declared.decl.Model.{Model}
use Rattle.dsde_values.specs.declared.path.Path.{Path}
use Rattle.dsde_values.specs.Path.{root}
use Rattle.dsde_sim_tree.specs.given.formalism.leaf_Leaf.{Leaf}
use Rattle.dsde_sim_tree.specs.given.formalism.System.{Ports}
use Rattle.dsde_grove.specs.Grove.{Grove, value_of}
use Rattle.dsde_sim_tree.specs.declared.sim.Net.{Net}
use Rattle.dsde_sim_tree.specs.declared.sim.Sim.TheVariants as sim
use Rattle.dsde_sim_working.specs.given.sim_movers.Deliveries.{is_same_path}
use Rattle.dsde_core_parcels.specs.given.routes_wiring.wiring_Wiring.{Wiring}
use Rattle.dsde_core_parcels.specs.given.routes_pushing.lemmas_Lists.{each-among}
use Rattle.dsde_core_parcels.specs.given.core_flat.spot_Spot.{Spot}
use Rattle.dsde_core_parcels.specs.given.core_flat.spot_Spot_TheVariants as variant
use Rattle.dsde_core_parcels.specs.given.core_flat.Grafts.{path_at}
use Rattle.dsde_core_parcels.specs.given.core_flat.Named.{HasOwnNames}
use Rattle.dsde_core_parcels.specs.given.core_flat.Places.{Place, part_places}
use Rattle.dsde_core_parcels.specs.given.core_flat.lemmas_Apart.{paths-apart, PathsApart}
use Rattle.dsde_core_parcels.specs.given.core_flat.lemmas_Names.{path-exact, paths-total}
use Rattle.dsde_core_parcels.specs.given.core_flat.lemmas_Meeting.{tree-names}
use Rattle.dsde_core_parcels.specs.Traffic.{handle_at, handle_in, IsCarrying}
use Rattle.dsde_core_parcels.specs.lemmas.Living.{living, IsLiving}

-- the handle of a place is that of its path
abbrev IsOwn : (Path → Handle) → Place → Type 0
IsOwn handle at = handle at.path ≡ at.handle

path-itself : (path : Path) → is_same_path path path ≡ true
path-itself path = ap is_eq (tied_itself paths-total path)

own-behind : (first : Place) (ats others : List Place) → AllByRecursion (λ (other : Place). first.path.names ≢ other.path.names) others → AllByRecursion (IsOwn (handle_at ats)) others → AllByRecursion (IsOwn (handle_at (first ∷ ats))) others
own-behind first ats [] apart own = tt
own-behind first ats (at ∷ others) apart own = (by (is_same_path first.path at.path) refl, own-behind first ats others apart.1 own.1)
  where
    by : (b : Bool) → is_same_path first.path at.path ≡ b → cond b first.handle (handle_at ats at.path) ≡ at.handle
    by false is = own.0
    by true is = absurd (apart.0 (ap (λ (path : Path). path.names) (path-exact first.path at.path is)))

all-own : (ats : List Place) → PathsApart ats → AllByRecursion (IsOwn (handle_at ats)) ats
all-own [] apart = tt
all-own (at ∷ ats) apart =
    (ap (λ (b : Bool). cond b at.handle (handle_at ats at.path)) (path-itself at.path), own-behind at ats ats apart.0 (all-own ats apart.1))

module _ (model : Model) (own : Grove Spot) (top : Handle) (wiring : Wiring) (net : Net) (time : ℕ) (got : Ports) (carry : IsCarrying model own top wiring net time got) where
  abbrev pub here_ats : List Place
  here_ats = part_places top root (Some wiring)

  -- the handle at the path of a place
  pub each-own : AllByRecursion (λ (at : Place). handle_in top wiring at.path ≡ at.handle) here_ats
  each-own = all-own here_ats (paths-apart (value_of own) top root (Some wiring) (subst HasOwnNames (sym carry.stands.shows) (tree-names (sim.Net net) carry.named)))

  abbrev pub Lives : Handle → Leaf → Type 0
  Lives = IsLiving own top (Some wiring) (sim.Net net) carry.stands carry.named

  pub lives : (handle : Handle) (leaf : Leaf) → value_of own handle ≡ Some (variant.Leaf leaf) → Lives handle leaf
  lives = living own top (Some wiring) (sim.Net net) carry.stands carry.named

  -- who lives under a handle has it at its path
  pub handle-at : (handle : Handle) (leaf : Leaf) → Lives handle leaf → handle_in top wiring (path_at own handle) ≡ handle
  handle-at handle leaf its = ap (handle_in top wiring) (sym its.same) ∙ each-among (λ (at : Place). handle_in top wiring at.path ≡ at.handle) here_ats its.at each-own its.among ∙ its.is
