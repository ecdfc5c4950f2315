-- Who lives under a handle, as a mover.
use Rattle.std.proofs.Common.{◌≡◌, ℕ, Bool, true, false, cond, List, [], ◌∷◌, map, Option, Some, None, refl, sym, ap, ◌∙◌}
use Rattle.std.specs.Option.{option_map, option_map_or}
use Rattle.std.specs.List.{range_with_len}
use Rattle.dsde_bank.specs.declared.handle.Handle.{Handle}
use Rattle.dsde_values.specs.declared.path.Path.{Path}
use Rattle.dsde_sim_tree.specs.given.formalism.leaf_Leaf.{Leaf}
use Rattle.dsde_sim_tree.specs.given.formalism.Leaf.{component_of, has_come, is_due}
use Rattle.dsde_sim_tree.specs.given.formalism.System.{Ports, System}
use Rattle.dsde_core_moves.specs.given.grove.Grove as grove
use Rattle.dsde_core_moves.specs.given.grove.Grove.{Grove, path_of, spot, value_of}
use Rattle.dsde_core_moves.specs.given.core_flat.spot_Spot.{Spot}
use Rattle.dsde_core_moves.specs.given.core_flat.spot_Spot_TheVariants as variant
use Rattle.dsde_core_moves.specs.given.core_flat.Grafts.{path_at}
use Rattle.dsde_core_moves.specs.given.core_flat.Scheduled.{held_leaf}
use Rattle.dsde_core_moves.specs.given.core_flat.Shown.{leaf_in}
use Rattle.dsde_core_parcels.specs.declared.inbox.Get.{Get}
use Rattle.dsde_core_parcels.specs.declared.inbox.Inbox.{Inbox}
use Rattle.dsde_core_parcels.specs.Inboxes.{spread, values_at}
use Rattle.dsde_core_moves.specs.declared.flat.Mover.{Mover}
use Rattle.dsde_core_parcels.specs.Calling.{if_come, mover_with, told_as, told_by}

-- the path of who is live
pub path-is : (own : Grove Spot) (handle : Handle) (path : Path) → (let found : Option Path = Some path in found) ≡ path_of own handle → path ≡ path_at own handle
path-is own handle path is = by (spot own handle) is
  where
    by : (held : Option (grove.Spot Spot)) → (let found : Option Path = Some path in found) ≡ option_map (λ part. record { names = part.path }) held → path ≡ record { names = option_map_or (λ (part : grove.Spot Spot). part.path) held [] }
    by None is = absurd (let wrong : (let found : Option Path = Some path in found) ≡ None = is in cc)
    by (Some part) is = one-path path (record { names = part.path }) is
      where
        one-path : (one other : Path) → (let found : Option Path = Some one in found) ≡ Some other → one ≡ other
        one-path one other is = cc

module _ (system : System) (own : Grove Spot) (handle : Handle) (leaf : Leaf) (held : value_of own handle ≡ Some (variant.Leaf leaf)) where
  leaf-there : leaf_in (value_of own handle) ≡ leaf
  leaf-there = ap leaf_in held

  module _ (ports : ℕ) (ins : (component_of system leaf).ins ≡ ports) (gets : List Get) (got : Ports) (spreads : got ≡ spread ports gets) where
    pub got-is : got ≡ spread (component_of system (leaf_in (value_of own handle))).ins gets
    got-is = spreads ∙ (λ i. spread (sym ins i) gets) ∙ (λ i. spread (component_of system (sym leaf-there i)).ins gets)

    pub mover-is : (path : Path) → (let mover : Mover = record { handle = handle; path = path; model = leaf.model; got = got } in mover) ≡ mover_with system own handle path gets
    mover-is path = λ i. record { handle = handle; path = path; model = (sym leaf-there i).model; got = got-is i }

module _ (system : System) (own : Grove Spot) (time : ℕ) (inbox : Inbox) where
  abbrev mover : Mover
  mover = mover_with system own inbox.target (path_at own inbox.target) inbox.gets

  -- nobody lives there
  pub none-told : (let found : Option Leaf = None in found) ≡ held_leaf (value_of own inbox.target) → told_by system own time inbox ≡ []
  none-told is = ap (λ (held : Option Leaf). told_as held time mover) (sym is)

  module _ (leaf : Leaf) (held : value_of own inbox.target ≡ Some (variant.Leaf leaf)) where
    told-leaf : told_by system own time inbox ≡ cond (is_due leaf time) [] (if_come mover)
    told-leaf = ap (λ (spot : Option Spot). told_as (held_leaf spot) time mover) held

    -- it is due
    pub due-told : is_due leaf time ≡ true → told_by system own time inbox ≡ []
    due-told is = told-leaf ∙ ap (λ (b : Bool). cond b [] (if_come mover)) is

    -- nothing came, or something did
    pub quiet-told : (got : Ports) → got ≡ mover.got → is_due leaf time ≡ false → has_come got ≡ false → told_by system own time inbox ≡ []
    quiet-told got is not_due none = told-leaf ∙ ap (λ (b : Bool). cond b [] (if_come mover)) not_due ∙ ap (λ (b : Bool). cond b (mover ∷ []) []) (ap has_come (sym is) ∙ none)

    pub come-told : (got : Ports) → got ≡ mover.got → is_due leaf time ≡ false → has_come got ≡ true → told_by system own time inbox ≡ mover ∷ []
    come-told got is not_due came = told-leaf ∙ ap (λ (b : Bool). cond b [] (if_come mover)) not_due ∙ ap (λ (b : Bool). cond b (mover ∷ []) []) (ap has_come (sym is) ∙ came)

  none-spreads : (ports : List ℕ) → has_come (map (λ port. values_at port []) ports) ≡ false
  none-spreads [] = refl
  none-spreads (port ∷ ports) = none-spreads ports

  -- nothing is in the inbox
  pub empty-told : inbox.gets ≡ [] → told_by system own time inbox ≡ []
  empty-told is = by (held_leaf (value_of own inbox.target))
    where
      none : has_come mover.got ≡ false
      none =
          let ins = (component_of system (leaf_in (value_of own inbox.target))).ins in
          ap (λ (gets : List Get). has_come (spread ins gets)) is ∙ none-spreads (range_with_len 0 ins)

      by-due : (due : Bool) → cond due [] (if_come mover) ≡ []
      by-due true = refl
      by-due false = ap (λ (b : Bool). cond b (mover ∷ []) []) none

      by : (leaf : Option Leaf) → told_as leaf time mover ≡ []
      by None = refl
      by (Some leaf) = by-due (is_due leaf time)
