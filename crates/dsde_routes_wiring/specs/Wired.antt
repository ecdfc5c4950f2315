-- The networks of a wiring, each as it is wired without what is beneath it, and what they keep.
use Rattle.std.specs.Prelude.{◌≡◌, ◌==◌, ◌&&◌, Bool, false, List, ◌∷◌, ◌++◌, [], map, Some, None}
use Rattle.std.specs.List.{flat_map, AllByRecursion, IsDistinct}
use Rattle.dsde_bank.specs.declared.handle.Handle.{Handle}
use Rattle.dsde_values.specs.declared.name.Name.{Name}
use Rattle.dsde_structure.specs.declared.plan.Link.{Link}
use Rattle.dsde_structure.specs.declared.plan.Part.TheVariants as part
use Rattle.dsde_structure.specs.Gather.{is_part}
use Rattle.dsde_structure.specs.Survival.{AreInOrder}
use Rattle.dsde_routes_wiring.specs.declared.wiring.Wiring.{Wiring}
use Rattle.dsde_routes_wiring.specs.declared.wiring.WiredKid.{WiredKid}
use Rattle.dsde_routes_wiring.specs.declared.wiring.WiredKid.TheFolds.{fold-Wiring, fold-WiredKid}
use Rattle.dsde_routes_wiring.specs.declared.wiring.WiredKid.TheViews.{out-Wiring}
use Rattle.dsde_routes_wiring.specs.declared.wiring.WiredKid.TheOpen.{Wiring-F, WiredKid-F}

pub record Wired : Type 0 where
  pub name : Name
  pub handle : Handle

-- a network with its components
pub record Shape : Type 0 where
  pub me : Handle
  pub boss : Handle
  pub links : List Link
  pub kids : List Wired

pub record KidShapes : Type 0 where
  pub wired : Wired
  pub below : List Shape

abbrev pub kid_step : WiredKid-F KidShapes (List Shape) → KidShapes
kid_step kid = record {
  wired = record { name = kid.name; handle = kid.handle };
  below = elim kid.below [ None ↦ [] | Some own ↦ own ];
}

abbrev pub net_step : Wiring-F KidShapes (List Shape) → List Shape
net_step net =
    record { me = net.me; boss = net.boss; links = net.links; kids = map (λ kid. kid.wired) net.kids }
    ∷ flat_map (λ kid. kid.below) net.kids

-- the networks of a wiring, itself first
abbrev pub shapes : Wiring → List Shape
shapes = fold-Wiring KidShapes (List Shape) kid_step net_step

abbrev pub shapes_of_kid : WiredKid → KidShapes
shapes_of_kid = fold-WiredKid KidShapes (List Shape) kid_step net_step

-- a component with what is beneath it
abbrev pub kid_handles : WiredKid-F (List Handle) (List Handle) → List Handle
kid_handles kid = kid.handle ∷ (elim kid.below [ None ↦ [] | Some own ↦ own ])

abbrev pub net_handles : Wiring-F (List Handle) (List Handle) → List Handle
net_handles net = flat_map (λ kid. kid) net.kids ++ net.boss ∷ []

-- the handles of what is beneath a network: its components, each with what is beneath it, and its executive
abbrev pub beneath : Wiring → List Handle
beneath = fold-Wiring (List Handle) (List Handle) kid_handles net_handles

abbrev pub beneath_kid : WiredKid → List Handle
beneath_kid = fold-WiredKid (List Handle) (List Handle) kid_handles net_handles

-- the handles of all parts of a wiring, its root's last
abbrev pub handles : Wiring → List Handle
handles net = beneath net ++ (out-Wiring net).me ∷ []

-- whether two handles are the same
abbrev pub is_same_handle : Handle → Handle → Bool
is_same_handle one other = one.birth == other.birth && one.slot == other.slot

-- no two parts have one handle
abbrev pub HasOwnHandles : Wiring → Type 0
HasOwnHandles net = IsDistinct is_same_handle (handles net)

-- no link leads from the network itself to itself
abbrev pub LeadsInside : Link → Type 0
LeadsInside link = (is_part link.from.part part.Net && is_part link.to.part part.Net) ≡ false

-- the components stand in the order of their names, each name once, and each link begins or ends inside
abbrev pub IsWired : Shape → Type 0
IsWired net = AreInOrder (map (λ kid. kid.name) net.kids) × AllByRecursion LeadsInside net.links

-- so does each network of a wiring
abbrev pub AreWired : Wiring → Type 0
AreWired net = AllByRecursion IsWired (shapes net)
