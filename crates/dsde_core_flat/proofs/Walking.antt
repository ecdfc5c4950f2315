-- Components that are put into a grove one after another.
use Rattle.std.proofs.Common.{◌≡◌, ℕ, ◌+◌, ◌*◌, ◌^◌, ◌<◌, ◌≤◌, false, true, List, [], ◌∷◌, ◌++◌, map, Option, Some, None, IsSome, refl, sym, ap, subst, ◌∙◌, append_assoc, arith}
use Rattle.std.specs.Option.{option_map_or}
use Rattle.std.specs.List.{AllByRecursion}
use Rattle.std.specs.FinMap as map
use Rattle.std.proofs.lemmas.List.{append-nil}
use Rattle.dsde_bank.specs.declared.handle.Handle.{Handle}
use Rattle.dsde_values.specs.declared.name.Name.{Name}
use Rattle.dsde_values.specs.declared.path.Path.{Path}
use Rattle.dsde_values.specs.Path.{EXEC}
use Rattle.dsde_sim_tree.specs.Told.{below}
use Rattle.dsde_grove.specs.Grove as grove
use Rattle.dsde_grove.specs.Grove.{Grove, IsTree, Grows, spot}
use Rattle.dsde_sim_tree.specs.declared.sim.Kid.{Kid}
use Rattle.dsde_sim_tree.specs.declared.sim.Net.{Net}
use Rattle.dsde_sim_tree.specs.declared.sim.Sim.TheVariants as sim
use Rattle.dsde_sim_tree.specs.declared.sim.Sim.TheFolds.{fold-roll-Kid, fold-roll-Net}
use Rattle.dsde_sim_tree.specs.declared.sim.Sim.TheViews.{out-Kid, out-Net, roll-out-Kid, roll-out-Net}
use Rattle.dsde_sim_tree.specs.Start.{kid_of}
use Rattle.dsde_sim_tree.specs.Tree.{parts, parts_of_kid, parts_of_net, parts_of_kids, parts_step, kid_parts, net_parts, entry_of}
use Rattle.dsde_core_flat.specs.declared.spot.Spot.{Spot}
use Rattle.dsde_core_flat.specs.declared.spot.Spot.TheVariants as variant
use Rattle.dsde_routes_wiring.specs.declared.wiring.WiredKid.{WiredKid}
use Rattle.dsde_routes_wiring.specs.declared.wiring.WiredKid.TheViews.{out-WiredKid}
use Rattle.dsde_core_flat.specs.Change.{wired_kid, wiring_of}
use Rattle.dsde_core_flat.specs.Grafts.{path_at, IsFree, AreGrafted}
use Rattle.dsde_core_flat.specs.lemmas.Grafting.{kept-spot, graft-none, graft-join, graft-net, grown-spot, grown-keeps, parts-cons, parts-join}
use Rattle.dsde_core_flat.specs.Named.{AreToldApart, HasOwnNames, KidHasOwnNames}
use Rattle.dsde_core_flat.specs.Grafts.{IsRoomFor}
use Rattle.dsde_core_flat.specs.lemmas.Growing.{net-named, room-after, room-below}

-- The components so far are in the grove, and the others still have room.
pub record Grafts (kids : List Kid) (old : Grove Spot) (looks : ℕ) (parent : Handle) (own : Grove Spot) (now : ℕ) (done : List WiredKid) (rest : List Kid) : Type 0 where
  pub front : List Kid
  pub whole : front ++ rest ≡ kids
  pub grafted : AreGrafted old own (path_at old parent) front done
  pub tree : IsTree own
  pub live : IsSome (spot own parent)
  pub path : path_at own parent ≡ path_at old parent
  pub room : AllByRecursion (IsRoomFor own (path_at old parent)) rest
  pub named : AreToldApart (map entry_of rest)
  pub names : AllByRecursion KidHasOwnNames rest
  pub births : own.next_birth + parts_of_kids rest < 2 ^ 64
  pub within : parts_of_kids rest ≤ parts_of_kids kids
  pub ticks : now ≤ looks + 4 * parts_of_kids front

pub begins : (kids : List Kid) (old : Grove Spot) (looks : ℕ) (parent : Handle) → IsTree old → IsSome (spot old parent) → AllByRecursion (IsRoomFor old (path_at old parent)) kids → AreToldApart (map entry_of kids) →
    AllByRecursion KidHasOwnNames kids → old.next_birth + parts_of_kids kids < 2 ^ 64 → Grafts kids old looks parent old looks [] kids
begins kids old looks parent tree live room named names births = record {
  front = [];
  whole = refl;
  grafted = graft-none old (path_at old parent);
  tree = tree;
  live = live;
  path = refl;
  room = room;
  named = named;
  names = names;
  births = births;
  within = omega arith;
  ticks = omega arith;
}

pub kid-parts : (kid : Kid) → parts_of_kid kid ≡ parts (out-Kid kid).sim
kid-parts kid = ap parts_of_kid (sym (roll-out-Kid kid)) ∙ fold-roll-Kid ℕ ℕ ℕ parts_step kid_parts net_parts (out-Kid kid)

some-spot : (o : Option (grove.Spot Spot)) → IsSome o → (part : grove.Spot Spot) × (o ≡ Some part)
some-spot None is = absurd (let wrong : false ≡ true = is in cc)
some-spot (Some part) is = (part, refl)

still-some : (o other : Option (grove.Spot Spot)) → other ≡ o → IsSome o → IsSome other
still-some o other same is = subst (λ (p : Option (grove.Spot Spot)). IsSome p) (sym same) is

abbrev spot_path : Option (grove.Spot Spot) → Path
spot_path o = record { names = option_map_or (λ (part : grove.Spot Spot). part.path) o [] }

module _ (kids : List Kid) (old : Grove Spot) (looks : ℕ) (parent : Handle) (own : Grove Spot) (now : ℕ) (done : List WiredKid) (all rest : List Kid) (kid : Kid) (goes : Grafts kids old looks parent own now done all) (is : all ≡ kid ∷ rest) where
  here : Grafts kids old looks parent own now done (kid ∷ rest)
  here = subst (Grafts kids old looks parent own now done) is goes

  pub kid-room : IsFree own (below (path_at own parent) (out-Kid kid).name).names
  kid-room = subst (λ (p : Path). IsFree own (below p (out-Kid kid).name).names) (sym goes.path) here.room.0

  pub kid-names : HasOwnNames (out-Kid kid).sim
  kid-names = here.names.0

  pub kid-births : own.next_birth + parts (out-Kid kid).sim < 2 ^ 64
  kid-births = omega (arith, here.births, parts-cons kid rest, kid-parts kid)

  pub kid-less : parts (out-Kid kid).sim ≤ parts_of_kids kids
  kid-less = omega (arith, here.within, parts-cons kid rest, kid-parts kid)

  pub goes-on : (new : Grove Spot) (later : ℕ) (one : WiredKid) → AreGrafted own new (path_at own parent) (kid_of (out-Kid kid).name (out-Kid kid).sim ∷ []) (one ∷ []) → (out-WiredKid one).name ≡ (out-Kid kid).name →
      IsTree new → later ≤ now + 4 * parts (out-Kid kid).sim → Grafts kids old looks parent new later (done ++ one ∷ []) rest
  goes-on new later one grafted named tree ticks =
      let its : AreGrafted own new (path_at old parent) (kid ∷ []) (one ∷ []) =
      subst (λ (k : Kid). AreGrafted own new (path_at old parent) (k ∷ []) (one ∷ [])) (roll-out-Kid kid)
      (subst (λ (p : Path). AreGrafted own new p (kid_of (out-Kid kid).name (out-Kid kid).sim ∷ []) (one ∷ [])) goes.path grafted) in
      let at = some-spot (spot own parent) goes.live in
      let kept = kept-spot own new its.kept parent at.0 at.1 in
      record {
        front = here.front ++ kid ∷ [];
        whole = append_assoc here.front (kid ∷ []) rest ∙ here.whole;
        grafted = graft-join old own new (path_at old parent) here.front (kid ∷ []) done (one ∷ []) here.grafted its;
        tree = tree;
        live = still-some (spot own parent) (spot new parent) kept goes.live;
        path = ap spot_path kept ∙ goes.path;
        room = room-after own new (path_at old parent) (out-Kid kid).name (kid ∷ []) one its named rest here.named.1 here.room.1;
        named = here.named.2;
        names = here.names.1;
        births = omega (arith, here.births, its.next, parts-cons kid rest, parts-cons kid []);
        within = omega (arith, here.within, parts-cons kid rest);
        ticks = omega (arith, here.ticks, ticks, parts-join here.front (kid ∷ []), parts-cons kid [], kid-parts kid);
      }

-- a schedule that gets at most a pair for each part of those that are put in
pub kid-longer : (most before after : ℕ) (all rest : List Kid) (kid : Kid) → all ≡ kid ∷ rest → before + parts_of_kids all ≤ most → after ≤ before + parts (out-Kid kid).sim → after + parts_of_kids rest ≤ most
kid-longer most before after all rest kid is within one = let same = ap parts_of_kids is in omega (arith, same, within, one, parts-cons kid rest, kid-parts kid)

pub all-grafted : (kids : List Kid) (old : Grove Spot) (looks : ℕ) (parent : Handle) (own : Grove Spot) (now : ℕ) (done : List WiredKid) (rest : List Kid) → Grafts kids old looks parent own now done rest → rest ≡ [] →
    AreGrafted old own (path_at old parent) kids done × (now ≤ looks + 4 * parts_of_kids kids)
all-grafted kids old looks parent own now done rest goes is =
    let whole : goes.front ≡ kids = sym (append-nil goes.front) ∙ ap (λ (ks : List Kid). goes.front ++ ks) (sym is) ∙ goes.whole in
    (subst (λ (ks : List Kid). AreGrafted old own (path_at old parent) ks done) whole goes.grafted, subst (λ (ks : List Kid). now ≤ looks + 4 * parts_of_kids ks) whole goes.ticks)

pub net-parts : (net : Net) → parts_of_net net ≡ 2 + parts_of_kids (out-Net net).kids
net-parts net = ap parts_of_net (sym (roll-out-Net net)) ∙ fold-roll-Net ℕ ℕ ℕ parts_step kid_parts net_parts (out-Net net)

-- where a part that is live stands
pub path-there : (old : Grove Spot) (parent : Handle) (part : grove.Spot Spot) → spot old parent ≡ Some part → part.path ≡ (path_at old parent).names
path-there old parent part live = ap (λ (p : Path). p.names) (sym (ap spot_path live))

module _ (old new : Grove Spot) (parent : Handle) (name : Name) (value : Spot) (kid : Handle) (path : Path) (grows : Grows old new parent name value kid) (fresh : map.get old.parts kid.birth ≡ None) (at : grows.above.path ≡ path.names) where
  -- a part that has grown is live, and stands below its parent
  pub grown-live : IsSome (spot new kid)
  grown-live = still-some _ (spot new kid) (grown-spot old new parent name value kid path grows fresh at) refl

  pub grown-path : path_at new kid ≡ below path name
  grown-path = ap spot_path (grown-spot old new parent name value kid path grows fresh at) ∙ ap (λ (names : List Name). let p : Path = record { names = names ++ name ∷ [] } in p) at

-- a network, its executive and its components grow one after another
module _ (one two three : Grove Spot) (parent handle boss : Handle) (name exec : Name) (net : Net)
    (first : Grows one two parent name (variant.Net (out-Net net).model (out-Net net).args) handle) (fresh : map.get one.parts handle.birth ≡ None)
    (second : Grows two three handle exec (variant.Leaf (out-Net net).boss) boss) (fresh_two : map.get two.parts boss.birth ≡ None) (is : exec ≡ EXEC) where
  abbrev path : Path
  path = path_at one parent

  abbrev value : Spot
  value = variant.Net (out-Net net).model (out-Net net).args

  abbrev last : Spot
  last = variant.Leaf (out-Net net).boss

  at : first.above.path ≡ path.names
  at = path-there one parent first.above first.live

  named-boss : Grows two three handle EXEC last boss
  named-boss = subst (λ (n : Name). Grows two three handle n last boss) is second

  at-two : named-boss.above.path ≡ (below path name).names
  at-two =
      let its = grown-spot one two parent name value handle path first fresh at in
      let same : named-boss.above ≡ record { slot = handle.slot; parent = Some parent; name = name; path = first.above.path ++ name ∷ []; value = value } = let live : spot two handle ≡ Some named-boss.above = named-boss.live in cc in
      ap (λ (p : grove.Spot Spot). p.path) same ∙ ap (λ (names : List Name). names ++ name ∷ []) at

  handle-kept : spot three handle ≡ spot two handle
  handle-kept = kept-spot two three (grown-keeps two three handle EXEC last boss (below path name) named-boss fresh_two at-two) handle named-boss.above named-boss.live

  pub net-live : IsSome (spot three handle)
  net-live = still-some (spot two handle) (spot three handle) handle-kept (grown-live one two parent name value handle path first fresh at)

  pub net-path : path_at three handle ≡ below path name
  net-path = ap spot_path handle-kept ∙ grown-path one two parent name value handle path first fresh at

  pub net-room : IsFree one (below path name).names → HasOwnNames (sim.Net net) → AllByRecursion (IsRoomFor three (path_at three handle)) (out-Net net).kids
  net-room free names =
      subst (λ (p : Path). AllByRecursion (IsRoomFor three p) (out-Net net).kids) (sym net-path)
      (room-below one two three parent handle boss name value last path first fresh at named-boss fresh_two at-two (out-Net net).kids (net-named net names).0 free)

  pub net-births : one.next_birth + parts_of_net net < 2 ^ 64 → three.next_birth + parts_of_kids (out-Net net).kids < 2 ^ 64
  net-births few = omega (arith, few, first.next, second.next, net-parts net)

  pub net-grafted : (all : Grove Spot) (wired : List WiredKid) → AreGrafted three all (path_at three handle) (out-Net net).kids wired →
      AreGrafted one all path (kid_of name (sim.Net net) ∷ []) (wired_kid name handle (Some (wiring_of handle boss (out-Net net).links wired)) ∷ [])
  net-grafted all wired grafted =
      subst (λ (n : Net). AreGrafted one all path (kid_of name (sim.Net n) ∷ []) (wired_kid name handle (Some (wiring_of handle boss (out-Net net).links wired)) ∷ [])) (roll-out-Net net)
      (graft-net one two three all parent handle boss name (out-Net net).model (out-Net net).args (out-Net net).boss (out-Net net).links (out-Net net).kids wired path first fresh at named-boss fresh_two
      (subst (λ (p : Path). AreGrafted three all p (out-Net net).kids wired) net-path grafted))
