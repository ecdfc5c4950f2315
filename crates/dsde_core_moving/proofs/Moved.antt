-- An executive has moved where it lies: the tree that lies there is the one in which it has.
use Rattle.std.proofs.Common.{◌≡◌, ◌∙◌, inl, inr, false, List, [], ◌∷◌, ◌++◌, map, Option, Some, refl, sym, ap, subst}
use Rattle.std.specs.List.{AllByRecursion}
use Rattle.std.specs.FinMap as map
use Rattle.dsde_bank.specs.declared.handle.Handle.{Handle}
use Rattle.dsde_values.specs.declared.name.Name.{Name}
use Rattle.dsde_values.specs.declared.path.Path.{Path}
use Rattle.dsde_values.specs.Path.{root, EXEC}
use Rattle.dsde_syntax.specs.declared.decl.Model.{Model}
use Rattle.dsde_sim_tree.specs.given.formalism.leaf_Leaf.{Leaf}
use Rattle.dsde_structure.specs.declared.plan.Link.{Link}
use Rattle.dsde_sim_starting.specs.given.system.Fitting.{FitsLeaf}
use Rattle.dsde_sim_starting.specs.given.system.Program.{system}
use Rattle.dsde_grove.specs.Grove as grove
use Rattle.dsde_grove.specs.Grove.{spot, value_of, with_value, Grove, IsTree}
use Rattle.dsde_queue.specs.Queue.{Queue}
use Rattle.dsde_sim_tree.specs.declared.sim.Kid.{Kid}
use Rattle.dsde_sim_tree.specs.declared.sim.Net.{Net}
use Rattle.dsde_sim_tree.specs.declared.sim.Sim.{Sim}
use Rattle.dsde_sim_tree.specs.declared.sim.Sim.TheVariants as sim
use Rattle.dsde_sim_tree.specs.declared.sim.Sim.TheOpen.{Net-F}
use Rattle.dsde_sim_tree.specs.declared.sim.Sim.TheViews.{out-Net, out-roll-Net}
use Rattle.dsde_sim_tree.specs.Spots.{spots}
use Rattle.dsde_sim_tree.specs.Start.{net_of}
use Rattle.dsde_sim_tree.specs.Tree.{parts, parts_of_kids}
use Rattle.dsde_sim_movers.specs.lemmas.Opened.{args-Net, model-Net}
use Rattle.dsde_sim_starting.specs.Fitting.{FitsNet, FitsSpot, IsExecutive as Heads}
use Rattle.dsde_sim_starting.specs.lemmas.Fits.{net-kids, tree-net}
use Rattle.dsde_sim_starting.proofs.Made.{net-of-fits}
use Rattle.dsde_sim_movers.specs.Parts.{part_at, with_part}
use Rattle.dsde_sim_movers.specs.lemmas.Spotting.{spots-with, IsAlike}
use Rattle.dsde_routes_wiring.specs.declared.wiring.WiredKid.{WiredKid}
use Rattle.dsde_routes_wiring.specs.declared.wiring.WiredKid.TheViews.{out-Wiring}
use Rattle.dsde_core_moves.specs.given.core_flat.spot_Spot.{Spot}
use Rattle.dsde_core_moves.specs.given.core_flat.spot_Spot_TheVariants as variant
use Rattle.dsde_core_moves.specs.given.core_flat.Change.{outside}
use Rattle.dsde_core_moves.specs.given.core_flat.Places.{part_places, Place}
use Rattle.dsde_core_moves.specs.given.core_flat.Shown.{args_in, kid_under, leaf_in, model_in, net_under, part_under}
use Rattle.dsde_core_moves.specs.given.core_flat.Stands.{is_net, ChangesBeneath, NetStands, StandsAt, StandsFor}
use Rattle.dsde_core_moves.specs.given.core_flat.lemmas_Beneath.{outside-apart}
use Rattle.dsde_core_moves.specs.given.core_flat.lemmas_Closing.{boss-value, kids-value, net-value}
use Rattle.dsde_core_moves.specs.given.core_flat.lemmas_Context.{part-changes, Shows}
use Rattle.dsde_core_moves.specs.given.core_flat.lemmas_Groves.{changes-above, same-or-not, spot-slot, value-changes, valued-other}
use Rattle.dsde_core_moves.specs.given.core_flat.lemmas_Keeping.{all-agree, old-mixed, same, spot-got, spot-same, wired-same}
use Rattle.dsde_core_moves.specs.given.core_flat.lemmas_Mixing.{all-one}
use Rattle.dsde_core_moves.specs.given.core_flat.lemmas_Moves.{moved-spot, was-live}
use Rattle.dsde_core_moves.specs.given.core_flat.lemmas_Opened.{net-shows}
use Rattle.dsde_core_moves.specs.given.core_flat.lemmas_Meeting.{parts-agree, tree-names}
use Rattle.dsde_core_moves.specs.Moved.{StaysOf}
use Rattle.dsde_core_moves.specs.declared.flat.Flat.{Flat}
use Rattle.dsde_core_moves.specs.declared.flat.Mover.{Mover}
use Rattle.dsde_core_moves.specs.Flat.{leaf_of, tree_of, IsThere, Stands}
use Rattle.dsde_core_moving.specs.Executive.{IsExecutive, IsExecutiveAt}
use Rattle.dsde_core_moving.proofs.Again.{parts-traded, with-there}
use Rattle.dsde_core_moving.proofs.Owning.{fits-net, handle-is, kids, last, leaf-is, named, net, net-here, net-there, no-exec, none, own, path, place, shape}

-- Where another component or executive lies under a handle, each part is where it was.
module _ (old : Grove Spot) (handle : Handle) (leaf : Leaf) (part : grove.Spot Spot) (live : spot old handle ≡ Some part) (kind : is_net part.value ≡ false) where
  abbrev put : Grove Spot
  put = with_value old handle (variant.Leaf leaf)

  stands-put : (at : Place) → StandsAt old at → StandsAt put at
  stands-put at stands = elim (same-or-not at.handle.birth handle.birth) [
    | inl same ↦
        let got : map.get old.parts handle.birth ≡ Some stands.part = ap (map.get old.parts) (sym same) ∙ spot-got old at.handle stands.part stands.live in
        let mine : map.get old.parts handle.birth ≡ Some part = spot-got old handle part live in
        let one : stands.part ≡ part = cc in
        let slots : at.handle.slot ≡ handle.slot = sym (spot-slot old at.handle stands.part stands.live) ∙ ap (λ (p : grove.Spot Spot). p.slot) one ∙ spot-slot old handle part live in
        let handles : at.handle ≡ handle = λ i. record { birth = same i; slot = slots i } in
        record {
          part = record part { value = variant.Leaf leaf };
          live = ap (spot put) handles ∙ moved-spot old handle leaf part live;
          path = ap (λ (p : grove.Spot Spot). p.path) (sym one) ∙ stands.path;
          kind = sym kind ∙ ap (λ (p : grove.Spot Spot). is_net p.value) (sym one) ∙ stands.kind;
        }
    | inr apart ↦
        let got : map.get put.parts at.handle.birth ≡ Some stands.part = valued-other old handle (variant.Leaf leaf) part live at.handle.birth apart ∙ spot-got old at.handle stands.part stands.live in
        record {
          part = stands.part;
          live = spot-same old put at.handle stands.part stands.live got ∙ stands.live;
          path = stands.path;
          kind = stands.kind;
        }
  ]

  pub all-put : (ats : List Place) → AllByRecursion (StandsAt old) ats → AllByRecursion (StandsAt put) ats
  all-put [] stands = tt
  all-put (at ∷ ats) stands = (stands-put at stands.0, all-put ats stands.1)

module _ (model : Model) (flat : Flat) (mover : Mover) (stands : Stands model flat) (there : IsThere flat mover) (at : IsExecutive flat mover) (leaf : Leaf) where
  abbrev pub tree : Sim
  tree = tree_of flat

  abbrev pub its_net : Net
  its_net = net model flat mover stands there at

  abbrev pub its_place : List Name
  its_place = place model flat mover stands there at

  abbrev pub boss : Handle
  boss = last model flat mover stands there at

  abbrev pub its_kids : List WiredKid
  its_kids = kids model flat mover stands there at

  abbrev pub top : Handle
  top = (own model flat mover stands there at).handle

  abbrev pub links : List Link
  links = (out-Wiring (own model flat mover stands there at).wired).links

  abbrev pub here : NetStands flat.grove top boss (path model flat mover stands there at) its_kids
  here = net-here model flat mover stands there at

  abbrev pub new : Grove Spot
  new = with_value flat.grove boss (variant.Leaf leaf)

  -- the network with the executive that has moved
  abbrev pub net_moved : Net
  net_moved = net_of (out-Net its_net).model (out-Net its_net).args leaf (out-Net its_net).kids (out-Net its_net).links

  pub value-new : value_of new boss ≡ Some (variant.Leaf leaf)
  value-new = boss-value flat.grove top boss (path model flat mover stands there at) its_kids leaf here (no-exec model flat mover stands there at)

  pub value-net : value_of new top ≡ value_of flat.grove top
  value-net = net-value flat.grove top boss (path model flat mover stands there at) its_kids leaf here (no-exec model flat mover stands there at)

  pub kids-same : map (kid_under (value_of new)) its_kids ≡ map (kid_under (value_of flat.grove)) its_kids
  kids-same = kids-value flat.grove top boss (path model flat mover stands there at) its_kids leaf here (no-exec model flat mover stands there at)

  abbrev pub layer : Net-F Sim Kid Net
  layer = record { model = model_in (value_of flat.grove top); args = args_in (value_of flat.grove top); boss = leaf_in (value_of flat.grove boss); kids = map (kid_under (value_of flat.grove)) its_kids; links = links }

  pub opened : out-Net its_net ≡ layer
  opened =
      ap out-Net (sym (own model flat mover stands there at).shows)
      ∙ ap out-Net (net-shows (value_of flat.grove) (own model flat mover stands there at).wired top)
      ∙ out-roll-Net layer

  pub shows-moved : net_under (value_of new) (own model flat mover stands there at).wired top ≡ net_moved
  shows-moved =
      net-shows (value_of new) (own model flat mover stands there at).wired top
      ∙ ap (λ (held : Option Spot). net_of (model_in held) (args_in held) (leaf_in (value_of new boss)) (map (kid_under (value_of new)) its_kids) links) value-net
      ∙ ap (λ (held : Option Spot). net_of layer.model layer.args (leaf_in held) (map (kid_under (value_of new)) its_kids) links) value-new
      ∙ ap (λ (ks : List Kid). net_of layer.model layer.args leaf ks links) kids-same
      ∙ ap (λ (n : Net-F Sim Kid Net). net_of n.model n.args leaf n.kids n.links) (sym opened)

  -- nothing changes but beneath the network
  pub changes-here : ChangesBeneath (path model flat mover stands there at).names flat.grove new
  changes-here =
      changes-above (path model flat mover stands there at).names (EXEC ∷ []) flat.grove new
      (subst (λ (names : List Name). ChangesBeneath names flat.grove new) here.executive.path
      (value-changes flat.grove boss (variant.Leaf leaf) here.executive.part here.executive.live))

  pub tree-new : part_under (value_of new) flat.root flat.wiring ≡ with_part its_place (sim.Net net_moved) tree
  tree-new =
      let others = all-one (StandsAt flat.grove) (old-mixed its_place flat.root root flat.wiring) stands.stands.live in
      let agree = all-agree flat.grove new (root.names ++ its_place) changes-here (outside its_place flat.root root flat.wiring) others (outside-apart its_place (none model flat mover stands there at) flat.root root flat.wiring) in
      let shows = subst (AllByRecursion (Shows (value_of flat.grove) (value_of new) same (λ s. sim.Net net_moved))) (sym (own model flat mover stands there at).is) (ap sim.Net shows-moved, tt) in
      ap (part_under (value_of new) flat.root) (sym (wired-same its_place flat.wiring))
      ∙ part-changes (value_of flat.grove) (value_of new) same (λ s. sim.Net net_moved) its_place flat.root root flat.wiring agree shows
      ∙ parts-agree (sim.Net net_moved) its_place tree (tree-names tree (named model flat mover stands there at))

  pub stands-new : StandsFor new flat.root flat.wiring (part_under (value_of new) flat.root flat.wiring)
  stands-new = record {
    shows = refl;
    itself = stands.stands.itself;
    live = all-put flat.grove boss leaf here.executive.part here.executive.live here.executive.kind (part_places flat.root root flat.wiring) stands.stands.live;
    only = λ birth part is.
        let was = was-live flat.grove boss leaf here.executive.part here.executive.live birth part is in
        stands.stands.only birth was.0 was.1;
  }

  pub opened-moved : out-Net net_moved ≡ record { model = (out-Net its_net).model; args = (out-Net its_net).args; boss = leaf; kids = (out-Net its_net).kids; links = (out-Net its_net).links }
  opened-moved = out-roll-Net (record { model = (out-Net its_net).model; args = (out-Net its_net).args; boss = leaf; kids = (out-Net its_net).kids; links = (out-Net its_net).links })

  module _ (own_grove : Grove Spot) (queue : Queue) (is_put : own_grove ≡ with_value flat.grove mover.handle (variant.Leaf leaf)) where
    abbrev pub next_flat : Flat
    next_flat = record { root = flat.root; grove = own_grove; queue = queue; rows = flat.rows; wiring = flat.wiring }

    pub grove-is : own_grove ≡ new
    grove-is = is_put ∙ ap (λ (h : Handle). with_value flat.grove h (variant.Leaf leaf)) (handle-is model flat mover stands there at)

    pub tree-moved : tree_of next_flat ≡ with_part its_place (sim.Net net_moved) tree
    tree-moved = ap (λ (g : Grove Spot). part_under (value_of g) flat.root flat.wiring) grove-is ∙ tree-new

    pub changes-moved : ChangesBeneath (path model flat mover stands there at).names flat.grove own_grove
    changes-moved = subst (λ (g : Grove Spot). ChangesBeneath (path model flat mover stands there at).names flat.grove g) (sym grove-is) changes-here

    pub next-birth : own_grove.next_birth ≡ flat.grove.next_birth
    next-birth = ap (λ (g : Grove Spot). g.next_birth) is_put

    pub parts-moved : parts (tree_of next_flat) ≡ parts tree
    parts-moved =
        ap parts tree-moved
        ∙ parts-traded (system model) its_place net_moved its_net tree (net-there model flat mover stands there at) (ap (λ (n : Net-F Sim Kid Net). parts_of_kids n.kids) opened-moved)

    -- it is the executive of its network there
    abbrev pub executive-moved : (found : Path) → found ≡ path model flat mover stands there at → IsExecutiveAt next_flat mover.handle found
    executive-moved found is = record {
      place = its_place;
      net = net_moved;
      at = is;
      there = ap (part_at its_place) tree-moved ∙ with-there its_place (sim.Net net_moved) (sim.Net its_net) tree (net-there model flat mover stands there at);
      held =
          ap (λ (g : Grove Spot). value_of g mover.handle) grove-is ∙ ap (value_of new) (handle-is model flat mover stands there at) ∙ value-new
          ∙ ap (λ (n : Net-F Sim Kid Net). let held : Option Spot = Some (variant.Leaf n.boss) in held) (sym opened-moved);
    }

    -- the flat state stands for the tree that it shows
    pub stands-moved : FitsLeaf model leaf → StaysOf (leaf_of flat mover) leaf → IsTree own_grove → Stands model next_flat
    stands-moved fits stays is_tree =
        let its_shape = shape model flat mover stands there at in
        let was = leaf-is model flat mover stands there at in
        let heads : Heads (out-Net its_net).model (out-Net its_net).args leaf = record {
          model = stays.model ∙ ap (λ (l : Leaf). l.model) was ∙ its_shape.boss_is.model;
          args = stays.args ∙ ap (λ (l : Leaf). l.args) was ∙ its_shape.boss_is.args;
          executive = stays.boss ∙ ap (λ (l : Leaf). l.boss) was ∙ its_shape.boss_is.executive;
        } in
        let net_fits : FitsNet model net_moved =
        net-of-fits (out-Net its_net).model (out-Net its_net).args leaf (out-Net its_net).kids (out-Net its_net).links net_moved refl model its_shape.args fits heads (net-kids model its_net (fits-net model flat mover stands there at)) its_shape.links in
        let alike : IsAlike (sim.Net net_moved) (sim.Net its_net) = record {
          model = model-Net net_moved ∙ ap (λ (n : Net-F Sim Kid Net). n.model) opened-moved ∙ sym (model-Net its_net);
          args = args-Net net_moved ∙ ap (λ (n : Net-F Sim Kid Net). n.args) opened-moved ∙ sym (args-Net its_net);
        } in
        record {
          stands = subst (λ (g : Grove Spot). StandsFor g flat.root flat.wiring (part_under (value_of g) flat.root flat.wiring)) (sym grove-is) stands-new;
          fits = record {
            all = subst (λ (t : Sim). AllByRecursion (FitsSpot model) (spots t)) (sym tree-moved)
                (spots-with (FitsSpot model) its_place (sim.Net net_moved) (sim.Net its_net) tree stands.fits.all (net-there model flat mover stands there at) (tree-net model net_moved net_fits).all alike);
          };
          tree = is_tree;
          rows = stands.rows;
        }
