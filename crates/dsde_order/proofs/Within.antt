-- A network whose component of a name takes a step.
use Rattle.std.proofs.Common.{◌≡◌, ◌∙◌, ℕ, ◌+◌, ◌<◌, ◌≤◌, ◌^◌, Bool, true, false, List, [], ◌∷◌, ◌++◌, Option, Some, None, IfSome, Ok, Err, map, refl, sym, ap, subst, arith}
use Rattle.std.specs.Prelude.{option_and_then}
use Rattle.std.specs.List.{AllByRecursion}
use Rattle.std.proofs.lemmas.List.Sums.{sum_by-cons}
use Rattle.dsde_syntax.specs.declared.decl.Model.{Model}
use Rattle.dsde_values.specs.declared.name.Name.{Name}
use Rattle.dsde_values.specs.declared.value.Value.{Value}
use Rattle.dsde_language.specs.declared.ids.ModelId.{ModelId}
use Rattle.dsde_sim_tree.specs.given.formalism.leaf_Leaf.{Leaf}
use Rattle.dsde_sim_tree.specs.given.formalism.System.{Ports}
use Rattle.dsde_structure.specs.declared.plan.Link.{Link}
use Rattle.dsde_structure.specs.Gather.{is_same_name}
use Rattle.dsde_sim_moving.specs.given.system.Fitting.{FitsInputs}
use Rattle.dsde_sim_tree.specs.declared.event.Event.{Event}
use Rattle.dsde_sim_tree.specs.declared.fault.TurnEnd.{TurnEnd}
use Rattle.dsde_sim_tree.specs.declared.fault.TurnEnd.TheVariants.{Memory}
use Rattle.dsde_sim_tree.specs.Told.{Told, Tells, told, ◌then◌}
use Rattle.dsde_sim_moving.specs.given.sim_telling.lemmas_GoingOn.{GoesOn, goes-end, goes-memory, goes-step, goes-stops}
use Rattle.dsde_sim_tree.specs.declared.sim.Kid.{Kid}
use Rattle.dsde_sim_tree.specs.declared.sim.Net.{Net}
use Rattle.dsde_sim_tree.specs.declared.sim.Sim.{Sim}
use Rattle.dsde_sim_tree.specs.declared.sim.Sim.TheVariants as sim
use Rattle.dsde_sim_tree.specs.declared.sim.Sim.TheOpen.{Net-F}
use Rattle.dsde_sim_tree.specs.declared.sim.Sim.TheViews.{out-Net}
use Rattle.dsde_sim_tree.specs.Start.{kid_of, net_of}
use Rattle.dsde_sim_tree.specs.Tree.{args_of, model_of, name_of, parts, parts_of_kid, parts_of_kids}
use Rattle.dsde_sim_movers.specs.lemmas.Opened.{parts-Net, parts-kid}
use Rattle.dsde_sim_moving.specs.Fitting.{FitsSpot, FitsTree}
use Rattle.dsde_sim_movers.specs.Parts.{kid_named, part_at, with_part}
use Rattle.dsde_sim_movers.specs.Movers.{Seat, Step, leaf_at, seat_within, step_at}
use Rattle.dsde_sim_movers.specs.lemmas.Lenses.{part-leaf}
use Rattle.dsde_sim_movers.specs.lemmas.Seats.{leaf-within, net_with, own-sim, part-within, part_at-whole, step-within, whole, whole-of, with-within, with_room}
use Rattle.dsde_sim_movers.specs.lemmas.Spotting.{IsAlike, args-whole, model-whole, opened, spots-at, spots-with}
use Rattle.dsde_order.specs.Seating.{FitsSeat, IsAt}
use Rattle.dsde_order.proofs.Components.{none-named}
use Rattle.dsde_order.proofs.ByParts.{goes-as}

kids-cons : (kid : Kid) (kids : List Kid) → parts_of_kids (kid ∷ kids) ≡ parts_of_kid kid + parts_of_kids kids
kids-cons kid kids = sum_by-cons (λ x. x) (parts_of_kid kid) (map parts_of_kid kids)

middle-few : (before : List Kid) (kid : Kid) (after : List Kid) → parts_of_kid kid ≤ parts_of_kids (before ++ kid ∷ after)
middle-few [] kid after = let one = kids-cons kid after in omega (arith, one)
middle-few (first ∷ before) kid after =
    let one = kids-cons first (before ++ kid ∷ after) in
    let rest = middle-few before kid after in omega (arith, one, rest)

parts-whole : (model : ModelId) (args : List Value) (boss : Leaf) (kids : List Kid) (links : List Link) → parts (whole model args boss kids links) ≡ 2 + parts_of_kids kids
parts-whole model args boss kids links =
    parts-Net (net_of model args boss kids links) ∙ ap (λ (net : Net-F Sim Kid Net). 2 + parts_of_kids net.kids) (opened model args boss kids links)

-- Nothing stands beneath an atomic component, nor beneath a network that has no component of the name.
abbrev stays : List Name → Step → Sim → ℕ → Option Sim → Told (Sim × ℕ)
stays names step tree room found = elim found [
  | Some part ↦ step part room then (λ after. told [] (with_part names after.0 tree, after.1))
  | None ↦ told [] (tree, room)
]

pub leaf-stays : (name : Name) (names : List Name) (step : Step) (leaf : Leaf) (room : ℕ) → step_at (name ∷ names) step (sim.Leaf leaf) room ≡ told [] (sim.Leaf leaf, room)
leaf-stays name names step leaf room = ap (stays (name ∷ names) step (sim.Leaf leaf) room) (part-leaf names name leaf)

pub net-stays : (net : Net) (name : Name) (names : List Name) (step : Step) (room : ℕ) → AllByRecursion (λ kid. is_same_name (name_of kid) name ≡ false) (out-Net net).kids →
    step_at (name ∷ names) step (sim.Net net) room ≡ told [] (sim.Net net, room)
net-stays net name names step room none =
    ap (stays (name ∷ names) step (sim.Net net) room)
    (ap (part_at (name ∷ names)) (whole-of net)
    ∙ part_at-whole name names (out-Net net).model (out-Net net).args (out-Net net).boss (out-Net net).kids (out-Net net).links
    ∙ ap (option_and_then (part_at names)) (none-named name (out-Net net).kids none))

module _ (same : (name : Name) → is_same_name name name ≡ true) (net : Net) (name : Name) (index : ℕ) (at : IsAt name (out-Net net).kids index) where
  -- the network with this simulator under the name
  abbrev pub having : Sim → Sim
  having = net_with (out-Net net).model (out-Net net).args (out-Net net).boss (out-Net net).links at.before at.after name

  pub is-having : sim.Net net ≡ having at.own
  is-having = whole-of net ∙ ap (λ (kids : List Kid). whole (out-Net net).model (out-Net net).args (out-Net net).boss kids (out-Net net).links) at.is

  pub step-having : (names : List Name) (step : Step) (room : ℕ) → step_at (name ∷ names) step (sim.Net net) room ≡ (step_at names step at.own room then with_room having)
  step-having names step room =
      ap (λ (tree : Sim). step_at (name ∷ names) step tree room) is-having
      ∙ step-within same (out-Net net).model (out-Net net).args (out-Net net).boss (out-Net net).links at.before at.after name at.none names step at.own room

  seat-having : (names : List Name) (is_boss : Bool) → leaf_at (record { names = name ∷ names; is_boss = is_boss }) (sim.Net net) ≡ leaf_at (record { names = names; is_boss = is_boss }) at.own
  seat-having names is_boss =
      ap (leaf_at (record { names = name ∷ names; is_boss = is_boss })) is-having
      ∙ leaf-within same (out-Net net).model (out-Net net).args (out-Net net).boss (out-Net net).links at.before at.after name at.none (record { names = names; is_boss = is_boss }) at.own

  pub seat-fits : (model : Model) (names : List Name) (is_boss : Bool) (got : Ports) → FitsSeat model (name ∷ names) is_boss got (sim.Net net) → FitsSeat model names is_boss got at.own
  seat-fits model names is_boss got fits = subst (λ (found : Option Leaf). IfSome found (λ leaf. FitsInputs model leaf.model.0 got)) (seat-having names is_boss) fits

  own-part : part_at (name ∷ []) (having at.own) ≡ Some at.own
  own-part = part-within same (out-Net net).model (out-Net net).args (out-Net net).boss (out-Net net).links at.before at.after name at.none [] at.own

  pub own-fits : (model : Model) → FitsTree model (sim.Net net) → FitsTree model at.own
  own-fits model fits =
      let all : FitsTree model (having at.own) = subst (FitsTree model) is-having fits in
      record { all = spots-at (FitsSpot model) (name ∷ []) at.own (having at.own) all.all own-part }

  pub own-few : (room : ℕ) → parts (sim.Net net) + room < 2 ^ 64 → parts at.own + room < 2 ^ 64
  own-few room few =
      let counted : parts (sim.Net net) ≡ 2 + parts_of_kids (at.before ++ kid_of name at.own ∷ at.after) =
      ap parts is-having ∙ parts-whole (out-Net net).model (out-Net net).args (out-Net net).boss (at.before ++ kid_of name at.own ∷ at.after) (out-Net net).links in
      let one : parts_of_kid (kid_of name at.own) ≡ parts at.own = parts-kid (kid_of name at.own) ∙ ap parts (own-sim name at.own) in
      let some = middle-few at.before (kid_of name at.own) at.after in
      omega (arith, counted, one, some, few)

  pub having-fits : (model : Model) (own : Sim) → FitsTree model (sim.Net net) → FitsTree model own → model_of own ≡ model_of at.own → args_of own ≡ args_of at.own → FitsTree model (having own)
  having-fits model own fits own_fits model_is args_is =
      let all : FitsTree model (having at.own) = subst (FitsTree model) is-having fits in
      let alike : IsAlike own at.own = record { model = model_is; args = args_is } in
      let made = spots-with (FitsSpot model) (name ∷ []) own at.own (having at.own) all.all own-part own_fits.all alike in
      subst (FitsTree model) (with-within same (out-Net net).model (out-Net net).args (out-Net net).boss (out-Net net).links at.before at.after name at.none [] own at.own)
      (record { all = made })

  pub having-model : (own : Sim) → model_of (having own) ≡ model_of (sim.Net net)
  having-model own =
      model-whole (out-Net net).model (out-Net net).args (out-Net net).boss (at.before ++ kid_of name own ∷ at.after) (out-Net net).links
      ∙ sym (ap model_of (whole-of net) ∙ model-whole (out-Net net).model (out-Net net).args (out-Net net).boss (out-Net net).kids (out-Net net).links)

  pub having-args : (own : Sim) → args_of (having own) ≡ args_of (sim.Net net)
  having-args own =
      args-whole (out-Net net).model (out-Net net).args (out-Net net).boss (at.before ++ kid_of name own ∷ at.after) (out-Net net).links
      ∙ sym (ap args_of (whole-of net) ∙ args-whole (out-Net net).model (out-Net net).args (out-Net net).boss (out-Net net).kids (out-Net net).links)

  -- the network that is made again
  pub made-having : (own : Sim) (kids : List Kid) → kids ≡ at.before ++ kid_of name own ∷ at.after → sim.Net (net_of (out-Net net).model (out-Net net).args (out-Net net).boss kids (out-Net net).links) ≡ having own
  made-having own kids is = ap (λ (list : List Kid). whole (out-Net net).model (out-Net net).args (out-Net net).boss list (out-Net net).links) is

  -- how far the network's step has come where the component's has come to an end
  module _ (names : List Name) (step : Step) (room : ℕ) (old new : List Event) where
    abbrev stepping : Told (Sim × ℕ)
    stepping = step_at (name ∷ names) step (sim.Net net) room

    begun : GoesOn stepping (step_at names step at.own room then with_room having) old old
    begun = goes-as stepping (step_at names step at.own room then with_room having) old (step-having names step room)

    stepped : (after : Sim × ℕ) → Tells (step_at names step at.own room) old new (Ok after) → GoesOn stepping (told [] (having after.0, after.1)) old new
    stepped after tells = goes-step stepping (step_at names step at.own room) (with_room having) old old new after begun tells.0 tells.1

    pub tells-ok : (after : Sim) (left : ℕ) (made : Sim) → made ≡ having after → Tells (step_at names step at.own room) old new (Ok (after, left)) → Tells stepping old new (Ok (made, left))
    tells-ok after left made is tells =
        subst (λ (own : Sim). Tells stepping old new (Ok (own, left))) (sym is) (goes-end stepping (having after, left) old new (stepped (after, left) tells))

    pub tells-err : (end : TurnEnd) → Tells (step_at names step at.own room) old new (Err end) → Tells stepping old new (Err end)
    tells-err end tells = goes-stops stepping (step_at names step at.own room) (with_room having) old old new end begun tells

    pub tells-memory : (after : Sim × ℕ) → Tells (step_at names step at.own room) old new (Ok after) → Tells stepping old new (Err Memory)
    tells-memory after tells = goes-memory stepping (told [] (having after.0, after.1)) old new (stepped after tells)
