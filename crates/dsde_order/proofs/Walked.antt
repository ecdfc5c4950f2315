-- What the walk adds is what moves.
use Rattle.std.proofs.Common.{◌≡◌, ◌∙◌, ℕ, ◌+◌, ◌*◌, ◌<◌, ◌≤◌, ◌^◌, ◌||◌, ◌⊎◌, inl, inr, Bool, true, false, List, [], ◌∷◌, ◌++◌, length, map, Option, Some, None, is_some, Result, Ok, Err, OnOk, refl, sym, ap, subst, arith, append_assoc, append-nil}
use Rattle.std.specs.Prelude.{if◌then◌else◌}
use Rattle.std.specs.List.{AllByRecursion, flat_map}
use Rattle.std.proofs.lemmas.List.Sums.{sum_by-cons}
use Rattle.dsde_syntax.specs.declared.decl.Model.{Model}
use Rattle.dsde_values.specs.declared.path.Path.{Path}
use Rattle.dsde_sim_tree.specs.given.formalism.leaf_Leaf.{Leaf}
use Rattle.dsde_sim_tree.specs.given.formalism.leaf_MoveKind.{MoveKind}
use Rattle.dsde_sim_tree.specs.given.formalism.leaf_MoveKind_TheVariants.{Internal, External, Confluent}
use Rattle.dsde_sim_tree.specs.given.formalism.Leaf.{component_of, has_come, is_due, kind_of}
use Rattle.dsde_sim_tree.specs.given.formalism.System.{Ports, System}
use Rattle.dsde_structure.specs.declared.plan.Link.{Link}
use Rattle.dsde_structure.specs.declared.plan.Part.TheVariants as part
use Rattle.dsde_structure.specs.declared.sources.Sources.{Sources}
use Rattle.dsde_structure.specs.Gather.{gathered}
use Rattle.dsde_sim_tree.specs.declared.fault.TurnEnd.{TurnEnd}
use Rattle.dsde_sim_tree.specs.Told.{below, to_boss}
use Rattle.dsde_sim_tree.specs.declared.sim.Kid.{Kid}
use Rattle.dsde_sim_tree.specs.declared.sim.Net.{Net}
use Rattle.dsde_sim_tree.specs.declared.sim.Sim.TheVariants as sim
use Rattle.dsde_sim_tree.specs.declared.sim.Sim.TheFolds.{fold-roll-Kid, fold-roll-Net}
use Rattle.dsde_sim_tree.specs.declared.sim.Sim.TheViews.{out-Kid, out-Net, roll-out-Kid, roll-out-Net}
use Rattle.dsde_sim_tree.specs.Output.{kid_output, sources_of}
use Rattle.dsde_sim_tree.specs.Tree.{kid_parts, model_of, name_of, net_parts, parts, parts_of_kid, parts_of_kids, parts_of_net, parts_step}
use Rattle.dsde_sim_moving.specs.given.sim_gathering.Boxes.{box_of}
use Rattle.dsde_sim_moving.specs.Fitting.{FitsGot}
use Rattle.dsde_sim_moving.specs.Moving.{AreGot}
use Rattle.dsde_sim_moving.specs.given.system.Fitting.{FitsInputs}
use Rattle.dsde_sim_movers.specs.Deliveries.{Delivery}
use Rattle.dsde_sim_movers.specs.lemmas.Asking.{asked-again}
use Rattle.dsde_sim_movers.specs.lemmas.Events.{each-append}
use Rattle.dsde_sim_movers.specs.Movers.{movers}
use Rattle.dsde_sim_movers.specs.Walk.{called_one, kid_movers, net_movers}
use Rattle.dsde_order.specs.Walking.{Answers, FitsDelivery, KidsAnswer, movers_with}

pub ok-map : {X E : Type 0} (result : Result X E) (P Q : Type 0) → (P → Q) → OnOk result P → OnOk result Q
ok-map (Ok value) P Q gives holds = gives holds
ok-map (Err end) P Q gives holds = tt

-- who is due or gets something takes some transition
abbrev kind_by : Bool → Bool → Option MoveKind
kind_by due came = if due then (if came then Some Confluent else Some Internal) else (if came then Some External else None)

called : (leaf : Leaf) (time : ℕ) (got : Ports) → is_some (kind_of leaf time got) ≡ (is_due leaf time || has_come got)
called leaf time got = by (is_due leaf time) (has_come got)
  where
    by : (due came : Bool) → is_some (kind_by due came) ≡ (due || came)
    by true true = refl
    by true false = refl
    by false true = refl
    by false false = refl

module _ (leaf : Leaf) (path : Path) (time : ℕ) (got : Ports) where
  abbrev called-by : Bool → List Delivery
  called-by here = if here then record { path = path; model = leaf.model; ports = got } ∷ [] else []

  -- who takes a transition is called, and no other
  pub called-some : (kind : MoveKind) → kind_of leaf time got ≡ Some kind → called_one leaf path time got ≡ record { path = path; model = leaf.model; ports = got } ∷ []
  called-some kind is = ap called-by (sym (called leaf time got) ∙ ap is_some is)

  pub called-none : kind_of leaf time got ≡ None → called_one leaf path time got ≡ []
  called-none is = ap called-by (sym (called leaf time got) ∙ ap is_some is)

module _ (system : System) (net : Net) (path : Path) (time : ℕ) (answers : Answers system (sim.Net net) path time) where
  -- asked again it has no fault
  pub never-ends : (got : Ports) (end : TurnEnd) → sources_of system (map (kid_output system) (out-Net net).kids) (out-Net net).boss path time got ≡ Err end → ⊥
  never-ends got end is =
      let known = asked-again system net path time got answers.0 answers.1 in
      let e : (let one : Result Sources TurnEnd = Ok known.0 in one ≡ Err end) = sym known.1 ∙ is in cc

  -- and its components answer
  pub kids-answer : KidsAnswer system (out-Net net).kids path time
  kids-answer = (asked-again system net path time [] answers.0 answers.1).2

with-boxes : (system : System) (links : List Link) (sources : Sources) (path : Path) (time : ℕ) (kids : List Kid) →
    movers_with system kids (map (box_of system links sources) kids) path time ≡ flat_map (kid_movers system links sources path time) kids
with-boxes system links sources path time [] = refl
with-boxes system links sources path time (kid ∷ kids) =
    ap (λ (later : List Delivery). movers system (out-Kid kid).sim (below path (name_of kid)) time (box_of system links sources kid) ++ later) (with-boxes system links sources path time kids)

-- a network's movers are those of its components, and then its executive
pub net-walked : (system : System) (net : Net) (path : Path) (time : ℕ) (sources : Sources) (all : List Delivery) → all ≡ net_movers system net path time sources →
    (boxes : List Ports) → boxes ≡ map (box_of system (out-Net net).links sources) (out-Net net).kids →
    (got : Ports) → got ≡ gathered system.translate (out-Net net).links sources part.Boss (component_of system (out-Net net).boss).ins →
    (old mid new : List Delivery) → mid ≡ old ++ movers_with system (out-Net net).kids boxes path time → new ≡ mid ++ called_one (out-Net net).boss (to_boss path) time got → new ≡ old ++ all
net-walked system net path time sources all is boxes are got got_is old mid new mid_is new_is =
    let kids = (out-Net net).kids in
    let links = (out-Net net).links in
    let boss = called_one (out-Net net).boss (to_boss path) time in
    new_is
    ∙ ap (λ (front : List Delivery). front ++ boss got) mid_is
    ∙ append_assoc old (movers_with system kids boxes path time) (boss got)
    ∙ ap (λ (later : List Delivery). old ++ later)
    (ap (λ (own : List Ports). movers_with system kids own path time ++ boss got) are
    ∙ ap (λ (front : List Delivery). front ++ boss got) (with-boxes system links sources path time kids)
    ∙ ap (λ (own : Ports). flat_map (kid_movers system links sources path time) kids ++ boss own) got_is
    ∙ sym is)

called-fits : (model : Model) (own : Delivery) (here : Bool) → FitsDelivery model own → AllByRecursion (FitsDelivery model) (if here then own ∷ [] else [])
called-fits model own true fits = (fits, tt)
called-fits model own false fits = tt

-- one more fits who may move
pub one-fits : (model : Model) (leaf : Leaf) (path : Path) (time : ℕ) (got : Ports) (old new : List Delivery) → new ≡ old ++ called_one leaf path time got → FitsInputs model leaf.model.0 got → length got < 2 ^ 32 →
    AllByRecursion (FitsDelivery model) old → AllByRecursion (FitsDelivery model) new
one-fits model leaf path time got old new is fits few all =
    let own : FitsDelivery model (record { path = path; model = leaf.model; ports = got }) = record { fits = fits; few = few } in
    subst (AllByRecursion (FitsDelivery model)) (sym is)
    (each-append (FitsDelivery model) old (called_one leaf path time got) all (called-fits model _ (is_due leaf time || has_come got) own))

-- the parts of a component are those of its simulator
parts-kid : (kid : Kid) → parts_of_kid kid ≡ parts (out-Kid kid).sim
parts-kid kid = ap parts_of_kid (sym (roll-out-Kid kid)) ∙ fold-roll-Kid ℕ ℕ ℕ parts_step kid_parts net_parts (out-Kid kid)

-- those of a network are itself, its executive and its components'
parts-net : (net : Net) → parts_of_net net ≡ 2 + parts_of_kids (out-Net net).kids
parts-net net = ap parts_of_net (sym (roll-out-Net net)) ∙ fold-roll-Net ℕ ℕ ℕ parts_step kid_parts net_parts (out-Net net)

pub fewer-kids : (net : Net) (kids : List Kid) → kids ≡ (out-Net net).kids → 4 * parts_of_kids kids + 4 < 4 * parts_of_net net
fewer-kids net kids is = let own = parts-net net in let same = ap parts_of_kids is in omega (arith, own, same)

-- one more component is walked through, and what comes to it
module _ (items : List Kid) (kid : Kid) (later : List Kid) (is : items ≡ kid ∷ later) where
  parts-here : parts_of_kids items ≡ parts_of_kid kid + parts_of_kids later
  parts-here = ap parts_of_kids is ∙ sum_by-cons (λ x. x) (parts_of_kid kid) (map parts_of_kid later)

  pub fewer-here : (all : ℕ) → parts_of_kids items ≤ all → 4 * parts (out-Kid kid).sim + 1 < 4 * all + 4
  fewer-here all keeps = let own = parts-kid kid in omega (arith, parts-here, keeps, own)

  pub fewer-later : (all : ℕ) → parts_of_kids items ≤ all → parts_of_kids later ≤ all
  fewer-later all keeps = omega (arith, parts-here, keeps)

  pub each-here : (P : Kid → Type 0) → AllByRecursion P items → P kid × AllByRecursion P later
  each-here P all = subst (AllByRecursion P) is all

  module _ (boxes : List Ports) (got : Ports) (more : List Ports) (are : boxes ≡ got ∷ more) where
    pub got-here : (model : Model) → AreGot model items boxes → FitsGot model (model_of (out-Kid kid).sim).0 got × AreGot model later more
    got-here model all = subst (λ (list : List Ports). AreGot model (kid ∷ later) list) are (subst (λ (list : List Kid). AreGot model list boxes) is all)

    pub walked-here : (system : System) (path : Path) (time : ℕ) (found all after : List Delivery) (own : Path) → own ≡ below path (name_of kid) →
        found ++ movers_with system items boxes path time ≡ all → after ≡ found ++ movers system (out-Kid kid).sim own time got →
        after ++ movers_with system later more path time ≡ all
    walked-here system path time found all after own at so_far added =
        let rest = movers_with system later more path time in
        ap (λ (front : List Delivery). front ++ rest) (added ∙ ap (λ (here : Path). found ++ movers system (out-Kid kid).sim here time got) at)
        ∙ append_assoc found (movers system (out-Kid kid).sim (below path (name_of kid)) time got) rest
        ∙ sym (ap (λ (list : List Kid). found ++ movers_with system list boxes path time) is ∙ ap (λ (list : List Ports). found ++ movers_with system (kid ∷ later) list path time) are)
        ∙ so_far

-- no component is left
pub none-left : (model : Model) (items : List Kid) (boxes : List Ports) → AreGot model items boxes → {U V : Type 0} {P : U → Type 0} {Q : V → Type 0} →
    (count : ℕ) → count ≡ length boxes → ((u : U) × ((length items ≡ 0) × P u)) ⊎ ((v : V) × ((count ≡ 0) × Q v)) → items ≡ []
none-left model [] boxes are count counts end = refl
none-left model (kid ∷ items) [] are count counts end = absurd are
none-left model (kid ∷ items) (got ∷ boxes) are count counts (inl end) = absurd (let none : length (kid ∷ items) ≡ 0 = end.1.0 in omega (arith, none))
none-left model (kid ∷ items) (got ∷ boxes) are count counts (inr end) = absurd (omega (arith, counts, end.1.0))

pub walked-all : (system : System) (path : Path) (time : ℕ) (items : List Kid) (boxes : List Ports) (found all : List Delivery) → items ≡ [] → found ++ movers_with system items boxes path time ≡ all → found ≡ all
walked-all system path time items boxes found all none so_far =
    sym (append-nil found)
    ∙ ap (λ (list : List Kid). found ++ movers_with system list boxes path time) (sym none)
    ∙ so_far
