-- How far a move has come.
use Rattle.std.proofs.Common.{◌≡◌, ℕ, List, [], ◌∷◌, ◌++◌, map, sym, ap, subst, ◌∙◌, Some}
use Rattle.dsde_sim_changing.specs.given.sim_gathering.Boxes.{box_of}
use Rattle.dsde_values.specs.declared.path.Path.{Path}
use Rattle.dsde_values.specs.declared.value.Value.{Value}
use Rattle.dsde_language.specs.declared.ids.ModelId.{ModelId}
use Rattle.dsde_sim_tree.specs.given.formalism.leaf_Leaf.{Leaf}
use Rattle.dsde_sim_tree.specs.given.formalism.leaf_MoveKind.{MoveKind}
use Rattle.dsde_sim_tree.specs.given.formalism.System.{System, Ports}
use Rattle.dsde_sim_tree.specs.given.formalism.Leaf.{kind_of}
use Rattle.dsde_sim_tree.specs.given.structure.plan_Link.{Link}
use Rattle.dsde_sim_tree.specs.given.structure.sources_Sources.{Sources}
use Rattle.dsde_sim_tree.specs.declared.event.Event.{Event}
use Rattle.dsde_sim_tree.specs.Told.{Told, quietly, ◌then◌, to_boss}
use Rattle.dsde_sim_changing.specs.given.sim_telling.lemmas_GoingOn.{GoesOn, goes-begin}
use Rattle.dsde_sim_tree.specs.declared.sim.Kid.{Kid}
use Rattle.dsde_sim_tree.specs.declared.sim.Net.{Net}
use Rattle.dsde_sim_tree.specs.declared.sim.Sim.TheVariants as sim
use Rattle.dsde_sim_tree.specs.declared.sim.Sim.TheViews.{out-Net}
use Rattle.dsde_sim_tree.specs.Opened.{as_leaf, as_net, move-Leaf, move-Net, net_move-opens}
use Rattle.dsde_sim_tree.specs.Output.{kid_output, sources_of}
use Rattle.dsde_sim_tree.specs.Move.{take_move, move_leaf_at, after_boss, after_kids, boss_moves, kid_move, move, net_move, with_sources}
use Rattle.dsde_sim_moving.specs.Moving.{kid_with, kids_with}
use Rattle.dsde_sim_moving.proofs.Opens.{kids-moved}

-- what was to be told is another spelling of itself
pub goes-same : {A : Type 0} (whole rest next : Told A) (old new : List Event) → rest ≡ next → GoesOn whole rest old new → GoesOn whole next old new
goes-same {A} whole rest next old new same goes = subst (λ (step : Told A). GoesOn whole step old new) same goes

boss_moves-Some : (system : System) (model : ModelId) (args : List Value) (boss : Leaf) (links : List Link) (kids : List Kid) (path : Path) (time : ℕ) (got : Ports) (room : ℕ) (kind : MoveKind) →
    kind_of boss time got ≡ Some kind →
    boss_moves system model args boss links kids path time got room ≡ (take_move system boss kind (to_boss path) time got then after_boss system model args kids path time room)
boss_moves-Some system model args boss links kids path time got room kind is = rw (is, boss_moves)

pub boss-goes : (system : System) (model : ModelId) (args : List Value) (boss : Leaf) (links : List Link) (kids : List Kid) (path : Path) (time : ℕ) (got : Ports) (room : ℕ) (kind : MoveKind) (old : List Event) →
    kind_of boss time got ≡ Some kind →
    GoesOn (boss_moves system model args boss links kids path time got room)
    (take_move system boss kind (to_boss path) time got then after_boss system model args kids path time room) old old
boss-goes system model args boss links kids path time got room kind old is =
    let whole = boss_moves system model args boss links kids path time got room in
    goes-same whole whole _ old old (boss_moves-Some system model args boss links kids path time got room kind is) (goes-begin whole old)

pub leaf-goes : (system : System) (leaf : Leaf) (path : Path) (time : ℕ) (got : Ports) (room : ℕ) (old : List Event) →
    GoesOn (move system (sim.Leaf leaf) path time got room) (move_leaf_at system leaf path time got then as_leaf room) old old
leaf-goes system leaf path time got room old =
    let whole = move system (sim.Leaf leaf) path time got room in
    goes-same whole whole _ old old (move-Leaf system leaf path time got room) (goes-begin whole old)

pub net-goes : (system : System) (net : Net) (path : Path) (time : ℕ) (got : Ports) (room : ℕ) (old : List Event) →
    GoesOn (move system (sim.Net net) path time got room) (net_move system net path time got room then as_net) old old
net-goes system net path time got room old =
    let whole = move system (sim.Net net) path time got room in
    goes-same whole whole _ old old (move-Net system net path time got room) (goes-begin whole old)

pub sources-go : (system : System) (net : Net) (path : Path) (time : ℕ) (got : Ports) (room : ℕ) (old : List Event) →
    GoesOn (net_move system net path time got room)
    (quietly (sources_of system (map (kid_output system) (out-Net net).kids) (out-Net net).boss path time got) then
    with_sources system (out-Net net).model (out-Net net).args (out-Net net).boss (map (kid_move system) (out-Net net).kids) (out-Net net).links path time room) old old
sources-go system net path time got room old =
    let whole = net_move system net path time got room in
    goes-same whole whole _ old old (net_move-opens system net path time got room) (goes-begin whole old)

-- the other components move behind this one
abbrev pub kids_behind : System → List Kid → List Ports → Path → ℕ → List Kid → Kid × ℕ → Told (List Kid × ℕ)
kids_behind system kids gots path time done one = kids_with system kids gots path time one.1 (done ++ one.0 ∷ [])

pub kid-goes : (system : System) (path : Path) (time room : ℕ) (done : List Kid) (whole : Told (List Kid × ℕ)) (old mid : List Event)
    (items : List Kid) (boxes : List Ports) (kid : Kid) (later : List Kid) (got : Ports) (gots : List Ports) →
    items ≡ kid ∷ later → boxes ≡ got ∷ gots →
    GoesOn whole (kids_with system items boxes path time room done) old mid →
    GoesOn whole (kid_with system kid path time got room then kids_behind system later gots path time done) old mid
kid-goes system path time room done whole old mid items boxes kid later got gots is are goes =
    goes-same whole _ _ old mid
    (ap (λ (kids : List Kid). kids_with system kids boxes path time room done) is ∙ ap (λ (boxes : List Ports). kids_with system (kid ∷ later) boxes path time room done) are) goes

pub kids-go : (system : System) (net : Net) (sources : Sources) (path : Path) (time room : ℕ) (gots : List Ports) (old : List Event) →
    gots ≡ map (box_of system (out-Net net).links sources) (out-Net net).kids →
    GoesOn (with_sources system (out-Net net).model (out-Net net).args (out-Net net).boss (map (kid_move system) (out-Net net).kids) (out-Net net).links path time room sources)
    (kids_with system (out-Net net).kids gots path time room [] then after_kids system (out-Net net).model (out-Net net).args (out-Net net).boss (out-Net net).links path time sources) old old
kids-go system net sources path time room gots old are =
    let whole = with_sources system (out-Net net).model (out-Net net).args (out-Net net).boss (map (kid_move system) (out-Net net).kids) (out-Net net).links path time room sources in
    goes-same whole whole _ old old
    (ap (λ (step : Told (List Kid × ℕ)). step then after_kids system (out-Net net).model (out-Net net).args (out-Net net).boss (out-Net net).links path time sources)
    (kids-moved system (out-Net net).kids path time (out-Net net).links sources room []
    ∙ ap (λ (gots : List Ports). kids_with system (out-Net net).kids gots path time room []) (sym are)))
    (goes-begin whole old)
