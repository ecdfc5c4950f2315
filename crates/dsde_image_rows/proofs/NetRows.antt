-- The rows of a network, behind others.
use Rattle.std.proofs.Common.{◌≡◌, List, [], ◌∷◌, ◌++◌, map, Result, refl, sym, ap, ◌∙◌, append_assoc}
use Rattle.std.specs.Prelude.{Ok, Err, OnOk, ⊤}
use Rattle.std.specs.List.{flat_map}
use Rattle.dsde_lists.specs.declared.memory.Memory.{Memory}
use Rattle.dsde_values.specs.declared.path.Path.{Path}
use Rattle.dsde_sim_tree.specs.declared.sim.Kid.{Kid}
use Rattle.dsde_sim_tree.specs.declared.sim.Net.{Net}
use Rattle.dsde_sim_tree.specs.declared.sim.Sim.TheFolds.{fold-roll-Net}
use Rattle.dsde_sim_tree.specs.declared.sim.Sim.TheViews.{out-Net, roll-out-Net}
use Rattle.dsde_image.specs.declared.image.Row.{Row}
use Rattle.dsde_image.specs.declared.image.Version.{Version}
use Rattle.dsde_image_rows.specs.Rows.{Script, Listing, rows_step, rows_kid, rows_net, rows_of_kid, rows_of_net, net_row, boss_row}

flat_map-map : {X Y Z : Type 0} (f : Y → List Z) (g : X → Y) (xs : List X) → flat_map f (map g xs) ≡ flat_map (λ x. f (g x)) xs
flat_map-map f g [] = refl
flat_map-map f g (x ∷ xs) = ap (λ rest. f (g x) ++ rest) (flat_map-map f g xs)

net-rows : (script : Script) (version : Version) (net : Net) (path : Path) → rows_of_net script version net path
    ≡ net_row script version path (out-Net net).model (out-Net net).args ∷ boss_row script version path (out-Net net).boss ∷ flat_map (λ kid. rows_of_kid script version kid path) (out-Net net).kids
net-rows script version net path =
    ap (λ (n : Net). rows_of_net script version n path) (sym (roll-out-Net net))
    ∙ ap (λ (listing : Listing). listing path) (fold-roll-Net Listing Listing Listing (rows_step script version) rows_kid (rows_net script version) (out-Net net))
    ∙ ap (λ (own : List Row). net_row script version path (out-Net net).model (out-Net net).args ∷ boss_row script version path (out-Net net).boss ∷ own)
    (flat_map-map (λ (listing : Listing). listing path) (rows_of_kid script version) (out-Net net).kids)

pub net-listed : (script : Script) (version : Version) (net : Net) (path : Path) (old first second new : List Row) (kids : List Kid) (result : Result ⊤ Memory) →
    first ≡ old ++ net_row script version path (out-Net net).model (out-Net net).args ∷ [] →
    second ≡ first ++ boss_row script version path (out-Net net).boss ∷ [] →
    kids ≡ (out-Net net).kids → OnOk result (new ≡ second ++ flat_map (λ kid. rows_of_kid script version kid path) kids) →
    OnOk result (new ≡ old ++ rows_of_net script version net path)
net-listed script version net path old first second new kids (Err why) first_is second_is kids_are goes = tt
net-listed script version net path old first second new kids (Ok done) first_is second_is kids_are goes =
    goes
    ∙ ap (λ (all : List Kid). second ++ flat_map (λ kid. rows_of_kid script version kid path) all) kids_are
    ∙ ap (λ (front : List Row). front ++ flat_map (λ kid. rows_of_kid script version kid path) (out-Net net).kids) (second_is ∙ ap (λ (front : List Row). front ++ boss_row script version path (out-Net net).boss ∷ []) first_is)
    ∙ append_assoc (old ++ net_row script version path (out-Net net).model (out-Net net).args ∷ []) (boss_row script version path (out-Net net).boss ∷ []) (flat_map (λ kid. rows_of_kid script version kid path) (out-Net net).kids)
    ∙ append_assoc old (net_row script version path (out-Net net).model (out-Net net).args ∷ []) (boss_row script version path (out-Net net).boss ∷ flat_map (λ kid. rows_of_kid script version kid path) (out-Net net).kids)
    ∙ ap (λ (rest : List Row). old ++ rest) (sym (net-rows script version net path))
