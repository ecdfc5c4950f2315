use Rattle.std.proofs.Common.{ℕ, ◌+◌, List, ◌∷◌, Ok, Option, sym, ap, subst, ◌∙◌}
use Rattle.std.proofs.lemmas.List.Sums.{sum_by-append}
use Rattle.dsde_bank.specs.declared.handle.Handle.{Handle}
use Rattle.dsde_sim_tree.specs.given.formalism.leaf_Leaf.{Leaf}
use Rattle.dsde_sim_changing.specs.given.system.Fitting.{FitsInputs, FitsLeaf}
use Rattle.dsde_sim_changing.specs.given.system.Program.{system}
use Rattle.dsde_sim_tree.specs.Told.{◌then◌, Tells}
use Rattle.dsde_sim_tree.specs.Move.{take_move}
use Rattle.dsde_core_flat.specs.given.grove.Grove.{value_of}
use Rattle.dsde_core_flat.specs.given.sim_movers.Work.{work, work_of}
use Rattle.dsde_core_flat.specs.declared.spot.Spot.{Spot}
use Rattle.dsde_core_flat.specs.Scheduled.{IsScheduledBut}
use Rattle.dsde_core_flat.specs.Shown.{leaf_in}
use Rattle.dsde_core_moves.specs.Moved.{put_under, StaysOf}
use Rattle.dsde_core_moves.proofs.Valued.{back-held, put-back, put-tells, still-held, still-waits}
use Rattle.dsde_core_moves.proofs.moving.component_moves.Goals as goal

pub take_move-requires-clause-leaf : goal.take_move-requires-clause-leaf
take_move-requires-clause-leaf g c = subst (FitsLeaf c.args.program.now) (sym c.take_leaf-leaf.ensures.taken) c.requires.fits

pub take_move-requires-clause-got : goal.take_move-requires-clause-got
take_move-requires-clause-got g c = subst (λ (leaf : Leaf). FitsInputs c.args.program.now leaf.model.0 c.args.got) (sym c.take_leaf-leaf.ensures.taken) c.requires.got

pub put_moved-requires-clause-live : goal.put_moved-requires-clause-live
put_moved-requires-clause-live g c = still-held c.args.grove.now c.take_leaf-leaf.new.grove c.args.handle c.requires.live c.take_leaf-leaf.ensures.left

pub returns-clause-told : goal.returns-clause-told
returns-clause-told g c =
    let a = c.args in
    let back = put-back a.grove.now c.take_leaf-leaf.new.grove a.handle c.requires.live c.take_leaf-leaf.ensures.left c.put_moved.new.grove c.in_ok-moved.moved c.put_moved.ensures.put in
    subst (λ (leaf : Leaf). Tells (take_move (system a.program.now) leaf a.kind a.path a.time a.got then put_under a.grove.now a.handle) a.events.now c.take_move.new.events (Ok c.put_moved.new.grove)) c.take_leaf-leaf.ensures.taken
    (put-tells (take_move (system a.program.now) c.take_leaf-leaf.result a.kind a.path a.time a.got) a.events.now c.take_move.new.events a.grove.now c.put_moved.new.grove a.handle c.in_ok-moved.moved c.in_ok-moved.ensures.told back)

pub returns-clause-fits : goal.returns-clause-fits
returns-clause-fits g c =
    let here = back-held c.args.grove.now c.take_leaf-leaf.new.grove c.args.handle c.requires.live c.take_leaf-leaf.ensures.left c.put_moved.new.grove c.in_ok-moved.moved c.put_moved.ensures.put in
    subst (λ (held : Option Spot). FitsLeaf c.args.program.now (leaf_in held)) (sym here) c.in_ok-moved.ensures.fits

pub returns-clause-stays : goal.returns-clause-stays
returns-clause-stays g c =
    let here = back-held c.args.grove.now c.take_leaf-leaf.new.grove c.args.handle c.requires.live c.take_leaf-leaf.ensures.left c.put_moved.new.grove c.in_ok-moved.moved c.put_moved.ensures.put in
    subst (λ (held : Option Spot). StaysOf (leaf_in (value_of c.args.grove.now c.args.handle)) (leaf_in held)) (sym here)
    (subst (λ (old : Leaf). StaysOf old c.in_ok-moved.moved) c.take_leaf-leaf.ensures.taken
    (record { model = c.in_ok-moved.ensures.model; args = c.in_ok-moved.ensures.args; boss = c.in_ok-moved.ensures.boss }))

pub returns-clause-waits : goal.returns-clause-waits
returns-clause-waits g c rest but =
    c.put_moved.ensures.waits rest
    (still-waits c.args.grove.now c.take_leaf-leaf.new.grove c.args.handle c.requires.live c.take_leaf-leaf.ensures.left rest _
    (subst (λ (pairs : List (ℕ × Handle)). IsScheduledBut c.args.grove.now (c.args.handle ∷ rest) pairs) (sym c.in_ok-reserve.ensures.kept) but))

pub returns-clause-work : goal.returns-clause-work
returns-clause-work g c =
    let a = c.args in
    let S = system a.program.now in
    let told = c.in_ok-moved.ensures.told in
    ap work told.0 ∙ sum_by-append work_of a.events.now (take_move S c.take_leaf-leaf.result a.kind a.path a.time a.got).events
    ∙ ap (λ n. work a.events.now + n) (c.steps_tell_their_work.ensures.moves S c.take_leaf-leaf.result c.in_ok-moved.moved a.kind a.path a.time a.got told.1)
