use Rattle.std.proofs.Common.{◌+◌, List, [], map, ap, ◌∙◌}
use Rattle.dsde_structure.specs.declared.plan.Entry.{Entry}
use Rattle.dsde_sim_tree.specs.Told.{told, telling, ◌then◌}
use Rattle.dsde_sim_tree.specs.Tree.{parts_of_kids}
use Rattle.dsde_sim_tree.specs.Start.{start, starts}
use Rattle.dsde_sim_tree.specs.Move.{drop_of, gone, kept, left_behind}
use Rattle.dsde_core_moving.specs.Placed.{placed}
use Rattle.dsde_core_moving.proofs.Started.{refills-start}
use Rattle.dsde_core_moving.proofs.Needed.{needed-fresh}
use Rattle.dsde_core_moving.proofs.refilling_laws.changes_start_the_fresh.Goals as goal

pub returns : goal.returns
returns c system entries kids path time room order =
    let starter = start system (left_behind path) in
    let all = room + parts_of_kids (gone entries kids) in
    ap (telling (map (drop_of path) (gone entries kids)))
    (refills-start starter path time entries (kept entries kids) all
    ∙ ap (λ (es : List Entry). starts starter es path time all [] then (λ one. told [] (placed entries (kept entries kids) one.0, one.1))) (needed-fresh entries kids order))
