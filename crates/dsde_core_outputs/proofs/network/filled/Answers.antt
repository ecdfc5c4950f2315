use Rattle.std.proofs.Common.{List, sym, ap, subst, ◌∙◌}
use Rattle.std.specs.List.{AllByRecursion}
use Rattle.dsde_sim_working.specs.given.system.Program.{system}
use Rattle.dsde_core_parcels.specs.declared.parcel.Outlet.{Outlet}
use Rattle.dsde_sim_tree.specs.given.formalism.System.{Ports}
use Rattle.dsde_core_parcels.specs.Counted.{CountsRows}
use Rattle.dsde_core_parcels.specs.Outlets.{turn_outlets}
use Rattle.dsde_core_parcels.specs.Parcels.{GoFrom}
use Rattle.dsde_core_outputs.specs.Rooting.{FillInboxes}
use Rattle.dsde_core_outputs.proofs.network.filled.Goals as goal

pub carried-requires : goal.carried-requires
carried-requires g c =
    let f = c.args.flat.now in
    let m = c.args.program.now in
    subst (AllByRecursion (GoFrom m f.rows)) (sym c.as_slice.ensures)
    (c.outlets_fill_inboxes.ensures.go m f c.args.time c.args.items.now c.args.due.now c.in_ok-outlets.outlets c.requires.stands c.requires.network c.in_ok-outlets.ensures.sent)

pub returns-clause-ready : goal.returns-clause-ready
returns-clause-ready g c =
    let f = c.args.flat.now in
    let m = c.args.program.now in
    c.outlets_fill_inboxes.ensures.ready m f c.args.time c.args.items.now c.args.due.now c.in_ok-outlets.outlets c.in_ok-boxes.boxes c.requires.stands c.requires.network c.in_ok-outlets.ensures.sent
    (subst (λ (outlets : List Outlet). FillInboxes f.rows (system m).translate outlets c.in_ok-boxes.boxes) c.as_slice.ensures c.in_ok-boxes.ensures.fill)

pub returns-clause-few : goal.returns-clause-few
returns-clause-few g c =
    let f = c.args.flat.now in
    let S = system c.args.program.now in
    let sent = c.in_ok-outlets.ensures.sent in
    let few = c.in_ok-boxes.ensures.few in (
      few.0,
      record {
        dues = c.args.due.now;
        due = sent.due;
        all = subst (λ (outlets : List Outlet). CountsRows f.rows outlets few.0) (c.as_slice.ensures ∙ sent.sent ∙ ap (λ (got : Ports). turn_outlets S c.args.time f.grove f.root got c.args.due.now) sent.came) few.1;
      },
      few.2,
    )
