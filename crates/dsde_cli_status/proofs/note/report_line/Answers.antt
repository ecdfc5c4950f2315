use Rattle.std.proofs.Common.{◌≡◌, refl, codes, arith}
use Rattle.std.proofs.lemmas.Grind.{common_steps}
use Rattle.dsde_cli_status.specs.declared.status.Status.TheVariants.{Memory}
use Rattle.dsde_cli_status.specs.Note.{note_of}
use Rattle.dsde_cli_status.proofs.NoteLemmas.{front-either}
use Rattle.dsde_cli_status.proofs.note.report_line.Goals as goal

pub returns-then-is_err-clause-noted_front : goal.returns-then-is_err-clause-noted_front
returns-then-is_err-clause-noted_front g c =
    front-either c.write_all.result (g.E.Sink.written c.args.notes.now) (g.E.Sink.written c.write_all.new.sink) Memory (codes "memory\n") refl
    c.write_all.ensures.gained c.write_all.ensures.front

pub returns-in-Ok-clause-noted_front : goal.returns-in-Ok-clause-noted_front
returns-in-Ok-clause-noted_front g c =
    let note : c.as_slice.result.now ≡ note_of c.args.status = grind (arith, common_steps) in
    front-either c.write_all-2.result (g.E.Sink.written c.args.notes.now) (g.E.Sink.written c.write_all-2.new.sink) c.args.status c.as_slice.result.now note
    c.write_all-2.ensures.gained c.write_all-2.ensures.front
