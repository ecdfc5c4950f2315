use Rattle.std.proofs.Common.{◌∙◌}
use Rattle.dsde_cli.proofs.Restoring.{run-is, standing-of}
use Rattle.dsde_cli.proofs.LawStoring.{text-restored}
use Rattle.dsde_cli.proofs.joined_laws.stored_runs_are_taken_up.Goals as goal

pub returns : goal.returns
returns c = λ own pick bytes text turns more first whole is whole_is right can few left.
    let standing = standing-of c.runs_stand.ensures own bytes turns more first (is ∙ run-is own bytes turns) right can in
    let taken = c.runs_are_taken_up.ensures own pick bytes turns more first whole is whole_is right can in
    record {
      restored = text-restored c.rows_are_right.ensures c.images_are_written.ensures c.images_are_said.ensures c.images_are_restored.ensures own turns more first text right standing can few left;
      joined = taken.joined;
    }
