use Rattle.std.proofs.Common.{refl, subst, ap, ◌∙◌}
use Rattle.dsde_input.specs.Reader.{Reader, Moves, has_line}
use Rattle.dsde_input.specs.contracts.reader.InputReader.{the_view}
use Rattle.dsde_input.proofs.Moving.{Moves-piece, lacking}
use Rattle.dsde_input.proofs.reader.InputReader.read_piece.Goals as goal

pub returns-else-branch-eq0-clause-moves : goal.returns-else-branch-eq0-clause-moves
returns-else-branch-eq0-clause-moves g c =
    let old = the_view c.self.inside in
    let new : Reader = record old { held = c.read.new.self } in
    subst (λ old. Moves old new (g.R.Source.left c.args.source.now) (g.R.Source.left c.read.new.source)) c.self.view_is
    (Moves-piece old new (g.R.Source.left c.args.source.now) (g.R.Source.left c.read.new.source)
    (lacking old.ended old refl (ap has_line c.self.view_is ∙ c.requires)) refl c.in_ok-read.ensures.kept c.in_ok-read.ensures.taken)
