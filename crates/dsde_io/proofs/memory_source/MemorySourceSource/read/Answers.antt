use Rattle.std.proofs.Common.{◌≡◌, drop, ◌∙◌, ap, arith}
use Rattle.dsde_io.proofs.Taken.{read_and_left}
use Rattle.dsde_io.proofs.memory_source.MemorySourceSource.read.Goals as goal

pub returns-clause-taken : goal.returns-clause-taken
returns-clause-taken c =
    let source = c.self.inside in
    let from : c.rest_of-left.result.now ≡ drop source.taken source.bytes = c.rest_of-left.ensures ∙ ap (drop source.taken) c.as_slice.ensures in
    let copied = rw from at c.copy_front-count.ensures.copied in
    let count = rw from at c.copy_front-count.ensures.count in
    rw (← c.self.view_is) (read_and_left source.bytes _ _ source.taken _ (omega (arith, count)) copied)
