use Rattle.dsde_io.proofs.UnderNames.{bytes_under-with_bytes, bytes_under-with_bytes_other, AreDistinct-with_bytes}
use Rattle.dsde_io.proofs.memory_shelf.MemoryShelfShelf.store.Goals as goal

pub invariant_of-self-2 : goal.invariant_of-self-2
invariant_of-self-2 c =
    rw c.in_ok-put.ensures.ok (AreDistinct-with_bytes _ _ _ c.self.invariant)

pub returns-clause-stored : goal.returns-clause-stored
returns-clause-stored c =
    rw (c.in_ok-put.ensures.ok, c.as_bytes.ensures.value) (bytes_under-with_bytes c.self.inside.contents c.args.name.now c.args.bytes.now)

pub returns-clause-others : goal.returns-clause-others
returns-clause-others c =
    λ other apart. rw (c.in_ok-put.ensures.ok, c.as_bytes.ensures.value, ← c.self.view_is) (bytes_under-with_bytes_other c.self.inside.contents c.args.name.now c.args.bytes.now other apart)
