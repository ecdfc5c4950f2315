use Rattle.dsde_io.specs.declared.stored.Stored.{Stored}
use Rattle.dsde_io.proofs.UnderNames.{with_bytes_at, with_bytes_none}
use Rattle.dsde_io.proofs.entries.put.Goals as goal

pub returns-in-Some-clause-ok : goal.returns-in-Some-clause-ok
returns-in-Some-clause-ok c =
    let place = rw c.as_slice.ensures at c.in-Some.ensures.found in
    let d : Stored = record { name = c.args.name.now; bytes = c.args.bytes.now } in
    let is = with_bytes_at c.args.contents.now c.args.name.now c.args.bytes.now c.in-Some.place d place.within (place.named d) place.first in
    let changed = rw c.in_ok-bytes.ensures at (c.replace.ensures d) in
    cc

pub returns-in_ok-name-in-None-clause-ok : goal.returns-in_ok-name-in-None-clause-ok
returns-in_ok-name-in-None-clause-ok c =
    let none = rw c.as_slice.ensures at c.in-None.ensures.none in
    let pushed = with_bytes_none c.args.contents.now c.args.name.now c.args.bytes.now none in
    rw pushed (rw (c.in_ok-name-in-None.ensures, c.in_ok-bytes.ensures) at c.push.ensures.ok)
