use Rattle.std.proofs.Common.{◌∙◌, ap, sym}
use Rattle.std.specs.Prelude.{Some}
use Rattle.dsde_io.proofs.UnderNames.{bytes_under-at}
use Rattle.dsde_io.proofs.entries.bytes_of.Goals as goal

pub returns-in-Some : goal.returns-in-Some
returns-in-Some c =
    let place = c.in-Some.ensures.found in
    let stored = c.index-contents-place.result in
    ap Some c.as_slice.ensures ∙ sym (bytes_under-at c.args.contents.now c.args.name.now c.in-Some.place stored place.within (place.named stored) place.first)
