use Rattle.std.proofs.Common.{arith, take, rules}
use Rattle.std.proofs.lemmas.List.{take_all}
use Rattle.dsde_io.specs.Stored.{IsPlaceOf}
use Rattle.dsde_io.proofs.UnderNames.{distinct_more, not_distinct, some_found, none_found}
use Rattle.dsde_io.proofs.entries.has_distinct_names.Goals as goal

pub returns-then-is_some : goal.returns-then-is_some
returns-then-is_some c =
    let stored = c.index-contents-place in
    let is = rw c.as_slice.ensures at c.place_of.ensures.found in
    let found = some_found _ (IsPlaceOf (take c.loop-place.place c.args.contents.now) stored.result.name) c.if-is_some.ensures is in
    (λ no. absurd (search rules), λ distinct. absurd (not_distinct c.args.contents.now c.loop-place.place found.0 stored.result c.loop-place-test.true stored.is found.1 distinct))

pub loop-place-preserved : goal.loop-place-preserved
loop-place-preserved c =
    let stored = c.index-contents-place in
    let none = rw c.as_slice.ensures at c.place_of.ensures.none in
    distinct_more c.args.contents.now c.loop-place.place stored.result c.loop-place-test.true stored.is (none_found _ _ c.if-is_some.ensures none) c.loop-place.invariant

pub returns : goal.returns
returns c =
    let distinct = rw (take_all c.loop-place.place c.args.contents.now (omega arith)) at c.loop-place.invariant in
    (λ _. distinct, λ _. search rules)
