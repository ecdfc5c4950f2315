use Rattle.dsde_parser.proofs.RefusalLemmas.{cut-wrong, cut-deep, cut-begun, begun-whole}
use Rattle.dsde_parser.proofs.whole.parse_deep.Goals as goal
use Rattle.dsde_parser.proofs.whole.parse_deep.Goals.{in-Ok, in-Err-Syntax, in-Err-Syntax-2, in-Err-Nested, in-Err-Memory}

pub returns : goal.returns
returns c =
    let law = c.stops_are_first_wrong.ensures in
    elim c.match-parse_all.branch [
      | in-Ok w ↦ rw w.result-is (cut-deep _ _ c.requires.deep (begun-whole _ _ w.in-Ok.ensures.shaped w.in-Ok.ensures.spells))
      | in-Err-Syntax w ↦
          let stops = rw w.in-Err-Syntax.field-0-is at w.in-Err-Syntax.ensures.stopped in
          rw w.result-is (cut-deep _ _ c.requires.deep (cut-begun _ _ _ law c.requires.well_formed c.requires.deep w.if-at-deep.true stops))
      | in-Err-Syntax-2 w ↦
          let stops = rw w.in-Err-Syntax.field-0-is at w.in-Err-Syntax.ensures.stopped in
          rw w.result-is (cut-wrong _ _ _ law c.requires.well_formed c.requires.deep w.if-at-deep.false stops)
      | in-Err-Nested w ↦ absurd (rw w.in-Err-Nested.field-0-is at w.in-Err-Nested.ensures.stopped)
      | in-Err-Memory w ↦ rw w.result-is tt
    ]
