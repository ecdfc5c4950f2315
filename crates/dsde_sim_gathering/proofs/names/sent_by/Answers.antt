use Rattle.std.proofs.Common.{get_or, sym, ◌∙◌}
use Rattle.std.proofs.lemmas.Option.{slice_get-get_or}
use Rattle.dsde_sim_gathering.proofs.Placing.{sent-there, sent-nowhere}
use Rattle.dsde_sim_gathering.proofs.names.sent_by.Goals as goal

pub returns-in-Some : goal.returns-in-Some
returns-in-Some c =
    c.as_slice.ensures
    ∙ sym (sent-there c.args.kids.now c.args.name.now c.in-Some.index (get_or c.args.kids.now c.in-Some.index c.index-kids-index.result)
    (sym c.in-Some.ensures.is) (slice_get-get_or c.args.kids.now c.in-Some.index c.index-kids-index.result c.in-Some.ensures.below))

pub returns-in-None : goal.returns-in-None
returns-in-None c = sym (sent-nowhere c.args.kids.now c.args.name.now (sym c.in-None.ensures.is))
