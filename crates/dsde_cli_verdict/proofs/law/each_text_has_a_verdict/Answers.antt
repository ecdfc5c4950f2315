use Rattle.dsde_cli_verdict.proofs.EachVerdict.{verdict}
use Rattle.dsde_cli_verdict.proofs.law.each_text_has_a_verdict.Goals as goal

pub returns : goal.returns
returns c =
    verdict
    (record {
      whole = c.what_came_begins_a_model.ensures.whole;
      first = c.stops_are_first_wrong.ensures;
      shaped = c.grammatical_tokens_have_a_model.ensures;
    })
    c.texts_are_cut.ensures.well_formed c.texts_are_cut.ensures.few c.texts_are_cut.ensures.too_long c.texts_are_cut.ensures.no_memory
