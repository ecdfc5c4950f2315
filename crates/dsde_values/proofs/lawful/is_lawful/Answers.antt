use Rattle.std.proofs.Common.{◌≡◌, sym, ◌∙◌, rules, tests}
use Rattle.std.specs.List.{list_all}
use Rattle.std.proofs.lemmas.Iterator.{YieldsList-from_slice}
use Rattle.std.proofs.lemmas.Iterator.Search.{all_from_yields_List}
use Rattle.dsde_values.specs.Value.{is_lawful_def}
use Rattle.dsde_values.proofs.lawful.is_lawful.Goals as goal

pub returns : goal.returns
returns c =
    let all : c.all.result ≡ list_all is_lawful_def c.args.types.now.defs =
    all_from_yields_List is_lawful_def _ _ _ c.all.ensures.ran (YieldsList-from_slice c.args.types.now.defs c.iter.ensures.rest) (λ x b q k. search (rules, tests)) in
    (λ e. sym all ∙ e, λ e. all ∙ e)
