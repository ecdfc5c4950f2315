use Rattle.dsde_parser.proofs.WholeLemmas.{whole}
use Rattle.dsde_parser.proofs.whole.parse_all.Goals as goal

pub returns-clause-shaped : goal.returns-clause-shaped
returns-clause-shaped c =
    (whole _ _ _ _ c.new-parser.ensures c.requires.well_formed c.requires.few c.in_ok-decls.ensures.took c.in_ok-decls.ensures.whole).shaped

pub returns-clause-spells : goal.returns-clause-spells
returns-clause-spells c =
    (whole _ _ _ _ c.new-parser.ensures c.requires.well_formed c.requires.few c.in_ok-decls.ensures.took c.in_ok-decls.ensures.whole).spells
