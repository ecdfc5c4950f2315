use Rattle.dsde_check_structures.proofs.translations.body_via.Goals as goal

pub returns : goal.returns
returns c = rw (c.translating-inside.ensures, c.in_ok-own.ensures) at c.height_as.ensures.says
