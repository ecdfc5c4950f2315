use Rattle.dsde_core.proofs.planting.flat_of.Given as goal

abbrev pub ghosts-flat_with : goal.ghosts-flat_with
ghosts-flat_with a = record { name = a.blank.name; parts = a.blank.parts }
