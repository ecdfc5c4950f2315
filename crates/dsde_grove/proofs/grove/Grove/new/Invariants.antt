use Rattle.dsde_grove.proofs.grove.Grove.new.Given as goal

abbrev pub ghosts-plant : goal.ghosts-plant
ghosts-plant g a = record { name = a.blank.name; parts = a.blank.parts }
