use Rattle.dsde_core.proofs.whole.tree_of.Given as goal

abbrev pub ghosts-tree_shown : goal.ghosts-tree_shown
ghosts-tree_shown a = record { name = a.blank.name; parts = a.blank.parts }
