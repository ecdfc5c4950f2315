use Rattle.dsde_test_stores.proofs.tests.handles_find_what_they_should.Given as goal

abbrev pub ghosts-counted : goal.ghosts-counted
ghosts-counted g a = record { name = a.blank.name; parts = a.blank.parts }
