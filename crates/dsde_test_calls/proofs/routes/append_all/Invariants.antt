use Rattle.dsde_test_calls.proofs.routes.append_all.Given as goal

abbrev pub ghosts-append_told : goal.ghosts-append_told
ghosts-append_told a = record { name = a.blank.name; parts = a.blank.parts }
