use Rattle.dsde_run.proofs.path_order.CoreAdvance.advance.Given as goal

abbrev pub ghosts-advance_counted-L-Ledger : goal.ghosts-advance_counted-L-Ledger
ghosts-advance_counted-L-Ledger a = record { name = a.looked.name; parts = a.looked.parts }

abbrev pub ghosts-advance_counted-M-Ledger : goal.ghosts-advance_counted-M-Ledger
ghosts-advance_counted-M-Ledger a = record { name = a.changed.name; parts = a.changed.parts }
