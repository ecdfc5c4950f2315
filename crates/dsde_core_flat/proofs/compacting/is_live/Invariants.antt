use Rattle.dsde_core_flat.proofs.compacting.is_live.Given as goal

abbrev pub ghosts-is_live_at : goal.ghosts-is_live_at
ghosts-is_live_at a = record { name = a.blank.name; parts = a.blank.parts }
