use Rattle.dsde_cli.proofs.laws.cut_law.Goals as goal

pub returns : goal.returns
returns c = λ model own pick bytes text turns more first whole runs is whole_is can few left.
    c.stored_runs_are_taken_up.ensures own pick bytes text turns more first whole is whole_is (record { shaped = runs.accepts.sound.gives.shaped; sound = runs.accepts.sound.sound }) can few left
