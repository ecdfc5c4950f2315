use Rattle.dsde_trace_reading.proofs.reading.read_event.Goals as goal

pub returns-in-Some-clause-line : goal.returns-in-Some-clause-line
returns-in-Some-clause-line c =
    (rw c.in-Some.is at c.in-Ok.ensures).is

pub returns-in-Some-clause-first : goal.returns-in-Some-clause-first
returns-in-Some-clause-first c =
    (rw c.in-Some.is at c.in-Ok.ensures).only

pub returns-in-None-clause-none : goal.returns-in-None-clause-none
returns-in-None-clause-none c =
    λ none event is. (rw c.in-None.is at c.in-Ok.ensures).only event is
