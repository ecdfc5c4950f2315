use Rattle.std.proofs.Common.{◌≢◌, map, All, subst}
use Rattle.dsde_grove.specs.Part.{Kid, kid_of, Puts}
use Rattle.dsde_grove.proofs.Named.{puts, free_names}
use Rattle.dsde_grove.proofs.kids.Kids.put.Goals.{in-Ok, in-Err}
use Rattle.dsde_grove.proofs.kids.Kids.put.Goals as goal

pub returns-clause-put : goal.returns-clause-put
returns-clause-put c = elim c.match-insert.branch [
  | in-Ok w ↦ rw w.result-is (subst (λ kids. Puts record { name = c.args.name; handle = c.args.handle } kids (map kid_of c.insert.new.self.entries)) c.self.view_is
      (puts c.self.inside.by_name c.insert.new.self c.self.invariant c.insert.ensures.ordered c.args.name c.args.handle w.in-Ok.ensures.updates))
  | in-Err w ↦ rw w.result-is tt
]

pub returns-clause-free : goal.returns-clause-free
returns-clause-free c = elim c.match-insert.branch [
  | in-Ok w ↦ rw w.result-is tt
  | in-Err w ↦ rw w.result-is (subst (λ kids. All (λ (kid : Kid). kid.name ≢ c.args.name) kids) c.self.view_is (free_names c.self.inside.by_name c.self.invariant c.args.name w.in-Err.ensures.absent))
]
