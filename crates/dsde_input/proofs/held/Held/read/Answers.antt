use Rattle.std.proofs.Common.{◌≡◌, ◌+◌, ◌-◌, ◌≤◌, ◌++◌, length, take, drop, rules, sym, subst, ◌∙◌, ap}
use Rattle.dsde_io.specs.Bytes.{Takes}
use Rattle.dsde_input.proofs.Views.{filled, view_read, view_moved, read_piece}
use Rattle.dsde_input.proofs.held.Held.read.Goals as goal
use Rattle.dsde_input.proofs.held.Held.read.Goals.{then-self-gt0, else-self-gt0}

pub returns-clause-taken : goal.returns-clause-taken
returns-clause-taken g c =
    let inside = c.if-self-gt0.self-inside in
    let room = c.as_mut_slice.result.now in
    let value : c.as_mut_slice.result.now ≡ c.if-self-gt0.self-inside.room.items = c.as_mut_slice.ensures.value in
    let same : take (c.if-self-gt0.self-inside.end - c.if-self-gt0.self-inside.start) (drop c.if-self-gt0.self-inside.start c.if-self-gt0.self-inside.room.items) ≡ c.args.self.now =
    elim c.if-self-gt0.branch [
      | then-self-gt0 w ↦
          rw w.self-inside-is (view_moved w.copy_within.new.self.items c.self.inside.room.items c.self.inside.start c.self.inside.end
          c.self.invariant.0 c.self.invariant.1 w.copy_within.ensures.items ∙ c.self.view_is)
      | else-self-gt0 w ↦ rw w.self-inside-is c.self.view_is
    ] in
    let order : c.if-self-gt0.self-inside.start ≤ c.if-self-gt0.self-inside.end = elim c.if-self-gt0.branch [ then-self-gt0 w ↦ search rules | else-self-gt0 w ↦ search rules ] in
    let fits : c.if-self-gt0.self-inside.end + c.in_ok-count.count ≤ length c.as_mut_slice.result.now = c.in_ok-count.ensures.within.1 in
    let whole : take c.if-self-gt0.self-inside.room.len (c.read_behind.new.room ++ drop (length c.read_behind.new.room) c.if-self-gt0.self-inside.room.items) ≡ c.read_behind.new.room =
    filled c.if-self-gt0.self-inside.room.len c.read_behind.new.room (drop (length c.read_behind.new.room) c.if-self-gt0.self-inside.room.items)
    (c.in_ok-count.ensures.size ∙ c.as_mut_slice.ensures.len) in
    subst (Takes (g.R.Source.left c.args.source.now) (g.R.Source.left c.read_behind.new.source))
    (sym (read_piece c.args.self.now (take (inside.end - inside.start) (drop inside.start room)) _ (drop inside.end c.read_behind.new.room) c.in_ok-count.count
    (ap (λ room. take (inside.end - inside.start) (drop inside.start room)) value ∙ same)
    (ap (λ room. take (inside.end + c.in_ok-count.count - inside.start) (drop inside.start room)) whole
    ∙ view_read room c.read_behind.new.room inside.start inside.end c.in_ok-count.count order fits c.in_ok-count.ensures.size c.in_ok-count.ensures.kept)))
    c.in_ok-count.ensures.taken
