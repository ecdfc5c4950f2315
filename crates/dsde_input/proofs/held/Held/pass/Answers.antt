use Rattle.std.proofs.Common.{◌-◌, length, drop, ap, ◌∙◌, arith}
use Rattle.std.proofs.lemmas.List.{length-take}
use Rattle.dsde_input.proofs.Views.{view_pass}
use Rattle.dsde_input.proofs.held.Held.pass.Goals as goal

pub returns : goal.returns
returns c =
    let size = ap length c.self.view_is in
    view_pass c.self.inside.room.items c.self.inside.start c.self.inside.end c.args.count
    (omega (arith, size, c.requires, c.self.invariant.0, length-take (c.self.inside.end - c.self.inside.start) (drop c.self.inside.start c.self.inside.room.items)))
    c.self.invariant.1
    ∙ ap (drop c.args.count) c.self.view_is
