use Rattle.std.proofs.Common.{◌==◌, ◌≤◌, length, take, sym, ◌∙◌, ap, arith}
use Rattle.std.specs.List.{position}
use Rattle.std.specs.Prelude.{IfSome}
use Rattle.dsde_input.specs.Reader.{IsOffence}
use Rattle.dsde_input_parser.specs.given.input_records.Lines.{Lacks}
use Rattle.dsde_input.proofs.Feeds.{feed_found, feed_missed, Lacks-all}
use Rattle.dsde_input.proofs.reader.InputReader.look.Goals as goal
use Rattle.dsde_input.proofs.reader.InputReader.look.Goals.{then-self, else-self}

pub invariant_of-self : goal.invariant_of-self
invariant_of-self c =
    let found = feed_found c.self.inside.held c.in-Some.at (sym (c.in-Some.ensures ∙ ap (position (λ byte. byte == 10)) c.as_slice-held.ensures)) in
    (found.0, found.1, c.self.invariant.2)

pub invariant_of-self-in-None : goal.invariant_of-self-in-None
invariant_of-self-in-None c =
    let none = sym (c.in-None.ensures ∙ ap (position (λ byte. byte == 10)) c.as_slice-held.ensures) in
    let size = ap length c.as_slice-held.ensures in
    let all : (length c.as_slice-held.result.now ≤ length c.self.inside.held) × Lacks 10 (take (length c.as_slice-held.result.now) c.self.inside.held) × IfSome c.self.inside.offence IsOffence =
    (omega (arith, size), Lacks-all c.self.inside.held (length c.as_slice-held.result.now) (feed_missed c.self.inside.held none) size, c.self.invariant.2) in
    elim c.if-self.branch [ then-self w ↦ rw w.self-inside-is all | else-self w ↦ rw w.self-inside-is all ]
