use Rattle.std.proofs.Common.{◌≡◌, take, drop, sym, ap, subst, ◌∙◌}
use Rattle.dsde_input.specs.Reader.{Opens, given}
use Rattle.dsde_input.specs.contracts.reader.InputReader.{the_view}
use Rattle.dsde_input.proofs.FirstLine.{held_record, given_is, gives_one, gives_taken, gives_line, gives_bad}
use Rattle.dsde_input.proofs.reader.InputReader.give.Goals as goal
use Rattle.dsde_input.proofs.reader.InputReader.give.Goals.{In_ok-arrival}

-- the first line that is held, and what is behind it
opens : (c : In_ok-arrival) → Opens c.self.inside.held (take c.line_sizes-size.result.0 c.self.inside.held) (drop c.line_sizes-size.result.1 c.self.inside.held)
opens c = subst (λ held. Opens held (take c.line_sizes-size.result.0 held) (drop c.line_sizes-size.result.1 held)) c.as_slice-held.ensures c.line_sizes-size.ensures.opens

-- what was read is what that line is
is_line : (c : In_ok-arrival) → c.in_ok-arrival.field-0 ≡ held_record c.args.ports.now c.args.types.now (the_view c.self.inside) (take c.line_sizes-size.result.0 c.self.inside.held)
is_line c = rw (c.saturating_add-number.ensures, c.max-least.ensures, c.unwrap_or.ensures, c.as_slice-held.ensures) at c.in_ok-arrival.ensures.value

pub returns-in-Ok-clause-given : goal.returns-in-Ok-clause-given
returns-in-Ok-clause-given c =
    let here = (goal.at.returns-in-Ok-clause-given c).In_ok-arrival in
    given_is (the_view c.self.inside) _ _ (opens here) c.in-Ok.arrival c.pass.new.self c.saturating_add-number.result c.pass.ensures c.saturating_add-number.ensures
    ∙ ap (λ r. given r c.in-Ok.arrival) c.self.view_is

pub returns-in-Ok-clause-records : goal.returns-in-Ok-clause-records
returns-in-Ok-clause-records c = λ left.
    let here = (goal.at.returns-in-Ok-clause-records c).In_ok-arrival in
    gives_one c.args.ports.now c.args.types.now (the_view c.self.inside) c.args.self.now c.self.view_is c.requires.lawful c.requires.whole _ _ (opens here)
    _ c.in-Ok.arrival left
    (given_is (the_view c.self.inside) _ _ (opens here) c.in-Ok.arrival c.pass.new.self c.saturating_add-number.result c.pass.ensures c.saturating_add-number.ensures)
    (sym (is_line here) ∙ c.in-Ok.is)

pub returns-in-Ok-clause-taken : goal.returns-in-Ok-clause-taken
returns-in-Ok-clause-taken c = λ left.
    let here = (goal.at.returns-in-Ok-clause-taken c).In_ok-arrival in
    gives_taken c.args.ports.now c.args.types.now (the_view c.self.inside) c.args.self.now c.self.view_is c.requires.lawful c.requires.whole _ _ (opens here)
    _ c.in-Ok.arrival left
    (given_is (the_view c.self.inside) _ _ (opens here) c.in-Ok.arrival c.pass.new.self c.saturating_add-number.result c.pass.ensures c.saturating_add-number.ensures)
    (sym (is_line here) ∙ c.in-Ok.is)

pub returns-in-Ok-clause-line : goal.returns-in-Ok-clause-line
returns-in-Ok-clause-line c =
    let here = (goal.at.returns-in-Ok-clause-line c).In_ok-arrival in
    gives_line c.args.ports.now c.args.types.now (the_view c.self.inside) c.args.self.now c.self.view_is c.requires.lawful c.requires.whole _ _ (opens here)
    _ c.in-Ok.arrival
    (given_is (the_view c.self.inside) _ _ (opens here) c.in-Ok.arrival c.pass.new.self c.saturating_add-number.result c.pass.ensures c.saturating_add-number.ensures)
    (sym (is_line here) ∙ c.in-Ok.is)

pub returns-in-Err-clause-records : goal.returns-in-Err-clause-records
returns-in-Err-clause-records c = λ left.
    let here = (goal.at.returns-in-Err-clause-records c).In_ok-arrival in
    gives_bad c.args.ports.now c.args.types.now (the_view c.self.inside) c.args.self.now c.self.view_is c.requires.lawful c.requires.whole _ _ (opens here)
    c.in-Err.offence left (sym (is_line here) ∙ c.in-Err.is)
