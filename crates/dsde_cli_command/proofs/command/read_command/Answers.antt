use Rattle.std.proofs.Common.{Some, map, string_bytes, ◌∙◌, sym, rules}
use Rattle.dsde_cli_command.specs.Given.{line_given}
use Rattle.dsde_cli_command.proofs.WordsLemmas.{command_of-unread, command_of-check, command_of-run, command_of-resume, command_of-big, command_of-free}
use Rattle.dsde_cli_command.proofs.command.read_command.Goals as goal

pub returns-in_err-given-clause-spelled : goal.returns-in_err-given-clause-spelled
returns-in_err-given-clause-spelled c =
    let none = command_of-unread (map string_bytes c.args.words.now) (string_bytes c.in_ok-first.first.now) (map string_bytes c.in_ok-first.words.now) (search rules) c.in_err-given.ensures in
    rw c.from_residual-in_err-given.ensures none

pub returns-then-eq-clause-spelled : goal.returns-then-eq-clause-spelled
returns-then-eq-clause-spelled c =
    c.check.ensures.spelled
    ∙ command_of-check (map string_bytes c.args.words.now) c.as_str-command.result.now (map string_bytes c.in_ok-first.words.now) (Some (line_given c.in_ok-given.given)) (search rules) (sym c.eq.ensures ∙ c.if-eq.true) c.in_ok-given.ensures

pub returns-then-eq-2-clause-spelled : goal.returns-then-eq-2-clause-spelled
returns-then-eq-2-clause-spelled c =
    c.run.ensures.spelled
    ∙ command_of-run (map string_bytes c.args.words.now) c.as_str-command.result.now (map string_bytes c.in_ok-first.words.now) (Some (line_given c.in_ok-given.given)) (search rules) (sym c.eq.ensures ∙ c.if-eq.false) (sym c.eq-else-eq.ensures ∙ c.if-eq-2.true) c.in_ok-given.ensures

pub returns-then-eq-3-clause-spelled : goal.returns-then-eq-3-clause-spelled
returns-then-eq-3-clause-spelled c =
    c.resume.ensures.spelled
    ∙ command_of-resume (map string_bytes c.args.words.now) c.as_str-command.result.now (map string_bytes c.in_ok-first.words.now) (Some (line_given c.in_ok-given.given)) (search rules) (sym c.eq.ensures ∙ c.if-eq.false) (sym c.eq-else-eq.ensures ∙ c.if-eq-2.false) (sym c.eq-else-eq-2.ensures ∙ c.if-eq-3.true) c.in_ok-given.ensures

pub returns-then-eq-4-clause-spelled : goal.returns-then-eq-4-clause-spelled
returns-then-eq-4-clause-spelled c =
    c.big.ensures.spelled
    ∙ command_of-big (map string_bytes c.args.words.now) c.as_str-command.result.now (map string_bytes c.in_ok-first.words.now) (Some (line_given c.in_ok-given.given)) (search rules) (sym c.eq.ensures ∙ c.if-eq.false) (sym c.eq-else-eq.ensures ∙ c.if-eq-2.false) (sym c.eq-else-eq-2.ensures ∙ c.if-eq-3.false) (sym c.eq-else-eq-3.ensures ∙ c.if-eq-4.true) c.in_ok-given.ensures

pub returns-then-eq-5-clause-spelled : goal.returns-then-eq-5-clause-spelled
returns-then-eq-5-clause-spelled c =
    c.free.ensures.spelled
    ∙ command_of-free (map string_bytes c.args.words.now) c.as_str-command.result.now (map string_bytes c.in_ok-first.words.now) (Some (line_given c.in_ok-given.given)) (search rules) (sym c.eq.ensures ∙ c.if-eq.false) (sym c.eq-else-eq.ensures ∙ c.if-eq-2.false) (sym c.eq-else-eq-2.ensures ∙ c.if-eq-3.false) (sym c.eq-else-eq-3.ensures ∙ c.if-eq-4.false) (sym c.eq-else-eq-4.ensures ∙ c.if-eq-5.true) c.in_ok-given.ensures
