use Rattle.std.proofs.Common.{◌∙◌, sym}
use Rattle.std.specs.Prelude.{Some, None}
use Rattle.dsde_trace_words.specs.Words.{is_executive}
use Rattle.dsde_trace_words.specs.lemmas.Lacking.{Lacks-path}
use Rattle.dsde_trace_words.specs.lemmas.Pairing.{pair-is, pair-no_second}
use Rattle.dsde_trace_reading.proofs.Modelling.{named, started-behind}
use Rattle.dsde_trace_reading.proofs.Telling.{add-no_path, add-uncut, leaf-reads, net-executive, net-finds, net-reads}
use Rattle.dsde_trace_reading.proofs.added.read_add.Goals as goal

pub returns-in_default : goal.returns-in_default
returns-in_default c =
    add-uncut c.args.program.now c.args.text.now c.in_default.ensures

pub returns-in_default-2 : goal.returns-in_default-2
returns-in_default-2 c =
    add-no_path c.args.program.now c.args.text.now c.in-Some.path.now c.in-Some.rest.now c.in-Some.ensures.0 c.in-Some.ensures.1 (rw c.in_default-2.is at c.in_ok-path.ensures)

pub returns-then-executive : goal.returns-then-executive
returns-then-executive c =
    net-reads c.args.program.now c.args.text.now (named c.names_are_words.ensures.models c.args.program.now c.right.ensures) c.in-Some.path.now c.in-Some.rest.now c.in-Some.ensures.0 c.in-Some.ensures.1 c.in_default-cut.ensures None
    (pair-no_second Lacks-path c.in-Some.path.now c.in-Some.rest.now c.in-Some.ensures.0 c.in-Some.ensures.1 c.in-Some-2.path (rw c.in-Some-2.is at c.in_ok-path.ensures) (net-executive c.args.program.now c.in-Some-2.path c.in-Some.rest.now (sym c.is_executive-executive.ensures ∙ c.if-executive.true)))

pub returns-in-Some-net_of : goal.returns-in-Some-net_of
returns-in-Some-net_of c =
    net-reads c.args.program.now c.args.text.now (named c.names_are_words.ensures.models c.args.program.now c.right.ensures) c.in-Some.path.now c.in-Some.rest.now c.in-Some.ensures.0 c.in-Some.ensures.1 c.in_default-cut.ensures (Some (c.in-Some-2.path, c.in-Some-net_of.model))
    (pair-is Lacks-path c.in-Some.path.now c.in-Some.rest.now c.in-Some.ensures.0 c.in-Some.ensures.1 c.in-Some-2.path (rw c.in-Some-2.is at c.in_ok-path.ensures) c.in-Some-net_of.model (net-finds c.args.program.now c.in-Some-2.path c.in-Some.rest.now (sym c.is_executive-executive.ensures ∙ c.if-executive.false) (Some c.in-Some-net_of.model) c.in-Some-net_of.ensures))

pub returns-in-None : goal.returns-in-None
returns-in-None c =
    net-reads c.args.program.now c.args.text.now (named c.names_are_words.ensures.models c.args.program.now c.right.ensures) c.in-Some.path.now c.in-Some.rest.now c.in-Some.ensures.0 c.in-Some.ensures.1 c.in_default-cut.ensures None
    (pair-no_second Lacks-path c.in-Some.path.now c.in-Some.rest.now c.in-Some.ensures.0 c.in-Some.ensures.1 c.in-Some-2.path (rw c.in-Some-2.is at c.in_ok-path.ensures) (net-finds c.args.program.now c.in-Some-2.path c.in-Some.rest.now (sym c.is_executive-executive.ensures ∙ c.if-executive.false) None c.in-None.ensures))

pub returns-in-Some-3 : goal.returns-in-Some-3
returns-in-Some-3 c =
    leaf-reads c.args.program.now c.args.text.now (named c.names_are_words.ensures.models c.args.program.now c.right.ensures) c.in-Some.path.now c.in-Some.rest.now c.in-Some.ensures.0 c.in-Some.ensures.1 c.in-Some-cut.name.now c.in-Some-cut.state.now c.in-Some-cut.ensures.0 (Some (c.in-Some-2.path, (c.in-Some-3.model, c.in-Some-3.settled)))
    (pair-is Lacks-path c.in-Some.path.now c.in-Some.rest.now c.in-Some.ensures.0 c.in-Some.ensures.1 c.in-Some-2.path (rw c.in-Some-2.is at c.in_ok-path.ensures) (c.in-Some-3.model, c.in-Some-3.settled)
    (started-behind c.args.program.now (is_executive c.in-Some-2.path) c.in-Some.rest.now c.in-Some-cut.name.now c.in-Some-cut.state.now (named c.names_are_words.ensures.models c.args.program.now c.right.ensures) c.in-Some-cut.ensures.0 c.in-Some-cut.ensures.1 (Some (c.in-Some-3.model, c.in-Some-3.settled))
    (rw (c.in-Some-3.is, c.is_executive-executive.ensures) at c.in_ok-model.ensures)))

pub returns-in-None-2 : goal.returns-in-None-2
returns-in-None-2 c =
    leaf-reads c.args.program.now c.args.text.now (named c.names_are_words.ensures.models c.args.program.now c.right.ensures) c.in-Some.path.now c.in-Some.rest.now c.in-Some.ensures.0 c.in-Some.ensures.1 c.in-Some-cut.name.now c.in-Some-cut.state.now c.in-Some-cut.ensures.0 None
    (pair-no_second Lacks-path c.in-Some.path.now c.in-Some.rest.now c.in-Some.ensures.0 c.in-Some.ensures.1 c.in-Some-2.path (rw c.in-Some-2.is at c.in_ok-path.ensures)
    (started-behind c.args.program.now (is_executive c.in-Some-2.path) c.in-Some.rest.now c.in-Some-cut.name.now c.in-Some-cut.state.now (named c.names_are_words.ensures.models c.args.program.now c.right.ensures) c.in-Some-cut.ensures.0 c.in-Some-cut.ensures.1 None
    (rw (c.in-None-2.is, c.is_executive-executive.ensures) at c.in_ok-model.ensures)))
