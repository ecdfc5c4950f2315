use Rattle.std.proofs.Common.{length, sym, ◌∙◌, rules, tests}
use Rattle.std.proofs.lemmas.Iterator.Consumers.{YieldsList-turn, YieldsList-end}
use Rattle.std.proofs.lemmas.Iterator.Splits.{YieldsList-from_slice_split}
use Rattle.std.proofs.lemmas.List.{length_push}
use Rattle.std.proofs.lemmas.Result.{err_from_is_err_and}
use Rattle.dsde_values.proofs.Pieces.{is_slash, pieces, names_more, named_more, no_path_with, all_read, only_path, no_path}
use Rattle.dsde_values.proofs.path.read_path.Goals as goal

pub returns-in_err-read_name-clause-none : goal.returns-in_err-read_name-clause-none
returns-in_err-read_name-clause-none c =
    let here = YieldsList-turn (YieldsList-from_slice_split _ is_slash c.args.bytes.now (cc) (cc) (cc) (λ x b q k. search (rules, tests))) c.loop-piece.yielded _ c.loop-piece.yielded_by _ _ c.in-Some.piece c.in-Some.is c.next.ensures.steps in
    λ error.
    let p = err_from_is_err_and c.from_residual.result c.from_residual.ensures.1 in
    no_path_with c.args.bytes.now c.in-Some.piece.now (length c.loop-piece.yielded) here
    (c.in_err-read_name.ensures.none (let e = sym p.1 ∙ error in cc))

pub loop-piece-preserved : goal.loop-piece-preserved
loop-piece-preserved c =
    let here = YieldsList-turn (YieldsList-from_slice_split _ is_slash c.args.bytes.now (cc) (cc) (cc) (λ x b q k. search (rules, tests))) c.loop-piece.yielded _ c.loop-piece.yielded_by _ _ c.in-Some.piece c.in-Some.is c.next.ensures.steps in (
      rw length_push (rw c.in_ok-push.ensures.ok
          (names_more c.loop-piece.names c.in_ok-read_name.field-0 c.in-Some.piece.now (length c.loop-piece.yielded) (pieces c.args.bytes.now) c.loop-piece.invariant.0 here c.in_ok-read_name.ensures.name.1)),
      rw c.in_ok-push.ensures.ok (named_more c.loop-piece.names c.in_ok-read_name.field-0 c.loop-piece.invariant.1 c.in_ok-read_name.ensures.name.0),
    )

pub returns-then-not-is_path-clause-none : goal.returns-then-not-is_path-clause-none
returns-then-not-is_path-clause-none c =
    let end = YieldsList-end (YieldsList-from_slice_split _ is_slash c.args.bytes.now (cc) (cc) (cc) (λ x b q k. search (rules, tests))) c.loop-piece.yielded _ c.loop-piece.yielded_by _ _ c.in-None.is c.next.ensures.steps in
    λ error. no_path c.loop-piece.names c.args.bytes.now (length c.loop-piece.yielded) c.loop-piece.invariant.0 end.1 c.loop-piece.invariant.1 (search rules)

pub returns-clause-spelled : goal.returns-clause-spelled
returns-clause-spelled c =
    let end = YieldsList-end (YieldsList-from_slice_split _ is_slash c.args.bytes.now (cc) (cc) (cc) (λ x b q k. search (rules, tests))) c.loop-piece.yielded _ c.loop-piece.yielded_by _ _ c.in-None.is c.next.ensures.steps in
    all_read c.loop-piece.names c.args.bytes.now (length c.loop-piece.yielded) c.loop-piece.invariant.0 end.1 c.loop-piece.invariant.1

pub returns-clause-only : goal.returns-clause-only
returns-clause-only c =
    let end = YieldsList-end (YieldsList-from_slice_split _ is_slash c.args.bytes.now (cc) (cc) (cc) (λ x b q k. search (rules, tests))) c.loop-piece.yielded _ c.loop-piece.yielded_by _ _ c.in-None.is c.next.ensures.steps in
    only_path c.loop-piece.names c.args.bytes.now (length c.loop-piece.yielded) c.loop-piece.invariant.0 end.1 c.loop-piece.invariant.1
