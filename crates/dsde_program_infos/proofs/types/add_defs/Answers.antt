use Rattle.std.proofs.Common.{◌≡◌, drop, length, length-drop, arith}
use Rattle.std.proofs.lemmas.List.{append-nil, length_push}
use Rattle.std.proofs.lemmas.Slice.Zip.{zip_turn, zip_end}
use Rattle.dsde_program_infos.proofs.Defs.{one_more, no_more}
use Rattle.dsde_program_infos.proofs.types.add_defs.Goals as goal

pub loop-word-preserved : goal.loop-word-preserved
loop-word-preserved c =
    let turn = zip_turn c.args.words.now c.args.types.now c.loop-word.yielded c.into_iter-word-iterator.result c.loop-word.word-iterator c.next.new.self c.next.result (cc) (cc) c.loop-word.yielded_by _ c.in-Some.is c.next.ensures.steps in
    let more = one_more c.args.words.now c.args.types.now (length c.loop-word.yielded) c.in-Some.word.now c.in-Some.made.now c.loop-word.defs turn.0 turn.1 (turn.2 c.in-Some.word.now) (turn.3 c.in-Some.made.now) in
    let long = length_push c.loop-word.yielded (c.in-Some.word, c.in-Some.made) in
    let own : c.in_ok-def.field-0 ≡ record { name = c.in-Some.word.now.name; shape = c.in-Some.made.now } = cc (c.in_ok-def.ensures, c.get.ensures) in
    cc (more, long, own, c.in_ok-push.ensures.ok, c.loop-word.invariant)

pub returns : goal.returns
returns c =
    let ends = zip_end c.args.words.now c.args.types.now c.loop-word.yielded c.into_iter-word-iterator.result c.loop-word.word-iterator c.next.new.self c.next.result (cc) (cc) c.loop-word.yielded_by c.in-None.is c.next.ensures.steps in
    let none = no_more (drop (length c.loop-word.yielded) c.args.words.now) (drop (length c.loop-word.yielded) c.args.types.now) (omega (arith, ends, length-drop (length c.loop-word.yielded) c.args.words.now, length-drop (length c.loop-word.yielded) c.args.types.now)) in
    let behind = append-nil c.loop-word.defs in
    cc (none, behind, c.loop-word.invariant)
