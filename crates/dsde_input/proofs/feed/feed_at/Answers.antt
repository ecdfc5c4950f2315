use Rattle.std.proofs.Common.{Some, None, subst}
use Rattle.std.proofs.lemmas.List.{take_rest}
use Rattle.memchr.specs.Find.{IsFirstByte, is_byte}
use Rattle.dsde_input.proofs.Feeds.{position-found, position-missed}
use Rattle.dsde_input.proofs.feed.feed_at.Goals as goal

pub returns-in-Some : goal.returns-in-Some
returns-in-Some c =
    position-found c.args.bytes.now c.args.searched c.requires.within c.requires.none c.in-Some.more
    (subst (λ bytes. IsFirstByte (is_byte 10) bytes (Some c.in-Some.more)) (take_rest c.args.bytes.now c.args.searched) c.in-Some.ensures)

pub returns-in-None : goal.returns-in-None
returns-in-None c =
    position-missed c.args.bytes.now c.args.searched c.requires.within c.requires.none
    (subst (λ bytes. IsFirstByte (is_byte 10) bytes None) (take_rest c.args.bytes.now c.args.searched) c.in-None.ensures)
