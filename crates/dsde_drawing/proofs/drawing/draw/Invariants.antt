use Rattle.std.proofs.Common.{◌≡◌, ◌++◌, ◌-◌, length}
use Rattle.dsde_drawing.specs.Drawing.{IsOrderly, drawn}
use Rattle.dsde_drawing.specs.Words.{behind, next_words}
use Rattle.dsde_drawing.proofs.drawing.draw.Given as goal

abbrev pub invariant-loop-turn : goal.invariant-loop-turn
invariant-loop-turn g l = record {
  drawn : l.order ++ drawn g.T.Waits.waits (length l.fn.items.items - l._turn) l.left.items (next_words (length l.fn.items.items - l._turn) l.words)
      ≡ drawn g.T.Waits.waits (length l.fn.items.items) l.fn.items.items (next_words (length l.fn.items.items) l.fn.words);
  words : behind (length l.fn.items.items - l._turn) l.words ≡ behind (length l.fn.items.items) l.fn.words;
  counted : length l.left.items ≡ length l.fn.items.items - l._turn;
  orderly : IsOrderly g.T.Waits.waits l.left.items;
}
