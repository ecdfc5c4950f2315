-- Events, counted one by one.
use Rattle.std.proofs.Common.{◌≡◌, ℕ, ◌+◌, ◌-◌, ◌<◌, ◌≤◌, ◌^◌, List, [], ◌∷◌, ◌++◌, length, take, get_or, refl, sym, ap, ◌∙◌, arith}
use Rattle.std.proofs.lemmas.List.{take_more}
use Rattle.dsde_sim_tree.specs.declared.event.Event.{Event}
use Rattle.dsde_sim_tree.specs.declared.event.Event.TheVariants as event
use Rattle.dsde_trace.specs.declared.count.Summary.{Summary}
use Rattle.dsde_trace.specs.Count.{HasRoom, counted, counts_from}
use Rattle.dsde_run.specs.Counting.{total}

-- An event more is counted once at most.
pub total-counted : (summary : Summary) (own : Event) → total (counted summary own) ≤ total summary + 1
total-counted summary (event.Turn number time) = omega arith
total-counted summary (event.AddNet path model) = omega arith
total-counted summary (event.AddLeaf path model state next) = omega arith
total-counted summary (event.Drop path count) = omega arith
total-counted summary (event.Get path model port value) = omega arith
total-counted summary (event.Move path model kind state next) = omega arith
total-counted summary (event.Out port value) = omega arith
total-counted summary (event.Finish ending turns time) = omega arith

-- There is room for an event more where not too many were counted in all.
pub has-room : (summary : Summary) → total summary < 2 ^ 128 - 1 → HasRoom summary
has-room summary few = record {
  turns = omega (arith, few);
  adds = omega (arith, few);
  drops = omega (arith, few);
  gets = omega (arith, few);
  moves = omega (arith, few);
  outs = omega (arith, few);
}

-- some events, and then others
pub counts-append : (summary : Summary) (one other : List Event) → counts_from summary (one ++ other) ≡ counts_from (counts_from summary one) other
counts-append summary [] other = refl
counts-append summary (own ∷ one) other = counts-append (counted summary own) one other

-- an event more
pub counts-more : (summary : Summary) (events : List Event) (index : ℕ) (own : Event) → index < length events → own ≡ get_or events index own →
    counts_from summary (take (index + 1) events) ≡ counted (counts_from summary (take index events)) own
counts-more summary events index own within is =
    ap (counts_from summary) (take_more events index own within ∙ ap (λ (last : Event). take index events ++ last ∷ []) (sym is))
    ∙ counts-append summary (take index events) (own ∷ [])
