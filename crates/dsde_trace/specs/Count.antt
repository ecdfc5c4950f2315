-- How many events of each kind a trace has.
use Rattle.std.specs.Prelude.{◌+◌, ◌-◌, ◌<◌, ◌^◌, List, [], ◌∷◌}
use Rattle.dsde_sim_tree.specs.declared.event.Event.{Event}
use Rattle.dsde_sim_tree.specs.declared.event.Event.TheVariants.{AddNet, AddLeaf, Turn, Out, Get, Move, Drop, Finish}
use Rattle.dsde_trace.specs.declared.count.Summary.{Summary}

-- no events
abbrev pub none_counted : Summary
none_counted = record { turns = 0; adds = 0; drops = 0; gets = 0; moves = 0; outs = 0 }

-- one event more
abbrev pub counted : Summary → Event → Summary
counted summary (Turn number time) = record summary { turns = summary.turns + 1 }
counted summary (AddNet path model) = record summary { adds = summary.adds + 1 }
counted summary (AddLeaf path model state next) = record summary { adds = summary.adds + 1 }
counted summary (Drop path count) = record summary { drops = summary.drops + 1 }
counted summary (Get path model port value) = record summary { gets = summary.gets + 1 }
counted summary (Move path model kind state next) = record summary { moves = summary.moves + 1 }
counted summary (Out port value) = record summary { outs = summary.outs + 1 }
counted summary (Finish how turns time) = summary

-- the events of a trace, after those that were counted
abbrev pub counts_from : Summary → List Event → Summary
counts_from summary [] = summary
counts_from summary (event ∷ events) = counts_from (counted summary event) events

-- No count stands at the last number.
pub record HasRoom (summary : Summary) : Type 0 where
  pub turns : summary.turns < 2 ^ 128 - 1
  pub adds : summary.adds < 2 ^ 128 - 1
  pub drops : summary.drops < 2 ^ 128 - 1
  pub gets : summary.gets < 2 ^ 128 - 1
  pub moves : summary.moves < 2 ^ 128 - 1
  pub outs : summary.outs < 2 ^ 128 - 1
