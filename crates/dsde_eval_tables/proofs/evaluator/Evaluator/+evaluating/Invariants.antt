-- What the rest comes to, after what came so far, stays the same; and the depth falls.
use Rattle.std.proofs.Common.{◌≡◌, ◌+◌, ◌*◌, [], drop}
use Rattle.dsde_language.specs.MeaningTables.{means_in, values_from, each_from, arms_from, arms_flow, acts_flow, for_each, state_of, State}
use Rattle.dsde_eval_tables.specs.Evaluating.{coded_of}
use Rattle.dsde_eval_tables.specs.Passing.{ActsPass, ArmsPass, EachPasses, PassesIn}
use Rattle.dsde_eval_tables.proofs.evaluator.Evaluator.+evaluating.Given as goal

abbrev pub invariant-values-loop-number : goal.invariant-values-loop-number
invariant-values-loop-number l =
    (values_from (means_in (coded_of l.self) l.depth).part l.done (drop l.number-index l.numbers) l.slots ≡ values_from (means_in (coded_of l.self) l.depth).part [] l.numbers l.slots)
    × (l.slots ≡ l.fn.slots)

abbrev pub invariant-each-loop-item : goal.invariant-each-loop-item
invariant-each-loop-item l =
    (each_from (means_in (coded_of l.self) l.depth).part l.cond l.number l.done l.item-iterator.rest.items l.slots ≡ each_from (means_in (coded_of l.self) l.depth).part l.cond l.number [] l.fn.items l.slots)
    × (l.slots ≡ l.fn.slots)

abbrev pub invariant-arms-loop-arm : goal.invariant-arms-loop-arm
invariant-arms-loop-arm l =
    (arms_from (means_in (coded_of l.self) l.depth).part (drop l.arm-index l.arms) l.other l.slots ≡ arms_from (means_in (coded_of l.self) l.depth).part l.arms l.other l.slots)
    × (l.slots ≡ l.fn.slots)

abbrev pub invariant-acts-loop-act : goal.invariant-acts-loop-act
invariant-acts-loop-act l =
    (acts_flow (means_in (coded_of l.self) l.depth) (drop l.act-index l.acts) (state_of l.slots l.sends)
    ≡ acts_flow (means_in (coded_of l.self) l.depth) l.acts (state_of l.fn.slots l.fn.sends))
    × ((passed : State) → ActsPass (means_in (coded_of l.self) l.depth) (PassesIn (coded_of l.self) l.depth) (drop l.act-index l.acts) (state_of l.slots l.sends) passed
    → ActsPass (means_in (coded_of l.self) l.depth) (PassesIn (coded_of l.self) l.depth) l.acts (state_of l.fn.slots l.fn.sends) passed)

abbrev pub invariant-act_arms-loop-arm : goal.invariant-act_arms-loop-arm
invariant-act_arms-loop-arm l =
    (arms_flow (means_in (coded_of l.self) l.depth) (drop l.arm-index l.arms) l.last (state_of l.slots l.sends)
    ≡ arms_flow (means_in (coded_of l.self) l.depth) l.arms l.last (state_of l.fn.slots l.fn.sends))
    × (l.slots ≡ l.fn.slots) × (l.sends ≡ l.fn.sends)
    × ((passed : State) → ArmsPass (means_in (coded_of l.self) l.depth) (PassesIn (coded_of l.self) l.depth) (drop l.arm-index l.arms) l.last (state_of l.slots l.sends) passed
    → ArmsPass (means_in (coded_of l.self) l.depth) (PassesIn (coded_of l.self) l.depth) l.arms l.last (state_of l.fn.slots l.fn.sends) passed)

abbrev pub invariant-for_each-loop-item : goal.invariant-for_each-loop-item
invariant-for_each-loop-item l =
    (for_each (means_in (coded_of l.self) l.depth).run l.block l.item-iterator.rest.items (state_of l.slots l.sends)
    ≡ for_each (means_in (coded_of l.self) l.depth).run l.block l.fn.items (state_of l.fn.slots l.fn.sends))
    × ((passed : State) → EachPasses (means_in (coded_of l.self) l.depth) (PassesIn (coded_of l.self) l.depth) l.block l.item-iterator.rest.items (state_of l.slots l.sends) passed
    → EachPasses (means_in (coded_of l.self) l.depth) (PassesIn (coded_of l.self) l.depth) l.block l.fn.items (state_of l.fn.slots l.fn.sends) passed)

abbrev pub decreases-reach : goal.decreases-reach
decreases-reach l = 12 * l.depth + 1

abbrev pub decreases-block : goal.decreases-block
decreases-block l = 12 * l.depth + 1

abbrev pub decreases-eval : goal.decreases-eval
decreases-eval l = 12 * l.depth + 2

abbrev pub decreases-braced : goal.decreases-braced
decreases-braced l = 12 * l.depth + 2

abbrev pub decreases-once : goal.decreases-once
decreases-once l = 12 * l.depth + 2

abbrev pub decreases-holds : goal.decreases-holds
decreases-holds l = 12 * l.depth + 3

abbrev pub decreases-test : goal.decreases-test
decreases-test l = 12 * l.depth + 3

abbrev pub decreases-set : goal.decreases-set
decreases-set l = 12 * l.depth + 5

abbrev pub decreases-change : goal.decreases-change
decreases-change l = 12 * l.depth + 3

abbrev pub decreases-arms : goal.decreases-arms
decreases-arms l = 12 * l.depth + 3

abbrev pub decreases-combined : goal.decreases-combined
decreases-combined l = 12 * l.depth + 3

abbrev pub decreases-run_code : goal.decreases-run_code
decreases-run_code l = 12 * l.depth + 3

abbrev pub decreases-values : goal.decreases-values
decreases-values l = 12 * l.depth + 3

abbrev pub decreases-builtin : goal.decreases-builtin
decreases-builtin l = 12 * l.depth + 3

abbrev pub decreases-for_each : goal.decreases-for_each
decreases-for_each l = 12 * l.depth + 3

abbrev pub decreases-act_arms : goal.decreases-act_arms
decreases-act_arms l = 12 * l.depth + 4

abbrev pub decreases-kept : goal.decreases-kept
decreases-kept l = 12 * l.depth + 4

abbrev pub decreases-call : goal.decreases-call
decreases-call l = 12 * l.depth + 4

abbrev pub decreases-each_one : goal.decreases-each_one
decreases-each_one l = 12 * l.depth + 5

abbrev pub decreases-each : goal.decreases-each
decreases-each l = 12 * l.depth + 6

abbrev pub decreases-act : goal.decreases-act
decreases-act l = 12 * l.depth + 7

abbrev pub decreases-node : goal.decreases-node
decreases-node l = 12 * l.depth + 8

abbrev pub decreases-acts : goal.decreases-acts
decreases-acts l = 12 * l.depth + 8

abbrev pub decreases-index : goal.decreases-index
decreases-index l = 12 * l.depth + 3

abbrev pub decreases-record : goal.decreases-record
decreases-record l = 12 * l.depth + 4

abbrev pub decreases-some : goal.decreases-some
decreases-some l = 12 * l.depth + 3

abbrev pub decreases-list : goal.decreases-list
decreases-list l = 12 * l.depth + 4

abbrev pub decreases-or_else : goal.decreases-or_else
decreases-or_else l = 12 * l.depth + 3

abbrev pub decreases-binary : goal.decreases-binary
decreases-binary l = 12 * l.depth + 4

abbrev pub decreases-not : goal.decreases-not
decreases-not l = 12 * l.depth + 3

abbrev pub decreases-neg : goal.decreases-neg
decreases-neg l = 12 * l.depth + 3

abbrev pub decreases-field : goal.decreases-field
decreases-field l = 12 * l.depth + 3

abbrev pub decreases-unwrap : goal.decreases-unwrap
decreases-unwrap l = 12 * l.depth + 3

abbrev pub decreases-comprehension : goal.decreases-comprehension
decreases-comprehension l = 12 * l.depth + 7

abbrev pub decreases-value : goal.decreases-value
decreases-value l = 12 * l.depth + 10

abbrev pub decreases-any : goal.decreases-any
decreases-any l = 12 * l.depth + 9
