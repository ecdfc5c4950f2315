use Rattle.std.proofs.Common.{◌≡◌, Some, ◌∙◌, arith, rules, slice_get}
use Rattle.dsde_language.specs.declared.node.Node.TheVariants as node
use Rattle.dsde_eval_tables.specs.Evaluating.{coded_of}
use Rattle.dsde_eval_tables.proofs.Depths.{part-at}
use Rattle.dsde_eval_tables.proofs.evaluator.Evaluator.spelled.Goals as goal

pub returns-in-Some-Int : goal.returns-in-Some-Int
returns-in-Some-Int c =
    let there : slice_get c.args.self.now.tables.now.nodes c.args.number.0 ≡ Some (node.Int c.in-Some-Int.number) = cc (c.in-Some-Int.ensures.value) in
    part-at (coded_of c.args.self.now) c.args.depth c.args.number c.args.slots.now (node.Int c.in-Some-Int.number) (omega arith) there ∙ (search rules)

pub returns-in-Some-Bool : goal.returns-in-Some-Bool
returns-in-Some-Bool c =
    let there : slice_get c.args.self.now.tables.now.nodes c.args.number.0 ≡ Some (node.Bool c.in-Some-Bool.truth) = cc (c.in-Some-Bool.ensures.value) in
    part-at (coded_of c.args.self.now) c.args.depth c.args.number c.args.slots.now (node.Bool c.in-Some-Bool.truth) (omega arith) there

pub returns-in-Some-Variant : goal.returns-in-Some-Variant
returns-in-Some-Variant c =
    let there : slice_get c.args.self.now.tables.now.nodes c.args.number.0 ≡ Some (node.Variant c.in-Some-Variant.number c.in-Some-Variant.variant) = cc (c.in-Some-Variant.ensures.value) in
    part-at (coded_of c.args.self.now) c.args.depth c.args.number c.args.slots.now (node.Variant c.in-Some-Variant.number c.in-Some-Variant.variant) (omega arith) there
