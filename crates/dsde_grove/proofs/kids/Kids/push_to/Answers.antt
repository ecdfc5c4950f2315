use Rattle.std.proofs.Common.{◌++◌, ◌∷◌, [], length, map, append_assoc, append-nil, sym, ap, ◌∙◌, arith}
use Rattle.dsde_grove.proofs.Frontier.{handle_of, length_handles}
use Rattle.dsde_grove.proofs.Named.{handles_entries}
use Rattle.dsde_grove.proofs.kids.Kids.push_to.Goals as goal

pub loop-handle-init : goal.loop-handle-init
loop-handle-init c =
    let all = c.into_iter-handle-iterator.ensures.into_iter_gives ∙ c.values-handle-items.ensures.rest ∙ sym (handles_entries c.self.inside.by_name.entries) ∙ ap (map handle_of) c.self.view_is in
    (ap (λ l. c.args.work.now.items ++ l) all, omega (arith, ap length all, length_handles c.args.self.now))

pub push_reserved-requires : goal.push_reserved-requires
push_reserved-requires c = record { room = omega (arith, ap length c.in-Some.ensures.steps, c.loop-handle.invariant.1, c.requires) }

pub loop-handle-preserved : goal.loop-handle-preserved
loop-handle-preserved c =
    let steps = c.in-Some.ensures.steps in (
      ap (λ l. l ++ c.next.new.self) c.push_reserved.ensures.items ∙ append_assoc c.loop-handle.work.items (c.in-Some.handle.now ∷ []) c.next.new.self
          ∙ ap (λ l. c.loop-handle.work.items ++ l) (sym steps) ∙ c.loop-handle.invariant.0,
      omega (arith, ap length steps, c.push_reserved.ensures.spare, c.loop-handle.invariant.1),
    )

pub returns-clause-items : goal.returns-clause-items
returns-clause-items c = sym (append-nil c.loop-handle.work.items) ∙ ap (λ l. c.loop-handle.work.items ++ l) (sym c.in-None.ensures.steps.0) ∙ c.loop-handle.invariant.0

pub returns-clause-spare : goal.returns-clause-spare
returns-clause-spare c = omega (arith, ap length c.in-None.ensures.steps.0, c.loop-handle.invariant.1)
