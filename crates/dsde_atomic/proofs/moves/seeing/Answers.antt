use Rattle.std.proofs.Common.{◌≡◌, ◌++◌, ◌∷◌, [], List, pos, length, sym, ◌∙◌, ap, false, append_assoc}
use Rattle.dsde_values.specs.declared.value.Value.{Value}
use Rattle.dsde_values.specs.declared.value.Value.TheVariants as value
use Rattle.dsde_system.specs.given.formalism.System.{Ports}
use Rattle.dsde_system.specs.Body.{is_flooded, lists_of}
use Rattle.dsde_atomic.proofs.Outer.{sees-can, sees-ok, sees-end, sees-fits}
use Rattle.dsde_atomic.proofs.Phases.{resized}
use Rattle.dsde_atomic.proofs.moves.seeing.Goals as goal

pub moved-requires-clause-can : goal.moved-requires-clause-can
moved-requires-clause-can c =
    let few : is_flooded c.args.got.ports ≡ false = sym (c.is_flooded.ensures ∙ ap (λ (l : Ports). is_flooded l) c.as_slice.ensures) ∙ c.if-is_flooded.false in
    let same : c.put_inputs.new.slots ≡ (c.args.args.now ++ c.args.state) ++ (lists_of c.args.got.ports ++ value.Int (pos c.args.elapsed) ∷ []) =
    c.in_ok-put_inputs.ensures ∙ ap (λ (l : List Value). (l ++ lists_of c.args.got.ports) ++ value.Int (pos c.args.elapsed) ∷ []) c.in_ok-slots.ensures
    ∙ append_assoc (c.args.args.now ++ c.args.state) (lists_of c.args.got.ports) (value.Int (pos c.args.elapsed) ∷ []) in
    rw same
    (sees-can c.args.program.now c.args.model.0 c.args.args.now c.args.state c.args.elapsed c.args.got.ports c.requires.args c.requires.state c.requires.elapsed c.requires.got c.args.phase.now.block.0 c.args.phase.now.at c.args.phase.now.site few c.requires.phase)

pub returns-in-Ok-clause-gives : goal.returns-in-Ok-clause-gives
returns-in-Ok-clause-gives c =
    let few : is_flooded c.args.got.ports ≡ false = sym (c.is_flooded.ensures ∙ ap (λ (l : Ports). is_flooded l) c.as_slice.ensures) ∙ c.if-is_flooded.false in
    let same : c.put_inputs.new.slots ≡ (c.args.args.now ++ c.args.state) ++ (lists_of c.args.got.ports ++ value.Int (pos c.args.elapsed) ∷ []) =
    c.in_ok-put_inputs.ensures ∙ ap (λ (l : List Value). (l ++ lists_of c.args.got.ports) ++ value.Int (pos c.args.elapsed) ∷ []) c.in_ok-slots.ensures
    ∙ append_assoc (c.args.args.now ++ c.args.state) (lists_of c.args.got.ports) (value.Int (pos c.args.elapsed) ∷ []) in
    sees-ok c.args.program.now c.args.model.0 c.args.args.now c.args.state c.args.elapsed c.args.got.ports c.requires.args c.requires.state c.requires.elapsed c.requires.got c.args.phase.now.block.0 c.args.phase.now.at c.args.phase.now.site few c.moved.result
    (resized c.args.program.now c.args.phase.now.block.0 c.put_inputs.new.slots _ c.len.result (length c.args.args.now) c.len-states.result (length c.args.state) c.moved.result same c.len.ensures c.len-states.ensures c.moved.ensures)
    c.in-Ok.state c.in-Ok.is

pub returns-in-Ok-clause-fits : goal.returns-in-Ok-clause-fits
returns-in-Ok-clause-fits c =
    let few : is_flooded c.args.got.ports ≡ false = sym (c.is_flooded.ensures ∙ ap (λ (l : Ports). is_flooded l) c.as_slice.ensures) ∙ c.if-is_flooded.false in
    let same : c.put_inputs.new.slots ≡ (c.args.args.now ++ c.args.state) ++ (lists_of c.args.got.ports ++ value.Int (pos c.args.elapsed) ∷ []) =
    c.in_ok-put_inputs.ensures ∙ ap (λ (l : List Value). (l ++ lists_of c.args.got.ports) ++ value.Int (pos c.args.elapsed) ∷ []) c.in_ok-slots.ensures
    ∙ append_assoc (c.args.args.now ++ c.args.state) (lists_of c.args.got.ports) (value.Int (pos c.args.elapsed) ∷ []) in
    sees-fits c.args.program.now c.args.model.0 c.args.args.now c.args.state c.args.elapsed c.args.got.ports c.requires.args c.requires.state c.requires.elapsed c.requires.got c.args.phase.now.block.0 c.args.phase.now.at c.args.phase.now.site few c.moved.result
    (resized c.args.program.now c.args.phase.now.block.0 c.put_inputs.new.slots _ c.len.result (length c.args.args.now) c.len-states.result (length c.args.state) c.moved.result same c.len.ensures c.len-states.ensures c.moved.ensures)
    c.requires.phase c.in-Ok.state c.in-Ok.is

pub returns-in-Err-clause-gives : goal.returns-in-Err-clause-gives
returns-in-Err-clause-gives c =
    let few : is_flooded c.args.got.ports ≡ false = sym (c.is_flooded.ensures ∙ ap (λ (l : Ports). is_flooded l) c.as_slice.ensures) ∙ c.if-is_flooded.false in
    let same : c.put_inputs.new.slots ≡ (c.args.args.now ++ c.args.state) ++ (lists_of c.args.got.ports ++ value.Int (pos c.args.elapsed) ∷ []) =
    c.in_ok-put_inputs.ensures ∙ ap (λ (l : List Value). (l ++ lists_of c.args.got.ports) ++ value.Int (pos c.args.elapsed) ∷ []) c.in_ok-slots.ensures
    ∙ append_assoc (c.args.args.now ++ c.args.state) (lists_of c.args.got.ports) (value.Int (pos c.args.elapsed) ∷ []) in
    rw c.at_site.ensures
    (sees-end c.args.program.now c.args.model.0 c.args.args.now c.args.state c.args.elapsed c.args.got.ports c.requires.args c.requires.state c.requires.elapsed c.requires.got c.args.phase.now.block.0 c.args.phase.now.at c.args.phase.now.site few c.moved.result
    (resized c.args.program.now c.args.phase.now.block.0 c.put_inputs.new.slots _ c.len.result (length c.args.args.now) c.len-states.result (length c.args.state) c.moved.result same c.len.ensures c.len-states.ensures c.moved.ensures)
    c.in-Err.end c.in-Err.is)
