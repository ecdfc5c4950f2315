use Rattle.std.proofs.Common.{◌≡◌, ⊎_elim, map, inl, inr, ap}
use Rattle.std.proofs.lemmas.Slice.Zip.{either_empty_from_Zip}
use Rattle.std.proofs.Math.Seq.{take-append_seam}
use Rattle.dsde_values.specs.Value.{spelling}
use Rattle.dsde_values.proofs.Writing.{grown, all_written, fields_written}
use Rattle.dsde_values.proofs.spelling.+writing.Goals as goal

pub append_fields-returns-clause-ok : goal.append_fields-returns-clause-ok
append_fields-returns-clause-ok t c =
    let ends = either_empty_from_Zip c.loop-field.field-iterator c.next.new.self c.next.result c.in-None.is c.next.ensures.steps in
    let done = all_written c.loop-field.text _ c.loop-field.field-iterator.a.rest.now (map (spelling c.args.types.now) c.loop-field.field-iterator.b.rest.now)
    (⊎_elim inl (λ e. inr (ap (map (spelling c.args.types.now)) e)) ends) c.loop-field.invariant.0 in
    let fields : c.into_iter-field-iterator.result.a.rest.now ≡ c.in-Some.other_fields.now = cc in
    let parts : c.into_iter-field-iterator.result.b.rest.now ≡ c.in-Some-split_first.other_parts.now = cc in
    fields_written c.args.types.now c.args.text.now c.append_field.new.text c.loop-field.text c.args.fields.now c.in-Some.other_fields.now c.in-Some.first.now
    c.args.parts.now c.in-Some-split_first.other_parts.now c.in-Some-split_first.first_part.now c.in-Some.ensures.cases.0 c.in-Some-split_first.ensures.cases.0 c.in_ok-append_field.ensures.ok (cc)

pub append_list-returns-in_err-append_value-2-clause-grows : goal.append_list-returns-in_err-append_value-2-clause-grows
append_list-returns-in_err-append_value-2-clause-grows t c =
    grown c.args.text.now c.loop-item.text c.append_value-in-loop-item.new.text c.loop-item.invariant.1
    (grown c.loop-item.text c.extend_from_slice.new.self c.append_value-in-loop-item.new.text (rw c.in_ok-extend_from_slice.ensures.ok (take-append_seam c.loop-item.text _)) c.in_err-append_value-2.ensures.grows)
