use Rattle.std.proofs.Common.{◌≡◌, ℕ, List, [], ◌∷◌, ◌++◌, drop, sym, ◌∙◌, ap, arith}
use Rattle.std.specs.Prelude.{codes}
use Rattle.std.specs.Int.{w64}
use Rattle.std.proofs.lemmas.Int.{to_z-of_z}
use Rattle.std.proofs.lemmas.Result.{err_from_is_err_and}
use Rattle.std.proofs.lemmas.Slice.Eq.{bytes_eq-Decides}
use Rattle.dsde_values.proofs.Fronts.{word_other}
use Rattle.dsde_values.proofs.ListReading as items
use Rattle.dsde_values.proofs.FieldReading as fields
use Rattle.dsde_values.proofs.ValueReading as values
use Rattle.dsde_values.proofs.ReadParts as part
use Rattle.dsde_values.proofs.reading.Reader.+reading.Goals as goal

pub field-returns : goal.field-returns
field-returns t c =
    part.field_read c.args.types.now c.args.field.now c.args.self.now c.as_slice.result.now c.opens.new.self c.value.new.self c.value.result c.if-not-opens.ensures c.as_slice.ensures c.value.ensures

pub record-returns : goal.record-returns
record-returns t c =
    part.record_read c.args.types.now c.args.number c.in-Some.fields.now c.args.self.now c.name_at.result.now c.opens.new.self c.fields.new.self c.fields.result (sym c.in-Some.ensures) c.if-not-opens.ensures c.name_at.ensures c.fields.ensures

pub fields-returns-in_default : goal.fields-returns-in_default
fields-returns-in_default t c =
    let none : c.args.fields.now ≡ [] = part.nil_from_length c.args.fields.now c.in_default.ensures.cases in
    rw (none)
    (part.fields_ended c.args.types.now [] c.args.self.now c.args.self.now c.ended.new.self c.new-parts.result c.ended.result c.ended.ensures
    (λ close. rw c.new-parts.ensures (fields.no_fields c.args.types.now c.args.self.now c.ended.new.self close)) (fields.no_brace c.args.types.now c.args.self.now))

pub fields-returns-in_err-field : goal.fields-returns-in_err-field
fields-returns-in_err-field t c =
    let p = err_from_is_err_and c.from_residual.result c.from_residual.ensures.1 in
    rw (c.in-Some.ensures.cases.0, p.1, p.2)
    (part.field_fails c.args.types.now c.in-Some.first.now (c.in-Some.first.now ∷ c.in-Some.others.now) c.args.self.now c.args.self.now c.field.new.self c.field.new.self _
    (fields.no_first_field c.args.types.now c.in-Some.first.now c.in-Some.others.now c.args.self.now) c.in_err-field.ensures)

pub fields-loop-field-init : goal.fields-loop-field-init
fields-loop-field-init t c =
    rw (c.in-Some.ensures.cases.0, c.in_ok-push.ensures.ok, c.new-parts.ensures)
    (fields.first_field c.args.types.now c.in-Some.first.now c.in-Some.others.now c.args.self.now c.field.new.self c.in_ok-field.field-0 c.in_ok-field.ensures)

pub list-returns-then-takes : goal.list-returns-then-takes
list-returns-then-takes t c =
    rw c.new-items.ensures
    (items.list_taken c.args.types.now c.args.ty.now c.args.self.now c.takes.new.self c.if-not-takes.ensures [] c.takes-2.new.self
    (items.no_items c.args.types.now c.args.ty.now c.requires c.takes.new.self c.takes-2.new.self c.if-takes.ensures))

pub list-returns-in_err-value : goal.list-returns-in_err-value
list-returns-in_err-value t c =
    let p = err_from_is_err_and c.from_residual.result c.from_residual.ensures.1 in
    rw (p.1, p.2)
    (part.item_fails c.args.types.now c.args.ty.now c.args.self.now c.takes-2.new.self c.takes-2.new.self c.value.new.self c.value.new.self _
    (c.if-not-takes.ensures ∙ ap (λ (rest : List ℕ). codes "[" ++ rest) (sym c.if-takes.ensures.0))
    (items.no_first_item c.args.types.now c.args.ty.now c.takes-2.new.self (λ rest same. c.if-takes.ensures.1 rest (sym c.if-takes.ensures.0 ∙ same))) c.in_err-value.ensures)

pub list-loop-alloc-init : goal.list-loop-alloc-init
list-loop-alloc-init t c =
    let start : drop 1 c.args.self.now ≡ c.takes-2.new.self = ap (drop 1) c.if-not-takes.ensures ∙ sym c.if-takes.ensures.0 in
    rw (start, c.in_ok-push.ensures.ok, c.new-items.ensures)
    (items.first_item c.args.types.now c.args.ty.now c.takes-2.new.self c.value.new.self c.in_ok-value.field-0 (λ rest same. c.if-takes.ensures.1 rest (sym c.if-takes.ensures.0 ∙ same)) c.in_ok-value.ensures)

pub list-returns-in_err-value-2 : goal.list-returns-in_err-value-2
list-returns-in_err-value-2 t c =
    let p = err_from_is_err_and c.from_residual-in_err-value-2.result c.from_residual-in_err-value-2.ensures.1 in
    rw (p.1, p.2)
    (part.item_fails c.args.types.now c.args.ty.now c.args.self.now (drop 1 c.args.self.now) c.takes-in-loop-alloc.new.self c.value-in-loop-alloc.new.self c.value-in-loop-alloc.new.self _
    (part.bracket_again c.args.self.now c.takes.new.self c.if-not-takes.ensures)
    (items.no_next_item c.args.types.now c.args.ty.now (drop 1 c.args.self.now) c.loop-alloc.items c.loop-alloc.self c.takes-in-loop-alloc.new.self c.loop-alloc.invariant c.loop-alloc-test.ensures) c.in_err-value-2.ensures)

pub list-loop-alloc-preserved : goal.list-loop-alloc-preserved
list-loop-alloc-preserved t c =
    rw c.in_ok-push-2.ensures.ok
    (items.next_item c.args.types.now c.args.ty.now (drop 1 c.args.self.now) c.loop-alloc.items c.loop-alloc.self c.takes-in-loop-alloc.new.self c.loop-alloc.invariant c.loop-alloc-test.ensures
    c.in_ok-value-2.field-0 c.value-in-loop-alloc.new.self (omega arith) c.in_ok-value-2.ensures)

pub list-returns : goal.list-returns
list-returns t c =
    let same = c.loop-alloc-test.ensures.0 in
    part.list_ended c.args.types.now c.args.ty.now c.args.self.now (drop 1 c.args.self.now) c.takes-in-loop-alloc.new.self c.ended.new.self c.loop-alloc.items c.ended.result
    (part.bracket_again c.args.self.now c.takes.new.self c.if-not-takes.ensures) c.ended.ensures
    (λ close. items.items_taken c.args.types.now c.args.ty.now (drop 1 c.args.self.now) c.loop-alloc.items c.loop-alloc.self c.loop-alloc.invariant c.loop-alloc-test.ensures.1 c.ended.new.self (sym same ∙ close))
    (λ none. items.not_ended c.args.types.now c.args.ty.now (drop 1 c.args.self.now) c.loop-alloc.items c.loop-alloc.self c.loop-alloc.invariant c.loop-alloc-test.ensures.1 (λ rest e. none rest (same ∙ e)))

pub option-returns-in_err-inner : goal.option-returns-in_err-inner
option-returns-in_err-inner t c =
    let p = err_from_is_err_and c.from_residual.result c.from_residual.ensures.1 in
    rw (p.1, p.2)
    (part.part_fails c.args.types.now c.args.ty.now c.args.self.now c.takes.new.self c.value.new.self c.value.new.self _
    (values.no_part c.args.types.now c.args.ty.now c.args.self.now c.takes.new.self c.if-takes.ensures) c.in_err-inner.ensures)

pub option-returns-then-eq : goal.option-returns-then-eq
option-returns-then-eq t c =
    values.nothing_taken c.args.types.now c.args.ty.now c.args.self.now c.word.result.now c.word.new.self c.if-takes.ensures.1 (sym c.if-takes.ensures.0 ∙ c.word.ensures.front) c.word.ensures.word c.word.ensures.end
    ((bytes_eq-Decides c.word.result.now c.as_slice.result.now).0 (sym c.if-eq.ensures) ∙ c.as_slice.ensures)

pub option-returns-else-eq : goal.option-returns-else-eq
option-returns-else-eq t c =
    values.no_option c.args.types.now c.args.ty.now c.args.self.now c.word.result.now c.word.new.self c.if-takes.ensures.1 (sym c.if-takes.ensures.0 ∙ c.word.ensures.front) c.word.ensures.word c.word.ensures.end
    (word_other c.word.result.now (codes "none") c.as_slice.result.now c.if-eq.ensures c.as_slice.ensures)

pub value-returns-in_err-number-in-Int : goal.value-returns-in_err-number-in-Int
value-returns-in_err-number-in-Int t c =
    let p = err_from_is_err_and c.from_residual.result c.from_residual.ensures.1 in
    rw (c.in-Int.is, p.1, p.2) (part.int_fails c.args.types.now c.args.self.now c.number.new.self c.number.new.self _ c.in_err-number-in-Int.ensures)

pub value-returns-in_ok-number-in-Int : goal.value-returns-in_ok-number-in-Int
value-returns-in_ok-number-in-Int t c =
    rw (c.in-Int.is, to_z-of_z w64 c.in_ok-number-in-Int.field-0 c.in_ok-number-in-Int.ensures.is)
    (values.int_taken c.args.types.now c.args.self.now c.number.new.self c.in_ok-number-in-Int.field-0 c.in_ok-number-in-Int.ensures)

pub value-returns-in_ok-truth-in-Bool : goal.value-returns-in_ok-truth-in-Bool
value-returns-in_ok-truth-in-Bool t c =
    rw c.in-Bool.is (values.bool_taken c.args.types.now c.args.self.now c.truth.new.self c.in_ok-truth-in-Bool.field-0 c.in_ok-truth-in-Bool.ensures)

pub value-returns-in_ok-variant-in-Enum : goal.value-returns-in_ok-variant-in-Enum
value-returns-in_ok-variant-in-Enum t c =
    rw c.in-Enum.is (values.enum_taken c.args.types.now c.args.self.now c.variant.new.self c.in-Enum.number c.in_ok-variant-in-Enum.field-0 c.in_ok-variant-in-Enum.ensures)

pub value-returns-in_ok-record-in-Rec : goal.value-returns-in_ok-record-in-Rec
value-returns-in_ok-record-in-Rec t c =
    rw c.in-Rec.is (values.record_value c.args.types.now c.args.self.now c.record.new.self c.in-Rec.number c.in_ok-record-in-Rec.field-0 c.in_ok-record-in-Rec.ensures)

pub value-returns-in_ok-list-in-List : goal.value-returns-in_ok-list-in-List
value-returns-in_ok-list-in-List t c =
    rw (c.in-List.is, ← c.get.ensures) (values.list_value c.args.types.now c.args.self.now c.list.new.self c.get.result.now c.in_ok-list-in-List.field-0 c.in_ok-list-in-List.ensures)

pub fields-returns-then-not-takes : goal.fields-returns-then-not-takes
fields-returns-then-not-takes t c =
    part.loop_no_comma c.args.types.now c.args.fields.now c.in-Some.others.now c.in-Some.first.now c.field-item.result c.loop-field.field-index c.in-Some.ensures.cases.0 (omega arith) c.field-item.is
    c.args.self.now c.loop-field.parts c.loop-field.self c.loop-field.invariant c.if-not-takes.ensures.1

pub fields-returns-in_err-field-2 : goal.fields-returns-in_err-field-2
fields-returns-in_err-field-2 t c =
    let p = err_from_is_err_and c.from_residual-in_err-field-2.result c.from_residual-in_err-field-2.ensures.1 in
    rw (p.1, p.2)
    (part.field_fails c.args.types.now c.field-item.result c.args.fields.now c.args.self.now c.takes.new.self c.field-in-loop-field.new.self c.field-in-loop-field.new.self _
    (part.loop_no_field c.args.types.now c.args.fields.now c.in-Some.others.now c.in-Some.first.now c.field-item.result c.loop-field.field-index c.in-Some.ensures.cases.0 (omega arith) c.field-item.is
    c.args.self.now c.loop-field.parts c.loop-field.self c.loop-field.invariant c.takes.new.self c.if-not-takes.ensures) c.in_err-field-2.ensures)

pub fields-loop-field-preserved : goal.fields-loop-field-preserved
fields-loop-field-preserved t c =
    rw c.in_ok-push-2.ensures.ok
    (part.loop_more c.args.types.now c.args.fields.now c.in-Some.others.now c.in-Some.first.now c.field-item.result c.loop-field.field-index c.in-Some.ensures.cases.0 (omega arith) c.field-item.is
    c.args.self.now c.loop-field.parts c.loop-field.self c.loop-field.invariant c.takes.new.self c.in_ok-field-2.field-0 c.field-in-loop-field.new.self c.if-not-takes.ensures c.in_ok-field-2.ensures)

pub fields-returns : goal.fields-returns
fields-returns t c =
    part.loop_ended c.args.types.now c.args.fields.now c.in-Some.others.now c.in-Some.first.now c.loop-field.field-index c.in-Some.ensures.cases.0 c.loop-field-test.false
    c.args.self.now c.loop-field.parts c.loop-field.self c.loop-field.invariant c.ended-2.new.self c.ended-2.result c.ended-2.ensures

pub option-returns-then-not-takes : goal.option-returns-then-not-takes
option-returns-then-not-takes t c =
    values.not_closed c.args.types.now c.args.ty.now c.args.self.now c.takes.new.self c.if-takes.ensures c.in_ok-inner.inner c.value.new.self c.in_ok-inner.ensures c.if-not-takes.ensures.1

pub option-returns-then-takes : goal.option-returns-then-takes
option-returns-then-takes t c =
    rw c.in_ok-new.ensures
    (values.some_taken c.args.types.now c.args.ty.now c.args.self.now c.takes.new.self c.if-takes.ensures c.in_ok-inner.inner c.value.new.self c.in_ok-inner.ensures c.takes-then-takes.new.self c.if-not-takes.ensures)

pub value-returns-in_err-truth-in-Bool : goal.value-returns-in_err-truth-in-Bool
value-returns-in_err-truth-in-Bool t c =
    let p = err_from_is_err_and c.from_residual-in_err-truth-in-Bool.result c.from_residual-in_err-truth-in-Bool.ensures.1 in
    rw (c.in-Bool.is, p.1, p.2) (part.truth_fails c.args.types.now c.args.self.now c.truth.new.self c.truth.new.self _ c.in_err-truth-in-Bool.ensures)

pub value-returns-in_err-variant-in-Enum : goal.value-returns-in_err-variant-in-Enum
value-returns-in_err-variant-in-Enum t c =
    let p = err_from_is_err_and c.from_residual-in_err-variant-in-Enum.result c.from_residual-in_err-variant-in-Enum.ensures.1 in
    rw (c.in-Enum.is, p.1, p.2) (part.variant_fails c.args.types.now c.args.self.now c.variant.new.self c.variant.new.self _ c.in-Enum.number c.in_err-variant-in-Enum.ensures)

pub value-returns-in_err-record-in-Rec : goal.value-returns-in_err-record-in-Rec
value-returns-in_err-record-in-Rec t c =
    let p = err_from_is_err_and c.from_residual-in_err-record-in-Rec.result c.from_residual-in_err-record-in-Rec.ensures.1 in
    rw (c.in-Rec.is, p.1, p.2) (part.record_fails c.args.types.now c.args.self.now c.record.new.self c.record.new.self _ c.in-Rec.number c.in_err-record-in-Rec.ensures)

pub value-returns-in_err-list-in-List : goal.value-returns-in_err-list-in-List
value-returns-in_err-list-in-List t c =
    let p = err_from_is_err_and c.from_residual-in_err-list-in-List.result c.from_residual-in_err-list-in-List.ensures.1 in
    rw (c.in-List.is, ← c.get.ensures, p.1, p.2) (part.list_fails c.args.types.now c.args.self.now c.list.new.self c.list.new.self _ c.get.result.now c.in_err-list-in-List.ensures)
