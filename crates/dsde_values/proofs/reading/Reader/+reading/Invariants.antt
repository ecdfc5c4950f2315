use Rattle.std.proofs.Common.{◌+◌, ◌*◌, length, take, drop}
use Rattle.dsde_values.proofs.ListReading as items
use Rattle.dsde_values.proofs.FieldReading as fields
use Rattle.dsde_values.proofs.reading.Reader.+reading.Given as goal

abbrev pub decreases-value : goal.decreases-value
decreases-value l = 2 * length l.self.now + 1

abbrev pub decreases-record : goal.decreases-record
decreases-record l = 2 * length l.self.now

abbrev pub decreases-fields : goal.decreases-fields
decreases-fields l = 2 * length l.self.now + 1

abbrev pub decreases-field : goal.decreases-field
decreases-field l = 2 * length l.self.now

abbrev pub decreases-list : goal.decreases-list
decreases-list l = 2 * length l.self.now

abbrev pub decreases-option : goal.decreases-option
decreases-option l = 2 * length l.self.now

-- the items that were read behind the bracket
abbrev pub invariant-list-loop-alloc : goal.invariant-list-loop-alloc
invariant-list-loop-alloc l = items.SoFar l.types l.ty (drop 1 l.fn.self) l.items l.self

abbrev pub decreases-list-loop-alloc : goal.decreases-list-loop-alloc
decreases-list-loop-alloc l = length l.self

-- the fields that were read, which are the first of all
abbrev pub invariant-fields-loop-field : goal.invariant-fields-loop-field
invariant-fields-loop-field l =
    fields.SoFar l.types (take (l.field-index + 1) l.fields) (drop (l.field-index + 1) l.fields) l.fn.self l.parts l.self
