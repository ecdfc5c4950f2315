-- The ports of models, and of components by their identifiers.
use Rattle.std.specs.Prelude.{ℕ, true, false, Bool, if◌then◌else◌, List, [], map, Option, Some, None, slice_get}
use Rattle.dsde_language.specs.given.names.Table.{named}
use Rattle.dsde_values.specs.declared.types.Field.{Field}
use Rattle.dsde_language.specs.declared.known.Known.{Known}
use Rattle.dsde_language.specs.declared.signatures.ModelSig.{ModelSig}
use Rattle.dsde_language.specs.RuleTables.{family_name}
use Rattle.dsde_language.specs.DeclaredStructures.{Place, directed}
use Rattle.dsde_language.specs.Names.{with_slots}
use Rattle.dsde_program_structures.specs.declared.gate.Gate.{Gate}

-- the ports of a model
abbrev pub gate_of : ModelSig → Gate
gate_of model = record { ins = with_slots [] (directed false model.ports); outs = with_slots [] (directed true model.ports) }

-- the ports of the models of a file, one after another
abbrev pub gates_of : Known → List Gate
gates_of known = map gate_of known.models

-- the ports of one direction
abbrev pub side_of : Bool → Gate → List Field
side_of out gate = if out then gate.outs else gate.ins

-- the ports of the components with an identifier
abbrev pub gate_at : Place → List ℕ → Option Gate
gate_at place name =
    elim (named family_name place.families name) [ None ↦ None | Some family ↦ slice_get (gates_of place.known) family.model ]
