-- The ports of a model that were made once are those of the definitions.
use Rattle.std.proofs.Common.{◌≡◌, ℕ, true, false, Bool, List, [], Option, Some, None, slice_get, refl, ap, ◌∙◌}
use Rattle.std.specs.Option.{option_map, option_map_or}
use Rattle.std.proofs.lemmas.Option.{slice_get-map}
use Rattle.dsde_language.specs.declared.known.Known.{Known}
use Rattle.dsde_language.specs.declared.signatures.Family.{Family}
use Rattle.dsde_language.specs.declared.signatures.ModelSig.{ModelSig}
use Rattle.dsde_language.specs.RuleTables.{family_name}
use Rattle.dsde_language.specs.given.names.Table.{named}
use Rattle.dsde_language.specs.Names.{with_slots}
use Rattle.dsde_language.specs.DeclaredStructures.{Place, directed, kid_ports, model_ports}
use Rattle.dsde_program_structures.specs.declared.gate.Gate.{Gate}
use Rattle.dsde_program_structures.specs.Sides.{gate_at, gate_of, gates_of, side_of}
use Rattle.dsde_program_structures.proofs.place.Place.kid_ports.Goals as goal

side-model : (out : Bool) (found : Option ModelSig)
    → option_map_or (side_of out) (option_map gate_of found) [] ≡ with_slots [] (option_map_or (λ (own : ModelSig). directed out own.ports) found [])
side-model true None = refl
side-model false None = refl
side-model true (Some own) = refl
side-model false (Some own) = refl

side-family : (known : Known) (out : Bool) (found : Option Family)
    → option_map_or (side_of out) (elim found [ None ↦ None | Some family ↦ slice_get (gates_of known) family.model ]) []
    ≡ option_map_or (λ (family : Family). model_ports known out family.model) found []
side-family known out None = refl
side-family known out (Some family) =
    ap (λ (found : Option Gate). option_map_or (side_of out) found []) (slice_get-map gate_of known.models family.model)
    ∙ side-model out (slice_get known.models family.model)

side-at : (place : Place) (out : Bool) (name : List ℕ) → option_map_or (side_of out) (gate_at place name) [] ≡ kid_ports place out name
side-at place out name = side-family place.known out (named family_name place.families name)

pub returns-in-Some : goal.returns-in-Some
returns-in-Some c =
    c.side.ensures
    ∙ (ap (λ (found : Option Gate). option_map_or (side_of c.args.out) found []) c.in-Some.ensures
    ∙ side-at c.args.self.now c.args.out c.args.name.now)

pub returns-in-None : goal.returns-in-None
returns-in-None c =
    c.nothing.ensures
    ∙ (ap (λ (found : Option Gate). option_map_or (side_of c.args.out) found []) c.in-None.ensures
    ∙ side-at c.args.self.now c.args.out c.args.name.now)
