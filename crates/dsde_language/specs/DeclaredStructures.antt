-- The structures that the networks of a file declare: the models of their components, the ports that
-- the ends of their links may be at, and the translations of their links in text order.
use Rattle.std.specs.Prelude.{ℕ, true, false, Bool, not, if◌then◌else◌, List, [], ◌∷◌, ◌++◌, length, map, take, Option, Some, None, unwrap_or, slice_get}
use Rattle.std.specs.List.{flat_map}
use Rattle.std.specs.Option.{option_map_or}
use Rattle.dsde_names.specs.Table.{named}
use Rattle.dsde_syntax.specs.declared.decl.Body.{Body}
use Rattle.dsde_syntax.specs.declared.decl.Decl.{Decl}
use Rattle.dsde_syntax.specs.declared.decl.Decl.TheVariants as decl
use Rattle.dsde_syntax.specs.declared.decl.Model.{Model}
use Rattle.dsde_syntax.specs.declared.decl.PortDecl.{PortDecl}
use Rattle.dsde_syntax.specs.declared.item.EndPart.{EndPart}
use Rattle.dsde_syntax.specs.declared.item.EndPart.TheVariants as end_part
use Rattle.dsde_syntax.specs.declared.item.Item.{Item}
use Rattle.dsde_syntax.specs.declared.item.Item.TheOpen.{Item-F, ItemArm-F}
use Rattle.dsde_syntax.specs.declared.item.Item.TheFolds.{fold-Item}
use Rattle.dsde_syntax.specs.declared.item.ViaPart.{ViaPart}
use Rattle.dsde_values.specs.declared.types.Field.{Field}
use Rattle.dsde_language.specs.declared.known.Known.{Known}
use Rattle.dsde_language.specs.declared.signatures.Family.{Family}
use Rattle.dsde_language.specs.declared.signatures.ModelSig.{ModelSig}
use Rattle.dsde_language.specs.declared.signatures.Port.{Port}
use Rattle.dsde_language.specs.RuleTables.{added, family_name}
use Rattle.dsde_language.specs.Names.{with_slots}
use Rattle.dsde_language.specs.DeclaredModels.{model_number, port_fields}

-- where an item stands: the in ports and the out ports of the network and of its executive, and the
-- models of its components by their identifiers
pub record Place : Type 0 where
  pub known : Known
  pub ins : List Field
  pub outs : List Field
  pub boss_ins : List Field
  pub boss_outs : List Field
  pub families : List Family

-- the models of components by their identifiers, in text order
abbrev pub Kin : Type 0
Kin = List Family → List Family

abbrev pub kin_all : List Kin → Kin
kin_all [] families = families
kin_all (kin ∷ kins) families = kin_all kins (kin families)

abbrev pub kin_step : Known → Item-F Kin Kin → Kin
kin_step known (Item-F.Comp at name index soft model args) families =
    added family_name families (record { name = name.name; model = model_number known model.name })
kin_step known (Item-F.Link at source target via) families = families
kin_step known (Item-F.Let name value) families = families
kin_step known (Item-F.If arms other) families = kin_all (unwrap_or other []) (kin_all arms families)
kin_step known (Item-F.For name list body) families = kin_all body families

abbrev pub kin_arm_step : ItemArm-F Kin Kin → Kin
kin_arm_step arm = kin_all arm.body

abbrev pub kin_of : Known → Item → Kin
kin_of known = fold-Item Kin Kin (kin_step known) kin_arm_step

-- where the items of a network stand
abbrev pub place_of_items : Known → List PortDecl → Body → List Item → Place
place_of_items known ports body items = record {
  known = known;
  ins = with_slots [] (port_fields known false ports);
  outs = with_slots [] (port_fields known true ports);
  boss_ins = with_slots [] (port_fields known false body.ports);
  boss_outs = with_slots [] (port_fields known true body.ports);
  families = kin_all (map (kin_of known) items) [];
}

-- the ports of one direction of the component with this identifier
abbrev pub directed : Bool → List Port → List Field
directed out [] = []
directed out (port ∷ ports) =
    if (if out then port.out else not port.out) then record { name = port.name; ty = port.ty } ∷ directed out ports else directed out ports

abbrev pub model_ports : Known → Bool → ℕ → List Field
model_ports known out model = with_slots [] (option_map_or (λ (own : ModelSig). directed out own.ports) (slice_get known.models model) [])

abbrev pub kid_ports : Place → Bool → List ℕ → List Field
kid_ports place out name =
    option_map_or (λ (family : Family). model_ports place.known out family.model) (named family_name place.families name) []

-- the ports that an end of a link may be at: a source is an in port of `net` or an out port of
-- others, and a target is an out port of `net` or an in port of others
abbrev pub end_ports : Place → Bool → EndPart → List Field
end_ports place is_source end_part.Net = if is_source then place.ins else place.outs
end_ports place is_source end_part.Exec = if is_source then place.boss_outs else place.boss_ins
end_ports place is_source (end_part.Kid name index) = kid_ports place is_source name.name

-- the items of the structure of an atomic model, which has none, or of a network
abbrev pub structure_in : Decl → List (List Item)
structure_in (decl.Atomic at name params body) = [] ∷ []
structure_in (decl.Network at name params ports exec_at body items) = items ∷ []
structure_in _ = []

-- those of all atomic models and networks of a file, in text order
abbrev pub structures_of : List Decl → List (List Item)
structures_of decls = flat_map structure_in decls

-- the translations of a link
abbrev pub vias_there : Option ViaPart → List ViaPart
vias_there None = []
vias_there (Some via) = via ∷ []

abbrev pub last_vias : Option (List (List ViaPart)) → List ViaPart
last_vias None = []
last_vias (Some body) = flat_map (λ own. own) body

abbrev pub via_step : Item-F (List ViaPart) (List ViaPart) → List ViaPart
via_step (Item-F.Comp at name index soft model args) = []
via_step (Item-F.Link at source target via) = vias_there via
via_step (Item-F.Let name value) = []
via_step (Item-F.If arms other) = flat_map (λ own. own) arms ++ last_vias other
via_step (Item-F.For name list body) = flat_map (λ own. own) body

abbrev pub via_arm_step : ItemArm-F (List ViaPart) (List ViaPart) → List ViaPart
via_arm_step arm = flat_map (λ own. own) arm.body

-- the translations of an item, in text order
abbrev pub vias_in : Item → List ViaPart
vias_in = fold-Item (List ViaPart) (List ViaPart) via_step via_arm_step

abbrev pub vias_of_structures : List (List Item) → List ViaPart
vias_of_structures structures = flat_map (λ items. flat_map vias_in items) structures

-- the translations of a model, in text order: each has its index here as its number
abbrev pub vias_of : Model → List ViaPart
vias_of model = vias_of_structures (structures_of model.decls)

-- the number of the first translation of the structure with a number
abbrev pub first_via : Model → ℕ → ℕ
first_via model number = length (vias_of_structures (take number (structures_of model.decls)))
