-- The structure of a network in which nothing is wrong stands at its numbers.
use Rattle.std.proofs.Common.{◌≡◌, true, false, List, [], map, refl, ap, subst, ◌∙◌}
use Rattle.std.specs.List.{flat_map, list_all}
use Rattle.dsde_language.specs.given.syntax.item_Item.{Item}
use Rattle.dsde_language.specs.given.syntax.decl_Model.{Model}
use Rattle.dsde_language.specs.given.values.types_Field.{Field}
use Rattle.dsde_language.specs.declared.known.Around.{Around}
use Rattle.dsde_language.specs.declared.known.Known.{Known}
use Rattle.dsde_language.specs.declared.known.Site.{Site}
use Rattle.dsde_language.specs.declared.signatures.Family.{Family}
use Rattle.dsde_language.specs.Blocks.{inner}
use Rattle.dsde_language.specs.Rules.{around_with}
use Rattle.dsde_language.specs.RuleStructures.{enter, enter_all, item_walk}
use Rattle.dsde_language.specs.declared.code.Code.{Code}
use Rattle.dsde_language.specs.declared.code.ViaCode.{ViaCode}
use Rattle.dsde_language.specs.declared.node.Node.{Node}
use Rattle.dsde_language.specs.DeclaredStructures.{Place, directed, place_of_items, vias_in, vias_of}
use Rattle.dsde_language.specs.Items.{resolve_items}
use Rattle.dsde_language.specs.DeclaredModels.{whole_of, Own}
use Rattle.dsde_language.specs.NodeModels.{resolved}
use Rattle.dsde_language.specs.Pieces.{Block, Next}
use Rattle.dsde_language.specs.Statements.{body_scope}
use Rattle.dsde_language.specs.Scopes.{Stands}
use Rattle.dsde_sound_expressions.specs.Items.{is_proper_item}
use Rattle.dsde_sound_expressions.specs.Bodies.{body_slots}
use Rattle.dsde_sound_expressions.specs.Structures.{IsStructure}
use Rattle.dsde_sound_expressions.specs.lemmas.Steps.{went}
use Rattle.dsde_sound_expressions.proofs.PlaceParams.{PortsAre, ports-are, directed-is}
use Rattle.dsde_sound_expressions.proofs.BodyPieces.{BodyPut}
use Rattle.dsde_sound_expressions.proofs.OneBody.{StructureJudged, slots1-are, structure-sees, directed-are}
use Rattle.dsde_sound_expressions.proofs.StructurePieces.{Laid}

module _ (model : Model) (known : Known) (own : Own) (items : List Item) (judged : StructureJudged model known own items) where
  abbrev whole : Known
  whole = whole_of model

  abbrev nodes : List Node
  nodes = (resolved model).nodes

  abbrev blocks : List Block
  blocks = (resolved model).blocks

  abbrev vias : List ViaCode
  vias = (resolved model).vias

  abbrev around : Around
  around = around_with known judged.body.reserved

  abbrev place : Place
  place = place_of_items whole own.ports own.body items

  abbrev slots : List Field
  slots = body_scope whole own.params own.body

  ports : PortsAre known whole judged.body.typed judged.body.params [] judged.ports own.ports
  ports = ports-are known whole judged.body.typed own.ports judged.body.params [] judged.ports judged.ports_is

  -- the numbers of the body and of the items
  pub structure-stands : (code : Code) (body_next next : Next) → BodyPut nodes blocks whole own.params own.start_at own.body body_next code
      → Laid nodes blocks vias next (resolve_items place items slots next) → Stands (vias_of model) next.via (flat_map vias_in items) → list_all is_proper_item items ≡ true
      → IsStructure model own items next.via (resolve_items place items slots next).own
  structure-stands code body_next next put laid texts proper =
      let same : slots ≡ body_slots model own = slots1-are model known own judged.body code body_next put in
      let site : List Family → Site = λ families. record { around = around; ports = judged.ports; execs = judged.body.ports; families = families } in
      let parts = went (enter_all (map (enter known) items) []) (λ families. inner (map (item_walk (site families)) items) 0 judged.body.passed.scope) judged.height judged.structure_is in
      record {
        around = around;
        ports = judged.ports;
        execs = judged.body.ports;
        families = parts.value;
        scope = judged.body.passed.scope;
        height = judged.height;
        next = next;
        known = judged.body.at;
        plain = refl;
        partial = refl;
        proper = proper;
        entered = parts.first;
        judged = parts.next;
        low = judged.height_low;
        sees = structure-sees model known own judged.body code body_next put;
        own_ports = record {
          ins = ap (directed false) ports.is ∙ directed-is whole false own.ports;
          outs = ap (directed true) ports.is ∙ directed-is whole true own.ports;
        };
        exec_ports = record {
          ins = directed-are model known own judged.body false;
          outs = directed-are model known own judged.body true;
        };
        nodes = subst (λ (l : List Field). Stands nodes next.node (resolve_items place items l next).nodes) same laid.put.nodes_at;
        vias = subst (λ (l : List Field). Stands vias next.via (resolve_items place items l next).vias) same laid.vias_at;
        texts = texts;
        at = refl;
        made = ap (λ (l : List Field). (resolve_items place items l next).own) same;
      }
