-- The place that is made is that of the definitions, field by field.
use Rattle.std.proofs.Common.{◌≡◌, true, false, List, [], map, ap, ◌∙◌}
use Rattle.dsde_syntax.specs.declared.decl.Body.{Body}
use Rattle.dsde_syntax.specs.declared.decl.PortDecl.{PortDecl}
use Rattle.dsde_syntax.specs.declared.item.Item.{Item}
use Rattle.dsde_values.specs.declared.types.Field.{Field}
use Rattle.dsde_language.specs.declared.known.Known.{Known}
use Rattle.dsde_language.specs.declared.signatures.Family.{Family}
use Rattle.dsde_language.specs.Names.{with_slots}
use Rattle.dsde_language.specs.DeclaredModels.{port_fields}
use Rattle.dsde_language.specs.DeclaredStructures.{Place, kin_all, kin_of, place_of_items}
use Rattle.dsde_program_structures.proofs.place.Place.new.Goals as goal

abbrev place_by : Known → List Field → List Field → List Field → List Field → List Family → Place
place_by known ins outs boss_ins boss_outs families =
    record { known = known; ins = ins; outs = outs; boss_ins = boss_ins; boss_outs = boss_outs; families = families }

place_made : (known : Known) (ports : List PortDecl) (body : Body) (items : List Item) (ins outs boss_ins boss_outs : List Field) (families : List Family)
    → ins ≡ with_slots [] (port_fields known false ports)
    → outs ≡ with_slots [] (port_fields known true ports)
    → boss_ins ≡ with_slots [] (port_fields known false body.ports)
    → boss_outs ≡ with_slots [] (port_fields known true body.ports)
    → families ≡ kin_all (map (kin_of known) items) []
    → place_by known ins outs boss_ins boss_outs families ≡ place_of_items known ports body items
place_made known ports body items ins outs boss_ins boss_outs families one two three four five =
    ap (λ (own : List Field). place_by known own outs boss_ins boss_outs families) one
    ∙ ap (λ (own : List Field). place_by known (with_slots [] (port_fields known false ports)) own boss_ins boss_outs families) two
    ∙ ap (λ (own : List Field). place_by known (with_slots [] (port_fields known false ports)) (with_slots [] (port_fields known true ports)) own boss_outs families) three
    ∙ ap (λ (own : List Field). place_by known (with_slots [] (port_fields known false ports)) (with_slots [] (port_fields known true ports)) (with_slots [] (port_fields known false body.ports)) own families) four
    ∙ ap (place_by known (with_slots [] (port_fields known false ports)) (with_slots [] (port_fields known true ports)) (with_slots [] (port_fields known false body.ports)) (with_slots [] (port_fields known true body.ports))) five

pub returns : goal.returns
returns c =
    let known : c.known-known.result.now ≡ c.args.structures.now = c.known-known.ensures ∙ c.resolver-resolver.ensures in
    let own = c.known-known.result.now in
    place_made c.args.structures.now c.args.ports.now c.args.body.now c.args.items.now
    c.in_ok-net.net.ins c.in_ok-net.net.outs c.in_ok-boss.boss.ins c.in_ok-boss.boss.outs c.in_ok-families.families
    (c.in_ok-net.ensures.ins ∙ ap (λ (k : Known). with_slots [] (port_fields k false c.args.ports.now)) known)
    (c.in_ok-net.ensures.outs ∙ ap (λ (k : Known). with_slots [] (port_fields k true c.args.ports.now)) known)
    (c.in_ok-boss.ensures.ins
    ∙ ap (λ (ports : List PortDecl). with_slots [] (port_fields own false ports)) c.as_slice.ensures
    ∙ ap (λ (k : Known). with_slots [] (port_fields k false c.args.body.now.ports)) known)
    (c.in_ok-boss.ensures.outs
    ∙ ap (λ (ports : List PortDecl). with_slots [] (port_fields own true ports)) c.as_slice.ensures
    ∙ ap (λ (k : Known). with_slots [] (port_fields k true c.args.body.now.ports)) known)
    (c.in_ok-families.ensures ∙ ap (λ (k : Known). kin_all (map (kin_of k) c.args.items.now) []) known)
