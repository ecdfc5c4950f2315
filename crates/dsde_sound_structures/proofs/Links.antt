-- A link is in tables what it is over names.
use Rattle.std.proofs.Common.{◌≡◌, ℕ, ◌+◌, ◌≤◌, nat_lt, max, arith, Bool, true, false, ◌&&◌, if◌then◌else◌, List, [], ◌∷◌, ◌++◌, length, Option, Some, None, Ok, Err, refl, sym, ◌∙◌, ap, subst, append-nil}
use Rattle.std.specs.List.{AllByRecursion}
use Rattle.dsde_sim_tree.specs.given.syntax.decl_Model.{Model}
use Rattle.dsde_sim_tree.specs.given.syntax.item_End as written
use Rattle.dsde_sim_tree.specs.given.syntax.item_Item_TheOpen.{Item-F}
use Rattle.dsde_sim_tree.specs.given.syntax.item_ViaPart.{ViaPart}
use Rattle.dsde_values.specs.declared.types.Field.{Field}
use Rattle.dsde_values.specs.declared.types.Ty.{Ty}
use Rattle.dsde_faults.specs.declared.kind.FaultKind.TheVariants.{TooManyLinks}
use Rattle.dsde_sim_tree.specs.given.language.known_Around.{Around}
use Rattle.dsde_sim_tree.specs.given.language.known_Known.{Known}
use Rattle.dsde_sim_tree.specs.given.language.wrong_WrongKind_TheVariants.{BadLink}
use Rattle.dsde_sim_tree.specs.given.language.Steps.{above, unless}
use Rattle.dsde_sim_tree.specs.given.language.Blocks.{Passed}
use Rattle.dsde_sim_tree.specs.given.language.RuleStructures as rule_structures
use Rattle.dsde_sim_tree.specs.given.language.RuleStructures.{through}
use Rattle.dsde_sim_tree.specs.given.language.code_ViaCode.{ViaCode}
use Rattle.dsde_sim_tree.specs.given.language.Items as nodes
use Rattle.dsde_sim_tree.specs.given.language.DeclaredStructures.{end_ports, vias_of, vias_there}
use Rattle.dsde_sim_tree.specs.given.language.Items.{resolve_end, maybe_via, via_by}
use Rattle.dsde_sim_tree.specs.given.language.DeclaredModels.{types_of, Own}
use Rattle.dsde_sim_tree.specs.given.language.NodeModels.{resolved}
use Rattle.dsde_sim_tree.specs.given.language.Pieces.{Next, behind}
use Rattle.dsde_sim_tree.specs.given.language.Typing.{slot_type}
use Rattle.dsde_sim_tree.specs.given.structure.plan_Link.{Link}
use Rattle.dsde_sim_tree.specs.given.structure.plan_Via.{Via}
use Rattle.dsde_sim_tree.specs.given.language.Outcome.{Fault}
use Rattle.dsde_sim_tree.specs.given.language.Typed.{Sound, Fits, values_in}
use Rattle.dsde_sim_tree.specs.given.language.Scopes.{Stands, Sees}
use Rattle.dsde_sound_names.specs.given.sound_expressions.Items as proper
use Rattle.dsde_sound_names.specs.given.sound_expressions.Places.{KnownAt}
use Rattle.dsde_sound_names.specs.given.executive_plans.placed_PlacedLink.{PlacedLink}
use Rattle.dsde_sound_names.specs.given.executive_plans.Layout.{most, vias_in, with_link, end_of, via_of, item_step}
use Rattle.dsde_sound_names.specs.given.executive_plans.Drafts.{end_at, via_at}
use Rattle.dsde_system.specs.Plans.{Joins}
use Rattle.dsde_sound_names.specs.given.sound_expressions.lemmas_Steps.{went, ok-is, unless-is}
use Rattle.dsde_sound_names.specs.given.sound_expressions.lemmas_Truths.{and-left, and-right}
use Rattle.dsde_sound_names.specs.given.sound_expressions.lemmas_Standing.{stands-left, stands-right}
use Rattle.dsde_sound_structures.proofs.Gets.{Gets, gets-own}
use Rattle.dsde_sound_structures.proofs.StructureGround.{Ground, Shows, part_in, shown, shows-ok, shows-over, shows-by}
use Rattle.dsde_sound_structures.proofs.ByFamily.{LinkBy, not-through}
use Rattle.dsde_sound_structures.proofs.Drawing.{draw-link}
use Rattle.dsde_sound_structures.proofs.StructureDoes.{Done, one_does, not-cut, nothing-widens}
use Rattle.dsde_sound_structures.proofs.Ends.{PlaceIs, EndIs, end-at, end-gets, part-scope, part-vias}
use Rattle.dsde_sound_structures.proofs.Vias.{via-gets}
use Rattle.dsde_sound_structures.proofs.StructureItems.{LinksDo}

module _ (Is : PlacedLink → Type 0) where
  links-snoc : (links : List PlacedLink) (own : PlacedLink) → AllByRecursion Is links → Is own → AllByRecursion Is (links ++ own ∷ [])
  links-snoc [] own all is = (is, tt)
  links-snoc (first ∷ links) own all is = (all.0, links-snoc links own all.1 is)

  link-if : (room : Bool) (at : ℕ) (links : List PlacedLink) → AllByRecursion Is links → Sound false (AllByRecursion Is) (if room then Ok links else Err (Fault TooManyLinks at))
  link-if true at links all = all
  link-if false at links all = refl

  -- one more link
  with-link-sound : (at : ℕ) (link : Link) (links : List PlacedLink) → Is (record { at = at; link = link }) → AllByRecursion Is links → Sound false (AllByRecursion Is) (with_link at link links)
  with-link-sound at link links is all = link-if (nat_lt (length links) most) at (links ++ record { at = at; link = link } ∷ []) (links-snoc links (record { at = at; link = link }) all is)

-- what an end and a translation leave
end-scope : (g : Ground) (is_source : Bool) (end : written.End) (slots : List Field) (next : Next) → (resolve_end g.place is_source end slots next).scope ≡ slots
end-scope g is_source end slots next = part-scope g.place.known end.part slots next

end-vias : (g : Ground) (is_source : Bool) (end : written.End) (slots : List Field) (next : Next) → (resolve_end g.place is_source end slots next).vias ≡ []
end-vias g is_source end slots next = ap (λ (l : List ViaCode). l ++ []) (part-vias g.place.known end.part slots next)

by-scope : (known : Known) (from : Ty) (via : ViaPart) (slots : List Field) (next : Next) → (maybe_via known from (Some via) slots next).scope ≡ slots
by-scope known from via slots next = key-scope via.key
  where
    key-scope : (key : Option _) → (via_by known from via key slots next).scope ≡ slots
    key-scope None = refl
    key-scope (Some key) = refl

via-scope : (known : Known) (from : Ty) (via : Option ViaPart) (slots : List Field) (next : Next) → (maybe_via known from via slots next).scope ≡ slots
via-scope known from None slots next = refl
via-scope known from (Some via) slots next = by-scope known from via slots next

by-count : (known : Known) (from : Ty) (via : ViaPart) (slots : List Field) (next : Next) → length (maybe_via known from (Some via) slots next).vias ≡ 1
by-count known from via slots next = key-count via.key
  where
    key-count : (key : Option _) → length ((via_by known from via key slots next).vias ++ []) ≡ 1
    key-count None = refl
    key-count (Some key) = refl

via-count : (known : Known) (from : Ty) (via : Option ViaPart) (slots : List Field) (next : Next) → length (maybe_via known from via slots next).vias ≡ vias_in via
via-count known from None slots next = refl
via-count known from (Some via) slots next = by-count known from via slots next

via-told : (via : Option ViaPart) → length (vias_there via) ≡ vias_in via
via-told None = refl
via-told (Some via) = refl

module _ (m : Model) (own : Own) (g : Ground) (is : PlaceIs m own g.site g.place) (known : KnownAt m g.site.around.known)
    (nodes_are : g.coded.nodes ≡ (resolved m).nodes) (codes_are : g.codes ≡ (resolved m).vias) (written_are : g.written ≡ vias_of m) (types_are : g.types ≡ types_of m)
    (are : (placed : PlacedLink) → LinkBy m own g.site.families placed → g.link_is placed) where
  abbrev E : Bool
  E = g.site.around.has_elapsed

  abbrev whole : Known
  whole = g.place.known

  abbrev around : Around
  around = g.site.around

  pub links-do : LinksDo g
  links-do at source target via = record {
    counts = λ slots next.
        let one = resolve_end g.place true source slots next in
        let next1 : Next = behind next one in
        let two = resolve_end g.place false target one.scope next1 in
        let next2 : Next = behind next1 two in
        let from : Ty = slot_type (end_ports g.place true source.part) source.port.name in
        let three = maybe_via whole from via two.scope next2 in
        ap (λ (l : List ViaCode). length (l ++ (two.vias ++ (three.vias ++ [])))) (end-vias g true source slots next)
        ∙ ap (λ (l : List ViaCode). length (l ++ (three.vias ++ []))) (end-vias g false target one.scope next1)
        ∙ ap (λ (l : List ViaCode). length l) (append-nil three.vias)
        ∙ via-count whole from via two.scope next2;
    told = via-told via;
    widens = record { grows = (nothing-widens g).grows };
    does = λ plain entered scope passed slots next h sees.
        let w1 = went (rule_structures.end_of g.site true source.part source.port scope) _ passed h in
        let w2 = went (rule_structures.end_of g.site false target.part target.port scope) _ passed w1.next in
        let w3 = went (unless (w1.value.is_net && w2.value.is_net) BadLink at) _ passed w2.next in
        let w4 = went (through around at w1.value.ty w2.value.ty via scope) _ passed w3.next in
        let apart : (w1.value.is_net && w2.value.is_net) ≡ false = unless-is (w1.value.is_net && w2.value.is_net) BadLink at w3.value w3.first in
        let height : ℕ = max w4.value (max w1.value.height w2.value.height) in
        let behind_it : Passed = record { scope = scope; height = above height } in
        let one = resolve_end g.place true source slots next in
        let next1 : Next = behind next one in
        let two = resolve_end g.place false target one.scope next1 in
        let next2 : Next = behind next1 two in
        let from : Ty = slot_type (end_ports g.place true source.part) source.port.name in
        let three = maybe_via whole from via two.scope next2 in
        let from_is : from ≡ w1.value.ty = (end-at m own g is true source.part source.port scope w1.value w1.first).typed in
        let same1 : one.scope ≡ slots = end-scope g true source slots next in
        let same2 : two.scope ≡ slots = end-scope g false target one.scope next1 ∙ same1 in
        let same3 : three.scope ≡ slots = via-scope whole from via two.scope next2 ∙ same2 in
        let none1 : length one.vias ≡ 0 = ap (λ (l : List ViaCode). length l) (end-vias g true source slots next) in
        let none2 : length two.vias ≡ 0 = ap (λ (l : List ViaCode). length l) (end-vias g false target one.scope next1) in
        let number : next2.via ≡ next.via = omega (arith, none1, none2) in
        let plain_source = and-left (proper.is_proper_end source) _ plain in
        let plain_target = and-left (proper.is_proper_end target) _ (and-right (proper.is_proper_end source) _ plain) in
        let plain_via = and-right (proper.is_proper_end target) (proper.is_proper_via via) (and-right (proper.is_proper_end source) _ plain) in
        subst (λ (p : Passed). Done g (one_does g) p slots next (nodes.item_step g.place (Item-F.Link at source target via) slots next) (vias_there via) (item_step g.place g.functions (Item-F.Link at source target via)))
        (ok-is behind_it passed w4.next)
        (record {
          more = [];
          grows = same3 ∙ sym (append-nil slots);
          sees = subst (λ (l : List Field). Sees E scope l) (sym same3) sees;
          shows = λ ready before kept.
              let low : height + 1 ≤ 512 = not-cut height ready.low in
              let code = ready.code in
              let code1 = stands-right g.coded.nodes next.node one.nodes (two.nodes ++ (three.nodes ++ [])) code in
              let code2 = stands-right g.coded.nodes next1.node two.nodes (three.nodes ++ []) code1 in
              let ways1 = stands-right g.codes next.via one.vias (two.vias ++ (three.vias ++ [])) ready.ways in
              let ways2 = stands-right g.codes next1.via two.vias (three.vias ++ []) ways1 in
              subst (λ (l : List Field). Shows g l ((item_step g.place g.functions (Item-F.Link at source target via)).run next.via before) (one_does g (nodes.item_step g.place (Item-F.Link at source target via) slots next).own (shown before))) (sym same3)
              (shows-by g slots _ _ _ (draw-link (part_in g) at one.own two.own three.own (shown before))
              (shows-over g (EndIs m own g is true w1.value) slots (end_of g.place g.functions true source before.vars) (end_at (part_in g) one.own (values_in before.vars)) _ _
              (end-gets m own g is scope slots sees before.vars kept.fits true source plain_source w1.value next w1.first
              (stands-left g.coded.nodes next.node one.nodes (two.nodes ++ (three.nodes ++ [])) code) (omega (arith, low)))
              (λ one_end one_is.
              shows-over g (EndIs m own g is false w2.value) slots (end_of g.place g.functions false target before.vars) (end_at (part_in g) two.own (values_in before.vars)) _ _
              (end-gets m own g is scope one.scope (subst (λ (l : List Field). Sees E scope l) (sym same1) sees) before.vars (subst (λ (l : List Field). Fits g.types before.vars l) (sym same1) kept.fits)
              false target plain_target w2.value next1 w2.first
              (stands-left g.coded.nodes next1.node two.nodes (three.nodes ++ []) code1) (omega (arith, low)))
              (λ two_end two_is.
              shows-over g (λ (via : Option Via). Joins m via w1.value.ty w2.value.ty) slots (via_of whole g.functions next.via via before.vars) (via_at (part_in g) three.own (values_in before.vars)) _ _
              (subst (λ (n : ℕ). Gets (λ (via : Option Via). Joins m via w1.value.ty w2.value.ty) (via_of whole g.functions n via before.vars) (via_at (part_in g) three.own (values_in before.vars))) number
              (via-gets m g is.known known nodes_are codes_are written_are types_are scope two.scope (subst (λ (l : List Field). Sees E scope l) (sym same2) sees) before.vars (subst (λ (l : List Field). Fits g.types before.vars l) (sym same2) kept.fits)
              w1.value.ty from w2.value.ty from_is at via next2 plain_via w4.value w4.first
              (stands-left g.coded.nodes next2.node three.nodes [] code2) (stands-left g.codes next2.via three.vias [] ways2)
              (subst (λ (n : ℕ). Stands g.written n (vias_there via)) (sym number) ready.words) (omega (arith, low))))
              (λ own_via joins.
              let link : Link = record { from = one_end; to = two_end; via = own_via } in
              let placed : PlacedLink = record { at = at; link = link } in
              let link_is : g.link_is placed = are placed (record {
                source = w1.value.ty;
                from = one_is.by;
                target = w2.value.ty;
                to = two_is.by;
                joins = joins;
                not_through = not-through one_end.part two_end.part w1.value.is_net w2.value.is_net apart one_is.net two_is.net;
              }) in
              shows-over g (AllByRecursion g.link_is) slots (with_link at link before.links) (with_link at link before.links) _ _
              (gets-own (AllByRecursion g.link_is) (with_link at link before.links) (with-link-sound g.link_is at link before.links link_is kept.links))
              (λ links all. shows-ok g slots (record before { links = links }) (record { fits = kept.fits; entries = kept.entries; links = all })))))));
        });
  }
