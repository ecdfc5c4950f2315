-- `for` does in tables what it does over names.
use Rattle.std.proofs.Common.{◌≡◌, ◌+◌, ◌≤◌, arith, Bool, false, List, [], ◌∷◌, ◌++◌, length, sym, ◌∙◌, ap, subst, append-nil}
use Rattle.dsde_sim_tree.specs.given.syntax.id_Id.{Id}
use Rattle.dsde_sim_tree.specs.given.syntax.expr_Expr.{Expr}
use Rattle.dsde_sim_tree.specs.given.syntax.item_Item_TheOpen.{Item-F}
use Rattle.dsde_sim_tree.specs.given.syntax.item_ViaPart.{ViaPart}
use Rattle.dsde_values.specs.declared.types.Field.{Field}
use Rattle.dsde_values.specs.declared.types.Ty.{Ty}
use Rattle.dsde_values.specs.declared.types.Ty.TheVariants as ty
use Rattle.dsde_sim_tree.specs.given.language.known_Around.{Around}
use Rattle.dsde_sim_tree.specs.given.language.known_Known.{Known}
use Rattle.dsde_sim_tree.specs.given.language.Steps.{above}
use Rattle.dsde_sim_tree.specs.given.language.Types.{item_type}
use Rattle.dsde_sim_tree.specs.given.language.Judge.{fresh, fixed, judge}
use Rattle.dsde_sim_tree.specs.given.language.Judge as rules
use Rattle.dsde_sim_tree.specs.given.language.Blocks.{Passed, Walk, walk_all, inner}
use Rattle.dsde_sim_tree.specs.given.language.RuleStructures as rule_structures
use Rattle.dsde_sim_tree.specs.given.language.RuleStructures.{Enter, enter_all}
use Rattle.dsde_sim_tree.specs.given.language.code_ViaCode.{ViaCode}
use Rattle.dsde_sim_tree.specs.given.language.make_Make.{Make}
use Rattle.dsde_sim_tree.specs.given.language.node_Node.{Node}
use Rattle.dsde_sim_tree.specs.given.language.Names.{with_slot}
use Rattle.dsde_sim_tree.specs.given.language.Typing.{item_in}
use Rattle.dsde_sim_tree.specs.given.language.Expressions.{resolve, expr_id}
use Rattle.dsde_sim_tree.specs.given.language.Items as nodes
use Rattle.dsde_sim_tree.specs.given.language.Pieces.{Next, Piece, Step, all}
use Rattle.dsde_sim_tree.specs.given.language.Outcome.{items_of}
use Rattle.dsde_sim_tree.specs.given.language.Meaning.{mean}
use Rattle.dsde_sim_tree.specs.given.language.Proper.{is_plain, is_proper, all_so}
use Rattle.dsde_sim_tree.specs.given.language.Typed.{Typed, values_in}
use Rattle.dsde_sim_tree.specs.given.language.Scopes.{Sees}
use Rattle.dsde_sound_names.specs.given.sound_expressions.Items as proper
use Rattle.dsde_sim_tree.specs.given.language.DeclaredStructures as standing
use Rattle.dsde_sound_names.specs.given.executive_plans.Layout.{Lay, lay_all, item_step}
use Rattle.dsde_sound_names.specs.given.sound_expressions.lemmas_Values.{IsList, items-sound}
use Rattle.dsde_sound_names.specs.given.sound_expressions.lemmas_Types.{item-is, item-in-list}
use Rattle.dsde_sound_names.specs.given.sound_expressions.lemmas_Steps.{went, ok-is}
use Rattle.dsde_sound_names.specs.given.sound_expressions.lemmas_Truths.{and-left, and-right}
use Rattle.dsde_sound_names.specs.given.sound_expressions.lemmas_Standing.{stands-left, stands-right}
use Rattle.dsde_sound_names.specs.given.sound_expressions.lemmas_Fitting.{field_of}
use Rattle.dsde_sound_names.specs.given.sound_expressions.lemmas_Seeing.{sees-snoc, fresh-new, slot-behind}
use Rattle.dsde_sound_structures.proofs.Gets.{gets-own}
use Rattle.dsde_sound_structures.proofs.StructureGround.{Ground, part_in, shown, shows-over, shows-by}
use Rattle.dsde_sound_structures.proofs.Values.{value-gets}
use Rattle.dsde_sound_structures.proofs.Drawing.{draw-for}
use Rattle.dsde_sound_structures.proofs.StructureDoes.{Done, Does, AllDo, one_does, not-cut, behind_nodes}
use Rattle.dsde_sound_structures.proofs.Braces.{walk-rises, for-shows, joined_texts}

module _ (g : Ground) where
  abbrev E : Bool
  E = g.site.around.has_elapsed

  abbrev whole : Known
  whole = g.place.known

  abbrev around : Around
  around = g.site.around

  pub for-does : (name : Id) (e : Expr) (P : List Bool) (N : List Enter) (J : List Walk) (R : List (Step Make)) (V : List (List ViaPart)) (L : List Lay)
      → AllDo g (all_so P) (enter_all N) J (all R) (joined_texts V) (lay_all L)
      → Does g (proper.item_step (Item-F.For name e P)) (rule_structures.enter_step around.known (Item-F.For name e N)) (rule_structures.item_step g.site (Item-F.For name e J))
      (nodes.item_step g.place (Item-F.For name e R)) (standing.via_step (Item-F.For name e V)) (item_step g.place g.functions (Item-F.For name e L))
  for-does name e P N J R V L body = record {
    counts = λ slots next.
        let inside : List Field = with_slot slots name.name (item_in ((resolve whole e).ty slots)) in
        let next1 : Next = behind_nodes next (length ((resolve whole e).nodes slots next.node)) in
        ap (λ (l : List ViaCode). length l) (append-nil (all R inside next1).vias) ∙ body.counts inside next1;
    told = body.told;
    widens = record { grows = body.widens.grows };
    does = λ plain entered scope passed slots next h sees.
        let agrees = g.exprs e (and-left (is_proper e) (all_so P) (and-right (is_plain name) _ plain)) in
        let w1 = went (fresh around name scope) _ passed h in
        let w2 = went (judge around e scope) _ passed w1.next in
        let w3 = went (item_type w2.value) _ passed w2.next in
        let t : Ty = w3.value in
        let more : rules.Scope = scope ++ fixed name t ∷ [] in
        let w4 = went (inner J w2.value.height more) _ passed w3.next in
        let w5 = went (walk_all J w2.value.height more) _ w4.value w4.first in
        let high : w5.value.height ≡ w4.value = ok-is w5.value.height w4.value w5.next in
        let rises : w2.value.height ≤ w5.value.height = walk-rises J w2.value.height more w5.value w5.first in
        let own : w2.value.ty ≡ ty.List t = item-is w2.value t w3.first in
        let behind : Passed = record { scope = scope; height = above w4.value } in
        let code : List Node = (resolve whole e).nodes slots next.node in
        let next1 : Next = behind_nodes next (length code) in
        let last : List Field = slots ++ field_of name.name t ∷ [] in
        let inside : List Field = with_slot slots name.name (item_in ((resolve whole e).ty slots)) in
        let new = fresh-new E scope slots sees around name w1.value w1.first (and-left (is_plain name) _ plain) in
        let same : inside ≡ last =
        ap (λ (own : Ty). with_slot slots name.name own) (ap item_in (agrees.ty scope slots w2.value w2.first sees ∙ own) ∙ item-in-list t) ∙ slot-behind slots name.name t new in
        let sees2 : Sees E more inside = subst (λ (s : List Field). Sees E more s) (sym same) (sees-snoc E scope slots sees (fixed name t) new) in
        let held : Piece (List Make) = all R inside next1 in
        let done = body.does (and-right (is_proper e) (all_so P) (and-right (is_plain name) _ plain)) (record { found = entered.found; more = entered.more; is = entered.is; within = entered.within }) w2.value.height more w5.value inside next1 w5.first sees2 in
        subst (λ (p : Passed). Done g (one_does g) p slots next (nodes.item_step g.place (Item-F.For name e R) slots next) (standing.via_step (Item-F.For name e V)) (item_step g.place g.functions (Item-F.For name e L)))
        (ok-is behind passed w4.next)
        (record {
          more = [];
          grows = sym (append-nil slots);
          sees = sees;
          shows = λ ready before kept.
              let low : w4.value + 1 ≤ 512 = not-cut w4.value ready.low in
              shows-by g slots _ _ _ (draw-for (part_in g) (expr_id next.node) held.own (shown before))
              (shows-over g (Typed g.types w2.value.ty) slots (mean whole g.functions e before.vars) (part_in g (expr_id next.node) (values_in before.vars)) _ _
              (value-gets g scope slots sees before.vars kept.fits e (and-left (is_proper e) (all_so P) (and-right (is_plain name) _ plain)) w2.value next.node w2.first
              (stands-left g.coded.nodes next.node code (held.nodes ++ []) ready.code) (omega (arith, high, rises, low)))
              (λ v typed.
              shows-over g (IsList g.types t) slots (items_of v) (items_of v) _ _
              (gets-own (IsList g.types t) (items_of v) (items-sound g.types false v t (subst (λ (u : Ty). Typed g.types u v) own typed)))
              (λ items list.
              for-shows g w5.value slots inside name.name t same next1 held (joined_texts V) (lay_all L) done
              (record {
                code = stands-left g.coded.nodes next1.node held.nodes [] (stands-right g.coded.nodes next.node code (held.nodes ++ []) ready.code);
                ways = stands-left g.codes next.via held.vias [] ready.ways;
                words = ready.words;
                low = omega (arith, high, low);
              })
              items list.have before kept)));
        });
  }
