-- A binding does in tables what it does over names.
use Rattle.std.proofs.Common.{◌≡◌, ◌+◌, ◌≤◌, arith, Bool, false, List, [], ◌∷◌, ◌++◌, refl, sym, ◌∙◌, ap, subst}
use Rattle.dsde_sim_tree.specs.given.syntax.id_Id.{Id}
use Rattle.dsde_sim_tree.specs.given.syntax.expr_Expr.{Expr}
use Rattle.dsde_sim_tree.specs.given.syntax.item_Item_TheOpen.{Item-F}
use Rattle.dsde_values.specs.declared.types.Field.{Field}
use Rattle.dsde_values.specs.declared.types.Ty.{Ty}
use Rattle.dsde_values.specs.declared.value.Value.{Value}
use Rattle.dsde_sim_tree.specs.given.language.known_Known.{Known}
use Rattle.dsde_sim_tree.specs.given.language.known_Around.{Around}
use Rattle.dsde_sim_tree.specs.given.language.seen_Binding.{Binding}
use Rattle.dsde_sim_tree.specs.given.language.Steps.{above}
use Rattle.dsde_sim_tree.specs.given.language.Judge.{fresh, judge}
use Rattle.dsde_sim_tree.specs.given.language.Blocks.{Passed, var_kind}
use Rattle.dsde_sim_tree.specs.given.language.RuleStructures as rule_structures
use Rattle.dsde_sim_tree.specs.given.language.node_Node.{Node}
use Rattle.dsde_sim_tree.specs.given.language.Names.{with_slot}
use Rattle.dsde_sim_tree.specs.given.language.Expressions.{resolve, expr_id}
use Rattle.dsde_sim_tree.specs.given.language.Items as nodes
use Rattle.dsde_sim_tree.specs.given.language.Meaning.{mean, with_var}
use Rattle.dsde_sim_tree.specs.given.language.Proper.{is_plain, is_proper}
use Rattle.dsde_sim_tree.specs.given.language.Typed.{Typed, values_in}
use Rattle.dsde_sim_tree.specs.given.language.Scopes.{Sees}
use Rattle.dsde_sound_names.specs.given.sound_expressions.Items as proper
use Rattle.dsde_sim_tree.specs.given.language.DeclaredStructures as standing
use Rattle.dsde_sound_names.specs.given.executive_plans.Layout.{item_step}
use Rattle.dsde_sound_names.specs.given.executive_plans.Drafts.{draft_of}
use Rattle.dsde_sound_names.specs.given.sound_expressions.lemmas_Steps.{went, ok-is}
use Rattle.dsde_sound_names.specs.given.sound_expressions.lemmas_Truths.{and-left, and-right}
use Rattle.dsde_sound_names.specs.given.sound_expressions.lemmas_Standing.{stands-left}
use Rattle.dsde_sound_names.specs.given.sound_expressions.lemmas_Fitting.{field_of, fits-snoc, values-snoc}
use Rattle.dsde_sound_names.specs.given.sound_expressions.lemmas_Seeing.{sees-snoc, fresh-new, slot-behind}
use Rattle.dsde_sound_structures.proofs.StructureGround.{Ground, Shows, part_in, shown, shows-at, shows-over, shows-by}
use Rattle.dsde_sound_structures.proofs.Values.{value-gets}
use Rattle.dsde_sound_structures.proofs.Drawing.{draw-let}
use Rattle.dsde_sound_structures.proofs.StructureDoes.{Does, Done, not-cut, nothing-widens, one_does}

module _ (g : Ground) where
  abbrev E : Bool
  E = g.site.around.has_elapsed

  abbrev whole : Known
  whole = g.place.known

  abbrev around : Around
  around = g.site.around

  pub let-does : (name : Id) (e : Expr)
      → Does g (proper.item_step (Item-F.Let name e)) (rule_structures.enter_step around.known (Item-F.Let name e)) (rule_structures.item_step g.site (Item-F.Let name e))
      (nodes.item_step g.place (Item-F.Let name e)) (standing.via_step (Item-F.Let name e)) (item_step g.place g.functions (Item-F.Let name e))
  let-does name e = record {
    counts = λ slots next. refl;
    told = refl;
    widens = record { grows = (nothing-widens g).grows };
    does = λ plain entered scope passed slots next h sees.
        let w1 = went (fresh around name scope) _ passed h in
        let w2 = went (judge around e scope) _ passed w1.next in
        let t : Ty = w2.value.ty in
        let own : Binding = record { name = name.name; ty = t; kind = var_kind false } in
        let behind : Passed = record { scope = scope ++ own ∷ []; height = above w2.value.height } in
        let code : List Node = (resolve whole e).nodes slots next.node in
        let last : List Field = slots ++ field_of name.name t ∷ [] in
        let agrees = g.exprs e (and-right (is_plain name) (is_proper e) plain) in
        let new = fresh-new E scope slots sees around name w1.value w1.first (and-left (is_plain name) (is_proper e) plain) in
        let same : with_slot slots name.name ((resolve whole e).ty slots) ≡ last =
        ap (λ (own : Ty). with_slot slots name.name own) (agrees.ty scope slots w2.value w2.first sees) ∙ slot-behind slots name.name t new in
        subst (λ (p : Passed). Done g (one_does g) p slots next (nodes.item_step g.place (Item-F.Let name e) slots next) [] (item_step g.place g.functions (Item-F.Let name e)))
        (ok-is behind passed w2.next)
        (record {
          more = field_of name.name t ∷ [];
          grows = same;
          sees = subst (λ (s : List Field). Sees E (scope ++ own ∷ []) s) (sym same) (sees-snoc E scope slots sees own new);
          shows = λ ready before kept.
              let low : w2.value.height + 1 ≤ 512 = not-cut w2.value.height ready.low in
              subst (λ (s : List Field). Shows g s ((item_step g.place g.functions (Item-F.Let name e)).run next.via before) (one_does g (nodes.item_step g.place (Item-F.Let name e) slots next).own (shown before))) (sym same)
              (shows-by g last _ _ _ (draw-let (part_in g) (expr_id next.node) (shown before))
              (shows-over g (Typed g.types t) last (mean whole g.functions e before.vars) (part_in g (expr_id next.node) (values_in before.vars)) _ _
              (value-gets g scope slots sees before.vars kept.fits e (and-right (is_plain name) (is_proper e) plain) w2.value next.node w2.first
              (stands-left g.coded.nodes next.node code [] ready.code) (omega (arith, low)))
              (λ v typed.
              shows-at g last (record before { vars = with_var name.name v before.vars }) _
              (ap (λ (l : List Value). draft_of l before.entries before.links) (values-snoc before.vars name.name v))
              (record { fits = fits-snoc g.types before.vars slots name.name t v kept.fits typed; entries = kept.entries; links = kept.links }))));
        });
  }
