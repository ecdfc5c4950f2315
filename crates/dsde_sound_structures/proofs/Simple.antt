-- Components, links, names and `for`: their expressions stand.
use Rattle.std.proofs.Common.{◌≡◌, ℕ, ◌+◌, ◌≤◌, max, arith, Bool, true, false, ◌&&◌, List, [], ◌∷◌, ◌++◌, map, length, Option, Some, None, Result, Ok, refl, sym, ◌∙◌, ap, subst}
use Rattle.dsde_sim_tree.specs.given.syntax.expr_Expr.{Expr}
use Rattle.dsde_sim_tree.specs.given.syntax.id_Id.{Id}
use Rattle.dsde_sim_tree.specs.given.syntax.item_Bracket.{Bracket}
use Rattle.dsde_sim_tree.specs.given.syntax.item_End.{End}
use Rattle.dsde_sim_tree.specs.given.syntax.item_Item_TheOpen.{Item-F}
use Rattle.dsde_sim_tree.specs.given.syntax.item_ViaKey.{ViaKey}
use Rattle.dsde_sim_tree.specs.given.syntax.item_ViaPart.{ViaPart}
use Rattle.dsde_values.specs.declared.types.Field.{Field}
use Rattle.dsde_values.specs.declared.types.Ty.{Ty}
use Rattle.dsde_values.specs.declared.types.Ty.TheVariants as ty
use Rattle.dsde_sim_tree.specs.given.language.seen_Binding.{Binding}
use Rattle.dsde_sim_tree.specs.given.language.wrong_WrongKind_TheVariants.{BadLink}
use Rattle.dsde_sim_tree.specs.given.language.wrong_Wrong.{Wrong}
use Rattle.dsde_sim_tree.specs.given.language.Steps.{◌>>=◌, above, unless}
use Rattle.dsde_sim_tree.specs.given.language.Types.{item_type}
use Rattle.dsde_sim_tree.specs.given.language.Judge.{fresh, fixed, judge}
use Rattle.dsde_sim_tree.specs.given.language.Judge as rules
use Rattle.dsde_sim_tree.specs.given.language.Blocks.{Passed, Walk, walk_all, inner, var_kind}
use Rattle.dsde_sim_tree.specs.given.language.RuleStructures as rule_structures
use Rattle.dsde_sim_tree.specs.given.language.RuleStructures.{args_of, body_via, key_via, keyed_via, through}
use Rattle.dsde_sim_tree.specs.given.language.DeclaredModels.{model_id}
use Rattle.dsde_sim_tree.specs.given.language.Names.{with_slot}
use Rattle.dsde_sim_tree.specs.given.language.DeclaredStructures.{end_ports}
use Rattle.dsde_sim_tree.specs.given.language.make_Make.{Make}
use Rattle.dsde_sim_tree.specs.given.language.node_Node.{Node}
use Rattle.dsde_sim_tree.specs.given.language.Typing.{item_in, slot_type}
use Rattle.dsde_sim_tree.specs.given.language.Expressions.{resolve, expr_id}
use Rattle.dsde_sim_tree.specs.given.language.Items as nodes
use Rattle.dsde_sim_tree.specs.given.language.Items.{resolve_index, resolve_all, resolve_end, resolve_part, maybe_via, via_by}
use Rattle.dsde_sim_tree.specs.given.language.Pieces.{Next, Piece, Step, all, behind}
use Rattle.dsde_sim_tree.specs.given.language.Proper.{is_plain, is_proper, all_so}
use Rattle.dsde_sim_tree.specs.given.language.Scopes.{Stands, Sees}
use Rattle.dsde_sound_names.specs.given.sound_expressions.Items as proper
use Rattle.dsde_sound_names.specs.given.sound_expressions.lemmas_Steps.{went, ok-is}
use Rattle.dsde_sound_names.specs.given.sound_expressions.lemmas_Truths.{and-left, and-right}
use Rattle.dsde_sound_names.specs.given.sound_expressions.lemmas_Types.{item-is, item-in-list}
use Rattle.dsde_sound_names.specs.given.sound_expressions.lemmas_Standing.{stands-left, stands-right}
use Rattle.dsde_sound_names.specs.given.sound_expressions.lemmas_Fitting.{field_of}
use Rattle.dsde_sound_names.specs.given.sound_expressions.lemmas_Seeing.{sees-snoc, fresh-new, slot-behind}
use Rattle.dsde_sound_structures.specs.Numbers.{index_numbers, part_numbers, key_numbers, via_numbers, numbers_in}
use Rattle.dsde_sound_structures.specs.Spots.{Look, SpotsStand, spot_of, index_spots, part_spots, key_spots, via_spots, look_all, look_step}
use Rattle.dsde_sound_structures.proofs.Numbers.{numbers-comp, numbers-link, numbers-let, numbers-for}
use Rattle.dsde_sound_structures.proofs.MakeGround.{Ground, E, whole, around, table, expr-of, spots-append}
use Rattle.dsde_sound_structures.proofs.MakeParts.{Called, called-at, index-stands, args-stand, part-stands, index-scope, all-scope, part-scope}
use Rattle.dsde_sound_structures.proofs.MakeDoes.{Done, Does, AllDo, not-cut, walk-rises}

-- what a translation leaves
by-scope : (g : Ground) (from : Ty) (via : ViaPart) (slots : List Field) (next : Next) → (maybe_via (whole g) from (Some via) slots next).scope ≡ slots
by-scope g from via slots next = key-scope via.key
  where
    key-scope : (key : Option _) → (via_by (whole g) from via key slots next).scope ≡ slots
    key-scope None = refl
    key-scope (Some key) = refl

via-scope : (g : Ground) (from : Ty) (via : Option ViaPart) (slots : List Field) (next : Next) → (maybe_via (whole g) from via slots next).scope ≡ slots
via-scope g from None slots next = refl
via-scope g from (Some via) slots next = by-scope g from via slots next

module _ (g : Ground) where
  pub let-does : (name : Id) (e : Expr) → Does g (proper.item_step (Item-F.Let name e)) (rule_structures.item_step g.site (Item-F.Let name e)) (nodes.item_step g.place (Item-F.Let name e)) (look_step (whole g) (Item-F.Let name e))
  let-does name e = record {
    does = λ plain scope passed slots next h sees.
        let w1 = went (fresh (around g) name scope) _ passed h in
        let w2 = went (judge (around g) e scope) _ passed w1.next in
        let t : Ty = w2.value.ty in
        let own : Binding = record { name = name.name; ty = t; kind = var_kind false } in
        let behind : Passed = record { scope = scope ++ own ∷ []; height = above w2.value.height } in
        let code : List Node = (resolve (whole g) e).nodes slots next.node in
        let last : List Field = slots ++ field_of name.name t ∷ [] in
        let fair = and-right (is_plain name) (is_proper e) plain in
        let new = fresh-new (E g) scope slots sees (around g) name w1.value w1.first (and-left (is_plain name) (is_proper e) plain) in
        let same : with_slot slots name.name ((resolve (whole g) e).ty slots) ≡ last =
        ap (λ (own : Ty). with_slot slots name.name own) (g.types e scope slots w2.value fair w2.first sees) ∙ slot-behind slots name.name t new in
        subst (λ (p : Passed). Done g numbers_in p next (nodes.item_step g.place (Item-F.Let name e) slots next) (look_step (whole g) (Item-F.Let name e) slots))
        (ok-is behind passed w2.next)
        (record {
          same = refl;
          sees = subst (λ (s : List Field). Sees (E g) (scope ++ own ∷ []) s) (sym same) (sees-snoc (E g) scope slots sees own new);
          stand = λ stands low.
              let small : w2.value.height + 1 ≤ 512 = not-cut w2.value.height low in
              subst (λ l. SpotsStand g.model l (spot_of (whole g) slots e ∷ [])) (sym (numbers-let (expr_id next.node)))
              (expr-of g e scope slots w2.value next.node fair w2.first sees (stands-left (table g) next.node code [] stands) (omega (arith, small)), tt);
        });
  }

  pub for-does : (name : Id) (e : Expr) (P : List Bool) (J : List Walk) (R : List (Step Make)) (K : List Look) → AllDo g (all_so P) J (all R) (look_all K)
      → Does g (proper.item_step (Item-F.For name e P)) (rule_structures.item_step g.site (Item-F.For name e J)) (nodes.item_step g.place (Item-F.For name e R)) (look_step (whole g) (Item-F.For name e K))
  for-does name e P J R K body = record {
    does = λ plain scope passed slots next h sees.
        let w1 = went (fresh (around g) name scope) _ passed h in
        let w2 = went (judge (around g) e scope) _ passed w1.next in
        let w3 = went (item_type w2.value) _ passed w2.next in
        let t : Ty = w3.value in
        let more : rules.Scope = scope ++ fixed name t ∷ [] in
        let w4 = went (inner J w2.value.height more) _ passed w3.next in
        let w5 = went (walk_all J w2.value.height more) _ w4.value w4.first in
        let high : w5.value.height ≡ w4.value = ok-is w5.value.height w4.value w5.next in
        let rises : w2.value.height ≤ w5.value.height = walk-rises J w2.value.height more w5.value w5.first in
        let own : w2.value.ty ≡ ty.List t = item-is w2.value t w3.first in
        let behind : Passed = record { scope = scope; height = above w4.value } in
        let code : List Node = (resolve (whole g) e).nodes slots next.node in
        let next1 : Next = record next { node = next.node + length code } in
        let inside : List Field = with_slot slots name.name (item_in ((resolve (whole g) e).ty slots)) in
        let fair = and-left (is_proper e) (all_so P) (and-right (is_plain name) _ plain) in
        let new = fresh-new (E g) scope slots sees (around g) name w1.value w1.first (and-left (is_plain name) _ plain) in
        let same : inside ≡ slots ++ field_of name.name t ∷ [] =
        ap (λ (own : Ty). with_slot slots name.name own) (ap item_in (g.types e scope slots w2.value fair w2.first sees ∙ own) ∙ item-in-list t) ∙ slot-behind slots name.name t new in
        let sees2 : Sees (E g) more inside = subst (λ (s : List Field). Sees (E g) more s) (sym same) (sees-snoc (E g) scope slots sees (fixed name t) new) in
        let held : Piece (List Make) = all R inside next1 in
        let done = body.does (and-right (is_proper e) (all_so P) (and-right (is_plain name) _ plain)) w2.value.height more w5.value inside next1 w5.first sees2 in
        subst (λ (p : Passed). Done g numbers_in p next (nodes.item_step g.place (Item-F.For name e R) slots next) (look_step (whole g) (Item-F.For name e K) slots))
        (ok-is behind passed w4.next)
        (record {
          same = refl;
          sees = sees;
          stand = λ stands low.
              let small : w4.value + 1 ≤ 512 = not-cut w4.value low in
              subst (λ l. SpotsStand g.model l (spot_of (whole g) slots e ∷ (look_all K inside).spots)) (sym (numbers-for (expr_id next.node) held.own)) (
                expr-of g e scope slots w2.value next.node fair w2.first sees (stands-left (table g) next.node code (held.nodes ++ []) stands) (omega (arith, high, rises, small)),
                done.stand (stands-left (table g) next1.node held.nodes [] (stands-right (table g) next.node code (held.nodes ++ []) stands)) (omega (arith, high, small)),
              );
        });
  }

  pub comp-does : (at : ℕ) (name : Id) (index : Option Bracket) (soft : Bool) (model : Id) (args : List Expr)
      → Does g (proper.item_step (Item-F.Comp at name index soft model args)) (rule_structures.item_step g.site (Item-F.Comp at name index soft model args))
      (nodes.item_step g.place (Item-F.Comp at name index soft model args)) (look_step (whole g) (Item-F.Comp at name index soft model args))
  comp-does at name index soft model args = record {
    does = λ plain scope passed slots next h sees.
        let w1 = went (rule_structures.index_of (around g) index scope) _ passed h in
        let w2 = went (args_of (around g) model args scope) _ passed w1.next in
        let called : Called g model args scope w2.value = called-at g model args scope w2.value w2.first in
        let behind_it : Passed = record { scope = scope; height = above (max w1.value w2.value) } in
        let one = resolve_index (whole g) index slots next in
        let next1 : Next = behind next one in
        let two = resolve_all (whole g) args one.scope next1 in
        let same1 : one.scope ≡ slots = index-scope (whole g) index slots next in
        let same2 : two.scope ≡ slots = all-scope (whole g) args one.scope next1 ∙ same1 in
        let fair = and-right (is_plain name) _ plain in
        subst (λ (p : Passed). Done g numbers_in p next (nodes.item_step g.place (Item-F.Comp at name index soft model args) slots next) (look_step (whole g) (Item-F.Comp at name index soft model args) slots))
        (ok-is behind_it passed w2.next)
        (record {
          same = same2;
          sees = subst (λ (l : List Field). Sees (E g) scope l) (sym same2) sees;
          stand = λ stands low.
              let small : max w1.value w2.value + 1 ≤ 512 = not-cut (max w1.value w2.value) low in
              subst (λ l. SpotsStand g.model l (index_spots slots index ++ map (spot_of (whole g) slots) args)) (sym (numbers-comp at name.name one.own (model_id (whole g) model.name) two.own soft))
              (spots-append g.model (index_numbers one.own) two.own (index_spots slots index) (map (spot_of (whole g) slots) args)
              (index-stands g scope slots sees index (and-left (proper.is_proper_index index) _ fair) w1.value next w1.first
              (stands-left (table g) next.node one.nodes (two.nodes ++ []) stands) (omega (arith, small)))
              (subst (λ (l : List Field). SpotsStand g.model two.own (map (spot_of (whole g) l) args)) same1
              (args-stand g scope one.scope (subst (λ (l : List Field). Sees (E g) scope l) (sym same1) sees) args (and-right (proper.is_proper_index index) _ fair)
              called.sig.params 0 w2.value called.fits called.long (omega (arith, small)) next1
              (stands-left (table g) next1.node two.nodes [] (stands-right (table g) next.node one.nodes (two.nodes ++ []) stands)))));
        });
  }

  abbrev by_key : Ty → Ty → ViaPart → rules.Scope → Option ViaKey → Result ℕ Wrong
  by_key source target text scope key = elim key [
    | None ↦ fresh (around g) text.value scope >>= (λ _. body_via (around g) target text.body (fixed text.value source ∷ []))
    | Some key ↦ key_via (around g) source target text key scope
  ]

  -- the key of a translation
  key-stands : (scope : rules.Scope) (slots : List Field) (sees : Sees (E g) scope slots) (source target from : Ty) (text : ViaPart) (key : Option ViaKey) (next : Next) → proper.is_proper_key key ≡ true → (height : ℕ)
      → by_key source target text scope key ≡ Ok height → Stands (table g) next.node (via_by (whole g) from text key slots next).nodes → height ≤ 512
      → SpotsStand g.model (key_numbers (via_by (whole g) from text key slots next).own.key) (key_spots (whole g) slots key)
  key-stands scope slots sees source target from text None next fair height h stands low = tt
  key-stands scope slots sees source target from text (Some key) next fair height h stands low =
      let w1 = went (judge (around g) key.value scope) _ height h in
      let w2 = went (keyed_via (around g) source target text key w1.value.ty scope) _ height w1.next in
      let high : max w1.value.height w2.value ≡ height = ok-is (max w1.value.height w2.value) height w2.next in
      let code : List Node = (resolve (whole g) key.value).nodes slots next.node in (
        expr-of g key.value scope slots w1.value next.node (and-right (is_plain key.name) (is_proper key.value) fair) w1.first sees
            (stands-left (table g) next.node code _ stands) (omega (arith, high, low)),
        tt,
      )

  via-stands : (scope : rules.Scope) (slots : List Field) (sees : Sees (E g) scope slots) (at : ℕ) (source target from : Ty) (via : Option ViaPart) (next : Next) → proper.is_proper_via via ≡ true → (height : ℕ)
      → through (around g) at source target via scope ≡ Ok height → Stands (table g) next.node (maybe_via (whole g) from via slots next).nodes → height ≤ 512
      → SpotsStand g.model (via_numbers (maybe_via (whole g) from via slots next).own) (via_spots (whole g) slots via)
  via-stands scope slots sees at source target from None next fair height h stands low = tt
  via-stands scope slots sees at source target from (Some text) next fair height h stands low =
      key-stands scope slots sees source target from text text.key next (and-left (proper.is_proper_key text.key) (is_proper text.body) (and-right (is_plain text.value) _ fair)) height h
      (stands-left (table g) next.node (via_by (whole g) from text text.key slots next).nodes [] stands) low

  pub link-does : (at : ℕ) (source target : End) (via : Option ViaPart)
      → Does g (proper.item_step (Item-F.Link at source target via)) (rule_structures.item_step g.site (Item-F.Link at source target via))
      (nodes.item_step g.place (Item-F.Link at source target via)) (look_step (whole g) (Item-F.Link at source target via))
  link-does at source target via = record {
    does = λ plain scope passed slots next h sees.
        let w1 = went (rule_structures.end_of g.site true source.part source.port scope) _ passed h in
        let w2 = went (rule_structures.end_of g.site false target.part target.port scope) _ passed w1.next in
        let w3 = went (unless (w1.value.is_net && w2.value.is_net) BadLink at) _ passed w2.next in
        let w4 = went (through (around g) at w1.value.ty w2.value.ty via scope) _ passed w3.next in
        let height : ℕ = max w4.value (max w1.value.height w2.value.height) in
        let behind_it : Passed = record { scope = scope; height = above height } in
        let one = resolve_end g.place true source slots next in
        let next1 : Next = behind next one in
        let two = resolve_end g.place false target one.scope next1 in
        let next2 : Next = behind next1 two in
        let from : Ty = slot_type (end_ports g.place true source.part) source.port.name in
        let three = maybe_via (whole g) from via two.scope next2 in
        let same1 : one.scope ≡ slots = part-scope (whole g) source.part slots next in
        let same2 : two.scope ≡ slots = part-scope (whole g) target.part one.scope next1 ∙ same1 in
        let same3 : three.scope ≡ slots = via-scope g from via two.scope next2 ∙ same2 in
        let fair_source = and-left (proper.is_proper_end source) _ plain in
        let fair_target = and-left (proper.is_proper_end target) _ (and-right (proper.is_proper_end source) _ plain) in
        let fair_via = and-right (proper.is_proper_end target) (proper.is_proper_via via) (and-right (proper.is_proper_end source) _ plain) in
        let sees1 : Sees (E g) scope one.scope = subst (λ (l : List Field). Sees (E g) scope l) (sym same1) sees in
        let sees2 : Sees (E g) scope two.scope = subst (λ (l : List Field). Sees (E g) scope l) (sym same2) sees in
        subst (λ (p : Passed). Done g numbers_in p next (nodes.item_step g.place (Item-F.Link at source target via) slots next) (look_step (whole g) (Item-F.Link at source target via) slots))
        (ok-is behind_it passed w4.next)
        (record {
          same = same3;
          sees = subst (λ (l : List Field). Sees (E g) scope l) (sym same3) sees;
          stand = λ stands low.
              let small : height + 1 ≤ 512 = not-cut height low in
              let code1 = stands-right (table g) next.node one.nodes (two.nodes ++ (three.nodes ++ [])) stands in
              let code2 = stands-right (table g) next1.node two.nodes (three.nodes ++ []) code1 in
              let part1 = resolve_part (whole g) source.part slots next in
              let part2 = resolve_part (whole g) target.part one.scope next1 in
              subst (λ l. SpotsStand g.model l (part_spots slots source.part ++ (part_spots slots target.part ++ via_spots (whole g) slots via))) (sym (numbers-link at one.own two.own three.own))
              (spots-append g.model (part_numbers one.own.part) (part_numbers two.own.part ++ via_numbers three.own) (part_spots slots source.part) (part_spots slots target.part ++ via_spots (whole g) slots via)
              (part-stands g scope slots sees true source.part source.port fair_source w1.value next w1.first
              (stands-left (table g) next.node part1.nodes [] (stands-left (table g) next.node one.nodes (two.nodes ++ (three.nodes ++ [])) stands)) (omega (arith, small)))
              (spots-append g.model (part_numbers two.own.part) (via_numbers three.own) (part_spots slots target.part) (via_spots (whole g) slots via)
              (subst (λ (l : List Field). SpotsStand g.model (part_numbers two.own.part) (part_spots l target.part)) same1
              (part-stands g scope one.scope sees1 false target.part target.port fair_target w2.value next1 w2.first
              (stands-left (table g) next1.node part2.nodes [] (stands-left (table g) next1.node two.nodes (three.nodes ++ []) code1)) (omega (arith, small))))
              (subst (λ (l : List Field). SpotsStand g.model (via_numbers three.own) (via_spots (whole g) l via)) same2
              (via-stands scope two.scope sees2 at w1.value.ty w2.value.ty from via next2 fair_via w4.value w4.first
              (stands-left (table g) next2.node three.nodes [] code2) (omega (arith, small))))));
        });
  }
