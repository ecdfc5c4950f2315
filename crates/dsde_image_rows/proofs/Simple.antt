-- Components, links, names and `for`.
use Rattle.std.proofs.Common.{◌≡◌, ℕ, max, pos, negsuc, ℤ, Bool, true, false, ◌&&◌, List, [], ◌∷◌, ◌++◌, map, Option, Some, None, Ok, refl, sym, subst}
use Rattle.dsde_syntax.specs.declared.expr.Expr.{Expr}
use Rattle.dsde_syntax.specs.declared.id.Id.{Id}
use Rattle.dsde_syntax.specs.declared.item.Bracket.{Bracket}
use Rattle.dsde_syntax.specs.declared.item.End.{End}
use Rattle.dsde_syntax.specs.declared.item.Item.TheOpen.{Item-F}
use Rattle.dsde_syntax.specs.declared.item.ViaPart.{ViaPart}
use Rattle.dsde_values.specs.declared.types.Field.{Field}
use Rattle.dsde_values.specs.declared.types.Ty.{Ty}
use Rattle.dsde_values.specs.declared.types.Ty.TheVariants as ty
use Rattle.dsde_values.specs.Path.{is_index}
use Rattle.dsde_values.specs.Value.{fits_int}
use Rattle.dsde_language.specs.declared.known.Around.{Around}
use Rattle.dsde_language.specs.declared.seen.Binding.{Binding}
use Rattle.dsde_language.specs.declared.wrong.WrongKind.TheVariants.{BadLink}
use Rattle.dsde_language.specs.Steps.{above, unless}
use Rattle.dsde_language.specs.Types.{wanted, item_type}
use Rattle.dsde_language.specs.Judge.{fresh, fixed, judge}
use Rattle.dsde_language.specs.Judge as rules
use Rattle.dsde_language.specs.Blocks.{Passed, Walk, walk_all, inner, var_kind}
use Rattle.dsde_language.specs.RuleStructures as rule_structures
use Rattle.dsde_language.specs.RuleStructures.{args_of, through}
use Rattle.dsde_language.specs.DeclaredModels.{model_id}
use Rattle.dsde_sim_movers.specs.given.structure.plan_Entry.{Entry}
use Rattle.dsde_language.specs.Outcome.{Outcome, int_of, items_of}
use Rattle.dsde_language.specs.Meaning.{Vars, mean, values_of, with_var}
use Rattle.dsde_language.specs.Proper.{is_plain, is_proper, all_so}
use Rattle.dsde_language.specs.Scopes.{Sees}
use Rattle.dsde_language.specs.Typed.{Typed, Fits}
use Rattle.dsde_sound_expressions.specs.Items as proper
use Rattle.dsde_sound_expressions.specs.Items.{is_proper_index}
use Rattle.dsde_sound_structures.specs.given.executive_plans.Layout.{Lay, lay_all, item_step, natural, index_of, end_of, via_of, with_entry, with_link}
use Rattle.dsde_sound_expressions.specs.lemmas.Outcomes.{sound-given}
use Rattle.dsde_sound_expressions.specs.lemmas.Values.{IsList, int-sound, items-sound}
use Rattle.dsde_sound_expressions.specs.lemmas.Types.{wanted-is, item-is}
use Rattle.dsde_sound_expressions.specs.lemmas.Steps.{went, ok-is}
use Rattle.dsde_sound_expressions.specs.lemmas.Truths.{and-left, and-right}
use Rattle.dsde_sound_expressions.specs.lemmas.Fitting.{field_of, fits-snoc}
use Rattle.dsde_sound_expressions.specs.lemmas.Seeing.{sees-snoc, fresh-new}
use Rattle.dsde_image_rows.proofs.Laid.{Ground, Kept, bound, as-in, entry-keeps}
use Rattle.dsde_image_rows.proofs.Does.{E, Done, Does, AllDo, same-done, for-keeps}

abbrev index_ok : Option ℕ → Outcome (Option ℕ)
index_ok own = Ok own

the-index : (one other : Option ℕ) → index_ok one ≡ Ok other → one ≡ other
the-index one other is = cc

-- a whole number that has 64 bits, as an index
natural-is : (at : ℕ) (number : ℤ) (own : Option ℕ) → fits_int number ≡ true → natural at number ≡ Ok own → is_index own ≡ true
natural-is at (pos number) own fits is = subst (λ (o : Option ℕ). is_index o ≡ true) (the-index (Some number) own is) fits
natural-is at (negsuc number) own fits is = absurd (cc is)

module _ (g : Ground) where
  abbrev around : Around
  around = g.site.around

  -- an index has 63 bits
  index-is : (index : Option Bracket) → is_proper_index index ≡ true → (height : ℕ) (scope : rules.Scope) (slots : List Field) → rule_structures.index_of around index scope ≡ Ok height
      → Sees (E g) scope slots → (vars : Vars) → Fits g.types vars slots → (own : Option ℕ) → index_of g.place.known g.functions index vars ≡ Ok own → is_index own ≡ true
  index-is None plain height scope slots h sees vars fits own is = subst (λ (o : Option ℕ). is_index o ≡ true) (the-index None own is) refl
  index-is (Some bracket) plain height scope slots h sees vars fits own is =
      let w1 = went (judge around bracket.value scope) _ height h in
      let w2 = went (wanted ty.Int w1.value) _ height w1.next in
      let whole : ty.Int ≡ w1.value.ty = wanted-is ty.Int w1.value w2.value w2.first in
      bound (is_index own ≡ true) (mean g.place.known g.functions bracket.value vars) _ own is (λ value meant later.
      bound (is_index own ≡ true) (int_of value) _ own later (λ number found last.
      natural-is bracket.at number own
      (sound-given false (λ (n : ℤ). fits_int n ≡ true) (int_of value) number
      (int-sound g.types false value (subst (λ (u : Ty). Typed g.types u value) (sym whole) (g.exprs bracket.value scope slots w1.value vars value plain w1.first sees fits meant))) found)
      last))

  pub comp-does : (at : ℕ) (name : Id) (index : Option Bracket) (soft : Bool) (model : Id) (args : List Expr)
      → Does g (proper.item_step (Item-F.Comp at name index soft model args)) (rule_structures.item_step g.site (Item-F.Comp at name index soft model args)) (item_step g.place g.functions (Item-F.Comp at name index soft model args))
  comp-does at name index soft model args = record {
    does = λ plain scope passed slots h sees.
        let w1 = went (rule_structures.index_of around index scope) _ passed h in
        let w2 = went (args_of around model args scope) _ passed w1.next in
        let behind : Passed = record { scope = scope; height = above (max w1.value w2.value) } in
        let own : Lay = item_step g.place g.functions (Item-F.Comp at name index soft model args) in
        subst (λ (p : Passed). Done g p slots own) (ok-is behind passed w2.next)
        (same-done g behind slots own sees (λ number before after kept is.
        bound (Kept g slots after) (index_of g.place.known g.functions index before.vars) _ after is (λ number_is found later.
        bound (Kept g slots after) (values_of [] (map (mean g.place.known g.functions) args) before.vars) _ after later (λ values _ third.
        let entry : Entry = record { name = record { stem = name.name; index = number_is }; model = model_id g.place.known model.name; args = values; soft = soft } in
        bound (Kept g slots after) (with_entry at entry before.entries) _ after third (λ entries made last.
        as-in g slots (record before { entries = entries }) after last
        (record {
          fits = kept.fits;
          entries = entry-keeps at entry before.entries entries
              (record {
                free = and-left (is_plain name) _ plain;
                index = index-is index (and-left (is_proper_index index) _ (and-right (is_plain name) _ plain)) w1.value scope slots w1.first sees before.vars kept.fits number_is found;
              })
              kept.entries made;
        }))))));
  }

  pub link-does : (at : ℕ) (source target : End) (via : Option ViaPart)
      → Does g (proper.item_step (Item-F.Link at source target via)) (rule_structures.item_step g.site (Item-F.Link at source target via)) (item_step g.place g.functions (Item-F.Link at source target via))
  link-does at source target via = record {
    does = λ plain scope passed slots h sees.
        let w1 = went (rule_structures.end_of g.site true source.part source.port scope) _ passed h in
        let w2 = went (rule_structures.end_of g.site false target.part target.port scope) _ passed w1.next in
        let w3 = went (unless (w1.value.is_net && w2.value.is_net) BadLink at) _ passed w2.next in
        let w4 = went (through around at w1.value.ty w2.value.ty via scope) _ passed w3.next in
        let behind : Passed = record { scope = scope; height = above (max w4.value (max w1.value.height w2.value.height)) } in
        let own : Lay = item_step g.place g.functions (Item-F.Link at source target via) in
        subst (λ (p : Passed). Done g p slots own) (ok-is behind passed w4.next)
        (same-done g behind slots own sees (λ number before after kept is.
        bound (Kept g slots after) (end_of g.place g.functions true source before.vars) _ after is (λ from _ second.
        bound (Kept g slots after) (end_of g.place g.functions false target before.vars) _ after second (λ to _ third.
        bound (Kept g slots after) (via_of g.place.known g.functions number via before.vars) _ after third (λ way _ fourth.
        bound (Kept g slots after) (with_link at (record { from = from; to = to; via = way }) before.links) _ after fourth (λ links _ last.
        as-in g slots (record before { links = links }) after last (record { fits = kept.fits; entries = kept.entries })))))));
  }

  pub let-does : (name : Id) (e : Expr)
      → Does g (proper.item_step (Item-F.Let name e)) (rule_structures.item_step g.site (Item-F.Let name e)) (item_step g.place g.functions (Item-F.Let name e))
  let-does name e = record {
    does = λ plain scope passed slots h sees.
        let w1 = went (fresh around name scope) _ passed h in
        let w2 = went (judge around e scope) _ passed w1.next in
        let t : Ty = w2.value.ty in
        let bound_name : Binding = record { name = name.name; ty = t; kind = var_kind false } in
        let behind : Passed = record { scope = scope ++ bound_name ∷ []; height = above w2.value.height } in
        let new = fresh-new (E g) scope slots sees around name w1.value w1.first (and-left (is_plain name) (is_proper e) plain) in
        let last : List Field = slots ++ field_of name.name t ∷ [] in
        let own : Lay = item_step g.place g.functions (Item-F.Let name e) in
        subst (λ (p : Passed). Done g p slots own) (ok-is behind passed w2.next)
        (record {
          last = last;
          more = field_of name.name t ∷ [];
          grows = refl;
          sees = sees-snoc (E g) scope slots sees bound_name new;
          keeps = λ number before after kept is.
              bound (Kept g last after) (mean g.place.known g.functions e before.vars) _ after is (λ value meant made.
              as-in g last (record before { vars = with_var name.name value before.vars }) after made
              (record {
                fits = fits-snoc g.types before.vars slots name.name t value kept.fits (g.exprs e scope slots w2.value before.vars value (and-right (is_plain name) (is_proper e) plain) w2.first sees kept.fits meant);
                entries = kept.entries;
              }));
        });
  }

  pub for-does : (name : Id) (e : Expr) (P : List Bool) (J : List Walk) (L : List Lay) → AllDo g (all_so P) J (lay_all L)
      → Does g (proper.item_step (Item-F.For name e P)) (rule_structures.item_step g.site (Item-F.For name e J)) (item_step g.place g.functions (Item-F.For name e L))
  for-does name e P J L body = record {
    does = λ plain scope passed slots h sees.
        let fair : (is_proper e && all_so P) ≡ true = and-right (is_plain name) _ plain in
        let w1 = went (fresh around name scope) _ passed h in
        let w2 = went (judge around e scope) _ passed w1.next in
        let w3 = went (item_type w2.value) _ passed w2.next in
        let t : Ty = w3.value in
        let more : rules.Scope = scope ++ fixed name t ∷ [] in
        let w4 = went (inner J w2.value.height more) _ passed w3.next in
        let w5 = went (walk_all J w2.value.height more) _ w4.value w4.first in
        let listed : w2.value.ty ≡ ty.List t = item-is w2.value t w3.first in
        let behind : Passed = record { scope = scope; height = above w4.value } in
        let new = fresh-new (E g) scope slots sees around name w1.value w1.first (and-left (is_plain name) _ plain) in
        let done = body.does (and-right (is_proper e) (all_so P) fair) w2.value.height more w5.value (slots ++ field_of name.name t ∷ []) w5.first (sees-snoc (E g) scope slots sees (fixed name t) new) in
        let own : Lay = item_step g.place g.functions (Item-F.For name e L) in
        subst (λ (p : Passed). Done g p slots own) (ok-is behind passed w4.next)
        (same-done g behind slots own sees (λ number before after kept is.
        bound (Kept g slots after) (mean g.place.known g.functions e before.vars) _ after is (λ value meant later.
        bound (Kept g slots after) (items_of value) _ after later (λ items found last.
        let typed : Typed g.types w2.value.ty value = g.exprs e scope slots w2.value before.vars value (and-left (is_proper e) (all_so P) fair) w2.first sees kept.fits meant in
        let are = sound-given false (IsList g.types t) (items_of value) items (items-sound g.types false value t (subst (λ (u : Ty). Typed g.types u value) listed typed)) found in
        for-keeps g w5.value slots name.name t (lay_all L) done items are.have number before after kept last))));
  }
