-- The translation of a link is in tables what it is over names.
use Rattle.std.proofs.Common.{◌≡◌, ℕ, ◌+◌, ◌≤◌, max, arith, Bool, true, false, not, ◌||◌, List, [], ◌∷◌, ◌++◌, length, Option, Some, None, is_some, Ok, refl, sym, ◌∙◌, ap, subst, slice_get}
use Rattle.std.specs.Str.{bytes_eq}
use Rattle.std.proofs.lemmas.Bool.{not-false}
use Rattle.dsde_sim_tree.specs.given.names.Table.{is_among}
use Rattle.dsde_sim_tree.specs.given.syntax.decl_Model.{Model}
use Rattle.dsde_sim_tree.specs.given.syntax.expr_Expr.{Expr}
use Rattle.dsde_sim_tree.specs.given.syntax.id_Id.{Id}
use Rattle.dsde_sim_tree.specs.given.syntax.item_ViaKey.{ViaKey}
use Rattle.dsde_sim_tree.specs.given.syntax.item_ViaPart.{ViaPart}
use Rattle.dsde_values.specs.declared.types.Field.{Field}
use Rattle.dsde_values.specs.declared.types.Ty.{Ty}
use Rattle.dsde_values.specs.declared.types.Ty.TheVariants as ty
use Rattle.dsde_values.specs.declared.value.Value.{Value}
use Rattle.dsde_sim_tree.specs.given.language.known_Around.{Around}
use Rattle.dsde_sim_tree.specs.given.language.known_Known.{Known}
use Rattle.dsde_sim_tree.specs.given.language.seen_Binding.{Binding}
use Rattle.dsde_sim_tree.specs.given.language.wrong_WrongKind_TheVariants.{Duplicate, WrongType}
use Rattle.dsde_sim_tree.specs.given.language.Steps.{apart, unless}
use Rattle.dsde_sim_tree.specs.given.language.RuleTables.{binding_name, field_name}
use Rattle.dsde_sim_tree.specs.given.language.Types.{same, wanted}
use Rattle.dsde_sim_tree.specs.given.language.Judge.{fresh, unbound, fixed, judge}
use Rattle.dsde_sim_tree.specs.given.language.Judge as rules
use Rattle.dsde_sim_tree.specs.given.language.RuleStructures as rule_structures
use Rattle.dsde_sim_tree.specs.given.language.RuleStructures.{through, translating, body_via}
use Rattle.dsde_sim_tree.specs.given.language.code_ViaCode.{ViaCode}
use Rattle.dsde_sim_tree.specs.given.language.node_Node.{Node}
use Rattle.dsde_sim_tree.specs.given.language.Expressions.{resolve, expr_id}
use Rattle.dsde_sim_tree.specs.given.language.Items.{maybe_via}
use Rattle.dsde_sim_tree.specs.given.language.DeclaredModels.{whole_of, types_of}
use Rattle.dsde_sim_tree.specs.given.language.NodeModels.{resolved}
use Rattle.dsde_sim_tree.specs.given.language.Pieces.{Next}
use Rattle.dsde_sim_tree.specs.given.language.Names.{with_slot}
use Rattle.dsde_sim_tree.specs.given.structure.plan_Via.{Via}
use Rattle.dsde_sim_tree.specs.given.language.Meaning.{Vars, mean}
use Rattle.dsde_sim_tree.specs.given.language.Proper.{is_plain, is_proper}
use Rattle.dsde_sim_tree.specs.given.language.Typed.{Typed, Fits, values_in}
use Rattle.dsde_sim_tree.specs.given.language.Scopes.{Stands, Sees}
use Rattle.dsde_sound_names.specs.given.sound_expressions.Items.{is_proper_key, is_proper_via}
use Rattle.dsde_sound_names.specs.given.sound_expressions.Places.{KnownAt, IsExpr}
use Rattle.dsde_sim_tree.specs.given.language.DeclaredStructures.{vias_of, vias_there}
use Rattle.dsde_sound_names.specs.given.executive_plans.Layout.{via_of, key_of}
use Rattle.dsde_sound_names.specs.given.executive_plans.Drafts.{via_at, key_at}
use Rattle.dsde_sound_names.specs.given.sound_expressions.Conditions.{IsVia}
use Rattle.dsde_system.specs.Plans.{IsKey, Joins}
use Rattle.dsde_sound_names.specs.given.sound_expressions.lemmas_Steps.{went, ok-is, unless-is}
use Rattle.dsde_sound_names.specs.given.sound_expressions.lemmas_Truths.{and-left, and-right, or-right}
use Rattle.dsde_sound_names.specs.given.sound_expressions.lemmas_Types.{same-true, wanted-is}
use Rattle.dsde_sound_names.specs.given.sound_expressions.lemmas_Places.{among-snoc}
use Rattle.dsde_sound_names.specs.given.sound_expressions.lemmas_Standing.{stands-head, stands-left, stands-right}
use Rattle.dsde_sound_names.specs.given.sound_expressions.lemmas_Fitting.{field_of}
use Rattle.dsde_sound_names.specs.given.sound_expressions.lemmas_Seeing.{sees-snoc, slot-behind}
use Rattle.dsde_sound_structures.proofs.Gets.{Gets, gets-ok, gets-then}
use Rattle.dsde_sound_structures.proofs.StructureGround.{Ground, part_in}
use Rattle.dsde_sound_structures.proofs.Values.{value-gets}

-- no name is seen over no slot
nothing-seen : Sees false [] []
nothing-seen = record {
  seen = λ name bound h. absurd (cc h);
  unseen = λ name h other. refl;
  elapsed = λ h. absurd (cc h);
}

-- A name behind another in scope differs from it.
fresh-other : (around : Around) (id : Id) (scope : rules.Scope) (own : Binding) (u : Unit {0}) → fresh around id (scope ++ own ∷ []) ≡ Ok u → is_among field_name (field_of own.name own.ty ∷ []) id.name ≡ false
fresh-other around id scope own u h =
    let w1 = went (apart around.reserved id) (λ _. unbound (scope ++ own ∷ []) id) u h in
    let new : is_among binding_name (scope ++ own ∷ []) id.name ≡ false = unless-is (is_among binding_name (scope ++ own ∷ []) id.name) Duplicate id.at u w1.next in
    or-right (is_among binding_name scope id.name) (bytes_eq own.name id.name || false) (sym (among-snoc binding_name scope own id.name) ∙ new)

module _ (m : Model) (g : Ground) (whole_is : g.place.known ≡ whole_of m) (known : KnownAt m g.site.around.known)
    (nodes_are : g.coded.nodes ≡ (resolved m).nodes) (codes_are : g.codes ≡ (resolved m).vias) (written_are : g.written ≡ vias_of m) (types_are : g.types ≡ types_of m) where
  abbrev whole : Known
  whole = g.place.known

  abbrev around : Around
  around = g.site.around

  -- the body of a translation, over what it sees
  body-is : (body : Expr) (names : rules.Scope) (slots : List Field) (target : Ty) (height number : ℕ) → is_proper body ≡ true
      → body_via around target body names ≡ Ok height → height ≤ 512 → Sees false names slots → Stands g.coded.nodes number ((resolve whole body).nodes slots number)
      → IsExpr m true slots number body (ty.Opt target)
  body-is body names slots target height number proper h low sees stands =
      let w1 = went (judge (translating around) body names) _ height h in
      let w2 = went (wanted (ty.Opt target) w1.value) _ height w1.next in
      let high : w1.value.height ≡ height = ok-is w1.value.height height w2.next in
      record {
        around = translating around;
        scope = names;
        found = w1.value;
        known = known;
        is_total = refl;
        proper = proper;
        judged = w1.first;
        of = sym (wanted-is (ty.Opt target) w1.value w2.value w2.first);
        low = omega (arith, high, low);
        sees = sees;
        stands = subst (λ (k : Known). Stands (resolved m).nodes number ((resolve k body).nodes slots number)) whole_is
            (subst (λ (l : List Node). Stands l number ((resolve whole body).nodes slots number)) nodes_are stands);
      }

  code-is : (number : ℕ) (key : Bool) (slots : List Field) (body : Expr) (target : Ty) (start : ℕ) → Stands g.codes number (record { key = key; body = expr_id start } ∷ [])
      → IsExpr m true slots start body (ty.Opt target) → IsVia m number key slots body target
  code-is number key slots body target start stands own =
      let code : ViaCode = record { key = key; body = expr_id start } in
      record {
        code = code;
        coded = ap (λ (l : List ViaCode). slice_get l number) (sym codes_are) ∙ stands-head g.codes number code [] stands;
        keyed = refl;
        is = own;
      }

  text-is : (number : ℕ) (text : ViaPart) → Stands g.written number (text ∷ []) → slice_get (vias_of m) number ≡ Some text
  text-is number text stands = ap (λ (l : List ViaPart). slice_get l number) (sym written_are) ∙ stands-head g.written number text [] stands

  -- A key that has its type is there.
  key-there : (key : ViaKey) (t : Ty) (found : Option Value) → IsKey g.types (Some key) found t → (number : ℕ) (seen : List Field) (body : Expr) (target : Ty)
      → IsVia m number true seen body target → IsVia m number (is_some found) seen body target
  key-there key t None has number seen body target own = absurd has
  key-there key t (Some v) has number seen body target own = own

  module _ (scope : rules.Scope) (slots : List Field) (sees : Sees around.has_elapsed scope slots) (vars : Vars) (fits : Fits g.types vars slots) where
    keyed-gets : (source from target : Ty) → from ≡ source → (value : Id) (key : Option ViaKey) (body : Expr) (number : ℕ) (next : Next)
        → is_proper_via (Some (record { value = value; key = key; body = body })) ≡ true → (height : ℕ)
        → through around number source target (Some (record { value = value; key = key; body = body })) scope ≡ Ok height
        → Stands g.coded.nodes next.node (maybe_via whole from (Some (record { value = value; key = key; body = body })) slots next).nodes
        → Stands g.codes next.via (maybe_via whole from (Some (record { value = value; key = key; body = body })) slots next).vias
        → Stands g.written next.via (record { value = value; key = key; body = body } ∷ []) → height ≤ 512
        → Gets (λ (own : Option Via). Joins m own source target) (via_of whole g.functions next.via (Some (record { value = value; key = key; body = body })) vars)
        (via_at (part_in g) (maybe_via whole from (Some (record { value = value; key = key; body = body })) slots next).own (values_in vars))
    keyed-gets source from target same value None body at next proper height h stands ways words low =
        let text : ViaPart = record { value = value; key = None; body = body } in
        let w1 = went (fresh around value scope) _ height h in
        let seen : List Field = field_of value.name source ∷ [] in
        let code : List Node = (resolve whole body).nodes (field_of value.name from ∷ []) next.node in
        let plain = and-right (is_plain value) _ proper in
        let sees_value : Sees false (fixed value source ∷ []) seen = sees-snoc false [] [] nothing-seen (fixed value source) refl in
        let here : Stands g.coded.nodes next.node ((resolve whole body).nodes seen next.node) =
        subst (λ (t : Ty). Stands g.coded.nodes next.node ((resolve whole body).nodes (field_of value.name t ∷ []) next.node)) same
        (stands-left g.coded.nodes next.node code [] stands) in
        let via : Via = record { id = record { 0 = next.via }; key = None } in
        gets-ok (λ (own : Option Via). Joins m own source target) (Some via)
        (record {
          text = text;
          found = text-is next.via text words;
          key_ty = ty.Int;
          key = tt;
          is = code-is next.via false seen body target next.node ways
              (body-is body (fixed value source ∷ []) seen target height next.node plain w1.next low sees_value here);
        })
    keyed-gets source from target same value (Some key) body at next proper height h stands ways words low =
        let text : ViaPart = record { value = value; key = Some key; body = body } in
        let w1 = went (judge around key.value scope) _ height h in
        let t : Ty = w1.value.ty in
        let w2 = went (rule_structures.keyed_via around source target text key t scope) _ height w1.next in
        let w3 = went (fresh around value scope) _ w2.value w2.first in
        let w4 = went (fresh around key.name (scope ++ fixed value source ∷ [])) _ w2.value w3.next in
        let high : max w1.value.height w2.value ≡ height = ok-is (max w1.value.height w2.value) height w2.next in
        let agrees = g.exprs key.value (and-right (is_plain key.name) (is_proper key.value) (and-left (is_proper_key (Some key)) (is_proper body) (and-right (is_plain value) _ proper))) in
        let given : Ty = (resolve whole key.value).ty slots in
        let typed : given ≡ t = agrees.ty scope slots w1.value w1.first sees in
        let code : List Node = (resolve whole key.value).nodes slots next.node in
        let start : ℕ = next.node + length code in
        let seen : List Field = field_of value.name source ∷ field_of key.name.name t ∷ [] in
        let new : is_among field_name (field_of value.name source ∷ []) key.name.name ≡ false = fresh-other around key.name scope (fixed value source) w4.value w4.first in
        let names : List Field = with_slot (with_slot [] value.name from) key.name.name given in
        let names_are : names ≡ seen =
        ap (λ (u : Ty). with_slot (field_of value.name u ∷ []) key.name.name given) same
        ∙ slot-behind (field_of value.name source ∷ []) key.name.name given new
        ∙ ap (λ (u : Ty). field_of value.name source ∷ field_of key.name.name u ∷ []) typed in
        let own : List Node = (resolve whole body).nodes names start in
        let sees_value : Sees false (fixed value source ∷ []) (field_of value.name source ∷ []) = sees-snoc false [] [] nothing-seen (fixed value source) refl in
        let sees_both : Sees false (fixed value source ∷ fixed key.name t ∷ []) seen = sees-snoc false (fixed value source ∷ []) (field_of value.name source ∷ []) sees_value (fixed key.name t) new in
        let plain = and-right (is_proper_key (Some key)) (is_proper body) (and-right (is_plain value) _ proper) in
        let there : Stands g.coded.nodes next.node (code ++ own) = stands-left g.coded.nodes next.node (code ++ own) [] stands in
        let here : Stands g.coded.nodes start ((resolve whole body).nodes seen start) =
        subst (λ (l : List Field). Stands g.coded.nodes start ((resolve whole body).nodes l start)) names_are (stands-right g.coded.nodes next.node code own there) in
        gets-then (λ (own : Option Value). IsKey g.types (Some key) own t) (λ (own : Option Via). Joins m own source target) (key_of whole g.functions (Some key) vars) (key_at (part_in g) (Some (expr_id next.node)) (values_in vars)) _ _
        (gets-then (Typed g.types t) (λ (own : Option Value). IsKey g.types (Some key) own t) (mean whole g.functions key.value vars) (part_in g (expr_id next.node) (values_in vars)) _ _
        (value-gets g scope slots sees vars fits key.value (and-right (is_plain key.name) (is_proper key.value) (and-left (is_proper_key (Some key)) (is_proper body) (and-right (is_plain value) _ proper))) w1.value next.node w1.first
        (stands-left g.coded.nodes next.node code own there) (omega (arith, high, low)))
        (λ v has. gets-ok (λ (own : Option Value). IsKey g.types (Some key) own t) (Some v) has))
        (λ found has.
        gets-ok (λ (own : Option Via). Joins m own source target) (Some (record { id = record { 0 = next.via }; key = found }))
        (record {
          text = text;
          found = text-is next.via text words;
          key_ty = t;
          key = subst (λ types. IsKey types (Some key) found t) types_are has;
          is = key-there key t found has next.via seen body target (code-is next.via true seen body target start ways
              (body-is body (fixed value source ∷ fixed key.name t ∷ []) seen target w2.value start plain w4.next (omega (arith, high, low)) sees_both here));
        }))

    pub via-gets : (source from target : Ty) → from ≡ source → (at : ℕ) (via : Option ViaPart) (next : Next) → is_proper_via via ≡ true → (height : ℕ)
        → through around at source target via scope ≡ Ok height
        → Stands g.coded.nodes next.node (maybe_via whole from via slots next).nodes → Stands g.codes next.via (maybe_via whole from via slots next).vias
        → Stands g.written next.via (vias_there via) → height ≤ 512
        → Gets (λ (own : Option Via). Joins m own source target) (via_of whole g.functions next.via via vars) (via_at (part_in g) (maybe_via whole from via slots next).own (values_in vars))
    via-gets source from target same_from at None next proper height h stands ways words low =
        let w1 = went (unless (not (same source target)) WrongType at) _ height h in
        gets-ok (λ (own : Option Via). Joins m own source target) None
        (same-true source target (not-false (same source target) (unless-is (not (same source target)) WrongType at w1.value w1.first)))
    via-gets source from target same_from at (Some via) next proper height h stands ways words low =
        keyed-gets source from target same_from via.value via.key via.body at next proper height h stands ways words low
