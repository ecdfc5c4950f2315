-- Chains of operators and of suffixes.
use Rattle.std.proofs.Common.{◌≡◌, ℕ, max, Bool, true, List, [], ◌∷◌, map, Some, Ok, refl, sym, ◌∙◌, ap, subst}
use Rattle.dsde_language.specs.given.syntax.expr_Expr_TheOpen.{Suffix-F}
use Rattle.dsde_language.specs.given.syntax.id_Id.{Id}
use Rattle.dsde_language.specs.given.syntax.token_Sign.{Sign}
use Rattle.dsde_language.specs.given.values.types_Field.{Field}
use Rattle.dsde_language.specs.given.values.types_Ty.{Ty}
use Rattle.dsde_language.specs.given.values.types_Ty_TheVariants as ty
use Rattle.dsde_language.specs.given.values.types_Types.{Types}
use Rattle.dsde_language.specs.given.values.value_Value.{Value}
use Rattle.dsde_language.specs.declared.known.Around.{Around}
use Rattle.dsde_language.specs.declared.known.Known.{Known}
use Rattle.dsde_language.specs.declared.seen.Seen.{Seen}
use Rattle.dsde_language.specs.Types.{wanted, item_type, held_type}
use Rattle.dsde_language.specs.Judge as rules
use Rattle.dsde_language.specs.Judge.{Scope, Judge, chain, links_from, operand, total, sign_may_fault, field_of, fields_at}
use Rattle.dsde_language.specs.declared.operator.Binary.{Binary}
use Rattle.dsde_language.specs.declared.operator.Binary.TheVariants as binary
use Rattle.dsde_language.specs.declared.node.Node.TheVariants as node
use Rattle.dsde_language.specs.Typing.{field_number, field_type, item_in, held_in}
use Rattle.dsde_language.specs.Expressions as nodes
use Rattle.dsde_language.specs.DeclaredOperators.{nested, sign_binary}
use Rattle.dsde_language.specs.Expressions.{Resolved, over_one}
use Rattle.dsde_language.specs.Outcome.{Outcome, ◌>>=◌}
use Rattle.dsde_language.specs.MeaningOperators.{combined, unwrapped, indexed}
use Rattle.dsde_language.specs.Meaning as meaning
use Rattle.dsde_language.specs.Meaning.{Mean, field_named}
use Rattle.dsde_language.specs.MeaningTables.{Coded, field_at}
use Rattle.dsde_language.specs.Typed.{Typed, Sound}
use Rattle.dsde_language.specs.Scopes.{Sees, Within}
use Rattle.dsde_sound_expressions.specs.lemmas.Steps.{went, ok-is}
use Rattle.dsde_sound_expressions.specs.lemmas.Types.{wanted-is, item-is, held-is, item-in-list, held-in-opt}
use Rattle.dsde_sound_expressions.proofs.At.{Ground, ground, At, at-typed, at-seen, made-is, never-total, one-at, two-at}
use Rattle.dsde_sound_expressions.proofs.Operators.{Fine, or-sound, and-sound, unwrapped-sound, indexed-sound}
use Rattle.dsde_sound_expressions.proofs.Signs.{Takes, makes, is_operator}
use Rattle.dsde_sound_expressions.proofs.Fields.{FieldIs, field-is, FieldValue, field-value, field-type, whole-fields}
use Rattle.dsde_sound_expressions.proofs.Parts.{Agreed}

-- a link of a chain, over whatever stands before it
pub record LinkAgreed (g : Ground) (has : Bool) (j : rules.Link) (r : nodes.Link) (m : meaning.On) : Type 0 where
  pub link : (scope : Scope) (slots : List Field) (left found : Seen) (before : Resolved) (meant : Mean) → j left scope ≡ Ok found → Sees has scope slots
      → At g before meant slots left.ty left.height → At g (r before) (m meant) slots found.ty found.height

module _ {Y X : Type 0} (g : Ground) (has : Bool) (f : Y → X) (J : X → rules.Link) (R : X → nodes.Link) (M : X → meaning.On) (agreed : (y : Y) → LinkAgreed g has (J (f y)) (R (f y)) (M (f y))) where
  nested-at : (ys : List Y) (scope : Scope) (slots : List Field) (left found : Seen) (before : Resolved) (meant : Mean) → links_from left (map J (map f ys)) scope ≡ Ok found → Sees has scope slots
      → At g before meant slots left.ty left.height → At g (nested before (map R (map f ys))) (nested meant (map M (map f ys))) slots found.ty found.height
  nested-at [] scope slots left found before meant h sees p = subst (λ (s : Seen). At g before meant slots s.ty s.height) (ok-is left found h) p
  nested-at (y ∷ ys) scope slots left found before meant h sees p =
      let w = went (J (f y) left scope) _ found h in
      nested-at ys scope slots w.value found (R (f y) before) (M (f y) meant) w.next sees ((agreed y).link scope slots left w.value before meant w.first sees p)

  pub chain-agreed : (ys : List Y) (j : Judge) (r : Resolved) (m : Mean) → Agreed g has j r m → Agreed g has (chain j (map J (map f ys))) (nested r (map R (map f ys))) (nested m (map M (map f ys)))
  chain-agreed ys j r m p = record {
    holds = λ scope slots found h sees.
        let w = went (j scope) _ found h in
        nested-at ys scope slots w.value found r m w.next sees (p.holds scope slots w.value w.first sees);
  }

module _ (types : Types) (coded : Coded) (around : Around) (whole : Known) where
  abbrev g : Ground
  g = ground types coded around

  abbrev has : Bool
  has = around.has_elapsed

  abbrev Sounds : Binary → ℕ → Type 0
  Sounds which at = (v : Value) (x : Outcome Value) → Typed types ty.Bool v → Fine types around.is_total ty.Bool x → Fine types around.is_total ty.Bool (combined which at v x)

  -- "or" and "and"
  pub tail-agreed : (which : Binary) (at : ℕ) (j : Judge) (r : Resolved) (m : Mean) → Sounds which at → Agreed g has j r m
      → LinkAgreed g has (rules.tail_step (record { at = at; value = j })) (nodes.tail_step which (record { at = at; value = r })) (meaning.tail_step (record { at = at; value = m }) which)
  tail-agreed which at j r m sounds q = record {
    link = λ scope slots left found before meant h sees p.
        let w1 = went (wanted ty.Bool left) _ found h in
        let w2 = went (j scope) _ found w1.next in
        let w3 = went (wanted ty.Bool w2.value) _ found w2.next in
        let one = at-typed g before meant slots left.ty ty.Bool left.height (sym (wanted-is ty.Bool left w1.value w1.first)) p in
        let two = at-typed g r m slots w2.value.ty ty.Bool w2.value.height (sym (wanted-is ty.Bool w2.value w3.value w3.first)) (q.holds scope slots w2.value w2.first sees) in
        at-seen g (nodes.tail_step which (record { at = at; value = r }) before) (meaning.tail_step (record { at = at; value = m }) which meant) slots ty.Bool (max left.height w2.value.height) at found w3.next
        (two-at g before r (λ scope. ty.Bool) meant m slots ty.Bool ty.Bool ty.Bool left.height w2.value.height (node.Binary which at) (λ v x. combined which at v x) refl (λ all a b values. refl) sounds one two);
  }

  pub or-agreed : (at : ℕ) (j : Judge) (r : Resolved) (m : Mean) → Agreed g has j r m
      → LinkAgreed g has (rules.tail_step (record { at = at; value = j })) (nodes.tail_step binary.Or (record { at = at; value = r })) (meaning.tail_step (record { at = at; value = m }) binary.Or)
  or-agreed at j r m q = tail-agreed binary.Or at j r m (or-sound types around.is_total at) q

  pub and-agreed : (at : ℕ) (j : Judge) (r : Resolved) (m : Mean) → Agreed g has j r m
      → LinkAgreed g has (rules.tail_step (record { at = at; value = j })) (nodes.tail_step binary.And (record { at = at; value = r })) (meaning.tail_step (record { at = at; value = m }) binary.And)
  and-agreed at j r m q = tail-agreed binary.And at j r m (and-sound types around.is_total at) q

  -- "+" and the other signs
  pub sign-agreed : (which : Sign) (at : ℕ) (j : Judge) (r : Resolved) (m : Mean) → is_operator which ≡ true → Agreed g has j r m
      → LinkAgreed g has (rules.sign_tail_step around (record { sign = which; at = at; value = j })) (nodes.sign_tail_step (record { sign = which; at = at; value = r })) (meaning.sign_tail_step (record { sign = which; at = at; value = m }))
  sign-agreed which at j r m so q = record {
    link = λ scope slots left found before meant h sees p.
        let w1 = went (operand which left) _ found h in
        let t : Ty = w1.value in
        let w2 = went (j scope) _ found w1.next in
        let w3 = went (wanted t w2.value) _ found w2.next in
        let w4 = went (total around (sign_may_fault which) at) _ found w3.next in
        let takes : Takes types around.is_total which at left t t = makes types around at left t which w4.value so w1.first w4.first in
        let one = at-typed g before meant slots left.ty t left.height takes.is p in
        let two = at-typed g r m slots w2.value.ty t w2.value.height (sym (wanted-is t w2.value w3.value w3.first)) (q.holds scope slots w2.value w2.first sees) in
        at-seen g (nodes.sign_tail_step (record { sign = which; at = at; value = r }) before) (meaning.sign_tail_step (record { sign = which; at = at; value = m }) meant) slots t (max left.height w2.value.height) at found w4.next
        (two-at g before r before.ty meant m slots t t t left.height w2.value.height (node.Binary (sign_binary which) at) (λ v x. combined (sign_binary which) at v x) one.ty (λ all a b values. refl) takes.sounds one two);
  }

  pub index-agreed : (at : ℕ) (j : Judge) (r : Resolved) (m : Mean) → Agreed g has j r m
      → LinkAgreed g has (rules.suffix_step around (Suffix-F.Index at j)) (nodes.suffix_step whole (Suffix-F.Index at r)) (meaning.suffix_step whole (Suffix-F.Index at m))
  index-agreed at j r m q = record {
    link = λ scope slots left found before meant h sees p.
        let w1 = went (item_type left) _ found h in
        let t : Ty = w1.value in
        let w2 = went (j scope) _ found w1.next in
        let w3 = went (wanted ty.Int w2.value) _ found w2.next in
        let w4 = went (total around true at) _ found w3.next in
        let one = at-typed g before meant slots left.ty (ty.List t) left.height (item-is left t w1.first) p in
        let two = at-typed g r m slots w2.value.ty ty.Int w2.value.height (sym (wanted-is ty.Int w2.value w3.value w3.first)) (q.holds scope slots w2.value w2.first sees) in
        at-seen g (nodes.suffix_step whole (Suffix-F.Index at r) before) (meaning.suffix_step whole (Suffix-F.Index at m) meant) slots t (max left.height w2.value.height) at found w4.next
        (two-at g before r (λ scope. item_in (before.ty scope)) meant m slots (ty.List t) ty.Int t left.height w2.value.height (node.Index at) (λ v x. x >>= (λ own. indexed at v own))
        (ap item_in one.ty ∙ item-in-list t) (λ all a b values. refl) (indexed-sound types around.is_total at t (never-total around at w4.value w4.first)) one two);
  }

  pub unwrap-agreed : (at : ℕ) → LinkAgreed g has (rules.suffix_step around (Suffix-F.Unwrap at)) (nodes.suffix_step whole (Suffix-F.Unwrap at)) (meaning.suffix_step whole (Suffix-F.Unwrap at))
  unwrap-agreed at = record {
    link = λ scope slots left found before meant h sees p.
        let w1 = went (held_type left) _ found h in
        let t : Ty = w1.value in
        let w2 = went (total around true at) _ found w1.next in
        let one = at-typed g before meant slots left.ty (ty.Opt t) left.height (held-is left t w1.first) p in
        at-seen g (nodes.suffix_step whole (Suffix-F.Unwrap at) before) (meaning.suffix_step whole (Suffix-F.Unwrap at) meant) slots t left.height at found w2.next
        (one-at g before (nodes.suffix_step whole (Suffix-F.Unwrap at) before) meant slots (ty.Opt t) t left.height (node.Unwrap at) (λ v. unwrapped at v) (λ v. unwrapped at v) (λ start. refl)
        (ap held_in one.ty ∙ held-in-opt t) (λ all part values. refl) (λ v typed. refl) (unwrapped-sound types around.is_total at t (never-total around at w2.value w2.first)) one);
  }

  -- A field's number is that of the type of what stands before it, and its meaning that of the record that it gets.
  pub field-agreed : Within types around.known whole → (at : ℕ) (name : Id)
      → LinkAgreed g has (rules.suffix_step around (Suffix-F.Field at name)) (nodes.suffix_step whole (Suffix-F.Field at name)) (meaning.suffix_step whole (Suffix-F.Field at name))
  field-agreed within at name = record {
    link = λ scope slots left found before meant h sees p.
        let w1 = went (field_of around.known left name) _ found h in
        let t : Ty = w1.value in
        let own : FieldIs around.known left name t = field-is around.known left name t w1.first in
        let rec : Ty = ty.Rec own.number in
        let fields : fields_at whole own.number ≡ Some own.fields = whole-fields types around.known whole within own.number own.fields own.own in
        let one = at-typed g before meant slots left.ty rec left.height own.is p in
        let value : (v : Value) → Typed types rec v → FieldValue types whole own.number name.name own.field.ty v =
        field-value types whole own.number own.fields name.name own.field fields own.found (within.records own.number own.fields fields) in
        let k : ℕ = field_number whole rec name.name in
        at-seen g (nodes.suffix_step whole (Suffix-F.Field at name) before) (meaning.suffix_step whole (Suffix-F.Field at name) meant) slots t left.height at found (made-is around t left.height at found w1.next)
        (one-at g before (nodes.suffix_step whole (Suffix-F.Field at name) before) meant slots rec t left.height (node.Field k) (λ v. field_at k v) (λ v. field_named whole name.name v)
        (λ start. ap (λ (u : Ty). over_one (node.Field (field_number whole u name.name)) before.nodes slots start) one.ty)
        (ap (λ (u : Ty). field_type whole u name.name) one.ty ∙ field-type types whole own.number own.fields name.name own.field fields own.found ∙ own.of)
        (λ all part values. refl)
        (λ v typed. (value v typed).numbered ∙ sym (value v typed).named)
        (λ v typed. subst (λ (x : Outcome Value). Sound around.is_total (Typed types t) x) (sym (value v typed).named) (subst (λ (u : Ty). Typed types u (value v typed).own) own.of (value v typed).typed))
        one);
  }
