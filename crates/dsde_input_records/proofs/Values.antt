-- The value that begins a text is read, and it alone.
use Rattle.std.proofs.Common.{◌≡◌, ◌==◌, ℕ, zero, suc, ◌+◌, ◌<◌, ◌≤◌, true, false, List, [], ◌∷◌, ◌++◌, length, map, refl, sym, ◌∙◌, ap, subst, arith, append_assoc, length-append, inl, inr, leb}
use Rattle.std.specs.Prelude.{Some, codes, option_and_then, unwrap_or}
use Rattle.std.specs.Fmt.{signed_decimal}
use Rattle.std.specs.Option.{option_map_or, option_or}
use Rattle.std.specs.Str.{bytes_eq}
use Rattle.std.proofs.lemmas.Slice.Eq.{bytes_eq-Decides}
use borrow.Author.Tests.{eq-eqb, le-leb}
use Rattle.dsde_values.specs.given.words.Words.{begins_word}
use Rattle.dsde_values.specs.declared.types.Field.{Field}
use Rattle.dsde_values.specs.declared.types.Ty.{Ty, Ty-F, out-Ty}
use Rattle.dsde_values.specs.declared.types.Ty.TheOpen as open_ty
use Rattle.dsde_values.specs.declared.types.Ty.TheVariants as ty
use Rattle.dsde_values.specs.declared.types.Ty.TheViews as ty_views
use Rattle.dsde_values.specs.declared.types.Types.{Types}
use Rattle.dsde_values.specs.declared.value.Value.{Value}
use Rattle.dsde_values.specs.declared.value.Value.TheVariants as value
use Rattle.dsde_values.specs.Word.{ends_word, goes_on}
use Rattle.dsde_values.specs.Value.{name_at, fields_at, joined, field_texts, spelling, fill, has_type, IsLawful}
use Rattle.dsde_values.specs.Reading.{truth_text, variant_text, AreParts, AreItems}
use Rattle.dsde_values.proofs.Fronts.{and_false, stops, truth_word, truth_ends}
use Rattle.dsde_values.proofs.Layers.{typed-Int, typed-Bool, typed-Rec, typed-List, typed-Nothing, typed-Some, spelling-Int, spelling-Enum, spelling-Rec, spelling-List, spelling-Nothing, spelling-Some}
use Rattle.dsde_values.proofs.ListReading.{both}
use Rattle.dsde_values.proofs.ValueKinds.{of_Int, of_Bool, of_Enum, of_Rec, of_List, of_Opt, not_close}
use Rattle.dsde_values.proofs.ValueReading.{none_or_some, part_ends, truth_spelled}
use Rattle.dsde_values.proofs.ValueReading as values
use Rattle.dsde_input_records.specs.Reading.{Read, made, followed_by, behind, closed, meant, truth_of, nothing_of, read_fields, read_list, read_layer}
use Rattle.dsde_input_records.proofs.Fronts.{followed, made_of, next_of, behind-front, behind-text, behind-none, closed-front, closed-text, meant-front, meant-text}
use Rattle.dsde_input_records.proofs.Ints.{kept, int-front, int-text}
use Rattle.dsde_input_records.proofs.Parts.{led-joined, either_of, Front, Exact, texts_of, fields-front, fields-text, items-front, items-text}
use Rattle.dsde_values.specs.Value.{HasType}
use Rattle.dsde_values.proofs.Typed.{HasType-is}
use Rattle.dsde_input_records.specs.Reading.{read_deep, value_of}
use Rattle.dsde_input_records.proofs.Layers.{type_is, truth_is, truth_back, filled_by, front_as, front_at, read_as, text_as, enum_front, enum_text}

regroup_record : (key texts close rest : List ℕ) → (key ++ texts ++ close) ++ rest ≡ key ++ (texts ++ (close ++ rest))
regroup_record key texts close rest = simp append_assoc

inner_length : (key text close : List ℕ) (size : ℕ) → 0 < length key + length close → length (key ++ text ++ close) ≤ suc size → length text ≤ size
inner_length key text close size some fits = omega (arith, length-append (key ++ text) close, length-append key text, some, fits)

module _ (types : Types) (lawful : IsLawful types) (size : ℕ) (read : Ty → List ℕ → Read Value) (exact : (t : Ty) → Exact types t size (read t)) where
  rec_front : (number : ℕ) (bytes : List ℕ) (v : Value) (rest : List ℕ) → option_and_then (λ own. made (λ parts. value.Rec number parts) (option_and_then (read_fields read [] own) (behind (name_at types number ++ codes "{") bytes))) (fields_at types number) ≡ Some (v, rest) → Front types (ty.Rec number) bytes v rest
  rec_front number bytes v rest is =
      let key : List ℕ = name_at types number ++ codes "{" in
      let found = followed (λ own. made (λ parts. value.Rec number parts) (option_and_then (read_fields read [] own) (behind key bytes))) (fields_at types number) (v, rest) is in
      let fields = found.0 in
      let parts = made_of (λ parts. value.Rec number parts) (option_and_then (read_fields read [] fields) (behind key bytes)) v rest found.2 in
      let start = followed (read_fields read [] fields) (behind key bytes) (parts.0, rest) parts.1 in
      let all = fields-front types size read exact [] fields start.0 parts.0 rest start.2 in
      let texts = texts_of types fields parts.0 in
      let are : AreParts types number parts.0 = ap (λ f. option_map_or (fill (map (has_type types) parts.0)) f false) found.1 ∙ all.filled in
      front_as types (ty.Rec number) v (value.Rec number parts.0) (key ++ joined texts ++ codes "}") bytes rest parts.2
      (typed-Rec types number parts.0 number ∙ both (number == number) _ (eq-eqb number number refl) are)
      (spelling-Rec types number parts.0 ∙ ap (λ f. key ++ joined (field_texts (unwrap_or f []) (map (spelling types) parts.0)) ++ codes "}") found.1)
      (behind-front key bytes start.0 start.1 ∙ ap (λ tail. key ++ tail) (all.front ∙ ap (λ text. text ++ 125 ∷ rest) (led-joined texts)) ∙ sym (regroup_record key (joined texts) (codes "}") rest))
      (values.closed (key ++ joined texts) 125 rest refl)

  list_front : (inner : Ty) (bytes : List ℕ) (v : Value) (rest : List ℕ) → made (λ items. value.List items) (option_and_then (read_list (read inner) 65536 []) (behind (codes "[") bytes)) ≡ Some (v, rest) → Front types (ty.List inner) bytes v rest
  list_front inner bytes v rest is =
      let items = made_of (λ items. value.List items) (option_and_then (read_list (read inner) 65536 []) (behind (codes "[") bytes)) v rest is in
      let start = followed (read_list (read inner) 65536 []) (behind (codes "[") bytes) (items.0, rest) items.1 in
      let all = items-front types inner size (read inner) (exact inner) 65536 [] start.0 items.0 rest start.2 in
      let texts = map (spelling types) items.0 in
      front_as types (ty.List inner) v (value.List items.0) (codes "[" ++ joined texts ++ codes "]") bytes rest items.2
      (typed-List types items.0 inner ∙ both (leb (length items.0) 65536) _ (le-leb (length items.0) 65536 all.few) all.typed)
      (spelling-List types items.0)
      (behind-front (codes "[") bytes start.0 start.1 ∙ ap (λ tail. codes "[" ++ tail) (all.front ∙ ap (λ text. text ++ 93 ∷ rest) (led-joined texts)) ∙ sym (regroup_record (codes "[") (joined texts) (codes "]") rest))
      (values.closed (codes "[" ++ joined texts) 93 rest refl)

  some_front : (inner : Ty) (bytes : List ℕ) (v : Value) (rest : List ℕ) → followed_by (option_and_then (read inner) (behind (codes "some(") bytes)) (λ part left. closed (codes ")") (value.Some part) left) ≡ Some (v, rest) → Front types (ty.Opt inner) bytes v rest
  some_front inner bytes v rest is =
      let p = next_of (option_and_then (read inner) (behind (codes "some(") bytes)) (λ part left. closed (codes ")") (value.Some part) left) (v, rest) is in
      let start = followed (read inner) (behind (codes "some(") bytes) (p.0, p.1) p.2 in
      let one = (exact inner).front start.0 p.0 p.1 start.2 in
      let end = closed-front (codes ")") (value.Some p.0) p.1 v rest p.3 in
      front_as types (ty.Opt inner) v (value.Some p.0) (codes "some(" ++ spelling types p.0 ++ codes ")") bytes rest end.0
      (typed-Some types p.0 inner ∙ one.typed)
      (spelling-Some types p.0)
      (behind-front (codes "some(") bytes start.0 start.1 ∙ ap (λ tail. codes "some(" ++ tail) (one.front ∙ ap (λ tail. spelling types p.0 ++ tail) end.1) ∙ sym (regroup_record (codes "some(") (spelling types p.0) (codes ")") rest))
      (values.closed (codes "some(" ++ spelling types p.0) 41 rest refl)

  nothing_front : (inner : Ty) (bytes : List ℕ) (v : Value) (rest : List ℕ) → meant nothing_of bytes ≡ Some (v, rest) → Front types (ty.Opt inner) bytes v rest
  nothing_front inner bytes v rest is =
      let seen = meant-front nothing_of bytes v rest is in
      let own = kept (bytes_eq seen.word (codes "none")) value.Nothing v seen.thing_is in
      front_as types (ty.Opt inner) v value.Nothing seen.word bytes rest own.1 (typed-Nothing types inner)
      (spelling-Nothing types ∙ sym ((bytes_eq-Decides seen.word (codes "none")).0 own.0)) seen.front
      (and_false (ends_word seen.word) (begins_word rest) seen.end)

  layer_front : (t : Ty) (seen : Ty-F Ty) → out-Ty t ≡ seen → (bytes : List ℕ) (v : Value) (rest : List ℕ) → read_layer types read seen bytes ≡ Some (v, rest) → Front types t bytes v rest
  unfolding read_layer
  layer_front t open_ty.Int outs bytes v rest is =
      let seen = int-front bytes v rest is in
      front_at types t ty.Int bytes v rest (type_is t open_ty.Int ty.Int outs ty_views.rolls-Int)
      (front_as types ty.Int v (value.Int seen.number) (signed_decimal seen.number) bytes rest (sym seen.is) (typed-Int types seen.number ∙ seen.fits) (spelling-Int types seen.number) seen.front seen.ends)
  layer_front t open_ty.Bool outs bytes v rest is =
      let seen = meant-front truth_of bytes v rest is in
      let truth = truth_is seen.word v seen.thing_is in
      front_at types t ty.Bool bytes v rest (type_is t open_ty.Bool ty.Bool outs ty_views.rolls-Bool)
      (front_as types ty.Bool v (value.Bool truth.0) seen.word bytes rest truth.1 (typed-Bool types truth.0) (truth_spelled types [] [] truth.0 ∙ sym truth.2) seen.front (and_false (ends_word seen.word) (begins_word rest) seen.end))
  layer_front t (open_ty.Enum number) outs bytes v rest is =
      front_at types t (ty.Enum number) bytes v rest (type_is t (open_ty.Enum number) (ty.Enum number) outs (ty_views.rolls-Enum number)) (enum_front types number bytes v rest is)
  layer_front t (open_ty.Rec number) outs bytes v rest is =
      front_at types t (ty.Rec number) bytes v rest (type_is t (open_ty.Rec number) (ty.Rec number) outs (ty_views.rolls-Rec number)) (rec_front number bytes v rest is)
  layer_front t (open_ty.List inner) outs bytes v rest is =
      front_at types t (ty.List inner) bytes v rest (type_is t (open_ty.List inner) (ty.List inner) outs (ty_views.rolls-List inner)) (list_front inner bytes v rest is)
  layer_front t (open_ty.Opt inner) outs bytes v rest is =
      front_at types t (ty.Opt inner) bytes v rest (type_is t (open_ty.Opt inner) (ty.Opt inner) outs (ty_views.rolls-Opt inner))
      (elim (either_of (followed_by (option_and_then (read inner) (behind (codes "some(") bytes)) (λ part left. closed (codes ")") (value.Some part) left)) (meant nothing_of bytes) (v, rest) is) [
        | inl some ↦ some_front inner bytes v rest some
        | inr nothing ↦ nothing_front inner bytes v rest nothing
      ])

  rec_text : (number : ℕ) (fields : List Field) (parts : List Value) (rest : List ℕ) → fields_at types number ≡ Some fields → fill (map (has_type types) parts) fields ≡ true → length (joined (texts_of types fields parts)) ≤ size →
      option_and_then (λ own. made (λ parts. value.Rec number parts) (option_and_then (read_fields read [] own) (behind (name_at types number ++ codes "{") ((name_at types number ++ codes "{" ++ joined (texts_of types fields parts) ++ codes "}") ++ rest)))) (fields_at types number) ≡ Some (value.Rec number parts, rest)
  rec_text number fields parts rest found filled fits =
      let key : List ℕ = name_at types number ++ codes "{" in
      let texts = texts_of types fields parts in
      ap (λ bytes. option_and_then (λ own. made (λ parts. value.Rec number parts) (option_and_then (read_fields read [] own) (behind key bytes))) (fields_at types number)) (regroup_record key (joined texts) (codes "}") rest)
      ∙ ap (option_and_then (λ own. made (λ parts. value.Rec number parts) (option_and_then (read_fields read [] own) (behind key (key ++ (joined texts ++ 125 ∷ rest)))))) found
      ∙ ap (λ left. made (λ parts. value.Rec number parts) (option_and_then (read_fields read [] fields) left)) (behind-text key (joined texts ++ 125 ∷ rest))
      ∙ ap (λ text. made (λ parts. value.Rec number parts) (read_fields read [] fields (text ++ 125 ∷ rest))) (sym (led-joined texts))
      ∙ ap (made (λ parts. value.Rec number parts)) (fields-text types size read exact [] fields parts rest filled (subst (λ text. length text ≤ size) (sym (led-joined texts)) fits))

  list_text : (inner : Ty) (items : List Value) (rest : List ℕ) → AreItems types inner items → length (joined (map (spelling types) items)) ≤ size →
      made (λ items. value.List items) (option_and_then (read_list (read inner) 65536 []) (behind (codes "[") ((codes "[" ++ joined (map (spelling types) items) ++ codes "]") ++ rest))) ≡ Some (value.List items, rest)
  list_text inner items rest are fits =
      let texts = map (spelling types) items in
      ap (λ bytes. made (λ items. value.List items) (option_and_then (read_list (read inner) 65536 []) (behind (codes "[") bytes))) (regroup_record (codes "[") (joined texts) (codes "]") rest)
      ∙ ap (λ left. made (λ items. value.List items) (option_and_then (read_list (read inner) 65536 []) left)) (behind-text (codes "[") (joined texts ++ 93 ∷ rest))
      ∙ ap (λ text. made (λ items. value.List items) (read_list (read inner) 65536 [] (text ++ 93 ∷ rest))) (sym (led-joined texts))
      ∙ ap (made (λ items. value.List items)) (items-text types inner size (read inner) (exact inner) 65536 [] items rest (λ item more tail typed. not_close types lawful item inner more tail typed) are.few are.typed (subst (λ text. length text ≤ size) (sym (led-joined texts)) fits))

  some_reads : (inner : Ty) (part : Value) (rest : List ℕ) → has_type types part inner ≡ true → length (spelling types part) ≤ size →
      option_or (followed_by (option_and_then (read inner) (behind (codes "some(") ((codes "some(" ++ spelling types part ++ codes ")") ++ rest))) (λ part left. closed (codes ")") (value.Some part) left)) (meant nothing_of ((codes "some(" ++ spelling types part ++ codes ")") ++ rest)) ≡ Some (value.Some part, rest)
  some_reads inner part rest typed fits =
      let bytes : List ℕ = (codes "some(" ++ spelling types part ++ codes ")") ++ rest in
      let next : Read Value → Read Value = λ found. followed_by found (λ part left. closed (codes ")") (value.Some part) left) in
      ap (λ found. option_or found (meant nothing_of bytes))
      (ap (λ tail. next (option_and_then (read inner) (behind (codes "some(") tail))) (regroup_record (codes "some(") (spelling types part) (codes ")") rest)
      ∙ ap (λ left. next (option_and_then (read inner) left)) (behind-text (codes "some(") (spelling types part ++ 41 ∷ rest))
      ∙ ap next ((exact inner).text part (41 ∷ rest) typed (part_ends types inner [] part rest) fits)
      ∙ closed-text (codes ")") (value.Some part) rest)

  nothing_reads : (inner : Ty) (rest : List ℕ) → goes_on (codes "none") rest ≡ false →
      option_or (followed_by (option_and_then (read inner) (behind (codes "some(") (codes "none" ++ rest))) (λ part left. closed (codes ")") (value.Some part) left)) (meant nothing_of (codes "none" ++ rest)) ≡ Some (value.Nothing, rest)
  nothing_reads inner rest none =
      ap (λ found. option_or (followed_by (option_and_then (read inner) found) (λ part left. closed (codes ")") (value.Some part) left)) (meant nothing_of (codes "none" ++ rest)))
      (behind-none (codes "some(") (codes "none" ++ rest) (λ tail same. none_or_some rest tail same))
      ∙ meant-text nothing_of (codes "none") rest value.Nothing refl (stops (codes "none") rest refl none) refl

  layer_text : (t : Ty) (seen : Ty-F Ty) → out-Ty t ≡ seen → (v : Value) (rest : List ℕ) → has_type types v t ≡ true → goes_on (spelling types v) rest ≡ false → length (spelling types v) ≤ suc size →
      read_layer types read seen (spelling types v ++ rest) ≡ Some (v, rest)
  unfolding read_layer
  layer_text t open_ty.Int outs v rest typed none fits =
      let p = of_Int types v (ap (has_type types v) (sym (type_is t open_ty.Int ty.Int outs ty_views.rolls-Int)) ∙ typed) in
      let spelled = text_as types v (value.Int p.0) (signed_decimal p.0) p.1 (spelling-Int types p.0) in
      read_as types (read_layer types read open_ty.Int) v (value.Int p.0) (signed_decimal p.0) rest p.1 (spelling-Int types p.0)
      (int-text p.0 rest p.2 (ap (λ text. goes_on text rest) (sym spelled) ∙ none))
  layer_text t open_ty.Bool outs v rest typed none fits =
      let p = of_Bool types v (ap (has_type types v) (sym (type_is t open_ty.Bool ty.Bool outs ty_views.rolls-Bool)) ∙ typed) in
      let own = truth_spelled types [] [] p.0 in
      let end = stops (truth_text p.0) rest (truth_ends p.0) (ap (λ text. goes_on text rest) (sym (text_as types v (value.Bool p.0) (truth_text p.0) p.1 own)) ∙ none) in
      read_as types (read_layer types read open_ty.Bool) v (value.Bool p.0) (truth_text p.0) rest p.1 own
      (meant-text truth_of (truth_text p.0) rest (value.Bool p.0) (truth_word p.0) end (truth_back p.0))
  layer_text t (open_ty.Enum number) outs v rest typed none fits =
      let p = of_Enum types number v (ap (has_type types v) (sym (type_is t (open_ty.Enum number) (ty.Enum number) outs (ty_views.rolls-Enum number))) ∙ typed) in
      let own = spelling-Enum types number p.0 in
      read_as types (read_layer types read (open_ty.Enum number)) v (value.Enum number p.0) (variant_text types number p.0) rest p.1 own
      (enum_text types number lawful p.0 p.2 rest (ap (λ text. goes_on text rest) (sym (text_as types v (value.Enum number p.0) (variant_text types number p.0) p.1 own)) ∙ none))
  layer_text t (open_ty.Rec number) outs v rest typed none fits =
      let p = of_Rec types number v (ap (has_type types v) (sym (type_is t (open_ty.Rec number) (ty.Rec number) outs (ty_views.rolls-Rec number))) ∙ typed) in
      let found = filled_by (map (has_type types) p.0) (fields_at types number) p.2 in
      let key : List ℕ = name_at types number ++ codes "{" in
      let texts = texts_of types found.0 p.0 in
      let own : spelling types (value.Rec number p.0) ≡ key ++ joined texts ++ codes "}" = spelling-Rec types number p.0 ∙ ap (λ f. key ++ joined (field_texts (unwrap_or f []) (map (spelling types) p.0)) ++ codes "}") found.1 in
      read_as types (read_layer types read (open_ty.Rec number)) v (value.Rec number p.0) (key ++ joined texts ++ codes "}") rest p.1 own
      (rec_text number found.0 p.0 rest found.1 found.2
      (inner_length key (joined texts) (codes "}") size (omega arith) (subst (λ text. length text ≤ suc size) (text_as types v (value.Rec number p.0) (key ++ joined texts ++ codes "}") p.1 own) fits)))
  layer_text t (open_ty.List inner) outs v rest typed none fits =
      let p = of_List types inner v (ap (has_type types v) (sym (type_is t (open_ty.List inner) (ty.List inner) outs (ty_views.rolls-List inner))) ∙ typed) in
      let texts = map (spelling types) p.0 in
      let own = spelling-List types p.0 in
      read_as types (read_layer types read (open_ty.List inner)) v (value.List p.0) (codes "[" ++ joined texts ++ codes "]") rest p.1 own
      (list_text inner p.0 rest p.2
      (inner_length (codes "[") (joined texts) (codes "]") size (omega arith) (subst (λ text. length text ≤ suc size) (text_as types v (value.List p.0) (codes "[" ++ joined texts ++ codes "]") p.1 own) fits)))
  layer_text t (open_ty.Opt inner) outs v rest typed none fits =
      elim (of_Opt types inner v (ap (has_type types v) (sym (type_is t (open_ty.Opt inner) (ty.Opt inner) outs (ty_views.rolls-Opt inner))) ∙ typed)) [
        | inl nothing ↦
            let own = spelling-Nothing types in
            read_as types (read_layer types read (open_ty.Opt inner)) v value.Nothing (codes "none") rest nothing own
            (nothing_reads inner rest (ap (λ text. goes_on text rest) (sym (text_as types v value.Nothing (codes "none") nothing own)) ∙ none))
        | inr some ↦
            let own = spelling-Some types some.0 in
            let whole : List ℕ = codes "some(" ++ spelling types some.0 ++ codes ")" in
            read_as types (read_layer types read (open_ty.Opt inner)) v (value.Some some.0) whole rest some.1 own
            (some_reads inner some.0 rest some.2
            (inner_length (codes "some(") (spelling types some.0) (codes ")") size (omega arith) (subst (λ text. length text ≤ suc size) (text_as types v (value.Some some.0) whole some.1 own) fits)))
      ]

-- Values are read as deep as their texts are long.
module _ (types : Types) (lawful : IsLawful types) where
  some_text_of : (v : Value) (t : Ty) → has_type types v t ≡ true → (text : List ℕ) → spelling types v ≡ text → length text ≤ 0 → ⊥
  some_text_of v t typed [] same fits = not_close types lawful v t (93 ∷ []) [] typed (ap (λ text. text ++ 93 ∷ []) same)
  some_text_of v t typed (byte ∷ text) same fits = omega (arith, fits)

  pub deep_exact : (size : ℕ) (t : Ty) → Exact types t size (read_deep types size t)
  unfolding read_deep
  deep_exact zero t = record {
    front = λ bytes v rest is. absurd (cc);
    text = λ v rest typed none fits. absurd (some_text_of v t typed (spelling types v) refl fits);
  }
  deep_exact (suc size) t = record {
    front = λ bytes v rest is. layer_front types lawful size (read_deep types size) (deep_exact size) t (out-Ty t) refl bytes v rest is;
    text = λ v rest typed none fits. layer_text types lawful size (read_deep types size) (deep_exact size) t (out-Ty t) refl v rest typed none fits;
  }

  pub value_front : (t : Ty) (bytes : List ℕ) (v : Value) (rest : List ℕ) → value_of types t bytes ≡ Some (v, rest) → HasType types v t × (bytes ≡ spelling types v ++ rest) × (goes_on (spelling types v) rest ≡ false)
  value_front t bytes v rest is =
      let here = (deep_exact (length bytes) t).front bytes v rest is in
      ((HasType-is types v t).1 here.typed, here.front, here.ends)

  pub value_text : (t : Ty) (v : Value) (rest : List ℕ) → HasType types v t → goes_on (spelling types v) rest ≡ false → value_of types t (spelling types v ++ rest) ≡ Some (v, rest)
  value_text t v rest typed none =
      (deep_exact (length (spelling types v ++ rest)) t).text v rest ((HasType-is types v t).0 typed) none (omega (arith, length-append (spelling types v) rest))
