-- The functions before a declaration: what is known of them, and one more.
use Rattle.std.proofs.Common.{◌≡◌, ℕ, ◌≤◌, Bool, true, false, ◌||◌, List, [], ◌∷◌, ◌++◌, map, length, Option, Some, None, is_some, refl, sym, ◌∙◌, ap, subst, slice_get, unwrap_or, ◌⊎◌, inl, inr}
use Rattle.std.specs.Str.{bytes_eq}
use Rattle.std.proofs.lemmas.List.{length-map, map-append}
use Rattle.std.proofs.lemmas.Bool.{or_from}
use Rattle.dsde_language.specs.given.names.Table.{place_of, named, is_among}
use Rattle.dsde_language.specs.given.syntax.id_Id.{Id}
use Rattle.dsde_language.specs.given.syntax.expr_Expr.{Expr}
use Rattle.dsde_language.specs.given.syntax.stmt_Stmt.{Stmt}
use Rattle.dsde_language.specs.given.syntax.decl_Typed as syntax
use Rattle.dsde_language.specs.given.values.types_Types.{Types}
use Rattle.dsde_language.specs.given.values.value_Value.{Value}
use Rattle.dsde_language.specs.declared.known.Known.{Known}
use Rattle.dsde_language.specs.declared.signatures.Func.{Func}
use Rattle.dsde_language.specs.RuleTables.{added, func_name}
use Rattle.dsde_language.specs.declared.code.FnCode.{FnCode}
use Rattle.dsde_language.specs.Typing.{func_number}
use Rattle.dsde_language.specs.Outcome.{Outcome, ◌>>=◌, present}
use Rattle.dsde_language.specs.Meaning.{Function, function_name, called}
use Rattle.dsde_language.specs.Functions.{run_func}
use Rattle.dsde_language.specs.MeaningTables.{Coded, means_in, run_code, called_at}
use Rattle.dsde_language.specs.Typed.{Typed, Sound, AllTyped}
use Rattle.dsde_language.specs.Scopes.{Serve, Served, Calls}
use Rattle.dsde_sound_expressions.specs.lemmas.Places.{same-name, pick, or_last, named-snoc, among-snoc, eq-same, named-front, position-longer, any-map, added-new}
use Rattle.dsde_sound_expressions.specs.lemmas.Truths.{or-left, or-right}
use Rattle.dsde_sound_expressions.proofs.Names.{Grows, place-new, some-alike}
use Rattle.dsde_sound_expressions.proofs.FuncAgrees.{FuncAgrees}

abbrev own_name : List ℕ → List ℕ
own_name name = name

-- what is found where there is one more item: it was there before, or it is the new one
found-either : {T : Type 0} (b : Bool) (item own : T) (found : Option T) → or_last found (pick b item None) ≡ Some own → (found ≡ Some own) ⊎ ((found ≡ None) × (b ≡ true) × (item ≡ own))
found-either b item own (Some old) h = inl h
found-either true item own None h = inr (refl, refl, cc h)
found-either false item own None h = cc

-- Functions before others are called as they were.
still-step : (funcs : List Func) (before more : List Function) (name : List ℕ) (found : Option Function) → is_some found ≡ true → named function_name before name ≡ found
    → named function_name (before ++ more) name ≡ named function_name before name
still-step funcs before more name None some is = cc
still-step funcs before more name (Some own) some is = named-front function_name before more name own is ∙ sym is

pub still-called : (funcs : List Func) (before more : List Function) (name : List ℕ) (func : Func) (values : List Value) → map func_name funcs ≡ map function_name before → named func_name funcs name ≡ Some func
    → called (before ++ more) name values ≡ called before name values
still-called funcs before more name func values same h =
    let some : is_some (named function_name before name) ≡ true = sym (some-alike func_name function_name funcs before name same) ∙ ap is_some h in
    ap (λ (o : Option Function). present o >>= (λ function. function.run values)) (still-step funcs before more name (named function_name before name) some refl)

none-step : (found : Option Function) → is_some found ≡ false → found ≡ None
none-step None h = refl
none-step (Some own) h = cc

-- The new function is called by its name.
new-called : (funcs : List Func) (before : List Function) (own : Function) (name : List ℕ) (values : List Value) → map func_name funcs ≡ map function_name before → named func_name funcs name ≡ None → own.name ≡ name
    → called (before ++ own ∷ []) name values ≡ own.run values
new-called funcs before own name values same h is =
    let none : named function_name before name ≡ None =
    none-step (named function_name before name) (sym (some-alike func_name function_name funcs before name same) ∙ ap is_some h) in
    let here : bytes_eq own.name name ≡ true = ap (bytes_eq own.name) (sym is) ∙ eq-same own.name in
    ap (λ (o : Option Function). present o >>= (λ function. function.run values))
    (named-snoc function_name before own name
    ∙ ap (λ (o : Option Function). or_last o (pick (bytes_eq own.name name) own None)) none
    ∙ ap (λ (b : Bool). pick b own None) here)

-- tables of the same names: what is among one is among the other, and they are equally long
alike-among : (funcs : List Func) (before : List Function) (name : List ℕ) → map func_name funcs ≡ map function_name before → is_among function_name before name ≡ false → is_among func_name funcs name ≡ false
alike-among funcs before name same h =
    sym (any-map (λ own. bytes_eq own name) func_name funcs) ∙ ap (λ (names : List (List ℕ)). is_among own_name names name) same ∙ any-map (λ own. bytes_eq own name) function_name before ∙ h

alike-length : (funcs : List Func) (before : List Function) → map func_name funcs ≡ map function_name before → length funcs ≡ length before
alike-length funcs before same =
    sym (length-map funcs func_name) ∙ ap (λ (names : List (List ℕ)). length names) same ∙ length-map before function_name

alike-added : (funcs : List Func) (before : List Function) (func : Func) (own : Function) → map func_name funcs ≡ map function_name before → func.name ≡ own.name → is_among func_name funcs func.name ≡ false
    → map func_name (added func_name funcs func) ≡ map function_name (before ++ own ∷ [])
alike-added funcs before func own same name new =
    ap (map func_name) (added-new func_name funcs func new)
    ∙ map-append func_name funcs (func ∷ [])
    ∙ ap (λ (names : List (List ℕ)). names ++ func.name ∷ []) same
    ∙ ap (λ (n : List ℕ). map function_name before ++ n ∷ []) name
    ∙ sym (map-append function_name before (own ∷ []))

module _ (types : Types) (coded : Coded) (whole : Known) where
  -- The functions before a declaration: by what is known, by text, and over names, where these are the names of the declarations before it.
  pub record Frame (known word : Known) (before : List Function) (names : List (List ℕ)) : Type 0 where
    pub same : map func_name known.funcs ≡ map function_name before
    pub told : map func_name word.funcs ≡ map function_name before
    pub among : (name : List ℕ) → is_among own_name names name ≡ false → is_among function_name before name ≡ false
    pub serve : Serve types known before
    pub calls : Calls types coded known whole before

  -- a declaration that is no function
  pub frame-same : (known more word : Known) (before : List Function) (names : List (List ℕ)) (name : List ℕ) → Frame known word before names → known.funcs ≡ more.funcs
      → Frame more word before (names ++ name ∷ [])
  frame-same known more word before names name f e = record {
    same = ap (map func_name) (sym e) ∙ f.same;
    told = f.told;
    among = λ n h. f.among n (or-left _ _ (sym (among-snoc own_name names name n) ∙ h));
    serve = λ n func h. f.serve n func (ap (λ (l : List Func). named func_name l n) e ∙ h);
    calls = λ n func depth values h all least high. f.calls n func depth values (ap (λ (l : List Func). named func_name l n) e ∙ h) all least high;
  }

  module _ (known word : Known) (before : List Function) (names : List (List ℕ)) (f : Frame known word before names) (id : Id) (params : List syntax.Typed) (stmts : List Stmt) (value : Expr)
      (code : FnCode) (func text : Func) (agrees : FuncAgrees types coded whole before id params stmts value code func) (new : is_among own_name names id.name ≡ false) (spelled : text.name ≡ id.name)
      (at : slice_get coded.functions (length before) ≡ Some code) (grows : Grows (added func_name word.funcs text) whole.funcs) where
    abbrev own : Function
    own = record { name = id.name; run = run_func whole before params stmts value }

    abbrev known_more : List Func
    known_more = added func_name known.funcs func

    new-known : is_among func_name known.funcs func.name ≡ false
    new-known = ap (is_among func_name known.funcs) (sym agrees.name) ∙ alike-among known.funcs before id.name f.same (f.among id.name new)

    new-word : is_among func_name word.funcs text.name ≡ false
    new-word = ap (is_among func_name word.funcs) spelled ∙ alike-among word.funcs before id.name f.told (f.among id.name new)

    either : (name : List ℕ) (found : Func) → named func_name known_more name ≡ Some found
        → (named func_name known.funcs name ≡ Some found) ⊎ ((named func_name known.funcs name ≡ None) × (bytes_eq func.name name ≡ true) × (func ≡ found))
    either name found h =
        found-either (bytes_eq func.name name) func found (named func_name known.funcs name)
        (sym (named-snoc func_name known.funcs func name) ∙ ap (λ (l : List Func). named func_name l name) (sym (added-new func_name known.funcs func new-known)) ∙ h)

    name-is : (name : List ℕ) → bytes_eq func.name name ≡ true → id.name ≡ name
    name-is name h = agrees.name ∙ same-name func.name name h

    -- the number of the function
    number-is : (name : List ℕ) → id.name ≡ name → func_number whole name ≡ length before
    number-is name is =
        let here : place_of func_name (added func_name word.funcs text) name ≡ Some (length word.funcs) =
        ap (λ (l : List Func). place_of func_name l name) (added-new func_name word.funcs text new-word)
        ∙ ap (place_of func_name (word.funcs ++ text ∷ [])) (sym is ∙ sym spelled)
        ∙ place-new func_name word.funcs text new-word in
        let there : place_of func_name whole.funcs name ≡ Some (length word.funcs) =
        ap (λ (l : List Func). place_of func_name l name) grows.is
        ∙ position-longer (λ own. bytes_eq (func_name own) name) (added func_name word.funcs text) grows.more (length word.funcs) here in
        ap (λ (o : Option ℕ). unwrap_or o 0) there ∙ alike-length word.funcs before f.told

    more-serve : (name : List ℕ) (found : Func) → named func_name known_more name ≡ Some found → Served types (before ++ own ∷ []) name found
    more-serve name found h = elim (either name found h) [
      | inl old ↦ record {
        sound = λ values all. subst (λ (o : Outcome Value). Sound false (Typed types found.result) o) (sym (still-called known.funcs before (own ∷ []) name found values f.same old))
            ((f.serve name found old).sound values all);
      }
      | inr last ↦ subst (λ (g : Func). Served types (before ++ own ∷ []) name g) last.2 (record {
        sound = λ values all. subst (λ (o : Outcome Value). Sound false (Typed types func.result) o) (sym (new-called known.funcs before own name values f.same last.0 (name-is name last.1)))
            (agrees.sound values all);
      })
    ]

    new-calls : (name : List ℕ) (depth : ℕ) (values : List Value) → named func_name known.funcs name ≡ None → id.name ≡ name → AllTyped types func.params values → func.height ≤ 512 → func.height ≤ depth
        → called_at (means_in coded depth) coded.functions (func_number whole name) values ≡ called (before ++ own ∷ []) name values
    new-calls name depth values none is all least high =
        ap (λ (n : ℕ). called_at (means_in coded depth) coded.functions n values) (number-is name is)
        ∙ ap (λ (o : Option FnCode). present o >>= (λ found. run_code (means_in coded depth) found values)) at
        ∙ agrees.reads depth values all least high
        ∙ sym (new-called known.funcs before own name values f.same none is)

    more-calls : (name : List ℕ) (found : Func) (depth : ℕ) (values : List Value) → named func_name known_more name ≡ Some found → AllTyped types found.params values → found.height ≤ 512 → found.height ≤ depth
        → called_at (means_in coded depth) coded.functions (func_number whole name) values ≡ called (before ++ own ∷ []) name values
    more-calls name found depth values h all least high = elim (either name found h) [
      | inl old ↦
          f.calls name found depth values old all least high
          ∙ sym (still-called known.funcs before (own ∷ []) name found values f.same old)
      | inr last ↦
          let is : found ≡ func = sym last.2 in
          new-calls name depth values last.0 (name-is name last.1)
          (subst (λ (g : Func). AllTyped types g.params values) is all)
          (subst (λ (g : Func). g.height ≤ 512) is least)
          (subst (λ (g : Func). g.height ≤ depth) is high)
    ]

    -- one function more
    pub frame-func : Frame (record known { funcs = added func_name known.funcs func }) (record word { funcs = added func_name word.funcs text }) (before ++ own ∷ []) (names ++ id.name ∷ [])
    frame-func = record {
      same = alike-added known.funcs before func own f.same (sym agrees.name) new-known;
      told = alike-added word.funcs before text own f.told spelled new-word;
      among = λ n h.
          let both : (is_among own_name names n || (bytes_eq id.name n || false)) ≡ false = sym (among-snoc own_name names id.name n) ∙ h in
          among-snoc function_name before own n
          ∙ or_from (is_among function_name before n) (bytes_eq id.name n || false) (f.among n (or-left _ _ both)) (or-right (is_among own_name names n) _ both);
      serve = more-serve;
      calls = more-calls;
    }
