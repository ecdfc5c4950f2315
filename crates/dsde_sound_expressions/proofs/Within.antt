-- What is known behind some declarations of a model is known of the whole file.
use Rattle.std.proofs.Common.{◌≡◌, ℕ, ◌^◌, ◌<◌, Bool, false, List, [], ◌∷◌, ◌++◌, map, length, Option, Some, None, Ok, Err, position, option_map, option_and_then, slice_get, bytes_eq, refl, sym, ap, subst, ◌∙◌, arith, append_assoc, append-nil}
use Rattle.std.proofs.lemmas.List.{map-append}
use Rattle.std.proofs.lemmas.Option.{slice_get-map}
use Rattle.std.specs.Option.{option_map_or}
use Rattle.dsde_language.specs.given.syntax.decl_Decl.{Decl}
use Rattle.dsde_language.specs.given.syntax.decl_Decl_TheVariants as decl
use Rattle.dsde_language.specs.given.syntax.decl_Model.{Model}
use Rattle.dsde_language.specs.given.names.Table.{place_of, named}
use Rattle.dsde_language.specs.given.values.types_Def.{Def}
use Rattle.dsde_language.specs.given.values.types_Shape.{Shape}
use Rattle.dsde_language.specs.given.values.types_Shape_TheVariants as shape
use Rattle.dsde_language.specs.given.values.types_Ty_TheVariants as ty
use Rattle.dsde_language.specs.given.values.types_Types.{Types}
use Rattle.dsde_language.specs.given.values.Value as values
use Rattle.dsde_language.specs.declared.known.Known.{Known}
use Rattle.dsde_language.specs.declared.signatures.Func.{Func}
use Rattle.dsde_language.specs.declared.signatures.TypeWord.{TypeWord}
use Rattle.dsde_language.specs.declared.wrong.Wrong.{Wrong}
use Rattle.dsde_language.specs.Steps.{◌>>=◌, Test}
use Rattle.dsde_language.specs.RuleTables.{func_name, type_word, type_words, with_name, known_of, by_text, numbered}
use Rattle.dsde_language.specs.Judge.{declared_type, variants_at, variants_in}
use Rattle.dsde_language.specs.Blocks.{body_names, func_of}
use Rattle.dsde_language.specs.Rules.{own_name, apart_all, distinct, record_rule, atomic_rule, network_rule, top_rule, around_with, behind_type, behind_func, decl_rule, decls_rule, top_rules, rules}
use Rattle.dsde_language.specs.DeclaredModels.{with_funcs, whole_of, types_of, defs_from}
use Rattle.dsde_language.specs.Typing.{func_type}
use Rattle.dsde_language.specs.Right.{IsRight}
use Rattle.dsde_language.specs.Scopes.{Within, IsDeclared, AreVariants}
use Rattle.dsde_sound_expressions.specs.Places.{KnownAt, known_behind}
use Rattle.dsde_sound_expressions.specs.lemmas.Places.{position-longer, position-at, Passes, position-map, Placed, placed, named-at, get-left}
use Rattle.dsde_sound_expressions.specs.lemmas.Steps.{ok-is, went}
use Rattle.dsde_sound_expressions.proofs.Steps.{is_name, apart-parts, name-new, Among, among-none, among-more, among-new}
use Rattle.dsde_sound_expressions.proofs.Types.{type_names, shapes_in, names-append, shapes-are, words-longer, type_by, numbered-is, shapes-stay, file_tokens, variants-few}
use Rattle.dsde_sound_expressions.proofs.Funcs.{Sig, sig, sigs_in, sigs-append, words-stay, types-stay, one-func, funcs-are, Judged, func-judged}
use Rattle.dsde_sound_expressions.specs.lemmas.Written.{written}

-- the rules of a model in which nothing is wrong
pub record Ruled (decls : List Decl) : Type 0 where
  pub apart : apart_all [] decls ≡ Ok tt
  pub judged : decls_rule (known_of decls) decls ≡ Ok tt

pub record RuledModel (model : Model) : Type 0 where
  pub file : Ruled model.decls
  pub has_top : top_rules model ≡ Ok tt

ruled-from : (model : Model) (found : Test) → rules model ≡ found → (elim found [ Ok _ ↦ None | Err first ↦ Some first ]) ≡ (let none : Option Wrong = None in none) → RuledModel model
ruled-from model (Err first) is sound = absurd (cc)
ruled-from model (Ok done) is sound =
    let one = went (apart_all [] model.decls) (λ _. decls_rule (known_of model.decls) model.decls >>= (λ _. top_rules model)) tt is in
    let two = went (decls_rule (known_of model.decls) model.decls) (λ _. top_rules model) tt one.next in
    record { file = record { apart = one.first; judged = two.first }; has_top = two.next }

pub ruled : (model : Model) → IsRight model → RuledModel model
ruled model right = ruled-from model (rules model) refl right.sound

module _ (decls : List Decl) (apart : apart_all [] decls ≡ Ok tt) where
  abbrev words : List TypeWord
  words = type_words decls

  abbrev base : Known
  base = known_of decls

  abbrev whole : Known
  whole = with_funcs base decls

  -- what is known behind declarations, whose names are these
  pub record Behind (known : Known) (done : List Decl) : Type 0 where
    pub types : known.types ≡ base.types
    pub models : known.models ≡ base.models
    pub before : known.before ≡ map type_word (type_names done)
    pub funcs : map sig known.funcs ≡ sigs_in words done

  pub record BehindNames (names : List (List ℕ)) (known : Known) (done : List Decl) : Type 0 where
    pub own : Behind known done
    pub types_among : Among (λ (own : List ℕ). own) known.before names
    pub funcs_among : Among func_name known.funcs names

  words-are : whole.words ≡ words
  words-are = words-stay base decls

  types-are : whole.types ≡ shapes_in words decls
  types-are = types-stay base decls ∙ shapes-are words decls []

  declared-here : (known : Known) (done rest : List Decl) → decls ≡ done ++ rest → Behind known done → (name : List ℕ) (number : ℕ) → declared_type known name ≡ Some number → IsDeclared known whole name number
  declared-here known done rest split behind name number is =
      let p : TypeWord → Bool = λ word. bytes_eq (type_word word) name in
      let longer = words-longer decls apart in
      let file : type_names decls ≡ type_names done ++ type_names rest = ap type_names split ∙ names-append done rest in
      let found : position p (type_names done) ≡ Some number =
      sym (position-map (λ own. bytes_eq own name) type_word (type_names done)) ∙ ap (λ (l : List (List ℕ)). position (λ own. bytes_eq own name) l) (sym behind.before) ∙ is in
      let own : position p (type_names decls) ≡ Some number = ap (position p) file ∙ position-longer p (type_names done) (type_names rest) number found in
      let here : Passes p (type_names decls) number = position-at p (type_names decls) number own in
      let all : whole.words ≡ type_names decls ++ longer.rest = words-are ∙ longer.is in
      record {
        place = ap (position p) all ∙ position-longer p (type_names decls) longer.rest number own;
        own =
            ap (λ (l : List TypeWord). numbered number (slice_get l number)) all
            ∙ ap (numbered number) (get-left (type_names decls) longer.rest number here.own here.at)
            ∙ numbered-is words decls number number here.own here.at
            ∙ ap (λ (l : List Shape). type_by number (slice_get l number)) (sym (behind.types ∙ shapes-are words decls []));
      }

  -- one declaration more
  grown : (known more : Known) (done : List Decl) (own : Decl) → Behind known done → more.types ≡ known.types → more.models ≡ known.models
      → more.before ≡ known.before ++ map type_word (type_names (own ∷ [])) → map sig more.funcs ≡ map sig known.funcs ++ sigs_in words (own ∷ []) → Behind more (done ++ own ∷ [])
  grown known more done own behind types models before funcs = record {
    types = types ∙ behind.types;
    models = models ∙ behind.models;
    before =
        before
        ∙ ap (λ (l : List (List ℕ)). l ++ map type_word (type_names (own ∷ []))) behind.before
        ∙ sym (map-append type_word (type_names done) (type_names (own ∷ [])))
        ∙ ap (map type_word) (sym (names-append done (own ∷ [])));
    funcs = funcs ∙ ap (λ (l : List Sig). l ++ sigs_in words (own ∷ [])) behind.funcs ∙ sym (sigs-append words done (own ∷ []));
  }

  abbrev NextBehind : List (List ℕ) → Known → List Decl → Decl → Type 0
  NextBehind names more done own = BehindNames (names ++ (own_name own).name ∷ []) more (done ++ own ∷ [])

  behind-same : (names : List (List ℕ)) (known : Known) (done : List Decl) (own : Decl) → BehindNames names known done → type_names (own ∷ []) ≡ [] → sigs_in words (own ∷ []) ≡ [] → NextBehind names known done own
  behind-same names known done own behind none no_funcs = record {
    own = grown known known done own behind.own refl refl
        (sym (append-nil known.before) ∙ ap (λ (l : List TypeWord). known.before ++ map type_word l) (sym none))
        (sym (append-nil (map sig known.funcs)) ∙ ap (λ (l : List Sig). map sig known.funcs ++ l) (sym no_funcs));
    types_among = among-more (λ own. own) known.before names _ behind.types_among;
    funcs_among = among-more func_name known.funcs names _ behind.funcs_among;
  }

  behind-new : (names : List (List ℕ)) (known : Known) (done : List Decl) (own : Decl) → BehindNames names known done → is_name names (own_name own).name ≡ false
      → map type_word (type_names (own ∷ [])) ≡ (own_name own).name ∷ [] → sigs_in words (own ∷ []) ≡ [] → NextBehind names (behind_type known (own_name own)) done own
  behind-new names known done own behind new one no_funcs =
      let name : List ℕ = (own_name own).name in
      let longer : with_name known.before name ≡ known.before ++ name ∷ [] = name-new known.before name (behind.types_among.among name new) in
      record {
        own = grown known (behind_type known (own_name own)) done own behind.own refl refl
            (longer ∙ ap (λ (l : List (List ℕ)). known.before ++ l) (sym one))
            (sym (append-nil (map sig known.funcs)) ∙ ap (λ (l : List Sig). map sig known.funcs ++ l) (sym no_funcs));
        types_among = subst (λ (l : List (List ℕ)). Among (λ (own : List ℕ). own) l (names ++ name ∷ [])) (sym longer) (among-new (λ own. own) known.before names name behind.types_among);
        funcs_among = among-more func_name known.funcs names _ behind.funcs_among;
      }

  func-new : (names : List (List ℕ)) (known : Known) (done : List Decl) (own : Decl) (func : Func) → BehindNames names known done → is_name names (own_name own).name ≡ false
      → type_names (own ∷ []) ≡ [] → func.name ≡ (own_name own).name → sigs_in words (own ∷ []) ≡ sig func ∷ [] → NextBehind names (behind_func known func) done own
  func-new names known done own func behind new none named one =
      let longer = one-func known.funcs names func behind.funcs_among (ap (is_name names) named ∙ new) in
      record {
        own = grown known (behind_func known func) done own behind.own refl refl
            (sym (append-nil known.before) ∙ ap (λ (l : List TypeWord). known.before ++ map type_word l) (sym none))
            (ap (map sig) longer ∙ map-append sig known.funcs (func ∷ []) ∙ ap (λ (l : List Sig). map sig known.funcs ++ l) (sym one));
        types_among = among-more (λ own. own) known.before names _ behind.types_among;
        funcs_among = subst (λ (l : List Func). Among func_name l (names ++ (own_name own).name ∷ [])) (sym longer)
            (subst (λ (n : List ℕ). Among func_name (known.funcs ++ func ∷ []) (names ++ n ∷ [])) named (among-new func_name known.funcs names func behind.funcs_among));
      }

  same-known : (names : List (List ℕ)) (known more : Known) (done : List Decl) (own : Decl) (test : Test) → (test >>= (λ _. Ok known)) ≡ Ok more → NextBehind names known done own → NextBehind names more done own
  same-known names known more done own test is next =
      let parts = went test (λ _. Ok known) more is in
      subst (λ (k : Known). NextBehind names k done own) (ok-is known more parts.next) next

  behind-next : (names : List (List ℕ)) (known more : Known) (done rest : List Decl) (own : Decl) → decls ≡ done ++ rest → BehindNames names known done → is_name names (own_name own).name ≡ false
      → decl_rule known own ≡ Ok more → NextBehind names more done own
  behind-next names known more done rest (decl.Enum name variants) split behind new is =
      same-known names (behind_type known name) more done (decl.Enum name variants) (distinct [] variants) is (behind-new names known done (decl.Enum name variants) behind new refl refl)
  behind-next names known more done rest (decl.Rec name fields) split behind new is =
      same-known names (behind_type known name) more done (decl.Rec name fields) (record_rule known name fields) is (behind-new names known done (decl.Rec name fields) behind new refl refl)
  behind-next names known more done rest (decl.Func name params result stmts value) split behind new is =
      let own : Decl = decl.Func name params result stmts value in
      let parts = went (func_of known name params result stmts value) (λ func. Ok (behind_func known func)) more is in
      let func : Func = parts.value in
      let judged : Judged known name result func = func-judged known name params result stmts value func parts.first in
      let typed : by_text words result ≡ func.result =
      ap (λ (l : List TypeWord). by_text l result) (sym words-are) ∙ written known whole (declared-here known done rest split behind.own) result judged.seen judged.typed ∙ sym judged.is in
      let one : sigs_in words (own ∷ []) ≡ sig func ∷ [] =
      (λ i. (let own : Sig = record { name = sym judged.named i; result = typed i } in own) ∷ []) in
      subst (λ (k : Known). NextBehind names k done own) (ok-is (behind_func known func) more parts.next) (func-new names known done own func behind new refl judged.named one)
  behind-next names known more done rest (decl.Atomic at name params body) split behind new is =
      same-known names known more done (decl.Atomic at name params body) (atomic_rule (around_with known (body_names params body)) at name params body) is (behind-same names known done (decl.Atomic at name params body) behind refl refl)
  behind-next names known more done rest (decl.Network at name params ports exec_at body items) split behind new is =
      same-known names known more done (decl.Network at name params ports exec_at body items) (network_rule (around_with known (body_names params body)) name params ports exec_at body items) is (behind-same names known done (decl.Network at name params ports exec_at body items) behind refl refl)
  behind-next names known more done rest (decl.Top at name args) split behind new is =
      same-known names known more done (decl.Top at name args) (top_rule (around_with known []) at name args) is (behind-same names known done (decl.Top at name args) behind refl refl)

  behind-all : (before rest done : List Decl) (known last : Known) (names : List (List ℕ)) → decls ≡ done ++ (before ++ rest) → BehindNames names known done → apart_all names (before ++ rest) ≡ Ok tt
      → known_behind known before ≡ Ok last → Behind last (done ++ before)
  behind-all [] rest done known last names split behind differ is =
      subst (λ (l : List Decl). Behind last l) (sym (append-nil done)) (subst (λ (k : Known). Behind k done) (ok-is known last is) behind.own)
  behind-all (own ∷ before) rest done known last names split behind differ is =
      let parts = went (decl_rule known own) (λ more. known_behind more before) last is in
      let differs = apart-parts names own (before ++ rest) differ in
      let next = behind-next names known parts.value done (own ∷ (before ++ rest)) own split behind differs.new parts.first in
      subst (λ (l : List Decl). Behind last l) (append_assoc done (own ∷ []) before)
      (behind-all before rest (done ++ own ∷ []) parts.value last (names ++ (own_name own).name ∷ []) (split ∙ sym (append_assoc done (own ∷ []) (before ++ rest))) next differs.rest parts.next)

  first-names : BehindNames [] base []
  first-names = record {
    own = record { types = refl; models = refl; before = refl; funcs = refl };
    types_among = among-none (λ (own : List ℕ). own) [];
    funcs_among = among-none func_name [];
  }

  pub behind-known : (before rest : List Decl) (known : Known) → decls ≡ before ++ rest → known_behind base before ≡ Ok known → Behind known before
  behind-known before rest known split is =
      behind-all before rest [] base known [] split first-names (subst (λ (l : List Decl). apart_all [] l ≡ Ok tt) split apart) is

  -- the definitions and the shapes of types
  abbrev types : Types
  types = record { defs = defs_from whole.words whole.types }

  defs-are : (number : ℕ) → option_map (λ (def : Def). def.shape) (slice_get types.defs number) ≡ slice_get whole.types number
  defs-are number =
      let longer = words-longer decls apart in
      ap (λ (l : List TypeWord). option_map (λ (def : Def). def.shape) (slice_get (defs_from l whole.types) number)) (words-are ∙ longer.is)
      ∙ ap (λ (l : List Shape). option_map (λ (def : Def). def.shape) (slice_get (defs_from (type_names decls ++ longer.rest) l) number)) types-are
      ∙ shapes-stay words longer.rest decls number
      ∙ ap (λ (l : List Shape). slice_get l number) (sym types-are)

  fields-from : (found : Option Def) → option_and_then (λ (def : Def). values.fields def.shape) found ≡ option_and_then values.fields (option_map (λ (def : Def). def.shape) found)
  fields-from None = refl
  fields-from (Some def) = refl

  variants-of : (own : Shape) (names : List (List ℕ)) → variants_in own ≡ Some names → values.variants own ≡ names
  variants-of (shape.Enum own) names is = cc
  variants-of (shape.Rec fields) names is = cc

  variants-from : (found : Option Def) (names : List (List ℕ)) → option_and_then variants_in (option_map (λ (def : Def). def.shape) found) ≡ Some names → option_map_or (λ (def : Def). values.variants def.shape) found [] ≡ names
  variants-from None names is = cc
  variants-from (Some def) names is = variants-of def.shape names is

  enums-are : length (file_tokens decls) < 2 ^ 32 → (number : ℕ) (names : List (List ℕ)) → variants_at whole number ≡ Some names → AreVariants types number names
  enums-are few number names is = record {
    are = variants-from (slice_get types.defs number) names (ap (option_and_then variants_in) (defs-are number) ∙ is);
    few =
        let low = variants-few words decls number names (ap (λ (l : List Shape). option_and_then variants_in (slice_get l number)) (sym types-are) ∙ is) in
        omega (arith, low, few);
  }

  -- the result of a function that is known
  results-are : (known : Known) (done rest : List Decl) → decls ≡ done ++ rest → Behind known done → (name : List ℕ) (func : Func) → named func_name known.funcs name ≡ Some func → func_type whole name ≡ func.result
  results-are known done rest split behind name func is =
      let p : Sig → Bool = λ own. bytes_eq own.name name in
      let parts : Placed func_name known.funcs name func = placed func_name known.funcs name func is in
      let all : map sig whole.funcs ≡ map sig known.funcs ++ sigs_in words rest =
      funcs-are decls base [] (among-none func_name []) apart
      ∙ ap (sigs_in words) split ∙ sigs-append words done rest ∙ ap (λ (l : List Sig). l ++ sigs_in words rest) (sym behind.funcs) in
      let found : place_of func_name whole.funcs name ≡ Some parts.place =
      sym (position-map p sig whole.funcs) ∙ ap (position p) all
      ∙ position-longer p (map sig known.funcs) (sigs_in words rest) parts.place (position-map p sig known.funcs ∙ parts.found) in
      let here : slice_get (map sig known.funcs) parts.place ≡ Some (sig func) = slice_get-map sig known.funcs parts.place ∙ ap (option_map sig) parts.at in
      let own : option_map sig (slice_get whole.funcs parts.place) ≡ Some (sig func) =
      sym (slice_get-map sig whole.funcs parts.place) ∙ ap (λ (l : List Sig). slice_get l parts.place) all
      ∙ get-left (map sig known.funcs) (sigs_in words rest) parts.place (sig func) here in
      ap (λ (o : Option Func). option_map_or (λ (f : Func). f.result) o ty.Int) (named-at func_name whole.funcs name parts.place found)
      ∙ result-of (slice_get whole.funcs parts.place) own
    where
      result-of : (found : Option Func) → option_map sig found ≡ Some (sig func) → option_map_or (λ (f : Func). f.result) found ty.Int ≡ func.result
      result-of None is = cc
      result-of (Some own) is = let same : sig own ≡ sig func = cc in ap (λ (s : Sig). s.result) same

  pub known-within : length (file_tokens decls) < 2 ^ 32 → (before rest : List Decl) (known : Known) → decls ≡ before ++ rest → known_behind base before ≡ Ok known → Within types known whole
  known-within few before rest known split is =
      let behind = behind-known before rest known split is in
      record {
        shapes = behind.types ∙ sym (types-stay base decls);
        words = declared-here known before rest split behind;
        records = λ number fields is. fields-from (slice_get types.defs number) ∙ ap (option_and_then values.fields) (defs-are number) ∙ is;
        enums = enums-are few;
        results = results-are known before rest split behind;
      }

pub known-is-within : (model : Model) (known : Known) → IsRight model → KnownAt model known → Within (types_of model) known (whole_of model)
known-is-within model known right at =
    known-within model.decls (ruled model right).file.apart right.shaped.few at.before at.rest known at.split at.is

-- the models of a file are known everywhere
pub known-models : (model : Model) (known : Known) → IsRight model → KnownAt model known → known.models ≡ (known_of model.decls).models
known-models model known right at = (behind-known model.decls (ruled model right).file.apart at.before at.rest known at.split at.is).models
