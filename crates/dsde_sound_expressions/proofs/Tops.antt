-- The model that runs, and its arguments, stand at their numbers.
use Rattle.std.proofs.Common.{◌≡◌, ℕ, suc, ◌==◌, true, false, not, List, [], ◌∷◌, map, length, Option, Some, None, Result, Ok, option_map, slice_get, unwrap_or, bytes_eq, refl, sym, ap, subst, ◌∙◌, arith}
use Rattle.std.proofs.lemmas.Bool.{and_parts, not-false}
use Rattle.std.proofs.lemmas.Bool.Decides.{nat_tests}
use Rattle.std.proofs.lemmas.Option.{slice_get-map}
use Rattle.std.specs.Cmp.Lexicographic.{bytes_decides}
use Rattle.std.specs.List.{list_any, list_all}
use Rattle.std.specs.Option.{option_map_or}
use Rattle.dsde_language.specs.given.syntax.expr_Expr.{Expr}
use Rattle.dsde_language.specs.given.syntax.decl_Decl.{Decl}
use Rattle.dsde_language.specs.given.syntax.decl_Decl_TheVariants as decl
use Rattle.dsde_language.specs.given.syntax.decl_Model.{Model}
use Rattle.dsde_language.specs.given.syntax.id_Id.{Id}
use Rattle.dsde_language.specs.given.names.Table.{place_of}
use Rattle.dsde_language.specs.declared.known.Known.{Known}
use Rattle.dsde_language.specs.declared.signatures.ModelSig.{ModelSig}
use Rattle.dsde_language.specs.declared.signatures.TypeWord.{TypeWord}
use Rattle.dsde_language.specs.declared.wrong.Wrong.{Wrong}
use Rattle.dsde_language.specs.declared.wrong.WrongKind.TheVariants.{Unknown, WrongType}
use Rattle.dsde_language.specs.Steps.{wrong, unless, within}
use Rattle.dsde_language.specs.RuleTables.{known_of, model_name, text_params, type_words}
use Rattle.dsde_language.specs.Judge.{judge, fit, fit_all}
use Rattle.dsde_language.specs.RuleStructures.{args_of, model_named}
use Rattle.dsde_language.specs.Rules.{around_with, top_rule, decl_rule, decls_rule, is_top}
use Rattle.dsde_language.specs.declared.code.Code.{Code}
use Rattle.dsde_language.specs.declared.node_ids.ExprId.{ExprId}
use Rattle.dsde_language.specs.declared.ids.ModelId.{ModelId}
use Rattle.dsde_language.specs.declared.node.Node.{Node}
use Rattle.dsde_language.specs.DeclaredModels.{top_number, model_id, whole_of, Own, owns_of, TopOf, top_in, param_slots}
use Rattle.dsde_language.specs.Items.{resolve_all}
use Rattle.dsde_language.specs.NodeModels.{Parts, resolve_decls, resolved}
use Rattle.dsde_language.specs.Pieces.{Block, Next}
use Rattle.dsde_language.specs.Names.{Scope}
use Rattle.dsde_language.specs.Right.{IsRight}
use Rattle.dsde_language.specs.Proper.{is_proper, is_proper_decl}
use Rattle.dsde_sound_expressions.specs.Places.{KnownAt}
use Rattle.dsde_sound_expressions.specs.Bodies.{ArgsStand, TopStands}
use Rattle.dsde_sound_expressions.specs.lemmas.Places.{Placed, placed, position-at, Passes}
use Rattle.dsde_sound_expressions.specs.lemmas.Steps.{unless-is, went}
use Rattle.dsde_sound_expressions.proofs.Steps.{among-none}
use Rattle.dsde_sound_expressions.proofs.Funcs.{words-stay, models-stay}
use Rattle.dsde_sound_expressions.proofs.Within.{known-models, RuledModel, ruled}
use Rattle.dsde_sound_expressions.proofs.Pieces.{Put}
use Rattle.dsde_sound_expressions.proofs.DeclPieces.{OtherPut, func-put, atomic-put, network-put, top-put}
use Rattle.dsde_sound_expressions.proofs.Owns.{Place, known-at, next-place, within-low}
use Rattle.dsde_sound_expressions.proofs.Bodies.{first-put, first-place}
use Rattle.dsde_sound_expressions.proofs.Models.{model_sig, models-are}
use Rattle.dsde_sound_expressions.proofs.Args.{args-stand}

same-number : (a b : ℕ) → not (a == b) ≡ false → a ≡ b
same-number a b h = grind (arith, nat_tests, not-false (a == b) h)

length-map : {A B : Type 0} (f : A → B) (l : List A) → length (map f l) ≡ length l
length-map f [] = refl
length-map f (x ∷ l) = ap suc (length-map f l)

module _ (model : Model) (right : IsRight model) where
  abbrev whole : Known
  whole = whole_of model

  abbrev node_table : List Node
  node_table = (resolved model).nodes

  abbrev block_table : List Block
  block_table = (resolved model).blocks

  abbrev top_as : Id → List Expr → TopOf
  top_as name args = record { name = name.name; args = args }

  -- the first `top` of declarations, with what the rules say of it, and where its arguments stand
  record TopAt (rest : List Decl) (parts : Parts) : Type 0 where
    at : ℕ
    name : Id
    args : List Expr
    found : top_in rest ≡ Some (top_as name args)
    known : Known
    known_here : KnownAt model known
    judged : top_rule (around_with known []) at name args ≡ Ok tt
    proper : list_all is_proper args ≡ true
    next : Next
    put : Put node_table block_table next (resolve_all whole args [] next)
    top_args : parts.top_args ≡ (resolve_all whole args [] next).own

  abbrev HasTop : List Decl → Type 0
  HasTop rest = (known : Known) → Place model right known rest → decls_rule known rest ≡ Ok tt → list_all is_proper_decl rest ≡ true → list_any is_top rest ≡ true
      → (next : Next) → Put node_table block_table next (resolve_decls whole rest [] next) → TopAt rest (resolve_decls whole rest [] next).own

  -- the `top` is one of those behind
  behind-one : (own : Decl) (rest : List Decl) → top_in (own ∷ rest) ≡ top_in rest → HasTop rest → (known : Known) → Place model right known (own ∷ rest) → decls_rule known (own ∷ rest) ≡ Ok tt
      → list_all is_proper_decl rest ≡ true → list_any is_top rest ≡ true → (front : List Code) (parts : Parts) → OtherPut node_table block_table whole (resolve_decls whole rest) [] front parts → TopAt (own ∷ rest) parts
  behind-one own rest same has known place is proper some front parts here =
      let one = went (decl_rule known own) (λ more. decls_rule more rest) tt is in
      let names : here.own.names ≡ [] = here.own.names_are in
      let put : Put node_table block_table here.own.next (resolve_decls whole rest [] here.own.next) = subst (λ (s : Scope). Put node_table block_table here.own.next (resolve_decls whole rest s here.own.next)) names here.own.put in
      let top : TopAt rest (resolve_decls whole rest [] here.own.next).own = has one.value (next-place model right known one.value own rest place one.first) one.next proper some here.own.next put in
      let same_parts : (resolve_decls whole rest here.own.names here.own.next).own ≡ (resolve_decls whole rest [] here.own.next).own = ap (λ (s : Scope). (resolve_decls whole rest s here.own.next).own) names in
      record {
        at = top.at;
        name = top.name;
        args = top.args;
        found = same ∙ top.found;
        known = top.known;
        known_here = top.known_here;
        judged = top.judged;
        proper = top.proper;
        next = top.next;
        put = top.put;
        top_args = here.top_args ∙ ap (λ (p : Parts). p.top_args) same_parts ∙ top.top_args;
      }

  type-behind : (own : Decl) (rest : List Decl) (parts : Parts) → TopAt rest parts → top_in (own ∷ rest) ≡ top_in rest → TopAt (own ∷ rest) parts
  type-behind own rest parts top same = record {
    at = top.at;
    name = top.name;
    args = top.args;
    found = same ∙ top.found;
    known = top.known;
    known_here = top.known_here;
    judged = top.judged;
    proper = top.proper;
    next = top.next;
    put = top.put;
    top_args = top.top_args;
  }

  has-top : (rest : List Decl) → HasTop rest
  has-top [] known place is proper some next put = absurd (cc)
  has-top (decl.Enum name variants ∷ rest) known place is proper some next put =
      let own : Decl = decl.Enum name variants in
      let one = went (decl_rule known own) (λ more. decls_rule more rest) tt is in
      type-behind own rest _ (has-top rest one.value (next-place model right known one.value own rest place one.first) one.next (and_parts (is_proper_decl own) (list_all is_proper_decl rest) proper).1 some next put) refl
  has-top (decl.Rec name fields ∷ rest) known place is proper some next put =
      let own : Decl = decl.Rec name fields in
      let one = went (decl_rule known own) (λ more. decls_rule more rest) tt is in
      type-behind own rest _ (has-top rest one.value (next-place model right known one.value own rest place one.first) one.next (and_parts (is_proper_decl own) (list_all is_proper_decl rest) proper).1 some next put) refl
  has-top (decl.Func name params result stmts value ∷ rest) known place is proper some next put =
      let own : Decl = decl.Func name params result stmts value in
      behind-one own rest refl (has-top rest) known place is (and_parts (is_proper_decl own) (list_all is_proper_decl rest) proper).1 some [] _
      (func-put node_table block_table whole (resolve_decls whole rest) name params result stmts value [] next put)
  has-top (decl.Atomic at name params body ∷ rest) known place is proper some next put =
      let own : Decl = decl.Atomic at name params body in
      behind-one own rest refl (has-top rest) known place is (and_parts (is_proper_decl own) (list_all is_proper_decl rest) proper).1 some _ _
      (atomic-put node_table block_table whole (resolve_decls whole rest) at name params body [] next put).other
  has-top (decl.Network at name params ports exec_at body items ∷ rest) known place is proper some next put =
      let own : Decl = decl.Network at name params ports exec_at body items in
      behind-one own rest refl (has-top rest) known place is (and_parts (is_proper_decl own) (list_all is_proper_decl rest) proper).1 some _ _
      (network-put node_table block_table whole (resolve_decls whole rest) at name params ports exec_at body items [] next put).other
  has-top (decl.Top at name args ∷ rest) known place is proper some next put =
      let own : Decl = decl.Top at name args in
      let one = went (decl_rule known own) (λ more. decls_rule more rest) tt is in
      let test = went (top_rule (around_with known []) at name args) (λ _. Ok known) one.value one.first in
      let here = top-put node_table block_table whole (resolve_decls whole rest) at name args [] next put in
      record {
        at = at;
        name = name;
        args = args;
        found = refl;
        known = known;
        known_here = known-at model right known (own ∷ rest) place;
        judged = test.first;
        proper = (and_parts (is_proper_decl own) (list_all is_proper_decl rest) proper).0;
        next = next;
        put = here.own;
        top_args = here.top_args;
      }

  -- the model of `top` is declared, and takes its arguments
  record Called (known : Known) (name : Id) (args : List Expr) (height : ℕ) : Type 0 where
    sig : ModelSig
    found : model_named known name.name ≡ Some sig
    long : length args ≡ length sig.params
    fits : fit (map (judge (around_with known [])) args) sig.params 0 [] ≡ Ok height

  abbrev args_by : Known → Id → List Expr → Option ModelSig → Result ℕ Wrong
  args_by known name args found = elim found [ None ↦ wrong Unknown name.at | Some sig ↦ fit_all name (map (judge (around_with known [])) args) sig.params [] ]

  called-at : (known : Known) (name : Id) (args : List Expr) (height : ℕ) (found : Option ModelSig) → model_named known name.name ≡ found
      → args_by known name args found ≡ Ok height → Called known name args height
  called-at known name args height None is right = absurd (cc)
  called-at known name args height (Some sig) is right =
      let parts = map (judge (around_with known [])) args in
      let one = went (unless (not (length parts == length sig.params)) WrongType name.at) (λ _. fit parts sig.params 0 []) height right in
      let same : length parts ≡ length sig.params = same-number _ _ (unless-is _ _ _ one.value one.first) in
      record {
        sig = sig;
        found = is;
        long = sym (length-map (judge (around_with known [])) args) ∙ same;
        fits = one.next;
      }

  -- the text of the model with a number
  pub record TextOf (owns : List Own) (place : ℕ) (sig : ModelSig) : Type 0 where
    pub own : Own
    pub at : slice_get owns place ≡ Some own
    pub is : model_sig (type_words model.decls) own ≡ sig

  pub text-of : (owns : List Own) (place : ℕ) (sig : ModelSig) (found : Option Own) → slice_get owns place ≡ found → option_map (model_sig (type_words model.decls)) found ≡ Some sig → TextOf owns place sig
  text-of owns place sig None is told = absurd (cc)
  text-of owns place sig (Some own) is told = record { own = own; at = is; is = let same : model_sig (type_words model.decls) own ≡ sig = cc in same }

  top-from : TopAt model.decls (resolved model).own → TopStands model
  top-from top =
      let words : List TypeWord = type_words model.decls in
      let one = went (args_of (around_with top.known []) top.name top.args []) (λ height. within top.at height) tt top.judged in
      let low = within-low top.at one.value tt one.next in
      let called : Called top.known top.name top.args one.value = called-at top.known top.name top.args one.value (model_named top.known top.name.name) refl one.first in
      let here : Placed model_name top.known.models top.name.name called.sig = placed model_name top.known.models top.name.name called.sig called.found in
      let texts : (known_of model.decls).models ≡ map (model_sig words) (owns_of model.decls) = models-are words model.decls [] [] (among-none model_name []) (ruled model right).file.apart in
      let all : top.known.models ≡ map (model_sig words) (owns_of model.decls) = known-models model top.known right top.known_here ∙ texts in
      let told : option_map (model_sig words) (slice_get (owns_of model.decls) here.place) ≡ Some called.sig =
      sym (slice_get-map (model_sig words) (owns_of model.decls) here.place) ∙ ap (λ (l : List ModelSig). slice_get l here.place) (sym all) ∙ here.at in
      let text : TextOf (owns_of model.decls) here.place called.sig = text-of (owns_of model.decls) here.place called.sig (slice_get (owns_of model.decls) here.place) refl told in
      let passes : Passes (λ item. bytes_eq (model_name item) top.name.name) top.known.models here.place = position-at (λ item. bytes_eq (model_name item) top.name.name) top.known.models here.place here.found in
      let same : passes.own ≡ called.sig = some-same passes.own called.sig (sym passes.at ∙ here.at) in
      let named : called.sig.name ≡ top.name.name = ap (λ (s : ModelSig). s.name) (sym same) ∙ (bytes_decides passes.own.name top.name.name).0 passes.passes in
      let models : whole.models ≡ top.known.models = models-stay (known_of model.decls) model.decls ∙ sym (known-models model top.known right top.known_here) in
      let place : place_of model_name whole.models top.name.name ≡ Some here.place = ap (λ (l : List ModelSig). place_of model_name l top.name.name) models ∙ here.found in
      let named_top : top_number model ≡ model_id whole top.name.name =
      ap (λ (o : Option TopOf). option_map_or (λ (own : TopOf). model_id whole own.name) o (let first : ModelId = record { 0 = 0 } in first)) top.found in
      let number : (top_number model).0 ≡ here.place = ap (λ (id : ModelId). id.0) named_top ∙ ap (λ (o : Option ℕ). unwrap_or o 0) place in
      let params : called.sig.params ≡ text_params whole.words text.own.params =
      ap (λ (s : ModelSig). s.params) (sym text.is) ∙ ap (λ (l : List TypeWord). text_params l text.own.params) (sym (words-stay (known_of model.decls) model.decls)) in
      record {
        top = top_as top.name top.args;
        found = top.found;
        own = text.own;
        at = ap (λ (n : ℕ). slice_get (owns_of model.decls) n) number ∙ text.at;
        named = ap (λ (s : ModelSig). s.name) text.is ∙ named;
        args = subst (λ (l : List ExprId). ArgsStand model (param_slots model text.own) top.args l) (sym top.top_args)
            (args-stand model top.known top.known_here top.args text.own.params 0 one.value
            (subst (λ l. fit (map (judge (around_with top.known [])) top.args) l 0 [] ≡ Ok one.value) params called.fits)
            (called.long ∙ ap length params ∙ length-map _ text.own.params) low top.proper top.next top.put);
      }
    where
      some-same : (one other : ModelSig) → (let own : Option ModelSig = Some one in own) ≡ Some other → one ≡ other
      some-same one other is = cc

  pub tops-stand : list_all is_proper_decl model.decls ≡ true → TopStands model
  tops-stand proper =
      let judged : RuledModel model = ruled model right in
      let some : list_any is_top model.decls ≡ true = not-false (list_any is_top model.decls) (unless-is _ _ _ tt judged.has_top) in
      top-from (has-top model.decls (known_of model.decls) (first-place model right) judged.file.judged proper some (record { node = 0; block = 0; via = 0 }) (first-put model right))
