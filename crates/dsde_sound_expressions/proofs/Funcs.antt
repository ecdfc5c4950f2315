-- The functions of a file by their text, and those that are known behind declarations.
use Rattle.std.proofs.Common.{◌≡◌, ℕ, false, List, [], ◌∷◌, ◌++◌, map, Result, Ok, refl, sym, ap, ◌∙◌, append_assoc, append-nil}
use Rattle.std.proofs.lemmas.List.{map-append}
use Rattle.dsde_language.specs.given.syntax.id_Id.{Id}
use Rattle.dsde_language.specs.given.syntax.expr_Expr.{Expr}
use Rattle.dsde_language.specs.given.syntax.stmt_Stmt.{Stmt}
use Rattle.dsde_language.specs.given.syntax.decl_Decl.{Decl}
use Rattle.dsde_language.specs.given.syntax.decl_Decl_TheVariants as decl
use Rattle.dsde_language.specs.given.syntax.decl_Typed.{Typed}
use Rattle.dsde_language.specs.given.syntax.type_name_TypeName.{TypeName}
use Rattle.dsde_language.specs.given.values.types_Ty.{Ty}
use Rattle.dsde_language.specs.declared.known.Known.{Known}
use Rattle.dsde_language.specs.declared.seen.Binding.{Binding}
use Rattle.dsde_language.specs.declared.seen.TypeSeen.{TypeSeen}
use Rattle.dsde_language.specs.declared.signatures.Func.{Func}
use Rattle.dsde_language.specs.declared.signatures.TypeWord.{TypeWord}
use Rattle.dsde_language.specs.declared.wrong.Wrong.{Wrong}
use Rattle.dsde_language.specs.Steps.{◌>>=◌, above, within}
use Rattle.dsde_language.specs.RuleTables.{added, by_text, text_params, func_name}
use Rattle.dsde_language.specs.Judge.{Scope, type_of}
use Rattle.dsde_language.specs.Blocks.{func_of, func_height, around_func, params_all}
use Rattle.dsde_language.specs.Rules.{apart_all}
use Rattle.dsde_language.specs.DeclaredModels.{with_func, with_funcs}
use Rattle.dsde_sound_expressions.specs.lemmas.Places.{added-new}
use Rattle.dsde_sound_expressions.specs.lemmas.Steps.{ok-is, Went, went}
use Rattle.dsde_sound_expressions.proofs.Steps.{is_name, apart-parts, Among, among-more, among-new}

-- a function by its name and by the type of its result
pub record Sig : Type 0 where
  pub name : List ℕ
  pub result : Ty

abbrev pub sig : Func → Sig
sig func = record { name = func.name; result = func.result }

abbrev pub sigs_in : List TypeWord → List Decl → List Sig
sigs_in words [] = []
sigs_in words (decl.Enum name variants ∷ decls) = sigs_in words decls
sigs_in words (decl.Rec name fields ∷ decls) = sigs_in words decls
sigs_in words (decl.Func name params result stmts value ∷ decls) = record { name = name.name; result = by_text words result } ∷ sigs_in words decls
sigs_in words (decl.Atomic at name params body ∷ decls) = sigs_in words decls
sigs_in words (decl.Network at name params ports exec_at body items ∷ decls) = sigs_in words decls
sigs_in words (decl.Top at name args ∷ decls) = sigs_in words decls

pub sigs-append : (words : List TypeWord) (decls more : List Decl) → sigs_in words (decls ++ more) ≡ sigs_in words decls ++ sigs_in words more
sigs-append words [] more = refl
sigs-append words (decl.Enum name variants ∷ decls) more = sigs-append words decls more
sigs-append words (decl.Rec name fields ∷ decls) more = sigs-append words decls more
sigs-append words (decl.Func name params result stmts value ∷ decls) more =
    let own : Sig = record { name = name.name; result = by_text words result } in
    ap (λ (l : List Sig). own ∷ l) (sigs-append words decls more)
sigs-append words (decl.Atomic at name params body ∷ decls) more = sigs-append words decls more
sigs-append words (decl.Network at name params ports exec_at body items ∷ decls) more = sigs-append words decls more
sigs-append words (decl.Top at name args ∷ decls) more = sigs-append words decls more

-- what the functions of a file leave as it is
pub words-stay : (known : Known) (decls : List Decl) → (with_funcs known decls).words ≡ known.words
words-stay known [] = refl
words-stay known (decl.Enum name variants ∷ decls) = words-stay known decls
words-stay known (decl.Rec name fields ∷ decls) = words-stay known decls
words-stay known (decl.Func name params result stmts value ∷ decls) = words-stay (with_func known (decl.Func name params result stmts value)) decls
words-stay known (decl.Atomic at name params body ∷ decls) = words-stay known decls
words-stay known (decl.Network at name params ports exec_at body items ∷ decls) = words-stay known decls
words-stay known (decl.Top at name args ∷ decls) = words-stay known decls

pub types-stay : (known : Known) (decls : List Decl) → (with_funcs known decls).types ≡ known.types
types-stay known [] = refl
types-stay known (decl.Enum name variants ∷ decls) = types-stay known decls
types-stay known (decl.Rec name fields ∷ decls) = types-stay known decls
types-stay known (decl.Func name params result stmts value ∷ decls) = types-stay (with_func known (decl.Func name params result stmts value)) decls
types-stay known (decl.Atomic at name params body ∷ decls) = types-stay known decls
types-stay known (decl.Network at name params ports exec_at body items ∷ decls) = types-stay known decls
types-stay known (decl.Top at name args ∷ decls) = types-stay known decls

pub models-stay : (known : Known) (decls : List Decl) → (with_funcs known decls).models ≡ known.models
models-stay known [] = refl
models-stay known (decl.Enum name variants ∷ decls) = models-stay known decls
models-stay known (decl.Rec name fields ∷ decls) = models-stay known decls
models-stay known (decl.Func name params result stmts value ∷ decls) = models-stay (with_func known (decl.Func name params result stmts value)) decls
models-stay known (decl.Atomic at name params body ∷ decls) = models-stay known decls
models-stay known (decl.Network at name params ports exec_at body items ∷ decls) = models-stay known decls
models-stay known (decl.Top at name args ∷ decls) = models-stay known decls

-- a function with a name that none of those before it has
pub one-func : (funcs : List Func) (names : List (List ℕ)) (func : Func) → Among func_name funcs names → is_name names func.name ≡ false
    → added func_name funcs func ≡ funcs ++ func ∷ []
one-func funcs names func among new = added-new func_name funcs func (among.among func.name new)

-- the functions of all declarations
abbrev FuncsAre : List Decl → Type 0
FuncsAre decls = (known : Known) (names : List (List ℕ)) → Among func_name known.funcs names → apart_all names decls ≡ Ok tt
    → map sig (with_funcs known decls).funcs ≡ map sig known.funcs ++ sigs_in known.words decls

funcs-same : (known : Known) (names : List (List ℕ)) (own : Decl) (decls : List Decl) → FuncsAre decls
    → Among func_name known.funcs names → apart_all names (own ∷ decls) ≡ Ok tt → map sig (with_funcs known decls).funcs ≡ map sig known.funcs ++ sigs_in known.words decls
funcs-same known names own decls rest among apart = rest known _ (among-more func_name known.funcs names _ among) (apart-parts names own decls apart).rest

pub funcs-are : (decls : List Decl) → FuncsAre decls
funcs-are [] known names among apart = sym (append-nil (map sig known.funcs))
funcs-are (decl.Enum name variants ∷ decls) known names among apart = funcs-same known names (decl.Enum name variants) decls (funcs-are decls) among apart
funcs-are (decl.Rec name fields ∷ decls) known names among apart = funcs-same known names (decl.Rec name fields) decls (funcs-are decls) among apart
funcs-are (decl.Func name params result stmts value ∷ decls) known names among apart =
    let parts = apart-parts names (decl.Func name params result stmts value) decls apart in
    let own : Func = record { name = name.name; params = text_params known.words params; result = by_text known.words result; height = 0 } in
    let more : Known = record known { funcs = known.funcs ++ own ∷ [] } in
    ap (λ (l : List Func). let known : Known = record known { funcs = l } in map sig (with_funcs known decls).funcs) (one-func known.funcs names own among parts.new)
    ∙ funcs-are decls more (names ++ name.name ∷ []) (among-new func_name known.funcs names own among) parts.rest
    ∙ ap (λ (l : List Sig). l ++ sigs_in known.words decls) (map-append sig known.funcs (own ∷ []))
    ∙ append_assoc (map sig known.funcs) (sig own ∷ []) (sigs_in known.words decls)
funcs-are (decl.Atomic at name params body ∷ decls) known names among apart = funcs-same known names (decl.Atomic at name params body) decls (funcs-are decls) among apart
funcs-are (decl.Network at name params ports exec_at body items ∷ decls) known names among apart = funcs-same known names (decl.Network at name params ports exec_at body items) decls (funcs-are decls) among apart
funcs-are (decl.Top at name args ∷ decls) known names among apart = funcs-same known names (decl.Top at name args) decls (funcs-are decls) among apart

-- a function in which nothing is wrong, by its name and by the type of its result
pub record Judged (known : Known) (name : Id) (result : TypeName) (func : Func) : Type 0 where
  pub named : func.name ≡ name.name
  pub seen : TypeSeen
  pub typed : type_of known result ≡ Ok seen
  pub is : func.result ≡ seen.ty

module _ (known : Known) (name : Id) (params : List Typed) (result : TypeName) (stmts : List Stmt) (value : Expr) where
  abbrev made_func : Scope → TypeSeen → ℕ → Func
  made_func scope own height = record { name = name.name; params = map (λ (bound : Binding). bound.ty) scope; result = own.ty; height = above height }

  abbrev with_test : Scope → TypeSeen → ℕ → Result Func Wrong
  with_test scope own height = within name.at height >>= (λ _. Ok (made_func scope own height))

  abbrev with_height : Scope → TypeSeen → Result Func Wrong
  with_height scope own = func_height (around_func known) stmts value own.ty scope >>= with_test scope own

  abbrev with_result : Scope → Result Func Wrong
  with_result scope = type_of known result >>= with_height scope

  pub func-judged : (func : Func) → func_of known name params result stmts value ≡ Ok func → Judged known name result func
  func-judged func is =
      let one : Went (params_all known [] params) with_result func = went (params_all known [] params) with_result func is in
      let two : Went (type_of known result) (with_height one.value) func = went (type_of known result) (with_height one.value) func one.next in
      let three : Went (func_height (around_func known) stmts value two.value.ty one.value) (with_test one.value two.value) func = went (func_height (around_func known) stmts value two.value.ty one.value) (with_test one.value two.value) func two.next in
      let four = went (within name.at three.value) (λ _. Ok (made_func one.value two.value three.value)) func three.next in
      let same : made_func one.value two.value three.value ≡ func = ok-is (made_func one.value two.value three.value) func four.next in
      record { named = ap (λ (f : Func). f.name) (sym same); seen = two.value; typed = two.first; is = ap (λ (f : Func). f.result) (sym same) }
