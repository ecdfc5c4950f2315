-- The models of a file by their text.
use Rattle.std.proofs.Common.{◌≡◌, ℕ, true, false, List, [], ◌∷◌, ◌++◌, map, Ok, refl, sym, ap, subst, ◌∙◌, append_assoc, append-nil}
use Rattle.dsde_language.specs.given.syntax.decl_Decl.{Decl}
use Rattle.dsde_language.specs.given.syntax.decl_Decl_TheVariants as decl
use Rattle.dsde_language.specs.declared.signatures.ModelSig.{ModelSig}
use Rattle.dsde_language.specs.declared.signatures.TypeWord.{TypeWord}
use Rattle.dsde_language.specs.RuleTables.{added, model_name, models_from, text_params, text_ports}
use Rattle.dsde_language.specs.Rules.{own_name, apart_all}
use Rattle.dsde_language.specs.DeclaredModels.{Own, owns_of}
use Rattle.dsde_sound_expressions.specs.lemmas.Places.{added-new}
use Rattle.dsde_sound_expressions.proofs.Steps.{is_name, apart-parts, Among, among-more, among-new}

-- a model, as it is declared
abbrev pub model_sig : List TypeWord → Own → ModelSig
model_sig words own = record { name = own.name.name; params = text_params words own.params; ports = text_ports words [] own.ports }

module _ (words : List TypeWord) where
  abbrev ModelsAre : List Decl → Type 0
  ModelsAre decls = (models : List ModelSig) (names : List (List ℕ)) → Among model_name models names → apart_all names decls ≡ Ok tt
      → models_from words models decls ≡ models ++ map (model_sig words) (owns_of decls)

  models-same : (own : Decl) (decls : List Decl) → ModelsAre decls → (models : List ModelSig) (names : List (List ℕ)) → Among model_name models names → apart_all names (own ∷ decls) ≡ Ok tt
      → models_from words models decls ≡ models ++ map (model_sig words) (owns_of decls)
  models-same own decls rest models names among apart = rest models _ (among-more model_name models names _ among) (apart-parts names own decls apart).rest

  models-more : (own : Decl) (decls : List Decl) (text : Own) → text.name ≡ own_name own → ModelsAre decls → (models : List ModelSig) (names : List (List ℕ)) → Among model_name models names → apart_all names (own ∷ decls) ≡ Ok tt
      → models_from words (added model_name models (model_sig words text)) decls ≡ models ++ map (model_sig words) (text ∷ owns_of decls)
  models-more own decls text same rest models names among apart =
      let parts = apart-parts names own decls apart in
      let sig : ModelSig = model_sig words text in
      let named : text.name.name ≡ (own_name own).name = ap (λ id. id.name) same in
      let new : added model_name models sig ≡ models ++ sig ∷ [] = added-new model_name models sig (among.among sig.name (ap (is_name names) named ∙ parts.new)) in
      ap (λ (l : List ModelSig). models_from words l decls) new
      ∙ rest (models ++ sig ∷ []) (names ++ (own_name own).name ∷ [])
      (subst (λ (n : List ℕ). Among model_name (models ++ sig ∷ []) (names ++ n ∷ [])) named (among-new model_name models names sig among)) parts.rest
      ∙ append_assoc models (sig ∷ []) (map (model_sig words) (owns_of decls))

  pub models-are : (decls : List Decl) → ModelsAre decls
  models-are [] models names among apart = sym (append-nil models)
  models-are (decl.Enum name variants ∷ decls) models names among apart = models-same (decl.Enum name variants) decls (models-are decls) models names among apart
  models-are (decl.Rec name fields ∷ decls) models names among apart = models-same (decl.Rec name fields) decls (models-are decls) models names among apart
  models-are (decl.Func name params result stmts value ∷ decls) models names among apart = models-same (decl.Func name params result stmts value) decls (models-are decls) models names among apart
  models-are (decl.Atomic at name params body ∷ decls) models names among apart =
      let text : Own = record { name = name; at = at; network = false; params = params; ports = body.ports; start_at = at; body = body } in
      models-more (decl.Atomic at name params body) decls text refl (models-are decls) models names among apart
  models-are (decl.Network at name params ports exec_at body items ∷ decls) models names among apart =
      let text : Own = record { name = name; at = at; network = true; params = params; ports = ports; start_at = exec_at; body = body } in
      models-more (decl.Network at name params ports exec_at body items) decls text refl (models-are decls) models names among apart
  models-are (decl.Top at name args ∷ decls) models names among apart = models-same (decl.Top at name args) decls (models-are decls) models names among apart
