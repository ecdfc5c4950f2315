-- What each declaration declares.
use Rattle.std.proofs.Common.{◌≡◌, ℕ, ◌++◌, ◌∙◌, true, false, if◌then◌else◌, List, [], ◌∷◌, map, slice_get, refl, sym, subst, append_assoc}
use Rattle.std.specs.Prelude.{zero, suc}
use Rattle.std.proofs.lemmas.List.{append-nil}
use Rattle.dsde_language.specs.given.syntax.decl_Decl.{Decl}
use Rattle.dsde_language.specs.given.syntax.decl_Decl_TheVariants as decl
use Rattle.dsde_language.specs.given.syntax.decl_Model.{Model}
use Rattle.dsde_language.specs.declared.known.Known.{Known}
use Rattle.dsde_language.specs.DeclaredModels.{Own, owns_of, port_fields, state_fields, typed_fields, whole_of}
use Rattle.dsde_language.specs.declared.info.Info.{Info}
use Rattle.dsde_language.specs.NodeModels.{infos_from}
use Rattle.dsde_program_layout.specs.Declared.{Declares, InfosAreDeclared, IsDeclared}

-- what a declaration declares
abbrev info_by : Known → Own → Info
info_by known own = record {
  name = own.name.name;
  at = own.at;
  network = own.network;
  params = typed_fields known own.params;
  ins = port_fields known false own.ports;
  outs = port_fields known true own.ports;
  boss_ins = if own.network then port_fields known false own.body.ports else [];
  boss_outs = if own.network then port_fields known true own.body.ports else [];
  states = state_fields known own.body.states;
}

infos-by : (known : Known) (infos : List Info) (decls : List Decl) → infos_from known infos decls ≡ infos ++ map (info_by known) (owns_of decls)
infos-by known infos [] = sym (append-nil infos)
infos-by known infos (decl.Enum name variants ∷ decls) = infos-by known infos decls
infos-by known infos (decl.Rec name fields ∷ decls) = infos-by known infos decls
infos-by known infos (decl.Func name params result stmts value ∷ decls) = infos-by known infos decls
infos-by known infos (decl.Top at name args ∷ decls) = infos-by known infos decls
infos-by known infos (decl.Atomic at name params body ∷ decls) =
    let first : Own = record { name = name; at = at; network = false; params = params; ports = body.ports; start_at = at; body = body } in
    infos-by known (infos ++ info_by known first ∷ []) decls
    ∙ append_assoc infos (info_by known first ∷ []) (map (info_by known) (owns_of decls))
infos-by known infos (decl.Network at name params ports exec_at body items ∷ decls) =
    let first : Own = record { name = name; at = at; network = true; params = params; ports = ports; start_at = exec_at; body = body } in
    infos-by known (infos ++ info_by known first ∷ []) decls
    ∙ append_assoc infos (info_by known first ∷ []) (map (info_by known) (owns_of decls))

module _ (model : Model) where
  -- one declares what the other says, in their order
  abbrev AllDeclare : List Own → List Info → Type 0
  AllDeclare [] [] = Unit {0}
  AllDeclare (own ∷ owns) (info ∷ infos) = IsDeclared model own info × AllDeclare owns infos
  AllDeclare _ _ = ⊥

  all-declare : (decls : List Decl) → AllDeclare (owns_of decls) (map (info_by (whole_of model)) (owns_of decls))
  all-declare [] = tt
  all-declare (decl.Enum name variants ∷ decls) = all-declare decls
  all-declare (decl.Rec name fields ∷ decls) = all-declare decls
  all-declare (decl.Func name params result stmts value ∷ decls) = all-declare decls
  all-declare (decl.Top at name args ∷ decls) = all-declare decls
  all-declare (decl.Atomic at name params body ∷ decls) = (record { name = refl; at = refl; network = refl; params = refl; ins = refl; outs = refl; body_ins = refl; body_outs = refl; states = refl }, all-declare decls)
  all-declare (decl.Network at name params ports exec_at body items ∷ decls) = (record { name = refl; at = refl; network = refl; params = refl; ins = refl; outs = refl; body_ins = refl; body_outs = refl; states = refl }, all-declare decls)

  at-number : (owns : List Own) (infos : List Info) → AllDeclare owns infos → (number : ℕ) → Declares model (slice_get owns number) (slice_get infos number)
  at-number [] [] all number = tt
  at-number [] (info ∷ infos) all number = absurd all
  at-number (own ∷ owns) [] all number = absurd all
  at-number (own ∷ owns) (info ∷ infos) all zero = all.0
  at-number (own ∷ owns) (info ∷ infos) all (suc number) = at-number owns infos all.1 number

pub infos-are-declared : InfosAreDeclared
infos-are-declared model number =
    subst (λ (infos : List Info). Declares model (slice_get (owns_of model.decls) number) (slice_get infos number)) (sym (infos-by (whole_of model) [] model.decls))
    (at-number model (owns_of model.decls) (map (info_by (whole_of model)) (owns_of model.decls)) (all-declare model model.decls) number)
