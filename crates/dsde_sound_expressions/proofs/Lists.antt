-- Lists, calls, new records and variants, and empty lists and options.
use Rattle.std.proofs.Common.{◌≡◌, ℕ, ◌+◌, ◌==◌, min, Bool, true, not, List, [], ◌∷◌, map, length, Option, Some, None, Result, Ok, refl, sym, ap, subst, arith}
use Rattle.std.specs.Prelude.{unwrap_or}
use Rattle.std.specs.List.{list_any}
use Rattle.std.specs.Str.{bytes_eq}
use Rattle.std.proofs.lemmas.Bool.{not-false, eqb-true}
use Rattle.dsde_language.specs.given.names.Table.{named}
use Rattle.dsde_language.specs.given.syntax.expr_Expr_TheOpen.{Expr-F}
use Rattle.dsde_language.specs.given.syntax.id_Id.{Id}
use Rattle.dsde_language.specs.given.syntax.type_name_TypeName.{TypeName}
use Rattle.dsde_language.specs.given.values.types_Field.{Field}
use Rattle.dsde_language.specs.given.values.types_Ty.{Ty}
use Rattle.dsde_language.specs.given.values.types_Ty_TheVariants as ty
use Rattle.dsde_language.specs.given.values.types_Types.{Types}
use Rattle.dsde_language.specs.given.values.value_Value_TheVariants as value
use Rattle.dsde_language.specs.declared.known.Around.{Around}
use Rattle.dsde_language.specs.declared.known.Known.{Known}
use Rattle.dsde_language.specs.declared.seen.Seen.{Seen}
use Rattle.dsde_language.specs.declared.signatures.Func.{Func}
use Rattle.dsde_language.specs.declared.wrong.Wrong.{Wrong}
use Rattle.dsde_language.specs.declared.wrong.WrongKind.TheVariants.{Unknown, WrongType}
use Rattle.dsde_language.specs.Steps.{unless, wrong}
use Rattle.dsde_language.specs.RuleTables.{func_name}
use Rattle.dsde_language.specs.Judge.{Scope, Judge, SetJudge, judge_step, total, all_of, fit_all, fill, all_fields, in_order, call_of, record_of, record_at, variant_in, variant_at, fields_at, variants_at, declared_type, type_of}
use Rattle.dsde_language.specs.declared.node.Node.TheVariants as node
use Rattle.dsde_language.specs.Names.{type_number, variant_number}
use Rattle.dsde_language.specs.Typing.{func_number, func_type}
use Rattle.dsde_language.specs.Expressions.{Resolved, resolve_step, head_type}
use Rattle.dsde_language.specs.MeaningOperators.{listed}
use Rattle.dsde_language.specs.Meaning.{Function, Mean, mean_step, called}
use Rattle.dsde_language.specs.MeaningTables.{Coded, called_at}
use Rattle.dsde_language.specs.Typed.{Typed, Sound}
use Rattle.dsde_language.specs.Scopes.{Sees, Within, IsDeclared, Serve, Calls}
use Rattle.dsde_sound_expressions.specs.lemmas.Steps.{went, unless-is}
use Rattle.dsde_sound_expressions.specs.lemmas.Values.{typed-enum, typed-rec, typed-list, typed-nothing}
use Rattle.dsde_sound_expressions.proofs.At.{Ground, ground, At, at-higher, at-seen, made-is, never-total, leaf-at}
use Rattle.dsde_sound_expressions.proofs.Operators.{listed-sound}
use Rattle.dsde_sound_expressions.proofs.Fields.{whole-fields}
use Rattle.dsde_sound_expressions.specs.lemmas.Written.{written}
use Rattle.dsde_sound_expressions.proofs.Variants.{VariantIs, variant-is}
use Rattle.dsde_sound_expressions.proofs.Parts.{Agreed, AllAt, fit-at, all-at, fill-at, alike, alike-have, field_types, types-fill, parts-at}

module _ (types : Types) (coded : Coded) (around : Around) (whole : Known) (functions : List Function) where
  abbrev g : Ground
  g = ground types coded around

  abbrev has : Bool
  has = around.has_elapsed

  module _ {Y X : Type 0} (f : Y → X) (J : X → Judge) (R : X → Resolved) (M : X → Mean) (agreed : (y : Y) → Agreed g has (J (f y)) (R (f y)) (M (f y))) where
    pub list-agreed : (at : ℕ) (ys : List Y)
        → Agreed g has (judge_step around (Expr-F.List at (map J (map f ys)))) (resolve_step whole (Expr-F.List at (map R (map f ys)))) (mean_step whole functions (Expr-F.List at (map M (map f ys))))
    list-agreed at [] = record { holds = λ scope slots found h sees. cc }
    list-agreed at (y ∷ ys) = record {
      holds = λ scope slots found h sees.
          let w1 = went (J (f y) scope) _ found h in
          let t : Ty = w1.value.ty in
          let w2 = went (all_of t (map J (map f ys)) w1.value.height scope) _ found w1.next in
          let height : ℕ = w2.value in
          let w3 = went (total around true at) _ found w2.next in
          let free = never-total around at w3.value w3.first in
          let rest = all-at g has f R M J agreed ys t w1.value.height height scope slots w2.first sees in
          let one = (agreed y).holds scope slots w1.value w1.first sees in
          let all : AllAt g (map R (map f (y ∷ ys))) (map M (map f (y ∷ ys))) slots (alike t (y ∷ ys)) height = (at-higher g (R (f y)) (M (f y)) slots t w1.value.height height rest.high one, rest.all) in
          at-seen g (resolve_step whole (Expr-F.List at (map R (map f (y ∷ ys))))) (mean_step whole functions (Expr-F.List at (map M (map f (y ∷ ys))))) slots (ty.List t) height at found (made-is around (ty.List t) height at found w3.next)
          (parts-at g slots height (map R (map f (y ∷ ys))) (map M (map f (y ∷ ys))) (alike t (y ∷ ys)) height (node.List at) (λ scope. ty.List (head_type (map R (map f (y ∷ ys))) scope)) (ty.List t)
          (λ all own. listed at own) (λ own. listed at own) (ap ty.List one.ty) (λ low. omega arith) (λ all parts own. refl) (λ depth own least low typed. refl)
          (λ own typed. listed-sound types around.is_total at t own free (alike-have types t (y ∷ ys) own typed)) all);
    }

    abbrev called_with : Id → List Judge → Scope → Option Func → Result Seen Wrong
    called_with name args scope own = elim own [ None ↦ wrong Unknown name.at | Some func ↦ call_of around name func args scope ]

    call-found : Within types around.known whole → Serve types around.known functions → Calls types coded around.known whole functions
        → (name : Id) (ys : List Y) (scope : Scope) (slots : List Field) (found : Seen) → Sees has scope slots → (own : Option Func) → named func_name around.known.funcs name.name ≡ own → called_with name (map J (map f ys)) scope own ≡ Ok found
        → At g (resolve_step whole (Expr-F.Call name (map R (map f ys)))) (mean_step whole functions (Expr-F.Call name (map M (map f ys)))) slots found.ty found.height
    call-found within serve calls name ys scope slots found sees None is h = cc
    call-found within serve calls name ys scope slots found sees (Some func) is h =
        let args : List Judge = map J (map f ys) in
        let w1 = went (fit_all name args func.params scope) _ found h in
        let w2 = went (unless (not (length args == length func.params)) WrongType name.at) _ w1.value w1.first in
        let long : length args ≡ length func.params = eqb-true (length args) (length func.params) (not-false (length args == length func.params) (unless-is (not (length args == length func.params)) WrongType name.at w2.value w2.first)) in
        let w3 = went (total around true name.at) _ found w1.next in
        let free = never-total around name.at w3.value w3.first in
        let fitted = fit-at g has f R M J agreed ys func.params 0 w1.value scope slots w2.next long sees in
        let k : ℕ = min w1.value 512 + min func.height 512 in
        at-seen g (resolve_step whole (Expr-F.Call name (map R (map f ys)))) (mean_step whole functions (Expr-F.Call name (map M (map f ys)))) slots func.result k name.at found w3.next
        (parts-at g slots w1.value (map R (map f ys)) (map M (map f ys)) func.params k (node.Call (func_number whole name.name)) (λ scope. func_type whole name.name) func.result
        (λ all own. called_at all coded.functions (func_number whole name.name) own) (λ own. called functions name.name own) (within.results name.name func is) (λ low. omega (arith, low)) (λ all parts own. refl)
        (λ depth own least low typed. calls name.name func depth own is typed (omega (arith, least)) (omega (arith, least, low)))
        (λ own typed. subst (λ (b : Bool). Sound b (Typed types func.result) (called functions name.name own)) (sym free) ((serve name.name func is).sound own typed)) fitted.all)

    pub call-agreed : Within types around.known whole → Serve types around.known functions → Calls types coded around.known whole functions → (name : Id) (ys : List Y)
        → Agreed g has (judge_step around (Expr-F.Call name (map J (map f ys)))) (resolve_step whole (Expr-F.Call name (map R (map f ys)))) (mean_step whole functions (Expr-F.Call name (map M (map f ys))))
    call-agreed within serve calls name ys = record { holds = λ scope slots found h sees. call-found within serve calls name ys scope slots found sees (named func_name around.known.funcs name.name) refl h }

  module _ {Y X : Type 0} (f : Y → X) (J : X → SetJudge) (R : X → Resolved) (M : X → Mean) (agreed : (y : Y) → Agreed g has (J (f y)).value (R (f y)) (M (f y))) (within : Within types around.known whole) where
    abbrev NewAt : Id → ℕ → List Y → List Field → Seen → Type 0
    NewAt owner at ys slots found = At g (resolve_step whole (Expr-F.New at owner (map R (map f ys)))) (mean_step whole functions (Expr-F.New at owner (map M (map f ys)))) slots found.ty found.height

    abbrev new_with : ℕ → Id → ℕ → List SetJudge → Scope → Option (List Field) → Result Seen Wrong
    new_with at owner number sets scope own = elim own [ None ↦ wrong Unknown owner.at | Some fields ↦ record_of at owner number fields sets scope ]

    abbrev new_at : ℕ → Id → List SetJudge → Scope → Option ℕ → Result Seen Wrong
    new_at at owner sets scope own = elim own [ None ↦ wrong Unknown owner.at | Some number ↦ record_at around.known at owner number sets scope ]

    new-fields : (at : ℕ) (owner : Id) (ys : List Y) (scope : Scope) (slots : List Field) (found : Seen) → Sees has scope slots → (number : ℕ) → declared_type around.known owner.name ≡ Some number
        → (own : Option (List Field)) → fields_at around.known number ≡ own → new_with at owner number (map J (map f ys)) scope own ≡ Ok found → NewAt owner at ys slots found
    new-fields at owner ys scope slots found sees number is None fields-is h = cc
    new-fields at owner ys scope slots found sees number is (Some fields) fields-is h =
        let w1 = went (all_fields fields (map J (map f ys))) _ found h in
        let w2 = went (unless (not (in_order fields (map J (map f ys)))) WrongType owner.at) _ found w1.next in
        let w3 = went (fill (map J (map f ys)) fields 0 scope) _ found w2.next in
        let order : in_order fields (map J (map f ys)) ≡ true = not-false (in_order fields (map J (map f ys))) (unless-is (not (in_order fields (map J (map f ys)))) WrongType owner.at w2.value w2.first) in
        let d : IsDeclared around.known whole owner.name number = within.words owner.name number is in
        let n : type_number whole owner.name ≡ number = ap (λ (o : Option ℕ). unwrap_or o 0) d.place in
        let fitted = fill-at g has f R M J agreed ys fields 0 w3.value scope slots w3.first order sees in
        let of = within.records number fields (whole-fields types around.known whole within number fields fields-is) in
        at-seen g (resolve_step whole (Expr-F.New at owner (map R (map f ys)))) (mean_step whole functions (Expr-F.New at owner (map M (map f ys)))) slots (ty.Rec number) w3.value at found w3.next
        (parts-at g slots w3.value (map R (map f ys)) (map M (map f ys)) (field_types fields) w3.value (node.New (type_number whole owner.name)) (λ scope. ty.Rec (type_number whole owner.name)) (ty.Rec number)
        (λ all own. Ok (value.Rec (type_number whole owner.name) own)) (λ own. Ok (value.Rec (type_number whole owner.name) own)) (ap ty.Rec n) (λ low. omega arith) (λ all parts own. refl) (λ depth own least low typed. refl)
        (λ own typed. subst (λ (k : ℕ). Typed types (ty.Rec number) (value.Rec k own)) (sym n) (typed-rec types number own fields of (types-fill types fields own typed))) fitted.all)

    new-place : (at : ℕ) (owner : Id) (ys : List Y) (scope : Scope) (slots : List Field) (found : Seen) → Sees has scope slots → (own : Option ℕ) → declared_type around.known owner.name ≡ own
        → new_at at owner (map J (map f ys)) scope own ≡ Ok found → NewAt owner at ys slots found
    new-place at owner ys scope slots found sees None is h = cc
    new-place at owner ys scope slots found sees (Some number) is h = new-fields at owner ys scope slots found sees number is (fields_at around.known number) refl h

    pub new-agreed : (at : ℕ) (owner : Id) (ys : List Y)
        → Agreed g has (judge_step around (Expr-F.New at owner (map J (map f ys)))) (resolve_step whole (Expr-F.New at owner (map R (map f ys)))) (mean_step whole functions (Expr-F.New at owner (map M (map f ys))))
    new-agreed at owner ys = record { holds = λ scope slots found h sees. new-place at owner ys scope slots found sees (declared_type around.known owner.name) refl h }

  module _ (within : Within types around.known whole) where
    pub none-agreed : (at : ℕ) (own : TypeName) → Agreed g has (judge_step around (Expr-F.NoneOf at own)) (resolve_step whole (Expr-F.NoneOf at own)) (mean_step whole functions (Expr-F.NoneOf at own))
    none-agreed at own = record {
      holds = λ scope slots found h sees.
          let w = went (type_of around.known own) _ found h in
          let t : Ty = w.value.ty in
          at-seen g (resolve_step whole (Expr-F.NoneOf at own)) (mean_step whole functions (Expr-F.NoneOf at own)) slots (ty.Opt t) 0 at found (made-is around (ty.Opt t) 0 at found w.next)
          (leaf-at g (resolve_step whole (Expr-F.NoneOf at own)) (mean_step whole functions (Expr-F.NoneOf at own)) slots (ty.Opt t) node.Nothing (λ start. refl)
          (ap ty.Opt (written around.known whole within.words own w.value w.first)) (λ vars fits. typed-nothing types t) (λ vars all fits. refl));
    }

    pub empty-agreed : (at : ℕ) (own : TypeName) → Agreed g has (judge_step around (Expr-F.EmptyOf at own)) (resolve_step whole (Expr-F.EmptyOf at own)) (mean_step whole functions (Expr-F.EmptyOf at own))
    empty-agreed at own = record {
      holds = λ scope slots found h sees.
          let w = went (type_of around.known own) _ found h in
          let t : Ty = w.value.ty in
          at-seen g (resolve_step whole (Expr-F.EmptyOf at own)) (mean_step whole functions (Expr-F.EmptyOf at own)) slots (ty.List t) 0 at found (made-is around (ty.List t) 0 at found w.next)
          (leaf-at g (resolve_step whole (Expr-F.EmptyOf at own)) (mean_step whole functions (Expr-F.EmptyOf at own)) slots (ty.List t) node.Empty (λ start. refl)
          (ap ty.List (written around.known whole within.words own w.value w.first)) (λ vars fits. typed-list types t [] (record { have = refl; short = omega arith })) (λ vars all fits. refl));
    }

    abbrev VariantAt : Id → Id → List Field → Seen → Type 0
    VariantAt owner variant slots found = At g (resolve_step whole (Expr-F.Variant owner variant)) (mean_step whole functions (Expr-F.Variant owner variant)) slots found.ty found.height

    abbrev variant_with : Id → Id → ℕ → Option (List (List ℕ)) → Result Seen Wrong
    variant_with owner variant number own = elim own [ None ↦ wrong Unknown owner.at | Some names ↦ variant_in number names variant owner.at ]

    abbrev variant_by : Id → Id → Option ℕ → Result Seen Wrong
    variant_by owner variant own = elim own [ None ↦ wrong Unknown owner.at | Some number ↦ variant_at around.known owner variant number ]

    variant-names : (owner variant : Id) (slots : List Field) (found : Seen) (number : ℕ) → declared_type around.known owner.name ≡ Some number → (own : Option (List (List ℕ))) → variants_at around.known number ≡ own
        → variant_with owner variant number own ≡ Ok found → VariantAt owner variant slots found
    variant-names owner variant slots found number is None names-are h = cc
    variant-names owner variant slots found number is (Some names) names-are h =
        let w = went (unless (not (list_any (λ name. bytes_eq name variant.name) names)) Unknown variant.at) _ found h in
        let among : list_any (λ name. bytes_eq name variant.name) names ≡ true = not-false (list_any (λ name. bytes_eq name variant.name) names) (unless-is (not (list_any (λ name. bytes_eq name variant.name) names)) Unknown variant.at w.value w.first) in
        let own : VariantIs types whole owner.name variant.name number = variant-is types around.known whole within owner.name variant.name number names is names-are among in
        at-seen g (resolve_step whole (Expr-F.Variant owner variant)) (mean_step whole functions (Expr-F.Variant owner variant)) slots (ty.Enum number) 0 owner.at found w.next
        (leaf-at g (resolve_step whole (Expr-F.Variant owner variant)) (mean_step whole functions (Expr-F.Variant owner variant)) slots (ty.Enum number) (node.Variant (type_number whole owner.name) (variant_number whole owner.name variant.name)) (λ start. refl)
        (ap ty.Enum own.owned)
        (λ vars fits. subst (λ (k : ℕ). Typed types (ty.Enum number) (value.Enum k (variant_number whole owner.name variant.name))) (sym own.owned) (typed-enum types number (variant_number whole owner.name variant.name) own.is))
        (λ vars all fits. refl))

    variant-place : (owner variant : Id) (slots : List Field) (found : Seen) (own : Option ℕ) → declared_type around.known owner.name ≡ own → variant_by owner variant own ≡ Ok found → VariantAt owner variant slots found
    variant-place owner variant slots found None is h = cc
    variant-place owner variant slots found (Some number) is h = variant-names owner variant slots found number is (variants_at around.known number) refl h

    pub variant-agreed : (owner variant : Id) → Agreed g has (judge_step around (Expr-F.Variant owner variant)) (resolve_step whole (Expr-F.Variant owner variant)) (mean_step whole functions (Expr-F.Variant owner variant))
    variant-agreed owner variant = record { holds = λ scope slots found h sees. variant-place owner variant slots found (declared_type around.known owner.name) refl h }
