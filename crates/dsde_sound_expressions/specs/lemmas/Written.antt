-- Types as they are written: what the rules know of them, and what their text says.
use Rattle.std.proofs.Common.{◌≡◌, ℕ, Bool, true, false, if◌then◌else◌, List, Option, Some, None, Result, Ok, refl, sym, ◌∙◌, ap, subst, slice_get, nat_lt}
use Rattle.std.specs.Prelude.{unwrap_or}
use Rattle.dsde_language.specs.given.syntax.id_Id.{Id}
use Rattle.dsde_language.specs.given.syntax.type_name_TypeName.{TypeName}
use Rattle.dsde_language.specs.given.syntax.type_name_TypeName_TheOpen.{TypeName-F}
use Rattle.dsde_language.specs.given.syntax.type_name_TypeName_TheViews.{roll-TypeName}
use Rattle.dsde_language.specs.given.syntax.type_name_TypeName_TheFolds.{map-TypeName, fold-roll-TypeName, ind-TypeName}
use Rattle.dsde_language.specs.given.values.types_Ty.{Ty}
use Rattle.dsde_language.specs.given.values.types_Ty_TheVariants as ty
use Rattle.dsde_language.specs.declared.known.Known.{Known}
use Rattle.dsde_language.specs.declared.seen.TypeSeen.{TypeSeen}
use Rattle.dsde_language.specs.declared.wrong.Wrong.{Wrong}
use Rattle.dsde_language.specs.declared.wrong.WrongKind.TheVariants.{Unknown, Limit}
use Rattle.dsde_language.specs.Steps.{wrong}
use Rattle.dsde_language.specs.Types.{deeper}
use Rattle.dsde_language.specs.RuleTables.{numbered, text_type, text_step, by_text}
use Rattle.dsde_language.specs.Judge.{made_type, declared_type, type_at, type_step, type_of}
use Rattle.dsde_language.specs.Scopes.{IsDeclared}
use Rattle.dsde_sound_expressions.specs.lemmas.Steps.{went, ok-is}

type-made : (t : Ty) (depth at : ℕ) (seen : TypeSeen) → made_type t depth at ≡ Ok seen → t ≡ seen.ty
type-made t depth at seen h = by_limit (nat_lt 64 depth) h
  where
    by_limit : (b : Bool) → if◌then◌else◌ {A = Result TypeSeen Wrong} b (wrong Limit at) (Ok (record { ty = t; depth = depth })) ≡ Ok seen → t ≡ seen.ty
    by_limit true k = cc
    by_limit false k = ap (λ (s : TypeSeen). s.ty) (ok-is (record { ty = t; depth = depth }) seen k)

module _ (known whole : Known) (declared : (name : List ℕ) (number : ℕ) → declared_type known name ≡ Some number → IsDeclared known whole name number) where
  abbrev Written : TypeName → Type 0
  Written name = (seen : TypeSeen) → type_of known name ≡ Ok seen → by_text whole.words name ≡ seen.ty

  abbrev StepWritten : TypeName-F (Result TypeSeen Wrong) → TypeName-F Ty → Type 0
  StepWritten x y = (seen : TypeSeen) → type_step known x ≡ Ok seen → text_step whole.words y ≡ seen.ty

  written-roll : (x : TypeName-F TypeName) → StepWritten (map-TypeName TypeName (Result TypeSeen Wrong) (type_of known) x) (map-TypeName TypeName Ty (by_text whole.words) x) → Written (roll-TypeName x)
  written-roll x own seen h =
      fold-roll-TypeName Ty (text_step whole.words) x
      ∙ own seen (sym (fold-roll-TypeName (Result TypeSeen Wrong) (type_step known) x) ∙ h)

  abbrev found_id : Id → Option ℕ → Result TypeSeen Wrong
  found_id id own = elim own [ None ↦ wrong Unknown id.at | Some number ↦ Ok (record { ty = type_at known number; depth = unwrap_or (slice_get known.depths number) 0 }) ]

  id-found : (id : Id) (seen : TypeSeen) (own : Option ℕ) → declared_type known id.name ≡ own → found_id id own ≡ Ok seen → text_type whole.words id ≡ seen.ty
  id-found id seen None is h = cc
  id-found id seen (Some number) is h =
      let d : IsDeclared known whole id.name number = declared id.name number is in
      ap (λ (o : Option ℕ). elim o [ None ↦ ty.Rec 0 | Some n ↦ numbered n (slice_get whole.words n) ]) d.place
      ∙ d.own
      ∙ ap (λ (s : TypeSeen). s.ty) (ok-is (record { ty = type_at known number; depth = unwrap_or (slice_get known.depths number) 0 }) seen h)

  abbrev E : Type 0
  E = (e : TypeName) × Written e

  written-case : (y : TypeName-F E) → Written (roll-TypeName (map-TypeName E TypeName (λ e. e.0) y))
  written-case (TypeName-F.Int at) = written-roll (TypeName-F.Int at) (λ seen h. ap (λ (s : TypeSeen). s.ty) (ok-is (record { ty = ty.Int; depth = 0 }) seen h))
  written-case (TypeName-F.Bool at) = written-roll (TypeName-F.Bool at) (λ seen h. ap (λ (s : TypeSeen). s.ty) (ok-is (record { ty = ty.Bool; depth = 0 }) seen h))
  written-case (TypeName-F.Named id) = written-roll (TypeName-F.Named id) (λ seen h. id-found id seen (declared_type known id.name) refl h)
  written-case (TypeName-F.List at (e, inner)) = written-roll (TypeName-F.List at e) (λ seen h.
      let w = went (type_of known e) _ seen h in
      ap ty.List (inner w.value w.first) ∙ type-made (ty.List w.value.ty) (deeper w.value.depth) at seen w.next)
  written-case (TypeName-F.Opt at (e, inner)) = written-roll (TypeName-F.Opt at e) (λ seen h.
      let w = went (type_of known e) _ seen h in
      ap ty.Opt (inner w.value w.first) ∙ type-made (ty.Opt w.value.ty) (deeper w.value.depth) at seen w.next)

  -- A type in which nothing is wrong is the one that its text says in the whole file.
  pub written : (name : TypeName) (seen : TypeSeen) → type_of known name ≡ Ok seen → by_text whole.words name ≡ seen.ty
  written = ind-TypeName Written (λ x y is. subst (λ (z : TypeName-F TypeName). Written (roll-TypeName z)) is (written-case y))
