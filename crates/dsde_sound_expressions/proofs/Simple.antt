-- Expressions of one part and of two, and those without parts.
use Rattle.std.proofs.Common.{◌≡◌, ℕ, ◌^◌, max, pos, Bool, true, not, List, Option, Some, None, Result, Ok, refl, sym, nat_lt}
use Rattle.std.proofs.lemmas.Bool.{not-false}
use Rattle.dsde_language.specs.given.syntax.expr_Expr_TheOpen.{Expr-F}
use Rattle.dsde_language.specs.given.syntax.id_Id.{Id}
use Rattle.dsde_language.specs.given.syntax.token_Sign.{Sign}
use Rattle.dsde_language.specs.given.syntax.Levels.{is_comparison}
use Rattle.dsde_language.specs.given.values.types_Field.{Field}
use Rattle.dsde_language.specs.given.values.types_Ty.{Ty}
use Rattle.dsde_language.specs.given.values.types_Ty_TheVariants as ty
use Rattle.dsde_language.specs.given.values.types_Types.{Types}
use Rattle.dsde_language.specs.declared.known.Around.{Around}
use Rattle.dsde_language.specs.declared.known.Known.{Known}
use Rattle.dsde_language.specs.declared.seen.Binding.{Binding}
use Rattle.dsde_language.specs.declared.seen.Seen.{Seen}
use Rattle.dsde_language.specs.declared.wrong.Wrong.{Wrong}
use Rattle.dsde_language.specs.declared.wrong.WrongKind.TheVariants.{Unknown}
use Rattle.dsde_language.specs.Steps.{unless, wrong}
use Rattle.dsde_language.specs.Types.{wanted, held_type}
use Rattle.dsde_language.specs.Judge.{Scope, Judge, judge_step, made, total, compared, bound_to}
use Rattle.dsde_language.specs.declared.node.Node.TheVariants as node
use Rattle.dsde_language.specs.Names.{elapsed_name}
use Rattle.dsde_language.specs.Typing.{slot_type}
use Rattle.dsde_language.specs.DeclaredOperators.{sign_binary}
use Rattle.dsde_language.specs.Expressions.{Resolved, resolve_step}
use Rattle.dsde_language.specs.MeaningOperators.{combined, denied, negated, or_else}
use Rattle.dsde_language.specs.Meaning.{Function, Mean, mean_step}
use Rattle.dsde_language.specs.MeaningTables.{Coded}
use Rattle.dsde_language.specs.Scopes.{Sees, Slotted}
use Rattle.dsde_sound_expressions.specs.lemmas.Steps.{went, unless-is}
use Rattle.dsde_sound_expressions.specs.lemmas.Types.{wanted-is, held-is}
use Rattle.dsde_sound_expressions.specs.lemmas.Values.{typed-int, typed-bool}
use Rattle.dsde_sound_expressions.proofs.At.{Ground, ground, At, at-typed, at-seen, made-is, never-total, leaf-at, one-at, two-at}
use Rattle.dsde_sound_expressions.proofs.Operators.{denied-sound, negated-sound, or-else-sound}
use Rattle.dsde_sound_expressions.proofs.Signs.{Takes, compares}
use Rattle.dsde_sound_expressions.proofs.Seeing.{slot-at, slot-type-is}
use Rattle.dsde_sound_expressions.proofs.Parts.{Agreed}

module _ (types : Types) (coded : Coded) (around : Around) (whole : Known) (functions : List Function) where
  abbrev g : Ground
  g = ground types coded around

  abbrev has : Bool
  has = around.has_elapsed

  pub or-else-agreed : (at : ℕ) (j1 j2 : Judge) (r1 r2 : Resolved) (m1 m2 : Mean) → Agreed g has j1 r1 m1 → Agreed g has j2 r2 m2
      → Agreed g has (judge_step around (Expr-F.OrElse at j1 j2)) (resolve_step whole (Expr-F.OrElse at r1 r2)) (mean_step whole functions (Expr-F.OrElse at m1 m2))
  or-else-agreed at j1 j2 r1 r2 m1 m2 p1 p2 = record {
    holds = λ scope slots found h sees.
        let w1 = went (j1 scope) _ found h in
        let w2 = went (held_type w1.value) _ found w1.next in
        let t : Ty = w2.value in
        let w3 = went (j2 scope) _ found w2.next in
        let w4 = went (wanted t w3.value) _ found w3.next in
        let one = at-typed g r1 m1 slots w1.value.ty (ty.Opt t) w1.value.height (held-is w1.value t w2.first) (p1.holds scope slots w1.value w1.first sees) in
        let two = at-typed g r2 m2 slots w3.value.ty t w3.value.height (sym (wanted-is t w3.value w4.value w4.first)) (p2.holds scope slots w3.value w3.first sees) in
        at-seen g (resolve_step whole (Expr-F.OrElse at r1 r2)) (mean_step whole functions (Expr-F.OrElse at m1 m2)) slots t (max w1.value.height w3.value.height) at found w4.next
        (two-at g r1 r2 r2.ty m1 m2 slots (ty.Opt t) t t w1.value.height w3.value.height node.OrElse (λ v x. or_else v x) two.ty (λ all a b values. refl) (or-else-sound types around.is_total t) one two);
  }

  pub not-agreed : (at : ℕ) (j : Judge) (r : Resolved) (m : Mean) → Agreed g has j r m
      → Agreed g has (judge_step around (Expr-F.Not at j)) (resolve_step whole (Expr-F.Not at r)) (mean_step whole functions (Expr-F.Not at m))
  not-agreed at j r m p = record {
    holds = λ scope slots found h sees.
        let w1 = went (j scope) _ found h in
        let w2 = went (wanted ty.Bool w1.value) _ found w1.next in
        let one = at-typed g r m slots w1.value.ty ty.Bool w1.value.height (sym (wanted-is ty.Bool w1.value w2.value w2.first)) (p.holds scope slots w1.value w1.first sees) in
        at-seen g (resolve_step whole (Expr-F.Not at r)) (mean_step whole functions (Expr-F.Not at m)) slots ty.Bool w1.value.height at found w2.next
        (one-at g r (resolve_step whole (Expr-F.Not at r)) m slots ty.Bool ty.Bool w1.value.height node.Not (λ v. denied v) (λ v. denied v) (λ start. refl) refl (λ all part values. refl) (λ v typed. refl) (denied-sound types around.is_total) one);
  }

  pub neg-agreed : (at : ℕ) (j : Judge) (r : Resolved) (m : Mean) → Agreed g has j r m
      → Agreed g has (judge_step around (Expr-F.Neg at j)) (resolve_step whole (Expr-F.Neg at r)) (mean_step whole functions (Expr-F.Neg at m))
  neg-agreed at j r m p = record {
    holds = λ scope slots found h sees.
        let w1 = went (j scope) _ found h in
        let w2 = went (wanted ty.Int w1.value) _ found w1.next in
        let w3 = went (total around true at) _ found w2.next in
        let one = at-typed g r m slots w1.value.ty ty.Int w1.value.height (sym (wanted-is ty.Int w1.value w2.value w2.first)) (p.holds scope slots w1.value w1.first sees) in
        at-seen g (resolve_step whole (Expr-F.Neg at r)) (mean_step whole functions (Expr-F.Neg at m)) slots ty.Int w1.value.height at found w3.next
        (one-at g r (resolve_step whole (Expr-F.Neg at r)) m slots ty.Int ty.Int w1.value.height (node.Neg at) (λ v. negated at v) (λ v. negated at v) (λ start. refl) refl (λ all part values. refl) (λ v typed. refl)
        (negated-sound types around.is_total at (never-total around at w3.value w3.first)) one);
  }

  pub compare-agreed : (which : Sign) (at : ℕ) (j1 j2 : Judge) (r1 r2 : Resolved) (m1 m2 : Mean) → is_comparison which ≡ true → Agreed g has j1 r1 m1 → Agreed g has j2 r2 m2
      → Agreed g has (judge_step around (Expr-F.Compare which at j1 j2)) (resolve_step whole (Expr-F.Compare which at r1 r2)) (mean_step whole functions (Expr-F.Compare which at m1 m2))
  compare-agreed which at j1 j2 r1 r2 m1 m2 so p1 p2 = record {
    holds = λ scope slots found h sees.
        let w1 = went (j1 scope) _ found h in
        let w2 = went (compared which w1.value) _ found w1.next in
        let t : Ty = w2.value in
        let w3 = went (j2 scope) _ found w2.next in
        let w4 = went (wanted t w3.value) _ found w3.next in
        let takes : Takes types around.is_total which at w1.value t ty.Bool = compares types around at w1.value t which so w2.first in
        let one = at-typed g r1 m1 slots w1.value.ty t w1.value.height takes.is (p1.holds scope slots w1.value w1.first sees) in
        let two = at-typed g r2 m2 slots w3.value.ty t w3.value.height (sym (wanted-is t w3.value w4.value w4.first)) (p2.holds scope slots w3.value w3.first sees) in
        at-seen g (resolve_step whole (Expr-F.Compare which at r1 r2)) (mean_step whole functions (Expr-F.Compare which at m1 m2)) slots ty.Bool (max w1.value.height w3.value.height) at found w4.next
        (two-at g r1 r2 (λ scope. ty.Bool) m1 m2 slots t t ty.Bool w1.value.height w3.value.height (node.Binary (sign_binary which) at) (λ v x. combined (sign_binary which) at v x) refl (λ all a b values. refl) takes.sounds one two);
  }

  pub number-agreed : (at n : ℕ) → nat_lt n (2 ^ 63) ≡ true
      → Agreed g has (judge_step around (Expr-F.Number at n)) (resolve_step whole (Expr-F.Number at n)) (mean_step whole functions (Expr-F.Number at n))
  number-agreed at n low = record {
    holds = λ scope slots found h sees.
        at-seen g (resolve_step whole (Expr-F.Number at n)) (mean_step whole functions (Expr-F.Number at n)) slots ty.Int 0 at found h
        (leaf-at g (resolve_step whole (Expr-F.Number at n)) (mean_step whole functions (Expr-F.Number at n)) slots ty.Int (node.Int (pos n)) (λ start. refl) refl
        (λ vars fits. typed-int types (pos n) low) (λ vars all fits. refl));
  }

  pub truth-agreed : (at : ℕ) (b : Bool)
      → Agreed g has (judge_step around (Expr-F.Truth at b)) (resolve_step whole (Expr-F.Truth at b)) (mean_step whole functions (Expr-F.Truth at b))
  truth-agreed at b = record {
    holds = λ scope slots found h sees.
        at-seen g (resolve_step whole (Expr-F.Truth at b)) (mean_step whole functions (Expr-F.Truth at b)) slots ty.Bool 0 at found h
        (leaf-at g (resolve_step whole (Expr-F.Truth at b)) (mean_step whole functions (Expr-F.Truth at b)) slots ty.Bool (node.Bool b) (λ start. refl) refl
        (λ vars fits. typed-bool types b) (λ vars all fits. refl));
  }

  pub elapsed-agreed : (at : ℕ)
      → Agreed g has (judge_step around (Expr-F.Elapsed at)) (resolve_step whole (Expr-F.Elapsed at)) (mean_step whole functions (Expr-F.Elapsed at))
  elapsed-agreed at = record {
    holds = λ scope slots found h sees.
        let w1 = went (unless (not around.has_elapsed) Unknown at) _ found h in
        let is : around.has_elapsed ≡ true = not-false around.has_elapsed (unless-is (not around.has_elapsed) Unknown at w1.value w1.first) in
        at-seen g (resolve_step whole (Expr-F.Elapsed at)) (mean_step whole functions (Expr-F.Elapsed at)) slots ty.Int 0 at found w1.next
        (slot-at g (λ scope. ty.Int) elapsed_name slots ty.Int refl (sees.elapsed is));
  }

  abbrev found_name : Id → Option Binding → Result Seen Wrong
  found_name id own = elim own [ None ↦ wrong Unknown id.at | Some bound ↦ made around bound.ty 0 id.at ]

  name-found : (id : Id) (scope : Scope) (slots : List Field) (found : Seen) → Sees has scope slots → (own : Option Binding) → bound_to scope id.name ≡ own → found_name id own ≡ Ok found
      → At g (resolve_step whole (Expr-F.Name id)) (mean_step whole functions (Expr-F.Name id)) slots found.ty found.height
  name-found id scope slots found sees None is h = cc
  name-found id scope slots found sees (Some bound) is h =
      let s : Slotted slots id.name bound.ty = sees.seen id.name bound is in
      at-seen g (resolve_step whole (Expr-F.Name id)) (mean_step whole functions (Expr-F.Name id)) slots bound.ty 0 id.at found (made-is around bound.ty 0 id.at found h)
      (slot-at g (λ scope. slot_type scope id.name) id.name slots bound.ty (slot-type-is slots id.name bound.ty s) s)

  pub name-agreed : (id : Id) → Agreed g has (judge_step around (Expr-F.Name id)) (resolve_step whole (Expr-F.Name id)) (mean_step whole functions (Expr-F.Name id))
  name-agreed id = record { holds = λ scope slots found h sees. name-found id scope slots found sees (bound_to scope id.name) refl h }
