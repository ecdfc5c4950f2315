-- Builtins, by the rows of their table.
use Rattle.std.proofs.Common.{◌≡◌, ℕ, ◌==◌, ◌≤◌, max, Bool, true, false, not, List, [], ◌∷◌, map, length, Ok, refl, sym, ◌∙◌, ap, subst, arith}
use Rattle.std.proofs.lemmas.Bool.{not-false, eqb-true}
use Rattle.dsde_language.specs.given.words.key_Key.{Key}
use Rattle.dsde_language.specs.given.words.key_Key_TheVariants as key
use Rattle.dsde_language.specs.given.syntax.expr_Expr_TheOpen.{Expr-F}
use Rattle.dsde_language.specs.given.syntax.Levels.{is_builtin}
use Rattle.dsde_language.specs.given.values.types_Field.{Field}
use Rattle.dsde_language.specs.given.values.types_Ty.{Ty}
use Rattle.dsde_language.specs.given.values.types_Ty_TheVariants as ty
use Rattle.dsde_language.specs.given.values.types_Types.{Types}
use Rattle.dsde_language.specs.given.values.value_Value.{Value}
use Rattle.dsde_language.specs.given.values.value_Value_TheVariants as value
use Rattle.dsde_language.specs.declared.builtin.Gives.{Gives}
use Rattle.dsde_language.specs.declared.builtin.Gives.TheVariants as gives
use Rattle.dsde_language.specs.declared.builtin.Part.{Part}
use Rattle.dsde_language.specs.declared.builtin.Part.TheVariants as part
use Rattle.dsde_language.specs.declared.builtin.Row.{Row}
use Rattle.dsde_language.specs.declared.known.Around.{Around}
use Rattle.dsde_language.specs.declared.known.Known.{Known}
use Rattle.dsde_language.specs.declared.seen.Fitted.{Fitted}
use Rattle.dsde_language.specs.declared.seen.Seen.{Seen}
use Rattle.dsde_language.specs.declared.wrong.WrongKind.TheVariants.{WrongType}
use Rattle.dsde_language.specs.Steps.{unless}
use Rattle.dsde_language.specs.Types.{wanted}
use Rattle.dsde_language.specs.Judge.{Scope, Judge, judge_step, total, made, part_type, fit_parts, given_type, builtin_of}
use Rattle.dsde_language.specs.declared.node_ids.ExprId.{ExprId}
use Rattle.dsde_language.specs.declared.node.Node.{Node}
use Rattle.dsde_language.specs.declared.operator.Builtin.TheVariants as builtin
use Rattle.dsde_language.specs.Typing.{first_type, item_in, held_in}
use Rattle.dsde_language.specs.Expressions.{Resolved, resolve_step, over_all, builtin_node}
use Rattle.dsde_language.specs.Outcome.{Outcome, ◌>>=◌}
use Rattle.dsde_language.specs.MeaningOperators.{of_one, of_two, of_three}
use Rattle.dsde_language.specs.Meaning.{Function, Mean, mean_step}
use Rattle.dsde_language.specs.MeaningTables.{Coded, Means, node_mean}
use Rattle.dsde_language.specs.Typed.{Typed}
use Rattle.dsde_language.specs.Scopes.{Sees}
use Rattle.dsde_sound_expressions.specs.lemmas.Steps.{went, well, ok-is, unless-is}
use Rattle.dsde_sound_expressions.specs.lemmas.Types.{wanted-is, item-is, held-is, item-in-list, held-in-opt}
use Rattle.dsde_sound_expressions.specs.lemmas.Values.{typed-some}
use Rattle.dsde_sound_expressions.proofs.At.{Ground, ground, At, at-typed, at-higher, at-seen, made-is, never-total}
use Rattle.dsde_sound_expressions.proofs.Operators.{Fine}
use Rattle.dsde_sound_expressions.proofs.BuiltinValues.{len-sound, is-some-sound, min-sound, max-sound, range-sound, push-sound, take-sound, skip-sound, put-sound}
use Rattle.dsde_sound_expressions.proofs.Arguments.{argument, two_arguments, three_arguments}
use Rattle.dsde_sound_expressions.proofs.Parts.{Agreed}

-- the type of an argument, where T is this
abbrev pub part_ty : Part → Ty → Ty
part_ty part.Any t = t
part_ty part.List t = ty.List t
part_ty part.Opt t = ty.Opt t
part_ty part.Int t = ty.Int
part_ty part.Item t = t

part-is : (p : Part) (before t : Ty) (seen : Seen) → part_type p before seen ≡ Ok t → seen.ty ≡ part_ty p t
part-is part.Any before t seen h = ok-is seen.ty t h
part-is part.List before t seen h = item-is seen t h
part-is part.Opt before t seen h = held-is seen t h
part-is part.Int before t seen h = let w = went (wanted ty.Int seen) _ t h in sym (wanted-is ty.Int seen w.value w.first)
part-is part.Item before t seen h = let w = went (wanted before seen) _ t h in sym (wanted-is before seen w.value w.first) ∙ ok-is before t w.next

int-stays : (before t : Ty) (seen : Seen) → part_type part.Int before seen ≡ Ok t → before ≡ t
int-stays before t seen h = ok-is before t ((went (wanted ty.Int seen) _ t h).next)

item-stays : (before t : Ty) (seen : Seen) → part_type part.Item before seen ≡ Ok t → before ≡ t
item-stays before t seen h = ok-is before t ((went (wanted before seen) _ t h).next)

first-is : (p : Part) (rest : List Part) (t : Ty) (seen : Seen) → part_type p ty.Int seen ≡ Ok t → first_type (p ∷ rest) seen.ty ≡ t
first-is part.Any rest t seen h = ok-is seen.ty t h
first-is part.List rest t seen h = ap item_in (item-is seen t h) ∙ item-in-list t
first-is part.Opt rest t seen h = ap held_in (held-is seen t h) ∙ held-in-opt t
first-is part.Int rest t seen h = int-stays ty.Int t seen h
first-is part.Item rest t seen h = item-stays ty.Int t seen h

part-typed : (p : Part) (before t u : Ty) (seen : Seen) → t ≡ u → part_type p before seen ≡ Ok t → part_type p before seen ≡ Ok u
part-typed p before t u seen e h = h ∙ ap (λ (x : Ty). well x) e

abbrev row : List Part → Gives → Bool → Row
row parts given may = record { parts = parts; gives = given; may_fault = may }

abbrev Stays : Part → Type 0
Stays q = (before t : Ty) (seen : Seen) → part_type q before seen ≡ Ok t → before ≡ t

abbrev fitted : (t : Ty) (height : ℕ) → Fitted
fitted t height = record { ty = t; height = height }

-- what is judged of a builtin: its arguments, and the rest
pub record Judged (around : Around) (own : Row) (at : ℕ) (args : List Judge) (scope : Scope) (found : Seen) : Type 0 where
  pub long : length args ≡ length own.parts
  pub fits : Fitted
  pub first : fit_parts args own.parts ty.Int 0 scope ≡ Ok fits
  pub one : Unit {0}
  pub may : total around own.may_fault at ≡ Ok one
  pub last : made around (given_type own.gives fits.ty) fits.height at ≡ Ok found

judged : (around : Around) (own : Row) (at : ℕ) (args : List Judge) (scope : Scope) (found : Seen) → builtin_of around own at args scope ≡ Ok found → Judged around own at args scope found
judged around own at args scope found h =
    let w1 = went (unless (not (length args == length own.parts)) WrongType at) _ found h in
    let w2 = went (fit_parts args own.parts ty.Int 0 scope) _ found w1.next in
    let w3 = went (total around own.may_fault at) _ found w2.next in
    record {
      long = eqb-true (length args) (length own.parts) (not-false (length args == length own.parts) (unless-is (not (length args == length own.parts)) WrongType at w1.value w1.first));
      fits = w2.value;
      first = w2.first;
      one = w3.value;
      may = w3.first;
      last = w3.next;
    }

module _ (types : Types) (coded : Coded) (around : Around) where
  abbrev g : Ground
  g = ground types coded around

  abbrev has : Bool
  has = around.has_elapsed

  module _ {Y X : Type 0} (f : Y → X) (J : X → Judge) (R : X → Resolved) (M : X → Mean) (agreed : (y : Y) → Agreed g has (J (f y)) (R (f y)) (M (f y))) (at : ℕ) (given : Gives) (may : Bool) where
    abbrev Row_at : List Part → List Y → Resolved → Mean → Type 0
    Row_at ps ys whole m = Agreed g has (builtin_of around (row ps given may) at (map J (map f ys))) whole m

    -- what is known where a fault is not refused
    pub record Free : Type 0 where
      pub one : Unit {0}
      pub is : total around may at ≡ Ok one

    -- an argument, by its part of the row
    arg-at : (y : Y) (q : Part) (before t : Ty) (seen : Seen) (n : ℕ) (scope : Scope) (slots : List Field) → J (f y) scope ≡ Ok seen → Sees has scope slots → part_type q before seen ≡ Ok t → seen.height ≤ n → At g (R (f y)) (M (f y)) slots (part_ty q t) n
    arg-at y q before t seen n scope slots h sees fits low =
        at-higher g (R (f y)) (M (f y)) slots (part_ty q t) seen.height n low
        (at-typed g (R (f y)) (M (f y)) slots seen.ty (part_ty q t) seen.height (part-is q before t seen fits) ((agreed y).holds scope slots seen h sees))

    kind-is : (y : Y) (p : Part) (rest : List Part) (t : Ty) (seen : Seen) (scope : Scope) (slots : List Field) → J (f y) scope ≡ Ok seen → Sees has scope slots → part_type p ty.Int seen ≡ Ok t
        → given_type given (first_type (p ∷ rest) ((R (f y)).ty slots)) ≡ given_type given t
    kind-is y p rest t seen scope slots h sees fits =
        ap (λ (x : Ty). given_type given (first_type (p ∷ rest) x)) ((agreed y).holds scope slots seen h sees).ty ∙ ap (given_type given) (first-is p rest t seen fits)

    last-is : (own : Row) (args : List Judge) (scope : Scope) (found : Seen) (j : Judged around own at args scope found) (t : Ty) (n : ℕ) → well (fitted t n) ≡ well j.fits → made around (given_type own.gives t) n at ≡ Ok found
    last-is own args scope found j t n h = subst (λ (x : Fitted). made around (given_type own.gives x.ty) x.height at ≡ Ok found) (sym (ok-is (fitted t n) j.fits h)) j.last

    pub one-row : (p : Part) (own : List ExprId → Node) (op : Value → Outcome Value)
        → ((all : Means) (a : ExprId) (values : List Value) → node_mean all coded.functions (own (a ∷ [])) values ≡ (all.part a values >>= op))
        → (Free → (t : Ty) (v : Value) → Typed types (part_ty p t) v → Fine types around.is_total (given_type given t) (op v))
        → (y : Y) → Row_at (p ∷ []) (y ∷ []) (record { ty = λ scope. given_type given (first_type (p ∷ []) ((R (f y)).ty scope)); nodes = over_all own (R (f y) ∷ []) }) (λ vars. M (f y) vars >>= op)
    one-row p own op step sounds y = record {
      holds = λ scope slots found h sees.
          let j = judged around (row (p ∷ []) given may) at (J (f y) ∷ []) scope found h in
          let w1 = went (J (f y) scope) _ j.fits j.first in
          let w2 = went (part_type p ty.Int w1.value) _ j.fits w1.next in
          let t : Ty = w2.value in
          let n : ℕ = max 0 w1.value.height in
          let last : made around (given_type given t) n at ≡ Ok found = last-is (row (p ∷ []) given may) (J (f y) ∷ []) scope found j t n w2.next in
          at-seen g (record { ty = λ scope. given_type given (first_type (p ∷ []) ((R (f y)).ty scope)); nodes = over_all own (R (f y) ∷ []) }) (λ vars. M (f y) vars >>= op) slots (given_type given t) n at found (made-is around (given_type given t) n at found last)
          (argument g slots own (λ scope. given_type given (first_type (p ∷ []) ((R (f y)).ty scope))) (given_type given t) (kind-is y p [] t w1.value scope slots w1.first sees w2.first) n
          (R (f y)) (M (f y)) (part_ty p t) op step (sounds (record { one = j.one; is = j.may }) t) (arg-at y p ty.Int t w1.value n scope slots w1.first sees w2.first (omega arith)));
    }

    pub two-row : (p q : Part) (own : List ExprId → Node) (op : Value → Value → Outcome Value) → Stays q
        → ((all : Means) (a b : ExprId) (values : List Value) → node_mean all coded.functions (own (a ∷ b ∷ [])) values ≡ (all.part a values >>= (λ v. all.part b values >>= (λ w. op v w))))
        → (Free → (t : Ty) (v w : Value) → Typed types (part_ty p t) v → Typed types (part_ty q t) w → Fine types around.is_total (given_type given t) (op v w))
        → (y z : Y) → Row_at (p ∷ q ∷ []) (y ∷ z ∷ []) (record { ty = λ scope. given_type given (first_type (p ∷ q ∷ []) ((R (f y)).ty scope)); nodes = over_all own (R (f y) ∷ R (f z) ∷ []) }) (λ vars. M (f y) vars >>= (λ v. M (f z) vars >>= (λ w. op v w)))
    two-row p q own op stays step sounds y z = record {
      holds = λ scope slots found h sees.
          let j = judged around (row (p ∷ q ∷ []) given may) at (J (f y) ∷ J (f z) ∷ []) scope found h in
          let w1 = went (J (f y) scope) _ j.fits j.first in
          let w2 = went (part_type p ty.Int w1.value) _ j.fits w1.next in
          let w3 = went (J (f z) scope) _ j.fits w2.next in
          let w4 = went (part_type q w2.value w3.value) _ j.fits w3.next in
          let t : Ty = w4.value in
          let e : w2.value ≡ t = stays w2.value t w3.value w4.first in
          let first : part_type p ty.Int w1.value ≡ Ok t = part-typed p ty.Int w2.value t w1.value e w2.first in
          let n : ℕ = max (max 0 w1.value.height) w3.value.height in
          let last : made around (given_type given t) n at ≡ Ok found = last-is (row (p ∷ q ∷ []) given may) (J (f y) ∷ J (f z) ∷ []) scope found j t n w4.next in
          at-seen g (record { ty = λ scope. given_type given (first_type (p ∷ q ∷ []) ((R (f y)).ty scope)); nodes = over_all own (R (f y) ∷ R (f z) ∷ []) }) (λ vars. M (f y) vars >>= (λ v. M (f z) vars >>= (λ w. op v w))) slots (given_type given t) n at found (made-is around (given_type given t) n at found last)
          (two_arguments g slots own (λ scope. given_type given (first_type (p ∷ q ∷ []) ((R (f y)).ty scope))) (given_type given t) (kind-is y p (q ∷ []) t w1.value scope slots w1.first sees first) n
          (R (f y)) (R (f z)) (M (f y)) (M (f z)) (part_ty p t) (part_ty q t) op step (sounds (record { one = j.one; is = j.may }) t)
          (arg-at y p ty.Int t w1.value n scope slots w1.first sees first (omega arith)) (arg-at z q w2.value t w3.value n scope slots w3.first sees w4.first (omega arith)));
    }

    pub three-row : (p q o : Part) (own : List ExprId → Node) (op : Value → Value → Value → Outcome Value) → Stays q → Stays o
        → ((all : Means) (a b c : ExprId) (values : List Value) → node_mean all coded.functions (own (a ∷ b ∷ c ∷ [])) values ≡ (all.part a values >>= (λ v. all.part b values >>= (λ w. all.part c values >>= (λ x. op v w x)))))
        → (Free → (t : Ty) (v w x : Value) → Typed types (part_ty p t) v → Typed types (part_ty q t) w → Typed types (part_ty o t) x → Fine types around.is_total (given_type given t) (op v w x))
        → (y z x : Y) → Row_at (p ∷ q ∷ o ∷ []) (y ∷ z ∷ x ∷ []) (record { ty = λ scope. given_type given (first_type (p ∷ q ∷ o ∷ []) ((R (f y)).ty scope)); nodes = over_all own (R (f y) ∷ R (f z) ∷ R (f x) ∷ []) }) (λ vars. M (f y) vars >>= (λ v. M (f z) vars >>= (λ w. M (f x) vars >>= (λ u. op v w u))))
    three-row p q o own op stays stays' step sounds y z x = record {
      holds = λ scope slots found h sees.
          let j = judged around (row (p ∷ q ∷ o ∷ []) given may) at (J (f y) ∷ J (f z) ∷ J (f x) ∷ []) scope found h in
          let w1 = went (J (f y) scope) _ j.fits j.first in
          let w2 = went (part_type p ty.Int w1.value) _ j.fits w1.next in
          let w3 = went (J (f z) scope) _ j.fits w2.next in
          let w4 = went (part_type q w2.value w3.value) _ j.fits w3.next in
          let w5 = went (J (f x) scope) _ j.fits w4.next in
          let w6 = went (part_type o w4.value w5.value) _ j.fits w5.next in
          let t : Ty = w6.value in
          let e : w4.value ≡ t = stays' w4.value t w5.value w6.first in
          let d : w2.value ≡ t = stays w2.value w4.value w3.value w4.first ∙ e in
          let first : part_type p ty.Int w1.value ≡ Ok t = part-typed p ty.Int w2.value t w1.value d w2.first in
          let second : part_type q w2.value w3.value ≡ Ok t = part-typed q w2.value w4.value t w3.value e w4.first in
          let n : ℕ = max (max (max 0 w1.value.height) w3.value.height) w5.value.height in
          let last : made around (given_type given t) n at ≡ Ok found = last-is (row (p ∷ q ∷ o ∷ []) given may) (J (f y) ∷ J (f z) ∷ J (f x) ∷ []) scope found j t n w6.next in
          at-seen g (record { ty = λ scope. given_type given (first_type (p ∷ q ∷ o ∷ []) ((R (f y)).ty scope)); nodes = over_all own (R (f y) ∷ R (f z) ∷ R (f x) ∷ []) }) (λ vars. M (f y) vars >>= (λ v. M (f z) vars >>= (λ w. M (f x) vars >>= (λ u. op v w u)))) slots (given_type given t) n at found (made-is around (given_type given t) n at found last)
          (three_arguments g slots own (λ scope. given_type given (first_type (p ∷ q ∷ o ∷ []) ((R (f y)).ty scope))) (given_type given t) (kind-is y p (q ∷ o ∷ []) t w1.value scope slots w1.first sees first) n
          (R (f y)) (R (f z)) (R (f x)) (M (f y)) (M (f z)) (M (f x)) (part_ty p t) (part_ty q t) (part_ty o t) op step (sounds (record { one = j.one; is = j.may }) t)
          (arg-at y p ty.Int t w1.value n scope slots w1.first sees first (omega arith)) (arg-at z q w2.value t w3.value n scope slots w3.first sees second (omega arith)) (arg-at x o w4.value t w5.value n scope slots w5.first sees w6.first (omega arith)));
    }

    -- no other number of arguments
    other : (ps : List Part) (ys : List Y) (whole : Resolved) (m : Mean) → ¬ (length (map J (map f ys)) ≡ length ps) → Row_at ps ys whole m
    other ps ys whole m none = record { holds = λ scope slots found h sees. absurd (none (judged around (row ps given may) at (map J (map f ys)) scope found h).long) }

    pub only-one : (p : Part) (RB : List Y → Resolved) (MB : List Y → Mean) → ((y : Y) → Row_at (p ∷ []) (y ∷ []) (RB (y ∷ [])) (MB (y ∷ []))) → (ys : List Y) → Row_at (p ∷ []) ys (RB ys) (MB ys)
    only-one p RB MB next [] = other (p ∷ []) [] (RB []) (MB []) (λ e. omega (arith, e))
    only-one p RB MB next (y ∷ []) = next y
    only-one p RB MB next (y ∷ z ∷ ys) = other (p ∷ []) (y ∷ z ∷ ys) (RB (y ∷ z ∷ ys)) (MB (y ∷ z ∷ ys)) (λ e. omega (arith, e))

    pub only-two : (p q : Part) (RB : List Y → Resolved) (MB : List Y → Mean) → ((y z : Y) → Row_at (p ∷ q ∷ []) (y ∷ z ∷ []) (RB (y ∷ z ∷ [])) (MB (y ∷ z ∷ []))) → (ys : List Y) → Row_at (p ∷ q ∷ []) ys (RB ys) (MB ys)
    only-two p q RB MB next [] = other (p ∷ q ∷ []) [] (RB []) (MB []) (λ e. omega (arith, e))
    only-two p q RB MB next (y ∷ []) = other (p ∷ q ∷ []) (y ∷ []) (RB (y ∷ [])) (MB (y ∷ [])) (λ e. omega (arith, e))
    only-two p q RB MB next (y ∷ z ∷ []) = next y z
    only-two p q RB MB next (y ∷ z ∷ x ∷ ys) = other (p ∷ q ∷ []) (y ∷ z ∷ x ∷ ys) (RB (y ∷ z ∷ x ∷ ys)) (MB (y ∷ z ∷ x ∷ ys)) (λ e. omega (arith, e))

    pub only-three : (p q o : Part) (RB : List Y → Resolved) (MB : List Y → Mean) → ((y z x : Y) → Row_at (p ∷ q ∷ o ∷ []) (y ∷ z ∷ x ∷ []) (RB (y ∷ z ∷ x ∷ [])) (MB (y ∷ z ∷ x ∷ []))) → (ys : List Y) → Row_at (p ∷ q ∷ o ∷ []) ys (RB ys) (MB ys)
    only-three p q o RB MB next [] = other (p ∷ q ∷ o ∷ []) [] (RB []) (MB []) (λ e. omega (arith, e))
    only-three p q o RB MB next (y ∷ []) = other (p ∷ q ∷ o ∷ []) (y ∷ []) (RB (y ∷ [])) (MB (y ∷ [])) (λ e. omega (arith, e))
    only-three p q o RB MB next (y ∷ z ∷ []) = other (p ∷ q ∷ o ∷ []) (y ∷ z ∷ []) (RB (y ∷ z ∷ [])) (MB (y ∷ z ∷ [])) (λ e. omega (arith, e))
    only-three p q o RB MB next (y ∷ z ∷ x ∷ []) = next y z x
    only-three p q o RB MB next (y ∷ z ∷ x ∷ u ∷ ys) = other (p ∷ q ∷ o ∷ []) (y ∷ z ∷ x ∷ u ∷ ys) (RB (y ∷ z ∷ x ∷ u ∷ ys)) (MB (y ∷ z ∷ x ∷ u ∷ ys)) (λ e. omega (arith, e))

  module _ {Y X : Type 0} (f : Y → X) (J : X → Judge) (R : X → Resolved) (M : X → Mean) (agreed : (y : Y) → Agreed g has (J (f y)) (R (f y)) (M (f y))) (whole : Known) (functions : List Function) (at : ℕ) where
    abbrev RB : Key → List Y → Resolved
    RB which ys = resolve_step whole (Expr-F.Builtin which at (map R (map f ys)))

    abbrev MB : Key → List Y → Mean
    MB which ys = mean_step whole functions (Expr-F.Builtin which at (map M (map f ys)))

    abbrev T : Bool
    T = around.is_total

    pub builtin-agreed : (which : Key) (ys : List Y) → is_builtin which ≡ true
        → Agreed g has (judge_step around (Expr-F.Builtin which at (map J (map f ys)))) (resolve_step whole (Expr-F.Builtin which at (map R (map f ys)))) (mean_step whole functions (Expr-F.Builtin which at (map M (map f ys))))
    builtin-agreed key.SomeOf ys so = only-one f J R M agreed at gives.Opt false part.Any (RB key.SomeOf) (MB key.SomeOf)
        (one-row f J R M agreed at gives.Opt false part.Any (builtin_node key.SomeOf at) (λ v. Ok (value.Some v)) (λ all a values. refl) (λ free t v typed. typed-some types t v typed)) ys
    builtin-agreed key.Len ys so = only-one f J R M agreed at gives.Int false part.List (RB key.Len) (MB key.Len)
        (one-row f J R M agreed at gives.Int false part.List (builtin_node key.Len at) (λ v. of_one builtin.Len v) (λ all a values. refl) (λ free t v typed. len-sound types T t v typed)) ys
    builtin-agreed key.IsSome ys so = only-one f J R M agreed at gives.Bool false part.Opt (RB key.IsSome) (MB key.IsSome)
        (one-row f J R M agreed at gives.Bool false part.Opt (builtin_node key.IsSome at) (λ v. of_one builtin.IsSome v) (λ all a values. refl) (λ free t v typed. is-some-sound types T t v typed)) ys
    builtin-agreed key.Min ys so = only-two f J R M agreed at gives.Int false part.Int part.Int (RB key.Min) (MB key.Min)
        (two-row f J R M agreed at gives.Int false part.Int part.Int (builtin_node key.Min at) (λ v w. of_two builtin.Min at v w) int-stays (λ all a b values. refl) (λ free t v w p q. min-sound types T at v w p q)) ys
    builtin-agreed key.Max ys so = only-two f J R M agreed at gives.Int false part.Int part.Int (RB key.Max) (MB key.Max)
        (two-row f J R M agreed at gives.Int false part.Int part.Int (builtin_node key.Max at) (λ v w. of_two builtin.Max at v w) int-stays (λ all a b values. refl) (λ free t v w p q. max-sound types T at v w p q)) ys
    builtin-agreed key.Range ys so = only-two f J R M agreed at gives.Ints true part.Int part.Int (RB key.Range) (MB key.Range)
        (two-row f J R M agreed at gives.Ints true part.Int part.Int (builtin_node key.Range at) (λ v w. of_two builtin.Range at v w) int-stays (λ all a b values. refl) (λ free t v w p q. range-sound types T at v w (never-total around at free.one free.is) p q)) ys
    builtin-agreed key.Push ys so = only-two f J R M agreed at gives.List true part.List part.Item (RB key.Push) (MB key.Push)
        (two-row f J R M agreed at gives.List true part.List part.Item (builtin_node key.Push at) (λ v w. of_two builtin.Push at v w) item-stays (λ all a b values. refl) (λ free t v w p q. push-sound types T at t v w (never-total around at free.one free.is) p q)) ys
    builtin-agreed key.Take ys so = only-two f J R M agreed at gives.List false part.List part.Int (RB key.Take) (MB key.Take)
        (two-row f J R M agreed at gives.List false part.List part.Int (builtin_node key.Take at) (λ v w. of_two builtin.Take at v w) int-stays (λ all a b values. refl) (λ free t v w p q. take-sound types T at t v w p q)) ys
    builtin-agreed key.Skip ys so = only-two f J R M agreed at gives.List false part.List part.Int (RB key.Skip) (MB key.Skip)
        (two-row f J R M agreed at gives.List false part.List part.Int (builtin_node key.Skip at) (λ v w. of_two builtin.Skip at v w) int-stays (λ all a b values. refl) (λ free t v w p q. skip-sound types T at t v w p q)) ys
    builtin-agreed key.Put ys so = only-three f J R M agreed at gives.List true part.List part.Int part.Item (RB key.Put) (MB key.Put)
        (three-row f J R M agreed at gives.List true part.List part.Int part.Item (builtin_node key.Put at) (λ v w x. of_three builtin.Put at v w x) int-stays item-stays (λ all a b c values. refl) (λ free t v w x p q r. put-sound types T at t v w x (never-total around at free.one free.is) p q r)) ys
    builtin-agreed _ ys so = cc
