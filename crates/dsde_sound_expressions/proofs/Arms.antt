-- `if` with its arms.
use Rattle.std.proofs.Common.{◌≡◌, ℕ, ◌+◌, ◌≤◌, max, Bool, true, false, if◌then◌else◌, List, [], ◌∷◌, ◌++◌, map, length, Some, Ok, refl, sym, ap, subst, arith, append_assoc}
use Rattle.dsde_language.specs.given.syntax.expr_Expr_TheOpen.{Expr-F}
use Rattle.dsde_language.specs.given.syntax.Levels.{has_first}
use Rattle.dsde_language.specs.given.values.types_Field.{Field}
use Rattle.dsde_language.specs.given.values.types_Ty.{Ty}
use Rattle.dsde_language.specs.given.values.types_Ty_TheVariants as ty
use Rattle.dsde_language.specs.given.values.types_Types.{Types}
use Rattle.dsde_language.specs.given.values.value_Value.{Value}
use Rattle.dsde_language.specs.declared.known.Around.{Around}
use Rattle.dsde_language.specs.declared.known.Known.{Known}
use Rattle.dsde_language.specs.declared.seen.Seen.{Seen}
use Rattle.dsde_language.specs.Steps.{above}
use Rattle.dsde_language.specs.Types.{wanted}
use Rattle.dsde_language.specs.Judge as rules
use Rattle.dsde_language.specs.Judge.{Scope, Judge, Guarded, guarded, test_of, judge_step}
use Rattle.dsde_language.specs.declared.node_ids.ExprId.{ExprId}
use Rattle.dsde_language.specs.declared.node.Node.{Node}
use Rattle.dsde_language.specs.declared.node.Node.TheVariants as node
use Rattle.dsde_language.specs.Expressions.{Resolved, Arm, resolve_step, of_type, expr_id, arm_nodes, arm_numbers, if_nodes}
use Rattle.dsde_language.specs.Outcome.{Outcome, ◌>>=◌, truth_of}
use Rattle.dsde_language.specs.Meaning as meaning
use Rattle.dsde_language.specs.Meaning.{Vars, Mean, ArmMean, Function, mean_step}
use Rattle.dsde_language.specs.MeaningTables.{Coded, means_in, arms_from}
use Rattle.dsde_language.specs.Typed.{Typed, Sound, Fits, values_in}
use Rattle.dsde_language.specs.Scopes.{Stands, Sees}
use Rattle.dsde_sound_expressions.specs.lemmas.Standing.{stands-left, stands-right}
use Rattle.dsde_sound_expressions.specs.lemmas.Steps.{went, ok-is}
use Rattle.dsde_sound_expressions.specs.lemmas.Outcomes.{Any, sound-then, sound-if, same-then}
use Rattle.dsde_sound_expressions.specs.lemmas.Types.{wanted-is}
use Rattle.dsde_sound_expressions.specs.lemmas.Values.{truth-sound}
use Rattle.dsde_sound_expressions.proofs.At.{Ground, ground, At, at-typed, at-higher, at-seen, node-reads}
use Rattle.dsde_sound_expressions.proofs.Parts.{Agreed}

-- an arm over slots: its condition, and its value
pub record ArmAt (g : Ground) (r : Arm) (m : ArmMean) (slots : List Field) (t : Ty) (n : ℕ) : Type 0 where
  pub cond : At g (of_type ty.Bool r.cond) m.cond slots ty.Bool n
  pub value : At g (of_type t r.value) m.value slots t n

-- An arm that is judged stands over the slots of what it sees, and is no lower than what came before it.
pub record ArmIs (g : Ground) (r : Arm) (m : ArmMean) (slots : List Field) (t : Ty) (height n : ℕ) : Type 0 where
  pub arm : ArmAt g r m slots t n
  pub high : height ≤ n

-- An arm that is judged behind others stands over the slots of what it sees.
pub record ArmAgreed (g : Ground) (has : Bool) (j : Guarded) (r : Arm) (m : ArmMean) : Type 0 where
  pub holds : (height : ℕ) (scope : Scope) (slots : List Field) (found : Seen) → j height scope ≡ Ok found → Sees has scope slots → ArmIs g r m slots found.ty height found.height

-- arms over slots, each with a value of one type
abbrev pub ArmsAt : Ground → List Arm → List ArmMean → List Field → Ty → ℕ → Type 0
ArmsAt g [] [] slots t n = Unit {0}
ArmsAt g [] (m ∷ ms) slots t n = ⊥
ArmsAt g (r ∷ rs) [] slots t n = ⊥
ArmsAt g (r ∷ rs) (m ∷ ms) slots t n = ArmAt g r m slots t n × ArmsAt g rs ms slots t n

bare : (g : Ground) (r : Resolved) (m : Mean) (slots : List Field) (t : Ty) (n : ℕ) → At g r m slots t n → At g (of_type t r.nodes) m slots t n
bare g r m slots t n p = record { ty = refl; sound = p.sound; reads = p.reads }

same-if : (b : Bool) (x y v w : Outcome Value) → x ≡ v → y ≡ w → (if b then x else y) ≡ (if b then v else w)
same-if true x y v w h k = h
same-if false x y v w h k = k

arm-higher : (g : Ground) (r : Arm) (m : ArmMean) (slots : List Field) (t : Ty) (k n : ℕ) → k ≤ n → ArmAt g r m slots t k → ArmAt g r m slots t n
arm-higher g r m slots t k n low p = record {
  cond = at-higher g (of_type ty.Bool r.cond) m.cond slots ty.Bool k n low p.cond;
  value = at-higher g (of_type t r.value) m.value slots t k n low p.value;
}

pub arm-agreed : (g : Ground) (has : Bool) (j1 j2 : Judge) (r1 r2 : Resolved) (m1 m2 : Mean) → Agreed g has j1 r1 m1 → Agreed g has j2 r2 m2
    → ArmAgreed g has (guarded (Some j1) j2) (record { cond = r1.nodes; value = r2.nodes }) (record { cond = m1; value = m2 })
arm-agreed g has j1 j2 r1 r2 m1 m2 p1 p2 = record {
  holds = λ height scope slots found h sees.
      let w1 = went (test_of (Some j1) height scope) _ found h in
      let w2 = went (j1 scope) _ w1.value w1.first in
      let w3 = went (wanted ty.Bool w2.value) _ w1.value w2.next in
      let w4 = went (j2 scope) _ found w1.next in
      let k : ℕ = max height w2.value.height in
      let k-is : k ≡ w1.value = ok-is k w1.value w3.next in
      let all : Seen = record { ty = w4.value.ty; height = max w1.value w4.value.height; at = w4.value.at } in
      let e : all ≡ found = ok-is all found w4.next in
      let t-is : w4.value.ty ≡ found.ty = ap (λ (s : Seen). s.ty) e in
      let n-is : max w1.value w4.value.height ≡ found.height = ap (λ (s : Seen). s.height) e in
      let one = bare g r1 m1 slots ty.Bool w2.value.height (at-typed g r1 m1 slots w2.value.ty ty.Bool w2.value.height (sym (wanted-is ty.Bool w2.value w3.value w3.first)) (p1.holds scope slots w2.value w2.first sees)) in
      let two = bare g r2 m2 slots found.ty w4.value.height (at-typed g r2 m2 slots w4.value.ty found.ty w4.value.height t-is (p2.holds scope slots w4.value w4.first sees)) in
      record {
        arm = record {
          cond = at-higher g (of_type ty.Bool r1.nodes) m1 slots ty.Bool w2.value.height found.height (omega (arith, k-is, n-is)) one;
          value = at-higher g (of_type found.ty r2.nodes) m2 slots found.ty w4.value.height found.height (omega (arith, n-is)) two;
        };
        high = omega (arith, k-is, n-is);
      };
}

module _ (g : Ground) (slots : List Field) (t : Ty) (n : ℕ) (other : Mean) where
  arms-sound : (rs : List Arm) (ms : List ArmMean) → ArmsAt g rs ms slots t n → (vars : Vars) → Fits g.types vars slots → Sound g.total (Typed g.types t) (other vars) → Sound g.total (Typed g.types t) (meaning.arms_of ms other vars)
  arms-sound [] [] all vars fits last = last
  arms-sound [] (m ∷ ms) all vars fits last = absurd all
  arms-sound (r ∷ rs) [] all vars fits last = absurd all
  arms-sound (r ∷ rs) (m ∷ ms) all vars fits last =
      sound-then g.total (Typed g.types ty.Bool) (Typed g.types t) (m.cond vars) (λ test. truth_of test >>= (λ truth. if truth then m.value vars else meaning.arms_of ms other vars)) (all.0.cond.sound vars fits) (λ v typed.
      sound-then {A = Bool} g.total Any (Typed g.types t) (truth_of v) (λ truth. if truth then m.value vars else meaning.arms_of ms other vars) (truth-sound g.types g.total v typed) (λ b _.
      sound-if g.total (Typed g.types t) b (m.value vars) (meaning.arms_of ms other vars) (λ h. all.0.value.sound vars fits) (λ h. arms-sound rs ms all.1 vars fits last)))

  arms-read : (rs : List Arm) (ms : List ArmMean) → ArmsAt g rs ms slots t n → (vars : Vars) (start depth : ℕ) (last : ExprId) → Fits g.types vars slots → Stands g.coded.nodes start (arm_nodes rs slots start) → n ≤ 512 → n ≤ depth
      → (means_in g.coded depth).part last (values_in vars) ≡ other vars → arms_from (means_in g.coded depth).part (arm_numbers rs slots start) last (values_in vars) ≡ meaning.arms_of ms other vars
  arms-read [] [] all vars start depth last fits stands least low is = is
  arms-read [] (m ∷ ms) all vars start depth last fits stands least low is = absurd all
  arms-read (r ∷ rs) [] all vars start depth last fits stands least low is = absurd all
  arms-read (r ∷ rs) (m ∷ ms) all vars start depth last fits stands least low is =
      let part = (means_in g.coded depth).part in
      let one : List Node = r.cond slots start in
      let second : ℕ = start + length one in
      let two : List Node = r.value slots second in
      let behind : ℕ = second + length two in
      let rest : List Node = arm_nodes rs slots behind in
      let all-stand : Stands g.coded.nodes start (one ++ (two ++ rest)) = subst (λ (l : List Node). Stands g.coded.nodes start l) (append_assoc one two rest) stands in
      let there = stands-right g.coded.nodes start one (two ++ rest) all-stand in
      same-then g.total (Typed g.types ty.Bool) (m.cond vars) (part (expr_id start) (values_in vars))
      (λ test. truth_of test >>= (λ truth. if truth then m.value vars else meaning.arms_of ms other vars))
      (λ test. truth_of test >>= (λ truth. if truth then part (expr_id second) (values_in vars) else arms_from part (arm_numbers rs slots behind) last (values_in vars)))
      (all.0.cond.reads vars start depth fits (stands-left g.coded.nodes start one (two ++ rest) all-stand) least low) (all.0.cond.sound vars fits)
      (λ v typed. same-then {A = Bool} g.total Any (truth_of v) (truth_of v)
      (λ truth. if truth then m.value vars else meaning.arms_of ms other vars)
      (λ truth. if truth then part (expr_id second) (values_in vars) else arms_from part (arm_numbers rs slots behind) last (values_in vars))
      refl (truth-sound g.types g.total v typed)
      (λ b _. same-if b (part (expr_id second) (values_in vars)) (arms_from part (arm_numbers rs slots behind) last (values_in vars)) (m.value vars) (meaning.arms_of ms other vars)
      (all.0.value.reads vars second depth fits (stands-left g.coded.nodes second two rest there) least low)
      (arms-read rs ms all.1 vars behind depth last fits (stands-right g.coded.nodes second two rest there) least low is)))

  pub if-at : (rs : List Arm) (ms : List ArmMean) (r : Resolved) → ArmsAt g rs ms slots t n → At g r other slots t n → At g (record { ty = r.ty; nodes = if_nodes rs r }) (λ vars. meaning.arms_of ms other vars) slots t (above n)
  if-at rs ms r all p = record {
    ty = p.ty;
    sound = λ vars fits. arms-sound rs ms all vars fits (p.sound vars fits);
    reads = node-reads g (if_nodes rs r) (λ vars. meaning.arms_of ms other vars) slots n
        (λ start. node.If (arm_numbers rs slots (start + 1)) (expr_id (start + 1 + length (arm_nodes rs slots (start + 1)))))
        (λ start. arm_nodes rs slots (start + 1) ++ r.nodes slots (start + 1 + length (arm_nodes rs slots (start + 1)))) (λ start. refl)
        (λ vars start depth fits stands least low.
        let one : List Node = arm_nodes rs slots (start + 1) in
        let last : ℕ = start + 1 + length one in
        let two : List Node = r.nodes slots last in
        arms-read rs ms all vars (start + 1) depth (expr_id last) fits (stands-left g.coded.nodes (start + 1) one two stands) (omega (arith, least)) low
        (p.reads vars last depth fits (stands-right g.coded.nodes (start + 1) one two stands) (omega (arith, least)) low));
  }

-- Arms stand over slots, and are no lower than what came before them.
pub record ArmsFit {Y X : Type 0} (g : Ground) (f : Y → X) (R : X → Arm) (M : X → ArmMean) (ys : List Y) (slots : List Field) (t : Ty) (height found : ℕ) : Type 0 where
  pub all : ArmsAt g (map R (map f ys)) (map M (map f ys)) slots t found
  pub high : height ≤ found

module _ {Y X : Type 0} (types : Types) (coded : Coded) (around : Around) (whole : Known) (functions : List Function) (f : Y → X) (J : X → Guarded) (R : X → Arm) (M : X → ArmMean)
    (agreed : (y : Y) → ArmAgreed (ground types coded around) around.has_elapsed (J (f y)) (R (f y)) (M (f y))) where
  abbrev g : Ground
  g = ground types coded around

  abbrev has : Bool
  has = around.has_elapsed

  arm-typed : (r : Arm) (m : ArmMean) (slots : List Field) (t u : Ty) (n : ℕ) → u ≡ t → ArmAt g r m slots t n → ArmAt g r m slots u n
  arm-typed r m slots t u n e p = subst (λ (w : Ty). ArmAt g r m slots w n) (sym e) p

  arms-at : (ys : List Y) (t : Ty) (height found : ℕ) (scope : Scope) (slots : List Field) → rules.arms_of t (map J (map f ys)) height scope ≡ Ok found → Sees has scope slots → ArmsFit g f R M ys slots t height found
  arms-at [] t height found scope slots h sees = record { all = tt; high = let e : height ≡ found = ok-is height found h in omega (arith, e) }
  arms-at (y ∷ ys) t height found scope slots h sees =
      let w1 = went (J (f y) height scope) _ found h in
      let w2 = went (wanted t w1.value) _ found w1.next in
      let one = (agreed y).holds height scope slots w1.value w1.first sees in
      let rest = arms-at ys t w1.value.height found scope slots w2.next sees in
      let a : height ≤ w1.value.height = one.high in
      let b : w1.value.height ≤ found = rest.high in
      record {
        all = (arm-higher g (R (f y)) (M (f y)) slots t w1.value.height found b (arm-typed (R (f y)) (M (f y)) slots w1.value.ty t w1.value.height (wanted-is t w1.value w2.value w2.first) one.arm), rest.all);
        high = omega (arith, a, b);
      }

  arms-higher : (rs : List Arm) (ms : List ArmMean) (slots : List Field) (t : Ty) (k n : ℕ) → k ≤ n → ArmsAt g rs ms slots t k → ArmsAt g rs ms slots t n
  arms-higher [] [] slots t k n low all = all
  arms-higher [] (m ∷ ms) slots t k n low all = absurd all
  arms-higher (r ∷ rs) [] slots t k n low all = absurd all
  arms-higher (r ∷ rs) (m ∷ ms) slots t k n low all = (arm-higher g r m slots t k n low all.0, arms-higher rs ms slots t k n low all.1)

  pub if-agreed : (at : ℕ) (ys : List Y) (j : Judge) (r : Resolved) (m : Mean) → has_first (map J (map f ys)) ≡ true → Agreed g has j r m
      → Agreed g has (judge_step around (Expr-F.If at (map J (map f ys)) j)) (resolve_step whole (Expr-F.If at (map R (map f ys)) r)) (mean_step whole functions (Expr-F.If at (map M (map f ys)) m))
  if-agreed at [] j r m some p = cc
  if-agreed at (y ∷ ys) j r m some p = record {
    holds = λ scope slots found h sees.
        let w1 = went (J (f y) 0 scope) _ found h in
        let t : Ty = w1.value.ty in
        let w2 = went (rules.arms_of t (map J (map f ys)) w1.value.height scope) _ found w1.next in
        let w3 = went (j scope) _ found w2.next in
        let w4 = went (wanted t w3.value) _ found w3.next in
        let n : ℕ = max w2.value w3.value.height in
        let one = (agreed y).holds 0 scope slots w1.value w1.first sees in
        let rest = arms-at ys t w1.value.height w2.value scope slots w2.first sees in
        let b : w1.value.height ≤ w2.value = rest.high in
        let all : ArmsAt g (map R (map f (y ∷ ys))) (map M (map f (y ∷ ys))) slots t n = (arm-higher g (R (f y)) (M (f y)) slots t w1.value.height n (omega (arith, b)) one.arm, arms-higher (map R (map f ys)) (map M (map f ys)) slots t w2.value n (omega arith) rest.all) in
        let last = at-higher g r m slots t w3.value.height n (omega arith) (at-typed g r m slots w3.value.ty t w3.value.height (sym (wanted-is t w3.value w4.value w4.first)) (p.holds scope slots w3.value w3.first sees)) in
        at-seen g (resolve_step whole (Expr-F.If at (map R (map f (y ∷ ys))) r)) (mean_step whole functions (Expr-F.If at (map M (map f (y ∷ ys))) m)) slots t n at found w4.next
        (if-at g slots t n m (map R (map f (y ∷ ys))) (map M (map f (y ∷ ys))) r all last);
  }
