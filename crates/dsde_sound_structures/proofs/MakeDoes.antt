-- What is found of items: their expressions stand, and the names behind them are those that are seen.
use Rattle.std.proofs.Common.{◌≡◌, ℕ, ◌+◌, ◌≤◌, max, arith, Bool, true, List, [], ◌∷◌, ◌++◌, map, length, Ok, refl, sym, ◌∙◌, ap, subst}
use Rattle.dsde_values.specs.declared.types.Field.{Field}
use Rattle.dsde_sim_tree.specs.given.language.Steps.{above}
use Rattle.dsde_sim_tree.specs.given.language.Judge as rules
use Rattle.dsde_sim_tree.specs.given.language.Blocks.{Passed, Walk, ArmWalk, walk_all, arms_walk}
use Rattle.dsde_sim_tree.specs.given.language.node_ids_ExprId.{ExprId}
use Rattle.dsde_sim_tree.specs.given.language.make_Make.{Make}
use Rattle.dsde_sim_tree.specs.given.language.make_MakeArm.{MakeArm}
use Rattle.dsde_sim_tree.specs.given.language.Pieces.{Next, Piece, Step, all, behind}
use Rattle.dsde_sim_tree.specs.given.language.Proper.{all_so}
use Rattle.dsde_sim_tree.specs.given.language.Scopes.{Stands, Sees}
use Rattle.dsde_sound_names.specs.given.sound_expressions.lemmas_Steps.{went, ok-is}
use Rattle.dsde_sound_names.specs.given.sound_expressions.lemmas_Truths.{and-left, and-right}
use Rattle.dsde_sound_names.specs.given.sound_expressions.lemmas_Standing.{stands-left, stands-right}
use Rattle.dsde_sound_structures.specs.Numbers.{joined, numbers_in, arm_numbers, numbers_of}
use Rattle.dsde_sound_structures.specs.Spots.{Sight, Look, SpotsStand, look_all}
use Rattle.dsde_sound_structures.proofs.MakeGround.{Ground, E, table, spots-append}

-- a height that is not cut
pub not-cut : (height : ℕ) → above height ≤ 512 → height + 1 ≤ 512
not-cut height low = omega (arith, low)

-- Items are as high as what came before them at least.
pub walk-rises : (judged : List Walk) (height : ℕ) (scope : rules.Scope) (passed : Passed) → walk_all judged height scope ≡ Ok passed → height ≤ passed.height
walk-rises [] height scope passed h =
    let same = ok-is (let own : Passed = record { scope = scope; height = height } in own) passed h in
    let same_height : height ≡ passed.height = ap (λ (p : Passed). p.height) same in
    omega (arith, same_height)
walk-rises (own ∷ judged) height scope passed h =
    let w1 = went (own scope) _ passed h in
    let rest : max height w1.value.height ≤ passed.height = walk-rises judged (max height w1.value.height) w1.value.scope passed w1.next in
    omega (arith, rest)

module _ (g : Ground) where
  -- a piece in a place by what is judged of it
  pub record Done {A : Type 0} (numbers : A → List ExprId) (passed : Passed) (next : Next) (piece : Piece A) (sight : Sight) : Type 0 where
    pub same : piece.scope ≡ sight.scope
    pub sees : Sees (E g) passed.scope piece.scope
    pub stand : Stands (table g) next.node piece.nodes → passed.height ≤ 512 → SpotsStand g.model (numbers piece.own) sight.spots

  -- an item
  pub record Does (proper : Bool) (judged : Walk) (step : Step Make) (look : Look) : Type 0 where
    pub does : proper ≡ true → (scope : rules.Scope) (passed : Passed) (slots : List Field) (next : Next)
        → judged scope ≡ Ok passed → Sees (E g) scope slots → Done numbers_in passed next (step slots next) (look slots)

  -- items in their order, on what came before them of this height
  pub record AllDo (proper : Bool) (judged : List Walk) (step : Step (List Make)) (look : Look) : Type 0 where
    pub does : proper ≡ true → (height : ℕ) (scope : rules.Scope) (passed : Passed) (slots : List Field) (next : Next)
        → walk_all judged height scope ≡ Ok passed → Sees (E g) scope slots → Done numbers_of passed next (step slots next) (look slots)

  -- an arm of `if`, and arms in their order
  pub record ArmDoes {A : Type 0} (numbers : A → List ExprId) (proper : Bool) (judged : ArmWalk) (step : Step A) (look : Look) : Type 0 where
    pub keeps : (slots : List Field) (next : Next) → (step slots next).scope ≡ slots
    pub holds : (slots : List Field) → (look slots).scope ≡ slots
    pub rises : (height found : ℕ) (scope : rules.Scope) → judged height scope ≡ Ok found → height ≤ found
    pub does : proper ≡ true → (height found : ℕ) (scope : rules.Scope) (slots : List Field) (next : Next)
        → judged height scope ≡ Ok found → Sees (E g) scope slots → Stands (table g) next.node (step slots next).nodes → found ≤ 512
        → SpotsStand g.model (numbers (step slots next).own) (look slots).spots

  module _ {Y X : Type 0} (f : Y → X) (P : X → Bool) (J : X → Walk) (R : X → Step Make) (K : X → Look) (each : (y : Y) → Does (P (f y)) (J (f y)) (R (f y)) (K (f y))) where
    all-done : (ys : List Y) → all_so (map P (map f ys)) ≡ true → (height : ℕ) (scope : rules.Scope) (passed : Passed) (slots : List Field) (next : Next)
        → walk_all (map J (map f ys)) height scope ≡ Ok passed → Sees (E g) scope slots
        → Done numbers_of passed next (all (map R (map f ys)) slots next) (look_all (map K (map f ys)) slots)
    all-done [] plain height scope passed slots next h sees =
        subst (λ (p : Passed). Done numbers_of p next (all [] slots next) (look_all [] slots))
        (ok-is (let own : Passed = record { scope = scope; height = height } in own) passed h)
        (record { same = refl; sees = sees; stand = λ stands low. tt })
    all-done (y ∷ ys) plain height scope passed slots next h sees =
        let w1 = went (J (f y) scope) _ passed h in
        let p1 : Passed = w1.value in
        let one = R (f y) slots next in
        let two = all (map R (map f ys)) one.scope (behind next one) in
        let looks : List Look = map K (map f ys) in
        let first = (each y).does (and-left (P (f y)) _ plain) scope p1 slots next w1.first sees in
        let rest = all-done ys (and-right (P (f y)) _ plain) (max height p1.height) p1.scope passed one.scope (behind next one) w1.next first.sees in
        let rises : max height p1.height ≤ passed.height = walk-rises (map J (map f ys)) (max height p1.height) p1.scope passed w1.next in
        record {
          same = subst (λ (l : List Field). two.scope ≡ (look_all looks l).scope) first.same rest.same;
          sees = rest.sees;
          stand = λ stands low.
              spots-append g.model (numbers_in one.own) (numbers_of two.own) (K (f y) slots).spots (look_all looks (K (f y) slots).scope).spots
              (first.stand (stands-left (table g) next.node one.nodes (two.nodes ++ []) stands) (omega (arith, rises, low)))
              (subst (λ (l : List Field). SpotsStand g.model (numbers_of two.own) (look_all looks l).spots) first.same
              (rest.stand (stands-left (table g) (next.node + length one.nodes) two.nodes [] (stands-right (table g) next.node one.nodes (two.nodes ++ []) stands)) low));
        }

    pub all-do : (ys : List Y) → AllDo (all_so (map P (map f ys))) (map J (map f ys)) (all (map R (map f ys))) (look_all (map K (map f ys)))
    all-do ys = record { does = all-done ys }

  -- the expressions of arms in their order
  abbrev pub arms_numbers : List MakeArm → List ExprId
  arms_numbers arms = joined (map arm_numbers arms)

  module _ {Y X : Type 0} (f : Y → X) (P : X → Bool) (J : X → ArmWalk) (R : X → Step MakeArm) (K : X → Look) (each : (y : Y) → ArmDoes arm_numbers (P (f y)) (J (f y)) (R (f y)) (K (f y))) where
    arms-keep : (ys : List Y) (slots : List Field) (next : Next) → (all (map R (map f ys)) slots next).scope ≡ slots
    arms-keep [] slots next = refl
    arms-keep (y ∷ ys) slots next =
        let one = R (f y) slots next in
        arms-keep ys one.scope (behind next one) ∙ (each y).keeps slots next

    arms-hold : (ys : List Y) (slots : List Field) → (look_all (map K (map f ys)) slots).scope ≡ slots
    arms-hold [] slots = refl
    arms-hold (y ∷ ys) slots = arms-hold ys (K (f y) slots).scope ∙ (each y).holds slots

    arms-rise : (ys : List Y) (height found : ℕ) (scope : rules.Scope) → arms_walk (map J (map f ys)) height scope ≡ Ok found → height ≤ found
    arms-rise [] height found scope h = let same : height ≡ found = ok-is height found h in omega (arith, same)
    arms-rise (y ∷ ys) height found scope h =
        let w1 = went (J (f y) height scope) _ found h in
        let first : height ≤ w1.value = (each y).rises height w1.value scope w1.first in
        let rest : w1.value ≤ found = arms-rise ys w1.value found scope w1.next in
        omega (arith, first, rest)

    arms-stand : (ys : List Y) → all_so (map P (map f ys)) ≡ true → (height found : ℕ) (scope : rules.Scope) (slots : List Field) (next : Next)
        → arms_walk (map J (map f ys)) height scope ≡ Ok found → Sees (E g) scope slots → Stands (table g) next.node (all (map R (map f ys)) slots next).nodes → found ≤ 512
        → SpotsStand g.model (arms_numbers (all (map R (map f ys)) slots next).own) (look_all (map K (map f ys)) slots).spots
    arms-stand [] plain height found scope slots next h sees stands low = tt
    arms-stand (y ∷ ys) plain height found scope slots next h sees stands low =
        let w1 = went (J (f y) height scope) _ found h in
        let one = R (f y) slots next in
        let two = all (map R (map f ys)) one.scope (behind next one) in
        let looks : List Look = map K (map f ys) in
        let keeps : one.scope ≡ slots = (each y).keeps slots next in
        let rises : w1.value ≤ found = arms-rise ys w1.value found scope w1.next in
        spots-append g.model (arm_numbers one.own) (arms_numbers two.own) (K (f y) slots).spots (look_all looks (K (f y) slots).scope).spots
        ((each y).does (and-left (P (f y)) _ plain) height w1.value scope slots next w1.first sees (stands-left (table g) next.node one.nodes (two.nodes ++ []) stands) (omega (arith, rises, low)))
        (subst (λ (l : List Field). SpotsStand g.model (arms_numbers two.own) (look_all looks l).spots) (keeps ∙ sym ((each y).holds slots))
        (arms-stand ys (and-right (P (f y)) _ plain) w1.value found scope one.scope (behind next one) w1.next (subst (λ (l : List Field). Sees (E g) scope l) (sym keeps) sees)
        (stands-left (table g) (next.node + length one.nodes) two.nodes [] (stands-right (table g) next.node one.nodes (two.nodes ++ []) stands)) low))

    pub arms-do : (ys : List Y) → ArmDoes arms_numbers (all_so (map P (map f ys))) (arms_walk (map J (map f ys))) (all (map R (map f ys))) (look_all (map K (map f ys)))
    arms-do ys = record { keeps = arms-keep ys; holds = arms-hold ys; rises = arms-rise ys; does = arms-stand ys }
