-- Lists of parts, and nodes over them.
use Rattle.std.proofs.Common.{◌≡◌, ℕ, ◌+◌, ◌≤◌, max, Bool, true, List, [], ◌∷◌, ◌++◌, map, length, Ok, refl, sym, ◌∙◌, subst, append_assoc, append-nil, arith}
use Rattle.std.specs.Str.{bytes_eq}
use Rattle.std.proofs.lemmas.Bool.{and_from}
use Rattle.dsde_language.specs.given.values.types_Field.{Field}
use Rattle.dsde_language.specs.given.values.types_Ty.{Ty}
use Rattle.dsde_language.specs.given.values.types_Types.{Types}
use Rattle.dsde_language.specs.given.values.value_Value.{Value}
use Rattle.dsde_language.specs.given.values.Value as values
use Rattle.dsde_language.specs.given.values.Value.{has_type}
use Rattle.dsde_language.specs.declared.seen.Seen.{Seen}
use Rattle.dsde_language.specs.Judge.{Scope, Judge, SetJudge, fit, fill, all_of, in_order}
use Rattle.dsde_language.specs.Types.{wanted}
use Rattle.dsde_language.specs.Steps.{above}
use Rattle.dsde_language.specs.declared.node_ids.ExprId.{ExprId}
use Rattle.dsde_language.specs.declared.node.Node.{Node}
use Rattle.dsde_language.specs.Expressions.{Resolved, expr_id, all_nodes, numbers, over_all}
use Rattle.dsde_language.specs.Outcome.{Outcome, ◌>>=◌}
use Rattle.dsde_language.specs.Meaning.{Vars, Mean, values_of}
use Rattle.dsde_language.specs.MeaningTables.{Means, means_in, node_mean, values_from}
use Rattle.dsde_language.specs.Typed.{Typed, Sound, AllTyped, Fits, values_in}
use Rattle.dsde_language.specs.Scopes.{Stands, Sees}
use Rattle.dsde_sound_expressions.specs.lemmas.Standing.{stands-left, stands-right}
use Rattle.dsde_sound_expressions.specs.lemmas.Steps.{went, ok-is}
use Rattle.dsde_sound_expressions.specs.lemmas.Outcomes.{sound-then, same-then}
use Rattle.dsde_sound_expressions.specs.lemmas.Truths.{and-right}
use Rattle.dsde_sound_expressions.specs.lemmas.Types.{wanted-is}
use Rattle.dsde_sound_expressions.specs.lemmas.Values.{AllHave, cons-all}
use Rattle.dsde_sound_expressions.specs.lemmas.Fitting.{typed-snoc}
use Rattle.dsde_sound_expressions.proofs.At.{Ground, At, at-typed, at-higher, node-reads}

-- An expression that is judged stands over the slots of what it sees.
pub record Agreed (g : Ground) (has : Bool) (j : Judge) (r : Resolved) (m : Mean) : Type 0 where
  pub holds : (scope : Scope) (slots : List Field) (found : Seen) → j scope ≡ Ok found → Sees has scope slots → At g r m slots found.ty found.height

-- Parts stand over slots, each of its type, and none is higher than this.
abbrev pub AllAt : Ground → List Resolved → List Mean → List Field → List Ty → ℕ → Type 0
AllAt g [] [] slots [] n = Unit {0}
AllAt g [] [] slots (t ∷ ts) n = ⊥
AllAt g [] (m ∷ ms) slots ts n = ⊥
AllAt g (r ∷ rs) [] slots ts n = ⊥
AllAt g (r ∷ rs) (m ∷ ms) slots [] n = ⊥
AllAt g (r ∷ rs) (m ∷ ms) slots (t ∷ ts) n = At g r m slots t n × AllAt g rs ms slots ts n

module _ (g : Ground) (slots : List Field) (n : ℕ) where
  pub values-sound : (rs : List Resolved) (ms : List Mean) (ts : List Ty) → AllAt g rs ms slots ts n → (vars : Vars) → Fits g.types vars slots
      → (before : List Ty) (done : List Value) → AllTyped g.types before done → Sound g.total (AllTyped g.types (before ++ ts)) (values_of done ms vars)
  values-sound [] [] [] all vars fits before done have = subst (λ (l : List Ty). AllTyped g.types l done) (sym (append-nil before)) have
  values-sound [] [] (t ∷ ts) all vars fits before done have = absurd all
  values-sound [] (m ∷ ms) ts all vars fits before done have = absurd all
  values-sound (r ∷ rs) [] ts all vars fits before done have = absurd all
  values-sound (r ∷ rs) (m ∷ ms) [] all vars fits before done have = absurd all
  values-sound (r ∷ rs) (m ∷ ms) (t ∷ ts) all vars fits before done have =
      sound-then g.total (Typed g.types t) (AllTyped g.types (before ++ t ∷ ts)) (m vars) (λ v. values_of (done ++ v ∷ []) ms vars) (all.0.sound vars fits) (λ v typed.
      subst (λ (l : List Ty). Sound g.total (AllTyped g.types l) (values_of (done ++ v ∷ []) ms vars)) (append_assoc before (t ∷ []) ts)
      (values-sound rs ms ts all.1 vars fits (before ++ t ∷ []) (done ++ v ∷ []) (typed-snoc g.types before done t v have typed)))

  pub values-read : (rs : List Resolved) (ms : List Mean) (ts : List Ty) → AllAt g rs ms slots ts n → (vars : Vars) (start depth : ℕ) → Fits g.types vars slots
      → Stands g.coded.nodes start (all_nodes rs slots start) → n ≤ 512 → n ≤ depth → (done : List Value)
      → values_from (means_in g.coded depth).part done (numbers rs slots start) (values_in vars) ≡ values_of done ms vars
  values-read [] [] [] all vars start depth fits stands least low done = refl
  values-read [] [] (t ∷ ts) all vars start depth fits stands least low done = absurd all
  values-read [] (m ∷ ms) ts all vars start depth fits stands least low done = absurd all
  values-read (r ∷ rs) [] ts all vars start depth fits stands least low done = absurd all
  values-read (r ∷ rs) (m ∷ ms) [] all vars start depth fits stands least low done = absurd all
  values-read (r ∷ rs) (m ∷ ms) (t ∷ ts) all vars start depth fits stands least low done =
      let one : List Node = r.nodes slots start in
      let two : List Node = all_nodes rs slots (start + length one) in
      let part = (means_in g.coded depth).part in
      same-then g.total (Typed g.types t) (m vars) (part (expr_id start) (values_in vars)) (λ v. values_of (done ++ v ∷ []) ms vars) (λ v. values_from part (done ++ v ∷ []) (numbers rs slots (start + length one)) (values_in vars))
      (all.0.reads vars start depth fits (stands-left g.coded.nodes start one two stands) least low)
      (all.0.sound vars fits)
      (λ v _. values-read rs ms ts all.1 vars (start + length one) depth fits (stands-right g.coded.nodes start one two stands) least low (done ++ v ∷ []))

  -- a node over a list of parts
  pub parts-at : (rs : List Resolved) (ms : List Mean) (ts : List Ty) (k : ℕ) (own : List ExprId → Node) (kind : List Field → Ty) (u : Ty) (nexts : Means → List Value → Outcome Value) (named : List Value → Outcome Value)
      → kind slots ≡ u → (k ≤ 511 → n ≤ k)
      → ((all : Means) (parts : List ExprId) (values : List Value) → node_mean all g.coded.functions (own parts) values ≡ (values_from all.part [] parts values >>= (λ found. nexts all found)))
      → ((depth : ℕ) (values : List Value) → k ≤ 511 → k ≤ depth → AllTyped g.types ts values → nexts (means_in g.coded depth) values ≡ named values)
      → ((values : List Value) → AllTyped g.types ts values → Sound g.total (Typed g.types u) (named values))
      → AllAt g rs ms slots ts n
      → At g (record { ty = kind; nodes = over_all own rs }) (λ vars. values_of [] ms vars >>= named) slots u (above k)
  parts-at rs ms ts k own kind u nexts named has high step same sounds all = record {
    ty = has;
    sound = λ vars fits. sound-then g.total (AllTyped g.types ts) (Typed g.types u) (values_of [] ms vars) named (values-sound rs ms ts all vars fits [] [] tt) sounds;
    reads = node-reads g (over_all own rs) (λ vars. values_of [] ms vars >>= named) slots k (λ start. own (numbers rs slots (start + 1))) (λ start. all_nodes rs slots (start + 1)) (λ start. refl)
        (λ vars start depth fits stands least low.
        let below : n ≤ k = high least in
        step (means_in g.coded depth) (numbers rs slots (start + 1)) (values_in vars)
        ∙ same-then g.total (AllTyped g.types ts) (values_of [] ms vars) (values_from (means_in g.coded depth).part [] (numbers rs slots (start + 1)) (values_in vars)) named (λ found. nexts (means_in g.coded depth) found)
        (values-read rs ms ts all vars (start + 1) depth fits stands (omega (arith, below, least)) (omega (arith, below, low)) [])
        (values-sound rs ms ts all vars fits [] [] tt)
        (λ values typed. same depth values least low typed));
  }

-- one type for each of some parts
abbrev pub alike : {Y : Type 0} → Ty → List Y → List Ty
alike t [] = []
alike t (y ∷ ys) = t ∷ alike t ys

pub alike-have : {Y : Type 0} (types : Types) (t : Ty) (ys : List Y) (values : List Value) → AllTyped types (alike t ys) values → AllHave types t values
alike-have types t [] [] all = refl
alike-have types t [] (v ∷ values) all = absurd all
alike-have types t (y ∷ ys) [] all = absurd all
alike-have types t (y ∷ ys) (v ∷ values) all = cons-all types t v values all.0 (alike-have types t ys values all.1)

-- the types of fields
abbrev pub field_types : List Field → List Ty
field_types [] = []
field_types (field ∷ fields) = field.ty ∷ field_types fields

pub types-fill : (types : Types) (fields : List Field) (own : List Value) → AllTyped types (field_types fields) own → values.fill (map (has_type types) own) fields ≡ true
types-fill types [] [] all = refl
types-fill types [] (v ∷ own) all = absurd all
types-fill types (field ∷ fields) [] all = absurd all
types-fill types (field ∷ fields) (v ∷ own) all = and_from (has_type types v field.ty) (values.fill (map (has_type types) own) fields) all.0.has (types-fill types fields own all.1)

-- Parts stand over slots, and are no lower than what came before them.
pub record Fitted {Y X : Type 0} (g : Ground) (f : Y → X) (R : X → Resolved) (M : X → Mean) (ys : List Y) (slots : List Field) (ts : List Ty) (height found : ℕ) : Type 0 where
  pub all : AllAt g (map R (map f ys)) (map M (map f ys)) slots ts found
  pub high : height ≤ found

module _ {Y X : Type 0} (g : Ground) (has : Bool) (f : Y → X) (R : X → Resolved) (M : X → Mean) where
  -- the first of some parts, before the others
  fitted-cons : (y : Y) (ys : List Y) (slots : List Field) (t : Ty) (ts : List Ty) (height k found : ℕ) → At g (R (f y)) (M (f y)) slots t k → Fitted g f R M ys slots ts (max height k) found → Fitted g f R M (y ∷ ys) slots (t ∷ ts) height found
  fitted-cons y ys slots t ts height k found own rest =
      let h : max height k ≤ found = rest.high in
      record { all = (at-higher g (R (f y)) (M (f y)) slots t k found (omega (arith, h)) own, rest.all); high = omega (arith, h) }

  module _ (J : X → Judge) (agreed : (y : Y) → Agreed g has (J (f y)) (R (f y)) (M (f y))) where
    pub fit-at : (ys : List Y) (tys : List Ty) (height found : ℕ) (scope : Scope) (slots : List Field) → fit (map J (map f ys)) tys height scope ≡ Ok found → length (map J (map f ys)) ≡ length tys → Sees has scope slots → Fitted g f R M ys slots tys height found
    fit-at [] [] height found scope slots h long sees = record { all = tt; high = let e : height ≡ found = ok-is height found h in omega (arith, e) }
    fit-at [] (t ∷ tys) height found scope slots h long sees = absurd (omega (arith, long))
    fit-at (y ∷ ys) [] height found scope slots h long sees = absurd (omega (arith, long))
    fit-at (y ∷ ys) (t ∷ tys) height found scope slots h long sees =
        let w1 = went (J (f y) scope) _ found h in
        let w2 = went (wanted t w1.value) _ found w1.next in
        let is : t ≡ w1.value.ty = wanted-is t w1.value w2.value w2.first in
        let own = at-typed g (R (f y)) (M (f y)) slots w1.value.ty t w1.value.height (sym is) ((agreed y).holds scope slots w1.value w1.first sees) in
        let rest : length (map J (map f ys)) ≡ length tys = omega (arith, long) in
        fitted-cons y ys slots t tys height w1.value.height found own (fit-at ys tys (max height w1.value.height) found scope slots w2.next rest sees)

    pub all-at : (ys : List Y) (t : Ty) (height found : ℕ) (scope : Scope) (slots : List Field) → all_of t (map J (map f ys)) height scope ≡ Ok found → Sees has scope slots → Fitted g f R M ys slots (alike t ys) height found
    all-at [] t height found scope slots h sees = record { all = tt; high = let e : height ≡ found = ok-is height found h in omega (arith, e) }
    all-at (y ∷ ys) t height found scope slots h sees =
        let w1 = went (J (f y) scope) _ found h in
        let w2 = went (wanted t w1.value) _ found w1.next in
        let is : t ≡ w1.value.ty = wanted-is t w1.value w2.value w2.first in
        let own = at-typed g (R (f y)) (M (f y)) slots w1.value.ty t w1.value.height (sym is) ((agreed y).holds scope slots w1.value w1.first sees) in
        fitted-cons y ys slots t (alike t ys) height w1.value.height found own (all-at ys t (max height w1.value.height) found scope slots w2.next sees)

  module _ (JF : X → SetJudge) (agreed : (y : Y) → Agreed g has (JF (f y)).value (R (f y)) (M (f y))) where
    pub fill-at : (ys : List Y) (fields : List Field) (height found : ℕ) (scope : Scope) (slots : List Field) → fill (map JF (map f ys)) fields height scope ≡ Ok found → in_order fields (map JF (map f ys)) ≡ true → Sees has scope slots → Fitted g f R M ys slots (field_types fields) height found
    fill-at [] [] height found scope slots h order sees = record { all = tt; high = let e : height ≡ found = ok-is height found h in omega (arith, e) }
    fill-at [] (field ∷ fields) height found scope slots h order sees = cc
    fill-at (y ∷ ys) [] height found scope slots h order sees = cc
    fill-at (y ∷ ys) (field ∷ fields) height found scope slots h order sees =
        let w1 = went ((JF (f y)).value scope) _ found h in
        let w2 = went (wanted field.ty w1.value) _ found w1.next in
        let is : field.ty ≡ w1.value.ty = wanted-is field.ty w1.value w2.value w2.first in
        let own = at-typed g (R (f y)) (M (f y)) slots w1.value.ty field.ty w1.value.height (sym is) ((agreed y).holds scope slots w1.value w1.first sees) in
        let rest : in_order fields (map JF (map f ys)) ≡ true = and-right (bytes_eq field.name (JF (f y)).name.name) (in_order fields (map JF (map f ys))) order in
        fitted-cons y ys slots field.ty (field_types fields) height w1.value.height found own (fill-at ys fields (max height w1.value.height) found scope slots w2.next rest sees)
