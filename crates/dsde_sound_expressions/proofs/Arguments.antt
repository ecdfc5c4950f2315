-- Nodes of one, two and three arguments.
use Rattle.std.proofs.Common.{◌≡◌, ℕ, ◌+◌, List, [], ◌∷◌, ◌++◌, length, refl, ◌∙◌, arith}
use Rattle.dsde_language.specs.given.values.types_Field.{Field}
use Rattle.dsde_language.specs.given.values.types_Ty.{Ty}
use Rattle.dsde_language.specs.given.values.value_Value.{Value}
use Rattle.dsde_language.specs.Steps.{above}
use Rattle.dsde_language.specs.declared.node_ids.ExprId.{ExprId}
use Rattle.dsde_language.specs.declared.node.Node.{Node}
use Rattle.dsde_language.specs.Expressions.{Resolved, expr_id, all_nodes, numbers, over_all}
use Rattle.dsde_language.specs.Outcome.{Outcome, ◌>>=◌}
use Rattle.dsde_language.specs.Meaning.{Mean}
use Rattle.dsde_language.specs.MeaningTables.{Means, means_in, node_mean}
use Rattle.dsde_language.specs.Typed.{Typed, Sound, values_in}
use Rattle.dsde_sound_expressions.specs.lemmas.Standing.{stands-left, stands-right}
use Rattle.dsde_sound_expressions.specs.lemmas.Outcomes.{sound-then, same-then}
use Rattle.dsde_sound_expressions.proofs.At.{Ground, At, node-reads}

module _ (g : Ground) (slots : List Field) (own : List ExprId → Node) (kind : List Field → Ty) (u : Ty) (is : kind slots ≡ u) (n : ℕ) where
  abbrev node_of : List Resolved → Resolved
  node_of rs = record { ty = kind; nodes = over_all own rs }

  abbrev Fine : Outcome Value → Type 0
  Fine x = Sound g.total (Typed g.types u) x

  pub argument : (r : Resolved) (m : Mean) (t : Ty) (op : Value → Outcome Value)
      → ((all : Means) (a : ExprId) (values : List Value) → node_mean all g.coded.functions (own (a ∷ [])) values ≡ (all.part a values >>= op))
      → ((v : Value) → Typed g.types t v → Fine (op v)) → At g r m slots t n → At g (node_of (r ∷ [])) (λ vars. m vars >>= op) slots u (above n)
  argument r m t op step sounds p = record {
    ty = is;
    sound = λ vars fits. sound-then g.total (Typed g.types t) (Typed g.types u) (m vars) op (p.sound vars fits) sounds;
    reads = node-reads g (over_all own (r ∷ [])) (λ vars. m vars >>= op) slots n (λ start. own (numbers (r ∷ []) slots (start + 1))) (λ start. all_nodes (r ∷ []) slots (start + 1)) (λ start. refl)
        (λ vars start depth fits stands least low.
        step (means_in g.coded depth) (expr_id (start + 1)) (values_in vars)
        ∙ same-then g.total (Typed g.types t) (m vars) ((means_in g.coded depth).part (expr_id (start + 1)) (values_in vars)) op op
        (p.reads vars (start + 1) depth fits (stands-left g.coded.nodes (start + 1) (r.nodes slots (start + 1)) [] stands) (omega (arith, least)) low)
        (p.sound vars fits) (λ v _. refl));
  }

  pub two_arguments : (r1 r2 : Resolved) (m1 m2 : Mean) (t1 t2 : Ty) (op : Value → Value → Outcome Value)
      → ((all : Means) (a b : ExprId) (values : List Value) → node_mean all g.coded.functions (own (a ∷ b ∷ [])) values ≡ (all.part a values >>= (λ v. all.part b values >>= (λ w. op v w))))
      → ((v w : Value) → Typed g.types t1 v → Typed g.types t2 w → Fine (op v w)) → At g r1 m1 slots t1 n → At g r2 m2 slots t2 n
      → At g (node_of (r1 ∷ r2 ∷ [])) (λ vars. m1 vars >>= (λ v. m2 vars >>= (λ w. op v w))) slots u (above n)
  two_arguments r1 r2 m1 m2 t1 t2 op step sounds p q = record {
    ty = is;
    sound = λ vars fits.
        sound-then g.total (Typed g.types t1) (Typed g.types u) (m1 vars) (λ v. m2 vars >>= (λ w. op v w)) (p.sound vars fits) (λ v typed.
        sound-then g.total (Typed g.types t2) (Typed g.types u) (m2 vars) (λ w. op v w) (q.sound vars fits) (λ w other. sounds v w typed other));
    reads = node-reads g (over_all own (r1 ∷ r2 ∷ [])) (λ vars. m1 vars >>= (λ v. m2 vars >>= (λ w. op v w))) slots n (λ start. own (numbers (r1 ∷ r2 ∷ []) slots (start + 1))) (λ start. all_nodes (r1 ∷ r2 ∷ []) slots (start + 1)) (λ start. refl)
        (λ vars start depth fits stands least low.
        let part = (means_in g.coded depth).part in
        let one : List Node = r1.nodes slots (start + 1) in
        let second : ℕ = start + 1 + length one in
        let two : List Node = r2.nodes slots second in
        let there = stands-right g.coded.nodes (start + 1) one (two ++ []) stands in
        step (means_in g.coded depth) (expr_id (start + 1)) (expr_id second) (values_in vars)
        ∙ same-then g.total (Typed g.types t1) (m1 vars) (part (expr_id (start + 1)) (values_in vars)) (λ v. m2 vars >>= (λ w. op v w)) (λ v. part (expr_id second) (values_in vars) >>= (λ w. op v w))
        (p.reads vars (start + 1) depth fits (stands-left g.coded.nodes (start + 1) one (two ++ []) stands) (omega (arith, least)) low) (p.sound vars fits)
        (λ v _. same-then g.total (Typed g.types t2) (m2 vars) (part (expr_id second) (values_in vars)) (λ w. op v w) (λ w. op v w)
        (q.reads vars second depth fits (stands-left g.coded.nodes second two [] there) (omega (arith, least)) low) (q.sound vars fits) (λ w _. refl)));
  }

  pub three_arguments : (r1 r2 r3 : Resolved) (m1 m2 m3 : Mean) (t1 t2 t3 : Ty) (op : Value → Value → Value → Outcome Value)
      → ((all : Means) (a b c : ExprId) (values : List Value) → node_mean all g.coded.functions (own (a ∷ b ∷ c ∷ [])) values ≡ (all.part a values >>= (λ v. all.part b values >>= (λ w. all.part c values >>= (λ x. op v w x)))))
      → ((v w x : Value) → Typed g.types t1 v → Typed g.types t2 w → Typed g.types t3 x → Fine (op v w x)) → At g r1 m1 slots t1 n → At g r2 m2 slots t2 n → At g r3 m3 slots t3 n
      → At g (node_of (r1 ∷ r2 ∷ r3 ∷ [])) (λ vars. m1 vars >>= (λ v. m2 vars >>= (λ w. m3 vars >>= (λ x. op v w x)))) slots u (above n)
  three_arguments r1 r2 r3 m1 m2 m3 t1 t2 t3 op step sounds p q o = record {
    ty = is;
    sound = λ vars fits.
        sound-then g.total (Typed g.types t1) (Typed g.types u) (m1 vars) (λ v. m2 vars >>= (λ w. m3 vars >>= (λ x. op v w x))) (p.sound vars fits) (λ v typed.
        sound-then g.total (Typed g.types t2) (Typed g.types u) (m2 vars) (λ w. m3 vars >>= (λ x. op v w x)) (q.sound vars fits) (λ w other.
        sound-then g.total (Typed g.types t3) (Typed g.types u) (m3 vars) (λ x. op v w x) (o.sound vars fits) (λ x last. sounds v w x typed other last)));
    reads = node-reads g (over_all own (r1 ∷ r2 ∷ r3 ∷ [])) (λ vars. m1 vars >>= (λ v. m2 vars >>= (λ w. m3 vars >>= (λ x. op v w x)))) slots n (λ start. own (numbers (r1 ∷ r2 ∷ r3 ∷ []) slots (start + 1))) (λ start. all_nodes (r1 ∷ r2 ∷ r3 ∷ []) slots (start + 1)) (λ start. refl)
        (λ vars start depth fits stands least low.
        let part = (means_in g.coded depth).part in
        let one : List Node = r1.nodes slots (start + 1) in
        let second : ℕ = start + 1 + length one in
        let two : List Node = r2.nodes slots second in
        let third : ℕ = second + length two in
        let three : List Node = r3.nodes slots third in
        let there = stands-right g.coded.nodes (start + 1) one (two ++ (three ++ [])) stands in
        let last = stands-right g.coded.nodes second two (three ++ []) there in
        step (means_in g.coded depth) (expr_id (start + 1)) (expr_id second) (expr_id third) (values_in vars)
        ∙ same-then g.total (Typed g.types t1) (m1 vars) (part (expr_id (start + 1)) (values_in vars)) (λ v. m2 vars >>= (λ w. m3 vars >>= (λ x. op v w x))) (λ v. part (expr_id second) (values_in vars) >>= (λ w. part (expr_id third) (values_in vars) >>= (λ x. op v w x)))
        (p.reads vars (start + 1) depth fits (stands-left g.coded.nodes (start + 1) one (two ++ (three ++ [])) stands) (omega (arith, least)) low) (p.sound vars fits)
        (λ v _. same-then g.total (Typed g.types t2) (m2 vars) (part (expr_id second) (values_in vars)) (λ w. m3 vars >>= (λ x. op v w x)) (λ w. part (expr_id third) (values_in vars) >>= (λ x. op v w x))
        (q.reads vars second depth fits (stands-left g.coded.nodes second two (three ++ []) there) (omega (arith, least)) low) (q.sound vars fits)
        (λ w _. same-then g.total (Typed g.types t3) (m3 vars) (part (expr_id third) (values_in vars)) (λ x. op v w x) (λ x. op v w x)
        (o.reads vars third depth fits (stands-left g.coded.nodes third three [] last) (omega (arith, least)) low) (o.sound vars fits) (λ x _. refl))));
  }
