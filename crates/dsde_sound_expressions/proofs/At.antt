-- An expression over slots: its type, what it comes to, and what its nodes mean; nodes of one part and of two.
use Rattle.std.proofs.Common.{◌≡◌, ℕ, zero, suc, ◌+◌, ◌≤◌, max, Bool, true, false, ◌&&◌, List, [], ◌∷◌, ◌++◌, length, Option, Some, Ok, refl, ◌∙◌, ap, subst, slice_get, arith, nat_lt}
use Rattle.dsde_language.specs.given.values.types_Field.{Field}
use Rattle.dsde_language.specs.given.values.types_Ty.{Ty}
use Rattle.dsde_language.specs.given.values.types_Types.{Types}
use Rattle.dsde_language.specs.given.values.value_Value.{Value}
use Rattle.dsde_language.specs.declared.known.Around.{Around}
use Rattle.dsde_language.specs.declared.seen.Seen.{Seen}
use Rattle.dsde_language.specs.declared.wrong.WrongKind.TheVariants.{Limit, NotTotal}
use Rattle.dsde_language.specs.Types.{depth_of}
use Rattle.dsde_language.specs.Steps.{above, unless}
use Rattle.dsde_language.specs.Judge.{seen_as, made, total}
use Rattle.dsde_language.specs.declared.node_ids.ExprId.{ExprId}
use Rattle.dsde_language.specs.declared.node.Node.{Node}
use Rattle.dsde_language.specs.Expressions.{Resolved, Nodes, expr_id, over_one, over_two}
use Rattle.dsde_language.specs.Outcome.{Outcome, ◌>>=◌}
use Rattle.dsde_language.specs.Meaning.{Vars, Mean}
use Rattle.dsde_language.specs.MeaningTables.{Coded, Means, means_in, node_mean, node_at}
use Rattle.dsde_language.specs.Typed.{Typed, Sound, Fits, values_in}
use Rattle.dsde_language.specs.Scopes.{Stands}
use Rattle.dsde_sound_expressions.specs.lemmas.Standing.{stands-head, stands-tail, stands-left, stands-right}
use Rattle.dsde_sound_expressions.specs.lemmas.Steps.{went, ok-is, unless-is}
use Rattle.dsde_sound_expressions.specs.lemmas.Outcomes.{sound-then, same-then}

-- the types of values, the tables of nodes, and whether there is always a value
pub record Ground : Type 0 where
  pub types : Types
  pub coded : Coded
  pub total : Bool

-- those where this stands round an expression
abbrev pub ground : Types → Coded → Around → Ground
ground types coded around = record { types = types; coded = coded; total = around.is_total }

-- An expression over slots has a type and comes to a value of it or to a fault, and its nodes mean what
-- it means, to a depth that is its height at least.
pub record At (g : Ground) (r : Resolved) (m : Mean) (slots : List Field) (t : Ty) (high : ℕ) : Type 0 where
  pub ty : r.ty slots ≡ t
  pub sound : (vars : Vars) → Fits g.types vars slots → Sound g.total (Typed g.types t) (m vars)
  pub reads : (vars : Vars) (start depth : ℕ) → Fits g.types vars slots → Stands g.coded.nodes start (r.nodes slots start) → high ≤ 512 → high ≤ depth
      → (means_in g.coded depth).part (expr_id start) (values_in vars) ≡ m vars

part-suc : (coded : Coded) (depth start : ℕ) (slots : List Value) (own : Node) → slice_get coded.nodes start ≡ Some own → (means_in coded (suc depth)).part (expr_id start) slots ≡ node_mean (means_in coded depth) coded.functions own slots
unfolding means_in
part-suc coded depth start slots own found = ap (λ (o : Option Node). node_at (means_in coded depth) coded.functions o slots) found

-- what is seen of an expression
pub seen-ty : (t : Ty) (height at : ℕ) (seen : Seen) → seen_as t height at ≡ Ok seen → t ≡ seen.ty
seen-ty t height at seen h = ap (λ (s : Seen). s.ty) (ok-is (record { ty = t; height = above height; at = at }) seen h)

pub seen-height : (t : Ty) (height at : ℕ) (seen : Seen) → seen_as t height at ≡ Ok seen → above height ≡ seen.height
seen-height t height at seen h = ap (λ (s : Seen). s.height) (ok-is (record { ty = t; height = above height; at = at }) seen h)

pub made-is : (around : Around) (t : Ty) (height at : ℕ) (seen : Seen) → made around t height at ≡ Ok seen → seen_as t height at ≡ Ok seen
made-is around t height at seen h = (went (unless (nat_lt 64 (depth_of around.known.depths t)) Limit at) _ seen h).next

-- where a fault is refused, there is none
-- where a fault is refused, there is none
no-fault : (total : Bool) → (total && true) ≡ false → total ≡ false
no-fault true h = h
no-fault false h = refl

pub never-total : (around : Around) (at : ℕ) (u : Unit {0}) → total around true at ≡ Ok u → around.is_total ≡ false
never-total around at u h = no-fault around.is_total (unless-is (around.is_total && true) NotTotal at u h)

module _ (g : Ground) where
  abbrev means : ℕ → Means
  means depth = means_in g.coded depth

  pub at-typed : (r : Resolved) (m : Mean) (slots : List Field) (t u : Ty) (n : ℕ) → t ≡ u → At g r m slots t n → At g r m slots u n
  at-typed r m slots t u n e p = subst (λ (w : Ty). At g r m slots w n) e p

  pub at-higher : (r : Resolved) (m : Mean) (slots : List Field) (t : Ty) (k n : ℕ) → k ≤ n → At g r m slots t k → At g r m slots t n
  at-higher r m slots t k n e p = record {
    ty = p.ty;
    sound = p.sound;
    reads = λ vars start depth fits stands least low. p.reads vars start depth fits stands (omega (arith, e, least)) (omega (arith, e, low));
  }

  pub at-seen : (r : Resolved) (m : Mean) (slots : List Field) (t : Ty) (n at : ℕ) (seen : Seen) → seen_as t n at ≡ Ok seen → At g r m slots t (above n) → At g r m slots seen.ty seen.height
  at-seen r m slots t n at seen h p =
      at-typed r m slots t seen.ty seen.height (seen-ty t n at seen h) (subst (λ (k : ℕ). At g r m slots t k) (seen-height t n at seen h) p)

  -- a node, with its parts behind it
  pub node-reads : (nodes : Nodes) (meant : Mean) (slots : List Field) (n : ℕ) (own : ℕ → Node) (parts : ℕ → List Node)
      → ((start : ℕ) → nodes slots start ≡ own start ∷ parts start)
      → ((vars : Vars) (start depth : ℕ) → Fits g.types vars slots → Stands g.coded.nodes (start + 1) (parts start) → n ≤ 511 → n ≤ depth
      → node_mean (means depth) g.coded.functions (own start) (values_in vars) ≡ meant vars)
      → (vars : Vars) (start depth : ℕ) → Fits g.types vars slots → Stands g.coded.nodes start (nodes slots start) → above n ≤ 512 → above n ≤ depth
      → (means depth).part (expr_id start) (values_in vars) ≡ meant vars
  node-reads nodes meant slots n own parts is step vars start zero fits stands least low = absurd (omega (arith, low))
  node-reads nodes meant slots n own parts is step vars start (suc depth) fits stands least low =
      let here : Stands g.coded.nodes start (own start ∷ parts start) = subst (λ (l : List Node). Stands g.coded.nodes start l) (is start) stands in
      part-suc g.coded depth start (values_in vars) (own start) (stands-head g.coded.nodes start (own start) (parts start) here)
      ∙ step vars start depth fits (stands-tail g.coded.nodes start (own start) (parts start) here) (omega (arith, least)) (omega (arith, least, low))

  -- a node without parts
  pub leaf-at : (r : Resolved) (m : Mean) (slots : List Field) (t : Ty) (own : Node)
      → ((start : ℕ) → r.nodes slots start ≡ own ∷ []) → r.ty slots ≡ t
      → ((vars : Vars) → Fits g.types vars slots → Sound g.total (Typed g.types t) (m vars))
      → ((vars : Vars) (all : Means) → Fits g.types vars slots → node_mean all g.coded.functions own (values_in vars) ≡ m vars)
      → At g r m slots t (above 0)
  leaf-at r m slots t own is kind sound step = record {
    ty = kind;
    sound = sound;
    reads = node-reads r.nodes m slots 0 (λ start. own) (λ start. []) is (λ vars start depth fits stands least low. step vars (means depth) fits);
  }

  -- a node of one part
  pub one-at : (r : Resolved) (whole : Resolved) (m : Mean) (slots : List Field) (t u : Ty) (n : ℕ) (own : ExprId → Node) (op named : Value → Outcome Value)
      → ((start : ℕ) → whole.nodes slots start ≡ over_one own r.nodes slots start) → whole.ty slots ≡ u
      → ((all : Means) (part : ExprId) (values : List Value) → node_mean all g.coded.functions (own part) values ≡ (all.part part values >>= op))
      → ((v : Value) → Typed g.types t v → op v ≡ named v)
      → ((v : Value) → Typed g.types t v → Sound g.total (Typed g.types u) (named v))
      → At g r m slots t n → At g whole (λ vars. m vars >>= named) slots u (above n)
  one-at r whole m slots t u n own op named is kind step same sounds p = record {
    ty = kind;
    sound = λ vars fits. sound-then g.total (Typed g.types t) (Typed g.types u) (m vars) named (p.sound vars fits) sounds;
    reads = node-reads whole.nodes (λ vars. m vars >>= named) slots n (λ start. own (expr_id (start + 1))) (λ start. r.nodes slots (start + 1)) is
        (λ vars start depth fits stands least low.
        step (means depth) (expr_id (start + 1)) (values_in vars)
        ∙ same-then g.total (Typed g.types t) (m vars) ((means depth).part (expr_id (start + 1)) (values_in vars)) named op
        (p.reads vars (start + 1) depth fits stands (omega (arith, least)) low) (p.sound vars fits) same);
  }

  -- a node of two parts, of which the second may be left alone
  pub two-at : (l r : Resolved) (kind : List Field → Ty) (m1 m2 : Mean) (slots : List Field) (t1 t2 u : Ty) (n1 n2 : ℕ) (own : ExprId → ExprId → Node) (op : Value → Outcome Value → Outcome Value)
      → kind slots ≡ u
      → ((all : Means) (one two : ExprId) (values : List Value) → node_mean all g.coded.functions (own one two) values ≡ (all.part one values >>= (λ v. op v (all.part two values))))
      → ((v : Value) (x : Outcome Value) → Typed g.types t1 v → Sound g.total (Typed g.types t2) x → Sound g.total (Typed g.types u) (op v x))
      → At g l m1 slots t1 n1 → At g r m2 slots t2 n2
      → At g (record { ty = kind; nodes = over_two own l.nodes r.nodes }) (λ vars. m1 vars >>= (λ v. op v (m2 vars))) slots u (above (max n1 n2))
  two-at l r kind m1 m2 slots t1 t2 u n1 n2 own op has step sounds p q = record {
    ty = has;
    sound = λ vars fits. sound-then g.total (Typed g.types t1) (Typed g.types u) (m1 vars) (λ v. op v (m2 vars)) (p.sound vars fits) (λ v typed. sounds v (m2 vars) typed (q.sound vars fits));
    reads = node-reads (over_two own l.nodes r.nodes) (λ vars. m1 vars >>= (λ v. op v (m2 vars))) slots (max n1 n2)
        (λ start. own (expr_id (start + 1)) (expr_id (start + 1 + length (l.nodes slots (start + 1)))))
        (λ start. l.nodes slots (start + 1) ++ r.nodes slots (start + 1 + length (l.nodes slots (start + 1))))
        (λ start. refl)
        (λ vars start depth fits stands least low.
        let one : List Node = l.nodes slots (start + 1) in
        let second : ℕ = start + 1 + length one in
        let two : List Node = r.nodes slots second in
        let part = (means depth).part in
        step (means depth) (expr_id (start + 1)) (expr_id second) (values_in vars)
        ∙ same-then g.total (Typed g.types t1) (m1 vars) (part (expr_id (start + 1)) (values_in vars)) (λ v. op v (m2 vars)) (λ v. op v (part (expr_id second) (values_in vars)))
        (p.reads vars (start + 1) depth fits (stands-left g.coded.nodes (start + 1) one two stands) (omega (arith, least)) (omega (arith, low)))
        (p.sound vars fits)
        (λ v typed. ap (λ (x : Outcome Value). op v x)
        (q.reads vars second depth fits (stands-right g.coded.nodes (start + 1) one two stands) (omega (arith, least)) (omega (arith, low)))));
  }
