-- What is laid behind a table is the resolution.
use Rattle.std.proofs.Common.{◌≡◌, ℕ, ◌+◌, ◌-◌, arith, List, [], ◌∷◌, ◌++◌, map, length, slice_set, unwrap_or, Option, Some, None, refl, sym, ◌∙◌, ap, subst, append_assoc, append-nil}
use Rattle.std.proofs.lemmas.List.{length-append}
use Rattle.dsde_language.specs.given.syntax.id_Id.{Id}
use Rattle.dsde_language.specs.given.syntax.expr_Expr.{Expr}
use Rattle.dsde_language.specs.given.syntax.expr_Suffix.{Suffix}
use Rattle.dsde_language.specs.given.syntax.expr_ExprArm.{ExprArm}
use Rattle.dsde_language.specs.given.syntax.expr_FieldSet.{FieldSet}
use Rattle.dsde_language.specs.given.syntax.expr_SignTail.{SignTail}
use Rattle.dsde_language.specs.given.syntax.expr_Tail.{Tail}
use Rattle.dsde_language.specs.given.syntax.expr_Expr_TheOpen.{Expr-F, Suffix-F, ExprArm-F, FieldSet-F, SignTail-F, Tail-F}
use Rattle.dsde_language.specs.given.syntax.expr_Expr_TheViews.{roll-Expr, roll-Suffix, roll-ExprArm, roll-FieldSet, roll-SignTail, roll-Tail}
use Rattle.dsde_language.specs.given.syntax.expr_Expr_TheFolds.{fold-Suffix, fold-ExprArm, fold-FieldSet, fold-SignTail, fold-Tail, map-Expr, map-Suffix, map-ExprArm, map-FieldSet, map-SignTail, map-Tail, fold-roll-Expr, fold-roll-Suffix, fold-roll-ExprArm, fold-roll-FieldSet, fold-roll-SignTail, fold-roll-Tail, ind-Expr}
use Rattle.dsde_language.specs.given.values.types_Ty.{Ty}
use Rattle.dsde_language.specs.given.values.types_Ty_TheVariants as ty
use Rattle.dsde_language.specs.declared.known.Known.{Known}
use Rattle.dsde_language.specs.declared.node_ids.ExprId.{ExprId}
use Rattle.dsde_language.specs.declared.operator.Binary.{Binary}
use Rattle.dsde_language.specs.declared.node.Node.{Node}
use Rattle.dsde_language.specs.declared.node.Node.TheVariants as node
use Rattle.dsde_language.specs.declared.node.NodeArm.{NodeArm}
use Rattle.dsde_language.specs.Names.{Scope, with_slot, type_number}
use Rattle.dsde_language.specs.Typing.{item_in, held_in, field_type, field_number, builtin_type, func_number}
use Rattle.dsde_language.specs.Expressions as nodes
use Rattle.dsde_language.specs.DeclaredOperators.{nested, sign_binary}
use Rattle.dsde_language.specs.Expressions.{Resolved, expr_id, of_type, over_one, over_two, over_all, all_nodes, cond_nodes, arm_nodes, each_nodes, if_nodes, resolve, resolve_step, builtin_node}
use Rattle.dsde_program_layout.specs.Lay as laid
use Rattle.dsde_program_layout.specs.Lay.{Table, Laid, Lay, Link, lay, lay_suffix, lay_arm, lay_set, lay_sign_tail, lay_tail, lay_step, lay_all, lay_one, lay_two, lay_parts, lay_each, lay_if, lay_arms, lay_cond, numbers, head_from, lay_links, lay_chain, roomy, rooms, put}
use Rattle.dsde_program_layout.specs.LaidIs.{laid_as}
use Rattle.dsde_program_layout.proofs.Seams.{seam-1}

pub record Lays (l : Lay) (r : Resolved) : Type 0 where
  pub lays : (scope : Scope) (table : Table) → l scope table ≡ laid_as r scope table

-- A link of a chain, over room for its node and whatever stands to its left.
pub record Links (l : Link) (r : Resolved → Resolved) : Type 0 where
  pub links : (left : Resolved) (scope : Scope) (table : Table) → l (left.ty scope) scope (length table + 1) (roomy table ++ left.nodes scope (length table + 1)) ≡ laid_as (r left) scope table

abbrev pair : Ty → Table → Laid
pair own table = record { ty = own; table = table }

both : (t u : Ty) (x y : Table) → t ≡ u → x ≡ y → pair t x ≡ pair u y
both t u x y p q = ap (λ (own : Ty). pair own x) p ∙ ap (λ (table : Table). pair u table) q

table-of : (l : Lay) (r : Resolved) → Lays l r → (scope : Scope) (table : Table) → (l scope table).table ≡ table ++ r.nodes scope (length table)
table-of l r p scope table = ap (λ (one : Laid). one.table) (p.lays scope table)

type-of : (l : Lay) (r : Resolved) → Lays l r → (scope : Scope) (table : Table) → (l scope table).ty ≡ r.ty scope
type-of l r p scope table = ap (λ (one : Laid). one.ty) (p.lays scope table)

less : (n : ℕ) → n + 1 - 1 ≡ n
less n = omega arith

longer : (after before part : Table) → after ≡ before ++ part → length after ≡ length before + length part
longer after before part is = ap length is ∙ length-append before part

roomier : (table : Table) → length (roomy table) ≡ length table + 1
roomier table = length-append table (node.Nothing ∷ [])

-- one more part behind a table
behind : (after table one others : Table) → after ≡ table ++ one → after ++ others ≡ table ++ (one ++ others)
behind after table one others is = ap (λ (l : Table). l ++ others) is ∙ append_assoc table one others

-- a node in front of its parts
put-1 : (table all part : Table) (own own' : Node) → all ≡ roomy table ++ part → own ≡ own' → slice_set all (length table) own ≡ table ++ (own' ∷ part)
put-1 table all part own own' is same =
    ap (λ (l : Table). slice_set l (length table) own) is
    ∙ ap (λ (n : Node). slice_set (roomy table ++ part) (length table) n) same
    ∙ seam-1 table part node.Nothing own'

-- one part behind room for its node
first-laid : (l : Lay) (r : Resolved) → Lays l r → (scope : Scope) (table : Table) → (l scope (roomy table)).table ≡ roomy table ++ r.nodes scope (length table + 1)
first-laid l r p scope table = table-of l r p scope (roomy table) ∙ ap (λ (n : ℕ). roomy table ++ r.nodes scope n) (roomier table)

-- a part behind others
next-laid : (l : Lay) (r : Resolved) → Lays l r → (scope : Scope) (after before part : Table) (long : ℕ) → after ≡ before ++ part → length after ≡ long → (l scope after).table ≡ before ++ (part ++ r.nodes scope long)
next-laid l r p scope after before part long is size =
    table-of l r p scope after ∙ ap (λ (n : ℕ). after ++ r.nodes scope n) size ∙ behind after before part (r.nodes scope long) is

long-after : (table part after : Table) → after ≡ roomy table ++ part → length after ≡ length table + 1 + length part
long-after table part after is = longer after (roomy table) part is ∙ ap (λ (n : ℕ). n + length part) (roomier table)

module _ {Y X : Type 0} (f : Y → X) (L : X → Lay) (R : X → Resolved) (all : (y : Y) → Lays (L (f y)) (R (f y))) where
  pub all-lays : (ys : List Y) (scope : Scope) (table : Table) → lay_all (map L (map f ys)) scope table ≡ table ++ all_nodes (map R (map f ys)) scope (length table)
  all-lays [] scope table = sym (append-nil table)
  all-lays (y ∷ ys) scope table =
      let after : Table = (L (f y) scope table).table in
      let one : Table = (R (f y)).nodes scope (length table) in
      let is : after ≡ table ++ one = table-of (L (f y)) (R (f y)) (all y) scope table in
      let long : length after ≡ length table + length one = longer after table one is in
      all-lays ys scope after
      ∙ ap (λ (n : ℕ). after ++ all_nodes (map R (map f ys)) scope n) long
      ∙ behind after table one (all_nodes (map R (map f ys)) scope (length table + length one)) is

  pub all-numbers : (ys : List Y) (scope : Scope) (table : Table) → numbers (map L (map f ys)) scope table ≡ nodes.numbers (map R (map f ys)) scope (length table)
  all-numbers [] scope table = refl
  all-numbers (y ∷ ys) scope table =
      let after : Table = (L (f y) scope table).table in
      let one : Table = (R (f y)).nodes scope (length table) in
      ap (λ (l : List ExprId). expr_id (length table) ∷ l)
      (all-numbers ys scope after ∙ ap (λ (n : ℕ). nodes.numbers (map R (map f ys)) scope n) (longer after table one (table-of (L (f y)) (R (f y)) (all y) scope table)))

  -- the first type is kept
  head-kept : (ys : List Y) (own : Ty) (scope : Scope) (table : Table) → head_from (Some own) (map L (map f ys)) scope table ≡ Some own
  head-kept [] own scope table = refl
  head-kept (y ∷ ys) own scope table = head-kept ys own scope (L (f y) scope table).table

  pub head-types : (ys : List Y) (scope : Scope) (table : Table) → laid.head_type (map L (map f ys)) scope table ≡ nodes.head_type (map R (map f ys)) scope
  head-types [] scope table = refl
  head-types (y ∷ ys) scope table =
      ap (λ (found : Option Ty). unwrap_or found ty.Int) (head-kept ys (L (f y) scope table).ty scope (L (f y) scope table).table)
      ∙ type-of (L (f y)) (R (f y)) (all y) scope table

  pub parts-lay : (own own' : Ty) (made : List ExprId → Node) (ys : List Y) (scope : Scope) (table : Table) → own ≡ own'
      → lay_parts own made (map L (map f ys)) scope table ≡ pair own' (table ++ over_all made (map R (map f ys)) scope (length table))
  parts-lay own own' made ys scope table same =
      let room : length (roomy table) ≡ length table + 1 = roomier table in
      both own own' _ _ same
      (put-1 table (lay_all (map L (map f ys)) scope (roomy table)) (all_nodes (map R (map f ys)) scope (length table + 1))
      (made (numbers (map L (map f ys)) scope (roomy table))) (made (nodes.numbers (map R (map f ys)) scope (length table + 1)))
      (all-lays ys scope (roomy table) ∙ ap (λ (n : ℕ). roomy table ++ all_nodes (map R (map f ys)) scope n) room)
      (ap made (all-numbers ys scope (roomy table) ∙ ap (λ (n : ℕ). nodes.numbers (map R (map f ys)) scope n) room)))

module _ {Y X : Type 0} (f : Y → X) (L : X → Link) (R : X → Resolved → Resolved) (all : (y : Y) → Links (L (f y)) (R (f y))) where
  -- links over rooms and what stands to their left
  links-lay : (ys : List Y) (left : Resolved) (scope : Scope) (table : Table)
      → lay_links (map L (map f ys)) (left.ty scope) scope (length (rooms (length (map L (map f ys))) table)) (rooms (length (map L (map f ys))) table ++ left.nodes scope (length (rooms (length (map L (map f ys))) table)))
      ≡ laid_as (nested left (map R (map f ys))) scope table
  links-lay [] left scope table = refl
  links-lay (y ∷ ys) left scope table =
      let own : Link = L (f y) in
      let others : List Link = map L (map f ys) in
      let base : Table = rooms (length others) table in
      let over : Table = roomy base ++ left.nodes scope (length base + 1) in
      let e : length base + 1 - 1 ≡ length base = omega arith in
      ap (λ (n : ℕ). lay_links (own ∷ others) (left.ty scope) scope n (roomy base ++ left.nodes scope n)) (roomier base)
      ∙ ap (λ (n : ℕ). lay_links others (own (left.ty scope) scope (length base + 1) over).ty scope n (own (left.ty scope) scope (length base + 1) over).table) e
      ∙ ap (λ (t : Laid). lay_links others t.ty scope (length base) t.table) ((all y).links left scope base)
      ∙ links-lay ys (R (f y) left) scope table

  pub chain-lays : (l : Lay) (r : Resolved) → Lays l r → (ys : List Y) → Lays (lay_chain l (map L (map f ys))) (nested r (map R (map f ys)))
  chain-lays l r p ys = record {
    lays = λ scope table.
        let base : Table = rooms (length (map L (map f ys))) table in
        ap (λ (t : Laid). lay_links (map L (map f ys)) t.ty scope (length base) t.table) (p.lays scope base)
        ∙ links-lay ys r scope table;
  }

pub one-lays : (own : Ty) (made : ExprId → Node) (l : Lay) (r : Resolved) → Lays l r → Lays (lay_one own made l) (of_type own (over_one made r.nodes))
one-lays own made l r p = record {
  lays = λ scope table.
      both own own _ _ refl
      (put-1 table (l scope (roomy table)).table (r.nodes scope (length table + 1))
      (made (expr_id (length (roomy table)))) (made (expr_id (length table + 1)))
      (first-laid l r p scope table)
      (ap (λ (n : ℕ). made (expr_id n)) (roomier table)));
}

pub two-lays : (own : Ty → Ty → Ty) (made : ExprId → ExprId → Node) (l1 l2 : Lay) (r1 r2 : Resolved) → Lays l1 r1 → Lays l2 r2
    → Lays (lay_two own made l1 l2) (record { ty = λ scope. own (r1.ty scope) (r2.ty scope); nodes = over_two made r1.nodes r2.nodes })
two-lays own made l1 l2 r1 r2 p1 p2 = record {
  lays = λ scope table.
      let one : Table = r1.nodes scope (length table + 1) in
      let after : Table = (l1 scope (roomy table)).table in
      let is : after ≡ roomy table ++ one = first-laid l1 r1 p1 scope table in
      let second : length after ≡ length table + 1 + length one = long-after table one after is in
      both _ _ _ _
      (ap (λ (t : Ty). own t (l2 scope after).ty) (type-of l1 r1 p1 scope (roomy table)) ∙ ap (λ (t : Ty). own (r1.ty scope) t) (type-of l2 r2 p2 scope after))
      (put-1 table (l2 scope after).table (one ++ r2.nodes scope (length table + 1 + length one))
      (made (expr_id (length (roomy table))) (expr_id (length after))) (made (expr_id (length table + 1)) (expr_id (length table + 1 + length one)))
      (next-laid l2 r2 p2 scope after (roomy table) one (length table + 1 + length one) is second)
      (ap (λ (n : ℕ). made (expr_id n) (expr_id (length after))) (roomier table) ∙ ap (λ (n : ℕ). made (expr_id (length table + 1)) (expr_id n)) second));
}

-- what a condition, if there is one, lays behind a table
pub record CondLays (l : Option Lay) (r : Option Resolved) : Type 0 where
  pub lays : (scope : Scope) (table : Table) → lay_cond l scope table ≡ table ++ cond_nodes r scope (length table)
  pub number : (table : Table) → laid.cond_number l table ≡ nodes.cond_number r (length table)

pub no-cond : CondLays None None
no-cond = record { lays = λ scope table. sym (append-nil table); number = λ table. refl }

pub one-cond : (l : Lay) (r : Resolved) → Lays l r → CondLays (Some l) (Some r)
one-cond l r p = record { lays = λ scope table. table-of l r p scope table; number = λ table. refl }

-- a comprehension, once its list is laid
module _ (name : Id) (rl : Resolved) (lc : Option Lay) (rc : Option Resolved) (lv : Lay) (rv : Resolved) (pc : CondLays lc rc) (pv : Lays lv rv) where
  abbrev each-behind : Scope → Table → Laid → Laid
  each-behind scope table one =
      let inside = with_slot scope name.name (item_in one.ty) in
      let two = lay_cond lc inside one.table in
      let three = lv inside two in
      put (ty.List three.ty) three.table (length table)
      (node.Each (expr_id (length (roomy table))) (laid.cond_number lc one.table) (expr_id (length two)))

  each-from : (scope : Scope) (table : Table)
      → each-behind scope table (pair (rl.ty scope) (roomy table ++ rl.nodes scope (length table + 1)))
      ≡ pair (ty.List (rv.ty (with_slot scope name.name (item_in (rl.ty scope))))) (table ++ each_nodes name rl rc rv scope (length table))
  each-from scope table =
      let inside : Scope = with_slot scope name.name (item_in (rl.ty scope)) in
      let one : Table = rl.nodes scope (length table + 1) in
      let after : Table = roomy table ++ one in
      let second : ℕ = length table + 1 + length one in
      let long : length after ≡ second = long-after table one after refl in
      let two : Table = cond_nodes rc inside second in
      let after2 : Table = lay_cond lc inside after in
      let is2 : after2 ≡ after ++ two = pc.lays inside after ∙ ap (λ (n : ℕ). after ++ cond_nodes rc inside n) long in
      let third : ℕ = second + length two in
      let long2 : length after2 ≡ third = longer after2 after two is2 ∙ ap (λ (n : ℕ). n + length two) long in
      let is2' : after2 ≡ roomy table ++ (one ++ two) = is2 ∙ append_assoc (roomy table) one two in
      both _ _ _ _
      (ap ty.List (type-of lv rv pv inside after2))
      (put-1 table (lv inside after2).table ((one ++ two) ++ rv.nodes inside third)
      (node.Each (expr_id (length (roomy table))) (laid.cond_number lc after) (expr_id (length after2)))
      (node.Each (expr_id (length table + 1)) (nodes.cond_number rc second) (expr_id third))
      (next-laid lv rv pv inside after2 (roomy table) (one ++ two) third is2' long2)
      (ap (λ (n : ℕ). node.Each (expr_id n) (laid.cond_number lc after) (expr_id (length after2))) (roomier table)
      ∙ ap (λ (c : Option ExprId). node.Each (expr_id (length table + 1)) c (expr_id (length after2))) (pc.number after ∙ ap (λ (n : ℕ). nodes.cond_number rc n) long)
      ∙ ap (λ (n : ℕ). node.Each (expr_id (length table + 1)) (nodes.cond_number rc second) (expr_id n)) long2))

  pub each-lays : (ll : Lay) → Lays ll rl
      → Lays (lay_each name ll lc lv) (record { ty = λ scope. ty.List (rv.ty (with_slot scope name.name (item_in (rl.ty scope)))); nodes = each_nodes name rl rc rv })
  each-lays ll pl = record {
    lays = λ scope table.
        ap (λ (one : Laid). each-behind scope table one)
        (pl.lays scope (roomy table) ∙ ap (λ (n : ℕ). pair (rl.ty scope) (roomy table ++ rl.nodes scope n)) (roomier table))
        ∙ each-from scope table;
  }

-- an arm of `if`
pub record ArmLays (l : laid.Arm) (r : nodes.Arm) : Type 0 where
  pub cond : (scope : Scope) (table : Table) → (l.cond scope table).table ≡ table ++ r.cond scope (length table)
  pub value : (scope : Scope) (table : Table) → (l.value scope table).table ≡ table ++ r.value scope (length table)

module _ {Y X : Type 0} (f : Y → X) (L : X → laid.Arm) (R : X → nodes.Arm) (all : (y : Y) → ArmLays (L (f y)) (R (f y))) where
  pub arms-lay : (ys : List Y) (scope : Scope) (table : Table) → lay_arms (map L (map f ys)) scope table ≡ table ++ arm_nodes (map R (map f ys)) scope (length table)
  arms-lay [] scope table = sym (append-nil table)
  arms-lay (y ∷ ys) scope table =
      let one : Table = (R (f y)).cond scope (length table) in
      let after1 : Table = ((L (f y)).cond scope table).table in
      let is1 : after1 ≡ table ++ one = (all y).cond scope table in
      let second : ℕ = length table + length one in
      let long1 : length after1 ≡ second = longer after1 table one is1 in
      let two : Table = (R (f y)).value scope second in
      let after2 : Table = ((L (f y)).value scope after1).table in
      let is2 : after2 ≡ after1 ++ two = (all y).value scope after1 ∙ ap (λ (n : ℕ). after1 ++ (R (f y)).value scope n) long1 in
      let third : ℕ = second + length two in
      let long2 : length after2 ≡ third = longer after2 after1 two is2 ∙ ap (λ (n : ℕ). n + length two) long1 in
      let rest : Table = arm_nodes (map R (map f ys)) scope third in
      arms-lay ys scope after2
      ∙ ap (λ (n : ℕ). after2 ++ arm_nodes (map R (map f ys)) scope n) long2
      ∙ behind after2 table (one ++ two) rest (is2 ∙ behind after1 table one two is1)

  pub arms-number : (ys : List Y) (scope : Scope) (table : Table) → laid.arm_numbers (map L (map f ys)) scope table ≡ nodes.arm_numbers (map R (map f ys)) scope (length table)
  arms-number [] scope table = refl
  arms-number (y ∷ ys) scope table =
      let one : Table = (R (f y)).cond scope (length table) in
      let after1 : Table = ((L (f y)).cond scope table).table in
      let is1 : after1 ≡ table ++ one = (all y).cond scope table in
      let second : ℕ = length table + length one in
      let long1 : length after1 ≡ second = longer after1 table one is1 in
      let two : Table = (R (f y)).value scope second in
      let after2 : Table = ((L (f y)).value scope after1).table in
      let is2 : after2 ≡ after1 ++ two = (all y).value scope after1 ∙ ap (λ (n : ℕ). after1 ++ (R (f y)).value scope n) long1 in
      let third : ℕ = second + length two in
      let long2 : length after2 ≡ third = longer after2 after1 two is2 ∙ ap (λ (n : ℕ). n + length two) long1 in
      ap (λ (n : ℕ). record { cond = expr_id (length table); value = expr_id n } ∷ laid.arm_numbers (map L (map f ys)) scope after2) long1
      ∙ ap (λ (l : List NodeArm). record { cond = expr_id (length table); value = expr_id second } ∷ l)
      (arms-number ys scope after2 ∙ ap (λ (n : ℕ). nodes.arm_numbers (map R (map f ys)) scope n) long2)

  pub if-lays : (ys : List Y) (l : Lay) (r : Resolved) → Lays l r → Lays (lay_if (map L (map f ys)) l) (record { ty = r.ty; nodes = if_nodes (map R (map f ys)) r })
  if-lays ys l r p = record {
    lays = λ scope table.
        let one : Table = arm_nodes (map R (map f ys)) scope (length table + 1) in
        let after : Table = lay_arms (map L (map f ys)) scope (roomy table) in
        let is : after ≡ roomy table ++ one = arms-lay ys scope (roomy table) ∙ ap (λ (n : ℕ). roomy table ++ arm_nodes (map R (map f ys)) scope n) (roomier table) in
        let last : ℕ = length table + 1 + length one in
        let long : length after ≡ last = long-after table one after is in
        both _ _ _ _
        (type-of l r p scope after)
        (put-1 table (l scope after).table (one ++ r.nodes scope last)
        (node.If (laid.arm_numbers (map L (map f ys)) scope (roomy table)) (expr_id (length after)))
        (node.If (nodes.arm_numbers (map R (map f ys)) scope (length table + 1)) (expr_id last))
        (next-laid l r p scope after (roomy table) one last is long)
        (ap (λ (arms : List NodeArm). node.If arms (expr_id (length after)))
        (arms-number ys scope (roomy table) ∙ ap (λ (n : ℕ). nodes.arm_numbers (map R (map f ys)) scope n) (roomier table))
        ∙ ap (λ (n : ℕ). node.If (nodes.arm_numbers (map R (map f ys)) scope (length table + 1)) (expr_id n)) long));
  }

-- links for one word
word-map : {X B : Type 0} (f : X → Binary → B) (which : Binary) (xs : List X) → map (λ (tail : Binary → B). tail which) (map f xs) ≡ map (λ (x : X). f x which) xs
word-map f which [] = refl
word-map f which (x ∷ xs) = ap (λ rest. f x which ∷ rest) (word-map f which xs)

-- a link with a second part
part-links : (own : Ty → Ty) (made : ExprId → ExprId → Node) (l : Lay) (r : Resolved) → Lays l r
    → Links (λ before scope left table. put (own before) (l scope table).table (left - 1) (made (expr_id left) (expr_id (length table))))
    (λ left. record { ty = λ scope. own (left.ty scope); nodes = over_two made left.nodes r.nodes })
part-links own made l r p = record {
  links = λ left scope table.
      let one : Table = left.nodes scope (length table + 1) in
      let after : Table = roomy table ++ one in
      let second : length after ≡ length table + 1 + length one = long-after table one after refl in
      both _ _ _ _ refl
      (ap (λ (n : ℕ). slice_set (l scope after).table n (made (expr_id (length table + 1)) (expr_id (length after)))) (less (length table))
      ∙ put-1 table (l scope after).table (one ++ r.nodes scope (length table + 1 + length one))
      (made (expr_id (length table + 1)) (expr_id (length after))) (made (expr_id (length table + 1)) (expr_id (length table + 1 + length one)))
      (next-laid l r p scope after (roomy table) one (length table + 1 + length one) refl second)
      (ap (λ (n : ℕ). made (expr_id (length table + 1)) (expr_id n)) second));
}

-- a link without a part of its own
lone-links : (own : Ty → Ty) (made : Ty → ExprId → Node)
    → Links (λ before scope left table. put (own before) table (left - 1) (made before (expr_id left)))
    (λ left. record { ty = λ scope. own (left.ty scope); nodes = λ scope. over_one (made (left.ty scope)) left.nodes scope })
lone-links own made = record {
  links = λ left scope table.
      let one : Table = left.nodes scope (length table + 1) in
      both _ _ _ _ refl
      (ap (λ (n : ℕ). slice_set (roomy table ++ one) n (made (left.ty scope) (expr_id (length table + 1)))) (less (length table))
      ∙ put-1 table (roomy table ++ one) one (made (left.ty scope) (expr_id (length table + 1))) (made (left.ty scope) (expr_id (length table + 1))) refl refl);
}

module _ (known : Known) where
  abbrev L : Expr → Lay
  L = lay known

  abbrev R : Expr → Resolved
  R = resolve known

  abbrev ToWord : Type 0
  ToWord = Binary → Link

  abbrev On : Type 0
  On = Resolved → Resolved

  abbrev OnWord : Type 0
  OnWord = Binary → On

  abbrev LS : Suffix → Link
  LS = lay_suffix known

  abbrev RS : Suffix → On
  RS = fold-Suffix Resolved On nodes.Arm Resolved On OnWord (resolve_step known) (nodes.suffix_step known) nodes.arm_step nodes.set_step nodes.sign_tail_step nodes.tail_of

  abbrev LA : ExprArm → laid.Arm
  LA = lay_arm known

  abbrev RA : ExprArm → nodes.Arm
  RA = fold-ExprArm Resolved On nodes.Arm Resolved On OnWord (resolve_step known) (nodes.suffix_step known) nodes.arm_step nodes.set_step nodes.sign_tail_step nodes.tail_of

  abbrev LF : FieldSet → Lay
  LF = lay_set known

  abbrev RF : FieldSet → Resolved
  RF = fold-FieldSet Resolved On nodes.Arm Resolved On OnWord (resolve_step known) (nodes.suffix_step known) nodes.arm_step nodes.set_step nodes.sign_tail_step nodes.tail_of

  abbrev LG : SignTail → Link
  LG = lay_sign_tail known

  abbrev RG : SignTail → On
  RG = fold-SignTail Resolved On nodes.Arm Resolved On OnWord (resolve_step known) (nodes.suffix_step known) nodes.arm_step nodes.set_step nodes.sign_tail_step nodes.tail_of

  abbrev LT : Tail → ToWord
  LT = lay_tail known

  abbrev RT : Tail → OnWord
  RT = fold-Tail Resolved On nodes.Arm Resolved On OnWord (resolve_step known) (nodes.suffix_step known) nodes.arm_step nodes.set_step nodes.sign_tail_step nodes.tail_of

  abbrev Claim : Expr → Type 0
  Claim e = Lays (L e) (R e)

  abbrev SuffixClaim : Suffix → Type 0
  SuffixClaim s = Links (LS s) (RS s)

  abbrev ArmClaim : ExprArm → Type 0
  ArmClaim a = ArmLays (LA a) (RA a)

  abbrev SetClaim : FieldSet → Type 0
  SetClaim f = Lays (LF f) (RF f)

  abbrev SignClaim : SignTail → Type 0
  SignClaim g = Links (LG g) (RG g)

  abbrev TailClaim : Tail → Type 0
  TailClaim t = (which : Binary) → Links (LT t which) (RT t which)

  roll-both : {A B : Type 0} (P : A → B → Type 0) (a a' : A) (b b' : B) → a ≡ a' → b ≡ b' → P a' b' → P a b
  roll-both P a a' b b' ha hb own = subst (λ own. P own b) (sym ha) (subst (λ own. P a' own) (sym hb) own)

  abbrev WordLinks : ToWord → OnWord → Type 0
  WordLinks l r = (which : Binary) → Links (l which) (r which)

  expr-roll : (x : Expr-F Expr Suffix ExprArm FieldSet SignTail Tail)
      → Lays (lay_step known (map-Expr Expr Suffix ExprArm FieldSet SignTail Tail Lay Link laid.Arm Lay Link ToWord L LS LA LF LG LT x)) (resolve_step known (map-Expr Expr Suffix ExprArm FieldSet SignTail Tail Resolved On nodes.Arm Resolved On OnWord R RS RA RF RG RT x))
      → Claim (roll-Expr x)
  expr-roll x own = roll-both Lays _ _ _ _
      (fold-roll-Expr Lay Link laid.Arm Lay Link ToWord (lay_step known) (laid.suffix_step known) laid.arm_step laid.set_step laid.sign_tail_step laid.tail_of x)
      (fold-roll-Expr Resolved On nodes.Arm Resolved On OnWord (resolve_step known) (nodes.suffix_step known) nodes.arm_step nodes.set_step nodes.sign_tail_step nodes.tail_of x) own

  suffix-roll : (x : Suffix-F Expr Suffix ExprArm FieldSet SignTail Tail)
      → Links (laid.suffix_step known (map-Suffix Expr Suffix ExprArm FieldSet SignTail Tail Lay Link laid.Arm Lay Link ToWord L LS LA LF LG LT x)) (nodes.suffix_step known (map-Suffix Expr Suffix ExprArm FieldSet SignTail Tail Resolved On nodes.Arm Resolved On OnWord R RS RA RF RG RT x))
      → SuffixClaim (roll-Suffix x)
  suffix-roll x own = roll-both Links _ _ _ _
      (fold-roll-Suffix Lay Link laid.Arm Lay Link ToWord (lay_step known) (laid.suffix_step known) laid.arm_step laid.set_step laid.sign_tail_step laid.tail_of x)
      (fold-roll-Suffix Resolved On nodes.Arm Resolved On OnWord (resolve_step known) (nodes.suffix_step known) nodes.arm_step nodes.set_step nodes.sign_tail_step nodes.tail_of x) own

  arm-roll : (x : ExprArm-F Expr Suffix ExprArm FieldSet SignTail Tail)
      → ArmLays (laid.arm_step (map-ExprArm Expr Suffix ExprArm FieldSet SignTail Tail Lay Link laid.Arm Lay Link ToWord L LS LA LF LG LT x)) (nodes.arm_step (map-ExprArm Expr Suffix ExprArm FieldSet SignTail Tail Resolved On nodes.Arm Resolved On OnWord R RS RA RF RG RT x))
      → ArmClaim (roll-ExprArm x)
  arm-roll x own = roll-both ArmLays _ _ _ _
      (fold-roll-ExprArm Lay Link laid.Arm Lay Link ToWord (lay_step known) (laid.suffix_step known) laid.arm_step laid.set_step laid.sign_tail_step laid.tail_of x)
      (fold-roll-ExprArm Resolved On nodes.Arm Resolved On OnWord (resolve_step known) (nodes.suffix_step known) nodes.arm_step nodes.set_step nodes.sign_tail_step nodes.tail_of x) own

  set-roll : (x : FieldSet-F Expr Suffix ExprArm FieldSet SignTail Tail)
      → Lays (laid.set_step (map-FieldSet Expr Suffix ExprArm FieldSet SignTail Tail Lay Link laid.Arm Lay Link ToWord L LS LA LF LG LT x)) (nodes.set_step (map-FieldSet Expr Suffix ExprArm FieldSet SignTail Tail Resolved On nodes.Arm Resolved On OnWord R RS RA RF RG RT x))
      → SetClaim (roll-FieldSet x)
  set-roll x own = roll-both Lays _ _ _ _
      (fold-roll-FieldSet Lay Link laid.Arm Lay Link ToWord (lay_step known) (laid.suffix_step known) laid.arm_step laid.set_step laid.sign_tail_step laid.tail_of x)
      (fold-roll-FieldSet Resolved On nodes.Arm Resolved On OnWord (resolve_step known) (nodes.suffix_step known) nodes.arm_step nodes.set_step nodes.sign_tail_step nodes.tail_of x) own

  sign-roll : (x : SignTail-F Expr Suffix ExprArm FieldSet SignTail Tail)
      → Links (laid.sign_tail_step (map-SignTail Expr Suffix ExprArm FieldSet SignTail Tail Lay Link laid.Arm Lay Link ToWord L LS LA LF LG LT x)) (nodes.sign_tail_step (map-SignTail Expr Suffix ExprArm FieldSet SignTail Tail Resolved On nodes.Arm Resolved On OnWord R RS RA RF RG RT x))
      → SignClaim (roll-SignTail x)
  sign-roll x own = roll-both Links _ _ _ _
      (fold-roll-SignTail Lay Link laid.Arm Lay Link ToWord (lay_step known) (laid.suffix_step known) laid.arm_step laid.set_step laid.sign_tail_step laid.tail_of x)
      (fold-roll-SignTail Resolved On nodes.Arm Resolved On OnWord (resolve_step known) (nodes.suffix_step known) nodes.arm_step nodes.set_step nodes.sign_tail_step nodes.tail_of x) own

  tail-roll : (x : Tail-F Expr Suffix ExprArm FieldSet SignTail Tail)
      → WordLinks (laid.tail_of (map-Tail Expr Suffix ExprArm FieldSet SignTail Tail Lay Link laid.Arm Lay Link ToWord L LS LA LF LG LT x)) (nodes.tail_of (map-Tail Expr Suffix ExprArm FieldSet SignTail Tail Resolved On nodes.Arm Resolved On OnWord R RS RA RF RG RT x))
      → TailClaim (roll-Tail x)
  tail-roll x own = roll-both WordLinks _ _ _ _
      (fold-roll-Tail Lay Link laid.Arm Lay Link ToWord (lay_step known) (laid.suffix_step known) laid.arm_step laid.set_step laid.sign_tail_step laid.tail_of x)
      (fold-roll-Tail Resolved On nodes.Arm Resolved On OnWord (resolve_step known) (nodes.suffix_step known) nodes.arm_step nodes.set_step nodes.sign_tail_step nodes.tail_of x) own

  abbrev E : Type 0
  E = (e : Expr) × Claim e

  abbrev S : Type 0
  S = (s : Suffix) × SuffixClaim s

  abbrev A : Type 0
  A = (a : ExprArm) × ArmClaim a

  abbrev F : Type 0
  F = (f : FieldSet) × SetClaim f

  abbrev G : Type 0
  G = (g : SignTail) × SignClaim g

  abbrev T : Type 0
  T = (t : Tail) × TailClaim t

  -- the links of a chain of one word
  word-links : (which : Binary) (ts : List T) (l : Lay) (r : Resolved) → Lays l r
      → Lays (lay_chain l (laid.words_of which (map LT (map (λ t. t.0) ts)))) (nested r (nodes.words_of which (map RT (map (λ t. t.0) ts))))
  word-links which ts l r p =
      roll-both Lays _ _ _ _
      (ap (λ (links : List Link). lay_chain l links) (word-map LT which (map (λ (t : T). t.0) ts)))
      (ap (λ (links : List On). nested r links) (word-map RT which (map (λ (t : T). t.0) ts)))
      (chain-lays (λ (t : T). t.0) (λ (t : Tail). LT t which) (λ (t : Tail). RT t which) (λ (t : T). t.1 which) l r p ts)

  expr-case : (y : Expr-F E S A F G T) → Claim (roll-Expr (map-Expr E S A F G T Expr Suffix ExprArm FieldSet SignTail Tail (λ e. e.0) (λ s. s.0) (λ a. a.0) (λ f. f.0) (λ g. g.0) (λ t. t.0) y))
  expr-case (Expr-F.OrElse at (l, left) (r, right)) = expr-roll (Expr-F.OrElse at l r) (two-lays (λ one two. two) node.OrElse (L l) (L r) (R l) (R r) left right)
  expr-case (Expr-F.Or (e, first) rest) = expr-roll (Expr-F.Or e (map (λ t. t.0) rest)) (word-links _ rest (L e) (R e) first)
  expr-case (Expr-F.And (e, first) rest) = expr-roll (Expr-F.And e (map (λ t. t.0) rest)) (word-links _ rest (L e) (R e) first)
  expr-case (Expr-F.Not at (e, inner)) = expr-roll (Expr-F.Not at e) (one-lays ty.Bool node.Not (L e) (R e) inner)
  expr-case (Expr-F.Compare which at (l, left) (r, right)) =
      expr-roll (Expr-F.Compare which at l r) (two-lays (λ one two. ty.Bool) (node.Binary (sign_binary which) at) (L l) (L r) (R l) (R r) left right)
  expr-case (Expr-F.Sum (e, first) rest) = expr-roll (Expr-F.Sum e (map (λ g. g.0) rest)) (chain-lays (λ (g : G). g.0) LG RG (λ g. g.1) (L e) (R e) first rest)
  expr-case (Expr-F.Mul (e, first) rest) = expr-roll (Expr-F.Mul e (map (λ g. g.0) rest)) (chain-lays (λ (g : G). g.0) LG RG (λ g. g.1) (L e) (R e) first rest)
  expr-case (Expr-F.Neg at (e, inner)) = expr-roll (Expr-F.Neg at e) (one-lays ty.Int (node.Neg at) (L e) (R e) inner)
  expr-case (Expr-F.Post (e, first) suffixes) = expr-roll (Expr-F.Post e (map (λ s. s.0) suffixes)) (chain-lays (λ (s : S). s.0) LS RS (λ s. s.1) (L e) (R e) first suffixes)
  expr-case (Expr-F.Number at value) = expr-roll (Expr-F.Number at value) (record { lays = λ scope table. refl })
  expr-case (Expr-F.Truth at value) = expr-roll (Expr-F.Truth at value) (record { lays = λ scope table. refl })
  expr-case (Expr-F.Elapsed at) = expr-roll (Expr-F.Elapsed at) (record { lays = λ scope table. refl })
  expr-case (Expr-F.Name id) = expr-roll (Expr-F.Name id) (record { lays = λ scope table. refl })
  expr-case (Expr-F.Call name args) = expr-roll (Expr-F.Call name (map (λ e. e.0) args))
      (record { lays = λ scope table. parts-lay (λ (e : E). e.0) L R (λ e. e.1) _ _ (node.Call (func_number known name.name)) args scope table refl })
  expr-case (Expr-F.Variant owner variant) = expr-roll (Expr-F.Variant owner variant) (record { lays = λ scope table. refl })
  expr-case (Expr-F.New at owner sets) = expr-roll (Expr-F.New at owner (map (λ f. f.0) sets))
      (record { lays = λ scope table. parts-lay (λ (f : F). f.0) LF RF (λ f. f.1) _ _ (node.New (type_number known owner.name)) sets scope table refl })
  expr-case (Expr-F.NoneOf at own) = expr-roll (Expr-F.NoneOf at own) (record { lays = λ scope table. refl })
  expr-case (Expr-F.EmptyOf at own) = expr-roll (Expr-F.EmptyOf at own) (record { lays = λ scope table. refl })
  expr-case (Expr-F.Builtin which at args) = expr-roll (Expr-F.Builtin which at (map (λ e. e.0) args))
      (record {
        lays = λ scope table. parts-lay (λ (e : E). e.0) L R (λ e. e.1) _ _ (builtin_node which at) args scope table
            (ap (builtin_type which) (head-types (λ (e : E). e.0) L R (λ e. e.1) args scope (roomy table)));
      })
  expr-case (Expr-F.Paren at (e, inner)) = expr-roll (Expr-F.Paren at e) inner
  expr-case (Expr-F.List at items) = expr-roll (Expr-F.List at (map (λ e. e.0) items))
      (record {
        lays = λ scope table. parts-lay (λ (e : E). e.0) L R (λ e. e.1) _ _ (node.List at) items scope table
            (ap ty.List (head-types (λ (e : E). e.0) L R (λ e. e.1) items scope (roomy table)));
      })
  expr-case (Expr-F.Each at name (l, list) None (v, value)) = expr-roll (Expr-F.Each at name l None v)
      (each-lays name (R l) None None (L v) (R v) no-cond value (L l) list)
  expr-case (Expr-F.Each at name (l, list) (Some (c, cond)) (v, value)) = expr-roll (Expr-F.Each at name l (Some c) v)
      (each-lays name (R l) (Some (L c)) (Some (R c)) (L v) (R v) (one-cond (L c) (R c) cond) value (L l) list)
  expr-case (Expr-F.If at arms (o, other)) = expr-roll (Expr-F.If at (map (λ a. a.0) arms) o)
      (if-lays (λ (a : A). a.0) LA RA (λ a. a.1) arms (L o) (R o) other)

  suffix-case : (y : Suffix-F E S A F G T) → SuffixClaim (roll-Suffix (map-Suffix E S A F G T Expr Suffix ExprArm FieldSet SignTail Tail (λ e. e.0) (λ s. s.0) (λ a. a.0) (λ f. f.0) (λ g. g.0) (λ t. t.0) y))
  suffix-case (Suffix-F.Field at name) = suffix-roll (Suffix-F.Field at name)
      (lone-links (λ own. field_type known own name.name) (λ own. node.Field (field_number known own name.name)))
  suffix-case (Suffix-F.Index at (e, value)) = suffix-roll (Suffix-F.Index at e) (part-links item_in (node.Index at) (L e) (R e) value)
  suffix-case (Suffix-F.Unwrap at) = suffix-roll (Suffix-F.Unwrap at) (lone-links held_in (λ own. node.Unwrap at))

  arm-case : (y : ExprArm-F E S A F G T) → ArmClaim (roll-ExprArm (map-ExprArm E S A F G T Expr Suffix ExprArm FieldSet SignTail Tail (λ e. e.0) (λ s. s.0) (λ a. a.0) (λ f. f.0) (λ g. g.0) (λ t. t.0) y))
  arm-case y = arm-roll (record { cond = y.cond.0; value = y.value.0 })
      (record { cond = table-of (L y.cond.0) (R y.cond.0) y.cond.1; value = table-of (L y.value.0) (R y.value.0) y.value.1 })

  set-case : (y : FieldSet-F E S A F G T) → SetClaim (roll-FieldSet (map-FieldSet E S A F G T Expr Suffix ExprArm FieldSet SignTail Tail (λ e. e.0) (λ s. s.0) (λ a. a.0) (λ f. f.0) (λ g. g.0) (λ t. t.0) y))
  set-case y = set-roll (record { name = y.name; value = y.value.0 }) y.value.1

  sign-case : (y : SignTail-F E S A F G T) → SignClaim (roll-SignTail (map-SignTail E S A F G T Expr Suffix ExprArm FieldSet SignTail Tail (λ e. e.0) (λ s. s.0) (λ a. a.0) (λ f. f.0) (λ g. g.0) (λ t. t.0) y))
  sign-case y = sign-roll (record { sign = y.sign; at = y.at; value = y.value.0 })
      (part-links (λ own. own) (node.Binary (sign_binary y.sign) y.at) (L y.value.0) (R y.value.0) y.value.1)

  tail-case : (y : Tail-F E S A F G T) → TailClaim (roll-Tail (map-Tail E S A F G T Expr Suffix ExprArm FieldSet SignTail Tail (λ e. e.0) (λ s. s.0) (λ a. a.0) (λ f. f.0) (λ g. g.0) (λ t. t.0) y))
  tail-case y = tail-roll (record { at = y.at; value = y.value.0 })
      (λ which. part-links (λ own. ty.Bool) (node.Binary which y.at) (L y.value.0) (R y.value.0) y.value.1)

  pub expr-lays : (e : Expr) → Claim e
  expr-lays = ind-Expr Claim SuffixClaim ArmClaim SetClaim SignClaim TailClaim
      (λ x y is. subst (λ (z : Expr-F Expr Suffix ExprArm FieldSet SignTail Tail). Claim (roll-Expr z)) is (expr-case y))
      (λ x y is. subst (λ (z : Suffix-F Expr Suffix ExprArm FieldSet SignTail Tail). SuffixClaim (roll-Suffix z)) is (suffix-case y))
      (λ x y is. subst (λ (z : ExprArm-F Expr Suffix ExprArm FieldSet SignTail Tail). ArmClaim (roll-ExprArm z)) is (arm-case y))
      (λ x y is. subst (λ (z : FieldSet-F Expr Suffix ExprArm FieldSet SignTail Tail). SetClaim (roll-FieldSet z)) is (set-case y))
      (λ x y is. subst (λ (z : SignTail-F Expr Suffix ExprArm FieldSet SignTail Tail). SignClaim (roll-SignTail z)) is (sign-case y))
      (λ x y is. subst (λ (z : Tail-F Expr Suffix ExprArm FieldSet SignTail Tail). TailClaim (roll-Tail z)) is (tail-case y))

-- what is laid for an expression
pub laid-is : (known : Known) (e : Expr) (scope : Scope) (table : Table) → lay known e scope table ≡ laid_as (resolve known e) scope table
laid-is known e scope table = (expr-lays known e).lays scope table
