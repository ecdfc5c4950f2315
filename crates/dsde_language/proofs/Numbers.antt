-- What small texts are resolved to, each computed: above each stands its text, and each number was
-- counted by hand.
use Rattle.std.proofs.Common.{◌≡◌, ℕ, true, false, List, [], ◌∷◌, Some, None, rules, pos}
use Rattle.std.specs.Prelude.{codes}
use Rattle.dsde_syntax.specs.given.words.key_Key_TheVariants as key
use Rattle.dsde_syntax.specs.declared.token.Sign.TheVariants as sign
use Rattle.dsde_syntax.specs.declared.id.Id.{Id}
use Rattle.dsde_syntax.specs.declared.expr.Expr.TheVariants as expr
use Rattle.dsde_syntax.specs.declared.expr.Suffix.TheVariants as suffix
use Rattle.dsde_syntax.specs.declared.stmt.Stmt.{Stmt}
use Rattle.dsde_syntax.specs.declared.stmt.Stmt.TheVariants as stmt
use Rattle.dsde_syntax.specs.declared.expr.Expr.TheFolds as efold
use Rattle.dsde_syntax.specs.declared.type_name.TypeName.TheFolds as tfold
use Rattle.dsde_syntax.specs.declared.stmt.Stmt.TheFolds as sfold
use Rattle.dsde_values.specs.declared.types.Ty.TheFolds as yfold
use Rattle.dsde_values.specs.declared.types.Ty.TheVariants as ty
use Rattle.dsde_values.specs.declared.types.Shape.TheVariants as shape
use Rattle.dsde_language.specs.declared.known.Known.{Known}
use Rattle.dsde_language.specs.declared.act.Act.TheVariants as act
use Rattle.dsde_language.specs.declared.node_ids.BlockId.{BlockId}
use Rattle.dsde_language.specs.declared.node_ids.ExprId.{ExprId}
use Rattle.dsde_language.specs.declared.operator.Binary.TheVariants as binary
use Rattle.dsde_language.specs.declared.node.Node.TheVariants as node
use Rattle.dsde_language.specs.Names.{Scope}
use Rattle.dsde_language.specs.Expressions.{resolve}
use Rattle.dsde_language.specs.Pieces.{Next}
use Rattle.dsde_language.specs.Items.{resolve_via}
use Rattle.dsde_language.specs.Statements.{resolve_stmts}

-- an identifier at a place
id : List ℕ → ℕ → Id
id name at = record { name = name; at = at }

at : ℕ → ExprId
at number = record { 0 = number }

-- record R { a: int, b: list<int> }
known : Known
known = record {
  words = record { name = codes "R"; is_enum = false } ∷ [];
  types = shape.Rec (record { name = codes "a"; ty = ty.Int } ∷ record { name = codes "b"; ty = ty.List ty.Int } ∷ []) ∷ [];
  depths = 2 ∷ [];
  models = [];
  before = [];
  funcs = [];
}

-- r: R, n: int
scope : Scope
scope = record { name = codes "r"; ty = ty.Rec 0 } ∷ record { name = codes "n"; ty = ty.Int } ∷ []

-- n + 1 + n, a chain that is nested to the left
sum : (resolve known (expr.Sum (expr.Name (id (codes "n") 0)) (record { sign = sign.Plus; at = 1; value = expr.Number 2 1 } ∷ record { sign = sign.Minus; at = 3; value = expr.Name (id (codes "n") 4) } ∷ []))).nodes scope 5
    ≡ node.Binary binary.Sub 3 (at 6) (at 9) ∷ node.Binary binary.Add 1 (at 7) (at 8) ∷ node.Slot 1 ∷ node.Int (pos 1) ∷ node.Slot 1 ∷ []
unfolding id at known scope
sum = search (rules, efold.the_lemmas, tfold.the_lemmas, yfold.the_lemmas)

-- r.b[n]: the second field of the record
field : (resolve known (expr.Post (expr.Name (id (codes "r") 0)) (suffix.Field 1 (id (codes "b") 2) ∷ suffix.Index 3 (expr.Name (id (codes "n") 4)) ∷ []))).nodes scope 0
    ≡ node.Index 3 (at 1) (at 3) ∷ node.Field 1 (at 2) ∷ node.Slot 0 ∷ node.Slot 1 ∷ []
unfolding id at known scope
field = search (rules, efold.the_lemmas, tfold.the_lemmas, yfold.the_lemmas)

-- [x for x in r.b]: the item is in the slot behind the others
each : (resolve known (expr.Each 0 (id (codes "x") 3) (expr.Post (expr.Name (id (codes "r") 5)) (suffix.Field 6 (id (codes "b") 7) ∷ [])) None (expr.Name (id (codes "x") 9)))).nodes scope 0
    ≡ node.Each (at 1) None (at 3) ∷ node.Field 1 (at 2) ∷ node.Slot 0 ∷ node.Slot 2 ∷ []
unfolding id at known scope
each = search (rules, efold.the_lemmas, tfold.the_lemmas, yfold.the_lemmas)

block : ℕ → BlockId
block number = record { 0 = number }

outs : Scope
outs = record { name = codes "q"; ty = ty.Int } ∷ record { name = codes "p"; ty = ty.Int } ∷ []

next : Next
next = record { node = 0; block = 0; via = 0 }

-- let x = n; if n == 0 { for y in r.b { send p(y); } }
stmts : List Stmt
stmts =
    stmt.Let false (id (codes "x") 1) (expr.Name (id (codes "n") 3))
    ∷ stmt.If
    (record {
      cond = expr.Compare sign.EqualEqual 7 (expr.Name (id (codes "n") 6)) (expr.Number 8 0);
      body = stmt.For (id (codes "y") 11) (expr.Post (expr.Name (id (codes "r") 13)) (suffix.Field 14 (id (codes "b") 15) ∷ []))
          (stmt.Send (id (codes "p") 18) (expr.Name (id (codes "y") 20)) ∷ []) ∷ [];
    } ∷ []) None
    ∷ []

-- Its statements, its blocks by their opening braces, and its expressions in text order.
acts : (resolve_stmts known outs stmts scope next).own ≡ act.Let (at 0) ∷ act.If (record { cond = at 1; then = block 0 } ∷ []) None ∷ []
unfolding id at block known scope outs next stmts
acts = search (rules, efold.the_lemmas, tfold.the_lemmas, sfold.the_lemmas, yfold.the_lemmas)

blocks : (resolve_stmts known outs stmts scope next).blocks ≡ (act.For (at 4) (block 1) ∷ []) ∷ (act.Send 1 (at 6) ∷ []) ∷ []
unfolding id at block known scope outs next stmts
blocks = search (rules, efold.the_lemmas, tfold.the_lemmas, sfold.the_lemmas, yfold.the_lemmas)

nodes : (resolve_stmts known outs stmts scope next).nodes
    ≡ node.Slot 1 ∷ node.Binary binary.Equal 7 (at 2) (at 3) ∷ node.Slot 1 ∷ node.Int (pos 0) ∷ node.Field 1 (at 5) ∷ node.Slot 0 ∷ node.Slot 3 ∷ []
unfolding id at block known scope outs next stmts
nodes = search (rules, efold.the_lemmas, tfold.the_lemmas, sfold.the_lemmas, yfold.the_lemmas)

-- via (v, k = n) => some(v): the key's expression, and then the body over the value in slot 0
via : (resolve_via known ty.Int (record { value = id (codes "v") 2; key = Some (record { name = id (codes "k") 4; value = expr.Name (id (codes "n") 6) }); body = expr.Builtin key.SomeOf 9 (expr.Name (id (codes "v") 11) ∷ []) }) scope next).vias
    ≡ record { key = true; body = at 1 } ∷ []
unfolding id at known scope next
via = search (rules, efold.the_lemmas, tfold.the_lemmas, yfold.the_lemmas)

via_nodes : (resolve_via known ty.Int (record { value = id (codes "v") 2; key = Some (record { name = id (codes "k") 4; value = expr.Name (id (codes "n") 6) }); body = expr.Builtin key.SomeOf 9 (expr.Name (id (codes "v") 11) ∷ []) }) scope next).nodes
    ≡ node.Slot 1 ∷ node.Some (at 2) ∷ node.Slot 0 ∷ []
unfolding id at known scope next
via_nodes = search (rules, efold.the_lemmas, tfold.the_lemmas, yfold.the_lemmas)
