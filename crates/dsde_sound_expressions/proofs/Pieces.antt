-- Where the parts of a piece of text stand: in the table of nodes and in that of blocks.
use Rattle.std.proofs.Common.{◌+◌, List, length}
use Rattle.dsde_language.specs.given.values.types_Ty.{Ty}
use Rattle.dsde_language.specs.declared.node_ids.ExprId.{ExprId}
use Rattle.dsde_language.specs.declared.node.Node.{Node}
use Rattle.dsde_language.specs.Names.{Scope}
use Rattle.dsde_language.specs.Expressions.{Resolved, expr_id}
use Rattle.dsde_language.specs.Pieces.{Block, Next, Piece, Step, ◌>>=◌, behind, expr}
use Rattle.dsde_language.specs.Scopes.{Stands}
use Rattle.dsde_sound_expressions.specs.lemmas.Standing.{stands-left, stands-right}

module _ (nodes : List Node) (blocks : List Block) where
  -- A piece stands in the tables from these numbers on.
  pub record Put {A : Type 0} (next : Next) (piece : Piece A) : Type 0 where
    pub nodes_at : Stands nodes next.node piece.nodes
    pub blocks_at : Stands blocks next.block piece.blocks

  pub put-first : {A B : Type 0} (first : Step A) (more : A → Step B) (scope : Scope) (next : Next) → Put next ((first >>= more) scope next) → Put next (first scope next)
  put-first first more scope next put =
      let one = first scope next in
      let two = more one.own one.scope (behind next one) in
      record {
        nodes_at = stands-left nodes next.node one.nodes two.nodes put.nodes_at;
        blocks_at = stands-left blocks next.block one.blocks two.blocks put.blocks_at;
      }

  pub put-next : {A B : Type 0} (first : Step A) (more : A → Step B) (scope : Scope) (next : Next) → Put next ((first >>= more) scope next)
      → Put (behind next (first scope next)) (more (first scope next).own (first scope next).scope (behind next (first scope next)))
  put-next first more scope next put =
      let one = first scope next in
      let two = more one.own one.scope (behind next one) in
      record {
        nodes_at = stands-right nodes next.node one.nodes two.nodes put.nodes_at;
        blocks_at = stands-right blocks next.block one.blocks two.blocks put.blocks_at;
      }

  -- the numbers behind an expression
  abbrev pub behind_expr : Resolved → Scope → Next → Next
  behind_expr resolved scope next = record next { node = next.node + length (resolved.nodes scope next.node) }

  pub put-own : {A : Type 0} (resolved : Resolved) (more : ExprId → Ty → Step A) (scope : Scope) (next : Next) → Put next (expr resolved more scope next)
      → Stands nodes next.node (resolved.nodes scope next.node)
  put-own resolved more scope next put =
      let one = resolved.nodes scope next.node in
      let two = more (expr_id next.node) (resolved.ty scope) scope (behind_expr resolved scope next) in
      stands-left nodes next.node one two.nodes put.nodes_at

  pub put-behind : {A : Type 0} (resolved : Resolved) (more : ExprId → Ty → Step A) (scope : Scope) (next : Next) → Put next (expr resolved more scope next)
      → Put (behind_expr resolved scope next) (more (expr_id next.node) (resolved.ty scope) scope (behind_expr resolved scope next))
  put-behind resolved more scope next put =
      let one = resolved.nodes scope next.node in
      let two = more (expr_id next.node) (resolved.ty scope) scope (behind_expr resolved scope next) in
      record {
        nodes_at = stands-right nodes next.node one two.nodes put.nodes_at;
        blocks_at = put.blocks_at;
      }
