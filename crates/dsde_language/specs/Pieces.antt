-- How a piece of text adds to the tables of a model: expressions, blocks and translations, each at
-- the number that comes next.
use Rattle.std.specs.Prelude.{ℕ, ◌+◌, List, [], ◌∷◌, ◌++◌, length, Option, Some, None}
use Rattle.dsde_values.specs.declared.types.Ty.{Ty}
use Rattle.dsde_language.specs.declared.act.Act.{Act}
use Rattle.dsde_language.specs.declared.code.ViaCode.{ViaCode}
use Rattle.dsde_language.specs.declared.node_ids.BlockId.{BlockId}
use Rattle.dsde_language.specs.declared.node_ids.ExprId.{ExprId}
use Rattle.dsde_language.specs.declared.node.Node.{Node}
use Rattle.dsde_language.specs.Names.{with_slot, Scope}
use Rattle.dsde_language.specs.Expressions.{Resolved, expr_id}

abbrev pub Block : Type 0
Block = List Act

-- the numbers of the expression, the block and the translation that come next
pub record Next : Type 0 where
  pub node : ℕ
  pub block : ℕ
  pub via : ℕ

-- what stands for a piece of text, what it adds to the tables, and the names that are seen behind it
pub record Piece (A : Type 0) : Type 0 where
  pub own : A
  pub nodes : List Node
  pub blocks : List Block
  pub vias : List ViaCode
  pub scope : Scope

-- a piece of text, over the names that are seen and the numbers that come next
abbrev pub Step : Type 0 → Type 0
Step A = Scope → Next → Piece A

-- the numbers behind a piece
abbrev pub behind : {A : Type 0} → Next → Piece A → Next
behind next piece = record {
  node = next.node + length piece.nodes;
  block = next.block + length piece.blocks;
  via = next.via + length piece.vias;
}

-- what stands for no text
abbrev pub give : {A : Type 0} → A → Step A
give own scope next = record { own = own; nodes = []; blocks = []; vias = []; scope = scope }

-- one piece behind another
infixl 10 ◌>>=◌
abbrev pub ◌>>=◌ : {A B : Type 0} → Step A → (A → Step B) → Step B
(first >>= then) scope next =
    let one = first scope next in
    let two = then one.own one.scope (behind next one) in
    record {
      own = two.own;
      nodes = one.nodes ++ two.nodes;
      blocks = one.blocks ++ two.blocks;
      vias = one.vias ++ two.vias;
      scope = two.scope;
    }

-- pieces one after another
abbrev pub all : {A : Type 0} → List (Step A) → Step (List A)
all [] = give []
all (first ∷ rest) = first >>= (λ own. all rest >>= (λ others. give (own ∷ others)))

-- a piece that may not be there
abbrev pub maybe : {A : Type 0} → Option (Step A) → Step (Option A)
maybe None = give None
maybe (Some part) = part >>= (λ own. give (Some own))

-- an expression, and what stands behind it, over its number and its type
abbrev pub expr : {A : Type 0} → Resolved → (ExprId → Ty → Step A) → Step A
expr resolved then scope next =
    let one = resolved.nodes scope next.node in
    let two = then (expr_id next.node) (resolved.ty scope) scope (record next { node = next.node + length one }) in
    record two { nodes = one ++ two.nodes }

-- a name that is seen from here on
abbrev pub bound : {A : Type 0} → List ℕ → Ty → A → Step A
bound name ty own scope next = record { own = own; nodes = []; blocks = []; vias = []; scope = with_slot scope name ty }

-- a piece that sees one name more
abbrev pub binding : {A : Type 0} → List ℕ → Ty → Step A → Step A
binding name ty step scope next = step (with_slot scope name ty) next

-- what the names that are seen say
abbrev pub seeing : {A : Type 0} → (Scope → Step A) → Step A
seeing step scope next = step scope scope next

-- a piece whose names are seen in it alone
abbrev pub inside : {A : Type 0} → Step A → Step A
inside step scope next = record (step scope next) { scope = scope }

-- a piece over these names alone
abbrev pub over : {A : Type 0} → Scope → Step A → Step A
over own step scope next = record (step own next) { scope = scope }

-- a block, counted by its opening brace, whose names are seen in it alone
abbrev pub braced : Step Block → Step BlockId
braced body scope next =
    let within = body scope (record next { block = next.block + 1 }) in
    record {
      own = record { 0 = next.block };
      nodes = within.nodes;
      blocks = within.own ∷ within.blocks;
      vias = within.vias;
      scope = scope;
    }
