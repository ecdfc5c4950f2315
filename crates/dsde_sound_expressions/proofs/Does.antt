-- What a piece of text does in tables is what it does over names.
use Rattle.std.proofs.Common.{◌≡◌, ℕ, ◌+◌, ◌≤◌, arith, Bool, true, List, ◌++◌, Ok}
use Rattle.dsde_language.specs.given.syntax.expr_Expr.{Expr}
use Rattle.dsde_language.specs.given.values.types_Field.{Field}
use Rattle.dsde_language.specs.given.values.types_Types.{Types}
use Rattle.dsde_language.specs.given.values.value_Value.{Value}
use Rattle.dsde_language.specs.declared.known.Around.{Around}
use Rattle.dsde_language.specs.declared.known.Known.{Known}
use Rattle.dsde_language.specs.declared.seen.Seen.{Seen}
use Rattle.dsde_language.specs.Steps.{above}
use Rattle.dsde_language.specs.Judge.{judge}
use Rattle.dsde_language.specs.Judge as rules
use Rattle.dsde_language.specs.Blocks.{Passed}
use Rattle.dsde_language.specs.Blocks as rule_blocks
use Rattle.dsde_language.specs.declared.node.Node.{Node}
use Rattle.dsde_language.specs.declared.node_ids.BlockId.{BlockId}
use Rattle.dsde_language.specs.Expressions.{resolve, expr_id}
use Rattle.dsde_language.specs.Pieces.{Block, Next, Piece, Step}
use Rattle.dsde_language.specs.Outcome.{◌>>=◌}
use Rattle.dsde_language.specs.Flow.{Flow, over}
use Rattle.dsde_language.specs.Meaning.{Function, Scene, Walk, mean}
use Rattle.dsde_language.specs.MeaningTables.{Coded, Means, State, means_in, acts_flow}
use Rattle.dsde_language.specs.Proper.{is_proper}
use Rattle.dsde_language.specs.Typed.{Typed, Fits, AllSent, values_in, shown}
use Rattle.dsde_language.specs.Scopes.{Stands, Sees}
use Rattle.dsde_language.specs.Agreement.{Agrees}
use Rattle.dsde_sound_expressions.proofs.Shows.{Shows, shows-over}

-- the next block is one further
abbrev pub within_braces : Next → Next
within_braces next = record next { block = next.block + 1 }

-- the numbers behind an expression
abbrev pub behind_nodes : Next → ℕ → Next
behind_nodes next size = record next { node = next.node + size }

abbrev pub block_id : ℕ → BlockId
block_id number = record { 0 = number }

-- a height that is not cut
pub not-cut : (height limit : ℕ) → above height ≤ 512 → above height ≤ limit → height + 1 ≤ limit
not-cut height limit low deep = omega (arith, low, deep)

module _ (types : Types) (coded : Coded) (has_elapsed : Bool) (outs : List Field) where
  -- A piece stands in the tables, and its height is below the limit and the depth.
  pub record Ready (next : Next) (nodes : List Node) (blocks : List Block) (height depth : ℕ) : Type 0 where
    pub code : Stands coded.nodes next.node nodes
    pub acts : Stands coded.blocks next.block blocks
    pub low : height ≤ 512
    pub deep : height ≤ depth

  -- A piece in a place by what is judged of it: the slots behind it, and what it does.
  pub record Done {A : Type 0} (act : Means → A → State → Flow State State) (passed : Passed) (slots : List Field) (next : Next) (piece : Piece A) (walk : Walk) : Type 0 where
    pub more : List Field
    pub grows : piece.scope ≡ slots ++ more
    pub sees : Sees has_elapsed passed.scope piece.scope
    pub shows : (before : Scene) (depth : ℕ) → Fits types before.vars slots → AllSent types outs before.sends
        → Shows types outs (Ready next piece.nodes piece.blocks passed.height depth) piece.scope (walk before) (act (means_in coded depth) piece.own (shown before))

  pub record Does {A : Type 0} (act : Means → A → State → Flow State State) (proper : Bool) (judged : rule_blocks.Walk) (step : Step A) (walk : Walk) : Type 0 where
    pub does : proper ≡ true → (scope : rules.Scope) (passed : Passed) (slots : List Field) (next : Next)
        → judged scope ≡ Ok passed → Sees has_elapsed scope slots → Done act passed slots next (step slots next) walk

  -- The same of statements in their order, on what came before them of this height.
  pub record AllDo (proper : Bool) (judged : List rule_blocks.Walk) (step : Step Block) (walk : Walk) : Type 0 where
    pub does : proper ≡ true → (height : ℕ) (scope : rules.Scope) (passed : Passed) (slots : List Field) (next : Next)
        → rule_blocks.walk_all judged height scope ≡ Ok passed → Sees has_elapsed scope slots → Done acts_flow passed slots next (step slots next) walk

module _ (types : Types) (coded : Coded) (whole : Known) (functions : List Function) (around : Around) (outs : List Field) where
  -- expressions agree
  abbrev pub Exprs : Type 0
  Exprs = (e : Expr) → is_proper e ≡ true → Agrees types coded around.has_elapsed around.is_total (judge around e) (resolve whole e) (mean whole functions e)

  -- An expression stands in the tables, and its height is below the limit and the depth.
  pub record Reads (start : ℕ) (nodes : List Node) (height depth : ℕ) : Type 0 where
    pub code : Stands coded.nodes start nodes
    pub low : height ≤ 512
    pub deep : height ≤ depth

  -- an expression in a statement, and what is done with its value
  pub value-shows : (e : Expr) → Agrees types coded around.has_elapsed around.is_total (judge around e) (resolve whole e) (mean whole functions e)
      → (scope : rules.Scope) (slots : List Field) (found : Seen) (before : Scene) (start depth : ℕ) (If : Type 0)
      → judge around e scope ≡ Ok found → Sees around.has_elapsed scope slots → Fits types before.vars slots → AllSent types outs before.sends
      → (If → Reads start ((resolve whole e).nodes slots start) found.height depth)
      → (last : List Field) (f : Value → Flow Scene Scene) (g : Value → Flow State State)
      → ((own : Value) → Typed types found.ty own → Shows types outs If last (f own) (g own))
      → Shows types outs If last (over before (mean whole functions e before.vars) >>= f) (over (shown before) ((means_in coded depth).part (expr_id start) (values_in before.vars)) >>= g)
  value-shows e agrees scope slots found before start depth If h sees fits sent reads last f g next =
      shows-over types outs If around.is_total (Typed types found.ty) last before (mean whole functions e before.vars) ((means_in coded depth).part (expr_id start) (values_in before.vars)) f g
      (agrees.sound scope slots found before.vars h sees fits)
      (λ here. agrees.reads scope slots found before.vars start depth h sees fits (reads here).code (reads here).low (reads here).deep)
      sent next
