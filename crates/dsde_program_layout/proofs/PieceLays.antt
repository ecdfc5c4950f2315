-- What a piece of text lays behind tables is its resolution, combinator by combinator.
use Rattle.std.proofs.Common.{◌≡◌, ℕ, ◌+◌, List, [], ◌∷◌, ◌++◌, map, length, Some, slice_set, refl, sym, ◌∙◌, ap, append_assoc, append-nil}
use Rattle.std.proofs.lemmas.List.{length-append}
use Rattle.std.proofs.Math.Seq.{set-append_seam}
use Rattle.dsde_language.specs.given.values.types_Ty.{Ty}
use Rattle.dsde_language.specs.declared.code.ViaCode.{ViaCode}
use Rattle.dsde_language.specs.declared.node_ids.BlockId.{BlockId}
use Rattle.dsde_language.specs.declared.node_ids.ExprId.{ExprId}
use Rattle.dsde_language.specs.declared.node.Node.{Node}
use Rattle.dsde_language.specs.Names.{Scope, with_slot}
use Rattle.dsde_language.specs.Expressions.{Resolved, expr_id}
use Rattle.dsde_language.specs.Pieces as said
use Rattle.dsde_language.specs.Pieces.{Block, Next, Piece}
use Rattle.dsde_program_layout.specs.Lay.{Laid, Lay}
use Rattle.dsde_program_layout.specs.LayPieces as laid
use Rattle.dsde_language.specs.declared.tables.Tables.{Tables}
use Rattle.dsde_program_layout.specs.LayPieces.{LaidPiece}
use Rattle.dsde_program_layout.specs.LaidIs.{next_of, placed}
use Rattle.dsde_program_layout.proofs.Lays as of_expr

pub record Lays {A : Type 0} (l : laid.Step A) (s : said.Step A) : Type 0 where
  pub lays : (scope : Scope) (tables : Tables) → l scope tables ≡ placed (s scope (next_of tables)) tables

-- a piece with its tables
abbrev pub made : {A : Type 0} → A → Scope → List Node → List Block → List ViaCode → LaidPiece A
made own scope nodes blocks vias = record { own = own; tables = record { nodes = nodes; blocks = blocks; vias = vias }; scope = scope }

-- the same tables, put together in another way
pub same-tables : {A : Type 0} (own : A) (scope : Scope) (n n' : List Node) (b b' : List Block) (v v' : List ViaCode) → n ≡ n' → b ≡ b' → v ≡ v' → made own scope n b v ≡ made own scope n' b' v'
same-tables own scope n n' b b' v v' e f g =
    ap (λ (nodes : List Node). made own scope nodes b v) e
    ∙ ap (λ (blocks : List Block). made own scope n' blocks v) f
    ∙ ap (λ (vias : List ViaCode). made own scope n' b' vias) g

abbrev next-at : ℕ → ℕ → ℕ → Next
next-at node block via = record { node = node; block = block; via = via }

same-next : (n n' b b' v v' : ℕ) → n ≡ n' → b ≡ b' → v ≡ v' → next-at n b v ≡ next-at n' b' v'
same-next n n' b b' v v' e f g =
    ap (λ (m : ℕ). next-at m b v) e ∙ ap (λ (m : ℕ). next-at n' m v) f ∙ ap (λ (m : ℕ). next-at n' b' m) g

pub give-lays : {A : Type 0} (own : A) → Lays (laid.give own) (said.give own)
give-lays own = record {
  lays = λ scope tables. same-tables own scope _ _ _ _ _ _ (sym (append-nil tables.nodes)) (sym (append-nil tables.blocks)) (sym (append-nil tables.vias));
}

pub bound-lays : {A : Type 0} (name : List ℕ) (ty : Ty) (own : A) → Lays (laid.bound name ty own) (said.bound name ty own)
bound-lays name ty own = record {
  lays = λ scope tables. same-tables own (with_slot scope name ty) _ _ _ _ _ _ (sym (append-nil tables.nodes)) (sym (append-nil tables.blocks)) (sym (append-nil tables.vias));
}

pub binding-lays : {A : Type 0} (name : List ℕ) (ty : Ty) (l : laid.Step A) (s : said.Step A) → Lays l s → Lays (laid.binding name ty l) (said.binding name ty s)
binding-lays name ty l s p = record { lays = λ scope tables. p.lays (with_slot scope name ty) tables }

pub seeing-lays : {A : Type 0} (l : Scope → laid.Step A) (s : Scope → said.Step A) → ((scope : Scope) → Lays (l scope) (s scope)) → Lays (laid.seeing l) (said.seeing s)
seeing-lays l s p = record { lays = λ scope tables. (p scope).lays scope tables }

pub inside-lays : {A : Type 0} (l : laid.Step A) (s : said.Step A) → Lays l s → Lays (laid.inside l) (said.inside s)
inside-lays l s p = record { lays = λ scope tables. ap (λ (r : LaidPiece _). record r { scope = scope }) (p.lays scope tables) }

pub over-lays : {A : Type 0} (own : Scope) (l : laid.Step A) (s : said.Step A) → Lays l s → Lays (laid.over own l) (said.over own s)
over-lays own l s p = record { lays = λ scope tables. ap (λ (r : LaidPiece _). record r { scope = scope }) (p.lays own tables) }

-- what comes next behind a piece
next-behind : {A : Type 0} (piece : Piece A) (tables : Tables) → next_of (placed piece tables).tables ≡ said.behind (next_of tables) piece
next-behind piece tables = same-next _ _ _ _ _ _ (length-append tables.nodes piece.nodes) (length-append tables.blocks piece.blocks) (length-append tables.vias piece.vias)

pub then-lays : {A B : Type 0} (l : laid.Step A) (s : said.Step A) (k : A → laid.Step B) (t : A → said.Step B)
    → Lays l s → ((a : A) → Lays (k a) (t a)) → Lays (laid.◌>>=◌ l k) (said.◌>>=◌ s t)
then-lays l s k t first next = record {
  lays = λ scope tables.
      let p = s scope (next_of tables) in
      let two = t p.own p.scope (said.behind (next_of tables) p) in
      ap (λ (one : LaidPiece _). k one.own one.scope one.tables) (first.lays scope tables)
      ∙ (next p.own).lays p.scope (placed p tables).tables
      ∙ ap (λ (n : Next). placed (t p.own p.scope n) (placed p tables).tables) (next-behind p tables)
      ∙ same-tables two.own two.scope _ _ _ _ _ _
      (append_assoc tables.nodes p.nodes two.nodes) (append_assoc tables.blocks p.blocks two.blocks) (append_assoc tables.vias p.vias two.vias);
}

pub expr-lays : {B : Type 0} (l : Lay) (r : Resolved) (k : ExprId → Ty → laid.Step B) (t : ExprId → Ty → said.Step B)
    → of_expr.Lays l r → ((n : ExprId) (ty : Ty) → Lays (k n ty) (t n ty)) → Lays (laid.expr l k) (said.expr r t)
expr-lays l r k t first next = record {
  lays = λ scope tables.
      let id : ExprId = expr_id (length tables.nodes) in
      let one : List Node = r.nodes scope (length tables.nodes) in
      let behind : Tables = record tables { nodes = tables.nodes ++ one } in
      let at : Next = next-at (length tables.nodes + length one) (length tables.blocks) (length tables.vias) in
      let two = t id (r.ty scope) scope at in
      ap (λ (made : Laid). k id made.ty scope (record tables { nodes = made.table })) (first.lays scope tables.nodes)
      ∙ (next id (r.ty scope)).lays scope behind
      ∙ ap (λ (n : Next). placed (t id (r.ty scope) scope n) behind) (same-next _ _ _ _ _ _ (length-append tables.nodes one) refl refl)
      ∙ same-tables two.own two.scope _ _ _ _ _ _ (append_assoc tables.nodes one two.nodes) refl refl;
}

-- a block written back into its room
pub seam : (before part : List Block) (own : Block) → slice_set ((before ++ [] ∷ []) ++ part) (length before) own ≡ before ++ (own ∷ part)
seam before part own =
    ap (λ (l : List Block). slice_set l (length before) own) (append_assoc before ([] ∷ []) part) ∙ set-append_seam before [] part own

-- a piece behind room for a block
pub in-room : {A : Type 0} (l : laid.Step A) (s : said.Step A) → Lays l s → (scope : Scope) (tables : Tables)
    → l scope (laid.roomy tables) ≡ placed (s scope (record (next_of tables) { block = length tables.blocks + 1 })) (laid.roomy tables)
in-room l s p scope tables =
    p.lays scope (laid.roomy tables)
    ∙ ap (λ (n : Next). placed (s scope n) (laid.roomy tables)) (same-next _ _ _ _ _ _ refl (length-append tables.blocks ([] ∷ [])) refl)

pub braced-lays : (l : laid.Step Block) (s : said.Step Block) → Lays l s → Lays (laid.braced l) (said.braced s)
braced-lays l s p = record {
  lays = λ scope tables.
      let id : BlockId = record { 0 = length tables.blocks } in
      let own = s scope (record (next_of tables) { block = length tables.blocks + 1 }) in
      ap (λ (within : LaidPiece Block). let r : LaidPiece BlockId = record { own = id; tables = laid.put within.tables (length tables.blocks) within.own; scope = scope } in r)
      (in-room l s p scope tables)
      ∙ same-tables id scope _ _ _ _ _ _ refl (seam tables.blocks own.blocks own.own) refl;
}

pub maybe-lays : {A : Type 0} (l : laid.Step A) (s : said.Step A) → Lays l s → Lays (laid.maybe (Some l)) (said.maybe (Some s))
maybe-lays l s p = then-lays l s _ _ p (λ own. give-lays (Some own))

module _ {Y X A : Type 0} (f : Y → X) (L : X → laid.Step A) (S : X → said.Step A) (each : (y : Y) → Lays (L (f y)) (S (f y))) where
  pub all-lays : (ys : List Y) → Lays (laid.all (map L (map f ys))) (said.all (map S (map f ys)))
  all-lays [] = give-lays []
  all-lays (y ∷ ys) =
      then-lays (L (f y)) (S (f y)) _ _ (each y)
      (λ own. then-lays (laid.all (map L (map f ys))) (said.all (map S (map f ys))) _ _ (all-lays ys) (λ others. give-lays (own ∷ others)))

pub map-same : {X : Type 0} (l : List X) → map (λ (x : X). x) l ≡ l
map-same [] = refl
map-same (x ∷ l) = ap (λ (m : List _). x ∷ m) (map-same l)
