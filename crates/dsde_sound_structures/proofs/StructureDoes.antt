-- What an item does in tables is what it does over names.
use Rattle.std.proofs.Common.{◌≡◌, ℕ, ◌+◌, ◌≤◌, arith, Bool, true, List, ◌++◌, length, Ok, subst}
use Rattle.dsde_sim_tree.specs.given.syntax.item_ViaPart.{ViaPart}
use Rattle.dsde_values.specs.declared.types.Field.{Field}
use Rattle.dsde_sim_tree.specs.given.language.signatures_Family.{Family}
use Rattle.dsde_sim_tree.specs.given.language.Steps.{◌>>=◌, above}
use Rattle.dsde_sim_tree.specs.given.language.Judge as rules
use Rattle.dsde_sim_tree.specs.given.language.Blocks.{Passed, Walk, walk_all}
use Rattle.dsde_sim_tree.specs.given.language.RuleStructures.{Enter}
use Rattle.dsde_sim_tree.specs.given.language.code_ViaCode.{ViaCode}
use Rattle.dsde_sim_tree.specs.given.language.make_Make.{Make}
use Rattle.dsde_sim_tree.specs.given.language.node_Node.{Node}
use Rattle.dsde_sim_tree.specs.given.language.Pieces.{Next, Piece, Step}
use Rattle.dsde_sim_tree.specs.given.language.Scopes.{Stands, Sees}
use Rattle.dsde_sound_names.specs.given.executive_plans.Layout.{Layout, Lay}
use Rattle.dsde_sound_names.specs.given.executive_plans.Drafts.{Draw, draw, draws}
use Rattle.dsde_sound_names.specs.given.sound_expressions.lemmas_Steps.{went, ok-is}
use Rattle.dsde_sound_structures.proofs.Families.{Grows, grows-same, grows-more}
use Rattle.dsde_sound_structures.proofs.StructureGround.{Ground, Kept, Shows, part_in, shown}

-- a height that is not cut
pub not-cut : (height : ℕ) → above height ≤ 512 → height + 1 ≤ 512
not-cut height low = omega (arith, low)

-- the numbers behind an expression
abbrev pub behind_nodes : Next → ℕ → Next
behind_nodes next size = record next { node = next.node + size }

module _ (g : Ground) where
  abbrev E : Bool
  E = g.site.around.has_elapsed

  -- Entering went well, and what was entered is among the families of the structure.
  pub record Entered (rule : Enter) : Type 0 where
    pub found : List Family
    pub more : List Family
    pub is : rule found ≡ Ok more
    pub within : Grows more g.site.families

  -- Entering leaves what was found before it.
  pub record Widens (rule : Enter) : Type 0 where
    pub grows : (found more : List Family) → rule found ≡ Ok more → Grows found more

  pub nothing-widens : Widens (λ families. Ok families)
  nothing-widens = record { grows = λ found more h. subst (λ (l : List Family). Grows found l) (ok-is found more h) (grows-same found) }

  pub then-widens : (one two : Enter) → Widens one → Widens two → Widens (λ families. one families >>= (λ more. two more))
  then-widens one two first second = record {
    grows = λ found more h.
        let w1 = went (one found) (λ mid. two mid) more h in
        grows-more found w1.value more (first.grows found w1.value w1.first) (second.grows w1.value more w1.next);
  }

  -- what was entered first, and then
  pub entered-first : (one two : Enter) → Widens two → Entered (λ families. one families >>= (λ more. two more)) → Entered one
  entered-first one two second own =
      let w1 = went (one own.found) (λ mid. two mid) own.more own.is in
      record { found = own.found; more = w1.value; is = w1.first; within = grows-more w1.value own.more g.site.families (second.grows w1.value own.more w1.next) own.within }

  pub entered-then : (one two : Enter) → Entered (λ families. one families >>= (λ more. two more)) → Entered two
  entered-then one two own =
      let w1 = went (one own.found) (λ mid. two mid) own.more own.is in
      record { found = w1.value; more = own.more; is = w1.next; within = own.within }

  -- A piece stands in the tables and its translations in the file, and its height is below the limit.
  pub record Ready (next : Next) (nodes : List Node) (vias : List ViaCode) (texts : List ViaPart) (height : ℕ) : Type 0 where
    pub code : Stands g.coded.nodes next.node nodes
    pub ways : Stands g.codes next.via vias
    pub words : Stands g.written next.via texts
    pub low : height ≤ 512

  -- A piece in a place by what is judged of it: the slots behind it, and what it does.
  pub record Done {A : Type 0} (act : A → Draw) (passed : Passed) (slots : List Field) (next : Next) (piece : Piece A) (texts : List ViaPart) (own : Lay) : Type 0 where
    pub more : List Field
    pub grows : piece.scope ≡ slots ++ more
    pub sees : Sees E passed.scope piece.scope
    pub shows : Ready next piece.nodes piece.vias texts passed.height → (before : Layout) → Kept g slots before
        → Shows g piece.scope (own.run next.via before) (act piece.own (shown before))

  -- what an item, and what items do
  abbrev pub one_does : Make → Draw
  one_does make = draw (part_in g) make

  abbrev pub all_do : List Make → Draw
  all_do makes = draws (part_in g) makes

  pub record Does (proper : Bool) (rule : Enter) (judged : Walk) (step : Step Make) (texts : List ViaPart) (own : Lay) : Type 0 where
    pub counts : (slots : List Field) (next : Next) → length (step slots next).vias ≡ own.vias
    pub told : length texts ≡ own.vias
    pub widens : Widens rule
    pub does : proper ≡ true → Entered rule → (scope : rules.Scope) (passed : Passed) (slots : List Field) (next : Next)
        → judged scope ≡ Ok passed → Sees E scope slots → Done one_does passed slots next (step slots next) texts own

  -- The same of items in their order, on what came before them of this height.
  pub record AllDo (proper : Bool) (rule : Enter) (judged : List Walk) (step : Step (List Make)) (texts : List ViaPart) (own : Lay) : Type 0 where
    pub counts : (slots : List Field) (next : Next) → length (step slots next).vias ≡ own.vias
    pub told : length texts ≡ own.vias
    pub widens : Widens rule
    pub does : proper ≡ true → Entered rule → (height : ℕ) (scope : rules.Scope) (passed : Passed) (slots : List Field) (next : Next)
        → walk_all judged height scope ≡ Ok passed → Sees E scope slots → Done all_do passed slots next (step slots next) texts own
