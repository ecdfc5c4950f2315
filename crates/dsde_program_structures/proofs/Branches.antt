-- What is laid for a choice and for an arm of it: what the code puts together is what the definitions do.
use Rattle.std.proofs.Common.{◌≡◌, List, Some, None, sym, ap, ◌∙◌}
use Rattle.dsde_syntax.specs.declared.item.Item.{Item}
use Rattle.dsde_syntax.specs.declared.item.Item.TheVariants as item
use Rattle.dsde_syntax.specs.declared.item.Item.TheOpen.{Item-F}
use Rattle.dsde_syntax.specs.declared.item.Item.TheFolds.{fold-roll-Item}
use Rattle.dsde_syntax.specs.declared.item.ItemArm.{ItemArm}
use Rattle.dsde_language.specs.declared.known.Known.{Known}
use Rattle.dsde_language.specs.declared.node_ids.ExprId.{ExprId}
use Rattle.dsde_language.specs.declared.make.Make.{Make}
use Rattle.dsde_language.specs.declared.make.Make.TheVariants as make
use Rattle.dsde_language.specs.declared.make.MakeArm.{MakeArm}
use Rattle.dsde_language.specs.declared.tables.Tables.{Tables}
use Rattle.dsde_language.specs.Names.{Scope}
use Rattle.dsde_language.specs.DeclaredStructures.{Place}
use Rattle.dsde_program_expressions.specs.given.program_layout.LayPieces.{LaidPiece, Step, ◌>>=◌, give, inside}
use Rattle.dsde_program_expressions.specs.given.program_layout.LayItems.{item_arm_step, item_step, lay_item, lay_items}
use Rattle.dsde_program_structures.specs.Parts.{lay_arm, lay_arms, lay_number}
use Rattle.dsde_program_structures.proofs.Opened.{arm_opened}

-- the arms of a choice are laid, and then what stands behind `else`
module _ (place : Place) (own : Item) (arms : List ItemArm) (scope mid : Scope) (tables between : Tables) (found : List MakeArm)
    (is-found : found ≡ (lay_arms place arms scope tables).own) (is-mid : mid ≡ (lay_arms place arms scope tables).scope) (is-between : between ≡ (lay_arms place arms scope tables).tables) where
  abbrev one : LaidPiece (List MakeArm)
  one = lay_arms place arms scope tables

  module _ (items : List Item) (is : own ≡ item.If arms (Some items)) where
    if_some : lay_item place own scope tables ≡ (lay_arms place arms >>= (λ found. inside (lay_items place items) >>= (λ last. give (make.If found (Some last))))) scope tables
    if_some =
        ap (λ (i : Item). lay_item place i scope tables) (is ∙ sym (item.rolls-If arms (Some items)))
        ∙ ap (λ (step : Step Make). step scope tables) (fold-roll-Item (Step Make) (Step MakeArm) (item_step place) (item_arm_step place) (Item-F.If arms (Some items)))

    last_is : inside (lay_items place items) mid between ≡ inside (lay_items place items) one.scope one.tables
    last_is = ap (λ (s : Scope). inside (lay_items place items) s between) is-mid ∙ ap (λ (t : Tables). inside (lay_items place items) one.scope t) is-between

    pub some_own : (last : List Make) → last ≡ (inside (lay_items place items) mid between).own → make.If found (Some last) ≡ (lay_item place own scope tables).own
    some_own last is-last =
        ap (λ (f : List MakeArm). make.If f (Some last)) is-found
        ∙ ap (λ (l : List Make). make.If one.own (Some l)) (is-last ∙ ap (λ (l : LaidPiece (List Make)). l.own) last_is)
        ∙ sym (ap (λ (l : LaidPiece Make). l.own) if_some)

    pub some_tables : (final : Tables) → final ≡ (inside (lay_items place items) mid between).tables → final ≡ (lay_item place own scope tables).tables
    some_tables final is-final = is-final ∙ ap (λ (l : LaidPiece (List Make)). l.tables) last_is ∙ sym (ap (λ (l : LaidPiece Make). l.tables) if_some)

    pub some_seen : (after : Scope) → after ≡ mid → after ≡ (lay_item place own scope tables).scope
    some_seen after is-after = is-after ∙ is-mid ∙ sym (ap (λ (l : LaidPiece Make). l.scope) if_some)

  module _ (is : own ≡ item.If arms None) where
    if_none : lay_item place own scope tables ≡ (lay_arms place arms >>= (λ found. give (make.If found None))) scope tables
    if_none =
        ap (λ (i : Item). lay_item place i scope tables) (is ∙ sym (item.rolls-If arms None))
        ∙ ap (λ (step : Step Make). step scope tables) (fold-roll-Item (Step Make) (Step MakeArm) (item_step place) (item_arm_step place) (Item-F.If arms None))

    pub none_own : make.If found None ≡ (lay_item place own scope tables).own
    none_own = ap (λ (f : List MakeArm). make.If f None) is-found ∙ sym (ap (λ (l : LaidPiece Make). l.own) if_none)

    pub none_tables : between ≡ (lay_item place own scope tables).tables
    none_tables = is-between ∙ sym (ap (λ (l : LaidPiece Make). l.tables) if_none)

    pub none_seen : mid ≡ (lay_item place own scope tables).scope
    none_seen = is-mid ∙ sym (ap (λ (l : LaidPiece Make). l.scope) if_none)

-- a condition is laid, and then what stands in the braces behind it
module _ (place : Place) (arm : ItemArm) (known : Known) (body : List Item) (scope mid : Scope) (tables between : Tables)
    (is-known : known ≡ place.known) (is-body : body ≡ arm.body) (is-mid : mid ≡ scope) (is-between : between ≡ (lay_number known arm.cond scope tables).tables) where
  abbrev makes_there : LaidPiece (List Make)
  makes_there = inside (lay_items place arm.body) scope (lay_number place.known arm.cond scope tables).tables

  there_is : inside (lay_items place body) mid between ≡ makes_there
  there_is =
      ap (λ (b : List Item). inside (lay_items place b) mid between) is-body
      ∙ ap (λ (s : Scope). inside (lay_items place arm.body) s between) is-mid
      ∙ ap (λ (t : Tables). inside (lay_items place arm.body) scope t) (is-between ∙ ap (λ (k : Known). (lay_number k arm.cond scope tables).tables) is-known)

  abbrev the_arm : ExprId → List Make → MakeArm
  the_arm cond makes = record { cond = cond; makes = makes }

  pub arm_own : (cond : ExprId) (makes : List Make) → cond ≡ (lay_number known arm.cond scope tables).own → makes ≡ (inside (lay_items place body) mid between).own → the_arm cond makes ≡ (lay_arm place arm scope tables).own
  arm_own cond makes is-cond is-makes =
      ap (λ (e : ExprId). the_arm e makes) (is-cond ∙ ap (λ (k : Known). (lay_number k arm.cond scope tables).own) is-known)
      ∙ ap (the_arm (lay_number place.known arm.cond scope tables).own) (is-makes ∙ ap (λ (l : LaidPiece (List Make)). l.own) there_is)
      ∙ sym (ap (λ (l : LaidPiece MakeArm). l.own) (arm_opened place arm scope tables))

  pub arm_tables : (final : Tables) → final ≡ (inside (lay_items place body) mid between).tables → final ≡ (lay_arm place arm scope tables).tables
  arm_tables final is-final =
      is-final ∙ ap (λ (l : LaidPiece (List Make)). l.tables) there_is ∙ sym (ap (λ (l : LaidPiece MakeArm). l.tables) (arm_opened place arm scope tables))

  pub arm_seen : (after : Scope) → after ≡ mid → after ≡ (lay_arm place arm scope tables).scope
  arm_seen after is-after = is-after ∙ is-mid ∙ sym (ap (λ (l : LaidPiece MakeArm). l.scope) (arm_opened place arm scope tables))
