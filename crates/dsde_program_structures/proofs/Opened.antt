-- What is laid for an item or for an arm of a choice, by the part that has a function of its own.
use Rattle.std.proofs.Common.{◌≡◌, ℕ, Bool, List, Option, sym, ap, ◌∙◌, rules}
use Rattle.dsde_syntax.specs.declared.id.Id.{Id}
use Rattle.dsde_syntax.specs.declared.expr.Expr.{Expr}
use Rattle.dsde_syntax.specs.declared.item.Bracket.{Bracket}
use Rattle.dsde_syntax.specs.declared.item.End.{End}
use Rattle.dsde_syntax.specs.declared.item.Item.{Item}
use Rattle.dsde_syntax.specs.declared.item.Item.TheVariants as item
use Rattle.dsde_syntax.specs.declared.item.Item.TheOpen.{Item-F}
use Rattle.dsde_syntax.specs.declared.item.Item.TheFolds.{fold-roll-Item, the_lemmas}
use Rattle.dsde_syntax.specs.declared.item.ItemArm.{ItemArm}
use Rattle.dsde_syntax.specs.declared.item.ViaPart.{ViaPart}
use Rattle.dsde_language.specs.declared.make.Make.{Make}
use Rattle.dsde_language.specs.declared.make.MakeArm.{MakeArm}
use Rattle.dsde_language.specs.declared.tables.Tables.{Tables}
use Rattle.dsde_language.specs.Names.{Scope}
use Rattle.dsde_language.specs.DeclaredStructures.{Place}
use Rattle.dsde_program_expressions.specs.given.program_layout.LayPieces.{Step}
use Rattle.dsde_program_expressions.specs.given.program_layout.LayItems.{item_arm_step, item_step, lay_item}
use Rattle.dsde_program_structures.specs.Parts.{lay_arm, lay_arm_by, lay_comp, lay_for, lay_let, lay_link}

pub item_link : (place : Place) (at : ℕ) (source target : End) (via : Option ViaPart) → lay_item place (item.Link at source target via) ≡ lay_link place at source target via
item_link place at source target via =
    ap (lay_item place) (sym (item.rolls-Link at source target via))
    ∙ fold-roll-Item (Step Make) (Step MakeArm) (item_step place) (item_arm_step place) (Item-F.Link at source target via)

pub item_let : (place : Place) (name : Id) (value : Expr) → lay_item place (item.Let name value) ≡ lay_let place name value
item_let place name value =
    ap (lay_item place) (sym (item.rolls-Let name value))
    ∙ fold-roll-Item (Step Make) (Step MakeArm) (item_step place) (item_arm_step place) (Item-F.Let name value)

pub item_for : (place : Place) (name : Id) (list : Expr) (body : List Item) → lay_item place (item.For name list body) ≡ lay_for place name list body
item_for place name list body =
    ap (lay_item place) (sym (item.rolls-For name list body))
    ∙ fold-roll-Item (Step Make) (Step MakeArm) (item_step place) (item_arm_step place) (Item-F.For name list body)

pub item_comp : (place : Place) (at : ℕ) (name : Id) (index : Option Bracket) (soft : Bool) (model : Id) (args : List Expr)
    → lay_item place (item.Comp at name index soft model args) ≡ lay_comp place.known at name index soft model args
item_comp place at name index soft model args =
    ap (lay_item place) (sym (item.rolls-Comp at name index soft model args))
    ∙ fold-roll-Item (Step Make) (Step MakeArm) (item_step place) (item_arm_step place) (Item-F.Comp at name index soft model args)

pub arm_opened : (place : Place) (arm : ItemArm) (scope : Scope) (tables : Tables) → lay_arm place arm scope tables ≡ lay_arm_by place arm scope tables
arm_opened place arm scope tables = search (rules, the_lemmas)
