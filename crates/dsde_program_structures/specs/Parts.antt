-- Parts of what is laid for a structure that have a function of their own.
use Rattle.std.specs.Prelude.{ℕ, Bool, true, false, List, map, Option}
use Rattle.dsde_syntax.specs.declared.expr.Expr.{Expr}
use Rattle.dsde_syntax.specs.declared.id.Id.{Id}
use Rattle.dsde_syntax.specs.declared.item.Bracket.{Bracket}
use Rattle.dsde_syntax.specs.declared.item.End.{End}
use Rattle.dsde_syntax.specs.declared.item.Item.{Item}
use Rattle.dsde_syntax.specs.declared.item.ItemArm.{ItemArm}
use Rattle.dsde_syntax.specs.declared.item.ViaPart.{ViaPart}
use Rattle.dsde_syntax.specs.declared.item.Item.TheFolds.{fold-ItemArm}
use Rattle.dsde_language.specs.declared.known.Known.{Known}
use Rattle.dsde_language.specs.declared.node_ids.ExprId.{ExprId}
use Rattle.dsde_language.specs.declared.make.Make.{Make}
use Rattle.dsde_language.specs.declared.make.Make.TheVariants as make
use Rattle.dsde_language.specs.declared.make.MakeArm.{MakeArm}
use Rattle.dsde_language.specs.declared.make.MakeVia.{MakeVia}
use Rattle.dsde_language.specs.Typing.{item_in, slot_type}
use Rattle.dsde_language.specs.DeclaredStructures.{Kin, Place, end_ports, kin_step, kin_arm_step}
use Rattle.dsde_language.specs.DeclaredModels.{model_id}
use Rattle.dsde_program_expressions.specs.given.program_layout.Lay.{lay}
use Rattle.dsde_program_expressions.specs.given.program_layout.LayPieces.{Step, ◌>>=◌, all, bound, expr, give, inside}
use Rattle.dsde_program_expressions.specs.given.program_layout.LayItems.{item_step, item_arm_step, lay_all, lay_end, lay_index, lay_items, maybe_via}

-- the models of the components in an arm of a choice
abbrev pub kin_arm : Known → ItemArm → Kin
kin_arm known = fold-ItemArm Kin Kin (kin_step known) kin_arm_step

-- the number of an expression alone
abbrev pub lay_number : Known → Expr → Step ExprId
lay_number known own = expr (lay known own) (λ value ty. give value)

-- `let`
abbrev pub lay_let : Place → Id → Expr → Step Make
lay_let place name value = expr (lay place.known value) (λ own ty. bound name.name ty (make.Let own))

-- the list of a `for`, whose name is seen behind it
abbrev pub lay_head : Place → Id → Expr → Step ExprId
lay_head place name list = expr (lay place.known list) (λ own ty. bound name.name (item_in ty) own)

-- the translation of a link from this end, if there is one
abbrev pub lay_through : Place → End → Option ViaPart → Step (Option MakeVia)
lay_through place source via =
    maybe_via place.known (slot_type (end_ports place true source.part) source.port.name) via

-- a link, and a component
abbrev pub lay_link : Place → ℕ → End → End → Option ViaPart → Step Make
lay_link place at source target via =
    lay_end place true source >>= (λ one.
    lay_end place false target >>= (λ two.
    lay_through place source via >>= (λ own.
    give (make.Link at one two own))))

abbrev pub lay_comp : Known → ℕ → Id → Option Bracket → Bool → Id → List Expr → Step Make
lay_comp known at name index soft model args =
    lay_index known index >>= (λ own.
    lay_all known args >>= (λ values.
    give (make.Comp at name.name own (model_id known model.name) values soft)))

-- `for`, by its head
abbrev pub lay_for : Place → Id → Expr → List Item → Step Make
lay_for place name list body =
    inside (lay_head place name list >>= (λ own. lay_items place body >>= (λ makes. give (make.For own makes))))

-- an arm of a choice, by its condition too, and all arms
abbrev pub lay_arm : Place → ItemArm → Step MakeArm
lay_arm place = fold-ItemArm (Step Make) (Step MakeArm) (item_step place) (item_arm_step place)

abbrev pub lay_arm_by : Place → ItemArm → Step MakeArm
lay_arm_by place arm =
    lay_number place.known arm.cond >>= (λ cond. inside (lay_items place arm.body) >>= (λ makes. give (record { cond = cond; makes = makes })))

abbrev pub lay_arms : Place → List ItemArm → Step (List MakeArm)
lay_arms place arms = all (map (lay_arm place) arms)
