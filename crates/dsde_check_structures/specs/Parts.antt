-- Parts of the rules of a structure that have a function of their own.
use Rattle.std.specs.Prelude.{ℕ, max, ◌&&◌, List, ◌∷◌, [], ◌++◌, map, Option, Some, Result, Ok, false}
use Rattle.dsde_syntax.specs.declared.id.Id.{Id}
use Rattle.dsde_syntax.specs.declared.expr.Expr.{Expr}
use Rattle.dsde_syntax.specs.declared.item.End.{End}
use Rattle.dsde_syntax.specs.declared.item.ItemArm.{ItemArm}
use Rattle.dsde_syntax.specs.declared.item.Item.TheFolds.{fold-ItemArm}
use Rattle.dsde_syntax.specs.declared.item.ViaPart.{ViaPart}
use Rattle.dsde_values.specs.declared.types.Ty.{Ty}
use Rattle.dsde_language.specs.declared.known.Around.{Around}
use Rattle.dsde_language.specs.declared.known.Known.{Known}
use Rattle.dsde_language.specs.declared.known.Site.{Site}
use Rattle.dsde_language.specs.declared.seen.EndSeen.{EndSeen}
use Rattle.dsde_language.specs.declared.seen.Seen.{Seen}
use Rattle.dsde_language.specs.declared.wrong.Wrong.{Wrong}
use Rattle.dsde_language.specs.declared.wrong.WrongKind.TheVariants.{BadLink}
use Rattle.dsde_language.specs.Steps.{◌>>=◌, unless}
use Rattle.dsde_language.specs.Types.{item_type, wanted}
use Rattle.dsde_language.specs.Judge.{Scope, fixed, fresh, judge, test_of}
use Rattle.dsde_language.specs.Blocks.{Walk, ArmWalk, inner, walked}
use Rattle.dsde_language.specs.RuleStructures.{Enter, enter_step, enter_arm_step, item_step, item_arm_step, item_walk, end_of, through}

-- the height of a value of this type
abbrev pub height_as : Around → Ty → Expr → Scope → Result ℕ Wrong
height_as around own value scope =
    judge around value scope >>= (λ seen. wanted own seen >>= (λ _. Ok seen.height))

-- a link between these ends
abbrev pub link_between : Site → ℕ → EndSeen → EndSeen → Option ViaPart → Walk
link_between site at from to via scope =
    unless (from.is_net && to.is_net) BadLink at >>= (λ _.
    through site.around at from.ty to.ty via scope >>= (λ height.
    walked scope (max height (max from.height to.height))))

-- a link from this source
abbrev pub link_from : Site → ℕ → EndSeen → End → Option ViaPart → Walk
link_from site at from target via scope =
    end_of site false target.part target.port scope >>= (λ to. link_between site at from to via scope)

-- the models of the components in an arm of a choice
abbrev pub enter_arm : Known → ItemArm → Enter
enter_arm known = fold-ItemArm Enter Enter (enter_step known) enter_arm_step

-- an arm of a choice: its condition, and its items in text order
abbrev pub item_arm_walk : Site → ItemArm → ArmWalk
item_arm_walk site = fold-ItemArm Walk ArmWalk (item_step site) (item_arm_step site)

-- the condition of an arm, on what came before it of this height
unfoldable pub arm_test : Site → Expr → ArmWalk
arm_test site cond height scope = test_of (Some (judge site.around cond)) height scope

-- the arm, by its condition
abbrev pub arm_by : Site → ItemArm → ArmWalk
arm_by site arm height scope =
    arm_test site arm.cond height scope >>= (λ tested. inner (map (item_walk site) arm.body) tested scope)

-- the name of `for` over these items, which are a list: it is bound, and the height is theirs
abbrev pub item_bound : Id → Seen → Walk
item_bound name items scope =
    item_type items >>= (λ item. Ok (record { scope = scope ++ fixed name item ∷ []; height = items.height }))

-- what stands before the braces of `for`: the name is bound, and the height is that of the list
unfoldable pub for_head : Site → Id → Expr → Walk
for_head site name list scope =
    fresh site.around name scope >>= (λ _.
    judge site.around list scope >>= (λ items.
    item_bound name items scope))

-- `for`, by what stands before its braces
abbrev pub for_by : Site → Id → Expr → List Walk → Walk
for_by site name list body scope =
    for_head site name list scope >>= (λ head.
    inner body head.height head.scope >>= (λ height.
    walked scope height))
