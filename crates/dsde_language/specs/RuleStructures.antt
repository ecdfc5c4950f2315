-- The first wrong thing of a structure.
use Rattle.std.specs.Prelude.{ℕ, ◌==◌, max, Bool, true, false, not, ◌&&◌, if◌then◌else◌, List, [], ◌∷◌, ◌++◌, map, Option, Some, None, Result, Ok, slice_get}
use Rattle.std.specs.Option.{option_map_or}
use Rattle.dsde_names.specs.Table.{place_of, named}
use Rattle.dsde_syntax.specs.declared.id.Id.{Id}
use Rattle.dsde_syntax.specs.declared.expr.Expr.{Expr}
use Rattle.dsde_syntax.specs.declared.item.Item.{Item}
use Rattle.dsde_syntax.specs.declared.item.Item.TheOpen.{Item-F, ItemArm-F}
use Rattle.dsde_syntax.specs.declared.item.Item.TheFolds.{fold-Item}
use Rattle.dsde_syntax.specs.declared.item.Bracket.{Bracket}
use Rattle.dsde_syntax.specs.declared.item.End.{End}
use Rattle.dsde_syntax.specs.declared.item.EndPart.{EndPart}
use Rattle.dsde_syntax.specs.declared.item.EndPart.TheVariants as end_part
use Rattle.dsde_syntax.specs.declared.item.ViaKey.{ViaKey}
use Rattle.dsde_syntax.specs.declared.item.ViaPart.{ViaPart}
use Rattle.dsde_values.specs.declared.types.Ty.{Ty}
use Rattle.dsde_values.specs.declared.types.Ty.TheVariants as ty
use Rattle.dsde_language.specs.declared.known.Around.{Around}
use Rattle.dsde_language.specs.declared.known.Known.{Known}
use Rattle.dsde_language.specs.declared.known.Site.{Site}
use Rattle.dsde_language.specs.declared.seen.EndSeen.{EndSeen}
use Rattle.dsde_language.specs.declared.signatures.Family.{Family}
use Rattle.dsde_language.specs.declared.signatures.ModelSig.{ModelSig}
use Rattle.dsde_language.specs.declared.signatures.Port.{Port}
use Rattle.dsde_language.specs.declared.wrong.Wrong.{Wrong}
use Rattle.dsde_language.specs.declared.wrong.WrongKind.TheVariants.{Unknown, WrongType, BadLink, MixedFamily}
use Rattle.dsde_language.specs.Steps.{◌>>=◌, wrong, unless}
use Rattle.dsde_language.specs.Types.{same, wanted}
use Rattle.dsde_language.specs.RuleTables.{family_name, model_name, port_name}
use Rattle.dsde_language.specs.Judge.{Scope, fresh, fixed, fit_all, judge}
use Rattle.dsde_language.specs.Blocks.{Walk, ArmWalk, walked, inner, let_of, arm_of, if_walk, for_walk}

-- the model with a name, declared before or later
abbrev pub model_number : Known → List ℕ → Option ℕ
model_number known = place_of model_name known.models

abbrev pub model_named : Known → List ℕ → Option ModelSig
model_named known = named model_name known.models

-- the model that the components with an identifier have
abbrev pub family_named : List Family → List ℕ → Option Family
family_named = named family_name

-- Components of one identifier have one model.
abbrev pub with_comp : List Family → ℕ → Id → ℕ → Result (List Family) Wrong
with_comp families at name model =
    elim (family_named families name.name) [
      | None ↦ Ok (families ++ record { name = name.name; model = model } ∷ [])
      | Some family ↦ unless (not (family.model == model)) MixedFamily at >>= (λ _. Ok families)
    ]

-- `comp`: its model is one of the file
abbrev pub comp_family : Known → ℕ → Id → Id → List Family → Result (List Family) Wrong
comp_family known at name model families =
    elim (model_number known model.name) [ None ↦ wrong Unknown model.at | Some number ↦ with_comp families at name number ]

-- the models of components, behind those that were found, by the `comp` items in text order
abbrev pub Enter : Type 0
Enter = List Family → Result (List Family) Wrong

abbrev pub enter_all : List Enter → Enter
enter_all [] families = Ok families
enter_all (enter ∷ enters) families = enter families >>= (λ more. enter_all enters more)

abbrev pub enter_last : Option (List Enter) → Enter
enter_last None families = Ok families
enter_last (Some enters) families = enter_all enters families

abbrev pub enter_step : Known → Item-F Enter Enter → Enter
enter_step known (Item-F.Comp at name index soft model args) families = comp_family known at name model families
enter_step known (Item-F.Link at source target via) families = Ok families
enter_step known (Item-F.Let name value) families = Ok families
enter_step known (Item-F.If arms other) families = enter_all arms families >>= (λ more. enter_last other more)
enter_step known (Item-F.For name list body) families = enter_all body families

abbrev pub enter_arm_step : ItemArm-F Enter Enter → Enter
enter_arm_step arm = enter_all arm.body

abbrev pub enter : Known → Item → Enter
enter known = fold-Item Enter Enter (enter_step known) enter_arm_step

-- an index, if there is one, is a whole number: its height
abbrev pub index_of : Around → Option Bracket → Scope → Result ℕ Wrong
index_of around None scope = Ok 0
index_of around (Some bracket) scope =
    judge around bracket.value scope >>= (λ seen. wanted ty.Int seen >>= (λ _. Ok seen.height))

-- arguments of a model's parameters' types: the greatest height
abbrev pub args_of : Around → Id → List Expr → Scope → Result ℕ Wrong
args_of around model args scope =
    elim (model_named around.known model.name) [
      | None ↦ wrong Unknown model.at
      | Some sig ↦ fit_all model (map (judge around) args) sig.params scope
    ]

-- a component: its index, and then arguments of its model's parameters' types
abbrev pub comp_of : Around → Option Bracket → Id → List Expr → Walk
comp_of around index model args scope =
    index_of around index scope >>= (λ height.
    args_of around model args scope >>= (λ more.
    walked scope (max height more)))

-- the port of a name, which is an out port or an in port as it is wanted
abbrev pub port_at : Id → Bool → Port → ℕ → Bool → Result EndSeen Wrong
port_at name out port height is_net =
    unless (if out then not port.out else port.out) BadLink name.at >>= (λ _.
    Ok (record { ty = port.ty; height = height; is_net = is_net }))

abbrev pub end_at : List Port → Id → Bool → ℕ → Bool → Result EndSeen Wrong
end_at ports name out height is_net =
    elim (named port_name ports name.name) [ None ↦ wrong Unknown name.at | Some port ↦ port_at name out port height is_net ]

-- the ports of a model
abbrev pub ports_at : Known → ℕ → List Port
ports_at known model = option_map_or (λ (sig : ModelSig). sig.ports) (slice_get known.models model) []

-- an end at a component of this model
abbrev pub kid_end : Site → Bool → Option Bracket → ℕ → Id → Scope → Result EndSeen Wrong
kid_end site is_source index model port scope =
    index_of site.around index scope >>= (λ height. end_at (ports_at site.around.known model) port is_source height false)

-- An end of a link. A source is an in port of `net` or an out port of others, and a target is an out
-- port of `net` or an in port of others.
abbrev pub end_of : Site → Bool → EndPart → Id → Scope → Result EndSeen Wrong
end_of site is_source end_part.Net port scope = end_at site.ports port (not is_source) 0 true
end_of site is_source end_part.Exec port scope = end_at site.execs port is_source 0 false
end_of site is_source (end_part.Kid name index) port scope =
    elim (family_named site.families name.name) [
      | None ↦ wrong Unknown name.at
      | Some family ↦ kid_end site is_source index family.model port scope
    ]

-- what is seen round a translation, which always has a value
abbrev pub translating : Around → Around
translating around = record { known = around.known; reserved = around.reserved; has_elapsed = false; sets_states = false; is_total = true }

-- A translation sees its names alone. It is an option of the target's type.
abbrev pub body_via : Around → Ty → Expr → Scope → Result ℕ Wrong
body_via around target body scope =
    judge (translating around) body scope >>= (λ seen. wanted (ty.Opt target) seen >>= (λ _. Ok seen.height))

-- a translation behind a key expression of this type
abbrev pub keyed_via : Around → Ty → Ty → ViaPart → ViaKey → Ty → Scope → Result ℕ Wrong
keyed_via around source target via key own scope =
    fresh around via.value scope >>= (λ _.
    fresh around key.name (scope ++ fixed via.value source ∷ []) >>= (λ _.
    body_via around target via.body (fixed via.value source ∷ fixed key.name own ∷ [])))

-- the key expression, the names, and then the translation
abbrev pub key_via : Around → Ty → Ty → ViaPart → ViaKey → Scope → Result ℕ Wrong
key_via around source target via key scope =
    judge around key.value scope >>= (λ seen.
    keyed_via around source target via key seen.ty scope >>= (λ height.
    Ok (max seen.height height)))

abbrev pub via_of : Around → Ty → Ty → ViaPart → Scope → Result ℕ Wrong
via_of around source target via scope =
    elim via.key [
      | None ↦ fresh around via.value scope >>= (λ _. body_via around target via.body (fixed via.value source ∷ []))
      | Some key ↦ key_via around source target via key scope
    ]

-- how values go through a link: without a translation both ports have one type
abbrev pub through : Around → ℕ → Ty → Ty → Option ViaPart → Scope → Result ℕ Wrong
through around at source target None scope = unless (not (same source target)) WrongType at >>= (λ _. Ok 0)
through around at source target (Some via) scope = via_of around source target via scope

-- a link: its source, its target, none from `net` to `net`, and how values go through it
abbrev pub link_of : Site → ℕ → End → End → Option ViaPart → Walk
link_of site at source target via scope =
    end_of site true source.part source.port scope >>= (λ from.
    end_of site false target.part target.port scope >>= (λ to.
    unless (from.is_net && to.is_net) BadLink at >>= (λ _.
    through site.around at from.ty to.ty via scope >>= (λ height.
    walked scope (max height (max from.height to.height))))))

abbrev pub item_step : Site → Item-F Walk ArmWalk → Walk
item_step site (Item-F.Comp at name index soft model args) scope = comp_of site.around index model args scope
item_step site (Item-F.Link at source target via) scope = link_of site at source target via scope
item_step site (Item-F.Let name value) scope = let_of site.around false name (judge site.around value) scope
item_step site (Item-F.If arms other) scope = if_walk arms other scope
item_step site (Item-F.For name list body) scope = for_walk site.around name (judge site.around list) body scope

abbrev pub item_arm_step : Site → ItemArm-F Walk ArmWalk → ArmWalk
item_arm_step site arm = arm_of (judge site.around arm.cond) arm.body

abbrev pub item_walk : Site → Item → Walk
item_walk site = fold-Item Walk ArmWalk (item_step site) (item_arm_step site)

-- a structure: on entering it the models of all its components, and then its items in text order
abbrev pub structure_of : Around → List Port → List Port → List Item → Scope → Result ℕ Wrong
structure_of around ports execs items scope =
    enter_all (map (enter around.known) items) [] >>= (λ families.
    inner (map (item_walk (record { around = around; ports = ports; execs = execs; families = families })) items) 0 scope)
