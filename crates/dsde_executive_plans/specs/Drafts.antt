-- What the items of a structure do in the tables that a model is resolved to, over slots.
use Rattle.std.specs.Prelude.{◌≡◌, ℕ, Bool, true, false, if◌then◌else◌, List, [], ◌∷◌, ◌++◌, length, map, take, Option, Some, None, Result, Ok, Err}
use Rattle.std.specs.Option.{option_map}
use Rattle.dsde_values.specs.declared.value.Value.{Value}
use Rattle.dsde_structure.specs.given.faults.end_EvalEnd.{EvalEnd}
use Rattle.dsde_structure.specs.given.faults.end_EvalEnd_TheVariants as end_of
use Rattle.dsde_structure.specs.given.language.node_ids_ExprId.{ExprId}
use Rattle.dsde_structure.specs.given.language.ids_ModelId.{ModelId}
use Rattle.dsde_structure.specs.given.language.make_Make.{Make}
use Rattle.dsde_structure.specs.given.language.make_Make_TheOpen.{Make-F, MakeArm-F}
use Rattle.dsde_structure.specs.given.language.make_Make_TheFolds.{fold-Make, fold-MakeArm}
use Rattle.dsde_structure.specs.given.language.make_MakeArm.{MakeArm}
use Rattle.dsde_structure.specs.given.language.make_MakeEnd.{MakeEnd}
use Rattle.dsde_structure.specs.given.language.make_MakeIndex.{MakeIndex}
use Rattle.dsde_structure.specs.given.language.make_MakePart.{MakePart}
use Rattle.dsde_structure.specs.given.language.make_MakePart_TheVariants as make_part
use Rattle.dsde_structure.specs.given.language.make_MakeVia.{MakeVia}
use Rattle.dsde_structure.specs.declared.plan.End.{End}
use Rattle.dsde_structure.specs.declared.plan.Entry.{Entry}
use Rattle.dsde_structure.specs.declared.plan.Part as whose
use Rattle.dsde_structure.specs.declared.plan.Part.TheVariants as part_of
use Rattle.dsde_structure.specs.declared.plan.Plan.{Plan}
use Rattle.dsde_structure.specs.declared.plan.Via.{Via}
use Rattle.dsde_structure.specs.given.language.Outcome.{Fault, Outcome, ◌>>=◌, int_of, truth_of, items_of}
use Rattle.dsde_structure.specs.given.language.MeaningTables.{Part, values_from}
use Rattle.dsde_executive_plans.specs.declared.placed.PlacedLink.{PlacedLink}
use Rattle.dsde_executive_plans.specs.Layout.{natural, with_entry, with_link, plan_of}

-- the slots that items see, the components so far in the order of their names, and the links so far
-- in the order in which they came
pub record Draft : Type 0 where
  pub slots : List Value
  pub entries : List Entry
  pub links : List PlacedLink

-- what an item does
abbrev pub Draw : Type 0
Draw = Draft → Outcome Draft

abbrev pub index_at : Part → Option MakeIndex → List Value → Outcome (Option ℕ)
index_at part None slots = Ok None
index_at part (Some own) slots = part own.value slots >>= (λ value. int_of value >>= (λ number. natural own.at number))

abbrev pub part_at : Part → MakePart → List Value → Outcome whose.Part
part_at part make_part.Net slots = Ok part_of.Net
part_at part make_part.Boss slots = Ok part_of.Boss
part_at part (make_part.Kid stem index) slots =
    index_at part index slots >>= (λ own. Ok (part_of.Kid (record { stem = stem; index = own })))

abbrev pub end_at : Part → MakeEnd → List Value → Outcome End
end_at part own slots = part_at part own.part slots >>= (λ found. Ok (record { part = found; port = own.port }))

abbrev pub key_at : Part → Option ExprId → List Value → Outcome (Option Value)
key_at part None slots = Ok None
key_at part (Some key) slots = part key slots >>= (λ own. Ok (Some own))

abbrev pub via_at : Part → Option MakeVia → List Value → Outcome (Option Via)
via_at part None slots = Ok None
via_at part (Some via) slots = key_at part via.key slots >>= (λ key. Ok (Some (record { id = via.id; key = key })))

-- items in their order
abbrev pub draw_all : List Draw → Draw
draw_all [] draft = Ok draft
draw_all (draw ∷ draws) draft = draw draft >>= (λ after. draw_all draws after)

-- what there is behind braces: the slots that there were before them
abbrev pub braced : Draw → Draw
braced body draft = body draft >>= (λ after. Ok (record after { slots = take (length draft.slots) after.slots }))

-- an arm of `if`: its condition, and what stands in its braces
pub record ArmDraw : Type 0 where
  pub cond : ExprId
  pub body : Draw

-- the braces behind the first condition that holds, if one does
abbrev pub arms_draw : Part → List ArmDraw → Draft → Outcome (Option Draft)
arms_draw part [] draft = Ok None
arms_draw part (arm ∷ arms) draft =
    part arm.cond draft.slots >>= (λ test.
    truth_of test >>= (λ truth.
    if truth then (braced arm.body draft >>= (λ after. Ok (Some after))) else arms_draw part arms draft))

-- what there is behind an arm, and else behind the last braces, if there are any
abbrev pub else_draw : Option Draw → Draft → Option Draft → Outcome Draft
else_draw last draft (Some after) = Ok after
else_draw (Some body) draft None = braced body draft
else_draw None draft None = Ok draft

-- `for`: its braces for each item in order, over one more slot
abbrev pub for_one : Draw → Value → Draw
for_one body item draft =
    body (record draft { slots = draft.slots ++ item ∷ [] }) >>= (λ after.
    Ok (record after { slots = take (length draft.slots) after.slots }))

abbrev pub for_draw : Draw → List Value → Draw
for_draw body [] draft = Ok draft
for_draw body (item ∷ items) draft = for_one body item draft >>= (λ after. for_draw body items after)

-- a component, soft or not: its index, its arguments, and then whether there is one of its name or no room
abbrev pub comp_draw : Part → ℕ → List ℕ → Option MakeIndex → ModelId → List ExprId → Bool → Draw
comp_draw part at stem index model args soft draft =
    index_at part index draft.slots >>= (λ own.
    values_from part [] args draft.slots >>= (λ values.
    with_entry at (record { name = record { stem = stem; index = own }; model = model; args = values; soft = soft }) draft.entries >>= (λ entries.
    Ok (record draft { entries = entries }))))

-- a link: the index of its source, that of its target, its key, and then whether there is no room
abbrev pub link_draw : Part → ℕ → MakeEnd → MakeEnd → Option MakeVia → Draw
link_draw part at source target via draft =
    end_at part source draft.slots >>= (λ from.
    end_at part target draft.slots >>= (λ to.
    via_at part via draft.slots >>= (λ own.
    with_link at (record { from = from; to = to; via = own }) draft.links >>= (λ links.
    Ok (record draft { links = links })))))

-- The list is evaluated once.
abbrev pub for_list : Part → ExprId → Draw → Draw
for_list part list body draft =
    part list draft.slots >>= (λ own. items_of own >>= (λ items. for_draw body items draft))

abbrev pub make_step : Part → Make-F Draw ArmDraw → Draw
make_step part (Make-F.Comp at stem index model args soft) draft = comp_draw part at stem index model args soft draft
make_step part (Make-F.Link at source target via) draft = link_draw part at source target via draft
make_step part (Make-F.Let number) draft =
    part number draft.slots >>= (λ own. Ok (record draft { slots = draft.slots ++ own ∷ [] }))
make_step part (Make-F.If arms other) draft =
    arms_draw part arms draft >>= (λ found. else_draw (option_map draw_all other) draft found)
make_step part (Make-F.For list body) draft = for_list part list (draw_all body) draft

abbrev pub make_arm_step : MakeArm-F Draw ArmDraw → ArmDraw
make_arm_step arm = record { cond = arm.cond; body = draw_all arm.makes }

-- what an item does, by what expressions come to
abbrev pub draw : Part → Make → Draw
draw part = fold-Make Draw ArmDraw (make_step part) make_arm_step

abbrev pub draw_arm : Part → MakeArm → ArmDraw
draw_arm part = fold-MakeArm Draw ArmDraw (make_step part) make_arm_step

abbrev pub draft_of : List Value → List Entry → List PlacedLink → Draft
draft_of slots entries links = record { slots = slots; entries = entries; links = links }

-- what the items of a structure do
abbrev pub draws : Part → List Make → Draw
draws part makes = draw_all (map (draw part) makes)

-- The draft is what is meant, or the answer says why not.
abbrev pub Draws : Outcome Draft → Result (Unit {0}) EvalEnd → List Value → List Entry → List PlacedLink → Type 0
Draws meant (Ok _) slots entries links = meant ≡ Ok (draft_of slots entries links)
Draws meant (Err (end_of.Fault kind at)) slots entries links = meant ≡ Err (Fault kind at)
Draws meant (Err end_of.Memory) slots entries links = Unit {0}

-- One of the braces was taken and left this draft, or none was, or the answer says why not.
abbrev pub Takes : Outcome (Option Draft) → Result Bool EvalEnd → List Value → List Entry → List PlacedLink → Type 0
Takes meant (Ok true) slots entries links = meant ≡ Ok (Some (draft_of slots entries links))
Takes meant (Ok false) slots entries links = meant ≡ Ok None
Takes meant (Err (end_of.Fault kind at)) slots entries links = meant ≡ Err (Fault kind at)
Takes meant (Err end_of.Memory) slots entries links = Unit {0}

-- the plan that the items of a structure give over slots
abbrev pub planned : Part → List Make → List Value → Outcome Plan
planned part makes slots = draws part makes (draft_of slots [] []) >>= (λ draft. plan_of draft.entries draft.links)
