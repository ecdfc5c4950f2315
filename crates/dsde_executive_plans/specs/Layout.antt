-- What the items of a structure mean, over the names that they see: the plan of an executive's state,
-- which is the formalism's structure function (F. J. Barros, "Modeling Formalisms for Dynamic
-- Structure Systems", ACM TOMACS 7(4), 1997).
use Rattle.std.specs.Prelude.{ℕ, ◌+◌, nat_lt, ℤ, pos, negsuc, Bool, true, false, ◌&&◌, if◌then◌else◌, List, [], ◌∷◌, ◌++◌, length, map, take, Option, Some, None, Ok, Err}
use Rattle.std.specs.List.{list_any}
use Rattle.std.specs.Option.{option_map}
use Rattle.std.specs.Ordering.{is_lt}
use Rattle.dsde_structure.specs.given.syntax.item_Bracket.{Bracket}
use Rattle.dsde_structure.specs.given.syntax.item_End as written
use Rattle.dsde_structure.specs.given.syntax.item_EndPart.{EndPart}
use Rattle.dsde_structure.specs.given.syntax.item_EndPart_TheVariants as end_part
use Rattle.dsde_structure.specs.given.syntax.item_Item.{Item}
use Rattle.dsde_structure.specs.given.syntax.item_Item_TheOpen.{Item-F, ItemArm-F}
use Rattle.dsde_structure.specs.given.syntax.item_Item_TheFolds.{fold-Item}
use Rattle.dsde_structure.specs.given.syntax.item_ViaKey.{ViaKey}
use Rattle.dsde_structure.specs.given.syntax.item_ViaPart.{ViaPart}
use Rattle.dsde_values.specs.declared.name.Name.{Name}
use Rattle.dsde_values.specs.declared.value.Value.{Value}
use Rattle.dsde_values.specs.Path.{name_cmp}
use Rattle.dsde_structure.specs.given.faults.kind_FaultKind_TheVariants.{BadIndex, DuplicateComponent, Crowded, TooManyLinks, DanglingLink}
use Rattle.dsde_structure.specs.given.language.known_Known.{Known}
use Rattle.dsde_structure.specs.given.language.Names.{slot_of}
use Rattle.dsde_structure.specs.given.language.DeclaredStructures.{Place, end_ports}
use Rattle.dsde_structure.specs.given.language.DeclaredModels.{model_id}
use Rattle.dsde_structure.specs.declared.plan.End.{End}
use Rattle.dsde_structure.specs.declared.plan.Entry.{Entry}
use Rattle.dsde_structure.specs.declared.plan.Link.{Link}
use Rattle.dsde_structure.specs.declared.plan.Part.{Part}
use Rattle.dsde_structure.specs.declared.plan.Part.TheVariants as part
use Rattle.dsde_structure.specs.declared.plan.Plan.{Plan}
use Rattle.dsde_structure.specs.declared.plan.Via.{Via}
use Rattle.dsde_structure.specs.Gather.{is_same_name}
use Rattle.dsde_executive_plans.specs.declared.placed.PlacedLink.{PlacedLink}
use Rattle.dsde_structure.specs.given.language.Outcome.{Fault, Outcome, ◌>>=◌, int_of, truth_of, items_of}
use Rattle.dsde_structure.specs.given.language.Meaning.{Mean, Vars, Function, mean, values_of, with_var}

-- the variables that items see, the components so far in the order of their names, and the links so
-- far in the order in which they came
pub record Layout : Type 0 where
  pub vars : Vars
  pub entries : List Entry
  pub links : List PlacedLink

-- what an item does where its translations are numbered from a number on, and how many it has
pub record Lay : Type 0 where
  pub vias : ℕ
  pub run : ℕ → Layout → Outcome Layout

-- an index: BadIndex where it is negative
abbrev pub natural : ℕ → ℤ → Outcome (Option ℕ)
natural at (pos number) = Ok (Some number)
natural at (negsuc number) = Err (Fault BadIndex at)

abbrev pub index_of : Known → List Function → Option Bracket → Vars → Outcome (Option ℕ)
index_of known functions None vars = Ok None
index_of known functions (Some own) vars =
    mean known functions own.value vars >>= (λ value. int_of value >>= (λ number. natural own.at number))

-- a structure has at most 65,536 components and as many links
abbrev pub most : ℕ
most = 65536

-- one more component, in the order of names
abbrev pub inserted : Entry → List Entry → List Entry
inserted entry [] = entry ∷ []
inserted entry (first ∷ later) =
    if is_lt (name_cmp entry.name first.name) then entry ∷ first ∷ later else first ∷ inserted entry later

abbrev pub is_there : Name → List Entry → Bool
is_there name entries = list_any (λ entry. is_same_name entry.name name) entries

abbrev pub with_entry : ℕ → Entry → List Entry → Outcome (List Entry)
with_entry at entry entries =
    if is_there entry.name entries then Err (Fault DuplicateComponent at)
    else if nat_lt (length entries) most then Ok (inserted entry entries) else Err (Fault Crowded at)

abbrev pub with_link : ℕ → Link → List PlacedLink → Outcome (List PlacedLink)
with_link at link links =
    if nat_lt (length links) most then Ok (links ++ record { at = at; link = link } ∷ []) else Err (Fault TooManyLinks at)

abbrev pub part_of : Known → List Function → EndPart → Vars → Outcome Part
part_of known functions end_part.Net vars = Ok part.Net
part_of known functions end_part.Exec vars = Ok part.Boss
part_of known functions (end_part.Kid name index) vars =
    index_of known functions index vars >>= (λ own. Ok (part.Kid (record { stem = name.name; index = own })))

-- an end of a link: the port by its number among those that such an end may be at
abbrev pub end_of : Place → List Function → Bool → written.End → Vars → Outcome End
end_of place functions is_source own vars =
    part_of place.known functions own.part vars >>= (λ whose.
    Ok (record { part = whose; port = slot_of (end_ports place is_source own.part) own.port.name }))

abbrev pub key_of : Known → List Function → Option ViaKey → Vars → Outcome (Option Value)
key_of known functions None vars = Ok None
key_of known functions (Some key) vars = mean known functions key.value vars >>= (λ own. Ok (Some own))

-- the translation of a link, with this number
abbrev pub via_of : Known → List Function → ℕ → Option ViaPart → Vars → Outcome (Option Via)
via_of known functions number None vars = Ok None
via_of known functions number (Some via) vars =
    key_of known functions via.key vars >>= (λ key. Ok (Some (record { id = record { 0 = number }; key = key })))

abbrev pub vias_in : Option ViaPart → ℕ
vias_in None = 0
vias_in (Some via) = 1

-- items in their order
abbrev pub lay_all : List Lay → Lay
lay_all [] = record { vias = 0; run = λ number layout. Ok layout }
lay_all (lay ∷ lays) = record {
  vias = lay.vias + (lay_all lays).vias;
  run = λ number layout. lay.run number layout >>= (λ after. (lay_all lays).run (number + lay.vias) after);
}

-- what there is behind braces: the variables that there were before them
abbrev pub braced : Lay → ℕ → Layout → Outcome Layout
braced body number layout =
    body.run number layout >>= (λ after. Ok (record after { vars = take (length layout.vars) after.vars }))

-- an arm of `if`: its condition, and what stands in its braces
pub record ArmLay : Type 0 where
  pub cond : Mean
  pub body : Lay

abbrev pub last_lay : Option Lay → Lay
last_lay None = record { vias = 0; run = λ number layout. Ok layout }
last_lay (Some body) = record { vias = body.vias; run = braced body }

-- the braces behind the first condition that holds
abbrev pub arms_lay : List ArmLay → Option Lay → Lay
arms_lay [] last = last_lay last
arms_lay (arm ∷ arms) last = record {
  vias = arm.body.vias + (arms_lay arms last).vias;
  run = λ number layout.
      arm.cond layout.vars >>= (λ test.
      truth_of test >>= (λ truth.
      if truth then braced arm.body number layout else (arms_lay arms last).run (number + arm.body.vias) layout));
}

-- `for`: its braces for each item in order
abbrev pub for_one : List ℕ → Lay → ℕ → Value → Layout → Outcome Layout
for_one name body number item layout =
    body.run number (record layout { vars = with_var name item layout.vars }) >>= (λ after.
    Ok (record after { vars = take (length layout.vars) after.vars }))

abbrev pub for_lay : List ℕ → Lay → ℕ → List Value → Layout → Outcome Layout
for_lay name body number [] layout = Ok layout
for_lay name body number (item ∷ items) layout =
    for_one name body number item layout >>= (λ after. for_lay name body number items after)

-- A component is soft where its `comp` is written with `:`.
abbrev pub item_step : Place → List Function → Item-F Lay ArmLay → Lay
item_step place functions (Item-F.Comp at name index soft model args) = record {
  vias = 0;
  run = λ number layout.
      index_of place.known functions index layout.vars >>= (λ own.
      values_of [] (map (mean place.known functions) args) layout.vars >>= (λ values.
      with_entry at (record { name = record { stem = name.name; index = own }; model = model_id place.known model.name; args = values; soft = soft }) layout.entries >>= (λ entries.
      Ok (record layout { entries = entries }))));
}
item_step place functions (Item-F.Link at source target via) = record {
  vias = vias_in via;
  run = λ number layout.
      end_of place functions true source layout.vars >>= (λ from.
      end_of place functions false target layout.vars >>= (λ to.
      via_of place.known functions number via layout.vars >>= (λ own.
      with_link at (record { from = from; to = to; via = own }) layout.links >>= (λ links.
      Ok (record layout { links = links })))));
}
item_step place functions (Item-F.Let name value) = record {
  vias = 0;
  run = λ number layout.
      mean place.known functions value layout.vars >>= (λ own.
      Ok (record layout { vars = with_var name.name own layout.vars }));
}
item_step place functions (Item-F.If arms other) = arms_lay arms (option_map lay_all other)
-- The list is evaluated once.
item_step place functions (Item-F.For name list body) = record {
  vias = (lay_all body).vias;
  run = λ number layout.
      mean place.known functions list layout.vars >>= (λ own.
      items_of own >>= (λ items. for_lay name.name (lay_all body) number items layout));
}

abbrev pub item_arm_step : Place → List Function → ItemArm-F Lay ArmLay → ArmLay
item_arm_step place functions arm = record { cond = mean place.known functions arm.cond; body = lay_all arm.body }

-- what an item does where it stands, over the functions that it may call
abbrev pub lay : Place → List Function → Item → Lay
lay place functions = fold-Item Lay ArmLay (item_step place functions) (item_arm_step place functions)

-- a part of the network that there is
abbrev pub has_part : List Entry → Part → Bool
has_part entries (part.Kid name) = is_there name entries
has_part entries _ = true

-- Both ends of each link are there, or the place of the first one of which one is not.
abbrev pub tied : List Entry → List PlacedLink → Outcome (Unit {0})
tied entries [] = Ok tt
tied entries (laid ∷ later) =
    if has_part entries laid.link.from.part && has_part entries laid.link.to.part
    then tied entries later else Err (Fault DanglingLink laid.at)

-- the plan of these components and links, where no link dangles
abbrev pub plan_of : List Entry → List PlacedLink → Outcome Plan
plan_of entries links =
    tied entries links >>= (λ _. Ok (record { entries = entries; links = map (λ laid. laid.link) links }))

-- the plan that the items of a structure give over variables, its translations numbered from a number on
unfoldable pub structure : Place → List Function → List Item → ℕ → Vars → Outcome Plan
structure place functions items number vars =
    (lay_all (map (lay place functions) items)).run number (record { vars = vars; entries = []; links = [] }) >>= (λ layout. plan_of layout.entries layout.links)
