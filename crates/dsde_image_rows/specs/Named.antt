-- What the components of a program are called.
use Rattle.std.specs.Prelude.{◌≡◌, true, not, List, Ok}
use Rattle.std.specs.List.{AllByRecursion}
use Rattle.dsde_words.specs.Words.{is_reserved}
use Rattle.dsde_syntax.specs.declared.decl.Model.{Model}
use Rattle.dsde_values.specs.declared.name.Name.{Name}
use Rattle.dsde_values.specs.declared.value.Value.{Value}
use Rattle.dsde_values.specs.Path.{is_index}
use Rattle.dsde_language.specs.Right.{IsRight}
use Rattle.dsde_language.specs.declared.ids.ModelId.{ModelId}
use Rattle.dsde_sim_movers.specs.given.structure.plan_Entry.{Entry}
use Rattle.dsde_sim_movers.specs.given.structure.plan_Plan.{Plan}
use Rattle.dsde_sim_movers.specs.given.formalism.System.{State}
use Rattle.dsde_sound_structures.specs.given.system.Program.{system}
use Rattle.dsde_sound_structures.specs.given.system.Fitting.{FitsArgs, FitsState}

-- The identifier of a name is no word of the language, and its index, if it has one, is below 2^63.
pub record IsAllowed (name : Name) : Type 0 where
  pub free : not (is_reserved name.stem) ≡ true
  pub index : is_index name.index ≡ true

-- So are the names of these components.
abbrev pub AreAllowed : List Entry → Type 0
AreAllowed = AllByRecursion (λ entry. IsAllowed entry.name)

-- So are those of the components of each plan of a network of a program.
abbrev pub NamesAreAllowed : Type 0
NamesAreAllowed =
    (model : Model) (number : ModelId) (args : List Value) (state : State) (plan : Plan)
    → IsRight model → (system model).is_network number ≡ true → FitsArgs model number.0 args → FitsState model number.0 state
    → ((system model).network number args).structure state ≡ Ok plan → AreAllowed plan.entries
