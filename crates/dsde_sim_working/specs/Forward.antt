-- What a program means leads on and not back.
use Rattle.dsde_syntax.specs.declared.decl.Model.{Model}
use Rattle.dsde_system.specs.Program.{system}
use Rattle.dsde_sim_movers.specs.Stands.{IsForward}

abbrev pub ProgramsLeadOn : Type 0
ProgramsLeadOn = (model : Model) → IsForward (system model)
