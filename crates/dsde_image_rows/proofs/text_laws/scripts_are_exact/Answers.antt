use Rattle.dsde_sim_movers.specs.given.language.DeclaredModels.{types_of}
use Rattle.dsde_image_rows.proofs.Scripted.{is-exact, args-again, state-again}
use Rattle.dsde_image_rows.proofs.text_laws.scripts_are_exact.Goals as goal

pub returns-clause-exact : goal.returns-clause-exact
returns-clause-exact c = λ model right. is-exact model (c.value_is_spelled.ensures (types_of model) (c.types_are_lawful.ensures model right))

pub returns-clause-args : goal.returns-clause-args
returns-clause-args c = λ model right number args fits. args-again model (c.value_is_spelled.ensures (types_of model) (c.types_are_lawful.ensures model right)) number args fits

pub returns-clause-states : goal.returns-clause-states
returns-clause-states c = λ model right number state fits. state-again model (c.value_is_spelled.ensures (types_of model) (c.types_are_lawful.ensures model right)) number state fits
