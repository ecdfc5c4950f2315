use Rattle.std.proofs.Common.{sym, ap, ◌∙◌, slice_get}
use Rattle.dsde_language.specs.declared.ids.ModelId.{ModelId}
use Rattle.dsde_language.specs.DeclaredModels.{owns_of}
use Rattle.dsde_sim_starting.proofs.networks.structure_of.Goals as goal

pub structure-requires-clause-state : goal.structure-requires-clause-state
structure-requires-clause-state c = record {
  own = c.requires.boss.own;
  found = ap (λ (m : ModelId). slice_get (owns_of c.args.program.now.decls) m.0) (sym c.requires.boss_is) ∙ c.requires.boss.found;
  fill = c.requires.boss.state;
}
