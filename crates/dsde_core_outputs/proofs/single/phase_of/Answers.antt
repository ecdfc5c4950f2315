use Rattle.std.proofs.Common.{ℕ, ◌<◌, sym, subst}
use Rattle.std.specs.Prelude.{◌^◌}
use Rattle.std.proofs.lemmas.List.FromFn.{length-map-range_with_len}
use Rattle.dsde_sim_tree.specs.Output.{values_at}
use Rattle.dsde_core_outputs.proofs.single.phase_of.Goals as goal

pub returns-clause-few : goal.returns-clause-few
returns-clause-few c = subst (λ (n : ℕ). n < 2 ^ 32) (sym (length-map-range_with_len (values_at c.args.items) 0 c.args.ports)) c.ranges.ports.fits
