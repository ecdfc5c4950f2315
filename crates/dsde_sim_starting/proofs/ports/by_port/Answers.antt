use Rattle.std.proofs.Common.{ℕ, ◌<◌, length, ◌∙◌, ap, sym, subst}
use Rattle.std.specs.Prelude.{◌^◌}
use Rattle.std.proofs.lemmas.List.FromFn.{length-map-range_with_len}
use Rattle.dsde_sim_tree.specs.Output.{values_at}
use Rattle.dsde_sim_starting.proofs.ports.by_port.Goals as goal

pub returns-clause-ports : goal.returns-clause-ports
returns-clause-ports c = ap length c.in_ok-got.ensures ∙ length-map-range_with_len (values_at c.args.items.now) 0 c.args.ports

pub returns-clause-few : goal.returns-clause-few
returns-clause-few c =
    subst (λ (n : ℕ). n < 2 ^ 32) (sym (ap length c.in_ok-got.ensures ∙ length-map-range_with_len (values_at c.args.items.now) 0 c.args.ports)) c.ranges.ports.fits
