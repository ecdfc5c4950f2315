use Rattle.std.proofs.Common.{ℕ, ◌<◌, length, ◌∙◌, ap, sym, subst}
use Rattle.std.specs.Prelude.{◌^◌}
use Rattle.std.proofs.lemmas.List.FromFn.{length-map-range_with_len}
use Rattle.dsde_sim_tree.specs.Output.{values_at}
use Rattle.dsde_core_parcels.specs.Ports.{put_all}
use Rattle.dsde_core_parcels.proofs.ItemPorts.{all-by-port}
use Rattle.dsde_core_parcels.proofs.items.into_ports.Goals as goal

pub returns-clause-value : goal.returns-clause-value
returns-clause-value c = c.in_ok-got.ensures ∙ ap (put_all c.args.items) c.in_ok-none.ensures ∙ all-by-port c.args.items c.args.ports

pub returns-clause-few : goal.returns-clause-few
returns-clause-few c =
    subst (λ (n : ℕ). n < 2 ^ 32)
    (sym (ap length (c.in_ok-got.ensures ∙ ap (put_all c.args.items) c.in_ok-none.ensures ∙ all-by-port c.args.items c.args.ports) ∙ length-map-range_with_len (values_at c.args.items) 0 c.args.ports)) c.ranges.ports.fits
