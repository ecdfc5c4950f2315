use Rattle.std.proofs.Common.{◌<◌, ℕ, length, sym, ap, subst, ◌∙◌}
use Rattle.std.specs.Prelude.{◌^◌}
use Rattle.std.proofs.lemmas.List.FromFn.{length-map-range_with_len}
use Rattle.dsde_core_parcels.specs.Inboxes.{values_at}
use Rattle.dsde_core_outputs.proofs.network.spread_over.Goals as goal

pub returns-clause-few : goal.returns-clause-few
returns-clause-few c =
    subst (λ (count : ℕ). count < 2 ^ 32) (sym (ap length c.in_ok-sent.ensures ∙ length-map-range_with_len (λ (port : ℕ). values_at port c.args.gets) 0 c.args.ports)) c.ranges.ports.fits
