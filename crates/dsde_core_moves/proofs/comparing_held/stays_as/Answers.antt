use Rattle.std.proofs.Common.{Bool, ◌&&◌, sym, ap, ◌∙◌}
use Rattle.dsde_routes_wiring.specs.declared.wiring.WiredKid.TheViews.{out-WiredKid}
use Rattle.dsde_core_flat.specs.given.grove.Grove.{value_of}
use Rattle.dsde_core_moves.specs.Compared.{lies_as}
use Rattle.dsde_core_moves.proofs.Naming.{named}
use Rattle.dsde_core_moves.proofs.comparing_held.stays_as.Goals as goal

pub returns-then-is_same-clause-value : goal.returns-then-is_same-clause-value
returns-then-is_same-clause-value g c =
    let same = named (out-WiredKid c.args.kid.now).name c.args.entry.now.name c.is_same.result c.is_same.ensures ∙ c.if-is_same.true in
    c.lies_as.ensures.value ∙ sym (ap (λ (b : Bool). b && lies_as (value_of c.args.grove.now (out-WiredKid c.args.kid.now).handle) c.args.entry.now) same)

pub returns-else-is_same-clause-value : goal.returns-else-is_same-clause-value
returns-else-is_same-clause-value g c =
    let apart = named (out-WiredKid c.args.kid.now).name c.args.entry.now.name c.is_same.result c.is_same.ensures ∙ c.if-is_same.false in
    sym (ap (λ (b : Bool). b && lies_as (value_of c.args.grove.now (out-WiredKid c.args.kid.now).handle) c.args.entry.now) apart)
