use Rattle.dsde_cli.proofs.Naming.{names-parts}
use Rattle.dsde_cli.proofs.delivery_laws.models_name_parts.Goals as goal

pub returns : goal.returns
returns c model shaped = names-parts c.shaped_items_are_proper.ensures c.plans_are_in_order.ensures c.plans_are_ordinary.ensures model shaped
