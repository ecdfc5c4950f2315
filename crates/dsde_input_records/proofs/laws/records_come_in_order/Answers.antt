use Rattle.dsde_input_records.proofs.Orders.{come-from}
use Rattle.dsde_input_records.proofs.laws.records_come_in_order.Goals as goal

pub returns : goal.returns
returns c = come-from
