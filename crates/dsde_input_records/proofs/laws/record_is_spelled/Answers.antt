use Rattle.dsde_input_records.proofs.Lines.{spelled_exactly}
use Rattle.dsde_input_records.proofs.laws.record_is_spelled.Goals as goal

pub returns : goal.returns
returns c = λ ports types are lawful number line arrival. spelled_exactly ports types are lawful number line arrival
