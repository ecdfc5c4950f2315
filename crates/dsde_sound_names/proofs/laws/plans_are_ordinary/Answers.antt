use Rattle.dsde_sound_names.specs.Called.{is_free}
use Rattle.dsde_sound_names.proofs.Ordinary.{items-free, entries-ordinary}
use Rattle.dsde_sound_names.proofs.laws.plans_are_ordinary.Goals as goal

pub returns : goal.returns
returns c place functions items number vars plan proper is =
    entries-ordinary c.one_name.ensures plan.entries (c.plans_are_called_so.ensures is_free place functions items number vars plan (items-free items proper) is)
