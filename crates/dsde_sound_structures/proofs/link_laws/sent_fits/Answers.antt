use Rattle.dsde_sound_structures.proofs.Gathering.{sent-reach}
use Rattle.dsde_sound_structures.proofs.link_laws.sent_fits.Goals as goal

pub returns : goal.returns
returns c = λ types outs items sent. sent-reach types outs items sent
