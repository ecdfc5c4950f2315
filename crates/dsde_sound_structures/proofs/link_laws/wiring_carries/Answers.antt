use Rattle.dsde_sound_structures.proofs.Sources.{links-carry}
use Rattle.dsde_sound_structures.proofs.link_laws.wiring_carries.Goals as goal

pub returns : goal.returns
returns c = λ model links sources fits.
    links-carry (λ name other. (c.one_name.ensures name other).0) model fits.own fits.entries fits.order sources fits.given links fits.joined
