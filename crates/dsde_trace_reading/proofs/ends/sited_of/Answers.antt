use Rattle.std.specs.Prelude.{Some, None}
use Rattle.dsde_trace_words.specs.lemmas.Pairing.{pair-is, pair-no_first, pair-no_second, pair-uncut}
use Rattle.dsde_trace_reading.proofs.Naming.{Lacks-site, site-inverts}
use Rattle.dsde_trace_reading.proofs.ends.sited_of.Goals as goal

pub returns-in_default : goal.returns-in_default
returns-in_default c =
    pair-uncut c.in_default.ensures

pub returns-in_default-site_of : goal.returns-in_default-site_of
returns-in_default-site_of c =
    pair-no_first Lacks-site c.in-Some.site.now c.in-Some.rest.now c.in-Some.ensures.0 c.in-Some.ensures.1 (site-inverts c.in-Some.site.now None c.in_default-site_of.ensures)

pub returns-in-Some-kinded_of : goal.returns-in-Some-kinded_of
returns-in-Some-kinded_of c =
    pair-is Lacks-site c.in-Some.site.now c.in-Some.rest.now c.in-Some.ensures.0 c.in-Some.ensures.1 c.in-Some-site_of.site (site-inverts c.in-Some.site.now (Some c.in-Some-site_of.site) c.in-Some-site_of.ensures) c.in-Some-kinded_of.kinded
    c.in-Some-kinded_of.ensures.finds

pub returns-in-None : goal.returns-in-None
returns-in-None c =
    pair-no_second Lacks-site c.in-Some.site.now c.in-Some.rest.now c.in-Some.ensures.0 c.in-Some.ensures.1 c.in-Some-site_of.site (site-inverts c.in-Some.site.now (Some c.in-Some-site_of.site) c.in-Some-site_of.ensures)
    c.in-None.ensures.finds
