-- How the logic stores where items stand.
use Rattle.std.specs.Prelude.{List, refl}
use Rattle.std.specs.Coded.{Coded, code_by, coded×, coded_list}
use Rattle.dsde_values.specs.declared.types.Field.{Field}
use Rattle.dsde_values.specs.contracts.types.Field as field
use Rattle.dsde_language.specs.declared.known.Known.{Known}
use Rattle.dsde_language.specs.contracts.known.Known as known
use Rattle.dsde_language.specs.declared.signatures.Family.{Family}
use Rattle.dsde_language.specs.contracts.signatures.Family as family
use Rattle.dsde_language.specs.DeclaredStructures.{Place}

abbrev Fields : Type 0
Fields = List Field

abbrev coded_fields : Coded Fields
coded_fields = coded_list field.the_row.coded

-- as the pairs of its fields
abbrev pub place_code : Coded Place
place_code =
    code_by (Known × (Fields × (Fields × (Fields × (Fields × List Family)))))
    (coded× known.the_row.coded (coded× coded_fields (coded× coded_fields (coded× coded_fields (coded× coded_fields (coded_list family.the_row.coded))))))
    (λ p. (p.known, (p.ins, (p.outs, (p.boss_ins, (p.boss_outs, p.families))))))
    (λ t. record { known = t.0; ins = t.1.0; outs = t.1.1.0; boss_ins = t.1.1.1.0; boss_outs = t.1.1.1.1.0; families = t.1.1.1.1.1 })
    (λ _. refl)
