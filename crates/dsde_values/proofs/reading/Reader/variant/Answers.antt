use Rattle.dsde_values.proofs.Variants.{variant_found}
use Rattle.dsde_values.proofs.reading.Reader.variant.Goals as goal

pub returns : goal.returns
returns c =
    variant_found c.args.types.now c.requires c.args.number c.args.self.now c.opens.new.self c.word.result.now c.word.new.self c.name_at.result.now c.variants_at.result.now c.variant_of.result c.ok_or.result
    c.name_at.ensures c.variants_at.ensures c.if-not-opens.ensures c.word.ensures.front c.word.ensures.word c.word.ensures.end c.variant_of.ensures.some c.variant_of.ensures.none c.ok_or.ensures.value
