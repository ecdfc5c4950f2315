use Rattle.std.proofs.Common.{rules}
use Rattle.dsde_syntax.proofs.Writing.{then, same}
use Rattle.dsde_syntax.proofs.writer.Writer.decl.Goals as goal

pub returns-in-Enum : goal.returns-in-Enum
returns-in-Enum c = same (then (then c.word.ensures c.id.ensures) c.variants.ensures) (search rules)

pub returns-in-Rec : goal.returns-in-Rec
returns-in-Rec c = same (then (then c.word-in-Rec.ensures c.id-in-Rec.ensures) c.fields.ensures) (search rules)

pub returns-in-Func : goal.returns-in-Func
returns-in-Func c = same (then (then (then (then (then c.word-in-Func.ensures c.id-in-Func.ensures) c.params.ensures) c.sign.ensures) c.type_name.ensures) c.function_body.ensures) (search rules)

pub returns-in-Atomic : goal.returns-in-Atomic
returns-in-Atomic c = same (then (then (then c.word-in-Atomic.ensures c.id-in-Atomic.ensures) c.params-in-Atomic.ensures) c.body_in_braces.ensures) (search rules)

pub returns-in-Network : goal.returns-in-Network
returns-in-Network c = same (then (then (then c.word-in-Network.ensures c.id-in-Network.ensures) c.params-in-Network.ensures) c.network.ensures) (search rules)

pub returns-in-Top : goal.returns-in-Top
returns-in-Top c = same (then (then c.word-in-Top.ensures c.call.ensures) c.sign-in-Top.ensures) (search rules)
