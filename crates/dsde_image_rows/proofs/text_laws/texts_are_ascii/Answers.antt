use Rattle.dsde_image_rows.proofs.Scripted.{name-ascii, texts-ascii}
use Rattle.dsde_image_rows.proofs.text_laws.texts_are_ascii.Goals as goal

pub returns-clause-names : goal.returns-clause-names
returns-clause-names c = λ model right number. name-ascii model (c.names_are_words.ensures.models model right) number

pub returns-clause-values : goal.returns-clause-values
returns-clause-values c = λ model right fields values fill. texts-ascii model (c.names_are_words.ensures.types model right) fields values fill
