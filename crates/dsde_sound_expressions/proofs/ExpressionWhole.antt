-- The law, by what is said of each expression.
use Rattle.dsde_language.specs.Agreement.{ExpressionsAgree}
use Rattle.dsde_sound_expressions.proofs.Trees.{expr-agreed}

pub expressions-agree : ExpressionsAgree
expressions-agree types coded whole functions around expr within serve calls proper =
    let own = expr-agreed types coded around whole functions within serve calls expr proper in
    record {
      ty = λ scope slots found h sees. (own.holds scope slots found h sees).ty;
      sound = λ scope slots found vars h sees fits. (own.holds scope slots found h sees).sound vars fits;
      reads = λ scope slots found vars start depth h sees fits stands least low. (own.holds scope slots found h sees).reads vars start depth fits stands least low;
    }
