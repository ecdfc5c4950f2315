use Rattle.std.proofs.Common.{length, unwrap_or, ap, ◌∙◌}
use Rattle.dsde_program.specs.Behind.{no_top}
use Rattle.dsde_program.specs.declared.made.Made.{Made}
use Rattle.dsde_program.specs.declared.made.TopCode.{TopCode}
use Rattle.dsde_program.proofs.Decls.{functions-made, codes-made, makes-made, tables-made, model-made, args-made, codes-many, makes-many}
use Rattle.dsde_program.proofs.whole.laid_by.Goals as goal

pub returns-clause-tables : goal.returns-clause-tables
returns-clause-tables c = ap (λ (made : Made). made.tables) c.in_ok-functions.ensures ∙ tables-made c.args.known.now c.args.decls.now

pub returns-clause-functions : goal.returns-clause-functions
returns-clause-functions c = ap (λ (made : Made). made.functions) c.in_ok-functions.ensures ∙ functions-made c.args.known.now c.args.decls.now

pub returns-clause-codes : goal.returns-clause-codes
returns-clause-codes c = ap (λ (made : Made). made.codes) c.in_ok-functions.ensures ∙ codes-made c.args.known.now c.args.decls.now

pub returns-clause-makes : goal.returns-clause-makes
returns-clause-makes c = ap (λ (made : Made). made.makes) c.in_ok-functions.ensures ∙ makes-made c.args.known.now c.args.decls.now

pub returns-clause-top_model : goal.returns-clause-top_model
returns-clause-top_model c =
    ap (λ (top : TopCode). top.model) c.top_of-args.ensures
    ∙ (ap (λ (made : Made). (unwrap_or made.top no_top).model) c.in_ok-functions.ensures ∙ model-made c.args.known.now c.args.decls.now)

pub returns-clause-top_args : goal.returns-clause-top_args
returns-clause-top_args c =
    ap (λ (top : TopCode). top.args) c.top_of-args.ensures
    ∙ (ap (λ (made : Made). (unwrap_or made.top no_top).args) c.in_ok-functions.ensures ∙ args-made c.args.known.now c.args.decls.now)

pub returns-clause-many_codes : goal.returns-clause-many_codes
returns-clause-many_codes c = ap (λ (made : Made). length made.codes) c.in_ok-functions.ensures ∙ codes-many c.args.known.now c.args.decls.now

pub returns-clause-many_makes : goal.returns-clause-many_makes
returns-clause-many_makes c = ap (λ (made : Made). length made.makes) c.in_ok-functions.ensures ∙ makes-many c.args.known.now c.args.decls.now
