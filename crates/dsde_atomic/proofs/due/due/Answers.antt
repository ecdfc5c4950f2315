use Rattle.std.proofs.Common.{FitsSigned, ℤ, Result, Ok, Err, refl, subst, rules}
use Rattle.std.specs.Int.{w64}
use Rattle.std.proofs.lemmas.Int.{to_z-of_z}
use Rattle.dsde_values.specs.declared.value.Value.TheVariants as value
use Rattle.dsde_values.specs.declared.when.When.{When}
use Rattle.dsde_faults.specs.declared.end.EvalEnd.{EvalEnd}
use Rattle.dsde_language.specs.Outcome.{Gives}
use Rattle.dsde_atomic.specs.Steps.{due_by}
use Rattle.dsde_atomic.proofs.Bodies.{due-can, due-advance, due-end, due-late, due-next}
use Rattle.dsde_atomic.proofs.due.due.Goals as goal

pub returns-in-Ok-clause-gives : goal.returns-in-Ok-clause-gives
returns-in-Ok-clause-gives c = λ args state fits_args fits_state is.
    let fits : FitsSigned w64 c.in-Some.number = search rules in
    due-next c.args.program.now c.args.model c.code_of-code.result.now c.code_of-code.ensures c.args.env.now.slots c.requires.fits (Ok (value.Some (value.Int c.in-Some.number))) c.in-Some.ensures c.args.time
    args state fits_args fits_state is (value.Some (value.Int c.in-Some.number)) c.in-Ok.next refl (rw (c.in-Ok.is, to_z-of_z w64 c.in-Some.number fits) at c.after_number.ensures.gives)

pub returns-in-Err-clause-gives : goal.returns-in-Err-clause-gives
returns-in-Err-clause-gives c = λ args state fits_args fits_state is.
    let fits : FitsSigned w64 c.in-Some.number = search rules in
    rw c.at_site.ensures (due-late c.args.program.now c.args.model c.code_of-code.result.now c.code_of-code.ensures c.args.env.now.slots c.requires.fits (Ok (value.Some (value.Int c.in-Some.number))) c.in-Some.ensures c.args.time
    args state fits_args fits_state is (value.Some (value.Int c.in-Some.number)) c.in-Err.end refl
    (subst (λ (n : ℤ). Gives (due_by c.code_of-code.result.now.advance_at c.args.time (value.Some (value.Int n))) (let r : Result When EvalEnd = Err c.in-Err.end in r)) (to_z-of_z w64 c.in-Some.number fits)
    (rw c.in-Err.is at c.after_number.ensures.gives)))

pub eval-requires : goal.eval-requires
eval-requires c = due-can c.args.program.now c.args.model c.code_of-code.result.now c.code_of-code.ensures c.args.env.now.slots c.requires.fits

pub returns-in-Err-eval-clause-gives : goal.returns-in-Err-eval-clause-gives
returns-in-Err-eval-clause-gives c = λ args state fits_args fits_state is.
    rw c.at_site-in-Err-eval.ensures (due-end c.args.program.now c.args.model c.code_of-code.result.now c.code_of-code.ensures c.args.env.now.slots c.requires.fits c.eval.result c.eval.ensures.means c.args.time
    args state fits_args fits_state is c.in-Err-eval.end c.in-Err-eval.is)

pub after_advance-requires-clause-is : goal.after_advance-requires-clause-is
after_advance-requires-clause-is c =
    due-advance c.args.program.now c.args.model c.code_of-code.result.now c.code_of-code.ensures c.args.env.now.slots c.requires.fits c.eval.result c.eval.ensures.means c.args.time c.in-Ok-eval.advance c.in-Ok-eval.is

pub returns-in-Ok-after_advance-clause-gives : goal.returns-in-Ok-after_advance-clause-gives
returns-in-Ok-after_advance-clause-gives c = λ args state fits_args fits_state is.
    due-next c.args.program.now c.args.model c.code_of-code.result.now c.code_of-code.ensures c.args.env.now.slots c.requires.fits c.eval.result c.eval.ensures.means c.args.time
    args state fits_args fits_state is c.in-Ok-eval.advance c.in-Ok-after_advance.next c.in-Ok-eval.is (rw c.in-Ok-after_advance.is at c.after_advance.ensures.gives)

pub returns-clause-gives : goal.returns-clause-gives
returns-clause-gives c = λ args state fits_args fits_state is.
    rw c.at_site-in-Err-after_advance.ensures (due-late c.args.program.now c.args.model c.code_of-code.result.now c.code_of-code.ensures c.args.env.now.slots c.requires.fits c.eval.result c.eval.ensures.means c.args.time
    args state fits_args fits_state is c.in-Ok-eval.advance c.in-Err-after_advance.end c.in-Ok-eval.is (rw c.in-Err-after_advance.is at c.after_advance.ensures.gives))
