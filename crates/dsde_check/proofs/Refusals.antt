-- What is wrong with a test is what is wrong with what stands on it.
use Rattle.std.proofs.Common.{◌≡◌, Result, Ok, Err, sym, ap, subst}
use Rattle.dsde_language.specs.declared.known.Known.{Known}
use Rattle.dsde_language.specs.declared.wrong.Wrong.{Wrong}
use Rattle.dsde_language.specs.Steps.{◌>>=◌, Test}
use Rattle.dsde_check_bodies.specs.given.check_scope.error_CheckError.{CheckError}
use Rattle.dsde_check_bodies.specs.given.check_scope.error_CheckError_TheVariants as end_of
use Rattle.dsde_check_bodies.specs.given.check_scope.Says.{Says, Leaves}

-- in terms of the error alone
stops : (test : Test) (known after : Known) (error : CheckError) → Says test (Err error) → Leaves (test >>= (λ _. Ok known)) (Err error) after
stops test known after (end_of.Wrong kind at) says = ap (λ step. step >>= (λ _. Ok known)) says
stops test known after end_of.Memory says = tt

pub refused : (meant : Result Known Wrong) (test : Test) (known after : Known) (error : CheckError) (result : Result (Unit {0}) CheckError) → meant ≡ (test >>= (λ _. Ok known)) → Says test (Err error) → result ≡ Err error → Leaves meant result after
refused meant test known after error result is says gives =
    subst (λ own. Leaves meant own after) (sym gives)
    (subst (λ own. Leaves own (Err error) after) (sym is) (stops test known after error says))
