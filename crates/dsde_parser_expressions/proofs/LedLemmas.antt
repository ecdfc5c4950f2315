-- How what is read one part after another leads from wants to wants.
use Rattle.std.proofs.Common.{◌≡◌, ℕ, ◌+◌, ◌++◌, Option, Some, None, Result, Ok, Err, sym, ap, subst, ◌∙◌}
use Rattle.std.specs.Prelude.{IfErr}
use Rattle.dsde_syntax.specs.declared.token.Tok.{Tok}
use Rattle.dsde_syntax.specs.Grammar.{Tokens}
use Rattle.dsde_parser_grammar.specs.Steps.{Wants, behind, stop}
use Rattle.dsde_parser_expressions.specs.declared.parser.ParseError.{ParseError}
use Rattle.dsde_parser_expressions.specs.declared.parser.ParseError.TheVariants as parse_error
use Rattle.dsde_parser_expressions.specs.Took.{Spot, TookOne}
use Rattle.dsde_parser_expressions.specs.Follows.{stop_at, StopsBy, Leads, Led}

-- a token that is taken leads to what is wanted behind it
pub taken-step : {here mid : Spot} {t : Tok} (wants next : Wants) → TookOne t here mid → behind wants t ≡ Some next → stop_at wants here ≡ stop_at next mid
taken-step {here} {mid} {t} wants next one h =
    ap (λ (ts : Tokens). stop wants here.0 ts) one.comes
    ∙ (ap (λ (next : Option Wants). elim next [ None ↦ Some here.0 | Some wants ↦ stop wants (here.0 + 1) mid.1 ]) h
    ∙ ap (λ (n : ℕ). stop next n mid.1) (sym one.next))

-- a refusal at the same stop
pub stops-from : (error : ParseError) (found own : Option ℕ) → found ≡ own → StopsBy error own → StopsBy error found
stops-from error found own h stops = subst (λ (found : Option ℕ). StopsBy error found) (sym h) stops

-- what is read from wants that stop where others do
pub leads-from : {A : Type 0} (from own to : Wants) (before after : Spot) (result : Result A ParseError) → ((s : Wants) → stop_at (from ++ s) before ≡ stop_at (own ++ s) before) → Leads own to before result after → Leads from to before result after
leads-from from own to before after (Ok value) same leads = λ s. same s ∙ leads s
leads-from from own to before after (Err error) same leads = λ s. stops-from error _ _ (same s) (leads s)

-- what is read behind wants that led here
pub leads-behind : {A : Type 0} (from own to : Wants) (before here after : Spot) (result : Result A ParseError) → Led from own before here → Leads own to here result after → Leads from to before result after
leads-behind from own to before here after (Ok value) led leads = λ s. led s ∙ leads s
leads-behind from own to before here after (Err error) led leads = λ s. stops-from error _ _ (led s) (leads s)

-- a refusal at the same stop, where only a refusal is spoken of
pub refused-from : {A : Type 0} (result : Result A ParseError) (found own : Option ℕ) → found ≡ own → IfErr result (λ error. StopsBy error own) → IfErr result (λ error. StopsBy error found)
refused-from (Ok value) found own h stops = tt
refused-from (Err error) found own h stops = stops-from error found own h stops

-- a refusal, by where the steps stop
pub refuses : {A : Type 0} (from to : Wants) (before after : Spot) (result : Result A ParseError) (error : ParseError) → result ≡ Err error → ((s : Wants) → StopsBy error (stop_at (from ++ s) before)) → Leads from to before result after
refuses from to before after (Ok value) error h stops = cc
refuses from to before after (Err own) error h stops =
    let same : own ≡ error = cc in
    λ s. subst (λ (e : ParseError). StopsBy e (stop_at (from ++ s) before)) (sym same) (stops s)

-- what leads on, where a result is refused for want of memory alone
pub boxed-leads : {A : Type 0} (from to : Wants) (before after : Spot) (result : Result A ParseError) → IfErr result (λ error. error ≡ parse_error.Memory) → Led from to before after → Leads from to before result after
boxed-leads from to before after (Ok value) memory led = led
boxed-leads from to before after (Err error) memory led = λ s. subst (λ (e : ParseError). StopsBy e (stop_at (from ++ s) before)) (sym memory) tt
