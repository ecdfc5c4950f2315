-- Where the steps of the grammar stop, whatever the grammar is.
use Rattle.std.proofs.Common.{◌≡◌, ℕ, zero, suc, ◌+◌, ◌-◌, ◌<◌, ◌≤◌, Bool, true, false, [], ◌∷◌, ◌++◌, length, take, Option, Some, None, sym, ap, ◌∙◌, arith}
use Rattle.std.specs.Prelude.{if◌then◌else◌}
use Rattle.dsde_syntax.specs.declared.token.Tok.{Tok}
use Rattle.dsde_syntax.specs.Grammar.{Tokens}
use Rattle.dsde_parser_grammar.specs.Steps.{Wants, all_may_end, behind, stop}
use Rattle.dsde_parser_grammar.proofs.Leading.{after}

some_one : (a b : ℕ) → Some a ≡ Some b → a ≡ b
some_one a b h = cc

-- the bounds of a stop
abbrev Within : ℕ → ℕ → Tokens → Type 0
Within at k ts = (at ≤ k) × (k ≤ at + length ts)

ended-within : (may : Bool) (at k : ℕ) → (if may then None else Some at) ≡ Some k → at ≡ k
ended-within true at k h = cc
ended-within false at k h = some_one at k h

after-within : (got : Option Wants) (at : ℕ) (t : Tok) (ts : Tokens) (k : ℕ) → ((next : Wants) → stop next (at + 1) ts ≡ Some k → Within (at + 1) k ts) → after got at ts ≡ Some k → Within at k (t ∷ ts)
after-within None at t ts k within h =
    let same : at ≡ k = some_one at k h in
    (omega arith, omega arith)
after-within (Some next) at t ts k within h =
    let there = within next h in
    let low : at + 1 ≤ k = there.0 in
    let high : k ≤ at + 1 + length ts = there.1 in
    (omega arith, omega arith)

-- a stop is at one of the tokens, or at their end
pub stop-within : (wants : Wants) (at : ℕ) (ts : Tokens) (k : ℕ) → stop wants at ts ≡ Some k → (at ≤ k) × (k ≤ at + length ts)
stop-within wants at [] k h = let same : at ≡ k = ended-within (all_may_end wants) at k h in (omega arith, omega arith)
stop-within wants at (t ∷ ts) k h = after-within (behind wants t) at t ts k (λ next. stop-within next (at + 1) ts k) h

after-halted : (got : Option Wants) (at n : ℕ) (ts : Tokens) → ((next : Wants) (m : ℕ) → stop next (at + 1) ts ≡ Some (at + 1 + m) → m < length ts → (more : Tokens) → stop next (at + 1) (take (suc m) ts ++ more) ≡ Some (at + 1 + m)) → after got at ts ≡ Some (at + n) → n < suc (length ts) → (more : Tokens) → after got at (take n ts ++ more) ≡ Some (at + n)
after-halted None at n ts halted h less more = h
after-halted (Some next) at zero ts halted h less more =
    let there = stop-within next (at + 1) ts (at + 0) h in
    absurd (omega (arith, there.0))
after-halted (Some next) at (suc m) ts halted h less more =
    let same : at + suc m ≡ at + 1 + m = omega arith in
    halted next m (h ∙ ap Some same) (omega arith) more ∙ ap Some (sym same)

stop-halted : (wants : Wants) (at : ℕ) (ts : Tokens) (n : ℕ) → stop wants at ts ≡ Some (at + n) → n < length ts → (more : Tokens) → stop wants at (take (suc n) ts ++ more) ≡ Some (at + n)
stop-halted wants at [] n h less more = absurd (omega arith)
stop-halted wants at (t ∷ ts) n h less more = after-halted (behind wants t) at n ts (λ next m. stop-halted next (at + 1) ts m) h (omega arith) more

-- a stop at a token does not depend on what follows it
pub stop-at-token : (wants : Wants) (at : ℕ) (ts : Tokens) (k : ℕ) → stop wants at ts ≡ Some k → k < at + length ts → (more : Tokens) → stop wants at (take (k - at + 1) ts ++ more) ≡ Some k
stop-at-token wants at ts k h less more =
    let within = stop-within wants at ts k h in
    let low : at ≤ k = within.0 in
    let same : k ≡ at + (k - at) = omega arith in
    let next : suc (k - at) ≡ k - at + 1 = omega arith in
    let there = stop-halted wants at ts (k - at) (h ∙ ap Some same) (omega arith) more in
    ap (λ (n : ℕ). stop wants at (take n ts ++ more)) (sym next) ∙ (there ∙ ap Some (sym same))

-- the same at the start of the tokens
pub stop-at-first : (wants : Wants) (ts : Tokens) (k : ℕ) → stop wants 0 ts ≡ Some k → k < length ts → (more : Tokens) → stop wants 0 (take (k + 1) ts ++ more) ≡ Some k
stop-at-first wants ts k h less more =
    let same : k - 0 + 1 ≡ k + 1 = omega arith in
    ap (λ (n : ℕ). stop wants 0 (take n ts ++ more)) (sym same) ∙ stop-at-token wants 0 ts k h (omega arith) more
