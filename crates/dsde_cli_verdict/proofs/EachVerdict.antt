-- Each text has a verdict.
use Rattle.std.proofs.Common.{◌≡◌, ◌≢◌, ℕ, zero, suc, ◌+◌, ◌≤◌, ◌<◌, ◌^◌, ◌⊎◌, inl, inr, List, length, take, Option, Some, None, Result, Ok, Err, refl, sym, subst, ◌∙◌, arith}
use Rattle.std.specs.Prelude.{All}
use Rattle.std.proofs.lemmas.Bool.{cases_order}
use Rattle.std.proofs.lemmas.List.{take_all, length-map}
use Rattle.std.proofs.lemmas.List.Elements.{All-map}
use Rattle.dsde_syntax.specs.declared.token.Token.{Token}
use Rattle.dsde_syntax.specs.declared.decl.Model.{Model}
use Rattle.dsde_syntax.specs.Spelling.{IsToken, HasToken}
use Rattle.dsde_syntax.specs.Grammar.{Tokens, tokens_of}
use Rattle.dsde_syntax.specs.Shape.{IsShaped}
use Rattle.dsde_lexer.specs.declared.lexer.LexError.{LexError}
use Rattle.dsde_lexer.specs.declared.lexer.LexError.TheVariants as lex_error
use Rattle.dsde_lexer.specs.Lines.{place_of}
use Rattle.dsde_lexer.specs.Tokens.{tokens}
use Rattle.dsde_parser_grammar.specs.Begins.{IsGrammatical, IsFirstWrong}
use Rattle.dsde_parser_grammar.specs.Steps.{start, stop}
use Rattle.dsde_parser.specs.declared.depth.Open.{Open}
use Rattle.dsde_parser.specs.Depth.{open_after, IsWithin, IsShallow, IsFirstDeep}
use Rattle.dsde_language.specs.declared.wrong.Wrong.{Wrong}
use Rattle.dsde_language.specs.Rules.{first_wrong}
use Rattle.dsde_cli_verdict.specs.declared.refusal.Refusal.{Refusal}
use Rattle.dsde_cli_verdict.specs.declared.refusal.Refusal.TheVariants as refusal
use Rattle.dsde_cli_verdict.specs.declared.refusal.ReadModel.{ReadModel}
use Rattle.dsde_cli_verdict.specs.declared.refusal.ReadModel.TheVariants as read_model
use Rattle.dsde_cli_verdict.specs.Verdict.{toks_of, Gives, IsSound, Offends, place_at, Refuses, IsVerdict}
use Rattle.dsde_cli_verdict.proofs.OffenceLemmas.{not_before}

-- tokens that stand nowhere too deep, or the first that does

at_most : (number most : ℕ) → (number ≤ most) ⊎ (most < number)
at_most number most = by_order (cases_order number most)
  where
    by_order : (number ≡ most) ⊎ ((number < most) ⊎ (most < number)) → (number ≤ most) ⊎ (most < number)
    by_order (inl same) = inl (omega arith)
    by_order (inr (inl less)) = inl (omega arith)
    by_order (inr (inr more)) = inr more

both_at_most : {one other one_most other_most : ℕ} → ((one ≤ one_most) × (other ≤ other_most)) ⊎ (¬ ((one ≤ one_most) × (other ≤ other_most)))
both_at_most {one} {other} {one_most} {other_most} = by (at_most one one_most) (at_most other other_most)
  where
    by : (one ≤ one_most) ⊎ (one_most < one) → (other ≤ other_most) ⊎ (other_most < other) → ((one ≤ one_most) × (other ≤ other_most)) ⊎ (¬ ((one ≤ one_most) × (other ≤ other_most)))
    by (inl first) (inl second) = inl (first, second)
    by (inl first) (inr more) = inr (λ both. absurd (omega (arith, both.1)))
    by (inr more) second = inr (λ both. absurd (omega (arith, both.0)))

within_or : (now : Open) → IsWithin now ⊎ (¬ (IsWithin now))
within_or now = both_at_most

none_within : (toks : Tokens) → IsWithin (open_after (take 0 toks))
unfolding open_after
none_within toks = (omega arith, omega arith)

-- nowhere among the first tokens more is open than may be
abbrev AreWithin : Tokens → ℕ → Type 0
AreWithin toks count = (n : ℕ) → n ≤ count → IsWithin (open_after (take n toks))

abbrev DeepAt : Tokens → Type 0
DeepAt toks = (at : ℕ) × IsFirstDeep toks at

one_more : (toks : Tokens) (count n : ℕ) → AreWithin toks count → IsWithin (open_after (take (count + 1) toks)) → n ≤ count + 1 → (n ≤ count) ⊎ (count < n) → IsWithin (open_after (take n toks))
one_more toks count n all here less (inl before) = all n before
one_more toks count n all here less (inr last) = let is : count + 1 ≡ n = omega arith in subst (λ (n : ℕ). IsWithin (open_after (take n toks))) is here

first_deep : (toks : Tokens) (count : ℕ) → count ≤ length toks → AreWithin toks count ⊎ DeepAt toks
first_deep toks zero less = inl (λ n h. let is : 0 ≡ n = omega arith in subst (λ (n : ℕ). IsWithin (open_after (take n toks))) is (none_within toks))
first_deep toks (suc count) less = step (first_deep toks count (omega arith))
  where
    step : AreWithin toks count ⊎ DeepAt toks → AreWithin toks (suc count) ⊎ DeepAt toks
    step (inr deep) = inr deep
    step (inl all) = behind (within_or (open_after (take (count + 1) toks)))
      where
        behind : IsWithin (open_after (take (count + 1) toks)) ⊎ (¬ (IsWithin (open_after (take (count + 1) toks)))) → AreWithin toks (suc count) ⊎ DeepAt toks
        behind (inl here) = inl (λ n h. one_more toks count n all here (omega arith) (at_most n count))
        behind (inr deep) = inr (count, record { within = omega arith; deep = deep; before = all })

shallow_or : (toks : Tokens) → IsShallow toks ⊎ DeepAt toks
shallow_or toks = of_all (first_deep toks (length toks) (omega arith))
  where
    at_end : AreWithin toks (length toks) → (n : ℕ) → (n ≤ length toks) ⊎ (length toks < n) → IsWithin (open_after (take n toks))
    at_end all n (inl less) = all n less
    at_end all n (inr more) =
        let whole : take (length toks) toks ≡ take n toks = take_all (length toks) toks (omega arith) ∙ sym (take_all n toks (omega arith)) in
        subst (λ (front : Tokens). IsWithin (open_after front)) whole (all (length toks) (omega arith))

    of_all : AreWithin toks (length toks) ⊎ DeepAt toks → IsShallow toks ⊎ DeepAt toks
    of_all (inl all) = inl (λ n. at_end all n (at_most n (length toks)))
    of_all (inr deep) = inr deep

-- what is known of the grammar: where nothing stops the steps the tokens are of it, where they stop
-- is the first wrong thing, and what is of it is a shaped model's
pub record Grammar : Type 0 where
  pub whole : (toks : Tokens) → All IsToken toks → stop start 0 toks ≡ None → IsGrammatical toks
  pub first : (toks : Tokens) (at : ℕ) → All IsToken toks → stop start 0 toks ≡ Some at → IsFirstWrong toks at
  pub shaped : (toks : Tokens) → IsGrammatical toks → length toks < 2 ^ 32 → (model : Model) × IsShaped model × (tokens_of model ≡ toks)

-- tokens give a model in which nothing is wrong, or one of them offends
abbrev IsDecided : Tokens → Type 0
IsDecided toks = ((model : Model) × IsSound toks model) ⊎ ((kind : Refusal) × ((at : ℕ) × Offends kind toks at))

checked : (toks : Tokens) (model : Model) (first : Option Wrong) → Gives toks model → first_wrong model ≡ first → IsDecided toks
checked toks model None gives is = inl (model, record { gives = gives; sound = is })
checked toks model (Some wrong) gives is = inr (refusal.Check wrong.kind, (wrong.at, record { model = model; gives = gives; first = is }))

-- the first wrong thing, or what is too deep before it
earlier : (toks : Tokens) (at deep : ℕ) → IsFirstWrong toks at → IsFirstDeep toks deep → (at ≤ deep) ⊎ (deep < at) → IsDecided toks
earlier toks at deep wrong first (inl less) = inr (refusal.Syntax, (at, (wrong, λ n h. first.before n (omega arith))))
earlier toks at deep wrong first (inr more) = inr (refusal.Nested, (deep, (first, λ other h own. not_before toks other at own wrong (omega arith))))

decided_by : Grammar → (toks : Tokens) (found : Option ℕ) → All IsToken toks → length toks < 2 ^ 32 → stop start 0 toks ≡ found → IsShallow toks ⊎ DeepAt toks → IsDecided toks
decided_by grammar toks None lawful few is (inl shallow) =
    let own = grammar.shaped toks (grammar.whole toks lawful is) few in
    checked toks own.0 (first_wrong own.0) (record { shaped = own.1; written = own.2; shallow = shallow }) refl
decided_by grammar toks None lawful few is (inr deep) = inr (refusal.Nested, (deep.0, (deep.1, λ wrong h own. own.whole (grammar.whole toks lawful is))))
decided_by grammar toks (Some at) lawful few is (inl shallow) = inr (refusal.Syntax, (at, (grammar.first toks at lawful is, λ n h. shallow n)))
decided_by grammar toks (Some at) lawful few is (inr deep) = earlier toks at deep.0 (grammar.first toks at lawful is) deep.1 (at_most at deep.0)

-- a text has a verdict
abbrev HasVerdict : List ℕ → Type 0
HasVerdict bytes = (verdict : Result Model ReadModel) × IsVerdict bytes verdict

refused_at : (bytes : List ℕ) (cut : List Token) (kind : Refusal) (at : ℕ) → tokens bytes ≡ Ok cut → Offends kind (toks_of cut) at → Refuses bytes kind (place_of bytes cut at).0 (place_of bytes cut at).1
refused_at bytes cut refusal.Syntax at is offence = record { cut = cut; lexed = is; at = at; offence = offence; place = refl }
refused_at bytes cut refusal.Nested at is offence = record { cut = cut; lexed = is; at = at; offence = offence; place = refl }
refused_at bytes cut (refusal.Check kind) at is offence = record { cut = cut; lexed = is; at = at; offence = offence; place = refl }
refused_at bytes cut refusal.BadByte at is offence = absurd offence
refused_at bytes cut refusal.BadNumber at is offence = absurd offence

of_tokens : (bytes : List ℕ) (cut : List Token) → tokens bytes ≡ Ok cut → IsDecided (toks_of cut) → HasVerdict bytes
of_tokens bytes cut is (inl (model, sound)) = (Ok model, record { cut = cut; lexed = is; sound = sound })
of_tokens bytes cut is (inr (kind, (at, offence))) =
    (Err (read_model.Refused kind (place_of bytes cut at).0 (place_of bytes cut at).1), refused_at bytes cut kind at is offence)

by_tokens :
    Grammar →
    ((bytes : List ℕ) (cut : List Token) → tokens bytes ≡ Ok cut → All HasToken cut) →
    ((bytes : List ℕ) (cut : List Token) → tokens bytes ≡ Ok cut → length cut ≤ 1_048_576) →
    ((bytes : List ℕ) → tokens bytes ≡ Err lex_error.TooLong → 1_048_576 < length bytes) →
    ((bytes : List ℕ) → tokens bytes ≢ Err lex_error.Memory) →
    (bytes : List ℕ) (answer : Result (List Token) LexError) → tokens bytes ≡ answer → HasVerdict bytes
by_tokens grammar good few long memory bytes (Ok cut) is =
    let toks = toks_of cut in
    let lawful : All IsToken toks = All-map IsToken (λ (token : Token). token.tok) cut (good bytes cut is) in
    let less : length toks < 2 ^ 32 = omega (arith, few bytes cut is, length-map cut (λ (token : Token). token.tok)) in
    of_tokens bytes cut is (decided_by grammar toks (stop start 0 toks) lawful less refl (shallow_or toks))
by_tokens grammar good few long memory bytes (Err lex_error.TooLong) is = (Err read_model.TooLong, long bytes is)
by_tokens grammar good few long memory bytes (Err (lex_error.BadByte offset)) is =
    (Err (read_model.Refused refusal.BadByte (place_at bytes offset).0 (place_at bytes offset).1), record { offset = offset; lexed = is; place = refl })
by_tokens grammar good few long memory bytes (Err (lex_error.BadNumber offset)) is =
    (Err (read_model.Refused refusal.BadNumber (place_at bytes offset).0 (place_at bytes offset).1), record { offset = offset; lexed = is; place = refl })
by_tokens grammar good few long memory bytes (Err lex_error.Memory) is = absurd (memory bytes is)

-- Each text has a verdict.
pub verdict :
    Grammar →
    ((bytes : List ℕ) (cut : List Token) → tokens bytes ≡ Ok cut → All HasToken cut) →
    ((bytes : List ℕ) (cut : List Token) → tokens bytes ≡ Ok cut → length cut ≤ 1_048_576) →
    ((bytes : List ℕ) → tokens bytes ≡ Err lex_error.TooLong → 1_048_576 < length bytes) →
    ((bytes : List ℕ) → tokens bytes ≢ Err lex_error.Memory) →
    (bytes : List ℕ) → HasVerdict bytes
verdict grammar good few long memory bytes = by_tokens grammar good few long memory bytes (tokens bytes) refl
