-- What came before a token that cannot come begins a model.
use Rattle.std.proofs.Common.{◌≡◌, ℕ, suc, ◌+◌, Bool, true, false, if◌then◌else◌, [], ◌∷◌, ◌++◌, map, take, Option, Some, None, refl, sym, ap, subst, ◌∙◌, arith}
use Rattle.std.specs.Prelude.{All}
use Rattle.std.proofs.lemmas.List.{append-nil}
use Rattle.std.proofs.lemmas.List.Elements.{All-append, All-take}
use Rattle.dsde_syntax.specs.declared.token.Tok.{Tok}
use Rattle.dsde_syntax.specs.Grammar.{Tokens, joined, decl_tokens}
use Rattle.dsde_syntax.specs.Spelling.{IsToken}
use Rattle.dsde_syntax.specs.Levels.{is_decl}
use Rattle.dsde_parser_grammar.specs.Want.{Want}
use Rattle.dsde_parser_grammar.specs.Steps.{Wants, Step, go, pass, halt, step, may_end, all_may_end, onward, behind, stop, start}
use Rattle.dsde_parser_grammar.specs.Begins.{IsGrammatical, BeginsOne}
use Rattle.dsde_parser_grammar.proofs.Values.{Spelled, Values, spells, Meets, spelled-same}
use Rattle.dsde_parser_grammar.proofs.Taking.{Sound, split, and-true, all-of-map}
use Rattle.dsde_parser_grammar.proofs.Filling.{none, sound, all-filled}

-- these tokens meet some wants
abbrev MeetsAll : Wants → Tokens → Type 0
MeetsAll wants tokens = Spelled (spells wants) tokens

-- what meets the wants behind a token meets, with the token before it, those that were there
abbrev Follows : Wants → Tok → Wants → Type 0
Follows wants t next = (vs : Values next) → MeetsAll wants (t ∷ spells next vs)

onward-sound : (a : Want) (rest : Wants) (t : Tok) (s : Step) → Sound (λ u. Meets a (t ∷ u)) (Meets a []) s → (passed : Option Wants) → ((next : Wants) → passed ≡ Some next → Follows rest t next) → (next : Wants) → onward s rest passed ≡ Some next → Follows (a ∷ rest) t next
onward-sound a rest t (go wants) own passed more next h =
    let same : wants ++ rest ≡ next = cc in
    subst (Follows (a ∷ rest) t) same (λ vs.
    let s = split wants rest vs in
    let first = own s.front in
    let whole : MeetsAll (a ∷ rest) (t ∷ spells (wants ++ rest) vs) =
    record { value = (first.value, s.back); spells = ap (λ (u : Tokens). u ++ spells rest s.back) first.spells ∙ ap (λ (u : Tokens). t ∷ u) s.joins } in
    whole)
onward-sound a rest t pass own passed more next h =
    λ vs.
    let behind = more next h vs in
    let whole : MeetsAll (a ∷ rest) (t ∷ spells next vs) =
    record { value = (own.value, behind.value); spells = ap (λ (u : Tokens). u ++ spells rest behind.value) own.spells ∙ behind.spells } in
    whole
onward-sound a rest t halt own passed more next h = cc

behind-sound : (wants : Wants) (t : Tok) (next : Wants) → behind wants t ≡ Some next → Follows wants t next
behind-sound [] t next h = cc
behind-sound (a ∷ rest) t next h = onward-sound a rest t (step a t) (sound a t) (behind rest t) (behind-sound rest t) next h

-- wants that may all be met by nothing are
all-none : (wants : Wants) → all_may_end wants ≡ true → MeetsAll wants []
all-none [] h = record { value = tt; spells = refl }
all-none (a ∷ wants) h =
    let both = and-true (may_end a) (all_may_end wants) h in
    let own = none a both.0 in
    let rest = all-none wants both.1 in
    record { value = (own.value, rest.value); spells = ap (λ (u : Tokens). u ++ spells wants rest.value) own.spells ∙ rest.spells }

-- where the tokens behind one stop, by the wants behind it
abbrev stops_behind : Option Wants → ℕ → Tokens → Option ℕ
stops_behind o at ts = elim o [ None ↦ Some at | Some next ↦ stop next (at + 1) ts ]

-- where each token can come and nothing more is wanted, the tokens meet the wants
met-step : (wants : Wants) (t : Tok) (ts : Tokens) (at : ℕ) (o : Option Wants) → ((next : Wants) → o ≡ Some next → Follows wants t next) → ((next : Wants) (at : ℕ) → stop next at ts ≡ None → MeetsAll next ts) → stops_behind o at ts ≡ None → MeetsAll wants (t ∷ ts)
met-step wants t ts at None follows rest h = cc
met-step wants t ts at (Some next) follows rest h =
    let own = rest next (at + 1) h in
    spelled-same (ap (λ (u : Tokens). t ∷ u) own.spells) (follows next refl own.value)

met-end : (wants : Wants) (at : ℕ) (b : Bool) → all_may_end wants ≡ b → (if b then None else Some at) ≡ None → MeetsAll wants []
met-end wants at true e h = all-none wants e
met-end wants at false e h = cc

met : (ts : Tokens) (wants : Wants) (at : ℕ) → stop wants at ts ≡ None → MeetsAll wants ts
met [] wants at h = met-end wants at (all_may_end wants) refl h
met (t ∷ ts) wants at h = met-step wants t ts at (behind wants t) (behind-sound wants t) (met ts) h

-- some tokens before the end that `stop` tells meet the wants with lawful tokens behind them
record Begun (wants : Wants) (at last : ℕ) (ts : Tokens) : Type 0 where
  count : ℕ
  counts : at + count ≡ last
  more : Tokens
  lawful : All IsToken more
  whole : MeetsAll wants (take count ts ++ more)

-- no token need have come
begun-here : (wants : Wants) (at : ℕ) (ts : Tokens) → Begun wants at at ts
begun-here wants at ts =
    let all = all-filled wants in
    record { count = 0; counts = omega arith; more = spells wants all.values; lawful = all.lawful; whole = record { value = all.values; spells = refl } }

begun-step : (wants : Wants) (t : Tok) (ts : Tokens) (at last : ℕ) (o : Option Wants) → ((next : Wants) → o ≡ Some next → Follows wants t next) → ((next : Wants) (at last : ℕ) → stop next at ts ≡ Some last → Begun next at last ts) → stops_behind o at ts ≡ Some last → Begun wants at last (t ∷ ts)
begun-step wants t ts at last None follows rest h =
    let same : at ≡ last = cc in
    subst (λ last. Begun wants at last (t ∷ ts)) same (begun-here wants at (t ∷ ts))
begun-step wants t ts at last (Some next) follows rest h =
    let own = rest next (at + 1) last h in
    let counts = own.counts in
    record {
      count = suc own.count;
      counts = omega arith;
      more = own.more;
      lawful = own.lawful;
      whole = spelled-same (ap (λ (u : Tokens). t ∷ u) own.whole.spells) (follows next refl own.whole.value);
    }

begun-end : (wants : Wants) (at last : ℕ) (b : Bool) → (if b then None else Some at) ≡ Some last → Begun wants at last []
begun-end wants at last true h = cc
begun-end wants at last false h =
    let same : at ≡ last = cc in
    subst (λ last. Begun wants at last []) same (begun-here wants at [])

begun : (ts : Tokens) (wants : Wants) (at last : ℕ) → stop wants at ts ≡ Some last → Begun wants at last ts
begun [] wants at last h = begun-end wants at last (all_may_end wants) h
begun (t ∷ ts) wants at last h = begun-step wants t ts at last (behind wants t) (behind-sound wants t) (begun ts) h

-- what meets the wants at the start is a model
grammatical : (tokens : Tokens) → All IsToken tokens → MeetsAll start tokens → IsGrammatical tokens
grammatical tokens lawful own =
    let decls = own.value.0 in
    record {
      model = record { decls = decls.items };
      spells = sym (append-nil (joined (map decl_tokens decls.items))) ∙ own.spells;
      levels = all-of-map is_decl (λ holds. holds) decls.items decls.all;
      lawful = lawful;
    }

pub came-begins : (tokens : Tokens) (at : ℕ) → All IsToken tokens → stop start 0 tokens ≡ Some at → BeginsOne (take at tokens)
came-begins tokens at lawful h =
    let own = begun tokens start 0 at h in
    let counts = own.counts in
    let same : own.count ≡ at = omega arith in
    subst (λ (count : ℕ). BeginsOne (take count tokens)) same
    (record {
      more = own.more;
      whole = grammatical (take own.count tokens ++ own.more) (All-append IsToken (take own.count tokens) own.more (All-take IsToken own.count tokens lawful) own.lawful) own.whole;
    })

pub all-came : (tokens : Tokens) → All IsToken tokens → stop start 0 tokens ≡ None → IsGrammatical tokens
all-came tokens lawful h = grammatical tokens lawful (met tokens start 0 h)
