-- How the steps of the grammar go over a list of tokens: from what is wanted before them to what is
-- wanted behind them. Nothing here knows the grammar.
use Rattle.std.proofs.Common.{◌≡◌, ℕ, ◌+◌, Bool, true, false, List, [], ◌∷◌, ◌++◌, map, Option, Some, None, refl, sym, ap, subst, ◌∙◌, append_assoc}
use Rattle.std.specs.Prelude.{flat_map}
use Rattle.dsde_syntax.specs.declared.token.Tok.{Tok}
use Rattle.dsde_syntax.specs.Grammar.{Tokens, joined}
use Rattle.dsde_parser_grammar.proofs.ListReads.{flat_map-joined}
use Rattle.dsde_parser_grammar.specs.Want.{Want}
use Rattle.dsde_parser_grammar.specs.Steps.{Wants, Step, go, pass, halt, step, may_end, onward, behind, stop}

-- whatever follows
abbrev pub any : Tokens → Bool
any ts = true

-- whatever is wanted further, and whatever follows that is fit to follow: the tokens lead from the
-- wants before them to those behind them
pub record Leads (fit : Tokens → Bool) (from to : Wants) (toks : Tokens) : Type 0 where
  pub goes : (more : Wants) (at : ℕ) (rest : Tokens) → fit rest ≡ true → (n : ℕ) × (stop (from ++ more) at (toks ++ rest) ≡ stop (to ++ more) n rest)

-- no tokens
pub nothing : (wants : Wants) → Leads any wants wants []
nothing wants = record { goes = λ more at rest fits. (at, refl) }

-- a token, and those behind it
pub take : {fit : Tokens → Bool} {from mid to : Wants} {ts : Tokens} (t : Tok) → Leads fit mid to ts → ((more : Wants) (at : ℕ) (rest : Tokens) → stop (from ++ more) at (t ∷ rest) ≡ stop (mid ++ more) (at + 1) rest) → Leads fit from to (t ∷ ts)
take {fit} {from} {mid} {to} {ts} t own turn = record {
  goes = λ more at rest fits.
      let there = own.goes more (at + 1) rest fits in
      (there.0, turn more at (ts ++ rest) ∙ there.1);
}

-- the last token
pub last : {from to : Wants} (t : Tok) → ((more : Wants) (at : ℕ) (rest : Tokens) → stop (from ++ more) at (t ∷ rest) ≡ stop (to ++ more) (at + 1) rest) → Leads any from to (t ∷ [])
last {from} {to} t turn = record { goes = λ more at rest fits. (at + 1, turn more at rest) }

-- the index behind some tokens
abbrev pub along : ℕ → Tokens → ℕ
along at [] = at
along at (t ∷ ts) = along (at + 1) ts

-- some tokens, and those behind them
pub takes : {fit : Tokens → Bool} {from mid to : Wants} {ts : Tokens} (front : Tokens) → Leads fit mid to ts → ((more : Wants) (at : ℕ) (rest : Tokens) → stop (from ++ more) at (front ++ rest) ≡ stop (mid ++ more) (along at front) rest) → Leads fit from to (front ++ ts)
takes {fit} {from} {mid} {to} {ts} front own turn = record {
  goes = λ more at rest fits.
      let there = own.goes more (along at front) rest fits in
      (there.0, ap (λ (toks : Tokens). stop (from ++ more) at toks) (append_assoc front ts rest) ∙ (turn more at (ts ++ rest) ∙ there.1));
}

-- the last tokens
pub lasts : {from to : Wants} (front : Tokens) → ((more : Wants) (at : ℕ) (rest : Tokens) → stop (from ++ more) at (front ++ rest) ≡ stop (to ++ more) (along at front) rest) → Leads any from to front
lasts {from} {to} front turn = record { goes = λ more at rest fits. (along at front, turn more at rest) }

-- one part behind another
pub pair : {fit1 fit2 : Tokens → Bool} {from mid to : Wants} {t1 t2 : Tokens} → Leads fit1 from mid t1 → Leads fit2 mid to t2 → ((rest : Tokens) → fit2 rest ≡ true → fit1 (t2 ++ rest) ≡ true) → Leads fit2 from to (t1 ++ t2)
pair {fit1} {fit2} {from} {mid} {to} {t1} {t2} first next follows = record {
  goes = λ more at rest fits.
      let here = first.goes more at (t2 ++ rest) (follows rest fits) in
      let there = next.goes more here.0 rest fits in
      (there.0, ap (λ (toks : Tokens). stop (from ++ more) at toks) (append_assoc t1 t2 rest) ∙ (here.1 ∙ there.1));
}

-- a part, and the token behind it
pub closed : {fit : Tokens → Bool} {from mid to : Wants} {ts : Tokens} (t : Tok) → Leads fit from mid ts → ((rest : Tokens) → fit (t ∷ rest) ≡ true) → ((more : Wants) (at : ℕ) (rest : Tokens) → stop (mid ++ more) at (t ∷ rest) ≡ stop (to ++ more) (at + 1) rest) → Leads any from to (ts ++ (t ∷ []))
closed t own fits turn = pair own (last t turn) (λ rest h. fits rest)

-- what is wanted further stays
pub beside : {fit : Tokens → Bool} {from to : Wants} {ts : Tokens} → Leads fit from to ts → (wants : Wants) → Leads fit (from ++ wants) (to ++ wants) ts
beside {fit} {from} {to} {ts} own wants = record {
  goes = λ more at rest fits.
      let there = own.goes (wants ++ more) at rest fits in
      (there.0, ap (λ (all : Wants). stop all at (ts ++ rest)) (append_assoc from wants more) ∙ (there.1 ∙ sym (ap (λ (all : Wants). stop all there.0 rest) (append_assoc to wants more))));
}

-- where less fits to follow
pub fewer : {fit : Tokens → Bool} {from to : Wants} {ts : Tokens} (less : Tokens → Bool) → ((rest : Tokens) → less rest ≡ true → fit rest ≡ true) → Leads fit from to ts → Leads less from to ts
fewer less h own = record { goes = λ more at rest fits. own.goes more at rest (h rest fits) }

-- other wants that go the same way at these tokens
pub turned : {fit : Tokens → Bool} {from same to : Wants} {ts : Tokens} → Leads fit same to ts → ((more : Wants) (at : ℕ) (rest : Tokens) → fit rest ≡ true → stop (from ++ more) at (ts ++ rest) ≡ stop (same ++ more) at (ts ++ rest)) → Leads fit from to ts
turned {fit} {from} {same} {to} {ts} own turn = record {
  goes = λ more at rest fits.
      let there = own.goes more at rest fits in
      (there.0, turn more at rest fits ∙ there.1);
}

abbrev is_pass : Step → Bool
is_pass (go wants) = false
is_pass pass = true
is_pass halt = false

-- a want is met by nothing where these tokens come
abbrev pub passed : Want → Tokens → Bool
passed want [] = may_end want
passed want (t ∷ ts) = is_pass (step want t)

passed-step : (own : Step) → is_pass own ≡ true → own ≡ pass
passed-step (go wants) h = cc
passed-step pass h = refl
passed-step halt h = cc

abbrev pub after : Option Wants → ℕ → Tokens → Option ℕ
after next at ts = elim next [ None ↦ Some at | Some wants ↦ stop wants (at + 1) ts ]

-- a want that is met by nothing is passed over
pub passed-over : (want : Want) (more : Wants) (at : ℕ) (ts : Tokens) → passed want ts ≡ true → stop (want ∷ more) at ts ≡ stop more at ts
passed-over want more at [] h = rw h refl
passed-over want more at (t ∷ ts) h = ap (λ (own : Step). after (onward own more (behind more t)) at ts) (passed-step (step want t) h)

-- a want that these tokens do not meet, before one that they do
pub skipped : {fit : Tokens → Bool} {from to : Wants} {ts : Tokens} (want : Want) → Leads fit from to ts → ((rest : Tokens) → fit rest ≡ true → passed want (ts ++ rest) ≡ true) → Leads fit (want ∷ from) to ts
skipped {fit} {from} {to} {ts} want own over =
    turned own (λ more at rest fits. passed-over want (from ++ more) at (ts ++ rest) (over rest fits))

-- a want that is met by nothing behind the tokens
pub ended : {fit : Tokens → Bool} {from to : Wants} {ts : Tokens} (less : Tokens → Bool) (want : Want) → Leads fit from (want ∷ to) ts → ((rest : Tokens) → less rest ≡ true → fit rest ≡ true) → ((rest : Tokens) → less rest ≡ true → passed want rest ≡ true) → Leads less from to ts
ended {fit} {from} {to} {ts} less want own h over = record {
  goes = λ more at rest fits.
      let there = own.goes more at rest (h rest fits) in
      (there.0, there.1 ∙ passed-over want (to ++ more) there.0 rest (over rest fits));
}

-- three parts, grouped to the left
pub left : {fit : Tokens → Bool} {from to : Wants} (t1 t2 t3 : Tokens) → Leads fit from to (t1 ++ (t2 ++ t3)) → Leads fit from to ((t1 ++ t2) ++ t3)
left {fit} {from} {to} t1 t2 t3 own = subst (λ (toks : Tokens). Leads fit from to toks) (sym (append_assoc t1 t2 t3)) own

-- each of some parts leads back to the same wants, and is fit to follow
abbrev pub AllLead : (Tokens → Bool) → Wants → List Tokens → Type 0
AllLead fit wants [] = Unit {0}
AllLead fit wants (t ∷ ts) = Leads fit wants wants t × ((rest : Tokens) → fit (t ++ rest) ≡ true) × AllLead fit wants ts

-- what follows a part of several: the next one, or what follows them all
pub fit_behind : (fit : Tokens → Bool) (wants : Wants) (ts : List Tokens) → AllLead fit wants ts → (rest : Tokens) → fit rest ≡ true → fit (joined ts ++ rest) ≡ true
fit_behind fit wants [] all rest h = h
fit_behind fit wants (t ∷ ts) all rest h = rw (append_assoc t (joined ts) rest) (all.1 (joined ts ++ rest))

-- several parts, one behind another
pub several : (fit : Tokens → Bool) (wants : Wants) (ts : List Tokens) → AllLead fit wants ts → Leads fit wants wants (joined ts)
several fit wants [] all = fewer fit (λ rest h. refl) (nothing wants)
several fit wants (t ∷ ts) all = pair all.0 (several fit wants ts all.2) (fit_behind fit wants ts all.2)

-- each of some parts is all that its wants ask for
abbrev pub AllPass : (Tokens → Bool) → Wants → List Tokens → Type 0
AllPass fit wants [] = Unit {0}
AllPass fit wants (t ∷ ts) = Leads fit wants [] t × AllPass fit wants ts

separated-all : (fit : Tokens → Bool) (item : Wants) (sep : Tok) (want : Want) → ((rest : Tokens) → fit (sep ∷ rest) ≡ true) → ((more : Wants) (at : ℕ) (rest : Tokens) → stop (want ∷ more) at (sep ∷ rest) ≡ stop (item ++ want ∷ more) (at + 1) rest) → (ts : List Tokens) → AllPass fit item ts → AllLead fit (want ∷ []) (map (λ own. (sep ∷ []) ++ own) ts)
separated-all fit item sep want fits turn [] all = tt
separated-all fit item sep want fits turn (t ∷ ts) all = (
  take sep (beside all.0 (want ∷ [])) (λ more at rest. turn more at rest ∙ sym (ap (λ (own : Wants). stop own (at + 1) rest) (append_assoc item (want ∷ []) more))),
  (λ rest. fits (t ++ rest)),
  separated-all fit item sep want fits turn ts all.1,
)

-- part {separator part}
pub separated : (fit : Tokens → Bool) (item : Wants) (sep : Tok) (want : Want) → ((rest : Tokens) → fit (sep ∷ rest) ≡ true) → ((more : Wants) (at : ℕ) (rest : Tokens) → stop (want ∷ more) at (sep ∷ rest) ≡ stop (item ++ want ∷ more) (at + 1) rest) → (t : Tokens) (ts : List Tokens) → AllPass fit item (t ∷ ts) → Leads fit (item ++ want ∷ []) (want ∷ []) (t ++ flat_map (λ own. (sep ∷ []) ++ own) ts)
separated fit item sep want fits turn t ts all =
    let parts = separated-all fit item sep want fits turn ts all.1 in
    let toks = map (λ (own : Tokens). (sep ∷ []) ++ own) ts in
    let both = pair (beside all.0 (want ∷ [])) (several fit (want ∷ []) toks parts) (fit_behind fit (want ∷ []) toks parts) in
    subst (λ (own : Tokens). Leads fit (item ++ want ∷ []) (want ∷ []) (t ++ own)) (flat_map-joined (λ own. (sep ∷ []) ++ own) ts) both

-- each of some parts leads from the same wants to the same wants
abbrev pub AllFrom : Wants → Wants → List Tokens → Type 0
AllFrom from mid [] = Unit {0}
AllFrom from mid (t ∷ ts) = Leads any from mid t × AllFrom from mid ts

alternated-all : (from mid : Wants) (sep : Tok) → ((more : Wants) (at : ℕ) (rest : Tokens) → stop (mid ++ more) at (sep ∷ rest) ≡ stop (from ++ more) (at + 1) rest) → (ts : List Tokens) → AllFrom from mid ts → AllLead any mid (map (λ own. (sep ∷ []) ++ own) ts)
alternated-all from mid sep turn [] all = tt
alternated-all from mid sep turn (t ∷ ts) all = (take sep all.0 turn, (λ rest. refl), alternated-all from mid sep turn ts all.1)

-- part {separator part}, where a separator leads back to the wants of a part
pub alternated : (from mid : Wants) (sep : Tok) → ((more : Wants) (at : ℕ) (rest : Tokens) → stop (mid ++ more) at (sep ∷ rest) ≡ stop (from ++ more) (at + 1) rest) → (t : Tokens) (ts : List Tokens) → AllFrom from mid (t ∷ ts) → Leads any from mid (t ++ flat_map (λ own. (sep ∷ []) ++ own) ts)
alternated from mid sep turn t ts all =
    let both = pair all.0 (several any mid (map (λ (own : Tokens). (sep ∷ []) ++ own) ts) (alternated-all from mid sep turn ts all.1)) (λ rest h. refl) in
    subst (λ (own : Tokens). Leads any from mid (t ++ own)) (flat_map-joined (λ own. (sep ∷ []) ++ own) ts) both
