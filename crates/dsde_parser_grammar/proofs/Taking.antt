-- What makes a step sound.
use Rattle.std.proofs.Common.{◌≡◌, ℕ, Bool, true, false, ◌&&◌, List, [], ◌∷◌, ◌++◌, map, refl, sym, ap, subst, ◌∙◌, append_assoc}
use Rattle.std.proofs.lemmas.List.{append-nil}
use Rattle.std.specs.List.{list_all}
use denote.Enum.Bare.{same_true}
use Rattle.dsde_words.specs.contracts.key.Key.{the_type as keys}
use Rattle.dsde_syntax.specs.contracts.token.Sign.{the_type as signs}
use Rattle.dsde_syntax.specs.declared.token.Tok.{Tok}
use Rattle.dsde_syntax.specs.declared.token.Tok.TheVariants as tok
use Rattle.dsde_words.specs.declared.key.Key.{Key}
use Rattle.dsde_syntax.specs.declared.token.Sign.{Sign}
use Rattle.dsde_syntax.specs.declared.id.Id.{Id}
use Rattle.dsde_syntax.specs.Grammar.{Tokens, word, mark}
use Rattle.dsde_parser_grammar.specs.Want.{Want}
use Rattle.dsde_parser_grammar.specs.Want as want
use Rattle.dsde_parser_grammar.specs.Steps.{Wants, Step, go, pass, halt, go_if, optional, repeated, followed, is_key, is_sign, name_step}
use Rattle.dsde_parser_grammar.proofs.Values.{Several, Value, spelled, Values, spells, Meets, spelled-same}

-- a step that takes its token: what meets the wants behind it has this property
abbrev pub Takes : (Tokens → Type 0) → Step → Type 0
Takes R (go wants) = (vs : Values wants) → R (spells wants vs)
Takes R pass = ⊥
Takes R halt = Unit {0}

-- the same, and where a step passes its token on
abbrev pub Sound : (Tokens → Type 0) → Type 0 → Step → Type 0
Sound R N (go wants) = (vs : Values wants) → R (spells wants vs)
Sound R N pass = N
Sound R N halt = Unit {0}

pub takes-sound : (R : Tokens → Type 0) (N : Type 0) (s : Step) → Takes R s → Sound R N s
takes-sound R N (go wants) own = own
takes-sound R N pass own = absurd own
takes-sound R N halt own = tt

pub optional-sound : (R : Tokens → Type 0) (N : Type 0) (s : Step) → Takes R s → N → Sound R N (optional s)
optional-sound R N (go wants) own none = own
optional-sound R N pass own none = none
optional-sound R N halt own none = none

pub go_if-takes : (R : Tokens → Type 0) (b : Bool) (wants : Wants) → (b ≡ true → (vs : Values wants) → R (spells wants vs)) → Takes R (go_if b wants)
go_if-takes R true wants own = own refl
go_if-takes R false wants own = tt

-- what meets wants behind wants
pub record Split (first rest : Wants) (tokens : Tokens) : Type 0 where
  pub front : Values first
  pub back : Values rest
  pub joins : spells first front ++ spells rest back ≡ tokens

pub split : (first rest : Wants) (vs : Values (first ++ rest)) → Split first rest (spells (first ++ rest) vs)
split [] rest vs = record { front = tt; back = vs; joins = refl }
split (a ∷ first) rest vs =
    let own = split first rest vs.1 in
    record { front = (vs.0, own.front); back = own.back; joins = append_assoc (spelled a vs.0) _ _ ∙ ap (λ more. spelled a vs.0 ++ more) own.joins }

pub followed-takes : (Q R : Tokens → Type 0) (s : Step) (more : Wants) → Takes Q s → ((u : Tokens) → Q u → (vs : Values more) → R (u ++ spells more vs)) → Takes R (followed s more)
followed-takes Q R (go wants) more own make =
    λ vs. let s = split wants more vs in subst R s.joins (make _ (own s.front) s.back)
followed-takes Q R pass more own make = tt
followed-takes Q R halt more own make = tt

pub repeated-sound : (R : Tokens → Type 0) (again : Want) (t : Tok) (s : Step) → Takes (λ u. R (t ∷ u)) s → ((u : Tokens) → R u → (v : Value again) → Meets again (u ++ spelled again v)) → Meets again [] → Sound (λ u. Meets again (t ∷ u)) (Meets again []) (repeated again s)
repeated-sound R again t (go wants) own make none =
    λ vs.
    let s = split wants (again ∷ []) vs in
    let e : spells wants s.front ++ spelled again s.back.0 ≡ spells (wants ++ again ∷ []) vs =
    ap (λ more. spells wants s.front ++ more) (sym (append-nil (spelled again s.back.0))) ∙ s.joins in
    spelled-same (ap (λ u. t ∷ u) e) (make (t ∷ spells wants s.front) (own s.front) s.back.0)
repeated-sound R again t pass own make none = none
repeated-sound R again t halt own make none = none

pub word-takes : (which : Key) (t : Tok) → Takes (λ u. Meets (want.word which) (t ∷ u)) (go_if (is_key which t) [])
word-takes which (tok.Key own) =
    go_if-takes (λ u. Meets (want.word which) (tok.Key own ∷ u)) (is_key which (tok.Key own)) [] (λ h vs. record { value = tt; spells = ap word (sym (same_true keys tt own which h)) })
word-takes which _ = tt

pub mark-takes : (which : Sign) (t : Tok) → Takes (λ u. Meets (want.mark which) (t ∷ u)) (go_if (is_sign which t) [])
mark-takes which (tok.Sign own) =
    go_if-takes (λ u. Meets (want.mark which) (tok.Sign own ∷ u)) (is_sign which (tok.Sign own)) [] (λ h vs. record { value = tt; spells = ap mark (sym (same_true signs tt own which h)) })
mark-takes which _ = tt

-- an identifier of this name
abbrev pub named : List ℕ → Id
named name = record { name = name; at = 0 }

pub name-takes : (t : Tok) → Takes (λ u. Meets want.name (t ∷ u)) (name_step t)
name-takes (tok.Ident name) = λ vs. record { value = named name; spells = refl }
name-takes _ = tt

-- tests

pub and-true : (a b : Bool) → (a && b) ≡ true → (a ≡ true) × (b ≡ true)
and-true true b h = (refl, h)
and-true false b h = cc

pub true-and : (a b : Bool) → a ≡ true → b ≡ true → (a && b) ≡ true
true-and true b h1 h2 = h2
true-and false b h1 h2 = cc

pub all-of-map : {A B : Type 0} (f : A → B) (p : B → Bool) (xs : List A) → list_all p (map f xs) ≡ true → list_all (λ x. p (f x)) xs ≡ true
all-of-map f p [] h = refl
all-of-map f p (x ∷ xs) h =
    let both = and-true (p (f x)) (list_all p (map f xs)) h in
    true-and (p (f x)) (list_all (λ x. p (f x)) xs) both.0 (all-of-map f p xs both.1)

abbrev pub no_more : {A B : Type 0} {own : A → B} {ok : B → Bool} → Several own ok
no_more {A} {B} {own} {ok} = record { items = []; all = refl }

abbrev pub one_more : {A B : Type 0} {own : A → B} {ok : B → Bool} (v : A) → ok (own v) ≡ true → Several own ok → Several own ok
one_more {A} {B} {own} {ok} v h vs = record { items = v ∷ vs.items; all = true-and (ok (own v)) (list_all ok (map own vs.items)) h vs.all }

-- lists one behind another, the last two first
pub three : (a b c : Tokens) → (a ++ b) ++ c ≡ a ++ (b ++ c)
three a b c = append_assoc a b c

pub four : (a b c d : Tokens) → ((a ++ b) ++ c) ++ d ≡ a ++ (b ++ (c ++ d))
four a b c d = simp append_assoc

pub five : (a b c d e : Tokens) → (((a ++ b) ++ c) ++ d) ++ e ≡ a ++ (b ++ (c ++ (d ++ e)))
five a b c d e = simp append_assoc
