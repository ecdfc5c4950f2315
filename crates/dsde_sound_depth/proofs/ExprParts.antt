-- Each construct of an expression leaves what is open as it is where its parts do.
use Rattle.std.proofs.Common.{◌≡◌, ℕ, ◌+◌, ◌≤◌, Bool, true, false, List, [], ◌∷◌, ◌++◌, Option, Some, None, refl, arith}
use Rattle.std.specs.Prelude.{◌&&◌, max, nat_le}
use Rattle.std.specs.List.{list_all}
use Rattle.std.proofs.lemmas.Bool.Decides.{nat_tests}
use Rattle.dsde_syntax.specs.declared.token.Tok.{Tok}
use Rattle.dsde_syntax.specs.declared.token.Tok.TheVariants as tok
use Rattle.dsde_words.specs.declared.key.Key.{Key}
use Rattle.dsde_words.specs.declared.key.Key.TheVariants as key
use Rattle.dsde_syntax.specs.declared.token.Sign.{Sign}
use Rattle.dsde_syntax.specs.declared.token.Sign.TheVariants as sign
use Rattle.dsde_syntax.specs.declared.id.Id.{Id}
use Rattle.dsde_syntax.specs.declared.type_name.TypeName.{TypeName}
use Rattle.dsde_syntax.specs.declared.expr.Expr.TheOpen.{Expr-F, Suffix-F}
use Rattle.dsde_syntax.specs.Grammar.{Tokens, word, mark, optional, truth_tokens, in_braces, expr_step, suffix_step, expr_arm_step, field_set_step, sign_tail_step}
use Rattle.dsde_syntax.specs.Levels.{stands_at, level_if, has_first, all_hold, if_written, may_follow, is_comparison, is_sum_sign, is_mul_sign, is_builtin, level_step, suffix_level_step, expr_arm_level_step, field_set_level_step, sign_tail_level_step}
use Rattle.dsde_parser.specs.declared.depth.Last.{Last}
use Rattle.dsde_parser.specs.declared.depth.Last.TheVariants as last
use Rattle.dsde_parser.specs.Depth.{opened, behind_name, with_bracket}
use Rattle.dsde_sound_depth.proofs.Nests.{most, test_nest, nest_step, suffix_nest_step, arm_nest_step, set_nest_step, sign_tail_nest_step}
use Rattle.dsde_sound_depth.proofs.Going.{Goes, stay, step, one, one-to, before-is, join, here, colon, brace, Ends, other-ends, name-ends, closed}
use Rattle.dsde_sound_depth.proofs.Lists.{left-room, right-room, Whole, Part, plain, part-whole, AllParts, chain, Goes-on, elses-go, Listed, AllListed, commas-go, parens-go, brackets-go, record-go, else-go}
use Rattle.dsde_sound_depth.proofs.TypeGoes.{type-goes, angles-go}

-- both sides of a conjunction
pub record Both (a b : Bool) : Type 0 where
  pub left : a ≡ true
  pub right : b ≡ true

pub both : (a b : Bool) → (a && b) ≡ true → Both a b
both true b is = record { left = refl; right = is }
both false b is = cc

-- a node that stands somewhere has its parts where they may stand
pub level-is : (b : Bool) (own : ℕ) → stands_at 9 (level_if b own) ≡ true → b ≡ true
level-is true own is = refl
level-is false own is = cc

-- what may stand at a level is an expression
pub stands : (place : ℕ) → place ≤ 9 → (level : ℕ) → stands_at place level ≡ true → stands_at 9 level ≡ true
stands place less level is = more place less level is
  where
    more : (place : ℕ) → place ≤ 9 → (level : ℕ) → nat_le level place ≡ true → nat_le level 9 ≡ true
    more place less level is = grind (arith, nat_tests)

-- an expression of some level
pub record Good (level : ℕ) (tokens : Tokens) (nest : ℕ) : Type 0 where
  pub holds : stands_at 9 level ≡ true → Whole nest tokens

-- a part of the grammar
pub record GoodPart (ok : Bool) (tokens : Tokens) (nest : ℕ) : Type 0 where
  pub holds : ok ≡ true → Part nest tokens

-- a field of a new record
pub record GoodField (ok : Bool) (tokens : Tokens) (nest : ℕ) : Type 0 where
  pub holds : ok ≡ true → Listed last.Start nest tokens

-- a sign that opens and closes nothing, wherever an expression ended
abbrev pub IsQuiet : Sign → Type 0
IsQuiet which = (brackets : List ℕ) (conditions : ℕ) (before after : Last) → Ends before after → opened (here brackets conditions after) (tok.Sign which) ≡ here brackets conditions last.Other

-- a sign and what stands behind it, for each choice of signs
pub record GoodSigned (tail : Sign × ℕ) (tokens : Tokens) (nest : ℕ) : Type 0 where
  pub signed : (is_operator : Sign → Bool) (place : ℕ) → place ≤ 9 → ((which : Sign) → is_operator which ≡ true → (brackets : List ℕ) (conditions : ℕ) (after : Last) → opened (here brackets conditions after) (tok.Sign which) ≡ here brackets conditions last.Other) → may_follow is_operator place tail ≡ true → Part nest tokens

pub sum-quiet : (which : Sign) → is_sum_sign which ≡ true → (brackets : List ℕ) (conditions : ℕ) (after : Last) → opened (here brackets conditions after) (tok.Sign which) ≡ here brackets conditions last.Other
sum-quiet sign.Plus is brackets conditions after = refl
sum-quiet sign.Minus is brackets conditions after = refl
sum-quiet sign.PlusBar is brackets conditions after = refl
sum-quiet sign.MinusBar is brackets conditions after = refl
sum-quiet sign.PlusPlus is brackets conditions after = refl
sum-quiet _ is brackets conditions after = cc

pub mul-quiet : (which : Sign) → is_mul_sign which ≡ true → (brackets : List ℕ) (conditions : ℕ) (after : Last) → opened (here brackets conditions after) (tok.Sign which) ≡ here brackets conditions last.Other
mul-quiet sign.Star is brackets conditions after = refl
mul-quiet sign.Slash is brackets conditions after = refl
mul-quiet sign.Percent is brackets conditions after = refl
mul-quiet sign.StarBar is brackets conditions after = refl
mul-quiet _ is brackets conditions after = cc

less-quiet : IsQuiet sign.Less
less-quiet brackets conditions before last.Other ends = refl
less-quiet brackets conditions before last.RecordName ends = refl
less-quiet brackets conditions before last.FieldName ends = refl
less-quiet brackets conditions before last.TypeWord ends = absurd (no before ends)
  where
    no : (before : Last) → Ends before last.TypeWord → ⊥
    no last.New ends = ends
    no last.Start ends = ends
    no _ ends = ends
less-quiet brackets conditions before _ ends = refl

compare-quiet : (which : Sign) → is_comparison which ≡ true → IsQuiet which
compare-quiet sign.EqualEqual is brackets conditions before after ends = refl
compare-quiet sign.NotEqual is brackets conditions before after ends = refl
compare-quiet sign.Less is brackets conditions before after ends = less-quiet brackets conditions before after ends
compare-quiet sign.LessEqual is brackets conditions before after ends = refl
compare-quiet sign.Greater is brackets conditions before after ends = refl
compare-quiet sign.GreaterEqual is brackets conditions before after ends = refl
compare-quiet _ is brackets conditions before after ends = cc

-- a word behind which nothing of note stands
abbrev pub IsPlainWord : Key → Type 0
IsPlainWord which = (brackets : List ℕ) (conditions : ℕ) (before : Last) → opened (here brackets conditions before) (tok.Key which) ≡ here brackets conditions last.Other

builtin-plain : (which : Key) → is_builtin which ≡ true → IsPlainWord which
builtin-plain key.SomeOf is brackets conditions before = refl
builtin-plain key.Len is brackets conditions before = refl
builtin-plain key.Range is brackets conditions before = refl
builtin-plain key.Push is brackets conditions before = refl
builtin-plain key.Put is brackets conditions before = refl
builtin-plain key.Take is brackets conditions before = refl
builtin-plain key.Skip is brackets conditions before = refl
builtin-plain key.Min is brackets conditions before = refl
builtin-plain key.Max is brackets conditions before = refl
builtin-plain key.IsSome is brackets conditions before = refl
builtin-plain _ is brackets conditions before = cc

-- an expression that begins with a word or a sign of its own
alone : {tokens : Tokens} {nest : ℕ} → ((brackets : List ℕ) (conditions limit : ℕ) (before : Last) → conditions + nest ≤ limit → Goes limit (here brackets conditions before) tokens (here brackets conditions last.Other)) → Part nest tokens
alone own = record { goes = own }

-- a word, and an expression behind it
pub worded : {tokens : Tokens} {nest : ℕ} (which : Key) → IsPlainWord which → Whole nest tokens → Part nest (word which ++ tokens)
worded which quiet own = alone (λ brackets conditions limit before few. step (tok.Key which) (omega arith) (before-is (quiet brackets conditions before) (plain own brackets conditions limit few)))

-- an expression, a sign and another
sided : {t1 t2 : Tokens} {n1 n2 : ℕ} (which : Sign) → IsQuiet which → Whole n1 t1 → Whole n2 t2 → Whole (max n1 n2) (t1 ++ mark which ++ t2)
sided {t1} {t2} {n1} {n2} which quiet first second = record {
  goes = λ brackets conditions limit before room.
      let led = first.goes brackets conditions limit before (left-room conditions n1 n2 limit room) in
      let few : conditions ≤ limit = omega arith in
      let next = plain second brackets conditions limit (right-room conditions n1 n2 limit room) in
      record {
        after = last.Other;
        ends = other-ends before;
        goes = join (join led.goes (one-to (tok.Sign which) (quiet brackets conditions before led.after led.ends) few few)) next;
      };
}

-- an expression in brackets
enclosed : {tokens : Tokens} {nest : ℕ} → Whole nest tokens → (brackets : List ℕ) (conditions limit : ℕ) (before : Last) → conditions + nest ≤ limit → Goes-on limit (with_bracket brackets conditions) conditions before tokens
enclosed own brackets conditions limit before few =
    let led = own.goes (with_bracket brackets conditions) conditions limit before few in
    record { after = led.after; goes = led.goes }

-- "if" expr "{" expr "}"
conditional : {t1 t2 : Tokens} (n1 n2 : ℕ) → Whole n1 t1 → Whole n2 t2 → Part (max (n1 + 1) n2) (word key.If ++ t1 ++ in_braces t2)
conditional n1 n2 cond value = alone (λ brackets conditions limit before room.
    let few : conditions ≤ limit = omega arith in
    let more : conditions + (n1 + 1) ≤ limit = left-room conditions (n1 + 1) n2 limit room in
    let test = plain cond brackets (conditions + 1) limit (omega arith) in
    let inside = enclosed value brackets conditions limit last.Start (right-room conditions (n1 + 1) n2 limit room) in
    step (tok.Key key.If) few (join test (join (join (brace brackets (omega arith)) inside.goes) (closed brackets conditions inside.after sign.CloseBrace refl few))))

-- id ":" expr, behind what a field stands behind
set_value : {tokens : Tokens} {nest : ℕ} (name : Id) → Whole nest tokens → (brackets : List ℕ) (conditions limit : ℕ) → conditions + nest ≤ limit → Goes-on limit (with_bracket brackets conditions) conditions last.Start (tok.Ident name.name ∷ tok.Sign sign.Colon ∷ tokens)
set_value name own brackets conditions limit room =
    let few : conditions ≤ limit = omega arith in
    record {
      after = last.Other;
      goes = step (tok.Ident name.name) few (step (tok.Sign sign.Colon) few (plain own (with_bracket brackets conditions) conditions limit room));
    }

-- what stands between the list and the ":" of a comprehension: so many conditions are open behind it
pub record Test-led (limit : ℕ) (brackets : List ℕ) (conditions : ℕ) (tokens : Tokens) : Type 0 where
  pub more : ℕ
  pub few : more ≤ limit
  pub goes : Goes limit (here brackets conditions last.Other) tokens (here brackets more last.Other)

pub record Tested (tokens : Tokens) (nest : ℕ) : Type 0 where
  pub goes : (brackets : List ℕ) (conditions limit : ℕ) → conditions + nest ≤ limit → Test-led limit brackets conditions tokens

-- a node of two parts
module _ (l1 l2 : ℕ) (t1 t2 : Tokens) (n1 n2 : ℕ) (left : Good l1 t1 n1) (right : Good l2 t2 n2) where
  pub or_else-good : (at : ℕ) → Good (level_step (Expr-F.OrElse at l1 l2)) (expr_step (Expr-F.OrElse at t1 t2)) (nest_step (Expr-F.OrElse at n1 n2))
  or_else-good at = record {
    holds = λ level.
        let placed = both (stands_at 8 l1) (stands_at 8 l2) (level-is _ 9 level) in
        sided sign.QuestionQuestion (λ brackets conditions before after ends. refl) (left.holds (stands 8 (omega arith) l1 placed.left)) (right.holds (stands 8 (omega arith) l2 placed.right));
  }

  pub compare-good : (which : Sign) (at : ℕ) → Good (level_step (Expr-F.Compare which at l1 l2)) (expr_step (Expr-F.Compare which at t1 t2)) (nest_step (Expr-F.Compare which at n1 n2))
  compare-good which at = record {
    holds = λ level.
        let placed = both (is_comparison which && stands_at 4 l1) (stands_at 4 l2) (level-is _ 5 level) in
        let first = both (is_comparison which) (stands_at 4 l1) placed.left in
        sided which (compare-quiet which first.left) (left.holds (stands 4 (omega arith) l1 first.right)) (right.holds (stands 4 (omega arith) l2 placed.right));
  }

  -- "if" expr "{" expr "}"
  pub arm-good : GoodPart (expr_arm_level_step (record { cond = l1; value = l2 })) (expr_arm_step (record { cond = t1; value = t2 })) (arm_nest_step (record { cond = n1; value = n2 }))
  arm-good = record {
    holds = λ level.
        let placed = both (stands_at 9 l1) (stands_at 9 l2) level in
        conditional n1 n2 (left.holds placed.left) (right.holds placed.right);
  }

-- a node of one part
module _ (l : ℕ) (t : Tokens) (n : ℕ) (part : Good l t n) where
  pub not-good : (at : ℕ) → Good (level_step (Expr-F.Not at l)) (expr_step (Expr-F.Not at t)) (nest_step (Expr-F.Not at n))
  not-good at = record {
    holds = λ level. part-whole (worded key.Not (λ brackets conditions before. refl) (part.holds (stands 5 (omega arith) l (level-is _ 6 level))));
  }

  pub neg-good : (at : ℕ) → Good (level_step (Expr-F.Neg at l)) (expr_step (Expr-F.Neg at t)) (nest_step (Expr-F.Neg at n))
  neg-good at = record {
    holds = λ level. part-whole (alone (λ brackets conditions limit before few.
        step (tok.Sign sign.Minus) (omega arith) (plain (part.holds (stands 1 (omega arith) l (level-is _ 2 level))) brackets conditions limit few)));
  }

  pub paren-good : (at : ℕ) → Good (level_step (Expr-F.Paren at l)) (expr_step (Expr-F.Paren at t)) (nest_step (Expr-F.Paren at n))
  paren-good at = record {
    holds = λ level. part-whole (alone (λ brackets conditions limit before few.
        parens-go brackets before (omega arith) (enclosed (part.holds (level-is _ 0 level)) brackets conditions limit last.Other few)));
  }

  pub index-good : (at : ℕ) → GoodPart (suffix_level_step (Suffix-F.Index at l)) (suffix_step (Suffix-F.Index at t)) (suffix_nest_step (Suffix-F.Index at n))
  index-good at = record {
    holds = λ level. alone (λ brackets conditions limit before few.
        brackets-go brackets before (omega arith) (enclosed (part.holds level) brackets conditions limit last.Other few));
  }

  pub field-good : (name : Id) → GoodField (field_set_level_step (record { name = name; value = l })) (field_set_step (record { name = name; value = t })) (set_nest_step (record { name = name; value = n }))
  field-good name = record {
    holds = λ level. record {
      leads = λ brackets conditions limit few. set_value name (part.holds level) brackets conditions limit few;
      follows = λ brackets conditions limit few. set_value name (part.holds level) brackets conditions limit few;
    };
  }

  pub sign_tail-good : (which : Sign) (at : ℕ) → GoodSigned (sign_tail_level_step (record { sign = which; at = at; value = l })) (sign_tail_step (record { sign = which; at = at; value = t })) (sign_tail_nest_step (record { sign = which; at = at; value = n }))
  sign_tail-good which at = record {
    signed = λ is_operator place less quiet level.
        let placed = both (is_operator which) (stands_at place l) level in
        alone (λ brackets conditions limit before few.
        step (tok.Sign which) (omega arith) (before-is (quiet which placed.left brackets conditions before) (plain (part.holds (stands place less l placed.right)) brackets conditions limit few)));
  }

  -- a node of one part and several behind it
  pub or-good : (ls : List ℕ) (ts : List Tokens) (ns : List ℕ) → (list_all (stands_at 7) ls ≡ true → AllParts (λ value. word key.Or ++ value) ns ts)
      → Good (level_step (Expr-F.Or l ls)) (expr_step (Expr-F.Or t ts)) (nest_step (Expr-F.Or n ns))
  or-good ls ts ns more = record {
    holds = λ level.
        let placed = both (stands_at 7 l && has_first ls) (list_all (stands_at 7) ls) (level-is _ 8 level) in
        chain (part.holds (stands 7 (omega arith) l (both (stands_at 7 l) (has_first ls) placed.left).left)) (λ value. word key.Or ++ value) ns ts (more placed.right);
  }

  pub and-good : (ls : List ℕ) (ts : List Tokens) (ns : List ℕ) → (list_all (stands_at 6) ls ≡ true → AllParts (λ value. word key.And ++ value) ns ts)
      → Good (level_step (Expr-F.And l ls)) (expr_step (Expr-F.And t ts)) (nest_step (Expr-F.And n ns))
  and-good ls ts ns more = record {
    holds = λ level.
        let placed = both (stands_at 6 l && has_first ls) (list_all (stands_at 6) ls) (level-is _ 7 level) in
        chain (part.holds (stands 6 (omega arith) l (both (stands_at 6 l) (has_first ls) placed.left).left)) (λ value. word key.And ++ value) ns ts (more placed.right);
  }

  pub sum-good : (ls : List (Sign × ℕ)) (ts : List Tokens) (ns : List ℕ) → (list_all (may_follow is_sum_sign 3) ls ≡ true → AllParts (λ part. part) ns ts)
      → Good (level_step (Expr-F.Sum l ls)) (expr_step (Expr-F.Sum t ts)) (nest_step (Expr-F.Sum n ns))
  sum-good ls ts ns more = record {
    holds = λ level.
        let placed = both (stands_at 3 l && has_first ls) (list_all (may_follow is_sum_sign 3) ls) (level-is _ 4 level) in
        chain (part.holds (stands 3 (omega arith) l (both (stands_at 3 l) (has_first ls) placed.left).left)) (λ part. part) ns ts (more placed.right);
  }

  pub mul-good : (ls : List (Sign × ℕ)) (ts : List Tokens) (ns : List ℕ) → (list_all (may_follow is_mul_sign 2) ls ≡ true → AllParts (λ part. part) ns ts)
      → Good (level_step (Expr-F.Mul l ls)) (expr_step (Expr-F.Mul t ts)) (nest_step (Expr-F.Mul n ns))
  mul-good ls ts ns more = record {
    holds = λ level.
        let placed = both (stands_at 2 l && has_first ls) (list_all (may_follow is_mul_sign 2) ls) (level-is _ 3 level) in
        chain (part.holds (stands 2 (omega arith) l (both (stands_at 2 l) (has_first ls) placed.left).left)) (λ part. part) ns ts (more placed.right);
  }

  pub post-good : (ls : List Bool) (ts : List Tokens) (ns : List ℕ) → (all_hold ls ≡ true → AllParts (λ part. part) ns ts)
      → Good (level_step (Expr-F.Post l ls)) (expr_step (Expr-F.Post t ts)) (nest_step (Expr-F.Post n ns))
  post-good ls ts ns more = record {
    holds = λ level.
        let placed = both (stands_at 0 l && has_first ls) (all_hold ls) (level-is _ 1 level) in
        chain (part.holds (stands 0 (omega arith) l (both (stands_at 0 l) (has_first ls) placed.left).left)) (λ part. part) ns ts (more placed.right);
  }

  pub if-good : (at : ℕ) (ls : List Bool) (ts : List Tokens) (ns : List ℕ) → (all_hold ls ≡ true → AllParts (λ part. part) ns ts)
      → Good (level_step (Expr-F.If at ls l)) (expr_step (Expr-F.If at ts t)) (nest_step (Expr-F.If at ns n))
  if-good at ls ts ns arms = record {
    holds = λ level.
        let placed = both (has_first ls && all_hold ls) (stands_at 9 l) (level-is _ 0 level) in
        part-whole (alone (λ brackets conditions limit before room.
        let few : conditions ≤ limit = omega arith in
        let front = elses-go ns ts (arms (both (has_first ls) (all_hold ls) placed.left).right) brackets conditions limit before (left-room conditions (most ns) n limit room) in
        let other = enclosed (part.holds placed.right) brackets conditions limit last.Start (right-room conditions (most ns) n limit room) in
        join (join front.goes (one (tok.Key key.Else) few few)) (else-go brackets few other)));
  }

-- a node of a list of parts
module _ (ls : List ℕ) (ts : List Tokens) (ns : List ℕ) (parts : list_all (stands_at 9) ls ≡ true → AllListed last.Other ns ts) where
  pub call-good : (name : Id) → Good (level_step (Expr-F.Call name ls)) (expr_step (Expr-F.Call name ts)) (nest_step (Expr-F.Call name ns))
  call-good name = record {
    holds = λ level. part-whole (alone (λ brackets conditions limit before few.
        step (tok.Ident name.name) (omega arith) (parens-go brackets (behind_name before) (omega arith) (commas-go last.Other ns ts (parts (level-is _ 0 level)) brackets conditions limit few))));
  }

  pub builtin-good : (which : Key) (at : ℕ) → Good (level_step (Expr-F.Builtin which at ls)) (expr_step (Expr-F.Builtin which at ts)) (nest_step (Expr-F.Builtin which at ns))
  builtin-good which at = record {
    holds = λ level.
        let placed = both (is_builtin which) (list_all (stands_at 9) ls) (level-is _ 0 level) in
        part-whole (alone (λ brackets conditions limit before few.
        step (tok.Key which) (omega arith) (before-is (builtin-plain which placed.left brackets conditions before)
        (parens-go brackets last.Other (omega arith) (commas-go last.Other ns ts (parts placed.right) brackets conditions limit few)))));
  }

  pub list-good : (at : ℕ) → Good (level_step (Expr-F.List at ls)) (expr_step (Expr-F.List at ts)) (nest_step (Expr-F.List at ns))
  list-good at = record {
    holds = λ level.
        let placed = both (has_first ls) (list_all (stands_at 9) ls) (level-is _ 0 level) in
        part-whole (alone (λ brackets conditions limit before few.
        brackets-go brackets before (omega arith) (commas-go last.Other ns ts (parts placed.right) brackets conditions limit few)));
  }

pub new-good : (at : ℕ) (owner : Id) (ls : List Bool) (ts : List Tokens) (ns : List ℕ) → (all_hold ls ≡ true → AllListed last.Start ns ts)
    → Good (level_step (Expr-F.New at owner ls)) (expr_step (Expr-F.New at owner ts)) (nest_step (Expr-F.New at owner ns))
new-good at owner ls ts ns sets = record {
  holds = λ level.
      let placed = both (has_first ls) (all_hold ls) (level-is _ 0 level) in
      part-whole (alone (λ brackets conditions limit before room.
      let few : conditions ≤ limit = omega arith in
      step (tok.Key key.New) few (step (tok.Ident owner.name) few (record-go brackets few (commas-go last.Start ns ts (sets placed.right) brackets conditions limit room)))));
}

-- a token alone
token-whole : (own : Tok) → ((brackets : List ℕ) (conditions : ℕ) (before : Last) → opened (here brackets conditions before) own ≡ here brackets conditions last.Other) → Whole 0 (own ∷ [])
token-whole own quiet = part-whole (alone (λ brackets conditions limit before few. one-to own (quiet brackets conditions before) (omega arith) (omega arith)))

pub number-whole : (value : ℕ) → Whole 0 (tok.Int value ∷ [])
number-whole value = token-whole (tok.Int value) (λ brackets conditions before. refl)

pub truth-whole : (value : Bool) → Whole 0 (truth_tokens value)
truth-whole true = token-whole (tok.Key key.True) (λ brackets conditions before. refl)
truth-whole false = token-whole (tok.Key key.False) (λ brackets conditions before. refl)

pub elapsed-whole : Whole 0 (word key.Elapsed)
elapsed-whole = token-whole (tok.Key key.Elapsed) (λ brackets conditions before. refl)

pub name-whole : (id : Id) → Whole 0 (tok.Ident id.name ∷ [])
name-whole id = record {
  goes = λ brackets conditions limit before few. record {
    after = behind_name before;
    ends = name-ends before;
    goes = one (tok.Ident id.name) (omega arith) (omega arith);
  };
}

pub variant-whole : (owner variant : Id) → Whole 0 (tok.Ident owner.name ∷ tok.Sign sign.ColonColon ∷ tok.Ident variant.name ∷ [])
variant-whole owner variant = part-whole (alone (λ brackets conditions limit before room.
    let few : conditions ≤ limit = omega arith in
    step (tok.Ident owner.name) few (step (tok.Sign sign.ColonColon) few (one (tok.Ident variant.name) few few))))

-- `none` or `empty`, and a type
pub none-whole : (at : ℕ) (ty : TypeName) → Whole 0 (expr_step (Expr-F.NoneOf at ty))
none-whole at ty = part-whole (alone (λ brackets conditions limit before room.
    let few : conditions ≤ limit = omega arith in
    step (tok.Key key.NoneOf) few (angles-go (type-goes ty) brackets 0 conditions limit few)))

pub empty-whole : (at : ℕ) (ty : TypeName) → Whole 0 (expr_step (Expr-F.EmptyOf at ty))
empty-whole at ty = part-whole (alone (λ brackets conditions limit before room.
    let few : conditions ≤ limit = omega arith in
    step (tok.Key key.EmptyOf) few (angles-go (type-goes ty) brackets 0 conditions limit few)))

-- "." id | "!"
pub dot-part : (at : ℕ) (name : Id) → Part 0 (suffix_step (Suffix-F.Field at name))
dot-part at name = alone (λ brackets conditions limit before room.
    let few : conditions ≤ limit = omega arith in
    step (tok.Sign sign.Dot) few (one (tok.Ident name.name) few few))

pub unwrap-part : (at : ℕ) → Part 0 (suffix_step (Suffix-F.Unwrap at))
unwrap-part at = alone (λ brackets conditions limit before room.
    let few : conditions ≤ limit = omega arith in
    one (tok.Sign sign.Bang) few few)

-- a condition of a comprehension, which may be left out
pub record GoodTest (level : Option ℕ) (tokens : Option Tokens) (nest : Option ℕ) : Type 0 where
  pub holds : if_written (stands_at 9) level ≡ true → Tested (optional (λ test. word key.If ++ test) tokens) (test_nest nest)

pub no-test : GoodTest None None None
no-test = record { holds = λ level. record { goes = λ brackets conditions limit room. record { more = conditions; few = omega arith; goes = stay (omega arith) } } }

pub some-test : (l : ℕ) (t : Tokens) (n : ℕ) → Good l t n → GoodTest (Some l) (Some t) (Some n)
some-test l t n cond = record {
  holds = λ level. record {
    goes = λ brackets conditions limit room. record {
      more = conditions + 1;
      few = omega arith;
      goes = step (tok.Key key.If) (omega arith) (plain (cond.holds level) brackets (conditions + 1) limit (omega arith));
    };
  };
}

pub each-good : (at : ℕ) (name : Id) (l1 l2 : ℕ) (t1 t2 : Tokens) (n1 n2 : ℕ) (lc : Option ℕ) (tc : Option Tokens) (nc : Option ℕ)
    → Good l1 t1 n1 → GoodTest lc tc nc → Good l2 t2 n2
    → Good (level_step (Expr-F.Each at name l1 lc l2)) (expr_step (Expr-F.Each at name t1 tc t2)) (nest_step (Expr-F.Each at name n1 nc n2))
each-good at name l1 l2 t1 t2 n1 n2 lc tc nc list cond value = record {
  holds = λ level.
      let placed = both (stands_at 9 l1 && if_written (stands_at 9) lc) (stands_at 9 l2) (level-is _ 0 level) in
      let first = both (stands_at 9 l1) (if_written (stands_at 9) lc) placed.left in
      part-whole (alone (λ brackets conditions limit before room.
      let few : conditions ≤ limit = omega arith in
      let inside = right-room conditions n1 (max (test_nest nc) n2) limit room in
      let within : List ℕ = with_bracket brackets conditions in
      let test = (cond.holds first.right).goes within conditions limit (left-room conditions (test_nest nc) n2 limit inside) in
      let front = plain (list.holds first.left) within conditions limit (left-room conditions n1 (max (test_nest nc) n2) limit room) in
      let item = plain (value.holds placed.right) within conditions limit (right-room conditions (test_nest nc) n2 limit inside) in
      brackets-go brackets before few (record {
        after = last.Other;
        goes = step (tok.Key key.For) few (step (tok.Ident name.name) few (step (tok.Key key.In) few
            (join (join (join front test.goes) (colon brackets conditions test.few few)) item)));
      })));
}
