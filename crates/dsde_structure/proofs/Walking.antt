-- One step of the walk over an old and a new structure.
use Rattle.std.proofs.Common.{◌≡◌, ◌==◌, Bool, true, false, ◌&&◌, ◌||◌, not, cond, List, [], ◌∷◌, ◌++◌, refl, sym, ◌∙◌, ap, subst, length, append_assoc, append-nil, arith, rules}
use Rattle.std.specs.declared.cmp.Ordering.TheVariants.{Less, Equal, Greater}
use Rattle.std.specs.Cmp.{IsTotalOrder, Equal-is}
use Rattle.std.specs.Cmp.Rules.{comparing}
use Rattle.std.proofs.lemmas.Map.Keys.{sorted_head, sorted_tail}
use Rattle.dsde_values.specs.declared.name.Name.{Name}
use Rattle.dsde_values.specs.Path.{name_cmp}
use Rattle.dsde_values_equality.specs.Same.{are_same_values}
use Rattle.dsde_structure.specs.Gather.{is_same_name}
use Rattle.dsde_structure.specs.declared.plan.Entry.{Entry}
use Rattle.dsde_structure.specs.declared.plan.Change.{Change}
use Rattle.dsde_structure.specs.Survival.{survives, names, IsInOrder, compared, joined, met, gone, kept, fresh}
use Rattle.dsde_structure.proofs.Merging as merging

pub total : IsTotalOrder name_cmp
total = search (comparing, rules)

abbrev pub name_of : Entry → Name
name_of entry = entry.name

and_first : (x y : Bool) → (x && y) ≡ true → x ≡ true
and_first true y h = refl
and_first false y h = h

pub ties : (old new : Entry) → survives old new ≡ true → name_cmp old.name new.name ≡ Equal
ties old new h = (Equal-is (name_cmp old.name new.name)).0 (and_first (is_same_name old.name new.name) (old.model.0 == new.model.0) (and_first (is_same_name old.name new.name && old.model.0 == new.model.0) (new.soft || are_same_values old.args new.args) h))

empty : (es : List Entry) → length es ≡ 0 → es ≡ []
empty [] none = refl
empty (e ∷ es) none = absurd (omega arith)

-- what is left to be compared makes the whole, and is in order
abbrev pub Left : Change → List Entry → List Entry → Change → Type 0
Left change olds news whole = (joined change (compared olds news) ≡ whole) × IsInOrder olds × IsInOrder news

joined_assoc : (a b c : Change) → joined (joined a b) c ≡ joined a (joined b c)
joined_assoc a b c = λ i. record { gone = append_assoc a.gone b.gone c.gone i; kept = append_assoc a.kept b.kept c.kept i; fresh = append_assoc a.fresh b.fresh c.fresh i }

went : (change next first whole : Change) (olds news later rest : List Entry) →
    joined change (compared olds news) ≡ whole → compared olds news ≡ joined first (compared later rest) → next ≡ joined change first →
    joined next (compared later rest) ≡ whole
went change next first whole olds news later rest goes step is =
    ap (λ (c : Change). joined c (compared later rest)) is
    ∙ joined_assoc change first (compared later rest)
    ∙ ap (joined change) (sym step)
    ∙ goes

abbrev loses : Entry → Change
loses old = record { gone = old.name ∷ []; kept = []; fresh = [] }

abbrev gains : Entry → Change
gains new = record { gone = []; kept = []; fresh = new ∷ [] }

loses-is : (change : Change) (old : Entry) (others : List Name) → others ≡ change.gone ++ old.name ∷ [] →
    (let c : Change = record { gone = others; kept = change.kept; fresh = change.fresh } in c ≡ joined change (loses old))
loses-is change old others is = λ i. record { gone = is i; kept = sym (append-nil change.kept) i; fresh = sym (append-nil change.fresh) i }

gains-is : (change : Change) (new : Entry) (others : List Entry) → others ≡ change.fresh ++ new ∷ [] →
    (let c : Change = record { gone = change.gone; kept = change.kept; fresh = others } in c ≡ joined change (gains new))
gains-is change new others is = λ i. record { gone = sym (append-nil change.gone) i; kept = sym (append-nil change.kept) i; fresh = is i }

-- the old entries that are left, and no new one
pub went-old : (change whole : Change) (others : List Name) (olds news : List Entry) (old : Entry) (later : List Entry) →
    Left change olds news whole → olds ≡ old ∷ later → length news ≡ 0 → others ≡ change.gone ++ old.name ∷ [] →
    Left (record { gone = others; kept = change.kept; fresh = change.fresh }) later news whole
went-old change whole others olds news old later left is no_more told =
    let none : news ≡ [] = empty news no_more in
    let left : Left change (old ∷ later) news whole = subst (λ (es : List Entry). Left change es news whole) is left in
    let at_end : Left change (old ∷ later) [] whole = subst (λ (es : List Entry). Left change (old ∷ later) es whole) none left in
    let gone_on = went change _ (loses old) whole (old ∷ later) [] later [] at_end.0 refl (loses-is change old others told) in (
      subst (λ (es : List Entry). joined (record { gone = others; kept = change.kept; fresh = change.fresh }) (compared later es) ≡ whole) (sym none) gone_on,
      sorted_tail name_cmp old.name (names later) left.1,
      left.2,
    )

-- the new entries that are left, and no old one
pub went-new : (change whole : Change) (others : List Entry) (olds news : List Entry) (new : Entry) (rest : List Entry) →
    Left change olds news whole → length olds ≡ 0 → news ≡ new ∷ rest → others ≡ change.fresh ++ new ∷ [] →
    Left (record { gone = change.gone; kept = change.kept; fresh = others }) olds rest whole
went-new change whole others olds news new rest left no_more is told =
    let none : olds ≡ [] = empty olds no_more in
    let left : Left change olds (new ∷ rest) whole = subst (λ (es : List Entry). Left change olds es whole) is left in
    let at_end : Left change [] (new ∷ rest) whole = subst (λ (es : List Entry). Left change es (new ∷ rest) whole) none left in
    let gone_on = went change _ (gains new) whole [] (new ∷ rest) [] rest at_end.0 refl (gains-is change new others told) in (
      subst (λ (es : List Entry). joined (record { gone = change.gone; kept = change.kept; fresh = others }) (compared es rest) ≡ whole) (sym none) gone_on,
      left.1,
      sorted_tail name_cmp new.name (names rest) left.2,
    )

step-less : (old new : Entry) (later rest : List Entry) → IsInOrder (new ∷ rest) → name_cmp old.name new.name ≡ Less →
    compared (old ∷ later) (new ∷ rest) ≡ joined (loses old) (compared later (new ∷ rest))
step-less old new later rest order less =
    let after : merging.IsBefore name_cmp total old.name (names (new ∷ rest)) =
    (less, merging.before-less name_cmp total old.name new.name (names rest) less (sorted_head name_cmp new.name (names rest) order)) in
    λ i. record {
      gone = names (merging.first-gone name_cmp total name_of name_of survives ties old later (new ∷ rest) after i);
      kept = names (merging.first-kept name_cmp total name_of name_of survives ties old later (new ∷ rest) after i);
      fresh = merging.fresh-later name_cmp total name_of name_of survives ties old later (new ∷ rest) after i;
    }

step-greater : (old new : Entry) (later rest : List Entry) → IsInOrder (old ∷ later) → name_cmp old.name new.name ≡ Greater →
    compared (old ∷ later) (new ∷ rest) ≡ joined (gains new) (compared (old ∷ later) rest)
step-greater old new later rest order greater =
    let less : name_cmp new.name old.name ≡ Less = merging.greater-back name_cmp total old.name new.name greater in
    let after : merging.IsBefore name_cmp total new.name (names (old ∷ later)) =
    (less, merging.before-less name_cmp total new.name old.name (names later) less (sorted_head name_cmp old.name (names later) order)) in
    λ i. record {
      gone = names (merging.gone-later name_cmp total name_of name_of survives ties new rest (old ∷ later) after i);
      kept = names (merging.kept-later name_cmp total name_of name_of survives ties new rest (old ∷ later) after i);
      fresh = merging.first-fresh name_cmp total name_of name_of survives ties new (old ∷ later) rest after i;
    }

met-cases : (old new : Entry) (later rest : List Entry) (b : Bool) → survives old new ≡ b →
    (let c : Change = record { gone = names (cond (not b) (old ∷ gone later rest) (gone later rest)); kept = names (cond b (old ∷ kept later rest) (kept later rest)); fresh = cond (not b) (new ∷ fresh later rest) (fresh later rest) } in
    c ≡ joined (met old new) (compared later rest))
met-cases old new later rest true is = rw is refl
met-cases old new later rest false is = rw is refl

step-equal : (old new : Entry) (later rest : List Entry) → IsInOrder (old ∷ later) → IsInOrder (new ∷ rest) → name_cmp old.name new.name ≡ Equal →
    compared (old ∷ later) (new ∷ rest) ≡ joined (met old new) (compared later rest)
step-equal old new later rest old_order new_order tied =
    let after_old : merging.IsBefore name_cmp total old.name (names rest) =
    merging.before-tied name_cmp total old.name new.name (names rest) tied (sorted_head name_cmp new.name (names rest) new_order) in
    let after_new : merging.IsBefore name_cmp total new.name (names later) =
    merging.before-tied name_cmp total new.name old.name (names later)
    (merging.tied-back name_cmp total old.name new.name tied) (sorted_head name_cmp old.name (names later) old_order) in
    (λ i. record {
      gone = names (merging.both-gone name_cmp total name_of name_of survives ties old new later rest after_old after_new i);
      kept = names (merging.both-kept name_cmp total name_of name_of survives ties old new later rest after_old after_new i);
      fresh = merging.both-fresh name_cmp total name_of name_of survives ties old new later rest after_old after_new i;
    }) ∙ met-cases old new later rest (survives old new) refl

module _ (change whole : Change) (olds news : List Entry) (old : Entry) (later : List Entry) (new : Entry) (rest : List Entry)
    (left : Left change olds news whole) (is_olds : olds ≡ old ∷ later) (is_news : news ≡ new ∷ rest) where
  opened : Left change (old ∷ later) (new ∷ rest) whole
  opened = subst (λ (es : List Entry). Left change (old ∷ later) es whole) is_news (subst (λ (es : List Entry). Left change es news whole) is_olds left)

  pub went-less : (others : List Name) → name_cmp old.name new.name ≡ Less → others ≡ change.gone ++ old.name ∷ [] →
      Left (record { gone = others; kept = change.kept; fresh = change.fresh }) later news whole
  went-less others less told =
      subst (λ (es : List Entry). Left (record { gone = others; kept = change.kept; fresh = change.fresh }) later es whole) (sym is_news) (
        went change _ (loses old) whole (old ∷ later) (new ∷ rest) later (new ∷ rest) opened.0 (step-less old new later rest opened.2 less) (loses-is change old others told),
        sorted_tail name_cmp old.name (names later) opened.1,
        opened.2,
      )

  pub went-greater : (others : List Entry) → name_cmp old.name new.name ≡ Greater → others ≡ change.fresh ++ new ∷ [] →
      Left (record { gone = change.gone; kept = change.kept; fresh = others }) olds rest whole
  went-greater others greater told =
      subst (λ (es : List Entry). Left (record { gone = change.gone; kept = change.kept; fresh = others }) es rest whole) (sym is_olds) (
        went change _ (gains new) whole (old ∷ later) (new ∷ rest) (old ∷ later) rest opened.0 (step-greater old new later rest opened.1 greater) (gains-is change new others told),
        opened.1,
        sorted_tail name_cmp new.name (names rest) opened.2,
      )

  pub went-equal : (next : Change) → name_cmp old.name new.name ≡ Equal → next ≡ joined change (met old new) → Left next later rest whole
  went-equal next tied told = (
    went change next (met old new) whole (old ∷ later) (new ∷ rest) later rest opened.0 (step-equal old new later rest opened.1 opened.2 tied) told,
    sorted_tail name_cmp old.name (names later) opened.1,
    sorted_tail name_cmp new.name (names rest) opened.2,
  )
