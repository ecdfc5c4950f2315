use Rattle.std.proofs.Common.{◌≡◌, true, inl, inr, not}
use Rattle.std.specs.List.{list_any}
use Rattle.dsde_values.specs.Path.{name_cmp}
use Rattle.dsde_structure.specs.declared.plan.Entry.{Entry}
use Rattle.dsde_structure.specs.Survival.{survives}
use Rattle.dsde_structure.proofs.Walking.{total, name_of}
use Rattle.dsde_structure.proofs.Splitting.{split-all, filter-within, split-never_both, sorted-filter, new-all, kept-within, fresh-never_kept}
use Rattle.dsde_structure.proofs.laws.comparison_is_a_split.Goals as goal

pub returns-clause-old : goal.returns-clause-old
returns-clause-old c olds news name = (
  split-all name_of name_cmp total (λ old. list_any (survives old) news) olds name,
  λ either. elim either [
    | inl in_gone ↦ filter-within name_of name_cmp total (λ old. not (list_any (survives old) news)) olds name in_gone
    | inr in_kept ↦ filter-within name_of name_cmp total (λ old. list_any (survives old) news) olds name in_kept
  ],
)

pub returns-clause-never_both : goal.returns-clause-never_both
returns-clause-never_both c olds news order name = split-never_both name_of name_cmp total (λ old. list_any (survives old) news) olds order name

pub returns-clause-new : goal.returns-clause-new
returns-clause-new c olds news name =
    let same_key = λ (x y : Entry) (h : survives x y ≡ true). ((c.survivors_keep_their_roles.ensures.exact x y).0 h).0 in (
      new-all name_of name_cmp total survives same_key olds news name,
      λ either. elim either [
        | inl in_fresh ↦ filter-within name_of name_cmp total (λ new. not (list_any (λ old. survives old new) olds)) news name in_fresh
        | inr in_kept ↦ kept-within name_of name_cmp total survives same_key olds news name in_kept
      ],
    )

pub returns-clause-fresh : goal.returns-clause-fresh
returns-clause-fresh c olds news order name =
    fresh-never_kept name_of name_cmp total survives (λ x y h. ((c.survivors_keep_their_roles.ensures.exact x y).0 h).0) olds news order name

pub returns-clause-order : goal.returns-clause-order
returns-clause-order c olds news old_order new_order = (
  sorted-filter name_of name_cmp total (λ old. not (list_any (survives old) news)) olds old_order,
  sorted-filter name_of name_cmp total (λ old. list_any (survives old) news) olds old_order,
  sorted-filter name_of name_cmp total (λ new. not (list_any (λ old. survives old new) olds)) news new_order,
)
