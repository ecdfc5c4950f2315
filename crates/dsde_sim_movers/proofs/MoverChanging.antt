-- What a change keeps, drops and starts is what comparison says of the entries.
use Rattle.std.proofs.Common.{◌≡◌, ℕ, ◌+◌, ◌==◌, ◌||◌, ◌&&◌, not, Bool, true, false, cond, List, [], ◌∷◌, ◌++◌, map, Option, Some, None, Less, refl, sym, ◌∙◌, ap, is_eq}
use Rattle.std.proofs.lemmas.Map.Keys.{sorted_head, sorted_tail}
use Rattle.std.specs.Cmp.{IsTotalOrder}
use Rattle.std.specs.List.{AllByRecursion, filter, list_any}
use Rattle.std.specs.Ordering.{ordering_reverse}
use Rattle.std.specs.Prelude.{if◌then◌else◌}
use Rattle.dsde_values.specs.declared.name.Name.{Name}
use Rattle.dsde_values.specs.declared.path.Path.{Path}
use Rattle.dsde_values.specs.Path.{name_cmp}
use Rattle.dsde_sim_tree.specs.given.formalism.System.{System}
use Rattle.dsde_sim_tree.specs.given.structure.plan_Change.{Change}
use Rattle.dsde_sim_tree.specs.given.structure.plan_Entry.{Entry}
use Rattle.dsde_sim_tree.specs.given.values_equality.Same.{are_same_values}
use Rattle.dsde_sim_tree.specs.given.structure.Gather.{is_same_name}
use Rattle.dsde_sim_tree.specs.given.structure.Survival as entry
use Rattle.dsde_sim_tree.specs.given.structure.Survival.{AreInOrder, IsInOrder, compared, names}
use Rattle.dsde_sim_tree.specs.Told.{Told, told, telling, ◌then◌}
use Rattle.dsde_sim_tree.specs.declared.sim.Kid.{Kid}
use Rattle.dsde_sim_tree.specs.Move.{change, drop_of, gone, kept, left_behind, refilled, survives, take_named}
use Rattle.dsde_sim_tree.specs.Start.{Starter, start, started_kid}
use Rattle.dsde_sim_tree.specs.Tree.{entry_of, parts_of_kids, name_of}
use Rattle.dsde_sim_movers.specs.Changes.{changed_as, first_called, is_fresh, placed, placed_each, those_called}
use Rattle.dsde_sim_movers.specs.lemmas.Named.{same_name}
use Rattle.dsde_sim_movers.specs.lemmas.Seats.{if-false, if-true}
use Rattle.dsde_sim_movers.specs.lemmas.Steps.{then-assoc, then-same}
use Rattle.dsde_sim_movers.proofs.MoverMoving.{filter-same}

each-mapped : {X : Type 0} (f : X → Name) (P : Name → Type 0) (xs : List X) → AllByRecursion P (map f xs) → AllByRecursion (λ x. P (f x)) xs
each-mapped f P [] all = tt
each-mapped f P (x ∷ xs) all = (all.0, each-mapped f P xs all.1)

each-both : {X : Type 0} (P Q R : X → Type 0) → ((x : X) → P x → Q x → R x) → (xs : List X) → AllByRecursion P xs → AllByRecursion Q xs → AllByRecursion R xs
each-both P Q R gives [] one other = tt
each-both P Q R gives (x ∷ xs) one other = (gives x one.0 other.0, each-both P Q R gives xs one.1 other.1)

-- what is left of a list, by what its items stand for
filter-mapped : {X Y : Type 0} (f : X → Y) (g : Y → Name) (test : Y → Bool) (xs : List X) → map g (filter test (map f xs)) ≡ map (λ x. g (f x)) (filter (λ x. test (f x)) xs)
filter-mapped f g test [] = refl
filter-mapped f g test (x ∷ xs) = by (test (f x)) (filter-mapped f g test xs)
  where
    by : (here : Bool) → map g (filter test (map f xs)) ≡ map (λ x. g (f x)) (filter (λ x. test (f x)) xs) →
        map g (cond here (f x ∷ filter test (map f xs)) (filter test (map f xs))) ≡ map (λ x. g (f x)) (cond here (x ∷ filter (λ x. test (f x)) xs) (filter (λ x. test (f x)) xs))
    by true rest = ap (λ (own : List Name). g (f x) ∷ own) rest
    by false rest = rest

any-mapped : {X Y : Type 0} (f : X → Y) (test : Y → Bool) (xs : List X) → list_any test (map f xs) ≡ list_any (λ x. test (f x)) xs
any-mapped f test [] = refl
any-mapped f test (x ∷ xs) = ap (λ (rest : Bool). test (f x) || rest) (any-mapped f test xs)

module _ (total : IsTotalOrder name_cmp) where
  apart : (name other : Name) → name_cmp name other ≡ Less → is_same_name name other ≡ false
  apart name other less = ap is_eq less

  pub apart-back : (name other : Name) → name_cmp name other ≡ Less → is_same_name other name ≡ false
  apart-back name other less = ap is_eq (total.antisymm other name ∙ ap ordering_reverse less)

  -- among the names of those that pass a test is that of each that does
  module _ {X : Type 0} (f : X → Name) (test : X → Bool) where
    abbrev Later : Name → List X → Type 0
    Later name xs = AllByRecursion (λ x. name_cmp name (f x) ≡ Less) xs

    none-called : (name : Name) (xs : List X) → Later name xs → list_any (is_same_name name) (map f (filter test xs)) ≡ false
    none-called name [] less = refl
    none-called name (x ∷ xs) less = by (test x) (none-called name xs less.1)
      where
        by : (here : Bool) → list_any (is_same_name name) (map f (filter test xs)) ≡ false → list_any (is_same_name name) (map f (cond here (x ∷ filter test xs) (filter test xs))) ≡ false
        by true rest = ap (λ (one : Bool). one || list_any (is_same_name name) (map f (filter test xs))) (apart name (f x) less.0) ∙ rest
        by false rest = rest

    head-called : (x : X) (xs : List X) → Later (f x) xs → (here : Bool) → list_any (is_same_name (f x)) (map f (cond here (x ∷ filter test xs) (filter test xs))) ≡ here
    head-called x xs less true = ap (λ (one : Bool). one || list_any (is_same_name (f x)) (map f (filter test xs))) (same_name total (f x))
    head-called x xs less false = none-called (f x) xs less

    later-called : (x y : X) (xs : List X) → name_cmp (f x) (f y) ≡ Less → (here : Bool) →
        list_any (is_same_name (f y)) (map f (cond here (x ∷ filter test xs) (filter test xs))) ≡ list_any (is_same_name (f y)) (map f (filter test xs))
    later-called x y xs less true = ap (λ (one : Bool). one || list_any (is_same_name (f y)) (map f (filter test xs))) (apart-back (f x) (f y) less)
    later-called x y xs less false = refl

    pub each-called : (xs : List X) → AreInOrder (map f xs) → AllByRecursion (λ x. list_any (is_same_name (f x)) (map f (filter test xs)) ≡ test x) xs
    each-called [] order = tt
    each-called (x ∷ xs) order =
        let less = each-mapped f (λ name. name_cmp (f x) name ≡ Less) xs (sorted_head name_cmp (f x) (map f xs) order) in (
          head-called x xs less (test x),
          each-both (λ y. list_any (is_same_name (f y)) (map f (filter test xs)) ≡ test y) (λ y. name_cmp (f x) (f y) ≡ Less)
              (λ y. list_any (is_same_name (f y)) (map f (filter test (x ∷ xs))) ≡ test y)
              (λ y is before. later-called x y xs before (test x) ∙ is) xs (each-called xs (sorted_tail name_cmp (f x) (map f xs) order)) less,
        )

  -- the first of a name, and the others
  abbrev Fact : Name → List Kid → Option (Kid × List Kid) → Type 0
  Fact name kids None = first_called name kids ≡ None
  Fact name kids (Some taken) = (first_called name kids ≡ Some taken.0) × ((other : Name) → is_same_name name other ≡ false → first_called other taken.1 ≡ first_called other kids)

  module _ (exact : (name other : Name) → is_same_name name other ≡ true → name ≡ other) where
    skipped : (name other : Name) (kid : Kid) (kids : List Kid) → is_same_name (name_of kid) other ≡ false → first_called other (kid ∷ kids) ≡ first_called other kids
    skipped name other kid kids is = if-false (is_same_name (name_of kid) other) (Some kid) (first_called other kids) is

    take-by : (name : Name) (kid : Kid) (kids : List Kid) (here : Bool) → is_same_name (name_of kid) name ≡ here → (found : Option (Kid × List Kid)) → Fact name kids found →
        (let own : Option (Kid × List Kid) = if here then Some (kid, kids) else (elim found [ Some taken ↦ Some (taken.0, kid ∷ taken.1) | None ↦ None ]) in Fact name (kid ∷ kids) own)
    take-by name kid kids true is found fact = (
      if-true (is_same_name (name_of kid) name) (Some kid) (first_called name kids) is,
      λ other unlike. sym (skipped name other kid kids (ap (λ (n : Name). is_same_name n other) (exact (name_of kid) name is) ∙ unlike)),
    )
    take-by name kid kids false is (Some taken) fact = (
      skipped name name kid kids is ∙ fact.0,
      λ other unlike. λ i. if is_same_name (name_of kid) other then Some kid else fact.1 other unlike i,
    )
    take-by name kid kids false is None fact = skipped name name kid kids is ∙ fact

    take-fact : (name : Name) (kids : List Kid) → Fact name kids (take_named name kids)
    take-fact name [] = refl
    take-fact name (kid ∷ kids) = take-by name kid kids (is_same_name (name_of kid) name) refl (take_named name kids) (take-fact name kids)

    -- each entry has the first component of its name, or one that starts
    abbrev looked_each : Starter → List Entry → List Kid → Path → ℕ → ℕ → List Kid → Told (List Kid × ℕ)
    looked_each starter [] kids path time room done = told [] (done, room)
    looked_each starter (own ∷ entries) kids path time room done =
        placed starter own (first_called own.name kids) path time room then (λ one. looked_each starter entries kids path time one.1 (done ++ one.0 ∷ []))

    looked-same : (starter : Starter) (entries : List Entry) (kids others : List Kid) (path : Path) (time room : ℕ) (done : List Kid) →
        AllByRecursion (λ own. first_called own.name others ≡ first_called own.name kids) entries → looked_each starter entries others path time room done ≡ looked_each starter entries kids path time room done
    looked-same starter [] kids others path time room done same = refl
    looked-same starter (own ∷ entries) kids others path time room done same =
        ap (λ (found : Option Kid). placed starter own found path time room then (λ one. looked_each starter entries others path time one.1 (done ++ one.0 ∷ []))) same.0
        ∙ then-same (placed starter own (first_called own.name kids) path time room) _ _ (λ one. looked-same starter entries kids others path time one.1 (done ++ one.0 ∷ []) same.1)

    each-kept : (kids others : List Kid) (name : Name) → ((other : Name) → is_same_name name other ≡ false → first_called other others ≡ first_called other kids) → (list : List Entry) →
        AllByRecursion (λ one. name_cmp name one.name ≡ Less) list → AllByRecursion (λ one. first_called one.name others ≡ first_called one.name kids) list
    each-kept kids others name keeps [] less = tt
    each-kept kids others name keeps (one ∷ list) less = (keeps one.name (apart name one.name less.0), each-kept kids others name keeps list less.1)

    abbrev refill_by : Starter → Entry → List Kid → Path → ℕ → ℕ → Option (Kid × List Kid) → Told (Kid × List Kid × ℕ)
    refill_by starter own kids path time room found = elim found [
      | Some taken ↦ told [] (taken.0, taken.1, room)
      | None ↦ started_kid starter own path time room then (λ one. told [] (one.0, kids, one.1))
    ]

    pub refilled-looked : (starter : Starter) (entries : List Entry) (kids : List Kid) (path : Path) (time room : ℕ) (done : List Kid) → IsInOrder entries →
        refilled starter entries kids path time room done ≡ looked_each starter entries kids path time room done
    refilled-looked starter [] kids path time room done order = refl
    refilled-looked starter (own ∷ entries) kids path time room done order =
        by (λ others room done. refilled-looked starter entries others path time room done (sorted_tail name_cmp own.name (names entries) order)) (take_named own.name kids) (take-fact own.name kids)
      where
        unlike : AllByRecursion (λ one. name_cmp own.name one.name ≡ Less) entries
        unlike = each-mapped (λ one. one.name) (λ name. name_cmp own.name name ≡ Less) entries (sorted_head name_cmp own.name (names entries) order)

        by : ((others : List Kid) (room : ℕ) (done : List Kid) → refilled starter entries others path time room done ≡ looked_each starter entries others path time room done) →
            (found : Option (Kid × List Kid)) → Fact own.name kids found →
            (refill_by starter own kids path time room found then (λ one. refilled starter entries one.1 path time one.2 (done ++ one.0 ∷ [])))
            ≡ (placed starter own (first_called own.name kids) path time room then (λ one. looked_each starter entries kids path time one.1 (done ++ one.0 ∷ [])))
        by rest (Some taken) fact =
            rest taken.1 room (done ++ taken.0 ∷ [])
            ∙ looked-same starter entries kids taken.1 path time room (done ++ taken.0 ∷ []) (each-kept kids taken.1 own.name fact.1 entries unlike)
            ∙ ap (λ (found : Option Kid). placed starter own found path time room then (λ one. looked_each starter entries kids path time one.1 (done ++ one.0 ∷ []))) (sym fact.0)
        by rest None fact =
            then-assoc (started_kid starter own path time room) (λ one. told [] (one.0, kids, one.1)) (λ one. refilled starter entries one.1 path time one.2 (done ++ one.0 ∷ []))
            ∙ then-same (started_kid starter own path time room) _ _ (λ one. rest kids one.1 (done ++ one.0 ∷ []))
            ∙ ap (λ (found : Option Kid). placed starter own found path time room then (λ one. looked_each starter entries kids path time one.1 (done ++ one.0 ∷ []))) (sym fact)

    -- Of components and entries whose names are in order.
    abbrev S : Kid → Entry → Bool
    S kid own = entry.survives (entry_of kid) own

    unlike-fails : (kid : Kid) (own : Entry) → is_same_name (name_of kid) own.name ≡ false → S kid own ≡ false
    unlike-fails kid own is = λ i. (is i && (entry_of kid).model.0 == own.model.0) && (own.soft || are_same_values (entry_of kid).args own.args)

    none-survives : (kid : Kid) (name : Name) → is_same_name (name_of kid) name ≡ true → (entries : List Entry) → AllByRecursion (λ own. name_cmp name own.name ≡ Less) entries → list_any (S kid) entries ≡ false
    none-survives kid name is [] less = refl
    none-survives kid name is (own ∷ entries) less =
        (λ i. unlike-fails kid own (ap (λ (n : Name). is_same_name n own.name) (exact (name_of kid) name is) ∙ apart name own.name less.0) i || list_any (S kid) entries)
        ∙ none-survives kid name is entries less.1

    -- a component survives as the entry of its name or not at all
    one-entry : (kid : Kid) (entries : List Entry) → IsInOrder entries → AllByRecursion (λ own. is_same_name (name_of kid) own.name ≡ true → list_any (S kid) entries ≡ S kid own) entries
    one-entry kid [] order = tt
    one-entry kid (first ∷ entries) order =
        let less = each-mapped (λ (one : Entry). one.name) (λ name. name_cmp first.name name ≡ Less) entries (sorted_head name_cmp first.name (names entries) order) in (
          λ is. ap (λ (rest : Bool). S kid first || rest) (none-survives kid first.name is entries less) ∙ or-false (S kid first),
          each-both (λ own. is_same_name (name_of kid) own.name ≡ true → list_any (S kid) entries ≡ S kid own) (λ own. name_cmp first.name own.name ≡ Less)
              (λ own. is_same_name (name_of kid) own.name ≡ true → list_any (S kid) (first ∷ entries) ≡ S kid own)
              (λ own one before is.
              (λ i. unlike-fails kid first (ap (λ (n : Name). is_same_name n first.name) (exact (name_of kid) own.name is) ∙ apart-back first.name own.name before) i || list_any (S kid) entries) ∙ one is)
              entries (one-entry kid entries (sorted_tail name_cmp first.name (names entries) order)) less,
        )
      where
        or-false : (one : Bool) → (one || false) ≡ one
        or-false true = refl
        or-false false = refl

    each-entry : (entries : List Entry) → IsInOrder entries → (kids : List Kid) → AllByRecursion (λ own. AllByRecursion (λ kid. is_same_name (name_of kid) own.name ≡ true → survives entries kid ≡ S kid own) kids) entries
    each-entry entries order [] = none entries
      where
        none : (list : List Entry) → AllByRecursion (λ own. Unit {0}) list
        none [] = tt
        none (own ∷ list) = (tt, none list)
    each-entry entries order (kid ∷ kids) =
        each-both (λ own. is_same_name (name_of kid) own.name ≡ true → survives entries kid ≡ S kid own)
        (λ own. AllByRecursion (λ kid. is_same_name (name_of kid) own.name ≡ true → survives entries kid ≡ S kid own) kids)
        (λ own. AllByRecursion (λ kid. is_same_name (name_of kid) own.name ≡ true → survives entries kid ≡ S kid own) (kid ∷ kids))
        (λ own one others. (one, others)) entries (one-entry kid entries order) (each-entry entries order kids)

    module _ (own : Entry) (test : Kid → Bool) where
      abbrev Knows : List Kid → Type 0
      Knows kids = AllByRecursion (λ kid. is_same_name (name_of kid) own.name ≡ true → test kid ≡ S kid own) kids

      -- none of a later name is there
      none-later : (name : Name) → is_same_name name own.name ≡ true → (kids : List Kid) → AllByRecursion (λ kid. name_cmp name (name_of kid) ≡ Less) kids →
          (first_called own.name (filter test kids) ≡ None) × (list_any (λ kid. S kid own) kids ≡ false)
      none-later name is [] less = (refl, refl)
      none-later name is (kid ∷ kids) less =
          let rest = none-later name is kids less.1 in
          let other : is_same_name (name_of kid) own.name ≡ false = ap (is_same_name (name_of kid)) (sym (exact name own.name is)) ∙ apart-back name (name_of kid) less.0 in
          (by other (test kid) ∙ rest.0, (λ i. unlike-fails kid own other i || list_any (λ kid. S kid own) kids) ∙ rest.1)
        where
          by : is_same_name (name_of kid) own.name ≡ false → (here : Bool) → first_called own.name (cond here (kid ∷ filter test kids) (filter test kids)) ≡ first_called own.name (filter test kids)
          by other true = skipped own.name own.name kid (filter test kids) other
          by other false = refl

      pub found-kept : (kids : List Kid) → AreInOrder (map name_of kids) → Knows kids →
          first_called own.name (filter test kids) ≡ (if list_any (λ kid. S kid own) kids then first_called own.name kids else None)
      found-kept [] order knows = refl
      found-kept (kid ∷ kids) order knows = by (found-kept kids (sorted_tail name_cmp (name_of kid) (map name_of kids) order) knows.1) (is_same_name (name_of kid) own.name) refl
        where
          less : AllByRecursion (λ one. name_cmp (name_of kid) (name_of one) ≡ Less) kids
          less = each-mapped name_of (λ name. name_cmp (name_of kid) name ≡ Less) kids (sorted_head name_cmp (name_of kid) (map name_of kids) order)

          passes : (here : Bool) → is_same_name (name_of kid) own.name ≡ false → first_called own.name (cond here (kid ∷ filter test kids) (filter test kids)) ≡ first_called own.name (filter test kids)
          passes true other = skipped own.name own.name kid (filter test kids) other
          passes false other = refl

          here-is : is_same_name (name_of kid) own.name ≡ true → (stays : Bool) → test kid ≡ stays → S kid own ≡ stays →
              first_called own.name (cond stays (kid ∷ filter test kids) (filter test kids)) ≡ (if stays || list_any (λ kid. S kid own) kids then first_called own.name (kid ∷ kids) else None)
          here-is is true tested survived =
              if-true (is_same_name (name_of kid) own.name) (Some kid) (first_called own.name (filter test kids)) is
              ∙ sym (if-true (is_same_name (name_of kid) own.name) (Some kid) (first_called own.name kids) is)
          here-is is false tested survived =
              let none = none-later (name_of kid) is kids less in
              none.0 ∙ sym (if-false (list_any (λ kid. S kid own) kids) (first_called own.name (kid ∷ kids)) None none.1)

          by : first_called own.name (filter test kids) ≡ (if list_any (λ kid. S kid own) kids then first_called own.name kids else None) → (same : Bool) → is_same_name (name_of kid) own.name ≡ same →
              first_called own.name (filter test (kid ∷ kids)) ≡ (if list_any (λ kid. S kid own) (kid ∷ kids) then first_called own.name (kid ∷ kids) else None)
          by rest false other =
              passes (test kid) other
              ∙ rest
              ∙ (λ i. if list_any (λ kid. S kid own) kids then sym (skipped own.name own.name kid kids other) i else None)
              ∙ (λ i. if sym (unlike-fails kid own other) i || list_any (λ kid. S kid own) kids then first_called own.name (kid ∷ kids) else None)
          by rest true is =
              (λ i. first_called own.name (cond (knows.0 is i) (kid ∷ filter test kids) (filter test kids)))
              ∙ here-is is (S kid own) (knows.0 is) refl

    module _ (entries : List Entry) (kids : List Kid) (order : IsInOrder entries) (sorted : AreInOrder (map name_of kids)) where
      abbrev own_change : Change
      own_change = compared (map entry_of kids) entries

      -- the names of those that are dropped, and of those that stay
      gone-names : own_change.gone ≡ map name_of (gone entries kids)
      gone-names = filter-mapped entry_of (λ one. one.name) (λ old. not (list_any (entry.survives old) entries)) kids

      pub kept-names : own_change.kept ≡ map name_of (kept entries kids)
      kept-names = filter-mapped entry_of (λ one. one.name) (λ old. list_any (entry.survives old) entries) kids

      pub gone-called : those_called own_change.gone kids ≡ gone entries kids
      gone-called =
          ap (λ (own : List Name). those_called own kids) gone-names
          ∙ filter-same (λ kid. list_any (is_same_name (name_of kid)) (map name_of (gone entries kids))) (λ kid. not (survives entries kid)) kids
          (each-called name_of (λ kid. not (survives entries kid)) kids sorted)

      not-fresh : (one : Bool) (found : Option Kid) → (let own : Option Kid = if one then found else None in own ≡ (if not one then None else found))
      not-fresh true found = refl
      not-fresh false found = refl

      looked-fresh : AllByRecursion (λ own. first_called own.name (kept entries kids) ≡ (if is_fresh own_change own then None else first_called own.name kids)) entries
      looked-fresh =
          each-both (λ own. list_any (is_same_name own.name) (names own_change.fresh) ≡ not (list_any (λ old. entry.survives old own) (map entry_of kids)))
          (λ own. AllByRecursion (λ kid. is_same_name (name_of kid) own.name ≡ true → survives entries kid ≡ S kid own) kids)
          (λ own. first_called own.name (kept entries kids) ≡ (if is_fresh own_change own then None else first_called own.name kids))
          (λ own fresh knows.
          found-kept own (survives entries) kids sorted knows
          ∙ not-fresh (list_any (λ kid. S kid own) kids) (first_called own.name kids)
          ∙ (λ i. if sym (fresh ∙ ap not (any-mapped entry_of (λ old. entry.survives old own) kids)) i then None else first_called own.name kids))
          entries
          (each-called (λ (one : Entry). one.name) (λ new. not (list_any (λ old. entry.survives old new) (map entry_of kids))) entries order)
          (each-entry entries order kids)

      looked-placed : (starter : Starter) (list : List Entry) → AllByRecursion (λ own. first_called own.name (kept entries kids) ≡ (if is_fresh own_change own then None else first_called own.name kids)) list →
          (path : Path) (time room : ℕ) (done : List Kid) → looked_each starter list (kept entries kids) path time room done ≡ placed_each starter own_change list kids path time room done
      looked-placed starter [] are path time room done = refl
      looked-placed starter (own ∷ list) are path time room done =
          ap (λ (found : Option Kid). placed starter own found path time room then (λ one. looked_each starter list (kept entries kids) path time one.1 (done ++ one.0 ∷ []))) are.0
          ∙ then-same (placed starter own (if is_fresh own_change own then None else first_called own.name kids) path time room) _ _ (λ one. looked-placed starter list are.1 path time one.1 (done ++ one.0 ∷ []))

      pub change-compared : (system : System) (path : Path) (time room : ℕ) → change system entries kids path time room ≡ changed_as own_change system entries kids path time room
      change-compared system path time room =
          let starter = start system (left_behind path) in
          let all = room + parts_of_kids (gone entries kids) in
          ap (telling (map (drop_of path) (gone entries kids)))
          (refilled-looked starter entries (kept entries kids) path time all [] order ∙ looked-placed starter entries looked-fresh path time all [])
          ∙ (λ i. telling (map (drop_of path) (sym gone-called i)) (placed_each starter own_change entries kids path time (room + parts_of_kids (sym gone-called i)) []))
