-- The walks over components and entries, step by step.
use Rattle.std.proofs.Common.{◌≡◌, ℕ, ◌+◌, ◌*◌, ◌≤◌, Bool, true, false, cond, not, List, [], ◌∷◌, ◌++◌, length, map, refl, sym, ◌∙◌, ap, subst, arith, append_assoc, append-nil, Option, Some, None, MatchOption}
use Rattle.std.specs.Prelude.{if◌then◌else◌}
use Rattle.std.specs.declared.cmp.Ordering.{Ordering}
use Rattle.std.specs.declared.cmp.Ordering.TheVariants.{Less, Equal, Greater}
use Rattle.std.specs.Ordering.{is_lt}
use Rattle.std.specs.List.{list_any, AllByRecursion}
use Rattle.std.proofs.lemmas.Map.Keys.{sorted_head, sorted_tail}
use Rattle.dsde_values.specs.declared.name.Name.{Name}
use Rattle.dsde_values.specs.Path.{name_cmp}
use Rattle.dsde_routes_wiring.specs.given.structure.plan_Entry.{Entry}
use Rattle.dsde_routes_wiring.specs.given.structure.Survival.{fresh, IsInOrder, names, survives as stays}
use Rattle.dsde_core_flat.specs.given.grove.Grove.{Grove, value_of}
use Rattle.dsde_sim_tree.specs.Tree.{entry_of}
use Rattle.dsde_sim_tree.specs.Move.{survives}
use Rattle.dsde_sim_changing.specs.Heads.{from_name}
use Rattle.dsde_routes_wiring.specs.declared.wiring.WiredKid.{WiredKid}
use Rattle.dsde_routes_wiring.specs.declared.wiring.WiredKid.TheViews.{out-WiredKid}
use Rattle.dsde_core_flat.specs.declared.spot.Spot.{Spot}
use Rattle.dsde_core_flat.specs.Shown.{kid_under}
use Rattle.dsde_core_flat.specs.lemmas.Apart.{name-shown}
use Rattle.dsde_core_moves.specs.Compared.{entries_of, is_first_entry, is_first_kid, kids_from, tests_of, IsHeld}
use Rattle.dsde_core_moves.proofs.Surviving.{decided, each-skip, from-order, is_head, ties, ties-back, unlike, unlike-skip}
use Rattle.dsde_core_moves.proofs.Holding.{stays-is}

-- nothing is left where nothing is found
pub match-none : {X : Type 0} (result : Option X) (N : Type 0) (P : X → Type 0) → MatchOption result N P → result ≡ None → N
match-none None N P is none = is
match-none (Some x) N P is none = absurd (cc none)

pub none-long : {X : Type 0} (items : List X) → length items ≡ 0 → items ≡ []
none-long [] is = refl
none-long (item ∷ items) is = absurd (omega (arith, is))

-- whether an entry survives as another, seen from either
abbrev forth : Entry → Entry → Bool
forth old new = stays old new

abbrev back : Entry → Entry → Bool
back new old = stays old new

module _ (own : Grove Spot) where
  abbrev entry_at : WiredKid → Entry
  entry_at kid = entry_of (kid_under (value_of own) kid)

  shown-case : (name : Name) (kid : WiredKid) (kids : List WiredKid) (order : Ordering) → entries_of own (kids_from name kids) ≡ from_name name (entries_of own kids) →
      entries_of own (if is_lt order then kids_from name kids else (kid ∷ kids)) ≡ (if is_lt order then from_name name (entries_of own kids) else (entry_at kid ∷ entries_of own kids))
  shown-case name kid kids Less later = later
  shown-case name kid kids Equal later = refl
  shown-case name kid kids Greater later = refl

  -- the entries of the components from a name on are those from that name on
  from-shown : (name : Name) (kids : List WiredKid) → entries_of own (kids_from name kids) ≡ from_name name (entries_of own kids)
  from-shown name [] = refl
  from-shown name (kid ∷ kids) =
      shown-case name kid kids (name_cmp (out-WiredKid kid).name name) (from-shown name kids)
      ∙ ap (λ (n : Name). if is_lt (name_cmp n name) then from_name name (entries_of own kids) else (entry_at kid ∷ entries_of own kids)) (sym (name-shown (value_of own) kid))

  held-case : (name : Name) (kid : WiredKid) (kids : List WiredKid) (order : Ordering) → AllByRecursion (IsHeld own) (kid ∷ kids) → AllByRecursion (IsHeld own) (kids_from name kids) →
      AllByRecursion (IsHeld own) (if is_lt order then kids_from name kids else (kid ∷ kids))
  held-case name kid kids Less held later = later
  held-case name kid kids Equal held later = held
  held-case name kid kids Greater held later = held

  from-held : (name : Name) (kids : List WiredKid) → AllByRecursion (IsHeld own) kids → AllByRecursion (IsHeld own) (kids_from name kids)
  from-held name [] held = held
  from-held name (kid ∷ kids) held = held-case name kid kids (name_cmp (out-WiredKid kid).name name) held (from-held name kids held.1)

  -- the tests of components are those of their entries
  tests-entries : (entries : List Entry) (kids : List WiredKid) → tests_of own entries kids ≡ map (λ old. list_any (forth old) entries) (entries_of own kids)
  tests-entries entries [] = refl
  tests-entries entries (kid ∷ kids) = ap (λ (bs : List Bool). survives entries (kid_under (value_of own) kid) ∷ bs) (tests-entries entries kids)

  entry-first : (kid : WiredKid) (entries : List Entry) → IsHeld own kid → is_head forth (entry_at kid) entries ≡ is_first_entry own kid entries
  entry-first kid [] held = refl
  entry-first kid (entry ∷ entries) held = sym (stays-is own kid entry held)

  kid-first : (entry : Entry) (kids : List WiredKid) → AllByRecursion (IsHeld own) kids → is_head back entry (entries_of own kids) ≡ is_first_kid own kids entry
  kid-first entry [] held = refl
  kid-first entry (kid ∷ kids) held = sym (stays-is own kid entry held.0)

  -- How far the components have been tested: these tests are made, and these components and entries are left.
  pub record Tested (entries : List Entry) (kids : List WiredKid) (first : ℕ) (tests : List Bool) (now : ℕ) (rest : List Entry) (left : List WiredKid) : Type 0 where
    pub whole : tests ++ tests_of own rest left ≡ tests_of own entries kids
    pub held : AllByRecursion (IsHeld own) left
    pub order : IsInOrder (entries_of own left)
    pub sorted : IsInOrder rest
    pub looks : now + 2 * length left ≤ first + 2 * length kids

  pub tested-first : (entries : List Entry) (kids : List WiredKid) (looks : ℕ) → AllByRecursion (IsHeld own) kids → IsInOrder (entries_of own kids) → IsInOrder entries → Tested entries kids looks [] looks entries kids
  tested-first entries kids looks held order sorted = record { whole = refl; held = held; order = order; sorted = sorted; looks = omega arith }

  module _ (entries : List Entry) (kids : List WiredKid) (first : ℕ) (tests : List Bool) (now : ℕ) (rest after : List Entry) (left : List WiredKid) (kid : WiredKid) (later : List WiredKid)
      (goes : Tested entries kids first tests now rest left) (is_left : left ≡ kid ∷ later) (is_after : after ≡ from_name (out-WiredKid kid).name rest) where
    here : Tested entries kids first tests now rest (kid ∷ later)
    here = subst (Tested entries kids first tests now rest) is_left goes

    after-is : after ≡ from_name (entry_at kid).name rest
    after-is = is_after ∙ ap (λ (n : Name). from_name n rest) (sym (name-shown (value_of own) kid))

    test-is : survives rest (kid_under (value_of own) kid) ≡ is_first_entry own kid after
    test-is = decided forth ties (entry_at kid) rest here.sorted ∙ ap (is_head forth (entry_at kid)) (sym after-is) ∙ entry-first kid after here.held.0

    later-same : tests_of own rest later ≡ tests_of own after later
    later-same =
        tests-entries rest later
        ∙ sym (each-skip forth ties (entry_at kid).name (entries_of own later) (sorted_head name_cmp (entry_at kid).name (names (entries_of own later)) here.order) rest)
        ∙ ap (λ (es : List Entry). map (λ old. list_any (forth old) es) (entries_of own later)) (sym after-is)
        ∙ sym (tests-entries after later)

    pub tested-next : (more : List Bool) (looks : ℕ) → more ≡ tests ++ is_first_entry own kid after ∷ [] → looks ≤ now + 2 → Tested entries kids first more looks after later
    tested-next more looks is_more few = record {
      whole =
          ap (λ (bs : List Bool). bs ++ tests_of own after later) is_more
          ∙ append_assoc tests (is_first_entry own kid after ∷ []) (tests_of own after later)
          ∙ (λ i. tests ++ sym test-is i ∷ sym later-same i)
          ∙ here.whole;
      held = here.held.1;
      order = sorted_tail name_cmp (entry_at kid).name (names (entries_of own later)) here.order;
      sorted = subst IsInOrder (sym after-is) (from-order (entry_at kid).name rest here.sorted);
      looks = let e : now + 2 * length (kid ∷ later) ≤ first + 2 * length kids = here.looks in omega (arith, e, few);
    }

  pub tested-all : (entries : List Entry) (kids : List WiredKid) (first : ℕ) (tests : List Bool) (now : ℕ) (rest : List Entry) (left : List WiredKid) → left ≡ [] → Tested entries kids first tests now rest left →
      tests ≡ tests_of own entries kids
  tested-all entries kids first tests now rest left none goes =
      let all : Tested entries kids first tests now rest [] = subst (Tested entries kids first tests now rest) none goes in
      sym (append-nil tests) ∙ all.whole

  -- How far the entries have been sifted: these are fresh, and these entries and components are left.
  pub record Sifted (kids : List WiredKid) (entries : List Entry) (first : ℕ) (list : List Entry) (now : ℕ) (left : List WiredKid) (rest : List Entry) : Type 0 where
    pub whole : list ++ fresh (entries_of own left) rest ≡ fresh (entries_of own kids) entries
    pub held : AllByRecursion (IsHeld own) left
    pub order : IsInOrder (entries_of own left)
    pub sorted : IsInOrder rest
    pub looks : now + 2 * length rest ≤ first + 2 * length entries

  pub sifted-first : (kids : List WiredKid) (entries : List Entry) (looks : ℕ) → AllByRecursion (IsHeld own) kids → IsInOrder (entries_of own kids) → IsInOrder entries → Sifted kids entries looks [] looks kids entries
  sifted-first kids entries looks held order sorted = record { whole = refl; held = held; order = order; sorted = sorted; looks = omega arith }

  module _ (kids : List WiredKid) (entries : List Entry) (first : ℕ) (list : List Entry) (now : ℕ) (left after : List WiredKid) (rest : List Entry) (entry : Entry) (later : List Entry)
      (goes : Sifted kids entries first list now left rest) (is_rest : rest ≡ entry ∷ later) (is_after : after ≡ kids_from entry.name left) where
    sifts : Sifted kids entries first list now left (entry ∷ later)
    sifts = subst (Sifted kids entries first list now left) is_rest goes

    olds-after : entries_of own after ≡ from_name entry.name (entries_of own left)
    olds-after = ap (entries_of own) is_after ∙ from-shown entry.name left

    held-after : AllByRecursion (IsHeld own) after
    held-after = subst (AllByRecursion (IsHeld own)) (sym is_after) (from-held entry.name left sifts.held)

    found-is : list_any (back entry) (entries_of own left) ≡ is_first_kid own after entry
    found-is = decided back ties-back entry (entries_of own left) sifts.order ∙ ap (is_head back entry) (sym olds-after) ∙ kid-first entry after held-after

    others-same : fresh (entries_of own left) later ≡ fresh (entries_of own after) later
    others-same =
        sym (unlike-skip back ties-back entry.name later (sorted_head name_cmp entry.name (names later) sifts.sorted) (entries_of own left))
        ∙ ap (λ (es : List Entry). unlike back es later) (sym olds-after)

    sifted-here : fresh (entries_of own left) (entry ∷ later) ≡ cond (not (is_first_kid own after entry)) (entry ∷ fresh (entries_of own after) later) (fresh (entries_of own after) later)
    sifted-here = λ i. cond (not (found-is i)) (entry ∷ others-same i) (others-same i)

    by-test : (b : Bool) (more : List Entry) → is_first_kid own after entry ≡ b → more ≡ cond (not b) (list ++ entry ∷ []) list → more ++ fresh (entries_of own after) later ≡ list ++ fresh (entries_of own left) (entry ∷ later)
    by-test true more is is_more =
        ap (λ (es : List Entry). es ++ fresh (entries_of own after) later) is_more
        ∙ ap (λ (es : List Entry). list ++ es) (ap (λ (b : Bool). cond (not b) (entry ∷ fresh (entries_of own after) later) (fresh (entries_of own after) later)) (sym is) ∙ sym sifted-here)
    by-test false more is is_more =
        ap (λ (es : List Entry). es ++ fresh (entries_of own after) later) is_more
        ∙ append_assoc list (entry ∷ []) (fresh (entries_of own after) later)
        ∙ ap (λ (es : List Entry). list ++ es) (ap (λ (b : Bool). cond (not b) (entry ∷ fresh (entries_of own after) later) (fresh (entries_of own after) later)) (sym is) ∙ sym sifted-here)

    pub sifted-next : (b : Bool) (more : List Entry) (looks : ℕ) → is_first_kid own after entry ≡ b → more ≡ cond (not b) (list ++ entry ∷ []) list → looks ≤ now + 2 → Sifted kids entries first more looks after later
    sifted-next b more looks is is_more few = record {
      whole = by-test b more is is_more ∙ sifts.whole;
      held = held-after;
      order = subst IsInOrder (sym olds-after) (from-order entry.name (entries_of own left) sifts.order);
      sorted = sorted_tail name_cmp entry.name (names later) sifts.sorted;
      looks = let e : now + 2 * length (entry ∷ later) ≤ first + 2 * length entries = sifts.looks in omega (arith, e, few);
    }

  pub sifted-all : (kids : List WiredKid) (entries : List Entry) (first : ℕ) (list : List Entry) (now : ℕ) (left : List WiredKid) (rest : List Entry) → rest ≡ [] → Sifted kids entries first list now left rest →
      list ≡ fresh (entries_of own kids) entries
  sifted-all kids entries first list now left rest none goes =
      let all : Sifted kids entries first list now left [] = subst (Sifted kids entries first list now left) none goes in
      sym (append-nil list) ∙ all.whole
