-- Changes of structure: the components behind one are those of the new structure.
use Rattle.std.proofs.Common.{◌≡◌, ℕ, ◌+◌, Bool, true, false, List, [], ◌∷◌, ◌++◌, Option, Some, None, refl, sym, ap, subst, ◌∙◌, inl, inr, append-nil, append_assoc}
use Rattle.std.specs.Prelude.{if◌then◌else◌}
use Rattle.std.specs.List.{AllByRecursion}
use Rattle.std.specs.Cmp.{Equal-is}
use Rattle.std.specs.declared.cmp.Ordering.{Ordering}
use Rattle.std.specs.declared.cmp.Ordering.TheVariants.{Less, Equal}
use Rattle.std.proofs.lemmas.Map.Keys.{sorted_head, sorted_tail}
use Rattle.dsde_syntax.specs.declared.decl.Model.{Model}
use Rattle.dsde_values.specs.declared.name.Name.{Name}
use Rattle.dsde_values.specs.declared.path.Path.{Path}
use Rattle.dsde_values.specs.Path.{name_cmp}
use Rattle.dsde_values.specs.When.{IsMoment}
use Rattle.dsde_language.specs.declared.ids.ModelId.{ModelId}
use Rattle.dsde_structure.specs.declared.plan.Entry.{Entry}
use Rattle.dsde_structure.specs.Gather.{is_same_name}
use Rattle.dsde_structure.specs.Survival.{IsInOrder, names, role}
use Rattle.dsde_sim_starting.specs.given.system.Program.{system}
use Rattle.dsde_sim_starting.specs.given.system.Plans.{FitsEntry}
use Rattle.dsde_sim_tree.specs.Told.{Told, told, ◌then◌}
use Rattle.dsde_sim_tree.specs.declared.sim.Kid.{Kid}
use Rattle.dsde_sim_tree.specs.declared.sim.Sim.TheViews.{out-Kid}
use Rattle.dsde_sim_tree.specs.Move.{survives, kept, gone, take_named, refill, refilled, change, left_behind}
use Rattle.dsde_sim_tree.specs.Start.{Starter, started_kid, start}
use Rattle.dsde_sim_tree.specs.Tree.{entry_of, parts_of_kids}
use Rattle.dsde_sound_runs.proofs.Relied.{Laws}
use Rattle.dsde_sound_runs.proofs.Safe.{Safe, safe-then}
use Rattle.dsde_sim_starting.specs.Fitting.{FitsKid}
use Rattle.dsde_sim_starting.specs.lemmas.Roles.{Among, among-from}
use Rattle.dsde_sound_runs.proofs.Starting.{IsKid, AreKids, Starts, kid-starts, kids-behind, part-starts}

among-right : {X : Type 0} (x : X) (xs ys : List X) → Among x ys → Among x (xs ++ ys)
among-right x [] ys among = among
among-right x (y ∷ xs) ys among = inr (among-right x xs ys among)

each-among : {X : Type 0} (P : X → Type 0) (xs : List X) (x : X) → AllByRecursion P xs → Among x xs → P x
each-among P [] x each among = absurd among
each-among P (y ∷ xs) x each (inl same) = subst P (sym same) each.0
each-among P (y ∷ xs) x each (inr among) = each-among P xs x each.1 among

name-among : (own : Entry) (entries : List Entry) → Among own entries → Among own.name (names entries)
name-among own [] among = absurd among
name-among own (first ∷ entries) (inl same) = inl (ap (λ (e : Entry). e.name) same)
name-among own (first ∷ entries) (inr among) = inr (name-among own entries among)

module _ (model : Model) (laws : Laws model) (time : ℕ) (moment : IsMoment time) where
  not-less : (name other : Name) → name_cmp name other ≡ Less → name ≡ other → ⊥
  not-less name other less same = clash (sym less ∙ (laws.one name other).1 same)
    where
      clash : (let own : Ordering = Less in own ≡ Equal) → ⊥
      clash is = absurd (cc is)

  -- In a structure one entry has a name.
  same-named : (entries : List Entry) (a b : Entry) → IsInOrder entries → Among a entries → Among b entries → a.name ≡ b.name → a ≡ b
  same-named [] a b order at_a at_b same = absurd at_a
  same-named (first ∷ entries) a b order (inl is_a) (inl is_b) same = is_a ∙ sym is_b
  same-named (first ∷ entries) a b order (inl is_a) (inr at_b) same =
      absurd (not-less first.name b.name (each-among (λ other. name_cmp first.name other ≡ Less) (names entries) b.name (sorted_head name_cmp first.name (names entries) order) (name-among b entries at_b)) (sym (ap (λ (e : Entry). e.name) is_a) ∙ same))
  same-named (first ∷ entries) a b order (inr at_a) (inl is_b) same =
      absurd (not-less first.name a.name (each-among (λ other. name_cmp first.name other ≡ Less) (names entries) a.name (sorted_head name_cmp first.name (names entries) order) (name-among a entries at_a)) (sym (ap (λ (e : Entry). e.name) is_b) ∙ sym same))
  same-named (first ∷ entries) a b order (inr at_a) (inr at_b) same = same-named entries a b (sorted_tail name_cmp first.name (names entries) order) at_a at_b same

  -- components that fit, each of the name and the model of one of these entries
  abbrev HasEntry : List Entry → Kid → Type 0
  HasEntry entries kid = (own : Entry) × Among own entries × (role (entry_of kid) ≡ role own)

  abbrev Survive : List Entry → List Kid → Type 0
  Survive entries kids = AllByRecursion (λ kid. FitsKid model kid × HasEntry entries kid) kids

  kept-survive : (entries : List Entry) (kids : List Kid) → AllByRecursion (FitsKid model) kids → Survive entries (kept entries kids)
  kept-survive entries [] all = tt
  kept-survive entries (kid ∷ kids) all = by-test (survives entries kid) refl (kept-survive entries kids all.1)
    where
      by-test : (stays : Bool) → survives entries kid ≡ stays → Survive entries (kept entries kids) → Survive entries (if stays then kid ∷ kept entries kids else kept entries kids)
      by-test true stays rest =
          let found = (laws.survivor (entry_of kid) entries).0 stays in
          ((all.0, (found.0, among-from entries found.0 found.1, λ i. (found.2.0 i, found.2.1 i))), rest)
      by-test false stays rest = rest

  -- A survivor of an entry's name has the entry's model.
  record Taken (all : List Entry) (own : Entry) (taken : Kid × List Kid) : Type 0 where
    is : IsKid model own taken.0
    rest : Survive all taken.1

  taken-is : (all : List Entry) (own : Entry) → IsInOrder all → Among own all → (kids : List Kid) (taken : Kid × List Kid) → Survive all kids → take_named own.name kids ≡ Some taken → Taken all own taken
  taken-is all own order at [] taken survive is = absurd (cc is)
  taken-is all own order at (kid ∷ kids) taken survive is = by-name (is_same_name (out-Kid kid).name own.name) refl (take_named own.name kids) (λ rest found. taken-is all own order at kids rest survive.1 found) refl is
    where
      some-is : {A : Type 0} {x y : A} → (let one : Option A = Some x in one ≡ Some y) → x ≡ y
      some-is is = cc

      by-name : (named : Bool) → is_same_name (out-Kid kid).name own.name ≡ named → (later : Option (Kid × List Kid)) →
          ((rest : Kid × List Kid) → take_named own.name kids ≡ Some rest → Taken all own rest) → take_named own.name kids ≡ later →
          (let found : Option (Kid × List Kid) = if named then Some (kid, kids) else (elim later [ Some taken ↦ Some (taken.0, kid ∷ taken.1) | None ↦ None ]) in found ≡ Some taken) → Taken all own taken
      by-name true named later goes is_later is =
          let name : (out-Kid kid).name ≡ own.name = (laws.one (out-Kid kid).name own.name).0 ((Equal-is (name_cmp (out-Kid kid).name own.name)).0 named) in
          let entry = survive.0.1 in
          let as_named : entry.0.name ≡ own.name = sym (ap (λ (one : Name × ModelId). one.0) entry.2) ∙ name in
          let same : entry.0 ≡ own = same-named all entry.0 own order entry.1 at as_named in
          subst (Taken all own) (some-is is) (record { is = record { fits = survive.0.0; is = entry.2 ∙ ap role same }; rest = survive.1 })
      by-name false named (Some rest) goes is_later is =
          let own = goes rest is_later in
          subst (Taken all _) (some-is is) (record { is = own.is; rest = (survive.0, own.rest) })
      by-name false named None goes is_later is = absurd (cc is)

  refill-safe : (starter : Starter) → Starts model laws time moment starter → (all : List Entry) (own : Entry) → IsInOrder all → Among own all → FitsEntry model own → (kids : List Kid) (path : Path) (room : ℕ) → Survive all kids →
      Safe (λ one. IsKid model own one.0 × Survive all one.1) (refill starter own kids path time room).end
  refill-safe starter each all own order at fits kids path room survive = by-taken (take_named own.name kids) refl
    where
      by-taken : (taken : Option (Kid × List Kid)) → take_named own.name kids ≡ taken →
          (let step : Told (Kid × List Kid × ℕ) = elim taken [ Some taken ↦ told [] (taken.0, taken.1, room) | None ↦ started_kid starter own path time room then (λ one. told [] (one.0, kids, one.1)) ] in
          Safe (λ one. IsKid model own one.0 × Survive all one.1) step.end)
      by-taken (Some taken) is =
          let kept_one = taken-is all own order at kids taken survive is in
          (kept_one.is, kept_one.rest)
      by-taken None is =
          safe-then (λ one. IsKid model own one.0) (λ one. IsKid model own one.0 × Survive all one.1) (started_kid starter own path time room) (λ one. told [] (one.0, kids, one.1))
          (kid-starts model laws time moment starter each own path room fits) (λ one kid. (kid, survive))

  refilled-safe : (starter : Starter) → Starts model laws time moment starter → (all : List Entry) → IsInOrder all → (before entries : List Entry) → all ≡ before ++ entries → AllByRecursion (FitsEntry model) entries →
      (kids : List Kid) (path : Path) (room : ℕ) (done : List Kid) → Survive all kids → AreKids model before done →
      Safe (λ one. AreKids model all one.0) (refilled starter entries kids path time room done).end
  refilled-safe starter each all order before [] is fit kids path room done survive so_far = subst (λ (own : List Entry). AreKids model own done) (sym (is ∙ append-nil before)) so_far
  refilled-safe starter each all order before (own ∷ entries) is fit kids path room done survive so_far =
      let at : Among own all = subst (λ (list : List Entry). Among own list) (sym is) (among-right own before (own ∷ entries) (inl refl)) in
      safe-then (λ one. IsKid model own one.0 × Survive all one.1) (λ one. AreKids model all one.0) (refill starter own kids path time room)
      (λ one. refilled starter entries one.1 path time one.2 (done ++ one.0 ∷ []))
      (refill-safe starter each all own order at fit.0 kids path room survive)
      (λ one kid. refilled-safe starter each all order (before ++ own ∷ []) entries (is ∙ sym (append_assoc before (own ∷ []) entries)) fit.1 one.1 path one.2 (done ++ one.0 ∷ []) kid.1
      (kids-behind model before own done one.0 so_far kid.0))

  pub change-safe : (entries : List Entry) (kids : List Kid) (path : Path) (room : ℕ) → IsInOrder entries → AllByRecursion (FitsEntry model) entries → AllByRecursion (FitsKid model) kids →
      Safe (λ one. AreKids model entries one.0) (change (system model) entries kids path time room).end
  change-safe entries kids path room order fit all =
      refilled-safe (start (system model) (left_behind path)) (part-starts model laws time moment (left_behind path)) entries order [] entries refl fit
      (kept entries kids) path (room + parts_of_kids (gone entries kids)) [] (kept-survive entries kids all) (record { fit = tt; are = refl })
