-- Entries get their components as those start that have none.
use Rattle.std.proofs.Common.{◌≡◌, ℕ, List, [], ◌∷◌, ◌++◌, Option, Some, None, sym, ◌∙◌, ap, append_assoc, append-nil}
use Rattle.dsde_values.specs.declared.path.Path.{Path}
use Rattle.dsde_structure.specs.declared.plan.Entry.{Entry}
use Rattle.dsde_sim_tree.specs.Told.{Told, told, ◌then◌}
use Rattle.dsde_sim_tree.specs.declared.sim.Kid.{Kid}
use Rattle.dsde_sim_tree.specs.Start.{Starter, started_kid, starts}
use Rattle.dsde_sim_tree.specs.Move.{refilled, take_named}
use Rattle.dsde_sim_movers.specs.lemmas.Steps.{then-assoc, then-same}
use Rattle.dsde_core_moving.specs.Placed.{placed, placed_by}

-- the entries whose names no component has that is left
abbrev pub needed_by : Option (Kid × List Kid) → Entry → (List Kid → List Entry) → List Kid → List Entry
needed_by (Some taken) own later kids = later taken.1
needed_by None own later kids = own ∷ later kids

abbrev pub needed : List Entry → List Kid → List Entry
needed [] kids = []
needed (own ∷ entries) kids = needed_by (take_named own.name kids) own (needed entries) kids

module _ (starter : Starter) (path : Path) (time : ℕ) where
  -- components start one after another, without those before them
  abbrev started : List Entry → ℕ → Told (List Kid × ℕ)
  started [] room = told [] ([], room)
  started (own ∷ entries) room =
      started_kid starter own path time room then (λ one. started entries one.1 then (λ rest. told [] (one.0 ∷ rest.0, rest.1)))

  starts-behind : (entries : List Entry) (room : ℕ) (done : List Kid) → starts starter entries path time room done ≡ (started entries room then (λ all. told [] (done ++ all.0, all.1)))
  starts-behind [] room done = λ i. told [] (sym (append-nil done) i, room)
  starts-behind (own ∷ entries) room done =
      let step = started_kid starter own path time room in
      let last : List Kid × ℕ → Told (List Kid × ℕ) = λ all. told [] (done ++ all.0, all.1) in
      let behind : Kid × ℕ → Told (List Kid × ℕ) = λ one. started entries one.1 then (λ rest. told [] (done ++ one.0 ∷ rest.0, rest.1)) in
      then-same step (λ one. starts starter entries path time one.1 (done ++ one.0 ∷ [])) behind
      (λ one. starts-behind entries one.1 (done ++ one.0 ∷ [])
      ∙ then-same (started entries one.1) (λ rest. told [] ((done ++ one.0 ∷ []) ++ rest.0, rest.1)) (λ rest. told [] (done ++ one.0 ∷ rest.0, rest.1)) (λ rest. λ i. told [] (append_assoc done (one.0 ∷ []) rest.0 i, rest.1)))
      ∙ sym (then-assoc step (λ one. started entries one.1 then (λ rest. told [] (one.0 ∷ rest.0, rest.1))) last
      ∙ then-same step (λ one. (started entries one.1 then (λ rest. told [] (one.0 ∷ rest.0, rest.1))) then last) behind (λ one. then-assoc (started entries one.1) (λ rest. told [] (one.0 ∷ rest.0, rest.1)) last))

  abbrev refill_of : Entry → List Kid → ℕ → Option (Kid × List Kid) → Told (Kid × List Kid × ℕ)
  refill_of own kids room found = elim found [
    | Some taken ↦ told [] (taken.0, taken.1, room)
    | None ↦ started_kid starter own path time room then (λ one. told [] (one.0, kids, one.1))
  ]

  abbrev Refills : List Entry → Type 0
  Refills entries = (kids : List Kid) (room : ℕ) (done : List Kid) → refilled starter entries kids path time room done ≡ (started (needed entries kids) room then (λ all. told [] (done ++ placed entries kids all.0, all.1)))

  by-found : (own : Entry) (entries : List Entry) (kids : List Kid) (room : ℕ) (done : List Kid) → Refills entries → (found : Option (Kid × List Kid)) →
      (refill_of own kids room found then (λ one. refilled starter entries one.1 path time one.2 (done ++ one.0 ∷ [])))
      ≡ (started (needed_by found own (needed entries) kids) room then (λ all. told [] (done ++ placed_by found (placed entries) kids all.0, all.1)))
  by-found own entries kids room done later (Some taken) =
      later taken.1 room (done ++ taken.0 ∷ [])
      ∙ then-same (started (needed entries taken.1) room) (λ all. told [] ((done ++ taken.0 ∷ []) ++ placed entries taken.1 all.0, all.1)) (λ all. told [] (done ++ taken.0 ∷ placed entries taken.1 all.0, all.1))
      (λ all. λ i. told [] (append_assoc done (taken.0 ∷ []) (placed entries taken.1 all.0) i, all.1))
  by-found own entries kids room done later None =
      let step = started_kid starter own path time room in
      let last : List Kid × ℕ → Told (List Kid × ℕ) = λ all. told [] (done ++ placed_by None (placed entries) kids all.0, all.1) in
      let behind : Kid × ℕ → Told (List Kid × ℕ) = λ one. started (needed entries kids) one.1 then (λ rest. told [] (done ++ one.0 ∷ placed entries kids rest.0, rest.1)) in
      then-assoc step (λ one. told [] (one.0, kids, one.1)) (λ one. refilled starter entries one.1 path time one.2 (done ++ one.0 ∷ []))
      ∙ then-same step (λ one. refilled starter entries kids path time one.1 (done ++ one.0 ∷ [])) behind
      (λ one. later kids one.1 (done ++ one.0 ∷ [])
      ∙ then-same (started (needed entries kids) one.1) (λ rest. told [] ((done ++ one.0 ∷ []) ++ placed entries kids rest.0, rest.1)) (λ rest. told [] (done ++ one.0 ∷ placed entries kids rest.0, rest.1))
      (λ rest. λ i. told [] (append_assoc done (one.0 ∷ []) (placed entries kids rest.0) i, rest.1)))
      ∙ sym (then-assoc step (λ one. started (needed entries kids) one.1 then (λ rest. told [] (one.0 ∷ rest.0, rest.1))) last
      ∙ then-same step (λ one. (started (needed entries kids) one.1 then (λ rest. told [] (one.0 ∷ rest.0, rest.1))) then last) behind
      (λ one. then-assoc (started (needed entries kids) one.1) (λ rest. told [] (one.0 ∷ rest.0, rest.1)) last))

  refilled-started : (entries : List Entry) → Refills entries
  refilled-started [] kids room done = λ i. told [] (sym (append-nil done) i, room)
  refilled-started (own ∷ entries) kids room done = by-found own entries kids room done (refilled-started entries) (take_named own.name kids)

  -- the entries get their components as those of the needed ones start
  pub refills-start : (entries : List Entry) (kids : List Kid) (room : ℕ) →
      refilled starter entries kids path time room [] ≡ (starts starter (needed entries kids) path time room [] then (λ all. told [] (placed entries kids all.0, all.1)))
  refills-start entries kids room =
      let last : List Kid × ℕ → Told (List Kid × ℕ) = λ all. told [] (placed entries kids all.0, all.1) in
      refilled-started entries kids room []
      ∙ sym (then-assoc (started (needed entries kids) room) (λ all. told [] (all.0, all.1)) last)
      ∙ ap (λ (step : Told (List Kid × ℕ)). step then last) (sym (starts-behind (needed entries kids) room []))
