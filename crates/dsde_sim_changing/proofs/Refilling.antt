-- How far the entries of a structure have their components.
use Rattle.std.proofs.Common.{◌≡◌, ℕ, ◌+◌, true, List, [], ◌∷◌, ◌++◌, map, refl, sym, ◌∙◌, ap, subst, arith, append_assoc, append-nil, ◌↔◌, Option, Some, None, Result, Ok, Err}
use Rattle.std.specs.Prelude.{is_some, IfSome}
use Rattle.std.specs.Option.{option_to_list}
use Rattle.std.specs.List.{AllByRecursion}
use Rattle.std.proofs.lemmas.List.{map-append}
use Rattle.std.proofs.lemmas.Map.Keys.{sorted_tail}
use Rattle.dsde_values.specs.declared.path.Path.{Path}
use Rattle.dsde_values.specs.Path.{name_cmp}
use Rattle.dsde_sim_tree.specs.given.structure.plan_Entry.{Entry}
use Rattle.dsde_values.specs.declared.name.Name.{Name}
use Rattle.dsde_language.specs.declared.ids.ModelId.{ModelId}
use Rattle.dsde_sim_tree.specs.given.structure.Survival.{AreInOrder, IsInOrder, names, role, roles, StaysAs, survives as stays}
use Rattle.dsde_sim_tree.specs.declared.event.Event.{Event}
use Rattle.dsde_sim_tree.specs.declared.fault.TurnEnd.{TurnEnd}
use Rattle.dsde_sim_tree.specs.Told.{Told, told, ◌then◌}
use Rattle.dsde_sim_starting.specs.given.sim_telling.lemmas_GoingOn.{GoesOn, goes-step}
use Rattle.dsde_sim_tree.specs.declared.sim.Kid.{Kid}
use Rattle.dsde_sim_tree.specs.Tree.{entry_of, parts_of_kid, parts_of_kids, name_of}
use Rattle.dsde_sim_tree.specs.Start.{Starter, started_kid}
use Rattle.dsde_sim_tree.specs.Move.{refilled, take_named}
use Rattle.dsde_sim_changing.specs.Survivors.{is_next, filled, survivor_parts}
use Rattle.dsde_sim_changing.proofs.Orders.{S}
use Rattle.dsde_sim_changing.proofs.Walking.{parts-cons, parts-append}
use Rattle.dsde_sim_changing.proofs.Choosing.{AllSurvive, Chosen, chosen, taken}

-- a step, a quiet change of its value, and then the next
then-quiet : {A B C : Type 0} (events : List Event) (end : Result A TurnEnd) (f : A → B) (next : B → Told C) →
    (let step : Told A = record { events = events; end = end } in (step then (λ value. told [] (f value)) then next) ≡ (step then (λ value. next (f value))))
then-quiet events (Ok value) f next = λ i. record { events = append-nil events i ++ (next (f value)).events; end = (next (f value)).end }
then-quiet events (Err end) f next = refl

abbrev refill_of : Starter → Entry → List Kid → Path → ℕ → ℕ → Option (Kid × List Kid) → Told (Kid × List Kid × ℕ)
refill_of starter own kids path time room found = elim found [
  | Some one ↦ told [] (one.0, one.1, room)
  | None ↦ started_kid starter own path time room then (λ one. told [] (one.0, kids, one.1))
]

-- the other entries get their components behind this one
abbrev pub filled_behind : Starter → List Entry → List Kid → Path → ℕ → List Kid → Kid × ℕ → Told (List Kid × ℕ)
filled_behind starter entries others path time done one = refilled starter entries others path time one.1 (done ++ one.0 ∷ [])

-- the entry gets its component, and then the others theirs
refilled-step : (starter : Starter) (own : Entry) (entries : List Entry) (items : List Kid) (survivor : Option Kid) (others : List Kid) (path : Path) (time room : ℕ) (done : List Kid) →
    items ≡ option_to_list survivor ++ others → take_named own.name items ≡ taken survivor others →
    refilled starter (own ∷ entries) items path time room done ≡ (filled starter own survivor path time room then filled_behind starter entries others path time done)
refilled-step starter own entries items (Some kid) others path time room done is found =
    ap (λ (one : Option (Kid × List Kid)). refill_of starter own items path time room one then (λ one. refilled starter entries one.1 path time one.2 (done ++ one.0 ∷ []))) found
refilled-step starter own entries items None others path time room done is found =
    let step = started_kid starter own path time room in
    let next : Kid × List Kid × ℕ → Told (List Kid × ℕ) = λ one. refilled starter entries one.1 path time one.2 (done ++ one.0 ∷ []) in
    ap (λ (one : Option (Kid × List Kid)). refill_of starter own items path time room one then next) found
    ∙ then-quiet step.events step.end (λ (one : Kid × ℕ). (one.0, items, one.1)) next
    ∙ ap (λ (left : List Kid). step then filled_behind starter entries left path time done) is

each-append : {A : Type 0} (P : A → Type 0) (xs : List A) (x : A) → AllByRecursion P xs → P x → AllByRecursion P (xs ++ x ∷ [])
each-append P [] x each here = (here, tt)
each-append P (y ∷ xs) x each here = (each.0, each-append P xs x each.1 here)

survivor-parts : (survivor : Option Kid) (others : List Kid) → parts_of_kids (option_to_list survivor ++ others) ≡ survivor_parts survivor + parts_of_kids others
survivor-parts (Some kid) others = parts-cons kid others
survivor-parts None others = omega arith

survivor-each : (Q : Kid → Type 0) (survivor : Option Kid) (others : List Kid) → AllByRecursion Q (option_to_list survivor ++ others) → IfSome survivor Q × AllByRecursion Q others
survivor-each Q (Some kid) others each = each
survivor-each Q None others each = (tt, each)

survivor-as : (own : Entry) (survivor : Option Kid) → ((old new : Entry) → (stays old new ≡ true) ↔ StaysAs old new) → IfSome survivor (λ kid. S kid own ≡ true) → IfSome survivor (λ kid. role (entry_of kid) ≡ role own)
survivor-as own (Some kid) exact is = let as_own = (exact (entry_of kid) own).0 is in λ i. (as_own.0 i, as_own.1 i)
survivor-as own None exact is = tt

-- How far the walk has come: what is left of the entries and of the survivors. `P` is what is known of
-- each entry, and `Q` of each component.
pub record Filled (P : Entry → Type 0) (Q : Kid → Type 0) (starter : Starter) (entries : List Entry) (kept : List Kid) (path : Path) (time first : ℕ) (old : List Event) (done : List Kid) (room : ℕ) (events : List Event) (rest : List Entry) (items : List Kid) : Type 0 where
  pub goes : GoesOn (refilled starter entries kept path time first []) (refilled starter rest items path time room done) old events
  pub parts : parts_of_kids done + parts_of_kids items + room ≡ parts_of_kids kept + first
  pub fit : AllByRecursion Q done
  pub are : roles (map entry_of done) ++ roles rest ≡ roles entries
  pub entries_fit : AllByRecursion P rest
  pub kids_fit : AllByRecursion Q items
  pub order : IsInOrder rest
  pub names : AreInOrder (map name_of items)
  pub survive : AllSurvive rest items

module _ (P : Entry → Type 0) (Q : Kid → Type 0) (starter : Starter) (entries : List Entry) (kept : List Kid) (path : Path) (time first : ℕ) (old : List Event) (done : List Kid) (room : ℕ) (events : List Event) (rest : List Entry) (items : List Kid)
    (left : Filled P Q starter entries kept path time first old done room events rest items)
    (own : Entry) (later : List Entry) (is_rest : rest ≡ own ∷ later)
    (survivor : Option Kid) (others : List Kid) (is_items : items ≡ option_to_list survivor ++ others) (named : is_some survivor ≡ is_next own.name items) where
  here : Filled P Q starter entries kept path time first old done room events (own ∷ later) items
  here = subst (λ (es : List Entry). Filled P Q starter entries kept path time first old done room events es items) is_rest left

  pick : Chosen own later items survivor others
  pick = chosen own later items survivor others here.order here.names here.survive is_items named

  each : IfSome survivor Q × AllByRecursion Q others
  each = survivor-each Q survivor others (subst (AllByRecursion Q) is_items here.kids_fit)

  pub entry-fits : P own
  entry-fits = here.entries_fit.0

  pub survivor-fits : IfSome survivor Q
  survivor-fits = each.0

  pub survivor-is : ((old new : Entry) → (stays old new ≡ true) ↔ StaysAs old new) → IfSome survivor (λ kid. role (entry_of kid) ≡ role own)
  survivor-is exact = survivor-as own survivor exact pick.is

  whole : Told (List Kid × ℕ)
  whole = refilled starter entries kept path time first []

  pub goes-here : GoesOn (refilled starter entries kept path time first []) (filled starter own survivor path time room then filled_behind starter later others path time done) old events
  goes-here = subst (λ (step : Told (List Kid × ℕ)). GoesOn (refilled starter entries kept path time first []) step old events) (refilled-step starter own later items survivor others path time room done is_items pick.found) here.goes

  module _ (new : List Event) (kid : Kid) (room_left : ℕ) (told : new ≡ events ++ (filled starter own survivor path time room).events) (came : (filled starter own survivor path time room).end ≡ Ok (kid, room_left)) where
    pub goes-on : GoesOn (refilled starter entries kept path time first []) (filled_behind starter later others path time done (kid, room_left)) old new
    goes-on = goes-step (refilled starter entries kept path time first []) (filled starter own survivor path time room) (filled_behind starter later others path time done) old events new (kid, room_left) goes-here told came

    pub fills : (more : List Kid) → parts_of_kid kid + room_left ≡ survivor_parts survivor + room → Q kid → role (entry_of kid) ≡ role own → more ≡ done ++ kid ∷ [] →
        Filled P Q starter entries kept path time first old more room_left new later others
    fills more counted fits is is_more =
        let parts_more : parts_of_kids more ≡ parts_of_kids done + parts_of_kid kid =
        ap parts_of_kids is_more ∙ parts-append done (kid ∷ []) ∙ ap (λ n. parts_of_kids done + n) (parts-cons kid [] ∙ omega arith) in
        let parts_items : parts_of_kids items ≡ survivor_parts survivor + parts_of_kids others = ap parts_of_kids is_items ∙ survivor-parts survivor others in
        record {
          goes = subst (λ (own_done : List Kid). GoesOn (refilled starter entries kept path time first []) (refilled starter later others path time room_left own_done) old new) (sym is_more) goes-on;
          parts = omega (arith, parts_more, parts_items, counted, here.parts);
          fit = subst (AllByRecursion Q) (sym is_more) (each-append Q done kid here.fit fits);
          are =
              ap (λ own_done. roles (map entry_of own_done) ++ roles later) is_more
              ∙ ap (λ front. roles front ++ roles later) (map-append entry_of done (kid ∷ []))
              ∙ ap (λ front. front ++ roles later) (map-append role (map entry_of done) (entry_of kid ∷ []))
              ∙ append_assoc (roles (map entry_of done)) (role (entry_of kid) ∷ []) (roles later)
              ∙ ap (λ (one : Name × ModelId). roles (map entry_of done) ++ one ∷ roles later) is
              ∙ here.are;
          entries_fit = here.entries_fit.1;
          kids_fit = each.1;
          order = sorted_tail name_cmp own.name (names later) here.order;
          names = pick.names;
          survive = pick.survive;
        }
