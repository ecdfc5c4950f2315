-- Facts of lists of events, and of steps that tell them.
use Rattle.std.proofs.Common.{◌≡◌, ℕ, zero, suc, ◌<◌, Bool, true, false, cond, length, get_or, arith, List, [], ◌∷◌, ◌++◌, Result, Ok, Err, sym, subst, inl, inr, ◌⊎◌}
use Rattle.std.specs.List.{flat_map, filter, AllByRecursion, Contains}
use Rattle.dsde_sim_tree.specs.declared.event.Event.{Event}
use Rattle.dsde_sim_tree.specs.declared.fault.TurnEnd.{TurnEnd}
use Rattle.dsde_sim_tree.specs.Told.{Told, ◌then◌}

pub each-append : {X : Type 0} (P : X → Type 0) (xs ys : List X) → AllByRecursion P xs → AllByRecursion P ys → AllByRecursion P (xs ++ ys)
each-append P [] ys first later = later
each-append P (x ∷ xs) ys first later = (first.0, each-append P xs ys first.1 later)

pub each-weaker : {X : Type 0} (P Q : X → Type 0) → ((x : X) → P x → Q x) → (xs : List X) → AllByRecursion P xs → AllByRecursion Q xs
each-weaker P Q gives [] each = tt
each-weaker P Q gives (x ∷ xs) each = (gives x each.0, each-weaker P Q gives xs each.1)

-- an item is in a list
abbrev pub Among : {X : Type 0} → X → List X → Type 0
Among x [] = ⊥
Among x (y ∷ ys) = (x ≡ y) ⊎ Among x ys

pub among-left : {X : Type 0} (x : X) (xs ys : List X) → Among x xs → Among x (xs ++ ys)
among-left x [] ys among = absurd among
among-left x (y ∷ xs) ys (inl same) = inl same
among-left x (y ∷ xs) ys (inr among) = inr (among-left x xs ys among)

pub among-right : {X : Type 0} (x : X) (xs ys : List X) → Among x ys → Among x (xs ++ ys)
among-right x [] ys among = among
among-right x (y ∷ xs) ys among = inr (among-right x xs ys among)

-- a fact of each event that a step and the next tell
pub each-then : {A B : Type 0} (P : Event → Type 0) (events : List Event) (end : Result A TurnEnd) (next : A → Told B) →
    AllByRecursion P events → ((value : A) → AllByRecursion P (next value).events) →
    (let step : Told A = record { events = events; end = end } in AllByRecursion P (step then next).events)
each-then P events (Ok value) next first later = each-append P events (next value).events first (later value)
each-then P events (Err end) next first later = first

pub among-cases : {X : Type 0} (x : X) (xs ys : List X) → Among x (xs ++ ys) → Among x xs ⊎ Among x ys
among-cases x [] ys among = inr among
among-cases x (y ∷ xs) ys (inl same) = inl (inl same)
among-cases x (y ∷ xs) ys (inr among) = elim (among-cases x xs ys among) [ inl here ↦ inl (inr here) | inr there ↦ inr there ]

pub each-among : {X : Type 0} (P : X → Type 0) (xs : List X) (x : X) → AllByRecursion P xs → Among x xs → P x
each-among P [] x each among = absurd among
each-among P (y ∷ xs) x each (inl same) = subst P (sym same) each.0
each-among P (y ∷ xs) x each (inr among) = each-among P xs x each.1 among

pub each-front : {X : Type 0} (P : X → Type 0) (xs ys : List X) → AllByRecursion P (xs ++ ys) → AllByRecursion P xs
each-front P [] ys each = tt
each-front P (x ∷ xs) ys each = (each.0, each-front P xs ys each.1)

pub each-back : {X : Type 0} (P : X → Type 0) (xs ys : List X) → AllByRecursion P (xs ++ ys) → AllByRecursion P ys
each-back P [] ys each = each
each-back P (x ∷ xs) ys each = each-back P xs ys each.1

pub each-flat : {X Y : Type 0} (P : Y → Type 0) (f : X → List Y) (xs : List X) → AllByRecursion P (flat_map f xs) → AllByRecursion (λ x. AllByRecursion P (f x)) xs
each-flat P f [] each = tt
each-flat P f (x ∷ xs) each = (each-front P (f x) (flat_map f xs) each, each-flat P f xs (each-back P (f x) (flat_map f xs) each))

pub flat-each : {X Y : Type 0} (P : Y → Type 0) (f : X → List Y) (xs : List X) → AllByRecursion (λ x. AllByRecursion P (f x)) xs → AllByRecursion P (flat_map f xs)
flat-each P f [] each = tt
flat-each P f (x ∷ xs) each = each-append P (f x) (flat_map f xs) each.0 (flat-each P f xs each.1)

among-at : {X : Type 0} (xs : List X) (x : X) (k : ℕ) → k < length xs → get_or xs k x ≡ x → Among x xs
among-at [] x k within is = absurd (omega arith)
among-at (y ∷ xs) x zero within is = inl (sym is)
among-at (y ∷ xs) x (suc k) within is = inr (among-at xs x k (omega arith) is)

pub among-from : {X : Type 0} (xs : List X) (x : X) → Contains xs x → Among x xs
among-from xs x there = among-at xs x there.0 there.1 there.2

pub contains-from : {X : Type 0} (xs : List X) (x : X) → Among x xs → Contains xs x
contains-from [] x among = absurd among
contains-from (y ∷ xs) x (inl same) = (0, omega arith, sym same)
contains-from (y ∷ xs) x (inr among) = let there = contains-from xs x among in (suc there.0, omega (arith, there.1), there.2)

pub among-flat : {X Y : Type 0} (f : X → List Y) (y : Y) (xs : List X) (G : Type 0) → Among y (flat_map f xs) → AllByRecursion (λ x. Among y (f x) → G) xs → G
among-flat f y [] G among each = absurd among
among-flat f y (x ∷ xs) G among each = elim (among-cases y (f x) (flat_map f xs) among) [ inl here ↦ each.0 here | inr behind ↦ among-flat f y xs G behind each.1 ]

each-filter-by : {X : Type 0} (P : X → Type 0) (x : X) (rest : List X) (here : Bool) → P x → AllByRecursion P rest → AllByRecursion P (cond here (x ∷ rest) rest)
each-filter-by P x rest true own others = (own, others)
each-filter-by P x rest false own others = others

pub each-filter : {X : Type 0} (P : X → Type 0) (test : X → Bool) (xs : List X) → AllByRecursion P xs → AllByRecursion P (filter test xs)
each-filter P test [] all = tt
each-filter P test (x ∷ xs) all = each-filter-by P x (filter test xs) (test x) all.0 (each-filter P test xs all.1)
