-- The traffic of a flat state is what those who are due send, and what came to the root.
use Rattle.std.proofs.Common.{◌≡◌, ℕ, zero, suc, ◌+◌, ◌<◌, ◌≤◌, ◌==◌, ◌&&◌, Bool, true, false, cond, List, [], ◌∷◌, ◌++◌, map, Option, Some, None, Ok, Less, Equal, slice_index_or, refl, sym, ap, subst, ◌∙◌, inl, inr, arith}
use Rattle.std.specs.List.{AllByRecursion, IsDistinct, flat_map, range_with_len}
use Rattle.std.specs.List.Sorted.{IsStrictlySortedBy}
use Rattle.std.proofs.lemmas.Bool.Decides.{nat_tests}
use Rattle.std.proofs.lemmas.Cmp.{tied_itself}
use Rattle.std.proofs.lemmas.Map.Keys.{IsDistinct-cons, sorted_head, sorted_tail}
use Rattle.dsde_bank.specs.declared.handle.Handle.{Handle}
use Rattle.dsde_values.specs.declared.path.Path.{Path}
use Rattle.dsde_values.specs.declared.value.Value.{Value}
use Rattle.dsde_values.specs.Path.{path_cmp}
use Rattle.dsde_sim_tree.specs.given.formalism.leaf_Leaf.{Leaf}
use Rattle.dsde_sim_tree.specs.given.formalism.System.{Ports, System}
use Rattle.dsde_sim_tree.specs.given.formalism.Leaf as leaf
use Rattle.dsde_sim_tree.specs.given.formalism.Leaf.{component_of, output_leaf}
use Rattle.dsde_core_moves.specs.given.grove.Grove.{Grove, value_of}
use Rattle.dsde_sim_tree.specs.Output.{by_port, values_at}
use Rattle.dsde_routes_wiring.specs.Wired.{is_same_handle}
use Rattle.dsde_routes_pushing.specs.lemmas.Handles.{same-handle}
use Rattle.dsde_routes_pushing.specs.lemmas.Lists.{Among, all-from, among-flat, among-from, contains-from, distinct-append, distinct-nil, each-among, wrong}
use Rattle.dsde_core_moves.specs.given.core_flat.spot_Spot.{Spot}
use Rattle.dsde_core_moves.specs.given.core_flat.spot_Spot_TheVariants as variant
use Rattle.dsde_core_moves.specs.given.core_flat.Grafts.{path_at}
use Rattle.dsde_core_moves.specs.given.core_flat.Scheduled.{is_next}
use Rattle.dsde_core_moves.specs.given.core_flat.lemmas_Names.{paths-total}
use Rattle.dsde_core_moves.specs.given.core_flat.due_Due.{Due}
use Rattle.dsde_core_moves.specs.given.core_flat.Due.{AreDue, IsDue, due_cmp}
use Rattle.dsde_core_parcels.specs.declared.parcel.Outlet.{Outlet}
use Rattle.dsde_core_parcels.specs.Sent.{IsSentBy, is_at, is_same_port, sent_at}
use Rattle.dsde_core_parcels.specs.Traffic.{sent_in, sent_or_none, traffic_of}
use Rattle.dsde_core_parcels.specs.Outlets.{outlets_by, outlets_from, turn_outlets}

itself : (handle : Handle) → is_same_handle handle handle ≡ true
itself handle = grind (arith, nat_tests)

and-false : (b : Bool) → (b && false) ≡ false
and-false true = refl
and-false false = refl

not-equal : (n m : ℕ) → (n ≡ m → ⊥) → (n == m) ≡ false
not-equal n m apart = grind (arith, nat_tests, apart)

not-true : (b : Bool) → (b ≡ true → ⊥) → b ≡ false
not-true true so = absurd (so refl)
not-true false so = refl

-- an outlet of this source, at this port or behind
abbrev IsFrom : Handle → ℕ → Outlet → Type 0
IsFrom source port outlet = (outlet.source ≡ source) × (port ≤ outlet.port)

all-later : (source : Handle) (port : ℕ) (outlets : List Outlet) → AllByRecursion (IsFrom source (port + 1)) outlets → AllByRecursion (IsFrom source port) outlets
all-later source port [] all = tt
all-later source port (outlet ∷ outlets) all = ((all.0.0, (let behind = all.0.1 in omega (arith, behind))), all-later source port outlets all.1)

all-from-source : (source : Handle) (port : ℕ) (ports : Ports) → AllByRecursion (IsFrom source port) (outlets_from source port ports)
all-from-source source port [] = tt
all-from-source source port ([] ∷ later) = all-later source port (outlets_from source (port + 1) later) (all-from-source source (port + 1) later)
all-from-source source port ((value ∷ values) ∷ later) = ((refl, omega arith), all-later source port (outlets_from source (port + 1) later) (all-from-source source (port + 1) later))

from-source : (source : Handle) (port : ℕ) (ports : Ports) (outlet : Outlet) → Among outlet (outlets_from source port ports) → outlet.source ≡ source
from-source source port ports outlet among = (each-among (IsFrom source port) (outlets_from source port ports) outlet (all-from-source source port ports) among).0

other-ports : (source : Handle) (port : ℕ) (values : List Value) (outlets : List Outlet) → AllByRecursion (IsFrom source (port + 1)) outlets → AllByRecursion (λ other. is_same_port (record { source = source; port = port; values = values }) other ≡ false) outlets
other-ports source port values [] all = tt
other-ports source port values (outlet ∷ outlets) all = (
  let behind = all.0.1 in
      ap (λ b. is_same_handle source outlet.source && b) (not-equal port outlet.port (λ same. omega (arith, behind, same))) ∙ and-false (is_same_handle source outlet.source),
  other-ports source port values outlets all.1,
)

-- the ports of one source are distinct
apart-from : (source : Handle) (port : ℕ) (ports : Ports) → IsDistinct is_same_port (outlets_from source port ports)
apart-from source port [] = distinct-nil is_same_port
apart-from source port ([] ∷ later) = apart-from source (port + 1) later
apart-from source port ((value ∷ values) ∷ later) =
    IsDistinct-cons is_same_port (record { source = source; port = port; values = value ∷ values }) (outlets_from source (port + 1) later)
    (other-ports source port (value ∷ values) (outlets_from source (port + 1) later) (all-from-source source (port + 1) later))
    (apart-from source (port + 1) later)

-- outlets of other sources
abbrev AreOthers : Handle → List Outlet → Type 0
AreOthers source outlets = AllByRecursion (λ outlet. is_same_handle source outlet.source ≡ false) outlets

elsewhere : (source : Handle) (port : ℕ) (outlet : Outlet) → is_same_handle source outlet.source ≡ false → is_at source port outlet ≡ false
elsewhere source port outlet other = ap (λ b. b && port == outlet.port) other

sent-behind : (source : Handle) (port : ℕ) (front outlets : List Outlet) → AreOthers source front → sent_at (front ++ outlets) source port ≡ sent_at outlets source port
sent-behind source port [] outlets others = refl
sent-behind source port (first ∷ front) outlets others =
    ap (λ (b : Bool). cond b first.values (sent_at (front ++ outlets) source port)) (elsewhere source port first others.0) ∙ sent-behind source port front outlets others.1

sent-none : (source : Handle) (port : ℕ) (outlets : List Outlet) → AreOthers source outlets → sent_at outlets source port ≡ []
sent-none source port [] others = refl
sent-none source port (first ∷ outlets) others =
    ap (λ (b : Bool). cond b first.values (sent_at outlets source port)) (elsewhere source port first others.0) ∙ sent-none source port outlets others.1

sent-front : (source : Handle) (port : ℕ) (front outlets : List Outlet) → AreOthers source outlets → sent_at (front ++ outlets) source port ≡ sent_at front source port
sent-front source port [] outlets others = sent-none source port outlets others
sent-front source port (first ∷ front) outlets others = ap (λ (values : List Value). cond (is_at source port first) first.values values) (sent-front source port front outlets others)

not-at : (source : Handle) (at port : ℕ) → (at ≡ port → ⊥) → (is_same_handle source source && at == port) ≡ false
not-at source at port apart = ap (λ b. is_same_handle source source && b) (not-equal at port apart) ∙ and-false (is_same_handle source source)

is-here : (source : Handle) (at port : ℕ) → at ≡ port → (is_same_handle source source && at == port) ≡ true
is-here source at port same = grind (arith, nat_tests, same)

-- nothing comes out of a port before these
sent-past : (source : Handle) (ports : Ports) (port at : ℕ) → at < port → sent_at (outlets_from source port ports) source at ≡ []
sent-past source [] port at before = refl
sent-past source ([] ∷ later) port at before = sent-past source later (port + 1) at (omega (arith, before))
sent-past source ((value ∷ values) ∷ later) port at before =
    ap (λ (b : Bool). cond b (value ∷ values) (sent_at (outlets_from source (port + 1) later) source at)) (not-at source at port (λ same. omega (arith, before, same)))
    ∙ sent-past source later (port + 1) at (omega (arith, before))

-- what comes out of a port is what is sent by it
sent-from : (source : Handle) (ports : Ports) (first port at : ℕ) → port + first ≡ at → sent_at (outlets_from source first ports) source at ≡ slice_index_or ports port []
sent-from source [] first port at is = refl
sent-from source ([] ∷ later) first zero at is = sent-past source later (first + 1) at (omega (arith, is))
sent-from source ((value ∷ values) ∷ later) first zero at is =
    ap (λ (b : Bool). cond b (value ∷ values) (sent_at (outlets_from source (first + 1) later) source at)) (is-here source at first (omega (arith, is)))
sent-from source ([] ∷ later) first (suc port) at is = sent-from source later (first + 1) port at (omega (arith, is))
sent-from source ((value ∷ values) ∷ later) first (suc port) at is =
    ap (λ (b : Bool). cond b (value ∷ values) (sent_at (outlets_from source (first + 1) later) source at)) (not-at source at first (λ same. omega (arith, is, same)))
    ∙ sent-from source later (first + 1) port at (omega (arith, is))

-- who is not due sends nothing
nothing-at : (first many port : ℕ) → slice_index_or (map (values_at []) (range_with_len first many)) port [] ≡ []
nothing-at first zero port = refl
nothing-at first (suc many) zero = refl
nothing-at first (suc many) (suc port) = nothing-at (first + 1) many port

module _ (system : System) (time : ℕ) where
  not-due : (held : Option Spot) (port : ℕ) → is_next held time ≡ false → slice_index_or (sent_in system time held) port [] ≡ []
  not-due None port is = refl
  not-due (Some (variant.Net model args)) port is = refl
  not-due (Some (variant.Leaf own)) port is =
      ap (λ (b : Bool). slice_index_or (sent_or_none (leaf.◌>>=◌ (cond b (output_leaf system own) (Ok [])) (λ items. Ok (by_port (component_of system own).outs items)))) port []) is
      ∙ nothing-at 0 (component_of system own).outs port

  module _ (own : Grove Spot) where
    abbrev by : Due → List Outlet
    by = outlets_by system time own

    abbrev AllDue : List Due → Type 0
    AllDue list = AllByRecursion (IsDue own time) list

    of-source : (due : Due) (outlet : Outlet) → Among outlet (by due) → outlet.source ≡ due.handle
    of-source due outlet among = from-source due.handle 0 (sent_in system time (value_of own due.handle)) outlet among

    -- two that have their places in path order are not one
    order-apart : (one other : Due) → IsDue own time one → IsDue own time other → due_cmp one other ≡ Less → is_same_handle one.handle other.handle ≡ false
    order-apart one other is its less = not-true (is_same_handle one.handle other.handle) (λ same.
        let path : one.path ≡ other.path = is.path ∙ ap (path_at own) (same-handle one.handle other.handle same) ∙ sym its.path in
        let tied : Less ≡ Equal = sym less ∙ ap (λ (path : Path). path_cmp path other.path) path ∙ tied_itself paths-total other.path in
        cc)

    later-apart : (one : Due) (list : List Due) → IsDue own time one → AllDue list → AllByRecursion (λ other. due_cmp one other ≡ Less) list → AllByRecursion (λ other. is_same_handle one.handle other.handle ≡ false) list
    later-apart one [] is all less = tt
    later-apart one (other ∷ list) is all less = (order-apart one other is all.0 less.0, later-apart one list is all.1 less.1)

    -- the outlets of others
    others-by : (source : Handle) (list : List Due) → AllByRecursion (λ due. is_same_handle source due.handle ≡ false) list → AreOthers source (flat_map by list)
    others-by source list apart =
        all-from (λ (outlet : Outlet). is_same_handle source outlet.source ≡ false) (flat_map by list) (λ outlet there.
        let found = among-flat by outlet list there in
        ap (is_same_handle source) (of-source found.0 outlet found.2) ∙ each-among (λ (due : Due). is_same_handle source due.handle ≡ false) list found.0 apart found.1)

    other-source : (one other : Outlet) → is_same_handle one.source other.source ≡ false → is_same_port one other ≡ false
    other-source one other apart = elsewhere one.source one.port other apart

    due-apart : (list : List Due) → AllDue list → IsStrictlySortedBy due_cmp list → IsDistinct is_same_port (flat_map by list)
    due-apart [] all order = distinct-nil is_same_port
    due-apart (due ∷ list) all order =
        let apart = later-apart due list all.0 all.1 (sorted_head due_cmp due list order) in
        distinct-append is_same_port (by due) (flat_map by list) (apart-from due.handle 0 (sent_in system time (value_of own due.handle)))
        (due-apart list all.1 (sorted_tail due_cmp due list order))
        (λ one other here there.
        other-source one other (
        ap (λ (handle : Handle). is_same_handle handle other.source) (of-source due one here)
        ∙ each-among (λ (outlet : Outlet). is_same_handle due.handle outlet.source ≡ false) (flat_map by list) other (others-by due.handle list apart) there))

    -- what somebody who is due sends
    sent-by : (due : Due) (list : List Due) → AllDue list → IsStrictlySortedBy due_cmp list → Among due list → (port : ℕ) → sent_at (flat_map by list) due.handle port ≡ slice_index_or (sent_in system time (value_of own due.handle)) port []
    sent-by due [] all order among port = absurd among
    sent-by due (first ∷ list) all order (inl is) port =
        let apart = later-apart first list all.0 all.1 (sorted_head due_cmp first list order) in
        subst (λ (own_due : Due). sent_at (flat_map by (first ∷ list)) own_due.handle port ≡ slice_index_or (sent_in system time (value_of own own_due.handle)) port []) (sym is)
        (sent-front first.handle port (by first) (flat_map by list) (others-by first.handle list apart)
        ∙ sent-from first.handle (sent_in system time (value_of own first.handle)) 0 port port (omega arith))
    sent-by due (first ∷ list) all order (inr among) port =
        let apart = later-apart first list all.0 all.1 (sorted_head due_cmp first list order) in
        let other : is_same_handle due.handle first.handle ≡ false =
        not-true (is_same_handle due.handle first.handle) (λ same.
        let is = same-handle due.handle first.handle same in
        let yes : is_same_handle first.handle due.handle ≡ true = ap (is_same_handle first.handle) is ∙ itself first.handle in
        let no = each-among (λ (other : Due). is_same_handle first.handle other.handle ≡ false) list due apart among in
        wrong (sym no ∙ yes)) in
        sent-behind due.handle port (by first) (flat_map by list) (others-of first due.handle other)
        ∙ sent-by due list all.1 (sorted_tail due_cmp first list order) among port
      where
        others-of : (first : Due) (source : Handle) → is_same_handle source first.handle ≡ false → AreOthers source (by first)
        others-of first source other = all-from (λ (outlet : Outlet). is_same_handle source outlet.source ≡ false) (by first) (λ outlet there. ap (is_same_handle source) (of-source first outlet there) ∙ other)

    module _ (top : Handle) (got : Ports) (top_is : (leaf : Leaf) → value_of own top ≡ Some (variant.Leaf leaf) → ⊥) (list : List Due) (are : AreDue own time list) where
      all-due : AllDue list
      all-due = all-from (IsDue own time) list (λ due there. (are.each due).0 (contains-from list due there))

      -- the root is not due
      root-waits : is_next (value_of own top) time ≡ false
      root-waits = waits (value_of own top) top_is
        where
          waits : (held : Option Spot) → ((leaf : Leaf) → held ≡ Some (variant.Leaf leaf) → ⊥) → is_next held time ≡ false
          waits None none = refl
          waits (Some (variant.Net model args)) none = refl
          waits (Some (variant.Leaf leaf)) none = absurd (none leaf refl)

      -- who is due is none that is not
      apart-from-waiting : (source : Handle) → is_next (value_of own source) time ≡ false → AllByRecursion (λ due. is_same_handle source due.handle ≡ false) list
      apart-from-waiting source waits = all-from (λ (due : Due). is_same_handle source due.handle ≡ false) list (λ due there.
          not-true (is_same_handle source due.handle) (λ same.
          let is = each-among (IsDue own time) list due all-due there in
          wrong (sym waits ∙ ap (λ (handle : Handle). is_next (value_of own handle) time) (same-handle source due.handle same) ∙ is.next)))

      front-apart : (one other : Outlet) → Among one (flat_map by list) → Among other (outlets_from top 0 got) → is_same_port one other ≡ false
      front-apart one other here there =
          let found = among-flat by one list here in
          other-source one other (
          (λ i. is_same_handle (of-source found.0 one found.2 i) (from-source top 0 got other there i))
          ∙ not-true (is_same_handle found.0.handle top) (λ same.
          let is = each-among (IsDue own time) list found.0 all-due found.1 in
          wrong (sym root-waits ∙ ap (λ (handle : Handle). is_next (value_of own handle) time) (sym (same-handle found.0.handle top same)) ∙ is.next)))

      last-others : (source : Handle) → is_same_handle source top ≡ false → AreOthers source (outlets_from top 0 got)
      last-others source other = all-from (λ (outlet : Outlet). is_same_handle source outlet.source ≡ false) (outlets_from top 0 got) (λ outlet there. ap (is_same_handle source) (from-source top 0 got outlet there) ∙ other)

      due-values : (source : Handle) (port : ℕ) (due : Bool) → is_next (value_of own source) time ≡ due → slice_index_or (sent_in system time (value_of own source)) port [] ≡ sent_at (flat_map by list) source port
      due-values source port false waits = not-due (value_of own source) port waits ∙ sym (sent-none source port (flat_map by list) (others-by source list (apart-from-waiting source waits)))
      due-values source port true next =
          let due : Due = record { path = path_at own source; handle = source } in
          sym (sent-by due list all-due are.order (among-from list due ((are.each due).1 (record { next = next; path = refl }))) port)

      values-are : (source : Handle) (port : ℕ) (is_top : Bool) → is_same_handle source top ≡ is_top →
          slice_index_or (cond is_top got (sent_in system time (value_of own source))) port [] ≡ sent_at (turn_outlets system time own top got list) source port
      values-are source port true is =
          let same = same-handle source top is in
          sym (sent-behind source port (flat_map by list) (outlets_from top 0 got) (others-by source list (apart-from-waiting source (ap (λ (handle : Handle). is_next (value_of own handle) time) same ∙ root-waits)))
          ∙ ap (λ (handle : Handle). sent_at (outlets_from top 0 got) handle port) same
          ∙ sent-from top got 0 port port (omega arith))
      values-are source port false is =
          due-values source port (is_next (value_of own source) time) refl
          ∙ sym (sent-front source port (flat_map by list) (outlets_from top 0 got) (last-others source is))

      -- the outlets of a turn are what is sent
      pub are-sent : IsSentBy (traffic_of system own top time got) (turn_outlets system time own top got list)
      are-sent = record {
        apart = distinct-append is_same_port (flat_map by list) (outlets_from top 0 got) (due-apart list all-due are.order) (apart-from top 0 got) front-apart;
        values = λ source port. values-are source port (is_same_handle source top) refl;
      }
