-- What is restored of rows stands, and the rows are its image.
use Rattle.std.proofs.Common.{◌≡◌, ◌⊎◌, ◌==◌, ℕ, zero, suc, ◌+◌, ◌≤◌, ◌&&◌, Bool, true, false, List, [], ◌∷◌, ◌++◌, map, Option, Some, None, refl, sym, ap, subst, ◌∙◌, inl, inr, append-nil, append_assoc, arith}
use Rattle.std.specs.Prelude.{if◌then◌else◌, Result, Ok, Err, nat_le}
use Rattle.std.specs.List.{AllByRecursion, flat_map}
use Rattle.std.specs.Str.{bytes_eq}
use Rattle.std.proofs.lemmas.Bool.{eqb-true, leb-true}
use Rattle.std.proofs.lemmas.List.Sums.{sum_by-cons}
use Rattle.std.proofs.lemmas.Slice.Eq.{bytes_eq-Decides}
use Rattle.dsde_values.specs.declared.path.Path.{Path}
use Rattle.dsde_values.specs.declared.value.Value.{Value}
use Rattle.dsde_values.specs.declared.when.When.{When}
use Rattle.dsde_values.specs.declared.when.When.TheVariants.{At, Never}
use Rattle.dsde_values.specs.Path.{path_text, root}
use Rattle.dsde_faults.specs.declared.end.LeafEnd.{LeafEnd}
use Rattle.dsde_sim_movers.specs.given.language.ids_ModelId.{ModelId}
use Rattle.dsde_sim_movers.specs.given.formalism.leaf_Leaf.{Leaf}
use Rattle.dsde_sim_movers.specs.given.formalism.System.{System, Chosen}
use Rattle.dsde_sim_movers.specs.given.structure.plan_Entry.{Entry}
use Rattle.dsde_sim_movers.specs.given.structure.plan_Plan.{Plan}
use Rattle.dsde_sim_movers.specs.given.sim_tree.Told.{below, to_boss}
use Rattle.dsde_sim_movers.specs.given.sim_tree.sim_Kid.{Kid}
use Rattle.dsde_sim_movers.specs.given.sim_tree.sim_Sim.{Sim}
use Rattle.dsde_sim_movers.specs.given.sim_tree.sim_Sim_TheVariants as sim
use Rattle.dsde_sim_movers.specs.given.sim_tree.sim_Sim_TheViews.{out-roll-Kid, out-roll-Net}
use Rattle.dsde_sim_movers.specs.given.sim_tree.sim_TheConstants.{DEEPEST}
use Rattle.dsde_sim_movers.specs.given.sim_tree.Start.{kid_of, net_of}
use Rattle.dsde_sim_movers.specs.given.sim_tree.Tree.{parts, parts_of_kid, parts_of_kids, model_of, entry_of}
use Rattle.dsde_sim_movers.specs.given.sim_tree.step_TheConstants.{MOST_PARTS}
use Rattle.dsde_sim_movers.specs.Stands.{IsDueLater, StayAs}
use Rattle.dsde_sim_movers.specs.lemmas.Opened.{parts-Leaf, parts-Net, parts-kid}
use Rattle.dsde_sim_movers.specs.lemmas.Standing.{IsLeaf, IsPart, KidStands, leaf-part, net-part, kid-is, AreKids}
use Rattle.dsde_image.specs.Image.{location_of}
use Rattle.dsde_image.specs.declared.image.Body.{Body}
use Rattle.dsde_image.specs.declared.image.Body.TheVariants as body
use Rattle.dsde_image.specs.declared.image.Location.{Location}
use Rattle.dsde_image.specs.declared.image.Location.TheVariants as location
use Rattle.dsde_image.specs.declared.image.Row.{Row}
use Rattle.dsde_image.specs.declared.image.Standing.{Standing}
use Rattle.dsde_image.specs.declared.image.Version.{Version}
use Rattle.dsde_image_rows.specs.Rows.{Script, texts, standing_of, rows, rows_of_kid, net_row, boss_row}
use Rattle.dsde_image_rows.specs.Walk.{Left, Walked, ◌>>=◌, ◌and_then◌, at, only_if, is_same_location, took, texts_eq, args_in, is_next, is_due_later, is_standing, stood, said_by, atomic_in, boss_in, net_in, took_net, with_args, restored_atomic, restored_boss, planned, restored_kids, with_plan, with_boss, restored_net, restored, only_at_end, tree_of}
use Rattle.dsde_image_rows.specs.Fits.{IsExact, RestoredRight}
use Rattle.dsde_image_rows.proofs.Opens.{rows-Leaf, rows-Net, rows-kid}

pub ok-is : {A : Type 0} {x y : A} → (let own : Walked A = Ok x in own ≡ Ok y) → x ≡ y
ok-is is = cc

pub some-is : {A : Type 0} {x y : A} → (let own : Option A = Some x in own ≡ Some y) → x ≡ y
some-is is = cc

pub bind-ok : {A B : Type 0} (read : Walked A) (next : A → Walked B) (value : B) → (read >>= next) ≡ Ok value → (x : A) × (read ≡ Ok x) × (next x ≡ Ok value)
bind-ok (Ok x) next value is = (x, refl, is)
bind-ok (Err why) next value is = absurd (cc is)

then-some : {A B : Type 0} (found : Option A) (next : A → Option B) (value : B) → (found and_then next) ≡ Some value → (x : A) × (found ≡ Some x) × (next x ≡ Some value)
then-some (Some x) next value is = (x, refl, is)
then-some None next value is = absurd (cc is)

pub at-ok : {A : Type 0} (path : Path) (found : Option A) (value : A) → at path found ≡ Ok value → found ≡ Some value
at-ok path (Some x) value is = ap (λ own. Some own) (ok-is is)
at-ok path None value is = absurd (cc is)

pub only-if : {A : Type 0} (test : Bool) (found : Option A) (value : A) → only_if test found ≡ Some value → (test ≡ true) × (found ≡ Some value)
only-if true found value is = (refl, is)
only-if false found value is = absurd (cc is)

both : (a b : Bool) → (a && b) ≡ true → (a ≡ true) × (b ≡ true)
both true true is = (refl, refl)
both true false is = absurd (cc is)
both false b is = absurd (cc is)

same-bytes : (a b : List ℕ) → bytes_eq a b ≡ true → a ≡ b
same-bytes a b is = (bytes_eq-Decides a b).0 is

same-location : (own other : Location) → is_same_location own other ≡ true → own ≡ other
same-location (location.Path text) (location.Path other) is = ap location.Path (same-bytes text other is)
same-location (location.Path text) (location.Last other many) is = absurd (cc is)
same-location (location.Last name depth) (location.Path other) is = absurd (cc is)
same-location (location.Last name depth) (location.Last other many) is =
    let parts = both (bytes_eq name other) (depth == many) is in
    ap (λ (own : List ℕ). location.Last own depth) (same-bytes name other parts.0) ∙ ap (location.Last other) (eqb-true depth many parts.1)

same-texts : (own others : List (List ℕ)) → texts_eq own others ≡ true → own ≡ others
same-texts [] [] is = refl
same-texts [] (other ∷ others) is = absurd (cc is)
same-texts (text ∷ own) [] is = absurd (cc is)
same-texts (text ∷ own) (other ∷ others) is =
    let parts = both (bytes_eq text other) (texts_eq own others) is in
    ap (λ (first : List ℕ). first ∷ own) (same-bytes text other parts.0) ∙ ap (λ (rest : List (List ℕ)). other ∷ rest) (same-texts own others parts.1)

is-next : (found : Result When LeafEnd) (next : When) → is_next found next ≡ true → found ≡ Ok next
is-next (Ok (At time)) (At next) is = ap (λ (n : ℕ). let own : Result When LeafEnd = Ok (At n) in own) (eqb-true time next is)
is-next (Ok (At time)) Never is = absurd (cc is)
is-next (Ok Never) (At next) is = absurd (cc is)
is-next (Ok Never) Never is = refl
is-next (Err why) (At next) is = absurd (cc is)
is-next (Err why) Never is = absurd (cc is)

due-later : (time : ℕ) (next : When) → is_due_later time next ≡ true → IsDueLater time next
due-later time (At next) is = leb-true time next is
due-later time Never is = tt

parts-cons : (kid : Kid) (kids : List Kid) → parts_of_kids (kid ∷ kids) ≡ parts_of_kid kid + parts_of_kids kids
parts-cons kid kids = sum_by-cons (λ x. x) (parts_of_kid kid) (map parts_of_kid kids)

module _ (system : System) (script : Script) (version : Version) (time : ℕ) where
  -- The next row was that of the path.
  pub record Took (path : Path) (here : Left) (one : Row × Left) : Type 0 where
    pub location_is : one.0.location ≡ location_of version path
    pub rows : here.0 ≡ one.0 ∷ one.1.0
    pub room : here.1 ≡ suc one.1.1

  pub took-row : (left : ℕ) (path : Path) (here : Left) (one : Row × Left) → took version left path here ≡ Ok one → Took path here one
  took-row zero path here one is = absurd (cc is)
  took-row (suc left) path (listed, zero) one is = absurd (cc is)
  took-row (suc left) path ([], suc room) one is = absurd (cc is)
  took-row (suc left) path (row ∷ listed, suc room) one is =
      let found = only-if (is_same_location row.location (location_of version path)) _ one (at-ok path _ one is) in
      subst (Took path (row ∷ listed, suc room)) (some-is found.1) (record { location_is = same-location row.location (location_of version path) found.0; rows = refl; room = refl })

  row-is : (row : Row) (at : Location) (model : List ℕ) (own : Body) → row.location ≡ at → row.model ≡ model → row.body ≡ own → row ≡ record { location = at; model = model; body = own }
  row-is row at model own location_is model_is body_is =
      ap (λ (at : Location). let one : Row = record { location = at; model = row.model; body = row.body } in one) location_is
      ∙ ap (λ (model : List ℕ). let one : Row = record { location = at; model = model; body = row.body } in one) model_is
      ∙ ap (λ (own : Body). let one : Row = record { location = at; model = model; body = own } in one) body_is

  plan-is : (found : Result Plan LeafEnd) (path : Path) (plan : Plan) → (let own : Walked Plan = elim found [ Ok plan ↦ Ok plan | Err why ↦ Err (path_text (to_boss path)) ] in own ≡ Ok plan) → found ≡ Ok plan
  plan-is (Ok own) path plan is = ap (λ (p : Plan). let one : Result Plan LeafEnd = Ok p in one) (ok-is is)
  plan-is (Err why) path plan is = absurd (cc is)

  module _ (exact : IsExact script) where
    -- arguments that a row says: any where the part is soft
    record Said (soft : Bool) (wanted : List Value) (own : List (List ℕ)) (args : List Value) : Type 0 where
      free : (soft ≡ true) ⊎ (args ≡ wanted)
      own_is : own ≡ texts script args

    said-args : (soft : Bool) (model : ModelId) (wanted : List Value) (own : List (List ℕ)) (args : List Value) → args_in script soft model wanted own ≡ Some args → Said soft wanted own args
    said-args true model wanted own args is = record { free = inl refl; own_is = sym (exact.args model own args is) }
    said-args false model wanted own args is =
        let tested = only-if (texts_eq own (texts script wanted)) (Some wanted) args is in
        let same : wanted ≡ args = some-is tested.1 in
        record { free = inr (sym same); own_is = same-texts own (texts script wanted) tested.0 ∙ ap (texts script) same }

    -- a component with this standing
    record Stood (model : ModelId) (boss : Bool) (args : List Value) (standing : Standing) (leaf : Leaf) : Type 0 where
      leaf_is : IsLeaf system time model boss args leaf
      standing_is : standing ≡ standing_of script leaf

    stood-leaf : (model : ModelId) (boss : Bool) (args : List Value) (standing : Standing) (leaf : Leaf) → stood system script time model boss args standing ≡ Some leaf → Stood model boss args standing leaf
    stood-leaf model boss args standing leaf is =
        let read = then-some (script.state model standing.state) _ leaf is in
        let tested = only-if (is_standing standing ((system.component model args).advance read.0 standing.last) time) _ leaf read.2 in
        let last = both _ (is_due_later time standing.next) tested.0 in
        let first = both (nat_le standing.last time) (is_next ((system.component model args).advance read.0 standing.last) standing.next) last.0 in
        subst (Stood model boss args standing) (some-is tested.1) (record {
          leaf_is = record {
            stands = record {
              last = leb-true standing.last time first.0;
              advance = is-next ((system.component model args).advance read.0 standing.last) standing.next first.1;
              later = due-later time standing.next last.1;
            };
            model_is = refl;
            boss_is = refl;
            args_is = refl;
          };
          standing_is = ap (λ (own : List (List ℕ)). let one : Standing = record { state = own; last = standing.last; next = standing.next } in one) (sym (exact.state model standing.state read.0 read.1));
        })

    record Atomic (soft : Bool) (model : ModelId) (wanted : List Value) (own : Body) (leaf : Leaf) : Type 0 where
      args : List Value
      free : (soft ≡ true) ⊎ (args ≡ wanted)
      leaf_is : IsLeaf system time model false args leaf
      body_is : own ≡ body.Atomic (texts script leaf.args) (standing_of script leaf)

    atomic-leaf : (soft : Bool) (model : ModelId) (wanted : List Value) (own : Body) (leaf : Leaf) → atomic_in system script time soft model wanted own ≡ Some leaf → Atomic soft model wanted own leaf
    atomic-leaf soft model wanted (body.Atomic listed standing) leaf is =
        let read = then-some (args_in script soft model wanted listed) (λ args. stood system script time model false args standing) leaf is in
        let said = said-args soft model wanted listed read.0 read.1 in
        let found = stood-leaf model false read.0 standing leaf read.2 in
        record {
          args = read.0;
          free = said.free;
          leaf_is = found.leaf_is;
          body_is = ap (λ (own : List (List ℕ)). body.Atomic own standing) (said.own_is ∙ ap (texts script) (sym found.leaf_is.args_is)) ∙ ap (body.Atomic (texts script leaf.args)) found.standing_is;
        }
    atomic-leaf soft model wanted (body.Net listed) leaf is = absurd (cc is)
    atomic-leaf soft model wanted (body.Executive standing) leaf is = absurd (cc is)

    record Boss (model : ModelId) (args : List Value) (own : Body) (leaf : Leaf) : Type 0 where
      leaf_is : IsLeaf system time model true args leaf
      body_is : own ≡ body.Executive (standing_of script leaf)

    boss-leaf : (model : ModelId) (args : List Value) (own : Body) (leaf : Leaf) → boss_in system script time model args own ≡ Some leaf → Boss model args own leaf
    boss-leaf model args (body.Executive standing) leaf is =
        let found = stood-leaf model true args standing leaf is in
        record { leaf_is = found.leaf_is; body_is = ap body.Executive found.standing_is }
    boss-leaf model args (body.Atomic listed standing) leaf is = absurd (cc is)
    boss-leaf model args (body.Net listed) leaf is = absurd (cc is)

    record NetArgs (soft : Bool) (wanted : List Value) (own : Body) (args : List Value) : Type 0 where
      free : (soft ≡ true) ⊎ (args ≡ wanted)
      body_is : own ≡ body.Net (texts script args)

    net-args : (soft : Bool) (model : ModelId) (wanted : List Value) (own : Body) (args : List Value) → net_in script soft model wanted own ≡ Some args → NetArgs soft wanted own args
    net-args soft model wanted (body.Net listed) args is =
        let said = said-args soft model wanted listed args is in
        record { free = said.free; body_is = ap body.Net said.own_is }
    net-args soft model wanted (body.Atomic listed standing) args is = absurd (cc is)
    net-args soft model wanted (body.Executive standing) args is = absurd (cc is)

    -- A part was restored from the front of rows.
    record Restored (left : ℕ) (soft : Bool) (model : ModelId) (wanted : List Value) (path : Path) (here : Left) (one : Sim × Left) : Type 0 where
      args : List Value
      free : (soft ≡ true) ⊎ (args ≡ wanted)
      part : IsPart system time left model args one.0
      rows_are : here.0 ≡ rows script version one.0 path ++ one.1.0
      room_is : here.1 ≡ parts one.0 + one.1.1

    atomic-restored : (left : ℕ) (soft : Bool) (model : ModelId) (wanted : List Value) (path : Path) (here : Left) (one : Sim × Left) → system.is_network model ≡ false →
        restored_atomic system script version time (suc left) soft model wanted path here ≡ Ok one → Restored (suc left) soft model wanted path here one
    atomic-restored left soft model wanted path here one atomic is =
        let first = bind-ok (took version (suc left) path here) _ one is in
        let second = bind-ok (at path (said_by script first.0.0 model (atomic_in system script time soft model wanted first.0.0.body))) _ one first.2 in
        let row = took-row (suc left) path here first.0 first.1 in
        let said = only-if (bytes_eq first.0.0.model (script.model model)) _ second.0 (at-ok path _ second.0 second.1) in
        let found = atomic-leaf soft model wanted first.0.0.body second.0 said.1 in
        let model_is = same-bytes first.0.0.model (script.model model) said.0 ∙ ap script.model (sym found.leaf_is.model_is) in
        subst (Restored (suc left) soft model wanted path here) (ok-is second.2) (record {
          args = found.args;
          free = found.free;
          part = leaf-part system time (suc left) model found.args second.0 (omega arith) atomic found.leaf_is;
          rows_are = row.rows ∙ ap (λ (own : Row). own ∷ first.0.1.0) (row-is first.0.0 (location_of version path) (script.model second.0.model) _ row.location_is model_is found.body_is)
              ∙ ap (λ (listed : List Row). listed ++ first.0.1.0) (sym (rows-Leaf script version second.0 path));
          room_is = omega (arith, row.room, parts-Leaf second.0);
        })

    record BossRestored (left : ℕ) (model : ModelId) (args : List Value) (path : Path) (here : Left) (one : Leaf × Left) : Type 0 where
      leaf_is : IsLeaf system time model true args one.0
      some : 1 ≤ left
      rows_are : here.0 ≡ boss_row script version path one.0 ∷ one.1.0
      room_is : here.1 ≡ suc one.1.1

    took-some : (left : ℕ) (path : Path) (here : Left) (one : Row × Left) → took version left path here ≡ Ok one → 1 ≤ left
    took-some zero path here one is = absurd (cc is)
    took-some (suc left) path here one is = omega arith

    boss-restored : (left : ℕ) (model : ModelId) (args : List Value) (path : Path) (here : Left) (one : Leaf × Left) → restored_boss system script version time left model args path here ≡ Ok one → BossRestored left model args path here one
    boss-restored left model args path here one is =
        let first = bind-ok (took version left (to_boss path) here) _ one is in
        let second = bind-ok (at (to_boss path) (said_by script first.0.0 model (boss_in system script time model args first.0.0.body))) _ one first.2 in
        let row = took-row left (to_boss path) here first.0 first.1 in
        let said = only-if (bytes_eq first.0.0.model (script.model model)) _ second.0 (at-ok (to_boss path) _ second.0 second.1) in
        let found = boss-leaf model args first.0.0.body second.0 said.1 in
        let model_is = same-bytes first.0.0.model (script.model model) said.0 ∙ ap script.model (sym found.leaf_is.model_is) in
        subst (BossRestored left model args path here) (ok-is second.2) (record {
          leaf_is = found.leaf_is;
          some = took-some left (to_boss path) here first.0 first.1;
          rows_are = row.rows ∙ ap (λ (own : Row). own ∷ first.0.1.0) (row-is first.0.0 (location_of version (to_boss path)) (script.model second.0.model) _ row.location_is model_is found.body_is);
          room_is = row.room;
        })

    record NetTook (left : ℕ) (soft : Bool) (model : ModelId) (wanted : List Value) (path : Path) (here : Left) (own : List Value × Left) : Type 0 where
      free : (soft ≡ true) ⊎ (own.0 ≡ wanted)
      rows_are : here.0 ≡ net_row script version path model own.0 ∷ own.1.0
      room_is : here.1 ≡ suc own.1.1

    net-took : (left : ℕ) (soft : Bool) (model : ModelId) (wanted : List Value) (path : Path) (here : Left) (own : List Value × Left) → took_net script version left soft model wanted path here ≡ Ok own → NetTook left soft model wanted path here own
    net-took left soft model wanted path here own is =
        let first = bind-ok (took version left path here) _ own is in
        let second = bind-ok (at path (said_by script first.0.0 model (net_in script soft model wanted first.0.0.body))) _ own first.2 in
        let row = took-row left path here first.0 first.1 in
        let said = only-if (bytes_eq first.0.0.model (script.model model)) _ second.0 (at-ok path _ second.0 second.1) in
        let found = net-args soft model wanted first.0.0.body second.0 said.1 in
        subst (NetTook left soft model wanted path here) (ok-is second.2) (record {
          free = found.free;
          rows_are = row.rows ∙ ap (λ (own : Row). own ∷ first.0.1.0) (row-is first.0.0 (location_of version path) (script.model model) _ row.location_is (same-bytes first.0.0.model (script.model model) said.0) found.body_is);
          room_is = row.room;
        })

    abbrev Right : ℕ → Type 0
    Right left = (soft : Bool) (model : ModelId) (wanted : List Value) (path : Path) (here : Left) (one : Sim × Left) → restored system script version time left soft model wanted path here ≡ Ok one → Restored left soft model wanted path here one

    record KidsRestored (left : ℕ) (entries : List Entry) (path : Path) (here : Left) (done : List Kid) (all : List Kid × Left) : Type 0 where
      kids : List Kid
      is : all.0 ≡ done ++ kids
      are : AreKids system time left entries kids
      rows_are : here.0 ≡ flat_map (λ kid. rows_of_kid script version kid path) kids ++ all.1.0
      room_is : here.1 ≡ parts_of_kids kids + all.1.1

    kids-restored : (left : ℕ) → Right left → (entries : List Entry) (path : Path) (here : Left) (done : List Kid) (all : List Kid × Left) →
        restored_kids system script version time (restored system script version time left) entries path here done ≡ Ok all → KidsRestored left entries path here done all
    kids-restored left right [] path here done all is =
        subst (KidsRestored left [] path here done) (ok-is is) (record { kids = []; is = sym (append-nil done); are = record { stand = tt; stay = tt }; rows_are = refl; room_is = omega arith })
    kids-restored left right (entry ∷ entries) path here done all is =
        let first = bind-ok (restored system script version time left entry.soft entry.model entry.args (below path entry.name) here) _ all is in
        let own = right entry.soft entry.model entry.args (below path entry.name) here first.0 first.1 in
        let kid = kid_of entry.name first.0.0 in
        let later = kids-restored left right entries path first.0.1 (done ++ kid ∷ []) all first.2 in
        let kid_right = kid-is system time left entry own.args first.0.0 own.free own.part in
        let opened = out-roll-Kid (record { name = entry.name; sim = first.0.0 }) in
        record {
          kids = kid ∷ later.kids;
          is = later.is ∙ append_assoc done (kid ∷ []) later.kids;
          are = record { stand = (kid_right.stands, later.are.stand); stay = (kid_right.stays, later.are.stay) };
          rows_are = own.rows_are
              ∙ ap (λ (listed : List Row). listed ++ first.0.1.0) (sym (rows-kid script version kid path ∙ ap (λ whole. rows script version whole.sim (below path whole.name)) opened))
              ∙ ap (λ (rest : List Row). rows_of_kid script version kid path ++ rest) later.rows_are
              ∙ sym (append_assoc (rows_of_kid script version kid path) (flat_map (λ kid. rows_of_kid script version kid path) later.kids) all.1.0);
          room_is = let same : parts_of_kid kid ≡ parts first.0.0 = parts-kid kid ∙ ap (λ whole. parts whole.sim) opened in omega (arith, own.room_is, later.room_is, parts-cons kid later.kids, same);
        }

    net-restored : (left : ℕ) → Right left → (soft : Bool) (model : ModelId) (wanted : List Value) (path : Path) (here : Left) (one : Sim × Left) → system.is_network model ≡ true →
        restored_net system script version time left (restored system script version time left) soft model wanted path here ≡ Ok one → Restored (suc left) soft model wanted path here one
    net-restored left right soft model wanted path here one network is =
        let walker = restored system script version time left in
        let taken = bind-ok (took_net script version (suc left) soft model wanted path here) (with_args system script version time left walker model path) one is in
        let args = taken.0.0 in
        let third = bind-ok (restored_boss system script version time left model args path taken.0.1) (with_boss system script version time walker model args path) one taken.2 in
        let fourth = bind-ok (planned system model args third.0.0 path) (with_plan system script version time walker model args path third.0.0 third.0.1) one third.2 in
        let fifth = bind-ok (restored_kids system script version time walker fourth.0.entries path third.0.1 []) _ one fourth.2 in
        let row = net-took (suc left) soft model wanted path here taken.0 taken.1 in
        let boss = boss-restored left model args path taken.0.1 third.0 third.1 in
        let structure = plan-is ((system.network model args).structure third.0.0.state) path fourth.0 fourth.1 in
        let kids = kids-restored left right fourth.0.entries path third.0.1 [] fifth.0 fifth.1 in
        let net = net_of model args third.0.0 fifth.0.0 fourth.0.links in
        let opened = out-roll-Net (record { model = model; args = args; boss = third.0.0; kids = fifth.0.0; links = fourth.0.links }) in
        let kids_rows = flat_map (λ kid. rows_of_kid script version kid path) fifth.0.0 in
        let listed_kids : third.0.1.0 ≡ kids_rows ++ fifth.0.1.0 = kids.rows_are ∙ ap (λ (own : List Kid). flat_map (λ kid. rows_of_kid script version kid path) own ++ fifth.0.1.0) (sym kids.is) in
        subst (Restored (suc left) soft model wanted path here) (ok-is fifth.2) (record {
          args = args;
          free = row.free;
          part = net-part system time left model args third.0.0 fifth.0.0 fourth.0.links fourth.0 boss.some network boss.leaf_is
              (subst (AllByRecursion (KidStands system time left)) (sym kids.is) kids.are.stand) structure
              (record { stay = subst (λ (own : List Kid). StayAs (map entry_of own) fourth.0.entries) (sym kids.is) kids.are.stay; links_are = refl });
          rows_are = row.rows_are
              ∙ ap (λ (rest : List Row). net_row script version path model args ∷ rest) (boss.rows_are ∙ ap (λ (rest : List Row). boss_row script version path third.0.0 ∷ rest) listed_kids)
              ∙ ap (λ (listed : List Row). listed ++ fifth.0.1.0) (sym (rows-Net script version net path ∙ ap (λ whole. net_row script version path whole.model whole.args ∷ boss_row script version path whole.boss ∷ flat_map (λ kid. rows_of_kid script version kid path) whole.kids) opened));
          room_is =
              let whole : parts (sim.Net net) ≡ 2 + parts_of_kids fifth.0.0 = parts-Net net ∙ ap (λ whole. 2 + parts_of_kids whole.kids) opened in
              let few : parts_of_kids fifth.0.0 ≡ parts_of_kids kids.kids = ap parts_of_kids kids.is in
              omega (arith, row.room_is, boss.room_is, kids.room_is, whole, few);
        })

    by-kind : (left : ℕ) → Right left → (network : Bool) (soft : Bool) (model : ModelId) (wanted : List Value) (path : Path) (here : Left) (one : Sim × Left) → system.is_network model ≡ network →
        (if network then restored_net system script version time left (restored system script version time left) soft model wanted path here else restored_atomic system script version time (suc left) soft model wanted path here) ≡ Ok one →
        Restored (suc left) soft model wanted path here one
    by-kind left right true soft model wanted path here one network is = net-restored left right soft model wanted path here one network is
    by-kind left right false soft model wanted path here one atomic is = atomic-restored left soft model wanted path here one atomic is

    restored-right : (left : ℕ) → Right left
    restored-right zero soft model wanted path here one is = absurd (cc is)
    restored-right (suc left) soft model wanted path here one is = by-kind left (restored-right left) (system.is_network model) soft model wanted path here one refl is

    end-is : (own : Sim) (rest : List Row) (tree : Sim) → only_at_end own rest ≡ Ok tree → (rest ≡ []) × (own ≡ tree)
    end-is own [] tree is = (refl, ok-is is)
    end-is own (row ∷ listed) tree is = absurd (cc is)

    -- the root is not soft
    firm : (args wanted : List Value) → (false ≡ true) ⊎ (args ≡ wanted) → args ≡ wanted
    firm args wanted (inl soft) = absurd (cc soft)
    firm args wanted (inr same) = same

    by-top : (top : Result Chosen LeafEnd) → system.top ≡ top → (listed : List Row) (tree : Sim) →
        (let found : Walked Sim = elim top [
          | Err why ↦ Err (path_text root)
          | Ok chosen ↦ restored system script version time DEEPEST false chosen.model chosen.args root (listed, MOST_PARTS) >>= λ one. only_at_end one.0 one.1.0
        ] in found ≡ Ok tree) → RestoredRight system script version time listed tree
    by-top (Err why) top listed tree is = absurd (cc is)
    by-top (Ok chosen) top listed tree is =
        let first = bind-ok (restored system script version time DEEPEST false chosen.model chosen.args root (listed, MOST_PARTS)) _ tree is in
        let own = restored-right DEEPEST false chosen.model chosen.args root (listed, MOST_PARTS) first.0 first.1 in
        let end = end-is first.0.0 first.0.1.0 tree first.2 in
        subst (RestoredRight system script version time listed) end.1 (record {
          stands = record {
            tree = record {
              stands = own.part.stands;
              top = top
                  ∙ ap (λ (model : ModelId). let found : Result Chosen LeafEnd = Ok (record { model = model; args = chosen.args }) in found) (sym own.part.model_is)
                  ∙ ap (λ (args : List Value). let found : Result Chosen LeafEnd = Ok (record { model = model_of first.0.0; args = args }) in found) (sym (own.part.args_is ∙ firm own.args chosen.args own.free));
            };
            parts = omega (arith, own.room_is);
          };
          image = own.rows_are ∙ ap (λ (rest : List Row). rows script version first.0.0 root ++ rest) end.0 ∙ append-nil (rows script version first.0.0 root);
        })

pub only-images : (system : System) (script : Script) (version : Version) → IsExact script → (time : ℕ) (listed : List Row) (tree : Sim) → tree_of system script version time listed ≡ Ok tree → RestoredRight system script version time listed tree
only-images system script version exact time listed tree is = by-top system script version time exact system.top refl listed tree is
