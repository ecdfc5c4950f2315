-- What fits: the tree that rows say, walked from the root on. Each part that is expected takes the next row,
-- and the first whose row does not go with it is told. This project's profile.
use Rattle.std.specs.Prelude.{ℕ, zero, suc, ◌==◌, ◌&&◌, nat_le, Bool, true, false, if◌then◌else◌, List, [], ◌∷◌, ◌++◌, Option, Some, None, Result, Ok, Err}
use Rattle.std.specs.Str.{bytes_eq}
use Rattle.dsde_values.specs.declared.path.Path.{Path}
use Rattle.dsde_values.specs.declared.value.Value.{Value}
use Rattle.dsde_values.specs.declared.when.When.{When}
use Rattle.dsde_values.specs.declared.when.When.TheVariants.{At, Never}
use Rattle.dsde_values.specs.Path.{path_text, root}
use Rattle.dsde_faults.specs.declared.end.LeafEnd.{LeafEnd}
use Rattle.dsde_sim_movers.specs.given.language.ids_ModelId.{ModelId}
use Rattle.dsde_sim_movers.specs.given.formalism.leaf_Leaf.{Leaf}
use Rattle.dsde_sim_movers.specs.given.formalism.System.{System}
use Rattle.dsde_sim_movers.specs.given.structure.plan_Entry.{Entry}
use Rattle.dsde_sim_movers.specs.given.structure.plan_Plan.{Plan}
use Rattle.dsde_sim_movers.specs.given.sim_tree.Told.{below, to_boss}
use Rattle.dsde_sim_movers.specs.given.sim_tree.sim_Kid.{Kid}
use Rattle.dsde_sim_movers.specs.given.sim_tree.sim_Sim.{Sim}
use Rattle.dsde_sim_movers.specs.given.sim_tree.sim_Sim_TheVariants as sim
use Rattle.dsde_sim_movers.specs.given.sim_tree.sim_TheConstants.{DEEPEST}
use Rattle.dsde_sim_movers.specs.given.sim_tree.Start.{kid_of, net_of}
use Rattle.dsde_sim_movers.specs.given.sim_tree.step_TheConstants.{MOST_PARTS}
use Rattle.dsde_image.specs.Image.{location_of}
use Rattle.dsde_image.specs.declared.image.Body.{Body}
use Rattle.dsde_image.specs.declared.image.Body.TheVariants as body
use Rattle.dsde_image.specs.declared.image.Location.{Location}
use Rattle.dsde_image.specs.declared.image.Location.TheVariants as location
use Rattle.dsde_image.specs.declared.image.Row.{Row}
use Rattle.dsde_image.specs.declared.image.Standing.{Standing}
use Rattle.dsde_image.specs.declared.image.Version.{Version}
use Rattle.dsde_image_rows.specs.Rows.{Script, texts}

-- the rows that are left, and how many parts may still come
abbrev pub Left : Type 0
Left = List Row × ℕ

-- what is restored, or the text of the first path that does not fit
abbrev pub Walked : Type 0 → Type 0
Walked A = Result A (List ℕ)

infixl 10 ◌>>=◌
abbrev pub ◌>>=◌ : {A B : Type 0} → Walked A → (A → Walked B) → Walked B
Ok value >>= next = next value
Err path >>= next = Err path

-- what is there, or the path does not fit
abbrev pub at : {A : Type 0} → Path → Option A → Walked A
at path (Some value) = Ok value
at path None = Err (path_text path)

abbrev pub only_if : {A : Type 0} → Bool → Option A → Option A
only_if test found = if test then found else None

infixl 10 ◌and_then◌
abbrev pub ◌and_then◌ : {A B : Type 0} → Option A → (A → Option B) → Option B
None and_then next = None
(Some x) and_then next = next x

abbrev pub is_same_location : Location → Location → Bool
is_same_location (location.Path text) (location.Path other) = bytes_eq text other
is_same_location (location.Last name depth) (location.Last other many) = bytes_eq name other && depth == many
is_same_location _ _ = false

abbrev pub texts_eq : List (List ℕ) → List (List ℕ) → Bool
texts_eq [] [] = true
texts_eq (text ∷ texts) (other ∷ others) = bytes_eq text other && texts_eq texts others
texts_eq _ _ = false

abbrev pub is_next : Result When LeafEnd → When → Bool
is_next (Ok (At time)) (At next) = time == next
is_next (Ok Never) Never = true
is_next _ _ = false

abbrev pub is_due_later : ℕ → When → Bool
is_due_later time (At next) = nat_le time next
is_due_later time Never = true

-- no row may be left over: the first one's path in version 1, and the root in version 2
abbrev pub left_over : Location → List ℕ
left_over (location.Path text) = text
left_over (location.Last name depth) = path_text root

abbrev pub only_at_end : Sim → List Row → Walked Sim
only_at_end own [] = Ok own
only_at_end own (row ∷ rows) = Err (left_over row.location)

-- The next row of an image of this version, where it stands at this path; so many names may stand behind the
-- path that it is in.
abbrev pub took : Version → ℕ → Path → Left → Walked (Row × Left)
took version zero path here = Err (path_text path)
took version (suc left) path (rows, zero) = Err (path_text path)
took version (suc left) path ([], suc room) = Err (path_text path)
took version (suc left) path (row ∷ rows, suc room) = at path (only_if (is_same_location row.location (location_of version path)) (Some (row, (rows, room))))

-- The arguments of a component of this model: those of its entry, or, where that is soft, any that texts spell.
abbrev pub args_in : Script → Bool → ModelId → List Value → List (List ℕ) → Option (List Value)
args_in script soft model args own = if soft then script.args model own else only_if (texts_eq own (texts script args)) (Some args)

-- whether a component in this standing, with the time that its advance gives, stands now
abbrev pub is_standing : Standing → Result When LeafEnd → ℕ → Bool
is_standing standing next time = nat_le standing.last time && is_next next standing.next && is_due_later time standing.next

-- A component or an executive with this standing: its state, and times that go with its advance.
abbrev pub stood : System → Script → ℕ → ModelId → Bool → List Value → Standing → Option Leaf
stood system script time model boss args standing =
    script.state model standing.state and_then (λ state.
    only_if (is_standing standing ((system.component model args).advance state standing.last) time)
    (Some (record { model = model; boss = boss; args = args; state = state; last = standing.last; next = standing.next })))

abbrev pub atomic_in : System → Script → ℕ → Bool → ModelId → List Value → Body → Option Leaf
atomic_in system script time soft model args (body.Atomic own standing) =
    args_in script soft model args own and_then (λ args. stood system script time model false args standing)
atomic_in system script time soft model args _ = None

abbrev pub boss_in : System → Script → ℕ → ModelId → List Value → Body → Option Leaf
boss_in system script time model args (body.Executive standing) = stood system script time model true args standing
boss_in system script time model args _ = None

abbrev pub net_in : Script → Bool → ModelId → List Value → Body → Option (List Value)
net_in script soft model args (body.Net own) = args_in script soft model args own
net_in script soft model args _ = None

-- what a row of this model says
abbrev pub said_by : {A : Type 0} → Script → Row → ModelId → Option A → Option A
said_by script row model found = only_if (bytes_eq row.model (script.model model)) found

-- the structure that goes with the state of an executive
abbrev pub planned : System → ModelId → List Value → Leaf → Path → Walked Plan
planned system model args boss path = elim ((system.network model args).structure boss.state) [ Ok plan ↦ Ok plan | Err why ↦ Err (path_text (to_boss path)) ]

-- a network's own row: its arguments, and what is left behind the row
abbrev pub took_net : Script → Version → ℕ → Bool → ModelId → List Value → Path → Left → Walked (List Value × Left)
took_net script version left soft model args path here =
    took version left path here >>= λ one.
    at path (said_by script one.0 model (net_in script soft model args one.0.body)) >>= λ own.
    Ok (own, one.1)

module _ (system : System) (script : Script) (version : Version) (time : ℕ) where
  abbrev pub restored_atomic : ℕ → Bool → ModelId → List Value → Path → Left → Walked (Sim × Left)
  restored_atomic left soft model args path here =
      took version left path here >>= λ one.
      at path (said_by script one.0 model (atomic_in system script time soft model args one.0.body)) >>= λ leaf.
      Ok (sim.Leaf leaf, one.1)

  abbrev pub restored_boss : ℕ → ModelId → List Value → Path → Left → Walked (Leaf × Left)
  restored_boss left model args path here =
      took version left (to_boss path) here >>= λ one.
      at (to_boss path) (said_by script one.0 model (boss_in system script time model args one.0.body)) >>= λ boss.
      Ok (boss, one.1)

  -- how a part of a model is restored at a path: with arguments, or with any where it is soft
  abbrev pub Walker : Type 0
  Walker = Bool → ModelId → List Value → Path → Left → Walked (Sim × Left)

  -- the components of a structure, behind those that are done
  abbrev pub restored_kids : Walker → List Entry → Path → Left → List Kid → Walked (List Kid × Left)
  restored_kids walker [] path here done = Ok (done, here)
  restored_kids walker (entry ∷ entries) path here done =
      walker entry.soft entry.model entry.args (below path entry.name) here >>= λ one.
      restored_kids walker entries path one.1 (done ++ kid_of entry.name one.0 ∷ [])

  abbrev pub with_plan : Walker → ModelId → List Value → Path → Leaf → Left → Plan → Walked (Sim × Left)
  with_plan walker model args path boss here plan =
      restored_kids walker plan.entries path here [] >>= λ kids.
      Ok (sim.Net (net_of model args boss kids.0 plan.links), kids.1)

  abbrev pub with_boss : Walker → ModelId → List Value → Path → Leaf × Left → Walked (Sim × Left)
  with_boss walker model args path boss = planned system model args boss.0 path >>= with_plan walker model args path boss.0 boss.1

  -- what stands behind a network's own row
  abbrev pub with_args : ℕ → Walker → ModelId → Path → List Value × Left → Walked (Sim × Left)
  with_args left walker model path own = restored_boss left model own.0 path own.1 >>= with_boss walker model own.0 path

  abbrev pub restored_net : ℕ → Walker → Bool → ModelId → List Value → Path → Left → Walked (Sim × Left)
  restored_net left walker soft model args path here = took_net script version (suc left) soft model args path here >>= with_args left walker model path

  -- a part, where so many names may stand behind the path that it is in
  abbrev pub restored : ℕ → Walker
  restored zero soft model args path here = Err (path_text path)
  restored (suc left) soft model args path here =
      if system.is_network model
      then restored_net left (restored left) soft model args path here
      else restored_atomic (suc left) soft model args path here

  -- the tree of the model that runs
  abbrev pub tree_of : List Row → Walked Sim
  tree_of rows = elim system.top [
    | Err why ↦ Err (path_text root)
    | Ok chosen ↦ restored DEEPEST false chosen.model chosen.args root (rows, MOST_PARTS) >>= λ one. only_at_end one.0 one.1.0
  ]
