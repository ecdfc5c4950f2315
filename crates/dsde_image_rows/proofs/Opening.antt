-- What the walk is where its tests have gone one way.
use Rattle.std.proofs.Common.{◌≡◌, ℕ, suc, Bool, true, List, sym, ap, subst, ◌∙◌}
use Rattle.std.specs.Prelude.{if◌then◌else◌, Result, Ok, Err}
use Rattle.dsde_values.specs.declared.path.Path.{Path}
use Rattle.dsde_values.specs.declared.value.Value.{Value}
use Rattle.dsde_language.specs.declared.ids.ModelId.{ModelId}
use Rattle.dsde_sim_tree.specs.given.formalism.System.{System}
use Rattle.dsde_image.specs.declared.image.Version.{Version}
use Rattle.dsde_image_rows.specs.Rows.{Script}
use Rattle.dsde_image_rows.specs.Walk.{Left, Walked, ◌>>=◌, took_net, restored_boss, with_boss, with_args, restored_net, restored_atomic, restored}
use Rattle.dsde_image_rows.specs.declared.ends.RestoreEnd.{RestoreEnd}
use Rattle.dsde_image_rows.specs.declared.ends.RestoreEnd.TheVariants as restore_end
use Rattle.dsde_image_rows.specs.Walks.{Walks}

module _ (system : System) (script : Script) (version : Version) (time : ℕ) where
  network : (left : ℕ) (soft : Bool) (model : ModelId) (args : List Value) (path : Path) (here : Left) → system.is_network model ≡ true →
      restored system script version time (suc left) soft model args path here ≡ restored_net system script version time left (restored system script version time left) soft model args path here
  network left soft model args path here is =
      ap (λ (net : Bool). if net then restored_net system script version time left (restored system script version time left) soft model args path here else restored_atomic system script version time (suc left) soft model args path here) is

  pub restored-network : (left below : ℕ) (soft : Bool) (model : ModelId) (args : List Value) (path : Path) (here : Left) → left ≡ suc below → system.is_network model ≡ true →
      restored system script version time left soft model args path here ≡ restored_net system script version time below (restored system script version time below) soft model args path here
  restored-network left below soft model args path here same is = ap (λ (n : ℕ). restored system script version time n soft model args path here) same ∙ network below soft model args path here is

  -- a network, by its own row
  pub net-opens : (left next : ℕ) (soft : Bool) (model : ModelId) (args : List Value) (path : Path) (here : Left) → next ≡ suc left →
      restored_net system script version time left (restored system script version time left) soft model args path here
      ≡ (took_net script version next soft model args path here >>= with_args system script version time left (restored system script version time left) model path)
  net-opens left next soft model args path here same =
      ap (λ (n : ℕ). took_net script version n soft model args path here >>= with_args system script version time left (restored system script version time left) model path) (sym same)

  -- the same, where the row is taken
  pub net-goes : (left next : ℕ) (soft : Bool) (model : ModelId) (args own : List Value) (path : Path) (here there : Left) → next ≡ suc left →
      took_net script version next soft model args path here ≡ Ok (own, there) →
      restored_net system script version time left (restored system script version time left) soft model args path here
      ≡ (restored_boss system script version time left model own path there >>= with_boss system script version time (restored system script version time left) model own path)
  net-goes left next soft model args own path here there same is =
      net-opens left next soft model args path here same
      ∙ ap (λ (read : Walked (List Value × Left)). read >>= with_args system script version time left (restored system script version time left) model path) is

-- a step that fails, before the next
pub stops : {X Y A B : Type 0} (view : X → A) (whole_view : Y → B) (why : RestoreEnd) (read : Walked A) (next : A → Walked B) (whole : Walked B) →
    (let own : Result X RestoreEnd = Err why in Walks view own read) → whole ≡ (read >>= next) → (let all : Result Y RestoreEnd = Err why in Walks whole_view all whole)
stops view whole_view (restore_end.DoesNotFit path) read next whole fails is = is ∙ ap (λ own. own >>= next) fails
stops view whole_view restore_end.Memory read next whole fails is = tt

pub goes : {X A B : Type 0} (view : X → B) (result : Result X RestoreEnd) (read : Walked A) (value : A) (next : A → Walked B) (whole : Walked B) →
    read ≡ Ok value → whole ≡ (read >>= next) → Walks view result (next value) → Walks view result whole
goes view result read value next whole is opens own = subst (Walks view result) (sym (opens ∙ ap (λ r. r >>= next) is)) own
