-- What may go along links that fit.
use Rattle.std.proofs.Common.{ℕ, zero, suc, ◌<◌, List, [], ◌∷◌, length, get_or, Option, Some, None, All, slice_index_or, arith}
use Rattle.std.specs.List.{AllByRecursion}
use Rattle.dsde_sim_tree.specs.given.syntax.decl_Model.{Model}
use Rattle.dsde_values.specs.declared.types.Ty.{Ty}
use Rattle.dsde_values.specs.declared.value.Value.{Value}
use Rattle.dsde_sim_tree.specs.given.language.DeclaredModels.{types_of}
use Rattle.dsde_sim_tree.specs.given.structure.plan_Link.{Link}
use Rattle.dsde_sim_tree.specs.given.structure.plan_Via.{Via}
use Rattle.dsde_sim_tree.specs.given.structure.sources_Sources.{Sources}
use Rattle.dsde_sim_tree.specs.given.structure.Gather.{from_part}
use Rattle.dsde_sim_tree.specs.given.language.Typed.{Typed}
use Rattle.dsde_sound_structures.specs.given.system.Fitting.{AreOf}
use Rattle.dsde_sound_structures.specs.given.system.Plans.{Joins}
use Rattle.dsde_sound_structures.specs.Carrying.{Carries}
use Rattle.dsde_sim_gathering.specs.Passing.{AllPass, Passes}

at-index : {X : Type 0} (P : X → Type 0) (xs : List X) → AllByRecursion P xs → (k : ℕ) (d : X) → k < length xs → P (get_or xs k d)
at-index P [] all k d below = absurd (omega arith)
at-index P (x ∷ xs) all zero d below = all.0
at-index P (x ∷ xs) all (suc k) d below = at-index P xs all.1 k d (omega arith)

-- what holds of each item, by the item's index
pub by-index : {X : Type 0} (P : X → Type 0) (xs : List X) → AllByRecursion P xs → All P xs
by-index P xs all = λ k d below. at-index P xs all k d below

module _ (model : Model) where
  one-passes : (via : Option Via) (from to : Ty) (own : Value) → Joins model via from to → Typed (types_of model) from own → Passes model via own
  one-passes None from to own joins typed = tt
  one-passes (Some via) from to own joins typed = record { from = from; to = to; takes = joins; typed = typed }

  values-pass : (via : Option Via) (from to : Ty) → Joins model via from to → (values : List Value) → AreOf (types_of model) from values → AllByRecursion (Passes model via) values
  values-pass via from to joins [] are = tt
  values-pass via from to joins (value ∷ values) are = (one-passes via from to value joins are.0, values-pass via from to joins values are.1)

  all-pass : (sources : Sources) (link : Link) → Carries model sources link → AllPass model sources link
  all-pass sources link it =
      by-index (Passes model link.via) (slice_index_or (from_part sources link.from.part) link.from.port [])
      (values-pass link.via it.source it.target it.joins (slice_index_or (from_part sources link.from.part) link.from.port []) it.values)

  -- each of the links
  pub link-passes : (sources : Sources) (links : List Link) → AllByRecursion (Carries model sources) links → (k : ℕ) (d : Link) → k < length links → AllPass model sources (get_or links k d)
  link-passes sources links all k d below = all-pass sources (get_or links k d) (at-index (Carries model sources) links all k d below)
