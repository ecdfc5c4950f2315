-- One more component moves, and the end of their list.
use Rattle.std.proofs.Common.{◌≡◌, ℕ, ◌+◌, ◌*◌, ◌<◌, ◌≤◌, ◌^◌, ◌⊎◌, inl, inr, arith, List, [], ◌∷◌, ◌++◌, length, map, refl, sym, ap, subst, ◌∙◌, append-nil}
use Rattle.std.specs.List.{AllByRecursion}
use Rattle.std.proofs.lemmas.List.Sums.{sum_by-cons}
use Rattle.dsde_language.specs.given.syntax.decl_Model.{Model}
use Rattle.dsde_sim_tree.specs.given.formalism.System.{Ports}
use Rattle.dsde_sim_tree.specs.declared.sim.Kid.{Kid}
use Rattle.dsde_sim_tree.specs.declared.sim.Sim.TheViews.{out-Kid}
use Rattle.dsde_sim_tree.specs.Tree.{entry_of, model_of, parts_of_kid, parts_of_kids}
use Rattle.dsde_sim_changing.specs.given.sim_starting.Fitting.{FitsGot}
use Rattle.dsde_sim_moving.specs.Moving.{AreGot, FitsInside}

module _ (items : List Kid) (kid : Kid) (later : List Kid) (is : items ≡ kid ∷ later) where
  parts-here : parts_of_kids items ≡ parts_of_kid kid + parts_of_kids later
  parts-here = ap parts_of_kids is ∙ sum_by-cons (λ x. x) (parts_of_kid kid) (map parts_of_kid later)

  pub fewer-here : (all : ℕ) → parts_of_kids items ≤ all → 8 * parts_of_kid kid + 3 < 8 * all + 4
  fewer-here all keeps = omega (arith, parts-here, keeps)

  pub few-here : (done room all first : ℕ) → done + room + parts_of_kids items ≤ all + first → all + first < 2 ^ 64 → parts_of_kid kid + room < 2 ^ 64
  few-here done room all first keeps few = omega (arith, parts-here, keeps, few)

  pub inside-here : (model : Model) → AllByRecursion (FitsInside model) items → FitsInside model kid
  inside-here model all = (subst (AllByRecursion (FitsInside model)) is all).0

  pub got-here : (model : Model) (boxes : List Ports) (got : Ports) (gots : List Ports) → boxes ≡ got ∷ gots → AreGot model items boxes → FitsGot model (model_of (out-Kid kid).sim).0 got
  got-here model boxes got gots are all =
      (subst (λ (boxes : List Ports). AreGot model (kid ∷ later) boxes) are (subst (λ (own : List Kid). AreGot model own boxes) is all)).0

pub ended : (model : Model) (items : List Kid) (boxes : List Ports) → AreGot model items boxes → {U V : Type 0} {P : U → Type 0} {Q : V → Type 0} →
    (count boxed : ℕ) → count ≡ length items → boxed ≡ length boxes → ((u : U) × ((count ≡ 0) × P u)) ⊎ ((v : V) × ((boxed ≡ 0) × Q v)) → items ≡ []
ended model [] boxes are count boxed counts counted end = refl
ended model (kid ∷ items) [] are count boxed counts counted end = absurd are
ended model (kid ∷ items) (got ∷ boxes) are count boxed counts counted (inl end) = absurd (omega (arith, counts, end.1.0))
ended model (kid ∷ items) (got ∷ boxes) are count boxed counts counted (inr end) = absurd (omega (arith, counted, end.1.0))

pub entries-ended : (done items all : List Kid) → map entry_of done ++ map entry_of items ≡ map entry_of all → items ≡ [] → map entry_of done ≡ map entry_of all
entries-ended done items all are is =
    sym (append-nil (map entry_of done)) ∙ ap (λ (own : List Kid). map entry_of done ++ map entry_of own) (sym is) ∙ are
