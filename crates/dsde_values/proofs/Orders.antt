-- The orders of names and of paths answer `Equal` at equal ones alone.
use Rattle.std.proofs.Common.{◌≡◌, List, [], ◌∷◌, Option, Some, None, Ordering, refl, sym, ◌∙◌, ap, subst, rules}
use Rattle.std.specs.Prelude.{◌↔◌}
use Rattle.std.specs.declared.cmp.Ordering.TheVariants.{Less, Equal, Greater}
use Rattle.std.specs.Cmp.{IsTotalOrder}
use Rattle.std.specs.Cmp.Lexicographic.{slice_cmp}
use Rattle.std.specs.Cmp.Rules.{comparing}
use Rattle.std.specs.Option.{option_cmp}
use Rattle.std.specs.Ordering.{ordering_then, nat_cmp, bool_cmp}
use Rattle.std.proofs.lemmas.Map.Lookups.{exact_unsigned, exact_bytes}
use Rattle.std.proofs.lemmas.Cmp.{tied_itself, on_total, lists_total}
use Rattle.dsde_values.specs.declared.name.Name.{Name}
use Rattle.dsde_values.specs.declared.path.Path.{Path}
use Rattle.dsde_values.specs.Path.{name_cmp, path_cmp, is_executive}

both_equal : (first later : Ordering) → ordering_then first later ≡ Equal → (first ≡ Equal) × (later ≡ Equal)
both_equal Less later h = absurd (let e : Less ≡ Equal = h in cc)
both_equal Equal later h = (refl, h)
both_equal Greater later h = absurd (let e : Greater ≡ Equal = h in cc)

module _ {X : Type 0} (R : X → X → Ordering) (exact : (x y : X) → R x y ≡ Equal → x ≡ y) where
  exact_lists : (xs ys : List X) → slice_cmp R xs ys ≡ Equal → xs ≡ ys
  exact_lists [] [] h = refl
  exact_lists [] (y ∷ ys) h = absurd (let e : Less ≡ Equal = h in cc)
  exact_lists (x ∷ xs) [] h = absurd (let e : Greater ≡ Equal = h in cc)
  exact_lists (x ∷ xs) (y ∷ ys) h =
      let parts = both_equal (R x y) (slice_cmp R xs ys) h in
      let first = exact x y parts.0 in let rest = exact_lists xs ys parts.1 in cc

  exact_options : (x y : Option X) → option_cmp R x y ≡ Equal → x ≡ y
  exact_options None None h = refl
  exact_options None (Some y) h = absurd (let e : Less ≡ Equal = h in cc)
  exact_options (Some x) None h = absurd (let e : Greater ≡ Equal = h in cc)
  exact_options (Some x) (Some y) h = ap Some (exact x y h)

pub name_cmp_total : IsTotalOrder name_cmp
name_cmp_total = search (comparing, rules)

pub path_cmp_total : IsTotalOrder path_cmp
path_cmp_total = on_total (λ path. path.names) (lists_total name_cmp_total)

pub exact_names : (name other : Name) → name_cmp name other ≡ Equal → name ≡ other
exact_names name other h =
    let executives = bool_cmp (is_executive name) (is_executive other) in
    let stems = slice_cmp nat_cmp name.stem other.stem in
    let parts = both_equal (ordering_then executives stems) (option_cmp nat_cmp name.index other.index) h in
    let stem = exact_bytes name.stem other.stem (both_equal executives stems parts.0).1 in
    let index = exact_options nat_cmp exact_unsigned name.index other.index parts.1 in
    λ i. record { stem = stem i; index = index i }

pub exact_paths : (path other : Path) → path_cmp path other ≡ Equal → path ≡ other
exact_paths path other h = let names = exact_lists name_cmp exact_names path.names other.names h in
    λ i. record { names = names i }

pub one-name : (name other : Name) → (name_cmp name other ≡ Equal) ↔ (name ≡ other)
one-name name other =
    (λ e. exact_names name other e, λ same. subst (λ (n : Name). name_cmp name n ≡ Equal) same (tied_itself name_cmp_total name))

-- an answer of the order of names, and of that of paths
pub equal_names : (order : Ordering) (name other : Name) → order ≡ name_cmp name other → (order ≡ Equal) ↔ (name ≡ other)
equal_names order name other is =
    (λ e. exact_names name other (sym is ∙ e), λ same. is ∙ subst (λ (n : Name). name_cmp name n ≡ Equal) same (tied_itself name_cmp_total name))

pub equal_paths : (order : Ordering) (path other : Path) → order ≡ path_cmp path other → (order ≡ Equal) ↔ (path ≡ other)
equal_paths order path other is =
    (λ e. exact_paths path other (sym is ∙ e), λ same. is ∙ subst (λ (p : Path). path_cmp path p ≡ Equal) same (tied_itself path_cmp_total path))

pub ruleset total_orders = (name_cmp_total, path_cmp_total)
