-- Names that are told apart.
use Rattle.std.proofs.Common.{◌≡◌, ◌≢◌, ℕ, true, false, List, [], ◌∷◌, Option, Some, None, Ordering, Less, Equal, Greater, refl, sym, ◌∙◌, ap, rules}
use Rattle.std.specs.Cmp.{IsTotalOrder}
use Rattle.std.specs.Cmp.Rules.{comparing}
use Rattle.std.specs.Cmp.Lexicographic.{slice_cmp}
use Rattle.std.specs.Option.{option_cmp}
use Rattle.std.specs.Ordering.{bool_cmp, is_eq, nat_cmp, ordering_then}
use Rattle.std.proofs.lemmas.Cmp.{tied_itself, on_total, lists_total}
use Rattle.std.proofs.lemmas.Map.Lookups.{exact_bytes, exact_unsigned}
use Rattle.dsde_values.specs.declared.name.Name.{Name}
use Rattle.dsde_values.specs.declared.path.Path.{Path}
use Rattle.dsde_values.specs.Path.{is_executive, name_cmp, path_cmp}
use Rattle.dsde_routes_wiring.specs.given.structure.Gather.{is_same_name}

equal-is : (order : Ordering) → is_eq order ≡ true → order ≡ Equal
equal-is Less h = absurd (cc h)
equal-is Equal h = refl
equal-is Greater h = absurd (cc h)

then-first : (one other : Ordering) → ordering_then one other ≡ Equal → one ≡ Equal
then-first Less other h = absurd (cc h)
then-first Equal other h = refl
then-first Greater other h = absurd (cc h)

then-last : (one other : Ordering) → ordering_then one other ≡ Equal → other ≡ Equal
then-last Less other h = absurd (cc h)
then-last Equal other h = h
then-last Greater other h = absurd (cc h)

index-exact : (one other : Option ℕ) → option_cmp nat_cmp one other ≡ Equal → one ≡ other
index-exact None None h = refl
index-exact None (Some b) h = absurd (cc h)
index-exact (Some a) None h = absurd (cc h)
index-exact (Some a) (Some b) h = ap (λ (n : ℕ). Some n) (exact_unsigned a b h)

pub name-exact : (one other : Name) → is_same_name one other ≡ true → one ≡ other
name-exact one other h =
    let same : name_cmp one other ≡ Equal = equal-is (name_cmp one other) h in
    let executives = bool_cmp (is_executive one) (is_executive other) in
    let stems = slice_cmp nat_cmp one.stem other.stem in
    let indices = option_cmp nat_cmp one.index other.index in
    let stem : one.stem ≡ other.stem = exact_bytes one.stem other.stem (then-last executives stems (then-first (ordering_then executives stems) indices same)) in
    let index : one.index ≡ other.index = index-exact one.index other.index (then-last (ordering_then executives stems) indices same) in
    ap (λ (s : List ℕ). let own : Name = record { stem = s; index = one.index } in own) stem
    ∙ ap (λ (i : Option ℕ). let own : Name = record { stem = other.stem; index = i } in own) index

pub names-total : IsTotalOrder name_cmp
names-total = search (comparing, rules)

pub same-itself : (name : Name) → is_same_name name name ≡ true
same-itself name = ap is_eq (tied_itself names-total name)

pub name-apart : (one other : Name) → is_same_name one other ≡ false → one ≢ other
name-apart one other h same =
    let yes : is_same_name one other ≡ true = ap (is_same_name one) (sym same) ∙ same-itself one in
    let wrong : true ≡ false = sym yes ∙ h in
    cc

-- paths that their order does not tell apart are one
names-exact : (xs ys : List Name) → slice_cmp name_cmp xs ys ≡ Equal → xs ≡ ys
names-exact [] [] same = refl
names-exact [] (y ∷ ys) same = absurd (let wrong : Less ≡ Equal = same in cc)
names-exact (x ∷ xs) [] same = absurd (let wrong : Greater ≡ Equal = same in cc)
names-exact (x ∷ xs) (y ∷ ys) same =
    let one = name-exact x y (ap is_eq (then-first (name_cmp x y) (slice_cmp name_cmp xs ys) same)) in
    let rest = names-exact xs ys (then-last (name_cmp x y) (slice_cmp name_cmp xs ys) same) in
    λ i. one i ∷ rest i

pub path-exact : (one other : Path) → is_eq (path_cmp one other) ≡ true → one ≡ other
path-exact one other same =
    let names = names-exact one.names other.names (equal-is (path_cmp one other) same) in
    λ i. record { names = names i }

pub paths-total : IsTotalOrder path_cmp
paths-total = on_total (λ (path : Path). path.names) (lists_total names-total)
