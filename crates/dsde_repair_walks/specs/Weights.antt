-- Sums over lists. Two lists have the same items, each as often, where all sums over them agree.
use Rattle.std.proofs.Common.{◌≡◌, ℕ, ◌+◌, List, [], ◌∷◌, ◌++◌, map, refl, sym, ap, ◌∙◌, arith, zero-add, add_assoc}
use Rattle.std.specs.List.{flat_map}

abbrev pub weight : {X : Type 0} → (X → ℕ) → List X → ℕ
weight g [] = 0
weight g (x ∷ xs) = g x + weight g xs

pub weight-append : {X : Type 0} (g : X → ℕ) (xs ys : List X) → weight g (xs ++ ys) ≡ weight g xs + weight g ys
weight-append g [] ys = sym (zero-add (weight g ys))
weight-append g (x ∷ xs) ys = ap (λ n. g x + n) (weight-append g xs ys) ∙ sym (add_assoc (g x) (weight g xs) (weight g ys))

pub weight-flat : {X Y : Type 0} (g : Y → ℕ) (f : X → List Y) (xs : List X) → weight g (flat_map f xs) ≡ weight (λ x. weight g (f x)) xs
weight-flat g f [] = refl
weight-flat g f (x ∷ xs) = weight-append g (f x) (flat_map f xs) ∙ ap (λ n. weight g (f x) + n) (weight-flat g f xs)

pub weight-map : {X Y : Type 0} (g : Y → ℕ) (f : X → Y) (xs : List X) → weight g (map f xs) ≡ weight (λ x. g (f x)) xs
weight-map g f [] = refl
weight-map g f (x ∷ xs) = ap (λ n. g (f x) + n) (weight-map g f xs)

pub weight-same : {X : Type 0} (g h : X → ℕ) → ((x : X) → g x ≡ h x) → (xs : List X) → weight g xs ≡ weight h xs
weight-same g h same [] = refl
weight-same g h same (x ∷ xs) = ap (λ n. n + weight g xs) (same x) ∙ ap (λ n. h x + n) (weight-same g h same xs)

plus : (a b c d m n : ℕ) → a ≡ b + c → d ≡ m + n → a + d ≡ (b + m) + (c + n)
plus a b c d m n p q = omega arith

pub weight-adds : {X : Type 0} (whole first second : X → ℕ) → ((x : X) → whole x ≡ first x + second x) → (xs : List X) → weight whole xs ≡ weight first xs + weight second xs
weight-adds whole first second adds [] = refl
weight-adds whole first second adds (x ∷ xs) =
    plus (whole x) (first x) (second x) (weight whole xs) (weight first xs) (weight second xs) (adds x) (weight-adds whole first second adds xs)

pub weight-zero : {X : Type 0} (g : X → ℕ) → ((x : X) → g x ≡ 0) → (xs : List X) → weight g xs ≡ 0
weight-zero g none [] = refl
weight-zero g none (x ∷ xs) = ap (λ n. n + weight g xs) (none x) ∙ zero-add (weight g xs) ∙ weight-zero g none xs

-- sums over two lists may change places
pub weight-swap : {X Y : Type 0} (f : X → Y → ℕ) (xs : List X) (ys : List Y) → weight (λ x. weight (f x) ys) xs ≡ weight (λ y. weight (λ x. f x y) xs) ys
weight-swap f [] ys = sym (weight-zero (λ y. 0) (λ y. refl) ys)
weight-swap f (x ∷ xs) ys =
    ap (λ n. weight (f x) ys + n) (weight-swap f xs ys)
    ∙ sym (weight-adds (λ y. f x y + weight (λ x. f x y) xs) (f x) (λ y. weight (λ x. f x y) xs) (λ y. refl) ys)
