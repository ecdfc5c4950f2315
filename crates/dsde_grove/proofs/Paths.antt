-- The names that lead to a part.
use Rattle.std.proofs.Common.{◌≡◌, ℕ, zero, suc, ◌<◌, List, [], ◌∷◌, ◌++◌, Option, Some, None, refl, ap, ◌∙◌, arith}
use Rattle.dsde_bank.specs.declared.handle.Handle.{Handle}
use Rattle.dsde_values.specs.declared.name.Name.{Name}
use Rattle.dsde_grove.specs.Inside.{path_step, path_in}

abbrev pub Links : Type 0
Links = ℕ → Option (Option Handle × Name)

-- what is above them is the same
same_step : (o : Option (Option Handle × Name)) (f g : Handle → List Name) → ((parent : Handle) (name : Name) → o ≡ Some (Some parent, name) → f parent ≡ g parent) → path_step o f ≡ path_step o g
same_step None f g same = refl
same_step (Some (None, name)) f g same = refl
same_step (Some (Some parent, name)) f g same = ap (λ names. names ++ name ∷ []) (same parent name refl)

-- where the links of some births are the same, and each of these has its parent among them, their paths are the same
pub same_paths : (among : ℕ → Type 0) (old new : Links) → ((b : ℕ) → among b → new b ≡ old b) → ((b : ℕ) (p : Handle) (n : Name) → among b → old b ≡ Some (Some p, n) → among p.birth)
    → (depth b : ℕ) → among b → path_in depth new b ≡ path_in depth old b
same_paths among old new same closed zero b is = refl
same_paths among old new same closed (suc depth) b is =
    ap (λ o. path_step o (λ p. path_in depth new p.birth)) (same b is)
    ∙ same_step (old b) _ _ (λ p n at. same_paths among old new same closed depth p.birth (closed b p n is at))

-- a path needs no more depth than its birth
pub deeper : (links : Links) → ((b : ℕ) (p : Handle) (n : Name) → links b ≡ Some (Some p, n) → p.birth < b) → (j k b : ℕ) → b < j → b < k → path_in j links b ≡ path_in k links b
deeper links falls zero k b u v = absurd (omega arith)
deeper links falls (suc j) zero b u v = absurd (omega arith)
deeper links falls (suc j) (suc k) b u v =
    same_step (links b) _ _ (λ p n at. deeper links falls j k p.birth (omega (arith, falls b p n at)) (omega (arith, falls b p n at)))

pub path-kid : (links : Links) → ((b : ℕ) (p : Handle) (n : Name) → links b ≡ Some (Some p, n) → p.birth < b) → (b : ℕ) (p : Handle) (n : Name) → links b ≡ Some (Some p, n) → path_in (suc b) links b ≡ path_in (suc p.birth) links p.birth ++ n ∷ []
path-kid links falls b p n at =
    ap (λ o. path_step o (λ q. path_in b links q.birth)) at ∙ ap (λ names. names ++ n ∷ []) (deeper links falls b (suc p.birth) p.birth (falls b p n at) (omega arith))

pub path-root : (links : Links) (b : ℕ) (n : Name) → links b ≡ Some (None, n) → path_in (suc b) links b ≡ n ∷ []
path-root links b n at = ap (λ o. path_step o (λ q. path_in b links q.birth)) at
