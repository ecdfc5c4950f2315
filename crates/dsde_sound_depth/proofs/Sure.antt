-- What is so of each result of the rules in which nothing is wrong, and heights up to the limit.
use Rattle.std.proofs.Common.{◌≡◌, ℕ, ◌+◌, ◌≤◌, Bool, true, false, Result, Ok, Err, refl, arith}
use Rattle.std.specs.Prelude.{max, IfOk}
use Rattle.std.proofs.Math.Nat.{le-max_left, le-max_right}
use Rattle.dsde_language.specs.declared.wrong.Wrong.{Wrong}
use Rattle.dsde_language.specs.declared.wrong.WrongKind.{WrongKind}
use Rattle.dsde_language.specs.Steps.{◌>>=◌, unless, above}

pub record Sure {A : Type 0} (r : Result A Wrong) (P : A → Type 0) : Type 0 where
  pub sure : IfOk r P

-- a step, and the next on what it gave
pub follow : {A B : Type 0} {P : A → Type 0} {Q : B → Type 0} {r : Result A Wrong} {next : A → Result B Wrong} → Sure r P → ((a : A) → P a → Sure (next a) Q) → Sure (r >>= next) Q
follow {r = r} own step = of r own step
  where
    of : {A B : Type 0} {P : A → Type 0} {Q : B → Type 0} {next : A → Result B Wrong} (r : Result A Wrong) → Sure r P → ((a : A) → P a → Sure (next a) Q) → Sure (r >>= next) Q
    of (Ok a) own step = step a own.sure
    of (Err failure) own step = record { sure = tt }

-- a step of which nothing is to be known
pub pass : {A B : Type 0} {Q : B → Type 0} (r : Result A Wrong) {next : A → Result B Wrong} → ((a : A) → Sure (next a) Q) → Sure (r >>= next) Q
pass (Ok a) step = step a
pass (Err failure) step = record { sure = tt }

-- a result that is there, and one that is not
pub done : {A : Type 0} {P : A → Type 0} {a : A} → P a → Sure (Ok a) P
done own = record { sure = own }

pub failed : {A : Type 0} {P : A → Type 0} {failure : Wrong} → Sure (Err failure) P
failed = record { sure = tt }

-- less is so too
pub weaker : {A : Type 0} {P Q : A → Type 0} {r : Result A Wrong} → Sure r P → ((a : A) → P a → Q a) → Sure r Q
weaker {r = r} own less = of r own less
  where
    of : {A : Type 0} {P Q : A → Type 0} (r : Result A Wrong) → Sure r P → ((a : A) → P a → Q a) → Sure r Q
    of (Ok a) own less = done (less a own.sure)
    of (Err failure) own less = failed

-- a test that passed
pub tested : (fails : Bool) (kind : WrongKind) (place : ℕ) → Sure (unless fails kind place) (λ _. fails ≡ false)
tested true kind place = record { sure = tt }
tested false kind place = record { sure = refl }

-- Where a height is within the limit, it is no less than this.
abbrev pub Under : ℕ → ℕ → Type 0
Under n height = height ≤ 512 → n ≤ height

-- no less, but for one
abbrev pub Nearly : ℕ → ℕ → Type 0
Nearly n height = height ≤ 512 → n ≤ height + 1

pub under-zero : {height : ℕ} → Under 0 height
under-zero few = omega arith

pub under-same : {height : ℕ} → Under height height
under-same few = omega arith

pub under-more : {n a b : ℕ} → Under n a → Under a b → Under n b
under-more own more few = omega (arith, more few, own (omega (arith, more few, few)))

pub under-both : {n m height : ℕ} → Under n height → Under m height → Under (max n m) height
under-both own other few = omega (arith, own few, other few)

pub under-left : {n : ℕ} (a b : ℕ) → Under n a → Under n (max a b)
under-left a b own few = omega (arith, own (omega (arith, le-max_left a b, few)), le-max_left a b)

pub under-right : {n : ℕ} (a b : ℕ) → Under n b → Under n (max a b)
under-right a b own few = omega (arith, own (omega (arith, le-max_right a b, few)), le-max_right a b)

-- one higher
above-is : (height : ℕ) → above height ≤ 512 → height + 1 ≡ above height
above-is height few = omega (arith, few)

pub under-above : {n : ℕ} (height : ℕ) → Under n height → Under n (above height)
under-above height own few = omega (arith, above-is height few, own (omega (arith, above-is height few, few)))

pub nearly-above : {n : ℕ} (height : ℕ) → Nearly n height → Under n (above height)
nearly-above height own few = omega (arith, above-is height few, own (omega (arith, above-is height few, few)))

pub nearly-more : {n a b : ℕ} → Nearly n a → Under a b → Nearly n b
nearly-more own more few = omega (arith, more few, own (omega (arith, more few, few)))

pub nearly-both : {n m height : ℕ} → Nearly n height → Nearly m height → Nearly (max n m) height
nearly-both own other few = omega (arith, own few, other few)

pub nearly-next : {n height : ℕ} → Under n height → Nearly (n + 1) height
nearly-next own few = omega (arith, own few)

pub nearly-under : {n height : ℕ} → Under n height → Nearly n height
nearly-under own few = omega (arith, own few)
