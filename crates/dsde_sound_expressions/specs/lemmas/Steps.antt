-- Judgements that went well, step by step.
use Rattle.std.proofs.Common.{◌≡◌, ℕ, Bool, true, false, Result, Ok, Err, refl}
use Rattle.dsde_language.specs.declared.wrong.Wrong.{Wrong}
use Rattle.dsde_language.specs.declared.wrong.WrongKind.{WrongKind}
use Rattle.dsde_language.specs.Steps.{◌>>=◌, unless}

-- what came before a step that went well
pub record Went {A B : Type 0} (x : Result A Wrong) (f : A → Result B Wrong) (b : B) : Type 0 where
  pub value : A
  pub first : x ≡ Ok value
  pub next : f value ≡ Ok b

pub went : {A B : Type 0} (x : Result A Wrong) (f : A → Result B Wrong) (b : B) → (x >>= f) ≡ Ok b → Went x f b
went (Ok a) f b h = record { value = a; first = refl; next = h }
went (Err wrong) f b h = cc

-- an answer, where nothing is wrong
abbrev pub well : {A : Type 0} → A → Result A Wrong
well a = Ok a

-- two answers are one
pub ok-is : {A : Type 0} (a b : A) → well a ≡ well b → a ≡ b
ok-is a b h = cc h

-- a test that went well
pub unless-is : (fails : Bool) (kind : WrongKind) (at : ℕ) (u : Unit {0}) → unless fails kind at ≡ Ok u → fails ≡ false
unless-is true kind at u h = cc
unless-is false kind at u h = refl
