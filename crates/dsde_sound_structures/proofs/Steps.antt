-- Steps in which nothing is wrong.
use Rattle.std.proofs.Common.{◌≡◌, ℕ, Bool, true, false, [], Result, Ok, Err, Option, Some, None, refl}
use Rattle.dsde_sim_tree.specs.given.syntax.decl_Model.{Model}
use Rattle.dsde_sim_tree.specs.given.language.wrong_Wrong.{Wrong}
use Rattle.dsde_sim_tree.specs.given.language.wrong_WrongKind.{WrongKind}
use Rattle.dsde_sim_tree.specs.given.language.Steps.{◌>>=◌, Test, unless}
use Rattle.dsde_sim_tree.specs.given.language.RuleTables.{known_of}
use Rattle.dsde_sim_tree.specs.given.language.Rules.{apart_all, decls_rule, top_rules, rules}
use Rattle.dsde_sim_tree.specs.given.language.Right.{IsRight}

-- a step and the next
pub record Went {A B : Type 0} (first : Result A Wrong) (next : A → Result B Wrong) (last : B) : Type 0 where
  pub own : A
  pub is : first ≡ Ok own
  pub next-is : next own ≡ Ok last

pub went : {A B : Type 0} (first : Result A Wrong) (next : A → Result B Wrong) (last : B) → (first >>= next) ≡ Ok last → Went first next last
went (Ok own) next last is = record { own = own; is = refl; next-is = is }
went (Err failure) next last is = absurd (cc)

pub holds-not : (fails : Bool) (kind : WrongKind) (at : ℕ) (done : Unit {0}) → unless fails kind at ≡ Ok done → fails ≡ false
holds-not true kind at done is = absurd (cc)
holds-not false kind at done is = refl

-- nothing is wrong in the declarations of such a model
judged-from : (model : Model) (found : Test) → rules model ≡ found → (elim found [ Ok _ ↦ None | Err first ↦ Some first ]) ≡ (let none : Option Wrong = None in none) → decls_rule (known_of model.decls) model.decls ≡ Ok tt
judged-from model (Err first) is sound = absurd (cc)
judged-from model (Ok done) is sound =
    let one = went (apart_all [] model.decls) (λ _. decls_rule (known_of model.decls) model.decls >>= (λ _. top_rules model)) tt is in
    (went (decls_rule (known_of model.decls) model.decls) (λ _. top_rules model) tt one.next-is).is

pub judged : (model : Model) → IsRight model → decls_rule (known_of model.decls) model.decls ≡ Ok tt
judged model right = judged-from model (rules model) refl right.sound
