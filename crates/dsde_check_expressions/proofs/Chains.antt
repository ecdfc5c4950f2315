-- What a chain makes of one link and then of those behind it.
use Rattle.std.proofs.Common.{◌≡◌, ℕ, ◌+◌, ◌<◌, List, ◌∷◌, length, get_or, drop, map, Result, Ok, Err, sym, subst, ap, ◌∙◌}
use Rattle.std.specs.Result.{IsErr, IsErrAnd}
use Rattle.dsde_language.specs.declared.seen.Seen.{Seen}
use Rattle.dsde_language.specs.declared.wrong.Wrong.{Wrong}
use Rattle.dsde_language.specs.Steps.{◌>>=◌}
use Rattle.dsde_language.specs.Judge.{Scope, Link, links_from}
use Rattle.dsde_language.specs.lemmas.Lists.{one_of}
use Rattle.dsde_check_scope.specs.declared.error.CheckError.{CheckError}
use Rattle.dsde_check_scope.specs.declared.error.CheckError.TheVariants as end_of
use Rattle.dsde_check_scope.specs.Says.{Says}

-- a link that went well
pub link_went : {X : Type 0} (link : X → Link) (items : List X) (index : ℕ) (own : X) (left : Seen) (scope : Scope) (after : Seen) → index < length items → own ≡ get_or items index own → link own left scope ≡ Ok after → links_from left (map link (drop index items)) scope ≡ links_from after (map link (drop (index + 1) items)) scope
link_went link items index own left scope after within is went =
    ap (λ rest. links_from left (map link rest) scope) (one_of items index own within is)
    ∙ ap (λ found. found >>= (λ seen. links_from seen (map link (drop (index + 1) items)) scope)) went

-- what is wrong is wrong whatever comes next
pub failed : {A B : Type 0} (found : Result A Wrong) (next : A → Result B Wrong) (end : CheckError) → Says found (Err end) → Says (found >>= next) (Err end)
failed found next (end_of.Wrong kind at) said = ap (λ own. own >>= next) said
failed found next end_of.Memory said = tt

-- a link in which something is wrong
pub link_failed : {X : Type 0} (link : X → Link) (items : List X) (index : ℕ) (own : X) (left : Seen) (scope : Scope) (end : CheckError) → index < length items → own ≡ get_or items index own → Says (link own left scope) (Err end) → Says (links_from left (map link (drop index items)) scope) (Err end)
link_failed link items index own left scope end within is said =
    subst (λ rest. Says (links_from left (map link rest) scope) (Err end)) (sym (one_of items index own within is))
    (failed _ (λ seen. links_from seen (map link (drop (index + 1) items)) scope) end said)

-- what is wrong is passed on as it is
pub passed_on : {A : Type 0} (meant : Result A Wrong) (end : CheckError) (answer : Result A CheckError) → IsErr answer → IsErrAnd answer (λ own. own ≡ end) → Says meant (Err end) → Says meant answer
passed_on meant end (Err own) _ is said = subst (λ other. Says meant (Err other)) (sym is) said
passed_on meant end (Ok found) none is said = cc
