-- The rules of an arm and of `for`, by the parts that have a function of their own.
use Rattle.std.proofs.Common.{◌≡◌, ℕ, List, [], ◌∷◌, ◌++◌, map, Result, Ok, Err, refl, sym, ap, ◌∙◌, rules}
use Rattle.dsde_syntax.specs.declared.id.Id.{Id}
use Rattle.dsde_syntax.specs.declared.expr.Expr.{Expr}
use Rattle.dsde_syntax.specs.declared.item.Item.{Item}
use Rattle.dsde_syntax.specs.declared.item.Item.TheVariants as item
use Rattle.dsde_syntax.specs.declared.item.Item.TheFolds.{the_lemmas}
use Rattle.dsde_syntax.specs.declared.item.ItemArm.{ItemArm}
use Rattle.dsde_language.specs.declared.known.Site.{Site}
use Rattle.dsde_language.specs.Steps.{◌>>=◌}
use Rattle.dsde_language.specs.Types.{item_type}
use Rattle.dsde_language.specs.Judge.{Scope, fixed, fresh, judge}
use Rattle.dsde_language.specs.Blocks.{Walk, Passed, inner, walked, for_walk}
use Rattle.dsde_language.specs.RuleStructures.{item_walk}
use Rattle.dsde_check_structures.specs.Parts.{item_arm_walk, arm_test, arm_by, for_head, for_by}

pub arm_opened : (site : Site) (arm : ItemArm) (height : ℕ) (scope : Scope) → item_arm_walk site arm height scope ≡ arm_by site arm height scope
unfolding arm_test
arm_opened site arm height scope = search (rules, the_lemmas)

-- what is done with the result of a last step may as well be done behind it
then_last : {C D E F : Type 0} → (c : Result C F) (r : C → D) (g : D → Result E F) → (c >>= (λ z. g (r z))) ≡ ((c >>= (λ z. Ok (r z))) >>= g)
then_last (Ok z) r g = refl
then_last (Err e) r g = refl

then_three : {A B C D E F : Type 0} → (a : Result A F) (b : Result B F) (c : B → Result C F) (r : B → C → D) (g : D → Result E F) → (a >>= (λ _. b >>= (λ y. c y >>= (λ z. g (r y z))))) ≡ ((a >>= (λ _. b >>= (λ y. c y >>= (λ z. Ok (r y z))))) >>= g)
then_three (Err e) b c r g = refl
then_three (Ok x) (Err e) c r g = refl
then_three (Ok x) (Ok y) c r g = then_last (c y) (r y) g

for_opened : (site : Site) (name : Id) (list : Expr) (body : List Walk) (scope : Scope) → for_walk site.around name (judge site.around list) body scope ≡ for_by site name list body scope
unfolding for_head
for_opened site name list body scope =
    then_three {D = Passed} (fresh site.around name scope) (judge site.around list scope) item_type
    (λ items own. record { scope = scope ++ fixed name own ∷ []; height = items.height })
    (λ head. inner body head.height head.scope >>= (λ height. walked scope height))

pub item_for : (site : Site) (name : Id) (list : Expr) (body : List Item) (scope : Scope) → item_walk site (item.For name list body) scope ≡ for_by site name list (map (item_walk site) body) scope
item_for site name list body scope =
    let rolled : item_walk site (item.For name list body) scope ≡ for_walk site.around name (judge site.around list) (map (item_walk site) body) scope =
    ap (λ i. item_walk site i scope) (sym (item.rolls-For name list body)) ∙ search (rules, the_lemmas) in
    rolled ∙ for_opened site name list (map (item_walk site) body) scope
