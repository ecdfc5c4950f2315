-- What is received, delivery by delivery.
use Rattle.std.proofs.Common.{◌≡◌, ℕ, false, cond, get_or, List, [], ◌∷◌, ◌++◌, map, refl, sym, ap, ◌∙◌, subst}
use Rattle.std.proofs.lemmas.List.{append-nil}
use Rattle.std.proofs.lemmas.Map.Keys.{IsDistinct-head, IsDistinct-tail}
use Rattle.std.specs.List.{AllByRecursion, IsDistinct, flat_map}
use Rattle.dsde_bank.specs.declared.handle.Handle.{Handle}
use Rattle.dsde_values.specs.declared.value.Value.{Value}
use Rattle.dsde_routes_wiring.specs.declared.wiring.Wiring.{Wiring}
use Rattle.dsde_routes_wiring.specs.declared.row.Row.{Row}
use Rattle.dsde_routes_wiring.specs.Wired.{is_same_handle, HasOwnHandles}
use Rattle.dsde_routes_wiring.specs.Flatten.{Site, sites, flatten}
use Rattle.dsde_routes_pushing.specs.Carried.{Traffic, Delivery, meant, pushed, deliveries}
use Rattle.dsde_routes_pushing.specs.Fitting.{HavePorts}
use Rattle.dsde_routes_pushing.specs.Pushed.{AreRowsTo}
use Rattle.dsde_routes_pushing.proofs.Carrying.{AreCarried, all_carried}
use Rattle.dsde_routes_pushing.proofs.Apart.{sites-apart, itself, apart-back}
use Rattle.dsde_routes_pushing.proofs.Whole.{pushed_is_received}

abbrev parts : List Delivery → List Handle
parts list = map (λ (delivery : Delivery). delivery.part) list

same-parts : (traffic : Traffic) (list : List Delivery) (others : List Site) → AreCarried traffic list others → parts list ≡ map (λ (site : Site). site.part) others
same-parts traffic [] [] carried = refl
same-parts traffic (delivery ∷ list) (site ∷ others) carried = λ i. carried.0.0 i ∷ same-parts traffic list others carried.1 i
same-parts traffic [] (site ∷ others) carried = absurd carried
same-parts traffic (delivery ∷ list) [] carried = absurd carried

abbrev others-of : Handle → ℕ → List Delivery → List Value
others-of target port list = flat_map (meant target port) list

-- nothing is meant for another part
none-meant : (target : Handle) (port : ℕ) (list : List Delivery) → AllByRecursion (λ other. is_same_handle other target ≡ false) (parts list) → others-of target port list ≡ []
none-meant target port [] apart = refl
none-meant target port (delivery ∷ list) apart = λ i. cond (apart.0 i) (get_or delivery.ports port []) [] ++ none-meant target port list apart.1 i

all-back : (target : Handle) (list : List Handle) → AllByRecursion (λ other. is_same_handle target other ≡ false) list → AllByRecursion (λ other. is_same_handle other target ≡ false) list
all-back target [] apart = tt
all-back target (other ∷ list) apart = (apart-back target other apart.0, all-back target list apart.1)

-- where parts are distinct, what is meant for a part is its delivery
abbrev IsMeant : List Delivery → Delivery → Type 0
IsMeant all delivery = (port : ℕ) → others-of delivery.part port all ≡ get_or delivery.ports port []

more-meant : (first : Delivery) (all list : List Delivery) → AllByRecursion (λ other. is_same_handle first.part other ≡ false) (parts list) → AllByRecursion (IsMeant all) list → AllByRecursion (IsMeant (first ∷ all)) list
more-meant first all [] apart meant = tt
more-meant first all (delivery ∷ list) apart meant =
    (λ port. ap (λ b. cond b (get_or first.ports port []) [] ++ others-of delivery.part port all) apart.0 ∙ meant.0 port, more-meant first all list apart.1 meant.1)

all-meant : (list : List Delivery) → IsDistinct is_same_handle (parts list) → AllByRecursion (IsMeant list) list
all-meant [] apart = tt
all-meant (delivery ∷ list) apart =
    let head = IsDistinct-head is_same_handle delivery.part (parts list) apart in (
      λ port.
          (λ i. cond (itself delivery.part i) (get_or delivery.ports port []) [] ++ none-meant delivery.part port list (all-back delivery.part (parts list) head) i)
          ∙ append-nil (get_or delivery.ports port []),
      more-meant delivery list list head (all-meant list (IsDistinct-tail is_same_handle delivery.part (parts list) apart)),
    )

each-weaker : {X : Type 0} (P Q : X → Type 0) → ((x : X) → P x → Q x) → (xs : List X) → AllByRecursion P xs → AllByRecursion Q xs
each-weaker P Q gives [] each = tt
each-weaker P Q gives (x ∷ xs) each = (gives x each.0, each-weaker P Q gives xs each.1)

pub each_pushed : (traffic : Traffic) (net : Wiring) → HasOwnHandles net → HavePorts traffic net →
    AllByRecursion (λ delivery. (port : ℕ) (list : List Row) → AreRowsTo (flatten net) delivery.part port list → get_or delivery.ports port [] ≡ flat_map (pushed traffic) list) (deliveries traffic net)
each_pushed traffic net own have =
    let all = deliveries traffic net in
    let apart = subst (IsDistinct is_same_handle) (sym (same-parts traffic all (sites net) (all_carried traffic net have))) (sites-apart net own) in
    each-weaker (IsMeant all) (λ (delivery : Delivery). (port : ℕ) (list : List Row) → AreRowsTo (flatten net) delivery.part port list → get_or delivery.ports port [] ≡ flat_map (pushed traffic) list)
    (λ delivery meant port list are. sym (meant port) ∙ pushed_is_received net own delivery.part port traffic have list are) all (all-meant all apart)
