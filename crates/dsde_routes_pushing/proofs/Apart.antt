-- Where the parts of a wiring have distinct handles, the rows to a port come from one place.
use Rattle.std.proofs.Common.{◌≡◌, ℕ, Bool, true, false, cond, List, [], ◌∷◌, ◌++◌, map, refl, sym, ap, ◌∙◌, subst, Option, Some, None, arith, inl}
use Rattle.std.proofs.lemmas.List.{append-nil, map-append}
use Rattle.std.proofs.lemmas.Map.Keys.{IsDistinct-head, IsDistinct-tail}
use Rattle.std.specs.Option.{option_map}
use Rattle.std.specs.List.{flat_map, AllByRecursion, IsDistinct}
use Rattle.dsde_bank.specs.declared.handle.Handle.{Handle}
use Rattle.dsde_values.specs.declared.name.Name.{Name}
use Rattle.dsde_routes_wiring.specs.given.structure.plan_Link.{Link}
use Rattle.dsde_routes_wiring.specs.declared.wiring.Wiring.{Wiring}
use Rattle.dsde_routes_wiring.specs.declared.wiring.WiredKid.{WiredKid}
use Rattle.dsde_routes_wiring.specs.declared.wiring.WiredKid.TheFolds.{fold-roll-Wiring, fold-roll-WiredKid}
use Rattle.dsde_routes_wiring.specs.declared.wiring.WiredKid.TheViews.{out-Wiring, out-WiredKid, roll-out-Wiring, roll-out-WiredKid}
use Rattle.dsde_routes_wiring.specs.declared.row.Way.{Way}
use Rattle.dsde_routes_wiring.specs.Ways.{Ways, Sources, begin}
use Rattle.dsde_routes_wiring.specs.Wired.{is_same_handle, kid_handles, net_handles, beneath, beneath_kid, handles, HasOwnHandles}
use Rattle.dsde_routes_wiring.specs.Flatten.{Site, KidFlow, NetFlow, flow, flow_of_kid, kid_step, net_step, sources_of, sites, ways_at}
use Rattle.dsde_routes_pushing.specs.lemmas.Lists.{Within, within-behind, within-append, distinct-within}
use Rattle.dsde_routes_wiring.specs.Opened.{kids_of, below_of, Beneath, each_wiring, flow_opened, flow_kid_opened, flow-opens, flow_kid-opens, map-kid}
use Rattle.dsde_routes_pushing.proofs.Rising.{Rise, SiteRises, all_rise}
use Rattle.dsde_routes_pushing.proofs.Picking.{picked, same_handle}

beneath-opens : (net : Wiring) → beneath net ≡ flat_map (λ (own : List Handle). own) (map beneath_kid (kids_of net)) ++ (out-Wiring net).boss ∷ []
beneath-opens net = ap beneath (sym (roll-out-Wiring net)) ∙ fold-roll-Wiring (List Handle) (List Handle) kid_handles net_handles (out-Wiring net)

beneath_kid-opens : (kid : WiredKid) → beneath_kid kid ≡ kid_handles (record { name = (out-WiredKid kid).name; handle = (out-WiredKid kid).handle; below = option_map beneath (below_of kid) })
beneath_kid-opens kid =
    ap beneath_kid (sym (roll-out-WiredKid kid))
    ∙ fold-roll-WiredKid (List Handle) (List Handle) kid_handles net_handles (out-WiredKid kid)
    ∙ ap kid_handles (map-kid beneath_kid beneath (out-WiredKid kid))

abbrev pub parts : List Site → List Handle
parts list = map (λ (site : Site). site.part) list

abbrev AreBeneath : NetFlow → List Handle → Type 0
AreBeneath net own = (come : Ways) → Within (parts (net.sites come)) own

abbrev KidBeneath : List Link → KidFlow → List Handle → Type 0
KidBeneath links kid own = (sources : Sources) → Within (parts (kid.sites links sources)) own

abbrev Claim : Wiring → Type 0
Claim net = AreBeneath (flow net) (beneath net)

kid_step_beneath : (links : List Link) (name : Name) (handle : Handle) (below : Option Wiring) → Beneath Claim below →
    KidBeneath links (kid_step (record { name = name; handle = handle; below = option_map flow below })) (kid_handles (record { name = name; handle = handle; below = option_map beneath below }))
kid_step_beneath links name handle None claim = λ sources. inl (refl, tt)
kid_step_beneath links name handle (Some net) claim = λ sources. within-behind _ (handle ∷ []) (beneath net) (claim _)

kid_beneath : (links : List Link) (kid : WiredKid) → Beneath Claim (below_of kid) → KidBeneath links (flow_of_kid kid) (beneath_kid kid)
kid_beneath links kid claim =
    subst (λ (own : KidFlow). KidBeneath links own (beneath_kid kid)) (sym (flow_kid-opens kid)) (
    subst (λ (own : List Handle). KidBeneath links (kid_step (flow_kid_opened kid)) own) (sym (beneath_kid-opens kid)) (
    kid_step_beneath links (out-WiredKid kid).name (out-WiredKid kid).handle (below_of kid) claim))

kids_beneath : (links : List Link) (kids : List WiredKid) → AllByRecursion (λ kid. Beneath Claim (below_of kid)) kids → (sources : Sources) →
    Within (parts (flat_map (λ (kid : KidFlow). kid.sites links sources) (map flow_of_kid kids))) (flat_map (λ (own : List Handle). own) (map beneath_kid kids))
kids_beneath links [] claims sources = tt
kids_beneath links (kid ∷ kids) claims sources =
    let others = flat_map (λ (kid : KidFlow). kid.sites links sources) (map flow_of_kid kids) in
    subst (λ (own : List Handle). Within own (beneath_kid kid ++ flat_map (λ (own : List Handle). own) (map beneath_kid kids)))
    (sym (map-append (λ (site : Site). site.part) ((flow_of_kid kid).sites links sources) others))
    (within-append (parts ((flow_of_kid kid).sites links sources)) (beneath_kid kid) (parts others) _ (kid_beneath links kid claims.0 sources) (kids_beneath links kids claims.1 sources))

net_beneath : (net : Wiring) → AllByRecursion (λ kid. Beneath Claim (below_of kid)) (kids_of net) → Claim net
net_beneath net claims =
    let boss = (out-Wiring net).boss in
    let links = (out-Wiring net).links in
    let kids = map flow_of_kid (kids_of net) in
    let all = flat_map (λ (own : List Handle). own) (map beneath_kid (kids_of net)) in
    subst (λ (own : NetFlow). AreBeneath own (beneath net)) (sym (flow-opens net)) (
    subst (λ (own : List Handle). AreBeneath (net_step (flow_opened net)) own) (sym (beneath-opens net)) (
    λ come.
    let sources = sources_of boss kids come in
    let first = flat_map (λ (kid : KidFlow). kid.sites links sources) kids in
    subst (λ (own : List Handle). Within own (all ++ boss ∷ []))
    (sym (map-append (λ (site : Site). site.part) first _))
    (within-append (parts first) all (boss ∷ []) (boss ∷ []) (kids_beneath links (kids_of net) claims sources) (inl (refl, tt)))))

pub sites_beneath : (net : Wiring) → Within (parts (sites net)) (handles net)
sites_beneath net =
    let first = (flow net).sites (begin (flow net).out.part) in
    subst (λ (own : List Handle). Within own (handles net))
    (sym (map-append (λ (site : Site). site.part) first _))
    (within-append (parts first) (beneath net) ((flow net).out.part ∷ []) ((out-Wiring net).me ∷ []) (each_wiring Claim net_beneath net (begin (flow net).out.part)) (inl (ap (λ (own : NetFlow). own.out.part) (flow-opens net), tt)))

pub itself : (handle : Handle) → is_same_handle handle handle ≡ true
itself handle = grind arith

module _ (target : Handle) (port : ℕ) where
  not_back : (one other : Handle) → is_same_handle one other ≡ false → (b : Bool) → is_same_handle other one ≡ b → b ≡ false
  not_back one other apart false is = refl
  not_back one other apart true is = absurd (let same = same_handle other one is in let wrong : is_same_handle one other ≡ true = ap (λ (own : Handle). is_same_handle one own) same ∙ itself one in cc)

  none-picked : (list : List Site) → AllByRecursion (λ other. is_same_handle target other ≡ false) (parts list) → flat_map (picked target port) list ≡ []
  none-picked [] apart = refl
  none-picked (site ∷ list) apart = λ i. cond (not_back target site.part apart.0 (is_same_handle site.part target) refl i) (ways_at site port) [] ++ none-picked list apart.1 i

  rise-picked : (list : List Site) → AllByRecursion SiteRises list → IsDistinct is_same_handle (parts list) → Rise (flat_map (picked target port) list)
  rise-picked [] rises apart = tt
  rise-picked (site ∷ list) rises apart = by (is_same_handle site.part target) refl (rise-picked list rises.1 (IsDistinct-tail is_same_handle site.part (parts list) apart))
    where
      by : (b : Bool) → is_same_handle site.part target ≡ b → Rise (flat_map (picked target port) list) → Rise (cond b (ways_at site port) [] ++ flat_map (picked target port) list)
      by false is rest = rest
      by true is rest =
          let none = none-picked list (subst (λ (own : Handle). AllByRecursion (λ other. is_same_handle own other ≡ false) (parts list)) (same_handle site.part target is) (IsDistinct-head is_same_handle site.part (parts list) apart)) in
          subst Rise (sym (ap (λ (own : List Way). ways_at site port ++ own) none ∙ append-nil (ways_at site port))) (rises.0 port)

  pub ways-rise : (net : Wiring) → HasOwnHandles net → Rise (flat_map (picked target port) (sites net))
  ways-rise net own = rise-picked (sites net) (all_rise net) (distinct-within is_same_handle (parts (sites net)) (handles net) (sites_beneath net) own)

pub apart-back : (one other : Handle) → is_same_handle one other ≡ false → is_same_handle other one ≡ false
apart-back one other apart = not_back one 0 one other apart (is_same_handle other one) refl

pub sites-apart : (net : Wiring) → HasOwnHandles net → IsDistinct is_same_handle (parts (sites net))
sites-apart net own = distinct-within is_same_handle (parts (sites net)) (handles net) (sites_beneath net) own
