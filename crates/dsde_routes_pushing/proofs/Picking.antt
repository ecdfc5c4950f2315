-- The rows to a port are the ways that end there.
use Rattle.std.proofs.Common.{◌≡◌, ℕ, ◌+◌, Bool, true, false, cond, List, [], ◌∷◌, ◌++◌, map, refl, sym, ap, ◌∙◌, arith}
use Rattle.std.proofs.lemmas.List.{map-append}
use Rattle.std.proofs.lemmas.List.Elements.{filter-append}
use Rattle.std.proofs.lemmas.Grind.{flat_map-append}
use Rattle.std.specs.Prelude.{◌==◌, ◌&&◌}
use Rattle.std.specs.List.{flat_map, filter}
use Rattle.dsde_bank.specs.declared.handle.Handle.{Handle}
use Rattle.dsde_routes_wiring.specs.given.structure.plan_Link.{Link}
use Rattle.dsde_routes_wiring.specs.given.structure.plan_Part.{Part}
use Rattle.dsde_routes_wiring.specs.given.structure.Gather.{is_part}
use Rattle.dsde_routes_wiring.specs.declared.row.Row.{Row}
use Rattle.dsde_routes_wiring.specs.declared.wiring.Wiring.{Wiring}
use Rattle.dsde_routes_wiring.specs.Wired.{is_same_handle}
use Rattle.dsde_routes_wiring.specs.declared.row.Way.{Way}
use Rattle.dsde_routes_wiring.specs.Ways.{Sources, over, coming}
use Rattle.dsde_routes_wiring.specs.Flatten.{Site, ways_at, row_of, rows_into, rows_at, rows, sites, is_to}
use Rattle.dsde_routes_pushing.specs.Carried.{Traffic, Delivery, meant, received, pushed, deliveries}
use Rattle.dsde_routes_pushing.specs.Fitting.{HavePorts}
use Rattle.dsde_routes_pushing.proofs.Along.{worth, Carry}
use Rattle.dsde_routes_pushing.proofs.Carrying.{AreCarried, all_carried}

pub same_handle : (one other : Handle) → is_same_handle one other ≡ true → one ≡ other
same_handle one other is =
    let birth : one.birth ≡ other.birth = grind arith in
    let slot : one.slot ≡ other.slot = grind arith in
    λ i. record { birth = birth i; slot = slot i }

module _ (target : Handle) (port : ℕ) where
  -- the ways at a port of a site, if it is this one
  abbrev pub picked : Site → List Way
  picked site = cond (is_same_handle site.part target) (ways_at site port) []

  filter-rows : (part : Handle) (own : ℕ) (list : List Way) → filter (is_to target port) (map (row_of part own) list) ≡ cond (is_same_handle part target && (own == port)) (map (row_of part own) list) []
  filter-rows part own list = by (is_same_handle part target && (own == port)) refl list
    where
      by : (b : Bool) → (is_same_handle part target && (own == port)) ≡ b → (list : List Way) → filter (is_to target port) (map (row_of part own) list) ≡ cond b (map (row_of part own) list) []
      by true is [] = refl
      by true is (way ∷ list) = ap (λ b. cond b (row_of part own way ∷ filter (is_to target port) (map (row_of part own) list)) (filter (is_to target port) (map (row_of part own) list))) is ∙ ap (λ rest. row_of part own way ∷ rest) (by true is list)
      by false is [] = refl
      by false is (way ∷ list) = ap (λ b. cond b (row_of part own way ∷ filter (is_to target port) (map (row_of part own) list)) (filter (is_to target port) (map (row_of part own) list))) is ∙ by false is list

  -- the rows over one link
  link-rows : (part : Handle) (own : ℕ) (list : List Way) (leads same right : Bool) → is_same_handle part target ≡ same → (own == port) ≡ right →
      filter (is_to target port) (cond leads (map (row_of part own) list) []) ≡ cond same (map (row_of target port) (cond (leads && right) list [])) []
  link-rows part own list false false right is fits = refl
  link-rows part own list false true right is fits = refl
  link-rows part own list true same right is fits =
      filter-rows part own list
      ∙ (λ i. cond (is i && fits i) (map (row_of part own) list) [])
      ∙ by same right is fits
    where
      by : (same right : Bool) → is_same_handle part target ≡ same → (own == port) ≡ right → cond (same && right) (map (row_of part own) list) [] ≡ cond same (map (row_of target port) (cond right list [])) []
      by false right is fits = refl
      by true false is fits = refl
      by true true is fits =
          let number : own ≡ port = grind arith in
          λ i. map (row_of (same_handle part target is i) (number i)) list

  both : (b : Bool) (xs ys : List Way) → cond b (map (row_of target port) xs) [] ++ cond b (map (row_of target port) ys) [] ≡ cond b (map (row_of target port) (xs ++ ys)) []
  both true xs ys = sym (map-append (row_of target port) xs ys)
  both false xs ys = refl

  into-rows : (part : Handle) (end : Part) (sources : Sources) (number : ℕ) (links : List Link) →
      filter (is_to target port) (rows_into part end sources number links) ≡ cond (is_same_handle part target) (map (row_of target port) (coming sources number links (record { part = end; port = port }))) []
  into-rows part end sources number [] = sym (both_nil (is_same_handle part target))
    where
      both_nil : (b : Bool) → cond b (let none : List Row = [] in none) [] ≡ []
      both_nil true = refl
      both_nil false = refl
  into-rows part end sources number (link ∷ links) =
      filter-append (is_to target port) (cond (is_part link.to.part end) (map (row_of part link.to.port) (over sources number link)) []) (rows_into part end sources (number + 1) links)
      ∙ (λ i. link-rows part link.to.port (over sources number link) (is_part link.to.part end) (is_same_handle part target) (link.to.port == port) refl refl i ++ into-rows part end sources (number + 1) links i)
      ∙ both (is_same_handle part target) (cond (is_part link.to.part end && (link.to.port == port)) (over sources number link) []) (coming sources (number + 1) links (record { part = end; port = port }))

  out : (b : Bool) (list : List Way) → cond b (map (row_of target port) list) [] ≡ map (row_of target port) (cond b list [])
  out true list = refl
  out false list = refl

  sites-rows : (list : List Site) → filter (is_to target port) (flat_map rows_at list) ≡ map (row_of target port) (flat_map picked list)
  sites-rows [] = refl
  sites-rows (site ∷ list) =
      filter-append (is_to target port) (rows_at site) (flat_map rows_at list)
      ∙ (λ i. (into-rows site.part site.end site.sources 0 site.links ∙ out (is_same_handle site.part target) (ways_at site port)) i ++ sites-rows list i)
      ∙ sym (map-append (row_of target port) (picked site) (flat_map picked list))

  pub rows-picked : (net : Wiring) → filter (is_to target port) (rows net) ≡ map (row_of target port) (flat_map picked (sites net))
  rows-picked net = sites-rows (sites net)

  module _ (traffic : Traffic) where
    meant-picked : (delivery : Delivery) (site : Site) → delivery.part ≡ site.part → Carry traffic delivery.ports (ways_at site) → meant target port delivery ≡ flat_map (worth traffic) (picked site)
    meant-picked delivery site is carry =
        (λ i. cond (is_same_handle (is i) target) (carry port i) [])
        ∙ by (is_same_handle site.part target)
      where
        by : (b : Bool) → cond b (flat_map (worth traffic) (ways_at site port)) [] ≡ flat_map (worth traffic) (cond b (ways_at site port) [])
        by true = refl
        by false = refl

    all-picked : (list : List Delivery) (others : List Site) → AreCarried traffic list others → flat_map (meant target port) list ≡ flat_map (worth traffic) (flat_map picked others)
    all-picked [] [] carried = refl
    all-picked (delivery ∷ list) (site ∷ others) carried =
        (λ i. meant-picked delivery site carried.0.0 carried.0.1 i ++ all-picked list others carried.1 i)
        ∙ sym (flat_map-append (worth traffic) (picked site) (flat_map picked others))
    all-picked [] (site ∷ others) carried = absurd carried
    all-picked (delivery ∷ list) [] carried = absurd carried

    pushed-rows : (list : List Way) → flat_map (pushed traffic) (map (row_of target port) list) ≡ flat_map (worth traffic) list
    pushed-rows [] = refl
    pushed-rows (way ∷ list) = ap (λ rest. worth traffic way ++ rest) (pushed-rows list)

    -- what links carry to a port is what its rows push there
    pub received-pushed : (net : Wiring) → HavePorts traffic net → received traffic net target port ≡ flat_map (pushed traffic) (filter (is_to target port) (rows net))
    received-pushed net have =
        all-picked (deliveries traffic net) (sites net) (all_carried traffic net have)
        ∙ sym (ap (flat_map (pushed traffic)) (rows-picked net) ∙ pushed-rows (flat_map picked (sites net)))
