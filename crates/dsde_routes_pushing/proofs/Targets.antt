-- Where rows lead to.
use Rattle.std.proofs.Common.{◌≡◌, ℕ, ◌+◌, Bool, true, false, cond, List, [], ◌∷◌, map, sym, ap, subst, ◌∙◌, inl, inr}
use Rattle.std.specs.FinSet as set
use Rattle.dsde_bank.specs.declared.handle.Handle.{Handle}
use Rattle.dsde_routes_wiring.specs.given.structure.plan_Link.{Link}
use Rattle.dsde_routes_wiring.specs.given.structure.plan_Part.{Part}
use Rattle.dsde_routes_wiring.specs.given.structure.Gather.{is_part}
use Rattle.dsde_routes_wiring.specs.declared.row.Row.{Row}
use Rattle.dsde_routes_wiring.specs.declared.row.Way.{Way}
use Rattle.dsde_routes_wiring.specs.declared.wiring.Wiring.{Wiring}
use Rattle.dsde_routes_wiring.specs.Sets.{row_cmp, row_cmp-total, row_cmp-same}
use Rattle.dsde_routes_wiring.specs.Ways.{Sources, over}
use Rattle.dsde_routes_wiring.specs.Wired.{handles}
use Rattle.dsde_routes_wiring.specs.Flatten.{Site, flatten, row_of, rows, rows_at, rows_into, sites}
use Rattle.dsde_routes_pushing.specs.lemmas.Lists.{Among, Within, among-append, among-flat, any-among}
use Rattle.dsde_routes_pushing.proofs.Apart.{parts, sites_beneath}

among-within : {X : Type 0} (x : X) (xs ys : List X) → Within xs ys → Among x xs → Among x ys
among-within x [] ys within among = absurd among
among-within x (z ∷ xs) [] within among = absurd within
among-within x (z ∷ xs) (y ∷ ys) (inl within) (inl is) = inl (is ∙ within.0)
among-within x (z ∷ xs) (y ∷ ys) (inl within) (inr among) = inr (among-within x xs ys within.1 among)
among-within x (z ∷ xs) (y ∷ ys) (inr within) among = inr (among-within x (z ∷ xs) ys within among)

among-parts : (site : Site) (list : List Site) → Among site list → Among site.part (parts list)
among-parts site [] among = absurd among
among-parts site (other ∷ list) (inl is) = inl (ap (λ (own : Site). own.part) is)
among-parts site (other ∷ list) (inr among) = inr (among-parts site list among)

over-target : (target : Handle) (port : ℕ) (ways : List Way) (row : Row) → Among row (map (row_of target port) ways) → row.target ≡ target
over-target target port [] row among = absurd among
over-target target port (way ∷ ways) row (inl is) = ap (λ (own : Row). own.target) is
over-target target port (way ∷ ways) row (inr among) = over-target target port ways row among

into-target : (target : Handle) (part : Part) (sources : Sources) (number : ℕ) (links : List Link) (row : Row) → Among row (rows_into target part sources number links) → row.target ≡ target
into-target target part sources number [] row among = absurd among
into-target target part sources number (link ∷ links) row among =
    let first : List Row = cond (is_part link.to.part part) (map (row_of target link.to.port) (over sources number link)) [] in
    elim (among-append row first (rows_into target part sources (number + 1) links) among) [
      | inl here ↦ by (is_part link.to.part part) here
      | inr there ↦ into-target target part sources (number + 1) links row there
    ]
  where
    by : (b : Bool) → Among row (cond b (map (row_of target link.to.port) (over sources number link)) []) → row.target ≡ target
    by true here = over-target target link.to.port (over sources number link) row here
    by false here = absurd here

pub leads-to : (wiring : Wiring) (row : Row) → set.contains (flatten wiring) row ≡ true → Among row.target (handles wiring)
leads-to wiring row there =
    let among = any-among row_cmp row_cmp-total row_cmp-same row (rows wiring) (sym (set.contains-from_list row_cmp-total (rows wiring) row) ∙ there) in
    let found = among-flat rows_at row (sites wiring) among in
    let site : Site = found.0 in
    let target : row.target ≡ site.part = into-target site.part site.end site.sources 0 site.links row found.2 in
    among-within row.target (parts (sites wiring)) (handles wiring) (sites_beneath wiring)
    (subst (λ (handle : Handle). Among handle (parts (sites wiring))) (sym target) (among-parts site (sites wiring) found.1))
