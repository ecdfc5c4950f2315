-- What is carried over links is what is carried along ways.
use Rattle.std.proofs.Common.{◌≡◌, ℕ, ◌+◌, ◌<◌, ◌≤◌, Bool, true, false, cond, List, [], ◌∷◌, ◌++◌, get_or, map, refl, sym, ap, ◌∙◌, Option, Some, None, arith, inl, inr, zero-add}
use Rattle.std.proofs.lemmas.Bool.{cases_lt}
use Rattle.std.specs.Prelude.{◌⊎◌}
use Rattle.std.proofs.lemmas.List.{get_or_past}
use Rattle.std.proofs.lemmas.List.FromFn.{length-map-range_with_len, get_or-map-range_with_len}
use Rattle.std.proofs.lemmas.List.Elements.{filter_map-append}
use Rattle.std.proofs.lemmas.Grind.{flat_map-append}
use Rattle.std.specs.Prelude.{◌==◌, ◌&&◌, option_and_then, option_to_list, filter}
use Rattle.std.specs.List.{flat_map, filter_map, range_with_len, cons_option}
use Rattle.dsde_values.specs.declared.value.Value.{Value}
use Rattle.dsde_routes_wiring.specs.given.structure.plan_End.{End}
use Rattle.dsde_routes_wiring.specs.given.structure.plan_Link.{Link}
use Rattle.dsde_routes_wiring.specs.given.structure.plan_Part.{Part}
use Rattle.dsde_routes_wiring.specs.given.structure.plan_Via.{Via}
use Rattle.dsde_routes_wiring.specs.given.structure.sources_Sources.{Sources}
use Rattle.dsde_routes_wiring.specs.given.structure.Gather as gather
use Rattle.dsde_routes_wiring.specs.given.structure.Gather.{Translation, Ports, through, carried, gather, gathered, is_end, is_part, is_same_name}
use Rattle.dsde_routes_wiring.specs.Ways as ways
use Rattle.dsde_routes_wiring.specs.declared.row.Way.{Way}
use Rattle.dsde_routes_wiring.specs.Ways.{Ways, Sent, onward, begin, over, coming}
use Rattle.dsde_routes_pushing.specs.Carried.{Traffic, along}
use Rattle.dsde_routes_pushing.specs.Fitting.{LeadWithin}

module _ (translate : Translation) where
  both : (first later : Value → Option Value) → Value → Option Value
  both first later value = option_and_then later (first value)

  map-twice : (first later : Value → Option Value) (values : List Value) → filter_map later (filter_map first values) ≡ filter_map (λ value. option_and_then later (first value)) values
  map-twice first later [] = refl
  map-twice first later (value ∷ values) =
      elim (first value) as (λ (o : Option Value). filter_map later (cons_option o (filter_map first values)) ≡ cons_option (option_and_then later o) (filter_map (λ v. option_and_then later (first v)) values)) [
        | None ↦ map-twice first later values
        | Some made ↦ ap (cons_option (later made)) (map-twice first later values)
      ]

  map-same : (one other : Value → Option Value) → ((value : Value) → one value ≡ other value) → (values : List Value) → filter_map one values ≡ filter_map other values
  map-same one other same [] = refl
  map-same one other same (value ∷ values) = λ i. cons_option (same value i) (map-same one other same values i)

  along_one : (via : Option Via) (link : Link) → link.via ≡ via → (value : Value) → along translate (option_to_list via) value ≡ (elim via [ None ↦ Some value | Some own ↦ translate own value ])
  along_one None link is value = refl
  along_one (Some own) link is value = elim (translate own value) as (λ (o : Option Value). option_and_then (λ (v : Value). let known : Option Value = Some v in known) o ≡ o) [ None ↦ refl | Some v ↦ refl ]

  along_through : (link : Link) (value : Value) → along translate (option_to_list link.via) value ≡ through translate link value
  along_through link value = along_one link.via link refl value

  along-append : (chain later : List Via) (value : Value) → along translate (chain ++ later) value ≡ option_and_then (along translate later) (along translate chain value)
  along-append [] later value = refl
  along-append (via ∷ chain) later value =
      elim (translate via value) as (λ (o : Option Value). option_and_then (along translate (chain ++ later)) o ≡ option_and_then (along translate later) (option_and_then (along translate chain) o)) [
        | None ↦ refl
        | Some made ↦ along-append chain later made
      ]

  along_onward : (chain : List Via) (link : Link) (values : List Value) → filter_map (through translate link) (filter_map (along translate chain) values) ≡ filter_map (along translate (chain ++ option_to_list link.via)) values
  along_onward chain link values =
      map-twice (along translate chain) (through translate link) values
      ∙ map-same (λ value. option_and_then (through translate link) (along translate chain value)) (along translate (chain ++ option_to_list link.via))
      (λ value. to_along (along translate chain value) ∙ sym (along-append chain (option_to_list link.via) value)) values
    where
      to_along : (o : Option Value) → option_and_then (through translate link) o ≡ option_and_then (along translate (option_to_list link.via)) o
      to_along None = refl
      to_along (Some value) = sym (along_through link value)

module _ (traffic : Traffic) where
  -- what a way carries
  abbrev pub worth : Way → List Value
  worth way = filter_map (along traffic.translate way.chain) (get_or (traffic.sent way.source) way.port [])

  -- at each port these values are what the ways that end there carry
  abbrev pub Carry : Ports → Ways → Type 0
  Carry ports ways = (port : ℕ) → get_or ports port [] ≡ flat_map worth (ways port)

  abbrev pub CarryFrom : Sources → ways.Sources → Type 0
  CarryFrom given sources = (part : Part) → Carry (gather.from_part given part) (ways.from_part sources part)

  map-worth : (number : ℕ) (link : Link) (list : List Way) → filter_map (through traffic.translate link) (flat_map worth list) ≡ flat_map worth (map (onward number link) list)
  map-worth number link [] = refl
  map-worth number link (way ∷ list) =
      filter_map-append (through traffic.translate link) (worth way) (flat_map worth list)
      ∙ (λ i. along_onward traffic.translate way.chain link (get_or (traffic.sent way.source) way.port []) i ++ map-worth number link list i)

  carried_over : (given : Sources) (sources : ways.Sources) → CarryFrom given sources → (number : ℕ) (link : Link) → carried traffic.translate given link ≡ flat_map worth (over sources number link)
  carried_over given sources same number link =
      ap (filter_map (through traffic.translate link)) (same link.from.part link.from.port)
      ∙ map-worth number link (ways.from_part sources link.from.part link.from.port)

  to_front : (given : Sources) (b : Bool) (link : Link) (links : List Link) → flat_map (carried traffic.translate given) (cond b (link ∷ links) links) ≡ cond b (carried traffic.translate given link) [] ++ flat_map (carried traffic.translate given) links
  to_front given true link links = refl
  to_front given false link links = refl

  worth_front : (b : Bool) (list : List Way) → cond b (flat_map worth list) [] ≡ flat_map worth (cond b list [])
  worth_front true list = refl
  worth_front false list = refl

  -- what links carry to an end is what the ways that end there carry
  pub gather_coming : (given : Sources) (sources : ways.Sources) → CarryFrom given sources → (number : ℕ) (links : List Link) (end : End) →
      gather traffic.translate links given end ≡ flat_map worth (coming sources number links end)
  gather_coming given sources same number [] end = refl
  gather_coming given sources same number (link ∷ links) end =
      to_front given (is_end link.to end) link (filter (λ link. is_end link.to end) links)
      ∙ (λ i. cond (is_end link.to end) (carried_over given sources same number link i) [] ++ gather_coming given sources same (number + 1) links end i)
      ∙ ap (λ front. front ++ flat_map worth (coming sources (number + 1) links end)) (worth_front (is_end link.to end) (over sources number link))
      ∙ sym (flat_map-append worth (cond (is_end link.to end) (over sources number link) []) (coming sources (number + 1) links end))

  and_first : (a b : Bool) → (a && b) ≡ true → a ≡ true
  and_first true b is = refl
  and_first false b is = is

  and_second : (a b : Bool) → (a && b) ≡ true → b ≡ true
  and_second true b is = is
  and_second false b is = absurd (let wrong : false ≡ true = is in cc)

  -- to a port past the last nothing comes
  none_here : (sources : ways.Sources) (number : ℕ) (link : Link) (end : Part) (ports port : ℕ) → (is_part link.to.part end ≡ true → link.to.port < ports) → ports ≤ port →
      (b : Bool) → (is_part link.to.part end && (link.to.port == port)) ≡ b → cond b (over sources number link) [] ≡ []
  none_here sources number link end ports port within past false is = refl
  none_here sources number link end ports port within past true is =
      let low : link.to.port < ports = within (and_first (is_part link.to.part end) (link.to.port == port) is) in
      let same : (link.to.port == port) ≡ true = and_second (is_part link.to.part end) (link.to.port == port) is in
      absurd (grind arith)

  pub none_past : (sources : ways.Sources) (number : ℕ) (links : List Link) (end : Part) (ports port : ℕ) → LeadWithin ports end links → ports ≤ port →
      coming sources number links (record { part = end; port = port }) ≡ []
  none_past sources number [] end ports port within past = refl
  none_past sources number (link ∷ links) end ports port within past =
      λ i. none_here sources number link end ports port within.0 past (is_part link.to.part end && (link.to.port == port)) refl i ++ none_past sources (number + 1) links end ports port within.1 past i

  module _ (given : Sources) (sources : ways.Sources) (same : CarryFrom given sources) (links : List Link) (end : Part) (ports : ℕ) (within : LeadWithin ports end links) where
    at : ℕ → List Value
    at port = gather traffic.translate links given (record { part = end; port = port })

    at_port : (port : ℕ) → (port < ports) ⊎ (ports ≤ port) → get_or (map at (range_with_len 0 ports)) port [] ≡ flat_map worth (coming sources 0 links (record { part = end; port = port }))
    unfolding at
    at_port port (inl low) = get_or-map-range_with_len at 0 ports port port [] low (zero-add port) ∙ gather_coming given sources same 0 links (record { part = end; port = port })
    at_port port (inr past) =
        get_or_past (map at (range_with_len 0 ports)) port [] (omega (arith, length-map-range_with_len at 0 ports))
        ∙ sym (ap (flat_map worth) (none_past sources 0 links end ports port within past))

    pub gathered_coming : Carry (gathered traffic.translate links given end ports) (λ port. coming sources 0 links (record { part = end; port = port }))
    unfolding at
    gathered_coming port = at_port port (cases_lt port ports)
