-- Values of sources go along ways, and ways to a port of a part bring values of its type.
use Rattle.std.proofs.Common.{◌≡◌, ℕ, ◌+◌, zero, suc, ◌==◌, Bool, true, false, cond, List, [], ◌∷◌, ◌++◌, map, Option, Some, None, slice_get, slice_index_or, refl, sym, ap, subst, ◌∙◌}
use Rattle.std.specs.Option.{option_to_list}
use Rattle.std.specs.List.{AllByRecursion}
use Rattle.dsde_bank.specs.declared.handle.Handle.{Handle}
use Rattle.dsde_syntax.specs.declared.decl.Model.{Model}
use Rattle.dsde_values.specs.declared.name.Name.{Name}
use Rattle.dsde_values.specs.declared.types.Field.{Field}
use Rattle.dsde_values.specs.declared.types.Ty.{Ty}
use Rattle.dsde_values.specs.declared.types.Types.{Types}
use Rattle.dsde_values.specs.Path.{name_cmp}
use Rattle.dsde_language.specs.DeclaredModels.{types_of, Own, owns_of}
use Rattle.dsde_routes_wiring.specs.given.structure.plan_End.{End}
use Rattle.dsde_routes_wiring.specs.given.structure.plan_Entry.{Entry}
use Rattle.dsde_routes_wiring.specs.given.structure.plan_Link.{Link}
use Rattle.dsde_routes_wiring.specs.given.structure.plan_Part.{Part}
use Rattle.dsde_routes_wiring.specs.given.structure.plan_Part_TheVariants as part
use Rattle.dsde_routes_wiring.specs.given.structure.plan_Via.{Via}
use Rattle.dsde_routes_wiring.specs.given.structure.Gather.{Ports, is_part, is_end}
use Rattle.dsde_routes_wiring.specs.given.structure.Survival.{IsInOrder}
use Rattle.dsde_core_moves.specs.given.system.Fitting.{AreOf}
use Rattle.dsde_core_moves.specs.given.system.Plans.{ArePortsOf, Cover, FitsLink, HasKid, HasPort, Joins, Takes, ways}
use Rattle.dsde_core_moves.specs.given.sim_starting.lemmas_Stood.{same-own}
use Rattle.dsde_routes_wiring.specs.declared.row.Row.{Row}
use Rattle.dsde_routes_wiring.specs.declared.row.Way.{Way}
use Rattle.dsde_routes_wiring.specs.Ways.{Sources, Ways, begin, coming, from_part, onward, over}
use Rattle.dsde_routes_wiring.specs.Flatten.{row_of, rows_into}
use Rattle.dsde_routes_pushing.specs.lemmas.Lists.{among-from, ascend-from, wrong}
use Rattle.dsde_routes_pushing.specs.lemmas.Ascending.{one-of}
use Rattle.dsde_routes_pushing.specs.lemmas.Handles.{both-true, same-number}
use Rattle.dsde_core_moves.specs.given.core_flat.lemmas_Frame.{all-join}
use Rattle.dsde_core_moves.specs.given.core_flat.lemmas_Names.{name-exact, names-total}
use Rattle.dsde_core_parcels.specs.Along.{TakeAlong}

some-field : (one other : Field) → (let found : Option Field = Some one in found) ≡ Some other → one ≡ other
some-field one other is = cc

-- the values at a port have its type
cover-at : (types : Types) (ports : List Field) (got : Ports) (port : ℕ) (ty : Ty) → Cover types ports got → HasPort ports port ty → AreOf types ty (slice_index_or got port [])
cover-at types ports [] port ty cover has = tt
cover-at types [] (values ∷ got) port ty cover has = absurd cover
cover-at types (first ∷ ports) (values ∷ got) zero ty cover has =
    subst (λ (t : Ty). AreOf types t values) (ap (λ (f : Field). f.ty) (some-field first has.field has.found) ∙ has.is) cover.0
cover-at types (first ∷ ports) (values ∷ got) (suc port) ty cover has = cover-at types ports got port ty cover.1 (record { field = has.field; found = has.found; is = has.is })

-- a port has one type
one-type : (ports : List Field) (port : ℕ) (one other : Ty) → HasPort ports port one → HasPort ports port other → one ≡ other
one-type ports port one other has its = sym has.is ∙ ap (λ (f : Field). f.ty) (some-field has.field its.field (sym has.found ∙ its.found)) ∙ its.is

module _ (model : Model) where
  -- one translation more
  take-more : (chain : List Via) (via : Option Via) (from between to : Ty) → TakeAlong model chain from between → Joins model via between to → TakeAlong model (chain ++ option_to_list via) from to
  take-more [] None from between to takes joins = takes ∙ joins
  take-more [] (Some via) from between to takes joins = (to, subst (λ (t : Ty). Takes model via t to) (sym takes) joins, refl)
  take-more (first ∷ chain) via from between to takes joins = (takes.0, takes.1, take-more chain via takes.0 between to takes.2 joins)

  -- components of one name have the same ports, and so has a part however it is named
  pub kid-ports : (entries : List Entry) → IsInOrder entries → (name other : Name) (is_source : Bool) (ports others : List Field) → name ≡ other → HasKid model entries name is_source ports → HasKid model entries other is_source others → ports ≡ others
  kid-ports entries order name other is_source ports others same kid its =
      let one_entry : kid.entry ≡ its.entry =
      one-of name_cmp names-total (λ (entry : Entry). entry.name) kid.entry its.entry entries (ascend-from name_cmp names-total (λ (entry : Entry). entry.name) entries order)
      (among-from entries kid.entry kid.among) (among-from entries its.entry its.among) (kid.named ∙ same ∙ sym its.named) in
      let one_own : kid.own ≡ its.own =
      same-own (slice_get (owns_of model.decls) its.entry.model.0) kid.own its.own (ap (λ (entry : Entry). slice_get (owns_of model.decls) entry.model.0) (sym one_entry) ∙ kid.found) its.found in
      sym kid.are ∙ ap (λ (own : Own). ways model own is_source) one_own ∙ its.are

  module _ (own : Own) (entries : List Entry) (order : IsInOrder entries) where
    part-ports : (one other : Part) (is_source : Bool) (ports others : List Field) → is_part one other ≡ true → ArePortsOf model own entries is_source one ports → ArePortsOf model own entries is_source other others → ports ≡ others
    part-ports part.Net part.Net is_source ports others is are its = sym are ∙ its
    part-ports part.Boss part.Boss is_source ports others is are its = sym are ∙ its
    part-ports (part.Kid name) (part.Kid other) is_source ports others is are its = kid-ports entries order name other is_source ports others (name-exact name other is) are its
    part-ports part.Net part.Boss is_source ports others is are its = wrong is
    part-ports part.Net (part.Kid other) is_source ports others is are its = wrong is
    part-ports part.Boss part.Net is_source ports others is are its = wrong is
    part-ports part.Boss (part.Kid other) is_source ports others is are its = wrong is
    part-ports (part.Kid name) part.Net is_source ports others is are its = wrong is
    part-ports (part.Kid name) part.Boss is_source ports others is are its = wrong is

    -- the type of the port that a link to a part leads to
    pub leads-to : (to : Part) (ports : List Field) → ArePortsOf model own entries false to ports → (link : Link) → (fits : FitsLink model own entries link) → is_part link.to.part to ≡ true → HasPort ports link.to.port fits.target
    leads-to to ports are link fits is =
        subst (λ (fields : List Field). HasPort fields link.to.port fits.target) (part-ports link.to.part to false fits.to.ports ports is fits.to.are are) fits.to.has

  module _ (given : Handle → Ports) where
    -- what its source gives goes along a way, to values of this type
    pub record Arrives (ty : Ty) (way : Way) : Type 0 where
      pub from : Ty
      pub takes : TakeAlong model way.chain from ty
      pub typed : AreOf (types_of model) from (slice_index_or (given way.source) way.port [])

    -- ways that end at ports bring values of their types
    abbrev pub Arrive : List Field → Ways → Type 0
    Arrive ports all = (port : ℕ) (ty : Ty) → HasPort ports port ty → AllByRecursion (Arrives ty) (all port)

    pub begins : (handle : Handle) (ports : List Field) → Cover (types_of model) ports (given handle) → Arrive ports (begin handle)
    begins handle ports cover port ty has = (record { from = ty; takes = refl; typed = cover-at (types_of model) ports (given handle) port ty cover has }, tt)

    goes-on : (number : ℕ) (link : Link) (between to : Ty) → Joins model link.via between to → (all : List Way) → AllByRecursion (Arrives between) all → AllByRecursion (Arrives to) (map (onward number link) all)
    goes-on number link between to joins [] each = tt
    goes-on number link between to joins (way ∷ all) each = (
      record { from = each.0.from; takes = take-more way.chain link.via each.0.from between to each.0.takes joins; typed = each.0.typed },
      goes-on number link between to joins all each.1,
    )

    module _ (own : Own) (entries : List Entry) (order : IsInOrder entries) (sources : Sources) where
      -- the ways that links lead on from bring values of the types of the ports where they end
      abbrev pub AllArrive : Type 0
      AllArrive = (from : Part) (ports : List Field) → ArePortsOf model own entries true from ports → Arrive ports (from_part sources from)

      module _ (arrive : AllArrive) where
        over-arrive : (number : ℕ) (link : Link) → (fits : FitsLink model own entries link) → AllByRecursion (Arrives fits.target) (over sources number link)
        over-arrive number link fits =
            goes-on number link fits.source fits.target fits.joins (from_part sources link.from.part link.from.port)
            (arrive link.from.part fits.from.ports fits.from.are link.from.port fits.source fits.from.has)

        module _ (to : Part) (ports : List Field) (are : ArePortsOf model own entries false to ports) where
          module _ (port : ℕ) (ty : Ty) (has : HasPort ports port ty) where
            abbrev end : End
            end = record { part = to; port = port }

            one-arrives : (number : ℕ) (link : Link) → FitsLink model own entries link → (b : Bool) → is_end link.to end ≡ b → AllByRecursion (Arrives ty) (cond b (over sources number link) [])
            one-arrives number link fits false is = tt
            one-arrives number link fits true is =
                let both = both-true (is_part link.to.part to) (link.to.port == port) is in
                let here : HasPort ports port fits.target = subst (λ (n : ℕ). HasPort ports n fits.target) (same-number link.to.port port both.1) (leads-to own entries order to ports are link fits both.0) in
                subst (λ (t : Ty). AllByRecursion (Arrives t) (over sources number link)) (one-type ports port fits.target ty here has) (over-arrive number link fits)

            -- the ways to the port
            pub coming-arrive : (number : ℕ) (links : List Link) → AllByRecursion (FitsLink model own entries) links → AllByRecursion (Arrives ty) (coming sources number links end)
            coming-arrive number [] fits = tt
            coming-arrive number (link ∷ links) fits =
                all-join (Arrives ty) (cond (is_end link.to end) (over sources number link) []) (coming sources (number + 1) links end)
                (one-arrives number link fits.0 (is_end link.to end) refl) (coming-arrive (number + 1) links fits.1)

          -- the rows to the part
          module _ (handle : Handle) (Fits : Row → Type 0) (fits-row : (port : ℕ) (ty : Ty) (way : Way) → HasPort ports port ty → Arrives ty way → Fits (row_of handle port way)) where
            over-fit : (port : ℕ) (ty : Ty) → HasPort ports port ty → (all : List Way) → AllByRecursion (Arrives ty) all → AllByRecursion Fits (map (row_of handle port) all)
            over-fit port ty has [] each = tt
            over-fit port ty has (way ∷ all) each = (fits-row port ty way has each.0, over-fit port ty has all each.1)

            one-fits : (number : ℕ) (link : Link) → FitsLink model own entries link → (b : Bool) → is_part link.to.part to ≡ b → AllByRecursion Fits (cond b (map (row_of handle link.to.port) (over sources number link)) [])
            one-fits number link fits false is = tt
            one-fits number link fits true is = over-fit link.to.port fits.target (leads-to own entries order to ports are link fits is) (over sources number link) (over-arrive number link fits)

            pub rows-fit : (number : ℕ) (links : List Link) → AllByRecursion (FitsLink model own entries) links → AllByRecursion Fits (rows_into handle to sources number links)
            rows-fit number [] fits = tt
            rows-fit number (link ∷ links) fits =
                all-join Fits (cond (is_part link.to.part to) (map (row_of handle link.to.port) (over sources number link)) []) (rows_into handle to sources (number + 1) links)
                (one-fits number link fits.0 (is_part link.to.part to) refl) (rows-fit (number + 1) links fits.1)
