-- What comes to those who are called has the types of their in ports.
use Rattle.std.proofs.Common.{◌≡◌, ℕ, suc, ◌+◌, ◌==◌, true, List, [], ◌∷◌, ◌++◌, map, length, filter_map, flat_map, Option, Some, None, option_and_then, slice_get, slice_index_or, refl, sym, ap, subst, ◌∙◌, arith}
use Rattle.std.specs.FinSet as set
use Rattle.std.specs.List.{AllByRecursion, cons_option, range_with_len}
use Rattle.dsde_bank.specs.declared.handle.Handle.{Handle}
use Rattle.dsde_syntax.specs.declared.decl.Model.{Model}
use Rattle.dsde_values.specs.declared.types.Field.{Field}
use Rattle.dsde_values.specs.declared.types.Ty.{Ty}
use Rattle.dsde_values.specs.declared.types.Types.{Types}
use Rattle.dsde_values.specs.declared.value.Value.{Value}
use Rattle.dsde_language.specs.DeclaredModels.{body_ins, types_of}
use Rattle.dsde_language.specs.Typed.{Typed}
use Rattle.dsde_sim_tree.specs.given.structure.plan_Via.{Via}
use Rattle.dsde_sim_tree.specs.given.structure.Gather.{Translation}
use Rattle.dsde_sim_tree.specs.given.formalism.leaf_Leaf.{Leaf}
use Rattle.dsde_sim_tree.specs.given.formalism.Leaf.{component_of}
use Rattle.dsde_sim_working.specs.given.system.Fitting.{AreOf, FitsInputs, FitsLeaf, Reach}
use Rattle.dsde_sim_working.specs.given.system.Plans.{Takes}
use Rattle.dsde_sim_working.specs.given.system.Program.{system}
use Rattle.dsde_grove.specs.Grove.{Grove, value_of}
use Rattle.dsde_sim_working.specs.given.sim_starting.lemmas_Stood.{component-ins}
use Rattle.dsde_core_parcels.specs.given.routes_wiring.row_Row.{Row}
use Rattle.dsde_core_parcels.specs.given.routes_wiring.wiring_Wiring.{Wiring}
use Rattle.dsde_core_parcels.specs.given.routes_wiring.Flatten.{flatten, is_to}
use Rattle.dsde_core_parcels.specs.given.routes_wiring.Wired.{is_same_handle}
use Rattle.dsde_core_parcels.specs.given.routes_pushing.Carried.{along, pushed, Traffic}
use Rattle.dsde_core_parcels.specs.given.routes_pushing.Pushed.{AreRowsTo}
use Rattle.dsde_core_parcels.specs.given.routes_pushing.lemmas_Handles.{both-true, same-handle, same-number}
use Rattle.dsde_core_parcels.specs.given.routes_pushing.lemmas_Lists.{all-from, contains-from}
use Rattle.dsde_core_parcels.specs.given.core_flat.spot_Spot.{Spot}
use Rattle.dsde_core_parcels.specs.given.core_flat.spot_Spot_TheVariants as variant
use Rattle.dsde_core_parcels.specs.Along.{TakeAlong}
use Rattle.dsde_core_parcels.specs.Traffic.{GoesToPort}

-- translations keep types
abbrev pub KeepTypes : Model → Type 0
KeepTypes model = (via : Via) (from to : Ty) (own made : Value) → Takes model via from to → Typed (types_of model) from own → (system model).translate via own ≡ Some made → Typed (types_of model) to made

some-value : (one other : Value) → (let found : Option Value = Some one in found) ≡ Some other → one ≡ other
some-value one other is = cc

some-field : (one other : Field) → (let found : Option Field = Some one in found) ≡ Some other → one ≡ other
some-field one other is = cc

both-of : (types : Types) (ty : Ty) (first later : List Value) → AreOf types ty first → AreOf types ty later → AreOf types ty (first ++ later)
both-of types ty [] later are_first are_later = are_later
both-of types ty (value ∷ first) later are_first are_later = (are_first.0, both-of types ty first later are_first.1 are_later)

option-of : (types : Types) (ty : Ty) (made : Option Value) (values : List Value) → ((value : Value) → made ≡ Some value → Typed types ty value) → AreOf types ty values → AreOf types ty (cons_option made values)
option-of types ty None values typed are = are
option-of types ty (Some value) values typed are = (typed value refl, are)

made-of : (types : Types) (from to : Ty) (make : Value → Option Value) → ((own made : Value) → Typed types from own → make own ≡ Some made → Typed types to made) → (values : List Value) → AreOf types from values → AreOf types to (filter_map make values)
made-of types from to make typed [] are = tt
made-of types from to make typed (value ∷ values) are =
    option-of types to (make value) (filter_map make values) (λ made is. typed value made are.0 is) (made-of types from to make typed values are.1)

-- values at ports, from the first on
reach-from : (types : Types) (f : ℕ → List Value) (ports : List Field) (start : ℕ)
    → ((port at : ℕ) (field : Field) → start + port ≡ at → slice_get ports port ≡ Some field → AreOf types field.ty (f at))
    → Reach types ports (map f (range_with_len start (length ports)))
reach-from types f [] start each = tt
reach-from types f (field ∷ ports) start each = (
  each 0 start field (omega arith) refl,
  reach-from types f ports (start + 1) (λ port at own is found. each (suc port) at own (omega (arith, is)) found),
)

module _ (model : Model) (keep : KeepTypes model) where
  abbrev gives : Translation
  gives = (system model).translate

  -- what is made of a value along translations
  along-typed : (chain : List Via) (from to : Ty) → TakeAlong model chain from to → (own made : Value) → Typed (types_of model) from own → along gives chain own ≡ Some made → Typed (types_of model) to made
  along-typed [] from to takes own made typed is =
      subst (λ (ty : Ty). Typed (types_of model) ty made) takes (subst (λ (value : Value). Typed (types_of model) from value) (some-value own made is) typed)
  along-typed (via ∷ chain) from to takes own made typed is =
      further (λ next its end. along-typed chain takes.0 to takes.2 next made its end) (gives via own) refl is
    where
      further : ((next : Value) → Typed (types_of model) takes.0 next → along gives chain next ≡ Some made → Typed (types_of model) to made) → (next : Option Value) → gives via own ≡ next → option_and_then (along gives chain) next ≡ Some made → Typed (types_of model) to made
      further later None at is = absurd (let wrong : (let found : Option Value = None in found) ≡ Some made = is in cc)
      further later (Some next) at is = later next (keep via from takes.0 own next takes.1 typed at) is

  module _ (own : Grove Spot) (traffic : Traffic) (translates : traffic.translate ≡ gives) where
    -- what a row brings
    row-typed : (row : Row) → (goes : GoesToPort model own traffic.sent row) → AreOf (types_of model) goes.to (pushed traffic row)
    row-typed row goes =
        subst (λ (own_gives : Translation). AreOf (types_of model) goes.to (filter_map (along own_gives row.chain) (slice_index_or (traffic.sent row.source) row.source_port []))) (sym translates)
        (made-of (types_of model) goes.from goes.to (along gives row.chain) (λ value made typed is. along-typed row.chain goes.from goes.to goes.takes value made typed is)
        (slice_index_or (traffic.sent row.source) row.source_port []) goes.typed)

    module _ (target : Handle) (leaf : Leaf) (held : value_of own target ≡ Some (variant.Leaf leaf)) (fits : FitsLeaf model leaf) (port : ℕ) (field : Field) (at : slice_get (body_ins model fits.own) port ≡ Some field) where
      -- to a port of whoever lives under a handle
      row-here : (row : Row) → is_to target port row ≡ true → GoesToPort model own traffic.sent row → AreOf (types_of model) field.ty (pushed traffic row)
      row-here row is goes =
          let both = both-true (is_same_handle row.target target) (row.target_port == port) is in
          let there : value_of own row.target ≡ Some (variant.Leaf leaf) = ap (value_of own) (same-handle row.target target both.0) ∙ held in
          let has = goes.target leaf there fits.own fits.found in
          let found : slice_get (body_ins model fits.own) port ≡ Some has.field = ap (slice_get (body_ins model fits.own)) (sym (same-number row.target_port port both.1)) ∙ has.found in
          let ty : goes.to ≡ field.ty = sym has.is ∙ ap (λ (one : Field). one.ty) (some-field has.field field (sym found ∙ at)) in
          subst (λ (own_ty : Ty). AreOf (types_of model) own_ty (pushed traffic row)) ty (row-typed row goes)

      rows-here : (rows : List Row) → AllByRecursion (λ (row : Row). (is_to target port row ≡ true) × GoesToPort model own traffic.sent row) rows → AreOf (types_of model) field.ty (flat_map (pushed traffic) rows)
      rows-here [] all = tt
      rows-here (row ∷ rows) all = both-of (types_of model) field.ty (pushed traffic row) (flat_map (pushed traffic) rows) (row-here row all.0.0 all.0.1) (rows-here rows all.1)

    module _ (table : Wiring) (inboxes_bring : Handle → ℕ → List Value)
        (is : (target : Handle) (port : ℕ) (rows : List Row) → AreRowsTo (flatten table) target port rows → inboxes_bring target port ≡ flat_map (pushed traffic) rows)
        (ordered : (target : Handle) (port : ℕ) → (rows : List Row) × AreRowsTo (flatten table) target port rows)
        (goes : (row : Row) → set.contains (flatten table) row ≡ true → GoesToPort model own traffic.sent row) where
      pub leaf-inputs : (target : Handle) (leaf : Leaf) → value_of own target ≡ Some (variant.Leaf leaf) → FitsLeaf model leaf → FitsInputs model leaf.model.0 (map (inboxes_bring target) (range_with_len 0 (component_of (system model) leaf).ins))
      leaf-inputs target leaf held fits =
          let ports = body_ins model fits.own in
          let many : (component_of (system model) leaf).ins ≡ length ports = component-ins model leaf.model fits.own fits.found leaf.args in
          record {
            own = fits.own;
            found = fits.found;
            reach = subst (λ (n : ℕ). Reach (types_of model) ports (map (inboxes_bring target) (range_with_len 0 n))) (sym many)
                (reach-from (types_of model) (inboxes_bring target) ports 0
                (λ port at field same found.
                let rows = ordered target at in
                let here : slice_get ports at ≡ Some field = ap (slice_get ports) (let e : at ≡ port = omega (arith, same) in e) ∙ found in
                subst (AreOf (types_of model) field.ty) (sym (is target at rows.0 rows.1))
                (rows-here target leaf held fits at field here rows.0
                (all-from (λ (row : Row). (is_to target at row ≡ true) × GoesToPort model own traffic.sent row) rows.0
                (λ row among.
                let both = (rows.1.each row).0 (contains-from rows.0 row among) in
                (both.1, goes row both.0))))));
          }
