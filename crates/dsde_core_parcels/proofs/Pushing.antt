-- Values pushed along one row more, and out of one port more.
use Rattle.std.proofs.Common.{◌≡◌, ◌↔◌, suc, length, true, List, [], ◌∷◌, ◌++◌, ap, sym, ◌∙◌, refl, subst, append-nil, arith}
use Rattle.std.specs.Prelude.{Contains}
use Rattle.std.specs.FinSet as set
use Rattle.std.specs.List.{AllByRecursion, filter_map, flat_map}
use Rattle.std.proofs.lemmas.List.{append_assoc}
use Rattle.std.proofs.lemmas.List.Concat.{flat_map-cons}
use Rattle.dsde_syntax.specs.declared.decl.Model.{Model}
use Rattle.dsde_values.specs.declared.value.Value.{Value}
use Rattle.dsde_routes_wiring.specs.given.structure.plan_Via.{Via}
use Rattle.dsde_routes_wiring.specs.given.structure.Gather.{Translation}
use Rattle.dsde_routes_wiring.specs.declared.row.Row.{Row}
use Rattle.dsde_routes_wiring.specs.Sets.{Rows}
use Rattle.dsde_routes_wiring.specs.Flatten.{is_from}
use Rattle.dsde_routes_pushing.specs.Carried.{along}
use Rattle.dsde_core_parcels.specs.Along.{GoAlong}
use Rattle.dsde_core_parcels.specs.declared.parcel.Outlet.{Outlet}
use Rattle.dsde_core_parcels.specs.declared.parcel.Parcel.{Parcel}
use Rattle.dsde_core_parcels.specs.Parcels.{ArePushed, AreRowsFrom, GoFrom, made_along, parcel_with, parcels_of}

-- one row more
pub row-more : (gives : Translation) (values made : List Value) (chain : List Via) (row : Row) (rest later : List Row) (old new whole : List Parcel) →
    old ++ parcels_of gives values rest ≡ whole → rest ≡ row ∷ later → chain ≡ row.chain → made ≡ filter_map (along gives chain) values → new ≡ old ++ parcel_with row made →
    new ++ parcels_of gives values later ≡ whole
row-more gives values made chain row rest later old new whole so is chain-is made-is new-is =
    let f : Row → List Parcel = λ own. parcel_with own (made_along gives values own) in
    let made-so : made ≡ made_along gives values row = made-is ∙ ap (λ (vias : List Via). filter_map (along gives vias) values) chain-is in
    ap (λ (parcels : List Parcel). parcels ++ parcels_of gives values later) (new-is ∙ ap (λ (own : List Value). old ++ parcel_with row own) made-so)
    ∙ append_assoc old (f row) (flat_map f later)
    ∙ ap (λ (parcels : List Parcel). old ++ parcels) (sym (flat_map-cons f row later) ∙ ap (λ (rows : List Row). parcels_of gives values rows) (sym is))
    ∙ so

-- one port more
pub port-more : (table : Rows) (gives : Translation) (outlet : Outlet) (rest later : List Outlet) (rows : List Row) (values : List Value) (old new : List Parcel) (P : List Parcel → Type 0) →
    ((behind : List Parcel) → ArePushed table gives rest behind → P (old ++ behind)) → rest ≡ outlet ∷ later → AreRowsFrom table outlet rows → values ≡ outlet.values → new ≡ old ++ parcels_of gives values rows →
    (behind : List Parcel) → ArePushed table gives later behind → P (new ++ behind)
port-more table gives outlet rest later rows values old new P so is from values-is new-is behind pushed =
    let here = parcels_of gives outlet.values rows in
    let joined : ArePushed table gives rest (here ++ behind) = subst (λ (outlets : List Outlet). ArePushed table gives outlets (here ++ behind)) (sym is) (rows, behind, from, refl, pushed) in
    subst P
    (sym (append_assoc old here behind)
    ∙ ap (λ (parcels : List Parcel). parcels ++ behind) (sym (new-is ∙ ap (λ (own : List Value). old ++ parcels_of gives own rows) values-is)))
    (so (here ++ behind) joined)

-- no port more
pub none-more : (table : Rows) (gives : Translation) (rest : List Outlet) (old : List Parcel) (P : List Parcel → Type 0) →
    ((behind : List Parcel) → ArePushed table gives rest behind → P (old ++ behind)) → length rest ≡ 0 → P old
none-more table gives [] old P so is = subst P (append-nil old) (so [] refl)
none-more table gives (outlet ∷ rest) old P so is = absurd (omega (arith, is))

-- what comes out of a port goes along the rows from there
pub rows-go : (model : Model) (table : Rows) (outlet : Outlet) (values : List Value) (rows : List Row) → GoFrom model table outlet → values ≡ outlet.values →
    ((row : Row) → Contains rows row ↔ ((set.contains table row ≡ true) × (is_from outlet.source outlet.port row ≡ true))) → AllByRecursion (λ row. GoAlong model row.chain values) rows
rows-go model table outlet values rows go is each =
    subst (λ (own : List Value). AllByRecursion (λ (row : Row). GoAlong model row.chain own) rows) (sym is)
    (all-from (λ (row : Row). GoAlong model row.chain outlet.values) rows (λ row there. go row ((each row).0 there).0 ((each row).0 there).1))
  where
    all-from : {X : Type 0} (P : X → Type 0) (xs : List X) → ((x : X) → Contains xs x → P x) → AllByRecursion P xs
    all-from P [] so = tt
    all-from P (x ∷ xs) so = (so x (0, omega arith, refl), all-from P xs (λ y there. so y (suc there.0, omega (arith, there.1), there.2)))

module _ (model : Model) (values : List Value) where
  rows-split : (rest : List Row) (row : Row) (later : List Row) → AllByRecursion (λ own. GoAlong model own.chain values) rest → rest ≡ row ∷ later → AllByRecursion (λ own. GoAlong model own.chain values) (row ∷ later)
  rows-split rest row later go is = subst (AllByRecursion (λ (own : Row). GoAlong model own.chain values)) is go

  -- along the first row, and along the others
  pub row-goes : (rest : List Row) (row : Row) (later : List Row) (chain : List Via) → AllByRecursion (λ own. GoAlong model own.chain values) rest → rest ≡ row ∷ later → chain ≡ row.chain → GoAlong model chain values
  row-goes rest row later chain go is chain-is = subst (λ (vias : List Via). GoAlong model vias values) (sym chain-is) (rows-split rest row later go is).0

  pub rows-later : (rest : List Row) (row : Row) (later : List Row) → AllByRecursion (λ own. GoAlong model own.chain values) rest → rest ≡ row ∷ later → AllByRecursion (λ own. GoAlong model own.chain values) later
  rows-later rest row later go is = (rows-split rest row later go is).1
