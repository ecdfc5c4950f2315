-- A component, or an executive, with another leaf in its place.
use Rattle.std.proofs.Common.{◌≡◌, inl, inr, ℕ, Bool, true, false, cond, List, [], ◌∷◌, ◌++◌, Option, Some, None, option_and_then, refl, sym, ap, subst, ◌∙◌, append_assoc, eq-eqb}
use Rattle.std.specs.Option.{option_map}
use Rattle.std.specs.List.{flat_map, AllByRecursion}
use Rattle.std.specs.FinMap as map
use Rattle.std.proofs.lemmas.List.{append-nil}
use Rattle.dsde_bank.specs.declared.handle.Handle.{Handle}
use Rattle.dsde_values.specs.declared.name.Name.{Name}
use Rattle.dsde_values.specs.declared.path.Path.{Path}
use Rattle.dsde_values.specs.Path.{root}
use Rattle.dsde_sim_tree.specs.given.formalism.leaf_Leaf.{Leaf}
use Rattle.dsde_sim_tree.specs.Told.{below}
use Rattle.dsde_routes_wiring.specs.given.structure.Gather.{is_same_name}
use Rattle.dsde_grove.specs.Grove as grove
use Rattle.dsde_grove.specs.Grove.{Grove, IsTree, spot, value_of, in_slot, with_value}
use Rattle.dsde_sim_tree.specs.declared.sim.Sim.{Sim}
use Rattle.dsde_sim_tree.specs.declared.sim.Sim.TheVariants as sim
use Rattle.dsde_core_flat.specs.declared.spot.Spot.{Spot}
use Rattle.dsde_core_flat.specs.declared.spot.Spot.TheVariants as variant
use Rattle.dsde_routes_wiring.specs.declared.wiring.Wiring.{Wiring}
use Rattle.dsde_routes_wiring.specs.declared.wiring.WiredKid.{WiredKid}
use Rattle.dsde_routes_wiring.specs.declared.wiring.WiredKid.TheViews.{out-Wiring, out-WiredKid}
use Rattle.dsde_core_flat.specs.Shown.{leaf_in}
use Rattle.dsde_core_flat.specs.Places.{Place, place, part_places}
use Rattle.dsde_core_flat.specs.lemmas.Frame.{all-left, all-right, all-join}
use Rattle.dsde_core_flat.specs.Change.{changed_at, Standing, found_kid, found, outside}
use Rattle.dsde_core_flat.specs.lemmas.Context.{Shows}
use Rattle.dsde_core_flat.specs.lemmas.Names.{name-exact}
use Rattle.dsde_core_flat.specs.lemmas.Beneath.{IsApart, IsNoBoss, outside-apart}
use Rattle.dsde_core_flat.specs.Stands.{is_net, StandsAt, HasBirth, StandsFor, Leads, ChangesBeneath}
use Rattle.dsde_core_flat.specs.lemmas.Called.{found-itself}
use Rattle.dsde_core_flat.specs.lemmas.Mixing.{all-one, all-other, births-apart, places_with}
use Rattle.dsde_core_flat.specs.lemmas.Keeping.{same, wired-same, old-mixed, spot-got, stays}
use Rattle.dsde_core_flat.specs.lemmas.Groves.{spot-slot, one-path, same-or-not, valued-there, valued-other, value-changes}

-- what is found has the path to which the names lead
abbrev pub HasPath : List Name → Standing → Type 0
HasPath names at = at.path.names ≡ names

kid-path : (name : Name) (names : List Name) → ((handle : Handle) (path : Path) (own : Option Wiring) → AllByRecursion (HasPath (path.names ++ names)) (found names handle path own)) →
    (kid : WiredKid) (path : Path) (b : Bool) → is_same_name (out-WiredKid kid).name name ≡ b →
    AllByRecursion (HasPath (path.names ++ name ∷ names)) (cond b (found names (out-WiredKid kid).handle (below path (out-WiredKid kid).name) (out-WiredKid kid).below) [])
kid-path name names known kid path true is =
    subst (λ (all : List Name). AllByRecursion (HasPath all) (found names (out-WiredKid kid).handle (below path (out-WiredKid kid).name) (out-WiredKid kid).below))
    (append_assoc path.names ((out-WiredKid kid).name ∷ []) names ∙ ap (λ (n : Name). path.names ++ n ∷ names) (name-exact (out-WiredKid kid).name name is))
    (known (out-WiredKid kid).handle (below path (out-WiredKid kid).name) (out-WiredKid kid).below)
kid-path name names known kid path false is = tt

kids-path : (name : Name) (names : List Name) → ((handle : Handle) (path : Path) (own : Option Wiring) → AllByRecursion (HasPath (path.names ++ names)) (found names handle path own)) →
    (kids : List WiredKid) (path : Path) → AllByRecursion (HasPath (path.names ++ name ∷ names)) (flat_map (found_kid name (found names) path) kids)
kids-path name names known [] path = tt
kids-path name names known (kid ∷ kids) path =
    all-join (HasPath (path.names ++ name ∷ names)) (found_kid name (found names) path kid) (flat_map (found_kid name (found names) path) kids)
    (kid-path name names known kid path (is_same_name (out-WiredKid kid).name name) refl) (kids-path name names known kids path)

pub found-path : (names : List Name) (handle : Handle) (path : Path) (own : Option Wiring) → AllByRecursion (HasPath (path.names ++ names)) (found names handle path own)
found-path [] handle path own = (sym (append-nil path.names), tt)
found-path (name ∷ names) handle path None = tt
found-path (name ∷ names) handle path (Some net) = kids-path name names (found-path names) (out-Wiring net).kids path

-- a birth that stands outside does not stand beneath
pub born-outside : (own : Grove Spot) (names : List Name) (birth : ℕ) (part : grove.Spot Spot) → map.get own.parts birth ≡ Some part → (ats : List Place) →
    AllByRecursion (StandsAt own) ats → AllByRecursion (IsApart names) ats → HasBirth birth ats → ¬ Leads names part.path
born-outside own names birth part is [] stands apart has leads = absurd has
born-outside own names birth part is (at ∷ ats) stands apart (inl here) leads =
    let live : map.get own.parts birth ≡ Some stands.0.part = ap (map.get own.parts) (sym here) ∙ spot-got own at.handle stands.0.part stands.0.live in
    let one : part ≡ stands.0.part = cc in
    apart.0 (record { rest = leads.rest; is = sym stands.0.path ∙ ap (λ (p : grove.Spot Spot). p.path) (sym one) ∙ leads.is })
born-outside own names birth part is (at ∷ ats) stands apart (inr later) leads = born-outside own names birth part is ats stands.1 apart.1 later leads

-- handles of one path are one
pub one-handle-at : (own : Grove Spot) → IsTree own → (one other : Handle) (p q : grove.Spot Spot) → spot own one ≡ Some p → spot own other ≡ Some q → p.path ≡ q.path → one ≡ other
one-handle-at own tree one other p q live its same =
    let got = spot-got own one p live in
    let its_got = spot-got own other q its in
    let births : one.birth ≡ other.birth = one-path own tree one.birth other.birth p q got its_got same in
    let parts : p ≡ q = let e : map.get own.parts other.birth ≡ Some p = ap (map.get own.parts) (sym births) ∙ got in cc in
    let slots : one.slot ≡ other.slot = sym (spot-slot own one p live) ∙ ap (λ (s : grove.Spot Spot). s.slot) parts ∙ spot-slot own other q its in
    ap (λ (n : ℕ). let h : Handle = record { birth = n; slot = one.slot } in h) births ∙ ap (λ (n : ℕ). let h : Handle = record { birth = other.birth; slot = n } in h) slots

pub in-its-slot : (slot : ℕ) (part : grove.Spot Spot) → part.slot ≡ slot → in_slot slot part ≡ Some part
in-its-slot slot part is = ap (λ (b : Bool). cond b (Some part) None) (eq-eqb part.slot slot is)

module _ (old : Grove Spot) (handle : Handle) (leaf : Leaf) (part : grove.Spot Spot) (live : spot old handle ≡ Some part) where
  abbrev pub moved : Grove Spot
  moved = with_value old handle (variant.Leaf leaf)

  abbrev its : grove.Spot Spot
  its = record part { value = variant.Leaf leaf }

  pub moved-spot : spot moved handle ≡ Some its
  moved-spot =
      ap (option_and_then (in_slot handle.slot)) (valued-there old handle (variant.Leaf leaf) part live)
      ∙ in-its-slot handle.slot its (spot-slot old handle part live)

  pub moved-value : value_of moved handle ≡ Some (variant.Leaf leaf)
  moved-value = ap (option_map (λ (p : grove.Spot Spot). p.value)) moved-spot

  -- what is live was live
  pub was-live : (birth : ℕ) (other : grove.Spot Spot) → map.get moved.parts birth ≡ Some other → (p : grove.Spot Spot) × (map.get old.parts birth ≡ Some p) × (p.path ≡ other.path)
  was-live birth other is = elim (same-or-not birth handle.birth) [
    | inl same ↦
        let here : map.get moved.parts birth ≡ Some its = ap (map.get moved.parts) same ∙ valued-there old handle (variant.Leaf leaf) part live in
        let one : its ≡ other = cc in
        (part, ap (map.get old.parts) same ∙ spot-got old handle part live, ap (λ (p : grove.Spot Spot). p.path) one)
    | inr apart ↦ (other, sym (valued-other old handle (variant.Leaf leaf) part live birth apart) ∙ is, refl)
  ]

  -- the component at a path, and no network, has this handle
  module _ (tree : IsTree old) (kind : is_net part.value ≡ false) (names : List Name) (path : part.path ≡ names) where
    abbrev pub shows-it : Standing → Type 0
    shows-it = Shows (value_of old) (value_of moved) same (λ own. sim.Leaf leaf)

    alike : (at : Place) → StandsAt old at → at.path.names ≡ names → at.handle ≡ handle
    alike at stands is = one-handle-at old tree at.handle handle stands.part part stands.live live (stands.path ∙ is ∙ sym path)

    kinds : (at : Place) → (stands : StandsAt old at) → at.path.names ≡ names → at.is_net ≡ false
    kinds at stands is =
        let one : stands.part ≡ part = let e : spot old handle ≡ Some stands.part = ap (spot old) (sym (alike at stands is)) ∙ stands.live in cc in
        sym stands.kind ∙ ap (λ (p : grove.Spot Spot). is_net p.value) one ∙ kind

    one-shows : (at : Handle) (its_path : Path) (own : Option Wiring) → its_path.names ≡ names → AllByRecursion (StandsAt old) (part_places at its_path own) →
        shows-it (record { handle = at; path = its_path; own = own })
    one-shows at its_path None is stands =
        ap (λ (held : Option Spot). sim.Leaf (leaf_in held)) (ap (value_of moved) (alike (place at its_path false) stands.0 is) ∙ moved-value)
    one-shows at its_path (Some net) is stands = absurd (let wrong : true ≡ false = kinds (place at its_path true) stands.0 is in cc)

    pub all-show : (ats : List Standing) → AllByRecursion (HasPath names) ats → AllByRecursion (StandsAt old) (flat_map (places_with same) ats) → AllByRecursion shows-it ats
    all-show [] paths stands = tt
    all-show (at ∷ ats) paths stands = (
      one-shows at.handle at.path at.own paths.0 (all-left (StandsAt old) (places_with same at) (flat_map (places_with same) ats) stands),
      all-show ats paths.1 (all-right (StandsAt old) (places_with same at) (flat_map (places_with same) ats) stands),
    )

    one-stands : (at : Place) → StandsAt old at → at.path.names ≡ names → StandsAt moved at
    one-stands at stands is = record {
      part = its;
      live = ap (spot moved) (alike at stands is) ∙ moved-spot;
      path = path ∙ sym is;
      kind = sym (kinds at stands is);
    }

    part-stands : (at : Handle) (its_path : Path) (own : Option Wiring) → its_path.names ≡ names → AllByRecursion (StandsAt old) (part_places at its_path own) →
        AllByRecursion (StandsAt moved) (part_places at its_path own)
    part-stands at its_path None is stands = (one-stands (place at its_path false) stands.0 is, tt)
    part-stands at its_path (Some net) is stands = absurd (let wrong : true ≡ false = kinds (place at its_path true) stands.0 is in cc)

    pub all-live : (ats : List Standing) → AllByRecursion (HasPath names) ats → AllByRecursion (StandsAt old) (flat_map (places_with same) ats) → AllByRecursion (StandsAt moved) (flat_map (places_with same) ats)
    all-live [] paths stands = tt
    all-live (at ∷ ats) paths stands =
        all-join (StandsAt moved) (places_with same at) (flat_map (places_with same) ats)
        (part-stands at.handle at.path at.own paths.0 (all-left (StandsAt old) (places_with same at) (flat_map (places_with same) ats) stands))
        (all-live ats paths.1 (all-right (StandsAt old) (places_with same at) (flat_map (places_with same) ats) stands))

-- A component moves: the flat state stands for the tree with the moved component in its place.
pub leaf-moves : (old : Grove Spot) (top : Handle) (wiring : Option Wiring) (own : Sim) (names : List Name) (handle : Handle) (leaf : Leaf) (part : grove.Spot Spot) →
    IsTree old → StandsFor old top wiring own → AllByRecursion IsNoBoss names →
    spot old handle ≡ Some part → part.path ≡ root.names ++ names → is_net part.value ≡ false →
    StandsFor (with_value old handle (variant.Leaf leaf)) top wiring (changed_at names (λ s. sim.Leaf leaf) own)
leaf-moves old top wiring own names handle leaf part tree stands none live path kind =
    let ats = found names top root wiring in
    let before = old-mixed names top root wiring in
    let its = all-other (StandsAt old) before stands.live in
    let others = all-one (StandsAt old) before stands.live in
    let paths = found-path names top root wiring in
    subst (λ (w : Option Wiring). StandsFor (with_value old handle (variant.Leaf leaf)) top w (changed_at names (λ s. sim.Leaf leaf) own)) (wired-same names wiring)
    (stays old (with_value old handle (variant.Leaf leaf)) top wiring own names same (λ s. sim.Leaf leaf) stands none
    (subst (λ (n : List Name). ChangesBeneath n old (with_value old handle (variant.Leaf leaf))) path (value-changes old handle (variant.Leaf leaf) part live))
    (all-show old handle leaf part live tree kind (root.names ++ names) path ats paths its)
    (all-live old handle leaf part live tree kind (root.names ++ names) path ats paths its)
    (found-itself names top root wiring stands.itself)
    (λ birth other is leads.
    let was = was-live old handle leaf part live birth other is in
    elim (births-apart birth before (stands.only birth was.0 was.1)) [
      | inl out ↦ absurd (born-outside old (root.names ++ names) birth was.0 was.1 (outside names top root wiring) others (outside-apart names none top root wiring) out
          (record { rest = leads.rest; is = was.2 ∙ leads.is }))
      | inr there ↦ there
    ]))
