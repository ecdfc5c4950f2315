-- Links see of a component its name and its model alone: they fit all entries that have the same ones.
use Rattle.std.proofs.Common.{◌≡◌, ◌⊎◌, ℕ, zero, suc, ◌<◌, Bool, true, false, List, [], ◌∷◌, length, get_or, map, refl, sym, ◌∙◌, ap, subst, inl, inr, arith}
use Rattle.std.specs.Prelude.{slice_get}
use Rattle.std.specs.List.{AllByRecursion, Contains}
use Rattle.std.proofs.lemmas.Simd.{map-map}
use Rattle.dsde_language.specs.given.syntax.decl_Model.{Model}
use Rattle.dsde_values.specs.declared.name.Name.{Name}
use Rattle.dsde_values.specs.declared.types.Field.{Field}
use Rattle.dsde_values.specs.declared.types.Ty.{Ty}
use Rattle.dsde_values.specs.Path.{EXEC}
use Rattle.dsde_language.specs.declared.ids.ModelId.{ModelId}
use Rattle.dsde_language.specs.DeclaredModels.{Own, owns_of}
use Rattle.dsde_sim_tree.specs.given.structure.plan_End.{End}
use Rattle.dsde_sim_tree.specs.given.structure.plan_Entry.{Entry}
use Rattle.dsde_sim_tree.specs.given.structure.plan_Link.{Link}
use Rattle.dsde_sim_tree.specs.given.structure.plan_Part.{Part}
use Rattle.dsde_sim_tree.specs.given.structure.plan_Part_TheVariants as part
use Rattle.dsde_sim_tree.specs.given.structure.Gather.{is_same_name}
use Rattle.dsde_sim_tree.specs.given.structure.Survival.{AreInOrder, names, role, roles}
use Rattle.dsde_executive.specs.given.system.Plans.{ArePortsOf, FitsLink, HasKid, IsAt}
use Rattle.dsde_sim_tree.specs.Tree.{started_as}
use Rattle.dsde_sim_starting.specs.Fitting.{FitsLinks}

-- an item is in a list
abbrev pub Among : {X : Type 0} → X → List X → Type 0
Among x [] = ⊥
Among x (y ∷ ys) = (x ≡ y) ⊎ Among x ys

among-at : {X : Type 0} (xs : List X) (x : X) (k : ℕ) → k < length xs → get_or xs k x ≡ x → Among x xs
among-at [] x k within is = absurd (omega arith)
among-at (y ∷ xs) x zero within is = inl (sym is)
among-at (y ∷ xs) x (suc k) within is = inr (among-at xs x k (omega arith) is)

pub among-from : {X : Type 0} (xs : List X) (x : X) → Contains xs x → Among x xs
among-from xs x there = among-at xs x there.0 there.1 there.2

contains-from : {X : Type 0} (xs : List X) (x : X) → Among x xs → Contains xs x
contains-from [] x among = absurd among
contains-from (y ∷ xs) x (inl same) = (0, omega arith, sym same)
contains-from (y ∷ xs) x (inr among) = let there = contains-from xs x among in (suc there.0, omega (arith, there.1), there.2)

among-map : {X Y : Type 0} (f : X → Y) (x : X) (xs : List X) → Among x xs → Among (f x) (map f xs)
among-map f x [] among = among
among-map f x (y ∷ xs) (inl same) = inl (ap f same)
among-map f x (y ∷ xs) (inr among) = inr (among-map f x xs among)

map-among : {X Y : Type 0} (f : X → Y) (y : Y) (xs : List X) → Among y (map f xs) → (x : X) × Among x xs × (y ≡ f x)
map-among f y [] among = absurd among
map-among f y (x ∷ xs) (inl same) = (x, inl refl, same)
map-among f y (x ∷ xs) (inr among) = let found = map-among f y xs among in (found.0, inr found.1, found.2)

each-map : {X Y : Type 0} (P : Y → Type 0) (f : X → Y) (xs : List X) → AllByRecursion (λ x. P (f x)) xs → AllByRecursion P (map f xs)
each-map P f [] each = tt
each-map P f (x ∷ xs) each = (each.0, each-map P f xs each.1)

each-mapped : {X Y : Type 0} (P : Y → Type 0) (f : X → Y) (xs : List X) → AllByRecursion P (map f xs) → AllByRecursion (λ x. P (f x)) xs
each-mapped P f [] each = tt
each-mapped P f (x ∷ xs) each = (each.0, each-mapped P f xs each.1)

each-follows : {X : Type 0} (P Q : X → Type 0) → ((x : X) → P x → Q x) → (xs : List X) → AllByRecursion P xs → AllByRecursion Q xs
each-follows P Q follows [] each = tt
each-follows P Q follows (x ∷ xs) each = (follows x each.0, each-follows P Q follows xs each.1)

module _ (model : Model) (entries others : List Entry) (are : roles entries ≡ roles others) where
  names-same : names entries ≡ names others
  names-same =
      sym (map-map (λ (own : Name × ModelId). own.0) role entries)
      ∙ ap (λ (own : List (Name × ModelId)). map (λ (one : Name × ModelId). one.0) own) are
      ∙ map-map (λ (own : Name × ModelId). own.0) role others

  -- the other entry of the same name and model
  other-entry : (entry : Entry) → Contains entries entry → (other : Entry) × Among other others × (role entry ≡ role other)
  other-entry entry among =
      map-among role (role entry) others (subst (Among (role entry)) are (among-map role entry entries (among-from entries entry among)))

  kid-there : (name : Name) (out : Bool) (ports : List Field) → HasKid model entries name out ports → HasKid model others name out ports
  kid-there name out ports has =
      let other = other-entry has.entry has.among in
      let same : other.0.model ≡ has.entry.model = sym (ap (λ (own : Name × ModelId). own.1) other.2) in
      record {
        entry = other.0;
        among = contains-from others other.0 other.1;
        named = sym (ap (λ (own : Name × ModelId). own.0) other.2) ∙ has.named;
        own = has.own;
        found = ap (λ (number : ModelId). slice_get (owns_of model.decls) number.0) same ∙ has.found;
        are = has.are;
      }

  ports-there : (own : Own) (is_source : Bool) (place : Part) (ports : List Field) → ArePortsOf model own entries is_source place ports → ArePortsOf model own others is_source place ports
  ports-there own is_source part.Net ports at = at
  ports-there own is_source part.Boss ports at = at
  ports-there own is_source (part.Kid name) ports at = kid-there name is_source ports at

  end-there : (own : Own) (is_source : Bool) (end : End) (ty : Ty) → IsAt model own entries is_source end ty → IsAt model own others is_source end ty
  end-there own is_source end ty at = record { ports = at.ports; are = ports-there own is_source end.part at.ports at.are; has = at.has }

  link-there : (own : Own) (link : Link) → FitsLink model own entries link → FitsLink model own others link
  link-there own link fits = record {
    source = fits.source;
    from = end-there own true link.from fits.source fits.from;
    target = fits.target;
    to = end-there own false link.to fits.target fits.to;
    joins = fits.joins;
    not_through = fits.not_through;
  }

  ordinary-there : AllByRecursion (λ (entry : Entry). is_same_name EXEC entry.name ≡ false) entries → AllByRecursion (λ (entry : Entry). is_same_name EXEC entry.name ≡ false) others
  ordinary-there each =
      each-mapped (λ (name : Name). is_same_name EXEC name ≡ false) (λ (entry : Entry). entry.name) others
      (subst (AllByRecursion (λ (name : Name). is_same_name EXEC name ≡ false)) names-same
      (each-map (λ (name : Name). is_same_name EXEC name ≡ false) (λ (entry : Entry). entry.name) entries each))

  -- links that fit entries fit others of the same names and models
  pub links-by-roles : (number : ModelId) (links : List Link) → FitsLinks model number entries links → FitsLinks model number others links
  links-by-roles number links fits = record {
    own = fits.own;
    found = fits.found;
    network = fits.network;
    order = subst AreInOrder names-same fits.order;
    ordinary = ordinary-there fits.ordinary;
    each = each-follows (FitsLink model fits.own entries) (FitsLink model fits.own others) (link-there fits.own) links fits.each;
  }

-- what components are that start for these entries have their names and models
pub started-roles : (entries : List Entry) → roles (map started_as entries) ≡ roles entries
started-roles entries = map-map role started_as entries
