-- Components and links of a layout in which no link dangles are a plan that fits.
use Rattle.std.proofs.Common.{◌≡◌, ℕ, suc, ◌<◌, arith, Bool, true, false, ◌&&◌, ◌||◌, if◌then◌else◌, List, [], ◌∷◌, map, length, Option, Some, None, Ok, Err, Ordering, Less, Equal, Greater, refl, sym, ◌∙◌, ap}
use Rattle.std.specs.Cmp.Lexicographic.{slice_cmp}
use Rattle.std.specs.List.{AllByRecursion, Contains}
use Rattle.std.specs.Option.{option_cmp}
use Rattle.std.specs.Ordering.{bool_cmp, is_eq, nat_cmp, ordering_then}
use Rattle.std.proofs.lemmas.Map.Lookups.{exact_bytes, exact_unsigned}
use Rattle.dsde_sim_tree.specs.given.syntax.decl_Model.{Model}
use Rattle.dsde_values.specs.declared.name.Name.{Name}
use Rattle.dsde_values.specs.declared.types.Field.{Field}
use Rattle.dsde_values.specs.Path.{is_executive, name_cmp}
use Rattle.dsde_sim_tree.specs.given.language.signatures_Family.{Family}
use Rattle.dsde_sim_tree.specs.given.language.RuleStructures.{family_named}
use Rattle.dsde_sim_tree.specs.given.language.DeclaredStructures.{model_ports}
use Rattle.dsde_sim_tree.specs.given.language.DeclaredModels.{whole_of, Own}
use Rattle.dsde_sim_tree.specs.given.structure.plan_Entry.{Entry}
use Rattle.dsde_sim_tree.specs.given.structure.plan_Part.{Part}
use Rattle.dsde_sim_tree.specs.given.structure.plan_Part_TheVariants as part
use Rattle.dsde_sim_tree.specs.given.structure.Gather.{is_same_name}
use Rattle.dsde_faults.specs.declared.kind.FaultKind.TheVariants.{DanglingLink}
use Rattle.dsde_sim_tree.specs.given.language.Outcome.{Fault, Outcome}
use Rattle.dsde_sim_tree.specs.given.language.Typed.{Sound}
use Rattle.dsde_sound_names.specs.given.executive_plans.placed_PlacedLink.{PlacedLink}
use Rattle.dsde_sound_names.specs.given.executive_plans.Layout.{is_there, has_part, tied}
use Rattle.dsde_system.specs.Plans.{ArePortsOf, HasKid, FitsLink, FitsEntry}
use Rattle.dsde_sound_names.specs.given.sound_expressions.lemmas_Truths.{and-left, and-right}
use Rattle.dsde_sound_structures.proofs.ByFamily.{EntryBy, LinkBy, KidBy, PortsBy}

-- names that are the same are equal
equal-is : (order : Ordering) → is_eq order ≡ true → order ≡ Equal
equal-is Less h = absurd (cc h)
equal-is Equal h = refl
equal-is Greater h = absurd (cc h)

then-first : (one other : Ordering) → ordering_then one other ≡ Equal → one ≡ Equal
then-first Less other h = absurd (cc h)
then-first Equal other h = refl
then-first Greater other h = absurd (cc h)

then-last : (one other : Ordering) → ordering_then one other ≡ Equal → other ≡ Equal
then-last Less other h = absurd (cc h)
then-last Equal other h = h
then-last Greater other h = absurd (cc h)

index-exact : (one other : Option ℕ) → option_cmp nat_cmp one other ≡ Equal → one ≡ other
index-exact None None h = refl
index-exact None (Some b) h = absurd (cc h)
index-exact (Some a) None h = absurd (cc h)
index-exact (Some a) (Some b) h = ap (λ (n : ℕ). Some n) (exact_unsigned a b h)

pub name-exact : (one other : Name) → is_same_name one other ≡ true → one ≡ other
name-exact one other h =
    let same : name_cmp one other ≡ Equal = equal-is (name_cmp one other) h in
    let executives = bool_cmp (is_executive one) (is_executive other) in
    let stems = slice_cmp nat_cmp one.stem other.stem in
    let indices = option_cmp nat_cmp one.index other.index in
    let stem : one.stem ≡ other.stem = exact_bytes one.stem other.stem (then-last executives stems (then-first (ordering_then executives stems) indices same)) in
    let index : one.index ≡ other.index = index-exact one.index other.index (then-last (ordering_then executives stems) indices same) in
    ap (λ (s : List ℕ). let own : Name = record { stem = s; index = one.index } in own) stem
    ∙ ap (λ (i : Option ℕ). let own : Name = record { stem = other.stem; index = i } in own) index

one-family : (one other : Family) → (let o : Option Family = Some one in o) ≡ Some other → one ≡ other
one-family one other h = cc h

-- a component of a name among others, of its kind
pub record There (Is : Entry → Type 0) (entries : List Entry) (name : Name) : Type 0 where
  pub entry : Entry
  pub among : Contains entries entry
  pub named : entry.name ≡ name
  pub is : Is entry

module _ (Is : Entry → Type 0) where
  contains-later : (first own : Entry) (entries : List Entry) → Contains entries own → Contains (first ∷ entries) own
  contains-later first own entries h = (suc h.0, let below : h.0 < length entries = h.1 in omega (arith, below), h.2)

  there-at : (first : Entry) (entries : List Entry) (name : Name) (b : Bool) → is_same_name first.name name ≡ b → (b || is_there name entries) ≡ true
      → AllByRecursion Is (first ∷ entries) → (is_there name entries ≡ true → AllByRecursion Is entries → There Is entries name) → There Is (first ∷ entries) name
  there-at first entries name true same h all next =
      record { entry = first; among = (0, omega arith, refl); named = name-exact first.name name same; is = all.0 }
  there-at first entries name false same h all next =
      let later : There Is entries name = next h all.1 in
      record { entry = later.entry; among = contains-later first later.entry entries later.among; named = later.named; is = later.is }

  pub there-is : (entries : List Entry) (name : Name) → is_there name entries ≡ true → AllByRecursion Is entries → There Is entries name
  there-is [] name h all = absurd (cc h)
  there-is (first ∷ entries) name h all =
      there-at first entries name (is_same_name first.name name) refl h all (there-is entries name)

-- Both ends of a link are there.
pub record TiedBy (entries : List Entry) (placed : PlacedLink) : Type 0 where
  pub from : has_part entries placed.link.from.part ≡ true
  pub to : has_part entries placed.link.to.part ≡ true

abbrev tied_if : Bool → List Entry → List PlacedLink → ℕ → Outcome (Unit {0})
tied_if b entries later at = if b then tied entries later else Err (Fault DanglingLink at)

tied-if : (b : Bool) (entries : List Entry) (later : List PlacedLink) (at : ℕ) (u : Unit {0}) → tied_if b entries later at ≡ Ok u → b ≡ true
tied-if true entries later at u h = refl
tied-if false entries later at u h = absurd (cc h)

tied-later : (b : Bool) (entries : List Entry) (later : List PlacedLink) (at : ℕ) (u : Unit {0}) → tied_if b entries later at ≡ Ok u → tied entries later ≡ Ok u
tied-later true entries later at u h = h
tied-later false entries later at u h = absurd (cc h)

pub tied-all : (entries : List Entry) (links : List PlacedLink) (u : Unit {0}) → tied entries links ≡ Ok u → AllByRecursion (TiedBy entries) links
tied-all entries [] u h = tt
tied-all entries (placed ∷ later) u h =
    let from : Bool = has_part entries placed.link.from.part in
    let to : Bool = has_part entries placed.link.to.part in
    let both : (from && to) ≡ true = tied-if (from && to) entries later placed.at u h in
    (record { from = and-left from to both; to = and-right from to both }, tied-all entries later u (tied-later (from && to) entries later placed.at u h))

-- Links are tied or the first that is not says so; they are never stuck.
tied-if-sure : (b : Bool) (entries : List Entry) (later : List PlacedLink) (at : ℕ) → Sound false (λ (u : Unit {0}). Unit {0}) (tied entries later) → Sound false (λ (u : Unit {0}). Unit {0}) (tied_if b entries later at)
tied-if-sure true entries later at h = h
tied-if-sure false entries later at h = refl

pub tied-sure : (entries : List Entry) (links : List PlacedLink) → Sound false (λ (u : Unit {0}). Unit {0}) (tied entries links)
tied-sure entries [] = tt
tied-sure entries (placed ∷ later) =
    tied-if-sure (has_part entries placed.link.from.part && has_part entries placed.link.to.part) entries later placed.at (tied-sure entries later)

module _ (m : Model) (own : Own) (families : List Family) where
  abbrev Entries : List Entry → Type 0
  Entries = AllByRecursion (EntryBy m own families)

  pub entries-fit : (entries : List Entry) → Entries entries → AllByRecursion (FitsEntry m) entries
  entries-fit [] all = tt
  entries-fit (entry ∷ entries) all = (all.0.fits, entries-fit entries all.1)

  module _ (entries : List Entry) (all : Entries entries) where
    -- the ports of a component that is there
    kid-fits : (name : Name) (out : Bool) (ports : List Field) → is_there name entries ≡ true → KidBy m own families name out ports → HasKid m entries name out ports
    kid-fits name out ports h by =
        let there : There (EntryBy m own families) entries name = there-is (EntryBy m own families) entries name h all in
        let some : (let o : Option Family = Some there.is.family in o) ≡ Some by.family =
        sym there.is.found ∙ ap (λ (n : Name). family_named families n.stem) there.named ∙ by.found in
        record {
          entry = there.entry;
          among = there.among;
          named = there.named;
          own = there.is.kid;
          found = there.is.kid_is;
          are = sym (there.is.kid_ports out) ∙ ap (λ (f : Family). model_ports (whole_of m) out f.model) (one-family there.is.family by.family some) ∙ by.are;
        }

    part-fits : (is_source : Bool) (of : Part) (ports : List Field) → has_part entries of ≡ true → PortsBy m own families is_source of ports → ArePortsOf m own entries is_source of ports
    part-fits is_source part.Net ports h by = by
    part-fits is_source part.Boss ports h by = by
    part-fits is_source (part.Kid name) ports h by = kid-fits name is_source ports h by

    link-fits : (placed : PlacedLink) → LinkBy m own families placed → TiedBy entries placed → FitsLink m own entries placed.link
    link-fits placed by both = record {
      source = by.source;
      from = record { ports = by.from.ports; are = part-fits true placed.link.from.part by.from.ports both.from by.from.are; has = by.from.has };
      target = by.target;
      to = record { ports = by.to.ports; are = part-fits false placed.link.to.part by.to.ports both.to by.to.are; has = by.to.has };
      joins = by.joins;
      not_through = by.not_through;
    }

    pub links-fit : (links : List PlacedLink) → AllByRecursion (LinkBy m own families) links → AllByRecursion (TiedBy entries) links
        → AllByRecursion (FitsLink m own entries) (map (λ (placed : PlacedLink). placed.link) links)
    links-fit [] by both = tt
    links-fit (placed ∷ links) by both = (link-fits placed by.0 both.0, links-fit links by.1 both.1)
