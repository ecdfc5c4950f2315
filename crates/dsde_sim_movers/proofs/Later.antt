-- In a lawful order each stands to those before it as in path order.
use Rattle.std.proofs.Common.{◌≡◌, true, false, List, [], ◌∷◌, ◌++◌, sym, ◌∙◌, subst, inl, inr, ◌⊎◌}
use Rattle.std.specs.List.{AllByRecursion}
use Rattle.dsde_values.specs.declared.name.Name.{Name}
use Rattle.dsde_values.specs.declared.path.Path.{Path}
use Rattle.dsde_sim_tree.specs.given.structure.Gather.{is_same_name}
use Rattle.dsde_sim_movers.specs.Deliveries.{Delivery}
use Rattle.dsde_sim_movers.specs.lemmas.Events.{each-append, each-weaker}
use Rattle.dsde_sim_movers.specs.Movers.{seat_behind}
use Rattle.dsde_sim_movers.specs.lemmas.Lenses.{apart-back}
use Rattle.dsde_sim_movers.specs.Orders.{is_above, IsLawful, IsOrderOf}
use Rattle.dsde_sim_movers.proofs.Pairs.{Related, ArePaired}
use Rattle.dsde_sim_movers.proofs.Agree.{all-here, all-order, paired-drop, related-before}

module _ (same : (name : Name) → is_same_name name name ≡ true) (exact : (name other : Name) → is_same_name name other ≡ true → name ≡ other) (path : Path) where
  -- related, whichever stands first
  abbrev Either : Delivery → Delivery → Type 0
  Either own other = Related path own other ⊎ Related path other own

  abbrev AreEither : List Delivery → Type 0
  AreEither [] = Unit {0}
  AreEither (own ∷ later) = AllByRecursion (Either own) later × AreEither later

  related-after : (before : List Delivery) (own : Delivery) (after : List Delivery) → ArePaired path (before ++ own ∷ after) → AllByRecursion (Related path own) after
  related-after [] own after paired = paired.0
  related-after (other ∷ before) own after paired = related-after before own after paired.1

  either-ordered : (all order : List Delivery) → ArePaired path all → IsOrderOf all order → AreEither order
  either-ordered all [] paired is = tt
  either-ordered all (own ∷ order) paired is =
      let pairs = subst (ArePaired path) is.2 paired in (
        all-order (Either own) (is.0 ++ is.1) order is.3
            (each-append (Either own) is.0 is.1
            (each-weaker (λ other. Related path other own) (Either own) (λ other related. inr related) is.0 (related-before path is.0 own is.1 pairs))
            (each-weaker (Related path own) (Either own) (λ other related. inl related) is.1 (related-after is.0 own is.1 pairs))),
        either-ordered (is.0 ++ is.1) order (paired-drop path is.0 own is.1 pairs) is.3,
      )

  by-lawful : (own other : Delivery) → Either other own → is_above path other own ≡ false → Related path other own
  by-lawful own other (inl related) below = related
  by-lawful own other (inr (inl apart)) below = inl (apart-back same exact (seat_behind path own.path).names (seat_behind path other.path).names apart)
  by-lawful own other (inr (inr under)) below = absurd (let e : true ≡ false = sym under.above ∙ below in cc)

  related-by : (before : List Delivery) (own : Delivery) (later : List Delivery) → AreEither (before ++ own ∷ later) → IsLawful path (before ++ own ∷ later) → AllByRecursion (λ other. Related path other own) before
  related-by [] own later either lawful = tt
  related-by (other ∷ before) own later either lawful =
      (by-lawful own other (all-here (Either other) before own later either.0) (all-here (λ one. is_above path other one ≡ false) before own later lawful.0), related-by before own later either.1 lawful.1)

  pub related-in-order : (all before : List Delivery) (own : Delivery) (later : List Delivery) → ArePaired path all → IsOrderOf all (before ++ own ∷ later) → IsLawful path (before ++ own ∷ later) →
      AllByRecursion (λ other. Related path other own) before
  related-in-order all before own later paired is lawful = related-by before own later (either-ordered all (before ++ own ∷ later) paired is) lawful
