-- What one more link brings to the parts of a network, and to its out ports.
use Rattle.std.proofs.Common.{◌≡◌, ℕ, ◌+◌, ◌<◌, length, get_or, take, true, false, List, [], ◌∷◌, ◌++◌, map, refl, sym, ◌∙◌, ap}
use Rattle.std.specs.declared.cmp.Ordering.TheVariants.{Equal}
use Rattle.std.specs.List.Sorted.{IsStrictlySortedBy}
use Rattle.std.proofs.lemmas.List.{take_more}
use Rattle.dsde_sim_tree.specs.Tree.{name_of}
use Rattle.dsde_values.specs.declared.name.Name.{Name}
use Rattle.dsde_values.specs.Path.{name_cmp}
use Rattle.dsde_sim_tree.specs.given.structure.plan_End.{End}
use Rattle.dsde_sim_tree.specs.given.structure.plan_Link.{Link}
use Rattle.dsde_sim_tree.specs.given.structure.plan_Part.{Part}
use Rattle.dsde_sim_tree.specs.given.structure.plan_Part_TheVariants as part
use Rattle.dsde_sim_tree.specs.given.structure.sources_Sources.{Sources}
use Rattle.dsde_sim_tree.specs.given.structure.Gather.{Translation, Ports, is_part, carried, gather, gathered}
use Rattle.dsde_sim_tree.specs.given.formalism.System.{System}
use Rattle.dsde_sim_tree.specs.declared.sim.Kid.{Kid}
use Rattle.dsde_sim_tree.specs.declared.sim.Sim.TheViews.{out-Kid}
use Rattle.dsde_sim_tree.specs.Move.{ins_of}
use Rattle.dsde_sim_gathering.specs.declared.boxes.Inboxes.{Inboxes}
use Rattle.dsde_sim_gathering.specs.Boxes.{added, box_of, boxes_of, changed_at, delivered, place_of, sent_on}
use Rattle.dsde_sim_gathering.proofs.Adding.{comes, comes-elsewhere, comes-here}
use Rattle.dsde_sim_gathering.proofs.Placing.{one-changes}

-- as `delivered` and `sent_on`, by the target's part
abbrev delivered_to : Translation → Sources → List Name → Link → Inboxes → Part → Inboxes
delivered_to translate sources names link boxes to = elim to [
  | part.Net ↦ boxes
  | part.Boss ↦ record { boss = added link.to.port (carried translate sources link) boxes.boss; kids = boxes.kids }
  | part.Kid name ↦ record { boss = boxes.boss; kids = changed_at (place_of name names) (added link.to.port (carried translate sources link)) boxes.kids }
]

abbrev sent_to : Translation → Sources → Link → Ports → Part → Ports
sent_to translate sources link ports to = elim to [
  | part.Net ↦ added link.to.port (carried translate sources link) ports
  | part.Boss ↦ ports
  | part.Kid name ↦ ports
]

each-same : {A B : Type 0} (f g : A → B) → ((a : A) → f a ≡ g a) → (l : List A) → map f l ≡ map g l
each-same f g same [] = refl
each-same {B = B} f g same (a ∷ l) = ap (λ (b : B). b ∷ map f l) (same a) ∙ ap (λ (bs : List B). g a ∷ bs) (each-same f g same l)

module _ (system : System) (sources : Sources)
    (order : (first later : List Link) (end : End) → gather system.translate (first ++ later) sources end ≡ gather system.translate first sources end ++ gather system.translate later sources end)
    (links : List Link) (link : Link) where
  here : (to part : Part) (many : ℕ) → link.to.part ≡ to → is_part to part ≡ true →
      gathered system.translate (links ++ link ∷ []) sources part many ≡ added link.to.port (carried system.translate sources link) (gathered system.translate links sources part many)
  here to part many is same = comes-here system.translate sources order links link part many (ap (λ (p : Part). is_part p part) is ∙ same)

  elsewhere : (to part : Part) (many : ℕ) → link.to.part ≡ to → is_part to part ≡ false →
      gathered system.translate (links ++ link ∷ []) sources part many ≡ gathered system.translate links sources part many
  elsewhere to part many is other = comes-elsewhere system.translate sources order links link part many (ap (λ (p : Part). is_part p part) is ∙ other)

  sent-by : (many : ℕ) (to : Part) → link.to.part ≡ to →
      sent_to system.translate sources link (gathered system.translate links sources part.Net many) to ≡ gathered system.translate (links ++ link ∷ []) sources part.Net many
  sent-by many part.Net is = sym (here part.Net part.Net many is refl)
  sent-by many part.Boss is = sym (elsewhere part.Boss part.Net many is refl)
  sent-by many (part.Kid name) is = sym (elsewhere (part.Kid name) part.Net many is refl)

  pub sent-more : (many : ℕ) → sent_on system.translate sources link (gathered system.translate links sources part.Net many) ≡ gathered system.translate (links ++ link ∷ []) sources part.Net many
  sent-more many = sent-by many link.to.part refl

  module _ (one : (name other : Name) → name_cmp name other ≡ Equal → name ≡ other) (boss_ins : ℕ) (kids : List Kid) (sorted : IsStrictlySortedBy name_cmp (map name_of kids)) where
    abbrev before : Inboxes
    before = boxes_of system links sources boss_ins kids

    abbrev after : Inboxes
    after = boxes_of system (links ++ link ∷ []) sources boss_ins kids

    kids-same : (to : Part) → link.to.part ≡ to → ((kid : Kid) → is_part to (part.Kid (name_of kid)) ≡ false) → before.kids ≡ after.kids
    kids-same to is none =
        each-same (box_of system links sources) (box_of system (links ++ link ∷ []) sources)
        (λ kid. sym (elsewhere to (part.Kid (name_of kid)) (ins_of system (out-Kid kid).sim) is (none kid))) kids

    delivered-by : (to : Part) → link.to.part ≡ to → delivered_to system.translate sources (map name_of kids) link before to ≡ after
    delivered-by part.Net is = λ i. record { boss = sym (elsewhere part.Net part.Boss boss_ins is refl) i; kids = kids-same part.Net is (λ kid. refl) i }
    delivered-by part.Boss is = λ i. record { boss = sym (here part.Boss part.Boss boss_ins is refl) i; kids = kids-same part.Boss is (λ kid. refl) i }
    delivered-by (part.Kid name) is =
        let changes =
        one-changes name_of one (box_of system links sources) (box_of system (links ++ link ∷ []) sources) (added link.to.port (carried system.translate sources link)) name
        (λ kid. comes system.translate sources order links link (part.Kid (name_of kid)) (ins_of system (out-Kid kid).sim) (is_part (part.Kid name) (part.Kid (name_of kid))) (ap (λ (p : Part). is_part p (part.Kid (name_of kid))) is))
        kids sorted in
        λ i. record { boss = sym (elsewhere (part.Kid name) part.Boss boss_ins is refl) i; kids = sym changes i }

    pub delivered-more : delivered system.translate sources (map name_of kids) link before ≡ after
    delivered-more = delivered-by link.to.part refl

-- the links so far, and the next one
pub next-link : (links : List Link) (index : ℕ) (link : Link) → index < length links → link ≡ get_or links index link → take (index + 1) links ≡ take index links ++ link ∷ []
next-link links index link below is = take_more links index link below ∙ ap (λ (l : Link). take index links ++ l ∷ []) (sym is)
