use Rattle.std.proofs.Common.{◌≡◌, ◌≢◌, ◌++◌, ◌∷◌, [], Some, Contains, is_some, refl, sym, ap, subst, ◌∙◌, arith}
use Rattle.std.specs.Option.{option_map}
use Rattle.std.specs.FinMap as map
use Rattle.dsde_bank.proofs.Births.{get-insert_other}
use Rattle.dsde_grove.specs.Grove.{spot, IsKid, IsTree}
use Rattle.dsde_grove.specs.Inside.{IsLinked, ChangesKids, spot_in, path_at}
use Rattle.dsde_grove.specs.Part.{Puts}
use Rattle.dsde_grove.proofs.Parts.{live-found, found-get, spot-found}
use Rattle.dsde_grove.proofs.Trees.{tree-similar, similar-changes, parts-changes}
use Rattle.dsde_grove.proofs.KidLemmas.{listing, no_kid, stale_taken, memory_taken}
use Rattle.dsde_grove.proofs.Grown.{free_name, tree-grew, parts-grew, len-grew}
use Rattle.dsde_grove.proofs.Shown.{none_next, gone_grown, gone_same}
use Rattle.dsde_grove.proofs.ShownTrees.{tree-shown}
use Rattle.dsde_grove.proofs.grove.Grove.grow.Goals as goal

pub returns-in-None-clause-taken : goal.returns-in-None-clause-taken
returns-in-None-clause-taken g c = (λ wrong. absurd (stale_taken c.args.value c.args.value wrong), λ (kid, is). let told = (c.in-None.ensures.child kid).1 is in absurd (cc))

pub returns-in-Some-Some-clause-taken : goal.returns-in-Some-Some-clause-taken
returns-in-Some-Some-clause-taken g c = (
  λ _. (c.in-Some-Some.field-0-0, (c.in-Some-Some.ensures.child c.in-Some-Some.field-0-0).0 (ap Some c.in-Some-Some.field-0-is)),
  λ _. refl,
)

pub returns-in_default-clause-taken : goal.returns-in_default-clause-taken
returns-in_default-clause-taken g c = (λ wrong. absurd (memory_taken c.args.value c.args.value wrong), λ (kid, is). absurd (no_kid c.in-Some-None.field-0 kid c.in-Some-None.field-0-is ((c.in-Some-None.ensures.child kid).1 is)))

pub returns-in_default-copy-clause-taken : goal.returns-in_default-copy-clause-taken
returns-in_default-copy-clause-taken g c = (λ wrong. absurd (memory_taken c.args.value c.args.value wrong), λ (kid, is). absurd (no_kid c.in-Some-None.field-0 kid c.in-Some-None.field-0-is ((c.in-Some-None.ensures.child kid).1 is)))

pub returns-in-Err-clause-taken : goal.returns-in-Err-clause-taken
returns-in-Err-clause-taken g c = (λ wrong. absurd (memory_taken c.args.value c.args.value wrong), λ (kid, is). absurd (no_kid c.in-Some-None.field-0 kid c.in-Some-None.field-0-is ((c.in-Some-None.ensures.child kid).1 is)))

pub returns-clause-taken : goal.returns-clause-taken
returns-clause-taken g c = (λ wrong. absurd (cc), λ (kid, is). absurd (no_kid c.in-Some-None.field-0 kid c.in-Some-None.field-0-is ((c.in-Some-None.ensures.child kid).1 is)))

pub returns-in-None-clause-tree : goal.returns-in-None-clause-tree
returns-in-None-clause-tree g c = subst IsTree c.self.view_is (tree-shown c.self.inside.bank c.self.invariant.tree)

pub returns-in-Some-Some-clause-tree : goal.returns-in-Some-Some-clause-tree
returns-in-Some-Some-clause-tree g c = subst IsTree c.self.view_is (tree-shown c.self.inside.bank c.self.invariant.tree)

pub returns-in_default-clause-tree : goal.returns-in_default-clause-tree
returns-in_default-clause-tree g c = subst IsTree c.self.view_is (tree-shown c.self.inside.bank c.self.invariant.tree)

pub returns-in_default-copy-clause-tree : goal.returns-in_default-copy-clause-tree
returns-in_default-copy-clause-tree g c = subst IsTree c.self.view_is (tree-shown c.self.inside.bank c.self.invariant.tree)

pub make_room-requires : goal.make_room-requires
make_room-requires g c =
    sym (live-found c.self.inside.bank c.args.parent) ∙ ap (λ v. is_some (spot v c.args.parent)) c.self.view_is ∙ sym c.in-Some-None.ensures.live

pub invariant_of-self : goal.invariant_of-self
invariant_of-self g c =
    let zero = c.self.inside.bank in
    let one = c.make_room.new.bank in
    let kept = c.in-Err.ensures.kept in
    record {
      tree = subst (IsLinked one.held) (sym kept.next) (tree-similar zero.held one.held zero.next_birth c.self.invariant.tree (similar-changes zero one c.args.parent kept));
      idle = c.make_room.ensures.work_kept ∙ c.self.invariant.idle;
      room = omega (arith, kept.len, c.make_room.ensures.work_not_less, c.self.invariant.room);
    }

pub returns-in-Err-clause-refused : goal.returns-in-Err-clause-refused
returns-in-Err-clause-refused g c =
    let kept = c.in-Err.ensures.kept in
    (λ i. record { parts = parts-changes c.self.inside.bank c.make_room.new.bank c.args.parent kept i; next_birth = kept.next i }) ∙ c.self.view_is

pub returns-in-Err-clause-tree : goal.returns-in-Err-clause-tree
returns-in-Err-clause-tree g c =
    let zero = c.self.inside.bank in
    let one = c.make_room.new.bank in
    let kept = c.in-Err.ensures.kept in
    tree-shown one (subst (IsLinked one.held) (sym kept.next) (tree-similar zero.held one.held zero.next_birth c.self.invariant.tree (similar-changes zero one c.args.parent kept)))

pub returns-in-Err-clause-gone : goal.returns-in-Err-clause-gone
returns-in-Err-clause-gone g c other was = gone_same c.args.self.now _ (returns-in-Err-clause-refused g c) other was

pub link-requires : goal.link-requires
link-requires g c =
    let zero = c.self.inside.bank in
    let one = c.make_room.new.bank in
    let put = c.insert_reserved-handle.ensures in
    let placed : ChangesKids zero one c.args.parent (Puts (listing c.args.name c.args.parent)) = subst (λ n. ChangesKids zero one c.args.parent (Puts (listing n c.args.parent))) c.in-Ok-copy.ensures c.in-Ok-make_room.ensures.placed in
    let apart : c.args.parent.birth ≢ c.insert_reserved-handle.result.birth = omega (arith, c.self.invariant.tree.given c.args.parent.birth _ placed.was, put.birth, placed.next) in
    record {
      part = record placed.part { kids = placed.kids };
      live = ap (λ m. map.get m c.args.parent.birth) put.held ∙ get-insert_other one.held c.insert_reserved-handle.result.birth _ c.args.parent.birth apart ∙ placed.now;
      handle = c.args.parent;
      listed = subst (λ n. Contains placed.kids (listing n c.args.parent)) (sym c.in-Ok.ensures) placed.changed.there;
    }

pub invariant_of-self-2 : goal.invariant_of-self-2
invariant_of-self-2 g c =
    let zero = c.self.inside.bank in
    let one = c.make_room.new.bank in
    let two = c.insert_reserved-handle.new.self in
    let three = c.link.new.bank in
    let handle = c.insert_reserved-handle.result in
    let put = c.insert_reserved-handle.ensures in
    let placed : ChangesKids zero one c.args.parent (Puts (listing c.args.name c.args.parent)) = subst (λ n. ChangesKids zero one c.args.parent (Puts (listing n c.args.parent))) c.in-Ok-copy.ensures c.in-Ok-make_room.ensures.placed in
    let next : handle.birth ≡ zero.next_birth = put.birth ∙ placed.next in
    let tree : IsLinked zero.held handle.birth = subst (IsLinked zero.held) (sym next) c.self.invariant.tree in
    let apart : c.args.parent.birth ≢ handle.birth = omega (arith, c.self.invariant.tree.given c.args.parent.birth _ placed.was, next) in
    let linked : ChangesKids two three c.args.parent (Puts (listing c.args.name handle)) = subst (λ n. ChangesKids two three c.args.parent (Puts (listing n handle))) c.in-Ok.ensures c.link.ensures.linked in
    let free = free_name zero c.args.parent c.args.name placed.part c.self.invariant.tree placed.was
    (λ kid is. no_kid (c.in-Some-None.field-0) kid c.in-Some-None.field-0-is ((c.in-Some-None.ensures.child kid).1 (subst (λ v. IsKid v c.args.parent c.args.name kid) c.self.view_is is))) in
    record {
      tree = subst (IsLinked three.held) (omega (arith, linked.next, put.next, put.birth)) (tree-grew zero one two three c.args.parent handle _ tree put.held placed linked refl c.new.ensures apart free);
      idle = c.make_room.ensures.work_kept ∙ c.self.invariant.idle;
      room = omega (arith, len-grew zero one two three c.args.parent handle _ tree put.held placed linked refl c.new.ensures apart free, c.in-Ok-make_room.ensures.work_room);
    }

pub returns-clause-grown : goal.returns-clause-grown
returns-clause-grown g c =
    let zero = c.self.inside.bank in
    let one = c.make_room.new.bank in
    let two = c.insert_reserved-handle.new.self in
    let three = c.link.new.bank in
    let handle = c.insert_reserved-handle.result in
    let put = c.insert_reserved-handle.ensures in
    let placed : ChangesKids zero one c.args.parent (Puts (listing c.args.name c.args.parent)) = subst (λ n. ChangesKids zero one c.args.parent (Puts (listing n c.args.parent))) c.in-Ok-copy.ensures c.in-Ok-make_room.ensures.placed in
    let next : handle.birth ≡ zero.next_birth = put.birth ∙ placed.next in
    let tree : IsLinked zero.held handle.birth = subst (IsLinked zero.held) (sym next) c.self.invariant.tree in
    let apart : c.args.parent.birth ≢ handle.birth = omega (arith, c.self.invariant.tree.given c.args.parent.birth _ placed.was, next) in
    let linked : ChangesKids two three c.args.parent (Puts (listing c.args.name handle)) = subst (λ n. ChangesKids two three c.args.parent (Puts (listing n handle))) c.in-Ok.ensures c.link.ensures.linked in
    let free = free_name zero c.args.parent c.args.name placed.part c.self.invariant.tree placed.was
    (λ kid is. no_kid (c.in-Some-None.field-0) kid c.in-Some-None.field-0-is ((c.in-Some-None.ensures.child kid).1 (subst (λ v. IsKid v c.args.parent c.args.name kid) c.self.view_is is))) in
    record {
      above = spot_in zero.held c.args.parent.birth (c.args.parent.slot, placed.part);
      live = ap (λ v. spot v c.args.parent) (sym c.self.view_is) ∙ spot-found zero c.args.parent ∙ ap (option_map (λ part. spot_in zero.held c.args.parent.birth (c.args.parent.slot, part))) (found-get zero c.args.parent placed.part placed.was);
      birth = next ∙ ap (λ v. v.next_birth) c.self.view_is;
      parts = parts-grew zero one two three c.args.parent handle _ tree put.held placed linked refl c.new.ensures apart free
          ∙ (λ i. map.insert ((ap (λ v. v.parts) c.self.view_is) i) handle.birth record {
            slot = handle.slot;
            parent = Some c.args.parent;
            name = c.args.name;
            path = path_at zero.held c.args.parent.birth ++ c.args.name ∷ [];
            value = c.args.value;
          });
      next = omega (arith, linked.next, put.next, placed.next, ap (λ v. v.next_birth) c.self.view_is);
    }

pub returns-clause-tree : goal.returns-clause-tree
returns-clause-tree g c =
    let zero = c.self.inside.bank in
    let one = c.make_room.new.bank in
    let two = c.insert_reserved-handle.new.self in
    let three = c.link.new.bank in
    let handle = c.insert_reserved-handle.result in
    let put = c.insert_reserved-handle.ensures in
    let placed : ChangesKids zero one c.args.parent (Puts (listing c.args.name c.args.parent)) = subst (λ n. ChangesKids zero one c.args.parent (Puts (listing n c.args.parent))) c.in-Ok-copy.ensures c.in-Ok-make_room.ensures.placed in
    let next : handle.birth ≡ zero.next_birth = put.birth ∙ placed.next in
    let tree : IsLinked zero.held handle.birth = subst (IsLinked zero.held) (sym next) c.self.invariant.tree in
    let apart : c.args.parent.birth ≢ handle.birth = omega (arith, c.self.invariant.tree.given c.args.parent.birth _ placed.was, next) in
    let linked : ChangesKids two three c.args.parent (Puts (listing c.args.name handle)) = subst (λ n. ChangesKids two three c.args.parent (Puts (listing n handle))) c.in-Ok.ensures c.link.ensures.linked in
    let free = free_name zero c.args.parent c.args.name placed.part c.self.invariant.tree placed.was
    (λ kid is. no_kid (c.in-Some-None.field-0) kid c.in-Some-None.field-0-is ((c.in-Some-None.ensures.child kid).1 (subst (λ v. IsKid v c.args.parent c.args.name kid) c.self.view_is is))) in
    tree-shown three (subst (IsLinked three.held) (omega (arith, linked.next, put.next, put.birth)) (tree-grew zero one two three c.args.parent handle _ tree put.held placed linked refl c.new.ensures apart free))

pub returns-clause-fresh : goal.returns-clause-fresh
returns-clause-fresh g c =
    let tree = subst IsTree c.self.view_is (tree-shown c.self.inside.bank c.self.invariant.tree) in
    ap (map.get c.args.self.now.parts) ((returns-clause-grown g c).birth) ∙ none_next c.args.self.now tree

pub returns-clause-gone : goal.returns-clause-gone
returns-clause-gone g c other was = gone_grown c.args.self.now _ c.args.parent _ c.args.name c.args.value (returns-clause-grown g c) other was
