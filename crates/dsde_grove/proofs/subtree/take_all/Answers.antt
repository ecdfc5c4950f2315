use Rattle.std.proofs.Common.{◌++◌, ◌∷◌, [], length, map, is_some, cond, sym, ap, subst, ◌∙◌, arith, length-append, inl, refl}
use Rattle.std.specs.FinMap as fin
use Rattle.dsde_bank.specs.Bank.{found, without}
use Rattle.dsde_bank.proofs.Births.{len-remove_old}
use Rattle.dsde_grove.proofs.Parts.{get-found, found-get}
use Rattle.dsde_grove.proofs.Trees.{some_of}
use Rattle.dsde_grove.proofs.Frontier.{handle_of, IsFrontier, frontier-start, frontier-step, length-room, length_handles, some_part, in_right}
use Rattle.dsde_grove.proofs.KidLemmas.{some_option}
use Rattle.dsde_grove.proofs.subtree.take_all.Goals as goal

pub unwrap-first-requires : goal.unwrap-first-requires
unwrap-first-requires g c =
    let live = some_of (found c.args.bank.now c.args.top) c.requires.live in
    ap is_some (c.take.ensures.value ∙ live.1)

pub push_to-requires : goal.push_to-requires
push_to-requires g c =
    let bank = c.args.bank.now in
    let part = c.unwrap-first.result in
    let at = get-found bank c.args.top part (sym c.take.ensures.value ∙ c.unwrap-first.ensures) in
    let room = length-room bank.held bank.held bank.next_birth c.args.top.birth [] c.args.top part c.requires.tree (frontier-start bank.held c.args.top (part, at)) at in
    omega (arith, room, len-remove_old bank.held c.args.top.birth _ at, c.requires.room)

pub loop-handle-init : goal.loop-handle-init
loop-handle-init g c =
    let bank = c.args.bank.now in
    let part = c.unwrap-first.result in
    let at = get-found bank c.args.top part (sym c.take.ensures.value ∙ c.unwrap-first.ensures) in
    let left = c.take.ensures.left ∙ ap (λ o. cond (is_some o) (without bank c.args.top) bank) c.unwrap-first.ensures in
    let shorter = ap (λ b. fin.len b.held) left in
    let items = c.push_to.ensures.items ∙ ap (λ l. l ++ map handle_of part.kids) c.requires.idle in
    let step = frontier-step bank.held bank.held bank.next_birth c.args.top.birth [] c.args.top part c.requires.tree (frontier-start bank.held c.args.top (part, at)) at in (
      subst (λ l. IsFrontier bank.held c.take.new.self.held c.args.top.birth l) (sym items) (subst (λ held. IsFrontier bank.held held c.args.top.birth (map handle_of part.kids)) (sym (ap (λ b. b.held) left)) step),
      omega (arith, ap length items, length_handles part.kids, c.push_to.ensures.spare),
      ap (λ b. b.next_birth) left,
      omega (arith, shorter, len-remove_old bank.held c.args.top.birth _ at, some_part bank.held c.args.top.birth _ at, c.take.ensures.ticks),
      omega (arith, shorter, len-remove_old bank.held c.args.top.birth _ at),
    )

pub returns-clause-name : goal.returns-clause-name
returns-clause-name g c part live = ap (λ p. p.name) (some_option c.unwrap-first.result part (sym c.unwrap-first.ensures ∙ c.take.ensures.value ∙ live))

pub unwrap-part-requires : goal.unwrap-part-requires
unwrap-part-requires g c =
    let w = c.pop.new.self.items in
    let h = c.in-Some.handle in
    let bank = c.loop-handle.bank in
    let f : IsFrontier c.args.bank.now.held bank.held c.args.top.birth (w ++ h ∷ []) = subst (IsFrontier c.args.bank.now.held bank.held c.args.top.birth) c.in-Some.ensures.items c.loop-handle.invariant.0 in
    let live = f.live h (in_right h w (h ∷ []) (inl refl)) in
    ap is_some (c.take-in-Some.ensures.value ∙ found-get bank h live.0 live.1)

pub push_to-requires-in-Some : goal.push_to-requires-in-Some
push_to-requires-in-Some g c =
    let w = c.pop.new.self.items in
    let h = c.in-Some.handle in
    let bank = c.loop-handle.bank in
    let f : IsFrontier c.args.bank.now.held bank.held c.args.top.birth (w ++ h ∷ []) = subst (IsFrontier c.args.bank.now.held bank.held c.args.top.birth) c.in-Some.ensures.items c.loop-handle.invariant.0 in
    let part = c.unwrap-part.result in
    let at = get-found bank h part (sym c.take-in-Some.ensures.value ∙ c.unwrap-part.ensures) in
    let left = c.take-in-Some.ensures.left ∙ ap (λ o. cond (is_some o) (without bank h) bank) c.unwrap-part.ensures in
    let room = length-room c.args.bank.now.held bank.held c.args.bank.now.next_birth c.args.top.birth w h part c.requires.tree f at in
    omega (arith, room, len-remove_old bank.held h.birth _ at, some_part bank.held h.birth _ at, c.loop-handle.invariant.1, c.loop-handle.invariant.4, ap length c.in-Some.ensures.items, length-append w (h ∷ []), c.in-Some.ensures.spare, c.requires.room)

pub loop-handle-smaller : goal.loop-handle-smaller
loop-handle-smaller g c =
    let w = c.pop.new.self.items in
    let h = c.in-Some.handle in
    let bank = c.loop-handle.bank in
    let f : IsFrontier c.args.bank.now.held bank.held c.args.top.birth (w ++ h ∷ []) = subst (IsFrontier c.args.bank.now.held bank.held c.args.top.birth) c.in-Some.ensures.items c.loop-handle.invariant.0 in
    let part = c.unwrap-part.result in
    let at = get-found bank h part (sym c.take-in-Some.ensures.value ∙ c.unwrap-part.ensures) in
    let left = c.take-in-Some.ensures.left ∙ ap (λ o. cond (is_some o) (without bank h) bank) c.unwrap-part.ensures in
    omega (arith, ap (λ b. fin.len b.held) left, len-remove_old bank.held h.birth _ at, some_part bank.held h.birth _ at)

pub loop-handle-preserved : goal.loop-handle-preserved
loop-handle-preserved g c =
    let w = c.pop.new.self.items in
    let h = c.in-Some.handle in
    let bank = c.loop-handle.bank in
    let f : IsFrontier c.args.bank.now.held bank.held c.args.top.birth (w ++ h ∷ []) = subst (IsFrontier c.args.bank.now.held bank.held c.args.top.birth) c.in-Some.ensures.items c.loop-handle.invariant.0 in
    let part = c.unwrap-part.result in
    let at = get-found bank h part (sym c.take-in-Some.ensures.value ∙ c.unwrap-part.ensures) in
    let left = c.take-in-Some.ensures.left ∙ ap (λ o. cond (is_some o) (without bank h) bank) c.unwrap-part.ensures in
    let shorter = ap (λ b. fin.len b.held) left in
    let items = c.push_to-in-Some.ensures.items in
    let step = frontier-step c.args.bank.now.held bank.held c.args.bank.now.next_birth c.args.top.birth w h part c.requires.tree f at in (
      subst (λ l. IsFrontier c.args.bank.now.held c.take-in-Some.new.self.held c.args.top.birth l) (sym items)
          (subst (λ held. IsFrontier c.args.bank.now.held held c.args.top.birth (w ++ map handle_of part.kids)) (sym (ap (λ b. b.held) left)) step),
      omega (arith, ap length items, length-append w (map handle_of part.kids), length_handles part.kids, c.push_to-in-Some.ensures.spare, c.in-Some.ensures.spare, c.loop-handle.invariant.1, ap length c.in-Some.ensures.items, length-append w (h ∷ [])),
      ap (λ b. b.next_birth) left ∙ c.loop-handle.invariant.2,
      omega (arith, shorter, len-remove_old bank.held h.birth _ at, some_part bank.held h.birth _ at, c.take-in-Some.ensures.ticks, c.loop-handle.invariant.3),
      omega (arith, shorter, len-remove_old bank.held h.birth _ at, c.loop-handle.invariant.4),
    )
