use Rattle.std.proofs.Common.{◌≤◌, suc, [], ◌∷◌, ◌++◌, length, length-append, reverse, append_assoc, append-nil, is_some, Some, sym, ap, subst, ◌∙◌, arith}
use Rattle.std.specs.Option.{option_copied}
use Rattle.std.proofs.lemmas.List.{length-reverse}
use Rattle.dsde_bank.specs.Bank.{found}
use Rattle.dsde_grove.specs.Grove.{spot, depth_of, path_of}
use Rattle.dsde_grove.specs.Inside.{path_at}
use Rattle.dsde_grove.proofs.Parts.{live-found}
use Rattle.dsde_grove.proofs.Trees.{some_of}
use Rattle.dsde_grove.proofs.Walk.{path_above, height, path-step, live-step, lower-step, depth-live, path_of-live, some_name, reverse_last}
use Rattle.dsde_grove.proofs.grove.Grove.path_of.Goals as goal

pub loop-at-init : goal.loop-at-init
loop-at-init g c =
    let bank = c.self.inside.bank in
    let whole = some_of (found bank c.args.handle) (sym (live-found bank c.args.handle) ∙ ap (λ v. is_some (spot v c.args.handle)) c.self.view_is ∙ sym c.if-not-is_live.ensures.value) in (
      ap (λ l. path_at bank.held c.args.handle.birth ++ reverse l) c.new-names.ensures.items ∙ append-nil (path_at bank.held c.args.handle.birth),
      whole,
      omega (arith, c.if-not-is_live.ensures.ticks, ap length c.new-names.ensures.items),
    )

pub returns-in_err-copy-clause-ticks : goal.returns-in_err-copy-clause-ticks
returns-in_err-copy-clause-ticks g c =
    let bank = c.self.inside.bank in
    let whole = some_of (found bank c.args.handle) (sym (live-found bank c.args.handle) ∙ ap (λ v. is_some (spot v c.args.handle)) c.self.view_is ∙ sym c.if-not-is_live.ensures.value) in
    let here = c.in-Some.here in
    let part = c.unwrap-part.result.now in
    let live = sym c.get.ensures.value ∙ ap option_copied c.unwrap-part.ensures in
    let next = bank.next_birth in
    let lawful = c.self.invariant.tree in
    let inv = ap (λ o. path_above bank.held o ++ reverse c.loop-at.names.items) (sym c.in-Some.is) ∙ c.loop-at.invariant.0 in
    let depth = ap (λ v. depth_of v c.args.handle) (sym c.self.view_is) ∙ depth-live bank c.args.handle whole.0 whole.1 in
    omega (arith, depth, ap length inv, length-append (path_at bank.held here.birth) (reverse c.loop-at.names.items), length-reverse c.loop-at.names.items, some_name bank next lawful here part live, c.loop-at.invariant.2, c.get.ensures.ticks)

pub returns-in_err-push-clause-ticks : goal.returns-in_err-push-clause-ticks
returns-in_err-push-clause-ticks g c =
    let bank = c.self.inside.bank in
    let whole = some_of (found bank c.args.handle) (sym (live-found bank c.args.handle) ∙ ap (λ v. is_some (spot v c.args.handle)) c.self.view_is ∙ sym c.if-not-is_live.ensures.value) in
    let here = c.in-Some.here in
    let part = c.unwrap-part.result.now in
    let live = sym c.get.ensures.value ∙ ap option_copied c.unwrap-part.ensures in
    let next = bank.next_birth in
    let lawful = c.self.invariant.tree in
    let inv = ap (λ o. path_above bank.held o ++ reverse c.loop-at.names.items) (sym c.in-Some.is) ∙ c.loop-at.invariant.0 in
    let depth = ap (λ v. depth_of v c.args.handle) (sym c.self.view_is) ∙ depth-live bank c.args.handle whole.0 whole.1 in
    omega (arith, depth, ap length inv, length-append (path_at bank.held here.birth) (reverse c.loop-at.names.items), length-reverse c.loop-at.names.items, some_name bank next lawful here part live, c.loop-at.invariant.2, c.get.ensures.ticks)

pub loop-at-smaller : goal.loop-at-smaller
loop-at-smaller g c =
    let bank = c.self.inside.bank in
    let here = c.in-Some.here in
    let part = c.unwrap-part.result.now in
    let live = sym c.get.ensures.value ∙ ap option_copied c.unwrap-part.ensures in
    let next = bank.next_birth in
    let lawful = c.self.invariant.tree in
    let inv = ap (λ o. path_above bank.held o ++ reverse c.loop-at.names.items) (sym c.in-Some.is) ∙ c.loop-at.invariant.0 in
    subst (λ o. suc (height part.parent) ≤ height o) (sym c.in-Some.is) (lower-step bank next lawful here part live)

pub loop-at-preserved : goal.loop-at-preserved
loop-at-preserved g c =
    let bank = c.self.inside.bank in
    let here = c.in-Some.here in
    let part = c.unwrap-part.result.now in
    let live = sym c.get.ensures.value ∙ ap option_copied c.unwrap-part.ensures in
    let next = bank.next_birth in
    let lawful = c.self.invariant.tree in
    let inv = ap (λ o. path_above bank.held o ++ reverse c.loop-at.names.items) (sym c.in-Some.is) ∙ c.loop-at.invariant.0 in
    let names = c.in_ok-push.ensures.items ∙ ap (λ n. c.loop-at.names.items ++ n ∷ []) c.in_ok-copy.ensures in
    let above = path_above bank.held part.parent in (
      ap (λ l. above ++ reverse l) names ∙ ap (λ l. above ++ l) (reverse_last c.loop-at.names.items part.name)
          ∙ sym (append_assoc above (part.name ∷ []) (reverse c.loop-at.names.items))
          ∙ ap (λ l. l ++ reverse c.loop-at.names.items) (sym (path-step bank next lawful here part live)) ∙ inv,
      live-step bank next lawful here part live,
      omega (arith, c.get.ensures.ticks, c.loop-at.invariant.2, ap length names, length-append c.loop-at.names.items (part.name ∷ [])),
    )

pub returns-clause-path : goal.returns-clause-path
returns-clause-path g c =
    let bank = c.self.inside.bank in
    let whole = some_of (found bank c.args.handle) (sym (live-found bank c.args.handle) ∙ ap (λ v. is_some (spot v c.args.handle)) c.self.view_is ∙ sym c.if-not-is_live.ensures.value) in
    let done = ap (λ o. path_above bank.held o ++ reverse c.loop-at.names.items) (sym c.in_default.is) ∙ c.loop-at.invariant.0 in
    let names = c.from_vec.ensures ∙ c.reverse.ensures.items ∙ done in
    (λ i. Some record { names = names i }) ∙ sym (path_of-live bank c.args.handle whole.0 whole.1) ∙ ap (λ v. path_of v c.args.handle) c.self.view_is

pub returns-clause-ticks : goal.returns-clause-ticks
returns-clause-ticks g c =
    let bank = c.self.inside.bank in
    let whole = some_of (found bank c.args.handle) (sym (live-found bank c.args.handle) ∙ ap (λ v. is_some (spot v c.args.handle)) c.self.view_is ∙ sym c.if-not-is_live.ensures.value) in
    let done = ap (λ o. path_above bank.held o ++ reverse c.loop-at.names.items) (sym c.in_default.is) ∙ c.loop-at.invariant.0 in
    let depth = ap (λ v. depth_of v c.args.handle) (sym c.self.view_is) ∙ depth-live bank c.args.handle whole.0 whole.1 in
    omega (arith, depth, ap length done, length-reverse c.loop-at.names.items, c.loop-at.invariant.2)
