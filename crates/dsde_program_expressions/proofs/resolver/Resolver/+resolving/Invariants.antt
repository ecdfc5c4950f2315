-- What the rest lays behind what was laid so far is what all lay.
use Rattle.std.proofs.Common.{◌≡◌, ◌+◌, ◌++◌, map, drop, None}
use Rattle.dsde_program_layout.specs.Lay.{lay, lay_set, lay_arm, lay_tail, lay_sign_tail, lay_suffix, lay_all, lay_arms, lay_links, numbers, arm_numbers, head_from, words_of, roomy}
use Rattle.dsde_program_expressions.proofs.resolver.Resolver.+resolving.Given as goal

abbrev pub invariant-parts-loop-expr : goal.invariant-parts-loop-expr
invariant-parts-loop-expr l =
    (lay_all (map (lay l.self) (drop l.expr-index l.exprs)) l.scope l.nodes ≡ lay_all (map (lay l.self) l.exprs) l.fn.scope (roomy l.fn.nodes))
    × (l.numbers ++ numbers (map (lay l.self) (drop l.expr-index l.exprs)) l.scope l.nodes ≡ numbers (map (lay l.self) l.exprs) l.fn.scope (roomy l.fn.nodes))
    × (head_from l.first (map (lay l.self) (drop l.expr-index l.exprs)) l.scope l.nodes ≡ head_from None (map (lay l.self) l.exprs) l.fn.scope (roomy l.fn.nodes))
    × (l.scope ≡ l.fn.scope)

abbrev pub invariant-sets-loop-set : goal.invariant-sets-loop-set
invariant-sets-loop-set l =
    (lay_all (map (lay_set l.self) (drop l.set-index l.sets)) l.scope l.nodes ≡ lay_all (map (lay_set l.self) l.sets) l.fn.scope l.fn.nodes)
    × (l.found ++ numbers (map (lay_set l.self) (drop l.set-index l.sets)) l.scope l.nodes ≡ numbers (map (lay_set l.self) l.sets) l.fn.scope l.fn.nodes)
    × (l.scope ≡ l.fn.scope)

abbrev pub invariant-arms-loop-arm : goal.invariant-arms-loop-arm
invariant-arms-loop-arm l =
    (lay_arms (map (lay_arm l.self) (drop l.arm-index l.arms)) l.scope l.nodes ≡ lay_arms (map (lay_arm l.self) l.arms) l.fn.scope l.fn.nodes)
    × (l.found ++ arm_numbers (map (lay_arm l.self) (drop l.arm-index l.arms)) l.scope l.nodes ≡ arm_numbers (map (lay_arm l.self) l.arms) l.fn.scope l.fn.nodes)
    × (l.scope ≡ l.fn.scope)

abbrev pub invariant-tails-loop-link : goal.invariant-tails-loop-link
invariant-tails-loop-link l =
    (lay_links (words_of l.which (map (lay_tail l.self) (drop l.link-index l.links))) l.left.ty l.scope l.left.number.0 l.nodes ≡ lay_links (words_of l.which (map (lay_tail l.self) l.links)) l.fn.first.ty l.fn.scope l.fn.first.number.0 l.fn.nodes)
    × (l.left.number.0 + l.link-index ≡ l.fn.first.number.0)
    × (l.scope ≡ l.fn.scope)

abbrev pub invariant-sign_tails-loop-link : goal.invariant-sign_tails-loop-link
invariant-sign_tails-loop-link l =
    (lay_links (map (lay_sign_tail l.self) (drop l.link-index l.links)) l.left.ty l.scope l.left.number.0 l.nodes ≡ lay_links (map (lay_sign_tail l.self) l.links) l.fn.first.ty l.fn.scope l.fn.first.number.0 l.fn.nodes)
    × (l.left.number.0 + l.link-index ≡ l.fn.first.number.0)
    × (l.scope ≡ l.fn.scope)

abbrev pub invariant-suffixes-loop-link : goal.invariant-suffixes-loop-link
invariant-suffixes-loop-link l =
    (lay_links (map (lay_suffix l.self) (drop l.link-index l.links)) l.left.ty l.scope l.left.number.0 l.nodes ≡ lay_links (map (lay_suffix l.self) l.links) l.fn.first.ty l.fn.scope l.fn.first.number.0 l.fn.nodes)
    × (l.left.number.0 + l.link-index ≡ l.fn.first.number.0)
    × (l.scope ≡ l.fn.scope)
