use Rattle.std.proofs.Common.{sym, ap, subst, refl, arith}
use Rattle.std.specs.Option.{option_map, option_map_or}
use Rattle.std.specs.FinMap as map
use Rattle.dsde_grove.specs.Grove.{spot, IsTree}
use Rattle.dsde_grove.proofs.Parts.{none_of}
use Rattle.dsde_grove.proofs.grove.Grove.get_mut.Goals as goal

pub value_mut-requires : goal.value_mut-requires
value_mut-requires g c = sym c.if-is_live.ensures.value

pub returns-else-is_live : goal.returns-else-is_live
returns-else-is_live g c = (
  refl,
  record {
    writes_back = tt;
    tree = c.if-is_live.ensures.tree;
    written = λ w. subst IsTree (λ i. record { parts = sym (ap (λ o. option_map_or (λ part. map.insert c.args.self.now.parts c.args.handle.birth (record part { value = w })) o c.args.self.now.parts) (none_of (spot c.args.self.now c.args.handle) (sym c.if-is_live.ensures.value))) i; next_birth = c.args.self.now.next_birth }) c.if-is_live.ensures.tree;
    value = sym (ap (option_map (λ part. part.value)) (none_of (spot c.args.self.now c.args.handle) (sym c.if-is_live.ensures.value)));
    ticks = omega (arith, c.if-is_live.ensures.ticks);
  },
)
