use Rattle.std.proofs.Common.{is_some, sym, ap, subst, ◌∙◌, refl, arith}
use Rattle.std.specs.Option.{option_map, option_copied_mut}
use Rattle.dsde_bank.specs.Bank.{with_value as write}
use Rattle.dsde_grove.specs.Grove.{value_of, with_value, spot, IsTree}
use Rattle.dsde_grove.proofs.Parts.{value_of-found, live-found, is_some-copied_mut}
use Rattle.dsde_grove.proofs.Trees.{tree-write, len-write, grove-write}
use Rattle.dsde_grove.proofs.ShownTrees.{tree-shown}
use Rattle.dsde_grove.proofs.grove.Grove.value_mut.Goals as goal

pub unwrap-part-requires : goal.unwrap-part-requires
unwrap-part-requires g c =
    sym (is_some-copied_mut c.get_mut.result) ∙ ap is_some c.get_mut.ensures.value ∙ sym (live-found c.self.inside.bank c.args.handle)
    ∙ ap (λ v. is_some (spot v c.args.handle)) c.self.view_is ∙ c.requires

pub invariant_of-self-lent : goal.invariant_of-self-lent
invariant_of-self-lent g c w =
    let inside = c.self.inside in
    let live = sym c.get_mut.ensures.value ∙ ap option_copied_mut c.unwrap-part.ensures in
    record {
      tree = tree-write inside.bank c.args.handle c.unwrap-part.result.now w live inside.bank.next_birth c.self.invariant.tree;
      idle = c.self.invariant.idle;
      room = omega (arith, len-write inside.bank c.args.handle c.unwrap-part.result.now w live, c.self.invariant.room);
    }

pub returns : goal.returns
returns g c =
    let inside = c.self.inside in
    let live = sym c.get_mut.ensures.value ∙ ap option_copied_mut c.unwrap-part.ensures in (
      (refl, λ w. grove-write inside.bank c.args.handle c.unwrap-part.result.now w live ∙ ap (λ v. with_value v c.args.handle w) c.self.view_is),
      record {
        writes_back = tt;
        value = ap (λ v. value_of v c.args.handle) (sym c.self.view_is) ∙ value_of-found inside.bank c.args.handle ∙ ap (option_map (λ part. part.value)) live;
        tree = subst IsTree c.self.view_is (tree-shown inside.bank c.self.invariant.tree);
        written = λ w.
            let after = write inside.bank c.args.handle (record c.unwrap-part.result.now { value = w }) in
            subst IsTree (grove-write inside.bank c.args.handle c.unwrap-part.result.now w live ∙ ap (λ v. with_value v c.args.handle w) c.self.view_is)
            (tree-shown after (tree-write inside.bank c.args.handle c.unwrap-part.result.now w live inside.bank.next_birth c.self.invariant.tree));
        ticks = c.get_mut.ensures.ticks;
      },
    )
