use Rattle.std.proofs.Common.{◌∙◌, ◌≤◌, Err, ap, sym, subst, arith}
use Rattle.std.proofs.lemmas.Result.{err_from_is_err_and}
use Rattle.dsde_language.specs.DeclaredModels.{top_number}
use Rattle.dsde_core_outputs.specs.given.system.Program.{system}
use Rattle.dsde_sim_tree.specs.declared.sim.Sim.{Sim}
use Rattle.dsde_sim_tree.specs.Tree.{model_of, parts}
use Rattle.dsde_sim_tree.specs.Engine.{begun}
use Rattle.dsde_core_outputs.specs.given.sim_working.Working.{StandsAt}
use Rattle.dsde_core_outputs.specs.given.sim_working.lemmas_Standing.{start-is, starts}
use Rattle.dsde_core_moving.specs.given.core_moves.Flat.{tree_of}
use Rattle.dsde_core.proofs.Starting.{laid, not-laid}
use Rattle.dsde_core.proofs.engine.Core.start.Goals as goal

pub flat_of-requires-clause-fits : goal.flat_of-requires-clause-fits
flat_of-requires-clause-fits c = (c.args.program.now, c.in_ok-tree.ensures.stands.fits)

pub returns-in_err-flat-clause-err : goal.returns-in_err-flat-clause-err
returns-in_err-flat-clause-err c =
    let p = c.args.program.now in
    let e = err_from_is_err_and c.from_residual-in_err-flat.result c.from_residual-in_err-flat.ensures.1 in
    not-laid (system p) (top_number p) c.in_ok-args.args c.args.events.now c.in_ok-args.ensures.comes c.in_ok-tree.tree c.started.new.events c.in_ok-tree.ensures.told c.from_residual-in_err-flat.result (e.1 ∙ ap Err e.2)

pub returns-clause-ok : goal.returns-clause-ok
returns-clause-ok c =
    let p = c.args.program.now in
    laid (system p) (top_number p) c.in_ok-args.args c.args.events.now c.in_ok-args.ensures.comes c.in_ok-tree.tree c.started.new.events c.in_ok-tree.ensures.told (tree_of c.in_ok-flat.flat) c.in_ok-flat.ensures.tree

pub returns-clause-root : goal.returns-clause-root
returns-clause-root c = ap (λ (one : Sim). model_of one) c.in_ok-flat.ensures.tree ∙ c.in_ok-tree.ensures.model

pub returns-clause-born : goal.returns-clause-born
returns-clause-born c =
    let within : parts c.in_ok-tree.tree ≤ 131072 = c.in_ok-tree.ensures.stands.within in
    omega (arith, c.in_ok-flat.ensures.born, within)

pub returns-clause-few : goal.returns-clause-few
returns-clause-few c = (c.in_ok-flat.ensures.rests c.args.program.now c.in_ok-tree.ensures.stands.fits).few

pub invariant_of-result : goal.invariant_of-result
invariant_of-result c =
    let p = c.args.program.now in (
      c.in_ok-flat.ensures.rests p c.in_ok-tree.ensures.stands.fits,
      omega arith,
      subst (λ (one : Sim). StandsAt p (begun one)) (sym c.in_ok-flat.ensures.tree)
          (starts c.trees_stand.ensures.start c.programs_lead_on.ensures p (begun c.in_ok-tree.tree)
          (start-is (system p) (top_number p) c.in_ok-args.args c.in_ok-tree.tree c.in_ok-args.ensures.comes c.in_ok-tree.ensures.told.1)
          (omega arith)),
    )
