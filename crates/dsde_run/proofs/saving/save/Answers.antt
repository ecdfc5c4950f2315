use Rattle.std.proofs.Common.{◌≤◌, ℕ, rules, refl, subst}
use Rattle.dsde_image.specs.declared.image.Version.TheVariants.{Two}
use Rattle.dsde_run.proofs.Joining.{image-made, parts-written, says-by}
use Rattle.dsde_run.proofs.saving.save.Goals as goal

pub write_image-requires : goal.write_image-requires
write_image-requires c = record {
  version = refl;
  parts = parts-written c.images_are_written.ensures c.args.engine.now.program (search rules) c.args.engine.now.engine c.in_ok-tree.tree c.list.new.listed c.in_ok-tree.ensures c.stands.ensures.fits c.stands.ensures.stands (search rules);
}

pub returns-clause-says : goal.returns-clause-says
returns-clause-says c few =
    let engine = c.args.engine.now.engine in
    let program = c.args.engine.now.program in
    says-by c.rows_are_right.ensures program (search rules) engine c.in_ok-tree.tree
    (record { version = Two; turn = c.turn.result; time = c.time.result; records = c.taken.result; parts = c.list.new.listed })
    c.write_image.result c.write_image.ensures.read
    (image-made program engine c.in_ok-tree.tree c.turn.result c.time.result c.taken.result c.list.new.listed c.turn.ensures c.time.ensures c.taken.ensures.value (search rules))
    c.in_ok-tree.ensures c.stands.ensures.fits c.stands.ensures.stands
    (subst (λ (n : ℕ). n ≤ engine.turn) c.taken.ensures.value c.taken.ensures.within) few
