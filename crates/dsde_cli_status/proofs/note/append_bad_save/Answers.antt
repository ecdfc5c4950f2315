use Rattle.std.proofs.Common.{◌≡◌, ◌++◌, OnOk, subst, append_assoc}
use Rattle.dsde_values.specs.Path.{path_text}
use Rattle.dsde_cli_status.specs.Note.{save_text}
use Rattle.std.specs.Prelude.{codes}
use Rattle.dsde_cli_status.proofs.note.append_bad_save.Goals as goal

pub returns-in_ok-extend_from_slice-in-DoesNotFit-clause-ok : goal.returns-in_ok-extend_from_slice-in-DoesNotFit-clause-ok
returns-in_ok-extend_from_slice-in-DoesNotFit-clause-ok c =
    let whole : c.extend_from_slice-in-DoesNotFit.new.self ++ path_text c.in-DoesNotFit.path ≡ c.args.text.now ++ codes "save " ++ save_text c.args.fault.now =
    rw (c.in_ok-extend_from_slice-in-DoesNotFit.ensures.ok, c.in_ok-extend_from_slice.ensures.ok, c.in-DoesNotFit.is) (simp append_assoc)
    in
    subst (λ all. OnOk c.write_path.result (c.write_path.new.text ≡ all)) whole c.write_path.ensures.ok
