use Rattle.std.proofs.Common.{◌≡◌, ◌++◌, OnOk, codes, subst, append_assoc}
use Rattle.dsde_cli_status.specs.Note.{note_of}
use Rattle.dsde_cli_status.proofs.note.append_note.Goals as goal
use Rattle.dsde_cli_status.proofs.note.append_note.Goals.{in-Refused+in_ok-append_refusal-in-Refused, in-Usage+in_ok-append_usage-in-Usage, in-BadInput+in_ok-append_bad_input-in-BadInput, in-ModelFault+in_ok-append_model_fault-in-ModelFault, in-Unread+in_ok-append_unread-in-Unread, in-Unwritten+in_ok-append_unwritten-in-Unwritten, in-Memory+in_ok-extend_from_slice-in-Memory, in-BadSave+in_ok-append_bad_save-in-BadSave}

pub returns-clause-ok : goal.returns-clause-ok
returns-clause-ok c =
    let line : c.match-status.text ++ codes "\n" ≡ c.args.text.now ++ note_of c.args.status.now =
    elim c.match-status.branch [
      | in-Refused+in_ok-append_refusal-in-Refused w ↦ rw (w.text-is, w.in_ok-append_refusal-in-Refused.ensures.ok, w.in-Refused.is) (simp append_assoc)
      | in-Usage+in_ok-append_usage-in-Usage w ↦ rw (w.text-is, w.in_ok-append_usage-in-Usage.ensures.ok, w.in-Usage.is) (simp append_assoc)
      | in-BadInput+in_ok-append_bad_input-in-BadInput w ↦ rw (w.text-is, w.in_ok-append_bad_input-in-BadInput.ensures.ok, w.in-BadInput.is) (simp append_assoc)
      | in-ModelFault+in_ok-append_model_fault-in-ModelFault w ↦ rw (w.text-is, w.in_ok-append_model_fault-in-ModelFault.ensures.ok, w.in-ModelFault.is) (simp append_assoc)
      | in-Unread+in_ok-append_unread-in-Unread w ↦ rw (w.text-is, w.in_ok-append_unread-in-Unread.ensures.ok, w.in-Unread.is) (simp append_assoc)
      | in-Unwritten+in_ok-append_unwritten-in-Unwritten w ↦ rw (w.text-is, w.in_ok-append_unwritten-in-Unwritten.ensures.ok, w.in-Unwritten.is) (simp append_assoc)
      | in-Memory+in_ok-extend_from_slice-in-Memory w ↦ rw (w.text-is, w.in_ok-extend_from_slice-in-Memory.ensures.ok, w.in-Memory.is) (simp append_assoc)
      | in-BadSave+in_ok-append_bad_save-in-BadSave w ↦ rw (w.text-is, w.in_ok-append_bad_save-in-BadSave.ensures.ok, w.in-BadSave.is) (simp append_assoc)
    ] in
    subst (λ all. OnOk c.push.result (c.push.new.self ≡ all)) line c.push.ensures.ok
