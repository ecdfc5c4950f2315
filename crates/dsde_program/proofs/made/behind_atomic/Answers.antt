use Rattle.std.proofs.Common.{◌≡◌, List, OnOk, ap, subst, ◌∙◌}
use Rattle.dsde_syntax.specs.declared.decl.Typed.{Typed}
use Rattle.dsde_program.specs.Behind.{behind_body, no_items}
use Rattle.dsde_program.specs.declared.made.Made.{Made}
use Rattle.dsde_program.proofs.made.behind_atomic.Goals as goal

pub returns : goal.returns
returns c =
    let known = c.args.structures.now in
    let body = c.args.body.now in
    let atomic : c.behind_body.new.made ≡ behind_body known c.args.params.now c.args.at body c.args.made.now =
    c.in_ok-behind_body.ensures ∙ ap (λ (own : List Typed). behind_body known own c.args.at body c.args.made.now) c.as_slice.ensures in
    subst (λ (own : Made). OnOk c.no_items.result (c.no_items.new.made ≡ no_items own)) atomic c.no_items.ensures
