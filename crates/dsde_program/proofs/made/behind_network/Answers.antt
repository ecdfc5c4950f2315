use Rattle.std.proofs.Common.{◌≡◌, List, OnOk, ap, subst, ◌∙◌}
use Rattle.dsde_syntax.specs.declared.decl.PortDecl.{PortDecl}
use Rattle.dsde_syntax.specs.declared.decl.Typed.{Typed}
use Rattle.dsde_syntax.specs.declared.item.Item.{Item}
use Rattle.dsde_program.specs.Behind.{behind_body, behind_items}
use Rattle.dsde_program.specs.declared.made.Made.{Made}
use Rattle.dsde_program.proofs.made.behind_network.Goals as goal

pub returns : goal.returns
returns c =
    let known = c.args.structures.now in
    let body = c.args.body.now in
    let executive : c.behind_body.new.made ≡ behind_body known c.args.params.now c.args.at body c.args.made.now =
    c.in_ok-behind_body.ensures ∙ ap (λ (own : List Typed). behind_body known own c.args.at body c.args.made.now) c.as_slice.ensures in
    subst (λ (own : Made). OnOk c.behind_items.result (c.behind_items.new.made ≡ behind_items known c.args.params.now c.args.ports.now body c.args.items.now own)) executive
    (subst (λ (own : List Item). OnOk c.behind_items.result (c.behind_items.new.made ≡ behind_items known c.args.params.now c.args.ports.now body own c.behind_body.new.made)) c.as_slice-4.ensures
    (subst (λ (own : List PortDecl). OnOk c.behind_items.result (c.behind_items.new.made ≡ behind_items known c.args.params.now own body c.as_slice-4.result.now c.behind_body.new.made)) c.as_slice-3.ensures
    (subst (λ (own : List Typed). OnOk c.behind_items.result (c.behind_items.new.made ≡ behind_items known own c.as_slice-3.result.now body c.as_slice-4.result.now c.behind_body.new.made)) c.as_slice-2.ensures
    c.behind_items.ensures)))
