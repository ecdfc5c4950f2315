use Rattle.std.proofs.Common.{◌∙◌, [], ◌∷◌, ◌++◌, List, ap, sym}
use Rattle.dsde_core_parcels.specs.declared.inbox.Inbox.{Inbox}
use Rattle.dsde_core_parcels.specs.declared.inbox.Get.{Get}
use Rattle.dsde_core_parcels.specs.Inboxes.{put_lot, with_get}
use Rattle.dsde_core_parcels.proofs.Putting.{put-same, put-other}
use Rattle.dsde_core_parcels.proofs.inbox.take_last.Goals as goal

pub returns-then-last-target : goal.returns-then-last-target
returns-then-last-target c = λ get.
    put-same c.pop.new.self c.in-Some.last c.args.target get (c.if-last-target.true)
    ∙ ap (λ (all : List Inbox). put_lot all (record { target = c.args.target; get = get })) (sym c.in-Some.ensures)

pub returns : goal.returns
returns c = λ get.
    ap (λ (all : List Inbox). all ++ with_get (record { target = c.args.target; gets = c.new-2.result }) get ∷ []) c.in_ok-push.ensures.ok
    ∙ ap (λ (gets : List Get). (c.pop.new.self ++ c.in-Some.last ∷ []) ++ with_get (record { target = c.args.target; gets = gets }) get ∷ []) c.new-2.ensures
    ∙ put-other c.pop.new.self c.in-Some.last c.args.target get (c.if-last-target.false)
    ∙ ap (λ (all : List Inbox). put_lot all (record { target = c.args.target; get = get })) (sym c.in-Some.ensures)
