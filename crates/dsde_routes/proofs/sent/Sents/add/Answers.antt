use Rattle.std.proofs.Common.{rules, List, Option, ap, ◌∙◌, unwrap_or}
use Rattle.std.specs.BTreeMap.Entry.{map_with_value}
use Rattle.dsde_values.specs.declared.name.Name.{Name}
use Rattle.dsde_routes.specs.declared.sent.Sent.{Sent}
use Rattle.dsde_routes.specs.Sents.{added}
use Rattle.dsde_routes.proofs.Named.{add-first}
use Rattle.dsde_routes.proofs.sent.Sents.add.Goals as goal

pub returns : goal.returns
returns c = λ other.
    add-first c.in_ok-copy.field-0 c.args.name.now other c.args.sent c.or_insert.result.now c.self.inside.kids.entries (map_with_value c.in_ok-self-inside.field-0 c.or_insert.result.now).entries
    c.in_ok-copy.ensures
    (c.or_insert.ensures.value ∙ ap (λ (own : Option Sent). unwrap_or own c.args.sent) c.in_ok-self-inside.ensures.value)
    ((c.in_ok-self-inside.ensures.update.0 c.or_insert.result.now).0 other)
    _ (search rules)
    ∙ ap (λ (kids : List (Name × Sent)). added c.args.name.now c.args.sent kids other) c.self.view_is
