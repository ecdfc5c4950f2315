use Rattle.std.proofs.Common.{◌∙◌, ◌++◌, List, ap, append-nil, map, sym}
use Rattle.std.proofs.lemmas.List.{drop_all}
use Rattle.std.specs.List.{flat_map}
use Rattle.dsde_routes_wiring.specs.declared.row.Passing.{Passing}
use Rattle.dsde_routes_wiring.specs.declared.row.Way.{Way}
use Rattle.dsde_routes_wiring.specs.Ways.{onward}
use Rattle.dsde_routes.specs.Passing.{at_port}
use Rattle.dsde_routes.specs.Ports.{way_at}
use Rattle.dsde_routes.proofs.Numbered.{numbers-serve}
use Rattle.dsde_routes.proofs.ways.go_over.Goals as goal

pub returns : goal.returns
returns c =
    let on : List Way → List Passing = map (λ (way : Way). at_port c.args.link.now.to.port (onward c.args.number c.args.link.now way)) in
    sym (append-nil c.loop-own.ways)
    ∙ ap (λ later. c.loop-own.ways ++ on (flat_map (way_at c.args.come.now) later)) (sym (drop_all c.loop-own.own-index c.args.numbers.now c.loop-own-test.false))
    ∙ c.loop-own.invariant
    ∙ ap (λ numbers. c.args.ways.now ++ on (flat_map (way_at c.args.come.now) numbers)) c.requires
    ∙ ap (λ ways. c.args.ways.now ++ on ways) (numbers-serve c.args.link.now.from.port c.args.come.now)
