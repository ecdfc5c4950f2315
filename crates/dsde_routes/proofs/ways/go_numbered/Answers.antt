use Rattle.std.proofs.Common.{◌∙◌, ◌++◌, List, ap, append-nil, map, sym}
use Rattle.dsde_routes_wiring.specs.declared.row.Passing.{Passing}
use Rattle.dsde_routes_wiring.specs.declared.row.Way.{Way}
use Rattle.dsde_routes_wiring.specs.Ways.{onward}
use Rattle.dsde_routes.specs.Passing.{at_port}
use Rattle.dsde_routes.proofs.Numbered.{way-none, way-some, ok-map}
use Rattle.dsde_routes.proofs.ways.go_numbered.Goals as goal

pub returns-in-None : goal.returns-in-None
returns-in-None c =
    let on : List Way → List Passing = map (λ (way : Way). at_port c.args.link.now.to.port (onward c.args.number c.args.link.now way)) in
    sym (append-nil c.args.ways.now) ∙ ap (λ ways. c.args.ways.now ++ on ways) (sym (way-none c.args.come.now c.args.own c.in-None.ensures.lookup.3))

pub returns-in-Some : goal.returns-in-Some
returns-in-Some c =
    let on : List Way → List Passing = map (λ (way : Way). at_port c.args.link.now.to.port (onward c.args.number c.args.link.now way)) in
    ok-map c.push_on.result _ _
    (λ is. is
    ∙ ap (λ ways. c.args.ways.now ++ on ways) (sym (way-some c.args.come.now c.args.own c.in-Some.passing.now c.in-Some.ensures.lookup.3.0 c.in-Some.ensures.lookup.1)))
    c.push_on.ensures
