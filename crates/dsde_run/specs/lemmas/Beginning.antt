-- What a start comes to.
use Rattle.std.proofs.Common.{◌≡◌, List, [], refl, sym, ap, subst}
use Rattle.std.specs.Prelude.{is_some, Result, Ok, Err, IfOk, IfErr}
use Rattle.dsde_values.specs.Path.{root}
use Rattle.dsde_sim_tree.specs.given.formalism.System.{System, Chosen}
use Rattle.dsde_sim_tree.specs.declared.event.Event.{Event}
use Rattle.dsde_sim_tree.specs.declared.fault.TurnEnd.{TurnEnd}
use Rattle.dsde_sim_tree.specs.Told.{Told, Tells, at, told, quietly, ◌then◌}
use Rattle.dsde_sim_tree.specs.Engine.{Engine, begun}
use Rattle.dsde_sim_tree.specs.Turn as turning
use Rattle.dsde_sim_tree.specs.Turn.{started_tree}
use Rattle.dsde_image_rows.specs.given.system.Program.{system}
use Rattle.dsde_syntax.specs.declared.decl.Model.{Model}
use Rattle.dsde_run.specs.Run.{Running}
use Rattle.dsde_run.specs.Steps.{Begins, IsBegun, IsRoot, Starts}
use Rattle.dsde_run.specs.lemmas.Steps.{ends-first, same_ok}

-- The events that were told behind none are those of the start.
pub begins-by : {Machine State : Type 0} (state : Machine → State) (begins : Told State) (none told : List Event) (started : Result Machine TurnEnd) → none ≡ [] →
    IfOk started (λ own. Tells begins none told (Ok (state own))) → IfErr started (λ why. Tells begins none told (Err why)) → Begins state begins told started
begins-by state begins none told (Ok own) empty ok err = subst (λ none. Tells begins none told (Ok (state own))) empty ok
begins-by state begins none told (Err why) empty ok err = subst (λ none. Tells begins none told (Err why)) empty err

-- An engine that has started.
pub is_begun : (system : System) (engine : Engine) → (turning.start system).end ≡ Ok engine → IsBegun engine
is_begun system engine ends =
    let first = ends-first (at root system.top) (quietly (at root system.top))
    (λ (chosen : Chosen). started_tree system chosen.model chosen.args then (λ own. told [] (begun own))) engine refl ends in
    let second = ends-first (started_tree system first.0.model first.0.args).end (started_tree system first.0.model first.0.args)
    (λ own. told [] (begun own)) engine refl first.1 in
    let is : begun second.0 ≡ engine = same_ok (begun second.0) engine second.1 in
    record {
      has_tree = ap (λ (engine : Engine). is_some engine.tree) (sym is);
      none_done = ap (λ (engine : Engine). engine.turn) (sym is);
      at_start = ap (λ (engine : Engine). engine.time) (sym is);
    }

-- A start in path order, of the program that runs.
pub path-starts : {Machine : Type 0} (program : Machine → Model) (engine : Machine → Engine) (own : Running) (none told : List Event) (started : Result Machine TurnEnd) → IfOk started (λ machine. program machine ≡ own.model) →
    IfOk started (λ machine. IsRoot own (engine machine)) → IfOk started (λ machine. Tells (turning.start (system own.model)) none told (Ok (engine machine))) → IfOk started (λ machine. Starts own (program machine) (engine machine))
path-starts program engine own none told (Ok machine) is rooted tells = record { is_program = is; root = rooted; begun = is_begun (system own.model) (engine machine) tells.1 }
path-starts program engine own none told (Err why) is rooted tells = tt
