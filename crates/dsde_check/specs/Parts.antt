-- Parts of the rules of models that have a function of their own.
use Rattle.std.specs.Prelude.{ℕ, max, List, []}
use Rattle.dsde_syntax.specs.declared.id.Id.{Id}
use Rattle.dsde_syntax.specs.declared.decl.Body.{Body}
use Rattle.dsde_syntax.specs.declared.decl.PortDecl.{PortDecl}
use Rattle.dsde_syntax.specs.declared.item.Item.{Item}
use Rattle.dsde_language.specs.declared.known.Around.{Around}
use Rattle.dsde_language.specs.declared.signatures.Port.{Port}
use Rattle.dsde_language.specs.Steps.{◌>>=◌, Test, within}
use Rattle.dsde_language.specs.Judge.{Scope}
use Rattle.dsde_language.specs.Blocks.{body_of, ports_all}
use Rattle.dsde_language.specs.RuleStructures.{structure_of}
use Rattle.dsde_language.specs.Rules.{inside_rule}

-- an atomic model with these ports, over its parameters
abbrev pub ported_rule : Around → ℕ → Id → List Port → Body → Scope → Test
ported_rule around at name ports body scope =
    body_of around at ports body scope >>= (λ passed. within name.at passed.height)

-- an atomic model over its parameters
abbrev pub atomic_over : Around → ℕ → Id → Body → Scope → Test
atomic_over around at name body scope =
    ports_all around.known scope [] body.ports >>= (λ ports. ported_rule around at name ports body scope)

-- a network with these ports, whose executive has those
abbrev pub executed_rule : Around → Id → List Port → List Port → ℕ → Body → List Item → Scope → Test
executed_rule around name ports execs exec_at body items scope =
    body_of around exec_at execs body scope >>= (λ passed.
    structure_of around ports execs items passed.scope >>= (λ height.
    within name.at (max passed.height height)))

-- a network over its parameters
abbrev pub network_over : Around → Id → List PortDecl → ℕ → Body → List Item → Scope → Test
network_over around name ports exec_at body items scope =
    ports_all around.known scope [] ports >>= (λ own. inside_rule around name own exec_at body items scope)
