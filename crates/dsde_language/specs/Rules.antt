-- The first wrong thing of a model, by three passes over its declarations: the identifiers of all,
-- each declaration in text order, and whether there is a `top`.
use Rattle.std.specs.Prelude.{ℕ, max, nat_lt, Bool, true, false, not, List, [], ◌∷◌, ◌++◌, length, codes, Option, Some, None, Result, Ok, Err, slice_get, unwrap_or}
use Rattle.std.specs.List.{list_any}
use Rattle.dsde_syntax.specs.declared.id.Id.{Id}
use Rattle.dsde_syntax.specs.declared.expr.Expr.{Expr}
use Rattle.dsde_syntax.specs.declared.item.Item.{Item}
use Rattle.dsde_syntax.specs.declared.decl.Body.{Body}
use Rattle.dsde_syntax.specs.declared.decl.Decl.{Decl}
use Rattle.dsde_syntax.specs.declared.decl.Decl.TheVariants as decl
use Rattle.dsde_syntax.specs.declared.decl.Model.{Model}
use Rattle.dsde_syntax.specs.declared.decl.PortDecl.{PortDecl}
use Rattle.dsde_syntax.specs.declared.decl.Typed.{Typed}
use Rattle.dsde_syntax.specs.Grammar.{tokens_of}
use Rattle.dsde_language.specs.declared.known.Around.{Around}
use Rattle.dsde_language.specs.declared.known.Known.{Known}
use Rattle.dsde_language.specs.declared.signatures.Func.{Func}
use Rattle.dsde_language.specs.declared.signatures.Port.{Port}
use Rattle.dsde_language.specs.declared.wrong.Wrong.{Wrong}
use Rattle.dsde_language.specs.declared.wrong.WrongKind.TheVariants.{NoTop, Limit}
use Rattle.dsde_language.specs.Steps.{◌>>=◌, Test, unless, apart, within}
use Rattle.dsde_language.specs.RuleTables.{added, func_name, with_name, known_of}
use Rattle.dsde_language.specs.Judge.{Scope}
use Rattle.dsde_language.specs.Blocks.{body_names, fields_all, params_all, ports_all, func_of, body_of}
use Rattle.dsde_language.specs.RuleStructures.{args_of, structure_of}

-- the name that a declaration takes: its identifier, and for `top` its own word, which is none
abbrev pub own_name : Decl → Id
own_name (decl.Enum name variants) = name
own_name (decl.Rec name fields) = name
own_name (decl.Func name params result stmts value) = name
own_name (decl.Atomic at name params body) = name
own_name (decl.Network at name params ports exec_at body items) = name
own_name (decl.Top at name args) = record { name = codes "top"; at = at }

-- Pass 1: the names of all declarations differ.
abbrev pub apart_all : List (List ℕ) → List Decl → Test
apart_all names [] = Ok tt
apart_all names (own ∷ decls) =
    apart names (own_name own) >>= (λ _. apart_all (names ++ (own_name own).name ∷ []) decls)

-- the variants of an enum differ
abbrev pub distinct : List (List ℕ) → List Id → Test
distinct names [] = Ok tt
distinct names (id ∷ ids) = apart names id >>= (λ _. distinct (names ++ id.name ∷ []) ids)

-- what is known behind the declaration of a type
abbrev pub behind_type : Known → Id → Known
behind_type known name = record known { before = with_name known.before name.name }

-- what is known behind a function
abbrev pub behind_func : Known → Func → Known
behind_func known func = record known { funcs = added func_name known.funcs func }

-- A record's fields differ and have types that are declared before, and it is no deeper than 64.
abbrev pub record_rule : Known → Id → List Typed → Test
record_rule known name fields =
    fields_all known [] fields >>= (λ _.
    unless (nat_lt 64 (unwrap_or (slice_get known.depths (length known.before)) 0)) Limit name.at)

-- what stands round the parts of a declaration, where these names are reserved
abbrev pub around_with : Known → List (List ℕ) → Around
around_with known reserved =
    record { known = known; reserved = reserved; has_elapsed = false; sets_states = false; is_total = false }

-- an atomic model, with what stands round its body
abbrev pub atomic_rule : Around → ℕ → Id → List Typed → Body → Test
atomic_rule around at name params body =
    params_all around.known [] params >>= (λ scope.
    ports_all around.known scope [] body.ports >>= (λ ports.
    body_of around at ports body scope >>= (λ passed.
    within name.at passed.height)))

-- what stands in a network behind its own ports: its executive, and its structure
abbrev pub inside_rule : Around → Id → List Port → ℕ → Body → List Item → Scope → Test
inside_rule around name ports exec_at body items scope =
    ports_all around.known scope [] body.ports >>= (λ execs.
    body_of around exec_at execs body scope >>= (λ passed.
    structure_of around ports execs items passed.scope >>= (λ height.
    within name.at (max passed.height height))))

-- A network: its ports may share names with those of its executive.
abbrev pub network_rule : Around → Id → List Typed → List PortDecl → ℕ → Body → List Item → Test
network_rule around name params ports exec_at body items =
    params_all around.known [] params >>= (λ scope.
    ports_all around.known scope [] ports >>= (λ own.
    inside_rule around name own exec_at body items scope))

-- The model of `top` is declared, and its arguments are of its parameters' types; they see no name.
abbrev pub top_rule : Around → ℕ → Id → List Expr → Test
top_rule around at name args = args_of around name args [] >>= (λ height. within at height)

-- Pass 2: a declaration, and what is known behind it.
abbrev pub decl_rule : Known → Decl → Result Known Wrong
decl_rule known (decl.Enum name variants) = distinct [] variants >>= (λ _. Ok (behind_type known name))
decl_rule known (decl.Rec name fields) = record_rule known name fields >>= (λ _. Ok (behind_type known name))
decl_rule known (decl.Func name params result stmts value) =
    func_of known name params result stmts value >>= (λ func. Ok (behind_func known func))
decl_rule known (decl.Atomic at name params body) =
    atomic_rule (around_with known (body_names params body)) at name params body >>= (λ _. Ok known)
decl_rule known (decl.Network at name params ports exec_at body items) =
    network_rule (around_with known (body_names params body)) name params ports exec_at body items >>= (λ _. Ok known)
decl_rule known (decl.Top at name args) = top_rule (around_with known []) at name args >>= (λ _. Ok known)

-- declarations in text order, each over what is known behind those before it
abbrev pub decls_rule : Known → List Decl → Test
decls_rule known [] = Ok tt
decls_rule known (own ∷ decls) = decl_rule known own >>= (λ more. decls_rule more decls)

-- whether a declaration is the `top`
abbrev pub is_top : Decl → Bool
is_top (decl.Top at name args) = true
is_top _ = false

-- Pass 3: there is a `top`; where there is none, its place is the end of the text.
abbrev pub top_rules : Model → Test
top_rules model = unless (not (list_any is_top model.decls)) NoTop (length (tokens_of model))

-- the three passes
abbrev pub rules : Model → Test
rules model =
    apart_all [] model.decls >>= (λ _.
    decls_rule (known_of model.decls) model.decls >>= (λ _.
    top_rules model))

-- the first wrong thing of a model, if anything is wrong in it
abbrev pub first_wrong : Model → Option Wrong
first_wrong model = elim (rules model) [ Ok _ ↦ None | Err first ↦ Some first ]
