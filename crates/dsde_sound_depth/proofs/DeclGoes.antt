-- Each declaration of the grammar leaves nothing open, and within it no more conditions are open than
-- nest in it.
use Rattle.std.proofs.Common.{◌≡◌, ℕ, ◌≤◌, Bool, true, false, List, [], ◌∷◌, ◌++◌, map, take, Option, Some, None, refl, arith}
use Rattle.std.specs.Prelude.{◌&&◌, max}
use Rattle.std.specs.List.{list_all}
use Rattle.dsde_syntax.specs.declared.token.Tok.TheVariants as tok
use Rattle.dsde_words.specs.declared.key.Key.{Key}
use Rattle.dsde_words.specs.declared.key.Key.TheVariants as key
use Rattle.dsde_syntax.specs.declared.token.Sign.TheVariants as sign
use Rattle.dsde_syntax.specs.declared.id.Id.{Id}
use Rattle.dsde_syntax.specs.declared.type_name.TypeName.{TypeName}
use Rattle.dsde_syntax.specs.declared.expr.Expr.{Expr}
use Rattle.dsde_syntax.specs.declared.stmt.Stmt.{Stmt}
use Rattle.dsde_syntax.specs.declared.item.Item.{Item}
use Rattle.dsde_syntax.specs.declared.decl.Body.{Body}
use Rattle.dsde_syntax.specs.declared.decl.Decl.{Decl}
use Rattle.dsde_syntax.specs.declared.decl.Decl.TheVariants as decl
use Rattle.dsde_syntax.specs.declared.decl.Model.{Model}
use Rattle.dsde_syntax.specs.declared.decl.Phase.{Phase}
use Rattle.dsde_syntax.specs.declared.decl.PortDecl.{PortDecl}
use Rattle.dsde_syntax.specs.declared.decl.StateDecl.{StateDecl}
use Rattle.dsde_syntax.specs.declared.decl.Typed.{Typed}
use Rattle.dsde_syntax.specs.Grammar.{Tokens, mark, joined, id_tokens, type_tokens, stmt_tokens, item_tokens, typed_tokens, params_tokens, port_tokens, state_tokens, phase_tokens, phases_tokens, body_tokens, result_tokens, exec_tokens, decl_tokens, tokens_of}
use Rattle.dsde_syntax.specs.Levels.{is_expr, is_stmt, is_item, is_state, is_phase, is_body, is_decl, has_levels}
use Rattle.dsde_parser.specs.declared.depth.Last.{Last}
use Rattle.dsde_parser.specs.declared.depth.Last.TheVariants as last
use Rattle.dsde_parser.specs.Depth.{with_bracket, open_after}
use Rattle.dsde_sound_depth.proofs.Nests.{most, nest, stmt_nest, item_nest, state_nest, phase_nest, body_nest, decl_nest}
use Rattle.dsde_sound_depth.proofs.Going.{Goes, step, one, join, here, inner, colon, within}
use Rattle.dsde_sound_depth.proofs.Lists.{Goes-on, AllListed, commas-go, parens-go}
use Rattle.dsde_sound_depth.proofs.TypeGoes.{type-goes}
use Rattle.dsde_sound_depth.proofs.ExprParts.{both}
use Rattle.dsde_sound_depth.proofs.Lines.{left-within, right-within, Line, AllLines, none-on, on-on, lines-go, braces-go, block-go, value-go}
use Rattle.dsde_sound_depth.proofs.StmtGoes.{stmt-goes}
use Rattle.dsde_sound_depth.proofs.ItemGoes.{args-line, item-goes}

-- no condition nests in as many parts
abbrev zeros : {X : Type 0} → List X → List ℕ
zeros [] = []
zeros (x ∷ xs) = 0 ∷ zeros xs

most-zeros : {X : Type 0} (xs : List X) (limit : ℕ) → most (zeros xs) ≤ limit
most-zeros [] limit = omega arith
most-zeros (x ∷ xs) limit = both-within (most (zeros xs)) (most-zeros xs limit)
  where
    both-within : (n : ℕ) → n ≤ limit → max 0 n ≤ limit
    both-within n few = omega (arith, few)

-- type
type-on : (ty : TypeName) (brackets : List ℕ) (conditions limit : ℕ) (before : Last) → conditions ≤ limit → Goes-on limit brackets conditions before (type_tokens ty)
type-on ty brackets conditions limit before few =
    let own = (type-goes ty).goes brackets 0 conditions limit before few in
    record { after = own.after; goes = own.goes }

-- id ":" type, whose ":" is no field's
typed-on : (name : Id) (ty : TypeName) (brackets : List ℕ) (conditions limit : ℕ) → conditions ≤ limit → Goes-on limit (with_bracket brackets conditions) conditions last.Other ((id_tokens name ++ mark sign.Colon) ++ type_tokens ty)
typed-on name ty brackets conditions limit few =
    let own = type-on ty (with_bracket brackets conditions) conditions limit last.Other few in
    record { after = own.after; goes = step (tok.Ident name.name) few (join (colon brackets conditions few few) own.goes) }

-- and one whose ":" is a field's
field-on : (name : Id) (ty : TypeName) (brackets : List ℕ) (conditions limit : ℕ) → conditions ≤ limit → Goes-on limit brackets conditions last.Start ((id_tokens name ++ mark sign.Colon) ++ type_tokens ty)
field-on name ty brackets conditions limit few =
    let own = type-on ty brackets conditions limit last.Other few in
    record { after = own.after; goes = step (tok.Ident name.name) few (step (tok.Sign sign.Colon) few own.goes) }

params-listed : (params : List Typed) → AllListed last.Other (zeros params) (map typed_tokens params)
params-listed [] = tt
params-listed (typed ∷ params) = (
  record {
    leads = λ brackets conditions limit few. typed-on typed.name typed.ty brackets conditions limit (omega arith);
    follows = λ brackets conditions limit few. field-on typed.name typed.ty (with_bracket brackets conditions) conditions limit (omega arith);
  },
  params-listed params,
)

fields-listed : (fields : List Typed) → AllListed last.Start (zeros fields) (map typed_tokens fields)
fields-listed [] = tt
fields-listed (typed ∷ fields) = (
  record {
    leads = λ brackets conditions limit few. field-on typed.name typed.ty (with_bracket brackets conditions) conditions limit (omega arith);
    follows = λ brackets conditions limit few. field-on typed.name typed.ty (with_bracket brackets conditions) conditions limit (omega arith);
  },
  fields-listed fields,
)

variants-listed : (variants : List Id) → AllListed last.Start (zeros variants) (map id_tokens variants)
variants-listed [] = tt
variants-listed (name ∷ variants) = (
  record {
    leads = λ brackets conditions limit few. record { after = last.FieldName; goes = one (tok.Ident name.name) (omega arith) (omega arith) };
    follows = λ brackets conditions limit few. record { after = last.FieldName; goes = one (tok.Ident name.name) (omega arith) (omega arith) };
  },
  variants-listed variants,
)

-- "(" [id ":" type {"," id ":" type}] ")"
params-go : (params : List Typed) (brackets : List ℕ) (limit : ℕ) (before : Last) → Goes limit (here brackets 0 before) (params_tokens params) (here brackets 0 last.Other)
params-go params brackets limit before =
    parens-go brackets before (omega arith) (commas-go last.Other (zeros params) (map typed_tokens params) (params-listed params) brackets 0 limit (omega (arith, most-zeros params limit)))

-- ("in" | "out") id ":" type ";", in braces
port-goes : (port : PortDecl) (brackets : List ℕ) (limit : ℕ) (before : Last) → Goes-on limit (with_bracket brackets 0) 0 before (port_tokens port)
port-goes port brackets limit before = record { after = last.Other; goes = worded port.out }
  where
    behind : Goes limit (here (with_bracket brackets 0) 0 last.Other) (((id_tokens port.name ++ mark sign.Colon) ++ type_tokens port.ty) ++ mark sign.Semicolon) (here (with_bracket brackets 0) 0 last.Other)
    behind =
        let own = typed-on port.name port.ty brackets 0 limit (omega arith) in
        join own.goes (one (tok.Sign sign.Semicolon) (omega arith) (omega arith))

    worded : (out : Bool) → Goes limit (here (with_bracket brackets 0) 0 before) (port_tokens (record { out = out; name = port.name; ty = port.ty })) (here (with_bracket brackets 0) 0 last.Other)
    worded true = step (tok.Key key.Out) (omega arith) behind
    worded false = step (tok.Key key.In) (omega arith) behind

ports-go : (ports : List PortDecl) (brackets : List ℕ) (limit : ℕ) (before : Last) → Goes-on limit (with_bracket brackets 0) 0 before (joined (map port_tokens ports))
ports-go [] brackets limit before = none-on
ports-go (port ∷ ports) brackets limit before = on-on (port-goes port brackets limit before) (λ mid. ports-go ports brackets limit mid)

-- "state" id ":" type "=" expr ";", in braces
state-goes : (state : StateDecl) → is_state state ≡ true → (brackets : List ℕ) (limit : ℕ) (before : Last) → state_nest state ≤ limit → Goes-on limit (with_bracket brackets 0) 0 before (state_tokens state)
state-goes state level brackets limit before few =
    let own = typed-on state.name state.ty brackets 0 limit (omega arith) in
    record {
      after = last.Other;
      goes = step (tok.Key key.State) (omega arith)
          (join (join (join own.goes (one (tok.Sign sign.Equal) (omega arith) (omega arith))) (value-go state.value level (with_bracket brackets 0) limit few)) (one (tok.Sign sign.Semicolon) (omega arith) (omega arith)));
    }

states-go : (states : List StateDecl) → list_all is_state states ≡ true → (brackets : List ℕ) (limit : ℕ) (before : Last) → most (map state_nest states) ≤ limit → Goes-on limit (with_bracket brackets 0) 0 before (joined (map state_tokens states))
states-go [] level brackets limit before few = none-on
states-go (state ∷ states) level brackets limit before few =
    let part = both (is_state state) (list_all is_state states) level in
    let more : ℕ = most (map state_nest states) in
    on-on (state-goes state part.left brackets limit before (left-within (state_nest state) more limit few)) (λ mid. states-go states part.right brackets limit mid (right-within (state_nest state) more limit few))

stmts-lines : (stmts : List Stmt) → list_all is_stmt stmts ≡ true → AllLines (map stmt_nest stmts) (map stmt_tokens stmts)
stmts-lines [] level = tt
stmts-lines (own ∷ stmts) level =
    let part = both (is_stmt own) (list_all is_stmt stmts) level in
    ((stmt-goes own).holds part.left, stmts-lines stmts part.right)

items-lines : (items : List Item) → list_all is_item items ≡ true → AllLines (map item_nest items) (map item_tokens items)
items-lines [] level = tt
items-lines (own ∷ items) level =
    let part = both (is_item own) (list_all is_item items) level in
    ((item-goes own).holds part.left, items-lines items part.right)

-- a word behind which a "{" is none of a record
abbrev IsPhase : Key → Type 0
IsPhase begins = (brackets : List ℕ) (limit : ℕ) (before : Last) (tokens : Tokens) → Goes-on limit brackets 0 last.Other tokens → Goes-on limit brackets 0 before (tok.Key begins ∷ tokens)

phase-line : (begins : Key) → IsPhase begins → (phase : Option Phase) → is_phase phase ≡ true → Line (phase_nest phase) (phase_tokens begins phase)
phase-line begins word_of None level = record { goes = λ brackets limit before clear few. none-on }
phase-line begins word_of (Some phase) level = record {
  goes = λ brackets limit before clear few.
      word_of brackets limit before _ (block-go (map stmt_nest phase.stmts) (map stmt_tokens phase.stmts) (stmts-lines phase.stmts level) brackets limit last.Other few);
}

-- the four blocks
phases-line : (body : Body) → is_phase body.output ≡ true → is_phase body.internal ≡ true → is_phase body.external ≡ true → is_phase body.confluent ≡ true
    → Line (max (phase_nest body.output) (max (phase_nest body.internal) (max (phase_nest body.external) (phase_nest body.confluent)))) (phases_tokens body)
phases-line body output internal external confluent = record {
  goes = λ brackets limit before clear few.
      let n1 : ℕ = phase_nest body.output in
      let n2 : ℕ = phase_nest body.internal in
      let n3 : ℕ = phase_nest body.external in
      let n4 : ℕ = phase_nest body.confluent in
      let behind1 = right-within n1 (max n2 (max n3 n4)) limit few in
      let behind2 = right-within n2 (max n3 n4) limit behind1 in
      on-on (on-on (on-on
      ((phase-line key.Output begun-output body.output output).goes brackets limit before clear (left-within n1 (max n2 (max n3 n4)) limit few))
      (λ mid. (phase-line key.Internal begun-internal body.internal internal).goes brackets limit mid clear (left-within n2 (max n3 n4) limit behind1)))
      (λ mid. (phase-line key.External begun-external body.external external).goes brackets limit mid clear (left-within n3 n4 limit behind2)))
      (λ mid. (phase-line key.Confluent begun-confluent body.confluent confluent).goes brackets limit mid clear (right-within n3 n4 limit behind2));
}
  where
    begun-output : IsPhase key.Output
    begun-output brackets limit before tokens own = record { after = own.after; goes = step (tok.Key key.Output) (omega arith) own.goes }

    begun-internal : IsPhase key.Internal
    begun-internal brackets limit before tokens own = record { after = own.after; goes = step (tok.Key key.Internal) (omega arith) own.goes }

    begun-external : IsPhase key.External
    begun-external brackets limit before tokens own = record { after = own.after; goes = step (tok.Key key.External) (omega arith) own.goes }

    begun-confluent : IsPhase key.Confluent
    begun-confluent brackets limit before tokens own = record { after = own.after; goes = step (tok.Key key.Confluent) (omega arith) own.goes }

-- a body, in braces
body-goes : (body : Body) → is_body body ≡ true → (brackets : List ℕ) (limit : ℕ) (before : Last) → body_nest body ≤ limit → Goes-on limit (with_bracket brackets 0) 0 before (body_tokens body)
body-goes body level brackets limit before few =
    let l1 : Bool = list_all is_state body.states in
    let l2 : Bool = is_expr body.advance in
    let l3 : Bool = is_phase body.output in
    let l4 : Bool = is_phase body.internal in
    let l5 : Bool = is_phase body.external in
    let level5 = both (l1 && l2 && l3 && l4 && l5) (is_phase body.confluent) level in
    let level4 = both (l1 && l2 && l3 && l4) l5 level5.left in
    let level3 = both (l1 && l2 && l3) l4 level4.left in
    let level2 = both (l1 && l2) l3 level3.left in
    let level1 = both l1 l2 level2.left in
    let n1 : ℕ = most (map state_nest body.states) in
    let n2 : ℕ = nest body.advance in
    let n3 : ℕ = max (phase_nest body.output) (max (phase_nest body.internal) (max (phase_nest body.external) (phase_nest body.confluent))) in
    let behind1 = right-within n1 (max n2 n3) limit few in
    let inside : List ℕ = with_bracket brackets 0 in
    let front = on-on (ports-go body.ports brackets limit before) (λ mid. states-go body.states level1.left brackets limit mid (left-within n1 (max n2 n3) limit few)) in
    let value = value-go body.advance level1.right inside limit (left-within n2 n3 limit behind1) in
    let phases = (phases-line body level2.right level3.right level4.right level5.right).goes inside limit last.Other (inner brackets 0) (right-within n2 n3 limit behind1) in
    record {
      after = phases.after;
      goes = join (join (join (join front.goes (one (tok.Key key.Advance) (omega arith) (omega arith))) value) (one (tok.Sign sign.Semicolon) (omega arith) (omega arith))) phases.goes;
    }

-- "{" {stmt} "return" expr ";" "}"
result-go : (stmts : List Stmt) (value : Expr) → list_all is_stmt stmts ≡ true → is_expr value ≡ true → (brackets : List ℕ) (limit : ℕ) (before : Last) → max (most (map stmt_nest stmts)) (nest value) ≤ limit → Goes-on limit brackets 0 before (result_tokens stmts value)
result-go stmts value level last_level brackets limit before few =
    let inside : List ℕ = with_bracket brackets 0 in
    let n : ℕ = most (map stmt_nest stmts) in
    let front = lines-go (map stmt_nest stmts) (map stmt_tokens stmts) (stmts-lines stmts level) inside limit last.Start (inner brackets 0) (left-within n (nest value) limit few) in
    let given = value-go value last_level inside limit (right-within n (nest value) limit few) in
    braces-go brackets before (record {
      after = last.Other;
      goes = join (join (join front.goes (one (tok.Key key.Return) (omega arith) (omega arith))) given) (one (tok.Sign sign.Semicolon) (omega arith) (omega arith));
    })

-- "exec" "{" body "structure" items "}", in braces
exec-go : (body : Body) (items : List Item) → is_body body ≡ true → list_all is_item items ≡ true → (brackets : List ℕ) (limit : ℕ) (before : Last) → max (body_nest body) (most (map item_nest items)) ≤ limit → Goes-on limit brackets 0 before (exec_tokens body items)
exec-go body items level items_level brackets limit before few =
    let inside : List ℕ = with_bracket brackets 0 in
    let n : ℕ = most (map item_nest items) in
    let front = body-goes body level brackets limit last.Start (left-within (body_nest body) n limit few) in
    let behind = block-go (map item_nest items) (map item_tokens items) (items-lines items items_level) inside limit last.Other (right-within (body_nest body) n limit few) in
    let all = braces-go brackets last.Other (record {
      after = behind.after;
      goes = join (join front.goes (one (tok.Key key.Structure) (omega arith) (omega arith))) behind.goes;
    }) in
    record { after = all.after; goes = step (tok.Key key.Exec) (omega arith) all.goes }

-- a declaration
decl-line : (own : Decl) → is_decl own ≡ true → Line (decl_nest own) (decl_tokens own)
decl-line (decl.Enum name variants) level = record {
  goes = λ brackets limit before clear few.
      let own = braces-go brackets last.Other (commas-go last.Start (zeros variants) (map id_tokens variants) (variants-listed variants) brackets 0 limit (omega (arith, most-zeros variants limit))) in
      record { after = own.after; goes = step (tok.Key key.Enum) (omega arith) (step (tok.Ident name.name) (omega arith) own.goes) };
}
decl-line (decl.Rec name fields) level = record {
  goes = λ brackets limit before clear few.
      let own = braces-go brackets last.Other (commas-go last.Start (zeros fields) (map typed_tokens fields) (fields-listed fields) brackets 0 limit (omega (arith, most-zeros fields limit))) in
      record { after = own.after; goes = step (tok.Key key.Record) (omega arith) (step (tok.Ident name.name) (omega arith) own.goes) };
}
decl-line (decl.Func name params ty stmts value) level = record {
  goes = λ brackets limit before clear few.
      let placed = both (list_all is_stmt stmts) (is_expr value) level in
      let typed = type-on ty brackets 0 limit last.Other (omega arith) in
      let result = result-go stmts value placed.left placed.right brackets limit typed.after few in
      record {
        after = result.after;
        goes = step (tok.Key key.Fn) (omega arith) (step (tok.Ident name.name) (omega arith)
            (join (join (join (params-go params brackets limit last.Other) (one (tok.Sign sign.Arrow) (omega arith) (omega arith))) typed.goes) result.goes));
      };
}
decl-line (decl.Atomic at name params body) level = record {
  goes = λ brackets limit before clear few.
      let inside = braces-go brackets last.Other (body-goes body level brackets limit last.Start few) in
      record {
        after = inside.after;
        goes = step (tok.Key key.Atomic) (omega arith) (step (tok.Ident name.name) (omega arith) (join (params-go params brackets limit last.Other) inside.goes));
      };
}
decl-line (decl.Network at name params ports exec_at body items) level = record {
  goes = λ brackets limit before clear few.
      let placed = both (is_body body) (list_all is_item items) level in
      let inside = braces-go brackets last.Other (on-on (ports-go ports brackets limit last.Start) (λ mid. exec-go body items placed.left placed.right (with_bracket brackets 0) limit mid few)) in
      record {
        after = inside.after;
        goes = step (tok.Key key.Network) (omega arith) (step (tok.Ident name.name) (omega arith) (join (params-go params brackets limit last.Other) inside.goes));
      };
}
decl-line (decl.Top at name args) level = record {
  goes = λ brackets limit before clear few.
      let own = (args-line args level).goes brackets limit last.Other clear few in
      record {
        after = last.Other;
        goes = step (tok.Key key.Top) (omega arith) (step (tok.Ident name.name) (omega arith) (join own.goes (one (tok.Sign sign.Semicolon) (omega arith) (omega arith))));
      };
}

decls-lines : (decls : List Decl) → list_all is_decl decls ≡ true → AllLines (map decl_nest decls) (map decl_tokens decls)
decls-lines [] level = tt
decls-lines (own ∷ decls) level =
    let part = both (is_decl own) (list_all is_decl decls) level in
    (decl-line own part.left, decls-lines decls part.right)

-- at no place of a model of the grammar more conditions are open than nest in a declaration
pub model-within : (model : Model) (limit : ℕ) → has_levels model ≡ true → most (map decl_nest model.decls) ≤ limit → (n : ℕ) → (open_after (take n (tokens_of model))).conditions ≤ limit
model-within model limit level few n =
    let own = lines-go (map decl_nest model.decls) (map decl_tokens model.decls) (decls-lines model.decls level) [] limit last.Other refl few in
    within limit (here [] 0 own.after) (tokens_of model) own.goes n
