-- The steps of declarations are sound.
use Rattle.std.proofs.Common.{◌≡◌, Bool, true, false, List, [], ◌∷◌, ◌++◌, map, Some, None, refl, sym, ap, ◌∙◌, append_assoc}
use Rattle.std.proofs.lemmas.List.{append-nil}
use Rattle.std.specs.Prelude.{if◌then◌else◌}
use denote.Enum.Bare.{same_true}
use Rattle.dsde_words.specs.contracts.key.Key.{the_type as keys}
use Rattle.dsde_syntax.specs.declared.token.Tok.{Tok}
use Rattle.dsde_syntax.specs.declared.token.Tok.TheVariants as tok
use Rattle.dsde_words.specs.declared.key.Key.{Key}
use Rattle.dsde_words.specs.declared.key.Key.TheVariants as key
use Rattle.dsde_syntax.specs.declared.token.Sign.TheVariants as sign
use Rattle.dsde_syntax.specs.declared.id.Id.{Id}
use Rattle.dsde_syntax.specs.declared.type_name.TypeName.{TypeName}
use Rattle.dsde_syntax.specs.declared.decl.Decl.{Decl}
use Rattle.dsde_syntax.specs.declared.decl.Decl.TheVariants as decl
use Rattle.dsde_syntax.specs.declared.decl.Typed.{Typed}
use Rattle.dsde_syntax.specs.declared.decl.PortDecl.{PortDecl}
use Rattle.dsde_syntax.specs.declared.decl.Body.{Body}
use Rattle.dsde_syntax.specs.Grammar.{Tokens, word, mark, id_tokens, joined, commas, in_braces, type_tokens, expr_tokens, stmt_tokens, item_tokens, typed_tokens, port_tokens, state_tokens, phase_tokens, body_tokens, decl_tokens}
use Rattle.dsde_syntax.specs.Grammar.{block as block_tokens}
use Rattle.dsde_syntax.specs.Levels.{stands_at, level_of, is_expr, is_stmt, is_item, is_state, is_body, is_decl}
use Rattle.dsde_parser_grammar.specs.Want as want
use Rattle.dsde_parser_grammar.specs.Steps.{Wants, repeated, go_if, is_key, typed, body, block, decl_step, more_name_step, more_typed_step, params_rest_step, port_step, state_step}
use Rattle.dsde_parser_grammar.proofs.Values.{Good, Spelled, Value, spelled, Values, spells, Meets, commas_rest}
use Rattle.dsde_parser_grammar.proofs.Taking.{Takes, Sound, split, repeated-sound, go_if-takes, named, true-and, all-of-map, three, four, five}
use Rattle.dsde_parser_grammar.proofs.ExprParts.{several-join}

-- one more value before a list
list-join : {A : Type 0} (one : A → Tokens) (all : List A → Tokens) → ((x : A) (xs : List A) → all (x ∷ xs) ≡ one x ++ all xs) → (u : Tokens) → Spelled one u → (vs : List A) → Spelled all (u ++ all vs)
list-join one all turn u first vs = record { value = first.value ∷ vs; spells = turn first.value vs ∙ ap (λ t. t ++ all vs) first.spells }

-- names, and names with their types

more_name-takes : (t : Tok) → Takes (λ u. Spelled (λ (v : Id). mark sign.Comma ++ id_tokens v) (t ∷ u)) (more_name_step t)
more_name-takes (tok.Sign sign.Comma) = λ (name, end). record { value = name; spells = refl }
more_name-takes _ = tt

pub more_names-sound : (t : Tok) → Sound (λ u. Meets want.more_names (t ∷ u)) (Meets want.more_names []) (repeated want.more_names (more_name_step t))
more_names-sound t =
    repeated-sound (Spelled (λ (v : Id). mark sign.Comma ++ id_tokens v)) want.more_names t (more_name_step t) (more_name-takes t)
    (list-join (λ v. mark sign.Comma ++ id_tokens v) (λ items. commas_rest (map id_tokens items)) (λ x xs. refl))
    (record { value = []; spells = refl })

abbrev MoreTyped : Tokens → Type 0
MoreTyped = Spelled (λ (v : Typed). mark sign.Comma ++ typed_tokens v)

typed-of : (name : Id) (ty : TypeName) → Spelled typed_tokens (id_tokens name ++ (mark sign.Colon ++ type_tokens ty))
typed-of name ty = record { value = record { name = name; ty = ty }; spells = refl }

more_typed-of : (vs : Values typed) → MoreTyped (tok.Sign sign.Comma ∷ spells typed vs)
more_typed-of (name, (colon, (ty, end))) =
    let own = typed-of name ty in
    record { value = own.value; spells = ap (λ (t : Tokens). tok.Sign sign.Comma ∷ t) (own.spells ∙ ap (λ (t : Tokens). id_tokens name ++ (mark sign.Colon ++ t)) (sym (append-nil (type_tokens ty)))) }

more_typed-takes : (t : Tok) → Takes (λ u. MoreTyped (t ∷ u)) (more_typed_step t)
more_typed-takes (tok.Sign sign.Comma) = more_typed-of
more_typed-takes _ = tt

pub more_typed-sound : (t : Tok) → Sound (λ u. Meets want.more_typed (t ∷ u)) (Meets want.more_typed []) (repeated want.more_typed (more_typed_step t))
more_typed-sound t =
    repeated-sound MoreTyped want.more_typed t (more_typed_step t) (more_typed-takes t)
    (list-join (λ v. mark sign.Comma ++ typed_tokens v) (λ items. commas_rest (map typed_tokens items)) (λ x xs. refl))
    (record { value = []; spells = refl })

-- id ":" type {"," id ":" type}, and what closes the list
all-typed : (name : Id) (ty : TypeName) (more : List Typed) (last : Tokens) → commas (map typed_tokens ((typed-of name ty).value ∷ more)) ++ last ≡ id_tokens name ++ (mark sign.Colon ++ (type_tokens ty ++ (commas_rest (map typed_tokens more) ++ last)))
all-typed name ty more last =
    ap (λ (t : Tokens). (t ++ commas_rest (map typed_tokens more)) ++ last) (typed-of name ty).spells
    ∙ ap (λ (t : Tokens). id_tokens name ++ (mark sign.Colon ++ t)) (three (type_tokens ty) (commas_rest (map typed_tokens more)) last)

pub params_rest-takes : (t : Tok) → Takes (λ u. Meets want.params_rest (t ∷ u)) (params_rest_step t)
params_rest-takes (tok.Sign sign.CloseParen) = λ vs. record { value = []; spells = refl }
params_rest-takes (tok.Ident name) = λ (colon, (ty, (more, (close, end)))).
    record { value = (typed-of (named name) ty).value ∷ more; spells = all-typed (named name) ty more (mark sign.CloseParen) }
params_rest-takes _ = tt

-- ports, state variables and phases

port-of : (out : Bool) (name : Id) (ty : TypeName) → Meets want.port (word (if out then key.Out else key.In) ++ (id_tokens name ++ (mark sign.Colon ++ (type_tokens ty ++ mark sign.Semicolon))))
port-of true name ty = record { value = record { out = true; name = name; ty = ty }; spells = refl }
port-of false name ty = record { value = record { out = false; name = name; ty = ty }; spells = refl }

pub port-takes : (t : Tok) → Takes (λ u. Meets want.port (t ∷ u)) (port_step t)
port-takes (tok.Key key.In) = λ (name, (colon, (ty, (semicolon, end)))). port-of false name ty
port-takes (tok.Key key.Out) = λ (name, (colon, (ty, (semicolon, end)))). port-of true name ty
port-takes _ = tt

pub ports-sound : (t : Tok) → Sound (λ u. Meets want.ports (t ∷ u)) (Meets want.ports []) (repeated want.ports (port_step t))
ports-sound t =
    repeated-sound (Meets want.port) want.ports t (port_step t) (port-takes t)
    (list-join port_tokens (λ items. joined (map port_tokens items)) (λ x xs. refl))
    (record { value = []; spells = refl })

state-of : (name : Id) (ty : TypeName) (value : Good is_expr) → Meets want.state (tok.Key key.State ∷ (id_tokens name ++ (mark sign.Colon ++ (type_tokens ty ++ (mark sign.Equal ++ (expr_tokens value.value ++ mark sign.Semicolon))))))
state-of name ty value = record {
  value = record { value = record { name = name; ty = ty; value = value.value }; good = value.good };
  spells = ap (λ (t : Tokens). tok.Key key.State ∷ (id_tokens name ++ (mark sign.Colon ++ t))) (four (type_tokens ty) (mark sign.Equal) (expr_tokens value.value) (mark sign.Semicolon));
}

pub state-takes : (t : Tok) → Takes (λ u. Meets want.state (t ∷ u)) (state_step t)
state-takes (tok.Key key.State) = λ (name, (colon, (ty, (equal, (value, (semicolon, end)))))). state-of name ty value
state-takes _ = tt

pub states-sound : (t : Tok) → Sound (λ u. Meets want.states (t ∷ u)) (Meets want.states []) (repeated want.states (state_step t))
states-sound t =
    repeated-sound (Meets want.state) want.states t (state_step t) (state-takes t)
    (several-join is_state (λ holds. holds) state_tokens (λ items. joined (map state_tokens items)) (λ x xs. refl))
    (record { value = record { items = []; all = refl }; spells = refl })

phase-of : (which own : Key) → own ≡ which → (stmts : Value want.stmts) → Meets (want.phase which) (tok.Key own ∷ block_tokens (map stmt_tokens stmts.items))
phase-of which own h stmts = record {
  value = record { value = Some (record { at = 0; stmts = stmts.items }); good = all-of-map is_stmt (λ holds. holds) stmts.items stmts.all };
  spells = ap (λ (k : Key). tok.Key k ∷ block_tokens (map stmt_tokens stmts.items)) (sym h);
}

pub phase-takes : (which : Key) (t : Tok) → Takes (λ u. Meets (want.phase which) (t ∷ u)) (go_if (is_key which t) (block want.stmts))
phase-takes which (tok.Key own) =
    go_if-takes (λ u. Meets (want.phase which) (tok.Key own ∷ u)) (is_key which (tok.Key own)) (block want.stmts)
    (λ h (open_brace, (stmts, (close_brace, end))). phase-of which own (same_true keys tt own which h) stmts)
phase-takes which _ = tt

pub phase-none : (which : Key) → Meets (want.phase which) []
phase-none which = record { value = record { value = None; good = refl }; spells = refl }

-- bodies and declarations

abbrev BodyOf : Tokens → Type 0
BodyOf = Spelled (λ (v : Good is_body). body_tokens v.value)

nine : (p s w e m o i x c : Tokens) → ((((p ++ s) ++ w) ++ e) ++ m) ++ (((o ++ i) ++ x) ++ c) ≡ p ++ (s ++ (w ++ (e ++ (m ++ (o ++ (i ++ (x ++ (c ++ []))))))))
nine p s w e m o i x c = simp (append_assoc, append-nil)

body-of : (vs : Values body) → BodyOf (spells body vs)
body-of (ports, (states, (advance, (value, (semicolon, (output, (internal, (external, (confluent, end))))))))) =
    let own : Body = record { ports = ports; states = states.items; advance_at = 0; advance = value.value; output = output.value; internal = internal.value; external = external.value; confluent = confluent.value } in
    record {
      value = record {
        value = own;
        good =
            true-and _ _ (true-and _ _ (true-and _ _ (true-and _ _ (true-and _ _
            (all-of-map is_state (λ holds. holds) states.items states.all) value.good) output.good) internal.good) external.good) confluent.good;
      };
      spells = nine (joined (map port_tokens ports)) (joined (map state_tokens states.items)) (word key.Advance) (expr_tokens value.value) (mark sign.Semicolon)
          (phase_tokens key.Output output.value) (phase_tokens key.Internal internal.value) (phase_tokens key.External external.value) (phase_tokens key.Confluent confluent.value);
    }

decl-of : (x : Decl) {u : Tokens} → decl_tokens x ≡ u → is_decl x ≡ true → Meets want.decl u
decl-of x e h = record { value = record { value = x; good = h }; spells = e }

-- "fn" id params "->" type "{" {stmt} "return" expr ";" "}"
func-of : (name : Id) (params : List Typed) (ty : TypeName) (stmts : Value want.stmts) (value : Good is_expr) → Meets want.decl (tok.Key key.Fn ∷ (id_tokens name ++ (mark sign.OpenParen ++ (spelled want.params_rest params ++ (mark sign.Arrow ++ (type_tokens ty ++ (mark sign.OpenBrace ++ (joined (map stmt_tokens stmts.items) ++ (word key.Return ++ (expr_tokens value.value ++ (mark sign.Semicolon ++ mark sign.CloseBrace)))))))))))
func-of name params ty stmts value =
    decl-of (decl.Func name params ty stmts.items value.value)
    (ap (λ (t : Tokens). tok.Key key.Fn ∷ (id_tokens name ++ (mark sign.OpenParen ++ t)))
    (four (spelled want.params_rest params) (mark sign.Arrow) (type_tokens ty) _
    ∙ ap (λ (t : Tokens). spelled want.params_rest params ++ (mark sign.Arrow ++ (type_tokens ty ++ (mark sign.OpenBrace ++ t))))
    (five (joined (map stmt_tokens stmts.items)) (word key.Return) (expr_tokens value.value) (mark sign.Semicolon) (mark sign.CloseBrace))))
    (true-and _ _ (all-of-map is_stmt (λ holds. holds) stmts.items stmts.all) value.good)

-- "atomic" id params "{" body "}"
atomic-of : (name : Id) (params : List Typed) (vs : Values (body ++ want.mark sign.CloseBrace ∷ [])) → Meets want.decl (tok.Key key.Atomic ∷ (id_tokens name ++ (mark sign.OpenParen ++ (spelled want.params_rest params ++ (mark sign.OpenBrace ++ spells (body ++ want.mark sign.CloseBrace ∷ []) vs)))))
atomic-of name params vs =
    let s = split body (want.mark sign.CloseBrace ∷ []) vs in
    let own = body-of s.front in
    decl-of (decl.Atomic 0 name params own.value.value)
    (ap (λ (t : Tokens). tok.Key key.Atomic ∷ (id_tokens name ++ (mark sign.OpenParen ++ (spelled want.params_rest params ++ (mark sign.OpenBrace ++ t)))))
    (ap (λ (t : Tokens). t ++ mark sign.CloseBrace) own.spells ∙ s.joins))
    own.value.good

-- "structure" items "}" and the last brace
abbrev structure_wants : Wants
structure_wants =
    want.word key.Structure ∷ want.mark sign.OpenBrace ∷ want.items ∷ want.mark sign.CloseBrace ∷ want.mark sign.CloseBrace ∷ want.mark sign.CloseBrace ∷ []

network-parts : (ports own items : Tokens) → (ports ++ (word key.Exec ++ in_braces ((own ++ word key.Structure) ++ in_braces items))) ++ mark sign.CloseBrace ≡ ports ++ (word key.Exec ++ (mark sign.OpenBrace ++ (own ++ (word key.Structure ++ (mark sign.OpenBrace ++ (items ++ (mark sign.CloseBrace ++ (mark sign.CloseBrace ++ mark sign.CloseBrace))))))))
network-parts ports own items =
    three ports (word key.Exec ++ in_braces ((own ++ word key.Structure) ++ in_braces items)) (mark sign.CloseBrace)
    ∙ ap (λ (t : Tokens). ports ++ (word key.Exec ++ (mark sign.OpenBrace ++ t)))
    (five own (word key.Structure) (in_braces items) (mark sign.CloseBrace) (mark sign.CloseBrace)
    ∙ ap (λ (t : Tokens). own ++ (word key.Structure ++ (mark sign.OpenBrace ++ t))) (three items (mark sign.CloseBrace) (mark sign.CloseBrace ++ mark sign.CloseBrace)))

-- "network" id params "{" {port} "exec" "{" body "structure" items "}" "}"
network-of : (name : Id) (params : List Typed) (ports : List PortDecl) (vs : Values (body ++ structure_wants)) → Meets want.decl (tok.Key key.Network ∷ (id_tokens name ++ (mark sign.OpenParen ++ (spelled want.params_rest params ++ (mark sign.OpenBrace ++ (joined (map port_tokens ports) ++ (word key.Exec ++ (mark sign.OpenBrace ++ spells (body ++ structure_wants) vs))))))))
network-of name params ports vs =
    let s = split body structure_wants vs in
    let own = body-of s.front in
    let items = s.back.1.1.0 in
    decl-of (decl.Network 0 name params ports 0 own.value.value items.items)
    (ap (λ (t : Tokens). tok.Key key.Network ∷ (id_tokens name ++ (mark sign.OpenParen ++ (spelled want.params_rest params ++ (mark sign.OpenBrace ++ t)))))
    (network-parts (joined (map port_tokens ports)) (body_tokens own.value.value) (joined (map item_tokens items.items))
    ∙ ap (λ (t : Tokens). joined (map port_tokens ports) ++ (word key.Exec ++ (mark sign.OpenBrace ++ t)))
    (ap (λ (t : Tokens). t ++ spells structure_wants s.back) own.spells ∙ s.joins)))
    (true-and _ _ own.value.good (all-of-map is_item (λ holds. holds) items.items items.all))

-- a declaration, by its first token
pub decl-takes : (t : Tok) → Takes (λ u. Meets want.decl (t ∷ u)) (decl_step t)
decl-takes (tok.Key key.Enum) = λ (name, (open_brace, (first, (more, (close_brace, end))))). decl-of (decl.Enum name (first ∷ more)) refl refl
decl-takes (tok.Key key.Record) = λ (name, (open_brace, (field, (colon, (ty, (more, (close_brace, end))))))).
    decl-of (decl.Rec name ((typed-of field ty).value ∷ more))
    (ap (λ (t : Tokens). tok.Key key.Record ∷ (id_tokens name ++ (mark sign.OpenBrace ++ t))) (all-typed field ty more (mark sign.CloseBrace))) refl
decl-takes (tok.Key key.Fn) = λ (name, (open_paren, (params, (arrow, (ty, (open_brace, (stmts, (word_return, (value, (semicolon, (close_brace, end))))))))))). func-of name params ty stmts value
decl-takes (tok.Key key.Atomic) = λ (name, (open_paren, (params, (open_brace, rest)))). atomic-of name params rest
decl-takes (tok.Key key.Network) = λ (name, (open_paren, (params, (open_brace, (ports, (word_exec, (open_exec, rest))))))). network-of name params ports rest
decl-takes (tok.Key key.Top) = λ (name, (open_paren, (own, (semicolon, end)))). decl-of (decl.Top 0 name own.items) refl (all-of-map level_of (stands_at 9) own.items own.all)
decl-takes _ = tt

pub decls-sound : (t : Tok) → Sound (λ u. Meets want.decls (t ∷ u)) (Meets want.decls []) (repeated want.decls (decl_step t))
decls-sound t =
    repeated-sound (Meets want.decl) want.decls t (decl_step t) (decl-takes t)
    (several-join is_decl (λ holds. holds) decl_tokens (λ items. joined (map decl_tokens items)) (λ x xs. refl))
    (record { value = record { items = []; all = refl }; spells = refl })
