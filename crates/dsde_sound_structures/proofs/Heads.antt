-- The parts of declarations whose identifiers are words, among their tokens.
use Rattle.std.proofs.Common.{◌≡◌, ℕ, true, ◌&&◌, List, [], ◌++◌, map}
use Rattle.std.specs.List.{list_all}
use Rattle.dsde_words.specs.Words.{is_word}
use Rattle.dsde_words.specs.declared.key.Key.TheVariants as key
use Rattle.dsde_sim_tree.specs.given.syntax.token_Sign_TheVariants as sign
use Rattle.dsde_sim_tree.specs.given.syntax.id_Id.{Id}
use Rattle.dsde_sim_tree.specs.given.syntax.item_Item.{Item}
use Rattle.dsde_sim_tree.specs.given.syntax.decl_Body.{Body}
use Rattle.dsde_sim_tree.specs.given.syntax.decl_Decl_TheVariants as decl
use Rattle.dsde_sim_tree.specs.given.syntax.decl_PortDecl.{PortDecl}
use Rattle.dsde_sim_tree.specs.given.syntax.decl_Typed.{Typed}
use Rattle.dsde_sim_tree.specs.given.syntax.Grammar.{Tokens, word, mark, joined, commas, in_braces, id_tokens, typed_tokens, params_tokens, port_tokens, state_tokens, expr_tokens, phases_tokens, body_tokens, exec_tokens, decl_tokens}
use Rattle.dsde_sound_structures.proofs.Words.{worded, both, cut, front-worded, flat-worded, join-worded}

-- items with names and types
typed-worded : (typed : List Typed) → worded (commas (map typed_tokens typed)) ≡ true → list_all worded (map typed_tokens typed) ≡ true
typed-worded typed tokens = join-worded (mark sign.Comma) (map typed_tokens typed) tokens

params-worded : (params : List Typed) → worded (params_tokens params) ≡ true → list_all worded (map typed_tokens params) ≡ true
params-worded params tokens = typed-worded params (front-worded (commas (map typed_tokens params)) (mark sign.CloseParen) tokens)

pub ports-worded : (ports : List PortDecl) → worded (joined (map port_tokens ports)) ≡ true → list_all worded (map port_tokens ports) ≡ true
ports-worded ports tokens = flat-worded [] (map port_tokens ports) tokens

-- parameters, and ports in front of other tokens in braces
pub record Headed (name : Id) (params : List Typed) (ports : List PortDecl) : Type 0 where
  pub own : is_word name.name ≡ true
  pub params_worded : list_all worded (map typed_tokens params) ≡ true
  pub ports_worded : list_all worded (map port_tokens ports) ≡ true

headed : (name : Id) (params : List Typed) (ports : List PortDecl) (inner : Tokens) → (worded inner ≡ true → worded (joined (map port_tokens ports)) ≡ true)
    → (is_word name.name && worded (params_tokens params ++ in_braces inner)) ≡ true → Headed name params ports
headed name params ports inner has tokens =
    let own = both (is_word name.name) (worded (params_tokens params ++ in_braces inner)) tokens in
    let part = cut (params_tokens params) (in_braces inner) own.right in
    record {
      own = own.left;
      params_worded = params-worded params part.left;
      ports_worded = ports-worded ports (has (front-worded inner (mark sign.CloseBrace) part.right));
    }

-- the ports of a body, which stand first in it
body-ports : (body : Body) → worded (body_tokens body) ≡ true → worded (joined (map port_tokens body.ports)) ≡ true
body-ports body tokens =
    let ports : Tokens = joined (map port_tokens body.ports) in
    let states : Tokens = joined (map state_tokens body.states) in
    let advance : Tokens = expr_tokens body.advance in
    front-worded ports states
    (front-worded (ports ++ states) (word key.Advance)
    (front-worded (ports ++ states ++ word key.Advance) advance
    (front-worded (ports ++ states ++ word key.Advance ++ advance) (mark sign.Semicolon)
    (front-worded (ports ++ states ++ word key.Advance ++ advance ++ mark sign.Semicolon) (phases_tokens body) tokens))))

pub atomic-headed : (at : ℕ) (name : Id) (params : List Typed) (body : Body) → worded (decl_tokens (decl.Atomic at name params body)) ≡ true → Headed name params body.ports
atomic-headed at name params body tokens = headed name params body.ports (body_tokens body) (body-ports body) tokens

pub network-headed : (at : ℕ) (name : Id) (params : List Typed) (ports : List PortDecl) (exec_at : ℕ) (body : Body) (items : List Item)
    → worded (decl_tokens (decl.Network at name params ports exec_at body items)) ≡ true → Headed name params ports
network-headed at name params ports exec_at body items tokens =
    headed name params ports (joined (map port_tokens ports) ++ exec_tokens body items) (front-worded (joined (map port_tokens ports)) (exec_tokens body items)) tokens

-- the name of an enum and its variants
pub record EnumWorded (name : Id) (variants : List Id) : Type 0 where
  pub own : is_word name.name ≡ true
  pub variants_worded : list_all worded (map id_tokens variants) ≡ true

pub enum-worded : (name : Id) (variants : List Id) → worded (decl_tokens (decl.Enum name variants)) ≡ true → EnumWorded name variants
enum-worded name variants tokens =
    let parts = both (is_word name.name) (worded (in_braces (commas (map id_tokens variants)))) tokens in
    record {
      own = parts.left;
      variants_worded = join-worded (mark sign.Comma) (map id_tokens variants) (front-worded (commas (map id_tokens variants)) (mark sign.CloseBrace) parts.right);
    }

-- the name of a record and its fields
pub record RecordWorded (name : Id) (fields : List Typed) : Type 0 where
  pub own : is_word name.name ≡ true
  pub fields_worded : list_all worded (map typed_tokens fields) ≡ true

pub record-worded : (name : Id) (fields : List Typed) → worded (decl_tokens (decl.Rec name fields)) ≡ true → RecordWorded name fields
record-worded name fields tokens =
    let parts = both (is_word name.name) (worded (in_braces (commas (map typed_tokens fields)))) tokens in
    record { own = parts.left; fields_worded = typed-worded fields (front-worded (commas (map typed_tokens fields)) (mark sign.CloseBrace) parts.right) }
