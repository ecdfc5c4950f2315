-- What each model of a file declares of itself has lawful in ports.
use Rattle.std.proofs.Common.{◌≡◌, ℕ, suc, ◌≤◌, ◌^◌, true, List, [], ◌∷◌, ◌++◌, map, length, Ok, Some, slice_get, subst, arith}
use Rattle.std.specs.Prelude.{All}
use Rattle.std.specs.List.{list_all}
use Rattle.std.proofs.lemmas.List.{length-append}
use Rattle.std.proofs.lemmas.List.Elements.{All-nil, All-cons, All-append}
use Rattle.std.proofs.lemmas.Option.{slice_get_within, get_or_from_slice_get}
use Rattle.dsde_words.specs.declared.key.Key.TheVariants as key
use Rattle.dsde_sim_tree.specs.given.syntax.token_Sign_TheVariants as sign
use Rattle.dsde_sim_tree.specs.given.syntax.id_Id.{Id}
use Rattle.dsde_sim_tree.specs.given.syntax.item_Item.{Item}
use Rattle.dsde_sim_tree.specs.given.syntax.decl_Body.{Body}
use Rattle.dsde_sim_tree.specs.given.syntax.decl_Decl.{Decl}
use Rattle.dsde_sim_tree.specs.given.syntax.decl_Decl_TheVariants as decl
use Rattle.dsde_sim_tree.specs.given.syntax.decl_Model.{Model}
use Rattle.dsde_sim_tree.specs.given.syntax.decl_PortDecl.{PortDecl}
use Rattle.dsde_sim_tree.specs.given.syntax.decl_Typed.{Typed}
use Rattle.dsde_sim_tree.specs.given.syntax.Grammar.{Tokens, word, mark, joined, in_braces, params_tokens, port_tokens, state_tokens, expr_tokens, phases_tokens, body_tokens, exec_tokens, decl_tokens, tokens_of}
use Rattle.dsde_input_records.specs.Record.{ArePorts}
use Rattle.dsde_sim_tree.specs.given.language.known_Known.{Known}
use Rattle.dsde_sim_tree.specs.given.language.signatures_Port.{Port}
use Rattle.dsde_sim_tree.specs.given.language.Steps.{◌>>=◌, Test, within}
use Rattle.dsde_sim_tree.specs.given.language.RuleTables.{known_of}
use Rattle.dsde_sim_tree.specs.given.language.Judge.{Scope}
use Rattle.dsde_sim_tree.specs.given.language.Blocks.{body_names, params_all, ports_all, body_of}
use Rattle.dsde_sim_tree.specs.given.language.Rules.{around_with, atomic_rule, inside_rule, network_rule, decl_rule, decls_rule}
use Rattle.dsde_sim_tree.specs.given.language.info_Info.{Info}
use Rattle.dsde_sim_tree.specs.given.language.DeclaredModels.{whole_of}
use Rattle.dsde_sim_tree.specs.given.language.NodeModels.{with_info, infos_from, infos_of}
use Rattle.dsde_sim_tree.specs.given.language.Right.{IsRight}
use Rattle.dsde_sound_structures.proofs.Heads.{atomic-headed, network-headed}
use Rattle.dsde_sound_structures.proofs.InputPorts.{ports-are}
use Rattle.dsde_sound_structures.proofs.Steps.{went, judged}
use Rattle.dsde_sound_structures.proofs.Words.{worded, both, flat-worded, tokens-worded}

abbrev HasPorts : Info → Type 0
HasPorts info = ArePorts info.ins

-- the tokens of ports are among those of their declaration
front-low : (few : ℕ) (front behind : Tokens) → few ≤ length front → few ≤ length (front ++ behind)
front-low few front behind low = omega (arith, low, length-append front behind)

behind-low : (few : ℕ) (front behind : Tokens) → few ≤ length behind → few ≤ length (front ++ behind)
behind-low few front behind low = omega (arith, low, length-append front behind)

braces-low : (few : ℕ) (inner : Tokens) → few ≤ length inner → few ≤ length (in_braces inner)
braces-low few inner low = omega (arith, low, length-append inner (mark sign.CloseBrace))

head-low : (few : ℕ) (params inner : Tokens) → few ≤ length inner → few ≤ suc (suc (length (params ++ in_braces inner)))
head-low few params inner low =
    let own = behind-low few params (in_braces inner) (braces-low few inner low) in
    omega (arith, own)

body-low : (body : Body) → length (joined (map port_tokens body.ports)) ≤ length (body_tokens body)
body-low body =
    let ports : Tokens = joined (map port_tokens body.ports) in
    let states : Tokens = joined (map state_tokens body.states) in
    let advance : Tokens = expr_tokens body.advance in
    let few : ℕ = length ports in
    front-low few (ports ++ states ++ word key.Advance ++ advance ++ mark sign.Semicolon) (phases_tokens body)
    (front-low few (ports ++ states ++ word key.Advance ++ advance) (mark sign.Semicolon)
    (front-low few (ports ++ states ++ word key.Advance) advance
    (front-low few (ports ++ states) (word key.Advance)
    (front-low few ports states (omega arith)))))

atomic-low : (at : ℕ) (name : Id) (params : List Typed) (body : Body) → length (joined (map port_tokens body.ports)) ≤ length (decl_tokens (decl.Atomic at name params body))
atomic-low at name params body = head-low _ (params_tokens params) (body_tokens body) (body-low body)

network-low : (at : ℕ) (name : Id) (params : List Typed) (ports : List PortDecl) (exec_at : ℕ) (body : Body) (items : List Item)
    → length (joined (map port_tokens ports)) ≤ length (decl_tokens (decl.Network at name params ports exec_at body items))
network-low at name params ports exec_at body items =
    let own : Tokens = joined (map port_tokens ports) in
    head-low (length own) (params_tokens params) (own ++ exec_tokens body items) (front-low (length own) own (exec_tokens body items) (omega arith))

-- the ports of a declaration in which nothing is wrong are accepted
pub record Accepted (known : Known) (ports : List PortDecl) : Type 0 where
  pub params : Scope
  pub last : List Port
  pub is : ports_all known params [] ports ≡ Ok last

atomic-accepted : (known more : Known) (at : ℕ) (name : Id) (params : List Typed) (body : Body) → decl_rule known (decl.Atomic at name params body) ≡ Ok more → Accepted known body.ports
atomic-accepted known more at name params body is =
    let around = around_with known (body_names params body) in
    let one = went (atomic_rule around at name params body) (λ _. Ok known) more is in
    let inside : Scope → List Port → Test = λ scope ports. body_of around at ports body scope >>= (λ passed. within name.at passed.height) in
    let two = went (params_all known [] params) (λ scope. ports_all known scope [] body.ports >>= inside scope) one.own one.is in
    let three = went (ports_all known two.own [] body.ports) (inside two.own) one.own two.next-is in
    record { params = two.own; last = three.own; is = three.is }

network-accepted : (known more : Known) (at : ℕ) (name : Id) (params : List Typed) (ports : List PortDecl) (exec_at : ℕ) (body : Body) (items : List Item)
    → decl_rule known (decl.Network at name params ports exec_at body items) ≡ Ok more → Accepted known ports
network-accepted known more at name params ports exec_at body items is =
    let around = around_with known (body_names params body) in
    let one = went (network_rule around name params ports exec_at body items) (λ _. Ok known) more is in
    let inside : Scope → List Port → Test = λ scope own. inside_rule around name own exec_at body items scope in
    let two = went (params_all known [] params) (λ scope. ports_all known scope [] ports >>= inside scope) one.own one.is in
    let three = went (ports_all known two.own [] ports) (inside two.own) one.own two.next-is in
    record { params = two.own; last = three.own; is = three.is }

info-more : (infos : List Info) (info : Info) → All HasPorts infos → HasPorts info → All HasPorts (infos ++ info ∷ [])
info-more infos info all own = All-append HasPorts infos (info ∷ []) all (All-cons HasPorts info [] own (All-nil HasPorts))

with-info : (whole known more : Known) (own : Decl) (infos : List Info) → decl_rule known own ≡ Ok more → worded (decl_tokens own) ≡ true → length (decl_tokens own) ≤ 2 ^ 32
    → All HasPorts infos → All HasPorts (with_info whole infos own)
with-info whole known more (decl.Enum name variants) infos is tokens few all = all
with-info whole known more (decl.Rec name fields) infos is tokens few all = all
with-info whole known more (decl.Func name params result stmts value) infos is tokens few all = all
with-info whole known more (decl.Atomic at name params body) infos is tokens few all =
    let own = atomic-accepted known more at name params body is in
    info-more infos _ all
    (ports-are whole known own.params own.last body.ports own.is (atomic-headed at name params body tokens).ports_worded (omega (arith, few, atomic-low at name params body)))
with-info whole known more (decl.Network at name params ports exec_at body items) infos is tokens few all =
    let own = network-accepted known more at name params ports exec_at body items is in
    info-more infos _ all
    (ports-are whole known own.params own.last ports own.is (network-headed at name params ports exec_at body items tokens).ports_worded (omega (arith, few, network-low at name params ports exec_at body items)))
with-info whole known more (decl.Top at name args) infos is tokens few all = all

all-infos : (whole known : Known) (decls : List Decl) (infos : List Info) → decls_rule known decls ≡ Ok tt → list_all worded (map decl_tokens decls) ≡ true → length (joined (map decl_tokens decls)) ≤ 2 ^ 32
    → All HasPorts infos → All HasPorts (infos_from whole infos decls)
all-infos whole known [] infos is tokens few all = all
all-infos whole known (own ∷ decls) infos is tokens few all =
    let parts = both (worded (decl_tokens own)) (list_all worded (map decl_tokens decls)) tokens in
    let rule = went (decl_rule known own) (λ more. decls_rule more decls) tt is in
    let long = length-append (decl_tokens own) (joined (map decl_tokens decls)) in
    all-infos whole rule.own decls (with_info whole infos own) rule.next-is parts.right (omega (arith, few, long))
    (with-info whole known rule.own own infos rule.is parts.left (omega (arith, few, long)) all)

info-at : (infos : List Info) (number : ℕ) (info : Info) → All HasPorts infos → slice_get infos number ≡ Some info → ArePorts info.ins
info-at infos number info all at =
    subst HasPorts (get_or_from_slice_get infos number info info at) (all number info (slice_get_within infos number info at))

pub ports-are-lawful : (model : Model) → IsRight model → (number : ℕ) (info : Info) → slice_get (infos_of model) number ≡ Some info → ArePorts info.ins
ports-are-lawful model right number info at =
    let tokens = flat-worded [] (map decl_tokens model.decls) (tokens-worded (tokens_of model) right.shaped.tokens) in
    let few = right.shaped.few in
    info-at (infos_of model) number info
    (all-infos (whole_of model) (known_of model.decls) model.decls [] (judged model right) tokens (omega (arith, few)) (All-nil HasPorts)) at
