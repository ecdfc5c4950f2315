-- Parameters and ports in which nothing is wrong, and their slots.
use Rattle.std.proofs.Common.{◌≡◌, ℕ, Bool, true, false, not, ◌||◌, if◌then◌else◌, cond, List, [], ◌∷◌, ◌++◌, map, Some, Ok, bytes_eq, refl, sym, ap, subst, ◌∙◌, append_assoc, append-nil, true≢false}
use Rattle.std.proofs.lemmas.List.{map-append}
use Rattle.std.proofs.lemmas.List.Folds.{list_any-append}
use Rattle.dsde_language.specs.given.syntax.decl_PortDecl.{PortDecl}
use Rattle.dsde_language.specs.given.syntax.decl_Typed.{Typed}
use Rattle.dsde_language.specs.given.syntax.type_name_TypeName.{TypeName}
use Rattle.dsde_language.specs.given.names.Table.{named, is_among}
use Rattle.dsde_language.specs.given.values.types_Field.{Field}
use Rattle.dsde_language.specs.given.values.types_Ty.{Ty}
use Rattle.dsde_language.specs.given.values.types_Ty_TheVariants as ty
use Rattle.dsde_language.specs.declared.known.Known.{Known}
use Rattle.dsde_language.specs.declared.seen.Binding.{Binding}
use Rattle.dsde_language.specs.declared.seen.BindingKind.TheVariants as kind
use Rattle.dsde_language.specs.declared.seen.TypeSeen.{TypeSeen}
use Rattle.dsde_language.specs.declared.signatures.Port.{Port}
use Rattle.dsde_language.specs.declared.signatures.TypeWord.{TypeWord}
use Rattle.dsde_language.specs.declared.wrong.WrongKind.TheVariants.{Duplicate}
use Rattle.dsde_language.specs.Steps.{◌>>=◌, unless}
use Rattle.dsde_language.specs.RuleTables.{added, by_text, binding_name, field_name, port_name}
use Rattle.dsde_language.specs.Judge.{Scope, unbound, fixed, type_of}
use Rattle.dsde_language.specs.Blocks.{params_all, new_port, ports_all, inputs_seen}
use Rattle.dsde_language.specs.DeclaredStructures.{directed}
use Rattle.dsde_language.specs.DeclaredModels.{typed_fields, port_fields}
use Rattle.dsde_language.specs.Statements.{list_fields}
use Rattle.dsde_language.specs.Scopes.{Slotted, AreOuts}
use Rattle.dsde_sound_expressions.specs.lemmas.Places.{any-left, added-new, named-cons}
use Rattle.dsde_sound_expressions.specs.lemmas.Truths.{or-left, or-right}
use Rattle.dsde_sound_expressions.specs.lemmas.Seeing.{own_slot, among-slots}
use Rattle.dsde_sound_expressions.specs.lemmas.Steps.{ok-is, unless-is, went}
use Rattle.dsde_sound_expressions.proofs.Slots.{NewFields}

-- the ports that are declared, by their text
abbrev pub ports_in : List TypeWord → List PortDecl → List Port
ports_in words = map (λ (port : PortDecl). record { out = port.out; name = port.name.name; ty = by_text words port.ty })

-- Each of these ports has a name that no parameter and no port before it has.
abbrev pub NewPorts : Scope → List Port → List Port → Type 0
NewPorts scope found [] = Unit {0}
NewPorts scope found (port ∷ ports) =
    (is_among binding_name scope port.name ≡ false) × (is_among port_name found port.name ≡ false) × NewPorts scope (found ++ port ∷ []) ports

module _ (known whole : Known) (typed : (own : TypeName) (seen : TypeSeen) → type_of known own ≡ Ok seen → by_text whole.words own ≡ seen.ty) where
  -- what parameters add to a scope
  pub record ParamsAre (scope last : Scope) (params : List Typed) : Type 0 where
    pub is : map own_slot last ≡ map own_slot scope ++ typed_fields whole params
    pub new : NewFields (map own_slot scope) (typed_fields whole params)

  pub params-are : (params : List Typed) (scope last : Scope) → params_all known scope params ≡ Ok last → ParamsAre scope last params
  params-are [] scope last is = record {
    is = ap (map own_slot) (sym (ok-is scope last is)) ∙ sym (append-nil (map own_slot scope));
    new = tt;
  }
  params-are (own ∷ rest) scope last is =
      let one = went (unbound scope own.name) (λ _. type_of known own.ty >>= (λ seen. params_all known (scope ++ fixed own.name seen.ty ∷ []) rest)) last is in
      let two = went (type_of known own.ty) (λ seen. params_all known (scope ++ fixed own.name seen.ty ∷ []) rest) last one.next in
      let more : Scope = scope ++ fixed own.name two.value.ty ∷ [] in
      let next : ParamsAre more last rest = params-are rest more last two.next in
      let field : Field = record { name = own.name.name; ty = by_text whole.words own.ty } in
      let here : map own_slot more ≡ map own_slot scope ++ field ∷ [] =
      map-append own_slot scope (fixed own.name two.value.ty ∷ [])
      ∙ ap (λ (t : Ty). let field : Field = record { name = own.name.name; ty = t } in map own_slot scope ++ field ∷ []) (sym (typed own.ty two.value two.first)) in
      record {
        is = next.is ∙ ap (λ (l : List Field). l ++ typed_fields whole rest) here ∙ append_assoc (map own_slot scope) (field ∷ []) (typed_fields whole rest);
        new = (among-slots scope own.name.name ∙ unless-is _ _ _ one.value one.first, subst (λ (l : List Field). NewFields l (typed_fields whole rest)) here next.new);
      }

  pub record PortsAre (scope : Scope) (found last : List Port) (ports : List PortDecl) : Type 0 where
    pub is : last ≡ found ++ ports_in whole.words ports
    pub new : NewPorts scope found (ports_in whole.words ports)

  pub ports-are : (ports : List PortDecl) (scope : Scope) (found last : List Port) → ports_all known scope found ports ≡ Ok last → PortsAre scope found last ports
  ports-are [] scope found last is = record {
    is = sym (ok-is found last is) ∙ sym (append-nil found);
    new = tt;
  }
  ports-are (own ∷ rest) scope found last is =
      let as_port : Ty → Port = λ (t : Ty). record { out = own.out; name = own.name.name; ty = t } in
      let one = went (new_port scope found own.name) (λ _. type_of known own.ty >>= (λ seen. ports_all known scope (found ++ as_port seen.ty ∷ []) rest)) last is in
      let two = went (type_of known own.ty) (λ seen. ports_all known scope (found ++ as_port seen.ty ∷ []) rest) last one.next in
      let apart = went (unbound scope own.name) (λ _. unless (is_among port_name found own.name.name) Duplicate own.name.at) tt one.first in
      let port : Port = as_port (by_text whole.words own.ty) in
      let here : found ++ as_port two.value.ty ∷ [] ≡ found ++ port ∷ [] = ap (λ (t : Ty). found ++ as_port t ∷ []) (sym (typed own.ty two.value two.first)) in
      let next : PortsAre scope (found ++ port ∷ []) last rest =
      ports-are rest scope (found ++ port ∷ []) last (ap (λ (l : List Port). ports_all known scope l rest) (sym here) ∙ two.next) in
      record {
        is = next.is ∙ append_assoc found (port ∷ []) (ports_in whole.words rest);
        new = (unless-is _ _ _ apart.value apart.first, unless-is _ _ _ apart.value apart.next, next.new);
      }

-- the ports of one direction, as they are declared
directed-step : (out : Bool) (port : Port) (one other : List Field) → one ≡ other
    → (if (if out then port.out else not port.out) then (let field : Field = record { name = port.name; ty = port.ty } in field ∷ one) else one)
    ≡ (if (if out then port.out else not port.out) then (let field : Field = record { name = port.name; ty = port.ty } in field ∷ other) else other)
directed-step out port one other same = ap (λ (l : List Field). if (if out then port.out else not port.out) then (let field : Field = record { name = port.name; ty = port.ty } in field ∷ l) else l) same

pub directed-is : (known : Known) (out : Bool) (ports : List PortDecl) → directed out (ports_in known.words ports) ≡ port_fields known out ports
directed-is known out [] = refl
directed-is known out (own ∷ rest) =
    directed-step out (let port : Port = record { out = own.out; name = own.name.name; ty = by_text known.words own.ty } in port) _ _ (directed-is known out rest)

abbrev taken_in : Bool → Port → Bool
taken_in out port = if out then port.out else not port.out

abbrev port_field : Port → Field
port_field port = record { name = port.name; ty = port.ty }

-- Names that are neither bound nor those of ports that were found are not those of these fields.
pub record Covered (scope : Scope) (found : List Port) (fields : List Field) : Type 0 where
  pub cover : (name : List ℕ) → is_among binding_name scope name ≡ false → is_among port_name found name ≡ false → is_among field_name fields name ≡ false

pub covered-none : (scope : Scope) → Covered scope [] []
covered-none scope = record { cover = λ name one two. refl }

pub covered-scope : (scope : Scope) (fields : List Field) → map own_slot scope ≡ fields → Covered scope [] fields
covered-scope scope fields same = record { cover = λ name one two. ap (λ (l : List Field). is_among field_name l name) (sym same) ∙ among-slots scope name ∙ one }

covered-skip : (scope : Scope) (found : List Port) (fields : List Field) (port : Port) → Covered scope found fields → Covered scope (found ++ port ∷ []) fields
covered-skip scope found fields port own = record {
  cover = λ name one two. own.cover name one (any-left (λ port. bytes_eq (port_name port) name) found (port ∷ []) two);
}

covered-more : (scope : Scope) (found : List Port) (fields : List Field) (port : Port) (own : Ty) → Covered scope found fields → Covered scope (found ++ port ∷ []) (fields ++ (let field : Field = record { name = port.name; ty = own } in field) ∷ [])
covered-more scope found fields port own covered = record {
  cover = λ name one two.
      let both : (is_among port_name found name || (bytes_eq port.name name || false)) ≡ false = sym (list_any-append (λ port. bytes_eq (port_name port) name) found (port ∷ [])) ∙ two in
      list_any-append (λ field. bytes_eq (field_name field) name) fields _
      ∙ ap (λ (b : Bool). b || (bytes_eq port.name name || false)) (covered.cover name one (or-left _ _ both))
      ∙ or-right _ _ both;
}

-- the fields of one direction, behind others
pub directed-new : (out : Bool) (ports found : List Port) (scope : Scope) (fields : List Field) → Covered scope found fields → NewPorts scope found ports → NewFields fields (directed out ports)
directed-new out [] found scope fields covered new = tt
directed-new out (port ∷ ports) found scope fields covered new =
    step (taken_in out port)
    (directed-new out ports (found ++ port ∷ []) scope (fields ++ port_field port ∷ []) (covered-more scope found fields port port.ty covered) new.2)
    (directed-new out ports (found ++ port ∷ []) scope fields (covered-skip scope found fields port covered) new.2)
  where
    step : (taken : Bool) → NewFields (fields ++ port_field port ∷ []) (directed out ports) → NewFields fields (directed out ports)
        → NewFields fields (if taken then port_field port ∷ directed out ports else directed out ports)
    step true one other = (covered.cover port.name new.0 new.1, one)
    step false one other = other

-- what external and confluent see: the in ports as lists, behind other names
pub record MovedAre (scope : Scope) (found : List Port) (fields : List Field) (seen : Scope) (ports : List Port) : Type 0 where
  pub is : map own_slot (inputs_seen seen ports) ≡ fields ++ list_fields (directed false ports)
  pub new : NewFields fields (list_fields (directed false ports))
  pub covered : Covered scope (found ++ ports) (fields ++ list_fields (directed false ports))

abbrev input_bound : Port → Binding
input_bound port = record { name = port.name; ty = ty.List port.ty; kind = kind.Fixed }

record MovedStep (scope : Scope) (found : List Port) (fields : List Field) (seen : Scope) (port : Port) (ports : List Port) (out : Bool) : Type 0 where
  is : map own_slot (inputs_seen (if out then seen else added binding_name seen (input_bound port)) ports) ≡ fields ++ list_fields (if not out then port_field port ∷ directed false ports else directed false ports)
  new : NewFields fields (list_fields (if not out then port_field port ∷ directed false ports else directed false ports))
  covered : Covered scope (found ++ (port ∷ ports)) (fields ++ list_fields (if not out then port_field port ∷ directed false ports else directed false ports))

pub moved-are : (ports found : List Port) (scope : Scope) (fields : List Field) (seen : Scope) → map own_slot seen ≡ fields → Covered scope found fields → NewPorts scope found ports → MovedAre scope found fields seen ports
moved-are [] found scope fields seen same covered new = record {
  is = same ∙ sym (append-nil fields);
  new = tt;
  covered = subst (λ (l : List Field). Covered scope (found ++ []) l) (sym (append-nil fields)) (subst (λ (l : List Port). Covered scope l fields) (sym (append-nil found)) covered);
}
moved-are (port ∷ ports) found scope fields seen same covered new =
    let own = step port.out (λ fields seen same covered. moved-are ports (found ++ port ∷ []) scope fields seen same covered new.2) in
    record { is = own.is; new = own.new; covered = own.covered }
  where
    step : (out : Bool) → ((fields : List Field) (seen : Scope) → map own_slot seen ≡ fields → Covered scope (found ++ port ∷ []) fields → MovedAre scope (found ++ port ∷ []) fields seen ports)
        → MovedStep scope found fields seen port ports out
    step true next =
        let rest = next fields seen same (covered-skip scope found fields port covered) in
        record {
          is = rest.is;
          new = rest.new;
          covered = subst (λ (l : List Port). Covered scope l (fields ++ list_fields (directed false ports))) (append_assoc found (port ∷ []) ports) rest.covered;
        }
    step false next =
        let field : Field = own_slot (input_bound port) in
        let none : is_among binding_name seen port.name ≡ false =
        sym (among-slots seen port.name) ∙ ap (λ (l : List Field). is_among field_name l port.name) same ∙ covered.cover port.name new.0 new.1 in
        let longer : map own_slot (added binding_name seen (input_bound port)) ≡ fields ++ field ∷ [] =
        ap (map own_slot) (added-new binding_name seen (input_bound port) none) ∙ map-append own_slot seen (input_bound port ∷ []) ∙ ap (λ (l : List Field). l ++ field ∷ []) same in
        let rest = next (fields ++ field ∷ []) (added binding_name seen (input_bound port)) longer (covered-more scope found fields port (ty.List port.ty) covered) in
        let joined : (fields ++ field ∷ []) ++ list_fields (directed false ports) ≡ fields ++ (field ∷ list_fields (directed false ports)) = append_assoc fields (field ∷ []) (list_fields (directed false ports)) in
        record {
          is = rest.is ∙ joined;
          new = (covered.cover port.name new.0 new.1, rest.new);
          covered = subst (λ (l : List Port). Covered scope l (fields ++ (field ∷ list_fields (directed false ports)))) (append_assoc found (port ∷ []) ports)
              (subst (λ (l : List Field). Covered scope ((found ++ port ∷ []) ++ ports) l) joined rest.covered);
        }

-- the out ports of a body
pub outs-slotted : (ports : List Port) (name : List ℕ) (port : Port) → named port_name ports name ≡ Some port → port.out ≡ true → Slotted (directed true ports) name port.ty
outs-slotted [] name port is out = absurd (cc)
outs-slotted (own ∷ ports) name port is out =
    step (bytes_eq own.name name) own.out refl refl (sym (named-cons port_name own ports name) ∙ is) (λ here. outs-slotted ports name port here out)
  where
    step : (b taken : Bool) → bytes_eq own.name name ≡ b → own.out ≡ taken → cond b (Some own) (named port_name ports name) ≡ Some port → (named port_name ports name ≡ Some port → Slotted (directed true ports) name port.ty)
        → Slotted (if taken then port_field own ∷ directed true ports else directed true ports) name port.ty
    step true true same is here next =
        let one : own ≡ port = cc in
        record {
          field = port_field own;
          found = named-cons field_name (port_field own) (directed true ports) name ∙ ap (λ (b : Bool). cond b (Some (port_field own)) (named field_name (directed true ports) name)) same;
          of = ap (λ (p : Port). p.ty) one;
        }
    step true false same is here next = let one : own ≡ port = cc in absurd (true≢false (sym out ∙ ap (λ (p : Port). p.out) (sym one) ∙ is))
    step false true same is here next =
        let rest = next here in
        record {
          field = rest.field;
          found = named-cons field_name (port_field own) (directed true ports) name ∙ ap (λ (b : Bool). cond b (Some (port_field own)) (named field_name (directed true ports) name)) same ∙ rest.found;
          of = rest.of;
        }
    step false false same is here next = next here

pub are-outs : (ports : List Port) → AreOuts ports (directed true ports)
are-outs ports = record { slotted = outs-slotted ports }

pub are-none : AreOuts [] []
are-none = record { slotted = λ name port is out. absurd (cc) }
