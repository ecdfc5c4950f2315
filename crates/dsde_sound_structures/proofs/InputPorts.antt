-- The in ports of a model in which nothing is wrong: few, with distinct identifiers as names.
use Rattle.std.proofs.Common.{◌≡◌, ◌≢◌, suc, ◌≤◌, ◌^◌, Bool, true, false, ◌||◌, not, if◌then◌else◌, List, [], ◌∷◌, ◌++◌, map, length, bytes_eq, Result, Ok, refl, sym, ◌∙◌, arith, true≢false}
use Rattle.std.specs.Prelude.{All, slice_index_or}
use Rattle.std.specs.List.{list_all, AllPairs}
use Rattle.std.proofs.lemmas.List.{length-append}
use Rattle.std.proofs.lemmas.List.Elements.{All-nil, All-cons}
use Rattle.std.proofs.lemmas.List.Folds.{list_any-append}
use Rattle.std.proofs.lemmas.List.Kept.{AllPairs-cons}
use Rattle.std.proofs.lemmas.Slice.Eq.{bytes_eq-Decides}
use Rattle.dsde_words.specs.Words.{is_word}
use Rattle.dsde_sim_tree.specs.given.syntax.token_Sign_TheVariants as sign
use Rattle.dsde_sim_tree.specs.given.syntax.decl_PortDecl.{PortDecl}
use Rattle.dsde_sim_tree.specs.given.syntax.Grammar.{mark, joined, type_tokens, port_tokens}
use Rattle.dsde_sim_tree.specs.given.names.Table.{is_among}
use Rattle.dsde_values.specs.declared.types.Field.{Field}
use Rattle.dsde_input_records.specs.Record.{ArePorts}
use Rattle.dsde_sim_tree.specs.given.language.known_Known.{Known}
use Rattle.dsde_sim_tree.specs.given.language.seen_TypeSeen.{TypeSeen}
use Rattle.dsde_sim_tree.specs.given.language.signatures_Port.{Port}
use Rattle.dsde_sim_tree.specs.given.language.wrong_Wrong.{Wrong}
use Rattle.dsde_sim_tree.specs.given.language.wrong_WrongKind_TheVariants.{Duplicate}
use Rattle.dsde_sim_tree.specs.given.language.Steps.{◌>>=◌, unless}
use Rattle.dsde_sim_tree.specs.given.language.RuleTables.{port_name, by_text}
use Rattle.dsde_sim_tree.specs.given.language.Judge.{Scope, unbound, type_of}
use Rattle.dsde_sim_tree.specs.given.language.Blocks.{new_port, ports_all}
use Rattle.dsde_sim_tree.specs.given.language.DeclaredModels.{port_fields}
use Rattle.dsde_sound_structures.proofs.Steps.{went, holds-not}
use Rattle.dsde_sound_structures.proofs.Words.{worded, both, or-parts}

-- two fields with names that differ
abbrev Differ : Field → Field → Type 0
Differ port later = port.name ≢ later.name

-- a field whose name is a word
abbrev Named : Field → Type 0
Named port = is_word port.name ≡ true

-- a field whose name none of these ports has
abbrev NewTo : List Port → Field → Type 0
NewTo found field = is_among port_name found field.name ≡ false

-- The in ports among these differ from those that were found, and from each other.
pub record Distinct (known : Known) (found : List Port) (ports : List PortDecl) : Type 0 where
  pub new : All (NewTo found) (port_fields known false ports)
  pub pairs : AllPairs Differ (port_fields known false ports)

-- a port that differs from those that were found and from one more
module _ (found : List Port) (port : Port) where
  parts-new : (field : Field) → NewTo (found ++ port ∷ []) field → (is_among port_name found field.name ≡ false) × (bytes_eq port.name field.name ≡ false)
  parts-new field none =
      let all = or-parts (is_among port_name found field.name) (bytes_eq port.name field.name || false) (sym (list_any-append (λ (own : Port). bytes_eq own.name field.name) found (port ∷ [])) ∙ none) in
      (all.0, (or-parts (bytes_eq port.name field.name) false all.1).0)

  all-old : (fields : List Field) → All (NewTo (found ++ port ∷ [])) fields → All (NewTo found) fields
  all-old fields all number other within = (parts-new (slice_index_or fields number other) (all number other within)).0

  differs : (own : Field) → own.name ≡ port.name → (field : Field) → NewTo (found ++ port ∷ []) field → own.name ≢ field.name
  differs own named field none = λ same.
      true≢false (sym ((bytes_eq-Decides port.name field.name).1 (sym named ∙ same)) ∙ (parts-new field none).1)

  all-differ : (own : Field) → own.name ≡ port.name → (fields : List Field) → All (NewTo (found ++ port ∷ [])) fields → All (Differ own) fields
  all-differ own named fields all number other within = differs own named (slice_index_or fields number other) (all number other within)

-- one more port
distinct-more : (found : List Port) (port : Port) (own : Field) (fields : List Field) (keeps : Bool) → own.name ≡ port.name → NewTo found own
    → All (NewTo (found ++ port ∷ [])) fields → AllPairs Differ fields
    → (All (NewTo found) (if keeps then own ∷ fields else fields)) × AllPairs Differ (if keeps then own ∷ fields else fields)
distinct-more found port own fields true named new all pairs =
    (All-cons (NewTo found) own fields new (all-old found port fields all), AllPairs-cons Differ own fields (all-differ found port own named fields all) pairs)
distinct-more found port own fields false named new all pairs = (all-old found port fields all, pairs)

ports-distinct : (whole known : Known) (params : Scope) (found last : List Port) (ports : List PortDecl) → ports_all known params found ports ≡ Ok last → Distinct whole found ports
ports-distinct whole known params found last [] is = record { new = All-nil (NewTo found); pairs = λ i j d before within. absurd (omega (arith, within)) }
ports-distinct whole known params found last (port ∷ rest) is =
    let next : TypeSeen → Result (List Port) Wrong = λ seen. ports_all known params (found ++ record { out = port.out; name = port.name.name; ty = seen.ty } ∷ []) rest in
    let one = went (new_port params found port.name) (λ _. type_of known port.ty >>= next) last is in
    let two = went (type_of known port.ty) next last one.next-is in
    let apart = went (unbound params port.name) (λ _. unless (is_among port_name found port.name.name) Duplicate port.name.at) one.own one.is in
    let own : Port = record { out = port.out; name = port.name.name; ty = two.own.ty } in
    let field : Field = record { name = port.name.name; ty = by_text whole.words port.ty } in
    let behind = ports-distinct whole known params (found ++ own ∷ []) last rest two.next-is in
    let all = distinct-more found own field (port_fields whole false rest) (not port.out) refl (holds-not _ _ _ apart.own apart.next-is) behind.new behind.pairs in
    record { new = all.0; pairs = all.1 }

-- The names of ports are words.
named-more : (own : Field) (fields : List Field) (keeps : Bool) → Named own → All Named fields → All Named (if keeps then own ∷ fields else fields)
named-more own fields true named all = All-cons Named own fields named all
named-more own fields false named all = all

ports-named : (whole : Known) (ports : List PortDecl) → list_all worded (map port_tokens ports) ≡ true → All Named (port_fields whole false ports)
ports-named whole [] tokens = All-nil Named
ports-named whole (port ∷ rest) tokens =
    let parts = both (worded (port_tokens port)) (list_all worded (map port_tokens rest)) tokens in
    let own = both (is_word port.name.name) (worded (type_tokens port.ty ++ mark sign.Semicolon)) parts.left in
    named-more (record { name = port.name.name; ty = by_text whole.words port.ty }) (port_fields whole false rest) (not port.out) own.left (ports-named whole rest parts.right)

-- Each port has tokens.
few-more : (own : Field) (fields : List Field) (keeps : Bool) → length (if keeps then own ∷ fields else fields) ≤ suc (length fields)
few-more own fields true = omega arith
few-more own fields false = omega arith

pub ports-few : (whole : Known) (ports : List PortDecl) → length (port_fields whole false ports) ≤ length (joined (map port_tokens ports))
ports-few whole [] = omega arith
ports-few whole (port ∷ rest) =
    let more = few-more (record { name = port.name.name; ty = by_text whole.words port.ty }) (port_fields whole false rest) (not port.out) in
    omega (arith, more, ports-few whole rest, length-append (port_tokens port) (joined (map port_tokens rest)))

-- ports that are accepted, and are few
pub ports-are : (whole known : Known) (params : Scope) (last : List Port) (ports : List PortDecl) → ports_all known params [] ports ≡ Ok last
    → list_all worded (map port_tokens ports) ≡ true → length (joined (map port_tokens ports)) ≤ 2 ^ 32 → ArePorts (port_fields whole false ports)
ports-are whole known params last ports is tokens few = record {
  few = omega (arith, few, ports-few whole ports);
  named = ports-named whole ports tokens;
  distinct = (ports-distinct whole known params [] last ports is).pairs;
}
