-- The item at the front of a text.
use Rattle.std.proofs.Common.{◌≡◌, ℕ, ◌+◌, ◌-◌, Bool, true, false, ◌&&◌, List, [], ◌∷◌, ◌++◌, length, take, drop, get_or, refl, sym, ◌∙◌, ap, subst, arith, append_assoc, length-append, length-drop}
use Rattle.std.specs.Prelude.{Some, None, slice_get}
use Rattle.std.specs.Option.{option_map_or}
use Rattle.std.specs.List.{position}
use Rattle.std.proofs.lemmas.List.Quantifiers.{position-Some}
use Rattle.std.proofs.lemmas.List.{drop-drop}
use Rattle.std.proofs.Math.Seq.{drop-append_seam}
use Rattle.std.proofs.lemmas.List.{take_all}
use Rattle.std.proofs.lemmas.Option.{slice_get-get_or}
use Rattle.dsde_values.specs.declared.arrival.Item.{Item}
use Rattle.dsde_values.specs.declared.types.Field.{Field}
use Rattle.dsde_values.specs.declared.types.Types.{Types}
use Rattle.dsde_values.specs.declared.value.Value.{Value}
use Rattle.dsde_values.specs.Value.{HasType, spelling}
use Rattle.dsde_words.specs.Words.{is_word, begins_word}
use Rattle.dsde_values.specs.Word.{ends_word, Begins}
use Rattle.dsde_input_records.specs.Lines.{Lacks}
use Rattle.dsde_input_records.specs.Record.{ArePorts, IsItem, item_text, port_name}
use Rattle.dsde_input_parser.specs.Reading.{Reads, NoWord}
use Rattle.dsde_input_records.proofs.Ports.{Lacks-identifier, port_fact, has_name, same_name, no_port, this_port}
use Rattle.dsde_input_parser.specs.lemmas.Cuts.{IsCut, same_cut, no_cut}

and_false : (one other : Bool) → other ≡ false → (one && other) ≡ false
and_false true other none = none
and_false false other none = refl

-- an item's name and value, where the item stands at the front of a text
module _ (ports : List Field) (types : Types) (lawful : ArePorts ports) (text : List ℕ) (at : ℕ) (cut : IsCut 32 text at) where
  item_parts : (item : Item) (rest : List ℕ) (is : IsItem ports types item) → text ≡ item_text ports types item ++ rest →
      (take at text ≡ is.port.name) × (drop (at + 1) text ≡ spelling types item.value ++ rest)
  item_parts item rest is same =
      let named : port_name ports item.port ≡ is.port.name = ap (λ found. option_map_or (λ field. field.name) found []) is.at in
      let name_lacks = Lacks-identifier is.port.name (port_fact (λ port. is_word port.name ≡ true) ports item.port is.port lawful.named is.at) in
      let split : item_text ports types item ++ rest ≡ is.port.name ++ 32 ∷ (spelling types item.value ++ rest) =
      rw named (append_assoc is.port.name (32 ∷ spelling types item.value) rest) in
      same_cut 32 (take at text) (drop (at + 1) text) is.port.name (spelling types item.value ++ rest)
      (sym cut.whole ∙ same ∙ split) cut.first name_lacks

-- A text without a space has no item.
pub no_item_uncut : (ports : List Field) (types : Types) (text : List ℕ) → Lacks 32 text → Reads (IsItem ports types) (item_text ports types) NoWord text None
no_item_uncut ports types text lacks = record {
  stands = tt;
  only = λ item rest is word same.
      no_cut 32 text (port_name ports item.port) (spelling types item.value ++ rest) lacks
      (same ∙ append_assoc (port_name ports item.port) (32 ∷ spelling types item.value) rest);
}

-- No value goes on, where no word follows it.
begins_before : (types : Types) (value : Value) (rest bytes : List ℕ) → NoWord rest → bytes ≡ spelling types value ++ rest → Begins (spelling types value) bytes
begins_before types value rest bytes word same =
    record { rest = rest; front = same; ends = and_false (ends_word (spelling types value)) (begins_word rest) word }

module _ (ports : List Field) (types : Types) (lawful : ArePorts ports) (text : List ℕ) (at : ℕ) (cut : IsCut 32 text at) where
  -- What stands before the space is no port.
  pub no_item_port : position (has_name (take at text)) ports ≡ None → Reads (IsItem ports types) (item_text ports types) NoWord text None
  no_item_port none = record {
    stands = tt;
    only = λ item rest is word same.
        no_port ports (take at text) none item.port is.port is.at (sym (item_parts ports types lawful text at cut item rest is same).0);
  }

  module _ (place : ℕ) (port : Field) (found : position (has_name (take at text)) ports ≡ Some place) (is_port : port ≡ get_or ports place port)
      (behind : List ℕ) (is_behind : behind ≡ drop (at + 1) text) where
    at_place : slice_get ports place ≡ Some port
    at_place = slice_get-get_or ports place port (position-Some (has_name (take at text)) ports place port found).0 ∙ ap Some (sym is_port)

    named : port.name ≡ take at text
    named = ap (λ p. p.name) is_port ∙ same_name (get_or ports place port) (take at text) (position-Some (has_name (take at text)) ports place port found).1

    -- the port and the value of an item that stands there
    its_place : (item : Item) (rest : List ℕ) (is : IsItem ports types item) → text ≡ item_text ports types item ++ rest → place ≡ item.port
    its_place item rest is same =
        this_port ports (take at text) place lawful found item.port is.port is.at
        (sym (item_parts ports types lawful text at cut item rest is same).0)

    its_type : (item : Item) (rest : List ℕ) (is : IsItem ports types item) → text ≡ item_text ports types item ++ rest → HasType types item.value port.ty
    its_type item rest is same =
        let one : place ≡ item.port = its_place item rest is same in
        let ports_one : Some is.port ≡ Some port = sym is.at ∙ ap (slice_get ports) (sym one) ∙ at_place in
        let port_one : is.port ≡ port = cc in
        subst (λ p. HasType types item.value p.ty) port_one is.typed

    its_value : (item : Item) (rest : List ℕ) (is : IsItem ports types item) → NoWord rest → text ≡ item_text ports types item ++ rest → Begins (spelling types item.value) behind
    its_value item rest is word same =
        begins_before types item.value rest behind word (is_behind ∙ (item_parts ports types lawful text at cut item rest is same).1)

    -- What stands behind the space is no value.
    pub no_item_value : ((value : Value) → HasType types value port.ty → ¬ (Begins (spelling types value) behind)) → Reads (IsItem ports types) (item_text ports types) NoWord text None
    no_item_value none = record {
      stands = tt;
      only = λ item rest is word same.
          none item.value (its_type item rest is same) (its_value item rest is word same);
    }

    -- the text behind a value
    behind_value : (value : Value) (more : ℕ) (rest : List ℕ) → drop (at + 1) text ≡ spelling types value ++ rest → more ≡ length (spelling types value) → drop (at + 1 + more) text ≡ rest
    behind_value value more rest same size =
        sym (drop-drop more (at + 1) text) ∙ ap (drop more) same ∙ ap (λ n. drop n (spelling types value ++ rest)) size
        ∙ drop-append_seam (spelling types value) rest

    value_front : (value : Value) (rest : List ℕ) → drop (at + 1) text ≡ spelling types value ++ rest → text ≡ item_text ports types (record { port = place; value = value }) ++ rest
    value_front value rest same =
        let name : port_name ports place ≡ take at text = ap (λ p. option_map_or (λ field. field.name) p []) at_place ∙ named in
        cut.whole ∙ ap (λ tail. take at text ++ 32 ∷ tail) same
        ∙ sym (append_assoc (take at text) (32 ∷ spelling types value) rest)
        ∙ ap (λ front. (front ++ 32 ∷ spelling types value) ++ rest) (sym name)

    -- an item
    pub some_item : (value : Value) (more : ℕ) → HasType types value port.ty → (begins : Begins (spelling types value) behind) → more ≡ length (spelling types value) →
        ((other : Value) → HasType types other port.ty → Begins (spelling types other) behind → other ≡ value) →
        Reads (IsItem ports types) (item_text ports types) NoWord text (Some (record { port = place; value = value }, (at + 1) + more))
    some_item value more typed begins size only = record {
      stands = record {
        is = record { port = port; at = at_place; typed = typed };
        front = value_front value begins.rest (sym is_behind ∙ begins.front)
            ∙ ap (λ tail. item_text ports types (record { port = place; value = value }) ++ tail) (sym (behind_value value more begins.rest (sym is_behind ∙ begins.front) size));
        within = omega (arith, length-drop (at + 1) text, ap length (sym is_behind ∙ begins.front), length-append (spelling types value) begins.rest, cut.within);
      };
      only = λ item rest is word same.
          let value_one : item.value ≡ value = only item.value (its_type item rest is same) (its_value item rest is word same) in
          let port_one : place ≡ item.port = its_place item rest is same in
          let with_parts : ℕ → Value → Item = λ n v. record { port = n; value = v } in
          (ap (λ n. with_parts n value) port_one ∙ ap (with_parts item.port) (sym value_one), behind_value value more rest ((item_parts ports types lawful text at cut item rest is same).1 ∙ ap (λ v. spelling types v ++ rest) value_one) size);
    }

-- a port that was read at a place
pub port_read : (read ports : List Field) (place : ℕ) (port : Field) → read ≡ ports → port ≡ get_or read place port → port ≡ get_or ports place port
port_read read ports place port same is = is ∙ ap (λ list. get_or list place port) same

-- all of a text from a place on
pub rest_from : (place : ℕ) (text : List ℕ) → take (length text - place) (drop place text) ≡ drop place text
rest_from place text = take_all (length text - place) (drop place text) (omega (arith, length-drop place text))
