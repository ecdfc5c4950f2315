-- JSON values that are read of their texts.
use Rattle.std.proofs.Common.{◌≡◌, ℕ, suc, ◌^◌, ◌<◌, ◌≤◌, Bool, true, false, List, [], ◌∷◌, ◌++◌, Option, Some, refl, sym, ap, ◌∙◌, arith, append-nil}
use Rattle.std.specs.Prelude.{IsUtf8, option_map, option_and_then}
use Rattle.std.proofs.lemmas.Fmt.{IsAscii-decimal}
use Rattle.std.proofs.lemmas.Str.{IsUtf8-append, IsUtf8-from_ascii}
use Rattle.json.specs.Json as json
use Rattle.json.specs.Lex.{tokens}
use Rattle.json.specs.Print.{quoted}
use Rattle.json.specs.Token.{Token}
use Rattle.json.specs.Tree as tree
use Rattle.json.proofs.Printed.Decimals.{IsNumber-decimal}
use Rattle.json.proofs.Printed.Tokens.{tokens-print}
use Rattle.json.proofs.Printed.Trees.{ArePrintable-json_tokens, value-json_tokens}
use Rattle.json.proofs.Printed.Utf8.{IsUtf8-are_ascii, IsUtf8-quoted}
use Rattle.serde_json.specs.Data.{Data, null, string, number, array, object, unsigned, Items, no_items, item, Members, no_members, member, put}
use Rattle.serde_json.specs.Read.{max_depth, of_items, of_json, of_members}
use Rattle.serde_json.specs.Written.{comma_if, compact_text, items_outline, items_text, members_outline, members_text, outline}
use Rattle.serde_json.proofs.Numbers.{number_of-decimal}
use Rattle.serde_json.proofs.Texts.{print-outline}
use Rattle.dsde_image.specs.Text.{IsReading}

-- A value that nests at most so deep, and is read of its text.
pub record IsSaid (most : ℕ) (seen : Data) : Type 0 where
  pub again : of_json (outline seen) ≡ Some seen
  pub numbers : tree.HasNumbers (outline seen)
  pub shallow : tree.depth (outline seen) ≤ most
  pub utf8 : IsUtf8 (compact_text seen)

pub said-null : (most : ℕ) → IsSaid most null
said-null most = record { again = refl; numbers = tt; shallow = omega arith; utf8 = IsUtf8-are_ascii (compact_text null) refl }

pub said-string : (most : ℕ) (text : List ℕ) → IsUtf8 text → IsSaid most (string text)
said-string most text utf8 = record { again = refl; numbers = tt; shallow = omega arith; utf8 = IsUtf8-quoted text utf8 }

pub said-number : (most whole : ℕ) → whole < 2 ^ 64 → IsSaid most (number (unsigned whole))
said-number most whole small = record {
  again = ap (option_map number) (number_of-decimal whole small);
  numbers = IsNumber-decimal whole small;
  shallow = omega arith;
  utf8 = IsUtf8-from_ascii (compact_text (number (unsigned whole))) (IsAscii-decimal whole small);
}

comma-utf8 : (later : Bool) → IsUtf8 (comma_if later)
comma-utf8 true = IsUtf8-are_ascii (44 ∷ []) refl
comma-utf8 false = IsUtf8-are_ascii [] refl

-- ---- lists

abbrev pub AreSaid : ℕ → Items → Type 0
AreSaid most no_items = Unit {0}
AreSaid most (item seen items) = IsSaid most seen × AreSaid most items

items-again : (most : ℕ) (items : Items) → AreSaid most items → of_items (items_outline items) ≡ Some items
items-again most no_items all = refl
items-again most (item seen items) all =
    ap (option_and_then (λ (own : Data). option_map (item own) (of_items (items_outline items)))) all.0.again ∙ ap (option_map (item seen)) (items-again most items all.1)

items-numbers : (most : ℕ) (items : Items) → AreSaid most items → tree.ItemsHaveNumbers (items_outline items)
items-numbers most no_items all = tt
items-numbers most (item seen items) all = (all.0.numbers, items-numbers most items all.1)

items-shallow : (most : ℕ) (items : Items) → AreSaid most items → tree.items_depth (items_outline items) ≤ most
items-shallow most no_items all = omega arith
items-shallow most (item seen items) all = omega (arith, all.0.shallow, items-shallow most items all.1)

items-utf8 : (most : ℕ) (later : Bool) (items : Items) → AreSaid most items → IsUtf8 (items_text later items)
items-utf8 most later no_items all = IsUtf8-are_ascii (93 ∷ []) refl
items-utf8 most later (item seen items) all =
    IsUtf8-append (comma_if later) (compact_text seen ++ items_text true items) (comma-utf8 later) (IsUtf8-append (compact_text seen) (items_text true items) all.0.utf8 (items-utf8 most true items all.1))

pub said-array : (most : ℕ) (items : Items) → AreSaid most items → IsSaid (suc most) (array items)
said-array most items all = record {
  again = ap (option_map array) (items-again most items all);
  numbers = items-numbers most items all;
  shallow = omega (arith, items-shallow most items all);
  utf8 = IsUtf8-append (91 ∷ []) (items_text false items) (IsUtf8-are_ascii (91 ∷ []) refl) (items-utf8 most false items all);
}

-- ---- members

abbrev pub AreHeld : ℕ → Members → Type 0
AreHeld most no_members = Unit {0}
AreHeld most (member key seen members) = IsUtf8 key × IsSaid most seen × AreHeld most members

-- members, put one after the other into those that are found
abbrev pub puts : Members → Members → Members
puts no_members found = found
puts (member key seen members) found = puts members (put key seen found)

members-again : (most : ℕ) (members found : Members) → AreHeld most members → of_members (members_outline members) found ≡ Some (puts members found)
members-again most no_members found all = refl
members-again most (member key seen members) found all =
    ap (option_and_then (λ (own : Data). of_members (members_outline members) (put key own found))) all.1.again ∙ members-again most members (put key seen found) all.2

members-numbers : (most : ℕ) (members : Members) → AreHeld most members → tree.MembersHaveNumbers (members_outline members)
members-numbers most no_members all = tt
members-numbers most (member key seen members) all = (all.1.numbers, members-numbers most members all.2)

members-shallow : (most : ℕ) (members : Members) → AreHeld most members → tree.members_depth (members_outline members) ≤ most
members-shallow most no_members all = omega arith
members-shallow most (member key seen members) all = omega (arith, all.1.shallow, members-shallow most members all.2)

members-utf8 : (most : ℕ) (later : Bool) (members : Members) → AreHeld most members → IsUtf8 (members_text later members)
members-utf8 most later no_members all = IsUtf8-are_ascii (125 ∷ []) refl
members-utf8 most later (member key seen members) all =
    IsUtf8-append (comma_if later) (quoted key ++ 58 ∷ (compact_text seen ++ members_text true members)) (comma-utf8 later)
    (IsUtf8-append (quoted key) (58 ∷ (compact_text seen ++ members_text true members)) (IsUtf8-quoted key all.0)
    (IsUtf8-append (58 ∷ []) (compact_text seen ++ members_text true members) (IsUtf8-are_ascii (58 ∷ []) refl)
    (IsUtf8-append (compact_text seen) (members_text true members) all.1.utf8 (members-utf8 most true members all.2))))

-- an object whose members are in the order of their keys
pub said-object : (most : ℕ) (members : Members) → AreHeld most members → puts members no_members ≡ members → IsSaid (suc most) (object members)
said-object most members all ordered = record {
  again = ap (option_map object) (members-again most members no_members all ∙ ap (λ (own : Members). let found : Option Members = Some own in found) ordered);
  numbers = members-numbers most members all;
  shallow = omega (arith, members-shallow most members all);
  utf8 = IsUtf8-append (123 ∷ []) (members_text false members) (IsUtf8-are_ascii (123 ∷ []) refl) (members-utf8 most false members all);
}

-- ---- and their texts

abbrev last_of : Option (json.Json × List Token) → Option Data
last_of found = option_and_then of_json (option_and_then (λ (p : json.Json × List Token). json.if_last p.0 p.1) found)

pub read-said : (most : ℕ) (seen : Data) → most ≤ 127 → IsSaid most seen → IsReading (compact_text seen) seen
read-said most seen within said =
    let own = outline seen in
    let found : tokens (compact_text seen) ≡ tree.json_tokens own ++ [] =
    ap tokens (sym (print-outline seen)) ∙ tokens-print (tree.json_tokens own) (ArePrintable-json_tokens own said.numbers) ∙ sym (append-nil (tree.json_tokens own)) in
    let shallow : tree.depth own ≤ 127 = omega (arith, said.shallow, within) in
    record {
      utf8 = said.utf8;
      says =
          ap (λ (all : List Token). last_of (json.value max_depth all)) found
          ∙ ap last_of (value-json_tokens own max_depth [] shallow)
          ∙ said.again;
    }
