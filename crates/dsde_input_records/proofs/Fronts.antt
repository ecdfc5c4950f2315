-- What is read at the front of bytes, from where it stands and back.
use Rattle.std.proofs.Common.{◌≡◌, ◌≢◌, ℕ, ◌==◌, Bool, true, false, cond, List, [], ◌∷◌, ◌++◌, length, take, drop, refl, sym, ◌∙◌, ap}
use Rattle.std.specs.Prelude.{Option, Some, None, option_and_then}
use Rattle.std.specs.Option.{option_map}
use Rattle.std.specs.List.{take_while, list_all}
use Rattle.std.proofs.Math.Seq.{drop-append_seam}
use Rattle.std.proofs.lemmas.List.{take-append-drop}
use Rattle.std.proofs.lemmas.List.Folds.{length-prefix_len}
use borrow.Author.Tests.{eqb-true, eq-eqb}
use Rattle.dsde_values.specs.given.words.Words.{is_word_byte, begins_word}
use Rattle.dsde_values.proofs.Fronts.{word_all, word_end}
use Rattle.dsde_values.proofs.Names.{take_while-word}
use Rattle.dsde_input_records.specs.Reading.{Read, made, followed_by, behind, closed, meant}

-- the parts of what was read, or these
fst_or : {X : Type 0} → Read X → X → X
fst_or None other = other
fst_or (Some parts) other = parts.0

snd_or : {X : Type 0} → Read X → List ℕ → List ℕ
snd_or None other = other
snd_or (Some parts) other = parts.1

-- Two things that were read are one.
pub same_read : {X : Type 0} (x y : X) (left rest : List ℕ) → (let found : Read X = Some (x, left) in found) ≡ Some (y, rest) → (x ≡ y) × (left ≡ rest)
unfolding fst_or snd_or
same_read x y left rest is = (ap (λ found. fst_or found x) is, ap (λ found. snd_or found left) is)

-- what an answer was made of
pub mapped : {X Y : Type 0} (f : X → Y) (found : Option X) (y : Y) → option_map f found ≡ Some y → (x : X) × (found ≡ Some x) × (f x ≡ y)
mapped f None y is = absurd (cc)
mapped f (Some x) y is = (x, refl, cc)

pub followed : {X Y : Type 0} (f : X → Option Y) (found : Option X) (y : Y) → option_and_then f found ≡ Some y → (x : X) × (found ≡ Some x) × (f x ≡ Some y)
followed f None y is = absurd (cc)
followed f (Some x) y is = (x, refl, is)

pub made_of : {X Y : Type 0} (f : X → Y) (found : Read X) (y : Y) (rest : List ℕ) → made f found ≡ Some (y, rest) → (x : X) × (found ≡ Some (x, rest)) × (f x ≡ y)
unfolding fst_or snd_or
made_of f None y rest is = absurd (cc)
made_of f (Some (x, left)) y rest is =
    let same : left ≡ rest = ap (λ parts. snd_or parts rest) is in
    (x, ap (λ tail. Some (x, tail)) same, ap (λ parts. fst_or parts y) is)

pub next_of : {X Y : Type 0} (found : Read X) (next : X → List ℕ → Option Y) (y : Y) → followed_by found next ≡ Some y → (x : X) × (rest : List ℕ) × (found ≡ Some (x, rest)) × (next x rest ≡ Some y)
next_of None next y is = absurd (cc)
next_of (Some (x, left)) next y is = (x, left, refl, is)

-- the bytes behind a text that stands at the front
step_behind : (same : Bool) (byte first : ℕ) (text bytes rest : List ℕ) → (first == byte) ≡ same → (behind text bytes ≡ Some rest → bytes ≡ text ++ rest) → cond same (behind text bytes) None ≡ Some rest → first ∷ bytes ≡ byte ∷ (text ++ rest)
step_behind true byte first text bytes rest one later is =
    let head : first ≡ byte = eqb-true first byte one in
    let tail : bytes ≡ text ++ rest = later is in cc
step_behind false byte first text bytes rest one later is = absurd (cc)

pub behind-front : (text bytes rest : List ℕ) → behind text bytes ≡ Some rest → bytes ≡ text ++ rest
behind-front [] bytes rest is = cc
behind-front (byte ∷ text) [] rest is = absurd (cc)
behind-front (byte ∷ text) (first ∷ bytes) rest is =
    step_behind (first == byte) byte first text bytes rest refl (behind-front text bytes rest) is

pub behind-text : (text rest : List ℕ) → behind text (text ++ rest) ≡ Some rest
behind-text [] rest = refl
behind-text (byte ∷ text) rest = rw (eq-eqb byte byte refl) (behind-text text rest)

none_or : {X : Type 0} (found : Option X) → ((x : X) → found ≡ Some x → ⊥) → found ≡ None
none_or None never = refl
none_or (Some x) never = absurd (never x refl)

-- Nothing is behind a text that does not stand there.
pub behind-none : (text bytes : List ℕ) → ((rest : List ℕ) → bytes ≢ text ++ rest) → behind text bytes ≡ None
behind-none text bytes never = none_or (behind text bytes) (λ rest is. never rest (behind-front text bytes rest is))

pub behind-at : (text bytes rest : List ℕ) → bytes ≡ text ++ rest → behind text bytes ≡ Some rest
behind-at text bytes rest same = ap (behind text) same ∙ behind-text text rest

pub closed-front : {X : Type 0} (text : List ℕ) (thing : X) (bytes : List ℕ) (other : X) (rest : List ℕ) → closed text thing bytes ≡ Some (other, rest) → (thing ≡ other) × (bytes ≡ text ++ rest)
closed-front text thing bytes other rest is =
    let p = mapped (λ left. (thing, left)) (behind text bytes) (other, rest) is in
    let same : p.0 ≡ rest = ap (λ parts. parts.1) p.2 in
    (ap (λ parts. parts.0) p.2, behind-front text bytes rest (p.1 ∙ ap Some same))

pub closed-text : {X : Type 0} (text : List ℕ) (thing : X) (rest : List ℕ) → closed text thing (text ++ rest) ≡ Some (thing, rest)
closed-text text thing rest = ap (option_map (λ left. (thing, left))) (behind-text text rest)

-- the word at the front, and what it means
pub record Meant {X : Type 0} (means : List ℕ → Option X) (bytes : List ℕ) (thing : X) (rest : List ℕ) : Type 0 where
  pub word : List ℕ
  pub front : bytes ≡ word ++ rest
  pub all : list_all is_word_byte word ≡ true
  pub end : begins_word rest ≡ false
  pub thing_is : means word ≡ Some thing

pub meant-front : {X : Type 0} (means : List ℕ → Option X) (bytes : List ℕ) (thing : X) (rest : List ℕ) → meant means bytes ≡ Some (thing, rest) → Meant means bytes thing rest
meant-front means bytes thing rest is =
    let word = take_while is_word_byte bytes in
    let p = mapped (λ x. (x, drop (length word) bytes)) (means word) (thing, rest) is in
    let left : drop (length word) bytes ≡ rest = ap (λ parts. parts.1) p.2 in
    let same : p.0 ≡ thing = ap (λ parts. parts.0) p.2 in
    let cut : take (length word) bytes ≡ word = word_cut bytes in
    record {
      word = word;
      front = sym (take-append-drop (length word) bytes) ∙ ap (λ front. front ++ drop (length word) bytes) cut ∙ ap (λ tail. word ++ tail) left;
      all = word_all bytes word (length word) refl (sym cut);
      end = word_end bytes rest (length word) refl (sym left);
      thing_is = p.1 ∙ ap Some same;
    }
  where
    word_cut : (bytes : List ℕ) → take (length (take_while is_word_byte bytes)) bytes ≡ take_while is_word_byte bytes
    word_cut bytes = ap (λ n. take n bytes) (length-prefix_len is_word_byte bytes)

pub meant-text : {X : Type 0} (means : List ℕ → Option X) (word rest : List ℕ) (thing : X) → list_all is_word_byte word ≡ true → begins_word rest ≡ false → means word ≡ Some thing → meant means (word ++ rest) ≡ Some (thing, rest)
meant-text means word rest thing all end is =
    rw (take_while-word word rest all end, is, drop-append_seam word rest) refl
