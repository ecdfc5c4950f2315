-- What one more link adds.
use Rattle.std.proofs.Common.{◌≡◌, ℕ, zero, suc, ◌+◌, ◌<◌, ◌==◌, ◌&&◌, Bool, true, false, cond, List, [], ◌∷◌, ◌++◌, map, Option, Some, None, Result, Ok, Err, IfOk, OnOk, slice_get, set, refl, sym, ◌∙◌, ap, append-nil, arith}
use Rattle.std.specs.List.{range_with_len}
use Rattle.std.proofs.lemmas.Bool.Decides.{nat_tests}
use Rattle.dsde_values.specs.declared.value.Value.{Value}
use Rattle.dsde_sim_tree.specs.given.structure.plan_End.{End}
use Rattle.dsde_sim_tree.specs.given.structure.plan_Link.{Link}
use Rattle.dsde_sim_tree.specs.given.structure.plan_Part.{Part}
use Rattle.dsde_sim_tree.specs.given.structure.sources_Sources.{Sources}
use Rattle.dsde_sim_tree.specs.given.structure.Gather.{Translation, is_part, is_end, carried, gather, gathered}
use Rattle.dsde_sim_gathering.specs.Boxes.{changed, added}

-- what a test lets come
abbrev when : Bool → List Value → List Value
when test values = cond test values []

apart : (n m : ℕ) → n < m → (n == m) ≡ false
apart n m below = grind (arith, nat_tests)

past : (n m : ℕ) → m < n → (n == m) ≡ false
past n m below = grind (arith, nat_tests)

here-is : (at first : ℕ) → at ≡ first → (at == first) ≡ true
here-is at first same = grind (arith, nat_tests)

module _ (f : ℕ → List Value) (values : List Value) where
  -- no port behind a later number is this one
  none-later : (at first many : ℕ) → at < first → map (λ port. f port ++ when (at == port) values) (range_with_len first many) ≡ map f (range_with_len first many)
  none-later at first zero below = refl
  none-later at first (suc many) below = rw (apart at first below, append-nil, none-later at (first + 1) many (omega arith)) refl

  -- one port takes them
  one-takes : (port first at many : ℕ) → port + first ≡ at →
      map (λ port. f port ++ when (at == port) values) (range_with_len first many) ≡ added port values (map f (range_with_len first many))
  one-takes port first at zero is = refl
  one-takes zero first at (suc many) is =
      let here : at ≡ first = omega arith in
      rw (here-is at first here, none-later at (first + 1) many (omega arith)) refl
  one-takes (suc port) first at (suc many) is =
      rw (past at first (omega arith), append-nil, one-takes port (first + 1) at many (omega arith)) refl

none-takes : (f : ℕ → List Value) (ports : List ℕ) → map (λ port. f port ++ []) ports ≡ map f ports
none-takes f [] = refl
none-takes f (port ∷ ports) = rw (append-nil, none-takes f ports) refl

module _ (translate : Translation) (sources : Sources) where
  -- what one link brings to an end
  brings : (link : Link) (end : End) (b : Bool) → is_end link.to end ≡ b → gather translate (link ∷ []) sources end ≡ when b (carried translate sources link)
  brings link end true is = rw is (append-nil (carried translate sources link))
  brings link end false is = rw is refl

  module _ (order : (first later : List Link) (end : End) → gather translate (first ++ later) sources end ≡ gather translate first sources end ++ gather translate later sources end) where
    one-more : (links : List Link) (link : Link) (end : End) → gather translate (links ++ link ∷ []) sources end ≡ gather translate links sources end ++ when (is_end link.to end) (carried translate sources link)
    one-more links link end =
        order links (link ∷ []) end
        ∙ ap (λ (l : List Value). gather translate links sources end ++ l) (brings link end (is_end link.to end) refl)

    port-by-port : (links : List Link) (link : Link) (part : Part) (many : ℕ) →
        gathered translate (links ++ link ∷ []) sources part many
        ≡ map (λ port. gather translate links sources (record { part = part; port = port }) ++ when (is_part link.to.part part && link.to.port == port) (carried translate sources link)) (range_with_len 0 many)
    port-by-port links link part many = λ i. map (λ port. one-more links link (record { part = part; port = port }) i) (range_with_len 0 many)

    -- a link to a part brings what it carries to its port there
    pub comes-here : (links : List Link) (link : Link) (part : Part) (many : ℕ) → is_part link.to.part part ≡ true →
        gathered translate (links ++ link ∷ []) sources part many ≡ added link.to.port (carried translate sources link) (gathered translate links sources part many)
    comes-here links link part many here =
        port-by-port links link part many
        ∙ ap (λ (b : Bool). map (λ port. gather translate links sources (record { part = part; port = port }) ++ when (b && link.to.port == port) (carried translate sources link)) (range_with_len 0 many)) here
        ∙ one-takes (λ port. gather translate links sources (record { part = part; port = port })) (carried translate sources link) link.to.port 0 link.to.port many (omega arith)

    -- a link to another part brings it nothing
    pub comes-elsewhere : (links : List Link) (link : Link) (part : Part) (many : ℕ) → is_part link.to.part part ≡ false →
        gathered translate (links ++ link ∷ []) sources part many ≡ gathered translate links sources part many
    comes-elsewhere links link part many elsewhere =
        port-by-port links link part many
        ∙ ap (λ (b : Bool). map (λ port. gather translate links sources (record { part = part; port = port }) ++ when (b && link.to.port == port) (carried translate sources link)) (range_with_len 0 many)) elsewhere
        ∙ none-takes (λ port. gather translate links sources (record { part = part; port = port })) (range_with_len 0 many)

    pub comes : (links : List Link) (link : Link) (part : Part) (many : ℕ) (b : Bool) → is_part link.to.part part ≡ b →
        gathered translate (links ++ link ∷ []) sources part many
        ≡ cond b (added link.to.port (carried translate sources link) (gathered translate links sources part many)) (gathered translate links sources part many)
    comes links link part many true is = comes-here links link part many is
    comes links link part many false is = comes-elsewhere links link part many is

-- The item at an index is written over by the changed one.
pub set-changed : {A : Type 0} (items : List A) (index : ℕ) (change : A → A) (old new : A) → slice_get items index ≡ Some old → new ≡ change old → set items index new ≡ changed index change items
set-changed [] index change old new found is = refl
set-changed (item ∷ items) zero change old new found is =
    let same : item ≡ old = (let e : (let r : Option _ = Some item in r) ≡ Some old = found in cc) in
    ap (λ x. x ∷ items) (is ∙ ap change (sym same))
set-changed (item ∷ items) (suc index) change old new found is = ap (λ xs. item ∷ xs) (set-changed items index change old new found is)

-- Where there is no item nothing is changed.
pub past-changed : {A : Type 0} (items : List A) (index : ℕ) (change : A → A) → slice_get items index ≡ None → changed index change items ≡ items
past-changed [] index change none = refl
past-changed (item ∷ items) zero change none = absurd (let e : (let r : Option _ = Some item in r) ≡ None = none in cc)
past-changed (item ∷ items) (suc index) change none = ap (λ xs. item ∷ xs) (past-changed items index change none)

-- the same where a call that may fail makes the new item
pub changed-on : {A E : Type 0} (result : Result (Unit {0}) E) (items : List A) (index : ℕ) (change : A → A) (old new : A) → slice_get items index ≡ Some old
    → OnOk result (new ≡ change old) → OnOk result (set items index new ≡ changed index change items)
changed-on (Ok done) items index change old new found is = set-changed items index change old new found is
changed-on (Err end) items index change old new found is = tt

pub if-ok : {A E : Type 0} (result : Result A E) (P Q : A → Type 0) → ((a : A) → P a → Q a) → IfOk result P → IfOk result Q
if-ok (Ok a) P Q then holds = then a holds
if-ok (Err end) P Q then holds = tt
