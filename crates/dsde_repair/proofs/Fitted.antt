-- What holds of a whole wiring, by what was found of its parts.
use Rattle.std.proofs.Common.{◌≡◌, Bool, true, false, if◌then◌else◌, List, [], ◌∷◌, ◌++◌, Some, None, Option, Result, Ok, Err, IfOk, MatchOption, append_assoc, append-nil, sym, ap, ap₂, ◌∙◌, subst, refl}
use Rattle.std.specs.Bool.{OnTrue}
use Rattle.std.specs.List.{AllByRecursion, flat_map}
use Rattle.dsde_bank.specs.declared.handle.Handle.{Handle}
use Rattle.dsde_values.specs.declared.name.Name.{Name}
use Rattle.dsde_routes_wiring.specs.given.structure.Survival.{AreInOrder}
use Rattle.dsde_routes_wiring.specs.declared.wiring.WiredKid.{WiredKid}
use Rattle.dsde_routes_wiring.specs.declared.wiring.Wiring.{Wiring}
use Rattle.dsde_routes_wiring.specs.declared.wiring.WiredKid.TheViews.{out-Wiring, out-WiredKid, roll-out-Wiring}
use Rattle.dsde_routes_wiring.specs.Opened.{Beneath}
use Rattle.dsde_routes_wiring.specs.Places.{below_at, nets_at, kid_at}
use Rattle.dsde_routes_wiring.specs.Touched.{handles_of, handles_of_kid}
use Rattle.dsde_routes_wiring.specs.Wired.{AreWired, IsWired, LeadsInside}
use Rattle.dsde_repair_walks.proofs.Handles.{handles-is, below_known, kid-handles}
use Rattle.dsde_repair_walks.proofs.Shapes.{net-of}
use Rattle.dsde_repair_walks.specs.Found.{IsAt, IsOne, InOrder, is_named}
use Rattle.dsde_repair_walks.specs.Places.{BelowWired, IsBelowWired}
use Rattle.dsde_repair_walks.proofs.Finding.{names-of, some-one, kid-at}

pub if-ok : {X E : Type 0} (result : Result X E) (P Q : X → Type 0) → ((x : X) → P x → Q x) → IfOk result P → IfOk result Q
if-ok (Ok x) P Q gives holds = gives x holds
if-ok (Err end) P Q gives holds = tt

pub on-true : (b : Bool) (P Q : Type 0) → (P → Q) → OnTrue b P → OnTrue b Q
on-true true P Q gives holds = gives holds
on-true false P Q gives holds = tt

below-each : (below : Option Wiring) → BelowWired below → Beneath AreWired below
below-each None wired = tt
below-each (Some net) wired = wired

kids-each : (kids : List WiredKid) → AllByRecursion IsBelowWired kids → AllByRecursion (λ kid. Beneath AreWired (out-WiredKid kid).below) kids
kids-each [] each = tt
kids-each (kid ∷ kids) each = (below-each (out-WiredKid kid).below each.0, kids-each kids each.1)

pub whole-wired : (net : Wiring) → InOrder (out-Wiring net).kids → AllByRecursion LeadsInside (out-Wiring net).links → AllByRecursion IsBelowWired (out-Wiring net).kids → AreWired net
whole-wired net order links below =
    subst AreWired (roll-out-Wiring net)
    (net-of IsWired (out-Wiring net) (subst AreInOrder (sym (names-of (out-Wiring net).kids)) order, links) (kids-each (out-Wiring net).kids below))

-- the handles of a network, of components behind others, of one of them
pub net-handles : (first : List Handle) (net : Wiring) → ((first ++ (out-Wiring net).me ∷ []) ++ (out-Wiring net).boss ∷ []) ++ flat_map handles_of_kid (out-Wiring net).kids ≡ first ++ handles_of net
net-handles first net =
    append_assoc (first ++ (out-Wiring net).me ∷ []) ((out-Wiring net).boss ∷ []) (flat_map handles_of_kid (out-Wiring net).kids)
    ∙ append_assoc first ((out-Wiring net).me ∷ []) ((out-Wiring net).boss ∷ flat_map handles_of_kid (out-Wiring net).kids)
    ∙ ap (λ own. first ++ own) (sym (handles-is net))

pub leaf-handles : (kid : WiredKid) → (out-WiredKid kid).below ≡ None → handles_of_kid kid ≡ (out-WiredKid kid).handle ∷ []
leaf-handles kid is = kid-handles kid ∙ ap (below_known (out-WiredKid kid).handle) is

pub below-handles : (kid : WiredKid) (net : Wiring) → (out-WiredKid kid).below ≡ Some net → handles_of_kid kid ≡ handles_of net
below-handles kid net is = kid-handles kid ∙ ap (below_known (out-WiredKid kid).handle) is

pub match-option : {X : Type 0} (found : Option X) (N M : Type 0) (P Q : X → Type 0) → (N → M) → ((x : X) → P x → Q x) → MatchOption found N P → MatchOption found M Q
match-option None N M P Q none some holds = none holds
match-option (Some x) N M P Q none some holds = some x holds

-- the network at a place, by the component that leads there
module _ (name : Name) (place : List Name) where
  abbrev at : WiredKid → List Wiring
  at = kid_at name (nets_at place)

  abbrev Other : WiredKid → Type 0
  Other kid = is_named name kid ≡ false

  nets-other : (kid : WiredKid) → Other kid → at kid ≡ []
  nets-other kid other = ap (λ (b : Bool). if b then below_at (nets_at place) (out-WiredKid kid).below else []) other

  nets-named : (kid : WiredKid) → is_named name kid ≡ true → at kid ≡ below_at (nets_at place) (out-WiredKid kid).below
  nets-named kid named = ap (λ (b : Bool). if b then below_at (nets_at place) (out-WiredKid kid).below else []) named

  nets-none : (kids : List WiredKid) → AllByRecursion Other kids → flat_map at kids ≡ []
  nets-none [] none = refl
  nets-none (kid ∷ kids) none = ap₂ (λ (xs ys : List Wiring). xs ++ ys) (nets-other kid none.0) (nets-none kids none.1)

  nets-middle : (before : List WiredKid) (kid : WiredKid) (after : List WiredKid) → AllByRecursion Other before → is_named name kid ≡ true → AllByRecursion Other after →
      flat_map at (before ++ kid ∷ after) ≡ below_at (nets_at place) (out-WiredKid kid).below
  nets-middle [] kid after none named later = ap₂ (λ (xs ys : List Wiring). xs ++ ys) (nets-named kid named) (nets-none after later) ∙ append-nil (below_at (nets_at place) (out-WiredKid kid).below)
  nets-middle (own ∷ before) kid after none named later = ap₂ (λ (xs ys : List Wiring). xs ++ ys) (nets-other own none.0) (nets-middle before kid after none.1 named later)

-- where no component has the name the place leads nowhere
pub nets-missing : (place rest : List Name) (name : Name) → place ≡ name ∷ rest → (wiring : Wiring) → AllByRecursion (λ kid. is_named name kid ≡ false) (out-Wiring wiring).kids → nets_at place wiring ≡ []
nets-missing place rest name is wiring none = ap (λ own. nets_at own wiring) is ∙ nets-none name rest (out-Wiring wiring).kids none

-- else it leads on beneath the one that has it
pub nets-found : (place rest : List Name) (name : Name) → place ≡ name ∷ rest → (wiring : Wiring) (kid : WiredKid) → IsOne name (out-Wiring wiring).kids kid → nets_at place wiring ≡ below_at (nets_at rest) (out-WiredKid kid).below
nets-found place rest name is wiring kid one =
    let at : IsAt name (out-Wiring wiring).kids one.0 = one.1 in
    let same : at.kid ≡ kid = some-one at.kid kid (sym (kid-at name (out-Wiring wiring).kids one.0 at) ∙ one.2) in
    ap (λ own. nets_at own wiring) is ∙ ap (flat_map (kid_at name (nets_at rest))) at.is ∙ nets-middle name rest at.before at.kid at.after at.none_before at.named at.none_after
    ∙ ap (λ (own : WiredKid). below_at (nets_at rest) (out-WiredKid own).below) same
