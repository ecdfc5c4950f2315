-- Types that are the same, and what lists and options of a type hold.
use Rattle.std.proofs.Common.{◌≡◌, ℕ, Bool, true, false, if◌then◌else◌, Result, Ok, Err, refl, sym, ◌∙◌, ap, subst, eqb-true}
use Rattle.dsde_language.specs.given.values.types_Ty.{Ty, Ty-F, out-Ty, roll-Ty, fold-roll-Ty, map-Ty, ind-Ty}
use Rattle.dsde_language.specs.given.values.types_Ty_TheOpen as layer
use Rattle.dsde_language.specs.given.values.types_Ty_TheVariants as ty
use Rattle.dsde_language.specs.given.values.types_Ty_TheViews.{roll-out-Ty, rolls-List, rolls-Opt, outs-List, outs-Opt}
use Rattle.dsde_language.specs.declared.seen.Seen.{Seen}
use Rattle.dsde_language.specs.declared.wrong.Wrong.{Wrong}
use Rattle.dsde_language.specs.declared.wrong.WrongKind.TheVariants.{WrongType}
use Rattle.dsde_language.specs.Steps.{wrong}
use Rattle.dsde_language.specs.Types.{same, same_step, wanted, item_type, held_type}
use Rattle.dsde_language.specs.Typing.{item_in, held_in}

-- a type beside the claim that what is the same as it equals it
abbrev S : Type 0
S = (t : Ty) × ((u : Ty) → same t u ≡ true → t ≡ u)

same-roll : (x : Ty-F Ty) (u : Ty) → same (roll-Ty x) u ≡ same_step (map-Ty Ty (Ty → Bool) same x) (out-Ty u)
unfolding same
same-roll x u = ap (λ (g : Ty → Bool). g u) (fold-roll-Ty (Ty → Bool) (λ parts own. same_step parts (out-Ty own)) x)

abbrev plain : Ty-F S → Ty-F Ty
plain x = map-Ty S Ty (λ e. e.0) x

same-layer : (x : Ty-F S) (u : Ty-F Ty) → same_step (map-Ty S (Ty → Bool) (λ e. same e.0) x) u ≡ true → roll-Ty (plain x) ≡ roll-Ty u
same-layer layer.Int layer.Int h = refl
same-layer layer.Int layer.Bool h = cc
same-layer layer.Int (layer.Enum number) h = cc
same-layer layer.Int (layer.Rec number) h = cc
same-layer layer.Int (layer.List inner) h = cc
same-layer layer.Int (layer.Opt inner) h = cc
same-layer layer.Bool layer.Int h = cc
same-layer layer.Bool layer.Bool h = refl
same-layer layer.Bool (layer.Enum number) h = cc
same-layer layer.Bool (layer.Rec number) h = cc
same-layer layer.Bool (layer.List inner) h = cc
same-layer layer.Bool (layer.Opt inner) h = cc
same-layer (layer.Enum one) layer.Int h = cc
same-layer (layer.Enum one) layer.Bool h = cc
same-layer (layer.Enum one) (layer.Enum number) h = ap (λ (n : ℕ). roll-Ty (layer.Enum n)) (eqb-true one number h)
same-layer (layer.Enum one) (layer.Rec number) h = cc
same-layer (layer.Enum one) (layer.List inner) h = cc
same-layer (layer.Enum one) (layer.Opt inner) h = cc
same-layer (layer.Rec one) layer.Int h = cc
same-layer (layer.Rec one) layer.Bool h = cc
same-layer (layer.Rec one) (layer.Enum number) h = cc
same-layer (layer.Rec one) (layer.Rec number) h = ap (λ (n : ℕ). roll-Ty (layer.Rec n)) (eqb-true one number h)
same-layer (layer.Rec one) (layer.List inner) h = cc
same-layer (layer.Rec one) (layer.Opt inner) h = cc
same-layer (layer.List e) layer.Int h = cc
same-layer (layer.List e) layer.Bool h = cc
same-layer (layer.List e) (layer.Enum number) h = cc
same-layer (layer.List e) (layer.Rec number) h = cc
same-layer (layer.List e) (layer.List inner) h = ap (λ (t : Ty). roll-Ty (layer.List t)) (e.1 inner h)
same-layer (layer.List e) (layer.Opt inner) h = cc
same-layer (layer.Opt e) layer.Int h = cc
same-layer (layer.Opt e) layer.Bool h = cc
same-layer (layer.Opt e) (layer.Enum number) h = cc
same-layer (layer.Opt e) (layer.Rec number) h = cc
same-layer (layer.Opt e) (layer.List inner) h = cc
same-layer (layer.Opt e) (layer.Opt inner) h = ap (λ (t : Ty). roll-Ty (layer.Opt t)) (e.1 inner h)

same-case : (y : Ty-F S) (u : Ty) → same (roll-Ty (plain y)) u ≡ true → roll-Ty (plain y) ≡ u
same-case layer.Int u h = same-layer layer.Int (out-Ty u) (sym (same-roll layer.Int u) ∙ h) ∙ roll-out-Ty u
same-case layer.Bool u h = same-layer layer.Bool (out-Ty u) (sym (same-roll layer.Bool u) ∙ h) ∙ roll-out-Ty u
same-case (layer.Enum number) u h = same-layer (layer.Enum number) (out-Ty u) (sym (same-roll (layer.Enum number) u) ∙ h) ∙ roll-out-Ty u
same-case (layer.Rec number) u h = same-layer (layer.Rec number) (out-Ty u) (sym (same-roll (layer.Rec number) u) ∙ h) ∙ roll-out-Ty u
same-case (layer.List e) u h = same-layer (layer.List e) (out-Ty u) (sym (same-roll (layer.List e.0) u) ∙ h) ∙ roll-out-Ty u
same-case (layer.Opt e) u h = same-layer (layer.Opt e) (out-Ty u) (sym (same-roll (layer.Opt e.0) u) ∙ h) ∙ roll-out-Ty u

-- Types that are the same are equal.
pub same-true : (a b : Ty) → same a b ≡ true → a ≡ b
same-true = ind-Ty (λ (t : Ty). (u : Ty) → same t u ≡ true → t ≡ u)
    (λ x y is. subst (λ (z : Ty-F Ty). (u : Ty) → same (roll-Ty z) u ≡ true → roll-Ty z ≡ u) is (same-case y))

if-same : (b : Bool) (w : Wrong) (u : Unit {0}) → if◌then◌else◌ {A = Result (Unit {0}) Wrong} b (Ok tt) (Err w) ≡ Ok u → b ≡ true
if-same true w u h = refl
if-same false w u h = cc

-- The wanted type is the one that was seen.
pub wanted-is : (t : Ty) (seen : Seen) (u : Unit {0}) → wanted t seen ≡ Ok u → t ≡ seen.ty
wanted-is t seen u h = same-true t seen.ty (if-same (same t seen.ty) (record { kind = WrongType; at = seen.at }) u h)

abbrev item_of : Seen → Ty-F Ty → Result Ty Wrong
item_of seen u = elim u [ layer.List inner ↦ Ok inner | _ ↦ wrong WrongType seen.at ]

item-layer : (seen : Seen) (u : Ty-F Ty) (item : Ty) → item_of seen u ≡ Ok item → u ≡ layer.List item
item-layer seen layer.Int item h = cc
item-layer seen layer.Bool item h = cc
item-layer seen (layer.Enum number) item h = cc
item-layer seen (layer.Rec number) item h = cc
item-layer seen (layer.Opt inner) item h = cc
item-layer seen (layer.List inner) item h = let e : inner ≡ item = cc h in ap (λ (t : Ty). layer.List t) e

pub item-is : (seen : Seen) (item : Ty) → item_type seen ≡ Ok item → seen.ty ≡ ty.List item
item-is seen item h =
    sym (roll-out-Ty seen.ty) ∙ ap (λ (u : Ty-F Ty). roll-Ty u) (item-layer seen (out-Ty seen.ty) item h) ∙ rolls-List item

abbrev held_of : Seen → Ty-F Ty → Result Ty Wrong
held_of seen u = elim u [ layer.Opt inner ↦ Ok inner | _ ↦ wrong WrongType seen.at ]

held-layer : (seen : Seen) (u : Ty-F Ty) (item : Ty) → held_of seen u ≡ Ok item → u ≡ layer.Opt item
held-layer seen layer.Int item h = cc
held-layer seen layer.Bool item h = cc
held-layer seen (layer.Enum number) item h = cc
held-layer seen (layer.Rec number) item h = cc
held-layer seen (layer.List inner) item h = cc
held-layer seen (layer.Opt inner) item h = let e : inner ≡ item = cc h in ap (λ (t : Ty). layer.Opt t) e

pub held-is : (seen : Seen) (item : Ty) → held_type seen ≡ Ok item → seen.ty ≡ ty.Opt item
held-is seen item h =
    sym (roll-out-Ty seen.ty) ∙ ap (λ (u : Ty-F Ty). roll-Ty u) (held-layer seen (out-Ty seen.ty) item h) ∙ rolls-Opt item

-- what the definitions of code give for the items of a list and for what an option holds
pub item-in-list : (t : Ty) → item_in (ty.List t) ≡ t
item-in-list t = ap (λ (u : Ty-F Ty). elim u [ layer.List inner ↦ inner | _ ↦ ty.Int ]) (outs-List t)

pub held-in-opt : (t : Ty) → held_in (ty.Opt t) ≡ t
held-in-opt t = ap (λ (u : Ty-F Ty). elim u [ layer.Opt inner ↦ inner | _ ↦ ty.Int ]) (outs-Opt t)
