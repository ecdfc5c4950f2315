use Rattle.std.proofs.Common.{◌≡◌, List, [], ◌∷◌, ◌++◌, map, append_assoc, ap, sym, ◌∙◌, not, subst}
use Rattle.std.proofs.lemmas.Grind.{flat_map-append}
use Rattle.std.proofs.lemmas.List.{map-append}
use Rattle.std.proofs.lemmas.List.Elements.{filter-append}
use Rattle.std.specs.List.{AllByRecursion}
use Rattle.dsde_values.specs.declared.name.Name.{Name}
use Rattle.dsde_routes_wiring.specs.declared.wiring.WiredKid.{WiredKid}
use Rattle.dsde_routes_wiring.specs.Places.{going, has_name, inside, staying}
use Rattle.dsde_routes_wiring.specs.Routes.{inner_of_kid, row_of}
use Rattle.dsde_repair_walks.specs.Places.{IsBelowWired}
use Rattle.dsde_repair.proofs.parts.part.Goals as goal

joined : {X : Type 0} (items new front rest whole all : List X) → items ++ whole ≡ all → whole ≡ front ++ rest → new ≡ items ++ front → new ++ rest ≡ all
joined items new front rest whole all is more new_is = ap (λ list. list ++ rest) new_is ∙ append_assoc items front rest ∙ ap (λ list. items ++ list) (sym more) ∙ is

module _ (gone : List Name) (kid : WiredKid) (rest left : List WiredKid) (is : left ≡ kid ∷ rest) where
  staying-more : staying gone left ≡ staying gone (kid ∷ []) ++ staying gone rest
  staying-more = ap (staying gone) is ∙ filter-append (λ own. not (has_name gone own)) (kid ∷ []) rest

  rows-more : map row_of (inside (going gone left)) ≡ map row_of (inside (going gone (kid ∷ []))) ++ map row_of (inside (going gone rest))
  rows-more =
      ap (λ kids. map row_of (inside kids)) (ap (going gone) is ∙ filter-append (has_name gone) (kid ∷ []) rest)
      ∙ ap (map row_of) (flat_map-append (λ own. (inner_of_kid own).1.routes) (going gone (kid ∷ [])) (going gone rest))
      ∙ map-append row_of (inside (going gone (kid ∷ []))) (inside (going gone rest))

pub loop-kid-preserved : goal.loop-kid-preserved
loop-kid-preserved c = (
  joined c.loop-kid.kept c.part_one.new.kept (staying c.args.gone.now (c.in-Some.kid ∷ [])) (staying c.args.gone.now c.next.new.self.rest.items) (staying c.args.gone.now c.loop-kid.kid-iterator.rest.items) _ c.loop-kid.invariant.0
      (staying-more c.args.gone.now c.in-Some.kid c.next.new.self.rest.items c.loop-kid.kid-iterator.rest.items c.in-Some.ensures.steps.0)
      c.in_ok-part_one.ensures.staying,
  joined c.loop-kid.rows c.part_one.new.rows (map row_of (inside (going c.args.gone.now (c.in-Some.kid ∷ [])))) (map row_of (inside (going c.args.gone.now c.next.new.self.rest.items))) (map row_of (inside (going c.args.gone.now c.loop-kid.kid-iterator.rest.items))) _ c.loop-kid.invariant.1
      (rows-more c.args.gone.now c.in-Some.kid c.next.new.self.rest.items c.loop-kid.kid-iterator.rest.items c.in-Some.ensures.steps.0)
      c.in_ok-part_one.ensures.rows,
  (subst (AllByRecursion IsBelowWired) c.in-Some.ensures.steps.0 c.loop-kid.invariant.2).1,
)
