-- A comprehension.
use Rattle.std.proofs.Common.{◌≡◌, ℕ, ◌+◌, ◌≤◌, max, Bool, true, false, if◌then◌else◌, List, [], ◌∷◌, ◌++◌, length, Option, Some, None, Ok, refl, sym, ◌∙◌, ap, subst, arith, append_assoc}
use Rattle.std.proofs.lemmas.List.{length-append, map-append}
use Rattle.dsde_language.specs.given.names.Table.{is_among}
use Rattle.dsde_language.specs.given.syntax.expr_Expr_TheOpen.{Expr-F}
use Rattle.dsde_language.specs.given.syntax.id_Id.{Id}
use Rattle.dsde_language.specs.given.values.types_Field.{Field}
use Rattle.dsde_language.specs.given.values.types_Ty.{Ty}
use Rattle.dsde_language.specs.given.values.types_Ty_TheVariants as ty
use Rattle.dsde_language.specs.given.values.types_Types.{Types}
use Rattle.dsde_language.specs.given.values.value_Value.{Value}
use Rattle.dsde_language.specs.given.values.value_Value_TheVariants as value
use Rattle.dsde_language.specs.declared.known.Around.{Around}
use Rattle.dsde_language.specs.declared.known.Known.{Known}
use Rattle.dsde_language.specs.declared.seen.Seen.{Seen}
use Rattle.dsde_language.specs.Steps.{above}
use Rattle.dsde_language.specs.Types.{wanted, item_type}
use Rattle.dsde_language.specs.RuleTables.{field_name}
use Rattle.dsde_language.specs.Judge.{Scope, Judge, guarded, test_of, judge_step, fresh, fixed, made}
use Rattle.dsde_language.specs.declared.node.Node.{Node}
use Rattle.dsde_language.specs.declared.node.Node.TheVariants as node
use Rattle.dsde_language.specs.Names.{with_slot}
use Rattle.dsde_language.specs.Typing.{item_in}
use Rattle.dsde_language.specs.Expressions.{Resolved, resolve_step, expr_id, cond_nodes, cond_number}
use Rattle.dsde_language.specs.Outcome.{Outcome, ◌>>=◌, truth_of, items_of}
use Rattle.dsde_language.specs.Meaning.{Var, Vars, Mean, Function, mean_step, with_var, holds, kept_of, each_of}
use Rattle.dsde_language.specs.MeaningTables.{Coded, means_in, holds_at, kept_from, each_from}
use Rattle.dsde_language.specs.Proper.{is_plain}
use Rattle.dsde_language.specs.Typed.{Typed, Sound, Fits, values_in}
use Rattle.dsde_language.specs.Scopes.{Stands, Sees}
use Rattle.dsde_sound_expressions.specs.lemmas.Standing.{stands-left, stands-right}
use Rattle.dsde_sound_expressions.specs.lemmas.Steps.{went, ok-is}
use Rattle.dsde_sound_expressions.specs.lemmas.Outcomes.{Any, sound-then, sound-if, same-then}
use Rattle.dsde_sound_expressions.specs.lemmas.Types.{wanted-is, item-is, item-in-list}
use Rattle.dsde_sound_expressions.specs.lemmas.Values.{AllHave, IsList, all-cons, all-snoc, typed-list, truth-sound, items-sound}
use Rattle.dsde_sound_expressions.specs.lemmas.Fitting.{fits-snoc, field_of}
use Rattle.dsde_sound_expressions.specs.lemmas.Seeing.{sees-snoc, fresh-new, slot-behind}
use Rattle.dsde_sound_expressions.proofs.At.{Ground, ground, At, at-typed, at-higher, at-seen, made-is, node-reads}
use Rattle.dsde_sound_expressions.proofs.Parts.{Agreed}

-- a condition over slots, if there is one
abbrev pub CondAt : Ground → Option Resolved → Option Mean → List Field → ℕ → Type 0
CondAt g None None slots n = Unit {0}
CondAt g None (Some m) slots n = ⊥
CondAt g (Some r) None slots n = ⊥
CondAt g (Some r) (Some m) slots n = At g r m slots ty.Bool n

-- A condition stands over slots, and is no lower than what came before it.
pub record CondIs (g : Ground) (r : Option Resolved) (m : Option Mean) (slots : List Field) (height n : ℕ) : Type 0 where
  pub cond : CondAt g r m slots n
  pub high : height ≤ n

-- A condition that is judged stands over the slots of what it sees.
pub record CondAgreed (g : Ground) (has : Bool) (j : Option Judge) (r : Option Resolved) (m : Option Mean) : Type 0 where
  pub tests : (height found : ℕ) (scope : Scope) (slots : List Field) → test_of j height scope ≡ Ok found → Sees has scope slots → CondIs g r m slots height found

pub no-cond : (g : Ground) (has : Bool) → CondAgreed g has None None None
no-cond g has = record { tests = λ height found scope slots h sees. record { cond = tt; high = let e : height ≡ found = ok-is height found h in omega (arith, e) } }

pub one-cond : (g : Ground) (has : Bool) (j : Judge) (r : Resolved) (m : Mean) → Agreed g has j r m → CondAgreed g has (Some j) (Some r) (Some m)
one-cond g has j r m p = record {
  tests = λ height found scope slots h sees.
      let w1 = went (j scope) _ found h in
      let w2 = went (wanted ty.Bool w1.value) _ found w1.next in
      let e : max height w1.value.height ≡ found = ok-is (max height w1.value.height) found w2.next in
      record {
        cond = at-higher g r m slots ty.Bool w1.value.height found (omega (arith, e)) (at-typed g r m slots w1.value.ty ty.Bool w1.value.height (sym (wanted-is ty.Bool w1.value w2.value w2.first)) (p.holds scope slots w1.value w1.first sees));
        high = omega (arith, e);
      };
}

cond-higher : (g : Ground) (r : Option Resolved) (m : Option Mean) (slots : List Field) (k n : ℕ) → k ≤ n → CondAt g r m slots k → CondAt g r m slots n
cond-higher g None None slots k n low p = tt
cond-higher g None (Some m) slots k n low p = absurd p
cond-higher g (Some r) None slots k n low p = absurd p
cond-higher g (Some r) (Some m) slots k n low p = at-higher g r m slots ty.Bool k n low p

module _ (g : Ground) (slots : List Field) (n : ℕ) where
  holds-sound : (r : Option Resolved) (m : Option Mean) → CondAt g r m slots n → (vars : Vars) → Fits g.types vars slots → Sound {A = Bool} g.total Any (holds m vars)
  holds-sound None None p vars fits = tt
  holds-sound None (Some m) p vars fits = absurd p
  holds-sound (Some r) None p vars fits = absurd p
  holds-sound (Some r) (Some m) p vars fits =
      sound-then {B = Bool} g.total (Typed g.types ty.Bool) Any (m vars) (λ test. truth_of test) (p.sound vars fits) (λ v typed. truth-sound g.types g.total v typed)

  holds-read : (r : Option Resolved) (m : Option Mean) → CondAt g r m slots n → (vars : Vars) (start depth : ℕ) → Fits g.types vars slots → Stands g.coded.nodes start (cond_nodes r slots start) → n ≤ 512 → n ≤ depth
      → holds_at (means_in g.coded depth).part (cond_number r start) (values_in vars) ≡ holds m vars
  holds-read None None p vars start depth fits stands least low = refl
  holds-read None (Some m) p vars start depth fits stands least low = absurd p
  holds-read (Some r) None p vars start depth fits stands least low = absurd p
  holds-read (Some r) (Some m) p vars start depth fits stands least low =
      ap (λ (x : Outcome Value). x >>= (λ test. truth_of test)) (p.reads vars start depth fits stands least low)

-- values of a type, at most one more than before
record Kept (types : Types) (u : Ty) (done more : List Value) : Type 0 where
  have : AllHave types u more
  long : length more ≤ length done + 1

same-kept : (b : Bool) (x v : Outcome Value) (done : List Value) → x ≡ v → (if b then (x >>= (λ own. Ok (done ++ own ∷ []))) else Ok done) ≡ (if b then (v >>= (λ own. Ok (done ++ own ∷ []))) else Ok done)
same-kept b x v done e = ap (λ (o : Outcome Value). if b then (o >>= (λ own. Ok (done ++ own ∷ []))) else Ok done) e

module _ (g : Ground) (name : List ℕ) (slots inside : List Field) (t u : Ty) (n : ℕ) (rc : Option Resolved) (mc : Option Mean) (rv : Resolved) (mv : Mean)
    (fits-in : (vars : Vars) (item : Value) → Fits g.types vars slots → Typed g.types t item → Fits g.types (with_var name item vars) inside)
    (cond : CondAt g rc mc inside n) (part : At g rv mv inside u n) where
  kept-sound : (keep : Bool) (done : List Value) (vars : Vars) → Fits g.types vars inside → AllHave g.types u done → Sound g.total (Kept g.types u done) (kept_of mv done keep vars)
  kept-sound keep done vars fits have =
      sound-if g.total (Kept g.types u done) keep (mv vars >>= (λ own. Ok (done ++ own ∷ []))) (Ok done)
      (λ h. sound-then g.total (Typed g.types u) (Kept g.types u done) (mv vars) (λ own. Ok (done ++ own ∷ [])) (part.sound vars fits) (λ v typed.
      record { have = all-snoc g.types u done v have typed; long = let e : length (done ++ v ∷ []) ≡ length done + 1 = length-append done (v ∷ []) in omega (arith, e) }))
      (λ h. record { have = have; long = omega arith })

  kept-any : (keep : Bool) (done : List Value) (vars : Vars) → Fits g.types vars inside → Sound {A = List Value} g.total Any (kept_of mv done keep vars)
  kept-any keep done vars fits =
      sound-if {A = List Value} g.total Any keep (mv vars >>= (λ own. Ok (done ++ own ∷ []))) (Ok done)
      (λ h. sound-then {B = List Value} g.total (Typed g.types u) Any (mv vars) (λ own. Ok (done ++ own ∷ [])) (part.sound vars fits) (λ v typed. tt)) (λ h. tt)

  each-sound : (items done : List Value) (vars : Vars) → Fits g.types vars slots → AllHave g.types t items → AllHave g.types u done → length done + length items ≤ 65536 → Sound g.total (IsList g.types u) (each_of name mc mv done items vars)
  each-sound [] done vars fits all have long = record { have = have; short = omega (arith, long) }
  each-sound (item ∷ items) done vars fits all have long =
      let both = all-cons g.types t item items all in
      let more : Vars = with_var name item vars in
      let own : Fits g.types more inside = fits-in vars item fits both.0 in
      sound-then {A = Bool} g.total Any (IsList g.types u) (holds mc more) (λ keep. kept_of mv done keep more >>= (λ next. each_of name mc mv next items vars)) (holds-sound g inside n rc mc cond more own) (λ keep _.
      sound-then g.total (Kept g.types u done) (IsList g.types u) (kept_of mv done keep more) (λ next. each_of name mc mv next items vars) (kept-sound keep done more own have) (λ next kept.
      let e : length next ≤ length done + 1 = kept.long in
      each-sound items next vars fits both.1 kept.have (omega (arith, e, long))))

  each-read : (items done : List Value) (vars : Vars) (second third depth : ℕ) → Fits g.types vars slots → AllHave g.types t items
      → Stands g.coded.nodes second (cond_nodes rc inside second) → Stands g.coded.nodes third (rv.nodes inside third) → n ≤ 512 → n ≤ depth
      → each_from (means_in g.coded depth).part (cond_number rc second) (expr_id third) done items (values_in vars) ≡ each_of name mc mv done items vars
  each-read [] done vars second third depth fits all there last least low = refl
  each-read (item ∷ items) done vars second third depth fits all there last least low =
      let both = all-cons g.types t item items all in
      let more : Vars = with_var name item vars in
      let own : Fits g.types more inside = fits-in vars item fits both.0 in
      let slots-are : values_in more ≡ values_in vars ++ item ∷ [] = map-append (λ (var : Var). var.value) vars (record { name = name; value = item } ∷ []) in
      let means = (means_in g.coded depth).part in
      same-then {A = Bool} g.total Any (holds mc more) (holds_at means (cond_number rc second) (values_in vars ++ item ∷ []))
      (λ keep. kept_of mv done keep more >>= (λ next. each_of name mc mv next items vars))
      (λ keep. kept_from means (expr_id third) done keep (values_in vars ++ item ∷ []) >>= (λ next. each_from means (cond_number rc second) (expr_id third) next items (values_in vars)))
      (ap (λ (l : List Value). holds_at means (cond_number rc second) l) (sym slots-are) ∙ holds-read g inside n rc mc cond more second depth own there least low)
      (holds-sound g inside n rc mc cond more own)
      (λ keep _. same-then {A = List Value} g.total Any (kept_of mv done keep more) (kept_from means (expr_id third) done keep (values_in vars ++ item ∷ []))
      (λ next. each_of name mc mv next items vars) (λ next. each_from means (cond_number rc second) (expr_id third) next items (values_in vars))
      (same-kept keep (means (expr_id third) (values_in vars ++ item ∷ [])) (mv more) done
      (ap (λ (l : List Value). means (expr_id third) l) (sym slots-are) ∙ part.reads more third depth own last least low))
      (kept-any keep done more own)
      (λ next _. each-read items next vars second third depth fits both.1 there last least low))

  abbrev nodes_in : Resolved → List Field → ℕ → List Node
  nodes_in list own start =
      let second = start + 1 + length (list.nodes slots (start + 1)) in
      let third = second + length (cond_nodes rc own second) in
      node.Each (expr_id (start + 1)) (cond_number rc second) (expr_id third)
      ∷ list.nodes slots (start + 1) ++ cond_nodes rc own second ++ rv.nodes own third

  abbrev each_mean : Mean → Mean
  each_mean m vars = m vars >>= (λ own. items_of own >>= (λ items. each_of name mc mv [] items vars >>= (λ values. Ok (value.List values))))

  abbrev each_end : Vars → List Value → Outcome Value
  each_end vars items = each_of name mc mv [] items vars >>= (λ values. Ok (value.List values))

  pub each-at : (whole : Resolved) (list : Resolved) (m : Mean) → whole.ty slots ≡ ty.List u → ((start : ℕ) → whole.nodes slots start ≡ nodes_in list inside start) → At g list m slots (ty.List t) n
      → At g whole (each_mean m) slots (ty.List u) (above n)
  each-at whole list m kind is p = record {
    ty = kind;
    sound = λ vars fits.
        sound-then g.total (Typed g.types (ty.List t)) (Typed g.types (ty.List u)) (m vars) (λ own. items_of own >>= (λ items. each_end vars items)) (p.sound vars fits) (λ v typed.
        sound-then g.total (IsList g.types t) (Typed g.types (ty.List u)) (items_of v) (λ items. each_end vars items) (items-sound g.types g.total v t typed) (λ items h.
        let short : length items ≤ 65536 = h.short in
        sound-then g.total (IsList g.types u) (Typed g.types (ty.List u)) (each_of name mc mv [] items vars) (λ values. Ok (value.List values)) (each-sound items [] vars fits h.have refl (omega (arith, short))) (λ values all. typed-list g.types u values all)));
    reads = node-reads g whole.nodes (each_mean m) slots n
        (λ start. node.Each (expr_id (start + 1)) (cond_number rc (start + 1 + length (list.nodes slots (start + 1)))) (expr_id (start + 1 + length (list.nodes slots (start + 1)) + length (cond_nodes rc inside (start + 1 + length (list.nodes slots (start + 1)))))))
        (λ start. list.nodes slots (start + 1) ++ cond_nodes rc inside (start + 1 + length (list.nodes slots (start + 1))) ++ rv.nodes inside (start + 1 + length (list.nodes slots (start + 1)) + length (cond_nodes rc inside (start + 1 + length (list.nodes slots (start + 1))))))
        is
        (λ vars start depth fits stands least low.
        let means = (means_in g.coded depth).part in
        let one : List Node = list.nodes slots (start + 1) in
        let second : ℕ = start + 1 + length one in
        let two : List Node = cond_nodes rc inside second in
        let third : ℕ = second + length two in
        let three : List Node = rv.nodes inside third in
        let all-stand : Stands g.coded.nodes (start + 1) (one ++ (two ++ three)) = subst (λ (l : List Node). Stands g.coded.nodes (start + 1) l) (append_assoc one two three) stands in
        let there = stands-right g.coded.nodes (start + 1) one (two ++ three) all-stand in
        same-then g.total (Typed g.types (ty.List t)) (m vars) (means (expr_id (start + 1)) (values_in vars)) (λ own. items_of own >>= (λ items. each_end vars items))
        (λ own. items_of own >>= (λ items. each_from means (cond_number rc second) (expr_id third) [] items (values_in vars) >>= (λ values. Ok (value.List values))))
        (p.reads vars (start + 1) depth fits (stands-left g.coded.nodes (start + 1) one (two ++ three) all-stand) (omega (arith, least)) low) (p.sound vars fits)
        (λ v typed. same-then g.total (IsList g.types t) (items_of v) (items_of v) (λ items. each_end vars items)
        (λ items. each_from means (cond_number rc second) (expr_id third) [] items (values_in vars) >>= (λ values. Ok (value.List values))) refl (items-sound g.types g.total v t typed)
        (λ items h. ap (λ (o : Outcome (List Value)). o >>= (λ values. Ok (value.List values)))
        (each-read items [] vars second third depth fits h.have (stands-left g.coded.nodes second two three there) (stands-right g.coded.nodes second two three there) (omega (arith, least)) low))));
  }

pub each-agreed : (types : Types) (coded : Coded) (around : Around) (whole : Known) (functions : List Function) (at : ℕ) (name : Id) (j1 : Judge) (jc : Option Judge) (j2 : Judge) (r1 : Resolved) (rc : Option Resolved) (r2 : Resolved) (m1 : Mean) (mc : Option Mean) (m2 : Mean)
    → is_plain name ≡ true → Agreed (ground types coded around) around.has_elapsed j1 r1 m1 → CondAgreed (ground types coded around) around.has_elapsed jc rc mc → Agreed (ground types coded around) around.has_elapsed j2 r2 m2
    → Agreed (ground types coded around) around.has_elapsed (judge_step around (Expr-F.Each at name j1 jc j2)) (resolve_step whole (Expr-F.Each at name r1 rc r2)) (mean_step whole functions (Expr-F.Each at name m1 mc m2))
each-agreed types coded around whole functions at name j1 jc j2 r1 rc r2 m1 mc m2 plain p1 pc p2 = record {
  holds = λ scope slots found h sees.
      let g : Ground = ground types coded around in
      let w1 = went (fresh around name scope) _ found h in
      let new : is_among field_name slots name.name ≡ false = fresh-new around.has_elapsed scope slots sees around name w1.value w1.first plain in
      let w3 = went (j1 scope) _ found w1.next in
      let w4 = went (item_type w3.value) _ found w3.next in
      let t : Ty = w4.value in
      let more : Scope = scope ++ fixed name t ∷ [] in
      let inside : List Field = slots ++ field_of name.name t ∷ [] in
      let w5 = went (guarded jc j2 w3.value.height more) _ found w4.next in
      let w6 = went (test_of jc w3.value.height more) _ w5.value w5.first in
      let w7 = went (j2 more) _ w5.value w6.next in
      let n : ℕ = max w6.value w7.value.height in
      let all : Seen = record { ty = w7.value.ty; height = n; at = w7.value.at } in
      let e : all ≡ w5.value = ok-is all w5.value w7.next in
      let u : Ty = w7.value.ty in
      let last : made around (ty.List u) n at ≡ Ok found = subst (λ (s : Seen). made around (ty.List s.ty) s.height at ≡ Ok found) (sym e) w5.next in
      let own : Sees around.has_elapsed more inside = sees-snoc around.has_elapsed scope slots sees (fixed name t) new in
      let one = at-typed g r1 m1 slots w3.value.ty (ty.List t) w3.value.height (item-is w3.value t w4.first) (p1.holds scope slots w3.value w3.first sees) in
      let cond = pc.tests w3.value.height w6.value more inside w6.first own in
      let high : w3.value.height ≤ w6.value = cond.high in
      let two = p2.holds more inside w7.value w7.first own in
      let bound : with_slot slots name.name (item_in (r1.ty slots)) ≡ inside =
      ap (λ (x : Ty). with_slot slots name.name x) (ap item_in one.ty ∙ item-in-list t) ∙ slot-behind slots name.name t new in
      at-seen g (resolve_step whole (Expr-F.Each at name r1 rc r2)) (mean_step whole functions (Expr-F.Each at name m1 mc m2)) slots (ty.List u) n at found (made-is around (ty.List u) n at found last)
      (each-at g name.name slots inside t u n rc mc r2 m2 (λ vars item fits typed. fits-snoc types vars slots name.name t item fits typed)
      (cond-higher g rc mc inside w6.value n (omega arith) cond.cond) (at-higher g r2 m2 inside u w7.value.height n (omega arith) two)
      (resolve_step whole (Expr-F.Each at name r1 rc r2)) r1 m1 (ap (λ (l : List Field). ty.List (r2.ty l)) bound ∙ ap ty.List two.ty)
      (λ start. ap (λ (l : List Field). nodes_in g name.name slots inside t u n rc mc r2 m2 (λ vars item fits typed. fits-snoc types vars slots name.name t item fits typed) (cond-higher g rc mc inside w6.value n (omega arith) cond.cond) (at-higher g r2 m2 inside u w7.value.height n (omega arith) two) r1 l start) bound)
      (at-higher g r1 m1 slots (ty.List t) w3.value.height n (omega (arith, high)) one));
}
