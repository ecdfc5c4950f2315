-- What is gathered has the types of the ports where it comes.
use Rattle.std.proofs.Common.{◌≡◌, ℕ, suc, ◌+◌, ◌==◌, ◌&&◌, Bool, true, false, cond, List, [], ◌∷◌, ◌++◌, map, length, filter, filter_map, flat_map, Option, Some, None, slice_get, slice_index_or, refl, sym, ◌∙◌, ap, subst, arith}
use Rattle.std.specs.declared.cmp.Ordering.TheVariants.{Equal}
use Rattle.std.specs.List.{AllByRecursion, range_with_len, cons_option}
use Rattle.std.proofs.lemmas.Bool.Decides.{nat_tests}
use Rattle.dsde_sim_tree.specs.given.syntax.decl_Model.{Model}
use Rattle.dsde_values.specs.declared.arrival.Item.{Item}
use Rattle.dsde_values.specs.declared.name.Name.{Name}
use Rattle.dsde_values.specs.declared.types.Field.{Field}
use Rattle.dsde_values.specs.declared.types.Ty.{Ty}
use Rattle.dsde_values.specs.declared.types.Types.{Types}
use Rattle.dsde_values.specs.declared.value.Value.{Value}
use Rattle.dsde_values.specs.Path.{name_cmp}
use Rattle.dsde_sim_tree.specs.given.language.DeclaredModels.{types_of, Own}
use Rattle.dsde_sim_tree.specs.given.structure.plan_End.{End}
use Rattle.dsde_sim_tree.specs.given.structure.plan_Entry.{Entry}
use Rattle.dsde_sim_tree.specs.given.structure.plan_Link.{Link}
use Rattle.dsde_sim_tree.specs.given.structure.plan_Part.{Part}
use Rattle.dsde_sim_tree.specs.given.structure.plan_Via.{Via}
use Rattle.dsde_sim_tree.specs.given.structure.sources_Sources.{Sources}
use Rattle.dsde_sim_tree.specs.given.structure.Gather.{Translation, is_part, is_end, from_part, through, carried, gather, gathered}
use Rattle.dsde_sim_tree.specs.given.structure.Survival.{IsInOrder}
use Rattle.dsde_sim_tree.specs.given.language.Right.{IsRight}
use Rattle.dsde_sim_tree.specs.given.language.Typed.{Typed, AllSent, IsSent}
use Rattle.dsde_sim_tree.specs.given.language.Agreement.{ExpressionsAgree}
use Rattle.dsde_sound_names.specs.given.sound_expressions.Laws.{KnownIsWithin}
use Rattle.dsde_sound_names.specs.given.sound_expressions.Coded.{FunctionsAgree}
use Rattle.dsde_system.specs.Fitting.{AreOf, Reach}
use Rattle.dsde_system.specs.Plans.{ArePortsOf, FitsLink, FitsSources, Joins}
use Rattle.dsde_system.specs.Program.{system, translated}
use Rattle.dsde_sim_tree.specs.Output.{by_port, values_at}
use Rattle.dsde_sound_structures.specs.Carrying.{Carries}
use Rattle.dsde_sound_structures.proofs.LinkNaming.{part-ports}
use Rattle.dsde_sound_structures.proofs.Sources.{link-carries, some-field}
use Rattle.dsde_sound_structures.proofs.LinkTranslating.{made-typed}

some-value : (a b : Value) → (let r : Option Value = Some a in r) ≡ Some b → a ≡ b
some-value a b e = cc

split-and : (a b : Bool) → (a && b) ≡ true → (a ≡ true) × (b ≡ true)
split-and true b is = (refl, is)
split-and false b is = absurd (let e : false ≡ true = is in cc)

same-number : (n m : ℕ) → (n == m) ≡ true → n ≡ m
same-number n m is = grind (arith, nat_tests)

module _ (types : Types) where
  both-of : (ty : Ty) (first later : List Value) → AreOf types ty first → AreOf types ty later → AreOf types ty (first ++ later)
  both-of ty [] later are_first are_later = are_later
  both-of ty (value ∷ first) later are_first are_later = (are_first.0, both-of ty first later are_first.1 are_later)

  option-of : (ty : Ty) (held : Option Value) (values : List Value) → ((value : Value) → held ≡ Some value → Typed types ty value) → AreOf types ty values → AreOf types ty (cons_option held values)
  option-of ty None values typed are = are
  option-of ty (Some value) values typed are = (typed value refl, are)

  -- values of one type become values of another
  made-of : (from to : Ty) (make : Value → Option Value) → ((own inner : Value) → Typed types from own → make own ≡ Some inner → Typed types to inner)
      → (values : List Value) → AreOf types from values → AreOf types to (filter_map make values)
  made-of from to make typed [] are = tt
  made-of from to make typed (value ∷ values) are =
      option-of to (make value) (filter_map make values) (λ inner is. typed value inner are.0 is) (made-of from to make typed values are.1)

  reach-from : (f : ℕ → List Value) (ports : List Field) (start : ℕ)
      → ((port at : ℕ) (field : Field) → start + port ≡ at → slice_get ports port ≡ Some field → AreOf types field.ty (f at))
      → Reach types ports (map f (range_with_len start (length ports)))
  reach-from f [] start each = tt
  reach-from f (field ∷ ports) start each = (
    each 0 start field (omega arith) refl,
    reach-from f ports (start + 1) (λ port at own is found. each (suc port) at own (omega (arith, is)) found),
  )

  -- what is sent by a port
  sent-cond : (outs : List Field) (port : ℕ) (field : Field) → slice_get outs port ≡ Some field → (b : Bool) (item : Item) (items : List Item) → (item.port == port) ≡ b → IsSent types outs item
      → AreOf types field.ty (map (λ (own : Item). own.value) items) → AreOf types field.ty (map (λ (own : Item). own.value) (cond b (item ∷ items) items))
  sent-cond outs port field found true item items is sent are =
      let same : item.port ≡ port = same-number item.port port is in
      let one : sent.port ≡ field = some-field sent.port field (sym sent.found ∙ ap (λ (n : ℕ). slice_get outs n) same ∙ found) in
      (subst (λ (f : Field). Typed types f.ty item.value) one sent.has, are)
  sent-cond outs port field found false item items is sent are = are

  sent-at : (outs : List Field) (port : ℕ) (field : Field) → slice_get outs port ≡ Some field → (items : List Item) → AllSent types outs items → AreOf types field.ty (values_at items port)
  sent-at outs port field found [] sent = tt
  sent-at outs port field found (item ∷ items) sent =
      sent-cond outs port field found (item.port == port) item (filter (λ (own : Item). own.port == port) items) refl sent.0 (sent-at outs port field found items sent.1)

  pub sent-reach : (outs : List Field) (items : List Item) → AllSent types outs items → Reach types outs (by_port (length outs) items)
  sent-reach outs items sent =
      reach-from (values_at items) outs 0 (λ port at field is found.
      sent-at outs at field (ap (λ (n : ℕ). slice_get outs n) (let e : at ≡ port = omega (arith, is) in e) ∙ found) items sent)

module _ (one : (name other : Name) → name_cmp name other ≡ Equal → name ≡ other)
    (agree : ExpressionsAgree) (within : KnownIsWithin) (functions : FunctionsAgree)
    (model : Model) (right : IsRight model) (own : Own) (entries : List Entry) (order : IsInOrder entries) (sources : Sources) (fit : FitsSources model own entries sources) where
  abbrev carries : Translation
  carries = translated model

  through-typed : (link : Link) (via : Option Via) (from to : Ty) → Joins model via from to → (value inner : Value) → Typed (types_of model) from value
      → (let made : Option Value = elim via [ None ↦ Some value | Some own_via ↦ carries own_via value ] in made) ≡ Some inner → Typed (types_of model) to inner
  through-typed link None from to joins value inner typed is =
      subst (λ (t : Ty). Typed (types_of model) t inner) joins (subst (λ (v : Value). Typed (types_of model) from v) (some-value value inner is) typed)
  through-typed link (Some via) from to joins value inner typed is = made-typed model via from to value joins typed right agree within functions inner is

  -- what a link carries has the type of its target
  carried-typed : (link : Link) (it : Carries model sources link) → AreOf (types_of model) it.target (carried carries sources link)
  carried-typed link it =
      made-of (types_of model) it.source it.target (through carries link)
      (λ value inner typed is. through-typed link link.via it.source it.target it.joins value inner typed is)
      (slice_index_or (from_part sources link.from.part) link.from.port []) it.values

  module _ (part : Part) (ports : List Field) (are : ArePortsOf model own entries false part ports) (port : ℕ) (field : Field) (found : slice_get ports port ≡ Some field) where
    abbrev end : End
    end = record { part = part; port = port }

    link-typed : (link : Link) → FitsLink model own entries link → is_end link.to end ≡ true → AreOf (types_of model) field.ty (carried carries sources link)
    link-typed link fits is =
        let both = split-and (is_part link.to.part part) (link.to.port == port) is in
        let same : fits.to.ports ≡ ports = part-ports one model own entries order link.to.part part false fits.to.ports ports both.0 fits.to.are are in
        let here : link.to.port ≡ port = same-number link.to.port port both.1 in
        let has : slice_get ports port ≡ Some fits.to.has.field =
        sym (ap (λ (l : List Field). slice_get l port) same) ∙ sym (ap (λ (n : ℕ). slice_get fits.to.ports n) here) ∙ fits.to.has.found in
        let one_field : fits.to.has.field ≡ field = some-field fits.to.has.field field (sym has ∙ found) in
        let target : fits.target ≡ field.ty = sym fits.to.has.is ∙ ap (λ (f : Field). f.ty) one_field in
        subst (λ (t : Ty). AreOf (types_of model) t (carried carries sources link)) target
        (carried-typed link (link-carries one model own entries order sources fit link fits))

    gather-cond : (b : Bool) (link : Link) (links : List Link) → is_end link.to end ≡ b → FitsLink model own entries link
        → AreOf (types_of model) field.ty (flat_map (carried carries sources) links) → AreOf (types_of model) field.ty (flat_map (carried carries sources) (cond b (link ∷ links) links))
    gather-cond true link links is fits rest =
        both-of (types_of model) field.ty (carried carries sources link) (flat_map (carried carries sources) links) (link-typed link fits is) rest
    gather-cond false link links is fits rest = rest

    gather-typed : (links : List Link) → AllByRecursion (FitsLink model own entries) links → AreOf (types_of model) field.ty (gather carries links sources end)
    gather-typed [] all = tt
    gather-typed (link ∷ links) all =
        gather-cond (is_end link.to end) link (filter (λ (l : Link). is_end l.to end) links) refl all.0 (gather-typed links all.1)

  pub gathered-reach : (links : List Link) → AllByRecursion (FitsLink model own entries) links → (part : Part) (ports : List Field) → ArePortsOf model own entries false part ports
      → Reach (types_of model) ports (gathered (system model).translate links sources part (length ports))
  unfolding system
  gathered-reach links all part ports are =
      reach-from (types_of model) (λ port. gather carries links sources (record { part = part; port = port })) ports 0
      (λ port at field is found. gather-typed part ports are at field (ap (λ (n : ℕ). slice_get ports n) (let e : at ≡ port = omega (arith, is) in e) ∙ found) links all)
