-- Bindings, assignments and sends do in tables what they do over names.
use Rattle.std.proofs.Common.{◌≡◌, ℕ, ◌+◌, ◌≤◌, arith, Bool, true, not, if◌then◌else◌, List, [], ◌∷◌, ◌++◌, Option, Some, None, Result, Ok, refl, sym, ◌∙◌, ap, subst, slice_get, slice_set, unwrap_or, append-nil}
use Rattle.std.proofs.lemmas.Bool.{not-false}
use Rattle.dsde_language.specs.given.names.Table.{place_of, named}
use Rattle.dsde_language.specs.given.syntax.id_Id.{Id}
use Rattle.dsde_language.specs.given.syntax.expr_Expr.{Expr}
use Rattle.dsde_language.specs.given.syntax.stmt_Stmt_TheOpen.{Stmt-F}
use Rattle.dsde_language.specs.given.values.arrival_Item.{Item}
use Rattle.dsde_language.specs.given.values.types_Field.{Field}
use Rattle.dsde_language.specs.given.values.types_Ty.{Ty}
use Rattle.dsde_language.specs.given.values.types_Types.{Types}
use Rattle.dsde_language.specs.given.values.value_Value.{Value}
use Rattle.dsde_language.specs.declared.known.Around.{Around}
use Rattle.dsde_language.specs.declared.known.Known.{Known}
use Rattle.dsde_language.specs.declared.seen.Binding.{Binding}
use Rattle.dsde_language.specs.declared.signatures.Port.{Port}
use Rattle.dsde_language.specs.declared.wrong.Wrong.{Wrong}
use Rattle.dsde_language.specs.declared.wrong.WrongKind.TheVariants.{Unknown, WrongType}
use Rattle.dsde_language.specs.Steps.{above, wrong, unless}
use Rattle.dsde_language.specs.Types.{wanted}
use Rattle.dsde_language.specs.RuleTables.{field_name, port_name}
use Rattle.dsde_language.specs.Judge.{bound_to, fresh, judge}
use Rattle.dsde_language.specs.Judge as rules
use Rattle.dsde_language.specs.Blocks.{Passed, var_kind, may_set, set_of, send_of}
use Rattle.dsde_language.specs.Blocks as rule_blocks
use Rattle.dsde_language.specs.declared.node.Node.{Node}
use Rattle.dsde_language.specs.Names.{slot_of, with_slot}
use Rattle.dsde_language.specs.Expressions.{resolve}
use Rattle.dsde_language.specs.Pieces.{Block, Next}
use Rattle.dsde_language.specs.Statements as said
use Rattle.dsde_language.specs.Outcome.{Stuck}
use Rattle.dsde_language.specs.Flow.{stopped}
use Rattle.dsde_language.specs.Meaning as meaning
use Rattle.dsde_language.specs.Meaning.{Function, Scene, bound, var_name, set_at, set_var}
use Rattle.dsde_language.specs.MeaningTables as tables
use Rattle.dsde_language.specs.MeaningTables.{Coded, state_of, act_flow, set_slot}
use Rattle.dsde_language.specs.Proper as proper
use Rattle.dsde_language.specs.Proper.{is_plain, is_proper}
use Rattle.dsde_language.specs.Typed.{Typed, Fits, AllSent, IsSent, values_in, shown}
use Rattle.dsde_language.specs.Scopes.{Sees, Slotted, AreOuts}
use Rattle.dsde_sound_expressions.specs.lemmas.Places.{Placed, placed, named-is}
use Rattle.dsde_sound_expressions.specs.lemmas.Types.{wanted-is}
use Rattle.dsde_sound_expressions.specs.lemmas.Steps.{went, ok-is, unless-is}
use Rattle.dsde_sound_expressions.specs.lemmas.Truths.{and-left, and-right}
use Rattle.dsde_sound_expressions.specs.lemmas.Standing.{stands-left}
use Rattle.dsde_sound_expressions.specs.lemmas.Fitting.{var_of, field_of, fits-snoc, fits-place, fits-set, fits-within, sent-snoc, set-values, values-snoc}
use Rattle.dsde_sound_expressions.specs.lemmas.Seeing.{sees-snoc, fresh-new, slot-behind}
use Rattle.dsde_sound_expressions.proofs.Shows.{Shows, shows-at}
use Rattle.dsde_sound_expressions.proofs.Does.{Ready, Done, Does, Exprs, Reads, value-shows, not-cut}

module _ (types : Types) (coded : Coded) (whole : Known) (functions : List Function) (around : Around) (ports : List Port) (outs : List Field) (exprs : Exprs types coded whole functions around outs) where
  abbrev E : Bool
  E = around.has_elapsed

  -- the expression of a statement of no further nodes
  pub alone : (next : Next) (nodes : List Node) (blocks : List Block) (height depth : ℕ) → Ready types coded E outs next (nodes ++ []) blocks (above height) depth
      → Reads types coded whole functions around outs next.node nodes height depth
  alone next nodes blocks height depth ready = record {
    code = stands-left coded.nodes next.node nodes [] ready.code;
    low = let low : height + 1 ≤ 512 = not-cut height 512 ready.low ready.low in omega (arith, low);
    deep = let deep : height + 1 ≤ depth = not-cut height depth ready.low ready.deep in omega (arith, deep);
  }

  pub let-does : (mutable : Bool) (name : Id) (e : Expr)
      → Does types coded E outs act_flow (proper.stmt_step (Stmt-F.Let mutable name e)) (rule_blocks.stmt_step around ports (Stmt-F.Let mutable name e))
      (said.stmt_step whole outs (Stmt-F.Let mutable name e)) (meaning.stmt_step whole functions outs (Stmt-F.Let mutable name e))
  let-does mutable name e = record {
    does = λ plain scope passed slots next h sees.
        let agrees = exprs e (and-right (is_plain name) (is_proper e) plain) in
        let w1 = went (fresh around name scope) _ passed h in
        let w2 = went (judge around e scope) _ passed w1.next in
        let t : Ty = w2.value.ty in
        let own : Binding = record { name = name.name; ty = t; kind = var_kind mutable } in
        let behind : Passed = record { scope = scope ++ own ∷ []; height = above w2.value.height } in
        let nodes : List Node = (resolve whole e).nodes slots next.node in
        let last : List Field = slots ++ field_of name.name t ∷ [] in
        let new = fresh-new E scope slots sees around name w1.value w1.first (and-left (is_plain name) (is_proper e) plain) in
        let same : with_slot slots name.name ((resolve whole e).ty slots) ≡ last =
        ap (λ (own : Ty). with_slot slots name.name own) (agrees.ty scope slots w2.value w2.first sees) ∙ slot-behind slots name.name t new in
        let Behind : List Field → Type 0 = λ (s : List Field). Sees E behind.scope s in
        subst (λ (p : Passed). Done types coded E outs act_flow p slots next (said.stmt_step whole outs (Stmt-F.Let mutable name e) slots next) (meaning.stmt_step whole functions outs (Stmt-F.Let mutable name e)))
        (ok-is behind passed w2.next)
        (record {
          more = field_of name.name t ∷ [];
          grows = same;
          sees = subst (λ (s : List Field). Sees E (scope ++ own ∷ []) s) (sym same) (sees-snoc E scope slots sees own new);
          shows = λ before depth fits sent.
              subst (λ (s : List Field). Shows types outs (Ready types coded E outs next (nodes ++ []) [] (above w2.value.height) depth) s
              (meaning.stmt_step whole functions outs (Stmt-F.Let mutable name e) before) (act_flow (tables.means_in coded depth) (said.stmt_step whole outs (Stmt-F.Let mutable name e) slots next).own (shown before))) (sym same)
              (value-shows types coded whole functions around outs e agrees scope slots w2.value before next.node depth _ w2.first sees fits sent
              (λ ready. alone next nodes [] w2.value.height depth ready) last _ _
              (λ v typed. shows-at types outs _ last (bound name.name v before) (tables.with_slot v (shown before))
              (ap (λ (l : List Value). state_of l before.sends) (values-snoc before.vars name.name v))
              (fits-snoc types before.vars slots name.name t v fits typed) sent));
        });
  }

  -- an assignment to a variable of a slot
  set-shows : (If : Type 0) (slots : List Field) (name : List ℕ) (own : Ty) (before : Scene) (v : Value) → Slotted slots name own → Fits types before.vars slots → AllSent types outs before.sends → Typed types own v
      → Shows types outs If slots (set_var name v before) (set_slot (slot_of slots name) v (shown before))
  set-shows If slots name own before v slotted fits sent typed =
      let p : Placed field_name slots name slotted.field = placed field_name slots name slotted.field slotted.found in
      let place : ℕ = p.place in
      let there : place_of var_name before.vars name ≡ Some place = fits-place types before.vars slots name fits ∙ p.found in
      let slot : slot_of slots name ≡ place = ap (λ (o : Option ℕ). unwrap_or o 0) p.found in
      let called : slotted.field.name ≡ name = named-is field_name slots slotted.field name slotted.found in
      let of : Typed types slotted.field.ty v = subst (λ (t : Ty). Typed types t v) (sym slotted.of) typed in
      subst (λ (o : Option ℕ). Shows types outs If slots (set_at o name v before) (set_slot (slot_of slots name) v (shown before))) (sym there)
      (subst (λ (n : ℕ). Shows types outs If slots (set_at (Some place) name v before) (set_slot n v (shown before))) (sym slot)
      (subst (λ (b : Bool). Shows types outs If slots (set_at (Some place) name v before) (if b then Ok (state_of (slice_set (values_in before.vars) place v) before.sends) else stopped (shown before) Stuck))
      (sym (fits-within types before.vars slots place slotted.field fits p.at))
      (shows-at types outs If slots (meaning.scene (slice_set before.vars place (var_of name v)) before.sends) (state_of (slice_set (values_in before.vars) place v) before.sends)
      (ap (λ (l : List Value). state_of l before.sends) (sym (set-values before.vars place name v)))
      (subst (λ (n : List ℕ). Fits types (slice_set before.vars place (var_of n v)) slots) called (fits-set types before.vars slots place slotted.field v fits p.at of))
      sent)))

  -- what is judged of an assignment to what was found
  abbrev set_judged : Id → Expr → rules.Scope → Option Binding → Result Passed Wrong
  set_judged name e scope found = elim found [ None ↦ wrong Unknown name.at | Some own ↦ set_of around name own (judge around e) scope ]

  set-found : (name : Id) (e : Expr) → is_proper e ≡ true → (scope : rules.Scope) (passed : Passed) (slots : List Field) (next : Next) (found : Option Binding) → bound_to scope name.name ≡ found
      → set_judged name e scope found ≡ Ok passed → Sees E scope slots
      → Done types coded E outs act_flow passed slots next (said.stmt_step whole outs (Stmt-F.Set name e) slots next) (meaning.stmt_step whole functions outs (Stmt-F.Set name e))
  set-found name e plain scope passed slots next None is h sees = cc
  set-found name e plain scope passed slots next (Some own) is h sees =
      let w1 = went (unless (not (may_set around own.kind)) WrongType name.at) _ passed h in
      let w2 = went (judge around e scope) _ passed w1.next in
      let w3 = went (wanted own.ty w2.value) _ passed w2.next in
      let t : own.ty ≡ w2.value.ty = wanted-is own.ty w2.value w3.value w3.first in
      let behind : Passed = record { scope = scope; height = above w2.value.height } in
      let nodes : List Node = (resolve whole e).nodes slots next.node in
      let slotted : Slotted slots name.name w2.value.ty = subst (λ (t : Ty). Slotted slots name.name t) t (sees.seen name.name own is) in
      subst (λ (p : Passed). Done types coded E outs act_flow p slots next (said.stmt_step whole outs (Stmt-F.Set name e) slots next) (meaning.stmt_step whole functions outs (Stmt-F.Set name e)))
      (ok-is behind passed w3.next)
      (record {
        more = [];
        grows = sym (append-nil slots);
        sees = sees;
        shows = λ before depth fits sent.
            value-shows types coded whole functions around outs e (exprs e plain) scope slots w2.value before next.node depth _ w2.first sees fits sent
            (λ ready. alone next nodes [] w2.value.height depth ready) slots _ _
            (λ v typed. set-shows _ slots name.name w2.value.ty before v slotted fits sent typed);
      })

  pub set-does : (name : Id) (e : Expr)
      → Does types coded E outs act_flow (proper.stmt_step (Stmt-F.Set name e)) (rule_blocks.stmt_step around ports (Stmt-F.Set name e))
      (said.stmt_step whole outs (Stmt-F.Set name e)) (meaning.stmt_step whole functions outs (Stmt-F.Set name e))
  set-does name e = record {
    does = λ plain scope passed slots next h sees. set-found name e plain scope passed slots next (bound_to scope name.name) refl h sees;
  }

  -- an item that is sent by a port
  sent-is : (name : List ℕ) (own : Ty) (v : Value) → Slotted outs name own → Typed types own v → IsSent types outs (record { port = slot_of outs name; value = v })
  sent-is name own v slotted typed =
      let p : Placed field_name outs name slotted.field = placed field_name outs name slotted.field slotted.found in
      let slot : slot_of outs name ≡ p.place = ap (λ (o : Option ℕ). unwrap_or o 0) p.found in
      record {
        port = slotted.field;
        found = ap (λ (n : ℕ). slice_get outs n) slot ∙ p.at;
        has = subst (λ (t : Ty). Typed types t v) (sym slotted.of) typed;
      }

  module _ (are : AreOuts ports outs) where
    -- what is judged of a value that is sent by what was found
    abbrev send_judged : Id → Expr → rules.Scope → Option Port → Result Passed Wrong
    send_judged name e scope found = elim found [ None ↦ wrong Unknown name.at | Some own ↦ send_of name own (judge around e) scope ]

    send-found : (name : Id) (e : Expr) → is_proper e ≡ true → (scope : rules.Scope) (passed : Passed) (slots : List Field) (next : Next) (found : Option Port) → named port_name ports name.name ≡ found
        → send_judged name e scope found ≡ Ok passed → Sees E scope slots
        → Done types coded E outs act_flow passed slots next (said.stmt_step whole outs (Stmt-F.Send name e) slots next) (meaning.stmt_step whole functions outs (Stmt-F.Send name e))
    send-found name e plain scope passed slots next None is h sees = cc
    send-found name e plain scope passed slots next (Some own) is h sees =
        let w1 = went (unless (not own.out) Unknown name.at) _ passed h in
        let w2 = went (judge around e scope) _ passed w1.next in
        let w3 = went (wanted own.ty w2.value) _ passed w2.next in
        let out : own.out ≡ true = not-false own.out (unless-is (not own.out) Unknown name.at w1.value w1.first) in
        let t : own.ty ≡ w2.value.ty = wanted-is own.ty w2.value w3.value w3.first in
        let behind : Passed = record { scope = scope; height = above w2.value.height } in
        let nodes : List Node = (resolve whole e).nodes slots next.node in
        let slotted : Slotted outs name.name w2.value.ty = subst (λ (t : Ty). Slotted outs name.name t) t (are.slotted name.name own is out) in
        subst (λ (p : Passed). Done types coded E outs act_flow p slots next (said.stmt_step whole outs (Stmt-F.Send name e) slots next) (meaning.stmt_step whole functions outs (Stmt-F.Send name e)))
        (ok-is behind passed w3.next)
        (record {
          more = [];
          grows = sym (append-nil slots);
          sees = sees;
          shows = λ before depth fits sent.
              value-shows types coded whole functions around outs e (exprs e plain) scope slots w2.value before next.node depth _ w2.first sees fits sent
              (λ ready. alone next nodes [] w2.value.height depth ready) slots _ _
              (λ v typed.
              let item : Item = record { port = slot_of outs name.name; value = v } in
              shows-at types outs _ slots (meaning.scene before.vars (before.sends ++ item ∷ [])) (state_of (values_in before.vars) (before.sends ++ item ∷ [])) refl fits
              (sent-snoc types outs before.sends item sent (sent-is name.name w2.value.ty v slotted typed)));
        })

    pub send-does : (name : Id) (e : Expr)
        → Does types coded E outs act_flow (proper.stmt_step (Stmt-F.Send name e)) (rule_blocks.stmt_step around ports (Stmt-F.Send name e))
        (said.stmt_step whole outs (Stmt-F.Send name e)) (meaning.stmt_step whole functions outs (Stmt-F.Send name e))
    send-does name e = record {
      does = λ plain scope passed slots next h sees. send-found name e plain scope passed slots next (named port_name ports name.name) refl h sees;
    }
