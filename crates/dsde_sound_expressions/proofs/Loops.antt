-- `for` does in tables what it does over names.
use Rattle.std.proofs.Common.{◌≡◌, ◌+◌, ◌≤◌, arith, Bool, List, [], ◌∷◌, ◌++◌, length, sym, ◌∙◌, ap, subst, append-nil}
use Rattle.dsde_language.specs.given.syntax.id_Id.{Id}
use Rattle.dsde_language.specs.given.syntax.expr_Expr.{Expr}
use Rattle.dsde_language.specs.given.syntax.stmt_Stmt_TheOpen.{Stmt-F}
use Rattle.dsde_language.specs.given.values.types_Field.{Field}
use Rattle.dsde_language.specs.given.values.types_Ty.{Ty}
use Rattle.dsde_language.specs.given.values.types_Ty_TheVariants as ty
use Rattle.dsde_language.specs.given.values.types_Types.{Types}
use Rattle.dsde_language.specs.given.values.value_Value.{Value}
use Rattle.dsde_language.specs.declared.known.Around.{Around}
use Rattle.dsde_language.specs.declared.known.Known.{Known}
use Rattle.dsde_language.specs.declared.signatures.Port.{Port}
use Rattle.dsde_language.specs.Steps.{above}
use Rattle.dsde_language.specs.Types.{item_type}
use Rattle.dsde_language.specs.Judge.{fresh, fixed, judge}
use Rattle.dsde_language.specs.Judge as rules
use Rattle.dsde_language.specs.Blocks.{Passed, inner}
use Rattle.dsde_language.specs.Blocks as rule_blocks
use Rattle.dsde_language.specs.declared.act.Act.{Act}
use Rattle.dsde_language.specs.declared.node.Node.{Node}
use Rattle.dsde_language.specs.Names.{with_slot}
use Rattle.dsde_language.specs.Typing.{item_in}
use Rattle.dsde_language.specs.Expressions.{resolve, expr_id}
use Rattle.dsde_language.specs.Pieces.{Block, Next, Piece, Step, all}
use Rattle.dsde_language.specs.Statements as said
use Rattle.dsde_language.specs.Outcome.{Outcome, ◌>>=◌, items_of}
use Rattle.dsde_language.specs.Meaning as meaning
use Rattle.dsde_language.specs.Meaning.{Function, Walk, mean, walk_all, for_walk}
use Rattle.dsde_language.specs.MeaningTables.{Coded, means_in, act_flow, for_each}
use Rattle.dsde_language.specs.Proper as proper
use Rattle.dsde_language.specs.Proper.{is_plain, is_proper, all_so}
use Rattle.dsde_language.specs.Typed.{Typed, Sound, values_in, shown}
use Rattle.dsde_language.specs.Scopes.{Sees}
use Rattle.dsde_sound_expressions.specs.lemmas.Values.{IsList, items-sound}
use Rattle.dsde_sound_expressions.specs.lemmas.Outcomes.{sound-then}
use Rattle.dsde_sound_expressions.specs.lemmas.Types.{item-is, item-in-list}
use Rattle.dsde_sound_expressions.specs.lemmas.Steps.{went, ok-is}
use Rattle.dsde_sound_expressions.specs.lemmas.Truths.{and-left, and-right}
use Rattle.dsde_sound_expressions.specs.lemmas.Standing.{stands-left, stands-right}
use Rattle.dsde_sound_expressions.specs.lemmas.Fitting.{field_of}
use Rattle.dsde_sound_expressions.specs.lemmas.Seeing.{sees-snoc, fresh-new, slot-behind}
use Rattle.dsde_sound_expressions.proofs.Shows.{shows-over, shows-where}
use Rattle.dsde_sound_expressions.proofs.Does.{Ready, Done, Does, AllDo, Exprs, within_braces, behind_nodes, block_id, not-cut}
use Rattle.dsde_sound_expressions.proofs.Braces.{walk-rises, Held, for-shows}

module _ (types : Types) (coded : Coded) (whole : Known) (functions : List Function) (around : Around) (ports : List Port) (outs : List Field) (exprs : Exprs types coded whole functions around outs) where
  abbrev E : Bool
  E = around.has_elapsed

  pub for-does : (name : Id) (e : Expr) (P : List Bool) (J : List rule_blocks.Walk) (R : List (Step Act)) (W : List Walk) → AllDo types coded E outs (all_so P) J (all R) (walk_all W)
      → Does types coded E outs act_flow (proper.stmt_step (Stmt-F.For name e P)) (rule_blocks.stmt_step around ports (Stmt-F.For name e J))
      (said.stmt_step whole outs (Stmt-F.For name e R)) (meaning.stmt_step whole functions outs (Stmt-F.For name e W))
  for-does name e P J R W body = record {
    does = λ plain scope passed slots next h sees.
        let agrees = exprs e (and-left (is_proper e) (all_so P) (and-right (is_plain name) _ plain)) in
        let w1 = went (fresh around name scope) _ passed h in
        let w2 = went (judge around e scope) _ passed w1.next in
        let w3 = went (item_type w2.value) _ passed w2.next in
        let t : Ty = w3.value in
        let more : rules.Scope = scope ++ fixed name t ∷ [] in
        let w4 = went (inner J w2.value.height more) _ passed w3.next in
        let w5 = went (rule_blocks.walk_all J w2.value.height more) _ w4.value w4.first in
        let high : w5.value.height ≡ w4.value = ok-is w5.value.height w4.value w5.next in
        let rises : w2.value.height ≤ w5.value.height = walk-rises J w2.value.height more w5.value w5.first in
        let own : w2.value.ty ≡ ty.List t = item-is w2.value t w3.first in
        let behind : Passed = record { scope = scope; height = above w4.value } in
        let nodes : List Node = (resolve whole e).nodes slots next.node in
        let next1 : Next = behind_nodes next (length nodes) in
        let last : List Field = slots ++ field_of name.name t ∷ [] in
        let inside : List Field = with_slot slots name.name (item_in ((resolve whole e).ty slots)) in
        let new = fresh-new E scope slots sees around name w1.value w1.first (and-left (is_plain name) _ plain) in
        let same : inside ≡ last =
        ap (λ (own : Ty). with_slot slots name.name own) (ap item_in (agrees.ty scope slots w2.value w2.first sees ∙ own) ∙ item-in-list t) ∙ slot-behind slots name.name t new in
        let sees2 : Sees E more inside = subst (λ (s : List Field). Sees E more s) (sym same) (sees-snoc E scope slots sees (fixed name t) new) in
        let held : Piece Block = all R inside (within_braces next1) in
        let done = body.does (and-right (is_proper e) (all_so P) (and-right (is_plain name) _ plain)) w2.value.height more w5.value inside (within_braces next1) w5.first sees2 in
        subst (λ (p : Passed). Done types coded E outs act_flow p slots next (said.stmt_step whole outs (Stmt-F.For name e R) slots next) (meaning.stmt_step whole functions outs (Stmt-F.For name e W)))
        (ok-is behind passed w4.next)
        (record {
          more = [];
          grows = sym (append-nil slots);
          sees = sees;
          shows = λ before depth fits sent.
              let If : Type 0 = Ready types coded E outs next (nodes ++ (held.nodes ++ [])) ((held.own ∷ held.blocks) ++ []) (above w4.value) depth in
              shows-over types outs If around.is_total (IsList types t) slots before
              (mean whole functions e before.vars >>= (λ v. items_of v)) ((means_in coded depth).part (expr_id next.node) (values_in before.vars) >>= (λ v. items_of v)) _ _
              (sound-then around.is_total (Typed types (ty.List t)) (IsList types t) (mean whole functions e before.vars) _
              (subst (λ (u : Ty). Sound around.is_total (Typed types u) (mean whole functions e before.vars)) own (agrees.sound scope slots w2.value before.vars w2.first sees fits))
              (λ v typed. items-sound types around.is_total v t typed))
              (λ ready.
              let low : w4.value + 1 ≤ 512 = not-cut w4.value 512 ready.low ready.low in
              let deep : w4.value + 1 ≤ depth = not-cut w4.value depth ready.low ready.deep in
              ap (λ (o : Outcome Value). o >>= (λ v. items_of v))
              (agrees.reads scope slots w2.value before.vars next.node depth w2.first sees fits (stands-left coded.nodes next.node nodes (held.nodes ++ []) ready.code)
              (omega (arith, rises, high, low)) (omega (arith, rises, high, deep))))
              sent
              (λ items list.
              shows-where types outs (Held types coded E outs w5.value inside next1 held (walk_all W) done depth) If slots (for_walk name.name (walk_all W) items before) (for_each (means_in coded depth).run (block_id next.block) items (shown before))
              (for-shows types coded E outs w5.value slots inside name.name t same next1 held (walk_all W) done items list.have before depth fits sent)
              (λ ready.
              let low : w4.value + 1 ≤ 512 = not-cut w4.value 512 ready.low ready.low in
              let deep : w4.value + 1 ≤ depth = not-cut w4.value depth ready.low ready.deep in
              record {
                code = stands-left coded.nodes (next.node + length nodes) held.nodes [] (stands-right coded.nodes next.node nodes (held.nodes ++ []) ready.code);
                acts = stands-left coded.blocks next.block (held.own ∷ held.blocks) [] ready.acts;
                low = omega (arith, high, low);
                deep = omega (arith, high, deep);
              }));
        });
  }
