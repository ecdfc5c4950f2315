-- What is laid, form by form, and that a table grows. A comprehension: its list, over its name the condition and
-- the value, and its node before them.
use Rattle.std.proofs.Common.{◌-◌, List, length, map, slice_set, refl, ap, ◌∙◌, sym, arith}
use Rattle.std.specs.Option.{option_map}
use Rattle.dsde_syntax.specs.declared.expr.Expr.{Expr}
use Rattle.dsde_syntax.specs.declared.expr.ExprArm.{ExprArm}
use Rattle.dsde_syntax.specs.declared.expr.FieldSet.{FieldSet}
use Rattle.dsde_syntax.specs.declared.expr.SignTail.{SignTail}
use Rattle.dsde_syntax.specs.declared.expr.Suffix.{Suffix}
use Rattle.dsde_syntax.specs.declared.expr.Tail.{Tail}
use Rattle.dsde_syntax.specs.declared.expr.Expr.TheOpen.{Expr-F}
use Rattle.dsde_syntax.specs.declared.expr.Expr.TheVariants as expr
use Rattle.dsde_language.specs.declared.operator.Binary.{Binary}
use Rattle.dsde_language.specs.declared.operator.Binary.TheVariants as binary
use Rattle.dsde_language.specs.declared.node_ids.ExprId.{ExprId}
use Rattle.dsde_language.specs.declared.node.Node.TheVariants as node
use Rattle.dsde_language.specs.declared.node.NodeArm.{NodeArm}
use Rattle.dsde_language.specs.Names.{Scope}
use Rattle.dsde_language.specs.Expressions.{expr_id}
use Rattle.dsde_language.specs.DeclaredOperators.{sign_binary}
use Rattle.dsde_program_layout.specs.Lay.{Table, Laid, Lay, Arm, lay, lay_set, lay_arm, lay_tail, lay_sign_tail, lay_suffix, roomy, words_of}
use Rattle.dsde_program_expressions.proofs.Forms.{types, tables, laid_type, laid_table, chain_types, chain_tables}
use Rattle.dsde_program_expressions.proofs.Growth.{grown}
use Rattle.dsde_program_expressions.proofs.Loops.{next_all, next_numbers, next_head, next_arms, next_arm_numbers, next_links}
use Rattle.dsde_program_expressions.proofs.Nodes.{one_table, two_type, two_table, if_type, if_table}
use Rattle.dsde_program_expressions.proofs.Comprehensions.{comprehension, each_type, each_table}
use Rattle.dsde_program_expressions.proofs.Parts.{set_is, arm_is, tail_is, sign_tail_is, joined}
use Rattle.dsde_program_expressions.proofs.resolver.Resolver.+resolving.Goals as goal

-- an arm of these numbers
abbrev the_arm : ExprId → ExprId → NodeArm
the_arm cond value = record { cond = cond; value = value }

pub form-returns-in_ok-ty-in-Each-clause-ty : goal.form-returns-in_ok-ty-in-Each-clause-ty
form-returns-in_ok-ty-in-Each-clause-ty t c =
    each_type c.in-Each.name (lay c.args.self.now c.get-in-Each.result.now) (option_map (lay c.args.self.now) c.in-Each.cond) (lay c.args.self.now c.get-in-Each-2.result.now) c.args.scope.now c.args.nodes.now
    c.over.new.scope c.cond.new.scope c.over.new.nodes c.cond.new.nodes
    c.put-in-Each.result.ty c.in_ok-ty-in-Each.ty c.in_ok-part-in-Each.part.ty
    c.in_ok-begun-in-Each.ensures.scope c.in_ok-begun-in-Each.ensures.nodes c.in_ok-test-in-Each.ensures.nodes c.in_ok-test-in-Each.ensures.scope
    c.put-in-Each.ensures.ty c.in_ok-ty-in-Each.ensures c.in_ok-part-in-Each.ensures.ty
    ∙ ap (λ (laid : Laid). laid.ty) (sym (comprehension c.args.self.now c.args.expr.now c.in-Each.at c.in-Each.name c.in-Each.list c.in-Each.cond c.in-Each.value c.get-in-Each.result.now c.get-in-Each-2.result.now c.args.scope.now c.args.nodes.now c.in-Each.is c.get-in-Each.ensures c.get-in-Each-2.ensures))

pub form-returns-in_ok-ty-in-Each-clause-nodes : goal.form-returns-in_ok-ty-in-Each-clause-nodes
form-returns-in_ok-ty-in-Each-clause-nodes t c =
    each_table c.in-Each.name (lay c.args.self.now c.get-in-Each.result.now) (option_map (lay c.args.self.now) c.in-Each.cond) (lay c.args.self.now c.get-in-Each-2.result.now) c.args.scope.now c.args.nodes.now
    c.over.new.scope c.cond.new.scope c.over.new.nodes c.cond.new.nodes
    c.put-in-Each.new.nodes c.expr-in-Each.new.nodes c.in_ok-begun-in-Each.begun.own c.in_ok-begun-in-Each.begun.part c.in_ok-test-in-Each.test c.in_ok-part-in-Each.part.number
    c.in_ok-begun-in-Each.ensures.scope c.in_ok-begun-in-Each.ensures.nodes c.in_ok-test-in-Each.ensures.nodes c.in_ok-test-in-Each.ensures.scope
    c.put-in-Each.ensures.nodes c.in_ok-part-in-Each.ensures.nodes c.in_ok-begun-in-Each.ensures.own c.in_ok-begun-in-Each.ensures.part c.in_ok-test-in-Each.ensures.number c.in_ok-part-in-Each.ensures.number
    ∙ ap (λ (laid : Laid). laid.table) (sym (comprehension c.args.self.now c.args.expr.now c.in-Each.at c.in-Each.name c.in-Each.list c.in-Each.cond c.in-Each.value c.get-in-Each.result.now c.get-in-Each-2.result.now c.args.scope.now c.args.nodes.now c.in-Each.is c.get-in-Each.ensures c.get-in-Each-2.ensures))

pub expr-returns-clause-grows : goal.expr-returns-clause-grows
expr-returns-clause-grows t c =
    grown c.args.self.now c.args.expr.now c.args.scope.now c.args.nodes.now c.form.new.nodes c.form.result c.laid_is.ensures c.form.ensures.nodes

pub form-returns-in-Number-clause-ty : goal.form-returns-in-Number-clause-ty
form-returns-in-Number-clause-ty t c =
    types c.args.self.now c.args.expr.now (Expr-F.Number c.in-Number.at c.in-Number.value) c.args.scope.now c.args.nodes.now
    (c.in-Number.is ∙ sym (expr.rolls-Number c.in-Number.at c.in-Number.value))
    c.number.result c.number.ensures.ty

pub form-returns-in-Number-clause-nodes : goal.form-returns-in-Number-clause-nodes
form-returns-in-Number-clause-nodes t c =
    tables c.args.self.now c.args.expr.now (Expr-F.Number c.in-Number.at c.in-Number.value) c.args.scope.now c.args.nodes.now
    (c.in-Number.is ∙ sym (expr.rolls-Number c.in-Number.at c.in-Number.value))
    c.number.result c.number.new.nodes c.number.ensures.nodes

pub form-returns-in-Truth-clause-ty : goal.form-returns-in-Truth-clause-ty
form-returns-in-Truth-clause-ty t c =
    types c.args.self.now c.args.expr.now (Expr-F.Truth c.in-Truth.at c.in-Truth.value) c.args.scope.now c.args.nodes.now
    (c.in-Truth.is ∙ sym (expr.rolls-Truth c.in-Truth.at c.in-Truth.value))
    c.leaf.result c.leaf.ensures.ty

pub form-returns-in-Truth-clause-nodes : goal.form-returns-in-Truth-clause-nodes
form-returns-in-Truth-clause-nodes t c =
    tables c.args.self.now c.args.expr.now (Expr-F.Truth c.in-Truth.at c.in-Truth.value) c.args.scope.now c.args.nodes.now
    (c.in-Truth.is ∙ sym (expr.rolls-Truth c.in-Truth.at c.in-Truth.value))
    c.leaf.result c.leaf.new.nodes c.leaf.ensures.nodes

pub form-returns-in-Elapsed-clause-ty : goal.form-returns-in-Elapsed-clause-ty
form-returns-in-Elapsed-clause-ty t c =
    types c.args.self.now c.args.expr.now (Expr-F.Elapsed c.in-Elapsed.field-0) c.args.scope.now c.args.nodes.now
    (c.in-Elapsed.is ∙ sym (expr.rolls-Elapsed c.in-Elapsed.field-0))
    c.elapsed.result c.elapsed.ensures.ty

pub form-returns-in-Elapsed-clause-nodes : goal.form-returns-in-Elapsed-clause-nodes
form-returns-in-Elapsed-clause-nodes t c =
    tables c.args.self.now c.args.expr.now (Expr-F.Elapsed c.in-Elapsed.field-0) c.args.scope.now c.args.nodes.now
    (c.in-Elapsed.is ∙ sym (expr.rolls-Elapsed c.in-Elapsed.field-0))
    c.elapsed.result c.elapsed.new.nodes c.elapsed.ensures.nodes

pub form-returns-in-Name-clause-ty : goal.form-returns-in-Name-clause-ty
form-returns-in-Name-clause-ty t c =
    types c.args.self.now c.args.expr.now (Expr-F.Name c.in-Name.id) c.args.scope.now c.args.nodes.now
    (c.in-Name.is ∙ sym (expr.rolls-Name c.in-Name.id))
    c.name.result c.name.ensures.ty

pub form-returns-in-Name-clause-nodes : goal.form-returns-in-Name-clause-nodes
form-returns-in-Name-clause-nodes t c =
    tables c.args.self.now c.args.expr.now (Expr-F.Name c.in-Name.id) c.args.scope.now c.args.nodes.now
    (c.in-Name.is ∙ sym (expr.rolls-Name c.in-Name.id))
    c.name.result c.name.new.nodes c.name.ensures.nodes

pub form-returns-in-Call-clause-ty : goal.form-returns-in-Call-clause-ty
form-returns-in-Call-clause-ty t c =
    types c.args.self.now c.args.expr.now (Expr-F.Call c.in-Call.name c.as_slice-in-Call.result.now) c.args.scope.now c.args.nodes.now
    (c.in-Call.is ∙ ap (λ (l : List Expr). expr.Call c.in-Call.name l) (sym c.as_slice-in-Call.ensures) ∙ sym (expr.rolls-Call c.in-Call.name c.as_slice-in-Call.result.now))
    c.call.result c.call.ensures.ty

pub form-returns-in-Call-clause-nodes : goal.form-returns-in-Call-clause-nodes
form-returns-in-Call-clause-nodes t c =
    tables c.args.self.now c.args.expr.now (Expr-F.Call c.in-Call.name c.as_slice-in-Call.result.now) c.args.scope.now c.args.nodes.now
    (c.in-Call.is ∙ ap (λ (l : List Expr). expr.Call c.in-Call.name l) (sym c.as_slice-in-Call.ensures) ∙ sym (expr.rolls-Call c.in-Call.name c.as_slice-in-Call.result.now))
    c.call.result c.call.new.nodes c.call.ensures.nodes

pub form-returns-in-Variant-clause-ty : goal.form-returns-in-Variant-clause-ty
form-returns-in-Variant-clause-ty t c =
    types c.args.self.now c.args.expr.now (Expr-F.Variant c.in-Variant.of c.in-Variant.variant) c.args.scope.now c.args.nodes.now
    (c.in-Variant.is ∙ sym (expr.rolls-Variant c.in-Variant.of c.in-Variant.variant))
    c.variant.result c.variant.ensures.ty

pub form-returns-in-Variant-clause-nodes : goal.form-returns-in-Variant-clause-nodes
form-returns-in-Variant-clause-nodes t c =
    tables c.args.self.now c.args.expr.now (Expr-F.Variant c.in-Variant.of c.in-Variant.variant) c.args.scope.now c.args.nodes.now
    (c.in-Variant.is ∙ sym (expr.rolls-Variant c.in-Variant.of c.in-Variant.variant))
    c.variant.result c.variant.new.nodes c.variant.ensures.nodes

pub form-returns-in-New-clause-ty : goal.form-returns-in-New-clause-ty
form-returns-in-New-clause-ty t c =
    types c.args.self.now c.args.expr.now (Expr-F.New c.in-New.at c.in-New.of c.as_slice-in-New.result.now) c.args.scope.now c.args.nodes.now
    (c.in-New.is ∙ ap (λ (l : List FieldSet). expr.New c.in-New.at c.in-New.of l) (sym c.as_slice-in-New.ensures) ∙ sym (expr.rolls-New c.in-New.at c.in-New.of c.as_slice-in-New.result.now))
    c.record.result c.record.ensures.ty

pub form-returns-in-New-clause-nodes : goal.form-returns-in-New-clause-nodes
form-returns-in-New-clause-nodes t c =
    tables c.args.self.now c.args.expr.now (Expr-F.New c.in-New.at c.in-New.of c.as_slice-in-New.result.now) c.args.scope.now c.args.nodes.now
    (c.in-New.is ∙ ap (λ (l : List FieldSet). expr.New c.in-New.at c.in-New.of l) (sym c.as_slice-in-New.ensures) ∙ sym (expr.rolls-New c.in-New.at c.in-New.of c.as_slice-in-New.result.now))
    c.record.result c.record.new.nodes c.record.ensures.nodes

pub form-returns-in-NoneOf-clause-ty : goal.form-returns-in-NoneOf-clause-ty
form-returns-in-NoneOf-clause-ty t c =
    types c.args.self.now c.args.expr.now (Expr-F.NoneOf c.in-NoneOf.at c.in-NoneOf.ty) c.args.scope.now c.args.nodes.now
    (c.in-NoneOf.is ∙ sym (expr.rolls-NoneOf c.in-NoneOf.at c.in-NoneOf.ty))
    c.none.result c.none.ensures.ty

pub form-returns-in-NoneOf-clause-nodes : goal.form-returns-in-NoneOf-clause-nodes
form-returns-in-NoneOf-clause-nodes t c =
    tables c.args.self.now c.args.expr.now (Expr-F.NoneOf c.in-NoneOf.at c.in-NoneOf.ty) c.args.scope.now c.args.nodes.now
    (c.in-NoneOf.is ∙ sym (expr.rolls-NoneOf c.in-NoneOf.at c.in-NoneOf.ty))
    c.none.result c.none.new.nodes c.none.ensures.nodes

pub form-returns-in-EmptyOf-clause-ty : goal.form-returns-in-EmptyOf-clause-ty
form-returns-in-EmptyOf-clause-ty t c =
    types c.args.self.now c.args.expr.now (Expr-F.EmptyOf c.in-EmptyOf.at c.in-EmptyOf.ty) c.args.scope.now c.args.nodes.now
    (c.in-EmptyOf.is ∙ sym (expr.rolls-EmptyOf c.in-EmptyOf.at c.in-EmptyOf.ty))
    c.empty.result c.empty.ensures.ty

pub form-returns-in-EmptyOf-clause-nodes : goal.form-returns-in-EmptyOf-clause-nodes
form-returns-in-EmptyOf-clause-nodes t c =
    tables c.args.self.now c.args.expr.now (Expr-F.EmptyOf c.in-EmptyOf.at c.in-EmptyOf.ty) c.args.scope.now c.args.nodes.now
    (c.in-EmptyOf.is ∙ sym (expr.rolls-EmptyOf c.in-EmptyOf.at c.in-EmptyOf.ty))
    c.empty.result c.empty.new.nodes c.empty.ensures.nodes

pub form-returns-in-Builtin-clause-ty : goal.form-returns-in-Builtin-clause-ty
form-returns-in-Builtin-clause-ty t c =
    types c.args.self.now c.args.expr.now (Expr-F.Builtin c.in-Builtin.which c.in-Builtin.at c.as_slice-in-Builtin.result.now) c.args.scope.now c.args.nodes.now
    (c.in-Builtin.is ∙ ap (λ (l : List Expr). expr.Builtin c.in-Builtin.which c.in-Builtin.at l) (sym c.as_slice-in-Builtin.ensures) ∙ sym (expr.rolls-Builtin c.in-Builtin.which c.in-Builtin.at c.as_slice-in-Builtin.result.now))
    c.builtin.result c.builtin.ensures.ty

pub form-returns-in-Builtin-clause-nodes : goal.form-returns-in-Builtin-clause-nodes
form-returns-in-Builtin-clause-nodes t c =
    tables c.args.self.now c.args.expr.now (Expr-F.Builtin c.in-Builtin.which c.in-Builtin.at c.as_slice-in-Builtin.result.now) c.args.scope.now c.args.nodes.now
    (c.in-Builtin.is ∙ ap (λ (l : List Expr). expr.Builtin c.in-Builtin.which c.in-Builtin.at l) (sym c.as_slice-in-Builtin.ensures) ∙ sym (expr.rolls-Builtin c.in-Builtin.which c.in-Builtin.at c.as_slice-in-Builtin.result.now))
    c.builtin.result c.builtin.new.nodes c.builtin.ensures.nodes

pub form-returns-in-Paren-clause-ty : goal.form-returns-in-Paren-clause-ty
form-returns-in-Paren-clause-ty t c =
    types c.args.self.now c.args.expr.now (Expr-F.Paren c.in-Paren.at c.get-in-Paren.result.now) c.args.scope.now c.args.nodes.now
    (c.in-Paren.is ∙ ap (λ (e : Expr). expr.Paren c.in-Paren.at e) (sym c.get-in-Paren.ensures) ∙ sym (expr.rolls-Paren c.in-Paren.at c.get-in-Paren.result.now))
    c.expr-in-Paren.result c.expr-in-Paren.ensures.ty

pub form-returns-in-Paren-clause-nodes : goal.form-returns-in-Paren-clause-nodes
form-returns-in-Paren-clause-nodes t c =
    tables c.args.self.now c.args.expr.now (Expr-F.Paren c.in-Paren.at c.get-in-Paren.result.now) c.args.scope.now c.args.nodes.now
    (c.in-Paren.is ∙ ap (λ (e : Expr). expr.Paren c.in-Paren.at e) (sym c.get-in-Paren.ensures) ∙ sym (expr.rolls-Paren c.in-Paren.at c.get-in-Paren.result.now))
    c.expr-in-Paren.result c.expr-in-Paren.new.nodes c.expr-in-Paren.ensures.nodes

pub form-returns-in-List-clause-ty : goal.form-returns-in-List-clause-ty
form-returns-in-List-clause-ty t c =
    types c.args.self.now c.args.expr.now (Expr-F.List c.in-List.at c.as_slice-in-List.result.now) c.args.scope.now c.args.nodes.now
    (c.in-List.is ∙ ap (λ (l : List Expr). expr.List c.in-List.at l) (sym c.as_slice-in-List.ensures) ∙ sym (expr.rolls-List c.in-List.at c.as_slice-in-List.result.now))
    c.list.result c.list.ensures.ty

pub form-returns-in-List-clause-nodes : goal.form-returns-in-List-clause-nodes
form-returns-in-List-clause-nodes t c =
    tables c.args.self.now c.args.expr.now (Expr-F.List c.in-List.at c.as_slice-in-List.result.now) c.args.scope.now c.args.nodes.now
    (c.in-List.is ∙ ap (λ (l : List Expr). expr.List c.in-List.at l) (sym c.as_slice-in-List.ensures) ∙ sym (expr.rolls-List c.in-List.at c.as_slice-in-List.result.now))
    c.list.result c.list.new.nodes c.list.ensures.nodes

pub form-returns-in_ok-left-in-Or-clause-ty : goal.form-returns-in_ok-left-in-Or-clause-ty
form-returns-in_ok-left-in-Or-clause-ty t c =
    chain_types c.args.self.now c.args.expr.now (Expr-F.Or c.get-in-Or.result.now c.as_slice.result.now) c.args.scope.now c.args.nodes.now
    (c.in-Or.is ∙ ap (λ (l : List Tail). expr.Or c.in-Or.first l) (sym c.as_slice.ensures) ∙ ap (λ (e : Expr). expr.Or e c.as_slice.result.now) (sym c.get-in-Or.ensures) ∙ sym (expr.rolls-Or c.get-in-Or.result.now c.as_slice.result.now))
    (lay c.args.self.now c.get-in-Or.result.now) (words_of binary.Or (map (lay_tail c.args.self.now) c.as_slice.result.now)) (words_of binary.Or (map (lay_tail c.args.self.now) c.as_slice-in-Or.result.now))
    c.before_words.new.scope c.before_words.new.nodes c.in_ok-left-in-Or.left.ty c.in_ok-left-in-Or.left.number c.tails.result
    (record { chain = refl; links_is = ap (λ (l : List Tail). words_of binary.Or (map (lay_tail c.args.self.now) l)) (c.as_slice-in-Or.ensures ∙ sym c.as_slice.ensures); scope_is = c.in_ok-left-in-Or.ensures.scope; number_is = c.in_ok-left-in-Or.ensures.number; ty_is = c.in_ok-left-in-Or.ensures.ty; table_is = c.in_ok-left-in-Or.ensures.nodes })
    c.tails.ensures.ty

pub form-returns-in_ok-left-in-Or-clause-nodes : goal.form-returns-in_ok-left-in-Or-clause-nodes
form-returns-in_ok-left-in-Or-clause-nodes t c =
    chain_tables c.args.self.now c.args.expr.now (Expr-F.Or c.get-in-Or.result.now c.as_slice.result.now) c.args.scope.now c.args.nodes.now
    (c.in-Or.is ∙ ap (λ (l : List Tail). expr.Or c.in-Or.first l) (sym c.as_slice.ensures) ∙ ap (λ (e : Expr). expr.Or e c.as_slice.result.now) (sym c.get-in-Or.ensures) ∙ sym (expr.rolls-Or c.get-in-Or.result.now c.as_slice.result.now))
    (lay c.args.self.now c.get-in-Or.result.now) (words_of binary.Or (map (lay_tail c.args.self.now) c.as_slice.result.now)) (words_of binary.Or (map (lay_tail c.args.self.now) c.as_slice-in-Or.result.now))
    c.before_words.new.scope c.before_words.new.nodes c.in_ok-left-in-Or.left.ty c.in_ok-left-in-Or.left.number c.tails.result
    (record { chain = refl; links_is = ap (λ (l : List Tail). words_of binary.Or (map (lay_tail c.args.self.now) l)) (c.as_slice-in-Or.ensures ∙ sym c.as_slice.ensures); scope_is = c.in_ok-left-in-Or.ensures.scope; number_is = c.in_ok-left-in-Or.ensures.number; ty_is = c.in_ok-left-in-Or.ensures.ty; table_is = c.in_ok-left-in-Or.ensures.nodes })
    c.tails.new.nodes c.tails.ensures.nodes

pub form-returns-in_ok-left-in-And-clause-ty : goal.form-returns-in_ok-left-in-And-clause-ty
form-returns-in_ok-left-in-And-clause-ty t c =
    chain_types c.args.self.now c.args.expr.now (Expr-F.And c.get-in-And.result.now c.as_slice-in-And.result.now) c.args.scope.now c.args.nodes.now
    (c.in-And.is ∙ ap (λ (l : List Tail). expr.And c.in-And.first l) (sym c.as_slice-in-And.ensures) ∙ ap (λ (e : Expr). expr.And e c.as_slice-in-And.result.now) (sym c.get-in-And.ensures) ∙ sym (expr.rolls-And c.get-in-And.result.now c.as_slice-in-And.result.now))
    (lay c.args.self.now c.get-in-And.result.now) (words_of binary.And (map (lay_tail c.args.self.now) c.as_slice-in-And.result.now)) (words_of binary.And (map (lay_tail c.args.self.now) c.as_slice-in-And-2.result.now))
    c.before_words-in-And.new.scope c.before_words-in-And.new.nodes c.in_ok-left-in-And.left.ty c.in_ok-left-in-And.left.number c.tails-in-And.result
    (record { chain = refl; links_is = ap (λ (l : List Tail). words_of binary.And (map (lay_tail c.args.self.now) l)) (c.as_slice-in-And-2.ensures ∙ sym c.as_slice-in-And.ensures); scope_is = c.in_ok-left-in-And.ensures.scope; number_is = c.in_ok-left-in-And.ensures.number; ty_is = c.in_ok-left-in-And.ensures.ty; table_is = c.in_ok-left-in-And.ensures.nodes })
    c.tails-in-And.ensures.ty

pub form-returns-in_ok-left-in-And-clause-nodes : goal.form-returns-in_ok-left-in-And-clause-nodes
form-returns-in_ok-left-in-And-clause-nodes t c =
    chain_tables c.args.self.now c.args.expr.now (Expr-F.And c.get-in-And.result.now c.as_slice-in-And.result.now) c.args.scope.now c.args.nodes.now
    (c.in-And.is ∙ ap (λ (l : List Tail). expr.And c.in-And.first l) (sym c.as_slice-in-And.ensures) ∙ ap (λ (e : Expr). expr.And e c.as_slice-in-And.result.now) (sym c.get-in-And.ensures) ∙ sym (expr.rolls-And c.get-in-And.result.now c.as_slice-in-And.result.now))
    (lay c.args.self.now c.get-in-And.result.now) (words_of binary.And (map (lay_tail c.args.self.now) c.as_slice-in-And.result.now)) (words_of binary.And (map (lay_tail c.args.self.now) c.as_slice-in-And-2.result.now))
    c.before_words-in-And.new.scope c.before_words-in-And.new.nodes c.in_ok-left-in-And.left.ty c.in_ok-left-in-And.left.number c.tails-in-And.result
    (record { chain = refl; links_is = ap (λ (l : List Tail). words_of binary.And (map (lay_tail c.args.self.now) l)) (c.as_slice-in-And-2.ensures ∙ sym c.as_slice-in-And.ensures); scope_is = c.in_ok-left-in-And.ensures.scope; number_is = c.in_ok-left-in-And.ensures.number; ty_is = c.in_ok-left-in-And.ensures.ty; table_is = c.in_ok-left-in-And.ensures.nodes })
    c.tails-in-And.new.nodes c.tails-in-And.ensures.nodes

pub form-returns-in_ok-left-in-Sum-clause-ty : goal.form-returns-in_ok-left-in-Sum-clause-ty
form-returns-in_ok-left-in-Sum-clause-ty t c =
    chain_types c.args.self.now c.args.expr.now (Expr-F.Sum c.get-in-Sum.result.now c.as_slice-in-Sum.result.now) c.args.scope.now c.args.nodes.now
    (c.in-Sum.is ∙ ap (λ (l : List SignTail). expr.Sum c.in-Sum.first l) (sym c.as_slice-in-Sum.ensures) ∙ ap (λ (e : Expr). expr.Sum e c.as_slice-in-Sum.result.now) (sym c.get-in-Sum.ensures) ∙ sym (expr.rolls-Sum c.get-in-Sum.result.now c.as_slice-in-Sum.result.now))
    (lay c.args.self.now c.get-in-Sum.result.now) (map (lay_sign_tail c.args.self.now) c.as_slice-in-Sum.result.now) (map (lay_sign_tail c.args.self.now) c.as_slice-in-Sum-2.result.now)
    c.before_signs.new.scope c.before_signs.new.nodes c.in_ok-left-in-Sum.left.ty c.in_ok-left-in-Sum.left.number c.sign_tails.result
    (record { chain = refl; links_is = ap (λ (l : List SignTail). map (lay_sign_tail c.args.self.now) l) (c.as_slice-in-Sum-2.ensures ∙ sym c.as_slice-in-Sum.ensures); scope_is = c.in_ok-left-in-Sum.ensures.scope; number_is = c.in_ok-left-in-Sum.ensures.number; ty_is = c.in_ok-left-in-Sum.ensures.ty; table_is = c.in_ok-left-in-Sum.ensures.nodes })
    c.sign_tails.ensures.ty

pub form-returns-in_ok-left-in-Sum-clause-nodes : goal.form-returns-in_ok-left-in-Sum-clause-nodes
form-returns-in_ok-left-in-Sum-clause-nodes t c =
    chain_tables c.args.self.now c.args.expr.now (Expr-F.Sum c.get-in-Sum.result.now c.as_slice-in-Sum.result.now) c.args.scope.now c.args.nodes.now
    (c.in-Sum.is ∙ ap (λ (l : List SignTail). expr.Sum c.in-Sum.first l) (sym c.as_slice-in-Sum.ensures) ∙ ap (λ (e : Expr). expr.Sum e c.as_slice-in-Sum.result.now) (sym c.get-in-Sum.ensures) ∙ sym (expr.rolls-Sum c.get-in-Sum.result.now c.as_slice-in-Sum.result.now))
    (lay c.args.self.now c.get-in-Sum.result.now) (map (lay_sign_tail c.args.self.now) c.as_slice-in-Sum.result.now) (map (lay_sign_tail c.args.self.now) c.as_slice-in-Sum-2.result.now)
    c.before_signs.new.scope c.before_signs.new.nodes c.in_ok-left-in-Sum.left.ty c.in_ok-left-in-Sum.left.number c.sign_tails.result
    (record { chain = refl; links_is = ap (λ (l : List SignTail). map (lay_sign_tail c.args.self.now) l) (c.as_slice-in-Sum-2.ensures ∙ sym c.as_slice-in-Sum.ensures); scope_is = c.in_ok-left-in-Sum.ensures.scope; number_is = c.in_ok-left-in-Sum.ensures.number; ty_is = c.in_ok-left-in-Sum.ensures.ty; table_is = c.in_ok-left-in-Sum.ensures.nodes })
    c.sign_tails.new.nodes c.sign_tails.ensures.nodes

pub form-returns-in_ok-left-in-Mul-clause-ty : goal.form-returns-in_ok-left-in-Mul-clause-ty
form-returns-in_ok-left-in-Mul-clause-ty t c =
    chain_types c.args.self.now c.args.expr.now (Expr-F.Mul c.get-in-Mul.result.now c.as_slice-in-Mul.result.now) c.args.scope.now c.args.nodes.now
    (c.in-Mul.is ∙ ap (λ (l : List SignTail). expr.Mul c.in-Mul.first l) (sym c.as_slice-in-Mul.ensures) ∙ ap (λ (e : Expr). expr.Mul e c.as_slice-in-Mul.result.now) (sym c.get-in-Mul.ensures) ∙ sym (expr.rolls-Mul c.get-in-Mul.result.now c.as_slice-in-Mul.result.now))
    (lay c.args.self.now c.get-in-Mul.result.now) (map (lay_sign_tail c.args.self.now) c.as_slice-in-Mul.result.now) (map (lay_sign_tail c.args.self.now) c.as_slice-in-Mul-2.result.now)
    c.before_signs-in-Mul.new.scope c.before_signs-in-Mul.new.nodes c.in_ok-left-in-Mul.left.ty c.in_ok-left-in-Mul.left.number c.sign_tails-in-Mul.result
    (record { chain = refl; links_is = ap (λ (l : List SignTail). map (lay_sign_tail c.args.self.now) l) (c.as_slice-in-Mul-2.ensures ∙ sym c.as_slice-in-Mul.ensures); scope_is = c.in_ok-left-in-Mul.ensures.scope; number_is = c.in_ok-left-in-Mul.ensures.number; ty_is = c.in_ok-left-in-Mul.ensures.ty; table_is = c.in_ok-left-in-Mul.ensures.nodes })
    c.sign_tails-in-Mul.ensures.ty

pub form-returns-in_ok-left-in-Mul-clause-nodes : goal.form-returns-in_ok-left-in-Mul-clause-nodes
form-returns-in_ok-left-in-Mul-clause-nodes t c =
    chain_tables c.args.self.now c.args.expr.now (Expr-F.Mul c.get-in-Mul.result.now c.as_slice-in-Mul.result.now) c.args.scope.now c.args.nodes.now
    (c.in-Mul.is ∙ ap (λ (l : List SignTail). expr.Mul c.in-Mul.first l) (sym c.as_slice-in-Mul.ensures) ∙ ap (λ (e : Expr). expr.Mul e c.as_slice-in-Mul.result.now) (sym c.get-in-Mul.ensures) ∙ sym (expr.rolls-Mul c.get-in-Mul.result.now c.as_slice-in-Mul.result.now))
    (lay c.args.self.now c.get-in-Mul.result.now) (map (lay_sign_tail c.args.self.now) c.as_slice-in-Mul.result.now) (map (lay_sign_tail c.args.self.now) c.as_slice-in-Mul-2.result.now)
    c.before_signs-in-Mul.new.scope c.before_signs-in-Mul.new.nodes c.in_ok-left-in-Mul.left.ty c.in_ok-left-in-Mul.left.number c.sign_tails-in-Mul.result
    (record { chain = refl; links_is = ap (λ (l : List SignTail). map (lay_sign_tail c.args.self.now) l) (c.as_slice-in-Mul-2.ensures ∙ sym c.as_slice-in-Mul.ensures); scope_is = c.in_ok-left-in-Mul.ensures.scope; number_is = c.in_ok-left-in-Mul.ensures.number; ty_is = c.in_ok-left-in-Mul.ensures.ty; table_is = c.in_ok-left-in-Mul.ensures.nodes })
    c.sign_tails-in-Mul.new.nodes c.sign_tails-in-Mul.ensures.nodes

pub form-returns-in_ok-left-in-Post-clause-ty : goal.form-returns-in_ok-left-in-Post-clause-ty
form-returns-in_ok-left-in-Post-clause-ty t c =
    chain_types c.args.self.now c.args.expr.now (Expr-F.Post c.get-in-Post.result.now c.as_slice-in-Post.result.now) c.args.scope.now c.args.nodes.now
    (c.in-Post.is ∙ ap (λ (l : List Suffix). expr.Post c.in-Post.first l) (sym c.as_slice-in-Post.ensures) ∙ ap (λ (e : Expr). expr.Post e c.as_slice-in-Post.result.now) (sym c.get-in-Post.ensures) ∙ sym (expr.rolls-Post c.get-in-Post.result.now c.as_slice-in-Post.result.now))
    (lay c.args.self.now c.get-in-Post.result.now) (map (lay_suffix c.args.self.now) c.as_slice-in-Post.result.now) (map (lay_suffix c.args.self.now) c.as_slice-in-Post-2.result.now)
    c.before_suffixes.new.scope c.before_suffixes.new.nodes c.in_ok-left-in-Post.left.ty c.in_ok-left-in-Post.left.number c.suffixes.result
    (record { chain = refl; links_is = ap (λ (l : List Suffix). map (lay_suffix c.args.self.now) l) (c.as_slice-in-Post-2.ensures ∙ sym c.as_slice-in-Post.ensures); scope_is = c.in_ok-left-in-Post.ensures.scope; number_is = c.in_ok-left-in-Post.ensures.number; ty_is = c.in_ok-left-in-Post.ensures.ty; table_is = c.in_ok-left-in-Post.ensures.nodes })
    c.suffixes.ensures.ty

pub form-returns-in_ok-left-in-Post-clause-nodes : goal.form-returns-in_ok-left-in-Post-clause-nodes
form-returns-in_ok-left-in-Post-clause-nodes t c =
    chain_tables c.args.self.now c.args.expr.now (Expr-F.Post c.get-in-Post.result.now c.as_slice-in-Post.result.now) c.args.scope.now c.args.nodes.now
    (c.in-Post.is ∙ ap (λ (l : List Suffix). expr.Post c.in-Post.first l) (sym c.as_slice-in-Post.ensures) ∙ ap (λ (e : Expr). expr.Post e c.as_slice-in-Post.result.now) (sym c.get-in-Post.ensures) ∙ sym (expr.rolls-Post c.get-in-Post.result.now c.as_slice-in-Post.result.now))
    (lay c.args.self.now c.get-in-Post.result.now) (map (lay_suffix c.args.self.now) c.as_slice-in-Post.result.now) (map (lay_suffix c.args.self.now) c.as_slice-in-Post-2.result.now)
    c.before_suffixes.new.scope c.before_suffixes.new.nodes c.in_ok-left-in-Post.left.ty c.in_ok-left-in-Post.left.number c.suffixes.result
    (record { chain = refl; links_is = ap (λ (l : List Suffix). map (lay_suffix c.args.self.now) l) (c.as_slice-in-Post-2.ensures ∙ sym c.as_slice-in-Post.ensures); scope_is = c.in_ok-left-in-Post.ensures.scope; number_is = c.in_ok-left-in-Post.ensures.number; ty_is = c.in_ok-left-in-Post.ensures.ty; table_is = c.in_ok-left-in-Post.ensures.nodes })
    c.suffixes.new.nodes c.suffixes.ensures.nodes

pub form-returns-in_ok-other-in-OrElse-clause-ty : goal.form-returns-in_ok-other-in-OrElse-clause-ty
form-returns-in_ok-other-in-OrElse-clause-ty t c =
    two_type (lay c.args.self.now c.get.result.now) (lay c.args.self.now c.get-in-OrElse.result.now) c.args.scope.now c.begin.new.scope c.args.nodes.now c.begin.new.nodes c.in_ok-begun-in-OrElse.ensures.scope c.in_ok-begun-in-OrElse.ensures.nodes
    c.put.result.ty (c.put.ensures.ty ∙ c.in_ok-other-in-OrElse.ensures.ty)
    ∙ laid_type c.args.self.now c.args.expr.now (Expr-F.OrElse c.in-OrElse.at c.get.result.now c.get-in-OrElse.result.now) c.args.scope.now c.args.nodes.now
    (c.in-OrElse.is ∙ ap (λ (e : Expr). expr.OrElse c.in-OrElse.at e c.in-OrElse.right) (sym c.get.ensures) ∙ ap (λ (e : Expr). expr.OrElse c.in-OrElse.at c.get.result.now e) (sym c.get-in-OrElse.ensures) ∙ sym (expr.rolls-OrElse c.in-OrElse.at c.get.result.now c.get-in-OrElse.result.now))

pub form-returns-in_ok-other-in-OrElse-clause-nodes : goal.form-returns-in_ok-other-in-OrElse-clause-nodes
form-returns-in_ok-other-in-OrElse-clause-nodes t c =
    two_table (lay c.args.self.now c.get.result.now) (lay c.args.self.now c.get-in-OrElse.result.now) c.args.scope.now c.begin.new.scope c.args.nodes.now c.begin.new.nodes c.in_ok-begun-in-OrElse.ensures.scope c.in_ok-begun-in-OrElse.ensures.nodes
    (node.OrElse) c.put.new.nodes c.expr.new.nodes c.in_ok-begun-in-OrElse.begun.own c.in_ok-begun-in-OrElse.begun.part c.in_ok-other-in-OrElse.other.number c.put.ensures.nodes c.in_ok-other-in-OrElse.ensures.nodes c.in_ok-begun-in-OrElse.ensures.own c.in_ok-begun-in-OrElse.ensures.part c.in_ok-other-in-OrElse.ensures.number
    ∙ laid_table c.args.self.now c.args.expr.now (Expr-F.OrElse c.in-OrElse.at c.get.result.now c.get-in-OrElse.result.now) c.args.scope.now c.args.nodes.now
    (c.in-OrElse.is ∙ ap (λ (e : Expr). expr.OrElse c.in-OrElse.at e c.in-OrElse.right) (sym c.get.ensures) ∙ ap (λ (e : Expr). expr.OrElse c.in-OrElse.at c.get.result.now e) (sym c.get-in-OrElse.ensures) ∙ sym (expr.rolls-OrElse c.in-OrElse.at c.get.result.now c.get-in-OrElse.result.now))

pub form-returns-in_ok-other-in-Compare-clause-ty : goal.form-returns-in_ok-other-in-Compare-clause-ty
form-returns-in_ok-other-in-Compare-clause-ty t c =
    c.put-in-Compare.ensures.ty
    ∙ laid_type c.args.self.now c.args.expr.now (Expr-F.Compare c.in-Compare.sign c.in-Compare.at c.get-in-Compare.result.now c.get-in-Compare-2.result.now) c.args.scope.now c.args.nodes.now
    (c.in-Compare.is ∙ ap (λ (e : Expr). expr.Compare c.in-Compare.sign c.in-Compare.at e c.in-Compare.right) (sym c.get-in-Compare.ensures) ∙ ap (λ (e : Expr). expr.Compare c.in-Compare.sign c.in-Compare.at c.get-in-Compare.result.now e) (sym c.get-in-Compare-2.ensures) ∙ sym (expr.rolls-Compare c.in-Compare.sign c.in-Compare.at c.get-in-Compare.result.now c.get-in-Compare-2.result.now))

pub form-returns-in_ok-other-in-Compare-clause-nodes : goal.form-returns-in_ok-other-in-Compare-clause-nodes
form-returns-in_ok-other-in-Compare-clause-nodes t c =
    two_table (lay c.args.self.now c.get-in-Compare.result.now) (lay c.args.self.now c.get-in-Compare-2.result.now) c.args.scope.now c.begin-in-Compare.new.scope c.args.nodes.now c.begin-in-Compare.new.nodes c.in_ok-begun-in-Compare.ensures.scope c.in_ok-begun-in-Compare.ensures.nodes
    (node.Binary (sign_binary c.in-Compare.sign) c.in-Compare.at) c.put-in-Compare.new.nodes c.expr-in-Compare.new.nodes c.in_ok-begun-in-Compare.begun.own c.in_ok-begun-in-Compare.begun.part c.in_ok-other-in-Compare.other.number (c.put-in-Compare.ensures.nodes ∙ ap (λ (b : Binary). slice_set c.expr-in-Compare.new.nodes c.in_ok-begun-in-Compare.begun.own (node.Binary b c.in-Compare.at c.in_ok-begun-in-Compare.begun.part c.in_ok-other-in-Compare.other.number)) c.sign_binary.ensures) c.in_ok-other-in-Compare.ensures.nodes c.in_ok-begun-in-Compare.ensures.own c.in_ok-begun-in-Compare.ensures.part c.in_ok-other-in-Compare.ensures.number
    ∙ laid_table c.args.self.now c.args.expr.now (Expr-F.Compare c.in-Compare.sign c.in-Compare.at c.get-in-Compare.result.now c.get-in-Compare-2.result.now) c.args.scope.now c.args.nodes.now
    (c.in-Compare.is ∙ ap (λ (e : Expr). expr.Compare c.in-Compare.sign c.in-Compare.at e c.in-Compare.right) (sym c.get-in-Compare.ensures) ∙ ap (λ (e : Expr). expr.Compare c.in-Compare.sign c.in-Compare.at c.get-in-Compare.result.now e) (sym c.get-in-Compare-2.ensures) ∙ sym (expr.rolls-Compare c.in-Compare.sign c.in-Compare.at c.get-in-Compare.result.now c.get-in-Compare-2.result.now))

pub form-returns-in_ok-begun-in-Not-clause-ty : goal.form-returns-in_ok-begun-in-Not-clause-ty
form-returns-in_ok-begun-in-Not-clause-ty t c =
    c.put-in-Not.ensures.ty
    ∙ laid_type c.args.self.now c.args.expr.now (Expr-F.Not c.in-Not.at c.get-in-Not.result.now) c.args.scope.now c.args.nodes.now
    (c.in-Not.is ∙ ap (λ (e : Expr). expr.Not c.in-Not.at e) (sym c.get-in-Not.ensures) ∙ sym (expr.rolls-Not c.in-Not.at c.get-in-Not.result.now))

pub form-returns-in_ok-begun-in-Not-clause-nodes : goal.form-returns-in_ok-begun-in-Not-clause-nodes
form-returns-in_ok-begun-in-Not-clause-nodes t c =
    one_table (node.Not) c.put-in-Not.new.nodes c.begin-in-Not.new.nodes (lay c.args.self.now c.get-in-Not.result.now c.args.scope.now (roomy c.args.nodes.now)).table c.args.nodes.now c.in_ok-begun-in-Not.begun.own c.in_ok-begun-in-Not.begun.part c.put-in-Not.ensures.nodes c.in_ok-begun-in-Not.ensures.nodes c.in_ok-begun-in-Not.ensures.own c.in_ok-begun-in-Not.ensures.part
    ∙ laid_table c.args.self.now c.args.expr.now (Expr-F.Not c.in-Not.at c.get-in-Not.result.now) c.args.scope.now c.args.nodes.now
    (c.in-Not.is ∙ ap (λ (e : Expr). expr.Not c.in-Not.at e) (sym c.get-in-Not.ensures) ∙ sym (expr.rolls-Not c.in-Not.at c.get-in-Not.result.now))

pub form-returns-in_ok-begun-in-Neg-clause-ty : goal.form-returns-in_ok-begun-in-Neg-clause-ty
form-returns-in_ok-begun-in-Neg-clause-ty t c =
    c.put-in-Neg.ensures.ty
    ∙ laid_type c.args.self.now c.args.expr.now (Expr-F.Neg c.in-Neg.at c.get-in-Neg.result.now) c.args.scope.now c.args.nodes.now
    (c.in-Neg.is ∙ ap (λ (e : Expr). expr.Neg c.in-Neg.at e) (sym c.get-in-Neg.ensures) ∙ sym (expr.rolls-Neg c.in-Neg.at c.get-in-Neg.result.now))

pub form-returns-in_ok-begun-in-Neg-clause-nodes : goal.form-returns-in_ok-begun-in-Neg-clause-nodes
form-returns-in_ok-begun-in-Neg-clause-nodes t c =
    one_table (node.Neg c.in-Neg.at) c.put-in-Neg.new.nodes c.begin-in-Neg.new.nodes (lay c.args.self.now c.get-in-Neg.result.now c.args.scope.now (roomy c.args.nodes.now)).table c.args.nodes.now c.in_ok-begun-in-Neg.begun.own c.in_ok-begun-in-Neg.begun.part c.put-in-Neg.ensures.nodes c.in_ok-begun-in-Neg.ensures.nodes c.in_ok-begun-in-Neg.ensures.own c.in_ok-begun-in-Neg.ensures.part
    ∙ laid_table c.args.self.now c.args.expr.now (Expr-F.Neg c.in-Neg.at c.get-in-Neg.result.now) c.args.scope.now c.args.nodes.now
    (c.in-Neg.is ∙ ap (λ (e : Expr). expr.Neg c.in-Neg.at e) (sym c.get-in-Neg.ensures) ∙ sym (expr.rolls-Neg c.in-Neg.at c.get-in-Neg.result.now))

pub form-returns-in_ok-found-in-If-clause-ty : goal.form-returns-in_ok-found-in-If-clause-ty
form-returns-in_ok-found-in-If-clause-ty t c =
    types c.args.self.now c.args.expr.now (Expr-F.If c.in-If.at c.as_slice-in-If.result.now c.get-in-If.result.now) c.args.scope.now c.args.nodes.now
    (c.in-If.is ∙ ap (λ (l : List ExprArm). expr.If c.in-If.at l c.in-If.other) (sym c.as_slice-in-If.ensures) ∙ ap (λ (e : Expr). expr.If c.in-If.at c.as_slice-in-If.result.now e) (sym c.get-in-If.ensures) ∙ sym (expr.rolls-If c.in-If.at c.as_slice-in-If.result.now c.get-in-If.result.now))
    c.last.result
    (if_type (map (lay_arm c.args.self.now) c.as_slice-in-If.result.now) (lay c.args.self.now c.get-in-If.result.now) c.args.scope.now c.arms.new.scope c.args.nodes.now c.room.new.nodes c.arms.new.nodes c.in_ok-own-in-If.own c.in_ok-found-in-If.found c.in_ok-own-in-If.ensures.nodes c.in_ok-found-in-If.ensures.scope c.in_ok-found-in-If.ensures.nodes c.last.result c.last.ensures.ty)

pub form-returns-in_ok-found-in-If-clause-nodes : goal.form-returns-in_ok-found-in-If-clause-nodes
form-returns-in_ok-found-in-If-clause-nodes t c =
    tables c.args.self.now c.args.expr.now (Expr-F.If c.in-If.at c.as_slice-in-If.result.now c.get-in-If.result.now) c.args.scope.now c.args.nodes.now
    (c.in-If.is ∙ ap (λ (l : List ExprArm). expr.If c.in-If.at l c.in-If.other) (sym c.as_slice-in-If.ensures) ∙ ap (λ (e : Expr). expr.If c.in-If.at c.as_slice-in-If.result.now e) (sym c.get-in-If.ensures) ∙ sym (expr.rolls-If c.in-If.at c.as_slice-in-If.result.now c.get-in-If.result.now))
    c.last.result c.last.new.nodes
    (if_table (map (lay_arm c.args.self.now) c.as_slice-in-If.result.now) (lay c.args.self.now c.get-in-If.result.now) c.args.scope.now c.arms.new.scope c.args.nodes.now c.room.new.nodes c.arms.new.nodes c.in_ok-own-in-If.own c.in_ok-found-in-If.found c.in_ok-own-in-If.ensures.nodes c.in_ok-found-in-If.ensures.scope c.in_ok-found-in-If.ensures.nodes c.last.result c.last.new.nodes c.in_ok-own-in-If.ensures.number c.in_ok-found-in-If.ensures.numbers c.last.ensures.nodes)

pub parts-loop-expr-preserved : goal.parts-loop-expr-preserved
parts-loop-expr-preserved t c = (
  next_all c.args.exprs.now c.loop-expr.expr-index c.expr-item.result c.loop-expr-test.true c.expr-item.is (lay c.args.self.now) c.loop-expr.scope c.expr.new.scope c.loop-expr.nodes c.expr.new.nodes c.in_ok-laid.ensures.scope c.in_ok-laid.ensures.nodes ∙ c.loop-expr.invariant.0,
  next_numbers c.args.exprs.now c.loop-expr.expr-index c.expr-item.result c.loop-expr-test.true c.expr-item.is (lay c.args.self.now) c.loop-expr.scope c.expr.new.scope c.loop-expr.nodes c.expr.new.nodes c.in_ok-laid.ensures.scope c.in_ok-laid.ensures.nodes c.loop-expr.numbers c.push.new.self c.in_ok-laid.laid.number c.in_ok-push.ensures.ok c.in_ok-laid.ensures.number ∙ c.loop-expr.invariant.1,
  next_head c.args.exprs.now c.loop-expr.expr-index c.expr-item.result c.loop-expr-test.true c.expr-item.is (lay c.args.self.now) c.loop-expr.scope c.expr.new.scope c.loop-expr.nodes c.expr.new.nodes c.in_ok-laid.ensures.scope c.in_ok-laid.ensures.nodes c.loop-expr.first c.kept-first.result c.in_ok-laid.laid.ty c.kept-first.ensures c.in_ok-laid.ensures.ty ∙ c.loop-expr.invariant.2,
  c.in_ok-laid.ensures.scope ∙ c.loop-expr.invariant.3,
)

pub sets-loop-set-preserved : goal.sets-loop-set-preserved
sets-loop-set-preserved t c = (
  next_all c.args.sets.now c.loop-set.set-index c.set-item.result c.loop-set-test.true c.set-item.is (lay_set c.args.self.now) c.loop-set.scope c.expr.new.scope c.loop-set.nodes c.expr.new.nodes c.in_ok-laid.ensures.scope (c.in_ok-laid.ensures.nodes ∙ ap (λ (l : Lay). (l c.loop-set.scope c.loop-set.nodes).table) (sym (set_is c.args.self.now c.set-item.result))) ∙ c.loop-set.invariant.0,
  next_numbers c.args.sets.now c.loop-set.set-index c.set-item.result c.loop-set-test.true c.set-item.is (lay_set c.args.self.now) c.loop-set.scope c.expr.new.scope c.loop-set.nodes c.expr.new.nodes c.in_ok-laid.ensures.scope (c.in_ok-laid.ensures.nodes ∙ ap (λ (l : Lay). (l c.loop-set.scope c.loop-set.nodes).table) (sym (set_is c.args.self.now c.set-item.result))) c.loop-set.found c.push.new.self c.in_ok-laid.laid.number c.in_ok-push.ensures.ok c.in_ok-laid.ensures.number ∙ c.loop-set.invariant.1,
  c.in_ok-laid.ensures.scope ∙ c.loop-set.invariant.2,
)

pub arms-loop-arm-preserved : goal.arms-loop-arm-preserved
arms-loop-arm-preserved t c = (
  next_arms c.args.arms.now c.loop-arm.arm-index c.arm-item.result c.loop-arm-test.true c.arm-item.is (lay_arm c.args.self.now) c.loop-arm.scope c.arm.new.scope c.loop-arm.nodes c.arm.new.nodes c.in_ok-arm.ensures.scope c.in_ok-arm.ensures.nodes ∙ c.loop-arm.invariant.0,
  next_arm_numbers c.args.arms.now c.loop-arm.arm-index c.arm-item.result c.loop-arm-test.true c.arm-item.is (lay_arm c.args.self.now) c.loop-arm.scope c.arm.new.scope c.loop-arm.nodes c.arm.new.nodes c.in_ok-arm.ensures.scope c.in_ok-arm.ensures.nodes c.loop-arm.found c.push.new.self c.in_ok-arm.field-0 c.in_ok-push.ensures.ok c.in_ok-arm.ensures.numbers ∙ c.loop-arm.invariant.1,
  c.in_ok-arm.ensures.scope ∙ c.loop-arm.invariant.2,
)

pub tails-loop-link-preserved : goal.tails-loop-link-preserved
tails-loop-link-preserved t c = (
  next_links c.args.links.now c.loop-link.link-index c.link-item.result c.loop-link-test.true c.link-item.is (λ (l : List Tail). words_of c.args.which (map (lay_tail c.args.self.now) l)) (lay_tail c.args.self.now c.link-item.result c.args.which) refl c.loop-link.left.ty c.in_ok-left.left.ty c.loop-link.scope c.tail.new.scope c.loop-link.left.number.0 c.in_ok-left.left.number.0 c.loop-link.nodes c.tail.new.nodes c.in_ok-left.ensures.scope c.in_ok-left.ensures.ty (ap (λ (n : ExprId). n.0) c.in_ok-left.ensures.number) c.in_ok-left.ensures.nodes ∙ c.loop-link.invariant.0,
  omega (arith, ap (λ (n : ExprId). n.0) c.in_ok-left.ensures.number, c.loop-link.invariant.1),
  c.in_ok-left.ensures.scope ∙ c.loop-link.invariant.2,
)

pub sign_tails-loop-link-preserved : goal.sign_tails-loop-link-preserved
sign_tails-loop-link-preserved t c = (
  next_links c.args.links.now c.loop-link.link-index c.link-item.result c.loop-link-test.true c.link-item.is (λ (l : List SignTail). map (lay_sign_tail c.args.self.now) l) (lay_sign_tail c.args.self.now c.link-item.result) refl c.loop-link.left.ty c.in_ok-left.left.ty c.loop-link.scope c.sign_tail.new.scope c.loop-link.left.number.0 c.in_ok-left.left.number.0 c.loop-link.nodes c.sign_tail.new.nodes c.in_ok-left.ensures.scope c.in_ok-left.ensures.ty (ap (λ (n : ExprId). n.0) c.in_ok-left.ensures.number) c.in_ok-left.ensures.nodes ∙ c.loop-link.invariant.0,
  omega (arith, ap (λ (n : ExprId). n.0) c.in_ok-left.ensures.number, c.loop-link.invariant.1),
  c.in_ok-left.ensures.scope ∙ c.loop-link.invariant.2,
)

pub suffixes-loop-link-preserved : goal.suffixes-loop-link-preserved
suffixes-loop-link-preserved t c = (
  next_links c.args.links.now c.loop-link.link-index c.link-item.result c.loop-link-test.true c.link-item.is (λ (l : List Suffix). map (lay_suffix c.args.self.now) l) (lay_suffix c.args.self.now c.link-item.result) refl c.loop-link.left.ty c.in_ok-left.left.ty c.loop-link.scope c.suffix.new.scope c.loop-link.left.number.0 c.in_ok-left.left.number.0 c.loop-link.nodes c.suffix.new.nodes c.in_ok-left.ensures.scope c.in_ok-left.ensures.ty (ap (λ (n : ExprId). n.0) c.in_ok-left.ensures.number) c.in_ok-left.ensures.nodes ∙ c.loop-link.invariant.0,
  omega (arith, ap (λ (n : ExprId). n.0) c.in_ok-left.ensures.number, c.loop-link.invariant.1),
  c.in_ok-left.ensures.scope ∙ c.loop-link.invariant.2,
)

pub tail-returns-clause-ty : goal.tail-returns-clause-ty
tail-returns-clause-ty t c = c.put.ensures.ty ∙ sym (ap (λ (laid : Laid). laid.ty) (tail_is c.args.self.now c.args.left.ty c.args.scope.now c.args.left.number.0 c.args.nodes.now c.args.tail.now c.args.which))

pub tail-returns-clause-nodes : goal.tail-returns-clause-nodes
tail-returns-clause-nodes t c =
    joined c.put.new.nodes c.expr.new.nodes (lay c.args.self.now c.args.tail.now.value c.args.scope.now c.args.nodes.now).table c.args.nodes.now (c.args.left.number.0 - 1) (expr_id c.args.left.number.0) c.in_ok-part.part.number (node.Binary c.args.which c.args.tail.now.at) c.put.ensures.nodes c.in_ok-part.ensures.nodes c.in_ok-part.ensures.number
    ∙ sym (ap (λ (laid : Laid). laid.table) (tail_is c.args.self.now c.args.left.ty c.args.scope.now c.args.left.number.0 c.args.nodes.now c.args.tail.now c.args.which))

pub sign_tail-returns-clause-ty : goal.sign_tail-returns-clause-ty
sign_tail-returns-clause-ty t c = c.put.ensures.ty ∙ sym (ap (λ (laid : Laid). laid.ty) (sign_tail_is c.args.self.now c.args.left.ty c.args.scope.now c.args.left.number.0 c.args.nodes.now c.args.tail.now))

pub sign_tail-returns-clause-nodes : goal.sign_tail-returns-clause-nodes
sign_tail-returns-clause-nodes t c =
    joined c.put.new.nodes c.expr.new.nodes (lay c.args.self.now c.args.tail.now.value c.args.scope.now c.args.nodes.now).table c.args.nodes.now (c.args.left.number.0 - 1) (expr_id c.args.left.number.0) c.in_ok-part.part.number (node.Binary (sign_binary c.args.tail.now.sign) c.args.tail.now.at) (c.put.ensures.nodes ∙ ap (λ (b : Binary). slice_set c.expr.new.nodes (c.args.left.number.0 - 1) (node.Binary b c.args.tail.now.at (expr_id c.args.left.number.0) c.in_ok-part.part.number)) c.sign_binary.ensures) c.in_ok-part.ensures.nodes c.in_ok-part.ensures.number
    ∙ sym (ap (λ (laid : Laid). laid.table) (sign_tail_is c.args.self.now c.args.left.ty c.args.scope.now c.args.left.number.0 c.args.nodes.now c.args.tail.now))

pub arm-returns-clause-numbers : goal.arm-returns-clause-numbers
arm-returns-clause-numbers t c =
    ap (λ (e : ExprId). the_arm e c.in_ok-own.own.number) c.in_ok-test.ensures.number
    ∙ ap (the_arm (expr_id (length c.args.nodes.now))) (c.in_ok-own.ensures.number ∙ ap (λ (t : Table). expr_id (length t)) c.in_ok-test.ensures.nodes)
    ∙ sym (ap (λ (own : Arm). the_arm (expr_id (length c.args.nodes.now)) (expr_id (length (own.cond c.args.scope.now c.args.nodes.now).table))) (arm_is c.args.self.now c.args.arm.now))

pub arm-returns-clause-nodes : goal.arm-returns-clause-nodes
arm-returns-clause-nodes t c =
    c.in_ok-own.ensures.nodes
    ∙ ap (λ (s : Scope). (lay c.args.self.now c.args.arm.now.value s c.expr.new.nodes).table) c.in_ok-test.ensures.scope
    ∙ ap (λ (t : Table). (lay c.args.self.now c.args.arm.now.value c.args.scope.now t).table) c.in_ok-test.ensures.nodes
    ∙ sym (ap (λ (own : Arm). (own.value c.args.scope.now (own.cond c.args.scope.now c.args.nodes.now).table).table) (arm_is c.args.self.now c.args.arm.now))
