-- What the rules say of small texts, computed: above each stands its text, and what is wrong with it, with line and
-- column. Many more stand with their verdicts in the tables of `dsde_test_cases`.
use Rattle.std.proofs.Common.{◌≡◌, ℕ, true, false, List, [], ◌∷◌, Some, None, rules}
use Rattle.std.specs.Prelude.{codes}
use Rattle.dsde_syntax.specs.given.words.key_Key_TheVariants as key
use Rattle.dsde_syntax.specs.declared.id.Id.{Id}
use Rattle.dsde_syntax.specs.declared.type_name.TypeName.TheVariants as type_name
use Rattle.dsde_syntax.specs.declared.expr.Expr.TheVariants as expr
use Rattle.dsde_syntax.specs.declared.expr.Suffix.TheVariants as suffix
use Rattle.dsde_syntax.specs.declared.stmt.Stmt.TheVariants as stmt
use Rattle.dsde_syntax.specs.declared.decl.Decl.TheVariants as decl
use Rattle.dsde_syntax.specs.declared.expr.Expr.TheFolds as efold
use Rattle.dsde_syntax.specs.declared.type_name.TypeName.TheFolds as tfold
use Rattle.dsde_syntax.specs.declared.item.Item.TheFolds as ifold
use Rattle.dsde_syntax.specs.declared.stmt.Stmt.TheFolds as sfold
use Rattle.dsde_values.specs.declared.types.Ty.TheFolds as yfold
use Rattle.dsde_language.specs.declared.wrong.WrongKind.TheVariants.{Duplicate, Unknown, WrongType, NoExternal, NoTop, BadLink}
use Rattle.dsde_language.specs.Types.{same, depth_of}
use Rattle.dsde_language.specs.Rules.{first_wrong}
use Rattle.dsde_syntax.specs.declared.item.Item.TheVariants as item
use Rattle.dsde_syntax.specs.declared.item.EndPart.TheVariants as end_part

-- an identifier at a place
id : List ℕ → ℕ → Id
id name at = record { name = name; at = at }

-- enum A { x, x } top A();
-- Duplicate 1:13
text0 : first_wrong (record { decls = ((decl.Enum (id (codes "A") 1) ((id (codes "x") 3) ∷ (id (codes "x") 5) ∷ [])) ∷ (decl.Top 7 (id (codes "A") 8) ([])) ∷ []) }) ≡ Some record { kind = Duplicate; at = 5 }
unfolding id same depth_of
text0 = search (rules, efold.the_lemmas, tfold.the_lemmas, ifold.the_lemmas, sfold.the_lemmas, yfold.the_lemmas)

-- atomic A() { advance 5; } top A();
-- WrongType 1:22
text1 : first_wrong (record { decls = ((decl.Atomic 0 (id (codes "A") 1) ([]) (record { ports = ([]); states = ([]); advance_at = 5; advance = (expr.Number 6 5); output = None; internal = None; external = None; confluent = None })) ∷ (decl.Top 9 (id (codes "A") 10) ([])) ∷ []) }) ≡ Some record { kind = WrongType; at = 6 }
unfolding id same depth_of
text1 = search (rules, efold.the_lemmas, tfold.the_lemmas, ifold.the_lemmas, sfold.the_lemmas, yfold.the_lemmas)

-- atomic A() { in x: int; advance none<int>; } top A();
-- NoExternal 1:1
text2 : first_wrong (record { decls = ((decl.Atomic 0 (id (codes "A") 1) ([]) (record { ports = ((record { out = false; name = (id (codes "x") 6); ty = (type_name.Int 8) }) ∷ []); states = ([]); advance_at = 10; advance = (expr.NoneOf 11 (type_name.Int 13)); output = None; internal = None; external = None; confluent = None })) ∷ (decl.Top 17 (id (codes "A") 18) ([])) ∷ []) }) ≡ Some record { kind = NoExternal; at = 0 }
unfolding id same depth_of
text2 = search (rules, efold.the_lemmas, tfold.the_lemmas, ifold.the_lemmas, sfold.the_lemmas, yfold.the_lemmas)

-- (no text)
-- NoTop 1:1
text3 : first_wrong (record { decls = ([]) }) ≡ Some record { kind = NoTop; at = 0 }
unfolding id same depth_of
text3 = search (rules, efold.the_lemmas, tfold.the_lemmas, ifold.the_lemmas, sfold.the_lemmas, yfold.the_lemmas)

-- record R { a: R } top A();
-- Unknown 1:15
text4 : first_wrong (record { decls = ((decl.Rec (id (codes "R") 1) ((record { name = (id (codes "a") 3); ty = (type_name.Named (id (codes "R") 5)) }) ∷ [])) ∷ (decl.Top 7 (id (codes "A") 8) ([])) ∷ []) }) ≡ Some record { kind = Unknown; at = 5 }
unfolding id same depth_of
text4 = search (rules, efold.the_lemmas, tfold.the_lemmas, ifold.the_lemmas, sfold.the_lemmas, yfold.the_lemmas)

-- fn f() -> int { let x = 1; let x = 2; return x; } top A();
-- Duplicate 1:32
text5 : first_wrong (record { decls = ((decl.Func (id (codes "f") 1) ([]) (type_name.Int 5) ((stmt.Let false (id (codes "x") 8) (expr.Number 10 1)) ∷ (stmt.Let false (id (codes "x") 13) (expr.Number 15 2)) ∷ []) (expr.Name (id (codes "x") 18))) ∷ (decl.Top 21 (id (codes "A") 22) ([])) ∷ []) }) ≡ Some record { kind = Duplicate; at = 13 }
unfolding id same depth_of
text5 = search (rules, efold.the_lemmas, tfold.the_lemmas, ifold.the_lemmas, sfold.the_lemmas, yfold.the_lemmas)

-- fn f() -> int { for x in [1] { let y = x; } return y; } top A();
-- Unknown 1:52
text6 : first_wrong (record { decls = ((decl.Func (id (codes "f") 1) ([]) (type_name.Int 5) ((stmt.For (id (codes "x") 8) (expr.List 10 ((expr.Number 11 1) ∷ [])) ((stmt.Let false (id (codes "y") 15) (expr.Name (id (codes "x") 17))) ∷ [])) ∷ []) (expr.Name (id (codes "y") 21))) ∷ (decl.Top 24 (id (codes "A") 25) ([])) ∷ []) }) ≡ Some record { kind = Unknown; at = 21 }
unfolding id same depth_of
text6 = search (rules, efold.the_lemmas, tfold.the_lemmas, ifold.the_lemmas, sfold.the_lemmas, yfold.the_lemmas)

-- enum E { a } fn f() -> E { return E::b; } top A();
-- Unknown 1:38
text7 : first_wrong (record { decls = ((decl.Enum (id (codes "E") 1) ((id (codes "a") 3) ∷ [])) ∷ (decl.Func (id (codes "f") 6) ([]) (type_name.Named (id (codes "E") 10)) ([]) (expr.Variant (id (codes "E") 13) (id (codes "b") 15))) ∷ (decl.Top 18 (id (codes "A") 19) ([])) ∷ []) }) ≡ Some record { kind = Unknown; at = 15 }
unfolding id same depth_of
text7 = search (rules, efold.the_lemmas, tfold.the_lemmas, ifold.the_lemmas, sfold.the_lemmas, yfold.the_lemmas)

-- network N() { in a: int; out b: int; exec { advance none<int>; structure { link net.a -> net.b; } } } top N();
-- BadLink 1:76
text8 : first_wrong (record { decls = ((decl.Network 0 (id (codes "N") 1) ([]) ((record { out = false; name = (id (codes "a") 6); ty = (type_name.Int 8) }) ∷ (record { out = true; name = (id (codes "b") 11); ty = (type_name.Int 13) }) ∷ []) 15 (record { ports = ([]); states = ([]); advance_at = 17; advance = (expr.NoneOf 18 (type_name.Int 20)); output = None; internal = None; external = None; confluent = None }) ((item.Link 25 (record { part = end_part.Net; port = (id (codes "a") 28) }) (record { part = end_part.Net; port = (id (codes "b") 32) }) None) ∷ [])) ∷ (decl.Top 37 (id (codes "N") 38) ([])) ∷ []) }) ≡ Some record { kind = BadLink; at = 25 }
unfolding id same depth_of
text8 = search (rules, efold.the_lemmas, tfold.the_lemmas, ifold.the_lemmas, sfold.the_lemmas, yfold.the_lemmas)

-- network N() { exec { advance none<int>; structure { comp a is A(); link a.o -> a.i via (v) => some(v.y); } } } record R { x: int } atomic A() { in i: int; out o: R; advance none<int>; external { } } top N();
-- Unknown 1:102
text9 : first_wrong (record { decls = ((decl.Network 0 (id (codes "N") 1) ([]) ([]) 5 (record { ports = ([]); states = ([]); advance_at = 7; advance = (expr.NoneOf 8 (type_name.Int 10)); output = None; internal = None; external = None; confluent = None }) ((item.Comp 15 (id (codes "a") 16) None false (id (codes "A") 18) ([])) ∷ (item.Link 22 (record { part = (end_part.Kid (id (codes "a") 23) None); port = (id (codes "o") 25) }) (record { part = (end_part.Kid (id (codes "a") 27) None); port = (id (codes "i") 29) }) (Some (record { value = (id (codes "v") 32); key = None; body = (expr.Builtin key.SomeOf 35 ((expr.Post (expr.Name (id (codes "v") 37)) ((suffix.Field 38 (id (codes "y") 39)) ∷ [])) ∷ [])) }))) ∷ [])) ∷ (decl.Rec (id (codes "R") 46) ((record { name = (id (codes "x") 48); ty = (type_name.Int 50) }) ∷ [])) ∷ (decl.Atomic 52 (id (codes "A") 53) ([]) (record { ports = ((record { out = false; name = (id (codes "i") 58); ty = (type_name.Int 60) }) ∷ (record { out = true; name = (id (codes "o") 63); ty = (type_name.Named (id (codes "R") 65)) }) ∷ []); states = ([]); advance_at = 67; advance = (expr.NoneOf 68 (type_name.Int 70)); output = None; internal = None; external = (Some (record { at = 73; stmts = ([]) })); confluent = None })) ∷ (decl.Top 77 (id (codes "N") 78) ([])) ∷ []) }) ≡ Some record { kind = Unknown; at = 39 }
unfolding id same depth_of
text9 = search (rules, efold.the_lemmas, tfold.the_lemmas, ifold.the_lemmas, sfold.the_lemmas, yfold.the_lemmas)
