-- The large model: many workers of which one moves at a time, and a pair of components that is replaced again and again.
use Rattle.std.specs.Prelude.{ℕ, ◌≤◌, ◌+◌, ◌*◌, ◌%◌, List, ◌++◌, length, codes, decimal}

-- a worker: it sends first when its turn comes, and then each time that all have had theirs
abbrev pub worker_text : List ℕ
worker_text = codes "atomic W(i: int, c: int) {\n  out o: int;\n  state k: int = 0;\n  advance some(if k == 0 { i + 1 } else { c });\n  output { send o(i); }\n  internal { k = k + 1; }\n}\n"

-- a component that is due too late to send anything in a short run
abbrev pub late_text : List ℕ
late_text = codes "atomic Late(n: int) {\n  out o: int;\n  advance some(1000000);\n  output { send o(n); }\n}\n"

-- two of those
abbrev pub pair_text : List ℕ
pair_text = codes "network Pair(n: int) {\n  out o: int;\n  exec {\n    advance none<int>;\n    structure { comp a is Late(n); comp b is Late(n); link b.o -> net.o; }\n  }\n}\n"

-- a network that drops such a pair and starts another, again and again
abbrev pub churn_text : List ℕ
churn_text = codes "network Churn(p: int) {\n  out o: int;\n  exec {\n    state n: int = 0;\n    advance some(p);\n    internal { n = n + 1; }\n    structure { comp sub is Pair(n); link sub.o -> net.o; }\n  }\n}\n"

-- all workers
abbrev pub farm_text : List ℕ
farm_text = codes "network Farm(c: int) {\n  out o: int;\n  exec {\n    advance none<int>;\n    structure { for i in range(0, c) { comp w[i] is W(i, c); link w[i].o -> net.o; } }\n  }\n}\n"

-- both
abbrev pub root_text : List ℕ
root_text = codes "network Big(c: int, p: int) {\n  out o: int;\n  exec {\n    advance none<int>;\n    structure {\n      comp churn is Churn(p);\n      comp farm is Farm(c);\n      link churn.o -> net.o;\n      link farm.o -> net.o;\n    }\n  }\n}\n"

-- what the models of all seeds declare
unfoldable pub declarations : List ℕ
declarations = worker_text ++ late_text ++ pair_text ++ churn_text ++ farm_text ++ root_text

-- how many workers there are, and after how long the pair is replaced
abbrev pub workers : ℕ → ℕ
workers seed = 1000 * (1 + seed % 60)

abbrev pub period : ℕ → ℕ
period seed = 2 + seed % 8

-- the text of the model of a seed
abbrev pub big_text : ℕ → List ℕ
big_text seed = declarations ++ codes "top Big(" ++ decimal (workers seed) ++ codes ", " ++ decimal (period seed) ++ codes ");\n"

-- The text of each model is short.
abbrev pub AreShort : Type 0
AreShort = (seed : ℕ) → length (big_text seed) ≤ 4096
