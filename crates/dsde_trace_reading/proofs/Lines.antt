-- The line of an event is its word, and what stands behind it.
use Rattle.std.proofs.Common.{◌≡◌, ℕ, List, ◌∷◌, ◌++◌, refl, sym, ◌∙◌, ap, codes, decimal, append_assoc}
use Rattle.dsde_syntax.specs.declared.decl.Model.{Model}
use Rattle.dsde_values.specs.Path.{path_text}
use Rattle.dsde_values.specs.Value.{field_texts, joined, spelling}
use Rattle.dsde_values.specs.declared.types.Field.{Field}
use Rattle.dsde_values.specs.declared.types.Types.{Types}
use Rattle.dsde_values.specs.declared.value.Value.{Value}
use Rattle.dsde_values.specs.declared.when.When.{When}
use Rattle.dsde_values.specs.declared.when.When.TheVariants.{At, Never}
use Rattle.std.specs.Prelude.{map}
use Rattle.dsde_language.specs.DeclaredModels.{top_outs, types_of}
use Rattle.dsde_sim_tree.specs.declared.event.Event.{Event}
use Rattle.dsde_sim_tree.specs.declared.event.Event.TheVariants.{AddNet, AddLeaf, Turn, Out, Get, Move, Drop, Finish}
use Rattle.dsde_sim_tree.specs.declared.event.Finish as finish
use Rattle.dsde_sim_tree.specs.declared.event.Finish.TheVariants as how
use Rattle.dsde_trace.specs.Text as trace
use Rattle.dsde_trace.specs.Text.{event_text, finish_text, input_text, ins_at, kind_text, model_text, move_text, port_text, site_text, states_at}
use Rattle.dsde_trace_words.specs.Words.{passed_text, settled_text, when_text}
use Rattle.dsde_trace_reading.specs.Parts.{closing_text, end_text, line_text}

three : (a b c z : List ℕ) → ((a ++ b) ++ c) ++ z ≡ (a ++ (b ++ c)) ++ z
three a b c z = simp append_assoc

four : (a b c d z : List ℕ) → (((a ++ b) ++ c) ++ d) ++ z ≡ (a ++ (b ++ (c ++ d))) ++ z
four a b c d z = simp append_assoc

right : (a b c d z : List ℕ) → (((a ++ b) ++ c) ++ d) ++ z ≡ a ++ (b ++ (c ++ (d ++ z)))
right a b c d z = simp append_assoc

get_parts : (a b c d z : List ℕ) → ((a ++ b) ++ c) ++ (d ++ z) ≡ (a ++ (b ++ (c ++ d))) ++ z
get_parts a b c d z = simp append_assoc

leaf_parts : (a b c d e z : List ℕ) → (((a ++ b) ++ c) ++ d) ++ (e ++ z) ≡ (a ++ (b ++ (c ++ (d ++ e)))) ++ z
leaf_parts a b c d e z = simp append_assoc

six : (a b c d e f z : List ℕ) → (((((a ++ b) ++ c) ++ d) ++ e) ++ f) ++ z ≡ (a ++ (b ++ (c ++ (d ++ (e ++ f))))) ++ z
six a b c d e f z = simp append_assoc

state_parts : (s o j q n w z : List ℕ) → (((s ++ ((o ++ j) ++ q)) ++ n) ++ w) ++ z ≡ (s ++ (o ++ ((j ++ q) ++ (n ++ w)))) ++ z
state_parts s o j q n w z = simp append_assoc

fault_parts : (f p s1 s s2 k s3 l c n z : List ℕ) →
    (f ++ ((((((((p ++ s1) ++ s) ++ s2) ++ k) ++ s3) ++ l) ++ c) ++ n)) ++ z ≡ f ++ (p ++ (s1 ++ (s ++ (s2 ++ (k ++ (s3 ++ ((l ++ (c ++ n)) ++ z)))))))
fault_parts f p s1 s s2 k s3 l c n z = simp append_assoc

when-is : (next : When) → trace.when_text next ≡ when_text next
when-is (At time) = refl
when-is Never = refl

settled-is : (states : List Field) (types : Types) (state : List Value) (next : When) →
    trace.settled_text states types state next ≡ (32 ∷ settled_text states types (state, next)) ++ codes "\n"
unfolding trace.settled_text
settled-is states types state next =
    ap (λ when. codes " " ++ trace.state_text states types state ++ codes " next " ++ when ++ codes "\n") (when-is next)
    ∙ state_parts (codes " ") (codes "{") (joined (field_texts states (map (spelling types) state))) (codes "}") (codes " next ") (when_text next) (codes "\n")

passed-is : (ports : List Field) (types : Types) (port : ℕ) (value : Value) → trace.passed_text ports types port value ≡ passed_text ports types (port, value) ++ codes "\n"
unfolding trace.passed_text
passed-is ports types port value = three (port_text ports port) (codes " ") (spelling types value) (codes "\n")

end-is : (end : finish.Finish) (times : ℕ × ℕ) → finish_text end ++ 32 ∷ closing_text times ≡ end_text (end, times)
end-is how.Bound times = refl
end-is how.Quiet times = refl
end-is (how.Input kind line) times = right (codes "input ") (input_text kind) (codes " ") (decimal line) (32 ∷ closing_text times)
end-is (how.Fault fault) times =
    fault_parts (codes "fault ") (path_text fault.path) (codes " ") (site_text fault.site) (codes " ") (kind_text fault.kind) (codes " ")
    (decimal fault.line) (codes ":") (decimal fault.column) (32 ∷ closing_text times)

pub line-is : (model : Model) (event : Event) → event_text model event ≡ line_text model event ++ codes "\n"
line-is model (AddNet path number) = four (codes "add ") (path_text path) (codes " ") (model_text model number) (codes "\n")
line-is model (AddLeaf path number state next) =
    ap (λ rest. codes "add " ++ path_text path ++ codes " " ++ model_text model number ++ rest) (settled-is (states_at model number) (types_of model) state next)
    ∙ leaf_parts (codes "add ") (path_text path) (codes " ") (model_text model number) (32 ∷ settled_text (states_at model number) (types_of model) (state, next)) (codes "\n")
line-is model (Turn number time) = four (codes "turn ") (decimal number) (codes " at ") (decimal time) (codes "\n")
line-is model (Out port value) =
    ap (λ rest. codes "out root " ++ rest) (passed-is (top_outs model) (types_of model) port value)
    ∙ sym (append_assoc (codes "out root ") (passed_text (top_outs model) (types_of model) (port, value)) (codes "\n"))
line-is model (Get path number port value) =
    ap (λ rest. codes "get " ++ path_text path ++ codes " " ++ rest) (passed-is (ins_at model number) (types_of model) port value)
    ∙ get_parts (codes "get ") (path_text path) (codes " ") (passed_text (ins_at model number) (types_of model) (port, value)) (codes "\n")
line-is model (Move path number kind state next) =
    ap (λ rest. codes "move " ++ path_text path ++ codes " " ++ move_text kind ++ rest) (settled-is (states_at model number) (types_of model) state next)
    ∙ leaf_parts (codes "move ") (path_text path) (codes " ") (move_text kind) (32 ∷ settled_text (states_at model number) (types_of model) (state, next)) (codes "\n")
line-is model (Drop path count) = four (codes "drop ") (path_text path) (codes " ") (decimal count) (codes "\n")
line-is model (Finish end turns time) =
    six (codes "end ") (finish_text end) (codes " turns ") (decimal turns) (codes " at ") (decimal time) (codes "\n")
    ∙ ap (λ rest. (codes "end " ++ rest) ++ codes "\n") (end-is end (turns, time))
